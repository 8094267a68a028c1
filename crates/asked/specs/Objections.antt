-- The objections of request E10, by number and place, and the verdict over all of them. n sound triangles; same: the corners at two rows are welded; any, way: of a triangle, whether it is `group_with_any` and its orientation in step 3; L, G, O the words handed in. Definitions only.
use Rattle.std.specs.Prelude.{ℕ, zero, suc, ◌*◌, ◌<◌, ◌≡◌, Bool, true, false, List, eqb, length}
use Rattle.asked.specs.Lowest.{Verdict}
use Rattle.asked.specs.Links.{Equal, Wide, Crooked, OneSided, LeftOver}
use Rattle.asked.specs.Groups.{way_word, NoFlag, Turned, Loose, Unlike, Parted, Severed}

-- 1: a list is not as long as it must be; the place says which: 0 links, 1 groups, 2 orientations
abbrev pub Misfit : ℕ → List ℕ → List ℕ → List ℕ → ℕ → Type 0
Misfit n L G O zero = length L ≡ 3 * n → ⊥
Misfit n L G O (suc zero) = length G ≡ 3 * n → ⊥
Misfit n L G O (suc (suc zero)) = length O ≡ n → ⊥
Misfit n L G O (suc (suc (suc p))) = ⊥

-- the first where the test holds, and else the second
abbrev pub When : Bool → Type 0 → Type 0 → Type 0
When true A B = A
When false A B = B

-- objection k applies at place p
abbrev pub Applies : ℕ → (ℕ → ℕ → Type 0) → (ℕ → ℕ) → (ℕ → ℕ) → List ℕ → List ℕ → List ℕ → ℕ → ℕ → Type 0
Applies n same any way L G O k p =
    When (eqb k 1) (Misfit n L G O p)
    (When (eqb k 2) ((p < 3 * n) × Wide (3 * n) L p)
    (When (eqb k 3) ((p < 3 * n) × Crooked (3 * n) same L p)
    (When (eqb k 4) ((p < 3 * n) × OneSided L p)
    (When (eqb k 5) ((p < 3 * n) × LeftOver (3 * n) same L p)
    (When (eqb k 6) ((p < n) × NoFlag O p)
    (When (eqb k 7) ((p < n) × Turned any way O p)
    (When (eqb k 8) ((p < 3 * n) × Loose any G p)
    (When (eqb k 9) ((p < 3 * n) × Unlike same G p)
    (When (eqb k 10) ((p < 3 * n) × Unlike (Equal (way_word O)) G p)
    (When (eqb k 11) ((p < 3 * n) × Parted n any L G O p)
    (When (eqb k 12) ((p < 3 * n) × Severed n L G p)
    ⊥)))))))))))

-- the verdict on three lists: the first objection that applies, at its lowest place
abbrev pub Decided : ℕ → (ℕ → ℕ → Type 0) → (ℕ → ℕ) → (ℕ → ℕ) → List ℕ → List ℕ → List ℕ → ℕ → ℕ → Type 0
Decided n same any way L G O number place = Verdict (Applies n same any way L G O) 13 number place
