-- Objections 6 to 12, one after the other. Assumes nothing.
use Prim.Native.Nat.{ℕ, ◌*◌, ◌≤◌, ◌<◌}
use native.Mathlib.Omega.{arith}
use mathlib.Core.Path.{◌≡◌, refl, sym, ◌∙◌}
use mathlib.Core.Bool.{true}
use mathlib.Core.List.{List}
use Rattle.std.proofs.Common.{Result, Ok, Err, OnOk}
use Rattle.table.specs.Table.{cell}
use Rattle.table.specs.Columns.{orientation_column, any_column, vertex_column}
use Rattle.view.specs.Frame.{Only, outside}
use Rattle.view.proofs.Frame.{cell-kept}
use Rattle.asked.specs.Lowest.{None, Clear, Stage}
use Rattle.asked.specs.Links.{Equal, Wide, LinksFit}
use Rattle.asked.specs.Groups.{NoFlag, Turned, Loose, Unlike, Parted, Severed, Connected}
use Rattle.asked.proofs.Fits.{same-unless, clear-links}
use Rattle.asked.proofs.Likes.{applies-like}
use Rattle.asked.proofs.Stages.{stage-like, clear-like}
use Rattle.examiner.specs.declared.Fault.TheVariants as fault
use Rattle.examiner.specs.declared.Objection.{Objection}
use Rattle.examiner.specs.Said.{number_of, number_in, place_in, Refuses}
use Rattle.examiner.proofs.Finding.{numbered, stage-of, stage-ok, stage-err}
use Rattle.fellows.specs.declared.Shared.TheVariants.{Vertex, Way}
use Rattle.fellows.specs.Fellows.{shared, applies_here, Words, Beside, OnGroups}

-- ---- 6 to 8
module _ (rows n : ℕ) (w G O : List ℕ) where
  abbrev any : ℕ → ℕ
  any t = cell rows any_column t w

  abbrev way : ℕ → ℕ
  way t = cell rows orientation_column t w

  abbrev T : List ℕ → ℕ → ℕ → Type 0
  T L = applies_here rows n w L G O

  module _ (a : Result Unit Objection) (N : Refuses fault.NoFlag (NoFlag O) n a) where
    no-flag : (L : List ℕ) → Stage (T L) 13 6 7 (number_in a) (place_in a)
    no-flag L = stage-of (T L) 13 6 n fault.NoFlag (NoFlag O) a refl (omega arith) (λ q x. x) (λ q x. x) N

    pub on-no-flag : (o : Objection) → a ≡ Err o → Words rows n w G O (number_of o.fault) o.place
    on-no-flag o e = record { stage = λ L. stage-err (T L) 13 6 7 9 a o e (no-flag L) }

    module _ (x : Unit) (d : a ≡ Ok x) (b : Result Unit Objection) (K : Refuses fault.Turned (Turned any way O) n b) where
      turned : (L : List ℕ) → Stage (T L) 13 6 8 (number_in b) (place_in b)
      turned L = stage-ok (T L) 13 6 7 8 a x _ _ d (no-flag L) (stage-of (T L) 13 7 n fault.Turned (Turned any way O) b refl (omega arith) (λ q y. y) (λ q y. y) K)

      pub on-turned : (o : Objection) → b ≡ Err o → Words rows n w G O (number_of o.fault) o.place
      on-turned o e = record { stage = λ L. stage-err (T L) 13 6 8 9 b o e (turned L) }

      pub on-loose : (y : Unit) → b ≡ Ok y → (c : Result Unit Objection) → Refuses fault.Loose (Loose any G) (3 * n) c → Words rows n w G O (number_in c) (place_in c)
      on-loose y e c M = record { stage = λ L. stage-ok (T L) 13 6 8 9 b y _ _ e (turned L) (stage-of (T L) 13 8 (3 * n) fault.Loose (Loose any G) c refl (omega arith) (λ q z. z) (λ q z. z) M) }

  -- ---- 9 to 11
  module _ (L : List ℕ) (a : Result Unit Objection) (U : Refuses fault.OtherVertex (Unlike (Equal (shared rows w O Vertex)) G) (3 * n) a) where
    elsewhere : Stage (T L) 13 9 10 (number_in a) (place_in a)
    elsewhere = stage-of (T L) 13 9 (3 * n) fault.OtherVertex (Unlike (Equal (shared rows w O Vertex)) G) a refl (omega arith) (λ q x. x) (λ q x. x) U

    pub on-elsewhere : (o : Objection) → a ≡ Err o → Beside rows n w L G O (number_of o.fault) o.place
    on-elsewhere o e = record { stage = stage-err (T L) 13 9 10 12 a o e elsewhere }

    module _ (x : Unit) (d : a ≡ Ok x) (b : Result Unit Objection) (W : Refuses fault.OtherWay (Unlike (Equal (shared rows w O Way)) G) (3 * n) b) where
      otherwise : Stage (T L) 13 9 11 (number_in b) (place_in b)
      otherwise = stage-ok (T L) 13 9 10 11 a x _ _ d elsewhere (stage-of (T L) 13 10 (3 * n) fault.OtherWay (Unlike (Equal (shared rows w O Way)) G) b refl (omega arith) (λ q y. y) (λ q y. y) W)

      pub on-otherwise : (o : Objection) → b ≡ Err o → Beside rows n w L G O (number_of o.fault) o.place
      on-otherwise o e = record { stage = stage-err (T L) 13 9 11 12 b o e otherwise }

      pub on-parted : (y : Unit) → b ≡ Ok y → (c : Result Unit Objection) → Refuses fault.Parted (Parted n any L G O) (3 * n) c → Beside rows n w L G O (number_in c) (place_in c)
      on-parted y e c P = record { stage = stage-ok (T L) 13 9 11 12 b y _ _ e otherwise (stage-of (T L) 13 11 (3 * n) fault.Parted (Parted n any L G O) c refl (omega arith) (λ q z. z) (λ q z. z) P) }

-- ---- all of them

-- the objections are the same where the columns of vertices and orientations stand
pub applies-kept : (ks : List ℕ) (rows n : ℕ) (w u L G O : List ℕ) → outside ks vertex_column ≡ true → outside ks any_column ≡ true → outside ks orientation_column ≡ true → 3 * n ≤ rows → Only ks rows w u → (k p : ℕ) → k < 13 → applies_here rows n w L G O k p → applies_here rows n u L G O k p
applies-kept ks rows n w u L G O a b c fits K =
    applies-like n (Equal (λ x. cell rows vertex_column x w)) (Equal (λ x. cell rows vertex_column x u)) L
    (λ r q h k e. v r h ∙ (e ∙ sym (v q k)))
    (λ r q h k e. sym (v r h) ∙ (e ∙ v q k))
    (λ t. cell rows any_column t w) (λ t. cell rows any_column t u) (λ t. cell rows orientation_column t w) (λ t. cell rows orientation_column t u) G O
    (λ t h. sym (cell-kept ks rows w u K any_column t b (omega arith)))
    (λ t h. sym (cell-kept ks rows w u K orientation_column t c (omega arith)))
  where
    v : (r : ℕ) → r < 3 * n → cell rows vertex_column r u ≡ cell rows vertex_column r w
    v r h = cell-kept ks rows w u K vertex_column r a (omega arith)

pub applies-back : (ks : List ℕ) (rows n : ℕ) (w u L G O : List ℕ) → outside ks vertex_column ≡ true → outside ks any_column ≡ true → outside ks orientation_column ≡ true → 3 * n ≤ rows → Only ks rows w u → (k p : ℕ) → k < 13 → applies_here rows n u L G O k p → applies_here rows n w L G O k p
applies-back ks rows n w u L G O a b c fits K =
    applies-like n (Equal (λ x. cell rows vertex_column x u)) (Equal (λ x. cell rows vertex_column x w)) L
    (λ r q h k e. sym (v r h) ∙ (e ∙ v q k))
    (λ r q h k e. v r h ∙ (e ∙ sym (v q k)))
    (λ t. cell rows any_column t u) (λ t. cell rows any_column t w) (λ t. cell rows orientation_column t u) (λ t. cell rows orientation_column t w) G O
    (λ t h. cell-kept ks rows w u K any_column t b (omega arith))
    (λ t h. cell-kept ks rows w u K orientation_column t c (omega arith))
  where
    v : (r : ℕ) → r < 3 * n → cell rows vertex_column r u ≡ cell rows vertex_column r w
    v r h = cell-kept ks rows w u K vertex_column r a (omega arith)

module _ (rows n : ℕ) (w L G O : List ℕ) (fits : 3 * n ≤ rows) (C : Clear (applies_here rows n w L G O) 6) where
  abbrev A : ℕ → ℕ → Type 0
  A = applies_here rows n w L G O

  pub fit : LinksFit (3 * n) (Equal (λ x. cell rows vertex_column x w)) L
  fit = clear-links n (Equal (λ x. cell rows vertex_column x w)) (λ t. cell rows any_column t w) (λ t. cell rows orientation_column t w) L G O (λ r q ne. same-unless _ _ ne) 6 (omega arith) C

  pub not_wide : None (Wide (3 * n) L) (3 * n)
  not_wide r h x = C 2 (omega arith) (r, (h, x))

  module _ (a : Result Unit Objection) (S : Words rows n w G O (number_in a) (place_in a)) where
    -- the first three stop
    pub stop-words : (o : Objection) → a ≡ Err o → OnGroups rows n w L G O (number_of o.fault) o.place
    stop-words o e = record { stage = stage-err A 13 6 9 13 a o e (S.stage L); connected = λ z. absurd (omega (arith, numbered o.fault, z)) }

    module _ (p : Unit) (z : a ≡ Ok p) (ks : List ℕ) (u : List ℕ) (x : outside ks vertex_column ≡ true) (y : outside ks any_column ≡ true) (v : outside ks orientation_column ≡ true) (K : Only ks rows w u) where
      pub not-loose : None (Loose (λ t. cell rows any_column t u) G) (3 * n)
      not-loose r h l =
          clear-like A (applies_here rows n u L G O) 13 (applies-kept ks rows n w u L G O x y v fits K) (applies-back ks rows n w u L G O x y v fits K) 9 (omega arith) ((S.stage L).passed (rw z refl) C) 8 (omega arith) (r, (h, l))

      module _ (b : Result Unit Objection) (B : Beside rows n u L G O (number_in b) (place_in b)) where
        beside : Stage A 13 6 12 (number_in b) (place_in b)
        beside =
            stage-ok A 13 6 9 12 a p _ _ z (S.stage L) (stage-like (applies_here rows n u L G O) A 13 (applies-back ks rows n w u L G O x y v fits K) (applies-kept ks rows n w u L G O x y v fits K) 9 12 (number_in b) (place_in b) (omega arith) (omega arith) B.stage)

        pub stop-beside : (o : Objection) → b ≡ Err o → OnGroups rows n w L G O (number_of o.fault) o.place
        stop-beside o e = record { stage = stage-err A 13 6 12 13 b o e beside; connected = λ t. absurd (omega (arith, numbered o.fault, t)) }

        pub on-severed : (q : Unit) → b ≡ Ok q → (c : Result Unit Objection) → ((vertex : ℕ → ℕ) → LinksFit (3 * n) (Equal vertex) L → Refuses fault.Severed (Severed n L G) (3 * n) c) → OnOk c ((vertex : ℕ → ℕ) → LinksFit (3 * n) (Equal vertex) L → Connected n L G) → OnGroups rows n w L G O (number_in c) (place_in c)
        on-severed q e c D k =
            record {
              stage = stage-ok A 13 6 12 13 b q _ _ e beside (stage-of A 13 12 (3 * n) fault.Severed (Severed n L G) c refl (omega arith) (λ r t. t) (λ r t. t) (D _ fit));
              connected = accepted c k;
            }
          where
            accepted : (c : Result Unit Objection) → OnOk c ((vertex : ℕ → ℕ) → LinksFit (3 * n) (Equal vertex) L → Connected n L G) → number_in c ≡ 0 → Connected n L G
            accepted (Ok r) k t = k _ fit
            accepted (Err o) k t = absurd (omega (arith, numbered o.fault, t))
