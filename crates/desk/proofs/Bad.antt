-- The lowest corner that fails a test, one corner after the other and one face after the other. Assumes nothing.
use Prim.Native.Nat.{ℕ, zero, suc, ◌+◌, ◌-◌, ◌%◌, ◌≤◌, ◌<◌}
use native.Mathlib.Numerals.{add-one}
use native.Mathlib.Omega.{arith}
use mathlib.Core.Path.{◌≡◌, refl, sym, ap, ◌∙◌}
use mathlib.Core.Bool.{Bool, true, false, true≢false, cond}
use mathlib.Core.List.{List, [], ◌∷◌}
use mathlib.Core.Option.{Option, none, some}
use lib.ListN.{length, get_or, drop, drop_of_length-le}
use lib.Seq.{drop-cons}
use lib.Ieee.{Float}
use Rattle.definition.proofs.Lengths.{corners-length}
use Rattle.definition.specs.Handed.{corner_at, corners_from, mesh_from, used, slots_of}
use Rattle.definition.specs.declared.Corner.{Corner}
use Rattle.definition.specs.Desk.{bad_in, bad_corner, or_else}
use Rattle.std.specs.Prelude.{Option as Found, Some, None}
use Rattle.desk.specs.Verdict.{found, unless_found}

one_less : (n : ℕ) → suc n - 1 ≡ n
one_less n = omega arith

module _ (fine : Corner → Bool) (ps ns ts : List Float) where
  -- the lowest of n corners from number i on
  abbrev pub lowest : ℕ → ℕ → Option ℕ
  lowest i n = bad_in fine i (corners_from ps ns ts i n)

  -- ---- one corner after the other

  -- corner number i alone
  abbrev pub in_corner : ℕ → Option ℕ
  in_corner i = cond (fine (corner_at ps ns ts i)) none (some i)

  pub none_left : (i : ℕ) → lowest i 0 ≡ none
  unfolding bad_in corners_from
  none_left i = refl

  pub corner-first : (i n : ℕ) → 0 < n → lowest i n ≡ or_else (in_corner i) (lowest (i + 1) (n - 1))
  unfolding bad_in corners_from or_else
  corner-first i zero h = absurd (omega arith)
  corner-first i (suc n) h = rw (add-one i, one_less n) (go (fine (corner_at ps ns ts i)))
    where
      go : (b : Bool) → cond b (bad_in fine (suc i) (corners_from ps ns ts (suc i) n)) (some i) ≡ or_else (cond b none (some i)) (bad_in fine (suc i) (corners_from ps ns ts (suc i) n))
      go true = refl
      go false = refl

  -- ---- one face after the other

  -- the lowest of a face of n corners, and of the faces of these sizes, from corner number i on
  abbrev pub in_face : ℕ → ℕ → Option ℕ
  in_face i n = cond (used n) (lowest i n) none

  abbrev pub in_faces : ℕ → List ℕ → Option ℕ
  in_faces i sizes = bad_corner fine i (mesh_from ps ns ts i sizes)

  pub no-face : (i : ℕ) → in_faces i [] ≡ none
  unfolding bad_corner mesh_from
  no-face i = refl

  pub face-first : (i n : ℕ) (sizes : List ℕ) → in_faces i (n ∷ sizes) ≡ or_else (in_face i n) (in_faces (i + n) sizes)
  unfolding bad_corner mesh_from
  face-first i n sizes = rw (corners-length ps ns ts i n)

-- ---- a face of no slots
pub takes_none : (n : ℕ) → slots_of n ≡ 0 → used n ≡ false
takes_none n h = go (used n) refl
  where
    go : (b : Bool) → used n ≡ b → used n ≡ false
    go false e = e
    go true e = let z : n ≡ 0 = unfold slots_of in rw (sym h, e) in ap used z ∙ unfold used in refl

pub takes-some : (n : ℕ) → (slots_of n ≡ 0 → ⊥) → used n ≡ true
takes-some n h = go (used n) refl
  where
    go : (b : Bool) → used n ≡ b → used n ≡ true
    go true e = e
    go false e = absurd (h (unfold slots_of in rw (e)))

-- ---- what was found

-- found before, or else here; and then in what is behind it
pub then : (bad : Found ℕ) (here rest : Option ℕ) → unless_found (found (unless_found bad here)) rest ≡ unless_found bad (or_else here rest)
unfolding found unless_found or_else
then (Some i) here rest = refl
then None none rest = refl
then None (some j) rest = refl

-- nothing is left
pub at_last : (bad : Found ℕ) → bad ≡ found (unless_found bad none)
unfolding found unless_found
at_last (Some i) = refl
at_last None = refl

-- nothing was found yet
pub at_once : (o : Option ℕ) → unless_found None o ≡ o
unfolding unless_found
at_once o = refl

-- a corner was found, or none was
pub is_some : (o : Option ℕ) (i : ℕ) → found o ≡ Some i → o ≡ some i
unfolding found
is_some none i e = absurd (no-some e)
  where
    there : Found ℕ → Bool
    there None = false
    there (Some i) = true

    no-some : None ≡ Some i → ⊥
    no-some e = true≢false (sym (ap there e))
is_some (some j) i e = ap some (ap which e)
  where
    which : Found ℕ → ℕ
    which None = 0
    which (Some i) = i

pub is_none : (o : Option ℕ) → found o ≡ None → o ≡ none
unfolding found
is_none none e = refl
is_none (some j) e = absurd (true≢false (ap there e))
  where
    there : Found ℕ → Bool
    there None = false
    there (Some i) = true

-- ---- what is left: the corners from number i on, the faces from number f on
module _ (fine : Corner → Bool) (ps ns ts : List Float) where
  pub corner-more : (b : Found ℕ) (i n : ℕ) → 0 < n → unless_found (found (unless_found b (in_corner fine ps ns ts i))) (lowest fine ps ns ts (i + 1) (n - 1)) ≡ unless_found b (lowest fine ps ns ts i n)
  corner-more b i n h = then b (in_corner fine ps ns ts i) (lowest fine ps ns ts (i + 1) (n - 1)) ∙ ap (unless_found b) (sym (corner-first fine ps ns ts i n h))

  -- what was found, or else is found in n corners from number i on, is o
  abbrev pub Gives : Found ℕ → ℕ → ℕ → Option ℕ → Type 0
  Gives b i n o = unless_found b (lowest fine ps ns ts i n) ≡ o

  -- after one corner more
  pub goes_on : (a b : Found ℕ) (i n : ℕ) (o : Option ℕ) (x : Corner) → 0 < n → x ≡ corner_at ps ns ts i → a ≡ found (unless_found b (cond (fine x) none (some i))) → Gives b i n o → Gives a (i + 1) (n - 1) o
  goes_on a b i n o x h e f g = ap (λ (z : Found ℕ). unless_found z (lowest fine ps ns ts (i + 1) (n - 1))) (f ∙ ap (λ (y : Corner). found (unless_found b (cond (fine y) none (some i)))) e) ∙ corner-more b i n h ∙ g

  -- after the last one
  pub gave : (b : Found ℕ) (i n : ℕ) (o : Option ℕ) → n ≡ 0 → Gives b i n o → b ≡ found o
  gave b i n o e g = at_last b ∙ ap found (ap (unless_found b) (sym (ap (lowest fine ps ns ts i) e ∙ none_left fine ps ns ts i)) ∙ g)

  module _ (sizes : List ℕ) where
    pub face-more : (b : Found ℕ) (f from : ℕ) → f < length sizes
        → unless_found (found (unless_found b (in_face fine ps ns ts from (get_or sizes f 0)))) (in_faces fine ps ns ts (from + get_or sizes f 0) (drop (f + 1) sizes)) ≡ unless_found b (in_faces fine ps ns ts from (drop f sizes))
    face-more b f from h = then b (in_face fine ps ns ts from (get_or sizes f 0)) (in_faces fine ps ns ts (from + get_or sizes f 0) (drop (f + 1) sizes)) ∙ ap (unless_found b) (sym from-here)
      where
        from-here : in_faces fine ps ns ts from (drop f sizes) ≡ or_else (in_face fine ps ns ts from (get_or sizes f 0)) (in_faces fine ps ns ts (from + get_or sizes f 0) (drop (f + 1) sizes))
        from-here = rw (drop-cons sizes f 0 h, add-one f) (face-first fine ps ns ts from (get_or sizes f 0) (drop (suc f) sizes))

    -- what was found, or else is found in the faces from number f on, is what all faces give
    abbrev pub FacesGive : Found ℕ → ℕ → ℕ → Type 0
    FacesGive b f from = unless_found b (in_faces fine ps ns ts from (drop f sizes)) ≡ in_faces fine ps ns ts 0 sizes

    pub next-face : (a b : Found ℕ) (f from at to : ℕ) → f < length sizes → a ≡ found (unless_found b (in_face fine ps ns ts at (get_or sizes f 0))) → FacesGive b f from → at ≡ from → to ≡ from + get_or sizes f 0 → FacesGive a (f + 1) to
    next-face a b f from at to h e g s t = ap (λ (k : ℕ). unless_found a (in_faces fine ps ns ts k (drop (f + 1) sizes))) t ∙ ap (λ (x : Found ℕ). unless_found x (in_faces fine ps ns ts (from + get_or sizes f 0) (drop (f + 1) sizes))) (e ∙ ap (λ (k : ℕ). found (unless_found b (in_face fine ps ns ts k (get_or sizes f 0)))) s) ∙ face-more b f from h ∙ g

    pub all-passed : (b : Found ℕ) (f from : ℕ) → length sizes ≤ f → FacesGive b f from → b ≡ found (in_faces fine ps ns ts 0 sizes)
    all-passed b f from h g = at_last b ∙ ap found (ap (unless_found b) (sym past_end) ∙ g)
      where
        past_end : in_faces fine ps ns ts from (drop f sizes) ≡ none
        past_end = rw (drop_of_length-le sizes h) (no-face fine ps ns ts from)
