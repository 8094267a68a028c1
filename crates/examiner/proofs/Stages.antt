-- Objections 2 to 5, one after the other. Assumes nothing.
use Prim.Native.Nat.{ℕ, ◌*◌}
use native.Mathlib.Omega.{arith}
use mathlib.Core.Path.{◌≡◌, refl}
use mathlib.Core.List.{List}
use Rattle.std.proofs.Common.{Result, Ok, Err}
use Rattle.asked.specs.Lowest.{Stage}
use Rattle.asked.specs.Links as links
use Rattle.asked.specs.Links.{Equal}
use Rattle.asked.specs.Objections.{Applies}
use Rattle.examiner.specs.declared.Fault.TheVariants.{Wide, Crooked, OneSided, LeftOver}
use Rattle.examiner.specs.declared.Objection.{Objection}
use Rattle.examiner.specs.Said.{number_of, number_in, place_in, Refuses}
use Rattle.examiner.specs.OnLinks.{OnLinks}
use Rattle.examiner.proofs.Finding.{stage-of, stage-ok, stage-err}

module _ (n : ℕ) (vertex : ℕ → ℕ) (L : List ℕ) where
  abbrev A : (ℕ → ℕ) → (ℕ → ℕ) → List ℕ → List ℕ → ℕ → ℕ → Type 0
  A any way G O = Applies n (Equal vertex) any way L G O

  module _ (a : Result Unit Objection) (W : Refuses Wide (links.Wide (3 * n) L) (3 * n) a) where
    wide : (any way : ℕ → ℕ) (G O : List ℕ) → Stage (A any way G O) 13 2 3 (number_in a) (place_in a)
    wide any way G O = stage-of (A any way G O) 13 2 (3 * n) Wide (links.Wide (3 * n) L) a refl (omega arith) (λ q x. x) (λ q x. x) W

    pub on-wide : (o : Objection) → a ≡ Err o → OnLinks n vertex L (number_of o.fault) o.place
    on-wide o e = record { stage = λ any way G O. stage-err (A any way G O) 13 2 3 6 a o e (wide any way G O) }

    module _ (x : Unit) (d : a ≡ Ok x) (b : Result Unit Objection) (K : Refuses Crooked (links.Crooked (3 * n) (Equal vertex) L) (3 * n) b) where
      crooked : (any way : ℕ → ℕ) (G O : List ℕ) → Stage (A any way G O) 13 2 4 (number_in b) (place_in b)
      crooked any way G O = stage-ok (A any way G O) 13 2 3 4 a x _ _ d (wide any way G O) (stage-of (A any way G O) 13 3 (3 * n) Crooked (links.Crooked (3 * n) (Equal vertex) L) b refl (omega arith) (λ q y. y) (λ q y. y) K)

      pub on-crooked : (o : Objection) → b ≡ Err o → OnLinks n vertex L (number_of o.fault) o.place
      on-crooked o e = record { stage = λ any way G O. stage-err (A any way G O) 13 2 4 6 b o e (crooked any way G O) }

      module _ (y : Unit) (f : b ≡ Ok y) (c : Result Unit Objection) (S : Refuses OneSided (links.OneSided L) (3 * n) c) where
        one-sided : (any way : ℕ → ℕ) (G O : List ℕ) → Stage (A any way G O) 13 2 5 (number_in c) (place_in c)
        one-sided any way G O = stage-ok (A any way G O) 13 2 4 5 b y _ _ f (crooked any way G O) (stage-of (A any way G O) 13 4 (3 * n) OneSided (links.OneSided L) c refl (omega arith) (λ q z. z) (λ q z. z) S)

        pub on-one-sided : (o : Objection) → c ≡ Err o → OnLinks n vertex L (number_of o.fault) o.place
        on-one-sided o e = record { stage = λ any way G O. stage-err (A any way G O) 13 2 5 6 c o e (one-sided any way G O) }

        pub on-left-over : (z : Unit) → c ≡ Ok z → (d : Result Unit Objection) → Refuses LeftOver (links.LeftOver (3 * n) (Equal vertex) L) (3 * n) d → OnLinks n vertex L (number_in d) (place_in d)
        on-left-over z e d D =
            record { stage = λ any way G O. stage-ok (A any way G O) 13 2 5 6 c z _ _ e (one-sided any way G O) (stage-of (A any way G O) 13 5 (3 * n) LeftOver (links.LeftOver (3 * n) (Equal vertex) L) d refl (omega arith) (λ q w. w) (λ q w. w) D) }
