-- The turns of the scan in the columns. Assumes nothing.
use Prim.Native.Nat.{ℕ, ◌+◌, ◌≤◌, ◌<◌}
use native.Mathlib.Nat.{le_antisymm}
use native.Mathlib.Omega.{arith}
use mathlib.Core.Path.{◌≡◌, sym, subst, ◌∙◌}
use mathlib.Core.Bool.{Bool, true, false}
use mathlib.Core.List.{List}
use lib.ListN.{get_or}
use Rattle.table.specs.Table.{cell}
use Rattle.table.specs.Columns.{vertex_column, order_column}
use Rattle.neighbors.specs.Links.{same_ends}
use Rattle.asked.specs.Lowest.{Lowest}
use Rattle.asked.specs.Links.{Equal, link_word, LeftOver}
use Rattle.examiner.specs.Scan.{OrderOf, RunOf, FirstOf, nothing, side, Reads, Turns, Scans}
use Rattle.examiner.proofs.Scanning as scan

module _ (rows n : ℕ) (w L : List ℕ) where
  abbrev X : ℕ → ℕ
  X a = cell rows order_column a w

  run_of : (E : ℕ → ℕ) (a first : ℕ) → FirstOf n L E X a first → first < n → RunOf L E X a first
  run_of E a first (nothing e f) l = absurd (omega arith)
  run_of E a first (side k R) l = R

  module _ (a first best r : ℕ) (h : a < n) (x : r ≡ X a) where
    pub linked-turn : (f : ℕ) → f ≡ get_or L r 0 → (f ≡ 0 → ⊥) → Turns rows n w L a first best first best
    linked-turn f e ne = record { turns = λ vertex E R O S. scan.turn-linked n vertex L E X O a first best r h x S (λ g. ne (e ∙ g)) }

    pub first-turn : (f : ℕ) → f ≡ get_or L r 0 → f ≡ 0 → first ≡ n → Turns rows n w L a first best r best
    first-turn f e z l = record { turns = λ vertex E R O S. scan.turn-first n vertex L E X O a first best r h x S (sym e ∙ z) l }

    module _ (l : first < n) (k : r < n) (g : link_word L r ≡ 0) where
      pub next-turn : (b : Bool) → b ≡ same_ends rows first r w → b ≡ false → Turns rows n w L a first best r best
      next-turn b e z = record { turns = λ vertex E R O S. scan.turn-next n vertex L E X O a first best r h x S g l (R.unlike first r l k (sym e ∙ z)) }

      module _ (same : same_ends rows first r w ≡ true) where
        pub alike-turn : (v u : ℕ) → v ≡ cell rows vertex_column first w → u ≡ cell rows vertex_column r w → v ≡ u → Turns rows n w L a first best first best
        alike-turn v u p q e =
            record {
              turns = λ vertex E R O S.
                  scan.turn-alike n vertex L E X O a first best r h x S (run_of E a first S.first_is l) l (R.like first r l k same) g
                  (sym (R.vertices first l) ∙ (sym p ∙ (e ∙ (q ∙ R.vertices r k))));
            }

        pub kept-turn : best ≤ first → Turns rows n w L a first best first best
        kept-turn m = record { turns = λ vertex E R O S. scan.turn-kept n vertex L E X O a first best r h x S (run_of E a first S.first_is l) l (R.like first r l k same) g m }

        pub lower-turn : (v u : ℕ) → v ≡ cell rows vertex_column first w → u ≡ cell rows vertex_column r w → (v ≡ u → ⊥) → first ≤ best → Turns rows n w L a first best first first
        lower-turn v u p q ne m =
            record {
              turns = λ vertex E R O S.
                  scan.turn-lower n vertex L E X O a first best r h x S (run_of E a first S.first_is l) l (R.like first r l k same) g
                  (λ e. ne (p ∙ (R.vertices first l ∙ (e ∙ (sym (R.vertices r k) ∙ sym q))))) m;
            }

  pub scans-none : Scans rows n w L 0 n n
  scans-none = record { scans = λ vertex E R O. scan.scanned-none n vertex L E X }

  pub scans-more : (a first best first' best' : ℕ) → Scans rows n w L a first best → Turns rows n w L a first best first' best' → Scans rows n w L (a + 1) first' best'
  scans-more a first best first' best' S T = record { scans = λ vertex E R O. T.turns vertex E R O (S.scans vertex E R O) }

  pub scans-all : (a first best : ℕ) → a ≤ n → n ≤ a → Scans rows n w L a first best → (vertex E : ℕ → ℕ) → Reads rows n w vertex E → OrderOf n vertex E X → Lowest (LeftOver n (Equal vertex) L) n best
  scans-all a first best h k S vertex E R O = scan.scanned-all n vertex L E X O first best (subst (λ (a : ℕ). scan.Scanned n vertex L E X a first best) (le_antisymm h k) (S.scans vertex E R O))
