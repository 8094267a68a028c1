-- Bytes that are stored one after another, from those that stood there. Assumes nothing.
use Prim.Native.Nat.{ℕ, ◌≤◌}
use native.Mathlib.Omega.{arith}
use mathlib.Core.Path.{◌≡◌, ◌∙◌, ap}
use mathlib.Core.List.{List, ◌++◌}
use lib.ListN.{length, get_or, drop}
use lib.Seq.{get_or-append-add, get_or-drop}
use Rattle.lists.specs.Loops.{list_of}
use Rattle.lists.proofs.Loops.{length-list_of}
use Rattle.words.proofs.Stores.{sets-front}
use Rattle.worth.proofs.Filling.{Filled}

-- what is still to be stored over stands
pub not_yet : (n : ℕ) (h : ℕ → ℕ) (v u : List ℕ) (i : ℕ) → i ≤ length v → Filled n h v u i → get_or u i 0 ≡ get_or v i 0
not_yet n h v u i l F =
    let z = length-list_of i h in
    ap (λ (x : List ℕ). get_or x i 0) (F.is ∙ sets-front v (list_of i h) i z l)
    ∙ (ap (λ (k : ℕ). get_or (list_of i h ++ drop i v) k 0) (omega (arith, z)) ∙ (get_or-append-add (list_of i h) (drop i v) 0 0 ∙ (get_or-drop i v 0 0 ∙ ap (λ (k : ℕ). get_or v k 0) (omega arith))))
