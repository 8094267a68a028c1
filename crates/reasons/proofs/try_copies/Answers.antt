-- `reasons::try_copies` meets its contract. Assumes nothing.
use native.Mathlib.Omega.{arith}
use Prim.Native.Nat.{ℕ, ◌*◌}
use mathlib.Core.Path.{◌≡◌, ap, ◌∙◌}
use mathlib.Core.List.{List, ◌++◌}
use lib.ListN.{drop}
use Rattle.lists.specs.Parts.{joined}
use Rattle.tangent.specs.Slot.{slot_words}
use Rattle.definition.specs.Handed.{slot_count}
use Rattle.mesh.specs.Parts.{given}
use Rattle.reasons.specs.Trial.{tried_words}
use Rattle.reasons.proofs.Whole.{counts-fit, tried-out}
use Rattle.reasons.proofs.try_copies.Goals as goal

pub copy_frames-requires : goal.copy_frames-requires
copy_frames-requires c =
    let a = c.args in
    let L = c.link_mesh-counts.ensures in
    let R = counts-fit (given a.mesh.now) _ _ a.work.now _ L in
    (R.0, R.1, omega (arith, c.requires.1, L.only.size))

-- so many slots are filled
filled-to : (n m : ℕ) (a b : List ℕ) → b ≡ joined n (λ s. tried_words) ++ drop (slot_words * n) a → n ≡ m → b ≡ joined m (λ s. tried_words) ++ drop (slot_words * m) a
filled-to n m a b e h = e ∙ ap (λ (k : ℕ). joined k (λ s. tried_words) ++ drop (slot_words * k) a) h

pub returns : goal.returns
returns c =
    let a = c.args in
    let L = c.link_mesh-counts.ensures in
    (tried-out (given a.mesh.now) _ _ a.work.now _ L c.requires.4 a.answer.now _ _ (filled-to _ (slot_count a.mesh.now.sizes.now) a.answer.now _ c.fill.ensures c.requires.3) c.copy_frames.ensures, L.only.rest)
