-- `labels::count_islands` meets its contract. The invariant: the count is that of the faces passed. Assumes nothing.
use Prim.Native.Nat.{◌≤◌}
use mathlib.Core.Path.{◌≡◌}
use lib.ListN.{length, get_or}
use Rattle.definition.specs.Limits.{face_limit}
use Rattle.labels.specs.Labels.{own_numbers}
use Rattle.labels.proofs.count_islands.Given as goal

abbrev pub invariant-loop-f : goal.invariant-loop-f
invariant-loop-f l = (l.count ≡ own_numbers l.f (λ k. get_or l.labels k 0)) × (l.f ≤ l.faces) × (l.faces ≤ length l.labels) × (l.faces ≤ face_limit)
