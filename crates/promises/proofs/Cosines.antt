-- That c(k) is nearest, from the laws of `angle`. Assumes nothing.
use Prim.Native.Nat.{ℕ, ◌-◌, ◌*◌, ◌≤◌, ◌<◌}
use mathlib.Core.Path.{◌≡◌, ap, ◌∙◌, subst}
use native.Mathlib.Omega.{arith}
use lib.IntN.{neg_ℤ}
use Rattle.angle.specs.Table.{c}
use Rattle.angle.specs.Cosine.{Numbers, Cosines, Near}
use Rattle.angle.proofs.Rules.{mirrored}
use Rattle.angle.proofs.Finer as fine
use Rattle.angle.proofs.Exact as exact
use Rattle.promises.specs.Cosines.{Whole, Promised}

past : (F : Numbers) (x : ℕ → F.R) → Cosines F x → (k : ℕ) → 512 ≤ k → k ≤ 1024 → Near F (x (1024 - k)) (neg_ℤ (c k))
past F x K k h l = subst (Near F (x (1024 - k))) (mirrored k l) (exact.nearest F x K (1024 - k) (omega arith))

-- where there is a minus: what is past an eighth of a turn, and so the cosines up to a quarter turn
module _ (F : Numbers) (minus : F.R → F.R) (y : ℕ → F.R) (W : Whole F minus y) where
  past-eighth : (k : ℕ) → 256 < k → k ≤ 512 → F.plus (F.plus (F.times (y k) (y k)) (F.times (y k) (y k))) (y (1024 - 2 * k)) ≡ F.one
  past-eighth k g h =
      let z = y (2 * k) in
      ap (λ (a : F.R). F.plus a (y (1024 - 2 * k))) (W.double k h)
      ∙ ap (F.plus (F.plus z F.one)) (W.mirror (2 * k) (omega arith))
      ∙ ap (λ (a : F.R). F.plus a (minus z)) (F.plus_comm z F.one)
      ∙ F.plus_assoc F.one z (minus z)
      ∙ ap (F.plus F.one) (W.cancels z)
      ∙ F.plus_comm F.one F.nought
      ∙ F.plus_nought F.one

  up-to : Cosines F y
  up-to = record { first = W.first; quarter = W.quarter; positive = W.positive; double = λ k h. W.double k (omega arith); beyond = past-eighth }

  whole : (k : ℕ) → (k ≤ 512 → Near F (y k) (c k)) × (512 ≤ k → k ≤ 1024 → Near F (minus (y k)) (neg_ℤ (c k)))
  whole k = (exact.nearest F y up-to k, λ h l. subst (λ (a : F.R). Near F a (neg_ℤ (c k))) (W.mirror k l) (past F y up-to k h l))

pub cosines : Promised
cosines = record {
  nearest = whole;
  up_to_quarter = exact.nearest;
  past_quarter = past;
  finer = fine.nearest;
  some = (fine.finer, fine.finer-rules);
}
