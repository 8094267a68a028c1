-- The definition is none of the impostors. Assumes nothing.
use native.Mathlib.Omega.{arith}
use mathlib.Core.Path.{◌≡◌, refl}
use mathlib.Core.List.{[], ◌∷◌, ◌++◌}
use mathlib.Core.Logic.{◌⊎◌, inl, inr}
use lib.ListN.{take}
use Rattle.tangent.specs.Slot.{slot_words}
use Rattle.definition.specs.Handed.{Call, used, corner_count, slots_of, slot_count}
use Rattle.definition.proofs.Samples as samples
use Rattle.promises.specs.Calls.{leaves, Accepted}
use Rattle.promises.specs.Small.{one, minus_one, up, lying, triangle, sample1, sample2, fan, fan_first, mirror, there, thrice, taken_with}
use Rattle.promises.specs.Demand1 as Demand1
use Rattle.promises.specs.Demand1.{Refused, Taken}
use Rattle.promises.specs.Impostors.{Promised}
use Rattle.promises.proofs.Acceptance.{accepted_where, accepted_only}
use Rattle.promises.proofs.Demand1.{demand1}

-- ---- the five calls, as the definition's samples give them
sample_1 : leaves sample1 ≡ taken_with (3 ∷ []) (thrice (there one one one 1 1))
unfolding leaves sample1 triangle lying up there thrice taken_with corner_count slot_count slots_of used
sample_1 = samples.sample_1

sample_2 : leaves sample2 ≡ taken_with (3 ∷ []) (thrice (there minus_one one one 0 1))
unfolding leaves sample2 triangle lying up there thrice taken_with corner_count slot_count slots_of used
sample_2 = samples.sample_2

grouped : take slot_words (leaves fan).answer ≡ there one one 0x3ec7_1c72 1 3
unfolding leaves fan lying up there corner_count slot_count slots_of used
grouped = samples.fan

alone : leaves fan_first ≡ taken_with (3 ∷ []) (there one one 0x3eaa_aaab 1 1 ++ there one one 0x3eaa_aaac 1 1 ++ there one one 0x3eaa_aaac 1 1)
unfolding leaves fan_first triangle lying up there thrice taken_with corner_count slot_count slots_of used
alone = samples.fan-first

mirrored : leaves mirror ≡ taken_with (3 ∷ 3 ∷ []) (thrice (there one one one 1 1) ++ thrice (there one minus_one one 0 1))
unfolding leaves mirror lying up there thrice taken_with corner_count slot_count slots_of used
mirrored = samples.mirror

slots_s : (x : Call) → Accepted x → (leaves x).slots ≡ slot_count x.mesh.sizes
unfolding Accepted Demand1.Promised
slots_s x e = go (demand1 x (leaves x) refl)
  where
    go : Refused x (leaves x) ⊎ Taken x (leaves x) → (leaves x).slots ≡ slot_count x.mesh.sizes
    go (inl r) = let h = r.low in absurd (omega arith)
    go (inr t) = t.slots_s

pub impostors : Promised
unfolding Accepted
impostors =
    record {
      accepted_where = accepted_where;
      accepted_only = accepted_only;
      sample_1 = sample_1;
      sample_2 = sample_2;
      grouped = grouped;
      alone = alone;
      mirrored = mirrored;
      slots_s = slots_s;
    }
