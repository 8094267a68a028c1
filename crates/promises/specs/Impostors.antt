-- 'These impostors have to be shut out': of the definition it is shown that it is none of them. Definitions only.
use Rattle.std.specs.Prelude.{◌≡◌, false, List, [], ◌∷◌, ◌++◌, take}
use Rattle.lists.specs.Lists.{has}
use Rattle.definition.specs.Desk.{at_desk, Row, table}
use Rattle.definition.specs.Handed.{Call, slot_count}
use Rattle.tangent.specs.Slot.{slot_words}
use Rattle.promises.specs.Calls.{leaves, Accepted}
use Rattle.promises.specs.Small.{one, minus_one, sample1, sample2, fan, fan_first, mirror, there, thrice, taken_with}

-- the rows of the table for a call
unfoldable pub rows_of : Call → List Row
rows_of x = table (at_desk x)

pub record Promised : Type 1 where
  -- 'refusing always (sample 1 and the table's "none otherwise")': a call is accepted where no row of the table applies, and only there
  pub accepted_where : (x : Call) → has (λ r. r.applies) (rows_of x) ≡ false → Accepted x
  pub accepted_only : (x : Call) → Accepted x → has (λ r. r.applies) (rows_of x) ≡ false
  -- 'all slots absent, or one frame for all (demand 2 on samples 1 and 2)': their whole outcome; 'writing nothing (acceptance writes 10S words)', 12S by E7: every word that was lent is another
  pub sample_1 : leaves sample1 ≡ taken_with (3 ∷ []) (thrice (there one one one 1 1))
  pub sample_2 : leaves sample2 ≡ taken_with (3 ∷ []) (thrice (there minus_one one one 0 1))
  -- 'linking or grouping nothing': a corner in the fan's middle has another frame than in its triangle alone, whose magnitude along t is a third
  pub grouped : take slot_words (leaves fan).answer ≡ there one one 0x3ec7_1c72 1 3
  pub alone : leaves fan_first ≡ taken_with (3 ∷ []) (there one one 0x3eaa_aaab 1 1 ++ there one one 0x3eaa_aaac 1 1 ++ there one one 0x3eaa_aaac 1 1)
  -- 'or grouping all in the first walk': beside its mirror image, linked to it, sample 1 keeps its frames, and the image has its own
  pub mirrored : leaves mirror ≡ taken_with (3 ∷ 3 ∷ []) (thrice (there one one one 1 1) ++ thrice (there one minus_one one 0 1))
  -- 'an invented S (S is a sum of sizes)'
  pub slots_s : (x : Call) → Accepted x → (leaves x).slots ≡ slot_count x.mesh.sizes
