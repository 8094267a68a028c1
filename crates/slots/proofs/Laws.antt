-- What reaching, copying and clearing a slot of the answer list does to the readings that the list shows. Assumes nothing.
use Prim.Native.Nat.{ℕ, ◌*◌, ◌/◌, ◌<◌}
use native.Mathlib.Omega.{arith}
use mathlib.Core.Path.{◌≡◌, refl, ◌∙◌, ap}
use mathlib.Core.Bool.{Bool}
use mathlib.Core.List.{List}
use lib.ListN.{length, replicate}
use lib.Seq.{sets}
use Rattle.tangent.specs.declared.Evaluated.{Evaluated}
use Rattle.tangent.specs.declared.Reading.{Reading}
use Rattle.tangent.specs.declared.Reading.TheVariants.{Absent}
use Rattle.tangent.specs.Held.{HeldReading}
use Rattle.tangent.specs.Slot.{slot_words, words, reading_of}
use Rattle.tangent.specs.Space.{reached, copy_of}
use Rattle.tangent.proofs.Slots.{reading-words, reached-words}
use Rattle.view.specs.Answer.{slot_number, HasSlot, Shows, changed}
use Rattle.view.proofs.Answer.{slot_lt, slot-words, slot-set, slots-fit}
use Rattle.slots.specs.Slots.{words_at, written_at, reached_at, copy_at, copied_at, cleared_at}
use Rattle.slots.proofs.Runs.{written-there, copied-there}

module _ (sizes a₀ : List ℕ) where
  -- the list has every slot
  there : (R : ℕ → ℕ → Reading) (a : List ℕ) (f i : ℕ) → HasSlot sizes f i → Shows sizes R a₀ a → slot_number sizes f i < length a / slot_words
  there R a f i h e = omega (arith, slot_lt sizes f i h, slots-fit sizes a₀ R a e)

  -- a reading's words, written to a slot
  written-shows : (R : ℕ → ℕ → Reading) (a : List ℕ) (f i : ℕ) (r : Reading) (ws : List ℕ) → HasSlot sizes f i → ws ≡ words r → Shows sizes R a₀ a → Shows sizes (changed R f i r) a₀ (written_at (slot_number sizes f i) ws a)
  written-shows R a f i r ws h w e =
      written-there (slot_number sizes f i) ws a (there R a f i h e) ∙ ap (sets a (slot_words * slot_number sizes f i)) w ∙ slot-set sizes a₀ R a f i r h e

  -- a slot that is reached by a tangent space has its reading reached by it
  pub reach-shows : (R : ℕ → ℕ → Reading) (a : List ℕ) (f i : ℕ) (v : Evaluated) (o : Bool) → HasSlot sizes f i → HeldReading (R f i) → Shows sizes R a₀ a → Shows sizes (changed R f i (reached (R f i) v o)) a₀ (reached_at (slot_number sizes f i) v o a)
  unfolding reached_at words_at
  reach-shows R a f i v o h k e =
      written-shows R a f i (reached (R f i) v o) (words (reached (reading_of (words_at (slot_number sizes f i) a)) v o)) h
      (ap (λ (ws : List ℕ). words (reached (reading_of ws) v o)) (slot-words sizes a₀ R a f i h e) ∙ reached-words (R f i) v o k) e

  -- a slot to which another is copied has a copy of its reading
  pub copy_shows : (R : ℕ → ℕ → Reading) (a : List ℕ) (quad : Bool) (f i g j : ℕ) → HasSlot sizes f i → HasSlot sizes g j → HeldReading (R f i) → Shows sizes R a₀ a → Shows sizes (changed R g j (copy_of quad (R f i))) a₀ (copied_at quad (slot_number sizes f i) (slot_number sizes g j) a)
  unfolding words_at copy_at
  copy_shows R a quad f i g j h k d e =
      copied-there quad (slot_number sizes f i) (slot_number sizes g j) a (there R a f i h e)
      ∙ written-shows R a g j (copy_of quad (R f i)) (copy_at quad (slot_number sizes f i) a) k (ap (λ (ws : List ℕ). words (copy_of quad (reading_of ws))) (slot-words sizes a₀ R a f i h e) ∙ ap (λ (r : Reading). words (copy_of quad r)) (reading-words (R f i) d)) e

  -- a slot that is cleared is absent
  pub clear-shows : (R : ℕ → ℕ → Reading) (a : List ℕ) (f i : ℕ) → HasSlot sizes f i → Shows sizes R a₀ a → Shows sizes (changed R f i Absent) a₀ (cleared_at (slot_number sizes f i) a)
  unfolding cleared_at words
  clear-shows R a f i h e = written-shows R a f i Absent (replicate slot_words 0) h refl e
