-- One slot of the answer list: what reaching, copying and clearing leave. Definitions only.
use Rattle.std.specs.Prelude.{ℕ, ◌*◌, ◌/◌, Bool, cond, List, ltb, length, take, drop, replicate}
use Rattle.std.proofs.lemmas.List.Edits.{sets}
use Rattle.tangent.specs.declared.Evaluated.{Evaluated}
use Rattle.tangent.specs.Slot.{slot_words, words, reading_of}
use Rattle.tangent.specs.Space.{reached, copy_of}

-- the words of a slot
unfoldable pub words_at : ℕ → List ℕ → List ℕ
words_at slot a = take slot_words (drop (slot_words * slot) a)

-- a list with other words in a slot, where it has that slot
unfoldable pub written_at : ℕ → List ℕ → List ℕ → List ℕ
written_at slot ws a = cond (ltb slot (length a / slot_words)) (sets a (slot_words * slot) ws) a

-- a slot reached by what a subgroup gave
unfoldable pub reached_at : ℕ → Evaluated → Bool → List ℕ → List ℕ
reached_at slot v o a = written_at slot (words (reached (reading_of (words_at slot a)) v o)) a

-- the words of a copy of a slot's reading, within a quad or not
unfoldable pub copy_at : Bool → ℕ → List ℕ → List ℕ
copy_at quad slot a = words (copy_of quad (reading_of (words_at slot a)))

-- such a copy in another slot, where the list has both
unfoldable pub copied_at : Bool → ℕ → ℕ → List ℕ → List ℕ
copied_at quad from to a = cond (ltb from (length a / slot_words)) (written_at to (copy_at quad from a) a) a

-- a slot made absent
unfoldable pub cleared_at : ℕ → List ℕ → List ℕ
cleared_at slot a = written_at slot (replicate slot_words 0) a
