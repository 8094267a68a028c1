-- Why a slot is absent, as a byte: from its own word 0, and from where its frame comes from in the trial. Definitions only.
use Rattle.std.specs.Prelude.{ℕ, ◌+◌, ◌*◌, cond, List, eqb, get_or}
use Rattle.tangent.specs.Slot.{slot_words, single_origin}
use Rattle.lists.specs.Loops.{list_of}

-- the slot is there
abbrev pub no_reason : ℕ
no_reason = 0

-- (1) its corner is one of a degenerate triangle whose face isn't a marked quad, and no sound corner is welded to it
abbrev pub unwelded_slot : ℕ
unwelded_slot = 1

-- (2) it copies a corner that is absent itself
abbrev pub copying_slot : ℕ
copying_slot = 2

-- (3) it belongs to sound triangles, all of them `group_with_any`, and no group reached it
abbrev pub unreached_slot : ℕ
unreached_slot = 3

-- the word of a slot that tells where its frame comes from
abbrev pub origin_word : ℕ
origin_word = 10

-- the reason of an absent slot, by its origin in the trial: it has no frame even there; it keeps the one that it was brought; it has a copy
unfoldable pub reason_by : ℕ → ℕ
reason_by origin = cond (eqb origin 0) unwelded_slot (cond (eqb origin single_origin) unreached_slot copying_slot)

-- a reason stands where word 0 is 0
unfoldable pub only_absent : ℕ → ℕ → ℕ
only_absent there reason = cond (eqb there 0) reason no_reason

-- the reasons of n slots, by the words of the answer and those of the trial
unfoldable pub reasons_of : ℕ → List ℕ → List ℕ → List ℕ
reasons_of n answer trial = list_of n (λ s. only_absent (get_or answer (slot_words * s) 0) (reason_by (get_or trial (slot_words * s + origin_word) 0)))
