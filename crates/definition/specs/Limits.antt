-- The numbers of document 01 that later requests may move; in code the first two are constants of src/lib.rt. (The words of a slot are `slot_words` of crate `tangent`.) Definitions only.
use Rattle.std.specs.Prelude.{ℕ}

-- refusal 1: 'F is above 65,536'
abbrev pub face_limit : ℕ
face_limit = 65536

-- refusal 6 and acceptance: '128F' words of the work list
abbrev pub work_words : ℕ
work_words = 128

-- the highest number of a refusal
abbrev pub highest_refusal : ℕ
highest_refusal = 7
