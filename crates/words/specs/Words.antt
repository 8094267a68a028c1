-- Words of 32 bits as bytes, the least byte first. Definitions only.
use Rattle.std.specs.Prelude.{ℕ, ◌+◌, ◌*◌, ◌/◌, ◌%◌, ◌<◌, length, get_or}
use mathlib.Core.List.{List, [], ◌∷◌, flat_map}
use Rattle.lists.specs.Loops.{list_of}

-- how many numbers a word of 32 bits can be
abbrev pub word_values : ℕ
word_values = 4294967296

-- the four bytes of a word
unfoldable pub word_bytes : ℕ → List ℕ
word_bytes w = w % 256 ∷ w / 256 % 256 ∷ w / 65536 % 256 ∷ w / 16777216 % 256 ∷ []

-- the bytes of words, in order
unfoldable pub bytes_of : List ℕ → List ℕ
bytes_of ws = flat_map word_bytes ws

-- word i of a list of bytes
unfoldable pub word_at : List ℕ → ℕ → ℕ
word_at bs i = get_or bs (4 * i) 0 + 256 * get_or bs (4 * i + 1) 0 + 65536 * get_or bs (4 * i + 2) 0 + 16777216 * get_or bs (4 * i + 3) 0

-- n words of a list of bytes, from word i on
unfoldable pub words_at : List ℕ → ℕ → ℕ → List ℕ
words_at bs i n = list_of n (λ k. word_at bs (i + k))

-- each number of a list is a word of 32 bits
abbrev pub Fit : List ℕ → Type 0
Fit l = (i : ℕ) → i < length l → get_or l i 0 < word_values
