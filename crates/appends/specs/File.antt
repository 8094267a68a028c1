-- A file's bytes with others put over them. Definitions only.
use Rattle.std.specs.Prelude.{ℕ, ◌+◌, List, ◌++◌, length, take, drop}

-- the bytes f with xs put over them from place p on
unfoldable pub patched : List ℕ → ℕ → List ℕ → List ℕ
patched f p xs = take p f ++ xs ++ drop (p + length xs) f
