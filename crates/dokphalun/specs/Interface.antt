-- What the archive says of itself, beside the words of a slot (`slot_words` of crate `tangent`). Definitions only.
use Rattle.std.specs.Prelude.{ℕ}

-- the edition of the interface: one more whenever a call, a list or a number of it no longer means what it meant
abbrev pub interface_edition : ℕ
interface_edition = 3
