-- What the packer and its reader promise: result and lent list are the definition's, for every input. Definitions only.
use Rattle.std.specs.Prelude.{◌≡◌, ℕ, List, Result, Ok, Err}
use Rattle.packed.specs.Packer.{PackLeft, pack_left}
use Rattle.packed.specs.Reader.{UnpackLeft, unpack_left}
use Rattle.packed.specs.declared.Refusal.{Refusal}
use Rattle.packed.specs.declared.Refusal.TheVariants.{Broken, TooShort, NotPacked}
use Rattle.packed.specs.declared.Packed.{Packed}
use Rattle.packed.specs.declared.Unpacked.{Unpacked}

-- the number of a refusal, and the slot that it is about
abbrev pub number_of : Refusal → ℕ
number_of Broken = 1
number_of TooShort = 2
number_of (NotPacked s) = 3

abbrev pub place_of : Refusal → ℕ
place_of Broken = 0
place_of TooShort = 0
place_of (NotPacked s) = s

-- what the packer and the reader return, as C reads it
abbrev pub packed_of : Result ℕ Refusal → Packed
packed_of (Ok n) = record { number = 0; count = n }
packed_of (Err r) = record { number = number_of r; count = 0 }

abbrev pub unpacked_of : Result (Unit {0}) Refusal → Unpacked
unpacked_of (Ok u) = record { number = 0; place = 0 }
unpacked_of (Err r) = record { number = number_of r; place = place_of r }

-- all that a call of the packer leaves behind: what it returned, and the lent list
unfoldable pub after_pack : Packed → List ℕ → PackLeft
after_pack r packed = record { number = r.number; count = r.count; packed = packed }

-- The packer's contract. Handed in: the answer words l; lent: the list p, which it leaves as q; returned: r.
abbrev pub Packs : List ℕ → List ℕ → Packed → List ℕ → Type 0
Packs l p r q = after_pack r q ≡ pack_left l p

-- all that a call of the reader leaves behind
unfoldable pub after_unpack : Unpacked → List ℕ → UnpackLeft
after_unpack r answer = record { number = r.number; place = r.place; answer = answer }

-- The reader's contract. Handed in: the packed numbers l; lent: the list a, which it leaves as b; returned: r.
abbrev pub Unpacks : List ℕ → List ℕ → Unpacked → List ℕ → Type 0
Unpacks l a r b = after_unpack r b ≡ unpack_left l a
