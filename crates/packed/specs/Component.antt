-- A direction component as 16 bits, from request E5. Definitions only.
use Rattle.std.specs.Prelude.{ℕ, ◌+◌, ◌-◌, ◌*◌, ◌/◌, ◌%◌, ◌^◌, min, Bool, cond, leb, ltb}
use Rattle.packed.specs.Rounding.{nearest}

-- the bit of the sign, of the bits of a float
abbrev pub sign_bit : ℕ
sign_bit = 0x8000_0000

-- the leading digit of a float, which its bits leave out
abbrev pub leading : ℕ
leading = 0x0080_0000

-- the bits of 1
abbrev pub one_bits : ℕ
one_bits = 0x3f80_0000

-- the bits of the greatest float that is packed
abbrev pub furthest : ℕ
furthest = 0x3f80_0008

-- what 1 is packed as
abbrev pub full_scale : ℕ
full_scale = 32767

-- how many numbers 16 bits can be
abbrev pub short_values : ℕ
short_values = 65536

-- -32,768 as 16 bits, which stands for nothing; from it on they are negative
abbrev pub nothing : ℕ
nothing = 0x8000

-- -1 as 16 bits
abbrev pub short_minus_one : ℕ
short_minus_one = 0xffff

-- the bits of |c|, from the bits of c
abbrev pub size : ℕ → ℕ
size w = w % sign_bit

-- the sign of c
abbrev pub negative : ℕ → Bool
negative w = leb sign_bit w

-- 'absolute values up to the float 3F800008', which no NaN is
unfoldable pub within : ℕ → Bool
within w = leb (size w) furthest

-- '.. are first cut to 1': the bits of |c|, so cut
unfoldable pub cut : ℕ → ℕ
cut w = min (size w) one_bits

-- The float of bits m, not negative and finite, is digits m / 2 ^ places m: its digits, as a whole number,
unfoldable pub digits : ℕ → ℕ
digits m = cond (ltb m leading) m (leading + m % leading)

-- and how many of them stand past the point
unfoldable pub binary_places : ℕ → ℕ
binary_places m = cond (ltb m leading) 149 (150 - m / leading)

-- 32,767 times the float of bits m is scaled m / parts m, exactly: how many parts it is,
unfoldable pub scaled : ℕ → ℕ
scaled m = full_scale * digits m

-- and how many parts are 1
unfoldable pub parts : ℕ → ℕ
parts m = 2 ^ binary_places m

-- 'the whole number nearest to 32,767c', for a c of bits m that is not negative
unfoldable pub units : ℕ → ℕ
units m = nearest (scaled m) (parts m)

-- the number of size q, with its sign, as 16 bits in two's complement: -q is 65,536 - q, and -0 is 0
unfoldable pub signed : Bool → ℕ → ℕ
signed s q = cond s ((short_values - q) % short_values) q

-- a component as it is packed, from the bits of c
unfoldable pub component : ℕ → ℕ
component w = signed (negative w) (units (cut w))

-- how far a number of 16 bits in two's complement is from 0
unfoldable pub amount : ℕ → ℕ
amount n = cond (ltb n nothing) n (short_values - n)
