-- What a slot of an answer is worth: one of six verdicts, from its words alone. Definitions only.
use Rattle.std.specs.Prelude.{ℕ, zero, suc, ◌+◌, Bool, false, cond, not, ◌&&◌, ◌||◌, List, get_or, eqb, leb, ltb}
use Rattle.lists.specs.Parts.{every_below}
use Rattle.packed.specs.Component.{size, within, cut, units}

-- word 0 is 0: there is no frame
abbrev pub absent_slot : ℕ
absent_slot = 0

-- a frame of two directions that can be packed; that they differ is not said
abbrev pub good_slot : ℕ
good_slot = 1

-- word 0 is neither 0 nor 1: what stood there is lost
abbrev pub lost_slot : ℕ
lost_slot = 2

-- word 0 is 1, but the orientation is not one, or the tangent or the bi-tangent is not a direction
abbrev pub blank_slot : ℕ
blank_slot = 3

-- both are directions, but a component is beyond 3F800008: request E5 packs the slot as absent
abbrev pub long_slot : ℕ
long_slot = 4

-- both are directions, and none is beyond, but request E5 packs the tangent or the bi-tangent as three zeros
abbrev pub short_slot : ℕ
short_slot = 5

-- the bits of infinity; without the sign, those of a NaN are above them
abbrev pub infinity_bits : ℕ
infinity_bits = 0x7f80_0000

-- the bits of 2 ^ -126
abbrev pub least_bits : ℕ
least_bits = 0x0080_0000

-- a component is a number: neither NaN nor infinite
unfoldable pub finite : ℕ → Bool
finite w = ltb (size w) infinity_bits

-- document 01: 'Absolute value is above zero only if strictly above bits 00800000'
unfoldable pub counted : ℕ → Bool
counted w = ltb least_bits (size w)

-- request E5 packs a component as something other than 0
unfoldable pub shown : ℕ → Bool
shown w = not (eqb (units (cut w)) 0)

-- whether one of 0, 1, .. n - 1 passes
unfoldable pub some_below : ℕ → (ℕ → Bool) → Bool
some_below zero p = false
some_below (suc n) p = some_below n p || p n

-- one of three words of a slot passes, from word k on
unfoldable pub some_of : (ℕ → Bool) → ℕ → List ℕ → Bool
some_of p k slot = some_below 3 (λ i. p (get_or slot (k + i) 0))

-- the tangent has one, and so has the bi-tangent
unfoldable pub in_both : (ℕ → Bool) → List ℕ → Bool
in_both p slot = some_of p 1 slot && some_of p 4 slot

-- each of the six components passes
unfoldable pub in_all : (ℕ → Bool) → List ℕ → Bool
in_all p slot = every_below 6 (λ i. p (get_or slot (1 + i) 0))

-- an orientation and two directions: the orientation word is 0 or 1, all six components are numbers, and one of either three counts
unfoldable pub directed : List ℕ → Bool
directed slot = leb (get_or slot 9 0) 1 && in_all finite slot && in_both counted slot

-- what a slot is worth whose word 0 is 1
unfoldable pub present_worth : List ℕ → ℕ
present_worth slot = cond (directed slot) (cond (in_all within slot) (cond (in_both shown slot) good_slot short_slot) long_slot) blank_slot

-- what a slot is worth
unfoldable pub worth : List ℕ → ℕ
worth slot = cond (eqb (get_or slot 0 0) 0) absent_slot (cond (eqb (get_or slot 0 0) 1) (present_worth slot) lost_slot)

-- how many of 0, 1, .. n - 1 pass
unfoldable pub count_below : ℕ → (ℕ → Bool) → ℕ
count_below zero p = 0
count_below (suc n) p = count_below n p + cond (p n) 1 0
