-- Request E3 of document 02, 'Narrow angles are too coarse': what holds of the amended angle, over every number. Definitions only.
use Rattle.std.specs.Prelude.{ℕ, ◌+◌, ◌^◌, ◌≤◌, ◌≡◌, false, T, Float}
use Rattle.std.specs.Float.{binary32}
use Rattle.std.specs.Float.Ieee.{fits, lt, le, neg}
use Rattle.std.specs.Float.Ieee.Exact.{HasValue}
use Rattle.bits.specs.Word.{word, number}
use Rattle.bits.specs.Single.{◌-ᶠ◌, ◌/ᶠ◌, zeroᶠ, halfᶠ, oneᶠ}
use Rattle.angle.specs.Angle.{plain_way, half_sine, amended_way, angle}

-- a is g / 2^24; 1 - a, in single precision, is q / 2^24, where g + q is 2^24; and its half is half of that: neither is rounded
pub record Exact (a : Float) : Type 0 where
  pub g : ℕ
  pub q : ℕ
  pub one : g + q ≡ 2 ^ 24
  pub size : HasValue a false g (2 ^ 24)
  pub difference : HasValue (oneᶠ -ᶠ a) false q (2 ^ 24)
  pub half : HasValue ((oneᶠ -ᶠ a) /ᶠ number 0x4000_0000) false q (2 ^ 25)

pub record Promised : Type 0 where
  -- 'The answers at 1, 0 and -1 stay'
  pub ends : (word (angle (number 0x3f80_0000)) ≡ 0) × (word (angle (number 0)) ≡ 0x3fc9_0fdb) × (word (angle (number 0xbf80_0000)) ≡ 0x4049_0fdb)
  -- 'absolute value above 1/2': at 1/2 and at -1/2 the old rule stays
  pub at_half : (amended_way halfᶠ ≡ plain_way halfᶠ) × (amended_way (neg halfᶠ) ≡ plain_way (neg halfᶠ))
  -- 'w, the root of (1 - |x|) / 2': the difference and the half lose nothing, so that the root is what is rounded, once
  pub exact : (a : Float) → T (fits binary32 a) → T (lt halfᶠ a) → T (le a oneᶠ) → Exact a
  -- w is from 0 to 1/2: 'the old rule' is read of a number that is not above 1/2
  pub small : (a : Float) → T (lt halfᶠ a) → T (le a oneᶠ) → T (le zeroᶠ (half_sine a)) × T (le (half_sine a) halfᶠ)
  -- B is at most 2^29: 2^30 - 2B takes nothing from less
  pub half_turn : (a : Float) → T (lt halfᶠ a) → T (le a oneᶠ) → plain_way (half_sine a) ≤ 2 ^ 29
  -- a falling angle is not promised: of 1/2 and of the next greater number A is
  pub rises : (amended_way (number 0x3f00_0000) ≡ 357913735) × (amended_way (number 0x3f00_0001) ≡ 357914332)
