-- What single precision holds stays held: the zero, a combination, a reading reached once more, and whatever words tell of. Assumes nothing.
use mathlib.Core.Bool.{Bool, true, false, cond}
use mathlib.Core.List.{List}
use Prim.Native.Nat.{ℕ}
use lib.Dec.{eqb}
use lib.Ieee.{binary32}
use lib.Ieee.Fits.{mul-fits}
use lib.ListN.{get_or}
use Rattle.bits.specs.Single.{◌+ᶠ◌, halfᶠ}
use Rattle.bits.proofs.Back.{number_fits}
use Rattle.math.specs.Vector as math
use Rattle.math.specs.Held.{HeldVec}
use Rattle.math.proofs.Held.{origin-held, unit-held}
use Rattle.tangent.specs.declared.RawTangentSpace.{RawTangentSpace}
use Rattle.tangent.specs.declared.Reading.{Reading}
use Rattle.tangent.specs.declared.Evaluated.{Evaluated}
use Rattle.tangent.specs.declared.Reading.TheVariants.{Absent, Single, Combined, Copied, Filled}
use Rattle.tangent.specs.Space.{zero_tangent, equals, mean, combine, united, reached, copy_of, copied as copy}
use Rattle.tangent.specs.Slot.{vector_of, space_of, of_origin, reading_of}
use Rattle.tangent.specs.Held.{HeldSpace, HeldReading, absent, single, combined, copied, filled}

pub zero_held : HeldSpace zero_tangent
zero_held = record { s_held = origin-held; t_held = origin-held; s_magnitude_held = number_fits 0; t_magnitude_held = number_fits 0 }

-- what two that differ are combined to
abbrev pub mixed : RawTangentSpace → RawTangentSpace → RawTangentSpace
mixed a b =
    record {
      s = math.unit_of (math.added a.s b.s);
      t = math.unit_of (math.added a.t b.t);
      s_magnitude = mean a.s_magnitude b.s_magnitude;
      t_magnitude = mean a.t_magnitude b.t_magnitude;
    }

pub combine-held : (a b : RawTangentSpace) → HeldSpace a → HeldSpace (combine a b)
unfolding combine mean
combine-held a b h = go (equals a b)
  where
    go : (t : Bool) → HeldSpace (cond t a (mixed a b))
    go true = h
    go false =
        record {
          s_held = unit-held (math.added a.s b.s);
          t_held = unit-held (math.added a.t b.t);
          s_magnitude_held = mul-fits binary32 halfᶠ (a.s_magnitude +ᶠ b.s_magnitude);
          t_magnitude_held = mul-fits binary32 halfᶠ (a.t_magnitude +ᶠ b.t_magnitude);
        }

united-held : (a b : Evaluated) → HeldSpace a.space → HeldSpace (united a b).space
unfolding united
united-held a b h = combine-held a.space b.space h

pub reached-held : (r : Reading) (v : Evaluated) (o : Bool) → HeldReading r → HeldSpace v.space → HeldReading (reached r v o)
unfolding reached
reached-held Absent v o h k = single k
reached-held (Single u w) v o (single h) k = combined (united-held u v h)
reached-held (Combined u w) v o (combined h) k = combined (united-held u v h)
reached-held (Copied u w) v o (copied h) k = combined (united-held u v h)
reached-held (Filled u w) v o (filled h) k = combined (united-held u v h)

-- a copy
pub copy-held : (quad : Bool) (r : Reading) → HeldReading r → HeldReading (copy_of quad r)
unfolding copy_of copy
copy-held quad Absent h = absent
copy-held true (Single u o) (single h) = filled h
copy-held false (Single u o) (single h) = copied h
copy-held true (Combined u o) (combined h) = filled h
copy-held false (Combined u o) (combined h) = copied h
copy-held true (Copied u o) (copied h) = filled h
copy-held false (Copied u o) (copied h) = copied h
copy-held true (Filled u o) (filled h) = filled h
copy-held false (Filled u o) (filled h) = copied h

vector-held : (x y z : ℕ) → HeldVec (vector_of x y z)
unfolding vector_of
vector-held x y z = record { x_held = number_fits x; y_held = number_fits y; z_held = number_fits z }

pub space-held : (l : List ℕ) → HeldSpace (space_of l)
unfolding space_of
space-held l =
    record {
      s_held = vector-held (get_or l 1 0) (get_or l 2 0) (get_or l 3 0);
      t_held = vector-held (get_or l 4 0) (get_or l 5 0) (get_or l 6 0);
      s_magnitude_held = number_fits (get_or l 7 0);
      t_magnitude_held = number_fits (get_or l 8 0);
    }

by-origin : (n : ℕ) (e : Evaluated) (o : Bool) → HeldSpace e.space → HeldReading (of_origin n e o)
unfolding of_origin
by-origin n e o h = go (eqb n 1) (eqb n 3) (eqb n 4)
  where
    go : (a b c : Bool) → HeldReading (cond a (Single e o) (cond b (Copied e o) (cond c (Filled e o) (Combined e o))))
    go true b c = single h
    go false true c = copied h
    go false false true = filled h
    go false false false = combined h

pub reading-held : (l : List ℕ) → HeldReading (reading_of l)
unfolding reading_of
reading-held l = go (eqb (get_or l 0 0) 0)
  where
    e : Evaluated
    e = record { space = space_of l; behind = get_or l 11 0 }

    go : (t : Bool) → HeldReading (cond t Absent (of_origin (get_or l 10 0) e (eqb (get_or l 9 0) 1)))
    go true = absent
    go false = by-origin (get_or l 10 0) e (eqb (get_or l 9 0) 1) (space-held l)
