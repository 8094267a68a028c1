-- Single precision holds what each member brings, and every reading. Assumes nothing.
use Prim.Native.Nat.{ℕ, zero, suc}
use mathlib.Core.Bool.{Bool, true, false, cond, ◌&&◌}
use mathlib.Core.List.{List, [], ◌∷◌, map}
use mathlib.Core.Option.{Option, none, some}
use lib.Dec.{eqb}
use lib.ListN.{take}
use lib.Ieee as Ieee
use lib.Ieee.{Float, binary32}
use lib.Ieee.Fits.{add-fits, div-fits, cond-fits}
use Rattle.bits.specs.Single.{◌*ᶠ◌, ◌/ᶠ◌, zeroᶠ}
use Rattle.math.specs.declared.Vec3.{Vec3}
use Rattle.math.specs.Vector.{scaled_by}
use Rattle.math.proofs.Held.{added-held, unit-held}
use Rattle.tangent.specs.declared.RawTangentSpace.{RawTangentSpace}
use Rattle.tangent.specs.declared.Reading.{Reading}
use Rattle.tangent.specs.declared.Reading.TheVariants.{Absent}
use Rattle.tangent.specs.Space.{reached}
use Rattle.tangent.specs.Held.{HeldSpace, HeldReading, absent}
use Rattle.tangent.proofs.Held.{zero_held, reached-held}
use Rattle.definition.specs.declared.Corner.{Corner}
use Rattle.definition.specs.declared.Triangle.{Triangle}
use Rattle.definition.specs.declared.Sum.{Sum}
use Rattle.lists.specs.Lists.{run}
use Rattle.definition.specs.Mesh.{Spot, corner_of}
use Rattle.definition.specs.Step6Groups.{Mark, corner_in}
use Rattle.definition.specs.Step7Sums.{empty_sum, projected, opening, weighed, add_spot, contribute, finish, evaluate, Brought, bring, brought_all}
use Rattle.definition.specs.Step8Slots.{put, reading}
use Rattle.lists.specs.Every.{Every, every_nil, every_cons}
use Rattle.laws.proofs.Part.{every-keep}

-- ---- sums

weighed-held : (z : Sum) (w : Float) (n : Vec3) (t : RawTangentSpace) → HeldSpace (weighed z w n t).weighted
unfolding weighed
weighed-held z w n t =
    record {
      s_held = added-held z.weighted.s (scaled_by (projected n t.s) w);
      t_held = added-held z.weighted.t (scaled_by (projected n t.t) w);
      s_magnitude_held = add-fits binary32 z.weighted.s_magnitude (w *ᶠ t.s_magnitude);
      t_magnitude_held = add-fits binary32 z.weighted.t_magnitude (w *ᶠ t.t_magnitude);
    }

spot-held : (z : Sum) (o : Option Spot) → HeldSpace z.weighted → HeldSpace (add_spot z o).weighted
unfolding add_spot
spot-held z none h = h
spot-held z (some s) h = weighed-held z (opening s) (corner_of s).normal s.tri.tangent

either_held : (b : Bool) (z y : Sum) → HeldSpace z.weighted → HeldSpace y.weighted → HeldSpace (cond b z y).weighted
either_held true z y h k = h
either_held false z y h k = k

pub run-held : (c : Corner) (l : List Triangle) (z : Sum) → HeldSpace z.weighted → HeldSpace (run (contribute c) z l).weighted
unfolding run contribute
run-held c [] z h = h
run-held c (t ∷ l) z h = run-held c l (cond t.any z (add_spot z (corner_in c t))) (either_held t.any z (add_spot z (corner_in c t)) h (spot-held z (corner_in c t) h))

finish-held : (z : Sum) → HeldSpace z.weighted → HeldSpace (finish z).space
unfolding finish
finish-held z h =
    record {
      s_held = unit-held z.weighted.s;
      t_held = unit-held z.weighted.t;
      s_magnitude_held = cond-fits binary32 (Ieee.lt zeroᶠ z.angles) (z.weighted.s_magnitude /ᶠ z.angles) z.weighted.s_magnitude (div-fits binary32 z.weighted.s_magnitude z.angles) h.s_magnitude_held;
      t_magnitude_held = cond-fits binary32 (Ieee.lt zeroᶠ z.angles) (z.weighted.t_magnitude /ᶠ z.angles) z.weighted.t_magnitude (div-fits binary32 z.weighted.t_magnitude z.angles) h.t_magnitude_held;
    }

pub evaluate-held : (c : Corner) (l : List Triangle) → HeldSpace (evaluate c l).space
unfolding evaluate
evaluate-held c l = finish-held (run (contribute c) empty_sum l) (run-held c l empty_sum zero_held)

-- ---- what is brought, and readings

abbrev pub HeldBrought : Brought → Type 0
HeldBrought b = HeldSpace b.value.space

brought-held : (h : Float) (ss : List Triangle) (ms l : List Mark) → Every HeldBrought (map (bring h ss ms) l)
unfolding bring
brought-held h ss ms [] = every_nil
brought-held h ss ms (m ∷ l) = every_cons (evaluate-held _ _) (brought-held h ss ms l)

every_take : {X : Type 0} {P : X → Type 0} (n : ℕ) {l : List X} → Every P l → Every P (take n l)
every_take zero r = every_nil
every_take (suc n) every_nil = every_nil
every_take (suc n) (every_cons p r) = every_cons p (every_take n r)

-- a reading, when more is brought
pub puts-held : (r : Reading) {l : List Brought} → HeldReading r → Every HeldBrought l → HeldReading (run put r l)
unfolding run put
puts-held r h every_nil = h
puts-held r h (every_cons {x} p q) = puts-held (reached r x.value x.orientation) (reached-held r x.value x.orientation h p) q

-- the reading of a slot when all were brought
pub readings-held : (h : Float) (ss : List Triangle) (ms : List Mark) (f i : ℕ) → HeldReading (reading (brought_all h ss ms) f i)
unfolding reading brought_all
readings-held h ss ms f i = puts-held Absent absent (every-keep (λ b. eqb b.face f && eqb b.slot i) (brought-held h ss ms ms))

-- the reading of a slot when the first n of all were brought
pub reading-held : (h : Float) (ss : List Triangle) (ms : List Mark) (n f i : ℕ) → HeldReading (reading (take n (brought_all h ss ms)) f i)
unfolding reading brought_all
reading-held h ss ms n f i = puts-held Absent absent (every-keep (λ b. eqb b.face f && eqb b.slot i) (every_take n (brought-held h ss ms ms)))
