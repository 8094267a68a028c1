-- Every reading of every frame has finite directions. Assumes nothing.
use Prim.Native.Nat.{ℕ}
use mathlib.Core.Bool.{◌&&◌}
use mathlib.Core.List.{List, [], ◌∷◌, map}
use lib.Dec.{eqb}
use lib.Ieee.{Float}
use Rattle.tangent.specs.declared.Reading.{Reading}
use Rattle.tangent.specs.declared.Reading.TheVariants.{Absent}
use Rattle.tangent.specs.Space.{reached}
use Rattle.tangent.specs.Finite.{Pointing, FiniteReading, absent}
use Rattle.tangent.specs.Held.{HeldSpace}
use Rattle.tangent.proofs.Held.{zero_held}
use Rattle.tangent.proofs.Finite.{units-point, reached-finite, copy-finite}
use Rattle.definition.specs.declared.Corner.{Corner}
use Rattle.definition.specs.declared.Triangle.{Triangle}
use Rattle.definition.specs.declared.Sum.{Sum}
use Rattle.lists.specs.Lists.{run}
use Rattle.definition.specs.Triangles.{triangles}
use Rattle.definition.specs.Step4Order.{sound}
use Rattle.definition.specs.Step5Links.{links}
use Rattle.definition.specs.Step6Groups.{Mark, marks}
use Rattle.definition.specs.Step7Sums.{empty_sum, contribute, finish, evaluate, Brought, bring, brought_all}
use Rattle.definition.specs.Step8Slots.{put, reading}
use Rattle.definition.specs.Frames.{numbered, frames}
use Rattle.lists.specs.Every.{Every, every_nil, every_cons}
use Rattle.laws.proofs.Part.{every-keep}
use Rattle.laws.proofs.Held.{run-held}
use Rattle.laws.proofs.Readings.{frames-every}

-- ---- what is brought

finish-points : (z : Sum) → HeldSpace z.weighted → Pointing (finish z).space
unfolding finish
finish-points z h = units-point z.weighted.s z.weighted.t _ _ h.s_held h.t_held

pub evaluate-points : (c : Corner) (l : List Triangle) → Pointing (evaluate c l).space
unfolding evaluate
evaluate-points c l = finish-points (run (contribute c) empty_sum l) (run-held c l empty_sum zero_held)

abbrev PointingBrought : Brought → Type 0
PointingBrought b = Pointing b.value.space

brought-points : (h : Float) (ss : List Triangle) (ms l : List Mark) → Every PointingBrought (map (bring h ss ms) l)
unfolding bring
brought-points h ss ms [] = every_nil
brought-points h ss ms (m ∷ l) = every_cons (evaluate-points _ _) (brought-points h ss ms l)

-- ---- single and combined

puts-finite : (r : Reading) {l : List Brought} → FiniteReading r → Every PointingBrought l → FiniteReading (run put r l)
unfolding run put
puts-finite r h every_nil = h
puts-finite r h (every_cons {x} p q) = puts-finite (reached r x.value x.orientation) (reached-finite r x.value x.orientation h p) q

module _ (bs : List Brought) (P : Every PointingBrought bs) where
  reading-finite : (f i : ℕ) → FiniteReading (reading bs f i)
  unfolding reading
  reading-finite f i = puts-finite Absent absent (every-keep (λ b. eqb b.face f && eqb b.slot i) P)

-- single, combined or copied: of every face every slot
pub frames-finite : (h : Float) (m : List (List Corner)) → Every (Every FiniteReading) (frames h m)
unfolding brought_all
frames-finite h m =
    let ss = sound (triangles (numbered 0 m)) in
    let ms = marks ss (links ss) in
    frames-every FiniteReading absent copy-finite h m (reading-finite (brought_all h ss ms) (brought-points h ss ms ms))
