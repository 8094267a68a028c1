-- Steps 7 and 8 in a shuffle: what is brought to each slot, and its reading. Assumes nothing.
use Prim.Native.Nat.{ℕ}
use mathlib.Core.Path.{◌≡◌, refl, ap}
use mathlib.Core.Bool.{false, ◌&&◌}
use mathlib.Core.List.{List, map}
use mathlib.Core.Option.{Option, none, some}
use lib.Dec.{eqb}
use lib.Ieee.{Float}
use Rattle.math.specs.declared.Vec3.{Vec3}
use Rattle.tangent.specs.declared.Reading.{Reading}
use Rattle.tangent.specs.declared.Reading.TheVariants.{Absent, Single, Combined, Copied, Filled}
use Rattle.definition.specs.declared.Corner.{Corner}
use Rattle.definition.specs.declared.Triangle.{Triangle}
use Rattle.definition.specs.declared.Sum.{Sum}
use Rattle.definition.specs.Mesh.{Spot, next, prior, corner_of, same_triangle}
use Rattle.definition.specs.Step6Groups.{Mark, members}
use Rattle.definition.specs.Step7Sums.{joins, subgroup, opening, add_spot, contribute, finish, evaluate, Brought, bring, brought_all}
use Rattle.definition.specs.Step8Slots.{put, reading}
use Rattle.lists.specs.Every.{Every}
use Rattle.laws.proofs.Part.{Part, mapped, part-only, part-every, every-keep, part-map, has-map, has-none, run-map}
use Rattle.laws.proofs.World.{World, OursT, moved, moved_spot, next-moved, prior-moved, corner-moved, slot-moved, tri-moved, tri-theirs, spot-moved, theirs-spot, corner-ours}
use Rattle.laws.proofs.Pieces.{Triangles}
use Rattle.laws.proofs.Walking.{moved_mark, OursM, TheirsM, Marks, corner_in-moved}

module _ (w : World) where
  -- ---- subgroups

  members-moved : {ms ns : List Mark} → Marks w ms ns → (m : Mark) → members ns (moved_mark w m) ≡ map (moved_mark w) (members ms m)
  unfolding members moved_mark
  members-moved r m = part-only _ _ (λ x o. spot-moved w x.start m.start) (λ y h. theirs-spot w m.start y.start h.1) r

  joins-moved : (h : Float) (n : Vec3) (a b : Triangle) → joins h n (moved w a) (moved w b) ≡ joins h n a b
  unfolding joins moved
  joins-moved h n a b = rw (w.inj a.face b.face)

  module _ (h : Float) {ss ts : List Triangle} (r : Triangles w ss ts) {ms ns : List Mark} (q : Marks w ms ns) where
    pub subgroup-moved : (m : Mark) → subgroup h ts ns (moved_mark w m) ≡ map (moved w) (subgroup h ss ms m)
    unfolding subgroup moved_mark moved_spot
    subgroup-moved m =
        rw (members-moved q m, corner-moved w m.spot)
        (part-only _ _
        (λ t o. rw (has-map (moved_mark w) (λ k. same_triangle k.spot.tri t) (λ k. same_triangle k.spot.tri (moved w t)) (λ x. tri-moved w x.spot.tri t) (members ms m), joins-moved))
        (λ t g. rw (has-none (moved_mark w) (λ k. same_triangle k.spot.tri t) (λ x. tri-theirs w x.spot.tri t g) (members ms m)))
        r)

    pub subgroup-ours : (m : Mark) → Every (OursT w) (subgroup h ss ms m)
    unfolding subgroup
    subgroup-ours m = every-keep _ (part-every r)

  -- ---- sums

  opening-moved : (s : Spot) → opening (moved_spot w s) ≡ opening s
  unfolding opening
  opening-moved s = rw (next-moved w s, prior-moved w s, corner-moved w s, corner-moved w (next s), corner-moved w (prior s))

  add_spot-moved : (z : Sum) (o : Option Spot) → add_spot z (mapped (moved_spot w) o) ≡ add_spot z o
  unfolding add_spot mapped moved_spot moved
  add_spot-moved z none = refl
  add_spot-moved z (some s) = rw (opening-moved s, corner-moved w s)

  contribute-moved : (c : Corner) → w.OursC c → (z : Sum) (t : Triangle) → OursT w t → contribute c z (moved w t) ≡ contribute c z t
  unfolding contribute moved
  contribute-moved c h z t o = rw (corner_in-moved w c t h o, add_spot-moved)

  pub evaluate-moved : (c : Corner) → w.OursC c → {l : List Triangle} → Every (OursT w) l → evaluate c (map (moved w) l) ≡ evaluate c l
  unfolding evaluate
  evaluate-moved c h r = ap finish (run-map (OursT w) (moved w) (contribute c) (contribute-moved c h) _ r)

  -- ---- what is brought

  unfoldable pub moved_brought : Brought → Brought
  moved_brought b = record { face = w.rho b.face; slot = b.slot; value = b.value; orientation = b.orientation }

  abbrev pub OursB : Brought → Type 0
  OursB b = Unit {0}

  abbrev pub TheirsB : Brought → Type 0
  TheirsB b = (n : ℕ) → eqb b.face (w.rho n) ≡ false

  abbrev pub Broughts : List Brought → List Brought → Type 0
  Broughts l k = Part moved_brought OursB TheirsB l k

  module _ (h : Float) {ss ts : List Triangle} (r : Triangles w ss ts) {ms ns : List Mark} (q : Marks w ms ns) where
    bring-moved : (m : Mark) → OursM w m → bring h ts ns (moved_mark w m) ≡ moved_brought (bring h ss ms m)
    unfolding bring moved_brought moved_mark moved_spot moved
    bring-moved m o =
        let e : evaluate (corner_of (moved_spot w m.start)) (subgroup h ts ns (moved_mark w m)) ≡ evaluate (corner_of m.start) (subgroup h ss ms m) =
        rw (corner-moved w m.start, subgroup-moved h r q m) (evaluate-moved (corner_of m.start) (corner-ours w m.start o.1) (subgroup-ours h r q m)) in
        rw (slot-moved w m.spot, e)

    bring-theirs : (m : Mark) → TheirsM w m → TheirsB (bring h ts ns m)
    unfolding bring
    bring-theirs m g = g.0.name

    -- step 7
    pub brought-part : Broughts (brought_all h ss ms) (brought_all h ts ns)
    unfolding brought_all
    brought-part = part-map moved_brought OursB TheirsB (bring h ss ms) (bring h ts ns) bring-moved (λ x o. tt) bring-theirs q

  put-moved : (x : Reading) (b : Brought) → OursB b → put x (moved_brought b) ≡ put x b
  unfolding put moved_brought
  put-moved Absent b o = refl
  put-moved (Single t v) b o = refl
  put-moved (Combined t v) b o = refl
  put-moved (Copied t v) b o = refl
  put-moved (Filled t v) b o = refl

  -- step 8
  pub reading-moved : {l k : List Brought} → Broughts l k → (f i : ℕ) → reading k (w.rho f) i ≡ reading l f i
  unfolding reading moved_brought
  reading-moved {l} {k} r f i =
      rw (part-only (λ b. eqb b.face f && eqb b.slot i) (λ b. eqb b.face (w.rho f) && eqb b.slot i) (λ x o. rw (w.inj x.face f)) (λ y g. rw (g f)) r)
      (run-map OursB moved_brought put put-moved Absent (every-keep _ (part-every r)))
