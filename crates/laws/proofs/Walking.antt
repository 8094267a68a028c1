-- Step 6 in a shuffle: the marks of a mesh are a part of the marks of the larger one. Assumes nothing.
use Prim.Native.Nat.{ℕ, zero, suc}
use mathlib.Core.Path.{◌≡◌, refl, ◌∙◌, ap}
use mathlib.Core.Bool.{Bool, false, ◌||◌}
use mathlib.Core.List.{List, [], ◌∷◌, ◌++◌}
use mathlib.Core.Option.{Option, none, some}
use lib.ListN.{length, length-map}
use Rattle.definition.specs.declared.Corner.{Corner}
use Rattle.definition.specs.declared.Triangle.{Triangle}
use Rattle.lists.specs.Lists.{keep, run}
use Rattle.definition.specs.Mesh.{Spot, prior, corner_of}
use Rattle.definition.specs.Step4Order.{welded, spots}
use Rattle.definition.specs.Step5Links.{Link, beyond}
use Rattle.definition.specs.Step6Groups.{Mark, grouped, way_of, touched, facing, stops, corner_in, over_to, over, going, walk, fan, start_at, marks}
use Rattle.lists.specs.Every.{Each, each_none, each_some}
use Rattle.laws.proofs.Part.{Part, nothing, mine, other, mapped, part-only, part-first, first-ours, first-theirs, part-has, part-append, part-snoc, part-cond, part-cond-other}
use Rattle.laws.proofs.World.{World, OursT, TheirsT, moved, moved_spot, OursS, TheirsS, prior-moved, prior-theirs, corner-moved, tri-moved, theirs-tri, spot-moved, theirs-spot, corner-ours, corner-theirs, weld-theirs, weld-ours}
use Rattle.laws.proofs.Pieces.{Triangles, Spots, spots-part}
use Rattle.laws.proofs.Linking.{Links, beyond-moved, beyond-ours, beyond-theirs}

module _ (w : World) where
  unfoldable pub moved_mark : Mark → Mark
  moved_mark m = record { spot = moved_spot w m.spot; start = moved_spot w m.start; orientation = m.orientation }

  abbrev pub OursM : Mark → Type 0
  OursM m = OursS w m.spot × OursS w m.start

  abbrev pub TheirsM : Mark → Type 0
  TheirsM m = TheirsS w m.spot × TheirsS w m.start

  abbrev pub Marks : List Mark → List Mark → Type 0
  Marks l k = Part moved_mark OursM TheirsM l k

  -- ---- the tests

  pub grouped-moved : {l k : List Mark} → Marks l k → (s : Spot) → grouped k (moved_spot w s) ≡ grouped l s
  unfolding grouped moved_mark
  grouped-moved r s = part-has _ _ (λ x o. spot-moved w x.spot s) (λ y h. theirs-spot w s y.spot h.0) r

  touched-moved : {l k : List Mark} → Marks l k → (t : Triangle) → touched k (moved w t) ≡ mapped moved_mark (touched l t)
  unfolding touched moved_mark moved_spot
  touched-moved r t = part-first _ _ (λ x o. tri-moved w x.spot.tri t) (λ y h. theirs-tri w t y.spot.tri h.0) r

  way_of-moved : (b : Bool) (o : Option Mark) → way_of b (mapped moved_mark o) ≡ way_of b o
  unfolding way_of mapped moved_mark
  way_of-moved b none = refl
  way_of-moved b (some m) = refl

  facing-moved : {l k : List Mark} → Marks l k → (t : Triangle) (b : Bool) → facing k (moved w t) b ≡ facing l t b
  unfolding facing moved
  facing-moved r t b = rw (touched-moved r t, way_of-moved)

  pub stops-moved : {l k : List Mark} → Marks l k → (b : Bool) (s : Spot) → stops k b (moved_spot w s) ≡ stops l b s
  unfolding stops moved_spot
  stops-moved r b s = rw (grouped-moved r s, facing-moved r s.tri b)

  -- ---- over a side

  pub corner_in-moved : (c : Corner) (t : Triangle) → w.OursC c → OursT w t → corner_in c (moved w t) ≡ mapped (moved_spot w) (corner_in c t)
  unfolding corner_in
  corner_in-moved c t h o = part-first _ _ (λ x g. ap (welded c) (corner-moved w x)) (λ y g. weld-theirs w c y h g) (spots-part w (mine o nothing))

  pub corner_in-ours : (c : Corner) (t : Triangle) → OursT w t → Each (OursS w) (corner_in c t)
  unfolding corner_in
  corner_in-ours c t o = first-ours (λ s. welded c (corner_of s)) (spots-part w (mine o nothing))

  corner_in-theirs : (c : Corner) (t : Triangle) → w.TheirsC c → TheirsT w t → Each (TheirsS w) (corner_in c t)
  unfolding corner_in
  corner_in-theirs c t h o =
      let e : (x : Spot) → OursS w x → welded c (corner_of (moved_spot w x)) ≡ false = λ x g. ap (welded c) (corner-moved w x) ∙ weld-ours w c x h g in
      first-theirs (λ s. welded c (corner_of s)) e (spots-part w (other o nothing))

  over_to-moved : (c : Corner) → w.OursC c → (o : Option Spot) → Each (OursS w) o → over_to c (mapped (moved_spot w) o) ≡ mapped (moved_spot w) (over_to c o)
  unfolding over_to mapped moved_spot
  over_to-moved c h none each_none = refl
  over_to-moved c h (some s) (each_some o) = corner_in-moved c s.tri h o

  over_to-ours : (c : Corner) (o : Option Spot) → Each (OursS w) o → Each (OursS w) (over_to c o)
  unfolding over_to
  over_to-ours c none each_none = each_none
  over_to-ours c (some s) (each_some o) = corner_in-ours c s.tri o

  over_to-theirs : (c : Corner) → w.TheirsC c → (o : Option Spot) → Each (TheirsS w) o → Each (TheirsS w) (over_to c o)
  unfolding over_to
  over_to-theirs c h none each_none = each_none
  over_to-theirs c h (some s) (each_some o) = corner_in-theirs c s.tri h o

  over-moved : {l k : List Link} → Links w l k → (c : Corner) → w.OursC c → (s : Spot) → over k c (moved_spot w s) ≡ mapped (moved_spot w) (over l c s)
  unfolding over
  over-moved {l} q c h s = rw (beyond-moved w q s) (over_to-moved c h (beyond l s) (beyond-ours w q s))

  over-ours : {l k : List Link} → Links w l k → (c : Corner) (s : Spot) → Each (OursS w) (over l c s)
  unfolding over
  over-ours {l} q c s = over_to-ours c (beyond l s) (beyond-ours w q s)

  over-theirs : {l k : List Link} → Links w l k → (c : Corner) → w.TheirsC c → (s : Spot) → TheirsS w s → Each (TheirsS w) (over k c s)
  unfolding over
  over-theirs {k = k} q c h s o = over_to-theirs c h (beyond k s) (beyond-theirs w q s o)

  -- ---- the walk

  going-ours : (F G : List Mark → Spot → List Mark) → ((ms ns : List Mark) → Marks ms ns → (s : Spot) → OursS w s → Marks (F ms s) (G ns (moved_spot w s))) → {ms ns : List Mark} → Marks ms ns → (o : Option Spot) → Each (OursS w) o → Marks (going F ms o) (going G ns (mapped (moved_spot w) o))
  unfolding going mapped
  going-ours F G f r none each_none = r
  going-ours F G f r (some s) (each_some o) = f _ _ r s o

  going-theirs : (G : List Mark → Spot → List Mark) → ((ms ns : List Mark) → Marks ms ns → (s : Spot) → TheirsS w s → Marks ms (G ns s)) → {ms ns : List Mark} → Marks ms ns → (o : Option Spot) → Each (TheirsS w) o → Marks ms (going G ns o)
  unfolding going
  going-theirs G f r none each_none = r
  going-theirs G f r (some s) (each_some o) = f _ _ r s o

  module _ {l k : List Link} (q : Links w l k) (g : Spot) (og : OursS w g) (b : Bool) where
    mark-ours : {ms ns : List Mark} → Marks ms ns → (s : Spot) → OursS w s → Marks (ms ++ (record { spot = s; start = g; orientation = b } ∷ [])) (ns ++ (record { spot = moved_spot w s; start = moved_spot w g; orientation = b } ∷ []))
    unfolding moved_mark
    mark-ours r s o = part-append r (mine (o, og) nothing)

    pub walk-ours : (n : ℕ) {ms ns : List Mark} → Marks ms ns → (s : Spot) → OursS w s → Marks (walk n l g b ms s) (walk n k (moved_spot w g) b ns (moved_spot w s))
    unfolding walk
    walk-ours zero r s o = r
    walk-ours (suc n) {ms} {ns} r s o =
        rw (stops-moved r b s, prior-moved w s, corner-moved w g, over-moved q (corner_of g) (corner-ours w g og) (prior s), over-moved q (corner_of g) (corner-ours w g og) s)
        (part-cond moved_mark OursM TheirsM (stops ms b s) r
        (going-ours _ _ (λ ms' ns' r' s' o'. walk-ours n r' s' o')
        (going-ours _ _ (λ ms' ns' r' s' o'. walk-ours n r' s' o') (mark-ours r s o) (over l (corner_of g) (prior s)) (over-ours q (corner_of g) (prior s)))
        (over l (corner_of g) s) (over-ours q (corner_of g) s)))

  module _ {l k : List Link} (q : Links w l k) (g : Spot) (hg : TheirsS w g) (b : Bool) where
    pub walk-theirs : (n : ℕ) {ms ns : List Mark} → Marks ms ns → (s : Spot) → TheirsS w s → Marks ms (walk n k g b ns s)
    unfolding walk
    walk-theirs zero r s o = r
    walk-theirs (suc n) {ms} {ns} r s o =
        part-cond-other moved_mark OursM TheirsM (stops ns b s) r
        (going-theirs _ (λ ms' ns' r' s' o'. walk-theirs n r' s' o')
        (going-theirs _ (λ ms' ns' r' s' o'. walk-theirs n r' s' o') (part-snoc r _ (o, hg)) (over k (corner_of g) (prior s)) (over-theirs q (corner_of g) (corner-theirs w g hg) (prior s) (prior-theirs w s o)))
        (over k (corner_of g) s) (over-theirs q (corner_of g) (corner-theirs w g hg) s o))

  -- ---- all groups

  pub fan-moved : {ss ts : List Triangle} → Triangles w ss ts → (c : Corner) → w.OursC c → fan ts c ≡ fan ss c
  unfolding fan
  fan-moved {ss} {ts} r c h =
      ap length (part-only _ _ (λ x g. ap (welded c) (corner-moved w x)) (λ y g. weld-theirs w c y h g) (spots-part w r))
      ∙ length-map (keep (λ s. welded c (corner_of s)) (spots ss)) (moved_spot w)

  module _ {ss ts : List Triangle} (r : Triangles w ss ts) {l k : List Link} (q : Links w l k) where
    start-ours : {ms ns : List Mark} → Marks ms ns → (s : Spot) → OursS w s → Marks (start_at ss l ms s) (start_at ts k ns (moved_spot w s))
    unfolding start_at moved_spot moved
    start-ours {ms} {ns} m s o =
        rw (grouped-moved m s, corner-moved w s, fan-moved r (corner_of s) (corner-ours w s o))
        (part-cond moved_mark OursM TheirsM (s.tri.any || grouped ms s) m (walk-ours q s o s.tri.orientation (fan ss (corner_of s)) m s o))

    start-theirs : {ms ns : List Mark} → Marks ms ns → (s : Spot) → TheirsS w s → Marks ms (start_at ts k ns s)
    unfolding start_at
    start-theirs {ms} {ns} m s h =
        part-cond-other moved_mark OursM TheirsM (s.tri.any || grouped ns s) m (walk-theirs q s h s.tri.orientation (fan ts (corner_of s)) m s h)

    run-part : {xs ys : List Spot} → Spots w xs ys → {ms ns : List Mark} → Marks ms ns → Marks (run (start_at ss l) ms xs) (run (start_at ts k) ns ys)
    unfolding run
    run-part nothing m = m
    run-part (mine {x = s} o p) m = run-part p (start-ours m s o)
    run-part (other {y = s} h p) m = run-part p (start-theirs m s h)

    -- step 6
    pub marks-part : Marks (marks ss l) (marks ts k)
    unfolding marks
    marks-part = run-part (spots-part w r) nothing
