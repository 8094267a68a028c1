-- Step 5 in a shuffle: the links of a mesh are a part of the links of the larger one. Assumes nothing.
use mathlib.Core.Path.{◌≡◌, refl}
use mathlib.Core.Bool.{Bool, true, false, cond, not, ◌&&◌}
use mathlib.Core.List.{List}
use mathlib.Core.Option.{Option, none, some}
use Rattle.definition.specs.declared.Triangle.{Triangle}
use Rattle.lists.specs.Lists.{first}
use Rattle.definition.specs.Mesh.{Spot, next, corner_of, same_spot}
use Rattle.definition.specs.Step5Links.{Link, end_of, opposite, linked, add_link, link_one, link_all, links, beyond}
use Rattle.lists.specs.Every.{Each, each_none, each_some}
use Rattle.laws.proofs.Part.{Part, nothing, mine, other, mapped, part-first, first-ours, first-theirs, part-has, part-cond, part-cond-other, cond-each₂}
use Rattle.laws.proofs.World.{World, moved_spot, OursS, TheirsS, next-moved, next-ours, next-theirs, corner-moved, spot-moved, spot-theirs, theirs-spot, corner-ours, corner-theirs, weld-theirs, weld-ours}
use Rattle.laws.proofs.Pieces.{Triangles, Spots, spots-part}

module _ (w : World) where
  unfoldable pub moved_link : Link → Link
  moved_link l = record { near = moved_spot w l.near; far = moved_spot w l.far }

  abbrev pub OursL : Link → Type 0
  OursL l = OursS w l.near × OursS w l.far

  abbrev pub TheirsL : Link → Type 0
  TheirsL l = TheirsS w l.near × TheirsS w l.far

  abbrev pub Links : List Link → List Link → Type 0
  Links l k = Part moved_link OursL TheirsL l k

  -- ---- the tests

  pub end_moved : (s : Spot) → end_of (moved_spot w s) ≡ end_of s
  unfolding end_of
  end_moved s = rw (next-moved w s) (corner-moved w (next s))

  pub opposite-moved : (s t : Spot) → opposite (moved_spot w s) (moved_spot w t) ≡ opposite s t
  unfolding opposite
  opposite-moved s t = rw (corner-moved w s, corner-moved w t, end_moved s, end_moved t)

  opposite-theirs : (s t : Spot) → OursS w s → TheirsS w t → opposite (moved_spot w s) t ≡ false
  unfolding opposite end_of
  opposite-theirs s t o h = rw (corner-moved w s, weld-theirs w (corner_of s) (next t) (corner-ours w s o) (next-theirs w t h))

  theirs-opposite : (s t : Spot) → TheirsS w s → OursS w t → opposite s (moved_spot w t) ≡ false
  unfolding opposite end_of
  theirs-opposite s t h o = rw (next-moved w t, corner-moved w (next t), weld-ours w (corner_of s) (next t) (corner-theirs w s h) (next-ours w t o))

  pub linked-moved : {l k : List Link} → Links l k → (s : Spot) → linked k (moved_spot w s) ≡ linked l s
  unfolding linked moved_link
  linked-moved r s = part-has _ _ (λ x o. rw (spot-moved w x.near s, spot-moved w x.far s)) (λ y h. rw (theirs-spot w s y.near h.0, theirs-spot w s y.far h.1)) r

  -- ---- one side

  add-ours : {l k : List Link} → Links l k → (s : Spot) (o : Option Spot) → OursS w s → Each (OursS w) o → Links (add_link s o l) (add_link (moved_spot w s) (mapped (moved_spot w) o) k)
  unfolding add_link mapped moved_link
  add-ours r s none h each_none = r
  add-ours r s (some t) h (each_some g) = mine (h, g) r

  add-theirs : {l k : List Link} → Links l k → (s : Spot) (o : Option Spot) → TheirsS w s → Each (TheirsS w) o → Links l (add_link s o k)
  unfolding add_link
  add-theirs r s none h each_none = r
  add-theirs r s (some t) h (each_some g) = other (h, g) r

  one-ours : {l k : List Link} {ss ts : List Spot} → Links l k → Spots w ss ts → (s : Spot) → OursS w s → Links (link_one l s ss) (link_one k (moved_spot w s) ts)
  unfolding link_one
  one-ours {l} {k} {ss} {ts} r q s o =
      let e : first (λ t. opposite (moved_spot w s) t && not (linked k t)) ts ≡ mapped (moved_spot w) (first (λ t. opposite s t && not (linked l t)) ss) =
      part-first _ _ (λ x g. rw (opposite-moved s x, linked-moved r x)) (λ y h. rw (opposite-theirs s y o h)) q in
      rw (linked-moved r s, e) (part-cond moved_link OursL TheirsL (linked l s) r (add-ours r s _ o (first-ours _ q)))

  one-theirs : {l k : List Link} {ss ts : List Spot} → Links l k → Spots w ss ts → (s : Spot) → TheirsS w s → Links l (link_one k s ts)
  unfolding link_one
  one-theirs {l} {k} {ss} {ts} r q s h =
      let e : (x : Spot) → OursS w x → (opposite s (moved_spot w x) && not (linked k (moved_spot w x))) ≡ false = λ x o. rw (theirs-opposite s x h o) in
      part-cond-other moved_link OursL TheirsL (linked k s) r (add-theirs r s _ h (first-theirs (λ t. opposite s t && not (linked k t)) e q))

  -- ---- all sides

  pub link_all-part : {l k : List Link} {ss ts : List Spot} → Spots w ss ts → Links l k → Links (link_all l ss) (link_all k ts)
  unfolding link_all
  link_all-part nothing r = r
  link_all-part {l = l} {k = k} (mine {x = s} {l = l'} {k = k'} o q) r = link_all-part {l = link_one l s l'} {k = link_one k (moved_spot w s) k'} q (one-ours r q s o)
  link_all-part {l = l} {k = k} (other {y = s} {k = k'} h q) r = link_all-part {l = l} {k = link_one k s k'} q (one-theirs r q s h)

  -- step 5
  pub links-part : {l k : List Triangle} → Triangles w l k → Links (links l) (links k)
  unfolding links
  links-part r = link_all-part (spots-part w r) nothing

  -- ---- the side beyond a side

  cond-beyond : (b c : Bool) (x y : Spot) (o : Option Spot) → cond b (some (moved_spot w x)) (cond c (some (moved_spot w y)) (mapped (moved_spot w) o)) ≡ mapped (moved_spot w) (cond b (some x) (cond c (some y) o))
  unfolding mapped
  cond-beyond true c x y o = refl
  cond-beyond false true x y o = refl
  cond-beyond false false x y o = refl

  pub beyond-moved : {l k : List Link} → Links l k → (s : Spot) → beyond k (moved_spot w s) ≡ mapped (moved_spot w) (beyond l s)
  unfolding beyond moved_link mapped
  beyond-moved nothing s = refl
  beyond-moved (mine {x} {l} o r) s =
      rw (spot-moved w x.near s, spot-moved w x.far s, beyond-moved r s) (cond-beyond (same_spot x.near s) (same_spot x.far s) x.far x.near (beyond l s))
  beyond-moved (other {y} h r) s = rw (theirs-spot w s y.near h.0, theirs-spot w s y.far h.1) (beyond-moved r s)

  pub beyond-ours : {l k : List Link} → Links l k → (s : Spot) → Each (OursS w) (beyond l s)
  unfolding beyond
  beyond-ours nothing s = each_none
  beyond-ours (mine {x} o r) s = cond-each₂ (OursS w) (same_spot x.near s) (same_spot x.far s) x.far x.near o.1 o.0 (beyond-ours r s)
  beyond-ours (other h r) s = beyond-ours r s

  -- beyond a side of theirs lies one of theirs
  pub beyond-theirs : {l k : List Link} → Links l k → (s : Spot) → TheirsS w s → Each (TheirsS w) (beyond k s)
  unfolding beyond moved_link
  beyond-theirs nothing s h = each_none
  beyond-theirs (mine {x} o r) s h = rw (spot-theirs w x.near s h, spot-theirs w x.far s h) (beyond-theirs r s h)
  beyond-theirs (other {y} g r) s h = cond-each₂ (TheirsS w) (same_spot y.near s) (same_spot y.far s) y.far y.near g.1 g.0 (beyond-theirs r s h)
