-- Where the columns stand for the groups, and the answer list shows every slot absent, steps 7 and 8 make it show the definition's readings. Assumes nothing.
use Prim.Native.Nat.{ℕ, suc, ◌+◌, ◌-◌, ◌*◌, ◌/◌, ◌≤◌, ◌<◌}
use native.Mathlib.Omega.{arith}
use mathlib.Core.Path.{◌≡◌, refl, sym, ap, ◌∙◌, subst}
use mathlib.Core.Bool.{Bool, true, false, cond, ◌&&◌}
use mathlib.Core.List.{List, [], ◌∷◌, ◌++◌, append-nil}
use lib.Dec.{eqb}
use lib.ListN.{length, get_or, take, length-map, get_or-map}
use lib.Seq.{take-suc, take-length}
use lib.Ieee.{Float}
use borrow.Author.Tests.{eqb-true}
use Rattle.laws.proofs.Closed.{Between}
use Rattle.math.specs.Held.{HeldVec}
use Rattle.tangent.specs.declared.Reading.{Reading}
use Rattle.tangent.specs.declared.Reading.TheVariants.{Absent}
use Rattle.lists.specs.Loops.{up_to}
use Rattle.table.specs.Table.{cell}
use Rattle.table.specs.Columns.{columns, slot_column, orientation_column, met_column}
use Rattle.lists.proofs.Loops.{up_to-ind}
use Rattle.definition.specs.Handed.{Handed}
use Rattle.definition.specs.declared.Triangle.{Triangle}
use Rattle.lists.specs.Lists.{keep, run}
use Rattle.definition.specs.Mesh.{Third, kept, corner_of, slot_of}
use Rattle.definition.specs.Step5Links.{Link}
use Rattle.definition.specs.Step6Groups.{Mark, marks}
use Rattle.definition.specs.Step7Sums.{Brought, bring, brought_all}
use Rattle.definition.specs.Step8Slots.{put, reading}
use Rattle.definition.specs.Names.{Names}
use Rattle.laws.proofs.World.{eqb-sym}
use Rattle.bits.proofs.Bools.{and_left, and_right}
use Rattle.laws.proofs.Held.{reading-held}
use Rattle.view.specs.Rows.{spot_at}
use Rattle.view.specs.Records.{Tells}
use Rattle.view.specs.Weld.{Sharp}
use Rattle.view.specs.Groups.{Grouping, begin_at, InOrder}
use Rattle.view.specs.Contributions.{Contributed}
use Rattle.view.specs.Answer.{slot_number, HasSlot, Shows, changed, Slotted}
use Rattle.view.proofs.Records.{flag_one}
use Rattle.view.proofs.Rows.{row-div}
use Rattle.view.proofs.Answer.{slots_same}
use Rattle.slots.specs.Slots.{reached_at}
use Rattle.slots.proofs.Laws.{reach-shows}
use Rattle.members.specs.Members.{begin_of}
use Rattle.members.proofs.Triangles.{keep_snoc}
use Rattle.members.proofs.Begins.{plain, grow, below, begin-first, begin-last, of-group}
use Rattle.spaces.specs.Spaces.{reach_row, reach_group, reach_all}
use Rattle.spaces.proofs.Sums.{run-snoc, value-is}

-- ---- readings

-- one more is brought
reading-more : (bs : List Brought) (j f i : ℕ) (e : Brought) → j < length bs → reading (take (suc j) bs) f i ≡ cond (eqb (get_or bs j e).face f && eqb (get_or bs j e).slot i) (put (reading (take j bs) f i) (get_or bs j e)) (reading (take j bs) f i)
unfolding reading
reading-more bs j f i e h =
    ap (λ l. run put Absent (keep p l)) (take-suc bs j e h) ∙ (ap (run put Absent) (keep_snoc p (take j bs) x) ∙ step (p x))
  where
    p : Brought → Bool
    p b = eqb b.face f && eqb b.slot i

    x : Brought
    x = get_or bs j e

    step : (b : Bool) → run put Absent (keep p (take j bs) ++ cond b (x ∷ []) []) ≡ cond b (put (run put Absent (keep p (take j bs))) x) (run put Absent (keep p (take j bs)))
    step true = run-snoc put Absent (keep p (take j bs)) x
    step false = ap (run put Absent) (append-nil (keep p (take j bs)))

-- the slot that it is brought to is the one that changes
changed-is : (R : ℕ → ℕ → Reading) (b : Brought) (g k : ℕ) → changed R b.face b.slot (put (R b.face b.slot) b) g k ≡ cond (eqb b.face g && eqb b.slot k) (put (R g k) b) (R g k)
unfolding changed
changed-is R b g k =
    (λ z. cond (eqb-sym g b.face z && eqb-sym k b.slot z) (put (R b.face b.slot) b) (R g k)) ∙ step (eqb b.face g && eqb b.slot k) refl
  where
    step : (t : Bool) → (eqb b.face g && eqb b.slot k) ≡ t → cond t (put (R b.face b.slot) b) (R g k) ≡ cond t (put (R g k) b) (R g k)
    step true e = λ z. put (R (eqb-true b.face g (and_left _ _ e) z) (eqb-true b.slot k (and_right (eqb b.face g) _ e) z)) b
    step false e = refl

none_read : (f i : ℕ) → reading [] f i ≡ Absent
unfolding reading keep run
none_read f i = refl

-- ---- slots

module _ (rows : ℕ) (mesh : Handed) (ss : List Triangle) (d : Triangle) (groups count : ℕ) (w : List ℕ) (fit : (t : ℕ) (i : Third) → t < length ss → HeldVec (corner_of (spot_at ss d t i)).normal)
    (tells : Tells rows mesh ss d w) (brings : Contributed rows ss d w) (ls : List Link) (B : Between ss ls) (N : Names ss) (S : Sharp ss d) (G : Grouping rows ss d (marks ss ls) groups w) (I : InOrder rows ss groups count w)
    (slotted : (t : ℕ) → t < length ss → Slotted mesh.sizes (get_or ss t d)) (all : count ≡ length (marks ss ls)) (small : count ≤ rows) (room : columns * rows ≤ length w)
    (h : Float) (e : Mark) (a₀ : List ℕ) where
  abbrev ms : List Mark
  ms = marks ss ls

  abbrev bs : List Brought
  bs = brought_all h ss ms

  abbrev at : ℕ → ℕ
  at q = begin_at rows groups count w q

  bs-length : length bs ≡ count
  unfolding brought_all
  bs-length = length-map ms (bring h ss ms) ∙ sym all

  bs-at : (j : ℕ) → get_or bs j (bring h ss ms e) ≡ bring h ss ms (get_or ms j e)
  unfolding brought_all
  bs-at j = get_or-map (bring h ss ms) ms j e

  -- a member of group q + 1 reaches its slot with what it brings
  reached-by : (q j : ℕ) → q < groups → at q ≤ j → j < at (suc q) → (a : List ℕ) → let b = bring h ss ms (get_or ms j e) in (reach_row rows h (at q) (at (suc q) - at q) w (cell rows met_column j w) a ≡ reached_at (slot_number mesh.sizes b.face b.slot) b.value b.orientation a) × HasSlot mesh.sizes b.face b.slot
  unfolding reach_row bring slot_of
  reached-by q j few f g a =
      let l : j < length ms = omega (arith, below rows ss d ms groups count w all G (suc q), g, all) in
      let M = G.member j e l in
      let m = get_or ms j e in
      let n = of-group rows ss d ms groups count w all G e q j few f g in
      let s : suc q ≡ q + 1 = omega arith in
      let v = value-is rows mesh ss d groups count w fit tells brings ls B N S G I h q j e l n few (at q) (at (suc q)) refl (ap at (sym s)) (grow rows ss d ms groups count w all G q) (omega (arith, below rows ss d ms groups count w all G (suc q), small)) room in
      let o = ap (λ r. eqb (cell rows orientation_column (r / 3) w) 1) M.member ∙ (ap (λ t. eqb (cell rows orientation_column t w) 1) (row-div M.tri M.at) ∙ (ap (λ x. eqb x 1) M.way ∙ flag_one m.orientation)) in
      let c = ap (λ r. cell rows slot_column r w) M.member ∙ ((tells M.tri M.inside).slot M.at ∙ ap (λ x. slot_number mesh.sizes x.tri.face (kept x.tri x.at).which) (sym M.is)) in
      ((λ z. reached_at (c z) (v z) (o z) a), subst (λ x. HasSlot mesh.sizes x.tri.face (kept x.tri x.at).which) (sym M.is) ((slotted M.tri M.inside).has M.at))

  one_more : (q j : ℕ) → q < groups → at q ≤ j → j < at (suc q) → (a : List ℕ) → Shows mesh.sizes (reading (take j bs)) a₀ a → Shows mesh.sizes (reading (take (suc j) bs)) a₀ (reach_row rows h (at q) (at (suc q) - at q) w (cell rows met_column j w) a)
  unfolding put
  one_more q j few f g a E =
      let b = bring h ss ms (get_or ms j e) in
      let R = reading (take j bs) in
      let k = reached-by q j few f g a in
      let l : j < length bs = omega (arith, below rows ss d ms groups count w all G (suc q), g, bs-length) in
      subst (λ u. Shows mesh.sizes (reading (take (suc j) bs)) a₀ u) (sym k.0)
      (slots_same mesh.sizes a₀ (changed R b.face b.slot (put (R b.face b.slot) b)) (reading (take (suc j) bs)) (reached_at (slot_number mesh.sizes b.face b.slot) b.value b.orientation a)
      (λ g k s. changed-is R b g k ∙ sym (reading-more bs j g k (bring h ss ms e) l ∙ ap (λ (b : Brought). cond (eqb b.face g && eqb b.slot k) (put (R g k) b) (R g k)) (bs-at j)))
      (reach-shows mesh.sizes a₀ R a b.face b.slot b.value b.orientation k.1 (reading-held h ss ms j b.face b.slot) E))

  -- all of a group
  one_group : (q : ℕ) → q < groups → (a : List ℕ) → Shows mesh.sizes (reading (take (at q) bs)) a₀ a → Shows mesh.sizes (reading (take (at (suc q)) bs)) a₀ (reach_group rows h (at q) (at (suc q)) w a)
  unfolding reach_group
  one_group q few a E =
      let up = grow rows ss d ms groups count w all G q in
      let z : at q ≡ at q + 0 = omega arith in
      let t : at q + (at (suc q) - at q) ≡ at (suc q) = omega arith in
      taken t
      (up_to-ind (λ k u. Shows mesh.sizes (reading (take (at q + k) bs)) a₀ u) (λ k. reach_row rows h (at q) (at (suc q) - at q) w (cell rows met_column (at q + k) w)) a (at (suc q) - at q) (taken z E)
      (λ k u l F. let n : suc (at q + k) ≡ at q + suc k = omega arith in taken n (one_more q (at q + k) few (omega arith) (omega arith) u F)))
    where
      taken : {m n : ℕ} → m ≡ n → {u : List ℕ} → Shows mesh.sizes (reading (take m bs)) a₀ u → Shows mesh.sizes (reading (take n bs)) a₀ u
      taken p {u} F = subst (λ k. Shows mesh.sizes (reading (take k bs)) a₀ u) p F

  -- all groups
  pub all-reached : (a : List ℕ) → Shows mesh.sizes (λ f i. Absent) a₀ a → Shows mesh.sizes (reading bs) a₀ (reach_all rows h groups count w a)
  unfolding reach_all
  all-reached a E =
      let begin = begin-first rows ss d ms groups count w all G e in
      let end = begin-last rows ss d ms groups count w all G in
      let u : List ℕ = up_to groups (λ q. reach_group rows h (begin_of rows groups count w q) (begin_of rows groups count w (suc q)) w) a in
      subst (λ l. Shows mesh.sizes (reading l) a₀ u) (ap (λ n. take n bs) (end ∙ sym bs-length) ∙ take-length bs)
      (up_to-ind (λ q u. Shows mesh.sizes (reading (take (at q) bs)) a₀ u) (λ q. reach_group rows h (begin_of rows groups count w q) (begin_of rows groups count w (suc q)) w) a groups
      (subst (λ n. Shows mesh.sizes (reading (take n bs)) a₀ a) (sym begin) (slots_same mesh.sizes a₀ (λ f i. Absent) (reading []) a (λ f i s. sym (none_read f i)) E))
      (λ q u l F. subst (λ v. Shows mesh.sizes (reading (take (at (suc q)) bs)) a₀ v) (sym (λ z. reach_group rows h (plain rows ss d ms groups count w all G q z) (plain rows ss d ms groups count w all G (suc q) z) w u)) (one_group q l u F)))
