-- Step 9, one copy after the other: each makes a slot final, and leaves the final ones final. Assumes nothing.
use Prim.Native.Nat.{ℕ, suc, ◌+◌, ◌*◌, ◌-◌, ◌/◌, ◌%◌, ◌≤◌, ◌<◌}
use native.Mathlib.Omega.{arith}
use mathlib.Core.Path.{◌≡◌, refl, sym, ◌∙◌, ap, subst}
use mathlib.Core.Bool.{Bool, true, false, cond, ◌&&◌, ◌||◌, true≢false, false≢true}
use mathlib.Core.List.{List, [], ◌∷◌, ◌++◌}
use mathlib.Core.Option.{Option, none, some}
use lib.Dec.{eqb, ltb}
use lib.ListN.{length, get_or, take, length-append}
use lib.Ieee.{Float}
use borrow.Author.Tests.{eqb-true, ltb-true, ltb-false}
use Rattle.definition.proofs.Lengths.{mesh-length}
use Rattle.math.specs.Vector.{equals}
use Rattle.tangent.specs.declared.Reading.{Reading}
use Rattle.tangent.specs.declared.Reading.TheVariants.{Absent}
use Rattle.tangent.specs.Slot.{flag}
use Rattle.tangent.specs.Space.{copy_of}
use Rattle.tangent.specs.Held.{HeldReading}
use Rattle.lists.specs.Loops.{up_to}
use Rattle.table.specs.Table.{cell}
use Rattle.table.specs.Columns.{corner_column, slot_column, vertex_column}
use Rattle.lists.proofs.Loops.{up_to-ind, last-or-before}
use Rattle.definition.specs.declared.Corner.{Corner}
use Rattle.definition.specs.declared.Kept.{Kept}
use Rattle.definition.specs.declared.Triangle.{Triangle}
use Rattle.lists.specs.Lists.{first, has}
use Rattle.definition.specs.Mesh.{Third, one, two, three, Spot, kept, corner_of, slot_of}
use Rattle.definition.specs.Handed.{Handed, handed, vector_at, corner_at, mesh_from, corner_count, slot_count}
use Rattle.definition.specs.Triangles.{nook, pieces, triangles}
use Rattle.definition.specs.Frames.{numbered, triangles_of}
use Rattle.definition.specs.Step4Order.{is_sound, sound, broken, spots}
use Rattle.definition.specs.Step7Sums.{Brought}
use Rattle.definition.specs.Step8Slots.{reading}
use Rattle.definition.specs.Step9Copies.{copied, from_sound, final_of}
use Rattle.lists.specs.Every.{Every}
use Rattle.laws.proofs.Part.{every_map, every_append, every-keep, every-pair}
use Rattle.laws.proofs.Numbers.{pieces-face}
use Rattle.bits.proofs.Bools.{and_left, and_right}
use Rattle.laws.proofs.Marked.{keeps_at}
use Rattle.slots.specs.Slots.{copied_at, cleared_at}
use Rattle.slots.proofs.Laws.{copy_shows, clear-shows}
use Rattle.view.specs.Rows.{num, third, row}
use Rattle.view.specs.Records.{Told, Tells, Corners}
use Rattle.view.specs.Weld.{Vertices}
use Rattle.view.specs.Answer.{HasSlot, Slotted, Shows, changed, final_seen}
use Rattle.view.proofs.Lists.{every-index, index-every}
use Rattle.view.proofs.Rows.{row_is, tri-lt}
use Rattle.view.proofs.Answer.{changed-there, slots_same, mesh-slotted, slotted-sound-broken}
use Rattle.records.specs.Fields.{marked_at}
use Rattle.copies.specs.Copies.{corner_copied, triangle_copied, broken_copied, missed, missed_at, kept_at, equal_at, missing_copied, missings_copied, frames_copied, Left, Copied}
use Rattle.copies.proofs.Faces.{equal_corner, finds, Settles, all_settled}
use Rattle.copies.proofs.Places.{Placed, all_placed, corner-is, final-is, four-slots, slot-below, every_front, every_back, every-piece}
use Rattle.copies.proofs.Firsts.{first-sound, no-sound, sound-below, broken-above, sound_is, broken-is, every-again}

-- ---- numbers and rows

-- the number of the corner that a marked triangle misses, where those of the face start at number `base`
missed-is : (base k j : ℕ) → k ≡ cond (eqb j 0) 1 0 → missed (base + k) j ≡ base + j
unfolding missed
missed-is base k j e = go (eqb j 0) refl e
  where
    go : (b : Bool) → eqb j 0 ≡ b → k ≡ cond b 1 0 → cond b (base + k - 1) (base + k + j) ≡ base + j
    go true q e = let z = eqb-true j 0 q in omega arith
    go false q e = omega arith

-- k is the row of the corner o of x, which is triangle number t
record Row (x : Triangle) (t k : ℕ) (o : Option Spot) : Type 0 where
  spot : Third
  row_at : k ≡ row t spot
  spot_is : o ≡ some (record { tri = x; at = spot })

-- the first of three that passes a test
first-row : (x : Triangle) (t : ℕ) (p q r : Bool) → (p || (q || (r || false))) ≡ true
    → Row x t (cond p (3 * t) (cond q (3 * t + 1) (3 * t + 2))) (cond p (some (record { tri = x; at = one })) (cond q (some (record { tri = x; at = two })) (cond r (some (record { tri = x; at = three })) none)))
unfolding num
first-row x t true q r e = record { spot = one; row_at = first t; spot_is = refl }
  where
    first : (t : ℕ) → 3 * t ≡ 3 * t + 0
    first t = omega arith
first-row x t false true r e = record { spot = two; row_at = refl; spot_is = refl }
first-row x t false false true e = record { spot = three; row_at = refl; spot_is = refl }
first-row x t false false false e = absurd (false≢true e)

-- the first corner at c's position, where there is one
equal-row : (x : Triangle) (c : Corner) (t : ℕ) → keeps_at x c ≡ true
    → Row x t (cond (equals (kept x one).corner.place c.place) (3 * t) (cond (equals (kept x two).corner.place c.place) (3 * t + 1) (3 * t + 2))) (first (λ s. equals (corner_of s).place c.place) (spots (x ∷ [])))
unfolding keeps_at has spots first corner_of
equal-row x c t e = first-row x t (same one) (same two) (same three) e
  where
    same : Third → Bool
    same i = equals (kept x i).corner.place c.place

-- ---- one slot

module _ (sizes a₀ : List ℕ) (Fin : ℕ → ℕ → Reading) where
  -- the list u shows readings that are final wherever the readings R are, and of which P is known
  pub record Goes (R : ℕ → ℕ → Reading) (P : (ℕ → ℕ → Reading) → Type 0) (u : List ℕ) : Type 0 where
    pub next : ℕ → ℕ → Reading
    pub shows : Shows sizes next a₀ u
    pub stays : (f i : ℕ) → R f i ≡ Fin f i → next f i ≡ Fin f i
    pub known : P next

  -- a slot takes its final reading
  pub one-final : (R : ℕ → ℕ → Reading) (f i : ℕ) (r : Reading) (u : List ℕ) → r ≡ Fin f i → Shows sizes (changed R f i r) a₀ u → Goes R (λ Q. Q f i ≡ Fin f i) u
  unfolding changed
  one-final R f i r u e s = record {
    next = changed R f i r;
    shows = s;
    stays = λ g j h. either g j h (eqb g f && eqb j i) refl;
    known = changed-there R f i r ∙ e;
  }
    where
      either : (g j : ℕ) → R g j ≡ Fin g j → (b : Bool) → (eqb g f && eqb j i) ≡ b → cond b r (R g j) ≡ Fin g j
      either g j h true q = e ∙ sym (λ z. Fin (eqb-true g f (and_left (eqb g f) (eqb j i) q) z) (eqb-true j i (and_right (eqb g f) (eqb j i) q) z))
      either g j h false q = h

module _ (rows : ℕ) (ps : List Float) (w sizes : List ℕ) (ns ts : List Float) (bs : List Brought) (d : Triangle) (a₀ : List ℕ) (us vs : List Triangle) (see : ℕ → Kept → Kept) where
  -- the mesh of the lists handed in
  abbrev mesh : List (List Corner)
  mesh = mesh_from ps ns ts 0 sizes

  -- its triangles
  abbrev xs : List Triangle
  xs = triangles (numbered 0 mesh)

  -- the sound ones
  abbrev ss : List Triangle
  ss = sound xs

  -- the sound ones, then the degenerate ones
  abbrev ys : List Triangle
  ys = sound xs ++ broken xs

  -- triangle number t
  abbrev at : ℕ → Triangle
  at t = get_or ys t d

  -- what is final in slot i of face f
  abbrev Fin : ℕ → ℕ → Reading
  Fin = final_seen see bs us mesh

  -- triangle number t as step 4 left it
  abbrev left_at : ℕ → Triangle
  left_at t = get_or (us ++ vs) t d

  -- the slot of corner i of triangle t has its final reading
  abbrev Ended : (ℕ → ℕ → Reading) → ℕ → Third → Type 0
  Ended R t i = R (at t).face (kept (at t) i).which ≡ Fin (at t).face (kept (at t) i).which

  -- the slot of the corner that triangle t misses has
  abbrev Filled : (ℕ → ℕ → Reading) → ℕ → Type 0
  Filled R t = R (at t).face (at t).missing ≡ Fin (at t).face (at t).missing

  -- The readings are final at the corners of sound triangles, of degenerate ones that are not marked and stand before number p, and at the corners that marked ones before number q miss.
  pub record Far (p q : ℕ) (R : ℕ → ℕ → Reading) : Type 0 where
    pub own : (t : ℕ) (i : Third) → t < length ss → Ended R t i
    pub broken : (t : ℕ) (i : Third) → length ss ≤ t → t < p → (at t).marked ≡ false → Ended R t i
    pub missed : (t : ℕ) → t < q → (at t).marked ≡ true → Filled R t

  -- the list a shows such readings
  pub record Showing (p q : ℕ) (a : List ℕ) : Type 0 where
    pub readings : ℕ → ℕ → Reading
    pub shows : Shows sizes readings a₀ a
    pub far : Far p q readings

  -- it stays so where what is final stays final
  far-stays : (p q : ℕ) (R Q : ℕ → ℕ → Reading) → Far p q R → ((f i : ℕ) → R f i ≡ Fin f i → Q f i ≡ Fin f i) → Far p q Q
  far-stays p q R Q F s = record {
    own = λ t i h. s _ _ (F.own t i h);
    broken = λ t i l h m. s _ _ (F.broken t i l h m);
    missed = λ t h m. s _ _ (F.missed t h m);
  }

  -- one degenerate triangle more
  far-broken : (p q : ℕ) (R : ℕ → ℕ → Reading) → Far p q R → ((at p).marked ≡ false → (i : Third) → Ended R p i) → Far (suc p) q R
  far-broken p q R F e = record {
    own = F.own;
    broken = λ t i l h m. last-or-before (λ u. (at u).marked ≡ false → length ss ≤ u → Ended R u i) p t h (λ n k. e n i) (λ g n k. F.broken t i k g n) m l;
    missed = F.missed;
  }

  -- one marked triangle more
  far-missed : (p q : ℕ) (R : ℕ → ℕ → Reading) → Far p q R → ((at q).marked ≡ true → Filled R q) → Far p (suc q) R
  far-missed p q R F e = record {
    own = F.own;
    broken = F.broken;
    missed = λ t h m. last-or-before (λ u. (at u).marked ≡ true → Filled R u) q t h e (λ g n. F.missed t g n) m;
  }

  module _ (T : Tells rows (handed sizes ps ns ts) ys d w) (C : Corners rows (handed sizes ps ns ts) ys d w) (L : Left (handed sizes ps ns ts) d us vs see) (W : Vertices rows (us ++ vs) d w) (H : (f i : ℕ) → HeldReading (reading bs f i)) where
    -- ---- what is final, by the number of a triangle

    -- its corners have slots
    slotted : (t : ℕ) → t < length ys → Slotted sizes (at t)
    slotted t h = slotted-sound-broken (mesh-slotted ps ns ts sizes) t d h

    -- and step 9 says this of them
    placed : (t : ℕ) → t < length ys → Placed bs us mesh (at t)
    unfolding sound broken
    placed t h = every-index (every_append (every-keep is_sound (all_placed bs us mesh)) (every-keep (λ x. x.degenerate) (all_placed bs us mesh))) t d h

    -- the final reading at a corner that a triangle keeps
    final-kept : (t : ℕ) (i : Third) → t < length ys → Fin (at t).face (kept (at t) i).which ≡ final_of bs us (at t).face (pieces (at t).face (get_or mesh (at t).face [])) (see (at t).face (kept (at t) i))
    final-kept t i h =
        final-is ps ns ts sizes see bs us (at t).face (kept (at t) i).which ((slotted t h).has i)
        ∙ ap (λ (c : Corner). final_of bs us (at t).face (pieces (at t).face (get_or mesh (at t).face [])) (see (at t).face (nook (kept (at t) i).which c))) (sym (C t h i ∙ ap (corner_at ps ns ts) ((T t h).number i)))

    -- there are as many as step 4 left
    as_many : (t : ℕ) → t < length ys → t < length (us ++ vs)
    as_many t h = omega (arith, h, length-append (sound xs) (broken xs), length-append us vs, L.sound_count, L.broken_count)

    -- a sound one is one of all
    fewer : (t : ℕ) → t < length ss → t < length ys
    fewer t h = omega (arith, h, length-append (sound xs) (broken xs))

    -- of a sound triangle: what was brought
    own-final : (t : ℕ) (i : Third) → t < length ss → Fin (at t).face (kept (at t) i).which ≡ reading bs (at t).face (kept (at t) i).which
    own-final t i h =
        let q = L.same (at t).face (kept (at t) i) in
        final-kept t i (fewer t h) ∙ ((placed t (fewer t h)).own (sound-below xs d t h) i (see (at t).face (kept (at t) i)) q ∙ ap (reading bs (at t).face) q)

    -- of a degenerate one that is not marked: what the first sound corner welded to it has
    broken-final : (t : ℕ) (i : Third) → length ss ≤ t → t < length ys → (at t).marked ≡ false → Fin (at t).face (kept (at t) i).which ≡ from_sound bs us (kept (left_at t) i).corner
    broken-final t i l h m = final-kept t i h ∙ ((placed t h).ends.broken (broken-above xs d t l h) m (see (at t).face (kept (at t) i)) ∙ ap (from_sound bs us) (L.seen t i (as_many t h)))

    -- ---- a corner of a degenerate triangle

    module _ (R : ℕ → ℕ → Reading) (a : List ℕ) (S : Shows sizes R a₀ a) (own : (t : ℕ) (i : Third) → t < length ss → Ended R t i) (t : ℕ) (i : Third) (l : length ss ≤ t) (h : t < length ys) (m : (at t).marked ≡ false) where
      -- the row of the first corner welded to it
      abbrev v : ℕ
      v = cell rows vertex_column (row t i) w

      -- copied from the first sound one
      from-sound : v < 3 * length ss → Goes sizes a₀ Fin R (λ Q. Ended Q t i) (copied_at false (cell rows slot_column v w) (cell rows slot_column (row t i) w) a)
      unfolding from_sound copied slot_of corner_of
      from-sound b =
          let u = v / 3 in
          let j = third (v % 3) in
          let k = tri-lt v (length ss) b in
          let brought = own u j k ∙ own-final u j k in
          one-final sizes a₀ Fin R (at t).face (kept (at t) i).which (copy_of false (R (at u).face (kept (at u) j).which)) _
          (ap (copy_of false) brought
          ∙ sym (broken-final t i l h m ∙ (ap (copied false bs) (first-sound us vs d (kept (left_at t) i).corner v (W t i (as_many t h)) (omega (arith, b, L.sound_count)))
          ∙ (λ z. copy_of false (reading bs (L.face u (as_many u (fewer u k)) z) (L.which u j (as_many u (fewer u k)) z))))))
          ((λ z. copied_at false ((ap (λ (r : ℕ). cell rows slot_column r w) (sym (row_is v)) ∙ (T u (fewer u k)).slot j) z) ((T t h).slot i z) a)
          ∙ copy_shows sizes a₀ R a false (at u).face (kept (at u) j).which (at t).face (kept (at t) i).which ((slotted u (fewer u k)).has j) ((slotted t h).has i) (subst HeldReading (sym brought) (H (at u).face (kept (at u) j).which)) S)

      -- absent where there is none
      from-none : 3 * length ss ≤ v → Goes sizes a₀ Fin R (λ Q. Ended Q t i) (cleared_at (cell rows slot_column (row t i) w) a)
      unfolding from_sound copied slot_of corner_of
      from-none b =
          one-final sizes a₀ Fin R (at t).face (kept (at t) i).which Absent _
          (sym (broken-final t i l h m ∙ ap (copied false bs) (no-sound us vs d (kept (left_at t) i).corner v (W t i (as_many t h)) (omega (arith, b, L.sound_count)))))
          (ap (λ (n : ℕ). cleared_at n a) ((T t h).slot i) ∙ clear-shows sizes a₀ R a (at t).face (kept (at t) i).which ((slotted t h).has i) S)

      -- either way the slot is final
      pub corner-turn : Goes sizes a₀ Fin R (λ Q. Ended Q t i) (corner_copied rows (length ss) w (row t i) a)
      unfolding corner_copied
      corner-turn = go (ltb v (3 * length ss)) refl
        where
          go : (b : Bool) → ltb v (3 * length ss) ≡ b → Goes sizes a₀ Fin R (λ Q. Ended Q t i) (cond b (copied_at false (cell rows slot_column v w) (cell rows slot_column (row t i) w) a) (cleared_at (cell rows slot_column (row t i) w) a))
          go true e = from-sound (ltb-true v (3 * length ss) e)
          go false e = from-none (ltb-false v (3 * length ss) e)

    -- ---- a degenerate triangle

    -- the word tells whether it is marked
    marked-is : (t : ℕ) → t < length ys → marked_at rows w t ≡ (at t).marked
    unfolding marked_at flag
    marked-is t h = ap (λ (n : ℕ). eqb n 1) (T t h).marked ∙ go (at t).marked
      where
        go : (b : Bool) → eqb (cond b 1 0) 1 ≡ b
        go true = refl
        go false = refl

    -- its corner i has copied
    abbrev corner : ℕ → Third → List ℕ → List ℕ
    corner t i a = corner_copied rows (length ss) w (row t i) a

    -- its three corners one after the other
    three-corners : (t q : ℕ) (a : List ℕ) → length ss ≤ t → t < length ys → (at t).marked ≡ false → Showing t q a → Showing (suc t) q (corner t three (corner t two (corner t one a)))
    three-corners t q a l h m S =
        let A = corner-turn S.readings a S.shows S.far.own t one l h m in
        let F = far-stays t q S.readings A.next S.far A.stays in
        let B = corner-turn A.next (corner t one a) A.shows F.own t two l h m in
        let G = far-stays t q A.next B.next F B.stays in
        let C = corner-turn B.next (corner t two (corner t one a)) B.shows G.own t three l h m in
        record {
          readings = C.next;
          shows = C.shows;
          far = far-broken t q C.next (far-stays t q B.next C.next G C.stays) (λ n i. elim i as (λ (j : Third). Ended C.next t j) [ one ↦ C.stays _ _ (B.stays _ _ A.known) | two ↦ C.stays _ _ B.known | three ↦ C.known ]);
        }

    -- and nothing where it is marked
    triangle-turn : (t q : ℕ) (a : List ℕ) → length ss ≤ t → t < length ys → Showing t q a → Showing (suc t) q (triangle_copied rows (length ss) w t a)
    unfolding triangle_copied num
    triangle-turn t q a l h S = subst (λ (b : Bool). Showing (suc t) q (cond b a (after (3 * t)))) (sym (marked-is t h)) (go (at t).marked refl)
      where
        after : ℕ → List ℕ
        after r = corner_copied rows (length ss) w (3 * t + 2) (corner_copied rows (length ss) w (3 * t + 1) (corner_copied rows (length ss) w r a))

        first : 3 * t + 0 ≡ 3 * t
        first = omega arith

        go : (b : Bool) → (at t).marked ≡ b → Showing (suc t) q (cond b a (after (3 * t)))
        go true e = record { readings = S.readings; shows = S.shows; far = far-broken t q S.readings S.far (λ m. absurd (true≢false (sym e ∙ m))) }
        go false e = subst (λ (r : ℕ). Showing (suc t) q (after r)) first (three-corners t q a l h e S)

    -- ---- the corner that a marked triangle misses

    module _ (t : ℕ) (h : t < length ss) (m : (at t).marked ≡ true) where
      -- the triangle, and where the corners of its face start
      abbrev here : Triangle
      here = at t

      abbrev base : ℕ
      base = corner_count (take here.face sizes)

      -- the corner that it misses
      abbrev gone : Corner
      gone = corner_at ps ns ts (base + here.missing)

      -- what the columns tell of it, and step 9
      abbrev told : Told rows (handed sizes ps ns ts) w t here
      told = T t (fewer t h)

      abbrev piece : Placed bs us mesh here
      piece = placed t (fewer t h)

      -- the missing corner has a slot
      gone-slot : HasSlot sizes here.face here.missing
      gone-slot = four-slots ps ns ts sizes here.face here.missing ((slotted t (fewer t h)).has one).face (piece.misses.quad m) piece.misses.begins.small

      -- whose final reading is that of the first corner at its position
      gone-final : Fin here.face here.missing ≡ equal_corner bs here gone
      gone-final =
          let f = here.face in
          let k = nook here.missing gone in
          final-is ps ns ts sizes see bs us f here.missing gone-slot
          ∙ (ap (final_of bs us f (pieces f (get_or mesh f []))) (λ z. nook (L.same f k z) (see f k).corner)
          ∙ (piece.ends.missed (sound-below xs d t h) m (see f k).corner ∙ (λ z. copied true bs (first (λ s. L.place f here.missing (corner_of s).place z) (spots (here ∷ []))))))

      -- and there is one
      gone-found : keeps_at here gone ≡ true
      gone-found =
          ap (keeps_at here) (sym (corner-is ps ns ts sizes gone here.face here.missing gone-slot))
          ∙ finds here.face (get_or mesh here.face []) gone here (piece.ends.found (sound-below xs d t h) m) piece.misses m

      -- the row of the first corner
      first_word : (k : ℕ) → cell rows k (3 * t) w ≡ cell rows k (row t one) w
      unfolding num
      first_word k = let e : 3 * t ≡ 3 * t + 0 = omega arith in ap (λ (r : ℕ). cell rows k r w) e

      -- the words say its number and its slot
      gone-word : (k b : ℕ) → cell rows k (row t one) w ≡ b + (kept here one).which → missed_at rows k w t ≡ b + here.missing
      unfolding kept
      gone-word k b e = (λ z. missed ((first_word k ∙ e) z) (told.missing z)) ∙ missed-is b here.a.which here.missing piece.misses.begins.before

      -- and the row of the corner that it copies
      gone-row : equal_at rows ps w t
          ≡ cond (equals (kept here one).corner.place gone.place) (3 * t) (cond (equals (kept here two).corner.place gone.place) (3 * t + 1) (3 * t + 2))
      unfolding kept_at corner_at num
      gone-row = λ z.
          cond (equals ((ap (vector_at ps) (first_word corner_column) ∙ sym (ap (λ (c : Corner). c.place) (C t (fewer t h) one))) z) (place z)) (3 * t)
          (cond (equals (sym (ap (λ (c : Corner). c.place) (C t (fewer t h) two)) z) (place z)) (3 * t + 1)
          (3 * t + 2))
        where
          place : vector_at ps (missed_at rows corner_column w t) ≡ vector_at ps (base + here.missing)
          place = ap (vector_at ps) (gone-word corner_column base (told.number one))

      -- so the copy is final
      gone-turn : (R : ℕ → ℕ → Reading) (a : List ℕ) → Shows sizes R a₀ a → ((i : Third) → Ended R t i)
          → Goes sizes a₀ Fin R (λ Q. Filled Q t) (copied_at true (cell rows slot_column (equal_at rows ps w t) w) (missed_at rows slot_column w t) a)
      unfolding copied slot_of
      gone-turn R a S own =
          let E = equal-row here gone t gone-found in
          let j = E.spot in
          let brought = own j ∙ own-final t j h in
          one-final sizes a₀ Fin R here.face here.missing (copy_of true (R here.face (kept here j).which)) _
          (ap (copy_of true) brought ∙ sym (gone-final ∙ ap (copied true bs) E.spot_is))
          ((λ z. copied_at true ((ap (λ (r : ℕ). cell rows slot_column r w) (gone-row ∙ E.row_at) ∙ told.slot j) z) (gone-word slot_column (slot_count (take here.face sizes)) (told.slot one) z) a)
          ∙ copy_shows sizes a₀ R a true here.face (kept here j).which here.face here.missing ((slotted t (fewer t h)).has j) gone-slot (subst HeldReading (sym brought) (H here.face (kept here j).which)) S)

    -- and nothing where it is not marked
    missing-turn : (p t : ℕ) (a : List ℕ) → t < length ss → Showing p t a → Showing p (suc t) (missing_copied rows ps w t a)
    unfolding missing_copied
    missing-turn p t a h S = subst (λ (b : Bool). Showing p (suc t) (cond b after a)) (sym (marked-is t (fewer t h))) (go (at t).marked refl)
      where
        after : List ℕ
        after = copied_at true (cell rows slot_column (equal_at rows ps w t) w) (missed_at rows slot_column w t) a

        go : (b : Bool) → (at t).marked ≡ b → Showing p (suc t) (cond b after a)
        go true e =
            let G = gone-turn t h e S.readings a S.shows (λ i. S.far.own t i h) in
            record { readings = G.next; shows = G.shows; far = far-missed p t G.next (far-stays p t S.readings G.next S.far G.stays) (λ m. G.known) }
        go false e = record { readings = S.readings; shows = S.shows; far = far-missed p t S.readings S.far (λ m. absurd (true≢false (sym m ∙ e))) }

    -- ---- all of them

    -- what was brought is final at the corners of sound triangles
    start : (a : List ℕ) → Shows sizes (reading bs) a₀ a → Showing (length ss) 0 a
    start a S = record {
      readings = reading bs;
      shows = S;
      far = record {
        own = λ t i h. sym (own-final t i h);
        broken = λ t i l h m. absurd (omega (arith, l, h));
        missed = λ t h m. absurd (omega (arith, h));
      };
    }

    -- then all degenerate triangles
    all-broken : (a : List ℕ) → Showing (length ss) 0 a → Showing (length ys) 0 (broken_copied rows (length ss) w (length ys) a)
    unfolding broken_copied
    all-broken a S =
        subst (λ (k : ℕ). Showing k 0 (up_to (length ys - length ss) (λ k. triangle_copied rows (length ss) w (length ss + k)) a)) ends
        (up_to-ind (λ (k : ℕ) (u : List ℕ). Showing (length ss + k) 0 u) (λ k. triangle_copied rows (length ss) w (length ss + k)) a (length ys - length ss) (subst (λ (k : ℕ). Showing k 0 a) begins S)
        (λ k u h U. subst (λ (j : ℕ). Showing j 0 (triangle_copied rows (length ss) w (length ss + k) u)) (next k) (triangle-turn (length ss + k) 0 u (omega arith) (omega (arith, h)) U)))
      where
        begins : length ss ≡ length ss + 0
        begins = omega arith

        next : (k : ℕ) → suc (length ss + k) ≡ length ss + suc k
        next k = omega arith

        ends : length ss + (length ys - length ss) ≡ length ys
        ends = omega (arith, length-append (sound xs) (broken xs))

    -- then all missing corners
    all-missing : (a : List ℕ) → Showing (length ys) 0 a → Showing (length ys) (length ss) (missings_copied rows ps w (length ss) a)
    unfolding missings_copied
    all-missing a S = up_to-ind (λ (k : ℕ) (u : List ℕ). Showing (length ys) k u) (missing_copied rows ps w) a (length ss) S (λ k u h U. missing-turn (length ys) k u h U)

    -- then every slot has its final reading
    module _ (R : ℕ → ℕ → Reading) (F : Far (length ys) (length ss) R) where
      -- the slots that triangle x settles are final
      abbrev Done : Triangle → Type 0
      Done x = Settles (λ i. R x.face i ≡ Fin x.face i) x.degenerate x.marked x

      -- of each triangle by its number
      in_order : Every Done ys
      in_order = index-every Done ys d (λ t h. record {
        own = λ e i. F.own t i (sound_is xs d t h e);
        broken = λ e m i. F.broken t i (broken-is xs d t e) h m;
        missed = λ e m. F.missed t (sound_is xs d t h e) m;
      })

      -- so of the triangles of a face
      of-face : (f : ℕ) → f < length mesh → Every (λ x. Settles (λ i. R f i ≡ Fin f i) x.degenerate x.marked x) (pieces f (get_or mesh f []))
      of-face f h =
          every_map (λ x p. subst (λ (g : ℕ). Settles (λ i. R g i ≡ Fin g i) x.degenerate x.marked x) p.0.name p.1)
          (every-pair (pieces-face f (get_or mesh f [])) (every-piece Done 0 mesh (every-again Done xs (every_front Done ss (broken xs) in_order) (every_back Done ss (broken xs) in_order)) f f (omega arith) h))

      -- so of all slots of the face
      everywhere : (f i : ℕ) → HasSlot sizes f i → R f i ≡ Fin f i
      everywhere f i h = all_settled (λ i. R f i ≡ Fin f i) f (get_or mesh f []) (of-face f (omega (arith, h.face, mesh-length ps ns ts 0 sizes))) i (slot-below ps ns ts sizes f i h)

    -- Step 9, by the words, leaves the final readings.
    pub shown : (a : List ℕ) → Shows sizes (reading bs) a₀ a → Shows sizes (final_seen see bs us mesh) a₀ (frames_copied rows (length ss) (length ys) ps w a)
    unfolding frames_copied
    shown a S =
        let E = all-missing (broken_copied rows (length ss) w (length ys) a) (all-broken a (start a S)) in
        slots_same sizes a₀ E.readings Fin _ (everywhere E.readings E.far) E.shows

-- the same as the contract says it
pub copied_frames : (rows n all : ℕ) (ps : List Float) (w a u : List ℕ) → u ≡ frames_copied rows n all ps w a → Copied rows n all ps w a u
copied_frames rows n all ps w a u e = record {
  final = λ sizes ns ts bs d a₀ us vs see en ea T C L W H S. e ∙ (λ z. frames_copied rows (sym en z) (sym ea z) ps w a) ∙ shown rows ps w sizes ns ts bs d a₀ us vs see T C L W H a S;
}

-- where nothing is replaced, the triangles are the mesh's own and each corner is seen as it is
pub left_alone : (mesh : Handed) (d : Triangle) → Left mesh d (sound (triangles_of mesh)) (broken (triangles_of mesh)) (λ f k. k)
left_alone mesh d = record { sound_count = refl; broken_count = refl; face = λ t h. refl; which = λ t i h. refl; seen = λ t i h. refl; same = λ f k. refl; place = λ f j p. refl }
