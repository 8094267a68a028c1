-- Step 9 in one face: the final readings of its slots, as its triangles say. Assumes nothing.
use Prim.Native.Nat.{ℕ, zero, suc, ◌<◌}
use native.Mathlib.Omega.{arith}
use mathlib.Core.Path.{◌≡◌, refl, sym, ◌∙◌, ap}
use mathlib.Core.Bool.{Bool, true, false, cond, not, xor, true≢false, false≢true}
use mathlib.Core.List.{List, [], ◌∷◌}
use mathlib.Core.Option.{Option, none, some}
use lib.Dec.{eqb}
use lib.ListN.{length, get_or}
use borrow.Author.Tests.{eq-eqb}
use Rattle.math.specs.Vector.{equals}
use Rattle.tangent.specs.declared.Reading.{Reading}
use Rattle.definition.specs.declared.Corner.{Corner}
use Rattle.definition.specs.declared.Kept.{Kept}
use Rattle.definition.specs.declared.Triangle.{Triangle}
use Rattle.lists.specs.Lists.{keep, first}
use Rattle.definition.specs.Mesh.{Third, one, two, three, Spot, kept, corner_of, slot_of}
use Rattle.definition.specs.Step1Cut.{cut02}
use Rattle.definition.specs.Step2Degenerate.{exactly_one}
use Rattle.definition.specs.Triangles.{make, settled, pair, nook, quad, usable, pieces}
use Rattle.definition.specs.Step4Order.{is_sound, sound, spots}
use Rattle.definition.specs.Step7Sums.{Brought}
use Rattle.definition.specs.Step8Slots.{reading}
use Rattle.definition.specs.Step9Copies.{copied, from_sound, from_kept, from_marked, final_of, nooks}
use Rattle.lists.specs.Every.{Every, every_nil, every_cons}
use Rattle.laws.proofs.Part.{every_map, every-cond}
use Rattle.laws.proofs.Targets.{takes_copy, sources-stay, own-stays, own-stays-quad}
use Rattle.laws.proofs.Marked.{keeps_at, marked-keeps}

-- ---- one or both of two triangles are degenerate

-- where not exactly one is, the first is as the second
both : (m d e : Bool) → m ≡ xor d e → m ≡ false → e ≡ true → d ≡ true
unfolding xor
both m true e q p h = refl
both m false true q p h = absurd (true≢false (sym q ∙ p))
both m false false q p h = absurd (false≢true h)

-- where exactly one is and it is not the second, it is the first
other : (m d e : Bool) → m ≡ xor d e → m ≡ true → e ≡ false → d ≡ true
unfolding xor
other m true e q p h = refl
other m false true q p h = absurd (true≢false h)
other m false false q p h = absurd (true≢false (sym p ∙ q))

-- what holds of the corners of the sound triangles of a list, triangle by triangle
by-triangle : (P : Spot → Type 0) (l : List Triangle) → Every P (spots (sound l)) → Every (λ x. x.degenerate ≡ false → (i : Third) → P (record { tri = x; at = i })) l
unfolding sound keep is_sound spots
by-triangle P [] h = every_nil
by-triangle P (x ∷ l) h = every_cons (here x.degenerate h) (by-triangle P l (rest x.degenerate h))
  where
    here : (b : Bool) → Every P (spots (cond (not b) (x ∷ keep is_sound l) (keep is_sound l))) → b ≡ false → (i : Third) → P (record { tri = x; at = i })
    here true h e = absurd (true≢false e)
    here false (every_cons p (every_cons q (every_cons r h))) e = λ i. elim i as (λ (j : Third). P (record { tri = x; at = j })) [ one ↦ p | two ↦ q | three ↦ r ]

    rest : (b : Bool) → Every P (spots (cond (not b) (x ∷ keep is_sound l) (keep is_sound l))) → Every P (spots (keep is_sound l))
    rest true h = h
    rest false (every_cons p (every_cons q (every_cons r h))) = h

-- ---- what is final in the slots of face f, by each of its triangles

-- the reading at the first corner of t at c's position
abbrev pub equal_corner : List Brought → Triangle → Corner → Reading
equal_corner bs t c = copied true bs (first (λ s. equals (corner_of s).place c.place) (spots (t ∷ [])))

module _ (bs : List Brought) (ss : List Triangle) (f : ℕ) where
  -- of a triangle x among the triangles ts of the face: what is final where it is degenerate and not marked, and where it is sound and marked
  pub record Ends (ts : List Triangle) (x : Triangle) : Type 0 where
    pub broken : x.degenerate ≡ true → x.marked ≡ false → (k : Kept) → final_of bs ss f ts k ≡ from_sound bs ss k.corner
    pub missed : x.degenerate ≡ false → x.marked ≡ true → (c : Corner) → final_of bs ss f ts (nook x.missing c) ≡ equal_corner bs x c
    pub found : x.degenerate ≡ false → x.marked ≡ true → first is_sound ts ≡ some x

  -- a marked quad with the sound triangle t: at the slot that t misses
  missing-kept : (t : Triangle) (c : Corner) → from_marked bs (some t) t.missing c ≡ equal_corner bs t c
  unfolding from_marked from_kept
  missing-kept t c = ap (λ b. cond b (equal_corner bs t c) (reading bs t.face t.missing)) (eq-eqb t.missing t.missing refl)

  -- two triangles x and y of which the first is degenerate by d, the second by e, and both are marked by m
  module _ (x y : Triangle) (m d e : Bool) (q : m ≡ xor d e) where
    -- the sound one of the two, the first where both are
    abbrev search : Option Triangle
    search = cond (not d) (some x) (cond (not e) (some y) none)

    -- what is final at the corner k
    abbrev body : Kept → Reading
    body k = cond m (from_marked bs search k.which k.corner) (cond d (from_sound bs ss k.corner) (reading bs f k.which))

    -- where both are degenerate
    body-broken : d ≡ true → m ≡ false → (k : Kept) → body k ≡ from_sound bs ss k.corner
    body-broken h p k = λ z. cond (p z) (from_marked bs search k.which k.corner) (cond (h z) (from_sound bs ss k.corner) (reading bs f k.which))

    -- where t alone is sound, at the slot that it misses
    body-missed : (t : Triangle) → m ≡ true → search ≡ some t → (c : Corner) → body (nook t.missing c) ≡ equal_corner bs t c
    body-missed t p h c = (λ z. cond (p z) (from_marked bs (h z) t.missing c) (cond d (from_sound bs ss c) (reading bs f t.missing))) ∙ missing-kept t c

    -- the one that is found
    search-first : d ≡ false → search ≡ some x
    search-first h = ap (λ b. cond (not b) (some x) (cond (not e) (some y) none)) h

    search-second : m ≡ true → e ≡ false → search ≡ some y
    search-second p h = λ z. cond (not (other m d e q p h z)) (some x) (cond (not (h z)) (some y) none)

  -- a quad's two triangles
  pair_ends : (s t : Triangle) → Every (Ends (pair s t)) (pair s t)
  unfolding pair settled exactly_one final_of first is_sound
  pair_ends s t =
      let d = s.degenerate in
      let e = t.degenerate in
      every_cons (record {
        broken = λ h p k. body-broken _ _ (xor d e) d e refl h p k;
        missed = λ h p c. body-missed _ _ (xor d e) d e refl _ p (search-first _ _ (xor d e) d e refl h) c;
        found = λ h p. search-first _ _ (xor d e) d e refl h;
      })
      (every_cons (record {
        broken = λ h p k. body-broken _ _ (xor d e) d e refl (both (xor d e) d e refl p h) p k;
        missed = λ h p c. body-missed _ _ (xor d e) d e refl _ p (search-second _ _ (xor d e) d e refl p h) c;
        found = λ h p. search-second _ _ (xor d e) d e refl p h;
      })
      every_nil)

  -- a triangle by itself
  alone-ends : (x : Triangle) → x.marked ≡ false → Every (Ends (x ∷ [])) (x ∷ [])
  unfolding final_of
  alone-ends x e =
      every_cons (record {
        broken = λ h p k. λ z. cond (p z) (from_marked bs (first is_sound (x ∷ [])) k.which k.corner) (cond (h z) (from_sound bs ss k.corner) (reading bs f k.which));
        missed = λ h p c. absurd (true≢false (sym p ∙ e));
        found = λ h p. absurd (true≢false (sym p ∙ e));
      })
      every_nil

  -- of either cut
  either-ends : (b : Bool) (l k : List Triangle) → Every (Ends l) l → Every (Ends k) k → Every (Ends (cond b l k)) (cond b l k)
  either-ends true l k p q = p
  either-ends false l k p q = q

  -- so in every face
  pub ends : (cs : List Corner) → Every (Ends (pieces f cs)) (pieces f cs)
  unfolding pieces quad
  ends [] = every_nil
  ends (c0 ∷ []) = every_nil
  ends (c0 ∷ c1 ∷ []) = every_nil
  ends (c0 ∷ c1 ∷ c2 ∷ []) = alone-ends (make f false 3 (nook 0 c0) (nook 1 c1) (nook 2 c2)) (unfold make in refl)
  ends (c0 ∷ c1 ∷ c2 ∷ c3 ∷ []) = either-ends (cut02 c0 c1 c2 c3) _ _ (pair_ends _ _) (pair_ends _ _)
  ends (c0 ∷ c1 ∷ c2 ∷ c3 ∷ c4 ∷ l) = every_nil

  -- a corner of a sound triangle keeps what was brought to its slot, whatever it is seen as
  abbrev pub Own : List Triangle → Triangle → Type 0
  Own ts x = x.degenerate ≡ false → (i : Third) (k : Kept) → k.which ≡ (kept x i).which → final_of bs ss f ts k ≡ reading bs f k.which

  -- from the slots that take no copy
  sources-own : (cs : List Corner) → ((k : Kept) → takes_copy (pieces f cs) k.which ≡ false → final_of bs ss f (pieces f cs) k ≡ reading bs f k.which) → Every (Own (pieces f cs)) (pieces f cs)
  unfolding slot_of
  sources-own cs h = every_map (λ x p e i k q. h k (ap (takes_copy (pieces f cs)) q ∙ p e i)) (by-triangle (λ s. takes_copy (pieces f cs) (slot_of s) ≡ false) (pieces f cs) (sources-stay f cs))

  -- in every face
  pub own : (cs : List Corner) → Every (Own (pieces f cs)) (pieces f cs)
  own [] = unfold pieces in every_nil
  own (c0 ∷ []) = unfold pieces in every_nil
  own (c0 ∷ c1 ∷ []) = unfold pieces in every_nil
  own (c0 ∷ c1 ∷ c2 ∷ []) = sources-own (c0 ∷ c1 ∷ c2 ∷ []) (λ k. own-stays bs ss f k c0 c1 c2)
  own (c0 ∷ c1 ∷ c2 ∷ c3 ∷ []) = sources-own (c0 ∷ c1 ∷ c2 ∷ c3 ∷ []) (λ k. own-stays-quad bs ss f k c0 c1 c2 c3)
  own (c0 ∷ c1 ∷ c2 ∷ c3 ∷ c4 ∷ l) = unfold pieces in every_nil

-- ---- the corner that a triangle misses

-- its number, and that of the first corner that it keeps: 0 unless 0 is missing
pub record Begins (x : Triangle) : Type 0 where
  pub small : x.missing < 4
  pub before : x.a.which ≡ cond (eqb x.missing 0) 1 0

-- and, where the triangle is marked, that its face has four slots
pub record Misses (cs : List Corner) (x : Triangle) : Type 0 where
  pub begins : Begins x
  pub quad : x.marked ≡ true → length (usable cs) ≡ 4

-- a triangle that is made so
make-begins : (f : ℕ) (b : Bool) (m i j k : ℕ) (c d e : Corner) → m < 4 → i ≡ cond (eqb m 0) 1 0 → Begins (make f b m (nook i c) (nook j d) (nook k e))
unfolding make
make-begins f b m i j k c d e l q = record { small = l; before = q }

-- and marked or not
settled-begins : (t : Triangle) (m o : Bool) → Begins t → Begins (settled t m o)
unfolding settled
settled-begins t m o h = record { small = h.small; before = h.before }

-- a quad's two triangles
pair-misses : (cs : List Corner) (s t : Triangle) → length (usable cs) ≡ 4 → Begins s → Begins t → Every (Misses cs) (pair s t)
unfolding pair
pair-misses cs s t n h k = every_cons (record { begins = settled-begins s _ _ h; quad = λ e. n }) (every_cons (record { begins = settled-begins t _ _ k; quad = λ e. n }) every_nil)

-- so in every face
pub misses : (f : ℕ) (cs : List Corner) → Every (Misses cs) (pieces f cs)
unfolding pieces quad usable
misses f [] = every_nil
misses f (c0 ∷ []) = every_nil
misses f (c0 ∷ c1 ∷ []) = every_nil
misses f (c0 ∷ c1 ∷ c2 ∷ []) = every_cons (record { begins = make-begins f false 3 0 1 2 c0 c1 c2 (omega arith) refl; quad = λ e. absurd (false≢true (unfold make in e)) }) every_nil
misses f (c0 ∷ c1 ∷ c2 ∷ c3 ∷ []) =
    every-cond (cut02 c0 c1 c2 c3)
    (pair-misses _ _ _ refl (make-begins f false 3 0 1 2 c0 c1 c2 (omega arith) refl) (make-begins f true 1 0 2 3 c0 c2 c3 (omega arith) refl))
    (pair-misses _ _ _ refl (make-begins f false 2 0 1 3 c0 c1 c3 (omega arith) refl) (make-begins f true 0 1 2 3 c1 c2 c3 (omega arith) refl))
misses f (c0 ∷ c1 ∷ c2 ∷ c3 ∷ c4 ∷ l) = every_nil

-- the corner of a number, of four
of_four : (P : Corner → Type 0) (c0 c1 c2 c3 d : Corner) (j : ℕ) → j < 4 → Every (λ k. eqb k.which j ≡ true → P k.corner) (nooks 0 (c0 ∷ c1 ∷ c2 ∷ c3 ∷ [])) → P (get_or (c0 ∷ c1 ∷ c2 ∷ c3 ∷ []) j d)
unfolding nooks
of_four P c0 c1 c2 c3 d zero l (every_cons p0 h) = p0 refl
of_four P c0 c1 c2 c3 d (suc zero) l (every_cons p0 (every_cons p1 h)) = p1 refl
of_four P c0 c1 c2 c3 d (suc (suc zero)) l (every_cons p0 (every_cons p1 (every_cons p2 h))) = p2 refl
of_four P c0 c1 c2 c3 d (suc (suc (suc zero))) l (every_cons p0 (every_cons p1 (every_cons p2 (every_cons p3 h)))) = p3 refl
of_four P c0 c1 c2 c3 d (suc (suc (suc (suc j)))) l h = absurd (omega arith)

-- the sound triangle of a marked quad keeps a corner at the position of the one it misses
pub finds : (f : ℕ) (cs : List Corner) (d : Corner) (x : Triangle) → first is_sound (pieces f cs) ≡ some x → Misses cs x → x.marked ≡ true → keeps_at x (get_or cs x.missing d) ≡ true
unfolding pieces usable
finds f [] d x e M m = absurd (let n = M.quad m in omega arith)
finds f (c0 ∷ []) d x e M m = absurd (let n = M.quad m in omega arith)
finds f (c0 ∷ c1 ∷ []) d x e M m = absurd (let n = M.quad m in omega arith)
finds f (c0 ∷ c1 ∷ c2 ∷ []) d x e M m = absurd (let n = M.quad m in omega arith)
finds f (c0 ∷ c1 ∷ c2 ∷ c3 ∷ []) d x e M m = of_four (λ c. keeps_at x c ≡ true) c0 c1 c2 c3 d x.missing M.begins.small (marked-keeps f c0 c1 c2 c3 x e m)
finds f (c0 ∷ c1 ∷ c2 ∷ c3 ∷ c4 ∷ l) d x e M m = absurd (let n = M.quad m in omega arith)

-- ---- every slot of a face is the slot of a corner of a sound triangle, or of a degenerate one that is not marked, or is missed by a sound one that is marked

-- P holds of the slots that step 9 settles by a triangle x, which is degenerate by d and marked by m
pub record Settles (P : ℕ → Type 0) (d m : Bool) (x : Triangle) : Type 0 where
  pub own : d ≡ false → (i : Third) → P (kept x i).which
  pub broken : d ≡ true → m ≡ false → (i : Third) → P (kept x i).which
  pub missed : d ≡ false → m ≡ true → P x.missing

module _ (P : ℕ → Type 0) where
  -- of two triangles: the slots of one of them and the slot that it misses
  two-settle : (Q : Type 0) (x y : Triangle) (m d e : Bool) → m ≡ xor d e → Settles P d m x → Settles P e m y → (((i : Third) → P (kept y i).which) → P x.missing) → (((i : Third) → P (kept x i).which) → P x.missing → Q) → (((i : Third) → P (kept y i).which) → P y.missing → Q) → Q
  unfolding xor
  two-settle Q x y true false true q h k c f g = f (h.own refl) (h.missed refl refl)
  two-settle Q x y true true false q h k c f g = g (k.own refl) (k.missed refl refl)
  two-settle Q x y false false false q h k c f g = f (h.own refl) (c (k.own refl))
  two-settle Q x y false true true q h k c f g = f (h.broken refl refl) (c (k.broken refl refl))
  two-settle Q x y true true true q h k c f g = absurd (true≢false q)
  two-settle Q x y true false false q h k c f g = absurd (true≢false q)
  two-settle Q x y false true false q h k c f g = absurd (false≢true q)
  two-settle Q x y false false true q h k c f g = absurd (false≢true q)

  -- four slots
  four : P 0 → P 1 → P 2 → P 3 → (i : ℕ) → i < 4 → P i
  four p q r s zero h = p
  four p q r s (suc zero) h = q
  four p q r s (suc (suc zero)) h = r
  four p q r s (suc (suc (suc zero))) h = s
  four p q r s (suc (suc (suc (suc i)))) h = absurd (omega arith)

  -- a triangle by itself is not marked
  one-settles : (x : Triangle) (d : Bool) → Settles P d false x → (i : Third) → P (kept x i).which
  one-settles x true h = h.broken refl refl
  one-settles x false h = h.own refl

  -- of a list of triangles
  abbrev pub Settled : List Triangle → Type 0
  Settled ts = Every (λ x. Settles P x.degenerate x.marked x) ts

  -- a face of three
  three-settled : (f : ℕ) (c0 c1 c2 : Corner) → Settled (make f false 3 (nook 0 c0) (nook 1 c1) (nook 2 c2) ∷ []) → (i : ℕ) → i < 3 → P i
  unfolding make kept
  three-settled f c0 c1 c2 (every_cons h every_nil) zero l = one-settles _ _ h one
  three-settled f c0 c1 c2 (every_cons h every_nil) (suc zero) l = one-settles _ _ h two
  three-settled f c0 c1 c2 (every_cons h every_nil) (suc (suc zero)) l = one-settles _ _ h three
  three-settled f c0 c1 c2 h (suc (suc (suc i))) l = absurd (omega arith)

  -- a face of four, by either cut
  quad-settled : (f : ℕ) (c0 c1 c2 c3 : Corner) → Settled (quad f c0 c1 c2 c3) → (i : ℕ) → i < 4 → P i
  unfolding quad pair settled make kept exactly_one
  quad-settled f c0 c1 c2 c3 h i l = go (cut02 c0 c1 c2 c3) h
    where
      go : (b : Bool) → Settled (cond b (pair (make f false 3 (nook 0 c0) (nook 1 c1) (nook 2 c2)) (make f true 1 (nook 0 c0) (nook 2 c2) (nook 3 c3))) (pair (make f false 2 (nook 0 c0) (nook 1 c1) (nook 3 c3)) (make f true 0 (nook 1 c1) (nook 2 c2) (nook 3 c3)))) → P i
      go true (every_cons h (every_cons k every_nil)) = two-settle (P i) _ _ _ _ _ refl h k (λ p. p three) (λ p m. four (p one) (p two) (p three) m i l) (λ p m. four (p one) m (p two) (p three) i l)
      go false (every_cons h (every_cons k every_nil)) = two-settle (P i) _ _ _ _ _ refl h k (λ p. p two) (λ p m. four (p one) (p two) m (p three) i l) (λ p m. four m (p one) (p two) (p three) i l)

  -- so every slot of a face is settled by its triangles
  pub all_settled : (f : ℕ) (cs : List Corner) → Settled (pieces f cs) → (i : ℕ) → i < length (usable cs) → P i
  unfolding pieces usable
  all_settled f [] h i l = absurd (omega arith)
  all_settled f (c0 ∷ []) h i l = absurd (omega arith)
  all_settled f (c0 ∷ c1 ∷ []) h i l = absurd (omega arith)
  all_settled f (c0 ∷ c1 ∷ c2 ∷ []) h i l = three-settled f c0 c1 c2 h i l
  all_settled f (c0 ∷ c1 ∷ c2 ∷ c3 ∷ []) h i l = quad-settled f c0 c1 c2 c3 h i l
  all_settled f (c0 ∷ c1 ∷ c2 ∷ c3 ∷ c4 ∷ cs) h i l = absurd (omega arith)
