-- A sound triangle of an accepted (call mesh has no two) welded corners: its positions are numbers that compare equal to themselves. Assumes nothing.
use Prim.Native.Nat.{ℕ, zero, suc, ◌+◌, ◌*◌}
use mathlib.Core.Path.{◌≡◌, refl, sym, ◌∙◌, ap}
use mathlib.Core.Bool.{Bool, true, false, cond, ◌&&◌, ◌||◌, true≢false, false≢true}
use mathlib.Core.List.{List, [], ◌∷◌}
use mathlib.Core.Option.{Option, none, some}
use lib.Dec.{T, eqb}
use lib.ListN.{length, get_or}
use lib.Ieee.{Float, nan, inf, fin, binary32, fits, eq, up, down}
use borrow.Author.Tests.{eq-eqb, not-true}
use Rattle.definition.proofs.Lengths.{corners-length}
use Rattle.bits.specs.Word.{is_finite}
use Rattle.math.specs.declared.Vec3.{Vec3}
use Rattle.math.specs.Held.{HeldVec}
use Rattle.math.specs.Vector.{equals}
use Rattle.definition.specs.declared.Corner.{Corner}
use Rattle.definition.specs.declared.Triangle.{Triangle}
use Rattle.lists.specs.Lists.{first}
use Rattle.definition.specs.Mesh.{Third, one, two, three, after, kept, corner_of}
use Rattle.definition.specs.Handed.{vector_at, corner_at, corners_from, mesh_from, used}
use Rattle.definition.specs.Desk.{finite_vector, finite_corner, bad_in, or_else, bad_corner}
use Rattle.definition.specs.Step1Cut.{cut02}
use Rattle.definition.specs.Step2Degenerate.{flat}
use Rattle.definition.specs.Triangles.{make, settled, pair, quad, usable, pieces, triangles}
use Rattle.definition.specs.Step4Order.{is_sound, sound, spots, same_bits, same_vector, same_numbers, welded}
use Rattle.definition.specs.Step6Groups.{corner_in}
use Rattle.definition.specs.Frames.{numbered}
use Rattle.lists.specs.Every.{Every, every_nil, every_cons}
use Rattle.laws.proofs.Part.{every_append, every-cond, every-keep, every-both, keep-passes}
use Rattle.laws.proofs.Pieces.{pieces-of}
use Rattle.laws.proofs.World.{welded-sym}
use Rattle.laws.proofs.Weld.{welded-refl, vector-one}
use Rattle.bits.proofs.Bools.{and_left, and_right, or_left, or_right, beq-refl}

-- ---- positions

-- a position that single precision holds, of three finite numbers
pub record Real (c : Corner) : Type 0 where
  pub held : HeldVec c.place
  pub bounded : finite_vector c.place ≡ true

eq_self : (x : Float) → is_finite x ≡ true → eq x x ≡ true
unfolding is_finite eq
eq_self nan e = absurd (false≢true e)
eq_self (inf s) e = absurd (false≢true e)
eq_self (fin s m e) h = λ k. eq-eqb (m * up e * down e) (m * up e * down e) refl k && (beq-refl s k || eqb (m * up e * down e) 0)

equals-self : (v : Vec3) → finite_vector v ≡ true → equals v v ≡ true
unfolding finite_vector equals
equals-self v e =
    let xy = and_left (is_finite v.x && is_finite v.y) (is_finite v.z) e in
    λ k. eq_self v.x (and_left (is_finite v.x) (is_finite v.y) xy) k && eq_self v.y (and_right (is_finite v.x) (is_finite v.y) xy) k && eq_self v.z (and_right (is_finite v.x && is_finite v.y) (is_finite v.z) e) k

-- welded corners have equal positions
welded-equals : (c d : Corner) → Real c → Real d → welded c d ≡ true → equals c.place d.place ≡ true
unfolding welded same_numbers
welded-equals c d h k e =
    let a = and_left (same_vector c.place d.place && same_vector c.normal d.normal && same_bits c.u d.u) (same_bits c.v d.v) (and_left (same_numbers c d) _ e) in
    let b = and_left (same_vector c.place d.place && same_vector c.normal d.normal) (same_bits c.u d.u) a in
    let p = and_left (same_vector c.place d.place) (same_vector c.normal d.normal) b in
    ap (equals c.place) (sym (vector-one c.place d.place h.held k.held p)) ∙ equals-self c.place h.bounded

apart : (c d : Corner) → Real c → Real d → equals c.place d.place ≡ false → welded c d ≡ false
apart c d h k e = step (welded c d) refl
  where
    step : (b : Bool) → welded c d ≡ b → b ≡ false
    step true q = absurd (true≢false (sym (welded-equals c d h k q) ∙ e))
    step false q = refl

-- ---- one triangle

-- a triangle whose word on being degenerate is that of its corners, which are real
record Told (t : Triangle) : Type 0 where
  says : t.degenerate ≡ flat t.a.corner t.b.corner t.c.corner
  real : (i : Third) → Real (kept t i).corner

-- no corner is welded to another of the same triangle
pub record Sharp (t : Triangle) : Type 0 where
  pub ab : welded t.a.corner t.b.corner ≡ false
  pub bc : welded t.b.corner t.c.corner ≡ false
  pub ca : welded t.c.corner t.a.corner ≡ false

sound-sharp : (t : Triangle) → Told t → is_sound t ≡ true → Sharp t
unfolding is_sound flat kept
sound-sharp t h s =
    let a = t.a.corner in
    let b = t.b.corner in
    let c = t.c.corner in
    let ab = equals a.place b.place in
    let bc = equals b.place c.place in
    let ca = equals c.place a.place in
    let f : (ab || bc || ca) ≡ false = sym h.says ∙ not-true t.degenerate s in
    record {
      ab = apart a b (h.real one) (h.real two) (or_left ab bc (or_left (ab || bc) ca f));
      bc = apart b c (h.real two) (h.real three) (or_right ab bc (or_left (ab || bc) ca f));
      ca = apart c a (h.real three) (h.real one) (or_right (ab || bc) ca f);
    }

-- no side has welded ends
pub sharp-ends : (t : Triangle) → Sharp t → (i : Third) → welded (corner_of (record { tri = t; at = i })) (corner_of (record { tri = t; at = after i })) ≡ false
unfolding kept corner_of after
sharp-ends t S one = S.ab
sharp-ends t S two = S.bc
sharp-ends t S three = S.ca

-- the corner of a triangle that is welded to one of its corners is that corner
pub sharp-own : (t : Triangle) → Sharp t → (i : Third) → corner_in (corner_of (record { tri = t; at = i })) t ≡ some (record { tri = t; at = i })
unfolding corner_in first spots corner_of kept
sharp-own t S one = λ k. cond (welded-refl t.a.corner k) (some (record { tri = t; at = one })) (cond (welded t.a.corner t.b.corner) (some (record { tri = t; at = two })) (cond (welded t.a.corner t.c.corner) (some (record { tri = t; at = three })) none))
sharp-own t S two = λ k. cond ((welded-sym t.b.corner t.a.corner ∙ S.ab) k) (some (record { tri = t; at = one })) (cond (welded-refl t.b.corner k) (some (record { tri = t; at = two })) (cond (welded t.b.corner t.c.corner) (some (record { tri = t; at = three })) none))
sharp-own t S three = λ k. cond (S.ca k) (some (record { tri = t; at = one })) (cond ((welded-sym t.c.corner t.b.corner ∙ S.bc) k) (some (record { tri = t; at = two })) (cond (welded-refl t.c.corner k) (some (record { tri = t; at = three })) none))

-- ---- the triangles of a mesh

abbrev Says : Triangle → Type 0
Says t = t.degenerate ≡ flat t.a.corner t.b.corner t.c.corner

pieces-say : (n : ℕ) (cs : List Corner) → Every Says (pieces n cs)
unfolding pieces quad pair settled make
pieces-say n [] = every_nil
pieces-say n (c0 ∷ []) = every_nil
pieces-say n (c0 ∷ c1 ∷ []) = every_nil
pieces-say n (c0 ∷ c1 ∷ c2 ∷ []) = every_cons refl every_nil
pieces-say n (c0 ∷ c1 ∷ c2 ∷ c3 ∷ []) = every-cond (cut02 c0 c1 c2 c3) (every_cons refl (every_cons refl every_nil)) (every_cons refl (every_cons refl every_nil))
pieces-say n (c0 ∷ c1 ∷ c2 ∷ c3 ∷ c4 ∷ l) = every_nil

triangles-told : (n : ℕ) (m : List (List Corner)) → Every (λ cs. Every Real (usable cs)) m → Every Told (triangles (numbered n m))
unfolding triangles numbered
triangles-told n [] every_nil = every_nil
triangles-told n (c ∷ m) (every_cons h r) = every_append (every-both (λ t p q. record { says = p; real = q.corners }) (pieces-say n c) (pieces-of n Real c h)) (triangles-told (suc n) m r)

-- every sound triangle of a mesh whose used corners are real is sharp
pub mesh-sharp : (m : List (List Corner)) → Every (λ cs. Every Real (usable cs)) m → Every Sharp (sound (triangles (numbered 0 m)))
unfolding sound
mesh-sharp m h = every-both (λ t p q. sound-sharp t p q) (every-keep is_sound (triangles-told 0 m h)) (keep-passes is_sound (triangles (numbered 0 m)))

-- ---- the lists handed in

or-else : (o p : Option ℕ) → or_else o p ≡ none → (o ≡ none) × (p ≡ none)
unfolding or_else
or-else none p e = (refl, e)
or-else (some i) p e = absurd (let z : ◌≡◌ {A = ℕ} 0 1 = cc in zero_one z)
  where
    zero_one : ◌≡◌ {A = ℕ} 0 1 → ⊥
    zero_one z = true≢false (sym (eq-eqb 0 1 z))

bad-none : (i : ℕ) (cs : List Corner) → bad_in finite_corner i cs ≡ none → Every (λ c. finite_corner c ≡ true) cs
unfolding bad_in
bad-none i [] e = every_nil
bad-none i (c ∷ cs) e = step (finite_corner c) refl e (λ q. bad-none (suc i) cs q)
  where
    step : (b : Bool) → finite_corner c ≡ b → cond b (bad_in finite_corner (suc i) cs) (some i) ≡ none → (bad_in finite_corner (suc i) cs ≡ none → Every (λ c. finite_corner c ≡ true) cs) → Every (λ c. finite_corner c ≡ true) (c ∷ cs)
    step true q z f = every_cons q (f z)
    step false q z f = absurd (let y : ◌≡◌ {A = ℕ} 0 1 = cc in true≢false (sym (eq-eqb 0 1 y)))

finite-place : (c : Corner) → finite_corner c ≡ true → finite_vector c.place ≡ true
unfolding finite_corner
finite-place c e =
    let a = and_left (finite_vector c.place && finite_vector c.normal && is_finite c.u) (is_finite c.v) e in
    let b = and_left (finite_vector c.place && finite_vector c.normal) (is_finite c.u) a in
    and_left (finite_vector c.place) (finite_vector c.normal) b

module _ (ps ns ts : List Float) (fit : (i : ℕ) → T (fits binary32 (get_or ps i nan))) where
  held_at : (i : ℕ) → HeldVec (corner_at ps ns ts i).place
  unfolding corner_at vector_at
  held_at i = record { x_held = fit (i * 3); y_held = fit (i * 3 + 1); z_held = fit (i * 3 + 2) }

  held-from : (i n : ℕ) → Every (λ c. HeldVec c.place) (corners_from ps ns ts i n)
  unfolding corners_from
  held-from i zero = every_nil
  held-from i (suc n) = every_cons (held_at i) (held-from (suc i) n)

  usable-none : (cs : List Corner) → used (length cs) ≡ false → usable cs ≡ []
  unfolding used usable
  usable-none [] e = refl
  usable-none (a ∷ []) e = refl
  usable-none (a ∷ b ∷ []) e = refl
  usable-none (a ∷ b ∷ c ∷ []) e = absurd (true≢false e)
  usable-none (a ∷ b ∷ c ∷ d ∷ []) e = absurd (true≢false e)
  usable-none (a ∷ b ∷ c ∷ d ∷ x ∷ l) e = refl

  usable-every : (P : Corner → Type 0) {cs : List Corner} → Every P cs → Every P (usable cs)
  unfolding usable
  usable-every P every_nil = every_nil
  usable-every P (every_cons a every_nil) = every_nil
  usable-every P (every_cons a (every_cons b every_nil)) = every_nil
  usable-every P (every_cons a (every_cons b (every_cons c every_nil))) = every_cons a (every_cons b (every_cons c every_nil))
  usable-every P (every_cons a (every_cons b (every_cons c (every_cons d every_nil)))) = every_cons a (every_cons b (every_cons c (every_cons d every_nil)))
  usable-every P (every_cons a (every_cons b (every_cons c (every_cons d (every_cons x r))))) = every_nil

  face-real : (i n : ℕ) → cond (used (length (corners_from ps ns ts i n))) (bad_in finite_corner i (corners_from ps ns ts i n)) none ≡ none → Every Real (usable (corners_from ps ns ts i n))
  face-real i n e = step (used (length (corners_from ps ns ts i n))) refl e
    where
      step : (b : Bool) → used (length (corners_from ps ns ts i n)) ≡ b → cond b (bad_in finite_corner i (corners_from ps ns ts i n)) none ≡ none → Every Real (usable (corners_from ps ns ts i n))
      step true q z = usable-every Real (every-both (λ c h f. record { held = h; bounded = finite-place c f }) (held-from i n) (bad-none i (corners_from ps ns ts i n) z))
      step false q z = rw (usable-none (corners_from ps ns ts i n) q) every_nil

  -- of lists that refusal 4 does not catch, every used corner is real
  pub accepted-real : (i : ℕ) (sizes : List ℕ) → bad_corner finite_corner i (mesh_from ps ns ts i sizes) ≡ none → Every (λ cs. Every Real (usable cs)) (mesh_from ps ns ts i sizes)
  unfolding bad_corner finite_corner mesh_from
  accepted-real i [] e = every_nil
  accepted-real i (n ∷ sizes) e =
      let r = or-else (cond (used (length (corners_from ps ns ts i n))) (bad_in finite_corner i (corners_from ps ns ts i n)) none) (bad_corner finite_corner (i + length (corners_from ps ns ts i n)) (mesh_from ps ns ts (i + n) sizes)) e in
      every_cons (face-real i n r.0) (accepted-real (i + n) sizes (ap (λ (k : ℕ). bad_corner finite_corner (i + k) (mesh_from ps ns ts (i + n) sizes)) (sym (corners-length ps ns ts i n)) ∙ r.1))
