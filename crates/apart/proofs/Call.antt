-- The islands' call leaves what one call leaves, unless its own lists are too short; and each island is accepted. Assumes nothing.
use Prim.Native.Nat.{ℕ, suc, ◌+◌, ◌*◌, ◌≤◌}
use mathlib.Core.Path.{◌≡◌, refl, sym, ◌∙◌, ap}
use mathlib.Core.Bool.{Bool, true, false, cond, not, ◌&&◌, ◌||◌}
use mathlib.Core.List.{List, [], ◌∷◌, ◌++◌}
use mathlib.Core.Option.{Option, none, some, none-ne-some}
use lib.ListN.{length, drop}
use lib.Ieee.{Float}
use borrow.Author.Tests.{le-ltb, eq-eqb}
use Rattle.definition.specs.declared.Corner.{Corner}
use Rattle.definition.specs.Handed.{mesh_of, call, Handed, used, slot_count, corner_count}
use Rattle.bits.specs.Word.{is_finite}
use Rattle.definition.specs.Limits.{face_limit, work_words}
use Rattle.definition.specs.Desk.{shown, not_finite, no_normal, Row, verdict, too_many, unfit, misfit, bad_corner, bad_in, or_else}
use Rattle.definition.specs.Outcome.{answer_words, accepted, answered, outcome}
use Rattle.tangent.specs.Slot.{slot_words}
use Rattle.islands.specs.Together.{picked}
use Rattle.mesh.specs.Parts.{caught, Fits}
use Rattle.mesh.proofs.Fitting.{fit}
use Rattle.laws.proofs.Verdict.{fine, is-fine}
use Rattle.apart.specs.Steps.{Good}
use Rattle.islands.specs.Nine.{afterwards}
use Rattle.apart.specs.Call.{Own, short, verdict_of, accepted_of, own_after, own_left, islands_outcome}
use Rattle.islands.proofs.Together.{together-is}

-- acceptance is that of one call, word for word
pub accepted-same : (mesh : Handed) (h : Float) (answer work : List ℕ) → accepted_of (call mesh h answer work) ≡ accepted (call mesh h answer work)
unfolding accepted_of accepted
accepted-same mesh h answer work =
    λ i.
    record {
      number = 0;
      place = 0;
      slots = slot_count mesh.sizes;
      answer = answer_words (together-is h (mesh_of mesh) i) ++ drop (slot_words * slot_count mesh.sizes) answer;
      work = (accepted (call mesh h answer work)).work;
    }

no_nine : (v : Option Row) → afterwards v false ≡ v
unfolding afterwards
no_nine none = refl
no_nine (some r) = refl

-- 'The finished list is the same, word for word, as from one call', and so is every refusal: where its own lists are long enough
pub same-result : (mesh : Handed) (h : Float) (answer work : List ℕ) (o : Own) → short (length mesh.sizes) o ≡ false → (islands_outcome (call mesh h answer work) o).result ≡ outcome (call mesh h answer work)
unfolding islands_outcome verdict_of outcome
same-result mesh h answer work o e =
    (λ i. answered (afterwards (verdict (shown mesh h (length answer) (length work))) (e i)) (accepted-same mesh h answer work i) answer work)
    ∙ ap (λ v. answered v (accepted (call mesh h answer work)) answer work) (no_nine (verdict (shown mesh h (length answer) (length work))))

-- what is left behind, by the table's verdict and by whether a list of its own is too short
pub outcome-by : (mesh : Handed) (h : Float) (a w : List ℕ) (o : Own) (v : Option Row) (s : Bool) → verdict (shown mesh h (length a) (length w)) ≡ v → short (length mesh.sizes) o ≡ s → islands_outcome (call mesh h a w) o ≡ record { result = answered (afterwards v s) (accepted_of (call mesh h a w)) a w; own = own_left (afterwards v s) (own_after mesh o) o }
unfolding islands_outcome verdict_of
outcome-by mesh h a w o v s e f = λ i. record { result = answered (afterwards (e i) (f i)) (accepted_of (call mesh h a w)) a w; own = own_left (afterwards (e i) (f i)) (own_after mesh o) o }

-- ---- an island has no bad corner where the mesh has none

none_left : (a b : Option ℕ) → or_else a b ≡ none → a ≡ none
unfolding or_else
none_left none b e = refl
none_left (some i) b e = e

none_right : (a b : Option ℕ) → or_else a b ≡ none → b ≡ none
unfolding or_else
none_right none b e = e
none_right (some i) b e = absurd (none-ne-some i (sym e))

module _ (passes : Corner → Bool) where
  -- the numbers that corners are counted by do not matter
  bad-moved : (i j : ℕ) (f : List Corner) → bad_in passes i f ≡ none → bad_in passes j f ≡ none
  unfolding bad_in
  bad-moved i j [] e = refl
  bad-moved i j (c ∷ f) e = go (passes c) (λ k. bad-moved (suc i) (suc j) f k) e
    where
      go : (b : Bool) → (bad_in passes (suc i) f ≡ none → bad_in passes (suc j) f ≡ none) → cond b (bad_in passes (suc i) f) (some i) ≡ none → cond b (bad_in passes (suc j) f) (some j) ≡ none
      go true r k = r k
      go false r k = absurd (none-ne-some i (sym k))

  face-moved : (b : Bool) (i j : ℕ) (f : List Corner) → cond b (bad_in passes i f) none ≡ none → cond b (bad_in passes j f) none ≡ none
  face-moved true i j f e = bad-moved i j f e
  face-moved false i j f e = refl

  picked-good : (q : ℕ → Bool) (n i j : ℕ) (m : List (List Corner)) → bad_corner passes i m ≡ none → bad_corner passes j (picked q n m) ≡ none
  unfolding bad_corner picked
  picked-good q n i j [] e = refl
  picked-good q n i j (f ∷ m) e = go (q n) (none_right (cond (used (length f)) (bad_in passes i f) none) (bad_corner passes (i + length f) m) e) (λ k l. picked-good q (suc n) (i + length f) k m l)
    where
      first : cond (used (length f)) (bad_in passes j f) none ≡ none
      first = face-moved (used (length f)) i j f (none_left (cond (used (length f)) (bad_in passes i f) none) (bad_corner passes (i + length f) m) e)

      go : (b : Bool) → bad_corner passes (i + length f) m ≡ none → ((k : ℕ) → bad_corner passes (i + length f) m ≡ none → bad_corner passes k (picked q (suc n) m) ≡ none) → bad_corner passes j (cond b (f ∷ picked q (suc n) m) (picked q (suc n) m)) ≡ none
      go true l r = unfold bad_corner in ap (λ o. or_else o (bad_corner passes (j + length f) (picked q (suc n) m))) first ∙ unfold or_else in r (j + length f) l
      go false l r = r j l

  -- the corners of an island of a mesh that the desk accepts pass its test
  pub island-good : (q : ℕ → Bool) (m : List (List Corner)) → bad_corner passes 0 m ≡ none → bad_corner passes 0 (picked q 0 m) ≡ none
  island-good q m e = picked-good q 0 0 0 m e

-- ---- each island is accepted

three : (x y z : Bool) → x ≡ true → y ≡ true → z ≡ true → not (x && y && z) ≡ false
three x y z e f g = rw (e, f, g)

-- lists that the desk accepts fit each other, and their numbers are finite
pub known : (mesh : Handed) (h : Float) (answer work : ℕ) → verdict (shown mesh h answer work) ≡ none → Fits mesh × Good mesh h
unfolding caught too_many
known mesh h answer work e =
    let F = fine (shown mesh h answer work) e in
    (fit mesh (λ i. le-ltb face_limit (length mesh.sizes) F.few i || F.fits i), record { threshold = F.threshold; corners = F.good; normals = F.normals })

-- lists that the desk accepts, said row by row
pub accepts : (mesh : Handed) (h : Float) (answer work : ℕ) → length mesh.sizes ≤ face_limit → length mesh.positions ≡ 3 * corner_count mesh.sizes → length mesh.normals ≡ 3 * corner_count mesh.sizes → length mesh.texture ≡ 2 * corner_count mesh.sizes → not (is_finite h) ≡ false → not_finite mesh ≡ none → no_normal mesh ≡ none → slot_words * slot_count mesh.sizes ≤ answer → work_words * length mesh.sizes ≤ work → verdict (shown mesh h answer work) ≡ none
unfolding misfit unfit
accepts mesh h answer work few p n t f bad bare a w =
    is-fine (shown mesh h answer work)
    (record {
      few = few;
      fits = three _ _ _ (eq-eqb (length mesh.positions) (3 * corner_count mesh.sizes) p) (eq-eqb (length mesh.normals) (3 * corner_count mesh.sizes) n) (eq-eqb (length mesh.texture) (2 * corner_count mesh.sizes) t);
      threshold = f;
      good = bad;
      normals = bare;
      answer-fits = a;
      work-fits = w;
    })
