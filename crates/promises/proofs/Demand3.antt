-- Demand 3 holds. Assumes nothing.
use Prim.Native.Nat.{ℕ, zero, suc, ◌+◌, ◌*◌, ◌<◌}
use native.Mathlib.Nat.{le_of_suc-le-suc, not-suc-le-zero, zero-lt-suc}
use native.Mathlib.Omega.{arith}
use mathlib.Core.Path.{◌≡◌, refl, sym, ◌∙◌, ap, subst}
use mathlib.Core.Bool.{Bool, false}
use mathlib.Core.List.{List, [], ◌∷◌, ◌++◌, append_assoc, map, flat_map}
use mathlib.Core.Option.{Option}
use lib.ListN.{length, take, drop, get_or}
use lib.Seq.{take_at, drop-append-add}
use lib.Ieee.{Float}
use Rattle.tangent.specs.declared.Reading.{Reading}
use Rattle.tangent.specs.Slot as slot
use Rattle.tangent.specs.Slot.{slot_words}
use Rattle.definition.specs.declared.Triangle.{Triangle}
use Rattle.definition.specs.Handed.{Call, mesh_of, mesh_from, slots_of, slot_count}
use Rattle.definition.specs.Step7Sums.{Brought}
use Rattle.definition.specs.Frames.{numbered, frames_from, frames_of, frames}
use Rattle.definition.specs.Desk.{Row}
use Rattle.definition.specs.Outcome.{Result, answer_words, accepted, answered, outcome}
use Rattle.definition.specs.Shuffle.{Shuffle, done, left, right, shares}
use Rattle.laws.proofs.Bridge.{face-length}
use Rattle.laws.proofs.Shuffled.{shuffled}
use Rattle.promises.specs.Calls.{leaves, Answers, Accepted, slots_before, face_answer}
use Rattle.promises.proofs.Acceptance.{no_row}
use Rattle.promises.specs.Demand3.{left_at, right_at, Promised}

-- ---- a list of words, face by face
unfoldable join : List (List ℕ) → List ℕ
join [] = []
join (w ∷ ws) = w ++ join ws

-- the words of each face, by the definition
unfoldable pub face_words : Call → List (List ℕ)
face_words x = map (flat_map slot.words) (frames x.threshold (mesh_of x.mesh))

joined : (rs : List (List Reading)) → answer_words rs ≡ join (map (flat_map slot.words) rs)
unfolding answer_words join flat_map
joined [] = refl
joined (r ∷ rs) = ap (λ l. flat_map slot.words r ++ l) (joined rs)

-- each face has a slot's words for each of its slots
data Faces : List ℕ → List (List ℕ) → Type 0 where
  no-face : Faces [] []
  one-face : {k : ℕ} {ks : List ℕ} {w : List ℕ} {ws : List (List ℕ)} → length w ≡ slot_words * slots_of k → Faces ks ws → Faces (k ∷ ks) (w ∷ ws)

module _ (ps ns ts : List Float) (bs : List Brought) (ss : List Triangle) where
  faces-from : (k i : ℕ) (sizes : List ℕ) → Faces sizes (map (flat_map slot.words) (frames_from (numbered k (mesh_from ps ns ts i sizes)) ss bs))
  unfolding frames_from numbered mesh_from slots_of
  faces-from k i [] = no-face
  faces-from k i (n ∷ sizes) = one-face (face-length ps ns ts bs ss k i n) (faces-from (suc k) (i + n) sizes)

faces-of : (x : Call) → Faces x.mesh.sizes (face_words x)
unfolding face_words frames frames_of
faces-of x = faces-from x.mesh.positions x.mesh.normals x.mesh.texture _ _ 0 0 x.mesh.sizes

-- the words of face number n, where those of all faces stand one after the other
part : {ks : List ℕ} {ws : List (List ℕ)} → Faces ks ws → (rest : List ℕ) (n : ℕ) → n < length ks → take (slot_words * slots_of (get_or ks n 0)) (drop (slot_words * slots_before ks n) (join ws ++ rest)) ≡ get_or ws n []
unfolding join slots_before slot_count
part no-face rest n h = absurd (not-suc-le-zero h)
part (one-face {k} {ks} {w} {ws} e r) rest zero h = ap (take (slot_words * slots_of k)) (append_assoc w (join ws) rest) ∙ take_at w (join ws ++ rest) (slot_words * slots_of k) e
part (one-face {k} {ks} {w} {ws} e r) rest (suc n) h =
    let d : slot_words * (slots_of k + slots_before ks n) ≡ length w + slot_words * slots_before ks n = omega arith in
    ap (take (slot_words * slots_of (get_or ks n 0)))
    (ap (λ (j : ℕ). drop j ((w ++ join ws) ++ rest)) d
    ∙ ap (drop (length w + slot_words * slots_before ks n)) (append_assoc w (join ws) rest)
    ∙ drop-append-add w (join ws ++ rest) (slot_words * slots_before ks n))
    ∙ part r rest n (le_of_suc-le-suc h)

-- ---- acceptance
-- the answer begins with the words of the faces
pub taken_is : (x : Call) → Accepted x → (leaves x).answer ≡ answer_words (frames x.threshold (mesh_of x.mesh)) ++ drop (slot_words * slot_count x.mesh.sizes) x.answer
unfolding leaves outcome answered accepted
taken_is x e = ap (λ (o : Option Row). (answered o (accepted x) x.answer x.work).answer) (no_row x e)

-- face by face
answer-is : (x : Call) → Accepted x → (leaves x).answer ≡ join (face_words x) ++ drop (slot_words * slot_count x.mesh.sizes) x.answer
unfolding face_words
answer-is x e = taken_is x e ∙ ap (λ (l : List ℕ). l ++ drop (slot_words * slot_count x.mesh.sizes) x.answer) (joined (frames x.threshold (mesh_of x.mesh)))

-- what is answered for a face is what the definition has for it
pub face-is : (x : Call) (z : Result) → Answers x z → z.number ≡ 0 → (n : ℕ) → n < length x.mesh.sizes → face_answer x.mesh.sizes z.answer n ≡ get_or (face_words x) n []
unfolding face_answer Accepted
face-is x z q e n h =
    ap (λ (l : List ℕ). take (slot_words * slots_of (get_or x.mesh.sizes n 0)) (drop (slot_words * slots_before x.mesh.sizes n) l)) (ap (λ (y : Result). y.answer) q ∙ answer-is x (sym (ap (λ (y : Result). y.number) q) ∙ e))
    ∙ part (faces-of x) (drop (slot_words * slot_count x.mesh.sizes) x.answer) n h

faces-length : {ks : List ℕ} {ws : List (List ℕ)} → Faces ks ws → length ws ≡ length ks
faces-length no-face = refl
faces-length (one-face e r) = ap suc (faces-length r)

-- ---- a shuffle, element by element
module _ {X : Type 0} (d : X) where
  pub left_is : {p : List Bool} {a b m : List X} → Shuffle p a b m → (n : ℕ) → n < length a → (get_or m (left_at p n) d ≡ get_or a n d) × (left_at p n < length m)
  unfolding left_at
  left_is done n h = absurd (not-suc-le-zero h)
  left_is (left s) zero h = (refl, zero-lt-suc _)
  left_is (left s) (suc n) h = let i = left_is s n (le_of_suc-le-suc h) in (i.0, omega (arith, i.1))
  left_is (right s) n h = let i = left_is s n h in (i.0, omega (arith, i.1))

  pub right_is : {p : List Bool} {a b m : List X} → Shuffle p a b m → (n : ℕ) → n < length b → (get_or m (right_at p n) d ≡ get_or b n d) × (right_at p n < length m)
  unfolding right_at
  right_is done n h = absurd (not-suc-le-zero h)
  right_is (left s) n h = let i = right_is s n h in (i.0, omega (arith, i.1))
  right_is (right s) zero h = (refl, zero-lt-suc _)
  right_is (right s) (suc n) h = let i = right_is s n (le_of_suc-le-suc h) in (i.0, omega (arith, i.1))

map-shuffle : {X Y : Type 0} (g : X → Y) {p : List Bool} {a b m : List X} → Shuffle p a b m → Shuffle p (map g a) (map g b) (map g m)
map-shuffle g done = done
map-shuffle g (left s) = left (map-shuffle g s)
map-shuffle g (right s) = right (map-shuffle g s)

-- ---- the promise
words-shuffled : {p : List Bool} (a b m : Call) → Shuffle p (mesh_of a.mesh) (mesh_of b.mesh) (mesh_of m.mesh) → shares (mesh_of a.mesh) (mesh_of b.mesh) ≡ false → a.threshold ≡ m.threshold → b.threshold ≡ m.threshold → Shuffle p (face_words a) (face_words b) (face_words m)
unfolding face_words
words-shuffled {p} a b m s e ha hb =
    subst (λ (h : Float). Shuffle p (map (flat_map slot.words) (frames h (mesh_of a.mesh))) (face_words b) (face_words m)) (sym ha)
    (subst (λ (h : Float). Shuffle p (map (flat_map slot.words) (frames m.threshold (mesh_of a.mesh))) (map (flat_map slot.words) (frames h (mesh_of b.mesh))) (face_words m)) (sym hb)
    (map-shuffle (flat_map slot.words) (shuffled m.threshold s e)))

pub demand3 : Promised
unfolding Promised
demand3 p a b m ra rb rm qa qb qm s e ha hb ea eb em =
    let w = words-shuffled a b m s e ha hb in
    let la = faces-length (faces-of a) in
    let lb = faces-length (faces-of b) in
    let lm = faces-length (faces-of m) in
    record {
      first = λ n h.
          let i = left_is [] w n (omega arith) in
          face-is m rm qm em (left_at p n) (omega (arith, i.1)) ∙ i.0 ∙ sym (face-is a ra qa ea n h);
      second = λ n h.
          let i = right_is [] w n (omega arith) in
          face-is m rm qm em (right_at p n) (omega (arith, i.1)) ∙ i.0 ∙ sym (face-is b rb qb eb n h);
    }
