-- The frames of faces that are closed under touching, taken from the whole mesh, and their words. Assumes nothing.
use Prim.Native.Nat.{ℕ, zero, suc, ◌+◌, ◌*◌, ◌-◌, ◌<◌}
use native.Mathlib.Decide.{dec_lt}
use native.Mathlib.Nat.{le_of_suc-le-suc, not-suc-le-zero}
use native.Mathlib.Omega.{arith}
use mathlib.Core.Path.{◌≡◌, refl, sym, ◌∙◌, ap}
use mathlib.Core.Bool.{Bool, true, false, cond}
use mathlib.Core.List.{List, [], ◌∷◌, ◌++◌, append_assoc, flat_map}
use lib.ListN.{length, get_or, take, get_or-append}
use lib.Seq.{get_or-append-add}
use lib.Ieee.{Float}
use Rattle.definition.proofs.Lengths.{mesh-length}
use Rattle.tangent.specs.declared.Reading.{Reading}
use Rattle.tangent.specs.Slot as slot
use Rattle.tangent.specs.Slot.{slot_words}
use Rattle.definition.specs.declared.Corner.{Corner}
use Rattle.definition.specs.declared.Triangle.{Triangle}
use Rattle.definition.specs.Handed.{mesh_of, Handed, mesh_from, slots_of, slot_count}
use Rattle.definition.specs.Shuffle.{Shuffle, done, left, right}
use Rattle.definition.specs.Step7Sums.{Brought}
use Rattle.definition.specs.Frames.{numbered, frames_from, frames_of, frames}
use Rattle.definition.specs.Outcome.{answer_words}
use Rattle.laws.proofs.Bridge.{face-length}
use Rattle.laws.proofs.Shuffled.{shuffled}
use Rattle.islands.specs.Together.{picked, Closed}
use Rattle.islands.proofs.Together.{pattern_of, split, apart, frames-length}
use Rattle.apart.specs.Scatter.{words_for}

-- ---- frames

-- those that a pattern takes
unfoldable taken : {X : Type 0} → List Bool → List X → List X
taken [] m = []
taken (b ∷ p) [] = []
taken (b ∷ p) (x ∷ m) = let r = taken p m in cond b (x ∷ r) r

shuffle-taken : {X : Type 0} {p : List Bool} {a b m : List X} → Shuffle p a b m → a ≡ taken p m
unfolding taken
shuffle-taken done = refl
shuffle-taken (left {x = x} s) = ap (λ r. x ∷ r) (shuffle-taken s)
shuffle-taken (right s) = shuffle-taken s

taken-picked : {X Y : Type 0} (q : ℕ → Bool) (n : ℕ) (l : List Y) (m : List X) → length l ≡ length m → taken (pattern_of q n l) m ≡ picked q n m
unfolding taken pattern_of picked
taken-picked q n [] [] e = refl
taken-picked q n [] (y ∷ m) e = absurd (omega arith)
taken-picked q n (x ∷ l) [] e = absurd (omega arith)
taken-picked q n (x ∷ l) (y ∷ m) e = ap (λ r. cond (q n) (y ∷ r) r) (taken-picked q (suc n) l m (omega arith))

-- the frames of faces that are closed under touching are theirs in the whole mesh
pub frames-picked : (h : Float) (q : ℕ → Bool) (m : List (List Corner)) → Closed q m → frames h (picked q 0 m) ≡ picked q 0 (frames h m)
frames-picked h q m c = shuffle-taken (shuffled h (split q 0 m) (apart q m c)) ∙ taken-picked q 0 m (frames h m) (sym (frames-length h m))

-- ---- words

-- a slot's words for each slot of each face
pub Even : List ℕ → List (List Reading) → Type 0
Even sizes rs = (g : ℕ) → g < length sizes → length (flat_map slot.words (get_or rs g [])) ≡ slot_words * slots_of (get_or sizes g 0)

module _ (ps ns ts : List Float) where
  even-from : (bs : List Brought) (ss : List Triangle) (k i : ℕ) (sizes : List ℕ) (g : ℕ) → g < length sizes → length (flat_map slot.words (get_or (frames_from (numbered k (mesh_from ps ns ts i sizes)) ss bs) g [])) ≡ slot_words * slots_of (get_or sizes g 0)
  unfolding frames_from numbered mesh_from slots_of
  even-from bs ss k i [] g h = absurd (not-suc-le-zero h)
  even-from bs ss k i (n ∷ sizes) zero h = face-length ps ns ts bs ss k i n
  even-from bs ss k i (n ∷ sizes) (suc g) h = even-from bs ss (suc k) (i + n) sizes g (le_of_suc-le-suc h)

  pub even : (h : Float) (sizes : List ℕ) → Even sizes (frames h (mesh_from ps ns ts 0 sizes))
  unfolding Even frames frames_of
  even h sizes g i = even-from _ _ 0 0 sizes g i

  pub as_many : (h : Float) (sizes : List ℕ) → length (frames h (mesh_from ps ns ts 0 sizes)) ≡ length sizes
  as_many h sizes = frames-length h (mesh_from ps ns ts 0 sizes) ∙ mesh-length ps ns ts 0 sizes

even-rest : (z : ℕ) (sizes : List ℕ) (r : List Reading) (rs : List (List Reading)) → Even (z ∷ sizes) (r ∷ rs) → Even sizes rs
unfolding Even
even-rest z sizes r rs e g h = e (suc g) (omega arith)

-- ---- the words of those that pass, one after the other

module _ (q : ℕ → Bool) (rest : List ℕ) where
  stands : (n : ℕ) (sizes : List ℕ) (rs : List (List Reading)) → length rs ≡ length sizes → Even sizes rs → (g : ℕ) → g < length sizes → q (n + g) ≡ true → (i : ℕ) → i < slot_words * slots_of (get_or sizes g 0) → get_or (answer_words (picked q n rs) ++ rest) (slot_words * slot_count (picked q n (take g sizes)) + i) 0 ≡ get_or (flat_map slot.words (get_or rs g [])) i 0
  unfolding picked answer_words slot_count flat_map Even
  stands n [] rs l e g h p i k = absurd (not-suc-le-zero h)
  stands n (z ∷ sizes) [] l e g h p i k = absurd (omega arith)
  stands n (z ∷ sizes) (r ∷ rs) l e zero h p i k = first (q n) (ap q (omega arith) ∙ p)
    where
      w : List ℕ
      w = flat_map slot.words r

      long : i < length w
      long = omega (arith, e 0 h, k)

      first : (b : Bool) → b ≡ true → get_or (answer_words (cond b (r ∷ picked q (suc n) rs) (picked q (suc n) rs)) ++ rest) (slot_words * 0 + i) 0 ≡ get_or w i 0
      first true t =
          let j : slot_words * 0 + i ≡ i = omega arith in
          ap (λ x. get_or ((w ++ answer_words (picked q (suc n) rs)) ++ rest) x 0) j
          ∙ ap (λ x. get_or x i 0) (append_assoc w (answer_words (picked q (suc n) rs)) rest)
          ∙ get_or-append w (answer_words (picked q (suc n) rs) ++ rest) 0 i long
      first false t = absurd (mathlib.Core.Bool.false≢true t)
  stands n (z ∷ sizes) (r ∷ rs) l e (suc g) h p i k = next (q n) (stands (suc n) sizes rs (omega arith) (λ x y. e (suc x) (omega arith)) g (le_of_suc-le-suc h) (ap q (omega arith) ∙ p) i k)
    where
      w : List ℕ
      w = flat_map slot.words r

      next : (b : Bool) → get_or (answer_words (picked q (suc n) rs) ++ rest) (slot_words * slot_count (picked q (suc n) (take g sizes)) + i) 0 ≡ get_or (flat_map slot.words (get_or rs g [])) i 0 → get_or (answer_words (cond b (r ∷ picked q (suc n) rs) (picked q (suc n) rs)) ++ rest) (slot_words * slot_count (cond b (z ∷ picked q (suc n) (take g sizes)) (picked q (suc n) (take g sizes))) + i) 0 ≡ get_or (flat_map slot.words (get_or rs g [])) i 0
      next true t =
          let c = slot_count (picked q (suc n) (take g sizes)) in
          let j : slot_words * (slots_of z + c) + i ≡ length w + (slot_words * c + i) = omega (arith, e 0 (omega (arith, h))) in
          ap (λ x. get_or ((w ++ answer_words (picked q (suc n) rs)) ++ rest) x 0) j
          ∙ ap (λ x. get_or x (length w + (slot_words * c + i)) 0) (append_assoc w (answer_words (picked q (suc n) rs)) rest)
          ∙ get_or-append-add w (answer_words (picked q (suc n) rs) ++ rest) (slot_words * c + i) 0
          ∙ t
      next false t = t

  -- the words of island faces, as the base leaves them
  pub stand-words : (h : Float) (mesh : Handed) (g : ℕ) → g < length mesh.sizes → q g ≡ true → (i : ℕ) → i < slot_words * slots_of (get_or mesh.sizes g 0) → get_or (answer_words (picked q 0 (frames h (mesh_of mesh))) ++ rest) (slot_words * slot_count (picked q 0 (take g mesh.sizes)) + i) 0 ≡ get_or (words_for h (mesh_of mesh) g) i 0
  unfolding words_for
  stand-words h mesh g l p i k = stands 0 mesh.sizes (frames h (mesh_of mesh)) (as_many mesh.positions mesh.normals mesh.texture h mesh.sizes) (even mesh.positions mesh.normals mesh.texture h mesh.sizes) g l (ap q (omega arith) ∙ p) i k

-- ---- all words, from their places

module _ (a : List ℕ) where
  words-at : (b : ℕ) (sizes : List ℕ) (rs : List (List Reading)) → length rs ≡ length sizes → Even sizes rs → ((g : ℕ) → g < length sizes → (i : ℕ) → i < slot_words * slots_of (get_or sizes g 0) → get_or a (b + (slot_words * slot_count (take g sizes) + i)) 0 ≡ get_or (flat_map slot.words (get_or rs g [])) i 0) → (x : ℕ) → x < slot_words * slot_count sizes → get_or a (b + x) 0 ≡ get_or (answer_words rs) x 0
  unfolding answer_words slot_count flat_map Even
  words-at b [] rs l e p x h = absurd (omega arith)
  words-at b (z ∷ sizes) [] l e p x h = absurd (omega arith)
  words-at b (z ∷ sizes) (r ∷ rs) l e p x h = go (dec_lt x (length w)) (λ y k. words-at (b + length w) sizes rs (omega arith) (λ g i. e (suc g) (omega arith)) shifted y k)
    where
      w : List ℕ
      w = flat_map slot.words r

      long : length w ≡ slot_words * slots_of z
      long = e 0 (omega arith)

      shifted : (g : ℕ) → g < length sizes → (i : ℕ) → i < slot_words * slots_of (get_or sizes g 0) → get_or a ((b + length w) + (slot_words * slot_count (take g sizes) + i)) 0 ≡ get_or (flat_map slot.words (get_or rs g [])) i 0
      shifted g i j k =
          let y : (b + length w) + (slot_words * slot_count (take g sizes) + j) ≡ b + (slot_words * (slots_of z + slot_count (take g sizes)) + j) = omega (arith, long) in
          ap (λ v. get_or a v 0) y ∙ p (suc g) (omega arith) j k

      go : Dec (x < length w) → ((y : ℕ) → y < slot_words * slot_count sizes → get_or a ((b + length w) + y) 0 ≡ get_or (answer_words rs) y 0) → get_or a (b + x) 0 ≡ get_or (w ++ answer_words rs) x 0
      go (yes k) f =
          let y : b + x ≡ b + (slot_words * 0 + x) = omega arith in
          ap (λ v. get_or a v 0) y ∙ p 0 (omega arith) x (omega (arith, long)) ∙ sym (get_or-append w (answer_words rs) 0 x k)
      go (no k) f =
          let y : x ≡ length w + (x - length w) = omega arith in
          let u : b + x ≡ (b + length w) + (x - length w) = omega arith in
          ap (λ v. get_or a v 0) u ∙ f (x - length w) (omega (arith, long)) ∙ sym (ap (λ v. get_or (w ++ answer_words rs) v 0) y ∙ get_or-append-add w (answer_words rs) (x - length w) 0)

  -- each word of the answer, where each face's words are in their places
  pub all-words-at : (h : Float) (mesh : Handed) → ((g : ℕ) → g < length mesh.sizes → (i : ℕ) → i < slot_words * slots_of (get_or mesh.sizes g 0) → get_or a (slot_words * slot_count (take g mesh.sizes) + i) 0 ≡ get_or (words_for h (mesh_of mesh) g) i 0) → (x : ℕ) → x < slot_words * slot_count mesh.sizes → get_or a x 0 ≡ get_or (answer_words (frames h (mesh_of mesh))) x 0
  unfolding words_for
  all-words-at h mesh p x k =
      let y : x ≡ 0 + x = omega arith in
      ap (λ v. get_or a v 0) y
      ∙ words-at 0 mesh.sizes (frames h (mesh_of mesh)) (as_many mesh.positions mesh.normals mesh.texture h mesh.sizes) (even mesh.positions mesh.normals mesh.texture h mesh.sizes)
      (λ g l i j. let z : 0 + (slot_words * slot_count (take g mesh.sizes) + i) ≡ slot_words * slot_count (take g mesh.sizes) + i = omega arith in ap (λ v. get_or a v 0) z ∙ p g l i j) x k
