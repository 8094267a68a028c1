-- The answer list and the readings that it shows: the words of a slot, other words in a slot, the final readings as frames; and that every corner of a mesh's triangles has a slot. Assumes nothing.
use Prim.Native.Nat.{ℕ, zero, suc, ◌+◌, ◌*◌, ◌≤◌, ◌<◌}
use native.Mathlib.Nat.{zero-add}
use native.Mathlib.Omega.{arith}
use mathlib.Core.Path.{◌≡◌, refl, sym, ◌∙◌, ap, subst}
use mathlib.Core.Bool.{Bool, true, false, cond, ◌&&◌}
use mathlib.Core.List.{List, [], ◌∷◌, ◌++◌, map, flat_map, append_assoc}
use lib.Dec.{eqb}
use lib.ListN.{length, get_or, set, take, drop, replicate, length-append, length-drop, replicate-append-replicate, get_or-append}
use lib.Ieee.{Float}
use lib.Seq.{sets, take_at, drop-append-add, get_or-append-add, set-append_left}
use borrow.Author.Tests.{eq-eqb, eqb-true}
use Rattle.tangent.specs.declared.Reading.{Reading}
use Rattle.tangent.specs.declared.Reading.TheVariants.{Absent}
use Rattle.tangent.specs.Slot.{slot_words, words}
use Rattle.tangent.proofs.Slots.{words-length}
use Rattle.lists.specs.Loops.{list_of}
use Rattle.lists.specs.Parts.{joined}
use Rattle.lists.proofs.Parts.{joined-add}
use Rattle.lists.proofs.Loops.{length-list_of, get_or-list_of}
use Rattle.definition.specs.declared.Corner.{Corner}
use Rattle.definition.specs.declared.Triangle.{Triangle}
use Rattle.definition.proofs.Lengths.{mesh-length}
use Rattle.definition.specs.Frames.{numbered, frames_from}
use Rattle.definition.specs.FramesOld.{seen, old_readings}
use Rattle.definition.specs.Handed.{corners_from, mesh_from, slots_of, slot_count}
use Rattle.definition.specs.Mesh.{Face, Spot, Third, one, two, three, kept}
use Rattle.definition.specs.Outcome.{answer_words}
use Rattle.definition.specs.Step1Cut.{cut02}
use Rattle.definition.specs.Step4Order.{is_sound, sound, broken}
use Rattle.definition.specs.Step7Sums.{Brought}
use Rattle.definition.specs.Step9Copies.{face_readings}
use Rattle.definition.specs.Triangles.{make, settled, pair, nook, quad, usable, pieces, triangles}
use Rattle.lists.specs.Every.{Every, every_nil, every_cons}
use Rattle.laws.proofs.Part.{every_append, every_map, every-cond, every-keep}
use Rattle.laws.proofs.Bridge.{all_words, readings-length, face-slots, Reads, reads-nil, reads-cons, mapped-reads}
use Rattle.laws.proofs.Editions.{old-readings-length}
use Rattle.view.specs.Answer.{slot_number, HasSlot, slots_from, Shows, at_slot, changed, Slotted, final_at, final_seen}
use Rattle.view.proofs.Lists.{every-index, flat_map-append, sets-after, sets-front, list_of-same, list_of-set, list_of-get_or, list_of-one}

-- ---- the words of a reading

-- what stands past a reading's words
past : (r : Reading) (k : ℕ) → slot_words * suc k ≡ length (words r) + slot_words * k
past r k = omega (arith, words-length r)

-- the words of the k-th of some readings
words-at : (l : List Reading) (rest : List ℕ) (k : ℕ) → k < length l → take slot_words (drop (slot_words * k) (flat_map words l ++ rest)) ≡ words (get_or l k Absent)
unfolding flat_map
words-at [] rest k h = absurd (omega arith)
words-at (r ∷ l) rest zero h = ap (take slot_words) (append_assoc (words r) (flat_map words l) rest) ∙ take_at (words r) (flat_map words l ++ rest) slot_words (words-length r)
words-at (r ∷ l) rest (suc k) h =
    (λ z. take slot_words (drop (past r k z) (append_assoc (words r) (flat_map words l) rest z)))
    ∙ ap (take slot_words) (drop-append-add (words r) (flat_map words l ++ rest) (slot_words * k)) ∙ words-at l rest k (omega arith)

-- another reading's words in the place of the k-th
words-set : (l : List Reading) (rest : List ℕ) (k : ℕ) (q : Reading) → k < length l → sets (flat_map words l ++ rest) (slot_words * k) (words q) ≡ flat_map words (set l k q) ++ rest
unfolding flat_map
words-set [] rest k q h = absurd (omega arith)
words-set (r ∷ l) rest zero q h =
    ap (λ (a : List ℕ). sets a 0 (words q)) (append_assoc (words r) (flat_map words l) rest)
    ∙ sets-front (words r) (flat_map words l ++ rest) (words q) (words-length r ∙ sym (words-length q)) ∙ sym (append_assoc (words q) (flat_map words l) rest)
words-set (r ∷ l) rest (suc k) q h =
    (λ z. sets (append_assoc (words r) (flat_map words l) rest z) (past r k z) (words q))
    ∙ sets-after (words r) (flat_map words l ++ rest) (slot_words * k) (words q)
    ∙ ap (λ (a : List ℕ). words r ++ a) (words-set l rest k q (omega arith)) ∙ sym (append_assoc (words r) (flat_map words (set l k q)) rest)

-- zeros for an absent reading
absent-words : (n : ℕ) → flat_map words (replicate n Absent) ≡ replicate (slot_words * n) 0
unfolding flat_map words
absent-words zero = refl
absent-words (suc n) = ap (λ (l : List ℕ). replicate slot_words 0 ++ l) (absent-words n) ∙ replicate-append-replicate slot_words (slot_words * n) 0 ∙ ap (λ (k : ℕ). replicate k 0) at
  where
    at : slot_words + slot_words * n ≡ slot_words * suc n
    at = omega arith

-- a reading's words, so many times
one-words : (r : Reading) (n : ℕ) → flat_map words (replicate n r) ≡ joined n (λ k. words r)
unfolding flat_map joined
one-words r zero = refl
one-words r (suc n) = ap (λ (l : List ℕ). words r ++ l) (one-words r n) ∙ sym (joined-add 1 n (λ k. words r)) ∙ ap (λ (k : ℕ). joined k (λ k. words r)) (at n)
  where
    at : (n : ℕ) → 1 + n ≡ suc n
    at n = omega arith

-- ---- the slots of all faces, by face and corner

-- as many readings as there are slots
pub slots_length : (g : ℕ) (sizes : List ℕ) (R : ℕ → ℕ → Reading) → length (slots_from g sizes R) ≡ slot_count sizes
unfolding slots_from slot_count
slots_length g [] R = refl
slots_length g (n ∷ sizes) R =
    length-append (list_of (slots_of n) (R g)) (slots_from (suc g) sizes R) ∙ (λ z. length-list_of (slots_of n) (R g) z + slots_length (suc g) sizes R z)

-- a slot of a face that is there is one of all slots
pub slot_lt : (sizes : List ℕ) (f i : ℕ) → HasSlot sizes f i → slot_number sizes f i < slot_count sizes
unfolding slot_count
slot_lt [] f i h = absurd (omega arith)
slot_lt (n ∷ sizes) zero i h = omega arith
slot_lt (n ∷ sizes) (suc f) i h = let t = slot_lt sizes f i (record { face = omega arith; slot = h.slot }) in omega arith

-- its reading, where faces are numbered from g on and h is the number of the face
reading-from : (g : ℕ) (sizes : List ℕ) (R : ℕ → ℕ → Reading) (h f i : ℕ) → h ≡ g + f → HasSlot sizes f i → get_or (slots_from g sizes R) (slot_number sizes f i) Absent ≡ R h i
unfolding slots_from slot_count
reading-from g [] R h f i e s = absurd (omega arith)
reading-from g (n ∷ sizes) R h zero i e s =
    get_or-append (list_of (slots_of n) (R g)) (slots_from (suc g) sizes R) Absent (0 + i) (omega (arith, length-list_of (slots_of n) (R g)))
    ∙ get_or-list_of (slots_of n) (R g) Absent (0 + i) (omega arith) ∙ (λ z. R (same z) (zero-add i z))
  where
    same : g ≡ h
    same = omega arith
reading-from g (n ∷ sizes) R h (suc f) i e s =
    ap (λ (k : ℕ). get_or (list_of (slots_of n) (R g) ++ slots_from (suc g) sizes R) k Absent) at
    ∙ get_or-append-add (list_of (slots_of n) (R g)) (slots_from (suc g) sizes R) (slot_number sizes f i) Absent
    ∙ reading-from (suc g) sizes R h f i (omega arith) (record { face = omega arith; slot = s.slot })
  where
    at : slots_of n + slot_count (take f sizes) + i ≡ length (list_of (slots_of n) (R g)) + slot_number sizes f i
    at = omega (arith, length-list_of (slots_of n) (R g))

-- readings that are the same at every slot
same_from : (g : ℕ) (sizes : List ℕ) (R Q : ℕ → ℕ → Reading) → ((h f i : ℕ) → h ≡ g + f → HasSlot sizes f i → R h i ≡ Q h i) → slots_from g sizes R ≡ slots_from g sizes Q
unfolding slots_from
same_from g [] R Q e = refl
same_from g (n ∷ sizes) R Q e =
    λ z. list_of-same (slots_of n) (R g) (Q g) (λ i l. e g 0 i (omega arith) (record { face = omega arith; slot = l })) z
    ++ same_from (suc g) sizes R Q (λ h f i q s. e h (suc f) i (omega arith) (record { face = omega arith; slot = s.slot })) z

-- readings that differ at one slot
set-from : (g : ℕ) (sizes : List ℕ) (R Q : ℕ → ℕ → Reading) (h f i : ℕ) → h ≡ g + f → HasSlot sizes f i → ((k j : ℕ) → (k ≡ h → j ≡ i → ⊥) → Q k j ≡ R k j) → slots_from g sizes Q ≡ set (slots_from g sizes R) (slot_number sizes f i) (Q h i)
unfolding slots_from slot_count
set-from g [] R Q h f i e s o = absurd (omega arith)
set-from g (n ∷ sizes) R Q h zero i e s o =
    (λ z. list_of-set (slots_of n) i (R g) (Q g) s.slot (λ j d. o g j (λ p q. d q)) z ++ same_from (suc g) sizes Q R (λ k m j q t. o k j (λ p x. omega arith)) z)
    ∙ sym (set-append_left (list_of (slots_of n) (R g)) (slots_from (suc g) sizes R) i (Q g i) (omega (arith, length-list_of (slots_of n) (R g))))
    ∙ (λ z. set (list_of (slots_of n) (R g) ++ slots_from (suc g) sizes R) (sym (zero-add i) z) (Q (same z) i))
  where
    same : g ≡ h
    same = omega arith
set-from g (n ∷ sizes) R Q h (suc f) i e s o =
    (λ z. list_of-same (slots_of n) (Q g) (R g) (λ j l. o g j (λ p q. omega arith)) z ++ set-from (suc g) sizes R Q h f i (omega arith) (record { face = omega arith; slot = s.slot }) o z)
    ∙ sym (sets-after (list_of (slots_of n) (R g)) (slots_from (suc g) sizes R) (slot_number sizes f i) (Q h i ∷ []))
    ∙ ap (λ (k : ℕ). set (list_of (slots_of n) (R g) ++ slots_from (suc g) sizes R) k (Q h i)) at
  where
    at : length (list_of (slots_of n) (R g)) + slot_number sizes f i ≡ slots_of n + slot_count (take f sizes) + i
    at = omega (arith, length-list_of (slots_of n) (R g))

-- readings that are all one
one_from : (r : Reading) (g : ℕ) (sizes : List ℕ) → slots_from g sizes (λ f i. r) ≡ replicate (slot_count sizes) r
unfolding slots_from slot_count
one_from r g [] = refl
one_from r g (n ∷ sizes) = (λ z. list_of-one (slots_of n) r z ++ one_from r (suc g) sizes z) ∙ replicate-append-replicate (slots_of n) (slot_count sizes) r

-- ---- readings of which one is changed

-- the reading that was changed
pub changed-there : (R : ℕ → ℕ → Reading) (f i : ℕ) (r : Reading) → changed R f i r f i ≡ r
unfolding changed
changed-there R f i r = λ z. cond (eq-eqb f f refl z && eq-eqb i i refl z) r (R f i)

-- every other one
pub changed-other : (R : ℕ → ℕ → Reading) (f i : ℕ) (r : Reading) (g j : ℕ) → (eqb g f && eqb j i) ≡ false → changed R f i r g j ≡ R g j
unfolding changed
changed-other R f i r g j e = ap (λ (b : Bool). cond b r (R g j)) e

-- ---- the list

-- the reading of a slot
pub slot_at : (sizes : List ℕ) (R : ℕ → ℕ → Reading) (f i : ℕ) → HasSlot sizes f i → get_or (slots_from 0 sizes R) (slot_number sizes f i) Absent ≡ R f i
slot_at sizes R f i h = reading-from 0 sizes R f f i (sym (zero-add f)) h

module _ (sizes a₀ : List ℕ) where
  -- the words of a slot
  pub slot-words : (R : ℕ → ℕ → Reading) (a : List ℕ) (f i : ℕ) → HasSlot sizes f i → Shows sizes R a₀ a → take slot_words (drop (slot_words * slot_number sizes f i) a) ≡ words (R f i)
  slot-words R a f i h e =
      ap (λ (l : List ℕ). take slot_words (drop (slot_words * slot_number sizes f i) l)) e
      ∙ words-at (slots_from 0 sizes R) (drop (slot_words * slot_count sizes) a₀) (slot_number sizes f i) (omega (arith, slots_length 0 sizes R, slot_lt sizes f i h)) ∙ ap words (slot_at sizes R f i h)

  -- readings that are the same at every slot are shown by the same list
  pub slots_same : (R Q : ℕ → ℕ → Reading) (a : List ℕ) → ((f i : ℕ) → HasSlot sizes f i → R f i ≡ Q f i) → Shows sizes R a₀ a → Shows sizes Q a₀ a
  slots_same R Q a s e = e ∙ ap (λ (l : List Reading). flat_map words l ++ drop (slot_words * slot_count sizes) a₀) (same_from 0 sizes R Q (λ h f i q t. ap (λ (k : ℕ). R k i) (q ∙ zero-add f) ∙ s f i t ∙ ap (λ (k : ℕ). Q k i) (sym (q ∙ zero-add f))))

  -- a reading's words in a slot
  pub slot-set : (R : ℕ → ℕ → Reading) (a : List ℕ) (f i : ℕ) (r : Reading) → HasSlot sizes f i → Shows sizes R a₀ a → Shows sizes (changed R f i r) a₀ (sets a (slot_words * slot_number sizes f i) (words r))
  slot-set R a f i r h e =
      ap (λ (l : List ℕ). sets l (slot_words * slot_number sizes f i) (words r)) e
      ∙ words-set (slots_from 0 sizes R) (drop (slot_words * slot_count sizes) a₀) (slot_number sizes f i) r (omega (arith, slots_length 0 sizes R, slot_lt sizes f i h))
      ∙ ap (λ (l : List Reading). flat_map words l ++ drop (slot_words * slot_count sizes) a₀)
      (sym (set-from 0 sizes R (changed R f i r) f f i (sym (zero-add f)) h (λ k j d. changed-other R f i r k j (apart k j d)) ∙ ap (set (slots_from 0 sizes R) (slot_number sizes f i)) (changed-there R f i r)))
    where
      apart : (k j : ℕ) → (k ≡ f → j ≡ i → ⊥) → (eqb k f && eqb j i) ≡ false
      apart k j d = go (eqb k f) (eqb j i) refl refl
        where
          go : (b c : Bool) → eqb k f ≡ b → eqb j i ≡ c → (b && c) ≡ false
          go true true p q = absurd (d (eqb-true k f p) (eqb-true j i q))
          go true false p q = refl
          go false c p q = refl

  -- the list is as long as its slots and what is past them
  shown-length : (R : ℕ → ℕ → Reading) (a : List ℕ) → Shows sizes R a₀ a → length a ≡ slot_words * slot_count sizes + length (drop (slot_words * slot_count sizes) a₀)
  shown-length R a e =
      ap length e ∙ length-append (flat_map words (slots_from 0 sizes R)) (drop (slot_words * slot_count sizes) a₀)
      ∙ ap (λ (n : ℕ). n + length (drop (slot_words * slot_count sizes) a₀)) (all_words (slots_from 0 sizes R) ∙ ap (λ (n : ℕ). slot_words * n) (slots_length 0 sizes R))

  -- so it has all slots
  pub slots-fit : (R : ℕ → ℕ → Reading) (a : List ℕ) → Shows sizes R a₀ a → slot_words * slot_count sizes ≤ length a
  slots-fit R a e = omega (arith, shown-length R a e)

  -- and is as long as it was, where it had them
  pub length-shown : slot_words * slot_count sizes ≤ length a₀ → (R : ℕ → ℕ → Reading) (a : List ℕ) → Shows sizes R a₀ a → length a ≡ length a₀
  length-shown b R a e = shown-length R a e ∙ omega (arith, b, length-drop (slot_words * slot_count sizes) a₀)

  -- a reading's words in every slot show it
  pub one-shown : (r : Reading) → Shows sizes (λ f i. r) a₀ (joined (slot_count sizes) (λ k. words r) ++ drop (slot_words * slot_count sizes) a₀)
  one-shown r = ap (λ (l : List ℕ). l ++ drop (slot_words * slot_count sizes) a₀) (sym (ap (flat_map words) (one_from r 0 sizes) ∙ one-words r (slot_count sizes)))

  -- zeros show slots that are all absent
  pub absent-shown : Shows sizes (λ f i. Absent) a₀ (replicate (slot_words * slot_count sizes) 0 ++ drop (slot_words * slot_count sizes) a₀)
  absent-shown = ap (λ (l : List ℕ). l ++ drop (slot_words * slot_count sizes) a₀) (sym (ap (flat_map words) (one_from Absent 0 sizes) ∙ absent-words (slot_count sizes)))

-- ---- the frames

-- a face's slots, read one after the other, are its readings
face-from : (r : List Reading) (n : ℕ) (R : ℕ → Reading) → length r ≡ slots_of n → ((i : ℕ) → i < slots_of n → R i ≡ get_or r i Absent) → list_of (slots_of n) R ≡ r
face-from r n R l e = list_of-same (slots_of n) R (λ i. get_or r i Absent) e ∙ ap (λ (m : ℕ). list_of m (λ i. get_or r i Absent)) (sym l) ∙ list_of-get_or r Absent

-- and the slots of all faces, numbered from g on, are the readings of all
reads-from : {sizes : List ℕ} {rs : List (List Reading)} → Reads sizes rs → (g : ℕ) (R : ℕ → ℕ → Reading) → ((h f i : ℕ) → h ≡ g + f → HasSlot sizes f i → R h i ≡ at_slot rs f i) → flat_map words (slots_from g sizes R) ≡ answer_words rs
unfolding slots_from answer_words flat_map
reads-from reads-nil g R e = refl
reads-from (reads-cons {n} {sizes} {r} {rs} l t) g R e =
    flat_map-append words (list_of (slots_of n) (R g)) (slots_from (suc g) sizes R)
    ∙ (λ z. flat_map words (face-from r n (R g) l (λ i b. e g 0 i (omega arith) (record { face = omega arith; slot = b })) z)
    ++ reads-from t (suc g) R (λ h f i q s. e h (suc f) i (omega arith) (record { face = omega arith; slot = s.slot })) z)

-- so their words show them
pub reads-shown : {sizes : List ℕ} {rs : List (List Reading)} → Reads sizes rs → (a₀ : List ℕ) → Shows sizes (at_slot rs) a₀ (answer_words rs ++ drop (slot_words * slot_count sizes) a₀)
reads-shown {sizes} {rs} t a₀ = ap (λ (l : List ℕ). l ++ drop (slot_words * slot_count sizes) a₀) (sym (reads-from t 0 (at_slot rs) (λ h f i q s. ap (λ (k : ℕ). at_slot rs k i) (q ∙ zero-add f))))

-- the readings of face f, among those of all faces from number n on
mapped_at : (G : Face → List Reading) (n k : ℕ) (m : List (List Corner)) (f : ℕ) → k ≡ n + f → f < length m → get_or (map G (numbered n m)) f [] ≡ G (record { number = k; corners = get_or m f [] })
unfolding numbered
mapped_at G n k [] f e h = absurd (omega arith)
mapped_at G n k (c ∷ m) zero e h = let q : n ≡ k = omega arith in ap (λ (j : ℕ). G (record { number = j; corners = c })) q
mapped_at G n k (c ∷ m) (suc f) e h = mapped_at G (suc n) k m f (omega arith) (omega arith)

module _ (ps ns ts : List Float) (sizes : List ℕ) (G : Face → List Reading) where
  abbrev mesh : List (List Corner)
  mesh = mesh_from ps ns ts 0 sizes

  -- what G has of a slot of its face is what stands at that slot
  face-at : (f i : ℕ) → HasSlot sizes f i → get_or (G (record { number = f; corners = get_or mesh f [] })) i Absent ≡ at_slot (map G (numbered 0 mesh)) f i
  face-at f i h =
      let q : f ≡ 0 + f = omega arith in
      ap (λ (l : List Reading). get_or l i Absent) (sym (mapped_at G 0 f mesh f q (subst (λ (n : ℕ). f < n) (sym (mesh-length ps ns ts 0 sizes)) h.face)))

  -- a list that shows what G has of each slot has the words of all of it, where G has as many readings as a face has usable corners
  faces-shown : ((f : Face) → length (G f) ≡ length (usable f.corners)) → (R : ℕ → ℕ → Reading) → ((f i : ℕ) → R f i ≡ get_or (G (record { number = f; corners = get_or mesh f [] })) i Absent)
      → (a₀ a : List ℕ) → Shows sizes R a₀ a → a ≡ answer_words (map G (numbered 0 mesh)) ++ drop (slot_words * slot_count sizes) a₀
  faces-shown l R r a₀ a e =
      e ∙ ap (λ (l : List ℕ). l ++ drop (slot_words * slot_count sizes) a₀)
      (reads-from (mapped-reads ps ns ts G l 0 0 sizes) 0 R (λ h f i q s. ap (λ (k : ℕ). R k i) (q ∙ zero-add f) ∙ (r f i ∙ face-at f i s)))

module _ (ps ns ts : List Float) (ss : List Triangle) (bs : List Brought) (sizes : List ℕ) where
  -- the final reading of a slot is the one of the frames
  pub final-at : (f i : ℕ) → HasSlot sizes f i → final_at bs ss (mesh_from ps ns ts 0 sizes) f i ≡ at_slot (frames_from (numbered 0 (mesh_from ps ns ts 0 sizes)) ss bs) f i
  unfolding final_at frames_from
  final-at = face-at ps ns ts sizes (face_readings bs ss)

  -- a list that shows the final readings has the frames' words
  pub frames-shown : (a₀ a : List ℕ) → Shows sizes (final_at bs ss (mesh_from ps ns ts 0 sizes)) a₀ a → a ≡ answer_words (frames_from (numbered 0 (mesh_from ps ns ts 0 sizes)) ss bs) ++ drop (slot_words * slot_count sizes) a₀
  unfolding final_at frames_from
  frames-shown = faces-shown ps ns ts sizes (face_readings bs ss) (readings-length bs ss) (final_at bs ss (mesh_from ps ns ts 0 sizes)) (λ f i. refl)

  -- and in the old edition, where each corner is seen as step 4 left it
  pub old-shown : (sp : List Spot) (a₀ a : List ℕ) → Shows sizes (final_seen (seen sp) bs ss (mesh_from ps ns ts 0 sizes)) a₀ a → a ≡ answer_words (map (old_readings bs ss sp) (numbered 0 (mesh_from ps ns ts 0 sizes))) ++ drop (slot_words * slot_count sizes) a₀
  unfolding final_seen old_readings
  old-shown sp = faces-shown ps ns ts sizes (old_readings bs ss sp) (old-readings-length bs ss sp) (final_seen (seen sp) bs ss (mesh_from ps ns ts 0 sizes)) (λ f i. refl)

-- ---- every corner of a mesh's triangles has a slot

-- a triangle of face f that keeps corners below n
record Within (f n : ℕ) (t : Triangle) : Type 0 where
  name : t.face ≡ f
  below : (i : Third) → (kept t i).which < n

module _ (f n : ℕ) where
  -- a triangle of three corners below n
  make-within : (b : Bool) (m i j k : ℕ) (c d e : Corner) → i < n → j < n → k < n → Within f n (make f b m (nook i c) (nook j d) (nook k e))
  unfolding make kept
  make-within b m i j k c d e p q r = record { name = refl; below = λ x. elim x as (λ (y : Third). (kept (make f b m (nook i c) (nook j d) (nook k e)) y).which < n) [ one ↦ p | two ↦ q | three ↦ r ] }

  -- the same with another mark and orientation
  settled-within : (t : Triangle) (m o : Bool) → Within f n t → Within f n (settled t m o)
  unfolding settled kept
  settled-within t m o h = record { name = h.name; below = λ x. elim x as (λ (y : Third). (kept (settled t m o) y).which < n) [ one ↦ h.below one | two ↦ h.below two | three ↦ h.below three ] }

  -- the two of a quad
  pair-within : (s t : Triangle) → Within f n s → Within f n t → Every (Within f n) (pair s t)
  unfolding pair
  pair-within s t h k = every_cons (settled-within s _ _ h) (every_cons (settled-within t _ _ k) every_nil)

-- the triangles of a face keep its usable corners
pieces-within : (f : ℕ) (cs : List Corner) → Every (Within f (length (usable cs))) (pieces f cs)
unfolding pieces quad usable
pieces-within f [] = every_nil
pieces-within f (c0 ∷ []) = every_nil
pieces-within f (c0 ∷ c1 ∷ []) = every_nil
pieces-within f (c0 ∷ c1 ∷ c2 ∷ []) = every_cons (make-within f 3 false 3 0 1 2 c0 c1 c2 (omega arith) (omega arith) (omega arith)) every_nil
pieces-within f (c0 ∷ c1 ∷ c2 ∷ c3 ∷ []) =
    every-cond (cut02 c0 c1 c2 c3)
    (pair-within f 4 _ _ (make-within f 4 false 3 0 1 2 c0 c1 c2 (omega arith) (omega arith) (omega arith)) (make-within f 4 true 1 0 2 3 c0 c2 c3 (omega arith) (omega arith) (omega arith)))
    (pair-within f 4 _ _ (make-within f 4 false 2 0 1 3 c0 c1 c3 (omega arith) (omega arith) (omega arith)) (make-within f 4 true 0 1 2 3 c1 c2 c3 (omega arith) (omega arith) (omega arith)))
pieces-within f (c0 ∷ c1 ∷ c2 ∷ c3 ∷ c4 ∷ l) = every_nil

module _ (ps ns ts : List Float) where
  -- faces numbered from g on, whose slots are slots of all
  slotted-from : (all : List ℕ) (g k : ℕ) (sizes : List ℕ) → ((h f i : ℕ) → h ≡ g + f → HasSlot sizes f i → HasSlot all h i) → Every (Slotted all) (triangles (numbered g (mesh_from ps ns ts k sizes)))
  unfolding triangles numbered mesh_from slots_of
  slotted-from all g k [] up = every_nil
  slotted-from all g k (n ∷ sizes) up =
      every_append
      (every_map (λ t w. record { has = λ i. up t.face 0 (kept t i).which (omega (arith, w.name)) (record { face = omega arith; slot = omega (arith, w.below i, face-slots ps ns ts k n) }) }) (pieces-within g (corners_from ps ns ts k n)))
      (slotted-from all (suc g) (k + n) sizes (λ h f i e s. up h (suc f) i (omega arith) (record { face = omega arith; slot = s.slot })))

  -- every triangle of a mesh
  pub mesh-slotted : (sizes : List ℕ) → Every (Slotted sizes) (triangles (numbered 0 (mesh_from ps ns ts 0 sizes)))
  mesh-slotted sizes = slotted-from sizes 0 0 sizes (λ h f i e s. subst (λ (k : ℕ). HasSlot sizes k i) (sym (e ∙ zero-add f)) s)

-- so each of the sound and then the degenerate ones, by its index
pub slotted-sound-broken : {sizes : List ℕ} {xs : List Triangle} → Every (Slotted sizes) xs → (t : ℕ) (d : Triangle) → t < length (sound xs ++ broken xs) → Slotted sizes (get_or (sound xs ++ broken xs) t d)
unfolding sound broken
slotted-sound-broken h = every-index (every_append (every-keep is_sound h) (every-keep (λ t. t.degenerate) h))
