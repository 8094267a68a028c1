-- Facts that the code's proofs start from: lengths, triangles by index, the walk's equation. Assumes nothing.
use Prim.Native.Nat.{ℕ, zero, suc, ◌+◌, ◌*◌, ◌<◌}
use native.Mathlib.Omega.{arith}
use mathlib.Core.Path.{◌≡◌, refl, sym, ◌∙◌, ap}
use mathlib.Core.Bool.{Bool, false, cond}
use mathlib.Core.List.{List, [], ◌∷◌, ◌++◌, map, flat_map}
use lib.Dec.{eqb, eqb-zero-suc, eqb-suc-zero, eqb-suc-suc}
use lib.ListN.{length, get_or, length-append, length-map}
use lib.Ieee.{Float}
use borrow.Author.Tests.{ne_eqb}
use Rattle.laws.proofs.Laws.{tri-refl}
use Rattle.bits.proofs.Bools.{beq-sym}
use Rattle.tangent.specs.declared.Reading.{Reading}
use Rattle.tangent.specs.Slot as slot
use Rattle.tangent.specs.Slot.{slot_words}
use Rattle.tangent.proofs.Slots.{words-length}
use Rattle.definition.specs.declared.Corner.{Corner}
use Rattle.definition.specs.declared.Triangle.{Triangle}
use Rattle.definition.specs.Frames.{numbered, frames_from, frames_of, frames}
use Rattle.definition.specs.Handed.{corners_from, mesh_from, used, slots_of, slot_count}
use Rattle.definition.specs.Mesh.{Face, Spot, prior, corner_of, same_triangle}
use Rattle.definition.specs.Outcome.{answer_words}
use Rattle.definition.specs.Step5Links.{links}
use Rattle.definition.specs.Step6Groups.{Mark, stops, over, going}
use Rattle.definition.specs.Step7Sums.{Brought}
use Rattle.definition.specs.Step9Copies.{nooks, face_readings}
use Rattle.definition.specs.Triangles.{usable}
use Rattle.lists.specs.Every.{Every, every_nil, every_cons}
use Rattle.laws.proofs.World.{eqb-sym}
use Rattle.laws.proofs.Enough.{Near, walked, walked-eq}
use Rattle.laws.proofs.Closed.{over-near, links-sound}
use Rattle.definition.specs.Names.{Names, names_nil, names_cons}

-- ---- the words of a slot

pub all_words : (l : List Reading) → length (flat_map slot.words l) ≡ slot_words * length l
unfolding flat_map
all_words [] = refl
all_words (r ∷ l) = length-append (slot.words r) (flat_map slot.words l) ∙ (let a = words-length r in let b = all_words l in omega arith)

pub nooks-length : (i : ℕ) (l : List Corner) → length (nooks i l) ≡ length l
unfolding nooks
nooks-length i [] = refl
nooks-length i (c ∷ l) = ap suc (nooks-length (suc i) l)

pub readings-length : (bs : List Brought) (ss : List Triangle) (f : Face) → length (face_readings bs ss f) ≡ length (usable f.corners)
unfolding face_readings
readings-length bs ss f = length-map (nooks 0 (usable f.corners)) _ ∙ nooks-length 0 (usable f.corners)

used-more : (n : ℕ) → used (suc (suc (suc (suc (suc n))))) ≡ false
unfolding used
used-more n = rw (ne_eqb (suc (suc (suc (suc (suc n))))) 3 (λ e. omega arith), ne_eqb (suc (suc (suc (suc (suc n))))) 4 (λ e. omega arith))

-- readings of faces of these sizes: each face has as many as it has slots
pub data Reads : List ℕ → List (List Reading) → Type 0 where
  reads-nil : Reads [] []
  reads-cons : {n : ℕ} {sizes : List ℕ} {r : List Reading} {rs : List (List Reading)} → length r ≡ slots_of n → Reads sizes rs → Reads (n ∷ sizes) (r ∷ rs)

-- their words are those of S slots
pub reads-length : {sizes : List ℕ} {rs : List (List Reading)} → Reads sizes rs → length (answer_words rs) ≡ slot_words * slot_count sizes
unfolding answer_words slot_count flat_map
reads-length reads-nil = refl
reads-length (reads-cons {r = r} {rs = rs} e t) =
    let a = all_words r in
    let d = reads-length t in
    length-append (flat_map slot.words r) (flat_map (flat_map slot.words) rs) ∙ omega arith

module _ (ps ns ts : List Float) where
  -- a face of 3 or 4 takes its size of slots, another none
  pub face-slots : (i n : ℕ) → length (usable (corners_from ps ns ts i n)) ≡ cond (used n) n 0
  unfolding usable corners_from used
  face-slots i zero = refl
  face-slots i (suc zero) = refl
  face-slots i (suc (suc zero)) = refl
  face-slots i (suc (suc (suc zero))) = refl
  face-slots i (suc (suc (suc (suc zero)))) = refl
  face-slots i (suc (suc (suc (suc (suc n))))) = rw (used-more n)

  pub face-length : (bs : List Brought) (ss : List Triangle) (k i n : ℕ) → length (flat_map slot.words (face_readings bs ss (record { number = k; corners = corners_from ps ns ts i n }))) ≡ slot_words * cond (used n) n 0
  face-length bs ss k i n =
      let f : Face = record { number = k; corners = corners_from ps ns ts i n } in
      let a = all_words (face_readings bs ss f) in
      let b = readings-length bs ss f in
      let c = face-slots i n in
      omega arith

  -- what gives each face as many readings as it has usable corners gives a mesh's faces theirs
  pub mapped-reads : (G : Face → List Reading) → ((f : Face) → length (G f) ≡ length (usable f.corners)) → (k i : ℕ) (sizes : List ℕ) → Reads sizes (map G (numbered k (mesh_from ps ns ts i sizes)))
  unfolding numbered mesh_from slots_of
  mapped-reads G e k i [] = reads-nil
  mapped-reads G e k i (n ∷ sizes) = reads-cons (e (record { number = k; corners = corners_from ps ns ts i n }) ∙ face-slots i n) (mapped-reads G e (suc k) (i + n) sizes)

  pub frames-read : (bs : List Brought) (ss : List Triangle) (k : ℕ) (sizes : List ℕ) → Reads sizes (frames_from (numbered k (mesh_from ps ns ts 0 sizes)) ss bs)
  unfolding frames_from
  frames-read bs ss k sizes = mapped-reads (face_readings bs ss) (readings-length bs ss) k 0 sizes

  -- the answer has the words of S slots
  pub answer_length : (h : Float) (sizes : List ℕ) → length (answer_words (frames h (mesh_from ps ns ts 0 sizes))) ≡ slot_words * slot_count sizes
  unfolding frames frames_of
  answer_length h sizes = reads-length (frames-read _ _ 0 sizes)

-- ---- triangles by index: one name, one index

pub tri-sym : (s t : Triangle) → same_triangle s t ≡ same_triangle t s
unfolding same_triangle
tri-sym s t = rw (eqb-sym s.face t.face, beq-sym s.second t.second)

pub every-get_or : {P : Triangle → Type 0} {l : List Triangle} → Every P l → (i : ℕ) (d : Triangle) → i < length l → P (get_or l i d)
every-get_or every_nil i d h = absurd (omega arith)
every-get_or (every_cons o r) zero d h = o
every-get_or (every_cons o r) (suc i) d h = every-get_or r i d (omega arith)

pub index_same : {ts : List Triangle} → Names ts → (i j : ℕ) (d : Triangle) → i < length ts → j < length ts → same_triangle (get_or ts i d) (get_or ts j d) ≡ eqb i j
index_same names_nil i j d h k = absurd (omega arith)
index_same (names_cons {t} g r) zero zero d h k = tri-refl t
index_same (names_cons {t} {ts} g r) zero (suc j) d h k = every-get_or g j d (omega arith) ∙ sym (eqb-zero-suc j)
index_same (names_cons {t} {ts} g r) (suc i) zero d h k = tri-sym (get_or ts i d) t ∙ (every-get_or g i d (omega arith) ∙ sym (eqb-suc-zero i))
index_same (names_cons g r) (suc i) (suc j) d h k = index_same r i j d (omega arith) (omega arith) ∙ sym (eqb-suc-suc i j)

-- ---- the walk

abbrev pub Walked : List Triangle → Spot → Bool → List Mark → Spot → List Mark
Walked ss g w ms s = walked ss (links ss) g w (λ s h. (over-near ss (links ss) (links-sound ss) (corner_of g) s, over-near ss (links ss) (links-sound ss) (corner_of g) (prior s))) ms s

-- what the walk does at a corner: nothing where it stops; else the corner is marked, the side before it crossed, then the side after it
pub walk_is : (ss : List Triangle) (g : Spot) (w : Bool) (ms : List Mark) (s : Spot) → Near ss (corner_of g) s → Walked ss g w ms s ≡ cond (stops ms w s) ms (going (Walked ss g w) (going (Walked ss g w) (ms ++ (record { spot = s; start = g; orientation = w } ∷ [])) (over (links ss) (corner_of g) (prior s))) (over (links ss) (corner_of g) s))
walk_is ss g w ms s h = walked-eq ss (links ss) g w (λ s h. (over-near ss (links ss) (links-sound ss) (corner_of g) s, over-near ss (links ss) (links-sound ss) (corner_of g) (prior s))) ms s h
