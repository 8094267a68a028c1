-- The ten words of every slot are those of before request E7. Assumes nothing.
use Prim.Native.Nat.{ℕ}
use mathlib.Core.Path.{◌≡◌, refl, sym, ap, ◌∙◌}
use mathlib.Core.Bool.{Bool, true, false, cond}
use mathlib.Core.List.{List, [], ◌∷◌, map, map-id, map-map}
use mathlib.Core.Option.{Option, none, some}
use lib.Dec.{eqb}
use lib.ListN.{get_or, take, get_or-map}
use lib.Ieee.{Float}
use Rattle.tangent.specs.declared.Evaluated.{Evaluated}
use Rattle.tangent.specs.declared.Reading.{Reading}
use Rattle.tangent.specs.declared.Reading.TheVariants.{Absent, Single, Combined, Copied, Filled}
use Rattle.tangent.specs.Space.{united, reached, copy_of, copied as copy_from}
use Rattle.tangent.specs.Slot.{ten_words, present, words}
use Rattle.definition.specs.declared.Corner.{Corner}
use Rattle.definition.specs.declared.Kept.{Kept}
use Rattle.definition.specs.declared.Triangle.{Triangle}
use Rattle.definition.specs.declared.Sum.{Sum}
use Rattle.lists.specs.Lists.{run}
use Rattle.definition.specs.Mesh.{Face, Spot, corner_of, slot_of}
use Rattle.definition.specs.Triangles.{triangles, usable, pieces}
use Rattle.definition.specs.Step4Order.{sound}
use Rattle.definition.specs.Step5Links.{links}
use Rattle.definition.specs.Step6Groups.{Mark, marks, corner_in}
use Rattle.definition.specs.Step7Sums.{empty_sum, weighed, add_spot, contribute, finish, evaluate, subgroup, Brought, bring, brought_all}
use Rattle.definition.specs.Step8Slots.{put, reading}
use Rattle.definition.specs.Step9Copies.{copied, from_sound, from_kept, from_marked, final_of, nooks, face_readings}
use Rattle.definition.specs.Frames.{numbered, frames_from, frames_of, frames}
use Rattle.definition.specs.Handed.{Call, mesh_of}
use Rattle.laws.proofs.Part.{keep-map}
use Rattle.promises.specs.Calls.{reading_at}
use Rattle.promises.specs.BeforeE7.{Ten, ten_from, ten_of, slot_words_before, words_before, space_before, BroughtBefore, bring_before, put_before, reading_before, copied_before, marked_before, final_before, face_before, frames_before, ten_before_at, Promised, SumBefore, weighed_before, add_before, contribute_before, finish_before}
use Rattle.promises.proofs.Directions.{taken-slot}

-- ---- a reading's words

ten-words : (r : Reading) → take slot_words_before (words r) ≡ words_before (ten_of r)
unfolding words present ten_words words_before ten_of
ten-words Absent = refl
ten-words (Single e o) = refl
ten-words (Combined e o) = refl
ten-words (Copied e o) = refl
ten-words (Filled e o) = refl

-- a run, seen through F, is a run over what is seen of the list through G
run-seen : {A B C D : Type 0} (F : B → C) (G : A → D) (f : B → A → B) (g : C → D → C) → ((z : B) (x : A) → F (f z x) ≡ g (F z) (G x)) → (z : B) (l : List A) → F (run f z l) ≡ run g (F z) (map G l)
unfolding run
run-seen F G f g e z [] = refl
run-seen F G f g e z (x ∷ l) = run-seen F G f g e (f z x) l ∙ ap (λ y. run g y (map G l)) (e z x)

-- ---- step 7

-- what is left of a sum of now
abbrev uncounted : Sum → SumBefore
uncounted z = record { angles = z.angles; weighted = z.weighted }

-- no contribution reads the count
contribute-same : (c : Corner) (z : Sum) (t : Triangle) → uncounted (contribute c z t) ≡ contribute_before c (uncounted z) t
unfolding contribute add_spot weighed contribute_before add_before weighed_before
contribute-same c z t = go t.any (corner_in c t)
  where
    go : (b : Bool) (o : Option Spot) → uncounted (cond b z (add_spot z o)) ≡ cond b (uncounted z) (add_before (uncounted z) o)
    go true o = refl
    go false none = refl
    go false (some s) = refl

space-same : (c : Corner) (ts : List Triangle) → space_before c ts ≡ (evaluate c ts).space
unfolding evaluate space_before finish finish_before
space-same c ts =
    sym (ap finish_before (run-seen uncounted (λ (t : Triangle). t) (contribute c) (contribute_before c) (contribute-same c) empty_sum ts ∙ ap (run (contribute_before c) (uncounted empty_sum)) (map-id ts)))

-- what is left of what a member brings now
abbrev forgotten : Brought → BroughtBefore
forgotten b = record { face = b.face; slot = b.slot; ten = ten_from b.value b.orientation }

bring-same : (h : Float) (ss : List Triangle) (ms : List Mark) (m : Mark) → bring_before h ss ms m ≡ forgotten (bring h ss ms m)
unfolding bring bring_before
bring-same h ss ms m = λ j. record {
  face = m.spot.tri.face;
  slot = slot_of m.spot;
  ten = record { space = space-same (corner_of m.start) (subgroup h ss ms m) j; orientation = m.orientation };
}

-- ---- step 8

put_same : (r : Reading) (b : Brought) → ten_of (put r b) ≡ put_before (ten_of r) (forgotten b)
unfolding put reached united ten_of put_before
put_same Absent b = refl
put_same (Single e o) b = refl
put_same (Combined e o) b = refl
put_same (Copied e o) b = refl
put_same (Filled e o) b = refl

-- ---- step 9

-- a copy differs in its origin alone
copy_from-same : (quad : Bool) (e : Evaluated) (o : Bool) → ten_of (copy_from e o quad) ≡ some (ten_from e o)
unfolding copy_from ten_of
copy_from-same true e o = refl
copy_from-same false e o = refl

copy-same : (quad : Bool) (r : Reading) → ten_of (copy_of quad r) ≡ ten_of r
unfolding copy_of ten_of
copy-same quad Absent = refl
copy-same quad (Single e o) = copy_from-same quad e o
copy-same quad (Combined e o) = copy_from-same quad e o
copy-same quad (Copied e o) = copy_from-same quad e o
copy-same quad (Filled e o) = copy_from-same quad e o

either : (b : Bool) (r s : Reading) {x y : Option Ten} → ten_of r ≡ x → ten_of s ≡ y → ten_of (cond b r s) ≡ cond b x y
either true r s p q = p
either false r s p q = q

module _ (bs : List Brought) where
  abbrev before : List BroughtBefore
  before = map forgotten bs

  reading-same : (f i : ℕ) → ten_of (reading bs f i) ≡ reading_before before f i
  unfolding reading reading_before ten_of
  reading-same f i =
      run-seen ten_of forgotten put put_before put_same Absent _
      ∙ ap (run put_before none) (sym (keep-map _ forgotten bs))

  copied-same : (quad : Bool) (o : Option Spot) → ten_of (copied quad bs o) ≡ copied_before before o
  unfolding copied copied_before ten_of
  copied-same quad none = refl
  copied-same quad (some s) = copy-same quad _ ∙ reading-same s.tri.face (slot_of s)

  marked-same : (o : Option Triangle) (k : Kept) → ten_of (from_marked bs o k.which k.corner) ≡ marked_before before o k
  unfolding from_marked from_kept marked_before ten_of
  marked-same none k = refl
  marked-same (some t) k = either (eqb k.which t.missing) _ _ (copied-same true _) (reading-same t.face k.which)

  final-same : (ss : List Triangle) (f : ℕ) (ts : List Triangle) (k : Kept) → ten_of (final_of bs ss f ts k) ≡ final_before before ss f ts k
  unfolding final_of from_sound final_before ten_of
  final-same ss f [] k = refl
  final-same ss f (t ∷ ts) k =
      either t.marked _ _ (marked-same _ k)
      (either t.degenerate _ _ (copied-same false _) (reading-same f k.which))

  face-same : (ss : List Triangle) (f : Face) → map ten_of (face_readings bs ss f) ≡ face_before before ss f
  unfolding face_readings face_before
  face-same ss f =
      let ts = pieces f.number f.corners in
      let ks = nooks 0 (usable f.corners) in
      map-map ten_of (final_of bs ss f.number ts) ks ∙ (λ j. map (λ k. final-same ss f.number ts k j) ks)

-- of every mesh, at every threshold, of every face every slot
same_tens : (h : Float) (m : List (List Corner)) → map (map ten_of) (frames h m) ≡ frames_before h m
unfolding frames frames_of frames_from brought_all frames_before
same_tens h m =
    let fs = numbered 0 m in
    let ss = sound (triangles fs) in
    let ms = marks ss (links ss) in
    let bs = brought_all h ss ms in
    let were : map (bring_before h ss ms) ms ≡ map forgotten bs = (λ j. map (λ x. bring-same h ss ms x j) ms) ∙ sym (map-map forgotten (bring h ss ms) ms) in
    map-map (map ten_of) (face_readings bs ss) fs ∙ (λ j. map (λ f. face-same bs ss f j) fs) ∙ ap (λ cs. map (face_before cs ss) fs) (sym were)

-- ---- of a call

ten-at : (x : Call) (f i : ℕ) → ten_of (reading_at x f i) ≡ ten_before_at x f i
unfolding reading_at ten_before_at ten_of
ten-at x f i =
    let fs = frames x.threshold (mesh_of x.mesh) in
    sym (get_or-map ten_of (get_or fs f []) i Absent)
    ∙ ap (λ l. get_or l i none) (sym (get_or-map (map ten_of) fs f []))
    ∙ ap (λ l. get_or (get_or l f []) i none) (same_tens x.threshold (mesh_of x.mesh))

pub before_e7 : Promised
before_e7 =
    record {
      same_tens = same_tens;
      ten-words = ten-words;
      same_slots = λ x z a n f i h. ap (take slot_words_before) (taken-slot x z a n f i h) ∙ ten-words (reading_at x f i) ∙ ap words_before (ten-at x f i);
    }
