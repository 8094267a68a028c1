-- The call for frames and reasons: its bytes say what is so. Assumes nothing.
use Prim.Native.Nat.{ℕ, suc, ◌+◌, ◌*◌, ◌<◌}
use native.Mathlib.Omega.{arith}
use mathlib.Core.Path.{◌≡◌, refl, sym, ap, ◌∙◌, subst}
use mathlib.Core.Bool.{Bool, true, false}
use mathlib.Core.List.{List, [], ◌∷◌, ◌++◌, append-nil}
use mathlib.Core.Option.{Option, none, some}
use lib.Dec.{ltb}
use lib.ListN.{length, get_or, drop}
use lib.Ieee.{Float}
use lib.Seq.{drop-nil, drop_at, get_or-take, get_or-drop}
use borrow.Author.Tests.{lt-ltb, le-ltb}
use Rattle.tangent.specs.declared.Reading.{Reading}
use Rattle.tangent.specs.declared.Reading.TheVariants.{Absent, Single, Combined, Copied, Filled}
use Rattle.tangent.specs.Slot.{slot_words, ten_words, present, words}
use Rattle.tangent.specs.Space.{copied as copy_from, copy_of}
use Rattle.lists.proofs.Loops.{length-list_of}
use Rattle.definition.specs.declared.Corner.{Corner}
use Rattle.definition.specs.Handed.{Handed, Call, mesh_of, slot_count}
use Rattle.definition.specs.Desk.{Row, at_desk, verdict}
use Rattle.definition.specs.Mesh.{Spot, kept, slot_of}
use Rattle.definition.specs.Outcome.{answer_words, accepted, answered as frames_answered, outcome}
use Rattle.definition.specs.Triangles.{nook, usable}
use Rattle.definition.specs.Step4Order.{sound}
use Rattle.definition.specs.Step7Sums.{Brought}
use Rattle.definition.specs.Step8Slots.{reading}
use Rattle.definition.specs.Step9Copies.{copied, nooks}
use Rattle.definition.specs.Frames.{numbered, triangles_of, frames_from, frames_of, frames}
use Rattle.lists.specs.Every.{Every, every_nil, every_cons, Each, each_some}
use Rattle.laws.proofs.Part.{every_map}
use Rattle.laws.proofs.Mutual.{every-at}
use Rattle.laws.proofs.Verdict.{verdict-numbered, InTable}
use Rattle.view.specs.Answer.{slot_number, HasSlot, Shows, final_at}
use Rattle.view.proofs.Answer.{slot_lt, slot-words, final-at, frames-shown}
use Rattle.copies.proofs.Places.{slot-below}
use Rattle.islands.specs.Nine.{afterwards}
use Rattle.islands.proofs.Nine.{numbered-row}
use Rattle.worth.proofs.Filling.{filled_at}
use Rattle.reasons.specs.Trial.{tried_reading, tried, trial}
use Rattle.reasons.specs.Reasons.{unwelded_slot, copying_slot, unreached_slot, origin_word, reason_by, only_absent, reasons_of}
use Rattle.reasons.specs.Contract.{left, reasons_verdict, reason_bytes, accepted_reasons, answered, reasons_outcome}
use Rattle.reasons.proofs.Trial.{tried-reading}
use Rattle.promises.specs.Calls.{leaves, Accepted}
use Rattle.promises.specs.Faithful.{slots_at, final_reading, There, in_quad}
use Rattle.promises.specs.Reasons.{Unwelded, CopiesAbsent, Unreached, Reason, unwelded, copies_absent, unreached}
use Rattle.promises.specs.Explained.{ReasonsMade, remains, reason_at, Says, Promised}
use Rattle.promises.specs.Explained as says
use Rattle.promises.proofs.StepNine as nine
use Rattle.promises.proofs.Worth.{not_absent}
use Rattle.promises.proofs.Reasons.{reasons, zero-reach, reach-zero}

-- ---- the words of a slot, whatever was brought

module _ (mesh : Handed) (bs : List Brought) where
  -- the words of all slots after step 9
  abbrev all : List ℕ
  all = answer_words (frames_from (numbered 0 (mesh_of mesh)) (sound (triangles_of mesh)) bs)

  -- one of them
  word-at : (f i j : ℕ) → HasSlot mesh.sizes f i → j < slot_words → get_or all (slot_words * slot_number mesh.sizes f i + j) 0 ≡ get_or (words (nine.after (mesh_of mesh) bs f i)) j 0
  word-at f i j h l =
      let ss = sound (triangles_of mesh) in
      let rest = drop (slot_words * slot_count mesh.sizes) [] in
      let p = slot_words * slot_number mesh.sizes f i in
      let S : Shows mesh.sizes (final_at bs ss (mesh_of mesh)) [] (all ++ rest) = sym (frames-shown mesh.positions mesh.normals mesh.texture ss bs mesh.sizes [] _ refl) in
      ap (λ (a : List ℕ). get_or a (p + j) 0) (sym (ap (λ (r : List ℕ). all ++ r) (drop-nil (slot_words * slot_count mesh.sizes)) ∙ append-nil all))
      ∙ (sym (get_or-drop p (all ++ rest) j 0) ∙ (sym (get_or-take slot_words (drop p (all ++ rest)) j 0 l)
      ∙ ap (λ (a : List ℕ). get_or a j 0) (slot-words mesh.sizes [] (final_at bs ss (mesh_of mesh)) (all ++ rest) f i h S ∙ ap words (final-at mesh.positions mesh.normals mesh.texture ss bs mesh.sizes f i h))))

-- ---- the trial

-- a corner's number is below how many there are
below : (n : ℕ) (cs : List Corner) → Every (λ k. k.which < n + length cs) (nooks n cs)
unfolding nooks
below n [] = every_nil
below n (c ∷ cs) = every_cons {x = nook n c} (omega arith) (every_map (λ k h. omega (arith, h)) (below (suc n) cs))

module _ (m : List (List Corner)) where
  -- what is brought in it
  abbrev bs : List Brought
  bs = tried (numbered 0 m)

  -- a sound corner's slot has it before step 9
  sound-tried : (s : Spot) → There m s → reading bs s.tri.face (slot_of s) ≡ tried_reading
  unfolding slot_of
  sound-tried s T =
      let f = s.tri.face in
      let l = every-at (below 0 (usable (get_or m f []))) T.slot in
      tried-reading f (kept s.tri s.at).which m (nine.in-range m f (omega (arith, l, nine.slots_length 0 (usable (get_or m f []))))) (omega (arith, l))

  -- where its frame comes from after step 9
  abbrev origin : ℕ → ℕ → ℕ
  origin f i = get_or (words (nine.after m bs f i)) origin_word 0

  unwelded-origin : (f i : ℕ) → Unwelded m f i → origin f i ≡ 0
  unfolding copied words
  unwelded-origin f i u =
      ap (origin f) (sym u.which) ∙ ap (λ (r : Reading). get_or (words r) origin_word 0) (nine.broken-after m bs f u.corner u.broken ∙ ap (copied false bs) u.alone)

  unreached-origin : (f i : ℕ) → Unreached m f i → origin f i ≡ 1
  unfolding words present ten_words
  unreached-origin f i u =
      (λ z. origin (sym u.face z) (sym u.slot z)) ∙ ap (λ (r : Reading). get_or (words r) origin_word 0) (nine.own-after m bs u.spot u.there ∙ sound-tried u.spot u.there)

  -- of a copy
  copied-origin : (quad : Bool) → reason_by (get_or (words (copy_of quad tried_reading)) origin_word 0) ≡ copying_slot
  unfolding copy_of copy_from words present ten_words reason_by
  copied-origin true = refl
  copied-origin false = refl

  copying-origin : (h : Float) (f i : ℕ) → CopiesAbsent h m f i → reason_by (origin f i) ≡ copying_slot
  copying-origin h f i c =
      let s = c.source in
      let T = nine.there m s (nine.source_in m f c.corner s c.copies) in
      ap (λ (j : ℕ). reason_by (origin f j)) (sym c.which)
      ∙ (ap (λ (r : Reading). reason_by (get_or (words r) origin_word 0)) (nine.copy-after m bs f c.corner s c.copies ∙ ap (copy_of (in_quad c.copies)) (sound-tried s T)) ∙ copied-origin (in_quad c.copies))

-- ---- the byte of a slot

module _ (h : Float) (mesh : Handed) (f i : ℕ) (H : HasSlot mesh.sizes f i) where
  abbrev m : List (List Corner)
  m = mesh_of mesh

  abbrev at : ℕ
  at = slot_words * slot_number mesh.sizes f i

  abbrev byte : ℕ
  byte = only_absent (get_or (answer_words (frames h m)) at 0) (reason_by (get_or (answer_words (trial m)) (at + origin_word) 0))

  final-word : get_or (answer_words (frames h m)) at 0 ≡ get_or (words (final_reading h m f i)) 0 0
  unfolding frames frames_of
  final-word = let q : at ≡ at + 0 = omega arith in ap (λ (k : ℕ). get_or (answer_words (frames h m)) k 0) q ∙ word-at mesh (nine.bs m h) f i 0 H (omega arith)

  trial-word : get_or (answer_words (trial m)) (at + origin_word) 0 ≡ origin m f i
  unfolding trial
  trial-word = word-at mesh (bs m) f i origin_word H (omega arith)

  -- of an absent one, by its origin in the trial
  absent-byte : final_reading h m f i ≡ Absent → (n : ℕ) → reason_by (origin m f i) ≡ n → byte ≡ n
  unfolding only_absent words
  absent-byte e n q = (λ z. only_absent ((final-word ∙ ap (λ (r : Reading). get_or (words r) 0 0) e) z) (reason_by (trial-word z))) ∙ q

  by-reason : final_reading h m f i ≡ Absent → Reason h m f i → Says h m f i byte
  unfolding reason_by
  by-reason e (unwelded u) = says.unwelded (absent-byte e unwelded_slot (ap reason_by (unwelded-origin m f i u))) u
  by-reason e (copies_absent c) = says.copies_absent (absent-byte e copying_slot (copying-origin m h f i c)) c
  by-reason e (unreached u) = says.unreached (absent-byte e unreached_slot (ap reason_by (unreached-origin m f i u))) u

  -- one that is there
  there-byte : (r : Reading) → final_reading h m f i ≡ r → get_or (words r) 0 0 ≡ 1 → Says h m f i byte
  unfolding only_absent
  there-byte r e q =
      says.present (ap (λ (w : ℕ). only_absent w (reason_by (get_or (answer_words (trial m)) (at + origin_word) 0))) (final-word ∙ (ap (λ (r : Reading). get_or (words r) 0 0) e ∙ q)))
      (λ p. not_absent r q (sym e ∙ p))

  by-reading : (r : Reading) → final_reading h m f i ≡ r → Says h m f i byte
  unfolding words present ten_words
  by-reading Absent e =
      by-reason e (reasons.why h m f i (omega (arith, slot-below mesh.positions mesh.normals mesh.texture mesh.sizes f i H, nine.slots_length 0 (usable (get_or m f [])))) e)
  by-reading (Single v o) e = there-byte (Single v o) e refl
  by-reading (Combined v o) e = there-byte (Combined v o) e refl
  by-reading (Copied v o) e = there-byte (Copied v o) e refl
  by-reading (Filled v o) e = there-byte (Filled v o) e refl

-- ---- no two bytes

only_one : (h : Float) (m : List (List Corner)) (f i b c : ℕ) → Says h m f i b → Says h m f i c → b ≡ c
only_one h m f i b c (says.present p n) (says.present q k) = p ∙ sym q
only_one h m f i b c (says.present p n) (says.unwelded q u) = absurd (n (reasons.so_absent h m f i (unwelded u)))
only_one h m f i b c (says.present p n) (says.copies_absent q u) = absurd (n (reasons.so_absent h m f i (copies_absent u)))
only_one h m f i b c (says.present p n) (says.unreached q u) = absurd (n (reasons.so_absent h m f i (unreached u)))
only_one h m f i b c (says.unwelded p u) (says.present q n) = absurd (n (reasons.so_absent h m f i (unwelded u)))
only_one h m f i b c (says.unwelded p u) (says.unwelded q v) = p ∙ sym q
only_one h m f i b c (says.unwelded p u) (says.copies_absent q v) = absurd (reasons.not_1_2 h m f i u v)
only_one h m f i b c (says.unwelded p u) (says.unreached q v) = absurd (reasons.not_1_3 m f i u v)
only_one h m f i b c (says.copies_absent p u) (says.present q n) = absurd (n (reasons.so_absent h m f i (copies_absent u)))
only_one h m f i b c (says.copies_absent p u) (says.unwelded q v) = absurd (reasons.not_1_2 h m f i v u)
only_one h m f i b c (says.copies_absent p u) (says.copies_absent q v) = p ∙ sym q
only_one h m f i b c (says.copies_absent p u) (says.unreached q v) = absurd (reasons.not_2_3 h m f i u v)
only_one h m f i b c (says.unreached p u) (says.present q n) = absurd (n (reasons.so_absent h m f i (unreached u)))
only_one h m f i b c (says.unreached p u) (says.unwelded q v) = absurd (reasons.not_1_3 m f i v u)
only_one h m f i b c (says.unreached p u) (says.copies_absent q v) = absurd (reasons.not_2_3 h m f i v u)
only_one h m f i b c (says.unreached p u) (says.unreached q v) = p ∙ sym q

-- ---- the threshold

-- a sound corner is absent at every threshold or at none
module _ (g h : Float) (m : List (List Corner)) where
  same-absent : (s : Spot) → There m s → final_reading g m s.tri.face (slot_of s) ≡ Absent → final_reading h m s.tri.face (slot_of s) ≡ Absent
  same-absent s T e =
      let f = s.tri.face in
      nine.own-reading m h s T ∙ reach-zero m h f (slot_of s) (zero-reach m g f (slot_of s) (sym (nine.own-reading m g s T) ∙ e))

  -- so a reason at one is a reason at another
  other-reason : (f i : ℕ) → Reason g m f i → Reason h m f i
  other-reason f i (unwelded u) = unwelded u
  other-reason f i (copies_absent c) =
      copies_absent (record { corner = c.corner; source = c.source; which = c.which; copies = c.copies; absent = same-absent c.source (nine.there m c.source (nine.source_in m f c.corner c.source c.copies)) c.absent })
  other-reason f i (unreached u) = unreached u

-- and a byte says the same
any-threshold-is : (g h : Float) (m : List (List Corner)) (f i b : ℕ) → i < length (slots_at m f) → Says g m f i b → Says h m f i b
any-threshold-is g h m f i b l (says.present p n) = says.present p (λ e. n (reasons.so_absent g m f i (other-reason h g m f i (reasons.why h m f i l e))))
any-threshold-is g h m f i b l (says.unwelded p u) = says.unwelded p u
any-threshold-is g h m f i b l (says.copies_absent p c) = by-other (other-reason g h m f i (copies_absent c))
  where
    by-other : Reason h m f i → Says h m f i b
    by-other (unwelded u) = absurd (reasons.not_1_2 g m f i u c)
    by-other (copies_absent e) = says.copies_absent p e
    by-other (unreached u) = absurd (reasons.not_2_3 g m f i c u)
any-threshold-is g h m f i b l (says.unreached p u) = says.unreached p u

-- ---- a call

module _ (x : Call) (k : List ℕ) (m : ReasonsMade x k) where
  -- how many slots there are
  abbrev n : ℕ
  n = slot_count x.mesh.sizes

  -- the table's word, and whether there is less than a byte a slot
  abbrev table : Option Row
  table = verdict (at_desk x)

  abbrev short : Bool
  short = ltb (length k) n

  left_by : (o : Option Row) (b : Bool) → table ≡ o → short ≡ b → left m.returned m.answer m.work m.reasons ≡ answered (afterwards o b) (accepted_reasons x k) x.answer x.work k
  unfolding reasons_outcome reasons_verdict
  left_by o b e f = m.meets ∙ (λ z. answered (afterwards (e z) (f z)) (accepted_reasons x k) x.answer x.work k)

  leaves_by : (o : Option Row) → table ≡ o → leaves x ≡ frames_answered o (accepted x) x.answer x.work
  unfolding leaves outcome
  leaves_by o e = ap (λ v. frames_answered v (accepted x) x.answer x.work) e

  frames-by : (o : Option Row) → table ≡ o → short ≡ false → remains m ≡ leaves x
  unfolding left answered afterwards accepted_reasons frames_answered accepted
  frames-by none e f = (let q = left_by none false e f in λ z. record { number = (q z).number; place = (q z).place; slots = (q z).slots; answer = (q z).answer; work = (q z).work }) ∙ sym (leaves_by none e)
  frames-by (some r) e f = (let q = left_by (some r) false e f in λ z. record { number = (q z).number; place = (q z).place; slots = (q z).slots; answer = (q z).answer; work = (q z).work }) ∙ sym (leaves_by (some r) e)

  -- which of the three it was
  pub data Which : Type 0 where
    made-it : left m.returned m.answer m.work m.reasons ≡ accepted_reasons x k → Which
    refused-it : (r : Row) → 0 < r.number → left m.returned m.answer m.work m.reasons ≡ answered (some r) (accepted_reasons x k) x.answer x.work k → Which

  which : Which
  unfolding answered
  which = go (afterwards table short) refl
    where
      go : (o : Option Row) → afterwards table short ≡ o → Which
      go none e = made-it (left_by table short refl refl ∙ ap (λ v. answered v (accepted_reasons x k) x.answer x.work k) e)
      go (some r) e = refused-it r (numbered-row table (verdict-numbered (at_desk x)) short r e) (left_by table short refl refl ∙ ap (λ v. answered v (accepted_reasons x k) x.answer x.work k) e)

  -- the byte of a slot
  told-by : m.returned.number ≡ 0 → Which → (f i : ℕ) → HasSlot x.mesh.sizes f i → Says x.threshold (mesh_of x.mesh) f i (reason_at m f i)
  unfolding left accepted_reasons answered reason_bytes reasons_of
  told-by z (made-it e) f i H =
      subst (Says x.threshold (mesh_of x.mesh) f i)
      (sym (ap (λ y. get_or y.reasons (slot_number x.mesh.sizes f i) 0) e ∙ filled_at n _ k (slot_number x.mesh.sizes f i) (slot_lt x.mesh.sizes f i H)))
      (by-reading x.threshold x.mesh f i H _ refl)
  told-by z (refused-it r p e) f i H = let q = ap (λ y. y.number) e in absurd (omega (arith, z, p, q))

  refused-by : (m.returned.number ≡ 0 → ⊥) → Which → (m.returned.slots ≡ 0) × (m.answer ≡ x.answer) × (m.work ≡ x.work) × (m.reasons ≡ k)
  unfolding left accepted_reasons answered
  refused-by h (made-it e) = absurd (h (ap (λ y. y.number) e))
  refused-by h (refused-it r p e) = (ap (λ y. y.slots) e, ap (λ y. y.answer) e, ap (λ y. y.work) e, ap (λ y. y.reasons) e)

  past_by : Which → drop n m.reasons ≡ drop n k
  unfolding left accepted_reasons answered reason_bytes reasons_of
  past_by (made-it e) = ap (λ y. drop n y.reasons) e ∙ drop_at (reason_bytes x) (drop n k) n (length-list_of n (λ s. only_absent (get_or (answer_words (frames x.threshold (mesh_of x.mesh))) (slot_words * s) 0) (reason_by (get_or (answer_words (trial (mesh_of x.mesh))) (slot_words * s + origin_word) 0))))
  past_by (refused-it r p e) = ap (λ y. drop n y.reasons) e

  first_by : (o : Option Row) → table ≡ o → (b : Bool) → short ≡ b → (Accepted x → ⊥) → (m.returned.number ≡ (leaves x).number) × (m.returned.place ≡ (leaves x).place)
  unfolding left answered afterwards Accepted frames_answered accepted
  first_by none e b f h = absurd (h (ap (λ y. y.number) (leaves_by none e)))
  first_by (some r) e b f h =
      let q = left_by (some r) b e f in
      let z = leaves_by (some r) e in
      (ap (λ y. y.number) q ∙ sym (ap (λ y. y.number) z), ap (λ y. y.place) q ∙ sym (ap (λ y. y.place) z))

  nine-by : (o : Option Row) → Each InTable o → table ≡ o → short ≡ true → Accepted x → (m.returned.number ≡ 9) × (m.returned.place ≡ 0)
  unfolding left answered afterwards Accepted frames_answered
  nine-by none i e f a = let q = left_by none true e f in (ap (λ y. y.number) q, ap (λ y. y.place) q)
  nine-by (some r) (each_some i) e f a = let q = sym (ap (λ y. y.number) (leaves_by (some r) e)) ∙ a in absurd (omega (arith, q, i.known.0))

determined-is : (x : Call) (k : List ℕ) (m n : ReasonsMade x k) → (m.returned ≡ n.returned) × (m.answer ≡ n.answer) × (m.work ≡ n.work) × (m.reasons ≡ n.reasons)
unfolding left
determined-is x k m n =
    let e = m.meets ∙ sym n.meets in
    (λ z. record { number = (e z).number; place = (e z).place; slots = (e z).slots }, λ z. (e z).answer, λ z. (e z).work, λ z. (e z).reasons)

pub explained : Promised
explained = record {
  told = λ x k m z. told-by x k m z (which x k m);
  only = only_one;
  any_threshold = any-threshold-is;
  frames = λ x k m l. frames-by x k m _ refl (le-ltb (length k) (slot_count x.mesh.sizes) l);
  table_first = λ x k m h. first_by x k m _ refl _ refl h;
  nine = λ x k m a l. nine-by x k m _ (verdict-numbered (at_desk x)) refl (lt-ltb (length k) (slot_count x.mesh.sizes) l) a;
  refused = λ x k m h. refused-by x k m h (which x k m);
  past = λ x k m. past_by x k m (which x k m);
  determined = determined-is;
}
