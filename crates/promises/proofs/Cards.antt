-- What is promised of cards holds: each from the contracts of the writer and the reader. Assumes nothing.
use Prim.Native.Nat.{ℕ, zero, suc, ◌+◌, ◌*◌, ◌/◌, ◌%◌, ◌≤◌, ◌<◌}
use native.Mathlib.Omega.{arith}
use mathlib.Core.Path.{◌≡◌, refl, sym, ap, ◌∙◌, subst}
use mathlib.Core.Bool.{Bool, true, false}
use mathlib.Core.Logic.{◌≢◌, ◌⊎◌, inl, inr}
use mathlib.Core.List.{List, [], ◌∷◌, ◌++◌, flat_map}
use lib.ListN.{length, get_or, take, drop, replicate, length-append, get_or-append}
use lib.Seq.{take_at, drop_at}
use lib.Dec.{leb, ltb}
use borrow.Author.Tests.{leb-true, leb-false, le-leb}
use Rattle.lists.specs.Parts.{sum_of, joined, part}
use Rattle.words.specs.Words.{word_values, word_bytes, bytes_of, word_at, Fit}
use Rattle.lists.proofs.Parts.{every-all, joined_same, joined-split, part-front}
use Rattle.words.proofs.Words.{word_of, length-words, same_word, fit-part}
use Rattle.tangent.specs.Slot.{slot_words}
use Rattle.blocks.specs.declared.Kind.{Kind}
use Rattle.blocks.specs.declared.Kind.TheVariants.{Ten, Twelve}
use Rattle.blocks.specs.Format.{block_bytes, block_words, record_words, records_held, room_words, blocks_for, records_used, used_words, records_in, kind_word, header, body, complement, check_word, block, block_of}
use Rattle.blocks.specs.Judged.{sound_block, block_at, good, lost_words, lost, records_read}
use Rattle.bits.proofs.Bools.{and_right}
use Rattle.blocks.proofs.Counts.{called, block-below, words-fit, block-of, place_of, number_is}
use Rattle.blocks.proofs.Written.{written_good as sound-there}
use Rattle.blocks.proofs.Judged.{read-lost}
use Rattle.blocks.proofs.Other.{other-bad}
use Rattle.blocks.proofs.Changed.{one_word}
use Rattle.blocks.proofs.Same.{same_good, same_read}
use Rattle.cards.specs.Writer.{records_of, writable, card_bytes, blocks_of, card_of, not_written, card_written}
use Rattle.cards.specs.Reader.{blocks_there, bytes_past, readings}
use Rattle.cards.specs.Contract.{after_write, after_read}
use Rattle.cards.proofs.Lengths.{length-own, length-blocks, length-readings}
use Rattle.cards.proofs.Outcomes.{whole-records, few-records, wrote-0, wrote-1, wrote-2, got-0, got-2}
use Rattle.cards.proofs.Back.{marks, block_back, all_back, length-card}
use Rattle.cards.proofs.Places.{block-place, record-kept, record-mark, record-lost}
use Rattle.promises.specs.Cards as spec
use Rattle.promises.specs.Cards.{Writing, CardRead, Unwritten, CardDone, Unread, OneWord, RecordKept, RecordLost, Bytes, record_at, CardsPromised, sample_bytes, twelve_bytes}

-- which outcome a writing had
written : (kind : Kind) (l c : List ℕ) (w : Writing kind l c) → Unwritten kind l c w ⊎ CardDone kind l c w
unfolding after_write not_written card_written
written kind l c w = first (writable kind l) refl
  where
    second : (x : Bool) → writable kind l ≡ true → leb (card_bytes kind (records_of kind l)) (length c) ≡ x → Unwritten kind l c w ⊎ CardDone kind l c w
    second true h k =
        let e = w.meets ∙ wrote-0 kind l c h (leb-true (card_bytes kind (records_of kind l)) (length c) k) in
        inr (record { can = h; room = leb-true (card_bytes kind (records_of kind l)) (length c) k; number = λ i. (e i).number; bytes = λ i. (e i).bytes; card = λ i. (e i).card })
    second false h k =
        let e = w.meets ∙ wrote-2 kind l c h (leb-false (card_bytes kind (records_of kind l)) (length c) k) in
        inl (record { number = inr (h, leb-false (card_bytes kind (records_of kind l)) (length c) k, λ i. (e i).number); bytes = λ i. (e i).bytes; card = λ i. (e i).card })

    first : (x : Bool) → writable kind l ≡ x → Unwritten kind l c w ⊎ CardDone kind l c w
    first true h = second (leb (card_bytes kind (records_of kind l)) (length c)) h refl
    first false h =
        let e = w.meets ∙ wrote-1 kind l c h in
        inl (record { number = inl (h, λ i. (e i).number); bytes = λ i. (e i).bytes; card = λ i. (e i).card })

-- an accepted one
done : (kind : Kind) (l c : List ℕ) (w : Writing kind l c) → w.returned.number ≡ 0 → CardDone kind l c w
done kind l c w y = go (written kind l c w)
  where
    go : Unwritten kind l c w ⊎ CardDone kind l c w → CardDone kind l c w
    go (inr d) = d
    go (inl u) = absurd (other u.number)
      where
        other : ((writable kind l ≡ false) × (w.returned.number ≡ 1)) ⊎ ((writable kind l ≡ true) × (length c < card_bytes kind (records_of kind l)) × (w.returned.number ≡ 2)) → ⊥
        other (inl e) = omega (arith, y, e.1)
        other (inr e) = omega (arith, y, e.2)

-- an accepted reading: what it left
pub record Left (kind : Kind) (bs : List ℕ) (n : ℕ) (a : List ℕ) (r : CardRead kind bs n a) : Type 0 where
  pub room : record_words kind * n ≤ length a
  pub answer : r.answer ≡ readings kind n bs ++ drop (record_words kind * n) a
  pub past : r.returned.past ≡ bytes_past kind n bs

-- which outcome a reading had
read_by : (kind : Kind) (bs : List ℕ) (n : ℕ) (a : List ℕ) (r : CardRead kind bs n a) → Unread kind bs n a r ⊎ ((r.returned.number ≡ 0) × Left kind bs n a r)
unfolding after_read
read_by kind bs n a r = go (leb (record_words kind * n) (length a)) refl
  where
    go : (x : Bool) → leb (record_words kind * n) (length a) ≡ x → Unread kind bs n a r ⊎ ((r.returned.number ≡ 0) × Left kind bs n a r)
    go true h =
        let e = r.meets ∙ got-0 kind n bs a (leb-true (record_words kind * n) (length a) h) in
        inr (λ i. (e i).number, record { room = leb-true (record_words kind * n) (length a) h; answer = λ i. (e i).answer; past = λ i. (e i).past })
    go false h =
        let e = r.meets ∙ got-2 kind n bs a (leb-false (record_words kind * n) (length a) h) in
        inl (record { short = leb-false (record_words kind * n) (length a) h; number = λ i. (e i).number; past = λ i. (e i).past; answer = λ i. (e i).answer })

pub left-of : (kind : Kind) (bs : List ℕ) (n : ℕ) (a : List ℕ) (r : CardRead kind bs n a) → r.returned.number ≡ 0 → Left kind bs n a r
left-of kind bs n a r y = go (read_by kind bs n a r)
  where
    go : Unread kind bs n a r ⊎ ((r.returned.number ≡ 0) × Left kind bs n a r) → Left kind bs n a r
    go (inr g) = g.1
    go (inl u) = absurd (omega (arith, y, u.number))

read : (kind : Kind) (bs : List ℕ) (n : ℕ) (a : List ℕ) (r : CardRead kind bs n a) → Unread kind bs n a r ⊎ spec.CardGot kind bs n a r
read kind bs n a r = go (read_by kind bs n a r)
  where
    go : Unread kind bs n a r ⊎ ((r.returned.number ≡ 0) × Left kind bs n a r) → Unread kind bs n a r ⊎ spec.CardGot kind bs n a r
    go (inl u) = inl u
    go (inr g) = inr (record { room = g.1.room; number = g.0; past = g.1.past; rest = ap (drop (record_words kind * n)) g.1.answer ∙ drop_at (readings kind n bs) (drop (record_words kind * n) a) (record_words kind * n) (length-readings kind n bs) })

-- the records of block b in what was read
pub block_read : (kind : Kind) (bs : List ℕ) (n b : ℕ) (a : List ℕ) (r : CardRead kind bs n a) → b < blocks_for kind n → r.returned.number ≡ 0 → records_in kind n b r.answer ≡ records_read kind n b bs
block_read kind bs n b a r h z = ap (records_in kind n b) (left-of kind bs n a r z).answer ∙ block-place kind n bs (drop (record_words kind * n) a) b h

-- a card with bytes past it: its blocks are read as if they were not there
with_tail : (kind : Kind) (l t : List ℕ) → writable kind l ≡ true → Fit l → readings kind (records_of kind l) (card_of kind l ++ t) ≡ l
unfolding readings
with_tail kind l t k f =
    joined_same (blocks_for kind n) (λ b. records_read kind n b (card_of kind l ++ t)) (λ b. records_read kind n b (card_of kind l))
    (λ b h. same_read kind n b (card_of kind l ++ t) (card_of kind l) (part-front (card_of kind l) t (block_bytes * b) block_bytes (omega (arith, h, length-card kind l k)))) ∙ all_back kind l k f
  where
    n : ℕ
    n = records_of kind l

tail-past : (kind : Kind) (l t : List ℕ) → writable kind l ≡ true → bytes_past kind (records_of kind l) (card_of kind l ++ t) ≡ length t
unfolding bytes_past blocks_there
tail-past kind l t k = omega (arith, length-append (card_of kind l) t, length-card kind l k)

-- 'What was written reads back the same'
back : (kind : Kind) (l c t a : List ℕ) (w : Writing kind l c) (r : CardRead kind (take w.returned.bytes w.card ++ t) (records_of kind l) a) → Fit l → w.returned.number ≡ 0 → r.returned.number ≡ 0 → (r.answer ≡ l ++ drop (length l) a) × (r.returned.past ≡ length t)
unfolding card_bytes
back kind l c t a w r f y z =
    let d = done kind l c w y in
    let k = d.can in
    let bs : take w.returned.bytes w.card ++ t ≡ card_of kind l ++ t = ap (λ (x : List ℕ). x ++ t) ((λ i. take (d.bytes i) (d.card i)) ∙ take_at (card_of kind l) (drop (card_bytes kind (records_of kind l)) c) (card_bytes kind (records_of kind l)) (length-card kind l k)) in
    let g = left-of kind (take w.returned.bytes w.card ++ t) (records_of kind l) a r z in
    (g.answer ∙ (λ i. (ap (readings kind (records_of kind l)) bs ∙ with_tail kind l t k f) i ++ drop (sym (whole-records kind l k) i) a), g.past ∙ (ap (bytes_past kind (records_of kind l)) bs ∙ tail-past kind l t k))

-- words of bytes are words
word_fits : (bs : List ℕ) (i : ℕ) → Bytes bs → word_at bs i < word_values
unfolding word_at
word_fits bs i h = omega (arith, h (4 * i), h (4 * i + 1), h (4 * i + 2), h (4 * i + 3))

-- 'a block in which exactly one word was changed is always noticed'
bad : (kind : Kind) (n b i : ℕ) (bs cs : List ℕ) → word_at bs (block_words * b + i) < word_values → Bytes cs → good kind n b bs ≡ true → OneWord b i bs cs → good kind n b cs ≡ false
unfolding good block_at
bad kind n b i bs cs f g h o = go (good kind n b cs) refl
  where
    at : get_or (block_at b bs) i 0 ≡ word_at bs (block_words * b + i)
    at = word_of bs (block_words * b) block_words i o.inside

    sound-of : (l : List ℕ) → good kind n b l ≡ true → sound_block kind n b (block_at b l) ≡ true
    sound-of l e = and_right (ltb b (length l / block_bytes)) (sound_block kind n b (block_at b l)) e

    go : (x : Bool) → good kind n b cs ≡ x → good kind n b cs ≡ false
    go false e = e
    go true e =
        absurd (one_word kind n b (block_at b bs) i (word_at cs (block_words * b + i)) (length-words bs (block_words * b) block_words) o.inside (subst (λ (k : ℕ). k < word_values) (sym at) f) (word_fits cs (block_words * b + i) g)
        (λ p. o.other (p ∙ at)) (sound-of bs h) (ap (sound_block kind n b) (sym o.rest) ∙ sound-of cs e))

noticed : (kind : Kind) (n b i : ℕ) (bs cs a : List ℕ) (r : CardRead kind cs n a) → b < blocks_for kind n → Bytes bs → Bytes cs → good kind n b bs ≡ true → OneWord b i bs cs → r.returned.number ≡ 0 → records_in kind n b r.answer ≡ joined (records_used kind n b) (λ _. lost kind)
noticed kind n b i bs cs a r h f g k o z = block_read kind cs n b a r h z ∙ read-lost kind n b cs (bad kind n b i bs cs (word_fits bs (block_words * b + i) f) g k o)

block_good : (kind : Kind) (n b : ℕ) (rs front after : List ℕ) → length rs ≡ used_words kind n b → length front ≡ block_bytes * b → n < word_values → b < word_values → Fit rs → ((r : ℕ) → r < records_used kind n b → get_or rs (record_words kind * r) 0 ≤ 1) → good kind n b (front ++ (block_of kind n b rs ++ after)) ≡ true
block_good kind n b rs front after own place h k f m = sound-there kind n b rs own front after place h k f (every-all (records_used kind n b) (λ r. leb (get_or rs (record_words kind * r) 0) 1) (λ r l. le-leb (get_or rs (record_words kind * r) 0) 1 (m r l)))

-- ---- a card that the writer wrote

-- a block of it is that of the list of its blocks
own-bytes : (kind : Kind) (l c : List ℕ) (b : ℕ) (w : Writing kind l c) → w.returned.number ≡ 0 → b < blocks_for kind (records_of kind l) → part (block_bytes * b) block_bytes w.card ≡ part (block_bytes * b) block_bytes (card_of kind l)
own-bytes kind l c b w y h =
    let d = done kind l c w y in
    ap (part (block_bytes * b) block_bytes) d.card ∙ part-front (card_of kind l) (drop (card_bytes kind (records_of kind l)) c) (block_bytes * b) block_bytes (omega (arith, h, length-card kind l d.can))

written_good : (kind : Kind) (l c : List ℕ) (b : ℕ) (w : Writing kind l c) → Fit l → w.returned.number ≡ 0 → b < blocks_for kind (records_of kind l) → good kind (records_of kind l) b w.card ≡ true
unfolding card_of blocks_of records_in
written_good kind l c b w f y h =
    let can = (done kind l c w y).can in
    let n = records_of kind l in
    let s = joined-split (blocks_for kind n) b (λ k. block_of kind n k (records_in kind n k l)) h in
    let k = called kind n b h in
    let whole = whole-records kind l can in
    same_good kind n b w.card (card_of kind l) (own-bytes kind l c b w y h)
    ∙ (ap (good kind n b) s.1
    ∙ sound-there kind n b (records_in kind n b l) (length-own kind n b l (omega (arith, whole)) k) (blocks_of kind b n l) s.0 (length-blocks kind b n l (omega (arith, whole)) (omega (arith, h))) (few-records kind l can) (omega (arith, block-below kind n b k, few-records kind l can))
    (fit-part (room_words * b) (used_words kind n b) l (omega (arith, whole, words-fit kind n b k)) f) (marks kind l can b k))

-- its bytes are bytes
bytes-append : (l m : List ℕ) → Bytes l → Bytes m → Bytes (l ++ m)
bytes-append [] m p q i = q i
bytes-append (x ∷ l) m p q zero = p zero
bytes-append (x ∷ l) m p q (suc i) = bytes-append l m (λ j. p (suc j)) q i

bytes-of : (ws : List ℕ) → Bytes (bytes_of ws)
unfolding bytes_of word_bytes flat_map
bytes-of [] i = omega arith
bytes-of (w ∷ ws) zero = omega arith
bytes-of (w ∷ ws) (suc zero) = omega arith
bytes-of (w ∷ ws) (suc (suc zero)) = omega arith
bytes-of (w ∷ ws) (suc (suc (suc zero))) = omega arith
bytes-of (w ∷ ws) (suc (suc (suc (suc i)))) = bytes-of ws i

bytes-joined : (k : ℕ) (f : ℕ → List ℕ) → ((i : ℕ) → Bytes (f i)) → Bytes (joined k f)
unfolding joined
bytes-joined zero f p i = omega arith
bytes-joined (suc k) f p i = bytes-append (joined k f) (f k) (bytes-joined k f p) (p k) i

word-written : (kind : Kind) (l c : List ℕ) (b i : ℕ) (w : Writing kind l c) → w.returned.number ≡ 0 → b < blocks_for kind (records_of kind l) → i < block_words → word_at w.card (block_words * b + i) < word_values
unfolding card_of blocks_of block_of
word-written kind l c b i w y h k = subst (λ (x : ℕ). x < word_values) (sym (ap (λ (x : List ℕ). word_at x (block_words * b + i)) d.card ∙ same_word _ _ _ _ inside)) (word_fits (card_of kind l) (block_words * b + i) (bytes-joined (blocks_for kind (records_of kind l)) (λ b. block_of kind (records_of kind l) b (records_in kind (records_of kind l) b l)) (λ b. bytes-of (block kind (records_of kind l) b (records_in kind (records_of kind l) b l)))))
  where
    d : CardDone kind l c w
    d = done kind l c w y

    inside : (j : ℕ) → j < 4 → get_or (card_of kind l ++ drop (card_bytes kind (records_of kind l)) c) (4 * (block_words * b + i) + j) 0 ≡ get_or (card_of kind l) (4 * (block_words * b + i) + j) 0
    inside j m = get_or-append (card_of kind l) (drop (card_bytes kind (records_of kind l)) c) 0 (4 * (block_words * b + i) + j) (omega (arith, h, k, m, length-card kind l (done kind l c w y).can))

noticed_written : (kind : Kind) (l c cs a : List ℕ) (b i : ℕ) (w : Writing kind l c) (r : CardRead kind cs (records_of kind l) a) → Fit l → w.returned.number ≡ 0 → b < blocks_for kind (records_of kind l) → Bytes cs → OneWord b i w.card cs → r.returned.number ≡ 0 → records_in kind (records_of kind l) b r.answer ≡ joined (records_used kind (records_of kind l) b) (λ _. lost kind)
noticed_written kind l c cs a b i w r f y h g o z =
    block_read kind cs (records_of kind l) b a r h z ∙ read-lost kind (records_of kind l) b cs (bad kind (records_of kind l) b i w.card cs (word-written kind l c b i w y h o.inside) g (written_good kind l c b w f y h) o)

others : (kind : Kind) (n b : ℕ) (bs cs a d : List ℕ) (r : CardRead kind bs n a) (q : CardRead kind cs n d) → b < blocks_for kind n → part (block_bytes * b) block_bytes bs ≡ part (block_bytes * b) block_bytes cs → r.returned.number ≡ 0 → q.returned.number ≡ 0 → records_in kind n b r.answer ≡ records_in kind n b q.answer
others kind n b bs cs a d r q h e y z = block_read kind bs n b a r h y ∙ (same_read kind n b bs cs e ∙ sym (block_read kind cs n b d q h z))

stands : (kind : Kind) (l c bs a : List ℕ) (b : ℕ) (w : Writing kind l c) (r : CardRead kind bs (records_of kind l) a) → b < blocks_for kind (records_of kind l) → Fit l → w.returned.number ≡ 0 → part (block_bytes * b) block_bytes bs ≡ part (block_bytes * b) block_bytes w.card → r.returned.number ≡ 0 → records_in kind (records_of kind l) b r.answer ≡ records_in kind (records_of kind l) b l
unfolding part
stands kind l c bs a b w r h f y e z =
    block_read kind bs (records_of kind l) b a r h z
    ∙ (same_read kind (records_of kind l) b bs (card_of kind l) (e ∙ own-bytes kind l c b w y h) ∙ block_back kind l (done kind l c w y).can f b h)

told : (kind : Kind) (n k : ℕ) (bs a : List ℕ) (r : CardRead kind bs n a) → k < n → r.returned.number ≡ 0 → RecordKept kind bs n k (record_at kind k r.answer) ⊎ RecordLost kind bs n k (record_at kind k r.answer)
unfolding record_at lost_words
told kind n k bs a r h z = go (good kind n (k / records_held kind) bs) refl
  where
    b : k / records_held kind < blocks_for kind n
    b = block-of kind n k h

    u : k % records_held kind < records_used kind n (k / records_held kind)
    u = place_of kind n k h

    there : part (record_words kind * k) (record_words kind) r.answer ≡ part (record_words kind * (records_held kind * (k / records_held kind) + k % records_held kind)) (record_words kind) (readings kind n bs ++ drop (record_words kind * n) a)
    there = (λ i. part (record_words kind * number_is kind k i) (record_words kind) ((left-of kind bs n a r z).answer i))

    go : (x : Bool) → good kind n (k / records_held kind) bs ≡ x → RecordKept kind bs n k (part (record_words kind * k) (record_words kind) r.answer) ⊎ RecordLost kind bs n k (part (record_words kind * k) (record_words kind) r.answer)
    go true g =
        let e = there ∙ record-kept kind n bs (drop (record_words kind * n) a) (k / records_held kind) (k % records_held kind) b u g in
        inl (record { sound = g; words = e; mark = subst (λ (l : List ℕ). get_or l 0 0 ≤ 1) (sym e) (record-mark kind n bs (drop (record_words kind * n) a) (k / records_held kind) (k % records_held kind) b u g) })
    go false g =
        let e = there ∙ record-lost kind n bs (drop (record_words kind * n) a) (k / records_held kind) (k % records_held kind) b u g in
        inr (record { unsound = g; words = e; mark = ap (λ (l : List ℕ). get_or l 0 0) e })

one_writing : (kind : Kind) (l c : List ℕ) (w v : Writing kind l c) → (w.returned ≡ v.returned) × (w.card ≡ v.card)
unfolding after_write
one_writing kind l c w v =
    let e = w.meets ∙ sym v.meets in
    (λ i. record { number = (e i).number; bytes = (e i).bytes }, λ i. (e i).card)

one_reading : (kind : Kind) (bs : List ℕ) (n : ℕ) (a : List ℕ) (r q : CardRead kind bs n a) → (r.returned ≡ q.returned) × (r.answer ≡ q.answer)
unfolding after_read
one_reading kind bs n a r q =
    let e = r.meets ∙ sym q.meets in
    (λ i. record { number = (e i).number; past = (e i).past }, λ i. (e i).answer)

-- to a reader of one kind a block of the other is lost
other_kind_lost : (kind other : Kind) (n b m p : ℕ) (rs front after a : List ℕ) (r : CardRead other (front ++ (block_of kind n b rs ++ after)) m a) → kind ≢ other → length front ≡ block_bytes * p → p < blocks_for other m → r.returned.number ≡ 0 → records_in other m p r.answer ≡ joined (records_used other m p) (λ _. lost other)
other_kind_lost kind other n b m p rs front after a r d place h z =
    let card = front ++ (block_of kind n b rs ++ after) in
    block_read other card m p a r h z ∙ read-lost other m p card (other-bad kind n b rs front after p place other m d)

other_card_lost : (kind other : Kind) (l c a : List ℕ) (m p : ℕ) (w : Writing kind l c) (r : CardRead other w.card m a) → kind ≢ other → w.returned.number ≡ 0 → p < blocks_for kind (records_of kind l) → p < blocks_for other m → r.returned.number ≡ 0 → records_in other m p r.answer ≡ joined (records_used other m p) (λ _. lost other)
unfolding card_of blocks_of
other_card_lost kind other l c a m p w r d y h k z =
    let n = records_of kind l in
    let whole = whole-records kind l (done kind l c w y).can in
    let s = joined-split (blocks_for kind n) p (λ b. block_of kind n b (records_in kind n b l)) h in
    let bad : good other m p w.card ≡ false = same_good other m p w.card (card_of kind l) (own-bytes kind l c p w y h)
    ∙ (ap (good other m p) s.1 ∙ other-bad kind n p (records_in kind n p l) (blocks_of kind p n l) s.0 p (length-blocks kind p n l (omega (arith, whole)) (omega (arith, h))) other m d) in
    block_read other w.card m p a r k z ∙ read-lost other m p w.card bad

sample : block_of Ten 14 1 (1 ∷ replicate 19 0) ≡ sample_bytes
unfolding block_of block body header check_word complement sum_of records_used used_words record_words records_held kind_word bytes_of word_bytes flat_map
sample = refl

sample_twelve : block_of Twelve 14 1 (1 ∷ replicate 47 0) ≡ twelve_bytes
unfolding block_of block body header check_word complement sum_of records_used used_words record_words records_held kind_word bytes_of word_bytes flat_map
sample_twelve = refl

width : record_words Twelve ≡ slot_words
unfolding record_words
width = refl

pub cards-promised : CardsPromised
cards-promised =
    record {
      width = width;
      sample = sample;
      sample_twelve = sample_twelve;
      back = back;
      noticed = noticed;
      block_good = block_good;
      written_good = written_good;
      noticed_written = noticed_written;
      others = others;
      stands = stands;
      told = told;
      other_kind_bad = λ kind other n b m p rs front after d place. other-bad kind n b rs front after p place other m d;
      other_kind_lost = other_kind_lost;
      other_card_lost = other_card_lost;
      written = written;
      read = read;
      one_writing = one_writing;
      one_reading = one_reading;
    }
