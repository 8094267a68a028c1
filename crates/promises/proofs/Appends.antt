-- What is promised of appending holds: each from the contracts. Assumes nothing.
use Prim.Native.Nat.{ℕ, zero, suc, ◌+◌, ◌*◌, ◌/◌, ◌≤◌, ◌<◌}
use native.Mathlib.Omega.{arith}
use mathlib.Core.Path.{◌≡◌, refl, sym, ap, ◌∙◌, subst}
use mathlib.Core.Bool.{Bool, true, false, true≢false}
use mathlib.Core.Logic.{◌⊎◌, inl, inr}
use mathlib.Core.List.{List, [], ◌++◌, append-nil}
use lib.ListN.{length, get_or, take, drop, replicate, length-append}
use lib.Seq.{take-append-le, take_all, drop_at, drop-nil}
use lib.Dec.{leb}
use borrow.Author.Tests.{leb-true, leb-false, le-ltb, ltb-true, ltb-false}
use Rattle.lists.specs.Parts.{every_below, joined, part}
use Rattle.words.specs.Words.{Fit}
use Rattle.blocks.specs.declared.Kind.{Kind}
use Rattle.blocks.specs.Format.{block_bytes, record_words, records_held, room_words, blocks_for, records_used, used_words, records_in, block_of}
use Rattle.cards.specs.Writer.{records_of, writable, card_bytes, blocks_of, card_of}
use Rattle.cards.specs.Reader.{blocks_there, bytes_past}
use Rattle.lists.proofs.Parts.{length-zeros, length_part, joined-split, part-front, part-middle, part-whole}
use Rattle.blocks.proofs.Stored.{length-block-bytes}
use Rattle.blocks.proofs.Counts.{words_are, count-words, used_le, used-few, used-one, one_block, blocks-le, called}
use Rattle.blocks.proofs.Judged.{good_none, read-lost}
use Rattle.blocks.proofs.Same.{same_read}
use Rattle.cards.proofs.Lengths.{length-own}
use Rattle.cards.proofs.Outcomes.{whole-records, can_write}
use Rattle.cards.proofs.Back.{marks, block_back, length-card}
use Rattle.appends.specs.Next.{overfull, first_torn, place_of}
use Rattle.appends.specs.Append.{append_left, are_next, blocks_from, not_added, now_added}
use Rattle.appends.specs.File.{patched}
use Rattle.appends.specs.Contract.{after_next, after_append}
use Rattle.appends.proofs.Counts.{NextRecords, follows, follow-is, one-next, next-words, next-fit, length_from}
use Rattle.appends.proofs.Outcomes.{following-by, added-1, added-2, added-3, added-by}
use Rattle.appends.proofs.Runs.{Begins, begins-is, begins-cut, card-split, append-begins}
use Rattle.promises.specs.Cards.{CardRead}
use Rattle.promises.proofs.Cards.{left-of, block_read}
use Rattle.promises.specs.Appends.{Appending, AskingNext, NextOf, TankWalk, start, more, cut, CardFinds, WhyNot, unwritable, too_short, too_long, not_next, Unmade, BlocksMade, NoNext, NextTold, AppendsPromised}

-- an appending that was accepted
record Accepted (kind : Kind) (long n : ℕ) (rs c : List ℕ) (a : Appending kind long n rs c) : Type 0 where
  can : writable kind rs ≡ true
  room : card_bytes kind (records_of kind rs) ≤ length c
  within : overfull kind n long ≡ false
  next : are_next kind n (first_torn long) (records_of kind rs) ≡ true
  left : after_append a.returned a.lent ≡ now_added kind n long rs c

-- which of the two it is: a refusal, with its ground, or accepted
by : (kind : Kind) (long n : ℕ) (rs c : List ℕ) (a : Appending kind long n rs c) → Unmade kind long n rs c a ⊎ Accepted kind long n rs c a
unfolding after_append not_added overfull first_torn card_bytes
by kind long n rs c a = first (writable kind rs) refl
  where
    refusal : (k : ℕ) → (a.returned.number ≡ k → WhyNot kind long n rs c a.returned.number) → append_left kind n long rs c ≡ not_added k c → Unmade kind long n rs c a ⊎ Accepted kind long n rs c a
    refusal k why e =
        let f = a.meets ∙ e in
        inl (record { why = why (λ i. (f i).number); blocks = λ i. (f i).blocks; at = λ i. (f i).at; lent = λ i. (f i).lent })

    fourth : (x : Bool) → writable kind rs ≡ true → card_bytes kind (records_of kind rs) ≤ length c → overfull kind n long ≡ false → are_next kind n (first_torn long) (records_of kind rs) ≡ x → Unmade kind long n rs c a ⊎ Accepted kind long n rs c a
    fourth true p q r s = inr (record { can = p; room = q; within = r; next = s; left = a.meets ∙ added-by kind n long rs c p q r true s })
    fourth false p q r s =
        refusal 4
        (not_next p q (ltb-false (block_bytes * blocks_for kind n) long r) (λ k. true≢false (sym (follow-is kind n (long / block_bytes) (records_of kind rs) (record { some = k.0; which = k.1 })) ∙ s)))
        (added-by kind n long rs c p q r false s)

    third : (x : Bool) → writable kind rs ≡ true → card_bytes kind (records_of kind rs) ≤ length c → overfull kind n long ≡ x → Unmade kind long n rs c a ⊎ Accepted kind long n rs c a
    third true p q r = refusal 3 (too_long p q (ltb-true (block_bytes * blocks_for kind n) long r)) (added-3 kind n long rs c p q r)
    third false p q r = fourth (are_next kind n (first_torn long) (records_of kind rs)) p q r refl

    second : (x : Bool) → writable kind rs ≡ true → leb (card_bytes kind (records_of kind rs)) (length c) ≡ x → Unmade kind long n rs c a ⊎ Accepted kind long n rs c a
    second true p q = third (overfull kind n long) p (leb-true (card_bytes kind (records_of kind rs)) (length c) q) refl
    second false p q =
        let l = leb-false (card_bytes kind (records_of kind rs)) (length c) q in
        refusal 2 (too_short p l) (added-2 kind n long rs c p l)

    first : (x : Bool) → writable kind rs ≡ x → Unmade kind long n rs c a ⊎ Accepted kind long n rs c a
    first true p = second (leb (card_bytes kind (records_of kind rs)) (length c)) p refl
    first false p = refusal 1 (unwritable p) (added-1 kind n long rs c p)

-- no ground is there for the number 0
no-ground : (kind : Kind) (long n : ℕ) (rs c : List ℕ) (k : ℕ) → k ≡ 0 → WhyNot kind long n rs c k → ⊥
no-ground kind long n rs c k z (unwritable p e) = omega arith
no-ground kind long n rs c k z (too_short p q e) = omega arith
no-ground kind long n rs c k z (too_long p q r e) = omega arith
no-ground kind long n rs c k z (not_next p q r s e) = omega arith

accepted : (kind : Kind) (long n : ℕ) (rs c : List ℕ) (a : Appending kind long n rs c) → a.returned.number ≡ 0 → Accepted kind long n rs c a
accepted kind long n rs c a z = go (by kind long n rs c a)
  where
    go : Unmade kind long n rs c a ⊎ Accepted kind long n rs c a → Accepted kind long n rs c a
    go (inr p) = p
    go (inl u) = absurd (no-ground kind long n rs c a.returned.number z u.why)

-- how long the blocks of an accepted one are
long-from : (kind : Kind) (long n : ℕ) (rs c : List ℕ) (a : Appending kind long n rs c) → Accepted kind long n rs c a → length (blocks_from kind n (first_torn long) rs) ≡ block_bytes * blocks_for kind (records_of kind rs)
unfolding blocks_from
long-from kind long n rs c a p = length_from kind n (first_torn long) rs (follows kind n (first_torn long) (records_of kind rs) p.next) (blocks_for kind (records_of kind rs)) (omega arith)

-- block i of them
one-made : (kind : Kind) (n b : ℕ) (rs : List ℕ) (i : ℕ) → NextRecords kind n b (records_of kind rs) → i < blocks_for kind (records_of kind rs) → part (block_bytes * i) block_bytes (blocks_from kind n b rs) ≡ block_of kind n (b + i) (records_in kind (records_of kind rs) i rs)
unfolding blocks_from records_in
one-made kind n b rs i f h =
    ap (part (block_bytes * i) block_bytes) s.1
    ∙ (ap (λ (p : ℕ). part p block_bytes (joined i B ++ (B i ++ s.0))) at
    ∙ (part-middle (joined i B) (B i) s.0 (block_bytes * i) 0 block_bytes (length_from kind n b rs f i (omega (arith, h))) (omega (arith, own))
    ∙ (part-whole (B i) block_bytes own ∙ ap (λ (k : ℕ). block_of kind n (b + i) (part (room_words * i) k rs)) (next-words kind n b (records_of kind rs) i f h))))
  where
    B : ℕ → List ℕ
    B k = block_of kind n (b + k) (part (room_words * k) (used_words kind n (b + k)) rs)

    s : (rest : List ℕ) × (joined (blocks_for kind (records_of kind rs)) B ≡ joined i B ++ (B i ++ rest))
    s = joined-split (blocks_for kind (records_of kind rs)) i B h

    at : block_bytes * i ≡ block_bytes * i + 0
    at = omega arith

    own : length (B i) ≡ block_bytes
    own = length-block-bytes kind n (b + i) (part (room_words * i) (used_words kind n (b + i)) rs) (length_part (room_words * i) (used_words kind n (b + i)) rs (next-fit kind n b rs f i h))

made : (kind : Kind) (long n : ℕ) (rs c : List ℕ) (a : Appending kind long n rs c) → Unmade kind long n rs c a ⊎ BlocksMade kind long n rs c a
unfolding after_append now_added place_of first_torn overfull card_bytes
made kind long n rs c a = go (by kind long n rs c a)
  where
    go : Unmade kind long n rs c a ⊎ Accepted kind long n rs c a → Unmade kind long n rs c a ⊎ BlocksMade kind long n rs c a
    go (inl r) = inl r
    go (inr p) =
        let e = p.left in
        let k = blocks_for kind (records_of kind rs) in
        let f = follows kind n (long / block_bytes) (records_of kind rs) p.next in
        let blocks : a.returned.blocks ≡ k = λ i. (e i).blocks in
        let lent : a.lent ≡ blocks_from kind n (long / block_bytes) rs ++ drop (block_bytes * k) c = λ i. (e i).lent in
        let size = long-from kind long n rs c a p in
        inr (record {
          can = p.can;
          room = p.room;
          within = ltb-false (block_bytes * blocks_for kind n) long p.within;
          next = (f.some, f.which);
          number = λ i. (e i).number;
          at = λ i. (e i).at;
          blocks = blocks;
          bytes = λ i h. ap (part (block_bytes * i) block_bytes) lent ∙ (part-front (blocks_from kind n (long / block_bytes) rs) (drop (block_bytes * k) c) (block_bytes * i) block_bytes (omega (arith, h, size)) ∙ one-made kind n (long / block_bytes) rs i f h);
          rest = (λ i. drop (block_bytes * blocks i) (lent i)) ∙ (drop_at (blocks_from kind n (long / block_bytes) rs) (drop (block_bytes * k) c) (block_bytes * k) size ∙ sym (ap (λ (x : ℕ). drop (block_bytes * x) c) blocks));
        })

-- what an accepted appending leaves on the file begins the card
appended : (kind : Kind) (l f rs c : List ℕ) (a : Appending kind (length f) (records_of kind l) rs c) (j : ℕ) → writable kind l ≡ true → NextOf l (length f) rs → Accepted kind (length f) (records_of kind l) rs c a → j ≤ block_bytes * a.returned.blocks → Begins f (card_of kind l) → Begins (patched f a.returned.at (take j a.lent)) (card_of kind l)
unfolding after_append now_added place_of first_torn card_bytes blocks_from
appended kind l f rs c a j can own p h b =
    let n = records_of kind l in
    let k = length f / block_bytes in
    let next = follows kind n k (records_of kind rs) p.next in
    let e = p.left in
    let at : a.returned.at ≡ block_bytes * k = λ i. (e i).at in
    let size : a.returned.blocks ≡ blocks_for kind (records_of kind rs) = λ i. (e i).blocks in
    let lent : a.lent ≡ blocks_from kind n k rs ++ drop (block_bytes * blocks_for kind (records_of kind rs)) c = λ i. (e i).lent in
    let long = long-from kind (length f) n rs c a p in
    let put : take j a.lent ≡ take j (blocks_from kind n k rs) = ap (take j) lent ∙ take-append-le j (blocks_from kind n k rs) (drop (block_bytes * blocks_for kind (records_of kind rs)) c) (omega (arith, h, size, long)) in
    subst (λ (x : List ℕ). Begins x (card_of kind l)) (sym (λ i. patched f (at i) (put i))) (append-begins kind l can k rs own p.can next f j refl (omega (arith, h, size)) b)

-- what is on the file begins the card
begins : (kind : Kind) (l f : List ℕ) → writable kind l ≡ true → TankWalk kind l f → Begins f (card_of kind l)
begins kind l f can start = (card_of kind l, refl)
begins kind l f can (cut g m w) = begins-cut m g (card_of kind l) (begins kind l g can w)
begins kind l f can (more g rs c a j w own z h) = appended kind l g rs c a j can own (accepted kind (length g) (records_of kind l) rs c a z) h (begins kind l g can w)

-- no longer than it
no_longer : (kind : Kind) (l f : List ℕ) → Begins f (card_of kind l) → length f ≤ length (card_of kind l)
no_longer kind l f b = omega (arith, length-append f b.0, ap length b.1)

-- 'For every cut length n, the reader finds ..'
finds : (kind : Kind) (l f a : List ℕ) (r : CardRead kind f (records_of kind l) a) → writable kind l ≡ true → Fit l → TankWalk kind l f → r.returned.number ≡ 0 → CardFinds kind l (length f) r.returned.past r.answer
unfolding bytes_past blocks_there
finds kind l f a r can fit w z =
    record {
      whole = λ b h.
          let c : b < blocks_for kind n = omega (arith, h, most) in
          block_read kind f n b a r c z ∙ (same_read kind n b f (card_of kind l) (bytes b h) ∙ block_back kind l can fit b c);
      torn = (left-of kind f n a r z).past ∙ omega (arith, most);
      others = λ b h c. block_read kind f n b a r c z ∙ read-lost kind n b f (sym (good_none kind n b f h));
    }
  where
    n : ℕ
    n = records_of kind l

    b : Begins f (card_of kind l)
    b = begins kind l f can w

    most : length f ≤ block_bytes * blocks_for kind (records_of kind l)
    most = omega (arith, no_longer kind l f (begins kind l f can w), length-card kind l can)

    bytes : (k : ℕ) → k < length f / block_bytes → part (block_bytes * k) block_bytes f ≡ part (block_bytes * k) block_bytes (card_of kind l)
    bytes k h = sym (part-front f (begins kind l f can w).0 (block_bytes * k) block_bytes (omega (arith, h))) ∙ ap (part (block_bytes * k) block_bytes) (begins kind l f can w).1

-- bytes put on an empty file
append-drop-nil : (xs : List ℕ) → [] ++ xs ++ drop (0 + length xs) [] ≡ xs
append-drop-nil xs = ap (λ (x : List ℕ). xs ++ x) (drop-nil (0 + length xs)) ∙ append-nil xs

positive : (kind : Kind) (n : ℕ) → 1 ≤ blocks_for kind n → 0 < n
positive kind n h = omega (arith, h, blocks-le kind n)

-- a card on which a block is missing
module _ (kind : Kind) (l f : List ℕ) (can : writable kind l ≡ true) (w : TankWalk kind l f) where
  most : length f ≤ block_bytes * blocks_for kind (records_of kind l)
  most = omega (arith, no_longer kind l f (begins kind l f can w), length-card kind l can)

  not_beyond : overfull kind (records_of kind l) (length f) ≡ false
  unfolding overfull
  not_beyond = le-ltb (block_bytes * blocks_for kind (records_of kind l)) (length f) most

  asks : (q : AskingNext kind (length f) (records_of kind l)) → (q.returned.number ≡ 0) × (q.returned.at ≡ block_bytes * (length f / block_bytes)) × (q.returned.records ≡ records_used kind (records_of kind l) (length f / block_bytes))
  unfolding after_next first_torn place_of
  asks q =
      let e = q.meets ∙ following-by kind (records_of kind l) (length f) false not_beyond in
      (λ i. (e i).number, λ i. (e i).at, λ i. (e i).records)

  module _ (h : length f < length (card_of kind l)) where
    abbrev n : ℕ
    n = records_of kind l

    abbrev k : ℕ
    k = length f / block_bytes

    abbrev rs : List ℕ
    rs = records_in kind (records_of kind l) (length f / block_bytes) l

    missing : records_held kind * k < n
    missing = called kind n k (omega (arith, h, length-card kind l can))

    length-rs : length rs ≡ record_words kind * records_used kind n k
    length-rs = length-own kind n k l (omega (arith, whole-records kind l can)) missing ∙ words_are kind n k

    count : records_of kind rs ≡ records_used kind n k
    unfolding records_of
    count = (count-words kind (length rs) (records_used kind n k) length-rs).0

    can-rs : writable kind rs ≡ true
    can-rs = can_write kind rs (count-words kind (length rs) (records_used kind n k) length-rs).1 (omega (arith, count, used-few kind n k)) (ap (λ (m : ℕ). every_below m (λ r. leb (get_or rs (record_words kind * r) 0) 1)) count ∙ marks kind l can k missing)

    one : blocks_for kind (records_of kind rs) ≡ 1
    one = ap (blocks_for kind) count ∙ one_block kind (records_used kind n k) (used-one kind n k missing) (used_le kind n k)

    goes_on : (c : List ℕ) (a : Appending kind (length f) n rs c) → block_bytes ≤ length c → (a.returned.number ≡ 0) × (a.returned.at ≡ block_bytes * k) × (a.returned.blocks ≡ 1)
    unfolding after_append now_added first_torn place_of card_bytes
    goes_on c a m =
        let next = follow-is kind n k (records_of kind rs) (subst (NextRecords kind n k) (sym count) (one-next kind n k missing)) in
        let e = a.meets ∙ added-by kind n (length f) rs c can-rs (omega (arith, one, m)) not_beyond true next in
        (λ i. (e i).number, λ i. (e i).at, (λ i. (e i).blocks) ∙ one)

-- each beginning of the card is what some walk leaves: all records appended at once, and the power gone after so many bytes
module _ (kind : Kind) (l : List ℕ) (can : writable kind l ≡ true) where
  abbrev total : ℕ
  total = records_of kind l

  -- a lent list with room
  abbrev lent : List ℕ
  lent = replicate (block_bytes * blocks_for kind (records_of kind l)) 0

  all-next : 0 < total → NextRecords kind total 0 total
  all-next h = record { some = h; which = inl (omega arith) }

  whole-call : 0 < total → Appending kind 0 total l lent
  unfolding after_append now_added place_of first_torn overfull card_bytes
  whole-call h =
      record {
        returned = record { number = 0; blocks = blocks_for kind total; at = 0 };
        lent = blocks_from kind total 0 l ++ drop (block_bytes * blocks_for kind total) lent;
        meets = sym (added-by kind total 0 l lent can (omega (arith, length-zeros (block_bytes * blocks_for kind total))) (le-ltb (block_bytes * blocks_for kind total) 0 (omega arith)) true (follow-is kind total 0 total (all-next h)));
      }

  -- the first j bytes of it
  first-bytes : (j : ℕ) → 0 < total → j ≤ block_bytes * blocks_for kind total → take j (blocks_from kind total 0 l ++ drop (block_bytes * blocks_for kind total) lent) ≡ take j (card_of kind l)
  unfolding blocks_from blocks_of joined
  first-bytes j h k =
      let s = card-split kind l can 0 l (sym (part-whole l (length l) refl)) can (all-next h) in
      let long : length (blocks_from kind total 0 l) ≡ block_bytes * blocks_for kind total = length_from kind total 0 l (all-next h) (blocks_for kind total) (omega arith) in
      take-append-le j (blocks_from kind total 0 l) (drop (block_bytes * blocks_for kind total) lent) (omega (arith, k, long)) ∙ sym (ap (take j) s.1 ∙ take-append-le j (blocks_from kind total 0 l) s.0 (omega (arith, k, long)))

  reach : (j : ℕ) → j ≤ block_bytes * blocks_for kind total → TankWalk kind l (take j (card_of kind l))
  unfolding patched whole-call
  reach zero h = start
  reach (suc j) h =
      subst (TankWalk kind l) (append-drop-nil (take (suc j) (blocks_from kind total 0 l ++ drop (block_bytes * blocks_for kind total) lent)) ∙ first-bytes (suc j) some h)
      (more [] l lent (whole-call some) (suc j) start (sym (part-whole l (length l) refl)) refl h)
    where
      some : 0 < records_of kind l
      some = positive kind (records_of kind l) (omega (arith, h))

  reaches : (m : ℕ) → TankWalk kind l (take m (card_of kind l))
  reaches m = go (leb m (block_bytes * blocks_for kind total)) refl
    where
      go : (x : Bool) → leb m (block_bytes * blocks_for kind total) ≡ x → TankWalk kind l (take m (card_of kind l))
      go true h = reach m (leb-true m (block_bytes * blocks_for kind total) h)
      go false h =
          let k = leb-false m (block_bytes * blocks_for kind total) h in
          subst (TankWalk kind l) (take_all (block_bytes * blocks_for kind total) (card_of kind l) (omega (arith, length-card kind l can)) ∙ sym (take_all m (card_of kind l) (omega (arith, k, length-card kind l can)))) (reach (block_bytes * blocks_for kind total) (omega arith))

asked : (kind : Kind) (long n : ℕ) (q : AskingNext kind long n) → NoNext kind long n q ⊎ NextTold kind long n q
unfolding after_next overfull first_torn place_of card_bytes
asked kind long n q = go (overfull kind n long) refl
  where
    go : (x : Bool) → overfull kind n long ≡ x → NoNext kind long n q ⊎ NextTold kind long n q
    go true h =
        let e = q.meets ∙ following-by kind n long true h in
        inl (record { why = ltb-true (block_bytes * blocks_for kind n) long h; number = λ i. (e i).number; records = λ i. (e i).records; at = λ i. (e i).at })
    go false h =
        let e = q.meets ∙ following-by kind n long false h in
        inr (record { within = ltb-false (block_bytes * blocks_for kind n) long h; number = λ i. (e i).number; records = λ i. (e i).records; at = λ i. (e i).at })

one_appending : (kind : Kind) (long n : ℕ) (rs c : List ℕ) (a b : Appending kind long n rs c) → (a.returned ≡ b.returned) × (a.lent ≡ b.lent)
unfolding after_append
one_appending kind long n rs c a b =
    let e = a.meets ∙ sym b.meets in
    (λ i. record { number = (e i).number; blocks = (e i).blocks; at = (e i).at }, λ i. (e i).lent)

one_asking : (kind : Kind) (long n : ℕ) (a b : AskingNext kind long n) → a.returned ≡ b.returned
unfolding after_next
one_asking kind long n a b =
    let e = a.meets ∙ sym b.meets in
    λ i. record { number = (e i).number; records = (e i).records; at = (e i).at }

same : (kind : Kind) (l f : List ℕ) → writable kind l ≡ true → TankWalk kind l f → f ≡ take (length f) (card_of kind l)
same kind l f can w = begins-is f (card_of kind l) (begins kind l f can w)

pub appends-promised : AppendsPromised
appends-promised =
    record {
      reaches = λ kind l m can. reaches kind l can m;
      same = same;
      end = λ kind l f can w e. same kind l f can w ∙ take_all (length f) (card_of kind l) (omega (arith, e));
      finds = finds;
      goes_on = λ kind l f c a can w h m. goes_on kind l f can w h c a m;
      asks = λ kind l f q can w. asks kind l f can w q;
      made = made;
      asked = asked;
      one_appending = one_appending;
      one_asking = one_asking;
    }
