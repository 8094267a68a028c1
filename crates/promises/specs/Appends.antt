-- Appending to a card while the power may go (crate appends; dokphalun_card_next and dokphalun_card_append of the archive): what is promised of whatever the contracts allow, for cards of either kind. Definitions only.
use Rattle.std.specs.Prelude.{ℕ, ◌+◌, ◌*◌, ◌/◌, ◌%◌, ◌≤◌, ◌<◌, ◌≡◌, true, false, ◌⊎◌, List, [], length, take, drop}
use Rattle.lists.specs.Parts.{joined, part}
use Rattle.words.specs.Words.{Fit}
use Rattle.blocks.specs.declared.Kind.{Kind}
use Rattle.blocks.specs.Format.{block_bytes, room_words, records_held, blocks_for, records_used, records_in, block_of}
use Rattle.blocks.specs.Judged.{lost}
use Rattle.cards.specs.Writer.{records_of, writable, card_bytes, card_of}
use Rattle.appends.specs.declared.Next.{Next}
use Rattle.appends.specs.declared.Appended.{Appended}
use Rattle.appends.specs.File.{patched}
use Rattle.appends.specs.Contract.{Follows, Appends}
use Rattle.promises.specs.Cards.{CardRead}

-- a call of `append` that was made: of a card of so many bytes, the total n, the records rs and the lent list c
pub record Appending (kind : Kind) (long n : ℕ) (rs c : List ℕ) : Type 0 where
  pub returned : Appended
  pub lent : List ℕ
  pub meets : Appends kind long n rs c returned lent

-- a call of `next_block`
pub record AskingNext (kind : Kind) (long n : ℕ) : Type 0 where
  pub returned : Next
  pub meets : Follows kind long n returned

-- records rs are the next of l for a card of so many bytes: those from the torn block on
abbrev pub NextOf : List ℕ → ℕ → List ℕ → Type 0
NextOf l long rs = rs ≡ part (room_words * (long / block_bytes)) (length rs) l

-- What the file may hold in a walk round the tank whose records are l, 'block by block', where 'the power may go after any byte'.
-- 'The total in each block is fixed at the start of the walk': that is assumed of whoever calls, since `append` sees the file's length alone. Each call of a walk is told the count of l, and l stays the same.
pub data TankWalk (kind : Kind) (l : List ℕ) : List ℕ → Type 0 where
  -- nothing yet
  start : TankWalk kind l []
  -- the next records were appended, and the power went after j of the bytes, or not at all
  more : (f rs c : List ℕ) (a : Appending kind (length f) (records_of kind l) rs c) (j : ℕ) → TankWalk kind l f → NextOf l (length f) rs → a.returned.number ≡ 0 → j ≤ block_bytes * a.returned.blocks → TankWalk kind l (patched f a.returned.at (take j a.lent))
  -- bytes at the end were lost
  cut : (f : List ℕ) (m : ℕ) → TankWalk kind l f → TankWalk kind l (take m f)

-- what the reader finds on a card of so many bytes, of the records l, in the answer list
pub record CardFinds (kind : Kind) (l : List ℕ) (long past : ℕ) (answer : List ℕ) : Type 0 where
  -- 'exactly the first n / 512 blocks, rounded down, as they were written'
  pub whole : (b : ℕ) → b < long / block_bytes → records_in kind (records_of kind l) b answer ≡ records_in kind (records_of kind l) b l
  -- 'reports the torn rest by its length'
  pub torn : past ≡ long % block_bytes
  -- 'and shows every record outside those blocks as lost'
  pub others : (b : ℕ) → long / block_bytes ≤ b → b < blocks_for kind (records_of kind l) → records_in kind (records_of kind l) b answer ≡ joined (records_used kind (records_of kind l) b) (λ _. lost kind)

-- k records are, by their count, those of block b of a card of n records and of the blocks after it: some, and all that are left or full blocks of them
abbrev pub NextByCount : Kind → ℕ → ℕ → ℕ → Type 0
NextByCount kind n b k = (0 < k) × ((records_held kind * b + k ≡ n) ⊎ ((records_held kind * b + k < n) × (k % records_held kind ≡ 0)))

-- the ground for which `append` refuses with a number, and that no ground of a lower number is there
pub data WhyNot (kind : Kind) (long n : ℕ) (rs c : List ℕ) (number : ℕ) : Type 0 where
  -- 1: a list that the writer would refuse with 1
  unwritable : writable kind rs ≡ false → number ≡ 1 → WhyNot kind long n rs c number
  -- 2: a lent list too short for the blocks
  too_short : writable kind rs ≡ true → length c < card_bytes kind (records_of kind rs) → number ≡ 2 → WhyNot kind long n rs c number
  -- 3: a card longer than n records call for
  too_long : writable kind rs ≡ true → card_bytes kind (records_of kind rs) ≤ length c → card_bytes kind n < long → number ≡ 3 → WhyNot kind long n rs c number
  -- 4: records that are not those of the torn block, and of blocks after it, by their count
  not_next : writable kind rs ≡ true → card_bytes kind (records_of kind rs) ≤ length c → long ≤ card_bytes kind n → (NextByCount kind n (long / block_bytes) (records_of kind rs) → ⊥) → number ≡ 4 → WhyNot kind long n rs c number

-- a refusal of `append`: why, and that nothing is altered
pub record Unmade (kind : Kind) (long n : ℕ) (rs c : List ℕ) (a : Appending kind long n rs c) : Type 0 where
  pub why : WhyNot kind long n rs c a.returned.number
  pub blocks : a.returned.blocks ≡ 0
  pub at : a.returned.at ≡ 0
  pub lent : a.lent ≡ c

-- blocks made, because none of the four grounds is there: for the torn block's place, each with the total n, its number on the card and its own records of rs, and nothing altered past them
pub record BlocksMade (kind : Kind) (long n : ℕ) (rs c : List ℕ) (a : Appending kind long n rs c) : Type 0 where
  pub can : writable kind rs ≡ true
  pub room : card_bytes kind (records_of kind rs) ≤ length c
  pub within : long ≤ card_bytes kind n
  pub next : NextByCount kind n (long / block_bytes) (records_of kind rs)
  pub number : a.returned.number ≡ 0
  pub at : a.returned.at ≡ block_bytes * (long / block_bytes)
  pub blocks : a.returned.blocks ≡ blocks_for kind (records_of kind rs)
  pub bytes : (i : ℕ) → i < blocks_for kind (records_of kind rs) → part (block_bytes * i) block_bytes a.lent ≡ block_of kind n (long / block_bytes + i) (records_in kind (records_of kind rs) i rs)
  pub rest : drop (block_bytes * a.returned.blocks) a.lent ≡ drop (block_bytes * a.returned.blocks) c

-- a refusal of `next_block`, which is with 3 alone
pub record NoNext (kind : Kind) (long n : ℕ) (q : AskingNext kind long n) : Type 0 where
  pub why : card_bytes kind n < long
  pub number : q.returned.number ≡ 3
  pub records : q.returned.records ≡ 0
  pub at : q.returned.at ≡ 0

-- what it says of the torn block else: how many records it takes, none where the card is whole, and where it goes
pub record NextTold (kind : Kind) (long n : ℕ) (q : AskingNext kind long n) : Type 0 where
  pub within : long ≤ card_bytes kind n
  pub number : q.returned.number ≡ 0
  pub records : q.returned.records ≡ records_used kind n (long / block_bytes)
  pub at : q.returned.at ≡ block_bytes * (long / block_bytes)

pub record AppendsPromised : Type 0 where
  -- 'For every cut length n': each beginning of the card, and the whole card, is what some walk leaves
  pub reaches : (kind : Kind) (l : List ℕ) (m : ℕ) → writable kind l ≡ true → TankWalk kind l (take m (card_of kind l))
  -- whatever the cuts, one after another, the file holds the beginning of the card that a run without them writes
  pub same : (kind : Kind) (l f : List ℕ) → writable kind l ≡ true → TankWalk kind l f → f ≡ take (length f) (card_of kind l)
  -- so it 'ends in the same bytes as a run without the cut'
  pub end : (kind : Kind) (l f : List ℕ) → writable kind l ≡ true → TankWalk kind l f → length f ≡ length (card_of kind l) → f ≡ card_of kind l
  -- 'For every cut length n, the reader finds ..'
  pub finds : (kind : Kind) (l f a : List ℕ) (r : CardRead kind f (records_of kind l) a) → writable kind l ≡ true → Fit l → TankWalk kind l f → r.returned.number ≡ 0 → CardFinds kind l (length f) r.returned.past r.answer
  -- 'Appending after that starts at the torn block': while a block is missing, its records are accepted, and go there
  pub goes_on : (kind : Kind) (l f c : List ℕ) (a : Appending kind (length f) (records_of kind l) (records_in kind (records_of kind l) (length f / block_bytes) l) c) → writable kind l ≡ true → TankWalk kind l f → length f < length (card_of kind l) → block_bytes ≤ length c → (a.returned.number ≡ 0) × (a.returned.at ≡ block_bytes * (length f / block_bytes)) × (a.returned.blocks ≡ 1)
  -- and `next_block` says so
  pub asks : (kind : Kind) (l f : List ℕ) (q : AskingNext kind (length f) (records_of kind l)) → writable kind l ≡ true → TankWalk kind l f → (q.returned.number ≡ 0) × (q.returned.at ≡ block_bytes * (length f / block_bytes)) × (q.returned.records ≡ records_used kind (records_of kind l) (length f / block_bytes))
  -- which refusal and why, or which blocks; a refusal alters nothing, and nothing is altered past the blocks
  pub made : (kind : Kind) (long n : ℕ) (rs c : List ℕ) (a : Appending kind long n rs c) → Unmade kind long n rs c a ⊎ BlocksMade kind long n rs c a
  pub asked : (kind : Kind) (long n : ℕ) (q : AskingNext kind long n) → NoNext kind long n q ⊎ NextTold kind long n q
  -- 'Any pair of outcomes satisfying it is shown identical'
  pub one_appending : (kind : Kind) (long n : ℕ) (rs c : List ℕ) (a b : Appending kind long n rs c) → (a.returned ≡ b.returned) × (a.lent ≡ b.lent)
  pub one_asking : (kind : Kind) (long n : ℕ) (a b : AskingNext kind long n) → a.returned ≡ b.returned
