-- `blocks::good` meets its contract. Assumes nothing.
use Prim.Native.Nat.{ℕ, ◌+◌, ◌-◌, ◌*◌, ◌/◌, ◌<◌}
use native.Mathlib.Omega.{arith}
use mathlib.Core.Path.{◌≡◌, sym, ◌∙◌, ap}
use mathlib.Core.Bool.{Bool}
use mathlib.Core.List.{List}
use lib.Dec.{eqb}
use lib.ListN.{length, get_or}
use Rattle.blocks.specs.declared.Kind.{Kind}
use Rattle.blocks.specs.Format.{header, used_words, block_bytes, block_words, header_words, room_words}
use Rattle.lists.specs.Parts.{every_below}
use Rattle.words.specs.Words.{word_at}
use Rattle.blocks.specs.Judged.{headed, emptied, block_at}
use Rattle.blocks.proofs.Judged.{headed-words, marked-words, emptied-words, good_none, bad-header, bad-mark, bad-rest, by-sum}
use Rattle.blocks.proofs.good.Goals as goal
use Rattle.blocks.proofs.good.Goals.{then-headed, else-headed, then-block_marked, else-block_marked}

-- what the first and the third test say of the block
heads : (kind : Kind) (n b : ℕ) (bs hs : List ℕ) (r : Bool) → r ≡ every_below header_words (λ i. eqb (word_at bs (block_words * b + i)) (get_or hs i 0)) → hs ≡ header kind n b → r ≡ headed kind n b (block_at b bs)
heads kind n b bs hs r e h =
    e ∙ (ap (λ (k : List ℕ). every_below header_words (λ i. eqb (word_at bs (block_words * b + i)) (get_or k i 0))) h ∙ headed-words kind n b bs)

rests : (kind : Kind) (n b k m : ℕ) (bs : List ℕ) (r : Bool) → r ≡ every_below m (λ i. eqb (word_at bs (block_words * b + header_words + k + i)) 0) → k ≡ used_words kind n b → m ≡ room_words - k → r ≡ emptied kind n b (block_at b bs)
rests kind n b k m bs r e h l =
    e
    ∙ (ap (λ (j : ℕ). every_below j (λ i. eqb (word_at bs (block_words * b + header_words + k + i)) 0)) l
    ∙ (ap (λ (j : ℕ). every_below (room_words - j) (λ i. eqb (word_at bs (block_words * b + header_words + j + i)) 0)) h ∙ emptied-words kind n b bs))

pub returns-then-card-b : goal.returns-then-card-b
returns-then-card-b c =
    let a = c.args in
    good_none a.kind a.total a.b a.card.now (omega (arith, c.if-card-b.true))

pub returns-else-emptied : goal.returns-else-emptied
returns-else-emptied c =
    let a = c.args in
    let there : a.b < length a.card.now / block_bytes = omega (arith, c.if-card-b.false) in
    let h = heads a.kind a.total a.b a.card.now _ _ c.headed.ensures c.header.ensures in
    c.if-emptied.false
    ∙ elim c.if-block_marked.branch [
      | then-block_marked w ↦ elim c.if-headed.branch [
        | then-headed u ↦ (bad-rest a.kind a.total a.b a.card.now there (sym h ∙ u.if-headed.true) (sym (u.block_marked.ensures ∙ marked-words a.kind a.total a.b a.card.now) ∙ (sym u.value-is ∙ w.if-block_marked.true)) (sym (rests a.kind a.total a.b _ _ a.card.now _ w.emptied.ensures c.used_words-count.ensures.0 (omega (arith, c.used_words-count.ensures.1))) ∙ (sym w.value-is ∙ c.if-emptied.false)))
        | else-headed u ↦ cc
      ]
      | else-block_marked w ↦ elim c.if-headed.branch [
        | then-headed u ↦ (bad-mark a.kind a.total a.b a.card.now there (sym h ∙ u.if-headed.true) (sym (u.block_marked.ensures ∙ marked-words a.kind a.total a.b a.card.now) ∙ (sym u.value-is ∙ w.if-block_marked.false)))
        | else-headed u ↦ (bad-header a.kind a.total a.b a.card.now there (sym h ∙ u.if-headed.false))
      ]
    ]

pub returns-then-emptied : goal.returns-then-emptied
unfolding block_at
returns-then-emptied c =
    let a = c.args in
    let there : a.b < length a.card.now / block_bytes = omega (arith, c.if-card-b.false) in
    let h = heads a.kind a.total a.b a.card.now _ _ c.headed.ensures c.header.ensures in
    c.checked.ensures
    ∙ elim c.if-block_marked.branch [
      | then-block_marked w ↦ elim c.if-headed.branch [
        | then-headed u ↦ by-sum a.kind a.total a.b a.card.now there (sym h ∙ u.if-headed.true) (sym (u.block_marked.ensures ∙ marked-words a.kind a.total a.b a.card.now) ∙ (sym u.value-is ∙ w.if-block_marked.true)) (sym (rests a.kind a.total a.b _ _ a.card.now _ w.emptied.ensures c.used_words-count.ensures.0 (omega (arith, c.used_words-count.ensures.1))) ∙ (sym w.value-is ∙ c.if-emptied.true))
        | else-headed u ↦ cc
      ]
      | else-block_marked w ↦ cc
    ]
