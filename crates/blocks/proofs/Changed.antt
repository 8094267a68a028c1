-- A block in which exactly one word was changed is not sound. Assumes nothing.
use Prim.Native.Nat.{ℕ, ◌+◌, ◌%◌, ◌≤◌, ◌<◌}
use native.Mathlib.Nat.{le_antisymm, eq-or-lt_of_le}
use native.Mathlib.Omega.{arith}
use mathlib.Core.Path.{◌≡◌, sym, ap, ◌∙◌}
use mathlib.Core.Bool.{true, ◌&&◌}
use mathlib.Core.Logic.{◌≢◌, ⊎_elim}
use mathlib.Core.List.{List}
use lib.ListN.{length, get_or, set, take}
use lib.Seq.{get_or-set_same, get_or-set_other, take-set-le, take-set-lt, get_or-take, length-take-le}
use borrow.Author.Tests.{eqb-true}
use Rattle.words.specs.Words.{word_values}
use Rattle.bits.proofs.Bools.{and_right}
use Rattle.lists.specs.Parts.{sum_of}
use Rattle.lists.proofs.Parts.{sum-set}
use Rattle.blocks.specs.declared.Kind.{Kind}
use Rattle.blocks.specs.Format.{block_words, summed_words, complement, check_word}
use Rattle.blocks.specs.Judged.{headed, records_marked, emptied, checked, sound_block}

-- the last word of a sound block
last : (kind : Kind) (n b : ℕ) (ws : List ℕ) → sound_block kind n b ws ≡ true → get_or ws summed_words 0 ≡ check_word (take summed_words ws)
unfolding sound_block checked
last kind n b ws h = eqb-true (get_or ws summed_words 0) (check_word (take summed_words ws)) (and_right (headed kind n b ws && records_marked kind n b ws && emptied kind n b ws) (checked ws) h)

-- two sums whose complements are the same
same_rest : (s t : ℕ) → complement s ≡ complement t → s % word_values ≡ t % word_values
unfolding complement
same_rest s t e = omega (arith, e)

-- words by which such sums differ are the same
same_word : (s t o w : ℕ) → s % word_values ≡ t % word_values → t + o ≡ s + w → o < word_values → w < word_values → o ≡ w
same_word s t o w e f h k = le_antisymm (omega arith) (omega arith)

-- 'a block in which exactly one word was changed is always noticed'
pub one_word : (kind : Kind) (n b : ℕ) (ws : List ℕ) (i w : ℕ) → length ws ≡ block_words → i < block_words → get_or ws i 0 < word_values → w < word_values → w ≢ get_or ws i 0
    → sound_block kind n b ws ≡ true → sound_block kind n b (set ws i w) ≡ true → ⊥
unfolding check_word
one_word kind n b ws i w l h j k d e f = ⊎_elim in-the-sum among (eq-or-lt_of_le (below h))
  where
    below : i < block_words → i ≤ summed_words
    below x = omega arith

    in-the-sum : i ≡ summed_words → ⊥
    in-the-sum x =
        d (sym (get_or-set_same ws i w 0 (omega (arith, l, h)))
        ∙ (ap (λ (m : ℕ). get_or (set ws i w) m 0) x
        ∙ (last kind n b (set ws i w) f
        ∙ (ap (λ (v : List ℕ). complement (sum_of v)) (take-set-le summed_words ws i w (omega (arith, x))) ∙ (sym (last kind n b ws e) ∙ ap (λ (m : ℕ). get_or ws m 0) (sym x))))))

    among : i < summed_words → ⊥
    among x =
        let same = sym (last kind n b ws e) ∙ (sym (get_or-set_other ws i summed_words w 0 (apart x)) ∙ (last kind n b (set ws i w) f ∙ ap (λ (v : List ℕ). complement (sum_of v)) (take-set-lt summed_words ws i w x))) in
        let sums = sum-set (take summed_words ws) i w (omega (arith, x, length-take-le summed_words ws (omega (arith, l)))) in
        d (sym (same_word (sum_of (take summed_words ws)) (sum_of (set (take summed_words ws) i w)) (get_or ws i 0) w (same_rest (sum_of (take summed_words ws)) (sum_of (set (take summed_words ws) i w)) same)
        (ap (λ (m : ℕ). sum_of (set (take summed_words ws) i w) + m) (sym (get_or-take summed_words ws i 0 x)) ∙ sums) j k))
      where
        apart : i < summed_words → summed_words ≢ i
        apart y z = omega (arith, y, z)
