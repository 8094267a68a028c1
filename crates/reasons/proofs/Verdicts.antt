-- What the call leaves behind, by its verdict and by what its steps leave. Assumes nothing.
use Prim.Native.Nat.{ℕ, ◌+◌, ◌*◌, ◌≤◌, ◌<◌}
use native.Mathlib.Omega.{arith}
use mathlib.Core.Path.{◌≡◌, sym, ap, ◌∙◌}
use mathlib.Core.Bool.{Bool, true}
use mathlib.Core.List.{List, ◌++◌}
use mathlib.Core.Option.{Option, none, some}
use lib.ListN.{length, get_or, drop, length-append, length-drop, get_or-append}
use lib.Ieee.{Float}
use lib.Seq.{drop_at}
use Rattle.lists.specs.Loops.{list_of}
use Rattle.lists.proofs.Loops.{length-list_of}
use Rattle.tangent.specs.Slot.{slot_words}
use Rattle.table.specs.Columns.{columns, rows_of}
use Rattle.definition.specs.Handed.{Handed, call, mesh_of, slot_count}
use Rattle.definition.specs.Desk.{Row}
use Rattle.definition.specs.Frames.{frames}
use Rattle.definition.specs.Outcome.{answer_words, accepted}
use Rattle.view.proofs.Lists.{list_of-same}
use Rattle.std.specs.Prelude.{Err}
use Rattle.desk.specs.declared.Refusal.{Refusal}
use Rattle.desk.specs.declared.Refusal.TheVariants.{ShortOwn}
use Rattle.desk.specs.Verdict.{as_verdict, told, number_of, place_of}
use Rattle.desk.proofs.Telling.{number-some}
use Rattle.islands.specs.Nine.{afterwards}
use Rattle.mikktspace.specs.Contract as made
use Rattle.mikktspace.proofs.Verdicts.{cleared-past}
use Rattle.worth.proofs.Filling.{filled_at}
use Rattle.reasons.specs.Trial.{trial}
use Rattle.reasons.specs.Reasons.{origin_word, reason_by, only_absent, reasons_of}
use Rattle.reasons.specs.Contract.{ReasonsLeft, left, reason_bytes, accepted_reasons, answered}

-- ---- refusals

-- a refusal of the table
pub refused : (o : Option Row) (r : Refusal) (b : Bool) (z : ReasonsLeft) (a w k : List ℕ) → told (Err r) ≡ as_verdict o → left (made.outcome_of (Err r)) a w k ≡ answered (afterwards o b) z a w k
unfolding told as_verdict answered left afterwards made.outcome_of
refused none r b z a w k e = absurd (number-some r (ap (λ v. v.number) e))
refused (some x) r b z a w k e = λ i. record { number = (e i).number; place = (e i).place; slots = 0; answer = a; work = w; reasons = k }

-- refusal 9
pub too_short : (o : Option Row) (b : Bool) (z : ReasonsLeft) (a w k : List ℕ) → o ≡ none → b ≡ true → left (made.outcome_of (Err ShortOwn)) a w k ≡ answered (afterwards o b) z a w k
unfolding answered left afterwards made.outcome_of number_of place_of
too_short o b z a w k e h = sym (ap (λ x. answered (afterwards x b) z a w k) e ∙ ap (λ x. answered (afterwards none x) z a w k) h)

-- ---- acceptance

-- how long the first part of a list is, whose second is the rest of another of its length
front_length : (n : ℕ) (t l u : List ℕ) → u ≡ t ++ drop n l → length u ≡ length l → n ≤ length l → length t ≡ n
front_length n t l u e h k = omega (arith, ap length e ∙ length-append t (drop n l), length-drop n l, h, k)

-- bytes from the words of the trial, then from those of the answer
bytes-are : (n : ℕ) (A T r q a b k k₁ k₂ : List ℕ) → length A ≡ slot_words * n → length T ≡ slot_words * n → a ≡ A ++ r → b ≡ T ++ q
    → k₁ ≡ list_of n (λ s. reason_by (get_or b (slot_words * s + origin_word) 0)) ++ drop n k
    → k₂ ≡ list_of n (λ s. only_absent (get_or a (slot_words * s) 0) (get_or k₁ s 0)) ++ drop n k₁
    → k₂ ≡ reasons_of n A T ++ drop n k
unfolding reasons_of
bytes-are n A T r q a b k k₁ k₂ l_a l_t ea eb e₁ e₂ = e₂ ∙ (λ z. list_of-same n _ _ byte z ++ past z)
  where
    noted : ℕ → ℕ
    noted s = reason_by (get_or b (slot_words * s + origin_word) 0)

    byte : (s : ℕ) → s < n → only_absent (get_or a (slot_words * s) 0) (get_or k₁ s 0) ≡ only_absent (get_or A (slot_words * s) 0) (reason_by (get_or T (slot_words * s + origin_word) 0))
    byte s h =
        let there = ap (λ (l : List ℕ). get_or l (slot_words * s) 0) ea ∙ get_or-append A r 0 (slot_words * s) (omega (arith, l_a, h)) in
        let origin = ap (λ (l : List ℕ). get_or l (slot_words * s + origin_word) 0) eb ∙ get_or-append T q 0 (slot_words * s + origin_word) (omega (arith, l_t, h)) in
        let reason = ap (λ (l : List ℕ). get_or l s 0) e₁ ∙ filled_at n noted k s h ∙ ap reason_by origin in
        λ z. only_absent (there z) (reason z)

    past : drop n k₁ ≡ drop n k
    past = ap (drop n) e₁ ∙ drop_at (list_of n noted) (drop n k) n (length-list_of n noted)

module _ (mesh : Handed) (h : Float) (a w k b v c y k₁ k₂ : List ℕ) (n s : ℕ) (is : n ≡ slot_count mesh.sizes) where
  abbrev N : ℕ
  N = slot_words * slot_count mesh.sizes

  -- the trial's list b and work list v, the answer list c and work list y that the frames are made in, and bytes after the one and the other
  pub whole : N ≤ length a → length b ≡ length a → b ≡ answer_words (trial (mesh_of mesh)) ++ drop N a → drop (columns * rows_of (length mesh.sizes)) v ≡ drop (columns * rows_of (length mesh.sizes)) w
      → k₁ ≡ list_of n (λ s. reason_by (get_or b (slot_words * s + origin_word) 0)) ++ drop n k
      → made.left (record { number = 0; place = 0; slots = s }) c y ≡ accepted (call mesh h b v) → length c ≡ length b
      → k₂ ≡ list_of n (λ s. only_absent (get_or c (slot_words * s) 0) (get_or k₁ s 0)) ++ drop n k₁
      → left (record { number = 0; place = 0; slots = s }) c y k₂ ≡ accepted_reasons (call mesh h a w) k
  unfolding made.left accepted left accepted_reasons reason_bytes
  whole room lb B past e₁ E lc e₂ =
      let A = answer_words (frames h (mesh_of mesh)) in
      let T = answer_words (trial (mesh_of mesh)) in
      let l_t = front_length N T a b B lb room in
      let C = ap (λ x. x.answer) E ∙ ap (λ (l : List ℕ). A ++ l) (ap (drop N) B ∙ drop_at T (drop N a) N l_t) in
      let l_a = front_length N A a c C (lc ∙ lb) room in
      let W = cleared-past (length mesh.sizes) w v y past (ap (λ x. x.work) E) in
      let K = bytes-are n A T (drop N a) (drop N a) c b k k₁ k₂ (omega (arith, l_a, is)) (omega (arith, l_t, is)) C B e₁ e₂ in
      λ i. record { number = 0; place = 0; slots = (E i).slots; answer = C i; work = W i; reasons = (K ∙ ap (λ (m : ℕ). reasons_of m A T ++ drop m k) is) i }
