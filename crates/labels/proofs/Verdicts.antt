-- The verdict of the call for labels, as its code has it. Assumes nothing.
use Prim.Native.Nat.{ℕ, ◌≤◌, ◌<◌}
use mathlib.Core.Path.{◌≡◌, sym, ap, ◌∙◌}
use mathlib.Core.Bool.{Bool, true}
use mathlib.Core.List.{List}
use mathlib.Core.Option.{Option, none, some}
use lib.Dec.{ltb}
use lib.ListN.{length}
use borrow.Author.Tests.{ltb-false}
use Rattle.definition.specs.Handed.{Handed}
use Rattle.definition.specs.Desk.{Row, shown}
use Rattle.bits.specs.Single.{zeroᶠ}
use Rattle.laws.proofs.Verdict.{verdict-numbered}
use Rattle.std.specs.Prelude.{Err}
use Rattle.desk.specs.declared.Refusal.{Refusal}
use Rattle.desk.specs.declared.Refusal.TheVariants.{ShortOwn}
use Rattle.desk.specs.Verdict.{as_verdict, told, number_of, place_of}
use Rattle.desk.proofs.Telling.{number-some}
use Rattle.islands.specs.Nine.{afterwards}
use Rattle.islands.proofs.Nine.{passed, numbered-row}
use Rattle.mikktspace.specs.Alone.{desk_verdict, longest_answer}
use Rattle.labels.specs.Labels.{Leaving, left, answered, labelled_of, labels_verdict}

-- a refusal of the table: what the call leaves behind
pub refused : (o : Option Row) (r : Refusal) (b : Bool) (z : Leaving) (l w : List ℕ) → told (Err r) ≡ as_verdict o → left (labelled_of (Err r)) l w ≡ answered (afterwards o b) z l w
unfolding told as_verdict answered left afterwards labelled_of
refused none r b z l w e = absurd (number-some r (ap (λ v. v.number) e))
refused (some x) r b z l w e = λ i. record { number = (e i).number; place = (e i).place; islands = 0; labels = l; work = w }

-- refusal 9
pub too_short : (o : Option Row) (b : Bool) (z : Leaving) (l w : List ℕ) → o ≡ none → b ≡ true → left (labelled_of (Err ShortOwn)) l w ≡ answered (afterwards o b) z l w
unfolding answered left afterwards labelled_of number_of place_of
too_short o b z l w e h = sym (ap (λ x. answered (afterwards x b) z l w) e ∙ ap (λ x. answered (afterwards none x) z l w) h)

-- where nothing is refused the table has no row, and there is a label a face
pub passed-labels : (mesh : Handed) (labels work : ℕ) → labels_verdict mesh labels work ≡ none → (desk_verdict mesh work ≡ none) × (length mesh.sizes ≤ labels)
unfolding labels_verdict
passed-labels mesh labels work e = let p = passed _ _ e in (p.0, ltb-false labels (length mesh.sizes) p.1)

-- the number of a row that is given is not 0
pub given-number : (mesh : Handed) (labels work : ℕ) (r : Row) → labels_verdict mesh labels work ≡ some r → 0 < r.number
unfolding labels_verdict
given-number mesh labels work r e = numbered-row (desk_verdict mesh work) (verdict-numbered (shown mesh zeroᶠ longest_answer work)) (ltb labels (length mesh.sizes)) r e
