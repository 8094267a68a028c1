-- What is promised of the islands' call, from its contract. Assumes nothing.
use Prim.Native.Nat.{ℕ, ◌*◌, ◌<◌}
use native.Mathlib.Omega.{arith}
use mathlib.Core.Path.{◌≡◌, refl, sym, ◌∙◌, ap, subst}
use mathlib.Core.Bool.{Bool, true, false}
use mathlib.Core.Option.{Option, none, some}
use lib.ListN.{get_or}
use Rattle.laws.proofs.Verdict.{InTable}
use Rattle.definition.specs.Handed.{Call, mesh_of}
use Rattle.definition.specs.Desk.{Row}
use Rattle.definition.specs.Outcome.{Result, accepted, answered, outcome}
use Rattle.lists.specs.Every.{Each, each_none, each_some}
use Rattle.mikktspace.specs.Contract.{left}
use Rattle.islands.specs.Islands.{Given}
use Rattle.islands.proofs.Agree.{given}
use Rattle.islands.proofs.Chains.{given-one}
use Rattle.islands.specs.Nine.{afterwards}
use Rattle.apart.specs.Call.{Own, short, accepted_of, own_after, own_left, leaving}
use Rattle.apart.proofs.Call.{same-result, outcome-by}
use Rattle.islands.proofs.Labels.{label-at}
use Rattle.apart.proofs.Finishing.{long-is}
use Rattle.promises.specs.Calls.{leaves, Accepted}
use Rattle.promises.specs.Islands.{IslandsMade, remains, faces_of, Entries, Promised}
use Rattle.promises.proofs.Acceptance.{verdict_of, numbered, no_row}

module _ (x : Call) (o : Own) where
  abbrev taken : Result
  taken = accepted_of x

  abbrev after : Own
  after = own_after x.mesh o

  -- what one call leaves, by the verdict
  leaves_by : (v : Option Row) → verdict_of x ≡ v → leaves x ≡ answered v (accepted x) x.answer x.work
  unfolding leaves outcome
  leaves_by v e = ap (λ u. answered u (accepted x) x.answer x.work) e

  -- one call is never refused with 9
  not-nine : (leaves x).number ≡ 9 → ⊥
  unfolding answered accepted
  not-nine = go (verdict_of x) (numbered x) refl
    where
      go : (v : Option Row) → Each InTable v → verdict_of x ≡ v → (leaves x).number ≡ 9 → ⊥
      go none each_none e k = let z = ap (λ r. r.number) (leaves_by none e) in omega (arith, z, k)
      go (some r) (each_some f) e k = let z = ap (λ r. r.number) (leaves_by (some r) e) in omega (arith, z, k, f.known.1)

  module _ (m : IslandsMade x o) where
    -- what it left, by the verdict and by whether its own lists are too short
    result_by : (v : Option Row) (s : Bool) → verdict_of x ≡ v → short (faces_of x) o ≡ s → remains m ≡ answered (afterwards v s) taken x.answer x.work
    unfolding leaving
    result_by v s e f = ap (λ z. z.result) (m.meets ∙ outcome-by x.mesh x.threshold x.answer x.work o v s e f)

    own-by : (v : Option Row) (s : Bool) → verdict_of x ≡ v → short (faces_of x) o ≡ s → m.own ≡ own_left (afterwards v s) after o
    unfolding leaving
    own-by v s e f = ap (λ z. z.own) (m.meets ∙ outcome-by x.mesh x.threshold x.answer x.work o v s e f)

    number_by : (v : Option Row) (s : Bool) → verdict_of x ≡ v → short (faces_of x) o ≡ s → m.returned.number ≡ (answered (afterwards v s) taken x.answer x.work).number
    unfolding left
    number_by v s e f = ap (λ z. z.number) (result_by v s e f)

    same-is : short (faces_of x) o ≡ false → remains m ≡ leaves x
    unfolding leaves leaving
    same-is e = ap (λ z. z.result) m.meets ∙ same-result x.mesh x.threshold x.answer x.work o e

    first_is : ((leaves x).number ≡ 0 → ⊥) → (remains m ≡ leaves x) × (m.own ≡ o)
    unfolding answered accepted afterwards own_left
    first_is k = go (verdict_of x) refl
      where
        go : (v : Option Row) → verdict_of x ≡ v → (remains m ≡ leaves x) × (m.own ≡ o)
        go none e = absurd (k (ap (λ r. r.number) (leaves_by none e)))
        go (some r) e = (result_by (some r) (short (faces_of x) o) e refl ∙ sym (leaves_by (some r) e), own-by (some r) (short (faces_of x) o) e refl)

    nine-is : (leaves x).number ≡ 0 → short (faces_of x) o ≡ true → (remains m ≡ record { number = 9; place = 0; slots = 0; answer = x.answer; work = x.work }) × (m.own ≡ o)
    unfolding answered afterwards own_left Accepted
    nine-is e s = let v = no_row x e in (result_by none true v s, own-by none true v s)

    -- a number of 0 is acceptance
    accepted-of : m.returned.number ≡ 0 → (verdict_of x ≡ none) × (short (faces_of x) o ≡ false)
    unfolding answered accepted_of afterwards
    accepted-of k = go (verdict_of x) (numbered x) refl (short (faces_of x) o) refl
      where
        go : (v : Option Row) → Each InTable v → verdict_of x ≡ v → (s : Bool) → short (faces_of x) o ≡ s → (verdict_of x ≡ none) × (short (faces_of x) o ≡ false)
        go none each_none e false f = (e, f)
        go none each_none e true f = let z = number_by none true e f in absurd (omega (arith, z, k))
        go (some r) (each_some g) e s f = let z = number_by (some r) s e f in absurd (omega (arith, z, k, g.known.0))

    cleared-is : m.returned.number ≡ 0 → m.own ≡ after
    unfolding afterwards own_left
    cleared-is k = let e = accepted-of k in own-by none false e.0 e.1

    labelled-is : m.returned.number ≡ 0 → (f : ℕ) → f < faces_of x → Given (mesh_of x.mesh) f (get_or m.own.labels f 0)
    unfolding own_after
    labelled-is k f h =
        subst (λ n. Given (mesh_of x.mesh) f n)
        (sym (ap (λ z. get_or z.labels f 0) (cleared-is k) ∙ label-at x.mesh o.labels f h))
        (given (mesh_of x.mesh) f)

  determined-is : (m n : IslandsMade x o) → (m.returned ≡ n.returned) × (m.answer ≡ n.answer) × (m.work ≡ n.work) × (m.own ≡ n.own)
  unfolding leaving left
  determined-is m n =
      let e = m.meets ∙ sym n.meets in
      (λ i. record { number = (e i).result.number; place = (e i).result.place; slots = (e i).result.slots }, λ i. (e i).result.answer, λ i. (e i).result.work, λ i. (e i).own)

  enough-is : Entries (128 * faces_of x) o → short (faces_of x) o ≡ false
  enough-is l = long-is (faces_of x) o (record { labels = omega (arith, l.labels); order = omega (arith, l.order); sizes = omega (arith, l.sizes); numbers = omega (arith, l.numbers); frames = omega (arith, l.frames) })

pub islands-call : Promised
unfolding left
islands-call = record {
  same = same-is;
  labelled = labelled-is;
  one_label = λ x f a b g k. given-one (mesh_of x.mesh) f g k;
  table_first = first_is;
  nine = nine-is;
  never_nine = λ x o m s e. not-nine x o (sym (ap (λ z. z.number) (same-is x o m s)) ∙ e);
  enough = enough-is;
  cleared = cleared-is;
  determined = determined-is;
}
