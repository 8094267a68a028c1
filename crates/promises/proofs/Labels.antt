-- What is promised of the islands' numbers by themselves, from the contract of their call. Assumes nothing.
use Prim.Native.Nat.{ℕ, ◌<◌}
use native.Mathlib.Omega.{arith}
use mathlib.Core.Path.{◌≡◌, refl, sym, ap, ◌∙◌, subst}
use mathlib.Core.Bool.{true, true≢false}
use mathlib.Core.List.{List}
use mathlib.Core.Option.{Option, none, some}
use lib.ListN.{length, get_or}
use Rattle.definition.specs.declared.Corner.{Corner}
use Rattle.definition.specs.Handed.{Handed, mesh_of}
use Rattle.definition.specs.Desk.{Row}
use Rattle.islands.specs.Islands.{Chain, alone, onward, counted, Given, lowest, other, island_of}
use Rattle.islands.proofs.Chains.{chain-join, touches-counted, touches-sym}
use Rattle.islands.proofs.Agree.{given}
use Rattle.islands.proofs.Labels.{label-at}
use Rattle.labels.specs.Labels.{Leaving, left, answered, accepted_labels, labels_verdict, labels_outcome, own_numbers, island_count}
use Rattle.labels.proofs.Counting.{own_same}
use Rattle.labels.proofs.Verdicts.{given-number}
use Rattle.promises.specs.Labels.{LabelsMade, number_of, Promised}

module _ (x : Handed) (l w : List ℕ) (m : LabelsMade x l w) where
  abbrev verdict_of : Option Row
  verdict_of = labels_verdict x (length l) (length w)

  abbrev taken : Leaving
  taken = accepted_labels x l w

  abbrev remains : Leaving
  remains = left m.returned m.labels m.work

  -- what is left behind, by the verdict
  left_by : (o : Option Row) → verdict_of ≡ o → remains ≡ answered o taken l w
  unfolding labels_outcome
  left_by o e = m.meets ∙ ap (λ v. answered v taken l w) e

  -- a number of 0 is acceptance
  accepted-of : m.returned.number ≡ 0 → remains ≡ taken
  unfolding left answered
  accepted-of k = go verdict_of refl
    where
      go : (o : Option Row) → verdict_of ≡ o → remains ≡ taken
      go none e = left_by none e
      go (some r) e = let g = given-number x (length l) (length w) r e in let q = ap (λ z. z.number) (left_by (some r) e) in absurd (omega (arith, g, q, k))

  labelled-is : m.returned.number ≡ 0 → (f : ℕ) → f < length x.sizes → Given (mesh_of x) f (number_of m f)
  unfolding left accepted_labels
  labelled-is k f h =
      subst (λ n. Given (mesh_of x) f n)
      (sym (ap (λ z. get_or z.labels f 0) (accepted-of k) ∙ label-at x l f h))
      (given (mesh_of x) f)

  counts_is : m.returned.number ≡ 0 → m.returned.islands ≡ own_numbers (length x.sizes) (number_of m)
  unfolding left accepted_labels island_count
  counts_is k =
      let e = accepted-of k in
      ap (λ z. z.islands) e
      ∙ own_same (length x.sizes) (island_of (mesh_of x)) (number_of m) (λ f h. sym (ap (λ z. get_or z.labels f 0) e ∙ label-at x l f h))

  refused-is : (m.returned.number ≡ 0 → ⊥) → (m.returned.islands ≡ 0) × (m.labels ≡ l) × (m.work ≡ w)
  unfolding left answered accepted_labels
  refused-is k = go verdict_of refl
    where
      go : (o : Option Row) → verdict_of ≡ o → (m.returned.islands ≡ 0) × (m.labels ≡ l) × (m.work ≡ w)
      go none e = absurd (k (ap (λ z. z.number) (left_by none e)))
      go (some r) e = let q = left_by (some r) e in (ap (λ z. z.islands) q, ap (λ z. z.labels) q, ap (λ z. z.work) q)

determined-is : (x : Handed) (l w : List ℕ) (m n : LabelsMade x l w) → (m.returned ≡ n.returned) × (m.labels ≡ n.labels) × (m.work ≡ n.work)
unfolding left
determined-is x l w m n =
    let e = m.meets ∙ sym n.meets in
    (λ i. record { number = (e i).number; place = (e i).place; islands = (e i).islands }, λ i. (e i).labels, λ i. (e i).work)

-- the face at the end of a chain from a face of 3 or 4 is of 3 or 4
end-counted : (m : List (List Corner)) {f g : ℕ} → Chain m f g → counted m f ≡ true → counted m g ≡ true
end-counted m (alone f) u = u
end-counted m (onward f g h t a) u = end-counted m a (touches-counted m g f (touches-sym m f g t))

one-each-is : (m : List (List Corner)) (f n : ℕ) → counted m f ≡ true → Given m f n → Given m n n
one-each-is m f n u (lowest a v x) = lowest a (end-counted m x.joined u) (record { joined = alone a; least = λ g c. x.least g (chain-join m x.joined c) })
one-each-is m f n u (other v) = absurd (true≢false (sym u ∙ v))

pub labels-call : Promised
labels-call = record {
  labelled = labelled-is;
  counts = counts_is;
  one_each = λ x f n u g. one-each-is (mesh_of x) f n u g;
  refused = refused-is;
  determined = determined-is;
}
