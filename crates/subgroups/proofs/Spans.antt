-- Where the hulls of a group pass the test, its members all join one another, and each brings the one sum. Assumes nothing.
use Prim.Native.Nat.{ℕ, zero, suc, ◌+◌, ◌*◌, ◌/◌, ◌<◌}
use native.Mathlib.Nat.{eq-or-lt_of_le, le_of_suc-le-suc}
use native.Mathlib.Omega.{arith}
use mathlib.Core.Path.{◌≡◌, refl, sym, ap, ◌∙◌, subst}
use mathlib.Core.Logic.{inl, inr}
use mathlib.Core.Bool.{Bool, true, false, cond, true≢false}
use mathlib.Core.List.{List}
use lib.Dec.{eqb}
use lib.Ieee.{Float}
use Rattle.lists.specs.Loops.{up_to}
use Rattle.table.specs.Table.{cell}
use Rattle.table.specs.Columns.{any_column, name_column, met_column, order_column}
use Rattle.lists.proofs.Loops.{up_to-same}
use Rattle.definition.specs.Step7Sums.{empty_sum, finish}
use Rattle.view.specs.Contributions.{s_at, t_at}
use Rattle.hulls.specs.Hull.{widened, above}
use Rattle.hulls.proofs.Covers.{Covers, Regular, wider-covers, wider-regular, widened-law, above-law, above-regular}
use Rattle.subgroups.specs.declared.Span.{Span}
use Rattle.subgroups.specs.Subgroups.{peer_at, joins_by, joins_at, add_row, add_joined, value_of}
use Rattle.subgroups.specs.Spans.{absorbed, absorbed_at, span_of, Whole, summed}
use Rattle.subgroups.proofs.Laws.{join-any, join-other, join-face, join-close}

-- both hulls are regular
record Fine (b : Span) : Type 0 where
  s : Regular b.s
  t : Regular b.t

-- the corner at row r is in both, unless its triangle is `group_with_any`
abbrev In : ℕ → List ℕ → ℕ → Span → Type 0
In rows w r b = eqb (cell rows any_column (r / 3) w) 1 ≡ false → Covers b.s (s_at rows r w) × Covers b.t (t_at rows r w)

-- all that is in b is in c, and b is fine
record Within (rows : ℕ) (w : List ℕ) (b c : Span) : Type 0 where
  fine : Fine b
  kept : (r : ℕ) → In rows w r b → In rows w r c

module _ (rows : ℕ) (w : List ℕ) where
  absorbed-law : (r : ℕ) (b : Span) → Fine (absorbed rows w r b) → Within rows w b (absorbed rows w r b) × In rows w r (absorbed rows w r b)
  unfolding absorbed
  absorbed-law r b F = go (eqb (cell rows any_column (r / 3) w) 1) refl F
    where
      more : Span
      more = record { s = widened b.s (s_at rows r w); t = widened b.t (t_at rows r w) }

      go : (x : Bool) → eqb (cell rows any_column (r / 3) w) 1 ≡ x → Fine (cond x b more) → Within rows w b (cond x b more) × In rows w r (cond x b more)
      go true e F = (record { fine = F; kept = λ q i. i }, λ f. absurd (true≢false (sym e ∙ f)))
      go false e F =
          let p = widened-law b.s (s_at rows r w) F.s in
          let q = widened-law b.t (t_at rows r w) F.t in (
            record {
              fine = record { s = wider-regular b.s (widened b.s (s_at rows r w)) p.0 F.s; t = wider-regular b.t (widened b.t (t_at rows r w)) q.0 F.t };
              kept = λ z i f. (wider-covers b.s (widened b.s (s_at rows r w)) (s_at rows z w) p.0 (i f).0, wider-covers b.t (widened b.t (t_at rows r w)) (t_at rows z w) q.0 (i f).1);
            },
            λ f. (p.1, q.1),
          )

  both-law : (p : ℕ) (b : Span) → Fine (absorbed_at rows w p b) → Within rows w b (absorbed_at rows w p b) × In rows w (cell rows met_column p w) (absorbed_at rows w p b) × In rows w (cell rows order_column p w) (absorbed_at rows w p b)
  unfolding absorbed_at
  both-law p b F =
      let c = absorbed rows w (cell rows met_column p w) b in
      let y = absorbed-law (cell rows order_column p w) c F in
      let x = absorbed-law (cell rows met_column p w) b y.0.fine in
      (record { fine = x.0.fine; kept = λ r i. y.0.kept r (x.0.kept r i) }, y.0.kept (cell rows met_column p w) x.1, y.1)

  -- all n are in the hulls of the n
  all_in : (from n : ℕ) → Fine (span_of rows from n w) → (k : ℕ) → k < n → In rows w (cell rows met_column (from + k) w) (span_of rows from n w) × In rows w (cell rows order_column (from + k) w) (span_of rows from n w)
  unfolding span_of up_to
  all_in from zero F k l = absurd (none k l)
    where
      none : (k : ℕ) → k < 0 → ⊥
      none k l = omega arith
  all_in from (suc n) F k l =
      let b = span_of rows from n w in
      let x = both-law (from + n) b F in
      elim (eq-or-lt_of_le (le_of_suc-le-suc l)) [
        | inl e ↦ subst (λ i. In rows w (cell rows met_column (from + i) w) (absorbed_at rows w (from + n) b) × In rows w (cell rows order_column (from + i) w) (absorbed_at rows w (from + n) b)) (sym e) (x.1, x.2)
        | inr m ↦ let y = all_in from n x.0.fine k m in (x.0.kept (cell rows met_column (from + k) w) y.0, x.0.kept (cell rows order_column (from + k) w) y.1)
      ]

  -- two corners in hulls that pass the test join
  pair : (h : Float) (b : Span) (r q : ℕ) → above b.s h ≡ true → above b.t h ≡ true → In rows w r b → In rows w q b → joins_by h (peer_at rows r w) (peer_at rows q w) ≡ true
  unfolding peer_at
  pair h b r q A B I J = go (eqb (cell rows any_column (r / 3) w) 1) refl (eqb (cell rows any_column (q / 3) w) 1) refl (eqb (cell rows name_column (3 * (r / 3)) w) (cell rows name_column (3 * (q / 3)) w)) refl
    where
      go : (x : Bool) → eqb (cell rows any_column (r / 3) w) 1 ≡ x → (y : Bool) → eqb (cell rows any_column (q / 3) w) 1 ≡ y → (z : Bool) → eqb (cell rows name_column (3 * (r / 3)) w) (cell rows name_column (3 * (q / 3)) w) ≡ z → joins_by h (peer_at rows r w) (peer_at rows q w) ≡ true
      go true e y f z g = sym (join-any h (peer_at rows r w) (peer_at rows q w) e)
      go false e true f z g = sym (join-other h (peer_at rows r w) (peer_at rows q w) f)
      go false e false f true g = sym (join-face h (peer_at rows r w) (peer_at rows q w) g)
      go false e false f false g =
          sym (join-close h (peer_at rows r w) (peer_at rows q w) e f g (above-law b.s h (s_at rows r w) (s_at rows q w) A (I e).0 (J f).0))
          ∙ above-law b.t h (t_at rows r w) (t_at rows q w) B (I e).1 (J f).1

  -- the test of a group
  pub whole-law : (h : Float) (from n : ℕ) → above (span_of rows from n w).s h ≡ true → above (span_of rows from n w).t h ≡ true → Whole rows h from n w
  whole-law h from n A B j k l m =
      let F : Fine (span_of rows from n w) = record { s = above-regular (span_of rows from n w).s h A; t = above-regular (span_of rows from n w).t h B } in
      pair h (span_of rows from n w) (cell rows met_column (from + j) w) (cell rows order_column (from + k) w) A B (all_in from n F j l).0 (all_in from n F k m).1

  -- each member brings the one sum
  pub whole-value : (h : Float) (from n j : ℕ) → j < n → Whole rows h from n w → value_of rows h (cell rows met_column (from + j) w) from n w ≡ summed rows from n w
  unfolding value_of summed add_joined joins_at
  whole-value h from n j l W = ap finish (up_to-same n _ _ empty_sum (λ k y m. ap (λ b. cond b (add_row rows w (cell rows order_column (from + k) w) y) y) (W j k l m)))
