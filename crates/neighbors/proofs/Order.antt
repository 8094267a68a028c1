-- Step 5: sides sorted by their ends have the links of the definition. Assumes nothing.
use Prim.Native.Nat.{ℕ, zero, suc, ◌+◌, ◌*◌, ◌/◌, ◌%◌, ◌≤◌, ◌<◌}
use native.Mathlib.Nat.{le_refl}
use native.Mathlib.Omega.{arith}
use mathlib.Core.Path.{◌≡◌, refl, sym, ◌∙◌, ap, subst}
use mathlib.Core.Bool.{false}
use mathlib.Core.List.{List, [], ◌∷◌, map, Memᴰ}
use lib.Dec.{eqb}
use lib.ListN.{length, get_or, drop, length-map, length-drop, drop_of_length-le, get_or-map}
use lib.Seq.{drop-cons, get_or-drop}
use borrow.Author.Tests.{ne_eqb, eqb-false}
use Rattle.table.specs.Table.{cell}
use Rattle.lists.specs.Loops.{up_to, list_of}
use Rattle.table.specs.Columns.{columns, link_column}
use Rattle.lists.proofs.Loops.{length-list_of, get_or-list_of}
use Rattle.definition.specs.declared.Triangle.{Triangle}
use Rattle.lists.specs.Lists.{keep, first}
use Rattle.definition.specs.Mesh.{Third, Spot}
use Rattle.definition.specs.Step4Order.{spots}
use Rattle.definition.specs.Step5Links.{Link, link_all, links, beyond}
use Rattle.lists.specs.Every.{Every, every_nil, every_cons}
use Rattle.laws.proofs.Part.{every_map, keep-map, keep_same}
use Rattle.definition.specs.Names.{Names}
use Rattle.laws.proofs.Mutual.{spots-apart}
use Rattle.laws.proofs.Shuffled.{every-mem}
use Rattle.laws.proofs.Buckets.{same_ends, any_order}
use Rattle.view.specs.Frame.{Only}
use Rattle.view.specs.Rows.{third, row, spot_at, spot_row}
use Rattle.view.specs.Weld.{Sharp}
use Rattle.view.specs.Links.{LinkWord, Linked}
use Rattle.view.proofs.Lists.{first-not, index-every}
use Rattle.view.proofs.Rows.{tri-lt, row_lt, spot_is, spot_in, spots-rows}
use Rattle.neighbors.specs.Links.{turn}
use Rattle.neighbors.proofs.Mates.{Sides, Ordered, Sees, links_to, all-links}

-- ---- step 5

-- the numbers K, of which equal ones are equal ends, never fall along the order
pub record Rising (ss : List Triangle) (d : Triangle) (os : List ℕ) (K : ℕ → ℕ) : Type 0 where
  pub keys : (r s : ℕ) → r < 3 * length ss → s < 3 * length ss → same_ends (spot_row ss d r) (spot_row ss d s) ≡ eqb (K r) (K s)
  pub rising : (a b : ℕ) → a ≤ b → b < length os → K (get_or os a 0) ≤ K (get_or os b 0)

-- all later sides
abbrev all_later : Spot → List Spot → List Spot
all_later s l = l

-- all are seen: sides with equal ends stand together
sees-all : (ss : List Triangle) (d : Triangle) (os : List ℕ) (K : ℕ → ℕ) → Ordered ss os → Rising ss d os K → Sees ss d os all_later
unfolding first
sees-all ss d os K P R = record {
  none_left = λ x. refl;
  goes_on = λ x y l p e. refl;
  stops = λ a b l h e p f. first-not p (map (spot_row ss d) (drop b os)) (spot_row ss d 0) (λ k g.
      let n : length (map (spot_row ss d) (drop b os)) ≡ length (drop b os) = length-map (drop b os) (spot_row ss d) in
      let n' = length-drop b os in
      let c : b + k < length os = omega arith in
      ap p (get_or-map (spot_row ss d) (drop b os) k 0 ∙ ap (spot_row ss d) (get_or-drop b os k 0))
      ∙ f (spot_row ss d (get_or os (b + k) 0)) (no_more a b (b + k) l (omega arith) c e));
}
  where
    no_more : (a b c : ℕ) → a ≤ b → b ≤ c → c < length os → same_ends (spot_row ss d (get_or os a 0)) (spot_row ss d (get_or os b 0)) ≡ false → same_ends (spot_row ss d (get_or os a 0)) (spot_row ss d (get_or os c 0)) ≡ false
    no_more a b c l m h e =
        R.keys (get_or os a 0) (get_or os c 0) (P.below a (omega arith)) (P.below c h)
        ∙ ne_eqb (K (get_or os a 0)) (K (get_or os c 0)) (λ q.
        eqb-false (K (get_or os a 0)) (K (get_or os b 0)) (sym (R.keys (get_or os a 0) (get_or os b 0) (P.below a (omega arith)) (P.below b (omega arith))) ∙ e)
        (let u = R.rising a b l (omega arith) in
        let v = R.rising b c m h in
        omega arith))

module _ (rows : ℕ) (ss : List Triangle) (d : Triangle) (N : Names ss) (fits : 3 * length ss ≤ rows) (sharp : Sharp ss d) (os : List ℕ) (K : ℕ → ℕ) (P : Ordered ss os) (R : Rising ss d os K)
    (kept : (x : ℕ) → keep (λ s. eqb x (K s)) os ≡ keep (λ s. eqb x (K s)) (list_of (3 * length ss) (λ k. k)))
    (w₀ : List ℕ) (S : Sides rows ss d os w₀) (long : columns * rows ≤ length w₀) (empty : (t : ℕ) (i : Third) → t < length ss → cell rows link_column (row t i) w₀ ≡ 0) where
  abbrev n : ℕ
  n = 3 * length ss

  abbrev rs : List ℕ
  rs = list_of n (λ k. k)

  in-rs : Every (λ s. s < n) rs
  in-rs = index-every (λ s. s < n) rs 0 (λ k h. let l : k < n = let a = length-list_of n (λ k. k) in omega arith in subst (λ x. x < n) (sym (get_or-list_of n (λ k. k) 0 k l)) l)

  in-os : Every (λ s. s < n) os
  in-os = index-every (λ s. s < n) os 0 P.below

  bucket : (r : ℕ) → r < n → (l : List ℕ) → Every (λ s. s < n) l → keep (same_ends (spot_row ss d r)) (map (spot_row ss d) l) ≡ map (spot_row ss d) (keep (λ s. eqb (K r) (K s)) l)
  bucket r h l e = keep-map (same_ends (spot_row ss d r)) (spot_row ss d) l ∙ ap (map (spot_row ss d)) (keep_same (λ s. same_ends (spot_row ss d r) (spot_row ss d s)) (λ s. eqb (K r) (K s)) (every_map (λ s k. R.keys r s h k) e))

  -- the sides with the ends of a side, in the order and in triangle order
  buckets : (r : ℕ) → r < n → keep (same_ends (spot_row ss d r)) (map (spot_row ss d) os) ≡ keep (same_ends (spot_row ss d r)) (spots ss)
  buckets r h =
      bucket r h os in-os
      ∙ (ap (map (spot_row ss d)) (kept (K r)) ∙ (sym (bucket r h rs in-rs) ∙ ap (keep (same_ends (spot_row ss d r))) (sym (spots-rows ss d))))

  every-spot : {l : List ℕ} → Every (λ s. s < n) l → Every (λ s. Memᴰ s (spots ss)) (map (spot_row ss d) l)
  every-spot every_nil = every_nil
  every-spot (every_cons {x} h r) = every_cons (spot_in ss d (x / 3) (third (x % 3)) (tri-lt x (length ss) h)) (every-spot r)

  -- linking in that order gives the definition's links
  same-links : (t : ℕ) (i : Third) → t < length ss → beyond (link_all [] (map (spot_row ss d) os)) (spot_at ss d t i) ≡ beyond (links ss) (spot_at ss d t i)
  unfolding links
  same-links t i h =
      any_order (spots ss) (spots-apart N) (map (spot_row ss d) os) (spots ss) (every-spot in-os) (every-mem (λ s. Memᴰ s (spots ss)) (spots ss) (λ s m. m)) (spot_at ss d t i) (spot_in ss d t i h)
      (subst (λ s. keep (same_ends s) (map (spot_row ss d) os) ≡ keep (same_ends s) (spots ss)) (spot_is ss d t i) (buckets (row t i) (row_lt t (length ss) i h)))

  -- the links of the whole order
  abbrev to : ℕ → List Link
  to a = links_to rows ss d N fits os P sharp all_later (sees-all ss d os K P R) a

  from-here : (a : ℕ) → a ≤ length os → link_all [] (map (spot_row ss d) os) ≡ link_all (to a) (map (spot_row ss d) (drop a os))
  unfolding links_to link_all
  from-here zero h = refl
  from-here (suc a) h = from-here a (omega arith) ∙ ap (λ x. link_all (to a) (map (spot_row ss d) x)) (drop-cons os a 0 (omega arith))

  to_end : link_all [] (map (spot_row ss d) os) ≡ to (length os)
  unfolding link_all
  to_end = from-here (length os) (le_refl (length os)) ∙ ap (λ x. link_all (to (length os)) (map (spot_row ss d) x)) (drop_of_length-le os {i = length os} (le_refl (length os)))

  -- what the column holds after step 5, and that nothing else is stored
  pub step-five : Linked rows ss d (links ss) (up_to (length os) (turn rows (length os)) w₀) × Only (link_column ∷ []) rows w₀ (up_to (length os) (turn rows (length os)) w₀)
  step-five =
      let r = all-links rows ss d N fits os P sharp all_later (sees-all ss d os K P R) w₀ S long empty in
      (λ t i h. subst (λ o. LinkWord ss d o (cell rows link_column (row t i) (up_to (length os) (turn rows (length os)) w₀))) (ap (λ ls. beyond ls (spot_at ss d t i)) (sym to_end) ∙ same-links t i h) (r.0 t i h), r.1)
