-- The walk enters a triangle: what the columns decide is what the definition decides. Assumes nothing.
use Prim.Native.Nat.{ℕ, suc, ◌+◌, ◌*◌, ◌≤◌, ◌<◌}
use native.Mathlib.Nat.{add-zero, eq-or-lt_of_le}
use native.Mathlib.Omega.{arith}
use mathlib.Core.Path.{◌≡◌, refl, sym, ◌∙◌, ap, subst}
use mathlib.Core.Bool.{Bool, true, false, cond, not, ◌&&◌, ◌||◌, true≢false, false≢true, beq}
use mathlib.Core.List.{List, [], ◌∷◌, ◌++◌}
use mathlib.Core.Logic.{◌⊎◌, ⊎_elim}
use mathlib.Core.Option.{Option, none, some}
use lib.Dec.{eqb}
use lib.ListN.{length, get_or, length-append}
use lib.Seq.{get_or-set_same}
use borrow.Author.Tests.{eq-eqb, eqb-true}
use Rattle.bits.proofs.Bools.{and_left, beq-refl}
use Rattle.laws.proofs.Closed.{Between}
use Rattle.tangent.specs.Slot.{flag}
use Rattle.table.specs.Table.{cell, put, column}
use Rattle.table.specs.Columns.{vertex_column, orientation_column, group_column, begin_column}
use Rattle.definition.specs.declared.Corner.{Corner}
use Rattle.definition.specs.declared.Triangle.{Triangle}
use Rattle.lists.specs.Lists.{first}
use Rattle.definition.specs.Mesh.{Third, one, two, three, Spot, prior, corner_of}
use Rattle.definition.specs.Step4Order.{spots, welded}
use Rattle.definition.specs.Step5Links.{Link}
use Rattle.definition.specs.Step6Groups.{Mark, grouped, facing, stops, corner_in, over, going, walk}
use Rattle.definition.specs.Names.{Names}
use Rattle.laws.proofs.Laws.{mark}
use Rattle.view.specs.Rows.{num, row, spot_at}
use Rattle.view.specs.Groups.{number_of}
use Rattle.std.specs.Prelude.{Some, None}
use Rattle.groups.specs.Walk.{corner_of as corner_number, untouched, adopted, Entered, enter, stopped, marked as marked_at}
use Rattle.groups.specs.Marks.{Marked}
use Rattle.groups.proofs.Facing.{any_of, facing-open, facing-settled}
use Rattle.groups.proofs.Marking.{num-not-three, after, mark-more, vertex-kept, begin-kept, number-kept, number-new}

flags : (a b : Bool) → eqb (flag a) (flag b) ≡ beq a b
unfolding flag
flags true true = refl
flags true false = refl
flags false true = refl
flags false false = refl

nots : (f a b c : Bool) → (not (not f) && (not a && (not b && not c))) ≡ (f && not (a || (b || c)))
nots true true b c = refl
nots true false true c = refl
nots true false false c = refl
nots false a b c = refl

-- a number below the next is that number or below it
last-or-earlier : (j n : ℕ) → j ≤ n → (j ≡ n) ⊎ (j < n)
last-or-earlier j n h = eq-or-lt_of_le h

-- ---- which corner

-- the corner that the definition finds, and the number that the columns give
pub data Finds (ss : List Triangle) (d : Triangle) (c : Corner) (t : ℕ) : Option Spot → ℕ → Type 0 where
  finds-none : Finds ss d c t none 3
  finds-at : (i : Third) → welded c (corner_of (spot_at ss d t i)) ≡ true → Finds ss d c t (some (spot_at ss d t i)) (num i)

pub find : (rows : ℕ) (ss : List Triangle) (d : Triangle) (c : Corner) (t v : ℕ) (w : List ℕ) → ((i : Third) → eqb (cell rows vertex_column (row t i) w) v ≡ welded c (corner_of (spot_at ss d t i))) → Finds ss d c t (corner_in c (get_or ss t d)) (corner_number rows t v w)
unfolding corner_in first spots corner_number num
find rows ss d c t v w E = subst (Finds ss d c t (corner_in c (get_or ss t d))) (sym said) (pick (b one) refl (b two) refl (b three) refl)
  where
    b : Third → Bool
    b i = welded c (corner_of (spot_at ss d t i))

    first-row : eqb (cell rows vertex_column (3 * t) w) v ≡ b one
    first-row = ap (λ p. eqb (cell rows vertex_column p w) v) (sym (add-zero (3 * t))) ∙ E one

    said : corner_number rows t v w ≡ cond (b one) 0 (cond (b two) 1 (cond (b three) 2 3))
    said = λ k. cond (first-row k) 0 (cond (E two k) 1 (cond (E three k) 2 3))

    pick : (x : Bool) → b one ≡ x → (y : Bool) → b two ≡ y → (z : Bool) → b three ≡ z → Finds ss d c t (cond x (some (spot_at ss d t one)) (cond y (some (spot_at ss d t two)) (cond z (some (spot_at ss d t three)) none))) (cond x 0 (cond y 1 (cond z 2 3)))
    pick true p y q z r = finds-at one p
    pick false p true q z r = finds-at two q
    pick false p false q true r = finds-at three r
    pick false p false q false r = finds-none

module _ (rows : ℕ) (ss : List Triangle) (d : Triangle) (ls : List Link) (B : Between ss ls) (N : Names ss) (fits : 3 * length ss ≤ rows) where
  -- ---- orientation

  module _ (w₀ : List ℕ) (ms : List Mark) (gs : List Spot) (w : List ℕ) (n : ℕ) (R : Marked rows ss d ls w₀ ms gs w n) (t : ℕ) (h : t < length ss) where
    untouched-is : untouched rows t w ≡ ((get_or ss t d).any && not (any_of ms (get_or ss t d)))
    unfolding untouched any_of num
    untouched-is =
        (λ k. not (R.fixed.any t h k) && (first-row k && (R.group t two h k && R.group t three h k)))
        ∙ nots (get_or ss t d).any (grouped ms (spot_at ss d t one)) (grouped ms (spot_at ss d t two)) (grouped ms (spot_at ss d t three))
      where
        first-row : eqb (cell rows group_column (3 * t) w) 0 ≡ not (grouped ms (spot_at ss d t one))
        first-row = ap (λ p. eqb (cell rows group_column p w) 0) (sym (add-zero (3 * t))) ∙ R.group t one h

    adopted-same : (o : ℕ) → ((get_or ss t d).any && not (any_of ms (get_or ss t d))) ≡ false → adopted rows t o w ≡ w
    unfolding adopted
    adopted-same o e = ap (λ b. cond b (put rows orientation_column t o w) w) (untouched-is ∙ e)

    and-not : (a b : Bool) → (a && not b) ≡ true → b ≡ false
    and-not true true e = absurd (false≢true e)
    and-not true false e = refl
    and-not false b e = absurd (false≢true e)

    -- the word says after adoption what the definition says
    pub agrees : (v : Bool) → eqb (cell rows orientation_column t (adopted rows t (flag v) w)) (flag v) ≡ beq (facing ms (get_or ss t d) v) v
    unfolding adopted
    agrees v = step ((get_or ss t d).any && not (any_of ms (get_or ss t d))) refl
      where
        step : (b : Bool) → ((get_or ss t d).any && not (any_of ms (get_or ss t d))) ≡ b → eqb (cell rows orientation_column t (adopted rows t (flag v) w)) (flag v) ≡ beq (facing ms (get_or ss t d) v) v
        step true e =
            let l = R.long in
            eq-eqb (cell rows orientation_column t (adopted rows t (flag v) w)) (flag v) (ap (λ u. cell rows orientation_column t u) (ap (λ b. cond b (put rows orientation_column t (flag v) w) w) (untouched-is ∙ e)) ∙ get_or-set_same w (orientation_column * rows + t) (flag v) 0 (omega arith))
            ∙ sym (ap (λ b. beq b v) (facing-open ms (get_or ss t d) v (and_left (get_or ss t d).any (not (any_of ms (get_or ss t d))) e) (and-not (get_or ss t d).any (any_of ms (get_or ss t d)) e)) ∙ beq-refl v)
        step false e =
            let F = R.faces t h in
            ap (λ u. eqb (cell rows orientation_column t u) (flag v)) (adopted-same (flag v) e)
            ∙ (ap (λ x. eqb x (flag v)) F.word
            ∙ (flags F.way v ∙ sym (ap (λ b. beq b v) (facing-settled ms (get_or ss t d) v F.way e ∙ F.is))))

    -- where the triangle has the other orientation nothing is adopted
    pub not-adopted : (v : Bool) → beq (facing ms (get_or ss t d) v) v ≡ false → adopted rows t (flag v) w ≡ w
    not-adopted v e = step ((get_or ss t d).any && not (any_of ms (get_or ss t d))) refl
      where
        step : (b : Bool) → ((get_or ss t d).any && not (any_of ms (get_or ss t d))) ≡ b → adopted rows t (flag v) w ≡ w
        step true p = absurd (true≢false (sym (ap (λ b. beq b v) (facing-open ms (get_or ss t d) v (and_left (get_or ss t d).any (not (any_of ms (get_or ss t d))) p) (and-not (get_or ss t d).any (any_of ms (get_or ss t d)) p)) ∙ beq-refl v) ∙ e))
        step false p = adopted-same (flag v) p

  -- ---- entering

  module _ (w₀ : List ℕ) (gs : List Spot) (tg : ℕ) (ig : Third) (hg : tg < length ss) (q G v : ℕ) (last : length gs ≡ q + 1) (Ge : G ≡ q + 1) (ge : spot_at ss d tg ig ≡ get_or gs q (spot_at ss d 0 one)) (n₀ : ℕ) (N₀ : ℕ → ℕ) (B₀ : List ℕ) where
    abbrev pub g : Spot
    g = spot_at ss d tg ig

    abbrev pub way : Bool
    way = (get_or ss tg d).orientation

    -- what holds in a walk: the columns are as the marks say, and v is the start's vertex; the numbers of the n₀ members before it stand, those met since are of the new group, and where groups begin stands
    pub record Going (ms : List Mark) (w : List ℕ) (n : ℕ) : Type 0 where
      pub marked : Marked rows ss d ls w₀ ms gs w n
      pub vertex : cell rows vertex_column (row tg ig) w ≡ v
      pub grown : n₀ ≤ length ms
      pub past : (j : ℕ) → j < n₀ → number_of rows w j ≡ N₀ j
      pub fresh : (j : ℕ) → n₀ ≤ j → j < length ms → number_of rows w j ≡ G
      pub begins : column rows begin_column w ≡ B₀

    abbrev pub W : ℕ → List Mark → Spot → List Mark
    W m ms s = walk m ls g way ms s

    pub data Enters (m : ℕ) (ms : List Mark) (n t : ℕ) (o : Option Spot) (e : Entered) : Type 0 where
      halts : going (W (suc m)) ms o ≡ ms → e.entry ≡ None → Going ms e.work n → Enters m ms n t o e
      goes : (i : Third) → going (W (suc m)) ms o ≡ going (W m) (going (W m) (ms ++ (mark g (spot_at ss d t i) ∷ [])) (over ls (corner_of g) (prior (spot_at ss d t i)))) (over ls (corner_of g) (spot_at ss d t i)) → e.entry ≡ Some (num i) → Going (ms ++ (mark g (spot_at ss d t i) ∷ [])) e.work (n + 1) → Enters m ms n t o e

    module _ (m : ℕ) (ms : List Mark) (w : List ℕ) (n : ℕ) (R : Going ms w n) (t : ℕ) (h : t < length ss) where
      abbrev o : ℕ
      o = flag way

      -- the tests of `enter`, given
      abbrev tests : ℕ → Bool → Bool → Bool → Entered
      tests x a b c = cond a (stopped w) (cond b (cond c (marked_at rows t G n x (adopted rows t o w)) (stopped (adopted rows t o w))) (stopped w))

      stop-at : (s : Spot) → stops ms way s ≡ true → going (W (suc m)) ms (some s) ≡ ms
      unfolding going walk
      stop-at s e = rw e

      go-at : (s : Spot) → stops ms way s ≡ false → going (W (suc m)) ms (some s) ≡ going (W m) (going (W m) (ms ++ (mark g s ∷ [])) (over ls (corner_of g) (prior s))) (over ls (corner_of g) s)
      unfolding going walk
      go-at s e = rw e

      stops-is : (i : Third) (a b : Bool) → grouped ms (spot_at ss d t i) ≡ a → beq (facing ms (get_or ss t d) way) way ≡ b → stops ms way (spot_at ss d t i) ≡ (a || not b)
      unfolding stops
      stops-is i a b p r = λ k. p k || not (r k)

      marks : (i : Third) → grouped ms (spot_at ss d t i) ≡ false → beq (facing ms (get_or ss t d) way) way ≡ true → Enters m ms n t (some (spot_at ss d t i)) (tests (num i) false true true)
      marks i p r =
          let s = stops-is i false true p r in
          let z = eqb-true (cell rows group_column (row t i) w) 0 (R.marked.group t i h ∙ ap not p) in
          let a = eqb-true (cell rows orientation_column t (adopted rows t o w)) o (agrees w₀ ms gs w n R.marked t h way ∙ r) in
          let more = length-append ms (mark g (spot_at ss d t i) ∷ []) in
          goes i (go-at (spot_at ss d t i) s) refl
          record {
            marked = mark-more rows ss d ls B N fits w₀ gs g q G o last Ge ge refl ms w n R.marked t i h s z a;
            vertex = vertex-kept rows ss d ls B N fits w₀ gs g q G o last Ge ge refl ms w n R.marked t i h s z a tg ig hg ∙ R.vertex;
            grown = let k = R.grown in omega arith;
            past = λ j l. number-kept rows ss d ls B N fits w₀ gs g q G o last Ge ge refl ms w n R.marked t i h s z a j (let k = R.grown in omega arith) ∙ R.past j l;
            fresh = λ j l k. ⊎_elim
                (λ e. ap (number_of rows (after rows t o n G i w)) e ∙ number-new rows ss d ls B N fits w₀ gs g q G o last Ge ge refl ms w n R.marked t i h s z a)
                (λ e. number-kept rows ss d ls B N fits w₀ gs g q G o last Ge ge refl ms w n R.marked t i h s z a j e ∙ R.fresh j l e)
                (last-or-earlier j (length ms) (omega arith));
            begins = begin-kept rows ss d ls B N fits w₀ gs g q G o last Ge ge refl ms w n R.marked t i h s z a ∙ R.begins;
          }

      other_way : (i : Third) → grouped ms (spot_at ss d t i) ≡ false → beq (facing ms (get_or ss t d) way) way ≡ false → Enters m ms n t (some (spot_at ss d t i)) (tests (num i) false true false)
      other_way i p r = halts (stop-at (spot_at ss d t i) (stops-is i false false p r)) refl (subst (λ u. Going ms u n) (sym (not-adopted w₀ ms gs w n R.marked t h way r)) R)

      in_group : (i : Third) (c b : Bool) → grouped ms (spot_at ss d t i) ≡ true → beq (facing ms (get_or ss t d) way) way ≡ b → Enters m ms n t (some (spot_at ss d t i)) (tests (num i) false false c)
      in_group i c b p r = halts (stop-at (spot_at ss d t i) (stops-is i true b p r)) refl R

      by_tests : (i : Third) (a : Bool) → grouped ms (spot_at ss d t i) ≡ a → (b : Bool) → beq (facing ms (get_or ss t d) way) way ≡ b → Enters m ms n t (some (spot_at ss d t i)) (tests (num i) false (not a) b)
      by_tests i true p b r = in_group i b b p r
      by_tests i false p true r = marks i p r
      by_tests i false p false r = other_way i p r

      by-finds : {f : Option Spot} {x : ℕ} → Finds ss d (corner_of g) t f x → Enters m ms n t f (tests x (eqb x 3) (eqb (cell rows group_column (3 * t + x) w) 0) (eqb (cell rows orientation_column t (adopted rows t o w)) o))
      unfolding going
      by-finds finds-none = halts refl refl R
      by-finds (finds-at i e) =
          let E : (a b c : Bool) → Type 0 = λ a b c. Enters m ms n t (some (spot_at ss d t i)) (tests (num i) a b c) in
          let r = by_tests i (grouped ms (spot_at ss d t i)) refl (beq (facing ms (get_or ss t d) way) way) refl in
          subst (λ a. E a (eqb (cell rows group_column (row t i) w) 0) (eqb (cell rows orientation_column t (adopted rows t o w)) o)) (sym (num-not-three i))
          (subst (λ b. E false b (eqb (cell rows orientation_column t (adopted rows t o w)) o)) (sym (R.marked.group t i h))
          (subst (λ c. E false (not (grouped ms (spot_at ss d t i))) c) (sym (agrees w₀ ms gs w n R.marked t h way)) r))

      pub enters : ((i : Third) → eqb (cell rows vertex_column (row t i) w) v ≡ welded (corner_of g) (corner_of (spot_at ss d t i))) → Enters m ms n t (corner_in (corner_of g) (get_or ss t d)) (enter rows t G v o n w)
      unfolding enter
      enters E = by-finds (find rows ss d (corner_of g) t v w E)
