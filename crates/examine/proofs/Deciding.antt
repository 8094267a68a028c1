-- The examination stage by stage. Assumes nothing.
use Prim.Native.Nat.{ℕ, zero, suc, ◌*◌, ◌≤◌, ◌<◌}
use native.Mathlib.Omega.{arith}
use mathlib.Core.Path.{◌≡◌, refl, ap}
use Rattle.std.proofs.Common.{Result, Ok, Err, MatchResult}
use mathlib.Core.List.{List}
use lib.ListN.{length}
use Rattle.table.specs.Table.{cell}
use Rattle.table.specs.Columns.{orientation_column, any_column, vertex_column}
use Rattle.neighbors.specs.Sides.{step_columns}
use Rattle.view.specs.Frame.{Only}
use Rattle.asked.specs.Lowest.{Clear, objected}
use Rattle.asked.specs.Links.{Equal}
use Rattle.asked.specs.Objections.{Applies}
use Rattle.asked.proofs.Fits.{Long, clear-one, clear-long, not-misfit}
use Rattle.asked.proofs.Stages.{clear-more, stops, passes, stage-like, stage-verdict, clear-like}
use Rattle.examiner.specs.OnLinks.{OnLinks}
use Rattle.examiner.specs.declared.Fault.TheVariants.{Misfit}
use Rattle.examiner.specs.declared.Objection.{Objection}
use Rattle.examiner.specs.Said.{number_of, number_in, place_in}
use Rattle.fellows.specs.Fellows.{applies_here, OnGroups}
use Rattle.fellows.proofs.Stages.{applies-kept, applies-back}
use Rattle.examine.specs.Deciding.{OnLengths, Overall}

-- ---- objection 1

module _ (n : ℕ) (L G O : List ℕ) (number place : ℕ) where
  abbrev A : (ℕ → ℕ) → (ℕ → ℕ) → (ℕ → ℕ) → ℕ → ℕ → Type 0
  A vertex any way = Applies n (Equal vertex) any way L G O

  pub on-links : (length L ≡ 3 * n → ⊥) → number ≡ 1 → place ≡ 0 → OnLengths n L G O number place
  on-links ne e f = record { stage = λ v a w. stops (A v a w) 13 1 2 1 0 number place e f (omega arith) (λ c. objected 1 0 (omega arith) ne c (λ q l x. omega arith)) }

  pub on-groups : length L ≡ 3 * n → (length G ≡ 3 * n → ⊥) → number ≡ 1 → place ≡ 1 → OnLengths n L G O number place
  on-groups i ne e f = record { stage = λ v a w. stops (A v a w) 13 1 2 1 1 number place e f (omega arith) (λ c. objected 1 1 (omega arith) ne c (first v a w)) }
    where
      first : (v a w : ℕ → ℕ) (q : ℕ) → q < 1 → A v a w 1 q → ⊥
      first v a w zero l x = x i
      first v a w (suc q) l x = omega arith

  pub on-ways : length L ≡ 3 * n → length G ≡ 3 * n → (length O ≡ n → ⊥) → number ≡ 1 → place ≡ 2 → OnLengths n L G O number place
  on-ways i j ne e f = record { stage = λ v a w. stops (A v a w) 13 1 2 1 2 number place e f (omega arith) (λ c. objected 1 2 (omega arith) ne c (first v a w)) }
    where
      first : (v a w : ℕ → ℕ) (q : ℕ) → q < 2 → A v a w 1 q → ⊥
      first v a w zero l x = x i
      first v a w (suc zero) l x = x j
      first v a w (suc (suc q)) l x = omega arith

  pub on_none : length L ≡ 3 * n → length G ≡ 3 * n → length O ≡ n → number ≡ 0 → place ≡ 0 → OnLengths n L G O number place
  on_none i j k e f =
      record { stage = λ v a w. passes (A v a w) 13 1 2 number place e f (λ c. clear-more (A v a w) 1 c (λ p x. not-misfit n (Equal v) a w L G O (record { links = i; groups = j; ways = k }) p x)) }

-- what is said of the third list, where the first two have their lengths
pub on-last : (n : ℕ) (L G O : List ℕ) (said : Result Unit Objection) → length L ≡ 3 * n → length G ≡ 3 * n → MatchResult said (λ _. length O ≡ n) (λ o. (o.fault ≡ Misfit) × (o.place ≡ 2) × (length O ≡ n → ⊥)) → OnLengths n L G O (number_in said) (place_in said)
on-last n L G O (Ok x) i j k = on_none n L G O 0 0 i j k refl refl
on-last n L G O (Err o) i j k = on-ways n L G O (number_of o.fault) o.place i j k.2 (ap number_of k.0) k.1

-- ---- all of them

module _ (rows n : ℕ) (w L G O : List ℕ) where
  abbrev vertex : ℕ → ℕ
  vertex x = cell rows vertex_column x w

  abbrev any : ℕ → ℕ
  any t = cell rows any_column t w

  abbrev way : ℕ → ℕ
  way t = cell rows orientation_column t w

  abbrev T : ℕ → ℕ → Type 0
  T = applies_here rows n w L G O

  one : Clear T 1
  one = clear-one n (Equal vertex) any way L G O

  pub stop-lengths : (number place : ℕ) → OnLengths n L G O number place → (number ≡ 0 → ⊥) → Overall rows n w L G O number place
  stop-lengths number place S ne = record { verdict = (S.stage vertex any way).stopped ne one; connected = λ e. absurd (ne e) }

  module _ (a p : ℕ) (S : OnLengths n L G O a p) (z : a ≡ 0) where
    pub long-lists : Long n (Equal vertex) any way L G O
    long-lists = clear-long n (Equal vertex) any way L G O 2 (omega arith) ((S.stage vertex any way).passed z one)

    pub stop-links : (number place : ℕ) → OnLinks n vertex L number place → (number ≡ 0 → ⊥) → Overall rows n w L G O number place
    stop-links number place K ne = record { verdict = (K.stage any way G O).stopped ne ((S.stage vertex any way).passed z one); connected = λ e. absurd (ne e) }

    module _ (b q : ℕ) (K : OnLinks n vertex L b q) (o : b ≡ 0) (u : List ℕ) (fits : 3 * n ≤ rows) (only : Only step_columns rows w u) where
      six : Clear T 6
      six = (K.stage any way G O).passed o ((S.stage vertex any way).passed z one)

      pub links-clear : Clear (applies_here rows n u L G O) 6
      links-clear = clear-like T (applies_here rows n u L G O) 13 (applies-kept step_columns rows n w u L G O refl refl refl fits only) (applies-back step_columns rows n w u L G O refl refl refl fits only) 6 (omega arith) six

      pub end-groups : (number place : ℕ) → OnGroups rows n u L G O number place → Overall rows n w L G O number place
      end-groups number place R =
          record {
            verdict = stage-verdict T 13 6 number place (stage-like (applies_here rows n u L G O) T 13 (applies-back step_columns rows n w u L G O refl refl refl fits only) (applies-kept step_columns rows n w u L G O refl refl refl fits only) 6 13 number place (omega arith) (omega arith) R.stage) six;
            connected = R.connected;
          }
