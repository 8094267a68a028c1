-- The code's tests as laws over plain numbers. Assumes nothing.
use Prim.Native.Nat.{ℕ, ◌+◌, ◌≤◌, ◌<◌, min}
use native.Mathlib.Numerals.{add-one}
use native.Mathlib.Omega.{arith}
use mathlib.Core.Path.{◌≡◌, sym, ap, ◌∙◌, subst}
use mathlib.Core.Bool.{Bool, cond}
use mathlib.Core.List.{List}
use borrow.Author.Tests.{lt-ltb, le-ltb}
use Rattle.table.specs.Table.{cell}
use Rattle.table.specs.Columns.{begin_column}
use Rattle.sort.specs.Sort.{SortedPart}
use Rattle.members.specs.Members.{begin_of, Sorts, idle, sorts, Sorting, next}

-- where a group begins
pub begin-in : (rows groups count : ℕ) (w : List ℕ) (q x : ℕ) → q < groups → x ≡ min (cell rows begin_column q w) count → (x ≡ begin_of rows groups count w q) × (x ≤ count)
unfolding begin_of
begin-in rows groups count w q x h e = (e ∙ sym (ap (λ (b : Bool). cond b (min (cell rows begin_column q w) count) count) (lt-ltb q groups h)), omega arith)

-- where all end
pub begin-out : (rows groups count : ℕ) (w : List ℕ) (q : ℕ) → groups ≤ q → (count ≡ begin_of rows groups count w q) × (count ≤ count)
unfolding begin_of
begin-out rows groups count w q h = (sym (ap (λ (b : Bool). cond b (min (cell rows begin_column q w) count) count) (le-ltb q groups h)), omega arith)

-- where members begin, by the number of the group
pub begin-by : (rows groups count : ℕ) (w : List ℕ) (k q r : ℕ) → r ≡ begin_of rows groups count w k → k ≡ q → r ≡ begin_of rows groups count w q
begin-by rows groups count w k q r e h = e ∙ ap (begin_of rows groups count w) h

-- nothing to sort
pub sorts-idle : (rows f t F T : ℕ) (w : List ℕ) → f ≡ F → t ≡ T → t ≤ f → Sorts rows F T w w
sorts-idle rows f t F T w p q h = idle (omega arith)

-- a part is sorted
pub sorts-part : (rows f t F T : ℕ) (w u : List ℕ) → f ≡ F → t ≡ T → f < t → SortedPart rows f t w u → Sorts rows F T w u
sorts-part rows f t F T w u p q h S = sorts (omega arith) (subst (λ (x : ℕ). SortedPart rows F x w u) q (subst (λ (x : ℕ). SortedPart rows x t w u) p S))

-- one group more
pub more-sorting : (rows groups count : ℕ) (w u v : List ℕ) (q : ℕ) → Sorting rows groups count w q u → Sorts rows (begin_of rows groups count u q) (begin_of rows groups count u (q + 1)) u v → Sorting rows groups count w (q + 1) v
more-sorting rows groups count w u v q S T =
    subst (λ (k : ℕ). Sorting rows groups count w k v) (sym (add-one q)) (next S (subst (λ (k : ℕ). Sorts rows (begin_of rows groups count u q) (begin_of rows groups count u k) u v) (add-one q) T))
