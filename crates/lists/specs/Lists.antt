-- Lists picked and run through by tests. Definitions only.
use Rattle.std.specs.Prelude.{Bool, false, cond, ◌||◌, List, [], ◌∷◌}
use Rattle.std.proofs.Math.Option.{Option, none, some}

module _ {A : Type 0} where
  -- those that pass a test, in order
  unfoldable pub keep : (A → Bool) → List A → List A
  keep p [] = []
  keep p (x ∷ l) = let r = keep p l in cond (p x) (x ∷ r) r

  -- the first that passes a test, if one does
  unfoldable pub first : (A → Bool) → List A → Option A
  first p [] = none
  first p (x ∷ l) = let r = first p l in cond (p x) (some x) r

  -- whether one passes a test
  unfoldable pub has : (A → Bool) → List A → Bool
  has p [] = false
  has p (x ∷ l) = let r = has p l in p x || r

  -- f applied to b and the first, then to that and the second, and so on
  unfoldable pub run : {B : Type 0} → (B → A → B) → B → List A → B
  run f b [] = b
  run f b (x ∷ l) = run f (f b x) l
