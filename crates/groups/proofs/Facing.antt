-- What one mark more does to the definition's tests, and when a triangle's orientation is open. Assumes nothing.
use mathlib.Core.Path.{◌≡◌, refl, ◌∙◌, ap}
use mathlib.Core.Bool.{Bool, true, false, cond, not, ◌&&◌, ◌||◌, true≢false, false≢true}
use mathlib.Core.List.{List, [], ◌∷◌, ◌++◌}
use mathlib.Core.Option.{none, some}
use Rattle.definition.specs.declared.Triangle.{Triangle}
use Rattle.lists.specs.Lists.{first, has}
use Rattle.definition.specs.Mesh.{Third, one, two, three, Spot, same_third, same_triangle, same_spot}
use Rattle.definition.specs.Step6Groups.{Mark, grouped, way_of, touched, facing}

-- ---- lists

or_assoc : (a b c : Bool) → (a || (b || c)) ≡ ((a || b) || c)
or_assoc true b c = refl
or_assoc false b c = refl

or-false : (a : Bool) → (a || false) ≡ a
or-false true = refl
or-false false = refl

pub has-snoc : {X : Type 0} (p : X → Bool) (l : List X) (x : X) → has p (l ++ (x ∷ [])) ≡ (has p l || p x)
unfolding has
has-snoc p [] x = or-false (p x)
has-snoc p (y ∷ l) x = ap (λ b. p y || b) (has-snoc p l x) ∙ or_assoc (p y) (has p l) (p x)

pub grouped-snoc : (ms : List Mark) (m : Mark) (s : Spot) → grouped (ms ++ (m ∷ [])) s ≡ (grouped ms s || same_spot m.spot s)
unfolding grouped
grouped-snoc ms m s = has-snoc (λ k. same_spot k.spot s) ms m

pub first-none : {X : Type 0} (p : X → Bool) (l : List X) → has p l ≡ false → first p l ≡ none
unfolding has first
first-none p [] e = refl
first-none p (x ∷ l) e = go (p x) e (λ h. first-none p l h)
  where
    go : (b : Bool) → (b || has p l) ≡ false → (has p l ≡ false → first p l ≡ none) → cond b (some x) (first p l) ≡ none
    go true h r = absurd (true≢false h)
    go false h r = r h

pub first_some : {X : Type 0} (p : X → Bool) (l : List X) → has p l ≡ true → (x : X) × (first p l ≡ some x)
unfolding has first
first_some p [] e = absurd (false≢true e)
first_some {X} p (x ∷ l) e = go (p x) e (λ h. first_some p l h)
  where
    go : (b : Bool) → (b || has p l) ≡ true → (has p l ≡ true → (y : X) × (first p l ≡ some y)) → (y : X) × (cond b (some x) (first p l) ≡ some y)
    go true h r = (x, refl)
    go false h r = r h

-- one more that does not pass
pub first-snoc : {X : Type 0} (p : X → Bool) (l : List X) (x : X) → p x ≡ false → first p (l ++ (x ∷ [])) ≡ first p l
unfolding first
first-snoc p [] x e = rw e
first-snoc p (y ∷ l) x e = ap (λ o. cond (p y) (some y) o) (first-snoc p l x e)

-- ---- a triangle is touched where one of its corners is grouped

abbrev pub spot_of : Triangle → Third → Spot
spot_of t i = record { tri = t; at = i }

unfoldable pub any_of : List Mark → Triangle → Bool
any_of ms t = grouped ms (spot_of t one) || (grouped ms (spot_of t two) || grouped ms (spot_of t three))

pub any-third : (b : Bool) (i : Third) → b ≡ ((b && same_third i one) || ((b && same_third i two) || (b && same_third i three)))
unfolding same_third
any-third true one = refl
any-third true two = refl
any-third true three = refl
any-third false i = refl

pub three-or : (a b c x y z : Bool) → ((a || (b || c)) || (x || (y || z))) ≡ ((a || x) || ((b || y) || (c || z)))
three-or true b c x y z = refl
three-or false true b x y z = go x y z
  where
    go : (x y z : Bool) → true ≡ (x || true)
    go true y z = refl
    go false y z = refl
three-or false false true x y z = go x y
  where
    go : (x y : Bool) → true ≡ (x || (y || true))
    go true y = refl
    go false true = refl
    go false false = refl
three-or false false false x y z = refl

pub touched-any : (ms : List Mark) (t : Triangle) → has (λ m. same_triangle m.spot.tri t) ms ≡ any_of ms t
unfolding has grouped any_of same_spot
touched-any [] t = refl
touched-any (m ∷ ms) t =
    ap (λ b. b || has (λ k. same_triangle k.spot.tri t) ms) (any-third (same_triangle m.spot.tri t) m.spot.at)
    ∙ (ap (λ b. x || b) (touched-any ms t)
    ∙ three-or (same_spot m.spot (spot_of t one)) (same_spot m.spot (spot_of t two)) (same_spot m.spot (spot_of t three)) (grouped ms (spot_of t one)) (grouped ms (spot_of t two)) (grouped ms (spot_of t three)))
  where
    x : Bool
    x = let b = same_triangle m.spot.tri t in let i = m.spot.at in (b && same_third i one) || ((b && same_third i two) || (b && same_third i three))

-- a `group_with_any` triangle that none has touched has whatever orientation is asked
pub facing-open : (ms : List Mark) (t : Triangle) (w : Bool) → t.any ≡ true → any_of ms t ≡ false → facing ms t w ≡ w
unfolding facing touched way_of
facing-open ms t w f e = rw (first-none (λ m. same_triangle m.spot.tri t) ms (touched-any ms t ∙ e), f)

-- any other has one
pub facing-settled : (ms : List Mark) (t : Triangle) (v w : Bool) → (t.any && not (any_of ms t)) ≡ false → facing ms t v ≡ facing ms t w
unfolding facing touched way_of
facing-settled ms t v w e = go t.any (any_of ms t) refl e
  where
    way : any_of ms t ≡ true → way_of v (touched ms t) ≡ way_of w (touched ms t)
    way q = let r = first_some (λ m. same_triangle m.spot.tri t) ms (touched-any ms t ∙ q) in rw r.1

    go : (a b : Bool) → any_of ms t ≡ b → (a && not b) ≡ false → cond a (way_of v (touched ms t)) t.orientation ≡ cond a (way_of w (touched ms t)) t.orientation
    go true true q h = way q
    go true false q h = absurd (true≢false h)
    go false b q h = refl

-- a mark on another triangle changes nothing
pub facing-other : (ms : List Mark) (m : Mark) (t : Triangle) (w : Bool) → same_triangle m.spot.tri t ≡ false → facing (ms ++ (m ∷ [])) t w ≡ facing ms t w
unfolding facing touched
facing-other ms m t w e = rw (first-snoc (λ k. same_triangle k.spot.tri t) ms m e)
