-- Proof that `corner_of` meets its contract: the three words, one after the other. Assumes nothing.
use Rattle.std.proofs.Common.{rules, ◌≡◌, ℕ, suc, ◌+◌, ◌*◌, ◌≤◌, ◌<◌, Bool, true, false, cond, List, [], ◌∷◌, length, get_or, take, drop, refl, ap, sym, ◌∙◌, subst, arith, drop-cons, nat_eq}
use Rattle.std.specs.Prelude.{Option, SomeIff}
use Rattle.std.specs.List.{position}
use Rattle.table.specs.Columns.{columns, vertex_column}
use Rattle.groups.specs.Walk.{corner_of}
use Rattle.groups.proofs.corner_of.Goals as goal

by-tests : (f : ℕ → Bool) (x y z : ℕ) (a b c : Bool) → f x ≡ a → f y ≡ b → f z ≡ c → SomeIff (position f (x ∷ y ∷ z ∷ [])) (cond a 0 (cond b 1 (cond c 2 3)) < 3) (cond a 0 (cond b 1 (cond c 2 3)))
by-tests f x y z true b c p q r = rw p (omega arith, refl)
by-tests f x y z false true c p q r = rw (p, q) (omega arith, refl)
by-tests f x y z false false true p q r = rw (p, q, r) (omega arith, refl)
by-tests f x y z false false false p q r = rw (p, q, r) (λ h. omega (arith, h))

three : (p : ℕ) (w : List ℕ) → p + 3 ≤ length w → take 3 (drop p w) ≡ get_or w p 0 ∷ get_or w (suc p) 0 ∷ get_or w (suc (suc p)) 0 ∷ []
three p w h =
    ap (take 3) (drop-cons w p 0 (omega arith))
    ∙ ap (λ (l : List ℕ). get_or w p 0 ∷ take 2 l) (drop-cons w (suc p) 0 (omega arith))
    ∙ ap (λ (l : List ℕ). get_or w p 0 ∷ get_or w (suc p) 0 ∷ take 1 l) (drop-cons w (suc (suc p)) 0 (omega arith))

found : (rows t v n : ℕ) (w xs : List ℕ) (o : Option ℕ) → 3 * t + 3 ≤ rows → columns * rows ≤ length w → n ≡ 3 → xs ≡ take n (drop (vertex_column * rows + 3 * t) w) → o ≡ position (λ x. nat_eq x v) xs → SomeIff o (corner_of rows t v w < 3) (corner_of rows t v w)
unfolding corner_of
found rows t v n w xs o fits long e x h =
    let p = vertex_column * rows + 3 * t in
    let q : suc p ≡ vertex_column * rows + (3 * t + 1) = omega arith in
    let r : suc (suc p) ≡ vertex_column * rows + (3 * t + 2) = omega arith in
    subst (λ y. SomeIff y (corner_of rows t v w < 3) (corner_of rows t v w)) (sym (h ∙ ap (position (λ x. nat_eq x v)) (x ∙ ap (λ (n : ℕ). take n (drop p w)) e ∙ three p w (omega arith))))
    (by-tests (λ x. nat_eq x v) _ _ _ _ _ _ refl (ap (λ (k : ℕ). nat_eq (get_or w k 0) v) q) (ap (λ (k : ℕ). nat_eq (get_or w k 0) v) r))

pub returns : goal.returns
returns c =
    let a = c.args in
    let e : c.position.result ≡ position (λ v. nat_eq v a.vertex) c.iter.result.rest.now = search rules in
    found a.rows a.t a.vertex _ a.work.now _ _ c.requires.0 c.requires.1 (omega arith) c.iter.ensures.rest e
