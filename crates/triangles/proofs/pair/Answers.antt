-- `triangles::pair` meets its contract. Assumes nothing.
use Rattle.std.proofs.Common.{◌≡◌, Bool, true, false, not, refl, sym, ◌∙◌, [], ◌∷◌}
use Rattle.std.proofs.Math.Bool.{beq, xor}
use Rattle.definition.specs.declared.Triangle.{Triangle}
use Rattle.definition.specs.Step2Degenerate.{exactly_one}
use Rattle.definition.specs.Step3Tangents.{quad_way}
use Rattle.definition.specs.Triangles.{settled, agree, pair}
use Rattle.triangles.proofs.pair.Goals as goal

-- exactly one: not both alike
one : (a b : Bool) → not (beq a b) ≡ exactly_one a b
unfolding exactly_one xor
one true true = refl
one true false = refl
one false true = refl
one false false = refl

-- both ways, by whether the two agree
module _ (s t a b : Triangle) (m : Bool) (n : m ≡ exactly_one s.degenerate t.degenerate) where
  kept : agree s t ≡ true → a ≡ settled s m s.orientation → b ≡ settled t m t.orientation → a ∷ b ∷ [] ≡ pair s t
  unfolding pair
  kept e f g = rw (e, f, g, n)

  turned : (w : Bool) → agree s t ≡ false → w ≡ quad_way s t → a ≡ settled s m w → b ≡ settled t m w → a ∷ b ∷ [] ≡ pair s t
  unfolding pair
  turned w e q f g = rw (e, f, g, n, q)

pub returns-then-agree : goal.returns-then-agree
returns-then-agree c = kept c.args.s c.args.t _ _ _ (one c.args.s.degenerate c.args.t.degenerate) (sym c.agree.ensures ∙ c.if-agree.true) c.settled.ensures c.settled-then-agree.ensures

pub returns : goal.returns
returns c = turned c.args.s c.args.t _ _ _ (one c.args.s.degenerate c.args.t.degenerate) _ (sym c.agree.ensures ∙ c.if-agree.false) c.quad_way-way.ensures c.settled-2.ensures c.settled-3.ensures
