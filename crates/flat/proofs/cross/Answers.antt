-- Proof that `cross` meets its contract. Assumes nothing.
use Prim.Native.Nat.{ℕ, ◌*◌, ◌<◌}
use native.Mathlib.Omega.{arith}
use mathlib.Core.Path.{sym, ◌∙◌, subst}
use Rattle.std.specs.Prelude.{Option, IfSome}
use Rattle.flat.proofs.Crossing.{crosses-none, crosses-to}
use Rattle.flat.proofs.cross.Goals as goal

pub link_at-requires : goal.link_at-requires
link_at-requires c =
    let R = c.requires.1 in
    (c.requires.0, R.fits, R.long, R.links c.args.side c.requires.0)

pub returns-in_default : goal.returns-in_default
returns-in_default c =
    crosses-none _ _ _ _ _ _ _ _ _ c.requires.1 c.requires.2 _ (omega (arith, c.requires.0, c.requires.1.fits)) (sym c.in_default.is ∙ c.link_at.ensures.0) c.back.ensures

pub go_to-requires : goal.go_to-requires
go_to-requires c =
    let a = c.args in
    let below : c.in-Some.u < 3 * a.tris = subst (λ (o : Option ℕ). IfSome o (λ u. u < 3 * a.tris)) c.in-Some.is c.link_at.ensures.1 in
    (omega arith, c.requires.1, c.requires.2)

pub returns : goal.returns
returns c =
    crosses-to _ _ _ _ _ _ _ _ _ c.requires.1 c.requires.2 _ _ _ (omega (arith, c.requires.0, c.requires.1.fits)) (sym c.in-Some.is ∙ c.link_at.ensures.0) c.go_to.ensures
