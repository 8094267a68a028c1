-- Proof that `add_one` meets its contract. Assumes nothing.
use Prim.Native.Nat.{ℕ, ◌+◌, ◌*◌, ◌≤◌}
use native.Mathlib.Omega.{arith}
use mathlib.Core.Path.{◌≡◌, sym, ap}
use mathlib.Core.List.{[], ◌∷◌}
use lib.ListN.{length}
use Rattle.listing.specs.Listing.{pick}
use Rattle.listing.proofs.Laws.{pick_yes, pick_no, add-yes, add-no}
use Rattle.listing.proofs.add_one.Goals as goal

pub store-requires : goal.store-requires
store-requires c =
    let a = c.args in
    let e : length (pick a.want (a.x ∷ [])) ≡ 1 = ap length (pick_yes a.want a.x c.if-x-want.true) in
    (omega arith, c.requires.1, c.requires.2, c.requires.3)

pub returns-then-x-want : goal.returns-then-x-want
returns-then-x-want c =
    let a = c.args in
    let e : length (pick a.want (a.x ∷ [])) ≡ 1 = ap length (pick_yes a.want a.x c.if-x-want.true) in
    let room : 3 * a.tris + 3 ≤ a.rows = omega (arith, c.requires.0) in
    (ap (λ (n : ℕ). a.tris + n) (sym e), λ mesh eb es F. add-yes a.rows mesh a.want a.tris a.base a.slot a.x a.work.now _ c.if-x-want.true c.store.ensures.0 c.store.ensures.1 room c.requires.1 eb es F)

pub returns : goal.returns
returns c =
    let a = c.args in
    let e : length (pick a.want (a.x ∷ [])) ≡ 0 = ap length (pick_no a.want a.x c.if-x-want.false) in
    (omega arith, λ mesh eb es F. add-no a.rows mesh a.want a.tris a.x _ c.if-x-want.false)
