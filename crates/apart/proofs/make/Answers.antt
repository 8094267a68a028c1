-- Proof that `make` meets its contract. Assumes nothing.
use native.Mathlib.Omega.{arith}
use Prim.Native.Nat.{◌+◌, ◌*◌, ◌-◌}
use lib.ListN.{length-take}
use Rattle.apart.proofs.Making.{made}
use Rattle.apart.proofs.make.Goals as goal

pub slice_bounds-generate_tangent_space-end : goal.slice_bounds-generate_tangent_space-end
slice_bounds-generate_tangent_space-end c = simp length-take (omega arith)

pub slice_bounds-generate_tangent_space-end-2 : goal.slice_bounds-generate_tangent_space-end-2
slice_bounds-generate_tangent_space-end-2 c = simp length-take (omega arith)

pub returns : goal.returns
returns c =
    let a = c.args in
    made a.n a.k a.c a.threshold a.own_sizes.now a.own_numbers.now a.own_frames.now a.work.now c.requires (12 * a.n + 3 * a.c - 12 * a.n) (24 * a.n + 2 * a.c - 24 * a.n) (omega arith) (omega arith) _ _ _ c.generate_tangent_space.ensures
