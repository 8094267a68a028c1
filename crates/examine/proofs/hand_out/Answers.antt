-- `examine::hand_out` meets its contract. Assumes nothing.
use native.Mathlib.Omega.{arith}
use mathlib.Core.Path.{refl}
use Rattle.examine.proofs.Accepted.{known}
use Rattle.examine.proofs.Columns.{grouped-fit, cleared}
use Rattle.examine.proofs.hand_out.Goals as goal

pub group_mesh-counts-requires : goal.group_mesh-counts-requires
group_mesh-counts-requires c = ((known c.args.mesh.now _ c.requires.0).few, omega (arith, (known c.args.mesh.now _ c.requires.0).work-fits))

pub overflow_mul-n : goal.overflow_mul-n
overflow_mul-n c =
    let n = grouped-fit _ _ _ _ c.group_mesh-counts.ensures in
    omega (arith, n, (known c.args.mesh.now _ c.requires.0).few)

pub copy_out-requires : goal.copy_out-requires
copy_out-requires c =
    let n = grouped-fit _ _ _ _ c.group_mesh-counts.ensures in
    (n, omega arith, omega (arith, (known c.args.mesh.now _ c.requires.0).work-fits, c.group_mesh-counts.ensures.only.size), omega (arith, n, c.requires.1))

pub overflow_mul-n-2 : goal.overflow_mul-n-2
overflow_mul-n-2 c =
    let n = grouped-fit _ _ _ _ c.group_mesh-counts.ensures in
    omega (arith, n, (known c.args.mesh.now _ c.requires.0).few)

pub copy_out-requires-2 : goal.copy_out-requires-2
copy_out-requires-2 c =
    let n = grouped-fit _ _ _ _ c.group_mesh-counts.ensures in
    (n, omega arith, omega (arith, (known c.args.mesh.now _ c.requires.0).work-fits, c.group_mesh-counts.ensures.only.size), omega (arith, n, c.requires.2))

pub copy_out-requires-3 : goal.copy_out-requires-3
copy_out-requires-3 c =
    let n = grouped-fit _ _ _ _ c.group_mesh-counts.ensures in
    (omega (arith, n), omega arith, omega (arith, (known c.args.mesh.now _ c.requires.0).work-fits, c.group_mesh-counts.ensures.only.size), omega (arith, n, c.requires.3))

pub overflow_mul-mesh : goal.overflow_mul-mesh
overflow_mul-mesh c = omega (arith, (known c.args.mesh.now _ c.requires.0).few)

pub clear_first-requires : goal.clear_first-requires
clear_first-requires c =
    let n = grouped-fit _ _ _ _ c.group_mesh-counts.ensures in
    omega (arith, (known c.args.mesh.now _ c.requires.0).work-fits, c.group_mesh-counts.ensures.only.size)

pub overflow_cast-result : goal.overflow_cast-result
overflow_cast-result c =
    let n = grouped-fit _ _ _ _ c.group_mesh-counts.ensures in
    omega (arith, n, (known c.args.mesh.now _ c.requires.0).few)

pub returns : goal.returns
returns c =
    let K = c.group_mesh-counts.ensures in
    let t = c.args in
    record {
      counts = c.group_mesh-counts.result;
      v = _;
      left = K;
      sound = refl;
      links = c.copy_out.ensures;
      groups = c.copy_out-2.ensures;
      ways = c.copy_out-3.ensures;
      work = cleared t.mesh.now.sizes.now t.work.now _ _ K.only.rest c.clear_first.ensures;
    }
