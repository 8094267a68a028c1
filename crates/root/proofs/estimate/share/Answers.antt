-- `root::estimate::share` meets its contract: u / 2 ^ 20 is below 1. Assumes nothing.
use Rattle.std.proofs.Common.{le_refl, arith}
use Rattle.root.proofs.Products.{product_le, product-fits}
use Rattle.root.proofs.estimate.share.Goals as goal

pub overflow_mul-result : goal.overflow_mul-result
overflow_mul-result c = product-fits 1099511627776 1048576 c.args.s c.args.u tt (omega arith) (omega arith)

pub returns : goal.returns
returns c =
    let s = c.args.s in
    let p = product_le s 1048576 s c.args.u (le_refl s) (omega arith) in
    omega arith
