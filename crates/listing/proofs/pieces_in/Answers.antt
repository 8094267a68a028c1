-- `listing::pieces_in` meets its contract: one size more adds its triangles. Assumes nothing.
use Rattle.std.proofs.Common.{arith, ℕ, ◌+◌, ◌<◌, length, take, sym, ap, ◌∙◌}
use Rattle.std.proofs.lemmas.List.{take_all}
use Rattle.listing.specs.Listing.{piece_count}
use Rattle.listing.proofs.Pieces.{pieces_more, pieces_none}
use Rattle.listing.proofs.pieces_in.Goals as goal

pub loop-size-init : goal.loop-size-init
loop-size-init c = (pieces_none c.args.sizes.now, omega arith)

pub loop-size-preserved : goal.loop-size-preserved
loop-size-preserved c =
    let l = c.loop-size in
    let sizes = c.args.sizes.now in
    let h : l.size-index < length sizes = c.loop-size-test.true in (
      ap (λ (n : ℕ). n + c.pieces_of-sum.result) l.invariant.0 ∙ (ap (λ (n : ℕ). piece_count (take l.size-index sizes) + n) c.pieces_of-sum.ensures.0 ∙ sym (pieces_more sizes l.size-index h)),
      omega arith,
    )

pub returns : goal.returns
returns c = c.loop-size.invariant.0 ∙ ap piece_count (take_all c.loop-size.size-index c.args.sizes.now c.loop-size-test.false)
