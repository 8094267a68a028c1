-- `listing::pieces_in` meets its contract. The invariant: the sum so far is that of the faces passed. Assumes nothing.
use Rattle.std.proofs.Common.{◌≡◌, ◌*◌, ◌≤◌, take}
use Rattle.listing.specs.Listing.{piece_count}
use Rattle.listing.proofs.pieces_in.Given as goal

abbrev pub invariant-loop-size : goal.invariant-loop-size
invariant-loop-size l = (l.sum ≡ piece_count (take l.size-index l.sizes)) × (l.sum ≤ 2 * l.size-index)
