-- `root::digits_root` meets its contract: what it works out is what `proofs/Scaling.antt` says of m and a. Assumes nothing.
use Rattle.std.proofs.Common.{◌≡◌, ℕ, ◌+◌, ◌*◌, ◌^◌, ◌<◌, sym, ap, ◌∙◌, subst, arith}
use lib.Ieee.{binary32, of_bits}
use Rattle.root.proofs.Scaling.{Scaled, scale, scaled, halves, nearest_of, pattern}
use Rattle.root.proofs.digits_root.Goals as goal
use Rattle.root.proofs.digits_root.Tie as tie
use Rattle.root.proofs.digits_root.Lts as lts
use Rattle.root.proofs.digits_root.Reads as reads

abbrev At-Start : Type 0
At-Start = lts.Start tie.the-claims reads.Pre reads.Post

known : (c : At-Start) → Scaled c.args.m c.args.a
known c = scale c.args.m c.args.a c.requires

-- what comes back from `nearest_root`
nearest : (c : goal.After-nearest_root-q) → c.nearest_root-q.result ≡ nearest_of (scaled c.args.m c.args.a)
nearest c = c.nearest_root-q.ensures ∙ ap nearest_of (known c.before.before).kept

small : (c : goal.After-nearest_root-q) → c.nearest_root-q.result < 16777216
small c = subst (λ (q : ℕ). q < 16777216) (sym (nearest c)) (known c.before.before).small

pub nearest_root-q-requires : goal.nearest_root-q-requires
nearest_root-q-requires c = let k = known c.before in (subst (λ (n : ℕ). n < 2 ^ 48) (sym k.kept) k.under, c.estimate.ensures)

pub overflow_cast-result : goal.overflow_cast-result
overflow_cast-result c = omega (arith, small c)

pub overflow_add-result : goal.overflow_add-result
overflow_add-result c = omega (arith, small c)

pub returns : goal.returns
returns c =
    let m = c.args.m in
    let a = c.args.a in
    (ap (λ (q : ℕ). of_bits binary32 (halves a * 8388608 + q)) (nearest c) ∙ pattern m a c.requires, omega (arith, small c))
