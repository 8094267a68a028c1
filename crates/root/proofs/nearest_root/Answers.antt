-- `root::nearest_root` meets its contract: a number that passes the test is the nearest, since only one does. Assumes nothing.
use Rattle.std.proofs.Common.{◌≡◌, ℕ, ◌+◌, ◌*◌, ◌^◌, ◌<◌, Bool, true, false, ◌&&◌, ltb, leb, sym, refl, ◌∙◌, true≢false, ltb-true, leb-true}
use Rattle.root.specs.Code.{certain}
use Rattle.root.specs.Root.{root, to_nearest}
use Rattle.root.proofs.Roots.{root-law}
use Rattle.root.proofs.Within.{Within, within, only, some}
use Rattle.root.proofs.nearest_root.Goals as goal

both : (a b : Bool) → (a && b) ≡ true → (a ≡ true) × (b ≡ true)
both true b h = (refl, h)
both false b h = absurd (true≢false (sym h))

passed : (n r : ℕ) → certain n r ≡ true → Within n r
passed n r h =
    let t = both (ltb (r * r) (n + r)) (leb n (r * r + r)) h in
    (ltb-true (r * r) (n + r) t.0, leb-true n (r * r + r) t.1)

nearest : (n r : ℕ) → n < 2 ^ 48 → certain n r ≡ true → r ≡ to_nearest (root 24 n) n
nearest n r h t =
    let w = passed n r t in
    only n r (to_nearest (root 24 n) n) w (within n (root 24 n) (some n r w) (root-law 24 n h))

pub returns-then-certain : goal.returns-then-certain
returns-then-certain c = nearest c.args.n c.args.r c.requires.0 (sym c.certain.ensures ∙ c.if-certain.true)
