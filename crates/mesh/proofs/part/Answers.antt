-- `mesh::part` meets its contract: the part lies within the list, since the corners up to the face are among all corners. Assumes nothing.
use Prim.Native.Nat.{ℕ, ◌+◌, ◌*◌, ◌-◌, ◌≤◌, ◌<◌}
use native.Mathlib.Nat.{mul-le-mul, min-eq_left}
use native.Mathlib.Omega.{arith}
use mathlib.Core.Path.{◌≡◌, sym, ap, ◌∙◌}
use mathlib.Core.Bool.{Bool, cond}
use mathlib.Core.List.{List, []}
use borrow.Author.Tests.{le-leb, lt-leb}
use lib.ListN.{length, get_or, take, drop}
use lib.Ieee.{Float}
use Rattle.definition.specs.Handed.{corner_count}
use Rattle.mesh.specs.Parts.{part_of, part_or_none}
use Rattle.mesh.proofs.Fitting.{part-ends}
use borrow.Author.Rules.{rules}
use Rattle.mesh.proofs.part.Goals as goal
use Rattle.mesh.proofs.part.Tie as tie
use Rattle.mesh.proofs.part.Lts as lts
use Rattle.mesh.proofs.part.Reads as reads

abbrev At-After-corners_before : Type 0
At-After-corners_before = lts.After-corners_before tie.the-claims reads.Pre reads.Post

abbrev At-After-shared_slice_known-3-1 : Type 0
At-After-shared_slice_known-3-1 = lts.After-shared_slice_known3 tie.the-claims reads.Pre reads.Post

-- the part that is cut out is the face's
part-is : (width n : ℕ) (xs : List Float) (sizes : List ℕ) (f : ℕ) → f < length sizes → n ≡ corner_count (take f sizes) → take (width * n + width * get_or sizes f 0 - width * n) (drop (width * n) xs) ≡ part_or_none width xs sizes f
unfolding part_or_none part_of
part-is width n xs sizes f h e =
    let k : width * n + width * get_or sizes f 0 - width * n ≡ width * get_or sizes f 0 = omega arith in
    ap (λ (m : ℕ). take m (drop (width * n) xs)) k
    ∙ ap (λ (m : ℕ). take (width * get_or sizes f 0) (drop (width * m) xs)) e
    ∙ sym (ap (λ (b : Bool). cond b [] (take (width * get_or sizes f 0) (drop (width * corner_count (take f sizes)) xs))) (lt-leb (length sizes) f h))

-- the corners before the face
start_is : (c : At-After-corners_before) → c.corners_before.result ≡ corner_count (take c.args.face c.args.sizes.now)
start_is c =
    let a = c.args in
    let h : a.face ≤ 65536 = omega arith in
    c.corners_before.ensures.0 ∙ ap (λ (k : ℕ). corner_count (take k a.sizes.now)) (min-eq_left h)

start_small : (c : At-After-corners_before) → c.args.width * c.corners_before.result ≤ 3 * 16711680
start_small c = mul-le-mul c.requires.0 c.corners_before.ensures.1

size_small : (c : At-After-shared_slice_known-3-1) → c.args.width * get_or c.args.sizes.now c.args.face 0 ≤ 3 * 255
size_small c =
    let a = c.args in
    let h : get_or a.sizes.now a.face 0 ≤ 255 = omega (arith, c.shared_slice_known-3-1.given a.face) in
    mul-le-mul c.requires.0 h

within : (c : At-After-shared_slice_known-3-1) → c.args.width * c.corners_before.result + c.args.width * get_or c.args.sizes.now c.args.face 0 ≤ length c.args.xs.now
within c =
    let a = c.args in
    let p = c.requires in
    let e = ap (λ (n : ℕ). a.width * n) (start_is c.before) in
    omega (arith, e, part-ends a.width a.sizes.now a.face (omega (arith, c.if-sizes-face.false)), p.2)

pub returns-then-sizes-face : goal.returns-then-sizes-face
unfolding part_or_none
returns-then-sizes-face c =
    let a = c.args in
    sym (ap (λ (b : Bool). cond b [] (part_of a.width a.xs.now a.sizes.now a.face)) (le-leb (length a.sizes.now) a.face (omega (arith, c.if-sizes-face.true))))

pub overflow_mul-start : goal.overflow_mul-start
overflow_mul-start c = omega (arith, start_small c.before)

pub overflow_cast-end : goal.overflow_cast-end
overflow_cast-end c = omega (arith, c.shared_slice_known-3-1.given c.args.face)

pub overflow_mul-end : goal.overflow_mul-end
overflow_mul-end c = omega (arith, size_small c.before)

pub overflow_add-end : goal.overflow_add-end
overflow_add-end c = omega (arith, start_small c.before.before, size_small c.before)

pub offset_bounds-xs-start : goal.offset_bounds-xs-start
offset_bounds-xs-start c = omega (arith, start_small c.before.before)

pub slice_bounds-result-end-2 : goal.slice_bounds-result-end-2
slice_bounds-result-end-2 c = let h = within c.before in search rules

pub returns : goal.returns
returns c =
    let a = c.args in
    part-is a.width c.corners_before.result a.xs.now a.sizes.now a.face (omega (arith, c.if-sizes-face.false)) (start_is c.before.before.before)
