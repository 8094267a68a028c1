-- Proof that `list_faces` meets its contract. The invariant: the first f faces are listed. Assumes nothing.
use Prim.Native.Nat.{ℕ, ◌+◌, ◌*◌, ◌≤◌, ◌<◌}
use native.Mathlib.Nat.{le_antisymm}
use native.Mathlib.Omega.{arith}
use mathlib.Core.Path.{◌≡◌, refl, sym, ◌∙◌, ap, subst}
use mathlib.Core.Bool.{Bool, true, false, cond}
use mathlib.Core.List.{List}
use lib.ListN.{length, get_or}
use Rattle.definition.specs.Handed.{used}
use Rattle.mesh.proofs.Counts.{corners-none, corners-more}
use Rattle.view.specs.Frame.{Only}
use Rattle.view.proofs.Frame.{only_none, only-trans}
use Rattle.islands.specs.Rows.{FacesListed, corner_row, face_row, list_columns, added}
use Rattle.islands.proofs.Sizes.{used-three}
use Rattle.islands.proofs.Listing.{listed-none, listed-skip, listed_more, added-only}
use Rattle.islands.proofs.list_faces.Goals as goal
use Rattle.islands.proofs.list_faces.Invariants.{Going}

-- one face more: listed where it is of 3 or 4, passed over else
listed_next : (sizes w u v : List ℕ) (k k' base f size : ℕ) → 21 * (6 * length sizes) ≤ length w → f < length sizes → size ≡ get_or sizes f 0 → Going sizes w k base f u → (b : Bool) → used size ≡ b → k' ≡ cond b (k + 1) k → v ≡ cond b (added (6 * length sizes) k f base size u) u → FacesListed sizes (f + 1) k' (corner_row (6 * length sizes) v) (face_row (6 * length sizes) v) × Only list_columns (6 * length sizes) w v
listed_next sizes w u v k k' base f size long h e g true t p q =
    let room : 4 * k + 4 ≤ 6 * length sizes = omega (arith, g.listed.few) in
    let far : 21 * (6 * length sizes) ≤ length u = omega (arith, g.only.size) in (
      subst (λ x. FacesListed sizes (f + 1) x (corner_row (6 * length sizes) v) (face_row (6 * length sizes) v)) (sym p)
          (subst (λ x. FacesListed sizes (f + 1) (k + 1) (corner_row (6 * length sizes) x) (face_row (6 * length sizes) x)) (sym q)
          (listed_more sizes (6 * length sizes) f k base size u room far h e g.sum t g.listed)),
      only-trans list_columns (6 * length sizes) w u v g.only (subst (λ x. Only list_columns (6 * length sizes) u x) (sym q) (added-only (6 * length sizes) k f base size u room far (used-three size t).0 (used-three size t).1)),
    )
listed_next sizes w u v k k' base f size long h e g false t p q = (
  subst (λ x. FacesListed sizes (f + 1) x (corner_row (6 * length sizes) v) (face_row (6 * length sizes) v)) (sym p)
      (subst (λ x. FacesListed sizes (f + 1) k (corner_row (6 * length sizes) x) (face_row (6 * length sizes) x)) (sym q)
      (listed-skip sizes f k _ _ (sym (ap used e) ∙ t) g.listed)),
  subst (λ x. Only list_columns (6 * length sizes) w x) (sym q) g.only,
)

going_more : (sizes w u v : List ℕ) (k k' base f size : ℕ) → 21 * (6 * length sizes) ≤ length w → f < length sizes → size ≡ get_or sizes f 0 → size < 256 → Going sizes w k base f u → (b : Bool) → used size ≡ b → k' ≡ cond b (k + 1) k → v ≡ cond b (added (6 * length sizes) k f base size u) u → Going sizes w k' (base + size) (f + 1) v
going_more sizes w u v k k' base f size long h e small g b t p q =
    let r = listed_next sizes w u v k k' base f size long h e g b t p q in
    record { within = omega arith; sum = (λ i. g.sum i + e i) ∙ sym (corners-more sizes f h); few = omega (arith, g.few); listed = r.0; only = r.1 }

pub loop-f-init : goal.loop-f-init
loop-f-init c =
    let a = c.args in
    let n = 6 * length a.sizes.now in
    record { within = omega arith; sum = corners-none a.sizes.now; few = omega arith; listed = listed-none a.sizes.now (corner_row n a.work.now) (face_row n a.work.now); only = only_none list_columns n a.work.now }

pub overflow_cast-f : goal.overflow_cast-f
overflow_cast-f c = omega (arith, c.loop-f-test.true, c.requires.0)

pub list_face-k-requires : goal.list_face-k-requires
list_face-k-requires c =
    let g = c.loop-f.invariant in
    (omega (arith, g.listed.few, c.loop-f-test.true), omega (arith, c.requires.1, g.only.size), omega (arith, g.few, c.loop-f-test.true, c.requires.0))

pub overflow_add-base : goal.overflow_add-base
overflow_add-base c = omega (arith, c.type_inv.sizes c.loop-f.f, c.loop-f.invariant.few, c.loop-f-test.true, c.requires.0)

pub loop-f-preserved : goal.loop-f-preserved
loop-f-preserved c =
    let l = c.loop-f in
    going_more _ _ _ _ _ _ _ _ _ c.requires.1 c.loop-f-test.true refl (omega arith) l.invariant _ refl c.list_face-k.ensures.0 c.list_face-k.ensures.1

pub shape_of-work : goal.shape_of-work
shape_of-work c = c.loop-f.invariant.only.size

pub returns : goal.returns
returns c =
    let l = c.loop-f in
    let a = c.args in
    let n = length a.sizes.now in
    (subst (λ x. FacesListed a.sizes.now x l.k (corner_row (6 * n) l.work) (face_row (6 * n) l.work)) (le_antisymm l.invariant.within c.loop-f-test.false) l.invariant.listed, l.invariant.only)
