-- Step 4 of the old edition: weld_vertices_legacy.rs. The corners of all triangles, sound ones first, are rows 0, 1, ..; a row is merged with a row. Groundwork of request E13: no public call uses it yet. Definitions only.
use Rattle.std.specs.Prelude.{ℕ, zero, suc, ◌+◌, ◌-◌, ◌*◌, min, Bool, cond, ◌&&◌, List, [], ◌∷◌, ◌++◌, map, leb, ltb, length, get_or, set, take, drop, Float}
use Rattle.std.proofs.Math.Option.{Option, none, some}
use Rattle.std.specs.Float.Ieee as Ieee
use Rattle.std.specs.Float.Ieee.{to_unsigned}
use Rattle.bits.specs.Word.{is_finite, number}
use Rattle.bits.specs.Single.{◌+ᶠ◌, ◌-ᶠ◌, ◌*ᶠ◌, ◌/ᶠ◌, zeroᶠ, oneᶠ}
use Rattle.math.specs.declared.Vec3.{Vec3}
use Rattle.math.specs.Vector.{equals, vec}
use Rattle.definition.specs.declared.Corner.{Corner}
use Rattle.definition.specs.declared.Triangle.{Triangle}
use Rattle.lists.specs.Lists.{first, run}
use Rattle.definition.specs.Mesh.{Third, one, two, three, Spot, corner_of, slot_of}
use Rattle.definition.specs.Step4Order.{ordered}
use Rattle.definition.specs.Step5Sorted.{sorted_by}
use Rattle.definition.specs.Step5Quick.{swapped, seek_up, seek_down}
use Rattle.definition.specs.Step5Old.{numbers_from, run_end}

-- a coordinate
unfoldable pub along : Third → Vec3 → Float
along one v = v.x
along two v = v.y
along three v = v.z

-- the least and the greatest of a coordinate of rows, from that of one of them on
unfoldable pub least : (ℕ → Float) → Float → List ℕ → Float
least X m l = run (λ m r. cond (Ieee.lt (X r) m) (X r) m) m l

unfoldable pub greatest : (ℕ → Float) → Float → List ℕ → Float
greatest X m l = run (λ m r. cond (Ieee.lt m (X r)) (X r) m) m l

-- the sides of a box: its least and greatest x, y, z
pub record Box : Type 0 where
  pub low : Vec3
  pub high : Vec3

-- the box of rows r and l, P their positions
unfoldable pub box_of : (ℕ → Vec3) → ℕ → List ℕ → Box
box_of P r l =
    record {
      low = vec (least (λ i. (P i).x) (P r).x l) (least (λ i. (P i).y) (P r).y l) (least (λ i. (P i).z) (P r).z l);
      high = vec (greatest (λ i. (P i).x) (P r).x l) (greatest (λ i. (P i).y) (P r).y l) (greatest (λ i. (P i).z) (P r).z l);
    }

-- how far it reaches along a coordinate
unfoldable pub reach : Box → Third → Float
reach b c = along c b.high -ᶠ along c b.low

-- `c_max`: y where it reaches further than along both others, else z where it reaches further than along x, else x
unfoldable pub widest : Box → Third
widest b =
    cond (Ieee.lt (reach b one) (reach b two) && Ieee.lt (reach b three) (reach b two)) two
    (cond (Ieee.lt (reach b one) (reach b three)) three one)

-- the bucket of a coordinate: 2,048 times its share of the reach, cut to [0, 1], toward zero, at most 2,047; a NaN is in bucket 0
unfoldable pub bucket_of : Float → ℕ
bucket_of t = cond (Ieee.lt zeroᶠ t) (cond (Ieee.lt t oneᶠ) (min 2047 (to_unsigned 16 (number 0x4500_0000 *ᶠ t))) 2047) 0

-- what stands of the rows: their order, and the row that each is merged with
pub record Merging : Type 0 where
  pub rows : List ℕ
  pub into : List ℕ

-- the two parts of the places from s up to e, by keys that are 0 or 1: the next two that stand on the wrong sides are exchanged, as long as there are two. The second part begins at the place that is given.
pub record Halves : Type 0 where
  pub list : List ℕ
  pub at : ℕ

unfoldable pub halved : ℕ → (ℕ → ℕ) → List ℕ → ℕ → ℕ → Halves
halved zero K l s e = record { list = l; at = seek_up (e - s) K 1 l s }
halved (suc n) K l s e =
    let a = seek_up (e - s) K 1 l s in
    let b = seek_down (e - 1 - a) K 0 l (e - 1) in
    let r = halved n K (swapped a b l) (suc a) b in
    cond (ltb a b) r (record { list = l; at = a })

-- two corners are equal by float comparison in all eight numbers
unfoldable pub same_values : Corner → Corner → Bool
same_values c d = equals c.place d.place && equals c.normal d.normal && Ieee.eq c.u d.u && Ieee.eq c.v d.v

-- a row or another
unfoldable pub or_row : ℕ → Option ℕ → ℕ
or_row r none = r
or_row r (some q) = q

-- each of the rows merged with the first of them that is equal to it
unfoldable pub merged_here : (ℕ → Corner) → List ℕ → List ℕ → List ℕ
merged_here C l into = run (λ into r. set into r (or_row r (first (λ q. same_values (C r) (C q)) l))) into l

-- what is done with rows: they are left as they are, merged, or cut in two along a coordinate at a number
pub data Way : Type 0 where
  leave weld : Way
  cut : Third → Float → Way

-- `sep`: halfway between the least and the greatest
unfoldable pub halfway : Box → Third → Float
halfway b c = number 0x3f00_0000 *ᶠ (along c b.high +ᶠ along c b.low)

-- which it is, for a box and its widest coordinate
unfoldable pub way_in : Box → Third → Way
way_in b c =
    cond (is_finite (halfway b c))
    (cond (Ieee.lt (along c b.low) (halfway b c) && Ieee.lt (halfway b c) (along c b.high)) (cut c (halfway b c)) weld)
    leave

-- for rows: fewer than two are left
unfoldable pub way_of : (ℕ → Vec3) → List ℕ → Way
way_of P [] = leave
way_of P (r ∷ []) = leave
way_of P (r ∷ q ∷ l) = way_in (box_of P r (q ∷ l)) (widest (box_of P r (q ∷ l)))

-- 0 below the number, else 1
unfoldable pub side_of : (ℕ → Vec3) → Third → Float → ℕ → ℕ
side_of P c x r = cond (Ieee.lt (along c (P r)) x) 0 1

-- both parts, the lower one first
abbrev pub in_halves : (ℕ → ℕ → Merging → Merging) → ℕ → ℕ → List ℕ → Halves → Merging
in_halves f from to into h = f h.at to (f from h.at (record { rows = h.list; into = into }))

-- what is done with the rows at the places from `from` up to `to`
abbrev pub done : (ℕ → Corner) → (ℕ → ℕ → Merging → Merging) → Way → ℕ → ℕ → Merging → Merging
done C f leave from to m = m
done C f weld from to m = record { rows = m.rows; into = merged_here C (drop from (take to m.rows)) m.into }
done C f (cut c x) from to m = in_halves f from to m.into (halved (to - from) (side_of (λ r. (C r).place) c x) m.rows from to)

-- `merge_verts_fast`. Both parts are shorter than the whole, so n, the length, is enough (quick/proofs/Halves.antt).
unfoldable pub merge : ℕ → (ℕ → Corner) → ℕ → ℕ → Merging → Merging
merge zero C from to m = m
merge (suc n) C from to m = done C (λ a b k. merge n C a b k) (way_of (λ r. (C r).place) (drop from (take to m.rows))) from to m

-- bucket by bucket, B the bucket of a row: from place i on, at most n buckets of `all` rows
unfoldable pub merge_runs : ℕ → (ℕ → ℕ) → (ℕ → Corner) → ℕ → Merging → ℕ → Merging
merge_runs zero B C all m i = m
merge_runs (suc n) B C all m i =
    let e = run_end (all - 1 - i) B m.rows i in
    let k = merge (e - i) C i e m in
    let r = merge_runs n B C all k e in
    cond (ltb e all) r k

-- the bucket of each row
unfoldable pub bucket_in : Box → Third → (ℕ → Vec3) → ℕ → ℕ
bucket_in b c P r = bucket_of ((along c (P r) -ᶠ along c b.low) /ᶠ reach b c)

-- `weld_vertices`: the row that each of n rows is merged with
unfoldable pub merged_rows : (ℕ → Corner) → ℕ → List ℕ
merged_rows C zero = []
merged_rows C (suc n) =
    let b = box_of (λ r. (C r).place) 0 (numbers_from 1 n) in
    let B = bucket_in b (widest b) (λ r. (C r).place) in
    (merge_runs (suc n) B C (suc n) (record { rows = sorted_by (λ x y. leb (B x) (B y)) (numbers_from 0 (suc n)); into = numbers_from 0 (suc n) }) 0).into

-- 'face times 4 plus corner', and 1, so that no tag is 0
unfoldable pub tag_of : Spot → ℕ
tag_of s = 4 * s.tri.face + slot_of s + 1

-- a corner with a tag
unfoldable pub tagged : ℕ → Corner → Corner
tagged n c = record { place = c.place; normal = c.normal; u = c.u; v = c.v; tag = n }

-- the corners that rows are merged with, tagged by the face and the corner that they are
unfoldable pub merged_with : List Spot → List ℕ → List Corner
merged_with sp [] = []
merged_with sp (r ∷ into) = map (λ s. tagged (tag_of s) (corner_of s)) (take 1 (drop r sp)) ++ merged_with sp into

-- triangles with their corners replaced by those of a list, three for each
unfoldable pub recornered : List Triangle → List Corner → List Triangle
recornered [] cs = []
recornered (t ∷ ts) [] = []
recornered (t ∷ ts) (a ∷ []) = []
recornered (t ∷ ts) (a ∷ b ∷ []) = []
recornered (t ∷ ts) (a ∷ b ∷ c ∷ cs) =
    record {
      face = t.face;
      second = t.second;
      missing = t.missing;
      a = record { which = t.a.which; corner = a };
      b = record { which = t.b.which; corner = b };
      c = record { which = t.c.which; corner = c };
      degenerate = t.degenerate;
      marked = t.marked;
      any = t.any;
      orientation = t.orientation;
      tangent = t.tangent;
    }
    ∷ recornered ts cs

-- step 4 of the old edition: the triangles, sound ones first, each corner replaced by the one that it is merged with
unfoldable pub merged : List Triangle → List Triangle → List Triangle
merged ss bs =
    let sp = ordered (ss ++ bs) in
    recornered (ss ++ bs) (merged_with sp (merged_rows (λ r. get_or (map corner_of sp) r (record { place = vec zeroᶠ zeroᶠ zeroᶠ; normal = vec zeroᶠ zeroᶠ zeroᶠ; u = zeroᶠ; v = zeroᶠ; tag = 0 })) (length sp)))
