-- A pass over the faces. Assumes nothing.
use Prim.Native.Nat.{ℕ, ◌+◌, ◌*◌, ◌≤◌, ◌<◌}
use native.Mathlib.Numerals.{add-one}
use native.Mathlib.Omega.{arith}
use mathlib.Core.Path.{◌≡◌, refl, sym, ◌∙◌, ap, subst}
use mathlib.Core.Bool.{Bool}
use mathlib.Core.List.{List, [], ◌++◌, append_assoc, append-nil}
use lib.ListN.{length, get_or, take, drop, length-append, drop_of_length-le}
use lib.Seq.{drop-cons}
use lib.Ieee.{Float}
use Rattle.definition.specs.declared.Triangle.{Triangle}
use Rattle.lists.specs.Lists.{keep}
use Rattle.definition.specs.Handed.{Handed, corners_from, mesh_from, corner_count, slot_count, slots_of}
use Rattle.definition.specs.Triangles.{pieces, triangles}
use Rattle.definition.specs.Frames.{numbered}
use Rattle.mesh.proofs.Counts.{corners-more, corners-none, slots-more, slots-none}
use Rattle.listing.specs.Listing.{Done, Added, pick, rest_from}
use Rattle.listing.proofs.Laws.{added_none, added-trans}
use Rattle.listing.proofs.Faces.{pick-append}

module _ (ps ns ts : List Float) where
  -- the faces from f on: face f, and those from f + 1 on
  rest-cons : (sizes : List ℕ) (f base : ℕ) → f < length sizes → rest_from ps ns ts f base (drop f sizes) ≡ pieces f (corners_from ps ns ts base (get_or sizes f 0)) ++ rest_from ps ns ts (f + 1) (base + get_or sizes f 0) (drop (f + 1) sizes)
  unfolding rest_from triangles numbered mesh_from
  rest-cons sizes f base h =
      ap (λ (l : List ℕ). triangles (numbered f (mesh_from ps ns ts base l))) (drop-cons sizes f 0 h)
      ∙ ap (λ (n : ℕ). pieces f (corners_from ps ns ts base (get_or sizes f 0)) ++ triangles (numbered n (mesh_from ps ns ts (base + get_or sizes f 0) (drop n sizes)))) (sym (add-one f))

  rest-none : (sizes : List ℕ) (f base : ℕ) → length sizes ≤ f → rest_from ps ns ts f base (drop f sizes) ≡ []
  unfolding rest_from triangles numbered mesh_from
  rest-none sizes f base h = ap (λ (l : List ℕ). triangles (numbered f (mesh_from ps ns ts base l))) (drop_of_length-le sizes h)

module _ (rows : ℕ) (want : Bool) (mesh : Handed) (tris : ℕ) (w₀ : List ℕ) where
  abbrev rest : ℕ → ℕ → List Triangle
  rest f base = pick want (rest_from mesh.positions mesh.normals mesh.texture f base (drop f mesh.sizes))

  abbrev all : List Triangle
  all = pick want (rest_from mesh.positions mesh.normals mesh.texture 0 0 mesh.sizes)

  -- f faces are done
  pub record Far (w : List ℕ) (f base slot k : ℕ) : Type 0 where
    pub bound : f ≤ length mesh.sizes
    pub at : base ≡ corner_count (take f mesh.sizes)
    pub off : slot ≡ slot_count (take f mesh.sizes)
    pub low : base ≤ 255 * f
    pub few : slot ≤ 4 * f
    pub done : List Triangle
    pub added : Added rows mesh done tris k w₀ w
    pub is : done ++ rest f base ≡ all

  pub far-start : Far w₀ 0 0 0 tris
  far-start = record { bound = omega arith; at = corners-none mesh.sizes; off = slots-none mesh.sizes; low = omega arith; few = omega arith; done = []; added = added_none rows mesh tris w₀; is = refl }

  module _ (w : List ℕ) (f base slot k : ℕ) (F : Far w f base slot k) (h : f < length mesh.sizes) where
    abbrev n : ℕ
    n = get_or mesh.sizes f 0

    abbrev here : List Triangle
    here = pieces f (corners_from mesh.positions mesh.normals mesh.texture base n)

    next : rest f base ≡ pick want here ++ rest (f + 1) (base + n)
    next = ap (pick want) (rest-cons mesh.positions mesh.normals mesh.texture mesh.sizes f base h) ∙ pick-append want here (rest_from mesh.positions mesh.normals mesh.texture (f + 1) (base + n) (drop (f + 1) mesh.sizes))

    -- there is room for face f's triangles
    pub fits-room : 3 * (tris + length all) ≤ rows → 3 * (k + length (pick want here)) ≤ rows
    fits-room r =
        let a = F.added.count in
        let b = ap length F.is in
        let c = length-append F.done (rest f base) in
        let d = ap length next in
        let e = length-append (pick want here) (rest (f + 1) (base + n)) in
        omega arith

    -- its turn: c is its number of corners and s of slots, as code counts them
    pub far-next : (u : List ℕ) (r c s : ℕ) → c ≡ n → c ≤ 255 → s ≡ slots_of n → s ≤ 4 → Done rows want mesh.positions mesh.normals mesh.texture f base slot here k r w u → Far u (f + 1) (base + c) (slot + s) r
    far-next u r c s ec hc es hs D = record {
      bound = omega arith;
      at = (λ z. F.at z + ec z) ∙ sym (corners-more mesh.sizes f h);
      off = (λ z. F.off z + es z) ∙ sym (slots-more mesh.sizes f h);
      low = let a = F.low in omega arith;
      few = let a = F.few in omega arith;
      done = F.done ++ pick want here;
      added = added-trans rows mesh F.done (pick want here) tris k r w₀ w u F.added (D.added mesh.sizes F.at F.off);
      is = append_assoc F.done (pick want here) (rest (f + 1) (base + c)) ∙ ap (λ (m : ℕ). F.done ++ (pick want here ++ rest (f + 1) (base + m))) ec ∙ ap (λ (l : List Triangle). F.done ++ l) (sym next) ∙ F.is;
    }

  pub far-end : (w : List ℕ) (f base slot k : ℕ) → Far w f base slot k → length mesh.sizes ≤ f → Added rows mesh all tris k w₀ w
  unfolding pick keep
  far-end w f base slot k F h = subst (λ (l : List Triangle). Added rows mesh l tris k w₀ w) (sym (append-nil F.done) ∙ ap (λ (l : List Triangle). F.done ++ l) (sym (ap (pick want) (rest-none mesh.positions mesh.normals mesh.texture mesh.sizes f base h))) ∙ F.is) F.added
