-- Request E10 by rows, and by triangles, sides and welded corners: one holds where the other does. Assumes nothing.
use Prim.Native.Nat.{ℕ, zero, suc, ◌*◌, ◌/◌, ◌%◌, ◌≤◌, ◌<◌}
use native.Mathlib.Omega.{arith}
use mathlib.Core.Path.{◌≡◌, refl, sym, subst, ap, ◌∙◌}
use mathlib.Core.Bool.{Bool, true, false, ◌&&◌}
use mathlib.Core.List.{List}
use lib.ListN.{length, get_or}
use Rattle.bits.proofs.Bools.{and_left, and_right}
use Rattle.tangent.specs.Slot.{flag}
use Rattle.definition.specs.declared.Triangle.{Triangle}
use Rattle.definition.specs.Mesh.{Third, one, two, three, after as next-third, before as prior-third, next, Spot, corner_of}
use Rattle.definition.specs.Step4Order.{welded}
use Rattle.definition.specs.Step5Links.{opposite, end_of}
use Rattle.neighbors.specs.Sides.{end_row}
use Rattle.neighbors.proofs.Sided.{end_is}
use Rattle.view.specs.Rows.{row, third, spot_at}
use Rattle.view.proofs.Records.{flag_same}
use Rattle.view.proofs.Rows.{row_is, tri-lt, row_lt, row-div, row-inj, at-inj, spot_is}
use Rattle.asked.specs.Links.{Leads, Opposed, LinksFit}
use Rattle.asked.specs.Groups.{Together, Way, after, before, Chain, here, on, GroupsFit}
use Rattle.asked.specs.Meaning as meaning
use Rattle.asked.specs.Meaning.{Linked, LinksAccepted, OneGroup, Over, leaving, entering, Connects, GroupsAccepted, Same, any_of, way_of}
use Rattle.asked.proofs.Ways.{way_in}

-- ---- rows

-- the side before a corner ends in it
pub prior-end : (t : ℕ) (i : Third) → end_row (row t (prior-third i)) ≡ row t i
prior-end t i = end_is t (prior-third i) ∙ ap (row t) (turn i)
  where
    turn : (i : Third) → next-third (prior-third i) ≡ i
    turn one = unfold next-third prior-third in refl
    turn two = unfold next-third prior-third in refl
    turn three = unfold next-third prior-third in refl

-- the side whose end is a corner is the one before it
prior-is : (t a : ℕ) (i b : Third) → row t i ≡ end_row (row a b) → row t (prior-third i) ≡ row a b
prior-is t a i b e = let f = e ∙ end_is a b in λ z. row (row-inj t a i (next-third b) f z) ((ap prior-third (at-inj t a i (next-third b) f) ∙ turn b) z)
  where
    turn : (i : Third) → prior-third (next-third i) ≡ i
    turn one = unfold next-third prior-third in refl
    turn two = unfold next-third prior-third in refl
    turn three = unfold next-third prior-third in refl

-- where the side of a row ends, by triangle and corner
pub end-at : (q : ℕ) → row (q / 3) (next-third (third (q % 3))) ≡ end_row q
end-at q = sym (end_is (q / 3) (third (q % 3))) ∙ ap end_row (row_is q)

pub end-tri : (q : ℕ) → end_row q / 3 ≡ q / 3
end-tri q = ap (λ x. x / 3) (sym (end-at q)) ∙ row-div (q / 3) (next-third (third (q % 3)))

module _ (ss : List Triangle) (d : Triangle) where
  abbrev n : ℕ
  n = length ss

  abbrev at : ℕ → Third → Spot
  at t i = spot_at ss d t i

  -- welded corners, by row and by triangle and corner
  pub same_at : (t u : ℕ) (i j : Third) → Same ss d (row t i) (row u j) → welded (corner_of (at t i)) (corner_of (at u j)) ≡ true
  same_at t u i j e = sym (λ z. welded (corner_of (spot_is ss d t i z)) (corner_of (spot_is ss d u j z))) ∙ e

  pub at_same : (t u : ℕ) (i j : Third) → welded (corner_of (at t i)) (corner_of (at u j)) ≡ true → Same ss d (row t i) (row u j)
  at_same t u i j e = (λ z. welded (corner_of (spot_is ss d t i z)) (corner_of (spot_is ss d u j z))) ∙ e

  to-opposite : (t u : ℕ) (i j : Third) → Opposed (Same ss d) (row t i) (row u j) → opposite (at t i) (at u j) ≡ true
  unfolding opposite end_of next
  to-opposite t u i j o =
      let a = same_at t u i (next-third j) (subst (Same ss d (row t i)) (end_is u j) o.0) in
      let b = same_at t u (next-third i) j (subst (λ x. Same ss d x (row u j)) (end_is t i) o.1) in
      λ z. a z && b z

  from-opposite : (t u : ℕ) (i j : Third) → opposite (at t i) (at u j) ≡ true → Opposed (Same ss d) (row t i) (row u j)
  unfolding opposite end_of next
  from-opposite t u i j o =
      let p = welded (corner_of (at t i)) (corner_of (at u (next-third j))) in
      let q = welded (corner_of (at t (next-third i))) (corner_of (at u j)) in
      (subst (Same ss d (row t i)) (sym (end_is u j)) (at_same t u i (next-third j) (and_left p q o)), subst (λ x. Same ss d x (row u j)) (sym (end_is t i)) (at_same t u (next-third i) j (and_right p q o)))

  -- by rows that are no triangle's and corner's by form
  abbrev R : ℕ → ℕ
  R r = row (r / 3) (third (r % 3))

  both-rows : (P : ℕ → ℕ → Type 0) (r q : ℕ) → P (R r) (R q) → P r q
  both-rows P r q o = subst (λ x. P x q) (row_is r) (subst (P (R r)) (row_is q) o)

  rows_both : (P : ℕ → ℕ → Type 0) (r q : ℕ) → P r q → P (R r) (R q)
  rows_both P r q o = subst (λ x. P x (R q)) (sym (row_is r)) (subst (P r) (sym (row_is q)) o)

  -- ---- links
  module _ (L : List ℕ) where
    word-le : (x m : ℕ) → ((q : ℕ) → x ≡ suc q → q < m) → x ≤ m
    word-le zero m f = omega arith
    word-le (suc x) m f = f x refl

    pub fit-accepted : length L ≡ 3 * n → LinksFit (3 * n) (Same ss d) L → LinksAccepted ss d L
    fit-accepted e F =
        record {
          long = e;
          names = λ t i h. word-le (get_or L (row t i) 0) (3 * n) (λ q l. F.inside (row t i) q (row_lt t n i h) l);
          mutually = λ t u i j h k l. F.mutually (row t i) (row u j) (row_lt t n i h) l;
          across = λ t u i j h k l. to-opposite t u i j (F.across (row t i) (row u j) (row_lt t n i h) l);
          once = λ t u v i j k h g f l m. F.once (row t i) (row u j) (row v k) (row_lt t n i h) (row_lt u n j g) l m;
          none_left = λ t u i j h k f g o. F.none_left (row t i) (row u j) (row_lt t n i h) (row_lt u n j k) f g (from-opposite t u i j o);
        }

    module _ (A : LinksAccepted ss d L) where
      below : (r q : ℕ) → r < 3 * n → Leads L r q → q < 3 * n
      below r q h l = let a = A.names (r / 3) (third (r % 3)) (tri-lt r n h) in let b = ap (λ x. get_or L x 0) (row_is r) in omega arith

      back : (r q : ℕ) → r < 3 * n → Leads L r q → Leads L q r
      back r q h l = both-rows (Leads L) q r (A.mutually (r / 3) (q / 3) (third (r % 3)) (third (q % 3)) (tri-lt r n h) (tri-lt q n (below r q h l)) (rows_both (Leads L) r q l))

      pub accepted-fit : LinksFit (3 * n) (Same ss d) L
      accepted-fit =
          record {
            inside = below;
            mutually = back;
            across = λ r q h l.
                both-rows (Opposed (Same ss d)) r q
                (from-opposite (r / 3) (q / 3) (third (r % 3)) (third (q % 3))
                (A.across (r / 3) (q / 3) (third (r % 3)) (third (q % 3)) (tri-lt r n h) (tri-lt q n (below r q h l)) (rows_both (Leads L) r q l)));
            once = λ r s q h k l m. let x = back r q h l in let y = back s q k m in omega arith;
            none_left = λ r q h k f g o.
                A.none_left (r / 3) (q / 3) (third (r % 3)) (third (q % 3)) (tri-lt r n h) (tri-lt q n k) (ap (λ x. get_or L x 0) (row_is r) ∙ f) (ap (λ x. get_or L x 0) (row_is q) ∙ g)
                (to-opposite (r / 3) (q / 3) (third (r % 3)) (third (q % 3)) (rows_both (Opposed (Same ss d)) r q o));
          }

    -- ---- chains
    module _ (G : List ℕ) where
      one_group : (t u : ℕ) (i j : Third) → Together G (row t i) (row u j) → OneGroup G t i u j
      one_group t u i j T = record { same = T.same; some = T.some }

      together : (t u : ℕ) (i j : Third) → OneGroup G t i u j → Together G (row t i) (row u j)
      together t u i j T = record { same = T.same; some = T.some }

      way-over : (b : Bool) (q p : ℕ) → Way L b q p → (t v : ℕ) (i k : Third) → row t i ≡ q → row v k ≡ p → Over L t i v k
      way-over b q p (after _ x l) t v i k e f =
          let g : row v k ≡ row (x / 3) (next-third (third (x % 3))) = f ∙ sym (end-at x) in
          subst (λ y. Over L t i y k) (sym (row-inj v (x / 3) k (next-third (third (x % 3))) g))
          (subst (Over L t i (x / 3)) (sym (at-inj v (x / 3) k (next-third (third (x % 3))) g))
          (leaving (x / 3) (third (x % 3)) (ap (λ y. get_or L y 0) e ∙ (l ∙ ap suc (sym (row_is x))))))
      way-over b q p (before x _ l) t v i k e f =
          entering v k (ap (λ y. get_or L y 0) (prior-is t (x / 3) i (third (x % 3)) (e ∙ ap end_row (sym (row_is x))) ∙ row_is x) ∙ (l ∙ ap suc (sym f)))

      over-way : (t v : ℕ) (i k : Third) → Over L t i v k → (b : Bool) × Way L b (row t i) (row v k)
      over-way t v i k (leaving _ j l) = (false, subst (Way L false (row t i)) (end_is v j) (after (row t i) (row v j) l))
      over-way t v i k (entering _ _ l) = (true, subst (λ x. Way L true x (row v k)) (prior-end t i) (before (row t (prior-third i)) (row v k) l))

      module _ (F : LinksFit (3 * n) (Same ss d) L) where
        chain-to : (r p : ℕ) → Chain n L G r p → r < 3 * n → (t u : ℕ) (i j : Third) → row t i ≡ r → row u j ≡ p → Connects n L G t i u j
        chain-to r p here h t u i j e f =
            let g = e ∙ sym f in
            subst (λ y. Connects n L G t i y j) (row-inj t u i j g) (subst (Connects n L G t i t) (at-inj t u i j g) meaning.here)
        chain-to r p (on b q _ c k w T) h t u i j e f =
            let l : row u j < 3 * n = subst (λ x. x < 3 * n) (sym f) (way_in n (Same ss d) L F b q p k w) in
            meaning.on (q / 3) u (third (q % 3)) j (chain-to r q c h t (q / 3) i (third (q % 3)) e (row_is q)) (tri-lt q n k) (subst (λ x. x < n) (row-div u j) (tri-lt (row u j) n l))
            (way-over b q p w (q / 3) u (third (q % 3)) j (row_is q) f) (one_group (q / 3) u (third (q % 3)) j (subst (λ x. Together G x (row u j)) (sym (row_is q)) (subst (Together G q) (sym f) T)))

      chain-from : (t : ℕ) (i : Third) (u : ℕ) (j : Third) → Connects n L G t i u j → Chain n L G (row t i) (row u j)
      chain-from t i u j meaning.here = here
      chain-from t i u j (meaning.on v _ k _ c h g o T) =
          let w = over-way v u k j o in
          on w.0 (row v k) (row u j) (chain-from t i v k c) (row_lt v n k h) w.1 (together v u k j T)

      -- ---- groups
      module _ (O : List ℕ) where
        firm : (t : ℕ) → any_of ss d t ≡ 0 → (get_or ss t d).any ≡ false
        unfolding flag
        firm t e = flag_same (get_or ss t d).any false e

        firm-word : (t : ℕ) → (get_or ss t d).any ≡ false → any_of ss d t ≡ 0
        unfolding flag
        firm-word t e = ap flag e

        firm-row : (t : ℕ) (i : Third) → (get_or ss t d).any ≡ false → any_of ss d (row t i / 3) ≡ 0
        firm-row t i e = ap (any_of ss d) (row-div t i) ∙ firm-word t e

        way-row : (t : ℕ) (i : Third) → get_or O (row t i / 3) 0 ≡ get_or O t 0
        way-row t i = ap (λ x. get_or O x 0) (row-div t i)

        pub groups-accepted : length G ≡ 3 * n → length O ≡ n → LinksFit (3 * n) (Same ss d) L → GroupsFit n (Same ss d) (any_of ss d) (way_of ss d) L G O → GroupsAccepted ss d L G O
        groups-accepted e f F K =
            record {
              long = (e, f);
              flags = K.flags;
              one_corner = λ t u i j h k T. same_at t u i j (K.one_corner (row t i) (row u j) (row_lt t n i h) (row_lt u n j k) (together t u i j T));
              one_way = λ t u i j h k T. sym (way-row t i) ∙ (K.one_way (row t i) (row u j) (row_lt t n i h) (row_lt u n j k) (together t u i j T) ∙ way-row u j);
              some = λ t i h a. K.some (row t i) (row_lt t n i h) (firm-row t i a);
              keeps = λ t h a. K.keeps t h (firm-word t a);
              one_group = λ t u i j h k l a b o.
                  let g = K.one_group (row t i) (row u j) (row_lt t n i h) l (firm-row t i a) (firm-row u j b) (way-row t i ∙ (o ∙ sym (way-row u j))) in
                  (one_group t u i (next-third j) (subst (Together G (row t i)) (end_is u j) g.0), one_group t u (next-third i) j (subst (λ x. Together G x (row u j)) (end_is t i) g.1));
              connected = λ t u i j h k T. chain-to F (row t i) (row u j) (K.connected (row t i) (row u j) (row_lt t n i h) (row_lt u n j k) (together t u i j T)) (row_lt t n i h) t u i j refl refl;
            }

        pub accepted-groups : LinksFit (3 * n) (Same ss d) L → GroupsAccepted ss d L G O → GroupsFit n (Same ss d) (any_of ss d) (way_of ss d) L G O
        accepted-groups F K =
            record {
              flags = K.flags;
              one_corner = λ r q h k T. both-rows (Same ss d) r q (at_same (r / 3) (q / 3) (third (r % 3)) (third (q % 3)) (K.one_corner (r / 3) (q / 3) (third (r % 3)) (third (q % 3)) (tri-lt r n h) (tri-lt q n k) (one r q T)));
              one_way = λ r q h k T. K.one_way (r / 3) (q / 3) (third (r % 3)) (third (q % 3)) (tri-lt r n h) (tri-lt q n k) (one r q T);
              some = λ r h a z. K.some (r / 3) (third (r % 3)) (tri-lt r n h) (firm (r / 3) a) (ap (λ x. get_or G x 0) (row_is r) ∙ z);
              keeps = λ t h a. K.keeps t h (firm t a);
              one_group = λ r q h l a b o.
                  let k = F.inside r q h l in
                  let g = K.one_group (r / 3) (q / 3) (third (r % 3)) (third (q % 3)) (tri-lt r n h) (tri-lt q n k) (rows_both (Leads L) r q l) (firm (r / 3) a) (firm (q / 3) b) o in (
                    subst (Together G r) (end-at q) (subst (λ x. Together G x (row (q / 3) (next-third (third (q % 3))))) (row_is r) (together (r / 3) (q / 3) (third (r % 3)) (next-third (third (q % 3))) g.0)),
                    subst (λ x. Together G x q) (end-at r) (subst (Together G (row (r / 3) (next-third (third (r % 3))))) (row_is q) (together (r / 3) (q / 3) (next-third (third (r % 3))) (third (q % 3)) g.1)),
                  );
              connected = λ r q h k T. both-rows (Chain n L G) r q (chain-from (r / 3) (third (r % 3)) (q / 3) (third (q % 3)) (K.connected (r / 3) (q / 3) (third (r % 3)) (third (q % 3)) (tri-lt r n h) (tri-lt q n k) (one r q T)));
            }
          where
            one : (r q : ℕ) → Together G r q → OneGroup G (r / 3) (third (r % 3)) (q / 3) (third (q % 3))
            one r q T = one_group (r / 3) (q / 3) (third (r % 3)) (third (q % 3)) (rows_both (Together G) r q T)
