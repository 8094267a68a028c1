-- The steps of the walk in the columns. Assumes nothing.
use Prim.Native.Nat.{ℕ, ◌+◌, ◌*◌, ◌-◌, ◌≤◌, ◌<◌}
use native.Mathlib.Nat.{le_antisymm}
use native.Mathlib.Omega.{arith}
use mathlib.Core.Path.{◌≡◌, refl, sym, subst, ap, ◌∙◌}
use mathlib.Core.Bool.{Bool, true, false, true≢false}
use mathlib.Core.List.{List, [], ◌∷◌}
use lib.ListN.{length, get_or}
use lib.Seq.{get_or-set_same, get_or-set_other}
use Rattle.std.proofs.Common.{Option, Some, None as NoRow, IfSome, unwrap_or}
use Rattle.asked.proofs.Fits.{same-unless}
use Rattle.table.specs.Table.{cell, put, column, filled_to}
use Rattle.table.specs.Columns.{columns, next_column, head_column}
use Rattle.table.proofs.Laws.{column-set, get_or-column, length-column, filled-column}
use Rattle.lists.proofs.Loops.{get_or-list_of, length-list_of}
use Rattle.lists.specs.Loops.{list_of}
use Rattle.view.specs.Frame.{Only}
use Rattle.view.proofs.Frame.{cell-kept, only-run}
use Rattle.neighbors.specs.Sides.{end_row}
use Rattle.asked.specs.Lowest.{Lowest}
use Rattle.asked.specs.Links.{Equal, LinksFit}
use Rattle.asked.specs.Groups.{group_word, Together, Connected, Way, after, before, Severed}
use Rattle.lists.specs.Zeros.{zeros}
use Rattle.lists.proofs.Zeros.{zeros-set}
use Rattle.severed.specs.Walk.{Adds, NextIs, Marked, WayTo, Still, Goes, WalksGroup, Firsts, WalksTo, TurnsAt, unmarked}
use Rattle.asked.proofs.Ways.{end-one, way-one}
use Rattle.severed.proofs.Walks.{going_on, going-first, going-back, walked_none, walked_more, walked-pass, walked-severed, walked_all, connected-none}

-- ---- where a way leads

module _ (n : ℕ) (L : List ℕ) where
  nowhere-after : (b : Bool) (x p : ℕ) → Way L b x p → b ≡ false → get_or L x 0 ≡ 0 → ⊥
  nowhere-after b x p (after _ q l) e z = omega arith
  nowhere-after b x p (before u q l) e z = true≢false e

  nowhere-before : (b : Bool) (x p e : ℕ) → Way L b x p → b ≡ true → end_row e ≡ x → get_or L e 0 ≡ 0 → ⊥
  nowhere-before b x p e (after _ q l) c y z = true≢false (sym c)
  nowhere-before b x p e (before u q l) c y z = let f = ap (λ k. get_or L k 0) (end-one e u y) in omega arith

  pub way-after-none : (b : Bool) (x v : ℕ) → b ≡ false → v ≡ get_or L x 0 → v ≡ 0 → WayTo n L b x NoRow
  way-after-none b x v c e z = λ p w. nowhere-after b x p w c (sym e ∙ z)

  pub way-before-none : (b : Bool) (x e v : ℕ) → b ≡ true → end_row e ≡ x → v ≡ get_or L e 0 → v ≡ 0 → WayTo n L b x NoRow
  way-before-none b x e v c y q z = λ p w. nowhere-before b x p e w c y (sym q ∙ z)

  pub way-after-to : (b : Bool) (x v y : ℕ) → b ≡ false → v ≡ get_or L x 0 → (v ≡ 0 → ⊥) → y ≡ end_row (v - 1) → y < 3 * n → WayTo n L b x (Some y)
  way-after-to b x v y c e ne f h = (h, subst (λ d. Way L d x y) (sym c) (subst (Way L false x) (sym f) (after x (v - 1) (omega arith))))

  pub way-before-to : (b : Bool) (x e v : ℕ) → b ≡ true → end_row e ≡ x → v ≡ get_or L e 0 → (v ≡ 0 → ⊥) → v ≤ 3 * n → WayTo n L b x (Some (v - 1))
  way-before-to b x e v c y q ne h = (omega arith, subst (λ d. Way L d x (v - 1)) (sym c) (subst (λ z. Way L true z (v - 1)) y (before e (v - 1) (omega arith))))

  pub way_of : (b c : Bool) (x : ℕ) (y : Option ℕ) → c ≡ b → WayTo n L b x y → WayTo n L c x y
  way_of b c x y e W = subst (λ d. WayTo n L d x y) (sym e) W

  -- ---- the next

  module _ (G : List ℕ) (M : ℕ → Type 0) (b : Bool) (x : ℕ) where
    pub next-nowhere : ((p : ℕ) → Way L b x p → ⊥) → NextIs n L G M b x (3 * n)
    next-nowhere none = record { low = omega arith; ahead = λ p w t ne. absurd (none p w); way = λ h. absurd (omega arith); together = λ h. absurd (omega arith); fresh = λ h. absurd (omega arith) }

    pub next-other : (y g k : ℕ) → Way L b x y → g ≡ group_word G y → k ≡ group_word G x → (g ≡ k → ⊥) → NextIs n L G M b x (3 * n)
    next-other y g k W p q ne =
        record {
          low = omega arith;
          ahead = λ s w t d. absurd (ne (p ∙ (ap (group_word G) (way-one L b x y s W w) ∙ (sym t.same ∙ sym q))));
          way = λ h. absurd (omega arith);
          together = λ h. absurd (omega arith);
          fresh = λ h. absurd (omega arith);
        }

    pub next-marked : (y : ℕ) → Way L b x y → M y → NextIs n L G M b x (3 * n)
    next-marked y W m =
        record {
          low = omega arith;
          ahead = λ s w t d. subst M (way-one L b x y s W w) m;
          way = λ h. absurd (omega arith);
          together = λ h. absurd (omega arith);
          fresh = λ h. absurd (omega arith);
        }

    pub next_here : (y g k : ℕ) → y < 3 * n → Way L b x y → g ≡ group_word G y → k ≡ group_word G x → g ≡ k → (group_word G x ≡ 0 → ⊥) → (M y → ⊥) → NextIs n L G M b x y
    next_here y g k l W p q e some fresh =
        record {
          low = omega arith;
          ahead = λ s w t d. absurd (d (way-one L b x s y w W));
          way = λ _. W;
          together = λ h. record { same = sym q ∙ (sym e ∙ p); some = some };
          fresh = λ h. fresh;
        }

-- what is next is unmarked and in a group
pub next-start : (rows n : ℕ) (L G w : List ℕ) (b : Bool) (x : ℕ) (y : Option ℕ) → NextIs n L G (Marked rows w) b x (unwrap_or y (3 * n)) → IfSome y (λ p. p < 3 * n) → IfSome y (λ p. (p < 3 * n) × (group_word G p ≡ 0 → ⊥) × (cell rows next_column p w ≡ 0))
next-start rows n L G w b x NoRow N h = tt
next-start rows n L G w b x (Some p) N h = (h, (λ z. (N.together h).some ((N.together h).same ∙ z)), same-unless _ _ (N.fresh h))

-- ---- a mark

module _ (rows x : ℕ) (w : List ℕ) (h : x < rows) (long : columns * rows ≤ length w) where
  pub mark-adds : Adds (Marked rows w) (Marked rows (put rows next_column x 1 w)) x
  mark-adds =
      record {
        keeps = λ r m z. keep r m z;
        adds = λ z. let e = get_or-set_same w (next_column * rows + x) 1 0 (omega arith) in omega arith;
        only = λ r ne m z. m (get_or-set_other w (next_column * rows + x) (next_column * rows + r) 1 0 (λ e. ne (omega arith)) ∙ z);
      }
    where
      keep : (r : ℕ) → Marked rows w r → Marked rows (put rows next_column x 1 w) r
      keep r m z = m (sym (get_or-set_other w (next_column * rows + x) (next_column * rows + r) 1 0 (λ e. clash (omega arith))) ∙ z)
        where
          clash : r ≡ x → ⊥
          clash e = let q = get_or-set_same w (next_column * rows + x) 1 0 (omega arith) in let y = ap (λ k. cell rows next_column k (put rows next_column x 1 w)) e in omega arith

  pub fewer : cell rows next_column x w ≡ 0 → unmarked rows (put rows next_column x 1 w) < unmarked rows w
  unfolding unmarked
  fewer z = omega (arith, ap zeros (column-set rows next_column next_column x 1 w h), zeros-set (column rows next_column w) x 1 (omega (arith, length-column rows w next_column (omega arith))) (get_or-column rows w next_column x h ∙ z) (omega arith))

-- ---- the walk

module _ (rows n : ℕ) (L G : List ℕ) where
  pub goes_none : (b : Bool) (x : ℕ) (w : List ℕ) → Goes rows n L G b x x w w
  goes_none b x w = record { goes = λ vertex w₀ f F K. K }

  pub goes-more : (b : Bool) (s x y : ℕ) (w u v : List ℕ) → x < 3 * n → x < rows → columns * rows ≤ length u → Goes rows n L G b s x w u → v ≡ put rows next_column x 1 u → NextIs n L G (Marked rows v) b x y → Goes rows n L G b s y w v
  goes-more b s x y w u v h k long K e Y =
      record { goes = λ vertex w₀ f F Z. going_on n vertex L G F (Marked rows w₀) (Marked rows u) (Marked rows v) (Still b f) b f x y h (subst (λ z. Adds (Marked rows u) (Marked rows z) x) (sym e) (mark-adds rows x u k long)) Y (K.goes vertex w₀ f F Z) }

  pub goes-none-left : (b : Bool) (s : ℕ) (y : Option ℕ) (w u : List ℕ) → ((x : ℕ) → y ≡ Some x → ⊥) → Goes rows n L G b s (unwrap_or y (3 * n)) w u → Goes rows n L G b s (3 * n) w u
  goes-none-left b s NoRow w u ne K = K
  goes-none-left b s (Some x) w u ne K = absurd (ne x refl)

  -- a group: its first is marked, the one way is gone, then the other
  pub walks-group : (f x y : ℕ) (w v u z : List ℕ) → f < 3 * n → f < rows → columns * rows ≤ length w → (group_word G f ≡ 0 → ⊥) → v ≡ put rows next_column f 1 w → NextIs n L G (Marked rows v) false f x → Goes rows n L G false x (3 * n) v u → NextIs n L G (Marked rows u) true f y → Goes rows n L G true y (3 * n) u z → WalksGroup rows n L G f w z
  walks-group f x y w v u z h k long g e X A Y B =
      record {
        walks = λ vertex F lone W.
            let none : (q : ℕ) → q < 3 * n → Marked rows w q → Together G f q → ⊥ = λ q i m t. W.begun q i m (λ p l s. lone p l (record { same = s.same ∙ sym t.same; some = s.some })) in
            let K = going-first n vertex L G F (Marked rows w) (Marked rows v) (Still false f) f x (refl, refl) h g none (subst (λ c. Adds (Marked rows w) (Marked rows c) f) (sym e) (mark-adds rows f w k long)) X in
            let J = A.goes vertex w f F K in
            let I = going-back n vertex L G F (Marked rows w) (Marked rows u) (Still false f) (Still true f) f (3 * n) y (λ q s. s.1) h g (omega arith) J Y in
            walked_more n vertex L G F (Marked rows w) (Marked rows z) (Still true f) f (3 * n) (λ q s. true≢false s.0) h g (omega arith) (B.goes vertex w f F I) W;
      }

  -- ---- the turns of the rows

  pub turn-free : (r g : ℕ) (w : List ℕ) → g ≡ group_word G r → g ≡ 0 → TurnsAt rows n L G r w w false
  turn-free r g w e z =
      record { goes_on = λ _ W. record { walked = λ vertex F. walked-pass n vertex L G F (Marked rows w) r (W.walked vertex F) (λ ne. absurd (ne (sym e ∙ z))) }; objects = λ c. absurd (true≢false (sym c)) }

  pub turn-marked : (r : ℕ) (w : List ℕ) → Marked rows w r → TurnsAt rows n L G r w w false
  turn-marked r w m = record { goes_on = λ _ W. record { walked = λ vertex F. walked-pass n vertex L G F (Marked rows w) r (W.walked vertex F) (λ ne. m) }; objects = λ c. absurd (true≢false (sym c)) }

  pub turn-severed : (r g m f : ℕ) (w : List ℕ) → r < 3 * n → Firsts rows n G w → g ≡ group_word G r → (g ≡ 0 → ⊥) → m ≡ cell rows next_column r w → m ≡ 0 → f ≡ cell rows head_column r w → (f ≡ r + 1 → ⊥) → TurnsAt rows n L G r w w true
  turn-severed r g m f w h S e ne p z q d =
      record {
        goes_on = λ c. absurd (true≢false c);
        objects = λ _ W vertex F.
            let k = S.fellow r h (λ y. ne (e ∙ y)) (λ y. d (q ∙ y)) in
            walked-severed n vertex L G F (Marked rows w) r k.0 h (W.walked vertex F) (λ y. y (sym p ∙ z)) k.1 k.2;
      }

  pub turn-walked : (r f : ℕ) (w u : List ℕ) → r < 3 * n → Firsts rows n G w → f ≡ cell rows head_column r w → f ≡ r + 1 → WalksGroup rows n L G r w u → TurnsAt rows n L G r w u false
  turn-walked r f w u h S q d K =
      record { goes_on = λ _ W. record { walked = λ vertex F. K.walks vertex F (S.lone r h (sym q ∙ d)) (W.walked vertex F) }; objects = λ c. absurd (true≢false (sym c)) }

  -- none is marked at first
  pub walks-none : (w u : List ℕ) → 3 * n ≤ rows → columns * rows ≤ length w → u ≡ filled_to rows next_column (λ _. 0) w rows → WalksTo rows n L G 0 u
  walks-none w u fits long e =
      record {
        walked = λ vertex F. walked_none n vertex L G F (Marked rows u)
            (λ q h m. m (ap (cell rows next_column q) e ∙ (sym (get_or-column rows (filled_to rows next_column (λ _. 0) w rows) next_column q (omega arith)) ∙ (ap (λ (l : List ℕ). get_or l q 0) (filled-column rows next_column next_column (λ _. 0) w (omega arith)) ∙ get_or-list_of rows (λ _. 0) 0 q (omega arith)))));
      }

  pub only-cleared : (w u : List ℕ) → u ≡ filled_to rows next_column (λ _. 0) w rows → Only (next_column ∷ []) rows w u
  only-cleared w u e = only-run (next_column ∷ []) rows next_column 0 w u (list_of rows (λ _. 0)) refl (omega arith) (omega (arith, length-list_of {S = ℕ} rows (λ _. 0))) e

  -- the lowest rows stand
  pub firsts-kept : (w u : List ℕ) → 3 * n ≤ rows → Only (next_column ∷ []) rows w u → Firsts rows n G w → Firsts rows n G u
  firsts-kept w u fits O S =
      record {
        lone = λ r h e. S.lone r h (sym (cell-kept (next_column ∷ []) rows w u O head_column r refl (omega arith)) ∙ e);
        fellow = λ r h g d. S.fellow r h g (λ e. d (cell-kept (next_column ∷ []) rows w u O head_column r refl (omega arith) ∙ e));
      }

  -- all rows: every group is connected, and none is severed
  pub walks-connected : (r : ℕ) (w : List ℕ) → 3 * n ≤ r → WalksTo rows n L G r w → (vertex : ℕ → ℕ) → LinksFit (3 * n) (Equal vertex) L → Connected n L G
  walks-connected r w k W vertex F a b = walked_all n vertex L G F (Marked rows w) r k (W.walked vertex F) a b

  pub walks-all : (r : ℕ) (w : List ℕ) → r ≤ 3 * n → 3 * n ≤ r → WalksTo rows n L G r w → (vertex : ℕ → ℕ) → LinksFit (3 * n) (Equal vertex) L → Lowest (Severed n L G) (3 * n) (3 * n)
  walks-all r w h k W vertex F =
      record { low = omega arith; none = λ q l s. connected-none n vertex L G F (walks-connected r w k W vertex F) q l s; here = λ l. absurd (omega arith) }
