-- Each way in which the cursors move. Assumes nothing.
use Prim.Native.Nat.{ℕ, zero, suc, ◌+◌, ◌-◌, ◌≤◌, ◌<◌}
use native.Mathlib.Nat.{eq-or-lt_of_le}
use native.Mathlib.Omega.{arith}
use mathlib.Core.Path.{◌≡◌, refl, sym, ap, ◌∙◌, subst}
use mathlib.Core.Bool.{Bool, true, false, cond}
use mathlib.Core.List.{List, [], ◌∷◌}
use mathlib.Core.Logic.{⊎_elim}
use borrow.Author.Tests.{eq-eqb}
use Rattle.table.specs.Table.{cell}
use Rattle.table.specs.Columns.{link_column}
use Rattle.lists.proofs.Loops.{up_to-more}
use Rattle.view.proofs.Frame.{only_none}
use Rattle.std.specs.Prelude.{Option, Some, None, is_some}
use Rattle.neighbors.specs.Links.{link_of, side_at, same_ends, suits, mate_from, mate_of, join, turn}
use Rattle.neighbors.specs.Cursors.{Like, Stands, Moves}
use Rattle.neighbors.proofs.Words.{not_free}
use Rattle.neighbors.proofs.Seek.{mate-end, mate-stop, mate-found, mate-more}
use Rattle.neighbors.proofs.Likes.{same-both, like-both, like-unfit, unfit-like}
use Rattle.neighbors.proofs.Joined.{joined-only, joined-ready, like-kept, like-linked}

-- a place below far + 1 is far or below it
cut : (far b : ℕ) → b < far + 1 → b ≤ far
cut far b h = omega arith

-- the cursors stand at near and far
module _ (rows n near far : ℕ) (w : List ℕ) (S : Stands rows n near far w) where
  -- the turn of `near` leaves the list as it is
  past : near < n → w ≡ turn rows n near w → Moves rows n near far (near + 1) far w w
  past h e = record {
    turns = λ v q. e ∙ ap (turn rows n near) q ∙ up_to-more near (turn rows n) v;
    stands = record { ready = S.ready; first = omega arith; second = S.second; likes = λ a b p q r. S.likes a b (omega arith) q r };
    less = omega arith;
    only = only_none (link_column ∷ []) rows w;
  }

  -- `far` is behind and is fetched
  pub fetched : near < n → far ≤ near → Moves rows n near far near (near + 1) w w
  fetched h l = record {
    turns = λ v q. q;
    stands = record { ready = S.ready; first = S.first; second = omega arith; likes = λ a b p q r. absurd (omega arith) };
    less = omega arith;
    only = only_none (link_column ∷ []) rows w;
  }

  -- the side at `near` is linked
  pub passed : near < n → is_some (link_of (cell rows link_column (side_at rows w near) w)) ≡ true → Moves rows n near far (near + 1) far w w
  unfolding turn
  passed h e = past h (sym (ap (λ (b : Bool). cond b (join rows (side_at rows w near) (mate_of rows n near w) w) w) (not_free _ e)))

  -- it is unlinked, and `far` is ahead
  module _ (free : cell rows link_column (side_at rows w near) w ≡ 0) (ahead : near < far) where
    -- its mate is not among the places between
    skip : (d : ℕ) → near + 1 + d ≤ far → mate_of rows n near w ≡ mate_from rows n near w (near + 1 + d)
    skip zero h = let e : near + 1 ≡ near + 1 + 0 = omega arith in ap (mate_from rows n near w) e
    skip (suc d) h =
        let l : Like rows w near (near + 1 + d) = S.likes near (near + 1 + d) (omega arith) (omega arith) (omega arith) in
        let e : near + 1 + d + 1 ≡ near + 1 + suc d = omega arith in
        skip d (omega arith)
        ∙ mate-more rows n near w (near + 1 + d) (omega (arith, S.second)) l.ends (like-unfit rows w near free (near + 1 + d) l)
        ∙ ap (mate_from rows n near w) e

    -- so the search can go on at `far`
    skipped : mate_of rows n near w ≡ mate_from rows n near w far
    skipped =
        let e : near + 1 + (far - (near + 1)) ≡ far = omega arith in
        skip (far - (near + 1)) (omega arith) ∙ ap (mate_from rows n near w) e

    -- the turn joins it with what the search finds from there
    turned : (m : Option ℕ) → mate_from rows n near w far ≡ m → join rows (side_at rows w near) m w ≡ turn rows n near w
    unfolding turn
    turned m e =
        ap (λ (x : Option ℕ). join rows (side_at rows w near) x w) (sym (skipped ∙ e))
        ∙ sym (ap (λ (b : Bool). cond b (join rows (side_at rows w near) (mate_of rows n near w) w) w) (eq-eqb _ _ free))

    -- no place is left for it
    pub ended : far ≡ n → Moves rows n near far (near + 1) far w w
    ended e = past (omega arith) (turned None (mate-end rows n near w far (omega arith)))

    -- the side at `far` is looked at
    module _ (within : far < n) where
      -- it has other ends, so no side with the same ends is left
      pub parted : same_ends rows (side_at rows w near) (side_at rows w far) w ≡ false → Moves rows n near far (near + 1) far w w
      parted e = past (omega arith) (turned None (mate-stop rows n near w far within e))

      -- it has the same ends
      module _ (same : same_ends rows (side_at rows w near) (side_at rows w far) w ≡ true) where
        -- it does not suit
        pub unsuited : suits rows (side_at rows w near) (side_at rows w far) w ≡ false → Moves rows n near far near (far + 1) w w
        unsuited f = record {
          turns = λ v q. q;
          stands = record {
            ready = S.ready;
            first = S.first;
            second = omega arith;
            likes = λ a b p q r. ⊎_elim
                (λ e. subst (Like rows w a) (sym e) (last a p (omega arith)))
                (λ h. S.likes a b p q h)
                (eq-or-lt_of_le (cut far b r));
          };
          less = omega arith;
          only = only_none (link_column ∷ []) rows w;
        }
          where
            -- it is like the side at `near`
            l : Like rows w near far
            l = unfit-like rows w near far same f

            -- the side at any place between is like it
            last : (a : ℕ) → near ≤ a → a < far → Like rows w a far
            last a p q = ⊎_elim
                (λ e. subst (λ (k : ℕ). Like rows w k far) e l)
                (λ h. like-both rows w near free a far (S.likes near a (omega arith) h q) l)
                (eq-or-lt_of_le p)

        -- it is the mate
        linked : suits rows (side_at rows w near) (side_at rows w far) w ≡ true → Moves rows n near far (near + 1) (far + 1) w (join rows (side_at rows w near) (Some (side_at rows w far)) w)
        linked f = record {
          turns = λ v q. turned (Some (side_at rows w far)) (mate-found rows n near w far within same f) ∙ ap (turn rows n near) q ∙ up_to-more near (turn rows n) v;
          stands = record {
            ready = joined-ready rows n s u w S.ready hs hu;
            first = omega arith;
            second = omega arith;
            likes = λ a b p q r. ⊎_elim
                (λ e. subst (Like rows _ a) (sym e) (like-linked rows n s u w S.ready hs hu a far (omega arith) within refl (same-both rows s (side_at rows w a) u w (S.likes near a (omega arith) (omega arith) (omega arith)).ends same)))
                (λ h. like-kept rows n s u w S.ready hs hu a b (omega arith) (omega arith) (S.likes a b (omega arith) q h))
                (eq-or-lt_of_le (cut far b r));
          };
          less = omega arith;
          only = joined-only rows n s u w S.ready hs hu;
        }
          where
            s : ℕ
            s = side_at rows w near

            u : ℕ
            u = side_at rows w far

            hs : s < n
            hs = S.ready.order near (omega arith)

            hu : u < n
            hu = S.ready.order far within

        -- the list u after the two sides, s and t, were linked
        pub linked-as : (s t : ℕ) (u : List ℕ) → s ≡ side_at rows w near → t ≡ side_at rows w far → u ≡ join rows s (Some t) w → suits rows (side_at rows w near) (side_at rows w far) w ≡ true → Moves rows n near far (near + 1) (far + 1) w u
        linked-as s t u p q e f = subst (Moves rows n near far (near + 1) (far + 1) w) (sym (e ∙ (λ k. join rows (p k) (Some (q k)) w))) (linked f)
