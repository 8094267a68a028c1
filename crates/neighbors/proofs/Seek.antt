-- The search for a mate, a place at a time. Assumes nothing.
use Prim.Native.Nat.{ℕ, suc, ◌+◌, ◌-◌, ◌≤◌, ◌<◌}
use native.Mathlib.Numerals.{add-one}
use native.Mathlib.Omega.{arith}
use mathlib.Core.Path.{◌≡◌, sym, ap, ◌∙◌}
use mathlib.Core.Bool.{Bool, true, false, cond}
use mathlib.Core.List.{List}
use Rattle.std.specs.Prelude.{Some, None}
use Rattle.neighbors.specs.Links.{side_at, same_ends, suits, seek, mate_from}

-- place b of a search up to n
module _ (same suit : ℕ → Bool) (side : ℕ → ℕ) (n b : ℕ) (lt : b < n) where
  -- what the search does there
  seek-step : seek (n - b) same suit side b ≡ cond (same b) (cond (suit b) (Some (side b)) (seek (n - (b + 1)) same suit side (b + 1))) None
  unfolding seek
  seek-step =
      let one : n - b ≡ suc (n - (b + 1)) = omega arith in
      ap (λ (m : ℕ). seek m same suit side b) one
      ∙ ap (λ (k : ℕ). cond (same b) (cond (suit b) (Some (side b)) (seek (n - (b + 1)) same suit side k)) None) (sym (add-one b))

  -- other ends
  seek_stop : same b ≡ false → seek (n - b) same suit side b ≡ None
  seek_stop s = rw (seek-step, s)

  -- found
  seek_found : same b ≡ true → suit b ≡ true → seek (n - b) same suit side b ≡ Some (side b)
  seek_found s f = rw (seek-step, s, f)

  -- the same ends, and not found
  seek-more : same b ≡ true → suit b ≡ false → seek (n - b) same suit side b ≡ seek (n - (b + 1)) same suit side (b + 1)
  seek-more s f = rw (seek-step, s, f)

-- the mate of the side at place a, sought from place b on
module _ (rows n a : ℕ) (w : List ℕ) (b : ℕ) where
  -- no place is left
  pub mate-end : n ≤ b → mate_from rows n a w b ≡ None
  unfolding mate_from seek
  mate-end le =
      let none : n - b ≡ 0 = omega arith in
      ap (λ (m : ℕ). seek m (λ b. same_ends rows (side_at rows w a) (side_at rows w b) w) (λ b. suits rows (side_at rows w a) (side_at rows w b) w) (side_at rows w) b) none

  -- the side at place b has other ends
  pub mate-stop : b < n → same_ends rows (side_at rows w a) (side_at rows w b) w ≡ false → mate_from rows n a w b ≡ None
  unfolding mate_from
  mate-stop lt e = seek_stop _ _ _ n b lt e

  -- it is the mate
  pub mate-found : b < n → same_ends rows (side_at rows w a) (side_at rows w b) w ≡ true → suits rows (side_at rows w a) (side_at rows w b) w ≡ true → mate_from rows n a w b ≡ Some (side_at rows w b)
  unfolding mate_from
  mate-found lt e f = seek_found _ _ _ n b lt e f

  -- it has the same ends and does not suit
  pub mate-more : b < n → same_ends rows (side_at rows w a) (side_at rows w b) w ≡ true → suits rows (side_at rows w a) (side_at rows w b) w ≡ false → mate_from rows n a w b ≡ mate_from rows n a w (b + 1)
  unfolding mate_from
  mate-more lt e f = seek-more _ _ _ n b lt e f
