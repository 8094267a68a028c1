-- The scan of the sorted rows: the lowest row of each group. Assumes nothing.
use Prim.Native.Nat.{ℕ, zero, suc, ◌+◌, ◌*◌, ◌≤◌, ◌<◌}
use native.Mathlib.Nat.{eq-or-lt_of_le}
use native.Mathlib.Omega.{arith}
use mathlib.Core.Path.{◌≡◌, refl, sym, ◌∙◌, ap, subst}
use mathlib.Core.List.{List, [], ◌∷◌}
use mathlib.Core.Logic.{⊎_elim}
use lib.ListN.{length, get_or}
use lib.Seq.{get_or-set_same, get_or-set_other}
use Rattle.table.specs.Table.{cell, put}
use Rattle.table.specs.Columns.{columns, order_column, head_column}
use Rattle.view.specs.Frame.{Only}
use Rattle.view.proofs.Frame.{cell-kept, only_none, only-put}
use Rattle.asked.proofs.Rows.{same_or}
use Rattle.asked.proofs.Fits.{ordered}
use Rattle.firsts.specs.Firsts.{Alike, InOrder, Runs, begins, goes_on, Right, Heads}

-- after the places below a of the order in w₀: their rows are right, and `first` is the first of the last one's group, or n
pub record Heading (rows n : ℕ) (G w₀ w : List ℕ) (a first : ℕ) : Type 0 where
  pub only : Only (head_column ∷ []) rows w₀ w
  pub right : (c : ℕ) → c < a → Right n G (cell rows order_column c w₀) (cell rows head_column (cell rows order_column c w₀) w)
  pub low : first ≤ n
  pub start : a ≡ 0 → first ≡ n
  pub last : (b : ℕ) → a ≡ suc b → Right n G (cell rows order_column b w₀) (first + 1)

-- the first of a run is a row
pub runs-low : (n : ℕ) (G : List ℕ) (first r f : ℕ) → r < n → Runs n G first r f → f < n
runs-low n G first r f h (begins ne) = h
runs-low n G first r f h (goes_on l al) = l

module _ (rows n : ℕ) (G w₀ : List ℕ) (fits : n ≤ rows) (long : columns * rows ≤ length w₀) (K : InOrder rows n G w₀) where
  abbrev X : ℕ → ℕ
  X a = cell rows order_column a w₀

  abbrev word : ℕ → ℕ
  word r = get_or G r 0

  pub heading-none : Heading rows n G w₀ w₀ 0 n
  heading-none = record { only = only_none (head_column ∷ []) rows w₀; right = λ c h. absurd (omega arith); low = omega arith; start = λ _. refl; last = λ b e. absurd (omega arith) }

  rises-le : (a b : ℕ) → a ≤ b → b < n → word (X a) ≤ word (X b)
  rises-le a b h l = ⊎_elim (λ e. let x = ap (λ (c : ℕ). word (X c)) e in omega arith) (λ k. K.rises a b k l) (eq-or-lt_of_le h)

  -- the first of the run goes on
  right-on : (a first : ℕ) → a < n → ((b : ℕ) → a ≡ suc b → Right n G (X b) (first + 1)) → (a ≡ 0 → first ≡ n) → first < n → Alike G first (X a) → Right n G (X a) (first + 1)
  right-on zero first h last start l al = absurd (let e = start refl in omega arith)
  right-on (suc b) first h last start l al =
      let R = last b refl in
      let e : R.first ≡ first = let i = R.is in omega arith in
      let x : word (X b) ≡ word (X (suc b)) = sym R.alike ∙ (ap word e ∙ al) in
      record {
        first = first;
        is = refl;
        low = subst (λ (f : ℕ). f ≤ X (suc b)) e (R.least (X (suc b)) (K.below (suc b) h) (sym x));
        alike = al;
        least = λ r i q. subst (λ (f : ℕ). f ≤ r) e (R.least r i (q ∙ sym x));
      }

  -- a new run begins
  right_new : (a first : ℕ) → a < n → ((b : ℕ) → a ≡ suc b → Right n G (X b) (first + 1)) → (first < n → Alike G first (X a) → ⊥) → Right n G (X a) (X a + 1)
  right_new a first h last ne = record { first = X a; is = refl; low = omega arith; alike = refl; least = least }
    where
      earlier : (a b : ℕ) → a < n → ((b : ℕ) → a ≡ suc b → Right n G (X b) (first + 1)) → (first < n → Alike G first (X a) → ⊥) → b < a → word (X b) ≡ word (X a) → ⊥
      earlier zero b h last ne l e = omega arith
      earlier (suc c) b h last ne l e =
          let R = last c refl in
          let f : R.first ≡ first = let i = R.is in omega arith in
          let x = rises-le b c (omega arith) (omega arith) in
          let y = rises-le c (suc c) (omega arith) h in
          let z : word (X c) ≡ word (X (suc c)) = omega arith in
          let k = K.below c (omega arith) in
          let m = R.low in
          ne (omega arith) (sym (ap word f) ∙ (R.alike ∙ z))

      least : (e : ℕ) → e < n → Alike G e (X a) → X a ≤ e
      least e l al =
          let f = K.found e l in
          let q : word (X f.0) ≡ word (X a) = ap word f.2 ∙ al in
          ordered a f.0
          (λ k. subst (λ (x : ℕ). X a ≤ x) f.2 (K.steps a f.0 k f.1 (sym q)))
          (λ k. let x = ap X k in let y = f.2 in omega arith)
          (λ k. absurd (earlier a f.0 h last ne k q))

  pub runs-right : (w : List ℕ) (a first f r : ℕ) → a < n → Heading rows n G w₀ w a first → r ≡ X a → Runs n G first r f → Right n G (X a) (f + 1)
  runs-right w a first f r h H e R = go f (subst (λ (x : ℕ). Runs n G first x f) e R)
    where
      go : (f : ℕ) → Runs n G first (X a) f → Right n G (X a) (f + 1)
      go f (begins ne) = right_new a first h H.last ne
      go f (goes_on l al) = right-on a first h H.last H.start l al

  pub heading-more : (w u : List ℕ) (a first f r : ℕ) → a < n → Heading rows n G w₀ w a first → r ≡ X a → Right n G (X a) (f + 1) → u ≡ put rows head_column r (f + 1) w → Heading rows n G w₀ u (a + 1) f
  heading-more w u a first f r h H e R p =
      record {
        only = subst (Only (head_column ∷ []) rows w₀) (sym q) (only-put (head_column ∷ []) rows w₀ w head_column (X a) (f + 1) refl (omega arith) (omega (arith, K.below a h)) H.only);
        right = λ c l. same_or (X c) (X a) (here c) (λ ne. other c ne (H.right c (apart c ne l)));
        low = let i = R.is in let j = R.low in let k = K.below a h in omega arith;
        start = λ z. absurd (omega arith);
        last = λ b z. subst (λ (c : ℕ). Right n G (X c) (f + 1)) (let y : a ≡ b = omega arith in y) R;
      }
    where
      q : u ≡ put rows head_column (X a) (f + 1) w
      q = p ∙ ap (λ (x : ℕ). put rows head_column x (f + 1) w) e

      full : columns * rows ≤ length w
      full = let z = H.only.size in omega arith

      here : (c : ℕ) → X c ≡ X a → Right n G (X c) (cell rows head_column (X c) u)
      here c z =
          let v : cell rows head_column (X a) u ≡ f + 1 = ap (cell rows head_column (X a)) q ∙ get_or-set_same w (head_column * rows + X a) (f + 1) 0 (omega (arith, full, K.below a h)) in
          subst (λ (x : ℕ). Right n G x (cell rows head_column x u)) (sym z) (subst (Right n G (X a)) (sym v) R)

      apart : (c : ℕ) → (X c ≡ X a → ⊥) → c < a + 1 → c < a
      apart c ne l = let k : c ≤ a = omega arith in ⊎_elim (λ z. absurd (ne (ap X z))) (λ i. i) (eq-or-lt_of_le k)

      other : (c : ℕ) → (X c ≡ X a → ⊥) → Right n G (X c) (cell rows head_column (X c) w) → Right n G (X c) (cell rows head_column (X c) u)
      other c ne Q = subst (Right n G (X c)) (sym (ap (cell rows head_column (X c)) q ∙ get_or-set_other w (head_column * rows + X a) (head_column * rows + X c) (f + 1) 0 (λ z. ne (omega arith)))) Q

  pub heading-all : (w : List ℕ) (a first : ℕ) → n ≤ a → Heading rows n G w₀ w a first → Heads rows n G w₀ w
  heading-all w a first h H =
      record {
        firsts = record { right = λ r l. let f = K.found r l in subst (λ (x : ℕ). Right n G x (cell rows head_column x w)) f.2 (H.right f.0 (omega (arith, f.1))) };
        only = H.only;
      }

  -- the order stands
  pub order-stands : (w : List ℕ) (a first : ℕ) → Heading rows n G w₀ w a first → (c : ℕ) → c < n → cell rows order_column c w ≡ X c
  order-stands w a first H c l = cell-kept (head_column ∷ []) rows w₀ w H.only order_column c refl (omega arith)
