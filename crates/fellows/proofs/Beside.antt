-- A corner beside the first of its group, and the ends of a linked side. Assumes nothing.
use Prim.Native.Nat.{ℕ, ◌+◌, ◌*◌, ◌-◌, ◌/◌, ◌≤◌, ◌<◌}
use native.Mathlib.Nat.{le_antisymm}
use native.Mathlib.Omega.{arith}
use mathlib.Core.Path.{◌≡◌, sym, ap, ◌∙◌}
use mathlib.Core.Bool.{Bool}
use Rattle.std.proofs.Common.{Option, Some, None as NoRow}
use Rattle.fellows.specs.declared.Shared.{Shared}
use mathlib.Core.List.{List}
use lib.ListN.{get_or}
use Rattle.table.specs.Table.{cell}
use Rattle.table.specs.Columns.{head_column}
use Rattle.neighbors.specs.Sides.{end_row}
use Rattle.asked.specs.Lowest.{None, Finds, Tells}
use Rattle.asked.specs.Links.{Equal, Leads}
use Rattle.asked.specs.Groups.{group_word, way_word, Unlike, Parted}
use Rattle.asked.proofs.Fits.{same-unless}
use Rattle.firsts.specs.Firsts.{Alike, Right, Firsts}
use Rattle.severed.specs.Walk as walk
use Rattle.fellows.specs.Fellows.{shared, UnlikeFirst, FirmPair, EndsTogether}

-- the first rows of two of one word are one
one-first : (n : ℕ) (G : List ℕ) (r q h k : ℕ) → r < n → q < n → Alike G r q → (R : Right n G r h) → (Q : Right n G q k) → R.first ≡ Q.first
one-first n G r q h k i j e R Q =
    le_antisymm
    (R.least Q.first (let l = Q.low in omega arith) (Q.alike ∙ sym e))
    (Q.least R.first (let l = R.low in omega arith) (R.alike ∙ e))

module _ (rows n : ℕ) (w G O : List ℕ) (share : Shared) (F : Firsts rows n G w) where
  abbrev value : ℕ → ℕ
  value = shared rows w O share

  first_is : (r : ℕ) (h : r < n) → cell rows head_column r w - 1 ≡ (F.right r h).first
  first_is r h = let i = (F.right r h).is in omega arith

  -- a corner that is unlike the first is unlike an earlier one
  pub unlike-here : (r : ℕ) → r < n → UnlikeFirst rows w G O share r → Unlike (Equal value) G r
  unlike-here r h U =
      let R = F.right r h in
      let ne : value R.first ≡ value r → ⊥ = λ e. U.differs (ap value (first_is r h) ∙ e) in
      let l = R.low in
      let d : R.first ≡ r → ⊥ = λ e. ne (ap value e) in
      record { fellow = R.first; earlier = omega arith; together = record { same = R.alike; some = λ z. U.some (sym R.alike ∙ z) }; differs = ne }

  -- where none is unlike the first of its group, no two are unlike
  like-first : (r : ℕ) (h : r < n) → (UnlikeFirst rows w G O share r → ⊥) → (group_word G r ≡ 0 → ⊥) → value (F.right r h).first ≡ value r
  like-first r h never some = ap value (sym (first_is r h)) ∙ same-unless (value (cell rows head_column r w - 1)) (value r) (λ ne. never (record { some = some; differs = ne }))

  pub none-unlike : (m : ℕ) → m ≤ n → None (UnlikeFirst rows w G O share) m → None (Unlike (Equal value) G) m
  none-unlike m l never q h U =
      let e = U.fellow in
      let k = U.earlier in
      let T = U.together in
      let i : e < n = omega arith in
      let j : q < n = omega arith in
      let s : group_word G q ≡ 0 → ⊥ = λ z. T.some (T.same ∙ z) in
      U.differs (sym (like-first e i (never e (omega arith)) T.some) ∙ (ap value (one-first n G e q _ _ i j T.same (F.right e i) (F.right q j)) ∙ like-first q j (never q h) s))

  -- the lowest that is unlike the first of its group is the lowest that is unlike another
  pub finds-unlike : (found : Option ℕ) → Finds (UnlikeFirst rows w G O share) n found → Finds (Unlike (Equal value) G) n found
  finds-unlike NoRow f = none-unlike n (omega arith) f
  finds-unlike (Some r) f = (f.0, unlike-here r f.0 f.1, none-unlike r (let l = f.0 in omega arith) f.2)

-- the lowest rows, as the walk asks for them
pub walk-firsts : (rows n : ℕ) (G w : List ℕ) → Firsts rows (3 * n) G w → walk.Firsts rows n G w
walk-firsts rows n G w F =
    record {
      lone = λ r h e f l T. let R = F.right r h in let i = R.is in let k = R.least f (omega arith) T.same in omega arith;
      fellow = λ r h g d.
          let R = F.right r h in
          let i = R.is in
          let l = R.low in
          let ne : R.first ≡ r → ⊥ = λ e. d (i ∙ ap (λ (x : ℕ). x + 1) e) in
          (R.first, omega arith, record { same = R.alike; some = λ z. g (sym R.alike ∙ z) });
    }

-- ---- objection 11

module _ (n : ℕ) (any : ℕ → ℕ) (L G O : List ℕ) (r x : ℕ) (e : x ≡ get_or L r 0) where
  pub not-linked : x ≡ 0 → Parted n any L G O r → ⊥
  not-linked z P = let l = P.leads in omega arith

  module _ (ne : x ≡ 0 → ⊥) where
    named : (q : ℕ) → Leads L r q → q ≡ x - 1
    named q l = omega arith

    pub not-firm : (FirmPair any O r (x - 1) → ⊥) → Parted n any L G O r → ⊥
    not-firm never P =
        let q = named P.far P.leads in
        never (record { near = P.near_firm; far = ap (λ (y : ℕ). any (y / 3)) (sym q) ∙ P.far_firm; same = P.same ∙ ap (way_word O) q })

    pub parted-tells : (b : Bool) → x ≤ 3 * n → FirmPair any O r (x - 1) → Tells (EndsTogether G r (x - 1) → ⊥) b → Tells (Parted n any L G O r) b
    parted-tells b h K T =
        record {
          holds = λ y. record { far = x - 1; below = omega arith; leads = omega arith; near_firm = K.near; far_firm = K.far; same = K.same; parted = T.holds y };
          fails = λ y P. T.fails y (λ t. P.parted (let q = named P.far P.leads in (turn P.far q t)));
        }
      where
        turn : (q : ℕ) → q ≡ x - 1 → EndsTogether G r (x - 1) → EndsTogether G r q
        turn q f t = (record { same = t.0.same ∙ ap (λ (y : ℕ). group_word G (end_row y)) (sym f); some = t.0.some }, record { same = t.1.same ∙ ap (group_word G) (sym f); some = t.1.some })

-- the ends of two sides by their words
module _ (G : List ℕ) (r q e f a b c d : ℕ) (i : e ≡ end_row r) (j : f ≡ end_row q) (p : a ≡ group_word G r) (s : b ≡ group_word G f) where
  pub apart-start : (a ≡ b → ⊥) → EndsTogether G r q → ⊥
  apart-start ne t = ne (p ∙ (t.0.same ∙ (ap (group_word G) (sym j) ∙ sym s)))

  module _ (t : c ≡ group_word G e) (u : d ≡ group_word G q) where
    pub apart-end : (c ≡ d → ⊥) → EndsTogether G r q → ⊥
    apart-end ne x = ne (t ∙ (ap (group_word G) i ∙ (x.1.same ∙ sym u)))

    pub not-apart : (group_word G r ≡ 0 → ⊥) → (group_word G q ≡ 0 → ⊥) → a ≡ b → c ≡ d → (EndsTogether G r q → ⊥) → ⊥
    not-apart some far g h never =
        let y = ap (group_word G) (sym i) ∙ (sym t ∙ (h ∙ u)) in
        never (record { same = sym p ∙ (g ∙ (s ∙ ap (group_word G) j)); some = some }, record { same = y; some = λ z. far (sym y ∙ z) })
