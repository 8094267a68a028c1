-- Where the groups begin among all members: at 0, rising, up to the end; and which members are of a group. Assumes nothing.
use Prim.Native.Nat.{ℕ, suc, ◌+◌, ◌-◌, ◌≤◌, ◌<◌, min}
use native.Mathlib.Omega.{arith}
use mathlib.Core.Path.{◌≡◌, refl, sym, ◌∙◌}
use mathlib.Core.Bool.{Bool, true, false, cond}
use mathlib.Core.List.{List}
use lib.Dec.{ltb}
use lib.ListN.{length}
use borrow.Author.Tests.{leb-true, leb-false, lt-ltb, le-ltb, le-leb, lt-leb, ltb-true, ltb-false}
use Rattle.table.specs.Table.{cell}
use Rattle.table.specs.Columns.{begin_column}
use Rattle.definition.specs.declared.Triangle.{Triangle}
use Rattle.definition.specs.Step6Groups.{Mark}
use Rattle.view.specs.Groups.{number_of, Grouping, begin_at}
use Rattle.members.specs.Members.{begin_of}

module _ (rows : ℕ) (ss : List Triangle) (d : Triangle) (ms : List Mark) (groups count : ℕ) (w : List ℕ) (all : count ≡ length ms) (G : Grouping rows ss d ms groups w) where
  -- the code's number is the plain one
  pub plain : (q : ℕ) → begin_of rows groups count w q ≡ begin_at rows groups count w q
  unfolding begin_of
  plain q = step (ltb q groups) refl
    where
      step : (x : Bool) → ltb q groups ≡ x → cond x (min (cell rows begin_column q w) count) count ≡ cond x (cell rows begin_column q w) count
      step true h = let a = G.begins.begun q (ltb-true q groups h) in omega arith
      step false h = refl

  -- they rise
  pub grow : (q : ℕ) → begin_at rows groups count w q ≤ begin_at rows groups count w (suc q)
  grow q = step (ltb q groups) refl (ltb (suc q) groups) refl
    where
      step : (x : Bool) → ltb q groups ≡ x → (y : Bool) → ltb (suc q) groups ≡ y → cond x (cell rows begin_column q w) count ≤ cond y (cell rows begin_column (suc q) w) count
      step true h true k =
          let a = ltb-true q groups h in
          let c = ltb-true (suc q) groups k in
          leb-true (cell rows begin_column q w) (cell rows begin_column (suc q) w) (G.begins.begin q (cell rows begin_column (suc q) w) a (G.begins.begun (suc q) c) ∙ lt-ltb q (number_of rows w (cell rows begin_column (suc q) w)) (omega (arith, G.begins.number (suc q) c)))
      step true h false k = omega (arith, G.begins.begun q (ltb-true q groups h))
      step false h true k = let a = ltb-false q groups h in let c = ltb-true (suc q) groups k in absurd (omega arith)
      step false h false k = omega arith

  pub below : (q : ℕ) → begin_at rows groups count w q ≤ count
  below q = step (ltb q groups) refl
    where
      step : (x : Bool) → ltb q groups ≡ x → cond x (cell rows begin_column q w) count ≤ count
      step true k = omega (arith, G.begins.begun q (ltb-true q groups k))
      step false k = omega arith

  pub begin-last : begin_at rows groups count w groups ≡ count
  begin-last = step (ltb groups groups) refl
    where
      step : (x : Bool) → ltb groups groups ≡ x → cond x (cell rows begin_column groups w) count ≡ count
      step true k = let a = ltb-true groups groups k in absurd (omega arith)
      step false k = refl

  pub begin-first : Mark → begin_at rows groups count w 0 ≡ 0
  begin-first e = step (ltb 0 groups) refl (ltb 0 count) refl
    where
      step : (x : Bool) → ltb 0 groups ≡ x → (y : Bool) → ltb 0 count ≡ y → cond x (cell rows begin_column 0 w) count ≡ 0
      step true h y k =
          let a = ltb-true 0 groups h in
          let b = G.begins.begun 0 a in
          let z : 0 < length ms = omega arith in
          let f = leb-true (cell rows begin_column 0 w) 0 (G.begins.begin 0 0 a z ∙ lt-ltb 0 (number_of rows w 0) (G.member 0 e z).some) in
          omega arith
      step false h true k =
          let a = ltb-false 0 groups h in
          let z : 0 < length ms = omega (arith, ltb-true 0 count k) in
          absurd (omega (arith, (G.member 0 e z).some, (G.member 0 e z).known))
      step false h false k = omega (arith, ltb-false 0 count k)

  -- those from a group's place to the next one's have its number
  pub of-group : Mark → (q j : ℕ) → q < groups → begin_at rows groups count w q ≤ j → j < begin_at rows groups count w (suc q) → number_of rows w j ≡ q + 1
  of-group e q j h f g = step (ltb q groups) refl f (ltb (suc q) groups) refl g
    where
      inside : j < length ms
      inside = omega (arith, below (suc q), g)

      step : (x : Bool) → ltb q groups ≡ x → cond x (cell rows begin_column q w) count ≤ j → (y : Bool) → ltb (suc q) groups ≡ y → j < cond y (cell rows begin_column (suc q) w) count → number_of rows w j ≡ q + 1
      step false k f y m g = let a = ltb-false q groups k in absurd (omega arith)
      step true k f y m g =
          let above : q < number_of rows w j = ltb-true q (number_of rows w j) (sym (G.begins.begin q j h inside) ∙ le-leb (cell rows begin_column q w) j f) in
          let most = (G.member j e inside).known in
          last y m g above most
        where
          last : (y : Bool) → ltb (suc q) groups ≡ y → j < cond y (cell rows begin_column (suc q) w) count → q < number_of rows w j → number_of rows w j ≤ groups → number_of rows w j ≡ q + 1
          last true m g a b =
              let c = G.begins.begin (suc q) j (ltb-true (suc q) groups m) inside in
              let n = ltb-false (suc q) (number_of rows w j) (sym c ∙ lt-leb (cell rows begin_column (suc q) w) j g) in
              omega arith
          last false m g a b = let c = ltb-false (suc q) groups m in omega arith

  -- and a member stands from the place of its group's number to the next one's
  pub of_number : Mark → (j : ℕ) → j < length ms → let q = number_of rows w j - 1 in (q < groups) × (begin_at rows groups count w q ≤ j) × (j < begin_at rows groups count w (q + 1))
  of_number e j l =
      let M = G.member j e l in
      let q : ℕ = number_of rows w j - 1 in
      let n : number_of rows w j ≡ q + 1 = omega (arith, M.some) in
      let few : q < groups = omega (arith, n, M.known) in
      (few, first q n (ltb q groups) refl, last q n few (ltb (q + 1) groups) refl)
    where
      first : (q : ℕ) → number_of rows w j ≡ q + 1 → (x : Bool) → ltb q groups ≡ x → cond x (cell rows begin_column q w) count ≤ j
      first q n true k = leb-true (cell rows begin_column q w) j (G.begins.begin q j (ltb-true q groups k) l ∙ lt-ltb q (number_of rows w j) (omega arith))
      first q n false k = absurd (omega (arith, n, ltb-false q groups k, (G.member j e l).known))

      last : (q : ℕ) → number_of rows w j ≡ q + 1 → q < groups → (x : Bool) → ltb (q + 1) groups ≡ x → j < cond x (cell rows begin_column (q + 1) w) count
      last q n f true k = leb-false (cell rows begin_column (q + 1) w) j (G.begins.begin (q + 1) j (ltb-true (q + 1) groups k) l ∙ le-ltb (q + 1) (number_of rows w j) (omega arith))
      last q n f false k = omega (arith, all)
