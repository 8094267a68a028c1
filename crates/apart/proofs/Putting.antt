-- One turn of the walk that puts an island's words into their places. Assumes nothing.
use Prim.Native.Nat.{ℕ, zero, suc, ◌+◌, ◌*◌, ◌-◌, ◌≤◌, zero-le, ◌<◌}
use native.Mathlib.Decide.{dec_lt}
use native.Mathlib.Nat.{le_of_suc-le-suc, not-suc-le-zero}
use native.Mathlib.Omega.{arith}
use mathlib.Core.Path.{◌≡◌, refl, sym, ◌∙◌, ap, subst}
use mathlib.Core.Bool.{Bool, true, false, cond, true≢false}
use mathlib.Core.List.{List, [], ◌∷◌, ◌++◌}
use lib.ListN.{length, get_or, take}
use lib.Seq.{take-length}
use borrow.Author.Tests.{eq-eqb, ne_eqb}
use Rattle.tangent.specs.Slot.{slot_words}
use Rattle.definition.specs.Handed.{used, slots_of, slot_count}
use Rattle.unions.proofs.Stores.{either}
use Rattle.islands.specs.Together.{picked}
use Rattle.islands.proofs.Sizes.{used-three}
use Rattle.apart.specs.Lists.{Copied}
use Rattle.apart.specs.Order.{From, among}
use Rattle.apart.specs.Scatter.{Scene, Put}
use Rattle.apart.proofs.Lists.{past-none}
use Rattle.apart.proofs.Walking.{Next, to-next, at-end}
use Rattle.apart.proofs.Gathering.{picked-skip, picked-with}

-- ---- slots of faces

slots-until : (sizes : List ℕ) (g h : ℕ) → g < h → h ≤ length sizes → slot_count (take g sizes) + slots_of (get_or sizes g 0) ≤ slot_count (take h sizes)
unfolding slot_count
slots-until [] g h i j = absurd (omega arith)
slots-until (x ∷ l) g zero i j = absurd (not-suc-le-zero i)
slots-until (x ∷ l) zero (suc h) i j = omega arith
slots-until (x ∷ l) (suc g) (suc h) i j = let r = slots-until l g h (le_of_suc-le-suc i) (le_of_suc-le-suc j) in omega (arith, r)

pub slots-ends : (sizes : List ℕ) (g : ℕ) → g < length sizes → slot_count (take g sizes) + slots_of (get_or sizes g 0) ≤ slot_count sizes
slots-ends sizes g h = subst (λ l. slot_count (take g sizes) + slots_of (get_or sizes g 0) ≤ slot_count l) (take-length sizes) (slots-until sizes g (length sizes) h (omega arith))

pub slots-few : (sizes : List ℕ) → slot_count sizes ≤ 4 * length sizes
unfolding slot_count slots_of
slots-few [] = zero-le
slots-few (x ∷ l) = let r = slots-few l in let e = small (used x) refl in omega (arith, r, e)
  where
    small : (b : Bool) → used x ≡ b → cond b x 0 ≤ 4
    small true e = (used-three x e).1
    small false e = zero-le

slots-used : (z : ℕ) → used z ≡ true → slots_of z ≡ z
unfolding slots_of
slots-used z e = ap (λ b. cond b z 0) e

slots_end : (l : List ℕ) (z : ℕ) → slot_count (l ++ (z ∷ [])) ≡ slot_count l + slots_of z
unfolding slot_count
slots_end [] z = omega arith
slots_end (n ∷ l) z = let e = slots_end l z in omega (arith, e)

-- the walk at face f: the words before it are in their places, and c slots of the island are passed
pub record Walks (sizes order own : List ℕ) (t : ℕ) (s : Scene sizes order own t) (a : List ℕ) (next f c : ℕ) (b : List ℕ) : Type 0 where
  pub within : f ≤ length sizes
  pub from : From (length sizes) s.l f t next
  pub sum : c ≡ slot_count (picked (among s.l t) 0 (take f sizes))
  pub low : c ≤ 4 * f
  pub put : Put (among s.l t) sizes s.W f a b

module _ (sizes order own : List ℕ) (t : ℕ) (below : t < length sizes) (s : Scene sizes order own t) (a : List ℕ) (room : slot_words * slot_count sizes ≤ length a) where
  abbrev n : ℕ
  n = length sizes

  abbrev l : ℕ → ℕ
  l = s.l

  abbrev q : ℕ → Bool
  q = among s.l t

  pub walks-none : Walks sizes order own t s a (get_or order (n + t) 0) 0 0 a
  unfolding picked slot_count
  walks-none = record { within = zero-le; from = s.linked.heads t below; sum = refl; low = zero-le; put = record { past = past-none 0 _ _; here = λ g h. absurd (not-suc-le-zero h); there = λ g h e i k. refl } }

  -- what holds at face f besides the chain
  record State (c : ℕ) (b : List ℕ) (f : ℕ) : Type 0 where
    sum : c ≡ slot_count (picked q 0 (take f sizes))
    low : c ≤ 4 * f
    put : Put q sizes s.W f a b

  module _ (next f c : ℕ) (b : List ℕ) (w : Walks sizes order own t s a next f c b) where
    skip : (x : ℕ) → x < n → (l x ≡ t → ⊥) → State c b x → State c b (x + 1)
    skip x h e k = record {
      sum = k.sum ∙ ap slot_count (sym (picked-skip q sizes 0 x h (ne_eqb (l x) t e)));
      low = omega (arith, k.low);
      put = record {
        past = k.put.past;
        here = λ g i o. either g x (λ y. absurd (e (borrow.Author.Tests.eqb-true (l x) t (ap q (sym y) ∙ o)))) (λ y. k.put.here g (omega (arith, y)) o);
        there = k.put.there;
      };
    }

    here-now : State c b f
    here-now = record { sum = w.sum; low = w.low; put = w.put }

    pub put_all : next ≡ 0 → Put q sizes s.W n a b
    put_all e = (at-end n l t (State c b) skip f w.within w.from e here-now).put

    module _ (more : next ≡ 0 → ⊥) where
      abbrev x : ℕ
      x = next - 1

      abbrev z : ℕ
      z = get_or sizes x 0

      abbrev start : ℕ
      start = get_or order (3 * n + x) 0

      at : Next n l t (State c b) skip f next x
      at = to-next n l t (State c b) skip f w.from more here-now

      used-here : used z ≡ true
      used-here = s.fit x at.below at.of

      start_is : start ≡ slot_count (take x sizes)
      start_is = s.begun.slots x at.below

      slots-here : slots_of z ≡ z
      slots-here = slots-used z used-here

      -- what is read and written is there
      pub record Safe : Type 0 where
        pub next-below : x < n
        pub further : f < next
        pub is : next ≡ x + 1
        pub small : z ≤ 4
        pub read : slot_words * c + slot_words * z ≤ length own
        pub written : slot_words * start + slot_words * z ≤ length b
        pub low-start : start ≤ 4 * n

      pub safe : slot_count sizes ≤ 4 * n → Safe
      safe few =
          let e = slots-ends sizes x at.below in
          record {
            next-below = at.below;
            further = omega (arith, at.is, at.after);
            is = at.is;
            small = (used-three z used-here).1;
            read = omega (arith, at.holds.low, at.below, (used-three z used-here).1, s.stand.long);
            written = omega (arith, e, start_is, slots-here, room, at.holds.put.past.size);
            low-start = omega (arith, e, start_is, few);
          }

      passes : q x ≡ true
      passes = eq-eqb (l x) t at.of

      module _ (d : List ℕ) (k : Copied 0 own b d (slot_words * c) (slot_words * start) (slot_words * z)) where
        p : Put q sizes s.W x a b
        p = at.holds.put

        new : (i : ℕ) → i < slot_words * slots_of z → get_or d (slot_words * slot_count (take x sizes) + i) 0 ≡ get_or (s.W x) i 0
        new i j =
            ap (λ v. get_or d (slot_words * v + i) 0) (sym start_is) ∙ k.new i (omega (arith, slots-here))
            ∙ ap (λ v. get_or own (slot_words * v + i) 0) at.holds.sum ∙ s.stand.words x at.below passes i j

        before : (g i : ℕ) → g < x → i < slot_words * slots_of (get_or sizes g 0) → get_or d (slot_words * slot_count (take g sizes) + i) 0 ≡ get_or b (slot_words * slot_count (take g sizes) + i) 0
        before g i h j = let e = slots-until sizes g x h (omega (arith, at.below)) in k.old (slot_words * slot_count (take g sizes) + i) (omega (arith, e, start_is))

        after : (g i : ℕ) → x < g → g < n → get_or d (slot_words * slot_count (take g sizes) + i) 0 ≡ get_or b (slot_words * slot_count (take g sizes) + i) 0
        after g i h j = let e = slots-until sizes x g h (omega arith) in k.rest (slot_words * slot_count (take g sizes) + i) (omega (arith, e, start_is, slots-here))

        apart : (g i : ℕ) → (g ≡ x → ⊥) → Dec (g < x) → g < n → i < slot_words * slots_of (get_or sizes g 0) → get_or d (slot_words * slot_count (take g sizes) + i) 0 ≡ get_or b (slot_words * slot_count (take g sizes) + i) 0
        apart g i y (yes h) m j = before g i h j
        apart g i y (no h) m j = after g i (omega (arith, y)) m

        put-more : Put q sizes s.W (x + 1) a d
        put-more = record {
          past = record { size = k.size ∙ p.past.size; rest = λ y h. let e = slots-ends sizes x at.below in k.rest y (omega (arith, e, start_is, slots-here)) ∙ p.past.rest y h };
          here = λ g h o i j. either g x
              (λ y. subst (λ v. i < slot_words * slots_of (get_or sizes v 0) → get_or d (slot_words * slot_count (take v sizes) + i) 0 ≡ get_or (s.W v) i 0) (sym y) (new i) j)
              (λ y. before g i (omega (arith, y)) j ∙ p.here g (omega (arith, y)) o i j);
          there = λ g h o i j. either g x
              (λ y. absurd (true≢false (sym passes ∙ ap q (sym y) ∙ o)))
              (λ y. apart g i y (dec_lt g x) h j ∙ p.there g h o i j);
        }

        summed : c + z ≡ slot_count (picked q 0 (take (x + 1) sizes))
        summed = let e = ap slot_count (picked-with q sizes 0 x at.below passes) ∙ slots_end (picked q 0 (take x sizes)) z in omega (arith, e, at.holds.sum, slots-here)

        -- one face more
        pub walks_more : Walks sizes order own t s a (get_or order x 0) next (c + z) d
        walks_more = record {
          within = omega (arith, at.is, at.below);
          from =
              subst (λ y. From n l y t (get_or order x 0)) (omega (arith, at.is))
              (subst (λ y. From n l (suc x) y (get_or order x 0)) at.of (s.linked.nexts x zero-le at.below (subst (λ y. y < n) (sym at.of) below)));
          sum = subst (λ y. c + z ≡ slot_count (picked q 0 (take y sizes))) (sym at.is) summed;
          low = omega (arith, at.holds.low, at.is, (used-three z used-here).1);
          put = subst (λ y. Put q sizes s.W y a d) (sym at.is) put-more;
        }
