-- Lists that are lent: copies, what stays, and zeros. Assumes nothing.
use Prim.Native.Nat.{ℕ, ◌+◌, ◌-◌, ◌≤◌, ◌<◌}
use native.Mathlib.Decide.{dec_lt}
use native.Mathlib.Nat.{add-sub_of_le}
use native.Mathlib.Omega.{arith}
use mathlib.Core.Path.{◌≡◌, refl, sym, ◌∙◌, ap, subst}
use borrow.Rule.Slice.PartMut.{put_mid}
use Rattle.std.proofs.lemmas.Slice.{put_mid-paste}
use Rattle.std.proofs.lemmas.List.{get_or-take, get_or_append_left, get_or-append_right}
use Rattle.std.proofs.lemmas.List.Edits.{paste_all}
use mathlib.Core.List.{List, ◌++◌}
use lib.ListN.{length, get_or, set, take, drop, replicate, length-set, length-append, length-drop, length-replicate, get_or-replicate, get_or-append}
use lib.Seq.{ext_get_or, get_or-set_other, get_or-append-add, get_or-drop, length-take-le}
use Rattle.apart.specs.Lists.{Past, Copied, cleared}

module _ {X : Type 0} (d : X) where
  -- ---- what stays

  pub past-none : (n : ℕ) (u : List X) → Past d n u u
  past-none n u = record { size = refl; rest = λ x h. refl }

  pub past-trans : (n : ℕ) (u v w : List X) → Past d n u v → Past d n v w → Past d n u w
  past-trans n u v w a b = record { size = b.size ∙ a.size; rest = λ x h. b.rest x h ∙ a.rest x h }

  pub past_more : (n k : ℕ) (u v : List X) → n ≤ k → Past d n u v → Past d k u v
  past_more n k u v h a = record { size = a.size; rest = λ x i. a.rest x (omega arith) }

  pub past-set : (n : ℕ) (u : List X) (i : ℕ) (x : X) → i < n → Past d n u (set u i x)
  past-set n u i x h = record { size = length-set u i x; rest = λ y k. get_or-set_other u i y x d (λ e. omega arith) }

  -- ---- copying

  -- a part that is written whole, by a part of another list
  pub copied_part : (xs ys ws : List X) (at start count k m : ℕ) → k ≡ count → m ≡ count → at + count ≤ length xs → start + count ≤ length ys → ws ≡ take m (drop at xs) → Copied d xs ys (put_mid start k ys ws) at start count
  copied_part xs ys ws at start count k m ek em h f e = subst (λ l. Copied d xs ys l at start count) (sym whole) (record {
    size = length-append (take start ys) (zs ++ end) ∙ omega (arith, length-append zs end, front, long, length-drop (start + count) ys);
    new = λ j g. get_or-append_right (take start ys) (zs ++ end) start (start + j) d front (omega arith) ∙ get_or_append_left zs end d _ (omega (arith, long)) ∙ get_or-take count (drop at xs) _ d (omega arith) ∙ get_or-drop at xs _ d ∙ ap (λ i. get_or xs i d) (omega arith);
    old = λ j g. get_or_append_left (take start ys) (zs ++ end) d j (omega (arith, front)) ∙ get_or-take start ys j d g;
    rest = λ j g. get_or-append_right (take start ys) (zs ++ end) start j d front (omega arith) ∙ get_or-append_right zs end count _ d long (omega arith) ∙ get_or-drop (start + count) ys _ d ∙ ap (λ i. get_or ys i d) (omega arith);
  })
    where
      zs : List X
      zs = take count (drop at xs)

      end : List X
      end = drop (start + count) ys

      front : length (take start ys) ≡ start
      front = length-take-le start ys (omega arith)

      long : length zs ≡ count
      long = length-take-le count (drop at xs) (omega (arith, length-drop at xs))

      whole : put_mid start k ys ws ≡ take start ys ++ (zs ++ end)
      whole = put_mid-paste start k ys ws zs count (e ∙ ap (λ i. take i (drop at xs)) em) (sym ek) (sym long) ∙ paste_all ys start zs count (sym long)

  -- ---- another front

  module _ (w : List X) (n : ℕ) (long : length w ≡ n) (u : List X) where
    pub front_low : (x : ℕ) → x < n → get_or (w ++ drop n u) x d ≡ get_or w x d
    front_low x h = get_or-append w (drop n u) d x (omega (arith, long))

    pub front-past : n ≤ length u → Past d n u (w ++ drop n u)
    front-past room = record {
      size = length-append w (drop n u) ∙ (λ i. long i + length-drop n u i) ∙ add-sub_of_le room;
      rest = λ x h.
          let e : length w + (x - n) ≡ x = ap (λ j. j + (x - n)) long ∙ add-sub_of_le h in
          ap (λ j. get_or (w ++ drop n u) j d) (sym e) ∙ get_or-append-add w (drop n u) (x - n) d ∙ get_or-drop n u (x - n) d ∙ ap (λ j. get_or u j d) (add-sub_of_le h);
    }

    -- a list that begins with w, and else is u
    pub front-is : n ≤ length u → (v : List X) → Past d n u v → ((x : ℕ) → x < n → get_or v x d ≡ get_or w x d) → v ≡ w ++ drop n u
    front-is room v p low = let q = front-past room in ext_get_or d v (w ++ drop n u) (p.size ∙ sym q.size) (λ x h. go q x (dec_lt x n))
      where
        go : Past d n u (w ++ drop n u) → (x : ℕ) → Dec (x < n) → get_or v x d ≡ get_or (w ++ drop n u) x d
        go q x (yes h) = low x h ∙ sym (front_low x h)
        go q x (no h) = p.rest x (omega arith) ∙ sym (q.rest x (omega arith))

  -- ---- zeros in front

  module _ (z : X) (n : ℕ) (u : List X) where
    pub cleared-low : (x : ℕ) → x < n → get_or (cleared z n u) x d ≡ z
    cleared-low x h = front_low (replicate n z) n (length-replicate n z) u x h ∙ get_or-replicate n x z d h

    pub cleared-past : n ≤ length u → Past d n u (cleared z n u)
    cleared-past room = front-past (replicate n z) n (length-replicate n z) u room

    pub cleared-is : n ≤ length u → (v : List X) → Past d n u v → ((x : ℕ) → x < n → get_or v x d ≡ z) → v ≡ cleared z n u
    cleared-is room v p low = front-is (replicate n z) n (length-replicate n z) u room v p (λ x h. low x h ∙ sym (get_or-replicate n x z d h))

  -- what stood in the first n entries does not matter
  pub cleared-same : (z : X) (n : ℕ) (u v : List X) → n ≤ length u → Past d n u v → cleared z n v ≡ cleared z n u
  cleared-same z n u v h p =
      cleared-is z n u h (cleared z n v) (past-trans n u v (cleared z n v) p (cleared-past z n v (omega (arith, p.size)))) (cleared-low z n v)

  -- where there are zeros already, fewer of them are no change
  pub cleared-again : (z : X) (n : ℕ) (u : List X) → n ≤ length u → ((x : ℕ) → x < n → get_or u x d ≡ z) → cleared z n u ≡ u
  cleared-again z n u h low = sym (cleared-is z n u h u (past-none n u) low)
