-- Step 5 links all that it can: no two unlinked sides with the same ends, run opposite ways, are left over. Assumes nothing.
use Prim.Native.Nat.{ℕ, zero, suc, ◌≤◌, ◌<◌}
use native.Mathlib.Omega.{arith}
use mathlib.Core.Path.{◌≡◌, refl, sym, ◌∙◌, ap}
use mathlib.Core.Bool.{Bool, true, false, cond}
use mathlib.Core.List.{List, [], ◌∷◌, Memᴰ}
use mathlib.Core.Option.{none, some, some-injective, none-ne-some}
use lib.ListN.{length, get_elem?}
use Rattle.definition.specs.declared.Triangle.{Triangle}
use Rattle.lists.specs.Lists.{keep}
use Rattle.definition.specs.Mesh.{Spot, corner_of, same_spot}
use Rattle.definition.specs.Step4Order.{welded, spots}
use Rattle.definition.specs.Step5Links.{Link, end_of, opposite, links, beyond}
use Rattle.definition.specs.Step5Sorted.{alike}
use Rattle.lists.specs.Every.{Each, each_none, each_some, Every, every_nil, every_cons}
use Rattle.laws.proofs.Part.{keep_same}
use Rattle.laws.proofs.Shuffled.{every-mem}
use Rattle.laws.proofs.Weld.{welded-refl, found_at}
use Rattle.laws.proofs.Closed.{Sound}
use Rattle.laws.proofs.Buckets.{opposite-sym}
use Rattle.definition.specs.Names.{Names}
use Rattle.laws.proofs.Mutual.{Apart, spots-apart, apart-inj, links-in, mutual'}
use Rattle.laws.proofs.Pairs.{index-lt, opposite_alike, kth-pair}

-- ---- lists by index

-- where nothing stands, the list has ended
none-past : {X : Type 0} (l : List X) (i : ℕ) → get_elem? l i ≡ none → length l ≤ i
none-past [] i e = omega arith
none-past (x ∷ l) zero e = absurd (none-ne-some x (sym e))
none-past (x ∷ l) (suc i) e = let h = none-past l i e in omega arith

-- an element that passes a test has an index among those that pass
record Place {X : Type 0} (l : List X) (x : X) : Type 0 where
  index : ℕ
  is : get_elem? l index ≡ some x

place-keep : {X : Type 0} (p : X → Bool) (x : X) → p x ≡ true → {l : List X} → Memᴰ x l → Place (keep p l) x
unfolding keep
place-keep p x e (Memᴰ.head {x = y} {xs = l} q) = rw (ap p (sym q) ∙ e) (record { index = 0; is = ap some (sym q) })
place-keep p x e (Memᴰ.tail {x = y} {xs = l} m) = go (p y) (place-keep p x e m)
  where
    go : (b : Bool) → Place (keep p l) x → Place (cond b (y ∷ keep p l) (keep p l)) x
    go true h = record { index = suc h.index; is = h.is }
    go false h = h

-- ---- sides left over

-- a side is run like itself
alike_self : (s : Spot) → alike s s ≡ true
unfolding alike
alike_self s = rw (welded-refl (corner_of s), welded-refl (end_of s))

-- the sides run opposite to a side are those run like a side that is opposite to it
opposite-keep : (s t : Spot) → welded (corner_of t) (end_of t) ≡ false → opposite s t ≡ true → (l : List Spot) → keep (opposite s) l ≡ keep (alike t) l
opposite-keep s t ends e l = keep_same (opposite s) (alike t) (every-mem _ l (λ x m. opposite_alike t ends s x (opposite-sym t s ∙ e)))

-- a side left over has as many of its kind before it as there are sides run opposite, or more
record Counted (ss : List Triangle) (s : Spot) : Type 0 where
  index : ℕ
  inside : index < length (keep (alike s) (spots ss))
  beyond-end : length (keep (opposite s) (spots ss)) ≤ index

counted : (ss : List Triangle) → Names ss → (s : Spot) → Memᴰ s (spots ss) → welded (corner_of s) (end_of s) ≡ false → beyond (links ss) s ≡ none → Counted ss s
counted ss names s m ends e =
    let p = place-keep (alike s) s (alike_self s) m in
    record {
      index = p.index;
      inside = index-lt (keep (alike s) (spots ss)) p.index s p.is;
      beyond-end = none-past (keep (opposite s) (spots ss)) p.index (sym (kth-pair ss names s ends p.index p.is) ∙ e);
    }

-- No two unlinked sides with the same ends, run opposite ways, are left over.
pub leftover : (ss : List Triangle) → Names ss → (s t : Spot) → Memᴰ s (spots ss) → Memᴰ t (spots ss) → welded (corner_of s) (end_of s) ≡ false → welded (corner_of t) (end_of t) ≡ false → opposite s t ≡ true → beyond (links ss) s ≡ none → beyond (links ss) t ≡ none → ⊥
leftover ss names s t hs ht es et o bs bt =
    let a = counted ss names s hs es bs in
    let b = counted ss names t ht et bt in
    let p = ap length (opposite-keep s t et o (spots ss)) in
    let q = ap length (opposite-keep t s es (opposite-sym t s ∙ o) (spots ss)) in
    omega (arith, a.inside, a.beyond-end, b.inside, b.beyond-end)

-- ---- what lies beyond a side

-- the side beyond a side: one of the list, run the opposite way between the same ends
pub record Across (ss : List Triangle) (s t : Spot) : Type 0 where
  pub inside : Memᴰ t (spots ss)
  pub turned : opposite s t ≡ true

module _ (all : List Spot) (names : Apart all) where
  abbrev In : Spot → Type 0
  In s = Memᴰ s all

  -- of one link and what the others say
  beyond-across : (s : Spot) → In s → {ls : List Link} → Every (Sound In) ls → Each (λ t. In t × (opposite s t ≡ true)) (beyond ls s)
  unfolding beyond
  beyond-across s h every_nil = each_none
  beyond-across s h (every_cons {x = l} {l = ls} k r) = go (same_spot l.near s) refl (same_spot l.far s) refl (beyond-across s h r)
    where
      go : (a : Bool) → same_spot l.near s ≡ a → (b : Bool) → same_spot l.far s ≡ b → Each (λ t. In t × (opposite s t ≡ true)) (beyond ls s) → Each (λ t. In t × (opposite s t ≡ true)) (cond a (some l.far) (cond b (some l.near) (beyond ls s)))
      go true p b q i = each_some (k.to, ap (λ x. opposite x l.far) (sym (apart-inj names l.near s k.from h p)) ∙ k.across)
      go false p true q i = each_some (k.from, ap (λ x. opposite x l.near) (sym (apart-inj names l.far s k.to h q)) ∙ (opposite-sym l.far l.near ∙ k.across))
      go false p false q i = i

-- Beyond a side of the triangles lies one of their sides, with the same ends and run the opposite way.
pub across : (ss : List Triangle) → Names ss → (s t : Spot) → Memᴰ s (spots ss) → beyond (links ss) s ≡ some t → Across ss s t
across ss names s t h e =
    let k = found_at (λ t. Memᴰ t (spots ss) × (opposite s t ≡ true)) t (beyond-across (spots ss) (spots-apart names) s h (links-in ss)) e in
    record { inside = k.0; turned = k.1 }

-- No side lies beyond two sides.
pub once : (ss : List Triangle) → Names ss → (s t u : Spot) → Memᴰ s (spots ss) → Memᴰ t (spots ss) → beyond (links ss) s ≡ some u → beyond (links ss) t ≡ some u → s ≡ t
once ss names s t u hs ht e f = some-injective s t (sym (mutual' ss names s u hs e) ∙ mutual' ss names t u ht f)
