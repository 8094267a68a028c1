-- In a trial every slot reads what it was brought, before step 9. Assumes nothing.
use Prim.Native.Nat.{ℕ, zero, suc, ◌+◌, ◌≤◌, ◌<◌}
use native.Mathlib.Omega.{arith}
use mathlib.Core.Path.{◌≡◌, refl, ap, ◌∙◌}
use mathlib.Core.Bool.{Bool, true, false, cond, ◌&&◌}
use mathlib.Core.List.{List, [], ◌∷◌, ◌++◌, map, flat_map}
use lib.Dec.{eqb}
use lib.ListN.{length, get_or}
use borrow.Author.Tests.{eq-eqb, ne_eqb, eqb-true, eqb-false}
use Rattle.tangent.specs.declared.Reading.{Reading}
use Rattle.tangent.specs.declared.Reading.TheVariants.{Absent}
use Rattle.tangent.specs.Space.{reached}
use Rattle.tangent.specs.Held.{HeldReading, absent}
use Rattle.tangent.proofs.Held.{zero_held}
use Rattle.definition.specs.declared.Corner.{Corner}
use Rattle.lists.specs.Lists.{keep, run}
use Rattle.lists.specs.Every.{Every, every_nil, every_cons}
use Rattle.definition.specs.Mesh.{Face}
use Rattle.definition.specs.Triangles.{nook, usable}
use Rattle.definition.specs.Step7Sums.{Brought}
use Rattle.definition.specs.Step8Slots.{put, reading}
use Rattle.definition.specs.Step9Copies.{nooks}
use Rattle.definition.specs.Frames.{numbered}
use Rattle.laws.proofs.Part.{every_append, every-keep}
use Rattle.laws.proofs.Held.{HeldBrought, puts-held}
use Rattle.reasons.specs.Trial.{tried_reading, bring_to, tried_in, tried}

module _ (f i : ℕ) where
  -- what is brought to slot i of face f
  abbrev here : Brought → Bool
  here b = eqb b.face f && eqb b.slot i

  -- a reading of it, once more is brought
  abbrev read : Reading → List Brought → Reading
  read r l = run put r (keep here l)

  -- what is brought elsewhere is passed over
  passed : (r : Reading) (b : Brought) (l : List Brought) → here b ≡ false → read r (b ∷ l) ≡ read r l
  unfolding keep
  passed r b l e = ap (λ t. run put r (cond t (b ∷ keep here l) (keep here l))) e

  -- and what is brought here is put there
  taken : (r : Reading) (b : Brought) (l : List Brought) → here b ≡ true → read r (b ∷ l) ≡ read (put r b) l
  unfolding keep run
  taken r b l e = ap (λ t. run put r (cond t (b ∷ keep here l) (keep here l))) e

  -- another face
  other-face : (g : ℕ) → (g ≡ f → ⊥) → (r : Reading) (j : ℕ) (cs : List Corner) (l : List Brought) → read r (map (bring_to g) (nooks j cs) ++ l) ≡ read r l
  unfolding nooks bring_to
  other-face g d r j [] l = refl
  other-face g d r j (c ∷ cs) l =
      passed r (bring_to g (nook j c)) (map (bring_to g) (nooks (suc j) cs) ++ l) (ap (λ t. t && eqb j i) (ne_eqb g f d)) ∙ other-face g d r (suc j) cs l

  -- slots past number i
  past-slots : (r : Reading) (j : ℕ) (cs : List Corner) (l : List Brought) → i < j → read r (map (bring_to f) (nooks j cs) ++ l) ≡ read r l
  unfolding nooks bring_to
  past-slots r j [] l h = refl
  past-slots r j (c ∷ cs) l h =
      passed r (bring_to f (nook j c)) (map (bring_to f) (nooks (suc j) cs) ++ l) (both (eqb f f) (ne_eqb j i (λ e. omega (arith, e, h)))) ∙ past-slots r (suc j) cs l (omega arith)
    where
      both : (t : Bool) {u : Bool} → u ≡ false → (t && u) ≡ false
      both true e = e
      both false e = refl

  -- slot i of face f
  this-face : (j : ℕ) (cs : List Corner) (l : List Brought) → j ≤ i → i < j + length cs → read Absent (map (bring_to f) (nooks j cs) ++ l) ≡ read tried_reading l
  unfolding nooks bring_to put reached
  this-face j [] l h k = absurd (omega arith)
  this-face j (c ∷ cs) l h k = go (eqb j i) refl (λ p. this-face (suc j) cs l p (omega (arith, k)))
    where
      rest : List Brought
      rest = map (bring_to f) (nooks (suc j) cs) ++ l

      go : (b : Bool) → eqb j i ≡ b → (suc j ≤ i → read Absent rest ≡ read tried_reading l) → read Absent (bring_to f (nook j c) ∷ rest) ≡ read tried_reading l
      go true e next = taken Absent (bring_to f (nook j c)) rest (λ z. eq-eqb f f refl z && e z) ∙ past-slots tried_reading (suc j) cs l (omega (arith, eqb-true j i e))
      go false e next = passed Absent (bring_to f (nook j c)) rest (λ z. eq-eqb f f refl z && e z) ∙ next (omega (arith, h, eqb-false j i e))

  -- faces past number f
  later : (n : ℕ) (m : List (List Corner)) (r : Reading) → f < n → read r (tried (numbered n m)) ≡ r
  unfolding tried tried_in numbered flat_map keep run
  later n [] r h = refl
  later n (c ∷ m) r h = other-face n (λ e. omega (arith, e, h)) r 0 (usable c) (tried (numbered (suc n) m)) ∙ later (suc n) m r (omega arith)

  -- all faces, from number n on
  found : (n : ℕ) (m : List (List Corner)) (j : ℕ) → n + j ≡ f → j < length m → i < length (usable (get_or m j [])) → read Absent (tried (numbered n m)) ≡ tried_reading
  unfolding tried tried_in numbered flat_map
  found n [] j e h k = absurd (omega arith)
  found n (c ∷ m) zero e h k =
      let same : n ≡ f = omega (arith, e) in
      ap (λ (g : ℕ). read Absent (map (bring_to g) (nooks 0 (usable c)) ++ tried (numbered (suc n) m))) same
      ∙ this-face 0 (usable c) (tried (numbered (suc n) m)) (omega arith) (omega (arith, k)) ∙ later (suc n) m tried_reading (omega (arith, e))
  found n (c ∷ m) (suc j) e h k =
      other-face n (λ q. omega (arith, q, e)) Absent 0 (usable c) (tried (numbered (suc n) m)) ∙ found (suc n) m j (omega (arith, e)) (omega (arith, h)) k

  -- so every slot has its frame
  pub tried-reading : (m : List (List Corner)) → f < length m → i < length (usable (get_or m f [])) → reading (tried (numbered 0 m)) f i ≡ tried_reading
  unfolding reading
  tried-reading m h k = found 0 m f (omega arith) h k

-- single precision holds all that is brought
face-held : (g j : ℕ) (cs : List Corner) → Every HeldBrought (map (bring_to g) (nooks j cs))
unfolding nooks bring_to
face-held g j [] = every_nil
face-held g j (c ∷ cs) = every_cons zero_held (face-held g (suc j) cs)

all_held : (fs : List Face) → Every HeldBrought (tried fs)
unfolding tried tried_in flat_map
all_held [] = every_nil
all_held (f ∷ fs) = every_append (face-held f.number 0 (usable f.corners)) (all_held fs)

-- and every reading of it
pub tried-held : (fs : List Face) (f i : ℕ) → HeldReading (reading (tried fs) f i)
unfolding reading
tried-held fs f i = puts-held Absent absent (every-keep (λ b. eqb b.face f && eqb b.slot i) (all_held fs))
