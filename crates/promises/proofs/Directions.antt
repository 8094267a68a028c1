-- Every direction word of every answer is the word of a finite number. Assumes nothing.
use Prim.Native.Nat.{ℕ, zero, suc, ◌+◌, ◌<◌}
use native.Mathlib.Omega.{arith}
use mathlib.Core.Path.{◌≡◌, sym, subst}
use mathlib.Core.Logic.{◌⊎◌, inl, inr}
use mathlib.Core.List.{List, []}
use lib.Dec.{T}
use lib.ListN.{get_or}
use Rattle.bits.specs.Word.{number, is_finite}
use Rattle.tangent.specs.declared.Reading.TheVariants.{Absent}
use Rattle.tangent.specs.Slot.{words}
use Rattle.tangent.specs.Finite.{FiniteReading, absent}
use Rattle.tangent.proofs.Finite.{words-finite}
use Rattle.definition.specs.Outcome.{Result}
use Rattle.lists.specs.Every.{Every, every_nil, every_cons}
use Rattle.laws.proofs.Finite.{frames-finite}
use Rattle.view.specs.Answer.{HasSlot}
use Rattle.definition.specs.Handed.{Call, mesh_of}
use Rattle.promises.specs.Calls.{Answers, reading_at}
use Rattle.promises.specs.Demand1.{Refused, Taken, Promised as Demand1}
use Rattle.promises.specs.Directions.{slot_in, FiniteWords, Promised}
use Rattle.promises.proofs.Demand1.{demand1}

-- what holds of every element, and of what stands where there is none, holds at every number
pub every-or : {X : Type 0} (P : X → Type 0) (d : X) → P d → (i : ℕ) {l : List X} → Every P l → P (get_or l i d)
every-or P d h zero every_nil = h
every-or P d h zero (every_cons p q) = p
every-or P d h (suc i) every_nil = h
every-or P d h (suc i) (every_cons p q) = every-or P d h i q

reading-finite : (x : Call) (f i : ℕ) → FiniteReading (reading_at x f i)
unfolding reading_at
reading-finite x f i = every-or FiniteReading Absent absent i (every-or (Every FiniteReading) [] every_nil f (frames-finite x.threshold (mesh_of x.mesh)))

-- no call is both refused and accepted
not-refused : {x : Call} {z : Result} → z.number ≡ 0 → Refused x z → ⊥
not-refused {x} {z} n r = no z.number r.low n
  where
    no : (m : ℕ) → 0 < m → m ≡ 0 → ⊥
    no m p e = omega arith

-- what an accepted call leaves in a slot
pub taken-slot : (x : Call) (z : Result) → Answers x z → z.number ≡ 0 → (f i : ℕ) → HasSlot x.mesh.sizes f i → slot_in x.mesh.sizes f i z.answer ≡ words (reading_at x f i)
unfolding Demand1
taken-slot x z a n f i h = go (demand1 x z a)
  where
    go : Refused x z ⊎ Taken x z → slot_in x.mesh.sizes f i z.answer ≡ words (reading_at x f i)
    go (inl r) = absurd (not-refused n r)
    go (inr t) = (t.slot f i h).words_are

pub directions : Promised
unfolding Promised FiniteWords
directions x z a n f i h k l =
    subst (λ (ws : List ℕ). T (is_finite (number (get_or ws (1 + k) 0)))) (sym (taken-slot x z a n f i h)) (words-finite (reading_at x f i) (reading-finite x f i) k l)
