-- What the base leaves of an island that it accepts. Assumes nothing.
use Prim.Native.Nat.{ℕ, ◌+◌, ◌*◌}
use native.Mathlib.Omega.{arith}
use mathlib.Core.Path.{◌≡◌, ◌∙◌, ap}
use mathlib.Core.List.{List, ◌++◌}
use mathlib.Core.Option.{none}
use lib.ListN.{length, take, drop}
use lib.Seq.{get_or-take, length-take-le}
use lib.Ieee.{Float, nan}
use Rattle.tangent.specs.Slot.{slot_words}
use Rattle.definition.specs.Limits.{work_words}
use Rattle.definition.specs.Handed.{handed, call, Handed, mesh_from, slot_count, corner_count}
use Rattle.definition.specs.Frames.{frames}
use Rattle.definition.specs.Desk.{shown, verdict}
use Rattle.definition.specs.Outcome.{answer_words, accepted, answered, outcome}
use Rattle.mikktspace.specs.declared.Outcome.{Outcome}
use Rattle.mikktspace.specs.Contract.{left}
use Rattle.apart.specs.Lists.{cleared}
use Rattle.apart.specs.Gather.{normals_in, texture_in, mesh_in}
use Rattle.apart.specs.Steps.{Fit}
use Rattle.apart.proofs.Gathering.{mesh-alike}

-- a call without a refusal
accepted-is : (mesh : Handed) (h : Float) (a w : List ℕ) (r : Outcome) (b v : List ℕ) → verdict (shown mesh h (length a) (length w)) ≡ none → left r b v ≡ outcome (call mesh h a w) → left r b v ≡ accepted (call mesh h a w)
unfolding outcome answered
accepted-is mesh h a w r b v e c = c ∙ ap (λ o. answered o (accepted (call mesh h a w)) a w) e

-- the faces are the same where the lists end with their last corner
pub mesh-cut : (n c : ℕ) (xs : List Float) (ss : List ℕ) → c ≡ corner_count ss → mesh_from (take (3 * c) xs) (take (3 * c) (normals_in n xs)) (take (2 * c) (texture_in n xs)) 0 ss ≡ mesh_in n xs ss
mesh-cut n c xs ss e =
    mesh-alike xs (normals_in n xs) (texture_in n xs) (take (3 * c) xs) (take (3 * c) (normals_in n xs)) (take (2 * c) (texture_in n xs)) 0 ss
    (record {
      positions = λ j h. get_or-take (3 * c) xs (3 * 0 + j) nan (omega (arith, e));
      normals = λ j h. get_or-take (3 * c) (normals_in n xs) (3 * 0 + j) nan (omega (arith, e));
      texture = λ j h. get_or-take (2 * c) (texture_in n xs) (2 * 0 + j) nan (omega (arith, e));
    })

module _ (n k c : ℕ) (h : Float) (ss : List ℕ) (xs : List Float) (a w : List ℕ) (fit : Fit n k c h ss xs a w) where
  whole : (r : Outcome) (b v : List ℕ) → left r b v ≡ outcome (call (handed (take k ss) (take (3 * c) xs) (take (3 * c) (normals_in n xs)) (take (2 * c) (texture_in n xs))) h a w) → (b ≡ answer_words (frames h (mesh_in n xs (take k ss))) ++ drop (slot_words * slot_count (take k ss)) a) × (v ≡ cleared 0 (work_words * k) w)
  unfolding left accepted
  whole r b v e =
      let z = accepted-is (handed (take k ss) (take (3 * c) xs) (take (3 * c) (normals_in n xs)) (take (2 * c) (texture_in n xs))) h a w r b v fit.accepted e in
      (ap (λ y. y.answer) z ∙ ap (λ m. answer_words (frames h m) ++ drop (slot_words * slot_count (take k ss)) a) (mesh-cut n c xs (take k ss) fit.corners), ap (λ y. y.work) z ∙ ap (λ y. cleared 0 (work_words * y) w) (length-take-le k ss fit.faces))

  pub made : (d e : ℕ) → d ≡ 3 * c → e ≡ 2 * c → (r : Outcome) (b v : List ℕ) → left r b v ≡ outcome (call (handed (take k ss) (take (3 * c) xs) (take d (normals_in n xs)) (take e (texture_in n xs))) h a w) → (b ≡ answer_words (frames h (mesh_in n xs (take k ss))) ++ drop (slot_words * slot_count (take k ss)) a) × (v ≡ cleared 0 (work_words * k) w)
  made d e p q r b v y = whole r b v (y ∙ (λ i. outcome (call (handed (take k ss) (take (3 * c) xs) (take (p i) (normals_in n xs)) (take (q i) (texture_in n xs))) h a w)))
