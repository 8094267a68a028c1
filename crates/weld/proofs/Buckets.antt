-- Welded corners have the same bucket. Assumes nothing.
use Prim.Native.Nat.{ℕ, ◌%◌, ◌<◌}
use native.Mathlib.Nat.{mod-lt}
use mathlib.Core.Path.{◌≡◌, ap}
use mathlib.Core.Bool.{true, ◌&&◌}
use mathlib.Core.List.{List, [], ◌∷◌, ◌++◌}
use lib.Ieee.{Float}
use borrow.Author.Tests.{eqb-true}
use Rattle.bits.specs.Word.{word}
use Rattle.math.specs.declared.Vec3.{Vec3}
use Rattle.definition.specs.declared.Corner.{Corner}
use Rattle.definition.specs.Step4Order.{same_bits, same_vector, same_numbers, welded}
use Rattle.bits.proofs.Bools.{and_left, and_right}
use Rattle.view.specs.Records.{three_of}
use Rattle.weld.specs.Welding.{mixture, words_of, bucket_of}

-- numbers with the same bits have the same word
word_same : (x y : Float) → same_bits x y ≡ true → word x ≡ word y
unfolding same_bits
word_same x y e = eqb-true (word x) (word y) e

-- so for the three of a vector
three-same : (a b : Vec3) → same_vector a b ≡ true → three_of a ≡ three_of b
unfolding same_vector
three-same a b e =
    let h = and_left (same_bits a.x b.x && same_bits a.y b.y) (same_bits a.z b.z) e in
    let p = word_same a.x b.x (and_left _ _ h) in
    let q = word_same a.y b.y (and_right (same_bits a.x b.x) _ h) in
    let r = word_same a.z b.z (and_right (same_bits a.x b.x && same_bits a.y b.y) _ e) in
    λ i. p i ∷ q i ∷ r i ∷ []

-- and the eight of a corner
pub words_same : (c d : Corner) → welded c d ≡ true → words_of c ≡ words_of d
unfolding welded same_numbers
words_same c d k =
    let e = and_left (same_numbers c d) _ k in
    let pn = same_vector c.place d.place && same_vector c.normal d.normal in
    let h₁ = and_left (pn && same_bits c.u d.u) (same_bits c.v d.v) e in
    let h₂ = and_left pn (same_bits c.u d.u) h₁ in
    let p = three-same c.place d.place (and_left _ _ h₂) in
    let n = three-same c.normal d.normal (and_right (same_vector c.place d.place) _ h₂) in
    let u = word_same c.u d.u (and_right pn _ h₁) in
    let v = word_same c.v d.v (and_right (pn && same_bits c.u d.u) _ e) in
    λ i. p i ++ (n i ++ (u i ∷ v i ∷ []))

-- which alone say the bucket
pub bucket-same : (rows : ℕ) (c d : Corner) → welded c d ≡ true → bucket_of rows c ≡ bucket_of rows d
unfolding bucket_of
bucket-same rows c d e = ap (λ (l : List ℕ). mixture 0 l % rows) (words_same c d e)

-- and which is one of them
pub bucket-lt : (rows : ℕ) (c : Corner) → 0 < rows → bucket_of rows c < rows
unfolding bucket_of
bucket-lt rows c h = mod-lt (mixture 0 (words_of c)) h
