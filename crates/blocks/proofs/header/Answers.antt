-- `blocks::header` meets its contract. Assumes nothing.
use native.Mathlib.Omega.{arith}
use Prim.Native.Nat.{ℕ}
use mathlib.Core.Path.{◌≡◌}
use mathlib.Core.List.{[], ◌∷◌}
use Rattle.blocks.specs.declared.Kind.{Kind}
use Rattle.blocks.specs.Format.{header, records_used, kind_word}
use Rattle.blocks.proofs.header.Goals as goal

-- seven words that are those of the header
header_is : (kind : Kind) (n b w0 w1 w2 w3 w4 w5 w6 : ℕ) → w0 ≡ b → w1 ≡ records_used kind n b → w2 ≡ n → w3 ≡ kind_word kind → w4 ≡ 0 → w5 ≡ 0 → w6 ≡ 0 → w0 ∷ w1 ∷ w2 ∷ w3 ∷ w4 ∷ w5 ∷ w6 ∷ [] ≡ header kind n b
unfolding header
header_is kind n b w0 w1 w2 w3 w4 w5 w6 e0 e1 e2 e3 e4 e5 e6 = λ z. e0 z ∷ e1 z ∷ e2 z ∷ e3 z ∷ e4 z ∷ e5 z ∷ e6 z ∷ []

pub returns : goal.returns
returns c =
    let a = c.args in
    header_is a.kind a.total a.b _ _ _ _ _ _ _ (omega arith) (omega arith) (omega arith) (omega arith) (omega arith) (omega arith) (omega arith)
