-- What holds of a mesh that the desk accepts. Assumes nothing.
use Prim.Native.Nat.{ℕ}
use mathlib.Core.Path.{◌≡◌}
use mathlib.Core.Option.{none}
use Rattle.bits.specs.Single.{zeroᶠ}
use Rattle.std.specs.Prelude.{Ok, Err}
use Rattle.definition.specs.Handed.{Handed}
use Rattle.definition.specs.Desk.{shown}
use Rattle.desk.specs.declared.Refusal.{Refusal}
use Rattle.desk.specs.Verdict.{told, as_verdict}
use Rattle.laws.proofs.Verdict.{Fine, fine}
use Rattle.mesh.specs.declared.Mesh.{Mesh}
use Rattle.mesh.specs.Parts.{given}
use Rattle.mikktspace.specs.Alone.{longest_answer}
use Rattle.examine.specs.Contract.{refusal}

-- the desk accepts a mesh with so many words to work in, or says this of it
abbrev pub Accepts : Handed → ℕ → Type 0
Accepts g n = told (Ok tt) ≡ as_verdict (refusal g n)

abbrev pub Says : Handed → ℕ → Refusal → Type 0
Says g n r = told (Err r) ≡ as_verdict (refusal g n)

pub known : (m : Mesh) (n : ℕ) → refusal (given m) n ≡ none → Fine (shown (given m) zeroᶠ longest_answer n)
known m n e = fine (shown (given m) zeroᶠ longest_answer n) e
