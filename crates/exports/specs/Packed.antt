-- A verdict as one number, for a caller outside Rattle. Definitions only.
use Rattle.std.specs.Prelude.{ℕ, ◌+◌, ◌*◌, ◌^◌}
use Rattle.desk.specs.Verdict.{Verdict}

-- the refusal's number times 2 ^ 32, and its place
unfoldable pub packed : Verdict → ℕ
packed v = v.number * 2 ^ 32 + v.place
