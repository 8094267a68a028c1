-- What step 4 of the old edition leaves of a triangle. Definitions only.
use Rattle.std.specs.Prelude.{◌≡◌}
use Rattle.definition.specs.declared.Triangle.{Triangle}
use Rattle.definition.specs.Mesh.{Third, kept}

-- x is y but for the values of its corners
pub record Like (x y : Triangle) : Type 0 where
  pub face : x.face ≡ y.face
  pub second : x.second ≡ y.second
  pub missing : x.missing ≡ y.missing
  pub which : (i : Third) → (kept x i).which ≡ (kept y i).which
  pub degenerate : x.degenerate ≡ y.degenerate
  pub marked : x.marked ≡ y.marked
  pub any : x.any ≡ y.any
  pub orientation : x.orientation ≡ y.orientation
  pub tangent : x.tangent ≡ y.tangent
