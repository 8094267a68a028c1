-- Before the first island: what the steps leave, one after the other. Assumes nothing.
use Prim.Native.Nat.{ℕ, ◌*◌, ◌≤◌}
use native.Mathlib.Omega.{arith}
use mathlib.Core.Path.{◌≡◌, ◌∙◌, ap}
use mathlib.Core.List.{List}
use lib.ListN.{length}
use Rattle.mesh.specs.Parts.{Fits}
use Rattle.definition.specs.Handed.{mesh_of, Handed}
use Rattle.islands.specs.Islands.{island_of}
use Rattle.islands.specs.Rows.{labelled}
use Rattle.islands.proofs.Labels.{label-at}
use Rattle.apart.specs.Lists.{Past}
use Rattle.apart.specs.Order.{Linked, label_at, Begun}
use Rattle.apart.specs.Steps.{Ready}
use Rattle.apart.proofs.Lists.{past-trans, past_more}
use Rattle.apart.proofs.Ordering.{linked-same, begun_kept}

module _ (mesh : Handed) where
  abbrev n : ℕ
  n = length mesh.sizes

  module _ (labels p order u v : List ℕ) (e : p ≡ labelled mesh labels) (a : Past 0 (4 * n) order u) (b : Past 0 (2 * n) u v) where
    pub ready : Fits mesh → 4 * n ≤ length order → Begun mesh.sizes n u → Linked n (label_at p) 0 v → Ready mesh v
    ready f long s k = record {
      fits = f;
      long = omega (arith, a.size, b.size);
      linked = linked-same n (label_at p) (island_of (mesh_of mesh)) 0 v (λ x h. ap (λ q. label_at q x) e ∙ label-at mesh labels x h) k;
      begun = begun_kept mesh.sizes n u v b s;
    }

    pub order-past : Past 0 (4 * n) order v
    order-past = past-trans 0 (4 * n) order u v a (past_more 0 (2 * n) (4 * n) u v (omega arith) b)
