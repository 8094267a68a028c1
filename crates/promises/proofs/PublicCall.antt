-- The demands hold of the public call: each from its contract. Assumes nothing.
use mathlib.Core.Path.{◌≡◌}
use Rattle.mikktspace.specs.Contract.{left}
use Rattle.definition.specs.Handed.{Call}
use Rattle.promises.specs.Calls.{leaves}
use Rattle.promises.specs.Determined as Determined
use Rattle.promises.specs.Demand1 as Demand1
use Rattle.promises.specs.Demand3 as Demand3
use Rattle.promises.specs.Directions as Directions
use Rattle.promises.specs.PublicCall.{Made, remains, Promised}
use Rattle.promises.proofs.Determined.{determined}
use Rattle.promises.proofs.Demand1.{demand1}
use Rattle.promises.proofs.Demand3.{demand3}
use Rattle.promises.proofs.Directions.{directions}

-- the contract says that what remains is what the definition says
pub answers : (x : Call) (m : Made x) → remains m ≡ leaves x
unfolding leaves
answers x m = m.meets

pub public_call : Promised
unfolding left Demand1.Promised Demand3.Promised Determined.Promised Directions.Promised
public_call =
    record {
      demand_1 = λ x m. demand1 x (remains m) (answers x m);
      demand_2 = answers;
      demand_3 = λ p a b c ma mb mc s e ha hb ea eb ec. demand3 p a b c (remains ma) (remains mb) (remains mc) (answers a ma) (answers b mb) (answers c mc) s e ha hb ea eb ec;
      determined = λ x m n.
          let e = determined x (remains m) (remains n) (answers x m) (answers x n) in
          (λ i. record { number = (e i).number; place = (e i).place; slots = (e i).slots }, λ i. (e i).answer, λ i. (e i).work);
      directions = λ x m n f i h. directions x (remains m) (answers x m) n f i h;
    }
