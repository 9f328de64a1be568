-- What a batch asks of one file and one factor.
use Rattle.std.specs.Prelude.{ℕ, List}
use Rattle.racp_batch.specs.declared.case.Input.{Input}

-- the name of a file and what it has, the word of a factor and the factor, and the price of a unit of each resource
pub record Matter : Type 0 where
  pub name : List ℕ
  pub input : Input
  pub word : List ℕ
  pub factor : ℕ
  pub price : ℕ
