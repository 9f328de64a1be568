-- Rows that leave a plan open.
use Rattle.std.proofs.Common.{ℕ, not, refl}
use Rattle.std.specs.Prelude.{IsTrue, ⊤}
use Rattle.racp_model.specs.Project.{Project}
use Rattle.racp_model.specs.Terms.{Terms}
use Rattle.racp_whatif.specs.Outcomes.{IsOutcome, is_settled}
use Rattle.racp_whatif.specs.declared.outcome.Outcome.{Outcome}
use Rattle.racp_whatif.specs.declared.outcome.Outcome.TheVariants.{Plan as ThePlan, TooLong, TooLate, NoneEnough, Open}
use Rattle.racp_batch.specs.Cases.{Matter}
use Rattle.racp_batch.specs.Orders.{terms_by}
use Rattle.racp_batch.specs.Rows.{IsRowFor, IsRowOf, is_open}
use Rattle.racp_batch.specs.declared.case.Input.{Input}
use Rattle.racp_batch.specs.declared.case.Input.TheVariants.{Network, Fault}
use Rattle.racp_batch.specs.declared.row.Row.{Row}
use Rattle.racp_batch.specs.declared.row.Row.TheVariants.{Answered, Late, Refused, Memory, NoThread}

-- an outcome, whatever lets it be open
pub any_open : (may_be_open : Type 0) (p : Project) (terms : Terms) (outcome : Outcome) → IsOutcome may_be_open p terms outcome → IsOutcome ⊤ p terms outcome
any_open may_be_open p terms (ThePlan plan) right = right
any_open may_be_open p terms (TooLong critical) right = right
any_open may_be_open p terms (TooLate job) right = right
any_open may_be_open p terms (NoneEnough need) right = right
any_open may_be_open p terms (Open least) right = (tt, right.1)

-- one that is open only where it may be
open_so : (may_be_open : Type 0) (p : Project) (terms : Terms) (outcome : Outcome) → IsOutcome ⊤ p terms outcome → (IsTrue (not (is_settled outcome)) → may_be_open) → IsOutcome may_be_open p terms outcome
open_so may_be_open p terms (ThePlan plan) right so = right
open_so may_be_open p terms (TooLong critical) right so = right
open_so may_be_open p terms (TooLate job) right so = right
open_so may_be_open p terms (NoneEnough need) right so = right
open_so may_be_open p terms (Open least) right so = (so refl, right.1)

row_so : (may_be_open : Type 0) (input : Input) (factor price : ℕ) (row : Row) → IsRowFor ⊤ input factor price row → (IsTrue (is_open row) → may_be_open) → IsRowFor may_be_open input factor price row
row_so may_be_open (Network p) factor price (Answered row) right so = (right.0, right.1, open_so may_be_open p (terms_by p price row.deadline) row.outcome right.2 so, right.3)
row_so may_be_open (Network p) factor price (Late jobs resources) right so = right
row_so may_be_open (Network p) factor price Refused right so = right
row_so may_be_open (Network p) factor price Memory right so = right
row_so may_be_open (Network p) factor price NoThread right so = right
row_so may_be_open (Fault words) factor price (Answered row) right so = right
row_so may_be_open (Fault words) factor price (Late jobs resources) right so = right
row_so may_be_open (Fault words) factor price Refused right so = right
row_so may_be_open (Fault words) factor price Memory right so = right
row_so may_be_open (Fault words) factor price NoThread right so = right

pub told_so : (may_be_open : Type 0) (matter : Matter) (row : Row) → IsRowOf ⊤ matter row → (IsTrue (is_open row) → may_be_open) → IsRowOf may_be_open matter row
told_so may_be_open matter row right so = row_so may_be_open matter.input matter.factor matter.price row right so
