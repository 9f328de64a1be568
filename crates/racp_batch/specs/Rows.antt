-- What is right to tell of a case.
use Rattle.std.specs.Prelude.{◌≡◌, ◌⊎◌, ℕ, Bool, false, None, Some, IfSome, length, not, ⊤}
use Rattle.racp_model.specs.Project.{Project}
use Rattle.racp_model.specs.Terms.{Terms}
use Rattle.racp_found.specs.Told.{IsKnownCost, IsLeastOfEnough}
use Rattle.racp_whatif.specs.Outcomes.{IsOutcome, is_settled}
use Rattle.racp_batch.specs.Cases.{Matter}
use Rattle.racp_batch.specs.Orders.{IsDeadlineBy, terms_by}
use Rattle.racp_batch.specs.declared.case.Input.{Input}
use Rattle.racp_batch.specs.declared.case.Input.TheVariants.{Network, Fault}
use Rattle.racp_batch.specs.declared.row.Answered.{Answered as AnsweredRow}
use Rattle.racp_batch.specs.declared.row.Row.{Row}
use Rattle.racp_batch.specs.declared.row.Work.{Work}
use Rattle.racp_batch.specs.declared.row.Row.TheVariants.{Answered, Late, Refused, Memory, NoThread}

-- the network has so many jobs and resources
abbrev pub AreSizes : Project → ℕ → ℕ → Type 0
AreSizes p jobs resources = (jobs ≡ length p.jobs) × (resources ≡ p.resources)

-- a plan may be left open if the time for a row is limited, or if the user may ask for a stop
abbrev pub MayBeOpen : (unlimited quiet : Bool) → Type 0
MayBeOpen unlimited quiet = (unlimited ≡ false) ⊎ (quiet ≡ false)

-- some plan of an order costs so much
abbrev pub IsCostOfSome : Project → Terms → ℕ → Type 0
IsCostOfSome p terms known = ∥ IsKnownCost p terms known ∥₁

-- of an order, what each plan costs at least, and what one costs that is known
pub record IsWork (p : Project) (terms : Terms) (work : Work) : Type 0 where
  pub bound : IsLeastOfEnough p terms work.bound
  pub best : IfSome work.best (IsCostOfSome p terms)

-- what becomes of the order with this factor and price: its plan, why there is none, or, if that may be left open, what each
-- plan costs at least; and what was heard of it is true
abbrev pub IsAnsweredBy : (may_be_open : Type 0) → Project → ℕ → ℕ → AnsweredRow → Type 0
IsAnsweredBy may_be_open p factor price row = AreSizes p row.jobs row.resources × IsDeadlineBy p factor (Some row.deadline) ×
    IsOutcome may_be_open p (terms_by p price row.deadline) row.outcome ×
    IsWork p (terms_by p price row.deadline) row.work

-- what is right to tell of a file with this factor and price: memory may be refused, and a thread not be started, at any
abbrev pub IsRowFor : (may_be_open : Type 0) → Input → ℕ → ℕ → Row → Type 0
IsRowFor may_be_open (Network p) factor price (Answered row) = IsAnsweredBy may_be_open p factor price row
IsRowFor may_be_open (Network p) factor price (Late jobs resources) = AreSizes p jobs resources × IsDeadlineBy p factor None
IsRowFor may_be_open (Network p) factor price Refused = ⊥
IsRowFor may_be_open (Network p) factor price Memory = ⊤
IsRowFor may_be_open (Network p) factor price NoThread = ⊤
IsRowFor may_be_open (Fault words) factor price (Answered row) = ⊥
IsRowFor may_be_open (Fault words) factor price (Late jobs resources) = ⊥
IsRowFor may_be_open (Fault words) factor price Refused = ⊤
IsRowFor may_be_open (Fault words) factor price Memory = ⊤
IsRowFor may_be_open (Fault words) factor price NoThread = ⊤

-- the same of a case
abbrev pub IsRowOf : (may_be_open : Type 0) → Matter → Row → Type 0
IsRowOf may_be_open matter row = IsRowFor may_be_open matter.input matter.factor matter.price row

-- whether a row leaves a plan open
abbrev pub is_open : Row → Bool
is_open (Answered row) = not (is_settled row.outcome)
is_open (Late jobs resources) = false
is_open Refused = false
is_open Memory = false
is_open NoThread = false
