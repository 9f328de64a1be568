-- Laws of reading orders. Each is the contract of a public function.
use Rattle.std.specs.Prelude.{◌≡◌, ℕ, ◌<◌, ◌≤◌, List, length, slice_index, replicate, None, Result, Ok, codes}
use Rattle.toml.specs.Data.{Members, get_member}
use Rattle.racp_model.specs.Project.{Project}
use Rattle.racp_model.specs.Terms.{Terms, AreTermsOf}
use Rattle.racp_prices.specs.Orders.{order_of, IsOrder}
use Rattle.racp_prices.specs.declared.fault.OrderFault.{OrderFault}

-- a text is read as at most one thing
abbrev pub OneReading : Type 0
OneReading =
    (resources jobs : ℕ) (text : List ℕ) (a b : Result Terms OrderFault) →
    IsOrder resources jobs text a → IsOrder resources jobs text b → a ≡ b

-- each text is read as something
abbrev pub TextIsRead : Type 0
TextIsRead = (resources jobs : ℕ) (text : List ℕ) → (answer : Result Terms OrderFault) ×
    IsOrder resources jobs text answer

-- the terms that a text is read as are terms of each project with this many resources and jobs, and no due time is above the
-- deadline
abbrev pub ReadWithinLimits : Type 0
ReadWithinLimits =
    (p : Project) (text : List ℕ) (terms : Terms) → IsOrder p.resources (length p.jobs) text (Ok terms) →
    AreTermsOf p terms × ((i : ℕ) → i < length p.jobs → slice_index terms.due i ≤ terms.deadline)

-- without a version no unit is owned, there may be any number of units, and each job may run from 0 to the deadline
abbrev pub PlainOrder : Type 0
PlainOrder =
    (resources jobs : ℕ) (table : Members) (terms : Terms) → get_member (codes "version") table ≡ None →
    order_of resources jobs table ≡ Ok terms →
    (terms.owned ≡ replicate resources 0) × (terms.ceilings ≡ None) × (terms.release ≡ replicate jobs 0) ×
    (terms.due ≡ replicate jobs terms.deadline)
