-- The sheet of a plan, and the cost of capacities, for the texts of a network and an order.
use Rattle.std.specs.Prelude.{◌≡◌, ℕ, List, length, Ok, option_map}
use Rattle.racp_model.specs.Project.{Project}
use Rattle.racp_model.specs.Terms.{Terms, cost}
use Rattle.racp_sm.specs.Reading.{IsReading}
use Rattle.racp_prices.specs.Orders.{IsOrder}
use Rattle.racp_plan.specs.PlanReading.{IsPlanReading}
use Rattle.racp_plan.specs.declared.plan.Plan.{Plan}
use Rattle.racp_calendar.specs.declared.calendar.Calendar.{Calendar}
use Rattle.racp_show.specs.Sheets.{IsSheet}
use Rattle.racp_show.specs.declared.sheet.Sheet.{Sheet}
use Rattle.racp_json.specs.declared.order.Terms as told

-- the texts are read as a network and an order for it
pub record AreTermsIn (net order : List ℕ) (network : Project) (terms : Terms) : Type 0 where
  pub is_network : IsReading net (Ok network)
  pub is_order : IsOrder network.resources (length network.jobs) order (Ok terms)

-- the sheet of the plan that a text is read as, with these names and the days of a calendar
pub record IsSheetIn (net order text : List ℕ) (names : List (List ℕ)) (calendar : Calendar) (sheet : Sheet) : Type 0 where
  pub network : Project
  pub terms : Terms
  pub plan : Plan
  pub are_terms : AreTermsIn net order network terms
  pub is_plan : IsPlanReading network text (Ok plan)
  pub is_sheet : IsSheet calendar network terms plan names sheet

-- what these capacities cost
abbrev pub IsBoundIn : List ℕ → List ℕ → List ℕ → ℕ → Type 0
IsBoundIn net order capacities bound =
    (network : Project) × (terms : Terms) × AreTermsIn net order network terms × (bound ≡ cost terms capacities)

-- this is what an order says, as it is told
pub record SaysTerms (terms : Terms) (said : told.Terms) : Type 0 where
  pub deadline_is : said.deadline ≡ terms.deadline
  pub prices_are : said.prices.items ≡ terms.prices
  pub owned_are : said.owned.items ≡ terms.owned
  pub ceiling_is : option_map (λ list. list.items) said.ceiling ≡ terms.ceilings

-- this is what the order of these texts says
abbrev pub AreTermsTold : List ℕ → List ℕ → told.Terms → Type 0
AreTermsTold net order said =
    (network : Project) × (terms : Terms) × AreTermsIn net order network terms × SaysTerms terms said
