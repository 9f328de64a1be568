-- What is told of findings as values.
use Rattle.std.specs.Prelude.{◌≡◌, ℕ, List, Option, Some, None, option_map}
use Rattle.racp_model.specs.Project.{number}
use Rattle.racp_whatif.specs.declared.change.Change.{Change}
use Rattle.racp_whatif.specs.declared.change.Change.TheVariants.{Ceiling, Owned, Deadline}
use Rattle.racp_whatif.specs.declared.outcome.Outcome.{Outcome}
use Rattle.racp_whatif.specs.declared.outcome.Outcome.TheVariants.{Plan as ThePlan, NoneEnough, Open}
use Rattle.racp_whatif.specs.declared.outcome.Finding.{Finding}
use Rattle.racp_whatif.specs.declared.need.Need.{Need}
use Rattle.racp_whatif.specs.declared.json.ToldFinding.{ToldFinding}
use Rattle.racp_whatif.specs.declared.json.ToldNeed.{ToldNeed}

-- the number to which a term is changed
abbrev pub value_of : Change → ℕ
value_of (Ceiling place units) = units
value_of (Owned place units) = units
value_of (Deadline deadline) = deadline

-- the cost and the capacities of a plan, if there is one
abbrev pub cost_in : Outcome → Option ℕ
cost_in (ThePlan plan) = Some plan.cost
cost_in _ = None

abbrev pub capacities_in : Outcome → Option (List ℕ)
capacities_in (ThePlan plan) = Some plan.capacities
capacities_in _ = None

-- what each plan costs at least, of a plan that is not known
abbrev pub least_in : Outcome → Option ℕ
least_in (Open least) = Some least
least_in _ = None

-- these are the numbers of a need; resources are numbered from 1
pub record TellsNeed (need : Need) (told : ToldNeed) : Type 0 where
  pub resource : told.resource ≡ number need.place
  pub units : told.units ≡ need.units
  pub from : told.from ≡ need.from
  pub until : told.until ≡ need.until
  pub jobs : told.jobs.items ≡ need.jobs.items

-- what is told of the need of an order without a plan, if one is seen
abbrev pub TellsNeedOf : Outcome → Option ToldNeed → Type 0
TellsNeedOf (NoneEnough (Some need)) (Some told) = TellsNeed need told
TellsNeedOf (NoneEnough (Some need)) None = ⊥
TellsNeedOf outcome told = told ≡ None

-- these are the numbers of a finding
pub record TellsFinding (finding : Finding) (told : ToldFinding) : Type 0 where
  pub value : told.value ≡ value_of finding.change
  pub cost : told.cost ≡ cost_in finding.outcome
  pub capacities : option_map (λ list. list.items) told.capacities ≡ capacities_in finding.outcome
  pub least : told.least ≡ least_in finding.outcome
  pub need : TellsNeedOf finding.outcome told.need
