-- What is said of the resources of a plan, and what is drawn of it.
use Rattle.std.specs.Prelude.{◌≡◌, ℕ, ◌+◌, ◌*◌, ◌<◌, List, length, slice_index, slice_index_or, option_map}
use Rattle.racp_model.specs.Project.{Project, number}
use Rattle.racp_model.specs.Schedule.{energy}
use Rattle.racp_model.specs.Terms.{Terms}
use Rattle.racp_plan.specs.declared.plan.Plan.{Plan}
use Rattle.racp_show.specs.Called.{name_at}
use Rattle.racp_show.specs.Outlines.{Outlined}
use Rattle.racp_show.specs.Rows.{AreRows}
use Rattle.racp_show.specs.Uses.{AreSteps, percent}
use Rattle.racp_charts.specs.declared.choice.Choice.{Choice}
use Rattle.racp_charts.specs.declared.drawing.Drawing.{Drawing}

-- what is said of the resource at place k
pub record IsChoice (p : Project) (terms : Terms) (plan : Plan) (names : List (List ℕ)) (k : ℕ) (choice : Choice) :
    Type 0 where
  pub numbered : choice.resource ≡ number k
  pub called : option_map (λ name. name.now) choice.name ≡ name_at names (length p.jobs + k)
  pub units_are : choice.units ≡ slice_index plan.capacities k
  pub priced : choice.price ≡ slice_index terms.prices k
  pub owned_is : choice.owned ≡ slice_index terms.owned k
  pub busy_is : choice.busy ≡ percent (energy p k) (slice_index plan.capacities k * terms.deadline)
  pub used : AreSteps p plan.starts k choice.usage.items

-- what is said of each resource
pub record AreChoices (p : Project) (terms : Terms) (plan : Plan) (names : List (List ℕ)) (choices : List Choice) :
    Type 0 where
  pub places : length choices ≡ p.resources
  pub each : (k : ℕ) (d : Choice) → k < p.resources → IsChoice p terms plan names k (slice_index_or choices k d)

-- what is drawn of a plan
pub record IsDrawing (p : Project) (terms : Terms) (plan : Plan) (names : List (List ℕ)) (outline : Outlined)
    (drawing : Drawing) : Type 0 where
  pub deadline_is : drawing.deadline ≡ terms.deadline
  pub critical_is : drawing.critical ≡ plan.critical
  pub cost_is : drawing.cost ≡ plan.cost
  pub tasks_are : drawing.task_count ≡ outline.tasks
  pub all_rows : AreRows p terms plan.starts names outline drawing.rows.items
  pub all_choices : AreChoices p terms plan names drawing.choices.items
