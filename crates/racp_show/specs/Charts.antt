-- A plan as a chart: what is drawn of each job and of each resource.
use Rattle.std.specs.Prelude.{◌≡◌, ℕ, ◌+◌, ◌*◌, ◌<◌, List, length, slice_index, slice_index_or}
use Rattle.racp_model.specs.Project.{Project, duration}
use Rattle.racp_model.specs.Schedule.{energy}
use Rattle.racp_plan.specs.declared.plan.Plan.{Plan}
use Rattle.racp_show.specs.declared.scale.Scale.{Scale}
use Rattle.racp_show.specs.declared.chart.JobRow.{JobRow}
use Rattle.racp_show.specs.declared.chart.ResourceRow.{ResourceRow}
use Rattle.racp_show.specs.declared.chart.Chart.{Chart}
use Rattle.racp_show.specs.Scales.{IsScale, IsBar}
use Rattle.racp_show.specs.Uses.{IsGreatestUsage, percent}

-- the row of the job at place i: when it starts and ends, and how that is drawn
pub record IsJobRow (p : Project) (starts : List ℕ) (scale : Scale) (i : ℕ) (row : JobRow) : Type 0 where
  pub begins : row.start ≡ slice_index starts i
  pub stops : row.end ≡ slice_index starts i + duration p i
  pub drawn : IsBar scale.span scale.columns row.start row.end row.bar

-- a row for each job
pub record AreJobRows (p : Project) (starts : List ℕ) (scale : Scale) (rows : List JobRow) : Type 0 where
  pub places : length rows ≡ length p.jobs
  pub each : (i : ℕ) (d : JobRow) → i < length p.jobs → IsJobRow p starts scale i (slice_index_or rows i d)

-- for each column the greatest usage of resource k at its times
pub record AreLevels (p : Project) (starts : List ℕ) (scale : Scale) (k : ℕ) (levels : List ℕ) : Type 0 where
  pub places : length levels ≡ scale.columns
  pub each : (c : ℕ) → c < scale.columns →
      IsGreatestUsage p starts k (c * scale.span) (c * scale.span + scale.span) (slice_index levels c)

-- the row of the resource at place k: how many units there are, how busy they are, and their usage in each column
pub record IsResourceRow (p : Project) (plan : Plan) (deadline : ℕ) (scale : Scale) (k : ℕ)
    (row : ResourceRow) : Type 0 where
  pub units : row.capacity ≡ slice_index plan.capacities k
  pub busy_is : row.busy ≡ percent (energy p k) (slice_index plan.capacities k * deadline)
  pub usage : AreLevels p plan.starts scale k row.levels.items

-- a row for each resource
pub record AreResourceRows (p : Project) (plan : Plan) (deadline : ℕ) (scale : Scale)
    (rows : List ResourceRow) : Type 0 where
  pub places : length rows ≡ p.resources
  pub each : (k : ℕ) (d : ResourceRow) → k < p.resources →
      IsResourceRow p plan deadline scale k (slice_index_or rows k d)

-- the chart of a plan up to a deadline, with at most this many columns
pub record IsChart (p : Project) (plan : Plan) (deadline most : ℕ) (chart : Chart) : Type 0 where
  pub scaled : IsScale deadline most chart.scale.span chart.scale.columns
  pub job_rows : AreJobRows p plan.starts chart.scale chart.jobs.items
  pub resource_rows : AreResourceRows p plan deadline chart.scale chart.resources.items
