-- A plan as a sheet of numbers, as it is written as JSON.
use Rattle.std.specs.Prelude.{◌≡◌, ℕ, ◌+◌, ◌-◌, ◌<◌, List, length, slice_index, slice_index_or, option_map, string_bytes}
use Rattle.racp_calendar.specs.Dates.{first_word, has_dates, last_word}
use Rattle.racp_calendar.specs.declared.calendar.Calendar.{Calendar}
use Rattle.racp_model.specs.Project.{Project, number, duration, request}
use Rattle.racp_model.specs.Path.{IsLate}
use Rattle.racp_model.specs.Terms.{Terms, due_of}
use Rattle.racp_plan.specs.declared.plan.Plan.{Plan}
use Rattle.racp_show.specs.declared.sheet.JobEntry.{JobEntry}
use Rattle.racp_show.specs.declared.sheet.ResourceEntry.{ResourceEntry}
use Rattle.racp_show.specs.declared.sheet.Sheet.{Sheet}
use Rattle.racp_show.specs.Called.{name_at}
use Rattle.racp_show.specs.Tasks.{precedents}
use Rattle.racp_show.specs.Uses.{AreSteps}

-- the entry of the job at place i, for these late starts: its number, its name if it has one, when it starts and ends, by
-- numbers and by the days of a calendar that has dates, how long it runs, how much later it could start, what comes right before it, and what it needs of each resource
pub record IsJobEntry (calendar : Calendar) (p : Project) (starts late : List ℕ) (names : List (List ℕ)) (i : ℕ) (entry : JobEntry) :
    Type 0 where
  pub numbered : entry.job ≡ number i
  pub called : option_map (λ name. name.now) entry.name ≡ name_at names i
  pub begins : entry.start ≡ slice_index starts i
  pub stops : entry.end ≡ slice_index starts i + duration p i
  pub first_is : option_map string_bytes entry.first_day ≡ first_word calendar (slice_index starts i) (duration p i)
  pub last_is : option_map string_bytes entry.last_day ≡ last_word calendar (slice_index starts i + duration p i)
  pub runs : entry.duration ≡ duration p i
  pub slack_is : entry.slack ≡ slice_index late i - slice_index starts i
  pub after : entry.predecessors.items ≡ precedents i p.arcs
  pub request_places : length entry.requests.items ≡ p.resources
  pub requests_are : (k : ℕ) → slice_index entry.requests.items k ≡ request p i k

-- an entry for each job
pub record AreJobEntries (calendar : Calendar) (p : Project) (starts late : List ℕ) (names : List (List ℕ))
    (entries : List JobEntry) : Type 0 where
  pub places : length entries ≡ length p.jobs
  pub each : (i : ℕ) (d : JobEntry) → i < length p.jobs →
      IsJobEntry calendar p starts late names i (slice_index_or entries i d)

-- the entry of the resource at place k: its number, its name if it has one, what the order says of it, how many units
-- there are, and their usage
pub record IsResourceEntry (p : Project) (terms : Terms) (plan : Plan) (names : List (List ℕ)) (k : ℕ)
    (entry : ResourceEntry) : Type 0 where
  pub numbered : entry.resource ≡ number k
  pub called : option_map (λ name. name.now) entry.name ≡ name_at names (length p.jobs + k)
  pub priced : entry.price ≡ slice_index terms.prices k
  pub owned_is : entry.owned ≡ slice_index terms.owned k
  pub units : entry.capacity ≡ slice_index plan.capacities k
  pub used : AreSteps p plan.starts k entry.usage.items

-- an entry for each resource
pub record AreResourceEntries (p : Project) (terms : Terms) (plan : Plan) (names : List (List ℕ))
    (entries : List ResourceEntry) : Type 0 where
  pub places : length entries ≡ p.resources
  pub each : (k : ℕ) (d : ResourceEntry) → k < p.resources →
      IsResourceEntry p terms plan names k (slice_index_or entries k d)

-- the sheet of a plan: the deadline of the order, the critical length and the cost that the plan says, and an entry for
-- each job and each resource. Slack is told by the late starts by the due times and the deadline
pub record IsSheet (calendar : Calendar) (p : Project) (terms : Terms) (plan : Plan) (names : List (List ℕ)) (sheet : Sheet) :
    Type 0 where
  pub deadline_is : sheet.deadline ≡ terms.deadline
  pub deadline_day_is : option_map string_bytes sheet.deadline_day ≡ last_word calendar terms.deadline
  pub dated : sheet.has_dates ≡ has_dates calendar
  pub critical_is : sheet.critical ≡ plan.critical
  pub cost_is : sheet.cost ≡ plan.cost
  pub late : List ℕ
  pub is_late : IsLate p (due_of terms) late
  pub job_entries : AreJobEntries calendar p plan.starts late names sheet.jobs.items
  pub resource_entries : AreResourceEntries p terms plan names sheet.resources.items
