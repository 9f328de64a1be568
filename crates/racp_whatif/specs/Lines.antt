-- The lines that tell findings. Each ends with a line feed; numbers are decimal, without leading zeros.
use Rattle.std.specs.Prelude.{ℕ, ◌+◌, ◌-◌, ◌==◌, List, [], ◌∷◌, ◌++◌, Some, None, codes, flat_map, length, nat_lt, slice_index, unwrap_or, if◌then◌else◌}
use Rattle.std.specs.Fmt.{decimal}
use Rattle.racp_plan.specs.Texts.{line}
use Rattle.racp_show.specs.Called.{name_at}
use Rattle.racp_whatif.specs.declared.need.Need.{Need}
use Rattle.racp_plan.specs.declared.plan.Plan.{Plan}
use Rattle.racp_whatif.specs.declared.change.Change.{Change}
use Rattle.racp_whatif.specs.declared.change.Change.TheVariants.{Ceiling, Owned, Deadline}
use Rattle.racp_whatif.specs.declared.outcome.Outcome.{Outcome}
use Rattle.racp_whatif.specs.declared.outcome.Outcome.TheVariants.{Plan as ThePlan, TooLong, TooLate, NoneEnough, Open}
use Rattle.racp_whatif.specs.declared.outcome.Finding.{Finding}

-- what the job of a number is called: by its name, or by the number if it has none
unfoldable pub job_called : List (List ℕ) → ℕ → List ℕ
job_called names number = unwrap_or (name_at names (number - 1)) (codes "job " ++ decimal number)

-- the same of the resource at a place, whose name stands behind those of so many jobs
unfoldable pub resource_called : List (List ℕ) → ℕ → ℕ → List ℕ
resource_called names jobs place = unwrap_or (name_at names (jobs + place)) (codes "resource " ++ decimal (place + 1))

-- `one fewer of NAME`, `one more owned of NAME` or `deadline T`
unfoldable pub change_words : List (List ℕ) → ℕ → Change → List ℕ
change_words names jobs (Ceiling place units) = codes "one fewer of " ++ resource_called names jobs place
change_words names jobs (Owned place units) = codes "one more owned of " ++ resource_called names jobs place
change_words names jobs (Deadline deadline) = codes "deadline " ++ decimal deadline

-- how much more or less one number is than another: `4 more`, `4 less` or `as much`
unfoldable pub beside : ℕ → ℕ → List ℕ
beside old new =
    if nat_lt old new then decimal (new - old) ++ codes " more"
    else (if nat_lt new old then decimal (old - new) ++ codes " less" else codes "as much")

-- `; 2 more of NAME` or `; 2 fewer of NAME`, or nothing where there are as many
unfoldable pub units_beside : List ℕ → ℕ → ℕ → List ℕ
units_beside name old new =
    if nat_lt old new then codes "; " ++ decimal (new - old) ++ codes " more of " ++ name
    else (if nat_lt new old then codes "; " ++ decimal (old - new) ++ codes " fewer of " ++ name else [])

-- the same of each resource, the first of them at this place, beside what there was
abbrev pub each_beside : List (List ℕ) → ℕ → List ℕ → ℕ → List ℕ → List ℕ
each_beside names jobs olds place [] = []
each_beside names jobs olds place (new ∷ news) =
    units_beside (resource_called names jobs place) (slice_index olds place) new ++ each_beside names jobs olds (place + 1) news

-- the name of a job of a need, the first of them at the place 0: ` by NAME`, or `, NAME` for each further one
unfoldable pub job_words : ℕ → List ℕ → List ℕ
job_words place name = (if place == 0 then codes " by " else codes ", ") ++ name

-- those of all jobs, the first of them at this place
abbrev pub each_job : List (List ℕ) → ℕ → List ℕ → List ℕ
each_job names place [] = []
each_job names place (job ∷ rest) = job_words place (job_called names job) ++ each_job names (place + 1) rest

-- ` by NAME, NAME`, or ` by N jobs` if there are more than 8
unfoldable pub jobs_words : List (List ℕ) → List ℕ → List ℕ
jobs_words names jobs =
    if nat_lt 8 (length jobs) then codes " by " ++ decimal (length jobs) ++ codes " jobs" else each_job names 0 jobs

-- ` between T and U`, or nothing for a single job
unfoldable pub between : ℕ → ℕ → List ℕ
between from until = codes " between " ++ decimal from ++ codes " and " ++ decimal until

unfoldable pub times_words : Need → List ℕ
times_words need = if nat_lt 1 (length need.jobs.items) then between need.from need.until else []

-- what is needed above a ceiling: `5 of NAME needed by NAME`, or `5 of NAME needed between T and U by NAME, NAME`
unfoldable pub needed : ℕ → (name times jobs : List ℕ) → List ℕ
needed units name times jobs = decimal units ++ codes " of " ++ name ++ codes " needed" ++ times ++ jobs

unfoldable pub need_words : List (List ℕ) → ℕ → Need → List ℕ
need_words names jobs need =
    needed need.units (resource_called names jobs need.place) (times_words need) (jobs_words names need.jobs.items)

-- what becomes of an order, beside a plan
unfoldable pub outcome_words : List (List ℕ) → ℕ → Plan → Outcome → List ℕ
outcome_words names jobs base (ThePlan plan) =
    codes "cost " ++ decimal plan.cost ++ codes ", " ++ beside base.cost plan.cost
    ++ each_beside names jobs base.capacities 0 plan.capacities
outcome_words names jobs base (TooLong critical) = codes "not possible; the critical length is " ++ decimal critical
outcome_words names jobs base (TooLate job) = codes "not possible; " ++ job_called names job ++ codes " ends too late"
outcome_words names jobs base (NoneEnough None) = codes "not possible"
outcome_words names jobs base (NoneEnough (Some need)) = codes "not possible; " ++ need_words names jobs need
outcome_words names jobs base (Open least) = codes "not known; costs at least " ++ decimal least

-- `CHANGE: OUTCOME`
unfoldable pub finding_line : List (List ℕ) → ℕ → Plan → Finding → List ℕ
finding_line names jobs base finding =
    line (change_words names jobs finding.change ++ codes ": " ++ outcome_words names jobs base finding.outcome)

-- `deadline T: cost X`
unfoldable pub base_line : Plan → List ℕ
base_line base = line (codes "deadline " ++ decimal base.deadline ++ codes ": cost " ++ decimal base.cost)

-- the plan, a line for each finding, and a last line
unfoldable pub findings_text : List (List ℕ) → ℕ → Plan → List Finding → List ℕ
findings_text names jobs base findings = base_line base ++ flat_map (finding_line names jobs base) findings ++ line (codes "end")
