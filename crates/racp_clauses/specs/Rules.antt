-- The rules: what follows for schedules from bounds on their starts, units and cost.
use Rattle.std.specs.Prelude.{ℕ, ◌+◌, ◌-◌, ◌*◌, ◌/◌, ◌==◌, ◌&&◌, ◌||◌, Bool, nat_lt, nat_le, min, if◌then◌else◌, List, length, slice_index, slice_index_or}
use Rattle.std.specs.Int.{div_ceil}
use Rattle.racp_model.specs.Project.{Project, place, duration, request}
use Rattle.racp_model.specs.Schedule.{sum_below}
use Rattle.racp_model.specs.Terms.{Terms}
use Rattle.racp_model.specs.Window.{Bounds}
use Rattle.racp_clauses.specs.Solutions.{units_place, cost_place}
use Rattle.racp_clauses.specs.Clauses.{Derived}
use Rattle.racp_clauses.specs.Inferences.{with_inference}
use Rattle.racp_clauses.specs.declared.literal.Literal.TheVariants.{AtLeast, AtMost}
use Rattle.racp_clauses.specs.declared.inference.Inference.{Inference}
use Rattle.racp_clauses.specs.declared.inference.Inference.TheVariants.{Nothing, Narrow, Close}

-- precedence: job j starts when job i has ended at the earliest
abbrev pub start_behind : Project → Bounds → ℕ → ℕ → Inference
start_behind p bounds i j = Narrow (AtLeast j (slice_index bounds.lower i + duration p i))

-- and job i early enough for job j
abbrev pub start_before : Project → Bounds → ℕ → ℕ → Inference
start_before p bounds i j =
    if nat_lt (slice_index bounds.upper j) (duration p i) then Close
    else Narrow (AtMost i (slice_index bounds.upper j - duration p i))

-- a derivation that goes on by both for a pair of places, one after the other
abbrev pub along : Project → Derived → ℕ → ℕ → Derived
along p d i j = let e : Derived = with_inference d (start_behind p d.bounds i j) in with_inference e (start_before p e.bounds i j)

-- by both for the pair at a place of the precedence relation, if there is one
abbrev pub along_pair : Project → Derived → ℕ → Derived
along_pair p d at = let pair : ℕ × ℕ = slice_index_or p.arcs at (0, 0) in
    if nat_lt at (length p.arcs) then along p d (place pair.0) (place pair.1) else d

-- time table: whether job i runs from time a until time b wherever it starts
abbrev pub runs_throughout : Project → Bounds → ℕ → ℕ → ℕ → Bool
runs_throughout p bounds a b i =
    nat_le (slice_index bounds.upper i) a && nat_le b (slice_index bounds.lower i + duration p i)

-- what it then uses of resource k, if it is not job j
unfoldable pub use_beside : Project → Bounds → ℕ → ℕ → ℕ → ℕ → ℕ → ℕ
use_beside p bounds k a b j i = if i == j then 0 else if runs_throughout p bounds a b i then request p i k else 0

-- what all jobs but j so use together
abbrev pub usage_beside : Project → Bounds → ℕ → ℕ → ℕ → ℕ → ℕ
usage_beside p bounds k a b j = sum_below (length p.jobs) (use_beside p bounds k a b j)

-- whether they leave no room for job j from a until b
abbrev pub has_no_room : Project → Bounds → ℕ → ℕ → ℕ → ℕ → Bool
has_no_room p bounds k a b j =
    nat_lt (slice_index bounds.upper (units_place p k)) (usage_beside p bounds k a b j + request p j k)

-- job j, which runs for some time, does not run from a until b: it starts at b or later if it cannot end by a, and ends
-- by a if it cannot start at b
abbrev pub start_outside : Project → Bounds → ℕ → ℕ → ℕ → Inference
start_outside p bounds a b j =
    if nat_lt a (slice_index bounds.lower j + duration p j)
    then (if nat_lt (slice_index bounds.upper j) b then Close else Narrow (AtLeast j b))
    else if nat_lt (slice_index bounds.upper j) b then Narrow (AtMost j (a - duration p j)) else Nothing

-- so it is where the others leave no room for it on resource k
abbrev pub by_time_table : Project → Bounds → ℕ → ℕ → ℕ → ℕ → Inference
by_time_table p bounds j k a b =
    if nat_lt 0 (duration p j) && nat_lt a b && has_no_room p bounds k a b j then start_outside p bounds a b j else Nothing

-- energy: the least time for which job i runs from time a to time b
abbrev pub least_time : Project → Bounds → ℕ → ℕ → ℕ → ℕ
least_time p bounds a b i =
    min (min (duration p i) (b - a))
    (min (slice_index bounds.lower i + duration p i - a) (b - slice_index bounds.upper i))

-- the least work that it does on resource k meanwhile
abbrev pub least_work : Project → Bounds → ℕ → ℕ → ℕ → ℕ → ℕ
least_work p bounds k a b i = request p i k * least_time p bounds a b i

-- the units of resource k are at least the least work of all jobs from a to b over the time between, rounded up
abbrev pub by_energy : Project → Bounds → ℕ → ℕ → ℕ → Inference
by_energy p bounds k a b =
    if nat_lt a b
    then Narrow (AtLeast (units_place p k) (div_ceil (sum_below (length p.jobs) (least_work p bounds k a b)) (b - a)))
    else Nothing

-- request: the units of resource k are at least what job i requests, if it runs for some time
abbrev pub by_request : Project → ℕ → ℕ → Inference
by_request p i k = if nat_lt 0 (duration p i) then Narrow (AtLeast (units_place p k) (request p i k)) else Nothing

-- cost: what the least units of resource k cost
abbrev pub least_price : Project → Terms → Bounds → ℕ → ℕ
least_price p terms bounds k =
    slice_index terms.prices k * (slice_index bounds.lower (units_place p k) - slice_index terms.owned k)

-- the cost is at least that of the least units of all resources
abbrev pub by_units : Project → Terms → Bounds → Inference
by_units p terms bounds = let least : ℕ = sum_below p.resources (least_price p terms bounds) in
    if nat_lt (slice_index bounds.upper (cost_place p)) least then Close else Narrow (AtLeast (cost_place p) least)

-- what the least units of resource q cost, if it is not resource k
unfoldable pub price_beside : Project → Terms → Bounds → ℕ → ℕ → ℕ
price_beside p terms bounds k q = if q == k then 0 else least_price p terms bounds q

-- the units of resource k, if they have a price, are at most the owned ones and those that the greatest cost pays for,
-- less what the least units of the others cost
abbrev pub by_cost : Project → Terms → Bounds → ℕ → Inference
by_cost p terms bounds k =
    let most : ℕ = slice_index bounds.upper (cost_place p) in
    let others : ℕ = sum_below p.resources (price_beside p terms bounds k) in
    if nat_lt 0 (slice_index terms.prices k)
    then (if nat_lt most others then Close
    else Narrow (AtMost (units_place p k) (slice_index terms.owned k + (most - others) / slice_index terms.prices k)))
    else Nothing

-- an inference about what there is: a job at a place, a resource
abbrev pub of_job : Project → ℕ → Inference → Inference
of_job p j inference = if nat_lt j (length p.jobs) then inference else Nothing

abbrev pub of_resource : Project → ℕ → Inference → Inference
of_resource p k inference = if nat_lt k p.resources then inference else Nothing
