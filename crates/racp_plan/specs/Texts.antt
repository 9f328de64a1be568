-- The text of a plan, in ASCII. Each line ends with a line feed; numbers are decimal, without leading zeros.
use Rattle.std.specs.Prelude.{ℕ, ◌+◌, List, [], ◌∷◌, ◌++◌, codes}
use Rattle.std.specs.Fmt.{decimal}
use Rattle.racp_plan.specs.declared.plan.Plan.{Plan}

-- a line of this text
unfoldable pub line : List ℕ → List ℕ
line text = text ++ 10 ∷ []

-- `deadline T`
unfoldable pub deadline_line : ℕ → List ℕ
deadline_line deadline = line (codes "deadline " ++ decimal deadline)

-- `critical C`
unfoldable pub critical_line : ℕ → List ℕ
critical_line critical = line (codes "critical " ++ decimal critical)

-- `cost X`
unfoldable pub cost_line : ℕ → List ℕ
cost_line cost = line (codes "cost " ++ decimal cost)

-- `capacity k a`
unfoldable pub capacity_line : ℕ → ℕ → List ℕ
capacity_line resource capacity = line (codes "capacity " ++ decimal resource ++ codes " " ++ decimal capacity)

-- a line for each capacity, the first of them of this resource
abbrev pub capacity_lines : ℕ → List ℕ → List ℕ
capacity_lines resource [] = []
capacity_lines resource (capacity ∷ capacities) =
    capacity_line resource capacity ++ capacity_lines (resource + 1) capacities

-- `start j s`
unfoldable pub start_line : ℕ → ℕ → List ℕ
start_line job start = line (codes "start " ++ decimal job ++ codes " " ++ decimal start)

-- a line for each start, the first of them of this job
abbrev pub start_lines : ℕ → List ℕ → List ℕ
start_lines job [] = []
start_lines job (start ∷ starts) = start_line job start ++ start_lines (job + 1) starts

-- the deadline, the critical length, the cost, the capacity of each resource and the start of each job from 1 on, and a
-- last line
unfoldable pub plan_text : Plan → List ℕ
plan_text plan =
    deadline_line plan.deadline ++ critical_line plan.critical ++ cost_line plan.cost
    ++ capacity_lines 1 plan.capacities ++ start_lines 1 plan.starts ++ line (codes "end")
