-- Contracts of private functions: rows of bounds that are kept as changes of others, and the early starts that bounds tell.
use Rattle.std.specs.Prelude.{ℕ, zero, suc, ◌+◌, ◌==◌, max, if◌then◌else◌, List, [], ◌∷◌, length, map, slice_index, slice_set}
use Rattle.std.specs.List.{range_with_len}
use Rattle.racp_model.specs.Project.{Project, duration, number, place}
use Rattle.racp_trees.specs.declared.shared_row.Change.{Change}

-- a row after changes
abbrev pub changed : List ℕ → List Change → List ℕ
changed row [] = row
changed row (change ∷ changes) = changed (slice_set row change.place change.bound) changes

-- the start of the job at place i, put behind the jobs that these pairs put before it
abbrev pub put_behind : Project → (ℕ → ℕ) → List (ℕ × ℕ) → ℕ → ℕ
put_behind p starts [] i = starts i
put_behind p starts (arc ∷ arcs) i =
    if arc.1 == number i then max (starts (place arc.0) + duration p (place arc.0)) (put_behind p starts arcs i) else put_behind p starts arcs i

-- the start of the job at place i after so many rounds, each of which puts every job behind those that precede it
abbrev pub start_after : Project → (ℕ → ℕ) → ℕ → ℕ → ℕ
start_after p lower zero i = lower i
start_after p lower (suc rounds) i = put_behind p (start_after p lower rounds) p.arcs i

-- the early starts above bounds: after a round for each job nothing changes any more, since no job waits for itself
unfoldable pub early_of : Project → List ℕ → List ℕ
early_of p lower = map (λ i. start_after p (slice_index lower) (length p.jobs) i) (range_with_len 0 (length p.jobs))
