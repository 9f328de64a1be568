-- The greatest numbers that contracts name: times in time units, and units of a resource.
use Rattle.std.specs.Prelude.{ℕ}

-- the latest deadline, release and due time of an order
abbrev pub latest_time : ℕ
latest_time = 10000000

-- the most units of a resource that are owned, or that a ceiling allows
abbrev pub most_units : ℕ
most_units = 10000000

-- the greatest upper bound of a window, and so the greatest start that answers
abbrev pub most_start : ℕ
most_start = 10000000

-- the greatest lower bound of a window
abbrev pub most_bound : ℕ
most_bound = 20000000

-- the greatest early start in a window: all jobs run for at most 5,120,000 time units together
abbrev pub most_early : ℕ
most_early = 25120000

-- the greatest load: all jobs request at most 5,120,000 units of a resource together
abbrev pub most_load : ℕ
most_load = 5120000
