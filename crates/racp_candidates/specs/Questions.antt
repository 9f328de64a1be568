-- Lists of questions about one resource or one job.
use Rattle.std.specs.Prelude.{ℕ, ◌+◌, ◌-◌, List, slice_index, set, map}
use Rattle.std.specs.List.{range_with_len}
use Rattle.racp_model.specs.Window.{Bounds}
use Rattle.racp_model.specs.declared.question.Question.{Question}

-- the question of capacities and a window
abbrev pub question_of : List ℕ → Bounds → Question
question_of capacities window = record { capacities = capacities; window = window }

-- the numbers from one to another, both among them
abbrev pub numbers_between : ℕ → ℕ → List ℕ
numbers_between low high = range_with_len low (high + 1 - low)

-- a question for each number of units of the resource at place k from its floor to its roof, with roofs elsewhere
abbrev pub single_questions : (floors roofs : List ℕ) → ℕ → Bounds → List Question
single_questions floors roofs k window =
    map (λ units. question_of (set roofs k units) window) (numbers_between (slice_index floors k) (slice_index roofs k))

-- a window with both bounds of the job at place i at one start
abbrev pub window_at : Bounds → ℕ → ℕ → Bounds
window_at window i start = record { lower = set window.lower i start; upper = set window.upper i start }

-- a question for each start of the job at place i from its lower to its upper bound
abbrev pub start_questions : List ℕ → Bounds → ℕ → List Question
start_questions capacities window i =
    map (λ start. question_of capacities (window_at window i start))
    (numbers_between (slice_index window.lower i) (slice_index window.upper i))
