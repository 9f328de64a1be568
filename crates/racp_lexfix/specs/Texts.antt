-- The text of an answer, in ASCII: that of the plan, or a line that says why there is none. Numbers are decimal, without leading zeros.
use Rattle.std.specs.Prelude.{ℕ, List, ◌++◌, codes}
use Rattle.std.specs.Fmt.{decimal}
use Rattle.racp_plan.specs.Texts.{line, plan_text}
use Rattle.racp_lexfix.specs.declared.answer.Answer.{Answer}
use Rattle.racp_lexfix.specs.declared.answer.Answer.TheVariants.{Plan as ThePlan, Impossible, Due, Ceiling}

-- `impossible critical C deadline T`
unfoldable pub impossible_line : ℕ → ℕ → List ℕ
impossible_line critical deadline = line (codes "impossible critical " ++ decimal critical ++ codes " deadline " ++
    decimal deadline)

-- `impossible due j`
unfoldable pub due_line : ℕ → List ℕ
due_line job = line (codes "impossible due " ++ decimal job)

-- `impossible ceiling`
unfoldable pub ceiling_line : List ℕ
ceiling_line = line (codes "impossible ceiling")

-- the text of an answer on terms with this deadline
abbrev pub answer_text : ℕ → Answer → List ℕ
answer_text deadline (ThePlan plan) = plan_text plan
answer_text deadline (Impossible longest) = impossible_line longest deadline
answer_text deadline (Due job) = due_line job
answer_text deadline Ceiling = ceiling_line

-- the status of an answer: 0 for a plan, 3 where there is none
abbrev pub answer_status : Answer → ℕ
answer_status (ThePlan plan) = 0
answer_status _ = 3
