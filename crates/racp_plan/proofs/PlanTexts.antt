-- The text of a plan from each of its lines on.
use Rattle.std.proofs.Common.{◌≡◌, ◌∙◌, ℕ, List, ◌++◌, codes, append_assoc}
use Rattle.racp_plan.specs.declared.plan.Plan.{Plan}
use Rattle.racp_plan.specs.Texts.{line, deadline_line, critical_line, cost_line, capacity_lines, start_lines, plan_text}
use Rattle.racp_plan.specs.Steps.{number_line, number_lines}
use Rattle.racp_plan.proofs.lemmas.Numbered.{start_word, capacity_word, start_lines_are, capacity_lines_are}

-- the lines before the last, from each of the first ones on
abbrev pub from_starts : Plan → List ℕ
from_starts plan = number_lines start_word 1 plan.starts ++ line (codes "end")

abbrev pub from_capacities : Plan → List ℕ
from_capacities plan = number_lines capacity_word 1 plan.capacities ++ from_starts plan

abbrev pub from_cost : Plan → List ℕ
from_cost plan = number_line (codes "cost ") plan.cost ++ from_capacities plan

abbrev pub from_critical : Plan → List ℕ
from_critical plan = number_line (codes "critical ") plan.critical ++ from_cost plan

six : (a b c d e f : List ℕ) → a ++ b ++ c ++ d ++ e ++ f ≡ a ++ (b ++ (c ++ (d ++ (e ++ f))))
six a b c d e f = simp append_assoc

pub plan_text_is : (plan : Plan) → plan_text plan ≡ number_line (codes "deadline ") plan.deadline ++ from_critical plan
unfolding plan_text deadline_line critical_line cost_line
plan_text_is plan =
    six (deadline_line plan.deadline) (critical_line plan.critical) (cost_line plan.cost) (capacity_lines 1 plan.capacities) (start_lines 1 plan.starts) (line (codes "end"))
    ∙ (λ i. number_line (codes "deadline ") plan.deadline ++ (number_line (codes "critical ") plan.critical ++ (number_line (codes "cost ") plan.cost ++ (capacity_lines_are 1 plan.capacities i ++ (start_lines_are 1 plan.starts i ++ line (codes "end"))))))
