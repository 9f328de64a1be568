-- The text of a plan tells which plan it is.
use Rattle.std.proofs.Common.{◌≡◌, ℕ, List, [], ◌∷◌, ◌++◌, get_or, codes, refl, sym, ◌∙◌, arith}
use Rattle.racp_plan.specs.declared.plan.Plan.{Plan}
use Rattle.racp_plan.specs.Texts.{line, plan_text}
use Rattle.racp_plan.specs.TextLaws.{IsWithin64Bits}
use Rattle.racp_plan.specs.Steps.{number_lines}
use Rattle.racp_plan.proofs.lemmas.Numbered.{start_word, same_line, lines_first, same_lines}
use Rattle.racp_plan.proofs.PlanTexts.{from_starts, from_capacities, from_cost, from_critical, plan_text_is}

-- the last line, and the lines of starts, begin with other letters than the lines of capacities
last_line_first : get_or (line (codes "end")) 0 0 ≡ 101
unfolding line
last_line_first = refl

starts_first : (starts : List ℕ) → get_or (number_lines start_word 1 starts ++ line (codes "end")) 0 0 ≡ 99 → ⊥
starts_first [] e = omega (arith, last_line_first, e)
starts_first (start ∷ starts) e = omega (arith, lines_first 115 (codes "tart ") 1 start starts (line (codes "end")), e)

pub same_plan : (a b : Plan) → IsWithin64Bits a → IsWithin64Bits b → plan_text a ≡ plan_text b → a ≡ b
same_plan a b p q e =
    let deadline = same_line (codes "deadline ") a.deadline b.deadline (from_critical a) (from_critical b) p.deadline q.deadline (sym (plan_text_is a) ∙ e ∙ plan_text_is b) in
    let critical = same_line (codes "critical ") a.critical b.critical (from_cost a) (from_cost b) p.critical q.critical deadline.1 in
    let cost = same_line (codes "cost ") a.cost b.cost (from_capacities a) (from_capacities b) p.cost q.cost critical.1 in
    let capacities = same_lines 99 (codes "apacity ") 1 a.capacities b.capacities (from_starts a) (from_starts b) (starts_first a.starts) (starts_first b.starts) p.capacities q.capacities cost.1 in
    let last : get_or (line (codes "end")) 0 0 ≡ 115 → ⊥ = λ (f : get_or (line (codes "end")) 0 0 ≡ 115). omega (arith, last_line_first, f) in
    let starts = same_lines 115 (codes "tart ") 1 a.starts b.starts (line (codes "end")) (line (codes "end")) last last p.starts q.starts capacities.1 in
    λ i. record { deadline = deadline.0 i; critical = critical.0 i; cost = cost.0 i; capacities = capacities.0 i; starts = starts.0 i }
