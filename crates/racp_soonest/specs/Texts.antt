-- The text of how soon a project can end, in ASCII. Numbers are decimal, without leading zeros.
use Rattle.std.specs.Prelude.{ℕ, List, Option, Some, None, ◌++◌, codes}
use Rattle.std.specs.Fmt.{decimal}
use Rattle.racp_plan.specs.Texts.{line, plan_text}
use Rattle.racp_lexfix.specs.Texts.{answer_text}
use Rattle.racp_soonest.specs.declared.soonest.Soonest.{Soonest}
use Rattle.racp_soonest.specs.declared.soonest.Soonest.TheVariants.{Plan as ThePlan, NoPlan}
use Rattle.racp_soonest.specs.declared.soonest.Span.{Span}

-- the text of the plan, or the line that says why there is none
abbrev pub soonest_text : ℕ → Soonest → List ℕ
soonest_text deadline (ThePlan plan) = plan_text plan
soonest_text deadline (NoPlan reason) = answer_text deadline reason

-- `stopped deadline L to U`: the least deadline is from L to U
unfoldable pub known_line : ℕ → ℕ → List ℕ
known_line least known = line (codes "stopped deadline " ++ decimal least ++ codes " to " ++ decimal known)

-- `stopped deadline L`: it is at least L
unfoldable pub open_line : ℕ → List ℕ
open_line least = line (codes "stopped deadline " ++ decimal least)

abbrev pub line_at : Option ℕ → ℕ → List ℕ
line_at (Some known) least = known_line least known
line_at None least = open_line least

abbrev pub span_line : Span → List ℕ
span_line span = line_at span.known span.least
