-- What is proved of what a plan costs, and how a page says so.
use Rattle.std.specs.Prelude.{ℕ, ◌-◌, List, codes, if◌then◌else◌, nat_le, ⊤}
use Rattle.std.specs.Fmt.{decimal}
use Rattle.racp_model.specs.Project.{Project}
use Rattle.racp_model.specs.Terms.{Terms}
use Rattle.racp_plan.specs.declared.plan.Plan.{Plan}
use Rattle.racp_found.specs.Told.{IsLeastOfEnough}
use Rattle.racp_check.specs.Leastness.{HasNoneEnoughBefore}
use Rattle.racp_charts.specs.Texts.{◌⋅◌}
use Rattle.racp_report.specs.declared.claim.Claim.{Claim}
use Rattle.racp_report.specs.declared.claim.Claim.TheVariants.{Unknown, Cheapest, AtLeast}

-- a claim is true of a plan: no capacities that are enough stand before its own; all of them cost at least so much
abbrev pub IsClaim : Project → Terms → Plan → Claim → Type 0
IsClaim p terms plan Unknown = ⊤
IsClaim p terms plan Cheapest = HasNoneEnoughBefore p terms plan.capacities
IsClaim p terms plan (AtLeast least) = IsLeastOfEnough p terms least

-- what was checked
unfoldable pub checked_text : List ℕ
checked_text =
    codes "<p>The plan was checked when this page was made: each task comes after those that it waits for "
    ⋅ codes "and ends in time, no resource is used beyond its units, and the cost is right. However many "
    ⋅ codes "units there are, it takes at least the critical length. "

-- what each choice costs at least
unfoldable pub least_text : ℕ → List ℕ
least_text least = codes "<strong>Proved: each choice that keeps the deadline costs at least " ⋅ decimal least

-- how much can be saved at most
unfoldable pub most_text : ℕ → List ℕ
most_text saved = codes ", so at most " ⋅ decimal saved ⋅ codes " can be saved"

abbrev pub saving_text : ℕ → ℕ → List ℕ
saving_text cost least = if nat_le cost least then codes ", so none is cheaper" else most_text (cost - least)

-- both
unfoldable pub bound_text : ℕ → ℕ → List ℕ
bound_text cost least =
    least_text least ⋅ saving_text cost least ⋅ codes ".</strong> A certificate of that was checked, too."

-- what is shown of the cost
abbrev pub shown_text : ℕ → Claim → List ℕ
shown_text cost Unknown =
    codes "This page does not show whether a cheaper choice keeps the deadline; how to have that shown stands at its end."
shown_text cost Cheapest =
    codes "<strong>Proved: no cheaper choice keeps the deadline.</strong> A certificate of that was checked, too."
shown_text cost (AtLeast least) = bound_text cost least

-- what was checked of a plan that costs so much, and what is shown of that cost
unfoldable pub claim_element : ℕ → Claim → List ℕ
claim_element cost claim = checked_text ⋅ shown_text cost claim ⋅ codes "</p>\n"
