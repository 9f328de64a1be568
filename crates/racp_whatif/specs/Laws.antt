-- A law of needs. It is the contract of a public function.
use Rattle.racp_model.specs.Project.{Project}
use Rattle.racp_model.specs.Terms.{Terms}
use Rattle.racp_model.specs.Plan.{NoneIsEnough}
use Rattle.racp_whatif.specs.Needs.{IsAboveCeiling, IsNeed}
use Rattle.racp_whatif.specs.declared.need.Need.{Need}

-- with a need above a ceiling no capacities are enough
abbrev pub NeedLeavesNone : Type 0
NeedLeavesNone =
    (p : Project) (terms : Terms) (need : Need) → IsNeed p terms need → IsAboveCeiling terms need → NoneIsEnough p terms
