use Rattle.std.proofs.Common.{◌≡◌, Bool, true, false, not, IsTrue, ◌↔◌, Option, Some, None, MatchOption, ℕ, List, [], subst, refl}
use Rattle.std.specs.Option.{is_some}
use Rattle.racp_model.specs.JobSets.{members}
use Rattle.racp_model.specs.Words.{AreZero, IsLowestBit}
use Rattle.racp_model.proofs.Bits.{no_jobs, some_job}
use Rattle.racp_model.proofs.job_set.JobSet.is_empty.Goals as goal

by_cases : (words : List ℕ) (found : Option (ℕ × ℕ)) (r : Bool) → MatchOption found (AreZero words) (λ at. IsLowestBit words at.0 at.1) → is_some found ≡ not r → IsTrue r ↔ (members words ≡ [])
by_cases words None true h e = ((λ _. no_jobs words h), λ _. refl)
by_cases words None false h e = cc
by_cases words (Some at) true h e = cc
by_cases words (Some at) false h e = ((λ no_bit. cc), λ none. absurd (some_job words at.0 at.1 h none))

pub returns : goal.returns
returns c = subst (λ (xs : List ℕ). IsTrue c.is_none.result ↔ (xs ≡ [])) c.self.view_is (by_cases c.self.inside.words c.lowest.result c.is_none.result c.lowest.ensures c.is_none.ensures)
