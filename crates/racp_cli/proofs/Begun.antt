-- A text that begins with the line of a plan.
use Rattle.std.proofs.Common.{◌≡◌, ◌≢◌, ◌∙◌, ◌++◌, List, ℕ, Option, Some, None, ap, option_map, subst, sym}
use Rattle.std.specs.Prelude.{MatchOption}
use Rattle.std.specs.Str.Pattern.{FindsTextPrefix, StripsPrefix}
use Rattle.racp_whatif.specs.Lines.{base_line}
use Rattle.racp_plan.specs.declared.plan.Plan.{Plan}
use Rattle.racp_cli.specs.ReportAnswers.{AreBehind}
use denote.Ref.{Bor}

-- what `strip_prefix` leaves of it
pub are_behind : (plan : Plan) (line changes : List ℕ) (r : Option (Bor (List ℕ))) → line ≡ base_line plan →
    MatchOption r (FindsTextPrefix line changes None) (λ x. StripsPrefix (FindsTextPrefix line) changes x.now) →
    AreBehind plan changes (option_map (λ rest. rest.now) r)
are_behind plan line changes None is cut = subst (λ (l : List ℕ). (rest : List ℕ) → changes ≢ l ++ rest) is cut
are_behind plan line changes (Some x) is cut =
    subst (λ (l : List ℕ). changes ≡ l ++ x.now) is (cut.1.1 ∙ ap (λ (t : List ℕ). line ++ t) (sym cut.2))
