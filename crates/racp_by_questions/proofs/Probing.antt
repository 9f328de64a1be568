-- What the finding of one question tells.
use Rattle.std.proofs.Common.{◌≡◌, ◌∙◌, ℕ, [], true, Option, IsFalse, refl, subst, ap}
use Rattle.racp_model.specs.Project.{Project}
use Rattle.racp_model.specs.declared.question.Question.{Question}
use Rattle.racp_questions.specs.FirstYes.{IsProbed}
use Rattle.racp_questions.specs.declared.asker.Probe.{Probe}
use Rattle.racp_questions.specs.declared.asker.Probe.TheVariants.{Yes, No, Open}
use Rattle.racp_model.specs.Window.{Bounds}
use Rattle.racp_search.specs.Truth.{SearchPiece, SearchFinding, IsExplored, rest_windows}
use Rattle.racp_search.specs.declared.finding.Rest.{Rest}
use Rattle.racp_search.specs.declared.finding.Rest.TheVariants.{Whole, Windows}
use Rattle.racp_by_questions.specs.Working.{IsProbeOf, IsLeft}

-- what the finding of a whole question tells is told of the question
pub probed : (p net : Project) (question : Question) (most : Option ℕ) (piece : SearchPiece) (finding : SearchFinding) (probe : Probe) → net ≡ p → IsExplored p piece most finding → piece.question ≡ question →
    IsFalse finding.stopped → IsFalse finding.short → IsProbeOf p finding probe → IsProbed net question most probe
probed p net question most piece finding probe named explored is quick long told =
    rw named (subst (λ (q : Question). IsProbed p q most probe) (ap (λ (x : SearchPiece). x.question) explored.own ∙ is) (by probe told))
  where
    by : (answer : Probe) → IsProbeOf p finding answer → IsProbed p finding.piece.question most answer
    by (Yes starts) answers = answers
    by No is_no = is_no
    by Open left = λ none. left (explored.all quick long none)

-- where something is left of a piece, it leaves some windows
pub some_left : (window : Bounds) (rest : Rest) → IsLeft rest true → rest_windows window rest ≡ [] → ⊥
some_left window Whole left none = cc none
some_left window (Windows list) left none = left.0 refl none
