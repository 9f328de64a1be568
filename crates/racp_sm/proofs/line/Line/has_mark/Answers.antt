use Rattle.std.proofs.Common.{◌∙◌, ap, sym}
use Rattle.std.specs.Prelude.{◌||◌}
use Rattle.racp_sm.specs.Lines.{has_words}
use Rattle.racp_sm.specs.Steps.{has_mark, next_title}
use Rattle.racp_sm.proofs.line.Line.has_mark.Goals as goal

pub returns-then-has_star : goal.returns-then-has_star
returns-then-has_star c =
    c.if-has_star.true ∙ (ap (λ b. b || has_words (next_title c.in-End.part) c.args.self.now) c.if-has_star.ensures ∙ ap (λ mark. has_mark mark c.args.self.now) (sym c.in-End.is))
