use Rattle.std.proofs.Common.{ap, ◌∙◌}
use Rattle.racp_plan.specs.Steps.{after_words}
use Rattle.racp_plan.proofs.lemmas.Fronts.{stripped}
use Rattle.racp_plan.proofs.number.after_words.Goals as goal

pub returns : goal.returns
returns c = stripped c.as_bytes.result.now c.args.line.now c.strip_prefix.result c.strip_prefix.ensures.cases ∙ ap (λ words. after_words words c.args.line.now) c.as_bytes.ensures.value
