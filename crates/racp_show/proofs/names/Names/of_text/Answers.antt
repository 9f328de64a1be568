use Rattle.std.proofs.Common.{◌∙◌, [], ℕ, List, map, fold, ap, ap₂, sym}
use Rattle.std.proofs.lemmas.Iterator.Consumers.{YieldsList-end}
use Rattle.std.proofs.lemmas.Iterator.Splits.{YieldsList-from_lines}
use Rattle.racp_show.specs.Called.{printed, with_name}
use Rattle.racp_show.proofs.Reading.{fold_line}
use Rattle.racp_show.proofs.names.Names.of_text.Goals as goal

pub returns : goal.returns
returns c =
    let end = YieldsList-end (YieldsList-from_lines c.args.text.now cc) c.loop-line.yielded _ c.loop-line.yielded_by _ _ c.in-None.is c.next.ensures.steps in
    c.loop-line.invariant ∙ ap (λ (xs : List (List ℕ)). fold with_name [] (map printed xs)) end.0

pub loop-line-preserved : goal.loop-line-preserved
loop-line-preserved c =
    c.in_ok-push_name.ensures ∙ (ap₂ with_name c.loop-line.invariant c.in_ok-printed.ensures ∙ sym (fold_line with_name [] c.loop-line.yielded c.in-Some.line))
