use Rattle.std.proofs.Common.{rules, ◌≡◌, ◌∙◌}
use Rattle.racp_core.specs.Machine.{KnownYes}
use Rattle.racp_core.specs.Steps.{lesser}
use Rattle.racp_core.proofs.collector.handing.lesser_yes.Goals as goal

pub returns-in_default : goal.returns-in_default
returns-in_default c =
    let yes : KnownYes = record { index = c.args.index; starts = c.args.starts } in
    let is : c.match-least-2.result ≡ yes = search (rules, c.match-least-2.branch) in
    let lesser_is : yes ≡ lesser c.args.least yes = search rules in
    is ∙ lesser_is
