use Rattle.std.proofs.Common.{◌≡◌, refl, rules}
use Rattle.racp_plan.specs.Texts.{line}
use Rattle.racp_cli.specs.Texts.{no_thread_line}
use Rattle.racp_cli.proofs.refusal.refused.Goals as goal

pub returns-in_ok-to_vec-in-Stop-NoThread : goal.returns-in_ok-to_vec-in-Stop-NoThread
unfolding no_thread_line line
returns-in_ok-to_vec-in-Stop-NoThread c =
    let text : no_thread_line ≡ c.in_ok-to_vec-in-Stop-NoThread.field-0.items = search rules in
    rw (c.in-Stop-NoThread.is, c.in-Stop-NoThread.field-0-is) (refl, text)
