use Rattle.std.proofs.Common.{◌≡◌, refl, rules}
use Rattle.racp_plan.specs.Texts.{line}
use Rattle.racp_cli.specs.Texts.{no_thread_line}
use Rattle.racp_soonest.specs.Texts.{span_line}
use Rattle.racp_cli.proofs.soonest.ended.Goals as goal

pub returns-in_ok-to_vec-in-NoThread : goal.returns-in_ok-to_vec-in-NoThread
unfolding no_thread_line line
returns-in_ok-to_vec-in-NoThread c =
    let text : no_thread_line ≡ c.in_ok-to_vec-in-NoThread.field-0.items = search rules in
    rw c.in-NoThread.is (refl, text)

pub returns-in_ok-text-in-Stopped : goal.returns-in_ok-text-in-Stopped
returns-in_ok-text-in-Stopped c =
    let text : span_line c.args.span ≡ c.in_ok-text-in-Stopped.text.items = search rules in
    rw c.in-Stopped.is (refl, text)
