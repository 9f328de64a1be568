use Rattle.std.proofs.Common.{◌≡◌, ◌<◌, sym, subst, IfOk, arith, length}
use Rattle.std.proofs.Math.ListN.{take}
use Rattle.clap.specs.Words.{App, app_of}
use Rattle.clap.specs.declared.builder.command.Command.{Command}
use Rattle.racp_words.specs.Commands.{with_lines}
use Rattle.racp_words.proofs.Tables.{next_line}
use Rattle.racp_words.proofs.commands.with_commands.Goals as goal

pub loop-line-preserved : goal.loop-line-preserved
loop-line-preserved c =
    let first : App = app_of c.args.program in
    let before : App = with_lines first (take c.loop-line.line-index c.args.lines.now) in
    let below : c.loop-line.line-index < length c.args.lines.now = omega arith in
    subst (λ (app : App). IfOk c.with_command-command.result (λ (command : Command). app_of command ≡ app)) (sym (next_line first c.args.lines.now c.loop-line.line-index _ below))
    (c.with_command-command.ensures before _ c.loop-line.invariant c.command_of.ensures)
