use Rattle.racp_words.specs.CommandLine.{racp}
use Rattle.racp_words.proofs.commands.command.Goals as goal

pub returns : goal.returns
unfolding racp
returns c = c.with_commands-3.ensures _ (c.in_ok-charting.ensures _ (c.in_ok-planning.ensures _ c.program.ensures))
