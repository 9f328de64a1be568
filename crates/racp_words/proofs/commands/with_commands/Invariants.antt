use Rattle.std.proofs.Common.{◌≡◌, IfOk}
use Rattle.std.proofs.Math.ListN.{take}
use Rattle.clap.specs.Words.{app_of}
use Rattle.racp_words.specs.Commands.{with_lines}
use Rattle.racp_words.proofs.commands.with_commands.Given as goal

abbrev pub invariant-loop-line : goal.invariant-loop-line
invariant-loop-line l = IfOk l.command (λ command. app_of command ≡ with_lines (app_of l.fn.program) (take l.line-index l.lines))
