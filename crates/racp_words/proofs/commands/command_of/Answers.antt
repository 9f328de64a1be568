use Rattle.std.proofs.Common.{◌≡◌, ◌∙◌, ◌+◌, ◌<◌, ap, sym, subst, IfOk, arith, length}
use Rattle.std.proofs.Math.ListN.{take}
use Rattle.clap.specs.Words.{App, Rule, new_app, rule_of, with_rule}
use Rattle.racp_words.specs.Commands.{IsCommandOf, with_words}
use Rattle.racp_words.proofs.Tables.{next_word}
use Rattle.racp_words.proofs.commands.command_of.Goals as goal

pub loop-word-preserved : goal.loop-word-preserved
loop-word-preserved c =
    let first : App = new_app c.args.line.now.name.now in
    let before : App = with_words first (take c.loop-word.word-index c.args.line.now.words.now) in
    let below : c.loop-word.word-index < length c.args.line.now.words.now = omega arith in
    let step : with_words first (take (c.loop-word.word-index + 1) c.args.line.now.words.now) ≡ with_rule before (rule_of c.argument_of.result) =
    next_word first c.args.line.now.words.now c.loop-word.word-index _ below ∙ ap (λ (rule : Rule). with_rule before rule) (sym c.argument_of.ensures.rule) in
    subst (λ (app : App). IfOk c.with_argument-command.result (IsCommandOf app)) (sym step) (c.with_argument-command.ensures before c.argument_of.ensures.own c.loop-word.invariant)
