use Rattle.racp_sm.specs.Steps.{texts}
use Rattle.racp_sm.proofs.Noting.{kept_first}
use Rattle.racp_sm.proofs.Naming.{named}
use Rattle.racp_sm.proofs.head.note_value.Goals as goal

pub returns-then-is_some : goal.returns-then-is_some
returns-then-is_some c =
    kept_first c.args.kept.now _ _ c.new.result c.if-is_none.ensures (named (texts c.args.names.now) c.args.key.now c.after_words.result c.after_words.ensures c.if-is_some.ensures) c.new.ensures
