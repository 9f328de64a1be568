use Rattle.std.proofs.lemmas.Str.Pattern.{split_once_first}
use Rattle.racp_tables.proofs.Cuts.{parts_are}
use Rattle.racp_tables.proofs.pieces.parts_at.Goals as goal

pub returns : goal.returns
returns c = parts_are _ _ _ _ _ (split_once_first c.args.letter c.args.text.now c.split_once.result c.split_once.ensures.cases c.requires)
