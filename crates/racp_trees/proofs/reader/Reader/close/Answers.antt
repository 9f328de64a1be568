use Rattle.std.proofs.Common.{refl}
use Rattle.racp_trees.proofs.reader.Reader.close.Goals as goal

pub returns : goal.returns
returns c = (c.in_ok-kept.kept, refl, refl, c.in_ok-keep.ensures, c.in_ok-kept.ensures)
