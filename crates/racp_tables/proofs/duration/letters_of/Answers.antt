use Rattle.std.proofs.Common.{◌≡◌, ◌∙◌, ap}
use Rattle.std.specs.Str.{trim}
use Rattle.std.proofs.lemmas.Iterator.{YieldsList-from_chars, items_from_collect}
use Rattle.racp_tables.specs.Pieces.{without_end}
use Rattle.racp_tables.proofs.duration.letters_of.Goals as goal

pub returns : goal.returns
returns c =
    let text : c.trim.result.now ≡ trim (without_end 63 c.args.word.now) = c.trim.ensures.trim ∙ ap trim c.without_end.ensures in
    rw text at (items_from_collect _ c.collect.ensures.ran (YieldsList-from_chars c.trim.result.now c.trim.utf8 c.chars.ensures.rest))
