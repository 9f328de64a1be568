use Rattle.std.proofs.Common.{◌∙◌, List, ℕ, ap, flat_map, map-id, sym}
use Rattle.std.proofs.lemmas.Iterator.{YieldsList-from_chars}
use Rattle.std.proofs.lemmas.Iterator.Consumers.{YieldsList-end}
use Rattle.racp_export.specs.Letters.{letter_text, spelled}
use Rattle.racp_export.proofs.letters.spelled.Goals as goal

pub returns : goal.returns
unfolding spelled
returns c =
    let end = YieldsList-end (YieldsList-from_chars c.args.plain.now c.utf8.plain cc) c.loop-letter.yielded _ c.loop-letter.yielded_by _ _ c.in-None.is c.next.ensures.steps in
    c.loop-letter.invariant ∙ ap (λ (letters : List ℕ). flat_map (letter_text c.args.letters) letters) (sym (map-id c.loop-letter.yielded) ∙ end.0)
