use Rattle.std.proofs.Common.{◌∙◌, ◌++◌, List, ℕ, ap, flat_map, map-id, string_bytes, sym}
use Rattle.std.proofs.lemmas.Iterator.{YieldsList-from_chars}
use Rattle.std.proofs.lemmas.Iterator.Consumers.{YieldsList-end}
use Rattle.racp_charts.specs.Texts.{escape, escaped}
use Rattle.racp_charts.proofs.escape.push_escaped.Goals as goal

pub returns : goal.returns
unfolding escaped
returns c =
    let end = YieldsList-end (YieldsList-from_chars c.args.plain.now c.utf8.plain cc) c.loop-letter.yielded _ c.loop-letter.yielded_by _ _ c.in-None.is c.next.ensures.steps in
    c.loop-letter.invariant ∙ ap (λ (letters : List ℕ). string_bytes c.args.text.now ++ flat_map escape letters) (sym (map-id c.loop-letter.yielded) ∙ end.0)
