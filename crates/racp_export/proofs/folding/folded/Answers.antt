use Rattle.std.proofs.Common.{[], ◌∙◌, List, ℕ, ap, fold, map-id, sym}
use Rattle.std.proofs.lemmas.Iterator.{YieldsList-from_chars}
use Rattle.std.proofs.lemmas.Iterator.Consumers.{YieldsList-end}
use Rattle.racp_export.specs.Events.{Folding, folded, folding, with_letter}
use Rattle.racp_export.proofs.folding.folded.Goals as goal

pub returns : goal.returns
unfolding folded
returns c =
    let end = YieldsList-end (YieldsList-from_chars c.args.line.now c.utf8.line cc) c.loop-letter.yielded _ c.loop-letter.yielded_by _ _ c.in-None.is c.next.ensures.steps in
    ap (λ (lines : Folding). lines.text) (c.loop-letter.invariant.so_far ∙ ap (λ (letters : List ℕ). fold with_letter (folding [] 0) letters) (sym (map-id c.loop-letter.yielded) ∙ end.0))
