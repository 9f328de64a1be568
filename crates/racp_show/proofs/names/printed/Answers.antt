use Rattle.std.proofs.Common.{◌∙◌, ◌++◌, List, ℕ, encode_utf8, encode_utf8_all, filter, not, ap, sym, map-id}
use Rattle.std.proofs.lemmas.Iterator.{YieldsList-from_chars}
use Rattle.std.proofs.lemmas.Iterator.Consumers.{YieldsList-end}
use Rattle.racp_show.specs.Called.{is_unprinted}
use Rattle.racp_show.proofs.Naming.{with_letter, without_letter}
use Rattle.racp_show.proofs.names.printed.Goals as goal

pub loop-letter-preserved-in-Continue-1 : goal.loop-letter-preserved-in-Continue-1
loop-letter-preserved-in-Continue-1 c =
    c.in_ok-push.ensures.bytes ∙ ap (λ bytes. bytes ++ encode_utf8 c.in-Some.letter) c.loop-letter.invariant
    ∙ sym (with_letter c.loop-letter.yielded c.in-Some.letter (sym c.is_unprinted.ensures ∙ c.if-not-is_unprinted.true))

pub loop-letter-preserved : goal.loop-letter-preserved
loop-letter-preserved c = c.loop-letter.invariant ∙ sym (without_letter c.loop-letter.yielded c.in-Some.letter (sym c.is_unprinted.ensures ∙ c.if-not-is_unprinted.false))

pub returns : goal.returns
returns c =
    let end = YieldsList-end (YieldsList-from_chars c.args.line.now c.utf8.line cc) c.loop-letter.yielded _ c.loop-letter.yielded_by _ _ c.in-None.is c.next.ensures.steps in
    c.loop-letter.invariant ∙ ap (λ (letters : List ℕ). encode_utf8_all (filter (λ letter. not (is_unprinted letter)) letters)) (sym (map-id c.loop-letter.yielded) ∙ end.0)
