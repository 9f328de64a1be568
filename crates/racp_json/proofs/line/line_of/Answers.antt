use Rattle.std.proofs.Common.{◌∙◌, ap, arith, flat_map}
use Rattle.std.proofs.lemmas.Iterator.Consumers.{YieldsList-end}
use Rattle.std.proofs.lemmas.Iterator.Splits.{YieldsList-from_str_split}
use Rattle.racp_json.specs.Lines.{number_of, word_of}
use Rattle.racp_json.proofs.line.line_of.Goals as goal

pub returns-clause-words : goal.returns-clause-words
returns-clause-words c =
    let end = YieldsList-end (YieldsList-from_str_split 32 c.args.line.now (omega arith) (cc) (cc) (cc)) c.loop-word.yielded _ c.loop-word.yielded_by _ _ c.in-None.is c.next.ensures.steps in
    c.loop-word.invariant.0 ∙ ap (flat_map word_of) end.0

pub returns-clause-numbers : goal.returns-clause-numbers
returns-clause-numbers c =
    let end = YieldsList-end (YieldsList-from_str_split 32 c.args.line.now (omega arith) (cc) (cc) (cc)) c.loop-word.yielded _ c.loop-word.yielded_by _ _ c.in-None.is c.next.ensures.steps in
    c.loop-word.invariant.1 ∙ ap (flat_map number_of) end.0
