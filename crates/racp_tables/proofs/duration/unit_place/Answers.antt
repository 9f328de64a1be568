use Rattle.std.proofs.Common.{◌∙◌, sym, ap, arith, length}
use Rattle.std.proofs.lemmas.List.{get_or_default}
use Rattle.std.proofs.lemmas.List.Sums.{position_or_len_is}
use Rattle.std.specs.Char.Unicode.Alphabetic.{is_alphabetic}
use Rattle.racp_tables.proofs.duration.unit_place.Goals as goal

pub returns-then-is_alphabetic-clause-place : goal.returns-then-is_alphabetic-clause-place
returns-then-is_alphabetic-clause-place c =
    sym (position_or_len_is is_alphabetic c.args.letters.now c.loop-place.place 0 (omega arith) c.loop-place.invariant (λ within. ap is_alphabetic (get_or_default c.args.letters.now c.loop-place.place 0 c.index-letters-place.result within ∙ sym c.index-letters-place.is) ∙ sym c.is_alphabetic.ensures.value ∙ c.if-is_alphabetic.true))

pub returns-clause-place : goal.returns-clause-place
returns-clause-place c =
    sym (position_or_len_is is_alphabetic c.args.letters.now (length c.args.letters.now) 0 (omega arith) (λ k below. c.loop-place.invariant k (omega arith)) (λ within. absurd (omega (arith, within))))
