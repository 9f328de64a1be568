use Rattle.std.proofs.Common.{◌≡◌, min, arith, rules}
use Rattle.racp_model.specs.Terms.{cost}
use Rattle.std.proofs.lemmas.Result.{IfOk-weaker}
use Rattle.racp_by_questions.specs.Searched.{AreSpans, HasAllBelow, IsSearched}
use Rattle.racp_by_questions.proofs.Cheapest.{above-has_all, below-has_all}
use Rattle.racp_by_questions.proofs.Foreseeing.{spans-popped, spans-pushed}
use Rattle.racp_by_questions.proofs.Halves.{left-halves, left_none, left_some, searched-both}
use Rattle.racp_by_questions.proofs.halving.+search.Goals as goal

pub returns-in_default-clause-searched : goal.returns-in_default-clause-searched
returns-in_default-clause-searched g t c =
    left_none c.args.subject.now c.args.span c.args.known.now c.cut_and_ask.new.known c.in_ok-high.field-0 c.in_ok-high.ensures.left c.in_default.is

pub halved-requires : goal.halved-requires
halved-requires g t c =
    let left = left_some c.args.subject.now c.args.span c.args.known.now c.cut_and_ask.new.known c.in_ok-high.field-0 c.in-Some.high c.in-Some.k c.in_ok-high.ensures.left c.in-Some.is in
    record { low = left.resource; high = omega (arith, left.cut.places, c.requires.span.low); several = left.several }

pub search-requires : goal.search-requires
search-requires g t c κs within =
    let s = c.args.subject.now in
    let left = left_some s c.args.span c.args.known.now c.cut_and_ask.new.known c.in_ok-high.field-0 c.in-Some.high c.in-Some.k c.in_ok-high.ensures.left c.in-Some.is in
    let are = left-halves s c.requires.subject c.args.span c.requires.span c.args.known.now c.requires.known c.cut_and_ask.new.known c.in-Some.high c.in-Some.k left (c.in_ok-below.below, c.in_ok-below.above) c.in_ok-below.ensures in
    let other : c.cost_of-other.result ≡ cost s.order.now c.in_ok-below.above.low = cc (c.cost_of-other.ensures, c.as_slice.ensures) in
    let first : c.min.result ≡ min c.args.rest c.cut_and_ask.new.known.cost = c.min.ensures in
    let then : c.min-rest_of_below.result ≡ min c.min.result c.cost_of-other.result = c.min-rest_of_below.ensures in
    let has : HasAllBelow s c.in_ok-below.below c.min-rest_of_below.result =
    below-has_all s c.requires.subject c.args.span c.requires.span c.args.rest c.requires.rest c.cut_and_ask.new.known left.better.known (c.in_ok-below.below, c.in_ok-below.above) are c.min-rest_of_below.result
    (omega (arith, then, first)) (omega (arith, then, first)) (omega (arith, then, other)) in
    let pending : AreSpans s c.push_copy.new.pending.items =
    spans-pushed s c.args.pending.now.items c.push_copy.new.pending.items c.in_ok-below.above c.requires.pending are.above c.in_ok-push_copy.ensures in
    (search rules, (within, (c.cut_and_ask.ensures.network, (c.requires.subject, (are.below, (left.better.known, (pending, (has, c.requires.heard))))))))

pub search-requires-2 : goal.search-requires-2
search-requires-2 g t c κs within =
    let s = c.args.subject.now in
    let left = left_some s c.args.span c.args.known.now c.cut_and_ask.new.known c.in_ok-high.field-0 c.in-Some.high c.in-Some.k c.in_ok-high.ensures.left c.in-Some.is in
    let are = left-halves s c.requires.subject c.args.span c.requires.span c.args.known.now c.requires.known c.cut_and_ask.new.known c.in-Some.high c.in-Some.k left (c.in_ok-below.below, c.in_ok-below.above) c.in_ok-below.ensures in
    let has : HasAllBelow s c.in_ok-below.above c.min-rest_of_above.result =
    above-has_all s c.requires.subject c.args.span c.requires.span c.args.rest c.requires.rest c.cut_and_ask.new.known left.better.known (c.in_ok-below.below, c.in_ok-below.above) are c.search.new.known c.min-rest_of_above.result
    c.in_ok-search.ensures.searched (omega (arith, c.min-rest_of_above.ensures)) (omega (arith, c.min-rest_of_above.ensures)) in
    let pending : AreSpans s c.pop.new.self.items =
    spans-popped s c.search.new.pending.items c.pop.new.self.items c.pop.result c.in_ok-search.ensures.pending c.pop.ensures.items in
    (search rules, (within, (c.search.ensures.network, (c.requires.subject, (are.above, (c.in_ok-search.ensures.searched.better.known, (pending, (has, c.requires.heard))))))))

pub returns-clause-searched : goal.returns-clause-searched
returns-clause-searched g t c =
    let s = c.args.subject.now in
    let left = left_some s c.args.span c.args.known.now c.cut_and_ask.new.known c.in_ok-high.field-0 c.in-Some.high c.in-Some.k c.in_ok-high.ensures.left c.in-Some.is in
    let are = left-halves s c.requires.subject c.args.span c.requires.span c.args.known.now c.requires.known c.cut_and_ask.new.known c.in-Some.high c.in-Some.k left (c.in_ok-below.below, c.in_ok-below.above) c.in_ok-below.ensures in
    IfOk-weaker c.search-2.result (λ x. IsSearched s c.in_ok-below.above c.search.new.known c.search-2.new.known) (λ x. IsSearched s c.args.span c.args.known.now c.search-2.new.known)
    (λ x then.
    searched-both s c.requires.subject c.args.span c.requires.span c.args.known.now c.requires.known (c.in_ok-below.below, c.in_ok-below.above) c.cut_and_ask.new.known c.search.new.known c.search-2.new.known
    left.better are c.in_ok-search.ensures.searched then)
    c.search-2.ensures.searched
