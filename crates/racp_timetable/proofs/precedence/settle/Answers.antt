use Rattle.std.proofs.Common.{[], Bool, subst}
use Rattle.racp_timetable.specs.Narrowing.{IsNarrowed, IsNarrowedOrNo}
use Rattle.racp_timetable.proofs.Moving.{narrowed-again}
use Rattle.racp_timetable.proofs.precedence.settle.Goals as goal

pub reduce_along-requires : goal.reduce_along-requires
reduce_along-requires c =
    let first : IsNarrowed c.args.net.now [] 0 c.args.window.now c.raise_along.new.window = subst (λ (b : Bool). IsNarrowedOrNo c.args.net.now [] 0 c.args.window.now c.raise_along.new.window b) c.if-raise_along.true (c.raise_along.ensures [] 0) in
    first.bounds

pub returns-then-raise_along : goal.returns-then-raise_along
returns-then-raise_along c capacities from =
    let first : IsNarrowed c.args.net.now capacities from c.args.window.now c.raise_along.new.window = subst (λ (b : Bool). IsNarrowedOrNo c.args.net.now capacities from c.args.window.now c.raise_along.new.window b) c.if-raise_along.true (c.raise_along.ensures capacities from) in
    narrowed-again c.args.net.now capacities from c.args.window.now c.raise_along.new.window c.reduce_along.new.window c.reduce_along.result first (c.reduce_along.ensures capacities from)
