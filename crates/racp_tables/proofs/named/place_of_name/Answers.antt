use Rattle.std.proofs.Common.{◌≡◌, ◌∙◌, sym, ap, true, rules}
use Rattle.racp_tables.specs.Called.{has_name}
use Rattle.racp_tables.proofs.Places.{position_found, position_none}
use Rattle.racp_tables.proofs.named.place_of_name.Goals as goal

pub returns-then-eq-clause-place : goal.returns-then-eq-clause-place
returns-then-eq-clause-place c =
    let here : has_name c.args.word.now c.index-rows-place.result ≡ true = search rules in
    (position_found (has_name c.args.word.now) c.args.rows.now c.loop-place.place c.index-rows-place.result c.loop-place-test.true c.loop-place.invariant
    (ap (has_name c.args.word.now) (sym c.index-rows-place.is) ∙ here))

pub returns-clause-place : goal.returns-clause-place
returns-clause-place c =
    (position_none (has_name c.args.word.now) c.args.rows.now c.loop-place.place c.loop-place-test.false c.loop-place.invariant)
