use Rattle.std.proofs.Common.{◌≡◌, ◌∙◌, sym, ap, true, false, eqb, length, rules}
use Rattle.racp_tables.specs.Called.{has_id}
use Rattle.racp_tables.proofs.Places.{position_found, position_none}
use Rattle.racp_tables.proofs.named.place_of_id.Goals as goal

pub returns-then-eq : goal.returns-then-eq
returns-then-eq c =
    let few : eqb (length c.args.word.now) 0 ≡ false = sym c.is_empty.ensures ∙ c.if-is_empty.false in
    let here : has_id c.args.word.now c.index-rows-place.result ≡ true = search rules in
    rw few (position_found (has_id c.args.word.now) c.args.rows.now c.loop-place.place c.index-rows-place.result c.loop-place-test.true c.loop-place.invariant
    (ap (has_id c.args.word.now) (sym c.index-rows-place.is) ∙ here))

pub returns : goal.returns
returns c =
    let few : eqb (length c.args.word.now) 0 ≡ false = sym c.is_empty.ensures ∙ c.if-is_empty.false in
    rw few (position_none (has_id c.args.word.now) c.args.rows.now c.loop-place.place c.loop-place-test.false c.loop-place.invariant)
