use Rattle.std.proofs.Common.{◌≤◌, ℕ, List, ap, arith, length, rules}
use Rattle.racp_trees.specs.Texts.{most_number}
use Rattle.racp_trees.proofs.Making.{choice_covers, choice_divides}
use Rattle.racp_trees.proofs.maker.Maker.choose.Goals as goal

pub early-requires-clause-places : goal.early-requires-clause-places
early-requires-clause-places g c = c.requires.lower

pub early-requires-clause-small : goal.early-requires-clause-small
early-requires-clause-small g c = c.requires.small

pub first_too_late-requires-clause-places : goal.first_too_late-requires-clause-places
first_too_late-requires-clause-places g c =
    omega (arith, ap (λ (xs : List ℕ). length xs) c.upper.ensures.bounds, c.requires.root.upper, ap (λ (xs : List ℕ). length xs) c.as_slice.ensures, c.in_ok-early.ensures.places)

pub first_too_late-requires-clause-few : goal.first_too_late-requires-clause-few
first_too_late-requires-clause-few g c =
    omega (arith, ap (λ (xs : List ℕ). length xs) c.as_slice.ensures, c.in_ok-early.ensures.places, c.job_count.ensures.sound.limits.most_jobs)

pub conflict-requires-clause-capacities : goal.conflict-requires-clause-capacities
conflict-requires-clause-capacities g c = c.requires.capacities

pub conflict-requires-clause-starts : goal.conflict-requires-clause-starts
conflict-requires-clause-starts g c = c.in_ok-early.ensures.places

pub row_of-requires-clause-capacities : goal.row_of-requires-clause-capacities
row_of-requires-clause-capacities g c = c.requires.capacities

pub row_of-requires-clause-lower : goal.row_of-requires-clause-lower
row_of-requires-clause-lower g c = c.requires.lower

pub row_of-requires-clause-small : goal.row_of-requires-clause-small
row_of-requires-clause-small g c = c.requires.small

pub row_of-requires-clause-early : goal.row_of-requires-clause-early
row_of-requires-clause-early g c = c.in_ok-early.ensures

pub covering-requires-clause-rows : goal.covering-requires-clause-rows
covering-requires-clause-rows g c = c.requires.ready.rows

pub covering-requires-clause-row : goal.covering-requires-clause-row
covering-requires-clause-row g c = c.in_ok-row.ensures

pub returns-in-Some-covering : goal.returns-in-Some-covering
returns-in-Some-covering g c =
    let little : c.in-Some-covering.node ≤ most_number = search rules in
    choice_covers c.args.self.now.reader c.in-Some-covering.node little c.in-Some-covering.ensures

pub returns : goal.returns
returns g c =
    let little : c.in-Some-conflict.clash.time ≤ most_number = search rules in
    choice_divides c.args.self.now.reader c.expect.new.self.reader c.in-Some-conflict.clash.time little c.in_ok-expect.ensures
