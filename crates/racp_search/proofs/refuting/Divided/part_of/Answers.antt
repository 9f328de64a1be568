use Rattle.std.proofs.Common.{arith}
use Rattle.racp_delay.proofs.lemmas.Conflicts.{conflict_numbers}
use Rattle.racp_search.proofs.Dividing.{part_numbers, part_end, part_is}
use Rattle.racp_search.proofs.refuting.Divided.part_of.Goals as goal

pub first_end-requires-clause-active : goal.first_end-requires-clause-active
first_end-requires-clause-active c =
    let d = c.args.self.now in
    conflict_numbers d.net.now d.capacities.now d.early.now d.clash.now.time d.clash.now.active c.requires.conflicting.conflict.first

pub overflow_cast-end : goal.overflow_cast-end
overflow_cast-end c =
    let split = c.requires.splits in
    omega (arith, part_end c.args.self.now c.requires.conflicting c.args.gone.now split.0 split.1 c.others_stay.ensures c.job_count.ensures.sound c.in-Some.end (c.in-Some.ensures split.0 split.1))

pub put_off-requires-clause-gone : goal.put_off-requires-clause-gone
put_off-requires-clause-gone c =
    let split = c.requires.splits in
    part_numbers c.args.self.now c.requires.conflicting c.args.gone.now split.0 split.1 c.subsets_go.ensures

pub put_off-requires-clause-end : goal.put_off-requires-clause-end
put_off-requires-clause-end c =
    let split = c.requires.splits in
    omega (arith, part_end c.args.self.now c.requires.conflicting c.args.gone.now split.0 split.1 c.others_stay.ensures c.job_count.ensures.sound c.in-Some.end (c.in-Some.ensures split.0 split.1))

pub returns : goal.returns
returns c =
    let split = c.requires.splits in
    part_is c.args.self.now c.requires.conflicting c.args.gone.now split.0 split.1 c.child_is_inside.ensures c.child_is_higher.ensures c.no_conflict_before.ensures c.requires.some c.in-Some.end c.in-Some.ensures c.in_ok-part.part c.in_ok-part.ensures
