use Rattle.std.proofs.Common.{◌≡◌, ◌-◌, ◌<◌, ℕ, [], arith, length, slice_index_or, subst}
use Rattle.racp_search.specs.Refuting.{IsPartAnswer}
use Rattle.racp_delay.specs.Alternatives.{job_lists}
use Rattle.racp_search.proofs.Going.{list_at, lists_length}
use Rattle.racp_search.proofs.Dividing.{putting-none, putting-more}
use Rattle.racp_search.proofs.Lines.{list_there}
use Rattle.racp_search.proofs.refuting.Divided.put_on.Goals as goal

pub part_of-requires-clause-splits : goal.part_of-requires-clause-splits
part_of-requires-clause-splits c =
    let k : ℕ = c.loop-left.left - 1 in
    let within : k < length c.args.lists.now = omega (arith, c.loop-left.invariant.few, lists_length c.args.lists.now, c.loop-left-test.true) in
    let here : c.as_slice.result.now ≡ slice_index_or (job_lists c.args.lists.now) k [] = list_at c.args.lists.now k c.index-lists-left.result c.as_slice.result.now [] within c.index-lists-left.is c.as_slice.ensures in
    let minimal = c.requires.all.only c.as_slice.result.now (list_there (job_lists c.args.lists.now) k c.as_slice.result.now (omega (arith, within, lists_length c.args.lists.now)) here) in
    (minimal.delays.0, minimal.delays.1)

pub part_of-requires-clause-some : goal.part_of-requires-clause-some
part_of-requires-clause-some c =
    let k : ℕ = c.loop-left.left - 1 in
    let within : k < length c.args.lists.now = omega (arith, c.loop-left.invariant.few, lists_length c.args.lists.now, c.loop-left-test.true) in
    let here : c.as_slice.result.now ≡ slice_index_or (job_lists c.args.lists.now) k [] = list_at c.args.lists.now k c.index-lists-left.result c.as_slice.result.now [] within c.index-lists-left.is c.as_slice.ensures in
    c.requires.some c.as_slice.result.now (list_there (job_lists c.args.lists.now) k c.as_slice.result.now (omega (arith, within, lists_length c.args.lists.now)) here)

pub loop-left-preserved-in-Continue-branch-3 : goal.loop-left-preserved-in-Continue-branch-3
loop-left-preserved-in-Continue-branch-3 c =
    let k : ℕ = c.loop-left.left - 1 in
    let within : k < length c.args.lists.now = omega (arith, c.loop-left.invariant.few, lists_length c.args.lists.now, c.loop-left-test.true) in
    let here : c.as_slice.result.now ≡ slice_index_or (job_lists c.args.lists.now) k [] = list_at c.args.lists.now k c.index-lists-left.result c.as_slice.result.now [] within c.index-lists-left.is c.as_slice.ensures in
    putting-more c.args.self.now (job_lists c.args.lists.now) c.args.windows.now.items c.loop-left.left k c.loop-left.windows.items c.push.new.self.items c.as_slice.result.now c.in-Some.part (omega (arith, c.loop-left-test.true)) (omega (arith, within, lists_length c.args.lists.now)) here
    (subst (IsPartAnswer c.args.self.now c.as_slice.result.now) c.in-Some.is c.in_ok-part.ensures) c.in_ok-push.ensures.items c.loop-left.invariant

pub loop-left-preserved : goal.loop-left-preserved
loop-left-preserved c =
    let k : ℕ = c.loop-left.left - 1 in
    let within : k < length c.args.lists.now = omega (arith, c.loop-left.invariant.few, lists_length c.args.lists.now, c.loop-left-test.true) in
    let here : c.as_slice.result.now ≡ slice_index_or (job_lists c.args.lists.now) k [] = list_at c.args.lists.now k c.index-lists-left.result c.as_slice.result.now [] within c.index-lists-left.is c.as_slice.ensures in
    putting-none c.args.self.now (job_lists c.args.lists.now) c.args.windows.now.items c.loop-left.left k c.loop-left.windows.items c.as_slice.result.now (omega (arith, c.loop-left-test.true)) (omega (arith, within, lists_length c.args.lists.now)) here
    (subst (IsPartAnswer c.args.self.now c.as_slice.result.now) c.in_default.is c.in_ok-part.ensures) c.loop-left.invariant
