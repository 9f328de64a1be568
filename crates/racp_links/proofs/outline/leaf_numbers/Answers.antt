use Rattle.std.proofs.Common.{◌≡◌, ℕ, ◌+◌, false, get_or}
use Rattle.racp_links.specs.Phases.{leaf_number}
use Rattle.racp_links.proofs.Numbered.{counted_more, few_more, numbers_more}
use Rattle.racp_links.proofs.outline.leaf_numbers.Goals as goal

pub loop-place-preserved : goal.loop-place-preserved
loop-place-preserved c =
    let at : ℕ = c.loop-place.place in
    let count : c.with_next-count.result ≡ leaf_number c.args.parents.now (at + 1) =
    counted_more c.args.parents.now at c.loop-place.count c.with_next-count.result (get_or c.args.marks.now at false)
    (c.requires.marks.each at c.loop-place-test.true) c.loop-place.invariant.count c.with_next-count.ensures in
    record {
      few = few_more at c.loop-place.count c.with_next-count.result (get_or c.args.marks.now at false) c.loop-place.invariant.few c.with_next-count.ensures;
      count = count;
      numbers = numbers_more c.args.parents.now c.loop-place.numbers.items c.push.new.self.items at c.with_next-count.result c.loop-place.invariant.numbers count c.in_ok-push.ensures.items;
    }
