use Rattle.std.proofs.Common.{ℕ, subst, sym}
use Rattle.racp_trees.specs.Making.{IsThinned}
use Rattle.racp_trees.proofs.Making.{thinned_more, thinned_then}
use Rattle.racp_trees.proofs.maker.Maker.expect.Goals as goal

pub returns : goal.returns
returns g c =
    thinned_then c.args.self.now.reader c.enter.new.self.reader c.expect.new.self
    (thinned_more c.args.self.now.reader c.make_room.new.self.reader c.enter.new.self.reader c.make_room.ensures c.in_ok-enter.ensures)
    (subst (λ (n : ℕ). IsThinned c.enter.new.self.reader.closed c.expect.new.self n) (sym c.in_ok-enter.ensures.number) c.in_ok-expect.ensures)
