use Rattle.std.proofs.Common.{refl, ℕ, [], Vec, Option, subst, ap}
use Rattle.std.specs.Global.{Global}
use Rattle.racp_cutset.specs.Covering.{SearchNode}
use Rattle.racp_trees.specs.Records.{IsRecordOf, IsKept}
use Rattle.racp_trees.specs.Branches.{IsChildAnswer}
use Rattle.racp_trees.proofs.reader.Reader.go_on.Goals as goal

pub returns-in-Some-clause-gone : goal.returns-in-Some-clause-gone
returns-in-Some-clause-gone g c = (
  c.next_child.new.self,
  c.in_ok-push.ensures.items,
  refl,
  refl,
  c.next_child.ensures.number,
  ap (λ (v : SearchNode). v.window.lower) (c.next_child.ensures.node [] []),
  c.next_child.ensures.stays,
  subst (λ (o : Option (Vec ℕ Global)). IsChildAnswer c.args.ground.now.net.now c.args.ground.now.capacities.now c.args.branch c.next_child.new.self o) c.in-Some.is c.in_ok-lower.ensures.child,
)

pub close-closed-requires : goal.close-closed-requires
close-closed-requires g c = c.next_child.ensures.stays

pub returns-clause-gone : goal.returns-clause-gone
returns-clause-gone g c =
    let is = c.in_ok-closed.ensures in (
      (
        is.0,
        is.1,
        is.2,
        subst (λ (n : ℕ). IsKept c.args.self.now.closed n is.0 c.close-closed.new.self.closed) c.next_child.ensures.number is.3,
        λ upper. subst (λ (v : SearchNode). IsRecordOf c.args.ground.now.net.now v is.0) (c.next_child.ensures.node c.args.ground.now.capacities.now upper) (is.4 upper),
      ),
      subst (λ (o : Option (Vec ℕ Global)). IsChildAnswer c.args.ground.now.net.now c.args.ground.now.capacities.now c.args.branch c.next_child.new.self o) c.in_default.is c.in_ok-lower.ensures.child,
    )
