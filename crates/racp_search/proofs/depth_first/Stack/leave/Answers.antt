use Rattle.std.proofs.Common.{refl, sym, subst}
use Rattle.racp_search.specs.declared.ended.Ended.{Ended}
use Rattle.racp_search.specs.declared.halt.Halt.TheVariants.{Left}
use Rattle.racp_search.specs.Ends.{IsEndOf}
use Rattle.racp_search.proofs.depth_first.Stack.leave.Goals as goal

pub returns : goal.returns
returns g c = subst (λ (e : Ended). IsEndOf g.N.OfNetwork.network c.args.subject.now.capacities c.args.subject.now.window (Left c.args.next c.args.stopped) e) (sym c.left.ensures) (refl, c.in_ok-rest.ensures, refl)
