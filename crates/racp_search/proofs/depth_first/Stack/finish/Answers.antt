use Rattle.std.proofs.Common.{Result, IfOk, subst}
use Rattle.std.specs.declared.alloc.AllocError.{AllocError}
use Rattle.racp_search.specs.Ends.{IsHaltOf}
use Rattle.racp_search.specs.declared.halt.Halt.{Halt}
use Rattle.racp_search.specs.declared.halt.Halt.TheVariants.{Found, Nothing, Left}
use Rattle.racp_search.proofs.Ending.{finished_at, finished_there}
use Rattle.racp_search.proofs.depth_first.Stack.finish.Goals as goal

pub leave-requires : goal.leave-requires
leave-requires g c = subst (IsHaltOf g.N.OfNetwork.network c.args.subject.now.capacities c.args.subject.now.window c.args.self.now.frames.items) c.in-Ok-Left.field-0-is (subst (λ (halt : Result Halt AllocError). IfOk halt (IsHaltOf g.N.OfNetwork.network c.args.subject.now.capacities c.args.subject.now.window c.args.self.now.frames.items)) c.in-Ok-Left.is c.requires)

pub returns-in-Ok-Found : goal.returns-in-Ok-Found
returns-in-Ok-Found g c = finished_at g.N.OfNetwork.network c.args.subject.now.capacities c.args.subject.now.window c.args.halt c.in-Ok-Found.field-0 (Found c.in-Ok-Found.starts) c.in-Ok-Found.is c.in-Ok-Found.field-0-is c.found.result (c.found.ensures.found, c.found.ensures.rest, c.found.ensures.stopped)

pub returns-in-Ok-Nothing : goal.returns-in-Ok-Nothing
returns-in-Ok-Nothing g c = finished_at g.N.OfNetwork.network c.args.subject.now.capacities c.args.subject.now.window c.args.halt c.in-Ok-Nothing.field-0 Nothing c.in-Ok-Nothing.is c.in-Ok-Nothing.field-0-is c.nothing.result (c.nothing.ensures.found, c.nothing.ensures.rest, c.nothing.ensures.stopped)

pub returns-in-Ok-Left : goal.returns-in-Ok-Left
returns-in-Ok-Left g c = finished_there g.N.OfNetwork.network c.args.subject.now.capacities c.args.subject.now.window c.args.halt c.in-Ok-Left.field-0 (Left c.in-Ok-Left.next c.in-Ok-Left.stopped) c.in-Ok-Left.is c.in-Ok-Left.field-0-is c.leave.result c.leave.ensures
