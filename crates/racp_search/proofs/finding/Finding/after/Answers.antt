use Rattle.std.proofs.Common.{◌≡◌, Result, sym, subst, refl, IfOk}
use Rattle.std.specs.declared.alloc.AllocError.{AllocError}
use Rattle.racp_search.specs.declared.ended.Ended.{Ended}
use Rattle.racp_search.specs.Ends.{finding_after}
use Rattle.racp_search.proofs.finding.Finding.after.Goals as goal

pub returns-in-Ok-clause-ok : goal.returns-in-Ok-clause-ok
returns-in-Ok-clause-ok g c =
    subst (λ (end : Result Ended AllocError). IfOk end (λ ended. finding_after c.args.piece c.in-Ok.ended c.args.nodes ≡ finding_after c.args.piece ended c.args.nodes)) (sym c.in-Ok.is) refl
