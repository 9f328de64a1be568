use Rattle.std.proofs.Common.{List, Option, refl, subst, sym, ℕ}
use Rattle.racp_search.specs.Truth.{IsDecision}
use Rattle.racp_search.proofs.Entering.{decided}
use Rattle.racp_search.proofs.entry_points.search_all.Goals as goal

pub returns : goal.returns
returns g c =
    let asked = c.args.subject.now in
    subst (λ (found : Option (List ℕ)). IsDecision g.N.OfNetwork.network asked.capacities asked.window found) (sym c.into_found.ensures)
    (decided g.N.OfNetwork.network asked.capacities asked.window c.search.new.nodes c.in_ok-ended.ended c.in_ok-ended.ensures.end (c.in_ok-ended.ensures.quiet refl))
