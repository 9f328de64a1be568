use Rattle.std.proofs.Common.{◌≡◌, ◌∙◌, ap, length, slice_index, sym, subst}
use Rattle.std.proofs.lemmas.Result.{IfOk-weaker}
use Rattle.racp_model.specs.Project.{Project}
use Rattle.racp_model.specs.Formed.{IsFormed}
use Rattle.racp_model.specs.Path.{IsEarly}
use Rattle.racp_search.proofs.expanding.node_of.Goals as goal

pub reusing-requires-clause-named : goal.reusing-requires-clause-named
reusing-requires-clause-named g c = c.network.ensures.named

pub reusing-requires-clause-formed : goal.reusing-requires-clause-formed
reusing-requires-clause-formed g c =
    let same : c.new.result ≡ c.args.subject.now.capacities = c.new.ensures ∙ (c.in_ok-capacities.ensures ∙ (c.as_slice.ensures ∙ c.capacities.ensures)) in
    let formed : IsFormed g.N.OfNetwork.network (record { capacities = c.new.result; window = c.args.window }) = record {
      capacities = ap length same ∙ c.network.ensures.formed.capacities;
      bounds = c.requires.bounds;
    } in
    subst (λ (p : Project). IsFormed p (record { capacities = c.new.result; window = c.args.window })) (sym c.network.ensures.named) formed

pub reusing-requires-clause-early : goal.reusing-requires-clause-early
reusing-requires-clause-early g c = subst (λ (p : Project). IsEarly p (slice_index c.args.window.lower) c.args.starts) (sym c.network.ensures.named) c.requires.early

pub returns-clause-capacities : goal.returns-clause-capacities
returns-clause-capacities g c =
    IfOk-weaker c.reusing.result (λ node. node.capacities ≡ c.new.result) (λ node. node.capacities ≡ c.args.subject.now.capacities)
    (λ node is. is ∙ (c.new.ensures ∙ (c.in_ok-capacities.ensures ∙ (c.as_slice.ensures ∙ c.capacities.ensures)))) c.reusing.ensures.capacities

pub returns-clause-window : goal.returns-clause-window
returns-clause-window g c = c.reusing.ensures.window

pub returns-clause-early : goal.returns-clause-early
returns-clause-early g c = c.reusing.ensures.early

pub returns-clause-time : goal.returns-clause-time
returns-clause-time g c = c.reusing.ensures.time
