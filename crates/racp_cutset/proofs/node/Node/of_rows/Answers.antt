use Rattle.std.proofs.Common.{◌≡◌, List, ℕ, length, arith, ap, refl, subst}
use Rattle.racp_cutset.specs.Covering.{SearchNode, AreStartedBefore}
use Rattle.racp_cutset.proofs.Nodes.{made}
use Rattle.racp_cutset.proofs.node.Node.of_rows.Goals as goal

pub started_before-started-requires : goal.started_before-started-requires
started_before-started-requires g c =
    let same : length c.as_slice.result.now ≡ length c.args.early = ap length c.as_slice.ensures in
    omega (arith, same, c.requires.early.places, c.job_count.ensures.sound.limits.most_jobs)

pub invariant_of-result : goal.invariant_of-result
invariant_of-result g c =
    let v : SearchNode = record { capacities = c.args.question.capacities; window = c.args.question.window; early = c.args.early; time = c.args.time } in
    let started = subst (λ (xs : List ℕ). AreStartedBefore xs c.args.time c.started_before-started.result) c.as_slice.ensures c.started_before-started.ensures in
    made c.args.net.now g.N.OfNetwork.network v c.args.question.window.lower c.args.early c.args.rows.0.items c.started_before-started.result c.args.rows.1.items
    c.requires.named c.job_count.ensures.sound c.requires.formed.capacities c.requires.formed.bounds.lower c.requires.formed.bounds.upper refl c.requires.early
    refl c.requires.ends started c.requires.bounds
