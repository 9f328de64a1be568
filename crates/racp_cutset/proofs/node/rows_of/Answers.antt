use Rattle.std.proofs.Common.{◌≤◌, All, List, ℕ, slice_index, arith, ap}
use Rattle.racp_cutset.proofs.Nodes.{early_small}
use Rattle.racp_cutset.proofs.node.rows_of.Goals as goal

pub ends_of-requires-clause-small : goal.ends_of-requires-clause-small
ends_of-requires-clause-small c =
    let small : All (λ x. x ≤ 20000000) c.args.question.now.window.lower = c.lower.ensures.small in
    λ i l. omega (arith, ap (λ (xs : List ℕ). slice_index xs i) c.as_slice-starts.ensures, early_small c.args.net.now c.args.question.now.window.lower c.args.early.now c.job_count.ensures.sound c.requires.formed.bounds.lower small c.requires.early i l)
