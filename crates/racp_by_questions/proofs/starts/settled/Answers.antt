use Rattle.std.proofs.Common.{ℕ, List, slice_index, subst}
use Rattle.racp_model.specs.Path.{IsEarly}
use Rattle.racp_by_questions.proofs.Fixing.{early_small}
use Rattle.racp_by_questions.proofs.starts.settled.Goals as goal

pub new-requires-clause-lower : goal.new-requires-clause-lower
new-requires-clause-lower c =
    early_small c.args.net.now c.args.window c.early_of.result c.requires.schedule c.requires.bounds c.upper.ensures.small
    (subst (λ (lower : List ℕ). IsEarly c.args.net.now (slice_index lower) c.early_of.result) c.into_bounds-lower.ensures.lower c.early_of.ensures)
