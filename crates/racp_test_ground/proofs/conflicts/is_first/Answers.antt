use Rattle.racp_delay.proofs.lemmas.Conflicts.{conflict_numbers}
use Rattle.racp_test_ground.proofs.conflicts.is_first.Goals as goal

pub is_conflict-requires-clause-active : goal.is_conflict-requires-clause-active
is_conflict-requires-clause-active c = conflict_numbers _ _ _ _ _ c.in-Some.ensures
