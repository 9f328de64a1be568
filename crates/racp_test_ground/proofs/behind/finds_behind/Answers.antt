use Rattle.racp_delay.proofs.lemmas.Conflicts.{conflict_numbers}
use Rattle.racp_test_ground.proofs.behind.finds_behind.Goals as goal

pub finds_each_behind-requires-clause-active : goal.finds_each_behind-requires-clause-active
finds_each_behind-requires-clause-active c = conflict_numbers _ _ _ _ _ c.in-Some.ensures
