use Rattle.std.proofs.Common.{min, false}
use Rattle.racp_test_planner.proofs.desk.probes.holds.Given as goal

abbrev pub ghosts-tell : goal.ghosts-tell
ghosts-tell g a = record { turns = min a.row.now.turns 1000; quiet = false }
