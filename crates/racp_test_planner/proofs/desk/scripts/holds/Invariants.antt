use Rattle.std.proofs.Common.{false}
use Rattle.racp_test_planner.proofs.desk.scripts.holds.Given as goal

abbrev pub ghosts-plays-M-Ledger : goal.ghosts-plays-M-Ledger
ghosts-plays-M-Ledger g a = record { name = a.blank.name; parts = a.blank.parts }

abbrev pub ghosts-plays-M-Rules : goal.ghosts-plays-M-Rules
ghosts-plays-M-Rules g a = record { turns = 100; quiet = false }

abbrev pub ghosts-plays-M-RunNames : goal.ghosts-plays-M-RunNames
ghosts-plays-M-RunNames g a = record { series = a.series }
