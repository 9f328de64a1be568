use Rattle.std.proofs.Common.{◌≡◌, ℕ, ◌<◌, false, get_or}
use Rattle.std.specs.Char.Unicode.Alphabetic.{is_alphabetic}
use Rattle.racp_tables.proofs.duration.unit_place.Given as goal

abbrev pub invariant-loop-place : goal.invariant-loop-place
invariant-loop-place l = (k : ℕ) → k < l.place → is_alphabetic (get_or l.letters k 0) ≡ false
