use Rattle.std.proofs.Common.{◌≡◌, ◌≤◌, [], fold, string_bytes}
use Rattle.racp_export.specs.Events.{folding, with_letter}
use Rattle.racp_export.proofs.folding.folded.Given as goal

abbrev pub invariant-loop-letter : goal.invariant-loop-letter
invariant-loop-letter l = record { so_far : folding (string_bytes l.text) l.octets ≡ fold with_letter (folding [] 0) l.yielded; few : l.octets ≤ 75 }
