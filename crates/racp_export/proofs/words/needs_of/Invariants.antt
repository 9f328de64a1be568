use Rattle.std.proofs.Common.{◌≡◌, string_bytes}
use Rattle.racp_export.specs.Words.{needs_before}
use Rattle.racp_export.proofs.words.needs_of.Given as goal

abbrev pub invariant-loop-k : goal.invariant-loop-k
invariant-loop-k l = string_bytes l.needs ≡ needs_before l.net l.names l.i l.k
