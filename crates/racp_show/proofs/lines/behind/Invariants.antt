use Rattle.std.proofs.Common.{◌≡◌, ◌+◌, length}
use Rattle.std.specs.Prelude.{IsUtf8}
use Rattle.racp_show.specs.Lines.{behind}
use Rattle.racp_show.proofs.lines.behind.Given as goal

abbrev pub invariant-loop-hash : goal.invariant-loop-hash
invariant-loop-hash l = IsUtf8 l.rest × (behind l.rest ≡ behind l.line) × (length l.rest + l._hash ≡ length l.line)
