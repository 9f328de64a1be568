use Rattle.std.proofs.Common.{◌≡◌, string_bytes, encode_utf8_all, filter, not}
use Rattle.racp_show.specs.Called.{is_unprinted}
use Rattle.racp_show.proofs.names.printed.Given as goal

abbrev pub invariant-loop-letter : goal.invariant-loop-letter
invariant-loop-letter l =
    string_bytes l.name ≡ encode_utf8_all (filter (λ letter. not (is_unprinted letter)) l.yielded)
