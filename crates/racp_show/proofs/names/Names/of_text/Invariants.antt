use Rattle.std.proofs.Common.{◌≡◌, [], fold, string_bytes, map}
use Rattle.racp_show.specs.Called.{printed, with_name}
use Rattle.racp_show.proofs.names.Names.of_text.Given as goal

abbrev pub invariant-loop-line : goal.invariant-loop-line
invariant-loop-line l =
    map string_bytes l.names.items ≡ fold with_name [] (map printed (map (λ line. line.now) l.yielded))
