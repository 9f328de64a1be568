use Rattle.std.proofs.Common.{◌≡◌, ◌++◌, drop, map, string_bytes}
use Rattle.racp_tables.specs.Joined.{place_of, request_at}
use Rattle.racp_tables.proofs.widened.widened_requests.Given as goal

abbrev pub invariant-loop-i : goal.invariant-loop-i
invariant-loop-i l = l.wide.items ++ map (λ name. request_at l.requests (place_of (map string_bytes l.own) name)) (map string_bytes (drop l.i l.all)) ≡
    map (λ name. request_at l.requests (place_of (map string_bytes l.own) name)) (map string_bytes l.all)
