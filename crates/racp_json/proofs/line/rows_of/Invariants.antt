use Rattle.std.proofs.Common.{◌≡◌, filter, map}
use Rattle.racp_json.specs.Lines.{begins_with, numbers_in}
use Rattle.racp_json.proofs.line.rows_of.Given as goal

abbrev pub invariant-loop-line : goal.invariant-loop-line
invariant-loop-line l =
    map (λ row. row.items) l.rows.items ≡
    map numbers_in (filter (begins_with l.letters) (map (λ line. line.now) l.yielded))
