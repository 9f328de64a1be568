use Rattle.std.proofs.Common.{◌∙◌, arith}
use Rattle.racp_search.proofs.room.make_room.Goals as goal
use Rattle.racp_search.proofs.room.make_room.Goals.{then-most-kept_count, else-most-kept_count}

pub returns-clause-few : goal.returns-clause-few
returns-clause-few g c = λ few. elim c.if-most-kept_count.branch [
  | then-most-kept_count w ↦ absurd (omega (arith, w.if-most-kept_count.true, c.most.ensures, c.kept_count.ensures.count, few))
  | else-most-kept_count w ↦ w.local-is
]

pub returns-clause-many : goal.returns-clause-many
returns-clause-many g c = λ many. elim c.if-most-kept_count.branch [
  | then-most-kept_count w ↦ w.local-is ∙ w.forget_behind.ensures
  | else-most-kept_count w ↦ absurd (omega (arith, w.if-most-kept_count.false, c.most.ensures, c.kept_count.ensures.count, many))
]
