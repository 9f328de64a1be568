use Rattle.std.proofs.Common.{sym, ◌∙◌}
use Rattle.std.proofs.lemmas.Bool.{false≢true}
use Rattle.racp_prices.proofs.Tables.{whole_ok, whole_err}
use Rattle.racp_prices.proofs.numbers.check_whole.Goals as goal

pub returns-then-are_whole : goal.returns-then-are_whole
returns-then-are_whole c = whole_ok c.args.items.now (c.are_whole.ensures.0 c.if-are_whole.true)

pub returns-else-are_whole : goal.returns-else-are_whole
returns-else-are_whole c = whole_err c.args.items.now (λ all. absurd (false≢true (sym c.if-are_whole.false ∙ c.are_whole.ensures.1 all)))
