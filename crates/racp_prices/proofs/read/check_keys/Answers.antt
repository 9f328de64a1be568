use Rattle.std.proofs.Common.{sym, ◌∙◌}
use Rattle.std.proofs.lemmas.Bool.{false≢true}
use Rattle.racp_prices.proofs.Tables.{known_ok, known_err}
use Rattle.racp_prices.proofs.read.check_keys.Goals as goal

pub returns-then-has_known_keys : goal.returns-then-has_known_keys
returns-then-has_known_keys c = known_ok c.args.version c.args.table.now.entries (c.has_known_keys.ensures.0 c.if-has_known_keys.true)

pub returns-else-has_known_keys : goal.returns-else-has_known_keys
returns-else-has_known_keys c = known_err c.args.version c.args.table.now.entries (λ all. absurd (false≢true (sym c.if-has_known_keys.false ∙ c.has_known_keys.ensures.1 all)))
