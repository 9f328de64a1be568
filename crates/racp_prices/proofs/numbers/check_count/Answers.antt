use Rattle.racp_prices.proofs.Tables.{count_ok, count_err}
use Rattle.racp_prices.proofs.numbers.check_count.Goals as goal

pub returns-then-items-count : goal.returns-then-items-count
returns-then-items-count c = count_ok c.args.items.now c.args.count c.if-items-count.true

pub returns-else-items-count : goal.returns-else-items-count
returns-else-items-count c = count_err c.args.items.now c.args.count c.if-items-count.false
