use Rattle.racp_prices.proofs.WantedTables.{array-view}
use Rattle.racp_prices.proofs.wanted_table.numbers_array.Goals as goal

pub returns : goal.returns
returns c = array-view c.in_ok-items.items c.args.numbers.now c.in_ok-items.ensures
