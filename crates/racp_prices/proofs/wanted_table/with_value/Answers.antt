use Rattle.racp_prices.proofs.WantedTables.{put-is}
use Rattle.racp_prices.proofs.wanted_table.with_value.Goals as goal

pub returns : goal.returns
returns c = put-is c.args.table.entries c.insert.new.self.entries c.in_ok-key.key c.args.value c.args.key.now c.in_ok-insert.ensures.entries c.in_ok-key.ensures.ok
