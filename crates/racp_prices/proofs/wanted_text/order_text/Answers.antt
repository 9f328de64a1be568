use Rattle.toml.specs.View.{table_view}
use Rattle.racp_prices.proofs.ReadBack.{toml_answer, read_answer, terms_answer}
use Rattle.racp_prices.proofs.wanted_text.order_text.Goals as goal

pub returns-clause-toml : goal.returns-clause-toml
returns-clause-toml c = toml_answer c.text_of.result (table_view c.in_ok-table.table) c.args.wanted.now c.in_ok-table.ensures c.text_of.ensures

pub returns-clause-read : goal.returns-clause-read
returns-clause-read c = read_answer c.text_of.result (table_view c.in_ok-table.table) c.args.wanted.now c.in_ok-table.ensures c.text_of.ensures

pub returns-clause-terms : goal.returns-clause-terms
returns-clause-terms c = terms_answer c.text_of.result (table_view c.in_ok-table.table) c.args.wanted.now c.in_ok-table.ensures c.text_of.ensures
