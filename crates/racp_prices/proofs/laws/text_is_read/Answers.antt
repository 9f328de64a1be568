use Rattle.racp_prices.proofs.Answering.{text_read}
use Rattle.racp_prices.proofs.laws.text_is_read.Goals as goal

pub returns : goal.returns
returns c = text_read
