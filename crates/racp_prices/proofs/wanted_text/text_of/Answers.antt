use Rattle.racp_prices.proofs.wanted_text.text_of.Goals as goal

pub returns-in-Ok : goal.returns-in-Ok
returns-in-Ok c = c.in-Ok.ensures.reads_back
