use Rattle.racp_explain.proofs.subjects.named.Goals as goal

pub returns : goal.returns
returns c = c.chosen.ensures
