use Rattle.racp_by_questions.proofs.crowd.Crowd.take_ahead.Goals as goal

pub returns-in-Some-clause-formed : goal.returns-in-Some-clause-formed
returns-in-Some-clause-formed g c = λ list is. c.args.self.now.ahead_formed list (cc (c.take-ahead.ensures.value, is))
