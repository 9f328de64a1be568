use Rattle.racp_lexfix.proofs.one_thread.answer_plan.Given as goal

abbrev pub ghosts-plan_named : goal.ghosts-plan_named
ghosts-plan_named a = record { network = a.task.now.net.now }
