use Rattle.racp_search.proofs.Freeing.{IsFreeing}
use Rattle.racp_search.proofs.child.free_of.Given as goal

abbrev pub invariant-loop-job : goal.invariant-loop-job
invariant-loop-job g l = IsFreeing l.fn.active l.upper l.end l.yielded l.job-iterator l.free
