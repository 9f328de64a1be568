use Rattle.std.proofs.Common.{arith}
use Rattle.racp_model.proofs.lemmas.Usage.{usage-roof}
use Rattle.racp_cpm.proofs.laws.early_is_schedule.Goals as goal

pub returns : goal.returns
returns c = λ p release due capacities early h ends enough. record {
  places = h.places;
  in_time = record { released = h.above; ends = ends };
  fits = record {
    precedence = h.precedence;
    within = λ k t l. omega (arith, usage-roof p early k t, enough k l);
  };
}
