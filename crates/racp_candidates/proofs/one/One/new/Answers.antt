use Rattle.std.proofs.Common.{rules, ◌≡◌, ◌∷◌, [], ap}
use Rattle.racp_model.specs.declared.question.Question.{Question}
use Rattle.racp_candidates.proofs.one.One.new.Goals as goal

pub returns : goal.returns
returns c =
    let capacities : c.new.result ≡ c.args.capacities.now = search (rules, c.in_ok-to_vec.ensures, c.new.ensures) in
    ap (λ (q : Question). q ∷ []) (λ i. record { capacities = capacities i; window = c.in_ok-copy.ensures i })
