use Rattle.std.proofs.Common.{subst}
use Rattle.std.specs.Prelude.{Result}
use Rattle.racp_model.specs.Terms.{Terms}
use Rattle.racp_prices.specs.Steps.{Gives}
use Rattle.racp_prices.specs.declared.fault.OrderFault.{OrderFault}
use Rattle.racp_prices.proofs.Answering.{read_from_table}
use Rattle.racp_prices.proofs.Limits.{terms_from_reading}
use Rattle.racp_prices.proofs.Parts.{same_order}
use Rattle.racp_prices.proofs.read.read_order.Goals as goal

pub returns-clause-read : goal.returns-clause-read
returns-clause-read c =
    let read = subst (λ (order : Result Terms OrderFault). Gives (λ terms. terms) c.read_terms.result order) (same_order c.args.resources c.args.jobs _) c.read_terms.ensures in
    read_from_table c.args.resources c.args.jobs c.args.text.now _ c.read_terms.result c.in_ok-table.ensures read

pub returns-clause-terms : goal.returns-clause-terms
returns-clause-terms c = terms_from_reading c.args.resources c.args.jobs c.args.text.now c.read_terms.result (returns-clause-read c)
