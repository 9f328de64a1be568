use Rattle.std.proofs.Common.{inl, inr, ℕ, length, Ok, Err, subst}
use Rattle.std.proofs.lemmas.Result.{IfOk-weaker}
use Rattle.racp_prices.specs.Orders.{IsOrder, IsOrderOrMemory}
use Rattle.racp_cli.specs.Responses.{IsNetworkRefused, IsOrderRefused, IsRefusedText}
use Rattle.racp_cli.proofs.Planning.{network_line, order_line}
use Rattle.racp_cli.proofs.texts.read_texts.Goals as goal

pub returns-in-Err-clause-refused : goal.returns-in-Err-clause-refused
returns-in-Err-clause-refused c =
    let net = c.args.net.now in
    let order = c.args.order.now in
    IfOk-weaker c.network_refused.result (λ line. IsNetworkRefused c.in-Err.fault line.0 line.1.items)
    (λ line. IsRefusedText net order line.0 line.1.items)
    (λ line is. inl (network_line net c.in-Err.fault line.0 line.1.items c.in-Err.ensures is))
    c.network_refused.ensures

pub returns-in-Err-read_order-clause-refused : goal.returns-in-Err-read_order-clause-refused
returns-in-Err-read_order-clause-refused c =
    let net = c.args.net.now in
    let order = c.args.order.now in
    let fault = c.in-Err-read_order.fault in
    let right : IsOrderOrMemory c.in-Ok.net.resources (length c.in-Ok.net.jobs) order (Err fault) =
    subst (λ (resources : ℕ). IsOrderOrMemory resources (length c.in-Ok.net.jobs) order (Err fault)) c.resource_count.ensures.count
    (subst (λ (jobs : ℕ). IsOrderOrMemory c.resource_count.result jobs order (Err fault)) c.job_count.ensures.count c.in-Err-read_order.ensures.read) in
    IfOk-weaker c.order_refused.result (λ line. IsOrderRefused fault line.0 line.1.items)
    (λ line. IsRefusedText net order line.0 line.1.items)
    (λ line is. inr (order_line net order c.in-Ok.net fault line.0 line.1.items c.in-Ok.ensures right is))
    c.order_refused.ensures

pub returns-in-Ok-read_order-clause-read : goal.returns-in-Ok-read_order-clause-read
returns-in-Ok-read_order-clause-read c =
    let order = c.args.order.now in
    let is = Ok c.in-Ok-read_order.order in record {
      is_network = c.in-Ok.ensures;
      is_order = subst (λ (resources : ℕ). IsOrder resources (length c.in-Ok.net.jobs) order is) c.resource_count.ensures.count
          (subst (λ (jobs : ℕ). IsOrder c.resource_count.result jobs order is) c.job_count.ensures.count c.in-Ok-read_order.ensures.read);
    }
