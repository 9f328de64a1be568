use Rattle.std.proofs.Common.{ℕ, List, [], IfOk, codes, string_bytes, subst, rules}
use Rattle.std.specs.Io.{StartsWith}
use Rattle.racp_prices.specs.Faults.{fault_number, fault_name}
use Rattle.racp_explain.specs.Causes.{placed_head}
use Rattle.racp_explain.proofs.Heads.{order_placed}
use Rattle.racp_explain.proofs.cause.of_order.Goals as goal

pub returns : goal.returns
returns c =
    let file = c.args.order.now.name.now in
    let told : IfOk c.placed.result (λ text. StartsWith (string_bytes text) (placed_head file [] (codes "order") (fault_number c.args.fault) (fault_name c.args.fault))) = search rules in
    subst (λ (head : List ℕ). IfOk c.placed.result (λ text. StartsWith (string_bytes text) head)) (order_placed file c.args.fault) told
