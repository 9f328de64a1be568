use Rattle.std.proofs.Common.{List, ℕ, IfOk, codes, rules, string_bytes, subst}
use Rattle.std.specs.Io.{StartsWith}
use Rattle.racp_plan.specs.TextFaults.{fault_number}
use Rattle.racp_explain.specs.Causes.{line_head}
use Rattle.racp_explain.proofs.cause.of_text.Goals as goal

pub returns : goal.returns
returns c =
    let fault = c.args.fault in
    let BeginsWithName : List ℕ → Type 0 = λ name. IfOk c.line_text.result (λ text. StartsWith (string_bytes text) (line_head c.args.plan.now.name.now fault.line (codes "plan") (fault_number fault.kind) name)) in
    let told : BeginsWithName c.name.result.now = search rules in
    subst BeginsWithName c.name.ensures told
