use Rattle.std.proofs.Common.{◌≡◌, ℕ, List, length, refl, Ok, Err, subst}
use Rattle.std.proofs.lemmas.Grind.{common_steps}
use Rattle.std.proofs.lemmas.Result.{err_from_is_err_and}
use Rattle.std.proofs.Common.{arith}
use Rattle.racp_model.specs.Project.{Project, IsWithinLimits, AreNumbers}
use Rattle.racp_model.specs.Ranks.{IsOrdered}
use Rattle.racp_model.proofs.Making.{tidy_numbers, tidy_same, tidy_network, tidy_fault}
use Rattle.racp_model.proofs.network.Network.new.Goals as goal

pub topological-requires-clause-numbers : goal.topological-requires-clause-numbers
topological-requires-clause-numbers c =
    let count : c.len.result ≡ c.len-2.result = grind (arith, common_steps) in
    let numbers : AreNumbers c.len-2.result c.args.arcs.items = rw (← count, ← c.deref-2.ensures.value) (c.if-not-are_numbers.ensures.0 refl) in
    rw c.deref-3.ensures.value (tidy_numbers c.len-2.result c.args.arcs.items c.sorted-arcs.result.items numbers c.sorted-arcs.ensures)

pub invariant_of-result : goal.invariant_of-result
invariant_of-result c =
    let limits : IsWithinLimits c.args.resources c.args.jobs.items = rw (← c.deref.ensures.value) (c.if-not-is_within_limits.ensures.0 refl) in
    let count : c.len.result ≡ length c.args.jobs.items = grind (arith, common_steps) in
    let numbers : AreNumbers (length c.args.jobs.items) c.args.arcs.items = rw (← count, ← c.deref-2.ensures.value) (c.if-not-are_numbers.ensures.0 refl) in
    let P : List (ℕ × ℕ) → Type 0 = λ arcs. IsOrdered arcs (Ok c.in_ok-topological.topological) in
    let given : Project = record { resources = c.args.resources; jobs = c.args.jobs.items; arcs = c.args.arcs.items } in
    tidy_network given c.sorted-arcs.result.items c.in_ok-topological.topological limits numbers c.sorted-arcs.ensures (subst P c.deref-3.ensures.value c.in_ok-topological.ensures)

pub returns : goal.returns
returns c =
    let given : Project = record { resources = c.args.resources; jobs = c.args.jobs.items; arcs = c.args.arcs.items } in
    (tidy_same given c.sorted-arcs.result.items c.sorted-arcs.ensures, (invariant_of-result c).0)

pub returns-in_err-topological : goal.returns-in_err-topological
returns-in_err-topological c =
    let limits : IsWithinLimits c.args.resources c.args.jobs.items = rw (← c.deref.ensures.value) (c.if-not-is_within_limits.ensures.0 refl) in
    let count : c.len.result ≡ length c.args.jobs.items = grind (arith, common_steps) in
    let numbers : AreNumbers (length c.args.jobs.items) c.args.arcs.items = rw (← count, ← c.deref-2.ensures.value) (c.if-not-are_numbers.ensures.0 refl) in
    let P : List (ℕ × ℕ) → Type 0 = λ arcs. IsOrdered arcs (Err c.in_err-topological.field-0.0) in
    let given : Project = record { resources = c.args.resources; jobs = c.args.jobs.items; arcs = c.args.arcs.items } in
    let p = err_from_is_err_and c.from_residual.result c.from_residual.ensures.1 in
    rw (p.1, p.2) (tidy_fault given c.sorted-arcs.result.items c.in_err-topological.field-0.0 limits numbers c.sorted-arcs.ensures (subst P c.deref-3.ensures.value c.in_err-topological.ensures))
