use Rattle.std.proofs.Common.{◌≡◌, ◌∙◌, ℕ, ◌-◌, ◌<◌, List, length, slice_index_or, true, nat_lt, arith, ap, subst, sym}
use Rattle.std.proofs.lemmas.Bool.Decides.{nat_tests}
use Rattle.racp_model.specs.Project.{Precedes}
use Rattle.racp_model.specs.Window.{Bounds}
use Rattle.racp_clauses.specs.Clauses.{Derived}
use Rattle.racp_clauses.specs.Inferences.{with_inference}
use Rattle.racp_clauses.specs.Rules.{start_behind, start_before, along}
use Rattle.racp_clauses.proofs.Pairs.{pair-precedes}
use Rattle.racp_clauses.proofs.derivation.Derivation.precedence.Goals as goal

pub start_behind-requires-clause-order : goal.start_behind-requires-clause-order
start_behind-requires-clause-order g c =
    let p = c.args.net.now in
    let at : ℕ = c.args.pair in
    let l : at < length p.arcs = omega (arith, c.if-pair-arcs.true, ap (λ (xs : List (ℕ × ℕ)). length xs) c.arcs-arcs.ensures.arcs) in
    subst (λ (arcs : List (ℕ × ℕ)). Precedes p ((slice_index_or arcs at (0, 0)).0 - 1) ((slice_index_or arcs at (0, 0)).1 - 1)) (sym c.arcs-arcs.ensures.arcs) (pair-precedes p at c.arcs-arcs.ensures.sound l)

pub returns-then-pair-arcs : goal.returns-then-pair-arcs
returns-then-pair-arcs g c =
    let p = c.args.net.now in
    let d : Derived = c.args.self.now in
    let at : ℕ = c.args.pair in
    let arcs : List (ℕ × ℕ) = c.arcs-arcs.result.now in
    let i : ℕ = (slice_index_or arcs at (0, 0)).0 - 1 in
    let j : ℕ = (slice_index_or arcs at (0, 0)).1 - 1 in
    let l : at < length p.arcs = omega (arith, c.if-pair-arcs.true, ap (λ (xs : List (ℕ × ℕ)). length xs) c.arcs-arcs.ensures.arcs) in
    let there : nat_lt at (length p.arcs) ≡ true = grind (arith, nat_tests) in
    let first : c.apply.new.self ≡ with_inference d (start_behind p d.bounds i j) =
    c.apply.ensures ∙ ap (with_inference d) (c.start_behind.ensures.exact ∙ ap (λ (b : Bounds). start_behind p b i j) c.bounds.ensures.bounds) in
    let second : c.apply-then-pair-arcs.new.self ≡ with_inference c.apply.new.self (start_before p c.apply.new.self.bounds i j) =
    c.apply-then-pair-arcs.ensures ∙ ap (with_inference c.apply.new.self) (c.start_before.ensures.exact ∙ ap (λ (b : Bounds). start_before p b i j) c.bounds-then-pair-arcs.ensures.bounds) in
    let both : c.apply-then-pair-arcs.new.self ≡ along p d i j = second ∙ ap (λ (e : Derived). with_inference e (start_before p e.bounds i j)) first in
    let named : c.apply-then-pair-arcs.new.self ≡ along p d ((slice_index_or p.arcs at (0, 0)).0 - 1) ((slice_index_or p.arcs at (0, 0)).1 - 1) =
    both ∙ ap (λ (xs : List (ℕ × ℕ)). along p d ((slice_index_or xs at (0, 0)).0 - 1) ((slice_index_or xs at (0, 0)).1 - 1)) c.arcs-arcs.ensures.arcs in
    rw there named
