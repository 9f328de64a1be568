use Rattle.std.proofs.Common.{◌≡◌, inr, refl, rules, subst, ℕ, List, Option, true, false}
use Rattle.std.specs.Prelude.{IsSome, IsUtf8}
use Rattle.racp_plan.specs.Texts.{line}
use Rattle.racp_cli.proofs.beside.named.Goals as goal

pub returns-in_ok-to_vec-in-None : goal.returns-in_ok-to_vec-in-None
unfolding line
returns-in_ok-to_vec-in-None g c =
    let other : IsUtf8 c.args.texts.names.now → ⊥ =
    λ utf8. let some : false ≡ true = subst (λ (o : Option (List (List ℕ))). IsSome o) c.in-None.is (c.in_ok-names.ensures.utf8.1 utf8) in absurd (search (rules, some)) in
    inr (other, refl, search rules)
