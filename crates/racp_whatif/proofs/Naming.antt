-- Findings of an order that is named.
use Rattle.std.proofs.Common.{◌≡◌, ◌∙◌, ℕ, Bool, ap, subst}
use Rattle.racp_model.specs.Project.{Project}
use Rattle.racp_model.specs.Terms.{Terms}
use Rattle.racp_by_questions.specs.Crowds.{MayStop}
use Rattle.racp_lexfix.specs.Variants.{IsVariantOf}
use Rattle.racp_whatif.specs.declared.outcome.Finding.{Finding}
use Rattle.racp_whatif.specs.Changes.{changed}
use Rattle.racp_whatif.specs.Outcomes.{IsFinding, IsOutcome}

-- what becomes of the order with a change is right of the order under its name
pub named_finding : (p q : Project) (s t next : Terms) (turns most : ℕ) (quiet still : Bool) (found : Finding) → p ≡ q → s ≡ t → turns ≡ most → quiet ≡ still → next ≡ changed found.change s → IsOutcome (MayStop p quiet turns) p next found.outcome → IsFinding (MayStop q still most) q t found
named_finding p q s t next turns most quiet still found net order all same is right =
    subst (λ (x : Project). IsFinding (MayStop x still most) x t found) net
    (subst (λ (x : Terms). IsFinding (MayStop p still most) p x found) order
    (subst (λ (x : ℕ). IsFinding (MayStop p still x) p s found) all
    (subst (λ (x : Bool). IsFinding (MayStop p x turns) p s found) same
    (subst (λ (x : Terms). IsOutcome (MayStop p quiet turns) p x found.outcome) is right))))

-- the order with a change that keeps costs is a variant of what the order under its name is a variant of
pub changed_variant : (whole base named other next : Terms) → IsVariantOf whole named → base ≡ named → other ≡ next → IsVariantOf base next → IsVariantOf whole other
changed_variant whole base named other next variant same is near = record {
  prices = ap (λ (t : Terms). t.prices) is ∙ near.prices ∙ ap (λ (t : Terms). t.prices) same ∙ variant.prices;
  owned = ap (λ (t : Terms). t.owned) is ∙ near.owned ∙ ap (λ (t : Terms). t.owned) same ∙ variant.owned;
}
