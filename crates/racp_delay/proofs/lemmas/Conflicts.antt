-- What the jobs of a conflict are, and which windows are the children of a window there.
use Rattle.std.proofs.Common.{◌≡◌, ◌≢◌, ◌∙◌, sym, ℕ, ◌<◌, List, [], length, slice_index_or, subst, All, Contains}
use Rattle.std.proofs.lemmas.List.{get_or_default}
use Rattle.racp_model.specs.Project.{Project, IsNumber}
use Rattle.racp_model.specs.Window.{Bounds}
use Rattle.racp_model.proofs.lemmas.Relations.{all_members}
use Rattle.racp_delay.specs.Alternatives.{Splits, AreAlternatives}
use Rattle.racp_delay.specs.Branching.{IsConflict, IsChild}
use Rattle.racp_delay.specs.Laws.{HaveChildren}

-- the active jobs are jobs of the project, as `alternatives` requires
pub conflict_numbers : (p : Project) (capacities starts : List ℕ) (t : ℕ) (active : List ℕ) → IsConflict p capacities starts t active → All (IsNumber (length p.jobs)) active
conflict_numbers p capacities starts t active conflict = all_members (IsNumber (length p.jobs)) active (λ job c. ((conflict.set.members job).0 c).0)

-- windows among which is a child for each list of the alternatives, where some stay, have the children that cover
pub have_children : (p : Project) (capacities early active : List ℕ) (window : Bounds) (children : List Bounds) (lists : List (List ℕ)) → AreAlternatives p capacities active lists →
    ((k : ℕ) → k < length lists → (kept : List ℕ) → Splits active (slice_index_or lists k []) kept → kept ≢ [] → (child : Bounds) × Contains children child × IsChild p early window (slice_index_or lists k []) kept child) →
    HaveChildren p capacities early active window children
have_children p capacities early active window children lists are each gone kept s some minimal =
    let at : Contains lists gone = are.all gone minimal in
    let same : slice_index_or lists at.0 [] ≡ gone = get_or_default lists at.0 [] gone at.1 ∙ at.2 in
    let split : Splits active (slice_index_or lists at.0 []) kept = subst (λ (x : List ℕ). Splits active x kept) (sym same) s in
    let child = each at.0 at.1 kept split some in
    (child.0, child.1, subst (λ (x : List ℕ). IsChild p early window x kept child.0) same child.2)
