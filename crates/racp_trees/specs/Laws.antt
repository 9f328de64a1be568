-- Laws of trees and of certificates. Each is the contract of a public function.
use Rattle.std.specs.Prelude.{◌≡◌, ℕ, List, length, Contains}
use Rattle.racp_model.specs.Project.{Project, IsSound}
use Rattle.racp_model.specs.Window.{Bounds, IsNo}
use Rattle.racp_model.specs.Formed.{HasBounds}
use Rattle.racp_model.specs.Terms.{Terms, AreTermsOf, IsBefore}
use Rattle.racp_model.specs.Plan.{IsEnough}
use Rattle.racp_cutset.specs.Covering.{SearchNode}
use Rattle.racp_trees.specs.Trees.{Trees, divided, Hold, AreRefutedNodes}
use Rattle.racp_trees.specs.Certificates.{IsCertificate}

-- trees that hold for windows, if the nodes that were closed before are refuted: each window's question is infeasible, and the
-- nodes that they close are refuted
abbrev pub TreesRefute : Type 0
TreesRefute =
    (p : Project) (capacities : List ℕ) (closed : List (ℕ × SearchNode)) (n : ℕ) (windows : List Bounds) (trees : Trees) → IsSound p →
    length capacities ≡ p.resources → ((window : Bounds) → Contains windows window → HasBounds p window) → AreRefutedNodes p closed →
    Hold p capacities closed n windows trees →
    ((window : Bounds) → Contains windows window → IsNo p capacities window) × AreRefutedNodes p (divided n trees)

-- if a text is a certificate, no capacities that are enough stand before the plan's
abbrev pub CertificateProves : Type 0
CertificateProves =
    (p : Project) (terms : Terms) (capacities text : List ℕ) → IsSound p → AreTermsOf p terms → IsCertificate p terms capacities text →
    (enough : List ℕ) → IsEnough p terms enough → IsBefore terms enough capacities → ⊥
