-- A certificate proves that no capacities before those of its plan are enough.
use Rattle.std.proofs.Common.{inl, inr, ℕ, ◌+◌, ◌<◌, ◌≤◌, List, [], ◌∷◌, ◌++◌, length, slice_index, Contains, arith, refl, sym, subst}
use Rattle.racp_model.specs.Project.{Project, IsSound}
use Rattle.racp_model.specs.Schedule.{roof, Admits}
use Rattle.racp_model.specs.Terms.{release_of, due_of, IsBefore}
use Rattle.racp_model.specs.Window.{Bounds, IsNo}
use Rattle.racp_model.specs.Formed.{HasBounds}
use Rattle.racp_model.specs.Laws.{AboveAdmits}
use Rattle.racp_model.proofs.lemmas.Relations.{member_cases, member_first, no_member}
use Rattle.racp_model.proofs.lemmas.Orders.{vectors_ordered}
use Rattle.racp_model.proofs.lemmas.Costs.{before_trans}
use Rattle.racp_model.proofs.lemmas.Cuts.{cut, cut-at, cut_places, cut_admitting, cut-no_later}
use Rattle.racp_cpm.proofs.lemmas.Rooted.{fits-answers}
use Rattle.racp_prices.proofs.lemmas.Ceilings.{cut-below}
use Rattle.racp_cutset.specs.Covering.{SearchNode}
use Rattle.racp_trees.specs.Trees.{node_count, divided, AreRefutedNodes}
use Rattle.racp_trees.specs.Laws.{TreesRefute, CertificateProves}
use Rattle.racp_trees.proofs.Numbered.{refuted_both, refuted_none}
use Rattle.racp_trees.specs.Texts.{Block}
use Rattle.racp_trees.specs.Certificates.{AllHold, vectors_of}

-- windows with bounds
abbrev AllBound : Project → List Bounds → Type 0
AllBound p windows = (window : Bounds) → Contains windows window → HasBounds p window

-- a window alone
one_bound : (p : Project) (root : Bounds) → HasBounds p root → AllBound p (root ∷ [])
one_bound p root bounds w c = elim (member_cases root [] w c) [
  | inl same ↦ subst (HasBounds p) same bounds
  | inr there ↦ absurd (no_member w there)
]

-- each block refutes the question of its vector
pub blocks_refute : TreesRefute → (p : Project) (root : Bounds) (closed : List (ℕ × SearchNode)) (n : ℕ) (blocks : List Block) → IsSound p → HasBounds p root → AreRefutedNodes p closed → AllHold p root closed n blocks →
    (vector : List ℕ) → Contains (vectors_of blocks) vector → IsNo p vector root
blocks_refute law p root closed n [] sound bounds are h vector c = absurd (no_member vector c)
blocks_refute law p root closed n (block ∷ blocks) sound bounds are h vector c =
    let told = law p block.vector closed n (root ∷ []) block.tree sound h.0 (one_bound p root bounds) are h.1 in
    elim (member_cases block.vector (vectors_of blocks) vector c) [
      | inl same ↦ subst (λ (xs : List ℕ). IsNo p xs root) same (told.0 root (member_first root [] root refl))
      | inr there ↦
          blocks_refute law p root (divided n block.tree ++ closed) (n + node_count block.tree) blocks sound bounds
          (refuted_both p (divided n block.tree) closed told.1 are) h.2 vector there
    ]

-- what fits capacities fits greater ones
above_admits : AboveAdmits
above_admits p release due a b above admits = (
  admits.0,
  record {
    places = admits.1.places;
    in_time = admits.1.in_time;
    fits = record { precedence = admits.1.fits.precedence; within = λ k t l. omega (arith, admits.1.fits.within k t l, above k l) };
  },
)

-- no capacities that are enough stand before those of a certificate
pub certificate_proved : TreesRefute → CertificateProves
certificate_proved law p terms capacities text sound t is enough e before =
    let root : Bounds = is.root in
    let bounds : HasBounds p root = record { lower = is.is_root.early.places; upper = is.is_root.late.places } in
    let part : List ℕ = cut p enough in
    let within : (k : ℕ) → k < p.resources → slice_index part k ≤ _ = λ k l. cut-below terms.ceilings _ (length enough) k (slice_index part k) (roof p k) enough e.ceilings (omega (arith, l, e.places)) (cut-at p enough k l) refl in
    let first : IsBefore terms part capacities = elim (vectors_ordered terms part enough) [
      | inl less ↦ before_trans terms part enough capacities less before
      | inr other ↦ elim other [
        | inl same ↦ subst (λ (xs : List ℕ). IsBefore terms xs capacities) (sym same) before
        | inr more ↦ absurd (cut-no_later p terms enough t e.places more)
      ]
    ] in
    let found = is.enough part (cut_places p enough) within first in
    let some : Admits p (release_of terms) (due_of terms) found.0 =
    above_admits p (release_of terms) (due_of terms) part found.0 found.2 (cut_admitting p (release_of terms) (due_of terms) enough part (cut-at p enough) e.admits) in
    blocks_refute law p root [] 1 is.blocks sound bounds (refuted_none p) is.hold found.0 found.1 some.0 (fits-answers p (release_of terms) (due_of terms) root found.0 some.0 is.is_root some.1)
