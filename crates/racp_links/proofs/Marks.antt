-- Marks of phases.
use Rattle.std.proofs.Common.{◌≡◌, ◌∙◌, ℕ, inl, inr, Bool, true, false, List, [], ◌∷◌, length, get_or, ap, sym, arith}
use Rattle.std.specs.Prelude.{◌||◌, filter, if◌then◌else◌}
use Rattle.std.proofs.lemmas.Bool.{cases_Bool}
use Rattle.racp_model.specs.Project.{place, number, IsNumber}
use Rattle.racp_links.specs.declared.link.Link.{Link}
use Rattle.racp_links.specs.Links.{NamesTasks}
use Rattle.racp_links.specs.Phases.{is_in, is_phase, MarksPhases, leaves, leaves_in, links_between, ties_phase, leaf_links_of}

-- the mark of a task, which is told by its number
marked : (parents : List ℕ) (marks : List Bool) (task : ℕ) → MarksPhases parents marks → IsNumber (length parents) task →
    is_phase parents task ≡ get_or marks (place task) false
marked parents marks task marks_phases named =
    let same : task ≡ number (place task) = omega (arith, named.0) in
    ap (is_phase parents) same ∙ sym (marks_phases.each (place task) (omega (arith, named.0, named.1)))

-- a link whose first task is marked ties a phase
pub first_ties : (parents : List ℕ) (marks : List Bool) (link : Link) → MarksPhases parents marks → NamesTasks (length parents) link →
    get_or marks (place link.before) false ≡ true → ties_phase parents link ≡ true
first_ties parents marks link marks_phases names holds =
    ap (λ (b : Bool). b || is_phase parents link.after) (marked parents marks link.before marks_phases names.0 ∙ holds)

-- and so does one whose second task is
pub second_ties : (parents : List ℕ) (marks : List Bool) (link : Link) → MarksPhases parents marks → NamesTasks (length parents) link →
    get_or marks (place link.after) false ≡ true → ties_phase parents link ≡ true
second_ties parents marks link marks_phases names holds = elim (cases_Bool (is_phase parents link.before)) [
  | inl phase ↦ ap (λ (b : Bool). b || is_phase parents link.after) phase
  | inr alone ↦ ap (λ (b : Bool). b || is_phase parents link.after) alone ∙ marked parents marks link.after marks_phases names.1 ∙ holds
]

-- the links between leaves that a link which ties a phase stands for
pub links_are : (parents tasks firsts seconds : List ℕ) (link : Link) → tasks ≡ leaves parents →
    firsts ≡ filter (is_in parents link.before) tasks → seconds ≡ filter (is_in parents link.after) tasks →
    ties_phase parents link ≡ true → links_between link.lag firsts seconds ≡ leaf_links_of parents link
links_are parents tasks firsts seconds link all some others ties =
    let first : firsts ≡ leaves_in parents link.before = some ∙ ap (filter (is_in parents link.before)) all in
    let second : seconds ≡ leaves_in parents link.after = others ∙ ap (filter (is_in parents link.after)) all in
    ap (λ (list : List ℕ). links_between link.lag list seconds) first
    ∙ ap (λ (list : List ℕ). links_between link.lag (leaves_in parents link.before) list) second
    ∙ sym (ap (λ (b : Bool). if b then links_between link.lag (leaves_in parents link.before) (leaves_in parents link.after) else link ∷ []) ties)
