-- Phases: tasks of which others are parts, and links between them, which stand for all of their leaves.
use Rattle.std.specs.Prelude.{◌≡◌, ℕ, zero, suc, ◌+◌, ◌≤◌, ◌<◌, Bool, false, not, List, [], ◌∷◌, ◌++◌, length, slice_index, slice_index_or, map, filter, ◌==◌, ◌||◌, if◌then◌else◌}
use Rattle.std.specs.List.{flat_map, list_any, range_with_len}
use Rattle.racp_model.specs.Project.{place, number}
use Rattle.racp_links.specs.declared.link.LinkKind.TheVariants.{FinishToStart}
use Rattle.racp_links.specs.declared.link.Link.{Link}
use Rattle.racp_links.specs.Faults.{most_number}

-- the number of the task that a task is a part of, or 0 if it is a part of none
abbrev pub parent_of : List ℕ → ℕ → ℕ
parent_of parents task = slice_index parents (place task)

-- the tasks can be numbered, and each that another is a part of stands before it
pub record IsOutline (parents : List ℕ) : Type 0 where
  pub few : length parents ≤ most_number
  pub before : (k : ℕ) → k < length parents → slice_index parents k ≤ k

-- whether a task is the whole, a part of it, a part of a part and so on, at most so many steps up
abbrev pub is_in_by : List ℕ → ℕ → ℕ → ℕ → Bool
is_in_by parents whole zero task = task == whole
is_in_by parents whole (suc steps) task = (task == whole) || is_in_by parents whole steps (parent_of parents task)

-- whether a task is the whole, a part of it, a part of a part and so on: numbers fall on the way up
abbrev pub is_in : List ℕ → ℕ → ℕ → Bool
is_in parents whole task = is_in_by parents whole task task

-- whether some task is a part of a task
abbrev pub is_phase : List ℕ → ℕ → Bool
is_phase parents task = list_any (λ parent. parent == task) parents

-- marks of the tasks, by places: of the phases true, of the others false
pub record MarksPhases (parents : List ℕ) (marks : List Bool) : Type 0 where
  pub places : length marks ≡ length parents
  pub each : (k : ℕ) → k < length parents → slice_index_or marks k false ≡ is_phase parents (number k)

-- the tasks that are no phases
abbrev pub leaves : List ℕ → List ℕ
leaves parents = filter (λ task. not (is_phase parents task)) (range_with_len 1 (length parents))

-- those that are in a task
abbrev pub leaves_in : List ℕ → ℕ → List ℕ
leaves_in parents whole = filter (is_in parents whole) (leaves parents)

-- the link from one task to each of others, from finish to start
abbrev pub links_to : ℕ → List ℕ → ℕ → List Link
links_to lag seconds before = map (λ after. record { before = before; after = after; kind = FinishToStart; lag = lag }) seconds

-- the links from each of some tasks to each of others
abbrev pub links_between : ℕ → List ℕ → List ℕ → List Link
links_between lag firsts seconds = flat_map (links_to lag seconds) firsts

-- whether a link ties a phase
abbrev pub ties_phase : List ℕ → Link → Bool
ties_phase parents link = is_phase parents link.before || is_phase parents link.after

-- the links between leaves that a link stands for
abbrev pub leaf_links_of : List ℕ → Link → List Link
leaf_links_of parents link =
    if ties_phase parents link then links_between link.lag (leaves_in parents link.before) (leaves_in parents link.after)
    else link ∷ []

-- those of all links, in their order
abbrev pub all_leaf_links : List ℕ → List Link → List Link
all_leaf_links parents links = flat_map (leaf_links_of parents) links

-- the number of a leaf among the leaves alone: how many leaves have a number up to its own
abbrev pub leaf_number : List ℕ → ℕ → ℕ
leaf_number parents task = length (filter (λ leaf. not (is_phase parents leaf)) (range_with_len 1 task))

-- the same link, whose tasks are numbered among the leaves alone
abbrev pub numbered : List ℕ → Link → Link
numbered parents link = record {
  before = leaf_number parents link.before;
  after = leaf_number parents link.after;
  kind = link.kind;
  lag = link.lag;
}

-- the links between leaves that links stand for, so numbered
abbrev pub numbered_links : List ℕ → List Link → List Link
numbered_links parents links = map (numbered parents) (all_leaf_links parents links)

-- of what stands for tasks from a number on, what stands for leaves
abbrev pub leaf_items : {A : Type 0} → List ℕ → ℕ → List A → List A
leaf_items parents task [] = []
leaf_items parents task (item ∷ items) =
    (if is_phase parents task then [] else item ∷ []) ++ leaf_items parents (task + 1) items

-- of what stands for tasks, by places, what stands for leaves
abbrev pub of_leaves : {A : Type 0} → List ℕ → List A → List A
of_leaves parents items = leaf_items parents 1 items
