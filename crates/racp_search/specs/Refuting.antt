-- Trees that refute a question, as lines.
use Rattle.std.specs.Prelude.{◌≡◌, ℕ, ◌<◌, ◌≤◌, List, [], ◌∷◌, ◌++◌, map, reverse, length, slice_index, Contains, Option, Some, None, Vec}
use Rattle.std.specs.Global.{Global}
use Rattle.racp_model.specs.Project.{Project, IsNumber, place}
use Rattle.racp_model.specs.Window.{Bounds, IsYes}
use Rattle.racp_model.specs.Formed.{HasBounds}
use Rattle.racp_model.specs.declared.question.Question.{Question}
use Rattle.racp_cutset.specs.Covering.{SearchNode}
use Rattle.racp_trees.specs.Children.{NoneStays, IsChildFor, AreChildrenOf}
use Rattle.racp_trees.specs.Trees.{Trees, lines_of, Hold, IsNodeOf, IsTooLate, IsDivided}
use Rattle.racp_trees.specs.declared.step.Step.{Step}
use Rattle.racp_trees.specs.declared.step.Step.TheVariants.{L, D, C}
use Rattle.racp_search.specs.DepthFirst.{IsBelow, weight, weights}
use Rattle.racp_search.specs.DepthFirst.Part.{all_of}
use Rattle.racp_search.specs.Glances.{HasConflict}
use Rattle.racp_search.specs.declared.refuting.Divided.{Divided}

-- lines refute a question: they are those of a tree that holds for its window
pub record IsRefutation (p : Project) (question : Question) (steps : List Step) : Type 0 where
  pub tree : Trees
  pub holds : Hold p question.capacities [] 1 (question.window ∷ []) tree
  pub lines : lines_of tree ≡ steps

-- what refuting answers: such lines, or that the question is a yes
abbrev pub IsRefuteAnswer : Project → Question → Option (Vec Step Global) → Type 0
IsRefuteAnswer p question (Some steps) = IsRefutation p question steps.items
IsRefuteAnswer p question None = IsYes p question.capacities question.window

-- Contracts of private functions.

-- the first job whose early start exceeds its upper bound, or that none does
abbrev pub IsLateAnswer : List ℕ → List ℕ → Option ℕ → Type 0
IsLateAnswer early upper (Some job) = IsNumber (length early) job × (slice_index upper (place job) < slice_index early (place job))
IsLateAnswer early upper None = (i : ℕ) → i < length early → slice_index early i ≤ slice_index upper i

-- a window whose early starts have a conflict
pub record IsConflicting (d : Divided) : Type 0 where
  pub places : length d.capacities.now ≡ d.net.now.resources
  pub bounds : HasBounds d.net.now d.window.now
  pub conflict : HasConflict d.net.now d.capacities.now d.window.now d.early.now d.clash.now

-- the child window in which these jobs are put off, or that no active job stays
abbrev pub IsPartAnswer : Divided → List ℕ → Option Bounds → Type 0
IsPartAnswer d gone (Some part) =
    IsBelow d.net.now d.window.now part × IsChildFor d.net.now d.early.now d.clash.now.active d.window.now gone part
IsPartAnswer d gone None = NoneStays d.clash.now.active gone

-- the child windows of some lists were put on a stack of windows, of which the last is the next one
pub record ArePutOn (d : Divided) (lists : List (List ℕ)) (old new : List Bounds) : Type 0 where
  pub parts : List Bounds
  pub children : AreChildrenOf d.net.now d.early.now d.clash.now.active d.window.now lists parts
  pub stacked : reverse new ≡ parts ++ reverse old
  pub below : (part : Bounds) → Contains parts part → IsBelow d.net.now d.window.now part
  pub few : length parts ≤ length lists

-- a window was divided into its child windows, which were put on a stack
pub record IsDividedInto (p : Project) (capacities : List ℕ) (window : Bounds) (time : ℕ) (old new : List Bounds) : Type 0 where
  pub node : SearchNode
  pub of_window : IsNodeOf p capacities window node
  pub parts : List Bounds
  pub divided : IsDivided p node time parts
  pub stacked : reverse new ≡ parts ++ reverse old
  pub below : (part : Bounds) → Contains parts part → IsBelow p window part
  pub lighter : weights p (map all_of parts) < weight p (all_of window)

-- a job of a window is too late
pub record IsLate (p : Project) (capacities : List ℕ) (window : Bounds) (job : ℕ) (old new : List Bounds) : Type 0 where
  pub node : SearchNode
  pub of_window : IsNodeOf p capacities window node
  pub late : IsTooLate p node job
  pub same : new ≡ old

-- the line of a window: a job is too late, or it is divided; or that starts in it answer
abbrev pub IsLineOf : Project → List ℕ → Bounds → List Bounds → List Bounds → Option Step → Type 0
IsLineOf p capacities window old new (Some (L job)) = IsLate p capacities window job old new
IsLineOf p capacities window old new (Some (D time)) = IsDividedInto p capacities window time old new
IsLineOf p capacities window old new (Some (C node)) = ⊥
IsLineOf p capacities window old new None = IsYes p capacities window
