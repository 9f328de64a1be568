-- Contracts of private functions: a search by depth. A stack holds the nodes on the way to the window that is searched
-- next, the first node first, each with the parts of its window that are still to be searched.
use Rattle.std.specs.Prelude.{◌≡◌, ◌≢◌, ◌⊎◌, ℕ, zero, suc, ◌+◌, ◌-◌, ◌*◌, ◌^◌, ◌<◌, ◌≤◌, List, [], ◌∷◌, ◌++◌, length, map, slice_index, Contains, Bool, true, false}
use Rattle.racp_model.specs.Project.{Project}
use Rattle.racp_model.specs.Schedule.{Fits}
use Rattle.racp_model.specs.Terms.{IsLexBefore}
use Rattle.racp_model.specs.Path.{IsEarly}
use Rattle.racp_model.specs.Window.{Bounds, LiesIn, IsInside}
use Rattle.racp_model.specs.Formed.{HasBounds}
use Rattle.racp_model.specs.Limits.{most_start}
use Rattle.racp_model.specs.JobSets.{AreJobs}
use Rattle.racp_delay.specs.Alternatives.{Splits, IsMinimalDelayingAlternative}
use Rattle.racp_delay.specs.Branching.{IsChild, IsConflict, KeepsBefore}
use Rattle.racp_delay.specs.Laws.{lower_sum}
use Rattle.racp_cutset.specs.Covering.{SearchNode, IsNode, FitsBeforeTime}
use Rattle.racp_search.specs.declared.child.Child.{Child}

-- starts in the child window of a minimal alternative, other than all active jobs, that stands behind a list of jobs
pub record LiesBehind (p : Project) (v : SearchNode) (active last starts : List ℕ) : Type 0 where
  pub gone : List ℕ
  pub kept : List ℕ
  pub splits : Splits active gone kept
  pub some_stay : kept ≢ []
  pub minimal : IsMinimalDelayingAlternative p v.capacities active gone
  pub behind : IsLexBefore last gone
  pub lies : (child : Bounds) → IsChild p v.early v.window gone kept child → LiesIn p child starts

-- the alternative that is looked at behind a list of jobs: what lies behind that list lies in the child window of this
-- alternative, or of one behind it
pub record IsNextToLookAt (p : Project) (v : SearchNode) (active last gone : List ℕ) : Type 0 where
  pub minimal : IsMinimalDelayingAlternative p v.capacities active gone
  pub behind : IsLexBefore last gone
  pub first : (starts : List ℕ) (other : LiesBehind p v active last starts) →
      (other.gone ≡ gone) ⊎ IsLexBefore gone other.gone

-- what is still to be searched: a window; or, of the window of a node, the child windows of the alternatives of its
-- active jobs that stand behind a list of jobs
pub data Part : Type 0 where
  all_of : Bounds → Part
  behind : SearchNode → List ℕ → List ℕ → Part

-- starts that lie there
abbrev pub LiesInPart : Project → Part → List ℕ → Type 0
LiesInPart p (all_of w) starts = LiesIn p w starts
LiesInPart p (behind v active last) starts = LiesBehind p v active last starts

-- what fits and lies in a part lies in one of some parts
abbrev pub PartsCover : Project → List ℕ → Part → List Part → Type 0
PartsCover p capacities part parts =
    (starts : List ℕ) → LiesInPart p part starts → Fits p capacities starts →
    (other : Part) × Contains parts other × LiesInPart p other starts

-- the windows of some children
abbrev pub child_windows : List Child → List Bounds
child_windows children = map (λ (c : Child). c.window) children

-- a node with the active jobs of its conflict: child windows of it that are still to be searched, the alternative that
-- was looked at last, and whether there may be more behind it
pub record SearchFrame : Type 0 where
  pub node : SearchNode
  pub active : List ℕ
  pub windows : List Bounds
  pub last : List ℕ
  pub more : Bool

-- the part behind an alternative, where there may be more
abbrev pub part_behind : SearchNode → List ℕ → List ℕ → Bool → List Part
part_behind v active last true = behind v active last ∷ []
part_behind v active last false = []

-- the parts of a node's window that are still to be searched
abbrev pub parts_of : SearchFrame → List Part
parts_of f = part_behind f.node f.active f.last f.more ++ map all_of f.windows

-- all parts of a stack that are still to be searched
abbrev pub open_parts : List SearchFrame → List Part
open_parts [] = []
open_parts (frame ∷ frames) = parts_of frame ++ open_parts frames

-- a window of a project that lies inside another
pub record IsPartOf (p : Project) (whole window : Bounds) : Type 0 where
  pub bounds : HasBounds p window
  pub inside : IsInside p whole window

-- a window has a greater sum of lower bounds than another
abbrev pub IsHigher : Project → Bounds → Bounds → Type 0
IsHigher p whole window = lower_sum p whole < lower_sum p window

-- a window that is searched below a node: it is inside the node's, and higher
pub record IsBelow (p : Project) (whole window : Bounds) : Type 0 where
  pub part : IsPartOf p whole window
  pub higher : IsHigher p whole window

-- the early starts of a window keep the capacities before a time
abbrev pub IsQuiet : Project → List ℕ → Bounds → ℕ → Type 0
IsQuiet p capacities window t =
    (early : List ℕ) → IsEarly p (slice_index window.lower) early → KeepsBefore p capacities early t

-- what is searched below a window: the window of the first of some frames, or, where there is none, what is next
abbrev pub front_of : List SearchFrame → List Part → List Part
front_of [] next = next
front_of (frame ∷ frames) next = all_of frame.node.window ∷ []

-- the node of a frame is one of the question's capacities, and what answers in its window lies in a part that is still
-- to be searched
pub record IsOpenFrame (p : Project) (capacities : List ℕ) (frame : SearchFrame) (left : List Part) : Type 0 where
  pub same : frame.node.capacities ≡ capacities
  pub covers : PartsCover p capacities (all_of frame.node.window) left

-- that holds of each frame, where its own parts, and the window of the frame above it or what is next, are still to be
-- searched
abbrev pub AreOpenFrames : Project → List ℕ → List SearchFrame → List Part → Type 0
AreOpenFrames p capacities [] next = Unit {0}
AreOpenFrames p capacities (frame ∷ frames) next =
    IsOpenFrame p capacities frame (parts_of frame ++ front_of frames next) × AreOpenFrames p capacities frames next

-- the window of each frame is below that of the one before it, and of the first below a window
abbrev pub AreBelow : Project → Bounds → List SearchFrame → Type 0
AreBelow p w [] = Unit {0}
AreBelow p w (frame ∷ frames) = IsBelow p w frame.node.window × AreBelow p frame.node.window frames

-- the same, but the window of the first is some part of a whole
abbrev pub AreInside : Project → Bounds → List SearchFrame → Type 0
AreInside p whole [] = Unit {0}
AreInside p whole (frame ∷ frames) = IsPartOf p whole frame.node.window × AreBelow p frame.node.window frames

-- the window of the last of some frames, or, where there is none, a window
abbrev pub last_window : Bounds → List SearchFrame → Bounds
last_window w [] = w
last_window w (frame ∷ frames) = last_window frame.node.window frames

-- a window is below that of the last frame, or, where there is none, a part of the whole
abbrev pub IsBeneath : Project → Bounds → List SearchFrame → Bounds → Type 0
IsBeneath p whole [] next = IsPartOf p whole next
IsBeneath p whole (frame ∷ frames) next = IsBelow p (last_window frame.node.window frames) next

-- the state of a search of a window: the stack, and the parts to be searched next
pub record IsSearching (p : Project) (capacities : List ℕ) (whole : Bounds) (stack : List SearchFrame)
    (next : List Part) : Type 0 where
  pub covers : PartsCover p capacities (all_of whole) (front_of stack next)
  pub inside : AreInside p whole stack
  pub frames : AreOpenFrames p capacities stack next

-- the same, with a window to be searched next that is a part of the whole, beneath the stack, and quiet before a time
pub record IsSearchingNext (p : Project) (capacities : List ℕ) (whole : Bounds) (stack : List SearchFrame)
    (next : Bounds) (from : ℕ) : Type 0 where
  pub state : IsSearching p capacities whole stack (all_of next ∷ [])
  pub part : IsPartOf p whole next
  pub beneath : IsBeneath p whole stack next
  pub quiet : IsQuiet p capacities next from

-- the active jobs of a node at its time, where its early starts have their first conflict
pub record HasActive (p : Project) (v : SearchNode) (active : List ℕ) : Type 0 where
  pub node : IsNode p v
  pub fits : FitsBeforeTime p v
  pub conflict : IsConflict p v.capacities v.early v.time active
  pub small : (i : ℕ) → i < length p.jobs → slice_index v.early i ≤ most_start

-- what holds of each frame: its child windows are below its node and quiet before its time, and the last alternative
-- has job numbers that rise
pub record IsFrame (p : Project) (f : SearchFrame) : Type 0 where
  pub active : HasActive p f.node f.active
  pub below : (w : Bounds) → Contains f.windows w → IsBelow p f.node.window w
  pub quiet : (w : Bounds) → Contains f.windows w → IsQuiet p f.node.capacities w f.node.time
  pub last : AreJobs f.last

-- the place of a list of at most n job numbers, from 1 to 512, in lexicographic order
unfoldable pub rank : ℕ → List ℕ → ℕ
rank zero jobs = 0
rank (suc n) [] = 0
rank (suc n) (job ∷ jobs) = 513 ^ n * job + rank n jobs

-- a number that is greater than the place of any list
unfoldable pub most_lists : ℕ
most_lists = 513 ^ 512

-- a bound on the number of nodes in a part, by how far the sum of its lower bounds can rise
unfoldable pub weight : Project → Part → ℕ
weight p (all_of w) = (most_lists + 1) ^ ((length p.jobs * most_start + 1) - lower_sum p w)
weight p (behind v active last) =
    (most_lists - rank 512 last) * (most_lists + 1) ^ (length p.jobs * most_start - lower_sum p v.window)

-- a bound on the number of nodes in some parts
unfoldable pub weights : Project → List Part → ℕ
weights p [] = 0
weights p (part ∷ parts) = weight p part + weights p parts

-- a frame that is made for a window: its parts cover the window, and weigh less
pub record IsFrameOf (p : Project) (capacities : List ℕ) (w : Bounds) (frame : SearchFrame) : Type 0 where
  pub same : frame.node.capacities ≡ capacities
  pub placed : frame.node.window ≡ w
  pub covers : PartsCover p capacities (all_of w) (parts_of frame)
  pub lighter : weights p (parts_of frame) < weight p (all_of w)

-- a window below the node of a frame that is searched next, and the frame without it
pub record IsTaken (p : Project) (capacities : List ℕ) (old new : SearchFrame) (next : Bounds) : Type 0 where
  pub node : new.node ≡ old.node
  pub covers : (part : Part) → Contains (parts_of old) part → PartsCover p capacities part (parts_of new ++ all_of next ∷ [])
  pub below : IsBelow p old.node.window next
  pub quiet : IsQuiet p old.node.capacities next old.node.time
  pub lighter : weights p (parts_of new ++ all_of next ∷ []) ≤ weights p (parts_of old)

-- nothing that is still to be searched answers
pub record IsUsedUp (p : Project) (capacities : List ℕ) (old new : SearchFrame) : Type 0 where
  pub node : new.node ≡ old.node
  pub covers : (part : Part) → Contains (parts_of old) part → PartsCover p capacities part []

-- windows that are left of a frame: they cover its parts, and each is below its node
pub record IsRestOfFrame (p : Project) (capacities : List ℕ) (frame : SearchFrame) (rest : List Bounds) : Type 0 where
  pub covers : (part : Part) → Contains (parts_of frame) part → PartsCover p capacities part (map all_of rest)
  pub below : (w : Bounds) → Contains rest w → IsBelow p frame.node.window w

-- the child windows of a frame's node in which one active job alone is put off: they cover its parts, and are few
pub record IsEachAlone (p : Project) (capacities : List ℕ) (frame : SearchFrame) (children : List Child) : Type 0 where
  pub rest : IsRestOfFrame p capacities frame (child_windows children)
  pub quiet : (w : Bounds) → Contains (child_windows children) w → IsQuiet p frame.node.capacities w frame.node.time
  pub few : length children ≤ 512

-- how many lists may still be looked at
abbrev pub steps_left : Bool → List ℕ → ℕ
steps_left true last = most_lists - rank 512 last
steps_left false last = 0

-- more child windows of a frame were made, in place of what lies behind its last alternative
pub record IsGoneOn (p : Project) (capacities : List ℕ) (old new : SearchFrame) : Type 0 where
  pub node : new.node ≡ old.node
  pub covers : (part : Part) → Contains (parts_of old) part → PartsCover p capacities part (parts_of new)
  pub lighter : weights p (parts_of new) ≤ weights p (parts_of old)

-- an alternative was taken up
pub record IsTakenUp (old : SearchFrame) (gone : List ℕ) (new : SearchFrame) : Type 0 where
  pub active : new.active ≡ old.active
  pub last : new.last ≡ gone
  pub more : new.more ≡ true
