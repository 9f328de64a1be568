-- Laws of links, pairs and phases, in the words of the field. Each is the contract of a public function.
use Rattle.std.specs.Prelude.{◌≡◌, ◌↔◌, ℕ, ◌+◌, ◌≤◌, true, false, List, ◌++◌, length, map, Contains, All, Result, Err, Vec}
use Rattle.std.specs.Global.{Global}
use Rattle.racp_model.specs.Project.{Project, IsNumber}
use Rattle.racp_model.specs.Schedule.{KeepsPrecedence}
use Rattle.racp_links.specs.declared.link.Link.{Link}
use Rattle.racp_links.specs.Links.{of_task, KeepsLink, KeepsLinks, all_waits, all_pairs}
use Rattle.racp_links.specs.declared.waits.Waits.{Waits}
use Rattle.racp_links.specs.declared.fault.LinkFault.{LinkFault}
use Rattle.racp_links.specs.declared.fault.PhaseFault.{PhaseFault}
use Rattle.racp_links.specs.Faults.{AreWell, IsAt, IsFirstWrong, IsMapped}
use Rattle.racp_links.specs.Phases.{IsOutline, leaves_in, ties_phase, all_leaf_links, numbered_links, of_leaves}
use Rattle.racp_links.specs.PhaseFaults.{is_finish_to_start, AreSpreadable, IsOfLink, IsFirstUnspread, IsSpread}

-- the jobs of a project are the tasks and then the waiting jobs of their links, and its relation is that of their pairs
pub record IsProjectOf (durations : List ℕ) (links : List Link) (p : Project) : Type 0 where
  pub jobs : map (λ job. job.duration) p.jobs ≡ durations ++ map (λ wait. wait.duration) (all_waits durations links)
  pub arcs : (arc : ℕ × ℕ) → Contains p.arcs arc ↔ Contains (all_pairs durations (length durations) links) arc

-- starts of the tasks keep all links exactly if there are starts of the waiting jobs with which they keep precedence
abbrev pub LinksArePrecedence : Type 0
LinksArePrecedence =
    (durations : List ℕ) (links : List Link) (p : Project) (starts : List ℕ) →
    AreWell durations links → IsProjectOf durations links p → length starts ≡ length durations →
    KeepsLinks durations links starts ↔ ((waits : List ℕ) × (length waits ≡ length (all_waits durations links)) ×
    KeepsPrecedence p (starts ++ waits))

-- a task or a phase ends at a time: the last of its leaves does
pub record IsEndOf (durations parents starts : List ℕ) (task time : ℕ) : Type 0 where
  pub most : (leaf : ℕ) → Contains (leaves_in parents task) leaf →
      of_task starts leaf + of_task durations leaf ≤ time
  pub some : (leaf : ℕ) × Contains (leaves_in parents task) leaf ×
      (of_task starts leaf + of_task durations leaf ≡ time)

-- a task or a phase starts at a time: the first of its leaves does
pub record IsStartOf (parents starts : List ℕ) (task time : ℕ) : Type 0 where
  pub least : (leaf : ℕ) → Contains (leaves_in parents task) leaf → time ≤ of_task starts leaf
  pub some : (leaf : ℕ) × Contains (leaves_in parents task) leaf × (of_task starts leaf ≡ time)

-- a link is kept: if it ties a phase, the second starts at least the lag after the end of the first
pub record KeepsPhaseLink (durations parents starts : List ℕ) (link : Link) : Type 0 where
  pub phases : ties_phase parents link ≡ true → is_finish_to_start link.kind ≡ true → (finish start : ℕ) →
      IsEndOf durations parents starts link.before finish → IsStartOf parents starts link.after start →
      finish + link.lag ≤ start
  pub tasks : ties_phase parents link ≡ false → KeepsLink durations starts link

-- starts keep links of phases exactly if they keep the links between leaves that these stand for
abbrev pub LeafLinksAreLinks : Type 0
LeafLinksAreLinks =
    (durations parents : List ℕ) (links : List Link) (starts : List ℕ) → AreSpreadable parents links →
    All (KeepsPhaseLink durations parents starts) links ↔ KeepsLinks durations (all_leaf_links parents links) starts

-- starts keep links of phases exactly if the starts of the leaves alone keep the links between these
abbrev pub NumberedLinksAreLinks : Type 0
NumberedLinksAreLinks =
    (durations parents : List ℕ) (links : List Link) (starts : List ℕ) → AreSpreadable parents links →
    All (KeepsPhaseLink durations parents starts) links ↔
    KeepsLinks (of_leaves parents durations) (numbered_links parents links) (of_leaves parents starts)

-- each task has a leaf in it, and so an end and a start
abbrev pub EachTaskHasLeaf : Type 0
EachTaskHasLeaf = (parents : List ℕ) (task : ℕ) → IsOutline parents → IsNumber (length parents) task →
    (leaf : ℕ) × Contains (leaves_in parents task) leaf

-- if a link is the first that is wrong, it is told, with what is wrong with it
abbrev pub FirstWrongIsTold : Type 0
FirstWrongIsTold =
    (durations : List ℕ) (links : List Link) (k : ℕ) (fault : LinkFault) (answer : Result Waits LinkFault) →
    IsAt k fault → IsFirstWrong durations links k fault → IsMapped durations links answer → answer ≡ Err fault

-- and so of links of phases, if the tasks can be numbered and stand in order
abbrev pub FirstUnspreadIsTold : Type 0
FirstUnspreadIsTold =
    (parents : List ℕ) (links : List Link) (k : ℕ) (fault : PhaseFault) (answer : Result (Vec Link Global) PhaseFault) →
    IsOfLink k fault → IsFirstUnspread parents links k fault → IsSpread parents links answer → answer ≡ Err fault
