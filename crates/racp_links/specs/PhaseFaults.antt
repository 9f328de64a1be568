-- What spreading links over the leaves of phases answers.
use Rattle.std.specs.Prelude.{◌≡◌, ◌⊎◌, ℕ, ◌<◌, ◌≤◌, true, false, Bool, List, length, slice_index, Result, Ok, Err, Vec}
use Rattle.std.specs.Global.{Global}
use Rattle.racp_links.specs.declared.link.LinkKind.{LinkKind}
use Rattle.racp_links.specs.declared.link.LinkKind.TheVariants.{FinishToStart, StartToStart, FinishToFinish, StartToFinish}
use Rattle.racp_links.specs.declared.link.Link.{Link}
use Rattle.racp_links.specs.declared.fault.PhaseFault.{PhaseFault}
use Rattle.racp_links.specs.declared.fault.PhaseFault.TheVariants.{TooMany, Parent, NoTask, Inside, Kind, Memory}
use Rattle.racp_links.specs.Links.{NamesTasks}
use Rattle.racp_links.specs.Faults.{most_number, link_at}
use Rattle.racp_links.specs.Phases.{IsOutline, is_in, ties_phase, all_leaf_links, numbered_links}

-- whether a link goes from finish to start
abbrev pub is_finish_to_start : LinkKind → Bool
is_finish_to_start FinishToStart = true
is_finish_to_start StartToStart = false
is_finish_to_start FinishToFinish = false
is_finish_to_start StartToFinish = false

-- a link names two tasks of which none is in the other, and if it ties a phase it goes from finish to start
pub record IsSpreadable (parents : List ℕ) (link : Link) : Type 0 where
  pub names : NamesTasks (length parents) link
  pub first : is_in parents link.before link.after ≡ false
  pub second : is_in parents link.after link.before ≡ false
  pub kind : ties_phase parents link ≡ true → is_finish_to_start link.kind ≡ true

-- the links before a place are so
abbrev pub AreSpreadableBefore : List ℕ → List Link → ℕ → Type 0
AreSpreadableBefore parents links k = (q : ℕ) → q < k → IsSpreadable parents (link_at links q)

-- all links are so
abbrev pub AreSpreadable : List ℕ → List Link → Type 0
AreSpreadable parents links = AreSpreadableBefore parents links (length links)

-- a link names two tasks, and one is in the other
abbrev pub TiesInside : List ℕ → Link → Type 0
TiesInside parents link = (is_in parents link.before link.after ≡ true) ⊎ (is_in parents link.after link.before ≡ true)

-- of a link it is wrong what a fault says
abbrev pub IsUnspread : List ℕ → Link → PhaseFault → Type 0
IsUnspread parents link TooMany = ⊥
IsUnspread parents link (Parent _) = ⊥
IsUnspread parents link (NoTask _) = NamesTasks (length parents) link → ⊥
IsUnspread parents link (Inside _) = NamesTasks (length parents) link × TiesInside parents link
IsUnspread parents link (Kind _) = NamesTasks (length parents) link × (TiesInside parents link → ⊥) ×
    (ties_phase parents link ≡ true) × (is_finish_to_start link.kind ≡ false)
IsUnspread parents link Memory = ⊥

-- the link at a place is the first that is wrong, and a fault says why
pub record IsFirstUnspread (parents : List ℕ) (links : List Link) (k : ℕ) (fault : PhaseFault) : Type 0 where
  pub outline : IsOutline parents
  pub place : k < length links
  pub before : AreSpreadableBefore parents links k
  pub wrong : IsUnspread parents (link_at links k) fault

-- the task at a place is the first that is part of one that does not stand before it
pub record IsFirstMisplaced (parents : List ℕ) (k : ℕ) : Type 0 where
  pub few : length parents ≤ most_number
  pub place : k < length parents
  pub before : (q : ℕ) → q < k → slice_index parents q ≤ q
  pub late : k < slice_index parents k

-- what a fault says of an outline and its links
abbrev pub IsNotSpread : List ℕ → List Link → PhaseFault → Type 0
IsNotSpread parents links TooMany = most_number < length parents
IsNotSpread parents links (Parent k) = IsFirstMisplaced parents k
IsNotSpread parents links (NoTask k) = IsFirstUnspread parents links k (NoTask k)
IsNotSpread parents links (Inside k) = IsFirstUnspread parents links k (Inside k)
IsNotSpread parents links (Kind k) = IsFirstUnspread parents links k (Kind k)
IsNotSpread parents links Memory = IsOutline parents × AreSpreadable parents links

-- what is answered to an outline and links
abbrev pub IsSpread : List ℕ → List Link → Result (Vec Link Global) PhaseFault → Type 0
IsSpread parents links (Ok made) =
    IsOutline parents × AreSpreadable parents links × (made.items ≡ all_leaf_links parents links)
IsSpread parents links (Err fault) = IsNotSpread parents links fault

-- what is answered to an outline and links whose tasks are to be numbered among the leaves alone
abbrev pub IsNumbered : List ℕ → List Link → Result (Vec Link Global) PhaseFault → Type 0
IsNumbered parents links (Ok made) =
    IsOutline parents × AreSpreadable parents links × (made.items ≡ numbered_links parents links)
IsNumbered parents links (Err fault) = IsNotSpread parents links fault

-- what looking at an outline alone answers
abbrev pub IsOutlined : List ℕ → Result (Unit {0}) PhaseFault → Type 0
IsOutlined parents (Ok _) = IsOutline parents
IsOutlined parents (Err TooMany) = most_number < length parents
IsOutlined parents (Err (Parent k)) = IsFirstMisplaced parents k
IsOutlined parents (Err (NoTask _)) = ⊥
IsOutlined parents (Err (Inside _)) = ⊥
IsOutlined parents (Err (Kind _)) = ⊥
IsOutlined parents (Err Memory) = ⊥

-- the place that a fault of a link names
abbrev pub IsOfLink : ℕ → PhaseFault → Type 0
IsOfLink k TooMany = ⊥
IsOfLink k (Parent _) = ⊥
IsOfLink k (NoTask place) = place ≡ k
IsOfLink k (Inside place) = place ≡ k
IsOfLink k (Kind place) = place ≡ k
IsOfLink k Memory = ⊥

-- what looking at the link at a place answers
abbrev pub IsLooked : List ℕ → Link → ℕ → Result (Unit {0}) PhaseFault → Type 0
IsLooked parents link k (Ok _) = IsSpreadable parents link
IsLooked parents link k (Err fault) = IsOfLink k fault × IsUnspread parents link fault

-- what looking at all links answers
abbrev pub AreLooked : List ℕ → List Link → Result (Unit {0}) PhaseFault → Type 0
AreLooked parents links (Ok _) = AreSpreadable parents links
AreLooked parents links (Err fault) = IsNotSpread parents links fault
