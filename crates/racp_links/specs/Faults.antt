-- What making pairs and waiting jobs of links answers.
use Rattle.std.specs.Prelude.{◌≡◌, ◌⊎◌, ℕ, ◌+◌, ◌<◌, ◌≤◌, List, ◌++◌, length, slice_index_or, take, Result, Ok, Err}
use Rattle.racp_links.specs.declared.link.LinkKind.TheVariants.{FinishToStart}
use Rattle.racp_links.specs.declared.link.Link.{Link}
use Rattle.racp_links.specs.declared.waits.Waits.{Waits}
use Rattle.racp_links.specs.declared.fault.LinkFault.{LinkFault}
use Rattle.racp_links.specs.declared.fault.LinkFault.TheVariants.{NoTask, Overlap, TooLong, Memory}
use Rattle.racp_links.specs.Links.{NamesTasks, Overlaps, IsApart, gap, waits_of, pairs_of, all_waits, all_pairs}

-- the greatest number of a job
abbrev pub most_number : ℕ
most_number = 4294967295

-- a link is well where so many jobs come before its waiting job: it can be made pairs and a waiting job
pub record IsWell (durations : List ℕ) (jobs : ℕ) (link : Link) : Type 0 where
  pub names : NamesTasks (length durations) link
  pub apart : IsApart durations link
  pub short : gap durations link ≤ 10000
  pub numbered : 0 < gap durations link → jobs < most_number

-- a link's waiting job would be longer than a job may be, or have too great a number
abbrev pub IsWaitTooLong : List ℕ → ℕ → Link → Type 0
IsWaitTooLong durations jobs link = (10000 < gap durations link) ⊎ ((0 < gap durations link) × (most_number ≤ jobs))

-- what is read at a place where there is no link
abbrev pub no_link : Link
no_link = record { before = 0; after = 0; kind = FinishToStart; lag = 0 }

-- the link at a place
abbrev pub link_at : List Link → ℕ → Link
link_at links k = slice_index_or links k no_link

-- how many jobs come before the waiting job of the link at a place: the tasks, and the waiting jobs of the links before it
abbrev pub jobs_before : List ℕ → List Link → ℕ → ℕ
jobs_before durations links k = length durations + length (all_waits durations (take k links))

-- the links before a place are well
abbrev pub AreWellBefore : List ℕ → List Link → ℕ → Type 0
AreWellBefore durations links k = (q : ℕ) → q < k → IsWell durations (jobs_before durations links q) (link_at links q)

-- all links are well
abbrev pub AreWell : List ℕ → List Link → Type 0
AreWell durations links = AreWellBefore durations links (length links)

-- of a link it is wrong what a fault says
abbrev pub IsWrong : List ℕ → ℕ → Link → LinkFault → Type 0
IsWrong durations jobs link (NoTask _) = NamesTasks (length durations) link → ⊥
IsWrong durations jobs link (Overlap _) = NamesTasks (length durations) link × Overlaps durations link
IsWrong durations jobs link (TooLong _) =
    NamesTasks (length durations) link × IsApart durations link × IsWaitTooLong durations jobs link
IsWrong durations jobs link Memory = ⊥

-- the link at a place is the first that is wrong, and a fault says why
pub record IsFirstWrong (durations : List ℕ) (links : List Link) (k : ℕ) (fault : LinkFault) : Type 0 where
  pub place : k < length links
  pub before : AreWellBefore durations links k
  pub wrong : IsWrong durations (jobs_before durations links k) (link_at links k) fault

-- what a fault says of links: which is the first that is wrong, and why; or that none is, and memory ran out
abbrev pub IsRefused : List ℕ → List Link → LinkFault → Type 0
IsRefused durations links (NoTask k) = IsFirstWrong durations links k (NoTask k)
IsRefused durations links (Overlap k) = IsFirstWrong durations links k (Overlap k)
IsRefused durations links (TooLong k) = IsFirstWrong durations links k (TooLong k)
IsRefused durations links Memory = AreWell durations links

-- the pairs and the waiting jobs of links
pub record AreMadeOf (durations : List ℕ) (links : List Link) (made : Waits) : Type 0 where
  pub pairs : made.pairs.items ≡ all_pairs durations (length durations) links
  pub waits : made.waits.items ≡ all_waits durations links

-- what is answered to durations and links
abbrev pub IsMapped : List ℕ → List Link → Result Waits LinkFault → Type 0
IsMapped durations links (Ok made) = AreWell durations links × AreMadeOf durations links made
IsMapped durations links (Err fault) = IsRefused durations links fault

-- the place that a fault names
abbrev pub IsAt : ℕ → LinkFault → Type 0
IsAt k (NoTask place) = place ≡ k
IsAt k (Overlap place) = place ≡ k
IsAt k (TooLong place) = place ≡ k
IsAt k Memory = ⊥

-- what looking at the link at a place answers: how many jobs there are with its own, or why it is wrong
abbrev pub IsCounted : List ℕ → ℕ → Link → ℕ → Result ℕ LinkFault → Type 0
IsCounted durations jobs link k (Ok behind) =
    IsWell durations jobs link × (behind ≡ jobs + length (waits_of durations link))
IsCounted durations jobs link k (Err fault) = IsAt k fault × IsWrong durations jobs link fault

-- what looking at all links answers
abbrev pub IsChecked : List ℕ → List Link → Result (Unit {0}) LinkFault → Type 0
IsChecked durations links (Ok _) = AreWell durations links
IsChecked durations links (Err fault) = IsRefused durations links fault

-- the pairs and the waiting job of one more link are behind those that were there
pub record IsAdded (durations : List ℕ) (link : Link) (old new : Waits) : Type 0 where
  pub pairs : new.pairs.items ≡ old.pairs.items ++ pairs_of durations (length durations + length old.waits.items) link
  pub waits : new.waits.items ≡ old.waits.items ++ waits_of durations link
