-- Links between tasks, when starts keep them, and the pairs and waiting jobs that they become in a network.
use Rattle.std.specs.Prelude.{◌≢◌, ℕ, ◌+◌, ◌-◌, ◌<◌, ◌≤◌, List, [], ◌∷◌, ◌++◌, length, slice_index, All, ◌==◌, if◌then◌else◌}
use Rattle.std.specs.List.{flat_map}
use Rattle.racp_model.specs.Project.{place, number, IsNumber}
use Rattle.racp_links.specs.declared.link.LinkKind.{LinkKind}
use Rattle.racp_links.specs.declared.link.LinkKind.TheVariants.{FinishToStart, StartToStart, FinishToFinish, StartToFinish}
use Rattle.racp_links.specs.declared.link.Link.{Link}
use Rattle.racp_links.specs.declared.waits.Wait.{Wait}

-- the value of a task with a number, in a list by places
abbrev pub of_task : List ℕ → ℕ → ℕ
of_task values task = slice_index values (place task)

-- for how long the first task has run at the time that a link ties: all of its duration at its end, 0 at its start
abbrev pub ran_before : LinkKind → ℕ → ℕ
ran_before FinishToStart duration = duration
ran_before StartToStart duration = 0
ran_before FinishToFinish duration = duration
ran_before StartToFinish duration = 0

-- the same for the second task
abbrev pub ran_after : LinkKind → ℕ → ℕ
ran_after FinishToStart duration = 0
ran_after StartToStart duration = 0
ran_after FinishToFinish duration = duration
ran_after StartToFinish duration = duration

-- the time of the second task that a link ties comes at least the lag after the time of the first
abbrev pub KeepsLink : List ℕ → List ℕ → Link → Type 0
KeepsLink durations starts link =
    of_task starts link.before + ran_before link.kind (of_task durations link.before) + link.lag ≤
    of_task starts link.after + ran_after link.kind (of_task durations link.after)

-- each link is kept
abbrev pub KeepsLinks : List ℕ → List Link → List ℕ → Type 0
KeepsLinks durations links starts = All (KeepsLink durations starts) links

-- a link names two of so many tasks
abbrev pub NamesTasks : ℕ → Link → Type 0
NamesTasks tasks link = IsNumber tasks link.before × IsNumber tasks link.after × (link.before ≢ link.after)

-- two times that are counted from the start of the first task, and later by what the second has run at its tied time, so
-- that none is below 0: the end of the first
abbrev pub end_of_first : List ℕ → Link → ℕ
end_of_first durations link = of_task durations link.before + ran_after link.kind (of_task durations link.after)

-- and the earliest start of the second
abbrev pub start_of_second : List ℕ → Link → ℕ
start_of_second durations link = ran_before link.kind (of_task durations link.before) + link.lag

-- a link lets its second task start before the first has ended
abbrev pub Overlaps : List ℕ → Link → Type 0
Overlaps durations link = start_of_second durations link < end_of_first durations link

-- it does not
abbrev pub IsApart : List ℕ → Link → Type 0
IsApart durations link = end_of_first durations link ≤ start_of_second durations link

-- how many time units a link wants between the end of its first task and the start of its second
abbrev pub gap : List ℕ → Link → ℕ
gap durations link = start_of_second durations link - end_of_first durations link

-- the waiting job of a link, if it wants any time between
abbrev pub waits_of : List ℕ → Link → List Wait
waits_of durations link =
    if gap durations link == 0 then [] else record { duration = gap durations link; after = link.after } ∷ []

-- the pairs of a link, if there are so many jobs before its waiting job
abbrev pub pairs_of : List ℕ → ℕ → Link → List (ℕ × ℕ)
pairs_of durations jobs link = if gap durations link == 0 then (link.before, link.after) ∷ []
    else (link.before, number jobs) ∷ (number jobs, link.after) ∷ []

-- the waiting jobs of all links, in their order
abbrev pub all_waits : List ℕ → List Link → List Wait
all_waits durations links = flat_map (waits_of durations) links

-- the pairs of all links, in their order, if there are so many jobs before their waiting jobs
abbrev pub all_pairs : List ℕ → ℕ → List Link → List (ℕ × ℕ)
all_pairs durations jobs [] = []
all_pairs durations jobs (link ∷ links) =
    pairs_of durations jobs link ++ all_pairs durations (jobs + length (waits_of durations link)) links
