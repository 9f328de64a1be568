-- The rows of an outline, one after another.
use Rattle.std.proofs.Common.{◌≡◌, ◌∙◌, ℕ, ◌+◌, ◌-◌, ◌<◌, ◌≤◌, List, [], ◌∷◌, ◌++◌, All, arith, ap, ap₂, get_or, length, map, subst, sym, take}
use Rattle.std.proofs.lemmas.List.{get_or-map, length-map, map-append, map_more, take_all}
use Rattle.std.proofs.lemmas.List.Elements.{All-get_or}
use Rattle.racp_model.specs.Project.{Project, IsNumber, place}
use Rattle.racp_show.specs.Entries.{IsWithin, line_of}
use Rattle.racp_show.specs.Outlines.{Line}
use Rattle.racp_show.specs.Outlines.Line.{TaskLine}
use Rattle.racp_show.specs.Rows.{shown}
use Rattle.racp_show.specs.Tasks.{IsTask}
use Rattle.racp_show.specs.declared.entry.Entry.{Entry}
use Rattle.racp_show.specs.declared.entry.Entry.TheVariants.{Bar}
use Rattle.racp_show.specs.declared.latest.Room.{Room}
use Rattle.racp_show.specs.declared.row.Row.{Row}
use Rattle.racp_show.specs.declared.task.Task.{Task}

-- each entry of an outline whose tasks are jobs is no task or one of the jobs
pub within_at : (jobs : ℕ) (entries : List Entry) (lines : List Line) (i : ℕ) (entry : Entry) → map line_of entries ≡ lines → All (IsWithin jobs) lines →
    i < length entries → entry ≡ get_or entries i entry → IsWithin jobs (line_of entry)
within_at jobs entries lines i entry are within inside is =
    let here : All (IsWithin jobs) (map line_of entries) = subst (All (IsWithin jobs)) (sym are) within in
    subst (IsWithin jobs) (get_or-map line_of entries i entry (line_of entry) inside ∙ ap line_of (sym is))
    (All-get_or (IsWithin jobs) (map line_of entries) i (line_of entry) (omega (arith, length-map entries line_of, inside)) here)

-- one more row
pub shown_more : (rows new : List Row) (row : Row) (entries : List Entry) (i : ℕ) (entry : Entry) → i < length entries → entry ≡ get_or entries i entry →
    new ≡ rows ++ row ∷ [] → shown row ≡ line_of entry → map shown rows ≡ map line_of (take i entries) → map shown new ≡ map line_of (take (i + 1) entries)
shown_more rows new row entries i entry inside is grown same so_far =
    ap (map shown) grown ∙ (map-append shown rows (row ∷ []) ∙ (ap₂ (λ (xs : List Line) (x : Line). xs ++ x ∷ []) so_far (same ∙ ap line_of is)
    ∙ sym (map_more line_of entries i entry inside)))

-- all rows
pub shown_all : (rows : List Row) (entries : List Entry) (lines : List Line) (i : ℕ) → length entries ≤ i → map line_of entries ≡ lines →
    map shown rows ≡ map line_of (take i entries) → map shown rows ≡ lines
shown_all rows entries lines i all are so_far = so_far ∙ (ap (map line_of) (take_all i entries all) ∙ are)

-- an entry of a task has the number of a job
pub number_of : (jobs depth job : ℕ) (entry : Entry) → entry ≡ Bar depth job → IsWithin jobs (line_of entry) → IsNumber jobs job
number_of jobs depth job entry is within = subst (λ (e : Entry). IsWithin jobs (line_of e)) is within

-- its row shows it
pub bar_shown : (jobs depth job number : ℕ) (entry : Entry) → entry ≡ Bar depth job → IsWithin jobs (line_of entry) → number ≡ (job - 1) + 1 → TaskLine depth number ≡ line_of entry
bar_shown jobs depth job number entry is within numbered =
    let same : number ≡ job = omega (arith, numbered, (number_of jobs depth job entry is within).0) in
    ap (TaskLine depth) same ∙ sym (ap line_of is)

-- and tells what is right of it
pub bar_right : (p : Project) (starts : List ℕ) (room : Room) (names : List (List ℕ)) (tasks i : ℕ) (task : Task) → IsTask p starts room names tasks i task →
    IsTask p starts room names tasks (place task.job) task
bar_right p starts room names tasks i task right =
    let same : i ≡ place task.job = omega (arith, right.numbered) in
    subst (λ (j : ℕ). IsTask p starts room names tasks j task) same right
