-- What a thread keeps of its own records, and how many records so much memory holds.
use Rattle.std.specs.Prelude.{◌≡◌, ◌⊎◌, ℕ, ◌+◌, ◌*◌, ◌/◌, ◌<◌, ◌≤◌, List, [], ◌∷◌, ◌++◌, length, slice_set, take, Option, Some, None}
use Rattle.racp_model.specs.Project.{Project}
use Rattle.racp_cutset.specs.Covering.{SearchNode}

-- the records that a thread keeps, and how many it keeps at most
pub record Kept : Type 0 where
  pub records : List SearchNode
  pub most : ℕ

-- how many numbers of 32 bits a record takes, about, with its place in an index: two for each job, one for each
-- resource, and about 100 others
abbrev pub record_numbers : Project → ℕ
record_numbers p = 2 * length p.jobs + p.resources + 100

-- how many records a thread keeps at most that has this many mebibytes for them; one has 262,144 such numbers
abbrev pub most_records : Project → ℕ → ℕ
most_records p mebibytes = mebibytes * 262144 / record_numbers p

-- Of this many mebibytes, the records that workers share have one half, and those that they keep of their own the other,
-- in equal parts. A shared record has a place, about 30 numbers, in the index of each worker.
abbrev pub most_shared : Project → ℕ → ℕ → ℕ
most_shared p mebibytes workers = mebibytes * 131072 / (record_numbers p + 30 * workers)

abbrev pub most_own : Project → ℕ → ℕ → ℕ
most_own p mebibytes workers = mebibytes * 131072 / (record_numbers p * workers)

-- the most records that a board takes, and that each own part keeps, if this many workers have this many mebibytes
pub record AreShares (p : Project) (mebibytes workers shared own : ℕ) : Type 0 where
  pub of_board : shared ≡ most_shared p mebibytes workers
  pub of_each : own ≡ most_own p mebibytes workers

-- the first this many records are kept
abbrev pub front : ℕ → Kept → Kept
front count kept = record { records = take count kept.records; most = kept.most }

-- what was kept stays kept, and new records come after it
abbrev pub StayKept : Kept → Kept → Type 0
StayKept old new = (more : List SearchNode) × (new ≡ record { records = old.records ++ more; most = old.most })

-- a record takes the place of one that is not among the first
pub record TakesPlace (first : ℕ) (old : Kept) (last : SearchNode) (new : Kept) : Type 0 where
  pub place : ℕ
  pub behind : first ≤ place
  pub within : place < length old.records
  pub written : new ≡ record { records = slice_set old.records place last; most = old.most }

-- a record is kept after the others, or dropped
abbrev pub IsAppendedOrDropped : Kept → SearchNode → Kept → Type 0
IsAppendedOrDropped old last new =
    (new ≡ record { records = old.records ++ last ∷ []; most = old.most }) ⊎ (new ≡ old)

-- a record is kept after the others, or takes such a place, or is dropped if there is no room
abbrev pub IsKeptOrDropped : ℕ → Kept → SearchNode → Kept → Type 0
IsKeptOrDropped first old last new =
    (new ≡ record { records = old.records ++ last ∷ []; most = old.most }) ⊎
    (TakesPlace first old last new ⊎ (new ≡ old))

-- the last record is taken out, or there is none
abbrev pub IsLastTaken : Kept → Option SearchNode → Kept → Type 0
IsLastTaken old (Some last) new = (old.records ≡ new.records ++ last ∷ []) × (new.most ≡ old.most)
IsLastTaken old None new = (old.records ≡ []) × (new ≡ old)
