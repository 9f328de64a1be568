-- Which rows of a table are parts of which: by the levels of a column, or else by their ids.
use Rattle.std.specs.Prelude.{◌≡◌, ℕ, ◌+◌, ◌<◌, ◌≤◌, List, [], length, slice_index, slice_index_or, take}
use Rattle.racp_model.specs.Project.{place}
use Rattle.racp_tables.specs.declared.outline.Outline.{Outline}
use Rattle.racp_tables.specs.declared.outline.Outline.TheVariants.{ById, ByLevel}

-- the row at place k is a part of the row with a number: of the nearest above it with a lesser level; or of none, 0
pub record IsPartByLevel (levels : List ℕ) (k parent : ℕ) : Type 0 where
  pub above : parent ≤ k
  pub lesser : 0 < parent → slice_index levels (place parent) < slice_index levels k
  pub nearest : (q : ℕ) → parent ≤ q → q < k → slice_index levels k ≤ slice_index levels q

-- an id is another one, which is not empty, with a point and more behind it
pub record IsWithin (whole id : List ℕ) : Type 0 where
  pub some : 0 < length whole
  pub more : length whole + 1 < length id
  pub begin : take (length whole) id ≡ whole
  pub point : slice_index id (length whole) ≡ 46

-- the id at a place
abbrev pub id_at : List (List ℕ) → ℕ → List ℕ
id_at ids k = slice_index_or ids k []

-- the row at place k is a part of the row with a number: of the one above it with the longest id that its own is within; or
-- of none, 0, if it is within none
pub record IsPartById (ids : List (List ℕ)) (k parent : ℕ) : Type 0 where
  pub above : parent ≤ k
  pub within : 0 < parent → IsWithin (id_at ids (place parent)) (id_at ids k)
  pub longest : (q : ℕ) → q < k → IsWithin (id_at ids q) (id_at ids k) →
      (0 < parent) × (length (id_at ids q) ≤ length (id_at ids (place parent)))

-- of the rows, each by place, the number of the one that it is a part of, by levels
pub record ArePartsByLevel (levels parents : List ℕ) : Type 0 where
  pub count : length parents ≡ length levels
  pub each : (k : ℕ) → k < length levels → IsPartByLevel levels k (slice_index parents k)

-- and by ids
pub record ArePartsById (ids : List (List ℕ)) (parents : List ℕ) : Type 0 where
  pub count : length parents ≡ length ids
  pub each : (k : ℕ) → k < length ids → IsPartById ids k (slice_index parents k)

-- and by what a table tells
abbrev pub AreParts : Outline → List (List ℕ) → List ℕ → Type 0
AreParts ById ids parents = ArePartsById ids parents
AreParts (ByLevel levels) ids parents = ArePartsByLevel levels.items parents
