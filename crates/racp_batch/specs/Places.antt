-- Rows at the places of their cases.
use Rattle.std.specs.Prelude.{◌≡◌, ℕ, List, Some, slice_get}
use Rattle.racp_batch.specs.Cases.{Matter}
use Rattle.racp_batch.specs.Rows.{IsRowOf}
use Rattle.racp_batch.specs.declared.row.Row.{Row}

-- a row, and the place of its case, from 0
pub record Placed : Type 0 where
  pub place : ℕ
  pub row : Row

-- the row is right of the case at its place
abbrev pub IsPlaced : (may_be_open : Type 0) → List Matter → Placed → Type 0
IsPlaced may_be_open cases placed = (matter : Matter) × (slice_get cases placed.place ≡ Some matter) × IsRowOf may_be_open matter placed.row
