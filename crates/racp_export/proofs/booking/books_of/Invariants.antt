use Rattle.std.proofs.Common.{◌≡◌, ◌<◌, ℕ, [], length, slice_index, slice_index_or}
use Rattle.racp_export.specs.Bookings.{IsBook}
use Rattle.racp_export.proofs.booking.books_of.Given as goal

abbrev pub invariant-loop-k : goal.invariant-loop-k
invariant-loop-k l = record { all : length l.books.items ≡ l.k; each : (k : ℕ) → k < l.k → IsBook l.net l.starts k (slice_index l.capacities k) (slice_index_or l.books.items k []) }
