-- An input that is read piece after piece.
use Rattle.std.proofs.Common.{◌≡◌, ℕ, ◌+◌, ◌<◌, ◌≤◌, List, [], ◌++◌, Option, Ok, Err, Bool, true, false, length, All, sym, arith, length-append, append-nil}
use Rattle.std.specs.Io.KnownBytes.{Consumes, IsAtEnd}
use Rattle.std.proofs.KnownBytes.{Consumes-trans}
use Rattle.racp_streams.specs.Streams.{IsInput, IsBeginning, IsReadUntil, input_limit}
use Rattle.racp_streams.specs.Pieces.{IsPieceRead}
use Rattle.racp_streams.specs.declared.fault.StreamFault.{StreamFault}
use Rattle.racp_streams.specs.declared.fault.StreamFault.TheVariants.{Read, Write, TooLong, Memory}

-- this much is read so far
pub record IsReadSoFar (unread left : Option (List ℕ)) (input : List ℕ) : Type 0 where
  pub taken : Consumes unread left input
  pub within : length input ≤ input_limit + 1

-- the reader was at its end
pub ends_reading : (unread now left : Option (List ℕ)) (input new : List ℕ) → IsReadSoFar unread now input → Consumes now left [] → IsAtEnd left → new ≡ input → length input ≤ input_limit → All (λ byte. byte < 256) new → IsInput unread left new
ends_reading unread now left input new r p end same fits bytes = record {
  bytes = bytes;
  taken = rw (same, sym (append-nil input)) (Consumes-trans unread now left input [] r.taken p);
  none_left = end;
  within = rw same fits;
}

-- reading stopped in a read that gave this piece
pub stops_reading : (unread now left : Option (List ℕ)) (input piece : List ℕ) (most : ℕ) → IsReadSoFar unread now input → Consumes now left piece → length input + length piece ≤ most → IsBeginning unread left most
stops_reading unread now left input piece most r p fits =
    (input ++ piece, Consumes-trans unread now left input piece r.taken p, rw (length-append input piece) fits)

-- reading stopped in a read that failed
pub stops_in_read : (unread now left : Option (List ℕ)) (room : ℕ) (input new : List ℕ) (fault : StreamFault) → IsReadSoFar unread now input → length input ≤ input_limit → length input + room ≤ input_limit + 1
    → IsPieceRead now left room input new (Err fault) → IsReadUntil unread left fault
stops_in_read unread now left room input new Read r fits room_fits p = stops_reading unread now left input [] input_limit r p (omega arith)
stops_in_read unread now left room input new Write r fits room_fits p = absurd p
stops_in_read unread now left room input new TooLong r fits room_fits p = absurd p
stops_in_read unread now left room input new Memory r fits room_fits p = stops_reading unread now left input p.0 (input_limit + 1) r p.1 (omega (arith, p.2))

-- the reader was at its end in a read
pub ends_in_read : (unread now left : Option (List ℕ)) (room : ℕ) (input new : List ℕ) (more : Bool) → IsReadSoFar unread now input → length input ≤ input_limit → more ≡ false
    → IsPieceRead now left room input new (Ok more) → All (λ byte. byte < 256) new → IsInput unread left new
ends_in_read unread now left room input new true r fits ended p bytes = cc
ends_in_read unread now left room input new false r fits ended p bytes = ends_reading unread now left input new r p.0 p.1 p.2 fits bytes
