-- Contracts of private functions: one read of a reader.
use Rattle.std.specs.Prelude.{◌≡◌, ℕ, ◌<◌, ◌≤◌, List, [], ◌++◌, length, Option, Result, Ok, Err, Bool, true, false}
use Rattle.std.specs.Io.KnownBytes.{Consumes, IsAtEnd}
use Rattle.racp_streams.specs.declared.fault.StreamFault.{StreamFault}
use Rattle.racp_streams.specs.declared.fault.StreamFault.TheVariants.{Read, Write, TooLong, Memory}

-- a piece of at most this many bytes was read to the end of the input; or the reader was at its end; or nothing was added
abbrev pub IsPieceRead : Option (List ℕ) → Option (List ℕ) → ℕ → List ℕ → List ℕ → Result Bool StreamFault → Type 0
IsPieceRead unread left room old new (Ok true) = (piece : List ℕ) × Consumes unread left piece × (new ≡ old ++ piece) ×
    (0 < length piece) × (length piece ≤ room)
IsPieceRead unread left room old new (Ok false) = Consumes unread left [] × IsAtEnd left × (new ≡ old)
IsPieceRead unread left room old new (Err Read) = Consumes unread left []
IsPieceRead unread left room old new (Err Write) = ⊥
IsPieceRead unread left room old new (Err TooLong) = ⊥
IsPieceRead unread left room old new (Err Memory) = (piece : List ℕ) × Consumes unread left piece ×
    (length piece ≤ room)
