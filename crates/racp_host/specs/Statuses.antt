-- The status that tells why no answer is written.
use Rattle.std.specs.Prelude.{◌≡◌, ◌⊎◌, ℕ}
use Rattle.clap.specs.Words.{kind_of}
use Rattle.clap.specs.declared.error.kind.ErrorKind.{ErrorKind}
use Rattle.clap.specs.declared.error.kind.ErrorKind.TheVariants.{DisplayHelp, DisplayVersion, OutOfMemory}
use Rattle.racp_streams.specs.Streams.{fault_status}
use Rattle.racp_streams.specs.declared.fault.StreamFault.{StreamFault}
use Rattle.racp_streams.specs.declared.fault.StreamFault.TheVariants.{Read, Write, TooLong, Memory}
use Rattle.racp_host.specs.declared.failure.Failure.{Failure}
use Rattle.racp_host.specs.declared.failure.Failure.TheVariants.{Words, NotText, Option as OptionIs, Value, Stream, Unread, Told, Refused}

-- the status if the library of the command line stops: help and the version are written, or writing them fails; memory
-- runs out; or the words are refused
abbrev pub IsStatusOfKind : ErrorKind → ℕ → Type 0
IsStatusOfKind DisplayHelp status = (status ≡ 0) ⊎ (status ≡ fault_status Write)
IsStatusOfKind DisplayVersion status = (status ≡ 0) ⊎ (status ≡ fault_status Write)
IsStatusOfKind OutOfMemory status = status ≡ fault_status Memory
IsStatusOfKind _ status = status ≡ 2

-- the status that tells of a failure
abbrev pub IsStatusOf : Failure → ℕ → Type 0
IsStatusOf (Words error) status = IsStatusOfKind (kind_of error) status
IsStatusOf NotText status = status ≡ 2
IsStatusOf (OptionIs fault) status = status ≡ 2
IsStatusOf (Value words) status = status ≡ 2
IsStatusOf (Stream fault) status = status ≡ fault_status fault
IsStatusOf Unread status = status ≡ 7
IsStatusOf (Told fault words) status = status ≡ fault_status fault
IsStatusOf (Refused words) status = status ≡ 5

-- how a fault of an answer is told: as it is, but that a write failed, which may be told as that nobody reads
abbrev pub IsFailureOf : StreamFault → Failure → Type 0
IsFailureOf Read failure = failure ≡ Stream Read
IsFailureOf Write failure = (failure ≡ Unread) ⊎ (failure ≡ Stream Write)
IsFailureOf TooLong failure = failure ≡ Stream TooLong
IsFailureOf Memory failure = failure ≡ Stream Memory
