-- The log of what happened at a desk, and the counts that it tells.
use Rattle.std.specs.Prelude.{◌≡◌, ℕ, ◌+◌, ◌-◌, ◌*◌, ◌^◌, ◌<◌, ◌≤◌, nat_lt, nat_le, Bool, true, false, if◌then◌else◌, IsTrue, List, [], ◌∷◌, ◌++◌, length, slice_index, slice_index_or, slice_set, Option, Some, None}
use Rattle.std.specs.List.{sum_by}
use Rattle.racp_desk.specs.declared.log.Cause.{Cause}
use Rattle.racp_desk.specs.declared.log.Cause.TheVariants.{Stop, Turns, Fault}
use Rattle.racp_desk.specs.declared.log.Entry.{Entry}
use Rattle.racp_desk.specs.declared.log.Entry.TheVariants.{Asked, Taken, Handed, GivenBack, Halted}

-- a piece that was taken: the seat of the worker, the place of its question, and whether it is still out
pub record TakenPiece : Type 0 where
  pub seat : ℕ
  pub index : ℕ
  pub is_out : Bool

-- what a log counts: of each question, by place, how many windows are open and how many pieces are out; the pieces that
-- were taken, by number; the place of the least yes; how many nodes were searched; and why the desk was halted
pub record Tally : Type 0 where
  pub ready : List ℕ
  pub out : List ℕ
  pub taken : List TakenPiece
  pub least : Option ℕ
  pub nodes : ℕ
  pub halt : Option Cause

-- nothing has happened
abbrev pub nothing : Tally
nothing = record { ready = []; out = []; taken = []; least = None; nodes = 0; halt = None }

-- what is read where no piece was taken
abbrev pub no_piece : TakenPiece
no_piece = record { seat = 0; index = 0; is_out = false }

-- the piece of a number, and the place of its question
abbrev pub piece_at : Tally → ℕ → TakenPiece
piece_at t number = slice_index_or t.taken number no_piece

abbrev pub place_of : Tally → ℕ → ℕ
place_of t number = (piece_at t number).index

-- whether a place stands before the least yes; the lesser of the two
abbrev pub stands_before : Option ℕ → ℕ → Bool
stands_before None i = true
stands_before (Some x) i = nat_lt i x

abbrev pub lesser_place : Option ℕ → ℕ → ℕ
lesser_place None i = i
lesser_place (Some x) i = if nat_le x i then x else i

-- how many windows open where a piece leaves so many: none at or after the least yes
abbrev pub opening : Option ℕ → ℕ → ℕ → ℕ
opening least i windows = if stands_before least i then windows else 0

-- a piece is in, after so many nodes: it is out no more, and so many windows are open in its place
abbrev pub brought_in : Tally → ℕ → ℕ → ℕ → Tally
brought_in t number windows nodes = record {
  ready = slice_set t.ready (place_of t number)
      (slice_index t.ready (place_of t number) + opening t.least (place_of t number) windows);
  out = slice_set t.out (place_of t number) (slice_index t.out (place_of t number) - 1);
  taken = slice_set t.taken number (record {
    seat = (piece_at t number).seat;
    index = place_of t number;
    is_out = false;
  });
  least = t.least;
  nodes = t.nodes + nodes;
  halt = t.halt;
}

-- the counts after an entry
abbrev pub after : Tally → Entry → Tally
after t (Asked index) = record t { ready = t.ready ++ 1 ∷ []; out = t.out ++ 0 ∷ [] }
after t (Taken seat number index) = record t {
  ready = slice_set t.ready index (slice_index t.ready index - 1);
  out = slice_set t.out index (slice_index t.out index + 1);
  taken = t.taken ++ record { seat = seat; index = index; is_out = true } ∷ [];
}
after t (Handed seat number rest false nodes) = brought_in t number rest nodes
after t (Handed seat number rest true nodes) =
    record (brought_in t number 0 nodes) { least = Some (lesser_place t.least (place_of t number)) }
after t (GivenBack seat number) = brought_in t number 1 0
after t (Halted cause) = record t { halt = Some cause }

-- the counts after some entries; those of a whole log
abbrev pub counted : Tally → List Entry → Tally
counted t [] = t
counted t (e ∷ es) = counted (after t e) es

abbrev pub tally : List Entry → Tally
tally log = counted nothing log

-- how many pieces are out
abbrev pub count_out : TakenPiece → ℕ
count_out piece = if piece.is_out then 1 else 0

abbrev pub away : Tally → ℕ
away t = sum_by count_out t.taken

-- the least question with an open window, before the least yes
pub record IsLeastReady (t : Tally) (index : ℕ) : Type 0 where
  pub asked : index < length t.ready
  pub before : IsTrue (stands_before t.least index)
  pub some : 0 < slice_index t.ready index
  pub least : (j : ℕ) → j < index → slice_index t.ready j ≡ 0

-- the piece of a number is out, and was taken by the worker at this seat
pub record IsAway (t : Tally) (seat number : ℕ) : Type 0 where
  pub given : number < length t.taken
  pub out : (piece_at t number).is_out ≡ true
  pub seated : (piece_at t number).seat ≡ seat

-- a desk may be halted for a cause: for a stop where the stop is not quiet, for turns where as many pieces were taken
abbrev pub MayHalt : ℕ → Bool → Tally → Cause → Type 0
MayHalt turns quiet t Stop = quiet ≡ false
MayHalt turns quiet t Turns = length t.taken ≡ turns
MayHalt turns quiet t Fault = Unit {0}

-- a finding with a yes leaves nothing
abbrev pub LeavesNone : Bool → ℕ → Type 0
LeavesNone true rest = rest ≡ 0
LeavesNone false rest = Unit {0}

-- an entry may follow: it is one that a collector allows whose counts are these, with so many turns and such a stop; at
-- most 1,000,000 nodes were searched of a piece, and a piece leaves less than 2^63 windows, as many as memory may hold
abbrev pub MayFollow : ℕ → Bool → Tally → Entry → Type 0
MayFollow turns quiet t (Asked index) = (index ≡ length t.ready) × (t.least ≡ None) × (t.halt ≡ None)
MayFollow turns quiet t (Taken seat number index) =
    (number ≡ length t.taken) × (length t.taken < turns) × (t.halt ≡ None) × IsLeastReady t index
MayFollow turns quiet t (Handed seat number rest found nodes) =
    IsAway t seat number × LeavesNone found rest × (nodes ≤ 1000000) × (rest < 2 ^ 63)
MayFollow turns quiet t (GivenBack seat number) = IsAway t seat number
MayFollow turns quiet t (Halted cause) = (t.halt ≡ None) × MayHalt turns quiet t cause

-- each entry may follow those before it
abbrev pub AreLegal : ℕ → Bool → Tally → List Entry → Type 0
AreLegal turns quiet t [] = Unit {0}
AreLegal turns quiet t (e ∷ es) = MayFollow turns quiet t e × AreLegal turns quiet (after t e) es

abbrev pub IsLegal : ℕ → Bool → List Entry → Type 0
IsLegal turns quiet log = AreLegal turns quiet nothing log

-- a log, and for how many entries there is room besides those that are owed
pub record Log : Type 0 where
  pub entries : List Entry
  pub room : ℕ

-- an entry is owed for the halt, until there is one
abbrev pub owed : Option Cause → ℕ
owed None = 1
owed (Some cause) = 0

-- what is kept of a log: it is legal, the counts that are held apart are those of its tally, and there is room for an
-- entry for each piece that is out and for the halt
pub record IsBook (turns : ℕ) (quiet : Bool) (log : List Entry) (pieces nodes out : ℕ) (halt : Option Cause)
    (capacity : ℕ) : Type 0 where
  pub few : turns ≤ 1000000000000
  pub legal : IsLegal turns quiet log
  pub pieces_is : length (tally log).taken ≡ pieces
  pub nodes_is : (tally log).nodes ≡ nodes
  pub out_is : away (tally log) ≡ out
  pub halt_is : (tally log).halt ≡ halt
  pub turns_left : pieces ≤ turns
  pub nodes_few : nodes + 1000000 * out ≤ 1000000 * pieces
  pub room : length log + out + owed halt ≤ capacity
