-- The status of what a command that searches writes.
use Rattle.std.specs.Prelude.{◌≡◌, ◌⊎◌, ℕ, Bool, List, Option, Some, None, Result, Ok, Err, if◌then◌else◌}
use Rattle.racp_cli.specs.Crowds.{IsCrowdAnswer}
use Rattle.racp_cli.specs.CurveAnswers.{IsCurveCrowdAnswer}
use Rattle.racp_cli.specs.SoonestAnswers.{IsSoonestAnswer}
use Rattle.racp_cli.specs.WhatIfAnswers.{IsWhatIfAnswer}
use Rattle.racp_cli.specs.declared.curve.CurveForm.{CurveForm}
use Rattle.racp_cli.specs.Proofs.{IsProofAnswerUntil}
use Rattle.racp_cli.specs.ClauseProofs.{IsClauseProofAnswer}
use Rattle.racp_batch.specs.declared.batch.BatchFault.{BatchFault}
use Rattle.racp_batch.specs.declared.batch.Ending.{Ending}
use Rattle.racp_search_commands.specs.declared.keeping.Lack.{Lack}
use Rattle.racp_search_commands.specs.declared.keeping.Lack.TheVariants.{Memory, Thread, Write}

-- the status of a table that is written: what a row lacked, or the file of its plan, tells it, and else 0 says that each case has
-- a row, and 4 that the user wanted a stop before
abbrev pub IsStatusBy : Bool → Option Lack → ℕ → Type 0
IsStatusBy is_whole (Some Memory) status = status ≡ 6
IsStatusBy is_whole (Some Thread) status = status ≡ 7
IsStatusBy is_whole (Some Write) status = status ≡ 7
IsStatusBy is_whole None status = status ≡ (if is_whole then 0 else 4)

-- the same of a table that ended so; there is a failure where it has no end
abbrev pub IsStatusOfTable : Result Ending BatchFault → Option Lack → ℕ → Type 0
IsStatusOfTable (Ok ending) lack status = IsStatusBy ending.is_whole lack status
IsStatusOfTable (Err fault) lack status = ⊥

-- some answer of a command that searches has this status; nothing is said of which
abbrev pub IsStatusOfSearch : ℕ → Type 0
IsStatusOfSearch status =
    ((turns : ℕ) × (quiet : Bool) × (net order : List ℕ) × (text : List ℕ) ×
    IsCrowdAnswer turns quiet net order status text) ⊎
    ((quiet : Bool) × (net order : List ℕ) × (text : List ℕ) ×
    (IsProofAnswerUntil quiet net order status text ⊎ IsClauseProofAnswer net order status text)) ⊎
    ((turns : ℕ) × (quiet : Bool) × (net order : List ℕ) × (text : List ℕ) ×
    (((form : CurveForm) × IsCurveCrowdAnswer turns quiet form net order status text) ⊎
    IsSoonestAnswer turns quiet net order status text)) ⊎
    ((turns : ℕ) × (quiet is_json : Bool) × (net order : List ℕ) × (plan : Option (List ℕ)) × (names text : List ℕ) ×
    IsWhatIfAnswer turns quiet is_json net order plan names status text) ⊎
    (status ≡ 0) ⊎ (status ≡ 4) ⊎ (status ≡ 6) ⊎ (status ≡ 7)
