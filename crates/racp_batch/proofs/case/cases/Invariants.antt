use Rattle.std.proofs.Common.{◌≡◌, ◌++◌, drop}
use Rattle.racp_batch.specs.Listing.{cases_of}
use Rattle.racp_batch.proofs.case.cases.Given as goal

abbrev pub invariant-loop-file : goal.invariant-loop-file
invariant-loop-file l = l.cases.items ++ cases_of (drop l.file-index l.files) l.multiples l.price ≡ cases_of l.files l.multiples l.price
