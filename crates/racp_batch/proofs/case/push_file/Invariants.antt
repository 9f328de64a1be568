use Rattle.std.proofs.Common.{◌≡◌, ◌++◌, drop, map}
use Rattle.racp_batch.specs.Listing.{case_of}
use Rattle.racp_batch.proofs.case.push_file.Given as goal

abbrev pub invariant-loop-multiple : goal.invariant-loop-multiple
invariant-loop-multiple l = l.cases.items ++ map (case_of l.file l.price) (drop l.multiple-index l.multiples) ≡ l.initial.cases.items ++ map (case_of l.file l.price) l.multiples
