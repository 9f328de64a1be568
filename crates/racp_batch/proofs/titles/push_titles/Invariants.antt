use Rattle.std.proofs.Common.{◌≡◌, ◌++◌, drop, map}
use Rattle.csv.specs.Records.{fields_of}
use Rattle.racp_batch.proofs.titles.push_titles.Given as goal

abbrev pub invariant-loop-title : goal.invariant-loop-title
invariant-loop-title l = fields_of l.fields ++ map (λ title. title.now) (drop l.title-index l.titles) ≡ fields_of l.initial.fields ++ map (λ title. title.now) l.titles
