-- The cases of a batch, in their order.
use Rattle.std.specs.Prelude.{ℕ, List, flat_map, map}
use Rattle.racp_batch.specs.Cases.{Matter}
use Rattle.racp_batch.specs.declared.case.File.{File}
use Rattle.racp_batch.specs.declared.case.Multiple.{Multiple}

-- a file with a factor and a price
abbrev pub case_of : File → ℕ → Multiple → Matter
case_of file price multiple = record {
  name = file.name.now;
  input = file.input;
  word = multiple.word.now;
  factor = multiple.factor;
  price = price;
}

-- each file with each factor: file by file, and for each the factors in their order
abbrev pub cases_of : List File → List Multiple → ℕ → List Matter
cases_of files multiples price = flat_map (λ file. map (case_of file price) multiples) files
