use Rattle.racp_text.proofs.Digits.{decimal_numbers}
use Rattle.racp_text.proofs.laws.numbers_are_decimal.Goals as goal

pub returns : goal.returns
returns c = decimal_numbers
