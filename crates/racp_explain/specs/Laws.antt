-- Laws of the subjects.
use Rattle.std.specs.Prelude.{Contains}
use Rattle.racp_explain.specs.declared.subjects.TheConstants.{SUBJECTS}
use Rattle.racp_explain.specs.declared.subject.Subject.{Subject}

-- each fault of a network text, of an order and of a plan text, and each line without a number, stands in the table
abbrev pub AllAreListed : Type 0
AllAreListed = (subject : Subject) → Contains SUBJECTS subject
