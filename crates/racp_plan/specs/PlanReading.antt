-- What a text is read as, for a network: the plan whose text it is, or the first line that is wrong.
use Rattle.std.specs.Prelude.{◌≡◌, ◌≢◌, ◌⊎◌, ℕ, zero, suc, ◌+◌, ◌<◌, ◌≤◌, ◌==◌, ◌&&◌, not, Bool, List, [], ◌∷◌, ◌++◌, length, slice_index, Result, Ok, Err, nat_lt, true, All, codes}
use Rattle.std.specs.Fmt.{decimal}
use Rattle.racp_model.specs.Project.{Project}
use Rattle.racp_text.specs.Numbers.{is_number, value}
use Rattle.racp_plan.specs.Texts.{line, plan_text}
use Rattle.racp_plan.specs.TextFaults.{out_of_memory, TextFault}
use Rattle.racp_plan.specs.declared.text_fault.TextFaultKind.{TextFaultKind}
use Rattle.racp_plan.specs.declared.text_fault.TextFaultKind.TheVariants.{Syntax, Range, Memory}
use Rattle.racp_plan.specs.declared.plan.Plan.{Plan}

-- the greatest time, capacity and start, and the greatest cost, that a text may say
abbrev pub most_number : ℕ
most_number = 10000000

abbrev pub most_cost : ℕ
most_cost = 1000000000000000

-- a plan has a capacity for each resource and a start for each job of a network, and its numbers may stand in a text
pub record IsReadable (network : Project) (plan : Plan) : Type 0 where
  pub resources : length plan.capacities ≡ network.resources
  pub jobs : length plan.starts ≡ length network.jobs
  pub deadline : plan.deadline ≤ most_number
  pub critical : plan.critical ≤ most_number
  pub cost : plan.cost ≤ most_cost
  pub capacities : All (λ capacity. capacity ≤ most_number) plan.capacities
  pub starts : All (λ start. start ≤ most_number) plan.starts

-- the form of a line: the words before its number, and the greatest number that may stand there
pub record Form : Type 0 where
  pub words : List ℕ
  pub most : ℕ

-- the words of a line of a resource or a job: its word, and its number
unfoldable pub words_for : List ℕ → ℕ → List ℕ
words_for word number = word ++ decimal number ++ codes " "

-- the forms of the lines of this many resources or jobs, from this one on
abbrev pub forms_for : List ℕ → ℕ → ℕ → List Form
forms_for word number zero = []
forms_for word number (suc count) =
    record { words = words_for word number; most = most_number } ∷ forms_for word (number + 1) count

-- the forms of the lines of a plan of this many resources and jobs, in order; after them comes the line `end`
abbrev pub forms : ℕ → ℕ → List Form
forms resources jobs =
    record { words = codes "deadline "; most = most_number }
    ∷ (record { words = codes "critical "; most = most_number }
    ∷ (record { words = codes "cost "; most = most_cost }
    ∷ (forms_for (codes "capacity ") 1 resources ++ forms_for (codes "start ") 1 jobs)))

-- whether a zero stands first, and not alone
abbrev pub has_zero_in_front : List ℕ → Bool
has_zero_in_front digits = nat_lt 1 (length digits) && (slice_index digits 0 == 48)

-- a number of a plan is one or more decimal digits, and a zero stands first only in `0`
abbrev pub is_decimal : List ℕ → Bool
is_decimal digits = is_number digits && not (has_zero_in_front digits)

-- a text begins with a line of these words and this number, and goes on so
pub record BeginsWithLine (words : List ℕ) (number : ℕ) (text rest : List ℕ) : Type 0 where
  pub digits : List ℕ
  pub plain : is_decimal digits ≡ true
  pub same : value digits ≡ number
  pub whole : text ≡ line (words ++ digits) ++ rest

-- what is wrong with the first line of a text, which is to be of this form
abbrev pub IsWrong : Form → List ℕ → TextFaultKind → Type 0
IsWrong form text Syntax = (number : ℕ) (rest : List ℕ) → BeginsWithLine form.words number text rest → ⊥
IsWrong form text Range =
    (number : ℕ) × (rest : List ℕ) × BeginsWithLine form.words number text rest × (form.most < number)
IsWrong form text Memory = ⊥

-- the last line, whose number is n, is wrong or missing, or something stands after it, from the next line on
abbrev pub IsWrongEnd : ℕ → List ℕ → TextFault → Type 0
IsWrongEnd n text fault =
    (fault.kind ≡ Syntax)
    × (((fault.line ≡ n) × ((rest : List ℕ) → text ≢ line (codes "end") ++ rest))
    ⊎ ((fault.line ≡ n + 1) × (rest : List ℕ) × (text ≡ line (codes "end") ++ rest) × (rest ≢ [])))

-- the first fault of a text whose lines are to be of these forms; n is the number of its first line
abbrev pub IsFirstFault : List Form → ℕ → List ℕ → TextFault → Type 0
IsFirstFault [] n text fault = IsWrongEnd n text fault
IsFirstFault (form ∷ forms) n text fault =
    ((fault.line ≡ n) × IsWrong form text fault.kind)
    ⊎ ((number : ℕ) × (rest : List ℕ) × BeginsWithLine form.words number text rest × (number ≤ form.most) ×
    IsFirstFault forms (n + 1) rest fault)

-- what a text is read as for a network: the plan whose text it is, or the first fault
abbrev pub IsPlanReading : Project → List ℕ → Result Plan TextFault → Type 0
IsPlanReading network text (Ok plan) = (text ≡ plan_text plan) × IsReadable network plan
IsPlanReading network text (Err fault) = IsFirstFault (forms network.resources (length network.jobs)) 1 text fault

-- the same, unless the text is that of a plan and memory ran out
abbrev pub IsPlanReadingOrMemory : Project → List ℕ → Result Plan TextFault → Type 0
IsPlanReadingOrMemory network text (Ok plan) = IsPlanReading network text (Ok plan)
IsPlanReadingOrMemory network text (Err fault) =
    IsPlanReading network text (Err fault)
    ⊎ ((plan : Plan) × IsPlanReading network text (Ok plan) × (fault ≡ out_of_memory))
