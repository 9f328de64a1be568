-- The rules of words, and what is found of them.
use Rattle.std.specs.Prelude.{◌≡◌, ◌||◌, Bool, ℕ, List, [], Option, Some, None, codes, false, true}
use Rattle.std.specs.Prelude.{is_some, option_map, unwrap_or}
use Rattle.std.specs.Option.{option_map_or}
use Rattle.std.specs.Str.{bytes_eq}
use Rattle.std.specs.Str.Parse.{digits_value, without_leading_plus}
use Rattle.clap.specs.Words.{App, IsUnsignedIn, Row, Rule, Text, first_of, new_app, new_rule, with_rule}
use Rattle.clap.specs.declared.builder.action.ArgAction.TheVariants.{SetTrue}
use Rattle.clap.specs.declared.builder.value_parser.ValueParser.TheVariants.{Unsigned}
use Rattle.racp_words.specs.declared.request.BoundFiles.{BoundFiles}
use Rattle.racp_words.specs.declared.request.CrewOptions.{CrewOptions}
use Rattle.racp_words.specs.declared.request.OrderFiles.{OrderFiles}
use Rattle.racp_words.specs.declared.request.PlanFiles.{PlanFiles}
use Rattle.racp_words.specs.declared.request.ProofFiles.{ProofFiles}

-- a word that has to be there
abbrev pub file_rule : Text → Rule
file_rule id = record (new_rule id) { required = true }

-- `--ID N`, where N is a number from `least` to `most`
abbrev pub ranged_rule : Text → ℕ → ℕ → Rule
ranged_rule id least most = record (new_rule id) { long = Some id; parser = Some (Unsigned least most); value_names = 1 }

-- `--ID N`, where N is a number from 1 to `most`
abbrev pub number_rule : Text → ℕ → Rule
number_rule id most = ranged_rule id 1 most

-- an option that this letter names too
abbrev pub lettered : ℕ → Rule → Rule
lettered letter rule = record rule { short = Some letter }

-- `--ID`
abbrev pub flag_rule : Text → Rule
flag_rule id = record (new_rule id) { long = Some id; action = Some SetTrue }

-- `--ID TEXT`
abbrev pub text_rule : Text → Rule
text_rule id = record (new_rule id) { long = Some id; value_names = 1 }

-- a command with this name, `NET ORDER`
abbrev pub of_order : Text → App
of_order name = with_rule (with_rule (new_app name) (file_rule (codes "NET"))) (file_rule (codes "ORDER"))

-- a command whose plans workers make, `.. [-j N | --workers N] [--turns N]`
abbrev pub by_workers : App → App
by_workers app = with_rule (with_rule app (lettered 106 (ranged_rule (codes "workers") 0 64)))
    (number_rule (codes "turns") 1000000000000)

-- a command with this name, `NET ORDER [-j N | --workers N] [--turns N]`
abbrev pub of_workers : Text → App
of_workers name = by_workers (of_order name)

-- a command that reads files, `.. [-v | --explain] [-q | --quiet]`
abbrev pub telling : App → App
telling app = with_rule (with_rule app (lettered 118 (flag_rule (codes "explain")))) (lettered 113 (flag_rule (codes "quiet")))

-- a command whose answer may be written as JSON, `.. [--json] [--explain] [--quiet]`
abbrev pub answering : App → App
answering app = telling (with_rule app (flag_rule (codes "json")))

-- a command with this name, `NET ORDER PLAN`
abbrev pub of_plan : Text → App
of_plan name = with_rule (of_order name) (file_rule (codes "PLAN"))

-- the path that the word with this name gives
abbrev pub path_at : Text → List Row → Text
path_at name words = unwrap_or (first_of name words) []

-- the flag with this name is given
abbrev pub is_set : Text → List Row → Bool
is_set name words = option_map_or (λ text. bytes_eq text (codes "true")) (first_of name words) false

-- the number that a word of digits writes
abbrev pub number_in : Text → ℕ
number_in word = digits_value 10 (without_leading_plus word)

-- The number of an option is the one that its word writes, from 1 to `most` by the option's rule; without a word it is
-- `otherwise`.
abbrev pub IsNumberOf : ℕ → ℕ → Option Text → ℕ → Type 0
IsNumberOf most otherwise None number = number ≡ otherwise
IsNumberOf most otherwise (Some word) number = IsUnsignedIn 1 most word → number ≡ number_in word

-- as many workers as their word says, from 0 to 64; 1 without a word
abbrev pub IsWorkerCount : Option Text → ℕ → Type 0
IsWorkerCount None count = count ≡ 1
IsWorkerCount (Some word) count = IsUnsignedIn 0 64 word → count ≡ number_in word

-- an option that is about workers is given
abbrev pub has_crew_option : List Row → Bool
has_crew_option words =
    is_some (first_of (codes "workers") words) ||
    (is_some (first_of (codes "turns") words) ||
    (is_set (codes "stats") words ||
    (is_some (first_of (codes "time-limit") words) ||
    (is_set (codes "progress") words || is_some (first_of (codes "best") words)))))

-- these workers are asked for; or none, and so one thread
abbrev pub IsCrew : List Row → Option CrewOptions → Type 0
IsCrew words None = has_crew_option words ≡ false
IsCrew words (Some crew) = (has_crew_option words ≡ true) ×
    IsWorkerCount (first_of (codes "workers") words) crew.workers ×
    IsNumberOf 1000000000000 1000000000000 (first_of (codes "turns") words) crew.turns ×
    (option_map (λ word. word.now) crew.time_limit ≡ first_of (codes "time-limit") words) ×
    (crew.stats ≡ is_set (codes "stats") words) × (crew.progress ≡ is_set (codes "progress") words) ×
    (option_map (λ word. word.now) crew.best ≡ first_of (codes "best") words)

-- the files with the paths of the words for a network and an order
pub record AreOrderFiles (words : List Row) (files : OrderFiles) : Type 0 where
  pub net : files.net.now ≡ path_at (codes "NET") words
  pub order : files.order.now ≡ path_at (codes "ORDER") words

-- the files with the paths of the words for a network, an order and a plan
pub record ArePlanFiles (words : List Row) (files : PlanFiles) : Type 0 where
  pub net : files.net.now ≡ path_at (codes "NET") words
  pub order : files.order.now ≡ path_at (codes "ORDER") words
  pub plan : files.plan.now ≡ path_at (codes "PLAN") words

-- the files with the paths of the words for a network, an order, a plan and a certificate, which is given
pub record AreProofFiles (words : List Row) (files : ProofFiles) : Type 0 where
  pub net : files.net.now ≡ path_at (codes "NET") words
  pub order : files.order.now ≡ path_at (codes "ORDER") words
  pub plan : files.plan.now ≡ path_at (codes "PLAN") words
  pub proof : first_of (codes "PROOF") words ≡ Some files.proof.now

-- the files with the paths of the words for a network, an order and a certificate of a bound, which has the place of a plan
-- where no certificate stands behind it
pub record AreBoundFiles (words : List Row) (files : BoundFiles) : Type 0 where
  pub net : files.net.now ≡ path_at (codes "NET") words
  pub order : files.order.now ≡ path_at (codes "ORDER") words
  pub proof : files.proof.now ≡ path_at (codes "PLAN") words
  pub alone : first_of (codes "PROOF") words ≡ None
