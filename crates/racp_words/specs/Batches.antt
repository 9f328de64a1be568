-- What the command `batch` asks for.
use Rattle.std.specs.Prelude.{◌≡◌, List, [], Some, codes, map, option_map, true, unwrap_or}
use Rattle.clap.specs.Words.{App, Row, Rule, Text, all_of, first_of, new_app, new_rule, with_rule}
use Rattle.clap.specs.Lexer.{usize_max}
use Rattle.clap.specs.declared.builder.action.ArgAction.TheVariants.{Append}
use Rattle.racp_words.specs.Rules.{IsWorkerCount, flag_rule, lettered, number_rule, path_at, ranged_rule, text_rule}
use Rattle.racp_words.specs.declared.table_requests.BatchWords.{BatchWords}

-- one word or more
abbrev pub files_rule : Text → Rule
files_rule id = record (new_rule id) {
  required = true;
  range = Some (record { start_inclusive = 1; end_inclusive = usize_max });
  action = Some Append;
}

-- `batch NET.. --factors F,.. [--price N] [--time-limit S]`
abbrev pub batch_timed : App
batch_timed = with_rule (with_rule (with_rule (with_rule (new_app (codes "batch")) (files_rule (codes "NET")))
    (record (text_rule (codes "factors")) { required = true })) (text_rule (codes "price"))) (text_rule (codes "time-limit"))

-- `batch NET.. --factors F,.. [--price N] [--time-limit S] [--memory MIB] [-j N | --jobs N] [--out DIR] [--calendar FILE]
-- [--quiet]`
abbrev pub batch : App
batch = with_rule (with_rule (with_rule (with_rule (with_rule batch_timed (number_rule (codes "memory") 1048576))
    (lettered 106 (ranged_rule (codes "jobs") 0 64))) (text_rule (codes "out"))) (text_rule (codes "calendar")))
    (lettered 113 (flag_rule (codes "quiet")))

-- the words with this name, in their order
abbrev pub words_at : Text → List Row → List Text
words_at name words = unwrap_or (all_of name words) []

-- the words for a table of results
pub record AreBatchWords (words : List Row) (table : BatchWords) : Type 0 where
  pub nets : map (λ net. net.now) table.nets.items ≡ words_at (codes "NET") words
  pub factors : table.factors.now ≡ path_at (codes "factors") words
  pub price : option_map (λ word. word.now) table.price ≡ first_of (codes "price") words
  pub limit : option_map (λ word. word.now) table.limit ≡ first_of (codes "time-limit") words
  pub jobs : IsWorkerCount (first_of (codes "jobs") words) table.jobs
  pub out : option_map (λ word. word.now) table.out ≡ first_of (codes "out") words
