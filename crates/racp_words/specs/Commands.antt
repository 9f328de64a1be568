-- Contracts of private functions: the commands as they are built, from the lines of a table.
use Rattle.std.specs.Prelude.{◌≡◌, List, [], ◌∷◌, false, true}
use Rattle.clap.specs.Words.{App, Rule, app_of, new_app, new_rule, with_rule, with_subcommand}
use Rattle.clap.specs.declared.builder.command.Command.{Command}
use Rattle.clap.specs.declared.builder.command.Command.TheViews.{out-Command}
use Rattle.racp_words.specs.Batches.{files_rule}
use Rattle.racp_words.specs.Rules.{file_rule, flag_rule, lettered, number_rule, ranged_rule, text_rule}
use Rattle.racp_words.specs.declared.table.Line.{Line}
use Rattle.racp_words.specs.declared.table.Word.{Word}
use Rattle.racp_words.specs.declared.table.Word.TheVariants.{File, Files, Optional, Number, Lettered, Text, Needed, Flag, Switch}

-- the command is as said, and none of its words is one of all commands
pub record IsCommandOf (app : App) (command : Command) : Type 0 where
  pub is : app_of command ≡ app
  pub own : (out-Command command).has_globals ≡ false

-- the rule of a word
abbrev pub rule_of_word : Word → Rule
rule_of_word (File id help) = file_rule id.now
rule_of_word (Files id help) = files_rule id.now
rule_of_word (Optional id help) = new_rule id.now
rule_of_word (Number id name most help) = number_rule id.now most
rule_of_word (Lettered letter id name most help) = lettered letter (ranged_rule id.now 0 most)
rule_of_word (Text id name help) = text_rule id.now
rule_of_word (Needed id name help) = record (text_rule id.now) { required = true }
rule_of_word (Flag id help) = flag_rule id.now
rule_of_word (Switch letter id help) = lettered letter (flag_rule id.now)

-- a command with these words after its own, in this order
abbrev pub with_words : App → List Word → App
with_words app [] = app
with_words app (word ∷ words) = with_words (with_rule app (rule_of_word word)) words

-- the command of a line
abbrev pub app_of_line : Line → App
app_of_line line = with_words (new_app line.name.now) line.words.now

-- a command with those of these lines below it, in this order
abbrev pub with_lines : App → List Line → App
with_lines app [] = app
with_lines app (line ∷ lines) = with_lines (with_subcommand app (app_of_line line).top) lines
