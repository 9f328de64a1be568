-- Commands that are built from a table, line by line and word by word.
use Rattle.std.proofs.Common.{◌≡◌, ◌∙◌, ◌+◌, ◌<◌, ℕ, suc, arith, List, [], ◌∷◌, ◌++◌, ap, subst, refl, length}
use Rattle.std.proofs.Math.ListN.{get_or, take}
use Rattle.std.proofs.Math.Seq.{take-suc}
use Rattle.clap.specs.Words.{App, with_rule, with_subcommand}
use Rattle.racp_words.specs.Commands.{app_of_line, rule_of_word, with_lines, with_words}
use Rattle.racp_words.specs.declared.table.Line.{Line}
use Rattle.racp_words.specs.declared.table.Word.{Word}

with_last : (app : App) (words : List Word) (word : Word) → with_words app (words ++ word ∷ []) ≡ with_rule (with_words app words) (rule_of_word word)
with_last app [] word = refl
with_last app (first ∷ words) word = with_last (with_rule app (rule_of_word first)) words word

-- one word more of the table is one rule more of the command
pub next_word : (app : App) (words : List Word) (at : ℕ) (d : Word) → at < length words →
    with_words app (take (at + 1) words) ≡ with_rule (with_words app (take at words)) (rule_of_word (get_or words at d))
next_word app words at d below =
    let next : suc at ≡ at + 1 = omega arith in
    subst (λ (n : ℕ). with_words app (take n words) ≡ with_rule (with_words app (take at words)) (rule_of_word (get_or words at d))) next
    (ap (with_words app) (take-suc words at d below) ∙ with_last app (take at words) (get_or words at d))

with_last_line : (app : App) (lines : List Line) (line : Line) → with_lines app (lines ++ line ∷ []) ≡ with_subcommand (with_lines app lines) (app_of_line line).top
with_last_line app [] line = refl
with_last_line app (first ∷ lines) line = with_last_line (with_subcommand app (app_of_line first).top) lines line

-- one line more of the table is one command more of the program
pub next_line : (app : App) (lines : List Line) (at : ℕ) (d : Line) → at < length lines →
    with_lines app (take (at + 1) lines) ≡ with_subcommand (with_lines app (take at lines)) (app_of_line (get_or lines at d)).top
next_line app lines at d below =
    let next : suc at ≡ at + 1 = omega arith in
    subst (λ (n : ℕ). with_lines app (take n lines) ≡ with_subcommand (with_lines app (take at lines)) (app_of_line (get_or lines at d)).top) next
    (ap (with_lines app) (take-suc lines at d below) ∙ with_last_line app (take at lines) (get_or lines at d))
