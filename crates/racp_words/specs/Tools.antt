-- What the commands `show`, `report`, `export`, `curve`, `soonest`, `whatif`, `order`, `batch`, `import` and `explain` ask for.
use Rattle.std.specs.Prelude.{◌≡◌, ◌≢◌, ◌&&◌, ◌||◌, Bool, ℕ, List, Option, None, codes, false, map, option_map, true, Some}
use Rattle.clap.specs.Words.{App, IsUnsignedIn, Row, Text, first_of, new_app, new_rule, with_rule}
use Rattle.racp_words.specs.Rules.{AreOrderFiles, ArePlanFiles, IsCrew, IsNumberOf, answering, by_workers, file_rule, flag_rule, is_set, lettered, number_in, number_rule, of_order, of_plan, of_workers, path_at, telling, text_rule}
use Rattle.racp_show.specs.declared.form.Form.{Form}
use Rattle.racp_show.specs.declared.form.Form.TheVariants.{Text as Blocks, Ascii, Svg, Json, Csv}
use Rattle.racp_words.specs.Batches.{AreBatchWords, files_rule, words_at}
use Rattle.racp_words.specs.declared.request.Dates.{Dates}
use Rattle.racp_words.specs.declared.request.ExportWords.{ExportWords}
use Rattle.racp_words.specs.declared.request.Look.{Look}
use Rattle.racp_words.specs.declared.request.NamedNet.{NamedNet}
use Rattle.racp_words.specs.declared.table_requests.TableWords.{TableWords}
use Rattle.racp_words.specs.declared.request.Terms.{Terms}
use Rattle.racp_words.specs.declared.request.Tool.{Tool}
use Rattle.racp_words.specs.declared.request.Tool.TheVariants.{Show, Report, Export, Curve, Soonest, WhatIf, Order, Batch, Import, Explain}

-- `show NET ORDER PLAN [--names FILE] [--width N]`
abbrev pub show_named : App
show_named = with_rule (with_rule (of_plan (codes "show")) (text_rule (codes "names"))) (number_rule (codes "width") 1000)

-- `show NET ORDER PLAN [--names FILE] [--width N] [--ascii] [--svg]`
abbrev pub show_in_letters : App
show_in_letters = with_rule (with_rule show_named (flag_rule (codes "ascii"))) (flag_rule (codes "svg"))

-- the options `[--calendar FILE] [--start-date DATE] [--workdays DAYS] [--unit UNIT]` after others
abbrev pub begun : App → App
begun app = with_rule (with_rule app (text_rule (codes "calendar"))) (text_rule (codes "start-date"))

abbrev pub dated : App → App
dated app = with_rule (with_rule (begun app) (text_rule (codes "workdays"))) (text_rule (codes "unit"))

-- `show NET ORDER PLAN [--names FILE] [--width N] [--ascii] [--svg] [--links] [--calendar FILE] [--start-date DATE]
-- [--workdays DAYS] [--unit UNIT] [--json] [--csv] [--explain] [--quiet]`
abbrev pub show : App
show = telling (with_rule (with_rule (dated (with_rule show_in_letters (flag_rule (codes "links")))) (flag_rule (codes "json")))
    (flag_rule (codes "csv")))

-- `report NET ORDER PLAN [--names FILE] [--curve FILE]`
abbrev pub report_of_curve : App
report_of_curve = with_rule (with_rule (of_plan (codes "report")) (text_rule (codes "names"))) (text_rule (codes "curve"))

-- `report NET ORDER PLAN [--names FILE] [--curve FILE] [--whatif FILE] [--proof FILE] [--calendar FILE] [--start-date DATE]
-- [--workdays DAYS] [--unit UNIT] [--explain] [--quiet]`
abbrev pub report : App
report = telling (dated (with_rule (with_rule report_of_curve (text_rule (codes "whatif"))) (text_rule (codes "proof"))))

-- `export NET ORDER PLAN --to FORMAT --calendar FILE`
abbrev pub export_to : App
export_to = with_rule (with_rule (of_plan (codes "export")) (record (text_rule (codes "to")) { required = true }))
    (record (text_rule (codes "calendar")) { required = true })

-- `export NET ORDER PLAN --to FORMAT --calendar FILE [--names FILE] [--explain] [--quiet]`
abbrev pub export : App
export = telling (with_rule export_to (text_rule (codes "names")))

-- `curve NET ORDER [-j N | --workers N] [--turns N] [--memory MIB] [--time-limit S]`
abbrev pub curve_timed : App
curve_timed = with_rule (with_rule (of_workers (codes "curve")) (number_rule (codes "memory") 1048576))
    (text_rule (codes "time-limit"))

-- `curve NET ORDER [-j N | --workers N] [--turns N] [--memory MIB] [--time-limit S] [--progress] [--best FILE]`
abbrev pub curve_kept : App
curve_kept = with_rule (with_rule curve_timed (flag_rule (codes "progress"))) (text_rule (codes "best"))

-- `curve NET ORDER [-j N | --workers N] [--turns N] [--memory MIB] [--time-limit S] [--progress] [--best FILE] [--svg]
-- [--calendar FILE] [--json] [--explain] [--quiet]`
abbrev pub curve : App
curve = answering (with_rule (with_rule curve_kept (flag_rule (codes "svg"))) (text_rule (codes "calendar")))

-- `soonest NET ORDER [-j N | --workers N] [--turns N] [--memory MIB] [--time-limit S] [--json] [--explain] [--quiet]`
abbrev pub soonest : App
soonest = answering (with_rule (with_rule (of_workers (codes "soonest")) (number_rule (codes "memory") 1048576))
    (text_rule (codes "time-limit")))

-- `whatif NET ORDER [PLAN] [--names FILE]`
abbrev pub whatif_named : App
whatif_named = with_rule (with_rule (of_order (codes "whatif")) (new_rule (codes "PLAN"))) (text_rule (codes "names"))

-- `whatif NET ORDER [PLAN] [--names FILE] [-j N | --workers N] [--turns N]`
abbrev pub whatif_of_workers : App
whatif_of_workers = by_workers whatif_named

-- `whatif NET ORDER [PLAN] [--names FILE] [-j N | --workers N] [--turns N] [--memory MIB] [--time-limit S] [--calendar FILE]
-- [--json] [--explain] [--quiet]`
abbrev pub whatif : App
whatif = answering (with_rule (with_rule (with_rule whatif_of_workers (number_rule (codes "memory") 1048576))
    (text_rule (codes "time-limit"))) (text_rule (codes "calendar")))

-- `order NET [--names FILE]`
abbrev pub order_named : App
order_named = with_rule (with_rule (new_app (codes "order")) (file_rule (codes "NET"))) (text_rule (codes "names"))

-- `order NET [--names FILE] [--factor F]`
abbrev pub order_scaled : App
order_scaled = with_rule order_named (text_rule (codes "factor"))

-- `order NET [--names FILE] [--factor F] [--deadline T] --prices N,..`
abbrev pub order_priced : App
order_priced = with_rule (with_rule order_scaled (text_rule (codes "deadline")))
    (record (text_rule (codes "prices")) { required = true })

-- `order NET [--names FILE] [--factor F] [--deadline T] --prices N,.. [--owned N,..] [--ceiling N,..] [--calendar FILE] [--json]
-- [--explain] [--quiet]`
abbrev pub order : App
order = answering (with_rule (with_rule (with_rule order_priced (text_rule (codes "owned"))) (text_rule (codes "ceiling")))
    (text_rule (codes "calendar")))

-- `import FILE.. --out PROJECT [--from FORMAT]`
abbrev pub import_from : App
import_from = with_rule (with_rule (with_rule (new_app (codes "import")) (files_rule (codes "FILE")))
    (record (text_rule (codes "out")) { required = true })) (text_rule (codes "from"))

-- `import FILE.. --out PROJECT [--from FORMAT] [--prices N,..] [--factor F] [--deadline T]`
abbrev pub import_priced : App
import_priced = with_rule (with_rule (with_rule import_from (text_rule (codes "prices"))) (text_rule (codes "factor")))
    (text_rule (codes "deadline"))

-- `import FILE.. --out PROJECT [--from FORMAT] [--prices N,..] [--factor F] [--deadline T] [--owned N,..] [--ceiling N,..]
-- [--resources A,..] [--ignore A,..]`
abbrev pub import_chosen : App
import_chosen = with_rule (with_rule (with_rule (with_rule import_priced (text_rule (codes "owned"))) (text_rule (codes "ceiling")))
    (text_rule (codes "resources"))) (text_rule (codes "ignore"))

-- the same, and `[--hours-a-day N] [--unit UNIT] [--calendar FILE] [--date-format FORMAT]`
abbrev pub import_dated : App
import_dated = with_rule (with_rule (with_rule (with_rule import_chosen (number_rule (codes "hours-a-day") 24))
    (text_rule (codes "unit"))) (text_rule (codes "calendar"))) (text_rule (codes "date-format"))

-- the same, and `[--strict] [--force] [-q | --quiet]`
abbrev pub import_table : App
import_table = with_rule (with_rule (with_rule import_dated (flag_rule (codes "strict"))) (flag_rule (codes "force")))
    (lettered 113 (flag_rule (codes "quiet")))

-- `explain [FORMAT] [FAULT]`
abbrev pub explain : App
explain = with_rule (with_rule (new_app (codes "explain")) (new_rule (codes "FORMAT"))) (new_rule (codes "FAULT"))

-- the first of the flags `--svg`, `--json`, `--csv` and `--ascii` that is given says what is written
abbrev pub IsForm : List Row → Form → Type 0
IsForm words Svg = is_set (codes "svg") words ≡ true
IsForm words Json = (is_set (codes "svg") words ≡ false) × (is_set (codes "json") words ≡ true)
IsForm words Csv =
    (is_set (codes "svg") words ≡ false) × (is_set (codes "json") words ≡ false) × (is_set (codes "csv") words ≡ true)
IsForm words Ascii =
    (is_set (codes "svg") words ≡ false) × (is_set (codes "json") words ≡ false) × (is_set (codes "csv") words ≡ false) ×
    (is_set (codes "ascii") words ≡ true)
IsForm words Blocks =
    (is_set (codes "svg") words ≡ false) × (is_set (codes "json") words ≡ false) × (is_set (codes "csv") words ≡ false) ×
    (is_set (codes "ascii") words ≡ false)

-- more than one of the flags that say what is written
abbrev pub are_several : List Row → Bool
are_several words =
    (is_set (codes "svg") words && (is_set (codes "json") words || (is_set (codes "csv") words || is_set (codes "ascii") words))) ||
    ((is_set (codes "json") words && (is_set (codes "csv") words || is_set (codes "ascii") words)) ||
    (is_set (codes "csv") words && is_set (codes "ascii") words))

-- no number of columns without a word, and else that of the word
abbrev pub IsWidth : Option Text → Option ℕ → Type 0
IsWidth None width = width ≡ None
IsWidth (Some word) width = IsUnsignedIn 1 1000 word → width ≡ Some (number_in word)

-- the words say that times are told in this way
pub record AreDates (words : List Row) (dates : Dates) : Type 0 where
  pub calendar : option_map (λ word. word.now) dates.calendar ≡ first_of (codes "calendar") words
  pub start : option_map (λ word. word.now) dates.start ≡ first_of (codes "start-date") words
  pub workdays : option_map (λ word. word.now) dates.workdays ≡ first_of (codes "workdays") words
  pub unit : option_map (λ word. word.now) dates.unit ≡ first_of (codes "unit") words

-- the words say that a plan is shown in this way
pub record IsLook (words : List Row) (look : Look) : Type 0 where
  pub names : option_map (λ word. word.now) look.names ≡ first_of (codes "names") words
  pub width : IsWidth (first_of (codes "width") words) look.width
  pub form : IsForm words look.form
  pub several : look.are_several ≡ are_several words
  pub links : look.has_links ≡ is_set (codes "links") words
  pub dates : AreDates words look.dates

-- the words for a plan that is written for other programs
pub record AreExportWords (words : List Row) (export : ExportWords) : Type 0 where
  pub to : export.to.now ≡ path_at (codes "to") words
  pub calendar : export.calendar.now ≡ path_at (codes "calendar") words
  pub names : option_map (λ word. word.now) export.names ≡ first_of (codes "names") words

-- the words for the files of a network and of names
pub record IsNamedNet (words : List Row) (files : NamedNet) : Type 0 where
  pub net : files.net.now ≡ path_at (codes "NET") words
  pub names : option_map (λ word. word.now) files.names ≡ first_of (codes "names") words

-- the words for the terms of an order
pub record AreTerms (words : List Row) (terms : Terms) : Type 0 where
  pub factor : option_map (λ word. word.now) terms.factor ≡ first_of (codes "factor") words
  pub deadline : option_map (λ word. word.now) terms.deadline ≡ first_of (codes "deadline") words
  pub calendar : option_map (λ word. word.now) terms.calendar ≡ first_of (codes "calendar") words
  pub prices : terms.prices.now ≡ path_at (codes "prices") words
  pub owned : option_map (λ word. word.now) terms.owned ≡ first_of (codes "owned") words
  pub ceiling : option_map (λ word. word.now) terms.ceiling ≡ first_of (codes "ceiling") words

-- the words for tables of tasks
pub record AreTableWords (words : List Row) (table : TableWords) : Type 0 where
  pub files : map (λ file. file.now) table.files.items ≡ words_at (codes "FILE") words
  pub out : table.out.now ≡ path_at (codes "out") words
  pub from : option_map (λ word. word.now) table.from ≡ first_of (codes "from") words
  pub prices : option_map (λ word. word.now) table.prices ≡ first_of (codes "prices") words
  pub factor : option_map (λ word. word.now) table.factor ≡ first_of (codes "factor") words
  pub deadline : option_map (λ word. word.now) table.deadline ≡ first_of (codes "deadline") words
  pub owned : option_map (λ word. word.now) table.owned ≡ first_of (codes "owned") words
  pub ceiling : option_map (λ word. word.now) table.ceiling ≡ first_of (codes "ceiling") words
  pub resources : option_map (λ word. word.now) table.resources ≡ first_of (codes "resources") words
  pub ignored : option_map (λ word. word.now) table.ignored ≡ first_of (codes "ignore") words
  pub hours_a_day : option_map (λ word. word.now) table.hours_a_day ≡ first_of (codes "hours-a-day") words
  pub unit : option_map (λ word. word.now) table.unit ≡ first_of (codes "unit") words
  pub calendar : option_map (λ word. word.now) table.calendar ≡ first_of (codes "calendar") words
  pub date_format : option_map (λ word. word.now) table.date_format ≡ first_of (codes "date-format") words
  pub is_strict : table.is_strict ≡ is_set (codes "strict") words
  pub is_forced : table.is_forced ≡ is_set (codes "force") words

-- the command with these words asks for this
abbrev pub IsToolOf : Text × List Row → Tool → Type 0
IsToolOf command (Show files look) =
    (command.0 ≡ codes "show") × ArePlanFiles command.1 files × IsLook command.1 look
IsToolOf command (Report files options) =
    (command.0 ≡ codes "report") × ArePlanFiles command.1 files ×
    (option_map (λ word. word.now) options.names ≡ first_of (codes "names") command.1) ×
    (option_map (λ word. word.now) options.curve ≡ first_of (codes "curve") command.1) ×
    (option_map (λ word. word.now) options.changes ≡ first_of (codes "whatif") command.1) ×
    (option_map (λ word. word.now) options.proof ≡ first_of (codes "proof") command.1) ×
    AreDates command.1 options.dates
IsToolOf command (Export files options) =
    (command.0 ≡ codes "export") × ArePlanFiles command.1 files × AreExportWords command.1 options
IsToolOf command (Curve files memory crew is_drawn) =
    (command.0 ≡ codes "curve") × AreOrderFiles command.1 files ×
    IsNumberOf 1048576 1024 (first_of (codes "memory") command.1) memory.mebibytes ×
    IsCrew command.1 crew × (is_drawn ≡ is_set (codes "svg") command.1)
IsToolOf command (Soonest files memory crew) =
    (command.0 ≡ codes "soonest") × AreOrderFiles command.1 files ×
    IsNumberOf 1048576 1024 (first_of (codes "memory") command.1) memory.mebibytes × IsCrew command.1 crew
IsToolOf command (WhatIf files options memory crew) =
    (command.0 ≡ codes "whatif") × AreOrderFiles command.1 files ×
    (option_map (λ word. word.now) options.plan ≡ first_of (codes "PLAN") command.1) ×
    (option_map (λ word. word.now) options.names ≡ first_of (codes "names") command.1) ×
    IsNumberOf 1048576 1024 (first_of (codes "memory") command.1) memory.mebibytes ×
    IsCrew command.1 crew
IsToolOf command (Order files terms) =
    (command.0 ≡ codes "order") × IsNamedNet command.1 files × AreTerms command.1 terms
IsToolOf command (Batch table memory) = (command.0 ≡ codes "batch") × AreBatchWords command.1 table ×
    IsNumberOf 1048576 1024 (first_of (codes "memory") command.1) memory.mebibytes
IsToolOf command (Import table) = (command.0 ≡ codes "import") × AreTableWords command.1 table
IsToolOf command (Explain format fault) =
    (command.0 ≡ codes "explain") × (option_map (λ word. word.now) format ≡ first_of (codes "FORMAT") command.1) ×
    (option_map (λ word. word.now) fault ≡ first_of (codes "FAULT") command.1)

-- a command of another name
pub record IsNoTool (name : Text) : Type 0 where
  pub no_show : name ≢ codes "show"
  pub no_report : name ≢ codes "report"
  pub no_export : name ≢ codes "export"
  pub no_curve : name ≢ codes "curve"
  pub no_soonest : name ≢ codes "soonest"
  pub no_whatif : name ≢ codes "whatif"
  pub no_order : name ≢ codes "order"
  pub no_batch : name ≢ codes "batch"
  pub no_import : name ≢ codes "import"
  pub no_explain : name ≢ codes "explain"
