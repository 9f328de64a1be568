-- The words that the program takes, and what they ask for.
use Rattle.std.specs.Prelude.{◌≡◌, ◌≢◌, ◌⊎◌, Bool, ℕ, List, [], ◌∷◌, Option, Some, None, codes, false, true}
use Rattle.std.specs.Prelude.{if◌then◌else◌, option_map}
use Rattle.clap.specs.Words.{App, IsUnsignedIn, Row, Text, first_of, new_app, new_rule, subcommand_of, with_rule}
use Rattle.clap.specs.Words.{with_subcommand}
use Rattle.racp_words.specs.Rules.{AreBoundFiles, AreOrderFiles, ArePlanFiles, AreProofFiles, IsCrew, IsNumberOf, answering, flag_rule, is_set, number_rule, of_order, of_plan, of_workers, telling, text_rule}
use Rattle.racp_words.specs.Batches.{batch}
use Rattle.racp_words.specs.Tools.{IsNoTool, IsToolOf, curve, explain, export, import_table, report, show, soonest, order as order_app, whatif}
use Rattle.racp_words.specs.declared.request.CrewOptions.{CrewOptions}
use Rattle.racp_words.specs.declared.request.Request.{Request}
use Rattle.racp_words.specs.declared.request.Request.TheVariants.{Cpm, Plan, Prove, Check, Verify, VerifyBound, Tool}
use Rattle.racp_words.specs.declared.request.Source.{Source}
use Rattle.racp_words.specs.declared.request.Source.TheVariants.{StandardInput, File}
use Rattle.racp_words.specs.declared.request.Task.{Task}
use Rattle.racp_words.specs.declared.request.Telling.{Telling}
use Rattle.racp_words.specs.declared.request.Telling.TheVariants.{Quiet, Line, Whole}

-- `cpm [NET] [--json] [--explain] [--quiet]`
abbrev pub cpm : App
cpm = answering (with_rule (new_app (codes "cpm")) (new_rule (codes "NET")))

-- `plan NET ORDER [-j N | --workers N] [--turns N]`
abbrev pub plan_of_workers : App
plan_of_workers = of_workers (codes "plan")

-- `plan NET ORDER [-j N | --workers N] [--turns N] [--stats] [--memory MIB]`
abbrev pub plan_within : App
plan_within = with_rule (with_rule plan_of_workers (flag_rule (codes "stats"))) (number_rule (codes "memory") 1048576)

-- `plan NET ORDER [-j N | --workers N] [--turns N] [--stats] [--memory MIB] [--time-limit S] [--progress]`
abbrev pub plan_timed : App
plan_timed = with_rule (with_rule plan_within (text_rule (codes "time-limit"))) (flag_rule (codes "progress"))

-- `plan NET ORDER [-j N | --workers N] [--turns N] [--stats] [--memory MIB] [--time-limit S] [--progress] [--best FILE]
-- [--calendar FILE] [--json] [--explain] [--quiet]`
abbrev pub plan : App
plan = answering (with_rule (with_rule plan_timed (text_rule (codes "best"))) (text_rule (codes "calendar")))

-- `prove NET ORDER [--facts] [--time-limit S] [--explain] [--quiet]`
abbrev pub prove : App
prove = telling (with_rule (with_rule (of_order (codes "prove")) (flag_rule (codes "facts")))
    (text_rule (codes "time-limit")))

-- `check NET ORDER PLAN [--json] [--explain] [--quiet]`
abbrev pub check : App
check = answering (of_plan (codes "check"))

-- `verify NET ORDER PLAN [PROOF] [--time-limit S] [--json] [--explain] [--quiet]`
abbrev pub verify : App
verify = answering (with_rule (with_rule (of_plan (codes "verify")) (new_rule (codes "PROOF")))
    (text_rule (codes "time-limit")))

-- a program that tells its version, in short and in long
abbrev pub with_version : App → App
with_version a = record a { top = record a.top { has_version = true; has_long_version = true } }

-- `racp [cpm [NET] [OPTIONS] | plan NET ORDER [OPTIONS]]`
abbrev pub racp_planning : App
racp_planning = with_subcommand (with_subcommand (with_version (new_app (codes "racp"))) cpm.top) plan.top

-- `racp [.. | prove NET ORDER [OPTIONS] | check NET ORDER PLAN [OPTIONS] | verify NET ORDER PLAN [PROOF] [OPTIONS]]`
abbrev pub racp_checking : App
racp_checking = with_subcommand (with_subcommand (with_subcommand racp_planning prove.top) check.top) verify.top

-- `racp [.. | show NET ORDER PLAN [OPTIONS] | report NET ORDER PLAN [OPTIONS] | export NET ORDER PLAN OPTIONS | curve NET ORDER
-- [OPTIONS]]`
abbrev pub racp_charting : App
racp_charting =
    with_subcommand (with_subcommand (with_subcommand (with_subcommand racp_checking show.top) report.top) export.top) curve.top

-- `racp [.. | soonest NET ORDER [OPTIONS] | whatif NET ORDER [PLAN] [OPTIONS] | order NET OPTIONS]`
abbrev pub racp_asking : App
racp_asking = with_subcommand (with_subcommand (with_subcommand racp_charting soonest.top) whatif.top) order_app.top

-- `racp [.. | batch NET.. OPTIONS | import FILE OPTIONS | explain [FORMAT] [FAULT]]`
unfoldable pub racp : App
racp = with_subcommand (with_subcommand (with_subcommand racp_asking batch.top) import_table.top) explain.top

-- standard input if no word names a file, or `-` does; else the file of this path
abbrev pub IsSource : Option Text → Source → Type 0
IsSource word StandardInput = (word ≡ None) ⊎ (word ≡ Some (codes "-"))
IsSource word (File path) = (word ≡ Some path.now) × (path.now ≢ codes "-")

-- the command that is named, with its words, asks for this; without a command, `cpm` of standard input is asked for
abbrev pub IsRequested : Option (Text × List Row) → Request → Type 0
IsRequested None (Cpm network) = IsSource None network
IsRequested None (Plan files memory crew) = ⊥
IsRequested None (Prove files facts limit) = ⊥
IsRequested None (Check files) = ⊥
IsRequested None (Verify files limit) = ⊥
IsRequested None (VerifyBound files limit) = ⊥
IsRequested None (Tool tool) = ⊥
IsRequested (Some command) (Cpm network) =
    (command.0 ≢ codes "plan") × (command.0 ≢ codes "prove") × (command.0 ≢ codes "check") ×
    (command.0 ≢ codes "verify") × IsNoTool command.0 × IsSource (first_of (codes "NET") command.1) network
IsRequested (Some command) (Plan files memory crew) =
    (command.0 ≡ codes "plan") × AreOrderFiles command.1 files ×
    IsNumberOf 1048576 1024 (first_of (codes "memory") command.1) memory.mebibytes × IsCrew command.1 crew
IsRequested (Some command) (Prove files facts limit) = (command.0 ≡ codes "prove") × AreOrderFiles command.1 files ×
    (facts ≡ is_set (codes "facts") command.1) ×
    (option_map (λ word. word.now) limit ≡ first_of (codes "time-limit") command.1)
IsRequested (Some command) (Check files) = (command.0 ≡ codes "check") × ArePlanFiles command.1 files
IsRequested (Some command) (Verify files limit) =
    (command.0 ≡ codes "verify") × AreProofFiles command.1 files ×
    (option_map (λ word. word.now) limit ≡ first_of (codes "time-limit") command.1)
IsRequested (Some command) (VerifyBound files limit) =
    (command.0 ≡ codes "verify") × AreBoundFiles command.1 files ×
    (option_map (λ word. word.now) limit ≡ first_of (codes "time-limit") command.1)
IsRequested (Some command) (Tool tool) = IsToolOf command tool

-- nothing is told of faults with the flag `--quiet`, and else all with `--explain`, and one line without both
abbrev pub telling_by : List Row → Telling
telling_by words =
    if is_set (codes "quiet") words then Quiet else (if is_set (codes "explain") words then Whole else Line)

-- how much is told of faults by the command that is named
abbrev pub telling_of : Option (Text × List Row) → Telling
telling_of None = Line
telling_of (Some command) = telling_by command.1

-- the answer of the command that is named is written as JSON: with the flag `--json`
abbrev pub is_json_of : Option (Text × List Row) → Bool
is_json_of None = false
is_json_of (Some command) = is_set (codes "json") command.1

-- the path of the calendar that the command names, if it names one
abbrev pub calendar_of : Option (Text × List Row) → Option Text
calendar_of None = None
calendar_of (Some command) = first_of (codes "calendar") command.1

-- the command that is named asks for this
pub record IsTask (command : Option (Text × List Row)) (task : Task) : Type 0 where
  pub request : IsRequested command task.request
  pub telling : task.telling ≡ telling_of command
  pub json : task.is_json ≡ is_json_of command
  pub calendar : option_map (λ word. word.now) task.calendar ≡ calendar_of command

-- the words ask for this
abbrev pub AskFor : List Text → Task → Type 0
AskFor words = IsTask (subcommand_of racp words)

-- a word that is no option: one that does not begin with a hyphen, or a hyphen alone
abbrev pub IsPlain : Text → Type 0
IsPlain [] = Unit {0}
IsPlain (first ∷ rest) = (first ≡ 45 → rest ≡ [])

-- After the program's name come no words, or `cpm`, or `cpm` and a plain word; this is the plain word.
abbrev pub IsCpmLine : List Text → Option Text → Type 0
IsCpmLine words None = (name : Text) × ((words ≡ name ∷ []) ⊎ (words ≡ name ∷ codes "cpm" ∷ []))
IsCpmLine words (Some word) = (name : Text) × IsPlain word × (words ≡ name ∷ codes "cpm" ∷ word ∷ [])

-- `cpm` of the network that the word names
abbrev pub AsksForCpm : Option Text → Request → Type 0
AsksForCpm word (Cpm network) = IsSource word network
AsksForCpm word (Plan files memory crew) = ⊥
AsksForCpm word (Prove files facts limit) = ⊥
AsksForCpm word (Check files) = ⊥
AsksForCpm word (Verify files limit) = ⊥
AsksForCpm word (VerifyBound files limit) = ⊥
AsksForCpm word (Tool tool) = ⊥

-- a word that is not empty, and no option
abbrev pub IsPath : Text → Type 0
IsPath [] = ⊥
IsPath (first ∷ rest) = first ≢ 45

-- After the program's name come `plan` and these two paths.
abbrev pub IsPlanLine : List Text → Text → Text → Type 0
IsPlanLine words net order = (name : Text) × IsPath net × IsPath order ×
    (words ≡ name ∷ codes "plan" ∷ net ∷ order ∷ [])

-- `plan` of the files with these paths, on one thread, with records of at most 1,024 mebibytes
abbrev pub AsksForPlan : Text → Text → Request → Type 0
AsksForPlan net order (Cpm network) = ⊥
AsksForPlan net order (Plan files memory crew) =
    (files.net.now ≡ net) × (files.order.now ≡ order) × (memory.mebibytes ≡ 1024) × (crew ≡ None)
AsksForPlan net order (Prove files facts limit) = ⊥
AsksForPlan net order (Check files) = ⊥
AsksForPlan net order (Verify files limit) = ⊥
AsksForPlan net order (VerifyBound files limit) = ⊥
AsksForPlan net order (Tool tool) = ⊥

-- After the program's name come `plan`, these two paths, `--workers` and this number from 0 to 64.
abbrev pub IsWorkersLine : List Text → Text → Text → Text → Type 0
IsWorkersLine words net order number = (name : Text) × IsPath net × IsPath order × IsUnsignedIn 0 64 number ×
    (words ≡ name ∷ codes "plan" ∷ net ∷ order ∷ codes "--workers" ∷ number ∷ [])

-- this many workers, as many turns as there may be, no limit of time, nothing is told of them, and no best plan is kept
abbrev pub IsOfWorkers : ℕ → Option CrewOptions → Type 0
IsOfWorkers workers None = ⊥
IsOfWorkers workers (Some crew) =
    (crew.workers ≡ workers) × (crew.turns ≡ 1000000000000) × (option_map (λ word. word.now) crew.time_limit ≡ None) × (crew.stats ≡ false) ×
    (crew.progress ≡ false) × (option_map (λ word. word.now) crew.best ≡ None)

-- `plan` of the files with these paths, by this many workers, with records of at most 1,024 mebibytes
abbrev pub AsksForWorkers : Text → Text → ℕ → Request → Type 0
AsksForWorkers net order workers (Cpm network) = ⊥
AsksForWorkers net order workers (Plan files memory crew) =
    (files.net.now ≡ net) × (files.order.now ≡ order) × (memory.mebibytes ≡ 1024) × IsOfWorkers workers crew
AsksForWorkers net order workers (Prove files facts limit) = ⊥
AsksForWorkers net order workers (Check files) = ⊥
AsksForWorkers net order workers (Verify files limit) = ⊥
AsksForWorkers net order workers (VerifyBound files limit) = ⊥
AsksForWorkers net order workers (Tool tool) = ⊥

-- After the program's name come `prove` and these two paths.
abbrev pub IsProveLine : List Text → Text → Text → Type 0
IsProveLine words net order = (name : Text) × IsPath net × IsPath order ×
    (words ≡ name ∷ codes "prove" ∷ net ∷ order ∷ [])

-- `prove` of the files with these paths, not by clauses, and without a limit of time
abbrev pub AsksForProve : Text → Text → Request → Type 0
AsksForProve net order (Cpm network) = ⊥
AsksForProve net order (Plan files memory crew) = ⊥
AsksForProve net order (Prove files facts limit) = (files.net.now ≡ net) × (files.order.now ≡ order) ×
    (facts ≡ false) × (option_map (λ word. word.now) limit ≡ None)
AsksForProve net order (Check files) = ⊥
AsksForProve net order (Verify files limit) = ⊥
AsksForProve net order (VerifyBound files limit) = ⊥
AsksForProve net order (Tool tool) = ⊥

-- After the program's name come `check` and these three paths.
abbrev pub IsCheckLine : List Text → Text → Text → Text → Type 0
IsCheckLine words net order plan_path =
    (name : Text) × IsPath net × IsPath order × IsPath plan_path ×
    (words ≡ name ∷ codes "check" ∷ net ∷ order ∷ plan_path ∷ [])

-- `check` of the files with these paths
abbrev pub AsksForCheck : Text → Text → Text → Request → Type 0
AsksForCheck net order plan_path (Cpm network) = ⊥
AsksForCheck net order plan_path (Plan files memory crew) = ⊥
AsksForCheck net order plan_path (Prove files facts limit) = ⊥
AsksForCheck net order plan_path (Check files) = (files.net.now ≡ net) × (files.order.now ≡ order) ×
    (files.plan.now ≡ plan_path)
AsksForCheck net order plan_path (Verify files limit) = ⊥
AsksForCheck net order plan_path (VerifyBound files limit) = ⊥
AsksForCheck net order plan_path (Tool tool) = ⊥

-- After the program's name come `verify` and these four paths.
abbrev pub IsVerifyLine : List Text → Text → Text → Text → Text → Type 0
IsVerifyLine words net order plan_path proof =
    (name : Text) × IsPath net × IsPath order × IsPath plan_path × IsPath proof ×
    (words ≡ name ∷ codes "verify" ∷ net ∷ order ∷ plan_path ∷ proof ∷ [])

-- `verify` of the files with these paths, without a limit of time
abbrev pub AsksForVerify : Text → Text → Text → Text → Request → Type 0
AsksForVerify net order plan_path proof (Cpm network) = ⊥
AsksForVerify net order plan_path proof (Plan files memory crew) = ⊥
AsksForVerify net order plan_path proof (Prove files facts limit) = ⊥
AsksForVerify net order plan_path proof (Check files) = ⊥
AsksForVerify net order plan_path proof (Verify files limit) = (files.net.now ≡ net) × (files.order.now ≡ order) ×
    (files.plan.now ≡ plan_path) × (files.proof.now ≡ proof) × (option_map (λ word. word.now) limit ≡ None)
AsksForVerify net order plan_path proof (VerifyBound files limit) = ⊥
AsksForVerify net order plan_path proof (Tool tool) = ⊥

-- After the program's name come `verify` and these three paths.
abbrev pub IsVerifyBoundLine : List Text → Text → Text → Text → Type 0
IsVerifyBoundLine words net order proof =
    (name : Text) × IsPath net × IsPath order × IsPath proof ×
    (words ≡ name ∷ codes "verify" ∷ net ∷ order ∷ proof ∷ [])

-- `verify` of a bound by the files with these paths, without a limit of time
abbrev pub AsksForVerifyBound : Text → Text → Text → Request → Type 0
AsksForVerifyBound net order proof (Cpm network) = ⊥
AsksForVerifyBound net order proof (Plan files memory crew) = ⊥
AsksForVerifyBound net order proof (Prove files facts limit) = ⊥
AsksForVerifyBound net order proof (Check files) = ⊥
AsksForVerifyBound net order proof (Verify files limit) = ⊥
AsksForVerifyBound net order proof (VerifyBound files limit) = (files.net.now ≡ net) × (files.order.now ≡ order) ×
    (files.proof.now ≡ proof) × (option_map (λ word. word.now) limit ≡ None)
AsksForVerifyBound net order proof (Tool tool) = ⊥
