-- Words that the parser takes.
use Rattle.std.proofs.Common.{if◌then◌else◌, ◌≡◌, ◌==◌, ◌||◌, ◌∙◌, ℕ, Bool, ap, sym, subst, refl, true, false, List, [], ◌∷◌, Option, Some, None, option_map, codes, inl, inr, slice_index, cond, drop, is_some, arith, rules}
use Rattle.std.proofs.lemmas.Bool.{eqb-true, ne_eqb}
use Rattle.std.proofs.lemmas.Option.{same_Some}
use Rattle.std.specs.Str.Parse.{AllDigits}
use Rattle.std.proofs.lemmas.Str.Parse.{digit_from_value}
use Rattle.clap.proofs.ValueTestLemmas.{Accepts-accepts}
use Rattle.clap.specs.declared.builder.value_parser.ValueParser.TheVariants.{Unsigned}
use Rattle.clap.specs.Words.{IsUnsignedIn, Row, Text, fault_of, first_of, subcommand_of}
use Rattle.clap.proofs.OnLiterals.{clap_on_literals}
use Rattle.racp_words.specs.CommandLine.{IsCpmLine, AsksForCpm, IsPlanLine, AsksForPlan, IsWorkersLine, AsksForWorkers, IsOfWorkers, IsProveLine, AsksForProve, IsCheckLine, AsksForCheck, IsVerifyLine, AsksForVerify, IsVerifyBoundLine, AsksForVerifyBound, IsPlain, IsRequested, racp}
use Rattle.racp_words.specs.Rules.{IsCrew, IsNumberOf, IsWorkerCount, has_crew_option, number_in, is_set, path_at}
use Rattle.racp_words.specs.Tools.{IsToolOf}
use Rattle.clap.specs.Kinds.{Kinds, or_else}
use Rattle.clap.specs.ValueTests.{is_unsigned_in}
use Rattle.clap.specs.declared.error.kind.ErrorKind.TheVariants.{ValueValidation}
use Rattle.racp_words.specs.declared.request.CrewOptions.{CrewOptions}
use Rattle.racp_words.specs.declared.request.Request.{Request}
use Rattle.racp_words.specs.declared.request.Request.TheVariants.{Cpm, Plan, Prove, Check, Verify, VerifyBound, Tool}
use Rattle.racp_words.specs.declared.request.Tool as declared
use Rattle.racp_words.specs.declared.request.Tool.TheVariants.{Show, Report, Export, Curve, Soonest, WhatIf, Order, Batch, Import, Explain}

-- the command that is named, and the word for its network
with_network : Option (Text × List Row) → Option (Text × Option Text)
with_network = option_map (λ command. (command.0, first_of (codes "NET") command.1))

-- the parser takes the words, and this is the command that they name, with the word for its network
IsTaken : List Text → Option (Text × Option Text) → Type 0
IsTaken words command = (fault_of racp words ≡ []) × (with_network (subcommand_of racp words) ≡ command)

no_words : (name : Text) → IsTaken (name ∷ []) None
unfolding racp clap_on_literals IsTaken with_network
no_words name = (refl, refl)

cpm_alone : (name : Text) → IsTaken (name ∷ codes "cpm" ∷ []) (Some (codes "cpm", None))
unfolding racp clap_on_literals IsTaken with_network
cpm_alone name = (refl, refl)

cpm_hyphen : (name : Text) → IsTaken (name ∷ codes "cpm" ∷ codes "-" ∷ []) (Some (codes "cpm", Some (codes "-")))
unfolding racp clap_on_literals IsTaken with_network
cpm_hyphen name = (refl, refl)

cpm_empty : (name : Text) → IsTaken (name ∷ codes "cpm" ∷ [] ∷ []) (Some (codes "cpm", Some []))
unfolding racp clap_on_literals IsTaken with_network
cpm_empty name = (refl, refl)

cpm_path : (name : Text) (first : ℕ) (rest : Text) → (first == 45) ≡ false → IsTaken (name ∷ codes "cpm" ∷ (first ∷ rest) ∷ []) (Some (codes "cpm", Some (first ∷ rest)))
unfolding racp clap_on_literals IsTaken with_network
cpm_path name first rest other = (rw (other, other) refl, rw (other, other) refl)

cpm_word : (name word : Text) → IsPlain word → IsTaken (name ∷ codes "cpm" ∷ word ∷ []) (Some (codes "cpm", Some word))
cpm_word name [] plain = cpm_empty name
cpm_word name (first ∷ rest) plain = by_first (first == 45) refl
  where
    by_first : (b : Bool) → (first == 45) ≡ b → IsTaken (name ∷ codes "cpm" ∷ (first ∷ rest) ∷ []) (Some (codes "cpm", Some (first ∷ rest)))
    by_first false other = cpm_path name first rest other
    by_first true hyphen =
        let is : first ≡ 45 = eqb-true first 45 hyphen in
        subst (λ (word : Text). IsTaken (name ∷ codes "cpm" ∷ word ∷ []) (Some (codes "cpm", Some word))) (ap (λ f. f ∷ []) (sym is) ∙ ap (λ r. first ∷ r) (sym (plain is))) (cpm_hyphen name)

-- a tool has another name than the other commands
by_name : (command : Text × List Row) (tool : declared.Tool) (name : Text) → command.0 ≡ name → IsToolOf command tool →
    (name ≡ codes "show" → ⊥) → (name ≡ codes "report" → ⊥) → (name ≡ codes "export" → ⊥) → (name ≡ codes "curve" → ⊥) → (name ≡ codes "soonest" → ⊥) → (name ≡ codes "whatif" → ⊥) → (name ≡ codes "order" → ⊥) → (name ≡ codes "batch" → ⊥) → (name ≡ codes "import" → ⊥) → (name ≡ codes "explain" → ⊥) → ⊥
by_name command (Show files look) name is asked no_show no_report no_export no_curve no_soonest no_whatif no_order no_batch no_import no_explain = no_show (sym is ∙ asked.0)
by_name command (Report files options) name is asked no_show no_report no_export no_curve no_soonest no_whatif no_order no_batch no_import no_explain = no_report (sym is ∙ asked.0)
by_name command (Export files options) name is asked no_show no_report no_export no_curve no_soonest no_whatif no_order no_batch no_import no_explain = no_export (sym is ∙ asked.0)
by_name command (Curve files memory workers is_drawn) name is asked no_show no_report no_export no_curve no_soonest no_whatif no_order no_batch no_import no_explain = no_curve (sym is ∙ asked.0)
by_name command (Soonest files memory workers) name is asked no_show no_report no_export no_curve no_soonest no_whatif no_order no_batch no_import no_explain = no_soonest (sym is ∙ asked.0)
by_name command (WhatIf files options memory workers) name is asked no_show no_report no_export no_curve no_soonest no_whatif no_order no_batch no_import no_explain = no_whatif (sym is ∙ asked.0)
by_name command (Order files terms) name is asked no_show no_report no_export no_curve no_soonest no_whatif no_order no_batch no_import no_explain = no_order (sym is ∙ asked.0)
by_name command (Batch table memory) name is asked no_show no_report no_export no_curve no_soonest no_whatif no_order no_batch no_import no_explain = no_batch (sym is ∙ asked.0)
by_name command (Import table) name is asked no_show no_report no_export no_curve no_soonest no_whatif no_order no_batch no_import no_explain = no_import (sym is ∙ asked.0)
by_name command (Explain format fault) name is asked no_show no_report no_export no_curve no_soonest no_whatif no_order no_batch no_import no_explain = no_explain (sym is ∙ asked.0)

-- a text has another letter at its first or second place
first_differs : (s t : Text) → s ≡ t → slice_index s 0 ≡ slice_index t 0
first_differs s t e = ap (λ x. slice_index x 0) e

second_differs : (s t : Text) → s ≡ t → slice_index s 1 ≡ slice_index t 1
second_differs s t e = ap (λ x. slice_index x 1) e

no_tool_cpm : (command : Text × List Row) (tool : declared.Tool) → command.0 ≡ codes "cpm" → IsToolOf command tool → ⊥
no_tool_cpm command tool is asked = by_name command tool (codes "cpm") is asked
    (λ e. let letter : 99 ≡ 115 = first_differs (codes "cpm") (codes "show") e in omega (arith, letter))
    (λ e. let letter : 99 ≡ 114 = first_differs (codes "cpm") (codes "report") e in omega (arith, letter))
    (λ e. let letter : 99 ≡ 101 = first_differs (codes "cpm") (codes "export") e in omega (arith, letter))
    (λ e. let letter : 112 ≡ 117 = second_differs (codes "cpm") (codes "curve") e in omega (arith, letter))
    (λ e. let letter : 99 ≡ 115 = first_differs (codes "cpm") (codes "soonest") e in omega (arith, letter))
    (λ e. let letter : 99 ≡ 119 = first_differs (codes "cpm") (codes "whatif") e in omega (arith, letter))
    (λ e. let letter : 99 ≡ 111 = first_differs (codes "cpm") (codes "order") e in omega (arith, letter))
    (λ e. let letter : 99 ≡ 98 = first_differs (codes "cpm") (codes "batch") e in omega (arith, letter))
    (λ e. let letter : 99 ≡ 105 = first_differs (codes "cpm") (codes "import") e in omega (arith, letter))
    (λ e. let letter : 99 ≡ 101 = first_differs (codes "cpm") (codes "explain") e in omega (arith, letter))

no_tool_plan : (command : Text × List Row) (tool : declared.Tool) → command.0 ≡ codes "plan" → IsToolOf command tool → ⊥
no_tool_plan command tool is asked = by_name command tool (codes "plan") is asked
    (λ e. let letter : 112 ≡ 115 = first_differs (codes "plan") (codes "show") e in omega (arith, letter))
    (λ e. let letter : 112 ≡ 114 = first_differs (codes "plan") (codes "report") e in omega (arith, letter))
    (λ e. let letter : 112 ≡ 101 = first_differs (codes "plan") (codes "export") e in omega (arith, letter))
    (λ e. let letter : 112 ≡ 99 = first_differs (codes "plan") (codes "curve") e in omega (arith, letter))
    (λ e. let letter : 112 ≡ 115 = first_differs (codes "plan") (codes "soonest") e in omega (arith, letter))
    (λ e. let letter : 112 ≡ 119 = first_differs (codes "plan") (codes "whatif") e in omega (arith, letter))
    (λ e. let letter : 112 ≡ 111 = first_differs (codes "plan") (codes "order") e in omega (arith, letter))
    (λ e. let letter : 112 ≡ 98 = first_differs (codes "plan") (codes "batch") e in omega (arith, letter))
    (λ e. let letter : 112 ≡ 105 = first_differs (codes "plan") (codes "import") e in omega (arith, letter))
    (λ e. let letter : 112 ≡ 101 = first_differs (codes "plan") (codes "explain") e in omega (arith, letter))

no_tool_prove : (command : Text × List Row) (tool : declared.Tool) → command.0 ≡ codes "prove" → IsToolOf command tool → ⊥
no_tool_prove command tool is asked = by_name command tool (codes "prove") is asked
    (λ e. let letter : 112 ≡ 115 = first_differs (codes "prove") (codes "show") e in omega (arith, letter))
    (λ e. let letter : 112 ≡ 114 = first_differs (codes "prove") (codes "report") e in omega (arith, letter))
    (λ e. let letter : 112 ≡ 101 = first_differs (codes "prove") (codes "export") e in omega (arith, letter))
    (λ e. let letter : 112 ≡ 99 = first_differs (codes "prove") (codes "curve") e in omega (arith, letter))
    (λ e. let letter : 112 ≡ 115 = first_differs (codes "prove") (codes "soonest") e in omega (arith, letter))
    (λ e. let letter : 112 ≡ 119 = first_differs (codes "prove") (codes "whatif") e in omega (arith, letter))
    (λ e. let letter : 112 ≡ 111 = first_differs (codes "prove") (codes "order") e in omega (arith, letter))
    (λ e. let letter : 112 ≡ 98 = first_differs (codes "prove") (codes "batch") e in omega (arith, letter))
    (λ e. let letter : 112 ≡ 105 = first_differs (codes "prove") (codes "import") e in omega (arith, letter))
    (λ e. let letter : 112 ≡ 101 = first_differs (codes "prove") (codes "explain") e in omega (arith, letter))

no_tool_check : (command : Text × List Row) (tool : declared.Tool) → command.0 ≡ codes "check" → IsToolOf command tool → ⊥
no_tool_check command tool is asked = by_name command tool (codes "check") is asked
    (λ e. let letter : 99 ≡ 115 = first_differs (codes "check") (codes "show") e in omega (arith, letter))
    (λ e. let letter : 99 ≡ 114 = first_differs (codes "check") (codes "report") e in omega (arith, letter))
    (λ e. let letter : 99 ≡ 101 = first_differs (codes "check") (codes "export") e in omega (arith, letter))
    (λ e. let letter : 104 ≡ 117 = second_differs (codes "check") (codes "curve") e in omega (arith, letter))
    (λ e. let letter : 99 ≡ 115 = first_differs (codes "check") (codes "soonest") e in omega (arith, letter))
    (λ e. let letter : 99 ≡ 119 = first_differs (codes "check") (codes "whatif") e in omega (arith, letter))
    (λ e. let letter : 99 ≡ 111 = first_differs (codes "check") (codes "order") e in omega (arith, letter))
    (λ e. let letter : 99 ≡ 98 = first_differs (codes "check") (codes "batch") e in omega (arith, letter))
    (λ e. let letter : 99 ≡ 105 = first_differs (codes "check") (codes "import") e in omega (arith, letter))
    (λ e. let letter : 99 ≡ 101 = first_differs (codes "check") (codes "explain") e in omega (arith, letter))

no_tool_verify : (command : Text × List Row) (tool : declared.Tool) → command.0 ≡ codes "verify" → IsToolOf command tool → ⊥
no_tool_verify command tool is asked = by_name command tool (codes "verify") is asked
    (λ e. let letter : 118 ≡ 115 = first_differs (codes "verify") (codes "show") e in omega (arith, letter))
    (λ e. let letter : 118 ≡ 114 = first_differs (codes "verify") (codes "report") e in omega (arith, letter))
    (λ e. let letter : 118 ≡ 101 = first_differs (codes "verify") (codes "export") e in omega (arith, letter))
    (λ e. let letter : 118 ≡ 99 = first_differs (codes "verify") (codes "curve") e in omega (arith, letter))
    (λ e. let letter : 118 ≡ 115 = first_differs (codes "verify") (codes "soonest") e in omega (arith, letter))
    (λ e. let letter : 118 ≡ 119 = first_differs (codes "verify") (codes "whatif") e in omega (arith, letter))
    (λ e. let letter : 118 ≡ 111 = first_differs (codes "verify") (codes "order") e in omega (arith, letter))
    (λ e. let letter : 118 ≡ 98 = first_differs (codes "verify") (codes "batch") e in omega (arith, letter))
    (λ e. let letter : 118 ≡ 105 = first_differs (codes "verify") (codes "import") e in omega (arith, letter))
    (λ e. let letter : 118 ≡ 101 = first_differs (codes "verify") (codes "explain") e in omega (arith, letter))

-- no command asks for the network that no word names
none_asked : (command : Option (Text × List Row)) (request : Request) → with_network command ≡ None → IsRequested command request → AsksForCpm None request
unfolding with_network
none_asked None (Cpm network) e asked = asked
none_asked None (Plan files memory crew) e asked = asked
none_asked None (Prove files facts limit) e asked = asked
none_asked None (Check files) e asked = asked
none_asked None (Verify files limit) e asked = asked
none_asked None (VerifyBound files limit) e asked = asked
none_asked None (Tool tool) e asked = asked
none_asked (Some command) request e asked = absurd (search rules)

-- `cpm` asks for the network that its word names
cpm_asked : (command : Option (Text × List Row)) (word : Option Text) (request : Request) → with_network command ≡ Some (codes "cpm", word) → IsRequested command request → AsksForCpm word request
unfolding with_network
cpm_asked None word request e asked = absurd (search rules)
cpm_asked (Some command) word (Cpm network) e asked = rw (← ap (λ c. c.1) (same_Some _ _ e)) asked.5
cpm_asked (Some command) word (Plan files memory crew) e asked =
    let same : codes "cpm" ≡ codes "plan" = sym (ap (λ c. c.0) (same_Some _ _ e)) ∙ asked.0 in
    let letter : 99 ≡ 112 = ap (λ t. slice_index t 0) same in absurd (omega (arith, letter))
cpm_asked (Some command) word (Prove files facts limit) e asked =
    let same : codes "cpm" ≡ codes "prove" = sym (ap (λ c. c.0) (same_Some _ _ e)) ∙ asked.0 in
    let letter : 99 ≡ 112 = ap (λ t. slice_index t 0) same in absurd (omega (arith, letter))
cpm_asked (Some command) word (Check files) e asked =
    let same : codes "cpm" ≡ codes "check" = sym (ap (λ c. c.0) (same_Some _ _ e)) ∙ asked.0 in
    let letter : 112 ≡ 104 = ap (λ t. slice_index t 1) same in absurd (omega (arith, letter))
cpm_asked (Some command) word (Verify files limit) e asked =
    let same : codes "cpm" ≡ codes "verify" = sym (ap (λ c. c.0) (same_Some _ _ e)) ∙ asked.0 in
    let letter : 99 ≡ 118 = ap (λ t. slice_index t 0) same in absurd (omega (arith, letter))
cpm_asked (Some command) word (VerifyBound files limit) e asked =
    let same : codes "cpm" ≡ codes "verify" = sym (ap (λ c. c.0) (same_Some _ _ e)) ∙ asked.0 in
    let letter : 99 ≡ 118 = ap (λ t. slice_index t 0) same in absurd (omega (arith, letter))
cpm_asked (Some command) word (Tool tool) e asked = absurd (no_tool_cpm command tool (ap (λ c. c.0) (same_Some _ _ e)) asked)

-- the command that is named, the paths of its words for a network and an order, the word for memory, and whether an option about workers is given
with_two_paths : Option (Text × List Row) → Option (Text × (Text × (Text × (Option Text × Bool))))
with_two_paths = option_map (λ command. (command.0, (path_at (codes "NET") command.1, (path_at (codes "ORDER") command.1, (first_of (codes "memory") command.1, has_crew_option command.1)))))

plan_paths : (name : Text) (a b : ℕ) (net order : Text) → (a == 45) ≡ false → (b == 45) ≡ false →
    (fault_of racp (name ∷ codes "plan" ∷ (a ∷ net) ∷ (b ∷ order) ∷ []) ≡ []) ×
    (with_two_paths (subcommand_of racp (name ∷ codes "plan" ∷ (a ∷ net) ∷ (b ∷ order) ∷ [])) ≡ Some (codes "plan", (a ∷ net, (b ∷ order, (None, false)))))
unfolding racp clap_on_literals with_two_paths
plan_paths name a b net order p q = (rw (p, p, q, q) refl, rw (p, p, q, q) refl)

-- the command that is named, and what `plan` reads of its words
with_crew : Option (Text × List Row) → Option (Text × (Text × (Text × (Option Text × (Option Text × (Option Text × (Option Text × (Bool × (Bool × Option Text)))))))))
with_crew = option_map (λ command. (
  command.0,
  (
    path_at (codes "NET") command.1,
    (
      path_at (codes "ORDER") command.1,
      (
        first_of (codes "memory") command.1,
        (first_of (codes "workers") command.1, (first_of (codes "turns") command.1, (first_of (codes "time-limit") command.1, (is_set (codes "stats") command.1, (is_set (codes "progress") command.1, first_of (codes "best") command.1))))),
      ),
    ),
  ),
))

-- the fault of a value that passes or does not, where nothing else is wrong
fault_of_value : Bool → Kinds
fault_of_value passes = or_else (or_else (or_else (if passes then [] else ValueValidation ∷ []) []) []) []

workers_fault : (name : Text) (a b d : ℕ) (net order digits : Text) → (a == 45) ≡ false → (b == 45) ≡ false → (d == 45) ≡ false →
    fault_of racp (name ∷ codes "plan" ∷ (a ∷ net) ∷ (b ∷ order) ∷ codes "--workers" ∷ (d ∷ digits) ∷ []) ≡ fault_of_value (is_unsigned_in 0 64 (d ∷ digits))
unfolding racp clap_on_literals fault_of_value
workers_fault name a b d net order digits p q r = rw (p, p, q, q, r, r) refl

workers_words : (name : Text) (a b d : ℕ) (net order digits : Text) → (a == 45) ≡ false → (b == 45) ≡ false → (d == 45) ≡ false →
    with_crew (subcommand_of racp (name ∷ codes "plan" ∷ (a ∷ net) ∷ (b ∷ order) ∷ codes "--workers" ∷ (d ∷ digits) ∷ [])) ≡
    Some (codes "plan", (a ∷ net, (b ∷ order, (None, (Some (d ∷ digits), (None, (None, (false, (false, None)))))))))
unfolding racp clap_on_literals with_crew
workers_words name a b d net order digits p q r = rw (p, p, q, q, r, r) refl

-- without an option about workers none are asked for
no_crew : (words : List Row) (crew : Option CrewOptions) → has_crew_option words ≡ false → IsCrew words crew → crew ≡ None
no_crew words None none asked = refl
no_crew words (Some crew) none asked = absurd (search (rules, none, asked.0))

-- `plan` asks for the files with these paths
plan_asked : (command : Option (Text × List Row)) (net order : Text) (request : Request) → with_two_paths command ≡ Some (codes "plan", (net, (order, (None, false)))) → IsRequested command request →
    AsksForPlan net order request
unfolding with_two_paths
plan_asked None net order request e asked = absurd (search rules)
plan_asked (Some command) net order (Cpm network) e asked = absurd (asked.0 (ap (λ c. c.0) (same_Some _ _ e)))
plan_asked (Some command) net order (Plan files memory crew) e asked =
    let same = same_Some _ _ e in (
      asked.1.net ∙ ap (λ c. c.1.0) same,
      asked.1.order ∙ ap (λ c. c.1.1.0) same,
      subst (λ (w : Option Text). IsNumberOf 1048576 1024 w memory.mebibytes) (ap (λ c. c.1.1.1.0) same) asked.2,
      no_crew command.1 crew (ap (λ c. c.1.1.1.1) same) asked.3,
    )
plan_asked (Some command) net order (Prove files facts limit) e asked =
    let same : codes "plan" ≡ codes "prove" = sym (ap (λ c. c.0) (same_Some _ _ e)) ∙ asked.0 in
    let letter : 108 ≡ 114 = ap (λ t. slice_index t 1) same in absurd (omega (arith, letter))
plan_asked (Some command) net order (Check files) e asked =
    let same : codes "plan" ≡ codes "check" = sym (ap (λ c. c.0) (same_Some _ _ e)) ∙ asked.0 in
    let letter : 112 ≡ 99 = ap (λ t. slice_index t 0) same in absurd (omega (arith, letter))
plan_asked (Some command) net order (Verify files limit) e asked =
    let same : codes "plan" ≡ codes "verify" = sym (ap (λ c. c.0) (same_Some _ _ e)) ∙ asked.0 in
    let letter : 112 ≡ 118 = ap (λ t. slice_index t 0) same in absurd (omega (arith, letter))
plan_asked (Some command) net order (VerifyBound files limit) e asked =
    let same : codes "plan" ≡ codes "verify" = sym (ap (λ c. c.0) (same_Some _ _ e)) ∙ asked.0 in
    let letter : 112 ≡ 118 = ap (λ t. slice_index t 0) same in absurd (omega (arith, letter))
plan_asked (Some command) net order (Tool tool) e asked = absurd (no_tool_plan command tool (ap (λ c. c.0) (same_Some _ _ e)) asked)

-- a number begins with no hyphen
no_hyphen : (d : ℕ) (digits : Text) → IsUnsignedIn 0 64 (d ∷ digits) → (d == 45) ≡ false
no_hyphen d digits in_range = by_sign (d == 43) refl
  where
    by_sign : (b : Bool) → (d == 43) ≡ b → (d == 45) ≡ false
    by_sign true plus = let is : d ≡ 43 = eqb-true d 43 plus in ne_eqb d 45 (λ e. absurd (omega (arith, is, e)))
    by_sign false other =
        let all : AllDigits 10 (d ∷ digits) = subst (λ (b : Bool). AllDigits 10 (drop (cond b 1 0) (d ∷ digits))) other in_range.0.1 in
        let digit = digit_from_value d all.0 in ne_eqb d 45 (λ e. absurd (omega (arith, digit.0, e)))

-- a number is not empty
some_number : IsUnsignedIn 0 64 [] → ⊥
some_number in_range = omega (arith, in_range.0.0)

-- where `--workers` alone is given, so many workers are asked for
workers_crew : (words : List Row) (crew : Option CrewOptions) (number : Text) → first_of (codes "workers") words ≡ Some number → first_of (codes "turns") words ≡ None →
    first_of (codes "time-limit") words ≡ None → is_set (codes "stats") words ≡ false → is_set (codes "progress") words ≡ false → first_of (codes "best") words ≡ None → IsUnsignedIn 0 64 number → IsCrew words crew → IsOfWorkers (number_in number) crew
workers_crew words None number workers turns limit stats progress best in_range asked =
    let given : has_crew_option words ≡ true = ap (λ (w : Option Text). is_some w || (is_some (first_of (codes "turns") words) || (is_set (codes "stats") words || (is_some (first_of (codes "time-limit") words) || (is_set (codes "progress") words || is_some (first_of (codes "best") words)))))) workers in
    absurd (search (rules, given, asked))
workers_crew words (Some crew) number workers turns limit stats progress best in_range asked = (
  subst (λ (w : Option Text). IsWorkerCount w crew.workers) workers asked.1 in_range,
  subst (λ (w : Option Text). IsNumberOf 1000000000000 1000000000000 w crew.turns) turns asked.2,
  asked.3 ∙ limit,
  asked.4 ∙ stats,
  asked.5 ∙ progress,
  asked.6 ∙ best,
)

-- `plan` asks for the files with these paths, and for so many workers
workers_asked : (command : Option (Text × List Row)) (net order number : Text) (request : Request) → IsUnsignedIn 0 64 number →
    with_crew command ≡ Some (codes "plan", (net, (order, (None, (Some number, (None, (None, (false, (false, None))))))))) → IsRequested command request → AsksForWorkers net order (number_in number) request
unfolding with_crew
workers_asked None net order number request in_range e asked = absurd (search rules)
workers_asked (Some command) net order number (Cpm network) in_range e asked = absurd (asked.0 (ap (λ c. c.0) (same_Some _ _ e)))
workers_asked (Some command) net order number (Plan files memory crew) in_range e asked =
    let same = same_Some _ _ e in (
      asked.1.net ∙ ap (λ c. c.1.0) same,
      asked.1.order ∙ ap (λ c. c.1.1.0) same,
      subst (λ (w : Option Text). IsNumberOf 1048576 1024 w memory.mebibytes) (ap (λ c. c.1.1.1.0) same) asked.2,
      workers_crew command.1 crew number (ap (λ c. c.1.1.1.1.0) same) (ap (λ c. c.1.1.1.1.1.0) same) (ap (λ c. c.1.1.1.1.1.1.0) same)
          (ap (λ c. c.1.1.1.1.1.1.1.0) same) (ap (λ c. c.1.1.1.1.1.1.1.1.0) same) (ap (λ c. c.1.1.1.1.1.1.1.1.1) same) in_range asked.3,
    )
workers_asked (Some command) net order number (Prove files facts limit) in_range e asked =
    let same : codes "plan" ≡ codes "prove" = sym (ap (λ c. c.0) (same_Some _ _ e)) ∙ asked.0 in
    let letter : 108 ≡ 114 = ap (λ t. slice_index t 1) same in absurd (omega (arith, letter))
workers_asked (Some command) net order number (Check files) in_range e asked =
    let same : codes "plan" ≡ codes "check" = sym (ap (λ c. c.0) (same_Some _ _ e)) ∙ asked.0 in
    let letter : 112 ≡ 99 = ap (λ t. slice_index t 0) same in absurd (omega (arith, letter))
workers_asked (Some command) net order number (Verify files limit) in_range e asked =
    let same : codes "plan" ≡ codes "verify" = sym (ap (λ c. c.0) (same_Some _ _ e)) ∙ asked.0 in
    let letter : 112 ≡ 118 = ap (λ t. slice_index t 0) same in absurd (omega (arith, letter))
workers_asked (Some command) net order number (VerifyBound files limit) in_range e asked =
    let same : codes "plan" ≡ codes "verify" = sym (ap (λ c. c.0) (same_Some _ _ e)) ∙ asked.0 in
    let letter : 112 ≡ 118 = ap (λ t. slice_index t 0) same in absurd (omega (arith, letter))
workers_asked (Some command) net order number (Tool tool) in_range e asked = absurd (no_tool_plan command tool (ap (λ c. c.0) (same_Some _ _ e)) asked)

-- the command that is named, the paths of its words for a network and an order, and whether it is asked for clauses
with_files : Option (Text × List Row) → Option (Text × (Text × (Text × (Bool × Option Text))))
with_files = option_map (λ command. (
  command.0,
  (path_at (codes "NET") command.1, (path_at (codes "ORDER") command.1, (is_set (codes "facts") command.1, first_of (codes "time-limit") command.1))),
))

prove_paths : (name : Text) (a b : ℕ) (net order : Text) → (a == 45) ≡ false → (b == 45) ≡ false →
    (fault_of racp (name ∷ codes "prove" ∷ (a ∷ net) ∷ (b ∷ order) ∷ []) ≡ []) ×
    (with_files (subcommand_of racp (name ∷ codes "prove" ∷ (a ∷ net) ∷ (b ∷ order) ∷ [])) ≡ Some (codes "prove", (a ∷ net, (b ∷ order, (false, None)))))
unfolding racp clap_on_literals with_files
prove_paths name a b net order p q = (rw (p, p, q, q) refl, rw (p, p, q, q) refl)

-- `prove` asks for the files with these paths
prove_asked : (command : Option (Text × List Row)) (net order : Text) (request : Request) → with_files command ≡ Some (codes "prove", (net, (order, (false, None)))) → IsRequested command request → AsksForProve net order request
unfolding with_files
prove_asked None net order request e asked = absurd (search rules)
prove_asked (Some command) net order (Cpm network) e asked = absurd (asked.1 (ap (λ c. c.0) (same_Some _ _ e)))
prove_asked (Some command) net order (Plan files memory crew) e asked =
    let same : codes "prove" ≡ codes "plan" = sym (ap (λ c. c.0) (same_Some _ _ e)) ∙ asked.0 in
    let letter : 114 ≡ 108 = ap (λ t. slice_index t 1) same in absurd (omega (arith, letter))
prove_asked (Some command) net order (Prove files facts limit) e asked =
    let same = same_Some _ _ e in
    (asked.1.net ∙ ap (λ c. c.1.0) same, asked.1.order ∙ ap (λ c. c.1.1.0) same, asked.2 ∙ ap (λ c. c.1.1.1.0) same, asked.3 ∙ ap (λ c. c.1.1.1.1) same)
prove_asked (Some command) net order (Check files) e asked =
    let same : codes "prove" ≡ codes "check" = sym (ap (λ c. c.0) (same_Some _ _ e)) ∙ asked.0 in
    let letter : 112 ≡ 99 = ap (λ t. slice_index t 0) same in absurd (omega (arith, letter))
prove_asked (Some command) net order (Verify files limit) e asked =
    let same : codes "prove" ≡ codes "verify" = sym (ap (λ c. c.0) (same_Some _ _ e)) ∙ asked.0 in
    let letter : 112 ≡ 118 = ap (λ t. slice_index t 0) same in absurd (omega (arith, letter))
prove_asked (Some command) net order (VerifyBound files limit) e asked =
    let same : codes "prove" ≡ codes "verify" = sym (ap (λ c. c.0) (same_Some _ _ e)) ∙ asked.0 in
    let letter : 112 ≡ 118 = ap (λ t. slice_index t 0) same in absurd (omega (arith, letter))
prove_asked (Some command) net order (Tool tool) e asked = absurd (no_tool_prove command tool (ap (λ c. c.0) (same_Some _ _ e)) asked)

-- the command that is named, and the paths of its words for a network, an order and a plan
with_paths : Option (Text × List Row) → Option (Text × (Text × (Text × Text)))
with_paths = option_map (λ command. (command.0, (path_at (codes "NET") command.1, (path_at (codes "ORDER") command.1, path_at (codes "PLAN") command.1))))

check_paths : (name : Text) (a b d : ℕ) (net order plan : Text) → (a == 45) ≡ false → (b == 45) ≡ false → (d == 45) ≡ false →
    (fault_of racp (name ∷ codes "check" ∷ (a ∷ net) ∷ (b ∷ order) ∷ (d ∷ plan) ∷ []) ≡ []) ×
    (with_paths (subcommand_of racp (name ∷ codes "check" ∷ (a ∷ net) ∷ (b ∷ order) ∷ (d ∷ plan) ∷ [])) ≡ Some (codes "check", (a ∷ net, (b ∷ order, d ∷ plan))))
unfolding racp clap_on_literals with_paths
check_paths name a b d net order plan p q r = (rw (p, p, q, q, r, r) refl, rw (p, p, q, q, r, r) refl)

-- `check` asks for the files with these paths
check_asked : (command : Option (Text × List Row)) (net order plan : Text) (request : Request) → with_paths command ≡ Some (codes "check", (net, (order, plan))) → IsRequested command request →
    AsksForCheck net order plan request
unfolding with_paths
check_asked None net order plan request e asked = absurd (search rules)
check_asked (Some command) net order plan (Cpm network) e asked = absurd (asked.2 (ap (λ c. c.0) (same_Some _ _ e)))
check_asked (Some command) net order plan (Plan files memory crew) e asked =
    let same : codes "check" ≡ codes "plan" = sym (ap (λ c. c.0) (same_Some _ _ e)) ∙ asked.0 in
    let letter : 99 ≡ 112 = ap (λ t. slice_index t 0) same in absurd (omega (arith, letter))
check_asked (Some command) net order plan (Prove files facts limit) e asked =
    let same : codes "check" ≡ codes "prove" = sym (ap (λ c. c.0) (same_Some _ _ e)) ∙ asked.0 in
    let letter : 99 ≡ 112 = ap (λ t. slice_index t 0) same in absurd (omega (arith, letter))
check_asked (Some command) net order plan (Check files) e asked =
    let same = same_Some _ _ e in
    (asked.1.net ∙ ap (λ c. c.1.0) same, asked.1.order ∙ ap (λ c. c.1.1.0) same, asked.1.plan ∙ ap (λ c. c.1.1.1) same)
check_asked (Some command) net order plan (Verify files limit) e asked =
    let same : codes "check" ≡ codes "verify" = sym (ap (λ c. c.0) (same_Some _ _ e)) ∙ asked.0 in
    let letter : 99 ≡ 118 = ap (λ t. slice_index t 0) same in absurd (omega (arith, letter))
check_asked (Some command) net order plan (VerifyBound files limit) e asked =
    let same : codes "check" ≡ codes "verify" = sym (ap (λ c. c.0) (same_Some _ _ e)) ∙ asked.0 in
    let letter : 99 ≡ 118 = ap (λ t. slice_index t 0) same in absurd (omega (arith, letter))
check_asked (Some command) net order plan (Tool tool) e asked = absurd (no_tool_check command tool (ap (λ c. c.0) (same_Some _ _ e)) asked)

-- the command that is named, the paths of its words for a network, an order and a plan, and the word for a certificate
with_four_paths : Option (Text × List Row) → Option (Text × (Text × (Text × (Text × (Option Text × Option Text)))))
with_four_paths = option_map (λ command. (
  command.0,
  (path_at (codes "NET") command.1, (path_at (codes "ORDER") command.1, (path_at (codes "PLAN") command.1, (first_of (codes "PROOF") command.1, first_of (codes "time-limit") command.1)))),
))

verify_paths : (name : Text) (a b d f : ℕ) (net order plan proof : Text) → (a == 45) ≡ false → (b == 45) ≡ false → (d == 45) ≡ false → (f == 45) ≡ false →
    (fault_of racp (name ∷ codes "verify" ∷ (a ∷ net) ∷ (b ∷ order) ∷ (d ∷ plan) ∷ (f ∷ proof) ∷ []) ≡ []) ×
    (with_four_paths (subcommand_of racp (name ∷ codes "verify" ∷ (a ∷ net) ∷ (b ∷ order) ∷ (d ∷ plan) ∷ (f ∷ proof) ∷ [])) ≡ Some (codes "verify", (a ∷ net, (b ∷ order, (d ∷ plan, (Some (f ∷ proof), None))))))
unfolding racp clap_on_literals with_four_paths
verify_paths name a b d f net order plan proof p q r s = (rw (p, p, q, q, r, r, s, s) refl, rw (p, p, q, q, r, r, s, s) refl)

-- `verify` asks for the files with these paths
verify_asked : (command : Option (Text × List Row)) (net order plan proof : Text) (request : Request) → with_four_paths command ≡ Some (codes "verify", (net, (order, (plan, (Some proof, None))))) → IsRequested command request →
    AsksForVerify net order plan proof request
unfolding with_four_paths
verify_asked None net order plan proof request e asked = absurd (search rules)
verify_asked (Some command) net order plan proof (Cpm network) e asked = absurd (asked.3 (ap (λ c. c.0) (same_Some _ _ e)))
verify_asked (Some command) net order plan proof (Plan files memory crew) e asked =
    let same : codes "verify" ≡ codes "plan" = sym (ap (λ c. c.0) (same_Some _ _ e)) ∙ asked.0 in
    let letter : 118 ≡ 112 = ap (λ t. slice_index t 0) same in absurd (omega (arith, letter))
verify_asked (Some command) net order plan proof (Prove files facts limit) e asked =
    let same : codes "verify" ≡ codes "prove" = sym (ap (λ c. c.0) (same_Some _ _ e)) ∙ asked.0 in
    let letter : 118 ≡ 112 = ap (λ t. slice_index t 0) same in absurd (omega (arith, letter))
verify_asked (Some command) net order plan proof (Check files) e asked =
    let same : codes "verify" ≡ codes "check" = sym (ap (λ c. c.0) (same_Some _ _ e)) ∙ asked.0 in
    let letter : 118 ≡ 99 = ap (λ t. slice_index t 0) same in absurd (omega (arith, letter))
verify_asked (Some command) net order plan proof (Verify files limit) e asked =
    let same = same_Some _ _ e in (
      asked.1.net ∙ ap (λ c. c.1.0) same,
      asked.1.order ∙ ap (λ c. c.1.1.0) same,
      asked.1.plan ∙ ap (λ c. c.1.1.1.0) same,
      same_Some _ _ (sym asked.1.proof ∙ ap (λ c. c.1.1.1.1.0) same),
      asked.2 ∙ ap (λ c. c.1.1.1.1.1) same,
    )
verify_asked (Some command) net order plan proof (VerifyBound files limit) e asked =
    let clash : None ≡ Some proof = sym asked.1.alone ∙ ap (λ c. c.1.1.1.1.0) (same_Some _ _ e) in absurd (cc clash)
verify_asked (Some command) net order plan proof (Tool tool) e asked = absurd (no_tool_verify command tool (ap (λ c. c.0) (same_Some _ _ e)) asked)

verify_bound_paths : (name : Text) (a b d : ℕ) (net order proof : Text) → (a == 45) ≡ false → (b == 45) ≡ false → (d == 45) ≡ false →
    (fault_of racp (name ∷ codes "verify" ∷ (a ∷ net) ∷ (b ∷ order) ∷ (d ∷ proof) ∷ []) ≡ []) ×
    (with_four_paths (subcommand_of racp (name ∷ codes "verify" ∷ (a ∷ net) ∷ (b ∷ order) ∷ (d ∷ proof) ∷ [])) ≡ Some (codes "verify", (a ∷ net, (b ∷ order, (d ∷ proof, (None, None))))))
unfolding racp clap_on_literals with_four_paths
verify_bound_paths name a b d net order proof p q r = (rw (p, p, q, q, r, r) refl, rw (p, p, q, q, r, r) refl)

-- `verify` of a bound asks for the files with these paths
verify_bound_asked : (command : Option (Text × List Row)) (net order proof : Text) (request : Request) → with_four_paths command ≡ Some (codes "verify", (net, (order, (proof, (None, None))))) → IsRequested command request →
    AsksForVerifyBound net order proof request
unfolding with_four_paths
verify_bound_asked None net order proof request e asked = absurd (search rules)
verify_bound_asked (Some command) net order proof (Cpm network) e asked = absurd (asked.3 (ap (λ c. c.0) (same_Some _ _ e)))
verify_bound_asked (Some command) net order proof (Plan files memory crew) e asked =
    let same : codes "verify" ≡ codes "plan" = sym (ap (λ c. c.0) (same_Some _ _ e)) ∙ asked.0 in
    let letter : 118 ≡ 112 = ap (λ t. slice_index t 0) same in absurd (omega (arith, letter))
verify_bound_asked (Some command) net order proof (Prove files facts limit) e asked =
    let same : codes "verify" ≡ codes "prove" = sym (ap (λ c. c.0) (same_Some _ _ e)) ∙ asked.0 in
    let letter : 118 ≡ 112 = ap (λ t. slice_index t 0) same in absurd (omega (arith, letter))
verify_bound_asked (Some command) net order proof (Check files) e asked =
    let same : codes "verify" ≡ codes "check" = sym (ap (λ c. c.0) (same_Some _ _ e)) ∙ asked.0 in
    let letter : 118 ≡ 99 = ap (λ t. slice_index t 0) same in absurd (omega (arith, letter))
verify_bound_asked (Some command) net order proof (Verify files limit) e asked =
    let clash : None ≡ Some files.proof.now = sym (ap (λ c. c.1.1.1.1.0) (same_Some _ _ e)) ∙ asked.1.proof in absurd (cc clash)
verify_bound_asked (Some command) net order proof (VerifyBound files limit) e asked =
    let same = same_Some _ _ e in
    (asked.1.net ∙ ap (λ c. c.1.0) same, asked.1.order ∙ ap (λ c. c.1.1.0) same, asked.1.proof ∙ ap (λ c. c.1.1.1.0) same, asked.2 ∙ ap (λ c. c.1.1.1.1.1) same)
verify_bound_asked (Some command) net order proof (Tool tool) e asked = absurd (no_tool_verify command tool (ap (λ c. c.0) (same_Some _ _ e)) asked)

-- the parser takes each line that asks for `cpm`, and what is asked for is that
pub cpm_line : (words : List Text) (network : Option Text) → IsCpmLine words network → (fault_of racp words ≡ []) × ((request : Request) → IsRequested (subcommand_of racp words) request → AsksForCpm network request)
unfolding IsTaken
cpm_line words None (name, inl alone) =
    let taken = subst (λ (ws : List Text). IsTaken ws None) (sym alone) (no_words name) in (taken.0, λ request. none_asked (subcommand_of racp words) request taken.1)
cpm_line words None (name, inr is) =
    let taken = subst (λ (ws : List Text). IsTaken ws (Some (codes "cpm", None))) (sym is) (cpm_alone name) in (taken.0, λ request. cpm_asked (subcommand_of racp words) None request taken.1)
cpm_line words (Some word) (name, plain, is) =
    let taken = subst (λ (ws : List Text). IsTaken ws (Some (codes "cpm", Some word))) (sym is) (cpm_word name word plain) in (taken.0, λ request. cpm_asked (subcommand_of racp words) (Some word) request taken.1)

-- the parser takes each line that asks for `plan`, and what is asked for is that
pub plan_line : (words : List Text) (net order : Text) → IsPlanLine words net order →
    (fault_of racp words ≡ []) × ((request : Request) → IsRequested (subcommand_of racp words) request → AsksForPlan net order request)
plan_line words [] order (name, none, second, is) = absurd none
plan_line words (a ∷ net) [] (name, first, none, is) = absurd none
plan_line words (a ∷ net) (b ∷ order) (name, first, second, is) =
    let taken = plan_paths name a b net order (ne_eqb a 45 first) (ne_eqb b 45 second) in (
      ap (λ (ws : List Text). fault_of racp ws) is ∙ taken.0,
      λ request. plan_asked (subcommand_of racp words) (a ∷ net) (b ∷ order) request (ap (λ (ws : List Text). with_two_paths (subcommand_of racp ws)) is ∙ taken.1),
    )

-- the parser takes each line that asks for `plan` by workers, and what is asked for is that
pub workers_line : (words : List Text) (net order number : Text) → IsWorkersLine words net order number →
    (fault_of racp words ≡ []) × ((request : Request) → IsRequested (subcommand_of racp words) request → AsksForWorkers net order (number_in number) request)
unfolding fault_of_value
workers_line words [] order number (name, none, second, in_range, is) = absurd none
workers_line words (a ∷ net) [] number (name, first, none, in_range, is) = absurd none
workers_line words (a ∷ net) (b ∷ order) [] (name, first, second, in_range, is) = absurd (some_number in_range)
workers_line words (a ∷ net) (b ∷ order) (d ∷ digits) (name, first, second, in_range, is) =
    let p : (a == 45) ≡ false = ne_eqb a 45 first in
    let q : (b == 45) ≡ false = ne_eqb b 45 second in
    let r : (d == 45) ≡ false = no_hyphen d digits in_range in
    let passes : is_unsigned_in 0 64 (d ∷ digits) ≡ true = Accepts-accepts false (Unsigned 0 64) (d ∷ digits) in_range in (
      ap (λ (ws : List Text). fault_of racp ws) is ∙ (workers_fault name a b d net order digits p q r ∙ ap fault_of_value passes),
      λ request. workers_asked (subcommand_of racp words) (a ∷ net) (b ∷ order) (d ∷ digits) request in_range
          (ap (λ (ws : List Text). with_crew (subcommand_of racp ws)) is ∙ workers_words name a b d net order digits p q r),
    )

-- the parser takes each line that asks for `prove`, and what is asked for is that
pub prove_line : (words : List Text) (net order : Text) → IsProveLine words net order →
    (fault_of racp words ≡ []) × ((request : Request) → IsRequested (subcommand_of racp words) request → AsksForProve net order request)
prove_line words [] order (name, none, second, is) = absurd none
prove_line words (a ∷ net) [] (name, first, none, is) = absurd none
prove_line words (a ∷ net) (b ∷ order) (name, first, second, is) =
    let taken = prove_paths name a b net order (ne_eqb a 45 first) (ne_eqb b 45 second) in (
      ap (λ (ws : List Text). fault_of racp ws) is ∙ taken.0,
      λ request. prove_asked (subcommand_of racp words) (a ∷ net) (b ∷ order) request (ap (λ (ws : List Text). with_files (subcommand_of racp ws)) is ∙ taken.1),
    )

-- the parser takes each line that asks for `check`, and what is asked for is that
pub check_line : (words : List Text) (net order plan : Text) → IsCheckLine words net order plan →
    (fault_of racp words ≡ []) × ((request : Request) → IsRequested (subcommand_of racp words) request → AsksForCheck net order plan request)
check_line words [] order plan (name, none, second, third, is) = absurd none
check_line words (a ∷ net) [] plan (name, first, none, third, is) = absurd none
check_line words (a ∷ net) (b ∷ order) [] (name, first, second, none, is) = absurd none
check_line words (a ∷ net) (b ∷ order) (d ∷ plan) (name, first, second, third, is) =
    let line : List Text = name ∷ codes "check" ∷ (a ∷ net) ∷ (b ∷ order) ∷ (d ∷ plan) ∷ [] in
    let taken = check_paths name a b d net order plan (ne_eqb a 45 first) (ne_eqb b 45 second) (ne_eqb d 45 third) in (
      ap (λ (ws : List Text). fault_of racp ws) is ∙ taken.0,
      λ request. check_asked (subcommand_of racp words) (a ∷ net) (b ∷ order) (d ∷ plan) request (ap (λ (ws : List Text). with_paths (subcommand_of racp ws)) is ∙ taken.1),
    )

-- the parser takes each line that asks for `verify`, and what is asked for is that
pub verify_line : (words : List Text) (net order plan proof : Text) → IsVerifyLine words net order plan proof →
    (fault_of racp words ≡ []) × ((request : Request) → IsRequested (subcommand_of racp words) request → AsksForVerify net order plan proof request)
verify_line words [] order plan proof (name, none, second, third, fourth, is) = absurd none
verify_line words (a ∷ net) [] plan proof (name, first, none, third, fourth, is) = absurd none
verify_line words (a ∷ net) (b ∷ order) [] proof (name, first, second, none, fourth, is) = absurd none
verify_line words (a ∷ net) (b ∷ order) (d ∷ plan) [] (name, first, second, third, none, is) = absurd none
verify_line words (a ∷ net) (b ∷ order) (d ∷ plan) (f ∷ proof) (name, first, second, third, fourth, is) =
    let taken = verify_paths name a b d f net order plan proof (ne_eqb a 45 first) (ne_eqb b 45 second) (ne_eqb d 45 third) (ne_eqb f 45 fourth) in (
      ap (λ (ws : List Text). fault_of racp ws) is ∙ taken.0,
      λ request. verify_asked (subcommand_of racp words) (a ∷ net) (b ∷ order) (d ∷ plan) (f ∷ proof) request (ap (λ (ws : List Text). with_four_paths (subcommand_of racp ws)) is ∙ taken.1),
    )

-- the parser takes each line that asks for `verify` of a bound, and what is asked for is that
pub verify_bound_line : (words : List Text) (net order proof : Text) → IsVerifyBoundLine words net order proof →
    (fault_of racp words ≡ []) × ((request : Request) → IsRequested (subcommand_of racp words) request → AsksForVerifyBound net order proof request)
verify_bound_line words [] order proof (name, none, second, third, is) = absurd none
verify_bound_line words (a ∷ net) [] proof (name, first, none, third, is) = absurd none
verify_bound_line words (a ∷ net) (b ∷ order) [] (name, first, second, none, is) = absurd none
verify_bound_line words (a ∷ net) (b ∷ order) (d ∷ proof) (name, first, second, third, is) =
    let taken = verify_bound_paths name a b d net order proof (ne_eqb a 45 first) (ne_eqb b 45 second) (ne_eqb d 45 third) in (
      ap (λ (ws : List Text). fault_of racp ws) is ∙ taken.0,
      λ request. verify_bound_asked (subcommand_of racp words) (a ∷ net) (b ∷ order) (d ∷ proof) request (ap (λ (ws : List Text). with_four_paths (subcommand_of racp ws)) is ∙ taken.1),
    )
