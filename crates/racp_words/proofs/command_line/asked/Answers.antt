use Rattle.std.proofs.Common.{◌≡◌, ◌∙◌, sym, ap, subst, map, string_bytes, List, Option, true, inl, inr, refl, []}
use Rattle.std.proofs.lemmas.Result.{err_from_is_err_and}
use Rattle.clap.specs.Words.{App, HasKind, Kinds, Row, Text, app_of, fault_of, is_simple, is_simple_and_free, kind_of, subcommand_of, subcommand_rows_of}
use Rattle.clap.specs.declared.error.Error.{Error}
use Rattle.clap.specs.declared.error.kind.ErrorKind.TheVariants.{OutOfMemory}
use Rattle.racp_words.specs.CommandLine.{IsTask, racp}
use Rattle.racp_words.proofs.Words.{cpm_line, plan_line, workers_line, prove_line, check_line, verify_line, verify_bound_line}
use Rattle.racp_words.proofs.command_line.asked.Goals as goal

simple : is_simple racp ≡ true
unfolding racp
simple = refl

free : is_simple_and_free racp ≡ true
unfolding racp
free = refl

pub returns-clause-asked : goal.returns-clause-asked
returns-clause-asked c =
    let words : List Text = map string_bytes c.args.words.now in
    let is_racp : app_of c.in_ok-command.field-0 ≡ racp = c.in_ok-command.ensures in
    let entered : subcommand_rows_of c.in_ok-matches.matches ≡ subcommand_of racp words =
    (c.in_ok-matches.ensures.matches (ap is_simple is_racp ∙ simple)).1 ∙ ap (λ a. subcommand_of a words) is_racp in
    subst (λ (command : Option (Text × List Row)). IsTask command c.in_ok-task.task) entered c.in_ok-task.ensures

pub returns-clause-faults : goal.returns-clause-faults
returns-clause-faults c =
    let is_racp : app_of c.in_ok-command.field-0 ≡ racp = c.in_ok-command.ensures in
    ap (λ a. fault_of a (map string_bytes c.args.words.now)) (sym is_racp)
    ∙ c.in_ok-matches.ensures.kinds (ap is_simple_and_free is_racp ∙ free)

-- the parser's error has a kind of these words
refused : (c : goal.After-from_residual-in_err-matches) → HasKind (fault_of racp (map string_bytes c.args.words.now)) c.in_err-matches.field-0.0
refused c =
    let is_racp : app_of c.in_ok-command.field-0 ≡ racp = c.in_ok-command.ensures in
    subst (λ (a : App). HasKind (fault_of a (map string_bytes c.args.words.now)) c.in_err-matches.field-0.0) is_racp
    (c.in_err-matches.ensures.kinds (ap is_simple_and_free is_racp ∙ free))

pub returns-in_err-matches-clause-faults : goal.returns-in_err-matches-clause-faults
returns-in_err-matches-clause-faults c =
    let p = err_from_is_err_and c.from_residual-in_err-matches.result c.from_residual-in_err-matches.ensures.1 in
    rw (p.1, p.2) (refused c)

pub returns-clause-cpm : goal.returns-clause-cpm
returns-clause-cpm c network line = (cpm_line (map string_bytes c.args.words.now) network line).1 c.in_ok-task.task.request (returns-clause-asked c).request

pub returns-clause-plan : goal.returns-clause-plan
returns-clause-plan c net order line = (plan_line (map string_bytes c.args.words.now) net order line).1 c.in_ok-task.task.request (returns-clause-asked c).request

pub returns-clause-workers : goal.returns-clause-workers
returns-clause-workers c net order number line = (workers_line (map string_bytes c.args.words.now) net order number line).1 c.in_ok-task.task.request (returns-clause-asked c).request

pub returns-clause-prove : goal.returns-clause-prove
returns-clause-prove c net order line = (prove_line (map string_bytes c.args.words.now) net order line).1 c.in_ok-task.task.request (returns-clause-asked c).request

pub returns-clause-check : goal.returns-clause-check
returns-clause-check c net order plan line = (check_line (map string_bytes c.args.words.now) net order plan line).1 c.in_ok-task.task.request (returns-clause-asked c).request

pub returns-clause-verify : goal.returns-clause-verify
returns-clause-verify c net order plan proof line = (verify_line (map string_bytes c.args.words.now) net order plan proof line).1 c.in_ok-task.task.request (returns-clause-asked c).request

pub returns-clause-verify_bound : goal.returns-clause-verify_bound
returns-clause-verify_bound c net order proof line = (verify_bound_line (map string_bytes c.args.words.now) net order proof line).1 c.in_ok-task.task.request (returns-clause-asked c).request

-- an error of none of the kinds is want of memory
only_memory : (e : Error) → HasKind [] e → kind_of e ≡ OutOfMemory
only_memory e (inl memory) = memory
only_memory e (inr none) = absurd none

-- where the words have no fault, only memory can fail
free_of_fault : (c : goal.After-from_residual-in_err-matches) → fault_of racp (map string_bytes c.args.words.now) ≡ [] → kind_of c.in_err-matches.field-0.0 ≡ OutOfMemory
free_of_fault c taken = only_memory c.in_err-matches.field-0.0 (subst (λ (kinds : Kinds). HasKind kinds c.in_err-matches.field-0.0) taken (refused c))

pub returns-in_err-matches-clause-cpm : goal.returns-in_err-matches-clause-cpm
returns-in_err-matches-clause-cpm c network line =
    let p = err_from_is_err_and c.from_residual-in_err-matches.result c.from_residual-in_err-matches.ensures.1 in
    rw (p.1, p.2) (free_of_fault c (cpm_line (map string_bytes c.args.words.now) network line).0)

pub returns-in_err-matches-clause-plan : goal.returns-in_err-matches-clause-plan
returns-in_err-matches-clause-plan c net order line =
    let p = err_from_is_err_and c.from_residual-in_err-matches.result c.from_residual-in_err-matches.ensures.1 in
    rw (p.1, p.2) (free_of_fault c (plan_line (map string_bytes c.args.words.now) net order line).0)

pub returns-in_err-matches-clause-workers : goal.returns-in_err-matches-clause-workers
returns-in_err-matches-clause-workers c net order number line =
    let p = err_from_is_err_and c.from_residual-in_err-matches.result c.from_residual-in_err-matches.ensures.1 in
    rw (p.1, p.2) (free_of_fault c (workers_line (map string_bytes c.args.words.now) net order number line).0)

pub returns-in_err-matches-clause-prove : goal.returns-in_err-matches-clause-prove
returns-in_err-matches-clause-prove c net order line =
    let p = err_from_is_err_and c.from_residual-in_err-matches.result c.from_residual-in_err-matches.ensures.1 in
    rw (p.1, p.2) (free_of_fault c (prove_line (map string_bytes c.args.words.now) net order line).0)

pub returns-in_err-matches-clause-check : goal.returns-in_err-matches-clause-check
returns-in_err-matches-clause-check c net order plan line =
    let p = err_from_is_err_and c.from_residual-in_err-matches.result c.from_residual-in_err-matches.ensures.1 in
    rw (p.1, p.2) (free_of_fault c (check_line (map string_bytes c.args.words.now) net order plan line).0)

pub returns-in_err-matches-clause-verify : goal.returns-in_err-matches-clause-verify
returns-in_err-matches-clause-verify c net order plan proof line =
    let p = err_from_is_err_and c.from_residual-in_err-matches.result c.from_residual-in_err-matches.ensures.1 in
    rw (p.1, p.2) (free_of_fault c (verify_line (map string_bytes c.args.words.now) net order plan proof line).0)

pub returns-in_err-matches-clause-verify_bound : goal.returns-in_err-matches-clause-verify_bound
returns-in_err-matches-clause-verify_bound c net order proof line =
    let p = err_from_is_err_and c.from_residual-in_err-matches.result c.from_residual-in_err-matches.ensures.1 in
    rw (p.1, p.2) (free_of_fault c (verify_bound_line (map string_bytes c.args.words.now) net order proof line).0)
