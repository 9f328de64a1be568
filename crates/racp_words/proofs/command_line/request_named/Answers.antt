use Rattle.std.proofs.Common.{◌≢◌, subst, rules, codes, Option}
use Rattle.clap.specs.Words.{Text, found_of}
use Rattle.clap.proofs.WalkLemmas.{first_value-rows}
use Rattle.racp_words.specs.CommandLine.{IsSource}
use Rattle.racp_words.proofs.command_line.request_named.Goals as goal

pub returns-in-None : goal.returns-in-None
returns-in-None c =
    let no_plan : c.args.name.now ≢ codes "plan" = search rules in
    let no_prove : c.args.name.now ≢ codes "prove" = search rules in
    let no_check : c.args.name.now ≢ codes "check" = search rules in
    let no_verify : c.args.name.now ≢ codes "verify" = search rules in
    (no_plan, no_prove, no_check, no_verify, c.in-None.ensures.none, subst (λ (o : Option Text). IsSource o c.network_of.result) (first_value-rows (found_of c.args.words.now) (codes "NET")) c.network_of.ensures)
