use Rattle.std.proofs.Common.{◌≡◌, ◌∙◌, sym, ap, Option, Some, None, option_map, []}
use Rattle.std.specs.Prelude.{unwrap_or}
use Rattle.clap.specs.Words.{Text, first_of, found_of, rows_of}
use Rattle.clap.proofs.WalkLemmas.{first_value-rows}
use Rattle.racp_words.proofs.options.path_of.Goals as goal

pub returns-in-Some : goal.returns-in-Some
returns-in-Some c =
    let word : first_of c.args.id.now (rows_of (found_of c.args.words.now)) ≡ Some c.in-Some.path.now =
    sym (first_value-rows (found_of c.args.words.now) c.args.id.now) ∙ (sym c.get_str.ensures ∙ ap (option_map (λ p. p.now)) c.in-Some.is) in
    ap (λ (o : Option Text). unwrap_or o []) (sym word)

pub returns-in-None : goal.returns-in-None
returns-in-None c =
    let word : first_of c.args.id.now (rows_of (found_of c.args.words.now)) ≡ None =
    sym (first_value-rows (found_of c.args.words.now) c.args.id.now) ∙ (sym c.get_str.ensures ∙ ap (option_map (λ p. p.now)) c.in-None.is) in
    ap (λ (o : Option Text). unwrap_or o []) (sym word)
