use Rattle.std.proofs.Common.{◌≡◌, ◌∙◌, sym, ap, map, Option, Some, None, option_map, [], List}
use Rattle.std.specs.Prelude.{unwrap_or}
use Rattle.clap.specs.Words.{Text, all_of, found_of, rows_of}
use Rattle.clap.proofs.WalkLemmas.{raw_values-rows}
use Rattle.racp_words.proofs.options.paths_of.Goals as goal

pub returns-in-None : goal.returns-in-None
returns-in-None c =
    let words : all_of c.args.id.now (rows_of (found_of c.args.words.now)) ≡ None =
    sym (raw_values-rows (found_of c.args.words.now) c.args.id.now) ∙ (sym c.get_strs.ensures ∙ ap (option_map (λ paths. map (λ path. path.now) paths.now)) c.in-None.is) in
    ap (map (λ path. path.now)) c.new.ensures.items ∙ ap (λ (o : Option (List Text)). unwrap_or o []) (sym words)

pub returns-in_ok-paths-in-Some : goal.returns-in_ok-paths-in-Some
returns-in_ok-paths-in-Some c =
    let words : all_of c.args.id.now (rows_of (found_of c.args.words.now)) ≡ Some (map (λ path. path.now) c.in-Some.paths.now) =
    sym (raw_values-rows (found_of c.args.words.now) c.args.id.now) ∙ (sym c.get_strs.ensures ∙ ap (option_map (λ paths. map (λ path. path.now) paths.now)) c.in-Some.is) in
    ap (map (λ path. path.now)) (c.in_ok-paths-in-Some.ensures.items_if_clones_equal (λ x y same. same)) ∙ ap (λ (o : Option (List Text)). unwrap_or o []) (sym words)
