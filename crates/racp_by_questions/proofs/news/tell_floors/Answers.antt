use Rattle.std.proofs.Common.{◌≡◌}
use Rattle.racp_model.specs.Terms.{cost}
use Rattle.racp_found.specs.declared.observer.News.TheVariants.{Cost}
use Rattle.racp_by_questions.proofs.Telling.{floors_cost}
use Rattle.racp_by_questions.proofs.news.tell_floors.Goals as goal

pub hear-requires : goal.hear-requires
hear-requires g c =
    let priced : c.cost_of.result ≡ cost c.args.order.now c.args.floors.now = cc (c.cost_of.ensures, c.as_slice.ensures) in
    c.requires.heard (Cost c.cost_of.result) (floors_cost c.args.net.now c.args.order.now c.requires.terms c.args.floors.now c.requires.floors c.cost_of.result priced)
