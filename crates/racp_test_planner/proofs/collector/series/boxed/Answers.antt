use Rattle.racp_candidates.proofs.lemmas.Forms.{box_formed}
use Rattle.racp_test_planner.proofs.collector.series.boxed.Goals as goal

pub returns : goal.returns
returns c = box_formed c.args.net.now c.args.order.now c.args.floors c.args.roofs _ c.args.window.now c.in_ok-series.series c.in_ok-series.ensures c.requires.places c.requires.window
