use Rattle.std.proofs.Common.{◌∙◌, sym, arith}
use Rattle.racp_model.proofs.lemmas.Usage.{use_of-active}
use Rattle.racp_model.proofs.usage.use_at.Goals as goal

pub returns-then-time-starts : goal.returns-then-time-starts
returns-then-time-starts c =
    c.request.ensures
    ∙ sym (use_of-active c.args.net.now c.args.starts.now c.args.k c.args.time c.args.i (record { started = c.if-starts-i.true; runs = omega (arith, c.if-time-starts.true, c.duration.ensures) }))
