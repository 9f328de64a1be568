use Rattle.std.proofs.Common.{◌≡◌, ◌∙◌, ℕ, List, ap, sym, take}
use Rattle.std.proofs.Math.Seq.{take-length}
use Rattle.std.specs.List.{before_first, slice_split}
use Rattle.racp_text.specs.Cuts.{is_line_feed}
use Rattle.racp_sm.specs.Lines.{is_end, line_pieces, numbered}
use Rattle.racp_sm.proofs.line.Lines.new.Goals as goal
use Rattle.racp_sm.proofs.line.Lines.new.Goals.{in-Some, in-None}

pub returns : goal.returns
returns c =
    let whole : c.match-cut_at.rest.now ≡ before_first is_end c.args.text.now = elim c.match-cut_at.branch [
      | in-Some w ↦ ap (λ rest. rest.now) w.rest-is ∙ w.in-Some.ensures.1
      | in-None w ↦ ap (λ rest. rest.now) w.rest-is ∙ sym (ap (λ n. take n c.args.text.now) w.in-None.ensures ∙ take-length c.args.text.now)
    ] in
    ap (λ (rest : List ℕ). numbered 1 (line_pieces (slice_split is_line_feed rest))) whole
