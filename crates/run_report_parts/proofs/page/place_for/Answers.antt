use Rattle.std.proofs.Common.{ap, ◌∙◌, sym}
use Rattle.std.specs.List.{insert}
use Rattle.run_report_parts.proofs.LineLemmas.{put_is_insert}
use Rattle.run_report_parts.proofs.page.place_for.Goals as goal

pub returns-clause-added : goal.returns-clause-added
returns-clause-added c =
    ap (λ place. insert c.args.lines.now place c.args.line.now) c.place_of.ensures.first
    ∙ sym (put_is_insert c.args.lines.now c.args.line.now)
