use Rattle.std.proofs.Common.{rules, ◌≡◌, ◌<◌, ◌++◌}
use Rattle.chart_text.specs.Plain.{row_lines}
use Rattle.chart_text.proofs.LineLemmas.{lines_step}
use Rattle.chart_text.proofs.plain_text.put_all_lines.Goals as goal

pub loop-row-preserved : goal.loop-row-preserved
loop-row-preserved c =
    let low : c.loop-row.row < c.args.window.bottom = search rules in
    let added : c.put_lines.new.out.items ≡ c.loop-row.out.items ++ row_lines c.args.window c.args.marks.now c.loop-row.row = search rules in
    lines_step c.args.window c.args.marks.now c.loop-row.row c.args.window.bottom c.loop-row.out.items c.put_lines.new.out.items _ low added c.loop-row.invariant
