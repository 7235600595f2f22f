use Rattle.std.proofs.Common.{sym, ◌∙◌}
use Rattle.script_read.proofs.CleanLemmas.{stands_from}
use Rattle.script_read.proofs.cut.all_may_stand.Goals as goal

pub returns-then-has_no_control : goal.returns-then-has_no_control
returns-then-has_no_control c = sym (stands_from c.args.piece.now c.blank_len.result c.blank_len.ensures.value (sym c.has_no_control.ensures ∙ c.if-has_no_control.true))
