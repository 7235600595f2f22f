use Rattle.std.proofs.Common.{not, ap, ◌∙◌}
use Rattle.prepare_phase.proofs.ListLemmas.{none_is, alone_then}
use Rattle.prepare_phase.proofs.records.is_alone.Goals as goal

pub returns-then-is_none : goal.returns-then-is_none
returns-then-is_none c = ap not c.has_prepared.ensures ∙ alone_then c.args.live.now (none_is c.args.live.now.parent ∙ ap not (c.is_none.ensures ∙ ap not c.if-is_none.true))
