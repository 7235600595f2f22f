use Rattle.std.proofs.Common.{◌∙◌, sym}
use Rattle.commit_forget.proofs.BeyondLemmas.{acked_by_kids, not_acked}
use Rattle.commit_forget.proofs.neighbors.all_acked.Goals as goal

pub returns-then-parent_has_acked : goal.returns-then-parent_has_acked
returns-then-parent_has_acked c =
    c.kids_have_acked.ensures ∙ acked_by_kids c.args.row.now (sym c.parent_has_acked.ensures ∙ c.if-parent_has_acked.true)

pub returns-else-parent_has_acked : goal.returns-else-parent_has_acked
returns-else-parent_has_acked c =
    c.if-parent_has_acked.false ∙ sym (not_acked c.args.row.now (sym c.parent_has_acked.ensures ∙ c.if-parent_has_acked.false))
