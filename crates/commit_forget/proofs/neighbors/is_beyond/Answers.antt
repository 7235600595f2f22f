use Rattle.std.proofs.Common.{◌∙◌, sym}
use Rattle.commit_forget.proofs.BeyondLemmas.{beyond_by_parent, beyond_by_kids}
use Rattle.commit_forget.proofs.neighbors.is_beyond.Goals as goal

pub returns-then-is_parent_beyond : goal.returns-then-is_parent_beyond
returns-then-is_parent_beyond c =
    c.if-is_parent_beyond.true
    ∙ sym (beyond_by_parent c.args.row.now c.args.from.now (sym c.is_parent_beyond.ensures ∙ c.if-is_parent_beyond.true))

pub returns-else-is_parent_beyond : goal.returns-else-is_parent_beyond
returns-else-is_parent_beyond c =
    c.is_kid_beyond.ensures ∙ beyond_by_kids c.args.row.now c.args.from.now (sym c.is_parent_beyond.ensures ∙ c.if-is_parent_beyond.false)
