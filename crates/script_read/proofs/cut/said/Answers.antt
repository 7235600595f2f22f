use Rattle.std.proofs.Common.{ℕ, List, ◌++◌, not, ap, sym, ◌∙◌}
use Rattle.script_read.proofs.CleanLemmas.{says_all}
use Rattle.script_read.proofs.cut.said.Goals as goal

pub returns-then-is_none-clause-value : goal.returns-then-is_none-clause-value
returns-then-is_none-clause-value c =
    c.in_ok-extend_from_slice.ensures.items ∙ ap (λ (front : List ℕ). front ++ c.args.piece.now) c.in_ok-kept.ensures.items
    ∙ sym (says_all c.args.piece.now c.memchr.result c.memchr.ensures (c.is_none.ensures ∙ ap not c.if-is_none.true))
