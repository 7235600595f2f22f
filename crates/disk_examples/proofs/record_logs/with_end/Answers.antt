use Rattle.std.proofs.Common.{List, ℕ, ◌++◌, ap, sym, subst, ◌∙◌}
use Rattle.record_log.specs.Held.{HoldRecords}
use Rattle.disk_examples.proofs.FirstStart.{first_start, holds_first}
use Rattle.disk_examples.proofs.record_logs.with_end.Goals as goal

pub returns : goal.returns
returns c =
    subst (HoldRecords first_start) (sym (c.in_ok-extend_from_slice.ensures.items ∙ ap (λ (l : List ℕ). l ++ c.args.behind.now) c.in_ok-bytes.ensures.items))
    (holds_first c.args.gate c.args.behind.now c.requires)
