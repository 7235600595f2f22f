use Rattle.std.proofs.Common.{◌≡◌, List, sym, ap, ◌∙◌, ◌&&◌, arith}
use Rattle.std.specs.Prelude.{nat_lt}
use Rattle.std.specs.List.{list_any}
use Rattle.std.specs.Str.{bytes_eq}
use Rattle.row_locks.specs.Numbered.{Numbered}
use Rattle.row_locks.proofs.KeptLaws.{none_doubted}
use Rattle.row_locks.proofs.numbered_locks.NumberedLocks.has_doubt.Goals as goal

pub returns-else-self-gt0 : goal.returns-else-self-gt0
returns-else-self-gt0 c =
    let s = c.self.inside in
    let zero : s.doubts ≡ 0 = omega arith in
    ap (λ n. nat_lt 0 n) zero
    ∙ sym (none_doubted c.args.table.now s.locks.entries (sym zero ∙ c.self.invariant.counted))
    ∙ ap (λ (es : List Numbered). list_any (λ e. e.1.in_doubt && bytes_eq e.1.table c.args.table.now) es) c.self.view_is
