use Rattle.std.proofs.Common.{◌≡◌, ◌<◌, List, true, length, sym, ap, ◌∙◌, arith}
use Rattle.std.specs.Map.{lookup}
use Rattle.row_locks.specs.Numbered.{Numbered, is_number, is_live_one}
use Rattle.row_locks.proofs.KeptLaws.{not_all_doubted, one_doubted}
use Rattle.row_locks.proofs.ChangedLaws.{doubted_before}
use Rattle.row_locks.proofs.numbered_locks.NumberedLocks.mark_in_doubt.Goals as goal

pub prove-unreachable-requires : goal.prove-unreachable-requires
prove-unreachable-requires c =
    let s = c.self.inside in
    let live : true ≡ is_live_one (lookup (is_number c.args.number) s.locks.entries) =
    sym c.if-is_live.true ∙ c.is_live.ensures.live ∙ ap (λ (es : List Numbered). is_live_one (lookup (is_number c.args.number) es)) (sym c.self.view_is) in
    let fewer : s.doubts < length s.locks.entries = not_all_doubted c.args.number s.next s.doubts s.locks.entries s.numbers.entries c.self.invariant live in
    let all : c.len.result ≡ length s.locks.entries = c.len.ensures.len in
    omega arith

pub invariant_of-self : goal.invariant_of-self
invariant_of-self c =
    let s = c.self.inside in
    let live : true ≡ is_live_one (lookup (is_number c.args.number) s.locks.entries) =
    sym c.if-is_live.true ∙ c.is_live.ensures.live ∙ ap (λ (es : List Numbered). is_live_one (lookup (is_number c.args.number) es)) (sym c.self.view_is) in
    one_doubted c.args.number s.next s.doubts s.locks.entries c.doubt.new.locks.entries s.numbers.entries c.self.invariant live c.doubt.ensures

pub returns-else-is_live : goal.returns-else-is_live
returns-else-is_live c =
    sym (doubted_before c.args.number c.args.self.now c.is_live.ensures.apart.numbers (sym c.is_live.ensures.live ∙ c.if-is_live.false))
