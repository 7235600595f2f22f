use Rattle.std.proofs.Common.{◌<◌, cond, Some, List, [], ◌∷◌, ◌++◌, ap, subst, ◌∙◌, arith}
use Rattle.std.specs.Prelude.{OnOk}
use Rattle.std.specs.Map.{lookup}
use Rattle.std.proofs.lemmas.Bool.Decides.{nat_tests}
use Rattle.indexmap.specs.IndexMap.{Updates}
use Rattle.row_locks.specs.Numbered.{Numbered, is_on}
use Rattle.std.proofs.Common.{find}
use Rattle.row_locks.proofs.NumberLaws.{insert_last}
use Rattle.row_locks.proofs.FindLaws.{found_as}
use Rattle.row_locks.proofs.KeptLaws.{one_more}
use Rattle.row_locks.proofs.numbered_locks.NumberedLocks.push.Goals as goal

pub invariant_of-self-2 : goal.invariant_of-self-2
invariant_of-self-2 c =
    let s = c.self.inside in
    let h = c.args.lock in
    let less : s.next < c.in_ok-next.next = grind (arith, nat_tests, c.checked_add.ensures, c.in_ok-next.ensures.ok_part, c.in_ok-next.was) in
    let free = ap (λ (es : List Numbered). find (is_on h.table h.key) es) c.self.view_is ∙ c.requires.free in
    let put = subst (λ r. OnOk r (Updates found_as c.reserve.new.self c.insert-2.new.self c.in_ok-key.key (Some s.next))) c.unwrap.ensures c.insert-2.ensures.updates in
    one_more h s.next c.in_ok-next.next s.doubts s.locks.entries c.insert.new.self.entries s.numbers.entries c.insert-2.new.self.entries c.in_ok-key.key c.self.invariant free c.requires.live
    c.in_ok-insert.ensures.entries c.insert.ensures.ordered less c.in_ok-key.ensures.table c.in_ok-key.ensures.key
    (λ q. put.0 q ∙ ap (λ ks. cond (found_as c.in_ok-key.key q) (Some s.next) (lookup (found_as q) ks)) c.reserve.ensures.entries)

pub returns-clause-ok : goal.returns-clause-ok
returns-clause-ok c =
    let s = c.self.inside in
    c.in_ok-insert.ensures.entries ∙ insert_last s.next c.args.lock s.locks.entries c.self.invariant.below
    ∙ ap (λ (es : List Numbered). es ++ (s.next, c.args.lock) ∷ []) c.self.view_is

pub returns-clause-apart : goal.returns-clause-apart
returns-clause-apart c = (invariant_of-self-2 c).apart
