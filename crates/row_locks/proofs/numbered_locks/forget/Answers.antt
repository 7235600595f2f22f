use Rattle.std.proofs.Common.{None, get_or, sym, subst, ◌∙◌}
use Rattle.std.specs.Prelude.{IfSome}
use Rattle.indexmap.specs.IndexMap.{Updates}
use Rattle.row_locks.specs.declared.lock_key.LockKey.{LockKey}
use Rattle.row_locks.proofs.FindLaws.{found_as, asked}
use Rattle.row_locks.proofs.KeptLaws.{first_entry, forgotten, nothing_forgotten}
use Rattle.row_locks.proofs.numbered_locks.forget.Goals as goal

pub returns-in-Some : goal.returns-in-Some
returns-in-Some c =
    let h = c.args.lock.now in
    let ks = c.args.numbers.now.entries in
    let k : LockKey = asked h.table h.key in
    let first = first_entry (found_as k) ks c.in-Some.place (k, 0) (sym c.in-Some.ensures.index) in
    let e = get_or ks c.in-Some.place (k, 0) in
    let removed = subst (λ r. IfSome r (λ p. Updates found_as c.args.numbers.now c.swap_remove_index.new.self p.0 None)) (c.swap_remove_index.ensures.entry ∙ first.0) c.swap_remove_index.ensures.updates in
    forgotten h ks c.swap_remove_index.new.self.entries e.0 first.1 removed.0

pub returns : goal.returns
returns c = nothing_forgotten c.args.lock.now c.args.numbers.now.entries c.in_default.ensures.found
