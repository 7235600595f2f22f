use Rattle.std.proofs.Common.{List, [], ◌∷◌, ◌++◌, false, find, sym, ap, ◌∙◌}
use Rattle.row_locks.specs.Locks.{Lock, holder_of, taken}
use Rattle.row_locks.specs.Numbered.{locks_in, is_on}
use Rattle.row_locks.proofs.KeyLaws.{free_is}
use Rattle.row_locks.proofs.LinkLaws.{add_is, undone, linked_back, on_err_so, err_so, ok_so}
use Rattle.row_locks.proofs.locks.Locks.add.Goals as goal

pub push-requires-clause-free : goal.push-requires-clause-free
push-requires-clause-free c =
    let es = c.self.inside.locks in
    let table = c.args.table.now in
    let key = c.args.key.now in
    (λ i. find (is_on (c.in_ok-copy.ensures i) (c.in_ok-copy-2.ensures i)) es) ∙ free_is table key es (ap (λ (ls : List Lock). holder_of ls table key) c.self.view_is ∙ c.requires)

pub invariant_of-self-then-is_err : goal.invariant_of-self-then-is_err
invariant_of-self-then-is_err c =
    let s = c.self.inside in
    let failed = sym c.is_err.ensures.value ∙ c.if-is_err.true in
    linked_back s.locks c.remove.new.self s.by_branch c.push-noted.new.self c.self.invariant
    (undone c.in_ok-number.number _ s.locks c.push.new.self c.remove.new.self c.in_ok-number.ensures.apart c.in_ok-number.ensures.ok c.remove.ensures)
    (on_err_so c.push-noted.result failed c.push-noted.ensures.err)

pub returns-then-is_err-clause-err : goal.returns-then-is_err-clause-err
returns-then-is_err-clause-err c =
    let s = c.self.inside in
    err_so c.push-noted.result
    (ap locks_in (undone c.in_ok-number.number _ s.locks c.push.new.self c.remove.new.self c.in_ok-number.ensures.apart c.in_ok-number.ensures.ok c.remove.ensures) ∙ c.self.view_is)

pub returns-else-is_err-clause-ok : goal.returns-else-is_err-clause-ok
returns-else-is_err-clause-ok c =
    let es = c.self.inside.locks in
    let table = c.args.table.now in
    let key = c.args.key.now in
    let branch = c.args.branch.now in
    let n = c.in_ok-number.number in
    ok_so c.push-noted.result
    (add_is table key branch c.args.writes n es c.push.new.self (ap (λ (ls : List Lock). holder_of ls table key) c.self.view_is ∙ c.requires)
    (c.in_ok-number.ensures.ok ∙ (λ i. es ++ (n, record { table = c.in_ok-copy.ensures i; key = c.in_ok-copy-2.ensures i; branch = branch; writes = c.args.writes; in_doubt = false }) ∷ []))
    ∙ ap (λ (ls : List Lock). taken ls branch table key c.args.writes) c.self.view_is)
