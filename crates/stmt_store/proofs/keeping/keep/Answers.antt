-- The changes are of a table that is there and few; where they are kept their keys are written, and else the keys are given back.
use Rattle.std.proofs.Common.{true, false, List, None, take, length, ap, sym, subst, ◌∙◌, arith}
use Rattle.std.specs.List.{All}
use Rattle.dtx_values.specs.declared.row.Change.{Change}
use Rattle.dtx_values.specs.declared.value.Value.{Value}
use Rattle.dtx_values.specs.declared.answer.Answer.TheVariants as answers
use Rattle.row_locks.specs.Locks.{Lock}
use Rattle.stmt_run.specs.Run.{answer_of_run, locks_after, take_keys}
use Rattle.stmt_run.specs.Keys.{IsFree, IsHeld}
use Rattle.stmt_run.proofs.Taken.{stay_first, all_held, written_then}
use Rattle.stmt_store.proofs.ChangeLaws.{few_changes, of_tables, ran_as_told, store_as_told}
use Rattle.stmt_store.proofs.keeping.keep.Goals as goal

pub take_all-requires : goal.take_all-requires
take_all-requires c =
    subst (λ (keys : List Value). All (IsFree c.args.locks.now c.args.branch.now c.args.table.now.name) keys) (sym c.as_slice.ensures) c.requires.free

pub take_in-requires : goal.take_in-requires
take_in-requires c = of_tables c.args.store.now.rows c.args.table.now c.args.changes c.requires.table c.requires.changes

-- ---- they are kept

pub write_all-requires : goal.write_all-requires
write_all-requires c =
    let ls = c.args.locks.now in
    let b = c.args.branch.now in
    let name = c.args.table.now.name in
    let taken = c.in_ok-take_all.ensures.ok ∙ ap (take_keys ls b name false) c.as_slice.ensures in
    subst (λ (keys : List Value). All (IsHeld c.take_all.new.locks name) keys) (sym c.as_slice-in-Ok-None.ensures)
    (subst (λ (xs : List Lock). All (IsHeld xs name) c.args.keys.now) (sym taken) (all_held b name ls c.args.keys.now false))

pub overflow_cast-count : goal.overflow_cast-count
overflow_cast-count c =
    let few = few_changes c.args.store.now c.args.branch.now c.args.changes (sym c.in-Ok-None.ensures.refusal ∙ c.in-Ok-None.field-0-is) in
    let same = ap length c.as_slice-many.ensures in
    omega arith

pub returns-in-Ok-None-clause-answer : goal.returns-in-Ok-None-clause-answer
returns-in-Ok-None-clause-answer c =
    ap (λ (cs : List Change). answers.Did c.args.done (length cs)) c.as_slice-many.ensures
    ∙ ap answer_of_run
    (sym (ran_as_told c.args.store.now c.args.locks.now c.args.branch.now c.args.table.now c.args.done c.args.changes c.args.keys.now None c.requires.changes (sym c.in-Ok-None.field-0-is ∙ c.in-Ok-None.ensures.refusal)))

pub returns-in-Ok-None-clause-store : goal.returns-in-Ok-None-clause-store
returns-in-Ok-None-clause-store c =
    c.in-Ok-None.ensures.store
    ∙ store_as_told c.args.store.now c.args.locks.now c.args.branch.now c.args.table.now c.args.done c.args.changes c.args.keys.now _ c.requires.changes c.in-Ok-None.ensures.refusal

pub returns-in-Ok-None-clause-locks : goal.returns-in-Ok-None-clause-locks
returns-in-Ok-None-clause-locks c =
    let ls = c.args.locks.now in
    let b = c.args.branch.now in
    let name = c.args.table.now.name in
    let taken = c.in_ok-take_all.ensures.ok ∙ ap (take_keys ls b name false) c.as_slice.ensures in
    c.write_all.ensures ∙ (λ i. take_keys (taken i) b name true (c.as_slice-in-Ok-None.ensures i)) ∙ written_then b name c.args.keys.now ls
    ∙ ap (locks_after ls b c.args.table.now)
    (sym (ran_as_told c.args.store.now ls b c.args.table.now c.args.done c.args.changes c.args.keys.now None c.requires.changes (sym c.in-Ok-None.field-0-is ∙ c.in-Ok-None.ensures.refusal)))

-- ---- they are refused

pub returns-in-Ok-Some-clause-answer : goal.returns-in-Ok-Some-clause-answer
returns-in-Ok-Some-clause-answer c =
    ap answer_of_run
    (sym (ran_as_told c.args.store.now c.args.locks.now c.args.branch.now c.args.table.now c.args.done c.args.changes c.args.keys.now _ c.requires.changes (sym c.in-Ok-Some.field-0-is ∙ c.in-Ok-Some.ensures.refusal)))

pub returns-in-Ok-Some-clause-store : goal.returns-in-Ok-Some-clause-store
returns-in-Ok-Some-clause-store c =
    c.in-Ok-Some.ensures.store
    ∙ store_as_told c.args.store.now c.args.locks.now c.args.branch.now c.args.table.now c.args.done c.args.changes c.args.keys.now _ c.requires.changes c.in-Ok-Some.ensures.refusal

pub returns-in-Ok-Some-clause-locks : goal.returns-in-Ok-Some-clause-locks
returns-in-Ok-Some-clause-locks c =
    let ls = c.args.locks.now in
    let b = c.args.branch.now in
    let name = c.args.table.now.name in
    let taken = c.in_ok-take_all.ensures.ok ∙ ap (take_keys ls b name false) c.as_slice.ensures in
    c.keep_first.ensures ∙ (λ i. take (c.len-before.ensures i) (taken i)) ∙ stay_first b name c.args.keys.now ls
    ∙ ap (locks_after ls b c.args.table.now)
    (sym (ran_as_told c.args.store.now ls b c.args.table.now c.args.done c.args.changes c.args.keys.now _ c.requires.changes (sym c.in-Ok-Some.field-0-is ∙ c.in-Ok-Some.ensures.refusal)))

-- ---- memory runs out

pub returns-in-Err-clause-err_locks : goal.returns-in-Err-clause-err_locks
returns-in-Err-clause-err_locks c =
    let ls = c.args.locks.now in
    let b = c.args.branch.now in
    let name = c.args.table.now.name in
    let taken = c.in_ok-take_all.ensures.ok ∙ ap (take_keys ls b name false) c.as_slice.ensures in
    c.keep_first-in-Err.ensures ∙ (λ i. take (c.len-before.ensures i) (taken i)) ∙ stay_first b name c.args.keys.now ls
