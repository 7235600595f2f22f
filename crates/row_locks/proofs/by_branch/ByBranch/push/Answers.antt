use Rattle.std.proofs.Common.{◌≡◌, ℕ, cond, List, [], ◌∷◌, ◌++◌, Some, refl, sym, ap, ◌∙◌}
use Rattle.std.specs.Map.{lookup}
use Rattle.indexmap.specs.Layout.{set_value_at}
use Rattle.tran_ids.specs.Branch.{same}
use Rattle.row_locks.specs.ByBranch.{numbers_at}
use Rattle.row_locks.proofs.MapLaws.{Entry, found_as, numbers_there, numbers_none, updated_by, placed, same_set, on_ok, on_err}
use Rattle.row_locks.proofs.by_branch.ByBranch.push.Goals as goal

pub returns-in-Some-clause-ok : goal.returns-in-Some-clause-ok
returns-in-Some-clause-ok c =
    let b = c.args.branch.now in
    let es = c.self.inside.numbers.entries in
    let x = c.index_mut.result.now in
    let n = c.args.number in
    on_ok c.push.result
    (λ pushed b'.
    updated_by b (λ ns. ns ++ n ∷ []) x es _
    (numbers_there b es x (sym c.in-Some.ensures.value ∙ c.index_mut.ensures.value))
    (placed b c.self.inside.numbers c.in-Some.place c.push.new.self (x ++ n ∷ []) c.get_index_of.ensures.unique (sym c.in-Some.ensures.index) refl pushed) b'
    ∙ ap (λ (fs : List Entry). cond (same b b') (numbers_at fs b' ++ n ∷ []) (numbers_at fs b')) c.self.view_is)
    c.push.ensures.ok

pub returns-in-Some-clause-err : goal.returns-in-Some-clause-err
returns-in-Some-clause-err c =
    let es = c.self.inside.numbers.entries in
    on_err c.push.result
    (λ unchanged. ap (λ (x : List ℕ). set_value_at es c.in-Some.place x) unchanged ∙ same_set es c.in-Some.place c.index_mut.result.now c.index_mut.ensures.value ∙ c.self.view_is)
    c.push.ensures.err

pub returns-clause-ok : goal.returns-clause-ok
returns-clause-ok c =
    let b = c.args.branch.now in
    let es = c.self.inside.numbers.entries in
    let n = c.args.number in
    let none = numbers_none b es c.in_default.ensures.found in
    let one : c.push-2.new.self ≡ [] ++ n ∷ [] = c.in_ok-push.ensures.ok ∙ ap (λ (ns : List ℕ). ns ++ n ∷ []) c.new-numbers.ensures in
    λ b'.
    updated_by b (λ ns. ns ++ n ∷ []) [] es c.insert.new.self.entries none
    (λ q. c.in_ok-insert.ensures.updates.0 q ∙ (λ i. cond (found_as b q) (Some (one i)) (lookup (found_as q) es))) b'
    ∙ ap (λ (fs : List Entry). cond (same b b') (numbers_at fs b' ++ n ∷ []) (numbers_at fs b')) c.self.view_is
