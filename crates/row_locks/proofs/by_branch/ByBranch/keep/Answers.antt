use Rattle.std.proofs.Common.{cond, List, filter, is_some, refl, sym, ap, ◌∙◌}
use Rattle.std.specs.Map.{lookup}
use Rattle.tran_ids.specs.Branch.{same}
use Rattle.row_locks.specs.ByBranch.{numbers_at}
use Rattle.row_locks.specs.Numbered.{is_number}
use Rattle.row_locks.proofs.MapLaws.{Entry, numbers_there, updated_by, placed}
use Rattle.row_locks.proofs.by_branch.ByBranch.keep.Goals as goal

pub returns-in-Some : goal.returns-in-Some
returns-in-Some c =
    let b = c.args.branch.now in
    let es = c.self.inside.numbers.entries in
    let x = c.index_mut.result.now in
    λ b'.
    updated_by b (filter (λ n. is_some (lookup (is_number n) c.args.locks.now))) x es _
    (numbers_there b es x (sym c.in-Some.ensures.value ∙ c.index_mut.ensures.value))
    (placed b c.self.inside.numbers c.in-Some.place c.keep.new.self (filter (λ n. is_some (lookup (is_number n) c.args.locks.now)) x) c.get_index_of.ensures.unique (sym c.in-Some.ensures.index) refl c.keep.ensures) b'
    ∙ ap (λ (fs : List Entry). cond (same b b') (filter (λ n. is_some (lookup (is_number n) c.args.locks.now)) (numbers_at fs b')) (numbers_at fs b')) c.self.view_is
