use Rattle.std.proofs.Common.{rules}
use Rattle.std.proofs.lemmas.List.Sorted.{answers_always, ranks_by}
use Rattle.tran_ids.specs.declared.branch.BranchId.{BranchId}
use Rattle.pending_view.specs.Order.{place_of}
use Rattle.pending_view.proofs.SortLemmas.{place_below, place_total, sorted_by_branch}
use Rattle.undo_view.proofs.rows.sort.Goals as goal

pub returns : goal.returns
returns c =
    sorted_by_branch (λ (b : BranchId). b) _ (λ x y. place_below x y) (ranks_by place_total place_of) c.args.branches.now.items c.sort_by_key.new.self.items
    (c.in_ok-sort_by_key.ensures.sorted place_of (answers_always _ _ _ (λ f a r g h. search rules)))
    (c.sort_by_key.ensures.stable place_of (answers_always _ _ _ (λ f a r g h. search rules)))
