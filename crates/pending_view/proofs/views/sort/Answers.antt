use Rattle.std.proofs.Common.{rules}
use Rattle.std.proofs.lemmas.List.Sorted.{answers_always, ranks_by}
use Rattle.pending_view.specs.Order.{place_of}
use Rattle.pending_view.specs.Views.{Pending}
use Rattle.pending_view.proofs.SortLemmas.{place_below, place_total, sorted_by_branch}
use Rattle.pending_view.proofs.views.sort.Goals as goal

pub returns : goal.returns
returns c =
    let key = λ (r : Pending). place_of r.me in
    sorted_by_branch (λ (r : Pending). r.me) _ (λ x y. place_below x.me y.me) (ranks_by place_total key) c.args.rows.now.items c.sort_by_key.new.self.items
    (c.in_ok-sort_by_key.ensures.sorted key (answers_always _ _ _ (λ f a r g h. search rules)))
    (c.sort_by_key.ensures.stable key (answers_always _ _ _ (λ f a r g h. search rules)))
