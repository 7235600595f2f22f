-- The old row is taken out before, if there is one.
use Rattle.std.proofs.Common.{◌≡◌, true, false, slice_get, ap, ◌∙◌}
use Rattle.std.specs.List.{position_or_len}
use Rattle.stmt_store.specs.Past.{comes_first, stands}
use Rattle.stmt_store.proofs.PastLaws.{put_by}
use Rattle.stmt_store.proofs.past.put.Goals as goal
use Rattle.stmt_store.proofs.past.put.Goals.{then-stands_at, else-stands_at}

pub returns : goal.returns
returns c =
    let rows = c.args.rows.now.items in
    let key = c.args.key.now in
    let place = c.place_of-place.result in
    let first = c.place_of-place.ensures.first ∙ ap (position_or_len (comes_first key)) c.as_slice.ensures.value in
    c.in_ok-insert.ensures.items ∙ elim c.if-stands_at.branch [
      | then-stands_at w ↦ put_by rows c.if-stands_at.rows.items key c.args.row.now place true first (w.if-stands_at.ensures.stands ∙ ap (λ xs. stands key (slice_get xs place)) c.as_slice-2.ensures.value) (ap (λ v. v.items) w.rows-is ∙ w.remove.ensures.items)
      | else-stands_at w ↦ put_by rows c.if-stands_at.rows.items key c.args.row.now place false first (w.if-stands_at.ensures.stands ∙ ap (λ xs. stands key (slice_get xs place)) c.as_slice-2.ensures.value) (ap (λ v. v.items) w.rows-is)
    ]
