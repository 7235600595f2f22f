use Rattle.std.proofs.Common.{◌≡◌, ◌-◌, [], ◌∷◌, ◌++◌, ap, ◌∙◌, arith}
use Rattle.row_size_laws.proofs.LengthLaws.{changes_length_is}
use Rattle.row_store.specs.declared.pending.ChangeSet.{ChangeSet}
use Rattle.row_store.specs.Own.{changes_length, extents}
use Rattle.row_store.specs.Pending.{undo_of}
use Rattle.row_store.specs.Store.{Contents, sets_at}
use Rattle.row_store.proofs.StoreLaws.{undo_more}
use Rattle.row_store.proofs.store.Store.needed.Goals as goal

pub returns : goal.returns
returns c = λ changes.
    let b = c.args.branch.now in
    let us = c.args.undo.now in
    let sets = sets_at c.args.self.now.owns b in
    let set : ChangeSet = record { changes = changes; undo = us } in
    let held : c.from-held.result ≡ changes_length (undo_of sets) =
    c.from-held.ensures ∙ c.undo_len.ensures ∙ ap (λ (s : Contents). changes_length (undo_of (sets_at s.owns b))) c.self.view_is in
    let more = undo_more sets set in
    let text = changes_length_is us in
    let len = c.len.ensures in
    let sum = c.in_ok-all.ensures.sum in
    let all : c.in_ok-all.all ≡ changes_length (undo_of (sets ++ set ∷ [])) = omega (arith, held, more, text, len, sum) in
    c.saturating_sub.ensures ∙ (λ i. (c.extents.ensures ∙ ap extents all) i - (c.extents-2.ensures ∙ ap extents held) i)
