use Rattle.std.proofs.Common.{◌≡◌, List, Some, None, position, find, is_some, get_or, slice_get, sym, ap, ◌∙◌}
use Rattle.std.proofs.lemmas.List.Quantifiers.{position-Some}
use Rattle.std.proofs.lemmas.Option.{slice_get-get_or}
use Rattle.tran_ids.specs.Listed.{put_item}
use Rattle.redo_record.specs.Data.{KeptRow}
use Rattle.redo_record.specs.Kept.{stands_at}
use Rattle.redo_record.specs.Leaving.{row_id}
use Rattle.redo_record.proofs.Searched.{found_there, none_there, still_in_order, put_back, stands_before, stands_after}
use Rattle.redo_record.proofs.kept_rows.KeptRows.lend.Goals as goal

pub invariant_of-self : goal.invariant_of-self
invariant_of-self c =
    let b = c.args.branch.now in
    let rows = c.self.inside.rows.items in
    let at : position (stands_at b) rows ≡ Some c.in-Some.place = ap (position (stands_at b)) (sym c.deref.ensures.value) ∙ sym c.position_of.ensures ∙ c.in-Some.is in
    let mine = ap row_id c.replace.ensures.after ∙ c.empty_row.ensures in
    still_in_order b rows c.in-Some.place at c.replace.new.dest mine c.self.invariant

pub returns-in-None-clause-row : goal.returns-in-None-clause-row
returns-in-None-clause-row c =
    let p = stands_at c.args.branch.now in
    let rows = c.self.inside.rows.items in
    sym (ap (find p) (sym c.self.view_is) ∙ none_there p rows (ap (position p) (sym c.deref.ensures.value) ∙ sym c.position_of.ensures ∙ c.in-None.is))

pub returns-in-Some-clause-row : goal.returns-in-Some-clause-row
returns-in-Some-clause-row c =
    let p = stands_at c.args.branch.now in
    let rows = c.self.inside.rows.items in
    let place = c.in-Some.place in
    let at : position p rows ≡ Some place = ap (position p) (sym c.deref.ensures.value) ∙ sym c.position_of.ensures ∙ c.in-Some.is in
    let was = c.index_mut.result.now in
    let there : slice_get rows place ≡ Some was = slice_get-get_or rows place was (position-Some p rows place was at).0 ∙ ap Some (sym c.index_mut.ensures.value) in
    ap Some c.replace.ensures.value ∙ sym there ∙ found_there p rows place at ∙ ap (find p) c.self.view_is

pub returns-in-Some-clause-place : goal.returns-in-Some-clause-place
returns-in-Some-clause-place c =
    let b = c.args.branch.now in
    let rows = c.self.inside.rows.items in
    let at : position (stands_at b) rows ≡ Some c.in-Some.place = ap (position (stands_at b)) (sym c.deref.ensures.value) ∙ sym c.position_of.ensures ∙ c.in-Some.is in
    let mine = ap row_id c.replace.ensures.after ∙ c.empty_row.ensures in
    λ row me. put_back b rows c.in-Some.place at c.replace.new.dest mine row me ∙ ap (λ (ks : List KeptRow). put_item row_id ks row) c.self.view_is

pub returns-in-Some-clause-kept : goal.returns-in-Some-clause-kept
returns-in-Some-clause-kept c =
    let b = c.args.branch.now in
    let rows = c.self.inside.rows.items in
    let at : position (stands_at b) rows ≡ Some c.in-Some.place = ap (position (stands_at b)) (sym c.deref.ensures.value) ∙ sym c.position_of.ensures ∙ c.in-Some.is in
    let mine = ap row_id c.replace.ensures.after ∙ c.empty_row.ensures in
    stands_after b rows c.in-Some.place at c.replace.new.dest mine
    ∙ sym (stands_before b rows c.in-Some.place at c.replace.new.dest mine) ∙ ap (λ (ks : List KeptRow). is_some (find (stands_at b) ks)) c.self.view_is
