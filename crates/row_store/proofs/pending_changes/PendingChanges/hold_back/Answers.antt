use Rattle.std.proofs.Common.{◌≡◌, ◌-◌, ◌≤◌, List, ◌++◌, sym, ap, subst, ◌∙◌, arith}
use Rattle.std.specs.Prelude.{OnOk}
use Rattle.tran_ids.specs.Branch.{put_by_branch}
use Rattle.dtx_values.specs.declared.row.Change.{Change}
use Rattle.undo_book.specs.Undo.{undo_of as undo_at, undo_extents}
use Rattle.row_store.specs.declared.pending.Doubt.{Doubt}
use Rattle.row_store.specs.Own.{changes_length, extents}
use Rattle.row_store.specs.ByBranch.{PendingState, AreKept, held_id}
use Rattle.row_store.specs.Store.{doubt_id, is_in_doubt, used_extents}
use Rattle.row_store.proofs.PoolLaws.{held_kept, held_owns, held_doubts}
use Rattle.row_store.proofs.OrderLaws.{not_held}
use Rattle.row_store.proofs.CallLaws.{state_in, first_fits}
use Rattle.row_store.proofs.ResultLaws.{fits_ok}
use Rattle.row_store.proofs.pending_changes.PendingChanges.hold_back.Goals as goal

pub unwrap-requires : goal.unwrap-requires
unwrap-requires c =
    let s = c.self.inside in
    let us = c.args.undo.now in
    let room = subst (λ (v : PendingState). extents (changes_length us) ≤ v.extents - used_extents v.owns v.doubts) (sym c.self.view_is) c.requires.room in
    fits_ok c.add.result (undo_extents (undo_at s.undo s.next ++ us) - undo_extents (undo_at s.undo s.next)) s.undo.free c.add.ensures.full
    (first_fits s.undo s.next s.owns.entries s.doubts.entries c.self.invariant us room)

pub put_held-requires : goal.put_held-requires
put_held-requires c = not_held c.self.inside.undo c.args.branch.now c.self.inside.doubts.entries (ap (λ (v : PendingState). is_in_doubt v.doubts c.args.branch.now) c.self.view_is ∙ c.requires.apart)

pub invariant_of-self-2 : goal.invariant_of-self-2
invariant_of-self-2 c =
    let s = c.self.inside in
    let b = c.args.branch.now in
    let es = s.owns.entries in
    let ds = s.doubts.entries in
    let all : c.put_held.new.doubts.entries ≡ put_by_branch held_id ds (b, record { changes = c.args.changes.items; owner = s.next }) =
    c.in_ok-put_held.ensures.ok ∙ (λ i. put_by_branch held_id ds (b, c.new-held.ensures i)) in
    subst (AreKept c.add.new.self c.in_ok-next.next es) (sym all)
    (held_kept s.undo c.add.new.self s.next es ds c.self.invariant c.add.ensures.all c.in_ok-next.next c.in_ok-next.ensures c.add.ensures.others c.add.ensures.free b c.args.changes.items)

pub returns-clause-ok : goal.returns-clause-ok
returns-clause-ok c =
    let s = c.self.inside in
    let b = c.args.branch.now in
    let es = s.owns.entries in
    let ds = s.doubts.entries in
    let q = c.add.new.self in
    let us = c.args.undo.now in
    let cs = c.args.changes.items in
    let all : c.put_held.new.doubts.entries ≡ put_by_branch held_id ds (b, record { changes = cs; owner = s.next }) =
    c.in_ok-put_held.ensures.ok ∙ (λ i. put_by_branch held_id ds (b, c.new-held.ensures i)) in
    let added : undo_at q s.next ≡ undo_at s.undo s.next ++ us =
    subst (λ r. OnOk r (undo_at q s.next ≡ undo_at s.undo s.next ++ us)) c.unwrap.ensures c.add.ensures.ok in
    let undo : undo_at q s.next ≡ us = added ∙ ap (λ (vs : List Change). vs ++ us) (c.self.invariant.empty s.next (omega arith)) in
    let owns = held_owns s.undo q s.next es ds c.self.invariant c.add.ensures.all c.in_ok-next.next c.in_ok-next.ensures c.add.ensures.others c.add.ensures.free b cs in
    let doubts = held_doubts s.undo q s.next es ds c.self.invariant c.add.ensures.all c.in_ok-next.next c.in_ok-next.ensures c.add.ensures.others c.add.ensures.free b cs in
    let one : (record { branch = b; changes = cs; undo = undo_at q s.next }) ≡ (record { branch = b; changes = cs; undo = us }) = (λ i. let d : Doubt = record { branch = b; changes = cs; undo = undo i } in d) in
    ap (state_in q es) all
    ∙ (λ i. let v : PendingState = record { owns = owns i; doubts = doubts i; extents = c.add.ensures.all i } in v)
    ∙ ap (λ (d : Doubt). record (state_in s.undo es ds) { doubts = put_by_branch doubt_id (state_in s.undo es ds).doubts d }) one
    ∙ ap (λ (v : PendingState). record v { doubts = put_by_branch doubt_id v.doubts (record { branch = b; changes = cs; undo = us }) }) c.self.view_is
