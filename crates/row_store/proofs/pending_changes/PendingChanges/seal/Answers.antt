use Rattle.std.proofs.Common.{◌≡◌, None, List, sym, ap, subst, ◌∙◌}
use Rattle.std.specs.Prelude.{OnOk}
use Rattle.std.specs.Map.{lookup}
use Rattle.tran_ids.specs.Branch.{put_by_branch}
use Rattle.tran_ids.specs.Listed.{item_at, drop_item}
use Rattle.row_store.specs.ByBranch.{PendingState, AreKept, held_id, doubt_kept}
use Rattle.row_store.specs.Store.{own_id, doubt_id, is_in_doubt, sealed_doubt}
use Rattle.row_store.proofs.BranchLaws.{found_as}
use Rattle.row_store.proofs.KeptLaws.{Entry}
use Rattle.row_store.proofs.SealLaws.{seal_kept, seal_owns, seal_doubts}
use Rattle.row_store.proofs.OrderLaws.{not_held}
use Rattle.row_store.proofs.CallLaws.{state_in}
use Rattle.row_store.proofs.pending_changes.PendingChanges.seal.Goals as goal

pub put_held-requires : goal.put_held-requires
put_held-requires c =
    let s = c.self.inside in
    let b = c.args.branch.now in
    let out = not_held s.undo b s.doubts.entries (ap (λ (v : PendingState). is_in_doubt v.doubts b) c.self.view_is ∙ c.requires) in
    subst (λ fs. item_at held_id fs b ≡ None) (sym c.in_ok-reserve.ensures.entries) out

pub invariant_of-self-2 : goal.invariant_of-self-2
invariant_of-self-2 c =
    let s = c.self.inside in
    let b = c.args.branch.now in
    let es = s.owns.entries in
    let ds = s.doubts.entries in
    let left = c.shift_remove.ensures.entries in
    let gone = sym (ap (lookup (found_as b)) left) ∙ c.shift_remove.ensures.updates.1 in
    let same = c.in_ok-reserve.ensures.entries in
    let put : c.put_held.new.doubts.entries ≡ put_by_branch held_id c.reserve.new.self.entries (b, c.held_of-held.result) =
    subst (λ r. OnOk r (c.put_held.new.doubts.entries ≡ put_by_branch held_id c.reserve.new.self.entries (b, c.held_of-held.result))) c.unwrap.ensures c.put_held.ensures.ok in
    let all : c.put_held.new.doubts.entries ≡ put_by_branch held_id ds (b, doubt_kept s.next c.shift_remove.result) =
    put ∙ (λ i. put_by_branch held_id (same i) (b, c.held_of-held.ensures i)) in
    subst (λ (fs : List Entry). AreKept s.undo c.in_ok-next.next fs c.put_held.new.doubts.entries) (sym left)
    (subst (AreKept s.undo c.in_ok-next.next _) (sym all)
    (seal_kept s.undo s.next c.in_ok-next.next c.in_ok-next.ensures es ds c.self.invariant b gone c.shift_remove.result (sym c.shift_remove.ensures.value)))

pub returns-clause-ok : goal.returns-clause-ok
returns-clause-ok c =
    let s = c.self.inside in
    let b = c.args.branch.now in
    let es = s.owns.entries in
    let ds = s.doubts.entries in
    let left = c.shift_remove.ensures.entries in
    let gone = sym (ap (lookup (found_as b)) left) ∙ c.shift_remove.ensures.updates.1 in
    let same = c.in_ok-reserve.ensures.entries in
    let put : c.put_held.new.doubts.entries ≡ put_by_branch held_id c.reserve.new.self.entries (b, c.held_of-held.result) =
    subst (λ r. OnOk r (c.put_held.new.doubts.entries ≡ put_by_branch held_id c.reserve.new.self.entries (b, c.held_of-held.result))) c.unwrap.ensures c.put_held.ensures.ok in
    let all : c.put_held.new.doubts.entries ≡ put_by_branch held_id ds (b, doubt_kept s.next c.shift_remove.result) =
    put ∙ (λ i. put_by_branch held_id (same i) (b, c.held_of-held.ensures i)) in
    let owns = seal_owns s.undo s.next c.in_ok-next.next c.in_ok-next.ensures es ds c.self.invariant b gone in
    let doubts = seal_doubts s.undo s.next c.in_ok-next.next c.in_ok-next.ensures es ds c.self.invariant b gone c.shift_remove.result (sym c.shift_remove.ensures.value) in
    (λ i. state_in s.undo (left i) (all i))
    ∙ (λ i. let v : PendingState = record (state_in s.undo es ds) { owns = owns i; doubts = doubts i } in v)
    ∙ ap (λ (v : PendingState). record v { owns = drop_item own_id v.owns b; doubts = put_by_branch doubt_id v.doubts (sealed_doubt v.owns b) }) c.self.view_is
