use Rattle.std.proofs.Common.{◌≡◌, sym, ap, subst, ◌∙◌, rules}
use Rattle.redo_record.specs.Kept.{kept_after}
use Rattle.node_rules.specs.NodeState.{without_branch}
use Rattle.node_rules.specs.Records.{with_doubt, with_record}
use Rattle.node_memory.specs.Parts.{kept_in}
use Rattle.node_memory.specs.Leaving.{IsOwnSeal}
use Rattle.node_memory.proofs.SealLaws.{sealed_taken}
use Rattle.node_memory.proofs.memory.Memory.seal.Goals as goal

pub returns-clause-kept : goal.returns-clause-kept
returns-clause-kept c =
    let k = kept_in c.args.self.now in
    let b = c.args.branch.now in
    let r = c.in-Sealed.sealed in
    let own = subst (IsOwnSeal k b) c.in-Sealed.is c.requires.own in
    let rows = subst (λ x. c.apply.new.self ≡ kept_after c.args.self.now.kept x) c.in-Sealed.is c.in_ok-apply.ensures.ok in
    let changes : c.as_slice.result.now ≡ r.changes = search rules in
    subst (λ x. (record (kept_in c.drop_branch.new.self) { locks = c.hold_in_doubt.new.locks }) ≡ with_record (without_branch k b) x) (sym c.in-Sealed.is)
    (sealed_taken k (kept_in c.drop_branch.new.self) b r c.seal.new.self c.args.self.now.store.extents c.apply.new.self c.meet.new.self c.hold_in_doubt.new.locks own.0 own.1 rows
    c.in_ok-seal.ensures.ok c.meet.ensures c.drop_branch.ensures.kept (c.in_ok-hold_in_doubt.ensures ∙ ap (with_doubt c.drop_branch.new.self.locks b) changes))
