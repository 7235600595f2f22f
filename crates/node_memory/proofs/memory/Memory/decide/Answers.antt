use Rattle.std.proofs.Common.{◌≡◌, sym, ap, subst, ◌∙◌}
use Rattle.redo_record.specs.Kept.{kept_after}
use Rattle.node_rules.specs.NodeState.{without_branch}
use Rattle.node_rules.specs.Records.{top_by, commit_of, versions_by, with_record}
use Rattle.node_memory.specs.Parts.{kept_in}
use Rattle.node_memory.specs.Versions.{versions_as, with_version}
use Rattle.node_memory.specs.Leaving.{IsOwnDecision}
use Rattle.node_memory.proofs.SealLaws.{decision_taken}
use Rattle.node_memory.proofs.VersionLaws.{versions_so}
use Rattle.node_memory.proofs.memory.Memory.decide.Goals as goal

pub returns-clause-kept : goal.returns-clause-kept
returns-clause-kept c =
    let k = kept_in c.args.self.now in
    let b = c.args.branch.now in
    let r = c.in-Decided.decided in
    let own = subst (IsOwnDecision k b) c.in-Decided.is c.requires in
    let rows = subst (λ x. c.apply.new.self ≡ kept_after c.args.self.now.kept x) c.in-Decided.is c.in_ok-apply.ensures.ok in
    let top = subst (λ x. c.change_top.new.top ≡ top_by k.stored.top (commit_of k.stored.doubts x)) c.in-Decided.is c.change_top.ensures in
    let kept = c.keep.ensures ∙ ap (λ vs. with_version vs c.in_ok-version.version) c.reserve.ensures.same ∙ ap (with_version k.versions) c.in_ok-version.ensures ∙ versions_so k.stored.rows k.versions (commit_of k.stored.doubts c.args.redo.now) in
    let newest = subst (λ x. versions_as c.keep.new.self ≡ versions_by k.stored.rows k.versions (commit_of k.stored.doubts x)) c.in-Decided.is kept in
    subst (λ x. kept_in c.drop_branch.new.self ≡ with_record (without_branch k b) x) (sym c.in-Decided.is)
    (decision_taken k (kept_in c.drop_branch.new.self) b r c.commit.new.self c.args.self.now.store.extents c.apply.new.self c.meet.new.self c.change_top.new.top (versions_as c.keep.new.self) own.1 rows
    c.commit.ensures c.meet.ensures top newest c.drop_branch.ensures.kept)
