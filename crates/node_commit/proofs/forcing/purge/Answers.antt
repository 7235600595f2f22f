use Rattle.std.proofs.Common.{◌≡◌, ap, find, subst, ◌∙◌, rules}
use Rattle.std.specs.Prelude.{IfOk}
use Rattle.force_cmds.specs.Named.{may_purge, purged}
use Rattle.node_rules.specs.Force.{purge}
use Rattle.node_memory.specs.Parts.{kept_in}
use Rattle.node_drafts.specs.Gives.{GivesDraft}
use Rattle.node_commit.specs.Branches.{hides_named}
use Rattle.node_commit.proofs.PurgeLemmas.{hides_as}
use Rattle.node_commit.proofs.forcing.purge.Goals as goal

pub returns-clause-gives : goal.returns-clause-gives
unfolding purge
returns-clause-gives c =
    let k = kept_in c.args.memory.now in
    let id = c.args.id.now in
    let rows : c.as_slice.result.now ≡ c.args.memory.now.kept = search rules in
    subst (λ d. IfOk c.hides.result (λ draft. GivesDraft d (kept_in c.hides.new.memory) draft))
    (ap (hides_named k c.args.session id) (c.in_ok-found.ensures ∙ ap (λ ks. purged c.args.mixed ks id) rows) ∙ hides_as k c.args.session id (find (may_purge c.args.mixed id) c.args.memory.now.kept))
    c.hides.ensures.gives
