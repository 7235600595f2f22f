-- A name that is used is refused, and a table of any other may be made.
use Rattle.std.proofs.Common.{[], IfOk, sym, subst, ◌∙◌}
use Rattle.node_rules.specs.Data.{Table}
use Rattle.node_rules.specs.Data.records
use Rattle.node_rules.specs.Refusals.{ora}
use Rattle.node_rules.specs.Client.{refuses}
use Rattle.node_ready_laws.specs.Following.{MayFollow}
use Rattle.node_drafts.specs.Gives.{GivesDraft}
use Rattle.node_memory.specs.Parts.{kept_in, stored_in}
use Rattle.node_calls.proofs.NameLaws.{at_node, table_follows, table_refused}
use Rattle.node_calls.proofs.defining.create_table.Goals as goal

pub returns-then-is_used-clause-gives : goal.returns-then-is_used-clause-gives
returns-then-is_used-clause-gives c =
    let k = kept_in c.args.memory.now in
    subst (λ d. IfOk c.refuse.result (λ draft. GivesDraft d k draft)) (sym (table_refused k c.args.session c.args.table.now (sym c.is_used.ensures.used ∙ c.if-is_used.true)))
    (at_node c.refuse.result (λ draft j. GivesDraft (refuses j c.args.session (ora 955 [])) j draft) k c.refuse.ensures)

pub write-requires-clause-follow : goal.write-requires-clause-follow
write-requires-clause-follow c =
    let m = c.args.memory.now in
    subst (λ (t : Table). MayFollow (stored_in m) (records.Table t)) (sym c.in_ok-copy.ensures) (table_follows (kept_in m) c.args.table.now c.requires (sym c.is_used.ensures.used ∙ c.if-is_used.false))
