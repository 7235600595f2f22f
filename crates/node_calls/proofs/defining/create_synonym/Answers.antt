-- A name that is used is refused.
use Rattle.std.proofs.Common.{[], IfOk, sym, subst, ◌∙◌}
use Rattle.node_rules.specs.Refusals.{ora}
use Rattle.node_rules.specs.Client.{refuses}
use Rattle.node_drafts.specs.Gives.{GivesDraft}
use Rattle.node_memory.specs.Parts.{kept_in}
use Rattle.node_calls.proofs.NameLaws.{at_node, synonym_refused}
use Rattle.node_calls.proofs.defining.create_synonym.Goals as goal

pub returns-then-is_used-clause-gives : goal.returns-then-is_used-clause-gives
returns-then-is_used-clause-gives c =
    let k = kept_in c.args.memory.now in
    subst (λ d. IfOk c.refuse.result (λ draft. GivesDraft d k draft)) (sym (synonym_refused k c.args.session c.args.synonym.now (sym c.is_used.ensures.used ∙ c.if-is_used.true)))
    (at_node c.refuse.result (λ draft j. GivesDraft (refuses j c.args.session (ora 955 [])) j draft) k c.refuse.ensures)
