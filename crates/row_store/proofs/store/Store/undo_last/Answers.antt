use Rattle.std.proofs.Common.{ap, ◌∙◌}
use Rattle.row_store.specs.TablePlaces.{rows_in}
use Rattle.row_store.specs.Store.{Contents, without_last}
use Rattle.row_store.proofs.HeldLaws.{contents_of, less_for}
use Rattle.row_store.proofs.store.Store.undo_last.Goals as goal

pub invariant_of-self : goal.invariant_of-self
invariant_of-self c = less_for c.self.inside.tables c.self.inside.pending c.pop.new.self c.args.branch.now c.pop.ensures c.self.invariant

pub returns : goal.returns
returns c = ap (contents_of (rows_in c.self.inside.tables)) c.pop.ensures ∙ ap (λ (s : Contents). record s { owns = without_last s.owns c.args.branch.now }) c.self.view_is
