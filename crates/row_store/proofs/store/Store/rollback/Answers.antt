use Rattle.std.proofs.Common.{ap, ◌∙◌}
use Rattle.row_store.specs.TablePlaces.{rows_in}
use Rattle.row_store.specs.Store.{rolled_back}
use Rattle.row_store.proofs.HeldLaws.{contents_of, leave_for}
use Rattle.row_store.proofs.store.Store.rollback.Goals as goal

pub invariant_of-self : goal.invariant_of-self
invariant_of-self c = leave_for c.self.inside.tables c.self.inside.pending c.remove.new.self c.args.branch.now c.remove.ensures.dropped c.self.invariant

pub returns : goal.returns
returns c = ap (contents_of (rows_in c.self.inside.tables)) c.remove.ensures.dropped ∙ ap (λ s. rolled_back s c.args.branch.now) c.self.view_is
