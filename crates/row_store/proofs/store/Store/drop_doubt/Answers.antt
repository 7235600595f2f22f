use Rattle.std.proofs.Common.{ap, ◌∙◌}
use Rattle.row_store.specs.TablePlaces.{rows_in}
use Rattle.row_store.specs.Store.{doubt_dropped}
use Rattle.row_store.proofs.HeldLaws.{contents_of, settle_for}
use Rattle.row_store.proofs.store.Store.drop_doubt.Goals as goal

pub invariant_of-self : goal.invariant_of-self
invariant_of-self c = settle_for c.self.inside.tables c.self.inside.pending c.settle.new.self c.args.branch.now c.settle.ensures.dropped c.self.invariant

pub returns : goal.returns
returns c = ap (contents_of (rows_in c.self.inside.tables)) c.settle.ensures.dropped ∙ ap (λ s. doubt_dropped s c.args.branch.now) c.self.view_is
