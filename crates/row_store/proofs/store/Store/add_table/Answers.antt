use Rattle.row_store.proofs.HeldLaws.{have_still}
use Rattle.row_store.proofs.store.Store.add_table.Goals as goal

pub invariant_of-self : goal.invariant_of-self
invariant_of-self c = have_still c.self.inside.tables c.add_table.new.self c.add_table.ensures.places c.self.inside.pending.owns c.self.inside.pending.doubts c.self.invariant
