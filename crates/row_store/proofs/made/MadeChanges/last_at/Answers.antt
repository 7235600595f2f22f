use Rattle.std.proofs.Common.{◌∙◌}
use Rattle.row_store.specs.Kept.{after_at}
use Rattle.row_store.proofs.Places.{last_is}
use Rattle.row_store.proofs.made.MadeChanges.last_at.Goals as goal

pub returns : goal.returns
returns c =
    let changes = c.as_slice.ensures.value ∙ c.self.view_is in
    c.after_at.ensures ∙ (λ i. after_at (changes i) (c.place.ensures i)) ∙ last_is c.args.table.now c.args.key.now c.args.self.now
