use Rattle.back_laws.proofs.RootRunLemmas.{notes_hold}
use Rattle.back_laws.proofs.notes_hold.Goals as goal

pub returns : goal.returns
returns c = notes_hold
