-- Each node of a lawful run keeps changes of live branches alone, and marks these.
pub use Rattle.node_undo_laws.proofs.ChangedLemmas.{one_more_set, append_none, found_placed, none_placed, Fits}
use Rattle.node_undo_laws.proofs.ChangedLemmas.{changes_on, started_fits}
use Rattle.run_key_laws.specs.ChangedLaws.{ChangesAreOfLive}
use Rattle.run_base_laws.proofs.NodeLemmas.{KeepsAlone, kept_alone}

pub changes_keep : KeepsAlone Fits
changes_keep = record { starts = λ s vs. started_fits; hears = λ k scn now. now; steps = λ p input k d step now. changes_on p input step now }

pub changes_are_of_live : ChangesAreOfLive
changes_are_of_live = kept_alone Fits changes_keep
