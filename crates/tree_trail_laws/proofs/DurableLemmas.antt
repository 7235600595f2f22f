-- What a node stores of its settings is what its records make.
use Rattle.std.proofs.Common.{◌≡◌, List, [], ◌∷◌, fold, refl, ap, ◌∙◌}
use Rattle.node_rules.specs.Data.{RedoRecord}
use Rattle.node_rules.specs.NodeState.{NodeState, Stored}
use Rattle.node_rules.specs.Records.{applied, nothing_stored, stored_by}
use Rattle.redo_record.specs.Durable.{durable, durable_after}
use Rattle.run_base_laws.proofs.StoredLemmas.{StoresOf}

pub durable_stored : (s : Stored) (rs : List RedoRecord) → (stored_by s rs).durable ≡ fold durable_after s.durable rs
unfolding stored_by applied
durable_stored s [] = refl
durable_stored s (r ∷ rs) = durable_stored (applied s r) rs

-- the commit point strength that was set last
pub strength_stored : (rs : List RedoRecord) (k : NodeState) → StoresOf rs k → k.stored.durable.strength ≡ (durable rs).strength
strength_stored rs k stored = ap (λ (s : Stored). s.durable.strength) stored ∙ ap (λ d. d.strength) (durable_stored nothing_stored rs)
