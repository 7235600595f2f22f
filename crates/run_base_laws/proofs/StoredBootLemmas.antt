-- What a node stores of its starts is how often it was started.
use Rattle.std.proofs.Common.{◌≡◌, ℕ, List, ◌++◌, Option, Some, None, refl, sym, ap, ◌∙◌}
use Rattle.std.specs.Prelude.{IfSome}
use Rattle.std.specs.Option.{option_to_list}
use Rattle.redo_record.specs.Durable.{durable_after}
use Rattle.node_rules.specs.Data.{RedoRecord}
use Rattle.node_rules.specs.Data.params
use Rattle.node_rules.specs.Data.records
use Rattle.node_rules.specs.NodeState.{Stored}
use Rattle.node_rules.specs.Records.{applied, nothing_stored, stored_by}
use Rattle.run_rules.specs.Lawful.{boots}
use Rattle.run_base_laws.proofs.StoredLemmas.{stored_with}
use Rattle.run_rules.proofs.BootLemmas.{IsOfTurn, boots_last, boots_with}

boot_applied : (s : Stored) (r : RedoRecord) → IsOfTurn r → (applied s r).durable.boot ≡ s.durable.boot
unfolding applied durable_after
boot_applied s (records.Boot n) is = absurd is
boot_applied s (records.Table t) is = refl
boot_applied s (records.Link l) is = refl
boot_applied s (records.Synonym y) is = refl
boot_applied s (records.Param (params.Recovery on)) is = refl
boot_applied s (records.Param (params.Strength strength)) is = refl
boot_applied s _ is = refl

pub booted : (s : Stored) (n : ℕ) → (applied s (records.Boot n)).durable.boot ≡ n
unfolding applied durable_after
booted s n = refl

-- what is stored of the start is how often there was one
abbrev pub BootIs : List RedoRecord → Type 0
BootIs rs = (stored_by nothing_stored rs).durable.boot ≡ boots rs

pub boot_with : (rs : List RedoRecord) (w : Option RedoRecord) → IfSome w IsOfTurn → BootIs rs → BootIs (rs ++ option_to_list w)
boot_with rs None is boot = ap (λ s. s.durable.boot) (stored_with rs None) ∙ (boot ∙ sym (boots_with rs None is))
boot_with rs (Some r) is boot = ap (λ s. s.durable.boot) (stored_with rs (Some r)) ∙ (boot_applied (stored_by nothing_stored rs) r is ∙ (boot ∙ sym (boots_last rs r is)))
