-- Each lawful run does what the forest of its Prepares allows, and so agrees.
use Rattle.std.proofs.Common.{ℕ, List, [], ◌∷◌}
use Rattle.std.specs.List.{AllByRecursion}
use Rattle.node_rules.specs.Data.{BranchId, Kind, Msg}
use Rattle.node_rules.specs.Data.kinds
use Rattle.agreement.specs.Events.{Forest, Event}
use Rattle.run_rules.specs.Data.{Happening}
use Rattle.run_rules.specs.Data.happenings
use Rattle.run_rules.specs.Facts.{Facts, first_facts, facts_after}
use Rattle.run_rules.specs.Lawful.{History}
use Rattle.run_base_laws.specs.RunEvents.{message_event, with_exits, events_after}
use Rattle.run_base_laws.specs.EventLaws.{EachEventFrom}
use Rattle.run_branch_laws.specs.TreeJust.{IsTreeAllowed, TreeSends, HappensByTree, GoByTree}
use Rattle.run_branch_laws.proofs.TreeJustLemmas.{runs_by_trees_agree}
use Rattle.run_claims.specs.Headline.{EveryBookAgrees, EveryMixedIsMarked}
use Rattle.tree_laws.specs.AgreeLaws.{LeavesByForest, RunsGoByForest, RunsAgree}
use Rattle.tree_laws.specs.Forests.{forest_of}
use Rattle.tree_laws.specs.MessageLaws.{AckByForest, AcksByForest, RollByForest, RollsByForest}
use Rattle.tree_laws.specs.NameLaws.{WritesByForest}
use Rattle.tree_laws.proofs.AckForestLemmas.{acks_go_by_forest}
use Rattle.tree_laws.proofs.ForestRunLemmas.{runs_have_forests}
use Rattle.tree_laws.proofs.LeaveForestLemmas.{leaves_go_by_forest}
use Rattle.tree_laws.proofs.PrefixLemmas.{both_each}
use Rattle.tree_laws.proofs.RecordForestLemmas.{records_go_by_forest}
use Rattle.tree_laws.proofs.RollForestLemmas.{rolls_go_by_forest}

module _ (p : Forest) (r : List Event) where
  kind_allowed : (from to : BranchId) (scn : ℕ) (kind : Kind) → AckByForest p r from to kind → RollByForest p r from to kind → IsTreeAllowed p r (message_event from to scn kind)
  kind_allowed from to scn kinds.Ack ack roll = ack
  kind_allowed from to scn kinds.Rollback ack roll = roll
  kind_allowed from to scn kinds.RolledBack ack roll = roll
  kind_allowed from to scn kinds.Prepared ack roll = tt
  kind_allowed from to scn kinds.CommitPoint ack roll = tt
  kind_allowed from to scn (kinds.Committed n) ack roll = tt
  kind_allowed from to scn kinds.Forgotten ack roll = tt
  kind_allowed from to scn _ ack roll = tt

  sends_so : (ms : List Msg) → AllByRecursion (λ m. AckByForest p r m.from m.to m.kind) ms → AllByRecursion (λ m. RollByForest p r m.from m.to m.kind) ms → TreeSends p r ms
  sends_so [] acks rolls = tt
  sends_so (m ∷ ms) acks rolls = (kind_allowed m.from m.to m.scn m.kind acks.0 rolls.0, sends_so ms acks.1 rolls.1)

module _ (t : History) where
  -- what each happening does by the forest
  abbrev By : Facts → List Event → Happening → Type 0
  By f e h = (WritesByForest (forest_of t) f e h × LeavesByForest t f e h) × (AcksByForest t f e h × RollsByForest t f e h)

  happens_so : (f : Facts) (e : List Event) (h : Happening) → By f e h → HappensByTree (forest_of t) f (facts_after t.places t.commands f h) h e
  happens_so f e (happenings.Turn u) by = record {
    wrote = by.0.0;
    left = by.0.1;
    sent = sends_so (forest_of t) (with_exits f (facts_after t.places t.commands f (happenings.Turn u)) u e) u.sent by.1.0 by.1.1;
  }
  happens_so f e _ by = tt

  goes_so : (f : Facts) (e : List Event) (hs : List Happening) → EachEventFrom By t.places t.commands f e hs → GoByTree (forest_of t) t.places t.commands f hs e
  unfolding GoByTree
  goes_so f e [] by = tt
  goes_so f e (h ∷ hs) by = (happens_so f e h by.0, goes_so (facts_after t.places t.commands f h) (events_after t.places t.commands f h e) hs by.1)

pub runs_go_by_forest : RunsGoByForest
runs_go_by_forest t lawful =
    goes_so t (first_facts t.places) [] t.trace
    (both_each t.places t.commands _ _ (first_facts t.places) [] t.trace
    (both_each t.places t.commands _ _ (first_facts t.places) [] t.trace (records_go_by_forest t lawful) (leaves_go_by_forest t lawful))
    (both_each t.places t.commands _ _ (first_facts t.places) [] t.trace (acks_go_by_forest t lawful) (rolls_go_by_forest t lawful)))

pub runs_agree : RunsAgree
runs_agree t lawful = runs_by_trees_agree t lawful (forest_of t) (runs_have_forests t lawful) (runs_go_by_forest t lawful)

pub every_book_agrees : EveryBookAgrees
every_book_agrees t lawful = (runs_agree t lawful).0

pub every_mixed_is_marked : EveryMixedIsMarked
every_mixed_is_marked t lawful = (runs_agree t lawful).1
