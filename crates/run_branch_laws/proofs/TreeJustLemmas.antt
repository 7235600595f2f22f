-- A lawful run whose turns do what the session tree allows is just: all else stands by the laws of every run.
use Rattle.std.proofs.Common.{◌≡◌, ℕ, not, Bool, List, [], ◌∷◌, is_none, Option, Some, None, sym, ap, ◌∙◌}
use Rattle.std.specs.Prelude.{IfSome}
use Rattle.std.proofs.lemmas.Bool.{and_parts}
use Rattle.agreement.specs.Events.{Forest, Sealed, Event, Learn, mark, exit, learned, forced, Allowed}
use Rattle.node_rules.specs.Data.{BranchId, Decision, Kind, Msg, RedoRecord, Place}
use Rattle.node_rules.specs.Data.decisions
use Rattle.node_rules.specs.Data.kinds
use Rattle.node_rules.specs.Data.records
use Rattle.node_rules.specs.Words.{numbered}
use Rattle.run_rules.specs.Data.{Happening, Command}
use Rattle.run_rules.specs.Data.happenings
use Rattle.run_rules.specs.Branches.{is_among}
use Rattle.run_rules.specs.Facts.{Facts, first_facts, node_at, facts_after}
use Rattle.run_rules.specs.Lawful.{IsPlace, MayHappen, IsLawful}
use Rattle.run_base_laws.specs.RunEvents.{wrote_event, record_event, message_event, lives_at, with_leaver, with_record, events_after, IsAllowed, MaySend, MayLeave, HappensJustly, AreJust}
use Rattle.run_base_laws.specs.EventRows.{MayStand, MaySayByEvents, MaySayAll}
use Rattle.run_branch_laws.specs.TreeJust.{TreeAllows, IsTreeAllowed, TreeSends, TreeLeaves, HappensByTree, GoByTree, RunsByTreesAreJust, RunsByTreesAgree}
use Rattle.run_base_laws.proofs.LaterLemmas.{Added, Nothing_more, One_more, leavers_added}
use Rattle.run_branch_laws.proofs.JustLemmas.{said_stays, none_is, just_runs_agree}
use Rattle.run_base_laws.proofs.EventsStandLemmas.{BranchStatus, tells_so, stand_on, stand_first}

module _ (p : Forest) where
  -- ---- records

  -- a branch learns what toward told it
  learn_allowed : (t : List Event) (b : BranchId) (d : Decision) (mixed : Option Bool) → ((m : ℕ) × (exit t b ≡ Some (Sealed m))) → learned t b ≡ None → mixed ≡ mark (forced t b) d → TreeAllows p t (Learn b d mixed)
      → Allowed p t (Learn b d mixed)
  learn_allowed t b (decisions.Commit n) mixed sealed none marked told = (sealed, none, told, marked)
  learn_allowed t b decisions.Rollback mixed sealed none marked told = (sealed, none, told, marked)

  record_allowed : (t : List Event) (n : ℕ) (r : RedoRecord) → MayStand t r → IsTreeAllowed p t (record_event n r) → IsAllowed p t (record_event n r)
  record_allowed t n (records.Sealed r) may tree = (may.0, tree.0, tree.1, tree.2, tree.3)
  record_allowed t n (records.Decided r) may tree = (may, tree.0, tree.1, tree.2)
  record_allowed t n (records.Ended b d) may tree = learn_allowed t b d None may.0 may.1 (ap (λ o. mark o d) (sym may.2)) tree
  record_allowed t n (records.Met b d mixed) may tree = learn_allowed t b d (Some mixed) may.0 may.1 (ap Some may.2.2 ∙ ap (λ o. mark o d) (sym may.2.1)) tree
  record_allowed t n (records.Forced b d given) may tree = (may.0.0, may.0.1, may.1, may.2)
  record_allowed t n (records.Forgot b) may tree = (may.0, may.1, tree)
  record_allowed t n (records.Table table) may tree = tt
  record_allowed t n _ may tree = tt

  wrote_allowed : (t : List Event) (n : ℕ) (w : Option RedoRecord) → IfSome w (MayStand t) → IsTreeAllowed p t (wrote_event n w) → IsAllowed p t (wrote_event n w)
  wrote_allowed t n None may tree = tt
  wrote_allowed t n (Some r) may tree = record_allowed t n r may tree

  -- ---- messages

  -- what was allowed stays so
  allowed_later : {Q : Event → Type 0} {t r : List Event} → Added Q t r → (from to : BranchId) (scn : ℕ) (kind : Kind) → IsAllowed p t (message_event from to scn kind) → IsAllowed p r (message_event from to scn kind)
  allowed_later Nothing_more from to scn kind is = is
  allowed_later (One_more {s = s} e so more) from to scn kind is = said_stays p e s from to scn kind (allowed_later more from to scn kind is)

  module _ {Q : Event → Type 0} {t r : List Event} (more : Added Q t r) where
    message_allowed : (from to : BranchId) (scn : ℕ) (kind : Kind) → MaySayByEvents t from to scn kind → IsTreeAllowed p r (message_event from to scn kind) → IsAllowed p r (message_event from to scn kind)
    message_allowed from to scn kinds.Prepared may tree = allowed_later more from to scn kinds.Prepared may
    message_allowed from to scn kinds.CommitPoint may tree = allowed_later more from to scn kinds.CommitPoint may
    message_allowed from to scn (kinds.Committed n) may tree = allowed_later more from to scn (kinds.Committed n) may
    message_allowed from to scn kinds.Forgotten may tree = allowed_later more from to scn kinds.Forgotten (λ beyond. may)
    message_allowed from to scn kinds.Rollback may tree = tree
    message_allowed from to scn kinds.RolledBack may tree = tree
    message_allowed from to scn kinds.Ack may tree = tree
    message_allowed from to scn _ may tree = tt

    messages_allowed : (ms : List Msg) → MaySayAll t ms → TreeSends p r ms → MaySend p r ms
    messages_allowed [] may tree = tt
    messages_allowed (m ∷ ms) may tree = (message_allowed m.from m.to m.scn m.kind may.0 tree.0, messages_allowed ms may.1 tree.1)

  -- ---- exits

  leaves_allowed : (after : List BranchId) (sent : List Msg) (bs : List BranchId) (t : List Event) → TreeLeaves p after sent bs t → MayLeave p after sent bs t
  leaves_allowed after sent [] t tree = tt
  leaves_allowed after sent (b ∷ bs) t tree = (
    (λ left quiet. (let none : exit t b ≡ None = none_is (exit t b) (and_parts (not (is_among b after)) (is_none (exit t b)) left).1 in let rest = tree.0 left quiet in (none, rest.0, rest.1))),
    leaves_allowed after sent bs (with_leaver after sent b t) tree.1,
  )

  -- ---- happenings

  module _ (places : List Place) (asked : List Command) (each : (n : ℕ) (q : Place) → numbered places n ≡ Some q → IsPlace places n q) where
    happens_justly : (f : Facts) (t : List Event) (h : Happening) → BranchStatus places asked each f t → MayHappen places asked f h → HappensByTree p f (facts_after places asked f h) h t → HappensJustly p f (facts_after places asked f h) h t
    happens_justly f t (happenings.Turn u) now may tree =
        let g : Facts = facts_after places asked f (happenings.Turn u) in
        let tells : IfSome u.wrote (MayStand t) × MaySayAll (with_record u t) u.sent = tells_so places asked each f t (happenings.Turn u) now may in
        record {
          wrote = wrote_allowed t u.node u.wrote tells.0 tree.wrote;
          left = leaves_allowed (lives_at (node_at g u.node)) u.sent (lives_at (node_at f u.node)) (with_record u t) tree.left;
          sent = messages_allowed (leavers_added (lives_at (node_at f u.node)) (lives_at (node_at g u.node)) u.sent (lives_at (node_at f u.node)) (with_record u t) (λ b is. is)) u.sent tells.1 tree.sent;
        }
    happens_justly f t _ now may tree = tt

    are_just : (f : Facts) (hs : List Happening) (t : List Event) → BranchStatus places asked each f t → IsLawful places asked f hs → GoByTree p places asked f hs t → AreJust p places asked f hs t
    unfolding IsLawful GoByTree AreJust
    are_just f [] t now lawful tree = tt
    are_just f (h ∷ hs) t now lawful tree =
        (happens_justly f t h now lawful.0 tree.0, are_just (facts_after places asked f h) hs (events_after places asked f h t) (stand_on places asked each f t h now lawful.0) lawful.1 tree.1)

pub runs_by_trees_are_just : RunsByTreesAreJust
runs_by_trees_are_just r lawful p tree =
    are_just p r.places r.commands r.of_a_script.each (first_facts r.places) r.trace [] (stand_first r.places r.commands r.of_a_script.each) lawful tree

pub runs_by_trees_agree : RunsByTreesAgree
runs_by_trees_agree r lawful p forest tree = just_runs_agree r (p, forest, runs_by_trees_are_just r lawful p tree)
