-- What is left to be shown of a turn, since every turn of a lawful run tells as the events do: what its record and its
-- messages need of the session tree, turned round at the commit point site.
use Rattle.std.specs.Prelude.{◌≡◌, ◌≢◌, ℕ, ◌<◌, ◌⊎◌, true, List, [], ◌∷◌, Option, Some, None}
use Rattle.std.specs.List.{list_any}
use Rattle.node_rules.specs.Data.{BranchId, Msg, Place}
use Rattle.node_rules.specs.Data.decisions
use Rattle.agreement.specs.Events.{Forest, IsForest, Quiet, Event, Seal, Decide, Answer_read_only, Learn, Forget, Send_commit, Send_rollback, Send_ack, Send_forgotten, exit, learned, Has, Beyond, Heard, Cleared, Gone, site_of}
use Rattle.run_rules.specs.Data.{Turn, Happening, Command}
use Rattle.run_rules.specs.Data.happenings
use Rattle.run_rules.specs.Entries.{book_of as trace_book}
use Rattle.run_rules.specs.Book.{Agreement, MixedIsMarked, AboveSeals}
use Rattle.run_rules.specs.Trail.{is_quiet}
use Rattle.run_rules.specs.Facts.{Facts, first_facts, node_at, facts_after}
use Rattle.run_rules.specs.Lawful.{History, IsLawfulRun}
use Rattle.run_base_laws.specs.RunEvents.{wrote_event, message_event, lives_at, has_left, with_leaver, with_record, with_exits, events_after, AreJust}

-- What an event needs of the tree: a seal and a decision, that each neighbour beyond voted or has no changes; an answer
-- without changes, that all beyond have none; a decision that is learned, that toward told it; Forgot and Ack, that those
-- beyond are cleared; a rollback that is told to one beyond, that its sender is gone. Nothing else needs anything of it.
abbrev pub TreeAllows : Forest → List Event → Event → Type 0
TreeAllows p t (Seal b g n cs) = (p.member b ≡ true) × (b ≢ site_of p b) × Heard p t b n × (p.root b ≡ g)
TreeAllows p t (Decide b g n cs) = (b ≡ site_of p b) × ((k : ℕ) × (k < n) × Heard p t b k) × (p.root b ≡ g)
TreeAllows p t (Answer_read_only b) = (b ≢ site_of p b) × ((x : BranchId) → Beyond p x b → exit t x ≡ Some Quiet)
TreeAllows p t (Learn b (decisions.Commit n) mixed) = Has (Send_commit (p.toward b) b n) t
TreeAllows p t (Learn b decisions.Rollback mixed) = Has (Send_rollback (p.toward b) b) t
TreeAllows p t (Forget b) = Cleared p t b ⊎ ((b ≢ site_of p b) × Has (Send_forgotten (p.toward b) b) t)
TreeAllows p t (Send_rollback e d) = Beyond p d e → Gone t e ⊎ (exit t d ≡ Some Quiet)
TreeAllows p t (Send_ack b f) = Beyond p b f → ((n : ℕ) × (learned t b ≡ Some (decisions.Commit n)) × Cleared p t b) ⊎ (Gone t b × ((n : ℕ) × Has (Send_commit f b n) t))
TreeAllows p t _ = Unit {0}

-- the tree allows an event, where there is one
abbrev pub IsTreeAllowed : Forest → List Event → Option Event → Type 0
IsTreeAllowed p t None = Unit {0}
IsTreeAllowed p t (Some e) = TreeAllows p t e

-- the tree allows each of these messages
abbrev pub TreeSends : Forest → List Event → List Msg → Type 0
TreeSends p t [] = Unit {0}
TreeSends p t (m ∷ ms) = IsTreeAllowed p t (message_event m.from m.to m.scn m.kind) × TreeSends p t ms

-- the tree allows each branch that answers without changes to do so
abbrev pub TreeLeaves : Forest → List BranchId → List Msg → List BranchId → List Event → Type 0
TreeLeaves p after sent [] t = Unit {0}
TreeLeaves p after sent (b ∷ bs) t =
    (has_left after t b ≡ true → list_any (is_quiet b) sent ≡ true → TreeAllows p t (Answer_read_only b)) × TreeLeaves p after sent bs (with_leaver after sent b t)

-- What a turn needs of the tree.
pub record IsTreeJust (p : Forest) (before after : Facts) (u : Turn) (t : List Event) : Type 0 where
  pub wrote : IsTreeAllowed p t (wrote_event u.node u.wrote)
  pub left : TreeLeaves p (lives_at (node_at after u.node)) u.sent (lives_at (node_at before u.node)) (with_record u t)
  pub sent : TreeSends p (with_exits before after u t) u.sent

-- only turns need anything
abbrev pub HappensByTree : Forest → Facts → Facts → Happening → List Event → Type 0
HappensByTree p before after (happenings.Turn u) t = IsTreeJust p before after u t
HappensByTree p before after _ t = Unit {0}

-- each turn of a trace is so
unfoldable pub GoByTree : Forest → List Place → List Command → Facts → List Happening → List Event → Type 0
GoByTree p places asked f [] t = Unit {0}
GoByTree p places asked f (h ∷ hs) t = HappensByTree p f (facts_after places asked f h) h t × GoByTree p places asked (facts_after places asked f h) hs (events_after places asked f h t)

-- A lawful run whose turns go by a forest is just.
abbrev pub RunsByTreesAreJust : Type 0
RunsByTreesAreJust = (r : History) → IsLawfulRun r → (p : Forest) → GoByTree p r.places r.commands (first_facts r.places) r.trace [] → AreJust p r.places r.commands (first_facts r.places) r.trace []

-- So its book agrees, its mixed outcomes are marked, and its decisions exceed their seals.
abbrev pub RunsByTreesAgree : Type 0
RunsByTreesAgree = (r : History) → IsLawfulRun r → (p : Forest) → IsForest p → GoByTree p r.places r.commands (first_facts r.places) r.trace []
    → Agreement (trace_book r.trace) × MixedIsMarked (trace_book r.trace) × AboveSeals (trace_book r.trace)
