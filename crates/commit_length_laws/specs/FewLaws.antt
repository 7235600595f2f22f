-- How many messages are delivered in the course of a COMMIT that nothing disturbs: fewer than the 4,096 that a command may have
-- delivered. (Database Administrator's Guide, "Distributed Transactions Concepts": two-phase commit mechanism; the limit
-- is dtx's own.)
use Rattle.std.specs.Prelude.{◌≡◌, ℕ, ◌+◌, ◌*◌, ◌≤◌, ◌<◌, false, if◌then◌else◌, is_some, List, [], ◌∷◌, ◌++◌, None}
use Rattle.std.specs.List.{AllByRecursion}
use Rattle.dtx_values.specs.Limits.{delivery_limit}
use Rattle.session_tree.specs.Tree.{count}
use Rattle.node_rules.specs.Data.{BranchId, Place}
use Rattle.net_bag.specs.Net.{first_flying}
use Rattle.run_rules.specs.Data.{Command, Happening}
use Rattle.run_rules.specs.Data.happenings
use Rattle.run_rules.specs.Lawful.{History, IsLawfulRun}
use Rattle.run_claims.specs.Undisturbed.{Commit, IsInCourse, NoneComesIn, facts_by, branches_by}
use Rattle.commit_length_laws.specs.Worth.{all_worth}
use Rattle.commit_length_laws.specs.Once.{all_between}

-- whether a happening is a delivery, as a number
abbrev pub delivery_of : Happening → ℕ
delivery_of (happenings.Turn u) = if is_some u.took then 1 else 0
delivery_of _ = 0

-- how many of these are
abbrev pub deliveries_in : List Happening → ℕ
deliveries_in [] = 0
deliveries_in (h ∷ hs) = delivery_of h + deliveries_in hs

-- A COMMIT flows: nothing is in flight when it is called, and the turn of the call is whole. From then on messages are
-- delivered in whole turns, each for the first time, and nothing else happens but the CREATE itself whose COMMIT it is. No
-- rollback and no question of the recoverer has come to a branch of its transaction. Messages may still be in flight.
pub record Flows (places : List Place) (asked : List Command) (trace : List Happening) (c : Commit places asked trace) : Type 0 where
  pub still : first_flying (facts_by places asked c.before).net ≡ None
  pub whole : c.call.cut ≡ false
  pub course : AllByRecursion IsInCourse c.during
  pub calm : AllByRecursion (NoneComesIn (branches_by places asked trace c.root)) trace

-- What has happened up to a moment in its course.
abbrev pub upto : (places : List Place) (asked : List Command) (trace : List Happening) → Commit places asked trace → List Happening → List Happening
upto places asked trace c mid = c.before ++ happenings.Turn c.call ∷ mid

-- In every lawful run each commit goes from a branch to a neighbour once in such a COMMIT, and its Ack comes back once: between two
-- branches there is never more than one CommitPoint, commit or Ack, to be said, in flight or noted.
abbrev pub MessagesGoOnce : Type 0
MessagesGoOnce = (t : History) → IsLawfulRun t → (c : Commit t.places t.commands t.trace) → Flows t.places t.commands t.trace c → (mid rest : List Happening) → mid ++ rest ≡ c.during → (z w : BranchId)
    → all_between z w c.root (facts_by t.places t.commands (upto t.places t.commands t.trace c mid)) ≤ 1

-- And each delivery lessens what all that is in flight and kept may still lead to.
abbrev pub DeliveriesLessen : Type 0
DeliveriesLessen = (t : History) → IsLawfulRun t → (c : Commit t.places t.commands t.trace) → Flows t.places t.commands t.trace c → (mid : List Happening) (h : Happening) (rest : List Happening) → mid ++ h ∷ rest ≡ c.during
    → delivery_of h + all_worth c.root (facts_by t.places t.commands (upto t.places t.commands t.trace c (mid ++ h ∷ []))) ≤ all_worth c.root (facts_by t.places t.commands (upto t.places t.commands t.trace c mid))

-- In every lawful run such a COMMIT has had at most 11 messages delivered for each branch of its session tree, as its root counts
-- them, less 5.
abbrev pub DeliveriesAreFew : Type 0
DeliveriesAreFew = (t : History) → IsLawfulRun t → (c : Commit t.places t.commands t.trace) → Flows t.places t.commands t.trace c → deliveries_in c.during + 5 ≤ 11 * count c.live

-- So it never comes to the most deliveries that a command may have: of 256 branches at most 2,811.
abbrev pub DeliveriesStayBelow : Type 0
DeliveriesStayBelow = (t : History) → IsLawfulRun t → (c : Commit t.places t.commands t.trace) → Flows t.places t.commands t.trace c → deliveries_in c.during < delivery_limit
