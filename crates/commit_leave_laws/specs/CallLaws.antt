-- The answer of an undisturbed COMMIT: as long as it is pending its root is live, or has a row that has not forgotten it. (SQL
-- Language Reference: COMMIT; Database Administrator's Guide, "Distributed Transactions Concepts": commit and forget phases.)
use Rattle.std.specs.Prelude.{◌≡◌, [], ◌∷◌, None, Some}
use Rattle.node_rules.specs.Data.{BranchId}
use Rattle.node_rules.specs.NodeState.{NodeState, kept_row_at}
use Rattle.node_rules.specs.Sessions.{commit_complete}
use Rattle.run_rules.specs.Data.happenings
use Rattle.run_rules.specs.Facts.{node_at}
use Rattle.run_rules.specs.Lawful.{History, IsLawfulRun, facts_at}
use Rattle.commit_laws.specs.StillLaws.{DroppedNone, AbortsNone}
use Rattle.run_claims.specs.Undisturbed.{Commit, Undisturbed, facts_by, commit_answers_from}

-- a branch has no row at its node, where that is up
abbrev pub HasNoRow : History → BranchId → Type 0
HasNoRow t b = (k : NodeState) → node_at (facts_at t) b.node ≡ Some k → kept_row_at k b ≡ None

-- In every lawful run an undisturbed COMMIT has one answer, Commit complete, once no row of its root is left, where no branch
-- below the root was dropped and none said Abort.
abbrev pub UndisturbedCallsEnd : Type 0
UndisturbedCallsEnd = (t : History) → IsLawfulRun t → (c : Commit t.places t.commands t.trace) → Undisturbed t.places t.commands t.trace c → DroppedNone t c.root → AbortsNone t c.root → HasNoRow t c.root
    → commit_answers_from t.places t.commands (facts_by t.places t.commands c.before) c.call.node c.session (happenings.Turn c.call ∷ c.during) ≡ commit_complete ∷ []
