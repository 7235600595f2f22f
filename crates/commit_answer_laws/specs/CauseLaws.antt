-- For which causes a COMMIT that is pending ends: exactly in a turn that has one of them, with its answer. (Error Messages: ORA-02050, ORA-02053, ORA-02054;
-- Database Administrator's Guide, "Distributed Transactions Concepts": prepare, commit and forget phases.)
use Rattle.std.specs.Prelude.{◌≡◌, false, List, Some}
use Rattle.node_rules.specs.Data.{Answer, BranchId, Place}
use Rattle.node_rules.specs.NodeState.{NodeState}
use Rattle.node_rules.specs.Turn.{turn_of}
use Rattle.run_rules.specs.Branches.{Trail}
use Rattle.run_rules.specs.Data.{Happening, Turn}
use Rattle.run_rules.specs.Data.happenings
use Rattle.run_rules.specs.Each.{AtEach}
use Rattle.run_rules.specs.Facts.{Facts, node_at, place_at}
use Rattle.run_rules.specs.Lawful.{History, IsLawfulRun}
use Rattle.run_rules.specs.Trail.{trail_after}
use Rattle.commit_answer_laws.specs.CommitCauses.{CommitCause}
use Rattle.commit_answer_laws.specs.CommitEndLaws.{CommitPends, EndsCall}

-- the COMMIT of g ends in a turn with this answer
abbrev pub EndsWith : List Place → NodeState → Turn → BranchId → Answer → Type 0
EndsWith places k u g a = EndsCall (record { session = g.session; answer = a }) (turn_of (place_at places u.node) k u.input).ended

-- why it does
abbrev pub CauseOf : List Place → Facts → Trail → Turn → BranchId → Answer → Type 0
CauseOf places f tr u g a = CommitCause f tr (trail_after places f tr (happenings.Turn u)) u g a

-- a COMMIT that is pending, and ends in a turn that is whole, does so for a cause
abbrev pub EndsForCause : List Place → Facts → Trail → Happening → Type 0
EndsForCause places f tr (happenings.Turn u) = u.cut ≡ false → (k : NodeState) → node_at f u.node ≡ Some k → (g : BranchId) (a : Answer) → CommitPends k g → EndsWith places k u g a → CauseOf places f tr u g a
EndsForCause places f tr _ = Unit {0}

-- In every lawful run it is so of each turn.
abbrev pub CommitsEndForCause : Type 0
CommitsEndForCause = (t : History) → IsLawfulRun t → AtEach EndsForCause t

-- and each cause, in a turn that is whole, ends a COMMIT that is pending, with its answer
abbrev pub CauseEnds : List Place → Facts → Trail → Happening → Type 0
CauseEnds places f tr (happenings.Turn u) = u.cut ≡ false → (k : NodeState) → node_at f u.node ≡ Some k → (g : BranchId) (a : Answer) → CommitPends k g → CauseOf places f tr u g a → EndsWith places k u g a
CauseEnds places f tr _ = Unit {0}

-- In every lawful run it is so of each turn.
abbrev pub CausesEndCommits : Type 0
CausesEndCommits = (t : History) → IsLawfulRun t → AtEach CauseEnds t
