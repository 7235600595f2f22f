-- Why a COMMIT was answered as it was: what the book and the branch history had of its transaction as the turn came that answered
-- it, and what came in that turn. So an administrator reads from the answer what to do: by ORA-02050 there is nothing left to
-- decide; by ORA-02054 the root's node is in doubt, and its neighbour on the way to the commit point site knows more; by ORA-02053
-- the transaction is committed, and some nodes have not acknowledged it. (Error Messages: ORA-02050, ORA-02053, ORA-02054;
-- Database Administrator's Guide, "Distributed Transactions Concepts": prepare, commit and forget phases, in-doubt transactions.)
use Rattle.std.specs.Prelude.{◌≡◌, ◌⊎◌, ℕ, ◌≤◌, ◌||◌, Bool, true, false, List, ◌++◌, slice_get, option_to_list, Option, Some, None}
use Rattle.std.specs.List.{list_all}
use Rattle.node_rules.specs.Data.{Answer, BranchId, Decided, Decision, Input}
use Rattle.node_rules.specs.Data.answers
use Rattle.node_rules.specs.Data.decisions
use Rattle.node_rules.specs.Data.inputs
use Rattle.node_rules.specs.Data.records
use Rattle.node_rules.specs.Ids.{decimal}
use Rattle.node_rules.specs.Refusals.{ora}
use Rattle.node_rules.specs.Sessions.{commit_complete, tran_refusal}
use Rattle.node_rules.specs.Words.{same, one}
use Rattle.run_rules.specs.Book.{in_doubt, is_sealed_of, is_decided_of, stands}
use Rattle.run_rules.specs.BranchRecords.{decided_in}
use Rattle.run_rules.specs.Branches.{Trail, is_among, plan_at, read_at_at, seen_at}
use Rattle.run_rules.specs.Data.{Entry, Turn}
use Rattle.run_rules.specs.Data.entries
use Rattle.run_rules.specs.Data.happenings
use Rattle.run_rules.specs.Each.{facts_upto, trail_upto}
use Rattle.run_rules.specs.Facts.{Facts, records_at}
use Rattle.run_rules.specs.Lawful.{History}
use Rattle.run_rules.specs.Trail.{has_no_site, trail_after}
use Rattle.run_claims.specs.Knowledge.{ForgottenByToward, HeardFromToward, IsAbortTo, IsCommitOfLeaf, IsLastVote, acks_of, neighbors_of}

-- ---- what the book has of a root

-- whether by this entry a branch knows the outcome of its transaction: it decided, ended, or met the decision
abbrev pub is_outcome_of : BranchId → Entry → Bool
is_outcome_of b (entries.Decided c g cs n) = same c b
is_outcome_of b (entries.Ended c d) = same c b
is_outcome_of b (entries.Met c d mixed) = same c b
is_outcome_of b _ = false

-- whether by this entry it knows that its transaction is committed: it decided, ended with the commit, or met it
abbrev pub is_commit_of : BranchId → Entry → Bool
is_commit_of b (entries.Decided c g cs n) = same c b
is_commit_of b (entries.Ended c (decisions.Commit n)) = same c b
is_commit_of b (entries.Met c (decisions.Commit n) mixed) = same c b
is_commit_of b _ = false

-- whether by this entry it is sealed, or has decided
abbrev pub is_prepared_of : BranchId → Entry → Bool
is_prepared_of b e = is_sealed_of b e || is_decided_of b e

-- A root is in doubt at its node: it is sealed, and neither ended nor forced, and it knows no outcome.
pub record IsInDoubt (book : List Entry) (g : BranchId) : Type 0 where
  pub doubt : is_among g (in_doubt book g.node) ≡ true
  pub unknown : stands (is_outcome_of g) book ≡ false

-- ---- causes

-- a COMMIT of a root is given up
abbrev pub IsGivenUp : BranchId → Input → Type 0
IsGivenUp g input = input ≡ inputs.GiveUp g.session

-- The collect of a root is complete, and none of its children said Abort, which would have dropped it before: the last answer came,
-- or COMMIT came and there are no children.
pub record AllAgree (tr : Trail) (n : ℕ) (g : BranchId) (input : Input) : Type 0 where
  pub last : IsLastVote tr g input ⊎ IsCommitOfLeaf tr n g input
  pub unaborted : IsAbortTo tr g input → ⊥

-- Why the COMMIT of the transaction of this root was answered so, in a turn: by the facts and the branch history as the turn came,
-- and the branch history after it.
pub data CommitCause (f : Facts) (tr after : Trail) (u : Turn) (g : BranchId) (a : Answer) : Type 0 where
  -- Commit complete
  None_had_changes : AllAgree tr u.node g u.input → has_no_site (plan_at after g) ≡ true → a ≡ commit_complete → CommitCause f tr after u g a
  All_acknowledged : (r : Decided) → decided_in (records_at f g.node ++ option_to_list u.wrote) g ≡ Some r → list_all (λ c. is_among c (acks_of (seen_at after g))) (neighbors_of r) ≡ true → a ≡ commit_complete
      → CommitCause f tr after u g a  -- the root is the site, and each neighbour that its decision names has acknowledged it
  Site_side_forgot : stands (is_commit_of g) f.book ≡ true → ForgottenByToward f g u.input → a ≡ commit_complete → CommitCause f tr after u g a
  -- ORA-02050
  A_child_aborted : IsAbortTo tr g u.input → a ≡ tran_refusal 2050 g → CommitCause f tr after u g a
  Given_up_early : stands (is_prepared_of g) f.book ≡ false → IsGivenUp g u.input → a ≡ tran_refusal 2050 g → CommitCause f tr after u g a
  Site_side_rolled_back : IsInDoubt f.book g → HeardFromToward f g decisions.Rollback u.input → a ≡ tran_refusal 2050 g → CommitCause f tr after u g a
  -- ORA-02054
  Given_up_in_doubt : IsInDoubt f.book g → IsGivenUp g u.input → a ≡ tran_refusal 2054 g → CommitCause f tr after u g a
  Forced_in_doubt : IsInDoubt f.book g → (d : Decision) (given : Bool) → u.wrote ≡ Some (records.Forced g d given) → a ≡ tran_refusal 2054 g → CommitCause f tr after u g a
  -- ORA-02053
  Given_up_committed : stands (is_commit_of g) f.book ≡ true → IsGivenUp g u.input → a ≡ tran_refusal 2053 g → CommitCause f tr after u g a

-- Why a COMMIT was answered so, by the transaction that its session had, if it had one.
pub data AnswerCause (f : Facts) (tr after : Trail) (u : Turn) (transaction : Option BranchId) (a : Answer) : Type 0 where
  Has_none : transaction ≡ None → a ≡ commit_complete → AnswerCause f tr after u transaction a
  Needs_rollback : (g : BranchId) (code : ℕ) → transaction ≡ Some g → a ≡ answers.Refused (ora 2067 (one (decimal code))) → AnswerCause f tr after u transaction a  -- nothing ends
  Is_read_only : (g : BranchId) (scn : ℕ) → transaction ≡ Some g → read_at_at tr g ≡ Some scn → a ≡ commit_complete → AnswerCause f tr after u transaction a  -- it is READ ONLY
  Ends_for : (g : BranchId) → transaction ≡ Some g → CommitCause f tr after u g a → AnswerCause f tr after u transaction a

-- A COMMIT that came at a moment to a node was answered in a turn of that node, then or later, for a cause.
pub record HasItsCause (t : History) (came node : ℕ) (transaction : Option BranchId) (a : Answer) : Type 0 where
  pub moment : ℕ
  pub later : came ≤ moment
  pub turn : Turn
  pub there : slice_get t.trace moment ≡ Some (happenings.Turn turn)
  pub here : turn.node ≡ node
  pub uncut : turn.cut ≡ false
  pub cause : AnswerCause (facts_upto t moment) (trail_upto t moment) (trail_after t.places (facts_upto t moment) (trail_upto t moment) (happenings.Turn turn)) turn transaction a
