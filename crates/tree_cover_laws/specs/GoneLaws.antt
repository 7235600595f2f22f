-- Refusals of gone branches do not stay behind: a call that a gone branch refused is refused by each branch above it, up to
-- the root, whose transaction then can only be rolled back. So a branch makes the next call to a child only after an answer
-- of that child which is no such refusal, and what a live branch holds of a child's weight was told by such an answer.
-- (Database Administrator's Guide, "Distributed Transactions Concepts": session trees.)
use Rattle.std.specs.Prelude.{◌≡◌, ℕ, ◌+◌, ◌≤◌, ◌⊎◌, true, false, List, [], ◌∷◌, Option, Some, None}
use Rattle.node_rules.specs.Data.{BranchId, Edge, Kind, Post, ReplyFields}
use Rattle.node_rules.specs.Data.kinds
use Rattle.node_rules.specs.declared.work.Work.{Work}
use Rattle.node_rules.specs.Words.{numbered}
use Rattle.node_rules.specs.NodeState.{NodeState, Branch, branch_at}
use Rattle.node_rules.specs.Calls.{is_gone}
use Rattle.run_rules.specs.Facts.{node_at}
use Rattle.run_rules.specs.Lawful.{History, IsLawfulRun, facts_at}
use Rattle.run_base_laws.specs.InTurnLaws.{said_in, newest_exec, WaitsFor, call_at, NeedsNoRollback}

-- a Reply to the call of this number, with this weight, that is no refusal of a gone branch
abbrev pub TellsWell : ℕ → Option ℕ → Kind → Type 0
TellsWell n wt (kinds.Reply call weight count a) = (call ≡ n) × (weight ≡ wt) × (is_gone a ≡ false)
TellsWell n wt _ = ⊥

-- a branch sent one
abbrev pub ToldWell : List Post → BranchId → ℕ → Option ℕ → Type 0
ToldWell [] b n wt = ⊥
ToldWell (m ∷ ms) b n wt = ((m.from ≡ b) × TellsWell n wt m.kind) ⊎ ToldWell ms b n wt

-- the last answer of a branch was such a refusal, which it passed on
abbrev pub HasGone : Work → Type 0
HasGone w = (t : ReplyFields) × (w.came.reply ≡ Some t) × (is_gone t.result ≡ true)

-- What a branch holds of its children's weights was told by answers that are no such refusals, unless the branch waits for the
-- answer, or its own last answer was such a refusal; then it told no other.
pub record HoldsWell (said : List Post) (goes_on : Type 0) (me : BranchId) (edges : List Edge) (w : Work) : Type 0 where
  pub held : goes_on → (i : ℕ) (e : Edge) → numbered edges i ≡ Some e → WaitsFor i w.going ⊎ (ToldWell said e.peer (call_at w i) e.weight ⊎ HasGone w)
  pub kept : HasGone w → (v : Option ℕ) → ToldWell said me w.came.last_call v → ⊥
  pub first : w.came.last_call ≡ 0 → w.came.reply ≡ None

-- In every lawful run this is so of each live branch below a root, and of each root whose transaction needs no rollback.
abbrev pub BranchesHoldWell : Type 0
BranchesHoldWell = (t : History) → IsLawfulRun t → (n : ℕ) (k : NodeState) → node_at (facts_at t) n ≡ Some k → (x : Branch) → branch_at k x.live.me ≡ Some x
    → HoldsWell (said_in (facts_at t)) (NeedsNoRollback k x.live) x.live.me x.live.edges x.work

-- each call but the first was made after an answer to the call before that is no such refusal
abbrev pub CallsWell : List Post → Type 0
CallsWell said = (p c : BranchId) (n : ℕ) → 1 ≤ n → n + 1 ≤ newest_exec said p c → (v : Option ℕ) × ToldWell said c n v

-- In every lawful run.
abbrev pub CallsFollowAnswers : Type 0
CallsFollowAnswers = (t : History) → IsLawfulRun t → CallsWell (said_in (facts_at t))
