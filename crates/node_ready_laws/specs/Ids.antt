-- Which branch ids a node has given out, and that a live branch is neither kept nor in doubt.
use Rattle.std.specs.Prelude.{◌≡◌, ℕ, ◌+◌, ◌<◌, ◌≤◌, List, length, map, unwrap_or, Some, None}
use Rattle.std.specs.List.{AllByRecursion}
use Rattle.node_rules.specs.Data.{BranchId, KeptRow, Live, Doubt, Place, Input}
use Rattle.node_rules.specs.Words.{item_at, numbered}
use Rattle.node_rules.specs.NodeState.{NodeState, kept_row_id, doubt_id, live_at}
use Rattle.node_rules.specs.Calls.{next_child}
use Rattle.node_rules.specs.Client.{new_root}
use Rattle.node_rules.specs.Inputs.{IsSession, IsFit}
use Rattle.node_rules.specs.Turn.{turn_of, made}

-- the number of a session's last transaction
abbrev pub last_seq : List ℕ → ℕ → ℕ
last_seq seqs session = unwrap_or (numbered seqs session) 0

-- An id that a node has given out: before its last start, to a transaction of a session, or to a branch that was opened.
pub data IsGiven (boot : ℕ) (seqs : List ℕ) (opened : ℕ) (b : BranchId) : Type 0 where
  Before_start : b.boot < boot → IsGiven boot seqs opened b
  In_session : b.boot ≡ boot → b.session ≤ 64 → b.seq ≤ last_seq seqs b.session → IsGiven boot seqs opened b
  Over_link : b.boot ≡ boot → 65 ≤ b.session → b.session < 65 + opened → IsGiven boot seqs opened b

-- neither kept nor in doubt
abbrev pub IsUnkept : List KeptRow → List Doubt → BranchId → Type 0
IsUnkept kept doubts b = (item_at kept_row_id kept b ≡ None) × (item_at doubt_id doubts b ≡ None)

-- 64 sessions, branches whose ids were given out, and live ones that are neither kept nor in doubt.
pub record IdsAreApart (boot : ℕ) (seqs : List ℕ) (opened : ℕ) (lives : List Live) (kept : List KeptRow) (doubts : List Doubt) : Type 0 where
  pub sessions : length seqs ≡ 64
  pub live_given : AllByRecursion (λ l. IsGiven boot seqs opened l.me) lives
  pub kept_given : AllByRecursion (λ s. IsGiven boot seqs opened s.me) kept
  pub doubts_given : AllByRecursion (λ d. IsGiven boot seqs opened d.branch) doubts
  pub free : AllByRecursion (λ l. IsUnkept kept doubts l.me) lives

-- a node whose branches are so
abbrev pub HasOwnIds : NodeState → Type 0
HasOwnIds k = IdsAreApart k.stored.durable.boot (map (λ s. s.seq) k.sessions) (length k.opens) k.lives k.stored.durable.kept k.stored.doubts

-- each turn leaves them so
abbrev pub IdsStay : Type 0
IdsStay = (p : Place) (k : NodeState) (input : Input) → IsFit input → HasOwnIds k → HasOwnIds (turn_of p k input).after

-- no branch of a node that has just been made
abbrev pub NoIdsAtFirst : Type 0
NoIdsAtFirst = HasOwnIds made

-- a branch that is live is neither kept nor in doubt
abbrev pub LivesAreFree : Type 0
LivesAreFree = (k : NodeState) (b : BranchId) (l : Live) → HasOwnIds k → live_at k b ≡ Some l → IsUnkept k.stored.durable.kept k.stored.doubts b

-- an id that is given out next is of no branch
abbrev pub NewIdsAreNew : Type 0
NewIdsAreNew = (p : Place) (k : NodeState) → HasOwnIds k
    → ((live_at k (next_child p k) ≡ None) × IsUnkept k.stored.durable.kept k.stored.doubts (next_child p k))
    × ((n : ℕ) → IsSession n → (live_at k (new_root p k n) ≡ None) × IsUnkept k.stored.durable.kept k.stored.doubts (new_root p k n))
