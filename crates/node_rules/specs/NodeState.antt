-- What a node keeps from turn to turn, and what one turn does. (Database Administrator's Guide, "Distributed Transactions
-- Concepts".)
pub use Rattle.redo_record.specs.Kept.{stands_at}
pub use Rattle.reco.specs.Asks.{post_one, to_each, to_one}
pub use Rattle.row_store.specs.Store.{own_id, doubt_id, sets_of, sets_at}
use Rattle.std.specs.Prelude.{ℕ, List, [], ◌∷◌, max, Option, Some, None}
use Rattle.node_rules.specs.Data.{BranchId, RedoRecord, KeptRow, Durable, Live, Kind, Msg, Owned, Doubt, Work, Opening, Session, Finished, Post, Answer}
use Rattle.node_rules.specs.Words.{item_at, put_item, drop_item}
use Rattle.node_rules.specs.Rows.{TableRows}
use Rattle.link_session.specs.Calls.{no_calls}
use Rattle.row_locks.specs.Locks.{Lock, without}
use Rattle.read_only_tx.specs.Versions.{Versions}
use Rattle.savepoints.specs.Marks.{no_marks}

-- What the records of a node give: catalog and kept branches, committed rows, branches in doubt in the order of their ids, the
-- greatest SCN except those that users gave, the greatest SCN of a commit that changed rows, and the number of the newest image,
-- 0 before any. The Acks that were heard stand with the kept branches, though no record has them.
pub record Stored : Type 0 where
  pub durable : Durable
  pub rows : List TableRows
  pub doubts : List Doubt
  pub scn : ℕ
  pub top : ℕ
  pub generation : ℕ

-- What a node keeps: what its records give, and what a stop loses.
pub record NodeState : Type 0 where
  pub stored : Stored
  pub owns : List Owned  -- what live branches have changed
  pub lives : List Live  -- live branches, in the order in which they began
  pub works : List Work  -- the calls of live branches
  pub locks : List Lock  -- in the order in which they were taken; those of a branch that seals come behind all others
  pub clock : ℕ
  pub versions : Versions  -- the newest commits, behind which READ ONLY transactions can look
  pub opens : List Opening  -- the Opens that were answered since the start
  pub sessions : List Session  -- client sessions, from number 1

-- A live branch with its calls.
pub record Branch : Type 0 where
  pub live : Live
  pub work : Work

-- What a turn does: the state after it, at most one record, the messages, the calls that end.
pub record TurnDraft : Type 0 where
  pub after : NodeState
  pub wrote : Option RedoRecord
  pub says : List Post
  pub ended : List Finished

-- The same with the node's clock on the messages.
pub record TurnOutput : Type 0 where
  pub after : NodeState
  pub wrote : Option RedoRecord
  pub sent : List Msg
  pub ended : List Finished

-- nothing happens
abbrev pub nothing : NodeState → TurnDraft
nothing k = record { after = k; wrote = None; says = []; ended = [] }

-- only messages are sent
abbrev pub saying : NodeState → List Post → TurnDraft
saying k says = record { after = k; wrote = None; says = says; ended = [] }

-- only the session's call ends
abbrev pub ending : NodeState → ℕ → Answer → TurnDraft
ending k session answer = record { after = k; wrote = None; says = []; ended = (record { session = session; answer = answer }) ∷ [] }

-- one message
abbrev pub post : BranchId → BranchId → Kind → List Post
post from to kind = (record { from = from; to = to; kind = kind }) ∷ []

-- a live branch's id
abbrev pub live_id : Live → BranchId
live_id l = l.me

-- the branch whose calls these are
abbrev pub work_id : Work → BranchId
work_id w = w.branch

-- the branch of a kept row
abbrev pub kept_row_id : KeptRow → BranchId
kept_row_id s = s.me

-- a branch to which no call came, and which made none
abbrev pub no_work : BranchId → Work
no_work b = record { branch = b; came = no_calls; calls = []; going = None; marks = no_marks }

-- the live branch of an id
abbrev pub live_at : NodeState → BranchId → Option Live
live_at k b = item_at live_id k.lives b

-- these calls, or none
abbrev pub work_or : BranchId → Option Work → Work
work_or b None = no_work b
work_or b (Some w) = w

-- the calls of a live branch
abbrev pub work_at : NodeState → BranchId → Work
work_at k b = work_or b (item_at work_id k.works b)

-- a live branch with its calls, where it is live
abbrev pub with_work : NodeState → Option Live → Option Branch
with_work k None = None
with_work k (Some l) = Some (record { live = l; work = work_at k l.me })

-- the live branch of an id, with its calls
abbrev pub branch_at : NodeState → BranchId → Option Branch
branch_at k b = with_work k (live_at k b)

-- with a live branch changed
abbrev pub with_live : NodeState → Live → NodeState
with_live k l = record k { lives = put_item live_id k.lives l }

-- with a live branch and its calls changed
abbrev pub with_branch : NodeState → Branch → NodeState
with_branch k x = record k { lives = put_item live_id k.lives x.live; works = put_item work_id k.works x.work }

-- without a live branch, its changes and its locks
abbrev pub without_branch : NodeState → BranchId → NodeState
without_branch k b = record k {
  owns = drop_item own_id k.owns b;
  lives = drop_item live_id k.lives b;
  works = drop_item work_id k.works b;
  locks = without k.locks b;
}

-- the row of a kept branch
abbrev pub kept_row_at : NodeState → BranchId → Option KeptRow
kept_row_at k b = item_at kept_row_id k.stored.durable.kept b

-- with the row of a kept branch changed
abbrev pub with_kept_row : NodeState → KeptRow → NodeState
with_kept_row k s = record k { stored = record k.stored { durable = record k.stored.durable { kept = put_item kept_row_id k.stored.durable.kept s } } }

-- with the clock raised to this SCN
abbrev pub raised : NodeState → ℕ → NodeState
raised k scn = record k { clock = max k.clock scn }
