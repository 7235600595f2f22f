-- What the branches of a node send when it recovers. (Database Administrator's Guide, "Distributed Transactions
-- Concepts": automatic resolution of in-doubt transactions, the recoverer process RECO.)
use Rattle.std.specs.Prelude.{ℕ, ◌&&◌, not, if◌then◌else◌, List, [], ◌∷◌, ◌++◌, map, filter, flat_map, fold, Option, Some, None}
use Rattle.tran_ids.specs.declared.branch.BranchId.{BranchId}
use Rattle.tran_ids.specs.Branch.{put_by_branch}
use Rattle.redo_record.specs.declared.decision.Decision.{Decision}
use Rattle.redo_record.specs.declared.decision.Decision.TheVariants as decisions
use Rattle.redo_record.specs.declared.durable.KeptRow.{KeptRow}
use Rattle.session_tree.specs.declared.live.Live.{Live}
use Rattle.wire_msg.specs.declared.kind.Kind.{Kind}
use Rattle.wire_msg.specs.declared.kind.Kind.TheVariants as kinds
use Rattle.reco.specs.declared.post.Post.{Post}
use Rattle.wire_msg.specs.declared.msg.Msg.{Msg}
use Rattle.commit_forget.specs.declared.next.Beyond.{Beyond}
use Rattle.commit_forget.specs.Beyond.{beyond, all_acked}
use Rattle.reco.specs.declared.asking.Asking.{Asking}

-- a message to one of several branches
abbrev pub post_one : BranchId → Kind → BranchId → Post
post_one from kind to = record { from = from; to = to; kind = kind }

-- the same message to each of these
abbrev pub to_each : BranchId → Kind → List BranchId → List Post
to_each from kind tos = map (post_one from kind) tos

-- a message to a branch, where there is one
abbrev pub to_one : BranchId → Kind → Option BranchId → List Post
to_one from kind None = []
to_one from kind (Some to) = post_one from kind to ∷ []

-- the branch of it
abbrev pub asking_id : Asking → BranchId
asking_id a = a.me

-- a live branch asks its parent
abbrev pub asks_live : Live → Asking
asks_live l = record { me = l.me; says = to_one l.me kinds.Ask l.parent }

-- Ack toward, where nobody is missing
abbrev pub acks_again : KeptRow → List Post
acks_again s = if all_acked s && not s.forgot then to_one s.me kinds.Ack s.toward else []

-- Committed to those whose Ack is missing
abbrev pub missing : BranchId → ℕ → List Beyond → List Post
missing me n bs = to_each me (kinds.Committed n) (map (λ b. b.branch) (filter (λ b. not b.acked) bs))

-- a known commit is told to those whose Ack is missing, and acknowledged where nobody's is
abbrev pub tells_commit : KeptRow → ℕ → List Post
tells_commit s n = missing s.me n (beyond s) ++ acks_again s

-- an unknown decision is asked for toward; a known commit is told to those whose Ack is missing
abbrev pub recovers : KeptRow → Option Decision → List Post
recovers s None = to_one s.me kinds.Ask s.toward
recovers s (Some (decisions.Commit n)) = tells_commit s n
recovers s (Some decisions.Rollback) = []

-- what a kept branch sends
abbrev pub asks_kept : KeptRow → Asking
asks_kept s = record { me = s.me; says = recovers s s.decision }

-- with the messages of one more branch, where those of a branch stand in the order of boot, session, seq
abbrev pub put_asking : List Asking → Asking → List Asking
put_asking xs a = put_by_branch asking_id xs a

-- what all branches of a node send, in order of boot, session, seq
abbrev pub askings_of : List KeptRow → List Live → List Asking
askings_of kept lives = fold put_asking [] (map asks_live lives ++ map asks_kept kept)

-- every message carries the node's clock
abbrev pub stamped : ℕ → Post → Msg
stamped scn x = record { from = x.from; to = x.to; scn = scn; kind = x.kind }

-- the messages of all, in that order
unfoldable pub asks : List KeptRow → List Live → ℕ → List Msg
asks kept lives scn = map (stamped scn) (flat_map (λ a. a.says) (askings_of kept lives))
