-- Who may write or say what: each record and each message of a turn against its input, the records and what the happenings
-- before tell. It follows from the turns, and is no premise of the laws. (Database Administrator's Guide, "Distributed
-- Transactions Concepts": two-phase commit.)
use Rattle.std.specs.Prelude.{◌≡◌, ℕ, ◌+◌, ◌⊎◌, ◌||◌, Bool, true, false, List, [], ◌∷◌, ◌++◌, map, filter, option_to_list, IfSome, Option, Some, None}
use Rattle.std.specs.List.{AllByRecursion, list_all}
use Rattle.node_rules.specs.Data.{BranchId, Decision, RedoRecord, Sealed, Decided, KeptRow, Stmt, Kind, Msg, Input, Place}
use Rattle.node_rules.specs.Data.decisions
use Rattle.node_rules.specs.Data.records
use Rattle.node_rules.specs.Data.params
use Rattle.node_rules.specs.Data.stmts
use Rattle.node_rules.specs.Data.kinds
use Rattle.node_rules.specs.Data.tasks
use Rattle.node_rules.specs.Data.inputs
use Rattle.node_rules.specs.Words.{same_text, item_at}
use Rattle.node_rules.specs.Ids.{local_text, global_text}
use Rattle.node_rules.specs.Names.{Behind, named_by, ref_of, passed_on, target_of}
use Rattle.node_rules.specs.NodeState.{NodeState, kept_row_id}
use Rattle.node_rules.specs.Force.{is_sealed}
use Rattle.node_rules.specs.Images.{image_at}
use Rattle.run_rules.specs.Book.{in_doubt}
use Rattle.node_rules.specs.Inputs.{Came, IsCall, Brings}
use Rattle.redo_record.specs.Durable.{durable}
use Rattle.run_rules.specs.Data.{Turn, Happening}
use Rattle.run_rules.specs.Data.happenings
use Rattle.run_rules.specs.Facts.{Facts, node_at, place_at, records_at}
use Rattle.run_rules.specs.Branches.{Seen, Trail, Gone, life_at, seen_at, own_at, children_at, root_at, is_among, all_voted}
use Rattle.run_rules.specs.Tree.{tree, parent_of}
use Rattle.run_rules.specs.Trail.{trail_after, is_first_vote, voted_after}
use Rattle.run_rules.specs.Each.{AtEach}
use Rattle.run_rules.specs.Lawful.{History}
use Rattle.run_rules.specs.BranchRecords.{sealed_in, decided_in, toward_at, CommitIsRecorded}

-- ---- what comes to a branch

-- CommitPoint from the parent
abbrev pub IsCommitPoint : Trail → BranchId → Input → Type 0
IsCommitPoint tr b input = (from : BranchId) × Came input from b kinds.CommitPoint × (parent_of (seen_at tr b) ≡ Some from)

-- Prepare
abbrev pub IsPrepare : BranchId → Input → Type 0
IsPrepare b input = (from : BranchId) × (site_below : Bool) × (comment : List ℕ) × Came input from b (kinds.Prepare site_below comment)

-- Prepare to a branch without children
abbrev pub IsPrepareToLeaf : Trail → BranchId → Input → Type 0
IsPrepareToLeaf tr b input = IsPrepare b input × (children_at tr b ≡ [])

-- A child's first answer to Prepare.
pub record IsFirstVote (tr : Trail) (b : BranchId) (input : Input) (s : Seen) (m : Msg) : Type 0 where
  pub seen : seen_at tr b ≡ Some s
  pub came : input ≡ inputs.Message m
  pub first : is_first_vote s m ≡ true

-- the answer to Prepare of the last child that had not answered
abbrev pub IsLastVote : Trail → BranchId → Input → Type 0
IsLastVote tr b input = (s : Seen) × (m : Msg) × IsFirstVote tr b input s m × (all_voted (record s { voted = voted_after s input }) ≡ true)

-- Abort as a child's first answer
abbrev pub IsAbortTo : Trail → BranchId → Input → Type 0
IsAbortTo tr b input = (s : Seen) × (m : Msg) × IsFirstVote tr b input s m × (m.kind ≡ kinds.Abort)

-- the COMMIT of a root without children
abbrev pub IsCommitOfLeaf : Trail → ℕ → BranchId → Input → Type 0
IsCommitOfLeaf tr n b input = (session : ℕ) × (comment : Option (List ℕ)) × (s : Seen) × IsCall input session (stmts.Commit comment) × (root_at tr n session ≡ Some s) × (s.me ≡ b) × (s.children ≡ [])

-- a client's call of a statement
abbrev pub IsCallOf : Stmt → Input → Type 0
IsCallOf s input = (session : ℕ) × IsCall input session s

-- ---- what a branch hears from the neighbour on the way to the site

-- the decision came to a branch from its toward
abbrev pub HeardFromToward : Facts → BranchId → Decision → Input → Type 0
HeardFromToward f b d input = (from : BranchId) × (toward_at f b ≡ Some from) × Brings input from b d

-- Forgotten came from the neighbour on the way to the site
abbrev pub ForgottenByToward : Facts → BranchId → Input → Type 0
ForgottenByToward f b input = (from : BranchId) × (toward_at f b ≡ Some from) × Came input from b kinds.Forgotten

-- the neighbours of a site
abbrev pub neighbors_of : Decided → List BranchId
neighbors_of r = option_to_list r.parent ++ map (λ c. c.branch) r.children

-- those whose Ack came to a branch
abbrev pub acks_of : Option Seen → List BranchId
acks_of None = []
acks_of (Some s) = s.acks

-- the site has the Ack of each neighbour; another branch hears Forgotten from toward
abbrev pub MayForget : Facts → Trail → BranchId → Input → Option Decided → Type 0
MayForget f after b input (Some r) = list_all (λ c. is_among c (acks_of (seen_at after b))) (neighbors_of r) ≡ true
MayForget f after b input None = ForgottenByToward f b input

-- ---- forced outcomes and purges

-- an id is the printed local or global id of a branch
abbrev pub is_id_of : List (List ℕ) → List ℕ → BranchId → Option Sealed → Bool
is_id_of names id b None = false
is_id_of names id b (Some r) = same_text (local_text b) id || same_text (global_text names r.root) id

-- the branches of a node that are in doubt and that an id names
abbrev pub named_in_doubt : List (List ℕ) → Facts → ℕ → List ℕ → List BranchId
named_in_doubt names f n id = filter (λ b. is_id_of names id b (sealed_in (records_at f n) b)) (in_doubt f.book n)

-- the outcome that a statement forces: with its SCN, or with the clock plus one
abbrev pub ForcesSo : ℕ → List ℕ → Decision → Bool → Input → Type 0
ForcesSo clock id (decisions.Commit n) true input = IsCallOf (stmts.CommitForce id (Some n)) input
ForcesSo clock id (decisions.Commit n) false input = IsCallOf (stmts.CommitForce id None) input × (n ≡ clock + 1)
ForcesSo clock id decisions.Rollback given input = IsCallOf (stmts.RollbackForce id) input × (given ≡ false)

-- a forced outcome is that of a statement whose id names the branch
abbrev pub IsForce : Place → Facts → NodeState → BranchId → Decision → Bool → Input → Type 0
IsForce p f k b d given input = (id : List ℕ) × (named_in_doubt p.names f p.number id ≡ b ∷ []) × ForcesSo k.clock id d given input

-- a purge of the row with this local id
abbrev pub IsPurge : Option KeptRow → BranchId → Input → Type 0
IsPurge None b input = ⊥
IsPurge (Some row) b input = (row.hidden ≡ false)
    × ((IsCallOf (stmts.PurgeMixed (local_text b)) input × (row.mixed ≡ true)) ⊎ (IsCallOf (stmts.PurgeLost (local_text b)) input × (is_sealed row.state ≡ false)))

-- ---- records and messages

-- what a record needs of its turn
abbrev pub MayWrite : Place → Facts → Trail → Trail → NodeState → ℕ → Input → RedoRecord → Type 0
MayWrite p f tr after k n input (records.Boot m) = ⊥
MayWrite p f tr after k n input (records.Table t) = IsCallOf (stmts.CreateTable t) input
MayWrite p f tr after k n input (records.Link l) = IsCallOf (stmts.CreateLink l) input
MayWrite p f tr after k n input (records.Synonym y) = IsCallOf (stmts.CreateSynonym y) input
MayWrite p f tr after k n input (records.Param (params.Recovery on)) = IsCallOf (stmts.Recovery on) input
MayWrite p f tr after k n input (records.Param (params.Strength strength)) = IsCallOf (stmts.SetStrength strength) input
MayWrite p f tr after k n input (records.Sealed r) = IsLastVote tr r.me input ⊎ (IsPrepareToLeaf tr r.me input ⊎ IsCommitPoint tr r.me input)
MayWrite p f tr after k n input (records.Decided r) = IsCommitPoint tr r.me input ⊎ ((parent_of (seen_at tr r.me) ≡ None) × (IsLastVote tr r.me input ⊎ IsCommitOfLeaf tr n r.me input))
MayWrite p f tr after k n input (records.Ended b d) = HeardFromToward f b d input
MayWrite p f tr after k n input (records.Forced b d given) = IsForce p f k b d given input
MayWrite p f tr after k n input (records.Met b d mixed) = HeardFromToward f b d input
MayWrite p f tr after k n input (records.Forgot b) = MayForget f after b input (decided_in (records_at f b.node) b)
MayWrite p f tr after k n input (records.Hidden b) = IsPurge (item_at kept_row_id (durable (records_at f n)).kept b) b input
MayWrite p f tr after k n input (records.Image i) = (input ≡ inputs.Checkpoint) × (i ≡ image_at k.stored k.clock)

-- neither a branch nor one below it has changes
abbrev pub HasNoChanges : Trail → BranchId → Type 0
HasNoChanges tr b = AllByRecursion (λ c. own_at tr c ≡ []) (tree tr b)

-- A statement goes on over a link: the sender's own, with the table's name there.
pub record PassesOn (p : Place) (f : Facts) (s : Stmt) (to : BranchId) (passed : Stmt) : Type 0 where
  pub link : List ℕ
  pub table : List ℕ
  pub named : named_by (durable (records_at f p.number)) (ref_of s) ≡ Behind link table
  pub leads : target_of p (durable (records_at f p.number)) link ≡ Some to.node
  pub same : passed ≡ passed_on s table

-- the statement that a branch was asked last
abbrev pub asked_of : Option Seen → Option Stmt
asked_of None = None
asked_of (Some s) = s.asked

-- what a message needs of its turn: an Exec passes on the statement that its sender was asked, BACK goes to a child; Abort is said on Prepare to a
-- gone branch or on a child's Abort, ReadOnly where nothing was changed there or below, Committed where a record says so
abbrev pub MaySay : Place → Facts → Trail → Trail → List RedoRecord → Input → BranchId → BranchId → Kind → Type 0
MaySay p f tr after rs input b to (kinds.Exec call (tasks.Run given advice passed)) = (s : Stmt) × (asked_of (seen_at after b) ≡ Some s) × PassesOn p f s to passed
MaySay p f tr after rs input b to (kinds.Exec call (tasks.GoBack keep)) = is_among to (children_at tr b) ≡ true
MaySay p f tr after rs input b to kinds.Abort = ((life_at f tr b ≡ Gone) × IsPrepare b input) ⊎ IsAbortTo tr b input
MaySay p f tr after rs input b to kinds.ReadOnly = HasNoChanges tr b
MaySay p f tr after rs input b to (kinds.Committed n) = CommitIsRecorded rs b n
MaySay p f tr after rs input b to _ = Unit {0}

-- each record and each message of a turn was to be written or said
pub record TurnKnows (places : List Place) (f : Facts) (tr : Trail) (u : Turn) (k : NodeState) : Type 0 where
  pub writes : IfSome u.wrote (MayWrite (place_at places u.node) f tr (trail_after places f tr (happenings.Turn u)) k u.node u.input)
  pub says : AllByRecursion (λ m. MaySay (place_at places u.node) f tr (trail_after places f tr (happenings.Turn u)) (records_at f u.node ++ option_to_list u.wrote) u.input m.from m.to m.kind) u.sent

-- each turn of a node that is up writes and says what it may
abbrev pub KnowsEnough : List Place → Facts → Trail → Happening → Type 0
KnowsEnough places f tr (happenings.Turn u) = (k : NodeState) → node_at f u.node ≡ Some k → TurnKnows places f tr u k
KnowsEnough places f tr _ = Unit {0}

-- each turn of a run writes and says what it may
abbrev pub Knowledge : History → Type 0
Knowledge t = AtEach KnowsEnough t
