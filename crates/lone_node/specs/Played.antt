-- What tests give to a node, and what holds of a node between the turns of a test.
use Rattle.std.specs.Prelude.{◌≡◌, ℕ, ◌≤◌, ◌&&◌, not, Bool, true, false, List, length, nat_lt, Some, IfSome, IsTrue, is_some}
use Rattle.std.specs.List.{AllByRecursion}
use Rattle.block_disk.specs.Happenings.{content_of, IsImage}
use Rattle.block_disk.specs.MemDisk.{DiskState}
use Rattle.dtx_values.specs.Limits.{link_limit, node_limit}
use Rattle.node_spell_laws.specs.Bytes.{HasBytes, KeepsBytes, NamesTable}
use Rattle.msg_codec.specs.Fits.{KindFits}
use Rattle.msg_codec.specs.Message.{message_of}
use Rattle.node_rules.specs.Data.{Stmt, Answer, Decision, RedoRecord, Phase, Live, Kind, Msg, Place}
use Rattle.node_rules.specs.Data.decisions
use Rattle.node_rules.specs.Data.kinds
use Rattle.node_rules.specs.Data.phases
use Rattle.node_rules.specs.Data.records
use Rattle.node_rules.specs.Data.stmts
use Rattle.node_rules.specs.Inputs.{IsSession}
use Rattle.node_rules.specs.NodeState.{NodeState}
use Rattle.node_rules.specs.Turn.{kind_scn}
use Rattle.node_disk.specs.Starts.{CanBeStarted}
use Rattle.node_disk.specs.OnDisk.{disk_of, kept_of, place_of, IsRunning}
use Rattle.node_disk.specs.declared.incoming.Incoming.{Incoming}
use Rattle.node_disk.specs.declared.incoming.Incoming.TheVariants as comings
use Rattle.node_disk.specs.declared.node.Node.{Node}
use Rattle.node_ready_laws.specs.Ready.{IsReady, IsWithin}
use Rattle.node_undo_laws.specs.Kept.{HasUndo}
use Rattle.node_ready_laws.specs.Shapes.{TellsFew}
use Rattle.sql_print.specs.Printing.{IsPrintable}
use Rattle.sql_statement.specs.Whole.{IsWhole}

-- ---- what comes

-- the greatest SCN in a message or a record of a test, and the greatest number of a start
abbrev pub low_limit : ℕ
low_limit = 1000

-- the undo extents of a node of a test
abbrev pub undo_extents : ℕ
undo_extents = 64

-- an answer that rows were changed
abbrev pub IsChange : Answer → Type 0
IsChange a = HasBytes (kinds.Reply 1 (Some 1) 1 a) × KindFits (kinds.Reply 1 (Some 1) 1 a)

-- What a message says in a test: it has a spelling, it tells of few branches, and its SCN is low.
pub record IsSaid (kind : Kind) : Type 0 where
  pub fits : KindFits kind
  pub bytes : HasBytes kind
  pub few : TellsFew kind
  pub scn : kind_scn kind ≤ low_limit

-- A message of a test.
pub record IsPlayed (m : Msg) : Type 0 where
  pub kind : IsSaid m.kind
  pub scn : m.scn ≤ low_limit

-- whether it is Prepare
abbrev pub is_prepare : Kind → Bool
is_prepare (kinds.Prepare site_below comment) = true
is_prepare _ = false

-- A statement of a test: a text spells it.
pub record IsCalled (s : Stmt) : Type 0 where
  pub printable : IsPrintable s
  pub whole : IsWhole s

-- what comes to a node in a test, and whether it is Prepare
abbrev pub IsComing : Bool → Incoming → Type 0
IsComing asks (comings.Call session statement) = IsSession session × IfSome statement IsCalled
IsComing asks (comings.GiveUp session) = Unit {0}
IsComing asks (comings.Message bytes) = (m : Msg) × (message_of bytes ≡ Some m) × IsPlayed m × (asks ≡ is_prepare m.kind)
IsComing asks comings.Reco = Unit {0}

-- ---- what it meets

-- whether a statement is COMMIT
abbrev pub is_commit : Stmt → Bool
is_commit (stmts.Commit comment) = true
is_commit _ = false

-- whether what comes is one
abbrev pub commits : Incoming → Bool
commits (comings.Call session (Some s)) = is_commit s
commits _ = false

-- whether a branch works, by its phase
abbrev pub is_working_phase : Phase → Bool
is_working_phase phases.Working = true
is_working_phase _ = false

-- whether a live branch works
abbrev pub works : Live → Bool
works l = is_working_phase l.phase

-- whether a live branch has a parent
abbrev pub has_parent : Live → Bool
has_parent l = is_some l.parent

-- a live branch works
abbrev pub IsWorking : Live → Type 0
IsWorking l = l.phase ≡ phases.Working

-- a live branch has a parent
abbrev pub HasParent : Live → Type 0
HasParent l = IsTrue (is_some l.parent)

-- COMMIT meets branches that work, and Prepare meets branches with a parent.
pub record MeetsLives (asks : Bool) (incoming : Incoming) (lives : List Live) : Type 0 where
  pub commit : commits incoming ≡ true → AllByRecursion IsWorking lives
  pub prepare : asks ≡ true → AllByRecursion HasParent lives

-- ---- between turns

-- the bytes of a disk
abbrev pub bytes_of : DiskState → List ℕ
bytes_of disk = content_of disk.happenings

-- what a crash may leave of it
abbrev pub images_of : DiskState → List ℕ → Type 0
images_of disk = IsImage disk.happenings

-- What a node keeps in a test, whose numbers are within this bound.
pub record IsKeptWithin (bound : ℕ) (p : Place) (k : NodeState) : Type 0 where
  pub ready : IsReady p k
  pub undo : HasUndo p k
  pub bytes : KeepsBytes k
  pub within : IsWithin bound k
  pub low : low_limit ≤ bound
  pub nodes : length p.names ≤ node_limit
  pub links : p.links ≤ link_limit
  pub extents : p.undo ≡ undo_extents

-- A node that can take turns in a test.
pub record IsAlone (bound : ℕ) (node : Node DiskState) : Type 0 where
  pub running : IsRunning bytes_of images_of node
  pub kept : IsKeptWithin bound (place_of node) (kept_of node)
  pub starts : CanBeStarted undo_extents bytes_of images_of (disk_of node)

-- A node of a test: it can take turns where it is up, and a node can start from its disk in any case.
pub record IsInPlay (up : Bool) (bound : ℕ) (node : Node DiskState) : Type 0 where
  pub alone : up ≡ true → IsAlone bound node
  pub starts : CanBeStarted undo_extents bytes_of images_of (disk_of node)

-- A place of a test: one of few nodes, with few links and the undo extents of all tests.
pub record IsSmallPlace (p : Place) : Type 0 where
  pub nodes : length p.names ≤ node_limit
  pub links : p.links ≤ link_limit
  pub extents : p.undo ≡ undo_extents

-- ---- starts

-- the SCN of a decision
abbrev pub decided_at : Decision → ℕ
decided_at (decisions.Commit n) = n
decided_at decisions.Rollback = 0

-- the SCN of a record, and 0 where it has none
abbrev pub scn_in : RedoRecord → ℕ
scn_in (records.Sealed r) = r.scn
scn_in (records.Decided r) = r.scn
scn_in (records.Ended me d) = decided_at d
scn_in (records.Forced me d given) = decided_at d
scn_in (records.Met me d mixed) = decided_at d
scn_in (records.Image i) = i.clock
scn_in _ = 0

-- the number of a start, and 0 for other records
abbrev pub boot_in : RedoRecord → ℕ
boot_in (records.Boot n) = n
boot_in _ = 0

-- whether a record is a synonym's
abbrev pub is_synonym : RedoRecord → Bool
is_synonym (records.Synonym y) = true
is_synonym _ = false

-- whether a record is one of a test: with a low SCN, and a low number where it is of a start, and no synonym's
unfoldable pub is_low : RedoRecord → Bool
is_low r = not (is_synonym r) && (nat_lt (scn_in r) 1001 && nat_lt (boot_in r) 1001)

-- such a record
pub record IsLow (r : RedoRecord) : Type 0 where
  pub names : NamesTable r
  pub scn : scn_in r ≤ low_limit
  pub boot : boot_in r ≤ low_limit
