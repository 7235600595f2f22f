-- The names of the kinds of messages, and how a script spells them. The messages are dtx's own; they carry the three
-- phases of the Database Administrator's Guide, "Distributed Transactions Concepts".
use Rattle.std.specs.Prelude.{ℕ, ◌==◌, Bool, List, Some, None, codes}
use Rattle.wire_msg.specs.declared.kind.Kind.{Kind}
use Rattle.wire_msg.specs.declared.kind.Kind.TheVariants as kinds
use Rattle.wire_msg.specs.declared.task.Task.TheVariants as tasks
use Rattle.wire_msg.specs.declared.kind.KindName.{KindName}
use Rattle.wire_msg.specs.declared.kind.KindName.TheVariants as kind_names

-- the name of a message's kind: an Open tells the SCN of a READ ONLY transaction or no SCN, an Exec runs a statement or goes back
abbrev pub name_of_kind : Kind → KindName
name_of_kind (kinds.Open edge root depth None) = kind_names.Open
name_of_kind (kinds.Open edge root depth (Some scn)) = kind_names.OpenAt
name_of_kind (kinds.Opened edge strength) = kind_names.Opened
name_of_kind (kinds.Exec call (tasks.Run given advice s)) = kind_names.Exec
name_of_kind (kinds.Exec call (tasks.GoBack keep)) = kind_names.Back
name_of_kind (kinds.Reply call weight count result) = kind_names.Reply
name_of_kind (kinds.Prepare site_below comment) = kind_names.Prepare
name_of_kind kinds.Prepared = kind_names.Prepared
name_of_kind kinds.ReadOnly = kind_names.ReadOnly
name_of_kind kinds.Ready = kind_names.Ready
name_of_kind kinds.Abort = kind_names.Abort
name_of_kind kinds.CommitPoint = kind_names.CommitPoint
name_of_kind (kinds.Committed n) = kind_names.Committed
name_of_kind kinds.RolledBack = kind_names.RolledBack
name_of_kind kinds.InDoubt = kind_names.InDoubt
name_of_kind kinds.Ack = kind_names.Ack
name_of_kind kinds.Forgotten = kind_names.Forgotten
name_of_kind kinds.Rollback = kind_names.Rollback
name_of_kind kinds.Ask = kind_names.Ask

-- the place of a kind among the kinds
abbrev pub place_of_kind : KindName → ℕ
place_of_kind kind_names.Open = 1
place_of_kind kind_names.Opened = 2
place_of_kind kind_names.Exec = 3
place_of_kind kind_names.Reply = 4
place_of_kind kind_names.Prepare = 5
place_of_kind kind_names.Prepared = 6
place_of_kind kind_names.ReadOnly = 7
place_of_kind kind_names.Ready = 8
place_of_kind kind_names.Abort = 9
place_of_kind kind_names.CommitPoint = 10
place_of_kind kind_names.Committed = 11
place_of_kind kind_names.RolledBack = 12
place_of_kind kind_names.InDoubt = 13
place_of_kind kind_names.Ack = 14
place_of_kind kind_names.Forgotten = 15
place_of_kind kind_names.Rollback = 16
place_of_kind kind_names.Ask = 17
place_of_kind kind_names.OpenAt = 18
place_of_kind kind_names.Back = 19

-- whether two names are the same
abbrev pub same_kind : KindName → KindName → Bool
same_kind a b = place_of_kind a == place_of_kind b

-- a name as it is printed
abbrev pub kind_text : KindName → List ℕ
kind_text kind_names.Open = codes "OPEN"
kind_text kind_names.Opened = codes "OPENED"
kind_text kind_names.Exec = codes "EXEC"
kind_text kind_names.Reply = codes "REPLY"
kind_text kind_names.Prepare = codes "PREPARE"
kind_text kind_names.Prepared = codes "PREPARED"
kind_text kind_names.ReadOnly = codes "READONLY"
kind_text kind_names.Ready = codes "READY"
kind_text kind_names.Abort = codes "ABORT"
kind_text kind_names.CommitPoint = codes "COMMITPOINT"
kind_text kind_names.Committed = codes "COMMITTED"
kind_text kind_names.RolledBack = codes "ROLLEDBACK"
kind_text kind_names.InDoubt = codes "INDOUBT"
kind_text kind_names.Ack = codes "ACK"
kind_text kind_names.Forgotten = codes "FORGOTTEN"
kind_text kind_names.Rollback = codes "ROLLBACK"
kind_text kind_names.Ask = codes "ASK"
kind_text kind_names.OpenAt = codes "OPENAT"
kind_text kind_names.Back = codes "BACK"
