-- The words that tell the forms of a command apart.
use Rattle.std.specs.Prelude.{ℕ, Bool, true, false, List, [], ◌∷◌, Option, Some, None, nat_le, codes, if◌then◌else◌}
use Rattle.std.specs.Map.{lookup}
use Rattle.std.specs.Str.{bytes_eq}
use Rattle.token_grammar.specs.declared.token.Token.{Token}
use Rattle.token_grammar.specs.declared.token.Token.TheVariants as token
use Rattle.wire_msg.specs.declared.kind.KindName.{KindName}
use Rattle.wire_msg.specs.declared.kind.KindName.TheVariants as kinds
use Rattle.script_read.specs.declared.words.Verb.{Verb}
use Rattle.script_read.specs.declared.words.Verb.TheVariants as verbs
use Rattle.script_read.specs.declared.words.Lost.{Lost}
use Rattle.script_read.specs.declared.words.Lost.TheVariants as lost
use Rattle.script_read.specs.declared.words.Left.{Left}
use Rattle.script_read.specs.declared.words.Left.TheVariants as left
use Rattle.script_read.specs.declared.words.View.{View}
use Rattle.script_read.specs.declared.words.View.TheVariants as views
use Rattle.script_read.specs.declared.words.Measure.{Measure}
use Rattle.script_read.specs.declared.words.Measure.TheVariants as measures

-- what a word means by a list of words with their meanings
abbrev pub meaning : {T : Type 0} → List ℕ → List (List ℕ × T) → Option T
meaning w words = lookup (λ word. bytes_eq word w) words

-- the first word of a command
unfoldable pub verb_of : List ℕ → Option Verb
verb_of w = meaning w
    ((codes "NODE", verbs.Node)
    ∷ (codes "CUT", verbs.Cut)
    ∷ (codes "JOIN", verbs.Join)
    ∷ (codes "LOSE", verbs.Lose)
    ∷ (codes "STOP", verbs.Stop)
    ∷ (codes "START", verbs.Start)
    ∷ (codes "CRASH", verbs.Crash)
    ∷ (codes "FAULT", verbs.Fault)
    ∷ (codes "HOLD", verbs.Hold)
    ∷ (codes "DELIVER", verbs.Deliver)
    ∷ (codes "AGAIN", verbs.Again)
    ∷ (codes "PUMP", verbs.Pump)
    ∷ (codes "GIVEUP", verbs.GiveUp)
    ∷ (codes "RECO", verbs.Reco)
    ∷ (codes "SHOW", verbs.Show)
    ∷ [])

-- a kind of message, as it is spelled
unfoldable pub kind_of : List ℕ → Option KindName
kind_of w = meaning w
    ((codes "OPEN", kinds.Open)
    ∷ (codes "OPENED", kinds.Opened)
    ∷ (codes "EXEC", kinds.Exec)
    ∷ (codes "REPLY", kinds.Reply)
    ∷ (codes "PREPARE", kinds.Prepare)
    ∷ (codes "PREPARED", kinds.Prepared)
    ∷ (codes "READONLY", kinds.ReadOnly)
    ∷ (codes "READY", kinds.Ready)
    ∷ (codes "ABORT", kinds.Abort)
    ∷ (codes "COMMITPOINT", kinds.CommitPoint)
    ∷ (codes "COMMITTED", kinds.Committed)
    ∷ (codes "ROLLEDBACK", kinds.RolledBack)
    ∷ (codes "INDOUBT", kinds.InDoubt)
    ∷ (codes "ACK", kinds.Ack)
    ∷ (codes "FORGOTTEN", kinds.Forgotten)
    ∷ (codes "ROLLBACK", kinds.Rollback)
    ∷ (codes "ASK", kinds.Ask)
    ∷ (codes "BACK", kinds.Back)
    ∷ (codes "OPENAT", kinds.OpenAt)
    ∷ [])

-- the greatest number of a message, of a write or of a call: 2 ^ 32 - 1
abbrev pub number_limit : ℕ
number_limit = 4294967295

-- what follows LOSE: NEXT, or the number of a message
unfoldable pub lost_in : Token → Option Lost
lost_in (token.Number n) = if nat_le n number_limit then Some (lost.Number n) else None
lost_in (token.Word w) = if bytes_eq w (codes "NEXT") then Some lost.Next else None
lost_in (token.Quoted s) = None
lost_in (token.Mark m) = None

-- what follows the number of a CRASH
unfoldable pub left_of : List ℕ → Option Left
left_of w = meaning w
    ((codes "KEEP", left.Keep)
    ∷ (codes "LEAVE", left.Leave)
    ∷ [])

-- what follows HOLD
unfoldable pub switch_of : List ℕ → Option Bool
switch_of w = meaning w
    ((codes "ON", true)
    ∷ (codes "OFF", false)
    ∷ [])

-- what follows SHOW
unfoldable pub view_of : List ℕ → Option View
view_of w = meaning w
    ((codes "PENDING", views.Pending)
    ∷ (codes "NEIGHBORS", views.Neighbors)
    ∷ (codes "BOOK", views.Book)
    ∷ (codes "NET", views.Net)
    ∷ (codes "DISK", views.Disk)
    ∷ (codes "UNDO", views.Undo)
    ∷ [])

-- what an option of NODE sets
unfoldable pub measure_of : List ℕ → Option Measure
measure_of w = meaning w
    ((codes "STRENGTH", measures.Strength)
    ∷ (codes "LINKS", measures.Links)
    ∷ (codes "UNDO", measures.Undo)
    ∷ [])
