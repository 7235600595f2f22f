-- What a turn tells: its messages with their bytes, the calls that ended, its record, and the places that it passed; and what is
-- told of one that was cut.
use Rattle.std.specs.Prelude.{◌≡◌, false, List, map, option_map, Option, Some, IfSome}
use Rattle.msg_codec.specs.Message.{msg_format, message_of}
use Rattle.node_rules.specs.Data.{Msg, Place}
use Rattle.node_rules.specs.declared.session.Finished.{Finished as FinishedByRules}
use Rattle.node_rules.specs.NodeState.{NodeState, TurnOutput}
use Rattle.node_rules.specs.Turn.{turn_of}
use Rattle.node_rules.specs.Points.{Point, Passes as PassesByRules, passes, reaches}
use Rattle.node_points.specs.declared.places.Passes.{Passes}
use Rattle.node_points.specs.Passing.{passes_as}
use Rattle.node_disk.specs.declared.effects.Mailed.{Mailed}
use Rattle.node_disk.specs.declared.effects.DurableTurn.{DurableTurn}
use Rattle.node_disk.specs.declared.finished.Finished.{Finished}
use Rattle.node_disk.specs.declared.err.CutTurn.{CutTurn}
use Rattle.node_disk.specs.declared.err.TurnErr.{TurnErr}
use Rattle.node_disk.specs.declared.err.TurnErr.TheVariants as errs
use Rattle.node_disk.specs.declared.incoming.Incoming.{Incoming}
use Rattle.node_disk.specs.Incoming.{IsReadAs}

-- a message with its bytes
abbrev pub mailed : Msg → Mailed
mailed m = record { msg = m; bytes = msg_format.text m }

-- the bytes of a message are read as the message
abbrev pub IsMailed : Mailed → Type 0
IsMailed mail = message_of mail.bytes ≡ Some mail.msg

-- the end of a call as the rules have it
abbrev pub call_of : Finished → FinishedByRules
call_of f = f.call

-- A turn tells what the rules say: its record, its messages with their bytes, and the calls that end; and the node keeps what
-- they say.
pub record Tells (o : TurnOutput) (new : NodeState) (e : DurableTurn) : Type 0 where
  pub after : new ≡ o.after
  pub wrote : e.wrote ≡ o.wrote
  pub sent : e.sent ≡ map mailed o.sent
  pub ended : map call_of e.ended ≡ o.ended

-- and the places that it passed
abbrev pub TellsPasses : NodeState → TurnOutput → DurableTurn → Type 0
TellsPasses k o e = option_map passes_as e.passes ≡ passes k e.input o

-- no point was reached at these places
pub record ReachesNone (points : List Point) (x : PassesByRules) : Type 0 where
  pub before : reaches points x.root x.before ≡ false
  pub after : reaches points x.root x.after ≡ false

-- no point was reached
abbrev pub GoesUncut : List Point → Option Passes → Type 0
GoesUncut points p = IfSome (option_map passes_as p) (ReachesNone points)

-- A turn that was cut tried the record that the rules say, and passes the places that they say.
pub record IsCutTurn (k : NodeState) (place : Place) (incoming : Incoming) (c : CutTurn) : Type 0 where
  pub input : IsReadAs incoming c.input
  pub tried : c.tried ≡ (turn_of place k c.input).wrote
  pub passed : option_map passes_as c.passes ≡ passes k c.input (turn_of place k c.input)

-- why a turn came to no end
abbrev pub IsCut : NodeState → Place → Incoming → TurnErr → Type 0
IsCut k place incoming (errs.Cut c) = IsCutTurn k place incoming c
IsCut k place incoming errs.NoMemory = Unit {0}
