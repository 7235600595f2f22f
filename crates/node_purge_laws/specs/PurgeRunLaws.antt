-- Purges change nothing in a run: a purge hides a row and sends nothing; and what any other turn writes, sends and answers is what
-- it would be if other rows of its node were hidden, or none, but that an image says which rows are hidden. (PL/SQL Packages and
-- Types Reference: DBMS_TRANSACTION, PURGE_MIXED, PURGE_LOST_DB_ENTRY.)
use Rattle.std.specs.Prelude.{◌≡◌, true, false, List, [], Option, Some}
use Rattle.node_rules.specs.Data.{Place, RedoRecord}
use Rattle.node_rules.specs.NodeState.{NodeState}
use Rattle.node_rules.specs.Turn.{turn_of}
use Rattle.run_rules.specs.Branches.{Trail}
use Rattle.run_rules.specs.Data.{Happening, Turn}
use Rattle.run_rules.specs.Data.happenings
use Rattle.run_rules.specs.Each.{AtEach}
use Rattle.run_rules.specs.Facts.{Facts, place_at, node_at}
use Rattle.run_rules.specs.Lawful.{History, IsOwed}
use Rattle.node_purge_laws.specs.PurgeLaws.{IsLike, written, is_purge}

-- A purge sends nothing, and leaves a node that differs from the one before in which rows are hidden alone.
pub record HidesAlone (p : Place) (u : Turn) (k : NodeState) : Type 0 where
  pub sent : u.sent ≡ []
  pub after : IsLike k (turn_of p k u.input).after

-- What a turn of a node did, another node would have done too.
pub record DoesAlike (p : Place) (u : Turn) (k other : NodeState) : Type 0 where
  -- it writes this, which differs in the hidden rows of an image alone
  pub wrote : Option RedoRecord
  pub alike : written wrote ≡ written u.wrote
  -- it owes this record, unless the turn was cut before it stood, and these messages
  pub owed : IsOwed p other u.input wrote u.sent u.cut
  -- it ends the same calls with the same answers
  pub ended : (turn_of p k u.input).ended ≡ (turn_of p other u.input).ended
  -- and the two nodes differ still in which rows are hidden alone
  pub after : IsLike (turn_of p k u.input).after (turn_of p other u.input).after

-- a purge hides a row alone; each other turn is alike at each node that differs from its own in which rows are hidden alone
abbrev pub SeesNoPurge : List Place → Facts → Trail → Happening → Type 0
SeesNoPurge places f tr (happenings.Turn u) = (k : NodeState) → node_at f u.node ≡ Some k
    → (is_purge u.input ≡ true → HidesAlone (place_at places u.node) u k) × (is_purge u.input ≡ false → (other : NodeState) → IsLike k other → DoesAlike (place_at places u.node) u k other)
SeesNoPurge places f tr _ = Unit {0}

-- nothing in a run but purges themselves hangs on what was purged
abbrev pub PurgesGoUnseen : History → Type 0
PurgesGoUnseen t = AtEach SeesNoPurge t
