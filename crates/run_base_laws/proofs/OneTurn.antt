-- One turn of a node, by the facts that it finds and what its node keeps. A proof opens the parts that it speaks of.
use Rattle.std.proofs.Common.{ℕ, List}
use Rattle.node_rules.specs.Data.{Place, Post, RedoRecord}
use Rattle.node_rules.specs.NodeState.{NodeState, TurnDraft}
use Rattle.node_rules.specs.Turn.{draft_of}
use Rattle.run_rules.specs.Data.{Command, Turn}
use Rattle.run_rules.specs.Data.happenings
use Rattle.run_rules.specs.Facts.{Facts, place_at, records_at, facts_after}
use Rattle.run_base_laws.specs.InTurnLaws.{said_in}

-- its node with the place and the records on its disk, what it does, the facts after it, and what was said before
pub record OneTurn : Type 0 where
  pub n : ℕ
  pub p : Place
  pub rs : List RedoRecord
  pub d : TurnDraft
  pub g : Facts
  pub said : List Post

abbrev pub one_turn : List Place → List Command → Facts → Turn → NodeState → OneTurn
one_turn places asked f u k = record {
  n = u.node;
  p = place_at places u.node;
  rs = records_at f u.node;
  d = draft_of (place_at places u.node) k u.input;
  g = facts_after places asked f (happenings.Turn u);
  said = said_in f;
}
