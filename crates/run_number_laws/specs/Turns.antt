-- What a turn that is due in the run of a script finds: its node is up and able, and its input may come there and is one that the
-- node expects.
use Rattle.std.specs.Prelude.{◌≡◌, ℕ, Option, Some}
use Rattle.node_rules.specs.Data.{Input}
use Rattle.node_rules.specs.Data.inputs
use Rattle.node_rules.specs.NodeState.{NodeState}
use Rattle.node_core.specs.Able.{IsAble, BringsScns}
use Rattle.net_bag.specs.Net.{packet_at}
use Rattle.node_ready_laws.specs.Ready.{IsExpected}
use Rattle.run_ready_laws.specs.ReadyRuns.{RepliesTellFew}
use Rattle.run_rules.specs.Data.{Packet, Took, Happening}
use Rattle.run_rules.specs.Facts.{Facts, place_at, node_at}
use Rattle.run_rules.specs.Lawful.{History, Comes, MayHappen}
use Rattle.run_base_laws.specs.NodeLaws.{AtEachFact}
use Rattle.run_rules.specs.Due.{Due, Pends, Gives_up, Delivers, Recovers, comes_next}
use Rattle.run_rules.specs.Reported.{past_of}
use Rattle.run_rules.specs.Scripts.{IsTheRunOf}
use Rattle.run_number_laws.specs.Numbers.{HasFewHappenings}
use Rattle.run_number_laws.specs.There.{due_in}

-- What comes next in the run of a script may happen.
abbrev pub WhatIsDueMayHappen : Type 0
WhatIsDueMayHappen = (t : History) → IsTheRunOf t → (h : Happening) → comes_next t.places t.commands (past_of t) ≡ Some h → MayHappen t.places t.commands (past_of t).facts h

-- a turn of this node over this input is due
abbrev pub IsTurnDue : Facts → Due → ℕ → Input → Type 0
IsTurnDue f (Pends c) n input = (n ≡ c.node) × (input ≡ inputs.Call c.session c.statement)
IsTurnDue f (Gives_up m session) n input = (n ≡ m) × (input ≡ inputs.GiveUp session)
IsTurnDue f (Delivers k again) n input = (x : Packet) × (packet_at f.net k ≡ Some x) × (n ≡ x.msg.to.node) × (input ≡ inputs.Message x.msg)
IsTurnDue f (Recovers m) n input = (n ≡ m) × (input ≡ inputs.Reco)
IsTurnDue f _ n input = ⊥

-- What such a turn finds, in a run with few happenings: its node is up, its input may come, and both are as a turn needs them.
pub record FindsAble (t : History) (n : ℕ) (input : Input) (k : NodeState) : Type 0 where
  pub up : node_at (past_of t).facts n ≡ Some k
  pub took : Option Took
  pub comes : Comes (past_of t).facts k n input took
  pub able : IsAble (place_at t.places n) k
  pub expected : IsExpected input
  pub scns : BringsScns input

-- In the run of a script whose Replies tell of few branches each turn that is due finds an able node.
abbrev pub DueTurnsFindAble : Type 0
DueTurnsFindAble = (t : History) → HasFewHappenings t → IsTheRunOf t → AtEachFact RepliesTellFew t → (n : ℕ) (input : Input) → IsTurnDue (past_of t).facts (due_in t) n input
    → (k : NodeState) × FindsAble t n input k
