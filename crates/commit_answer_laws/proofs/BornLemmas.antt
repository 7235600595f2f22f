-- In every lawful run a branch that began with an id of one of the 64 sessions is a root: those below have ids above.
use Rattle.std.proofs.Common.{◌≡◌, ◌≢◌, ℕ, ◌≤◌, ◌+◌, Bool, true, false, if◌then◌else◌, List, [], ◌∷◌, ◌++◌, length, find, unwrap_or, Option, Some, None, refl, arith}
use Rattle.std.specs.List.{AllByRecursion}
use Rattle.node_rules.specs.Data.{BranchId, Input, Kind, Opening, Place}
use Rattle.node_rules.specs.Data.inputs
use Rattle.node_rules.specs.Data.kinds
use Rattle.node_rules.specs.declared.session.Session.{Session}
use Rattle.node_rules.specs.Words.{numbered}
use Rattle.node_rules.specs.Calls.{next_child, is_opening}
use Rattle.node_rules.specs.NodeState.{NodeState}
use Rattle.node_rules.specs.Sessions.{session_at, fresh_session}
use Rattle.run_rules.specs.Births.{Born, births_by_open, births_by_kind, births_by, births_at, births_after, births_from, births_of, read_at_by, roots_by}
use Rattle.run_rules.specs.Data.{Happening, Command}
use Rattle.run_rules.specs.Data.happenings
use Rattle.run_rules.specs.Facts.{Facts, first_facts, place_at, node_at, facts_after}
use Rattle.run_rules.specs.Lawful.{History}
use Rattle.run_rules.specs.Runs.{begins_transaction}
use Rattle.run_rules.proofs.AtNodeLemmas.{range_of}
use Rattle.run_rules.proofs.ListLemmas.{all_append}

abbrev pub High : Born → Type 0
High x = x.parent ≢ None → 65 ≤ x.me.session

abbrev AllHigh : List Born → Type 0
AllHigh bs = AllByRecursion High bs

roots_high : (p : Place) (k : NodeState) (n : ℕ) (read_at : Option ℕ) (o : Option BranchId) → AllHigh (roots_by p k n read_at o)
roots_high p k n read_at None = (λ some. absurd (some refl), tt)
roots_high p k n read_at (Some b) = tt

either_high : (q : Bool) (xs : List Born) → AllHigh xs → AllHigh (if q then xs else [])
either_high true xs all = all
either_high false xs all = tt

open_high : (p : Place) (k : NodeState) (parent : BranchId) (edge : ℕ) (root : BranchId) (depth : ℕ) (read_at : Option ℕ) (o : Option Opening) → AllHigh (births_by_open p k parent edge root depth read_at o)
open_high p k parent edge root depth read_at None = (λ some. (let at : (next_child p k).session ≡ 65 + length k.opens = refl in omega (arith, at)), tt)
open_high p k parent edge root depth read_at (Some o) = tt

kind_high : (p : Place) (k : NodeState) (from : BranchId) (kind : Kind) → AllHigh (births_by_kind p k from kind)
kind_high p k from (kinds.Open edge root depth read_at) = open_high p k from edge root depth read_at (find (is_opening from edge) k.opens)
kind_high p k from _ = tt

by_high : (p : Place) (k : NodeState) (input : Input) → AllHigh (births_by p k input)
by_high p k (inputs.Call n (Some s)) = either_high (begins_transaction s) _ (roots_high p k n (read_at_by k.clock s) (session_at k.sessions n).root)
by_high p k (inputs.Call n None) = tt
by_high p k (inputs.Message m) = kind_high p k m.from m.kind
by_high p k (inputs.GiveUp n) = tt
by_high p k inputs.Reco = tt
by_high p k inputs.Checkpoint = tt

at_high : (p : Place) (input : Input) (o : Option NodeState) → AllHigh (births_at p input o)
at_high p input None = tt
at_high p input (Some k) = by_high p k input

turn_high : (cut : Bool) (bs new : List Born) → AllHigh bs → AllHigh new → AllHigh (if cut then bs else bs ++ new)
turn_high true bs new all more = all
turn_high false bs new all more = all_append High bs new all more

after_high : (places : List Place) (f : Facts) (h : Happening) (bs : List Born) → AllHigh bs → AllHigh (births_after places f h bs)
after_high places f (happenings.Turn u) bs all = turn_high u.cut bs _ all (at_high (place_at places u.node) u.input (node_at f u.node))
after_high places f _ bs all = all

from_high : (places : List Place) (asked : List Command) (f : Facts) (hs : List Happening) (bs : List Born) → AllHigh bs → AllHigh (births_from places asked f hs bs)
unfolding births_from
from_high places asked f [] bs all = all
from_high places asked f (h ∷ hs) bs all = from_high places asked (facts_after places asked f h) hs (births_after places f h bs) (after_high places f h bs all)

pub born_high : (t : History) → AllByRecursion High (births_of t)
born_high t = from_high t.places t.commands (first_facts t.places) t.trace [] tt

-- a session with a transaction is one of the 64
low_by : (ss : List Session) → length ss ≡ 64 → (n : ℕ) (b : BranchId) (o : Option Session) → numbered ss n ≡ o → (unwrap_or o fresh_session).root ≡ Some b → n ≤ 64
low_by ss many n b None is has = absurd cc
low_by ss many n b (Some s) is has = omega (arith, (range_of ss n s is).1, many)

pub session_low : (ss : List Session) → length ss ≡ 64 → (n : ℕ) (b : BranchId) → (session_at ss n).root ≡ Some b → n ≤ 64
session_low ss many n b has = low_by ss many n b (numbered ss n) refl has
