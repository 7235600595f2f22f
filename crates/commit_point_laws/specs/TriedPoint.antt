-- The walk of CommitPoint, tried on a run of three nodes: A's transaction changes a row at B and one at C, whose strength is
-- the greatest. At COMMIT B becomes sealed, C says Ready, A becomes sealed and passes CommitPoint on to C, which decides.
use Rattle.std.specs.Prelude.{◌≡◌, ℕ, true, false, List, [], ◌∷◌, codes, option_map, take, Option, Some, None}
use Rattle.agreement.specs.Events.{Forest, Event, Sealed, Decided, exit, site_of}
use Rattle.node_rules.specs.Data.{BranchId, Place, Post, Stmt}
use Rattle.node_rules.specs.Data.stmts
use Rattle.node_rules.specs.Data.inputs
use Rattle.node_rules.specs.NodeState.{live_at}
use Rattle.node_rules.specs.Points.{is_ready}
use Rattle.net_bag.specs.Net.{packet_at}
use Rattle.run_rules.specs.Births.{births_from}
use Rattle.run_rules.specs.Data.{Packet, Turn, Happening}
use Rattle.run_rules.specs.Data.happenings
use Rattle.run_rules.specs.Facts.{Facts, first_facts, node_at, outcome_at, facts_after, facts_of}
use Rattle.run_base_laws.specs.InTurnLaws.{said_in}
use Rattle.run_base_laws.specs.RunEvents.{events_from}
use Rattle.run_branch_laws.specs.TriedRun.{owing, table_of_keys, insert}
use Rattle.run_branch_laws.specs.WalkLaws.{is_below, was_sent}
use Rattle.tree_laws.specs.Forests.{forest_by}
use Rattle.run_claims.specs.Undisturbed.{Commit, Undisturbed}
use Rattle.commit_point_laws.specs.PointLaws.{is_point}

-- the names of the nodes, and of the links from A to B and C
abbrev pub names : List (List ℕ)
names = codes "A" ∷ codes "B" ∷ codes "C" ∷ []

-- the node of a number, with a commit point strength
abbrev pub place_of : ℕ → ℕ → Place
place_of n strength = record { names = names; number = n; strength = strength; links = 4; undo = 64 }

-- A, B and C
abbrev pub places : List Place
places = place_of 1 1 ∷ place_of 2 1 ∷ place_of 3 2 ∷ []

-- a call of session 1
abbrev pub calls : ℕ → Stmt → Facts → Turn
calls n s f = owing n (inputs.Call 1 (Some s)) None (outcome_at places f (owing n (inputs.Call 1 (Some s)) None None))

-- a message that has this number
abbrev pub takes_it : ℕ → Facts → Option Packet → Turn
takes_it k f None = owing 0 inputs.Reco None None
takes_it k f (Some x) =
    owing x.msg.to.node (inputs.Message x.msg) (Some (record { number = k; again = false })) (outcome_at places f (owing x.msg.to.node (inputs.Message x.msg) None None))

-- it comes to its node
abbrev pub takes : ℕ → Facts → Turn
takes k f = takes_it k f (packet_at f.net k)

-- what happens when these come one after the other
abbrev pub played : Facts → List (Facts → Turn) → List Happening
played f [] = []
played f (come ∷ comes) = happenings.Turn (come f) ∷ played (facts_after places [] f (happenings.Turn (come f))) comes

-- tables at B and C, links, a row at B, a row at C, COMMIT, and the messages
abbrev pub coming : List (Facts → Turn)
coming =
    calls 2 (stmts.CreateTable (table_of_keys (codes "T")))
    ∷ calls 3 (stmts.CreateTable (table_of_keys (codes "T")))
    ∷ calls 1 (stmts.CreateLink (record { name = codes "B"; target = codes "B" }))
    ∷ calls 1 (stmts.CreateLink (record { name = codes "C"; target = codes "C" }))
    ∷ calls 1 (insert (record { name = codes "T"; link = Some (codes "B") }))
    ∷ takes 1
    ∷ takes 2
    ∷ takes 3
    ∷ takes 4
    ∷ calls 1 (insert (record { name = codes "T"; link = Some (codes "C") }))
    ∷ takes 5
    ∷ takes 6
    ∷ takes 7
    ∷ takes 8
    ∷ calls 1 (stmts.Commit None)
    ∷ takes 9
    ∷ takes 10
    ∷ takes 11
    ∷ takes 12
    ∷ takes 13
    ∷ takes 14
    ∷ takes 15
    ∷ takes 16
    ∷ takes 17
    ∷ takes 18
    ∷ takes 19
    ∷ []

-- what happens in this run
abbrev pub trace : List Happening
trace = played (first_facts places) coming

-- the facts after so many happenings
abbrev pub facts_upto : ℕ → Facts
facts_upto n = facts_of places [] (first_facts places) (take n trace)

-- all messages
abbrev pub said : List Post
said = said_in (facts_of places [] (first_facts places) trace)

-- the events
abbrev pub events : List Event
events = events_from places [] (first_facts places) trace []

-- the forest of the run
abbrev pub p : Forest
p = forest_by (births_from places [] (first_facts places) trace []) said

-- the root at A
abbrev pub a : BranchId
a = record { node = 1; boot = 1; session = 1; seq = 1 }

-- the branch at B
abbrev pub b : BranchId
b = record { node = 2; boot = 1; session = 65; seq = 1 }

-- the branch at C
abbrev pub c : BranchId
c = record { node = 3; boot = 1; session = 65; seq = 1 }

-- The COMMIT of this run is undisturbed. C said Ready and got CommitPoint, and is live no more once that came. A and B are
-- sealed, with C and A on their way to C, which decided.
pub record TheTriedPoint : Type 0 where
  pub commit : Commit places [] trace
  pub root : commit.root ≡ a
  pub undisturbed : Undisturbed places [] trace commit
  pub told : was_sent is_below said a c ≡ true
  pub ready : was_sent is_ready said c a ≡ true
  pub point : was_sent is_point said a c ≡ true
  pub only : was_sent is_point said a b ≡ false
  pub lived : option_map (λ k. option_map (λ l. l.me) (live_at k c)) (node_at (facts_upto 19) 3) ≡ Some (Some c)
  pub gone : option_map (λ k. live_at k c) (node_at (facts_upto 20) 3) ≡ Some None
  pub sealed_a : exit events a ≡ Some (Sealed 0)
  pub sealed_b : exit events b ≡ Some (Sealed 0)
  pub toward_a : p.toward a ≡ c
  pub toward_b : p.toward b ≡ a
  pub decided : exit events c ≡ Some (Decided 1)
  pub site : site_of p b ≡ c
