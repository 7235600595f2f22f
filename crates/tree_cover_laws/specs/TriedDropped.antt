-- A run in which a branch is dropped before the COMMIT: A's transaction changes a row at B and one at C, whose strength is
-- the greatest. C stops and starts again. At COMMIT A still holds C's weight, so the walk goes to C, and B, which is off the
-- walk, becomes sealed. C answers Abort, so nobody decides.
use Rattle.std.specs.Prelude.{◌≡◌, ℕ, false, List, [], ◌∷◌, map, option_map, take, codes, Option, Some, None}
use Rattle.node_rules.specs.Data.{BranchId, Place, Stmt, Input}
use Rattle.node_rules.specs.Data.stmts
use Rattle.node_rules.specs.Data.inputs
use Rattle.net_bag.specs.Net.{packet_at}
use Rattle.run_rules.specs.Branches.{Sealed, Dropped, Trail, no_trail, exit_at, plan_at}
use Rattle.run_rules.specs.Data.{Packet, Took, Happening}
use Rattle.run_rules.specs.Data.happenings
use Rattle.run_rules.specs.Facts.{Facts, first_facts, outcome_at, facts_after, facts_of}
use Rattle.run_rules.specs.BranchRecords.{toward_at}
use Rattle.run_rules.specs.Trail.{trail_of}
use Rattle.run_branch_laws.specs.TriedRun.{owing, table_of_keys, insert}

-- the names of the nodes, and of the links from A to B and C
abbrev pub names : List (List ℕ)
names = codes "A" ∷ codes "B" ∷ codes "C" ∷ []

-- the node of a number, with a commit point strength
abbrev pub place_of : ℕ → ℕ → Place
place_of n strength = record { names = names; number = n; strength = strength; links = 4; undo = 64 }

-- A, B and C
abbrev pub places : List Place
places = place_of 1 1 ∷ place_of 2 1 ∷ place_of 3 2 ∷ []

-- a turn of a node that writes and says what it owes
abbrev pub turn_by : Facts → ℕ → Input → Option Took → Happening
turn_by f n input took = happenings.Turn (owing n input took (outcome_at places f (owing n input took None)))

-- a call of session 1
abbrev pub calls : ℕ → Stmt → Facts → Happening
calls n s f = turn_by f n (inputs.Call 1 (Some s)) None

-- a message by its number
abbrev pub takes_it : ℕ → Facts → Option Packet → Happening
takes_it k f None = happenings.Begun 0
takes_it k f (Some x) = turn_by f x.msg.to.node (inputs.Message x.msg) (Some (record { number = k; again = false }))

-- it comes to its node
abbrev pub takes : ℕ → Facts → Happening
takes k f = takes_it k f (packet_at f.net k)

-- what happens when these come one after the other
abbrev pub played : Facts → List (Facts → Happening) → List Happening
played f [] = []
played f (come ∷ comes) = come f ∷ played (facts_after places [] f (come f)) comes

-- tables at B and C, links, a row at B, a row at C, the stop, the start, COMMIT, and Prepare at B
abbrev pub coming : List (Facts → Happening)
coming =
    calls 2 (stmts.CreateTable (table_of_keys (codes "T")))
    ∷ calls 3 (stmts.CreateTable (table_of_keys (codes "T")))
    ∷ calls 1 (stmts.CreateLink (record { name = codes "B"; target = codes "B" }))
    ∷ calls 1 (stmts.CreateLink (record { name = codes "C"; target = codes "C" }))
    ∷ calls 1 (insert (record { name = codes "T"; link = Some (codes "B") }))
    ∷ takes 1
    ∷ takes 2
    ∷ takes 3
    ∷ takes 4
    ∷ calls 1 (insert (record { name = codes "T"; link = Some (codes "C") }))
    ∷ takes 5
    ∷ takes 6
    ∷ takes 7
    ∷ takes 8
    ∷ (λ f. happenings.Stopped 3)
    ∷ (λ f. happenings.Started 3 2)
    ∷ calls 1 (stmts.Commit None)
    ∷ takes 9
    ∷ []

-- what happens in this run
abbrev pub trace : List Happening
trace = played (first_facts places) coming

-- the root at A, and its children at B and C
abbrev pub a : BranchId
a = record { node = 1; boot = 1; session = 1; seq = 1 }

-- the branch at B
abbrev pub b : BranchId
b = record { node = 2; boot = 1; session = 65; seq = 1 }

-- the branch at C
abbrev pub c : BranchId
c = record { node = 3; boot = 1; session = 65; seq = 1 }

-- what the happenings tell
abbrev pub trail : Trail
trail = trail_of places [] (first_facts places) no_trail trace

-- and before the COMMIT
abbrev pub earlier : Trail
earlier = trail_of places [] (first_facts places) no_trail (take 16 trace)

-- C was dropped before the COMMIT, and B is sealed after it. The plan still has C as the site, and B's neighbour on the way
-- there is A, whom its record names.
pub record TheTriedDropped : Type 0 where
  pub dropped : exit_at earlier c ≡ Some Dropped
  pub unplanned : plan_at earlier a ≡ None
  pub sealed : exit_at trail b ≡ Some (Sealed 0)
  pub site : option_map (λ p. p.site) (plan_at trail a) ≡ Some (Some c)
  pub branches : option_map (λ p. map (λ x. x.me) p.tree) (plan_at trail a) ≡ Some (a ∷ b ∷ c ∷ [])
  pub toward : option_map (λ p. map (λ x. x.toward) p.tree) (plan_at trail a) ≡ Some (Some c ∷ Some a ∷ None ∷ [])
  pub named : toward_at (facts_of places [] (first_facts places) trace) b ≡ Some a
