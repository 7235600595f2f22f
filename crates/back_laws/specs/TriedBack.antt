-- Going back, tried on a run of two nodes: A's session 1 puts the row 1 in at B and at A, sets a savepoint, puts the row 2 in at both, and
-- goes back; then A and B have again what they had.
use Rattle.std.specs.Prelude.{◌≡◌, ℕ, List, [], ◌∷◌, codes, pos, option_map, take, Option, Some, None}
use Rattle.node_rules.specs.Data.{Change, Stmt, Kind}
use Rattle.node_rules.specs.Data.kinds
use Rattle.node_rules.specs.Data.stmts
use Rattle.node_rules.specs.Data.tasks
use Rattle.node_rules.specs.Data.terms
use Rattle.node_rules.specs.Data.values
use Rattle.net_bag.specs.Net.{packet_at}
use Rattle.run_rules.specs.Branches.{Trail, no_trail, own_at, seen_at}
use Rattle.run_rules.specs.Data.{Happening, Turn}
use Rattle.run_rules.specs.Facts.{Facts, first_facts, facts_of}
use Rattle.run_rules.specs.Trail.{trail_of}
use Rattle.run_branch_laws.specs.TriedRun as tried
use Rattle.back_laws.specs.Returns.{held_of}

-- the table at the node of the session, and the one at B
abbrev pub inserts : Option (List ℕ) → ℕ → Stmt
inserts link k = stmts.Insert (record { name = codes "T"; link = link }) None ((record { first = terms.Literal (values.Number (pos k)); rest = [] }) ∷ [])

-- what comes to the nodes up to the savepoint, and after it
abbrev pub earlier : List (Facts → Turn)
earlier =
    tried.calls 1 (stmts.CreateTable (tried.table_of_keys (codes "T")))
    ∷ tried.calls 2 (stmts.CreateTable (tried.table_of_keys (codes "T")))
    ∷ tried.calls 1 (stmts.CreateLink (record { name = codes "B"; target = codes "B" }))
    ∷ tried.calls 1 (inserts (Some (codes "B")) 1)
    ∷ tried.takes 1
    ∷ tried.takes 2
    ∷ tried.takes 3
    ∷ tried.takes 4
    ∷ tried.calls 1 (inserts None 1)
    ∷ tried.calls 1 (stmts.Savepoint (codes "S"))
    ∷ tried.calls 1 (inserts (Some (codes "B")) 2)
    ∷ tried.takes 5
    ∷ tried.takes 6
    ∷ tried.calls 1 (inserts None 2)
    ∷ tried.calls 1 (stmts.RollbackTo (codes "S"))
    ∷ tried.takes 7
    ∷ tried.takes 8
    ∷ []

-- what happens
abbrev pub trace : List Happening
trace = tried.played (first_facts tried.places) earlier

-- what it tells after so many happenings
abbrev pub told : ℕ → Trail
told i = trail_of tried.places [] (first_facts tried.places) no_trail (take i trace)

-- the changes and the keys of one row
abbrev pub changes : ℕ → List Change
changes k = (record { table = codes "T"; key = values.Number (pos k); after = Some (record { cells = values.Number (pos k) ∷ [] }) }) ∷ []

-- a message that was sent, by its number
abbrev pub kind_sent : ℕ → Option Kind
kind_sent k = option_map (λ x. x.msg.kind) (packet_at (facts_of tried.places [] (first_facts tried.places) trace).net k)

-- At the savepoint each branch has its first row; before ROLLBACK TO both have the second too; after it they have the first, with
-- its key alone. B is called to go back to its first call, and answers that it has.
pub record TheTriedBack : Type 0 where
  pub set_at_a : own_at (told 10) tried.a ≡ changes 1
  pub set_at_b : own_at (told 10) tried.b ≡ changes 1
  pub more_at_b : own_at (told 14) tried.b ≡ (record { table = codes "T"; key = values.Number (pos 1); after = Some (record { cells = values.Number (pos 1) ∷ [] }) }) ∷ changes 2
  pub called : kind_sent 7 ≡ Some (kinds.Exec 3 (tasks.GoBack 1))
  pub back_at_a : own_at (told 17) tried.a ≡ changes 1
  pub back_at_b : own_at (told 17) tried.b ≡ changes 1
  pub held_at_a : held_of (seen_at (told 17) tried.a) ≡ held_of (seen_at (told 10) tried.a)
  pub held_at_b : held_of (seen_at (told 17) tried.b) ≡ held_of (seen_at (told 10) tried.b)
