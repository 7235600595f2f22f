-- The law of ReadOnly, tried on a run of two nodes: A changes a row, and deletes over a link where B has none, so B says
-- ReadOnly.
use Rattle.std.specs.Prelude.{◌≡◌, codes, List, [], ◌∷◌, ◌++◌, map, Some, None}
use Rattle.node_rules.specs.Data.kinds
use Rattle.node_rules.specs.Data.stmts
use Rattle.run_rules.specs.Branches.{Quiet, Trail, no_trail, own_at, exit_at, children_at}
use Rattle.run_rules.specs.Data.{Turn, Happening}
use Rattle.run_rules.specs.Facts.{Facts, first_facts, facts_of}
use Rattle.run_claims.specs.Knowledge.{HasNoChanges}
use Rattle.run_rules.specs.Trail.{trail_of}
use Rattle.run_branch_laws.specs.TriedRun as tried
use Rattle.run_branch_laws.specs.TriedRun.{calls, takes}

-- up to the COMMIT: tables at A and B, a link, a DELETE at B, a row at A
abbrev pub coming : List (Facts → Turn)
coming =
    calls 1 (stmts.CreateTable (tried.table_of_keys (codes "T")))
    ∷ calls 2 (stmts.CreateTable (tried.table_of_keys (codes "T")))
    ∷ calls 1 (stmts.CreateLink (record { name = codes "B"; target = codes "B" }))
    ∷ calls 1 (stmts.Delete (record { name = codes "T"; link = Some (codes "B") }) [])
    ∷ takes 1
    ∷ takes 2
    ∷ takes 3
    ∷ takes 4
    ∷ calls 1 (tried.insert (record { name = codes "T"; link = None }))
    ∷ calls 1 (stmts.Commit None)
    ∷ []

-- what happens before B takes Prepare
abbrev pub before : List Happening
before = tried.played (first_facts tried.places) coming

-- what it leaves
abbrev pub facts : Facts
facts = facts_of tried.places [] (first_facts tried.places) before

-- what it tells
abbrev pub trail : Trail
trail = trail_of tried.places [] (first_facts tried.places) no_trail before

-- the turn in which B takes Prepare
abbrev pub turn : Turn
turn = takes 5 facts

-- what is told after it
abbrev pub later : Trail
later = trail_of tried.places [] (first_facts tried.places) no_trail (tried.played (first_facts tried.places) (coming ++ takes 5 ∷ []))

-- B, which is A's child, says ReadOnly and leaves so. It has no changes, and A has.
pub record TheTriedQuiet : Type 0 where
  pub children : children_at trail tried.a ≡ tried.b ∷ []
  pub says : map (λ m. m.kind) turn.sent ≡ kinds.ReadOnly ∷ []
  pub sender : map (λ m. m.from) turn.sent ≡ tried.b ∷ []
  pub quiet : HasNoChanges trail tried.b
  pub left : exit_at later tried.b ≡ Some Quiet
  pub changed : own_at trail tried.a ≡ tried.changes
