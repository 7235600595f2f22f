-- What statements meet, tried on a run of two nodes: A's session 1 puts the row 1 in at B and at A, and commits. Session 2 of B tries to
-- put the row 1 in while the branch there is live, while it is in doubt, and when it has committed.
use Rattle.std.specs.Prelude.{◌≡◌, ℕ, List, [], ◌∷◌, codes, pos, option_map, slice_get, take, Option, Some, None}
use Rattle.tran_ids.specs.Texts.{local_text}
use Rattle.sql_check.specs.Refusals.{ora}
use Rattle.sql_check.specs.Words.{one}
use Rattle.node_rules.specs.Data.{Answer, Stmt}
use Rattle.node_rules.specs.Data.answers
use Rattle.node_rules.specs.Data.dones
use Rattle.node_rules.specs.Data.inputs
use Rattle.node_rules.specs.Data.stmts
use Rattle.node_rules.specs.Data.terms
use Rattle.node_rules.specs.Data.values
use Rattle.run_rules.specs.Branches.{Trail, no_trail}
use Rattle.run_rules.specs.Data.{Happening, Turn}
use Rattle.run_rules.specs.Data.happenings
use Rattle.run_rules.specs.Facts.{Facts, first_facts, facts_of, outcome_at}
use Rattle.run_rules.specs.Runs.{run_in, answered_by}
use Rattle.run_rules.specs.Trail.{trail_of, with_begun}
use Rattle.run_branch_laws.specs.TriedRun as tried
use Rattle.refusal_laws.specs.Met.{answer_by}

-- INSERT of a row
abbrev pub inserts : Option (List ℕ) → ℕ → Stmt
inserts link k = stmts.Insert (record { name = codes "T"; link = link }) None ((record { first = terms.Literal (values.Number (pos k)); rest = [] }) ∷ [])

-- a call of session 2 of B
abbrev pub tries : ℕ → Facts → Turn
tries k f = tried.turn_by f 2 (inputs.Call 2 (Some (inserts None k))) None

-- what comes to the nodes
abbrev pub coming : List (Facts → Turn)
coming =
    tried.calls 1 (stmts.CreateTable (tried.table_of_keys (codes "T")))
    ∷ tried.calls 2 (stmts.CreateTable (tried.table_of_keys (codes "T")))
    ∷ tried.calls 1 (stmts.CreateLink (record { name = codes "B"; target = codes "B" }))
    ∷ tried.calls 1 (inserts (Some (codes "B")) 1)
    ∷ tried.takes 1
    ∷ tried.takes 2
    ∷ tried.takes 3
    ∷ tried.takes 4
    ∷ tries 1
    ∷ tries 2
    ∷ tried.calls 1 (inserts None 1)
    ∷ tried.calls 1 (stmts.Commit None)
    ∷ tried.takes 5
    ∷ tries 1
    ∷ tried.takes 6
    ∷ tried.takes 7
    ∷ tries 1
    ∷ []

-- what happens
abbrev pub trace : List Happening
trace = tried.played (first_facts tried.places) coming

-- the facts after so many happenings
abbrev pub facts_then : ℕ → Facts
facts_then i = facts_of tried.places [] (first_facts tried.places) (take i trace)

-- and the branch history
abbrev pub trail_then : ℕ → Trail
trail_then i = trail_of tried.places [] (first_facts tried.places) no_trail (take i trace)

-- what a turn answers
abbrev pub answered_in : Facts → Option Happening → Option Answer
answered_in f (Some (happenings.Turn u)) = answered_by (outcome_at tried.places f u)
answered_in f _ = None

-- what its run is answered by the book and the branch history
abbrev pub told_in : Facts → Trail → Option Happening → Option Answer
told_in f tr (Some (happenings.Turn u)) = option_map (answer_by (tried.place_of u.node) f tr) (run_in f (with_begun f tr u) u)
told_in f tr _ = None

-- Both of the happening that comes after so many are this.
pub record IsAnswered (i : ℕ) (a : Answer) : Type 0 where
  pub answered : answered_in (facts_then i) (slice_get trace i) ≡ Some a
  pub told : told_in (facts_then i) (trail_then i) (slice_get trace i) ≡ Some a

-- The row 1 is another live branch's, then in doubt, then there; the row 2 is free.
pub record TheTriedMet : Type 0 where
  pub held : IsAnswered 8 (answers.Refused (ora 2049 (one (local_text tried.b))))
  pub free : IsAnswered 9 (answers.Did dones.Created 1)
  pub in_doubt : IsAnswered 13 (answers.Refused (ora 1591 (one (local_text tried.b))))
  pub there : IsAnswered 16 (answers.Refused (ora 1 (one (codes "T"))))
