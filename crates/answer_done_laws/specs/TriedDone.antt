-- Calls that are done and their records, tried on turns of the tried run: CREATE TABLE is done once and refused the second
-- time; while B is in doubt its outcome is forced, and its row is purged then.
use Rattle.std.specs.Prelude.{◌≡◌, ℕ, false, List, [], ◌∷◌, ◌++◌, codes, take, Some, None}
use Rattle.node_rules.specs.Data.{Stmt, Answer}
use Rattle.node_rules.specs.Data.answers
use Rattle.node_rules.specs.Data.decisions
use Rattle.node_rules.specs.Data.dones
use Rattle.node_rules.specs.Data.records
use Rattle.node_rules.specs.Data.stmts
use Rattle.node_rules.specs.Ids.{local_text}
use Rattle.node_rules.specs.Refusals.{ora}
use Rattle.run_rules.specs.Data.{Turn}
use Rattle.run_rules.specs.Facts.{Facts, first_facts, facts_of}
use Rattle.run_branch_laws.specs.TriedRun.{places, calls, played, coming, table_of_keys, b}
use Rattle.answer_done_laws.specs.DoneLaws.{answers_to, ended_in}

-- the facts when these have come
abbrev pub facts_when : List (Facts → Turn) → Facts
facts_when comes = facts_of places [] (first_facts places) (played (first_facts places) comes)

-- the turn of the next call, at a node
abbrev pub turn_after : List (Facts → Turn) → ℕ → Stmt → Turn
turn_after comes n s = calls n s (facts_when comes)

-- and the answers to session 1
abbrev pub answered_after : List (Facts → Turn) → ℕ → Stmt → List Answer
answered_after comes n s = answers_to 1 (ended_in places (facts_when comes) (turn_after comes n s))

-- CREATE TABLE T
abbrev pub creates : Stmt
creates = stmts.CreateTable (table_of_keys (codes "T"))

-- B has sealed
abbrev pub in_doubt : List (Facts → Turn)
in_doubt = take 11 coming

-- ROLLBACK FORCE of B
abbrev pub forces : Stmt
forces = stmts.RollbackForce (local_text b)

-- PURGE_LOST_DB_ENTRY of B
abbrev pub purges : Stmt
purges = stmts.PurgeLost (local_text b)

-- what each of these calls writes, and how it is answered
pub record TheTriedDone : Type 0 where
  pub made : (turn_after [] 1 creates).wrote ≡ Some (records.Table (table_of_keys (codes "T")))
  pub made_answer : answered_after [] 1 creates ≡ answers.Did dones.TableMade 0 ∷ []
  pub again : (turn_after (calls 1 creates ∷ []) 1 creates).wrote ≡ None
  pub again_answer : answered_after (calls 1 creates ∷ []) 1 creates ≡ answers.Refused (ora 955 []) ∷ []
  pub forced : (turn_after in_doubt 2 forces).wrote ≡ Some (records.Forced b decisions.Rollback false)
  pub forced_answer : answered_after in_doubt 2 forces ≡ answers.Did dones.RolledBack 0 ∷ []
  pub hidden : (turn_after (in_doubt ++ calls 2 forces ∷ []) 2 purges).wrote ≡ Some (records.Hidden b)
  pub hidden_answer : answered_after (in_doubt ++ calls 2 forces ∷ []) 2 purges ≡ answers.Did dones.Purged 0 ∷ []
