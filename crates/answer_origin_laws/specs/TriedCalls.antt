-- Pending calls, tried on a script of two nodes: an INSERT over a link waits for its Reply, and a CREATE TABLE in that
-- transaction waits for its COMMIT, and comes once that is complete.
use Rattle.std.specs.Prelude.{◌≡◌, ℕ, codes, List, [], ◌∷◌, replicate, Option, Some, None}
use Rattle.node_rules.specs.Data.{Stmt}
use Rattle.node_rules.specs.Data.stmts
use Rattle.run_rules.specs.Calls.{call_at}
use Rattle.run_rules.specs.Data.{Command}
use Rattle.run_rules.specs.Data.commands
use Rattle.run_rules.specs.Due.{runs_on}
use Rattle.run_rules.specs.RunReport.{Call, Past, start}
use Rattle.run_branch_laws.specs.TriedRun as tried

-- what session 1 of a node asks
abbrev pub asks : ℕ → Stmt → Command
asks n s = commands.At n 1 (Some s)

-- INSERT at B, asked at A
abbrev pub insert : Stmt
insert = tried.insert (record { name = codes "T"; link = Some (codes "B") })

-- CREATE TABLE S at A
abbrev pub create : Stmt
create = stmts.CreateTable (tried.table_of_keys (codes "S"))

-- the script
abbrev pub script : List Command
script =
    asks 2 (stmts.CreateTable (tried.table_of_keys (codes "T")))
    ∷ asks 1 (stmts.CreateLink (record { name = codes "B"; target = codes "B" }))
    ∷ asks 1 insert
    ∷ asks 1 create
    ∷ []

-- its run so far, after so many happenings
abbrev pub after : ℕ → Past
after n = runs_on tried.places script (replicate n 0) (start tried.places)

-- the call of session 1 at A
abbrev pub pending : ℕ → Option Call
pending n = call_at (after n).run_report 1 1

-- a call of session 1 at A
abbrev pub call : ℕ → Stmt → Option Stmt → Call
call command s next = record { command = command; node = 1; session = 1; statement = Some s; follows = next }

-- What is pending, and what comes next.
pub record TheTriedCalls : Type 0 where
  pub begun : pending 5 ≡ Some (call 3 insert None)
  pub waits : pending 9 ≡ Some (call 3 insert None)
  pub answered : pending 10 ≡ None
  pub commits : pending 12 ≡ Some (call 4 (stmts.Commit None) (Some create))
  pub next : (after 18).run_report.next_call ≡ Some (call 4 create None)
  pub last : pending 19 ≡ None
