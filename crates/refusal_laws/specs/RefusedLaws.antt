-- For which cause a statement is refused at its table, by the book and the branch history: for its text, for an SCN that lies too far
-- back, for a key that it examines and a branch in doubt has changed, for a key that another live branch holds, for what it means over the
-- rows of the book, or for want of space. (SQL Language Reference; Database Administrator's Guide, "Distributed Transactions
-- Concepts": locks of in-doubt transactions; "Managing Undo".)
use Rattle.std.specs.Prelude.{◌≡◌, ◌≢◌, ℕ, ◌+◌, true, false, List, [], ◌∷◌, map, nat_lt, Option, Some, None}
use Rattle.dtx_values.specs.Limits.{changes_limit}
use Rattle.sql_check.specs.Checks.{checked}
use Rattle.sql_check.specs.Refusals.{ora, dtx}
use Rattle.sql_check.specs.Words.{first_some, one}
use Rattle.tran_ids.specs.Numbers.{decimal}
use Rattle.tran_ids.specs.Texts.{local_text}
use Rattle.row_store.specs.Own.{changes_length}
use Rattle.node_rules.specs.Data.{BranchId, Change, Done, Live, Refusal, Stmt, Table}
use Rattle.sql_eval.specs.declared.meant.Meant.{Meant}
use Rattle.sql_eval.specs.declared.meant.Meant.TheVariants as meants
use Rattle.node_rules.specs.Names.{table_of}
use Rattle.node_rules.specs.NodeState.{NodeState, live_at}
use Rattle.node_rules.specs.Statement.{ran, Refuses}
use Rattle.run_rules.specs.Branches.{Run, Seen, Trail, own_at, read_at_at, seen_at}
use Rattle.run_rules.specs.Facts.{Facts, node_at, place_at}
use Rattle.run_rules.specs.Lawful.{History, IsLawfulRun, facts_at}
use Rattle.run_rules.specs.Runs.{meaning}
use Rattle.run_claims.specs.Meanings.{examined_by}
use Rattle.tree_trail_laws.specs.ChildLaws.{trail_at}
use Rattle.refusal_laws.specs.Holders.{doubt_at}
use Rattle.refusal_laws.specs.Met.{too_old_at}

-- A run is right by itself, and its SCN, where it has one, does not lie too far back.
pub record IsSound (f : Facts) (tr : Trail) (r : Run) : Type 0 where
  pub right : checked r.statement r.table ≡ None
  pub young : too_old_at (node_at f r.branch.node) (read_at_at tr r.branch) ≡ false

-- the branch in doubt that has changed a key that a run examines, the first of these in the order of keys
abbrev pub first_doubt : Facts → Trail → Run → Option BranchId
first_doubt f tr r = first_some (map (doubt_at f.book r.branch.node r.table.name) (examined_by f tr r))

-- what a run means over the rows of the book, with the changes of its branch
abbrev pub means : Facts → Trail → Run → Meant
means f tr r = meaning f.book (read_at_at tr r.branch) (own_at tr r.branch) r

-- The cause of a refusal, by the book and the branch history. A refusal for its text comes first,
-- then for an old SCN, then for a key in doubt.
pub data HasCause (f : Facts) (tr : Trail) (r : Run) : Refusal → Type 0 where
  For_its_text : (why : Refusal) → checked r.statement r.table ≡ Some why → HasCause f tr r why
  For_an_old_scn : checked r.statement r.table ≡ None → too_old_at (node_at f r.branch.node) (read_at_at tr r.branch) ≡ true → HasCause f tr r (ora 1555 [])
  For_a_key_in_doubt : IsSound f tr r → (b : BranchId) → first_doubt f tr r ≡ Some b → HasCause f tr r (ora 1591 (one (local_text b)))
  For_a_held_key : IsSound f tr r → first_doubt f tr r ≡ None → (s : Seen) → seen_at tr s.me ≡ Some s → s.exit ≡ None → s.me ≢ r.branch → HasCause f tr r (ora 2049 (one (local_text s.me)))
  For_what_it_means : IsSound f tr r → first_doubt f tr r ≡ None → (why : Refusal) → means f tr r ≡ meants.Refused why → HasCause f tr r why
  For_its_size : IsSound f tr r → first_doubt f tr r ≡ None → (d : Done) (n : ℕ) (cs : List Change) → means f tr r ≡ meants.Changes d n cs
      → nat_lt changes_limit (changes_length (own_at tr r.branch) + changes_length cs) ≡ true → HasCause f tr r (dtx 16 [])
  For_undo : IsSound f tr r → first_doubt f tr r ≡ None → (d : Done) (n : ℕ) (cs : List Change) → means f tr r ≡ meants.Changes d n cs
      → nat_lt changes_limit (changes_length (own_at tr r.branch) + changes_length cs) ≡ false → (need free : ℕ) → nat_lt free need ≡ true → HasCause f tr r (ora 30036 (decimal need ∷ decimal free ∷ []))

-- a statement of a branch at a table of its node
abbrev pub run_of : Trail → BranchId → Stmt → Table → Run
run_of tr b s x = record { moment = tr.moment; branch = b; statement = s; table = x }

-- In every lawful run a node refuses a statement of a live branch at one of its tables only for such a cause.
abbrev pub RefusalsHaveCauses : Type 0
RefusalsHaveCauses = (t : History) → IsLawfulRun t → (n : ℕ) (k : NodeState) → node_at (facts_at t) n ≡ Some k → (l : Live) → live_at k l.me ≡ Some l
    → (s : Stmt) (name : List ℕ) (x : Table) → table_of k.stored.durable name ≡ Some x → (why : Refusal) → ran (place_at t.places n) k l.me s x ≡ Refuses why → HasCause (facts_at t) (trail_at t) (run_of (trail_at t) l.me s x) why
