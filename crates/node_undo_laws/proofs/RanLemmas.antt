-- What a run of a statement can be: refused, rows, or changes; and which keys and changes it then has.
use Rattle.std.proofs.Common.{◌≡◌, ℕ, ◌==◌, ◌||◌, Bool, true, false, if◌then◌else◌, List, length, Option, Some, None, refl, ap, ◌∙◌, ◌&&◌, [], ◌∷◌, map, sym, subst}
use Rattle.std.specs.Prelude.{nat_le, is_some}
use Rattle.dtx_values.specs.declared.answer.Refusal.{Refusal}
use Rattle.sql_check.specs.Refusals.{else_refuse}
use Rattle.sql_check.specs.Checks.{checked}
use Rattle.sql_eval.specs.declared.meant.Meant.{Meant}
use Rattle.sql_eval.specs.declared.meant.Meant.TheVariants as meants
use Rattle.sql_eval.specs.Meaning.{examined, written, meant_over}
use Rattle.sql_eval.proofs.MadeLemmas.{changes_are_of_written}
use Rattle.row_locks.specs.Locks.{keys_held}
use Rattle.row_store.specs.Own.{undo_length}
use Rattle.stmt_run.specs.Run.{StmtContext, in_doubt_refusal, locked_refusal, space_refusal, ran_within, ran_meant, ran_locked, ran_checked, ran_over, too_old_refusal}
use Rattle.node_rules.specs.Data.{Change, Table, TableRef, Synonym, Stmt, Done, RowSet, Durable, Live, Place, Keyed, Input}
use Rattle.session_tree.specs.Live.{edge_by_link}
use Rattle.session_tree.specs.Tree.{room}
use Rattle.dtx_values.specs.Limits.{depth_limit}
use Rattle.node_rules.specs.Names.{Named, A_table, Behind, Unknown, synonym_named, table_named, table_of, ref_named, named_by, ref_of, target_of, Runs_here, Through, Nowhere_to, way_edge, way_target, way_named, way_of, is_write}
use Rattle.node_rules.specs.Statement.{StmtOutcome, Refuses, Reads, Writes, read_by, reads_at}
use Rattle.node_rules.proofs.WayLemmas.{way_by_name, may_go}
use Rattle.node_rules.specs.Data.stmts
use Rattle.node_rules.specs.NodeState.{NodeState, Branch}
use Rattle.node_rules.proofs.Steps.{Asked, By_call, By_exec}
use Rattle.node_rules.proofs.StandLemmas.{live_so}

-- ---- a run

module _ (g : StmtContext) (s : Stmt) (t : Table) where
  -- no key that it examines is in doubt, and none that it writes is another live branch's
  abbrev pub Meets_nobody : Type 0
  Meets_nobody = else_refuse (in_doubt_refusal g t (examined s t g.view (keys_held g.locks t.name))) (locked_refusal g t (written s t g.view)) ≡ None

  module _ (P : StmtOutcome → Type 0) (refuses : (r : Refusal) → P (Refuses r)) (reads : (rows : RowSet) → Meets_nobody → P (Reads rows (written s t g.view)))
      (writes : (d : Done) (n : ℕ) (cs : List Change) → checked s t ≡ None → Meets_nobody → meant_over s t g.view ≡ meants.Changes d n cs → space_refusal g cs ≡ None → P (Writes d cs (written s t g.view) (undo_length g.view cs))) where
    within_so : (o : Option Refusal) (d : Done) (n : ℕ) (cs : List Change) → checked s t ≡ None → Meets_nobody → meant_over s t g.view ≡ meants.Changes d n cs → space_refusal g cs ≡ o
        → P (ran_within g o d cs (written s t g.view))
    within_so (Some r) d n cs none nobody is space = refuses r
    within_so None d n cs none nobody is space = writes d n cs none nobody is space

    meant_so : (m : Meant) → checked s t ≡ None → Meets_nobody → meant_over s t g.view ≡ m → P (ran_meant g (written s t g.view) m)
    meant_so (meants.Refused r) none nobody is = refuses r
    meant_so (meants.Gives rows) none nobody is = reads rows nobody
    meant_so (meants.Changes d n cs) none nobody is = within_so (space_refusal g cs) d n cs none nobody is refl

    locked_so : (o : Option Refusal) → checked s t ≡ None
        → else_refuse (in_doubt_refusal g t (examined s t g.view (keys_held g.locks t.name))) (locked_refusal g t (written s t g.view)) ≡ o → P (ran_locked g s t o)
    locked_so (Some r) none is = refuses r
    locked_so None none is = meant_so (meant_over s t g.view) none is refl

    old_so : (old : Option Refusal) → checked s t ≡ None
        → P (ran_locked g s t (else_refuse old (else_refuse (in_doubt_refusal g t (examined s t g.view (keys_held g.locks t.name))) (locked_refusal g t (written s t g.view)))))
    old_so (Some r) none = refuses r
    old_so None none = locked_so _ none refl

    checked_so : (o : Option Refusal) → checked s t ≡ o → P (ran_checked g s t o)
    checked_so (Some r) is = refuses r
    checked_so None is = old_so (too_old_refusal g) is

    -- what is so of each of the three is so of the run
    pub run_so : P (ran_over g s t)
    unfolding ran_over
    run_so = checked_so (checked s t) refl

-- ---- the table of a statement that runs

synonym_no : (o : Option Synonym) (t : Table) → synonym_named o ≡ A_table t → ⊥
synonym_no None t is = absurd cc
synonym_no (Some y) t is = absurd cc

table_so : (d : Durable) (name : List ℕ) (t : Table) (o : Option Table) → table_of d name ≡ o → table_named d name o ≡ A_table t → table_of d name ≡ Some t
table_so d name t None is named = absurd (synonym_no _ t named)
table_so d name t (Some u) is named = is ∙ ap Some (let it : A_table u ≡ A_table t = named in cc)

named_so : (d : Durable) (ref : TableRef) (t : Table) (link : Option (List ℕ)) → ref_named d ref link ≡ A_table t → table_of d ref.name ≡ Some t
named_so d ref t (Some link) named = absurd cc
named_so d ref t None named = table_so d ref.name t (table_of d ref.name) refl named

new_no : (deep wide : Bool) (node : ℕ) (link table : List ℕ) (a b : Refusal) (t : Table) → (if deep then Nowhere_to a else (if wide then Nowhere_to b else Through node link table)) ≡ Runs_here t → ⊥
new_no true wide node link table a b t is = absurd cc
new_no false true node link table a b t is = absurd cc
new_no false false node link table a b t is = absurd cc

edge_no : (p : Place) (l : Live) (given node : ℕ) (link table : List ℕ) (o : Option ℕ) (t : Table) → way_edge p l given node link table o ≡ Runs_here t → ⊥
edge_no p l given node link table (Some i) t is = absurd cc
edge_no p l given node link table None t is = new_no (nat_le depth_limit l.depth || (room l given == 0)) (nat_le p.links (length l.edges)) node link table _ _ t is

target_no : (p : Place) (l : Live) (given : ℕ) (link table : List ℕ) (o : Option ℕ) (t : Table) → way_target p l given link table o ≡ Runs_here t → ⊥
target_no p l given link table None t is = absurd cc
target_no p l given link table (Some node) t is = edge_no p l given node link table (edge_by_link l link) t is

way_so : (p : Place) (d : Durable) (l : Live) (given : ℕ) (n : Named) (t : Table) → way_named p d l given n ≡ Runs_here t → n ≡ A_table t
way_so p d l given Unknown t is = absurd cc
way_so p d l given (A_table u) t is = ap A_table (let it : Runs_here u ≡ Runs_here t = is in cc)
way_so p d l given (Behind link table) t is = absurd (target_no p l given link table (target_of p d link) t is)

-- a statement runs at the table that it names
pub runs_at_table : (p : Place) (d : Durable) (l : Live) (given : ℕ) (s : Stmt) (t : Table) → way_of p d l given s ≡ Runs_here t → table_of d (ref_of s).name ≡ Some t
runs_at_table p d l given s t is = named_so d (ref_of s) t (ref_of s).link (way_so p d l given (named_by d (ref_of s)) t (way_by_name p d l given s (Runs_here t) tt is))

-- ---- a branch that reads at an SCN

-- a branch that runs a statement reads as it stands at the node
asked_reads : {k : NodeState} {input : Input} {x : Branch} {s : Stmt} {given : ℕ} → Asked k input x s given → reads_at k x.live.me ≡ x.live.read_at
asked_reads {k = k} (By_call n x s call rows has code live may) = ap read_by (live_so k x.live.me x live)
asked_reads {k = k} (By_exec x from call given advice s came live runs) = ap read_by (live_so k x.live.me x live)

-- where it reads at an SCN the statement does not write
pub reader_reads : (p : Place) {k : NodeState} {input : Input} {x : Branch} {s : Stmt} {given : ℕ} {t : Table} → Asked k input x s given → way_of p k.stored.durable x.live given s ≡ Runs_here t
    → (is_some (reads_at k x.live.me) && is_write s) ≡ false
reader_reads p {k} {input} {x} {s} {given} {t} asked way = subst (λ r. (is_some r && is_write s) ≡ false) (sym (asked_reads asked)) (may_go p k.stored.durable x.live given s (Runs_here t) tt way)

-- a statement that does not write has no keys to write
pub writes_none : (s : Stmt) (t : Table) (rows : List Keyed) → is_write s ≡ false → written s t rows ≡ []
unfolding written
writes_none (stmts.Select list table cs true) t rows reading = absurd cc
writes_none (stmts.Select list table cs false) t rows reading = refl
writes_none _ t rows reading = absurd cc

no_keys : (cs : List Change) → map (λ c. c.key) cs ≡ [] → cs ≡ []
no_keys [] none = refl
no_keys (c ∷ cs) none = absurd cc

-- so it changes nothing
pub changes_none : (s : Stmt) (t : Table) (rows : List Keyed) (d : Done) (n : ℕ) (cs : List Change) → is_write s ≡ false → meant_over s t rows ≡ meants.Changes d n cs → cs ≡ []
changes_none s t rows d n cs reading meant = no_keys cs (changes_are_of_written s t rows d n cs meant ∙ writes_none s t rows reading)
