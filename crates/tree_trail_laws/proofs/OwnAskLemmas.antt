-- What runs in a turn by what the happenings tell: nothing where no statement came, or one came once more; else the statement that ran at the node, at
-- its table, for the branch that it came to.
use Rattle.std.proofs.Common.{◌≡◌, ℕ, ◌==◌, ◌&&◌, ◌||◌, not, Bool, true, false, if◌then◌else◌, is_none, is_some, List, find, length, Option, Some, None, refl, sym, ap, subst, ◌∙◌, arith}
use Rattle.std.specs.Prelude.{nat_lt, nat_le}
use Rattle.std.proofs.lemmas.Bool.Decides.{nat_tests}
use Rattle.dtx_values.specs.Limits.{depth_limit}
use Rattle.redo_record.specs.Durable.{durable}
use Rattle.session_tree.specs.Live.{edge_by_link}
use Rattle.session_tree.specs.Tree.{room}
use Rattle.node_rules.specs.Data.{Table, Stmt, Refusal, BranchId, Durable, Kind, Live, Place, Input}
use Rattle.node_rules.specs.Data.admits
use Rattle.node_rules.specs.Data.inputs
use Rattle.node_rules.specs.Data.kinds
use Rattle.node_rules.specs.Words.{same_text}
use Rattle.node_rules.specs.Inputs.{IsCall}
use Rattle.node_rules.specs.NodeState.{NodeState, Stored, Branch}
use Rattle.node_rules.specs.Names.{ref_named, ref_of, target_of, Runs_here, Through, Nowhere_to, way_edge, way_target, way_named, way_of}
use Rattle.node_rules.specs.Calls.{admit, runs_here, answer_says, answer_ends, branch_ran}
use Rattle.node_rules.specs.Records.{nothing_stored}
use Rattle.node_rules.specs.Statement.{ran, after_run, answer_of_run}
use Rattle.node_rules.specs.Turn.{output_of}
use Rattle.node_rules.proofs.Steps as steps
use Rattle.node_rules.proofs.Steps.{HasRoot, Asked, IsOfRows}
use Rattle.run_rules.specs.Branches.{Seen, Trail, seen_at, is_live, root_at}
use Rattle.run_rules.specs.Data.{Turn}
use Rattle.run_rules.specs.Facts.{Facts, records_at}
use Rattle.run_rules.specs.Runs.{Asking, is_of_rows, asks_root, asks_branch, asks_by, asks, bare_name, table_by, run_at_table, run_by, run_in, answered_by}
use Rattle.run_key_laws.proofs.RanLemmas.{runs_at_table}
use Rattle.run_base_laws.proofs.StoredLemmas.{StoresOf}
use Rattle.tree_trail_laws.proofs.OwnCallLemmas.{last_of, found_calls}
use Rattle.tree_trail_laws.proofs.OwnStepLemmas.{BringsNone, Repeats, of_rows, is_run}
use Rattle.node_rules.proofs.WayLemmas.{way_by_name}
use Rattle.tree_trail_laws.proofs.DurableLemmas.{durable_stored}
use Rattle.node_rules.specs.Data.tasks

-- a statement that came to a branch
abbrev pub asking : Seen → Stmt → Asking
asking b s = record { branch = b; statement = s }

-- ---- no run

module _ (tr : Trail) (n : ℕ) where
  kind_asks : (to : BranchId) (kind : Kind) → not (is_run kind) ≡ true → asks_by tr to kind ≡ None
  kind_asks to (kinds.Exec call (tasks.Run given advice s)) none = absurd cc
  kind_asks to _ none = refl

  root_asks : (s : Stmt) (o : Option Seen) → not (is_of_rows s) ≡ true → asks_root s o ≡ None
  root_asks s None none = refl
  root_asks s (Some b) none = by (is_of_rows s) none
    where
      by : (q : Bool) → not q ≡ true → (if q then Some (asking b s) else None) ≡ None
      by true none = absurd cc
      by false none = refl

  -- nothing is asked where no statement came
  pub none_asked : (input : Input) → BringsNone input → asks tr n input ≡ None
  none_asked (inputs.Call m (Some s)) none = root_asks s (root_at tr n m) none
  none_asked (inputs.Call m None) none = refl
  none_asked (inputs.Message m) none = kind_asks m.to m.kind none
  none_asked (inputs.GiveUp m) none = refl
  none_asked inputs.Reco none = refl
  none_asked inputs.Checkpoint none = refl

  branch_asks : (call : ℕ) (s : Stmt) (o : Option Seen) (b : Seen) → o ≡ Some b → nat_lt b.taken call ≡ false → asks_branch call s o ≡ None
  branch_asks call s o b is low = ap (asks_branch call s) is ∙ ap (λ q. if is_live b && q then Some (asking b s) else None) low ∙ by (is_live b)
    where
      by : (q : Bool) → (if q && false then Some (asking b s) else None) ≡ None
      by true = refl
      by false = refl

  not_lower : (a : ℕ) → nat_lt a a ≡ false
  not_lower a = grind (arith, nat_tests)

  -- nor where a call comes once more
  pub again_asked : (k : NodeState) (input : Input) (again : Repeats k input) (b : Seen) → seen_at tr again.0.live.me ≡ Some b → b.taken ≡ last_of k again.0.live.me → asks tr n input ≡ None
  again_asked k input again b at taken =
      let last : b.taken ≡ again.2 = taken ∙ (sym (found_calls k again.0 again.7) ∙ again.8) in
      ap (asks tr n) again.6.is ∙ branch_asks again.2 again.5 (seen_at tr again.0.live.me) b at (subst (λ c. nat_lt b.taken c ≡ false) last (not_lower b.taken))

-- ---- a run

module _ (tr : Trail) (n : ℕ) (input : Input) where
  -- the root of the session that calls
  abbrev pub RootsAre : NodeState → Type 0
  RootsAre k = (m : ℕ) (s : Stmt) (b : BranchId) → IsCall input m s → IsOfRows s → HasRoot k m b → (r : Seen) × (root_at tr n m ≡ Some r) × (r.me ≡ b)

  -- a statement that came to a branch is asked of it
  pub asked_so : (k : NodeState) {x : Branch} {s : Stmt} {given : ℕ} → Asked k input x s given → RootsAre k
      → ((b : Seen) × (seen_at tr x.live.me ≡ Some b) × (b.me ≡ x.live.me) × (b.exit ≡ None) × (((m : ℕ) (u : Stmt) → IsCall input m u → ⊥) → b.taken ≡ last_of k x.live.me))
      → (b : Seen) × (asks tr n input ≡ Some (asking b s)) × (b.me ≡ x.live.me)
  unfolding admit
  asked_so k (steps.By_call m x s call rows has code found may) roots known =
      let root = roots m s x.live.me call rows has in
      (root.0, ap (asks tr n) call ∙ (ap (asks_root s) root.1 ∙ ap (λ q. if q then Some (asking root.0 s) else None) (of_rows s rows)), root.2)
  asked_so k (steps.By_exec x from call given advice s came found runs) roots known =
      let b : Seen = known.0 in
      let below : nat_lt b.taken call ≡ true = ap (λ a. nat_lt a call) (known.4 (λ m u other. (let one = came.is in absurd (cc (one, other)))) ∙ sym (found_calls k x found)) ∙ admitted runs in (
        b,
        ap (asks tr n) came.is ∙ (ap (asks_branch call s) known.1 ∙ (ap (λ o. if is_none o && nat_lt b.taken call then Some (asking b s) else None) known.3
            ∙ ap (λ q. if q then Some (asking b s) else None) below)),
        known.2,
      )
    where
      admitted : admit x.work.came call ≡ admits.Run → nat_lt x.work.came.last_call call ≡ true
      admitted runs = by (nat_lt x.work.came.last_call call) ((call == x.work.came.last_call) && is_some x.work.came.reply) runs
        where
          by : (q r : Bool) → (if q then admits.Run else (if r then admits.Again else admits.Ignore)) ≡ admits.Run → q ≡ true
          by true r runs = refl
          by false true runs = absurd cc
          by false false runs = absurd cc

-- ---- its table

new_no : (deep wide : Bool) (node : ℕ) (link table : List ℕ) (a b : Refusal) (t : Table) → (if deep then Nowhere_to a else (if wide then Nowhere_to b else Through node link table)) ≡ Runs_here t → ⊥
new_no true wide node link table a b t is = absurd cc
new_no false true node link table a b t is = absurd cc
new_no false false node link table a b t is = absurd cc

pub edge_no : (p : Place) (l : Live) (given node : ℕ) (link table : List ℕ) (o : Option ℕ) (t : Table) → way_edge p l given node link table o ≡ Runs_here t → ⊥
edge_no p l given node link table (Some i) t is = absurd cc
edge_no p l given node link table None t is = new_no (nat_le depth_limit l.depth || (room l given == 0)) (nat_le p.links (length l.edges)) node link table _ _ t is

pub target_no : (p : Place) (l : Live) (given : ℕ) (link table : List ℕ) (o : Option ℕ) (t : Table) → way_target p l given link table o ≡ Runs_here t → ⊥
target_no p l given link table None t is = absurd cc
target_no p l given link table (Some node) t is = edge_no p l given node link table (edge_by_link l link) t is

-- a statement that runs at a node names its table barely
bare_so : (p : Place) (d : Durable) (l : Live) (given : ℕ) (s : Stmt) (t : Table) → way_of p d l given s ≡ Runs_here t → bare_name (ref_of s) ≡ Some (ref_of s).name
bare_so p d l given s t is = by (ref_of s).link (way_by_name p d l given s (Runs_here t) tt is)
  where
    by : (link : Option (List ℕ)) → way_named p d l given (ref_named d (ref_of s) link) ≡ Runs_here t → (if is_none link then Some (ref_of s).name else None) ≡ Some (ref_of s).name
    by None is = refl
    by (Some link) is = absurd (target_no p l given link (ref_of s).name (target_of p d link) t is)

-- the table is that of the records
pub table_so : (f : Facts) (n : ℕ) (k : NodeState) (p : Place) (l : Live) (given : ℕ) (s : Stmt) (t : Table) → StoresOf (records_at f n) k → way_of p k.stored.durable l given s ≡ Runs_here t
    → table_by f n (bare_name (ref_of s)) ≡ Some t
table_so f n k p l given s t stored way =
    let tables : k.stored.durable.tables ≡ (durable (records_at f n)).tables = ap (λ (x : Stored). x.durable.tables) stored ∙ ap (λ d. d.tables) (durable_stored nothing_stored (records_at f n)) in
    ap (table_by f n) (bare_so p k.stored.durable l given s t way)
    ∙ (ap (λ ts. find (λ x. same_text x.name (ref_of s).name) ts) (sym tables) ∙ runs_at_table p k.stored.durable l given s t way)

-- ---- the run

module _ (f : Facts) (tr : Trail) (u : Turn) where
  pub none_runs : asks tr u.node u.input ≡ None → run_in f tr u ≡ None
  unfolding run_in
  none_runs none = by u.cut
    where
      by : (cut : Bool) → (if cut then None else run_by f tr u.node (asks tr u.node u.input)) ≡ None
      by true = refl
      by false = ap (run_by f tr u.node) none

  pub one_runs : u.cut ≡ false → (b : Seen) (s : Stmt) (t : Table) → asks tr u.node u.input ≡ Some (asking b s) → table_by f u.node (bare_name (ref_of s)) ≡ Some t
      → run_in f tr u ≡ Some (record { moment = tr.moment; branch = b.me; statement = s; table = t })
  unfolding run_in
  one_runs whole b s t asked found =
      ap (λ c. if c then None else run_by f tr u.node (asks tr u.node u.input)) whole
      ∙ (ap (run_by f tr u.node) asked ∙ ap (run_at_table tr.moment (asking b s)) found)

-- what is answered to it
pub run_answered : (p : Place) (k : NodeState) (x : Branch) (s : Stmt) (t : Table) → answered_by (Some (output_of (runs_here p k x s t))) ≡ Some (answer_of_run (ran p k x.live.me s t))
run_answered p k x s t = by x.live.parent
  where
    by : (o : Option BranchId)
        → answered_by (Some (output_of (record (runs_here p k x s t) {
          says = answer_says (branch_ran k.sessions x t (ran p k x.live.me s t)) (answer_of_run (ran p k x.live.me s t)) o;
          ended = answer_ends (after_run x.live (ran p k x.live.me s t)) (answer_of_run (ran p k x.live.me s t)) o;
        })))
        ≡ Some (answer_of_run (ran p k x.live.me s t))
    by None = refl
    by (Some parent) = refl
