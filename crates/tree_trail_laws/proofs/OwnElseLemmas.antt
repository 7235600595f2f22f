-- A turn leaves what is told of the changes and the calls of branches of other nodes.
use Rattle.std.proofs.Common.{◌≡◌, ◌≢◌, ℕ, ◌==◌, ◌+◌, ◌&&◌, Bool, true, false, if◌then◌else◌, is_none, List, Option, Some, None, refl, sym, ap, subst, ◌∙◌, not}
use Rattle.std.specs.Prelude.{nat_lt}
use Rattle.std.proofs.lemmas.Bool.{and_parts, eqb-true, and_left, ne_eqb}
use Rattle.tran_ids.proofs.BranchLemmas.{equal_from_same}
use Rattle.tran_ids.proofs.ListedLemmas.{item_is}
use Rattle.node_rules.specs.Data.{Table, Stmt, BranchId, Kind, Input, Answer}
use Rattle.node_rules.specs.Data.inputs
use Rattle.node_rules.specs.Data.kinds
use Rattle.node_rules.specs.Words.{same}
use Rattle.node_rules.specs.NodeState.{NodeState}
use Rattle.node_rules.specs.Names.{ref_of}
use Rattle.run_rules.specs.Branches.{Run, Seen, Trail, seen_id, seen_at, is_live, is_live_at, is_root_of, root_at}
use Rattle.run_rules.specs.Data.{Took, Turn, Entry}
use Rattle.run_rules.specs.Facts.{Facts}
use Rattle.run_rules.specs.Lawful.{Comes}
use Rattle.run_rules.specs.Runs.{Asking, is_of_rows, asks_root, asks_branch, asks_by, asks, bare_name, table_by, run_at_table, run_by, run_in, GoneBack, is_counted, back_branch, back_by, back_root, goes_back, back_of, is_refused, step_of_savepoint}
use Rattle.run_rules.specs.Trail.{taken_by, taken_after, runs_for, runs_with, savepoints_set, step_back, back_in, with_savepoint}
use Rattle.tree_trail_laws.proofs.OwnAskLemmas.{asking}
use Rattle.tree_trail_laws.proofs.OwnKnowLemmas.{own_other}
use Rattle.tree_trail_laws.proofs.PlanLemmas.{find_passes}
use Rattle.node_rules.specs.Data.tasks
use Rattle.node_rules.specs.Data.stmts

-- a message goes to this node
abbrev pub IsHere : ℕ → Input → Type 0
IsHere n (inputs.Message m) = m.to.node ≡ n
IsHere n _ = Unit {0}

pub comes_here : (f : Facts) (k : NodeState) (n : ℕ) (input : Input) (took : Option Took) → Comes f k n input took → IsHere n input
comes_here f k n (inputs.Message m) (Some t) comes = comes.1.here
comes_here f k n (inputs.Message m) None comes = absurd comes
comes_here f k n (inputs.Call m s) took comes = tt
comes_here f k n (inputs.GiveUp m) took comes = tt
comes_here f k n inputs.Reco took comes = tt
comes_here f k n inputs.Checkpoint took comes = tt

-- a branch of another node is no root of a session of this one
not_root : (n m : ℕ) (s : Seen) → s.me.node ≢ n → is_root_of n m s ≡ false
not_root n m s other = and_left (is_live_at n s) (is_none s.parent && (s.me.session == m)) (and_left (s.me.node == n) (is_live s) (ne_eqb s.me.node n other))

module _ (tr : Trail) (n : ℕ) where
  -- ---- what is asked is asked of a branch of the node

  root_node : (m : ℕ) (s : Stmt) (o : Option Seen) → root_at tr n m ≡ o → (a : Asking) → asks_root s o ≡ Some a → a.branch.me.node ≡ n
  root_node m s None is a asked = absurd cc
  root_node m s (Some b) is a asked = by (is_of_rows s) asked
    where
      here : b.me.node ≡ n
      here =
          let passes = and_parts (is_live_at n b) (is_none b.parent && (b.me.session == m)) (find_passes (is_root_of n m) tr.seen b is) in
          eqb-true b.me.node n (and_parts (b.me.node == n) (is_live b) passes.0).0

      by : (q : Bool) → (if q then Some (asking b s) else None) ≡ Some a → a.branch.me.node ≡ n
      by true asked = (let it : Some (asking b s) ≡ Some a = asked in let one : asking b s ≡ a = cc in subst (λ (x : Asking). x.branch.me.node ≡ n) one here)
      by false asked = absurd cc

  branch_node : (to : BranchId) (call : ℕ) (s : Stmt) (o : Option Seen) → to.node ≡ n → seen_at tr to ≡ o → (a : Asking) → asks_branch call s o ≡ Some a → a.branch.me.node ≡ n
  branch_node to call s None here is a asked = absurd cc
  branch_node to call s (Some b) here is a asked = by (is_live b && nat_lt b.taken call) asked
    where
      me : b.me.node ≡ n
      me = ap (λ (c : BranchId). c.node) (item_is seen_id tr.seen to b is) ∙ here

      by : (q : Bool) → (if q then Some (asking b s) else None) ≡ Some a → a.branch.me.node ≡ n
      by true asked = (let it : Some (asking b s) ≡ Some a = asked in let one : asking b s ≡ a = cc in subst (λ (x : Asking). x.branch.me.node ≡ n) one me)
      by false asked = absurd cc

  kind_node : (to : BranchId) (kind : Kind) → to.node ≡ n → (a : Asking) → asks_by tr to kind ≡ Some a → a.branch.me.node ≡ n
  kind_node to (kinds.Exec call (tasks.Run given advice s)) here a asked = branch_node to call s (seen_at tr to) here refl a asked
  kind_node to _ here a asked = absurd cc

  pub asks_node : (input : Input) → IsHere n input → (a : Asking) → asks tr n input ≡ Some a → a.branch.me.node ≡ n
  asks_node (inputs.Call m (Some s)) here a asked = root_node m s (root_at tr n m) refl a asked
  asks_node (inputs.Call m None) here a asked = absurd cc
  asks_node (inputs.Message m) here a asked = kind_node m.to m.kind here a asked
  asks_node (inputs.GiveUp m) here a asked = absurd cc
  asks_node inputs.Reco here a asked = absurd cc
  asks_node inputs.Checkpoint here a asked = absurd cc

module _ (f : Facts) (tr : Trail) (u : Turn) (here : IsHere u.node u.input) where
  -- a run is of a branch of the node
  run_node : (r : Run) → run_in f tr u ≡ Some r → r.branch.node ≡ u.node
  unfolding run_in
  run_node r is = by u.cut (asks tr u.node u.input) refl is
    where
      table : (a : Asking) (o : Option Table) → a.branch.me.node ≡ u.node → run_at_table tr.moment a o ≡ Some r → r.branch.node ≡ u.node
      table a None node is = absurd cc
      table a (Some t) node is = (let it : Some (record { moment = tr.moment; branch = a.branch.me; statement = a.statement; table = t }) ≡ Some r = is in
          let one : record { moment = tr.moment; branch = a.branch.me; statement = a.statement; table = t } ≡ r = cc in subst (λ (x : Run). x.branch.node ≡ u.node) one node)

      by : (cut : Bool) (o : Option Asking) → asks tr u.node u.input ≡ o → (if cut then None else run_by f tr u.node o) ≡ Some r → r.branch.node ≡ u.node
      by true o asked is = absurd cc
      by false None asked is = absurd cc
      by false (Some a) asked is = table a (table_by f u.node (bare_name (ref_of a.statement))) (asks_node tr u.node u.input here a asked) is

  -- so the runs of a branch of another stay
  pub own_elsewhere : (book : List Entry) (step : ℕ) (s : Seen) (a : Option Answer) → s.me.node ≢ u.node → runs_with (runs_for s (run_in f tr u) a) book step s (run_in f tr u) ≡ s.runs
  own_elsewhere book step s a other = by (run_in f tr u) refl
    where
      by : (o : Option Run) → run_in f tr u ≡ o → runs_with (runs_for s o a) book step s o ≡ s.runs
      by None is = refl
      by (Some r) is = apart (same r.branch s.me) refl
        where
          apart : (q : Bool) → same r.branch s.me ≡ q → runs_with (runs_for s (Some r) a) book step s (Some r) ≡ s.runs
          apart true here = absurd (other (sym (ap (λ (c : BranchId). c.node) (equal_from_same r.branch s.me here)) ∙ run_node r is))
          apart false apart_it = own_other book step s r a apart_it

  -- nor does it go back
  back_root_node : (name : List ℕ) (m : ℕ) (o : Option Seen) → root_at tr u.node m ≡ o → (g : GoneBack) → back_root name o ≡ Some g → g.branch.node ≡ u.node
  back_root_node name m None is g gone = absurd cc
  back_root_node name m (Some b) is g gone = by (step_of_savepoint name b.savepoints) gone
    where
      there : b.me.node ≡ u.node
      there =
          let passes = and_parts (is_live_at u.node b) (is_none b.parent && (b.me.session == m)) (find_passes (is_root_of u.node m) tr.seen b is) in
          eqb-true b.me.node u.node (and_parts (b.me.node == u.node) (is_live b) passes.0).0

      by : (o : Option ℕ) → back_of b.me o ≡ Some g → g.branch.node ≡ u.node
      by None is = absurd cc
      by (Some step) is = (let it : Some (record { branch = b.me; step = step }) ≡ Some g = is in let one : record { branch = b.me; step = step } ≡ g = cc in subst (λ (x : GoneBack). x.branch.node ≡ u.node) one there)

  back_branch_node : (to : BranchId) (call keep : ℕ) (o : Option Seen) → to.node ≡ u.node → seen_at tr to ≡ o → (g : GoneBack) → back_branch call keep o ≡ Some g → g.branch.node ≡ u.node
  back_branch_node to call keep None at is g gone = absurd cc
  back_branch_node to call keep (Some b) at is g gone = by (is_live b && nat_lt b.taken call) gone
    where
      there : b.me.node ≡ u.node
      there = ap (λ (c : BranchId). c.node) (item_is seen_id tr.seen to b is) ∙ at

      by : (q : Bool) → (if q then back_of b.me (Some keep) else None) ≡ Some g → g.branch.node ≡ u.node
      by true is = (let it : Some (record { branch = b.me; step = keep }) ≡ Some g = is in let one : record { branch = b.me; step = keep } ≡ g = cc in subst (λ (x : GoneBack). x.branch.node ≡ u.node) one there)
      by false is = absurd cc

  back_kind_node : (to : BranchId) (kind : Kind) → to.node ≡ u.node → (g : GoneBack) → back_by tr to kind ≡ Some g → g.branch.node ≡ u.node
  back_kind_node to (kinds.Exec call (tasks.GoBack keep)) at g gone = back_branch_node to call keep (seen_at tr to) at refl g gone
  back_kind_node to _ at g gone = absurd cc

  back_node : (answer : Option Answer) (input : Input) → IsHere u.node input → (g : GoneBack) → goes_back tr u.node answer input ≡ Some g → g.branch.node ≡ u.node
  back_node answer (inputs.Call m (Some (stmts.RollbackTo name))) at g gone = by (is_refused answer) gone
    where
      by : (q : Bool) → (if q then None else back_root name (root_at tr u.node m)) ≡ Some g → g.branch.node ≡ u.node
      by true is = absurd cc
      by false is = back_root_node name m (root_at tr u.node m) refl g is
  back_node answer (inputs.Message m) at g gone = back_kind_node m.to m.kind at g gone
  back_node answer _ at g gone = absurd cc

  pub back_elsewhere : (s : Seen) (answer : Option Answer) → s.me.node ≢ u.node → step_back s.me (back_in tr u answer) ≡ None
  back_elsewhere s answer other = by u.cut (goes_back tr u.node answer u.input) refl
    where
      by : (cut : Bool) (o : Option GoneBack) → goes_back tr u.node answer u.input ≡ o → step_back s.me (if cut then None else o) ≡ None
      by true o is = refl
      by false None is = refl
      by false (Some g) is = apart (same g.branch s.me) refl
        where
          apart : (q : Bool) → same g.branch s.me ≡ q → (if q then Some g.step else None) ≡ None
          apart true at = absurd (other (sym (ap (λ (c : BranchId). c.node) (equal_from_same g.branch s.me at)) ∙ back_node answer u.input here g is))
          apart false at = refl

-- nor does it take a call
pub taken_elsewhere : (n : ℕ) (s : Seen) (input : Input) → IsHere n input → s.me.node ≢ n → taken_after n s input ≡ s.taken
taken_elsewhere n s (inputs.Message m) here other = by (same m.to s.me) refl
  where
    by : (q : Bool) → same m.to s.me ≡ q → (if q && is_live s then taken_by s.taken m.kind else s.taken) ≡ s.taken
    by true to = absurd (other (sym (ap (λ (c : BranchId). c.node) (equal_from_same m.to s.me to)) ∙ here))
    by false apart = refl
taken_elsewhere n s (inputs.Call m (Some st)) here other = ap (λ q. if q && is_counted st then s.taken + 1 else s.taken) (not_root n m s other)
taken_elsewhere n s (inputs.Call m None) here other = refl
taken_elsewhere n s (inputs.GiveUp m) here other = refl
taken_elsewhere n s inputs.Reco here other = refl
taken_elsewhere n s inputs.Checkpoint here other = refl

-- nor does it set a savepoint
pub savepoints_elsewhere : (n : ℕ) (a : Option Answer) (step : ℕ) (s : Seen) (input : Input) → s.me.node ≢ n → savepoints_set n a step s input ≡ s.savepoints
savepoints_elsewhere n a step s (inputs.Call m (Some (stmts.Savepoint name))) other = ap (λ q. if q && not (is_refused a) then with_savepoint s.savepoints name step else s.savepoints) (not_root n m s other)
savepoints_elsewhere n a step s _ other = refl
