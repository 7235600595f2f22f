-- No statement comes to a branch below a root that has left, so its changes stay.
use Rattle.std.proofs.Common.{◌≡◌, ◌≢◌, ℕ, ◌≤◌, ◌==◌, ◌&&◌, Bool, true, false, if◌then◌else◌, is_none, List, Option, Some, None, refl, sym, ap, subst, ◌∙◌, arith}
use Rattle.std.specs.Prelude.{nat_lt}
use Rattle.std.proofs.lemmas.Bool.{and_parts, eqb-true}
use Rattle.tran_ids.proofs.BranchLemmas.{equal_from_same}
use Rattle.tran_ids.proofs.ListedLemmas.{item_is}
use Rattle.agreement.specs.Events.{Exit}
use Rattle.node_rules.specs.Data.{Table, Stmt, BranchId, Kind, Input, Answer}
use Rattle.node_rules.specs.Data.inputs
use Rattle.node_rules.specs.Data.kinds
use Rattle.node_rules.specs.Data.tasks
use Rattle.node_rules.specs.Words.{same}
use Rattle.node_rules.specs.Names.{ref_of}
use Rattle.run_rules.specs.Branches.{Run, Seen, Trail, seen_id, seen_at, is_live, is_live_at, is_root_of, root_at}
use Rattle.run_rules.specs.Data.{Turn, Entry}
use Rattle.run_rules.specs.Facts.{Facts}
use Rattle.run_rules.specs.Runs.{Asking, is_of_rows, asks_root, asks_branch, asks_by, asks, bare_name, table_by, run_at_table, run_by, run_in}
use Rattle.run_rules.specs.Trail.{runs_for, runs_with}
use Rattle.tree_trail_laws.proofs.OwnAskLemmas.{asking}
use Rattle.tree_trail_laws.proofs.OwnKnowLemmas.{own_other}
use Rattle.tree_trail_laws.proofs.PlanLemmas.{find_passes}

-- a turn without a statement runs none
pub run_none : (f : Facts) (tr : Trail) (u : Turn) → asks tr u.node u.input ≡ None → run_in f tr u ≡ None
unfolding run_in
run_none f tr u none = by u.cut
  where
    by : (cut : Bool) → (if cut then None else run_by f tr u.node (asks tr u.node u.input)) ≡ None
    by true = refl
    by false = ap (run_by f tr u.node) none

-- A branch is told to have left; its number of a session is that of no client's.
module _ (tr : Trail) (s : Seen) (at : seen_at tr s.me ≡ Some s) (y : Exit) (left : s.exit ≡ Some y) (high : 65 ≤ s.me.session) where
  -- a session's call comes to a root
  root_other : (n m : ℕ) (st : Stmt) (o : Option Seen) → m ≤ 64 → root_at tr n m ≡ o → (a : Asking) → asks_root st o ≡ Some a → a.branch.me ≢ s.me
  root_other n m st None low is a asked = absurd cc
  root_other n m st (Some b) low is a asked = by (is_of_rows st) asked
    where
      here : b.me.session ≡ m
      here =
          let passes = and_parts (is_live_at n b) (is_none b.parent && (b.me.session == m)) (find_passes (is_root_of n m) tr.seen b is) in
          eqb-true b.me.session m (and_parts (is_none b.parent) (b.me.session == m) passes.1).1

      apart : b.me ≢ s.me
      apart me = (let same_one : b.me.session ≡ s.me.session = ap (λ (c : BranchId). c.session) me in let number = here in absurd (omega (arith, low, number, same_one, high)))

      by : (q : Bool) → (if q then Some (asking b st) else None) ≡ Some a → a.branch.me ≢ s.me
      by true asked = (let it : Some (asking b st) ≡ Some a = asked in let one : asking b st ≡ a = cc in subst (λ (x : Asking). x.branch.me ≢ s.me) one apart)
      by false asked = absurd cc

  -- and an Exec to a live branch
  branch_other : (to : BranchId) (call : ℕ) (st : Stmt) (o : Option Seen) → seen_at tr to ≡ o → (a : Asking) → asks_branch call st o ≡ Some a → a.branch.me ≢ s.me
  branch_other to call st None is a asked = absurd cc
  branch_other to call st (Some b) is a asked = by (is_live b) refl (nat_lt b.taken call) asked
    where
      apart : is_live b ≡ true → b.me ≢ s.me
      apart live me =
          let to_it : b.me ≡ to = item_is seen_id tr.seen to b is in
          let both : Some s ≡ Some b = sym at ∙ (ap (seen_at tr) (sym me ∙ to_it) ∙ is) in
          let one : s ≡ b = cc in
          let gone : is_live b ≡ false = ap is_live (sym one) ∙ ap is_none left in
          absurd (cc (live, gone))

      by : (q : Bool) → is_live b ≡ q → (r : Bool) → (if q && r then Some (asking b st) else None) ≡ Some a → a.branch.me ≢ s.me
      by true live true asked = (let it : Some (asking b st) ≡ Some a = asked in let one : asking b st ≡ a = cc in subst (λ (x : Asking). x.branch.me ≢ s.me) one (apart live))
      by true live false asked = absurd cc
      by false live r asked = absurd cc

  kind_other : (to : BranchId) (kind : Kind) (a : Asking) → asks_by tr to kind ≡ Some a → a.branch.me ≢ s.me
  kind_other to (kinds.Exec call (tasks.Run given advice st)) a asked = branch_other to call st (seen_at tr to) refl a asked
  kind_other to _ a asked = absurd cc

  asks_other : (n : ℕ) (input : Input) → ((m : ℕ) (o : Option Stmt) → input ≡ inputs.Call m o → m ≤ 64) → (a : Asking) → asks tr n input ≡ Some a → a.branch.me ≢ s.me
  asks_other n (inputs.Call m (Some st)) low a asked = root_other n m st (root_at tr n m) (low m (Some st) refl) refl a asked
  asks_other n (inputs.Call m None) low a asked = absurd cc
  asks_other n (inputs.Message m) low a asked = kind_other m.to m.kind a asked
  asks_other n (inputs.GiveUp m) low a asked = absurd cc
  asks_other n inputs.Reco low a asked = absurd cc
  asks_other n inputs.Checkpoint low a asked = absurd cc

  module _ (f : Facts) (u : Turn) (low : (m : ℕ) (o : Option Stmt) → u.input ≡ inputs.Call m o → m ≤ 64) where
    -- a run is of another
    run_other : (r : Run) → run_in f tr u ≡ Some r → r.branch ≢ s.me
    unfolding run_in
    run_other r is = by u.cut (asks tr u.node u.input) refl is
      where
        table : (a : Asking) (o : Option Table) → a.branch.me ≢ s.me → run_at_table tr.moment a o ≡ Some r → r.branch ≢ s.me
        table a None other is = absurd cc
        table a (Some t) other is = (let it : Some (record { moment = tr.moment; branch = a.branch.me; statement = a.statement; table = t }) ≡ Some r = is in
            let one : record { moment = tr.moment; branch = a.branch.me; statement = a.statement; table = t } ≡ r = cc in subst (λ (x : Run). x.branch ≢ s.me) one other)

        by : (cut : Bool) (o : Option Asking) → asks tr u.node u.input ≡ o → (if cut then None else run_by f tr u.node o) ≡ Some r → r.branch ≢ s.me
        by true o asked is = absurd cc
        by false None asked is = absurd cc
        by false (Some a) asked is = table a (table_by f u.node (bare_name (ref_of a.statement))) (asks_other u.node u.input low a asked) is

    -- so its runs stay
    pub own_of_left : (book : List Entry) (step : ℕ) (a : Option Answer) → runs_with (runs_for s (run_in f tr u) a) book step s (run_in f tr u) ≡ s.runs
    own_of_left book step a = by (run_in f tr u) refl
      where
        by : (o : Option Run) → run_in f tr u ≡ o → runs_with (runs_for s o a) book step s o ≡ s.runs
        by None is = refl
        by (Some r) is = apart (same r.branch s.me) refl
          where
            apart : (q : Bool) → same r.branch s.me ≡ q → runs_with (runs_for s (Some r) a) book step s (Some r) ≡ s.runs
            apart true here = absurd (run_other r is (equal_from_same r.branch s.me here))
            apart false other = own_other book step s r a other
