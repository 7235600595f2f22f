-- What a turn makes of the runs of a branch up to a step: nothing, where the branch has taken a call of that step before, and does not
-- go back to a lower one. For a run comes with a call that is counted, and has its step.
use Rattle.std.proofs.Common.{◌≡◌, ◌<◌, ◌≤◌, ◌+◌, ◌&&◌, ℕ, Bool, true, false, if◌then◌else◌, List, [], ◌∷◌, ◌++◌, filter, max, nat_le, nat_lt, Option, Some, None, refl, sym, ap, subst, ◌∙◌, arith}
use Rattle.std.specs.List.{AllByRecursion}
use Rattle.std.proofs.lemmas.Bool.{and_parts, and_from}
use Rattle.std.proofs.lemmas.Bool.Decides.{nat_tests}
use Rattle.tran_ids.proofs.BranchLemmas.{same_from_equal, equal_from_same}
use Rattle.tran_ids.proofs.ListedLemmas.{item_is}
use Rattle.node_rules.specs.Data.{Answer, Input, Kind, Msg, Stmt, Table}
use Rattle.node_rules.specs.Data.inputs
use Rattle.node_rules.specs.Data.kinds
use Rattle.node_rules.specs.Data.stmts
use Rattle.node_rules.specs.Data.tasks
use Rattle.node_rules.specs.Words.{same}
use Rattle.run_rules.specs.Branches.{Ran, Run, Seen, Trail, seen_id, seen_at, root_at, is_live, is_root_of}
use Rattle.run_rules.specs.Data.{Entry, Turn}
use Rattle.run_rules.specs.Facts.{Facts}
use Rattle.run_rules.specs.Runs.{Asking, is_of_rows, is_counted, asks_root, asks_branch, asks_by, asks, bare_name, table_by, run_at_table, run_by, run_in, is_accepted}
use Rattle.run_rules.specs.Trail.{taken_after, taken_by, runs_for, runs_with, runs_back}
use Rattle.run_rules.proofs.ListLemmas.{all_weaker, all_append, all_filter}
use Rattle.node_rules.specs.Names.{ref_of}
use Rattle.tree_trail_laws.proofs.PlanLemmas.{find_passes}
use Rattle.tree_trail_laws.proofs.TopListLemmas.{Alone}
use Rattle.tree_trail_laws.proofs.TopPlanLemmas.{found_so}
use Rattle.back_laws.specs.BackLaws.{runs_until}

-- ---- numbers and lists

higher : (a c : ℕ) → nat_lt a c ≡ true → a < max a c
higher a c less = grind (arith, nat_tests, less)

not_until : (step c : ℕ) → c < step → nat_le step c ≡ false
not_until step c less = grind (arith, nat_tests, less)

pub is_up_to : (step c : ℕ) → step ≤ c → nat_le step c ≡ true
is_up_to step c less = grind (arith, nat_tests, less)

pub until_is : (step c : ℕ) → nat_le step c ≡ true → step ≤ c
until_is step c is = grind (arith, nat_tests, is)

filter_last : {A : Type 0} (p : A → Bool) (xs : List A) (y : A) → p y ≡ false → filter p (xs ++ y ∷ []) ≡ filter p xs
filter_last p [] y not_it = ap (λ q. if q then y ∷ [] else []) not_it
filter_last p (x ∷ xs) y not_it = by (p x) (filter_last p xs y not_it)
  where
    by : (q : Bool) → filter p (xs ++ y ∷ []) ≡ filter p xs → (if q then x ∷ filter p (xs ++ y ∷ []) else filter p (xs ++ y ∷ [])) ≡ (if q then x ∷ filter p xs else filter p xs)
    by true rest = ap (λ zs. x ∷ zs) rest
    by false rest = rest

-- what passes the one test passes the other
pub filter_twice : {A : Type 0} (p q : A → Bool) → ((x : A) → p x ≡ true → q x ≡ true) → (xs : List A) → filter p (filter q xs) ≡ filter p xs
filter_twice p q passes [] = refl
filter_twice p q passes (x ∷ xs) = by (q x) (p x) refl refl (filter_twice p q passes xs)
  where
    by : (b c : Bool) → q x ≡ b → p x ≡ c → filter p (filter q xs) ≡ filter p xs → filter p (if b then x ∷ filter q xs else filter q xs) ≡ (if c then x ∷ filter p xs else filter p xs)
    by true c is its rest = ap (λ r. if r then x ∷ filter p (filter q xs) else filter p (filter q xs)) its ∙ both c rest
      where
        both : (c : Bool) → filter p (filter q xs) ≡ filter p xs → (if c then x ∷ filter p (filter q xs) else filter p (filter q xs)) ≡ (if c then x ∷ filter p xs else filter p xs)
        both true rest = ap (λ zs. x ∷ zs) rest
        both false rest = rest
    by false true is its rest = let there = passes x its in absurd (cc (there, is))
    by false false is its rest = rest

pub filter_all : {A : Type 0} (p : A → Bool) (xs : List A) → AllByRecursion (λ x. p x ≡ true) xs → filter p xs ≡ xs
filter_all p [] all = refl
filter_all p (x ∷ xs) all = ap (λ q. if q then x ∷ filter p xs else filter p xs) all.0 ∙ ap (λ zs. x ∷ zs) (filter_all p xs all.1)

-- ---- a run comes with a call that is counted

counted_rows : (s : Stmt) → is_of_rows s ≡ true → is_counted s ≡ true
counted_rows (stmts.Savepoint name) rows = refl
counted_rows (stmts.RollbackTo name) rows = refl
counted_rows _ rows = rows

module _ (f : Facts) (tr : Trail) (u : Turn) (alone : Alone tr.seen) (s : Seen) (at : seen_at tr s.me ≡ Some s) where
  -- two that are told under one id are one
  one_of : (x : Seen) → seen_at tr x.me ≡ Some x → x.me ≡ s.me → x ≡ s
  one_of x there me = let both : Some x ≡ Some s = sym there ∙ (ap (seen_at tr) me ∙ at) in let it : x ≡ s = cc in it

  root_rises : (m : ℕ) (st : Stmt) (o : Option Seen) → root_at tr u.node m ≡ o → (a : Asking) → asks_root st o ≡ Some a → same a.branch.me s.me ≡ true → s.taken < taken_after u.node s (inputs.Call m (Some st))
  root_rises m st None is a asked me = absurd cc
  root_rises m st (Some x) is a asked me = by (is_of_rows st) refl asked
    where
      by : (q : Bool) → is_of_rows st ≡ q → (if q then Some (record { branch = x; statement = st }) else None) ≡ Some a → s.taken < taken_after u.node s (inputs.Call m (Some st))
      by false rows asked = absurd cc
      by true rows asked =
          let it : Some (record { branch = x; statement = st }) ≡ Some a = asked in
          let one_ask : record { branch = x; statement = st } ≡ a = cc in
          let me_too : x.me ≡ s.me = ap (λ (z : Asking). z.branch.me) one_ask ∙ equal_from_same a.branch.me s.me me in
          let there : seen_at tr x.me ≡ Some x = found_so (λ (y : Seen). seen_at tr y.me ≡ Some y) (is_root_of u.node m) tr.seen x is alone in
          let mine : is_root_of u.node m s ≡ true = subst (λ (y : Seen). is_root_of u.node m y ≡ true) (one_of x there me_too) (find_passes (is_root_of u.node m) tr.seen x is) in
          let up : taken_after u.node s (inputs.Call m (Some st)) ≡ s.taken + 1 = ap (λ q. if q then s.taken + 1 else s.taken) (and_from (is_root_of u.node m s) (is_counted st) mine (counted_rows st rows)) in
          subst (λ n. s.taken < n) (sym up) (omega arith)

  exec_rises : (m : Msg) (a : Asking) → asks_by tr m.to m.kind ≡ Some a → same a.branch.me s.me ≡ true → s.taken < taken_after u.node s (inputs.Message m)
  exec_rises m a asked me = by m.kind refl asked
    where
      here : (call : ℕ) (st : Stmt) (o : Option Seen) → seen_at tr m.to ≡ o → asks_branch call st o ≡ Some a → s.taken < (if same m.to s.me && is_live s then max s.taken call else s.taken)
      here call st None is asked = absurd cc
      here call st (Some x) is asked = new (is_live x && nat_lt x.taken call) refl asked
        where
          new : (q : Bool) → (is_live x && nat_lt x.taken call) ≡ q → (if q then Some (record { branch = x; statement = st }) else None) ≡ Some a → s.taken < (if same m.to s.me && is_live s then max s.taken call else s.taken)
          new false comes asked = absurd cc
          new true comes asked =
              let it : Some (record { branch = x; statement = st }) ≡ Some a = asked in
              let one_ask : record { branch = x; statement = st } ≡ a = cc in
              let me_too : x.me ≡ s.me = ap (λ (z : Asking). z.branch.me) one_ask ∙ equal_from_same a.branch.me s.me me in
              let to : x.me ≡ m.to = item_is seen_id tr.seen m.to x is in
              let one : x ≡ s = one_of x (ap (seen_at tr) to ∙ is) me_too in
              let parts = and_parts (is_live s) (nat_lt s.taken call) (subst (λ (y : Seen). (is_live y && nat_lt y.taken call) ≡ true) one comes) in
              let test = and_from (same m.to s.me) (is_live s) (same_from_equal m.to s.me (sym to ∙ me_too)) parts.0 in
              subst (λ n. s.taken < n) (sym (ap (λ q. if q then max s.taken call else s.taken) test)) (higher s.taken call parts.1)

      by : (kind : Kind) → m.kind ≡ kind → asks_by tr m.to kind ≡ Some a → s.taken < (if same m.to s.me && is_live s then taken_by s.taken m.kind else s.taken)
      by (kinds.Exec call (tasks.Run given advice st)) is asked = subst (λ k. s.taken < (if same m.to s.me && is_live s then taken_by s.taken k else s.taken)) (sym is) (here call st (seen_at tr m.to) refl asked)
      by (kinds.Exec call (tasks.GoBack keep)) is asked = absurd cc
      by _ is asked = absurd cc

  input_rises : (input : Input) (a : Asking) → asks tr u.node input ≡ Some a → same a.branch.me s.me ≡ true → s.taken < taken_after u.node s input
  input_rises (inputs.Call m (Some st)) a asked me = root_rises m st (root_at tr u.node m) refl a asked me
  input_rises (inputs.Message m) a asked me = exec_rises m a asked me
  input_rises (inputs.Call m None) a asked me = absurd cc
  input_rises (inputs.GiveUp m) a asked me = absurd cc
  input_rises inputs.Reco a asked me = absurd cc
  input_rises inputs.Checkpoint a asked me = absurd cc

  pub run_rises : (answer : Option Answer) → runs_for s (run_in f tr u) answer ≡ true → s.taken < taken_after u.node s u.input
  unfolding run_in
  run_rises answer runs = by_cut u.cut runs
    where
      by_table : (a : Asking) → asks tr u.node u.input ≡ Some a → (o : Option Table) → runs_for s (run_at_table tr.moment a o) answer ≡ true → s.taken < taken_after u.node s u.input
      by_table a asked None runs = absurd cc
      by_table a asked (Some tb) runs = input_rises u.input a asked (and_parts (same a.branch.me s.me) (is_accepted answer) runs).0

      by_asking : (o : Option Asking) → asks tr u.node u.input ≡ o → runs_for s (run_by f tr u.node o) answer ≡ true → s.taken < taken_after u.node s u.input
      by_asking None asked runs = absurd cc
      by_asking (Some a) asked runs = by_table a asked (table_by f u.node (bare_name (ref_of a.statement))) runs

      by_cut : (cut : Bool) → runs_for s (if cut then None else run_by f tr u.node (asks tr u.node u.input)) answer ≡ true → s.taken < taken_after u.node s u.input
      by_cut true runs = absurd cc
      by_cut false runs = by_asking (asks tr u.node u.input) refl runs

-- ---- the runs after a turn

-- a branch does not go back to a lower step
abbrev pub NotBelow : ℕ → Option ℕ → Type 0
NotBelow step None = Unit {0}
NotBelow step (Some k) = step ≤ k

module _ (book : List Entry) (s : Seen) (c : ℕ) (low : c ≤ s.taken) where
  pub ran_stays : (q : Bool) (step : ℕ) (r : Option Run) → (q ≡ true → s.taken < step) → runs_until c (runs_with q book step s r) ≡ runs_until c s.runs
  ran_stays true step (Some r) rises = let up = rises refl in filter_last (λ (x : Ran). nat_le x.step c) s.runs _ (not_until step c (omega (arith, up, low)))
  ran_stays true step None rises = refl
  ran_stays false step r rises = refl

  back_stays : (o : Option ℕ) (rs : List Ran) → NotBelow c o → runs_until c (runs_back o rs) ≡ runs_until c rs
  back_stays None rs above = refl
  back_stays (Some k) rs above = filter_twice (λ (x : Ran). nat_le x.step c) (λ x. nat_le x.step k) (λ x is. (let less = until_is x.step c is in is_up_to x.step k (omega (arith, less, above)))) rs

  pub until_stays : (q : Bool) (step : ℕ) (r : Option Run) (o : Option ℕ) → (q ≡ true → s.taken < step) → NotBelow c o → runs_until c (runs_back o (runs_with q book step s r)) ≡ runs_until c s.runs
  until_stays q step r o rises above = back_stays o (runs_with q book step s r) above ∙ ran_stays q step r rises

-- runs have steps from 1 up to this one
abbrev pub InSteps : ℕ → List Ran → Type 0
InSteps top rs = AllByRecursion (λ r. (1 ≤ r.step) × (r.step ≤ top)) rs

module _ (book : List Entry) (s : Seen) (steps : InSteps s.taken s.runs) where
  higher_steps : (step : ℕ) → s.taken ≤ step → InSteps step s.runs
  higher_steps step more = all_weaker (λ (r : Ran). (1 ≤ r.step) × (r.step ≤ s.taken)) (λ r. (1 ≤ r.step) × (r.step ≤ step)) (λ r so. (so.0, (let low = so.1 in omega (arith, low, more)))) s.runs steps

  ran_in_steps : (q : Bool) (step : ℕ) (r : Option Run) → s.taken ≤ step → (q ≡ true → s.taken < step) → InSteps step (runs_with q book step s r)
  ran_in_steps true step (Some r) more rises = let up = rises refl in all_append (λ (x : Ran). (1 ≤ x.step) × (x.step ≤ step)) s.runs _ (higher_steps step more) ((omega (arith, up), omega arith), tt)
  ran_in_steps true step None more rises = higher_steps step more
  ran_in_steps false step r more rises = higher_steps step more

  pub in_steps_after : (q : Bool) (step : ℕ) (r : Option Run) (o : Option ℕ) → s.taken ≤ step → (q ≡ true → s.taken < step) → InSteps step (runs_back o (runs_with q book step s r))
  in_steps_after q step r None more rises = ran_in_steps q step r more rises
  in_steps_after q step r (Some k) more rises = all_filter (λ (x : Ran). (1 ≤ x.step) × (x.step ≤ step)) (λ x. (1 ≤ x.step) × (x.step ≤ step)) (λ x. nat_le x.step k) (λ x passes so. so) (runs_with q book step s r) (ran_in_steps q step r more rises)

-- so all of them are up to that step
pub until_all : (top : ℕ) (rs : List Ran) → InSteps top rs → runs_until top rs ≡ rs
until_all top rs steps = filter_all (λ r. nat_le r.step top) rs (all_weaker (λ (r : Ran). (1 ≤ r.step) × (r.step ≤ top)) (λ r. nat_le r.step top ≡ true) (λ r so. is_up_to r.step top so.1) rs steps)
