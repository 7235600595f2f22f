-- What a happening leaves of a branch below a root that has left: it sends no Exec, and is told with the children and the changes that it was told with.
use Rattle.std.proofs.Common.{◌≡◌, ◌≢◌, ℕ, ◌+◌, ◌<◌, ◌≤◌, ◌==◌, ◌&&◌, Bool, true, false, if◌then◌else◌, List, [], ◌∷◌, ◌++◌, map, max, is_none, Option, Some, None, inl, inr, refl, sym, ap, subst, ◌∙◌, arith}
use Rattle.std.specs.Prelude.{nat_lt}
use Rattle.std.proofs.lemmas.Bool.{and_parts, eqb-true}
use Rattle.std.proofs.lemmas.Bool.Decides.{nat_tests}
use Rattle.tran_ids.proofs.BranchLemmas.{equal_from_same}
use Rattle.tran_ids.proofs.ListedLemmas.{item_is}
use Rattle.agreement.specs.Events.{exit}
use Rattle.node_rules.specs.Data.{Advice, Answer, BranchId, Kind, Live, Msg, Stmt, Table, Task, Input}
use Rattle.node_rules.specs.Data.inputs
use Rattle.node_rules.specs.Data.kinds
use Rattle.node_rules.specs.Data.stmts
use Rattle.node_rules.specs.Data.tasks
use Rattle.node_rules.specs.Inputs.{Came}
use Rattle.node_rules.specs.NodeState.{TurnDraft, live_id}
use Rattle.node_rules.specs.Turn.{turn_of, draft_of, stamped}
use Rattle.node_rules.specs.Words.{same, is_item_of, item_at}
use Rattle.run_rules.specs.Branches.{Dropped, Run, Seen, Trail, seen_id, seen_at, root_at, is_root_of, is_live, is_live_at, is_among, with_once}
use Rattle.run_rules.specs.Data.{Entry, Turn, Happening}
use Rattle.run_rules.specs.Data.happenings
use Rattle.run_rules.specs.Facts.{Facts, place_at, node_at}
use Rattle.run_base_laws.specs.InTurnLaws.{post_of, exec_number, newest_exec}
use Rattle.run_rules.specs.Lawful.{IsOwed, History, IsLawfulRun}
use Rattle.run_rules.specs.Runs.{Asking, GoneBack, is_of_rows, is_counted, asks_root, asks_branch, asks_by, asks, table_by, bare_name, run_at_table, run_by, run_in, is_accepted, is_refused, back_of, back_branch, step_of_savepoint, back_root, back_by, goes_back}
use Rattle.node_rules.specs.Names.{ref_of}
use Rattle.run_rules.specs.Trail.{is_exec, children_after, taken_by, taken_after, runs_for, runs_with, runs_back, step_back, back_in, stopped_by, trail_after}
use Rattle.run_base_laws.proofs.EventsStandLemmas.{nodes_are_as_events}
use Rattle.run_base_laws.proofs.OwnLemmas.{all_found}
use Rattle.run_base_laws.proofs.SaidPostLemmas.{posts_of}
use Rattle.run_base_laws.proofs.TurnEventLemmas.{cases_nat}
use Rattle.tree_laws.proofs.PrefixLemmas.{so_far, f_at, e_at, one_on}
use Rattle.tree_laws.proofs.TimeLemmas.{part_lawful, part_on, part_of}
use Rattle.tree_trail_laws.proofs.CallLemmas.{call_free}
use Rattle.tree_trail_laws.proofs.ChildRunLemmas.{tells_at}
use Rattle.tree_trail_laws.proofs.ChildStepLemmas.{stamped_calls}
use Rattle.tree_trail_laws.proofs.ChildTurnLemmas as kids
use Rattle.tree_trail_laws.proofs.MomentLemmas.{tr_at, trail_one_on}
use Rattle.tree_trail_laws.proofs.PlanLemmas.{find_more, find_passes}
use Rattle.tree_trail_laws.proofs.SeenLemmas.{begun, brings, turned, seen_turned, item_mapped}
use Rattle.tree_laws.proofs.AtTurn.{at_turn}

-- ---- Execs

never_none : (b x : BranchId) (cs : List BranchId) (ms : List Msg) → children_after b (x ∷ cs) ms ≡ [] → ⊥
never_none b x cs [] is = cc
never_none b x cs (m ∷ ms) is = by (same m.from b && is_exec m.kind) (is_among m.to (x ∷ cs)) is (λ ds none. never_none b x ds ms none)
  where
    by : (q w : Bool) → children_after b (if q then (if w then x ∷ cs else x ∷ (cs ++ m.to ∷ [])) else x ∷ cs) ms ≡ [] → ((ds : List BranchId) → children_after b (x ∷ ds) ms ≡ [] → ⊥) → ⊥
    by true true it rest = rest cs it
    by true false it rest = rest (cs ++ m.to ∷ []) it
    by false w it rest = rest cs it

no_number : (kind : Kind) → is_exec kind ≡ false → exec_number kind ≡ 0
no_number (kinds.Exec call task) is = absurd cc
no_number _ is = refl

-- whoever gets no child calls nobody
no_call : (b c : BranchId) (ms : List Msg) → children_after b [] ms ≡ [] → newest_exec (map post_of ms) b c ≡ 0
no_call b c [] is = refl
no_call b c (m ∷ ms) is = by (same m.from b) (is_exec m.kind) refl is (no_call b c ms)
  where
    by : (q w : Bool) → is_exec m.kind ≡ w → children_after b (if q && w then with_once [] m.to else []) ms ≡ [] → (children_after b [] ms ≡ [] → newest_exec (map post_of ms) b c ≡ 0)
        → (if q && same m.to c then max (exec_number m.kind) (newest_exec (map post_of ms) b c) else newest_exec (map post_of ms) b c) ≡ 0
    by true true exec it rest = absurd (never_none b m.to [] ms it)
    by false w exec it rest = rest it
    by true false exec it rest = at (same m.to c) (rest it)
      where
        at : (q : Bool) → newest_exec (map post_of ms) b c ≡ 0 → (if q then max (exec_number m.kind) (newest_exec (map post_of ms) b c) else newest_exec (map post_of ms) b c) ≡ 0
        at true none = (let zero_number : exec_number m.kind ≡ 0 = no_number m.kind exec in omega (arith, none, zero_number))
        at false none = none

-- ---- runs

-- a run of another branch adds none
runs_other : (book : List Entry) (step : ℕ) (s : Seen) (r : Run) (answer : Option Answer) → same r.branch s.me ≡ false → runs_with (runs_for s (Some r) answer) book step s (Some r) ≡ s.runs
runs_other book step s r answer other = ap (λ q. runs_with (q && is_accepted answer) book step s (Some r)) other

module _ (f : Facts) (tr : Trail) (u : Turn) (c : BranchId) (s : Seen) (at : seen_at tr c ≡ Some s) (high : 65 ≤ c.session) (call_low : (session : ℕ) (statement : Option Stmt) → u.input ≡ inputs.Call session statement → session ≤ 64)
    (taken : (from : BranchId) (call : ℕ) (task : Task) → Came u.input from c (kinds.Exec call task) → call ≤ s.taken) where
  -- it is no root of a session
  root_far : (n : ℕ) (low : n ≤ 64) (b : Seen) → root_at tr u.node n ≡ Some b → b.me ≡ c → ⊥
  root_far n low b is me =
      let passes = and_parts (is_live_at u.node b) (is_none b.parent && (b.me.session == n)) (find_passes (is_root_of u.node n) tr.seen b is) in
      let session : b.me.session ≡ n = eqb-true b.me.session n (and_parts (is_none b.parent) (b.me.session == n) passes.1).1 in
      let level : b.me.session ≡ c.session = ap (λ (x : BranchId). x.session) me in
      absurd (omega (arith, level, session, low, high))

  -- and no call comes to it that it did not take
  exec_far : (m : Msg) → u.input ≡ inputs.Message m → (call : ℕ) (task : Task) → m.kind ≡ kinds.Exec call task → (b : Seen) → seen_at tr m.to ≡ Some b → (is_live b && nat_lt b.taken call) ≡ true → b.me ≡ c → ⊥
  exec_far m came call task kind b is test me =
      let to : m.to ≡ c = sym (item_is seen_id tr.seen m.to b is) ∙ me in
      let two : Some b ≡ Some s = sym is ∙ (ap (λ x. seen_at tr x) to ∙ at) in
      let here : b ≡ s = cc in
      let more : nat_lt b.taken call ≡ true = (and_parts (is_live b) (nat_lt b.taken call) test).1 in
      let less : b.taken < call = grind (arith, nat_tests, more) in
      let low : call ≤ s.taken = taken m.from call task (record { scn = m.scn; is = came ∙ ap inputs.Message (ap (λ k. record m { kind = k }) kind ∙ ap (λ x. record { from = m.from; to = x; scn = m.scn; kind = kinds.Exec call task }) to) }) in
      let level : b.taken ≡ s.taken = ap (λ (x : Seen). x.taken) here in
      absurd (omega (arith, less, low, level))

  -- ---- statements

  root_other : (n : ℕ) (st : Stmt) (low : n ≤ 64) (o : Option Seen) → root_at tr u.node n ≡ o → (a : Asking) → asks_root st o ≡ Some a → a.branch.me ≡ c → ⊥
  root_other n st low None is a asked me = absurd cc
  root_other n st low (Some b) is a asked me = by (is_of_rows st) asked
    where
      by : (q : Bool) → (if q then Some (record { branch = b; statement = st }) else None) ≡ Some a → ⊥
      by true it =
          let both : Some (record { branch = b; statement = st }) ≡ Some a = it in
          let one : record { branch = b; statement = st } ≡ a = cc in
          root_far n low b is (ap (λ (x : Asking). x.branch.me) one ∙ me)
      by false it = absurd cc

  exec_other : (m : Msg) → u.input ≡ inputs.Message m → (call given : ℕ) (advice : Option Advice) (st : Stmt) → m.kind ≡ kinds.Exec call (tasks.Run given advice st) → (o : Option Seen) → seen_at tr m.to ≡ o → (a : Asking)
      → asks_branch call st o ≡ Some a → a.branch.me ≡ c → ⊥
  exec_other m came call given advice st kind None is a asked me = absurd cc
  exec_other m came call given advice st kind (Some b) is a asked me = by (is_live b && nat_lt b.taken call) refl asked
    where
      by : (q : Bool) → (is_live b && nat_lt b.taken call) ≡ q → (if q then Some (record { branch = b; statement = st }) else None) ≡ Some a → ⊥
      by false test it = absurd cc
      by true test it =
          let both : Some (record { branch = b; statement = st }) ≡ Some a = it in
          let one : record { branch = b; statement = st } ≡ a = cc in
          exec_far m came call (tasks.Run given advice st) kind b is test (ap (λ (x : Asking). x.branch.me) one ∙ me)

  kind_other : (m : Msg) → u.input ≡ inputs.Message m → (kind : Kind) → m.kind ≡ kind → (a : Asking) → asks_by tr m.to kind ≡ Some a → a.branch.me ≡ c → ⊥
  kind_other m came (kinds.Exec call (tasks.Run given advice st)) is a asked me = exec_other m came call given advice st is (seen_at tr m.to) refl a asked me
  kind_other m came (kinds.Exec call (tasks.GoBack keep)) is a asked me = absurd cc
  kind_other m came _ is a asked me = absurd cc

  asks_other : (input : Input) → u.input ≡ input → (a : Asking) → asks tr u.node input ≡ Some a → a.branch.me ≡ c → ⊥
  asks_other (inputs.Call n (Some st)) is a asked me = root_other n st (call_low n (Some st) is) (root_at tr u.node n) refl a asked me
  asks_other (inputs.Call n None) is a asked me = absurd cc
  asks_other (inputs.Message m) is a asked me = kind_other m is m.kind refl a asked me
  asks_other (inputs.GiveUp n) is a asked me = absurd cc
  asks_other inputs.Reco is a asked me = absurd cc
  asks_other inputs.Checkpoint is a asked me = absurd cc

  run_other : (r : Run) → run_in f tr u ≡ Some r → r.branch ≡ c → ⊥
  unfolding run_in
  run_other r is me = by u.cut (asks tr u.node u.input) refl is
    where
      table : (a : Asking) (o : Option Table) → (a.branch.me ≡ c → ⊥) → run_at_table tr.moment a o ≡ Some r → ⊥
      table a None other it = absurd cc
      table a (Some t) other it =
          let both : Some (record { moment = tr.moment; branch = a.branch.me; statement = a.statement; table = t }) ≡ Some r = it in
          let one : record { moment = tr.moment; branch = a.branch.me; statement = a.statement; table = t } ≡ r = cc in
          other (ap (λ (x : Run). x.branch) one ∙ me)

      by : (cut : Bool) (o : Option Asking) → asks tr u.node u.input ≡ o → (if cut then None else run_by f tr u.node o) ≡ Some r → ⊥
      by true o asked it = absurd cc
      by false None asked it = absurd cc
      by false (Some a) asked it = table a (table_by f u.node (bare_name (ref_of a.statement))) (λ its. asks_other u.input refl a asked its) it

  -- ---- going back

  back_so : (b : BranchId) (o : Option ℕ) (g : GoneBack) → back_of b o ≡ Some g → g.branch ≡ b
  back_so b None g is = absurd cc
  back_so b (Some step) g is =
      let both : Some (record { branch = b; step = step }) ≡ Some g = is in
      let one : record { branch = b; step = step } ≡ g = cc in
      sym (ap (λ (x : GoneBack). x.branch) one)

  root_back : (n : ℕ) (name : List ℕ) (low : n ≤ 64) (o : Option Seen) → root_at tr u.node n ≡ o → (g : GoneBack) → back_root name o ≡ Some g → g.branch ≡ c → ⊥
  root_back n name low None is g back me = absurd cc
  root_back n name low (Some b) is g back me = root_far n low b is (sym (back_so b.me (step_of_savepoint name b.savepoints) g back) ∙ me)

  call_back : (n : ℕ) (st : Stmt) (low : n ≤ 64) (answer : Option Answer) (g : GoneBack) → goes_back tr u.node answer (inputs.Call n (Some st)) ≡ Some g → g.branch ≡ c → ⊥
  call_back n (stmts.RollbackTo name) low answer g back me = by (is_refused answer) back
    where
      by : (q : Bool) → (if q then None else back_root name (root_at tr u.node n)) ≡ Some g → ⊥
      by true it = absurd cc
      by false it = root_back n name low (root_at tr u.node n) refl g it me
  call_back n _ low answer g back me = absurd cc

  branch_back : (m : Msg) → u.input ≡ inputs.Message m → (call keep : ℕ) → m.kind ≡ kinds.Exec call (tasks.GoBack keep) → (o : Option Seen) → seen_at tr m.to ≡ o → (g : GoneBack) → back_branch call keep o ≡ Some g → g.branch ≡ c → ⊥
  branch_back m came call keep kind None is g back me = absurd cc
  branch_back m came call keep kind (Some b) is g back me = by (is_live b && nat_lt b.taken call) refl back
    where
      by : (q : Bool) → (is_live b && nat_lt b.taken call) ≡ q → (if q then back_of b.me (Some keep) else None) ≡ Some g → ⊥
      by false test it = absurd cc
      by true test it = exec_far m came call (tasks.GoBack keep) kind b is test (sym (back_so b.me (Some keep) g it) ∙ me)

  message_back : (m : Msg) → u.input ≡ inputs.Message m → (kind : Kind) → m.kind ≡ kind → (g : GoneBack) → back_by tr m.to kind ≡ Some g → g.branch ≡ c → ⊥
  message_back m came (kinds.Exec call (tasks.GoBack keep)) is g back me = branch_back m came call keep is (seen_at tr m.to) refl g back me
  message_back m came (kinds.Exec call (tasks.Run given advice st)) is g back me = absurd cc
  message_back m came _ is g back me = absurd cc

  back_other : (input : Input) → u.input ≡ input → (answer : Option Answer) (g : GoneBack) → goes_back tr u.node answer input ≡ Some g → g.branch ≡ c → ⊥
  back_other (inputs.Call n (Some st)) is answer g back me = call_back n st (call_low n (Some st) is) answer g back me
  back_other (inputs.Call n None) is answer g back me = absurd cc
  back_other (inputs.Message m) is answer g back me = message_back m is m.kind refl g back me
  back_other (inputs.GiveUp n) is answer g back me = absurd cc
  back_other inputs.Reco is answer g back me = absurd cc
  back_other inputs.Checkpoint is answer g back me = absurd cc

  none_back : (answer : Option Answer) → s.me ≡ c → step_back s.me (back_in tr u answer) ≡ None
  none_back answer its = by u.cut
    where
      at_back : (o : Option GoneBack) → goes_back tr u.node answer u.input ≡ o → step_back s.me o ≡ None
      at_back None is = refl
      at_back (Some g) is = apart (same g.branch s.me) refl
        where
          apart : (q : Bool) → same g.branch s.me ≡ q → (if q then Some g.step else None) ≡ None
          apart true here = absurd (back_other u.input refl answer g is (equal_from_same g.branch s.me here ∙ its))
          apart false other = refl

      by : (cut : Bool) → step_back s.me (if cut then None else goes_back tr u.node answer u.input) ≡ None
      by true = refl
      by false = at_back (goes_back tr u.node answer u.input) refl

  -- its runs stay
  pub runs_stay : (answer : Option Answer) (step : ℕ) → s.me ≡ c → runs_back (step_back s.me (back_in tr u answer)) (runs_with (runs_for s (run_in f tr u) answer) f.book step s (run_in f tr u)) ≡ s.runs
  runs_stay answer step its = ap (λ o. runs_back o (runs_with (runs_for s (run_in f tr u) answer) f.book step s (run_in f tr u))) (none_back answer its) ∙ by (run_in f tr u) refl
    where
      by : (o : Option Run) → run_in f tr u ≡ o → runs_with (runs_for s o answer) f.book step s o ≡ s.runs
      by None is = refl
      by (Some r) is = apart (same r.branch s.me) refl
        where
          apart : (q : Bool) → same r.branch s.me ≡ q → runs_with (runs_for s (Some r) answer) f.book step s (Some r) ≡ s.runs
          apart true here = absurd (run_other r is (equal_from_same r.branch s.me here ∙ its))
          apart false other = runs_other f.book step s r answer other

-- ---- what it took

taken_more : (n : ℕ) (s : Seen) (input : Input) → s.taken ≤ taken_after n s input
taken_more n s (inputs.Message m) = by (same m.to s.me && is_live s) m.kind
  where
    kind_more : (kind : Kind) → s.taken ≤ taken_by s.taken kind
    kind_more (kinds.Exec call task) = omega arith
    kind_more _ = omega arith

    by : (q : Bool) (kind : Kind) → s.taken ≤ (if q then taken_by s.taken kind else s.taken)
    by true kind = kind_more kind
    by false kind = omega arith
taken_more n s (inputs.Call session (Some st)) = by (is_root_of n session s && is_counted st)
  where
    by : (q : Bool) → s.taken ≤ (if q then s.taken + 1 else s.taken)
    by true = omega arith
    by false = omega arith
taken_more n s (inputs.Call session None) = omega arith
taken_more n s (inputs.GiveUp session) = omega arith
taken_more n s inputs.Reco = omega arith
taken_more n s inputs.Checkpoint = omega arith

-- It is told as before, and has taken no fewer calls.
pub record ToldStill (s : Seen) (tr : Trail) (c : BranchId) : Type 0 where
  pub seen : Seen
  pub at : seen_at tr c ≡ Some seen
  pub children : seen.children ≡ s.children
  pub runs : seen.runs ≡ s.runs
  pub strength : seen.strength ≡ s.strength
  pub taken : s.taken ≤ seen.taken

module _ (t : History) (whole : IsLawfulRun t) (hs : List Happening) (c : BranchId) (high : 65 ≤ c.session) where
  -- a stop
  stopped_so : (n : ℕ) (s : Seen) → ((stopped_by n s).me ≡ s.me) × ((stopped_by n s).children ≡ s.children) × ((stopped_by n s).runs ≡ s.runs) × ((stopped_by n s).strength ≡ s.strength) × ((stopped_by n s).taken ≡ s.taken)
  stopped_so n s = by (is_live_at n s)
    where
      by : (q : Bool) → ((if q then record s { exit = Some Dropped } else s).me ≡ s.me) × ((if q then record s { exit = Some Dropped } else s).children ≡ s.children) × ((if q then record s { exit = Some Dropped } else s).runs ≡ s.runs)
          × ((if q then record s { exit = Some Dropped } else s).strength ≡ s.strength) × ((if q then record s { exit = Some Dropped } else s).taken ≡ s.taken)
      by true = (refl, refl, refl, refl, refl)
      by false = (refl, refl, refl, refl, refl)

  module _ (u : Turn) (rest : List Happening) (is : hs ++ happenings.Turn u ∷ rest ≡ t.trace) (left : exit (e_at t (hs ++ happenings.Turn u ∷ [])) c ≢ None) where
    open at_turn t whole hs u rest is use {h, part}

    abbrev d : TurnDraft
    d = draft_of (place_at t.places u.node) (kids.may t whole hs u rest is (tells_at t whole hs part)).0 u.input

    -- it is not live afterwards
    none_after : u.cut ≡ false → c.node ≡ u.node → (o : Option Live) → item_at live_id d.after.lives c ≡ o → o ≡ None
    none_after cut node None at = refl
    none_after cut node (Some l) at =
        let up : node_at (f_at t (hs ++ h ∷ [])) u.node ≡ Some d.after = ap (λ f. node_at f u.node) (one_on t hs h) ∙ kids.after_up t whole hs u rest is (tells_at t whole hs part) cut in
        let clean : exit (e_at t (hs ++ h ∷ [])) l.me ≡ None
        = all_found (λ (y : Live). exit (e_at t (hs ++ h ∷ [])) y.me ≡ None) live_id d.after.lives c l
        (nodes_are_as_events (so_far t (hs ++ h ∷ [])) (part_lawful t whole (hs ++ h ∷ []) (part_on t whole hs h rest is)) u.node d.after up).0 at in
        absurd (left (subst (λ b. exit (e_at t (hs ++ h ∷ [])) b ≡ None) (item_is live_id d.after.lives c l at) clean))

    -- it gets no child
    children_stay : (cs : List BranchId) → children_after c cs u.sent ≡ cs
    unfolding turn_of
    children_stay cs = elim (cases_nat c.node u.node) [
      | inr other ↦ kids.silent_else t whole hs u rest is (tells_at t whole hs part) c cs other
      | inl node ↦ by node u.cut refl
    ]
      where
        owed : (cut : Bool) → u.cut ≡ cut → IsOwed (place_at t.places u.node) (kids.may t whole hs u rest is (tells_at t whole hs part)).0 u.input u.wrote u.sent cut
        owed cut is_cut = subst (λ q. IsOwed (place_at t.places u.node) (kids.may t whole hs u rest is (tells_at t whole hs part)).0 u.input u.wrote u.sent q) is_cut (kids.may t whole hs u rest is (tells_at t whole hs part)).1.owed

        sent_so : u.cut ≡ false → u.sent ≡ map (stamped d.after.clock) d.says
        sent_so cut = (owed false cut).1

        by : c.node ≡ u.node → (cut : Bool) → u.cut ≡ cut → children_after c cs u.sent ≡ cs
        by node true cut = ap (children_after c cs) (owed true cut).1
        by node false cut =
            ap (children_after c cs) (sent_so cut) ∙ (stamped_calls c d.after.clock cs d.says
            ∙ (kids.grown t whole hs u rest is (tells_at t whole hs part)).1 c cs (none_after cut node (item_at live_id d.after.lives c) refl))

  module _ (h : Happening) (rest : List Happening) (is : hs ++ h ∷ rest ≡ t.trace) (left : exit (e_at t (hs ++ h ∷ [])) c ≢ None) where
    -- it calls nobody
    pub calls_none : (e : BranchId) → newest_exec (posts_of h) c e ≡ 0
    calls_none e = by h refl
      where
        by : (x : Happening) → h ≡ x → newest_exec (posts_of x) c e ≡ 0
        by (happenings.Turn u) one =
            no_call c e u.sent (children_stay u rest (subst (λ y. hs ++ y ∷ rest ≡ t.trace) one is) (subst (λ y. exit (e_at t (hs ++ y ∷ [])) c ≢ None) one left) [])
        by (happenings.Stopped n) one = refl
        by (happenings.Started n boot) one = refl
        by (happenings.Begun n) one = refl
        by (happenings.Cut x y) one = refl
        by (happenings.Join x y) one = refl
        by (happenings.Lost n) one = refl

    pub told_still : (s : Seen) → seen_at (tr_at t hs) c ≡ Some s → ((u : Turn) (from : BranchId) (call : ℕ) (task : Task) → h ≡ happenings.Turn u → Came u.input from c (kinds.Exec call task) → call ≤ s.taken)
        → ToldStill s (tr_at t (hs ++ h ∷ [])) c
    unfolding trail_after
    told_still s at taken = subst (λ x. ToldStill s x c) (sym (trail_one_on t hs h)) (by h refl)
      where
        me : s.me ≡ c
        me = item_is seen_id (tr_at t hs).seen c s at

        same_trail : (x : Happening) → seen_at (trail_after t.places (f_at t hs) (tr_at t hs) x) c ≡ seen_at (tr_at t hs) c → ToldStill s (trail_after t.places (f_at t hs) (tr_at t hs) x) c
        same_trail x same_one = record { seen = s; at = same_one ∙ at; children = refl; runs = refl; strength = refl; taken = omega arith }

        by : (x : Happening) → h ≡ x → ToldStill s (trail_after t.places (f_at t hs) (tr_at t hs) x) c
        by (happenings.Turn u) one =
            let its : hs ++ happenings.Turn u ∷ rest ≡ t.trace = subst (λ y. hs ++ y ∷ rest ≡ t.trace) one is in
            let gone : exit (e_at t (hs ++ happenings.Turn u ∷ [])) c ≢ None = subst (λ y. exit (e_at t (hs ++ y ∷ [])) c ≢ None) one left in
            let may = kids.may t whole hs u rest its (tells_at t whole hs (part_of t whole hs (happenings.Turn u) rest its)) in
            record {
              seen = turned t.places (f_at t hs) (tr_at t hs) u s;
              at = seen_turned t.places (f_at t hs) (tr_at t hs) u c s at;
              children = ap (λ b. children_after b s.children u.sent) me ∙ children_stay u rest its gone s.children;
              runs = runs_stay (f_at t hs) (begun t.places (f_at t hs) (tr_at t hs) u) u c s (find_more (is_item_of seen_id c) (tr_at t hs).seen _ s at) high
                  (λ n st call. (call_free (f_at t hs) may.0 u.node u.input u.took n st call may.1.comes).0.1) (λ from call task came. taken u from call task one came) (brings t.places (f_at t hs) (tr_at t hs) u).answer (taken_after u.node s u.input) me;
              strength = refl;
              taken = taken_more u.node s u.input;
            }
        by (happenings.Stopped n) one =
            let so = stopped_so n s in
            record { seen = stopped_by n s; at = item_mapped seen_id (stopped_by n) (λ x. (stopped_so n x).0) (tr_at t hs).seen c s at; children = so.1; runs = so.2; strength = so.3; taken = omega (arith, so.4) }
        by (happenings.Started n boot) one = same_trail (happenings.Started n boot) refl
        by (happenings.Begun n) one = same_trail (happenings.Begun n) refl
        by (happenings.Cut x y) one = same_trail (happenings.Cut x y) refl
        by (happenings.Join x y) one = same_trail (happenings.Join x y) refl
        by (happenings.Lost n) one = same_trail (happenings.Lost n) refl
