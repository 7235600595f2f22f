-- What a turn tells of a live branch below a root to which an Exec or a Reply comes: the call that it has taken, the run that its answer comes from.
use Rattle.std.proofs.Common.{◌≡◌, ◌≢◌, ℕ, ◌+◌, ◌<◌, ◌≤◌, ◌==◌, ◌&&◌, ◌||◌, Bool, true, false, if◌then◌else◌, is_none, List, [], ◌∷◌, ◌++◌, map, length, max, Option, Some, None, refl, ap, subst, ◌∙◌, arith}
use Rattle.std.specs.Prelude.{find, nat_lt}
use Rattle.std.specs.List.{AllByRecursion, list_any}
use Rattle.std.proofs.lemmas.Bool.{and_left, and_right}
use Rattle.std.proofs.lemmas.Bool.Decides.{nat_tests}
use Rattle.tran_ids.proofs.BranchLemmas.{equal_from_same, same_from_equal}
use Rattle.redo_record.specs.Durable.{durable}
use Rattle.node_rules.specs.Data.{Table, TableRef, Stmt, Task, Answer, Advice, BranchId, Kind, Msg, Input, Post}
use Rattle.node_rules.specs.declared.session.Finished.{Finished}
use Rattle.node_rules.specs.Data.inputs
use Rattle.node_rules.specs.Data.kinds
use Rattle.node_rules.specs.Data.tasks
use Rattle.node_rules.specs.Words.{same}
use Rattle.node_rules.specs.Inputs.{Came}
use Rattle.node_rules.specs.Names.{A_table, named_by, table_of, ref_of}
use Rattle.node_rules.specs.Turn.{stamped}
use Rattle.node_rules.specs.NodeState.{post}
use Rattle.run_rules.specs.Branches.{Run, Seen, Trail, Origin, is_live, is_live_at, is_root_of, seen_at, origin_at, origin_of}
use Rattle.run_rules.specs.Data.{Took, Turn}
use Rattle.run_rules.specs.Facts.{Facts, records_at}
use Rattle.run_rules.specs.Runs.{asks_branch, asks, is_counted, back_of, back_branch, goes_back, bare_name, table_by, run_at_table, run_by, run_in, replied_answer, answer_or, ended_answer}
use Rattle.run_rules.specs.Trail.{is_reply, taken_by, taken_after, last_answer, brought, back_in, origin_by, origins_of}
use Rattle.tree_trail_laws.proofs.PlanLemmas.{find_last}
use Rattle.answer_origin_laws.proofs.NameLemmas.{table_at}

-- ---- the call that a branch has taken

-- a branch below a root is the root of no session
below_root : (n session : ℕ) (s : Seen) → s.parent ≢ None → is_root_of n session s ≡ false
below_root n session s below = and_right (is_live_at n s) (is_none s.parent && (s.me.session == session)) (and_left (is_none s.parent) (s.me.session == session) (some s.parent below))
  where
    some : (o : Option BranchId) → o ≢ None → is_none o ≡ false
    some None other = absurd (other refl)
    some (Some b) other = refl

module _ (n : ℕ) (s : Seen) (below : s.parent ≢ None) where
  low_taken : (kind : Kind) → ((call : ℕ) (task : Task) → kind ≡ kinds.Exec call task → call ≤ s.taken) → taken_by s.taken kind ≡ s.taken
  low_taken (kinds.Exec call task) low = let less : call ≤ s.taken = low call task refl in (let it : max s.taken call ≡ s.taken = omega (arith, less) in it)
  low_taken _ low = refl

  -- nothing new comes to it
  pub taken_still : (input : Input) → ((from : BranchId) (call : ℕ) (task : Task) → Came input from s.me (kinds.Exec call task) → call ≤ s.taken) → taken_after n s input ≡ s.taken
  taken_still (inputs.Message m) low = by (same m.to s.me) refl
    where
      by : (q : Bool) → same m.to s.me ≡ q → (if q && is_live s then taken_by s.taken m.kind else s.taken) ≡ s.taken
      by false other = refl
      by true here =
          let still : taken_by s.taken m.kind ≡ s.taken = low_taken m.kind (λ call task is. low m.from call task
          (subst (λ b. Came (inputs.Message m) m.from b (kinds.Exec call task)) (equal_from_same m.to s.me here) (record { scn = m.scn; is = ap (λ kind. inputs.Message (record { from = m.from; to = m.to; scn = m.scn; kind = kind })) is }))) in
          live (is_live s) still
        where
          live : (q : Bool) → taken_by s.taken m.kind ≡ s.taken → (if true && q then taken_by s.taken m.kind else s.taken) ≡ s.taken
          live true still = still
          live false still = refl
  taken_still (inputs.Call session (Some st)) low = ap (λ q. if q && is_counted st then s.taken + 1 else s.taken) (below_root n session s below)
  taken_still (inputs.Call session None) low = refl
  taken_still (inputs.GiveUp session) low = refl
  taken_still inputs.Reco low = refl
  taken_still inputs.Checkpoint low = refl

  -- a call comes to it
  pub taken_new : (input : Input) (from : BranchId) (call : ℕ) (task : Task) → Came input from s.me (kinds.Exec call task) → s.exit ≡ None → s.taken ≤ call → taken_after n s input ≡ call
  taken_new input from call task came live low =
      ap (taken_after n s) came.is ∙ (ap (λ q. if q && is_live s then max s.taken call else s.taken) (same_from_equal s.me s.me refl) ∙ (ap (λ o. if true && is_none o then max s.taken call else s.taken) live ∙ (let it : max s.taken call ≡ call = omega (arith, low) in it)))

-- ---- whether it answers

pub said_on : (b : BranchId) (scn : ℕ) (says : List Post) → list_any (λ (m : Msg). same m.from b && is_reply m.kind) (map (stamped scn) says) ≡ list_any (λ (x : Post). same x.from b && is_reply x.kind) says
said_on b scn [] = refl
said_on b scn (x ∷ xs) = ap (λ q. (same x.from b && is_reply x.kind) || q) (said_on b scn xs)

pub says_one : (b to : BranchId) (call : ℕ) (weight : Option ℕ) (count : ℕ) (a : Answer) → list_any (λ (x : Post). same x.from b && is_reply x.kind) (post b to (kinds.Reply call weight count a)) ≡ true
says_one b to call weight count a = ap (λ q. (q && true) || false) (same_from_equal b b refl)

-- a branch below a root ends no call
pub ends_none : (n : ℕ) (s : Seen) → s.parent ≢ None → (xs : List Finished) → list_any (λ (x : Finished). is_root_of n x.session s) xs ≡ false
ends_none n s below [] = refl
ends_none n s below (x ∷ xs) = ap (λ q. q || list_any (λ (y : Finished). is_root_of n y.session s) xs) (below_root n x.session s below) ∙ ends_none n s below xs

-- the answer in one Reply
pub replied_one : (o : Option Answer) (scn : ℕ) (b to : BranchId) (call : ℕ) (weight : Option ℕ) (count : ℕ) (a : Answer) → answer_or (ended_answer []) (replied_answer (map (stamped scn) (post b to (kinds.Reply call weight count a)))) ≡ Some a
replied_one o scn b to call weight count a = refl

-- ---- the run that it comes from

module _ (f : Facts) (tr : Trail) (u : Turn) (answer : Option Answer) (whole : u.cut ≡ false) where
  -- no statement comes
  none_runs : asks tr u.node u.input ≡ None → run_in f tr u ≡ None
  unfolding run_in
  none_runs none = ap (λ q. if q then None else run_by f tr u.node (asks tr u.node u.input)) whole ∙ ap (run_by f tr u.node) none

  -- no branch goes back
  none_back : goes_back tr u.node answer u.input ≡ None → back_in tr u answer ≡ None
  none_back none = ap (λ q. if q then None else goes_back tr u.node answer u.input) whole ∙ none

  abbrev pub origin : Option Run
  origin = origin_by tr u (asks tr u.node u.input) (back_in tr u answer) (run_in f tr u)

  pub brought_alone : asks tr u.node u.input ≡ None → goes_back tr u.node answer u.input ≡ None → origin ≡ brought tr u.took u.input
  brought_alone none still =
      ap (λ o. origin_by tr u o (back_in tr u answer) (run_in f tr u)) none ∙ (ap (λ g. origin_by tr u None g (run_in f tr u)) (none_back still) ∙ ap (origin_by tr u None None) (none_runs none))

  module _ (from b : BranchId) (s : Seen) (at : seen_at tr b ≡ Some s) (live : s.exit ≡ None) where
    -- a call that comes again
    module _ (call : ℕ) (low : call ≤ s.taken) where
      old : nat_lt s.taken call ≡ false
      old = grind (arith, nat_tests, low)

      none_asked : (task : Task) → Came u.input from b (kinds.Exec call task) → asks tr u.node u.input ≡ None
      none_asked (tasks.Run given advice st) came =
          ap (asks tr u.node) came.is ∙ (ap (asks_branch call st) at ∙ (ap (λ o. if is_none o && nat_lt s.taken call then Some (record { branch = s; statement = st }) else None) live ∙ ap (λ q. if q then Some (record { branch = s; statement = st }) else None) old))
      none_asked (tasks.GoBack keep) came = ap (asks tr u.node) came.is

      none_goes : (task : Task) → Came u.input from b (kinds.Exec call task) → goes_back tr u.node answer u.input ≡ None
      none_goes (tasks.Run given advice st) came = ap (goes_back tr u.node answer) came.is
      none_goes (tasks.GoBack keep) came =
          ap (goes_back tr u.node answer) came.is ∙ (ap (back_branch call keep) at ∙ (ap (λ o. if is_none o && nat_lt s.taken call then back_of s.me (Some keep) else None) live ∙ ap (λ q. if q then back_of s.me (Some keep) else None) old))

      pub again_brings : (task : Task) → Came u.input from b (kinds.Exec call task) → (took : Took) → u.took ≡ Some took → origin ≡ s.answer
      again_brings task came took is =
          brought_alone (none_asked task came) (none_goes task came) ∙ (ap (λ o. brought tr o u.input) is ∙ (ap (brought tr (Some took)) came.is ∙ (ap last_answer at ∙ ap (λ o. if is_none o then s.answer else None) live)))

    module _ (call given : ℕ) (advice : Option Advice) (st : Stmt) (came : Came u.input from b (kinds.Exec call (tasks.Run given advice st))) where
      asked : asks tr u.node u.input ≡ (if nat_lt s.taken call then Some (record { branch = s; statement = st }) else None)
      asked = ap (asks tr u.node) came.is ∙ (ap (asks_branch call st) at ∙ ap (λ o. if is_none o && nat_lt s.taken call then Some (record { branch = s; statement = st }) else None) live)

      -- one that runs
      abbrev pub runs : Table → Run
      runs table = record { moment = tr.moment; branch = s.me; statement = st; table = table }

      module _ (table : Table) (named : named_by (durable (records_at f u.node)) (ref_of st) ≡ A_table table) (new : s.taken < call) where
        its_table : (ref : TableRef) → (ref.link ≡ None) × (table_of (durable (records_at f u.node)) ref.name ≡ Some table) → table_by f u.node (bare_name ref) ≡ Some table
        its_table ref is = ap (λ o. table_by f u.node (if is_none o then Some ref.name else None)) is.0 ∙ is.1

        pub run_is : run_in f tr u ≡ Some (runs table)
        unfolding run_in
        run_is =
            let is_new : nat_lt s.taken call ≡ true = grind (arith, nat_tests, new) in
            let some : asks tr u.node u.input ≡ Some (record { branch = s; statement = st }) = asked ∙ ap (λ q. if q then Some (record { branch = s; statement = st }) else None) is_new in
            ap (λ q. if q then None else run_by f tr u.node (asks tr u.node u.input)) whole ∙ (ap (run_by f tr u.node) some ∙ ap (run_at_table tr.moment (record { branch = s; statement = st })) (its_table (ref_of st) (table_at (durable (records_at f u.node)) (ref_of st) table named)))

        pub run_brings : origin ≡ Some (runs table)
        run_brings = ap (origin_by tr u (asks tr u.node u.input) (back_in tr u answer)) run_is

  -- a Reply brings its run
  pub reply_brings : (from b : BranchId) (call : ℕ) (weight : Option ℕ) (count : ℕ) (a : Answer) → Came u.input from b (kinds.Reply call weight count a) → (took : Took) → u.took ≡ Some took → origin ≡ origin_at tr took.number
  reply_brings from b call weight count a came took is =
      brought_alone (ap (asks tr u.node) came.is) (ap (goes_back tr u.node answer) came.is) ∙ (ap (λ o. brought tr o u.input) is ∙ ap (brought tr (Some took)) came.is)

-- ---- the origins of Replies

module _ {A : Type 0} where
  -- the run of one more Reply
  pub all_low : (P : A → Type 0) (test : A → Bool) (xs : List A) → AllByRecursion P xs → ((x : A) → P x → test x ≡ false) → find test xs ≡ None
  all_low P test [] all never = refl
  all_low P test (x ∷ xs) all never = ap (λ q. if q then Some x else find test xs) (never x all.0) ∙ all_low P test xs all.1 never

pub origins_low : (k : ℕ) (o : Option Run) (ms : List Msg) → AllByRecursion (λ (x : Origin). (k ≤ x.message) × (x.message + 1 ≤ k + length ms)) (origins_of k o ms)
origins_low k None ms = tt
origins_low k (Some r) [] = tt
origins_low k (Some r) (m ∷ ms) = by (is_reply m.kind) (origins_low (k + 1) (Some r) ms)
  where
    more : (xs : List Origin) → AllByRecursion (λ (x : Origin). (k + 1 ≤ x.message) × (x.message + 1 ≤ (k + 1) + length ms)) xs → AllByRecursion (λ (x : Origin). (k ≤ x.message) × (x.message + 1 ≤ k + length (m ∷ ms))) xs
    more [] all = tt
    more (x ∷ xs) all = ((omega (arith, all.0.0), omega (arith, all.0.1)), more xs all.1)

    by : (q : Bool) → AllByRecursion (λ (x : Origin). (k + 1 ≤ x.message) × (x.message + 1 ≤ (k + 1) + length ms)) (origins_of (k + 1) (Some r) ms)
        → AllByRecursion (λ (x : Origin). (k ≤ x.message) × (x.message + 1 ≤ k + length (m ∷ ms))) (if q then (record { message = k; run = r }) ∷ origins_of (k + 1) (Some r) ms else origins_of (k + 1) (Some r) ms)
    by true rest = ((omega arith, omega arith), more _ rest)
    by false rest = more _ rest

-- the Reply of a turn that says it alone
pub origin_last : (xs : List Origin) (n : ℕ) (r : Run) (m : Msg) → is_reply m.kind ≡ true → AllByRecursion (λ (x : Origin). x.message ≤ n) xs → origin_of (find (λ (o : Origin). o.message == (n + 1)) (xs ++ origins_of (n + 1) (Some r) (m ∷ []))) ≡ Some r
origin_last xs n r m reply low =
    let its : origins_of (n + 1) (Some r) (m ∷ []) ≡ (record { message = n + 1; run = r }) ∷ [] = ap (λ q. if q then (record { message = n + 1; run = r }) ∷ [] else []) reply in
    ap (λ ys. origin_of (find (λ (o : Origin). o.message == (n + 1)) (xs ++ ys))) its
    ∙ ap origin_of (find_last (λ (o : Origin). o.message == (n + 1)) xs (record { message = n + 1; run = r })
    (all_low (λ (x : Origin). x.message ≤ n) (λ (o : Origin). o.message == (n + 1)) xs low (λ x small. grind (arith, nat_tests, small))) (grind (arith, nat_tests)))
