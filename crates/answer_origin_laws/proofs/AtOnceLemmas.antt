-- In every lawful run a client's statement that is answered in the turn that it comes to, and not with a refusal, ran in that turn.
use Rattle.std.specs.Prelude.{IfSome, is_some}
use Rattle.std.proofs.Common.{◌≡◌, ℕ, ◌==◌, ◌&&◌, Bool, true, false, if◌then◌else◌, find, is_none, List, [], ◌∷◌, ◌++◌, length, Option, Some, None, refl, sym, ap, subst, ◌∙◌, arith}
use Rattle.std.proofs.lemmas.Bool.{and_parts, eqb-true, eq-eqb}
use Rattle.tran_ids.proofs.ListedLemmas.{item_is}
use Rattle.redo_record.specs.Durable.{durable}
use Rattle.node_rules.proofs.StandLemmas.{branch_is}
use Rattle.node_rules.specs.Data.{Answer, BranchId, Live, Place, Refusal, Stmt, Table, TableRef}
use Rattle.node_rules.specs.Data.answers
use Rattle.node_rules.specs.Data.inputs
use Rattle.node_rules.specs.Data.stmts
use Rattle.node_rules.specs.declared.session.Finished.{Finished}
use Rattle.node_rules.specs.declared.session.PendingCall.TheVariants as pending
use Rattle.node_rules.specs.declared.session.Session.{Session}
use Rattle.node_rules.specs.Inputs.{IsSession}
use Rattle.node_rules.specs.NodeState.{NodeState, Branch, TurnDraft, TurnOutput}
use Rattle.node_rules.specs.Refusals.{dtx}
use Rattle.node_rules.specs.Names.{is_write, Way, Runs_here, Over, Through, Nowhere_to, A_table, named_by, table_of, ref_of, way_of}
use Rattle.node_rules.specs.Sessions.{session_at, with_call}
use Rattle.node_rules.specs.Statement.{ran, after_run}
use Rattle.node_rules.specs.Calls.{answered_sessions, answer_ends, goes, statement_at}
use Rattle.node_rules.specs.Client.{new_root, begun_by, begun, refuses, root_by, root_at, statement_by, statement_call, call_turn}
use Rattle.node_rules.specs.Turn.{turn_of, draft_of}
use Rattle.run_rules.specs.Branches.{Run, Seen, Trail, seen_id, is_live, is_live_at, is_root_of, root_at as told_root}
use Rattle.run_rules.specs.Data.{Turn, Happening}
use Rattle.run_rules.specs.Data.happenings
use Rattle.run_rules.specs.Facts.{Facts, records_at, served, outcome_at}
use Rattle.run_rules.specs.Lawful.{History, IsLawfulRun}
use Rattle.run_claims.specs.Places.{LeadsTo, Runs_here as Runs_there, catalog_at}
use Rattle.run_rules.specs.Runs.{asks, asks_root, bare_name, table_by, run_at_table, run_by, run_in, ended_answer, replied_answer, answer_or, answered_by, begins_transaction, is_of_rows, is_accepted}
use Rattle.run_rules.specs.Trail.{back_in, origin_by, next_root, root_seen, with_begun, roots_begun, children_begun, begun_in_turn, trail_after}
use Rattle.run_base_laws.proofs.RestRunLemmas.{NodeRests, run_roots}
use Rattle.run_base_laws.proofs.RootLemmas.{RootsFit, SessionsFit, begun_so, counted_so, counted_session}
use Rattle.run_base_laws.proofs.StoredLemmas.{records_are_kept}
use Rattle.tree_laws.proofs.PrefixLemmas.{so_far, f_at}
use Rattle.tree_trail_laws.specs.SeenLaws.{IsSeenRoot}
use Rattle.tree_trail_laws.proofs.CallLemmas.{call_free}
use Rattle.tree_trail_laws.proofs.OwnLiveLemmas.{root_there}
use Rattle.tree_trail_laws.proofs.MomentLemmas.{tr_at, by_moment}
use Rattle.tree_trail_laws.proofs.PlanLemmas.{find_more, find_last, find_passes}
use Rattle.answer_origin_laws.specs.LeadLaws.{CallAnsweredBy, IsTracedFor, EndsInItsTurn, CallsEndAtOnce}
use Rattle.answer_origin_laws.proofs.CatalogLemmas.{catalog}
use Rattle.answer_origin_laws.proofs.ExecLemmas.{way_table}
use Rattle.answer_origin_laws.proofs.EndedRootLemmas.{Freed, call_freed, roots_told, next_told, root_after}
use Rattle.answer_origin_laws.proofs.RootToldLemmas.{root_brought}
use Rattle.answer_origin_laws.proofs.NameLemmas.{catalog_kept, same_names, table_at}
use Rattle.answer_origin_laws.proofs.ReplyStandLemmas.{happens_at, prefix, moment_at, ran_there}
use Rattle.tree_laws.proofs.AtTurn.{at_turn}

-- ---- what the node does

module _ (p : Place) (k : NodeState) (n : ℕ) (m : ℕ) (a : Answer) (good : is_accepted (Some a) ≡ true) (more : List Finished) where
  abbrev Ends : TurnDraft → Type 0
  Ends d = d.ended ≡ (record { session = m; answer = a }) ∷ more

  rows_turn : (s : Stmt) → is_of_rows s ≡ true → call_turn p k n s ≡ statement_call p (begun p k n) n s
  rows_turn (stmts.Insert table columns given) is = refl
  rows_turn (stmts.Update table sets cs) is = refl
  rows_turn (stmts.Delete table cs) is = refl
  rows_turn (stmts.Select list table cs for_update) is = refl
  rows_turn _ is = absurd cc

  refused_not : (r : Refusal) (session : ℕ) → (record { session = session; answer = answers.Refused r }) ∷ [] ≡ (record { session = m; answer = a }) ∷ more → ⊥
  refused_not r session ended =
      let both : (record { session = session; answer = answers.Refused r }) ∷ [] ≡ (record { session = m; answer = a }) ∷ more = ended in
      let it : record { session = session; answer = answers.Refused r } ≡ record { session = m; answer = a } = cc in
      let one : answers.Refused r ≡ a = ap (λ (x : Finished). x.answer) it in
      let none : is_accepted (Some a) ≡ false = ap (λ y. is_accepted (Some y)) (sym one) in
      cc (none, good)

  nowhere_not : (x : Branch) (r : Refusal) (o : Option BranchId) → answer_ends x.live (answers.Refused r) o ≡ (record { session = m; answer = a }) ∷ more → ⊥
  nowhere_not x r None ended = refused_not r x.live.me.session ended
  nowhere_not x r (Some up) ended = absurd cc

  module _ (j : NodeState) (s : Stmt) where
    by_way : (x : Branch) (way : Way) → way_of p j.stored.durable x.live 0 s ≡ way → Ends (goes p j x s 0 way) → (table : Table) × (named_by j.stored.durable (ref_of s) ≡ A_table table)
    by_way x (Runs_here t) at ended = (t, way_table p j x.live 0 s t at)
    by_way x (Nowhere_to r) at ended = absurd (nowhere_not x r x.live.parent ended)
    by_way x (Over i table) at ended = absurd cc
    by_way x (Through node link table) at ended = absurd cc

    by_root : (code : Option ℕ) (o : Option Branch) → Ends (statement_by p j n s code o) → (table : Table) × (named_by j.stored.durable (ref_of s) ≡ A_table table)
    by_root code None ended = absurd cc
    by_root (Some c) (Some x) ended = absurd (refused_not _ n ended)
    by_root None (Some x) ended = by_allowed (is_some x.live.read_at && is_write s) ended
      where
        by_allowed : (q : Bool) → Ends (if q then refuses j n (dtx 21 []) else statement_at p j x s 0) → (table : Table) × (named_by j.stored.durable (ref_of s) ≡ A_table table)
        by_allowed true at = absurd (refused_not _ n at)
        by_allowed false at = by_way x (way_of p j.stored.durable x.live 0 s) refl at

  -- the root that it runs at is the session's, before and after
  module _ (fits : RootsFit (begun p k n).sessions) (me : BranchId) (has : (session_at (begun p k n).sessions n).root ≡ Some me) where
    answer_frees : (l : Live) (b : Answer) (o : Option BranchId) → l.me ≡ me → (ss : List Session) → ss ≡ (begun p k n).sessions → answer_ends l b o ≡ (record { session = m; answer = a }) ∷ more
        → (m ≡ n) × Freed (answered_sessions ss l o) n me
    answer_frees l b None is ss same ended =
        let its : l.me.session ≡ n = ap (λ (c : BranchId). c.session) is ∙ fits.each n me has in
        let it : (record { session = l.me.session; answer = b }) ∷ [] ≡ (record { session = m; answer = a }) ∷ more = ended in
        let one : record { session = l.me.session; answer = b } ≡ record { session = m; answer = a } = cc in (
          sym (ap (λ (x : Finished). x.session) one) ∙ its,
          subst (λ q. Freed (with_call ss q pending.NoCall) n me) (sym its) (call_freed ss n me (ap (λ ts. (session_at ts n).root) same ∙ has)),
        )
    answer_frees l b (Some up) is ss same ended = absurd cc

    way_frees : (x : Branch) (s : Stmt) (way : Way) → x.live.me ≡ me → Ends (goes p (begun p k n) x s 0 way) → (m ≡ n) × Freed (goes p (begun p k n) x s 0 way).after.sessions n me
    way_frees x s (Runs_here t) is ended = answer_frees (after_run x.live (ran p (begun p k n) x.live.me s t)) _ x.live.parent is (begun p k n).sessions refl ended
    way_frees x s (Nowhere_to r) is ended = answer_frees x.live (answers.Refused r) x.live.parent is (begun p k n).sessions refl ended
    way_frees x s (Over i table) is ended = absurd cc
    way_frees x s (Through node link table) is ended = absurd cc

    root_frees : (s : Stmt) (code : Option ℕ) (o : Option Branch) → ((x : Branch) → o ≡ Some x → x.live.me ≡ me) → Ends (statement_by p (begun p k n) n s code o) → (m ≡ n) × Freed (statement_by p (begun p k n) n s code o).after.sessions n me
    root_frees s code None mine ended = absurd cc
    root_frees s (Some c) (Some x) mine ended = absurd (refused_not _ n ended)
    root_frees s None (Some x) mine ended = by (is_some x.live.read_at && is_write s) ended
      where
        by : (q : Bool) → Ends (if q then refuses (begun p k n) n (dtx 21 []) else statement_at p (begun p k n) x s 0)
            → (m ≡ n) × Freed (if q then refuses (begun p k n) n (dtx 21 []) else statement_at p (begun p k n) x s 0).after.sessions n me
        by true at = absurd (refused_not _ n at)
        by false at = way_frees x s (way_of p (begun p k n).stored.durable x.live 0 s) (mine x refl) at

    mine_by : (o : Option BranchId) → o ≡ Some me → (x : Branch) → root_by (begun p k n) o ≡ Some x → x.live.me ≡ me
    mine_by None none x at = absurd cc
    mine_by (Some b) is x at = let here : b ≡ me = cc in branch_is (begun p k n) b x at ∙ here

    pub frees : (s : Stmt) → is_of_rows s ≡ true → Ends (call_turn p k n s) → (m ≡ n) × Freed (call_turn p k n s).after.sessions n me
    frees s rows ended =
        let its = root_frees s (session_at (begun p k n).sessions n).code (root_at (begun p k n) n) (λ x at. mine_by (session_at (begun p k n).sessions n).root has x at) (subst Ends (rows_turn s rows) ended) in
        (its.0, subst (λ (d : TurnDraft). Freed d.after.sessions n me) (sym (rows_turn s rows)) its.1)

  pub its_table : (s : Stmt) → is_of_rows s ≡ true → Ends (call_turn p k n s) → (table : Table) × (named_by k.stored.durable (ref_of s) ≡ A_table table)
  its_table s rows ended =
      let j : NodeState = begun p k n in
      by_root j s (session_at j.sessions n).code (root_at j n) (subst Ends (rows_turn s rows) ended)

-- ---- what is told

module _ (f : Facts) (tr : Trail) (u : Turn) (uncut : u.cut ≡ false) (session : ℕ) (s : Stmt) (call : u.input ≡ inputs.Call session (Some s)) (rows : is_of_rows s ≡ true) where
  -- a statement with a table begins a transaction
  begins_by : (st : Stmt) → is_of_rows st ≡ true → begins_transaction st ≡ true
  begins_by (stmts.Insert table columns given) is = refl
  begins_by (stmts.Update table sets cs) is = refl
  begins_by (stmts.Delete table cs) is = refl
  begins_by (stmts.Select list table cs for_update) is = refl
  begins_by _ is = absurd cc

  -- a session that has none begins one
  pub root_begins : told_root tr u.node session ≡ None → told_root (with_begun f tr u) u.node session ≡ Some (root_seen f u.node s (next_root f tr u.node session))
  root_begins none =
      let b : Seen = root_seen f u.node s (next_root f tr u.node session) in
      let begins : begun_in_turn f tr u ≡ b ∷ [] = ap (λ c. if c then [] else roots_begun f tr u.node u.input ++ children_begun f tr u.input u.sent) uncut
      ∙ (ap (λ i. roots_begun f tr u.node i ++ children_begun f tr i u.sent) call
      ∙ (ap (λ q. (if q && is_none (told_root tr u.node session) then b ∷ [] else []) ++ []) (begins_by s rows) ∙ ap (λ o. (if true && is_none o then b ∷ [] else []) ++ []) none)) in
      let passes : is_root_of u.node session b ≡ true = ap (λ q. (q && true) && (true && (session == session))) (eq-eqb u.node u.node refl) ∙ eq-eqb session session refl in
      ap (λ xs. find (is_root_of u.node session) (tr.seen ++ xs)) begins ∙ find_last (is_root_of u.node session) tr.seen b none passes

  -- the session has a root
  pub its_root : (b : Seen) × (told_root (with_begun f tr u) u.node session ≡ Some b)
  its_root = by (told_root tr u.node session) refl
    where
      by : (o : Option Seen) → told_root tr u.node session ≡ o → (b : Seen) × (told_root (with_begun f tr u) u.node session ≡ Some b)
      by (Some b) at = (b, find_more (is_root_of u.node session) tr.seen (begun_in_turn f tr u) b at)
      by None none = (root_seen f u.node s (next_root f tr u.node session), root_begins none)

  one_root : (b : Seen) → told_root (with_begun f tr u) u.node session ≡ Some b → b.me ≡ its_root.0.me
  one_root b at = let it : Some b ≡ Some its_root.0 = sym at ∙ its_root.1 in let same : b ≡ its_root.0 = cc in ap (λ (y : Seen). y.me) same

  -- it is the one that the session has at its node, once one has begun
  module _ (p : Place) (k : NodeState) (range : IsSession session) (fits : SessionsFit k) (sees : IsSeenRoot tr k (told_root tr u.node session) (session_at k.sessions session).root)
      (next : (session_at k.sessions session).root ≡ None → next_root f tr u.node session ≡ new_root p k session) where
    abbrev Has : Option BranchId → Type 0
    Has r = (session_at (begun_by p k session None r).sessions session).root ≡ Some its_root.0.me

    has_by : (o : Option Seen) → told_root tr u.node session ≡ o → (r : Option BranchId) → (session_at k.sessions session).root ≡ r → IsSeenRoot tr k o r → Has r
    has_by (Some s) told (Some b) has seen = has ∙ ap (λ c. Some c) (sym (item_is seen_id tr.seen b s seen.0) ∙ one_root s (find_more (is_root_of u.node session) tr.seen (begun_in_turn f tr u) s told))
    has_by None told None none seen =
        root_there k.sessions session (new_root p k session) fits.roots range ∙ ap (λ c. Some c) (sym (next none) ∙ one_root (root_seen f u.node s (next_root f tr u.node session)) (root_begins told))
    has_by (Some s) told None has seen = absurd seen
    has_by None told (Some b) has seen = absurd seen

    pub session_has : (session_at (begun p k session).sessions session).root ≡ Some its_root.0.me
    session_has =
        let j : NodeState = begun_by p k session None (session_at k.sessions session).root in
        ap (λ x. x.root) (counted_session j.sessions session session (session_at j.sessions session).root).1 ∙ has_by (told_root tr u.node session) refl (session_at k.sessions session).root refl sees

    fits_by : (r : Option BranchId) → SessionsFit (begun_by p k session None r)
    fits_by (Some b) = record { roots = fits.roots; above = fits.above }
    fits_by None = begun_so k fits p session None

    pub begun_fits : RootsFit (begun p k session).sessions
    begun_fits = (counted_so (begun_by p k session None (session_at k.sessions session).root) (fits_by (session_at k.sessions session).root) session).roots

  module _ (table : Table) (named : named_by (durable (records_at f u.node)) (ref_of s) ≡ A_table table) where
    abbrev pub run : Run
    run = record { moment = tr.moment; branch = its_root.0.me; statement = s; table = table }

    by_name : (ref : TableRef) → (ref.link ≡ None) × (table_of (durable (records_at f u.node)) ref.name ≡ Some table) → table_by f u.node (bare_name ref) ≡ Some table
    by_name ref is = ap (λ o. table_by f u.node (if is_none o then Some ref.name else None)) is.0 ∙ is.1

    pub run_is : run_in f (with_begun f tr u) u ≡ Some run
    unfolding run_in
    run_is =
        let b : Seen = its_root.0 in
        let tr1 : Trail = with_begun f tr u in
        let asked : asks tr1 u.node u.input ≡ Some (record { branch = b; statement = s }) = ap (asks tr1 u.node) call ∙ (ap (asks_root s) its_root.1 ∙ ap (λ q. if q then Some (record { branch = b; statement = s }) else None) rows) in
        ap (λ q. if q then None else run_by f tr1 u.node (asks tr1 u.node u.input)) uncut
        ∙ (ap (run_by f tr1 u.node) asked ∙ ap (run_at_table tr.moment (record { branch = b; statement = s })) (by_name (ref_of s) (table_at (durable (records_at f u.node)) (ref_of s) table named)))

  pub root_parts : (its_root.0.me.node ≡ u.node) × (its_root.0.me.session ≡ session)
  root_parts =
      let b : Seen = its_root.0 in
      let passes : is_root_of u.node session b ≡ true = find_passes (is_root_of u.node session) (with_begun f tr u).seen b its_root.1 in
      let one = and_parts (is_live_at u.node b) (is_none b.parent && (b.me.session == session)) passes in
      (eqb-true b.me.node u.node (and_parts (b.me.node == u.node) (is_live b) one.0).0, eqb-true b.me.session session (and_parts (is_none b.parent) (b.me.session == session) one.1).1)

module _ (t : History) (whole : IsLawfulRun t) (hs : List Happening) (u : Turn) (rest : List Happening) (is : hs ++ happenings.Turn u ∷ rest ≡ t.trace) (uncut : u.cut ≡ false) (o : TurnOutput)
    (outcome : outcome_at t.places (f_at t hs) u ≡ Some o) (session : ℕ) (s : Stmt) (call : u.input ≡ inputs.Call session (Some s)) (rows : is_of_rows s ≡ true)
    (n : ℕ) (a : Answer) (more : List Finished) (ended : o.ended ≡ (record { session = n; answer = a }) ∷ more) (good : is_accepted (Some a) ≡ true) where
  open at_turn t whole hs u rest is use {lawful as lawful0, may, k, p, part as part0}

  draft_ends : (call_turn p k session s).ended ≡ (record { session = n; answer = a }) ∷ more
  unfolding turn_of
  draft_ends =
      let both : Some (turn_of p k u.input) ≡ Some o = sym (ap (served p u.input) may.1.up) ∙ outcome in
      let one_outcome : turn_of p k u.input ≡ o = cc in
      ap (λ input. (draft_of p k input).ended) (sym call) ∙ (ap (λ (y : TurnOutput). y.ended) one_outcome ∙ ended)

  table : (x : Table) × (named_by k.stored.durable (ref_of s) ≡ A_table x)
  table = its_table p k session n a good more s rows draft_ends

  named : named_by (catalog t whole hs u.node) (ref_of s) ≡ A_table table.0
  named = sym (same_names k.stored.durable (catalog t whole hs u.node) (catalog_kept k (records_at (f_at t hs) u.node) (records_are_kept (so_far t hs) lawful0 u.node k may.1.up)) (ref_of s)) ∙ table.1

  abbrev r : Run
  r = run (f_at t hs) (tr_at t hs) u uncut session s call rows table.0 named

  parts : (r.branch.node ≡ u.node) × (r.branch.session ≡ session)
  parts = root_parts (f_at t hs) (tr_at t hs) u uncut session s call rows

  here : length hs ≡ r.moment
  here = sym (moment_at t hs)

  ran_it : run_in (f_at t hs) (with_begun (f_at t hs) (tr_at t hs) u) u ≡ Some r
  ran_it = run_is (f_at t hs) (tr_at t hs) u uncut session s call rows table.0 named

  answered : answered_by (outcome_at t.places (f_at t hs) u) ≡ Some a
  answered = ap answered_by outcome ∙ ap (λ xs. answer_or (ended_answer xs) (replied_answer o.sent)) ended

  leads : LeadsTo t r r.branch s
  leads =
      let catalog_is : catalog_at t r.moment r.branch.node ≡ catalog t whole hs u.node = ap (λ i. catalog_at t i r.branch.node) (sym here) ∙ (ap (λ xs. durable (records_at (f_at t xs) r.branch.node)) (prefix t hs (happenings.Turn u) rest is) ∙ ap (catalog t whole hs) parts.0) in
      Runs_there (ap (λ d. named_by d (ref_of s)) catalog_is ∙ named)

  fits : SessionsFit k
  fits = (subst (λ q. IfSome q NodeRests) may.1.up (run_roots (so_far t hs) lawful0 u.node)).0

  comes : IsSession session × ((session_at k.sessions session).call ≡ pending.NoCall)
  comes = call_free (f_at t hs) k u.node u.input u.took session (Some s) call may.1.comes

  sees : IsSeenRoot (tr_at t hs) k (told_root (tr_at t hs) u.node session) (session_at k.sessions session).root
  sees = roots_told t whole hs part0 u.node k may.1.up session comes.0 comes.1

  next : (session_at k.sessions session).root ≡ None → next_root (f_at t hs) (tr_at t hs) u.node session ≡ new_root p k session
  next none = (next_told t whole hs part0 u.node k may.1.up session comes.0 none).0

  abbrev me : BranchId
  me = (its_root (f_at t hs) (tr_at t hs) u uncut session s call rows).0.me

  freed : (n ≡ session) × Freed (call_turn p k session s).after.sessions session me
  freed = frees p k session n a good more
      (begun_fits (f_at t hs) (tr_at t hs) u uncut session s call rows p k comes.0 fits sees next) me (session_has (f_at t hs) (tr_at t hs) u uncut session s call rows p k comes.0 fits sees next) s rows draft_ends

  seen : (b : Seen) × (told_root (trail_after t.places (f_at t hs) (tr_at t hs) (happenings.Turn u)) u.node session ≡ Some b) × (b.me ≡ me)
  seen = root_after t whole hs u rest is uncut session comes.0 me (subst (λ input. Freed (draft_of p k input).after.sessions session me) (sym call) freed.1)

  answered_so : CallAnsweredBy t (tr_at t hs).moment u.node session r.branch a r
  answered_so = record {
    ran = ran_there t hs u rest is r a refl ran_it answered;
    moment = length hs;
    turn = u;
    there = happens_at t hs (happenings.Turn u) rest is;
    statement = s;
    came = call;
    rows = rows;
    here = refl;
    before = omega (arith, here);
    is_root = parts;
    leads = leads;
    soon = omega (arith, here);
    last = λ j high low w there at q comes_too. absurd (omega (arith, high, low, here));
  }

  told_so : IsTracedFor t.places (f_at t hs) (tr_at t hs) u n r.branch r
  told_so = record {
    seen = seen.0;
    transaction = ap (told_root (trail_after t.places (f_at t hs) (tr_at t hs) (happenings.Turn u)) u.node) freed.0 ∙ seen.1;
    is_me = seen.2;
    origin = root_brought t.places (f_at t hs) (tr_at t hs) u o outcome n a more ended seen.0 (ap (told_root (trail_after t.places (f_at t hs) (tr_at t hs) (happenings.Turn u)) u.node) freed.0 ∙ seen.1)
        ∙ ap (origin_by (with_begun (f_at t hs) (tr_at t hs) u) u (asks (with_begun (f_at t hs) (tr_at t hs) u) u.node u.input) (back_in (with_begun (f_at t hs) (tr_at t hs) u) u (answered_by (outcome_at t.places (f_at t hs) u)))) ran_it;
  }

  pub ran_at_once : (r : Run) × (root : BranchId) × (run_in (f_at t hs) (with_begun (f_at t hs) (tr_at t hs) u) u ≡ Some r) × CallAnsweredBy t (tr_at t hs).moment u.node n root a r × IsTracedFor t.places (f_at t hs) (tr_at t hs) u n root r
  ran_at_once = (r, r.branch, ran_it, subst (λ m. CallAnsweredBy t (tr_at t hs).moment u.node m r.branch a r) (sym freed.0) answered_so, told_so)

pub calls_end_at_once : CallsEndAtOnce
calls_end_at_once t lawful = by_moment t (EndsInItsTurn t) each
  where
    each : (hs : List Happening) (h : Happening) (rest : List Happening) → hs ++ h ∷ rest ≡ t.trace → EndsInItsTurn t t.places (f_at t hs) (tr_at t hs) h
    each hs (happenings.Turn u) rest is = λ uncut o outcome session s call rows n a more ended good. ran_at_once t lawful hs u rest is uncut o outcome session s call rows n a more ended good
    each hs _ rest is = tt
