-- The COMMIT of a CREATE that is quiet is undisturbed, it is complete when its command is done, and the CREATE itself has come.
use Rattle.std.proofs.Common.{◌≡◌, ℕ, ◌+◌, ◌<◌, ◌==◌, ◌&&◌, ◌⊎◌, Bool, true, false, if◌then◌else◌, List, [], ◌∷◌, ◌++◌, filter, length, Option, Some, None, inl, inr, refl, sym, ap, subst, ◌∙◌, append-nil, arith}
use Rattle.std.specs.List.{AllByRecursion}
use Rattle.std.proofs.lemmas.Bool.{eq-eqb}
use Rattle.std.proofs.lemmas.List.{append_assoc}
use Rattle.node_rules.specs.Data.{Answer, Stmt}
use Rattle.node_rules.specs.Data.inputs
use Rattle.node_rules.specs.Data.stmts
use Rattle.node_rules.specs.declared.session.Finished.{Finished}
use Rattle.node_rules.specs.Inputs.{IsCall}
use Rattle.node_rules.specs.NodeState.{NodeState, TurnOutput}
use Rattle.node_rules.specs.Sessions.{commit_complete}
use Rattle.node_rules.specs.Turn.{turn_of}
use Rattle.net_bag.specs.Net.{first_flying}
use Rattle.run_rules.specs.Calls.{is_call_at, call_at, is_complete}
use Rattle.run_rules.specs.Commands.{commits_first}
use Rattle.run_rules.specs.Data.{Happening, Turn}
use Rattle.run_rules.specs.Data.commands
use Rattle.run_rules.specs.Data.happenings
use Rattle.run_rules.specs.Due.{due_of, IsTheRun}
use Rattle.run_rules.specs.Facts.{Facts, command_at, node_at, outcome_at, place_at, served, facts_of}
use Rattle.run_rules.specs.Lawful.{History, IsLawfulRun}
use Rattle.run_rules.specs.Lines.{spent}
use Rattle.run_rules.specs.Past.{is_call, next, past}
use Rattle.run_rules.specs.Reported.{IsBetweenCommands}
use Rattle.run_rules.specs.RunReport.{Call, Past, RunReport, start}
use Rattle.run_rules.specs.Scripts.{IsTheRunOf}
use Rattle.run_rules.proofs.FactLemmas.{facts_are}
use Rattle.run_rules.proofs.ListLemmas.{all_append}
use Rattle.run_base_laws.proofs.PastLemmas.{past_on}
use Rattle.run_ready_laws.proofs.PendingLemmas.{found_so}
use Rattle.tree_laws.proofs.PrefixLemmas.{so_far}
use Rattle.tree_laws.proofs.TimeLemmas.{part_lawful}
use Rattle.answer_origin_laws.proofs.CallAtLemmas.{HasShape, Plain, Commits as Commits_shape, named_so}
use Rattle.answer_origin_laws.proofs.CallTurnLemmas.{what_comes_is_pending}
use Rattle.commit_laws.proofs.CreateLemmas.{create_answers}
use Rattle.commit_leave_laws.proofs.AnswerLemmas.{answers_more}
use Rattle.commit_length_laws.specs.FewLaws.{DeliveriesStayBelow, deliveries_in}
use Rattle.run_claims.specs.Undisturbed.{Commit, Undisturbed, UndisturbedCommitsAreComplete, IsInCourse, is_create, facts_by, answers_in, commit_answers_in, commit_answers_from}
use Rattle.run_claims.specs.CommitCourse.{past_by, GoesWell, CreateIsUnderWay, CreateHasCome, IsDone}
use Rattle.commit_course_laws.specs.CommandCalls.{is_hold}
use Rattle.commit_course_laws.proofs.FlowLemmas.{IsWholeTurn, IsItsCall, Comes, Delivery, Give_up, no_create}
use Rattle.commit_course_laws.proofs.CourseLemmas.{CommandGoes, p, there, upto, due, facts_before, its, shapes, settled, stands, alone, first, first_none, first_run, past_is, end_is, facts_end}
use Rattle.commit_course_laws.proofs.AnsweredLemmas.{IsNoCall}
use Rattle.commit_course_laws.proofs.EarlierLemmas.{all_front}
use Rattle.commit_course_laws.proofs.SoonerLemmas.{StaysCalm, complete_sooner, few_sooner, counted, not_spent, answers_join}
use Rattle.commit_course_laws.proofs.CreateFlowLemmas.{IsOf, IsCreateCall, Stage, Commits, Follows, Created, Refused, said}
use Rattle.commit_course_laws.proofs.CreateStepLemmas.{turn_stage, create_stage, Runs, runs_turn, ComesNext, Goes_on, Second, what_comes, what_is_over}

-- a stage tells of the CREATE what follows from it
more_stage : (node session : ℕ) (s : Stmt) (A B : Type 0) → (A → B) → (told : List Answer) (t : RunReport) → Stage node session s A told t → Stage node session s B told t
more_stage node session s A B f told t (Commits c at follows all none unsaid) = Commits c at follows all none unsaid
more_stage node session s A B f told t (Follows c is create all answered) = Follows c is create all answered
more_stage node session s A B f told t (Created it none alone) = Created (f it) none alone
more_stage node session s A B f told t (Refused a others is incomplete none alone) = Refused a others is incomplete none alone

-- some answers, and no other than one, are that one
one_alone : (xs ys : List Answer) (x : Answer) → xs ++ ys ≡ x ∷ [] → (xs ≡ [] → ⊥) → xs ≡ x ∷ []
one_alone [] ys x is some = absurd (some refl)
one_alone (y ∷ []) ys x is some = (let both : y ∷ ys ≡ x ∷ [] = is in let same : y ≡ x = cc in ap (λ z. z ∷ []) same)
one_alone (y ∷ z ∷ zs) ys x is some = absurd cc

-- a turn that comes is whole
whole_next : (node session : ℕ) (q : Past) (h : Happening) → ComesNext node session q h → IsWholeTurn h
whole_next node session q h (Goes_on _ _ comes) = by h comes
  where
    by : (g : Happening) → Comes node session q g → IsWholeTurn g
    by _ (Delivery k u at few other whole took) = whole
    by _ (Give_up u x xs calls why other whole) = whole
whole_next node session q _ (Second u c at here input k up whole) = whole

module _ (complete : UndisturbedCommitsAreComplete) (law : DeliveriesStayBelow) (t : History) (run : IsTheRunOf t) (front later : List Happening) (c : Commit t.places t.commands front) (s : Stmt) (goes : CreateIsUnderWay t front later c s)
    (lawful : IsLawfulRun t) (calm : StaysCalm t front c) (done : IsBetweenCommands (due_of t.commands (past_by t.places t.commands front))) where
  abbrev n : ℕ
  n = c.call.node

  abbrev m : ℕ
  m = c.session

  abbrev g : CommandGoes t front later c
  g = record { within = goes.within; no_hold = ap is_hold goes.own; off = goes.off; whole = goes.whole; well = goes.well }

  -- before the call of the COMMIT, and after it
  abbrev q0 : Past
  q0 = p t run front later c g

  abbrev q1 : Past
  q1 = first t run front later c g

  own : command_at t.commands q0.facts.command ≡ commands.At n m (Some s)
  own = ap (λ (f : Facts). command_at t.commands f.command) (facts_before t run front later c g) ∙ goes.own

  no_commit : s ≡ stmts.Commit c.comment → ⊥
  no_commit same = (let commits : commits_first (stmts.Commit c.comment) ≡ true = ap commits_first (sym same) ∙ goes.creates in absurd cc)

  -- ---- the pending call

  pending : (x : Call) × (call_at q0.run_report n m ≡ Some x) × (x.statement ≡ Some (stmts.Commit c.comment))
  pending = (let it = what_comes_is_pending t run (length c.before) c.call (there t run front later c g) m (Some (stmts.Commit c.comment)) c.asks in
      let same_turn : Some (happenings.Turn it.1.turn) ≡ Some (happenings.Turn c.call) = sym it.1.there ∙ there t run front later c g in
      let one : it.1.turn ≡ c.call = cc in
      let input : c.call.input ≡ inputs.Call m it.0.statement = ap (λ (u : Turn). u.input) (sym one) ∙ it.1.came in
      let both : inputs.Call m it.0.statement ≡ inputs.Call m (Some (stmts.Commit c.comment)) = sym input ∙ c.asks in
      (it.0, ap (λ (r : Past). call_at r.run_report n m) (sym (upto t run front later c g)) ∙ it.1.pending, (let text : it.0.statement ≡ Some (stmts.Commit c.comment) = cc in text)))

  abbrev x0 : Call
  x0 = pending.0

  its_command : x0.command ≡ q0.facts.command
  its_command = (found_so (λ (x : Call). x.command ≡ q0.facts.command) (is_call_at n m) q0.run_report.calls x0 (its t run front later c g) pending.1).0

  follows : x0.follows ≡ Some s
  follows = by (found_so (HasShape t.commands) (is_call_at n m) q0.run_report.calls x0 (shapes t run front later c g) pending.1).0
    where
      named_is : (text : Option Stmt) → command_at t.commands x0.command ≡ commands.At x0.node x0.session text → text ≡ Some s
      named_is text named = (let it : commands.At x0.node x0.session text ≡ commands.At n m (Some s) = sym named ∙ (ap (command_at t.commands) its_command ∙ own) in cc)

      by : HasShape t.commands x0 → x0.follows ≡ Some s
      by (Plain text named statement last) =
          let one : text ≡ Some s = named_is text named in
          let two : Some s ≡ Some (stmts.Commit c.comment) = sym one ∙ (sym statement ∙ pending.2) in
          let same : s ≡ stmts.Commit c.comment = cc in
          absurd (no_commit same)
      by (Commits_shape y named creates statement next_is) = next_is ∙ named_is (Some y) named

  all_of : (cs : List Call) → AllByRecursion (λ (x : Call). x.command ≡ q0.facts.command) cs → AllByRecursion (HasShape t.commands) cs → AllByRecursion (IsOf n m x0.command) cs
  all_of [] mine shaped = tt
  all_of (x ∷ cs) mine shaped = (one, all_of cs mine.1 shaped.1)
    where
      one : IsOf n m x0.command x
      one =
          let named = named_so t.commands x shaped.0 in
          let it : commands.At x.node x.session named.0 ≡ commands.At n m (Some s) = sym named.1 ∙ (ap (command_at t.commands) mine.0 ∙ own) in
          let here : x.node ≡ n = cc in
          let same : x.session ≡ m = cc in
          (ap (λ q. q && (x.session == m)) (eq-eqb x.node n here) ∙ eq-eqb x.session m same, mine.0 ∙ sym its_command)

  -- ---- the turn of the COMMIT's call

  fresh : q0.run_report.acted ≡ false
  fresh = by q0.run_report.acted refl
    where
      call : is_call c.call.input ≡ true
      call = ap is_call c.asks

      other_input : {q : Past} (h : Happening) → Comes n m q h → h ≡ happenings.Turn c.call → ⊥
      other_input _ (Delivery k u at few other whole took) same = (let it : u ≡ c.call = cc in let input : is_call c.call.input ≡ false = subst (λ (v : Turn). is_call v.input ≡ false) it other in cc (input, call))
      other_input _ (Give_up u x xs at why other whole) same = (let it : u ≡ c.call = cc in let input : is_call c.call.input ≡ false = subst (λ (v : Turn). is_call v.input ≡ false) it other in cc (input, call))

      never : (h : Happening) → ComesNext n m q0 h → h ≡ happenings.Turn c.call → ⊥
      never h (Goes_on _ none comes) same = other_input h comes same
      never _ (Second u x at here input k up whole) same = (let none = alone t run front later c g in cc (at, none))

      by : (q : Bool) → q0.run_report.acted ≡ q → q ≡ false
      by true acted =
          let runs : Runs q0 = record { acted = acted; off = goes.off; stands = stands t run front later c g; upright = (settled t run front later c g).upright } in
          absurd (never (happenings.Turn c.call) (what_comes n m t.places t.commands q0 runs (happenings.Turn c.call) goes.whole (due t run front later c g)) refl)
      by false none = refl

  -- the answers of the COMMIT, after its call and these happenings
  abbrev told : List Happening → List Answer
  told hs = commit_answers_from t.places t.commands q0.facts n m (happenings.Turn c.call ∷ hs)

  answers_said : (f : Facts) (u : Turn) → u.cut ≡ false → is_create u.input ≡ false → commit_answers_in t.places f n m (happenings.Turn u) ≡ said n m s f.command u (outcome_at t.places f u)
  answers_said f u uncut other =
      ap (λ q. if q then [] else answers_in t.places f n m (happenings.Turn u)) other ∙ ap (λ q. if q then [] else said n m s f.command u (outcome_at t.places f u)) uncut

  -- The CREATE has come in these, after its COMMIT was answered.
  record Came (hs : List Happening) : Type 0 where
    before : List Happening
    turn : Turn
    rest : List Happening
    is : before ++ happenings.Turn turn ∷ rest ≡ hs
    here : turn.node ≡ n
    asks : IsCall turn.input m s
    whole : turn.cut ≡ false
    answered : told before ≡ [] → ⊥

  came_on : (hs : List Happening) (h : Happening) → Came hs → Came (hs ++ h ∷ [])
  came_on hs h it = record { before = it.before; turn = it.turn; rest = it.rest ++ h ∷ []; is = sym (append_assoc it.before (happenings.Turn it.turn ∷ it.rest) (h ∷ [])) ∙ ap (λ xs. xs ++ h ∷ []) it.is; here = it.here; asks = it.asks; whole = it.whole; answered = it.answered }

  -- ---- its command, so far

  abbrev at_past : List Happening → Past
  at_past hs = past t.places t.commands q1 hs

  record Status (hs : List Happening) : Type 0 where
    runs : Runs (at_past hs)
    stage : Stage n m s (Came hs) (told hs) (at_past hs).run_report
    course : AllByRecursion IsInCourse hs

  facts_mid : (hs : List Happening) → (at_past hs).facts ≡ facts_by t.places t.commands (c.before ++ happenings.Turn c.call ∷ hs)
  facts_mid hs = ap (λ (q : Past). q.facts) (sym (past_is t run front later c g hs)) ∙ facts_are t.places t.commands (start t.places) (c.before ++ happenings.Turn c.call ∷ hs)

  past_more : (hs : List Happening) (h : Happening) → at_past (hs ++ h ∷ []) ≡ next t.places t.commands (at_past hs) h
  unfolding past
  past_more hs h = past_on t.places t.commands q1 hs (h ∷ [])

  told_more : (hs : List Happening) (h : Happening) → told (hs ++ h ∷ []) ≡ told hs ++ commit_answers_in t.places (at_past hs).facts n m h
  unfolding past
  told_more hs h =
      answers_more t.places t.commands q0.facts n m (happenings.Turn c.call ∷ hs) h
      ∙ ap (λ (f : Facts). told hs ++ commit_answers_in t.places f n m h) (sym (facts_are t.places t.commands q0 (happenings.Turn c.call ∷ hs)))

  first_status : Status []
  unfolding past next
  first_status = record {
    runs = runs_turn n m t.places t.commands q0 c.call goes.off (stands t run front later c g) goes.whole;
    stage = subst (λ xs. Stage n m s (Came []) xs q1.run_report) (sym (append-nil (commit_answers_in t.places q0.facts n m (happenings.Turn c.call)) ∙ answers_said q0.facts c.call goes.whole (ap is_create c.asks)))
        (turn_stage n m s q0.facts.command (node_at q0.facts n) q0.run_report c.call (outcome_at t.places q0.facts c.call) (Came []) [] goes.whole (alone t run front later c g)
        (Commits x0 pending.1 follows (all_of q0.run_report.calls (its t run front later c g) (shapes t run front later c g)) (alone t run front later c g) refl));
    course = tt;
  }

  -- ---- each turn is whole

  whole_all : (hs rest : List Happening) (q : Past) → Runs q → IsTheRun t.places t.commands q (hs ++ rest) → AllByRecursion GoesWell hs → AllByRecursion IsWholeTurn hs
  unfolding IsTheRun
  whole_all [] rest q runs it well = tt
  whole_all (happenings.Turn u ∷ hs) rest q runs it well =
      let whole : u.cut ≡ false = whole_next n m q (happenings.Turn u) (what_comes n m t.places t.commands q runs (happenings.Turn u) well.0 it.0) in
      (whole, whole_all hs rest (next t.places t.commands q (happenings.Turn u)) (runs_turn n m t.places t.commands q u runs.off runs.stands whole) it.1 well.1)
  whole_all (h ∷ hs) rest q runs it well = absurd (whole_next n m q h (what_comes n m t.places t.commands q runs h well.0 it.0))

  whole_during : AllByRecursion IsWholeTurn c.during
  unfolding past
  whole_during = whole_all c.during later q1 first_status.runs (first_run t run front later c g) goes.well

  -- ---- one happening more

  module _ (mid rest : List Happening) (is : mid ++ rest ≡ c.during) (now : Status mid) where
    -- where nothing is in flight the COMMIT has been answered
    answered : first_flying (at_past mid).facts.net ≡ None → told mid ≡ commit_complete ∷ []
    answered still =
        ap (λ f. commit_answers_from t.places t.commands f n m (happenings.Turn c.call ∷ mid)) (facts_before t run front later c g)
        ∙ (complete_sooner complete t lawful front later goes.within c goes.whole whole_during calm mid rest is now.course (ap (λ (f : Facts). first_flying f.net) (sym (facts_mid mid)) ∙ still)).answered

    few : spent (at_past mid).run_report.deliveries ≡ false
    few =
        let below : deliveries_in mid < 4096 = few_sooner complete t lawful front later goes.within c goes.whole whole_during calm mid rest is law now.course in
        let count : (at_past mid).run_report.deliveries ≡ q1.run_report.deliveries + deliveries_in mid = counted t.places t.commands q1 mid (all_front IsWholeTurn mid rest (subst (AllByRecursion IsWholeTurn) (sym is) whole_during)) in
        let none : q1.run_report.deliveries ≡ 0 = first_none t run front later c g fresh in
        let is_so : (at_past mid).run_report.deliveries ≡ deliveries_in mid = omega (arith, count, none) in
        not_spent (at_past mid).run_report.deliveries (deliveries_in mid) is_so below

    -- so no call is given up
    none_given_up : (x : Call) (xs : List Call) → (at_past mid).run_report.calls ≡ x ∷ xs → (at_past mid).run_report.next_call ≡ None → (first_flying (at_past mid).facts.net ≡ None) ⊎ (spent (at_past mid).run_report.deliveries ≡ true) → ⊥
    none_given_up x xs calls none (inr all) = (let unspent = few in cc (unspent, all))
    none_given_up x xs calls none (inl still) = by now.stage (answered still)
      where
        by : Stage n m s (Came mid) (told mid) (at_past mid).run_report → told mid ≡ commit_complete ∷ [] → ⊥
        by (Commits y at second all alone unsaid) is_said = (let both : [] ≡ commit_complete ∷ [] = sym unsaid ∙ is_said in cc)
        by (Follows y at create all some) is_said = cc (at, none)
        by (Created it gone alone) is_said = (subst (AllByRecursion IsNoCall) calls gone).0
        by (Refused a others at incomplete gone alone) is_said = (subst (AllByRecursion IsNoCall) calls gone).0

    -- a turn that is not the CREATE's
    other_turn : (u : Turn) → u.cut ≡ false → is_create u.input ≡ false → (at_past mid).run_report.next_call ≡ None → IsInCourse (happenings.Turn u) → Status (mid ++ happenings.Turn u ∷ [])
    unfolding next
    other_turn u whole other none in_course =
        let q : Past = at_past mid in
        let h : Happening = happenings.Turn u in
        let stage : Stage n m s (Came (mid ++ h ∷ [])) (told mid ++ said n m s q.facts.command u (outcome_at t.places q.facts u)) (next t.places t.commands q h).run_report
        = turn_stage n m s q.facts.command (node_at q.facts u.node) q.run_report u (outcome_at t.places q.facts u) (Came (mid ++ h ∷ [])) (told mid) whole none (more_stage n m s (Came mid) (Came (mid ++ h ∷ [])) (came_on mid h) (told mid) q.run_report now.stage) in
        record {
          runs = subst Runs (sym (past_more mid h)) (runs_turn n m t.places t.commands q u now.runs.off now.runs.stands whole);
          stage = subst (λ (z : Past). Stage n m s (Came (mid ++ h ∷ [])) (told (mid ++ h ∷ [])) z.run_report) (sym (past_more mid h))
              (subst (λ xs. Stage n m s (Came (mid ++ h ∷ [])) xs (next t.places t.commands q h).run_report) (sym (told_more mid h ∙ ap (λ xs. told mid ++ xs) (answers_said q.facts u whole other))) stage);
          course = all_append IsInCourse mid (h ∷ []) now.course (in_course, tt);
        }

    -- the CREATE's
    create_turn : (u : Turn) (x : Call) → (at_past mid).run_report.next_call ≡ Some x → u.node ≡ x.node → u.input ≡ inputs.Call x.session x.statement → (k : NodeState) → node_at (at_past mid).facts x.node ≡ Some k → u.cut ≡ false
        → IsCreateCall n m s x → AllByRecursion (IsItsCall n m) (at_past mid).run_report.calls → (told mid ≡ [] → ⊥) → Status (mid ++ happenings.Turn u ∷ [])
    unfolding next turn_of
    create_turn u x at u_node u_input k up whole create all some =
        let q : Past = at_past mid in
        let h : Happening = happenings.Turn u in
        let here : u.node ≡ n = u_node ∙ create.here in
        let input : u.input ≡ inputs.Call m (Some s) = u_input ∙ (ap (λ i. inputs.Call i x.statement) create.its ∙ ap (inputs.Call m) create.own) in
        let there_up : node_at q.facts u.node ≡ Some k = ap (node_at q.facts) u_node ∙ up in
        let o : TurnOutput = turn_of (place_at t.places u.node) k (inputs.Call m (Some s)) in
        let outcome : outcome_at t.places q.facts u ≡ Some o = ap (served (place_at t.places u.node) u.input) there_up ∙ ap (λ i. Some (turn_of (place_at t.places u.node) k i)) input in
        let answer = create_answers (place_at t.places u.node) k m s goes.creates in
        let ended : filter (λ (y : Finished). y.session == m) o.ended ≡ (record { session = m; answer = answer.0 }) ∷ []
        = ap (filter (λ (y : Finished). y.session == m)) answer.1 ∙ ap (λ b. if b then (record { session = m; answer = answer.0 }) ∷ [] else []) (eq-eqb m m refl) in
        let stage : Stage n m s (Came (mid ++ h ∷ [])) (told (mid ++ h ∷ [])) (next t.places t.commands q h).run_report
        = create_stage n m s q.facts.command (node_at q.facts u.node) q.run_report u (outcome_at t.places q.facts u) (Came (mid ++ h ∷ [])) (told (mid ++ h ∷ []))
        (record { before = mid; turn = u; rest = []; is = refl; here = here; asks = input; whole = whole; answered = some }) whole here (ap is_call input) all o outcome (λ none. (let both : [] ≡ (record { session = m; answer = answer.0 }) ∷ [] = sym none ∙ ended in cc)) in
        record {
          runs = subst Runs (sym (past_more mid h)) (runs_turn n m t.places t.commands q u now.runs.off now.runs.stands whole);
          stage = subst (λ (z : Past). Stage n m s (Came (mid ++ h ∷ [])) (told (mid ++ h ∷ [])) z.run_report) (sym (past_more mid h)) stage;
          course = all_append IsInCourse mid (h ∷ []) now.course (inr (whole, ap is_create input ∙ goes.creates), tt);
        }

    one_more : (h : Happening) → ComesNext n m (at_past mid) h → Status (mid ++ h ∷ [])
    one_more h (Goes_on _ none comes) = by h comes
      where
        by : (y : Happening) → Comes n m (at_past mid) y → Status (mid ++ y ∷ [])
        by _ (Delivery k u at few_more other whole took) = other_turn u whole (no_create u.input other) none (inl (whole, k, took))
        by _ (Give_up u x xs calls why other whole) = absurd (none_given_up x xs calls none why)
    one_more _ (Second u x at here input k up whole) = by now.stage
      where
        by : Stage n m s (Came mid) (told mid) (at_past mid).run_report → Status (mid ++ happenings.Turn u ∷ [])
        by (Commits y found second all none unsaid) = absurd (cc (at, none))
        by (Follows y is_next create all some) =
            let both : Some y ≡ Some x = sym is_next ∙ at in
            let same : y ≡ x = cc in
            create_turn u x at here input k up whole (subst (IsCreateCall n m s) same create) all some
        by (Created it gone none) = absurd (cc (at, none))
        by (Refused a others first_is incomplete gone none) = absurd (cc (at, none))

  walk : (mid rest : List Happening) → mid ++ rest ≡ c.during → IsTheRun t.places t.commands (at_past mid) (rest ++ later) → AllByRecursion GoesWell rest → Status mid → Status c.during
  unfolding IsTheRun
  walk mid [] is it well now = subst Status (sym (append-nil mid) ∙ is) now
  walk mid (h ∷ rest) is it well now =
      walk (mid ++ h ∷ []) rest (append_assoc mid (h ∷ []) rest ∙ is) (subst (λ q. IsTheRun t.places t.commands q (rest ++ later)) (sym (past_more mid h)) it.1) well.1
      (one_more mid (h ∷ rest) is now h (what_comes n m t.places t.commands (at_past mid) now.runs h well.0 it.0))

  -- ---- the end of the command

  last : Status c.during
  unfolding past
  last = walk [] c.during refl (first_run t run front later c g) goes.well first_status

  over : (first_flying (at_past c.during).facts.net ≡ None) × ((at_past c.during).run_report.next_call ≡ None)
  over =
      let it = what_is_over n m t.places t.commands (at_past c.during) last.runs (subst (λ q. IsBetweenCommands (due_of t.commands q)) (end_is t run front later c g) done) in
      (elim it.1 [ inl still ↦ still | inr all ↦ (let unspent = few c.during [] (append-nil c.during) last in absurd (cc (unspent, all))) ], it.0)

  undisturbed : Undisturbed t.places t.commands front c
  undisturbed = record {
    goes_on = calm.goes_on;
    still = calm.still;
    whole = goes.whole;
    course = last.course;
    over = ap (λ (f : Facts). first_flying f.net) (facts_end t run front later c g) ∙ over.0;
    lost = calm.lost;
    stopped = calm.stopped;
    calm = calm.calm;
  }

  -- the CREATE itself has come
  has_come : CreateHasCome t front c s
  has_come = by last.stage (answered c.during [] (append-nil c.during) last over.0)
    where
      by : Stage n m s (Came c.during) (told c.during) (at_past c.during).run_report → told c.during ≡ commit_complete ∷ [] → CreateHasCome t front c s
      by (Commits y found second all none unsaid) is_said = (let both : [] ≡ commit_complete ∷ [] = sym unsaid ∙ is_said in absurd cc)
      by (Follows y is_next create all some) is_said = (let none = over.1 in absurd (cc (is_next, none)))
      by (Created it gone none) is_said =
          let more : List Answer = commit_answers_from t.places t.commands (facts_of t.places t.commands q0.facts (happenings.Turn c.call ∷ it.before)) n m (happenings.Turn it.turn ∷ it.rest) in
          let parts : told it.before ++ more ≡ commit_complete ∷ []
          = sym (answers_join t.places t.commands q0.facts n m (happenings.Turn c.call ∷ it.before) (happenings.Turn it.turn ∷ it.rest)) ∙ (ap told it.is ∙ is_said) in
          record {
            before = it.before;
            turn = it.turn;
            later = it.rest;
            is = it.is;
            here = it.here;
            asks = it.asks;
            whole = it.whole;
            answered = ap (λ f. commit_answers_from t.places t.commands f n m (happenings.Turn c.call ∷ it.before)) (sym (facts_before t run front later c g)) ∙ one_alone (told it.before) more commit_complete parts it.answered;
          }
      by (Refused a others first_is incomplete gone none) is_said =
          let both : a ∷ others ≡ commit_complete ∷ [] = sym first_is ∙ is_said in
          let same : a ≡ commit_complete = cc in
          let complete_it : is_complete a ≡ true = ap is_complete same in
          absurd (cc (complete_it, incomplete))

  pub create_ends : IsDone t front c
  create_ends = record {
    undisturbed = undisturbed;
    complete = complete (so_far t front) (part_lawful t lawful front (record { rest = later; is = goes.within })) c undisturbed;
    told = λ is_commit. (let both : commands.At n m (Some s) ≡ commands.At n m (Some (stmts.Commit c.comment)) = sym goes.own ∙ is_commit in
        let same : s ≡ stmts.Commit c.comment = cc in
        absurd (no_commit same));
    created = λ x creates is_create_too. (let both : commands.At n m (Some s) ≡ commands.At n m (Some x) = sym goes.own ∙ is_create_too in
        let same : s ≡ x = cc in
        subst (CreateHasCome t front c) same has_come);
  }
