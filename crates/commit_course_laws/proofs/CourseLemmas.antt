-- The turn of a COMMIT's call in the run of a script, and what comes after it in its command.
use Rattle.std.proofs.Common.{◌≡◌, ℕ, ◌==◌, ◌&&◌, Bool, true, false, List, [], ◌∷◌, ◌++◌, length, slice_get, Option, Some, None, inl, inr, refl, sym, ap, subst, ◌∙◌}
use Rattle.std.specs.Prelude.{take}
use Rattle.std.specs.List.{AllByRecursion}
use Rattle.std.proofs.lemmas.Bool.{eq-eqb}
use Rattle.std.proofs.lemmas.List.{append_assoc}
use Rattle.node_rules.specs.Data.{Input, Place, Stmt}
use Rattle.node_rules.specs.Data.inputs
use Rattle.node_rules.specs.Data.stmts
use Rattle.node_rules.specs.NodeState.{NodeState}
use Rattle.node_rules.specs.Sessions.{commit_complete}
use Rattle.net_bag.specs.Net.{first_flying}
use Rattle.run_rules.specs.Calls.{is_call_at}
use Rattle.run_rules.specs.Commands.{commits_first}
use Rattle.run_rules.specs.Data.{Command, Happening, Took, Turn}
use Rattle.run_rules.specs.Data.commands
use Rattle.run_rules.specs.Data.happenings
use Rattle.run_rules.specs.Due.{next_command, due_of, comes_next, IsTheRun}
use Rattle.run_rules.specs.Facts.{Facts, command_at, node_at, outcome_at}
use Rattle.run_rules.specs.Scripts.{IsTheRunOf}
use Rattle.run_rules.specs.Lawful.{History, NothingComesFirst, MayTurn}
use Rattle.run_rules.specs.Lawful.{Comes as Comes_lawful}
use Rattle.run_rules.specs.Lines.{spent}
use Rattle.run_rules.specs.Past.{delivered_more, is_call, next, past}
use Rattle.run_claims.specs.Places.{past_upto}
use Rattle.run_rules.specs.RunReport.{Call, Past, start}
use Rattle.run_rules.proofs.FactLemmas.{facts_are}
use Rattle.run_base_laws.proofs.PastLemmas.{past_on}
use Rattle.answer_origin_laws.proofs.CallAtLemmas.{HasShape, Plain, Commits, IsSecond}
use Rattle.answer_origin_laws.proofs.CallTurnLemmas.{all_so}
use Rattle.answer_origin_laws.proofs.UptoLemmas.{due_at, may_at}
use Rattle.run_claims.specs.Undisturbed.{Commit, facts_by, answers_from}
use Rattle.commit_course_laws.specs.CommandCalls.{is_hold}
use Rattle.run_claims.specs.CommitCourse.{past_by, GoesWell, CommitIsUnderWay, Delivers, CommitsFlow, CommitsEnd}
use Rattle.commit_course_laws.proofs.CommandLemmas.{commands_hold_their_call, fresh_deliveries}
use Rattle.answer_origin_laws.proofs.WayLemmas.{turn_way}
use Rattle.answer_origin_laws.proofs.DueLemmas.{stands_here, follows_here}
use Rattle.commit_course_laws.proofs.FlowLemmas.{IsWholeTurn, IsItsCall, HasOne, Flows, flows_turn, Comes, Delivery, Give_up, comes_so, end_due, Course, course}
use Rattle.commit_course_laws.proofs.AnsweredLemmas.{none_pending, answered_none}

-- ---- lists

pub slice_mid : {A : Type 0} (xs : List A) (x : A) (ys : List A) → slice_get (xs ++ x ∷ ys) (length xs) ≡ Some x
slice_mid [] x ys = refl
slice_mid (y ∷ xs) x ys = slice_mid xs x ys

pub take_first : {A : Type 0} (xs ys : List A) → take (length xs) (xs ++ ys) ≡ xs
take_first [] [] = refl
take_first [] (y ∷ ys) = refl
take_first (x ∷ xs) ys = ap (λ zs. x ∷ zs) (take_first xs ys)

-- the run goes on from each moment
pub run_on : (places : List Place) (asked : List Command) (p : Past) (hs later : List Happening) → IsTheRun places asked p (hs ++ later) → IsTheRun places asked (past places asked p hs) later
unfolding past IsTheRun
run_on places asked p [] later run = run
run_on places asked p (h ∷ hs) later run = run_on places asked (next places asked p h) hs later run.1

-- ---- calls of the command

-- the calls of a COMMIT's command are of its session, and none follows
module _ (asked : List Command) (command node session : ℕ) (comment : Option (List ℕ)) (own : command_at asked command ≡ commands.At node session (Some (stmts.Commit comment))) where
  named_its : (c : Call) (text : Option Stmt) → c.command ≡ command → command_at asked c.command ≡ commands.At c.node c.session text → (c.node ≡ node) × (c.session ≡ session) × (text ≡ Some (stmts.Commit comment))
  named_its c text its named =
      let it : commands.At c.node c.session text ≡ commands.At node session (Some (stmts.Commit comment)) = sym named ∙ (ap (command_at asked) its ∙ own) in
      (let one : c.node ≡ node = cc in one, (let two : c.session ≡ session = cc in two), (let three : text ≡ Some (stmts.Commit comment) = cc in three))

  both_at : (c : Call) → c.node ≡ node → c.session ≡ session → is_call_at node session c ≡ true
  both_at c here its = ap (λ q. q && (c.session == session)) (eq-eqb c.node node here) ∙ eq-eqb c.session session its

  one_its : (c : Call) → c.command ≡ command → HasShape asked c → IsItsCall node session c
  one_its c its (Plain text named statement last) = let is = named_its c text its named in (both_at c is.0 is.1, last)
  one_its c its (Commits s named creates statement follows) =
      let is = named_its c (Some s) its named in
      let some : Some s ≡ Some (stmts.Commit comment) = is.2 in
      let same : s ≡ stmts.Commit comment = cc in
      let commits : commits_first (stmts.Commit comment) ≡ true = subst (λ x. commits_first x ≡ true) same creates in
      absurd cc

  all_its : (cs : List Call) → AllByRecursion (λ (c : Call). c.command ≡ command) cs → AllByRecursion (HasShape asked) cs → AllByRecursion (IsItsCall node session) cs
  all_its [] its shapes = tt
  all_its (c ∷ cs) its shapes = (one_its c its.0 shapes.0, all_its cs its.1 shapes.1)

-- ---- the turn of the call

-- A command of a COMMIT goes well, which is not HOLD ON or HOLD OFF.
pub record CommandGoes (t : History) (front later : List Happening) (c : Commit t.places t.commands front) : Type 0 where
  pub within : front ++ later ≡ t.trace
  pub no_hold : is_hold (command_at t.commands (facts_by t.places t.commands c.before).command) ≡ false
  pub off : (past_by t.places t.commands c.before).run_report.hold ≡ false
  pub whole : c.call.cut ≡ false
  pub well : AllByRecursion GoesWell c.during

module _ (t : History) (run : IsTheRunOf t) (front later : List Happening) (c : Commit t.places t.commands front) (goes : CommandGoes t front later c) where
  -- before the call
  abbrev pub p : Past
  p = past_by t.places t.commands c.before

  abbrev i : ℕ
  i = length c.before

  pub parts : c.before ++ happenings.Turn c.call ∷ (c.during ++ later) ≡ t.trace
  parts = sym (append_assoc c.before (happenings.Turn c.call ∷ c.during) later) ∙ (ap (λ hs. hs ++ later) c.is ∙ goes.within)

  pub there : slice_get t.trace i ≡ Some (happenings.Turn c.call)
  there = ap (λ hs. slice_get hs i) (sym parts) ∙ slice_mid c.before (happenings.Turn c.call) (c.during ++ later)

  pub upto : past_upto t i ≡ p
  upto = ap (past t.places t.commands (start t.places)) (ap (take i) (sym parts) ∙ take_first c.before (happenings.Turn c.call ∷ (c.during ++ later)))

  pub due : comes_next t.places t.commands p ≡ Some (happenings.Turn c.call)
  due = subst (λ q. comes_next t.places t.commands q ≡ Some (happenings.Turn c.call)) upto (due_at t run i (happenings.Turn c.call) there)

  pub facts_before : p.facts ≡ facts_by t.places t.commands c.before
  facts_before = facts_are t.places t.commands (start t.places) c.before

  pub its : AllByRecursion (λ (x : Call). x.command ≡ p.facts.command) p.run_report.calls
  its = subst (λ (q : Past). q.run_report.hold ≡ false → is_hold (command_at t.commands q.facts.command) ≡ false → AllByRecursion (λ (x : Call). x.command ≡ q.facts.command) q.run_report.calls) upto (commands_hold_their_call t run i) goes.off
      (ap (λ (f : Facts). is_hold (command_at t.commands f.command)) facts_before ∙ goes.no_hold)

  pub shapes : AllByRecursion (HasShape t.commands) p.run_report.calls
  shapes = subst (λ (q : Past). AllByRecursion (HasShape t.commands) q.run_report.calls) upto (all_so t run i).shapes

  may : (k : NodeState) × MayTurn t.places p.facts c.call k
  may = subst (λ (q : Past). (k : NodeState) × MayTurn t.places q.facts c.call k) upto (may_at t run i (happenings.Turn c.call) there)

  pub settled : NothingComesFirst p.facts
  settled = may.1.settled

  pub stands : p.run_report.start_to_stop ≡ None
  stands = stands_here t.places t.commands p settled.told settled.upright c.call due

  pub alone : p.run_report.next_call ≡ None
  alone = by p.run_report.next_call refl
    where
      by : (o : Option Call) → p.run_report.next_call ≡ o → o ≡ None
      by None at = refl
      by (Some x) at =
          let second : IsSecond t.commands x = ((subst (λ (q : Past). (y : Call) → q.run_report.next_call ≡ Some y → IsSecond t.commands y) upto (λ y is. ((all_so t run i).next y is).0)) x at) in
          let one : c.call.input ≡ inputs.Call x.session x.statement = follows_here t.places t.commands p settled.told settled.upright stands x at c.call due in
          let two : c.call.input ≡ inputs.Call c.session (Some (stmts.Commit c.comment)) = c.asks in
          let both : inputs.Call x.session x.statement ≡ inputs.Call c.session (Some (stmts.Commit c.comment)) = sym one ∙ two in
          let text : x.statement ≡ Some (stmts.Commit c.comment) = cc in
          let some : Some second.create ≡ Some (stmts.Commit c.comment) = sym second.own ∙ text in
          let same : second.create ≡ stmts.Commit c.comment = cc in
          let commits : commits_first (stmts.Commit c.comment) ≡ true = subst (λ s. commits_first s ≡ true) same second.creates in
          absurd cc

  -- where it is the first thing to happen in its command, no message was delivered before
  pub none_before : p.run_report.acted ≡ false → p.run_report.deliveries ≡ 0
  none_before fresh = (subst (λ (q : Past). q.run_report.acted ≡ false → q.run_report.deliveries ≡ 0) upto (fresh_deliveries t i)) fresh

  none_taken : c.call.took ≡ None
  none_taken = by c.call.took refl (subst (λ x. Comes_so x c.call.took) c.asks may.1.comes)
    where
      Comes_so : Input → Option Took → Type 0
      Comes_so input took = Comes_lawful p.facts may.0 c.call.node input took

      by : (o : Option Took) → c.call.took ≡ o → Comes_so (inputs.Call c.session (Some (stmts.Commit c.comment))) c.call.took → o ≡ None
      by None at comes = refl
      by (Some k) at comes = absurd (subst (Comes_so (inputs.Call c.session (Some (stmts.Commit c.comment)))) at comes)

  -- ---- after it

  abbrev pub first : Past
  first = next t.places t.commands p (happenings.Turn c.call)

  pub first_none : p.run_report.acted ≡ false → first.run_report.deliveries ≡ 0
  unfolding next
  first_none fresh = (turn_way p.facts.command (node_at p.facts c.call.node) p.run_report c.call (outcome_at t.places p.facts c.call)).deliveries ∙ (ap (λ o. (delivered_more p.run_report o).deliveries) none_taken ∙ none_before fresh)

  pub first_run : IsTheRun t.places t.commands first (c.during ++ later)
  unfolding IsTheRun
  first_run = (run_on t.places t.commands (start t.places) c.before (happenings.Turn c.call ∷ (c.during ++ later)) (subst (IsTheRun t.places t.commands (start t.places)) (sym parts) run)).1

  -- the past of a first part of what came since
  pub past_is : (hs : List Happening) → past_by t.places t.commands (c.before ++ happenings.Turn c.call ∷ hs) ≡ past t.places t.commands first hs
  unfolding past
  past_is hs = past_on t.places t.commands (start t.places) c.before (happenings.Turn c.call ∷ hs)

  pub end_is : past_by t.places t.commands front ≡ past t.places t.commands first c.during
  end_is = ap (past_by t.places t.commands) (sym c.is) ∙ past_is c.during

  pub facts_end : facts_by t.places t.commands front ≡ (past t.places t.commands first c.during).facts
  facts_end = sym (facts_are t.places t.commands (start t.places) front) ∙ ap (λ (q : Past). q.facts) end_is

-- ---- where the command is COMMIT

module _ (t : History) (run : IsTheRunOf t) (front later : List Happening) (c : Commit t.places t.commands front) (goes : CommitIsUnderWay t front later c) where
  abbrev pub plain : CommandGoes t front later c
  plain = record { within = goes.within; no_hold = ap is_hold goes.own; off = goes.off; whole = goes.whole; well = goes.well }

  abbrev q0 : Past
  q0 = p t run front later c plain

  abbrev q1 : Past
  q1 = first t run front later c plain

  pub own : command_at t.commands q0.facts.command ≡ commands.At c.call.node c.session (Some (stmts.Commit c.comment))
  own = ap (λ (f : Facts). command_at t.commands f.command) (facts_before t run front later c plain) ∙ goes.own

  -- its call alone is pending
  pub one_call : HasOne c.call.node c.session q0.run_report
  one_call = record {
    calls = all_its t.commands q0.facts.command c.call.node c.session c.comment own q0.run_report.calls (its t run front later c plain) (shapes t run front later c plain);
    alone = alone t run front later c plain;
  }

  -- it is the first thing to happen in its command
  pub fresh : q0.run_report.acted ≡ false
  fresh = by q0.run_report.acted refl
    where
      flows : q0.run_report.acted ≡ true → Flows c.call.node c.session q0
      flows acted = record { acted = acted; off = goes.off; stands = stands t run front later c plain; upright = (settled t run front later c plain).upright; one = one_call }

      call : is_call c.call.input ≡ true
      call = ap is_call c.asks

      other_input : {q : Past} (g : Happening) → Comes c.call.node c.session q g → g ≡ happenings.Turn c.call → ⊥
      other_input _ (Delivery k u at few other whole took) same = (let it : u ≡ c.call = cc in let input : is_call c.call.input ≡ false = subst (λ (v : Turn). is_call v.input ≡ false) it other in cc (input, call))
      other_input _ (Give_up u x xs at why other whole) same = (let it : u ≡ c.call = cc in let input : is_call c.call.input ≡ false = subst (λ (v : Turn). is_call v.input ≡ false) it other in cc (input, call))

      by : (q : Bool) → q0.run_report.acted ≡ q → q ≡ false
      by true acted = absurd (other_input (happenings.Turn c.call) (comes_so c.call.node c.session t.places t.commands q0 (flows acted) (happenings.Turn c.call) goes.whole (due t run front later c plain)).1 refl)
      by false none = refl

  pub first_flows : Flows c.call.node c.session q1
  first_flows = flows_turn c.call.node c.session t.places t.commands q0 c.call goes.off (stands t run front later c plain) one_call goes.whole

  pub its_course : Course c.call.node c.session t.places t.commands q1 c.during
  its_course = course c.call.node c.session t.places t.commands q1 c.during later first_flows (first_run t run front later c plain) goes.well

  -- where it has been answered no call is pending
  pub answered_so : (hs : List Happening) → AllByRecursion IsWholeTurn hs
      → answers_from t.places t.commands (facts_by t.places t.commands c.before) c.call.node c.session (happenings.Turn c.call ∷ hs) ≡ commit_complete ∷ [] → (past t.places t.commands q1 hs).run_report.calls ≡ []
  unfolding past
  answered_so hs whole answers =
      none_pending (past t.places t.commands q1 hs).run_report.calls
      (answered_none c.call.node c.session t.places t.commands q0 (happenings.Turn c.call ∷ hs) one_call (goes.whole, whole)
      (λ none. (let it : answers_from t.places t.commands q0.facts c.call.node c.session (happenings.Turn c.call ∷ hs) ≡ commit_complete ∷ []
      = ap (λ f. answers_from t.places t.commands f c.call.node c.session (happenings.Turn c.call ∷ hs)) (facts_before t run front later c plain) ∙ answers in
      let no : [] ≡ commit_complete ∷ [] = sym none ∙ it in absurd cc)))

-- ---- the laws

pub commits_flow : CommitsFlow
unfolding IsTheRun
commits_flow t run front later h c goes well k flying few =
    let end : Past = past t.places t.commands (first t run front (h ∷ later) c (plain t run front (h ∷ later) c goes)) c.during in
    let flows = (its_course t run front (h ∷ later) c goes).flow in
    let run_end = run_on t.places t.commands (first t run front (h ∷ later) c (plain t run front (h ∷ later) c goes)) c.during (h ∷ later) (first_run t run front (h ∷ later) c (plain t run front (h ∷ later) c goes)) in
    by h (comes_so c.call.node c.session t.places t.commands end flows h well run_end.0).1
    (ap (λ (f : Facts). first_flying f.net) (sym (facts_end t run front (h ∷ later) c (plain t run front (h ∷ later) c goes))) ∙ flying) (ap (λ (q : Past). spent q.run_report.deliveries) (sym (end_is t run front (h ∷ later) c (plain t run front (h ∷ later) c goes))) ∙ few)
  where
    by : {q : Past} (g : Happening) → Comes c.call.node c.session q g → first_flying q.facts.net ≡ Some k → spent q.run_report.deliveries ≡ false → Delivers k g
    by _ (Delivery n u at more other whole took) flies yet =
        let both : Some n ≡ Some k = sym at ∙ flies in
        let same : n ≡ k = cc in
        (whole, subst (λ m. u.took ≡ Some (record { number = m; again = false })) same took)
    by _ (Give_up u x xs calls (inl none) other whole) flies yet = absurd cc
    by _ (Give_up u x xs calls (inr all) other whole) flies yet = absurd cc

pub commits_end : CommitsEnd
commits_end t run front later c goes answered still =
    let way = its_course t run front later c goes in
    let end : Past = past t.places t.commands (first t run front later c (plain t run front later c goes)) c.during in
    let calls : end.run_report.calls ≡ [] = answered_so t run front later c goes c.during way.whole answered in
    let told : end.facts.losses_to_report ≡ [] = ap (λ (f : Facts). f.losses_to_report) (sym (facts_end t run front later c (plain t run front later c goes))) ∙ still.0 in
    let none : first_flying end.facts.net ≡ None = ap (λ (f : Facts). first_flying f.net) (sym (facts_end t run front later c (plain t run front later c goes))) ∙ still.1 in
    let next_due = end_due c.call.node c.session t.places t.commands end way.flow told none calls in (
      ap (λ (q : Past). q.run_report.calls) (end_is t run front later c (plain t run front later c goes)) ∙ calls,
      ap (due_of t.commands) (end_is t run front later c (plain t run front later c goes)) ∙ (next_due ∙ ap (next_command t.commands) (sym (facts_end t run front later c (plain t run front later c goes)))),
    )
