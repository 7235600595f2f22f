-- A turn in the run of a script: it is that of the one call that is yet to come, or of none; so each pending call comes in it, or has come before.
use Rattle.std.proofs.Common.{◌≡◌, ℕ, ◌+◌, ◌<◌, ◌≤◌, ◌==◌, ◌&&◌, ◌||◌, ◌⊎◌, not, Bool, true, false, find, IfSome, slice_get, is_none, Option, Some, None, inl, inr, refl, sym, ap, subst, ◌∙◌, arith}
use Rattle.std.proofs.lemmas.Bool.Decides.{nat_tests}
use Rattle.std.proofs.lemmas.Bool.{cond_both, and_parts, and_from, eq-eqb}
use Rattle.node_rules.specs.Data.{Input, Stmt}
use Rattle.node_rules.specs.Data.inputs
use Rattle.node_rules.specs.NodeState.{TurnOutput}
use Rattle.node_rules.specs.Turn.{turn_of}
use Rattle.run_rules.specs.Calls.{is_call_at, call_at, waits, waits_if_pending, after_input, finished}
use Rattle.run_rules.specs.Data.{Happening, Turn}
use Rattle.run_rules.specs.Data.happenings
use Rattle.run_rules.specs.Each.{facts_upto}
use Rattle.run_rules.specs.Facts.{Facts, node_at, outcome_at, place_at, served}
use Rattle.run_rules.specs.Scripts.{IsTheRunOf}
use Rattle.run_rules.specs.Lawful.{History}
use Rattle.run_rules.specs.Past.{is_call, delivered_more, without_following, ends_calls, acts, report_turned, next}
use Rattle.run_claims.specs.Places.{past_upto}
use Rattle.run_rules.specs.Cuts.{turn_appends}
use Rattle.run_rules.specs.RunReport.{Call, Past, RunReport}
use Rattle.run_ready_laws.proofs.CallEndLemmas.{same_number}
use Rattle.run_ready_laws.proofs.PendingLemmas.{IsOf, EndsFew, follows_at}
use Rattle.run_ready_laws.proofs.StandCallLemmas.{is_own, is_fresh}
use Rattle.run_ready_laws.proofs.TurnCallLemmas.{turn_leaves_so}
use Rattle.answer_origin_laws.specs.CallTurns.{What_is_asked, A_commit_first, Then_the_create, TurnOf, CameBefore}
use Rattle.answer_origin_laws.proofs.UptoLemmas.{StandsAt, facts_there, due_at, stand_at, may_at}
use Rattle.answer_origin_laws.proofs.SameToldLemmas.{ToldBefore, before_told}
use Rattle.answer_origin_laws.proofs.DueCallLemmas.{ComesNow, DueIs, due_here}
use Rattle.answer_origin_laws.proofs.CallAtLemmas.{HasShape, Plain, Commits, NextIs, AreShaped, found_at, Leads, ends_lead}

-- ---- numbers

pub below_or : (k i : ℕ) → k < i + 1 → (k < i) ⊎ (k ≡ i)
below_or k i is = by (k == i) refl
  where
    by : (q : Bool) → (k == i) ≡ q → (k < i) ⊎ (k ≡ i)
    by true same = inr (same_number k i same)
    by false other = inl (let it : k < i = grind (arith, nat_tests, is, other) in it)

-- ---- what is said after a turn leaves its calls

module _ (t : RunReport) where
  waits_same : ((waits t).calls ≡ t.calls) × ((waits t).next_call ≡ t.next_call)
  waits_same = cond_both (t.hold && is_none t.next_call) _ t (λ (u : RunReport). (u.calls ≡ t.calls) × (u.next_call ≡ t.next_call)) (λ on. (refl, refl)) (λ off. (refl, refl))

  pending_same : (running : ℕ) (o : Option Call) → ((waits_if_pending running t o).calls ≡ t.calls) × ((waits_if_pending running t o).next_call ≡ t.next_call)
  pending_same running None = (refl, refl)
  pending_same running (Some c) = cond_both (c.command == running) (waits t) t (λ (u : RunReport). (u.calls ≡ t.calls) × (u.next_call ≡ t.next_call)) (λ own. waits_same) (λ other. (refl, refl))

  pub input_same : (running node : ℕ) (input : Input) → ((after_input running t node input).calls ≡ t.calls) × ((after_input running t node input).next_call ≡ t.next_call)
  input_same running node (inputs.Call session s) = pending_same running (call_at t node session)
  input_same running node (inputs.GiveUp session) = (refl, refl)
  input_same running node (inputs.Message m) = (refl, refl)
  input_same running node inputs.Reco = (refl, refl)
  input_same running node inputs.Checkpoint = (refl, refl)

module _ (t : History) where
  -- What stands of the pending calls after so many happenings.
  pub record CallsSo (i : ℕ) (p : Past) : Type 0 where
    pub shapes : AreShaped t.commands p.run_report.calls
    pub next : NextIs t.commands p.run_report
    pub came : (n s : ℕ) (c : Call) → call_at p.run_report n s ≡ Some c → is_fresh p.facts.command p.run_report n s ≡ false → CameBefore t i n s c

  -- ---- one happening more

  module _ (i n s : ℕ) (c : Call) where
    pub further : CameBefore t i n s c → call_at (past_upto t i).run_report n s ≡ Some c → ((u : Turn) → slice_get t.trace i ≡ Some (happenings.Turn u) → u.node ≡ n → (st : Option Stmt) → u.input ≡ inputs.Call s st → ⊥)
        → CameBefore t (i + 1) n s c
    further is at other = record {
      moment = is.moment;
      before = omega (arith, is.before);
      turn = is.turn;
      stays = λ k from below. elim (below_or k i below) [ inl earlier ↦ is.stays k from earlier | inr same ↦ subst (λ j. call_at (past_upto t j).run_report n s ≡ Some c) (sym same) at ];
      last = λ k from below u there here st came. elim (below_or k i below) [
        | inl earlier ↦ is.last k from earlier u there here st came
        | inr same ↦ other u (subst (λ j. slice_get t.trace j ≡ Some (happenings.Turn u)) same there) here st came
      ];
    }

    comes_now : TurnOf t i n s c → CameBefore t (i + 1) n s c
    comes_now is = record {
      moment = i;
      before = omega arith;
      turn = is;
      stays = λ k from below. (let same : k ≡ i = omega (arith, from, below) in subst (λ j. call_at (past_upto t j).run_report n s ≡ Some c) (sym same) is.pending);
      last = λ k from below u there here st came. absurd (omega (arith, from, below));
    }

  module _ (run : IsTheRunOf t) (i : ℕ) (now : CallsSo i (past_upto t i)) where
    abbrev pub p : Past
    p = past_upto t i

    abbrev pub f : Facts
    f = p.facts

    abbrev pub told : RunReport
    told = p.run_report

    stands : StandsAt t.places t.commands t.of_a_script p
    stands = stand_at t run i

    pub due_there : (h : Happening) → slice_get t.trace i ≡ Some h → DueIs t.commands p h
    due_there h is = due_here t.places t.commands _ p stands.so.calls h (due_at t run i h is)

    -- ---- the turn of a call

    module _ (u : Turn) (there : slice_get t.trace i ≡ Some (happenings.Turn u)) where
      running_is : (facts_upto t i).command ≡ f.command
      running_is = ap (λ (g : Facts). g.command) (sym (facts_there t i))

      own_turn : (c : Call) → u.node ≡ c.node → u.input ≡ inputs.Call c.session c.statement → call_at told c.node c.session ≡ Some c → f.command ≡ c.command → HasShape t.commands c → TurnOf t i c.node c.session c
      own_turn c here came at runs (Plain text named own last) = record {
        turn = u;
        there = there;
        here = here;
        came = came;
        text = text;
        asked = named;
        brings = What_is_asked text own last (running_is ∙ runs);
        pending = at;
      }
      own_turn c here came at runs (Commits s named creates own then) = record {
        turn = u;
        there = there;
        here = here;
        came = came;
        text = Some s;
        asked = named;
        brings = A_commit_first s creates own then (running_is ∙ runs);
        pending = at;
      }

      second_turn : (c : Call) → u.node ≡ c.node → u.input ≡ inputs.Call c.session c.statement → told.next_call ≡ Some c → TurnOf t i c.node c.session c
      second_turn c here came follows =
          let second = now.next c follows in
          let past : c.command ≤ f.command = (subst (λ o. IfSome o (IsOf t.commands f.command)) follows stands.so.calls.next_of).past in record {
            turn = u;
            there = there;
            here = here;
            came = came;
            text = Some second.0.create;
            asked = second.0.named;
            brings = Then_the_create second.0.create second.0.creates second.0.own second.0.last (subst (λ r. c.command ≤ r) (sym running_is) past);
            pending = second.1;
          }

      pub its_turn : (is : ComesNow p u) → TurnOf t i is.call.node is.call.session is.call
      its_turn is = elim is.there [
        | inl own ↦ own_turn is.call is.here is.came own.0 own.1 (found_at t.commands told is.call.node is.call.session is.call now.shapes own.0).0
        | inr follows ↦ second_turn is.call is.here is.came follows
      ]

      -- ---- each pending call comes, or has come

      module _ (n s : ℕ) (c : Call) (at : call_at told n s ≡ Some c) where
        fresh_comes : (is : ComesNow p u) → is_fresh f.command told n s ≡ true → CameBefore t (i + 1) n s c
        fresh_comes is fresh =
            let parts = and_parts (is.call.node == n) (is.call.session == s) (sym (is.fresh n s) ∙ fresh) in
            let turn : TurnOf t i n s is.call = subst (λ j. TurnOf t i j s is.call) (same_number is.call.node n parts.0) (subst (λ j. TurnOf t i is.call.node j is.call) (same_number is.call.session s parts.1) (its_turn is)) in
            let it : Some is.call ≡ Some c = sym turn.pending ∙ at in
            let same : is.call ≡ c = cc in
            comes_now i n s c (subst (TurnOf t i n s) same turn)

        -- none that has come comes again
        not_again : DueIs t.commands p (happenings.Turn u) → is_fresh f.command told n s ≡ false → (v : Turn) → slice_get t.trace i ≡ Some (happenings.Turn v) → v.node ≡ n → (st : Option Stmt) → v.input ≡ inputs.Call s st → ⊥
        not_again due old v again here st came =
            let it : Some (happenings.Turn v) ≡ Some (happenings.Turn u) = sym again ∙ there in
            let same : v ≡ u = cc in
            elim due [
              | inl is ↦ (let both : inputs.Call is.call.session is.call.statement ≡ inputs.Call s st = sym is.came ∙ (ap (λ (x : Turn). x.input) (sym same) ∙ came) in
                  let session : is.call.session ≡ s = cc in
                  let node : is.call.node ≡ n = sym is.here ∙ (ap (λ (x : Turn). x.node) (sym same) ∙ here) in
                  let fresh : is_fresh f.command told n s ≡ true = is.fresh n s ∙ and_from (is.call.node == n) (is.call.session == s) (eq-eqb is.call.node n node) (eq-eqb is.call.session s session) in
                  absurd (cc (old, fresh)))
              | inr none ↦ (let call : is_call u.input ≡ true = ap (λ (x : Turn). is_call x.input) (sym same) ∙ ap is_call came in let no = none.2 in absurd (cc (no, call)))
            ]

        finds : DueIs t.commands p (happenings.Turn u) → CameBefore t (i + 1) n s c
        finds due = by (is_fresh f.command told n s) refl
          where
            by : (q : Bool) → is_fresh f.command told n s ≡ q → CameBefore t (i + 1) n s c
            by true fresh = elim due [
              | inl is ↦ fresh_comes is fresh
              | inr none ↦ (let old : is_fresh f.command told n s ≡ false = none.0 n s ∙ ap (λ o. follows_at o n s) none.1 in absurd (cc (old, fresh)))
            ]
            by false old = further i n s c (now.came n s c at old) at (not_again due old)

      pub turn_finds : (n s : ℕ) (c : Call) → call_at told n s ≡ Some c → CameBefore t (i + 1) n s c
      turn_finds n s c at = finds n s c at (due_there (happenings.Turn u) there)

      -- ---- after the turn

      quiet_or_call : DueIs t.commands p (happenings.Turn u) → is_call u.input ≡ false → told.next_call ≡ None
      quiet_or_call (inl is) other = let call : is_call u.input ≡ true = ap is_call is.came in absurd (cc (call, other))
      quiet_or_call (inr none) other = none.1

      abbrev pub before_end : Option TurnOutput → RunReport
      before_end o = without_following (delivered_more (turn_appends told u.node u.input (node_at f u.node) o) u.took) u.input

      pub before_so : (o : Option TurnOutput) → ToldBefore told (before_end o)
      before_so o = before_told told u.node u.input (node_at f u.node) o u.took (quiet_or_call (due_there (happenings.Turn u) there))

      few_end : (o : TurnOutput) → outcome_at t.places f u ≡ Some o → EndsFew o.ended
      few_end o comes =
          let may = may_at t run i (happenings.Turn u) there in
          let it : Some (turn_of (place_at t.places u.node) may.0 u.input) ≡ Some o = sym (ap (served (place_at t.places u.node) u.input) may.1.up) ∙ comes in
          let same : turn_of (place_at t.places u.node) may.0 u.input ≡ o = cc in
          subst (λ (x : TurnOutput). EndsFew x.ended) same (turn_leaves_so t.places t.commands t.of_a_script.each f stands.events stands.births stands.born stands.roots stands.so.live u may.0 may.1).few

      -- the calls are those before
      still_leads : (o : Option TurnOutput) (v : RunReport) → v.calls ≡ (before_end o).calls → v.next_call ≡ (before_end o).next_call → Leads t.commands told v
      still_leads o v calls next =
          let same : v.calls ≡ told.calls = calls ∙ (before_so o).calls in record {
            was = λ n s c at. inl (ap (find (is_call_at n s)) (sym same) ∙ at);
            shapes = subst (AreShaped t.commands) (sym same) now.shapes;
            next = λ c is. (let none : v.next_call ≡ None = next ∙ (before_so o).alone in absurd (cc (none, is)));
          }

      ended_leads : (o : TurnOutput) → outcome_at t.places f u ≡ Some o → (cut : Bool) → Leads t.commands told (acts (ends_calls f.command (before_end (Some o)) u cut (Some o)))
      ended_leads o comes true = still_leads (Some o) (acts (before_end (Some o))) refl refl
      ended_leads o comes false =
          let v : RunReport = before_end (Some o) in
          let same : v.calls ≡ told.calls = (before_so (Some o)).calls in
          let w : RunReport = finished f.command v u.node o.ended in
          let leads : Leads t.commands v w = ends_lead t.commands f.command u.node v o.ended (subst (AreShaped t.commands) (sym same) now.shapes) (before_so (Some o)).alone (few_end o comes) in
          let after = input_same w f.command u.node u.input in record {
            was = λ n s c at. elim (leads.was n s c (ap (find (is_call_at n s)) (sym after.0) ∙ at)) [
              | inl here ↦ inl (ap (find (is_call_at n s)) (sym same) ∙ here)
              | inr follows ↦ inr (after.1 ∙ follows.0, follows.1, ap (find (is_call_at n s)) (sym same) ∙ follows.2)
            ];
            shapes = subst (AreShaped t.commands) (sym after.0) leads.shapes;
            next = λ c is. (let it = leads.next c (sym after.1 ∙ is) in (it.0, ap (find (is_call_at c.node c.session)) after.0 ∙ it.1));
          }

      pub turn_leads : (o : Option TurnOutput) → outcome_at t.places f u ≡ o → Leads t.commands told (report_turned f.command (node_at f u.node) told u o)
      turn_leads None comes = by u.cut
        where
          by : (cut : Bool) → Leads t.commands told (acts (ends_calls f.command (before_end None) u cut None))
          by true = still_leads None (acts (before_end None)) refl refl
          by false = still_leads None (acts (before_end None)) refl refl
      turn_leads (Some o) comes = ended_leads o comes u.cut

      fresh_next : (v : RunReport) (n s : ℕ) (c : Call) → AreShaped t.commands v.calls → call_at v n s ≡ Some c → v.next_call ≡ Some c → is_fresh f.command v n s ≡ true
      fresh_next v n s c shapes at follows =
          let its = found_at t.commands v n s c shapes at in
          let it : follows_at v.next_call n s ≡ true = ap (λ o. follows_at o n s) follows ∙ and_from (c.node == n) (c.session == s) (eq-eqb c.node n its.1) (eq-eqb c.session s its.2) in
          ap (λ q. q || (not v.acted && is_own f.command (find (is_call_at n s) v.calls))) it

      pub turn_so : CallsSo (i + 1) (next t.places t.commands p (happenings.Turn u))
      unfolding next
      turn_so =
          let o : Option TurnOutput = outcome_at t.places f u in
          let v : RunReport = report_turned f.command (node_at f u.node) told u o in
          let leads : Leads t.commands told v = turn_leads o refl in record {
            shapes = leads.shapes;
            next = leads.next;
            came = λ n s c at old. elim (leads.was n s c at) [
              | inl here ↦ turn_finds n s c here
              | inr follows ↦ (let fresh : is_fresh f.command v n s ≡ true = fresh_next v n s c leads.shapes at follows.0 in absurd (cc (fresh, old)))
            ];
          }
