-- In the run of a script a client is told DTX-01 of its node where the node was down as the command began, or stopped while its call was
-- pending; and each call that is pending at a node that stops is told so.
use Rattle.std.proofs.Common.{◌≡◌, ℕ, zero, suc, ◌+◌, ◌==◌, ◌&&◌, ◌⊎◌, Bool, true, false, if◌then◌else◌, List, [], ◌∷◌, ◌++◌, length, slice_get, Option, Some, None, inl, inr, refl, sym, ap, subst, ◌∙◌, arith}
use Rattle.std.specs.Prelude.{is_some, take, codes}
use Rattle.std.specs.List.{AllByRecursion, list_any}
use Rattle.std.proofs.lemmas.Bool.{cond_both, eq-eqb, eqb-true, or_left, or_right}
use Rattle.net_bag.specs.Net.{first_flying}
use Rattle.node_rules.specs.Data.{Stmt}
use Rattle.node_rules.specs.NodeState.{NodeState, TurnOutput}
use Rattle.node_rules.specs.Ids.{decimal}
use Rattle.node_rules.specs.Refusals.{dtx, ora}
use Rattle.node_rules.specs.Words.{one}
use Rattle.run_rules.specs.Calls.{call_at, finished, stopped_calls}
use Rattle.run_rules.specs.Commands.{has_call, says_at_once}
use Rattle.run_rules.specs.Cuts.{appends}
use Rattle.run_rules.specs.Data.{Command, Said, Happening, Turn}
use Rattle.run_rules.specs.Data.commands
use Rattle.run_rules.specs.Data.happenings
use Rattle.run_rules.specs.Data.notices
use Rattle.run_rules.specs.Data.said
use Rattle.run_rules.specs.Disks.{struck}
use Rattle.run_rules.specs.Facts.{Facts, command_at, facts_after, is_up, node_at, outcome_at}
use Rattle.run_rules.specs.Lawful.{History}
use Rattle.run_rules.specs.Lines.{is_down, line, over_line, refuses_with, spent, with_own, with_stop}
use Rattle.run_rules.specs.Past.{acts, ends_calls, failed_start, is_stop_of, next, past, report_started, start_refused, started_says, stop_line}
use Rattle.run_rules.specs.RunReport.{Call, Past, RunReport, node_name, orders_at, start}
use Rattle.run_rules.specs.Scripts.{IsTheRunOf}
use Rattle.run_rules.proofs.AtNodeLemmas.{stop_here}
use Rattle.run_rules.proofs.ListLemmas.{all_append, all_weaker}
use Rattle.run_base_laws.proofs.TurnEventLemmas.{all_both}
use Rattle.run_claims.specs.Places.{command_pends, past_upto, reported_of}
use Rattle.run_ready_laws.proofs.PendingLemmas.{called_at, there_called}
use Rattle.answer_origin_laws.proofs.CallAtLemmas.{HasShape, found_at, named_so}
use Rattle.answer_origin_laws.proofs.CallTurnLemmas.{all_so}
use Rattle.answer_origin_laws.proofs.ComeLemmas.{before_end, before_so, due_there}
use Rattle.answer_origin_laws.proofs.NumberLemmas.{all_slice}
use Rattle.answer_origin_laws.proofs.SameToldLemmas.{ToldBefore}
use Rattle.answer_origin_laws.proofs.UptoLemmas.{may_at, none_more, one_more, stand_at}
use Rattle.answer_done_laws.proofs.LineRunLemmas.{stop_told, told_at_last}
use Rattle.commit_answer_laws.specs.DownLines.{DownLinesAreTrue, Has_stopped, IsDown, StoppedCallsAreTold, Was_down}
use Rattle.commit_answer_laws.proofs.LineHaveLemmas.{LineHas, LinesHave, finished_have, input_have, own_have, same_have, stopped_have, told_have}

-- ---- commands and what is said

-- the number of a refusal that no node says
abbrev code_in : Said → ℕ
code_in (said.World (notices.Refused r)) = r.code
code_in _ = 0

-- whether a command is a client's
abbrev is_call : Command → Bool
is_call (commands.At node session text) = true
is_call _ = false

abbrev IsCallAt : Command → Type 0
IsCallAt command = (node : ℕ) × (session : ℕ) × (text : Option Stmt) × (command ≡ commands.At node session text)

call_or : (command : Command) → IsCallAt command ⊎ (is_call command ≡ false)
call_or (commands.At node session text) = inl (node, session, text, refl)
call_or _ = inr refl

none_up : (o : Option NodeState) → is_some o ≡ false → o ≡ None
none_up None is = refl
none_up (Some k) is = absurd cc

-- each call is pending
each_pends : (cs : List Call) → AllByRecursion (λ (c : Call). list_any (λ (d : Call). d.command == c.command) cs ≡ true) cs
each_pends [] = tt
each_pends (c ∷ cs) = (
  or_left (c.command == c.command) (list_any (λ (d : Call). d.command == c.command) cs) (eq-eqb c.command c.command refl),
  all_weaker (λ (x : Call). list_any (λ (d : Call). d.command == x.command) cs ≡ true) (λ (x : Call). list_any (λ (d : Call). d.command == x.command) (c ∷ cs) ≡ true)
      (λ x some. or_right (c.command == x.command) (list_any (λ (d : Call). d.command == x.command) cs) some) cs (each_pends cs),
)

take_none : {A : Type 0} (xs : List A) → take 0 xs ≡ []
take_none [] = refl
take_none (x ∷ xs) = refl

take_whole : {A : Type 0} (xs : List A) → take (length xs) xs ≡ xs
take_whole [] = refl
take_whole (x ∷ xs) = ap (λ ys. x ∷ ys) (take_whole xs)

module _ (t : History) (run : IsTheRunOf t) where
  -- what a line that says DTX-01 of a client's node has
  abbrev Downs : ℕ → Said → Type 0
  Downs c s = (node session : ℕ) (text : Option Stmt) → command_at t.commands c ≡ commands.At node session text → s ≡ is_down t.places node → IsDown t c node

  -- what says something else
  plain : (c : ℕ) (s : Said) → (code_in s ≡ 60001 → ⊥) → Downs c s
  plain c s other node session text at is = absurd (other (ap code_in is))

  -- what is said of a command that is no client's
  not_called : (c : ℕ) (command : Command) → command_at t.commands c ≡ command → is_call command ≡ false → (s : Said) → Downs c s
  not_called c command is none s node session text at down = absurd (let some : is_call command ≡ true = ap is_call (sym is ∙ at) in cc (some, none))

  each_not : (c : ℕ) (command : Command) → command_at t.commands c ≡ command → is_call command ≡ false → (xs : List Said) → AllByRecursion (Downs c) xs
  each_not c command is none [] = tt
  each_not c command is none (x ∷ xs) = (not_called c command is none x, each_not c command is none xs)

  abbrev Have : Past → Type 0
  Have p = LinesHave Downs p.facts.command p.run_report

  module _ (i : ℕ) (now : Have (past_upto t i)) where
    abbrev p : Past
    p = past_upto t i

    abbrev f : Facts
    f = p.facts

    abbrev told : RunReport
    told = p.run_report

    abbrev running : ℕ
    running = f.command

    -- ---- a command begins

    at_once : (c : ℕ) → slice_get t.trace i ≡ Some (happenings.Begun c) → (node session : ℕ) (text : Option Stmt) → command_at t.commands c ≡ commands.At node session text
        → AllByRecursion (Downs c) (says_at_once t.places f told (commands.At node session text))
    at_once c there node session text at =
        cond_both (is_up f node) (if has_call told node session then one (refuses_with (dtx 4 [])) else []) (one (is_down t.places node)) (AllByRecursion (Downs c))
        (λ up. cond_both (has_call told node session) (one (refuses_with (dtx 4 []))) [] (AllByRecursion (Downs c)) (λ has. (plain c (refuses_with (dtx 4 [])) (λ same. omega (arith, same)), tt)) (λ none. tt))
        (λ down. (
          λ n s x named says. (let both : commands.At node session text ≡ commands.At n s x = sym at ∙ named in
              let here : node ≡ n = cc in
              Was_down i there (subst (λ m. node_at f m ≡ None) here (none_up (node_at f node) down))),
          tt,
        ))

    says_have : (c : ℕ) → slice_get t.trace i ≡ Some (happenings.Begun c) → (command : Command) → command_at t.commands c ≡ command → AllByRecursion (Downs c) (says_at_once t.places f told command)
    says_have c there command is = elim (call_or command) [
      | inl at ↦ subst (λ x. AllByRecursion (Downs c) (says_at_once t.places f told x)) (sym at.3) (at_once c there at.0 at.1 at.2 (is ∙ at.3))
      | inr none ↦ each_not c command is none (says_at_once t.places f told command)
    ]

    over_have : AllByRecursion (Downs running) (over_line f told)
    over_have =
        cond_both (spent told.deliveries && is_some (first_flying f.net)) (one (refuses_with (dtx 5 []))) [] (AllByRecursion (Downs running)) (λ over. (plain running (refuses_with (dtx 5 [])) (λ same. omega (arith, same)), tt)) (λ none. tt)

    begun_have : (c : ℕ) → slice_get t.trace i ≡ Some (happenings.Begun c) → Have (next t.places t.commands p (happenings.Begun c))
    unfolding next facts_after
    begun_have c there = record { lines = told_have Downs f told over_have now; own = says_have c there (command_at t.commands c) refl; others = tt; stops = tt }

    -- ---- a turn

    abbrev reached : (c n : ℕ) → Downs c (refuses_with (ora 2059 (one (decimal n))))
    reached c n = plain c (refuses_with (ora 2059 (one (decimal n)))) (λ same. omega (arith, same))

    module _ (u : Turn) (there : slice_get t.trace i ≡ Some (happenings.Turn u)) where
      turn_by : (o : Option TurnOutput) (cut : Bool) → LinesHave Downs running (ends_calls running (before_end t run i (all_so t run i) u there o) u cut o)
      turn_by o cut = by cut o (same_have Downs running told (before_end t run i (all_so t run i) u there o) same.page same.lines now)
        where
          same : ToldBefore told (before_end t run i (all_so t run i) u there o)
          same = before_so t run i (all_so t run i) u there o

          by : (cut : Bool) (x : Option TurnOutput) → LinesHave Downs running (before_end t run i (all_so t run i) u there o) → LinesHave Downs running (ends_calls running (before_end t run i (all_so t run i) u there o) u cut x)
          by true x have = have
          by false None have = have
          by false (Some y) have =
              input_have Downs running (plain running (said.World notices.Waiting) (λ same. omega (arith, same))) (finished running (before_end t run i (all_so t run i) u there o) u.node y.ended)
              (finished_have Downs running reached (λ c a. plain c (said.Node a) (λ same. omega (arith, same))) u.node (before_end t run i (all_so t run i) u there o) y.ended have) u.node u.input

      turn_have : Have (next t.places t.commands p (happenings.Turn u))
      unfolding next
      turn_have =
          let o : Option TurnOutput = outcome_at t.places f u in
          let x : RunReport = ends_calls running (before_end t run i (all_so t run i) u there o) u u.cut o in
          same_have Downs running x (acts x) refl refl (turn_by o u.cut)

    -- ---- a node stops

    module _ (n : ℕ) (there : slice_get t.trace i ≡ Some (happenings.Stopped n)) where
      abbrev command : Command
      command = command_at t.commands running

      refused_have : LinesHave Downs running (start_refused t.places f told command n)
      refused_have = elim (call_or command) [
        | inl at ↦ subst (λ x. LinesHave Downs running (start_refused t.places f told x n)) (sym at.3) now
        | inr none ↦ cond_both (failed_start f command n) (with_own (appends told n 3) (one (is_down t.places n))) told (LinesHave Downs running)
            (λ failed. own_have Downs running (appends told n 3) (is_down t.places n ∷ []) (not_called running command refl none (is_down t.places n), tt) (same_have Downs running told (appends told n 3) refl refl now)) (λ other. now)
      ]

      one_down : (c : Call) → HasShape t.commands c × (command_pends t i c.command ≡ true) → (c.node == n) ≡ true → Downs c.command (is_down t.places n)
      one_down c so mine node session text at says =
          let named = named_so t.commands c so.0 in
          let both : commands.At c.node c.session named.0 ≡ commands.At node session text = sym named.1 ∙ at in
          let here : c.node ≡ node = cc in
          Has_stopped i (subst (λ m. slice_get t.trace i ≡ Some (happenings.Stopped m)) (sym (eqb-true c.node n mine) ∙ here) there) so.1

      abbrev falls : RunReport
      falls = record (start_refused t.places f told command n) { start_to_stop = None }

      abbrev left : RunReport
      left = stopped_calls t.places running falls n told.calls

      left_have : LinesHave Downs running left
      left_have =
          stopped_have Downs running reached t.places n falls told.calls
          (all_weaker (λ (c : Call). HasShape t.commands c × (command_pends t i c.command ≡ true)) (λ (c : Call). (c.node == n) ≡ true → Downs c.command (is_down t.places n)) one_down told.calls
          (all_both (HasShape t.commands) (λ (c : Call). command_pends t i c.command ≡ true) told.calls (all_so t run i).shapes (each_pends told.calls)))
          (same_have Downs running (start_refused t.places f told command n) falls refl refl refused_have)

      stop_have : LinesHave Downs running (stop_line t.places left command n)
      stop_have =
          cond_both (is_stop_of command n) left (with_stop t.places left n) (LinesHave Downs running) (λ own. left_have)
          (λ other. record {
            lines = left_have.lines;
            own = left_have.own;
            others = left_have.others;
            stops = all_append (Downs running) left.page.stops _ left_have.stops (plain running (said.World (notices.Shown (one (codes "node " ++ node_name t.places n ++ codes " stopped")))) (λ same. omega (arith, same)), tt);
          })

      stopped_so : Have (next t.places t.commands p (happenings.Stopped n))
      unfolding next facts_after
      stopped_so = same_have Downs running (stop_line t.places left command n) (acts (stop_line t.places left command n)) refl refl stop_have

    -- ---- a node starts

    started_have : (n boot : ℕ) → slice_get t.trace i ≡ Some (happenings.Started n boot) → Have (next t.places t.commands p (happenings.Started n boot))
    unfolding next facts_after
    started_have n boot there =
        let at : command_at t.commands running ≡ commands.Start n = (due_there t run i (all_so t run i) (happenings.Started n boot) there).2 in
        let said_now : RunReport = with_own (appends told n 3) (started_says t.places n (struck 3 (orders_at told n))) in
        same_have Downs running said_now (acts (report_started t.places told n (struck 3 (orders_at told n)))) refl refl
        (own_have Downs running (appends told n 3) (started_says t.places n (struck 3 (orders_at told n))) (each_not running (commands.Start n) at refl (started_says t.places n (struck 3 (orders_at told n))))
        (same_have Downs running told (appends told n 3) refl refl now))

    -- ---- each happening

    one_have : (h : Happening) → slice_get t.trace i ≡ Some h → Have (next t.places t.commands p h)
    unfolding next facts_after
    one_have (happenings.Turn u) there = turn_have u there
    one_have (happenings.Begun c) there = begun_have c there
    one_have (happenings.Stopped n) there = stopped_so n there
    one_have (happenings.Started n boot) there = started_have n boot there
    one_have (happenings.Cut a b) there = same_have Downs running told (acts told) refl refl now
    one_have (happenings.Join a b) there = same_have Downs running told (acts told) refl refl now
    one_have (happenings.Lost k) there = same_have Downs running told (acts told) refl refl now

    further_have : Have (past_upto t (i + 1))
    further_have = by (slice_get t.trace i) refl
      where
        by : (o : Option Happening) → slice_get t.trace i ≡ o → Have (past_upto t (i + 1))
        by None none = subst Have (sym (none_more t i none)) now
        by (Some h) there = subst Have (sym (one_more t i h there)) (one_have h there)

  first_have : Have (past_upto t 0)
  unfolding past
  first_have = subst (λ hs. Have (past t.places t.commands (start t.places) hs)) (sym (take_none t.trace)) (record { lines = tt; own = tt; others = tt; stops = tt })

  all_have : (i : ℕ) → Have (past_upto t i)
  all_have zero = first_have
  all_have (suc i) = (let next_one : i + 1 ≡ suc i = omega arith in subst (λ j. Have (past_upto t j)) next_one (further_have i (all_have i)))

  end_over : (q : Past) → AllByRecursion (Downs q.facts.command) (over_line q.facts q.run_report)
  end_over q =
      cond_both (spent q.run_report.deliveries && is_some (first_flying q.facts.net)) (one (refuses_with (dtx 5 []))) [] (AllByRecursion (Downs q.facts.command))
      (λ over. (plain q.facts.command (refuses_with (dtx 5 [])) (λ same. omega (arith, same)), tt)) (λ none. tt)

  pub down_lines_are_true : DownLinesAreTrue t
  down_lines_are_true i command node session text at says =
      let q : Past = past t.places t.commands (start t.places) t.trace in
      let have : Have q = subst (λ hs. Have (past t.places t.commands (start t.places) hs)) (take_whole t.trace) (all_have (length t.trace)) in
      all_slice (LineHas Downs) (reported_of t) i (line command (is_down t.places node)) (told_have Downs q.facts q.run_report (end_over q) have) says node session text at refl

  -- ---- calls that a stop ends

  none_left : (i n : ℕ) → slice_get t.trace i ≡ Some (happenings.Stopped n) → (s : ℕ) → called_at (past_upto t (i + 1)).run_report.calls n s ≡ false
  unfolding next facts_after
  none_left i n there s =
      let may = may_at t run i (happenings.Stopped n) there in
      let stands = stand_at t run i in
      let one_on = one_more t i (happenings.Stopped n) there in
      (stand_at t run (i + 1)).so.calls.down n
      (subst (λ (q : Past). node_at q.facts n ≡ None) (sym one_on) (stop_here t.places t.commands (past_upto t i).facts stands.born.0.0.even n may.0.0 (let many = stands.so.many in omega (arith, may.0.1, many))).0)
      (subst (λ (q : Past). q.facts.node_to_stop ≡ Some n → ⊥) (sym one_on) (λ stop. none_stops stop)) s
    where
      none_stops : None ≡ Some n → ⊥
      none_stops stop = absurd cc

  pub stopped_calls_are_told : StoppedCallsAreTold t
  stopped_calls_are_told i node session c there at =
      let found = found_at t.commands (past_upto t i).run_report node session c (all_so t run i).shapes at in
      let name = named_so t.commands c found.0 in
      let named : command_at t.commands c.command ≡ commands.At node session name.0 = name.1 ∙ (ap (λ n. commands.At n c.session name.0) found.1 ∙ ap (λ s. commands.At node s name.0) found.2) in
      told_at_last t run c.command node session name.0 named (is_down t.places node) (i + 1)
      (stop_told t run c.command node session name.0 named (is_down t.places node) i node there refl refl c at refl (none_by (call_at (past_upto t (i + 1)).run_report node session) refl (none_left i node there session)))
    where
      none_by : (o : Option Call) → call_at (past_upto t (i + 1)).run_report node session ≡ o → called_at (past_upto t (i + 1)).run_report.calls node session ≡ false → o ≡ None
      none_by None is none = refl
      none_by (Some d) is none = (let some : called_at (past_upto t (i + 1)).run_report.calls node session ≡ true = there_called node session (past_upto t (i + 1)).run_report.calls d is in absurd (cc (none, some)))
