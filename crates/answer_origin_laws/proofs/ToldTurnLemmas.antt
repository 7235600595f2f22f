-- Each line of a run that has the answer of a node comes from a turn that ended the pending call of its command.
use Rattle.std.proofs.Common.{◌≡◌, ℕ, ◌+◌, ◌==◌, ◌&&◌, not, Bool, true, false, List, [], ◌∷◌, ◌++◌, find, length, slice_get, is_none, Option, Some, None, refl, sym, ap, subst, ◌∙◌, append-nil}
use Rattle.std.specs.Prelude.{take}
use Rattle.std.specs.List.{AllByRecursion}
use Rattle.std.proofs.lemmas.Bool.{cond_both}
use Rattle.std.proofs.lemmas.List.{append_assoc}
use Rattle.node_rules.specs.Data.{Answer, Input, Place, Stmt}
use Rattle.node_rules.specs.Data.inputs
use Rattle.node_rules.specs.NodeState.{NodeState, TurnOutput}
use Rattle.run_rules.specs.Calls.{is_call_at, call_at, waits, waits_if_pending, after_input, finished, stopped_calls}
use Rattle.run_rules.specs.Commands.{commits_first, has_transaction, call_of, has_call, calls_after, says_at_once}
use Rattle.run_rules.specs.Cuts.{appends, turn_appends}
use Rattle.run_rules.specs.Data.{AnswerLine, Command, Happening, Said, Took, Turn}
use Rattle.run_rules.specs.Data.commands
use Rattle.run_rules.specs.Data.happenings
use Rattle.run_rules.specs.Data.said
use Rattle.run_rules.specs.Disks.{Strike, struck}
use Rattle.run_rules.specs.Facts.{Facts, command_at, is_up, node_at, outcome_at, first_facts, facts_after, facts_of}
use Rattle.run_rules.specs.Lines.{is_down, with_own, with_stop}
use Rattle.run_rules.proofs.ListLemmas.{all_append}
use Rattle.run_rules.specs.Past.{delivered_more, is_call, without_following, ends_calls, acts, report_turned, failed_start, start_refused, is_stop_of, stop_line, started_says, report_started, next, past}
use Rattle.run_claims.specs.Places.{node_line}
use Rattle.run_rules.specs.RunReport.{Call, Past, RunReport, orders_at, start}
use Rattle.answer_origin_laws.proofs.SameToldLemmas.{SameTold, then_told, turn_told, took_told}
use Rattle.answer_origin_laws.specs.ToldLaws.{LinesComeFromTurns}
use Rattle.answer_origin_laws.proofs.ToldCallLemmas.{AreNamed, IsNamed, call_named, were_same, Left, all_left, stopped_named}
use Rattle.answer_origin_laws.proofs.ToldLineLemmas.{LineFrom, LinesFrom, From, world_from, told_from, same_from, own_from, finished_from, stopped_from, says_world, started_world}
use Rattle.answer_origin_laws.proofs.NumberLemmas.{all_slice, take_more}
use Rattle.answer_origin_laws.proofs.ReplyStandLemmas.{happens_at, prefix}

-- ---- what leaves calls and lines

-- The same calls are pending and the same is told.
record StaysTold (t u : RunReport) : Type 0 where
  calls : u.calls ≡ t.calls
  page : u.page ≡ t.page
  lines : u.lines ≡ t.lines

-- so it is before a turn's calls end
before_told : (t : RunReport) (n : ℕ) (input : Input) (k : Option NodeState) (o : Option TurnOutput) (took : Option Took) → StaysTold t (without_following (delivered_more (turn_appends t n input k o) took) input)
before_told t n input k o took =
    let u : RunReport = turn_appends t n input k o in
    let v : RunReport = delivered_more u took in
    let same : SameTold t v = then_told t u v (turn_told t n input k o) (took_told u took) in
    let stays : StaysTold t v = record { calls = same.calls; page = same.page; lines = same.lines } in
    cond_both (is_call input) (record v { next_call = None }) v (StaysTold t) (λ call. record { calls = same.calls; page = same.page; lines = same.lines }) (λ other. stays)

-- what is said after a turn
module _ (P : ℕ → Answer → Type 0) (running : ℕ) (t : RunReport) where
  abbrev Waiting : RunReport → Type 0
  Waiting u = (u.calls ≡ t.calls) × (LinesFrom P running t → LinesFrom P running u)

  waits_so : Waiting (waits t)
  waits_so = cond_both (t.hold && is_none t.next_call) _ t Waiting (λ on. (refl, own_from P running t _ (tt, tt))) (λ off. (refl, λ now. now))

  pending_so : (o : Option Call) → Waiting (waits_if_pending running t o)
  pending_so None = (refl, λ now. now)
  pending_so (Some c) = cond_both (c.command == running) (waits t) t Waiting (λ own. waits_so) (λ other. (refl, λ now. now))

  input_so : (node : ℕ) (input : Input) → Waiting (after_input running t node input)
  input_so node (inputs.Call session s) = pending_so (call_at t node session)
  input_so node (inputs.GiveUp session) = (refl, λ now. now)
  input_so node (inputs.Message m) = (refl, λ now. now)
  input_so node inputs.Reco = (refl, λ now. now)
  input_so node inputs.Checkpoint = (refl, λ now. now)

-- ---- a run so far

module _ (places : List Place) (asked : List Command) where
  abbrev p_at : List Happening → Past
  p_at hs = past places asked (start places) hs

  -- A turn of these happenings ended the call of a command with this answer.
  record EndedIn (hs : List Happening) (command : ℕ) (a : Answer) : Type 0 where
    before : List Happening
    turn : Turn
    rest : List Happening
    is : before ++ happenings.Turn turn ∷ rest ≡ hs
    uncut : turn.cut ≡ false
    outcome : TurnOutput
    comes : outcome_at places (p_at before).facts turn ≡ Some outcome
    session : ℕ
    number : ℕ
    answers : slice_get outcome.ended number ≡ Some (record { session = session; answer = a })
    call : Call
    pending : call_at (p_at before).run_report turn.node session ≡ Some call
    its : call.command ≡ command
    text : Option Stmt
    at : command_at asked command ≡ commands.At turn.node session text
    over : call_at (next places asked (p_at before) (happenings.Turn turn)).run_report turn.node session ≡ None

  -- What stands of the calls and the lines so far.
  record ToldSo (hs : List Happening) (p : Past) : Type 0 where
    named : AreNamed asked p.run_report
    lines : LinesFrom (EndedIn hs) p.facts.command p.run_report

  module _ (hs : List Happening) (h : Happening) where
    widen : (command : ℕ) (a : Answer) → EndedIn hs command a → EndedIn (hs ++ h ∷ []) command a
    widen command a e = record {
      before = e.before;
      turn = e.turn;
      rest = e.rest ++ h ∷ [];
      is = sym (append_assoc e.before (happenings.Turn e.turn ∷ e.rest) (h ∷ [])) ∙ ap (λ xs. xs ++ h ∷ []) e.is;
      uncut = e.uncut;
      outcome = e.outcome;
      comes = e.comes;
      session = e.session;
      number = e.number;
      answers = e.answers;
      call = e.call;
      pending = e.pending;
      its = e.its;
      text = e.text;
      at = e.at;
      over = e.over;
    }

    abbrev More : ℕ → Answer → Type 0
    More = EndedIn (hs ++ h ∷ [])

    from_more : (c : ℕ) (s : Said) → From (EndedIn hs) c s → From More c s
    from_more c (said.Node a) is = widen c a is
    from_more c (said.World n) is = tt

    own_more : (c : ℕ) (xs : List Said) → AllByRecursion (From (EndedIn hs) c) xs → AllByRecursion (From More c) xs
    own_more c [] all = tt
    own_more c (x ∷ xs) all = (from_more c x all.0, own_more c xs all.1)

    lines_more : (xs : List AnswerLine) → AllByRecursion (LineFrom (EndedIn hs)) xs → AllByRecursion (LineFrom More) xs
    lines_more [] all = tt
    lines_more (x ∷ xs) all = (from_more x.command x.said all.0, lines_more xs all.1)

    told_more : (c : ℕ) (t : RunReport) → LinesFrom (EndedIn hs) c t → LinesFrom More c t
    told_more c t now = record { lines = lines_more t.lines now.lines; own = own_more c t.page.own now.own; others = lines_more t.page.others now.others; stops = own_more c t.page.stops now.stops }

  -- ---- a turn

  module _ (hs : List Happening) (u : Turn) (now : ToldSo hs (p_at hs)) where
    abbrev h : Happening
    h = happenings.Turn u

    abbrev f : Facts
    f = (p_at hs).facts

    abbrev t : RunReport
    t = (p_at hs).run_report

    abbrev P : ℕ → Answer → Type 0
    P = EndedIn (hs ++ h ∷ [])

    wide : LinesFrom P f.command t
    wide = told_more hs h f.command t now.lines

    module _ (o : Option TurnOutput) (comes : outcome_at places f u ≡ o) where
      abbrev t1 : RunReport
      t1 = without_following (delivered_more (turn_appends t u.node u.input (node_at f u.node) o) u.took) u.input

      same : StaysTold t t1
      same = before_told t u.node u.input (node_at f u.node) o u.took

      named1 : AreNamed asked t1
      named1 = subst (AllByRecursion (IsNamed asked)) (sym same.calls) now.named

      from1 : LinesFrom P f.command t1
      from1 = same_from P f.command t t1 same.page same.lines wide

      abbrev After : RunReport → Type 0
      After v = AreNamed asked v × LinesFrom P f.command v

    abbrev whole_told : Option TurnOutput → RunReport
    whole_told o = report_turned f.command (node_at f u.node) t u o

    none_too : (x y : RunReport) → x.calls ≡ y.calls → (n s : ℕ) → call_at y n s ≡ None → call_at x n s ≡ None
    none_too x y same n s none = ap (find (is_call_at n s)) same ∙ none

    ends_so : (uncut : u.cut ≡ false) (o : TurnOutput) (comes : outcome_at places f u ≡ Some o) → After (Some o) comes (ends_calls f.command (t1 (Some o) comes) u false (Some o))
    unfolding next
    ends_so uncut o comes =
        let v : RunReport = t1 (Some o) comes in
        let w : RunReport = finished f.command v u.node o.ended in
        let left : Left asked u.node v w = all_left asked u.node f.command v o.ended (named1 (Some o) comes) in
        let after = input_so P f.command w u.node u.input in (
          subst (AllByRecursion (IsNamed asked)) (sym after.0) left.named,
          after.1 (finished_from P f.command asked u.node t v o.ended (named1 (Some o) comes) (were_same asked u.node t v (same (Some o) comes).calls) (from1 (Some o) comes)
              (λ number e at d found none. (let its = call_named asked t u.node e.session d now.named found in record {
                before = hs;
                turn = u;
                rest = [];
                is = refl;
                uncut = uncut;
                outcome = o;
                comes = comes;
                session = e.session;
                number = number;
                answers = at;
                call = d;
                pending = found;
                its = refl;
                text = its.0.0;
                at = its.0.1 ∙ (ap (λ n. commands.At n d.session its.0.0) its.1 ∙ ap (λ s. commands.At u.node s its.0.0) its.2);
                over = ap (λ q. call_at (whole_told q) u.node e.session) comes ∙ (ap (λ c. call_at (ends_calls f.command v u c (Some o)) u.node e.session) uncut ∙ none_too (ends_calls f.command v u false (Some o)) w after.0 u.node e.session none);
              }))),
        )

    by_cut : (c : Bool) → u.cut ≡ c → (o : Option TurnOutput) (comes : outcome_at places f u ≡ o) → After o comes (ends_calls f.command (t1 o comes) u c o)
    by_cut true cut o comes = (named1 o comes, from1 o comes)
    by_cut false cut None comes = (named1 None comes, from1 None comes)
    by_cut false cut (Some o) comes = ends_so cut o comes

    turn_so : ToldSo (hs ++ h ∷ []) (next places asked (p_at hs) h)
    unfolding next
    turn_so =
        let o : Option TurnOutput = outcome_at places f u in
        let x : RunReport = ends_calls f.command (t1 o refl) u u.cut o in
        let it = by_cut u.cut refl o refl in
        record { named = it.0; lines = same_from P f.command x (acts x) refl refl it.1 }

  -- ---- what else happens

  module _ (hs : List Happening) (now : ToldSo hs (p_at hs)) where
    abbrev f0 : Facts
    f0 = (p_at hs).facts

    abbrev t0 : RunReport
    t0 = (p_at hs).run_report

    same_so : (P : ℕ → Answer → Type 0) (c : ℕ) (u : RunReport) → LinesFrom P c u → LinesFrom P c (acts u)
    same_so P c u lines = same_from P c u (acts u) refl refl lines

    -- a command begins
    call_of_named : (c node session : ℕ) (st : Option Stmt) (has : Bool) → command_at asked c ≡ commands.At node session st → IsNamed asked (call_of c node session st has)
    call_of_named c node session None has is = (None, is)
    call_of_named c node session (Some s) has is = cond_both (commits_first s && has) _ _ (IsNamed asked) (λ first. (Some s, is)) (λ alone. (Some s, is))

    calls_named : (c : ℕ) (command : Command) → command_at asked c ≡ command → AllByRecursion (IsNamed asked) (calls_after f0 t0 c command)
    calls_named c (commands.At node session st) is =
        let new : Call = call_of c node session st (has_transaction (node_at f0 node) session) in
        cond_both (is_up f0 node && not (has_call t0 node session)) (t0.calls ++ new ∷ []) t0.calls (AllByRecursion (IsNamed asked))
        (λ made. all_append (IsNamed asked) t0.calls (new ∷ []) now.named (call_of_named c node session st (has_transaction (node_at f0 node) session) is, tt)) (λ other. now.named)
    calls_named c _ is = now.named

    begun_so : (c : ℕ) → ToldSo (hs ++ happenings.Begun c ∷ []) (next places asked (p_at hs) (happenings.Begun c))
    unfolding next facts_after
    begun_so c =
        let P : ℕ → Answer → Type 0 = EndedIn (hs ++ happenings.Begun c ∷ []) in record {
          named = calls_named c (command_at asked c) refl;
          lines = record {
            lines = told_from P f0 t0 (told_more hs (happenings.Begun c) f0.command t0 now.lines);
            own = world_from P c (says_at_once places f0 t0 (command_at asked c)) (says_world places f0 t0 (command_at asked c));
            others = tt;
            stops = tt;
          };
        }

    -- a node stops
    stopped_so : (n : ℕ) → ToldSo (hs ++ happenings.Stopped n ∷ []) (next places asked (p_at hs) (happenings.Stopped n))
    unfolding next facts_after
    stopped_so n =
        let P : ℕ → Answer → Type 0 = EndedIn (hs ++ happenings.Stopped n ∷ []) in
        let wide : LinesFrom P f0.command t0 = told_more hs (happenings.Stopped n) f0.command t0 now.lines in
        let command : Command = command_at asked f0.command in
        let refused : RunReport = start_refused places f0 t0 command n in
        let refused_so : AreNamed asked refused × LinesFrom P f0.command refused
        = cond_both (failed_start f0 command n) (record (appends t0 n 3) { page = record t0.page { own = (is_down places n) ∷ [] } }) t0 (λ u. AreNamed asked u × LinesFrom P f0.command u)
        (λ failed. (now.named, own_from P f0.command (appends t0 n 3) ((is_down places n) ∷ []) (tt, tt) (same_from P f0.command t0 (appends t0 n 3) refl refl wide))) (λ other. (now.named, wide)) in
        let falls : RunReport = record refused { start_to_stop = None } in
        let left : RunReport = stopped_calls places f0.command falls n t0.calls in
        let left_named : AreNamed asked left = stopped_named asked places f0.command n falls t0.calls refused_so.0 in
        let left_from : LinesFrom P f0.command left = stopped_from P f0.command places n falls t0.calls (same_from P f0.command refused falls refl refl refused_so.1) in
        let stop : RunReport = stop_line places left command n in
        let stop_so : AreNamed asked stop × LinesFrom P f0.command stop
        = cond_both (is_stop_of command n) left (with_stop places left n) (λ u. AreNamed asked u × LinesFrom P f0.command u) (λ own. (left_named, left_from))
        (λ other. (left_named, record { lines = left_from.lines; own = left_from.own; others = left_from.others; stops = all_append (From P f0.command) left.page.stops _ left_from.stops (tt, tt) })) in
        record { named = stop_so.0; lines = same_so P f0.command stop stop_so.1 }

    -- a node starts
    started_so : (n boot : ℕ) → ToldSo (hs ++ happenings.Started n boot ∷ []) (next places asked (p_at hs) (happenings.Started n boot))
    unfolding next facts_after
    started_so n boot =
        let P : ℕ → Answer → Type 0 = EndedIn (hs ++ happenings.Started n boot ∷ []) in
        let wide : LinesFrom P f0.command t0 = told_more hs (happenings.Started n boot) f0.command t0 now.lines in
        let strike : Option Strike = struck 3 (orders_at t0 n) in
        let said : RunReport = with_own (appends t0 n 3) (started_says places n strike) in
        let said_from : LinesFrom P f0.command said = own_from P f0.command (appends t0 n 3) (started_says places n strike) (started_world places n strike) (same_from P f0.command t0 (appends t0 n 3) refl refl wide) in
        let it : RunReport = report_started places t0 n strike in
        record { named = now.named; lines = same_so P f0.command it (same_from P f0.command said it refl refl said_from) }

    -- one happening more
    happens_so : (h : Happening) → ToldSo (hs ++ h ∷ []) (next places asked (p_at hs) h)
    unfolding next facts_after
    happens_so (happenings.Turn u) = turn_so hs u now
    happens_so (happenings.Begun c) = begun_so c
    happens_so (happenings.Stopped n) = stopped_so n
    happens_so (happenings.Started n boot) = started_so n boot
    happens_so (happenings.Cut a b) = record { named = now.named; lines = same_so _ f0.command t0 (told_more hs (happenings.Cut a b) f0.command t0 now.lines) }
    happens_so (happenings.Join a b) = record { named = now.named; lines = same_so _ f0.command t0 (told_more hs (happenings.Join a b) f0.command t0 now.lines) }
    happens_so (happenings.Lost k) = record { named = now.named; lines = same_so _ f0.command t0 (told_more hs (happenings.Lost k) f0.command t0 now.lines) }

  -- ---- the whole run

  past_on : (p : Past) (hs : List Happening) (h : Happening) → past places asked p (hs ++ h ∷ []) ≡ next places asked (past places asked p hs) h
  unfolding past
  past_on p [] h = refl
  past_on p (x ∷ hs) h = past_on (next places asked p x) hs h

  next_facts : (p : Past) (h : Happening) → (next places asked p h).facts ≡ facts_after places asked p.facts h
  unfolding next facts_after
  next_facts p (happenings.Turn u) = refl
  next_facts p (happenings.Begun c) = refl
  next_facts p (happenings.Cut a b) = refl
  next_facts p (happenings.Join a b) = refl
  next_facts p (happenings.Lost k) = refl
  next_facts p (happenings.Stopped n) = refl
  next_facts p (happenings.Started n boot) = refl

  past_facts : (p : Past) (hs : List Happening) → (past places asked p hs).facts ≡ facts_of places asked p.facts hs
  unfolding past facts_of
  past_facts p [] = refl
  past_facts p (h ∷ hs) = past_facts (next places asked p h) hs ∙ ap (λ f. facts_of places asked f hs) (next_facts p h)

  told_on : (all hs rest : List Happening) → hs ++ rest ≡ all → ToldSo hs (p_at hs) → ToldSo all (p_at all)
  told_on all hs [] is now = subst (λ xs. ToldSo xs (p_at xs)) (sym (append-nil hs) ∙ is) now
  told_on all hs (h ∷ rest) is now = told_on all (hs ++ h ∷ []) rest (append_assoc hs (h ∷ []) rest ∙ is) (subst (ToldSo (hs ++ h ∷ [])) (sym (past_on (start places) hs h)) (happens_so hs now h))

  told_first : ToldSo [] (p_at [])
  unfolding past
  told_first = record { named = tt; lines = record { lines = tt; own = tt; others = tt; stops = tt } }

  told_all : (hs : List Happening) → ToldSo hs (p_at hs)
  told_all hs = told_on hs [] hs refl told_first

pub lines_come_from_turns : LinesComeFromTurns
lines_come_from_turns t i command a at =
    let all : ToldSo t.places t.commands t.trace (p_at t.places t.commands t.trace) = told_all t.places t.commands t.trace in
    let P : ℕ → Answer → Type 0 = EndedIn t.places t.commands t.trace in
    let e : EndedIn t.places t.commands t.trace command a
    = all_slice (LineFrom P) _ i (node_line command a) (told_from P (p_at t.places t.commands t.trace).facts (p_at t.places t.commands t.trace).run_report all.lines) at in
    let h : Happening = happenings.Turn e.turn in
    let upto : take (length e.before) t.trace ≡ e.before = prefix t e.before h e.rest e.is in
    let more : take (length e.before + 1) t.trace ≡ e.before ++ h ∷ [] = ap (take (length e.before + 1)) (sym e.is) ∙ take_more e.before h e.rest in record {
      ended = length e.before;
      turn = e.turn;
      there = happens_at t e.before h e.rest e.is;
      uncut = e.uncut;
      outcome = e.outcome;
      comes = ap (λ f. outcome_at t.places f e.turn)
          (ap (λ xs. facts_of t.places t.commands (first_facts t.places) xs) upto ∙ sym (past_facts t.places t.commands (start t.places) e.before)) ∙ e.comes;
      session = e.session;
      number = e.number;
      answers = e.answers;
      call = e.call;
      pending = ap (λ xs. call_at (p_at t.places t.commands xs).run_report e.turn.node e.session) upto ∙ e.pending;
      its = e.its;
      text = e.text;
      asked = e.at;
      over = ap (λ xs. call_at (p_at t.places t.commands xs).run_report e.turn.node e.session) more
          ∙ (ap (λ (q : Past). call_at q.run_report e.turn.node e.session) (past_on t.places t.commands (start t.places) e.before h) ∙ e.over);
    }
