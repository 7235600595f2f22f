-- In the run of a script a call that is under way stays so until a turn ends it, or its node is down.
use Rattle.std.proofs.Common.{◌≡◌, ◌≢◌, ◌⊎◌, ℕ, zero, suc, ◌+◌, ◌==◌, ◌&&◌, ◌||◌, not, Bool, true, false, List, [], ◌∷◌, length, Option, Some, None, inl, inr, refl, sym, ap, subst, ◌∙◌, arith}
use Rattle.std.specs.Prelude.{slice_get}
use Rattle.std.proofs.lemmas.Bool.{and_from, and_parts, cases_eq, eq-eqb}
use Rattle.tran_ids.proofs.NumberedLemmas.{set_or_before}
use Rattle.node_rules.specs.Data.{Answer, Input, Stmt}
use Rattle.node_rules.specs.Data.inputs
use Rattle.node_rules.specs.declared.session.Finished.{Finished}
use Rattle.node_rules.specs.NodeState.{NodeState, TurnOutput}
use Rattle.node_rules.specs.declared.session.PendingCall.TheVariants as pending
use Rattle.node_rules.specs.Sessions.{session_at}
use Rattle.node_rules.specs.Turn.{turn_of}
use Rattle.node_rules.specs.Words.{numbered, set_numbered}
use Rattle.run_rules.specs.Calls.{call_at, is_call_at}
use Rattle.run_rules.specs.Data.{Happening, Turn}
use Rattle.run_rules.specs.Data.happenings
use Rattle.run_rules.specs.Each.{facts_upto}
use Rattle.run_rules.specs.Facts.{Facts, facts_after, flat, kept_after, node_at, place_at}
use Rattle.run_rules.specs.Lawful.{History, MayHappen, MayTurn}
use Rattle.run_rules.specs.RunReport.{Call, Past, RunReport}
use Rattle.run_rules.specs.Scripts.{IsTheRunOf}
use Rattle.run_rules.proofs.AtNodeLemmas.{turn_elsewhere, turn_here}
use Rattle.run_base_laws.proofs.LawfulLemmas.{turn_of_node}
use Rattle.run_claims.specs.Places.{past_upto}
use Rattle.run_ready_laws.proofs.CallEndLemmas.{is_ended, is_pending, pends_at, same_number}
use Rattle.run_ready_laws.proofs.PendingLemmas.{IsOf, at_parts, called_at, follows_at, found_so, none_called, there_called}
use Rattle.run_ready_laws.proofs.RunLawfulLemmas.{the_run_is_lawful}
use Rattle.run_ready_laws.proofs.StandCallLemmas.{CallsStand, is_fresh, is_own}
use Rattle.run_ready_laws.proofs.TurnCallLemmas.{TurnLeaves, made_by, turn_leaves_so}
use Rattle.answer_origin_laws.specs.CallTurns.{CameBefore, IsYetToCome, TurnOf}
use Rattle.answer_origin_laws.proofs.CallTurnLemmas.{all_so, pending_calls_came}
use Rattle.answer_origin_laws.proofs.UptoLemmas.{facts_there, may_at, next_is, one_more, stand_at}
use Rattle.tree_trail_laws.proofs.CallLemmas.{call_free}
use Rattle.answer_laws.specs.EndLaws.{EndsFor, Is_own, Was_commit, EndsFew, Ends_none, Ends_one, Ends_forced}
use Rattle.answer_laws.specs.PendingCalls.{CallIsUnderWay, EndsInTurn, Becomes, Stays_under_way, Its_node_is_down, Is_ended, PendingCallsEnd}
use Rattle.answer_laws.proofs.LinkRunLemmas.{statements_wait_for_their_links}
use Rattle.answer_laws.proofs.EndRunLemmas.{causes_end_statements, few_at}

-- each call that a turn ends does so for a cause
each_for : (f : Facts) (k : NodeState) (input : Input) {xs : List Finished} → EndsFew f k input xs → (number : ℕ) (x : Finished) → slice_get xs number ≡ Some x → EndsFor f k input x
each_for f k input Ends_none zero x at = absurd cc
each_for f k input Ends_none (suc i) x at = absurd cc
each_for f k input (Ends_one y why) zero x at = let it : Some y ≡ Some x = at in let same : y ≡ x = cc in subst (EndsFor f k input) same why
each_for f k input (Ends_one y why) (suc zero) x at = absurd cc
each_for f k input (Ends_one y why) (suc (suc i)) x at = absurd cc
each_for f k input (Ends_forced y n s b refused commits call forces) zero x at = let it : Some y ≡ Some x = at in let same : y ≡ x = cc in subst (EndsFor f k input) same (Was_commit commits)
each_for f k input (Ends_forced y n s b refused commits call forces) (suc zero) x at =
    let it : Some (record { session = n; answer = b }) ≡ Some x = at in let same : record { session = n; answer = b } ≡ x = cc in subst (EndsFor f k input) same (Is_own (Some s) call)
each_for f k input (Ends_forced y n s b refused commits call forces) (suc (suc zero)) x at = absurd cc
each_for f k input (Ends_forced y n s b refused commits call forces) (suc (suc (suc i))) x at = absurd cc

-- one that is ended is among them
ended_there : (s : ℕ) (xs : List Finished) → is_ended s xs ≡ true → (number : ℕ) × (a : Answer) × (slice_get xs number ≡ Some (record { session = s; answer = a }))
ended_there s [] is = absurd cc
ended_there s (x ∷ xs) is = by (x.session == s) refl (ended_there s xs)
  where
    by : (q : Bool) → (x.session == s) ≡ q → (is_ended s xs ≡ true → (number : ℕ) × (a : Answer) × (slice_get xs number ≡ Some (record { session = s; answer = a })))
        → (number : ℕ) × (a : Answer) × (slice_get (x ∷ xs) number ≡ Some (record { session = s; answer = a }))
    by true here later = (0, x.answer, ap (λ n. Some (record { session = n; answer = x.answer })) (same_number x.session s here))
    by false other later = let more = later (sym (ap (λ q. q || is_ended s xs) other) ∙ is) in (suc more.0, more.1, more.2)

module _ (t : History) (run : IsTheRunOf t) where
  -- ---- a call that is under way is pending at its node

  module _ (i : ℕ) where
    abbrev p : Past
    p = past_upto t i

    abbrev f : Facts
    f = p.facts

    abbrev told : RunReport
    told = p.run_report

    stands : CallsStand t.commands (length t.places) f told
    stands = (stand_at t run i).so.calls

    module _ (n s : ℕ) where
      abbrev fresh : Bool
      fresh = is_fresh f.command told n s

      -- one that is fresh is yet to come
      yet_to_come : (c : Call) → call_at told n s ≡ Some c → fresh ≡ true → IsYetToCome p c
      yet_to_come c at is = by told.next_call refl
        where
          own : (q : Bool) → told.acted ≡ q → (not q && is_own f.command (call_at told n s)) ≡ true → IsYetToCome p c
          own true acted both = absurd cc
          own false acted both = inl (acted, sym (same_number c.command f.command (sym (ap (is_own f.command) at) ∙ both)))

          by : (o : Option Call) → told.next_call ≡ o → IsYetToCome p c
          by None none = own told.acted refl (sym (ap (λ o. follows_at o n s || (not told.acted && is_own f.command (call_at told n s))) none) ∙ is)
          by (Some d) follows = here (is_call_at n s d) refl
            where
              here : (q : Bool) → is_call_at n s d ≡ q → IsYetToCome p c
              here true its =
                  let parts = at_parts n s d its in
                  let there : call_at told d.node d.session ≡ Some d = ((all_so t run i).next d follows).1 in
                  let same : call_at told n s ≡ Some d = subst (λ j. call_at told j s ≡ Some d) parts.0 (subst (λ j. call_at told d.node j ≡ Some d) parts.1 there) in
                  inr (follows ∙ (sym same ∙ at))
              here false other = own told.acted refl (sym (ap (λ o. follows_at o n s || (not told.acted && is_own f.command (call_at told n s))) follows ∙ ap (λ q. q || (not told.acted && is_own f.command (call_at told n s))) other) ∙ is)

      -- and one that is yet to come is fresh
      is_fresh_then : (c : Call) → call_at told n s ≡ Some c → IsYetToCome p c → fresh ≡ true
      is_fresh_then c at (inl own) =
          let mine : (not told.acted && is_own f.command (call_at told n s)) ≡ true = and_from (not told.acted) (is_own f.command (call_at told n s)) (ap not own.0) (ap (is_own f.command) at ∙ eq-eqb c.command f.command (sym own.1)) in
          or_second (follows_at told.next_call n s) (not told.acted && is_own f.command (call_at told n s)) mine
        where
          or_second : (a b : Bool) → b ≡ true → (a || b) ≡ true
          or_second true b is = refl
          or_second false b is = is
      is_fresh_then c at (inr follows) =
          let its : is_call_at n s c ≡ true = (found_so (IsOf t.commands f.command) (is_call_at n s) told.calls c stands.of at).1 in
          ap (λ o. follows_at o n s || (not told.acted && is_own f.command (call_at told n s))) follows ∙ ap (λ q. q || (not told.acted && is_own f.command (call_at told n s))) its

      module _ (k : NodeState) (up : node_at f n ≡ Some k) where
        heard : pends_at k.sessions s ≡ (called_at told.calls n s && not fresh)
        heard = stands.heard n k up s

        under_way_pends : (c : Call) → CallIsUnderWay t i n s c → pends_at k.sessions s ≡ true
        under_way_pends c way =
            heard ∙ and_from (called_at told.calls n s) (not fresh) (there_called n s told.calls c way.pending) (old fresh refl)
          where
            old : (q : Bool) → fresh ≡ q → not q ≡ true
            old true is = absurd (way.has_come (yet_to_come c way.pending is))
            old false is = refl

        pends_under_way : pends_at k.sessions s ≡ true → (c : Call) × CallIsUnderWay t i n s c
        pends_under_way pends = by (call_at told n s) refl
          where
            parts : (called_at told.calls n s ≡ true) × (not fresh ≡ true)
            parts = and_parts (called_at told.calls n s) (not fresh) (sym heard ∙ pends)

            by : (o : Option Call) → call_at told n s ≡ o → (c : Call) × CallIsUnderWay t i n s c
            by None none = absurd (let no : called_at told.calls n s ≡ false = none_called n s told.calls none in let yes = parts.0 in cc (no, yes))
            by (Some c) at = (c, record { pending = at; has_come = λ yet. (let is : fresh ≡ true = is_fresh_then c at yet in let no : not fresh ≡ false = ap not is in let yes = parts.1 in absurd (cc (no, yes))) })

  -- ---- one happening more

  -- it is the same call still
  same_call : (i n s : ℕ) (c d : Call) → call_at (past_upto t i).run_report n s ≡ Some c → CallIsUnderWay t (i + 1) n s d → c ≡ d
  same_call i n s c d at later = by (pending_calls_came t run (i + 1) n s d later.pending)
    where
      by : IsYetToCome (past_upto t (i + 1)) d ⊎ CameBefore t (i + 1) n s d → c ≡ d
      by (inl yet) = absurd (later.has_come yet)
      by (inr came) =
          let stays : call_at (past_upto t i).run_report n s ≡ Some d = came.stays i (omega (arith, came.before)) (omega arith) in
          let both : Some c ≡ Some d = sym at ∙ stays in
          cc

  module _ (i : ℕ) (h : Happening) (there : slice_get t.trace i ≡ Some h) (n s : ℕ) (c : Call) (k : NodeState) (up : node_at (f i) n ≡ Some k) (at : call_at (told i) n s ≡ Some c) where
    may : MayHappen t.places t.commands (f i) h
    may = may_at t run i h there

    after : f (i + 1) ≡ facts_after t.places t.commands (f i) h
    after = ap (λ (q : Past). q.facts) (one_more t i h there ∙ next_is t.places t.commands (p i) h)

    node_after : node_at (f (i + 1)) n ≡ node_at (facts_after t.places t.commands (f i) h) n
    node_after = ap (λ (g : Facts). node_at g n) after

    -- its node keeps it pending
    goes_on : (j : NodeState) → node_at (facts_after t.places t.commands (f i) h) n ≡ Some j → pends_at j.sessions s ≡ true → Becomes t i n s c h
    goes_on j now pends =
        let still = pends_under_way (i + 1) n s j (node_after ∙ now) pends in
        Stays_under_way (subst (CallIsUnderWay t (i + 1) n s) (sym (same_call i n s c still.0 at still.1)) still.1)

    same_node : node_at (facts_after t.places t.commands (f i) h) n ≡ node_at (f i) n → CallIsUnderWay t i n s c → Becomes t i n s c h
    same_node same way = goes_on k (same ∙ up) (under_way_pends i n s k up c way)

    falls : node_at (facts_after t.places t.commands (f i) h) n ≡ None → Becomes t i n s c h
    falls down = Its_node_is_down (sym (ap (λ (g : Facts). node_at g n) (facts_there t (i + 1))) ∙ (node_after ∙ down))

  -- a turn of its node
  module _ (i : ℕ) (u : Turn) (there : slice_get t.trace i ≡ Some (happenings.Turn u)) (s : ℕ) (c : Call) (k : NodeState) (up : node_at (f i) u.node ≡ Some k) (at : call_at (told i) u.node s ≡ Some c) (waits : (pends_at k.sessions s || made_by u.input s) ≡ true) where
    turn_may : MayTurn t.places (f i) u k
    turn_may = turn_of_node t.places (f i) u k t.commands (may_at t run i (happenings.Turn u) there) up

    even : length (f i).nodes ≡ length (f i).records
    even = (stand_at t run i).born.0.0.even

    abbrev o : TurnOutput
    o = turn_of (place_at t.places u.node) k u.input

    leaves : TurnLeaves k u.input o.after o.ended
    leaves = turn_leaves_so t.places t.commands t.of_a_script.each (f i) (stand_at t run i).events (stand_at t run i).births (stand_at t run i).born (stand_at t run i).roots (stand_at t run i).so.live u k turn_may

    node_now : (cut : Bool) → u.cut ≡ cut → node_at (facts_after t.places t.commands (f i) (happenings.Turn u)) u.node ≡ kept_after cut (Some o)
    node_now cut is = (turn_here t.places t.commands (f i) even u k up).0 ∙ ap (λ q. kept_after q (Some o)) is

    pends_after : pends_at o.after.sessions s ≡ ((pends_at k.sessions s || made_by u.input s) && not (is_ended s o.ended))
    pends_after = leaves.ends s

    ends_it : is_ended s o.ended ≡ true → u.cut ≡ false → EndsInTurn t i u.node s (happenings.Turn u)
    ends_it ended uncut =
        let found = ended_there s o.ended ended in
        let up_then : node_at (facts_upto t i) u.node ≡ Some k = ap (λ (g : Facts). node_at g u.node) (sym (facts_there t i)) ∙ up in record {
          turn = u;
          comes = refl;
          here = refl;
          uncut = uncut;
          kept = k;
          up = up_then;
          number = found.0;
          answer = found.1;
          ends = found.2;
          cause = each_for (facts_upto t i) k u.input (few_at t (the_run_is_lawful t run) i u there k up_then) found.0 (record { session = s; answer = found.1 }) found.2;
          over = λ d later. (let yes : pends_at o.after.sessions s ≡ true = under_way_pends (i + 1) u.node s o.after (node_after i (happenings.Turn u) there u.node s c k up at ∙ node_now false uncut) d later in
              let no : pends_at o.after.sessions s ≡ false = pends_after ∙ none_left (pends_at k.sessions s || made_by u.input s) (is_ended s o.ended) ended in
              absurd (cc (yes, no)));
        }
      where
        none_left : (a b : Bool) → b ≡ true → (a && not b) ≡ false
        none_left true b is = ap not is
        none_left false b is = refl

    turn_becomes : (cut : Bool) → u.cut ≡ cut → (q : Bool) → is_ended s o.ended ≡ q → Becomes t i u.node s c (happenings.Turn u)
    turn_becomes true is q ended = falls i (happenings.Turn u) there u.node s c k up at (node_now true is)
    turn_becomes false is true ended = Is_ended (ends_it ended is)
    turn_becomes false is false ended =
        goes_on i (happenings.Turn u) there u.node s c k up at o.after (node_now false is) (pends_after ∙ and_from (pends_at k.sessions s || made_by u.input s) (not (is_ended s o.ended)) waits (ap not ended))

  -- a node that is set
  set_elsewhere : (g : Facts) (m n : ℕ) (o : Option NodeState) → m ≢ n → flat (numbered (set_numbered g.nodes m o) n) ≡ node_at g n
  set_elsewhere g m n o apart = elim (set_or_before g.nodes m n o) [ inl same ↦ ap flat same | inr new ↦ absurd (apart new.0) ]

  -- a turn of the node of the call
  turn_here_becomes : (i : ℕ) (u : Turn) → slice_get t.trace i ≡ Some (happenings.Turn u) → (n s : ℕ) (c : Call) (k : NodeState) → u.node ≡ n → node_at (f i) n ≡ Some k → call_at (told i) n s ≡ Some c
      → (pends_at k.sessions s || made_by u.input s) ≡ true → Becomes t i n s c (happenings.Turn u)
  turn_here_becomes i u there n s c k here up at waits =
      subst (λ m. node_at (f i) m ≡ Some k → call_at (told i) m s ≡ Some c → Becomes t i m s c (happenings.Turn u)) here
      (λ up_here at_here. turn_becomes i u there s c k up_here at_here waits u.cut refl (is_ended s (turn_of (place_at t.places u.node) k u.input).ended) refl) up at

  becomes : (i : ℕ) (h : Happening) → slice_get t.trace i ≡ Some h → (n s : ℕ) (c : Call) (k : NodeState) → node_at (f i) n ≡ Some k → CallIsUnderWay t i n s c → Becomes t i n s c h
  unfolding facts_after
  becomes i (happenings.Turn u) there n s c k up way = elim (cases_eq u.node n) [
    | inl here ↦ turn_here_becomes i u there n s c k here up way.pending (ap (λ q. q || made_by u.input s) (under_way_pends i n s k up c way))
    | inr apart ↦ same_node i (happenings.Turn u) there n s c k up way.pending (turn_elsewhere t.places t.commands (f i) (stand_at t run i).born.0.0.even u n apart).0 way
  ]
  becomes i (happenings.Stopped m) there n s c k up way = elim (set_or_before (f i).nodes m n None) [
    | inl same ↦ same_node i (happenings.Stopped m) there n s c k up way.pending (ap flat same) way
    | inr new ↦ falls i (happenings.Stopped m) there n s c k up way.pending (ap flat new.1)
  ]
  becomes i (happenings.Started m boot) there n s c k up way = elim (cases_eq m n) [
    | inl here ↦ (let down : node_at (f i) m ≡ None = (may_at t run i (happenings.Started m boot) there).down in absurd (let none : node_at (f i) n ≡ None = subst (λ j. node_at (f i) j ≡ None) here down in cc (none, up)))
    | inr apart ↦ same_node i (happenings.Started m boot) there n s c k up way.pending (set_elsewhere (f i) m n _ apart) way
  ]
  becomes i (happenings.Begun b) there n s c k up way = same_node i (happenings.Begun b) there n s c k up way.pending refl way
  becomes i (happenings.Cut a b) there n s c k up way = same_node i (happenings.Cut a b) there n s c k up way.pending refl way
  becomes i (happenings.Join a b) there n s c k up way = same_node i (happenings.Join a b) there n s c k up way.pending refl way
  becomes i (happenings.Lost x) there n s c k up way = same_node i (happenings.Lost x) there n s c k up way.pending refl way

  -- a call that comes
  comes_becomes : (i : ℕ) (h : Happening) → slice_get t.trace i ≡ Some h → (n s : ℕ) (c : Call) (k : NodeState) → node_at (f i) n ≡ Some k → TurnOf t i n s c → Becomes t i n s c h
  comes_becomes i h there n s c k up it =
      let both : Some (happenings.Turn it.turn) ≡ Some h = sym it.there ∙ there in
      let same : happenings.Turn it.turn ≡ h = cc in
      let made : made_by it.turn.input s ≡ true = ap (λ j. made_by j s) it.came ∙ eq-eqb s s refl in
      subst (Becomes t i n s c) same (turn_here_becomes i it.turn it.there n s c k it.here up it.pending (or_second (pends_at k.sessions s) (made_by it.turn.input s) made))
    where
      or_second : (a b : Bool) → b ≡ true → (a || b) ≡ true
      or_second true b is = refl
      or_second false b is = is

  uncalled : (i : ℕ) (u : Turn) → slice_get t.trace i ≡ Some (happenings.Turn u) → (s : ℕ) (c : Call) → CallIsUnderWay t i u.node s c → (q : Option Stmt) → u.input ≢ inputs.Call s q
  uncalled i u there s c way q call =
      let may = may_at t run i (happenings.Turn u) there in
      let free : (session_at may.0.sessions s).call ≡ pending.NoCall = (call_free (f i) may.0 u.node u.input u.took s q call may.1.comes).1 in
      let none : pends_at may.0.sessions s ≡ false = ap is_pending free in
      let some : pends_at may.0.sessions s ≡ true = under_way_pends i u.node s may.0 may.1.up c way in
      absurd (cc (none, some))

  -- ---- a node that is down

  down_none : (i n s : ℕ) → node_at (f i) n ≡ None → (f i).node_to_stop ≢ Some n → call_at (told i) n s ≡ None
  down_none i n s down upright = by (call_at (told i) n s) refl
    where
      by : (o : Option Call) → call_at (told i) n s ≡ o → o ≡ None
      by None none = refl
      by (Some c) at = absurd (let yes : called_at (told i).calls n s ≡ true = there_called n s (told i).calls c at in let no = (stands i).down n down upright s in cc (yes, no))

pub pending_calls_end : PendingCallsEnd
pending_calls_end t run = record {
  become = λ i h there n s c k up it. (let up_here = ap (λ (g : Facts). node_at g n) (facts_there t i) ∙ up in elim it [ inl way ↦ becomes t run i h there n s c k up_here way | inr comes ↦ comes_becomes t run i h there n s c k up_here comes ]);
  alone = uncalled t run;
  down = λ i n s down upright. down_none t run i n s (ap (λ (g : Facts). node_at g n) (facts_there t i) ∙ down) (λ stops. upright (ap (λ (g : Facts). g.node_to_stop) (sym (facts_there t i)) ∙ stops));
  statements = causes_end_statements t (the_run_is_lawful t run);
  links = statements_wait_for_their_links t (the_run_is_lawful t run);
}
