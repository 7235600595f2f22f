-- What is told of pending calls and what nodes keep of them agree, as each happening that is due comes.
use Rattle.std.proofs.Common.{◌≡◌, ◌≢◌, ℕ, ◌==◌, ◌&&◌, ◌||◌, not, Bool, true, false, if◌then◌else◌, List, find, length, IfSome, Option, Some, None, refl, sym, ap, subst, ◌∙◌, arith}
use Rattle.std.specs.Prelude.{is_some, is_none}
use Rattle.std.proofs.lemmas.Bool.Decides.{nat_tests}
use Rattle.std.proofs.lemmas.Bool.{cond_both}
use Rattle.std.specs.List.{AllByRecursion}
use Rattle.node_rules.specs.Data.{BranchId, Place, Input}
use Rattle.node_rules.specs.Data.inputs
use Rattle.node_rules.specs.Data.stmts
use Rattle.node_rules.specs.NodeState.{NodeState, TurnOutput}
use Rattle.node_rules.specs.Sessions.{session_at}
use Rattle.run_rules.specs.Data.{Took, Turn, Command}
use Rattle.run_rules.specs.Data.happenings
use Rattle.tran_ids.specs.Listed.{numbered}
use Rattle.node_rules.specs.Turn.{turn_of}
use Rattle.run_rules.proofs.AtNodeLemmas.{flat_some, range_of, turn_elsewhere, turn_here}
use Rattle.run_rules.specs.Facts.{Facts, place_at, node_at, kept_after, served, outcome_at, facts_after}
use Rattle.run_rules.specs.RunReport.{RunReport, Call}
use Rattle.run_rules.specs.Calls.{is_call_at, call_at, waits, waits_if_pending, after_input, finished}
use Rattle.run_rules.specs.Cuts.{Cut_by, By_nothing, By_point, By_strike, appends_if, cut_appends, cut_by, arms_point, arms, turn_appends}
use Rattle.run_rules.specs.Past.{delivered_more, is_call, without_following, ends_calls, acts, report_turned}
use Rattle.run_rules.specs.Lawful.{NothingComesFirst, IsNode}
use Rattle.run_ready_laws.proofs.CallEndLemmas.{pends_at, is_ended, same_number}
use Rattle.run_ready_laws.proofs.PendingLemmas.{IsOf, called_at, follows_at, SameCalls, same_calls, same_again, Leaves, few_leave}
use Rattle.run_ready_laws.proofs.TurnCallLemmas.{made_by, TurnLeaves}

-- ---- calls that were not made yet

-- whether a call is of the command that runs
abbrev pub is_own : ℕ → Option Call → Bool
is_own running None = false
is_own running (Some c) = c.command == running

-- whether the call of a session is yet to be made
abbrev pub is_fresh : ℕ → RunReport → ℕ → ℕ → Bool
is_fresh running t n s = follows_at t.next_call n s || (not t.acted && is_own running (find (is_call_at n s) t.calls))

-- What is told of pending calls, and what nodes keep of them.
pub record CallsStand (asked : List Command) (count : ℕ) (f : Facts) (t : RunReport) : Type 0 where
  pub of : AllByRecursion (IsOf asked f.command) t.calls
  pub next_of : IfSome t.next_call (IsOf asked f.command)
  pub next_there : (c : Call) → t.next_call ≡ Some c → called_at t.calls c.node c.session ≡ true
  pub heard : (n : ℕ) (k : NodeState) → node_at f n ≡ Some k → (s : ℕ) → pends_at k.sessions s ≡ (called_at t.calls n s && not (is_fresh f.command t n s))
  pub down : (n : ℕ) → node_at f n ≡ None → f.node_to_stop ≢ Some n → (s : ℕ) → called_at t.calls n s ≡ false
  pub stops : IfSome f.node_to_stop (IsNode count)
  pub starts : IfSome t.start_to_stop (IsNode count)
  pub stop_alone : f.node_to_stop ≢ None → t.next_call ≡ None
  pub start_alone : t.start_to_stop ≢ None → t.next_call ≡ None
  pub fresh : t.acted ≡ false → NothingComesFirst f × (t.start_to_stop ≡ None) × (t.next_call ≡ None)

-- ---- a turn

module _ (t : RunReport) where
  appends_same : (n : ℕ) (writes : Bool) → SameCalls t (appends_if t n writes)
  appends_same n true = record { calls = refl; next_call = refl; start = refl }
  appends_same n false = same_calls t

  cut_same : (n : ℕ) (writes : Bool) (c : Cut_by) → SameCalls t (cut_appends t n writes c)
  cut_same n writes By_nothing = appends_same n writes
  cut_same n writes (By_strike stands) = appends_same n writes
  cut_same n writes (By_point root numbers stands) = let is = appends_same n stands in record { calls = is.calls; next_call = is.next_call; start = is.start }

  point_same : (b : Option BranchId) (c : Option Call) (number : Option ℕ) → SameCalls t (arms_point t b c number)
  point_same (Some root) (Some c) (Some number) = record { calls = refl; next_call = refl; start = refl }
  point_same None c number = same_calls t
  point_same (Some root) None number = same_calls t
  point_same (Some root) (Some c) None = same_calls t

  arms_same : (n : ℕ) (k : NodeState) (input : Input) → SameCalls t (arms t n k input)
  arms_same n k (inputs.Call session (Some (stmts.Commit (Some comment)))) = cond_both (is_none (session_at k.sessions session).code) _ t (SameCalls t) (λ none. point_same _ _ _) (λ some. same_calls t)
  arms_same n k _ = same_calls t

  took_same : (o : Option Took) → SameCalls t (delivered_more t o)
  took_same None = same_calls t
  took_same (Some took) = record { calls = refl; next_call = refl; start = refl }

  waits_same : SameCalls t (waits t)
  waits_same = cond_both (t.hold && is_none t.next_call) _ t (SameCalls t) (λ on. record { calls = refl; next_call = refl; start = refl }) (λ off. same_calls t)

  pending_same : (running : ℕ) (o : Option Call) → SameCalls t (waits_if_pending running t o)
  pending_same running None = same_calls t
  pending_same running (Some c) = cond_both (c.command == running) (waits t) t (SameCalls t) (λ own. waits_same) (λ other. same_calls t)

  input_same : (running node : ℕ) (input : Input) → SameCalls t (after_input running t node input)
  input_same running node (inputs.Call session s) = pending_same running (call_at t node session)
  input_same running node (inputs.GiveUp session) = same_calls t
  input_same running node (inputs.Message m) = same_calls t
  input_same running node inputs.Reco = same_calls t
  input_same running node inputs.Checkpoint = same_calls t

turn_same : (t : RunReport) (n : ℕ) (input : Input) (k : NodeState) (o : TurnOutput) (took : Option Took) → SameCalls t (delivered_more (turn_appends t n input (Some k) (Some o)) took)
turn_same t n input k o took =
    let u : RunReport = cut_appends t n (is_some o.wrote) (cut_by t n k input o) in
    let v : RunReport = arms u n k input in
    same_again t v (delivered_more v took) (same_again t u v (cut_same t n (is_some o.wrote) (cut_by t n k input o)) (arms_same u n k input)) (took_same v took)

-- the calls after a turn that is cut, or before its calls end
following_same : (t u : RunReport) (input : Input) → SameCalls t u → (is_call input ≡ false → t.next_call ≡ None)
    → ((without_following u input).calls ≡ t.calls) × ((without_following u input).next_call ≡ None) × ((without_following u input).start_to_stop ≡ t.start_to_stop)
following_same t u input same none =
    cond_both (is_call input) (record u { next_call = None }) u (λ v. (v.calls ≡ t.calls) × (v.next_call ≡ None) × (v.start_to_stop ≡ t.start_to_stop))
    (λ call. (same.calls, refl, same.start)) (λ other. (same.calls, same.next_call ∙ none other, same.start))

here_by : (p c m e : Bool) → p ≡ (c && not (true && m)) → (m ≡ true → c ≡ true) → ((p || m) && not e) ≡ (c && not (true && e))
here_by p c true e was there = let one : c ≡ true = there refl in grind (arith, was, one)
here_by p c false e was there = grind (arith, was)

there_by : (p c m e : Bool) → p ≡ (c && not (false && m)) → p ≡ (c && not (false && e))
there_by p c m e was = was

plain : (c q : Bool) → (c && not q) ≡ (c && not (q || false))
plain c true = refl
plain c false = refl

module _ (places : List Place) (asked : List Command) (f : Facts) (t : RunReport) (even : length f.nodes ≡ length f.records) (many : length f.nodes ≡ length places) (stand : CallsStand asked (length places) f t) where
  module _ (u : Turn) (k : NodeState) (up : node_at f u.node ≡ Some k) (settled : NothingComesFirst f) (no_start : t.start_to_stop ≡ None)
      (fresh_is : (n s : ℕ) → is_fresh f.command t n s ≡ ((u.node == n) && made_by u.input s)) (there : (s : ℕ) → made_by u.input s ≡ true → called_at t.calls u.node s ≡ true)
      (quiet : is_call u.input ≡ false → t.next_call ≡ None) where
    abbrev o : TurnOutput
    o = turn_of (place_at places u.node) k u.input

    abbrev t3 : RunReport
    t3 = without_following (delivered_more (turn_appends t u.node u.input (Some k) (Some o)) u.took) u.input

    same3 : (t3.calls ≡ t.calls) × (t3.next_call ≡ None) × (t3.start_to_stop ≡ t.start_to_stop)
    same3 = following_same t _ u.input (turn_same t u.node u.input k o u.took) quiet

    here : node_at (facts_after places asked f (happenings.Turn u)) u.node ≡ kept_after u.cut (Some o)
    here = (turn_here places asked f even u k up).0

    elsewhere : (n : ℕ) → (u.node == n) ≡ false → node_at (facts_after places asked f (happenings.Turn u)) n ≡ node_at f n
    elsewhere n other = (turn_elsewhere places asked f even u n (λ is. (let it : u.node ≡ n = is in absurd (grind (arith, nat_tests))))).0

    of3 : AllByRecursion (IsOf asked f.command) t3.calls
    of3 = subst (AllByRecursion (IsOf asked f.command)) (sym same3.0) stand.of

    -- what was pending elsewhere is
    was_elsewhere : (n : ℕ) (x : NodeState) → (u.node == n) ≡ false → node_at (facts_after places asked f (happenings.Turn u)) n ≡ Some x → (s : ℕ) → pends_at x.sessions s ≡ (called_at t.calls n s && not (false && made_by u.input s))
    was_elsewhere n x other at s =
        stand.heard n x (sym (elsewhere n other) ∙ at) s ∙ ap (λ q. called_at t.calls n s && not q) (fresh_is n s ∙ ap (λ q. q && made_by u.input s) other)

    is_node : IsNode (length places) u.node
    is_node = let range = range_of f.nodes u.node (Some k) (flat_some (numbered f.nodes u.node) k up) in (range.0, omega (arith, range.1, many))

    stop_none : f.node_to_stop ≢ Some u.node
    stop_none is = let none = settled.upright in absurd (cc (is, none))

    to_stop_none : (n : ℕ) → f.node_to_stop ≢ Some n
    to_stop_none n is = let none = settled.upright in absurd (cc (is, none))

    -- the turn is cut
    cut_stands : u.cut ≡ true → CallsStand asked (length places) (facts_after places asked f (happenings.Turn u)) (acts t3)
    unfolding facts_after
    cut_stands cut = record {
      of = of3;
      next_of = subst (λ c. IfSome c (IsOf asked f.command)) (sym same3.1) tt;
      next_there = λ c has. (let none = same3.1 in absurd (cc (none, has)));
      heard = λ n x at s. heard n x at s (u.node == n) refl;
      down = λ n none stops s. down n none stops s (u.node == n) refl;
      stops = subst (λ q. IfSome (if q then Some u.node else None) (IsNode (length places))) (sym cut) is_node;
      starts = subst (λ c. IfSome c (IsNode (length places))) (sym (same3.2 ∙ no_start)) tt;
      stop_alone = λ some. same3.1;
      start_alone = λ some. same3.1;
      fresh = λ fresh. absurd cc;
    }
      where
        heard : (n : ℕ) (x : NodeState) → node_at (facts_after places asked f (happenings.Turn u)) n ≡ Some x → (s : ℕ) (q : Bool) → (u.node == n) ≡ q
            → pends_at x.sessions s ≡ (called_at t3.calls n s && not (is_fresh f.command (acts t3) n s))
        heard n x at s true is =
            let gone : node_at (facts_after places asked f (happenings.Turn u)) n ≡ None = subst (λ i. node_at (facts_after places asked f (happenings.Turn u)) i ≡ None) (same_number u.node n is) (here ∙ ap (λ q. kept_after q (Some o)) cut) in
            absurd (cc (gone, at))
        heard n x at s false is =
            was_elsewhere n x is at s ∙ subst (λ c. (called_at t.calls n s && true) ≡ (called_at t3.calls n s && not (follows_at c n s || false))) (sym same3.1) (ap (λ cs. called_at cs n s && true) (sym same3.0))

        down : (n : ℕ) → node_at (facts_after places asked f (happenings.Turn u)) n ≡ None → (if u.cut then Some u.node else None) ≢ Some n → (s : ℕ) (q : Bool) → (u.node == n) ≡ q → called_at t3.calls n s ≡ false
        down n none stops s true is = absurd (stops (ap (λ q. if q then Some u.node else None) cut ∙ ap Some (same_number u.node n is)))
        down n none stops s false is = ap (λ cs. called_at cs n s) same3.0 ∙ stand.down n (sym (elsewhere n is) ∙ none) (to_stop_none n) s

    -- or it is kept to its end
    module _ (leaves : TurnLeaves k u.input o.after o.ended) where
      abbrev t4 : RunReport
      t4 = finished f.command t3 u.node o.ended

      ended : Leaves asked f.command u.node o.ended t3 t4
      ended = few_leave asked f.command t3 of3 same3.1 u.node o.ended leaves.few

      abbrev t5 : RunReport
      t5 = after_input f.command t4 u.node u.input

      same5 : SameCalls t4 t5
      same5 = input_same t4 f.command u.node u.input

      target : (n s : ℕ) → (called_at t.calls n s && not ((u.node == n) && is_ended s o.ended)) ≡ (called_at t5.calls n s && not (is_fresh f.command (acts t5) n s))
      target n s =
          ap (λ cs. called_at cs n s && not ((u.node == n) && is_ended s o.ended)) (sym same3.0) ∙ (sym (ended.calls n s)
          ∙ (plain (called_at t4.calls n s) (follows_at t4.next_call n s) ∙ (ap (λ cs. called_at cs n s && not (follows_at t4.next_call n s || false)) (sym same5.calls)
          ∙ ap (λ c. called_at t5.calls n s && not (follows_at c n s || false)) (sym same5.next_call))))

      whole_stands : u.cut ≡ false → CallsStand asked (length places) (facts_after places asked f (happenings.Turn u)) (acts t5)
      unfolding facts_after
      whole_stands cut = record {
        of = subst (AllByRecursion (IsOf asked f.command)) (sym same5.calls) ended.of;
        next_of = subst (λ c. IfSome c (IsOf asked f.command)) (sym same5.next_call) ended.next_of;
        next_there = λ c has. ap (λ cs. called_at cs c.node c.session) same5.calls ∙ ended.next_there c (sym same5.next_call ∙ has);
        heard = λ n x at s. heard n x at s (u.node == n) refl;
        down = λ n none stops s. down n none s (u.node == n) refl;
        stops = subst (λ q. IfSome (if q then Some u.node else None) (IsNode (length places))) (sym cut) tt;
        starts = subst (λ c. IfSome c (IsNode (length places))) (sym (same5.start ∙ (ended.start ∙ (same3.2 ∙ no_start)))) tt;
        stop_alone = λ some. absurd (some (ap (λ q. if q then Some u.node else None) cut));
        start_alone = λ some. absurd (some (same5.start ∙ (ended.start ∙ (same3.2 ∙ no_start))));
        fresh = λ fresh. absurd cc;
      }
        where
          heard : (n : ℕ) (x : NodeState) → node_at (facts_after places asked f (happenings.Turn u)) n ≡ Some x → (s : ℕ) (q : Bool) → (u.node == n) ≡ q
              → pends_at x.sessions s ≡ (called_at t5.calls n s && not (is_fresh f.command (acts t5) n s))
          heard n x at s true is =
              let same : u.node ≡ n = same_number u.node n is in
              let it : Some o.after ≡ Some x = sym (here ∙ ap (λ q. kept_after q (Some o)) cut) ∙ (ap (node_at (facts_after places asked f (happenings.Turn u))) same ∙ at) in
              let after : o.after ≡ x = cc in
              let was : pends_at k.sessions s ≡ (called_at t.calls n s && not (true && made_by u.input s))
              = stand.heard n k (sym (ap (node_at f) same) ∙ up) s ∙ ap (λ q. called_at t.calls n s && not q) (fresh_is n s ∙ ap (λ q. q && made_by u.input s) is) in
              ap (λ (y : NodeState). pends_at y.sessions s) (sym after) ∙ (leaves.ends s
              ∙ (here_by (pends_at k.sessions s) (called_at t.calls n s) (made_by u.input s) (is_ended s o.ended) was (λ makes. ap (λ i. called_at t.calls i s) (sym same) ∙ there s makes)
              ∙ (ap (λ q. called_at t.calls n s && not (q && is_ended s o.ended)) (sym is) ∙ target n s)))
          heard n x at s false is = was_elsewhere n x is at s ∙ (ap (λ q. called_at t.calls n s && not (q && is_ended s o.ended)) (sym is) ∙ target n s)

          down : (n : ℕ) → node_at (facts_after places asked f (happenings.Turn u)) n ≡ None → (s : ℕ) (q : Bool) → (u.node == n) ≡ q → called_at t5.calls n s ≡ false
          down n none s true is =
              let there : node_at (facts_after places asked f (happenings.Turn u)) n ≡ Some o.after = ap (node_at (facts_after places asked f (happenings.Turn u))) (sym (same_number u.node n is)) ∙ (here ∙ ap (λ q. kept_after q (Some o)) cut) in
              absurd (cc (there, none))
          down n none s false is = ap (λ cs. called_at cs n s) same5.calls ∙ ended.fewer n s (ap (λ cs. called_at cs n s) same3.0 ∙ stand.down n (sym (elsewhere n is) ∙ none) (to_stop_none n) s)

      pub turn_stands : CallsStand asked (length places) (facts_after places asked f (happenings.Turn u)) (report_turned f.command (node_at f u.node) t u (outcome_at places f u))
      turn_stands =
          subst (λ x. CallsStand asked (length places) (facts_after places asked f (happenings.Turn u)) (report_turned f.command x t u (served (place_at places u.node) u.input x))) (sym up) (by u.cut refl)
        where
          by : (q : Bool) → u.cut ≡ q → CallsStand asked (length places) (facts_after places asked f (happenings.Turn u)) (acts (ends_calls f.command t3 u q (Some o)))
          by true is = cut_stands is
          by false is = whole_stands is
