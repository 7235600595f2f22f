-- The same where no turn comes: a loss, a cut, a stop, a start, and the next command.
use Rattle.std.proofs.Common.{◌≡◌, ◌≢◌, ℕ, zero, suc, ◌+◌, ◌≤◌, ◌==◌, ◌&&◌, ◌||◌, not, Bool, true, false, if◌then◌else◌, List, [], ◌∷◌, ◌++◌, find, length, IfSome, Option, Some, None, inl, inr, refl, sym, ap, subst, ◌∙◌, ◌⊎◌, arith}
use Rattle.std.specs.Prelude.{is_some}
use Rattle.std.proofs.lemmas.Bool.Decides.{nat_tests}
use Rattle.std.proofs.lemmas.Bool.{cond_both, and_parts}
use Rattle.std.proofs.lemmas.List.Folds.{list_any-append}
use Rattle.std.specs.List.{AllByRecursion, list_any}
use Rattle.sql_statement.specs.Whole.{IsWhole}
use Rattle.node_rules.specs.Data.{Stmt, RedoRecord, Place}
use Rattle.node_rules.specs.Data.stmts
use Rattle.node_rules.specs.NodeState.{NodeState}
use Rattle.node_rules.specs.Turn.{start_of}
use Rattle.run_rules.specs.Data.{Command}
use Rattle.run_rules.specs.Data.commands
use Rattle.run_rules.specs.Data.happenings
use Rattle.run_rules.specs.Disks.{Strike}
use Rattle.run_rules.specs.Facts.{Facts, node_at, is_up, command_at, with_boot, facts_after}
use Rattle.run_rules.specs.RunReport.{RunReport, Call}
use Rattle.run_rules.specs.Calls.{is_call_at, stopped_calls}
use Rattle.run_rules.specs.Commands.{has_call, has_transaction, commits_first, call_of, calls_after, begins}
use Rattle.run_rules.specs.Past.{acts, failed_start, start_refused, is_stop_of, stop_line, report_stopped, falls_if, report_started}
use Rattle.run_rules.specs.Lawful.{NothingComesFirst, IsNode, IsCommandOver}
use Rattle.run_rules.proofs.AtNodeLemmas.{stop_here, stop_elsewhere, start_here, start_elsewhere}
use Rattle.run_ready_laws.proofs.CallEndLemmas.{is_pending, pends_at, and_true, same_number}
use Rattle.run_ready_laws.proofs.PendingLemmas.{IsOf, called_at, follows_at, found_so, SameCalls, same_calls, StopLeaves, stop_leaves}
use Rattle.run_ready_laws.proofs.TurnCallLemmas.{fresh_at}
use Rattle.run_ready_laws.proofs.StandCallLemmas.{is_own, is_fresh, CallsStand}
use Rattle.run_rules.proofs.ListLemmas.{all_weaker, all_append}

-- no call is yet to be made but the one that comes next
abbrev pub IsQuiet : Facts → RunReport → Type 0
IsQuiet f t = (n s : ℕ) → is_fresh f.command t n s ≡ follows_at t.next_call n s

or_no : (b : Bool) → b ≡ (b || false)
or_no true = refl
or_no false = refl

module _ (asked : List Command) (count : ℕ) (f : Facts) (t : RunReport) (stand : CallsStand asked count f t) (quiet : IsQuiet f t) where
  -- nodes stay as they are
  pub same_stands : (g : Facts) → ((n : ℕ) → node_at g n ≡ node_at f n) → g.command ≡ f.command → g.node_to_stop ≡ f.node_to_stop → CallsStand asked count g (acts t)
  same_stands g nodes command stop = record {
    of = subst (λ r. AllByRecursion (IsOf asked r) t.calls) (sym command) stand.of;
    next_of = subst (λ r. IfSome t.next_call (IsOf asked r)) (sym command) stand.next_of;
    next_there = stand.next_there;
    heard = λ n k up s. stand.heard n k (sym (nodes n) ∙ up) s ∙ ap (λ q. called_at t.calls n s && not q) (quiet n s ∙ or_no (follows_at t.next_call n s));
    down = λ n none stops s. stand.down n (sym (nodes n) ∙ none) (λ is. stops (stop ∙ is)) s;
    stops = subst (λ o. IfSome o (IsNode count)) (sym stop) stand.stops;
    starts = stand.starts;
    stop_alone = λ some. stand.stop_alone (λ none. some (stop ∙ none));
    start_alone = stand.start_alone;
    fresh = λ fresh. absurd cc;
  }

-- ---- a node stops

refused_same : (places : List Place) (f : Facts) (t : RunReport) (c : Command) (n : ℕ) → SameCalls t (start_refused places f t c n)
refused_same places f t c n = cond_both (failed_start f c n) _ t (SameCalls t) (λ failed. record { calls = refl; next_call = refl; start = refl }) (λ other. same_calls t)

line_same : (places : List Place) (t : RunReport) (c : Command) (n : ℕ) → SameCalls t (stop_line places t c n)
line_same places t c n = cond_both (is_stop_of c n) t _ (SameCalls t) (λ stop. same_calls t) (λ other. record { calls = refl; next_call = refl; start = refl })

module _ (places : List Place) (asked : List Command) (f : Facts) (t : RunReport) (even : length f.nodes ≡ length f.records) (many : length f.nodes ≡ length places) (stand : CallsStand asked (length places) f t)
    (n : ℕ) (node : IsNode (length places) n) (told : f.losses_to_report ≡ []) (alone : t.next_call ≡ None) (only : (m : ℕ) → f.node_to_stop ≡ Some m → m ≡ n) (quiet : IsQuiet f t) where
  abbrev c : Command
  c = command_at asked f.command

  abbrev t1 : RunReport
  t1 = record (start_refused places f t c n) { start_to_stop = None }

  abbrev t2 : RunReport
  t2 = stopped_calls places f.command t1 n t.calls

  calls1 : t1.calls ≡ t.calls
  calls1 = (refused_same places f t c n).calls

  next1 : t1.next_call ≡ None
  next1 = (refused_same places f t c n).next_call ∙ alone

  leaves : StopLeaves asked f.command n t.calls t1 t2
  leaves = stop_leaves asked places f.command n t.calls t1 (subst (AllByRecursion (IsOf asked f.command)) (sym calls1) stand.of)

  line : SameCalls t2 (stop_line places t2 c n)
  line = line_same places t2 c n

  abbrev t3 : RunReport
  t3 = stop_line places t2 c n

  next3 : t3.next_call ≡ None
  next3 = line.next_call ∙ (leaves.next_call ∙ next1)

  called_elsewhere : (m s : ℕ) → (n == m) ≡ false → called_at t3.calls m s ≡ called_at t.calls m s
  called_elsewhere m s other = ap (λ cs. called_at cs m s) line.calls ∙ (leaves.elsewhere m s other ∙ ap (λ cs. called_at cs m s) calls1)

  called_here : (s : ℕ) → called_at t3.calls n s ≡ false
  called_here s = ap (λ cs. called_at cs n s) line.calls ∙ leaves.here s (by (called_at t.calls n s) refl)
    where
      by : (q : Bool) → called_at t.calls n s ≡ q → (called_at t.calls n s ≡ true) ⊎ (called_at t1.calls n s ≡ false)
      by true is = inl is
      by false is = inr (ap (λ cs. called_at cs n s) calls1 ∙ is)

  here : node_at (facts_after places asked f (happenings.Stopped n)) n ≡ None
  here = (stop_here places asked f even n node.0 (omega (arith, node.1, many))).0

  elsewhere : (m : ℕ) → (n == m) ≡ false → node_at (facts_after places asked f (happenings.Stopped n)) m ≡ node_at f m
  elsewhere m other = (stop_elsewhere places asked f even n m (λ is. (let it : n ≡ m = is in absurd (grind (arith, nat_tests))))).0

  pub stop_stands : CallsStand asked (length places) (facts_after places asked f (happenings.Stopped n)) (acts (report_stopped places asked f t n))
  unfolding facts_after
  stop_stands = record {
    of = subst (AllByRecursion (IsOf asked f.command)) (sym line.calls) leaves.of;
    next_of = subst (λ o. IfSome o (IsOf asked f.command)) (sym next3) tt;
    next_there = λ d has. (let none = next3 in absurd (cc (none, has)));
    heard = λ m k up s. heard m k up s (n == m) refl;
    down = λ m none stops s. down m none s (n == m) refl;
    stops = tt;
    starts = subst (λ o. IfSome o (IsNode (length places))) (sym (line.start ∙ leaves.start)) tt;
    stop_alone = λ some. absurd (some refl);
    start_alone = λ some. next3;
    fresh = λ fresh. absurd cc;
  }
    where
      heard : (m : ℕ) (k : NodeState) → node_at (facts_after places asked f (happenings.Stopped n)) m ≡ Some k → (s : ℕ) (q : Bool) → (n == m) ≡ q
          → pends_at k.sessions s ≡ (called_at t3.calls m s && not (is_fresh f.command (acts t3) m s))
      heard m k up s true is =
          let gone : node_at (facts_after places asked f (happenings.Stopped n)) m ≡ None = subst (λ i. node_at (facts_after places asked f (happenings.Stopped n)) i ≡ None) (same_number n m is) here in absurd (cc (gone, up))
      heard m k up s false is =
          stand.heard m k (sym (elsewhere m is) ∙ up) s ∙ (ap (λ q. called_at t.calls m s && not q) (quiet m s ∙ ap (λ o. follows_at o m s) alone)
          ∙ (ap (λ q. q && true) (sym (called_elsewhere m s is)) ∙ ap (λ o. called_at t3.calls m s && not (follows_at o m s || false)) (sym next3)))

      down : (m : ℕ) → node_at (facts_after places asked f (happenings.Stopped n)) m ≡ None → (s : ℕ) (q : Bool) → (n == m) ≡ q → called_at t3.calls m s ≡ false
      down m none s true is = subst (λ i. called_at t3.calls i s ≡ false) (same_number n m is) (called_here s)
      down m none s false is = called_elsewhere m s is ∙ stand.down m (sym (elsewhere m is) ∙ none) (λ stops. (let it : m ≡ n = only m stops in absurd (grind (arith, nat_tests, is)))) s

-- ---- a node starts

pub fresh_pends : (rs : List RedoRecord) (s : ℕ) → pends_at (start_of rs).sessions s ≡ false
unfolding start_of
fresh_pends rs s = ap (λ x. is_pending x.call) (fresh_at s)

module _ (places : List Place) (asked : List Command) (f : Facts) (t : RunReport) (even : length f.nodes ≡ length f.records) (many : length f.nodes ≡ length places) (stand : CallsStand asked (length places) f t)
    (n boot : ℕ) (node : IsNode (length places) n) (settled : NothingComesFirst f) (alone : t.next_call ≡ None) (off : node_at f n ≡ None) (quiet : IsQuiet f t) where
  new : node_at (facts_after places asked f (happenings.Started n boot)) n ≡ Some (start_of (with_boot f n boot))
  new = (start_here places asked f even n boot node.0 (omega (arith, node.1, many))).0

  others : (m : ℕ) → (n == m) ≡ false → node_at (facts_after places asked f (happenings.Started n boot)) m ≡ node_at f m
  others m other = (start_elsewhere places asked f even n boot m (λ is. (let it : n ≡ m = is in absurd (grind (arith, nat_tests))))).0

  not_stopping : (m : ℕ) → f.node_to_stop ≢ Some m
  not_stopping m is = let none = settled.upright in absurd (cc (is, none))

  pub start_stands : (strike : Option Strike) → CallsStand asked (length places) (facts_after places asked f (happenings.Started n boot)) (acts (report_started places t n strike))
  unfolding facts_after
  start_stands strike = record {
    of = stand.of;
    next_of = stand.next_of;
    next_there = stand.next_there;
    heard = λ m k up s. heard m k up s (n == m) refl;
    down = λ m none stops s. down m none s (n == m) refl;
    stops = stand.stops;
    starts = falls strike;
    stop_alone = λ some. alone;
    start_alone = λ some. alone;
    fresh = λ fresh. absurd cc;
  }
    where
      falls : (o : Option Strike) → IfSome (falls_if n o) (IsNode (length places))
      falls None = tt
      falls (Some s) = node

      heard : (m : ℕ) (k : NodeState) → node_at (facts_after places asked f (happenings.Started n boot)) m ≡ Some k → (s : ℕ) (q : Bool) → (n == m) ≡ q
          → pends_at k.sessions s ≡ (called_at t.calls m s && not (follows_at t.next_call m s || false))
      heard m k up s true is =
          let same : n ≡ m = same_number n m is in
          let it : Some (start_of (with_boot f n boot)) ≡ Some k = sym new ∙ (ap (node_at (facts_after places asked f (happenings.Started n boot))) same ∙ up) in
          let k_is : start_of (with_boot f n boot) ≡ k = cc in
          let none : called_at t.calls m s ≡ false = subst (λ i. called_at t.calls i s ≡ false) same (stand.down n off (not_stopping n) s) in
          ap (λ (x : NodeState). pends_at x.sessions s) (sym k_is) ∙ (fresh_pends (with_boot f n boot) s ∙ ap (λ q. q && not (follows_at t.next_call m s || false)) (sym none))
      heard m k up s false is = stand.heard m k (sym (others m is) ∙ up) s ∙ ap (λ q. called_at t.calls m s && not q) (quiet m s ∙ or_no (follows_at t.next_call m s))

      down : (m : ℕ) → node_at (facts_after places asked f (happenings.Started n boot)) m ≡ None → (s : ℕ) (q : Bool) → (n == m) ≡ q → called_at t.calls m s ≡ false
      down m none s true is = subst (λ i. called_at t.calls i s ≡ false) (same_number n m is) (stand.down n off (not_stopping n) s)
      down m none s false is = stand.down m (sym (others m is) ∙ none) (not_stopping m) s

-- ---- the next command

-- the command of each number is proper
pub proper_at : (count : ℕ) (cs : List Command) (n : ℕ) → AllByRecursion (IsCommandOver count) cs → IsCommandOver count (command_at cs n)
proper_at count cs zero all = tt
proper_at count [] (suc i) all = tt
proper_at count (d ∷ ds) (suc zero) all = all.0
proper_at count (d ∷ ds) (suc (suc i)) all = proper_at count ds (suc i) all.1

module _ (places : List Place) (asked : List Command) (proper : AllByRecursion (IsCommandOver (length places)) asked) (f : Facts) (t : RunReport) (stand : CallsStand asked (length places) f t)
    (settled : NothingComesFirst f) (no_start : t.start_to_stop ≡ None) (alone : t.next_call ≡ None) (quiet : IsQuiet f t) (c : ℕ) (next : c ≡ f.command + 1) where
  later : (d : Call) → IsOf asked f.command d → IsOf asked c d
  later d is = record { text = is.text; command = is.command; whole = is.whole; then_whole = is.then_whole; past = omega (arith, is.past, next) }

  -- a call that is made
  made_is : (node session : ℕ) (s : Option Stmt) → command_at asked c ≡ commands.At node session s → IfSome s IsWhole → (has : Bool) → IsOf asked c (call_of c node session s has)
  made_is node session None is whole has = record { text = None; command = is; whole = tt; then_whole = tt; past = omega arith }
  made_is node session (Some s) is whole has =
      cond_both (commits_first s && has) (record { command = c; node = node; session = session; statement = Some (stmts.Commit None); follows = Some s }) (record { command = c; node = node; session = session; statement = Some s; follows = None })
      (IsOf asked c) (λ first. record { text = Some s; command = is; whole = tt; then_whole = whole; past = omega arith }) (λ alone. record { text = Some s; command = is; whole = whole; then_whole = tt; past = omega arith })

  made_at : (node session : ℕ) (s : Option Stmt) (has : Bool) → ((call_of c node session s has).node ≡ node) × ((call_of c node session s has).session ≡ session) × ((call_of c node session s has).command ≡ c)
  made_at node session None has = (refl, refl, refl)
  made_at node session (Some s) has = cond_both (commits_first s && has) _ _ (λ (d : Call). (d.node ≡ node) × (d.session ≡ session) × (d.command ≡ c)) (λ first. (refl, refl, refl)) (λ alone. (refl, refl, refl))

  -- an old call is of an earlier command
  old_own : (n s : ℕ) (o : Option Call) → find (is_call_at n s) t.calls ≡ o → is_own c o ≡ false
  old_own n s None is = refl
  old_own n s (Some d) is = let past : d.command ≤ f.command = (found_so (IsOf asked f.command) (is_call_at n s) t.calls d stand.of is).0.past in grind (arith, nat_tests, past, next)

  -- What a command leaves of the calls.
  abbrev BeginsSo : List Call → Type 0
  BeginsSo cs = AllByRecursion (IsOf asked c) cs × ((n s : ℕ) → called_at t.calls n s ≡ (called_at cs n s && not (is_own c (find (is_call_at n s) cs)))) × ((n s : ℕ) → node_at f n ≡ None → called_at t.calls n s ≡ false → called_at cs n s ≡ false)

  olds : AllByRecursion (IsOf asked c) t.calls
  olds = all_weaker (IsOf asked f.command) (IsOf asked c) later t.calls stand.of

  same_so : BeginsSo t.calls
  same_so = (olds, (λ n s. and_true (called_at t.calls n s) ∙ ap (λ q. called_at t.calls n s && not q) (sym (old_own n s (find (is_call_at n s) t.calls) refl))), (λ n s off none. none))

  find_last : (p : Call → Bool) (xs : List Call) (y : Call) → find p (xs ++ y ∷ []) ≡ (if list_any p xs then find p xs else find p (y ∷ []))
  find_last p [] y = refl
  find_last p (x ∷ xs) y = grind (arith, find_last p xs y)

  called_so : (node session : ℕ) (d : Call) → d.node ≡ node → d.session ≡ session → d.command ≡ c → IsOf asked c d → is_up f node ≡ true → has_call t node session ≡ false → BeginsSo (t.calls ++ d ∷ [])
  called_so node session d at_node at_session at_command is up free = (
    all_append (IsOf asked c) t.calls (d ∷ []) olds (is, tt),
    (λ n s. tested n s (called_at t.calls n s) (is_call_at n s d) refl refl),
    (λ n s off none. list_any-append (is_call_at n s) t.calls (d ∷ []) ∙ (ap (λ q. q || (is_call_at n s d || false)) none ∙ (let it : (false || (is_call_at n s d || false)) ≡ false = ap (λ q. false || (q || false)) (elsewhere n s off) in it))),
  )
    where
      elsewhere : (n s : ℕ) → node_at f n ≡ None → is_call_at n s d ≡ false
      elsewhere n s off = by (d.node == n) refl
        where
          by : (q : Bool) → (d.node == n) ≡ q → (q && (d.session == s)) ≡ false
          by true here =
              let same : node ≡ n = sym at_node ∙ same_number d.node n here in
              let down : is_up f node ≡ false = ap (is_up f) same ∙ ap is_some off in
              absurd (cc (up, down))
          by false here = refl

      tested : (n s : ℕ) (old mine : Bool) → called_at t.calls n s ≡ old → is_call_at n s d ≡ mine
          → called_at t.calls n s ≡ (called_at (t.calls ++ d ∷ []) n s && not (is_own c (find (is_call_at n s) (t.calls ++ d ∷ []))))
      tested n s true mine was here =
          let same : find (is_call_at n s) (t.calls ++ d ∷ []) ≡ find (is_call_at n s) t.calls = find_last (is_call_at n s) t.calls d ∙ ap (λ q. if q then find (is_call_at n s) t.calls else find (is_call_at n s) (d ∷ [])) was in
          let there : called_at (t.calls ++ d ∷ []) n s ≡ true = list_any-append (is_call_at n s) t.calls (d ∷ []) ∙ ap (λ q. q || (is_call_at n s d || false)) was in
          was ∙ (let own : is_own c (find (is_call_at n s) (t.calls ++ d ∷ [])) ≡ false = ap (is_own c) same ∙ old_own n s (find (is_call_at n s) t.calls) refl in
          let it : true ≡ (called_at (t.calls ++ d ∷ []) n s && not (is_own c (find (is_call_at n s) (t.calls ++ d ∷ [])))) = grind (arith, there, own) in it)
      tested n s false true was here =
          let new : find (is_call_at n s) (t.calls ++ d ∷ []) ≡ find (is_call_at n s) (d ∷ []) = find_last (is_call_at n s) t.calls d ∙ ap (λ q. if q then find (is_call_at n s) t.calls else find (is_call_at n s) (d ∷ [])) was in
          let found : find (is_call_at n s) (d ∷ []) ≡ Some d = grind (arith, here) in
          let own : is_own c (find (is_call_at n s) (t.calls ++ d ∷ [])) ≡ true = ap (is_own c) (new ∙ found) ∙ (let it : (d.command == c) ≡ true = grind (arith, nat_tests, at_command) in it) in
          was ∙ (let it : false ≡ (called_at (t.calls ++ d ∷ []) n s && not (is_own c (find (is_call_at n s) (t.calls ++ d ∷ [])))) = grind (arith, own) in it)
      tested n s false false was here =
          let there : called_at (t.calls ++ d ∷ []) n s ≡ false = list_any-append (is_call_at n s) t.calls (d ∷ []) ∙ (ap (λ q. q || (is_call_at n s d || false)) was ∙ ap (λ q. false || (q || false)) here) in
          was ∙ (let it : false ≡ (called_at (t.calls ++ d ∷ []) n s && not (is_own c (find (is_call_at n s) (t.calls ++ d ∷ [])))) = grind (arith, there) in it)

  begins_calls : (d : Command) → command_at asked c ≡ d → IsCommandOver (length places) d → BeginsSo (calls_after f t c d)
  begins_calls (commands.At node session s) is so =
      cond_both (is_up f node && not (has_call t node session)) (t.calls ++ call_of c node session s (has_transaction (node_at f node) session) ∷ []) t.calls BeginsSo
      (λ may. (let parts = and_parts (is_up f node) (not (has_call t node session)) may in let at = made_at node session s (has_transaction (node_at f node) session) in
      called_so node session (call_of c node session s (has_transaction (node_at f node) session)) at.0 at.1 at.2 (made_is node session s is so.2 (has_transaction (node_at f node) session)) parts.0
      (let it : has_call t node session ≡ false = grind (arith, parts.1) in it)))
      (λ other. same_so)
  begins_calls _ is so = same_so

  pub begin_stands : CallsStand asked (length places) (facts_after places asked f (happenings.Begun c)) (begins places f t c (command_at asked c))
  unfolding facts_after
  begin_stands =
      let so : BeginsSo (calls_after f t c (command_at asked c)) = begins_calls (command_at asked c) refl (proper_at (length places) asked c proper) in record {
        of = so.0;
        next_of = subst (λ o. IfSome o (IsOf asked c)) (sym alone) tt;
        next_there = λ d has. (let none = alone in absurd (cc (none, has)));
        heard = λ n k up s. stand.heard n k up s ∙ (ap (λ q. called_at t.calls n s && not q) (quiet n s ∙ ap (λ o. follows_at o n s) alone) ∙ (sym (and_true (called_at t.calls n s))
            ∙ (so.1 n s ∙ ap (λ o. called_at (calls_after f t c (command_at asked c)) n s && not (follows_at o n s || is_own c (find (is_call_at n s) (calls_after f t c (command_at asked c))))) (sym alone))));
        down = λ n off stops s. so.2 n s off (stand.down n off stops s);
        stops = stand.stops;
        starts = stand.starts;
        stop_alone = stand.stop_alone;
        start_alone = stand.start_alone;
        fresh = λ fresh. (record { told = settled.told; upright = settled.upright }, no_start, alone);
      }
