-- The pending calls as they are told: whether a session has one, whether it was made yet, and what becomes of them as calls
-- end and nodes stop.
use Rattle.std.proofs.Common.{◌≡◌, ℕ, ◌≤◌, ◌==◌, ◌&&◌, ◌||◌, not, Bool, true, false, if◌then◌else◌, List, [], ◌∷◌, map, filter, find, IfSome, Option, Some, None, inl, inr, refl, sym, ap, subst, ◌∙◌, ◌⊎◌, arith}
use Rattle.std.specs.Prelude.{is_some}
use Rattle.std.proofs.lemmas.Bool.Decides.{nat_tests}
use Rattle.std.proofs.lemmas.Bool.{cond_both, and_parts}
use Rattle.std.proofs.lemmas.Map.Views.{any-filter_same}
use Rattle.std.specs.List.{AllByRecursion, list_any}
use Rattle.sql_statement.specs.Whole.{IsWhole}
use Rattle.node_rules.specs.Data.{Stmt, Place}
use Rattle.node_rules.specs.declared.session.Finished.{Finished}
use Rattle.node_rules.specs.Points.{Point}
use Rattle.run_rules.specs.Data.{Command, Said}
use Rattle.run_rules.specs.Data.commands
use Rattle.run_rules.specs.Facts.{command_at}
use Rattle.run_rules.specs.RunReport.{RunReport, Call}
use Rattle.run_rules.specs.Lines.{is_down, is_reached, says_node, call_line_of, reached_line, call_line}
use Rattle.run_rules.specs.Calls.{is_call_at, call_at, without_call, change_call, is_complete, second_of, call_follows, call_ends, ends_or_follows, finished_call, finished, stopped_calls}
use Rattle.run_rules.proofs.ListLemmas.{all_filter}
use Rattle.run_ready_laws.proofs.CallEndLemmas.{is_ended, same_number, and_true}

-- A call of a command: the command is of its session, and its statements are such that a text spells.
pub record IsOf (asked : List Command) (running : ℕ) (c : Call) : Type 0 where
  pub text : Option Stmt
  pub command : command_at asked c.command ≡ commands.At c.node c.session text
  pub whole : IfSome c.statement IsWhole
  pub then_whole : IfSome c.follows IsWhole
  pub past : c.command ≤ running

-- whether a session has a pending call
abbrev pub called_at : List Call → ℕ → ℕ → Bool
called_at cs n s = list_any (is_call_at n s) cs

-- whether the call that comes next is of a session
abbrev pub follows_at : Option Call → ℕ → ℕ → Bool
follows_at None n s = false
follows_at (Some c) n s = is_call_at n s c

-- ---- lists

find_called : (p : Call → Bool) (xs : List Call) → is_some (find p xs) ≡ list_any p xs
find_called p [] = refl
find_called p (x ∷ xs) = grind (arith, find_called p xs)

pub there_called : (n s : ℕ) (cs : List Call) (c : Call) → find (is_call_at n s) cs ≡ Some c → called_at cs n s ≡ true
there_called n s cs c is = sym (find_called (is_call_at n s) cs) ∙ ap is_some is

pub none_called : (n s : ℕ) (cs : List Call) → find (is_call_at n s) cs ≡ None → called_at cs n s ≡ false
none_called n s cs is = sym (find_called (is_call_at n s) cs) ∙ ap is_some is

-- a call that is found is of its list and of its session
pub found_so : (P : Call → Type 0) (p : Call → Bool) (xs : List Call) (c : Call) → AllByRecursion P xs → find p xs ≡ Some c → P c × (p c ≡ true)
found_so P p [] c all is = absurd cc
found_so P p (x ∷ xs) c all is = by (p x) refl (found_so P p xs c all.1)
  where
    by : (q : Bool) → p x ≡ q → (find p xs ≡ Some c → P c × (p c ≡ true)) → P c × (p c ≡ true)
    by true here later =
        let first : find p (x ∷ xs) ≡ Some x = grind (arith, here) in
        let it : Some x ≡ Some c = sym first ∙ is in
        let same : x ≡ c = cc in
        (subst P same all.0, subst (λ y. p y ≡ true) same here)
    by false here later = later (let rest : find p (x ∷ xs) ≡ find p xs = grind (arith, here) in sym rest ∙ is)

pub at_parts : (n s : ℕ) (c : Call) → is_call_at n s c ≡ true → (c.node ≡ n) × (c.session ≡ s)
at_parts n s c is = let parts = and_parts (c.node == n) (c.session == s) is in (same_number c.node n parts.0, same_number c.session s parts.1)

-- without the calls of a session
gone_called : (n s : ℕ) (cs : List Call) → called_at (filter (λ c. not (is_call_at n s c)) cs) n s ≡ false
gone_called n s [] = refl
gone_called n s (c ∷ cs) =
    cond_both (not (is_call_at n s c)) (c ∷ filter (λ d. not (is_call_at n s d)) cs) (filter (λ d. not (is_call_at n s d)) cs) (λ ds. called_at ds n s ≡ false)
    (λ other. grind (arith, other, gone_called n s cs)) (λ here. gone_called n s cs)

still_called : (n s m q : ℕ) (cs : List Call) → ((n == m) && (s == q)) ≡ false → called_at (filter (λ c. not (is_call_at n s c)) cs) m q ≡ called_at cs m q
still_called n s m q cs other = any-filter_same (is_call_at m q) (λ c. not (is_call_at n s c)) true (λ c is. (let it : not (is_call_at n s c) ≡ true = grind (arith, nat_tests, is, other) in it)) cs

pub without_called : (n s m q : ℕ) (cs : List Call) → called_at (filter (λ c. not (is_call_at n s c)) cs) m q ≡ (called_at cs m q && not ((n == m) && (s == q)))
without_called n s m q cs = by ((n == m) && (s == q)) refl
  where
    by : (b : Bool) → ((n == m) && (s == q)) ≡ b → called_at (filter (λ c. not (is_call_at n s c)) cs) m q ≡ (called_at cs m q && not b)
    by true is =
        let parts = and_parts (n == m) (s == q) is in
        let gone : called_at (filter (λ c. not (is_call_at n s c)) cs) m q ≡ false
        = subst (λ j. called_at (filter (λ c. not (is_call_at n s c)) cs) j q ≡ false) (same_number n m parts.0) (subst (λ j. called_at (filter (λ c. not (is_call_at n s c)) cs) n j ≡ false) (same_number s q parts.1) (gone_called n s cs)) in
        grind (arith, gone)
    by false is = grind (arith, still_called n s m q cs is)

-- ---- what is told of a call that ends leaves the calls

-- The same calls are pending.
pub record SameCalls (t u : RunReport) : Type 0 where
  pub calls : u.calls ≡ t.calls
  pub next_call : u.next_call ≡ t.next_call
  pub start : u.start_to_stop ≡ t.start_to_stop

pub same_calls : (t : RunReport) → SameCalls t t
same_calls t = record { calls = refl; next_call = refl; start = refl }

pub same_again : (t u v : RunReport) → SameCalls t u → SameCalls u v → SameCalls t v
same_again t u v one two = record { calls = two.calls ∙ one.calls; next_call = two.next_call ∙ one.next_call; start = two.start ∙ one.start }

line_of_same : (running : ℕ) (t : RunReport) (command : ℕ) (s : Said) → SameCalls t (call_line_of running t command s)
line_of_same running t command s = cond_both (running == command) _ _ (SameCalls t) (λ own. record { calls = refl; next_call = refl; start = refl }) (λ other. record { calls = refl; next_call = refl; start = refl })

reached_same : (running : ℕ) (t : RunReport) (command : ℕ) (o : Option Point) → SameCalls t (reached_line running t command o)
reached_same running t command None = same_calls t
reached_same running t command (Some x) = line_of_same running t command _

pub line_same : (running : ℕ) (t : RunReport) (command : ℕ) (s : Said) → SameCalls t (call_line running t command s)
line_same running t command s =
    let u : RunReport = call_line_of running t command s in same_again t u _ (line_of_same running t command s) (reached_same running u command (find (is_reached command) t.points))

-- ---- one call that ends

-- The calls of a session are pending no more.
pub record Gone (asked : List Command) (running node session : ℕ) (t u : RunReport) : Type 0 where
  pub start : u.start_to_stop ≡ t.start_to_stop
  pub of : AllByRecursion (IsOf asked running) u.calls
  pub next_call : u.next_call ≡ t.next_call
  pub calls : (n s : ℕ) → called_at u.calls n s ≡ (called_at t.calls n s && not ((node == n) && (session == s)))

-- Or the second statement of its call comes next.
pub record Follows_so (asked : List Command) (running node session : ℕ) (t u : RunReport) : Type 0 where
  pub start : u.start_to_stop ≡ t.start_to_stop
  pub of : AllByRecursion (IsOf asked running) u.calls
  pub second : Call
  pub next_call : u.next_call ≡ Some second
  pub node_is : second.node ≡ node
  pub session_is : second.session ≡ session
  pub there : called_at t.calls node session ≡ true
  pub calls : (n s : ℕ) → called_at u.calls n s ≡ called_at t.calls n s
  pub is_of : IsOf asked running second

module _ (asked : List Command) (running : ℕ) (t : RunReport) (of : AllByRecursion (IsOf asked running) t.calls) (node session : ℕ) where
  -- the session has none
  none_gone : call_at t node session ≡ None → Gone asked running node session t t
  none_gone is = record { start = refl; of = of; next_call = refl; calls = λ n s. none n s ((node == n) && (session == s)) refl }
    where
      none : (n s : ℕ) (b : Bool) → ((node == n) && (session == s)) ≡ b → called_at t.calls n s ≡ (called_at t.calls n s && not b)
      none n s true here =
          let parts = and_parts (node == n) (session == s) here in
          let no : called_at t.calls n s ≡ false = subst (λ j. called_at t.calls j s ≡ false) (same_number node n parts.0) (subst (λ j. called_at t.calls node j ≡ false) (same_number session s parts.1) (none_called node session t.calls is)) in
          grind (arith, no)
      none n s false here = and_true (called_at t.calls n s)

  module _ (c : Call) (at : call_at t node session ≡ Some c) where
    it_is : IsOf asked running c × (is_call_at node session c ≡ true)
    it_is = found_so (IsOf asked running) (is_call_at node session) t.calls c of at

    its : (c.node ≡ node) × (c.session ≡ session)
    its = at_parts node session c it_is.1

    -- it is answered
    call_gone : (f : Finished) → Gone asked running node session t (call_ends running t c f)
    call_gone f =
        let u : RunReport = without_call t c.node c.session in
        let line : SameCalls u (call_ends running t c f) = line_same running u c.command (says_node f) in record {
          start = line.start;
          of = subst (AllByRecursion (IsOf asked running)) (sym line.calls) (all_filter (IsOf asked running) (IsOf asked running) (λ d. not (is_call_at c.node c.session d)) (λ d passes is. is) t.calls of);
          next_call = line.next_call;
          calls = λ n s. ap (λ cs. called_at cs n s) line.calls ∙ (without_called c.node c.session n s t.calls
              ∙ (ap (λ i. called_at t.calls n s && not ((i == n) && (c.session == s))) its.0 ∙ ap (λ i. called_at t.calls n s && not ((node == n) && (i == s))) its.1));
        }

    -- its second statement comes
    module _ (s : Stmt) (follows : c.follows ≡ Some s) where
      abbrev second_call : Call
      second_call = second_of c s

      second_is : IsOf asked running second_call
      second_is = record { text = it_is.0.text; command = it_is.0.command; whole = subst (λ o. IfSome o IsWhole) follows it_is.0.then_whole; then_whole = tt; past = it_is.0.past }

      -- a call of the same command is of the same session
      one_command : (d : Call) → IsOf asked running d → (d.command == c.command) ≡ true → (d.node ≡ c.node) × (d.session ≡ c.session)
      one_command d is same =
          let it : commands.At d.node d.session is.text ≡ commands.At c.node c.session it_is.0.text = sym is.command ∙ (ap (command_at asked) (same_number d.command c.command same) ∙ it_is.0.command) in
          (let one : d.node ≡ c.node = cc in one, let two : d.session ≡ c.session = cc in two)

      change_of : (d : Call) → IsOf asked running d → IsOf asked running (change_call second_call d)
      change_of d is = cond_both (d.command == c.command) second_call d (IsOf asked running) (λ here. second_is) (λ other. is)

      changed_of : (cs : List Call) → AllByRecursion (IsOf asked running) cs → AllByRecursion (IsOf asked running) (map (change_call second_call) cs)
      changed_of [] all = tt
      changed_of (d ∷ ds) all = (change_of d all.0, changed_of ds all.1)

      change_at : (n q : ℕ) (d : Call) → IsOf asked running d → is_call_at n q (change_call second_call d) ≡ is_call_at n q d
      change_at n q d is = cond_both (d.command == c.command) second_call d (λ x. is_call_at n q x ≡ is_call_at n q d)
          (λ here. (let same = one_command d is here in ap (λ i. (i == n) && (c.session == q)) (sym same.0) ∙ ap (λ i. (d.node == n) && (i == q)) (sym same.1))) (λ other. refl)

      changed_at : (n q : ℕ) (cs : List Call) → AllByRecursion (IsOf asked running) cs → called_at (map (change_call second_call) cs) n q ≡ called_at cs n q
      changed_at n q [] all = refl
      changed_at n q (d ∷ ds) all = ap (λ b. b || called_at (map (change_call second_call) ds) n q) (change_at n q d all.0) ∙ ap (λ b. is_call_at n q d || b) (changed_at n q ds all.1)

      second_comes : Follows_so asked running node session t (call_follows t second_call)
      second_comes = record {
        start = refl;
        of = changed_of t.calls of;
        second = second_call;
        next_call = refl;
        node_is = its.0;
        session_is = its.1;
        there = there_called node session t.calls c at;
        calls = λ n q. changed_at n q t.calls of;
        is_of = second_is;
      }

    ends_or_follows_so : (f : Finished) (o : Option Stmt) → c.follows ≡ o → Gone asked running node session t (ends_or_follows running t c f o) ⊎ Follows_so asked running node session t (ends_or_follows running t c f o)
    ends_or_follows_so f None is = inl (call_gone f)
    ends_or_follows_so f (Some s) is =
        cond_both (is_complete f.answer) (call_follows t (second_of c s)) (call_ends running t c f) (λ u. Gone asked running node session t u ⊎ Follows_so asked running node session t u)
        (λ complete. inr (second_comes s is)) (λ other. inl (call_gone f))

    refused_gone : (f : Finished) (o : Option Stmt) → is_complete f.answer ≡ false → Gone asked running node session t (ends_or_follows running t c f o)
    refused_gone f None refused = call_gone f
    refused_gone f (Some s) refused =
        cond_both (is_complete f.answer) (call_follows t (second_of c s)) (call_ends running t c f) (Gone asked running node session t) (λ complete. absurd (cc (refused, complete))) (λ other. call_gone f)

  -- one call that ends
  finished_so : (f : Finished) (o : Option Call) → call_at t node session ≡ o → Gone asked running node session t (finished_call running t f o) ⊎ Follows_so asked running node session t (finished_call running t f o)
  finished_so f None is = inl (none_gone is)
  finished_so f (Some c) is = ends_or_follows_so c is f c.follows refl

  -- one that is refused
  refused_so : (f : Finished) (o : Option Call) → call_at t node session ≡ o → is_complete f.answer ≡ false → Gone asked running node session t (finished_call running t f o)
  refused_so f None is refused = none_gone is
  refused_so f (Some c) is refused = refused_gone c is f c.follows refused

-- ---- the calls that a turn ends

-- one call ends, or a refused one and another
abbrev pub EndsFew : List Finished → Type 0
EndsFew [] = Unit {0}
EndsFew (f ∷ []) = Unit {0}
EndsFew (f ∷ g ∷ []) = is_complete f.answer ≡ false
EndsFew (f ∷ g ∷ h ∷ fs) = ⊥

-- What a turn leaves of the calls of a node.
pub record Leaves (asked : List Command) (running node : ℕ) (fs : List Finished) (t u : RunReport) : Type 0 where
  pub start : u.start_to_stop ≡ t.start_to_stop
  pub of : AllByRecursion (IsOf asked running) u.calls
  pub next_of : IfSome u.next_call (IsOf asked running)
  pub next_there : (c : Call) → u.next_call ≡ Some c → called_at u.calls c.node c.session ≡ true
  pub calls : (n s : ℕ) → (called_at u.calls n s && not (follows_at u.next_call n s)) ≡ (called_at t.calls n s && not ((node == n) && is_ended s fs))
  pub fewer : (n s : ℕ) → called_at t.calls n s ≡ false → called_at u.calls n s ≡ false
  pub elsewhere : (n s : ℕ) → (node == n) ≡ false → follows_at u.next_call n s ≡ false

none_by : (c n : Bool) → (c && not false) ≡ (c && not (n && false))
none_by true true = refl
none_by true false = refl
none_by false n = refl

gone_by : (u c n s : Bool) → u ≡ (c && not (n && s)) → (u && not false) ≡ (c && not (n && (s || false)))
gone_by u c n s is = grind (arith, is)

second_by : (u c n s : Bool) → u ≡ c → (u && not (n && s)) ≡ (c && not (n && (s || false)))
second_by u c n s is = grind (arith, is)

two_by : (x u c n s r : Bool) → x ≡ (u && not (n && r)) → u ≡ (c && not (n && s)) → x ≡ (c && not (n && (s || r)))
two_by x u c n s r one two = grind (arith, one, two)

fewer_by : (u c n : Bool) → u ≡ (c && not n) → c ≡ false → u ≡ false
fewer_by u c n is none = grind (arith, is, none)

module _ (asked : List Command) (running : ℕ) (t : RunReport) (of : AllByRecursion (IsOf asked running) t.calls) (alone : t.next_call ≡ None) (node : ℕ) where
  none_leaves : Leaves asked running node [] t t
  none_leaves = record {
    start = refl;
    of = of;
    next_of = subst (λ o. IfSome o (IsOf asked running)) (sym alone) tt;
    next_there = λ c is. absurd (cc (alone, is));
    calls = λ n s. subst (λ o. (called_at t.calls n s && not (follows_at o n s)) ≡ (called_at t.calls n s && not ((node == n) && false))) (sym alone) (none_by (called_at t.calls n s) (node == n));
    fewer = λ n s none. none;
    elsewhere = λ n s other. ap (λ o. follows_at o n s) alone;
  }

  gone_leaves : (f : Finished) (u : RunReport) → Gone asked running node f.session t u → Leaves asked running node (f ∷ []) t u
  gone_leaves f u is =
      let none : u.next_call ≡ None = is.next_call ∙ alone in record {
        start = is.start;
        of = is.of;
        next_of = subst (λ o. IfSome o (IsOf asked running)) (sym none) tt;
        next_there = λ c has. absurd (cc (none, has));
        calls = λ n s. ap (λ o. called_at u.calls n s && not (follows_at o n s)) none ∙ gone_by (called_at u.calls n s) (called_at t.calls n s) (node == n) (f.session == s) (is.calls n s);
        fewer = λ n s empty. fewer_by (called_at u.calls n s) (called_at t.calls n s) ((node == n) && (f.session == s)) (is.calls n s) empty;
        elsewhere = λ n s other. ap (λ o. follows_at o n s) none;
      }

  follows_leaves : (f : Finished) (u : RunReport) → Follows_so asked running node f.session t u → Leaves asked running node (f ∷ []) t u
  follows_leaves f u is = record {
    start = is.start;
    of = is.of;
    next_of = subst (λ o. IfSome o (IsOf asked running)) (sym is.next_call) is.is_of;
    next_there = λ c has. (let it : Some is.second ≡ Some c = sym is.next_call ∙ has in let same : is.second ≡ c = cc in
        subst (λ (d : Call). called_at u.calls d.node d.session ≡ true) same (subst (λ i. called_at u.calls i is.second.session ≡ true) (sym is.node_is) (subst (λ i. called_at u.calls node i ≡ true) (sym is.session_is) (is.calls node f.session ∙ is.there))));
    calls = λ n s. ap (λ o. called_at u.calls n s && not (follows_at o n s)) is.next_call ∙ (ap (λ i. called_at u.calls n s && not ((i == n) && (is.second.session == s))) is.node_is
        ∙ (ap (λ i. called_at u.calls n s && not ((node == n) && (i == s))) is.session_is ∙ second_by (called_at u.calls n s) (called_at t.calls n s) (node == n) (f.session == s) (is.calls n s)));
    fewer = λ n s none. is.calls n s ∙ none;
    elsewhere = λ n s other. ap (λ o. follows_at o n s) is.next_call ∙ (ap (λ i. (i == n) && (is.second.session == s)) is.node_is ∙ ap (λ q. q && (is.second.session == s)) other);
  }

  one_leaves : (f : Finished) → Leaves asked running node (f ∷ []) t (finished_call running t f (call_at t node f.session))
  one_leaves f = elim (finished_so asked running t of node f.session f (call_at t node f.session) refl) [ inl gone ↦ gone_leaves f _ gone | inr follows ↦ follows_leaves f _ follows ]

pub few_leave : (asked : List Command) (running : ℕ) (t : RunReport) → AllByRecursion (IsOf asked running) t.calls → t.next_call ≡ None → (node : ℕ) (fs : List Finished) → EndsFew fs
    → Leaves asked running node fs t (finished running t node fs)
few_leave asked running t of alone node [] few = none_leaves asked running t of alone node
few_leave asked running t of alone node (f ∷ []) few = one_leaves asked running t of alone node f
few_leave asked running t of alone node (f ∷ g ∷ []) refused =
    let u : RunReport = finished_call running t f (call_at t node f.session) in
    let gone : Gone asked running node f.session t u = refused_so asked running t of node f.session f (call_at t node f.session) refl refused in
    let rest : Leaves asked running node (g ∷ []) u (finished running u node (g ∷ [])) = one_leaves asked running u gone.of (gone.next_call ∙ alone) node g in record {
      start = rest.start ∙ gone.start;
      of = rest.of;
      next_of = rest.next_of;
      next_there = rest.next_there;
      calls = λ n s. two_by _ (called_at u.calls n s) (called_at t.calls n s) (node == n) (f.session == s) (is_ended s (g ∷ [])) (rest.calls n s) (gone.calls n s);
      fewer = λ n s none. rest.fewer n s (fewer_by (called_at u.calls n s) (called_at t.calls n s) ((node == n) && (f.session == s)) (gone.calls n s) none);
      elsewhere = rest.elsewhere;
    }
few_leave asked running t of alone node (f ∷ g ∷ h ∷ fs) few = absurd few

-- ---- the calls of a node that stops

-- What a stop leaves of the calls.
pub record StopLeaves (asked : List Command) (running n : ℕ) (cs : List Call) (t u : RunReport) : Type 0 where
  pub next_call : u.next_call ≡ t.next_call
  pub start : u.start_to_stop ≡ t.start_to_stop
  pub of : AllByRecursion (IsOf asked running) u.calls
  pub elsewhere : (m s : ℕ) → (n == m) ≡ false → called_at u.calls m s ≡ called_at t.calls m s
  pub here : (s : ℕ) → (called_at cs n s ≡ true) ⊎ (called_at t.calls n s ≡ false) → called_at u.calls n s ≡ false

left_by : (c m s : Bool) → m ≡ false → (c && not (m && s)) ≡ c
left_by c m s is = grind (arith, is)

first_by : (q b cs ct cu : Bool) → q ≡ true → (((q && b) || cs) ≡ true) ⊎ (ct ≡ false) → cu ≡ (ct && not (q && b)) → (cs ≡ true) ⊎ (cu ≡ false)
first_by q true cs ct cu here either at = inr (grind (arith, here, at))
first_by q false cs ct cu here either at = elim either [ inl called ↦ inl (let it : cs ≡ true = grind (arith, here, called) in it) | inr none ↦ inr (let it : cu ≡ false = grind (arith, at, none) in it) ]

module _ (asked : List Command) (places : List Place) (running n : ℕ) where
  pub stop_leaves : (cs : List Call) (t : RunReport) → AllByRecursion (IsOf asked running) t.calls → StopLeaves asked running n cs t (stopped_calls places running t n cs)
  stop_leaves [] t of = record { next_call = refl; start = refl; of = of; elsewhere = λ m s other. refl; here = λ s either. elim either [ inl is ↦ absurd cc | inr none ↦ none ] }
  stop_leaves (c ∷ cs) t of = by (c.node == n) refl (stop_leaves cs)
    where
      by : (q : Bool) → (c.node == n) ≡ q → ((u : RunReport) → AllByRecursion (IsOf asked running) u.calls → StopLeaves asked running n cs u (stopped_calls places running u n cs))
          → StopLeaves asked running n (c ∷ cs) t (if q then stopped_calls places running (call_line running (without_call t c.node c.session) c.command (is_down places n)) n cs else stopped_calls places running t n cs)
      by true is more =
          let v : RunReport = without_call t c.node c.session in
          let u : RunReport = call_line running v c.command (is_down places n) in
          let line : SameCalls v u = line_same running v c.command (is_down places n) in
          let of_u : AllByRecursion (IsOf asked running) u.calls = subst (AllByRecursion (IsOf asked running)) (sym line.calls) (all_filter (IsOf asked running) (IsOf asked running) (λ d. not (is_call_at c.node c.session d)) (λ d passes so. so) t.calls of) in
          let rest = more u of_u in
          let at : (m s : ℕ) → called_at u.calls m s ≡ (called_at t.calls m s && not ((c.node == m) && (c.session == s))) = λ m s. ap (λ ds. called_at ds m s) line.calls ∙ without_called c.node c.session m s t.calls in record {
            next_call = rest.next_call ∙ line.next_call;
            start = rest.start ∙ line.start;
            of = rest.of;
            elsewhere = λ m s other. rest.elsewhere m s other ∙ (at m s ∙ left_by (called_at t.calls m s) (c.node == m) (c.session == s) (ap (λ i. i == m) (same_number c.node n is) ∙ other));
            here = λ s either. rest.here s (first_by (c.node == n) (c.session == s) (called_at cs n s) (called_at t.calls n s) (called_at u.calls n s) is either (at n s));
          }
      by false is more =
          let rest = more t of in record {
            next_call = rest.next_call;
            start = rest.start;
            of = rest.of;
            elsewhere = rest.elsewhere;
            here = λ s either. rest.here s (elim either [ inl called ↦ inl (let it : called_at cs n s ≡ true = grind (arith, called, is) in it) | inr none ↦ inr none ]);
          }
