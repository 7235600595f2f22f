-- The pending calls as calls end: a session has no call that it had not, and each call's command is of its session.
use Rattle.std.proofs.Common.{◌≡◌, ℕ, ◌==◌, ◌&&◌, not, Bool, true, false, if◌then◌else◌, List, [], ◌∷◌, map, filter, find, Option, Some, None, refl, sym, ap, subst, ◌∙◌}
use Rattle.std.specs.List.{AllByRecursion}
use Rattle.std.proofs.lemmas.Bool.{cond_both, and_parts, and_from, eqb-true, eq-eqb}
use Rattle.node_rules.specs.Data.{Stmt, Place}
use Rattle.node_rules.specs.declared.session.Finished.{Finished}
use Rattle.node_rules.specs.Points.{Point}
use Rattle.run_rules.specs.Data.{Command, Said}
use Rattle.run_rules.specs.Data.commands
use Rattle.run_rules.specs.Facts.{command_at}
use Rattle.run_rules.specs.RunReport.{RunReport, Call}
use Rattle.run_rules.specs.Lines.{is_reached, says_node, is_down, call_line_of, reached_line, call_line}
use Rattle.run_rules.specs.Calls.{is_call_at, call_at, without_call, change_call, is_complete, second_of, call_follows, call_ends, ends_or_follows, finished_call, finished, stopped_calls}
use Rattle.run_rules.proofs.ListLemmas.{all_filter}
use Rattle.answer_origin_laws.proofs.CallAtLemmas.{find_kept, find_left}
use Rattle.run_ready_laws.proofs.PendingLemmas.{found_so as found_holds}

-- ---- lists

module _ (p : Call → Bool) (g : Call → Call) where
  map_find : (xs : List Call) (y : Call) → AllByRecursion (λ x. p (g x) ≡ p x) xs → find p (map g xs) ≡ Some y → (x : Call) × (find p xs ≡ Some x) × (g x ≡ y)
  map_find [] y all at = absurd cc
  map_find (x ∷ xs) y all at = by (p x) refl (map_find xs y all.1)
    where
      by : (q : Bool) → p x ≡ q → (find p (map g xs) ≡ Some y → (z : Call) × (find p xs ≡ Some z) × (g z ≡ y)) → (z : Call) × ((if p x then Some x else find p xs) ≡ Some z) × (g z ≡ y)
      by true is later =
          let first : Some (g x) ≡ Some y = sym (ap (λ b. if b then Some (g x) else find p (map g xs)) (all.0 ∙ is)) ∙ at in
          let same : g x ≡ y = cc in
          (x, ap (λ b. if b then Some x else find p xs) is, same)
      by false is later =
          let more = later (sym (ap (λ b. if b then Some (g x) else find p (map g xs)) (all.0 ∙ is)) ∙ at) in (more.0, ap (λ b. if b then Some x else find p xs) is ∙ more.1, more.2)

parts_of : (n s : ℕ) (c : Call) → is_call_at n s c ≡ true → (c.node ≡ n) × (c.session ≡ s)
parts_of n s c is = let both = and_parts (c.node == n) (c.session == s) is in (eqb-true c.node n both.0, eqb-true c.session s both.1)

-- ---- calls

module _ (asked : List Command) where
  -- the command of a call is of its session
  abbrev pub IsNamed : Call → Type 0
  IsNamed c = (text : Option Stmt) × (command_at asked c.command ≡ commands.At c.node c.session text)

  abbrev pub AreNamed : RunReport → Type 0
  AreNamed t = AllByRecursion IsNamed t.calls

  pub call_named : (t : RunReport) (n s : ℕ) (c : Call) → AreNamed t → call_at t n s ≡ Some c → IsNamed c × (c.node ≡ n) × (c.session ≡ s)
  call_named t n s c named at = let it = found_holds IsNamed (is_call_at n s) t.calls c named at in let parts = parts_of n s c it.1 in (it.0, parts.0, parts.1)

  -- what is told has the same calls
  line_of_calls : (running : ℕ) (t : RunReport) (command : ℕ) (s : Said) → (call_line_of running t command s).calls ≡ t.calls
  line_of_calls running t command s = cond_both (running == command) _ _ (λ (u : RunReport). u.calls ≡ t.calls) (λ own. refl) (λ other. refl)

  reached_calls : (running : ℕ) (t : RunReport) (command : ℕ) (o : Option Point) → (reached_line running t command o).calls ≡ t.calls
  reached_calls running t command None = refl
  reached_calls running t command (Some x) = line_of_calls running t command _

  pub line_calls : (running : ℕ) (t : RunReport) (command : ℕ) (s : Said) → (call_line running t command s).calls ≡ t.calls
  line_calls running t command s = reached_calls running (call_line_of running t command s) command (find (is_reached command) t.points) ∙ line_of_calls running t command s

  -- Each call of a session of the node was there before, of the same command.
  abbrev pub Were : ℕ → RunReport → RunReport → Type 0
  Were node t u = (s : ℕ) (c : Call) → call_at u node s ≡ Some c → (d : Call) × (call_at t node s ≡ Some d) × (d.command ≡ c.command)

  pub were_same : (node : ℕ) (t u : RunReport) → u.calls ≡ t.calls → Were node t u
  were_same node t u same s c at = (c, ap (find (is_call_at node s)) (sym same) ∙ at, refl)

  pub were_then : (node : ℕ) (t u v : RunReport) → Were node t u → Were node u v → Were node t v
  were_then node t u v one two s c at = let d = two s c at in let e = one s d.0 d.1 in (e.0, e.1, e.2 ∙ d.2)

  pub were_none : (node : ℕ) (t u : RunReport) → Were node t u → (s : ℕ) → call_at t node s ≡ None → call_at u node s ≡ None
  were_none node t u were s none = by (call_at u node s) refl
    where
      by : (o : Option Call) → call_at u node s ≡ o → call_at u node s ≡ None
      by None at = at
      by (Some c) at = let d = were s c at in absurd (let some : call_at t node s ≡ Some d.0 = d.1 in cc (none, some))

  -- without the call of a session
  without_were : (node : ℕ) (t : RunReport) (m q : ℕ) → Were node t (without_call t m q)
  without_were node t m q s c at = by ((node == m) && (s == q)) refl
    where
      so : (x : Call) → is_call_at node s x ≡ true → not (is_call_at m q x) ≡ not ((node == m) && (s == q))
      so x is = let parts = parts_of node s x is in ap (λ i. not ((i == m) && (x.session == q))) parts.0 ∙ ap (λ i. not ((node == m) && (i == q))) parts.1

      by : (b : Bool) → ((node == m) && (s == q)) ≡ b → (d : Call) × (call_at t node s ≡ Some d) × (d.command ≡ c.command)
      by true here = absurd (let none : find (is_call_at node s) (filter (λ x. not (is_call_at m q x)) t.calls) ≡ None = find_left (is_call_at node s) (λ x. not (is_call_at m q x)) (λ x is. so x is ∙ ap not here) t.calls in cc (none, at))
      by false other = (c, sym (find_kept (is_call_at node s) (λ x. not (is_call_at m q x)) (λ x is. so x is ∙ ap not other) t.calls) ∙ at, refl)

  without_none : (t : RunReport) (n s m q : ℕ) → n ≡ m → s ≡ q → call_at (without_call t m q) n s ≡ None
  without_none t n s m q node session =
      find_left (is_call_at n s) (λ x. not (is_call_at m q x))
      (λ x is. (let parts = parts_of n s x is in let here : is_call_at m q x ≡ true = and_from (x.node == m) (x.session == q) (eq-eqb x.node m (parts.0 ∙ node)) (eq-eqb x.session q (parts.1 ∙ session)) in ap not here)) t.calls

  without_named : (t : RunReport) (m q : ℕ) → AreNamed t → AreNamed (without_call t m q)
  without_named t m q named = all_filter IsNamed IsNamed (λ x. not (is_call_at m q x)) (λ x passes is. is) t.calls named

  -- the second statement of a call comes
  module _ (c : Call) (its : IsNamed c) (st : Stmt) where
    abbrev new : Call
    new = second_of c st

    one_command : (d : Call) → IsNamed d → (d.command == c.command) ≡ true → (d.node ≡ c.node) × (d.session ≡ c.session)
    one_command d is same =
        let it : commands.At d.node d.session is.0 ≡ commands.At c.node c.session its.0 = sym is.1 ∙ (ap (command_at asked) (eqb-true d.command c.command same) ∙ its.1) in
        (let one : d.node ≡ c.node = cc in one, let two : d.session ≡ c.session = cc in two)

    changed_named : (cs : List Call) → AllByRecursion IsNamed cs → AllByRecursion IsNamed (map (change_call new) cs)
    changed_named [] all = tt
    changed_named (d ∷ ds) all = (cond_both (d.command == c.command) new d IsNamed (λ same. its) (λ other. all.0), changed_named ds all.1)

    changed_at : (n s : ℕ) (cs : List Call) → AllByRecursion IsNamed cs → AllByRecursion (λ d. is_call_at n s (change_call new d) ≡ is_call_at n s d) cs
    changed_at n s [] all = tt
    changed_at n s (d ∷ ds) all = (
      cond_both (d.command == c.command) new d (λ x. is_call_at n s x ≡ is_call_at n s d)
          (λ here. (let same = one_command d all.0 here in ap (λ i. (i == n) && (c.session == s)) (sym same.0) ∙ ap (λ i. (d.node == n) && (i == s)) (sym same.1))) (λ other. refl),
      changed_at n s ds all.1,
    )

    same_command : (d : Call) → (change_call new d).command ≡ d.command
    same_command d = cond_both (d.command == c.command) new d (λ (x : Call). x.command ≡ d.command) (λ same. sym (eqb-true d.command c.command same)) (λ other. refl)

    follows_were : (node : ℕ) (t : RunReport) → AreNamed t → Were node t (call_follows t new)
    follows_were node t named s e at =
        let it = map_find (is_call_at node s) (change_call new) t.calls e (changed_at node s t.calls named) at in
        (it.0, it.1, sym (same_command it.0) ∙ ap (λ (x : Call). x.command) it.2)

  -- ---- calls that end

  -- What one end of a call leaves.
  pub record Left (node : ℕ) (t u : RunReport) : Type 0 where
    pub were : Were node t u
    pub named : AreNamed u

  left_same : (node : ℕ) (t : RunReport) → AreNamed t → Left node t t
  left_same node t named = record { were = were_same node t t refl; named = named }

  left_then : (node : ℕ) (t u v : RunReport) → Left node t u → Left node u v → Left node t v
  left_then node t u v one two = record { were = were_then node t u v one.were two.were; named = two.named }

  -- a call is pending no more
  pub gone_left : (node running : ℕ) (t : RunReport) (m q command : ℕ) (s : Said) → AreNamed t → Left node t (call_line running (without_call t m q) command s)
  gone_left node running t m q command s named =
      let w : RunReport = without_call t m q in
      let u : RunReport = call_line running w command s in
      let same : u.calls ≡ w.calls = line_calls running w command s in
      record { were = were_then node t w u (without_were node t m q) (were_same node w u same); named = subst (AllByRecursion IsNamed) (sym same) (without_named t m q named) }

  pub gone_none : (running : ℕ) (t : RunReport) (n s command : ℕ) (c : Call) (x : Said) → (c.node ≡ n) × (c.session ≡ s) → call_at (call_line running (without_call t c.node c.session) command x) n s ≡ None
  gone_none running t n s command c x its = ap (find (is_call_at n s)) (line_calls running (without_call t c.node c.session) command x) ∙ without_none t n s c.node c.session (sym its.0) (sym its.1)

  module _ (node running : ℕ) where
    one_left : (t : RunReport) (f : Finished) → AreNamed t → (o : Option Call) → call_at t node f.session ≡ o → Left node t (finished_call running t f o)
    one_left t f named None at = left_same node t named
    one_left t f named (Some c) at = by c.follows
      where
        by : (o : Option Stmt) → Left node t (ends_or_follows running t c f o)
        by None = gone_left node running t c.node c.session c.command (says_node f) named
        by (Some st) =
            let its : IsNamed c = (call_named t node f.session c named at).0 in
            cond_both (is_complete f.answer) (call_follows t (second_of c st)) (call_ends running t c f) (Left node t)
            (λ complete. record { were = follows_were c its st node t named; named = changed_named c its st t.calls named }) (λ other. gone_left node running t c.node c.session c.command (says_node f) named)

    pub all_left : (t : RunReport) (fs : List Finished) → AreNamed t → Left node t (finished running t node fs)
    all_left t [] named = left_same node t named
    all_left t (f ∷ fs) named =
        let u : RunReport = finished_call running t f (call_at t node f.session) in
        let one : Left node t u = one_left t f named (call_at t node f.session) refl in
        left_then node t u (finished running u node fs) one (all_left u fs one.named)

    pub first_left : (t : RunReport) (f : Finished) → AreNamed t → Left node t (finished_call running t f (call_at t node f.session))
    first_left t f named = one_left t f named (call_at t node f.session) refl

  -- a node stops
  pub stopped_named : (places : List Place) (running n : ℕ) (t : RunReport) (cs : List Call) → AreNamed t → AreNamed (stopped_calls places running t n cs)
  stopped_named places running n t [] named = named
  stopped_named places running n t (c ∷ cs) named =
      cond_both (c.node == n) (stopped_calls places running (call_line running (without_call t c.node c.session) c.command (is_down places n)) n cs) (stopped_calls places running t n cs) AreNamed
      (λ here. stopped_named places running n (call_line running (without_call t c.node c.session) c.command (is_down places n)) cs (gone_left n running t c.node c.session c.command (is_down places n) named).named)
      (λ other. stopped_named places running n t cs named)
