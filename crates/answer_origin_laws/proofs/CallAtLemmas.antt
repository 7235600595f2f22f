-- The pending calls of sessions as each happening leaves them: a session has the call that it had, or the second call of a
-- CREATE, which comes next.
use Rattle.std.proofs.Common.{◌≡◌, ℕ, ◌==◌, ◌&&◌, ◌⊎◌, not, Bool, true, false, if◌then◌else◌, List, [], ◌∷◌, ◌++◌, map, filter, find, Option, Some, None, inl, inr, refl, sym, ap, subst, ◌∙◌}
use Rattle.std.specs.Prelude.{option_map}
use Rattle.std.specs.List.{AllByRecursion}
use Rattle.std.proofs.lemmas.Bool.{cond_both, eq-eqb}
use Rattle.node_rules.specs.Data.{Place, Stmt}
use Rattle.node_rules.specs.Data.stmts
use Rattle.node_rules.specs.declared.session.Finished.{Finished}
use Rattle.run_rules.specs.Calls.{is_call_at, call_at, without_call, change_call, is_complete, second_of, call_follows, call_ends, ends_or_follows, finished_call, finished, stopped_calls}
use Rattle.run_rules.specs.Commands.{commits_first, call_of}
use Rattle.run_rules.specs.Data.{Command, Said}
use Rattle.run_rules.specs.Data.commands
use Rattle.run_rules.specs.Facts.{command_at}
use Rattle.run_rules.specs.Lines.{is_down, says_node, call_line}
use Rattle.run_rules.specs.RunReport.{Call, RunReport}
use Rattle.run_rules.proofs.ListLemmas.{all_filter}
use Rattle.run_ready_laws.proofs.CallEndLemmas.{same_number}
use Rattle.run_ready_laws.proofs.PendingLemmas.{found_so, at_parts, SameCalls, line_same, EndsFew}

-- ---- lists

module _ (p : Call → Bool) where
  module _ (r : Call → Bool) where
    -- what is looked for is kept
    pub find_kept : ((x : Call) → p x ≡ true → r x ≡ true) → (xs : List Call) → find p (filter r xs) ≡ find p xs
    find_kept so [] = refl
    find_kept so (x ∷ xs) = by (r x) (p x) refl refl (find_kept so xs)
      where
        by : (q w : Bool) → r x ≡ q → p x ≡ w → find p (filter r xs) ≡ find p xs → find p (if q then x ∷ filter r xs else filter r xs) ≡ (if w then Some x else find p xs)
        by true true kept is rest = ap (λ b. if b then Some x else find p (filter r xs)) is
        by true false kept is rest = ap (λ b. if b then Some x else find p (filter r xs)) is ∙ rest
        by false true kept is rest = absurd (let yes : r x ≡ true = so x is in cc (yes, kept))
        by false false kept is rest = rest

    -- or is not there
    pub find_left : ((x : Call) → p x ≡ true → r x ≡ false) → (xs : List Call) → find p (filter r xs) ≡ None
    find_left so [] = refl
    find_left so (x ∷ xs) = by (r x) (p x) refl refl (find_left so xs)
      where
        by : (q w : Bool) → r x ≡ q → p x ≡ w → find p (filter r xs) ≡ None → find p (if q then x ∷ filter r xs else filter r xs) ≡ None
        by true true kept is rest = absurd (let no : r x ≡ false = so x is in cc (no, kept))
        by true false kept is rest = ap (λ b. if b then Some x else find p (filter r xs)) is ∙ rest
        by false w kept is rest = rest

  find_mapped : (g : Call → Call) (xs : List Call) → AllByRecursion (λ x. p (g x) ≡ p x) xs → find p (map g xs) ≡ option_map g (find p xs)
  find_mapped g [] all = refl
  find_mapped g (x ∷ xs) all = ap (λ b. if b then Some (g x) else find p (map g xs)) all.0 ∙ by (p x) (find_mapped g xs all.1)
    where
      by : (w : Bool) → find p (map g xs) ≡ option_map g (find p xs) → (if w then Some (g x) else find p (map g xs)) ≡ option_map g (if w then Some x else find p xs)
      by true rest = refl
      by false rest = rest

  pub find_last : (xs : List Call) (y c : Call) → find p (xs ++ y ∷ []) ≡ Some c → (find p xs ≡ Some c) ⊎ (y ≡ c)
  find_last [] y c is = by (p y) is
    where
      by : (w : Bool) → (if w then Some y else None) ≡ Some c → (None ≡ Some c) ⊎ (y ≡ c)
      by true at = inr (let it : Some y ≡ Some c = at in let same : y ≡ c = cc in same)
      by false at = absurd cc
  find_last (x ∷ xs) y c is = by (p x) is (find_last xs y c)
    where
      by : (w : Bool) → (if w then Some x else find p (xs ++ y ∷ [])) ≡ Some c → (find p (xs ++ y ∷ []) ≡ Some c → (find p xs ≡ Some c) ⊎ (y ≡ c)) → ((if w then Some x else find p xs) ≡ Some c) ⊎ (y ≡ c)
      by true at later = inl at
      by false at later = later at

-- ---- a call and its command

-- What a call is of its command: its own statement, or the COMMIT before it.
pub data HasShape (asked : List Command) (c : Call) : Type 0 where
  Plain : (text : Option Stmt) → command_at asked c.command ≡ commands.At c.node c.session text → c.statement ≡ text → c.follows ≡ None → HasShape asked c
  Commits : (s : Stmt) → command_at asked c.command ≡ commands.At c.node c.session (Some s) → commits_first s ≡ true → c.statement ≡ Some (stmts.Commit None) → c.follows ≡ Some s → HasShape asked c

-- The second call of a CREATE.
pub record IsSecond (asked : List Command) (c : Call) : Type 0 where
  pub create : Stmt
  pub named : command_at asked c.command ≡ commands.At c.node c.session (Some create)
  pub creates : commits_first create ≡ true
  pub own : c.statement ≡ Some create
  pub last : c.follows ≡ None

-- the call that comes next is such, and is pending
abbrev pub NextIs : List Command → RunReport → Type 0
NextIs asked t = (c : Call) → t.next_call ≡ Some c → IsSecond asked c × (call_at t c.node c.session ≡ Some c)

abbrev pub AreShaped : List Command → List Call → Type 0
AreShaped asked cs = AllByRecursion (HasShape asked) cs

pub named_so : (asked : List Command) (c : Call) → HasShape asked c → (text : Option Stmt) × (command_at asked c.command ≡ commands.At c.node c.session text)
named_so asked c (Plain text named own last) = (text, named)
named_so asked c (Commits s named creates own next) = (Some s, named)

pub made_shape : (asked : List Command) (c node session : ℕ) (text : Option Stmt) (has : Bool) → command_at asked c ≡ commands.At node session text → HasShape asked (call_of c node session text has)
made_shape asked c node session None has is = Plain None is refl refl
made_shape asked c node session (Some s) has is = by (commits_first s) has refl
  where
    by : (q w : Bool) → commits_first s ≡ q
        → HasShape asked (if q && w then record { command = c; node = node; session = session; statement = Some (stmts.Commit None); follows = Some s } else record { command = c; node = node; session = session; statement = Some s; follows = None })
    by true true creates = Commits s is creates refl refl
    by true false creates = Plain (Some s) is refl refl
    by false w creates = Plain (Some s) is refl refl

-- a call that is found is of its session
pub found_at : (asked : List Command) (t : RunReport) (n s : ℕ) (c : Call) → AreShaped asked t.calls → call_at t n s ≡ Some c → HasShape asked c × (c.node ≡ n) × (c.session ≡ s)
found_at asked t n s c shapes at = let it = found_so (HasShape asked) (is_call_at n s) t.calls c shapes at in let parts = at_parts n s c it.1 in (it.0, parts.0, parts.1)

-- ---- a call that is pending no more

module _ (asked : List Command) where
  pub without_at : (t : RunReport) (m q n s : ℕ) (c : Call) → call_at (without_call t m q) n s ≡ Some c → call_at t n s ≡ Some c
  without_at t m q n s c at = by ((n == m) && (s == q)) refl
    where
      so : (x : Call) → is_call_at n s x ≡ true → not (is_call_at m q x) ≡ not ((n == m) && (s == q))
      so x is = let parts = at_parts n s x is in ap (λ i. not ((i == m) && (x.session == q))) parts.0 ∙ ap (λ i. not ((n == m) && (i == q))) parts.1

      by : (b : Bool) → ((n == m) && (s == q)) ≡ b → call_at t n s ≡ Some c
      by true here = absurd (let none : find (is_call_at n s) (filter (λ x. not (is_call_at m q x)) t.calls) ≡ None = find_left (is_call_at n s) (λ x. not (is_call_at m q x)) (λ x is. so x is ∙ ap not here) t.calls in cc (none, at))
      by false other = sym (find_kept (is_call_at n s) (λ x. not (is_call_at m q x)) (λ x is. so x is ∙ ap not other) t.calls) ∙ at

  -- What is pending was pending.
  pub record Fewer (t u : RunReport) : Type 0 where
    pub was : (n s : ℕ) (c : Call) → call_at u n s ≡ Some c → call_at t n s ≡ Some c
    pub shapes : AreShaped asked u.calls
    pub next : u.next_call ≡ t.next_call

  pub same_fewer : (t u : RunReport) → AreShaped asked t.calls → u.calls ≡ t.calls → u.next_call ≡ t.next_call → Fewer t u
  same_fewer t u shapes calls next = record { was = λ n s c at. ap (find (is_call_at n s)) (sym calls) ∙ at; shapes = subst (AreShaped asked) (sym calls) shapes; next = next }

  pub fewer_then : (t u v : RunReport) → Fewer t u → Fewer u v → Fewer t v
  fewer_then t u v one two = record { was = λ n s c at. one.was n s c (two.was n s c at); shapes = two.shapes; next = two.next ∙ one.next }

  pub gone_fewer : (running : ℕ) (t : RunReport) (m q command : ℕ) (x : Said) → AreShaped asked t.calls → Fewer t (call_line running (without_call t m q) command x)
  gone_fewer running t m q command x shapes =
      let w : RunReport = without_call t m q in
      let same : SameCalls w (call_line running w command x) = line_same running w command x in
      fewer_then t w (call_line running w command x) (record { was = without_at t m q; shapes = all_filter (HasShape asked) (HasShape asked) (λ d. not (is_call_at m q d)) (λ d passes is. is) t.calls shapes; next = refl })
      (same_fewer w (call_line running w command x) (all_filter (HasShape asked) (HasShape asked) (λ d. not (is_call_at m q d)) (λ d passes is. is) t.calls shapes) same.calls same.next_call)

  -- ---- the second call of a CREATE

  -- What is pending was pending, or comes next.
  pub record Leads (t u : RunReport) : Type 0 where
    pub was : (n s : ℕ) (c : Call) → call_at u n s ≡ Some c → (call_at t n s ≡ Some c) ⊎ ((u.next_call ≡ Some c) × (d : Call) × (call_at t n s ≡ Some d))
    pub shapes : AreShaped asked u.calls
    pub next : NextIs asked u

  none_next : (t : RunReport) → t.next_call ≡ None → NextIs asked t
  none_next t alone c is = absurd (cc (alone, is))

  fewer_leads : (t u : RunReport) → t.next_call ≡ None → Fewer t u → Leads t u
  fewer_leads t u alone fewer = record { was = λ n s c at. inl (fewer.was n s c at); shapes = fewer.shapes; next = none_next u (fewer.next ∙ alone) }

  module _ (t : RunReport) (shapes : AreShaped asked t.calls) (c : Call) (its : HasShape asked c) (st : Stmt) (follows : c.follows ≡ Some st) where
    abbrev new : Call
    new = second_of c st

    second_is : HasShape asked c → (command_at asked c.command ≡ commands.At c.node c.session (Some st)) × (commits_first st ≡ true)
    second_is (Plain text named own last) = absurd (cc (last, follows))
    second_is (Commits s named creates own next) =
        let it : Some s ≡ Some st = sym next ∙ follows in let same : s ≡ st = cc in
        (subst (λ z. command_at asked c.command ≡ commands.At c.node c.session (Some z)) same named, subst (λ z. commits_first z ≡ true) same creates)

    second : IsSecond asked new
    second = record { create = st; named = (second_is its).0; creates = (second_is its).1; own = refl; last = refl }

    pub one_command : (d : Call) → HasShape asked d → (d.command == c.command) ≡ true → (d.node ≡ c.node) × (d.session ≡ c.session)
    one_command d is same =
        let d_named = named_so asked d is in
        let c_named = named_so asked c its in
        let it : commands.At d.node d.session d_named.0 ≡ commands.At c.node c.session c_named.0 = sym d_named.1 ∙ (ap (command_at asked) (same_number d.command c.command same) ∙ c_named.1) in
        (let one : d.node ≡ c.node = cc in one, let two : d.session ≡ c.session = cc in two)

    pub changed_shapes : (cs : List Call) → AreShaped asked cs → AreShaped asked (map (change_call new) cs)
    changed_shapes [] all = tt
    changed_shapes (d ∷ ds) all = (cond_both (d.command == c.command) new d (HasShape asked) (λ same. Plain (Some st) (second_is its).0 refl refl) (λ other. all.0), changed_shapes ds all.1)

    changed_at : (n s : ℕ) (cs : List Call) → AreShaped asked cs → AllByRecursion (λ d. is_call_at n s (change_call new d) ≡ is_call_at n s d) cs
    changed_at n s [] all = tt
    changed_at n s (d ∷ ds) all = (
      cond_both (d.command == c.command) new d (λ x. is_call_at n s x ≡ is_call_at n s d)
          (λ here. (let same = one_command d all.0 here in ap (λ i. (i == n) && (c.session == s)) (sym same.0) ∙ ap (λ i. (d.node == n) && (i == s)) (sym same.1))) (λ other. refl),
      changed_at n s ds all.1,
    )

    pub follows_at : (n s : ℕ) → call_at (call_follows t new) n s ≡ option_map (change_call new) (call_at t n s)
    follows_at n s = find_mapped (is_call_at n s) (change_call new) t.calls (changed_at n s t.calls shapes)

    was_or_new : (e : Call) (o : Option Call) → option_map (change_call new) o ≡ Some e → (o ≡ Some e) ⊎ ((Some new ≡ Some e) × (d : Call) × (o ≡ Some d))
    was_or_new e None is = absurd cc
    was_or_new e (Some d) is = by (d.command == c.command) is
      where
        by : (q : Bool) → Some (if q then new else d) ≡ Some e → (Some d ≡ Some e) ⊎ ((Some new ≡ Some e) × (x : Call) × (Some d ≡ Some x))
        by true at = inr (at, d, refl)
        by false at = inl at

    follows_leads : (n s : ℕ) → call_at t n s ≡ Some c → Leads t (call_follows t new)
    follows_leads n s at =
        let its_at = at_parts n s c (found_so (HasShape asked) (is_call_at n s) t.calls c shapes at).1 in
        let there : call_at t c.node c.session ≡ Some c = subst (λ i. call_at t i c.session ≡ Some c) (sym its_at.0) (subst (λ i. call_at t n i ≡ Some c) (sym its_at.1) at) in
        let now : call_at (call_follows t new) c.node c.session ≡ Some new
        = follows_at c.node c.session ∙ (ap (option_map (change_call new)) there ∙ ap (λ q. Some (if q then new else c)) (eq-eqb c.command c.command refl)) in record {
          was = λ m q e is. was_or_new e (call_at t m q) (sym (follows_at m q) ∙ is);
          shapes = changed_shapes t.calls shapes;
          next = λ e is. (let it : Some new ≡ Some e = is in let same : new ≡ e = cc in subst (λ z. IsSecond asked z × (call_at (call_follows t new) z.node z.session ≡ Some z)) same (second, now));
        }

  -- ---- calls that end

  module _ (running node : ℕ) where
    one_leads : (t : RunReport) (f : Finished) → AreShaped asked t.calls → t.next_call ≡ None → (o : Option Call) → call_at t node f.session ≡ o → Leads t (finished_call running t f o)
    one_leads t f shapes alone None at = fewer_leads t t alone (same_fewer t t shapes refl refl)
    one_leads t f shapes alone (Some c) at = by c.follows refl
      where
        gone : Leads t (call_ends running t c f)
        gone = fewer_leads t (call_ends running t c f) alone (gone_fewer running t c.node c.session c.command (says_node f) shapes)

        by : (o : Option Stmt) → c.follows ≡ o → Leads t (ends_or_follows running t c f o)
        by None is = gone
        by (Some st) is =
            cond_both (is_complete f.answer) (call_follows t (second_of c st)) (call_ends running t c f) (Leads t) (λ complete. follows_leads t shapes c (found_at asked t node f.session c shapes at).0 st is node f.session at) (λ other. gone)

    refused_fewer : (t : RunReport) (f : Finished) → AreShaped asked t.calls → is_complete f.answer ≡ false → (o : Option Call) → Fewer t (finished_call running t f o)
    refused_fewer t f shapes refused None = same_fewer t t shapes refl refl
    refused_fewer t f shapes refused (Some c) = by c.follows
      where
        by : (o : Option Stmt) → Fewer t (ends_or_follows running t c f o)
        by None = gone_fewer running t c.node c.session c.command (says_node f) shapes
        by (Some st) =
            cond_both (is_complete f.answer) (call_follows t (second_of c st)) (call_ends running t c f) (Fewer t) (λ complete. absurd (cc (complete, refused))) (λ other. gone_fewer running t c.node c.session c.command (says_node f) shapes)

    -- a turn's
    pub ends_lead : (t : RunReport) (fs : List Finished) → AreShaped asked t.calls → t.next_call ≡ None → EndsFew fs → Leads t (finished running t node fs)
    ends_lead t [] shapes alone few = fewer_leads t t alone (same_fewer t t shapes refl refl)
    ends_lead t (f ∷ []) shapes alone few = one_leads t f shapes alone (call_at t node f.session) refl
    ends_lead t (f ∷ g ∷ []) shapes alone few =
        let u : RunReport = finished_call running t f (call_at t node f.session) in
        let fewer : Fewer t u = refused_fewer t f shapes few (call_at t node f.session) in
        let rest : Leads u (finished_call running u g (call_at u node g.session)) = one_leads u g fewer.shapes (fewer.next ∙ alone) (call_at u node g.session) refl in record {
          was = λ n s c at. elim (rest.was n s c at) [ inl here ↦ inl (fewer.was n s c here) | inr next ↦ inr (next.0, next.1, fewer.was n s next.1 next.2) ];
          shapes = rest.shapes;
          next = rest.next;
        }
    ends_lead t (f ∷ g ∷ h ∷ fs) shapes alone few = absurd few

  -- those of a node that stops
  pub stopped_fewer : (places : List Place) (running n : ℕ) (t : RunReport) (cs : List Call) → AreShaped asked t.calls → Fewer t (stopped_calls places running t n cs)
  stopped_fewer places running n t [] shapes = same_fewer t t shapes refl refl
  stopped_fewer places running n t (c ∷ cs) shapes =
      let u : RunReport = call_line running (without_call t c.node c.session) c.command (is_down places n) in
      cond_both (c.node == n) (stopped_calls places running u n cs) (stopped_calls places running t n cs) (Fewer t)
      (λ here. (let one : Fewer t u = gone_fewer running t c.node c.session c.command (is_down places n) shapes in fewer_then t u (stopped_calls places running u n cs) one (stopped_fewer places running n u cs one.shapes)))
      (λ other. stopped_fewer places running n t cs shapes)
