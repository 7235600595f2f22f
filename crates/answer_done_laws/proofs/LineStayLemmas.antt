-- A line with the answer of a call stays in the report to the end of the run.
use Rattle.std.proofs.Common.{◌≡◌, ℕ, zero, suc, ◌==◌, ◌&&◌, ◌⊎◌, Bool, true, false, if◌then◌else◌, List, [], ◌∷◌, ◌++◌, map, find, slice_get, is_none, Option, Some, None, inl, inr, refl, sym, ap, subst, ◌∙◌}
use Rattle.std.specs.Prelude.{nat_lt}
use Rattle.std.proofs.lemmas.Bool.{cond_both, eqb-true, eq-eqb}
use Rattle.node_rules.specs.Data.{Input, Place, Stmt}
use Rattle.node_rules.specs.Data.inputs
use Rattle.node_rules.specs.declared.session.Finished.{Finished}
use Rattle.node_rules.specs.Points.{Point}
use Rattle.run_rules.specs.Calls.{call_at, without_call, is_complete, second_of, call_follows, call_ends, ends_or_follows, finished_call, finished, stopped_calls, waits, waits_if_pending, after_input}
use Rattle.run_rules.specs.Data.{AnswerLine, Said}
use Rattle.run_rules.specs.Lines.{is_reached, says_node, is_down, line, put_line, call_line_of, reached_line, call_line}
use Rattle.run_rules.specs.RunReport.{Call, RunReport}

-- ---- lists

module _ {A : Type 0} where
  -- one of these is this
  abbrev pub Has : List A → A → Type 0
  Has [] x = ⊥
  Has (y ∷ ys) x = (y ≡ x) ⊎ Has ys x

  pub has_left : (xs ys : List A) (x : A) → Has xs x → Has (xs ++ ys) x
  has_left [] ys x has = absurd has
  has_left (y ∷ xs) ys x (inl here) = inl here
  has_left (y ∷ xs) ys x (inr there) = inr (has_left xs ys x there)

  pub has_right : (xs ys : List A) (x : A) → Has ys x → Has (xs ++ ys) x
  has_right [] ys x has = has
  has_right (y ∷ xs) ys x has = inr (has_right xs ys x has)

  pub has_at : (xs : List A) (x : A) → Has xs x → (i : ℕ) × (slice_get xs i ≡ Some x)
  has_at [] x has = absurd has
  has_at (y ∷ xs) x (inl here) = (zero, ap Some here)
  has_at (y ∷ xs) x (inr there) = let at = has_at xs x there in (suc at.0, at.1)

pub found_has : (p : Call → Bool) (xs : List Call) (c : Call) → find p xs ≡ Some c → Has xs c
found_has p [] c is = absurd cc
found_has p (x ∷ xs) c is = by (p x) is (found_has p xs c)
  where
    by : (q : Bool) → (if q then Some x else find p xs) ≡ Some c → (find p xs ≡ Some c → Has xs c) → (x ≡ c) ⊎ Has xs c
    by true at later = inl (let it : Some x ≡ Some c = at in let same : x ≡ c = cc in same)
    by false at later = inr (later at)

pub has_line : (c : ℕ) (xs : List Said) (s : Said) → Has xs s → Has (map (line c) xs) (line c s)
has_line c [] s has = absurd has
has_line c (x ∷ xs) s (inl here) = inl (ap (line c) here)
has_line c (x ∷ xs) s (inr there) = inr (has_line c xs s there)

put_old : (xs : List AnswerLine) (l x : AnswerLine) → Has xs x → Has (put_line xs l) x
put_old [] l x has = absurd has
put_old (y ∷ ys) l x has =
    cond_both (nat_lt l.command y.command) (l ∷ y ∷ ys) (y ∷ put_line ys l) (λ zs. Has zs x) (λ first. inr has) (λ later. elim has [ inl here ↦ inl here | inr there ↦ inr (put_old ys l x there) ])

put_new : (xs : List AnswerLine) (l : AnswerLine) → Has (put_line xs l) l
put_new [] l = inl refl
put_new (y ∷ ys) l = cond_both (nat_lt l.command y.command) (l ∷ y ∷ ys) (y ∷ put_line ys l) (λ zs. Has zs l) (λ first. inl refl) (λ later. inr (put_new ys l))

-- ---- what a telling keeps

-- No line is lost.
pub record Grows (t u : RunReport) : Type 0 where
  pub lines : u.lines ≡ t.lines
  pub own : (s : Said) → Has t.page.own s → Has u.page.own s
  pub others : (l : AnswerLine) → Has t.page.others l → Has u.page.others l

pub same_grows : (t u : RunReport) → u.page ≡ t.page → u.lines ≡ t.lines → Grows t u
same_grows t u page lines = record { lines = lines; own = λ s has. subst (λ g. Has g.own s) (sym page) has; others = λ l has. subst (λ g. Has g.others l) (sym page) has }

pub grows_then : (t u v : RunReport) → Grows t u → Grows u v → Grows t v
grows_then t u v one two = record { lines = two.lines ∙ one.lines; own = λ s has. two.own s (one.own s has); others = λ l has. two.others l (one.others l has) }

module _ (running : ℕ) where
  line_of_grows : (t : RunReport) (command : ℕ) (s : Said) → Grows t (call_line_of running t command s)
  line_of_grows t command s =
      cond_both (running == command) _ _ (Grows t) (λ own. record { lines = refl; own = λ x has. has_left t.page.own (s ∷ []) x has; others = λ l has. has })
      (λ other. record { lines = refl; own = λ x has. has; others = λ l has. put_old t.page.others (line command s) l has })

  reached_grows : (t : RunReport) (command : ℕ) (o : Option Point) → Grows t (reached_line running t command o)
  reached_grows t command None = same_grows t t refl refl
  reached_grows t command (Some x) = line_of_grows t command _

  line_grows : (t : RunReport) (command : ℕ) (s : Said) → Grows t (call_line running t command s)
  line_grows t command s =
      let u : RunReport = call_line_of running t command s in
      grows_then t u (call_line running t command s) (line_of_grows t command s) (reached_grows u command (find (is_reached command) t.points))

  -- the line of a call stands on the page
  abbrev pub IsPut : RunReport → ℕ → Said → Type 0
  IsPut t command s = ((running ≡ command) × Has t.page.own s) ⊎ Has t.page.others (line command s)

  pub grows_put : (t u : RunReport) (command : ℕ) (s : Said) → Grows t u → IsPut t command s → IsPut u command s
  grows_put t u command s grows (inl own) = inl (own.0, grows.own s own.1)
  grows_put t u command s grows (inr other) = inr (grows.others (line command s) other)

  line_of_put : (t : RunReport) (command : ℕ) (s : Said) → IsPut (call_line_of running t command s) command s
  line_of_put t command s =
      cond_both (running == command) _ _ (λ u. IsPut u command s) (λ own. inl (eqb-true running command own, has_right t.page.own (s ∷ []) s (inl refl))) (λ other. inr (put_new t.page.others (line command s)))

  pub line_put : (t : RunReport) (command : ℕ) (s : Said) → IsPut (call_line running t command s) command s
  line_put t command s =
      let u : RunReport = call_line_of running t command s in
      grows_put u (call_line running t command s) command s (reached_grows u command (find (is_reached command) t.points)) (line_of_put t command s)

  -- ---- calls that end

  gone_grows : (t : RunReport) (n s command : ℕ) (x : Said) → Grows t (call_line running (without_call t n s) command x)
  gone_grows t n s command x = let u : RunReport = without_call t n s in grows_then t u (call_line running u command x) (same_grows t u refl refl) (line_grows u command x)

  ends_grow : (t : RunReport) (c : Call) (f : Finished) (o : Option Stmt) → Grows t (ends_or_follows running t c f o)
  ends_grow t c f None = gone_grows t c.node c.session c.command (says_node f)
  ends_grow t c f (Some st) =
      cond_both (is_complete f.answer) (call_follows t (second_of c st)) (call_ends running t c f) (Grows t) (λ complete. same_grows t (call_follows t (second_of c st)) refl refl) (λ other. gone_grows t c.node c.session c.command (says_node f))

  pub call_grows : (t : RunReport) (f : Finished) (o : Option Call) → Grows t (finished_call running t f o)
  call_grows t f None = same_grows t t refl refl
  call_grows t f (Some c) = ends_grow t c f c.follows

  pub finished_grows : (node : ℕ) (t : RunReport) (fs : List Finished) → Grows t (finished running t node fs)
  finished_grows node t [] = same_grows t t refl refl
  finished_grows node t (f ∷ fs) = let u : RunReport = finished_call running t f (call_at t node f.session) in grows_then t u (finished running u node fs) (call_grows t f (call_at t node f.session)) (finished_grows node u fs)

  pub stopped_grows : (places : List Place) (n : ℕ) (t : RunReport) (cs : List Call) → Grows t (stopped_calls places running t n cs)
  stopped_grows places n t [] = same_grows t t refl refl
  stopped_grows places n t (c ∷ cs) =
      let u : RunReport = call_line running (without_call t c.node c.session) c.command (is_down places n) in
      cond_both (c.node == n) (stopped_calls places running u n cs) (stopped_calls places running t n cs) (Grows t)
      (λ here. grows_then t u (stopped_calls places running u n cs) (gone_grows t c.node c.session c.command (is_down places n)) (stopped_grows places n u cs)) (λ other. stopped_grows places n t cs)

  -- each call of a node that stops has its line
  pub stopped_put : (places : List Place) (n : ℕ) (t : RunReport) (cs : List Call) (c : Call) → Has cs c → c.node ≡ n → IsPut (stopped_calls places running t n cs) c.command (is_down places n)
  stopped_put places n t [] c has here = absurd has
  stopped_put places n t (d ∷ ds) c (inl same) here =
      let u : RunReport = call_line running (without_call t d.node d.session) d.command (is_down places n) in
      let own : (d.node == n) ≡ true = eq-eqb d.node n (ap (λ (x : Call). x.node) same ∙ here) in
      let put : IsPut u d.command (is_down places n) = line_put (without_call t d.node d.session) d.command (is_down places n) in
      subst (λ q. IsPut (if q then stopped_calls places running u n ds else stopped_calls places running t n ds) c.command (is_down places n)) (sym own)
      (grows_put u (stopped_calls places running u n ds) c.command (is_down places n) (stopped_grows places n u ds) (subst (λ (x : Call). IsPut u x.command (is_down places n)) same put))
  stopped_put places n t (d ∷ ds) c (inr there) here =
      let u : RunReport = call_line running (without_call t d.node d.session) d.command (is_down places n) in
      cond_both (d.node == n) (stopped_calls places running u n ds) (stopped_calls places running t n ds) (λ z. IsPut z c.command (is_down places n))
      (λ own. stopped_put places n u ds c there here) (λ other. stopped_put places n t ds c there here)

  -- ---- what is said after a turn

  -- The lines for others stay; the command's own do, unless a call of it is pending.
  pub record Follows (w z : RunReport) (node : ℕ) : Type 0 where
    pub lines : z.lines ≡ w.lines
    pub others : z.page.others ≡ w.page.others
    pub own : (z.page.own ≡ w.page.own) ⊎ ((s : ℕ) × (c : Call) × (call_at w node s ≡ Some c) × (c.command ≡ running))

  waits_follow : (w : RunReport) (node s : ℕ) (c : Call) → call_at w node s ≡ Some c → c.command ≡ running → Follows w (waits w) node
  waits_follow w node s c at is =
      cond_both (w.hold && is_none w.next_call) _ w (λ z. Follows w z node) (λ on. record { lines = refl; others = refl; own = inr (s, c, at, is) }) (λ off. record { lines = refl; others = refl; own = inl refl })

  pending_follow : (w : RunReport) (node s : ℕ) (o : Option Call) → call_at w node s ≡ o → Follows w (waits_if_pending running w o) node
  pending_follow w node s None at = record { lines = refl; others = refl; own = inl refl }
  pending_follow w node s (Some c) at =
      cond_both (c.command == running) (waits w) w (λ z. Follows w z node) (λ own. waits_follow w node s c at (eqb-true c.command running own)) (λ other. record { lines = refl; others = refl; own = inl refl })

  pub input_follow : (w : RunReport) (node : ℕ) (input : Input) → Follows w (after_input running w node input) node
  input_follow w node (inputs.Call session s) = pending_follow w node session (call_at w node session) refl
  input_follow w node (inputs.GiveUp session) = record { lines = refl; others = refl; own = inl refl }
  input_follow w node (inputs.Message m) = record { lines = refl; others = refl; own = inl refl }
  input_follow w node inputs.Reco = record { lines = refl; others = refl; own = inl refl }
  input_follow w node inputs.Checkpoint = record { lines = refl; others = refl; own = inl refl }
