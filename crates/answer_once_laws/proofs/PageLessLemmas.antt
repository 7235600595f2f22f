-- What becomes of the pending calls as a turn's calls end and a node stops: no command gets one; a second call that follows is
-- of the command whose session the turn's call is of; and no call of the node that stops is left.
use Rattle.std.proofs.Common.{◌≡◌, ℕ, ◌==◌, ◌&&◌, ◌⊎◌, not, Bool, true, false, if◌then◌else◌, List, [], ◌∷◌, map, is_none, Option, Some, None, inl, inr, refl, sym, ap, subst, ◌∙◌}
use Rattle.std.specs.List.{AllByRecursion}
use Rattle.std.proofs.lemmas.Bool.{cond_both, and_parts, eq-eqb}
use Rattle.node_rules.specs.Data.{Input, Place, Stmt}
use Rattle.node_rules.specs.Data.inputs
use Rattle.node_rules.specs.declared.session.Finished.{Finished}
use Rattle.run_rules.specs.Calls.{is_call_at, call_at, without_call, change_call, is_complete, second_of, call_follows, call_ends, ends_or_follows, finished_call, finished, stopped_calls, waits, waits_if_pending, after_input}
use Rattle.run_rules.specs.Data.{Command, Said}
use Rattle.run_rules.specs.Lines.{says_node, is_down, call_line, with_own}
use Rattle.run_rules.specs.RunReport.{Call, RunReport}
use Rattle.run_rules.proofs.ListLemmas.{all_filter, all_weaker}
use Rattle.run_ready_laws.proofs.PendingLemmas.{found_so, line_same}
use Rattle.answer_origin_laws.proofs.CallAtLemmas.{found_at}
use Rattle.answer_done_laws.proofs.LineStayLemmas.{Has}
use Rattle.answer_once_laws.specs.OnceLaws.{EndsPendingCall, By_node, Node_is_down, waiting}
use Rattle.answer_once_laws.proofs.CallListLemmas.{pends, AreApart, all_both, apart_found, AreSame, pends_map}
use Rattle.answer_once_laws.proofs.OwnEndLemmas.{CompletesOwn}
use Rattle.answer_once_laws.proofs.PageLemmas.{PagesSo, ends_so, ends_left, pends_now, pends_own}
use Rattle.answer_once_laws.proofs.PageEndLemmas.{its_own, follows_same, one_pages}

and_first : (a b : Bool) → (a && b) ≡ true → a ≡ true
and_first a b is = (and_parts a b is).0

module _ (places : List Place) (asked : List Command) (r : ℕ) where
  abbrev So : RunReport → Type 0
  So = PagesSo places asked r

  -- ---- no command gets a call

  gone_less : (t : RunReport) (is : So t) (c : Call) (at : call_at t c.node c.session ≡ Some c) (s : Said) → EndsPendingCall places s → (d : ℕ) → pends d (call_line r (without_call t c.node c.session) c.command s).calls ≡ true → pends d t.calls ≡ true
  gone_less t is c at s ends d some = and_first (pends d t.calls) (not (c.command == d)) (sym (pends_now places asked r t is c at s ends d) ∙ some)

  call_less : (t : RunReport) (f : Finished) (c : Call) (is : So t) → call_at t c.node c.session ≡ Some c → (d : ℕ) (o : Option Stmt) → c.follows ≡ o → pends d (ends_or_follows r t c f o).calls ≡ true → pends d t.calls ≡ true
  call_less t f c is at d None none some = gone_less t is c at (says_node f) (By_node f.answer) d some
  call_less t f c is at d (Some st) follows some =
      cond_both (is_complete f.answer) (call_follows t (second_of c st)) (call_ends r t c f) (λ (u : RunReport). pends d u.calls ≡ true → pends d t.calls ≡ true)
      (λ complete next. sym (pends_map (change_call (second_of c st)) d t.calls (follows_same places asked r t is c (found_at asked t c.node c.session c is.shapes at).0 st follows)) ∙ next)
      (λ other. gone_less t is c at (says_node f) (By_node f.answer) d) some

  one_less : (t : RunReport) (f : Finished) (n : ℕ) (is : So t) (d : ℕ) (o : Option Call) → call_at t n f.session ≡ o → pends d (finished_call r t f o).calls ≡ true → pends d t.calls ≡ true
  one_less t f n is d None at some = some
  one_less t f n is d (Some c) at some = call_less t f c is (its_own places asked r t n f.session c is.shapes at) d c.follows refl some

  pub finished_less : (n : ℕ) (t : RunReport) (fs : List Finished) (is : So t) (d : ℕ) → pends d (finished r t n fs).calls ≡ true → pends d t.calls ≡ true
  finished_less n t [] is d some = some
  finished_less n t (f ∷ fs) is d some =
      let u : RunReport = finished_call r t f (call_at t n f.session) in
      one_less t f n is d (call_at t n f.session) refl (finished_less n u fs (one_pages places asked r t f n is (call_at t n f.session) refl) d some)

  -- ---- a second call that follows is of the command that runs, if the call of the turn is

  module _ (n q : ℕ) where
    -- the call of the session is the command's that runs
    abbrev pub IsRunning : List Call → Type 0
    IsRunning cs = AllByRecursion (λ (x : Call). is_call_at n q x ≡ true → x.command ≡ r) cs

    abbrev pub NextIsRunning : RunReport → Type 0
    NextIsRunning t = (d : Call) → t.next_call ≡ Some d → d.command ≡ r

    abbrev Both : RunReport → Type 0
    Both t = IsRunning t.calls × NextIsRunning t

    gone_both : (t : RunReport) (m s command : ℕ) (x : Said) → Both t → Both (call_line r (without_call t m s) command x)
    gone_both t m s command x both =
        let w : RunReport = without_call t m s in
        let same = line_same r w command x in (
          subst IsRunning (sym same.calls) (all_filter (λ (y : Call). is_call_at n q y ≡ true → y.command ≡ r) (λ (y : Call). is_call_at n q y ≡ true → y.command ≡ r) (λ y. not (is_call_at m s y)) (λ y passes is. is) t.calls both.0),
          λ d next. both.1 d (sym same.next_call ∙ next),
        )

    changed_running : (g : Call → Call) (cs : List Call) → AreSame g cs → IsRunning cs → IsRunning (map g cs)
    changed_running g [] same all = tt
    changed_running g (c ∷ cs) same all = (
      λ here. same.0.command ∙ all.0 (sym (ap (λ i. (i == n) && ((g c).session == q)) same.0.node ∙ ap (λ i. (c.node == n) && (i == q)) same.0.session) ∙ here),
      changed_running g cs same.1 all.1,
    )

    call_both : (t : RunReport) (f : Finished) (c : Call) (is : So t) → call_at t c.node c.session ≡ Some c → c.command ≡ r ⊎ (is_complete f.answer ≡ false) → Both t → (o : Option Stmt) → c.follows ≡ o → Both (ends_or_follows r t c f o)
    call_both t f c is at own both None none = gone_both t c.node c.session c.command (says_node f) both
    call_both t f c is at own both (Some st) follows =
        cond_both (is_complete f.answer) (call_follows t (second_of c st)) (call_ends r t c f) Both
        (λ complete. (
          changed_running (change_call (second_of c st)) t.calls (follows_same places asked r t is c (found_at asked t c.node c.session c is.shapes at).0 st follows) both.0,
          λ d next. (let it : Some (second_of c st) ≡ Some d = next in let same : second_of c st ≡ d = cc in
              sym (ap (λ (y : Call). y.command) same) ∙ elim own [ inl runs ↦ runs | inr refused ↦ absurd (cc (complete, refused)) ]),
        ))
        (λ other. gone_both t c.node c.session c.command (says_node f) both)

    one_both : (t : RunReport) (f : Finished) (is : So t) → (is_complete f.answer ≡ true → f.session ≡ q) → Both t → (o : Option Call) → call_at t n f.session ≡ o → Both (finished_call r t f o)
    one_both t f is own both None at = both
    one_both t f is own both (Some c) at = call_both t f c is (its_own places asked r t n f.session c is.shapes at) (by (is_complete f.answer) refl) both c.follows refl
      where
        by : (b : Bool) → is_complete f.answer ≡ b → c.command ≡ r ⊎ (is_complete f.answer ≡ false)
        by false other = inr other
        by true complete =
            let its = found_so (λ (x : Call). is_call_at n q x ≡ true → x.command ≡ r) (is_call_at n f.session) t.calls c both.0 at in
            inl (its.0 (subst (λ s. is_call_at n s c ≡ true) (own complete) its.1))

    pub finished_next : (t : RunReport) (fs : List Finished) (is : So t) → CompletesOwn q fs → IsRunning t.calls → NextIsRunning t → NextIsRunning (finished r t n fs)
    finished_next t fs is own running next = (all_both_of t fs is own (running, next)).1
      where
        all_both_of : (u : RunReport) (gs : List Finished) → So u → CompletesOwn q gs → Both u → Both (finished r u n gs)
        all_both_of u [] so its both = both
        all_both_of u (g ∷ gs) so its both = all_both_of (finished_call r u g (call_at u n g.session)) gs (one_pages places asked r u g n so (call_at u n g.session) refl) its.1 (one_both u g so its.0 both (call_at u n g.session) refl)

  -- ---- a call that waits is told so

  -- Where nothing is told after a turn nothing was before, and the call of the turn, if it is the command's that runs, does not wait.
  pub record Unsaid (w : RunReport) (node : ℕ) (input : Input) : Type 0 where
    pub before : w.page.own ≡ []
    pub free : (session : ℕ) (s : Option Stmt) → input ≡ inputs.Call session s → (c : Call) → call_at w node session ≡ Some c → c.command ≡ r → (w.hold && is_none w.next_call) ≡ false

  waits_unsaid : (w : RunReport) (c : Call) → (if c.command == r then waits w else w).page.own ≡ [] → (w.page.own ≡ []) × (c.command ≡ r → (w.hold && is_none w.next_call) ≡ false)
  waits_unsaid w c = by (c.command == r) (w.hold && is_none w.next_call) refl
    where
      by : (a b : Bool) → (c.command == r) ≡ a → (if a then (if b then with_own w (waiting ∷ []) else w) else w).page.own ≡ [] → (w.page.own ≡ []) × (c.command ≡ r → b ≡ false)
      by true true own none = absurd cc
      by true false own none = (none, λ is. refl)
      by false b other none = (none, λ is. absurd (let yes : (c.command == r) ≡ true = eq-eqb c.command r is in cc (yes, other)))

  pending_unsaid : (w : RunReport) (o : Option Call) → (waits_if_pending r w o).page.own ≡ [] → (w.page.own ≡ []) × ((c : Call) → o ≡ Some c → c.command ≡ r → (w.hold && is_none w.next_call) ≡ false)
  pending_unsaid w None none = (none, λ c is own. absurd cc)
  pending_unsaid w (Some x) none = let so = waits_unsaid w x none in (so.0, λ c is own. (let it : Some x ≡ Some c = is in let same : x ≡ c = cc in so.1 (ap (λ (y : Call). y.command) same ∙ own)))

  pub unsaid : (w : RunReport) (node : ℕ) (input : Input) → (after_input r w node input).page.own ≡ [] → Unsaid w node input
  unsaid w node (inputs.Call session s) none =
      let so = pending_unsaid w (call_at w node session) none in
      record { before = so.0; free = λ n st is c at own. (let it : inputs.Call session s ≡ inputs.Call n st = is in let same : session ≡ n = cc in so.1 c (ap (call_at w node) same ∙ at) own) }
  unsaid w node (inputs.GiveUp session) none = record { before = none; free = λ n st is. absurd cc }
  unsaid w node (inputs.Message m) none = record { before = none; free = λ n st is. absurd cc }
  unsaid w node inputs.Reco none = record { before = none; free = λ n st is. absurd cc }
  unsaid w node inputs.Checkpoint none = record { before = none; free = λ n st is. absurd cc }

  -- ---- a node stops

  abbrev Found : RunReport → List Call → Type 0
  Found t cs = AllByRecursion (λ (c : Call). call_at t c.node c.session ≡ Some c) cs

  module _ (n : ℕ) where
    -- those that are left after the first one
    rest_found : (t : RunReport) (is : So t) (c : Call) (cs : List Call) → AllByRecursion (λ (d : Call). is_call_at c.node c.session d ≡ false) cs → (at : call_at t c.node c.session ≡ Some c) → Found t cs → Found (call_line r (without_call t c.node c.session) c.command (is_down places n)) cs
    rest_found t is c cs apart at found =
        all_weaker (λ (d : Call). (is_call_at c.node c.session d ≡ false) × (call_at t d.node d.session ≡ Some d)) (λ (d : Call). call_at (call_line r (without_call t c.node c.session) c.command (is_down places n)) d.node d.session ≡ Some d)
        (λ d so. ends_left places asked r t is c at (is_down places n) (Node_is_down n) d so.1 so.0) cs
        (all_both (λ (d : Call). is_call_at c.node c.session d ≡ false) (λ (d : Call). call_at t d.node d.session ≡ Some d) cs apart found)

    stop_less : (t : RunReport) (cs : List Call) → AreApart cs → Found t cs → So t → (d : ℕ) → pends d (stopped_calls places r t n cs).calls ≡ true → pends d t.calls ≡ true
    stop_less t [] apart found is d some = some
    stop_less t (c ∷ cs) apart found is d some =
        let u : RunReport = call_line r (without_call t c.node c.session) c.command (is_down places n) in
        cond_both (c.node == n) (stopped_calls places r u n cs) (stopped_calls places r t n cs) (λ (v : RunReport). pends d v.calls ≡ true → pends d t.calls ≡ true)
        (λ here more. gone_less t is c found.0 (is_down places n) (Node_is_down n) d
        (stop_less u cs apart.1 (rest_found t is c cs apart.0 found.0 found.1) (ends_so places asked r t is c found.0 (is_down places n) (Node_is_down n)) d more))
        (λ other more. stop_less t cs apart.1 found.1 is d more) some

    stop_gone : (t : RunReport) (cs : List Call) → AreApart cs → Found t cs → So t → (c : Call) → Has cs c → c.node ≡ n → pends c.command (stopped_calls places r t n cs).calls ≡ true → ⊥
    stop_gone t [] apart found is c has here some = absurd has
    stop_gone t (d ∷ ds) apart found is c (inl same) here some =
        let u : RunReport = call_line r (without_call t d.node d.session) d.command (is_down places n) in
        let own : (d.node == n) ≡ true = eq-eqb d.node n (ap (λ (x : Call). x.node) same ∙ here) in
        let left : pends c.command (stopped_calls places r u n ds).calls ≡ true = sym (ap (λ q. pends c.command (if q then stopped_calls places r u n ds else stopped_calls places r t n ds).calls) own) ∙ some in
        let was : pends c.command u.calls ≡ true = stop_less u ds apart.1 (rest_found t is d ds apart.0 found.0 found.1) (ends_so places asked r t is d found.0 (is_down places n) (Node_is_down n)) c.command left in
        let gone : pends c.command u.calls ≡ false = pends_own places asked r t is d found.0 (is_down places n) (Node_is_down n) c.command (eq-eqb d.command c.command (ap (λ (x : Call). x.command) same)) in
        cc (was, gone)
    stop_gone t (d ∷ ds) apart found is c (inr later) here some =
        let u : RunReport = call_line r (without_call t d.node d.session) d.command (is_down places n) in
        cond_both (d.node == n) (stopped_calls places r u n ds) (stopped_calls places r t n ds) (λ (v : RunReport). pends c.command v.calls ≡ true → ⊥)
        (λ own more. stop_gone u ds apart.1 (rest_found t is d ds apart.0 found.0 found.1) (ends_so places asked r t is d found.0 (is_down places n) (Node_is_down n)) c later here more)
        (λ other more. stop_gone t ds apart.1 found.1 is c later here more) some

    pub stopped_less : (t : RunReport) (cs : List Call) → t.calls ≡ cs → So t → (d : ℕ) → pends d (stopped_calls places r t n cs).calls ≡ true → pends d t.calls ≡ true
    stopped_less t cs same is d some = let apart : AreApart cs = subst AreApart same is.apart in stop_less t cs apart (subst (Found t) same (apart_found t.calls is.apart)) is d some

    pub stopped_gone : (t : RunReport) (cs : List Call) → t.calls ≡ cs → So t → (c : Call) → Has cs c → c.node ≡ n → pends c.command (stopped_calls places r t n cs).calls ≡ true → ⊥
    stopped_gone t cs same is c has here some = let apart : AreApart cs = subst AreApart same is.apart in stop_gone t cs apart (subst (Found t) same (apart_found t.calls is.apart)) is c has here some
