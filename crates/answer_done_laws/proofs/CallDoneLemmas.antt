-- A call that a turn answers is pending no more, and its answer is a line of the page.
use Rattle.std.proofs.Common.{◌≡◌, ℕ, ◌==◌, not, Bool, true, false, if◌then◌else◌, List, [], ◌∷◌, map, filter, find, Option, Some, None, refl, sym, ap, subst, ◌∙◌}
use Rattle.std.specs.Prelude.{option_map}
use Rattle.std.proofs.lemmas.Bool.{cond_both, eqb-true, eq-eqb, and_from}
use Rattle.node_rules.specs.Data.{Answer, Stmt}
use Rattle.node_rules.specs.declared.session.Finished.{Finished}
use Rattle.run_rules.specs.Calls.{is_call_at, call_at, without_call, change_call, is_complete, second_of, call_follows, call_ends, ends_or_follows, finished_call, finished}
use Rattle.run_rules.specs.Data.{Command}
use Rattle.run_rules.specs.Data.said
use Rattle.run_rules.specs.Lines.{says_node}
use Rattle.run_rules.specs.RunReport.{Call, RunReport}
use Rattle.run_ready_laws.proofs.PendingLemmas.{line_same, at_parts}
use Rattle.answer_origin_laws.proofs.CallAtLemmas.{HasShape, AreShaped, found_at, find_kept, find_left, gone_fewer, one_command, changed_shapes, follows_at}
use Rattle.answer_done_laws.specs.DoneLaws.{answers_to}
use Rattle.answer_done_laws.proofs.LineStayLemmas.{IsPut, line_put, grows_put, finished_grows}

-- what is pending after an answer: the second call of a CREATE, once its COMMIT is complete
abbrev pub after_answer : Call → Answer → Option Stmt → Option Call
after_answer c a None = None
after_answer c a (Some st) = if is_complete a then Some (second_of c st) else None

module _ (asked : List Command) (running node : ℕ) where
  -- ---- one call that ends

  module _ (t : RunReport) (shapes : AreShaped asked t.calls) (f : Finished) where
    gone_shapes : (c : Call) → AreShaped asked (call_ends running t c f).calls
    gone_shapes c = (gone_fewer asked running t c.node c.session c.command (says_node f) shapes).shapes

    -- the calls are of their commands still
    one_shapes : (o : Option Call) → call_at t node f.session ≡ o → AreShaped asked (finished_call running t f o).calls
    one_shapes None at = shapes
    one_shapes (Some c) at = by c.follows refl
      where
        by : (o : Option Stmt) → c.follows ≡ o → AreShaped asked (ends_or_follows running t c f o).calls
        by None is = gone_shapes c
        by (Some st) is =
            cond_both (is_complete f.answer) (call_follows t (second_of c st)) (call_ends running t c f) (λ (u : RunReport). AreShaped asked u.calls)
            (λ complete. changed_shapes asked t shapes c (found_at asked t node f.session c shapes at).0 st is t.calls shapes) (λ other. gone_shapes c)

    -- a call that ends is of its own session
    gone_elsewhere : (c : Call) (s : ℕ) → c.session ≡ f.session → (f.session == s) ≡ false → call_at (call_ends running t c f) node s ≡ call_at t node s
    gone_elsewhere c s own other =
        let u : RunReport = without_call t c.node c.session in
        ap (find (is_call_at node s)) (line_same running u c.command (says_node f)).calls
        ∙ find_kept (is_call_at node s) (λ x. not (is_call_at c.node c.session x)) (λ x is. by (c.session == s) refl x is) t.calls
      where
        by : (q : Bool) → (c.session == s) ≡ q → (x : Call) → is_call_at node s x ≡ true → not (is_call_at c.node c.session x) ≡ true
        by true here x is = absurd (let no : (c.session == s) ≡ false = ap (λ i. i == s) own ∙ other in cc (here, no))
        by false here x is = apart (is_call_at c.node c.session x) refl
          where
            apart : (q : Bool) → is_call_at c.node c.session x ≡ q → not q ≡ true
            apart false other_one = refl
            apart true both_so =
                let mine = at_parts c.node c.session x both_so in
                let its = at_parts node s x is in
                absurd (let same : (c.session == s) ≡ true = eq-eqb c.session s (sym mine.1 ∙ its.1) in cc (same, here))

    -- a call of another session stays as it is
    one_elsewhere : (o : Option Call) → call_at t node f.session ≡ o → (s : ℕ) → (f.session == s) ≡ false → (d : Call) → call_at t node s ≡ Some d → call_at (finished_call running t f o) node s ≡ Some d
    one_elsewhere None at s other d there = there
    one_elsewhere (Some c) at s other d there = by c.follows refl
      where
        its : HasShape asked c × (c.node ≡ node) × (c.session ≡ f.session)
        its = found_at asked t node f.session c shapes at

        gone : call_at (call_ends running t c f) node s ≡ Some d
        gone = gone_elsewhere c s its.2 other ∙ there

        changed : (st : Stmt) → c.follows ≡ Some st → (q : Bool) → (d.command == c.command) ≡ q → Some (if q then second_of c st else d) ≡ Some d
        changed st is false apart = refl
        changed st is true same =
            let d_its = found_at asked t node s d shapes there in
            let one = one_command asked t shapes c its.0 st is d d_its.0 same in
            absurd (let here : (f.session == s) ≡ true = eq-eqb f.session s (sym its.2 ∙ (sym one.1 ∙ d_its.2)) in cc (here, other))

        by : (o : Option Stmt) → c.follows ≡ o → call_at (ends_or_follows running t c f o) node s ≡ Some d
        by None is = gone
        by (Some st) is =
            cond_both (is_complete f.answer) (call_follows t (second_of c st)) (call_ends running t c f) (λ u. call_at u node s ≡ Some d)
            (λ complete. follows_at asked t shapes c its.0 st is node s ∙ (ap (option_map (change_call (second_of c st))) there ∙ changed st is (d.command == c.command) refl)) (λ other. gone)

    -- a session without a call gets none
    one_none : (o : Option Call) → call_at t node f.session ≡ o → (s : ℕ) → call_at t node s ≡ None → call_at (finished_call running t f o) node s ≡ None
    one_none None at s none = none
    one_none (Some c) at s none = by c.follows refl
      where
        still : (u : RunReport) → ((e : Call) → call_at u node s ≡ Some e → ⊥) → call_at u node s ≡ None
        still u never = at_most (call_at u node s) refl
          where
            at_most : (o : Option Call) → call_at u node s ≡ o → o ≡ None
            at_most None is = refl
            at_most (Some e) is = absurd (never e is)

        gone : call_at (call_ends running t c f) node s ≡ None
        gone = still (call_ends running t c f) (λ e is. (let was : call_at t node s ≡ Some e = (gone_fewer asked running t c.node c.session c.command (says_node f) shapes).was node s e is in cc (was, none)))

        by : (o : Option Stmt) → c.follows ≡ o → call_at (ends_or_follows running t c f o) node s ≡ None
        by None is = gone
        by (Some st) is =
            cond_both (is_complete f.answer) (call_follows t (second_of c st)) (call_ends running t c f) (λ u. call_at u node s ≡ None)
            (λ complete. follows_at asked t shapes c (found_at asked t node f.session c shapes at).0 st is node s ∙ ap (option_map (change_call (second_of c st))) none) (λ other. gone)

    -- the call that ends is pending no more
    own_gone : (c : Call) → call_at t node f.session ≡ Some c → call_at (call_ends running t c f) node f.session ≡ None
    own_gone c at =
        let its = found_at asked t node f.session c shapes at in
        let u : RunReport = without_call t c.node c.session in
        ap (find (is_call_at node f.session)) (line_same running u c.command (says_node f)).calls
        ∙ find_left (is_call_at node f.session) (λ x. not (is_call_at c.node c.session x))
        (λ x is. (let mine = at_parts node f.session x is in
        let same : is_call_at c.node c.session x ≡ true = and_from (x.node == c.node) (x.session == c.session) (eq-eqb x.node c.node (mine.0 ∙ sym its.1)) (eq-eqb x.session c.session (mine.1 ∙ sym its.2)) in
        ap not same)) t.calls

  -- ---- the calls of a turn

  pub all_shapes : (t : RunReport) (fs : List Finished) → AreShaped asked t.calls → AreShaped asked (finished running t node fs).calls
  all_shapes t [] shapes = shapes
  all_shapes t (f ∷ fs) shapes = all_shapes (finished_call running t f (call_at t node f.session)) fs (one_shapes t shapes f (call_at t node f.session) refl)

  pub none_stays : (t : RunReport) (fs : List Finished) → AreShaped asked t.calls → (s : ℕ) → call_at t node s ≡ None → call_at (finished running t node fs) node s ≡ None
  none_stays t [] shapes s none = none
  none_stays t (f ∷ fs) shapes s none =
      none_stays (finished_call running t f (call_at t node f.session)) fs (one_shapes t shapes f (call_at t node f.session) refl) s (one_none t shapes f (call_at t node f.session) refl s none)

  -- the answer of a session's call
  pub answered_put : (t : RunReport) (fs : List Finished) → AreShaped asked t.calls → (s : ℕ) (c : Call) → call_at t node s ≡ Some c → c.follows ≡ None → (a : Answer) → answers_to s fs ≡ a ∷ []
      → IsPut running (finished running t node fs) c.command (said.Node a) × (call_at (finished running t node fs) node s ≡ None)
  answered_put t [] shapes s c at alone a is = absurd cc
  answered_put t (f ∷ fs) shapes s c at alone a is =
      by (f.session == s) refl (λ there answers. answered_put (finished_call running t f (call_at t node f.session)) fs (one_shapes t shapes f (call_at t node f.session) refl) s c there alone a answers)
    where
      by : (q : Bool) → (f.session == s) ≡ q
          → (call_at (finished_call running t f (call_at t node f.session)) node s ≡ Some c → answers_to s fs ≡ a ∷ []
          → IsPut running (finished running (finished_call running t f (call_at t node f.session)) node fs) c.command (said.Node a) × (call_at (finished running (finished_call running t f (call_at t node f.session)) node fs) node s ≡ None))
          → IsPut running (finished running (finished_call running t f (call_at t node f.session)) node fs) c.command (said.Node a) × (call_at (finished running (finished_call running t f (call_at t node f.session)) node fs) node s ≡ None)
      by false other later =
          later (one_elsewhere t shapes f (call_at t node f.session) refl s other c at)
          (sym (ap (λ q. map (λ x. x.answer) (if q then f ∷ filter (λ x. x.session == s) fs else filter (λ x. x.session == s) fs)) other) ∙ is)
      by true here later =
          let same : f.session ≡ s = eqb-true f.session s here in
          let mine : call_at t node f.session ≡ Some c = subst (λ i. call_at t node i ≡ Some c) (sym same) at in
          let first : f.answer ∷ answers_to s fs ≡ a ∷ [] = sym (ap (λ q. map (λ x. x.answer) (if q then f ∷ filter (λ x. x.session == s) fs else filter (λ x. x.session == s) fs)) here) ∙ is in
          let answer : f.answer ≡ a = cc in
          let v : RunReport = call_ends running t c f in
          let now : finished_call running t f (call_at t node f.session) ≡ v = ap (finished_call running t f) mine ∙ ap (ends_or_follows running t c f) alone in
          let put : IsPut running v c.command (said.Node a) = subst (λ (x : Answer). IsPut running v c.command (said.Node x)) answer (line_put running (without_call t c.node c.session) c.command (says_node f)) in
          let gone : call_at v node s ≡ None = subst (λ i. call_at v node i ≡ None) same (own_gone t shapes f c mine) in
          subst (λ w. IsPut running (finished running w node fs) c.command (said.Node a) × (call_at (finished running w node fs) node s ≡ None)) (sym now)
          (grows_put running v (finished running v node fs) c.command (said.Node a) (finished_grows running node v fs) put, none_stays v fs (gone_shapes t shapes f c) s gone)

  -- ---- what is pending after an answer

  -- a call of another session is
  others_stay : (t : RunReport) (fs : List Finished) → AreShaped asked t.calls → (s : ℕ) → answers_to s fs ≡ [] → (d : Call) → call_at t node s ≡ Some d → call_at (finished running t node fs) node s ≡ Some d
  others_stay t [] shapes s none d at = at
  others_stay t (f ∷ fs) shapes s none d at =
      by (f.session == s) refl (λ left there. others_stay (finished_call running t f (call_at t node f.session)) fs (one_shapes t shapes f (call_at t node f.session) refl) s left d there)
    where
      by : (q : Bool) → (f.session == s) ≡ q
          → (answers_to s fs ≡ [] → call_at (finished_call running t f (call_at t node f.session)) node s ≡ Some d → call_at (finished running (finished_call running t f (call_at t node f.session)) node fs) node s ≡ Some d)
          → call_at (finished running (finished_call running t f (call_at t node f.session)) node fs) node s ≡ Some d
      by true here later = absurd (let some : f.answer ∷ answers_to s fs ≡ [] = sym (ap (λ q. map (λ x. x.answer) (if q then f ∷ filter (λ x. x.session == s) fs else filter (λ x. x.session == s) fs)) here) ∙ none in cc)
      by false other later =
          later (sym (ap (λ q. map (λ x. x.answer) (if q then f ∷ filter (λ x. x.session == s) fs else filter (λ x. x.session == s) fs)) other) ∙ none) (one_elsewhere t shapes f (call_at t node f.session) refl s other d at)

  pub answered_call : (t : RunReport) (fs : List Finished) → AreShaped asked t.calls → (s : ℕ) (c : Call) → call_at t node s ≡ Some c → (a : Answer) → answers_to s fs ≡ a ∷ []
      → call_at (finished running t node fs) node s ≡ after_answer c a c.follows
  answered_call t [] shapes s c at a is = absurd cc
  answered_call t (f ∷ fs) shapes s c at a is =
      by (f.session == s) refl (λ there answers. answered_call (finished_call running t f (call_at t node f.session)) fs (one_shapes t shapes f (call_at t node f.session) refl) s c there a answers)
    where
      by : (q : Bool) → (f.session == s) ≡ q
          → (call_at (finished_call running t f (call_at t node f.session)) node s ≡ Some c → answers_to s fs ≡ a ∷ [] → call_at (finished running (finished_call running t f (call_at t node f.session)) node fs) node s ≡ after_answer c a c.follows)
          → call_at (finished running (finished_call running t f (call_at t node f.session)) node fs) node s ≡ after_answer c a c.follows
      by false other later =
          later (one_elsewhere t shapes f (call_at t node f.session) refl s other c at)
          (sym (ap (λ q. map (λ x. x.answer) (if q then f ∷ filter (λ x. x.session == s) fs else filter (λ x. x.session == s) fs)) other) ∙ is)
      by true here later = own c.follows refl
        where
          same : f.session ≡ s
          same = eqb-true f.session s here

          mine : call_at t node f.session ≡ Some c
          mine = subst (λ i. call_at t node i ≡ Some c) (sym same) at

          first : f.answer ∷ answers_to s fs ≡ a ∷ []
          first = sym (ap (λ q. map (λ x. x.answer) (if q then f ∷ filter (λ x. x.session == s) fs else filter (λ x. x.session == s) fs)) here) ∙ is

          answer : f.answer ≡ a
          answer = let it = first in cc

          no_more : answers_to s fs ≡ []
          no_more = let it = first in cc

          gone : call_at (finished running (call_ends running t c f) node fs) node s ≡ None
          gone = none_stays (call_ends running t c f) fs (gone_shapes t shapes f c) s (subst (λ i. call_at (call_ends running t c f) node i ≡ None) same (own_gone t shapes f c mine))

          follows : (st : Stmt) → c.follows ≡ Some st → (q : Bool) → is_complete f.answer ≡ q
              → call_at (finished running (if q then call_follows t (second_of c st) else call_ends running t c f) node fs) node s ≡ (if q then Some (second_of c st) else None)
          follows st next false is_not = gone
          follows st next true complete =
              let shape = (found_at asked t node f.session c shapes mine).0 in
              let now : call_at (call_follows t (second_of c st)) node s ≡ Some (second_of c st)
              = follows_at asked t shapes c shape st next node s ∙ (ap (option_map (change_call (second_of c st))) at ∙ ap (λ q. Some (if q then second_of c st else c)) (eq-eqb c.command c.command refl)) in
              others_stay (call_follows t (second_of c st)) fs (changed_shapes asked t shapes c shape st next t.calls shapes) s no_more (second_of c st) now

          own : (o : Option Stmt) → c.follows ≡ o → call_at (finished running (finished_call running t f (call_at t node f.session)) node fs) node s ≡ after_answer c a c.follows
          own None alone =
              ap (λ o. call_at (finished running (finished_call running t f o) node fs) node s) mine
              ∙ (ap (λ o. call_at (finished running (ends_or_follows running t c f o) node fs) node s) alone ∙ (gone ∙ ap (after_answer c a) (sym alone)))
          own (Some st) next =
              ap (λ o. call_at (finished running (finished_call running t f o) node fs) node s) mine
              ∙ (ap (λ o. call_at (finished running (ends_or_follows running t c f o) node fs) node s) next
              ∙ (follows st next (is_complete f.answer) refl ∙ (ap (λ x. if is_complete x then Some (second_of c st) else None) answer ∙ ap (after_answer c a) (sym next))))
