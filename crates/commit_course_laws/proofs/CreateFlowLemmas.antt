-- The command of a CREATE that commits first, while it goes well with HOLD off: the COMMIT is pending; once it is complete the
-- CREATE itself comes next; and then no call is pending.
use Rattle.std.proofs.Common.{◌≡◌, ℕ, ◌==◌, ◌&&◌, not, Bool, true, false, if◌then◌else◌, List, [], ◌∷◌, map, filter, find, Option, Some, None, refl, sym, ap, subst, ◌∙◌}
use Rattle.std.specs.List.{AllByRecursion}
use Rattle.std.proofs.lemmas.Bool.{cond_both, eqb-true, eq-eqb}
use Rattle.node_rules.specs.Data.{Answer, Stmt}
use Rattle.node_rules.specs.declared.session.Finished.{Finished}
use Rattle.node_rules.specs.NodeState.{TurnOutput}
use Rattle.run_rules.specs.Calls.{is_call_at, call_at, without_call, change_call, is_complete, second_of, call_follows, call_ends, ends_or_follows, finished_call, finished}
use Rattle.run_rules.specs.Data.{Turn}
use Rattle.run_rules.specs.Lines.{says_node}
use Rattle.run_rules.specs.Past.{ends_calls}
use Rattle.run_rules.specs.RunReport.{Call, RunReport}
use Rattle.run_rules.specs.Trail.{ended_by}
use Rattle.run_ready_laws.proofs.PendingLemmas.{at_parts, line_same}
use Rattle.answer_origin_laws.proofs.ComeLemmas.{input_same}
use Rattle.answer_origin_laws.proofs.WayLemmas.{finished_so}
use Rattle.commit_course_laws.proofs.FlowLemmas.{IsItsCall}
use Rattle.commit_course_laws.proofs.AnsweredLemmas.{IsNoCall, HasNone}

-- ---- lists of calls

-- what is so of none is so of all
pub of_none : (P : Call → Type 0) (cs : List Call) → AllByRecursion IsNoCall cs → AllByRecursion P cs
of_none P [] none = tt
of_none P (c ∷ cs) none = absurd none.0

module _ (node session : ℕ) where
  -- a call of the session, and of this command
  abbrev pub IsOf : ℕ → Call → Type 0
  IsOf command x = (is_call_at node session x ≡ true) × (x.command ≡ command)

  none_other : (command m n : ℕ) → ((m == node) && (n == session)) ≡ false → (cs : List Call) → AllByRecursion (IsOf command) cs → find (is_call_at m n) cs ≡ None
  none_other command m n other [] all = refl
  none_other command m n other (x ∷ cs) all = by (is_call_at m n x) refl (none_other command m n other cs all.1)
    where
      by : (q : Bool) → is_call_at m n x ≡ q → find (is_call_at m n) cs ≡ None → (if q then Some x else find (is_call_at m n) cs) ≡ None
      by true here rest =
          let one = at_parts m n x here in
          let two = at_parts node session x all.0.0 in
          let both : ((m == node) && (n == session)) ≡ true = ap (λ q. q && (n == session)) (eq-eqb m node (sym one.0 ∙ two.0)) ∙ eq-eqb n session (sym one.1 ∙ two.1) in
          absurd (cc (both, other))
      by false here rest = rest

  -- without the session's calls there is none
  none_left : (command n s : ℕ) → n ≡ node → s ≡ session → (cs : List Call) → AllByRecursion (IsOf command) cs → AllByRecursion IsNoCall (filter (λ x. not (is_call_at n s x)) cs)
  none_left command n s here its [] all = tt
  none_left command n s here its (x ∷ cs) all =
      let same : is_call_at n s x ≡ true = subst (λ i. is_call_at i s x ≡ true) (sym here) (subst (λ i. is_call_at node i x ≡ true) (sym its) all.0.0) in
      subst (λ q. AllByRecursion IsNoCall (if q then x ∷ filter (λ d. not (is_call_at n s d)) cs else filter (λ d. not (is_call_at n s d)) cs)) (sym (ap not same)) (none_left command n s here its cs all.1)

  -- the second call takes the place of each
  all_changed : (new : Call) → IsItsCall node session new → (cs : List Call) → AllByRecursion (IsOf new.command) cs → AllByRecursion (IsItsCall node session) (map (change_call new) cs)
  all_changed new its [] all = tt
  all_changed new its (x ∷ cs) all = (subst (λ q. IsItsCall node session (if q then new else x)) (sym (eq-eqb x.command new.command all.0.1)) its, all_changed new its cs all.1)

  -- ---- how far the command is

  module _ (s : Stmt) where
    -- The CREATE itself, pending.
    pub record IsCreateCall (c : Call) : Type 0 where
      pub here : c.node ≡ node
      pub its : c.session ≡ session
      pub own : c.statement ≡ Some s

    -- The COMMIT is pending; it is complete, and the CREATE comes next; the CREATE has come; or the COMMIT was refused.
    pub data Stage (came : Type 0) (told : List Answer) (t : RunReport) : Type 0 where
      Commits : (c : Call) → call_at t node session ≡ Some c → c.follows ≡ Some s → AllByRecursion (IsOf c.command) t.calls → t.next_call ≡ None → told ≡ [] → Stage came told t
      Follows : (c : Call) → t.next_call ≡ Some c → IsCreateCall c → AllByRecursion (IsItsCall node session) t.calls → (told ≡ [] → ⊥) → Stage came told t
      Created : came → HasNone t → t.next_call ≡ None → Stage came told t
      Refused : (a : Answer) (others : List Answer) → told ≡ a ∷ others → is_complete a ≡ false → HasNone t → t.next_call ≡ None → Stage came told t

    pub same_stage : (came : Type 0) (told : List Answer) (t u : RunReport) → u.calls ≡ t.calls → u.next_call ≡ t.next_call → Stage came told t → Stage came told u
    same_stage came told t u calls next (Commits c at follows all none unsaid) = Commits c (ap (find (is_call_at node session)) calls ∙ at) follows (subst (AllByRecursion (IsOf c.command)) (sym calls) all) (next ∙ none) unsaid
    same_stage came told t u calls next (Follows c is create all answered) = Follows c (next ∙ is) create (subst (AllByRecursion (IsItsCall node session)) (sym calls) all) answered
    same_stage came told t u calls next (Created it none alone) = Created it (subst (AllByRecursion IsNoCall) (sym calls) none) (next ∙ alone)
    same_stage came told t u calls next (Refused a others is incomplete none alone) = Refused a others is incomplete (subst (AllByRecursion IsNoCall) (sym calls) none) (next ∙ alone)

    -- ---- calls that end

    module _ (running : ℕ) where
      -- the answers to the session
      abbrev pub answers_of : List Finished → List Answer
      answers_of fs = map (λ (x : Finished). x.answer) (filter (λ (x : Finished). x.session == session) fs)

      -- of calls that none follows none comes next
      ends_next : (t : RunReport) (c : Call) (f : Finished) (o : Option Stmt) → o ≡ None → (ends_or_follows running t c f o).next_call ≡ t.next_call
      ends_next t c f None is = (line_same running (without_call t c.node c.session) c.command (says_node f)).next_call
      ends_next t c f (Some x) is = absurd cc

      found_last : (m n : ℕ) (cs : List Call) (c : Call) → AllByRecursion (IsItsCall node session) cs → find (is_call_at m n) cs ≡ Some c → c.follows ≡ None
      found_last m n [] c all at = absurd cc
      found_last m n (x ∷ cs) c all at = by (is_call_at m n x) at (found_last m n cs c all.1)
        where
          by : (q : Bool) → (if q then Some x else find (is_call_at m n) cs) ≡ Some c → (find (is_call_at m n) cs ≡ Some c → c.follows ≡ None) → c.follows ≡ None
          by true is rest = (let it : Some x ≡ Some c = is in let same : x ≡ c = cc in ap (λ (d : Call). d.follows) (sym same) ∙ all.0.1)
          by false is rest = rest is

      call_next : (m : ℕ) (t : RunReport) (f : Finished) → AllByRecursion (IsItsCall node session) t.calls → (o : Option Call) → call_at t m f.session ≡ o → (finished_call running t f o).next_call ≡ t.next_call
      call_next m t f all None at = refl
      call_next m t f all (Some c) at = ends_next t c f c.follows (found_last m f.session t.calls c all at)

      next_kept : (m : ℕ) (t : RunReport) (fs : List Finished) → AllByRecursion (IsItsCall node session) t.calls → (finished running t m fs).next_call ≡ t.next_call
      next_kept m t [] all = refl
      next_kept m t (f ∷ fs) all =
          next_kept m (finished_call running t f (call_at t m f.session)) fs (finished_so (IsItsCall node session) (λ c x so. (so.0, refl)) running m t (f ∷ []) all) ∙ call_next m t f all (call_at t m f.session) refl

      -- the COMMIT that is pending
      module _ (came : Type 0) (c : Call) (follows : c.follows ≡ Some s) where
        -- it ends
        pending_ends : (t : RunReport) (f : Finished) (fs : List Finished) → c.node ≡ node → c.session ≡ session → AllByRecursion (IsOf c.command) t.calls → t.next_call ≡ None → (q : Bool) → is_complete f.answer ≡ q
            → Stage came (f.answer ∷ answers_of fs) (finished running (if q then call_follows t (second_of c s) else call_ends running t c f) node fs)
        pending_ends t f fs here its all none true complete =
            let new : Call = second_of c s in
            let v : RunReport = call_follows t new in
            let at : is_call_at node session new ≡ true = ap (λ q. q && (c.session == session)) (eq-eqb c.node node here) ∙ eq-eqb c.session session its in
            let changed : AllByRecursion (IsItsCall node session) v.calls = all_changed new (at, refl) t.calls all in
            Follows new (next_kept node v fs changed) (record { here = here; its = its; own = refl }) (finished_so (IsItsCall node session) (λ x y so. (so.0, refl)) running node v fs changed) (λ none. cc)
        pending_ends t f fs here its all none false complete =
            let w : RunReport = without_call t c.node c.session in
            let v : RunReport = call_ends running t c f in
            let same = line_same running w c.command (says_node f) in
            let left : HasNone v = subst (AllByRecursion IsNoCall) (sym same.calls) (none_left c.command c.node c.session here its t.calls all) in
            Refused f.answer (answers_of fs) refl complete (finished_so IsNoCall (λ x y so. so) running node v fs left) (next_kept node v fs (of_none (IsItsCall node session) v.calls left) ∙ (same.next_call ∙ none))

        pending_finished : (t : RunReport) (fs : List Finished) → call_at t node session ≡ Some c → AllByRecursion (IsOf c.command) t.calls → t.next_call ≡ None → Stage came (answers_of fs) (finished running t node fs)
        pending_finished t [] at all none = Commits c at follows all none refl
        pending_finished t (f ∷ fs) at all none = by (f.session == session) refl (pending_finished t fs at all none)
          where
            its_parts : (xs : List Call) → find (is_call_at node session) xs ≡ Some c → (c.node ≡ node) × (c.session ≡ session)
            its_parts [] found = absurd cc
            its_parts (x ∷ xs) found = one (is_call_at node session x) refl found (its_parts xs)
              where
                one : (q : Bool) → is_call_at node session x ≡ q → (if q then Some x else find (is_call_at node session) xs) ≡ Some c → (find (is_call_at node session) xs ≡ Some c → (c.node ≡ node) × (c.session ≡ session)) → (c.node ≡ node) × (c.session ≡ session)
                one true here is rest = (let it : Some x ≡ Some c = is in let same : x ≡ c = cc in at_parts node session c (subst (λ y. is_call_at node session y ≡ true) same here))
                one false here is rest = rest is

            by : (q : Bool) → (f.session == session) ≡ q → Stage came (answers_of fs) (finished running t node fs) → Stage came (map (λ (x : Finished). x.answer) (if q then f ∷ filter (λ (x : Finished). x.session == session) fs else filter (λ (x : Finished). x.session == session) fs)) (finished running t node (f ∷ fs))
            by true its rest =
                let parts = its_parts t.calls at in
                let found : call_at t node f.session ≡ Some c = ap (call_at t node) (eqb-true f.session session its) ∙ at in
                let is : finished_call running t f (call_at t node f.session) ≡ (if is_complete f.answer then call_follows t (second_of c s) else call_ends running t c f) = ap (finished_call running t f) found ∙ ap (ends_or_follows running t c f) follows in
                subst (λ v. Stage came (f.answer ∷ answers_of fs) (finished running v node fs)) (sym is) (pending_ends t f fs parts.0 parts.1 all none (is_complete f.answer) refl)
            by false other rest =
                let none_here : call_at t node f.session ≡ None = none_other c.command node f.session (ap (λ q. (node == node) && q) other ∙ and_false (node == node)) t.calls all in
                let is : finished_call running t f (call_at t node f.session) ≡ t = ap (finished_call running t f) none_here in
                subst (λ v. Stage came (answers_of fs) (finished running v node fs)) (sym is) rest
              where
                and_false : (q : Bool) → (q && false) ≡ false
                and_false true = refl
                and_false false = refl

        -- calls of another node
        pending_elsewhere : (m : ℕ) → (m == node) ≡ false → (t : RunReport) (fs : List Finished) → AllByRecursion (IsOf c.command) t.calls → finished running t m fs ≡ t
        pending_elsewhere m other t [] all = refl
        pending_elsewhere m other t (f ∷ fs) all =
            let is : finished_call running t f (call_at t m f.session) ≡ t = ap (finished_call running t f) (none_other c.command m f.session (ap (λ q. q && (f.session == session)) other) t.calls all) in
            ap (λ v. finished running v m fs) is ∙ pending_elsewhere m other t fs all

      -- ---- in a turn

      -- what is said of the calls of a turn
      abbrev pub said : Turn → Option TurnOutput → List Answer
      said u o = if u.node == node then answers_of (ended_by o) else []

      pub commits_on : (came : Type 0) (t : RunReport) (u : Turn) (o : Option TurnOutput) (c : Call) → call_at t node session ≡ Some c → c.follows ≡ Some s → AllByRecursion (IsOf c.command) t.calls → t.next_call ≡ None → Stage came (said u o) (ends_calls running t u false o)
      commits_on came t u None c at follows all none = subst (λ xs. Stage came xs t) (sym (cond_both (u.node == node) [] [] (λ (xs : List Answer). xs ≡ []) (λ here. refl) (λ other. refl))) (Commits c at follows all none refl)
      commits_on came t u (Some o) c at follows all none = by (u.node == node) refl
        where
          v : RunReport
          v = finished running t u.node o.ended

          by : (q : Bool) → (u.node == node) ≡ q → Stage came (if q then answers_of o.ended else []) (ends_calls running t u false (Some o))
          by true here =
              let same = input_same v running u.node u.input in
              same_stage came (answers_of o.ended) v (ends_calls running t u false (Some o)) same.0 same.1
              (subst (λ m. Stage came (answers_of o.ended) (finished running t m o.ended)) (sym (eqb-true u.node node here)) (pending_finished came c follows t o.ended at all none))
          by false other =
              let same = input_same v running u.node u.input in
              let is : v ≡ t = pending_elsewhere came c follows u.node other t o.ended all in
              same_stage came [] t (ends_calls running t u false (Some o)) (same.0 ∙ ap (λ (w : RunReport). w.calls) is) (same.1 ∙ ap (λ (w : RunReport). w.next_call) is) (Commits c at follows all none refl)
