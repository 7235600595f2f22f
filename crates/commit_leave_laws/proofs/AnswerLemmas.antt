-- In every lawful run an undisturbed COMMIT has one answer, Commit complete, once neither its root is live nor a row of it is left.
use Rattle.std.proofs.Common.{◌≡◌, ◌≢◌, ℕ, ◌==◌, ◌&&◌, ◌||◌, ◌⊎◌, Bool, true, false, not, if◌then◌else◌, List, [], ◌∷◌, ◌++◌, find, length, Some, None, inl, inr, refl, sym, ap, subst, ◌∙◌, append-nil}
use Rattle.std.specs.List.{AllByRecursion, list_any}
use Rattle.std.proofs.lemmas.Bool.{cond_both, eqb-true, eq-eqb}
use Rattle.std.proofs.lemmas.List.{append_assoc}
use Rattle.node_rules.specs.Data.{Answer, BranchId, Msg, Place, KeptRow}
use Rattle.node_rules.specs.Data.inputs
use Rattle.node_rules.specs.NodeState.{NodeState, TurnDraft, live_id, kept_row_id}
use Rattle.node_rules.specs.declared.session.Session.{Session}
use Rattle.node_rules.specs.Sessions.{session_at, commit_complete}
use Rattle.node_rules.specs.Turn.{turn_of, draft_of}
use Rattle.node_rules.specs.Words.{same, is_item_of}
use Rattle.run_rules.specs.Data.{Happening, Turn}
use Rattle.run_rules.specs.Data.happenings
use Rattle.run_rules.specs.Facts.{Facts, first_facts, place_at, node_at, kept_after, served, outcome_at, facts_after, facts_of}
use Rattle.run_rules.specs.Lawful.{Comes, History, IsLawfulRun, MayHappen, facts_at}
use Rattle.run_rules.specs.Trail.{ended_by}
use Rattle.run_rules.proofs.AtNodeLemmas.{turn_here, turn_elsewhere}
use Rattle.run_base_laws.proofs.EventsStandLemmas.{run_stands}
use Rattle.run_base_laws.proofs.TurnEventLemmas.{cases_nat}
use Rattle.tree_laws.proofs.PrefixLemmas.{so_far, f_at, one_on, facts_join}
use Rattle.tree_laws.proofs.TimeLemmas.{Part, part_of, part_lawful, may_of}
use Rattle.commit_laws.specs.StillLaws.{DroppedNone, AbortsNone}
use Rattle.run_claims.specs.Undisturbed.{Commit, Undisturbed, IsFirstDelivery, IsInCourse, is_create, answers_in, commit_answers_in, commit_answers_from}
use Rattle.commit_laws.proofs.CreateLemmas.{LeavesBranches, create_leaves}
use Rattle.commit_laws.proofs.RootLemmas.{undisturbed_roots_leave}
use Rattle.commit_leave_laws.specs.CallLaws.{HasNoRow, UndisturbedCallsEnd}
use Rattle.commit_leave_laws.proofs.LastLemmas.{Lasts, has_row, is_living}
use Rattle.commit_leave_laws.proofs.SessionLemmas.{answers_of}
use Rattle.commit_leave_laws.proofs.CallLemmas as call
use Rattle.commit_leave_laws.proofs.CallTurnLemmas.{state_first}
use Rattle.commit_leave_laws.proofs.PendLemmas.{State, Waits, Done, delivered, state_next}

-- ---- lists

-- the answers of one happening more
pub answers_more : (places : List Place) (asked : _) (f : Facts) (node session : ℕ) (hs : List Happening) (h : Happening)
    → commit_answers_from places asked f node session (hs ++ h ∷ []) ≡ commit_answers_from places asked f node session hs ++ commit_answers_in places (facts_of places asked f hs) node session h
unfolding facts_of
answers_more places asked f node session [] h = append-nil (commit_answers_in places f node session h)
answers_more places asked f node session (x ∷ hs) h =
    ap (λ xs. commit_answers_in places f node session x ++ xs) (answers_more places asked (facts_after places asked f x) node session hs h)
    ∙ sym (append_assoc (commit_answers_in places f node session x) (commit_answers_from places asked (facts_after places asked f x) node session hs) (commit_answers_in places (facts_of places asked (facts_after places asked f x) hs) node session h))

-- who is among items is found
any_some : {A : Type 0} (p : A → Bool) (xs : List A) → list_any p xs ≡ true → find p xs ≢ None
any_some p [] is none = absurd cc
any_some p (x ∷ xs) is none = by (p x) is none (any_some p xs)
  where
    by : (q : Bool) → (q || list_any p xs) ≡ true → (if q then Some x else find p xs) ≡ None → (list_any p xs ≡ true → find p xs ≢ None) → ⊥
    by true found nothing rest = absurd cc
    by false found nothing rest = rest found nothing

row_there : (r : BranchId) (ks : List KeptRow) → has_row r ks ≡ true → list_any (is_item_of kept_row_id r) ks ≡ true
row_there r [] is = absurd cc
row_there r (s ∷ ks) is = by (same s.me r) s.forgot is (row_there r ks)
  where
    by : (q w : Bool) → ((q && not w) || has_row r ks) ≡ true → (has_row r ks ≡ true → list_any (is_item_of kept_row_id r) ks ≡ true) → (q || list_any (is_item_of kept_row_id r) ks) ≡ true
    by true w found rest = refl
    by false w found rest = rest found

module _ (t : History) (whole : IsLawfulRun t) (c : Commit t.places t.commands t.trace) (u : Undisturbed t.places t.commands t.trace c) (quiet : AbortsNone t c.root) where
  open c use {session as m, root as r}

  abbrev f0 : Facts
  f0 = f_at t c.before

  abbrev first : Happening
  first = happenings.Turn c.call

  abbrev after : List Happening
  after = c.before ++ first ∷ []

  abbrev node : c.call.node ≡ r.node
  node = call.node t whole c

  abbrev answered : List Happening → List Answer
  answered mid = commit_answers_from t.places t.commands f0 c.call.node m (first ∷ mid)

  record Status (mid : List Happening) : Type 0 where
    pub kept : NodeState
    pub up : node_at (f_at t (after ++ mid)) r.node ≡ Some kept
    pub state : State t whole c u quiet kept (answered mid)

  -- the facts after the call and these deliveries
  facts_mid : (mid : List Happening) → facts_of t.places t.commands f0 (first ∷ mid) ≡ f_at t (after ++ mid)
  facts_mid mid = sym (facts_join t.places t.commands (first_facts t.places) c.before (first ∷ mid)) ∙ ap (f_at t) (sym (append_assoc c.before (first ∷ []) mid))

  -- ---- one turn more

  module _ (mid : List Happening) (h : Turn) (rest : List Happening) (is : mid ++ happenings.Turn h ∷ rest ≡ c.during) (uncut : h.cut ≡ false) (now : Status mid) where
    abbrev before : List Happening
    before = after ++ mid

    abbrev g : Facts
    g = f_at t before

    all_is : before ++ happenings.Turn h ∷ rest ≡ t.trace
    all_is = append_assoc after mid (happenings.Turn h ∷ rest) ∙ (ap (λ xs. after ++ xs) is ∙ (append_assoc c.before (first ∷ []) c.during ∙ c.is))

    may_turn : MayHappen t.places t.commands g (happenings.Turn h)
    may_turn = may_of t whole before (happenings.Turn h) rest all_is

    abbrev j : NodeState
    j = may_turn.0

    part_before : Part t whole before
    part_before = part_of t whole before (happenings.Turn h) rest all_is

    even_so : length g.nodes ≡ length g.records
    even_so = (run_stands (so_far t before) (part_lawful t whole before part_before)).0.even

    abbrev later : List Happening
    later = mid ++ happenings.Turn h ∷ []

    one_more : f_at t (after ++ later) ≡ facts_after t.places t.commands g (happenings.Turn h)
    one_more = ap (f_at t) (sym (append_assoc after mid (happenings.Turn h ∷ []))) ∙ one_on t before (happenings.Turn h)

    -- the facts that answers are read by
    facts_so : facts_of t.places t.commands f0 (first ∷ mid) ≡ g
    facts_so = facts_mid mid

    answers_later : answered later ≡ answered mid ++ commit_answers_in t.places g c.call.node m (happenings.Turn h)
    answers_later =
        answers_more t.places t.commands f0 c.call.node m (first ∷ mid) (happenings.Turn h)
        ∙ ap (λ (f : Facts). answered mid ++ commit_answers_in t.places f c.call.node m (happenings.Turn h)) facts_so

    turned : h.node ≡ r.node → node_at (facts_after t.places t.commands g (happenings.Turn h)) h.node ≡ Some (draft_of (place_at t.places h.node) j h.input).after
    unfolding turn_of
    turned here = (turn_here t.places t.commands g even_so h j may_turn.1.up).0 ∙ ap (λ q. kept_after q (Some (turn_of (place_at t.places h.node) j h.input))) uncut

    up_later : h.node ≡ r.node → node_at (f_at t (after ++ later)) r.node ≡ Some (draft_of (place_at t.places h.node) j h.input).after
    up_later here =
        subst (λ (f : Facts). node_at f r.node ≡ Some (draft_of (place_at t.places h.node) j h.input).after) (sym one_more)
        (subst (λ n. node_at (facts_after t.places t.commands g (happenings.Turn h)) n ≡ Some (draft_of (place_at t.places h.node) j h.input).after) here (turned here))

    state_here : h.node ≡ r.node → State t whole c u quiet j (answered mid)
    state_here here =
        let there : node_at g r.node ≡ Some j = subst (λ n. node_at g n ≡ Some j) here may_turn.1.up in
        let both : Some now.kept ≡ Some j = sym now.up ∙ there in
        let it : now.kept ≡ j = cc in
        subst (λ x. State t whole c u quiet x (answered mid)) it now.state

    -- where nothing is answered
    no_more : commit_answers_in t.places g c.call.node m (happenings.Turn h) ≡ [] → answered later ≡ answered mid
    no_more none = answers_later ∙ (ap (λ xs. answered mid ++ xs) none ∙ append-nil (answered mid))

    -- a message comes to the root's node
    module _ (comes : IsFirstDelivery (happenings.Turn h)) where
      message : (x : Msg) × (h.input ≡ inputs.Message x)
      message = delivered g j h.node h.input _ (subst (λ o. Comes g j h.node h.input o) comes.2 may_turn.1.comes)

      answers_are : h.node ≡ r.node → commit_answers_in t.places g c.call.node m (happenings.Turn h) ≡ answers_of m (draft_of (place_at t.places h.node) j h.input).ended
      unfolding turn_of
      answers_are here =
          ap (λ q. if q then [] else answers_in t.places g c.call.node m (happenings.Turn h)) (ap is_create message.1)
          ∙ (ap (λ q. if q then [] else (if h.node == c.call.node then answers_of m (ended_by (outcome_at t.places g h)) else [])) uncut
          ∙ (ap (λ q. if q then answers_of m (ended_by (outcome_at t.places g h)) else []) (eq-eqb h.node c.call.node (here ∙ sym node))
          ∙ ap (λ o. answers_of m (ended_by (served (place_at t.places h.node) h.input o))) may_turn.1.up))

      at_root : h.node ≡ r.node → Status later
      at_root here =
          let next_state = state_next t whole c u quiet j h.input before h rest all_is mid refl may_turn.1 here (answered mid) (state_here here) message.0 message.1 in
          let o = draft_of (place_at t.places h.node) j h.input in
          record {
            kept = o.after;
            up = up_later here;
            state = subst (State t whole c u quiet o.after) (sym (answers_later ∙ ap (λ xs. answered mid ++ xs) (answers_are here))) next_state;
          }

    -- a CREATE comes there
    module _ (create : is_create h.input ≡ true) where
      abbrev o : TurnDraft
      o = draft_of (place_at t.places h.node) j h.input

      leaves : LeavesBranches j o
      leaves = create_leaves (place_at t.places h.node) j h.input create

      lasts_on : Lasts r j → Lasts r o.after
      lasts_on (inl living) = inl (ap (is_living r) leaves.lives ∙ living)
      lasts_on (inr row) = inr (ap (has_row r) leaves.kept ∙ row)

      state_on : (told : List Answer) → State t whole c u quiet j told → State t whole c u quiet o.after told
      state_on told (Waits root pends lasts none) =
          Waits (ap (λ (ss : List Session). (session_at ss m).root) leaves.sessions ∙ root) (ap (λ (ss : List Session). (session_at ss m).call) leaves.sessions ∙ pends) (lasts_on lasts) none
      state_on told (Done free all) = Done (ap (λ (ss : List Session). (session_at ss m).root) leaves.sessions ∙ free) all

      create_root : h.node ≡ r.node → Status later
      create_root here = record {
        kept = o.after;
        up = up_later here;
        state = subst (State t whole c u quiet o.after) (sym (no_more (ap (λ q. if q then [] else answers_in t.places g c.call.node m (happenings.Turn h)) create))) (state_on (answered mid) (state_here here));
      }

    elsewhere : h.node ≢ r.node → Status later
    elsewhere other = record {
      kept = now.kept;
      up = subst (λ (f : Facts). node_at f r.node ≡ Some now.kept) (sym one_more) ((turn_elsewhere t.places t.commands g even_so h r.node other).0 ∙ now.up);
      state = subst (State t whole c u quiet now.kept) (sym (no_more (cond_both (is_create h.input) [] (answers_in t.places g c.call.node m (happenings.Turn h)) (λ xs. xs ≡ []) (λ yes. refl) (λ no. none)))) now.state;
    }
      where
        apart : (q : Bool) → (h.node == c.call.node) ≡ q → (h.node == c.call.node) ≡ false
        apart false at = at
        apart true at = absurd (other (eqb-true h.node c.call.node at ∙ node))

        none : answers_in t.places g c.call.node m (happenings.Turn h) ≡ []
        none =
            ap (λ q. if q then [] else (if h.node == c.call.node then answers_of m (ended_by (outcome_at t.places g h)) else [])) uncut
            ∙ ap (λ q. if q then answers_of m (ended_by (outcome_at t.places g h)) else []) (apart (h.node == c.call.node) refl)

    status_next : IsFirstDelivery (happenings.Turn h) ⊎ (is_create h.input ≡ true) → Status later
    status_next comes = elim (cases_nat h.node r.node) [
      | inl here ↦ elim comes [ inl delivery ↦ at_root delivery here | inr create ↦ create_root create here ]
      | inr other ↦ elsewhere other
    ]

  abbrev d0 : TurnDraft
  d0 = call.d0 t whole c

  -- ---- the turn of the call

  status_first : Status []
  unfolding turn_of
  status_first = record {
    kept = d0.after;
    up = subst (λ xs. node_at (f_at t xs) r.node ≡ Some d0.after) (sym (append-nil after)) there;
    state = subst (State t whole c u quiet d0.after) (sym answers_are) (subst (λ (d : TurnDraft). State t whole c u quiet d.after (answers_of m d.ended)) (sym (call.draft_is t whole c u.goes_on)) (state_first t whole c u quiet));
  }
    where
      there : node_at (f_at t after) r.node ≡ Some d0.after
      there = call.call_up t whole c u.whole

      answers_are : answered [] ≡ answers_of m d0.ended
      answers_are =
          append-nil (commit_answers_in t.places f0 c.call.node m first)
          ∙ (ap (λ q. if q then [] else answers_in t.places f0 c.call.node m first) (ap is_create c.asks)
          ∙ (ap (λ q. if q then [] else (if c.call.node == c.call.node then answers_of m (ended_by (outcome_at t.places f0 c.call)) else [])) u.whole
          ∙ (ap (λ q. if q then answers_of m (ended_by (outcome_at t.places f0 c.call)) else []) (eq-eqb c.call.node c.call.node refl)
          ∙ ap (λ o. answers_of m (ended_by (served (place_at t.places c.call.node) c.call.input o))) c.up)))

  -- ---- up to the end

  walk : (mid rest : List Happening) → mid ++ rest ≡ c.during → AllByRecursion IsInCourse rest → Status mid → Status c.during
  walk mid [] is all now = subst Status (sym (append-nil mid) ∙ is) now
  walk mid (happenings.Turn h ∷ rest) is all now =
      walk (mid ++ happenings.Turn h ∷ []) rest (append_assoc mid (happenings.Turn h ∷ []) rest ∙ is) all.1 (elim all.0 [ inl delivery ↦ status_next mid h rest is delivery.0 now (inl delivery) | inr create ↦ status_next mid h rest is create.0 now (inr create.1) ])
  walk mid (happenings.Begun n ∷ rest) is all now = absurd (elim all.0 [ inl never ↦ never | inr never ↦ never ])
  walk mid (happenings.Cut a b ∷ rest) is all now = absurd (elim all.0 [ inl never ↦ never | inr never ↦ never ])
  walk mid (happenings.Join a b ∷ rest) is all now = absurd (elim all.0 [ inl never ↦ never | inr never ↦ never ])
  walk mid (happenings.Lost n ∷ rest) is all now = absurd (elim all.0 [ inl never ↦ never | inr never ↦ never ])
  walk mid (happenings.Stopped n ∷ rest) is all now = absurd (elim all.0 [ inl never ↦ never | inr never ↦ never ])
  walk mid (happenings.Started n boot ∷ rest) is all now = absurd (elim all.0 [ inl never ↦ never | inr never ↦ never ])

  last : Status c.during
  last = walk [] c.during refl u.course status_first

  module _ (below : DroppedNone t c.root) (gone : HasNoRow t c.root) where
    up_end : node_at (facts_at t) r.node ≡ Some last.kept
    up_end = subst (λ xs. node_at (f_at t xs) r.node ≡ Some last.kept) (append_assoc c.before (first ∷ []) c.during ∙ c.is) last.up

    no_last : Lasts r last.kept → ⊥
    no_last (inl lives) = any_some (is_item_of live_id r) last.kept.lives lives (undisturbed_roots_leave t whole c u below last.kept up_end)
    no_last (inr row) = any_some (is_item_of kept_row_id r) last.kept.stored.durable.kept (row_there r last.kept.stored.durable.kept row) (gone last.kept up_end)

    one_answer : answered c.during ≡ commit_complete ∷ []
    one_answer = by last.state
      where
        by : State t whole c u quiet last.kept (answered c.during) → answered c.during ≡ commit_complete ∷ []
        by (Waits root call lasts none) = absurd (no_last lasts)
        by (Done free all) = all

pub undisturbed_calls_end : UndisturbedCallsEnd
undisturbed_calls_end t whole c u below quiet gone = one_answer t whole c u quiet below gone
