-- A turn to which one of these causes comes ends the COMMIT of its root, where it is pending, with the answer of that cause.
use Rattle.std.proofs.Common.{◌≡◌, ℕ, ◌+◌, ◌++◌, ◌&&◌, ◌⊎◌, not, Bool, true, false, if◌then◌else◌, List, [], ◌∷◌, Option, Some, None, inl, inr, refl, sym, ap, subst, ◌∙◌}
use Rattle.std.specs.Prelude.{Result, Ok, Err}
use Rattle.std.proofs.lemmas.Bool.{and_from, or_left}
use Rattle.tran_ids.proofs.BranchLemmas.{equal_from_same, same_from_equal}
use Rattle.tran_ids.proofs.ListedLemmas.{item_is}
use Rattle.agreement.specs.BookOf.{entry_by, book_of}
use Rattle.agreement.specs.Events as exits
use Rattle.agreement.specs.Events.{Event, Learn, Knows, exit, learned, learned_by, site_of}
use Rattle.agreement.proofs.BookTests.{shows, none_with}
use Rattle.agreement.proofs.EventLemmas.{first_none}
use Rattle.session_tree.specs.Live.{is_branch}
use Rattle.node_rules.specs.Data.{Answer, BranchId, Decision, Input, KeptRow, Kind, Live, Place, Refusal}
use Rattle.node_rules.specs.Data.decisions
use Rattle.node_rules.specs.Data.inputs
use Rattle.node_rules.specs.Data.kinds
use Rattle.node_rules.specs.Data.nexts
use Rattle.node_rules.specs.Data.records
use Rattle.node_rules.specs.Data.states
use Rattle.node_rules.specs.Data.stmts
use Rattle.node_rules.specs.declared.session.Finished.{Finished}
use Rattle.node_rules.specs.declared.session.PendingCall.TheVariants as pending
use Rattle.node_rules.specs.declared.session.Session.{Session}
use Rattle.node_rules.specs.Client.{commit_given_up, give_up_by, given_up_code}
use Rattle.node_rules.specs.Commit.{decision_at, first_decision, knows_commit, next_on_decision, next_on_forgotten, next_turn}
use Rattle.node_rules.specs.Force.{branch_to_force, force_commit, force_rollback}
use Rattle.node_rules.specs.Inputs.{Brings, Rollback_came, Rolled_back_came}
use Rattle.node_rules.specs.NodeState.{NodeState, TurnDraft, with_work, live_id, live_at, kept_row_id, kept_row_at}
use Rattle.node_rules.specs.Sessions.{session_at, is_commit, commit_is_pending, commit_answer, commit_complete, tran_refusal}
use Rattle.node_rules.specs.Turn.{Is_kept, draft_of, heard, kept_or_gone, kind_turn, live_or, status_of, turn_of}
use Rattle.node_rules.specs.Words.{same}
use Rattle.run_rules.specs.Book.{is_sealed_of, is_decided_of, in_doubt, stands}
use Rattle.run_rules.specs.BranchRecords.{toward_at}
use Rattle.run_rules.specs.Data.{Entry, Happening, Turn}
use Rattle.run_rules.specs.Data.entries
use Rattle.run_rules.specs.Data.happenings
use Rattle.run_rules.specs.Facts.{Facts, node_at, place_at}
use Rattle.run_rules.specs.Lawful.{History, IsLawfulRun}
use Rattle.run_claims.specs.Knowledge.{ForcesSo, ForgottenByToward, HeardFromToward, IsForce}
use Rattle.run_base_laws.specs.EventRows.{IsKnown, RowIs}
use Rattle.run_base_laws.proofs.EventsStandLemmas.{nodes_are_as_events}
use Rattle.run_base_laws.proofs.OwnLemmas.{all_found}
use Rattle.book_laws.proofs.DoubtLemmas.{open_of}
use Rattle.book_laws.proofs.PlaceLemmas.{IsOne, found, finds}
use Rattle.commit_point_laws.proofs.BookEndLemmas.{run_book}
use Rattle.commit_obey_laws.proofs.SealStandLemmas.{toward_sealed}
use Rattle.commit_obey_laws.specs.ObeyLaws.{is_meeting_of}
use Rattle.tree_laws.specs.Forests.{forest_of}
use Rattle.tree_laws.proofs.FitRowLemmas.{RowFits, toward_of_forest, rows_fit}
use Rattle.tree_laws.proofs.MoreLemmas.{inv_at}
use Rattle.tree_laws.proofs.PrefixLemmas.{so_far, f_at, e_at}
use Rattle.tree_laws.proofs.TimeLemmas.{Part, part_of, part_lawful}
use Rattle.commit_answer_laws.specs.CommitCauses.{IsGivenUp, IsInDoubt, is_commit_of, is_outcome_of, is_prepared_of}
use Rattle.commit_answer_laws.specs.CommitEndLaws.{CommitPends, EndsCall}
use Rattle.commit_answer_laws.proofs.CauseBookLemmas.{commit_in_book, decided_entry_exit, decided_prepared, none_in_book, sealed_prepared}
use Rattle.commit_answer_laws.proofs.RootHoldLemmas.{Holds}
use Rattle.commit_answer_laws.proofs.RootHoldRunLemmas.{roots_hold}
use Rattle.commit_answer_laws.proofs.RowHoldLemmas.{well_row}

-- ---- what the book has

outcome_of_commit : (b : BranchId) (x : Entry) → is_commit_of b x ≡ true → is_outcome_of b x ≡ true
outcome_of_commit b (entries.Decided c g cs n) is = is
outcome_of_commit b (entries.Ended c (decisions.Commit n)) is = is
outcome_of_commit b (entries.Ended c decisions.Rollback) is = absurd cc
outcome_of_commit b (entries.Met c (decisions.Commit n) mixed) is = is
outcome_of_commit b (entries.Met c decisions.Rollback mixed) is = absurd cc
outcome_of_commit b (entries.Made m x) is = absurd cc
outcome_of_commit b (entries.Sealed c g cs n) is = absurd cc
outcome_of_commit b (entries.Forced c d) is = absurd cc

-- by such an entry a branch decided, or it learned the commit
met_or_decided : (b : BranchId) (x : Entry) → is_commit_of b x ≡ true → (is_decided_of b x ≡ true) ⊎ (is_meeting_of b x ≡ true)
met_or_decided b (entries.Decided c g cs n) is = inl is
met_or_decided b (entries.Ended c (decisions.Commit n)) is = inr is
met_or_decided b (entries.Ended c decisions.Rollback) is = absurd cc
met_or_decided b (entries.Met c (decisions.Commit n) mixed) is = inr is
met_or_decided b (entries.Met c decisions.Rollback mixed) is = absurd cc
met_or_decided b (entries.Made m x) is = absurd cc
met_or_decided b (entries.Sealed c g cs n) is = absurd cc
met_or_decided b (entries.Forced c d) is = absurd cc

apart_meeting : (s : Event) (b : BranchId) → learned_by s b ≡ None → shows (is_meeting_of b) (entry_by s) ≡ false
apart_meeting (Learn c d None) b none = by (same c b) none
  where
    by : (q : Bool) → (if q then Some d else None) ≡ None → q ≡ false
    by true is = absurd cc
    by false is = refl
apart_meeting (Learn c d (Some mixed)) b none = by (same c b) none
  where
    by : (q : Bool) → (if q then Some d else None) ≡ None → q ≡ false
    by true is = absurd cc
    by false is = refl
apart_meeting s b none = refl

unmet : (t : List Event) (b : BranchId) → learned t b ≡ None → stands (is_meeting_of b) (book_of t) ≡ false
unmet [] b none = refl
unmet (s ∷ t) b none = (let parts = first_none (learned t b) (learned_by s b) none in none_with (is_meeting_of b) s t (unmet t b parts.0) (apart_meeting s b parts.1))

-- ---- the COMMIT of a root ends

module _ (ss : List Session) (g : BranchId) (root : (session_at ss g.session).root ≡ Some g) (call : (session_at ss g.session).call ≡ pending.Commit) where
  pends : commit_is_pending ss g ≡ true
  pends = ap (λ o. is_branch g o && is_commit (session_at ss g.session).call) root ∙ (ap (λ q. q && is_commit (session_at ss g.session).call) (same_from_equal g g refl) ∙ ap is_commit call)

  pub own_ends : (a : Answer) → EndsCall (record { session = g.session; answer = a }) (commit_answer ss g a)
  own_ends a = subst (λ q. EndsCall (record { session = g.session; answer = a }) (if q then (record { session = g.session; answer = a }) ∷ [] else [])) (sym pends) (inl refl)

ends_before : (f : Finished) (xs ys : List Finished) → EndsCall f xs → EndsCall f (xs ++ ys)
ends_before f [] ys none = absurd none
ends_before f (x ∷ xs) ys (inl is) = inl is
ends_before f (x ∷ xs) ys (inr later) = inr (ends_before f xs ys later)

module _ (t : History) (whole : IsLawfulRun t) (hs : List Happening) (u : Turn) (rest : List Happening) (is : hs ++ happenings.Turn u ∷ rest ≡ t.trace) (k : NodeState) (up : node_at (f_at t hs) u.node ≡ Some k) (g : BranchId) (pending_it : CommitPends k g) where
  abbrev s0 : History
  s0 = so_far t hs

  abbrev f : Facts
  f = f_at t hs

  abbrev e : List Event
  e = e_at t hs

  abbrev place : Place
  place = place_at t.places u.node

  abbrev pub Ends : Answer → Type 0
  Ends a = EndsCall (record { session = g.session; answer = a }) (turn_of place k u.input).ended

  abbrev pub EndsBy : Answer → TurnDraft → Type 0
  EndsBy a d = EndsCall (record { session = g.session; answer = a }) d.ended

  part : Part t whole hs
  part = part_of t whole hs (happenings.Turn u) rest is

  lawful : IsLawfulRun s0
  lawful = part_lawful t whole hs part

  pub by_draft : (a : Answer) (input : Input) → u.input ≡ input → EndsBy a (draft_of place k input) → Ends a
  unfolding turn_of
  by_draft a input at ends = subst (λ i. EndsBy a (draft_of place k i)) (sym at) ends

  -- ---- how the root stands

  pub held : Holds k.lives k.stored.durable.kept g
  held = roots_hold s0 lawful u.node k up g.session g pending_it.root pending_it.call

  pub row_of : (s : KeptRow) → kept_row_at k g ≡ Some s → RowIs e s
  row_of s there = all_found (RowIs e) kept_row_id k.stored.durable.kept g s (nodes_are_as_events s0 lawful u.node k up).1 there

  pub row_me : (s : KeptRow) → kept_row_at k g ≡ Some s → s.me ≡ g
  row_me s there = item_is kept_row_id k.stored.durable.kept g s there

  pub alive : (z : Live) → live_at k g ≡ Some z → exit e g ≡ None
  alive z live = subst (λ c. exit e c ≡ None) (item_is live_id k.lives g z live) (all_found (λ (x : Live). exit e x.me ≡ None) live_id k.lives g z (nodes_are_as_events s0 lawful u.node k up).0 live)

  -- one that is neither decided nor learned the commit does not know it
  no_commit : ((n : ℕ) → exit e g ≡ Some (exits.Decided n) → ⊥) → learned e g ≡ None → stands (is_commit_of g) f.book ≡ true → ⊥
  no_commit undecided unlearned some =
      let x = found (is_commit_of g) f.book some in
      elim (met_or_decided g x.0 x.2) [
        | inl decided ↦ (let it = decided_entry_exit s0 lawful g x.0 x.1 decided in undecided it.0 it.1)
        | inr met ↦ (let yes = finds (is_meeting_of g) x.0 f.book x.1 met in
            let no : stands (is_meeting_of g) f.book ≡ false = ap (stands (is_meeting_of g)) (run_book s0) ∙ unmet e g unlearned in
            absurd (cc (yes, no)))
      ]

  unlearned_by : exit e g ≡ None → learned e g ≡ None
  unlearned_by none = by (learned e g) refl
    where
      by : (o : Option Decision) → learned e g ≡ o → learned e g ≡ None
      by None at = at
      by (Some d) at = (let sealed = (inv_at t whole hs part).learned_sealed g d at in let some = sealed.1 in absurd (cc (some, none)))

  live_knows_none : (z : Live) → live_at k g ≡ Some z → stands (is_commit_of g) f.book ≡ true → ⊥
  live_knows_none z live some = (let none = alive z live in no_commit (λ n decided. absurd (cc (decided, none))) (unlearned_by none) some)

  live_unsealed : (z : Live) → live_at k g ≡ Some z → stands (is_sealed_of g) f.book ≡ true → ⊥
  live_unsealed z live some =
      let x = found (is_sealed_of g) f.book some in
      let yes = finds (is_prepared_of g) x.0 f.book x.1 (or_left (is_sealed_of g x.0) (is_decided_of g x.0) x.2) in
      let no = none_in_book s0 lawful g (alive z live) in
      absurd (cc (yes, no))

  -- a row of a root that is in doubt
  abbrev DoubtRow : Type 0
  DoubtRow = (s : KeptRow) × (kept_row_at k g ≡ Some s) × (s.state ≡ states.Sealed) × (s.decision ≡ None)

  doubt_row : IsInDoubt f.book g → DoubtRow
  doubt_row doubt = by held
    where
      sealed : stands (is_sealed_of g) f.book ≡ true
      sealed =
          let x = found (λ c. same c g) (in_doubt f.book g.node) doubt.doubt in
          let it = open_of f.book g.node g (subst (λ c. IsOne c (in_doubt f.book g.node)) (equal_from_same x.0 g x.2) x.1) in
          finds (is_sealed_of g) (entries.Sealed g it.global it.changes it.scn) f.book it.sealed (same_from_equal g g refl)

      never : (s : KeptRow) → kept_row_at k g ≡ Some s → (n : ℕ) → s.decision ≡ Some (decisions.Commit n) → ⊥
      never s there n some =
          let knows : Knows e g n = subst (λ c. Knows e c n) (row_me s there) (subst (IsKnown e s) some (row_of s there).known) in
          let x = found (is_commit_of g) f.book (commit_in_book s0 lawful g n knows) in
          let yes = finds (is_outcome_of g) x.0 f.book x.1 (outcome_of_commit g x.0 x.2) in
          let no = doubt.unknown in
          absurd (cc (yes, no))

      by : Holds k.lives k.stored.durable.kept g → DoubtRow
      by (inl live) = absurd (live_unsealed live.0 live.1 sealed)
      by (inr kept) = well_row kept.0 kept.2 (λ at none fresh. (kept.0, kept.1, at, none)) (λ n at known fresh. absurd (never kept.0 kept.1 n known))

  -- and of one that knows the commit
  abbrev CommitRow : Type 0
  CommitRow = (s : KeptRow) × (kept_row_at k g ≡ Some s) × (n : ℕ) × (s.decision ≡ Some (decisions.Commit n)) × (s.forgot ≡ false)

  commit_row : stands (is_commit_of g) f.book ≡ true → CommitRow
  commit_row some = by held
    where
      never : (s : KeptRow) → kept_row_at k g ≡ Some s → s.decision ≡ None → ⊥
      never s there none =
          let known : IsKnown e s None = subst (IsKnown e s) none (row_of s there).known in
          let sealed : exit e g ≡ Some (exits.Sealed s.scn) = subst (λ c. exit e c ≡ Some (exits.Sealed s.scn)) (row_me s there) known.0 in
          no_commit (λ n decided. absurd (cc (decided, sealed))) (subst (λ c. learned e c ≡ None) (row_me s there) known.1) some

      by : Holds k.lives k.stored.durable.kept g → CommitRow
      by (inl live) = absurd (live_knows_none live.0 live.1 some)
      by (inr kept) = well_row kept.0 kept.2 (λ at none fresh. absurd (never kept.0 kept.1 none)) (λ n at known fresh. (kept.0, kept.1, n, known, fresh))

  not_live : (o : Option Live) → live_at k g ≡ o → ((z : Live) → live_at k g ≡ Some z → ⊥) → live_at k g ≡ None
  not_live None at never = at
  not_live (Some z) at never = absurd (never z at)

  kept_gone : (s : KeptRow) → kept_row_at k g ≡ Some s → live_at k g ≡ None
  kept_gone s there = not_live (live_at k g) refl (λ z live. (row_of s there).left (subst (λ c. exit e c ≡ None) (sym (row_me s there)) (alive z live)))

  -- ---- given up

  given_draft : (o : Option Live) → live_at k g ≡ o → draft_of place k (inputs.GiveUp g.session) ≡ commit_given_up k g o
  given_draft o at =
      ap (λ r. give_up_by k g.session r (session_at k.sessions g.session).call) pending_it.root
      ∙ (ap (λ c. give_up_by k g.session (Some g) c) pending_it.call ∙ ap (commit_given_up k g) at)

  by_given : IsGivenUp g u.input → (a : Answer) (o : Option Live) → live_at k g ≡ o → EndsBy a (commit_given_up k g o) → Ends a
  by_given given a o at ends = by_draft a (inputs.GiveUp g.session) given (subst (EndsBy a) (sym (given_draft o at)) ends)

  kept_given : IsGivenUp g u.input → (code : ℕ) → live_at k g ≡ None → given_up_code (kept_row_at k g) ≡ code → Ends (tran_refusal code g)
  kept_given given code gone is_code =
      by_given given (tran_refusal code g) None gone
      (subst (λ c. EndsCall (record { session = g.session; answer = tran_refusal code g }) (commit_answer k.sessions g (tran_refusal c g))) (sym is_code)
      (own_ends k.sessions g pending_it.root pending_it.call (tran_refusal code g)))

  pub given_early : stands (is_prepared_of g) f.book ≡ false → IsGivenUp g u.input → Ends (tran_refusal 2050 g)
  given_early none given = by held
    where
      by_knows : (n : ℕ) → Knows e g n → ⊥
      by_knows n (inl decided) = (let yes = decided_prepared s0 lawful g n decided in absurd (cc (yes, none)))
      by_knows n (inr learnt) = (let sealed = (inv_at t whole hs part).learned_sealed g (decisions.Commit n) learnt in let yes = sealed_prepared s0 lawful g sealed.0 sealed.1 in absurd (cc (yes, none)))

      sealed_row : (s : KeptRow) → kept_row_at k g ≡ Some s → s.decision ≡ None → ⊥
      sealed_row s there unknown = (let known : IsKnown e s None = subst (IsKnown e s) unknown (row_of s there).known in
          let yes = sealed_prepared s0 lawful g s.scn (subst (λ c. exit e c ≡ Some (exits.Sealed s.scn)) (row_me s there) known.0) in absurd (cc (yes, none)))

      by : Holds k.lives k.stored.durable.kept g → Ends (tran_refusal 2050 g)
      by (inl live) =
          by_given given (tran_refusal 2050 g) (Some live.0) live.1
          (subst (λ i. EndsCall (record { session = g.session; answer = tran_refusal 2050 g }) (commit_answer k.sessions i (tran_refusal 2050 g))) (sym (item_is live_id k.lives g live.0 live.1))
          (own_ends k.sessions g pending_it.root pending_it.call (tran_refusal 2050 g)))
      by (inr kept) = absurd (well_row kept.0 kept.2 (λ at unknown fresh. sealed_row kept.0 kept.1 unknown)
          (λ n at known fresh. by_knows n (subst (λ c. Knows e c n) (row_me kept.0 kept.1) (subst (IsKnown e kept.0) known (row_of kept.0 kept.1).known))))

  pub given_in_doubt : IsInDoubt f.book g → IsGivenUp g u.input → Ends (tran_refusal 2054 g)
  given_in_doubt doubt given =
      let row = doubt_row doubt in
      kept_given given 2054 (kept_gone row.0 row.1) (ap given_up_code row.1 ∙ ap (λ d. if knows_commit d then 2053 else 2054) row.3)

  pub given_committed : stands (is_commit_of g) f.book ≡ true → IsGivenUp g u.input → Ends (tran_refusal 2053 g)
  given_committed some given =
      let row = commit_row some in
      kept_given given 2053 (not_live (live_at k g) refl (λ z live. live_knows_none z live some)) (ap given_up_code row.1 ∙ ap (λ d. if knows_commit d then 2053 else 2054) row.3)

  -- ---- a message from the neighbour on the way to the site

  -- a row that came to hear it
  module _ (s : KeptRow) (there : kept_row_at k g ≡ Some s) (scn : ℕ) (kind : Kind) (from : BranchId) where
    abbrev input : Input
    input = inputs.Message (record { from = from; to = g; scn = scn; kind = kind })

    stands_kept : status_of (heard k input) g ≡ Is_kept s
    unfolding status_of
    stands_kept = ap (λ o. live_or o (kept_row_at k g)) (ap (with_work (heard k input)) (kept_gone s there)) ∙ ap kept_or_gone there

    heard_draft : (d : TurnDraft) → kind_turn place (heard k input) from g kind (Is_kept s) ≡ d → draft_of place k input ≡ d
    heard_draft d same = ap (kind_turn place (heard k input) from g kind) stands_kept ∙ same

  toward_is : (s : KeptRow) → kept_row_at k g ≡ Some s → (n : ℕ) → exit e g ≡ Some (exits.Sealed n) → (from : BranchId) → toward_at f g ≡ Some from → s.toward ≡ Some from
  toward_is s there n sealed from named = by (all_found (λ (x : KeptRow). RowFits (forest_of t) x.me x.toward) kept_row_id k.stored.durable.kept g s (rows_fit t whole hs part u.node k up) there)
    where
      by : RowFits (forest_of t) s.me s.toward → s.toward ≡ Some from
      by (inl way) = way.0 ∙ ap Some (ap (forest_of t).toward (row_me s there) ∙ toward_of_forest t whole hs part g from named)
      by (inr none) = absurd (((inv_at t whole hs part).sealed_in g n sealed).1 (subst (λ c. c ≡ site_of (forest_of t) c) (row_me s there) none.1))

  -- the rollback comes to a root in doubt
  module _ (s : KeptRow) (there : kept_row_at k g ≡ Some s) (sealed : s.state ≡ states.Sealed) (none : s.decision ≡ None) (from : BranchId) (named : toward_at f g ≡ Some from) where
    left_sealed : exit e g ≡ Some (exits.Sealed s.scn)
    left_sealed = (let known : IsKnown e s None = subst (IsKnown e s) none (row_of s there).known in subst (λ c. exit e c ≡ Some (exits.Sealed s.scn)) (row_me s there) known.0)

    back_next : next_on_decision s from decisions.Rollback ≡ nexts.End decisions.Rollback
    unfolding next_on_decision
    back_next =
        let here : is_branch from s.toward ≡ true = ap (is_branch from) (toward_is s there s.scn left_sealed from named) ∙ same_from_equal from from refl in
        ap (λ q. if q then decision_at s decisions.Rollback s.decision else nexts.Rest) here ∙ (ap (decision_at s decisions.Rollback) none ∙ ap (λ x. first_decision x decisions.Rollback) sealed)

    back_by : (scn : ℕ) (kind : Kind) → u.input ≡ inputs.Message (record { from = from; to = g; scn = scn; kind = kind })
        → kind_turn place (heard k (inputs.Message (record { from = from; to = g; scn = scn; kind = kind }))) from g kind (Is_kept s)
        ≡ next_turn (heard k (inputs.Message (record { from = from; to = g; scn = scn; kind = kind }))) s from (next_on_decision s from decisions.Rollback)
        → Ends (tran_refusal 2050 g)
    back_by scn kind at turns =
        let k0 : NodeState = heard k (inputs.Message (record { from = from; to = g; scn = scn; kind = kind })) in
        by_draft (tran_refusal 2050 g) (inputs.Message (record { from = from; to = g; scn = scn; kind = kind })) at
        (subst (EndsBy (tran_refusal 2050 g)) (sym (heard_draft s there scn kind from (next_turn k0 s from (nexts.End decisions.Rollback)) (turns ∙ ap (next_turn k0 s from) back_next)))
        (subst (λ i. EndsCall (record { session = g.session; answer = tran_refusal 2050 g }) (commit_answer k.sessions i (tran_refusal 2050 i))) (sym (row_me s there))
        (own_ends k.sessions g pending_it.root pending_it.call (tran_refusal 2050 g))))

    back_ends : Brings u.input from g decisions.Rollback → Ends (tran_refusal 2050 g)
    back_ends (Rollback_came came) = back_by came.scn kinds.Rollback came.is refl
    back_ends (Rolled_back_came came) = back_by came.scn kinds.RolledBack came.is refl

  pub rolled_back : IsInDoubt f.book g → HeardFromToward f g decisions.Rollback u.input → Ends (tran_refusal 2050 g)
  rolled_back doubt heard_it = (let row = doubt_row doubt in back_ends row.0 row.1 row.2 row.3 heard_it.0 heard_it.1 heard_it.2)

  -- Forgotten comes to a root that knows the commit
  forgets_now : (s : KeptRow) (from : BranchId) (n : ℕ) → s.decision ≡ Some (decisions.Commit n) → s.forgot ≡ false → s.toward ≡ Some from → next_on_forgotten s from ≡ nexts.Forget
  unfolding next_on_forgotten
  forgets_now s from n know fresh toward =
      ap (λ q. if q then nexts.Forget else nexts.Rest)
      (and_from (knows_commit s.decision) (is_branch from s.toward && not s.forgot) (ap knows_commit know)
      (and_from (is_branch from s.toward) (not s.forgot) (ap (is_branch from) toward ∙ same_from_equal from from refl) (ap not fresh)))

  forgot_by : (s : KeptRow) → kept_row_at k g ≡ Some s → (n : ℕ) → s.decision ≡ Some (decisions.Commit n) → s.forgot ≡ false → (from : BranchId) → toward_at f g ≡ Some from → (scn : ℕ)
      → u.input ≡ inputs.Message (record { from = from; to = g; scn = scn; kind = kinds.Forgotten }) → Ends commit_complete
  forgot_by s there n know fresh from named scn at =
      let k0 : NodeState = heard k (inputs.Message (record { from = from; to = g; scn = scn; kind = kinds.Forgotten })) in
      let sealed = toward_sealed t whole hs part g from named in
      by_draft commit_complete (inputs.Message (record { from = from; to = g; scn = scn; kind = kinds.Forgotten })) at
      (subst (EndsBy commit_complete) (sym (heard_draft s there scn kinds.Forgotten from (next_turn k0 s from nexts.Forget) (ap (next_turn k0 s from) (forgets_now s from n know fresh (toward_is s there sealed.0 sealed.1 from named)))))
      (subst (λ i. EndsCall (record { session = g.session; answer = commit_complete }) (commit_answer k.sessions i commit_complete)) (sym (row_me s there))
      (own_ends k.sessions g pending_it.root pending_it.call commit_complete)))

  pub forgotten : stands (is_commit_of g) f.book ≡ true → ForgottenByToward f g u.input → Ends commit_complete
  forgotten some heard_it = (let row = commit_row some in let came = heard_it.2 in forgot_by row.0 row.1 row.2 row.3 row.4 heard_it.0 heard_it.1 came.scn came.is)

  -- ---- an outcome is forced

  commit_forced : (m : ℕ) (scn : Option ℕ) (r : Result BranchId Refusal) (d : Decision) (given : Bool) → (force_commit k m scn r).wrote ≡ Some (records.Forced g d given) → EndsBy (tran_refusal 2054 g) (force_commit k m scn r)
  commit_forced m scn (Err x) d given is = absurd cc
  commit_forced m (Some n) (Ok b) d given is =
      let both : Some (records.Forced b (decisions.Commit n) true) ≡ Some (records.Forced g d given) = is in
      let me : b ≡ g = cc in
      ends_before (record { session = g.session; answer = tran_refusal 2054 g }) (commit_answer k.sessions b (tran_refusal 2054 b)) _
      (subst (λ i. EndsCall (record { session = g.session; answer = tran_refusal 2054 g }) (commit_answer k.sessions i (tran_refusal 2054 i))) (sym me) (own_ends k.sessions g pending_it.root pending_it.call (tran_refusal 2054 g)))
  commit_forced m None (Ok b) d given is =
      let both : Some (records.Forced b (decisions.Commit (k.clock + 1)) false) ≡ Some (records.Forced g d given) = is in
      let me : b ≡ g = cc in
      ends_before (record { session = g.session; answer = tran_refusal 2054 g }) (commit_answer k.sessions b (tran_refusal 2054 b)) _
      (subst (λ i. EndsCall (record { session = g.session; answer = tran_refusal 2054 g }) (commit_answer k.sessions i (tran_refusal 2054 i))) (sym me) (own_ends k.sessions g pending_it.root pending_it.call (tran_refusal 2054 g)))

  rollback_forced : (m : ℕ) (r : Result BranchId Refusal) (d : Decision) (given : Bool) → (force_rollback k m r).wrote ≡ Some (records.Forced g d given) → EndsBy (tran_refusal 2054 g) (force_rollback k m r)
  rollback_forced m (Err x) d given is = absurd cc
  rollback_forced m (Ok b) d given is =
      let both : Some (records.Forced b decisions.Rollback false) ≡ Some (records.Forced g d given) = is in
      let me : b ≡ g = cc in
      ends_before (record { session = g.session; answer = tran_refusal 2054 g }) (commit_answer k.sessions b (tran_refusal 2054 b)) _
      (subst (λ i. EndsCall (record { session = g.session; answer = tran_refusal 2054 g }) (commit_answer k.sessions i (tran_refusal 2054 i))) (sym me) (own_ends k.sessions g pending_it.root pending_it.call (tran_refusal 2054 g)))

  force_ends : (d : Decision) (given : Bool) (id : List ℕ) → ForcesSo k.clock id d given u.input → (draft_of place k u.input).wrote ≡ Some (records.Forced g d given) → Ends (tran_refusal 2054 g)
  force_ends (decisions.Commit n) true id call wrote =
      by_draft (tran_refusal 2054 g) (inputs.Call call.0 (Some (stmts.CommitForce id (Some n)))) call.1
      (commit_forced call.0 (Some n) (branch_to_force place.names k.stored.durable.kept id) (decisions.Commit n) true (sym (ap (λ i. (draft_of place k i).wrote) call.1) ∙ wrote))
  force_ends (decisions.Commit n) false id call wrote =
      by_draft (tran_refusal 2054 g) (inputs.Call call.0.0 (Some (stmts.CommitForce id None))) call.0.1
      (commit_forced call.0.0 None (branch_to_force place.names k.stored.durable.kept id) (decisions.Commit n) false (sym (ap (λ i. (draft_of place k i).wrote) call.0.1) ∙ wrote))
  force_ends decisions.Rollback given id call wrote =
      by_draft (tran_refusal 2054 g) (inputs.Call call.0.0 (Some (stmts.RollbackForce id))) call.0.1
      (rollback_forced call.0.0 (branch_to_force place.names k.stored.durable.kept id) decisions.Rollback given (sym (ap (λ i. (draft_of place k i).wrote) call.0.1) ∙ wrote))

  pub forced_ends : (d : Decision) (given : Bool) → u.wrote ≡ (turn_of place k u.input).wrote → u.wrote ≡ Some (records.Forced g d given) → IsForce place f k g d given u.input → Ends (tran_refusal 2054 g)
  unfolding turn_of
  forced_ends d given owed wrote force = force_ends d given force.0 force.2 (sym owed ∙ wrote)
