-- The rows of kept branches stand as the events say: which exit, which decision was learned, what was forced, and that a
-- branch that has forgotten did.
use Rattle.std.proofs.Common.{◌≡◌, ◌≢◌, ℕ, not, Bool, true, false, List, ◌∷◌, Option, Some, None, if◌then◌else◌, refl, sym, ap, subst, ◌∙◌, inl, inr, true≢false}
use Rattle.std.proofs.lemmas.Bool.{cond_both, not-true}
use Rattle.tran_ids.proofs.BranchLemmas.{equal_from_same, same_from_equal}
use Rattle.redo_record.specs.Kept.{stands_at, ended_commit, forced_state, in_state, met_as, forgot_as, is_done, hidden_as, kept_after}
use Rattle.redo_record.specs.Durable.{durable_after}
use Rattle.redo_record.specs.Rows.{sealed_as, decided_as, has_neighbors}
use Rattle.agreement.specs.Events.{Exit, Sealed, Decided, Event, Make, Seal, Decide, Force, Learn, Forget, first, only_at, exit, learned_by, learned, forced_by, forced}
use Rattle.agreement.proofs.EventLemmas.{only_at_same}
use Rattle.node_rules.specs.Data.{Sealed as SealedRecord, Decided as DecidedRecord, BranchId, Decision, State, KeptRow, RedoRecord}
use Rattle.node_rules.specs.Data.decisions
use Rattle.node_rules.specs.Data.states
use Rattle.node_rules.specs.Data.records
use Rattle.node_rules.specs.Data.params
use Rattle.node_rules.specs.Words.{same, change_where, drop_where}
use Rattle.node_rules.specs.NodeState.{Stored}
use Rattle.node_rules.specs.Records.{applied}
use Rattle.run_base_laws.specs.RunEvents.{with_event, record_event}
use Rattle.run_base_laws.specs.EventRows.{IsKnown, IsForcedAs, RowIs, RowsAre, MayStand}
use Rattle.run_rules.proofs.ListLemmas.{all_weaker, all_filter, all_map, all_put}
use Rattle.run_base_laws.proofs.LaterLemmas.{Added, One_more, Nothing_more, exit_later, learned_later, has_later, learned_same, forced_same}

-- ---- events that come later

module _ {Q : Event → Type 0} {t r : List Event} (more : Added Q t r) where
  known_later : (s : KeptRow) (d : Option Decision) → ((e : Event) → Q e → learned_by e s.me ≡ None) → IsKnown t s d → IsKnown r s d
  known_later s None none is = (exit_later s.me (Sealed s.scn) more is.0, learned_same s.me none more ∙ is.1)
  known_later s (Some (decisions.Commit n)) none (inl is) = inl (exit_later s.me (Decided n) more is)
  known_later s (Some (decisions.Commit n)) none (inr is) = inr (learned_later s.me (decisions.Commit n) more is)
  known_later s (Some decisions.Rollback) none is = learned_later s.me decisions.Rollback more is

  force_later : (b : BranchId) (state : State) (d : Option Decision) → ((e : Event) → Q e → forced_by e b ≡ None) → IsForcedAs t b state d → IsForcedAs r b state d
  force_later b states.Sealed d none is = (forced_same b none more ∙ is.0, is.1)
  force_later b states.Committed d none is = is
  force_later b (states.ForcedCommit n) d none is = forced_same b none more ∙ is
  force_later b states.ForcedRollback d none is = forced_same b none more ∙ is

  left_later : (b : BranchId) → exit t b ≢ None → exit r b ≢ None
  left_later b left = by (exit t b) refl
    where
      by : (o : Option Exit) → exit t b ≡ o → exit r b ≢ None
      by None is = absurd (left is)
      by (Some e) is = λ none. (let now : exit r b ≡ Some e = exit_later b e more is in absurd (cc (now, none)))

  -- a row that they do not concern stands as before
  pub row_later : (s : KeptRow) → ((e : Event) → Q e → learned_by e s.me ≡ None) → ((e : Event) → Q e → forced_by e s.me ≡ None) → RowIs t s → RowIs r s
  row_later s unlearned unforced is = record {
    left = left_later s.me is.left;
    known = known_later s s.decision unlearned is.known;
    force = force_later s.me s.state s.decision unforced is.force;
    forgot = λ forgot. has_later (Forget s.me) more (is.forgot forgot);
  }

-- ---- records

-- the branch that a record ends is so
abbrev pub EndsSo : (BranchId → Type 0) → RedoRecord → Type 0
EndsSo P (records.Sealed r) = P r.me
EndsSo P (records.Decided r) = P r.me
EndsSo P _ = Unit {0}

pub same_turned : (a b : BranchId) → same a b ≡ false → same b a ≡ false
same_turned a b is = by (same b a) refl
  where
    by : (q : Bool) → same b a ≡ q → q ≡ false
    by false e = refl
    by true e = absurd (true≢false (sym (same_from_equal a b (sym (equal_from_same b a e))) ∙ is))

pub only_none : {A : Type 0} (c b : BranchId) (a : A) → same b c ≡ false → only_at c b a ≡ None
only_none c b a is = ap (λ q. if q then Some a else None) (same_turned b c is)

-- what comes first where nothing was before
pub first_new : {A : Type 0} (o p : Option A) (a : A) → o ≡ None → p ≡ Some a → first o p ≡ Some a
first_new o p a none is = ap (λ x. first x p) none ∙ is

module _ (t : List Event) (e : Event) where
  -- a row that the event does not concern
  row_next : (s : KeptRow) → learned_by e s.me ≡ None → forced_by e s.me ≡ None → RowIs t s → RowIs (e ∷ t) s
  row_next s unlearned unforced is =
      row_later {Q = λ x. x ≡ e} (One_more e refl Nothing_more) s (λ x at. subst (λ y. learned_by y s.me ≡ None) (sym at) unlearned) (λ x at. subst (λ y. forced_by y s.me ≡ None) (sym at) unforced) is

  rows_next : ((b : BranchId) → learned_by e b ≡ None) → ((b : BranchId) → forced_by e b ≡ None) → (ks : List KeptRow) → RowsAre t ks → RowsAre (e ∷ t) ks
  rows_next unlearned unforced ks all = all_weaker (RowIs t) (RowIs (e ∷ t)) (λ s is. row_next s (unlearned s.me) (unforced s.me) is) ks all

  -- the rows of its branch are changed
  rows_changed : (b : BranchId) (g : KeptRow → KeptRow) → ((x : KeptRow) → x.me ≡ b → RowIs t x → RowIs (e ∷ t) (g x))
      → ((c : BranchId) → same c b ≡ false → (learned_by e c ≡ None) × (forced_by e c ≡ None)) → (ks : List KeptRow) → RowsAre t ks → RowsAre (e ∷ t) (change_where (stands_at b) g ks)
  rows_changed b g new others ks all =
      all_map (RowIs (e ∷ t)) (λ x. if stands_at b x then g x else x) ks
      (all_weaker (RowIs t) _ (λ x is. cond_both (stands_at b x) (g x) x (RowIs (e ∷ t)) (λ here. new x (equal_from_same x.me b here) is)
      (λ other. row_next x (others x.me other).0 (others x.me other).1 is)) ks all)

  -- or are left out
  rows_left : (b : BranchId) → ((c : BranchId) → same c b ≡ false → (learned_by e c ≡ None) × (forced_by e c ≡ None)) → (ks : List KeptRow) → RowsAre t ks → RowsAre (e ∷ t) (drop_where (stands_at b) ks)
  rows_left b others ks all =
      all_filter (RowIs t) (RowIs (e ∷ t)) (λ x. not (stands_at b x)) (λ x passes is. (let other : same x.me b ≡ false = not-true (same x.me b) passes in row_next x (others x.me other).0 (others x.me other).1 is)) ks all

module _ (t : List Event) where
  learn_others : (b : BranchId) (d : Decision) (m : Option Bool) (c : BranchId) → same c b ≡ false → (learned_by (Learn b d m) c ≡ None) × (forced_by (Learn b d m) c ≡ None)
  learn_others b d m c other = (only_none b c d other, refl)

  force_others : (b : BranchId) (d : Decision) (c : BranchId) → same c b ≡ false → (learned_by (Force b d) c ≡ None) × (forced_by (Force b d) c ≡ None)
  force_others b d c other = (refl, only_none b c d other)

  pub learned_now : (b c : BranchId) (d : Decision) (m : Option Bool) → learned t b ≡ None → c ≡ b → learned (Learn b d m ∷ t) c ≡ Some d
  learned_now b c d m none me = first_new (learned t c) (only_at b c d) d (ap (learned t) me ∙ none) (only_at_same b c d (sym me))

  -- a row whose branch learns a decision
  known_now : (b : BranchId) (d : Decision) (m : Option Bool) (s : KeptRow) → learned t b ≡ None → s.me ≡ b → IsKnown (Learn b d m ∷ t) s (Some d)
  known_now b (decisions.Commit n) m s none me = inr (learned_now b s.me (decisions.Commit n) m none me)
  known_now b decisions.Rollback m s none me = learned_now b s.me decisions.Rollback m none me

  sealed_row : (r : SealedRecord) (n : ℕ) → MayStand t (records.Sealed r) → RowIs (Seal r.me r.root r.scn r.changes ∷ t) (sealed_as r)
  sealed_row r n may =
      let e : Event = Seal r.me r.root r.scn r.changes in
      let now : exit (e ∷ t) r.me ≡ Some (Sealed r.scn) = first_new (exit t r.me) (only_at r.me r.me (Sealed r.scn)) (Sealed r.scn) may.0 (only_at_same r.me r.me (Sealed r.scn) refl) in
      record {
        left = λ none. absurd (cc (now, none));
        known = (now, ap (λ o. first o None) may.1);
        force = (ap (λ o. first o None) may.2, refl);
        forgot = λ is. absurd cc;
      }

  decided_row : (r : DecidedRecord) → MayStand t (records.Decided r) → RowIs (Decide r.me r.root r.scn r.changes ∷ t) (decided_as r)
  decided_row r may =
      let e : Event = Decide r.me r.root r.scn r.changes in
      let now : exit (e ∷ t) r.me ≡ Some (Decided r.scn) = first_new (exit t r.me) (only_at r.me r.me (Decided r.scn)) (Decided r.scn) may (only_at_same r.me r.me (Decided r.scn) refl) in
      record {
        left = λ none. absurd (cc (now, none));
        known = inl now;
        force = λ none. absurd cc;
        forgot = λ is. absurd cc;
      }

  one : (e : Event) → Added (λ x. x ≡ e) t (e ∷ t)
  one e = One_more e refl Nothing_more

  ended_row : (b : BranchId) (n : ℕ) → learned t b ≡ None → (x : KeptRow) → x.me ≡ b → RowIs t x → RowIs (Learn b (decisions.Commit n) None ∷ t) (ended_commit n x)
  ended_row b n none x me is = record {
    left = left_later (one (Learn b (decisions.Commit n) None)) x.me is.left;
    known = known_now b (decisions.Commit n) None x none me;
    force = λ no. absurd cc;
    forgot = λ forgot. inr (is.forgot forgot);
  }

  forced_as : (b : BranchId) (d : Decision) → forced t b ≡ None → (x : KeptRow) (o : Option Decision) → x.me ≡ b → IsForcedAs (Force b d ∷ t) x.me (forced_state d) o
  forced_as b (decisions.Commit n) none x o me = first_new (forced t x.me) (only_at b x.me (decisions.Commit n)) (decisions.Commit n) (ap (forced t) me ∙ none) (only_at_same b x.me (decisions.Commit n) (sym me))
  forced_as b decisions.Rollback none x o me = first_new (forced t x.me) (only_at b x.me decisions.Rollback) decisions.Rollback (ap (forced t) me ∙ none) (only_at_same b x.me decisions.Rollback (sym me))

  forced_row : (b : BranchId) (d : Decision) → forced t b ≡ None → (x : KeptRow) → x.me ≡ b → RowIs t x → RowIs (Force b d ∷ t) (in_state (forced_state d) x)
  forced_row b d none x me is = record {
    left = left_later (one (Force b d)) x.me is.left;
    known = known_later (one (Force b d)) x x.decision (λ e at. subst (λ y. learned_by y x.me ≡ None) (sym at) refl) is.known;
    force = forced_as b d none x x.decision me;
    forgot = λ forgot. inr (is.forgot forgot);
  }

  -- a forced branch stays forced so
  met_as_forced : (b : BranchId) (d : Decision) (m : Option Bool) (o : Decision) (state : State) (old : Option Decision) (x : KeptRow) → x.me ≡ b → forced t b ≡ Some o → IsForcedAs t x.me state old
      → IsForcedAs (Learn b d m ∷ t) x.me state (Some d)
  met_as_forced b d m o states.Sealed old x me was is = let no : None ≡ Some o = sym is.0 ∙ (ap (forced t) me ∙ was) in absurd cc
  met_as_forced b d m o states.Committed old x me was is = λ none. absurd cc
  met_as_forced b d m o (states.ForcedCommit n) old x me was is = ap (λ p. first p None) is
  met_as_forced b d m o states.ForcedRollback old x me was is = ap (λ p. first p None) is

  met_row : (b : BranchId) (d : Decision) (mixed : Bool) (o : Decision) → learned t b ≡ None → forced t b ≡ Some o → (x : KeptRow) → x.me ≡ b → RowIs t x → RowIs (Learn b d (Some mixed) ∷ t) (met_as d mixed x)
  met_row b d mixed o none was x me is = record {
    left = left_later (one (Learn b d (Some mixed))) x.me is.left;
    known = known_now b d (Some mixed) x none me;
    force = met_as_forced b d (Some mixed) o x.state x.decision x me was is.force;
    forgot = λ forgot. inr (is.forgot forgot);
  }

  forgot_row : (b : BranchId) (x : KeptRow) → x.me ≡ b → RowIs t x → RowIs (Forget b ∷ t) (forgot_as x)
  forgot_row b x me is =
      let next : RowIs (Forget b ∷ t) x = row_next t (Forget b) x refl refl is in
      record { left = next.left; known = next.known; force = next.force; forgot = λ forgot. inl (ap Forget (sym me)) }

  -- the rows after a record whose event may stand
  pub rows_with : (n : ℕ) (ks : List KeptRow) (r : RedoRecord) → MayStand t r → RowsAre t ks → RowsAre (with_event (record_event n r) t) (kept_after ks r)
  unfolding kept_after
  rows_with n ks (records.Sealed r) may all =
      let e : Event = Seal r.me r.root r.scn r.changes in all_put (RowIs (e ∷ t)) (λ y. y.me) ks (sealed_as r) (rows_next t e (λ b. refl) (λ b. refl) ks all) (sealed_row r n may)
  rows_with n ks (records.Decided r) may all =
      let e : Event = Decide r.me r.root r.scn r.changes in
      let old : RowsAre (e ∷ t) ks = rows_next t e (λ b. refl) (λ b. refl) ks all in
      cond_both (has_neighbors (decided_as r)) _ _ (RowsAre (e ∷ t)) (λ kept. all_put (RowIs (e ∷ t)) (λ y. y.me) ks (decided_as r) old (decided_row r may)) (λ alone. old)
  rows_with n ks (records.Ended b (decisions.Commit m)) may all = rows_changed t (Learn b (decisions.Commit m) None) b (ended_commit m) (ended_row b m may.1) (learn_others b (decisions.Commit m) None) ks all
  rows_with n ks (records.Ended b decisions.Rollback) may all = rows_left t (Learn b decisions.Rollback None) b (learn_others b decisions.Rollback None) ks all
  rows_with n ks (records.Forced b d given) may all = rows_changed t (Force b d) b (in_state (forced_state d)) (forced_row b d may.2) (force_others b d) ks all
  rows_with n ks (records.Met b d true) may all = rows_changed t (Learn b d (Some true)) b (met_as d true) (met_row b d true may.2.0 may.1 may.2.1) (learn_others b d (Some true)) ks all
  rows_with n ks (records.Met b (decisions.Commit m) false) may all =
      rows_changed t (Learn b (decisions.Commit m) (Some false)) b (met_as (decisions.Commit m) false) (met_row b (decisions.Commit m) false may.2.0 may.1 may.2.1) (learn_others b (decisions.Commit m) (Some false)) ks all
  rows_with n ks (records.Met b decisions.Rollback false) may all = rows_left t (Learn b decisions.Rollback (Some false)) b (learn_others b decisions.Rollback (Some false)) ks all
  rows_with n ks (records.Forgot b) may all =
      rows_changed t (Forget b) b forgot_as (forgot_row b) (λ c other. (refl, refl)) (drop_where (is_done b) ks) (all_filter (RowIs t) (RowIs t) (λ x. not (is_done b x)) (λ x passes is. is) ks all)
  rows_with n ks (records.Hidden b) may all =
      all_map (RowIs t) (λ x. if stands_at b x then hidden_as x else x) ks
      (all_weaker (RowIs t) _ (λ x is. cond_both (stands_at b x) (hidden_as x) x (RowIs t) (λ here. record { left = is.left; known = is.known; force = is.force; forgot = is.forgot }) (λ other. is)) ks all)
  rows_with n ks (records.Table table) may all = rows_next t (Make n table) (λ b. refl) (λ b. refl) ks all
  rows_with n ks _ may all = all

  -- the same of all that is stored
  pub rows_stored_with : (n : ℕ) (s : Stored) (r : RedoRecord) → MayStand t r → RowsAre t s.durable.kept → RowsAre (with_event (record_event n r) t) (applied s r).durable.kept
  unfolding applied durable_after
  rows_stored_with n s (records.Boot m) may all = all
  rows_stored_with n s (records.Table table) may all = rows_next t (Make n table) (λ b. refl) (λ b. refl) s.durable.kept all
  rows_stored_with n s (records.Link l) may all = all
  rows_stored_with n s (records.Synonym y) may all = all
  rows_stored_with n s (records.Param (params.Recovery on)) may all = all
  rows_stored_with n s (records.Param (params.Strength strength)) may all = all
  rows_stored_with n s r may all = rows_with n s.durable.kept r may all

  -- a start leaves the rows
  pub rows_booted : (s : Stored) (boot : ℕ) → RowsAre t s.durable.kept → RowsAre t (applied s (records.Boot boot)).durable.kept
  unfolding applied durable_after
  rows_booted s boot all = all
