-- Each record of a turn may stand by the events so far, but for messages, and the live branches that are left have no exit.
use Rattle.std.proofs.Common.{◌≡◌, ◌≢◌, ℕ, ◌+◌, ◌≤◌, not, Bool, true, false, List, [], ◌∷◌, filter, length, Option, Some, None, Ok, refl, sym, ap, subst, ◌∙◌, arith}
use Rattle.std.specs.Prelude.{IfSome}
use Rattle.std.specs.List.{AllByRecursion}
use Rattle.std.proofs.lemmas.Bool.{and_parts, not-true}
use Rattle.tran_ids.proofs.ListedLemmas.{item_is}
use Rattle.tran_ids.proofs.NumberedLemmas.{set_length}
use Rattle.agreement.specs.Outcomes.{differ}
use Rattle.agreement.specs.Events.{Exit, Sealed, Decided, Event, Make, Seal, Decide, Force, Learn, Forget, first, exit_by, exit, learned, forced, Knows}
use Rattle.node_rules.specs.Data.{BranchId, Decision, State, KeptRow, Live, RedoRecord, Place, Input}
use Rattle.node_rules.specs.Data.decisions
use Rattle.node_rules.specs.Data.states
use Rattle.node_rules.specs.Data.records
use Rattle.node_rules.specs.Data.acts
use Rattle.commit_forget.specs.declared.next.Next.{Next}
use Rattle.commit_forget.specs.declared.next.Next.TheVariants as nexts
use Rattle.node_rules.specs.Words.{same, put_item, drop_item, set_numbered}
use Rattle.node_rules.specs.NodeState.{NodeState, TurnDraft, live_id, kept_row_id, with_kept_row, Branch}
use Rattle.node_rules.specs.Sessions.{session_at, with_call}
use Rattle.node_rules.specs.Statement.{ran, after_run}
use Rattle.session_tree.specs.Live.{new_edge}
use Rattle.node_rules.specs.Calls.{next_child, with_edge, hears_reply}
use Rattle.node_rules.specs.Prepare.{own_changes, ready, without_read_keys}
use Rattle.node_rules.specs.Commit.{is_mixed, knows_commit, acked_by}
use Rattle.node_rules.specs.Force.{is_sealed, is_named_by, only_one, branch_to_force}
use Rattle.node_rules.specs.Client.{new_root, begun_by, counted}
use Rattle.node_rules.specs.declared.session.PendingCall.TheVariants as pending
use Rattle.node_rules.specs.Inputs.{IsSession}
use Rattle.node_rules.proofs.Steps as steps
use Rattle.node_rules.proofs.Steps.{Step, Doing, IsKept}
use Rattle.node_rules.proofs.StandLemmas.{live_so}
use Rattle.run_base_laws.specs.RunEvents.{with_event, wrote_event}
use Rattle.run_rules.proofs.ListLemmas.{all_weaker, all_filter}
use Rattle.node_rules.proofs.StepLemmas.{IsLive, asked_live, acting_live, made_so, calling_back_live}
use Rattle.node_rules.proofs.SessionLemmas.{seqs, seq_at, session_seq, set_seqs, call_seqs, counted_seqs}
use Rattle.node_rules.specs.declared.session.Session.{Session}
use Rattle.node_rules.specs.Marks.{node_back}
use Rattle.run_base_laws.proofs.IdLemmas.{Given, Before, In_session, Over_link, seq_set}
use Rattle.run_base_laws.proofs.GivenLemmas.{begun_given, given_on}
use Rattle.run_base_laws.proofs.OwnLemmas.{all_found, all_with, all_without, all_last}
use Rattle.run_base_laws.specs.EventRows.{RowIs, RowsAre, IsKnown, IsForcedAs, MayStand}
use Rattle.run_base_laws.proofs.RowEventLemmas.{only_none, EndsSo}

-- ---- rows

-- a branch that has no exit learned nothing, and nothing was forced on it
abbrev pub IsUntaught : List Event → Type 0
IsUntaught t = (b : BranchId) → exit t b ≡ None → (learned t b ≡ None) × (forced t b ≡ None)

module _ (t : List Event) (s : KeptRow) (row : RowIs t s) where
  -- it does not know the decision
  open_row : s.decision ≡ None → (exit t s.me ≡ Some (Sealed s.scn)) × (learned t s.me ≡ None)
  open_row none = subst (IsKnown t s) none row.known

  commit_known : (d : Option Decision) → s.decision ≡ d → knows_commit d ≡ true → (n : ℕ) × Knows t s.me n
  commit_known None is knows = absurd cc
  commit_known (Some decisions.Rollback) is knows = absurd cc
  commit_known (Some (decisions.Commit n)) is knows = (n, subst (IsKnown t s) is row.known)

  unforced : s.state ≡ states.Sealed → (forced t s.me ≡ None) × (s.decision ≡ None)
  unforced is = subst (λ x. IsForcedAs t s.me x s.decision) is row.force

  -- what was forced, and whether the decision differs
  was_forced : (state : State) (d : Decision) → s.state ≡ state → state ≢ states.Sealed → state ≢ states.Committed → IsForcedAs t s.me state s.decision
      → (o : Decision) × (forced t s.me ≡ Some o) × (is_mixed state d ≡ differ o d)
  was_forced states.Sealed d is unsealed uncommitted force = absurd (unsealed refl)
  was_forced states.Committed d is unsealed uncommitted force = absurd (uncommitted refl)
  was_forced (states.ForcedCommit n) (decisions.Commit m) is unsealed uncommitted force = (decisions.Commit n, force, refl)
  was_forced (states.ForcedCommit n) decisions.Rollback is unsealed uncommitted force = (decisions.Commit n, force, refl)
  was_forced states.ForcedRollback (decisions.Commit m) is unsealed uncommitted force = (decisions.Rollback, force, refl)
  was_forced states.ForcedRollback decisions.Rollback is unsealed uncommitted force = (decisions.Rollback, force, refl)

  -- the record of what a kept branch does may stand
  abbrev NextMay : Next → Type 0
  NextMay (nexts.End d) = MayStand t (records.Ended s.me d)
  NextMay (nexts.Meet d mixed) = MayStand t (records.Met s.me d mixed)
  NextMay nexts.Forget = MayStand t (records.Forgot s.me)
  NextMay _ = Unit {0}

  pub next_may : {clock : ℕ} {input : Input} {from : BranchId} {n : Next} → Doing clock input s from n → NextMay n
  next_may (steps.Ends_so d brings toward none sealed met) = (let now = open_row none in ((s.scn, now.0), now.1, (unforced sealed).0))
  next_may (steps.Meets_so d brings toward none unsealed uncommitted met) =
      (let now = open_row none in ((s.scn, now.0), now.1, was_forced s.state d refl unsealed uncommitted row.force))
  next_may (steps.Forgets_first came knows new all site) = commit_known s.decision refl knows
  next_may (steps.Forgets_after came knows toward new) = commit_known s.decision refl knows
  next_may steps.Stays = tt
  next_may (steps.Acks_again n m came toward knows all) = tt
  next_may (steps.Acks_on came knows new all other) = tt
  next_may (steps.Has_forgotten came knows forgot) = tt

  sealed_is : (state : State) → is_sealed state ≡ true → state ≡ states.Sealed
  sealed_is states.Sealed is = refl
  sealed_is states.Committed is = absurd cc
  sealed_is (states.ForcedCommit n) is = absurd cc
  sealed_is states.ForcedRollback is = absurd cc

  -- a sealed branch may be forced
  force_may : (d : Decision) (given : Bool) → is_sealed s.state ≡ true → MayStand t (records.Forced s.me d given)
  force_may d given is =
      let none = unforced (sealed_is s.state is) in
      let now = open_row none.1 in ((s.scn, now.0), now.1, none.0)

-- a branch that is forced is that of one of these rows
one_is : (P : KeptRow → Type 0) (id : List ℕ) (ks : List KeptRow) (b : BranchId) → AllByRecursion P ks → only_one id ks ≡ Ok b → (s : KeptRow) × P s × (s.me ≡ b)
one_is P id [] b all is = absurd cc
one_is P id (s ∷ []) b all is = (s, all.0, (let it : Ok s.me ≡ Ok b = is in cc))
one_is P id (s ∷ x ∷ ks) b all is = absurd cc

module _ (t : List Event) (rows : List KeptRow) (all : RowsAre t rows) where
  forced_may : (p : Place) (id : List ℕ) (b : BranchId) (d : Decision) (given : Bool) → branch_to_force p.names rows id ≡ Ok b → MayStand t (records.Forced b d given)
  unfolding branch_to_force
  forced_may p id b d given is =
      let found = one_is (λ s. RowIs t s × (is_sealed s.state ≡ true)) id (filter (is_named_by p.names id) rows) b
      (all_filter (RowIs t) (λ s. RowIs t s × (is_sealed s.state ≡ true)) (is_named_by p.names id) (λ s passes row. (row, (and_parts (is_sealed s.state) _ passes).0)) rows all) is in
      subst (λ c. MayStand t (records.Forced c d given)) found.2 (force_may t found.0 found.1.0 d given found.1.1)

-- ---- what a node keeps

-- What a node keeps fits the events.
pub record Fits (t : List Event) (n boot : ℕ) (k : NodeState) : Type 0 where
  pub started : k.stored.durable.boot ≡ boot
  pub lives : AllByRecursion (λ l. exit t l.me ≡ None) k.lives
  pub rows : RowsAre t k.stored.durable.kept
  pub many : length (seqs k.sessions) ≡ 64
  pub told : AllByRecursion (λ l. Given boot (seqs k.sessions) (length k.opens) l.me) k.lives
  pub given : (b : BranchId) → exit t b ≢ None → b.node ≡ n → Given boot (seqs k.sessions) (length k.opens) b

module _ (t : List Event) (n boot : ℕ) (untaught : IsUntaught t) where
  -- a new id has no exit
  new_exit : (k : NodeState) (b : BranchId) → Fits t n boot k → b.node ≡ n → (Given boot (seqs k.sessions) (length k.opens) b → ⊥) → exit t b ≡ None
  new_exit k b fits here new = by (exit t b) refl
    where
      by : (o : Option Exit) → exit t b ≡ o → o ≡ None
      by None is = refl
      by (Some e) is = absurd (new (fits.given b (λ none. absurd (cc (is, none))) here))

  pub unused_root : (p : Place) (k : NodeState) (m : ℕ) → k.stored.durable.boot ≡ boot → m ≤ 64 → Given boot (seqs k.sessions) (length k.opens) (new_root p k m) → ⊥
  unused_root p k m is fit (Before old) = omega (arith, old, is)
  unused_root p k m is fit (In_session now under given) = let was : (session_at k.sessions m).seq ≡ seq_at (seqs k.sessions) m = session_seq k.sessions m in omega (arith, given, was)
  unused_root p k m is fit (Over_link now high given) = omega (arith, high, fit)

  pub unused_child : (p : Place) (k : NodeState) → k.stored.durable.boot ≡ boot → Given boot (seqs k.sessions) (length k.opens) (next_child p k) → ⊥
  unused_child p k is (Before old) = omega (arith, old, is)
  unused_child p k is (In_session now under given) = omega (arith, under)
  unused_child p k is (Over_link now high given) = omega (arith, given)

  module _ (k : NodeState) (fits : Fits t n boot k) where
    -- a live branch has no exit
    pub live_exit : (b : BranchId) → IsLive k b → exit t b ≡ None
    live_exit b live = subst (λ m. exit t m ≡ None) (item_is live_id k.lives b live.0 live.1) (all_found (λ l. exit t l.me ≡ None) live_id k.lives b live.0 fits.lives live.1)

    pub row_is : (s : KeptRow) → IsKept k s → RowIs t s
    row_is s kept = all_found (RowIs t) kept_row_id k.stored.durable.kept s.me s fits.rows kept

    seal_may : (b : BranchId) → IsLive k b → (exit t b ≡ None) × (learned t b ≡ None) × (forced t b ≡ None)
    seal_may b live = let none : exit t b ≡ None = live_exit b live in let un = untaught b none in (none, un.0, un.1)

    -- rows that heard an Ack say the same
    acked_fits : (s : KeptRow) (from : BranchId) → IsKept k s → RowsAre t (put_item kept_row_id k.stored.durable.kept (acked_by s from))
    acked_fits s from kept =
        let row : RowIs t s = row_is s kept in
        all_with (RowIs t) kept_row_id k.stored.durable.kept (acked_by s from) fits.rows (record { left = row.left; known = row.known; force = row.force; forgot = row.forgot })

  -- the node with a new transaction in a session
  begun_fits : (p : Place) (k : NodeState) (m : ℕ) (read_at : Option ℕ) → p.number ≡ n → m ≤ 64 → Fits t n boot k → AllByRecursion (λ l. exit t l.me ≡ None) (begun_by p k m read_at None).lives
  begun_fits p k m read_at is fit fits =
      all_last (λ l. exit t l.me ≡ None) live_id k.lives _ fits.lives (new_exit k (new_root p k m) fits is (unused_root p k m fits.started fit))

  pub begun_all : (p : Place) (k : NodeState) (m : ℕ) (read_at : Option ℕ) → p.number ≡ n → IsSession m → Fits t n boot k → Fits t n boot (begun_by p k m read_at None)
  begun_all p k m read_at is fit fits =
      let root : BranchId = new_root p k m in
      let set : seqs (begun_by p k m read_at None).sessions ≡ set_numbered (seqs k.sessions) m root.seq = set_seqs k.sessions m _ in
      let new : Given boot (seqs (begun_by p k m read_at None).sessions) (length k.opens) root
      = subst (λ ms. Given boot ms (length k.opens) root) (sym set)
      (In_session fits.started fit.1 (let now : seq_at (set_numbered (seqs k.sessions) m root.seq) m ≡ root.seq = seq_set (seqs k.sessions) m root.seq fit fits.many in omega (arith, now))) in
      record {
        started = fits.started;
        lives = begun_fits p k m read_at is fit.1 fits;
        rows = fits.rows;
        many = ap length set ∙ (set_length (seqs k.sessions) m root.seq ∙ fits.many);
        told = all_last (λ l. Given boot (seqs (begun_by p k m read_at None).sessions) (length k.opens) l.me) live_id k.lives _ (all_weaker _ _ (λ l given. begun_given boot l.me p k m read_at given) k.lives fits.told) new;
        given = λ b left here. begun_given boot b p k m read_at (fits.given b left here);
      }

  -- sessions change, and their numbers do not
  same_all : (k : NodeState) (ss : List Session) → seqs k.sessions ≡ seqs ss → Fits t n boot k → Fits t n boot (record k { sessions = ss })
  same_all k ss same_seqs fits = record {
    started = fits.started;
    lives = fits.lives;
    rows = fits.rows;
    many = subst (λ ms. length ms ≡ 64) same_seqs fits.many;
    told = subst (λ ms. AllByRecursion (λ l. Given boot ms (length k.opens) l.me) k.lives) same_seqs fits.told;
    given = λ b left here. subst (λ ms. Given boot ms (length k.opens) b) same_seqs (fits.given b left here);
  }

  -- a COMMIT is pending
  pub pends_all : (k : NodeState) (m : ℕ) → Fits t n boot k → Fits t n boot (record k { sessions = with_call k.sessions m pending.Commit })
  pends_all k m fits = same_all k (with_call k.sessions m pending.Commit) (sym (call_seqs k.sessions m pending.Commit)) fits

  -- a call is counted
  pub counted_all : (k : NodeState) (m : ℕ) → Fits t n boot k → Fits t n boot (counted k m)
  counted_all k m fits = same_all k (counted k m).sessions (sym (counted_seqs k.sessions m (session_at k.sessions m).root)) fits

  -- a branch goes back
  pub back_all : (k : NodeState) (x : Branch) (step : ℕ) → Fits t n boot k → Fits t n boot (node_back k x step)
  back_all k x step fits = record { started = fits.started; lives = fits.lives; rows = fits.rows; many = fits.many; told = fits.told; given = fits.given }

  -- keys are let go
  pub lets_all : (k : NodeState) (b : BranchId) → Fits t n boot k → Fits t n boot (without_read_keys k b)
  lets_all k b fits = record { started = fits.started; lives = fits.lives; rows = fits.rows; many = fits.many; told = fits.told; given = fits.given }

  -- an Ack is counted
  pub acked_all : (k : NodeState) (s : KeptRow) (from : BranchId) → IsKept k s → Fits t n boot k → Fits t n boot (with_kept_row k (acked_by s from))
  acked_all k s from kept fits = record { started = fits.started; lives = fits.lives; rows = acked_fits k fits s from kept; many = fits.many; told = fits.told; given = fits.given }

  module _ (p : Place) (input : Input) (is : p.number ≡ n) where
    -- the record of each step may stand
    pub may_on : {k : NodeState} {d : TurnDraft} → Step p input k d → Fits t n boot k → IfSome d.wrote (MayStand t)
    may_on (steps.Begins {k = k} m s read_at call begins fit none step) fits = may_on step (begun_all p k m read_at is fit fits)
    may_on (steps.Counts_call {k = k} m s call counts step) fits = may_on step (counted_all k m fits)
    may_on (steps.Goes_back {k = k} x step goes next) fits = may_on next (back_all k x step fits)
    may_on (steps.Pends {k = k} m l given call has live code writer step) fits = may_on step (pends_all k m fits)
    may_on (steps.Lets_reads_go {k = k} l comment site_below live begins step) fits = may_on step (lets_all k l.me fits)
    may_on (steps.Counts_ack {k = k} s from kept came counts step) fits = may_on step (acked_all k s from kept fits)
    may_on (steps.Acts {k = k} l site_below acts.Seal why) fits = seal_may k fits l.me (acting_live why)
    may_on (steps.Acts {k = k} l site_below (acts.SealAndPass i) why) fits = seal_may k fits l.me (acting_live why)
    may_on (steps.Acts {k = k} l site_below acts.Decide why) fits = live_exit k fits l.me (acting_live why)
    may_on (steps.Does {k = k} s from (nexts.End d) kept why) fits = next_may t s (row_is k fits s kept) why
    may_on (steps.Does {k = k} s from (nexts.Meet d mixed) kept why) fits = next_may t s (row_is k fits s kept) why
    may_on (steps.Does {k = k} s from nexts.Forget kept why) fits = next_may t s (row_is k fits s kept) why
    may_on (steps.Makes_record m s r d call makes) fits = made_so (MayStand t) (λ x. tt) (λ x. tt) (λ x. tt) (λ x. tt) makes
    may_on (steps.Forces_given {k = k} m id scn b call named) fits = forced_may t k.stored.durable.kept fits.rows p id b (decisions.Commit scn) true named
    may_on (steps.Forces_commit {k = k} m id b call named) fits = forced_may t k.stored.durable.kept fits.rows p id b (decisions.Commit (k.clock + 1)) false named
    may_on (steps.Forces_rollback {k = k} m id b call named) fits = forced_may t k.stored.durable.kept fits.rows p id b decisions.Rollback false named
    may_on (steps.Gives_up_commit m b None gives has calls live) fits = tt
    may_on _ fits = tt

    -- ---- live branches after it

    -- none of these has an exit, also with the record
    abbrev Unended : Option RedoRecord → List Live → Type 0
    Unended w ls = AllByRecursion (λ l. exit (with_event (wrote_event n w) t) l.me ≡ None) ls

    module _ (k : NodeState) (fits : Fits t n boot k) where
      changed_lives : (l : Live) → IsLive k l.me → Unended None (put_item live_id k.lives l)
      changed_lives l live = all_with (λ x. exit t x.me ≡ None) live_id k.lives l fits.lives (live_exit k fits l.me live)

      fewer_lives : (b : BranchId) → Unended None (drop_item live_id k.lives b)
      fewer_lives b = all_without (λ x. exit t x.me ≡ None) live_id k.lives b fits.lives

      -- with an event that ends none of them
      same_lives : (e : Event) → ((b : BranchId) → exit_by e b ≡ None) → AllByRecursion (λ l. exit (e ∷ t) l.me ≡ None) k.lives
      same_lives e none = all_weaker (λ l. exit t l.me ≡ None) _ (λ l is. ap (λ o. first o (exit_by e l.me)) is ∙ none l.me) k.lives fits.lives

      -- with one that ends the branch that is left out
      left_lives : (e : Event) (m : BranchId) → ((b : BranchId) → same b m ≡ false → exit_by e b ≡ None) → AllByRecursion (λ l. exit (e ∷ t) l.me ≡ None) (drop_item live_id k.lives m)
      left_lives e m none =
          all_filter (λ l. exit t l.me ≡ None) (λ l. exit (e ∷ t) l.me ≡ None) (λ l. not (same l.me m))
          (λ l passes is. ap (λ o. first o (exit_by e l.me)) is ∙ none l.me (not-true (same l.me m) passes)) k.lives fits.lives

    pub lives_on : {k : NodeState} {d : TurnDraft} → Step p input k d → Fits t n boot k → Unended d.wrote d.after.lives
    lives_on (steps.Begins {k = k} m s read_at call begins fit none step) fits = lives_on step (begun_all p k m read_at is fit fits)
    lives_on (steps.Counts_call {k = k} m s call counts step) fits = lives_on step (counted_all k m fits)
    lives_on (steps.Goes_back {k = k} x step goes next) fits = lives_on next (back_all k x step fits)
    lives_on (steps.Pends {k = k} m l given call has live code writer step) fits = lives_on step (pends_all k m fits)
    lives_on (steps.Lets_reads_go {k = k} l comment site_below live begins step) fits = lives_on step (lets_all k l.me fits)
    lives_on (steps.Counts_ack {k = k} s from kept came counts step) fits = lives_on step (acked_all k s from kept fits)
    lives_on (steps.Runs {k = k} x s given table asked way) fits = changed_lives k fits (after_run x.live (ran p k x.live.me s table)) (asked_live asked)
    lives_on (steps.Goes_nowhere {k = k} x s given r asked way) fits = changed_lives k fits x.live (asked_live asked)
    lives_on (steps.Calls {k = k} x s given i table asked way) fits = changed_lives k fits x.live (asked_live asked)
    lives_on (steps.Opens {k = k} x s given node link table asked way) fits = changed_lives k fits x.live (asked_live asked)
    lives_on (steps.Goes_on {k = k} x from strength g link opened) fits = changed_lives k fits (with_edge x (new_edge from link strength)).live (x.live, live_so k x.live.me x opened.live)
    lives_on (steps.Hears_reply {k = k} x weight count a i e answered) fits = changed_lives k fits (hears_reply x i weight count e).live (x.live, live_so k x.live.me x answered.live)
    lives_on (steps.Backs {k = k} x step from i calls next) fits = changed_lives k fits x.live (calling_back_live calls)
    lives_on (steps.Is_back {k = k} x step from calls none) fits = changed_lives k fits x.live (calling_back_live calls)
    lives_on (steps.Opens_branch {k = k} to parent edge root depth read_at came new) fits =
        all_last (λ l. exit t l.me ≡ None) live_id k.lives _ fits.lives (new_exit k (next_child p k) fits is (unused_child p k fits.started))
    lives_on (steps.Acts {k = k} l site_below acts.Rest why) fits = changed_lives k fits l (acting_live why)
    lives_on (steps.Acts {k = k} l site_below acts.AskDown why) fits = changed_lives k fits l (acting_live why)
    lives_on (steps.Acts {k = k} l site_below acts.SayReady why) fits = changed_lives k fits (ready l) (acting_live why)
    lives_on (steps.Acts {k = k} l site_below acts.SayReadOnly why) fits = fewer_lives k fits l.me
    lives_on (steps.Acts {k = k} l site_below acts.Seal why) fits = left_lives k fits (Seal l.me l.root k.clock (own_changes k l.me)) l.me (λ b other. only_none l.me b (Sealed k.clock) other)
    lives_on (steps.Acts {k = k} l site_below (acts.SealAndPass i) why) fits = left_lives k fits (Seal l.me l.root k.clock (own_changes k l.me)) l.me (λ b other. only_none l.me b (Sealed k.clock) other)
    lives_on (steps.Acts {k = k} l site_below acts.Decide why) fits = left_lives k fits (Decide l.me l.root (k.clock + 1) (own_changes k l.me)) l.me (λ b other. only_none l.me b (Decided (k.clock + 1)) other)
    lives_on (steps.Acts {k = k} l site_below acts.Finish why) fits = fewer_lives k fits l.me
    lives_on (steps.Acts {k = k} l site_below acts.Abandon why) fits = fewer_lives k fits l.me
    lives_on (steps.Drops_told {k = k} l live drops) fits = fewer_lives k fits l.me
    lives_on (steps.Drops_asked {k = k} l from live came parent) fits = fewer_lives k fits l.me
    lives_on (steps.Does {k = k} s from (nexts.End d) kept why) fits = same_lives k fits (Learn s.me d None) (λ b. refl)
    lives_on (steps.Does {k = k} s from (nexts.Meet d mixed) kept why) fits = same_lives k fits (Learn s.me d (Some mixed)) (λ b. refl)
    lives_on (steps.Does {k = k} s from nexts.Forget kept why) fits = same_lives k fits (Forget s.me) (λ b. refl)
    lives_on (steps.Makes_record {k = k} m s r d call makes) fits = made_so (λ x. Unended (Some x) k.lives) (λ x. same_lives k fits (Make n x) (λ b. refl)) (λ x. fits.lives) (λ x. fits.lives) (λ x. fits.lives) makes
    lives_on (steps.Forces_given {k = k} m id scn b call named) fits = same_lives k fits (Force b (decisions.Commit scn)) (λ c. refl)
    lives_on (steps.Forces_commit {k = k} m id b call named) fits = same_lives k fits (Force b (decisions.Commit (k.clock + 1))) (λ c. refl)
    lives_on (steps.Forces_rollback {k = k} m id b call named) fits = same_lives k fits (Force b decisions.Rollback) (λ c. refl)
    lives_on (steps.Leaves {k = k} m s d x call ends has live) fits = fewer_lives k fits x.live.me
    lives_on (steps.Sets_savepoint {k = k} m x name call has code live) fits = changed_lives k fits x.live (x.live, live_so k x.live.me x live)
    lives_on (steps.Gives_up {k = k} m x gives has calls live) fits = changed_lives k fits x.live (x.live, live_so k x.live.me x live)
    lives_on (steps.Gives_up_commit {k = k} m b (Some l) gives has calls live) fits = fewer_lives k fits l.me
    lives_on _ fits = fits.lives

    -- ---- the branch that a record ends

    abbrev GivenAfter : TurnDraft → BranchId → Type 0
    GivenAfter d b = Given boot (seqs d.after.sessions) (length d.after.opens) b

    live_told : (k : NodeState) (b : BranchId) → Fits t n boot k → IsLive k b → Given boot (seqs k.sessions) (length k.opens) b
    live_told k b fits live =
        subst (λ m. Given boot (seqs k.sessions) (length k.opens) m) (item_is live_id k.lives b live.0 live.1)
        (all_found (λ l. Given boot (seqs k.sessions) (length k.opens) l.me) live_id k.lives b live.0 fits.told live.1)

    -- was given out
    pub ended_given : {k : NodeState} {d : TurnDraft} → Step p input k d → Fits t n boot k → IfSome d.wrote (EndsSo (GivenAfter d))
    ended_given (steps.Begins {k = k} m s read_at call begins fit none step) fits = ended_given step (begun_all p k m read_at is fit fits)
    ended_given (steps.Counts_call {k = k} m s call counts step) fits = ended_given step (counted_all k m fits)
    ended_given (steps.Goes_back {k = k} x step goes next) fits = ended_given next (back_all k x step fits)
    ended_given (steps.Pends {k = k} m l given call has live code writer step) fits = ended_given step (pends_all k m fits)
    ended_given (steps.Lets_reads_go {k = k} l comment site_below live begins step) fits = ended_given step (lets_all k l.me fits)
    ended_given (steps.Counts_ack {k = k} s from kept came counts step) fits = ended_given step (acked_all k s from kept fits)
    ended_given (steps.Acts {k = k} l site_below acts.Seal why) fits = live_told k l.me fits (acting_live why)
    ended_given (steps.Acts {k = k} l site_below (acts.SealAndPass i) why) fits = live_told k l.me fits (acting_live why)
    ended_given (steps.Acts {k = k} l site_below acts.Decide why) fits = given_on boot l.me p input (steps.Acts l site_below acts.Decide why) (live_told k l.me fits (acting_live why))
    ended_given (steps.Does s from nexts.Rest kept why) fits = tt
    ended_given (steps.Makes_record m s r d call makes) fits = made_so (EndsSo _) (λ x. tt) (λ x. tt) (λ x. tt) (λ x. tt) makes
    ended_given (steps.Gives_up_commit m b None gives has calls live) fits = tt
    ended_given _ fits = tt
