-- Each step of a turn leaves the ids of branches their own, and so does each turn.
use Rattle.std.proofs.Common.{◌≡◌, ℕ, ◌+◌, ◌≤◌, true, false, List, [], length, Option, Some, None, refl, sym, subst, ◌∙◌, arith}
use Rattle.std.proofs.lemmas.List.{length-append}
use Rattle.tran_ids.proofs.NumberedLemmas.{set_length}
use Rattle.redo_record.specs.Kept.{kept_after}
use Rattle.redo_record.specs.Durable.{durable_after}
use Rattle.redo_record.specs.Rows.{sealed_as, decided_as}
use Rattle.node_rules.specs.Data.{BranchId, RedoRecord, KeptRow, Sealed, Live, Place, Input}
use Rattle.node_rules.specs.Data.acts
use Rattle.node_rules.specs.Data.decisions
use Rattle.node_rules.specs.Data.records
use Rattle.node_rules.specs.Data.inputs
use Rattle.node_rules.specs.declared.session.PendingCall.TheVariants as pending
use Rattle.node_rules.specs.declared.session.Session.{Session}
use Rattle.commit_forget.specs.declared.next.Next.TheVariants as nexts
use Rattle.session_tree.specs.Live.{new_edge}
use Rattle.node_rules.specs.Words.{is_item_of, put_item, drop_item, set_numbered}
use Rattle.node_rules.specs.Refusals.{dtx}
use Rattle.node_rules.specs.NodeState.{NodeState, TurnDraft, live_id, kept_row_id, live_at}
use Rattle.node_rules.specs.Records.{applied, doubt_over, stored_by}
use Rattle.node_rules.specs.Sessions.{session_at, with_call, with_root, no_transaction}
use Rattle.node_rules.specs.Statement.{ran, after_run}
use Rattle.node_rules.specs.Calls.{with_edge, hears_reply, heard_sessions, next_child, opens_branch}
use Rattle.node_rules.specs.Prepare.{is_alone, ready, own_changes, sealed_of, decided_of, sealed_record, decided_record}
use Rattle.node_rules.specs.Commit.{acked_by}
use Rattle.node_rules.specs.Client.{new_root, begun_by, counted}
use Rattle.node_rules.specs.Inputs.{IsSession}
use Rattle.node_rules.specs.Turn.{heard, turn_of, start_of}
use Rattle.node_rules.proofs.Steps as steps
use Rattle.node_rules.proofs.Steps.{Step, IsKept}
use Rattle.node_rules.proofs.StandLemmas.{live_so}
use Rattle.node_rules.proofs.StepLemmas.{IsLive, asked_live, acting_live, made_so, calling_back_live}
use Rattle.node_rules.proofs.SessionLemmas.{seqs, session_seq, set_seqs, call_seqs, needs_seqs, ended_seqs, pends_seqs, answered_seqs, heard_seqs, decided_seqs, abandoned_seqs, ended_if_seqs, still_seqs, counted_seqs}
use Rattle.node_rules.proofs.TurnLemmas.{step_of}
use Rattle.node_rules.specs.Images.{image_at}
use Rattle.node_ready_laws.specs.Ids.{last_seq, IsGiven, Before_start, In_session, Over_link, IsUnkept, IdsAreApart, HasOwnIds, IdsStay, NoIdsAtFirst, LivesAreFree, NewIdsAreNew}
use Rattle.node_ready_laws.proofs.ListLemmas.{all_put, all_found, new_id}
use Rattle.node_ready_laws.proofs.GivenLemmas.{seqs_rise, seq_set}
use Rattle.node_ready_laws.proofs.ApartLemmas.{live_given, live_free, unused, changed, left, grown, fewer, decided, sealed}
use Rattle.node_ready_laws.proofs.RecordIdLemmas.{AddsNone, apart_after}

module _ (k : NodeState) (now : HasOwnIds k) where
  -- with sessions whose numbers are the same
  pub still : (ss : List Session) → seqs ss ≡ seqs k.sessions → IdsAreApart k.stored.durable.boot (seqs ss) (length k.opens) k.lives k.stored.durable.kept k.stored.doubts
  still ss numbers = subst (λ ms. IdsAreApart k.stored.durable.boot ms (length k.opens) k.lives k.stored.durable.kept k.stored.doubts) (sym numbers) now

  module _ (ss : List Session) (numbers : seqs ss ≡ seqs k.sessions) where
    -- with a live branch changed
    with_changed : (l : Live) → IsLive k l.me → IdsAreApart k.stored.durable.boot (seqs ss) (length k.opens) (put_item live_id k.lives l) k.stored.durable.kept k.stored.doubts
    with_changed l live =
        let here = still ss numbers in
        changed k.stored.durable.boot (seqs ss) (length k.opens) k.lives k.stored.durable.kept k.stored.doubts here l
        (live_given k.stored.durable.boot (seqs ss) (length k.opens) k.lives k.stored.durable.kept k.stored.doubts here l.me live.0 live.1)
        (live_free k.stored.durable.boot (seqs ss) (length k.opens) k.lives k.stored.durable.kept k.stored.doubts here l.me live.0 live.1)

    -- without one
    without_live : (b : BranchId) → IdsAreApart k.stored.durable.boot (seqs ss) (length k.opens) (drop_item live_id k.lives b) k.stored.durable.kept k.stored.doubts
    without_live b = left k.stored.durable.boot (seqs ss) (length k.opens) k.lives k.stored.durable.kept k.stored.doubts (still ss numbers) b

    -- with a record by which no branch is kept
    recorded : (r : RedoRecord) → AddsNone r → IdsAreApart (applied k.stored r).durable.boot (seqs ss) (length k.opens) k.lives (applied k.stored r).durable.kept (applied k.stored r).doubts
    recorded r none = apart_after k.stored (seqs ss) (length k.opens) k.lives r none (still ss numbers)

    -- a live branch is sealed
    with_sealed : (l : Live) (path : Option ℕ) → IsLive k l.me
        → IdsAreApart (applied k.stored (sealed_record k l path)).durable.boot (seqs ss) (length k.opens) (drop_item live_id k.lives l.me) (applied k.stored (sealed_record k l path)).durable.kept (applied k.stored (sealed_record k l path)).doubts
    unfolding applied durable_after kept_after
    with_sealed l path live =
        let here = still ss numbers in
        let r : Sealed = sealed_of k.clock l (own_changes k l.me) path in
        sealed k.stored.durable.boot (seqs ss) (length k.opens) k.lives k.stored.durable.kept k.stored.doubts here (sealed_as r)
        (live_given k.stored.durable.boot (seqs ss) (length k.opens) k.lives k.stored.durable.kept k.stored.doubts here l.me live.0 live.1) (doubt_over k.stored.rows r) refl

    -- or decides
    with_decided : (l : Live) → IsLive k l.me
        → IdsAreApart (applied k.stored (decided_record k l)).durable.boot (seqs ss) (length k.opens) (drop_item live_id k.lives l.me) (applied k.stored (decided_record k l)).durable.kept (applied k.stored (decided_record k l)).doubts
    unfolding applied durable_after kept_after
    with_decided l live =
        let here = still ss numbers in
        decided k.stored.durable.boot (seqs ss) (length k.opens) k.lives k.stored.durable.kept k.stored.doubts here (decided_as (decided_of (k.clock + 1) l (own_changes k l.me)))
        (live_given k.stored.durable.boot (seqs ss) (length k.opens) k.lives k.stored.durable.kept k.stored.doubts here l.me live.0 live.1)

  -- an Ack is noted
  pub with_ack : (s : KeptRow) (from : BranchId) → IsKept k s → IdsAreApart k.stored.durable.boot (seqs k.sessions) (length k.opens) k.lives (put_item kept_row_id k.stored.durable.kept (acked_by s from)) k.stored.doubts
  with_ack s from kept =
      fewer k.stored.durable.boot (seqs k.sessions) (length k.opens) k.lives k.stored.durable.kept k.stored.doubts now (put_item kept_row_id k.stored.durable.kept (acked_by s from)) k.stored.doubts
      (λ P all. all_put (λ x. P x.me) kept_row_id k.stored.durable.kept (acked_by s from) all (all_found (λ x. P x.me) (is_item_of kept_row_id s.me) k.stored.durable.kept s all kept)) (λ P all. all)

  -- ---- new ids

  root_is_new : (p : Place) (n : ℕ) → n ≤ 64 → IsGiven k.stored.durable.boot (seqs k.sessions) (length k.opens) (new_root p k n) → ⊥
  root_is_new p n fit (Before_start old) = omega (arith, old)
  root_is_new p n fit (In_session same_start under given) = let was : (session_at k.sessions n).seq ≡ last_seq (seqs k.sessions) n = session_seq k.sessions n in omega (arith, given, was)
  root_is_new p n fit (Over_link same_start high given) = omega (arith, high, fit)

  child_is_new : (p : Place) → IsGiven k.stored.durable.boot (seqs k.sessions) (length k.opens) (next_child p k) → ⊥
  child_is_new p (Before_start old) = omega (arith, old)
  child_is_new p (In_session same_start under given) = omega (arith, under)
  child_is_new p (Over_link same_start high given) = omega (arith, given)

  -- the root of a session, of the next number
  pub begun_ids : (p : Place) (n : ℕ) (read_at : Option ℕ) → IsSession n → HasOwnIds (begun_by p k n read_at None)
  begun_ids p n read_at fit =
      let root : BranchId = new_root p k n in
      let set : seqs (with_root k.sessions n root) ≡ set_numbered (seqs k.sessions) n root.seq = set_seqs k.sessions n _ in
      let was : (session_at k.sessions n).seq ≡ last_seq (seqs k.sessions) n = session_seq k.sessions n in
      subst (λ ms. IdsAreApart k.stored.durable.boot ms (length k.opens) (begun_by p k n read_at None).lives k.stored.durable.kept k.stored.doubts) (sym set)
      (grown k.stored.durable.boot (seqs k.sessions) (length k.opens) k.lives k.stored.durable.kept k.stored.doubts now (set_numbered (seqs k.sessions) n root.seq) (length k.opens) _
      (set_length (seqs k.sessions) n root.seq ∙ now.sessions) (seqs_rise (seqs k.sessions) n root.seq (omega (arith, was))) (omega arith) (root_is_new p n fit.1)
      (In_session refl fit.1 (let is : last_seq (set_numbered (seqs k.sessions) n root.seq) n ≡ root.seq = seq_set (seqs k.sessions) n root.seq fit now.sessions in omega (arith, is))))

  -- a branch that is opened over a link, of the next session above 64
  opened_ids : (p : Place) (parent : BranchId) (edge : ℕ) (root : BranchId) (depth : ℕ) (read_at : Option ℕ) → HasOwnIds (opens_branch p k parent edge root depth read_at)
  opened_ids p parent edge root depth read_at =
      let more : length (opens_branch p k parent edge root depth read_at).opens ≡ length k.opens + 1 = length-append k.opens _ in
      grown k.stored.durable.boot (seqs k.sessions) (length k.opens) k.lives k.stored.durable.kept k.stored.doubts now (seqs k.sessions) (length (opens_branch p k parent edge root depth read_at).opens) _
      now.sessions (λ n. omega arith) (omega (arith, more)) (child_is_new p) (Over_link refl (omega arith) (omega (arith, more)))

  new_ids : (p : Place) → ((live_at k (next_child p k) ≡ None) × IsUnkept k.stored.durable.kept k.stored.doubts (next_child p k)) × ((n : ℕ) → IsSession n → (live_at k (new_root p k n) ≡ None) × IsUnkept k.stored.durable.kept k.stored.doubts (new_root p k n))
  new_ids p =
      let free : (b : BranchId) → (IsGiven k.stored.durable.boot (seqs k.sessions) (length k.opens) b → ⊥) → (live_at k b ≡ None) × IsUnkept k.stored.durable.kept k.stored.doubts b
      = λ b new. (new_id live_id b (IsGiven k.stored.durable.boot (seqs k.sessions) (length k.opens)) k.lives now.live_given new, unused k.stored.durable.boot (seqs k.sessions) (length k.opens) k.lives k.stored.durable.kept k.stored.doubts now b new) in
      (free (next_child p k) (child_is_new p), λ n fit. free (new_root p k n) (root_is_new p n fit.1))

-- each step leaves them so
pub ids_on : (p : Place) (input : Input) {k : NodeState} {d : TurnDraft} → Step p input k d → HasOwnIds k → HasOwnIds d.after
ids_on p input (steps.Begins {k = k} n s read_at call begins fit none step) now = ids_on p input step (begun_ids k now p n read_at fit)
ids_on p input (steps.Counts_call {k = k} n s call counts step) now = ids_on p input step (still k now (counted k n).sessions (counted_seqs k.sessions n (session_at k.sessions n).root))
ids_on p input (steps.Goes_back x step goes next) now = ids_on p input next now
ids_on p input (steps.Pends {k = k} n l given call has live code writer step) now = ids_on p input step (still k now (with_call k.sessions n pending.Commit) (call_seqs k.sessions n pending.Commit))
ids_on p input (steps.Lets_reads_go l comment site_below live begins step) now = ids_on p input step now
ids_on p input (steps.Counts_ack {k = k} s from kept came counts step) now = ids_on p input step (with_ack k now s from kept)
ids_on p input (steps.Runs {k = k} x s given t asked way) now =
    let l : Live = after_run x.live (ran p k x.live.me s t) in
    with_changed k now _ (answered_seqs k.sessions l x.live.parent) l (asked_live asked)
ids_on p input (steps.Goes_nowhere {k = k} x s given r asked way) now = with_changed k now _ (answered_seqs k.sessions x.live x.live.parent) x.live (asked_live asked)
ids_on p input (steps.Calls {k = k} x s given i table asked way) now = with_changed k now _ (pends_seqs k.sessions x.live) x.live (asked_live asked)
ids_on p input (steps.Opens {k = k} x s given node link table asked way) now = with_changed k now _ (pends_seqs k.sessions x.live) x.live (asked_live asked)
ids_on p input (steps.Goes_on {k = k} x from strength g link opened) now =
    let l : Live = (with_edge x (new_edge from link strength)).live in
    with_changed k now _ (pends_seqs k.sessions l) l (x.live, live_so k x.live.me x opened.live)
ids_on p input (steps.Hears_reply {k = k} x weight count a i e answered) now =
    let l : Live = (hears_reply x i weight count e).live in
    let ss : List Session = heard_sessions k.sessions l a in
    with_changed k now _ (answered_seqs ss l x.live.parent ∙ heard_seqs k.sessions l a) l (x.live, live_so k x.live.me x answered.live)
ids_on p input (steps.Backs {k = k} x step from i calls next) now = with_changed k now _ (pends_seqs k.sessions x.live) x.live (calling_back_live calls)
ids_on p input (steps.Is_back {k = k} x step from calls none) now = with_changed k now _ (answered_seqs k.sessions x.live x.live.parent) x.live (calling_back_live calls)
ids_on p input (steps.Opens_branch {k = k} to parent edge root depth read_at came new) now = opened_ids k now p parent edge root depth read_at
ids_on p input (steps.Acts {k = k} l site_below acts.Rest why) now = with_changed k now k.sessions refl l (acting_live why)
ids_on p input (steps.Acts {k = k} l site_below acts.AskDown why) now = with_changed k now k.sessions refl l (acting_live why)
ids_on p input (steps.Acts {k = k} l site_below acts.SayReady why) now = with_changed k now k.sessions refl (ready l) (acting_live why)
ids_on p input (steps.Acts {k = k} l site_below acts.SayReadOnly why) now = without_live k now k.sessions refl l.me
ids_on p input (steps.Acts {k = k} l site_below acts.Seal why) now = with_sealed k now k.sessions refl l None (acting_live why)
ids_on p input (steps.Acts {k = k} l site_below (acts.SealAndPass i) why) now = with_sealed k now k.sessions refl l (Some i) (acting_live why)
ids_on p input (steps.Acts {k = k} l site_below acts.Decide why) now = with_decided k now _ (ended_if_seqs k.sessions (is_alone l) l.me) l (acting_live why)
ids_on p input (steps.Acts {k = k} l site_below acts.Finish why) now = without_live k now _ (ended_seqs k.sessions l.me) l.me
ids_on p input (steps.Acts {k = k} l site_below acts.Abandon why) now = without_live k now _ (abandoned_seqs k.sessions l l.parent) l.me
ids_on p input (steps.Drops_told {k = k} l live drops) now = without_live k now k.sessions refl l.me
ids_on p input (steps.Drops_asked {k = k} l from live came parent) now = without_live k now k.sessions refl l.me
ids_on p input (steps.Does {k = k} s from (nexts.End d) kept why) now = recorded k now _ (decided_seqs k.sessions s.me d) (records.Ended s.me d) tt
ids_on p input (steps.Does {k = k} s from (nexts.Meet d mixed) kept why) now = recorded k now _ (decided_seqs k.sessions s.me d) (records.Met s.me d mixed) tt
ids_on p input (steps.Does {k = k} s from nexts.Forget kept why) now = recorded k now _ (ended_seqs k.sessions s.me) (records.Forgot s.me) tt
ids_on p input (steps.Does s from nexts.Rest kept why) now = now
ids_on p input (steps.Does s from nexts.AckToward kept why) now = now
ids_on p input (steps.Does s from nexts.SayForgotten kept why) now = now
ids_on p input (steps.Does s from nexts.SayAck kept why) now = now
ids_on p input (steps.Makes_record {k = k} n s r d call makes) now = recorded k now k.sessions refl r (made_so AddsNone (λ t. tt) (λ l. tt) (λ y. tt) (λ setting. tt) makes)
ids_on p input (steps.Forces_given {k = k} n id m b call named) now = recorded k now _ (ended_seqs k.sessions b) (records.Forced b (decisions.Commit m) true) tt
ids_on p input (steps.Forces_commit {k = k} n id b call named) now = recorded k now _ (ended_seqs k.sessions b) (records.Forced b (decisions.Commit (k.clock + 1)) false) tt
ids_on p input (steps.Forces_rollback {k = k} n id b call named) now = recorded k now _ (ended_seqs k.sessions b) (records.Forced b decisions.Rollback false) tt
ids_on p input (steps.Hides {k = k} n mixed id s call found) now = recorded k now k.sessions refl (records.Hidden s.me) tt
ids_on p input (steps.Advises {k = k} n a call) now = still k now _ (still_seqs k.sessions n (record (session_at k.sessions n) { advice = a }) refl)
ids_on p input (steps.Leaves {k = k} n s d x call ends has live) now = without_live k now _ (still_seqs k.sessions n (no_transaction (session_at k.sessions n)) refl) x.live.me
ids_on p input (steps.Sets_savepoint {k = k} n x name call has code live) now = with_changed k now k.sessions refl x.live (x.live, live_so k x.live.me x live)
ids_on p input (steps.Images {k = k} checkpoint) now = recorded k now k.sessions refl (records.Image (image_at k.stored k.clock)) tt
ids_on p input (steps.Gives_up {k = k} n x gives has calls live) now =
    with_changed k now _ (needs_seqs (with_call k.sessions n pending.NoCall) n (dtx 3 []).code ∙ call_seqs k.sessions n pending.NoCall) x.live (x.live, live_so k x.live.me x live)
ids_on p input (steps.Gives_up_commit {k = k} n b (Some l) gives has calls live) now = without_live k now _ (ended_seqs k.sessions l.me) l.me
ids_on p input (steps.Gives_up_commit {k = k} n b None gives has calls gone) now = still k now _ (ended_seqs k.sessions b)
ids_on p input _ now = now

pub ids_heard : (k : NodeState) (input : Input) → HasOwnIds k → HasOwnIds (heard k input)
ids_heard k (inputs.Message m) now = now
ids_heard k _ now = now

pub ids_stay : IdsStay
unfolding turn_of
ids_stay p k input fit now = ids_on p input (step_of p k input fit) (ids_heard k input now)

pub no_ids_at_first : NoIdsAtFirst
unfolding start_of applied durable_after stored_by
no_ids_at_first = record { sessions = refl; live_given = tt; kept_given = tt; doubts_given = tt; free = tt }

pub lives_are_free : LivesAreFree
lives_are_free k b l now live = live_free k.stored.durable.boot (seqs k.sessions) (length k.opens) k.lives k.stored.durable.kept k.stored.doubts now b l live

pub new_ids_are_new : NewIdsAreNew
new_ids_are_new p k now = new_ids k now p
