-- The number of the last transaction of each session: no change of a session but the begin of a transaction touches it.
use Rattle.std.proofs.Common.{◌≡◌, ℕ, zero, suc, ◌+◌, ◌&&◌, Bool, true, false, if◌then◌else◌, List, [], ◌∷◌, map, slice_get, slice_set, unwrap_or, is_none, Option, Some, None, refl, ap}
use Rattle.std.proofs.lemmas.Bool.{cond_both}
use Rattle.node_rules.specs.Data.{Answer, BranchId, Decision, Live}
use Rattle.node_rules.specs.Data.decisions
use Rattle.node_rules.specs.declared.session.PendingCall.{PendingCall}
use Rattle.node_rules.specs.declared.session.PendingCall.TheVariants as pending
use Rattle.node_rules.specs.declared.session.Session.{Session}
use Rattle.node_rules.specs.Words.{numbered, set_numbered}
use Rattle.node_rules.specs.Refusals.{dtx}
use Rattle.node_rules.specs.Sessions.{fresh_session, session_at, with_call, with_call_of, needs_rollback, no_transaction, commit_is_pending, commit_ended}
use Rattle.node_rules.specs.Calls.{call_pends, answered_sessions, heard_sessions, is_gone}
use Rattle.node_rules.specs.Prepare.{abandoned_sessions}
use Rattle.node_rules.specs.Commit.{decided_sessions}

-- the numbers of all sessions
abbrev pub seqs : List Session → List ℕ
seqs ss = map (λ s. s.seq) ss

-- the number at a session
abbrev pub seq_at : List ℕ → ℕ → ℕ
seq_at ms n = unwrap_or (numbered ms n) 0

slice_seq : (ss : List Session) (i : ℕ) → (unwrap_or (slice_get ss i) fresh_session).seq ≡ unwrap_or (slice_get (seqs ss) i) 0
slice_seq [] i = refl
slice_seq (s ∷ ss) zero = refl
slice_seq (s ∷ ss) (suc i) = slice_seq ss i

pub session_seq : (ss : List Session) (n : ℕ) → (session_at ss n).seq ≡ seq_at (seqs ss) n
session_seq ss zero = refl
session_seq ss (suc i) = slice_seq ss i

-- a session that is set
slice_seqs : (ss : List Session) (i : ℕ) (s : Session) → seqs (slice_set ss i s) ≡ slice_set (seqs ss) i s.seq
slice_seqs [] i s = refl
slice_seqs (x ∷ ss) zero s = refl
slice_seqs (x ∷ ss) (suc i) s = ap (λ ms. x.seq ∷ ms) (slice_seqs ss i s)

pub set_seqs : (ss : List Session) (n : ℕ) (s : Session) → seqs (set_numbered ss n s) ≡ set_numbered (seqs ss) n s.seq
set_seqs ss zero s = refl
set_seqs ss (suc i) s = slice_seqs ss i s

-- with the number that it has
still_slice : (ss : List Session) (i : ℕ) (s : Session) → s.seq ≡ (unwrap_or (slice_get ss i) fresh_session).seq → seqs (slice_set ss i s) ≡ seqs ss
still_slice [] i s same = refl
still_slice (x ∷ ss) zero s same = ap (λ m. m ∷ seqs ss) same
still_slice (x ∷ ss) (suc i) s same = ap (λ ms. x.seq ∷ ms) (still_slice ss i s same)

pub still_seqs : (ss : List Session) (n : ℕ) (s : Session) → s.seq ≡ (session_at ss n).seq → seqs (set_numbered ss n s) ≡ seqs ss
still_seqs ss zero s same = refl
still_seqs ss (suc i) s same = still_slice ss i s same

-- ---- each change of the sessions

module _ (ss : List Session) where
  pub call_seqs : (n : ℕ) (c : PendingCall) → seqs (with_call ss n c) ≡ seqs ss
  call_seqs n c = still_seqs ss n (record (session_at ss n) { call = c }) refl

  pub counted_seqs : (n : ℕ) (root : Option BranchId) → seqs (with_call_of ss n root) ≡ seqs ss
  counted_seqs n None = refl
  counted_seqs n (Some root) = still_seqs ss n (record (session_at ss n) { calls = (session_at ss n).calls + 1 }) refl

  pub needs_seqs : (n code : ℕ) → seqs (needs_rollback ss n code) ≡ seqs ss
  needs_seqs n code = still_seqs ss n (record (session_at ss n) { code = Some code }) refl

  pub ended_seqs : (root : BranchId) → seqs (commit_ended ss root) ≡ seqs ss
  ended_seqs root =
      cond_both (commit_is_pending ss root) (set_numbered ss root.session (no_transaction (session_at ss root.session))) ss (λ more. seqs more ≡ seqs ss)
      (λ is. still_seqs ss root.session (no_transaction (session_at ss root.session)) refl) (λ other. refl)

  pub pends_seqs : (l : Live) → seqs (call_pends ss l) ≡ seqs ss
  pends_seqs l = cond_both (is_none l.parent) (with_call ss l.me.session pending.Statement) ss (λ more. seqs more ≡ seqs ss) (λ root. call_seqs l.me.session pending.Statement) (λ below. refl)

  pub answered_seqs : (l : Live) (parent : Option BranchId) → seqs (answered_sessions ss l parent) ≡ seqs ss
  answered_seqs l None = call_seqs l.me.session pending.NoCall
  answered_seqs l (Some parent) = refl

  pub heard_seqs : (l : Live) (a : Answer) → seqs (heard_sessions ss l a) ≡ seqs ss
  heard_seqs l a =
      cond_both (is_none l.parent && is_gone a) (needs_rollback ss l.me.session (dtx 8 []).code) ss (λ more. seqs more ≡ seqs ss) (λ gone. needs_seqs l.me.session (dtx 8 []).code) (λ other. refl)

  pub decided_seqs : (b : BranchId) (d : Decision) → seqs (decided_sessions ss b d) ≡ seqs ss
  decided_seqs b (decisions.Commit n) = refl
  decided_seqs b decisions.Rollback = ended_seqs b

  pub abandoned_seqs : (l : Live) (parent : Option BranchId) → seqs (abandoned_sessions ss l parent) ≡ seqs ss
  abandoned_seqs l None = ended_seqs l.me
  abandoned_seqs l (Some parent) = refl

  pub ended_if_seqs : (here : Bool) (root : BranchId) → seqs (if here then commit_ended ss root else ss) ≡ seqs ss
  ended_if_seqs true root = ended_seqs root
  ended_if_seqs false root = refl
