-- What stands at a node: branches by their ids, and the transactions of sessions.
use Rattle.std.proofs.Common.{◌≡◌, ℕ, ◌+◌, List, option_map, Option, Some, None, refl, sym, ap, subst, ◌∙◌}
use Rattle.std.specs.Prelude.{unwrap_or}
use Rattle.tran_ids.proofs.ListedLemmas.{item_is}
use Rattle.node_rules.specs.Data.{BranchId, KeptRow, Live, PendingCall, Session}
use Rattle.node_rules.specs.Words.{numbered, set_numbered}
use Rattle.node_rules.specs.NodeState.{NodeState, Branch, live_id, kept_row_id, live_at, work_at, with_work, branch_at, kept_row_at}
use Rattle.node_rules.specs.Sessions.{fresh_session, session_at, with_call, with_call_of}
use Rattle.node_rules.specs.Client.{root_by, root_at}
use Rattle.node_rules.specs.Turn.{BranchStatus, kept_or_gone, live_or, status_of, Is_live, Is_kept, Is_gone}
use Rattle.node_rules.proofs.Steps.{HasRoot, IsKept}
use Rattle.tran_ids.proofs.NumberedLemmas.{set_found}

live_by : (k : NodeState) (b : BranchId) (x : Branch) (o : Option Live) → live_at k b ≡ o → with_work k o ≡ Some x → live_at k b ≡ Some x.live
live_by k b x None is found = absurd cc
live_by k b x (Some l) is found =
    let it : Some (record { live = l; work = work_at k l.me }) ≡ Some x = found in
    is ∙ ap (λ o. option_map (λ y. y.live) o) it

-- a branch with its calls is a live branch
pub live_so : (k : NodeState) (b : BranchId) (x : Branch) → branch_at k b ≡ Some x → live_at k b ≡ Some x.live
live_so k b x found = live_by k b x (live_at k b) refl found

-- it has the id that was asked for
pub branch_is : (k : NodeState) (b : BranchId) (x : Branch) → branch_at k b ≡ Some x → x.live.me ≡ b
branch_is k b x found = item_is live_id k.lives b x.live (live_so k b x found)

-- what is known of a branch that is live, kept or gone
abbrev pub StandsSo : NodeState → BranchId → BranchStatus → Type 0
StandsSo k b (Is_live x) = (x.live.me ≡ b) × (branch_at k x.live.me ≡ Some x)
StandsSo k b (Is_kept s) = (s.me ≡ b) × IsKept k s
StandsSo k b Is_gone = status_of k b ≡ Is_gone

stands_by : (k : NodeState) (b : BranchId) (o : Option Branch) (kept : Option KeptRow) → branch_at k b ≡ o → kept_row_at k b ≡ kept → StandsSo k b (live_or o kept)
unfolding status_of
stands_by k b (Some x) kept is stands = let me : x.live.me ≡ b = branch_is k b x is in (me, subst (λ m. branch_at k m ≡ Some x) (sym me) is)
stands_by k b None (Some s) is stands = let me : s.me ≡ b = item_is kept_row_id k.stored.durable.kept b s stands in (me, subst (λ m. kept_row_at k m ≡ Some s) (sym me) stands)
stands_by k b None None is stands = ap (λ o. live_or o (kept_row_at k b)) is ∙ ap kept_or_gone stands

-- each branch stands so
pub stands_so : (k : NodeState) (b : BranchId) → StandsSo k b (status_of k b)
unfolding status_of
stands_so k b = stands_by k b (branch_at k b) (kept_row_at k b) refl refl

-- what is known of a session's live root
abbrev pub RootSo : NodeState → ℕ → Option Branch → Type 0
RootSo k n None = Unit {0}
RootSo k n (Some x) = HasRoot k n x.live.me × (branch_at k x.live.me ≡ Some x)

-- the root of a session is the live branch of its id
pub branch_so : (k : NodeState) (n : ℕ) (b : BranchId) (o : Option Branch) → HasRoot k n b → branch_at k b ≡ o → RootSo k n o
branch_so k n b None has is = tt
branch_so k n b (Some x) has is =
    let me : x.live.me ≡ b = branch_is k b x is in (subst (λ m. HasRoot k n m) (sym me) has, subst (λ m. branch_at k m ≡ Some x) (sym me) is)

root_by_so : (k : NodeState) (n : ℕ) (root : Option BranchId) → (session_at k.sessions n).root ≡ root → RootSo k n (root_by k root)
root_by_so k n None is = tt
root_by_so k n (Some b) is = branch_so k n b (branch_at k b) is refl

-- the root of each session is so
pub root_so : (k : NodeState) (n : ℕ) → RootSo k n (root_at k n)
root_so k n = root_by_so k n (session_at k.sessions n).root refl

-- a session that is set is there
pub session_set : (ss : List Session) (n : ℕ) (s t : Session) → numbered ss n ≡ Some s → session_at (set_numbered ss n t) n ≡ t
session_set ss n s t found = ap (λ o. unwrap_or o fresh_session) (set_found ss n s t found)

call_set_at : (ss : List Session) (n : ℕ) (b : BranchId) (c : PendingCall) (o : Option Session) → numbered ss n ≡ o → (unwrap_or o fresh_session).root ≡ Some b
    → session_at (with_call ss n c) n ≡ record (session_at ss n) { call = c }
call_set_at ss n b c None is has = absurd cc
call_set_at ss n b c (Some s) is has = session_set ss n s (record (session_at ss n) { call = c }) is

-- a session that has a transaction is the same but for its pending call
pub call_set : (ss : List Session) (n : ℕ) (b : BranchId) (c : PendingCall) → (session_at ss n).root ≡ Some b → session_at (with_call ss n c) n ≡ record (session_at ss n) { call = c }
call_set ss n b c has = call_set_at ss n b c (numbered ss n) refl has

count_set_at : (ss : List Session) (n : ℕ) (b : BranchId) (o : Option Session) → numbered ss n ≡ o → (unwrap_or o fresh_session).root ≡ Some b → (session_at ss n).root ≡ Some b
    → session_at (with_call_of ss n (session_at ss n).root) n ≡ record (session_at ss n) { calls = (session_at ss n).calls + 1 }
count_set_at ss n b None is has root = absurd cc
count_set_at ss n b (Some s) is has root = ap (λ r. session_at (with_call_of ss n r) n) root ∙ session_set ss n s (record (session_at ss n) { calls = (session_at ss n).calls + 1 }) is

-- and but for the number of its calls
pub count_set : (ss : List Session) (n : ℕ) (b : BranchId) → (session_at ss n).root ≡ Some b
    → session_at (with_call_of ss n (session_at ss n).root) n ≡ record (session_at ss n) { calls = (session_at ss n).calls + 1 }
count_set ss n b has = count_set_at ss n b (numbered ss n) refl has has
