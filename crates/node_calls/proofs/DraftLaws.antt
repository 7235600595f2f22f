-- What a live branch does whose statement is answered, goes on, or waits for a link.
use Rattle.std.proofs.Common.{◌≡◌, ℕ, ◌+◌, List, [], ◌∷◌, Option, None, Some, refl, sym, ap, subst, ◌∙◌}
use Rattle.tran_ids.specs.declared.branch.BranchId.{BranchId}
use Rattle.tran_ids.specs.Listed.{item_at, put_item}
use Rattle.tran_ids.proofs.ListedLemmas.{item_is}
use Rattle.session_tree.specs.Live.{next_edge, peer_of}
use Rattle.link_session.specs.declared.reply.ReplyFields.{ReplyFields}
use Rattle.reco.specs.declared.post.Post.{Post}
use Rattle.node_rules.specs.declared.session.Session.{Session}
use Rattle.node_rules.specs.declared.work.Work.{Work}
use Rattle.node_rules.specs.Data.{Live, Answer, Done, Stmt}
use Rattle.node_rules.specs.declared.work.Errand.{Errand}
use Rattle.node_rules.specs.Data.answers
use Rattle.node_rules.specs.Data.dones
use Rattle.node_rules.specs.Data.kinds
use Rattle.node_rules.specs.declared.session.PendingCall.TheVariants as pending
use Rattle.node_rules.specs.NodeState.{NodeState, Branch, TurnDraft as DraftByRules, live_id, work_id, with_work, branch_at, without_branch, nothing, ending, post}
use Rattle.sql_check.specs.Words.{one}
use Rattle.sql_check.specs.Refusals.{dtx}
use Rattle.node_rules.specs.Sessions.{session_at, with_call, needs_rollback}
use Rattle.node_rules.specs.Prepare.{to_children}
use Rattle.node_rules.specs.Client.{rollback_by, root_at, root_by, statement_given_up, waited_link}
use Rattle.node_state.specs.Sessions.{transaction_ended}
use Rattle.node_rules.specs.Marks.{step_of}
use Rattle.node_rules.specs.Calls.{answered, answer_ends, answer_says, answered_sessions, call_pends, calls_over, exec_to, kept_reply, nobody_at, opens_through, replies, reply_fields}
use Rattle.node_state.specs.Works.{answered_with, called_over, change_work, given_up, waits_for_child, work_of}
use Rattle.node_drafts.specs.declared.draft.TurnDraft.{TurnDraft}
use Rattle.node_drafts.specs.Gives.{GivesDraft}
use Rattle.node_calls.specs.Handled.{at_live, leaves_by}
use Rattle.node_calls.proofs.BranchLaws.{put_back, branch_here, somebody}

-- a draft of the rules, from its parts
gives_so : (d e : DraftByRules) (after : NodeState) (draft : TurnDraft) → d ≡ e → after ≡ e.after → draft ≡ record { wrote = e.wrote; says = e.says; ended = e.ended } → GivesDraft d after draft
gives_so d e after draft is new done = subst (λ x. GivesDraft x after draft) (sym is) (record { after = new; wrote = ap (λ x. x.wrote) done; says = ap (λ x. x.says) done; ended = ap (λ x. x.ended) done })

-- a draft that only sends messages, and one that only ends a call
abbrev sends : List Post → TurnDraft
sends says = record { wrote = None; says = says; ended = [] }

abbrev ends : ℕ → Answer → TurnDraft
ends n a = record { wrote = None; says = []; ended = (record { session = n; answer = a }) ∷ [] }

-- what a node keeps with other calls and sessions
abbrev with_calls : NodeState → List Work → List Session → NodeState
with_calls k works sessions = record k { works = works; sessions = sessions }

module _ (k : NodeState) (b : BranchId) (l : Live) (is : item_at live_id k.lives b ≡ Some l) where
  calls_so : (works ws : List Work) (sessions ss : List Session) → works ≡ ws → sessions ≡ ss → with_calls k works sessions ≡ with_calls k ws ss
  calls_so works ws sessions ss same alike = ap (λ x. with_calls k x sessions) same ∙ ap (with_calls k ws) alike

  -- ---- an answer

  module _ (a : Answer) where
    abbrev answered_by : List Live → Option BranchId → DraftByRules
    answered_by ls parent = record {
      after = record k {
        lives = ls;
        works = put_item work_id k.works (record (branch_here k b l).work { going = None; came = record (branch_here k b l).work.came { reply = kept_reply (branch_here k b l) a parent } });
        sessions = answered_sessions k.sessions l parent;
      };
      wrote = None;
      says = answer_says (branch_here k b l) a parent;
      ended = answer_ends l a parent;
    }

    answered_so : (parent : Option BranchId) → l.parent ≡ parent → at_live k (λ x. answered k x a) (branch_at k b) ≡ answered_by k.lives parent
    answered_so parent at =
        somebody k b l (λ x. answered k x a) is ∙ ap (λ ls. answered_by ls l.parent) (put_back live_id k.lives b l is) ∙ ap (λ p. answered_by k.lives p) at

    -- at a root
    pub client_answered : (after : NodeState) (draft : TurnDraft) → l.parent ≡ None
        → after ≡ record k { works = change_work (answered_with None) k.works b; sessions = with_call k.sessions l.me.session pending.NoCall }
        → draft ≡ record { wrote = None; says = []; ended = (record { session = l.me.session; answer = a }) ∷ [] } → GivesDraft (at_live k (λ x. answered k x a) (branch_at k b)) after draft
    client_answered after draft root new done = gives_so (at_live k (λ x. answered k x a) (branch_at k b)) (answered_by k.lives None) after draft (answered_so None root) new done

    -- below the root
    pub parent_answered : (parent : BranchId) (fields : ReplyFields) (says : List Post) (after : NodeState) (draft : TurnDraft) → l.parent ≡ Some parent → fields ≡ reply_fields l a
        → says ≡ replies (branch_here k b l) parent fields → after ≡ record k { works = change_work (answered_with (Some fields)) k.works b } → draft ≡ sends says
        → GivesDraft (at_live k (λ x. answered k x a) (branch_at k b)) after draft
    parent_answered parent fields says after draft at same said new done =
        gives_so (at_live k (λ x. answered k x a) (branch_at k b)) (answered_by k.lives (Some parent)) after draft (answered_so (Some parent) at)
        (new ∙ ap (λ f. record k { works = change_work (answered_with (Some f)) k.works b }) same) (done ∙ ap sends (said ∙ ap (replies (branch_here k b l) parent) same))

  -- ---- an errand that goes on

  module _ (e : Errand) where
    abbrev step_here : ℕ
    step_here = step_of k.sessions (branch_here k b l)

    abbrev called_by : ℕ → List Live → DraftByRules
    called_by i ls = record {
      after = record k { lives = ls; works = change_work (called_over i e step_here) k.works b; sessions = call_pends k.sessions l };
      wrote = None;
      says = exec_to k.sessions (branch_here k b l) i e (peer_of l i);
      ended = [];
    }

    -- to a child
    pub called_so : (i step : ℕ) (says : List Post) (works : List Work) (sessions : List Session) (draft : TurnDraft) → step ≡ step_here
        → works ≡ change_work (called_over i e step) k.works b → sessions ≡ call_pends k.sessions l
        → says ≡ exec_to k.sessions (branch_here k b l) i e (peer_of l i) → draft ≡ sends says
        → GivesDraft (at_live k (λ x. calls_over k x i e) (branch_at k b)) (with_calls k works sessions) draft
    called_so i step says works sessions draft at w_is s_is said done =
        gives_so (at_live k (λ x. calls_over k x i e) (branch_at k b)) (called_by i k.lives) (with_calls k works sessions) draft
        (somebody k b l (λ x. calls_over k x i e) is ∙ ap (called_by i) (put_back live_id k.lives b l is))
        (calls_so works (change_work (called_over i e step_here) k.works b) sessions (call_pends k.sessions l)
        (w_is ∙ ap (λ n. change_work (called_over i e n) k.works b) at) s_is) (done ∙ ap sends said)

  -- ---- a statement that waits for a link

  module _ (s : Stmt) (given : ℕ) where
    abbrev waits_by : ℕ → List ℕ → List Live → DraftByRules
    waits_by node link ls = record {
      after = record k { lives = ls; works = change_work (waits_for_child link s given) k.works b; sessions = call_pends k.sessions l };
      wrote = None;
      says = post l.me (nobody_at node) (kinds.Open (next_edge l) l.root (l.depth + 1) l.read_at);
      ended = [];
    }

    -- over a link that is used for the first time
    pub opened_so : (node : ℕ) (link : List ℕ) (says : List Post) (works : List Work) (sessions : List Session) (draft : TurnDraft) → works ≡ change_work (waits_for_child link s given) k.works b
        → sessions ≡ call_pends k.sessions l → says ≡ post l.me (nobody_at node) (kinds.Open (next_edge l) l.root (l.depth + 1) l.read_at) → draft ≡ sends says
        → GivesDraft (at_live k (λ x. opens_through k x node link s given) (branch_at k b)) (with_calls k works sessions) draft
    opened_so node link says works sessions draft w_is s_is said done =
        gives_so (at_live k (λ x. opens_through k x node link s given) (branch_at k b)) (waits_by node link k.lives) (with_calls k works sessions) draft
        (somebody k b l (λ x. opens_through k x node link s given) is ∙ ap (waits_by node link) (put_back live_id k.lives b l is))
        (calls_so works (change_work (waits_for_child link s given) k.works b) sessions (call_pends k.sessions l) w_is s_is)
        (done ∙ ap sends said)

  -- ---- a statement that is given up

  module _ (n : ℕ) where
    abbrev given_up_by : List Live → DraftByRules
    given_up_by ls = record {
      after = record k { lives = ls; works = change_work given_up k.works b; sessions = needs_rollback (with_call k.sessions n pending.NoCall) n (dtx 3 []).code };
      wrote = None;
      says = [];
      ended = (record { session = n; answer = answers.Refused (dtx 3 (one (waited_link l (branch_here k b l).work.going))) }) ∷ [];
    }

    pub given_up_so : (a : Answer) (works : List Work) (idle sessions : List Session) (draft : TurnDraft) → works ≡ change_work given_up k.works b → idle ≡ with_call k.sessions n pending.NoCall
        → sessions ≡ needs_rollback idle n (dtx 3 []).code → a ≡ answers.Refused (dtx 3 (one (waited_link l (branch_here k b l).work.going))) → draft ≡ ends n a
        → GivesDraft (statement_given_up k n (branch_at k b)) (with_calls k works sessions) draft
    given_up_so a works idle sessions draft w_is i_is s_is told done =
        gives_so (statement_given_up k n (branch_at k b)) (given_up_by k.lives) (with_calls k works sessions) draft
        (ap (λ o. statement_given_up k n (with_work k o)) is
        ∙ (ap (λ c. statement_given_up k n (Some (record { live = l; work = work_of k.works c }))) (item_is live_id k.lives b l is) ∙ ap given_up_by (put_back live_id k.lives b l is)))
        (calls_so works (change_work given_up k.works b) sessions (needs_rollback (with_call k.sessions n pending.NoCall) n (dtx 3 []).code) w_is
        (s_is ∙ ap (λ ss. needs_rollback ss n (dtx 3 []).code) i_is))
        (done ∙ ap (ends n) told)

    -- ---- a transaction that ends at once

    module _ (d : Done) where
      abbrev left : DraftByRules
      left = record {
        after = record (without_branch k l.me) { sessions = transaction_ended k.sessions n };
        wrote = None;
        says = to_children l kinds.Rollback;
        ended = (record { session = n; answer = answers.Did d 0 }) ∷ [];
      }

      pub left_so : (after : NodeState) (draft : TurnDraft) → after ≡ record (without_branch k l.me) { sessions = transaction_ended k.sessions n }
          → draft ≡ record { wrote = None; says = to_children l kinds.Rollback; ended = (record { session = n; answer = answers.Did d 0 }) ∷ [] }
          → GivesDraft (leaves_by k n d (branch_at k b)) after draft
      left_so after draft new done = gives_so (leaves_by k n d (branch_at k b)) left after draft (ap (λ o. leaves_by k n d (with_work k o)) is) new done

rolls_back_is : (k : NodeState) (n : ℕ) (o : Option Branch) → leaves_by k n dones.RolledBack o ≡ rollback_by k n o
rolls_back_is k n None = refl
rolls_back_is k n (Some x) = refl

-- ROLLBACK at the root of a session
pub rolls_back_so : (k : NodeState) (n : ℕ) (root : BranchId) (after : NodeState) (draft : TurnDraft) → (session_at k.sessions n).root ≡ Some root
    → GivesDraft (leaves_by k n dones.RolledBack (branch_at k root)) after draft → GivesDraft (rollback_by k n (root_at k n)) after draft
rolls_back_so k n root after draft has does =
    subst (λ d. GivesDraft d after draft) (rolls_back_is k n (branch_at k root) ∙ sym (ap (λ o. rollback_by k n (root_by k o)) has)) does

-- ---- branches that are not live

module _ (k : NodeState) (b : BranchId) (none : item_at live_id k.lives b ≡ None) (n : ℕ) where
  -- no statement is given up
  pub none_given_up : (draft : TurnDraft) → GivesDraft (nothing k) k draft → GivesDraft (statement_given_up k n (branch_at k b)) k draft
  none_given_up draft does = subst (λ d. GivesDraft d k draft) (sym (ap (λ o. statement_given_up k n (with_work k o)) none)) does

  -- and only the call ends
  pub none_leaves : (d : Done) (draft : TurnDraft) → GivesDraft (ending k n (answers.Did d 0)) k draft → GivesDraft (leaves_by k n d (branch_at k b)) k draft
  none_leaves d draft does = subst (λ x. GivesDraft x k draft) (sym (ap (λ o. leaves_by k n d (with_work k o)) none)) does
