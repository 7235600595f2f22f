-- How a COMMIT ends in its own turn: its session has no transaction, or one that can only be rolled back, or one that is READ
-- ONLY, or a root without children, which decides or finds that there is nothing to decide.
use Rattle.std.proofs.Common.{◌≡◌, ℕ, ◌+◌, ◌&&◌, ◌||◌, Bool, true, false, if◌then◌else◌, is_none, map, List, [], ◌∷◌, unwrap_or, Option, Some, None, inl, inr, refl, sym, ap, ◌∙◌}
use Rattle.tran_ids.proofs.ListedLemmas.{drop_gone}
use Rattle.std.specs.List.{list_any}
use Rattle.run_rules.specs.Trail.{is_quiet}
use Rattle.reco.specs.Asks.{to_each}
use Rattle.session_tree.specs.Live.{children_of}
use Rattle.session_tree.specs.Tree.{step as step_from}
use Rattle.session_tree.specs.declared.act.Walk.{Walk}
use Rattle.session_tree.specs.declared.act.Walk.TheVariants as walks
use Rattle.node_rules.specs.Data.{Act, Answer, BranchId, Edge, Input, Live}
use Rattle.node_rules.specs.Data.acts
use Rattle.node_rules.specs.Data.answers
use Rattle.node_rules.specs.Data.dones
use Rattle.node_rules.specs.Data.inputs
use Rattle.node_rules.specs.Data.kinds
use Rattle.node_rules.specs.Data.stmts
use Rattle.node_rules.specs.declared.session.Finished.{Finished}
use Rattle.node_rules.specs.declared.session.PendingCall.TheVariants as pending
use Rattle.node_rules.specs.declared.session.Session.{Session}
use Rattle.node_rules.specs.Client.{commit_at, commit_by, commit_call, leaves, root_at}
use Rattle.node_rules.specs.Ids.{decimal}
use Rattle.node_rules.specs.NodeState.{NodeState, Branch, TurnDraft, live_id}
use Rattle.node_rules.specs.Prepare.{act_turn, collecting, decided_of, first_act, first_act_by, is_alone, own_changes, root_act, with_comment, with_prepare_sent, without_read_keys}
use Rattle.node_rules.specs.Refusals.{ora}
use Rattle.node_rules.specs.Sessions.{session_at, with_call, commit_is_pending, commit_answer, commit_complete}
use Rattle.node_rules.specs.Turn.{stamped}
use Rattle.node_rules.specs.Words.{one, same}
use Rattle.node_rules.proofs.StandLemmas.{RootSo, live_so, root_so}
use Rattle.run_base_laws.proofs.RootLemmas.{SessionsFit, root_alone}
use Rattle.tree_laws.proofs.TopStepLemmas.{At_once}
use Rattle.commit_answer_laws.specs.CommitEndLaws.{EndsCall, LeavesUnrecorded}
use Rattle.commit_answer_laws.proofs.AloneLemmas.{alone_names_none}
use Rattle.commit_answer_laws.proofs.EndStepLemmas.{StepEnd, Has_decided, Has_no_site}

-- ---- the first act of a root

edges_none : (es : List Edge) → map with_prepare_sent es ≡ [] → es ≡ []
edges_none [] is = refl
edges_none (e ∷ es) is = absurd cc

root_finishes : (w : Walk) → root_act w ≡ acts.Finish → w ≡ walks.Nowhere
root_finishes walks.Here is = absurd cc
root_finishes (walks.Down i) is = absurd cc
root_finishes walks.Nowhere is = refl

root_stays : (w : Walk) → root_act w ≡ acts.Abandon → ⊥
root_stays walks.Here is = absurd cc
root_stays (walks.Down i) is = absurd cc
root_stays walks.Nowhere is = absurd cc

collected_finishes : (l : Live) (q : Bool) → (if q then root_act (step_from l) else acts.SayReady) ≡ acts.Finish → step_from l ≡ walks.Nowhere
collected_finishes l true is = root_finishes (step_from l) is
collected_finishes l false is = absurd cc

collected_stays : (l : Live) (q : Bool) → (if q then root_act (step_from l) else acts.SayReady) ≡ acts.Abandon → ⊥
collected_stays l true is = root_stays (step_from l) is
collected_stays l false is = absurd cc

first_finishes : (l : Live) (es : List Edge) → first_act_by l true es ≡ acts.Finish → (es ≡ []) × (step_from l ≡ walks.Nowhere)
first_finishes l [] is = (refl, collected_finishes l (is_none l.parent) is)
first_finishes l (e ∷ es) is = absurd cc

first_stays : (l : Live) (es : List Edge) → first_act_by l true es ≡ acts.Abandon → ⊥
first_stays l [] is = collected_stays l (is_none l.parent) is
first_stays l (e ∷ es) is = absurd cc

-- ---- the COMMIT of a session

module _ (k : NodeState) (fit : SessionsFit k) (n : ℕ) (given : Option (List ℕ)) (a : Answer) where
  abbrev its : Finished
  its = record { session = n; answer = a }

  abbrev input : Input
  input = inputs.Call n (Some (stmts.Commit given))

  -- Why it ends in its own turn.
  pub data OwnEnd (d : TurnDraft) : Type 0 where
    Has_no_root : root_at k n ≡ None → a ≡ commit_complete → OwnEnd d
    Must_roll_back : (g : BranchId) (code : ℕ) → (session_at k.sessions n).root ≡ Some g → a ≡ answers.Refused (ora 2067 (one (decimal code))) → OwnEnd d
    Ends_reading : (g : BranchId) (scn : ℕ) → (session_at k.sessions n).root ≡ Some g → (leaves : LeavesUnrecorded k d.after d.wrote (map (stamped d.after.clock) d.says) g) → leaves.live.read_at ≡ Some scn → a ≡ commit_complete → OwnEnd d
    Ends_at_once : (g : BranchId) → (session_at k.sessions n).root ≡ Some g → StepEnd k input d.after d.wrote (map (stamped d.after.clock) d.says) g a → OwnEnd d

  same_answer : (x : Answer) → EndsCall its ((record { session = n; answer = x }) ∷ []) → a ≡ x
  same_answer x (inl is) = sym (ap (λ (f : Finished). f.answer) is)
  same_answer x (inr none) = absurd none

  -- the COMMIT of a branch ends with its answer
  commit_same : (ss : List Session) (b : BranchId) (x : Answer) → EndsCall its (commit_answer ss b x) → a ≡ x
  commit_same ss b x = by (commit_is_pending ss b)
    where
      by : (q : Bool) → EndsCall its (if q then (record { session = b.session; answer = x }) ∷ [] else []) → a ≡ x
      by true (inl is) = sym (ap (λ (f : Finished). f.answer) is)
      by true (inr none) = absurd none
      by false none = absurd none

  alone_same : (here : Bool) (ss : List Session) (b : BranchId) (x : Answer) → EndsCall its (if here then commit_answer ss b x else []) → (here ≡ true) × (a ≡ x)
  alone_same true ss b x is = (refl, commit_same ss b x is)
  alone_same false ss b x none = absurd none

  -- a root acts
  module _ (x : Branch) (so : RootSo k n (Some x)) (code : (session_at k.sessions n).code ≡ None) where
    abbrev y : Live
    y = with_comment x.live (unwrap_or given [])

    abbrev l : Live
    l = collecting y true

    abbrev k2 : NodeState
    k2 = without_read_keys (record k { sessions = with_call k.sessions n pending.Commit }) x.live.me

    act_ends : x.live.read_at ≡ None → (act : Act) → first_act l true ≡ act → EndsCall its (act_turn k2 l true act).ended → OwnEnd (act_turn k2 l true act)
    act_ends writes acts.Decide is ends =
        let one = alone_same (is_alone l) k2.sessions l.me commit_complete ends in
        Ends_at_once x.live.me so.0 (Has_decided (decided_of (k2.clock + 1) l (own_changes k2 l.me)) x.live (live_so k x.live.me x so.1) refl refl (alone_names_none (k2.clock + 1) l (own_changes k2 l.me) one.0) one.1)
    act_ends writes acts.Finish is ends =
        let first = first_finishes l l.edges is in
        Ends_at_once x.live.me so.0 (Has_no_site (record {
          live = x.live;
          there = live_so k x.live.me x so.1;
          gone = drop_gone live_id k.lives x.live.me;
          unwritten = refl;
          silent = refl;
        }) (root_alone k fit n x.live.me so.0 x.live (live_so k x.live.me x so.1)) (At_once n given refl so.0 code (edges_none x.live.edges first.0) first.1) (λ m comment call. writes) (commit_same k2.sessions l.me commit_complete ends))
    act_ends writes acts.Abandon is ends = absurd (first_stays l l.edges is)
    act_ends writes acts.Rest is none = absurd none
    act_ends writes acts.AskDown is none = absurd none
    act_ends writes acts.SayReadOnly is none = absurd none
    act_ends writes acts.SayReady is none = absurd none
    act_ends writes acts.Seal is none = absurd none
    act_ends writes (acts.SealAndPass i) is none = absurd none

  -- a READ ONLY transaction ends
  reads_end : (x : Branch) → RootSo k n (Some x) → (scn : ℕ) → x.live.read_at ≡ Some scn → EndsCall its (leaves k n dones.Committed x).ended → OwnEnd (leaves k n dones.Committed x)
  reads_end x so scn reads is =
      Ends_reading x.live.me scn so.0
      (record {
        live = x.live;
        there = live_so k x.live.me x so.1;
        gone = drop_gone live_id k.lives x.live.me;
        unwritten = refl;
        silent = each_unread x.live.me (children_of x.live);
      })
      reads (same_answer commit_complete is)
    where
      each_unread : (me : BranchId) (tos : List BranchId) → list_any (is_quiet me) (map (stamped (leaves k n dones.Committed x).after.clock) (to_each me kinds.Rollback tos)) ≡ false
      each_unread me [] = refl
      each_unread me (b ∷ bs) = ap (λ q. (same me me && false) || q) (each_unread me bs) ∙ none_here (same me me)
        where
          none_here : (q : Bool) → ((q && false) || false) ≡ false
          none_here true = refl
          none_here false = refl

  -- COMMIT comes to a root
  at_root : (x : Branch) → RootSo k n (Some x) → (session_at k.sessions n).code ≡ None → (o : Option ℕ) → x.live.read_at ≡ o → EndsCall its (commit_at k n (unwrap_or given []) x o).ended → OwnEnd (commit_at k n (unwrap_or given []) x o)
  at_root x so code (Some scn) reads is = reads_end x so scn reads is
  at_root x so code None writes is = act_ends x so code writes (first_act (l x so code) true) refl is

  -- COMMIT comes
  by_code : (code : Option ℕ) → (session_at k.sessions n).code ≡ code → (o : Option Branch) → root_at k n ≡ o → RootSo k n o → EndsCall its (commit_by k n (unwrap_or given []) code o).ended → OwnEnd (commit_by k n (unwrap_or given []) code o)
  by_code None at None none so is = Has_no_root none (same_answer commit_complete is)
  by_code (Some c) at None none so is = Has_no_root none (same_answer commit_complete is)
  by_code (Some c) at (Some x) some so is = Must_roll_back x.live.me c so.0 (same_answer (answers.Refused (ora 2067 (one (decimal c)))) is)
  by_code None at (Some x) some so is = at_root x so at x.live.read_at refl is

  pub own_end : EndsCall its (commit_call k n given).ended → OwnEnd (commit_call k n given)
  own_end is = by_code (session_at k.sessions n).code refl (root_at k n) refl (root_so k n) is
