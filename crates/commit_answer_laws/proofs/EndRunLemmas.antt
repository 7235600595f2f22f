-- In every lawful run a COMMIT that is pending ends for a reason.
use Rattle.std.proofs.Common.{◌≡◌, ◌≢◌, ℕ, List, [], ◌∷◌, ◌++◌, IfSome, Option, Some, None, refl, sym, ap, subst, ◌∙◌}
use Rattle.std.proofs.lemmas.List.{append_assoc}
use Rattle.node_rules.specs.Data.{Answer, BranchId, Input, Stmt}
use Rattle.node_rules.specs.Data.inputs
use Rattle.node_rules.specs.declared.session.PendingCall.TheVariants as pending
use Rattle.node_rules.specs.NodeState.{NodeState, Branch, branch_at, kept_row_id}
use Rattle.node_rules.specs.Words.{item_at}
use Rattle.run_branch_laws.proofs.TowardLemmas.{heard_rows}
use Rattle.node_rules.specs.Sessions.{session_at, commit_complete}
use Rattle.node_rules.specs.Turn.{turn_of, heard}
use Rattle.node_rules.proofs.HeardLemmas.{sessions_heard}
use Rattle.run_rules.specs.Births.{births_of}
use Rattle.run_base_laws.specs.CallLaws.{RootWaits, IsRootOf}
use Rattle.run_rules.specs.Data.{Turn, Happening}
use Rattle.run_rules.specs.Data.happenings
use Rattle.run_rules.specs.Facts.{place_at, node_at, facts_of}
use Rattle.run_rules.specs.Lawful.{MayTurn, History, IsLawfulRun}
use Rattle.run_base_laws.specs.NodeLaws.{EachFactFrom, AtEachFact}
use Rattle.run_base_laws.specs.RunEvents.{events_of}
use Rattle.run_base_laws.proofs.BirthRunLemmas.{run_births}
use Rattle.run_base_laws.proofs.LawfulLemmas.{serves, turn_of_node}
use Rattle.run_base_laws.proofs.RestLemmas.{Before}
use Rattle.run_base_laws.proofs.RootLemmas.{SessionsFit}
use Rattle.run_base_laws.proofs.RestRunLemmas.{NodeRests, heard_rests, heard_before, before_so, run_roots, roots_wait}
use Rattle.tree_laws.proofs.AnswerRunLemmas.{lives_heard}
use Rattle.tree_laws.proofs.PrefixLemmas.{f_at, one_on}
use Rattle.tree_trail_laws.proofs.CallLemmas.{call_free}
use Rattle.commit_answer_laws.specs.CommitEndLaws.{CommitPends, EndsCall, TurnsEndCommits, CommitsEndSo}
use Rattle.commit_answer_laws.proofs.EndStepLemmas.{StepEnd, as_end, Known, NoReply, ends_on}
use Rattle.tree_laws.proofs.AtTurn.{at_turn}
use Rattle.answer_done_laws.proofs.CommitStepLemmas.{CommitSo, commit_on}
use Rattle.commit_answer_laws.proofs.RootStepLemmas.{root_on}

branch_heard : (k : NodeState) (input : Input) (b : BranchId) → branch_at (heard k input) b ≡ branch_at k b
branch_heard k (inputs.Message m) b = refl
branch_heard k (inputs.Call n s) b = refl
branch_heard k (inputs.GiveUp n) b = refl
branch_heard k inputs.Reco b = refl
branch_heard k inputs.Checkpoint b = refl

given_heard : (k : NodeState) (input : Input) (n : ℕ) → input ≡ inputs.GiveUp n → heard k input ≡ k
given_heard k input n is = ap (heard k) is

module _ (t : History) (whole : IsLawfulRun t) (hs : List Happening) (u : Turn) (rest : List Happening) (is : hs ++ happenings.Turn u ∷ rest ≡ t.trace) where
  open at_turn t whole hs u rest is use {s as s0, f, lawful, may}

  module _ (k : NodeState) (up : node_at f u.node ≡ Some k) where
    turn : MayTurn t.places f u k
    turn = turn_of_node t.places f u k t.commands may up

    abbrev k0 : NodeState
    k0 = heard k u.input

    rests : NodeRests k0
    rests = heard_rests k u.input (subst (λ o. IfSome o NodeRests) up (run_roots s0 lawful u.node))

    before : Before u.input k0
    before = heard_before k u.input u.input (before_so t.places t.commands t.of_a_script.each f (events_of s0) (births_of s0) (run_births s0 lawful) (run_roots s0 lawful) u k turn)

    pub fits : SessionsFit k0
    fits = rests.0

    module _ (g : BranchId) (a : Answer) (pends : CommitPends k g) where
      other : (n : ℕ) (s : Option Stmt) → u.input ≡ inputs.Call n s → n ≢ g.session
      other n s call at =
          let free : (session_at k.sessions n).call ≡ pending.NoCall = (call_free f k u.node u.input u.took n s call turn.comes).1 in
          let mine : (session_at k.sessions g.session).call ≡ pending.NoCall = subst (λ i. (session_at k.sessions i).call ≡ pending.NoCall) at free in
          let commits = pends.call in
          absurd (cc (mine, commits))

      replies : NoReply k u.input g a k0
      replies x from call weight count said came live top at =
          let there : branch_at k x.live.me ≡ Some x = sym (branch_heard k u.input x.live.me) ∙ live in
          let root : IsRootOf (session_at k.sessions x.live.me.session) x.live.me x.live.phase x.work.going = roots_wait s0 lawful u.node k up x there top in
          let commits : (session_at k.sessions x.live.me.session).call ≡ pending.Commit = subst (λ i. (session_at k.sessions i).call ≡ pending.Commit) (sym at) pends.call in
          subst (λ c. RootWaits c x.live.phase x.work.going) commits root.waits

      known : Known k u.input g a k0
      known = record {
        root = ap (λ ss. (session_at ss g.session).root) (sessions_heard k u.input) ∙ pends.root;
        fit = rests.0;
        below = before.asked;
        prepared = before.prepared;
        replies = replies;
        near = λ no. lives_heard k u.input;
        given = λ n gives. given_heard k u.input n gives;
        commits = pends.call;
        rows = λ s at. (s, subst (λ ks. item_at kept_row_id ks g ≡ Some s) (heard_rows k u.input) at);
      }

      pub ends_for : EndsCall (record { session = g.session; answer = a }) (turn_of (place_at t.places u.node) k u.input).ended
          → StepEnd k u.input (turn_of (place_at t.places u.node) k u.input).after (turn_of (place_at t.places u.node) k u.input).wrote (turn_of (place_at t.places u.node) k u.input).sent g a
      unfolding turn_of
      ends_for there = ends_on k u.input g a other (place_at t.places u.node) (serves t.places f u k turn).step known there

    -- one that was pending is pending still, of the same root, or is answered
    module _ (g : BranchId) (pends : CommitPends k g) where
      none_called : (s : Option Stmt) → u.input ≡ inputs.Call g.session s → ⊥
      none_called s call = other g commit_complete pends g.session s call refl

      at_rest : (x : Branch) → branch_at k0 x.live.me ≡ Some x → x.live.parent ≡ None → x.live.me.session ≡ g.session → x.work.going ≡ None
      at_rest x live top at =
          let there : branch_at k x.live.me ≡ Some x = sym (branch_heard k u.input x.live.me) ∙ live in
          let root : IsRootOf (session_at k.sessions x.live.me.session) x.live.me x.live.phase x.work.going = roots_wait s0 lawful u.node k up x there top in
          let commits : (session_at k.sessions x.live.me.session).call ≡ pending.Commit = subst (λ i. (session_at k.sessions i).call ≡ pending.Commit) (sym at) pends.call in
          subst (λ c. RootWaits c x.live.phase x.work.going) commits root.waits

      pub ends_or_stays : CommitSo g.session (turn_of (place_at t.places u.node) k u.input).after.sessions (turn_of (place_at t.places u.node) k u.input).ended
      unfolding turn_of
      ends_or_stays =
          commit_on g.session (place_at t.places u.node) u.input none_called (serves t.places f u k turn).step
          (record { commits = ap (λ ss. (session_at ss g.session).call) (sessions_heard k u.input) ∙ pends.call; roots = rests.0.roots.each; below = before.asked; rests = λ no_call x live top at. at_rest x live top at })

      pub stays_so : (session_at (turn_of (place_at t.places u.node) k u.input).after.sessions g.session).call ≡ pending.Commit → CommitPends (turn_of (place_at t.places u.node) k u.input).after g
      unfolding turn_of
      stays_so commits = record {
        root = root_on (place_at t.places u.node) u.input g.session none_called (serves t.places f u k turn).step commits ∙ (ap (λ ss. (session_at ss g.session).root) (sessions_heard k u.input) ∙ pends.root);
        call = commits;
      }

-- ---- each happening

module _ (t : History) (whole : IsLawfulRun t) where
  ends_one : (hs : List Happening) (h : Happening) (rest : List Happening) → hs ++ h ∷ rest ≡ t.trace → TurnsEndCommits t.places (f_at t hs) h
  ends_one hs (happenings.Turn u) rest is = λ k up g a pends there. as_end (ends_for t whole hs u rest is k up g a pends there)
  ends_one hs _ rest is = tt

  ends_from : (hs rest : List Happening) → hs ++ rest ≡ t.trace → EachFactFrom (TurnsEndCommits t.places) t.places t.commands (f_at t hs) rest
  ends_from hs [] is = tt
  ends_from hs (h ∷ rest) is = (
    ends_one hs h rest is,
    subst (λ f. EachFactFrom (TurnsEndCommits t.places) t.places t.commands f rest) (one_on t hs h) (ends_from (hs ++ h ∷ []) rest (append_assoc hs (h ∷ []) rest ∙ is)),
  )

  each_ends : AtEachFact TurnsEndCommits t
  unfolding facts_of
  each_ends = ends_from [] t.trace refl

pub commits_end_so : CommitsEndSo
commits_end_so t whole = each_ends t whole
