-- Each step of a node leaves the answers that live branches hold as Prepares told: a child that answered Ready was told that the walk
-- comes there, and once the collect began no child is left out.
use Rattle.std.proofs.Common.{◌≡◌, ◌≢◌, ℕ, zero, suc, Bool, true, List, [], ◌∷◌, map, Some, None, refl, sym, ap, subst, ◌∙◌}
use Rattle.std.specs.List.{AllByRecursion}
use Rattle.std.proofs.lemmas.Bool.{cond_both, and_parts}
use Rattle.tran_ids.proofs.BranchLemmas.{equal_from_same}
use Rattle.session_tree.specs.Live.{new_edge}
use Rattle.node_rules.specs.Data.{BranchId, Edge, Vote, Live, Act, Phase, Post, Place, Input}
use Rattle.node_rules.specs.Data.kinds
use Rattle.node_rules.specs.Data.phases
use Rattle.node_rules.specs.Data.votes
use Rattle.node_rules.specs.declared.work.Going.{Going}
use Rattle.node_rules.specs.Words.{same, numbered, set_numbered}
use Rattle.node_rules.specs.Inputs.{Came}
use Rattle.node_rules.specs.NodeState.{NodeState, Branch, TurnDraft, live_id, live_at, branch_at}
use Rattle.node_rules.specs.Prepare.{with_prepare_sent, voted, has_voted, is_awaited, answers_first}
use Rattle.node_rules.proofs.Steps.{Step, Answers, Acting, vote_kind}
use Rattle.run_branch_laws.specs.WalkLaws.{is_below, was_sent}
use Rattle.run_rules.proofs.ListLemmas.{all_weaker, all_append, all_map, all_each}
use Rattle.run_base_laws.proofs.OwnLemmas.{all_found}
use Rattle.run_base_laws.proofs.LiveStepLemmas.{LastsInTurn, LiveCases, acting_by, left_by, lives_on}
use Rattle.run_base_laws.proofs.NeighborLemmas.{reply_is}
use Rattle.run_branch_laws.proofs.PhaseLemmas.{slice_all, slice_set_all}
use Rattle.run_branch_laws.proofs.QuietLemmas.{came_apart}
use Rattle.run_branch_laws.proofs.FreezeLemmas.{acting_phase}
use Rattle.tree_laws.specs.AnswerLaws.{EdgeTold, AnswersTold}

module _ (said : List Post) (p : Place) (input : Input) (came_ready : (from to : BranchId) → Came input from to kinds.Ready → was_sent is_below said to from ≡ true) where
  abbrev Told : Live → Type 0
  Told l = AnswersTold said l

  -- a branch whose child is opened is working
  abbrev pub OpensAtWork : NodeState → Type 0
  OpensAtWork k = (from to : BranchId) (edge strength : ℕ) → Came input from to (kinds.Opened edge strength) → (x : Branch) (g : Going) → branch_at k x.live.me ≡ Some x → x.work.going ≡ Some g → x.live.phase ≡ phases.Working

  -- an edge of which more is known
  known_edges : (me : BranchId) (phase : Phase) (es : List Edge) (i : ℕ) (e x : Edge) → numbered es i ≡ Some e → x.peer ≡ e.peer → x.vote ≡ e.vote → AllByRecursion (EdgeTold said me phase) es → AllByRecursion (EdgeTold said me phase) (set_numbered es i x)
  known_edges me phase es zero e x at peer vote all = all
  known_edges me phase es (suc i) e x at peer vote all =
      let was : EdgeTold said me phase e = slice_all (EdgeTold said me phase) es i e all at in
      slice_set_all (EdgeTold said me phase) es i x all (record {
        ready = λ is. subst (λ b. was_sent is_below said me b ≡ true) (sym peer) (was.ready (sym vote ∙ is));
        asked = λ other is. was.asked other (sym vote ∙ is);
      })

  asked_down : (me : BranchId) (phase : Phase) (es : List Edge) → AllByRecursion (EdgeTold said me phase) (map with_prepare_sent es)
  asked_down me phase es = all_each (EdgeTold said me phase) with_prepare_sent es (λ e. record { ready = λ is. absurd cc; asked = λ other is. absurd cc })

  -- an answer that came
  vote_ready : {l : Live} {from : BranchId} {v : Vote} {b : Bool} → Answers input l from v b → v ≡ votes.Ready → was_sent is_below said l.me from ≡ true
  vote_ready {l = l} {from = from} {v = v} answers is =
      let it : Some kinds.Ready ≡ Some answers.kind = sym (ap vote_kind is) ∙ answers.is_vote in
      let kind : kinds.Ready ≡ answers.kind = cc in
      came_ready from l.me (subst (Came input from l.me) (sym kind) answers.came)

  vote_asked : {l : Live} {from : BranchId} {v : Vote} {b : Bool} → Answers input l from v b → v ≢ votes.Unasked
  vote_asked {v = v} answers is = (let it : None ≡ Some answers.kind = sym (ap vote_kind is) ∙ answers.is_vote in absurd cc)

  voted_told : (l : Live) (from : BranchId) (v : Vote) (b : Bool) → Answers input l from v b → Told l → Told (voted l from v)
  voted_told l from v b answers old =
      all_map (EdgeTold said l.me l.phase) (has_voted from v) l.edges
      (all_weaker (EdgeTold said l.me l.phase) _ (λ e is. cond_both (answers_first from e) (record e { vote = v }) e (EdgeTold said l.me l.phase)
      (λ first. record {
        ready = λ now. subst (λ c. was_sent is_below said l.me c ≡ true) (sym (equal_from_same e.peer from (and_parts (same e.peer from) (is_awaited e.vote) first).0)) (vote_ready answers now);
        asked = λ other. vote_asked answers;
      }) (λ other. is)) l.edges old)

  acting_told : (k : NodeState) → ((x : Live) → live_at k x.me ≡ Some x → Told x) → {l : Live} {b : Bool} {a : Act} → Acting k input l b a → Told l
  acting_told k all why = acting_by Told (λ x comment b live begins so. asked_down x.me (phases.Collecting b) x.edges) (λ x from v b answers so. voted_told x from v b answers so) all why

  module _ (k : NodeState) (all : AllByRecursion Told k.lives) where
    live_told : (b : BranchId) (l : Live) → live_at k b ≡ Some l → Told l
    live_told b l found = all_found Told live_id k.lives b l all found

    pub acting_edges : {l : Live} {b : Bool} {a : Act} → Acting k input l b a → Told l
    acting_edges why = acting_told k (λ x live. live_told x.me x live) why

  opens_lasts : LastsInTurn p input OpensAtWork
  opens_lasts = record {
    begun = λ k n s read_at call begins free works from to edge strength came. absurd (came_apart n s came call);
    counts = λ k n s call counts works. works;
    backs = λ k x step goes works. works;
    pends = λ k n l given call has works. works;
    lets = λ k b works. works;
    acked = λ k s from kept came works. works;
  }

  each : LiveCases p input OpensAtWork (λ d. Unit {0}) Told
  each = record {
    lasts = opens_lasts;
    root = λ k n s read_at call begins free works. tt;
    child = λ k to parent edge root depth read_at came new works. tt;
    advised = λ l advice so. so;
    runs = λ k x s t so. so;
    backs = λ l changed so. so;
    opens = λ k x from strength g link opened works so.
        (let working : x.live.phase ≡ phases.Working = works from x.live.me opened.edge strength opened.came x g opened.live opened.going in
        all_append (EdgeTold said x.live.me x.live.phase) x.live.edges (new_edge from link strength ∷ []) so (record { ready = λ is. absurd cc; asked = λ other. absurd (other working) }, tt));
    replies = λ k x weight count a i e answered so. known_edges x.live.me x.live.phase x.live.edges i e _ (reply_is x answered.from answered.call i e answered.waits) refl refl so;
    acts = λ k l below a why works q all.
        left_by Told l a (λ says so. all_weaker _ _ (λ e is. record { ready = is.ready; asked = λ other. is.asked (acting_phase why) }) l.edges so) (acting_told k all why);
  }

  pub answers_on : {k : NodeState} {d : TurnDraft} → Step p input k d → OpensAtWork k → AllByRecursion Told k.lives → AllByRecursion Told d.after.lives
  answers_on step works all = lives_on each step works tt all
