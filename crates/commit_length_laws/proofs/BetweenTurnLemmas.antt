-- A delivery in the course of a COMMIT holds and says no more of what is between two branches than its branch held and the message was.
use Rattle.std.proofs.Common.{◌≡◌, ℕ, ◌+◌, ◌≤◌, Bool, true, false, if◌then◌else◌, List, [], ◌∷◌, map, Option, Some, None, refl, sym, ap, subst, ◌∙◌, arith}
use Rattle.std.proofs.lemmas.Bool.{cond_both, and_parts}
use Rattle.tran_ids.proofs.ListedLemmas.{item_is}
use Rattle.prepare_phase.specs.Acts.{is_first_answer}
use Rattle.session_tree.specs.Tree.{step}
use Rattle.node_rules.specs.Data.{BranchId, Decision, Edge, Kind, Live, Phase, Place, KeptRow, Vote}
use Rattle.node_rules.specs.Data.decisions
use Rattle.node_rules.specs.Data.kinds
use Rattle.node_rules.specs.Data.phases
use Rattle.node_rules.specs.Data.votes
use Rattle.node_rules.specs.Words.{same}
use Rattle.node_rules.specs.Commit.{acked_by, all_acked, ack_counts, is_beyond, is_asked_again, knows_commit, counts_ack, commit_point_known}
use Rattle.node_rules.specs.NodeState.{NodeState, TurnDraft, live_id, live_at, work_at, kept_row_id, kept_row_at, nothing, saying, post}
use Rattle.node_rules.specs.Prepare.{act_turn, answers_first, collecting, with_comment, without_read_keys, first_act, prepare_in, answer_in, answer_act, voted, has_voted, with_prepare_sent, commit_point_in, commit_point_act}
use Rattle.node_rules.specs.Turn.{BranchStatus, Is_live, Is_kept, Is_gone, status_of, kind_turn}
use Rattle.run_base_laws.specs.NodeLaws.{count_of}
use Rattle.run_claims.specs.Undisturbed.{disturbs}
use Rattle.commit_length_laws.proofs.SayLemmas.{in_course}
use Rattle.commit_length_laws.proofs.TurnLemmas.{stand_kept}
use Rattle.commit_length_laws.proofs.BetweenLemmas.{turned, says_between}
use Rattle.commit_length_laws.proofs.BetweenActLemmas.{act_between, first_top, answer_top, at_top}
use Rattle.commit_length_laws.proofs.BetweenRowLemmas.{committed_between, forgotten_between, noted_between}
use Rattle.commit_laws.proofs.TurnLemmas.{stand_live}
use Rattle.commit_length_laws.specs.Once.{when, on, message_between, peers, edges_between, live_between, node_between}

module _ (z w g : BranchId) where
  abbrev held : NodeState → ℕ
  held k = node_between z w g k

  abbrev tok : BranchId → BranchId → Kind → ℕ
  tok from to kind = message_between z w from to kind

  -- a turn holds and says so much more at most
  abbrev pub Keeps : NodeState → ℕ → TurnDraft → Type 0
  Keeps k n d = says_between z w d.says + held d.after ≤ n + held k

  -- edges that differ in their votes alone
  sent_peers : (b : BranchId) (es : List Edge) → peers b (map with_prepare_sent es) ≡ peers b es
  sent_peers b [] = refl
  sent_peers b (e ∷ es) = (let rest = sent_peers b es in omega (arith, rest))

  voted_peers : (from : BranchId) (v : Vote) (b : BranchId) (es : List Edge) → peers b (map (has_voted from v) es) ≡ peers b es
  voted_peers from v b [] = refl
  voted_peers from v b (e ∷ es) =
      (let rest = voted_peers from v b es in
      let here : on (has_voted from v e).peer b ≡ on e.peer b = ap (λ c. on c b) (peer_same e) in
      omega (arith, rest, here))
    where
      peer_same : (e : Edge) → (has_voted from v e).peer ≡ e.peer
      peer_same e = cond_both (answers_first from e) (record e { vote = v }) e (λ (y : Edge). y.peer ≡ e.peer) (λ is. refl) (λ other. refl)

  edges_same : (me : BranchId) (es ds : List Edge) → ((b : BranchId) → peers b es ≡ peers b ds) → edges_between z w me es ≡ edges_between z w me ds
  edges_same me es ds alike = ap (λ n. when (same me w) n + when (same me z) (peers w es)) (alike z) ∙ ap (λ n. when (same me w) (peers z ds) + when (same me z) n) (alike w)

  -- a branch begins to collect
  pub collect_keeps : (k : NodeState) (l : Live) → live_at k l.me ≡ Some l → same l.root g ≡ true → (b : Bool) (comment : List ℕ)
      → Keeps k 0 (act_turn (without_read_keys k l.me) (collecting (with_comment l comment) b) b (first_act (collecting (with_comment l comment) b) b))
  collect_keeps k l here of b comment =
      let y : Live = collecting (with_comment l comment) b in
      let all = act_between z w g (without_read_keys k l.me) l y here of 0 b (first_act y b) (at_top z w g y (first_act y b) (first_top z w g y b y.edges)) in
      let alike : live_between z w g y ≡ live_between z w g l = ap (when (same l.root g)) (edges_same l.me (map with_prepare_sent l.edges) l.edges (λ c. sent_peers c l.edges)) in
      omega (arith, all, alike)

  module _ (p : Place) (k : NodeState) (from to : BranchId) where
    idle : (n : ℕ) → Keeps k n (nothing k)
    idle n = omega arith

    module _ (l : Live) (found : live_at k to ≡ Some l) (of : same l.root g ≡ true) where
      me : l.me ≡ to
      me = item_is live_id k.lives to l found

      here : live_at k l.me ≡ Some l
      here = subst (λ b. live_at k b ≡ Some l) (sym me) found

      prepares_so : (n : ℕ) (b : Bool) (comment : List ℕ) (phase : Phase) → Keeps k n (prepare_in k l b comment phase)
      prepares_so n b comment phases.Working = (let all = collect_keeps k l here of b comment in omega (arith, all))
      prepares_so n b comment (phases.Collecting c) = idle n
      prepares_so n b comment phases.Ready = idle n

      answers_so : (n : ℕ) (v : Vote) (phase : Phase) → Keeps k n (answer_in k l from v phase)
      answers_so n v phases.Working = idle n
      answers_so n v phases.Ready = idle n
      answers_so n v (phases.Collecting b) =
          let y : Live = voted l from v in
          let all = act_between z w g k l y here of 0 b (answer_act y b v) (at_top z w g y (answer_act y b v) (answer_top z w g y b v)) in
          let alike : live_between z w g y ≡ live_between z w g l = ap (when (same l.root g)) (edges_same l.me (map (has_voted from v) l.edges) l.edges (λ c. voted_peers from v c l.edges)) in
          cond_both (is_first_answer l from) (act_turn k y b (answer_act y b v)) (nothing k) (Keeps k n) (λ first. omega (arith, all, alike)) (λ again. idle n)

      points_so : l.parent ≡ Some from → (phase : Phase) → Keeps k (tok from to kinds.CommitPoint) (commit_point_in k l phase)
      points_so parent phases.Working = idle (tok from to kinds.CommitPoint)
      points_so parent (phases.Collecting b) = idle (tok from to kinds.CommitPoint)
      points_so parent phases.Ready = act_low (commit_point_act (step l))
        where
          up : (q : BranchId) → l.parent ≡ Some q → when (same l.me z) (on q w) ≤ tok from to kinds.CommitPoint
          up q is =
              let both : Some from ≡ Some q = sym parent ∙ is in
              let it : from ≡ q = cc in
              let one : when (same l.me z) (on q w) ≡ when (same to z) (on from w) = ap (λ b. when (same b z) (on q w)) me ∙ ap (λ b. when (same to z) (on b w)) (sym it) in
              let two = turned (same to z) (same from w) in
              omega (arith, one, two)

          act_low : (a : _) → Keeps k (tok from to kinds.CommitPoint) (act_turn k l true a)
          act_low a = (let all = act_between z w g k l l here of (tok from to kinds.CommitPoint) true a (λ passing. up) in omega (arith, all))

      pub live_keeps : (kind : Kind) → (kind ≡ kinds.CommitPoint → l.parent ≡ Some from) → in_course kind ≡ true → disturbs kind ≡ false → Keeps k (tok from to kind) (kind_turn p k from to kind (Is_live (record { live = l; work = work_at k l.me })))
      live_keeps (kinds.Prepare b comment) up so calm = prepares_so 0 b comment l.phase
      live_keeps kinds.Prepared up so calm = answers_so 0 votes.Prepared l.phase
      live_keeps kinds.ReadOnly up so calm = answers_so 0 votes.ReadOnly l.phase
      live_keeps kinds.Ready up so calm = answers_so 0 votes.Ready l.phase
      live_keeps kinds.Abort up so calm = answers_so 0 votes.Abort l.phase
      live_keeps kinds.CommitPoint up so calm = points_so (up refl) l.phase
      live_keeps (kinds.Committed n) up so calm = idle (tok from to (kinds.Committed n))
      live_keeps kinds.Ack up so calm = idle (tok from to kinds.Ack)
      live_keeps kinds.Forgotten up so calm = idle 0
      live_keeps kinds.Rollback up so calm = absurd cc
      live_keeps kinds.RolledBack up so calm = absurd cc
      live_keeps (kinds.Open i r d a) up so calm = absurd cc
      live_keeps (kinds.Opened i r) up so calm = absurd cc
      live_keeps (kinds.Exec i task) up so calm = absurd cc
      live_keeps (kinds.Reply i r d s) up so calm = absurd cc
      live_keeps kinds.InDoubt up so calm = absurd cc
      live_keeps kinds.Ask up so calm = absurd cc

    module _ (s : KeptRow) (found : kept_row_at k to ≡ Some s) (of : same s.root g ≡ true) (once : count_of kept_row_id to k.stored.durable.kept ≤ 1) where
      own : s.me ≡ to
      own = item_is kept_row_id k.stored.durable.kept to s found

      there : kept_row_at k s.me ≡ Some s
      there = subst (λ b. kept_row_at k b ≡ Some s) (sym own) found

      one : count_of kept_row_id s.me k.stored.durable.kept ≤ 1
      one = subst (λ b. count_of kept_row_id b k.stored.durable.kept ≤ 1) (sym own) once

      again_so : Keeps k 0 (if is_asked_again s from then saying k (post s.me from kinds.Prepared) else nothing k)
      again_so = cond_both (is_asked_again s from) (saying k (post s.me from kinds.Prepared)) (nothing k) (Keeps k 0) (λ is. omega arith) (λ other. omega arith)

      known_so : (o : Option Decision) → Keeps k (tok from to kinds.CommitPoint) (commit_point_known k s from o)
      known_so None = idle (tok from to kinds.CommitPoint)
      known_so (Some (decisions.Commit n)) =
          (let alike : when (same s.me z) (on from w) ≡ when (same to z) (on from w) = ap (λ b. when (same b z) (on from w)) own in
          let two = turned (same to z) (same from w) in
          omega (arith, alike, two))
      known_so (Some decisions.Rollback) = omega arith

      commits_so : (n : ℕ) → Keeps k (tok from to (kinds.Committed n)) (kind_turn p k from to (kinds.Committed n) (Is_kept s))
      commits_so n =
          let all = committed_between z w g k s from there of one n in
          let alike : when (same s.me w) (on from z) ≡ when (same to w) (on from z) = ap (λ b. when (same b w) (on from z)) own in
          let two = turned (same to w) (same from z) in
          omega (arith, all, alike, two)

      acks_so : (is_beyond s from ≡ true → all_acked s ≡ false) → Keeps k (tok from to kinds.Ack) (if ack_counts s from then counts_ack k (acked_by s from) from else nothing k)
      acks_so fresh = cond_both (ack_counts s from) (counts_ack k (acked_by s from) from) (nothing k) (Keeps k (tok from to kinds.Ack))
          (λ counts. (let both = and_parts (knows_commit s.decision) (is_beyond s from) counts in
          let all = noted_between z w g k s from there of one both.0 (fresh both.1) in
          let alike : when (same s.me z) (on from w) ≡ when (same to z) (on from w) = ap (λ b. when (same b z) (on from w)) own in
          let two = turned (same to z) (same from w) in
          omega (arith, all, alike, two)))
          (λ other. idle (tok from to kinds.Ack))

      pub kept_keeps : (kind : Kind) → (kind ≡ kinds.Ack → is_beyond s from ≡ true → all_acked s ≡ false) → in_course kind ≡ true → disturbs kind ≡ false → Keeps k (tok from to kind) (kind_turn p k from to kind (Is_kept s))
      kept_keeps (kinds.Prepare b comment) fresh so calm = again_so
      kept_keeps kinds.Prepared fresh so calm = idle 0
      kept_keeps kinds.ReadOnly fresh so calm = idle 0
      kept_keeps kinds.Ready fresh so calm = idle 0
      kept_keeps kinds.Abort fresh so calm = idle 0
      kept_keeps kinds.CommitPoint fresh so calm = known_so s.decision
      kept_keeps (kinds.Committed n) fresh so calm = commits_so n
      kept_keeps kinds.Ack fresh so calm = acks_so (fresh refl)
      kept_keeps kinds.Forgotten fresh so calm = forgotten_between z w g k s from there of one
      kept_keeps kinds.Rollback fresh so calm = absurd cc
      kept_keeps kinds.RolledBack fresh so calm = absurd cc
      kept_keeps (kinds.Open i r d a) fresh so calm = absurd cc
      kept_keeps (kinds.Opened i r) fresh so calm = absurd cc
      kept_keeps (kinds.Exec i task) fresh so calm = absurd cc
      kept_keeps (kinds.Reply i r d x) fresh so calm = absurd cc
      kept_keeps kinds.InDoubt fresh so calm = absurd cc
      kept_keeps kinds.Ask fresh so calm = absurd cc

    gone_keeps : (kind : Kind) → in_course kind ≡ true → disturbs kind ≡ false → Keeps k (tok from to kind) (kind_turn p k from to kind Is_gone)
    gone_keeps (kinds.Prepare b comment) so calm = omega arith
    gone_keeps kinds.Prepared so calm = idle 0
    gone_keeps kinds.ReadOnly so calm = idle 0
    gone_keeps kinds.Ready so calm = idle 0
    gone_keeps kinds.Abort so calm = idle 0
    gone_keeps kinds.CommitPoint so calm = omega arith
    gone_keeps (kinds.Committed n) so calm = (let two = turned (same to w) (same from z) in omega (arith, two))
    gone_keeps kinds.Ack so calm = omega arith
    gone_keeps kinds.Forgotten so calm = idle 0
    gone_keeps kinds.Rollback so calm = absurd cc
    gone_keeps kinds.RolledBack so calm = absurd cc
    gone_keeps (kinds.Open i r d a) so calm = absurd cc
    gone_keeps (kinds.Opened i r) so calm = absurd cc
    gone_keeps (kinds.Exec i task) so calm = absurd cc
    gone_keeps (kinds.Reply i r d s) so calm = absurd cc
    gone_keeps kinds.InDoubt so calm = absurd cc
    gone_keeps kinds.Ask so calm = absurd cc

    -- What is to be known of the receiver.
    pub record Told (kind : Kind) : Type 0 where
      pub mine : (l : Live) → live_at k to ≡ Some l → same l.root g ≡ true
      pub up : (l : Live) → live_at k to ≡ Some l → kind ≡ kinds.CommitPoint → l.parent ≡ Some from
      pub rows : (s : KeptRow) → kept_row_at k to ≡ Some s → same s.root g ≡ true
      pub once : count_of kept_row_id to k.stored.durable.kept ≤ 1
      pub fresh : (s : KeptRow) → kept_row_at k to ≡ Some s → kind ≡ kinds.Ack → is_beyond s from ≡ true → all_acked s ≡ false

    pub turn_keeps : (kind : Kind) → Told kind → in_course kind ≡ true → disturbs kind ≡ false → Keeps k (tok from to kind) (kind_turn p k from to kind (status_of k to))
    turn_keeps kind told so calm = by_live (live_at k to) refl
      where
        by_row : (o : Option KeptRow) → live_at k to ≡ None → kept_row_at k to ≡ o → Keeps k (tok from to kind) (kind_turn p k from to kind (status_of k to))
        by_row None none is = subst (λ (x : BranchStatus). Keeps k (tok from to kind) (kind_turn p k from to kind x)) (sym (stand_kept k to None none is)) (gone_keeps kind so calm)
        by_row (Some s) none is = subst (λ (x : BranchStatus). Keeps k (tok from to kind) (kind_turn p k from to kind x)) (sym (stand_kept k to (Some s) none is)) (kept_keeps s is (told.rows s is) told.once kind (told.fresh s is) so calm)

        by_live : (o : Option Live) → live_at k to ≡ o → Keeps k (tok from to kind) (kind_turn p k from to kind (status_of k to))
        by_live None is = by_row (kept_row_at k to) is refl
        by_live (Some l) is = subst (λ (x : BranchStatus). Keeps k (tok from to kind) (kind_turn p k from to kind x)) (sym (stand_live k to l is)) (live_keeps l is (told.mine l is) kind (told.up l is) so calm)
