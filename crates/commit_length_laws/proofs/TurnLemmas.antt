-- What a delivery in the course of a COMMIT costs: less than the message and its branch were worth.
use Rattle.std.proofs.Common.{◌≡◌, ℕ, ◌+◌, ◌*◌, ◌≤◌, Bool, true, false, if◌then◌else◌, List, [], ◌∷◌, map, length, Option, Some, None, refl, sym, ap, subst, ◌∙◌, arith}
use Rattle.std.specs.List.{AllByRecursion}
use Rattle.std.proofs.lemmas.Bool.{cond_both, and_parts}
use Rattle.tran_ids.proofs.ListedLemmas.{item_is}
use Rattle.prepare_phase.specs.Acts.{is_first_answer}
use Rattle.session_tree.specs.Tree.{step}
use Rattle.node_rules.specs.Data.{BranchId, Decision, Edge, Kind, Live, Phase, Place, Post, KeptRow, Vote}
use Rattle.node_rules.specs.Data.acts
use Rattle.node_rules.specs.Data.decisions
use Rattle.node_rules.specs.Data.kinds
use Rattle.node_rules.specs.Data.phases
use Rattle.node_rules.specs.Data.votes
use Rattle.node_rules.specs.Words.{same}
use Rattle.node_rules.specs.Commit.{acked_by, all_acked, ack_counts, is_beyond, is_asked_again, knows_commit, next_on_decision, next_on_ack, next_on_forgotten, counts_ack, commit_point_known}
use Rattle.node_rules.specs.NodeState.{NodeState, TurnDraft, live_id, live_at, work_at, with_work, kept_row_id, kept_row_at, with_kept_row, nothing, saying, post}
use Rattle.node_rules.specs.Prepare.{act_turn, collecting, with_comment, without_read_keys, first_act, first_act_by, prepare_in, answer_in, answer_act, next_act, all_answered, collected_act, voted, has_voted, with_prepare_sent, commit_point_in, commit_point_act}
use Rattle.node_rules.specs.Turn.{BranchStatus, Is_live, Is_kept, Is_gone, kept_or_gone, live_or, status_of, kind_turn}
use Rattle.run_rules.specs.Trail.{is_prepare}
use Rattle.run_claims.specs.Undisturbed.{disturbs}
use Rattle.commit_length_laws.proofs.WorthLemmas.{says_worth, live_low, live_is, asked_worth, sent_worth, map_length}
use Rattle.commit_length_laws.proofs.ActLemmas.{act_cost, act_low, collected_cost, point_cost}
use Rattle.commit_length_laws.proofs.KeptLemmas.{committed_costs, forgotten_costs, noted_costs}
use Rattle.commit_length_laws.proofs.SayLemmas.{in_course, SaidSo, WorksOn, act_said, act_works, next_said, next_works}
use Rattle.commit_laws.proofs.TurnLemmas.{stand_live}
use Rattle.commit_length_laws.specs.Worth.{phase_worth, live_worth, node_worth, worth}

pub stand_kept : (k : NodeState) (b : BranchId) (o : Option KeptRow) → live_at k b ≡ None → kept_row_at k b ≡ o → status_of k b ≡ kept_or_gone o
unfolding status_of
stand_kept k b o is row = ap (λ x. live_or (with_work k x) (kept_row_at k b)) is ∙ ap kept_or_gone row

module _ (g : BranchId) (ask : BranchId → ℕ) where
  abbrev held : NodeState → ℕ
  held k = node_worth g k

  -- A turn of a branch costs at most so much, says what belongs to the course, and makes nobody work.
  pub record Fits (k : NodeState) (to : BranchId) (w : ℕ) (d : TurnDraft) : Type 0 where
    pub less : 1 + says_worth ask d.says + held d.after ≤ w + held k
    pub said : AllByRecursion (SaidSo to) d.says
    pub works : WorksOn k d.after

  -- ---- acts

  pub first_cost : (l : Live) (b : Bool) (es : List Edge) → l.phase ≡ phases.Collecting b → act_cost g ask l (first_act_by l b es) ≤ (6 + 4 * length l.edges) + asked_worth ask l.edges
  first_cost l b [] is = (let few = collected_cost g ask l b in omega (arith, few))
  first_cost l b (e ∷ es) is =
      let few : live_worth g l ≤ phase_worth l.phase (length l.edges) = live_low g l in
      let full : phase_worth l.phase (length l.edges) ≡ 6 + 4 * length l.edges = ap (λ p. phase_worth p (length l.edges)) is in
      omega (arith, few, full)

  next_cost : (l : Live) (b : Bool) → l.phase ≡ phases.Collecting b → act_cost g ask l (next_act l b) ≤ 6 + 4 * length l.edges
  next_cost l b is =
      let few : live_worth g l ≤ phase_worth l.phase (length l.edges) = live_low g l in
      let full : phase_worth l.phase (length l.edges) ≡ 6 + 4 * length l.edges = ap (λ p. phase_worth p (length l.edges)) is in
      cond_both (all_answered l) (collected_act l b) acts.Rest (λ a. act_cost g ask l a ≤ 6 + 4 * length l.edges) (λ all. collected_cost g ask l b) (λ some. omega (arith, few, full))

  answer_cost : (l : Live) (b : Bool) (v : Vote) → l.phase ≡ phases.Collecting b → act_cost g ask l (answer_act l b v) ≤ 6 + 4 * length l.edges
  answer_cost l b votes.Abort is = omega arith
  answer_cost l b votes.Unasked is = next_cost l b is
  answer_cost l b votes.Asked is = next_cost l b is
  answer_cost l b votes.Prepared is = next_cost l b is
  answer_cost l b votes.ReadOnly is = next_cost l b is
  answer_cost l b votes.Ready is = next_cost l b is

  module _ (p : Place) (k : NodeState) (from to : BranchId) where
    idle : (w : ℕ) → 1 ≤ w → Fits k to w (nothing k)
    idle w some = record { less = omega (arith, some); said = tt; works = λ c y at works. at }

    one : (w : ℕ) (kind : Kind) → 1 + worth ask from kind ≤ w → in_course kind ≡ true → (me : BranchId) → me ≡ to → Fits k to w (saying k (post me from kind))
    one w kind some so me is = record { less = omega (arith, some); said = ((is, so), tt); works = λ c y at works. at }

    module _ (l : Live) (found : live_at k to ≡ Some l) (of : same l.root g ≡ true) (asks : 2 ≤ ask to) where
      me : l.me ≡ to
      me = item_is live_id k.lives to l found

      here : live_at k l.me ≡ Some l
      here = subst (λ b. live_at k b ≡ Some l) (sym me) found

      said_here : (ms : List Post) → AllByRecursion (SaidSo l.me) ms → AllByRecursion (SaidSo to) ms
      said_here ms all = subst (λ b. AllByRecursion (SaidSo b) ms) me all

      prepares_so : (b : Bool) (comment : List ℕ) (phase : Phase) → l.phase ≡ phase → (l.phase ≡ phases.Working → 7 + asked_worth ask l.edges + 4 * length l.edges ≤ ask to) → Fits k to (ask to) (prepare_in k l b comment phase)
      prepares_so b comment phases.Working is works =
          let y : Live = collecting (with_comment l comment) b in
          let cost : act_cost g ask y (first_act y b) ≤ (6 + 4 * length y.edges) + asked_worth ask y.edges = first_cost y b y.edges refl in
          let many : length (map with_prepare_sent l.edges) ≡ length l.edges = map_length with_prepare_sent l.edges in
          let alike : asked_worth ask (map with_prepare_sent l.edges) ≡ asked_worth ask l.edges = sent_worth ask l.edges in
          let all = act_low g ask (without_read_keys k l.me) l y here b (first_act y b) in
          let enough = works is in
          record {
            less = omega (arith, cost, many, alike, all, enough);
            said = said_here _ (act_said (without_read_keys k l.me) y b (first_act y b));
            works = act_works (without_read_keys k l.me) y (λ same. absurd cc) b (first_act y b);
          }
      prepares_so b comment (phases.Collecting c) is works = idle (ask to) (omega (arith, asks))
      prepares_so b comment phases.Ready is works = idle (ask to) (omega (arith, asks))

      answers_so : (v : Vote) (phase : Phase) → l.phase ≡ phase → Fits k to 1 (answer_in k l from v phase)
      answers_so v phases.Working is = idle 1 (omega arith)
      answers_so v phases.Ready is = idle 1 (omega arith)
      answers_so v (phases.Collecting b) is =
          let y : Live = voted l from v in
          let cost : act_cost g ask y (answer_act y b v) ≤ 6 + 4 * length y.edges = answer_cost y b v is in
          let many : length (map (has_voted from v) l.edges) ≡ length l.edges = map_length (has_voted from v) l.edges in
          let all = act_low g ask k l y here b (answer_act y b v) in
          let had : live_worth g l ≡ 6 + 4 * length l.edges = live_is g l of ∙ ap (λ q. phase_worth q (length l.edges)) is in
          cond_both (is_first_answer l from) (act_turn k y b (answer_act y b v)) (nothing k) (Fits k to 1)
          (λ first. record {
            less = omega (arith, cost, many, all, had);
            said = said_here _ (act_said k y b (answer_act y b v));
            works = act_works k y (λ working. (let both : phases.Collecting b ≡ phases.Working = sym is ∙ working in absurd cc)) b (answer_act y b v);
          }) (λ again. idle 1 (omega arith))

      points_so : (phase : Phase) → l.phase ≡ phase → Fits k to 4 (commit_point_in k l phase)
      points_so phases.Working is = idle 4 (omega arith)
      points_so (phases.Collecting b) is = idle 4 (omega arith)
      points_so phases.Ready is =
          let cost = point_cost g ask l (step l) is in
          let all = act_low g ask k l l here true (commit_point_act (step l)) in
          let had : live_worth g l ≡ 5 + 4 * length l.edges = live_is g l of ∙ ap (λ q. phase_worth q (length l.edges)) is in
          record {
            less = omega (arith, cost, all, had);
            said = said_here _ (act_said k l true (commit_point_act (step l)));
            works = act_works k l (λ working. (let both : phases.Ready ≡ phases.Working = sym is ∙ working in absurd cc)) true (commit_point_act (step l));
          }

      pub live_fits : (kind : Kind) → (l.phase ≡ phases.Working → is_prepare kind ≡ true → 7 + asked_worth ask l.edges + 4 * length l.edges ≤ ask to) → in_course kind ≡ true → disturbs kind ≡ false → Fits k to (worth ask to kind) (kind_turn p k from to kind (Is_live (record { live = l; work = work_at k l.me })))
      live_fits (kinds.Prepare b comment) works so calm = prepares_so b comment l.phase refl (λ is. works is refl)
      live_fits kinds.Prepared works so calm = answers_so votes.Prepared l.phase refl
      live_fits kinds.ReadOnly works so calm = answers_so votes.ReadOnly l.phase refl
      live_fits kinds.Ready works so calm = answers_so votes.Ready l.phase refl
      live_fits kinds.Abort works so calm = answers_so votes.Abort l.phase refl
      live_fits kinds.CommitPoint works so calm = points_so l.phase refl
      live_fits (kinds.Committed n) works so calm = idle 3 (omega arith)
      live_fits kinds.Ack works so calm = idle 2 (omega arith)
      live_fits kinds.Forgotten works so calm = idle 1 (omega arith)
      live_fits kinds.Rollback works so calm = absurd cc
      live_fits kinds.RolledBack works so calm = absurd cc
      live_fits (kinds.Open i r d a) works so calm = absurd cc
      live_fits (kinds.Opened i r) works so calm = absurd cc
      live_fits (kinds.Exec i task) works so calm = absurd cc
      live_fits (kinds.Reply i r d s) works so calm = absurd cc
      live_fits kinds.InDoubt works so calm = absurd cc
      live_fits kinds.Ask works so calm = absurd cc

    module _ (s : KeptRow) (found : kept_row_at k to ≡ Some s) (of : same s.root g ≡ true) (asks : 2 ≤ ask to) where
      own : s.me ≡ to
      own = item_is kept_row_id k.stored.durable.kept to s found

      there : kept_row_at k s.me ≡ Some s
      there = subst (λ b. kept_row_at k b ≡ Some s) (sym own) found

      said_there : (ms : List Post) → AllByRecursion (SaidSo s.me) ms → AllByRecursion (SaidSo to) ms
      said_there ms all = subst (λ b. AllByRecursion (SaidSo b) ms) own all

      again_so : Fits k to (ask to) (if is_asked_again s from then saying k (post s.me from kinds.Prepared) else nothing k)
      again_so = cond_both (is_asked_again s from) (saying k (post s.me from kinds.Prepared)) (nothing k) (Fits k to (ask to)) (λ is. one (ask to) kinds.Prepared (omega (arith, asks)) refl s.me own) (λ other. idle (ask to) (omega (arith, asks)))

      known_so : (o : Option Decision) → Fits k to 4 (commit_point_known k s from o)
      known_so None = idle 4 (omega arith)
      known_so (Some (decisions.Commit n)) = one 4 (kinds.Committed n) (omega arith) refl s.me own
      known_so (Some decisions.Rollback) = one 4 kinds.RolledBack (omega arith) refl s.me own

      acks_so : (is_beyond s from ≡ true → all_acked s ≡ false) → Fits k to 2 (if ack_counts s from then counts_ack k (acked_by s from) from else nothing k)
      acks_so fresh = cond_both (ack_counts s from) (counts_ack k (acked_by s from) from) (nothing k) (Fits k to 2)
          (λ counts. (let both = and_parts (knows_commit s.decision) (is_beyond s from) counts in
          let cost = noted_costs g ask k s from there of both.0 (fresh both.1) in
          record {
            less = omega (arith, cost);
            said = said_there _ (next_said (with_kept_row k (acked_by s from)) (acked_by s from) from (next_on_ack (acked_by s from)));
            works = next_works (with_kept_row k (acked_by s from)) (acked_by s from) from (next_on_ack (acked_by s from));
          })) (λ other. idle 2 (omega arith))

      pub kept_fits : (kind : Kind) → (kind ≡ kinds.Ack → is_beyond s from ≡ true → all_acked s ≡ false) → in_course kind ≡ true → disturbs kind ≡ false → Fits k to (worth ask to kind) (kind_turn p k from to kind (Is_kept s))
      kept_fits (kinds.Prepare b comment) fresh so calm = again_so
      kept_fits kinds.Prepared fresh so calm = idle 1 (omega arith)
      kept_fits kinds.ReadOnly fresh so calm = idle 1 (omega arith)
      kept_fits kinds.Ready fresh so calm = idle 1 (omega arith)
      kept_fits kinds.Abort fresh so calm = idle 1 (omega arith)
      kept_fits kinds.CommitPoint fresh so calm = known_so s.decision
      kept_fits (kinds.Committed n) fresh so calm = record {
        less = committed_costs g ask k s from there of n;
        said = said_there _ (next_said k s from (next_on_decision s from (decisions.Commit n)));
        works = next_works k s from (next_on_decision s from (decisions.Commit n));
      }
      kept_fits kinds.Ack fresh so calm = acks_so (fresh refl)
      kept_fits kinds.Forgotten fresh so calm = record {
        less = forgotten_costs g ask k s from there of;
        said = said_there _ (next_said k s from (next_on_forgotten s from));
        works = next_works k s from (next_on_forgotten s from);
      }
      kept_fits kinds.Rollback fresh so calm = absurd cc
      kept_fits kinds.RolledBack fresh so calm = absurd cc
      kept_fits (kinds.Open i r d a) fresh so calm = absurd cc
      kept_fits (kinds.Opened i r) fresh so calm = absurd cc
      kept_fits (kinds.Exec i task) fresh so calm = absurd cc
      kept_fits (kinds.Reply i r d s') fresh so calm = absurd cc
      kept_fits kinds.InDoubt fresh so calm = absurd cc
      kept_fits kinds.Ask fresh so calm = absurd cc

    gone_fits : 2 ≤ ask to → (kind : Kind) → in_course kind ≡ true → disturbs kind ≡ false → Fits k to (worth ask to kind) (kind_turn p k from to kind Is_gone)
    gone_fits asks (kinds.Prepare b comment) so calm = one (ask to) kinds.Abort (omega (arith, asks)) refl to refl
    gone_fits asks kinds.Prepared so calm = idle 1 (omega arith)
    gone_fits asks kinds.ReadOnly so calm = idle 1 (omega arith)
    gone_fits asks kinds.Ready so calm = idle 1 (omega arith)
    gone_fits asks kinds.Abort so calm = idle 1 (omega arith)
    gone_fits asks kinds.CommitPoint so calm = one 4 kinds.RolledBack (omega arith) refl to refl
    gone_fits asks (kinds.Committed n) so calm = one 3 kinds.Ack (omega arith) refl to refl
    gone_fits asks kinds.Ack so calm = one 2 kinds.Forgotten (omega arith) refl to refl
    gone_fits asks kinds.Forgotten so calm = idle 1 (omega arith)
    gone_fits asks kinds.Rollback so calm = absurd cc
    gone_fits asks kinds.RolledBack so calm = absurd cc
    gone_fits asks (kinds.Open i r d a) so calm = absurd cc
    gone_fits asks (kinds.Opened i r) so calm = absurd cc
    gone_fits asks (kinds.Exec i task) so calm = absurd cc
    gone_fits asks (kinds.Reply i r d s) so calm = absurd cc
    gone_fits asks kinds.InDoubt so calm = absurd cc
    gone_fits asks kinds.Ask so calm = absurd cc

    -- What is to be known of the receiver.
    pub record Known (kind : Kind) : Type 0 where
      pub asks : 2 ≤ ask to
      pub mine : (l : Live) → live_at k to ≡ Some l → same l.root g ≡ true
      pub works : (l : Live) → live_at k to ≡ Some l → l.phase ≡ phases.Working → is_prepare kind ≡ true → 7 + asked_worth ask l.edges + 4 * length l.edges ≤ ask to
      pub rows : (s : KeptRow) → kept_row_at k to ≡ Some s → same s.root g ≡ true
      pub fresh : (s : KeptRow) → kept_row_at k to ≡ Some s → kind ≡ kinds.Ack → is_beyond s from ≡ true → all_acked s ≡ false

    -- so a delivery is less than its message was worth
    pub turn_fits : (kind : Kind) → Known kind → in_course kind ≡ true → disturbs kind ≡ false → Fits k to (worth ask to kind) (kind_turn p k from to kind (status_of k to))
    turn_fits kind known so calm = by_live (live_at k to) refl
      where
        by_row : (o : Option KeptRow) → live_at k to ≡ None → kept_row_at k to ≡ o → Fits k to (worth ask to kind) (kind_turn p k from to kind (status_of k to))
        by_row None none is = subst (λ (x : BranchStatus). Fits k to (worth ask to kind) (kind_turn p k from to kind x)) (sym (stand_kept k to None none is)) (gone_fits known.asks kind so calm)
        by_row (Some s) none is = subst (λ (x : BranchStatus). Fits k to (worth ask to kind) (kind_turn p k from to kind x)) (sym (stand_kept k to (Some s) none is)) (kept_fits s is (known.rows s is) known.asks kind (known.fresh s is) so calm)

        by_live : (o : Option Live) → live_at k to ≡ o → Fits k to (worth ask to kind) (kind_turn p k from to kind (status_of k to))
        by_live None is = by_row (kept_row_at k to) is refl
        by_live (Some l) is =
            subst (λ (x : BranchStatus). Fits k to (worth ask to kind) (kind_turn p k from to kind x)) (sym (stand_live k to l is)) (live_fits l is (known.mine l is) known.asks kind (known.works l is) so calm)
