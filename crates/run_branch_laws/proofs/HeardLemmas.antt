-- Each step leaves it true what live branches hold of their children's answers and what rows hold of Acks.
use Rattle.std.proofs.Common.{◌≡◌, ℕ, zero, suc, ◌≤◌, Bool, List, [], ◌∷◌, map, Some, refl, sym, subst, arith}
use Rattle.std.specs.List.{AllByRecursion}
use Rattle.std.proofs.lemmas.Bool.{cond_both, and_parts}
use Rattle.tran_ids.proofs.BranchLemmas.{equal_from_same}
use Rattle.agreement.specs.Events.{Quiet, Event, Send_vote, Send_ack, exit, Has}
use Rattle.session_tree.specs.Live.{new_edge}
use Rattle.node_rules.specs.Data.{BranchId, Edge, Vote, Kind, Live, KeptRow, Place, Input}
use Rattle.node_rules.specs.Data.votes
use Rattle.node_rules.specs.Data.kinds
use Rattle.node_rules.specs.Words.{same, numbered, set_numbered}
use Rattle.node_rules.specs.Inputs.{Came}
use Rattle.node_rules.specs.NodeState.{NodeState, TurnDraft}
use Rattle.node_rules.specs.Prepare.{with_prepare_sent, voted, has_voted, is_awaited, answers_first}
use Rattle.node_rules.specs.Commit.{acked_by}
use Rattle.node_rules.proofs.Steps.{Step, Answers, vote_kind}
use Rattle.run_branch_laws.specs.HeardLaws.{VoteIs, EdgeIs, AnswersAre, AcksAre}
use Rattle.run_rules.proofs.ListLemmas.{all_weaker, all_append, all_map, all_each}
use Rattle.run_base_laws.proofs.ClockLemmas.{since}
use Rattle.run_base_laws.proofs.RowRecordLemmas.{any_record}
use Rattle.run_base_laws.proofs.KeptStepLemmas.{rows_on}
use Rattle.run_base_laws.proofs.LiveStepLemmas.{LiveCases, nothing_lasts, acting_by, left_by, lives_on}
use Rattle.run_base_laws.proofs.LaterLemmas.{Added, exit_later, has_later}
use Rattle.run_base_laws.proofs.NeighborLemmas.{reply_is}
use Rattle.run_branch_laws.proofs.HeldAckLemmas.{each_row, acked_so as held_so, wider_acks}
use Rattle.run_branch_laws.proofs.PhaseLemmas.{slice_all, slice_set_all}

-- ---- rows

-- an Ack that was sent
abbrev pub Sent : List Event → BranchId → BranchId → Type 0
Sent t b me = Has (Send_ack b me) t

-- one more Ack is held
pub acked_so : (t : List Event) (s : KeptRow) (from : BranchId) → Has (Send_ack from s.me) t → AcksAre t s → AcksAre t (acked_by s from)
acked_so t s from sent is = held_so (Sent t) s from sent is

-- ---- more events, a later clock

later_vote : {Q : Event → Type 0} {t r : List Event} → Added Q t r → (clock : ℕ) (b : BranchId) (v : Vote) → VoteIs t clock b v → VoteIs r clock b v
later_vote more clock b votes.Prepared is = (is.0, has_later (Send_vote b is.0) more is.1, is.2)
later_vote more clock b votes.ReadOnly is = exit_later b Quiet more is
later_vote more clock b _ is = tt

pub later_answers : {Q : Event → Type 0} {t r : List Event} → Added Q t r → (clock : ℕ) (ls : List Live) → AllByRecursion (AnswersAre t clock) ls → AllByRecursion (AnswersAre r clock) ls
later_answers {t = t} {r = r} more clock ls all =
    all_weaker (AnswersAre t clock) (AnswersAre r clock) (λ l is. all_weaker (EdgeIs t clock) (EdgeIs r clock) (λ e so. later_vote more clock e.peer e.vote so) l.edges is) ls all

pub later_acks : {Q : Event → Type 0} {t r : List Event} → Added Q t r → (ks : List KeptRow) → AllByRecursion (AcksAre t) ks → AllByRecursion (AcksAre r) ks
later_acks {t = t} {r = r} more ks all = wider_acks (Sent t) (Sent r) (λ c b sent. has_later (Send_ack c b) more sent) ks all

risen_vote : (t : List Event) (c d : ℕ) (b : BranchId) (v : Vote) → c ≤ d → VoteIs t c b v → VoteIs t d b v
risen_vote t c d b votes.Prepared up is = (is.0, is.1, omega (arith, is.2, up))
risen_vote t c d b votes.ReadOnly up is = is
risen_vote t c d b _ up is = tt

pub risen_answers : (t : List Event) (c d : ℕ) → c ≤ d → (ls : List Live) → AllByRecursion (AnswersAre t c) ls → AllByRecursion (AnswersAre t d) ls
risen_answers t c d up ls all = all_weaker (AnswersAre t c) (AnswersAre t d) (λ l is. all_weaker (EdgeIs t c) (EdgeIs t d) (λ e so. risen_vote t c d e.peer e.vote up so) l.edges is) ls all

-- ---- steps

-- What is known of an answer or an Ack that comes.
abbrev pub HeardSo : List Event → ℕ → BranchId → BranchId → Kind → Type 0
HeardSo t clock from to kinds.Prepared = (j : ℕ) × Has (Send_vote from j) t × (j ≤ clock)
HeardSo t clock from to kinds.ReadOnly = exit t from ≡ Some Quiet
HeardSo t clock from to kinds.Ack = Has (Send_ack from to) t
HeardSo t clock from to _ = Unit {0}

module _ (t : List Event) (c : ℕ) (p : Place) (input : Input) (heard : (from to : BranchId) (kind : Kind) → Came input from to kind → HeardSo t c from to kind) where
  vote_heard : (from to : BranchId) (v : Vote) (kind : Kind) → vote_kind v ≡ Some kind → HeardSo t c from to kind → VoteIs t c from v
  vote_heard from to votes.Prepared kinds.Prepared is so = so
  vote_heard from to votes.Prepared _ is so = absurd cc
  vote_heard from to votes.ReadOnly kinds.ReadOnly is so = so
  vote_heard from to votes.ReadOnly _ is so = absurd cc
  vote_heard from to _ kind is so = tt

  -- a child's answer
  answer_is : {l : Live} {from : BranchId} {v : Vote} {site_below : Bool} → Answers input l from v site_below → VoteIs t c from v
  answer_is {l = l} {from = from} {v = v} answers = vote_heard from l.me v answers.kind answers.is_vote (heard from l.me answers.kind answers.came)

  -- an edge of which more is known
  known_edges : (clock : ℕ) (es : List Edge) (i : ℕ) (e x : Edge) → numbered es i ≡ Some e → x.peer ≡ e.peer → x.vote ≡ e.vote → AllByRecursion (EdgeIs t clock) es → AllByRecursion (EdgeIs t clock) (set_numbered es i x)
  known_edges clock es zero e x at peer vote all = all
  known_edges clock es (suc i) e x at peer vote all =
      slice_set_all (EdgeIs t clock) es i x all (subst (λ b. VoteIs t clock b x.vote) (sym peer) (subst (VoteIs t clock e.peer) (sym vote) (slice_all (EdgeIs t clock) es i e all at)))

  module _ (clock : ℕ) (met : c ≤ clock) where
    asked_down : (es : List Edge) → AllByRecursion (EdgeIs t clock) (map with_prepare_sent es)
    asked_down es = all_each (EdgeIs t clock) with_prepare_sent es (λ e. tt)

    voted_so : (l : Live) (from : BranchId) (v : Vote) → VoteIs t c from v → AnswersAre t clock l → AnswersAre t clock (voted l from v)
    voted_so l from v so old =
        all_map (EdgeIs t clock) (has_voted from v) l.edges
        (all_weaker (EdgeIs t clock) _ (λ e is. cond_both (answers_first from e) (record e { vote = v }) e (EdgeIs t clock)
        (λ first. subst (λ b. VoteIs t clock b v) (sym (equal_from_same e.peer from (and_parts (same e.peer from) (is_awaited e.vote) first).0)) (risen_vote t c clock from v met so)) (λ other. is)) l.edges old)

    each : LiveCases p input (λ k. Unit {0}) (λ d. Unit {0}) (AnswersAre t clock)
    each = record {
      lasts = nothing_lasts p input;
      root = λ k n s read_at call begins free known. tt;
      child = λ k to parent edge root depth read_at came new known. tt;
      advised = λ l advice so. so;
      runs = λ k x s table so. so;
      backs = λ l changed so. so;
      opens = λ k x from strength g link opened known so. all_append (EdgeIs t clock) x.live.edges (new_edge from link strength ∷ []) so (tt, tt);
      replies = λ k x weight count a i e answered so. known_edges clock x.live.edges i e _ (reply_is x answered.from answered.call i e answered.waits) refl refl so;
      acts = λ k l below a why known q all.
          left_by (AnswersAre t clock) l a (λ says so. so)
          (acting_by (AnswersAre t clock) (λ x comment b live begins so. asked_down x.edges) (λ x from v b answers so. voted_so x from v (answer_is answers) so) all why);
    }

  pub answers_on : {k : NodeState} {d : TurnDraft} → Step p input k d → c ≤ k.clock → AllByRecursion (AnswersAre t k.clock) k.lives → AllByRecursion (AnswersAre t d.after.clock) d.after.lives
  answers_on {k = k} {d = d} step met all = risen_answers t k.clock d.after.clock (since p input k.clock step (omega arith)).0 d.after.lives (lives_on (each k.clock met) step tt tt all)

  -- the rows of the node
  pub acks_on : {k : NodeState} {d : TurnDraft} → Step p input k d → AllByRecursion (AcksAre t) k.stored.durable.kept → AllByRecursion (AcksAre t) d.after.stored.durable.kept
  acks_on {d = d} step all = rows_on (each_row (Sent t)) (nothing_lasts p input) (λ k s from kept came known so. acked_so t s from (heard from s.me kinds.Ack came) so) step tt (any_record d.wrote) all
