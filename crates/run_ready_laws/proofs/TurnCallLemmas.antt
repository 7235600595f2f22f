-- What a turn of a lawful run leaves of the calls and the transactions of its node's sessions.
use Rattle.std.proofs.Common.{◌≡◌, ℕ, ◌==◌, ◌||◌, Bool, true, false, if◌then◌else◌, List, [], ◌∷◌, ◌++◌, IfSome, replicate, slice_get, unwrap_or, zero, suc, Option, Some, None, refl, sym, ap, subst}
use Rattle.std.proofs.lemmas.Bool.{cond_both}
use Rattle.commit_forget.specs.declared.next.Next.TheVariants as nexts
use Rattle.node_rules.specs.Data.{Stmt, Answer, BranchId, Decision, RedoRecord, Live, Act, Place, Input}
use Rattle.node_rules.specs.Data.acts
use Rattle.node_rules.specs.Data.answers
use Rattle.node_rules.specs.Data.decisions
use Rattle.node_rules.specs.Data.inputs
use Rattle.node_rules.specs.Data.kinds
use Rattle.node_rules.specs.Data.records
use Rattle.node_rules.specs.declared.session.PendingCall.TheVariants as pending
use Rattle.node_rules.specs.declared.session.Session.{Session}
use Rattle.node_rules.specs.declared.session.Finished.{Finished}
use Rattle.node_rules.specs.Inputs.{IsFit}
use Rattle.node_rules.specs.NodeState.{NodeState, TurnDraft}
use Rattle.node_rules.specs.Sessions.{fresh_session, session_at, commit_is_pending, commit_answer}
use Rattle.node_rules.specs.Calls.{answer_ends, hears_reply}
use Rattle.node_rules.specs.Statement.{ran, after_run}
use Rattle.node_rules.specs.Prepare.{abandon_ends, is_alone, act_turn}
use Rattle.node_rules.specs.Commit.{decision_answers}
use Rattle.node_rules.specs.Turn.{turn_of, start_of, heard, draft_of}
use Rattle.node_rules.proofs.Steps as steps
use Rattle.node_rules.proofs.Steps.{Step}
use Rattle.agreement.specs.Events.{Event}
use Rattle.run_rules.specs.Data.{Turn, Happening, Command}
use Rattle.run_rules.specs.Facts.{Facts, first_facts, place_at, node_at, facts_after}
use Rattle.run_rules.specs.Lawful.{IsPlace, MayTurn, MayHappen, Comes}
use Rattle.run_rules.specs.Births.{Born}
use Rattle.run_base_laws.specs.BirthLaws.{Began, NamesAre, GoesSo}
use Rattle.tran_ids.specs.Listed.{numbered}
use Rattle.run_base_laws.proofs.LawfulLemmas.{comes_fit, serves}
use Rattle.run_base_laws.proofs.NodeLemmas.{Goes, Stays, Turns, Is_cut, Stops, Starts, goes_so}
use Rattle.run_base_laws.proofs.EventsStandLemmas.{first_node}
use Rattle.run_base_laws.proofs.BirthsStandLemmas.{came_so}
use Rattle.run_base_laws.proofs.BirthRunLemmas.{StandBorn}
use Rattle.run_base_laws.proofs.RestLemmas.{Before}
use Rattle.run_base_laws.proofs.RestRunLemmas.{NodeRests, RootsStand, heard_rests, heard_before, free_by, asked_parent, before_so}
use Rattle.run_ready_laws.proofs.CallEndLemmas.{pends_at, EndsSo, ends_after, ends_on}
use Rattle.run_ready_laws.proofs.RootLiveLemmas.{RootsLive, RollsBelow, lives_on}
use Rattle.run_ready_laws.proofs.CallMadeLemmas.{read_so}
use Rattle.run_ready_laws.proofs.PendingLemmas.{EndsFew}

-- whether this is the call of a session
abbrev pub made_by : Input → ℕ → Bool
made_by (inputs.Call n s) m = n == m
made_by _ m = false

-- ---- how many calls a turn ends

commit_few : (ss : List Session) (b : BranchId) (a : Answer) → EndsFew (commit_answer ss b a)
commit_few ss b a = cond_both (commit_is_pending ss b) _ [] EndsFew (λ is. tt) (λ other. tt)

answer_few : (l : Live) (a : Answer) (o : Option BranchId) → EndsFew (answer_ends l a o)
answer_few l a None = tt
answer_few l a (Some parent) = tt

decision_few : (ss : List Session) (b : BranchId) (d : Decision) → EndsFew (decision_answers ss b d)
decision_few ss b (decisions.Commit n) = tt
decision_few ss b decisions.Rollback = commit_few ss b _

abandon_few : (ss : List Session) (l : Live) (o : Option BranchId) → EndsFew (abandon_ends ss l o)
abandon_few ss l None = commit_few ss l.me _
abandon_few ss l (Some parent) = tt

alone_few : (ss : List Session) (here : Bool) (b : BranchId) (a : Answer) → EndsFew (if here then commit_answer ss b a else [])
alone_few ss true b a = commit_few ss b a
alone_few ss false b a = tt

act_few : (k : NodeState) (l : Live) (site_below : Bool) (a : Act) → EndsFew (act_turn k l site_below a).ended
act_few k l site_below acts.Decide = alone_few k.sessions (is_alone l) l.me _
act_few k l site_below acts.Finish = commit_few k.sessions l.me _
act_few k l site_below acts.Abandon = abandon_few k.sessions l l.parent
act_few k l site_below acts.Rest = tt
act_few k l site_below acts.AskDown = tt
act_few k l site_below acts.SayReadOnly = tt
act_few k l site_below acts.SayReady = tt
act_few k l site_below acts.Seal = tt
act_few k l site_below (acts.SealAndPass i) = tt

-- a COMMIT that is refused, and a statement
forced_few : (ss : List Session) (b : BranchId) (r : _) (g : Finished) → EndsFew (commit_answer ss b (answers.Refused r) ++ g ∷ [])
forced_few ss b r g = cond_both (commit_is_pending ss b) _ [] (λ fs. EndsFew (fs ++ g ∷ [])) (λ is. refl) (λ other. tt)

pub few_on : (p : Place) (input : Input) {k : NodeState} {d : TurnDraft} → Step p input k d → EndsFew d.ended
few_on p input (steps.Begins n s read_at call begins range none step) = few_on p input step
few_on p input (steps.Counts_call n s call counts step) = few_on p input step
few_on p input (steps.Goes_back x step goes next) = few_on p input next
few_on p input (steps.Pends n l given call has live code writer step) = few_on p input step
few_on p input (steps.Lets_reads_go l comment site_below live begins step) = few_on p input step
few_on p input (steps.Counts_ack s from kept came counts step) = few_on p input step
few_on p input (steps.Runs {k = k} x s given t asked way) = answer_few (after_run x.live (ran p k x.live.me s t)) _ x.live.parent
few_on p input (steps.Goes_nowhere x s given r asked way) = answer_few x.live _ x.live.parent
few_on p input (steps.Hears_reply x weight count a i e answered) = answer_few (hears_reply x i weight count e).live _ x.live.parent
few_on p input (steps.Is_back x step from calls none) = answer_few x.live _ x.live.parent
few_on p input (steps.Acts {k = k} l site_below a why) = act_few k l site_below a
few_on p input (steps.Does {k = k} s from (nexts.End d) kept why) = decision_few k.sessions s.me d
few_on p input (steps.Does {k = k} s from (nexts.Meet d mixed) kept why) = decision_few k.sessions s.me d
few_on p input (steps.Does {k = k} s from nexts.Forget kept why) = commit_few k.sessions s.me _
few_on p input (steps.Does s from nexts.Rest kept why) = tt
few_on p input (steps.Does s from nexts.AckToward kept why) = tt
few_on p input (steps.Does s from nexts.SayForgotten kept why) = tt
few_on p input (steps.Does s from nexts.SayAck kept why) = tt
few_on p input (steps.Forces_given {k = k} n id m b call named) = forced_few k.sessions b _ _
few_on p input (steps.Forces_commit {k = k} n id b call named) = forced_few k.sessions b _ _
few_on p input (steps.Forces_rollback {k = k} n id b call named) = forced_few k.sessions b _ _
few_on p input (steps.Gives_up_commit {k = k} n b (Some l) gives has calls live) = commit_few k.sessions l.me _
few_on p input (steps.Gives_up_commit {k = k} n b None gives has calls live) = commit_few k.sessions b _
few_on p input _ = tt

-- ---- a turn

-- What a turn leaves of the calls and the transactions of sessions.
pub record TurnLeaves (k : NodeState) (input : Input) (after : NodeState) (ended : List Finished) : Type 0 where
  pub ends : EndsSo (λ m. pends_at k.sessions m || made_by input m) after.sessions ended
  pub few : EndsFew ended
  pub lives : RootsLive after.lives after.sessions

or_false : (b : Bool) → b ≡ (b || false)
or_false true = refl
or_false false = refl

module _ (p : Place) (k : NodeState) (now : NodeRests k) (live : RootsLive k.lives k.sessions) where
  -- an input that is no call
  other_leaves : (input : Input) → ((n : ℕ) (s : Option Stmt) → input ≡ inputs.Call n s → ⊥) → ((m : ℕ) → made_by input m ≡ false) → (heard k input).sessions ≡ k.sessions → (heard k input).lives ≡ k.lives
      → Before input k → RollsBelow input (heard k input) → Step p input (heard k input) (draft_of p k input)
      → EndsSo (λ m. pends_at k.sessions m || made_by input m) (draft_of p k input).after.sessions (draft_of p k input).ended × RootsLive (draft_of p k input).after.lives (draft_of p k input).after.sessions
  other_leaves input no_call none sessions lives before rolls step =
      let next : NodeRests (heard k input) = heard_rests k input now in
      let before_it : Before input (heard k input) = heard_before k input input before in
      let was : RootsLive (heard k input).lives (heard k input).sessions = subst (λ ls. RootsLive ls (heard k input).sessions) (sym lives) (subst (RootsLive k.lives) (sym sessions) live) in (
        ends_after (λ m. pends_at k.sessions m || made_by input m) (pends_at (heard k input).sessions) _ _
            (λ m. subst (λ b. pends_at (heard k input).sessions m ≡ (pends_at k.sessions m || b)) (sym (none m)) (subst (λ ss. pends_at ss m ≡ (pends_at k.sessions m || false)) (sym sessions) (or_false (pends_at k.sessions m))))
            (ends_on p input no_call step before_it next.1),
        lives_on p input no_call step before_it rolls next.0 next.1 was,
      )

  pub turn_leaves : (input : Input) → IsFit input → ((n : ℕ) (s : Option Stmt) → input ≡ inputs.Call n s → (session_at k.sessions n).call ≡ pending.NoCall) → Before input k → RollsBelow input k
      → Step p input (heard k input) (draft_of p k input) → TurnLeaves k input (draft_of p k input).after (draft_of p k input).ended
  turn_leaves (inputs.Call n s) fit free before rolls step =
      let is = read_so p k n now.0 fit live (free n s refl) s in record { ends = is.ends; few = few_on p (inputs.Call n s) step; lives = is.lives }
  turn_leaves (inputs.GiveUp n) fit free before rolls step =
      let is = other_leaves (inputs.GiveUp n) (λ m s it. absurd cc) (λ m. refl) refl refl before rolls step in record { ends = is.0; few = few_on p (inputs.GiveUp n) step; lives = is.1 }
  turn_leaves (inputs.Message m) fit free before rolls step =
      let is = other_leaves (inputs.Message m) (λ n s it. absurd cc) (λ n. refl) refl refl before rolls step in record { ends = is.0; few = few_on p (inputs.Message m) step; lives = is.1 }
  turn_leaves inputs.Reco fit free before rolls step =
      let is = other_leaves inputs.Reco (λ m s it. absurd cc) (λ m. refl) refl refl before rolls step in record { ends = is.0; few = few_on p inputs.Reco step; lives = is.1 }
  turn_leaves inputs.Checkpoint fit free before rolls step =
      let is = other_leaves inputs.Checkpoint (λ m s it. absurd cc) (λ m. refl) refl refl before rolls step in record { ends = is.0; few = few_on p inputs.Checkpoint step; lives = is.1 }

-- ---- in a run

-- the transactions of sessions of the nodes that are up
abbrev pub AllLive : Facts → Type 0
AllLive f = (n : ℕ) → IfSome (node_at f n) (λ k. RootsLive k.lives k.sessions)

fresh_slice : (m i : ℕ) → unwrap_or (slice_get (replicate m fresh_session) i) fresh_session ≡ fresh_session
fresh_slice zero i = refl
fresh_slice (suc m) zero = refl
fresh_slice (suc m) (suc i) = fresh_slice m i

-- a session of a node that has just started has done nothing
pub fresh_at : (n : ℕ) → session_at (replicate 64 fresh_session) n ≡ fresh_session
fresh_at zero = refl
fresh_at (suc i) = fresh_slice 64 i

pub started_live : (rs : List RedoRecord) → RootsLive (start_of rs).lives (start_of rs).sessions
unfolding start_of
started_live rs n b has waits = let none : (session_at (replicate 64 fresh_session) n).root ≡ None = ap (λ s. s.root) (fresh_at n) in absurd (cc (none, has))

module _ (places : List Place) (asked : List Command) (each : (n : ℕ) (p : Place) → numbered places n ≡ Some p → IsPlace places n p) where
  module _ (f : Facts) (t : List Event) (bs : List Born) (stand : StandBorn places asked each f t bs) (roots : RootsStand places asked each f) (now : AllLive f) where
    rolls_so : (u : Turn) (k : NodeState) → MayTurn places f u k → RollsBelow u.input k
    rolls_so u k may =
        let names : NamesAre (Began bs) k = subst (λ o. IfSome o (NamesAre (Began bs))) may.up (stand.1.lives u.node) in
        λ from to came. asked_parent bs k names from to (came_so (GoesSo (Began bs)) f stand.1.said k u.node u.input u.took may.comes from to kinds.Rollback came)

    pub turn_leaves_so : (u : Turn) (k : NodeState) → MayTurn places f u k → TurnLeaves k u.input (turn_of (place_at places u.node) k u.input).after (turn_of (place_at places u.node) k u.input).ended
    unfolding turn_of
    turn_leaves_so u k may =
        turn_leaves (place_at places u.node) k (subst (λ o. IfSome o NodeRests) may.up (roots u.node)) (subst (λ o. IfSome o (λ x. RootsLive x.lives x.sessions)) may.up (now u.node)) u.input
        (comes_fit f k u.node u.input u.took may.comes) (λ n s is. free_by f k u.node n s u.took (subst (λ i. Comes f k u.node i u.took) is may.comes))
        (before_so places asked each f t bs stand roots u k may) (rolls_so u k may) (serves places f u k may).step

    goes_live : (n : ℕ) {o : Option NodeState} {rs : List RedoRecord} → Goes places f n o rs → IfSome o (λ k. RootsLive k.lives k.sessions)
    goes_live n Stays = now n
    goes_live n (Turns u k may here) = subst (λ m. RootsLive (turn_of (place_at places m) k u.input).after.lives (turn_of (place_at places m) k u.input).after.sessions) here (lives_of u k may)
      where
        lives_of : (u : Turn) (k : NodeState) → MayTurn places f u k → RootsLive (turn_of (place_at places u.node) k u.input).after.lives (turn_of (place_at places u.node) k u.input).after.sessions
        lives_of u k may = (turn_leaves_so u k may).lives
    goes_live n (Is_cut u k may here) = tt
    goes_live n Stops = tt
    goes_live n (Starts boot down next) = started_live _

    -- each happening that may come leaves them live
    pub all_live_on : (h : Happening) → MayHappen places asked f h → AllLive (facts_after places asked f h)
    all_live_on h may n = goes_live n (goes_so places f asked stand.0.0.even h n may)

-- and before anything happened they are
pub first_live : (places : List Place) → AllLive (first_facts places)
first_live places n = first_node (λ o. IfSome o (λ k. RootsLive k.lives k.sessions)) tt (started_live (records.Boot 1 ∷ [])) places n
