-- In the run of a script each line that answers a COMMIT is true.
use Rattle.std.proofs.Common.{◌≡◌, ℕ, zero, suc, ◌+◌, ◌<◌, ◌≤◌, List, [], ◌∷◌, ◌++◌, length, IfSome, option_map, Option, Some, None, inl, inr, refl, sym, ap, subst, ◌∙◌, arith}
use Rattle.std.specs.Prelude.{◌⊎◌, true, slice_get, take}
use Rattle.tran_ids.proofs.ListedLemmas.{item_is}
use Rattle.node_rules.specs.Data.{Answer, BranchId, Live, Stmt}
use Rattle.node_rules.specs.Data.inputs
use Rattle.node_rules.specs.Data.stmts
use Rattle.node_rules.specs.declared.session.Finished.{Finished}
use Rattle.node_rules.specs.declared.session.PendingCall.TheVariants as pending
use Rattle.node_rules.specs.Client.{commit_call, root_at as kept_root, root_by}
use Rattle.node_rules.specs.NodeState.{NodeState, TurnOutput, live_at, live_id, with_work}
use Rattle.node_rules.specs.Sessions.{session_at, commit_complete, tran_refusal}
use Rattle.node_rules.specs.Turn.{turn_of}
use Rattle.run_rules.specs.Branches.{Seen, Trail, read_at_at, read_at_of, root_at, seen_at, seen_id}
use Rattle.run_rules.specs.Commands.{commits_first}
use Rattle.run_rules.specs.Data.{Turn, Happening}
use Rattle.run_rules.specs.Data.commands
use Rattle.run_rules.specs.Data.happenings
use Rattle.run_rules.specs.Each.{facts_upto, trail_upto}
use Rattle.run_rules.specs.Facts.{command_at, node_at, outcome_at, place_at, served}
use Rattle.run_rules.specs.Lawful.{History, IsLawfulRun, MayTurn}
use Rattle.run_rules.specs.Scripts.{IsTheRunOf}
use Rattle.run_rules.specs.Trail.{trail_after}
use Rattle.run_claims.specs.Places.{past_upto}
use Rattle.run_claims.specs.ReportedDone.{ComesIn, CameTo}
use Rattle.run_base_laws.proofs.RootLemmas.{SessionsFit, root_alone}
use Rattle.run_base_laws.proofs.RestRunLemmas.{NodeRests, run_roots}
use Rattle.run_ready_laws.proofs.RunLawfulLemmas.{the_run_is_lawful}
use Rattle.tree_laws.proofs.PrefixLemmas.{so_far, f_at}
use Rattle.tree_laws.proofs.TimeLemmas.{part_of, part_lawful}
use Rattle.tree_trail_laws.specs.SeenLaws.{IsSeenRoot, Sees}
use Rattle.tree_trail_laws.proofs.CallLemmas.{call_free}
use Rattle.tree_trail_laws.proofs.MomentLemmas.{tr_at, at_moment}
use Rattle.tree_trail_laws.proofs.SeenRunLemmas.{all_is_seen}
use Rattle.answer_origin_laws.specs.CallTurns.{BringsText, What_is_asked, A_commit_first, Then_the_create, CameBefore}
use Rattle.answer_origin_laws.specs.ToldLaws.{EndedBy}
use Rattle.answer_origin_laws.proofs.CallTurnLemmas.{turns_find_calls_come}
use Rattle.answer_origin_laws.proofs.ComeLemmas.{below_or}
use Rattle.answer_origin_laws.proofs.PartLemmas.{split_at}
use Rattle.answer_origin_laws.proofs.ReplyRunLemmas.{prefix}
use Rattle.answer_origin_laws.proofs.ToldTurnLemmas.{lines_come_from_turns}
use Rattle.answer_origin_laws.proofs.UptoLemmas.{facts_there, may_at}
use Rattle.commit_answer_laws.specs.CommitEndLaws.{EndsCall, CommitPends, LeavesUnrecorded}
use Rattle.commit_answer_laws.specs.CommitCauses.{AnswerCause, Has_none, Needs_rollback, Is_read_only, Ends_for}
use Rattle.commit_answer_laws.specs.CommitLines.{IsTrueOf, Had_none, Is_decided, Had_no_changes, Was_read_only, Is_rolled_back, Is_committed, Is_in_doubt, Must_roll_back, AnswersTruly, CommitsAnswerTruly, transaction_at}
use Rattle.commit_answer_laws.proofs.CauseLemmas.{its_cause}
use Rattle.commit_answer_laws.specs.UndecidedLaws.{IsUndecided}
use Rattle.commit_answer_laws.proofs.DroppedLemmas as drops
use Rattle.commit_answer_laws.proofs.DownLineLemmas.{down_lines_are_true, stopped_calls_are_told}
use Rattle.commit_answer_laws.proofs.EndRunLemmas.{ends_for}
use Rattle.commit_answer_laws.proofs.EndStepLemmas as ends
use Rattle.commit_answer_laws.proofs.EndStepLemmas.{StepEnd}
use Rattle.commit_answer_laws.proofs.OwnEndLemmas as own_ends
use Rattle.commit_answer_laws.proofs.OwnEndLemmas.{OwnEnd, own_end}
use Rattle.commit_answer_laws.proofs.RootStayLemmas.{at_first, call_is, root_at_end, commits_at}
use Rattle.commit_answer_laws.proofs.UndecidedLemmas.{EndsAs, none_decided, known_decided, complete_decided}

-- ---- what an end says

module _ (t : History) (whole : IsLawfulRun t) (g : BranchId) (a : Answer) (it : EndsAs t g a) where
  complete_is : a ≡ commit_complete → IsTrueOf t (Some g) a
  complete_is is = elim (complete_decided t whole g a it is) [
    | inl decided ↦ Is_decided g refl is decided
    | inr none ↦ Had_no_changes g refl is none.1 none.2
  ]

  refused_is : a ≡ tran_refusal 2050 g → IsTrueOf t (Some g) a
  refused_is is = Is_rolled_back g refl is (none_decided t whole g a it is)

  pub end_is_true : IsTrueOf t (Some g) a
  end_is_true = by it.end
    where
      by : StepEnd it.kept it.turn.input (turn_of (place_at t.places it.turn.node) it.kept it.turn.input).after (turn_of (place_at t.places it.turn.node) it.kept it.turn.input).wrote (turn_of (place_at t.places it.turn.node) it.kept it.turn.input).sent g a
          → IsTrueOf t (Some g) a
      by (ends.Has_decided r l live wrote me none is) = complete_is is
      by (ends.Has_no_site leaves top found writes is) = complete_is is
      by (ends.Has_forgotten s row wrote is) = complete_is is
      by (ends.Hears_abort from sb came leaves answers is) = refused_is is
      by (ends.Is_given_up given leaves is) = refused_is is
      by (ends.Ends_back wrote is) = refused_is is
      by (ends.Meets_back mixed call wrote is) = refused_is is
      by (ends.Is_known given gone knows is) = Is_committed g refl is (known_decided t whole g a it is)
      by (ends.Is_in_doubt given call gone doubt is) = Is_in_doubt g refl is
      by (ends.Is_forced d given wrote is) = Is_in_doubt g refl is

-- ---- calls that end

ends_at : (fs : List Finished) (i : ℕ) (f : Finished) → slice_get fs i ≡ Some f → EndsCall f fs
ends_at [] zero f is = absurd cc
ends_at [] (suc i) f is = absurd cc
ends_at (x ∷ fs) zero f is = inl (let it : Some x ≡ Some f = is in cc)
ends_at (x ∷ fs) (suc i) f is = inr (ends_at fs i f is)

-- ---- the transaction of a session, as it is told

told_root : (tr : Trail) (k : NodeState) (o : Option Seen) (p : Option BranchId) → IsSeenRoot tr k o p → option_map (λ (s : Seen). s.me) o ≡ p
told_root tr k None None saw = refl
told_root tr k (Some s) (Some b) saw = ap Some (item_is seen_id tr.seen b s saw.0)
told_root tr k None (Some b) none = absurd none
told_root tr k (Some s) None none = absurd none

-- a session that has no live root has none
no_root : (tr : Trail) (k : NodeState) (o : Option Seen) (p : Option BranchId) → IsSeenRoot tr k o p → root_by k p ≡ None → p ≡ None
no_root tr k None None saw none = refl
no_root tr k (Some s) (Some b) saw none = absurd (let live : root_by k (Some b) ≡ with_work k (Some saw.1.0) = ap (with_work k) saw.1.1 in cc (live, none))
no_root tr k None (Some b) absent none = absurd absent
no_root tr k (Some s) None absent none = absurd absent

-- ---- the call of a line

module _ (t : History) (run : IsTheRunOf t) (command : ℕ) (a : Answer) (e : EndedBy t command a) where
  abbrev pub its_call : CameBefore t (e.ended + 1) e.turn.node e.session e.call
  its_call = turns_find_calls_come t run e.ended e.turn e.there e.turn.node e.session e.call e.pending

  -- what its command brought
  pub its_text : (node session : ℕ) (s : Stmt) → command_at t.commands command ≡ commands.At node session (Some s) → BringsText e.call (facts_upto t its_call.moment).command (Some s)
  its_text node session s asked =
      let it : commands.At e.turn.node e.session its_call.turn.text ≡ commands.At node session (Some s) = sym its_call.turn.asked ∙ (ap (command_at t.commands) e.its ∙ asked) in
      let text : its_call.turn.text ≡ Some s = cc in
      subst (BringsText e.call (facts_upto t its_call.moment).command) text its_call.turn.brings

  -- where it was made
  pub its_place : (node session : ℕ) (s : Stmt) → command_at t.commands command ≡ commands.At node session (Some s) → (e.turn.node ≡ node) × (e.session ≡ session)
  its_place node session s asked =
      let it : commands.At e.turn.node e.session e.text ≡ commands.At node session (Some s) = sym e.asked ∙ asked in
      let there : e.turn.node ≡ node = cc in
      let its : e.session ≡ session = cc in
      (there, its)

-- ---- a COMMIT that a line answers

module _ (t : History) (run : IsTheRunOf t) (command node session : ℕ) (comment : Option (List ℕ)) (a : Answer) (e : EndedBy t command a) (node_is : e.turn.node ≡ node) (session_is : e.session ≡ session)
    (own : e.call.statement ≡ Some (stmts.Commit comment)) (running : (facts_upto t (its_call t run command a e).moment).command ≡ command) where
  whole : IsLawfulRun t
  whole = the_run_is_lawful t run

  abbrev came : CameBefore t (e.ended + 1) e.turn.node e.session e.call
  came = its_call t run command a e

  -- ---- when it came

  abbrev u0 : Turn
  u0 = came.turn.turn

  abbrev first : (k : NodeState) × MayTurn t.places (past_upto t came.moment).facts u0 k
  first = at_first t run (e.ended + 1) e.turn.node e.session e.call came comment own

  call0 : u0.input ≡ inputs.Call e.session (Some (stmts.Commit comment))
  call0 = call_is t run (e.ended + 1) e.turn.node e.session e.call came comment own

  split0 : (hs : List Happening) × (rest : List Happening) × (hs ++ happenings.Turn u0 ∷ rest ≡ t.trace) × (length hs ≡ came.moment)
  split0 = split_at t.trace came.moment (happenings.Turn u0) came.turn.there

  upto0 : take came.moment t.trace ≡ split0.0
  upto0 = ap (λ m. take m t.trace) (sym split0.3) ∙ prefix t split0.0 (happenings.Turn u0) split0.1 split0.2

  facts0 : (past_upto t came.moment).facts ≡ f_at t split0.0
  facts0 = facts_there t came.moment ∙ ap (f_at t) upto0

  up0 : node_at (f_at t split0.0) u0.node ≡ Some first.0
  up0 = ap (λ f. node_at f u0.node) (sym facts0) ∙ first.1.up

  saw : IsSeenRoot (tr_at t split0.0) first.0 (root_at (tr_at t split0.0) u0.node e.session) (session_at first.0.sessions e.session).root
  saw =
      let free = call_free (past_upto t came.moment).facts first.0 u0.node u0.input u0.took e.session (Some (stmts.Commit comment)) call0 first.1.comes in
      (at_moment t (λ places f tr h. Sees f tr) (all_is_seen t whole) split0.0 (happenings.Turn u0) split0.1 split0.2).roots u0.node first.0 up0 e.session free.0 free.1

  -- the transaction that its session had
  told : option_map (λ (s : Seen). s.me) (root_at (trail_upto t came.moment) node session) ≡ (session_at first.0.sessions e.session).root
  told =
      ap (λ xs. option_map (λ (s : Seen). s.me) (root_at (tr_at t xs) node session)) upto0
      ∙ (ap (λ i. option_map (λ (s : Seen). s.me) (root_at (tr_at t split0.0) i session)) (sym node_is ∙ sym came.turn.here)
      ∙ (ap (λ i. option_map (λ (s : Seen). s.me) (root_at (tr_at t split0.0) u0.node i)) (sym session_is) ∙ told_root (tr_at t split0.0) first.0 (root_at (tr_at t split0.0) u0.node e.session) (session_at first.0.sessions e.session).root saw))

  -- ---- when it ended

  split : (hs : List Happening) × (rest : List Happening) × (hs ++ happenings.Turn e.turn ∷ rest ≡ t.trace) × (length hs ≡ e.ended)
  split = split_at t.trace e.ended (happenings.Turn e.turn) e.there

  upto : take e.ended t.trace ≡ split.0
  upto = ap (λ m. take m t.trace) (sym split.3) ∙ prefix t split.0 (happenings.Turn e.turn) split.1 split.2

  at_last : (k : NodeState) × MayTurn t.places (past_upto t e.ended).facts e.turn k
  at_last = may_at t run e.ended (happenings.Turn e.turn) e.there

  abbrev k : NodeState
  k = at_last.0

  up : node_at (f_at t split.0) e.turn.node ≡ Some k
  up = ap (λ f. node_at f e.turn.node) (sym (facts_there t e.ended ∙ ap (f_at t) upto)) ∙ at_last.1.up

  abbrev o : TurnOutput
  o = turn_of (place_at t.places e.turn.node) k e.turn.input

  outcome : e.outcome ≡ o
  outcome =
      let there : outcome_at t.places (facts_upto t e.ended) e.turn ≡ Some o
      = ap (λ f. outcome_at t.places f e.turn) (sym (facts_there t e.ended)) ∙ ap (served (place_at t.places e.turn.node) e.turn.input) at_last.1.up in
      let it : Some e.outcome ≡ Some o = sym e.comes ∙ there in
      cc

  ended : EndsCall (record { session = e.session; answer = a }) o.ended
  ended = subst (λ (x : TurnOutput). EndsCall (record { session = e.session; answer = a }) x.ended) outcome (ends_at e.outcome.ended e.number (record { session = e.session; answer = a }) e.answers)

  rests : SessionsFit k
  rests = (let it : NodeRests k = subst (λ q. IfSome q NodeRests) up (run_roots (so_far t split.0) (part_lawful t whole split.0 (part_of t whole split.0 (happenings.Turn e.turn) split.1 split.2)) e.turn.node) in it.0)

  -- true of the transaction, and for a cause
  abbrev Because : Option BranchId → Type 0
  Because r = AnswerCause (f_at t split.0) (tr_at t split.0) (trail_after t.places (f_at t split.0) (tr_at t split.0) (happenings.Turn e.turn)) e.turn r a

  abbrev SaysOf : Option BranchId → Type 0
  SaysOf r = IsTrueOf t r a × Because r

  abbrev Says : Type 0
  Says = SaysOf (session_at first.0.sessions e.session).root

  -- it ended for a reason
  abbrev ends_as : (g : BranchId) → (session_at k.sessions e.session).root ≡ Some g → StepEnd k e.turn.input o.after o.wrote o.sent g a → EndsAs t g a
  ends_as g root end = record {
    before = split.0;
    turn = e.turn;
    later = split.1;
    is = split.2;
    uncut = e.uncut;
    kept = k;
    up = up;
    root = subst (λ i. (session_at k.sessions i).root ≡ Some g) (sym (rests.roots.each e.session g root)) root;
    end = end;
  }

  ends_so : (g : BranchId) → (session_at k.sessions e.session).root ≡ Some g → StepEnd k e.turn.input o.after o.wrote o.sent g a → SaysOf (Some g)
  ends_so g root end = (end_is_true t whole g a (ends_as g root end), Ends_for g refl (its_cause t whole g a (ends_as g root end)))

  -- the turn of its root
  abbrev root_turn : (g : BranchId) → (session_at k.sessions e.session).root ≡ Some g → drops.RootTurn t g
  root_turn g root = record {
    before = split.0;
    turn = e.turn;
    later = split.1;
    is = split.2;
    uncut = e.uncut;
    kept = k;
    up = up;
    root = subst (λ i. (session_at k.sessions i).root ≡ Some g) (sym (rests.roots.each e.session g root)) root;
  }

  -- one that is READ ONLY
  reads_so : (g : BranchId) (scn : ℕ) → (session_at k.sessions e.session).root ≡ Some g → (l : Live) → live_at k g ≡ Some l → l.read_at ≡ Some scn → IsUndecided t g → a ≡ commit_complete → SaysOf (Some g)
  reads_so g scn root l live reads none is =
      let me : l.me ≡ g = item_is live_id k.lives g l live in
      let seen = (at_moment t (λ places f tr h. Sees f tr) (all_is_seen t whole) split.0 (happenings.Turn e.turn) split.1 split.2).tops e.turn.node k up l (subst (λ c. live_at k c ≡ Some l) (sym me) live) (root_alone k rests e.session g root l live) in
      let at : read_at_at (tr_at t split.0) g ≡ Some scn = ap read_at_of (subst (λ c. seen_at (tr_at t split.0) c ≡ Some seen.0) me seen.1) ∙ (seen.2.read_at ∙ reads) in
      (Was_read_only g e.ended scn refl is (ap (λ xs. read_at_at (tr_at t xs) g) upto ∙ at) none, Is_read_only g scn refl at is)

  -- later than it came
  says_later : came.moment < e.ended → Says
  says_later later =
      let keeps = root_at_end t run (e.ended + 1) e.turn.node e.session e.call came comment own e.ended later (omega arith) k at_last.1.up in
      let commits = commits_at t run (e.ended + 1) e.turn.node e.session e.call came comment own e.ended later (omega arith) k at_last.1.up in
      let g : BranchId = keeps.root in
      let same : g.session ≡ e.session = rests.roots.each e.session g keeps.stays in
      let pends : CommitPends k g = record {
        root = subst (λ i. (session_at k.sessions i).root ≡ Some g) (sym same) keeps.stays;
        call = subst (λ i. (session_at k.sessions i).call ≡ pending.Commit) (sym same) commits;
      } in
      let there : EndsCall (record { session = g.session; answer = a }) o.ended = subst (λ i. EndsCall (record { session = i; answer = a }) o.ended) (sym same) ended in
      subst SaysOf (sym keeps.was) (ends_so g keeps.stays (ends_for t whole split.0 e.turn split.1 split.2 k up g a pends there))

  -- in its own turn
  module _ (now : came.moment ≡ e.ended) where
    turn_is : u0 ≡ e.turn
    turn_is = let it : Some (happenings.Turn u0) ≡ Some (happenings.Turn e.turn) = sym came.turn.there ∙ (ap (slice_get t.trace) now ∙ e.there) in let same : u0 ≡ e.turn = cc in same

    call : e.turn.input ≡ inputs.Call e.session (Some (stmts.Commit comment))
    call = ap (λ (v : Turn). v.input) (sym turn_is) ∙ call0

    kept_is : first.0 ≡ k
    kept_is =
        let there : node_at (past_upto t e.ended).facts e.turn.node ≡ Some first.0
        = subst (λ i. node_at (past_upto t i).facts e.turn.node ≡ Some first.0) now (subst (λ (v : Turn). node_at (past_upto t came.moment).facts v.node ≡ Some first.0) turn_is first.1.up) in
        let it : Some first.0 ≡ Some k = sym there ∙ at_last.1.up in
        cc

    root_is : (session_at first.0.sessions e.session).root ≡ (session_at k.sessions e.session).root
    root_is = ap (λ (x : NodeState). (session_at x.sessions e.session).root) kept_is

    no_live_root : kept_root k e.session ≡ None → (session_at first.0.sessions e.session).root ≡ None
    no_live_root none =
        no_root (tr_at t split0.0) first.0 (root_at (tr_at t split0.0) u0.node e.session) (session_at first.0.sessions e.session).root saw (ap (λ (x : NodeState). kept_root x e.session) kept_is ∙ none)

    by_end : OwnEnd k rests e.session comment a (commit_call k e.session comment) → Says
    unfolding turn_of
    by_end (own_ends.Has_no_root none is) = (Had_none (no_live_root none) is, Has_none (no_live_root none) is)
    by_end (own_ends.Must_roll_back g code root is) = (Must_roll_back g code (root_is ∙ root) is, Needs_rollback g code (root_is ∙ root) is)
    by_end (own_ends.Ends_reading g scn root leaves reads is) =
        let left : LeavesUnrecorded k o.after o.wrote o.sent g = subst (λ i. LeavesUnrecorded k (turn_of (place_at t.places e.turn.node) k i).after (turn_of (place_at t.places e.turn.node) k i).wrote (turn_of (place_at t.places e.turn.node) k i).sent g) (sym call) leaves in
        subst SaysOf (sym (root_is ∙ root)) (reads_so g scn root leaves.live leaves.there reads (drops.undecided_book t whole g (root_turn g root) (drops.drop_undecided t whole g (root_turn g root) left)) is)
    by_end (own_ends.Ends_at_once g root end) =
        subst SaysOf (sym (root_is ∙ root))
        (ends_so g root (subst (λ i. StepEnd k i (turn_of (place_at t.places e.turn.node) k i).after (turn_of (place_at t.places e.turn.node) k i).wrote (turn_of (place_at t.places e.turn.node) k i).sent g a) (sym call) end))

    says_now : Says
    unfolding turn_of
    says_now = by_end (own_end k rests e.session comment a (subst (λ i. EndsCall (record { session = e.session; answer = a }) (turn_of (place_at t.places e.turn.node) k i).ended) call ended))

  says : Says
  says = elim (below_or came.moment e.ended came.before) [ inl later ↦ says_later later | inr now ↦ says_now now ]

  pub truly : AnswersTruly t command node session comment a
  truly = record {
    came = record {
      moment = came.moment;
      turn = u0;
      there = came.turn.there;
      here = came.turn.here ∙ node_is;
      call = call0 ∙ ap (λ i. inputs.Call i (Some (stmts.Commit comment))) session_is;
      running = inl running;
    };
    says = subst (λ r. IsTrueOf t r a) (sym told) says.0;
    why = record {
      moment = e.ended;
      later = omega (arith, came.before);
      turn = e.turn;
      there = e.there;
      here = node_is;
      uncut = e.uncut;
      cause = subst (λ xs. AnswerCause (f_at t xs) (tr_at t xs) (trail_after t.places (f_at t xs) (tr_at t xs) (happenings.Turn e.turn)) e.turn (transaction_at t came.moment node session) a) (sym upto)
          (subst Because (sym told) says.1);
    };
  }

-- ---- lines

module _ (t : History) (run : IsTheRunOf t) (command node session : ℕ) (a : Answer) (e : EndedBy t command a) where
  -- of a COMMIT
  commit_line : (comment : Option (List ℕ)) → command_at t.commands command ≡ commands.At node session (Some (stmts.Commit comment)) → AnswersTruly t command node session comment a
  commit_line comment asked = by (its_text t run command a e node session (stmts.Commit comment) asked)
    where
      place : (e.turn.node ≡ node) × (e.session ≡ session)
      place = its_place t run command a e node session (stmts.Commit comment) asked

      by : BringsText e.call (facts_upto t (its_call t run command a e).moment).command (Some (stmts.Commit comment)) → AnswersTruly t command node session comment a
      by (What_is_asked text is none at) = truly t run command node session comment a e place.0 place.1 is (at ∙ e.its)
      by (A_commit_first s creates is follows at) = absurd cc
      by (Then_the_create s creates is none at) = absurd cc

  -- of a CREATE, which came itself
  create_came : (s : Stmt) → (e.turn.node ≡ node) × (e.session ≡ session) → e.call.statement ≡ Some s → ComesIn command s (facts_upto t (its_call t run command a e).moment).command → CameTo t command node session s
  create_came s place is runs =
      let came : CameBefore t (e.ended + 1) e.turn.node e.session e.call = its_call t run command a e in
      record {
        moment = came.moment;
        turn = came.turn.turn;
        there = came.turn.there;
        here = came.turn.here ∙ place.0;
        call = came.turn.came ∙ (ap (inputs.Call e.session) is ∙ ap (λ i. inputs.Call i (Some s)) place.1);
        running = runs;
      }

  create_line : (s : Stmt) → command_at t.commands command ≡ commands.At node session (Some s) → commits_first s ≡ true → CameTo t command node session s ⊎ AnswersTruly t command node session None a
  create_line s asked one = by (its_text t run command a e node session s asked)
    where
      place : (e.turn.node ≡ node) × (e.session ≡ session)
      place = its_place t run command a e node session s asked

      by : BringsText e.call (facts_upto t (its_call t run command a e).moment).command (Some s) → CameTo t command node session s ⊎ AnswersTruly t command node session None a
      by (What_is_asked text is none at) = inl (create_came s place is (inl (at ∙ e.its)))
      by (A_commit_first st creates is follows at) = inr (truly t run command node session None a e place.0 place.1 is (at ∙ e.its))
      by (Then_the_create st creates is none at) = inl (create_came s place is (inr (one, subst (λ c. c ≤ (facts_upto t (its_call t run command a e).moment).command) e.its at)))

pub commits_answer_truly : CommitsAnswerTruly
commits_answer_truly t run = (
  λ i command node session comment a asked line. commit_line t run command node session a (lines_come_from_turns t i command a line) comment asked,
  λ i command node session s a asked one line. create_line t run command node session a (lines_come_from_turns t i command a line) s asked one,
  down_lines_are_true t run,
  stopped_calls_are_told t run,
)
