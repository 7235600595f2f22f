-- How a turn of a lawful run ends a call with an answer that is no refusal.
use Rattle.std.proofs.Common.{◌≡◌, ℕ, zero, suc, ◌+◌, ◌&&◌, Bool, true, false, List, [], ◌∷◌, ◌++◌, length, IfSome, Option, Some, None, inl, refl, sym, ap, subst, ◌∙◌, arith}
use Rattle.std.specs.Prelude.{slice_get, take}
use Rattle.std.proofs.lemmas.Bool.{and_parts}
use Rattle.session_tree.specs.Live.{children_of}
use Rattle.node_rules.specs.Marks.{next_back}
use Rattle.node_rules.specs.Calls.{answer_ends, backs_to, going_heard, heard_answer, hears_reply}
use Rattle.node_rules.specs.Data.{Answer, BranchId, Edge, Input, Refusal, Stmt}
use Rattle.node_rules.specs.Data.answers
use Rattle.node_rules.specs.Data.inputs
use Rattle.node_rules.specs.Data.kinds
use Rattle.node_rules.specs.Data.stmts
use Rattle.node_rules.specs.declared.work.Errand.TheVariants as errands
use Rattle.node_rules.specs.declared.work.Going.{Going}
use Rattle.node_rules.specs.declared.session.Finished.{Finished}
use Rattle.node_rules.specs.declared.session.PendingCall.TheVariants as pending
use Rattle.node_rules.specs.declared.session.Session.{Session}
use Rattle.node_rules.specs.Inputs.{Came}
use Rattle.node_rules.specs.NodeState.{NodeState, Branch, TurnDraft, TurnOutput, branch_at}
use Rattle.node_rules.specs.Refusals.{dtx}
use Rattle.node_rules.specs.Sessions.{session_at}
use Rattle.node_rules.specs.Turn.{turn_of, heard, draft_of}
use Rattle.node_rules.specs.Words.{one}
use Rattle.node_rules.proofs.HeardLemmas.{sessions_heard}
use Rattle.node_rules.proofs.Steps as steps
use Rattle.run_rules.specs.Births.{births_of}
use Rattle.run_rules.specs.Data.{Turn, Happening}
use Rattle.run_rules.specs.Data.happenings
use Rattle.run_rules.specs.Each.{facts_upto}
use Rattle.run_rules.specs.Facts.{Facts, node_at, served, outcome_at}
use Rattle.run_rules.specs.Lawful.{History, IsLawfulRun}
use Rattle.run_base_laws.specs.InTurnLaws.{said_in}
use Rattle.run_base_laws.specs.RunEvents.{events_of}
use Rattle.run_rules.specs.Runs.{is_of_rows, is_accepted}
use Rattle.run_base_laws.proofs.BirthRunLemmas.{run_births}
use Rattle.run_base_laws.proofs.LawfulLemmas.{serves}
use Rattle.run_base_laws.proofs.RestLemmas.{Before, branch_root}
use Rattle.run_base_laws.proofs.RestRunLemmas.{NodeRests, heard_rests, heard_before, before_so, run_roots}
use Rattle.run_base_laws.proofs.RestStepLemmas.{going_of}
use Rattle.run_base_laws.proofs.RootLemmas.{SessionsFit}
use Rattle.tree_laws.proofs.AtTurn.{at_turn}
use Rattle.tree_laws.proofs.PrefixLemmas.{f_at}
use Rattle.tree_laws.proofs.TimeLemmas.{may_of}
use Rattle.tree_trail_laws.proofs.CallLemmas.{call_free}
use Rattle.answer_origin_laws.proofs.NoCallLemmas.{all_since, many_since, no_call_since}
use Rattle.answer_origin_laws.proofs.PartLemmas.{split_at}
use Rattle.answer_origin_laws.proofs.ReplyRunLemmas.{prefix, happens_at}
use Rattle.answer_laws.proofs.AtWorkRunLemmas.{branch_works}
use Rattle.answer_laws.proofs.CommitCallLemmas.{CommitCame, commits_came}
use Rattle.answer_laws.proofs.StatementEndLemmas.{going_statement, heard_branch, goes_on_back, heard_draft, for_reply, its_link, reply_cause, back_cause}
use Rattle.answer_laws.proofs.AtWorkLemmas.{is_back_errand, IsSentLast}
use Rattle.answer_origin_laws.specs.ReplyLaws.{went_back}
use Rattle.answer_laws.proofs.WhyEndsLemmas.{Finds, few_on}
use Rattle.answer_laws.specs.EndLaws.{EndsFor, Is_own, Is_statement, Was_commit, forces_outcome, EndsFew, Ends_none, Ends_one, Ends_forced, LastCall, PendingCommitsCame}
use Rattle.answer_laws.specs.StatementEnds.{CauseNow, StatementPends, Is_answered, Branch_is_gone, Is_back, Is_given_up, next_by, next_after, goes_next, link_waited}

-- How a call of a session ends with an answer that is no refusal.
pub data Ending (input : Input) (ss : List Session) (fs : List Finished) (session : ℕ) (a : Answer) : Type 0 where
  By_call : (text : Option Stmt) → input ≡ inputs.Call session text → ((s : Stmt) → text ≡ Some s → is_of_rows s ≡ true → fs ≡ (record { session = session; answer = a }) ∷ []) → Ending input ss fs session a
  By_reply : (from to : BranchId) (call : ℕ) (weight : Option ℕ) (count : ℕ) (said : Answer) → Came input from to (kinds.Reply call weight count said) → fs ≡ (record { session = session; answer = a }) ∷ [] → Ending input ss fs session a
  By_commit : (session_at ss session).call ≡ pending.Commit → Ending input ss fs session a

-- a statement that forces an outcome has no table
force_rows : (s : Stmt) → forces_outcome s ≡ true → is_of_rows s ≡ false
force_rows (stmts.CommitForce id scn) is = refl
force_rows (stmts.RollbackForce id) is = refl
force_rows _ is = absurd cc

-- what is accepted is no refusal
not_refused : (a b : Answer) (r : Refusal) → is_accepted (Some a) ≡ true → b ≡ a → b ≡ answers.Refused r → ⊥
not_refused a b r good same refused = let none : is_accepted (Some a) ≡ false = ap (λ (x : Answer). is_accepted (Some x)) (sym same ∙ refused) in cc (none, good)

module _ (f : Facts) (k : NodeState) (input : Input) (session : ℕ) (a : Answer) (good : is_accepted (Some a) ≡ true) where
  abbrev its : Finished
  its = record { session = session; answer = a }

  by_statement : (x : Finished) → x ≡ its → (g : BranchId) → CauseNow f k g input x.answer → Ending input k.sessions (x ∷ []) session a
  by_statement x is g (Is_answered last handed other) = By_reply last.child g last.call last.weight last.count x.answer last.came (ap (λ y. y ∷ []) is)
  by_statement x is g (Branch_is_gone refused last gone refuses) = absurd (not_refused a x.answer _ good (ap (λ (y : Finished). y.answer) is) refuses)
  by_statement x is g (Is_back told last back none answers_so) = By_reply last.child g last.call last.weight last.count told last.came (ap (λ y. y ∷ []) is)
  by_statement x is g (Is_given_up gives refuses) = absurd (not_refused a x.answer _ good (ap (λ (y : Finished). y.answer) is) refuses)

  ending_for : (x : Finished) → x ≡ its → EndsFor f k input x → Ending input k.sessions (x ∷ []) session a
  ending_for x is (Is_own text own) = By_call text (own ∙ ap (λ (y : Finished). inputs.Call y.session text) is) (λ s some rows. ap (λ y. y ∷ []) is)
  ending_for x is (Is_statement g same pends cause) = by_statement x is g cause
  ending_for x is (Was_commit commits) = By_commit (ap (λ (y : Finished). (session_at k.sessions y.session).call) (sym is) ∙ commits)

  only : {xs : List Finished} → EndsFew f k input xs → (number : ℕ) → slice_get xs number ≡ Some its → Ending input k.sessions xs session a
  only Ends_none zero at = absurd cc
  only Ends_none (suc i) at = absurd cc
  only (Ends_one x why) zero at = let it : Some x ≡ Some its = at in let one_call : x ≡ its = cc in ending_for x one_call why
  only (Ends_one x why) (suc zero) at = absurd cc
  only (Ends_one x why) (suc (suc i)) at = absurd cc
  only (Ends_forced x n s b refused commits call forces) zero at =
      let it : Some x ≡ Some its = at in let one_call : x ≡ its = cc in absurd (let none : is_accepted (Some a) ≡ false = ap (λ (y : Finished). is_accepted (Some y.answer)) (sym one_call) ∙ refused in cc (none, good))
  only (Ends_forced x n s b refused commits call forces) (suc zero) at =
      let it : Some (record { session = n; answer = b }) ≡ Some its = at in
      let one_call : record { session = n; answer = b } ≡ its = cc in
      By_call (Some s) (call ∙ ap (λ (y : Finished). inputs.Call y.session (Some s)) one_call)
      (λ q same rows. absurd (let it : Some s ≡ Some q = same in let here : s ≡ q = cc in let none : is_of_rows q ≡ false = ap is_of_rows (sym here) ∙ force_rows s forces in cc (none, rows)))
  only (Ends_forced x n s b refused commits call forces) (suc (suc zero)) at = absurd cc
  only (Ends_forced x n s b refused commits call forces) (suc (suc (suc i))) at = absurd cc

module _ (t : History) (whole : IsLawfulRun t) (hs : List Happening) (u : Turn) (rest : List Happening) (is : hs ++ happenings.Turn u ∷ rest ≡ t.trace) where
  open at_turn t whole hs u rest is use {part as part0, s as s0, lawful as lawful0, f as f0, may, k, p}

  -- what its node keeps as it comes
  abbrev pub kept_there : NodeState
  kept_there = may.0

  rests : NodeRests k
  rests = subst (λ o. IfSome o NodeRests) may.1.up (run_roots s0 lawful0 u.node)

  before : Before u.input (heard k u.input)
  before = heard_before k u.input u.input (before_so t.places t.commands t.of_a_script.each f0 (events_of s0) (births_of s0) (run_births s0 lawful0) (run_roots s0 lawful0) u k may.1)

  fit : SessionsFit (heard k u.input)
  fit = (heard_rests k u.input rests).0

  live_there : (x : Branch) → branch_at (heard k u.input) x.live.me ≡ Some x → branch_at k x.live.me ≡ Some x
  live_there x live = sym (heard_branch k u.input x.live.me) ∙ live

  -- a root that hears a Reply waits for a statement
  root_pends : (x : Branch) (g : Going) → branch_at (heard k u.input) x.live.me ≡ Some x → x.work.going ≡ Some g → x.live.parent ≡ None → StatementPends k x.live.me
  root_pends x g live going root =
      let is = branch_root k rests.1 x (live_there x live) root in
      record { root = is.root; call = going_statement (session_at k.sessions x.live.me.session).call x.live.phase x.work.going g is.waits going }

  -- the Reply that a root hears ends its statement
  module _ (x : Branch) (weight : Option ℕ) (count : ℕ) (a : Answer) (i : ℕ) (e : Edge) (answered : steps.Is_answered (heard k u.input) u.input x weight count a i e) (root : x.live.parent ≡ None) where
    there : branch_at k x.live.me ≡ Some x
    there = live_there x answered.live

    abbrev sent : (g : Going) → x.work.going ≡ Some g → IsSentLast (said_in f0) x.live.me (children_of x.live) x.work g.errand g.waits
    sent = (branch_works s0 lawful0 u.node k may.1.up x there).sent

    abbrev going : (g : Going) × (x.work.going ≡ Some g)
    going = going_of x answered.from answered.call i e answered.waits

    abbrev y : Branch
    y = hears_reply x i weight count e

    -- the child that is to go back next
    next_is : (step : ℕ) → going.0.errand ≡ errands.GoBack step → goes_next (branch_at k x.live.me) ≡ next_back x.work step (i + 1)
    next_is step errand =
        ap goes_next there ∙ (ap (next_after x.work) going.1 ∙ (ap (λ r. next_by x.work r going.0.waits) errand
        ∙ ap (next_by x.work (errands.GoBack step)) (for_reply (said_in f0) u.input (heard k u.input) x weight count a i e answered sent)))

    pends_there : StatementPends k x.live.me
    pends_there = root_pends x going.0 answered.live going.1 root

    link_is : link_waited (branch_at k x.live.me) ≡ e.link
    link_is = ap link_waited there ∙ its_link (said_in f0) u.input (heard k u.input) x weight count a i e answered sent

    -- once the tree is back
    back_for_root : (step : ℕ) → going.0.errand ≡ errands.GoBack step → is_accepted (Some a) ≡ true → next_back x.work step (i + 1) ≡ None → (b : Answer) → b ≡ went_back → EndsFor f0 k u.input (record { session = x.live.me.session; answer = b })
    back_for_root step errand accepted none b is =
        Is_statement x.live.me refl pends_there
        (back_cause (said_in f0) u.input (heard k u.input) x weight count a i e answered sent (link_waited (branch_at k x.live.me)) (goes_next (branch_at k x.live.me)) (next_is step errand ∙ none)
        (ap (λ r. is_back_errand r && is_accepted (Some a)) errand ∙ accepted) b is)

    reply_for_root : answer_ends y.live (heard_answer y.live e.link a) x.live.parent ≡ (draft_of p k u.input).ended
        → EndsFor f0 k u.input (record { session = x.live.me.session; answer = heard_answer y.live e.link a })
    reply_for_root ends = by (is_back_errand going.0.errand && is_accepted (Some a)) refl
      where
        by_next : (step : ℕ) → going.0.errand ≡ errands.GoBack step → is_accepted (Some a) ≡ true → (o : Option ℕ) → next_back x.work step (i + 1) ≡ o → answer_ends y.live (heard_answer y.live e.link a) x.live.parent ≡ (backs_to (heard k u.input) y step o).ended
            → EndsFor f0 k u.input (record { session = x.live.me.session; answer = heard_answer y.live e.link a })
        by_next step errand accepted (Some j) next same =
            absurd (let some : answer_ends y.live (heard_answer y.live e.link a) None ≡ [] = ap (answer_ends y.live (heard_answer y.live e.link a)) (sym root) ∙ same in cc some)
        by_next step errand accepted None none same =
            let both : answer_ends y.live (heard_answer y.live e.link a) None ≡ answer_ends y.live went_back None
            = ap (answer_ends y.live (heard_answer y.live e.link a)) (sym root) ∙ (same ∙ ap (answer_ends y.live went_back) root) in
            let one_end : record { session = x.live.me.session; answer = heard_answer y.live e.link a } ≡ record { session = x.live.me.session; answer = went_back } = cc in
            back_for_root step errand accepted none (heard_answer y.live e.link a) (ap (λ (z : Finished). z.answer) one_end)

        by : (q : Bool) → (is_back_errand going.0.errand && is_accepted (Some a)) ≡ q → EndsFor f0 k u.input (record { session = x.live.me.session; answer = heard_answer y.live e.link a })
        by false handed =
            Is_statement x.live.me refl pends_there
            (reply_cause (said_in f0) u.input (heard k u.input) x weight count a i e answered sent (link_waited (branch_at k x.live.me)) (goes_next (branch_at k x.live.me)) link_is root handed)
        by true back =
            let it = goes_on_back (heard k u.input) y i e.link a going.0.errand back in
            let accepted : is_accepted (Some a) ≡ true = (and_parts (is_back_errand going.0.errand) (is_accepted (Some a)) back).1 in
            let drafted : (draft_of p k u.input).ended ≡ (backs_to (heard k u.input) y it.0 (next_back x.work it.0 (i + 1))).ended
            = heard_draft p k x weight count a i e u.input answered ∙ (ap (λ o. (going_heard (heard k u.input) y i e.link a o).ended) going.1 ∙ ap (λ (d : TurnDraft). d.ended) it.2) in
            by_next it.0 it.1 accepted (next_back x.work it.0 (i + 1)) refl (ends ∙ drafted)

    plain_accepted : (c : Answer) → steps.IsNoRefusal c → is_accepted (Some c) ≡ true
    plain_accepted (answers.Refused r) plain = absurd plain
    plain_accepted (answers.Did d n) plain = refl
    plain_accepted (answers.Found rows) plain = refl

  finds : Finds f0 k p u.input (draft_of p k u.input).ended (heard k u.input)
  finds = record {
    commit = λ m is. inl (subst (λ ss. (session_at ss m).call ≡ pending.Commit) (sessions_heard k u.input) is);
    reply = λ x weight count a i e answered root ends. reply_for_root x weight count a i e answered root ends;
    back = λ x weight count a i e answered root g step going errand plain none.
        (let there_going = going_of x answered.from answered.call i e answered.waits in
        let both : Some there_going.0 ≡ Some g = sym there_going.1 ∙ going in
        let one_going : there_going.0 ≡ g = cc in
        back_for_root x weight count a i e answered root step (ap (λ (z : Going). z.errand) one_going ∙ errand) (plain_accepted x weight count a i e answered root a plain) none went_back refl);
    given = λ n x gives has waits live. (let at : x.live.me.session ≡ n = fit.roots.each n x.live.me has in
        Is_statement x.live.me at (record {
          root = subst (λ m. (session_at k.sessions m).root ≡ Some x.live.me) (sym at) (subst (λ ss. (session_at ss n).root ≡ Some x.live.me) (sessions_heard k u.input) has);
          call = subst (λ m. (session_at k.sessions m).call ≡ pending.Statement) (sym at) (subst (λ ss. (session_at ss n).call ≡ pending.Statement) (sessions_heard k u.input) waits);
        }) (Is_given_up (gives ∙ ap inputs.GiveUp (sym at)) (ap (λ o. answers.Refused (dtx 3 (one (link_waited o)))) (sym (live_there x live)))));
  }

  -- which calls it ends
  pub turn_few : EndsFew f0 k u.input (draft_of p k u.input).ended
  turn_few = few_on f0 k p u.input (draft_of p k u.input).ended (serves t.places f0 u k may.1).step fit before.asked finds refl

  -- and how
  pub turn_ends : (o : TurnOutput) → outcome_at t.places f0 u ≡ Some o → (session number : ℕ) (a : Answer) → is_accepted (Some a) ≡ true → slice_get o.ended number ≡ Some (record { session = session; answer = a })
      → Ending u.input k.sessions o.ended session a
  unfolding turn_of
  turn_ends o outcome session number a good at =
      let both : Some (turn_of p k u.input) ≡ Some o = sym (ap (served p u.input) may.1.up) ∙ outcome in
      let one_turn : turn_of p k u.input ≡ o = cc in
      only f0 k u.input session a good (subst (EndsFew f0 k u.input) (ap (λ (y : TurnOutput). y.ended) one_turn) turn_few) number at

  -- a COMMIT that is pending is the last call of its session, up to this turn
  pub commit_last : (session : ℕ) → (session_at k.sessions session).call ≡ pending.Commit → (x : LastCall t u.node session (length hs)) × (comment : Option (List ℕ)) × (x.text ≡ Some (stmts.Commit comment))
  commit_last session commits = (
    record {
      moment = length c.before;
      turn = c.turn;
      there = happens_at t c.before (happenings.Turn c.turn) (c.later ++ happenings.Turn u ∷ rest) (all_since t u.node session c.before (happenings.Turn c.turn) c.later hs u rest c.since is);
      here = c.here;
      text = Some (stmts.Commit c.comment);
      came = c.came;
      soon = omega (arith, many_since t u.node session c.before (happenings.Turn c.turn) c.later hs u rest c.since is);
      last = no_call_since t u.node session c.before (happenings.Turn c.turn) c.later hs u rest c.since is c.quiet
          (λ here s call. (let free = call_free (f_at t hs) k u.node u.input u.took session s call may.1.comes in absurd (cc (commits, free.1))));
    },
    c.comment,
    refl,
  )
    where
      c : CommitCame t whole hs u.node session
      c = commits_came t whole hs part0 u.node k may.1.up session commits

-- ---- the laws

module _ (t : History) (whole : IsLawfulRun t) (i : ℕ) (u : Turn) (there : slice_get t.trace i ≡ Some (happenings.Turn u)) (j : NodeState) (up : node_at (facts_upto t i) u.node ≡ Some j) where
  at : (hs : List Happening) × (rest : List Happening) × (hs ++ happenings.Turn u ∷ rest ≡ t.trace) × (length hs ≡ i)
  at = split_at t.trace i (happenings.Turn u) there

  -- what its node keeps
  its_kept : kept_there t whole at.0 u at.1 at.2 ≡ j
  its_kept =
      let first : take i t.trace ≡ at.0 = ap (λ m. take m t.trace) (sym at.3) ∙ prefix t at.0 (happenings.Turn u) at.1 at.2 in
      let both : Some (kept_there t whole at.0 u at.1 at.2) ≡ Some j = sym (may_of t whole at.0 (happenings.Turn u) at.1 at.2).1.up ∙ (ap (λ xs. node_at (f_at t xs) u.node) (sym first) ∙ up) in
      cc

  commit_came : (session : ℕ) → (session_at j.sessions session).call ≡ pending.Commit → (x : LastCall t u.node session i) × (comment : Option (List ℕ)) × (x.text ≡ Some (stmts.Commit comment))
  commit_came session commits =
      subst (λ m. (x : LastCall t u.node session m) × (comment : Option (List ℕ)) × (x.text ≡ Some (stmts.Commit comment))) at.3
      (commit_last t whole at.0 u at.1 at.2 session (subst (λ (x : NodeState). (session_at x.sessions session).call ≡ pending.Commit) (sym its_kept) commits))

pub pending_commits_came : PendingCommitsCame
pending_commits_came t whole i u there k up session commits = commit_came t whole i u there k up session commits
