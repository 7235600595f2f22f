-- In every lawful run each call ends in a turn for a cause, and each cause of a statement that waits ends it.
use Rattle.std.proofs.Common.{◌≡◌, ℕ, zero, suc, List, [], ◌∷◌, ◌++◌, Option, Some, sym, ap, subst, ◌∙◌}
use Rattle.std.specs.Prelude.{slice_get, take}
use Rattle.node_rules.specs.Data.{Answer, BranchId, Stmt}
use Rattle.node_rules.specs.Data.inputs
use Rattle.node_rules.specs.declared.session.Finished.{Finished}
use Rattle.node_rules.specs.declared.session.PendingCall.TheVariants as pending
use Rattle.node_rules.specs.NodeState.{NodeState}
use Rattle.node_rules.specs.Sessions.{session_at}
use Rattle.node_rules.specs.Turn.{turn_of, draft_of}
use Rattle.run_rules.specs.Data.{Turn, Happening}
use Rattle.run_rules.specs.Data.happenings
use Rattle.run_rules.specs.Each.{facts_upto}
use Rattle.run_rules.specs.Facts.{node_at, place_at}
use Rattle.run_rules.specs.Lawful.{Comes, History, IsLawfulRun}
use Rattle.tree_laws.proofs.AtTurn.{at_turn}
use Rattle.tree_laws.proofs.PrefixLemmas.{f_at}
use Rattle.tree_trail_laws.proofs.CallLemmas.{call_free}
use Rattle.tree_trail_laws.proofs.MomentLemmas.{by_moment, tr_at}
use Rattle.answer_origin_laws.proofs.PartLemmas.{split_at}
use Rattle.answer_origin_laws.proofs.ReplyRunLemmas.{prefix}
use Rattle.answer_laws.proofs.AtWorkRunLemmas.{pending_waits}
use Rattle.answer_laws.proofs.EndingLemmas.{turn_few}
use Rattle.answer_laws.proofs.StatementEndLemmas.{cause_ends}
use Rattle.answer_laws.specs.EndLaws.{EndsFor, Is_own, Is_statement, Was_commit, EndsFew, Ends_none, Ends_one, Ends_forced, CallsEnd, CallsEndForCause}
use Rattle.answer_laws.specs.StatementEnds.{StatementPends, CauseNow, StatementsEnd, StatementsEndForCause, CauseEndsStatement, CausesEndStatements}

module _ (t : History) (whole : IsLawfulRun t) (hs : List Happening) (u : Turn) (rest : List Happening) (is : hs ++ happenings.Turn u ∷ rest ≡ t.trace) (k : NodeState) (up : node_at (f_at t hs) u.node ≡ Some k) where
  open at_turn t whole hs u rest is use {s as s0, lawful as lawful0, f as f0, may, p, said}

  same_kept : may.0 ≡ k
  same_kept = let both : Some may.0 ≡ Some k = sym may.1.up ∙ up in cc

  comes : Comes f0 k u.node u.input u.took
  comes = subst (λ j. Comes f0 j u.node u.input u.took) same_kept may.1.comes

  few : EndsFew f0 k u.input (turn_of p k u.input).ended
  unfolding turn_of
  few = subst (λ j. EndsFew f0 j u.input (draft_of p j u.input).ended) same_kept (turn_few t whole hs u rest is)

  module _ (g : BranchId) (pends : StatementPends k g) where
    -- no call comes to its session
    uncalled : (n : ℕ) (s : Option Stmt) → n ≡ g.session → u.input ≡ inputs.Call n s → ⊥
    uncalled n s at call =
        let free = (call_free f0 k u.node u.input u.took n s call comes).1 in
        let waits : (session_at k.sessions n).call ≡ pending.Statement = subst (λ m. (session_at k.sessions m).call ≡ pending.Statement) (sym at) pends.call in
        absurd (cc (free, waits))

    uncommitted : (n : ℕ) → n ≡ g.session → (session_at k.sessions n).call ≡ pending.Commit → ⊥
    uncommitted n at commits = let waits : (session_at k.sessions n).call ≡ pending.Statement = subst (λ m. (session_at k.sessions m).call ≡ pending.Statement) (sym at) pends.call in absurd (cc (commits, waits))

    its_cause : (a : Answer) (x : Finished) → x ≡ record { session = g.session; answer = a } → EndsFor f0 k u.input x → CauseNow f0 k g u.input a
    its_cause a x same (Is_own s call) = absurd (uncalled x.session s (ap (λ (y : Finished). y.session) same) call)
    its_cause a x same (Was_commit commits) = absurd (uncommitted x.session (ap (λ (y : Finished). y.session) same) commits)
    its_cause a x same (Is_statement c at others cause) =
        let here : c.session ≡ g.session = at ∙ ap (λ (y : Finished). y.session) same in
        let both : Some c ≡ Some g = sym others.root ∙ (ap (λ m. (session_at k.sessions m).root) here ∙ pends.root) in
        let one_root : c ≡ g = cc in
        subst (λ b. CauseNow f0 k b u.input a) one_root (subst (CauseNow f0 k c u.input) (ap (λ (y : Finished). y.answer) same) cause)

    for_cause : {xs : List Finished} → EndsFew f0 k u.input xs → (number : ℕ) (a : Answer) → slice_get xs number ≡ Some (record { session = g.session; answer = a }) → CauseNow f0 k g u.input a
    for_cause Ends_none zero a at = absurd cc
    for_cause Ends_none (suc i) a at = absurd cc
    for_cause (Ends_one x why) zero a at = its_cause a x (let it : Some x ≡ Some (record { session = g.session; answer = a }) = at in cc) why
    for_cause (Ends_one x why) (suc zero) a at = absurd cc
    for_cause (Ends_one x why) (suc (suc i)) a at = absurd cc
    for_cause (Ends_forced x n s b refused commits call forces) zero a at =
        absurd (uncommitted x.session (let it : Some x ≡ Some (record { session = g.session; answer = a }) = at in let same : x ≡ record { session = g.session; answer = a } = cc in ap (λ (y : Finished). y.session) same) commits)
    for_cause (Ends_forced x n s b refused commits call forces) (suc zero) a at =
        absurd (uncalled n (Some s) (let it : Some (record { session = n; answer = b }) ≡ Some (record { session = g.session; answer = a }) = at in let same : record { session = n; answer = b } ≡ record { session = g.session; answer = a } = cc in ap (λ (y : Finished). y.session) same) call)
    for_cause (Ends_forced x n s b refused commits call forces) (suc (suc zero)) a at = absurd cc
    for_cause (Ends_forced x n s b refused commits call forces) (suc (suc (suc i))) a at = absurd cc

    ends : (a : Answer) → CauseNow f0 k g u.input a → (turn_of p k u.input).ended ≡ (record { session = g.session; answer = a }) ∷ []
    unfolding turn_of
    ends a cause = cause_ends p said k g pends (pending_waits s0 lawful0 u.node k up g pends) u.input a cause

module _ (t : History) (whole : IsLawfulRun t) where
  calls_one : (hs : List Happening) (h : Happening) (rest : List Happening) → hs ++ h ∷ rest ≡ t.trace → CallsEnd t.places (f_at t hs) (tr_at t hs) h
  calls_one hs (happenings.Turn u) rest is = λ k up. few t whole hs u rest is k up
  calls_one hs _ rest is = tt

  statement_one : (hs : List Happening) (h : Happening) (rest : List Happening) → hs ++ h ∷ rest ≡ t.trace → StatementsEnd t.places (f_at t hs) (tr_at t hs) h
  statement_one hs (happenings.Turn u) rest is = λ k up g pends number a at. for_cause t whole hs u rest is k up g pends (few t whole hs u rest is k up) number a at
  statement_one hs _ rest is = tt

  cause_one : (hs : List Happening) (h : Happening) (rest : List Happening) → hs ++ h ∷ rest ≡ t.trace → CauseEndsStatement t.places (f_at t hs) (tr_at t hs) h
  cause_one hs (happenings.Turn u) rest is = λ k up g pends a cause. ends t whole hs u rest is k up g pends a cause
  cause_one hs _ rest is = tt

pub calls_end_for_cause : CallsEndForCause
calls_end_for_cause t whole = by_moment t CallsEnd (calls_one t whole)

pub statements_end_for_cause : StatementsEndForCause
statements_end_for_cause t whole = by_moment t StatementsEnd (statement_one t whole)

pub causes_end_statements : CausesEndStatements
causes_end_statements t whole = by_moment t CauseEndsStatement (cause_one t whole)

-- at the turn of a number
pub few_at : (t : History) → IsLawfulRun t → (i : ℕ) (u : Turn) → slice_get t.trace i ≡ Some (happenings.Turn u) → (k : NodeState) → node_at (facts_upto t i) u.node ≡ Some k
    → EndsFew (facts_upto t i) k u.input (turn_of (place_at t.places u.node) k u.input).ended
few_at t whole i u there k up =
    let at = split_at t.trace i (happenings.Turn u) there in
    let first : take i t.trace ≡ at.0 = ap (λ m. take m t.trace) (sym at.3) ∙ prefix t at.0 (happenings.Turn u) at.1 at.2 in
    subst (λ hs. node_at (f_at t hs) u.node ≡ Some k → EndsFew (f_at t hs) k u.input (turn_of (place_at t.places u.node) k u.input).ended) (sym first) (λ here. few t whole at.0 u at.1 at.2 k here) up
