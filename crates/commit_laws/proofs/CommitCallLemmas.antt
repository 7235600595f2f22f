-- What is known of the root to which a COMMIT comes stays known through the steps that go before the draft of a turn.
use Rattle.std.proofs.Common.{◌≡◌, ℕ, List, Option, Some, None, sym, ap, subst, ◌∙◌}
use Rattle.node_rules.specs.Data.{Live, Place, Input, Stmt}
use Rattle.node_rules.specs.Data.inputs
use Rattle.node_rules.specs.Data.stmts
use Rattle.node_rules.specs.declared.session.PendingCall.TheVariants as pending
use Rattle.node_rules.specs.Inputs.{IsCall}
use Rattle.node_rules.specs.NodeState.{NodeState, live_at}
use Rattle.node_rules.specs.Sessions.{session_at, with_call}
use Rattle.node_rules.specs.Client.{begun_by, counted}
use Rattle.node_rules.proofs.Steps.{HasRoot, BeginsBy, IsCounted}
use Rattle.node_rules.proofs.StandLemmas.{call_set}
use Rattle.run_base_laws.proofs.LiveStepLemmas.{LastsInTurn}
use Rattle.run_base_laws.proofs.BeginLemmas.{MayBegin, may_begin}

module _ (Q : Live → Type 0) (p : Place) (input : Input) where
  -- it is so of the live root of the session to which a COMMIT comes
  abbrev pub OfCommit : NodeState → Type 0
  OfCommit k = (n : ℕ) (given : Option (List ℕ)) (l : Live) → IsCall input n (stmts.Commit given) → HasRoot k n l.me → live_at k l.me ≡ Some l → Q l

  one_call : (n m : ℕ) (s t : Stmt) → IsCall input n s → IsCall input m t → (n ≡ m) × (s ≡ t)
  one_call n m s t first second = let it : inputs.Call n (Some s) ≡ inputs.Call m (Some t) = sym first ∙ second in (cc, cc)

  -- a transaction begins: then no COMMIT comes
  pub begun_commit : (k : NodeState) (n : ℕ) (s : Stmt) (read_at : Option ℕ) → IsCall input n s → BeginsBy k.clock s read_at → OfCommit (begun_by p k n read_at None)
  begun_commit k n s read_at call begins m given l commit has live = let it : s ≡ stmts.Commit given = (one_call n m s (stmts.Commit given) call commit).1 in absurd (subst MayBegin it (may_begin begins))

  -- a call is counted: then it is no COMMIT
  pub counted_commit : (k : NodeState) (n : ℕ) (s : Stmt) → IsCall input n s → IsCounted s → OfCommit (counted k n)
  counted_commit k n s call counts m given l commit has live = let it : s ≡ stmts.Commit given = (one_call n m s (stmts.Commit given) call commit).1 in absurd (subst IsCounted it counts)

  -- the COMMIT is pending
  pub pends_commit : (k : NodeState) (n : ℕ) (l : Live) (given : Option (List ℕ)) → IsCall input n (stmts.Commit given) → HasRoot k n l.me → OfCommit k → OfCommit (record k { sessions = with_call k.sessions n pending.Commit })
  pends_commit k n l given call root so m more x commit has live =
      let it : n ≡ m = (one_call n m (stmts.Commit given) (stmts.Commit more) call commit).0 in
      let same_root : (session_at (with_call k.sessions n pending.Commit) n).root ≡ (session_at k.sessions n).root = ap (λ s. s.root) (call_set k.sessions n l.me pending.Commit root) in
      let at : (session_at (with_call k.sessions n pending.Commit) n).root ≡ Some x.me = subst (λ i. (session_at (with_call k.sessions n pending.Commit) i).root ≡ Some x.me) (sym it) has in
      so n given x call (sym same_root ∙ at) live

  -- so it is known through a turn
  pub commit_lasts : LastsInTurn p input OfCommit
  commit_lasts = record {
    begun = λ k n s read_at call begins free so. begun_commit k n s read_at call begins;
    counts = λ k n s call counts so. counted_commit k n s call counts;
    backs = λ k x step goes so. so;
    pends = λ k n l given call has so. pends_commit k n l given call has so;
    lets = λ k b so. so;
    acked = λ k s from kept came so. so;
  }
