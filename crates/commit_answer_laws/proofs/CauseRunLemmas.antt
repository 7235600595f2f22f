-- In every lawful run a COMMIT that is pending ends for a cause, and each such cause ends it.
use Rattle.std.proofs.Common.{◌≡◌, false, List, ◌∷◌, ◌++◌, Some, sym, subst}
use Rattle.node_rules.specs.Data.{Answer, BranchId}
use Rattle.node_rules.specs.NodeState.{NodeState}
use Rattle.run_rules.specs.Data.{Turn, Happening}
use Rattle.run_rules.specs.Data.happenings
use Rattle.run_rules.specs.Facts.{node_at}
use Rattle.run_rules.specs.Lawful.{History, IsLawfulRun}
use Rattle.tree_laws.proofs.PrefixLemmas.{f_at}
use Rattle.tree_trail_laws.proofs.MomentLemmas.{tr_at, by_moment}
use Rattle.commit_answer_laws.specs.CauseLaws.{EndsWith, CauseOf, EndsForCause, CommitsEndForCause, CauseEnds, CausesEndCommits}
use Rattle.commit_answer_laws.specs.CommitCauses as causes
use Rattle.commit_answer_laws.specs.CommitEndLaws.{CommitPends}
use Rattle.commit_answer_laws.proofs.CauseEndLemmas.{given_early, given_in_doubt, given_committed, rolled_back, forgotten, forced_ends}
use Rattle.commit_answer_laws.proofs.CauseLemmas.{forces_so, its_cause, owes_so}
use Rattle.commit_answer_laws.proofs.EndRunLemmas.{ends_for}
use Rattle.commit_answer_laws.proofs.LastAckLemmas.{all_acknowledged}
use Rattle.commit_answer_laws.proofs.VoteEndLemmas.{child_aborted, none_had_changes}

module _ (t : History) (whole : IsLawfulRun t) where
  ends_one : (hs : List Happening) (h : Happening) (rest : List Happening) → hs ++ h ∷ rest ≡ t.trace → EndsForCause t.places (f_at t hs) (tr_at t hs) h
  ends_one hs (happenings.Turn u) rest is = λ uncut k up g a pends ends.
      its_cause t whole g a (record { before = hs; turn = u; later = rest; is = is; uncut = uncut; kept = k; up = up; root = pends.root; end = ends_for t whole hs u rest is k up g a pends ends })
  ends_one hs _ rest is = tt

  module _ (hs : List Happening) (u : Turn) (rest : List Happening) (is : hs ++ happenings.Turn u ∷ rest ≡ t.trace) (uncut : u.cut ≡ false) (k : NodeState) (up : node_at (f_at t hs) u.node ≡ Some k) (g : BranchId) (a : Answer) (pends : CommitPends k g) where
    by : CauseOf t.places (f_at t hs) (tr_at t hs) u g a → EndsWith t.places k u g a
    by (causes.None_had_changes agree siteless at) = subst (EndsWith t.places k u g) (sym at) (none_had_changes t whole hs u rest is k up g pends agree siteless (owes_so t whole hs u rest is uncut k up))
    by (causes.All_acknowledged r decided acked at) = subst (EndsWith t.places k u g) (sym at) (all_acknowledged t whole hs u rest is uncut k up g pends r decided acked)
    by (causes.A_child_aborted abort at) = subst (EndsWith t.places k u g) (sym at) (child_aborted t whole hs u rest is k up g pends abort)
    by (causes.Site_side_forgot some heard_it at) = subst (EndsWith t.places k u g) (sym at) (forgotten t whole hs u rest is k up g pends some heard_it)
    by (causes.Given_up_early none given at) = subst (EndsWith t.places k u g) (sym at) (given_early t whole hs u rest is k up g pends none given)
    by (causes.Site_side_rolled_back doubt heard_it at) = subst (EndsWith t.places k u g) (sym at) (rolled_back t whole hs u rest is k up g pends doubt heard_it)
    by (causes.Given_up_in_doubt doubt given at) = subst (EndsWith t.places k u g) (sym at) (given_in_doubt t whole hs u rest is k up g pends doubt given)
    by (causes.Forced_in_doubt doubt d given wrote at) =
        (let so = forces_so t whole hs u rest is uncut k up g d given wrote in subst (EndsWith t.places k u g) (sym at) (forced_ends t whole hs u rest is k up g pends d given so.0 wrote so.1))
    by (causes.Given_up_committed some given at) = subst (EndsWith t.places k u g) (sym at) (given_committed t whole hs u rest is k up g pends some given)

  cause_one : (hs : List Happening) (h : Happening) (rest : List Happening) → hs ++ h ∷ rest ≡ t.trace → CauseEnds t.places (f_at t hs) (tr_at t hs) h
  cause_one hs (happenings.Turn u) rest is = λ uncut k up g a pends cause. by hs u rest is uncut k up g a pends cause
  cause_one hs _ rest is = tt

pub commits_end_for_cause : CommitsEndForCause
commits_end_for_cause t whole = by_moment t EndsForCause (ends_one t whole)

pub causes_end_commits : CausesEndCommits
causes_end_commits t whole = by_moment t CauseEnds (cause_one t whole)
