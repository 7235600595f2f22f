-- COMMIT in a session, by what its root is.
use Rattle.std.proofs.Common.{◌≡◌, ℕ, List, Option, None, Some, IfSome, is_some, true≢false, refl, sym, ap, true, false}
use Rattle.tran_ids.specs.declared.branch.BranchId.{BranchId}
use Rattle.node_rules.specs.Data.{Live}
use Rattle.node_rules.specs.Data.phases
use Rattle.node_rules.specs.declared.session.PendingCall.TheVariants as pending
use Rattle.node_rules.specs.NodeState.{NodeState, Branch, live_at, with_work, work_at, branch_at}
use Rattle.node_rules.specs.Sessions.{with_call}
use Rattle.node_rules.specs.Prepare.{collects, with_comment}
use Rattle.node_rules.specs.Data.dones
use Rattle.node_rules.specs.Statement.{read_by}
use Rattle.node_rules.specs.Client.{commit_at, commit_by, leaves}
use Rattle.node_calls.specs.Handled.{leaves_by}
use Rattle.node_commit.specs.Branches.{where_live, at_live, phase_of}
use Rattle.std.specs.Option.{option_map}

-- the COMMIT of a session is pending
abbrev pub pends : NodeState → ℕ → NodeState
pends k n = record k { sessions = with_call k.sessions n pending.Commit }

writer_collects : (k : NodeState) (n : ℕ) (comment : List ℕ) (x : Branch) (read_at : Option ℕ) → is_some read_at ≡ false
    → collects (pends k n) (with_comment x.live comment) true ≡ commit_at k n comment x read_at
writer_collects k n comment x None reads = refl
writer_collects k n comment x (Some scn) reads = absurd (true≢false reads)

collects_by : (k : NodeState) (n : ℕ) (comment : List ℕ) (found : Option Live) → option_map (λ l. l.phase) found ≡ Some phases.Working → is_some (read_by found) ≡ false
    → where_live (pends k n) (λ l. collects (pends k n) (with_comment l comment) true) found ≡ commit_by k n comment None (with_work k found)
collects_by k n comment None works reads = absurd cc
collects_by k n comment (Some l) works reads = writer_collects k n comment (record { live = l; work = work_at k l.me }) l.read_at reads

-- the COMMIT of a transaction that does not read at an SCN
pub collects_so : (k : NodeState) (n : ℕ) (b : BranchId) (comment : List ℕ) → phase_of k b ≡ Some phases.Working → is_some (read_by (live_at k b)) ≡ false
    → at_live (pends k n) b (λ l. collects (pends k n) (with_comment l comment) true) ≡ commit_by k n comment None (branch_at k b)
collects_so k n b comment works reads = collects_by k n comment (live_at k b) works reads

reader_by : (k : NodeState) (n : ℕ) (comment : List ℕ) (x : Branch) (read_at : Option ℕ) → is_some read_at ≡ true → leaves k n dones.Committed x ≡ commit_at k n comment x read_at
reader_by k n comment x (Some scn) reads = refl
reader_by k n comment x None reads = absurd (true≢false (sym reads))

reader_found : (k : NodeState) (n : ℕ) (comment : List ℕ) (found : Option Live) → is_some (read_by found) ≡ true
    → leaves_by k n dones.Committed (with_work k found) ≡ commit_by k n comment None (with_work k found)
reader_found k n comment None reads = absurd (true≢false (sym reads))
reader_found k n comment (Some l) reads = reader_by k n comment (record { live = l; work = work_at k l.me }) l.read_at reads

-- and of one that does
pub reader_leaves : (k : NodeState) (n : ℕ) (b : BranchId) (comment : List ℕ) → is_some (read_by (live_at k b)) ≡ true
    → leaves_by k n dones.Committed (branch_at k b) ≡ commit_by k n comment None (branch_at k b)
reader_leaves k n b comment reads = reader_found k n comment (live_at k b) reads

works_by : (k : NodeState) (found : Option Live) (l : Live) → found ≡ Some l → IfSome (with_work k found) (λ x. x.live.phase ≡ phases.Working) → option_map (λ l. l.phase) found ≡ Some phases.Working
works_by k None l at works = absurd cc
works_by k (Some x) l at works = ap Some works

-- a live root that works
pub root_works : (k : NodeState) (b : BranchId) (l : Live) → live_at k b ≡ Some l → IfSome (branch_at k b) (λ x. x.live.phase ≡ phases.Working) → phase_of k b ≡ Some phases.Working
root_works k b l at works = works_by k (live_at k b) l at works
