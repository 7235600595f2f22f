-- A call of a client, by what is told: none is pending of its session, whose transaction is told as its node keeps it.
use Rattle.std.proofs.Common.{◌≡◌, ℕ, Option, Some, None, refl, subst}
use Rattle.tran_ids.proofs.ListedLemmas.{item_is}
use Rattle.node_rules.specs.Data.{BranchId, Live, Stmt, Input}
use Rattle.node_rules.specs.Data.inputs
use Rattle.node_rules.specs.declared.session.PendingCall.TheVariants as pending
use Rattle.node_rules.specs.Inputs.{IsSession}
use Rattle.node_rules.specs.NodeState.{NodeState, live_at}
use Rattle.node_rules.specs.Sessions.{session_at}
use Rattle.run_rules.specs.Branches.{Seen, Trail, seen_id, seen_at}
use Rattle.run_rules.specs.Data.{Took}
use Rattle.run_rules.specs.Facts.{Facts}
use Rattle.run_rules.specs.Lawful.{Comes}
use Rattle.tree_trail_laws.specs.SeenLaws.{IsSeenRoot}

pub call_free : (f : Facts) (k : NodeState) (node : ℕ) (input : Input) (took : Option Took) (n : ℕ) (s : Option Stmt) → input ≡ inputs.Call n s → Comes f k node input took → IsSession n × ((session_at k.sessions n).call ≡ pending.NoCall)
call_free f k node input took n s is comes = by took (subst (λ i. Comes f k node i took) is comes)
  where
    by : (took : Option Took) → Comes f k node (inputs.Call n s) took → IsSession n × ((session_at k.sessions n).call ≡ pending.NoCall)
    by None comes = (comes.0, comes.1)
    by (Some t) comes = absurd comes

-- the transaction of a session, as it is told
pub seen_root : (tr : Trail) (k : NodeState) (o : Option Seen) (p : Option BranchId) (b : BranchId) → p ≡ Some b → IsSeenRoot tr k o p
    → (s : Seen) × (o ≡ Some s) × (s.me ≡ b) × ((l : Live) × (live_at k b ≡ Some l)) × (seen_at tr b ≡ Some s)
seen_root tr k None None b is seen = absurd cc
seen_root tr k (Some s) None b is seen = absurd seen
seen_root tr k None (Some c) b is seen = absurd seen
seen_root tr k (Some s) (Some c) b is seen =
    let same : c ≡ b = cc in
    let at : seen_at tr b ≡ Some s = subst (λ d. seen_at tr d ≡ Some s) same seen.0 in
    (s, refl, item_is seen_id tr.seen b s at, (seen.1.0, subst (λ d. live_at k d ≡ Some seen.1.0) same seen.1.1), at)
