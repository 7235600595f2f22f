-- What steps of turns share: the live branch that a step is of, what stays so of it, and the records that clients' statements make.
use Rattle.std.proofs.Common.{◌≡◌, ℕ, Bool, true, List, Option, Some, None, sym, ap, subst}
use Rattle.node_rules.specs.Data.{Table, Link, Synonym, Param, Stmt, Answer, Done, BranchId, RedoRecord, Edge, Vote, Live, Act, Input}
use Rattle.node_rules.specs.Data.params
use Rattle.node_rules.specs.Data.records
use Rattle.tran_ids.proofs.BranchLemmas.{equal_from_same}
use Rattle.session_tree.specs.Live.{is_branch}
use Rattle.node_rules.specs.NodeState.{NodeState, Branch, live_at}
use Rattle.node_rules.specs.Marks.{branch_back}
use Rattle.node_rules.specs.Calls.{hears_reply}
use Rattle.node_rules.specs.Prepare.{collecting, with_comment, voted}
use Rattle.node_rules.proofs.StandLemmas.{live_so}
use Rattle.node_rules.proofs.Steps.{Asked, By_call, By_exec, Is_answered, Goes_to, By_rollback_to, By_back, Calls_back, Has_gone, Has_heard, Acting, Asks_down, Has_no_children, Hears_abort, Waits_on, Hears_last, At_point, Makes, Makes_table, Makes_link, Makes_synonym, Sets_recovery, Sets_strength}

-- a branch that is one is that one
pub branch_found : (b : BranchId) (o : Option BranchId) → is_branch b o ≡ true → o ≡ Some b
branch_found b None is = absurd cc
branch_found b (Some c) is = ap Some (equal_from_same c b is)

-- a branch of this id is live
abbrev pub IsLive : NodeState → BranchId → Type 0
IsLive k b = (l : Live) × (live_at k b ≡ Some l)

module _ {k : NodeState} {input : Input} where
  -- the branch of a statement
  pub asked_live : {x : Branch} {s : Stmt} {given : ℕ} → Asked k input x s given → IsLive k x.live.me
  asked_live (By_call n x s call rows has code live may) = (x.live, live_so k x.live.me x live)
  asked_live (By_exec x from call given advice s came live runs) = (x.live, live_so k x.live.me x live)

  -- the branch of an act of the prepare phase
  pub acting_live : {l : Live} {site_below : Bool} {a : Act} → Acting k input l site_below a → IsLive k l.me
  acting_live (Asks_down l comment site_below e es live begins has) = (l, live)
  acting_live (Has_no_children l comment site_below a live begins none collected) = (l, live)
  acting_live (Hears_abort l from site_below live answers) = (l, live)
  acting_live (Waits_on l from v site_below live answers other some) = (l, live)
  acting_live (Hears_last l from v site_below a live answers other all collected) = (l, live)
  acting_live (At_point l from a live came ready pointed) = (l, live)

  -- what is so of live branches, and stays so as a branch collects and hears a vote, is so of the branch of an act
  pub acting_so : (Q : Live → Type 0) → ((l : Live) (comment : List ℕ) (site_below : Bool) → Q l → Q (collecting (with_comment l comment) site_below))
      → ((l : Live) (from : BranchId) (v : Vote) → Q l → Q (voted l from v)) → ((b : BranchId) (l : Live) → live_at k b ≡ Some l → Q l)
      → {l : Live} {site_below : Bool} {a : Act} → Acting k input l site_below a → Q l
  acting_so Q collects votes lives (Asks_down l comment site_below e es live begins has) = collects l comment site_below (lives l.me l live)
  acting_so Q collects votes lives (Has_no_children l comment site_below a live begins none collected) = collects l comment site_below (lives l.me l live)
  acting_so Q collects votes lives (Hears_abort l from site_below live answers) = votes l from _ (lives l.me l live)
  acting_so Q collects votes lives (Waits_on l from v site_below live answers other some) = votes l from v (lives l.me l live)
  acting_so Q collects votes lives (Hears_last l from v site_below a live answers other all collected) = votes l from v (lives l.me l live)
  acting_so Q collects votes lives (At_point l from a live came ready pointed) = lives l.me l live

-- a branch that goes back is live
pub gone_back_live : {k : NodeState} {input : Input} {x : Branch} {step : ℕ} → Goes_to k input x step → live_at k x.live.me ≡ Some x.live
gone_back_live {k = k} (By_rollback_to n x name step call has code live set) = live_so k x.live.me x live
gone_back_live {k = k} (By_back x from call keep came live runs) = live_so k x.live.me x live

-- and so is one whose children are to go back
pub calling_back_live : {k : NodeState} {input : Input} {x : Branch} {step from : ℕ} → Calls_back k input x step from → IsLive k x.live.me
calling_back_live (Has_gone before x step goes is) = subst (λ j. IsLive j x.live.me) (sym is) (x.live, gone_back_live goes)
calling_back_live {k = k} (Has_heard x weight count a i e g step answered going errand done) = (x.live, live_so k x.live.me x answered.live)

-- what is so of live branches, and stays so as a branch goes back and hears a Reply, is so of one whose children are to go back
pub calling_back_so : {k : NodeState} {input : Input} (Q : Live → Type 0) → ((before : NodeState) (x : Branch) (step : ℕ) → Q x.live → Q (branch_back before x step).live)
    → ((x : Branch) (weight : Option ℕ) (count : ℕ) (a : Answer) (i : ℕ) (e : Edge) → Is_answered k input x weight count a i e → Q x.live → Q (hears_reply x i weight count e).live)
    → ((b : BranchId) (l : Live) → live_at k b ≡ Some l → Q l) → {x : Branch} {step from : ℕ} → Calls_back k input x step from → Q x.live
calling_back_so Q backs hears lives (Has_gone before x step goes is) =
    backs before x step (lives x.live.me x.live (subst (λ j. live_at j x.live.me ≡ Some x.live) (sym is) (gone_back_live goes)))
calling_back_so {k = k} Q backs hears lives (Has_heard x weight count a i e g step answered going errand done) =
    hears x weight count a i e answered (lives x.live.me x.live (live_so k x.live.me x answered.live))

-- what is so of the records of the catalog and of the settings is so of a record that a statement makes
pub made_so : (P : RedoRecord → Type 0) → ((t : Table) → P (records.Table t)) → ((l : Link) → P (records.Link l)) → ((y : Synonym) → P (records.Synonym y))
    → ((setting : Param) → P (records.Param setting))
    → {k : NodeState} {s : Stmt} {r : RedoRecord} {d : Done} → Makes k s r d → P r
made_so P table link synonym param (Makes_table t free) = table t
made_so P table link synonym param (Makes_link l free) = link l
made_so P table link synonym param (Makes_synonym y free) = synonym y
made_so P table link synonym param (Sets_recovery on) = param (params.Recovery on)
made_so P table link synonym param (Sets_strength strength) = param (params.Strength strength)
