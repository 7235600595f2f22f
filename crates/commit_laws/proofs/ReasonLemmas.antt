-- Each step of a node that leaves a branch below a root no longer live has a reason.
use Rattle.std.proofs.Common.{◌≡◌, ◌≢◌, ℕ, ◌&&◌, ◌||◌, Bool, true, false, if◌then◌else◌, List, [], ◌∷◌, map, Option, Some, None, refl, ap, subst, ◌∙◌}
use Rattle.std.specs.List.{list_any}
use Rattle.tran_ids.proofs.BranchLemmas.{equal_from_same, same_from_equal}
use Rattle.tran_ids.proofs.ListedLemmas.{item_is}
use Rattle.session_tree.specs.Live.{is_branch}
use Rattle.node_rules.specs.Data.{Live, BranchId, Place, Msg, Post, RedoRecord, Input}
use Rattle.node_rules.specs.Data.kinds
use Rattle.node_rules.specs.Words.{same}
use Rattle.node_rules.specs.Inputs.{Came}
use Rattle.node_rules.specs.NodeState.{NodeState, TurnDraft, live_id, live_at, to_one}
use Rattle.node_rules.specs.Turn.{stamped}
use Rattle.node_rules.proofs.Steps.{Step}
use Rattle.run_rules.specs.Trail.{is_quiet, is_read_only}
use Rattle.commit_laws.specs.LeaveLaws.{Reason, Seals, Decides, Says_read_only, Gets_rollback, Is_rolled_back, Is_asked, Hears_abort}
use Rattle.agreement.specs.Events.{Exit, Sealed, Decided}
use Rattle.node_rules.specs.Data.records
use Rattle.run_rules.specs.Trail.{recorded_exit}
use Rattle.run_base_laws.proofs.RootLemmas.{SessionsFit, root_alone}
use Rattle.tree_laws.proofs.TopStepLemmas.{Why, By_record, By_quiet, By_finish, By_abort, By_rollback, By_parent, By_ask, By_call, By_reading, By_give_up, why_on}

-- ---- ReadOnly

-- whether a message is ReadOnly of this branch
abbrev pub is_quiet_post : BranchId → Post → Bool
is_quiet_post b m = same m.from b && is_read_only m.kind

pub stamped_quiet : (b : BranchId) (clock : ℕ) (xs : List Post) → list_any (is_quiet b) (map (stamped clock) xs) ≡ list_any (is_quiet_post b) xs
stamped_quiet b clock [] = refl
stamped_quiet b clock (x ∷ xs) = ap (λ r. is_quiet_post b x || r) (stamped_quiet b clock xs)

one_quiet : (me : BranchId) (o : Option BranchId) → o ≢ None → list_any (is_quiet_post me) (to_one me kinds.ReadOnly o) ≡ true
one_quiet me None some = absurd (some refl)
one_quiet me (Some q) some = ap (λ r. (r && true) || false) (same_from_equal me me refl)

is_parent : (from : BranchId) (o : Option BranchId) → is_branch from o ≡ true → o ≡ Some from
is_parent from None is = absurd cc
is_parent from (Some c) is = ap Some (equal_from_same c from is)

-- ---- a branch below a root

module _ (p : Place) (input : Input) (b : BranchId) (z : Live) (below : z.parent ≢ None) where
  recorded : (wrote : Option RedoRecord) (sent : List Msg) (e : Exit) → recorded_exit b wrote ≡ Some e → Reason input b z.parent wrote sent
  recorded (Some (records.Sealed r)) sent e is = by (same r.me b) refl is
    where
      by : (q : Bool) → same r.me b ≡ q → (if q then Some (Sealed r.scn) else None) ≡ Some e → Reason input b z.parent (Some (records.Sealed r)) sent
      by true me there = Seals r refl (equal_from_same r.me b me)
      by false other there = absurd cc
  recorded (Some (records.Decided r)) sent e is = by (same r.me b) refl is
    where
      by : (q : Bool) → same r.me b ≡ q → (if q then Some (Decided r.scn) else None) ≡ Some e → Reason input b z.parent (Some (records.Decided r)) sent
      by true me there = Decides r refl (equal_from_same r.me b me)
      by false other there = absurd cc
  recorded _ sent e is = absurd cc

  module _ (k : NodeState) (fit : SessionsFit k) (live : live_at k b ≡ Some z) where
    me : z.me ≡ b
    me = item_is live_id k.lives b z live

    reason : (wrote : Option RedoRecord) (says : List Post) (sent : List Msg) → list_any (is_quiet b) sent ≡ list_any (is_quiet_post b) says → Why input b z k.sessions wrote says → Reason input b z.parent wrote sent
    reason wrote says sent quiet (By_record e is) = recorded wrote sent e is
    reason wrote says sent quiet (By_quiet q above said) = Says_read_only (quiet ∙ (ap (λ xs. list_any (is_quiet_post b) xs) said ∙ one_quiet b (Some q) (λ no. absurd cc)))
    reason wrote says sent quiet (By_finish root why) = absurd (below root)
    reason wrote says sent quiet (By_abort from down answers) =
        let it : Some kinds.Abort ≡ Some answers.kind = answers.is_vote in
        let kind : answers.kind ≡ kinds.Abort = cc in
        Hears_abort from (subst (λ i. Came input from i kinds.Abort) me (subst (Came input from z.me) kind answers.came))
    reason wrote says sent quiet (By_rollback from came) = Gets_rollback from came
    reason wrote says sent quiet (By_parent from came above) = Is_rolled_back from came (is_parent from z.parent above)
    reason wrote says sent quiet (By_ask from came above) = Is_asked from came (is_parent from z.parent above)
    reason wrote says sent quiet (By_call n call at root) = absurd (below root)
    reason wrote says sent quiet (By_reading n comment scn call reads at root) = absurd (below root)
    reason wrote says sent quiet (By_give_up n gives has calls) = absurd (below (root_alone k fit n b has z live))

  pub leaves_on : {k : NodeState} {d : TurnDraft} → Step p input k d → SessionsFit k → live_at k b ≡ Some z → live_at d.after b ≡ None
      → (sent : List Msg) → list_any (is_quiet b) sent ≡ list_any (is_quiet_post b) d.says → Reason input b z.parent d.wrote sent
  leaves_on {k = k} {d = d} step fit live none sent quiet = reason k fit live d.wrote d.says sent quiet (why_on input b z p (λ from down comment came. below) (λ root. absurd (below root)) step fit live none)
