-- Each step of a node that leaves a root no longer live has a reason: an act of its prepare phase, or a rollback.
use Rattle.std.proofs.Common.{◌≡◌, ℕ, Bool, true, false, if◌then◌else◌, List, [], ◌∷◌, ◌++◌, Option, Some, None, refl, sym, ap, subst, ◌∙◌}
use Rattle.tran_ids.proofs.BranchLemmas.{equal_from_same}
use Rattle.tran_ids.proofs.ListedLemmas.{put_found, put_leaves, drop_leaves}
use Rattle.commit_forget.specs.declared.next.Next.TheVariants as nexts
use Rattle.session_tree.specs.Live.{is_branch, new_edge}
use Rattle.node_rules.specs.Data.{Live, Act, BranchId, Place, Sealed, Decided, Input, Done, Stmt}
use Rattle.node_rules.specs.Data.acts
use Rattle.node_rules.specs.Data.kinds
use Rattle.node_rules.specs.Data.inputs
use Rattle.node_rules.specs.Data.records
use Rattle.node_rules.specs.Data.stmts
use Rattle.node_rules.specs.Words.{same, item_at, put_item, drop_item}
use Rattle.node_rules.specs.Inputs.{Came, IsCall}
use Rattle.node_rules.specs.NodeState.{NodeState, TurnDraft, live_id, live_at, to_one, Branch, branch_at}
use Rattle.node_rules.specs.Statement.{ran, after_run}
use Rattle.node_rules.specs.Calls.{with_edge, hears_reply}
use Rattle.node_rules.specs.Prepare.{ready, act_turn, to_children}
use Rattle.node_rules.proofs.Steps as steps
use Rattle.node_rules.proofs.Steps.{Step, Acting, EndsAtOnce, HasRoot}
use Rattle.run_branch_laws.proofs.QuietLemmas.{NoRows, acting_apart, call_apart}
use Rattle.tree_laws.proofs.WhyLemmas.{Near, ActsIn}
use Rattle.run_base_laws.proofs.BeginLemmas.{MayBegin, may_begin}
use Rattle.commit_laws.proofs.CommitCallLemmas.{OfCommit, begun_commit, counted_commit, pends_commit}
use Rattle.node_rules.proofs.StandLemmas.{live_so}

-- ---- lists of live branches

last_found : (ls : List Live) (x : Live) (b : BranchId) (l : Live) → item_at live_id ls b ≡ Some l → item_at live_id (ls ++ x ∷ []) b ≡ Some l
last_found [] x b l found = absurd cc
last_found (y ∷ ls) x b l found = by (same y.me b) found (last_found ls x b l)
  where
    by : (q : Bool) → (if q then Some y else item_at live_id ls b) ≡ Some l → (item_at live_id ls b ≡ Some l → item_at live_id (ls ++ x ∷ []) b ≡ Some l) → (if q then Some y else item_at live_id (ls ++ x ∷ []) b) ≡ Some l
    by true here rest = here
    by false other rest = rest other

no_parent : (from : BranchId) (o : Option BranchId) → o ≡ None → is_branch from o ≡ true → ⊥
no_parent from None none is = absurd cc
no_parent from (Some c) none is = absurd cc

-- ---- reasons

-- Why a root leaves in a step.
pub data StepReason (k0 : NodeState) (input : Input) (b : BranchId) (d : TurnDraft) : Type 0 where
  Wrote_seal : (r : Sealed) → d.wrote ≡ Some (records.Sealed r) → r.me ≡ b → StepReason k0 input b d
  Wrote_decision : (r : Decided) → d.wrote ≡ Some (records.Decided r) → r.me ≡ b → StepReason k0 input b d
  Found_none : (l : Live) (below : Bool) → ActsIn k0 input l below acts.Finish → l.me ≡ b → StepReason k0 input b d
  Said_none : (l : Live) (below : Bool) → ActsIn k0 input l below acts.SayReadOnly → l.me ≡ b → StepReason k0 input b d
  Abandons : (l : Live) (below : Bool) → ActsIn k0 input l below acts.Abandon → l.me ≡ b → d.says ≡ to_one l.me kinds.Abort l.parent ++ to_children l kinds.Rollback → StepReason k0 input b d
  Told_rollback : (from : BranchId) → Came input from b kinds.Rollback → StepReason k0 input b d
  Rolls : (n : ℕ) → IsCall input n stmts.Rollback → StepReason k0 input b d
  Reads : (l : Live) (comment : Option (List ℕ)) (scn : ℕ) → IsCall input b.session (stmts.Commit comment) → live_at k0 b ≡ Some l → l.read_at ≡ Some scn → StepReason k0 input b d
  Gives : (n : ℕ) → input ≡ inputs.GiveUp n → StepReason k0 input b d

module _ (p : Place) (k0 : NodeState) (input : Input) (b : BranchId) where
  -- the branch is live, and a root
  abbrev pub Lives : NodeState → Type 0
  Lives k = (l : Live) × (live_at k b ≡ Some l) × (l.parent ≡ None)

  -- a COMMIT comes to the root of its session
  abbrev Own : Live → Type 0
  Own l = (comment : Option (List ℕ)) × IsCall input l.me.session (stmts.Commit comment)

  abbrev pub CallsOwn : NodeState → Type 0
  CallsOwn k = OfCommit Own p input k

  -- it has a reason where it is live no more
  abbrev pub Leaves : TurnDraft → Type 0
  Leaves d = live_at d.after b ≡ None → StepReason k0 input b d

  module _ (k : NodeState) (lives : Lives k) where
    put_not : (x : Live) → item_at live_id (put_item live_id k.lives x) b ≡ None → ⊥
    put_not x none = by (same x.me b) refl
      where
        by : (q : Bool) → same x.me b ≡ q → ⊥
        by true is =
            let me : x.me ≡ b = equal_from_same x.me b is in
            let at : item_at live_id (put_item live_id k.lives x) b ≡ Some x = subst (λ i. item_at live_id (put_item live_id k.lives x) i ≡ Some x) me (put_found live_id k.lives x) in
            absurd (cc (at, none))
        by false is =
            let at : item_at live_id (put_item live_id k.lives x) b ≡ Some lives.0 = put_leaves live_id k.lives x b is ∙ lives.1 in
            absurd (cc (at, none))

    last_not : (x : Live) → item_at live_id (k.lives ++ x ∷ []) b ≡ None → ⊥
    last_not x none = (let at : item_at live_id (k.lives ++ x ∷ []) b ≡ Some lives.0 = last_found k.lives x b lives.0 lives.1 in absurd (cc (at, none)))

    still_not : live_at k b ≡ None → ⊥
    still_not none = (let at = lives.1 in absurd (cc (at, none)))

    -- who is taken out is the branch
    dropped_is : (c : BranchId) → item_at live_id (drop_item live_id k.lives c) b ≡ None → c ≡ b
    dropped_is c none = by (same c b) refl
      where
        by : (q : Bool) → same c b ≡ q → c ≡ b
        by true is = equal_from_same c b is
        by false is = (let at : item_at live_id (drop_item live_id k.lives c) b ≡ Some lives.0 = drop_leaves live_id k.lives c b is ∙ lives.1 in absurd (cc (at, none)))

    its_parent : (l : Live) → live_at k l.me ≡ Some l → l.me ≡ b → l.parent ≡ None
    its_parent l live me =
        let there : live_at k b ≡ Some l = subst (λ i. live_at k i ≡ Some l) me live in
        let both : Some l ≡ Some lives.0 = sym there ∙ lives.1 in
        let it : l ≡ lives.0 = cc in
        ap (λ (x : Live). x.parent) it ∙ lives.2

    module _ (near : Near k0 k) where
      acts_leave : (l : Live) (below : Bool) (a : Act) → Acting k input l below a → Leaves (act_turn k l below a)
      acts_leave l below acts.Rest why none = absurd (put_not l none)
      acts_leave l below acts.AskDown why none = absurd (put_not l none)
      acts_leave l below acts.SayReady why none = absurd (put_not (ready l) none)
      acts_leave l below acts.SayReadOnly why none = Said_none l below (record { here = k; near = near; acting = why }) (dropped_is l.me none)
      acts_leave l below acts.Seal why none = Wrote_seal _ refl (dropped_is l.me none)
      acts_leave l below (acts.SealAndPass i) why none = Wrote_seal _ refl (dropped_is l.me none)
      acts_leave l below acts.Decide why none = Wrote_decision _ refl (dropped_is l.me none)
      acts_leave l below acts.Finish why none = Found_none l below (record { here = k; near = near; acting = why }) (dropped_is l.me none)
      acts_leave l below acts.Abandon why none = Abandons l below (record { here = k; near = near; acting = why }) (dropped_is l.me none) refl

    told_leave : (l : Live) → live_at k l.me ≡ Some l → steps.Drops input l → l.me ≡ b → (d : TurnDraft) → StepReason k0 input b d
    told_leave l live (steps.By_rollback from came) me d = Told_rollback from (subst (λ i. Came input from i kinds.Rollback) me came)
    told_leave l live (steps.By_parent from came is) me d = absurd (no_parent from l.parent (its_parent l live me) is)

  -- a root that ends at once
  ends_so : {k : NodeState} {n : ℕ} {s : Stmt} {done : Done} {x : Branch} {code : Option ℕ} → IsCall input n s → EndsAtOnce code x.live.read_at s done → (NoRows input → Near k0 k) → CallsOwn k → HasRoot k n x.live.me
      → branch_at k x.live.me ≡ Some x → x.live.me ≡ b → (d : TurnDraft) → StepReason k0 input b d
  ends_so {n = n} call steps.By_rollback_call near own has live me d = Rolls n call
  ends_so {k = k} {n = n} {x = x} call (steps.By_reading comment scn held reads) near own has live me d =
      let found : live_at k x.live.me ≡ Some x.live = live_so k x.live.me x live in
      let mine = own n comment x.live call has found in
      let now : Near k0 k = near (λ m s other begins. subst MayBegin (call_apart m n s (stmts.Commit comment) other call) begins) in
      let there : live_at k0 x.live.me ≡ Some x.live = subst (λ (ls : List Live). item_at live_id ls x.live.me ≡ Some x.live) now.lives found in
      Reads x.live mine.0 scn (subst (λ (c : BranchId). IsCall input c.session (stmts.Commit mine.0)) me mine.1) (subst (λ c. live_at k0 c ≡ Some x.live) me there) reads

  pub root_leaves : {k : NodeState} {d : TurnDraft} → Step p input k d → (NoRows input → Near k0 k) → CallsOwn k → Lives k → Leaves d
  root_leaves (steps.Begins {k = k} n s read_at call begins range free step) near own lives none =
      root_leaves step (λ no. absurd (no n s call (may_begin begins))) (begun_commit Own p input k n s read_at call begins) (lives.0, last_found k.lives _ b lives.0 lives.1, lives.2) none
  root_leaves (steps.Counts_call {k = k} n s call counts step) near own lives none =
      root_leaves step (λ no. (let is = near no in record { lives = is.lives; clock = is.clock })) (counted_commit Own p input k n s call counts) lives none
  root_leaves (steps.Goes_back {k = k} x step goes next) near own lives none = root_leaves next (λ no. (let is = near no in record { lives = is.lives; clock = is.clock })) own lives none
  root_leaves (steps.Pends {k = k} n l given call has live code writer step) near own lives none =
      root_leaves step (λ no. (let is = near no in record { lives = is.lives; clock = is.clock })) (pends_commit Own p input k n l given call has own) lives none
  root_leaves (steps.Lets_reads_go {k = k} l comment down live begins step) near own lives none = root_leaves step (λ no. (let is = near no in record { lives = is.lives; clock = is.clock })) own lives none
  root_leaves (steps.Counts_ack {k = k} s from kept came counts step) near own lives none = root_leaves step (λ no. (let is = near no in record { lives = is.lives; clock = is.clock })) own lives none
  root_leaves (steps.Runs {k = k} x s given t asked way) near own lives none = absurd (put_not k lives (after_run x.live (ran p k x.live.me s t)) none)
  root_leaves (steps.Goes_nowhere {k = k} x s given r asked way) near own lives none = absurd (put_not k lives x.live none)
  root_leaves (steps.Calls {k = k} x s given i table asked way) near own lives none = absurd (put_not k lives x.live none)
  root_leaves (steps.Opens {k = k} x s given node link table asked way) near own lives none = absurd (put_not k lives x.live none)
  root_leaves (steps.Goes_on {k = k} x from strength g link opened) near own lives none = absurd (put_not k lives (with_edge x (new_edge from link strength)).live none)
  root_leaves (steps.Hears_reply {k = k} x weight count a i e answered) near own lives none = absurd (put_not k lives (hears_reply x i weight count e).live none)
  root_leaves (steps.Backs {k = k} x step from i calls next) near own lives none = absurd (put_not k lives x.live none)
  root_leaves (steps.Is_back {k = k} x step from calls done) near own lives none = absurd (put_not k lives x.live none)
  root_leaves (steps.Opens_branch {k = k} to up edge root depth read_at came new) near own lives none = absurd (last_not k lives _ none)
  root_leaves (steps.Acts {k = k} l down a why) near own lives none = acts_leave k lives (near (acting_apart why)) l down a why none
  root_leaves (steps.Drops_told {k = k} l live drops) near own lives none = told_leave k lives l live drops (dropped_is k lives l.me none) _
  root_leaves (steps.Drops_asked {k = k} l from live came is) near own lives none = absurd (no_parent from l.parent (its_parent k lives l live (dropped_is k lives l.me none)) is)
  root_leaves (steps.Does {k = k} s from (nexts.End d) kept why) near own lives none = absurd (still_not k lives none)
  root_leaves (steps.Gives_up {k = k} n x gives has calls live) near own lives none = absurd (put_not k lives x.live none)
  root_leaves (steps.Gives_up_commit {k = k} n c (Some l) gives has calls live) near own lives none = Gives n gives
  root_leaves (steps.Leaves {k = k} n s d x call ends has live) near own lives none = ends_so call ends near own has live (dropped_is k lives x.live.me none) _
  root_leaves (steps.Sets_savepoint {k = k} n x name call has code live) near own lives none = absurd (put_not k lives x.live none)
  root_leaves {k = k} _ near own lives none = absurd (still_not k lives none)
