-- What an act of the prepare phase does to the session of a root whose COMMIT is pending: it stays as it was, and so does the
-- root or its row; or the COMMIT is answered with Commit complete. No Abort comes to the root.
use Rattle.std.proofs.Common.{◌≡◌, ◌≢◌, ℕ, ◌+◌, ◌⊎◌, Bool, true, false, if◌then◌else◌, [], ◌∷◌, Option, Some, None, inl, inr, refl, sym, ap, subst, ◌∙◌}
use Rattle.tran_ids.proofs.BranchLemmas.{equal_from_same, same_from_equal}
use Rattle.tran_ids.proofs.ListedLemmas.{item_is}
use Rattle.node_rules.specs.Data.{Act, BranchId, Input, Kind, Live, RedoRecord, Stmt, Task}
use Rattle.node_rules.specs.Data.acts
use Rattle.node_rules.specs.Data.inputs
use Rattle.node_rules.specs.Data.kinds
use Rattle.node_rules.specs.Data.tasks
use Rattle.node_rules.specs.Marks.{node_back}
use Rattle.node_rules.specs.Data.records
use Rattle.node_rules.specs.declared.session.PendingCall.TheVariants as pending
use Rattle.node_rules.specs.declared.work.Going.{Going}
use Rattle.node_rules.specs.Inputs.{Came}
use Rattle.node_rules.specs.NodeState.{NodeState, Branch, TurnDraft, live_id, live_at, branch_at}
use Rattle.node_rules.specs.Records.{applied}
use Rattle.node_rules.specs.Prepare.{act_turn, is_alone, sealed_of, decided_of, own_changes, ready}
use Rattle.node_rules.specs.Sessions.{session_at, commit_complete, commit_ended, commit_answer}
use Rattle.node_rules.specs.Words.{same, put_item, drop_item}
use Rattle.tree_laws.specs.AskLaws.{way_of}
use Rattle.node_rules.proofs.StandLemmas.{live_so}
use Rattle.node_rules.proofs.Steps as steps
use Rattle.node_rules.proofs.Steps.{Acting, Asked, Collects, Collected, Pointed, Calls_back, Goes_to}
use Rattle.commit_leave_laws.proofs.AloneLemmas.{alone_or_kept}
use Rattle.commit_leave_laws.proofs.LastLemmas.{Lasts, Spares, has_row, is_living, row_applied, sealed_row, decided_row, lives_put, lives_drop}
use Rattle.commit_leave_laws.proofs.SessionLemmas.{Keeps, answers_of, same_keeps, commit_keeps, alone_keeps, abandon_keeps, own_ends, own_free}
use Rattle.session_tree.specs.Tree.{weight}

-- whether a message may end the COMMIT of a root that waits, or begins no collect of one
abbrev pub upsets : Kind → Bool
upsets (kinds.Prepare site_below comment) = true
upsets kinds.Abort = true
upsets kinds.Rollback = true
upsets kinds.RolledBack = true
upsets kinds.Ask = true
upsets _ = false

pub same_or : (a b : BranchId) → (a ≡ b) ⊎ (a ≢ b)
same_or a b = by (same a b) refl
  where
    by : (q : Bool) → same a b ≡ q → (a ≡ b) ⊎ (a ≢ b)
    by true is = inl (equal_from_same a b is)
    by false is = inr (λ e. (let it : same a b ≡ true = same_from_equal a b e in cc (it, is)))

-- who says ReadOnly was not on the walk, and nobody drops a transaction whose children all answered
collected_below : {z : Live} {q : Bool} {b : Act} → Collected z q b → b ≡ acts.SayReadOnly → q ≡ false
collected_below (steps.Has_nothing nothing) is = refl
collected_below (steps.Is_prepared some) is = refl
collected_below (steps.Awaits_point some) is = absurd cc
collected_below (steps.Passes i top down) is = absurd cc
collected_below (steps.Is_site top here) is = absurd cc
collected_below (steps.Has_no_site top nowhere) is = absurd cc

never_abandons : {z : Live} {q : Bool} {b : Act} → Collected z q b → b ≡ acts.Abandon → ⊥
never_abandons (steps.Has_nothing nothing) is = absurd cc
never_abandons (steps.Is_prepared some) is = absurd cc
never_abandons (steps.Awaits_point some) is = absurd cc
never_abandons (steps.Passes i top down) is = absurd cc
never_abandons (steps.Is_site top here) is = absurd cc
never_abandons (steps.Has_no_site top nowhere) is = absurd cc

never_points : {z : Live} {b : Act} → Pointed z b → (b ≡ acts.SayReadOnly) ⊎ (b ≡ acts.Abandon) → ⊥
never_points (steps.Points_on i down) is = elim is [ inl it ↦ absurd cc | inr it ↦ absurd cc ]
never_points (steps.Points_here here) is = elim is [ inl it ↦ absurd cc | inr it ↦ absurd cc ]
never_points (steps.Points_nowhere nowhere) is = elim is [ inl it ↦ absurd cc | inr it ↦ absurd cc ]

-- no client calls, and none gives up
pub record IsNoCall (input : Input) : Type 0 where
  pub calls : (n : ℕ) (s : Option Stmt) → input ≡ inputs.Call n s → ⊥
  pub gives_up : (n : ℕ) → input ≡ inputs.GiveUp n → ⊥

module _ (m : ℕ) (r : BranchId) (own : r.session ≡ m) (input : Input) where
  -- What is known of the node as a message comes: the session of the root has that transaction or none, roots are their
  -- sessions' transactions, that root waits for nothing, and nothing comes to it that upsets its COMMIT.
  pub record Known (k : NodeState) : Type 0 where
    pub only : (b : BranchId) → (session_at k.sessions m).root ≡ Some b → b ≡ r
    pub commits : (session_at k.sessions m).root ≡ Some r → (session_at k.sessions m).call ≡ pending.Commit
    pub roots : (l : Live) → live_at k l.me ≡ Some l → l.parent ≡ None → (session_at k.sessions l.me.session).root ≡ Some l.me
    pub rests : (x : Branch) → branch_at k x.live.me ≡ Some x → x.live.parent ≡ None → x.live.me.session ≡ m → x.work.going ≡ None
    pub below : (from to : BranchId) (call : ℕ) (task : Task) → Came input from to (kinds.Exec call task) → (l : Live) → live_at k to ≡ Some l → l.parent ≢ None
    pub top : (l : Live) → live_at k r ≡ Some l → (l.parent ≡ None) × (way_of l.phase ≢ Some false)
    pub calm : (from : BranchId) (kind : Kind) → Came input from r kind → upsets kind ≡ false

  -- what a step leaves of the session
  abbrev pub Effect : NodeState → TurnDraft → Type 0
  Effect k d = (Keeps m k.sessions d.after.sessions d.ended × ((session_at k.sessions m).root ≡ Some r → Lasts r k → Lasts r d.after))
      ⊎ (((session_at k.sessions m).root ≡ Some r) × (answers_of m d.ended ≡ commit_complete ∷ []) × ((session_at d.after.sessions m).root ≡ None))

  -- a branch that goes back without a call is no root
  goes_below : (k : NodeState) → Known k → IsNoCall input → {x : Branch} {step : ℕ} → Goes_to k input x step → x.live.parent ≡ None → ⊥
  goes_below k now quiet (steps.By_rollback_to n x name step call has code live set) root = quiet.calls n _ call
  goes_below k now quiet (steps.By_back x from call keep came live runs) root = now.below from x.live.me call (tasks.GoBack keep) came x.live (live_so k x.live.me x live) root

  module _ (k : NodeState) (now : Known k) where
    -- nothing of the sessions changes
    pub still : (d : TurnDraft) → d.after.sessions ≡ k.sessions → d.ended ≡ [] → (Lasts r k → Lasts r d.after) → Effect k d
    still d sessions ended lasts = inl (subst (λ ss. Keeps m k.sessions ss d.ended) (sym sessions) (subst (Keeps m k.sessions k.sessions) (sym ended) (same_keeps m k.sessions)), (λ root. lasts))

    -- a branch that is not this root is not the session's transaction
    pub not_mine : (b : BranchId) → b ≢ r → (session_at k.sessions m).root ≢ Some b
    not_mine b other root = other (now.only b root)

    -- the live root is
    mine : (l : Live) → live_at k r ≡ Some l → (session_at k.sessions m).root ≡ Some r
    mine l live =
        let me : l.me ≡ r = item_is live_id k.lives r l live in
        let at : (session_at k.sessions l.me.session).root ≡ Some l.me = now.roots l (subst (λ b. live_at k b ≡ Some l) (sym me) live) (now.top l live).0 in
        subst (λ n. (session_at k.sessions n).root ≡ Some r) own (subst (λ b. (session_at k.sessions b.session).root ≡ Some b) me at)

    -- the COMMIT of the root is complete
    pub completes : (d : TurnDraft) → d.after.sessions ≡ commit_ended k.sessions r → d.ended ≡ commit_answer k.sessions r commit_complete → (session_at k.sessions m).root ≡ Some r → Effect k d
    completes d sessions ended root = inr (
      root,
      ap (answers_of m) ended ∙ own_ends m k.sessions r own root (now.commits root) commit_complete,
      ap (λ ss. (session_at ss m).root) sessions ∙ own_free m k.sessions r own root (now.commits root),
    )

    -- ---- statements

    pub asked_live : {x : Branch} {s : Stmt} {given : ℕ} → Asked k input x s given → (y : Live) × (live_at k x.live.me ≡ Some y)
    asked_live (steps.By_call n x s call rows has code live may) = (x.live, live_so k x.live.me x live)
    asked_live (steps.By_exec x from call given advice s came live runs) = (x.live, live_so k x.live.me x live)

    pub asked_below : IsNoCall input → {x : Branch} {s : Stmt} {given : ℕ} → Asked k input x s given → x.live.parent ≡ None → ⊥
    asked_below quiet (steps.By_call n x s call rows has code live may) root = quiet.calls n (Some s) call
    asked_below quiet (steps.By_exec x from call given advice s came live runs) root = now.below from x.live.me call (tasks.Run given advice s) came x.live (live_so k x.live.me x live) root

    pub waits_elsewhere : (x : Branch) (g : Going) → branch_at k x.live.me ≡ Some x → x.work.going ≡ Some g → x.live.parent ≡ None → x.live.me.session ≢ m
    waits_elsewhere x g live going root here = (let none : x.work.going ≡ None = now.rests x live root here in cc (none, going))

    -- a root whose children are to go back is of another session
    pub calling_elsewhere : IsNoCall input → {x : Branch} {step from : ℕ} → Calls_back k input x step from → x.live.parent ≡ None → x.live.me.session ≢ m
    calling_elsewhere quiet (steps.Has_gone j x step goes is) root = (let was : Known (node_back j x step) = subst Known is now in
        absurd (goes_below j (record { only = was.only; commits = was.commits; roots = was.roots; rests = was.rests; below = was.below; top = was.top; calm = was.calm }) quiet goes root))
    calling_elsewhere quiet (steps.Has_heard x weight count a i e g step answered going errand plain) root = waits_elsewhere x g answered.live going root

    -- ---- what lasts

    pub lasts_put : (l y : Live) → live_at k l.me ≡ Some y → Lasts r k → (is_living r (put_item live_id k.lives l) ≡ true) ⊎ (has_row r k.stored.durable.kept ≡ true)
    lasts_put l y live (inl living) = inl (lives_put r k k.lives l y live living)
    lasts_put l y live (inr row) = inr row

    pub lasts_drop : (b : BranchId) → b ≢ r → Lasts r k → (is_living r (drop_item live_id k.lives b) ≡ true) ⊎ (has_row r k.stored.durable.kept ≡ true)
    lasts_drop b other (inl living) = inl (lives_drop r k k.lives b other living)
    lasts_drop b other (inr row) = inr row

    pub lasts_write : (x : RedoRecord) → Spares r x → Lasts r k → (is_living r k.lives ≡ true) ⊎ (has_row r (applied k.stored x).durable.kept ≡ true)
    lasts_write x spares (inl living) = inl living
    lasts_write x spares (inr row) = inr (row_applied r k.stored x spares row)

    lasts_moved : (b : BranchId) → b ≢ r → (x : RedoRecord) → Spares r x → Lasts r k → (is_living r (drop_item live_id k.lives b) ≡ true) ⊎ (has_row r (applied k.stored x).durable.kept ≡ true)
    lasts_moved b other x spares (inl living) = inl (lives_drop r k k.lives b other living)
    lasts_moved b other x spares (inr row) = inr (row_applied r k.stored x spares row)

    -- ---- the prepare phase

    acting_live : {l : Live} {site_below : Bool} {a : Act} → Acting k input l site_below a → (y : Live) × (live_at k l.me ≡ Some y) × (y.parent ≡ l.parent)
    acting_live (steps.Asks_down l comment site_below e es live begins some) = (l, live, refl)
    acting_live (steps.Has_no_children l comment site_below a live begins none collected) = (l, live, refl)
    acting_live (steps.Hears_abort l from site_below live answers) = (l, live, refl)
    acting_live (steps.Waits_on l from v site_below live answers other some) = (l, live, refl)
    acting_live (steps.Hears_last l from v site_below a live answers other all collected) = (l, live, refl)
    acting_live (steps.At_point l from a live came rests pointed) = (l, live, refl)

    -- no Prepare and no Abort comes to the root, and it collects on the walk
    unread : IsNoCall input → {l : Live} {site_below : Bool} {a : Act} → Acting k input l site_below a → a ≡ acts.SayReadOnly → l.me ≢ r
    unread quiet (steps.Asks_down l comment site_below e es live begins some) is me = absurd cc
    unread quiet (steps.Has_no_children l comment site_below a live begins none collected) is me = by begins (collected_below collected is)
      where
        by : {q : Bool} → Collects k input l comment q → q ≡ false → ⊥
        by (steps.By_commit n given call has code writer same_comment) at = quiet.calls n _ call
        by (steps.By_prepare from q came working) at = (let calm = now.calm from (kinds.Prepare q comment) (subst (λ b. Came input from b (kinds.Prepare q comment)) me came) in absurd (cc calm))
    unread quiet (steps.Hears_abort l from site_below live answers) is me = absurd cc
    unread quiet (steps.Waits_on l from v site_below live answers other some) is me = absurd cc
    unread quiet (steps.Hears_last l from v site_below a live answers other all collected) is me =
        let live_r : live_at k r ≡ Some l = subst (λ b. live_at k b ≡ Some l) me live in
        (now.top l live_r).1 (ap way_of answers.collecting ∙ ap Some (collected_below collected is))
    unread quiet (steps.At_point l from a live came rests pointed) is me = never_points pointed (inl is)

    unaborted : {l : Live} {site_below : Bool} {a : Act} → Acting k input l site_below a → a ≡ acts.Abandon → l.me ≢ r
    unaborted (steps.Asks_down l comment site_below e es live begins some) is me = absurd cc
    unaborted (steps.Has_no_children l comment site_below a live begins none collected) is me = never_abandons collected is
    unaborted (steps.Hears_abort l from site_below live answers) is me =
        let kind : Some kinds.Abort ≡ Some answers.kind = answers.is_vote in
        let abort : kinds.Abort ≡ answers.kind = cc in
        let calm : upsets answers.kind ≡ false = now.calm from answers.kind (subst (λ b. Came input from b answers.kind) me answers.came) in
        let upset : upsets answers.kind ≡ true = ap upsets (sym abort) in
        cc (calm, upset)
    unaborted (steps.Waits_on l from v site_below live answers other some) is me = absurd cc
    unaborted (steps.Hears_last l from v site_below a live answers other all collected) is me = never_abandons collected is
    unaborted (steps.At_point l from a live came rests pointed) is me = never_points pointed (inr is)

    -- a site is alone, or keeps a row
    pub decides_so : (l : Live) (y : Live) → live_at k l.me ≡ Some y → Effect k (act_turn k l true acts.Decide)
    decides_so l y live = elim (same_or l.me r) [
      | inl me ↦ here me (is_alone l) refl
      | inr other ↦ inl (alone_keeps m k.sessions (is_alone l) l.me commit_complete (not_mine l.me other), (λ root. lasts_moved l.me other (records.Decided (decided_of (k.clock + 1) l (own_changes k l.me))) tt))
    ]
      where
        here : l.me ≡ r → (q : Bool) → is_alone l ≡ q → Effect k (act_turn k l true acts.Decide)
        here me true alone =
            completes (act_turn k l true acts.Decide) (ap (λ q. if q then commit_ended k.sessions l.me else k.sessions) alone ∙ ap (commit_ended k.sessions) me)
            (ap (λ q. if q then commit_answer k.sessions l.me commit_complete else []) alone ∙ ap (λ b. commit_answer k.sessions b commit_complete) me) (mine y (subst (λ b. live_at k b ≡ Some y) me live))
        here me false some =
            still (act_turn k l true acts.Decide) (ap (λ q. if q then commit_ended k.sessions l.me else k.sessions) some) (ap (λ q. if q then commit_answer k.sessions l.me commit_complete else []) some)
            (λ lasts. inr (decided_row r k.stored (decided_of (k.clock + 1) l (own_changes k l.me)) me (alone_or_kept (k.clock + 1) l (own_changes k l.me) some)))

    pub finishes_so : (l : Live) (y : Live) → live_at k l.me ≡ Some y → Effect k (act_turn k l true acts.Finish)
    finishes_so l y live = elim (same_or l.me r) [
      | inl me ↦ completes (act_turn k l true acts.Finish) (ap (commit_ended k.sessions) me) (ap (λ b. commit_answer k.sessions b commit_complete) me) (mine y (subst (λ b. live_at k b ≡ Some y) me live))
      | inr other ↦ inl (commit_keeps m k.sessions l.me commit_complete (not_mine l.me other), (λ root. lasts_drop l.me other))
    ]

    -- a seal keeps a row
    pub seals_so : (l : Live) (path : Option ℕ) → Lasts r k → (is_living r (drop_item live_id k.lives l.me) ≡ true) ⊎ (has_row r (applied k.stored (records.Sealed (sealed_of k.clock l (own_changes k l.me) path))).durable.kept ≡ true)
    seals_so l path lasts = elim (same_or l.me r) [
      | inl me ↦ inr (sealed_row r k.stored (sealed_of k.clock l (own_changes k l.me) path) me)
      | inr other ↦ lasts_moved l.me other (records.Sealed (sealed_of k.clock l (own_changes k l.me) path)) tt lasts
    ]

    pub acts_so : IsNoCall input → (l : Live) (site_below : Bool) (a : Act) → Acting k input l site_below a → Effect k (act_turn k l site_below a)
    acts_so quiet l b acts.Rest why = let y = acting_live why in still (act_turn k l b acts.Rest) refl refl (lasts_put l y.0 y.1)
    acts_so quiet l b acts.AskDown why = let y = acting_live why in still (act_turn k l b acts.AskDown) refl refl (lasts_put l y.0 y.1)
    acts_so quiet l b acts.SayReady why = let y = acting_live why in still (act_turn k l b acts.SayReady) refl refl (lasts_put (ready l) y.0 y.1)
    acts_so quiet l b acts.SayReadOnly why = still (act_turn k l b acts.SayReadOnly) refl refl (lasts_drop l.me (unread quiet why refl))
    acts_so quiet l b acts.Seal why = still (act_turn k l b acts.Seal) refl refl (seals_so l None)
    acts_so quiet l b (acts.SealAndPass i) why = still (act_turn k l b (acts.SealAndPass i)) refl refl (seals_so l (Some i))
    acts_so quiet l b acts.Decide why = let y = acting_live why in decides_so l y.0 y.1
    acts_so quiet l b acts.Finish why = let y = acting_live why in finishes_so l y.0 y.1
    acts_so quiet l b acts.Abandon why = let other : l.me ≢ r = unaborted why refl in inl (abandon_keeps m k.sessions l l.parent (not_mine l.me other), (λ root. lasts_drop l.me other))
