-- Why a live branch is live no more after a step of its node.
use Rattle.std.proofs.Common.{◌≡◌, ◌≢◌, ℕ, ◌+◌, Bool, true, false, if◌then◌else◌, is_none, List, [], ◌∷◌, ◌++◌, unwrap_or, Option, Some, None, find, inl, inr, refl, sym, ap, subst, ◌∙◌}
use Rattle.tran_ids.proofs.BranchLemmas.{equal_from_same, same_from_equal}
use Rattle.tran_ids.proofs.ListedLemmas.{item_is, put_or_before, drop_leaves}
use Rattle.agreement.specs.Events.{Exit, Sealed, Decided}
use Rattle.commit_forget.specs.declared.next.Next.TheVariants as nexts
use Rattle.reco.specs.declared.post.Post.{Post}
use Rattle.session_tree.specs.Live.{is_branch}
use Rattle.session_tree.specs.Tree.{step as step_from}
use Rattle.session_tree.specs.declared.act.Walk.TheVariants as walks
use Rattle.node_rules.specs.Data.{Stmt, Done, BranchId, RedoRecord, Vote, Live, Act, Place, Input}
use Rattle.node_rules.specs.Data.acts
use Rattle.node_rules.specs.Data.inputs
use Rattle.node_rules.specs.Data.kinds
use Rattle.node_rules.specs.Data.phases
use Rattle.node_rules.specs.Data.stmts
use Rattle.node_rules.specs.Data.votes
use Rattle.node_rules.specs.declared.session.PendingCall.TheVariants as pending
use Rattle.node_rules.specs.declared.session.Session.{Session}
use Rattle.node_rules.specs.Words.{same, is_item_of, item_at, put_item, drop_item}
use Rattle.node_rules.specs.Inputs.{Came, IsCall}
use Rattle.node_rules.specs.NodeState.{NodeState, TurnDraft, live_id, live_at, post, to_one}
use Rattle.node_rules.specs.Sessions.{session_at, with_call, with_call_of}
use Rattle.node_rules.specs.Client.{new_root, fresh_root}
use Rattle.node_rules.specs.Calls.{next_child, strength_of}
use Rattle.session_tree.specs.Live.{fresh_live}
use Rattle.node_rules.specs.Prepare.{act_turn, collecting, with_comment, voted, all_answered}
use Rattle.node_rules.proofs.Steps as steps
use Rattle.node_rules.proofs.Steps.{Step, Acting, Answers, Collected, Drops, EndsAtOnce}
use Rattle.node_rules.proofs.StandLemmas.{live_so}
use Rattle.node_rules.proofs.StepLemmas.{acting_so}
use Rattle.run_rules.specs.Trail.{recorded_exit}
use Rattle.run_base_laws.proofs.RootLemmas.{SessionsFit, session_or_before, counted_session, root_alone, pends_so, begun_so, counted_so, back_so}
use Rattle.run_base_laws.proofs.BeginLemmas.{MayBegin, may_begin}

-- what is found is found with more behind it
pub find_more : {A : Type 0} (p : A → Bool) (xs ys : List A) (y : A) → find p xs ≡ Some y → find p (xs ++ ys) ≡ Some y
find_more p [] ys y is = absurd cc
find_more p (x ∷ xs) ys y is = by (p x) is (find_more p xs ys y)
  where
    by : (here : Bool) → (if here then Some x else find p xs) ≡ Some y → (find p xs ≡ Some y → find p (xs ++ ys) ≡ Some y) → (if here then Some x else find p (xs ++ ys)) ≡ Some y
    by true is later = is
    by false is later = later is

module _ (input : Input) (b : BranchId) (z : Live) where
  -- Its collect is complete, and its session tree has no site.
  pub data Finishes (ss : List Session) : Type 0 where
    At_once : (n : ℕ) (given : Option (List ℕ)) → IsCall input n (stmts.Commit given) → (session_at ss n).root ≡ Some b → (session_at ss n).code ≡ None → z.edges ≡ []
        → step_from (collecting (with_comment z (unwrap_or given [])) true) ≡ walks.Nowhere → Finishes ss
    On_answer : (from : BranchId) (v : Vote) (site_below : Bool) → Answers input z from v site_below → v ≢ votes.Abort → all_answered (voted z from v) ≡ true → step_from (voted z from v) ≡ walks.Nowhere → Finishes ss

  -- Why it is live no more.
  pub data Why (ss : List Session) (wrote : Option RedoRecord) (says : List Post) : Type 0 where
    By_record : (e : Exit) → recorded_exit b wrote ≡ Some e → Why ss wrote says
    By_quiet : (q : BranchId) → z.parent ≡ Some q → says ≡ post b q kinds.ReadOnly → Why ss wrote says
    By_finish : z.parent ≡ None → Finishes ss → Why ss wrote says
    By_abort : (from : BranchId) (site_below : Bool) → Answers input z from votes.Abort site_below → Why ss wrote says
    By_rollback : (from : BranchId) → Came input from b kinds.Rollback → Why ss wrote says
    By_parent : (from : BranchId) → Came input from b kinds.RolledBack → is_branch from z.parent ≡ true → Why ss wrote says
    By_ask : (from : BranchId) → Came input from b kinds.Ask → is_branch from z.parent ≡ true → Why ss wrote says
    By_call : (n : ℕ) → IsCall input n stmts.Rollback → b.session ≡ n → z.parent ≡ None → Why ss wrote says
    By_reading : (n : ℕ) (comment : Option (List ℕ)) (scn : ℕ) → IsCall input n (stmts.Commit comment) → z.read_at ≡ Some scn → b.session ≡ n → z.parent ≡ None → Why ss wrote says
    By_give_up : (n : ℕ) → input ≡ inputs.GiveUp n → (session_at ss n).root ≡ Some b → (session_at ss n).call ≡ pending.Commit → Why ss wrote says

  -- ---- sessions that a change before the draft leaves so

  begun_why : (n : ℕ) (s : Stmt) → IsCall input n s → MayBegin s → (ss ts : List Session) (wrote : Option RedoRecord) (says : List Post) → Why ts wrote says → Why ss wrote says
  begun_why n s call rows ss ts wrote says (By_record e is) = By_record e is
  begun_why n s call rows ss ts wrote says (By_quiet q above said) = By_quiet q above said
  begun_why n s call rows ss ts wrote says (By_finish root (On_answer from v sb answers other all is)) = By_finish root (On_answer from v sb answers other all is)
  begun_why n s call rows ss ts wrote says (By_finish root (At_once m given commit has code none is)) =
      let it : inputs.Call n (Some s) ≡ inputs.Call m (Some (stmts.Commit given)) = sym call ∙ commit in
      let here : s ≡ stmts.Commit given = cc in
      absurd (subst MayBegin here rows)
  begun_why n s call rows ss ts wrote says (By_abort from sb answers) = By_abort from sb answers
  begun_why n s call rows ss ts wrote says (By_rollback from came) = By_rollback from came
  begun_why n s call rows ss ts wrote says (By_parent from came above) = By_parent from came above
  begun_why n s call rows ss ts wrote says (By_ask from came above) = By_ask from came above
  begun_why n s call rows ss ts wrote says (By_call m is at root) = By_call m is at root
  begun_why n s call rows ss ts wrote says (By_reading m comment scn is reads at root) = By_reading m comment scn is reads at root
  begun_why n s call rows ss ts wrote says (By_give_up m is has pends) = absurd (cc (call, is))

  pends_why : (n : ℕ) (given : Option (List ℕ)) → IsCall input n (stmts.Commit given) → (ss : List Session) (wrote : Option RedoRecord) (says : List Post) → Why (with_call ss n pending.Commit) wrote says → Why ss wrote says
  pends_why n given call ss wrote says (By_record e is) = By_record e is
  pends_why n given call ss wrote says (By_quiet q above said) = By_quiet q above said
  pends_why n given call ss wrote says (By_finish root (On_answer from v sb answers other all is)) = By_finish root (On_answer from v sb answers other all is)
  pends_why n given call ss wrote says (By_finish root (At_once m comment commit has code none is)) =
      elim (session_or_before ss n m (record (session_at ss n) { call = pending.Commit })) [
        | inl still ↦ By_finish root (At_once m comment commit (sym (ap (λ (s : Session). s.root) still) ∙ has) (sym (ap (λ (s : Session). s.code) still) ∙ code) none is)
        | inr new ↦ By_finish root (At_once m comment commit
            (ap (λ i. (session_at ss i).root) (sym new.0) ∙ (sym (ap (λ (s : Session). s.root) new.1) ∙ has)) (ap (λ i. (session_at ss i).code) (sym new.0) ∙ (sym (ap (λ (s : Session). s.code) new.1) ∙ code)) none is)
      ]
  pends_why n given call ss wrote says (By_abort from sb answers) = By_abort from sb answers
  pends_why n given call ss wrote says (By_rollback from came) = By_rollback from came
  pends_why n given call ss wrote says (By_parent from came above) = By_parent from came above
  pends_why n given call ss wrote says (By_ask from came above) = By_ask from came above
  pends_why n given call ss wrote says (By_call m is at root) = By_call m is at root
  pends_why n given call ss wrote says (By_reading m comment scn is reads at root) = By_reading m comment scn is reads at root
  pends_why n given call ss wrote says (By_give_up m is has pends) = absurd (cc (call, is))

  counted_why : (n : ℕ) (s : Stmt) → IsCall input n s → (ss : List Session) (o : Option BranchId) (wrote : Option RedoRecord) (says : List Post) → Why (with_call_of ss n o) wrote says → Why ss wrote says
  counted_why n s call ss o wrote says (By_record e is) = By_record e is
  counted_why n s call ss o wrote says (By_quiet q above said) = By_quiet q above said
  counted_why n s call ss o wrote says (By_finish root (On_answer from v sb answers other all is)) = By_finish root (On_answer from v sb answers other all is)
  counted_why n s call ss o wrote says (By_finish root (At_once m given commit has code none is)) =
      let still = (counted_session ss n m o).1 in By_finish root (At_once m given commit (sym (ap (λ (s : Session). s.root) still) ∙ has) (sym (ap (λ (s : Session). s.code) still) ∙ code) none is)
  counted_why n s call ss o wrote says (By_abort from sb answers) = By_abort from sb answers
  counted_why n s call ss o wrote says (By_rollback from came) = By_rollback from came
  counted_why n s call ss o wrote says (By_parent from came above) = By_parent from came above
  counted_why n s call ss o wrote says (By_ask from came above) = By_ask from came above
  counted_why n s call ss o wrote says (By_call m is at root) = By_call m is at root
  counted_why n s call ss o wrote says (By_reading m comment scn is reads at root) = By_reading m comment scn is reads at root
  counted_why n s call ss o wrote says (By_give_up m is has pends) = absurd (cc (call, is))

  -- ---- a root that ends at once

  left_so : {ss : List Session} {wrote : Option RedoRecord} {says : List Post} {code : Option ℕ} {x : Live} {s : Stmt} {d : Done} (n : ℕ) → EndsAtOnce code x.read_at s d → IsCall input n s → x ≡ z → b.session ≡ n → z.parent ≡ None
      → Why ss wrote says
  left_so n steps.By_rollback_call call it at root = By_call n call at root
  left_so n (steps.By_reading comment scn open_so reads) call it at root = By_reading n comment scn call (ap (λ (y : Live). y.read_at) (sym it) ∙ reads) at root

  -- ---- an act that drops it

  none_off : {l : Live} {sb : Bool} → Collected l sb acts.SayReadOnly → sb ≡ false
  none_off (steps.Has_nothing is) = refl

  root_by : (o : Option BranchId) → is_none o ≡ true → o ≡ None
  root_by None is = refl
  root_by (Some q) is = absurd cc

  no_site : {l : Live} {sb : Bool} → Collected l sb acts.Finish → (l.parent ≡ None) × (step_from l ≡ walks.Nowhere)
  no_site {l = l} (steps.Has_no_site root is) = (root_by l.parent root, is)

  never_abandons : {l : Live} {sb : Bool} → Collected l sb acts.Abandon → ⊥
  never_abandons collected = elim collected [ ]

  module _ (p : Place) (asked_below : (from : BranchId) (sb : Bool) (comment : List ℕ) → Came input from b (kinds.Prepare sb comment) → z.parent ≢ None) (way : z.parent ≡ None → z.phase ≢ phases.Collecting false) where
    module _ (k : NodeState) (fit : SessionsFit k) (live : live_at k b ≡ Some z) where
      abbrev After : List Live → Type 0
      After ls = item_at live_id ls b ≡ None

      -- the live branch of its id
      mine : (l : Live) → live_at k l.me ≡ Some l → l.me ≡ b → l ≡ z
      mine l found me = let both : Some l ≡ Some z = sym (subst (λ c. live_at k c ≡ Some l) me found) ∙ live in let it : l ≡ z = cc in it

      there : After k.lives → ⊥
      there none = absurd (cc (none, live))

      put : (y : Live) → After (put_item live_id k.lives y) → ⊥
      put y none = elim (put_or_before live_id k.lives y b) [ inl before ↦ there (sym before ∙ none) | inr new ↦ absurd (let found = new.1 in cc (none, found)) ]

      more : (y : Live) → After (k.lives ++ y ∷ []) → ⊥
      more y none = let found : item_at live_id (k.lives ++ y ∷ []) b ≡ Some z = find_more (is_item_of live_id b) k.lives (y ∷ []) z live in absurd (cc (none, found))

      left : (c : BranchId) → After (drop_item live_id k.lives c) → c ≡ b
      left c none = by (same c b) refl
        where
          by : (q : Bool) → same c b ≡ q → c ≡ b
          by true here = equal_from_same c b here
          by false other = absurd (there (sym (drop_leaves live_id k.lives c b other) ∙ none))

      -- ---- who acts

      acting_parent : {l : Live} {sb : Bool} {a : Act} → Acting k input l sb a → l.me ≡ b → l.parent ≡ z.parent
      acting_parent why = acting_so (λ (l : Live). l.me ≡ b → l.parent ≡ z.parent) (λ l comment sb is. is) (λ l from v is. is) (λ c l found me. ap (λ (y : Live). y.parent) (mine l (subst (λ d. live_at k d ≡ Some l) (sym (item_is live_id k.lives c l found)) found) me)) why

      quiet_below : {l : Live} {sb : Bool} → Acting k input l sb acts.SayReadOnly → l.me ≡ b → z.parent ≢ None
      quiet_below (steps.Has_no_children l comment sb _ found (steps.By_commit n given call has code writer is) none collected) me = absurd (let off = none_off collected in cc)
      quiet_below (steps.Has_no_children l comment sb _ found (steps.By_prepare from _ came working) none collected) me = asked_below from sb comment (subst (λ c. Came input from c (kinds.Prepare sb comment)) me came)
      quiet_below (steps.Hears_last l from v sb _ found answers other all collected) me =
          λ none. way none (subst (λ (y : Live). y.phase ≡ phases.Collecting false) (mine l found me) (answers.collecting ∙ ap phases.Collecting (none_off collected)))
      quiet_below (steps.At_point l from _ found came ready pointed) me = elim pointed [ ]

      finish_why : {l : Live} {sb : Bool} → Acting k input l sb acts.Finish → l.me ≡ b → (z.parent ≡ None) × Finishes k.sessions
      finish_why (steps.Has_no_children l comment sb _ found (steps.By_commit n given call has code writer is) none collected) me =
          let it : l ≡ z = mine l found me in
          let so = no_site collected in (
            ap (λ (y : Live). y.parent) (sym it) ∙ so.0,
            At_once n given call (subst (λ c. (session_at k.sessions n).root ≡ Some c) me has) code (ap (λ (y : Live). y.edges) (sym it) ∙ none)
                (subst (λ (y : Live). step_from (collecting (with_comment y (unwrap_or given [])) true) ≡ walks.Nowhere) it (subst (λ c. step_from (collecting (with_comment l c) true) ≡ walks.Nowhere) is so.1)),
          )
      finish_why (steps.Has_no_children l comment sb _ found (steps.By_prepare from _ came working) none collected) me =
          absurd (asked_below from sb comment (subst (λ c. Came input from c (kinds.Prepare sb comment)) me came) (ap (λ (y : Live). y.parent) (sym (mine l found me)) ∙ (no_site collected).0))
      finish_why (steps.Hears_last l from v sb _ found answers other all collected) me =
          let it : l ≡ z = mine l found me in
          let so = no_site collected in (
            ap (λ (y : Live). y.parent) (sym it) ∙ so.0,
            On_answer from v sb (subst (λ (y : Live). Answers input y from v sb) it answers) other (subst (λ (y : Live). all_answered (voted y from v) ≡ true) it all) (subst (λ (y : Live). step_from (voted y from v) ≡ walks.Nowhere) it so.1),
          )
      finish_why (steps.At_point l from _ found came ready pointed) me = elim pointed [ ]

      abort_why : {l : Live} {sb : Bool} → Acting k input l sb acts.Abandon → l.me ≡ b → (from : BranchId) × (sb : Bool) × Answers input z from votes.Abort sb
      abort_why (steps.Has_no_children l comment sb _ found begins none collected) me = absurd (never_abandons collected)
      abort_why (steps.Hears_abort l from sb found answers) me = (from, sb, subst (λ (y : Live). Answers input y from votes.Abort sb) (mine l found me) answers)
      abort_why (steps.Hears_last l from v sb _ found answers other all collected) me = absurd (never_abandons collected)
      abort_why (steps.At_point l from _ found came ready pointed) me = elim pointed [ ]

      one_said : (me : BranchId) (o : Option BranchId) → me ≡ b → o ≢ None → o ≡ z.parent → (q : BranchId) × (z.parent ≡ Some q) × (to_one me kinds.ReadOnly o ≡ post b q kinds.ReadOnly)
      one_said me None is some up = absurd (some refl)
      one_said me (Some q) is some up = (q, sym up, ap (λ c. post c q kinds.ReadOnly) is)

      sealed_by : (me : BranchId) (e : Exit) → me ≡ b → (if same me b then Some e else None) ≡ Some e
      sealed_by me e is = ap (λ q. if q then Some e else None) (same_from_equal me b is)

      act_why : (l : Live) (sb : Bool) (a : Act) → Acting k input l sb a → live_at (act_turn k l sb a).after b ≡ None → Why k.sessions (act_turn k l sb a).wrote (act_turn k l sb a).says
      act_why l sb acts.Rest why none = absurd (put l none)
      act_why l sb acts.AskDown why none = absurd (put l none)
      act_why l sb acts.SayReady why none = absurd (put (record l { phase = phases.Ready }) none)
      act_why l sb acts.SayReadOnly why none =
          let me : l.me ≡ b = left l.me none in
          let up : l.parent ≡ z.parent = acting_parent why me in
          let so = one_said l.me l.parent me (λ is. quiet_below why me (sym up ∙ is)) up in
          By_quiet so.0 so.1 so.2
      act_why l sb acts.Seal why none = By_record (Sealed k.clock) (sealed_by l.me (Sealed k.clock) (left l.me none))
      act_why l sb (acts.SealAndPass i) why none = By_record (Sealed k.clock) (sealed_by l.me (Sealed k.clock) (left l.me none))
      act_why l sb acts.Decide why none = By_record (Decided (k.clock + 1)) (sealed_by l.me (Decided (k.clock + 1)) (left l.me none))
      act_why l sb acts.Finish why none = (let so = finish_why why (left l.me none) in By_finish so.0 so.1)
      act_why l sb acts.Abandon why none = (let so = abort_why why (left l.me none) in By_abort so.0 so.1 so.2)

      told_why : (l : Live) (w : Option RedoRecord) (says : List Post) → live_at k l.me ≡ Some l → Drops input l → l.me ≡ b → Why k.sessions w says
      told_why l w says found (steps.By_rollback from came) me = By_rollback from (subst (λ c. Came input from c kinds.Rollback) me came)
      told_why l w says found (steps.By_parent from came above) me = By_parent from (subst (λ c. Came input from c kinds.RolledBack) me came) (subst (λ (y : Live). is_branch from y.parent ≡ true) (mine l found me) above)

    -- ---- every step

    pub why_on : {k : NodeState} {d : TurnDraft} → Step p input k d → SessionsFit k → live_at k b ≡ Some z → live_at d.after b ≡ None → Why k.sessions d.wrote d.says
    why_on {d = d} (steps.Begins {k = k} n s read_at call begins range none step) fit live gone =
        begun_why n s call (may_begin begins) k.sessions _ d.wrote d.says (why_on step (begun_so k fit p n read_at) (find_more (is_item_of live_id b) k.lives (fresh_root p k (new_root p k n) read_at ∷ []) z live) gone)
    why_on {d = d} (steps.Counts_call {k = k} n s call counts step) fit live gone = counted_why n s call k.sessions (session_at k.sessions n).root d.wrote d.says (why_on step (counted_so k fit n) live gone)
    why_on (steps.Goes_back {k = k} x step goes next) fit live gone = why_on next (back_so k fit x step) live gone
    why_on {d = d} (steps.Pends {k = k} n l given call has found code writer step) fit live gone = pends_why n given call k.sessions d.wrote d.says (why_on step (pends_so k fit n pending.Commit) live gone)
    why_on (steps.Lets_reads_go l comment q found begins step) fit live gone = why_on step (record { roots = fit.roots; above = fit.above }) live gone
    why_on (steps.Counts_ack s from kept came counts step) fit live gone = why_on step (record { roots = fit.roots; above = fit.above }) live gone
    why_on (steps.Runs {k = k} x s given t ask way_is) fit live gone = absurd (put k fit live _ gone)
    why_on (steps.Goes_nowhere {k = k} x s given r ask way_is) fit live gone = absurd (put k fit live _ gone)
    why_on (steps.Calls {k = k} x s given i table ask way_is) fit live gone = absurd (put k fit live _ gone)
    why_on (steps.Opens {k = k} x s given node link table ask way_is) fit live gone = absurd (put k fit live _ gone)
    why_on (steps.Goes_on {k = k} x from strength g link opened) fit live gone = absurd (put k fit live _ gone)
    why_on (steps.Hears_reply {k = k} x weight count a i e answered) fit live gone = absurd (put k fit live _ gone)
    why_on (steps.Backs {k = k} x step from i calls next) fit live gone = absurd (put k fit live _ gone)
    why_on (steps.Is_back {k = k} x step from calls none) fit live gone = absurd (put k fit live _ gone)
    why_on (steps.Opens_branch {k = k} to parent edge root depth read_at came new) fit live gone = absurd (more k fit live (fresh_live (next_child p k) root (Some parent) depth (strength_of p k) read_at) gone)
    why_on (steps.Acts {k = k} l q a why) fit live gone = act_why k fit live l q a why gone
    why_on (steps.Drops_told {k = k} l found drops) fit live gone = told_why k fit live l None _ found drops (left k fit live l.me gone)
    why_on (steps.Drops_asked {k = k} l from found came parent) fit live gone =
        let me : l.me ≡ b = left k fit live l.me gone in
        By_ask from (subst (λ c. Came input from c kinds.Ask) me came) (subst (λ (y : Live). is_branch from y.parent ≡ true) (mine k fit live l found me) parent)
    why_on (steps.Leaves {k = k} n s d x call ends has found) fit live gone =
        let me : x.live.me ≡ b = left k fit live x.live.me gone in
        let root : (session_at k.sessions n).root ≡ Some b = subst (λ c. (session_at k.sessions n).root ≡ Some c) me has in
        left_so n ends call (mine k fit live x.live (live_so k x.live.me x found) me) (fit.roots.each n b root) (root_alone k fit n b root z live)
    why_on (steps.Sets_read_only {k = k} n call) fit live gone = absurd (there k fit live gone)
    why_on (steps.Sets_savepoint {k = k} n x name call has code found) fit live gone = absurd (put k fit live x.live gone)
    why_on (steps.Images {k = k} is) fit live gone = absurd (there k fit live gone)
    why_on (steps.Gives_up {k = k} n x gives has calls found) fit live gone = absurd (put k fit live x.live gone)
    why_on (steps.Gives_up_commit {k = k} n c (Some l) gives has calls found) fit live gone =
        let me : l.me ≡ b = left k fit live l.me gone in
        By_give_up n gives (subst (λ d. (session_at k.sessions n).root ≡ Some d) (sym (item_is live_id k.lives c l found) ∙ me) has) calls
    why_on (steps.Gives_up_commit {k = k} n c None gives has calls found) fit live gone = absurd (there k fit live gone)
    why_on (steps.Does {k = k} s from nexts.Rest kept why) fit live gone = absurd (there k fit live gone)
    why_on (steps.Does {k = k} s from nexts.AckToward kept why) fit live gone = absurd (there k fit live gone)
    why_on (steps.Does {k = k} s from nexts.SayForgotten kept why) fit live gone = absurd (there k fit live gone)
    why_on (steps.Does {k = k} s from nexts.SayAck kept why) fit live gone = absurd (there k fit live gone)
    why_on (steps.Does {k = k} s from (nexts.End e) kept why) fit live gone = absurd (there k fit live gone)
    why_on (steps.Does {k = k} s from (nexts.Meet e mixed) kept why) fit live gone = absurd (there k fit live gone)
    why_on (steps.Does {k = k} s from nexts.Forget kept why) fit live gone = absurd (there k fit live gone)
    why_on (steps.Rests {k = k}) fit live gone = absurd (there k fit live gone)
    why_on (steps.Sends {k = k} says why) fit live gone = absurd (there k fit live gone)
    why_on (steps.Refuses {k = k} n s r is) fit live gone = absurd (there k fit live gone)
    why_on (steps.Completes_at_once {k = k} n s e call completes none) fit live gone = absurd (there k fit live gone)
    why_on (steps.Makes_record {k = k} n s r e call makes) fit live gone = absurd (there k fit live gone)
    why_on (steps.Forces_given {k = k} n id m c call named) fit live gone = absurd (there k fit live gone)
    why_on (steps.Forces_commit {k = k} n id c call named) fit live gone = absurd (there k fit live gone)
    why_on (steps.Forces_rollback {k = k} n id c call named) fit live gone = absurd (there k fit live gone)
    why_on (steps.Hides {k = k} n mixed id s call found) fit live gone = absurd (there k fit live gone)
    why_on (steps.Advises {k = k} n a call) fit live gone = absurd (there k fit live gone)
