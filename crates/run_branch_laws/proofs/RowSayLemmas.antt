-- Each step acknowledges a commit once all beyond did, and tells a rollback that is known, or of a branch that it ends.
use Rattle.std.proofs.Common.{◌≡◌, ℕ, ◌+◌, ◌&&◌, not, Bool, false, List, [], ◌∷◌, ◌++◌, map, filter, fold, length, Option, Some, None, inl, inr, refl, sym, ap, subst, ◌∙◌, ◌⊎◌}
use Rattle.std.specs.Prelude.{flat_map}
use Rattle.std.specs.List.{AllByRecursion}
use Rattle.std.proofs.lemmas.Bool.{cond_both, and_parts}
use Rattle.agreement.specs.Events.{Event, Send_ack, Has}
use Rattle.tran_ids.proofs.ListedLemmas.{item_is}
use Rattle.commit_forget.specs.declared.next.Beyond.{Beyond}
use Rattle.commit_forget.specs.declared.next.Next.TheVariants as nexts
use Rattle.commit_forget.specs.Beyond.{is_neighbor}
use Rattle.reco.specs.declared.post.Post.{Post}
use Rattle.reco.specs.declared.told.Told.TheVariants as tolds
use Rattle.session_tree.specs.Live.{children_of, peer_of, new_edge}
use Rattle.session_tree.specs.Tree.{step as step_from}
use Rattle.node_rules.specs.Data.{Answer, Stmt, BranchId, Decision, Edge, Kind, Msg, Live, KeptRow, RedoRecord, Place, Input}
use Rattle.node_rules.specs.declared.work.Errand.{Errand}
use Rattle.node_rules.specs.Data.acts
use Rattle.node_rules.specs.Data.decisions
use Rattle.node_rules.specs.Data.inputs
use Rattle.node_rules.specs.Data.kinds
use Rattle.node_rules.specs.Data.records
use Rattle.node_rules.specs.Data.stmts
use Rattle.node_rules.specs.declared.session.Session.{Session}
use Rattle.node_rules.specs.Words.{put_by_branch}
use Rattle.node_rules.specs.Inputs.{Came, IsCall}
use Rattle.node_rules.specs.NodeState.{NodeState, Branch, TurnDraft, live_id, kept_row_id, live_at, post_one, to_each, to_one}
use Rattle.node_rules.specs.Calls.{answer_says, exec_to, with_edge, hears_reply, branch_ran, less_room, goes_back}
use Rattle.node_rules.specs.Statement.{ran}
use Rattle.node_rules.specs.Prepare.{path_of, prepares, site_neighbors}
use Rattle.node_rules.specs.Commit.{beyond, all_acked, acked_by, passes_commit, rollback_to, passes}
use Rattle.node_rules.specs.Recovery.{told_by, kept_told, told_kind, Asking, asking_id, asks_live, asks_kept, acks_again, recovers, askings}
use Rattle.node_rules.specs.Turn.{Is_gone, status_of}
use Rattle.node_rules.proofs.Steps as steps
use Rattle.node_rules.proofs.Steps.{Step, Says, IsKept, Collects, Goes_to}
use Rattle.node_rules.proofs.StandLemmas.{live_so}
use Rattle.run_rules.specs.Branches.{is_among}
use Rattle.run_branch_laws.specs.HeardLaws.{AcksAre}
use Rattle.run_branch_laws.specs.TowardLaws.{IsRowLike, AllAcked}
use Rattle.run_rules.proofs.ListLemmas.{all_weaker, all_append, all_each, all_put}
use Rattle.node_rules.proofs.StepLemmas.{IsLive, acting_live}
use Rattle.node_rules.specs.declared.work.Errand.TheVariants as errands
use Rattle.node_rules.specs.Data.tasks
use Rattle.node_rules.specs.Names.{passed_on}
use Rattle.run_base_laws.proofs.OwnLemmas.{all_found, all_with}
use Rattle.run_base_laws.proofs.BeginLemmas.{MayBegin, may_begin, ends_begin_none}
use Rattle.run_branch_laws.proofs.HeardLemmas.{acked_so}
use Rattle.run_branch_laws.proofs.QuietLemmas.{NoRows, came_apart, acting_apart, dropped_gone, call_apart}
use Rattle.run_branch_laws.proofs.TowardLemmas.{itself, like_acked, acked_all, ToldSo}

-- ---- why a rollback is told

-- the record says that a branch learned a rollback
abbrev pub LearnsRollback : Option RedoRecord → BranchId → Type 0
LearnsRollback (Some (records.Ended b decisions.Rollback)) e = b ≡ e
LearnsRollback (Some (records.Met b decisions.Rollback mixed)) e = b ≡ e
LearnsRollback _ e = ⊥

-- one asked whether it commits
abbrev pub IsAsked : Input → BranchId → BranchId → Type 0
IsAsked input from to = Came input from to kinds.CommitPoint ⊎ Came input from to kinds.Ask

-- Its sender was live and is gone without a record; or the record says that it learned a rollback; or it answers one that asks:
-- it is gone, its row knows the rollback, or names the asker neither as parent nor as child.
pub data Rolls (k : NodeState) (input : Input) (d : TurnDraft) (e to : BranchId) : Type 0 where
  Has_left : IsLive k e → d.wrote ≡ None → is_among e (map live_id d.after.lives) ≡ false → NoRows input → Rolls k input d e to
  Has_learned : LearnsRollback d.wrote e → Rolls k input d e to
  Is_not_there : status_of k e ≡ Is_gone → IsAsked input to e → Rolls k input d e to
  Knows_so : (s : KeptRow) → IsKept k s → s.me ≡ e → s.decision ≡ Some decisions.Rollback → IsAsked input to e → Rolls k input d e to
  Names_not : (s : KeptRow) → IsKept k s → s.me ≡ e → is_neighbor s to ≡ false → IsAsked input to e → Rolls k input d e to

asked_call : {input : Input} {from to : BranchId} (n : ℕ) (s : Stmt) → IsAsked input from to → IsCall input n s → ⊥
asked_call n s (inl came) call = came_apart n s came call
asked_call n s (inr came) call = came_apart n s came call

-- messages of two kinds did not both come
kinds_apart : {input : Input} {a b c e : BranchId} {x y : Kind} → Came input a b x → Came input c e y → x ≡ y
kinds_apart {a = a} {b = b} {c = c} {e = e} {x = x} {y = y} first second =
    let it : inputs.Message (record { from = a; to = b; scn = first.scn; kind = x }) ≡ inputs.Message (record { from = c; to = e; scn = second.scn; kind = y }) = sym first.is ∙ second.is in
    let here : record { from = a; to = b; scn = first.scn; kind = x } ≡ record { from = c; to = e; scn = second.scn; kind = y } = cc in
    ap (λ (m : Msg). m.kind) here

asked_other : {input : Input} {a b c e : BranchId} (x : Kind) → IsAsked input a b → Came input c e x → (kinds.CommitPoint ≡ x → ⊥) → (kinds.Ask ≡ x → ⊥) → ⊥
asked_other x (inl came) other point ask = point (kinds_apart came other)
asked_other x (inr came) other point ask = ask (kinds_apart came other)

module _ (t : List Event) where
  -- ---- why an Ack is sent

  -- by its row all beyond acknowledged; or it is gone, and a commit came
  pub data Acks (k : NodeState) (input : Input) (b to : BranchId) : Type 0 where
    All_have : (s : KeptRow) → IsRowLike k.stored.durable.kept b s → AllAcked t s → Acks k input b to
    Is_done : (n : ℕ) → status_of k b ≡ Is_gone → Came input to b (kinds.Committed n) → Acks k input b to

  abbrev pub SaysSo : NodeState → Input → TurnDraft → BranchId → BranchId → Kind → Type 0
  SaysSo k input d from to kinds.Ack = Acks k input from to
  SaysSo k input d from to kinds.Rollback = Rolls k input d from to
  SaysSo k input d from to kinds.RolledBack = Rolls k input d from to
  SaysSo k input d from to _ = Unit {0}

  -- before a change that no question leads to, and that leaves lives and rows
  module _ (k j : NodeState) (input : Input) (d : TurnDraft) (lives : (b : BranchId) → IsLive j b → NoRows input → IsLive k b) (rows : (b : BranchId) (s : KeptRow) → IsRowLike j.stored.durable.kept b s → IsRowLike k.stored.durable.kept b s)
      (unasked : (from to : BranchId) → IsAsked input from to → ⊥) (uncommitted : (from to : BranchId) (n : ℕ) → Came input from to (kinds.Committed n) → ⊥) where
    rolls_before : (e to : BranchId) → Rolls j input d e to → Rolls k input d e to
    rolls_before e to (Has_left live unwritten left no_rows) = Has_left (lives e live no_rows) unwritten left no_rows
    rolls_before e to (Has_learned is) = Has_learned is
    rolls_before e to (Is_not_there gone asked) = absurd (unasked to e asked)
    rolls_before e to (Knows_so s kept me knows asked) = absurd (unasked to e asked)
    rolls_before e to (Names_not s kept me other asked) = absurd (unasked to e asked)

    acks_before : (b to : BranchId) → Acks j input b to → Acks k input b to
    acks_before b to (All_have s like all) = All_have s (rows b s like) all
    acks_before b to (Is_done n gone came) = absurd (uncommitted to b n came)

    so_before : (from to : BranchId) (kind : Kind) → SaysSo j input d from to kind → SaysSo k input d from to kind
    so_before from to kinds.Ack so = acks_before from to so
    so_before from to kinds.Rollback so = rolls_before from to so
    so_before from to kinds.RolledBack so = rolls_before from to so
    so_before from to _ so = tt

    all_before : (posts : List Post) → AllByRecursion (λ x. SaysSo j input d x.from x.to x.kind) posts → AllByRecursion (λ x. SaysSo k input d x.from x.to x.kind) posts
    all_before posts all = all_weaker _ _ (λ x so. so_before x.from x.to x.kind so) posts all

  module _ (p : Place) (input : Input) (told : (from to : BranchId) (kind : Kind) → Came input from to kind → ToldSo t from to kind) where
    module _ (k : NodeState) (d : TurnDraft) where
      abbrev So : Post → Type 0
      So x = SaysSo k input d x.from x.to x.kind

      abbrev AllSo : List Post → Type 0
      AllSo posts = AllByRecursion So posts

      one_so : (from : BranchId) (kind : Kind) (to : Option BranchId) → ((b : BranchId) → SaysSo k input d from b kind) → AllSo (to_one from kind to)
      one_so from kind None may = tt
      one_so from kind (Some to) may = (may to, tt)

      each_so : (from : BranchId) (kind : Kind) (tos : List BranchId) → ((b : BranchId) → SaysSo k input d from b kind) → AllSo (to_each from kind tos)
      each_so from kind tos may = all_each So (post_one from kind) tos may

      answer_so : (x : Branch) (a : Answer) (parent : Option BranchId) → AllSo (answer_says x a parent)
      answer_so x a None = tt
      answer_so x a (Some parent) = (tt, tt)

      exec_so : (ss : List Session) (x : Branch) (i : ℕ) (e : Errand) (to : Option BranchId) → AllSo (exec_to ss x i e to)
      exec_so ss x i e None = tt
      exec_so ss x i e (Some to) = (tt, tt)

      prepares_so : (me : BranchId) (comment : List ℕ) (path : Option ℕ) (i : ℕ) (es : List Edge) → AllSo (prepares me comment path i es)
      prepares_so me comment path i [] = tt
      prepares_so me comment path i (e ∷ es) = (tt, prepares_so me comment path (i + 1) es)

      -- a branch leaves, and tells its children
      leaves_so : (l : Live) → IsLive k l.me → d.wrote ≡ None → is_among l.me (map live_id d.after.lives) ≡ false → NoRows input → AllSo (to_each l.me kinds.Rollback (children_of l))
      leaves_so l live unwritten left no_rows = each_so l.me kinds.Rollback (children_of l) (λ b. Has_left live unwritten left no_rows)

      commit_so : (s : KeptRow) (n : ℕ) (bs : List Beyond) → IsRowLike k.stored.durable.kept s.me s → beyond s ≡ bs → AllSo (passes_commit s n bs)
      commit_so s n [] like is = one_so s.me kinds.Ack s.toward (λ b. All_have s like (subst (λ (xs : List Beyond). AllByRecursion (λ x. Has (Send_ack x.branch s.me) t) xs) (sym is) tt))
      commit_so s n (b ∷ bs) like is = each_so s.me (kinds.Committed n) (map (λ c. c.branch) (b ∷ bs)) (λ c. tt)

      passes_so : (s : KeptRow) (e : Decision) → IsRowLike k.stored.durable.kept s.me s → (e ≡ decisions.Rollback → LearnsRollback d.wrote s.me) → AllSo (passes s e)
      passes_so s (decisions.Commit n) like learns = commit_so s n (beyond s) like refl
      passes_so s decisions.Rollback like learns =
          all_each So (rollback_to s.me) (beyond s) (λ b. cond_both b.is_parent kinds.RolledBack kinds.Rollback (λ kind. SaysSo k input d s.me b.branch kind) (λ up. Has_learned (learns refl)) (λ down. Has_learned (learns refl)))

      -- ---- recovery

      again_so : (s : KeptRow) → IsRowLike k.stored.durable.kept s.me s → AcksAre t s → AllSo (acks_again s)
      again_so s like acks =
          cond_both (all_acked s && not s.forgot) (to_one s.me kinds.Ack s.toward) [] AllSo
          (λ all. one_so s.me kinds.Ack s.toward (λ b. All_have s like (acked_all t s acks (and_parts (all_acked s) (not s.forgot) all).0))) (λ some. tt)

      recovers_so : (s : KeptRow) → IsRowLike k.stored.durable.kept s.me s → AcksAre t s → (e : Option Decision) → AllSo (recovers s e)
      recovers_so s like acks None = one_so s.me kinds.Ask s.toward (λ b. tt)
      recovers_so s like acks (Some (decisions.Commit n)) =
          all_append So _ (acks_again s) (each_so s.me (kinds.Committed n) (map (λ b. b.branch) (filter (λ b. not b.acked) (beyond s))) (λ b. tt)) (again_so s like acks)
      recovers_so s like acks (Some decisions.Rollback) = tt

    -- what a row knows, to one that asks
    known_so : (k : NodeState) (d : TurnDraft) (s : KeptRow) (from : BranchId) (e : Option Decision) → IsKept k s → s.decision ≡ e → IsAsked input from s.me → SaysSo k input d s.me from (told_kind (told_by e))
    known_so k d s from None kept is asked = tt
    known_so k d s from (Some (decisions.Commit n)) kept is asked = tt
    known_so k d s from (Some decisions.Rollback) kept is asked = Knows_so s kept refl is asked

    asked_so : (k : NodeState) (d : TurnDraft) (s : KeptRow) (from : BranchId) → IsKept k s → IsAsked input from s.me → SaysSo k input d s.me from (told_kind (kept_told s from))
    asked_so k d s from kept asked =
        cond_both (is_neighbor s from) (told_by s.decision) tolds.RolledBack (λ x. SaysSo k input d s.me from (told_kind x)) (λ near. known_so k d s from s.decision kept refl asked) (λ other. Names_not s kept refl other asked)

    -- each row is the one of its branch, where RECO came
    abbrev pub RowsFound : NodeState → Type 0
    RowsFound k = input ≡ inputs.Reco → AllByRecursion (λ s. IsKept k s) k.stored.durable.kept

    module _ (k : NodeState) (d : TurnDraft) where
      abbrev AskingSo : Asking → Type 0
      AskingSo a = AllSo k d a.says

      sorted_so : (more asked : List Asking) → AllByRecursion AskingSo asked → AllByRecursion AskingSo more → AllByRecursion AskingSo (fold (put_by_branch asking_id) asked more)
      sorted_so [] asked all rest = all
      sorted_so (a ∷ more) asked all rest = sorted_so more (put_by_branch asking_id asked a) (all_put AskingSo asking_id asked a all rest.0) rest.1

      flat_so : (asked : List Asking) → AllByRecursion AskingSo asked → AllSo k d (flat_map (λ a. a.says) asked)
      flat_so [] all = tt
      flat_so (a ∷ asked) all = all_append (So k d) a.says _ all.0 (flat_so asked all.1)

      rows_so : (ks : List KeptRow) → AllByRecursion (λ s. IsKept k s) ks → AllByRecursion (AcksAre t) ks → AllByRecursion AskingSo (map asks_kept ks)
      rows_so [] found acks = tt
      rows_so (s ∷ ks) found acks = (recovers_so k d s (itself k.stored.durable.kept s found.0) acks.0 s.decision, rows_so ks found.1 acks.1)

      askings_so : AllByRecursion (λ s. IsKept k s) k.stored.durable.kept → AllByRecursion (AcksAre t) k.stored.durable.kept → AllSo k d (flat_map (λ a. a.says) (askings k))
      askings_so found acks =
          flat_so (askings k) (sorted_so (map asks_live k.lives ++ map asks_kept k.stored.durable.kept) [] tt
          (all_append AskingSo (map asks_live k.lives) (map asks_kept k.stored.durable.kept) (all_each AskingSo asks_live k.lives (λ l. one_so k d l.me kinds.Ask l.parent (λ b. tt)))
          (rows_so k.stored.durable.kept found acks)))

      says_so : {says : List Post} → RowsFound k → AllByRecursion (AcksAre t) k.stored.durable.kept → Says k input says → AllSo k d says
      says_so found acks (steps.Gone_rolls_back to from came gone) = (Is_not_there gone came, tt)
      says_so found acks (steps.Gone_acks to from n came gone) = (Is_done n gone came, tt)
      says_so found acks (steps.Knows_rollback s from came kept knows) = (Knows_so s kept refl knows (inl came), tt)
      says_so found acks (steps.Tells s from came kept) = (asked_so k d s from kept (inr came), tt)
      says_so found acks (steps.Recovers reco) = askings_so (found reco) acks
      says_so found acks _ = (tt, tt)

    -- ---- changes before a draft

    call_unasked : (n : ℕ) (s : Stmt) → IsCall input n s → (from to : BranchId) → IsAsked input from to → ⊥
    call_unasked n s call from to asked = asked_call n s asked call

    call_uncommitted : (n : ℕ) (s : Stmt) → IsCall input n s → (from to : BranchId) (m : ℕ) → Came input from to (kinds.Committed m) → ⊥
    call_uncommitted n s call from to m came = came_apart n s came call

    collects_unasked : {k : NodeState} {l : Live} {comment : List ℕ} {site_below : Bool} → Collects k input l comment site_below → (from to : BranchId) → IsAsked input from to → ⊥
    collects_unasked (steps.By_commit n given call has code writer is) from to asked = asked_call n (stmts.Commit given) asked call
    collects_unasked (steps.By_prepare x site_below came working) from to asked = asked_other (kinds.Prepare site_below _) asked came (λ e. absurd cc) (λ e. absurd cc)

    collects_uncommitted : {k : NodeState} {l : Live} {comment : List ℕ} {site_below : Bool} → Collects k input l comment site_below → (from to : BranchId) (m : ℕ) → Came input from to (kinds.Committed m) → ⊥
    collects_uncommitted (steps.By_commit n given call has code writer is) from to m came = came_apart n (stmts.Commit given) came call
    collects_uncommitted (steps.By_prepare x site_below other working) from to m came = (let it = kinds_apart came other in absurd cc)

    goes_unasked : {k : NodeState} {y : Branch} {step : ℕ} → Goes_to k input y step → (from to : BranchId) → IsAsked input from to → ⊥
    goes_unasked (steps.By_rollback_to n y name step call has code live set) from to asked = asked_call n (stmts.RollbackTo name) asked call
    goes_unasked (steps.By_back y by call keep came live runs) from to asked = asked_other (kinds.Exec call (tasks.GoBack keep)) asked came (λ e. absurd cc) (λ e. absurd cc)

    goes_uncommitted : {k : NodeState} {y : Branch} {step : ℕ} → Goes_to k input y step → (from to : BranchId) (m : ℕ) → Came input from to (kinds.Committed m) → ⊥
    goes_uncommitted (steps.By_rollback_to n y name step call has code live set) from to m came = came_apart n (stmts.RollbackTo name) came call
    goes_uncommitted (steps.By_back y by call keep other live runs) from to m came = (let it = kinds_apart came other in absurd cc)

    ack_uncommitted : (a b : BranchId) → Came input a b kinds.Ack → (from to : BranchId) (m : ℕ) → Came input from to (kinds.Committed m) → ⊥
    ack_uncommitted a b other from to m came = let it : kinds.Committed m ≡ kinds.Ack = kinds_apart came other in absurd cc

    ack_unasked : (a b : BranchId) → Came input a b kinds.Ack → (from to : BranchId) → IsAsked input from to → ⊥
    ack_unasked a b other from to asked = asked_other kinds.Ack asked other (λ e. absurd cc) (λ e. absurd cc)

    no_reco : (a b : BranchId) → Came input a b kinds.Ack → input ≡ inputs.Reco → ⊥
    no_reco a b came reco = let it : inputs.Reco ≡ inputs.Message (record { from = a; to = b; scn = came.scn; kind = kinds.Ack }) = sym reco ∙ came.is in absurd cc

    -- ---- steps

    abbrev pub StepSo : NodeState → TurnDraft → Type 0
    StepSo k d = AllByRecursion (λ x. SaysSo k input d x.from x.to x.kind) d.says

    pub says_on : {k : NodeState} {d : TurnDraft} → Step p input k d → RowsFound k → AllByRecursion (AcksAre t) k.stored.durable.kept → StepSo k d
    says_on (steps.Begins {k = k} {d = d} n s read_at call begins fit none step) found acks =
        all_before k _ input d (λ b live no_rows. absurd (no_rows n s call (may_begin begins))) (λ b x like. like) (call_unasked n s call) (call_uncommitted n s call) d.says (says_on step found acks)
    says_on (steps.Counts_call {k = k} {d = d} n s call counts step) found acks =
        all_before k _ input d (λ b alive no_rows. alive) (λ b x like. like) (call_unasked n s call) (call_uncommitted n s call) d.says (says_on step found acks)
    says_on (steps.Goes_back {k = k} y step goes next) found acks =
        let d : TurnDraft = goes_back k y step in
        all_before k _ input d (λ b alive no_rows. alive) (λ b x like. like) (goes_unasked goes) (goes_uncommitted goes) d.says (says_on next found acks)
    says_on (steps.Pends {k = k} {d = d} n l comment call has live code writer step) found acks =
        all_before k _ input d (λ b alive no_rows. alive) (λ b x like. like) (call_unasked n (stmts.Commit comment) call) (call_uncommitted n (stmts.Commit comment) call) d.says (says_on step found acks)
    says_on (steps.Lets_reads_go {k = k} {d = d} l comment site_below live begins step) found acks =
        all_before k _ input d (λ b alive no_rows. alive) (λ b x like. like) (collects_unasked begins) (collects_uncommitted begins) d.says (says_on step found acks)
    says_on (steps.Counts_ack {k = k} {d = d} s from kept came counts step) found acks =
        all_before k _ input d (λ b alive no_rows. alive) (λ b x like. like_acked k.stored.durable.kept s from kept b x like) (ack_unasked from s.me came) (ack_uncommitted from s.me came) d.says
        (says_on step (λ reco. absurd (no_reco from s.me came reco))
        (all_with (AcksAre t) kept_row_id k.stored.durable.kept (acked_by s from) acks (acked_so t s from (told from s.me kinds.Ack came) (all_found (AcksAre t) kept_row_id k.stored.durable.kept s.me s acks kept))))
    says_on (steps.Sends {k = k} says why) found acks = says_so k _ found acks why
    says_on (steps.Runs {k = k} x s given table asked way) found acks = answer_so k _ (branch_ran k.sessions x table (ran p k x.live.me s table)) _ x.live.parent
    says_on (steps.Goes_nowhere {k = k} x s given r asked way) found acks = answer_so k _ x _ x.live.parent
    says_on (steps.Calls {k = k} x s given i table asked way) found acks = exec_so k _ k.sessions x i (errands.Statement (passed_on s table) given) (peer_of x.live i)
    says_on (steps.Opens x s given node link table asked way) found acks = (tt, tt)
    says_on (steps.Goes_on {k = k} x from strength g link opened) found acks =
        exec_so k _ k.sessions (with_edge x (new_edge from link strength)) (length x.live.edges + 1) (less_room g.errand) (peer_of (with_edge x (new_edge from link strength)).live (length x.live.edges + 1))
    says_on (steps.Hears_reply {k = k} x weight count a i e answered) found acks = answer_so k _ (hears_reply x i weight count e) _ x.live.parent
    says_on (steps.Backs {k = k} x step from i calls next) found acks = exec_so k _ k.sessions x i (errands.GoBack step) (peer_of x.live i)
    says_on (steps.Is_back {k = k} x step from calls none) found acks = answer_so k _ x _ x.live.parent
    says_on (steps.Opens_branch to parent edge root depth read_at came new) found acks = (tt, tt)
    says_on (steps.Acts {k = k} l site_below acts.AskDown why) found acks = prepares_so k _ l.me l.comment (path_of site_below (step_from l)) 1 l.edges
    says_on (steps.Acts {k = k} l site_below acts.SayReadOnly why) found acks = one_so k _ l.me kinds.ReadOnly l.parent (λ b. tt)
    says_on (steps.Acts {k = k} l site_below acts.SayReady why) found acks = one_so k _ l.me kinds.Ready l.parent (λ b. tt)
    says_on (steps.Acts {k = k} l site_below acts.Seal why) found acks = one_so k _ l.me kinds.Prepared l.parent (λ b. tt)
    says_on (steps.Acts {k = k} l site_below (acts.SealAndPass i) why) found acks = one_so k _ l.me kinds.CommitPoint (peer_of l i) (λ b. tt)
    says_on (steps.Acts {k = k} l site_below acts.Decide why) found acks = each_so k _ l.me (kinds.Committed (k.clock + 1)) (site_neighbors l) (λ b. tt)
    says_on (steps.Acts {k = k} l site_below acts.Abandon why) found acks =
        all_append (So k _) (to_one l.me kinds.Abort l.parent) _ (one_so k _ l.me kinds.Abort l.parent (λ b. tt)) (leaves_so k _ l (acting_live why) refl (dropped_gone l.me k.lives) (acting_apart why))
    says_on (steps.Drops_told {k = k} l live (steps.By_rollback from came)) found acks = leaves_so k _ l (l, live) refl (dropped_gone l.me k.lives) (λ n s call rows. came_apart n s came call)
    says_on (steps.Drops_told {k = k} l live (steps.By_parent from came parent)) found acks = leaves_so k _ l (l, live) refl (dropped_gone l.me k.lives) (λ n s call rows. came_apart n s came call)
    says_on (steps.Drops_asked {k = k} l from live came parent) found acks =
        (Has_left (l, live) refl (dropped_gone l.me k.lives) (λ n s call rows. came_apart n s came call), leaves_so k _ l (l, live) refl (dropped_gone l.me k.lives) (λ n s call rows. came_apart n s came call))
    says_on (steps.Does {k = k} s from (nexts.End e) kept why) found acks = passes_so k _ s e (itself k.stored.durable.kept s kept) (λ is. subst (λ x. LearnsRollback (Some (records.Ended s.me x)) s.me) (sym is) refl)
    says_on (steps.Does {k = k} s from (nexts.Meet e mixed) kept why) found acks = passes_so k _ s e (itself k.stored.durable.kept s kept) (λ is. subst (λ x. LearnsRollback (Some (records.Met s.me x mixed)) s.me) (sym is) refl)
    says_on (steps.Does {k = k} s from nexts.AckToward kept (steps.Acks_on came knows new all other)) found acks =
        one_so k _ s.me kinds.Ack s.toward (λ b. All_have s (itself k.stored.durable.kept s kept) (acked_all t s (all_found (AcksAre t) kept_row_id k.stored.durable.kept s.me s acks kept) all))
    says_on (steps.Does {k = k} s from nexts.Forget kept why) found acks = each_so k _ s.me kinds.Forgotten (map (λ b. b.branch) (beyond s)) (λ b. tt)
    says_on (steps.Does s from nexts.SayForgotten kept why) found acks = (tt, tt)
    says_on (steps.Does {k = k} s from nexts.SayAck kept (steps.Acks_again n m came toward knows all)) found acks =
        (All_have s (itself k.stored.durable.kept s kept) (acked_all t s (all_found (AcksAre t) kept_row_id k.stored.durable.kept s.me s acks kept) all), tt)
    says_on (steps.Leaves {k = k} n s d x call ends has live) found acks =
        leaves_so k _ x.live (x.live, live_so k x.live.me x live) refl (dropped_gone x.live.me k.lives) (λ m u other begins. (let it : u ≡ s = call_apart m n u s other call in ends_begin_none ends (subst MayBegin it begins)))
    says_on (steps.Gives_up_commit {k = k} n b (Some l) gives has calls live) found acks =
        leaves_so k _ l (gone_live k b l live) refl (dropped_gone l.me k.lives) (λ m s other rows. (let it : inputs.GiveUp n ≡ inputs.Call m (Some s) = sym gives ∙ other in absurd cc))
      where
        gone_live : (k : NodeState) (b : BranchId) (l : Live) → live_at k b ≡ Some l → IsLive k l.me
        gone_live k b l is = (l, subst (λ c. live_at k c ≡ Some l) (sym (item_is live_id k.lives b l is)) is)
    says_on _ found acks = tt
