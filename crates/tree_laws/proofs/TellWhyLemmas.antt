-- Why a turn tells Ack or a rollback. Who says Ack learns the commit now, knows it, or is gone. Who tells a rollback was live and wrote
-- nothing, learns it now, knows it, is gone, or does not know the one that asks as a neighbour.
use Rattle.std.proofs.Common.{◌≡◌, ◌≢◌, ℕ, ◌+◌, ◌&&◌, not, Bool, true, false, List, [], ◌∷◌, ◌++◌, map, filter, fold, length, Option, Some, None, inl, inr, refl, sym, ap, subst, ◌∙◌}
use Rattle.std.specs.Prelude.{flat_map}
use Rattle.std.specs.List.{AllByRecursion}
use Rattle.std.proofs.lemmas.Bool.{cond_both}
use Rattle.tran_ids.proofs.ListedLemmas.{item_is}
use Rattle.commit_forget.specs.declared.next.Beyond.{Beyond}
use Rattle.commit_forget.specs.declared.next.Next.TheVariants as nexts
use Rattle.commit_forget.specs.Beyond.{is_neighbor}
use Rattle.commit_forget.specs.Next.{knows_commit}
use Rattle.reco.specs.declared.told.Told.TheVariants as tolds
use Rattle.session_tree.specs.Live.{children_of, peer_of, new_edge}
use Rattle.session_tree.specs.Tree.{step as step_from}
use Rattle.node_rules.specs.Data.{Answer, Stmt, BranchId, Decision, Kind, Live, Msg, Post, RedoRecord, KeptRow, Act, Place, Input}
use Rattle.node_rules.specs.Data.acts
use Rattle.node_rules.specs.Data.decisions
use Rattle.node_rules.specs.Data.inputs
use Rattle.node_rules.specs.Data.kinds
use Rattle.node_rules.specs.Data.records
use Rattle.node_rules.specs.Data.stmts
use Rattle.node_rules.specs.declared.work.Errand.{Errand}
use Rattle.node_rules.specs.declared.work.Errand.TheVariants as errands
use Rattle.node_rules.specs.declared.session.Session.{Session}
use Rattle.node_rules.specs.Words.{put_by_branch, item_at}
use Rattle.node_rules.specs.Inputs.{Came, IsCall}
use Rattle.node_rules.specs.NodeState.{NodeState, Branch, TurnDraft, live_id, kept_row_id, live_at, to_one, to_each}
use Rattle.node_rules.specs.Calls.{answer_says, exec_to, with_edge, hears_reply, branch_ran, less_room, backs_to, goes_back}
use Rattle.node_rules.specs.Names.{passed_on}
use Rattle.node_rules.specs.Marks.{node_back, branch_back, next_back}
use Rattle.node_rules.specs.Statement.{ran}
use Rattle.node_rules.specs.Prepare.{path_of, site_neighbors, act_turn}
use Rattle.node_rules.specs.Commit.{beyond, all_acked, acked_by, passes_commit, rollback_to, passes}
use Rattle.node_rules.specs.Recovery.{told_by, kept_told, told_kind, Asking, asking_id, asks_live, asks_kept, acks_again, recovers, askings}
use Rattle.node_rules.specs.Turn.{Is_gone, status_of}
use Rattle.node_rules.proofs.Steps as steps
use Rattle.node_rules.proofs.Steps.{Step, Says, IsKept, IsCounted, Acting, Collects}
use Rattle.node_rules.proofs.StandLemmas.{live_so}
use Rattle.node_rules.proofs.StepLemmas.{IsLive, acting_live}
use Rattle.agreement.specs.Events.{Event, learned, Knows}
use Rattle.run_base_laws.specs.EventRows.{RowIs, IsKnown}
use Rattle.run_rules.proofs.ListLemmas.{all_weaker, all_append, all_each, all_put}
use Rattle.run_base_laws.proofs.OwnLemmas.{all_found, all_with}
use Rattle.run_base_laws.proofs.KindSayLemmas.{AllSay, prepares_say}
use Rattle.run_base_laws.proofs.BeginLemmas.{MayBegin, may_begin, ends_begin_none}
use Rattle.run_branch_laws.proofs.QuietLemmas.{NoRows, call_apart, came_apart}
use Rattle.run_branch_laws.proofs.RowSayLemmas.{LearnsRollback}

-- the record says that a branch learned a commit
abbrev pub LearnsCommit : Option RedoRecord → BranchId → Type 0
LearnsCommit (Some (records.Ended b (decisions.Commit n))) e = b ≡ e
LearnsCommit (Some (records.Met b (decisions.Commit n) mixed)) e = b ≡ e
LearnsCommit _ e = ⊥

-- messages of two kinds did not both come
pub kinds_apart : {input : Input} {a b c e : BranchId} {x y : Kind} → Came input a b x → Came input c e y → x ≡ y
kinds_apart {a = a} {b = b} {c = c} {e = e} {x = x} {y = y} one other =
    let it : inputs.Message (record { from = a; to = b; scn = one.scn; kind = x }) ≡ inputs.Message (record { from = c; to = e; scn = other.scn; kind = y }) = sym one.is ∙ other.is in
    let here : record { from = a; to = b; scn = one.scn; kind = x } ≡ record { from = c; to = e; scn = other.scn; kind = y } = cc in
    ap (λ (m : Msg). m.kind) here

-- A node meets this input without a change before its draft.
pub record Direct (input : Input) : Type 0 where
  pub rows : NoRows input
  pub counts : (n : ℕ) (s : Stmt) → IsCall input n s → IsCounted s → ⊥
  pub commit : (n : ℕ) (c : Option (List ℕ)) → IsCall input n (stmts.Commit c) → ⊥
  pub prepare : (from to : BranchId) (b : Bool) (comment : List ℕ) → Came input from to (kinds.Prepare b comment) → ⊥
  pub ack : (from to : BranchId) → Came input from to kinds.Ack → ⊥

direct_came : {input : Input} {a b : BranchId} {kind : Kind} → Came input a b kind → (kind ≢ kinds.Ack) → ((w : Bool) (comment : List ℕ) → kind ≢ kinds.Prepare w comment) → Direct input
direct_came came other no_prepare = record {
  rows = λ n s call begins. came_apart n s came call;
  counts = λ n s call counts. came_apart n s came call;
  commit = λ n c call. came_apart n (stmts.Commit c) came call;
  prepare = λ from to w comment came2. no_prepare w comment (kinds_apart came came2);
  ack = λ from to came2. other (kinds_apart came came2);
}

direct_give_up : {input : Input} (n : ℕ) → input ≡ inputs.GiveUp n → Direct input
direct_give_up n gives = record {
  rows = λ m s call begins. (let it : inputs.GiveUp n ≡ inputs.Call m (Some s) = sym gives ∙ call in absurd cc);
  counts = λ m s call counts. (let it : inputs.GiveUp n ≡ inputs.Call m (Some s) = sym gives ∙ call in absurd cc);
  commit = λ m c call. (let it : inputs.GiveUp n ≡ inputs.Call m (Some (stmts.Commit c)) = sym gives ∙ call in absurd cc);
  prepare = λ from to w comment came. (let it : inputs.GiveUp n ≡ inputs.Message _ = sym gives ∙ came.is in absurd cc);
  ack = λ from to came. (let it : inputs.GiveUp n ≡ inputs.Message _ = sym gives ∙ came.is in absurd cc);
}

collects_indirect : {k : NodeState} {input : Input} {l : Live} {comment : List ℕ} {b : Bool} → Collects k input l comment b → Direct input → ⊥
collects_indirect (steps.By_commit n given call has code writer is) direct = direct.commit n given call
collects_indirect {l = l} {comment = comment} (steps.By_prepare from b came working) direct = direct.prepare from l.me b comment came

abandons_direct : {k : NodeState} {input : Input} {l : Live} {b : Bool} → Acting k input l b acts.Abandon → Direct input
abandons_direct (steps.Has_no_children l comment b _ live begins none collected) = elim collected [ ]
abandons_direct (steps.Hears_abort l from b live answers) = direct_came answers.came (λ is. no_ack answers.kind answers.is_vote is) (λ w comment is. no_prepare answers.kind answers.is_vote w comment is)
  where
    no_ack : (kind : Kind) → Some kinds.Abort ≡ Some kind → kind ≢ kinds.Ack
    no_ack kind is ack = let it : kinds.Abort ≡ kind = cc in absurd (cc (it, ack))

    no_prepare : (kind : Kind) → Some kinds.Abort ≡ Some kind → (w : Bool) (comment : List ℕ) → kind ≢ kinds.Prepare w comment
    no_prepare kind is w comment asks = let it : kinds.Abort ≡ kind = cc in absurd (cc (it, asks))
abandons_direct (steps.Hears_last l from v b _ live answers other all_so collected) = elim collected [ ]
abandons_direct (steps.At_point l from _ live came is pointed) = elim pointed [ ]

module _ (t : List Event) where
  -- it learns the commit now, knows it, or is gone
  pub data AcksSo (k : NodeState) (d : TurnDraft) (b : BranchId) : Type 0 where
    Learns_it : LearnsCommit d.wrote b → AcksSo k d b
    Knows_it : (n : ℕ) → Knows t b n → AcksSo k d b
    Has_gone : status_of k b ≡ Is_gone → AcksSo k d b

  -- it was live, learns a rollback now, knows it, is gone, or does not know the receiver
  pub data RollsSo (k : NodeState) (input : Input) (d : TurnDraft) (e to : BranchId) : Type 0 where
    Was_live : IsLive k e → d.wrote ≡ None → RollsSo k input d e to
    Learns_so : LearnsRollback d.wrote e → RollsSo k input d e to
    Knows_so : learned t e ≡ Some decisions.Rollback → RollsSo k input d e to
    Is_nothing : status_of k e ≡ Is_gone → (from : BranchId) (kind : Kind) → Came input from e kind → RollsSo k input d e to
    Names_not : (s : KeptRow) → IsKept k s → s.me ≡ e → is_neighbor s to ≡ false → RollsSo k input d e to

  abbrev pub TellsSo : NodeState → Input → TurnDraft → BranchId → BranchId → Kind → Type 0
  TellsSo k input d from to kinds.Ack = AcksSo k d from
  TellsSo k input d from to kinds.Rollback = RollsSo k input d from to
  TellsSo k input d from to kinds.RolledBack = RollsSo k input d from to
  TellsSo k input d from to _ = Unit {0}

  -- neither Ack nor a rollback
  abbrev IsOther : Kind → Type 0
  IsOther kind = (kind ≢ kinds.Ack) × (kind ≢ kinds.Rollback) × (kind ≢ kinds.RolledBack)

  knows_known : (s : KeptRow) (o : Option Decision) → knows_commit o ≡ true → IsKnown t s o → (n : ℕ) × Knows t s.me n
  knows_known s None is known = absurd cc
  knows_known s (Some decisions.Rollback) is known = absurd cc
  knows_known s (Some (decisions.Commit n)) is known = (n, known)

  module _ (k0 : NodeState) (input : Input) (d : TurnDraft) where
    abbrev So : Post → Type 0
    So x = TellsSo k0 input d x.from x.to x.kind

    abbrev AllSo : List Post → Type 0
    AllSo xs = AllByRecursion So xs

    other_so : (from to : BranchId) (kind : Kind) → IsOther kind → TellsSo k0 input d from to kind
    other_so from to kinds.Ack is = absurd (is.0 refl)
    other_so from to kinds.Rollback is = absurd (is.1 refl)
    other_so from to kinds.RolledBack is = absurd (is.2 refl)
    other_so from to _ is = tt

    others_so : (xs : List Post) → AllSay IsOther xs → AllSo xs
    others_so xs all = all_weaker (λ x. IsOther x.kind) So (λ x is. other_so x.from x.to x.kind is) xs all

    one_so : (from : BranchId) (kind : Kind) (o : Option BranchId) → ((b : BranchId) → TellsSo k0 input d from b kind) → AllSo (to_one from kind o)
    one_so from kind None each = tt
    one_so from kind (Some b) each = (each b, tt)

    each_so : (from : BranchId) (kind : Kind) (bs : List BranchId) → ((b : BranchId) → TellsSo k0 input d from b kind) → AllSo (to_each from kind bs)
    each_so from kind [] each = tt
    each_so from kind (b ∷ bs) each = (each b, each_so from kind bs each)

    rolls_all : (l : Live) → IsLive k0 l.me → d.wrote ≡ None → AllSo (to_each l.me kinds.Rollback (children_of l))
    rolls_all l live unwritten = each_so l.me kinds.Rollback (children_of l) (λ b. Was_live live unwritten)

    -- ---- rows

    commit_so : (s : KeptRow) (n : ℕ) (bs : List Beyond) → AcksSo k0 d s.me → AllSo (passes_commit s n bs)
    commit_so s n [] so = one_so s.me kinds.Ack s.toward (λ b. so)
    commit_so s n (b ∷ bs) so = each_so s.me (kinds.Committed n) (map (λ c. c.branch) (b ∷ bs)) (λ c. tt)

    passes_so : (s : KeptRow) (e : Decision) → ((n : ℕ) → e ≡ decisions.Commit n → AcksSo k0 d s.me) → (e ≡ decisions.Rollback → LearnsRollback d.wrote s.me) → AllSo (passes s e)
    passes_so s (decisions.Commit n) commits learns = commit_so s n (beyond s) (commits n refl)
    passes_so s decisions.Rollback commits learns =
        all_each So (rollback_to s.me) (beyond s) (λ b. cond_both b.is_parent kinds.RolledBack kinds.Rollback (λ kind. TellsSo k0 input d s.me b.branch kind) (λ up. Learns_so (learns refl)) (λ down. Learns_so (learns refl)))

    -- ---- recovery

    again_so : (s : KeptRow) → AcksSo k0 d s.me → AllSo (acks_again s)
    again_so s so = cond_both (all_acked s && not s.forgot) (to_one s.me kinds.Ack s.toward) [] AllSo (λ all. one_so s.me kinds.Ack s.toward (λ b. so)) (λ some. tt)

    recovers_so : (s : KeptRow) (e : Option Decision) → IsKnown t s e → AllSo (recovers s e)
    recovers_so s None known = one_so s.me kinds.Ask s.toward (λ b. tt)
    recovers_so s (Some (decisions.Commit n)) known =
        all_append So _ (acks_again s) (each_so s.me (kinds.Committed n) (map (λ b. b.branch) (filter (λ b. not b.acked) (beyond s))) (λ b. tt)) (again_so s (Knows_it n known))
    recovers_so s (Some decisions.Rollback) known = tt

    abbrev AskingSo : Asking → Type 0
    AskingSo a = AllSo a.says

    sorted_so : (more asked : List Asking) → AllByRecursion AskingSo asked → AllByRecursion AskingSo more → AllByRecursion AskingSo (fold (put_by_branch asking_id) asked more)
    sorted_so [] asked all rest = all
    sorted_so (a ∷ more) asked all rest = sorted_so more (put_by_branch asking_id asked a) (all_put AskingSo asking_id asked a all rest.0) rest.1

    flat_so : (asked : List Asking) → AllByRecursion AskingSo asked → AllSo (flat_map (λ a. a.says) asked)
    flat_so [] all = tt
    flat_so (a ∷ asked) all = all_append So a.says _ all.0 (flat_so asked all.1)

    rows_so : (ks : List KeptRow) → AllByRecursion (RowIs t) ks → AllByRecursion AskingSo (map asks_kept ks)
    rows_so [] rows = tt
    rows_so (s ∷ ks) rows = (recovers_so s s.decision rows.0.known, rows_so ks rows.1)

    askings_so : (k : NodeState) → AllByRecursion (RowIs t) k.stored.durable.kept → AllSo (flat_map (λ a. a.says) (askings k))
    askings_so k rows =
        flat_so (askings k) (sorted_so (map asks_live k.lives ++ map asks_kept k.stored.durable.kept) [] tt
        (all_append AskingSo (map asks_live k.lives) (map asks_kept k.stored.durable.kept) (all_each AskingSo asks_live k.lives (λ l. one_so l.me kinds.Ask l.parent (λ b. tt))) (rows_so k.stored.durable.kept rows)))

    -- ---- messages alone

    -- what a row knows, to one that asks
    known_so : (s : KeptRow) (from : BranchId) (e : Option Decision) → IsKnown t s e → TellsSo k0 input d s.me from (told_kind (told_by e))
    known_so s from None known = tt
    known_so s from (Some (decisions.Commit n)) known = tt
    known_so s from (Some decisions.Rollback) known = Knows_so known

    asked_so : (s : KeptRow) (from : BranchId) → IsKept k0 s → RowIs t s → TellsSo k0 input d s.me from (told_kind (kept_told s from))
    asked_so s from kept is =
        cond_both (is_neighbor s from) (told_by s.decision) tolds.RolledBack (λ x. TellsSo k0 input d s.me from (told_kind x)) (λ near. known_so s from s.decision is.known) (λ other. Names_not s kept refl other)

    says_so : (k : NodeState) {says : List Post} → (Direct input → k ≡ k0) → AllByRecursion (RowIs t) k.stored.durable.kept → Says k input says → AllSo says
    says_so k near rows (steps.Gone_rolls_back to from (inl came) gone) =
        (Is_nothing (subst (λ x. status_of x to ≡ Is_gone) (near (direct_came came (λ is. absurd cc) (λ w comment is. absurd cc))) gone) from kinds.CommitPoint came, tt)
    says_so k near rows (steps.Gone_rolls_back to from (inr came) gone) =
        (Is_nothing (subst (λ x. status_of x to ≡ Is_gone) (near (direct_came came (λ is. absurd cc) (λ w comment is. absurd cc))) gone) from kinds.Ask came, tt)
    says_so k near rows (steps.Gone_acks to from n came gone) = (Has_gone (subst (λ x. status_of x to ≡ Is_gone) (near (direct_came came (λ is. absurd cc) (λ w comment is. absurd cc))) gone), tt)
    says_so k near rows (steps.Knows_rollback s from came kept knows) = (Knows_so (subst (IsKnown t s) knows (all_found (RowIs t) kept_row_id k.stored.durable.kept s.me s rows kept).known), tt)
    says_so k near rows (steps.Tells s from came kept) =
        (asked_so s from (subst (λ x. IsKept x s) (near (direct_came came (λ is. absurd cc) (λ w comment is. absurd cc))) kept) (all_found (RowIs t) kept_row_id k.stored.durable.kept s.me s rows kept), tt)
    says_so k near rows (steps.Recovers reco) = askings_so k rows
    says_so k near rows _ = (tt, tt)

  -- ---- statements

  answer_other : (x : Branch) (a : Answer) (o : Option BranchId) → AllSay IsOther (answer_says x a o)
  answer_other x a None = tt
  answer_other x a (Some parent) = (((λ is. absurd cc), (λ is. absurd cc), (λ is. absurd cc)), tt)

  exec_other : (ss : List Session) (x : Branch) (i : ℕ) (e : Errand) (o : Option BranchId) → AllSay IsOther (exec_to ss x i e o)
  exec_other ss x i e None = tt
  exec_other ss x i e (Some c) = (((λ is. absurd cc), (λ is. absurd cc), (λ is. absurd cc)), tt)

  -- a branch goes back to a step
  backs_other : (k : NodeState) (x : Branch) (step : ℕ) (o : Option ℕ) → AllSay IsOther (backs_to k x step o).says
  backs_other k x step None = answer_other x _ x.live.parent
  backs_other k x step (Some i) = exec_other k.sessions x i (errands.GoBack step) (peer_of x.live i)

  back_other : (k : NodeState) (x : Branch) (step : ℕ) → AllSay IsOther (goes_back k x step).says
  back_other k x step = backs_other (node_back k x step) (branch_back k x step) step (next_back (branch_back k x step).work step 1)

  module _ (k0 : NodeState) (p : Place) (input : Input) where
    abbrev DraftSo : TurnDraft → Type 0
    DraftSo d = AllSo k0 input d d.says

    live_there : (k : NodeState) → (Direct input → k ≡ k0) → Direct input → (b : BranchId) → IsLive k b → IsLive k0 b
    live_there k near direct b live = subst (λ x. IsLive x b) (near direct) live

    acts_tell : (k : NodeState) → (Direct input → k ≡ k0) → {l : Live} {b : Bool} (a : Act) → Acting k input l b a → DraftSo (act_turn k l b a)
    acts_tell k near acts.Rest why = tt
    acts_tell k near {l = l} {b = b} acts.AskDown why =
        others_so k0 input _ _ (prepares_say IsOther (λ w c. ((λ is. absurd cc), (λ is. absurd cc), (λ is. absurd cc))) l.me l.comment (path_of b (step_from l)) 1 l.edges)
    acts_tell k near {l = l} acts.SayReadOnly why = one_so k0 input _ l.me kinds.ReadOnly l.parent (λ b. tt)
    acts_tell k near {l = l} acts.SayReady why = one_so k0 input _ l.me kinds.Ready l.parent (λ b. tt)
    acts_tell k near {l = l} acts.Seal why = one_so k0 input _ l.me kinds.Prepared l.parent (λ b. tt)
    acts_tell k near {l = l} (acts.SealAndPass i) why = one_so k0 input _ l.me kinds.CommitPoint (peer_of l i) (λ b. tt)
    acts_tell k near {l = l} acts.Decide why = each_so k0 input _ l.me (kinds.Committed (k.clock + 1)) (site_neighbors l) (λ b. tt)
    acts_tell k near acts.Finish why = tt
    acts_tell k near {l = l} acts.Abandon why =
        all_append (So k0 input _) (to_one l.me kinds.Abort l.parent) _ (one_so k0 input _ l.me kinds.Abort l.parent (λ b. tt)) (rolls_all k0 input _ l (live_there k near (abandons_direct why) l.me (acting_live why)) refl)

    -- no branch begins where no statement comes that begins a transaction
    pub tells_on : {k : NodeState} {d : TurnDraft} → Step p input k d → (Direct input → k ≡ k0) → (NoRows input → k.lives ≡ k0.lives) → AllByRecursion (RowIs t) k.stored.durable.kept → DraftSo d
    tells_on (steps.Begins n s read_at call begins fit none step) near same all = tells_on step (λ direct. absurd (direct.rows n s call (may_begin begins))) (λ no. absurd (no n s call (may_begin begins))) all
    tells_on (steps.Counts_call n s call counts step) near same all = tells_on step (λ direct. absurd (direct.counts n s call counts)) same all
    tells_on (steps.Goes_back {k = k} x step goes next) near same all = others_so k0 input _ _ (back_other k x step)
    tells_on (steps.Pends n l given call has live code writer step) near same all = tells_on step (λ direct. absurd (direct.commit n given call)) same all
    tells_on (steps.Lets_reads_go l comment b live begins step) near same all = tells_on step (λ direct. absurd (collects_indirect begins direct)) same all
    tells_on (steps.Counts_ack {k = k} s from kept came counts step) near same all =
        let was : RowIs t s = all_found (RowIs t) kept_row_id k.stored.durable.kept s.me s all kept in
        tells_on step (λ direct. absurd (direct.ack from s.me came)) same
        (all_with (RowIs t) kept_row_id k.stored.durable.kept (acked_by s from) all (record { left = was.left; known = was.known; force = was.force; forgot = was.forgot }))
    tells_on (steps.Sends {k = k} says why) near same all = says_so k0 input _ k near all why
    tells_on (steps.Runs {k = k} x s given table asked way) near same all = others_so k0 input _ _ (answer_other (branch_ran k.sessions x table (ran p k x.live.me s table)) _ x.live.parent)
    tells_on (steps.Goes_nowhere x s given r asked way) near same all = others_so k0 input _ _ (answer_other x _ x.live.parent)
    tells_on (steps.Calls {k = k} x s given i table asked way) near same all = others_so k0 input _ _ (exec_other k.sessions x i (errands.Statement (passed_on s table) given) (peer_of x.live i))
    tells_on (steps.Opens x s given node link table asked way) near same all = (tt, tt)
    tells_on (steps.Goes_on {k = k} x from strength g link opened) near same all =
        others_so k0 input _ _ (exec_other k.sessions (with_edge x (new_edge from link strength)) (length x.live.edges + 1) (less_room g.errand) (peer_of (with_edge x (new_edge from link strength)).live (length x.live.edges + 1)))
    tells_on (steps.Hears_reply x weight count a i e answered) near same all = others_so k0 input _ _ (answer_other (hears_reply x i weight count e) _ x.live.parent)
    tells_on (steps.Backs {k = k} x step from i calls next) near same all = others_so k0 input _ _ (exec_other k.sessions x i (errands.GoBack step) (peer_of x.live i))
    tells_on (steps.Is_back x step from calls none) near same all = others_so k0 input _ _ (answer_other x _ x.live.parent)
    tells_on (steps.Opens_branch to parent edge root depth read_at came new) near same all = (tt, tt)
    tells_on (steps.Acts {k = k} l b a why) near same all = acts_tell k near a why
    tells_on (steps.Drops_told {k = k} l live (steps.By_rollback from came)) near same all =
        rolls_all k0 input _ l (live_there k near (direct_came came (λ is. absurd cc) (λ w comment is. absurd cc)) l.me (l, live)) refl
    tells_on (steps.Drops_told {k = k} l live (steps.By_parent from came parent)) near same all =
        rolls_all k0 input _ l (live_there k near (direct_came came (λ is. absurd cc) (λ w comment is. absurd cc)) l.me (l, live)) refl
    tells_on (steps.Drops_asked {k = k} l from live came parent) near same all =
        let there : IsLive k0 l.me = live_there k near (direct_came came (λ is. absurd cc) (λ w comment is. absurd cc)) l.me (l, live) in (Was_live there refl, rolls_all k0 input _ l there refl)
    tells_on (steps.Does s from (nexts.End e) kept why) near same all =
        passes_so k0 input _ s e (λ n is. Learns_it (subst (λ x. LearnsCommit (Some (records.Ended s.me x)) s.me) (sym is) refl)) (λ is. subst (λ x. LearnsRollback (Some (records.Ended s.me x)) s.me) (sym is) refl)
    tells_on (steps.Does s from (nexts.Meet e mixed) kept why) near same all =
        passes_so k0 input _ s e (λ n is. Learns_it (subst (λ x. LearnsCommit (Some (records.Met s.me x mixed)) s.me) (sym is) refl)) (λ is. subst (λ x. LearnsRollback (Some (records.Met s.me x mixed)) s.me) (sym is) refl)
    tells_on (steps.Does {k = k} s from nexts.AckToward kept (steps.Acks_on came knows new all_so other)) near same all =
        let known = knows_known s s.decision knows (all_found (RowIs t) kept_row_id k.stored.durable.kept s.me s all kept).known in one_so k0 input _ s.me kinds.Ack s.toward (λ b. Knows_it known.0 known.1)
    tells_on (steps.Does s from nexts.Forget kept why) near same all = each_so k0 input _ s.me kinds.Forgotten (map (λ b. b.branch) (beyond s)) (λ b. tt)
    tells_on (steps.Does s from nexts.SayForgotten kept why) near same all = (tt, tt)
    tells_on (steps.Does {k = k} s from nexts.SayAck kept (steps.Acks_again n m came toward knows all_so)) near same all =
        (Knows_it n (subst (IsKnown t s) knows (all_found (RowIs t) kept_row_id k.stored.durable.kept s.me s all kept).known), tt)
    tells_on (steps.Leaves {k = k} n s d x call ends has live) near same all =
        let none : NoRows input = λ m u other begins. (let it : u ≡ s = call_apart m n u s other call in ends_begin_none ends (subst MayBegin it begins)) in
        let there : IsLive k0 x.live.me = (x.live, subst (λ ls. item_at live_id ls x.live.me ≡ Some x.live) (same none) (live_so k x.live.me x live)) in
        rolls_all k0 input _ x.live there refl
    tells_on (steps.Gives_up_commit {k = k} n b (Some l) gives has calls live) near same all =
        rolls_all k0 input _ l (live_there k near (direct_give_up n gives) l.me (l, subst (λ c. live_at k c ≡ Some l) (sym (item_is live_id k.lives b l live)) live)) refl
    tells_on _ near same all = tt
