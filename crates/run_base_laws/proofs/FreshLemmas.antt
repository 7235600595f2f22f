-- No branch id is given out twice: a branch has one row at a node or is live there once, and not both.
use Rattle.std.proofs.Common.{◌≡◌, ℕ, ◌+◌, ◌≤◌, not, true, false, if◌then◌else◌, List, [], ◌∷◌, ◌++◌, length, Some, None, refl, sym, ap, subst, ◌∙◌, arith, Option}
use Rattle.std.specs.Prelude.{IfSome}
use Rattle.std.specs.Option.{option_to_list}
use Rattle.std.proofs.lemmas.List.{length-append}
use Rattle.tran_ids.proofs.NumberedLemmas.{set_length}
use Rattle.node_rules.specs.Data.{BranchId, RedoRecord, Live, Place, Input}
use Rattle.node_rules.specs.Data.decisions
use Rattle.node_rules.specs.Data.records
use Rattle.node_rules.specs.Data.acts
use Rattle.commit_forget.specs.declared.next.Next.TheVariants as nexts
use Rattle.node_rules.specs.declared.session.PendingCall.TheVariants as pending
use Rattle.node_rules.specs.declared.session.Session.{Session}
use Rattle.node_rules.specs.Words.{same, put_item, drop_item, set_numbered}
use Rattle.node_rules.specs.NodeState.{NodeState, TurnDraft, live_id, kept_row_id}
use Rattle.node_rules.specs.Sessions.{session_at, with_root, no_transaction, with_call}
use Rattle.node_rules.specs.Records.{applied, nothing_stored, stored_by}
use Rattle.node_rules.specs.Inputs.{IsSession}
use Rattle.node_rules.specs.Statement.{ran, after_run}
use Rattle.session_tree.specs.Live.{new_edge}
use Rattle.node_rules.specs.Calls.{next_child, with_edge, hears_reply, heard_sessions, opens_branch}
use Rattle.node_rules.specs.Prepare.{is_alone, sealed_record, decided_record, ready}
use Rattle.node_rules.specs.Commit.{acked_by}
use Rattle.node_rules.specs.Client.{new_root, begun_by, counted}
use Rattle.node_rules.specs.Turn.{start_of}
use Rattle.node_rules.proofs.Steps as steps
use Rattle.node_rules.proofs.Steps.{Step}
use Rattle.node_rules.proofs.StandLemmas.{live_so}
use Rattle.run_rules.specs.Lawful.{boots}
use Rattle.run_base_laws.specs.NodeLaws.{IdsAreFresh}
use Rattle.run_base_laws.proofs.CountingLemmas.{count_put, count_filter, count_moved}
use Rattle.node_rules.proofs.StepLemmas.{IsLive, asked_live, acting_live, made_so, calling_back_live}
use Rattle.node_rules.proofs.SessionLemmas.{seqs, seq_at, session_seq, set_seqs, still_seqs, call_seqs, needs_seqs, ended_seqs, pends_seqs, answered_seqs, heard_seqs, decided_seqs, abandoned_seqs, ended_if_seqs, counted_seqs}
use Rattle.node_rules.specs.Images.{image_at}
use Rattle.run_base_laws.proofs.CountLemmas.{rows_of, makes_row, rows_applied, rows_unacked}
use Rattle.run_rules.proofs.BootLemmas.{IsOfTurn, step_of_turn, boots_started, boots_with}
use Rattle.run_base_laws.proofs.StoredBootLemmas.{booted, BootIs, boot_with}
use Rattle.run_base_laws.proofs.IdLemmas.{seqs_rise, seq_set, Given, Before, In_session, Over_link, given_before, Ids, fewer, grown}
use Rattle.run_base_laws.proofs.StoredLemmas.{StoresOf, stored_with, step_stores_of, start_stores}
use Rattle.run_base_laws.proofs.NodeLemmas.{Keeps, node_keeps}

module _ (boot : ℕ) where
  -- the ids at a node
  abbrev pub IdsAt : NodeState → Type 0
  IdsAt k = Ids boot (seqs k.sessions) (length k.opens) k.stored.durable.kept k.lives

  module _ (k : NodeState) (ids : IdsAt k) where
    -- with sessions whose numbers are the same
    still : (ss : List Session) → seqs ss ≡ seqs k.sessions → Ids boot (seqs ss) (length k.opens) k.stored.durable.kept k.lives
    still ss numbers = subst (λ ms. Ids boot ms (length k.opens) k.stored.durable.kept k.lives) (sym numbers) ids

    -- with a live branch changed
    changed : (l : Live) (ss : List Session) → IsLive k l.me → seqs ss ≡ seqs k.sessions → Ids boot (seqs ss) (length k.opens) k.stored.durable.kept (put_item live_id k.lives l)
    changed l ss live numbers = fewer boot (seqs ss) (length k.opens) _ _ (still ss numbers) _ _ (λ b. omega (arith, count_put live_id b k.lives l live.0 live.1))

    -- without a live branch
    dropped : (b : BranchId) (ss : List Session) → seqs ss ≡ seqs k.sessions → Ids boot (seqs ss) (length k.opens) k.stored.durable.kept (drop_item live_id k.lives b)
    dropped b ss numbers = fewer boot (seqs ss) (length k.opens) _ _ (still ss numbers) _ _ (λ c. omega (arith, count_filter live_id c (λ l. not (same l.me b)) k.lives))

    -- with a record that makes no row
    recorded : (r : RedoRecord) (ss : List Session) → ((b : BranchId) → makes_row b r ≡ 0) → seqs ss ≡ seqs k.sessions
        → Ids boot (seqs ss) (length k.opens) (applied k.stored r).durable.kept k.lives
    recorded r ss none numbers = fewer boot (seqs ss) (length k.opens) _ _ (still ss numbers) _ _ (λ b. omega (arith, rows_applied b k.stored r, none b))

    -- with a record that makes the row of a branch that is live no more
    moved : (r : RedoRecord) (m : BranchId) (ss : List Session) → IsLive k m → ((b : BranchId) → makes_row b r ≡ (if same m b then 1 else 0)) → seqs ss ≡ seqs k.sessions
        → Ids boot (seqs ss) (length k.opens) (applied k.stored r).durable.kept (drop_item live_id k.lives m)
    moved r m ss live one numbers = fewer boot (seqs ss) (length k.opens) _ _ (still ss numbers) _ _ (λ b. omega (arith, rows_applied b k.stored r, one b, count_moved live_id b k.lives m live.0 live.1))

  -- ---- new ids

  -- the root of a session, of the next number
  begun_ids : (p : Place) (k : NodeState) (n : ℕ) (read_at : Option ℕ) → k.stored.durable.boot ≡ boot → IsSession n → IdsAt k → IdsAt (begun_by p k n read_at None)
  begun_ids p k n read_at is fit ids =
      let root : BranchId = new_root p k n in
      let set : seqs (with_root k.sessions n root) ≡ set_numbered (seqs k.sessions) n root.seq = set_seqs k.sessions n _ in
      let was : (session_at k.sessions n).seq ≡ seq_at (seqs k.sessions) n = session_seq k.sessions n in
      subst (λ ms. Ids boot ms (length k.opens) k.stored.durable.kept (begun_by p k n read_at None).lives) (sym set)
      (grown boot (seqs k.sessions) (length k.opens) k.stored.durable.kept k.lives ids (set_numbered (seqs k.sessions) n root.seq) (length k.opens) _
      (set_length (seqs k.sessions) n root.seq ∙ ids.many) (seqs_rise (seqs k.sessions) n root.seq (omega (arith, was))) (omega arith) unused
      (In_session is fit.1 (let now : seq_at (set_numbered (seqs k.sessions) n root.seq) n ≡ root.seq = seq_set (seqs k.sessions) n root.seq fit ids.many in omega (arith, now))))
    where
      unused : Given boot (seqs k.sessions) (length k.opens) (new_root p k n) → ⊥
      unused (Before old) = omega (arith, old, is)
      unused (In_session now under given) = let was : (session_at k.sessions n).seq ≡ seq_at (seqs k.sessions) n = session_seq k.sessions n in omega (arith, given, was)
      unused (Over_link now high given) = omega (arith, high, fit.1)

  -- a branch that is opened over a link, of the next session above 64
  opened_ids : (p : Place) (k : NodeState) (parent : BranchId) (edge : ℕ) (root : BranchId) (depth : ℕ) (read_at : Option ℕ) → k.stored.durable.boot ≡ boot → IdsAt k
      → IdsAt (opens_branch p k parent edge root depth read_at)
  opened_ids p k parent edge root depth read_at is ids =
      let more : length (opens_branch p k parent edge root depth read_at).opens ≡ length k.opens + 1 = length-append k.opens _ in
      grown boot (seqs k.sessions) (length k.opens) k.stored.durable.kept k.lives ids (seqs k.sessions) (length (opens_branch p k parent edge root depth read_at).opens) _
      ids.many (λ n. omega arith) (omega (arith, more)) unused (Over_link is (omega arith) (omega (arith, more)))
    where
      unused : Given boot (seqs k.sessions) (length k.opens) (next_child p k) → ⊥
      unused (Before old) = omega (arith, old, is)
      unused (In_session now under given) = omega (arith, under)
      unused (Over_link now high given) = omega (arith, given)

  -- ---- steps

  module _ (p : Place) (input : Input) where
    -- each step leaves ids in use once
    ids_on : {k : NodeState} {d : TurnDraft} → Step p input k d → k.stored.durable.boot ≡ boot → IdsAt k → IdsAt d.after
    ids_on (steps.Begins {k = k} n s read_at call begins fit none step) is ids = ids_on step is (begun_ids p k n read_at is fit ids)
    ids_on (steps.Counts_call {k = k} n s call counts step) is ids = ids_on step is (still k ids (counted k n).sessions (counted_seqs k.sessions n (session_at k.sessions n).root))
    ids_on (steps.Goes_back x step goes next) is ids = ids_on next is ids
    ids_on (steps.Pends {k = k} n l given call has live code writer step) is ids = ids_on step is (still k ids (with_call k.sessions n pending.Commit) (call_seqs k.sessions n pending.Commit))
    ids_on (steps.Lets_reads_go l comment site_below live begins step) is ids = ids_on step is ids
    ids_on (steps.Counts_ack {k = k} s from kept came counts step) is ids =
        ids_on step is (fewer boot (seqs k.sessions) (length k.opens) _ _ ids _ _ (λ b. omega (arith, count_put kept_row_id b k.stored.durable.kept (acked_by s from) s kept)))
    ids_on (steps.Runs {k = k} x s given t asked way) is ids =
        let l : Live = after_run x.live (ran p k x.live.me s t) in
        changed k ids l _ (asked_live asked) (answered_seqs k.sessions l x.live.parent)
    ids_on (steps.Goes_nowhere {k = k} x s given r asked way) is ids = changed k ids x.live _ (asked_live asked) (answered_seqs k.sessions x.live x.live.parent)
    ids_on (steps.Calls {k = k} x s given i table asked way) is ids = changed k ids x.live _ (asked_live asked) (pends_seqs k.sessions x.live)
    ids_on (steps.Opens {k = k} x s given node link table asked way) is ids = changed k ids x.live _ (asked_live asked) (pends_seqs k.sessions x.live)
    ids_on (steps.Goes_on {k = k} x from strength g link opened) is ids =
        let l : Live = (with_edge x (new_edge from link strength)).live in
        changed k ids l _ (x.live, live_so k x.live.me x opened.live) (pends_seqs k.sessions l)
    ids_on (steps.Hears_reply {k = k} x weight count a i e answered) is ids =
        let l : Live = (hears_reply x i weight count e).live in
        let ss : List Session = heard_sessions k.sessions l a in
        changed k ids l _ (x.live, live_so k x.live.me x answered.live) (answered_seqs ss l x.live.parent ∙ heard_seqs k.sessions l a)
    ids_on (steps.Backs {k = k} x step from i calls next) is ids = changed k ids x.live _ (calling_back_live calls) (pends_seqs k.sessions x.live)
    ids_on (steps.Is_back {k = k} x step from calls none) is ids = changed k ids x.live _ (calling_back_live calls) (answered_seqs k.sessions x.live x.live.parent)
    ids_on (steps.Opens_branch {k = k} to parent edge root depth read_at came new) is ids = opened_ids p k parent edge root depth read_at is ids
    ids_on (steps.Acts {k = k} l site_below acts.Rest why) is ids = changed k ids l k.sessions (acting_live why) refl
    ids_on (steps.Acts {k = k} l site_below acts.AskDown why) is ids = changed k ids l k.sessions (acting_live why) refl
    ids_on (steps.Acts {k = k} l site_below acts.SayReady why) is ids = changed k ids (ready l) k.sessions (acting_live why) refl
    ids_on (steps.Acts {k = k} l site_below acts.SayReadOnly why) is ids = dropped k ids l.me k.sessions refl
    ids_on (steps.Acts {k = k} l site_below acts.Seal why) is ids = moved k ids (sealed_record k l None) l.me k.sessions (acting_live why) (λ b. refl) refl
    ids_on (steps.Acts {k = k} l site_below (acts.SealAndPass i) why) is ids = moved k ids (sealed_record k l (Some i)) l.me k.sessions (acting_live why) (λ b. refl) refl
    ids_on (steps.Acts {k = k} l site_below acts.Decide why) is ids = moved k ids (decided_record k l) l.me _ (acting_live why) (λ b. refl) (ended_if_seqs k.sessions (is_alone l) l.me)
    ids_on (steps.Acts {k = k} l site_below acts.Finish why) is ids = dropped k ids l.me _ (ended_seqs k.sessions l.me)
    ids_on (steps.Acts {k = k} l site_below acts.Abandon why) is ids = dropped k ids l.me _ (abandoned_seqs k.sessions l l.parent)
    ids_on (steps.Drops_told {k = k} l live drops) is ids = dropped k ids l.me k.sessions refl
    ids_on (steps.Drops_asked {k = k} l from live came parent) is ids = dropped k ids l.me k.sessions refl
    ids_on (steps.Does {k = k} s from (nexts.End d) kept why) is ids = recorded k ids (records.Ended s.me d) _ (λ b. refl) (decided_seqs k.sessions s.me d)
    ids_on (steps.Does {k = k} s from (nexts.Meet d mixed) kept why) is ids = recorded k ids (records.Met s.me d mixed) _ (λ b. refl) (decided_seqs k.sessions s.me d)
    ids_on (steps.Does {k = k} s from nexts.Forget kept why) is ids = recorded k ids (records.Forgot s.me) _ (λ b. refl) (ended_seqs k.sessions s.me)
    ids_on (steps.Makes_record {k = k} n s r d call makes) is ids =
        made_so (λ x. Ids boot (seqs k.sessions) (length k.opens) (applied k.stored x).durable.kept k.lives)
        (λ t. recorded k ids (records.Table t) k.sessions (λ b. refl) refl) (λ l. recorded k ids (records.Link l) k.sessions (λ b. refl) refl)
        (λ y. recorded k ids (records.Synonym y) k.sessions (λ b. refl) refl) (λ setting. recorded k ids (records.Param setting) k.sessions (λ b. refl) refl) makes
    ids_on (steps.Forces_given {k = k} n id m b call named) is ids = recorded k ids (records.Forced b (decisions.Commit m) true) _ (λ c. refl) (ended_seqs k.sessions b)
    ids_on (steps.Forces_commit {k = k} n id b call named) is ids = recorded k ids (records.Forced b (decisions.Commit (k.clock + 1)) false) _ (λ c. refl) (ended_seqs k.sessions b)
    ids_on (steps.Forces_rollback {k = k} n id b call named) is ids = recorded k ids (records.Forced b decisions.Rollback false) _ (λ c. refl) (ended_seqs k.sessions b)
    ids_on (steps.Hides {k = k} n mixed id s call found) is ids = recorded k ids (records.Hidden s.me) k.sessions (λ b. refl) refl
    ids_on (steps.Advises {k = k} n a call) is ids = still k ids _ (still_seqs k.sessions n (record (session_at k.sessions n) { advice = a }) refl)
    ids_on (steps.Leaves {k = k} n s d x call ends has live) is ids = dropped k ids x.live.me _ (still_seqs k.sessions n (no_transaction (session_at k.sessions n)) refl)
    ids_on (steps.Sets_savepoint {k = k} n x name call has code live) is ids = changed k ids x.live k.sessions (x.live, live_so k x.live.me x live) refl
    ids_on (steps.Images {k = k} is_checkpoint) is ids = recorded k ids (records.Image (image_at k.stored k.clock)) k.sessions (λ b. refl) refl
    ids_on (steps.Gives_up {k = k} n x gives has calls live) is ids =
        changed k ids x.live _ (x.live, live_so k x.live.me x live) (needs_seqs (with_call k.sessions n pending.NoCall) n _ ∙ call_seqs k.sessions n pending.NoCall)
    ids_on (steps.Gives_up_commit {k = k} n b (Some l) gives has calls live) is ids = dropped k ids l.me _ (ended_seqs k.sessions l.me)
    ids_on (steps.Gives_up_commit {k = k} n b None gives has calls gone) is ids = still k ids _ (ended_seqs k.sessions b)
    ids_on _ is ids = ids

-- ---- starts

-- The ids on a disk are of starts so far.
pub record Disk (rs : List RedoRecord) : Type 0 where
  pub boot : BootIs rs
  pub one : (b : BranchId) → rows_of b (stored_by nothing_stored rs).durable.kept ≤ 1
  pub old : (b : BranchId) → 1 ≤ rows_of b (stored_by nothing_stored rs).durable.kept → b.boot ≤ boots rs

-- The ids at a node that is up.
pub record Node (rs : List RedoRecord) (k : NodeState) : Type 0 where
  pub boot : BootIs rs
  pub stored : StoresOf rs k
  pub ids : IdsAt (boots rs) k

-- what a node leaves where it stops
disk_of : (rs : List RedoRecord) (k : NodeState) → Node rs k → Disk rs
disk_of rs k node =
    let rows : (b : BranchId) → rows_of b (stored_by nothing_stored rs).durable.kept ≡ rows_of b k.stored.durable.kept
    = λ b. sym (ap (λ s. rows_of b s.durable.kept) node.stored) ∙ rows_unacked b k.stored.durable.kept in
    record {
      boot = node.boot;
      one = λ b. omega (arith, rows b, node.ids.one b);
      old = λ b some. omega (arith, given_before (node.ids.told b (omega (arith, some, rows b))));
    }

-- what a start makes of a disk: all ids there are of earlier starts
start_of_disk : (rs : List RedoRecord) (boot : ℕ) → Disk rs → boot ≡ boots rs + 1 → Node (rs ++ records.Boot boot ∷ []) (start_of (rs ++ records.Boot boot ∷ []))
unfolding start_of
start_of_disk rs boot disk next =
    let now : stored_by nothing_stored (rs ++ records.Boot boot ∷ []) ≡ applied (stored_by nothing_stored rs) (records.Boot boot) = stored_with rs (Some (records.Boot boot)) in
    let starts : boots (rs ++ records.Boot boot ∷ []) ≡ boots rs + 1 = boots_started rs boot in
    let rows : (b : BranchId) → rows_of b (stored_by nothing_stored (rs ++ records.Boot boot ∷ [])).durable.kept ≤ rows_of b (stored_by nothing_stored rs).durable.kept
    = λ b. let same_rows : rows_of b (stored_by nothing_stored (rs ++ records.Boot boot ∷ [])).durable.kept ≡ rows_of b (applied (stored_by nothing_stored rs) (records.Boot boot)).durable.kept
    = ap (λ s. rows_of b s.durable.kept) now in omega (arith, same_rows, rows_applied b (stored_by nothing_stored rs) (records.Boot boot)) in
    record {
      boot = ap (λ s. s.durable.boot) now ∙ (booted (stored_by nothing_stored rs) boot ∙ (next ∙ sym starts));
      stored = start_stores (rs ++ records.Boot boot ∷ []);
      ids = record { many = refl; one = λ b. omega (arith, rows b, disk.one b); told = λ b some. Before (omega (arith, disk.old b (omega (arith, some, rows b)), starts)) };
    }

step_of_node : (p : Place) (rs : List RedoRecord) (input : Input) (k : NodeState) (d : TurnDraft) → Step p input k d → Node rs k → Node (rs ++ option_to_list d.wrote) d.after
step_of_node p rs input k d step node =
    let is : IfSome d.wrote IsOfTurn = step_of_turn p input step in
    let boot : k.stored.durable.boot ≡ boots rs = ap (λ s. s.durable.boot) node.stored ∙ node.boot in
    record {
      boot = boot_with rs d.wrote is node.boot;
      stored = step_stores_of p rs input k d step node.stored;
      ids = subst (λ n. IdsAt n d.after) (sym (boots_with rs d.wrote is)) (ids_on (boots rs) p input step boot node.ids);
    }

empty_disk : Disk []
unfolding stored_by
empty_disk = record { boot = refl; one = λ b. omega arith; old = λ b some. omega (arith, some) }

pub nodes : Keeps (λ p rs. Disk rs) (λ p rs k. Node rs k)
nodes = record {
  empty = λ p. empty_disk;
  starts = λ p rs boot disk next. start_of_disk rs boot disk next;
  hears = λ p rs k scn node. record { boot = node.boot; stored = node.stored; ids = node.ids };
  steps = λ p rs input k d step node. step_of_node p rs input k d step node;
  rests = λ p rs k node. disk_of rs k node;
}

pub ids_are_fresh : IdsAreFresh
ids_are_fresh t lawful n k up = (node_keeps (λ p rs. Disk rs) (λ p rs k. Node rs k) nodes t lawful n k up).ids.one
