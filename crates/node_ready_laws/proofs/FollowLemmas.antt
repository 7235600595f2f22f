-- The record that a step of a turn writes may follow those before it, and so may that of a turn; and it is sound.
use Rattle.std.proofs.Common.{◌≡◌, ℕ, ◌||◌, ◌≤◌, Bool, true, false, if◌then◌else◌, List, [], ◌∷◌, find, Option, Some, None, refl, ap, subst, ◌∙◌}
use Rattle.std.specs.Prelude.{IfSome, is_some}
use Rattle.std.specs.List.{list_any}
use Rattle.node_rules.specs.Data.{Change, RedoRecord, Done, Stmt, KeptRow, Live, Place, Input}
use Rattle.node_rules.specs.Data.acts
use Rattle.node_rules.specs.Data.records
use Rattle.node_rules.specs.Data.inputs
use Rattle.node_rules.specs.declared.session.PendingCall.TheVariants as pending
use Rattle.commit_forget.specs.declared.next.Next.TheVariants as nexts
use Rattle.row_store.specs.Store.{AreOfTables, has_table}
use Rattle.node_rules.specs.Words.{same_text, put_item}
use Rattle.node_rules.specs.NodeState.{NodeState, Stored, TurnDraft, kept_row_id}
use Rattle.node_rules.specs.Commit.{acked_by}
use Rattle.node_rules.specs.Prepare.{own_changes, sealed_record, decided_record}
use Rattle.node_rules.specs.Sessions.{with_call, session_at}
use Rattle.node_rules.specs.Inputs.{IsCall}
use Rattle.node_rules.specs.Turn.{heard, turn_of}
use Rattle.node_rules.proofs.Steps as steps
use Rattle.node_rules.proofs.Steps.{Step, Makes}
use Rattle.node_rules.proofs.StepLemmas.{IsLive, acting_live}
use Rattle.node_rules.proofs.SessionLemmas.{seqs, call_seqs, counted_seqs}
use Rattle.node_rules.proofs.TurnLemmas.{step_of}
use Rattle.node_rules.specs.Client.{counted}
use Rattle.node_ready_laws.specs.Rows.{IsChangeAt, AreChangesAt, HasRows, BringsWhole}
use Rattle.node_ready_laws.specs.Names.{BringsNamed}
use Rattle.node_ready_laws.specs.Ids.{HasOwnIds}
use Rattle.node_ready_laws.specs.Sound.{IsSound, IsNext, RecordsFollow, with_rows, RowsDoNotMatter}
use Rattle.node_ready_laws.proofs.ListLemmas.{all_weaker}
use Rattle.node_ready_laws.proofs.TableLemmas.{under}
use Rattle.node_ready_laws.proofs.RanLemmas.{own_there}
use Rattle.node_ready_laws.proofs.GivenLemmas.{boot_given}
use Rattle.node_ready_laws.proofs.ApartLemmas.{live_given, live_free}
use Rattle.node_ready_laws.proofs.IdStepLemmas.{still, begun_ids, with_ack, ids_heard}
use Rattle.node_ready_laws.proofs.RowStepLemmas.{back}

or_left : (a b : Bool) → (a || b) ≡ false → a ≡ false
or_left true b is = absurd cc
or_left false b is = refl

-- an item that is found is there
found_there : {A : Type 0} (p : A → Bool) (xs : List A) (y : A) → find p xs ≡ Some y → list_any p xs ≡ true
found_there p [] y found = absurd cc
found_there p (x ∷ xs) y found = by (p x) found (found_there p xs y)
  where
    by : (here : Bool) → (if here then Some x else find p xs) ≡ Some y → (find p xs ≡ Some y → list_any p xs ≡ true) → (here || list_any p xs) ≡ true
    by true is later = refl
    by false is later = later is

module _ (k : NodeState) (now : HasRows k) where
  -- rows stand under the names of the tables
  changes_there : (cs : List Change) → AreChangesAt k.stored.durable.tables cs → AreOfTables k.stored.rows cs
  changes_there cs at =
      all_weaker (IsChangeAt k.stored.durable.tables) (λ c. has_table k.stored.rows c.table ≡ true)
      (λ c is. under k.stored.durable.tables k.stored.rows now.names c.table ∙ found_there (λ t. same_text t.name c.table) k.stored.durable.tables is.0 is.1) cs at

  no_rows : (name : List ℕ) → list_any (λ t. same_text t.name name) k.stored.durable.tables ≡ false → has_table k.stored.rows name ≡ false
  no_rows name free = under k.stored.durable.tables k.stored.rows now.names name ∙ free

  -- a record of the catalog or of a setting
  made_next : {input : Input} {n : ℕ} {s : Stmt} {r : RedoRecord} {d : Done} → BringsWhole input → BringsNamed input → IsCall input n s → Makes k s r d → IsNext k.stored r
  made_next whole named call (steps.Makes_table t free) = (record { listed = free; stored = no_rows t.name (or_left _ _ free) }, subst BringsWhole call whole)
  made_next whole named call (steps.Makes_link l free) = (record { listed = free; stored = tt }, subst BringsNamed call named)
  made_next whole named call (steps.Makes_synonym y free) = (record { listed = free; stored = tt }, subst BringsNamed call named)
  made_next whole named call (steps.Sets_recovery on) = (record { listed = tt; stored = tt }, tt)
  made_next whole named call (steps.Sets_strength strength) = (record { listed = tt; stored = tt }, tt)

  module _ (ids : HasOwnIds k) (l : Live) (live : IsLive k l.me) where
    of_start : l.me.boot ≤ k.stored.durable.boot
    of_start = boot_given (live_given k.stored.durable.boot (seqs k.sessions) _ k.lives k.stored.durable.kept k.stored.doubts ids l.me live.0 live.1)

    -- a branch becomes sealed
    sealed_next : (path : Option ℕ) → IsNext k.stored (sealed_record k l path)
    sealed_next path =
        let free = live_free k.stored.durable.boot (seqs k.sessions) _ k.lives k.stored.durable.kept k.stored.doubts ids l.me live.0 live.1 in
        (record { listed = tt; stored = (changes_there (own_changes k l.me) (own_there k now l.me), ap is_some free.1) }, (own_there k now l.me, of_start))

    -- or decides
    decided_next : IsNext k.stored (decided_record k l)
    decided_next = (record { listed = tt; stored = changes_there (own_changes k l.me) (own_there k now l.me) }, (own_there k now l.me, of_start))

-- ---- records do not hang on the rows of kept branches

sound_still : (s : Stored) (kept : List KeptRow) (r : RedoRecord) → IsSound s r → IsSound (with_rows s kept) r
sound_still s kept (records.Boot n) is = is
sound_still s kept (records.Table t) is = is
sound_still s kept (records.Link l) is = is
sound_still s kept (records.Synonym y) is = is
sound_still s kept (records.Sealed r) is = is
sound_still s kept (records.Decided r) is = is
sound_still s kept _ is = tt

pub rows_do_not_matter : RowsDoNotMatter
rows_do_not_matter s kept r is = (record { listed = is.0.listed; stored = is.0.stored }, sound_still s kept r is.1)

-- before an Ack was noted
unnoted : (s : Stored) (kept : List KeptRow) (w : Option RedoRecord) → IfSome w (IsNext (with_rows s kept)) → IfSome w (IsNext s)
unnoted s kept None is = tt
unnoted s kept (Some r) is = rows_do_not_matter (with_rows s kept) s.durable.kept r is

-- ---- steps

next_on : (p : Place) (input : Input) → BringsWhole input → BringsNamed input → {k : NodeState} {d : TurnDraft} → Step p input k d → HasRows k → HasOwnIds k → IfSome d.wrote (IsNext k.stored)
next_on p input whole named (steps.Begins {k = k} n s read_at call begins fit none step) now ids = next_on p input whole named step now (begun_ids k ids p n read_at fit)
next_on p input whole named (steps.Counts_call {k = k} n s call counts step) now ids = next_on p input whole named step now (still k ids (counted k n).sessions (counted_seqs k.sessions n (session_at k.sessions n).root))
next_on p input whole named (steps.Goes_back {k = k} x step goes next) now ids = next_on p input whole named next (back k now x step) ids
next_on p input whole named (steps.Pends {k = k} n l given call has live code writer step) now ids = next_on p input whole named step now (still k ids (with_call k.sessions n pending.Commit) (call_seqs k.sessions n pending.Commit))
next_on p input whole named (steps.Lets_reads_go l comment site_below live begins step) now ids = next_on p input whole named step now ids
next_on p input whole named (steps.Counts_ack {k = k} {d = d} s from kept came counts step) now ids = unnoted k.stored (put_item kept_row_id k.stored.durable.kept (acked_by s from)) d.wrote (next_on p input whole named step now (with_ack k ids s from kept))
next_on p input whole named (steps.Acts {k = k} l site_below acts.Seal why) now ids = sealed_next k now ids l (acting_live why) None
next_on p input whole named (steps.Acts {k = k} l site_below (acts.SealAndPass i) why) now ids = sealed_next k now ids l (acting_live why) (Some i)
next_on p input whole named (steps.Acts {k = k} l site_below acts.Decide why) now ids = decided_next k now ids l (acting_live why)
next_on p input whole named (steps.Acts l site_below acts.Rest why) now ids = tt
next_on p input whole named (steps.Acts l site_below acts.AskDown why) now ids = tt
next_on p input whole named (steps.Acts l site_below acts.SayReadOnly why) now ids = tt
next_on p input whole named (steps.Acts l site_below acts.SayReady why) now ids = tt
next_on p input whole named (steps.Acts l site_below acts.Finish why) now ids = tt
next_on p input whole named (steps.Acts l site_below acts.Abandon why) now ids = tt
next_on p input whole named (steps.Does s from (nexts.End d) kept why) now ids = (record { listed = tt; stored = tt }, tt)
next_on p input whole named (steps.Does s from (nexts.Meet d mixed) kept why) now ids = (record { listed = tt; stored = tt }, tt)
next_on p input whole named (steps.Does s from nexts.Forget kept why) now ids = (record { listed = tt; stored = tt }, tt)
next_on p input whole named (steps.Does s from nexts.Rest kept why) now ids = tt
next_on p input whole named (steps.Does s from nexts.AckToward kept why) now ids = tt
next_on p input whole named (steps.Does s from nexts.SayForgotten kept why) now ids = tt
next_on p input whole named (steps.Does s from nexts.SayAck kept why) now ids = tt
next_on p input whole named (steps.Makes_record {k = k} n s r d call makes) now ids = made_next k now whole named call makes
next_on p input whole named (steps.Forces_given n id m b call forces) now ids = (record { listed = tt; stored = tt }, tt)
next_on p input whole named (steps.Forces_commit n id b call forces) now ids = (record { listed = tt; stored = tt }, tt)
next_on p input whole named (steps.Forces_rollback n id b call forces) now ids = (record { listed = tt; stored = tt }, tt)
next_on p input whole named (steps.Hides n mixed id s call found) now ids = (record { listed = tt; stored = tt }, tt)
next_on p input whole named (steps.Images checkpoint) now ids = (record { listed = tt; stored = tt }, tt)
next_on p input whole named (steps.Gives_up_commit n b (Some l) gives has calls live) now ids = tt
next_on p input whole named (steps.Gives_up_commit n b None gives has calls live) now ids = tt
next_on p input whole named _ now ids = tt

-- what a node hears changes none of this
heard_next : (k : NodeState) (input : Input) (w : Option RedoRecord) → HasRows k → (HasRows (heard k input) → IfSome w (IsNext (heard k input).stored)) → IfSome w (IsNext k.stored)
heard_next k (inputs.Message m) w now next = next now
heard_next k (inputs.Call n s) w now next = next now
heard_next k (inputs.GiveUp n) w now next = next now
heard_next k inputs.Reco w now next = next now
heard_next k inputs.Checkpoint w now next = next now

pub records_follow : RecordsFollow
unfolding turn_of
records_follow p k input fit whole named now ids = heard_next k input _ now (λ there. next_on p input whole named (step_of p k input fit) there (ids_heard k input ids))
