-- A node of a test can take what comes, and can take turns after it.
use Rattle.std.proofs.Common.{◌≡◌, ℕ, ◌+◌, ◌-◌, ◌^◌, ◌<◌, ◌≤◌, Bool, true, List, [], ◌∷◌, length, max, option_map, Option, Some, None, refl, sym, ap, subst, ◌∙◌, arith}
use Rattle.std.specs.Prelude.{IfSome}
use Rattle.std.specs.List.{AllByRecursion, list_all}
use Rattle.std.proofs.lemmas.Bool.{and_parts}
use Rattle.block_disk.specs.MemDisk.{DiskState}
use Rattle.node_spell_laws.specs.Bytes.{HasBytes, BringsBytes, AsksChild, KeepsBytes, TurnsKeepBytes}
use Rattle.node_spell_laws.specs.Written.{RecordsHaveBytes}
use Rattle.msg_codec.specs.Message.{message_of}
use Rattle.node_core.specs.Able.{IsAble, BringsScns, EndsWork, BringsCommit, MayTake, given_limit}
use Rattle.node_disk.specs.Effects.{Tells}
use Rattle.node_disk.specs.Incoming.{IsReadAs}
use Rattle.node_disk.specs.OnDisk.{disk_of, kept_of, place_of, turn_at, IsRunning, IsSpellable}
use Rattle.node_disk.specs.Starts.{CanBeStarted}
use Rattle.node_disk.specs.declared.effects.DurableTurn.{DurableTurn}
use Rattle.node_disk.specs.declared.incoming.Incoming.{Incoming}
use Rattle.node_disk.specs.declared.incoming.Incoming.TheVariants as comings
use Rattle.node_disk.specs.declared.node.Node.{Node}
use Rattle.node_disk.proofs.NeedLemmas.{all_mailed, room_of}
use Rattle.lone_node.specs.Played.{low_limit, IsPlayed, is_prepare, IsCalled, IsComing, is_commit, commits, is_working_phase, works, has_parent, IsWorking, HasParent, MeetsLives, undo_extents, bytes_of, images_of, IsKeptWithin, IsAlone}
use Rattle.node_rules.specs.Data.{Stmt, BranchId, Phase, Live, Msg, Place, Input}
use Rattle.node_rules.specs.Data.inputs
use Rattle.node_rules.specs.Data.phases
use Rattle.node_rules.specs.Data.stmts
use Rattle.node_rules.specs.declared.session.Session.{Session}
use Rattle.node_rules.specs.declared.work.Work.{Work}
use Rattle.node_rules.specs.Client.{root_by}
use Rattle.node_rules.specs.Inputs.{IsSession}
use Rattle.node_rules.specs.NodeState.{NodeState, TurnOutput, live_id, live_at, with_work}
use Rattle.node_rules.specs.Sessions.{session_at}
use Rattle.node_rules.specs.Turn.{kind_scn, turn_of}
use Rattle.node_ready_laws.specs.Names.{MakesNamed}
use Rattle.node_ready_laws.specs.Ready.{IsReady, IsExpected, BringsWithin, NumbersStayWithin}
use Rattle.node_ready_laws.specs.Rows.{MakesWhole}
use Rattle.node_undo_laws.specs.Kept.{HasUndo}
use Rattle.node_ready_laws.proofs.ListLemmas.{all_found, all_weaker}
use Rattle.sql_statement.specs.Whole.{IsWhole}
use Rattle.tran_ids.specs.Listed.{is_item_of}

-- ---- what comes, as the node reads it

-- whether this is Prepare, where it is a message
abbrev IsAskedBy : Bool → Input → Type 0
IsAskedBy asks (inputs.Message m) = asks ≡ is_prepare m.kind
IsAskedBy asks _ = Unit {0}

record IsPlayedInput (asks : Bool) (input : Input) : Type 0 where
  expected : IsExpected input
  bytes : BringsBytes input
  within : BringsWithin low_limit input
  asked : IsAskedBy asks input

makes_whole : (s : Stmt) → IsWhole s → MakesWhole s
makes_whole (stmts.CreateTable t) whole = whole
makes_whole _ whole = tt

makes_named : (s : Stmt) → IsWhole s → MakesNamed s
makes_named (stmts.CreateLink l) whole = whole
makes_named (stmts.CreateSynonym y) whole = whole
makes_named _ whole = tt

call_input : (asks : Bool) (session : ℕ) (o : Option Stmt) → IsSession session → IfSome o IsCalled → IsPlayedInput asks (inputs.Call session o)
call_input asks session None fit called = record { expected = record { fit = fit; whole = tt; named = tt; few = tt }; bytes = tt; within = tt; asked = tt }
call_input asks session (Some s) fit called = record {
  expected = record { fit = fit; whole = makes_whole s called.whole; named = makes_named s called.whole; few = tt };
  bytes = called.printable;
  within = tt;
  asked = tt;
}

at_most_max : (a b n : ℕ) → a ≤ n → b ≤ n → max a b ≤ n
at_most_max a b n first second = omega (arith, first, second)

message_input : (asks : Bool) (m : Msg) → IsPlayed m → asks ≡ is_prepare m.kind → IsPlayedInput asks (inputs.Message m)
message_input asks m played asked = record {
  expected = record { fit = tt; whole = tt; named = tt; few = played.kind.few };
  bytes = played.kind.bytes;
  within = at_most_max m.scn (kind_scn m.kind) low_limit played.scn played.kind.scn;
  asked = asked;
}

same_input : (i j : Input) → Some i ≡ Some j → i ≡ j
same_input i j same = cc

input_of : (asks : Bool) (incoming : Incoming) (input : Input) → IsComing asks incoming → IsReadAs incoming input → IsPlayedInput asks input
input_of asks (comings.Call session o) input coming read = subst (λ (i : Input). IsPlayedInput asks i) (same_input _ input read) (call_input asks session o coming.0 coming.1)
input_of asks (comings.GiveUp session) input coming read =
    subst (λ (i : Input). IsPlayedInput asks i) (same_input _ input read)
    (record { expected = record { fit = tt; whole = tt; named = tt; few = tt }; bytes = tt; within = tt; asked = tt })
input_of asks (comings.Message bytes) input coming read =
    subst (λ (i : Input). IsPlayedInput asks i) (same_input _ input (sym (ap (λ (o : Option Msg). option_map inputs.Message o) coming.1) ∙ read)) (message_input asks coming.0 coming.2 coming.3)
input_of asks comings.Reco input coming read =
    subst (λ (i : Input). IsPlayedInput asks i) (same_input _ input read)
    (record { expected = record { fit = tt; whole = tt; named = tt; few = tt }; bytes = tt; within = tt; asked = tt })

pub reads : (asks : Bool) (incoming : Incoming) → IsComing asks incoming → (input : Input) × IsReadAs incoming input
reads asks (comings.Call session o) coming = (inputs.Call session o, refl)
reads asks (comings.GiveUp session) coming = (inputs.GiveUp session, refl)
reads asks (comings.Message bytes) coming = (inputs.Message coming.0, ap (λ (o : Option Msg). option_map inputs.Message o) coming.1)
reads asks comings.Reco coming = (inputs.Reco, refl)

-- ---- what it meets

live_works : (k : NodeState) (o : Option Live) → ((l : Live) → o ≡ Some l → IsWorking l) → IfSome (with_work k o) (λ x. IsWorking x.live)
live_works k None each = tt
live_works k (Some l) each = each l refl

root_works : (k : NodeState) (o : Option BranchId) → AllByRecursion IsWorking k.lives → IfSome (root_by k o) (λ x. IsWorking x.live)
root_works k None all = tt
root_works k (Some b) all = live_works k (live_at k b) (λ l found. all_found IsWorking (is_item_of live_id b) k.lives l all found)

ends_work : (k : NodeState) (n : ℕ) (s : Stmt) → (is_commit s ≡ true → AllByRecursion IsWorking k.lives) → EndsWork k n s
ends_work k n (stmts.Commit comment) all = root_works k (session_at k.sessions n).root (all refl)
ends_work k n _ all = tt

brings_commit : (k : NodeState) (incoming : Incoming) (input : Input) → (commits incoming ≡ true → AllByRecursion IsWorking k.lives) → IsReadAs incoming input → BringsCommit k input
brings_commit k (comings.Call n None) input all read = subst (λ (i : Input). BringsCommit k i) (same_input _ input read) tt
brings_commit k (comings.Call n (Some s)) input all read = subst (λ (i : Input). BringsCommit k i) (same_input _ input read) (ends_work k n s all)
brings_commit k (comings.GiveUp n) input all read = subst (λ (i : Input). BringsCommit k i) (same_input _ input read) tt
brings_commit k (comings.Message bytes) input all read = by (message_of bytes) read
  where
    by : (o : Option Msg) → option_map inputs.Message o ≡ Some input → BringsCommit k input
    by None is = absurd cc
    by (Some m) is = subst (λ (i : Input). BringsCommit k i) (same_input _ input is) tt
brings_commit k comings.Reco input all read = subst (λ (i : Input). BringsCommit k i) (same_input _ input read) tt

asks_child : (k : NodeState) (asks : Bool) (input : Input) → (asks ≡ true → AllByRecursion HasParent k.lives) → IsAskedBy asks input → AsksChild k input
asks_child k asks input all asked from to site_below comment l came found =
    all_found HasParent (is_item_of live_id to) k.lives l (all (subst (λ (i : Input). IsAskedBy asks i) came.is asked)) found

-- ---- numbers

brings_scns : (input : Input) → BringsWithin low_limit input → BringsScns input
brings_scns (inputs.Message m) within = omega (arith, within)
brings_scns (inputs.Call session statement) within = tt
brings_scns (inputs.GiveUp session) within = tt
brings_scns inputs.Reco within = tt
brings_scns inputs.Checkpoint within = tt

brings_more : (n m : ℕ) (input : Input) → n ≤ m → BringsWithin n input → BringsWithin m input
brings_more n m (inputs.Message x) more within = omega (arith, more, within)
brings_more n m (inputs.Call session statement) more within = tt
brings_more n m (inputs.GiveUp session) more within = tt
brings_more n m inputs.Reco more within = tt
brings_more n m inputs.Checkpoint more within = tt

within_given : (n bound : ℕ) → bound < 1000000 → n ≤ bound → n ≤ given_limit
within_given n bound few within = omega (arith, few, within)

-- ---- turns

module _ (bound : ℕ) (p : Place) (k : NodeState) (asks : Bool) (incoming : Incoming) (input : Input) (kept : IsKeptWithin bound p k) (few : bound < 1000000) (coming : IsComing asks incoming)
    (meets : MeetsLives asks incoming k.lives) (read : IsReadAs incoming input) where
  is : IsPlayedInput asks input
  is = input_of asks incoming input coming read

  clock_low : k.clock < 2 ^ 48 - 1
  clock_low = let within = kept.within.clock in omega (arith, few, within)

  opens_low : length k.opens ≤ given_limit
  opens_low = within_given (length k.opens) bound few kept.within.opens

  able : IsAble p k
  able = record {
    ready = kept.ready;
    undo = kept.undo;
    nodes = kept.nodes;
    links = kept.links;
    opens = opens_low;
    seqs = all_weaker (λ (s : Session). s.seq ≤ bound) (λ (s : Session). s.seq ≤ given_limit) (λ s at. within_given s.seq bound few at) k.sessions kept.within.seqs;
    calls = all_weaker (λ (w : Work). AllByRecursion (λ c. c ≤ bound) w.calls) (λ (w : Work). AllByRecursion (λ c. c ≤ given_limit) w.calls)
        (λ w each. all_weaker (λ (c : ℕ). c ≤ bound) (λ (c : ℕ). c ≤ given_limit) (λ c at. within_given c bound few at) w.calls each) k.works kept.within.calls;
    clock = clock_low;
  }

  child : AsksChild k input
  child = asks_child k asks input meets.prepare is.asked

  can_take : MayTake p k input
  can_take = record { able = able; expected = is.expected; scns = brings_scns input is.within; commit = brings_commit k incoming input meets.commit read }

  module _ (bytes_law : TurnsKeepBytes) where
    says : KeepsBytes (turn_of p k input).after × AllByRecursion (λ (m : Msg). HasBytes m.kind) (turn_of p k input).sent
    says = bytes_law p k input is.expected.fit is.bytes child kept.ready.rows kept.bytes

    has_spelling : RecordsHaveBytes → IsSpellable (turn_of p k input)
    has_spelling records_law = record {
      wrote = records_law p k input kept.ready is.expected kept.links (room_of k input clock_low (brings_scns input is.within)) is.bytes child kept.bytes;
      sent = all_mailed (turn_of p k input).sent says.1;
    }

    kept_after : NumbersStayWithin → IsReady p (turn_of p k input).after → HasUndo p (turn_of p k input).after → IsKeptWithin (bound + 1) p (turn_of p k input).after
    kept_after numbers_law ready undo = record {
      ready = ready;
      undo = undo;
      bytes = says.0;
      within = numbers_law p k input bound is.expected.fit (brings_more low_limit bound input kept.low is.within) kept.within;
      low = let low = kept.low in omega (arith, low);
      nodes = kept.nodes;
      links = kept.links;
      extents = kept.extents;
    }

-- ---- tests of live branches

is_working : (q : Phase) → is_working_phase q ≡ true → q ≡ phases.Working
is_working phases.Working is = refl
is_working (phases.Collecting site_below) is = absurd cc
is_working phases.Ready is = absurd cc

-- ---- of a node

pub takes : (bound : ℕ) (asks : Bool) (node : Node DiskState) (incoming : Incoming) → IsAlone bound node → bound < 1000000 → IsComing asks incoming → MeetsLives asks incoming (kept_of node).lives
    → (input : Input) → IsReadAs incoming input → MayTake (place_of node) (kept_of node) input
takes bound asks node incoming alone few coming meets input read = can_take bound (place_of node) (kept_of node) asks incoming input alone.kept few coming meets read

pub spellable : TurnsKeepBytes → RecordsHaveBytes → (bound : ℕ) (asks : Bool) (node : Node DiskState) (incoming : Incoming) → IsAlone bound node → bound < 1000000 → IsComing asks incoming
    → MeetsLives asks incoming (kept_of node).lives → (input : Input) → IsReadAs incoming input → IsSpellable (turn_at node input)
spellable bytes_law records_law bound asks node incoming alone few coming meets input read =
    has_spelling bound (place_of node) (kept_of node) asks incoming input alone.kept few coming meets read bytes_law records_law

-- a node can start from its disk with the undo extents of all tests
pub startable_so : (bound : ℕ) (node : Node DiskState) (disk : DiskState) → IsAlone bound node → CanBeStarted (place_of node).undo bytes_of images_of disk → CanBeStarted undo_extents bytes_of images_of disk
startable_so bound node disk alone starts = subst (λ (n : ℕ). CanBeStarted n bytes_of images_of disk) alone.kept.extents starts

pub still_alone : TurnsKeepBytes → NumbersStayWithin → (bound : ℕ) (asks : Bool) (before after : Node DiskState) (incoming : Incoming) (e : DurableTurn) → IsAlone bound before → bound < 1000000
    → IsComing asks incoming → MeetsLives asks incoming (kept_of before).lives → IsReadAs incoming e.input → Tells (turn_at before e.input) (kept_of after) e → IsRunning bytes_of images_of after
    → IsReady (place_of after) (kept_of after) → HasUndo (place_of after) (kept_of after) → place_of after ≡ place_of before → CanBeStarted undo_extents bytes_of images_of (disk_of after) → IsAlone (bound + 1) after
still_alone bytes_law numbers_law bound asks before after incoming e alone few coming meets read tells running ready undo place starts =
    let p : Place = place_of before in
    let o : TurnOutput = turn_of p (kept_of before) e.input in
    let here : IsReady p (kept_of after) = subst (λ (q : Place). IsReady q (kept_of after)) place ready in
    let kept : IsKeptWithin (bound + 1) p o.after = kept_after bound p (kept_of before) asks incoming e.input alone.kept few coming meets read bytes_law numbers_law
    (subst (λ (k : NodeState). IsReady p k) tells.after here) (subst (λ (k : NodeState). HasUndo p k) tells.after (subst (λ (q : Place). HasUndo q (kept_of after)) place undo)) in
    record {
      running = running;
      kept = subst (λ (q : Place). IsKeptWithin (bound + 1) q (kept_of after)) (sym place) (subst (λ (k : NodeState). IsKeptWithin (bound + 1) p k) (sym tells.after) kept);
      starts = starts;
    }

-- ---- what a test finds

pub all_work : (ls : List Live) → list_all works ls ≡ true → AllByRecursion IsWorking ls
all_work [] all = tt
all_work (l ∷ ls) all = let parts = and_parts (works l) (list_all works ls) all in (is_working l.phase parts.0, all_work ls parts.1)

pub all_have_parents : (ls : List Live) → list_all has_parent ls ≡ true → AllByRecursion HasParent ls
all_have_parents [] all = tt
all_have_parents (l ∷ ls) all = let parts = and_parts (has_parent l) (list_all has_parent ls) all in (parts.0, all_have_parents ls parts.1)
