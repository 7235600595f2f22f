-- The COMMITs of the tried scripts are quiet. What is asked of one is tested, each test once and by computation, and lemmas say
-- what the tests tell.
use Rattle.std.proofs.Common.{◌≡◌, ℕ, ◌==◌, ◌&&◌, not, Bool, true, false, List, [], ◌∷◌, ◌++◌, option_map, Option, Some, None, is_none, refl, sym, ap, subst, ◌∙◌, append-nil}
use Rattle.std.specs.Prelude.{replicate}
use Rattle.std.specs.Option.{option_to_list}
use Rattle.std.specs.List.{AllByRecursion, list_all}
use Rattle.std.proofs.lemmas.Bool.{and_parts, eqb-true}
use Rattle.std.proofs.lemmas.List.{append_assoc}
use Rattle.tran_ids.proofs.BranchLemmas.{equal_from_same}
use Rattle.node_rules.specs.Data.{BranchId, Input, Live, Place, Stmt}
use Rattle.node_rules.specs.Data.inputs
use Rattle.node_rules.specs.Data.stmts
use Rattle.node_rules.specs.NodeState.{NodeState, TurnOutput, live_at}
use Rattle.node_rules.specs.Points.{passes, point_of}
use Rattle.node_rules.specs.Sessions.{session_at}
use Rattle.node_rules.specs.Turn.{turn_of}
use Rattle.node_rules.specs.Words.{same}
use Rattle.net_bag.specs.Net.{lost, first_flying}
use Rattle.run_rules.specs.Births.{births_from}
use Rattle.run_rules.specs.Branches.{is_among}
use Rattle.run_rules.specs.Cuts.{Cut_by, By_nothing, By_strike, By_point, cut_by}
use Rattle.run_rules.specs.Data.{Command, Happening, Packet, Turn}
use Rattle.run_rules.specs.Data.commands
use Rattle.run_rules.specs.Data.happenings
use Rattle.run_rules.specs.Disks.{struck, after_append}
use Rattle.run_rules.specs.Due.{Pends, Ends, due_of, turn_at, happens, comes_next, step_on, runs_on, happened, turn_by}
use Rattle.run_rules.specs.Facts.{Facts, command_at, node_at, place_at}
use Rattle.run_rules.specs.Commands.{commits_first}
use Rattle.run_rules.specs.Lawful.{AreOfAScript, History}
use Rattle.run_rules.specs.Past.{next, past}
use Rattle.run_rules.specs.Reported.{IsBetweenCommands}
use Rattle.run_rules.specs.RunReport.{Past, start}
use Rattle.run_rules.proofs.FactLemmas.{facts_are}
use Rattle.run_branch_laws.specs.TriedRun as tried
use Rattle.run_branch_laws.proofs.RunLemmas.{is_the_run, leaves_what_is_played}
use Rattle.tree_laws.proofs.Trying.{trying}
use Rattle.run_claims.specs.CommitCourse.{past_by, GoesWell, IsUnderWay, Of_commit, Of_create, QuietCommit}
use Rattle.run_claims.specs.Undisturbed.{Commit, LostNone, HasNotStopped, NoneComesIn, is_lost, is_disturbed, facts_by, branches_by}
use Rattle.commit_length_laws.proofs.FewLemmas.{deliveries_stay_below}
use Rattle.commit_course_laws.specs.TriedCourse.{script}
use Rattle.commit_course_laws.specs.TriedQuiet.{made, creating, HasQuietCommit, QuietCommitsExist}
use Rattle.commit_course_laws.proofs.CompleteLemmas.{every_undisturbed_commit_is_complete}
use Rattle.commit_course_laws.proofs.QuietLemmas.{quiet_commits_follow}
use Rattle.commit_course_laws.proofs.TriedScriptLemmas.{commit_is_asked, create_is_asked}

-- ---- tests, and what they tell

not_true : (q : Bool) → not q ≡ true → q ≡ false
not_true true is = absurd cc
not_true false is = refl

all_so : {A : Type 0} (p : A → Bool) (P : A → Type 0) → ((x : A) → p x ≡ true → P x) → (xs : List A) → list_all p xs ≡ true → AllByRecursion P xs
all_so p P so [] all = tt
all_so p P so (x ∷ xs) all = (let parts = and_parts (p x) (list_all p xs) all in (so x parts.0, all_so p P so xs parts.1))

-- whether a happening goes well
abbrev goes_well : Happening → Bool
goes_well (happenings.Turn u) = not u.cut
goes_well (happenings.Cut a b) = true
goes_well (happenings.Join a b) = true
goes_well (happenings.Started n boot) = true
goes_well _ = false

well_so : (h : Happening) → goes_well h ≡ true → GoesWell h
well_so (happenings.Turn u) is = not_true u.cut is
well_so (happenings.Begun c) is = cc
well_so (happenings.Cut a b) is = tt
well_so (happenings.Join a b) is = tt
well_so (happenings.Lost k) is = cc
well_so (happenings.Stopped n) is = cc
well_so (happenings.Started n boot) is = tt

abbrev is_this : BranchId → Option BranchId → Bool
is_this b None = false
is_this b (Some x) = same x b

this_so : (b : BranchId) (o : Option BranchId) → is_this b o ≡ true → o ≡ Some b
this_so b None is = absurd cc
this_so b (Some x) is = ap Some (equal_from_same x b is)

-- whether a branch is live, and not of a READ ONLY transaction
abbrev is_writer : Option Live → Bool
is_writer None = false
is_writer (Some l) = is_none l.read_at

-- whether a branch is the root of session 1, and goes on
abbrev has_root : BranchId → Option NodeState → Bool
has_root b None = false
has_root b (Some k) = is_this b (session_at k.sessions 1).root && (is_writer (live_at k b) && is_none (session_at k.sessions 1).code)

-- What a node keeps of it.
record HasRoot (b : BranchId) (o : Option NodeState) : Type 0 where
  kept : NodeState
  up : o ≡ Some kept
  of : (session_at kept.sessions 1).root ≡ Some b
  live : Live
  there : live_at kept b ≡ Some live
  writer : live.read_at ≡ None
  goes_on : (session_at kept.sessions 1).code ≡ None

none_of : {A : Type 0} (o : Option A) → is_none o ≡ true → o ≡ None
none_of (Some x) is = absurd cc
none_of None is = refl

writer_of : (o : Option Live) → is_writer o ≡ true → (l : Live) × (o ≡ Some l) × (l.read_at ≡ None)
writer_of (Some l) is = (l, refl, none_of l.read_at is)
writer_of None is = absurd cc

root_so : (b : BranchId) (o : Option NodeState) → has_root b o ≡ true → HasRoot b o
root_so b None is = absurd cc
root_so b (Some k) is =
    let parts = and_parts (is_this b (session_at k.sessions 1).root) (is_writer (live_at k b) && is_none (session_at k.sessions 1).code) is in
    let others = and_parts (is_writer (live_at k b)) (is_none (session_at k.sessions 1).code) parts.1 in
    let live = writer_of (live_at k b) others.0 in
    record { kept = k; up = refl; of = this_so b (session_at k.sessions 1).root parts.0; live = live.0; there = live.1; writer = live.2; goes_on = none_of (session_at k.sessions 1).code others.1 }

-- whether what comes next is a turn that is whole
abbrev is_whole : Option Happening → Bool
is_whole (Some h) = goes_well h
is_whole None = false

-- A call of session 1 at node 1 comes in a whole turn.
record IsCalled (o : Option Happening) : Type 0 where
  turn : Turn
  comes : o ≡ Some (happenings.Turn turn)
  here : turn.node ≡ 1
  asks : turn.input ≡ inputs.Call 1 (Some (stmts.Commit None))
  whole : turn.cut ≡ false

-- whether a branch's node is up, and has not stopped since the branch began
abbrev same_boot : Option ℕ → ℕ → Bool
same_boot None boot = false
same_boot (Some m) boot = m == boot

abbrev stays_up : Facts → BranchId → Bool
stays_up f b = same_boot (option_map (λ (k : NodeState). k.stored.durable.boot) (node_at f b.node)) b.boot

boot_so : (o : Option ℕ) (boot : ℕ) → same_boot o boot ≡ true → o ≡ Some boot
boot_so None boot is = absurd cc
boot_so (Some m) boot is = ap Some (eqb-true m boot is)

-- whether no rollback and no question comes to these branches
abbrev none_comes : List BranchId → Happening → Bool
none_comes bs (happenings.Turn u) = not (is_disturbed bs u.input)
none_comes bs _ = true

calm_so : (bs : List BranchId) (h : Happening) → none_comes bs h ≡ true → NoneComesIn bs h
calm_so bs (happenings.Turn u) is = not_true (is_disturbed bs u.input) is
calm_so bs (happenings.Begun c) is = tt
calm_so bs (happenings.Cut a b) is = tt
calm_so bs (happenings.Join a b) is = tt
calm_so bs (happenings.Lost k) is = tt
calm_so bs (happenings.Stopped n) is = tt
calm_so bs (happenings.Started n boot) is = tt

-- whether no message of these branches was lost
abbrev lost_none : List BranchId → Packet → Bool
lost_none bs x = not (is_among x.msg.from bs && is_lost x.fate)

-- whether nothing has disturbed these branches
abbrev stays_calm : Facts → List Happening → List BranchId → Bool
stays_calm f hs bs = list_all (lost_none bs) f.net.packets && (list_all (stays_up f) bs && list_all (none_comes bs) hs)

-- ---- the run up to a moment, and from there

module _ (places : List Place) (asked : List Command) where
  happened_join : (xs ys : List ℕ) (p : Past) → happened places asked (xs ++ ys) p ≡ happened places asked xs p ++ happened places asked ys (runs_on places asked xs p)
  unfolding happened runs_on
  happened_join [] ys p = refl
  happened_join (x ∷ xs) ys p =
      ap (λ hs. option_to_list (comes_next places asked p) ++ hs) (happened_join xs ys (step_on places asked p))
      ∙ sym (append_assoc (option_to_list (comes_next places asked p)) (happened places asked xs (step_on places asked p)) (happened places asked ys (runs_on places asked xs (step_on places asked p))))

-- so many happenings are called for: those before the call of the COMMIT, the call, and those after it
abbrev until : ℕ → List ℕ
until n = replicate 15 0 ++ 0 ∷ replicate n 0

-- its call
abbrev its_call : Input
its_call = inputs.Call 1 (Some (stmts.Commit None))

-- The tests of a script whose sixth command commits the transaction, where another call may follow the COMMIT.
module _ (asked : List Command) where
  -- the run so far
  abbrev run_for : List ℕ → List Happening
  run_for xs = happened tried.places asked xs (start tried.places)

  abbrev past_after : List ℕ → Past
  past_after xs = runs_on tried.places asked xs (start tried.places)

  -- before the call
  abbrev before : Past
  before = past_after (replicate 15 0)

  -- what happens after the call
  abbrev during : ℕ → List Happening
  during n = happened tried.places asked (replicate n 0) (step_on tried.places asked before)

  record Passes (follows : Option Stmt) (n : ℕ) : Type 0 where
    due : due_of asked before ≡ Pends (record { command = 6; node = 1; session = 1; statement = Some (stmts.Commit None); follows = follows })
    command : before.facts.command ≡ 6
    off : before.run_report.hold ≡ false
    still : first_flying before.facts.net ≡ None
    root : has_root tried.a (node_at before.facts 1) ≡ true
    whole : is_whole (comes_next tried.places asked before) ≡ true
    well : list_all goes_well (during n) ≡ true
    done : due_of asked (past_after (until n)) ≡ Ends
    calm : stays_calm (past_after (until n)).facts (run_for (until n)) (branches_by tried.places asked (run_for (until n)) tried.a) ≡ true

-- ---- what passes them has a quiet COMMIT

-- the turn of a call that is due
called_so : (p : Past) (o : Option NodeState) → is_whole (turn_at tried.places p.run_report 1 its_call None o) ≡ true → IsCalled (turn_at tried.places p.run_report 1 its_call None o)
called_so p None whole = absurd cc
called_so p (Some k) whole = by (turn_of (place_at tried.places 1) k its_call) (cut_by p.run_report 1 k its_call (turn_of (place_at tried.places 1) k its_call)) whole
  where
    by : (o : TurnOutput) (c : Cut_by) → is_whole (Some (turn_by 1 its_call None o c)) ≡ true → IsCalled (Some (turn_by 1 its_call None o c))
    by o By_nothing is = record { turn = record { node = 1; input = its_call; took = None; wrote = o.wrote; sent = o.sent; cut = false }; comes = refl; here = refl; asks = refl; whole = refl }
    by o (By_strike stands) is = absurd cc
    by o (By_point root numbers stands) is = absurd cc

module _ (asked : List Command) (of : AreOfAScript tried.places asked) (follows : Option Stmt) (n : ℕ) (passes_all : Passes asked follows n) where
  open passes_all use {due, command, off, still, root, whole, well, done, calm as undisturbed}

  abbrev t : History
  t = record { places = tried.places; commands = asked; of_a_script = of; trace = run_for asked (until n) }

  past_is : (xs : List ℕ) → past tried.places asked (start tried.places) (run_for asked xs) ≡ past_after asked xs
  past_is xs = leaves_what_is_played tried.places asked xs (start tried.places)

  facts_is : (xs : List ℕ) → facts_by tried.places asked (run_for asked xs) ≡ (past_after asked xs).facts
  facts_is xs = sym (facts_are tried.places asked (start tried.places) (run_for asked xs)) ∙ ap (λ (p : Past). p.facts) (past_is xs)

  called : IsCalled (comes_next tried.places asked (before asked))
  called =
      let is : comes_next tried.places asked (before asked) ≡ turn_at tried.places (before asked).run_report 1 its_call None (node_at (before asked).facts 1) = ap (happens tried.places (before asked)) due in
      subst IsCalled (sym is) (called_so (before asked) (node_at (before asked).facts 1) (ap is_whole (sym is) ∙ whole))

  rooted : HasRoot tried.a (node_at (before asked).facts 1)
  rooted = root_so tried.a (node_at (before asked).facts 1) root

  run_is : run_for asked (replicate 15 0) ++ happenings.Turn called.turn ∷ during asked n ≡ t.trace
  unfolding happened
  run_is = sym (happened_join tried.places asked (replicate 15 0) (0 ∷ replicate n 0) (start tried.places) ∙ ap (λ o. run_for asked (replicate 15 0) ++ (option_to_list o ++ during asked n)) called.comes)

  abbrev commit : Commit tried.places asked t.trace
  commit = record {
    before = run_for asked (replicate 15 0);
    call = called.turn;
    during = during asked n;
    is = run_is;
    session = 1;
    comment = None;
    asks = called.asks;
    kept = rooted.kept;
    up = ap (node_at (facts_by tried.places asked (run_for asked (replicate 15 0)))) called.here ∙ (ap (λ (f : Facts). node_at f 1) (facts_is (replicate 15 0)) ∙ rooted.up);
    root = tried.a;
    of = rooted.of;
    live = rooted.live;
    there = rooted.there;
    writer = rooted.writer;
  }

  own : (s : Stmt) → command_at asked 6 ≡ commands.At 1 1 (Some s) → command_at asked (facts_by tried.places asked commit.before).command ≡ commands.At commit.call.node 1 (Some s)
  own s is = ap (λ (f : Facts). command_at asked f.command) (facts_is (replicate 15 0)) ∙ (ap (command_at asked) command ∙ (is ∙ ap (λ m. commands.At m 1 (Some s)) (sym called.here)))

  hold_is : (past_by tried.places asked commit.before).run_report.hold ≡ false
  hold_is = ap (λ (p : Past). p.run_report.hold) (past_is (replicate 15 0)) ∙ off

  goes_so : AllByRecursion GoesWell commit.during
  goes_so = all_so goes_well GoesWell well_so commit.during well

  commit_goes : command_at asked 6 ≡ commands.At 1 1 (Some (stmts.Commit None)) → IsUnderWay t t.trace [] commit
  commit_goes is = Of_commit (record { within = append-nil t.trace; own = own (stmts.Commit None) is; off = hold_is; whole = called.whole; well = goes_so })

  create_goes : (s : Stmt) → commits_first s ≡ true → command_at asked 6 ≡ commands.At 1 1 (Some s) → IsUnderWay t t.trace [] commit
  create_goes s creates is = Of_create s (record { within = append-nil t.trace; creates = creates; own = own s is; off = hold_is; whole = called.whole; well = goes_so })

  abbrev branches : List BranchId
  branches = branches_by tried.places asked t.trace tried.a

  abbrev end : Facts
  end = (past_after asked (until n)).facts

  quiet_so : IsUnderWay t t.trace [] commit → QuietCommit t t.trace [] commit
  quiet_so goes =
      let parts = and_parts (list_all (lost_none branches) end.net.packets) (list_all (stays_up end) branches && list_all (none_comes branches) t.trace) undisturbed in
      let others = and_parts (list_all (stays_up end) branches) (list_all (none_comes branches) t.trace) parts.1 in
      record {
        goes = goes;
        done = subst (λ p. IsBetweenCommands (due_of asked p)) (sym (past_is (until n))) (subst IsBetweenCommands (sym done) tt);
        goes_on = rooted.goes_on;
        still = ap (λ (f : Facts). first_flying f.net) (facts_is (replicate 15 0)) ∙ still;
        lost = subst (λ (f : Facts). LostNone branches f.net.packets) (sym (facts_is (until n)))
            (all_so (lost_none branches) (λ (x : Packet). (is_among x.msg.from branches && is_lost x.fate) ≡ false) (λ x is. not_true (is_among x.msg.from branches && is_lost x.fate) is) end.net.packets parts.0);
        stopped = subst (λ (f : Facts). AllByRecursion (HasNotStopped f) branches) (sym (facts_is (until n))) (all_so (stays_up end) (HasNotStopped end) (λ b is. boot_so _ b.boot is) branches others.0);
        calm = all_so (none_comes branches) (NoneComesIn branches) (calm_so branches) t.trace others.1;
      }

  has_quiet : IsUnderWay t t.trace [] commit → HasQuietCommit asked
  has_quiet goes =
      let run = is_the_run tried.places asked (until n) (start tried.places) in
      let quiet = quiet_so goes in
      record { history = t; asks = refl; run = run; commit = commit; root = refl; quiet = quiet; done = quiet_commits_follow every_undisturbed_commit_is_complete deliveries_stay_below t run t.trace [] commit quiet }

-- ---- the tried scripts

commit_passes : Passes script None 5
unfolding trying passes point_of lost struck after_append cut_by next due_of runs_on happened births_from
commit_passes = record { due = refl; command = refl; off = refl; still = refl; root = refl; whole = refl; well = refl; done = refl; calm = refl }

create_passes : Passes creating (Some made) 6
unfolding trying passes point_of lost struck after_append cut_by next due_of runs_on happened births_from
create_passes = record { due = refl; command = refl; off = refl; still = refl; root = refl; whole = refl; well = refl; done = refl; calm = refl }

pub quiet_commits_exist : QuietCommitsExist
quiet_commits_exist = record {
  commits = has_quiet script commit_is_asked None 5 commit_passes (commit_goes script commit_is_asked None 5 commit_passes refl);
  creates = has_quiet creating create_is_asked (Some made) 6 create_passes (create_goes creating create_is_asked (Some made) 6 create_passes made refl refl);
}
