-- A READ ONLY transaction reads at an SCN that the clocks of the nodes of its live branches have reached: its root begins with the
-- node's clock, and an Open comes with a clock that its sender had reached.
use Rattle.std.proofs.Common.{◌≡◌, ℕ, ◌+◌, ◌≤◌, List, [], ◌∷◌, ◌++◌, map, length, IfSome, Option, Some, None, refl, sym, subst, arith}
use Rattle.std.specs.List.{AllByRecursion}
use Rattle.node_rules.specs.Data.{Answer, BranchId, Stmt, Kind, Msg, Live, Place, Post, Input, RedoRecord}
use Rattle.node_rules.specs.Data.acts
use Rattle.node_rules.specs.Data.inputs
use Rattle.node_rules.specs.Data.kinds
use Rattle.node_rules.specs.declared.session.Session.{Session}
use Rattle.node_rules.specs.declared.work.Errand.{Errand}
use Rattle.node_rules.specs.declared.work.Errand.TheVariants as errands
use Rattle.commit_forget.specs.declared.next.Next.TheVariants as nexts
use Rattle.session_tree.specs.Live.{children_of, peer_of, new_edge}
use Rattle.session_tree.specs.Tree.{step as step_from}
use Rattle.node_rules.specs.Inputs.{Came}
use Rattle.node_rules.specs.Names.{passed_on}
use Rattle.node_rules.specs.NodeState.{NodeState, Branch, TurnDraft, live_id}
use Rattle.node_rules.specs.Calls.{answer_says, exec_to, with_edge, hears_reply, branch_ran, less_room}
use Rattle.node_rules.specs.Commit.{beyond}
use Rattle.node_rules.specs.Prepare.{path_of, site_neighbors}
use Rattle.node_rules.specs.Statement.{ran}
use Rattle.node_rules.specs.Turn.{turn_of, start_of, made, heard, draft_of, stamped}
use Rattle.node_rules.proofs.StandLemmas.{live_so}
use Rattle.node_rules.proofs.Steps as steps
use Rattle.node_rules.proofs.Steps.{Step, Says, Asked, BeginsBy}
use Rattle.run_rules.specs.Data.{Took, Turn, Happening}
use Rattle.run_rules.specs.Data.happenings
use Rattle.run_rules.specs.Facts.{Facts, first_facts, place_at, node_at, facts_after, facts_of}
use Rattle.run_rules.specs.Lawful.{Comes, MayHappen, MayTurn, History, IsLawfulRun}
use Rattle.run_rules.proofs.ListLemmas.{all_append, all_map, all_weaker}
use Rattle.run_base_laws.proofs.ClockLemmas.{since}
use Rattle.run_base_laws.proofs.EventsStandLemmas.{run_stands, first_node}
use Rattle.run_base_laws.proofs.KindSayLemmas.{OfDecisions, AllSay, one_says, each_says, prepares_say, told_says, passes_say, askings_say}
use Rattle.run_base_laws.proofs.LawfulLemmas.{Serves, of_sent, serves}
use Rattle.run_base_laws.proofs.LiveStepLemmas.{LiveCases, LastsInTurn, acting_by, left_by, lives_on}
use Rattle.run_base_laws.proofs.NodeLemmas.{Goes, Stays, Turns, Is_cut, Stops, Starts, goes_so}
use Rattle.run_base_laws.proofs.OwnLemmas.{all_found, all_last}
use Rattle.run_base_laws.proofs.SaidLemmas.{AllSent, numbered_so, sent_after}
use Rattle.tree_laws.proofs.PrefixLemmas.{so_far, f_at, one_on, keep_prefix}
use Rattle.repeat_read_laws.specs.RepeatLaws.{ReadsBelow, EveryReaderIsBelow}

-- an Open reads at an SCN that this one reaches
abbrev OpensBelow : ℕ → Kind → Type 0
OpensBelow c (kinds.Open edge root depth read_at) = IfSome read_at (λ scn. scn ≤ c)
OpensBelow c _ = Unit {0}

if_higher : (c e : ℕ) → c ≤ e → (o : Option ℕ) → IfSome o (λ scn. scn ≤ c) → IfSome o (λ scn. scn ≤ e)
if_higher c e up None below = tt
if_higher c e up (Some scn) below = omega (arith, up, below)

opens_higher : (c e : ℕ) → c ≤ e → (kind : Kind) → OpensBelow c kind → OpensBelow e kind
opens_higher c e up (kinds.Open edge root depth read_at) below = if_higher c e up read_at below
opens_higher c e up _ below = tt

-- ---- a step

module _ (c : ℕ) (p : Place) (input : Input) (came : (from to : BranchId) (edge : ℕ) (root : BranchId) (depth : ℕ) (read_at : Option ℕ) → Came input from to (kinds.Open edge root depth read_at) → IfSome read_at (λ scn. scn ≤ c)) where
  abbrev Below : Live → Type 0
  Below l = ReadsBelow c l

  abbrev Clock : NodeState → Type 0
  Clock k = k.clock ≤ c

  begins_below : {clock : ℕ} {s : Stmt} {read_at : Option ℕ} → BeginsBy clock s read_at → clock ≤ c → IfSome read_at (λ scn. scn ≤ c)
  begins_below (steps.By_rows s rows) low = tt
  begins_below (steps.By_savepoint name) low = tt
  begins_below steps.By_read_only low = low

  lasts : LastsInTurn p input Clock
  lasts = record {
    begun = λ k n s read_at call begins free low. low;
    counts = λ k n s call is low. low;
    backs = λ k x step goes low. low;
    pends = λ k n l given call has low. low;
    lets = λ k b low. low;
    acked = λ k s from kept came low. low;
  }

  each : LiveCases p input Clock (λ d. Unit {0}) Below
  each = record {
    lasts = lasts;
    root = λ k n s read_at call begins free low. begins_below begins low;
    child = λ k to parent edge root depth read_at is new low. came parent to edge root depth read_at is;
    advised = λ l advice so. so;
    runs = λ k x s t so. so;
    backs = λ l changed so. so;
    opens = λ k x from strength g link opened low so. so;
    replies = λ k x weight count a i e answered so. so;
    acts = λ k l below a why low q all. left_by Below l a (λ says so. so) (acting_by Below (λ x comment b live begins so. so) (λ x from v b answers so. so) all why);
  }

  lives_below : {k : NodeState} {d : TurnDraft} → Step p input k d → k.clock ≤ c → AllByRecursion Below k.lives → AllByRecursion Below d.after.lives
  lives_below step low now = lives_on each step low tt now

  -- ---- what it says

  abbrev P : Kind → Type 0
  P kind = OpensBelow c kind

  of_decisions : OfDecisions P
  of_decisions = record { committed = λ n. tt; rolled_back = tt; rollback = tt; in_doubt = tt; ack = tt; forgotten = tt; ask = tt }

  answer_below : (x : Branch) (a : Answer) (parent : Option BranchId) → AllSay P (answer_says x a parent)
  answer_below x a None = tt
  answer_below x a (Some parent) = (tt, tt)

  exec_below : (ss : List Session) (x : Branch) (i : ℕ) (e : Errand) (to : Option BranchId) → AllSay P (exec_to ss x i e to)
  exec_below ss x i e None = tt
  exec_below ss x i e (Some to) = (tt, tt)

  said : (k : NodeState) {says : List Post} → Says k input says → AllSay P says
  said k (steps.Tells s from came kept) = (told_says P of_decisions _, tt)
  said k (steps.Recovers reco) = askings_say P of_decisions k
  said k _ = (tt, tt)

  asked_below : (k : NodeState) → AllByRecursion Below k.lives → {x : Branch} {s : Stmt} {given : ℕ} → Asked k input x s given → Below x.live
  asked_below k now (steps.By_call n x s call rows has code live may) = all_found Below live_id k.lives x.live.me x.live now (live_so k x.live.me x live)
  asked_below k now (steps.By_exec x from call given advice s came live runs) = all_found Below live_id k.lives x.live.me x.live now (live_so k x.live.me x live)

  says_below : {k : NodeState} {d : TurnDraft} → Step p input k d → k.clock ≤ c → AllByRecursion Below k.lives → AllSay P d.says
  says_below (steps.Begins {k = k} n s read_at call begins fit none step) low now = says_below step low (all_last Below live_id k.lives _ now (begins_below begins low))
  says_below (steps.Counts_call n s call counts step) low now = says_below step low now
  says_below (steps.Goes_back x step goes next) low now = says_below next low now
  says_below (steps.Pends n l given call has live code writer step) low now = says_below step low now
  says_below (steps.Lets_reads_go l comment site_below live begins step) low now = says_below step low now
  says_below (steps.Counts_ack s from kept acked counts step) low now = says_below step low now
  says_below (steps.Sends {k = k} says why) low now = said k why
  says_below (steps.Runs {k = k} x s given t asked way) low now = answer_below (branch_ran k.sessions x t (ran p k x.live.me s t)) _ x.live.parent
  says_below (steps.Goes_nowhere x s given r asked way) low now = answer_below x _ x.live.parent
  says_below (steps.Calls {k = k} x s given i table asked way) low now = exec_below k.sessions x i (errands.Statement (passed_on s table) given) (peer_of x.live i)
  says_below (steps.Opens {k = k} x s given node link table asked way) low now = (asked_below k now asked, tt)
  says_below (steps.Goes_on {k = k} x from strength g link opened) low now = exec_below k.sessions (with_edge x (new_edge from link strength)) (length x.live.edges + 1) (less_room g.errand) _
  says_below (steps.Backs {k = k} x step from i calls next) low now = exec_below k.sessions x i (errands.GoBack step) (peer_of x.live i)
  says_below (steps.Is_back x step from calls none) low now = answer_below x _ x.live.parent
  says_below (steps.Hears_reply x weight count a i e answered) low now = answer_below (hears_reply x i weight count e) _ x.live.parent
  says_below (steps.Opens_branch to parent edge root depth read_at is new) low now = (tt, tt)
  says_below (steps.Acts l site_below acts.AskDown why) low now = prepares_say P (λ below comment. tt) l.me l.comment (path_of site_below (step_from l)) 1 l.edges
  says_below (steps.Acts l site_below acts.SayReadOnly why) low now = one_says P l.me kinds.ReadOnly l.parent tt
  says_below (steps.Acts l site_below acts.SayReady why) low now = one_says P l.me kinds.Ready l.parent tt
  says_below (steps.Acts l site_below acts.Seal why) low now = one_says P l.me kinds.Prepared l.parent tt
  says_below (steps.Acts l site_below (acts.SealAndPass i) why) low now = one_says P l.me kinds.CommitPoint (peer_of l i) tt
  says_below (steps.Acts {k = k} l site_below acts.Decide why) low now = each_says P l.me (kinds.Committed (k.clock + 1)) (site_neighbors l) tt
  says_below (steps.Acts l site_below acts.Abandon why) low now = all_append (λ x. P x.kind) _ _ (one_says P l.me kinds.Abort l.parent tt) (each_says P l.me kinds.Rollback (children_of l) tt)
  says_below (steps.Drops_told l live drops) low now = each_says P l.me kinds.Rollback (children_of l) tt
  says_below (steps.Drops_asked l from live is parent) low now = (tt, each_says P l.me kinds.Rollback (children_of l) tt)
  says_below (steps.Does s from (nexts.End d) kept why) low now = passes_say P of_decisions s d
  says_below (steps.Does s from (nexts.Meet d mixed) kept why) low now = passes_say P of_decisions s d
  says_below (steps.Does s from nexts.AckToward kept why) low now = one_says P s.me kinds.Ack s.toward tt
  says_below (steps.Does s from nexts.Forget kept why) low now = each_says P s.me kinds.Forgotten (map (λ b. b.branch) (beyond s)) tt
  says_below (steps.Does s from nexts.SayForgotten kept why) low now = (tt, tt)
  says_below (steps.Does s from nexts.SayAck kept why) low now = (tt, tt)
  says_below (steps.Leaves n s d x call ends has live) low now = each_says P x.live.me kinds.Rollback (children_of x.live) tt
  says_below (steps.Gives_up_commit n b (Some l) gives has pending live) low now = each_says P l.me kinds.Rollback (children_of l) tt
  says_below _ low now = tt

-- ---- a run

-- an Open that was sent comes with a clock that reaches its SCN
abbrev SentBelow : Msg → Type 0
SentBelow m = OpensBelow m.scn m.kind

-- Each live branch reads at an SCN that its node's clock has reached, and each Open that was sent came with such a clock.
record AreBelow (f : Facts) : Type 0 where
  lives : (n : ℕ) → IfSome (node_at f n) (λ k. AllByRecursion (ReadsBelow k.clock) k.lives)
  sent : AllSent SentBelow f.net.packets

-- what comes reads at an SCN that the clock reaches once it is heard
abbrev ComesBelow : ℕ → Input → Type 0
ComesBelow c (inputs.Message m) = OpensBelow c m.kind
ComesBelow c _ = Unit {0}

comes_below : (f : Facts) → AllSent SentBelow f.net.packets → (k : NodeState) (node : ℕ) (input : Input) (took : Option Took) → Comes f k node input took → ComesBelow (heard k input).clock input
comes_below f sent k node (inputs.Message m) (Some x) comes =
    let below : OpensBelow m.scn m.kind = subst SentBelow comes.1.same (numbered_so SentBelow f.net.packets x.number comes.0 sent comes.1.sent) in
    opens_higher m.scn (heard k (inputs.Message m)).clock (omega arith) m.kind below
comes_below f sent k node (inputs.Message m) None comes = absurd comes
comes_below f sent k node (inputs.Call n s) took comes = tt
comes_below f sent k node (inputs.GiveUp n) took comes = tt
comes_below f sent k node inputs.Reco took comes = tt
comes_below f sent k node inputs.Checkpoint took comes = tt

heard_lives : (k : NodeState) (input : Input) → ((heard k input).lives ≡ k.lives) × (k.clock ≤ (heard k input).clock)
heard_lives k (inputs.Message m) = (refl, omega arith)
heard_lives k _ = (refl, omega arith)

module _ (places : List Place) (f : Facts) (now : AreBelow f) (u : Turn) (k : NodeState) (may : MayTurn places f u k) where
  abbrev p : Place
  p = place_at places u.node

  abbrev c : ℕ
  c = (heard k u.input).clock

  abbrev d : TurnDraft
  d = draft_of (place_at places u.node) k u.input

  serving : Serves (place_at places u.node) k u
  serving = serves places f u k may

  came : (from to : BranchId) (edge : ℕ) (root : BranchId) (depth : ℕ) (read_at : Option ℕ) → Came u.input from to (kinds.Open edge root depth read_at) → IfSome read_at (λ scn. scn ≤ (heard k u.input).clock)
  came from to edge root depth read_at is = subst (ComesBelow (heard k u.input).clock) is.is (comes_below f now.sent k u.node u.input u.took may.comes)

  was : AllByRecursion (ReadsBelow (heard k u.input).clock) (heard k u.input).lives
  was =
      let same = heard_lives k u.input in
      let old : AllByRecursion (ReadsBelow k.clock) k.lives = subst (λ o. IfSome o (λ j. AllByRecursion (ReadsBelow j.clock) j.lives)) may.up (now.lives u.node) in
      subst (AllByRecursion (ReadsBelow (heard k u.input).clock)) (sym same.0) (all_weaker (ReadsBelow k.clock) (ReadsBelow (heard k u.input).clock) (λ l below. if_higher k.clock (heard k u.input).clock same.1 l.read_at below) k.lives old)

  rises : (heard k u.input).clock ≤ (draft_of (place_at places u.node) k u.input).after.clock
  rises = (since (place_at places u.node) u.input (heard k u.input).clock serving.step (omega arith)).0

  lives_after : AllByRecursion (ReadsBelow (draft_of (place_at places u.node) k u.input).after.clock) (draft_of (place_at places u.node) k u.input).after.lives
  lives_after =
      all_weaker (ReadsBelow (heard k u.input).clock) (ReadsBelow d.after.clock) (λ l below. if_higher (heard k u.input).clock d.after.clock rises l.read_at below) d.after.lives
      (lives_below (heard k u.input).clock p u.input came serving.step (omega arith) was)

  sent_now : AllByRecursion SentBelow u.sent
  sent_now =
      of_sent (place_at places u.node) k u serving (λ w ms. AllByRecursion SentBelow ms) tt
      (all_map SentBelow (stamped d.after.clock) d.says
      (all_weaker (λ (x : Post). OpensBelow (heard k u.input).clock x.kind) (λ (x : Post). OpensBelow d.after.clock x.kind) (λ x below. opens_higher (heard k u.input).clock d.after.clock rises x.kind below) d.says
      (says_below (heard k u.input).clock p u.input came serving.step (omega arith) was)))

module _ (t : History) (before : List Happening) (lawful : IsLawfulRun (so_far t before)) (now : AreBelow (f_at t before)) where
  abbrev f : Facts
  f = f_at t before

  on_goes : {n : ℕ} {o : Option NodeState} {rs : List RedoRecord} → Goes t.places f n o rs → IfSome o (λ k. AllByRecursion (ReadsBelow k.clock) k.lives)
  unfolding turn_of start_of
  on_goes {n = n} Stays = now.lives n
  on_goes {n = n} (Turns u k may here) = subst (λ m. AllByRecursion (ReadsBelow (draft_of (place_at t.places m) k u.input).after.clock) (draft_of (place_at t.places m) k u.input).after.lives) here (lives_after t.places f now u k may)
  on_goes (Is_cut u k may here) = tt
  on_goes Stops = tt
  on_goes (Starts boot down next) = tt

  sends : (h : Happening) → MayHappen t.places t.commands f h → AllSent SentBelow (facts_after t.places t.commands f h).net.packets
  sends (happenings.Turn u) may = sent_after SentBelow t.places t.commands f (happenings.Turn u) (sent_now t.places f now u may.0 may.1) now.sent
  sends (happenings.Begun x) may = sent_after SentBelow t.places t.commands f (happenings.Begun x) tt now.sent
  sends (happenings.Cut a b) may = sent_after SentBelow t.places t.commands f (happenings.Cut a b) tt now.sent
  sends (happenings.Join a b) may = sent_after SentBelow t.places t.commands f (happenings.Join a b) tt now.sent
  sends (happenings.Lost x) may = sent_after SentBelow t.places t.commands f (happenings.Lost x) tt now.sent
  sends (happenings.Stopped n) may = sent_after SentBelow t.places t.commands f (happenings.Stopped n) tt now.sent
  sends (happenings.Started n boot) may = sent_after SentBelow t.places t.commands f (happenings.Started n boot) tt now.sent

  below_on : (h : Happening) → MayHappen t.places t.commands f h → AreBelow (f_at t (before ++ h ∷ []))
  below_on h may = subst AreBelow (sym (one_on t before h)) (record {
    lives = λ n. on_goes (goes_so t.places f t.commands (run_stands (so_far t before) lawful).0.even h n may);
    sent = sends h may;
  })

nobody : AllByRecursion (ReadsBelow made.clock) made.lives
unfolding start_of
nobody = tt

first_lives : (places : List Place) (n : ℕ) → IfSome (node_at (first_facts places) n) (λ k. AllByRecursion (ReadsBelow k.clock) k.lives)
first_lives places n = first_node (λ o. IfSome o (λ k. AllByRecursion (ReadsBelow k.clock) k.lives)) tt nobody places n

pub every_reader_is_below : EveryReaderIsBelow
unfolding facts_of
every_reader_is_below t lawful n k up =
    let last : AreBelow (f_at t t.trace) = keep_prefix t (λ hs. AreBelow (f_at t hs)) (λ before h whole may now. below_on t before whole now h may) lawful (record { lives = first_lives t.places; sent = tt }) in
    subst (λ o. IfSome o (λ j. AllByRecursion (ReadsBelow j.clock) j.lives)) up (last.lives n)
