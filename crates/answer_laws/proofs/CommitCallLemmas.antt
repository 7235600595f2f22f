-- A COMMIT that is pending at a node was the last call of its session.
use Rattle.std.proofs.Common.{◌≡◌, ◌≢◌, ℕ, ◌&&◌, ◌⊎◌, Bool, true, false, if◌then◌else◌, is_none, List, [], ◌∷◌, ◌++◌, length, IfSome, Option, Some, None, inl, inr, refl, sym, ap, subst, ◌∙◌}
use Rattle.std.specs.List.{AllByRecursion}
use Rattle.std.proofs.lemmas.Bool.{cases_eq, cond_both}
use Rattle.std.proofs.lemmas.List.{append_assoc}
use Rattle.commit_forget.specs.declared.next.Next.TheVariants as nexts
use Rattle.node_rules.specs.Data.{Answer, BranchId, Decision, Live, Act, Place, Input, RedoRecord}
use Rattle.node_rules.specs.Data.acts
use Rattle.node_rules.specs.Data.decisions
use Rattle.node_rules.specs.Data.inputs
use Rattle.node_rules.specs.Data.records
use Rattle.node_rules.specs.Data.stmts
use Rattle.node_rules.specs.declared.session.PendingCall.TheVariants as pending
use Rattle.node_rules.specs.declared.session.Session.{Session}
use Rattle.session_tree.specs.Live.{new_edge}
use Rattle.node_rules.specs.Calls.{call_pends, answered_sessions, hears_reply, heard_sessions, is_gone, with_edge}
use Rattle.node_rules.specs.Client.{new_root}
use Rattle.node_rules.specs.Commit.{decided_sessions}
use Rattle.node_rules.specs.NodeState.{NodeState, TurnDraft}
use Rattle.node_rules.specs.Prepare.{abandoned_sessions, is_alone, act_turn}
use Rattle.node_rules.specs.Refusals.{dtx}
use Rattle.node_rules.specs.Sessions.{session_at, with_call, needs_rollback, no_transaction, commit_is_pending, commit_ended}
use Rattle.node_rules.specs.Statement.{ran, after_run}
use Rattle.node_rules.specs.Turn.{turn_of, start_of, draft_of}
use Rattle.node_rules.specs.Words.{numbered, set_numbered}
use Rattle.node_rules.proofs.Steps as steps
use Rattle.node_rules.proofs.Steps.{Step}
use Rattle.node_rules.proofs.HeardLemmas.{sessions_heard}
use Rattle.run_rules.specs.Data.{Turn, Happening}
use Rattle.run_rules.specs.Data.happenings
use Rattle.run_rules.specs.Facts.{Facts, first_facts, place_at, flat, node_at, kept_after, with_boot, facts_after, facts_of}
use Rattle.run_rules.specs.Lawful.{History, IsLawfulRun}
use Rattle.run_rules.proofs.AtNodeLemmas.{turn_here, turn_elsewhere}
use Rattle.run_base_laws.proofs.EventsStandLemmas.{first_node, run_stands}
use Rattle.run_base_laws.proofs.LawfulLemmas.{serves}
use Rattle.run_rules.proofs.ListLemmas.{all_append}
use Rattle.run_base_laws.proofs.RootLemmas.{session_or_before, counted_session}
use Rattle.tran_ids.proofs.NumberedLemmas.{set_or_before}
use Rattle.tree_laws.proofs.PrefixLemmas.{so_far, f_at, one_on}
use Rattle.tree_laws.proofs.TimeLemmas.{Part, part_lawful, keep_on}
use Rattle.tree_trail_laws.proofs.CallLemmas.{call_free}
use Rattle.run_ready_laws.proofs.TurnCallLemmas.{fresh_at}
use Rattle.answer_origin_laws.proofs.NoCallLemmas.{IsNoCall}
use Rattle.answer_laws.proofs.WhyEndsLemmas.{set_commit}
use Rattle.tree_laws.proofs.AtTurn.{at_turn}

-- ---- what a turn leaves pending

module _ (ss : List Session) (m : ℕ) where
  abbrev Pends : List Session → Type 0
  Pends zs = (session_at zs m).call ≡ pending.Commit

  -- a session with the same call, or without a COMMIT
  call_same : (n : ℕ) (s : Session) → s.call ≡ (session_at ss n).call → Pends (set_numbered ss n s) → Pends ss
  call_same n s same is = set_commit ss n m s (λ commits. sym same ∙ commits) is

  call_other : (n : ℕ) (s : Session) → s.call ≢ pending.Commit → Pends (set_numbered ss n s) → Pends ss
  call_other n s other is = set_commit ss n m s (λ commits. absurd (other commits)) is

  ended : (b : BranchId) → Pends (commit_ended ss b) → Pends ss
  ended b is = cond_both (commit_is_pending ss b) (set_numbered ss b.session (no_transaction (session_at ss b.session))) ss (λ zs. Pends zs → Pends ss) (λ was. call_other b.session (no_transaction (session_at ss b.session)) (λ free. absurd cc)) (λ none was. was) is

  alone : (here : Bool) (b : BranchId) → Pends (if here then commit_ended ss b else ss) → Pends ss
  alone true b is = ended b is
  alone false b is = is

  decided : (b : BranchId) (d : Decision) → Pends (decided_sessions ss b d) → Pends ss
  decided b (decisions.Commit n) is = is
  decided b decisions.Rollback is = ended b is

  abandoned : (l : Live) (o : Option BranchId) → Pends (abandoned_sessions ss l o) → Pends ss
  abandoned l None is = ended l.me is
  abandoned l (Some parent) is = is

  answered : (l : Live) (o : Option BranchId) → Pends (answered_sessions ss l o) → Pends ss
  answered l None is = call_other l.me.session (record (session_at ss l.me.session) { call = pending.NoCall }) (λ free. absurd cc) is
  answered l (Some parent) is = is

  goes_on : (l : Live) → Pends (call_pends ss l) → Pends ss
  goes_on l is =
      cond_both (is_none l.parent) (with_call ss l.me.session pending.Statement) ss (λ zs. Pends zs → Pends ss)
      (λ root. call_other l.me.session (record (session_at ss l.me.session) { call = pending.Statement }) (λ other. absurd cc)) (λ below was. was) is

  heard_so : (l : Live) (a : Answer) → Pends (heard_sessions ss l a) → Pends ss
  heard_so l a is =
      cond_both (is_none l.parent && is_gone a) (needs_rollback ss l.me.session (dtx 8 []).code) ss (λ zs. Pends zs → Pends ss)
      (λ gone. call_same l.me.session (record (session_at ss l.me.session) { code = Some (dtx 8 []).code }) refl) (λ other was. was) is

act_so : (k : NodeState) (m : ℕ) (l : Live) (site_below : Bool) (a : Act) → Pends k.sessions m (act_turn k l site_below a).after.sessions → Pends k.sessions m k.sessions
act_so k m l site_below acts.Decide is = alone k.sessions m (is_alone l) l.me is
act_so k m l site_below acts.Finish is = ended k.sessions m l.me is
act_so k m l site_below acts.Abandon is = abandoned k.sessions m l l.parent is
act_so k m l site_below acts.Rest is = is
act_so k m l site_below acts.AskDown is = is
act_so k m l site_below acts.SayReadOnly is = is
act_so k m l site_below acts.SayReady is = is
act_so k m l site_below acts.Seal is = is
act_so k m l site_below (acts.SealAndPass i) is = is

-- a COMMIT that is pending after a turn was so before it, or came in it
module _ (p : Place) (input : Input) (m : ℕ) where
  abbrev Came_now : Type 0
  Came_now = (comment : Option (List ℕ)) × (input ≡ inputs.Call m (Some (stmts.Commit comment)))

  pub commits_on : {k : NodeState} {d : TurnDraft} → Step p input k d → (session_at d.after.sessions m).call ≡ pending.Commit → ((session_at k.sessions m).call ≡ pending.Commit) ⊎ Came_now
  commits_on (steps.Begins {k = k} n s read_at call begins range none step) is = elim (commits_on step is) [
    | inl was ↦ inl (call_same k.sessions m n (record (session_at k.sessions n) { seq = (new_root p k n).seq; root = Some (new_root p k n); calls = 0 }) refl was)
    | inr now ↦ inr now
  ]
  commits_on (steps.Pends {k = k} n l given call has live code writer step) is = elim (commits_on step is) [
    | inl was ↦ elim (session_or_before k.sessions n m (record (session_at k.sessions n) { call = pending.Commit })) [
      | inl still ↦ inl (ap (λ z. z.call) (sym still) ∙ was)
      | inr new ↦ inr (given, subst (λ i. input ≡ inputs.Call i (Some (stmts.Commit given))) new.0 call)
    ]
    | inr now ↦ inr now
  ]
  commits_on (steps.Counts_call {k = k} n s call counts step) is = elim (commits_on step is) [
    | inl was ↦ inl (ap (λ z. z.call) (sym (counted_session k.sessions n m (session_at k.sessions n).root).1) ∙ was)
    | inr now ↦ inr now
  ]
  commits_on (steps.Goes_back x step goes next) is = commits_on next is
  commits_on (steps.Lets_reads_go l comment site_below live begins step) is = commits_on step is
  commits_on (steps.Counts_ack s from kept came counts step) is = commits_on step is
  commits_on (steps.Runs {k = k} x s given t asked way) is = inl (answered k.sessions m (after_run x.live (ran p k x.live.me s t)) x.live.parent is)
  commits_on (steps.Goes_nowhere {k = k} x s given r asked way) is = inl (answered k.sessions m x.live x.live.parent is)
  commits_on (steps.Calls {k = k} x s given i table asked way) is = inl (goes_on k.sessions m x.live is)
  commits_on (steps.Opens {k = k} x s given node link table asked way) is = inl (goes_on k.sessions m x.live is)
  commits_on (steps.Goes_on {k = k} x from strength g link opened) is = inl (goes_on k.sessions m (with_edge x (new_edge from link strength)).live is)
  commits_on (steps.Hears_reply {k = k} x weight count a i e heard_it) is =
      let y : Live = (hears_reply x i weight count e).live in inl (heard_so k.sessions m y a (answered (heard_sessions k.sessions y a) m y x.live.parent is))
  commits_on (steps.Backs {k = k} x step from i calls next) is = inl (goes_on k.sessions m x.live is)
  commits_on (steps.Is_back {k = k} x step from calls none) is = inl (answered k.sessions m x.live x.live.parent is)
  commits_on (steps.Acts {k = k} l site_below a why) is = inl (act_so k m l site_below a is)
  commits_on (steps.Does {k = k} s from (nexts.End d) kept why) is = inl (decided k.sessions m s.me d is)
  commits_on (steps.Does {k = k} s from (nexts.Meet d mixed) kept why) is = inl (decided k.sessions m s.me d is)
  commits_on (steps.Does {k = k} s from nexts.Forget kept why) is = inl (ended k.sessions m s.me is)
  commits_on (steps.Does s from nexts.Rest kept why) is = inl is
  commits_on (steps.Does s from nexts.AckToward kept why) is = inl is
  commits_on (steps.Does s from nexts.SayForgotten kept why) is = inl is
  commits_on (steps.Does s from nexts.SayAck kept why) is = inl is
  commits_on (steps.Forces_given {k = k} n id j b call named) is = inl (ended k.sessions m b is)
  commits_on (steps.Forces_commit {k = k} n id b call named) is = inl (ended k.sessions m b is)
  commits_on (steps.Forces_rollback {k = k} n id b call named) is = inl (ended k.sessions m b is)
  commits_on (steps.Advises {k = k} n a call) is = inl (call_same k.sessions m n (record (session_at k.sessions n) { advice = a }) refl is)
  commits_on (steps.Leaves {k = k} n s d x call ends has live) is = inl (call_other k.sessions m n (no_transaction (session_at k.sessions n)) (λ free. absurd cc) is)
  commits_on (steps.Gives_up {k = k} n x gives has calls live) is =
      let zs : List Session = with_call k.sessions n pending.NoCall in
      inl (call_other k.sessions m n (record (session_at k.sessions n) { call = pending.NoCall }) (λ free. absurd cc) (call_same zs m n (record (session_at zs n) { code = Some (dtx 3 []).code }) refl is))
  commits_on (steps.Gives_up_commit {k = k} n b (Some l) gives has calls live) is = inl (ended k.sessions m l.me is)
  commits_on (steps.Gives_up_commit {k = k} n b None gives has calls live) is = inl (ended k.sessions m b is)
  commits_on _ is = inl is

-- ---- in a run

module _ (t : History) (whole : IsLawfulRun t) where
  -- The last call of a session in these happenings was COMMIT.
  pub record CommitCame (hs : List Happening) (node session : ℕ) : Type 0 where
    pub before : List Happening
    pub turn : Turn
    pub later : List Happening
    pub since : before ++ happenings.Turn turn ∷ later ≡ hs
    pub here : turn.node ≡ node
    pub comment : Option (List ℕ)
    pub came : turn.input ≡ inputs.Call session (Some (stmts.Commit comment))
    pub quiet : AllByRecursion (IsNoCall node session) later

  abbrev pub CommitsCame : List Happening → Facts → Type 0
  CommitsCame hs f = (n : ℕ) (k : NodeState) → node_at f n ≡ Some k → (m : ℕ) → (session_at k.sessions m).call ≡ pending.Commit → CommitCame hs n m

  came_on : (hs : List Happening) (h : Happening) (n m : ℕ) → IsNoCall n m h → CommitCame hs n m → CommitCame (hs ++ h ∷ []) n m
  came_on hs h n m other is = record {
    before = is.before;
    turn = is.turn;
    later = is.later ++ h ∷ [];
    since = sym (append_assoc is.before (happenings.Turn is.turn ∷ is.later) (h ∷ [])) ∙ ap (λ xs. xs ++ h ∷ []) is.since;
    here = is.here;
    comment = is.comment;
    came = is.came;
    quiet = all_append (IsNoCall n m) is.later (h ∷ []) is.quiet (other, tt);
  }

  module _ (hs : List Happening) (u : Turn) (rest : List Happening) (is : hs ++ happenings.Turn u ∷ rest ≡ t.trace) (now : CommitsCame hs (f_at t hs)) where
    open at_turn t whole hs u rest is use {may, k, g as f1}

    even : length (f_at t hs).nodes ≡ length (f_at t hs).records
    even = (run_stands (so_far t hs) (part_lawful t whole hs (record { rest = happenings.Turn u ∷ rest; is = is }))).0.even

    -- no call comes where COMMIT is pending
    uncalled : (m : ℕ) → (session_at k.sessions m).call ≡ pending.Commit → IsNoCall u.node m (happenings.Turn u)
    uncalled m commits = λ here s call. (let free = call_free (f_at t hs) k u.node u.input u.took m s call may.1.comes in absurd (cc (commits, free.1)))

    own : (m : ℕ) → (session_at (draft_of (place_at t.places u.node) k u.input).after.sessions m).call ≡ pending.Commit → CommitCame (hs ++ happenings.Turn u ∷ []) u.node m
    own m commits = elim (commits_on (place_at t.places u.node) u.input m (serves t.places (f_at t hs) u k may.1).step commits) [
      | inl was ↦ (let before : (session_at k.sessions m).call ≡ pending.Commit = subst (λ ss. (session_at ss m).call ≡ pending.Commit) (sessions_heard k u.input) was in
          came_on hs (happenings.Turn u) u.node m (uncalled m before) (now u.node k may.1.up m before))
      | inr came ↦ record { before = hs; turn = u; later = []; since = refl; here = refl; comment = came.0; came = came.1; quiet = tt }
    ]

    own_kept : (cut : Bool) → u.cut ≡ cut → (j : NodeState) → node_at f1 u.node ≡ Some j → (m : ℕ) → (session_at j.sessions m).call ≡ pending.Commit → CommitCame (hs ++ happenings.Turn u ∷ []) u.node m
    unfolding turn_of
    own_kept true cut j up m commits =
        let none : node_at f1 u.node ≡ None = (turn_here t.places t.commands (f_at t hs) even u k may.1.up).0 ∙ ap (λ c. kept_after c (Some (turn_of (place_at t.places u.node) k u.input))) cut in absurd (cc (none, up))
    own_kept false cut j up m commits =
        let after : node_at f1 u.node ≡ Some (draft_of (place_at t.places u.node) k u.input).after = (turn_here t.places t.commands (f_at t hs) even u k may.1.up).0 ∙ ap (λ c. kept_after c (Some (turn_of (place_at t.places u.node) k u.input))) cut in
        let both : Some (draft_of (place_at t.places u.node) k u.input).after ≡ Some j = sym after ∙ up in
        let one : j ≡ (draft_of (place_at t.places u.node) k u.input).after = cc in
        own m (subst (λ (x : NodeState). (session_at x.sessions m).call ≡ pending.Commit) one commits)

    turn_came : CommitsCame (hs ++ happenings.Turn u ∷ []) f1
    turn_came n j up m commits = elim (cases_eq u.node n) [
      | inl here ↦ subst (λ i. CommitCame (hs ++ happenings.Turn u ∷ []) i m) here (own_kept u.cut refl j (subst (λ i. node_at f1 i ≡ Some j) (sym here) up) m commits)
      | inr apart ↦ came_on hs (happenings.Turn u) n m (λ here s call. apart here) (now n j (sym (turn_elsewhere t.places t.commands (f_at t hs) even u n apart).0 ∙ up) m commits)
    ]

  -- no other happening makes a COMMIT pending
  still_came : (hs : List Happening) (h : Happening) → ((n m : ℕ) → IsNoCall n m h) → CommitsCame hs (f_at t hs) → (g : Facts)
      → ((n : ℕ) (j : NodeState) → node_at g n ≡ Some j → (node_at (f_at t hs) n ≡ Some j) ⊎ ((m : ℕ) → (session_at j.sessions m).call ≡ pending.NoCall)) → CommitsCame (hs ++ h ∷ []) g
  still_came hs h other now g still n j up m commits = elim (still n j up) [
    | inl was ↦ came_on hs h n m (other n m) (now n j was m commits)
    | inr free ↦ (let none = free m in absurd (cc (commits, none)))
  ]

  set_still : (f : Facts) (m n : ℕ) (o : Option NodeState) (j : NodeState) → flat (numbered (set_numbered f.nodes m o) n) ≡ Some j → (node_at f n ≡ Some j) ⊎ (o ≡ Some j)
  set_still f m n o j up = elim (set_or_before f.nodes m n o) [
    | inl before ↦ inl (sym (ap flat before) ∙ up)
    | inr new ↦ inr (sym (ap flat new.1) ∙ up)
  ]

  started_free : (rs : List RedoRecord) (m : ℕ) → (session_at (start_of rs).sessions m).call ≡ pending.NoCall
  unfolding start_of
  started_free rs m = ap (λ s. s.call) (fresh_at m)

  came_after : (hs : List Happening) (h : Happening) (rest : List Happening) → hs ++ h ∷ rest ≡ t.trace → CommitsCame hs (f_at t hs) → CommitsCame (hs ++ h ∷ []) (facts_after t.places t.commands (f_at t hs) h)
  unfolding facts_after
  came_after hs (happenings.Turn u) rest is now = turn_came hs u rest is now
  came_after hs (happenings.Stopped m) rest is now = still_came hs (happenings.Stopped m) (λ n q. tt) now (facts_after t.places t.commands (f_at t hs) (happenings.Stopped m)) (λ n j up. elim (set_still (f_at t hs) m n None j up) [ inl was ↦ inl was | inr new ↦ absurd cc ])
  came_after hs (happenings.Started m boot) rest is now =
      still_came hs (happenings.Started m boot) (λ n q. tt) now (facts_after t.places t.commands (f_at t hs) (happenings.Started m boot))
      (λ n j up. elim (set_still (f_at t hs) m n (Some (start_of (with_boot (f_at t hs) m boot))) j up) [
        | inl was ↦ inl was
        | inr new ↦ inr (λ q. (let one : start_of (with_boot (f_at t hs) m boot) ≡ j = (let both : Some (start_of (with_boot (f_at t hs) m boot)) ≡ Some j = new in cc) in subst (λ (x : NodeState). (session_at x.sessions q).call ≡ pending.NoCall) one (started_free (with_boot (f_at t hs) m boot) q)))
      ])
  came_after hs (happenings.Begun c) rest is now = still_came hs (happenings.Begun c) (λ n q. tt) now (facts_after t.places t.commands (f_at t hs) (happenings.Begun c)) (λ n j up. inl up)
  came_after hs (happenings.Cut a b) rest is now = still_came hs (happenings.Cut a b) (λ n q. tt) now (facts_after t.places t.commands (f_at t hs) (happenings.Cut a b)) (λ n j up. inl up)
  came_after hs (happenings.Join a b) rest is now = still_came hs (happenings.Join a b) (λ n q. tt) now (facts_after t.places t.commands (f_at t hs) (happenings.Join a b)) (λ n j up. inl up)
  came_after hs (happenings.Lost x) rest is now = still_came hs (happenings.Lost x) (λ n q. tt) now (facts_after t.places t.commands (f_at t hs) (happenings.Lost x)) (λ n j up. inl up)

  first_came : CommitsCame [] (first_facts t.places)
  first_came n k up m commits =
      let free : (session_at k.sessions m).call ≡ pending.NoCall
      = subst (λ o. IfSome o (λ (x : NodeState). (session_at x.sessions m).call ≡ pending.NoCall)) up (first_node (λ o. IfSome o (λ (x : NodeState). (session_at x.sessions m).call ≡ pending.NoCall)) tt (started_free (records.Boot 1 ∷ []) m) t.places n) in
      absurd (cc (commits, free))

  pub commits_came : (hs : List Happening) → Part t whole hs → CommitsCame hs (f_at t hs)
  unfolding facts_of
  commits_came hs part = keep_on t whole (λ xs. CommitsCame xs (f_at t xs)) (λ xs h rest is now. subst (CommitsCame (xs ++ h ∷ [])) (sym (one_on t xs h)) (came_after xs h rest is now)) [] hs part first_came
