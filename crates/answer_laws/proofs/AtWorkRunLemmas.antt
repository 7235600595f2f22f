-- In every lawful run each live branch whose statement waits sent it down last, and where a statement of a session is pending its
-- transaction is live, and waits.
use Rattle.std.proofs.Common.{◌≡◌, ◌≢◌, ℕ, ◌&&◌, Bool, true, false, List, [], ◌∷◌, ◌++◌, Some, None, refl, sym, ap, subst, ◌∙◌}
use Rattle.std.specs.Prelude.{IfSome}
use Rattle.tran_ids.proofs.BranchLemmas.{equal_from_same}
use Rattle.session_tree.specs.Live.{children_of}
use Rattle.node_rules.specs.Data.{BranchId, Live, Place, Post, RedoRecord}
use Rattle.node_rules.specs.declared.work.Going.{Going}
use Rattle.node_rules.specs.declared.session.PendingCall.TheVariants as pending
use Rattle.node_rules.specs.LiveBranches.{EachLive}
use Rattle.node_rules.specs.NodeState.{NodeState, Branch, TurnDraft, live_id, branch_at, with_work, work_at}
use Rattle.node_rules.specs.Sessions.{session_at}
use Rattle.node_rules.specs.Turn.{draft_of, heard, start_of}
use Rattle.node_rules.specs.Words.{same}
use Rattle.node_rules.proofs.HeardLemmas.{sessions_heard}
use Rattle.node_rules.proofs.LiveLemmas.{each_same, none_live, branch_parts}
use Rattle.node_rules.proofs.StandLemmas.{branch_is}
use Rattle.run_rules.specs.Births.{births_of}
use Rattle.run_rules.specs.Data.{Happening, Turn}
use Rattle.run_rules.specs.Facts.{Facts, facts_of, node_at, place_at}
use Rattle.run_rules.specs.Lawful.{History, IsLawfulRun, MayHappen, MayTurn, facts_at}
use Rattle.run_rules.proofs.ListLemmas.{all_weaker}
use Rattle.run_base_laws.specs.InTurnLaws.{said_in}
use Rattle.run_base_laws.specs.RunEvents.{events_of}
use Rattle.run_base_laws.proofs.BirthRunLemmas.{run_births}
use Rattle.run_base_laws.proofs.EventsStandLemmas.{ids_name_their_node, run_stands}
use Rattle.run_base_laws.proofs.InTurnLemmas.{length_peers}
use Rattle.run_base_laws.proofs.InTurnRunLemmas.{CallsOf, NodeCalls, each_both, heard_calls, run_calls}
use Rattle.run_base_laws.proofs.LawfulLemmas.{serves}
use Rattle.run_base_laws.proofs.OwnLemmas.{all_found}
use Rattle.run_base_laws.proofs.RestLemmas.{Before, RootIs}
use Rattle.run_base_laws.proofs.RestRunLemmas.{NodeRests, before_so, heard_before, heard_rests, run_roots}
use Rattle.run_base_laws.proofs.RootLemmas.{SessionsFit, root_alone}
use Rattle.run_base_laws.proofs.TurnEventLemmas.{number_is}
use Rattle.run_ready_laws.proofs.RootLiveLemmas.{RootsLive}
use Rattle.run_ready_laws.proofs.TurnCallLemmas.{AllLive, all_live_on, first_live}
use Rattle.tree_laws.proofs.EachNodeLemmas.{EachNode, nodes_first, nodes_on, turn_nodes}
use Rattle.tree_laws.proofs.PrefixLemmas.{so_far, f_at, one_on, keep_prefix}
use Rattle.answer_laws.proofs.AtWorkLemmas.{IsAtWork, IsPlaced, IsSentLast, DownFrom, sent_more}
use Rattle.answer_laws.proofs.AtWorkStepLemmas.{AtWork, Leaves, works_on}
use Rattle.answer_laws.proofs.SentDownLemmas.{SendsNoneDown}
use Rattle.answer_laws.specs.StatementEnds.{StatementPends, calls_below, is_sent_down}

-- each live branch of a node is at work
abbrev pub NodeWorks : List Post → NodeState → Type 0
NodeWorks said k = EachLive (IsAtWork said k.sessions) k.lives k.works

begun : (ms : List Post) (rs : List RedoRecord) → NodeWorks ms (start_of rs)
unfolding start_of
begun ms rs = none_live _

-- a branch of another node sends nothing down
from_elsewhere : (node : ℕ) (said says : List Post) (b : BranchId) → b.node ≢ node → DownFrom node said says → SendsNoneDown b says
from_elsewhere node said says b other from = all_weaker (λ (m : Post). calls_below m.kind ≡ true → m.from.node ≡ node) (λ m. is_sent_down b m ≡ false) (λ m here. by m here (same m.from b) (calls_below m.kind) refl refl) says from
  where
    by : (m : Post) → (calls_below m.kind ≡ true → m.from.node ≡ node) → (q r : Bool) → same m.from b ≡ q → calls_below m.kind ≡ r → (q && r) ≡ false
    by m here true true is down = absurd (other (ap (λ (c : BranchId). c.node) (sym (equal_from_same m.from b is)) ∙ here down))
    by m here true false is down = refl
    by m here false r is down = refl

module _ (t : History) where
  module _ (before : List Happening) (lawful : IsLawfulRun (so_far t before)) (now : EachNode NodeWorks (f_at t before)) (u : Turn) (k : NodeState) (may : MayTurn t.places (f_at t before) u k) where
    abbrev f : Facts
    f = f_at t before

    abbrev p : Place
    p = place_at t.places u.node

    abbrev said : List Post
    said = said_in f

    abbrev d : TurnDraft
    d = draft_of p k u.input

    number : p.number ≡ u.node
    number = number_is t.places t.commands t.of_a_script.each f u.node k (run_births (so_far t before) lawful).0.1.many may.up

    pub rests : NodeRests k
    rests = subst (λ o. IfSome o NodeRests) may.up (run_roots (so_far t before) lawful u.node)

    begins : Before u.input k
    begins = before_so t.places t.commands t.of_a_script.each f (events_of (so_far t before)) (births_of (so_far t before)) (run_births (so_far t before) lawful) (run_roots (so_far t before) lawful) u k may

    placed : EachLive (IsPlaced p.number k.sessions) k.lives k.works
    placed =
        each_same (λ l w. CallsOf said k l w × RootIs k.sessions l w) (IsPlaced p.number k.sessions) k.lives k.works
        (each_both (CallsOf said k) (RootIs k.sessions) k.lives k.works (subst (λ o. IfSome o (NodeCalls said)) may.up ((run_calls (so_far t before) lawful).nodes u.node)) rests.1)
        (λ y v live any was. record {
          root = λ none. (was.1 none).root;
          node_is = all_found (λ (l : Live). l.me.node ≡ u.node) live_id k.lives y.me y (ids_name_their_node (so_far t before) lawful u.node k may.up).lives live ∙ sym number;
          numbers = was.0.makes.numbers ∙ length_peers y.edges;
        })

    pub works : NodeWorks said k
    works = subst (λ o. IfSome o (NodeWorks said)) may.up (now u.node)

    at_work : AtWork p u.input said (heard k u.input)
    at_work =
        subst (λ ss. EachLive (λ l w. IsPlaced p.number ss l w × IsAtWork said ss l w) (heard k u.input).lives (heard k u.input).works) (sym (sessions_heard k u.input))
        (heard_calls (λ l w. IsPlaced p.number k.sessions l w × IsAtWork said k.sessions l w) k u.input (each_both (IsPlaced p.number k.sessions) (IsAtWork said k.sessions) k.lives k.works placed works))

    leaves : Leaves p u.input said d
    leaves = works_on p u.input said (serves t.places f u k may).step (heard_rests k u.input rests).0 (λ n s call rows. (heard_before k u.input u.input begins).free n s call) at_work

    others : (m : ℕ) → m ≢ u.node → (j : NodeState) → node_at f m ≡ Some j → NodeWorks said j → NodeWorks (said ++ d.says) j
    others m other j up was =
        each_same (IsAtWork said j.sessions) (IsAtWork (said ++ d.says) j.sessions) j.lives j.works was
        (λ y v live any is.
        (let there : y.me.node ≡ m = all_found (λ (l : Live). l.me.node ≡ m) live_id j.lives y.me y (ids_name_their_node (so_far t before) lawful m j up).lives live in
        let none : SendsNoneDown y.me d.says = from_elsewhere p.number said d.says y.me (λ here. other (sym there ∙ (here ∙ number))) leaves.1 in
        record { sent = λ g going. sent_more said d.says y.me (children_of y) v none g.errand g.waits (is.sent g going); works = is.works }))

  on : (before : List Happening) (h : Happening) → IsLawfulRun (so_far t before) → MayHappen t.places t.commands (f_at t before) h → EachNode NodeWorks (f_at t before) → EachNode NodeWorks (f_at t (before ++ h ∷ []))
  on before h lawful may now =
      subst (EachNode NodeWorks) (sym (one_on t before h))
      (nodes_on t.places t.commands (f_at t before) NodeWorks begun now
      (λ u k may. turn_nodes t.places t.commands (f_at t before) (run_stands (so_far t before) lawful).0.even u k may NodeWorks now (leaves before lawful now u k may).0 (others before lawful now u k may)) h may)

  first : EachNode NodeWorks (f_at t [])
  unfolding facts_of
  first = nodes_first NodeWorks begun t.places

  works_end : IsLawfulRun t → EachNode NodeWorks (facts_at t)
  works_end lawful = keep_prefix t (λ hs. EachNode NodeWorks (f_at t hs)) on lawful first

  lives_on : (before : List Happening) (h : Happening) → IsLawfulRun (so_far t before) → MayHappen t.places t.commands (f_at t before) h → AllLive (f_at t before) → AllLive (f_at t (before ++ h ∷ []))
  lives_on before h lawful may now =
      subst AllLive (sym (one_on t before h))
      (all_live_on t.places t.commands t.of_a_script.each (f_at t before) (events_of (so_far t before)) (births_of (so_far t before)) (run_births (so_far t before) lawful) (run_roots (so_far t before) lawful) now h may)

  lives_end : IsLawfulRun t → AllLive (facts_at t)
  unfolding facts_of
  lives_end lawful = keep_prefix t (λ hs. AllLive (f_at t hs)) lives_on lawful (first_live t.places)

-- ---- a statement that is pending

-- The root of a session whose statement is pending: it is live, and waits for the answer to what it sent down last.
pub record IsWaiting (said : List Post) (k : NodeState) (g : BranchId) : Type 0 where
  pub branch : Branch
  pub is_me : branch.live.me ≡ g
  pub found : branch_at k g ≡ Some branch
  pub is_root : branch.live.parent ≡ None
  pub going : Going
  pub waits : branch.work.going ≡ Some going
  pub sent : IsSentLast said branch.live.me (children_of branch.live) branch.work going.errand going.waits

module _ (t : History) (lawful : IsLawfulRun t) (n : ℕ) (k : NodeState) (up : node_at (facts_at t) n ≡ Some k) where
  node_works : NodeWorks (said_in (facts_at t)) k
  node_works = subst (λ o. IfSome o (NodeWorks (said_in (facts_at t)))) up (works_end t lawful n)

  lives : RootsLive k.lives k.sessions
  lives = subst (λ o. IfSome o (λ (x : NodeState). RootsLive x.lives x.sessions)) up (lives_end t lawful n)

  -- what a live branch sent down last
  pub branch_works : (x : Branch) → branch_at k x.live.me ≡ Some x → IsAtWork (said_in (facts_at t)) k.sessions x.live x.work
  branch_works x found = (let parts = branch_parts k x.live.me x found in subst (IsAtWork (said_in (facts_at t)) k.sessions x.live) (sym parts.1) (node_works.each x.live.me x.live parts.0))

  fit : SessionsFit k
  fit = (subst (λ o. IfSome o NodeRests) up (run_roots t lawful n)).0

  -- so a root waits whose statement is pending
  pub pending_waits : (g : BranchId) → StatementPends k g → IsWaiting (said_in (facts_at t)) k g
  pending_waits g pends =
      let live = lives g.session g pends.root (λ commits. (let is = pends.call in absurd (cc (is, commits)))) in
      let x : Branch = record { live = live.0; work = work_at k live.0.me } in
      let found : branch_at k g ≡ Some x = ap (with_work k) live.1 in
      let me : x.live.me ≡ g = branch_is k g x found in
      let root : x.live.parent ≡ None = root_alone k fit g.session g pends.root live.0 live.1 in
      let is : IsAtWork (said_in (facts_at t)) k.sessions x.live x.work = branch_works x (subst (λ b. branch_at k b ≡ Some x) (sym me) found) in
      let waits = is.works root (subst (λ (b : BranchId). (session_at k.sessions b.session).call ≡ pending.Statement) (sym me) pends.call) in
      record { branch = x; is_me = me; found = found; is_root = root; going = waits.0; waits = waits.1; sent = is.sent waits.0 waits.1 }
