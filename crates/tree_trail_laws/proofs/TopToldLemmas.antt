-- A turn leaves what is told of live roots as their nodes keep it.
use Rattle.std.proofs.Common.{◌≡◌, ◌≢◌, ℕ, ◌==◌, ◌&&◌, Bool, true, false, is_none, List, ◌∷◌, ◌++◌, map, Option, Some, None, refl, sym, ap, subst, ◌∙◌}
use Rattle.std.specs.List.{AllByRecursion, list_any}
use Rattle.std.proofs.lemmas.Bool.{and_left, ne_eqb}
use Rattle.tran_ids.proofs.BranchLemmas.{equal_from_same}
use Rattle.tran_ids.proofs.ListedLemmas.{item_is}
use Rattle.reco.specs.declared.post.Post.{Post}
use Rattle.agreement.specs.Events.{Exit, Quiet, exit}
use Rattle.session_tree.specs.Live.{children_of}
use Rattle.node_rules.specs.Data.{BranchId, Live, Msg, Input}
use Rattle.node_rules.specs.Data.inputs
use Rattle.node_rules.specs.Data.phases
use Rattle.node_rules.specs.Data.stmts
use Rattle.node_rules.specs.Words.{same, is_item_of}
use Rattle.node_rules.specs.Inputs.{IsCall}
use Rattle.node_rules.specs.NodeState.{NodeState, live_id, live_at}
use Rattle.node_rules.specs.Turn.{turn_of, output_of, draft_of, stamped}
use Rattle.run_rules.specs.Branches.{Seen, is_live_at, is_root_of, seen_id, seen_at, plan_at}
use Rattle.run_rules.specs.Data.{Took, Turn, Happening}
use Rattle.run_rules.specs.Data.happenings
use Rattle.run_rules.specs.Facts.{node_at, served, outcome_at}
use Rattle.run_branch_laws.specs.HeardLaws.{QuietIs}
use Rattle.run_base_laws.specs.InTurnLaws.{post_of, packet_post, said_in}
use Rattle.run_rules.specs.Lawful.{MayHappen, Comes, IsOwed, History, IsLawfulRun, facts_at}
use Rattle.run_branch_laws.specs.PhaseLaws.{PhaseFits}
use Rattle.run_rules.specs.Runs.{answered_by, is_refused}
use Rattle.run_base_laws.specs.RunEvents.{with_record, events_of}
use Rattle.run_rules.specs.Trail.{children_after, recorded_exit, is_quiet}
use Rattle.run_rules.proofs.AtNodeLemmas.{turn_elsewhere}
use Rattle.run_base_laws.proofs.EventsStandLemmas.{run_stands, nodes_are_as_events, ids_name_their_node}
use Rattle.run_branch_laws.proofs.HeardStandLemmas.{quiets_are_gone}
use Rattle.run_base_laws.proofs.LaterLemmas.{turn_added, exit_later}
use Rattle.run_rules.proofs.ListLemmas.{all_map}
use Rattle.run_base_laws.proofs.NodeLemmas.{kept_alone}
use Rattle.run_base_laws.proofs.OwnLemmas.{all_found}
use Rattle.run_branch_laws.proofs.PhaseLemmas.{phases_fit}
use Rattle.run_base_laws.proofs.RootLemmas.{SessionsFit, sessions_keep}
use Rattle.run_base_laws.proofs.SaidPostLemmas.{said_after}
use Rattle.tree_laws.proofs.PrefixLemmas.{f_at, e_at, one_on, more_on}
use Rattle.tree_laws.proofs.TimeLemmas.{may_of}
use Rattle.tree_trail_laws.specs.LowerLaws.{AreVoted, IsTracedLive}
use Rattle.tree_trail_laws.specs.SeenLaws.{TracesTops, SeesRoots}
use Rattle.tree_trail_laws.proofs.ChildRunLemmas.{tells_at}
use Rattle.tree_trail_laws.proofs.ChildTurnLemmas as kids
use Rattle.tree_trail_laws.proofs.ChildTurnLemmas.{all_behind, Tells}
use Rattle.tree_trail_laws.proofs.LowerTurnLemmas.{unrecorded, quiet_gone}
use Rattle.tree_trail_laws.proofs.MomentLemmas.{tr_at}
use Rattle.tree_trail_laws.proofs.PlanLemmas.{find_more}
use Rattle.tree_trail_laws.proofs.SeenLemmas.{begun, turned}
use Rattle.tree_trail_laws.proofs.TopBirthLemmas.{IsBorn, Counts}
use Rattle.tree_trail_laws.proofs.TopTrailLemmas.{told_so, none_drops, same_voted, same_collects, none_planned}
use Rattle.tree_trail_laws.proofs.UntouchedLemmas.{Concerns_root}
use Rattle.tree_laws.proofs.AtTurn.{at_turn}
use Rattle.tree_trail_laws.proofs.AtTrail.{at_trail}

-- ---- a turn

module _ (t : History) (whole : IsLawfulRun t) (hs : List Happening) (u : Turn) (rest : List Happening) (is : hs ++ happenings.Turn u ∷ rest ≡ t.trace)
    (tops : TracesTops (f_at t hs) (tr_at t hs)) (sees : SeesRoots (f_at t hs) (tr_at t hs)) (counts : Counts t whole (f_at t hs) (tr_at t hs)) (born : AllByRecursion (λ s. IsBorn t whole hs s.me) (tr_at t hs).seen)
    (plans : AllByRecursion (λ x. IsBorn t whole hs x.root) (tr_at t hs).plans) where
  open at_turn t whole hs u rest is use {after as hs1, part as part0, s as s0, s_after as s1, lawful as lawful0, lawful_after as lawful1, f as f0, g as f1, k, p, d}
  open at_trail t hs u use {tr as tr0, tr_on as tr1}

  pub tells : Tells t whole hs
  tells = tells_at t whole hs part0

  abbrev pub may : MayHappen t.places t.commands f0 (happenings.Turn u)
  may = may_of t whole hs (happenings.Turn u) rest is

  pub fit : SessionsFit k
  fit = kept_alone SessionsFit sessions_keep s0 lawful0 u.node k may.1.up

  -- what the turn came to
  pub outcome_is : (input : Input) → u.input ≡ input → outcome_at t.places f0 u ≡ Some (output_of (draft_of p k input))
  unfolding turn_of
  outcome_is input came = ap (λ i. served p i (node_at f0 u.node)) came ∙ ap (served p input) may.1.up

  pub sent_is : u.cut ≡ false → u.sent ≡ map (stamped d.after.clock) d.says
  unfolding turn_of
  sent_is cut = (subst (λ c. IsOwed p k u.input u.wrote u.sent c) cut may.1.owed).1

  -- ---- one that is live after the turn

  module _ (n : ℕ) (j : NodeState) (up : node_at f1 n ≡ Some j) (l : Live) (live : live_at j l.me ≡ Some l) where
    pub up1 : node_at (facts_at s1) n ≡ Some j
    up1 = ap (λ f. node_at f n) (one_on t hs (happenings.Turn u)) ∙ up

    pub no_exit : exit (events_of s1) l.me ≡ None
    no_exit = all_found (λ (y : Live). exit (events_of s1) y.me ≡ None) live_id j.lives l.me l (nodes_are_as_events s1 lawful1 n j up1).0 live

    exit_not : (o : Option Exit) → exit (with_record u (e_at t hs)) l.me ≡ o → o ≡ None
    exit_not None at = refl
    exit_not (Some x) at =
        let later : exit (events_of s1) l.me ≡ Some x = subst (λ e. exit e l.me ≡ Some x) (sym (more_on t hs (happenings.Turn u))) (exit_later l.me x (turn_added f0 f1 u (e_at t hs)) at) in
        let none = no_exit in
        absurd (cc (later, none))

    pub unwritten : recorded_exit l.me u.wrote ≡ None
    unwritten = unrecorded u.node (e_at t hs) l.me u.wrote (exit_not (exit (with_record u (e_at t hs)) l.me) refl)

    said_true : AllByRecursion (λ (x : Post). QuietIs (events_of s1) x.from x.kind) (map post_of u.sent)
    said_true =
        let all : AllByRecursion (λ (x : Post). QuietIs (events_of s1) x.from x.kind) (said_in (facts_at s1)) = all_map (λ (x : Post). QuietIs (events_of s1) x.from x.kind) packet_post (facts_at s1).net.packets (quiets_are_gone s1 lawful1) in
        let says : said_in (facts_at s1) ≡ said_in f0 ++ map post_of u.sent = ap said_in (one_on t hs (happenings.Turn u)) ∙ said_after t.places t.commands f0 (happenings.Turn u) in
        all_behind (λ (x : Post). QuietIs (events_of s1) x.from x.kind) (said_in f0) (map post_of u.sent) (subst (AllByRecursion (λ (x : Post). QuietIs (events_of s1) x.from x.kind)) says all)

    pub unquiet : list_any (is_quiet l.me) u.sent ≡ false
    unquiet = by (list_any (is_quiet l.me) u.sent) refl
      where
        by : (q : Bool) → list_any (is_quiet l.me) u.sent ≡ q → q ≡ false
        by true quiet = (let gone : exit (events_of s1) l.me ≡ Some Quiet = quiet_gone (events_of s1) l.me u.sent said_true quiet in let none = no_exit in absurd (cc (gone, none)))
        by false loud = refl

    pub fits : PhaseFits l.parent l.edges l.phase
    fits = all_found (λ (x : Live). PhaseFits x.parent x.edges x.phase) live_id j.lives l.me l (phases_fit s1 lawful1 n j up1) live

    module _ (top : l.parent ≡ None) where
      -- what is told of it, and of its plan
      abbrev pub Told : Type 0
      Told = (s : Seen) × (seen_at tr1 l.me ≡ Some s) × IsTracedLive l s × (l.phase ≡ phases.Working → plan_at tr1 l.me ≡ None)

      pub with_plan : (s : Seen) × (seen_at tr1 l.me ≡ Some s) × IsTracedLive l s → (l.phase ≡ phases.Working → plan_at tr1 l.me ≡ None) → Told
      with_plan it none = (it.0, it.1, it.2, none)

      pub old_begun : (s : Seen) → seen_at tr0 l.me ≡ Some s → seen_at (begun t.places f0 tr0 u) l.me ≡ Some s
      old_begun s at = find_more (is_item_of seen_id l.me) tr0.seen _ s at

      -- ---- one to which nothing comes

      pub untouched : (s : Seen) → s.me ≡ l.me → seen_at tr0 l.me ≡ Some s → IsTracedLive l s → (l.phase ≡ phases.Working → plan_at tr0 l.me ≡ None) → children_after s.me s.children u.sent ≡ children_of l
          → ((m : Msg) → u.input ≡ inputs.Message m → same m.to s.me ≡ false) → ((session : ℕ) → Concerns_root u.input session → is_root_of u.node session s ≡ false)
          → ((session : ℕ) (given : Option (List ℕ)) → IsCall u.input session (stmts.Commit given) → l.me.node ≡ u.node → l.me.session ≡ session → is_refused (answered_by (outcome_at t.places f0 u)) ≡ true) → Told
      untouched s me at was none silent not_to not_root refused =
          let votes : (turned t.places f0 tr0 u s).voted ≡ s.voted = same_voted t.places f0 tr0 u s not_to not_root in
          let begins : (turned t.places f0 tr0 u s).collects ≡ s.collects = same_collects t.places f0 tr0 u s not_to not_root in
          with_plan
          (told_so t.places f0 tr0 u l top fits unwritten unquiet s me (old_begun s at) was.live (was.parent ∙ top) silent was.read_at (none_drops t.places f0 tr0 u s not_to not_root)
          (λ working. (let had = was.working working in (begins ∙ had.0, votes ∙ had.1))) (λ busy. (let had = was.collects busy in (begins ∙ had.0, subst (λ vs. AreVoted vs l.edges) (sym votes) had.1))))
          (λ working. none_planned t.places f0 tr0 u l.me refused (none working))

  -- ---- another node

  silent_else : (b : BranchId) (cs : List BranchId) → b.node ≢ u.node → children_after b cs u.sent ≡ cs
  silent_else b cs other = kids.silent_else t whole hs u rest is tells b cs other

  came_here : (m : Msg) (took : Option Took) → Comes f0 k u.node (inputs.Message m) took → m.to.node ≡ u.node
  came_here m None comes = absurd comes
  came_here m (Some x) comes = comes.1.here

  pub elsewhere : (n : ℕ) (j : NodeState) → u.node ≢ n → (up : node_at f1 n ≡ Some j) (l : Live) (live : live_at j l.me ≡ Some l) (top : l.parent ≡ None) → Told n j up l live top
  elsewhere n j other up l live top =
      let before : node_at f0 n ≡ Some j = sym (turn_elsewhere t.places t.commands f0 (run_stands s0 lawful0).0.even u n other).0 ∙ up in
      let own : l.me.node ≡ n = all_found (λ l. l.me.node ≡ n) live_id j.lives l.me l (ids_name_their_node s0 lawful0 n j before).lives live in
      let it = tops n j before l live top in
      let me : it.0.me ≡ l.me = item_is seen_id tr0.seen l.me it.0 it.1 in
      let there : it.0.me.node ≡ n = ap (λ (b : BranchId). b.node) me ∙ own in
      untouched n j up l live top it.0 me it.1 it.2 it.3 (ap (λ b. children_after b it.0.children u.sent) me ∙ (ap (λ cs. children_after l.me cs u.sent) it.2.children ∙ silent_else l.me (children_of l) (λ same_one. other (sym same_one ∙ own))))
      (λ m came. not_here m came it.0 there)
      (λ session its. and_left (is_live_at u.node it.0) (is_none it.0.parent && (it.0.me.session == session)) (and_left (it.0.me.node == u.node) (is_none it.0.exit) (ne_eqb it.0.me.node u.node (λ at. other (sym at ∙ there)))))
      (λ session given call at same_one. absurd (other (sym at ∙ own)))
    where
      not_here : (m : Msg) → u.input ≡ inputs.Message m → (s : Seen) → s.me.node ≡ n → same m.to s.me ≡ false
      not_here m came s own = by (same m.to s.me) refl
        where
          by : (q : Bool) → same m.to s.me ≡ q → q ≡ false
          by true here = (let to : m.to.node ≡ s.me.node = ap (λ (b : BranchId). b.node) (equal_from_same m.to s.me here) in absurd (other (sym (came_here m u.took (subst (λ i. Comes f0 k u.node i u.took) came may.1.comes)) ∙ (to ∙ own))))
          by false apart = refl
