-- In every lawful run a root that waits does so for the link of the statement that its session asked last.
use Rattle.std.proofs.Common.{◌≡◌, ◌⊎◌, ℕ, Bool, true, false, List, [], ◌∷◌, ◌++◌, length, IfSome, option_map, Option, Some, None, inl, inr, refl, sym, ap, subst, ◌∙◌, arith}
use Rattle.std.specs.Prelude.{take}
use Rattle.std.specs.List.{AllByRecursion}
use Rattle.std.proofs.lemmas.Bool.{cases_eq}
use Rattle.std.proofs.lemmas.List.{append_assoc}
use Rattle.tran_ids.proofs.NumberedLemmas.{set_or_before}
use Rattle.session_tree.specs.Live.{children_of, edge_at}
use Rattle.node_rules.specs.Data.{BranchId, Durable, Edge, Live, Stmt}
use Rattle.node_rules.specs.Data.stmts
use Rattle.node_rules.specs.declared.work.Errand.{Errand}
use Rattle.node_rules.specs.declared.work.Errand.TheVariants as errands
use Rattle.node_rules.specs.Data.inputs
use Rattle.node_rules.specs.declared.session.PendingCall.TheVariants as pending
use Rattle.node_rules.specs.declared.work.Going.{Going}
use Rattle.node_rules.specs.declared.work.Waits.{Waits}
use Rattle.node_rules.specs.declared.work.Waits.TheVariants as waiting
use Rattle.node_rules.specs.declared.work.Work.{Work}
use Rattle.node_rules.specs.Client.{waited_link, waits_on}
use Rattle.node_rules.specs.LiveBranches.{EachLive}
use Rattle.node_rules.specs.Names.{Behind, named_by, ref_of}
use Rattle.node_rules.specs.NodeState.{NodeState, branch_at}
use Rattle.node_rules.specs.Sessions.{session_at}
use Rattle.node_rules.specs.Turn.{heard, made, start_of, turn_of}
use Rattle.node_rules.specs.Words.{numbered, set_numbered}
use Rattle.node_rules.proofs.LiveLemmas.{branch_parts, each_same, none_live}
use Rattle.run_rules.specs.Births.{births_of}
use Rattle.run_rules.specs.Data.{Happening, Turn}
use Rattle.run_rules.specs.Data.happenings
use Rattle.run_rules.specs.Facts.{Facts, facts_after, facts_of, flat, kept_after, node_at, records_at, with_boot}
use Rattle.run_rules.specs.Lawful.{History, IsLawfulRun}
use Rattle.run_rules.proofs.AtNodeLemmas.{turn_elsewhere, turn_here}
use Rattle.run_rules.proofs.ListLemmas.{all_append}
use Rattle.run_base_laws.specs.InTurnLaws.{said_in}
use Rattle.run_base_laws.specs.RunEvents.{events_of}
use Rattle.run_base_laws.proofs.BirthRunLemmas.{run_births}
use Rattle.run_base_laws.proofs.EventsStandLemmas.{first_node, run_stands}
use Rattle.run_base_laws.proofs.InTurnLemmas.{numbered_map, peer}
use Rattle.run_base_laws.proofs.InTurnRunLemmas.{each_both, heard_calls}
use Rattle.run_base_laws.proofs.LawfulLemmas.{serves}
use Rattle.run_base_laws.proofs.RestLemmas.{Before, RootIs, free_waits}
use Rattle.run_base_laws.proofs.RestRunLemmas.{NodeRests, before_so, heard_before, heard_rests, run_roots}
use Rattle.run_base_laws.proofs.StoredLemmas.{records_are_kept}
use Rattle.tree_laws.proofs.AtTurn.{at_turn}
use Rattle.tree_laws.proofs.PrefixLemmas.{so_far, f_at, one_on}
use Rattle.tree_laws.proofs.TimeLemmas.{Part, part_on, keep_on}
use Rattle.tree_trail_laws.proofs.CallLemmas.{call_free}
use Rattle.answer_origin_laws.proofs.CatalogLemmas.{Extends, catalog, catalog_on}
use Rattle.answer_origin_laws.proofs.NameLemmas.{OneCatalog, catalog_kept}
use Rattle.answer_origin_laws.proofs.NoCallLemmas.{IsNoCall, all_since, many_since, no_call_since}
use Rattle.answer_origin_laws.proofs.PartLemmas.{split_at}
use Rattle.answer_origin_laws.proofs.ReplyRunLemmas.{happens_at, prefix}
use Rattle.answer_origin_laws.proofs.TurnTaleLemmas as tales
use Rattle.answer_laws.proofs.AtWorkLemmas.{is_back_errand, IsSentLast}
use Rattle.answer_laws.proofs.AtWorkRunLemmas.{IsWaiting, pending_waits}
use Rattle.answer_laws.proofs.LinkLemmas.{IsLinkOf, AsksBack, WaitsOver, IsLinked, Linked, linked_on}
use Rattle.answer_laws.proofs.StatementEndLemmas.{link_of_edge}
use Rattle.answer_laws.specs.EndLaws.{LastCall}
use Rattle.answer_laws.specs.LinkLaws.{IsLinkOfCall, IsLinkOfBack, StatementsWaitForTheirLinks}
use Rattle.answer_laws.specs.StatementEnds.{StatementPends, link_waited}

module _ (t : History) (whole : IsLawfulRun t) where
  -- The last call of a session in these happenings brought this statement.
  pub record AskedLast (hs : List Happening) (node session : ℕ) (s : Stmt) : Type 0 where
    pub before : List Happening
    pub turn : Turn
    pub later : List Happening
    pub since : before ++ happenings.Turn turn ∷ later ≡ hs
    pub here : turn.node ≡ node
    pub came : turn.input ≡ inputs.Call session (Some s)
    pub quiet : AllByRecursion (IsNoCall node session) later

  asked_on : (hs : List Happening) (h : Happening) (n m : ℕ) (s : Stmt) → IsNoCall n m h → AskedLast hs n m s → AskedLast (hs ++ h ∷ []) n m s
  asked_on hs h n m s other is = record {
    before = is.before;
    turn = is.turn;
    later = is.later ++ h ∷ [];
    since = sym (append_assoc is.before (happenings.Turn is.turn ∷ is.later) (h ∷ [])) ∙ ap (λ xs. xs ++ h ∷ []) is.since;
    here = is.here;
    came = is.came;
    quiet = all_append (IsNoCall n m) is.later (h ∷ []) is.quiet (other, tt);
  }

  -- the live branches of a node
  abbrev NodeLinked : List Happening → ℕ → Durable → NodeState → Type 0
  NodeLinked hs n D k = EachLive (IsLinked D (AskedLast hs n)) k.lives k.works

  abbrev LinkedAt : List Happening → Facts → Type 0
  LinkedAt hs f = (n : ℕ) (k : NodeState) → node_at f n ≡ Some k → NodeLinked hs n (catalog t whole hs n) k

  -- they stay so while catalogs grow, and no call comes
  module _ (D E : Durable) (grows : Extends D E) (Asks Asks1 : ℕ → Stmt → Type 0) (l : Live) (known : (s : Stmt) → Asks l.me.session s → Asks1 l.me.session s) where
    link_grows : (link : List ℕ) → IsLinkOf D Asks l.me.session link → IsLinkOf E Asks1 l.me.session link
    link_grows link is = (is.0, known is.0 is.1, is.2, grows.names _ link is.2 is.3)

    waits_grow : (errand : Errand) (waits : Waits) → WaitsOver D Asks l errand waits → WaitsOver E Asks1 l errand waits
    waits_grow (errands.Statement s given) (waiting.ForReply i) is = λ e at. link_grows e.link (is e at)
    waits_grow (errands.Statement s given) (waiting.ForOpened link) is = link_grows link is
    waits_grow (errands.GoBack step) waits is = (is.0, known (stmts.RollbackTo is.0) is.1)

  -- ---- a turn

  module _ (hs : List Happening) (u : Turn) (rest : List Happening) (is : hs ++ happenings.Turn u ∷ rest ≡ t.trace) (now : LinkedAt hs (f_at t hs)) where
    open at_turn t whole hs u rest is use {after as hs1, part_after as part1, s as s0, lawful as lawful0, f as f0, g as f1, may, k, p, d}

    even : length f0.nodes ≡ length f0.records
    even = (run_stands s0 lawful0).0.even

    rests : NodeRests k
    rests = subst (λ o. IfSome o NodeRests) may.1.up (run_roots s0 lawful0 u.node)

    before : Before u.input (heard k u.input)
    before = heard_before k u.input u.input (before_so t.places t.commands t.of_a_script.each f0 (events_of s0) (births_of s0) (run_births s0 lawful0) (run_roots s0 lawful0) u k may.1)

    grows : (n : ℕ) → Extends (catalog t whole hs n) (catalog t whole hs1 n)
    grows n = catalog_on t whole n hs (happenings.Turn u ∷ []) part1

    cat : OneCatalog (heard k u.input).stored.durable (catalog t whole hs u.node)
    cat = subst (λ s. OneCatalog s.durable (catalog t whole hs u.node)) (sym (tales.heard_stored t whole hs u rest is u.input)) (catalog_kept k (records_at f0 u.node) (records_are_kept s0 lawful0 u.node k may.1.up))

    -- no call comes to a root that waits
    uncalled : (y : Live) (v : Work) (g : Going) → y.parent ≡ None → RootIs k.sessions y v → v.going ≡ Some g → IsNoCall u.node y.me.session (happenings.Turn u)
    uncalled y v g root its going here s call =
        let free = (call_free f0 k u.node u.input u.took y.me.session s call may.1.comes).1 in
        let none : v.going ≡ None = (free_waits (session_at k.sessions y.me.session).call y.phase v.going (its root).waits free).1 in
        absurd (cc (none, going))

    begins : Linked (catalog t whole hs u.node) (AskedLast hs1 u.node) p u.input (λ n s call. record { before = hs; turn = u; later = []; since = refl; here = refl; came = call; quiet = tt }) (heard k u.input)
    begins =
        heard_calls (IsLinked (catalog t whole hs u.node) (AskedLast hs1 u.node)) k u.input
        (each_same (λ l w. IsLinked (catalog t whole hs u.node) (AskedLast hs u.node) l w × RootIs k.sessions l w) (IsLinked (catalog t whole hs u.node) (AskedLast hs1 u.node)) k.lives k.works
        (each_both (IsLinked (catalog t whole hs u.node) (AskedLast hs u.node)) (RootIs k.sessions) k.lives k.works (now u.node k may.1.up) rests.1)
        (λ y v live any was root g going. waits_grow (catalog t whole hs u.node) (catalog t whole hs u.node) (record { names = λ ref link table it. it; leads = λ q link n it. it }) (AskedLast hs u.node) (AskedLast hs1 u.node) y
        (λ s old. asked_on hs (happenings.Turn u) u.node y.me.session s (uncalled y v g root was.1 going) old) g.errand g.waits (was.0 root g going)))

    leaves : NodeLinked hs1 u.node (catalog t whole hs1 u.node) d.after
    leaves =
        each_same (IsLinked (catalog t whole hs u.node) (AskedLast hs1 u.node)) (IsLinked (catalog t whole hs1 u.node) (AskedLast hs1 u.node)) d.after.lives d.after.works
        (linked_on (catalog t whole hs u.node) (AskedLast hs1 u.node) p u.input (λ n s call. record { before = hs; turn = u; later = []; since = refl; here = refl; came = call; quiet = tt })
        (serves t.places f0 u k may.1).step (heard_rests k u.input rests).0 before.asked cat begins)
        (λ y v live any was root g going. waits_grow (catalog t whole hs u.node) (catalog t whole hs1 u.node) (grows u.node) (AskedLast hs1 u.node) (AskedLast hs1 u.node) y (λ s it. it) g.errand g.waits (was root g going))

    own : (cut : Bool) → u.cut ≡ cut → (j : NodeState) → node_at f1 u.node ≡ Some j → NodeLinked hs1 u.node (catalog t whole hs1 u.node) j
    unfolding turn_of
    own true cut j up = let none : node_at f1 u.node ≡ None = (turn_here t.places t.commands f0 even u k may.1.up).0 ∙ ap (λ c. kept_after c (Some (turn_of p k u.input))) cut in absurd (cc (none, up))
    own false cut j up =
        let after : node_at f1 u.node ≡ Some d.after = (turn_here t.places t.commands f0 even u k may.1.up).0 ∙ ap (λ c. kept_after c (Some (turn_of p k u.input))) cut in
        let both : Some d.after ≡ Some j = sym after ∙ up in
        let one : d.after ≡ j = cc in
        subst (NodeLinked hs1 u.node (catalog t whole hs1 u.node)) one leaves

  -- a node that a happening leaves as it was
  still_linked : (hs : List Happening) (h : Happening) (rest : List Happening) → hs ++ h ∷ rest ≡ t.trace → LinkedAt hs (f_at t hs) → (n : ℕ) → ((m : ℕ) → IsNoCall n m h) → (j : NodeState) → node_at (f_at t hs) n ≡ Some j
      → NodeLinked (hs ++ h ∷ []) n (catalog t whole (hs ++ h ∷ []) n) j
  still_linked hs h rest is now n other j up =
      each_same (IsLinked (catalog t whole hs n) (AskedLast hs n)) (IsLinked (catalog t whole (hs ++ h ∷ []) n) (AskedLast (hs ++ h ∷ []) n)) j.lives j.works (now n j up)
      (λ y v live any was root g going. waits_grow (catalog t whole hs n) (catalog t whole (hs ++ h ∷ []) n) (catalog_on t whole n hs (h ∷ []) (part_on t whole hs h rest is)) (AskedLast hs n) (AskedLast (hs ++ h ∷ []) n) y
      (λ s old. asked_on hs h n y.me.session s (other y.me.session) old) g.errand g.waits (was root g going))

  set_still : (f : Facts) (m n : ℕ) (o : Option NodeState) (j : NodeState) → flat (numbered (set_numbered f.nodes m o) n) ≡ Some j → (node_at f n ≡ Some j) ⊎ (o ≡ Some j)
  set_still f m n o j up = elim (set_or_before f.nodes m n o) [
    | inl old ↦ inl (sym (ap flat old) ∙ up)
    | inr new ↦ inr (sym (ap flat new.1) ∙ up)
  ]

  fresh_linked : (hs : List Happening) (n : ℕ) (D : Durable) (f : Facts) (m boot : ℕ) → NodeLinked hs n D (start_of (with_boot f m boot))
  unfolding start_of
  fresh_linked hs n D f m boot = none_live _

  linked_after : (hs : List Happening) (h : Happening) (rest : List Happening) → hs ++ h ∷ rest ≡ t.trace → LinkedAt hs (f_at t hs) → LinkedAt (hs ++ h ∷ []) (facts_after t.places t.commands (f_at t hs) h)
  unfolding facts_after
  linked_after hs (happenings.Turn u) rest is now n j up = elim (cases_eq u.node n) [
    | inl here ↦ subst (λ m. node_at (facts_after t.places t.commands (f_at t hs) (happenings.Turn u)) m ≡ Some j → NodeLinked (hs ++ happenings.Turn u ∷ []) m (catalog t whole (hs ++ happenings.Turn u ∷ []) m) j) here (λ up_here. own hs u rest is now u.cut refl j up_here) up
    | inr apart ↦ still_linked hs (happenings.Turn u) rest is now n (λ m here s call. apart here) j (sym (turn_elsewhere t.places t.commands (f_at t hs) (even hs u rest is now) u n apart).0 ∙ up)
  ]
  linked_after hs (happenings.Stopped m) rest is now n j up = elim (set_still (f_at t hs) m n None j up) [ inl old ↦ still_linked hs (happenings.Stopped m) rest is now n (λ q. tt) j old | inr new ↦ absurd cc ]
  linked_after hs (happenings.Started m boot) rest is now n j up = elim (set_still (f_at t hs) m n (Some (start_of (with_boot (f_at t hs) m boot))) j up) [
    | inl old ↦ still_linked hs (happenings.Started m boot) rest is now n (λ q. tt) j old
    | inr new ↦ (let both : Some (start_of (with_boot (f_at t hs) m boot)) ≡ Some j = new in let one : start_of (with_boot (f_at t hs) m boot) ≡ j = cc in
        subst (NodeLinked (hs ++ happenings.Started m boot ∷ []) n (catalog t whole (hs ++ happenings.Started m boot ∷ []) n)) one (fresh_linked (hs ++ happenings.Started m boot ∷ []) n (catalog t whole (hs ++ happenings.Started m boot ∷ []) n) (f_at t hs) m boot))
  ]
  linked_after hs (happenings.Begun c) rest is now n j up = still_linked hs (happenings.Begun c) rest is now n (λ q. tt) j up
  linked_after hs (happenings.Cut a b) rest is now n j up = still_linked hs (happenings.Cut a b) rest is now n (λ q. tt) j up
  linked_after hs (happenings.Join a b) rest is now n j up = still_linked hs (happenings.Join a b) rest is now n (λ q. tt) j up
  linked_after hs (happenings.Lost x) rest is now n j up = still_linked hs (happenings.Lost x) rest is now n (λ q. tt) j up

  made_linked : (n : ℕ) (D : Durable) → NodeLinked [] n D made
  unfolding start_of
  made_linked n D = none_live _

  first_linked : LinkedAt [] (f_at t [])
  unfolding facts_of
  first_linked n k up =
      subst (λ o. IfSome o (NodeLinked [] n (catalog t whole [] n))) up (first_node (λ o. IfSome o (NodeLinked [] n (catalog t whole [] n))) tt (made_linked n (catalog t whole [] n)) t.places n)

  pub all_linked : (hs : List Happening) → Part t whole hs → LinkedAt hs (f_at t hs)
  all_linked hs part = keep_on t whole (λ xs. LinkedAt xs (f_at t xs)) (λ xs h rest is now. subst (LinkedAt (xs ++ h ∷ [])) (sym (one_on t xs h)) (linked_after xs h rest is now)) [] hs part first_linked

-- ---- the law

module _ (t : History) (whole : IsLawfulRun t) (hs : List Happening) (u : Turn) (rest : List Happening) (is : hs ++ happenings.Turn u ∷ rest ≡ t.trace) (k : NodeState) (up : node_at (f_at t hs) u.node ≡ Some k) (g : BranchId)
    (pends : StatementPends k g) where
  open at_turn t whole hs u rest is use {part as part0, lawful as lawful0, f as f0, may}

  abbrev D : Durable
  D = catalog t whole hs u.node

  pub w : IsWaiting (said_in f0) k g
  w = pending_waits (so_far t hs) lawful0 u.node k up g pends

  linked : WaitsOver D (AskedLast t whole hs u.node) w.branch.live w.going.errand w.going.waits
  linked =
      let found : branch_at k w.branch.live.me ≡ Some w.branch = subst (λ b. branch_at k b ≡ Some w.branch) (sym w.is_me) w.found in
      let parts = branch_parts k w.branch.live.me w.branch found in
      subst (IsLinked D (AskedLast t whole hs u.node) w.branch.live) (sym parts.1) ((all_linked t whole hs part0 u.node k up).each w.branch.live.me w.branch.live parts.0) w.is_root w.going w.waits

  -- the edge that a branch waits over
  edge_there : (i : ℕ) → IsSentLast (said_in f0) w.branch.live.me (children_of w.branch.live) w.branch.work w.going.errand (waiting.ForReply i) → (o : Option Edge) → edge_at w.branch.live i ≡ o → (e : Edge) × (edge_at w.branch.live i ≡ Some e)
  edge_there i sent None none = absurd (let no : numbered (children_of w.branch.live) i ≡ None = numbered_map w.branch.live.edges i ∙ ap (option_map peer) none in let there = sent.2 in cc (no, there))
  edge_there i sent (Some e) at = (e, at)

  -- it waits over an edge with this link
  pub record OverLink : Type 0 where
    pub number : ℕ
    pub edge : Edge
    pub at : edge_at w.branch.live number ≡ Some edge
    pub link_is : edge.link ≡ waited_link w.branch.live w.branch.work.going

  over_reply : (i : ℕ) → w.going.waits ≡ waiting.ForReply i → IsSentLast (said_in f0) w.branch.live.me (children_of w.branch.live) w.branch.work w.going.errand (waiting.ForReply i) → OverLink
  over_reply i at sent = let e = edge_there i sent (edge_at w.branch.live i) refl in record { number = i; edge = e.0; at = e.1; link_is = sym (link_of_edge w.branch w.going i e.0 w.waits at e.1) }

  number_is : (i : ℕ) (at : w.going.waits ≡ waiting.ForReply i) (sent : IsSentLast (said_in f0) w.branch.live.me (children_of w.branch.live) w.branch.work w.going.errand (waiting.ForReply i)) → (over_reply i at sent).number ≡ i
  unfolding over_reply
  number_is i at sent = refl

  -- the link of a statement's table, or of a child that is to go back
  abbrev pub Its : BranchId → List ℕ → Type 0
  Its b link = IsLinkOf D (AskedLast t whole hs u.node) b.session link ⊎ (AsksBack D (AskedLast t whole hs u.node) b.session × OverLink)

  abbrev its_waited : List ℕ
  its_waited = waited_link w.branch.live w.branch.work.going

  over : (errand : Errand) (waits : Waits) → w.going.errand ≡ errand → w.going.waits ≡ waits → WaitsOver D (AskedLast t whole hs u.node) w.branch.live errand waits
      → IsSentLast (said_in f0) w.branch.live.me (children_of w.branch.live) w.branch.work w.going.errand waits → Its w.branch.live.me its_waited
  over (errands.Statement s given) (waiting.ForOpened link) is at it sent = inl (subst (IsLinkOf D (AskedLast t whole hs u.node) w.branch.live.me.session) (sym (ap (waited_link w.branch.live) w.waits ∙ ap (waits_on w.branch.live) at)) it)
  over (errands.Statement s given) (waiting.ForReply i) is at it sent =
      let e = over_reply i at sent in inl (subst (IsLinkOf D (AskedLast t whole hs u.node) w.branch.live.me.session) e.link_is (it e.edge (subst (λ n. edge_at w.branch.live n ≡ Some e.edge) (number_is i at sent) e.at)))
  over (errands.GoBack step) (waiting.ForReply i) is at it sent = inr (it, over_reply i at sent)
  over (errands.GoBack step) (waiting.ForOpened link) is at it sent = absurd (let no : true ≡ false = ap is_back_errand (sym is) ∙ sent.6 in cc no)

  its_link : Its g (link_waited (branch_at k g))
  its_link = subst (Its g) (sym (ap link_waited w.found)) (subst (λ b. Its b its_waited) w.is_me (over w.going.errand w.going.waits refl refl linked w.sent))

  module _ (s : Stmt) (c : AskedLast t whole hs u.node g.session s) where
    last : LastCall t u.node g.session (length hs)
    last = record {
      moment = length c.before;
      turn = c.turn;
      there = happens_at t c.before (happenings.Turn c.turn) (c.later ++ happenings.Turn u ∷ rest) (all_since t u.node g.session c.before (happenings.Turn c.turn) c.later hs u rest c.since is);
      here = c.here;
      text = Some s;
      came = c.came;
      soon = omega (arith, many_since t u.node g.session c.before (happenings.Turn c.turn) c.later hs u rest c.since is);
      last = no_call_since t u.node g.session c.before (happenings.Turn c.turn) c.later hs u rest c.since is c.quiet
          (λ here s call. (let free = (call_free f0 may.0 u.node u.input u.took g.session s call may.1.comes).1 in
          let both : Some may.0 ≡ Some k = sym may.1.up ∙ up in
          let one : may.0 ≡ k = cc in
          let waits : (session_at may.0.sessions g.session).call ≡ pending.Statement = subst (λ (j : NodeState). (session_at j.sessions g.session).call ≡ pending.Statement) (sym one) pends.call in
          absurd (cc (free, waits))));
    }

    text_is : last.text ≡ Some s
    unfolding last
    text_is = refl

  -- by the catalog at its number
  abbrev Has : ℕ → Type 0
  Has m = IsLinkOfCall t u.node g.session m (link_waited (branch_at k g)) ⊎ IsLinkOfBack t u.node g.session m (branch_at k g) (link_waited (branch_at k g))

  pub has_link : Has (length hs)
  has_link = by its_link
    where
      by : Its g (link_waited (branch_at k g)) → Has (length hs)
      by (inl link) = inl (record {
        call = last link.0 link.1;
        statement = link.0;
        its = text_is link.0 link.1;
        table = link.2;
        named = subst (λ xs. named_by (catalog t whole xs u.node) (ref_of link.0) ≡ Behind (link_waited (branch_at k g)) link.2) (sym (prefix t hs (happenings.Turn u) rest is)) link.3;
      })
      by (inr back) = inr (record {
        call = last (stmts.RollbackTo back.0.0) back.0.1;
        name = back.0.0;
        its = text_is (stmts.RollbackTo back.0.0) back.0.1;
        branch = w.branch;
        is_it = w.found;
        number = back.1.number;
        edge = back.1.edge;
        at = back.1.at;
        link_is = back.1.link_is ∙ sym (ap link_waited w.found);
      })

pub statements_wait_for_their_links : StatementsWaitForTheirLinks
statements_wait_for_their_links t whole i u there k up g pends =
    let at = split_at t.trace i (happenings.Turn u) there in
    let first : take i t.trace ≡ at.0 = ap (λ m. take m t.trace) (sym at.3) ∙ prefix t at.0 (happenings.Turn u) at.1 at.2 in
    let up_here : node_at (f_at t at.0) u.node ≡ Some k = ap (λ xs. node_at (f_at t xs) u.node) (sym first) ∙ up in
    subst (λ m. IsLinkOfCall t u.node g.session m (link_waited (branch_at k g)) ⊎ IsLinkOfBack t u.node g.session m (branch_at k g) (link_waited (branch_at k g))) at.3 (has_link t whole at.0 u at.1 at.2 k up_here g pends)
