-- What is known of each node by the messages that were sent: a happening keeps it where its turn does, and so does every run.
use Rattle.std.proofs.Common.{◌≡◌, ◌≢◌, ℕ, Bool, true, false, List, [], ◌∷◌, ◌++◌, length, map, Option, Some, None, inl, inr, refl, sym, ap, subst, ◌∙◌, append-nil}
use Rattle.std.specs.Prelude.{IfSome}
use Rattle.tran_ids.proofs.NumberedLemmas.{set_or_before}
use Rattle.node_rules.specs.Data.{Place, Post, RedoRecord}
use Rattle.node_rules.specs.Words.{numbered, set_numbered}
use Rattle.node_rules.specs.NodeState.{NodeState}
use Rattle.node_rules.specs.Turn.{turn_of, start_of, draft_of}
use Rattle.run_rules.specs.Data.{Turn, Happening, Command}
use Rattle.run_rules.specs.Data.happenings
use Rattle.run_rules.specs.Facts.{Facts, first_facts, place_at, flat, node_at, kept_after, with_boot, facts_after, facts_of}
use Rattle.run_base_laws.specs.InTurnLaws.{post_of, said_in}
use Rattle.run_rules.specs.Lawful.{IsOwed, MayHappen, MayTurn, History, IsLawfulRun, facts_at}
use Rattle.run_rules.proofs.AtNodeLemmas.{turn_elsewhere, turn_here}
use Rattle.run_base_laws.proofs.EventsStandLemmas.{first_node, run_stands}
use Rattle.run_base_laws.proofs.SaidPostLemmas.{posts_back, posts_of, said_after}
use Rattle.run_base_laws.proofs.TurnEventLemmas.{cases_nat}
use Rattle.run_base_laws.proofs.OneTurn.{one_turn}
use Rattle.tree_laws.proofs.PrefixLemmas.{so_far, f_at, one_on, keep_prefix}

-- so it is of each node that is up, and of what was said
abbrev pub EachNode : (List Post → NodeState → Type 0) → Facts → Type 0
EachNode N f = (n : ℕ) → IfSome (node_at f n) (N (said_in f))

module _ (places : List Place) (asked : List Command) (f : Facts) where
  abbrev said : List Post
  said = said_in f

  -- ---- a turn

  module _ (even : length f.nodes ≡ length f.records) (u : Turn) (k : NodeState) (may : MayTurn places f u k) where
    open one_turn places asked f u k use {p, d, g}

    here : node_at g u.node ≡ kept_after u.cut (Some (turn_of p k u.input))
    here = (turn_here places asked f even u k may.up).0

    says_by : (M : List Post → Type 0) → (node_at g u.node ≡ None → M said) → (node_at g u.node ≡ Some d.after → M (said ++ d.says)) → (cut : Bool) → u.cut ≡ cut → IsOwed p k u.input u.wrote u.sent cut → M (said_in g)
    unfolding turn_of
    says_by M none all true cut owed =
        subst M (sym (said_after places asked f (happenings.Turn u) ∙ (ap (λ xs. said ++ map post_of xs) owed.1 ∙ append-nil said))) (none (here ∙ ap (λ c. kept_after c (Some (turn_of p k u.input))) cut))
    says_by M none all false cut owed =
        subst M (sym (said_after places asked f (happenings.Turn u) ∙ ap (λ xs. said ++ xs) (ap (λ xs. map post_of xs) owed.1 ∙ posts_back d.after.clock d.says))) (all (here ∙ ap (λ c. kept_after c (Some (turn_of p k u.input))) cut))

    -- a turn that was cut said nothing and left its node down; each other said all, and left what it made
    pub turn_says : (M : List Post → Type 0) → (node_at g u.node ≡ None → M said) → (node_at g u.node ≡ Some d.after → M (said ++ d.says)) → M (said_in g)
    turn_says M none all = says_by M none all u.cut refl may.owed

    module _ (N : List Post → NodeState → Type 0) (now : EachNode N f) where
      elsewhere : (xs : List Post) → ((m : ℕ) → m ≢ u.node → (j : NodeState) → node_at f m ≡ Some j → N said j → N xs j) → (m : ℕ) → m ≢ u.node → IfSome (node_at g m) (N xs)
      elsewhere xs stays m other = subst (λ o. IfSome o (N xs)) (sym (turn_elsewhere places asked f even u m (λ e. other (sym e))).0) (by (node_at f m) refl (now m))
        where
          by : (o : Option NodeState) → node_at f m ≡ o → IfSome o (N said) → IfSome o (N xs)
          by None up old = tt
          by (Some j) up old = stays m other j up old

      everywhere : (xs : List Post) → IfSome (node_at g u.node) (N xs) → ((m : ℕ) → m ≢ u.node → (j : NodeState) → node_at f m ≡ Some j → N said j → N xs j) → (m : ℕ) → IfSome (node_at g m) (N xs)
      everywhere xs own stays m = elim (cases_nat m u.node) [ inl at ↦ subst (λ i. IfSome (node_at g i) (N xs)) (sym at) own | inr other ↦ elsewhere xs stays m other ]

      -- a turn keeps it where it leaves it so at its node, and its messages leave it so at the others
      pub turn_nodes : N (said ++ d.says) d.after → ((m : ℕ) → m ≢ u.node → (j : NodeState) → node_at f m ≡ Some j → N said j → N (said ++ d.says) j) → EachNode N g
      turn_nodes own stays =
          turn_says (λ xs. (m : ℕ) → IfSome (node_at g m) (N xs))
          (λ down. everywhere said (subst (λ o. IfSome o (N said)) (sym down) tt) (λ m other j up old. old))
          (λ up. everywhere (said ++ d.says) (subst (λ o. IfSome o (N (said ++ d.says))) (sym up) own) stays)

  -- ---- other happenings

  -- nothing is said
  pub quiet_says : (M : List Post → Type 0) (h : Happening) → posts_of h ≡ [] → M said → M (said_in (facts_after places asked f h))
  quiet_says M h none now = subst M (sym (said_after places asked f h ∙ (ap (λ xs. said ++ xs) none ∙ append-nil said))) now

  pub says_on : (M : List Post → Type 0) → M said → ((u : Turn) (k : NodeState) → MayTurn places f u k → M (said_in (facts_after places asked f (happenings.Turn u)))) → (h : Happening) → MayHappen places asked f h → M (said_in (facts_after places asked f h))
  says_on M now turn (happenings.Turn u) may = turn u may.0 may.1
  says_on M now turn (happenings.Stopped m) may = quiet_says M (happenings.Stopped m) refl now
  says_on M now turn (happenings.Started m boot) may = quiet_says M (happenings.Started m boot) refl now
  says_on M now turn (happenings.Begun c) may = quiet_says M (happenings.Begun c) refl now
  says_on M now turn (happenings.Cut a b) may = quiet_says M (happenings.Cut a b) refl now
  says_on M now turn (happenings.Join a b) may = quiet_says M (happenings.Join a b) refl now
  says_on M now turn (happenings.Lost i) may = quiet_says M (happenings.Lost i) refl now

  module _ (N : List Post → NodeState → Type 0) (begun : (ms : List Post) (rs : List RedoRecord) → N ms (start_of rs)) (now : EachNode N f) where
    -- a node that is set
    set_node : (m i : ℕ) (o : Option NodeState) → IfSome o (N said) → IfSome (flat (numbered (set_numbered f.nodes m o) i)) (N said)
    set_node m i o new = elim (set_or_before f.nodes m i o) [
      | inl still ↦ subst (λ x. IfSome (flat x) (N said)) (sym still) (now i)
      | inr set ↦ subst (λ x. IfSome (flat x) (N said)) (sym set.1) new
    ]

    still : (h : Happening) → posts_of h ≡ [] → ((i : ℕ) → IfSome (node_at (facts_after places asked f h) i) (N said)) → EachNode N (facts_after places asked f h)
    still h none nodes i = quiet_says (λ xs. IfSome (node_at (facts_after places asked f h) i) (N xs)) h none (nodes i)

    -- each happening keeps it where each turn does
    pub nodes_on : ((u : Turn) (k : NodeState) → MayTurn places f u k → EachNode N (facts_after places asked f (happenings.Turn u))) → (h : Happening) → MayHappen places asked f h → EachNode N (facts_after places asked f h)
    unfolding facts_after
    nodes_on turn (happenings.Turn u) may = turn u may.0 may.1
    nodes_on turn (happenings.Stopped m) may = still (happenings.Stopped m) refl (λ i. set_node m i None tt)
    nodes_on turn (happenings.Started m boot) may = still (happenings.Started m boot) refl (λ i. set_node m i (Some (start_of (with_boot f m boot))) (begun said (with_boot f m boot)))
    nodes_on turn (happenings.Begun c) may = still (happenings.Begun c) refl now
    nodes_on turn (happenings.Cut a b) may = still (happenings.Cut a b) refl now
    nodes_on turn (happenings.Join a b) may = still (happenings.Join a b) refl now
    nodes_on turn (happenings.Lost i) may = still (happenings.Lost i) refl now

-- ---- every run

module _ (N : List Post → NodeState → Type 0) (begun : (ms : List Post) (rs : List RedoRecord) → N ms (start_of rs)) where
  pub nodes_first : (places : List Place) → EachNode N (first_facts places)
  nodes_first places n = first_node (λ o. IfSome o (N [])) tt (begun [] _) places n

  module _ (t : History) (more : (said says : List Post) (k : NodeState) → N said k → N (said ++ says) k)
      (turn : (before : List Happening) → IsLawfulRun (so_far t before) → EachNode N (f_at t before) → (u : Turn) (k : NodeState) → MayTurn t.places (f_at t before) u k
      → N (said_in (f_at t before) ++ (draft_of (place_at t.places u.node) k u.input).says) (draft_of (place_at t.places u.node) k u.input).after) where
    goes_on : (before : List Happening) (h : Happening) → IsLawfulRun (so_far t before) → MayHappen t.places t.commands (f_at t before) h → EachNode N (f_at t before) → EachNode N (f_at t (before ++ h ∷ []))
    goes_on before h lawful may now =
        subst (EachNode N) (sym (one_on t before h))
        (nodes_on t.places t.commands (f_at t before) N begun now
        (λ u k may. turn_nodes t.places t.commands (f_at t before) (run_stands (so_far t before) lawful).0.even u k may N now (turn before lawful now u k may) (λ m other j up old. more _ _ j old)) h may)

    first : EachNode N (f_at t [])
    unfolding facts_of
    first = nodes_first t.places

    -- what more messages leave so, and what each turn makes so, is so at the end of every run
    pub nodes_end : IsLawfulRun t → EachNode N (facts_at t)
    nodes_end lawful = keep_prefix t (λ hs. EachNode N (f_at t hs)) goes_on lawful first

    pub node_end : IsLawfulRun t → (n : ℕ) (k : NodeState) → node_at (facts_at t) n ≡ Some k → N (said_in (facts_at t)) k
    node_end lawful n k up = subst (λ o. IfSome o (N (said_in (facts_at t)))) up (nodes_end lawful n)
