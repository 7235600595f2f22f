-- What each node of a lawful run keeps, by what starts and the steps of turns keep. Laws of nodes go through `node_keeps`,
-- laws of happenings through `each_of_nodes` and `each_that_may`, laws that follow a run with its trail through `run_keeps`
-- and `each_of_run`.
use Rattle.std.proofs.Common.{◌≡◌, ℕ, zero, suc, ◌+◌, Bool, true, false, List, [], ◌∷◌, ◌++◌, map, length, max, IfSome, unwrap_or, Option, Some, None, inl, inr, refl, sym, ap, subst, subst₂, ◌∙◌, append-nil}
use Rattle.std.specs.Prelude.{◌⊎◌}
use Rattle.std.specs.Option.{option_to_list}
use Rattle.tran_ids.proofs.NumberedLemmas.{set_length, set_or_before}
use Rattle.node_rules.specs.Data.{RedoRecord, Place, Input}
use Rattle.node_rules.specs.Data.inputs
use Rattle.node_rules.specs.Data.records
use Rattle.node_rules.specs.Words.{numbered, set_numbered}
use Rattle.node_rules.specs.NodeState.{NodeState, Stored, TurnDraft, raised}
use Rattle.node_rules.specs.Turn.{turn_of, start_of, made, kept_by, heard, kind_scn, draft_of}
use Rattle.node_rules.proofs.Steps.{Step}
use Rattle.run_rules.specs.Data.{Turn, Happening, Command}
use Rattle.run_rules.specs.Data.happenings
use Rattle.run_rules.specs.Facts.{Facts, first_facts, place_at, flat, node_at, records_at, kept_after, served, with_boot, facts_turned, facts_after}
use Rattle.run_rules.specs.Branches.{Trail, no_trail}
use Rattle.run_rules.specs.Trail.{trail_after, trail_of}
use Rattle.run_rules.specs.Each.{AtEach}
use Rattle.run_rules.specs.Lawful.{MayHappen, MayTurn, IsOwed, boots, History, IsLawfulRun, facts_at}
use Rattle.run_base_laws.specs.NodeLaws.{AtEachFact, OfEachNode}
use Rattle.run_rules.proofs.ListLemmas.{set_both}
use Rattle.run_base_laws.proofs.LawfulLemmas.{lawful_keeps, lawful_each, of_facts, Serves, of_wrote, serves}
use Rattle.read_only_tx.specs.Versions.{Versions}

-- ---- what a happening does to one node

-- What becomes of what a node keeps and of the records on its disk.
pub data Goes (places : List Place) (f : Facts) (n : ℕ) : Option NodeState → List RedoRecord → Type 0 where
  Stays : Goes places f n (node_at f n) (records_at f n)
  Turns : (u : Turn) (k : NodeState) → MayTurn places f u k → u.node ≡ n
      → Goes places f n (Some (turn_of (place_at places n) k u.input).after) (records_at f n ++ option_to_list (turn_of (place_at places n) k u.input).wrote)
  Is_cut : (u : Turn) (k : NodeState) → MayTurn places f u k → u.node ≡ n → Goes places f n None (records_at f n ++ option_to_list u.wrote)
  Stops : Goes places f n None (records_at f n)
  Starts : (boot : ℕ) → node_at f n ≡ None → boot ≡ boots (records_at f n) + 1 → Goes places f n (Some (start_of (with_boot f n boot))) (with_boot f n boot)

module _ (places : List Place) (f : Facts) where
  -- a node and its disk that are both set
  set_goes : (m : ℕ) (o : Option NodeState) (rs : List RedoRecord) (n : ℕ) → length f.nodes ≡ length f.records → Goes places f m o rs
      → Goes places f n (flat (numbered (set_numbered f.nodes m o) n)) (unwrap_or (numbered (set_numbered f.records m rs) n) [])
  set_goes m o rs n even goes = at (set_both f.nodes f.records m n o rs even)
    where
      at : ((numbered (set_numbered f.nodes m o) n ≡ numbered f.nodes n) × (numbered (set_numbered f.records m rs) n ≡ numbered f.records n))
          ⊎ ((m ≡ n) × (numbered (set_numbered f.nodes m o) n ≡ Some o) × (numbered (set_numbered f.records m rs) n ≡ Some rs))
          → Goes places f n (flat (numbered (set_numbered f.nodes m o) n)) (unwrap_or (numbered (set_numbered f.records m rs) n) [])
      at (inl still) = subst₂ (λ x y. Goes places f n (flat x) (unwrap_or y [])) (sym still.0) (sym still.1) Stays
      at (inr new) = subst₂ (λ x y. Goes places f n (flat x) (unwrap_or y [])) (sym new.1) (sym new.2) (subst (λ j. Goes places f j o rs) new.0 goes)

  -- a turn of a node sets both
  turn_goes : (u : Turn) (k : NodeState) (cut : Bool) → MayTurn places f u k → IsOwed (place_at places u.node) k u.input u.wrote u.sent cut
      → Goes places f u.node (kept_after cut (Some (turn_of (place_at places u.node) k u.input))) (records_at f u.node ++ option_to_list u.wrote)
  turn_goes u k true may owed = Is_cut u k may refl
  turn_goes u k false may owed = subst (λ w. Goes places f u.node (Some (turn_of (place_at places u.node) k u.input).after) (records_at f u.node ++ option_to_list w)) (sym owed.0) (Turns u k may refl)

  -- a stop leaves the disk
  stop_goes : (m n : ℕ) → Goes places f n (flat (numbered (set_numbered f.nodes m None) n)) (records_at f n)
  stop_goes m n = at (set_or_before f.nodes m n None)
    where
      at : (numbered (set_numbered f.nodes m None) n ≡ numbered f.nodes n) ⊎ ((m ≡ n) × (numbered (set_numbered f.nodes m None) n ≡ Some None))
          → Goes places f n (flat (numbered (set_numbered f.nodes m None) n)) (records_at f n)
      at (inl still) = subst (λ x. Goes places f n (flat x) (records_at f n)) (sym still) Stays
      at (inr new) = subst (λ x. Goes places f n (flat x) (records_at f n)) (sym new.1) Stops

  module _ (asked : List Command) (even : length f.nodes ≡ length f.records) where
    -- each happening that may come does one of these to each node
    pub goes_so : (h : Happening) (n : ℕ) → MayHappen places asked f h → Goes places f n (node_at (facts_after places asked f h) n) (records_at (facts_after places asked f h) n)
    unfolding facts_after
    goes_so (happenings.Turn u) n may =
        subst (λ o. Goes places f n (node_at (facts_turned f u (served (place_at places u.node) u.input o)) n) (records_at (facts_turned f u (served (place_at places u.node) u.input o)) n)) (sym may.1.up)
        (set_goes u.node (kept_after u.cut (Some (turn_of (place_at places u.node) may.0 u.input))) (records_at f u.node ++ option_to_list u.wrote) n even (turn_goes u may.0 u.cut may.1 may.1.owed))
    goes_so (happenings.Stopped m) n may = stop_goes m n
    goes_so (happenings.Started m boot) n may = set_goes m (Some (start_of (with_boot f m boot))) (with_boot f m boot) n even (Starts boot may.down may.next)
    goes_so _ n may = Stays

    -- and there stay as many disks as nodes
    even_after : (h : Happening) → length (facts_after places asked f h).nodes ≡ length (facts_after places asked f h).records
    unfolding facts_after
    even_after (happenings.Turn u) = set_length f.nodes u.node _ ∙ (even ∙ sym (set_length f.records u.node _))
    even_after (happenings.Stopped m) = set_length f.nodes m None ∙ even
    even_after (happenings.Started m boot) = set_length f.nodes m _ ∙ (even ∙ sym (set_length f.records m _))
    even_after _ = even

-- ---- the induction

-- What a law of nodes has to show: J of the records on a disk, and I of these and what their node keeps while it is up.
pub record Keeps (J : Place → List RedoRecord → Type 0) (I : Place → List RedoRecord → NodeState → Type 0) : Type 0 where
  pub empty : (p : Place) → J p []
  pub starts : (p : Place) (rs : List RedoRecord) (boot : ℕ) → J p rs → boot ≡ boots rs + 1 → I p (rs ++ records.Boot boot ∷ []) (start_of (rs ++ records.Boot boot ∷ []))
  pub hears : (p : Place) (rs : List RedoRecord) (k : NodeState) (scn : ℕ) → I p rs k → I p rs (raised k scn)
  pub steps : (p : Place) (rs : List RedoRecord) (input : Input) (k : NodeState) (d : TurnDraft) → Step p input k d → I p rs k → I p (rs ++ option_to_list d.wrote) d.after
  pub rests : (p : Place) (rs : List RedoRecord) (k : NodeState) → I p rs k → J p rs  -- the node stops, with the record of a cut turn or without

-- two laws at once
pub keeps_both : {J J' : Place → List RedoRecord → Type 0} {I I' : Place → List RedoRecord → NodeState → Type 0} → Keeps J I → Keeps J' I'
    → Keeps (λ p rs. J p rs × J' p rs) (λ p rs k. I p rs k × I' p rs k)
keeps_both one other = record {
  empty = λ p. (one.empty p, other.empty p);
  starts = λ p rs boot disk next. (one.starts p rs boot disk.0 next, other.starts p rs boot disk.1 next);
  hears = λ p rs k scn now. (one.hears p rs k scn now.0, other.hears p rs k scn now.1);
  steps = λ p rs input k d step now. (one.steps p rs input k d step now.0, other.steps p rs input k d step now.1);
  rests = λ p rs k now. (one.rests p rs k now.0, other.rests p rs k now.1);
}

-- I holds of each node that is up
abbrev pub NodesAre : (Place → List RedoRecord → NodeState → Type 0) → List Place → Facts → Type 0
NodesAre I places f = (n : ℕ) (k : NodeState) → node_at f n ≡ Some k → I (place_at places n) (records_at f n) k

module _ (J : Place → List RedoRecord → Type 0) (I : Place → List RedoRecord → NodeState → Type 0) (each : Keeps J I) where
  -- a disk, and what its node keeps
  abbrev pub Stands : Place → Option NodeState → List RedoRecord → Type 0
  Stands p o rs = J p rs × IfSome o (I p rs)

  -- of a node that is up
  is_up : (p : Place) (rs : List RedoRecord) (k : NodeState) → I p rs k → Stands p (Some k) rs
  is_up p rs k now = (each.rests p rs k now, now)

  heard_so : (p : Place) (rs : List RedoRecord) (k : NodeState) (input : Input) → I p rs k → I p rs (heard k input)
  heard_so p rs k (inputs.Message m) now = each.hears p rs k (max m.scn (kind_scn m.kind)) now
  heard_so p rs k _ now = now

  module _ (p : Place) (rs : List RedoRecord) (k : NodeState) (u : Turn) (serving : Serves p k u) (now : I p rs k) where
    -- the turn is kept to its end
    turned : I p (rs ++ option_to_list (turn_of p k u.input).wrote) (turn_of p k u.input).after
    unfolding turn_of
    turned = each.steps p rs u.input (heard k u.input) (draft_of p k u.input) serving.step (heard_so p rs k u.input now)

    -- or it is cut, and its record stands or not
    cut_off : J p (rs ++ option_to_list u.wrote)
    unfolding turn_of
    cut_off = of_wrote p k u serving (λ w. J p (rs ++ option_to_list w)) (subst (J p) (sym (append-nil rs)) (each.rests p rs k now)) (each.rests p _ _ turned)

  module _ (places : List Place) (f : Facts) (n : ℕ) (now : Stands (place_at places n) (node_at f n) (records_at f n)) where
    -- what holds of the node, where it is up
    pub at_node : (k : NodeState) → node_at f n ≡ Some k → I (place_at places n) (records_at f n) k
    at_node k is = subst (λ o. IfSome o (I (place_at places n) (records_at f n))) is now.1

    -- what stood before the turn, and what the turn is
    before : (u : Turn) (k : NodeState) → MayTurn places f u k → u.node ≡ n → I (place_at places n) (records_at f n) k
    before u k may here = at_node k (subst (λ m. node_at f m ≡ Some k) here may.up)

    serving : (u : Turn) (k : NodeState) → MayTurn places f u k → u.node ≡ n → Serves (place_at places n) k u
    serving u k may here = subst (λ m. Serves (place_at places m) k u) here (serves places f u k may)

    -- whatever happens to the node
    stands_on : {o : Option NodeState} {rs : List RedoRecord} → Goes places f n o rs → Stands (place_at places n) o rs
    stands_on Stays = now
    stands_on (Turns u k may here) = is_up _ _ _ (turned (place_at places n) (records_at f n) k u (serving u k may here) (before u k may here))
    stands_on (Is_cut u k may here) = (cut_off (place_at places n) (records_at f n) k u (serving u k may here) (before u k may here), tt)
    stands_on Stops = (now.0, tt)
    stands_on (Starts boot down next) = is_up _ _ _ (each.starts (place_at places n) (records_at f n) boot now.0 next)

  -- All disks with their nodes, and there are as many disks as nodes.
  pub record AllStand (places : List Place) (f : Facts) : Type 0 where
    pub even : length f.nodes ≡ length f.records
    pub nodes : (n : ℕ) → Stands (place_at places n) (node_at f n) (records_at f n)

  pub all_stand_on : (places : List Place) (asked : List Command) (f : Facts) (h : Happening) → AllStand places f → MayHappen places asked f h → AllStand places (facts_after places asked f h)
  all_stand_on places asked f h now may = record { even = even_after places f asked now.even h; nodes = λ n. stands_on places f n (now.nodes n) (goes_so places f asked now.even h n may) }

  -- ---- from the first happening on

  first_even : (ps : List Place) → length (map (λ p. Some made) ps) ≡ length (map (λ p. records.Boot 1 ∷ []) ps)
  first_even [] = refl
  first_even (p ∷ ps) = ap suc (first_even ps)

  first_stands : (ps : List Place) (n : ℕ) (p : Place) → Stands p (flat (numbered (map (λ p. Some made) ps) n)) (unwrap_or (numbered (map (λ p. records.Boot 1 ∷ []) ps) n) [])
  first_stands ps zero p = (each.empty p, tt)
  first_stands [] (suc i) p = (each.empty p, tt)
  first_stands (q ∷ ps) (suc zero) p = is_up p _ _ (each.starts p [] 1 (each.empty p) refl)
  first_stands (q ∷ ps) (suc (suc i)) p = first_stands ps (suc i) p

  pub first_all : (places : List Place) → AllStand places (first_facts places)
  first_all places = record { even = first_even places; nodes = λ n. first_stands places n (place_at places n) }

  module _ (t : History) (lawful : IsLawfulRun t) (K : Facts → Trail → Type 0) (first : K (first_facts t.places) no_trail)
      (on : (f : Facts) (tr : Trail) (h : Happening) → NodesAre I t.places f → K f tr → MayHappen t.places t.commands f h → K (facts_after t.places t.commands f h) (trail_after t.places f tr h)) where
    -- K, and what the nodes keep
    abbrev With : Facts → Trail → Type 0
    With f tr = AllStand t.places f × K f tr

    nodes_are : (f : Facts) → AllStand t.places f → NodesAre I t.places f
    nodes_are f now n k is = at_node t.places f n (now.nodes n) k is

    with_on : (f : Facts) (tr : Trail) (h : Happening) → With f tr → MayHappen t.places t.commands f h → With (facts_after t.places t.commands f h) (trail_after t.places f tr h)
    with_on f tr h now may = (all_stand_on t.places t.commands f h now.0 may, on f tr h (nodes_are f now.0) now.1 may)

    -- K is kept to the end where each happening keeps it, given what the nodes keep
    pub run_keeps : NodesAre I t.places (facts_at t) × K (facts_at t) (trail_of t.places t.commands (first_facts t.places) no_trail t.trace)
    run_keeps =
        let last : With (facts_at t) (trail_of t.places t.commands (first_facts t.places) no_trail t.trace)
        = lawful_keeps t.places t.commands With with_on (first_facts t.places) no_trail t.trace (first_all t.places, first) lawful in
        (nodes_are (facts_at t) last.0, last.1)

    -- and each happening is so that is so wherever both hold before it
    pub each_of_run : (So : List Place → Facts → Trail → Happening → Type 0)
        → ((f : Facts) (tr : Trail) (h : Happening) → NodesAre I t.places f → K f tr → MayHappen t.places t.commands f h → So t.places f tr h) → AtEach So t
    each_of_run So so =
        lawful_each t.places t.commands With with_on (So t.places) (λ f tr h now may. so f tr h (nodes_are f now.0) now.1 may) (first_facts t.places) no_trail t.trace (first_all t.places, first) lawful

  -- I holds of each node of a lawful run
  pub node_keeps : OfEachNode I
  node_keeps t lawful = (run_keeps t lawful (λ f tr. Unit {0}) tt (λ f tr h nodes now may. tt)).0

  -- and each happening is so that is so wherever I holds of the nodes before it
  pub each_of_nodes : (So : List Place → Facts → Happening → Type 0)
      → ((places : List Place) (asked : List Command) (f : Facts) (h : Happening) → NodesAre I places f → MayHappen places asked f h → So places f h)
      → (t : History) → IsLawfulRun t → AtEachFact So t
  each_of_nodes So so t lawful =
      of_facts t.places t.commands (So t.places) (first_facts t.places) no_trail t.trace
      (each_of_run t lawful (λ f tr. Unit {0}) tt (λ f tr h nodes now may. tt) (λ places f tr h. So places f h) (λ f tr h nodes now may. so t.places t.commands f h nodes may))

-- each happening is so that is so wherever it may come
pub each_that_may : (So : List Place → Facts → Happening → Type 0)
    → ((places : List Place) (asked : List Command) (f : Facts) (h : Happening) → MayHappen places asked f h → So places f h) → (t : History) → IsLawfulRun t → AtEachFact So t
each_that_may So so t lawful =
    of_facts t.places t.commands (So t.places) (first_facts t.places) no_trail t.trace
    (lawful_each t.places t.commands (λ f tr. Unit {0}) (λ f tr h now may. tt) (λ f tr h. So t.places f h) (λ f tr h now may. so t.places t.commands f h may) (first_facts t.places) no_trail t.trace tt lawful)

-- What a law has to show that speaks of what a node keeps and of nothing else.
pub record KeepsAlone (I : NodeState → Type 0) : Type 0 where
  pub starts : (s : Stored) (vs : Versions) → I (kept_by s vs)
  pub hears : (k : NodeState) (scn : ℕ) → I k → I (raised k scn)
  pub steps : (p : Place) (input : Input) (k : NodeState) (d : TurnDraft) → Step p input k d → I k → I d.after

-- such a law is a law of nodes
pub keeps_alone : {I : NodeState → Type 0} → KeepsAlone I → Keeps (λ p rs. Unit {0}) (λ p rs k. I k)
unfolding start_of
keeps_alone each = record {
  empty = λ p. tt;
  starts = λ p rs boot disk next. each.starts _ _;
  hears = λ p rs k scn now. each.hears k scn now;
  steps = λ p rs input k d step now. each.steps p input k d step now;
  rests = λ p rs k now. tt;
}

pub kept_alone : (I : NodeState → Type 0) → KeepsAlone I → OfEachNode (λ p rs k. I k)
kept_alone I each = node_keeps (λ p rs. Unit {0}) (λ p rs k. I k) (keeps_alone each)
