-- In a lawful run each branch begins at a node that there is, and each message goes to one: by induction over the happenings.
use Rattle.std.proofs.Common.{◌≡◌, ℕ, List, [], ◌∷◌, ◌++◌, length, find, unwrap_or, Option, Some, None, inl, inr, refl, sym, ap, subst, ◌∙◌, arith}
use Rattle.std.specs.List.{AllByRecursion}
use Rattle.std.proofs.lemmas.Bool.{cond_both}
use Rattle.agreement.specs.Events.{Event}
use Rattle.tran_ids.specs.Listed.{numbered}
use Rattle.node_rules.specs.Data.{BranchId, Kind, Msg, Opening, Place, Input}
use Rattle.node_rules.specs.Data.kinds
use Rattle.node_rules.specs.Data.inputs
use Rattle.node_rules.specs.NodeState.{NodeState}
use Rattle.node_rules.specs.Sessions.{session_at}
use Rattle.node_rules.specs.Calls.{is_opening}
use Rattle.node_rules.specs.Turn.{turn_of, stamped, draft_of}
use Rattle.run_rules.specs.Data.{Packet, Turn, Happening, Command}
use Rattle.run_rules.specs.Data.happenings
use Rattle.run_rules.specs.Runs.{begins_transaction}
use Rattle.run_rules.specs.Births.{Born, roots_by, births_by_open, births_by_kind, births_by, births_at, births_after, born_id, read_at_by}
use Rattle.run_base_laws.specs.BirthLaws.{Began, IsChild, AreNeighbors, StandsBelow, GoesSo}
use Rattle.run_base_laws.specs.RunEvents.{events_after}
use Rattle.run_rules.specs.Facts.{Facts, first_facts, no_place, place_at, node_at, facts_after, facts_of}
use Rattle.run_rules.specs.Lawful.{IsNode, AreOfAScript, MayTurn, MayHappen, IsLawful}
use Rattle.run_rules.proofs.AtNodeLemmas.{flat_some, range_of, there_too}
use Rattle.run_rules.proofs.ListLemmas.{all_weaker, all_append, all_map}
use Rattle.run_base_laws.proofs.OwnLemmas.{all_found}
use Rattle.run_base_laws.proofs.LawfulLemmas.{of_sent, serves}
use Rattle.run_base_laws.proofs.SaidLemmas.{sent_after}
use Rattle.run_base_laws.proofs.TurnEventLemmas.{number_is}
use Rattle.run_base_laws.proofs.BirthRunLemmas.{StandBorn, stand_born_on, stand_born_first}
use Rattle.run_number_laws.specs.There.{MessagesGoToNodes}
use Rattle.run_number_laws.proofs.OpenLemmas.{OpensThere, step_opens}

-- ---- which node a branch begins at

module _ (p : Place) (k : NodeState) where
  abbrev Here : List Born → Type 0
  Here bs = AllByRecursion (λ x. x.me.node ≡ p.number) bs

  roots_here : (n : ℕ) (read_at : Option ℕ) (o : Option BranchId) → Here (roots_by p k n read_at o)
  roots_here n read_at None = (refl, tt)
  roots_here n read_at (Some root) = tt

  opens_here : (parent : BranchId) (edge : ℕ) (root : BranchId) (depth : ℕ) (read_at : Option ℕ) (o : Option Opening) → Here (births_by_open p k parent edge root depth read_at o)
  opens_here parent edge root depth read_at None = (refl, tt)
  opens_here parent edge root depth read_at (Some o) = tt

  kind_here : (from : BranchId) (kind : Kind) → Here (births_by_kind p k from kind)
  kind_here from (kinds.Open edge root depth read_at) = opens_here from edge root depth read_at (find (is_opening from edge) k.opens)
  kind_here from _ = tt

  births_here : (input : Input) → Here (births_by p k input)
  births_here (inputs.Call n (Some s)) =
      cond_both (begins_transaction s) (roots_by p k n (read_at_by k.clock s) (session_at k.sessions n).root) [] Here (λ begins. roots_here n (read_at_by k.clock s) (session_at k.sessions n).root) (λ other. tt)
  births_here (inputs.Message m) = kind_here m.from m.kind
  births_here _ = tt

-- ---- the happenings

module _ (places : List Place) (asked : List Command) (script : AreOfAScript places asked) where
  -- a node that is up is one that there is
  pub up_there : (f : Facts) (n : ℕ) (k : NodeState) → length f.nodes ≡ length places → node_at f n ≡ Some k → IsNode (length places) n
  up_there f n k many up = let range = range_of f.nodes n (Some k) (flat_some (numbered f.nodes n) k up) in (range.0, omega (arith, range.1, many))

  -- and knows the names of all
  pub names_are : (f : Facts) (n : ℕ) (k : NodeState) → length f.nodes ≡ length places → node_at f n ≡ Some k → length (place_at places n).names ≡ length places
  names_are f n k many up =
      let p = there_too f.nodes places n (Some k) many (flat_some (numbered f.nodes n) k up) in
      let it : place_at places n ≡ p.0 = ap (λ o. unwrap_or o no_place) p.1 in
      ap (λ q. length q.names) it ∙ (ap (λ names. length names) (script.each n p.0 p.1).names ∙ script.named)

  -- Branches began at nodes that there are, and each Open goes to one.
  abbrev pub TargetsStand : Facts → List Born → Type 0
  TargetsStand f bs = AllByRecursion (λ x. IsNode (length places) x.me.node) bs × AllByRecursion (λ x. OpensThere (length places) x.msg.to x.msg.kind) f.net.packets

  module _ (f : Facts) (t : List Event) (bs : List Born) (stand : StandBorn places asked script.each f t bs) (now : TargetsStand f bs) where
    module _ (u : Turn) (k : NodeState) (may : MayTurn places f u k) where
      there : IsNode (length places) u.node
      there = up_there f u.node k stand.0.1.many may.up

      turn_births : AllByRecursion (λ x. IsNode (length places) x.me.node) (births_at (place_at places u.node) u.input (node_at f u.node))
      turn_births =
          let number : (place_at places u.node).number ≡ u.node = number_is places asked script.each f u.node k stand.0.1.many may.up in
          subst (λ o. AllByRecursion (λ x. IsNode (length places) x.me.node) (births_at (place_at places u.node) u.input o)) (sym may.up)
          (all_weaker (λ x. x.me.node ≡ (place_at places u.node).number) (λ x. IsNode (length places) x.me.node) (λ x here. subst (IsNode (length places)) (sym (here ∙ number)) there)
          (births_by (place_at places u.node) k u.input) (births_here (place_at places u.node) k u.input))

      turn_opens : AllByRecursion (λ m. OpensThere (length places) m.to m.kind) u.sent
      unfolding turn_of
      turn_opens =
          let all = step_opens (place_at places u.node) u.input (serves places f u k may).step in
          of_sent (place_at places u.node) k u (serves places f u k may) (λ w ms. AllByRecursion (λ m. OpensThere (length places) m.to m.kind) ms) tt
          (all_map (λ (m : Msg). OpensThere (length places) m.to m.kind) (stamped (draft_of (place_at places u.node) k u.input).after.clock) (draft_of (place_at places u.node) k u.input).says
          (subst (λ count. AllByRecursion (λ x. OpensThere count x.to x.kind) (draft_of (place_at places u.node) k u.input).says) (names_are f u.node k stand.0.1.many may.up) all))

    abbrev Sent : Msg → Type 0
    Sent m = OpensThere (length places) m.to m.kind

    targets_on : (h : Happening) → MayHappen places asked f h → TargetsStand (facts_after places asked f h) (births_after places f h bs)
    targets_on (happenings.Turn u) may = (
      cond_both u.cut bs (bs ++ births_at (place_at places u.node) u.input (node_at f u.node)) (λ xs. AllByRecursion (λ x. IsNode (length places) x.me.node) xs) (λ cut. now.0)
          (λ whole. all_append (λ x. IsNode (length places) x.me.node) bs (births_at (place_at places u.node) u.input (node_at f u.node)) now.0 (turn_births u may.0 may.1)),
      sent_after Sent places asked f (happenings.Turn u) (turn_opens u may.0 may.1) now.1,
    )
    targets_on (happenings.Begun c) may = (now.0, sent_after Sent places asked f (happenings.Begun c) tt now.1)
    targets_on (happenings.Cut a b) may = (now.0, sent_after Sent places asked f (happenings.Cut a b) tt now.1)
    targets_on (happenings.Join a b) may = (now.0, sent_after Sent places asked f (happenings.Join a b) tt now.1)
    targets_on (happenings.Lost k) may = (now.0, sent_after Sent places asked f (happenings.Lost k) tt now.1)
    targets_on (happenings.Stopped m) may = (now.0, sent_after Sent places asked f (happenings.Stopped m) tt now.1)
    targets_on (happenings.Started m boot) may = (now.0, sent_after Sent places asked f (happenings.Started m boot) tt now.1)

    -- ---- each message

    born_there : (x : Born) → Began bs x → IsNode (length places) x.me.node
    born_there x began = all_found (λ x. IsNode (length places) x.me.node) born_id bs x.me x now.0 began

    child_there : (c p : BranchId) → IsChild (Began bs) c p → IsNode (length places) c.node
    child_there c p child = subst (λ b. IsNode (length places) b.node) child.2 (born_there child.0 child.1)

    parent_there : (c p : BranchId) → IsChild (Began bs) c p → IsNode (length places) p.node
    parent_there c p child =
        let below : StandsBelow (Began bs) child.0 child.0.parent = all_found (λ x. StandsBelow (Began bs) x x.parent) born_id bs child.0.me child.0 stand.1.trees child.1 in
        let above : StandsBelow (Began bs) child.0 (Some p) = subst (StandsBelow (Began bs) child.0) child.3 below in
        subst (λ b. IsNode (length places) b.node) above.2 (born_there above.0 above.1)

    neighbor_there : (from to : BranchId) → AreNeighbors (Began bs) from to → IsNode (length places) to.node
    neighbor_there from to (inl child) = parent_there from to child
    neighbor_there from to (inr child) = child_there to from child

    goes_there : (from to : BranchId) (kind : Kind) → GoesSo (Began bs) from to kind → OpensThere (length places) to kind → IsNode (length places) to.node
    goes_there from to (kinds.Open edge root depth read_at) goes opens = opens
    goes_there from to (kinds.Opened edge strength) goes opens = parent_there from to (goes.0, goes.1, goes.2, goes.3)
    goes_there from to (kinds.Exec call task) goes opens = child_there to from goes
    goes_there from to (kinds.Reply call weight count a) goes opens = parent_there from to goes
    goes_there from to (kinds.Prepare site_below comment) goes opens = child_there to from goes
    goes_there from to kinds.Prepared goes opens = parent_there from to goes
    goes_there from to kinds.ReadOnly goes opens = parent_there from to goes
    goes_there from to kinds.Ready goes opens = parent_there from to goes
    goes_there from to kinds.Abort goes opens = parent_there from to goes
    goes_there from to kinds.CommitPoint goes opens = child_there to from goes
    goes_there from to (kinds.Committed n) goes opens = neighbor_there from to goes
    goes_there from to kinds.RolledBack goes opens = neighbor_there from to goes
    goes_there from to kinds.InDoubt goes opens = neighbor_there from to goes
    goes_there from to kinds.Ack goes opens = neighbor_there from to goes
    goes_there from to kinds.Forgotten goes opens = neighbor_there from to goes
    goes_there from to kinds.Rollback goes opens = child_there to from goes
    goes_there from to kinds.Ask goes opens = neighbor_there from to goes

    all_go : AllByRecursion (λ x. IsNode (length places) x.msg.to.node) f.net.packets
    all_go = both f.net.packets stand.1.said now.1
      where
        both : (xs : List Packet) → AllByRecursion (λ x. GoesSo (Began bs) x.msg.from x.msg.to x.msg.kind) xs → AllByRecursion (λ x. OpensThere (length places) x.msg.to x.msg.kind) xs
            → AllByRecursion (λ x. IsNode (length places) x.msg.to.node) xs
        both [] goes opens = tt
        both (x ∷ xs) goes opens = (goes_there x.msg.from x.msg.to x.msg.kind goes.0 opens.0, both xs goes.1 opens.1)

  -- ---- runs

  targets_keep : (f : Facts) (hs : List Happening) (t : List Event) (bs : List Born) → StandBorn places asked script.each f t bs → TargetsStand f bs → IsLawful places asked f hs
      → AllByRecursion (λ x. IsNode (length places) x.msg.to.node) (facts_of places asked f hs).net.packets
  unfolding facts_of IsLawful
  targets_keep f [] t bs stand now lawful = all_go f t bs stand now
  targets_keep f (h ∷ hs) t bs stand now lawful =
      targets_keep (facts_after places asked f h) hs (events_after places asked f h t) (births_after places f h bs) (stand_born_on places asked script.each f t bs h stand lawful.0) (targets_on f t bs stand now h lawful.0) lawful.1

pub messages_go_to_nodes : MessagesGoToNodes
messages_go_to_nodes t lawful =
    targets_keep t.places t.commands t.of_a_script (first_facts t.places) t.trace [] [] (stand_born_first t.places t.commands t.of_a_script.each) (tt, tt) lawful
