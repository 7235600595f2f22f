-- The network knows each node that is down, but for one whose turn was cut and that is to stop.
use Rattle.std.proofs.Common.{◌≡◌, ◌≢◌, ℕ, ◌==◌, not, Bool, true, false, if◌then◌else◌, List, [], ◌∷◌, filter, length, Option, Some, None, inl, inr, refl, sym, ap, subst, ◌∙◌, arith}
use Rattle.std.proofs.lemmas.Bool.Decides.{nat_tests}
use Rattle.std.proofs.lemmas.Bool.{cond_both, or_right}
use Rattle.std.proofs.lemmas.Map.Views.{any-filter_same}
use Rattle.std.specs.List.{list_any}
use Rattle.node_rules.specs.Data.{Msg, Place}
use Rattle.node_rules.specs.NodeState.{NodeState, TurnOutput}
use Rattle.node_rules.specs.Turn.{turn_of}
use Rattle.net_bag.specs.Net.{Net, is_down, sent_one, sent_on, delivered, lost, cut_over, joined, with_node, stopped, started}
use Rattle.run_rules.specs.Data.{Took, Turn, Happening, Command}
use Rattle.run_rules.specs.Data.commands
use Rattle.run_rules.specs.Data.happenings
use Rattle.run_rules.specs.Facts.{Facts, place_at, node_at, kept_after, taken, to_stop_after, ordered, command_at, facts_after}
use Rattle.run_rules.specs.Lawful.{IsNode, NothingComesFirst, MayTurn, MayStop, MayStart, MayHappen}
use Rattle.run_rules.proofs.AtNodeLemmas.{turn_elsewhere, stop_elsewhere, start_elsewhere, turn_here, start_here}
use Rattle.run_base_laws.proofs.TurnEventLemmas.{cases_nat}

-- ---- the network

with_here : (n : ℕ) (nodes : List ℕ) → list_any (λ m. m == n) (with_node n nodes) ≡ true
with_here n nodes = cond_both (list_any (λ m. m == n) nodes) nodes (n ∷ nodes) (λ ns. list_any (λ m. m == n) ns ≡ true) (λ there. there) (λ new. grind (arith, nat_tests))

with_still : (n m : ℕ) (nodes : List ℕ) → list_any (λ i. i == m) nodes ≡ true → list_any (λ i. i == m) (with_node n nodes) ≡ true
with_still n m nodes down =
    cond_both (list_any (λ i. i == n) nodes) nodes (n ∷ nodes) (λ ns. list_any (λ i. i == m) ns ≡ true) (λ there. down) (λ new. or_right (n == m) (list_any (λ i. i == m) nodes) down)

kept_down : (n m : ℕ) (nodes : List ℕ) → m ≢ n → list_any (λ i. i == m) nodes ≡ true → list_any (λ i. i == m) (filter (λ i. not (i == n)) nodes) ≡ true
kept_down n m nodes other down = any-filter_same (λ i. i == m) (λ i. not (i == n)) true (λ i is. stays i is (i == n) refl) nodes ∙ down
  where
    stays : (i : ℕ) → (i == m) ≡ true → (q : Bool) → (i == n) ≡ q → not q ≡ true
    stays i is true same = absurd (other (let one : i ≡ m = grind (arith, nat_tests, is) in let two : i ≡ n = grind (arith, nat_tests, same) in sym one ∙ two))
    stays i is false apart = refl

sent_down : (net : Net) (ms : List Msg) → (sent_on net ms).down ≡ net.down
unfolding sent_on
sent_down net [] = refl
sent_down net (m ∷ ms) = sent_down (sent_one net m) ms

delivered_down : (net : Net) (k : ℕ) → (delivered net k).down ≡ net.down
unfolding delivered
delivered_down net k = refl

taken_down : (net : Net) (o : Option Took) → (taken net o).down ≡ net.down
taken_down net None = refl
taken_down net (Some t) = cond_both t.again net (delivered net t.number) (λ x. x.down ≡ net.down) (λ copy. refl) (λ first. delivered_down net t.number)

ordered_down : (net : Net) (c : Command) → (ordered net c).down ≡ net.down
ordered_down net (commands.LoseNext kind from to) = refl
ordered_down net _ = refl

-- ---- the happenings

-- a node that keeps nothing is down by the network, unless it is to stop
abbrev pub DownsAreKnown : ℕ → Facts → Type 0
DownsAreKnown count f = (n : ℕ) → IsNode count n → node_at f n ≡ None → f.node_to_stop ≢ Some n → is_down f.net n ≡ true

-- no node is to stop
none_stops : (f : Facts) → NothingComesFirst f → (n : ℕ) → f.node_to_stop ≢ Some n
none_stops f settled n is = let none = settled.upright in absurd (cc (is, none))

module _ (places : List Place) (asked : List Command) (f : Facts) (even : length f.nodes ≡ length f.records) (many : length f.nodes ≡ length places) (now : DownsAreKnown (length places) f) where
  -- a turn
  module _ (u : Turn) (k : NodeState) (may : MayTurn places f u k) where
    abbrev g : Facts
    g = facts_after places asked f (happenings.Turn u)

    turn_down : g.net.down ≡ f.net.down
    unfolding facts_after
    turn_down = sent_down (taken f.net u.took) u.sent ∙ taken_down f.net u.took

    turn_stops : g.node_to_stop ≡ to_stop_after u
    unfolding facts_after
    turn_stops = refl

    -- a node that is down after its own turn is to stop
    is_to_stop : (cut : Bool) (o : TurnOutput) → kept_after cut (Some o) ≡ None → (if cut then Some u.node else None) ≡ Some u.node
    is_to_stop true o none = refl
    is_to_stop false o none = absurd cc

    turn_downs : DownsAreKnown (length places) g
    turn_downs n node none stops = elim (cases_nat n u.node) [
      | inl at ↦ (
          let here : node_at g u.node ≡ kept_after u.cut (Some (turn_of (place_at places u.node) k u.input)) = (turn_here places asked f even u k may.up).0 in
          let off : kept_after u.cut (Some (turn_of (place_at places u.node) k u.input)) ≡ None = sym here ∙ subst (λ i. node_at g i ≡ None) at none in
          absurd (stops (turn_stops ∙ (is_to_stop u.cut (turn_of (place_at places u.node) k u.input) off ∙ ap (λ i. Some i) (sym at)))))
      | inr other ↦ subst (λ ns. list_any (λ m. m == n) ns ≡ true) (sym turn_down) (now n node (sym (turn_elsewhere places asked f even u n (λ e. other (sym e))).0 ∙ none) (none_stops f may.settled n))
    ]

  -- a stop
  stop_here_down : (m : ℕ) → is_down (facts_after places asked f (happenings.Stopped m)).net m ≡ true
  unfolding facts_after stopped
  stop_here_down m = with_here m f.net.down

  stop_still_down : (m n : ℕ) → is_down f.net n ≡ true → is_down (facts_after places asked f (happenings.Stopped m)).net n ≡ true
  unfolding facts_after stopped
  stop_still_down m n down = with_still m n f.net.down down

  stop_downs : (m : ℕ) → MayStop f m f.node_to_stop → DownsAreKnown (length places) (facts_after places asked f (happenings.Stopped m))
  stop_downs m may n node none stops = elim (cases_nat n m) [
    | inl at ↦ subst (λ i. is_down (facts_after places asked f (happenings.Stopped m)).net i ≡ true) (sym at) (stop_here_down m)
    | inr other ↦ stop_still_down m n (now n node (sym (stop_elsewhere places asked f even m n (λ e. other (sym e))).0 ∙ none) (λ is. other (subst (MayStop f m) is may).1))
  ]

  -- a start
  start_still_down : (m boot n : ℕ) → n ≢ m → is_down f.net n ≡ true → is_down (facts_after places asked f (happenings.Started m boot)).net n ≡ true
  unfolding facts_after started
  start_still_down m boot n other down = kept_down m n f.net.down other down

  start_downs : (m boot : ℕ) → MayStart (length places) f m boot → DownsAreKnown (length places) (facts_after places asked f (happenings.Started m boot))
  start_downs m boot may n node none stops = elim (cases_nat n m) [
    | inl at ↦ (let up = (start_here places asked f even m boot may.there.0 (let there = may.there.1 in omega (arith, there, many))).0 in
        let off : node_at (facts_after places asked f (happenings.Started m boot)) m ≡ None = subst (λ i. node_at (facts_after places asked f (happenings.Started m boot)) i ≡ None) at none in
        absurd (cc (up, off)))
    | inr other ↦ start_still_down m boot n other (now n node (sym (start_elsewhere places asked f even m boot n (λ e. other (sym e))).0 ∙ none) (none_stops f may.settled n))
  ]

  -- nothing of it changes
  same_downs : (g : Facts) → ((n : ℕ) → node_at g n ≡ node_at f n) → g.node_to_stop ≡ f.node_to_stop → g.net.down ≡ f.net.down → DownsAreKnown (length places) g
  same_downs g nodes stop down n node none stops = subst (λ ns. list_any (λ m. m == n) ns ≡ true) (sym down) (now n node (sym (nodes n) ∙ none) (λ is. stops (stop ∙ is)))

  -- each happening
  pub downs_on : (h : Happening) → MayHappen places asked f h → DownsAreKnown (length places) (facts_after places asked f h)
  unfolding facts_after cut_over joined lost
  downs_on (happenings.Turn u) may = turn_downs u may.0 may.1
  downs_on (happenings.Stopped m) may = stop_downs m may.1
  downs_on (happenings.Started m boot) may = start_downs m boot may
  downs_on (happenings.Begun c) may = same_downs (facts_after places asked f (happenings.Begun c)) (λ n. refl) refl (ordered_down f.net (command_at asked c))
  downs_on (happenings.Cut a b) may = same_downs (facts_after places asked f (happenings.Cut a b)) (λ n. refl) refl refl
  downs_on (happenings.Join a b) may = same_downs (facts_after places asked f (happenings.Join a b)) (λ n. refl) refl refl
  downs_on (happenings.Lost k) may = same_downs (facts_after places asked f (happenings.Lost k)) (λ n. refl) refl refl
