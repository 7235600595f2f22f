-- What is so of the node of a branch, once the branch has left, unless the node has stopped since the branch began: it stays
-- so where each turn of the node keeps it.
use Rattle.std.proofs.Common.{◌≡◌, ◌≢◌, ◌+◌, ◌<◌, ◌≤◌, ◌⊎◌, Bool, true, false, List, [], ◌∷◌, ◌++◌, length, Some, None, inl, inr, refl, sym, ap, subst, ◌∙◌, arith, append-nil}
use Rattle.std.specs.Prelude.{IfSome}
use Rattle.std.specs.Option.{option_to_list}
use Rattle.agreement.specs.Events.{exit}
use Rattle.node_rules.specs.Data.{BranchId, Place, RedoRecord}
use Rattle.node_rules.specs.NodeState.{NodeState, TurnDraft}
use Rattle.node_rules.specs.Turn.{turn_of, draft_of}
use Rattle.run_rules.specs.Data.{Happening, Turn}
use Rattle.run_rules.specs.Data.happenings
use Rattle.run_rules.specs.Facts.{Facts, place_at, node_at, records_at, kept_after, with_boot, facts_after}
use Rattle.run_rules.specs.Lawful.{IsOwed, MayHappen, MayTurn, History, IsLawfulRun, facts_at, boots}
use Rattle.run_rules.proofs.AtNodeLemmas.{turn_elsewhere, turn_here, stop_elsewhere, stop_here, start_elsewhere, start_here}
use Rattle.run_rules.proofs.BootLemmas.{IsOfTurn, step_of_turn, boots_started, boots_with}
use Rattle.run_base_laws.proofs.EventsStandLemmas.{run_stands}
use Rattle.run_base_laws.proofs.LawfulLemmas.{serves, of_wrote}
use Rattle.run_base_laws.proofs.NodesStandLemmas.{some_or_none}
use Rattle.run_base_laws.proofs.TurnEventLemmas.{cases_nat}
use Rattle.tree_laws.proofs.PrefixLemmas.{so_far, f_at, e_at, one_on, more_on}
use Rattle.tree_laws.proofs.TimeLemmas.{may_of, exit_on, keep_on}
use Rattle.tree_laws.proofs.AtTurn.{at_happening}

module _ (t : History) (b : BranchId) where
  -- the branch has left
  abbrev pub HasLeft : List Happening → Type 0
  HasLeft hs = exit (e_at t hs) b ≢ None

  -- it stays so
  pub left_on : (hs : List Happening) (h : Happening) → HasLeft hs → HasLeft (hs ++ h ∷ [])
  left_on hs h left none = elim (some_or_none (exit (e_at t hs) b)) [
    | inl some ↦ (let stays : exit (e_at t (hs ++ h ∷ [])) b ≡ Some some.0 = subst (λ y. exit y b ≡ Some some.0) (sym (more_on t hs h)) (exit_on t.places t.commands (f_at t hs) h (e_at t hs) b some.0 some.1) in absurd (cc (stays, none)))
    | inr gone ↦ absurd (left gone)
  ]

module _ (t : History) (whole : IsLawfulRun t) (b : BranchId) (Q : NodeState → Type 0) where
  -- it is so at the branch's node, or the node has stopped
  abbrev pub Here : Facts → Type 0
  Here f = (k : NodeState) → node_at f b.node ≡ Some k → (b.boot < boots (records_at f b.node)) ⊎ Q k

  -- each whole turn of its node keeps it
  abbrev pub TurnsKeep : Type 0
  TurnsKeep = (hs : List Happening) (rest : List Happening) (u : Turn) → hs ++ happenings.Turn u ∷ rest ≡ t.trace → HasLeft t b hs → (k : NodeState) (may : MayTurn t.places (f_at t hs) u k) → u.node ≡ b.node
      → u.wrote ≡ (draft_of (place_at t.places u.node) k u.input).wrote → Q k → Q (draft_of (place_at t.places u.node) k u.input).after

  module _ (keeps : TurnsKeep) (hs : List Happening) (h : Happening) (rest : List Happening) (is : hs ++ h ∷ rest ≡ t.trace) (left : HasLeft t b hs) (now : Here (f_at t hs)) where
    open at_happening t whole hs h rest is use {f, lawful}

    even : length f.nodes ≡ length f.records
    even = (run_stands (so_far t hs) lawful).0.even

    many : length f.nodes ≡ length t.places
    many = (run_stands (so_far t hs) lawful).1.many

    low : b.boot ≤ boots (records_at f b.node)
    low = ((run_stands (so_far t hs) lawful).1.given b left).0

    abbrev then : Happening → Facts
    then y = facts_after t.places t.commands f y

    still : (y : Happening) → (node_at (then y) b.node ≡ node_at f b.node) × (records_at (then y) b.node ≡ records_at f b.node) → Here (then y)
    still y same k up = subst (λ (rs : List RedoRecord). (b.boot < boots rs) ⊎ Q k) (sym same.1) (now k (sym same.0 ∙ up))

    module _ (u : Turn) (k : NodeState) (may : MayTurn t.places f u k) (node : u.node ≡ b.node) (turn : h ≡ happenings.Turn u) where
      abbrev p : Place
      p = place_at t.places u.node

      abbrev d : TurnDraft
      d = draft_of p k u.input

      abbrev g : Facts
      g = then (happenings.Turn u)

      here : (node_at g u.node ≡ kept_after u.cut (Some (turn_of p k u.input))) × (records_at g u.node ≡ records_at f u.node ++ option_to_list u.wrote)
      here = turn_here t.places t.commands f even u k may.up

      count : boots (records_at g u.node) ≡ boots (records_at f u.node)
      count = ap boots here.1 ∙ boots_with (records_at f u.node) u.wrote (of_wrote p k u (serves t.places f u k may) (λ w. IfSome w IsOfTurn) tt (step_of_turn p u.input (serves t.places f u k may).step))

      old : (b.boot < boots (records_at f u.node)) ⊎ Q k
      old = subst (λ i. (b.boot < boots (records_at f i)) ⊎ Q k) (sym node) (now k (subst (λ i. node_at f i ≡ Some k) node may.up))

      at_node : (cut : Bool) → u.cut ≡ cut → IsOwed p k u.input u.wrote u.sent cut → (j : NodeState) → node_at g u.node ≡ Some j → (b.boot < boots (records_at g u.node)) ⊎ Q j
      unfolding turn_of
      at_node true cut owed j up = (let down : node_at g u.node ≡ None = here.0 ∙ ap (λ c. kept_after c (Some (turn_of p k u.input))) cut in absurd (cc (down, up)))
      at_node false cut owed j up =
          let there : node_at g u.node ≡ Some d.after = here.0 ∙ ap (λ c. kept_after c (Some (turn_of p k u.input))) cut in
          let both : Some d.after ≡ Some j = sym there ∙ up in
          let it : d.after ≡ j = cc in
          elim old [
            | inl stopped ↦ inl (subst (λ n. b.boot < n) (sym count) stopped)
            | inr so ↦ inr (subst Q it (keeps hs rest u (ap (λ y. hs ++ y ∷ rest) (sym turn) ∙ is) left k may node owed.0 so))
          ]

      turn_so : Here g
      turn_so j up = subst (λ i. (b.boot < boots (records_at g i)) ⊎ Q j) node (at_node u.cut refl may.owed j (subst (λ i. node_at g i ≡ Some j) (sym node) up))

    here_by : (y : Happening) → h ≡ y → MayHappen t.places t.commands f y → Here (then y)
    unfolding facts_after
    here_by (happenings.Turn u) turn may = elim (cases_nat u.node b.node) [
      | inl node ↦ turn_so u may.0 may.1 node turn
      | inr other ↦ still (happenings.Turn u) (turn_elsewhere t.places t.commands f even u b.node other)
    ]
    here_by (happenings.Stopped m) it may = elim (cases_nat m b.node) [
      | inl node ↦ (λ k up. (let down : node_at (then (happenings.Stopped m)) m ≡ None = (stop_here t.places t.commands f even m may.0.0 (omega (arith, may.0.1, many))).0 in
          let none : node_at (then (happenings.Stopped m)) b.node ≡ None = subst (λ i. node_at (then (happenings.Stopped m)) i ≡ None) node down in absurd (cc (none, up))))
      | inr other ↦ still (happenings.Stopped m) (stop_elsewhere t.places t.commands f even m b.node other)
    ]
    here_by (happenings.Started m boot) it may = elim (cases_nat m b.node) [
      | inl node ↦ (λ k up. (let disk : records_at (then (happenings.Started m boot)) m ≡ with_boot f m boot = (start_here t.places t.commands f even m boot may.there.0 (omega (arith, may.there.1, many))).1 in
          let its : records_at (then (happenings.Started m boot)) b.node ≡ with_boot f b.node boot = subst (λ i. records_at (then (happenings.Started m boot)) i ≡ with_boot f i boot) node disk in
          let more : boots (records_at (then (happenings.Started m boot)) b.node) ≡ boots (records_at f b.node) + 1 = ap boots its ∙ boots_started (records_at f b.node) boot in
          inl (omega (arith, low, more))))
      | inr other ↦ still (happenings.Started m boot) (start_elsewhere t.places t.commands f even m boot b.node other)
    ]
    here_by (happenings.Begun m) it may = now
    here_by (happenings.Cut x y) it may = now
    here_by (happenings.Join x y) it may = now
    here_by (happenings.Lost m) it may = now

    -- one happening more
    pub here_on : Here (f_at t (hs ++ h ∷ []))
    here_on = subst Here (sym (one_on t hs h)) (here_by h refl (may_of t whole hs h rest is))

  -- so it is so at the end
  pub here_end : TurnsKeep → (hs later : List Happening) → hs ++ later ≡ t.trace → HasLeft t b hs → Here (f_at t hs) → Here (facts_at t)
  here_end keeps hs later is left now =
      let both : HasLeft t b (hs ++ later) × Here (f_at t (hs ++ later))
      = keep_on t whole (λ xs. HasLeft t b xs × Here (f_at t xs)) (λ xs h rest at so. (left_on t b xs h so.0, here_on keeps xs h rest at so.0 so.1)) hs later (record { rest = []; is = append-nil (hs ++ later) ∙ is }) (left, now) in
      subst (λ xs. Here (f_at t xs)) is both.1
