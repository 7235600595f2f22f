-- In every lawful run a branch that has left, and whose node has stopped since it began, is so whatever happens next. A turn
-- that is cut stops its node, and so does a stop.
use Rattle.std.proofs.Common.{◌≡◌, ℕ, true, List, ◌∷◌, ◌++◌, length, Some, None, inl, inr, sym, ap, subst, ◌∙◌, arith}
use Rattle.node_rules.specs.Data.{BranchId}
use Rattle.node_rules.specs.NodeState.{NodeState}
use Rattle.node_rules.specs.Turn.{turn_of}
use Rattle.run_rules.specs.Data.{Happening, Turn}
use Rattle.run_rules.specs.Data.happenings
use Rattle.run_rules.specs.Facts.{Facts, place_at, node_at, kept_after, facts_after}
use Rattle.run_rules.specs.Lawful.{MayHappen, History, IsLawfulRun, facts_at}
use Rattle.run_rules.proofs.AtNodeLemmas.{turn_here, stop_here}
use Rattle.run_base_laws.proofs.EventsStandLemmas.{run_stands}
use Rattle.tree_laws.proofs.PrefixLemmas.{so_far, f_at, one_on}
use Rattle.tree_laws.proofs.TimeLemmas.{may_of}
use Rattle.commit_laws.specs.WaitLaws.{NodeHasStopped}
use Rattle.commit_laws.proofs.UnlessStoppedLemmas.{HasLeft, Here, TurnsKeep, here_on, here_end}
use Rattle.tree_laws.proofs.AtTurn.{at_happening}

module _ (t : History) (whole : IsLawfulRun t) (b : BranchId) where
  abbrev never : NodeState → Type 0
  never k = ⊥

  nothing_kept : TurnsKeep t whole b never
  nothing_kept hs rest u is left k may node wrote so = so

  stopped_here : (f : Facts) → NodeHasStopped f b → Here t whole b never f
  stopped_here g stops k up = inl (stops k up)

  here_stopped : (f : Facts) → Here t whole b never f → NodeHasStopped f b
  here_stopped g so k up = elim (so k up) [ inl stopped ↦ stopped | inr nothing ↦ absurd nothing ]

  -- from some part of the run to its end
  pub stopped_end : (hs later : List Happening) → hs ++ later ≡ t.trace → HasLeft t b hs → NodeHasStopped (f_at t hs) b → NodeHasStopped (facts_at t) b
  stopped_end hs later is left stops = here_stopped (facts_at t) (here_end t whole b never nothing_kept hs later is left (stopped_here (f_at t hs) stops))

  module _ (hs : List Happening) (h : Happening) (rest : List Happening) (is : hs ++ h ∷ rest ≡ t.trace) where
    open at_happening t whole hs h rest is use {f, after, lawful}

    even : length f.nodes ≡ length f.records
    even = (run_stands (so_far t hs) lawful).0.even

    many : length f.nodes ≡ length t.places
    many = (run_stands (so_far t hs) lawful).1.many

    pub stopped_on : HasLeft t b hs → NodeHasStopped f b → NodeHasStopped (f_at t after) b
    stopped_on left stops = here_stopped (f_at t after) (here_on t whole b never nothing_kept hs h rest is left (stopped_here f stops))

    -- a node that is down has stopped
    down_stops : (y : Happening) → h ≡ y → (n : ℕ) → n ≡ b.node → node_at (facts_after t.places t.commands f y) n ≡ None → NodeHasStopped (f_at t after) b
    down_stops y it n node down k up =
        let there : node_at (facts_after t.places t.commands f y) b.node ≡ None = subst (λ i. node_at (facts_after t.places t.commands f y) i ≡ None) node down in
        let its : node_at (facts_after t.places t.commands f h) b.node ≡ None = subst (λ z. node_at (facts_after t.places t.commands f z) b.node ≡ None) (sym it) there in
        let none : node_at (f_at t after) b.node ≡ None = subst (λ g. node_at g b.node ≡ None) (sym (one_on t hs h)) its in
        absurd (cc (none, up))

    -- a turn that is cut stops its node
    pub cut_stops : (u : Turn) → h ≡ happenings.Turn u → (k : NodeState) → node_at f u.node ≡ Some k → u.node ≡ b.node → u.cut ≡ true → NodeHasStopped (f_at t after) b
    cut_stops u turn k up node cut =
        down_stops (happenings.Turn u) turn u.node node ((turn_here t.places t.commands f even u k up).0 ∙ ap (λ c. kept_after c (Some (turn_of (place_at t.places u.node) k u.input))) cut)

    -- and so does a stop
    pub stop_stops : (m : ℕ) → h ≡ happenings.Stopped m → m ≡ b.node → NodeHasStopped (f_at t after) b
    stop_stops m it node =
        let may : MayHappen t.places t.commands f (happenings.Stopped m) = subst (MayHappen t.places t.commands f) it (may_of t whole hs h rest is) in
        down_stops (happenings.Stopped m) it m node (stop_here t.places t.commands f even m may.0.0 (omega (arith, may.0.1, many))).0
