-- In every lawful run a live branch that is not working, and waits for no answer of a child, stays so while it is live.
use Rattle.std.proofs.Common.{◌≡◌, ◌≢◌, Bool, true, false, List, [], ◌∷◌, ◌++◌, Option, Some, None, inl, inr, refl, sym, ap, subst, ◌∙◌, append-nil}
use Rattle.std.specs.List.{AllByRecursion}
use Rattle.tran_ids.proofs.ListedLemmas.{item_is}
use Rattle.node_rules.specs.Data.{BranchId, Live, Place}
use Rattle.node_rules.specs.Data.stmts
use Rattle.node_rules.specs.Words.{item_at}
use Rattle.node_rules.specs.NodeState.{NodeState, Branch, TurnDraft, live_id, live_at, branch_at, work_at, with_work}
use Rattle.node_rules.specs.Turn.{turn_of, heard, draft_of}
use Rattle.node_rules.proofs.Steps.{HasRoot}
use Rattle.run_rules.specs.Births.{Born, births_by, births_of, born_at}
use Rattle.run_base_laws.specs.BirthLaws.{Began}
use Rattle.run_base_laws.specs.CallLaws.{ComesAtRest}
use Rattle.run_rules.specs.Data.{Turn, Happening}
use Rattle.run_rules.specs.Data.happenings
use Rattle.run_rules.specs.Facts.{Facts, first_facts, place_at, node_at, kept_after, facts_after}
use Rattle.run_rules.specs.Lawful.{MayHappen, MayTurn, History, IsLawfulRun, facts_at}
use Rattle.run_base_laws.specs.NodeLaws.{EachFactFrom}
use Rattle.run_rules.proofs.AtNodeLemmas.{turn_elsewhere, turn_here}
use Rattle.run_base_laws.proofs.BirthLemmas.{news_of}
use Rattle.run_base_laws.proofs.BirthRunLemmas.{StandBorn, run_births}
use Rattle.run_base_laws.proofs.BirthsStandLemmas.{all_unborn}
use Rattle.run_base_laws.proofs.EventsStandLemmas.{node_so, owned_so}
use Rattle.run_base_laws.proofs.LawfulLemmas.{serves}
use Rattle.run_rules.proofs.ListLemmas.{all_weaker}
use Rattle.run_base_laws.proofs.NeighborLemmas.{News}
use Rattle.run_base_laws.proofs.OwnLemmas.{all_found}
use Rattle.run_base_laws.proofs.RestRunLemmas.{calls_come_at_rest}
use Rattle.run_base_laws.proofs.TurnEventLemmas.{cases_nat, number_is}
use Rattle.tree_laws.proofs.AnswerRunLemmas.{lives_heard}
use Rattle.tree_laws.proofs.FoundLemmas.{lives_found}
use Rattle.tree_laws.proofs.PrefixLemmas.{so_far, f_at, e_at, one_on}
use Rattle.tree_laws.proofs.FateLemmas.{node_back}
use Rattle.tree_laws.proofs.TimeLemmas.{may_of, fact_at, born_end, keep_on}
use Rattle.commit_laws.proofs.KeepLemmas.{Served, IfMe, AllServed, CallsOther, served_on}
use Rattle.tree_laws.proofs.AtTurn.{at_happening}

module _ (t : History) (whole : IsLawfulRun t) (b : BranchId) (c : Option BranchId) where
  -- it is so at its node
  abbrev pub ServedAt : Facts → Type 0
  ServedAt f = (k : NodeState) (l : Live) → node_at f b.node ≡ Some k → live_at k b ≡ Some l → Served c l

  abbrev pub HasBorn : List Happening → Type 0
  HasBorn hs = (x : Born) × Began (births_of (so_far t hs)) x × (x.me ≡ b)

  abbrev pub StaysServed : List Happening → Type 0
  StaysServed hs = HasBorn hs × ServedAt (f_at t hs)

  module _ (hs : List Happening) (h : Happening) (rest : List Happening) (is : hs ++ h ∷ rest ≡ t.trace) (now : StaysServed hs) where
    open at_happening t whole hs h rest is use {f, s, after, lawful, lawful_after as lawful_z}

    born_next : HasBorn after
    born_next = (now.0.0, born_end (so_far t after) lawful_z hs (record { rest = h ∷ []; is = refl }) now.0.0 now.0.1, now.0.2)

    module _ (u : Turn) (turn : h ≡ happenings.Turn u) (k : NodeState) (may : MayTurn t.places f u k) (node : u.node ≡ b.node) where
      abbrev p : Place
      p = place_at t.places u.node

      abbrev d : TurnDraft
      d = draft_of p k u.input

      up : node_at f b.node ≡ Some k
      up = subst (λ i. node_at f i ≡ Some k) node may.up

      stand : StandBorn t.places t.commands t.of_a_script.each f (e_at t hs) (births_of s)
      stand = run_births s lawful

      unborn_not : (y : Born) → born_at (births_of s) y.me ≡ None → y.me ≢ b
      unborn_not y none me =
          let born : born_at (births_of s) b ≡ Some now.0.0 = subst (λ i. born_at (births_of s) i ≡ Some now.0.0) now.0.2 now.0.1 in
          let none_there : born_at (births_of s) b ≡ None = subst (λ i. born_at (births_of s) i ≡ None) me none in
          absurd (cc (born, none_there))

      news : News (λ y. y.me ≢ b) p u.input (heard k u.input)
      news =
          news_of (λ y. y.me ≢ b) p k u.input
          (all_weaker (λ y. born_at (births_of s) y.me ≡ None) (λ y. y.me ≢ b) unborn_not (births_by p k u.input)
          (all_unborn t.places t.commands t.of_a_script.each f (e_at t hs) (births_of s) u k stand.0.1 stand.0.0.even (node_so t.places t.commands t.of_a_script.each f (e_at t hs) stand.0)
          (owned_so t.places t.commands t.of_a_script.each f (e_at t hs) stand.0) may (number_is t.places t.commands t.of_a_script.each f u.node k stand.0.1.many may.up) stand.1))

      rest_at : ComesAtRest t.places f (happenings.Turn u)
      rest_at =
          subst (ComesAtRest t.places f) turn
          (fact_at t.places t.commands (ComesAtRest t.places) (first_facts t.places) hs h rest (subst (EachFactFrom (ComesAtRest t.places) t.places t.commands (first_facts t.places)) (sym is) (calls_come_at_rest t whole)))

      other : CallsOther b c p u.input (heard k u.input)
      other n given l call has live me =
          let same : heard k u.input ≡ k = ap (heard k) call in
          let root : HasRoot k n l.me = subst (λ (j : NodeState). HasRoot j n l.me) same has in
          let there : live_at k l.me ≡ Some l = subst (λ (j : NodeState). live_at j l.me ≡ Some l) same live in
          let x : Branch = record { live = l; work = work_at k l.me } in
          let found : branch_at k l.me ≡ Some x = ap (with_work k) there in
          (now.1 k l up (subst (λ i. live_at k i ≡ Some l) me there)).busy (rest_at k may.up n (Some (stmts.Commit given)) call x root found).0

      served_before : AllServed b c p u.input (heard k u.input)
      served_before =
          subst (λ (ls : List Live). AllByRecursion (IfMe b c p u.input) ls) (sym (lives_heard k u.input))
          (all_weaker (λ l. item_at live_id k.lives l.me ≡ Some l) (IfMe b c p u.input) (λ l found me. now.1 k l up (subst (λ i. live_at k i ≡ Some l) me found)) k.lives (lives_found s lawful u.node k may.up))

      served_after : AllServed b c p u.input d.after
      served_after = served_on b c p u.input (serves t.places f u k may).step news other served_before

      -- what the node keeps after the turn
      left : node_at (f_at t after) b.node ≡ kept_after u.cut (Some (turn_of p k u.input))
      left =
          let here : node_at (facts_after t.places t.commands f (happenings.Turn u)) u.node ≡ kept_after u.cut (Some (turn_of p k u.input)) = (turn_here t.places t.commands f stand.0.0.even u k may.up).0 in
          let there : node_at (facts_after t.places t.commands f (happenings.Turn u)) b.node ≡ kept_after u.cut (Some (turn_of p k u.input))
          = subst (λ i. node_at (facts_after t.places t.commands f (happenings.Turn u)) i ≡ kept_after u.cut (Some (turn_of p k u.input))) node here in
          let its : node_at (facts_after t.places t.commands f h) b.node ≡ kept_after u.cut (Some (turn_of p k u.input))
          = subst (λ (y : Happening). node_at (facts_after t.places t.commands f y) b.node ≡ kept_after u.cut (Some (turn_of p k u.input))) (sym turn) there in
          subst (λ x. node_at x b.node ≡ kept_after u.cut (Some (turn_of p k u.input))) (sym (one_on t hs h)) its

      by_cut : (cut : Bool) → (j : NodeState) (l : Live) → kept_after cut (Some (turn_of p k u.input)) ≡ Some j → live_at j b ≡ Some l → Served c l
      unfolding turn_of
      by_cut true j l is live = absurd cc
      by_cut false j l is live =
          let it : d.after ≡ j = cc in
          let there : live_at d.after b ≡ Some l = subst (λ (i : NodeState). live_at i b ≡ Some l) (sym it) live in
          all_found (IfMe b c p u.input) live_id d.after.lives b l served_after there (item_is live_id d.after.lives b l there)

      turn_served : ServedAt (f_at t after)
      turn_served j l there live = by_cut u.cut j l (sym left ∙ there) live

    -- a happening that is no turn
    apart_served : ((u : Turn) → h ≢ happenings.Turn u) → ServedAt (f_at t after)
    apart_served not j l there live =
        let me : l.me ≡ b = item_is live_id j.lives b l live in
        let w : Branch = record { live = l; work = work_at j l.me } in
        let found : branch_at j l.me ≡ Some w = ap (with_work j) (subst (λ i. live_at j i ≡ Some l) (sym me) live) in
        now.1 j l (node_back t hs h not b.node j (subst (λ x. node_at x b.node ≡ Some j) (one_on t hs h) there) w found) live

    turn_elsewhere_served : (u : Turn) → h ≡ happenings.Turn u → (k : NodeState) → MayTurn t.places f u k → u.node ≢ b.node → ServedAt (f_at t after)
    turn_elsewhere_served u turn k may other j l there live =
        let its : node_at (facts_after t.places t.commands f (happenings.Turn u)) b.node ≡ Some j
        = subst (λ (y : Happening). node_at (facts_after t.places t.commands f y) b.node ≡ Some j) turn (subst (λ x. node_at x b.node ≡ Some j) (one_on t hs h) there) in
        now.1 j l (sym (turn_elsewhere t.places t.commands f (run_births s lawful).0.0.even u b.node other).0 ∙ its) live

    turn_any : (u : Turn) → h ≡ happenings.Turn u → (k : NodeState) → MayTurn t.places f u k → ServedAt (f_at t after)
    turn_any u turn k may = elim (cases_nat u.node b.node) [
      | inl node ↦ turn_served u turn k may node
      | inr other ↦ turn_elsewhere_served u turn k may other
    ]

    served_next : (y : Happening) → h ≡ y → ServedAt (f_at t after)
    served_next (happenings.Turn u) turn = (let may : MayHappen t.places t.commands f (happenings.Turn u) = subst (MayHappen t.places t.commands f) turn (may_of t whole hs h rest is) in turn_any u turn may.0 may.1)
    served_next (happenings.Stopped m) it = apart_served (λ u turn. (let no : happenings.Turn u ≡ happenings.Stopped m = sym turn ∙ it in absurd cc))
    served_next (happenings.Started m boot) it = apart_served (λ u turn. (let no : happenings.Turn u ≡ happenings.Started m boot = sym turn ∙ it in absurd cc))
    served_next (happenings.Begun m) it = apart_served (λ u turn. (let no : happenings.Turn u ≡ happenings.Begun m = sym turn ∙ it in absurd cc))
    served_next (happenings.Cut m n) it = apart_served (λ u turn. (let no : happenings.Turn u ≡ happenings.Cut m n = sym turn ∙ it in absurd cc))
    served_next (happenings.Join m n) it = apart_served (λ u turn. (let no : happenings.Turn u ≡ happenings.Join m n = sym turn ∙ it in absurd cc))
    served_next (happenings.Lost m) it = apart_served (λ u turn. (let no : happenings.Turn u ≡ happenings.Lost m = sym turn ∙ it in absurd cc))

    pub stays_one : StaysServed after
    stays_one = (born_next, served_next h refl)

  -- from some part of the run to a later one
  pub served_until : (hs later rest : List Happening) → (hs ++ later) ++ rest ≡ t.trace → StaysServed hs → ServedAt (f_at t (hs ++ later))
  served_until hs later rest is now = (keep_on t whole StaysServed stays_one hs later (record { rest = rest; is = is }) now).1

  -- and to its end
  pub served_end : (hs later : List Happening) → hs ++ later ≡ t.trace → StaysServed hs → ServedAt (facts_at t)
  served_end hs later is now = subst (λ xs. ServedAt (f_at t xs)) is (served_until hs later [] (append-nil (hs ++ later) ∙ is) now)
