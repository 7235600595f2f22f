-- In every lawful run a live branch that said Ready still is: it was Ready then, waited for no answer and does not work or
-- collect again.
use Rattle.std.proofs.Common.{◌≡◌, ℕ, ◌||◌, true, false, List, [], ◌∷◌, ◌++◌, Some, refl, sym, ap, subst, ◌∙◌}
use Rattle.std.specs.List.{AllByRecursion, list_any}
use Rattle.std.proofs.lemmas.List.{append_assoc}
use Rattle.node_rules.specs.Data.{BranchId, Edge, Kind, Live, Phase, Place}
use Rattle.node_rules.specs.Data.kinds
use Rattle.node_rules.specs.Data.phases
use Rattle.node_rules.specs.NodeState.{NodeState, TurnDraft, live_id, live_at}
use Rattle.node_rules.specs.Points.{is_ready}
use Rattle.node_rules.specs.Prepare.{is_awaited}
use Rattle.node_rules.specs.Turn.{turn_of, heard, draft_of}
use Rattle.run_rules.specs.Births.{births_of}
use Rattle.run_base_laws.specs.BirthLaws.{Began, LiveIs}
use Rattle.run_rules.specs.Data.{Happening}
use Rattle.run_rules.specs.Data.happenings
use Rattle.run_rules.specs.Facts.{place_at, node_at, kept_after, facts_after}
use Rattle.run_rules.specs.Lawful.{MayHappen, History, IsLawfulRun, facts_at}
use Rattle.run_branch_laws.specs.PhaseLaws.{PhaseFits}
use Rattle.run_rules.proofs.AtNodeLemmas.{turn_here}
use Rattle.run_base_laws.proofs.BirthRunLemmas.{nodes_name_the_born}
use Rattle.run_base_laws.proofs.EventsStandLemmas.{run_stands, ids_name_their_node}
use Rattle.run_base_laws.proofs.LawfulLemmas.{serves}
use Rattle.run_rules.proofs.ListLemmas.{all_weaker}
use Rattle.run_base_laws.proofs.OwnLemmas.{all_found}
use Rattle.run_branch_laws.proofs.PhaseLemmas.{phases_fit}
use Rattle.tree_laws.proofs.BeyondLemmas.{none_awaited}
use Rattle.tree_laws.proofs.PrefixLemmas.{so_far, f_at, one_on}
use Rattle.tree_laws.proofs.WhyLemmas.{SaidWhy, why_on}
use Rattle.tree_laws.proofs.TimeLemmas.{part_on, part_of, part_lawful, may_of}
use Rattle.commit_laws.proofs.KeepLemmas.{Has, Served}
use Rattle.commit_laws.proofs.ServedLemmas.{ServedAt, HasBorn, served_end}
use Rattle.commit_point_laws.specs.PointLaws.{ReadyStay}
use Rattle.commit_point_laws.proofs.MomentLemmas.{SentIn, found_in, turn_says, sent_in}

-- ---- children that are waited for

-- no answer of any child is
none_any : (es : List Edge) → ((c : BranchId) → AllByRecursion (Has (Some c)) es) → list_any (λ e. is_awaited e.vote) es ≡ false
none_any [] all = refl
none_any (e ∷ es) all =
    let one : is_awaited e.vote ≡ false = (all e.peer).0 refl in
    ap (λ q. q || list_any (λ (x : Edge). is_awaited x.vote) es) one ∙ none_any es (λ c. (all c).1)

module _ (t : History) (whole : IsLawfulRun t) (b q : BranchId) (it : SentIn t whole is_ready b q) where
  open it use {before as hs, turn as u}

  abbrev h : Happening
  h = happenings.Turn u

  abbrev after : List Happening
  after = hs ++ h ∷ []

  abbrev z : History
  z = so_far t after

  lawful : IsLawfulRun (so_far t hs)
  lawful = part_lawful t whole hs (part_of t whole hs h it.later it.is)

  lawful_z : IsLawfulRun z
  lawful_z = part_lawful t whole after (part_on t whole hs h it.later it.is)

  may : MayHappen t.places t.commands (f_at t hs) h
  may = may_of t whole hs h it.later it.is

  abbrev k : NodeState
  k = may.0

  abbrev p : Place
  p = place_at t.places u.node

  abbrev d : TurnDraft
  d = draft_of p k u.input

  -- the branch is Ready when it has said so
  abbrev IsReady : Type 0
  IsReady = (y : Live) × (live_at d.after b ≡ Some y) × (y.phase ≡ phases.Ready) × (y.parent ≡ Some q) × (y.me ≡ b)

  by_kind : (kind : Kind) → is_ready kind ≡ true → SaidWhy (heard k u.input) u.input d.says d.after.lives b q kind → IsReady
  by_kind kinds.Ready is why = why
  by_kind _ is why = absurd cc

  is_so : IsReady
  is_so =
      let says = turn_says t hs u k may.1 is_ready b q it.says in
      let whys : AllByRecursion (λ x. SaidWhy (heard k u.input) u.input d.says d.after.lives x.from x.to x.kind) d.says
      = (why_on (heard k u.input) u.input p (serves t.places (f_at t hs) u k may.1).step (λ no. record { lives = refl; clock = refl })).1 in
      let found = found_in is_ready (SaidWhy (heard k u.input) u.input d.says d.after.lives) b q d.says whys says.1 in
      by_kind found.0 found.1 found.2

  whole_turn : u.cut ≡ false
  whole_turn = (turn_says t hs u k may.1 is_ready b q it.says).0

  left : node_at (f_at t after) u.node ≡ Some d.after
  unfolding turn_of
  left =
      let here : node_at (facts_after t.places t.commands (f_at t hs) h) u.node ≡ kept_after u.cut (Some (turn_of p k u.input)) = (turn_here t.places t.commands (f_at t hs) (run_stands (so_far t hs) lawful).0.even u k may.1.up).0 in
      subst (λ x. node_at x u.node ≡ Some d.after) (sym (one_on t hs h)) (here ∙ ap (λ c. kept_after c (Some (turn_of p k u.input))) whole_turn)

  abbrev y : Live
  y = is_so.0

  mine : live_at d.after y.me ≡ Some y
  mine = subst (λ i. live_at d.after i ≡ Some y) (sym is_so.4) is_so.1

  node : u.node ≡ b.node
  node = sym (all_found (λ (l : Live). l.me.node ≡ u.node) live_id d.after.lives y.me y (ids_name_their_node z lawful_z u.node d.after left).lives mine) ∙ ap (λ (i : BranchId). i.node) is_so.4

  placed : LiveIs (Began (births_of z)) y
  placed = all_found (LiveIs (Began (births_of z))) live_id d.after.lives y.me y (nodes_name_the_born z lawful_z u.node d.after left).0 mine

  module _ (c : BranchId) where
    born : HasBorn t whole b (Some c) after
    born = (placed.born, placed.began, placed.is_me ∙ is_so.4)

    served_y : Served (Some c) y
    served_y =
        let fits : PhaseFits y.parent y.edges y.phase = all_found (λ (l : Live). PhaseFits l.parent l.edges l.phase) live_id d.after.lives y.me y (phases_fit z lawful_z u.node d.after left) mine in
        let ready : PhaseFits y.parent y.edges phases.Ready = subst (PhaseFits y.parent y.edges) is_so.2 fits in
        let done : AllByRecursion (λ e. is_awaited e.vote ≡ false) y.edges = none_awaited y.edges ready.1 in
        record {
          busy = λ working. (let is : y.phase ≡ phases.Ready = is_so.2 in absurd (cc (working, is)));
          has = all_weaker (λ e. is_awaited e.vote ≡ false) (Has (Some c)) (λ e none peer. none) y.edges done;
        }

    served_then : ServedAt t whole b (Some c) (f_at t after)
    served_then j l there live =
        let up : node_at (f_at t after) b.node ≡ Some d.after = subst (λ n. node_at (f_at t after) n ≡ Some d.after) node left in
        let one : Some d.after ≡ Some j = sym up ∙ there in
        let it_is : d.after ≡ j = cc in
        let at : live_at d.after b ≡ Some l = subst (λ (i : NodeState). live_at i b ≡ Some l) (sym it_is) live in
        let two : Some y ≡ Some l = sym is_so.1 ∙ at in
        let same : y ≡ l = cc in
        subst (Served (Some c)) same served_y

    pub served : ServedAt t whole b (Some c) (facts_at t)
    served = served_end t whole b (Some c) after it.later (append_assoc hs (h ∷ []) it.later ∙ it.is) (born, served_then)

  -- so it is at the end
  module _ (n : ℕ) (j : NodeState) (up : node_at (facts_at t) n ≡ Some j) (l : Live) (live : live_at j l.me ≡ Some l) (me : l.me ≡ b) where
    own : n ≡ b.node
    own = sym (all_found (λ (x : Live). x.me.node ≡ n) live_id j.lives l.me l (ids_name_their_node t whole n j up).lives live) ∙ ap (λ (i : BranchId). i.node) me

    serves_it : (c : BranchId) → Served (Some c) l
    serves_it c = served c j l (subst (λ i. node_at (facts_at t) i ≡ Some j) own up) (subst (λ i. live_at j i ≡ Some l) me live)

    by_phase : (phase : Phase) → l.phase ≡ phase → l.phase ≡ phases.Ready
    by_phase phases.Working is = absurd ((serves_it b).busy is)
    by_phase (phases.Collecting below) is =
        let fits : PhaseFits l.parent l.edges l.phase = all_found (λ (x : Live). PhaseFits x.parent x.edges x.phase) live_id j.lives l.me l (phases_fit t whole n j up) live in
        let some : list_any (λ (e : Edge). is_awaited e.vote) l.edges ≡ true = (subst (PhaseFits l.parent l.edges) is fits).1 in
        let none : list_any (λ (e : Edge). is_awaited e.vote) l.edges ≡ false = none_any l.edges (λ c. (serves_it c).has) in
        absurd (cc (some, none))
    by_phase phases.Ready is = is

    pub stays : l.phase ≡ phases.Ready
    stays = by_phase l.phase refl

pub ready_stay : ReadyStay
ready_stay t whole n k up l live q sent = stays t whole l.me q (sent_in t whole is_ready l.me q sent) n k up l live refl
