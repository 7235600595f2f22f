-- In every lawful run a branch to which Prepare was delivered is not working, and one to which an answer was delivered
-- waits for that child no more.
use Rattle.std.proofs.Common.{◌≡◌, ◌≢◌, Bool, true, false, [], ◌∷◌, Option, Some, None, refl, sym, ap, subst, ◌∙◌}
use Rattle.std.proofs.lemmas.List.{append_assoc}
use Rattle.tran_ids.proofs.ListedLemmas.{item_is}
use Rattle.node_rules.specs.Data.{BranchId, Kind, Live, Msg, Vote, Input}
use Rattle.node_rules.specs.Data.inputs
use Rattle.node_rules.specs.Data.kinds
use Rattle.node_rules.specs.Data.phases
use Rattle.node_rules.specs.Data.votes
use Rattle.node_rules.specs.NodeState.{NodeState, Branch, TurnDraft, live_id, live_at, branch_at, work_at, with_work}
use Rattle.node_rules.specs.Prepare.{is_awaited}
use Rattle.node_rules.specs.Turn.{turn_of, heard, draft_of, kind_turn, status_of}
use Rattle.run_rules.specs.Births.{Born, births_of, born_id}
use Rattle.run_base_laws.specs.BirthLaws.{Began, IsChild, GoesSo, StandsBelow}
use Rattle.run_rules.specs.Facts.{node_at, kept_after, facts_after}
use Rattle.run_base_laws.specs.FreezeLaws.{was_asked}
use Rattle.run_base_laws.specs.InTurnLaws.{said_in}
use Rattle.run_rules.specs.Lawful.{MayHappen, History, IsLawfulRun, facts_at}
use Rattle.run_branch_laws.specs.PhaseLaws.{PhaseFits}
use Rattle.run_rules.specs.Trail.{is_prepare}
use Rattle.run_rules.proofs.AtNodeLemmas.{turn_here}
use Rattle.run_base_laws.proofs.BirthRunLemmas.{births_are_trees, messages_are_of_neighbors}
use Rattle.run_base_laws.proofs.BirthsStandLemmas.{came_so}
use Rattle.run_base_laws.proofs.EventsStandLemmas.{run_stands}
use Rattle.run_branch_laws.proofs.FreezeRunLemmas.{asked_stand_still}
use Rattle.run_rules.proofs.ListLemmas.{all_weaker}
use Rattle.run_base_laws.proofs.OwnLemmas.{all_found}
use Rattle.run_branch_laws.proofs.PhaseLemmas.{phases_fit}
use Rattle.tree_laws.proofs.PrefixLemmas.{so_far, f_at, one_on}
use Rattle.tree_laws.proofs.TimeLemmas.{part_on, part_lawful, may_of, born_end}
use Rattle.commit_laws.specs.DeliveryLaws.{CameInTurn, IsBusy, PreparesAreHeard, is_answer, HasAnswerOf, AnswersAreHeard}
use Rattle.commit_laws.proofs.AskedLemmas.{answers_were_asked}
use Rattle.commit_laws.proofs.CameLemmas.{deliveries_came}
use Rattle.commit_laws.proofs.KeepLemmas.{Served}
use Rattle.commit_laws.proofs.ServedLemmas.{ServedAt, HasBorn, served_end}
use Rattle.commit_laws.proofs.TurnLemmas.{prepare_served, answer_served}
use Rattle.tree_laws.proofs.AtTurn.{at_turn}

-- the vote of an answer
vote_of : (kind : Kind) → is_answer kind ≡ true → (v : Vote) × (is_awaited v ≡ false)
vote_of kinds.Prepared is = (votes.Prepared, refl)
vote_of kinds.ReadOnly is = (votes.ReadOnly, refl)
vote_of kinds.Ready is = (votes.Ready, refl)
vote_of _ is = absurd cc

module _ (t : History) (whole : IsLawfulRun t) (m : Msg) (came : CameInTurn t.trace m) where
  open came use {before as hs, turn as u}
  open m use {to as b}
  open at_turn t whole came.before came.turn came.later came.is use {h, s, f, lawful, p, after}

  lawful_z : IsLawfulRun (so_far t after)
  lawful_z = part_lawful t whole after (part_on t whole hs h came.later came.is)

  pub may : MayHappen t.places t.commands f h
  may = may_of t whole hs h came.later came.is

  abbrev k : NodeState
  k = may.0

  up : node_at f b.node ≡ Some k
  up = subst (λ i. node_at f i ≡ Some k) came.here may.1.up

  abbrev k0 : NodeState
  k0 = heard k (inputs.Message m)

  abbrev d : TurnDraft
  d = draft_of p k (inputs.Message m)

  -- how the message goes
  goes : GoesSo (Began (births_of s)) m.from m.to m.kind
  goes = came_so (GoesSo (Began (births_of s))) f (messages_are_of_neighbors s lawful) k u.node u.input u.took may.1.comes m.from m.to m.kind (record { scn = m.scn; is = came.input })

  born_later : (x : Born) → Began (births_of s) x → x.me ≡ b → (c : Option BranchId) → HasBorn t whole b c after
  born_later x began me c = (x, born_end (so_far t after) lawful_z hs (record { rest = h ∷ []; is = refl }) x began, me)

  child_born : IsChild (Began (births_of s)) m.to m.from → (c : Option BranchId) → HasBorn t whole b c after
  child_born child c = born_later child.0 child.1 child.2 c

  parent_born : IsChild (Began (births_of s)) m.from m.to → (c : Option BranchId) → HasBorn t whole b c after
  parent_born child c =
      let below : StandsBelow (Began (births_of s)) child.0 child.0.parent
      = all_found (λ x. StandsBelow (Began (births_of s)) x x.parent) born_id (births_of s) child.0.me child.0 (births_are_trees s lawful) child.1 in
      let above : StandsBelow (Began (births_of s)) child.0 (Some b) = subst (StandsBelow (Began (births_of s)) child.0) child.3 below in
      born_later above.0 above.1 above.2 c

  -- what the node keeps after the turn
  left : node_at (f_at t after) b.node ≡ kept_after u.cut (Some (turn_of p k (inputs.Message m)))
  left =
      let here : node_at (facts_after t.places t.commands f h) u.node ≡ kept_after u.cut (Some (turn_of p k u.input)) = (turn_here t.places t.commands f (run_stands s lawful).0.even u k may.1.up).0 in
      let there : node_at (facts_after t.places t.commands f h) b.node ≡ kept_after u.cut (Some (turn_of p k u.input))
      = subst (λ i. node_at (facts_after t.places t.commands f h) i ≡ kept_after u.cut (Some (turn_of p k u.input))) came.here here in
      subst (λ x. node_at x b.node ≡ kept_after u.cut (Some (turn_of p k (inputs.Message m)))) (sym (one_on t hs h)) (there ∙ ap (λ (i : Input). kept_after u.cut (Some (turn_of p k i))) came.input)

  module _ (c : Option BranchId) (so : (y : Live) → live_at d.after b ≡ Some y → Served c y) where
    by_cut : (cut : Bool) → (j : NodeState) (y : Live) → kept_after cut (Some (turn_of p k (inputs.Message m))) ≡ Some j → live_at j b ≡ Some y → Served c y
    unfolding turn_of
    by_cut true j y is live = absurd cc
    by_cut false j y is live = (let it : d.after ≡ j = cc in so y (subst (λ (i : NodeState). live_at i b ≡ Some y) (sym it) live))

    served_then : ServedAt t whole b c (f_at t after)
    served_then j y there live = by_cut u.cut j y (sym left ∙ there) live

    pub served_now : HasBorn t whole b c after → ServedAt t whole b c (facts_at t)
    served_now born = served_end t whole b c after came.later (append_assoc hs (h ∷ []) came.later ∙ came.is) (born, served_then)

  -- ---- Prepare

  prepared : (kind : Kind) → m.kind ≡ kind → is_prepare kind ≡ true → IsBusy (facts_at t) b
  prepared (kinds.Prepare below comment) is asks =
      let child : IsChild (Began (births_of s)) m.to m.from = subst (GoesSo (Began (births_of s)) m.from m.to) is goes in
      let served : ServedAt t whole b None (facts_at t)
      = served_now None (λ y live. prepare_served k0 m.from b below comment y (subst (λ (x : Kind). live_at (kind_turn p k0 m.from m.to x (status_of k0 m.to)).after b ≡ Some y) is live)) (child_born child None) in
      λ j l there live. (served j l there live).busy
  prepared _ is asks = absurd cc

  pub prepare_heard : is_prepare m.kind ≡ true → IsBusy (facts_at t) m.to
  prepare_heard asks = prepared m.kind refl asks

  -- ---- an answer

  fits : (l : Live) → live_at k0 b ≡ Some l → PhaseFits l.parent l.edges l.phase
  fits l live = all_found (λ (x : Live). PhaseFits x.parent x.edges x.phase) live_id k.lives b l (phases_fit s lawful u.node k may.1.up) live

  busy : is_answer m.kind ≡ true → (l : Live) → live_at k0 b ≡ Some l → l.phase ≢ phases.Working
  busy answers l live working =
      let me : l.me ≡ b = item_me l live in
      let there : live_at k l.me ≡ Some l = subst (λ i. live_at k i ≡ Some l) (sym me) live in
      let x : Branch = record { live = l; work = work_at k l.me } in
      let found : branch_at k l.me ≡ Some x = ap (with_work k) there in
      let none : was_asked (said_in f) l.me m.from ≡ false = (asked_stand_still s lawful u.node k may.1.up x found).0 working m.from in
      let asked : was_asked (said_in f) m.to m.from ≡ true = came_so (λ from to kind. is_answer kind ≡ true → was_asked (said_in f) to from ≡ true) f (answers_were_asked s lawful) k u.node u.input u.took may.1.comes m.from m.to m.kind (record { scn = m.scn; is = came.input }) answers in
      let asked_me : was_asked (said_in f) l.me m.from ≡ true = subst (λ i. was_asked (said_in f) i m.from ≡ true) (sym me) asked in
      absurd (cc (none, asked_me))
    where
      item_me : (l : Live) → live_at k b ≡ Some l → l.me ≡ b
      item_me l live = item_is live_id k.lives b l live

  answered : (kind : Kind) → m.kind ≡ kind → is_answer kind ≡ true → (v : Vote) → is_awaited v ≡ false
      → ((y : Live) → live_at (kind_turn p k0 m.from m.to kind (status_of k0 m.to)).after b ≡ Some y → Served (Some m.from) y) → IsChild (Began (births_of s)) m.from m.to → HasAnswerOf (facts_at t) m.to m.from
  answered kind is answers v done so child =
      let served : ServedAt t whole b (Some m.from) (facts_at t)
      = served_now (Some m.from) (λ y live. so y (subst (λ (x : Kind). live_at (kind_turn p k0 m.from m.to x (status_of k0 m.to)).after b ≡ Some y) is live)) (parent_born child (Some m.from)) in
      λ j l there live. (served j l there live).has

  by_kind : (kind : Kind) → m.kind ≡ kind → is_answer kind ≡ true → HasAnswerOf (facts_at t) m.to m.from
  by_kind kinds.Prepared is answers =
      answered kinds.Prepared is answers votes.Prepared refl (λ y live. answer_served k0 m.from b votes.Prepared refl (busy (subst (λ (x : Kind). is_answer x ≡ true) (sym is) refl)) fits y live) (subst (GoesSo (Began (births_of s)) m.from m.to) is goes)
  by_kind kinds.ReadOnly is answers =
      answered kinds.ReadOnly is answers votes.ReadOnly refl (λ y live. answer_served k0 m.from b votes.ReadOnly refl (busy (subst (λ (x : Kind). is_answer x ≡ true) (sym is) refl)) fits y live) (subst (GoesSo (Began (births_of s)) m.from m.to) is goes)
  by_kind kinds.Ready is answers =
      answered kinds.Ready is answers votes.Ready refl (λ y live. answer_served k0 m.from b votes.Ready refl (busy (subst (λ (x : Kind). is_answer x ≡ true) (sym is) refl)) fits y live) (subst (GoesSo (Began (births_of s)) m.from m.to) is goes)
  by_kind _ is answers = absurd cc

  pub answer_heard : is_answer m.kind ≡ true → HasAnswerOf (facts_at t) m.to m.from
  answer_heard answers = by_kind m.kind refl answers

pub prepares_are_heard : PreparesAreHeard
prepares_are_heard t whole = all_weaker _ _ (λ x so fate asks. prepare_heard t whole x.msg (so fate) asks) (facts_at t).net.packets (deliveries_came t whole)

pub answers_are_heard : AnswersAreHeard
answers_are_heard t whole = all_weaker _ _ (λ x so fate answers. answer_heard t whole x.msg (so fate) answers) (facts_at t).net.packets (deliveries_came t whole)
