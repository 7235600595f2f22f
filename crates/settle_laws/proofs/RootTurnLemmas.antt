-- In a calm turn no root begins to collect: it is asked by nobody, and no COMMIT is called.
use Rattle.std.proofs.Common.{◌≡◌, ℕ, Bool, false, List, [], ◌∷◌, ◌++◌, Some, None, inl, inr, sym, ap, subst, ◌∙◌, append-nil}
use Rattle.std.proofs.lemmas.List.{append_assoc}
use Rattle.std.specs.List.{AllByRecursion}
use Rattle.net_bag.specs.Net.{lost_at_once}
use Rattle.node_rules.specs.Data.{BranchId, Live, Act, Msg, Place}
use Rattle.node_rules.specs.Data.inputs
use Rattle.node_rules.specs.Data.kinds
use Rattle.node_rules.specs.Data.phases
use Rattle.node_rules.specs.Inputs.{Came}
use Rattle.node_rules.specs.NodeState.{NodeState, TurnDraft, live_at}
use Rattle.node_rules.specs.Turn.{heard, draft_of}
use Rattle.node_rules.proofs.Steps as steps
use Rattle.node_rules.proofs.Steps.{Step, Acting, Collects}
use Rattle.run_rules.specs.Births.{Born, births_of, born_at}
use Rattle.run_rules.specs.Data.{Happening, Took, Turn}
use Rattle.run_rules.specs.Data.happenings
use Rattle.run_rules.specs.Facts.{Facts, place_at, node_at, taken, facts_after}
use Rattle.run_rules.specs.Lawful.{MayTurn, History, IsLawfulRun}
use Rattle.run_rules.proofs.AtNodeLemmas.{turn_elsewhere}
use Rattle.run_rules.proofs.ListLemmas.{all_weaker}
use Rattle.run_base_laws.specs.BirthLaws.{Began, LiveIs, GoesSo}
use Rattle.run_base_laws.specs.NodeLaws.{EachFactFrom}
use Rattle.run_base_laws.proofs.BirthRunLemmas.{nodes_name_the_born, messages_are_of_neighbors}
use Rattle.run_base_laws.proofs.BirthsStandLemmas.{came_so}
use Rattle.run_base_laws.proofs.EventsStandLemmas.{run_stands}
use Rattle.run_base_laws.proofs.LawfulLemmas.{serves}
use Rattle.run_base_laws.proofs.LiveStepLemmas.{LiveCases, nothing_lasts, acting_by, left_by, lives_on}
use Rattle.run_base_laws.proofs.TurnEventLemmas.{all_both, cases_nat}
use Rattle.tree_laws.proofs.PrefixLemmas.{so_far, f_at, one_on}
use Rattle.tree_laws.proofs.TimeLemmas.{part_of, part_lawful, may_of}
use Rattle.settle_laws.specs.Interval.{IsCalm, By_reco, By_message, CalmHere}
use Rattle.settle_laws.specs.EndLaws.{EachRootWorks, RootsGoOnWorking, RootsWorkThrough}
use Rattle.settle_laws.proofs.BesideTurnLemmas.{came_kind}
use Rattle.settle_laws.proofs.CalmTurn.{calm}
use Rattle.settle_laws.proofs.RecoTurnLemmas.{nodes_same}

-- a root works
abbrev pub Works : Live → Type 0
Works l = l.parent ≡ None → l.phase ≡ phases.Working

module _ (t : History) (s_lawful : IsLawfulRun t) (u : Turn) (k : NodeState) where
  abbrev f : Facts
  f = f_at t t.trace

  abbrev g : Facts
  g = facts_after t.places t.commands f (happenings.Turn u)

  abbrev p : Place
  p = place_at t.places u.node

  abbrev B : Born → Type 0
  B x = Began (births_of t) x

  module _ (may : MayTurn t.places f u k) (m : Msg) (it : u.input ≡ inputs.Message m) where
    -- who is asked is a child of the one that asks
    asked_below : (l : Live) → LiveIs B l → (from : BranchId) (below : Bool) (comment : List ℕ) → Came (inputs.Message m) from l.me (kinds.Prepare below comment) → l.parent ≡ Some from
    asked_below l born from below comment came =
        let child : GoesSo B from l.me (kinds.Prepare below comment)
        = came_so (GoesSo B) f (messages_are_of_neighbors t s_lawful) k u.node u.input u.took may.comes from l.me (kinds.Prepare below comment) (subst (λ i. Came i from l.me (kinds.Prepare below comment)) (sym it) came) in
        let both : Some child.0 ≡ Some born.born = sym child.1 ∙ (ap (born_at (births_of t)) (child.2 ∙ sym born.is_me) ∙ born.began) in
        let same_born : child.0 ≡ born.born = cc in
        sym born.is_parent ∙ (ap (λ (x : Born). x.parent) (sym same_born) ∙ child.3)

    -- a root works, and who was asked has the one that asks as parent
    abbrev Told : Live → Type 0
    Told l = Works l × ((from : BranchId) (below : Bool) (comment : List ℕ) → Came (inputs.Message m) from l.me (kinds.Prepare below comment) → l.parent ≡ Some from)

    no_collect : {j : NodeState} (l : Live) {comment : List ℕ} {below : Bool} → Told l → Collects j (inputs.Message m) l comment below → l.parent ≡ None → ⊥
    no_collect l so (steps.By_commit n given call has code writer is) root = absurd (cc (call))
    no_collect l {comment = comment} so (steps.By_prepare from below came working) root = (let above : l.parent ≡ Some from = so.1 from below comment came in absurd (cc (above, root)))

    -- no root acts in its prepare phase
    no_act : {j : NodeState} {l : Live} {below : Bool} {a : Act} → Acting j (inputs.Message m) l below a → ((x : Live) → live_at j x.me ≡ Some x → Told x) → l.parent ≡ None → ⊥
    no_act (steps.Asks_down l comment below e es live begins has) all root = no_collect l (all l live) begins root
    no_act (steps.Has_no_children l comment below a live begins none collected) all root = no_collect l (all l live) begins root
    no_act (steps.Hears_abort l from below live answers) all root = (let works : l.phase ≡ phases.Working = (all l live).0 root in let collects = answers.collecting in absurd (cc (works, collects)))
    no_act (steps.Waits_on l from v below live answers other some) all root = (let works : l.phase ≡ phases.Working = (all l live).0 root in let collects = answers.collecting in absurd (cc (works, collects)))
    no_act (steps.Hears_last l from v below a live answers other every collected) all root = (let works : l.phase ≡ phases.Working = (all l live).0 root in let collects = answers.collecting in absurd (cc (works, collects)))
    no_act (steps.At_point l from a live came ready pointed) all root = (let works : l.phase ≡ phases.Working = (all l live).0 root in absurd (cc (works, ready)))

    -- its second half, of a branch that acts
    abbrev Below : Live → Type 0
    Below l = (from : BranchId) (below : Bool) (comment : List ℕ) → Came (inputs.Message m) from l.me (kinds.Prepare below comment) → l.parent ≡ Some from

    each : LiveCases p (inputs.Message m) (λ j. Unit {0}) (λ x. Unit {0}) Told
    each = record {
      lasts = nothing_lasts p (inputs.Message m);
      root = λ j n s read_at call begins free c. absurd (cc (call));
      child = λ j to parent edge root depth read_at came fresh c. (
        (λ nobody. absurd (cc (nobody))),
        λ from below comment asked. (let one : m.kind ≡ kinds.Prepare below comment = came_kind m asked in let other : m.kind ≡ kinds.Open edge root depth read_at = came_kind m came in absurd (cc (one, other))),
      );
      advised = λ l advice so. so;
      runs = λ j x s r so. so;
      backs = λ l changed so. so;
      opens = λ j x from strength edge link opened c so. so;
      replies = λ j x weight count a i edge answered so. so;
      acts = λ j l below a why c q all.
          left_by Told l a (λ says so. ((λ nobody. absurd (no_act why all nobody)), so.1))
          ((λ nobody. absurd (no_act why all nobody)), acting_by Below (λ x comment b live begins so. so) (λ x from v b answers so. so) (λ x live. (all x live).1) why);
    }

    module _ (uncut : u.cut ≡ false) (none : lost_at_once (taken f.net u.took) u.sent ≡ []) (y : Took) (took : u.took ≡ Some y) (now : EachRootWorks f) where
      abbrev d : TurnDraft
      d = draft_of p k (inputs.Message m)

      open calm t s_lawful u k may uncut none m it y took d (ap (draft_of p k) it) use {even, here}

      own : AllByRecursion Told d.after.lives
      own =
          lives_on each (subst (λ i. Step p i (heard k i) (draft_of p k i)) it (serves t.places f u k may).step) tt tt
          (all_weaker (λ l. Works l × LiveIs B l) Told (λ l so. (so.0, asked_below l so.1)) k.lives (all_both _ _ k.lives (now u.node k may.up) (nodes_name_the_born t s_lawful u.node k may.up).0))

      pub message_works : EachRootWorks g
      message_works n j up = elim (cases_nat u.node n) [
        | inl at ↦ (let both : Some d.after ≡ Some j = sym here ∙ subst (λ x. node_at g x ≡ Some j) (sym at) up in let its : d.after ≡ j = cc in
            subst (λ (x : NodeState). AllByRecursion Works x.lives) its (all_weaker Told Works (λ l so. so.0) d.after.lives own))
        | inr other ↦ now n j (sym (turn_elsewhere t.places t.commands f even u n other).0 ∙ up)
      ]

  -- each live root goes on working
  pub roots_after : MayTurn t.places f u k → IsCalm f u → EachRootWorks f → EachRootWorks g
  roots_after may (By_reco uncut none reco) now = λ n j up. now n j (sym (nodes_same t.places t.commands f (run_stands t s_lawful).0.even u k may uncut none reco n) ∙ up)
  roots_after may (By_message m y uncut none it took first) now = message_works may m it uncut none y took now

pub roots_go_on_working : RootsGoOnWorking
roots_go_on_working t whole u k may is now = roots_after t whole u k may is now

-- ---- a stretch

module _ (t : History) (whole : IsLawfulRun t) where
  one_more : (hs : List Happening) (h : Happening) (rest : List Happening) → hs ++ h ∷ rest ≡ t.trace → CalmHere (f_at t hs) h → EachRootWorks (f_at t hs) → EachRootWorks (f_at t (hs ++ h ∷ []))
  one_more hs (happenings.Turn u) rest is calm_turn now =
      let may = may_of t whole hs (happenings.Turn u) rest is in
      subst EachRootWorks (sym (one_on t hs (happenings.Turn u))) (roots_after (so_far t hs) (part_lawful t whole hs (part_of t whole hs (happenings.Turn u) rest is)) u may.0 may.1 calm_turn now)
  one_more hs h rest is calm_turn now = absurd calm_turn

  through : (hs mid rest : List Happening) → hs ++ (mid ++ rest) ≡ t.trace → EachFactFrom CalmHere t.places t.commands (f_at t hs) mid → EachRootWorks (f_at t hs) → EachRootWorks (f_at t (hs ++ mid))
  through hs [] rest is each_calm now = subst (λ xs. EachRootWorks (f_at t xs)) (sym (append-nil hs)) now
  through hs (h ∷ mid) rest is each_calm now =
      subst (λ xs. EachRootWorks (f_at t xs)) (append_assoc hs (h ∷ []) mid)
      (through (hs ++ h ∷ []) mid rest (append_assoc hs (h ∷ []) (mid ++ rest) ∙ is) (subst (λ x. EachFactFrom CalmHere t.places t.commands x mid) (sym (one_on t hs h)) each_calm.1) (one_more hs h (mid ++ rest) is each_calm.0 now))

pub roots_work_through : RootsWorkThrough
roots_work_through t whole hs mid is now = through t whole hs mid is.rest is.is is.calm now
