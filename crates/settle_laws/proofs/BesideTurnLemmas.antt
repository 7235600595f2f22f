-- A calm turn in which a message of a statement comes, or InDoubt, or one of the forget phase: nobody leaves, nobody becomes sealed,
-- and who begins was not asked.
use Rattle.std.proofs.Common.{◌≡◌, ℕ, Bool, true, false, List, [], Some, None, inl, inr, refl, sym, ap, subst, ◌∙◌}
use Rattle.std.specs.List.{AllByRecursion}
use Rattle.net_bag.specs.Net.{lost_at_once}
use Rattle.node_rules.specs.Data.{BranchId, Kind, Live, Act, Vote, Msg, Place}
use Rattle.node_rules.specs.Data.inputs
use Rattle.node_rules.specs.Data.kinds
use Rattle.node_rules.specs.Data.votes
use Rattle.node_rules.specs.Inputs.{Came}
use Rattle.node_rules.specs.NodeState.{NodeState, live_at}
use Rattle.node_rules.specs.Turn.{heard}
use Rattle.node_rules.proofs.Steps as steps
use Rattle.node_rules.proofs.Steps.{Acting, Answers, Collects, Drops, vote_kind}
use Rattle.run_rules.specs.Births.{Born, births_by, births_of, born_at}
use Rattle.run_rules.specs.Data.{Took, Turn}
use Rattle.run_rules.specs.Data.happenings
use Rattle.run_rules.specs.Facts.{Facts, place_at, taken, facts_after}
use Rattle.run_rules.specs.Lawful.{MayTurn, History, IsLawfulRun}
use Rattle.run_rules.proofs.ListLemmas.{all_weaker}
use Rattle.run_base_laws.specs.FreezeLaws.{was_asked}
use Rattle.run_base_laws.specs.InTurnLaws.{said_in}
use Rattle.run_base_laws.specs.RunEvents.{events_of}
use Rattle.run_base_laws.proofs.BirthLemmas.{news_of}
use Rattle.run_base_laws.proofs.BirthRunLemmas.{StandBorn, run_births, messages_are_of_neighbors}
use Rattle.run_base_laws.proofs.BirthsStandLemmas.{all_unborn}
use Rattle.run_base_laws.proofs.EventsStandLemmas.{node_so, owned_so}
use Rattle.run_base_laws.proofs.KidLemmas.{parent_in, parent_of}
use Rattle.run_base_laws.proofs.LiveStepLemmas.{LiveCases, acting_by, left_by, lives_on}
use Rattle.run_base_laws.proofs.NeighborLemmas.{News}
use Rattle.run_base_laws.proofs.NeighborStepLemmas.{news_lasts}
use Rattle.run_base_laws.proofs.SaidPostLemmas.{asked_in}
use Rattle.run_base_laws.proofs.TurnEventLemmas.{number_is}
use Rattle.tree_laws.proofs.PrefixLemmas.{f_at}
use Rattle.commit_forget_laws.proofs.FoundRowLemmas.{lives_found}
use Rattle.settle_laws.specs.ObligeLaws.{is_beside}
use Rattle.settle_laws.specs.Interval.{is_ask, is_point, is_decision, Obliged}
use Rattle.settle_laws.proofs.StayLemmas.{By_seal, By_act, By_rollback, By_ask}
use Rattle.settle_laws.proofs.QuietTurnLemmas as quiet

-- ---- kinds of messages

-- a message of the prepare phase
abbrev pub is_of_phase : Kind → Bool
is_of_phase (kinds.Prepare site_below comment) = true
is_of_phase kinds.Prepared = true
is_of_phase kinds.ReadOnly = true
is_of_phase kinds.Ready = true
is_of_phase kinds.Abort = true
is_of_phase kinds.CommitPoint = true
is_of_phase _ = false

beside_decides : (kind : Kind) → is_beside kind ≡ true → is_decision kind ≡ false
beside_decides (kinds.Committed n) is = absurd cc
beside_decides kinds.Rollback is = absurd cc
beside_decides kinds.RolledBack is = absurd cc
beside_decides _ is = refl

beside_asks : (kind : Kind) → is_beside kind ≡ true → is_ask kind ≡ false
beside_asks kinds.Ask is = absurd cc
beside_asks _ is = refl

beside_points : (kind : Kind) → is_beside kind ≡ true → is_point kind ≡ false
beside_points kinds.CommitPoint is = absurd cc
beside_points _ is = refl

beside_phase : (kind : Kind) → is_beside kind ≡ true → is_of_phase kind ≡ false
beside_phase (kinds.Prepare site_below comment) is = absurd cc
beside_phase kinds.Prepared is = absurd cc
beside_phase kinds.ReadOnly is = absurd cc
beside_phase kinds.Ready is = absurd cc
beside_phase kinds.Abort is = absurd cc
beside_phase kinds.CommitPoint is = absurd cc
beside_phase _ is = refl

module _ (m : Msg) where
  pub came_kind : {from to : BranchId} {kind : Kind} → Came (inputs.Message m) from to kind → m.kind ≡ kind
  came_kind came = (let is = came.is in cc)

  of_came : {from to : BranchId} (kind : Kind) → Came (inputs.Message m) from to kind → is_of_phase kind ≡ true → is_of_phase m.kind ≡ true
  of_came kind came is = ap is_of_phase (came_kind came) ∙ is

  of_collects : {k : NodeState} {l : Live} {comment : List ℕ} {b : Bool} → Collects k (inputs.Message m) l comment b → is_of_phase m.kind ≡ true
  of_collects (steps.By_commit n given call has code writer is) = absurd (cc (call))
  of_collects {comment = comment} (steps.By_prepare from b came working) = of_came (kinds.Prepare b comment) came refl

  of_answers : {l : Live} {from : BranchId} {v : Vote} {b : Bool} → Answers (inputs.Message m) l from v b → is_of_phase m.kind ≡ true
  of_answers {v = v} answers = of_came answers.kind answers.came (by v answers.kind answers.is_vote)
    where
      by : (v : Vote) (kind : Kind) → vote_kind v ≡ Some kind → is_of_phase kind ≡ true
      by votes.Prepared kind is = (let it : kinds.Prepared ≡ kind = cc in ap is_of_phase (sym it))
      by votes.ReadOnly kind is = (let it : kinds.ReadOnly ≡ kind = cc in ap is_of_phase (sym it))
      by votes.Ready kind is = (let it : kinds.Ready ≡ kind = cc in ap is_of_phase (sym it))
      by votes.Abort kind is = (let it : kinds.Abort ≡ kind = cc in ap is_of_phase (sym it))
      by _ kind is = absurd cc

  -- who acts in its prepare phase was told so by such a message
  pub acting_of : {k : NodeState} {l : Live} {b : Bool} {a : Act} → Acting k (inputs.Message m) l b a → is_of_phase m.kind ≡ true
  acting_of (steps.Asks_down l comment b e es live begins has) = of_collects begins
  acting_of (steps.Has_no_children l comment b a live begins none collected) = of_collects begins
  acting_of (steps.Hears_abort l from b live answers) = of_answers answers
  acting_of (steps.Waits_on l from v b live answers other some) = of_answers answers
  acting_of (steps.Hears_last l from v b a live answers other all collected) = of_answers answers
  acting_of (steps.At_point l from a live came ready pointed) = of_came kinds.CommitPoint came refl

  -- who is rolled back was told so
  pub drops_of : {l : Live} → Drops (inputs.Message m) l → is_decision m.kind ≡ true
  drops_of (steps.By_rollback from came) = ap is_decision (came_kind came)
  drops_of (steps.By_parent from came on) = ap is_decision (came_kind came)

-- ---- the branches that there are then

module _ (t : History) (s_lawful : IsLawfulRun t) (u : Turn) (k : NodeState) where
  abbrev pub f : Facts
  f = f_at t t.trace

  abbrev p : Place
  p = place_at t.places u.node

  abbrev Unborn : Born → Type 0
  Unborn x = born_at (births_of t) x.me ≡ None

  module _ (may : MayTurn t.places f u k) (uncut : u.cut ≡ false) (none : lost_at_once (taken f.net u.took) u.sent ≡ []) (m : Msg) (it : u.input ≡ inputs.Message m) (y : Took) (took : u.took ≡ Some y)
      (no_decision : is_decision m.kind ≡ false) (no_ask : is_ask m.kind ≡ false) where
    abbrev OldOrNew : Live → Type 0
    OldOrNew = quiet.OldOrNew t s_lawful u k may uncut none m it y took no_decision no_ask

    news : News Unborn p (inputs.Message m) (heard k (inputs.Message m))
    news =
        let stand : StandBorn t.places t.commands t.of_a_script.each f (events_of t) (births_of t) = run_births t s_lawful in
        let unborn : AllByRecursion Unborn (births_by p k u.input)
        = all_unborn t.places t.commands t.of_a_script.each f (events_of t) (births_of t) u k stand.0.1 stand.0.0.even (node_so t.places t.commands t.of_a_script.each f (events_of t) stand.0)
        (owned_so t.places t.commands t.of_a_script.each f (events_of t) stand.0) may (number_is t.places t.commands t.of_a_script.each f u.node k stand.0.1.many may.up) stand.1 in
        subst (λ i. News Unborn p i (heard k i)) it (news_of Unborn p k u.input unborn)

    unasked : (b q : BranchId) → born_at (births_of t) b ≡ None → was_asked (said_in f) q b ≡ false
    unasked b q unborn = by (was_asked (said_in f) q b) refl
      where
        by : (w : Bool) → was_asked (said_in f) q b ≡ w → was_asked (said_in f) q b ≡ false
        by false is = is
        by true is =
            let above : parent_of (births_of t) b ≡ Some q = asked_in (births_of t) q b f.net.packets (messages_are_of_neighbors t s_lawful) is in
            let nobody : parent_of (births_of t) b ≡ None = ap parent_in unborn in absurd (cc (above, nobody))

    each : LiveCases p (inputs.Message m) (News Unborn p (inputs.Message m)) (λ x. Unit {0}) OldOrNew
    each = record {
      lasts = news_lasts Unborn p (inputs.Message m);
      root = λ j n s read_at call begins free new. absurd (cc (call));
      child = λ j to parent edge root depth read_at came fresh new. inr (λ q is. unasked _ q (new.child to parent edge root depth read_at came fresh));
      advised = λ l advice so. so;
      runs = λ j x s r so. so;
      backs = λ l changed so. so;
      opens = λ j x from strength g link opened c so. so;
      replies = λ j x weight count a i e answered so. so;
      acts = λ j l below a why c q all. left_by OldOrNew l a (λ says so. so) (acting_by OldOrNew (λ x comment b live begins so. so) (λ x from v b answers so. so) all why);
    }

    -- each is live since before, with the same parent, or begins now
    pub born_so : AllByRecursion OldOrNew (quiet.d t s_lawful u k may uncut none m it y took no_decision no_ask).after.lives
    born_so =
        lives_on each (quiet.step t s_lawful u k may uncut none m it y took no_decision no_ask) news tt
        (all_weaker (λ l. live_at k l.me ≡ Some l) OldOrNew (λ l found. inl (l, found, refl)) k.lives (lives_found t s_lawful u.node k may.up))

  -- a message of a statement, InDoubt, or one of the forget phase leaves all so
  pub beside_obliged : MayTurn t.places f u k → u.cut ≡ false → lost_at_once (taken f.net u.took) u.sent ≡ [] → (m : Msg) → u.input ≡ inputs.Message m → (y : Took) → u.took ≡ Some y → is_beside m.kind ≡ true
      → (R : ℕ → Type 0) → Obliged R f → Obliged R (facts_after t.places t.commands f (happenings.Turn u))
  beside_obliged may uncut none m it y took beside R now =
      let no_decision : is_decision m.kind ≡ false = beside_decides m.kind beside in
      let no_ask : is_ask m.kind ≡ false = beside_asks m.kind beside in
      let no_phase : is_of_phase m.kind ≡ false = beside_phase m.kind beside in
      let no_point : is_point m.kind ≡ false = beside_points m.kind beside in
      quiet.quiet_obliged t s_lawful u k may uncut none m it y took no_decision no_ask R now (record {
        over = λ b left. elim left [
          | By_act j l below a lives why is me ↦ (let of : is_of_phase m.kind ≡ true = acting_of m why in absurd (cc (of, no_phase)))
          | By_rollback l drops ↦ (let of : is_decision m.kind ≡ true = drops_of m drops in absurd (cc (of, no_decision)))
          | By_ask l from came ↦ (let of : is_ask m.kind ≡ true = ap is_ask (came_kind m came) in absurd (cc (of, no_ask)))
        ];
        seals = λ x seals. elim seals [ By_seal j l below path why is ↦ (let of : is_of_phase m.kind ≡ true = acting_of m why in absurd (cc (of, no_phase))) ];
        points = λ is. absurd (cc (is, no_point));
        born = born_so may uncut none m it y took no_decision no_ask;
      })
