-- A turn in which a message comes at the end of a lawful run, is not cut and sends all: what its draft leaves and sends is what
-- the node keeps after it and what flies.
use Rattle.std.proofs.Common.{◌≡◌, ◌⊎◌, Bool, true, false, [], ◌++◌, map, length, Some, sym, ap, subst, ◌∙◌}
use Rattle.net_bag.specs.Net.{lost_at_once}
use Rattle.node_rules.specs.Data.{BranchId, Kind, Msg, Place, Post}
use Rattle.node_rules.specs.Data.inputs
use Rattle.node_rules.specs.NodeState.{NodeState, TurnDraft}
use Rattle.node_rules.specs.Turn.{stamped, turn_of, draft_of}
use Rattle.run_rules.specs.Data.{Took, Turn}
use Rattle.run_rules.specs.Data.happenings
use Rattle.run_rules.specs.Facts.{Facts, place_at, node_at, kept_after, taken, facts_after}
use Rattle.run_rules.specs.Lawful.{Comes, IsOwed, MayTurn, History, IsLawfulRun}
use Rattle.run_base_laws.specs.InTurnLaws.{post_of, said_in}
use Rattle.run_rules.proofs.AtNodeLemmas.{turn_here}
use Rattle.run_base_laws.proofs.EventsStandLemmas.{run_stands}
use Rattle.run_base_laws.proofs.SaidPostLemmas.{posts_back, said_after}
use Rattle.tree_laws.proofs.PrefixLemmas.{f_at}
use Rattle.commit_laws.proofs.ListLemmas.{IsIn}
use Rattle.settle_laws.specs.Interval.{Flies}
use Rattle.settle_laws.proofs.FlyLemmas.{in_map, sent_flies, flies_or_taken}

module _ (t : History) (s_lawful : IsLawfulRun t) (u : Turn) (k : NodeState) (may : MayTurn t.places (f_at t t.trace) u k) (uncut : u.cut ≡ false)
    (none : lost_at_once (taken (f_at t t.trace).net u.took) u.sent ≡ []) (m : Msg) (it : u.input ≡ inputs.Message m) (y : Took) (took : u.took ≡ Some y) where
  abbrev f : Facts
  f = f_at t t.trace

  abbrev g : Facts
  g = facts_after t.places t.commands f (happenings.Turn u)

  pub record Calm (d : TurnDraft) : Type 0 where
    pub even : length f.nodes ≡ length f.records
    pub comes : Comes f k u.node (inputs.Message m) (Some y)
    pub at_to : m.to.node ≡ u.node
    pub here : node_at g u.node ≡ Some d.after
    pub up_to : node_at f m.to.node ≡ Some k
    pub here_to : node_at g m.to.node ≡ Some d.after
    pub said_now : said_in g ≡ said_in f ++ d.says
    -- what it says flies, and what flew does, but for the message that came
    pub post_flies : (test : Kind → Bool) (x : Post) → IsIn x d.says → test x.kind ≡ true → Flies test g x.from x.to
    pub flown : (test : Kind → Bool) (a b : BranchId) → Flies test f a b → Flies test g a b ⊎ ((m.from ≡ a) × (m.to ≡ b) × (test m.kind ≡ true))

  module _ (d : TurnDraft) (draft_is : draft_of (place_at t.places u.node) k u.input ≡ d) where
    abbrev p : Place
    p = place_at t.places u.node

    owed : IsOwed p k u.input u.wrote u.sent false
    owed = subst (IsOwed p k u.input u.wrote u.sent) uncut may.owed

    sent_is : u.sent ≡ map (stamped d.after.clock) d.says
    unfolding turn_of
    sent_is = owed.1 ∙ ap (λ (x : TurnDraft). map (stamped x.after.clock) x.says) draft_is

    after_is : (turn_of p k u.input).after ≡ d.after
    unfolding turn_of
    after_is = ap (λ (x : TurnDraft). x.after) draft_is

    length_even : length f.nodes ≡ length f.records
    length_even = (run_stands t s_lawful).0.even

    at_node : node_at g u.node ≡ Some d.after
    at_node = (turn_here t.places t.commands f length_even u k may.up).0 ∙ (ap (λ c. kept_after c (Some (turn_of p k u.input))) uncut ∙ ap Some after_is)

    it_comes : Comes f k u.node (inputs.Message m) (Some y)
    it_comes = subst (λ o. Comes f k u.node (inputs.Message m) o) took (subst (λ i. Comes f k u.node i u.took) it may.comes)

    pub calm : Calm d
    calm = record {
      even = length_even;
      comes = it_comes;
      at_to = it_comes.1.here;
      here = at_node;
      up_to = subst (λ n. node_at f n ≡ Some k) (sym it_comes.1.here) may.up;
      here_to = subst (λ n. node_at g n ≡ Some d.after) (sym it_comes.1.here) at_node;
      said_now = said_after t.places t.commands f (happenings.Turn u) ∙ ap (λ xs. said_in f ++ xs) (ap (map post_of) sent_is ∙ posts_back d.after.clock d.says);
      post_flies = λ test x at is.
          sent_flies t.places t.commands f u none test (stamped d.after.clock x) (subst (IsIn (stamped d.after.clock x)) (sym sent_is) (in_map (stamped d.after.clock) x d.says at)) is;
      flown = flies_or_taken t.places t.commands f u none k m y took it_comes;
    }
