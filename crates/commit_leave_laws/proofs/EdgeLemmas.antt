-- In every lawful run two branches that began over one edge of a parent are one, where the nodes of neither has stopped since: the
-- Open went to one node, which answers it with one branch.
use Rattle.std.proofs.Common.{◌≡◌, [], option_map, Option, Some, None, refl, sym, ap, ◌∙◌, append-nil}
use Rattle.node_rules.specs.Data.{BranchId, Opening, Post}
use Rattle.node_rules.specs.Data.kinds
use Rattle.node_rules.specs.NodeState.{NodeState}
use Rattle.link_session.specs.Opens.{opening_of}
use Rattle.run_rules.specs.Births.{Born, births_of, born_id}
use Rattle.run_base_laws.specs.BirthLaws.{Began}
use Rattle.run_rules.specs.Facts.{node_at, records_at}
use Rattle.run_base_laws.specs.InTurnLaws.{said_in}
use Rattle.run_rules.specs.Lawful.{History, IsLawfulRun, boots, facts_at}
use Rattle.run_base_laws.specs.RunEvents.{events_of}
use Rattle.run_base_laws.proofs.EventsStandLemmas.{node_so, run_stands}
use Rattle.run_base_laws.proofs.OwnLemmas.{all_found}
use Rattle.run_claims.specs.Undisturbed.{HasNotStopped}
use Rattle.answer_origin_laws.proofs.OpenSentLemmas.{IsOpenTo, WasOpened, opened_at}
use Rattle.commit_leave_laws.specs.StrayLaws.{EdgesHaveOneChild}
use Rattle.commit_leave_laws.proofs.OpenLemmas.{one_open}
use Rattle.commit_leave_laws.proofs.OpenRunLemmas.{opens_once}
use Rattle.commit_leave_laws.proofs.OpeningLemmas.{answered_end}

module _ (t : History) (whole : IsLawfulRun t) where
  -- a node that has not stopped since a branch began is in the start that the branch began in
  boot_now : (x : Born) → HasNotStopped (facts_at t) x.me → (k : NodeState) × (node_at (facts_at t) x.me.node ≡ Some k) × (x.me.boot ≡ boots (records_at (facts_at t) x.me.node))
  boot_now x stays = by (node_at (facts_at t) x.me.node) refl stays
    where
      by : (o : Option NodeState) → node_at (facts_at t) x.me.node ≡ o → option_map (λ (k : NodeState). k.stored.durable.boot) o ≡ Some x.me.boot → (k : NodeState) × (node_at (facts_at t) x.me.node ≡ Some k) × (x.me.boot ≡ boots (records_at (facts_at t) x.me.node))
      by None up is = absurd cc
      by (Some k) up is =
          let node = node_so t.places t.commands t.of_a_script.each (facts_at t) (events_of t) (run_stands t whole) x.me.node k up in
          let started : k.stored.durable.boot ≡ boots (records_at (facts_at t) x.me.node) = ap (λ z. z.durable.boot) node.stored ∙ node.boot in
          let both : Some k.stored.durable.boot ≡ Some x.me.boot = is in
          let own : k.stored.durable.boot ≡ x.me.boot = cc in
          (k, up, sym own ∙ started)

  one_child : (x y : Born) → Began (births_of t) x → Began (births_of t) y → (p : BranchId) → x.parent ≡ Some p → y.parent ≡ Some p → x.edge ≡ y.edge → HasNotStopped (facts_at t) x.me → HasNotStopped (facts_at t) y.me → x.me ≡ y.me
  one_child x y began_x began_y p above_x above_y edge stays_x stays_y =
      let all = opened_at t whole t.trace (record { rest = []; is = append-nil t.trace }) in
      let open_x : IsOpenTo (said_in (facts_at t)) p x.edge x.me.node = all_found (WasOpened (said_in (facts_at t))) born_id (births_of t) x.me x all began_x p above_x in
      let open_y : IsOpenTo (said_in (facts_at t)) p y.edge y.me.node = all_found (WasOpened (said_in (facts_at t))) born_id (births_of t) y.me y all began_y p above_y in
      let kind_y = open_y.kind ∙ ap (λ i. kinds.Open i open_y.root open_y.depth open_y.read_at) (sym edge) in
      let one = one_open (said_in (facts_at t)) open_x.number open_y.number open_x.sent open_y.sent p x.edge open_x.root open_y.root open_x.depth open_y.depth open_x.read_at open_y.read_at (opens_once t whole p x.edge).0 open_x.at open_x.from open_x.kind open_y.at open_y.from kind_y in
      let node : y.me.node ≡ x.me.node = sym open_y.to ∙ (ap (λ (m : Post). m.to.node) (sym one) ∙ open_x.to) in
      let here = boot_now x stays_x in
      let there = boot_now y stays_y in
      let answer_x = answered_end t whole x.me.node here.0 here.1 x began_x p above_x refl here.2 in
      let boot_y : y.me.boot ≡ boots (records_at (facts_at t) x.me.node) = there.2 ∙ ap (λ n. boots (records_at (facts_at t) n)) node in
      let answer_y = answered_end t whole x.me.node here.0 here.1 y began_y p above_y node boot_y in
      let both : Some answer_x.0 ≡ Some answer_y.0 = sym answer_x.1 ∙ (ap (opening_of here.0.opens p) edge ∙ answer_y.1) in
      let it : answer_x.0 ≡ answer_y.0 = cc in
      sym answer_x.2 ∙ (ap (λ (o : Opening). o.child) it ∙ answer_y.2)

pub edges_have_one_child : EdgesHaveOneChild
edges_have_one_child t whole x y began_x began_y p above_x above_y edge stays_x stays_y = one_child t whole x y began_x began_y p above_x above_y edge stays_x stays_y
