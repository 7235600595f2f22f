-- In every lawful run whoever answered Prepare with Prepared, ReadOnly or Ready was asked by the receiver.
use Rattle.std.proofs.Common.{◌≡◌, ◌≢◌, ℕ, true, List, Some, sym, subst, ◌∙◌}
use Rattle.agreement.specs.Events.{Exit, Sealed, Quiet, Dropped, exit}
use Rattle.node_rules.specs.Data.{BranchId, Kind}
use Rattle.node_rules.specs.Data.kinds
use Rattle.run_rules.specs.Births.{Born, births_of, born_at}
use Rattle.run_base_laws.specs.BirthLaws.{Began, IsChild, GoesSo}
use Rattle.run_rules.specs.Data.{Packet}
use Rattle.run_base_laws.specs.FreezeLaws.{was_asked}
use Rattle.run_branch_laws.specs.HeardLaws.{QuietIs}
use Rattle.run_base_laws.specs.InTurnLaws.{said_in}
use Rattle.run_rules.specs.Lawful.{History, IsLawfulRun, facts_at}
use Rattle.run_base_laws.specs.RunEvents.{events_of}
use Rattle.run_rules.specs.Trail.{is_prepare}
use Rattle.run_branch_laws.specs.WalkLaws.{is_below}
use Rattle.run_base_laws.proofs.BirthRunLemmas.{messages_are_of_neighbors}
use Rattle.run_base_laws.proofs.EventsStandLemmas.{run_stands}
use Rattle.run_branch_laws.proofs.HeardStandLemmas.{quiets_are_gone}
use Rattle.run_rules.proofs.ListLemmas.{all_weaker}
use Rattle.run_base_laws.proofs.SaidLemmas.{IsSaid}
use Rattle.run_base_laws.proofs.TurnEventLemmas.{all_both}
use Rattle.run_branch_laws.proofs.VoteLemmas.{votes_are_of_sealed}
use Rattle.tree_laws.specs.AnswerLaws.{ReadyIs}
use Rattle.tree_laws.specs.AskLaws.{HeardAbove}
use Rattle.tree_laws.proofs.AnswerRunLemmas.{answers_are_as_told}
use Rattle.tree_laws.proofs.AskLemmas.{sent_wider, below_asks}
use Rattle.tree_laws.proofs.HeardLemmas.{left_were_asked}
use Rattle.commit_laws.specs.DeliveryLaws.{is_answer, AnswersWereAsked}

module _ (t : History) (whole : IsLawfulRun t) where
  abbrev bs : List Born
  bs = births_of t

  abbrev Asked : BranchId → BranchId → Type 0
  Asked to from = was_asked (said_in (facts_at t)) to from ≡ true

  -- the parent of one that was asked
  above_asked : (from to : BranchId) → IsChild (Began bs) from to → HeardAbove is_prepare bs (said_in (facts_at t)) from → Asked to from
  above_asked from to child heard =
      let one : born_at bs from ≡ Some child.0 = subst (λ i. born_at bs i ≡ Some child.0) child.2 child.1 in
      let two : born_at bs from ≡ Some heard.0 = subst (λ i. born_at bs i ≡ Some heard.0) heard.2 heard.1 in
      let both : Some child.0 ≡ Some heard.0 = sym one ∙ two in
      let it : child.0 ≡ heard.0 = cc in
      heard.3 to (subst (λ (x : Born). x.parent ≡ Some to) it child.3)

  left_asked : (from to : BranchId) → IsChild (Began bs) from to → (z : Exit) → exit (events_of t) from ≡ Some z → z ≢ Dropped → Asked to from
  left_asked from to child z left other = above_asked from to child (left_were_asked t whole from z left other)

  by_kind : (from to : BranchId) (scn : ℕ) (kind : Kind) → GoesSo (Began bs) from to kind → IsSaid (events_of t) (record { from = from; to = to; scn = scn; kind = kind }) → QuietIs (events_of t) from kind → ReadyIs (said_in (facts_at t)) from to kind
      → is_answer kind ≡ true → Asked to from
  by_kind from to scn kinds.Prepared goes said quiet ready is =
      let sealed = votes_are_of_sealed t whole from scn said in
      left_asked from to goes (Sealed sealed.0) sealed.1 (λ no. absurd cc)
  by_kind from to scn kinds.ReadOnly goes said quiet ready is = left_asked from to goes Quiet quiet (λ no. absurd cc)
  by_kind from to scn kinds.Ready goes said quiet ready is = sent_wider is_below is_prepare below_asks (said_in (facts_at t)) to from ready
  by_kind from to scn _ goes said quiet ready is = absurd cc

pub answers_were_asked : AnswersWereAsked
answers_were_asked t whole =
    all_weaker _ _ (λ x so. by_kind t whole x.msg.from x.msg.to x.msg.scn x.msg.kind so.0 so.1.0 so.1.1.0 so.1.1.1) (facts_at t).net.packets
    (all_both (λ (x : Packet). GoesSo (Began (births_of t)) x.msg.from x.msg.to x.msg.kind)
    (λ (x : Packet). IsSaid (events_of t) x.msg × (QuietIs (events_of t) x.msg.from x.msg.kind × ReadyIs (said_in (facts_at t)) x.msg.from x.msg.to x.msg.kind)) (facts_at t).net.packets (messages_are_of_neighbors t whole)
    (all_both (λ (x : Packet). IsSaid (events_of t) x.msg) (λ (x : Packet). QuietIs (events_of t) x.msg.from x.msg.kind × ReadyIs (said_in (facts_at t)) x.msg.from x.msg.to x.msg.kind) (facts_at t).net.packets (run_stands t whole).2
    (all_both (λ (x : Packet). QuietIs (events_of t) x.msg.from x.msg.kind) (λ (x : Packet). ReadyIs (said_in (facts_at t)) x.msg.from x.msg.to x.msg.kind) (facts_at t).net.packets (quiets_are_gone t whole) (answers_are_as_told t whole).1)))
