-- In every lawful run the commit of a transaction has reached each of its sealed branches, where all its messages came and no
-- node of its branches stopped: by their distance from the commit point site, the nearest first.
use Rattle.std.proofs.Common.{◌≡◌, ℕ, zero, suc, ◌≤◌, true, Some, inl, inr, refl, sym, ap, subst, ◌∙◌, arith}
use Rattle.std.proofs.lemmas.Bool.Decides.{nat_tests}
use Rattle.agreement.specs.Events.{Sealed, Decided, Quiet, Beyond, exit, learned, Knows, site_of}
use Rattle.agreement.proofs.AgreementLaws.{covers}
use Rattle.agreement.proofs.Invariant.{Inv}
use Rattle.agreement.proofs.SameBranch.{cases_same}
use Rattle.node_rules.specs.Data.{BranchId, Kind}
use Rattle.node_rules.specs.Data.decisions
use Rattle.node_rules.specs.Data.kinds
use Rattle.run_rules.specs.Births.{Born}
use Rattle.run_base_laws.specs.BirthLaws.{Began}
use Rattle.run_rules.specs.Data.{Packet}
use Rattle.run_rules.specs.Data.fates
use Rattle.run_base_laws.specs.InTurnLaws.{said_in}
use Rattle.run_rules.specs.Lawful.{History, IsLawfulRun, facts_at}
use Rattle.run_base_laws.specs.RunEvents.{events_of}
use Rattle.run_rules.specs.Trail.{is_prepare}
use Rattle.tree_laws.specs.AskLaws.{HeardAbove}
use Rattle.tree_laws.specs.Forests.{forest_of}
use Rattle.tree_laws.proofs.ForestLemmas as trees
use Rattle.tree_laws.proofs.ForestRunLemmas.{run_known}
use Rattle.tree_laws.proofs.HeardLemmas.{left_were_asked}
use Rattle.commit_laws.specs.WaitLaws.{NodeHasStopped}
use Rattle.commit_laws.proofs.NetLemmas.{numbered_all}
use Rattle.commit_laws.proofs.SentLemmas.{IsSent, sent_found}
use Rattle.commit_spread_laws.specs.HearLaws.{HasHeard}
use Rattle.commit_spread_laws.specs.ReachLaws.{HasAllCome, CommitsReachAll}
use Rattle.commit_spread_laws.specs.TellLaws.{is_commit_at}
use Rattle.commit_spread_laws.proofs.HearLemmas.{commits_are_heard}
use Rattle.tree_laws.proofs.MoreLemmas.{forest, events_lawful, inv_end}
use Rattle.commit_spread_laws.proofs.TellLemmas.{commits_are_told}
use Rattle.tree_laws.proofs.AtPart.{at_end}

-- what Committed says has been heard
heard_as : (t : History) (from to : BranchId) (n : ℕ) (kind : Kind) → is_commit_at n kind ≡ true → HasHeard t from to kind → HasHeard t from to (kinds.Committed n)
heard_as t from to n (kinds.Committed m) is so = (let same_scn : m ≡ n = grind (arith, nat_tests, is) in subst (λ j. HasHeard t from to (kinds.Committed j)) same_scn so)
heard_as t from to n _ is so = absurd cc

-- ---- every run

module _ (t : History) (whole : IsLawfulRun t) (root : BranchId) (all : HasAllCome t root) (n : ℕ) (decided : exit (events_of t) ((forest_of t).site root) ≡ Some (Decided n)) where
  open at_end t use {forest as p, e, bs}

  end : Inv p e
  end = inv_end t whole

  -- a branch that knows the commit began in this transaction
  born_of : (b : BranchId) → Knows e b n → p.root b ≡ root → (z : Born) × Began bs z × (z.me ≡ b) × (z.root ≡ root)
  born_of b knows of = by knows
    where
      its : HeardAbove is_prepare bs (said_in (facts_at t)) b → (z : Born) × Began bs z × (z.me ≡ b) × (z.root ≡ root)
      its above = (above.0, above.1, above.2, sym (trees.root_is bs (said_in (facts_at t)) (run_known t whole) above.0 b above.1 above.2) ∙ of)

      by : Knows e b n → (z : Born) × Began bs z × (z.me ≡ b) × (z.root ≡ root)
      by (inl at) = its (left_were_asked t whole b (Decided n) at (λ no. absurd cc))
      by (inr learnt) = (let sealed = end.learned_sealed b (decisions.Commit n) learnt in its (left_were_asked t whole b (Sealed sealed.0) sealed.1 (λ no. absurd cc)))

  -- from one that knows it, it comes to a sealed one beyond
  comes_on : (b y : BranchId) → Beyond p b y → p.root y ≡ root → p.root b ≡ root → Knows e y n → (m : ℕ) → exit e b ≡ Some (Sealed m) → learned e b ≡ Some (decisions.Commit n)
  comes_on b y edge of_y of_b knows m sealed = elim (commits_are_told t whole y b n knows edge (λ quiet. absurd (cc (quiet, sealed)))) [
    | inr stopped ↦ (let born = born_of y knows of_y in absurd (all.up born.0 born.1 born.3 (subst (NodeHasStopped (facts_at t)) (sym born.2) stopped)))
    | inl sent ↦ came (sent_found (is_commit_at n) y b (facts_at t).net.packets sent)
  ]
    where
      came : IsSent (is_commit_at n) y b (facts_at t).net.packets → learned e b ≡ Some (decisions.Commit n)
      came x =
          let born = born_of y knows of_y in
          let fate : x.packet.fate ≡ fates.Delivered
          = numbered_all (λ (z : Packet). (a : Born) → Began bs a → a.me ≡ z.msg.from → a.root ≡ root → z.fate ≡ fates.Delivered) (facts_at t).net.packets (suc x.place) x.packet all.messages x.there born.0 born.1 (born.2 ∙ sym x.is_from) born.3 in
          let so : HasHeard t x.packet.msg.from x.packet.msg.to x.packet.msg.kind
          = numbered_all (λ (z : Packet). z.fate ≡ fates.Delivered → HasHeard t z.msg.from z.msg.to z.msg.kind) (facts_at t).net.packets (suc x.place) x.packet (commits_are_heard t whole) x.there fate in
          let here : HasHeard t y b (kinds.Committed n) = heard_as t y b n x.packet.msg.kind x.is_kind (subst (λ i. HasHeard t y i x.packet.msg.kind) x.is_to (subst (λ i. HasHeard t i x.packet.msg.to x.packet.msg.kind) x.is_from so)) in
          elim (here edge.next m sealed) [
            | inl learnt ↦ learnt
            | inr stopped ↦ (let below = sealed_born in absurd (all.up below.0 below.1 below.3 (subst (NodeHasStopped (facts_at t)) (sym below.2) stopped)))
          ]
        where
          sealed_born : (z : Born) × Began bs z × (z.me ≡ b) × (z.root ≡ root)
          sealed_born =
              let above = left_were_asked t whole b (Sealed m) sealed (λ no. absurd cc) in
              (above.0, above.1, above.2, sym (trees.root_is bs (said_in (facts_at t)) (run_known t whole) above.0 b above.1 above.2) ∙ of_b)

  -- the next branch on the way to the site is the site, or sealed
  knows_next : (y : BranchId) → p.member y ≡ true → p.root y ≡ root → ((j : ℕ) → exit e y ≡ Some (Sealed j) → learned e y ≡ Some (decisions.Commit n)) → (exit e y ≡ Some Quiet → ⊥) → Knows e y n
  knows_next y member of next loud = elim (cases_same y (site_of p y)) [
    | inl site ↦ inl (subst (λ i. exit e i ≡ Some (Decided n)) (sym (site ∙ ap p.site of)) decided)
    | inr other ↦ elim (covers p (forest t whole) e (events_lawful t whole) y n (subst (λ r. exit e (p.site r) ≡ Some (Decided n)) (sym of) decided) member other) [
      | inl sealed ↦ inr (next sealed.0 sealed.1)
      | inr quiet ↦ absurd (loud quiet)
    ]
  ]

  -- by the distance from the site
  reaches : (fuel : ℕ) (b : BranchId) → p.far b ≤ fuel → (m : ℕ) → exit e b ≡ Some (Sealed m) → p.root b ≡ root → learned e b ≡ Some (decisions.Commit n)
  reaches zero b low m sealed of = (let in_tree = end.sealed_in b m sealed in absurd (omega (arith, (forest t whole).nearer b in_tree.0 in_tree.1, low)))
  reaches (suc fuel) b low m sealed of =
      let in_tree = end.sealed_in b m sealed in
      let edge : Beyond p b (p.toward b) = record { member = in_tree.0; not_site = in_tree.1; next = refl } in
      let of_next : p.root (p.toward b) ≡ root = (forest t whole).of_one b in_tree.0 in_tree.1 ∙ of in
      let nearer : p.far (p.toward b) ≤ fuel = omega (arith, (forest t whole).nearer b in_tree.0 in_tree.1, low) in
      comes_on b (p.toward b) edge of_next of
      (knows_next (p.toward b) ((forest t whole).inward b in_tree.0 in_tree.1) of_next (λ j at. reaches fuel (p.toward b) nearer j at of_next)
      (λ quiet. (let gone : exit e b ≡ Some Quiet = end.quiet_covers b (p.toward b) edge quiet in absurd (cc (gone, sealed))))) m sealed

pub commits_reach_all : CommitsReachAll
commits_reach_all t whole root all n decided b m sealed of = reaches t whole root all n decided ((forest_of t).far b) b (omega arith) m sealed of
