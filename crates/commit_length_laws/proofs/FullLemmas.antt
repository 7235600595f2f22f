-- What a branch may ask for: a working branch whose Prepare comes knows how many branches stand below it, by the answers of
-- its children.
use Rattle.std.proofs.Common.{◌≡◌, ℕ, zero, suc, ◌+◌, ◌*◌, ◌≤◌, List, [], ◌∷◌, map, length, Option, Some, None, inl, inr, refl, sym, ap, subst, ◌∙◌, arith}
use Rattle.std.specs.Prelude.{IfSome}
use Rattle.std.proofs.lemmas.List.Sums.{sum_by-cons}
use Rattle.tran_ids.proofs.ListedLemmas.{item_is}
use Rattle.session_tree.specs.Tree.{count}
use Rattle.node_rules.specs.Data.{BranchId, Edge, Live, Phase}
use Rattle.node_rules.specs.declared.work.Work.{Work}
use Rattle.node_rules.specs.Data.phases
use Rattle.node_rules.specs.Words.{numbered}
use Rattle.node_rules.specs.NodeState.{NodeState, Branch, live_id, live_at, branch_at, work_at, with_work}
use Rattle.agreement.specs.Events.{Event}
use Rattle.node_rules.specs.Data.{Place}
use Rattle.run_rules.specs.Births.{Born, births_of, births_after}
use Rattle.run_base_laws.specs.BirthLaws.{Began, ChildrenAre, LiveIs}
use Rattle.run_rules.specs.Data.{Happening, Command}
use Rattle.run_rules.specs.Facts.{Facts, first_facts, node_at, facts_after, facts_of}
use Rattle.run_base_laws.specs.InTurnLaws.{NeedsNoRollback, WaitsFor, call_at}
use Rattle.run_rules.specs.Lawful.{IsPlace, IsLawful, History, IsLawfulRun}
use Rattle.run_base_laws.specs.RunEvents.{events_after}
use Rattle.run_base_laws.proofs.BirthRunLemmas.{StandBorn, stand_born_on, stand_born_first, nodes_name_the_born}
use Rattle.run_base_laws.proofs.InTurnRunLemmas.{CallsStand, calls_stand_on, first_calls, edges_fit}
use Rattle.run_base_laws.proofs.OwnLemmas.{all_found}
use Rattle.run_base_laws.proofs.RestRunLemmas.{RootsStand, roots_stand_on, first_rests}
use Rattle.run_ready_laws.proofs.SentLemmas.{Told, told_gave}
use Rattle.run_ready_laws.proofs.CountLemmas.{counts}
use Rattle.run_ready_laws.proofs.CountRunLemmas.{CountStand, LiveFits, NodeFits, counts_on, first_counts}
use Rattle.tree_laws.proofs.ForestLemmas.{same_born}
use Rattle.tree_laws.proofs.ForestRunLemmas.{run_known}
use Rattle.commit_length_laws.proofs.WorthLemmas.{asked_worth}
use Rattle.tree_laws.proofs.AtPart.{at_end}
use Rattle.commit_length_laws.specs.Worth.{total, full_by, full, live_in, ask_in}

-- ---- what a Prepare is worth

pub count_is : (l : Live) → count l ≡ 1 + counts l.edges
count_is l = refl

full_two : (o : Option Live) → 2 ≤ full o
full_two None = omega arith
full_two (Some l) = by l.phase
  where
    by : (p : Phase) → 2 ≤ full_by p (count l)
    by phases.Working = (let some = count_is l in omega (arith, some))
    by (phases.Collecting b) = omega arith
    by phases.Ready = omega arith

pub ask_two : (f : Facts) (b : BranchId) → 2 ≤ ask_in f b
ask_two f b = full_two (live_in (node_at f b.node) b)

-- ---- every run

module _ (places : List Place) (asked : List Command) (each : (n : ℕ) (p : Place) → numbered places n ≡ Some p → IsPlace places n p) where
  counts_end : (f : Facts) (hs : List Happening) (t : List Event) (bs : List Born) → StandBorn places asked each f t bs → RootsStand places asked each f → CallsStand f → CountStand f → IsLawful places asked f hs → CountStand (facts_of places asked f hs)
  unfolding IsLawful facts_of
  counts_end f [] t bs stand roots turns now lawful = now
  counts_end f (h ∷ hs) t bs stand roots turns now lawful =
      counts_end (facts_after places asked f h) hs (events_after places asked f h t) (births_after places f h bs) (stand_born_on places asked each f t bs h stand lawful.0) (roots_stand_on places asked each f t bs stand roots h lawful.0)
      (calls_stand_on places asked each f t bs stand roots turns h lawful.0) (counts_on places asked each f t bs stand roots turns now h lawful.0).0 lawful.1

module _ (t : History) (whole : IsLawfulRun t) where
  open at_end t use {f, said}

  stand : CountStand f
  stand =
      counts_end t.places t.commands t.of_a_script.each (first_facts t.places) t.trace [] [] (stand_born_first t.places t.commands t.of_a_script.each) (first_rests t.places t.commands t.of_a_script.each)
      (first_calls t.places t.commands t.of_a_script.each) (first_counts t.places t.commands t.of_a_script.each) whole

  fits_at : (n : ℕ) (k : NodeState) → node_at f n ≡ Some k → (b : BranchId) (l : Live) → live_at k b ≡ Some l → LiveFits said k l (work_at k b)
  fits_at n k up b l live = (let all : NodeFits said k = subst (λ o. IfSome o (NodeFits said)) up (stand.nodes n) in all.each b l live)

  -- a live branch has no more branches below it than a tree may have
  pub few : (n : ℕ) (k : NodeState) → node_at f n ≡ Some k → (b : BranchId) (l : Live) → live_at k b ≡ Some l → count l ≤ 256
  few n k up b l live = (let low = (fits_at n k up b l live).1.few in omega (arith, low))

  module _ (n : ℕ) (k : NodeState) (up : node_at f n ≡ Some k) (l : Live) (live : live_at k l.me ≡ Some l) (goes : NeedsNoRollback k l) (free : (work_at k l.me).going ≡ None) where
    abbrev w : Work
    w = work_at k l.me

    abbrev x : Branch
    x = record { live = l; work = w }

    there : branch_at k l.me ≡ Some x
    there = ap (with_work k) live

    fits : LiveFits said k l w
    fits = fits_at n k up l.me l live

    no_wait : (i : ℕ) (A : Type 0) → WaitsFor i w.going → A
    no_wait i A waits = absurd (subst (WaitsFor i) free waits)

    told : (i : ℕ) (e : Edge) → numbered l.edges i ≡ Some e → Told said e.peer l.me (call_at w i) e.count
    told i e at = elim (fits.1.held goes i e at) [ inl waits ↦ no_wait i _ waits | inr is ↦ is ]

    peer_numbered : (es : List Edge) (i : ℕ) (e : Edge) → numbered es i ≡ Some e → numbered (map (λ y. y.peer) es) i ≡ Some e.peer
    peer_numbered es zero e at = absurd cc
    peer_numbered [] (suc i) e at = absurd cc
    peer_numbered (y ∷ es) (suc zero) e at = (let both : Some y ≡ Some e = at in let it : y ≡ e = cc in ap (λ (z : Edge). Some z.peer) it)
    peer_numbered (y ∷ es) (suc (suc i)) e at = peer_numbered es (suc i) e at

    child_parent : (es : List Edge) (j i : ℕ) (e : Edge) → numbered es i ≡ Some e → ChildrenAre (Began (births_of t)) l.me j es → (z : Born) × Began (births_of t) z × (z.me ≡ e.peer) × (z.parent ≡ Some l.me)
    child_parent es j zero e at all = absurd cc
    child_parent [] j (suc i) e at all = absurd cc
    child_parent (y ∷ es) j (suc zero) e at all =
        let both : Some y ≡ Some e = at in
        let it : y ≡ e = cc in
        (all.0.0, all.0.1, (all.0.2 ∙ ap (λ (z : Edge). z.peer) it), all.0.3)
    child_parent (y ∷ es) j (suc (suc i)) e at all = child_parent es (j + 1) (suc i) e at all.1

    placed : LiveIs (Began (births_of t)) l
    placed = all_found (LiveIs (Began (births_of t))) live_id k.lives l.me l (nodes_name_the_born t whole n k up).0 live

    module _ (i : ℕ) (e : Edge) (at : numbered l.edges i ≡ Some e) where
      -- a child that works has what it told of
      child_count : (j : NodeState) → node_at f e.peer.node ≡ Some j → (y : Live) → live_at j e.peer ≡ Some y → y.phase ≡ phases.Working → count y ≡ e.count
      child_count j upj y livey working =
          let me : y.me ≡ e.peer = item_is live_id j.lives e.peer y livey in
          let found : live_at j y.me ≡ Some y = subst (λ b. live_at j b ≡ Some y) (sym me) livey in
          let z : Branch = record { live = y; work = work_at j y.me } in
          let there_z : branch_at j y.me ≡ Some z = ap (with_work j) found in
          let edge = edges_fit t whole n k up x there i e.peer (peer_numbered l.edges i e at) e.peer.node j upj z there_z me in
          let born = child_parent l.edges 1 i e at placed.children in
          let own : LiveIs (Began (births_of t)) y = all_found (LiveIs (Began (births_of t))) live_id j.lives y.me y (nodes_name_the_born t whole e.peer.node j upj).0 found in
          let it : own.born ≡ born.0 = same_born (births_of t) said (run_known t whole) own.born born.0 own.began born.1 (own.is_me ∙ (me ∙ sym born.2)) in
          let parent : y.parent ≡ Some l.me = sym own.is_parent ∙ (ap (λ (q : Born). q.parent) it ∙ born.3) in
          elim (edge.rests goes) [
            | inl waits ↦ no_wait i _ waits
            | inr rests ↦ (let child = (fits_at e.peer.node j upj y.me y found).0 in
                let taken : (work_at j y.me).came.last_call ≡ call_at w i = rests.0 in
                let some : 1 ≤ call_at w i = fits.1.called i e at in
                let low : 1 ≤ (work_at j y.me).came.last_call = omega (arith, taken, some) in
                let tells : Told said y.me l.me (work_at j y.me).came.last_call e.count = subst (λ b. Told said b l.me (work_at j y.me).came.last_call e.count) (sym me) (subst (λ v. Told said e.peer l.me v e.count) (sym taken) (told i e at)) in
                sym (child.told (λ none. absurd (cc (parent, none))) low rests.1 l.me e.count tells))
          ]

      child_low : ask_in f e.peer + 4 ≤ 11 * e.count
      child_low = by (node_at f e.peer.node) refl
        where
          some : 1 ≤ e.count
          some = (told_gave said said stand.all e.peer l.me (call_at w i) e.count (told i e at)).0

          phase_low : (p : Phase) (m : ℕ) → (p ≡ phases.Working → m ≡ e.count) → full_by p m + 4 ≤ 11 * e.count
          phase_low phases.Working m is = (let here = is refl in omega (arith, here, some))
          phase_low (phases.Collecting b) m is = omega (arith, some)
          phase_low phases.Ready m is = omega (arith, some)

          by_live : (j : NodeState) → node_at f e.peer.node ≡ Some j → (o : Option Live) → live_at j e.peer ≡ o → full o + 4 ≤ 11 * e.count
          by_live j upj None none = omega (arith, some)
          by_live j upj (Some y) found = phase_low y.phase (count y) (child_count j upj y found)

          by : (o : Option NodeState) → node_at f e.peer.node ≡ o → full (live_in o e.peer) + 4 ≤ 11 * e.count
          by None down = omega (arith, some)
          by (Some j) upj = by_live j upj (live_at j e.peer) refl

    sum_low : (es : List Edge) → ((i : ℕ) (e : Edge) → numbered es i ≡ Some e → ask_in f e.peer + 4 ≤ 11 * e.count) → total (λ e. ask_in f e.peer) es + 4 * length es ≤ 11 * counts es
    sum_low [] low = omega arith
    sum_low (e ∷ es) low =
        let here : ask_in f e.peer + 4 ≤ 11 * e.count = low 1 e refl in
        let rest : total (λ y. ask_in f y.peer) es + 4 * length es ≤ 11 * counts es = sum_low es (λ i y at. later i y at) in
        let is : counts (e ∷ es) ≡ e.count + counts es = sum_by-cons (λ (z : Edge). z.count) e es in
        omega (arith, here, rest, is)
      where
        later : (i : ℕ) (y : Edge) → numbered es i ≡ Some y → ask_in f y.peer + 4 ≤ 11 * y.count
        later zero y at = absurd cc
        later (suc i) y at = low (suc (suc i)) y at

    -- what its children may ask for, and what it may send itself, is less than it was asked with
    pub asks_low : (asked_worth (ask_in f) l.edges + 4 * length l.edges) + 11 ≤ 11 * count l
    asks_low = (let all = sum_low l.edges child_low in let is = count_is l in omega (arith, all, is))
