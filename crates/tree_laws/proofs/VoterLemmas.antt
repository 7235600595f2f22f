-- A child that becomes sealed off the walk has a weight, which its last Reply told, so the edge of its parent has it.
use Rattle.std.proofs.Common.{◌≡◌, ◌≢◌, ℕ, zero, suc, ◌⊎◌, true, false, List, [], ◌∷◌, map, is_none, Option, Some, None, inl, inr, refl, sym, ap, subst, subst₂, ◌∙◌, arith}
use Rattle.std.specs.Prelude.{IfSome}
use Rattle.std.specs.List.{AllByRecursion}
use Rattle.session_tree.specs.Tree.{weight}
use Rattle.node_rules.specs.Data.{Sealed as SealedRecord}
use Rattle.node_rules.specs.Data.{BranchId, Edge, Live, Post, RedoRecord}
use Rattle.node_rules.specs.Data.phases
use Rattle.node_rules.specs.Data.records
use Rattle.node_rules.specs.Words.{numbered}
use Rattle.node_rules.specs.NodeState.{NodeState, Branch, live_at, branch_at, work_at, with_work}
use Rattle.node_rules.specs.Turn.{heard, draft_of}
use Rattle.agreement.specs.Events.{Event, Sealed, exit}
use Rattle.run_rules.specs.Data.{Turn, Happening}
use Rattle.run_rules.specs.Data.happenings
use Rattle.run_rules.specs.Facts.{Facts, place_at, node_at}
use Rattle.run_rules.specs.Lawful.{MayTurn, History, IsLawfulRun}
use Rattle.run_rules.specs.Births.{Born}
use Rattle.run_base_laws.specs.FreezeLaws.{was_asked}
use Rattle.run_base_laws.specs.InTurnLaws.{said_in, newest_exec, call_at}
use Rattle.run_rules.specs.Trail.{is_prepare}
use Rattle.run_branch_laws.specs.WalkLaws.{is_below, is_above, was_sent}
use Rattle.run_branch_laws.proofs.FreezeRunLemmas.{prepare_finds_rest, walks_are_one}
use Rattle.run_base_laws.proofs.InTurnRunLemmas.{branches_call_in_turn}
use Rattle.run_base_laws.proofs.LawfulLemmas.{serves}
use Rattle.tree_laws.specs.AskLaws.{HeardAbove, way_of}
use Rattle.tree_laws.specs.Forests.{comes_to}
use Rattle.tree_laws.specs.RecordLaws.{LeadsToward, RecordLeads, WritesAsTold}
use Rattle.tree_laws.specs.WeightLaws.{ToldWeight, TellsItsWeight}
use Rattle.tree_laws.proofs.AskLemmas.{sent_wider, tells_asks, below_asks}
use Rattle.tree_laws.proofs.AskRunLemmas.{collects_as_told}
use Rattle.tree_laws.proofs.PrefixLemmas.{so_far, f_at}
use Rattle.run_branch_laws.proofs.KeptRowLemmas.{IsSealOf}
use Rattle.tree_laws.proofs.SealLemmas.{SealsSo, seals_so}
use Rattle.tree_laws.proofs.SettleLemmas.{live_in, born_of}
use Rattle.tree_laws.proofs.WeightRunLemmas.{replies_tell_weights, edges_hold_weights}
use Rattle.tree_laws.proofs.WhyLemmas.{WroteWhy, why_on}
use Rattle.tree_laws.proofs.AtPart.{at_part}

-- ---- lists of edges

pub mapped_at : {X : Type 0} (f : Edge → X) (es : List Edge) (i : ℕ) (e : Edge) → numbered es i ≡ Some e → numbered (map f es) i ≡ Some (f e)
mapped_at f es zero e at = absurd cc
mapped_at f [] (suc i) e at = absurd cc
mapped_at f (x ∷ es) (suc zero) e at = (let it : Some x ≡ Some e = at in let here : x ≡ e = cc in ap (λ y. Some (f y)) here)
mapped_at f (x ∷ es) (suc (suc i)) e at = mapped_at f es (suc i) e at

pub edge_at_both : (es : List Edge) (i : ℕ) (c : BranchId) (v : Option ℕ) → numbered (map (λ (e : Edge). e.peer) es) i ≡ Some c → numbered (map (λ (e : Edge). e.weight) es) i ≡ Some v → (e : Edge) × (numbered es i ≡ Some e) × (e.peer ≡ c) × (e.weight ≡ v)
edge_at_both es zero c v at there = absurd cc
edge_at_both [] (suc i) c v at there = absurd cc
edge_at_both (x ∷ es) (suc zero) c v at there =
    let one : Some x.peer ≡ Some c = at in
    let two : Some x.weight ≡ Some v = there in
    let first : x.peer ≡ c = cc in
    let second : x.weight ≡ v = cc in
    (x, refl, first, second)
edge_at_both (x ∷ es) (suc (suc i)) c v at there = edge_at_both es (suc i) c v at there

module _ (P : Edge → Type 0) where
  shifted : (x : Edge) (es : List Edge) → ((i : ℕ) (e : Edge) → numbered (x ∷ es) i ≡ Some e → P e) → (i : ℕ) (e : Edge) → numbered es i ≡ Some e → P e
  shifted x es each zero e at = absurd cc
  shifted x es each (suc i) e at = each (suc (suc i)) e at

  pub all_numbered : (es : List Edge) → ((i : ℕ) (e : Edge) → numbered es i ≡ Some e → P e) → AllByRecursion P es
  all_numbered [] each = tt
  all_numbered (x ∷ es) each = (each (suc zero) x refl, all_numbered es (shifted x es each))

-- ---- what stands

-- a sealed branch was asked by its parent
abbrev pub SealedHeard : List Event → List Born → List Post → Type 0
SealedHeard e bs said = (c : BranchId) (m : ℕ) → exit e c ≡ Some (Sealed m) → HeardAbove is_prepare bs said c

-- the edge of a sealed child that was asked off the walk has a weight
abbrev pub SealedWeigh : Facts → List Event → Type 0
SealedWeigh f e = (n : ℕ) (k : NodeState) → node_at f n ≡ Some k → (x : Branch) → branch_at k x.live.me ≡ Some x → (i : ℕ) (y : Edge) → numbered x.live.edges i ≡ Some y
    → (m : ℕ) → exit e y.peer ≡ Some (Sealed m) → was_sent is_above (said_in f) x.live.me y.peer ≡ true → y.weight ≢ None

no_weight : (o : Option ℕ) → is_none o ≡ false → o ≡ None → ⊥
no_weight None some is = absurd cc
no_weight (Some w) some is = absurd cc

no_parent : (o : Option BranchId) (p : BranchId) → is_none o ≡ true → o ≡ Some p → ⊥
no_parent None p none is = absurd cc
no_parent (Some q) p none is = absurd cc

-- ---- a branch that becomes sealed

module _ (t : History) (before : List Happening) (lawful : IsLawfulRun (so_far t before)) (u : Turn) (k : NodeState) (may : MayTurn t.places (f_at t before) u k) where
  open at_part t before use {s, said, bs}

  -- It was live, so it began, and its parent told it of the walk.
  pub record SealsNow (c : BranchId) : Type 0 where
    pub live : Live
    pub found : live_at k live.me ≡ Some live
    pub is_me : live.me ≡ c
    pub weighs : (is_none (weight live) ≡ false) ⊎ ((is_none live.parent ≡ true) ⊎ (live.phase ≡ phases.Ready))
    pub leads : (q : BranchId) × LeadsToward said live.me live.parent (Some q)

  seals_by : (c : BranchId) (w : Option RedoRecord) → IfSome w (WroteWhy (heard k u.input) u.input (draft_of (place_at t.places u.node) k u.input).says) → IfSome w (RecordLeads said) → IsSealOf c w → SealsNow c
  seals_by c (Some (records.Sealed r)) why leads at =
      let so : SealsSo why.4.here why.1.me why.1.parent = seals_so why.3 why.4.acting in
      let found : live_at k so.live.me ≡ Some so.live = live_in t before lawful u k may why.4.here why.4.near so.live so.found in
      let me : so.live.me ≡ r.me = so.is_me ∙ sym (ap (λ (x : SealedRecord). x.me) why.6) in
      let parent : so.live.parent ≡ r.parent = so.is_parent ∙ sym (ap (λ (x : SealedRecord). x.parent) why.6) in
      record {
        live = so.live;
        found = found;
        is_me = me ∙ at;
        weighs = subst (λ o. (is_none (weight so.live) ≡ false) ⊎ ((is_none o ≡ true) ⊎ (so.live.phase ≡ phases.Ready))) (sym so.is_parent) so.weighs;
        leads = (leads.0, subst₂ (λ b o. LeadsToward said b o (Some leads.0)) (sym me) (sym parent) leads.2);
      }
  seals_by c _ why leads at = absurd at

  pub seals_now : (c : BranchId) → WritesAsTold t.places (f_at t before) (happenings.Turn u) → IsSealOf c u.wrote → SealsNow c
  seals_now c leads at = elim (serves t.places (f_at t before) u k may).wrote [
    | inl none ↦ absurd (subst (IsSealOf c) none at)
    | inr it ↦ seals_by c u.wrote (subst (λ o. IfSome o (WroteWhy (heard k u.input) u.input (draft_of (place_at t.places u.node) k u.input).says)) (sym it)
        (why_on (heard k u.input) u.input (place_at t.places u.node) (serves t.places (f_at t before) u k may).step (λ no. record { lives = refl; clock = refl })).0) leads at
  ]

  module _ (c : BranchId) (seals : SealsNow c) where
    asked_by : (q : BranchId) (o : Option BranchId) → LeadsToward said seals.live.me o (Some q) → (p : BranchId) → o ≡ Some p → was_asked said p seals.live.me ≡ true
    asked_by q o (inl up) p above =
        let it : Some q ≡ Some p = sym up.0 ∙ above in
        let here : q ≡ p = cc in
        sent_wider is_above is_prepare (tells_asks false) said p seals.live.me (subst (λ b. was_sent is_above said b seals.live.me ≡ true) here up.1)
    asked_by q o (inr on) p above = sent_wider is_below is_prepare below_asks said p seals.live.me (subst (λ z. comes_to said seals.live.me z ≡ true) above on.0)

    pub sealing_heard : HeardAbove is_prepare bs said c
    sealing_heard =
        let placed = born_of t before lawful u k may seals.live seals.found in
        (placed.born, placed.began, placed.is_me ∙ seals.is_me, (λ q above. subst (λ b. was_asked said q b ≡ true) seals.is_me (asked_by seals.leads.0 seals.live.parent seals.leads.1 q (sym placed.is_parent ∙ above))))

    -- a branch below a root that weighs told its weight
    calls : TellsItsWeight said seals.live.me seals.live.parent (weight seals.live) (work_at k seals.live.me) → seals.live.parent ≢ None → (work_at k seals.live.me).going ≡ None → (v : Option ℕ)
        → ToldWeight said seals.live.me (work_at k seals.live.me).came.last_call v → is_none (weight seals.live) ≡ false → (m : ℕ) → (work_at k seals.live.me).came.last_call ≡ m → v ≢ None
    calls weighs below rests v tells some zero is none = no_weight (weight seals.live) some (weighs.zero_calls below is)
    calls weighs below rests v tells some (suc m) is none = no_weight (weight seals.live) some (sym (weighs.told below (omega (arith, is)) rests v tells) ∙ none)

    -- its parent's edge has its weight
    pub sealing_weighs : (n : ℕ) (j : NodeState) → node_at (f_at t before) n ≡ Some j → (x : Branch) → branch_at j x.live.me ≡ Some x → (i : ℕ) (y : Edge) → numbered x.live.edges i ≡ Some y → y.peer ≡ c
        → was_sent is_above said x.live.me c ≡ true → y.weight ≢ None
    sealing_weighs n j up x found i y at peer above none =
        let l : Live = seals.live in
        let z : Branch = record { live = l; work = work_at k l.me } in
        let there : branch_at k l.me ≡ Some z = ap (with_work k) seals.found in
        let asked_c : was_asked said x.live.me c ≡ true = sent_wider is_above is_prepare (tells_asks false) said x.live.me c above in
        let asked : was_asked said x.live.me l.me ≡ true = subst (λ b. was_asked said x.live.me b ≡ true) (sym seals.is_me) asked_c in
        let rest = prepare_finds_rest s lawful x.live.me u.node k may.up z there asked in
        let told : ToldWeight said y.peer (call_at x.work i) y.weight = (edges_hold_weights s lawful n j up x found).asked i y at (subst (λ b. was_asked said x.live.me b ≡ true) (sym peer) asked_c) in
        let made : newest_exec said x.live.me y.peer ≡ call_at x.work i = (branches_call_in_turn s lawful n j up x found).1.made i y.peer (mapped_at (λ (e : Edge). e.peer) x.live.edges i y at) in
        let me : y.peer ≡ l.me = peer ∙ sym seals.is_me in
        let last : call_at x.work i ≡ z.work.came.last_call = sym made ∙ (ap (λ b. newest_exec said x.live.me b) me ∙ rest.2) in
        let tells : ToldWeight said l.me z.work.came.last_call y.weight = subst₂ (λ b m. ToldWeight said b m y.weight) me last told in
        by rest.0 rest.1 tells seals.weighs
      where
        by : (seals.live.parent ≡ Some x.live.me) → ((work_at k seals.live.me).going ≡ None) → ToldWeight said seals.live.me (work_at k seals.live.me).came.last_call y.weight
            → (is_none (weight seals.live) ≡ false) ⊎ ((is_none seals.live.parent ≡ true) ⊎ (seals.live.phase ≡ phases.Ready)) → ⊥
        by parent rests tells (inl some) =
            let z : Branch = record { live = seals.live; work = work_at k seals.live.me } in
            let weighs = replies_tell_weights s lawful u.node k may.up z (ap (with_work k) seals.found) in
            calls weighs (λ no. absurd (cc (parent, no))) rests y.weight tells some (work_at k seals.live.me).came.last_call refl none
        by parent rests tells (inr (inl root)) = no_parent seals.live.parent x.live.me root parent
        by parent rests tells (inr (inr ready)) =
            let below : was_sent is_below said x.live.me seals.live.me ≡ true = collects_as_told s lawful u.node k may.up seals.live seals.found true (ap way_of ready) x.live.me parent in
            let no : was_sent is_above said x.live.me seals.live.me ≡ false = (walks_are_one s lawful x.live.me seals.live.me below).0 in
            let yes : was_sent is_above said x.live.me seals.live.me ≡ true = subst (λ b. was_sent is_above said x.live.me b ≡ true) (sym seals.is_me) above in
            absurd (cc (yes, no))
