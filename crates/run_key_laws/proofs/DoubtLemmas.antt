-- The branches in doubt of a node, by its records, are its own branches that are sealed and neither ended nor forced.
use Rattle.std.proofs.Common.{◌≡◌, ◌≢◌, ℕ, arith, not, Bool, true, false, List, [], ◌∷◌, ◌++◌, if◌then◌else◌, Option, Some, None, refl, sym, ap, subst, ◌∙◌, inl, inr}
use Rattle.std.specs.Prelude.{IfSome}
use Rattle.std.specs.Option.{option_to_list}
use Rattle.std.specs.List.{AllByRecursion}
use Rattle.std.proofs.lemmas.Bool.{not-true}
use Rattle.tran_ids.proofs.BranchLemmas.{equal_from_same, same_from_equal}
use Rattle.agreement.specs.Events.{Sealed, Event, Seal, first, only_at, exit_by, exit, learned_by, learned, forced_by, forced}
use Rattle.node_rules.specs.Data.{BranchId, Decision, RedoRecord, Doubt, Place}
use Rattle.node_rules.specs.Data.records
use Rattle.node_rules.specs.Words.{same, numbered, drop_item}
use Rattle.node_rules.specs.NodeState.{Stored, doubt_id}
use Rattle.node_rules.specs.Records.{applied, nothing_stored, stored_by, doubt_over}
use Rattle.run_rules.specs.Data.{Turn, Happening, Command}
use Rattle.run_rules.specs.Data.happenings
use Rattle.run_rules.specs.Facts.{Facts, records_at, facts_after}
use Rattle.run_rules.specs.Lawful.{IsPlace, MayHappen}
use Rattle.run_base_laws.specs.IdLaws.{IsRecordOf}
use Rattle.run_base_laws.specs.RunEvents.{with_event, wrote_event, record_event, with_record, events_after}
use Rattle.run_base_laws.specs.EventRows.{MayStand}
use Rattle.run_rules.proofs.ListLemmas.{all_weaker, all_put, all_filter}
use Rattle.run_base_laws.proofs.StoredLemmas.{stored_with}
use Rattle.run_base_laws.proofs.LaterLemmas.{Added, Later, exit_later, learned_same, forced_same, later_learned, later_forced, turn_added, stop_added}
use Rattle.run_base_laws.proofs.RowEventLemmas.{only_none}
use Rattle.run_base_laws.proofs.NodesStandLemmas.{LeavesAlone, wrote_elsewhere}
use Rattle.run_rules.proofs.AtNodeLemmas.{turn_elsewhere, turn_here, start_elsewhere, start_here}
use Rattle.run_base_laws.proofs.TurnEventLemmas.{cases_nat, record_may, record_own}
use Rattle.run_base_laws.proofs.EventsStandLemmas.{BranchStatus, node_so, owned_so}

-- ---- a branch in doubt

-- It is of this node, sealed, and neither ended nor forced.
pub record IsOpen (t : List Event) (n : ℕ) (b : BranchId) : Type 0 where
  pub here : b.node ≡ n
  pub scn : ℕ
  pub is_sealed : exit t b ≡ Some (Sealed scn)
  pub unlearned : learned t b ≡ None
  pub unforced : forced t b ≡ None

-- all branches in doubt are so
abbrev pub DoubtsAre : List Event → ℕ → List Doubt → Type 0
DoubtsAre t n ds = AllByRecursion (λ d. IsOpen t n d.branch) ds

first_none : {A : Type 0} (o p : Option A) → o ≡ None → p ≡ None → first o p ≡ None
first_none None p none is = is
first_none (Some a) p none is = absurd cc

-- an event that does not concern it
open_next : (t : List Event) (n : ℕ) (b : BranchId) (e : Event) → learned_by e b ≡ None → forced_by e b ≡ None → IsOpen t n b → IsOpen (e ∷ t) n b
open_next t n b e unlearned unforced is = record {
  here = is.here;
  scn = is.scn;
  is_sealed = ap (λ o. first o (exit_by e b)) is.is_sealed;
  unlearned = first_none (learned t b) (learned_by e b) is.unlearned unlearned;
  unforced = first_none (forced t b) (forced_by e b) is.unforced unforced;
}

doubts_next : (t : List Event) (n : ℕ) (e : Event) (ds : List Doubt) → ((b : BranchId) → IsOpen t n b → (learned_by e b ≡ None) × (forced_by e b ≡ None)) → DoubtsAre t n ds → DoubtsAre (e ∷ t) n ds
doubts_next t n e ds none all = all_weaker (λ d. IsOpen t n d.branch) (λ d. IsOpen (e ∷ t) n d.branch) (λ d is. open_next t n d.branch e (none d.branch is).0 (none d.branch is).1 is) ds all

-- without the one that the event concerns
doubts_less : (t : List Event) (n : ℕ) (e : Event) (c : BranchId) (ds : List Doubt) → ((b : BranchId) → same b c ≡ false → (learned_by e b ≡ None) × (forced_by e b ≡ None)) → DoubtsAre t n ds
    → DoubtsAre (e ∷ t) n (drop_item doubt_id ds c)
doubts_less t n e c ds none all =
    all_filter (λ d. IsOpen t n d.branch) (λ d. IsOpen (e ∷ t) n d.branch) (λ d. not (same d.branch c))
    (λ d passes is. (let other = not-true (same d.branch c) passes in open_next t n d.branch e (none d.branch other).0 (none d.branch other).1 is)) ds all

-- a forced branch is another
met_other : (t : List Event) (n : ℕ) (c : BranchId) (o : Decision) (b : BranchId) → forced t c ≡ Some o → IsOpen t n b → same b c ≡ false
met_other t n c o b is sealed = by (same b c) refl
  where
    by : (here : Bool) → same b c ≡ here → here ≡ false
    by false at = refl
    by true at = let none : forced t c ≡ None = subst (λ m. forced t m ≡ None) (equal_from_same b c at) sealed.unforced in absurd (cc (none, is))

-- each record leaves them so
pub doubts_with : (t : List Event) (n : ℕ) (s : Stored) (r : RedoRecord) → MayStand t r → IsRecordOf (λ b. b.node ≡ n) r → DoubtsAre t n s.doubts → DoubtsAre (with_event (record_event n r) t) n (applied s r).doubts
unfolding applied
doubts_with t n s (records.Boot m) may own all = all
doubts_with t n s (records.Table x) may own all = doubts_next t n _ s.doubts (λ b is. (refl, refl)) all
doubts_with t n s (records.Link l) may own all = all
doubts_with t n s (records.Synonym y) may own all = all
doubts_with t n s (records.Param x) may own all = all
doubts_with t n s (records.Sealed r) may own all =
    all_put (λ d. IsOpen (Seal r.me r.root r.scn r.changes ∷ t) n d.branch) doubt_id s.doubts (doubt_over s.rows r) (doubts_next t n _ s.doubts (λ b is. (refl, refl)) all) (
    record {
      here = own;
      scn = r.scn;
      is_sealed = ap (λ o. first o (only_at r.me r.me (Sealed r.scn))) may.0 ∙ ap (λ q. if q then Some (Sealed r.scn) else None) (same_from_equal r.me r.me refl);
      unlearned = first_none (learned t r.me) None may.1 refl;
      unforced = first_none (forced t r.me) None may.2 refl;
    }
    )
doubts_with t n s (records.Decided r) may own all = doubts_next t n _ s.doubts (λ b is. (refl, refl)) all
doubts_with t n s (records.Ended c d) may own all = doubts_less t n _ c s.doubts (λ b other. (only_none c b d other, refl)) all
doubts_with t n s (records.Forced c d given) may own all = doubts_less t n _ c s.doubts (λ b other. (refl, only_none c b d other)) all
doubts_with t n s (records.Met c d mixed) may own all = doubts_next t n _ s.doubts (λ b is. (only_none c b d (met_other t n c may.2.0 b may.2.1 is), refl)) all
doubts_with t n s (records.Forgot c) may own all = doubts_next t n _ s.doubts (λ b is. (refl, refl)) all
doubts_with t n s (records.Hidden c) may own all = all
doubts_with t n s (records.Image i) may own all = all

-- ---- happenings

-- the branches in doubt by the records of a node
abbrev pub stored_doubts : Facts → ℕ → List Doubt
stored_doubts f n = (stored_by nothing_stored (records_at f n)).doubts

-- they are so at each node
abbrev pub DoubtsStand : Facts → List Event → Type 0
DoubtsStand f t = (n : ℕ) → DoubtsAre t n (stored_doubts f n)

doubts_wrote : (t : List Event) (n : ℕ) (rs : List RedoRecord) (w : Option RedoRecord) → IfSome w (MayStand t) → IfSome w (IsRecordOf (λ b. b.node ≡ n)) → DoubtsAre t n (stored_by nothing_stored rs).doubts
    → DoubtsAre (with_event (wrote_event n w) t) n (stored_by nothing_stored (rs ++ option_to_list w)).doubts
doubts_wrote t n rs None may own all = subst (λ s. DoubtsAre t n s.doubts) (sym (stored_with rs None)) all
doubts_wrote t n rs (Some r) may own all = subst (λ s. DoubtsAre (with_event (record_event n r) t) n s.doubts) (sym (stored_with rs (Some r))) (doubts_with t n (stored_by nothing_stored rs) r may own all)

-- those of another node
doubts_alone : (t : List Event) (n m : ℕ) (w : Option RedoRecord) (ds : List Doubt) → IfSome w (IsRecordOf (λ b. b.node ≡ m)) → n ≢ m → DoubtsAre t n ds → DoubtsAre (with_event (wrote_event m w) t) n ds
doubts_alone t n m w ds own other all = by (wrote_event m w) (λ b here. wrote_elsewhere m w b own (λ e. other (sym here ∙ e)))
  where
    by : (o : Option Event) → ((b : BranchId) → b.node ≡ n → LeavesAlone o b) → DoubtsAre (with_event o t) n ds
    by None alone = all
    by (Some e) alone = doubts_next t n e ds (λ b is. ((alone b is.here).1, (alone b is.here).2)) all

-- later events teach them nothing
module _ {bs cs : List BranchId} {t s : List Event} (more : Added (Later bs cs) t s) where
  open_later : (n : ℕ) (b : BranchId) → IsOpen t n b → IsOpen s n b
  open_later n b is = record {
    here = is.here;
    scn = is.scn;
    is_sealed = exit_later b (Sealed is.scn) more is.is_sealed;
    unlearned = learned_same b (λ e later. later_learned b e later) more ∙ is.unlearned;
    unforced = forced_same b (λ e later. later_forced b e later) more ∙ is.unforced;
  }

  doubts_later : (n : ℕ) (ds : List Doubt) → DoubtsAre t n ds → DoubtsAre s n ds
  doubts_later n ds all = all_weaker (λ d. IsOpen t n d.branch) (λ d. IsOpen s n d.branch) (λ d is. open_later n d.branch is) ds all

module _ (places : List Place) (asked : List Command) (each : (n : ℕ) (p : Place) → numbered places n ≡ Some p → IsPlace places n p) (f : Facts) (t : List Event) (stand : BranchStatus places asked each f t)
    (now : DoubtsStand f t) where
  turn_doubts : (u : Turn) → MayHappen places asked f (happenings.Turn u) → DoubtsStand (facts_after places asked f (happenings.Turn u)) (events_after places asked f (happenings.Turn u) t)
  turn_doubts u may n = doubts_later (turn_added f (facts_after places asked f (happenings.Turn u)) u t) n _ (recorded n)
    where
      may_stand : IfSome u.wrote (MayStand t)
      may_stand = record_may places asked each f t u may.0 stand.1 stand.0.even (node_so places asked each f t stand) (owned_so places asked each f t stand) may.1

      own_record : IfSome u.wrote (IsRecordOf (λ b. b.node ≡ u.node))
      own_record = record_own places asked each f t u may.0 stand.1 stand.0.even (node_so places asked each f t stand) (owned_so places asked each f t stand) may.1

      recorded : (n : ℕ) → DoubtsAre (with_record u t) n (stored_doubts (facts_after places asked f (happenings.Turn u)) n)
      recorded n = elim (cases_nat n u.node) [
        | inl at ↦ subst (λ i. DoubtsAre (with_record u t) i (stored_doubts (facts_after places asked f (happenings.Turn u)) i)) (sym at)
            (subst (λ (xs : List RedoRecord). DoubtsAre (with_record u t) u.node (stored_by nothing_stored xs).doubts) (sym (turn_here places asked f stand.0.even u may.0 may.1.up).1)
            (doubts_wrote t u.node (records_at f u.node) u.wrote may_stand own_record (now u.node)))
        | inr other ↦ subst (λ (xs : List RedoRecord). DoubtsAre (with_record u t) n (stored_by nothing_stored xs).doubts) (sym (turn_elsewhere places asked f stand.0.even u n (λ e. other (sym e))).1)
            (doubts_alone t n u.node u.wrote (stored_doubts f n) own_record other (now n))
      ]

  booted : (n boot : ℕ) (rs : List RedoRecord) → DoubtsAre t n (stored_by nothing_stored rs).doubts → DoubtsAre t n (stored_by nothing_stored (rs ++ records.Boot boot ∷ [])).doubts
  unfolding applied
  booted n boot rs all = subst (λ s. DoubtsAre t n s.doubts) (sym (stored_with rs (Some (records.Boot boot)))) all

  start_doubts : (m boot : ℕ) → MayHappen places asked f (happenings.Started m boot) → DoubtsStand (facts_after places asked f (happenings.Started m boot)) t
  start_doubts m boot may n = elim (cases_nat n m) [
    | inl at ↦ subst (λ i. DoubtsAre t i (stored_doubts (facts_after places asked f (happenings.Started m boot)) i)) (sym at)
        (subst (λ (xs : List RedoRecord). DoubtsAre t m (stored_by nothing_stored xs).doubts) (sym (start_here places asked f stand.0.even m boot may.there.0 (omega (arith, may.there.1, stand.1.many))).1)
        (booted m boot (records_at f m) (now m)))
    | inr other ↦ subst (λ (xs : List RedoRecord). DoubtsAre t n (stored_by nothing_stored xs).doubts) (sym (start_elsewhere places asked f stand.0.even m boot n (λ e. other (sym e))).1) (now n)
  ]

  -- each happening leaves them so
  pub doubts_on : (h : Happening) → MayHappen places asked f h → DoubtsStand (facts_after places asked f h) (events_after places asked f h t)
  unfolding facts_after
  doubts_on (happenings.Turn u) may = turn_doubts u may
  doubts_on (happenings.Stopped n) may = λ m. doubts_later (stop_added f f n t) m _ (now m)
  doubts_on (happenings.Started n boot) may = start_doubts n boot may
  doubts_on _ may = now
