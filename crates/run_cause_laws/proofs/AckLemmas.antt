-- In a lawful run where what is told of live branches is what their nodes keep, the Acks that a row holds are told to have come, so a site
-- forgets once each neighbour's is.
use Rattle.std.proofs.Common.{◌≡◌, ◌≢◌, ℕ, ◌||◌, Bool, true, false, if◌then◌else◌, List, [], ◌∷◌, ◌++◌, map, Option, Some, None, inl, inr, refl, sym, ap, subst, ◌∙◌}
use Rattle.std.specs.Prelude.{IfSome}
use Rattle.std.specs.List.{AllByRecursion, list_all}
use Rattle.std.proofs.lemmas.Bool.{and_from, or_left, or_right}
use Rattle.std.proofs.lemmas.List.Folds.{list_any-append}
use Rattle.tran_ids.proofs.BranchLemmas.{same_from_equal}
use Rattle.tran_ids.proofs.ListedLemmas.{item_is}
use Rattle.tran_ids.proofs.NumberedLemmas.{set_or_before}
use Rattle.agreement.specs.Events.{Exit, exit}
use Rattle.node_rules.specs.Data.{BranchId, Kind, Kid, Peer, RedoRecord, Decided, KeptRow, Input}
use Rattle.node_rules.specs.Data.inputs
use Rattle.node_rules.specs.Data.kinds
use Rattle.node_rules.specs.Data.records
use Rattle.node_rules.specs.Words.{same, item_at, numbered, set_numbered}
use Rattle.node_rules.specs.NodeState.{NodeState, kept_row_id}
use Rattle.node_rules.specs.Records.{nothing_stored}
use Rattle.node_rules.specs.Turn.{turn_of, heard, start_of}
use Rattle.node_rules.proofs.Steps.{IsKept}
use Rattle.redo_record.specs.Rows.{kid_of, decided_as}
use Rattle.run_rules.specs.Births.{births_of}
use Rattle.run_rules.specs.Branches.{Dropped, Seen, Trail, seen_id, seen_at, is_live_at, is_among, with_once}
use Rattle.run_rules.specs.Data.{Turn, Happening}
use Rattle.run_rules.specs.Data.happenings
use Rattle.run_base_laws.specs.EventRows.{RowIs}
use Rattle.run_rules.specs.Facts.{Facts, first_facts, flat, node_at, records_at, kept_after, with_boot, facts_after, facts_of}
use Rattle.run_base_laws.specs.IdLaws.{IsRecordOf}
use Rattle.run_claims.specs.Knowledge.{acks_of, neighbors_of}
use Rattle.run_rules.specs.BranchRecords.{decided_in}
use Rattle.run_rules.specs.Lawful.{History, IsLawfulRun}
use Rattle.run_rules.specs.Trail.{acked_by, acks_after, stopped_by, trail_after}
use Rattle.run_rules.proofs.AtNodeLemmas.{turn_elsewhere, turn_here}
use Rattle.run_base_laws.proofs.EventsStandLemmas.{BranchStatus, run_stands, node_so, owned_so, nodes_are_as_events, first_node}
use Rattle.run_base_laws.proofs.LawfulLemmas.{of_wrote, serves}
use Rattle.run_rules.proofs.ListLemmas.{map_after}
use Rattle.run_base_laws.proofs.OwnLemmas.{all_found}
use Rattle.run_base_laws.proofs.StoredLemmas.{records_are_kept}
use Rattle.run_branch_laws.proofs.TowardLemmas.{heard_rows}
use Rattle.run_base_laws.proofs.TurnEventLemmas.{cases_nat, record_own}
use Rattle.tree_laws.proofs.PrefixLemmas.{f_at, e_at, one_on}
use Rattle.tree_laws.proofs.RowLemmas.{rows_so}
use Rattle.tree_laws.proofs.TimeLemmas.{Part, keep_on}
use Rattle.tree_trail_laws.proofs.FullLemmas.{SeesAll, full}
use Rattle.tree_trail_laws.proofs.MomentLemmas.{tr_at, trail_one_on, by_moment}
use Rattle.tree_trail_laws.proofs.SeenLemmas.{item_mapped, turned, seen_turned}
use Rattle.tree_trail_laws.proofs.SeenRunLemmas.{all_is_seen}
use Rattle.run_cause_laws.specs.ForgetLaws.{SiteMayForget, ForgetsDuly, SitesForgetDuly}
use Rattle.run_cause_laws.proofs.AckStepLemmas.{Heard, IsOfDecision, ForgetsSo, acks_on, forgets_on}
use Rattle.run_branch_laws.specs.HeardLaws.{RowHasAcks}
use Rattle.run_branch_laws.proofs.HeldAckLemmas.{acks_stored, wider_acks}
use Rattle.tree_trail_laws.proofs.LeftLemmas.{IsToldLeft, left_are_told}
use Rattle.run_cause_laws.proofs.OnceLemmas.{IsOnly, disks_only}
use Rattle.tree_laws.proofs.AtTurn.{at_turn}
use Rattle.tree_trail_laws.proofs.AtTrail.{at_trail}

-- the Ack of a neighbour is told to have come to a branch
abbrev pub IsAcked : Trail → BranchId → BranchId → Type 0
IsAcked tr c b = (s : Seen) × (seen_at tr b ≡ Some s) × (is_among c s.acks ≡ true)

-- ---- Acks stay

once_has : (bs : List BranchId) (x : BranchId) → is_among x (with_once bs x) ≡ true
once_has bs x = by (is_among x bs) refl
  where
    by : (q : Bool) → is_among x bs ≡ q → is_among x (if q then bs else bs ++ x ∷ []) ≡ true
    by true there = there
    by false new = list_any-append (λ d. same d x) bs (x ∷ []) ∙ or_right (is_among x bs) (same x x || false) (or_left (same x x) false (same_from_equal x x refl))

once_keeps : (bs : List BranchId) (x c : BranchId) → is_among c bs ≡ true → is_among c (with_once bs x) ≡ true
once_keeps bs x c there = by (is_among x bs)
  where
    by : (q : Bool) → is_among c (if q then bs else bs ++ x ∷ []) ≡ true
    by true = there
    by false = list_any-append (λ d. same d c) bs (x ∷ []) ∙ or_left (is_among c bs) (same x c || false) there

acks_stay : (s : Seen) (input : Input) (c : BranchId) → is_among c s.acks ≡ true → is_among c (acks_after s input) ≡ true
acks_stay s (inputs.Message m) c there = by_kind m.kind
  where
    by : (q : Bool) → is_among c (if q then with_once s.acks m.from else s.acks) ≡ true
    by true = once_keeps s.acks m.from c there
    by false = there

    by_kind : (kind : Kind) → is_among c (acked_by s m kind) ≡ true
    by_kind kinds.Ack = by (same m.to s.me)
    by_kind _ = there
acks_stay s _ c there = there

stopped_acks : (n : ℕ) (s : Seen) → ((stopped_by n s).me ≡ s.me) × ((stopped_by n s).acks ≡ s.acks)
stopped_acks n s = by (is_live_at n s)
  where
    by : (q : Bool) → ((if q then record s { exit = Some Dropped } else s).me ≡ s.me) × ((if q then record s { exit = Some Dropped } else s).acks ≡ s.acks)
    by true = (refl, refl)
    by false = (refl, refl)

-- the row of a decision
peers_are : (ps : List Peer) → map (λ (c : Kid). c.branch) (map kid_of ps) ≡ map (λ (c : Peer). c.branch) ps
peers_are ps = map_after (λ (c : Kid). c.branch) kid_of (λ (c : Peer). c.branch) (λ q. refl) ps

decided_row : (r x : Decided) → r ≡ x → ((decided_as r).toward ≡ None) × ((decided_as r).parent ≡ x.parent) × (map (λ (c : Kid). c.branch) (decided_as r).children ≡ map (λ (c : Peer). c.branch) x.children)
decided_row r x is = (refl, ap (λ (y : Decided). y.parent) is, peers_are r.children ∙ ap (λ (y : Decided). map (λ (c : Peer). c.branch) y.children) is)

-- ---- every run

module _ (t : History) (whole : IsLawfulRun t) (sees : SeesAll t) where
  -- the Acks that the rows of a node hold are told
  abbrev pub AckedAt : Facts → Trail → Type 0
  AckedAt f tr = (n : ℕ) (k : NodeState) → node_at f n ≡ Some k → AllByRecursion (RowHasAcks (IsAcked tr)) k.stored.durable.kept

  abbrev pub AcksAreTold : List Happening → Type 0
  AcksAreTold hs = AckedAt (f_at t hs) (tr_at t hs)

  module _ (hs : List Happening) (u : Turn) (rest : List Happening) (is : hs ++ happenings.Turn u ∷ rest ≡ t.trace) (now : AcksAreTold hs) where
    open at_turn t whole hs u rest is use {s as s0, part as part0, lawful as lawful0, f as f0, g as f1, may, k, p, d}
    open at_trail t hs u use {tr as tr0, tr_on as tr1}

    abbrev Q : BranchId → BranchId → Type 0
    Q = IsAcked tr1

    stands : BranchStatus t.places t.commands t.of_a_script.each f0 (e_at t hs)
    stands = run_stands s0 lawful0

    more : (c b : BranchId) → IsAcked tr0 c b → Q c b
    more c b it = (turned t.places f0 tr0 u it.0, seen_turned t.places f0 tr0 u b it.0 it.1, acks_stay it.0 u.input c it.2)

    -- a branch that has a row is told
    row_told : (s : KeptRow) → IsKept k s → IsToldLeft (births_of s0) f0 tr0 s.me
    row_told s kept =
        let row : RowIs (e_at t hs) s = all_found (RowIs (e_at t hs)) kept_row_id k.stored.durable.kept s.me s (nodes_are_as_events s0 lawful0 u.node k may.1.up).1 kept in
        by s (exit (e_at t hs) s.me) refl row.left
      where
        by : (s : KeptRow) (o : Option Exit) → exit (e_at t hs) s.me ≡ o → exit (e_at t hs) s.me ≢ None → IsToldLeft (births_of s0) f0 tr0 s.me
        by s None at some = absurd (some at)
        by s (Some x) at some = left_are_told t whole sees hs part0 s.me x at

    heard_so : (j : NodeState) → j.stored.durable.kept ≡ k.stored.durable.kept → Heard Q p u.input j
    heard_so j rows s from kept came =
        let it : IsToldLeft (births_of s0) f0 tr0 s.me = row_told s (subst (λ (ks : List KeptRow). item_at kept_row_id ks s.me ≡ Some s) rows kept) in
        let b : Seen = it.seen in
        let me : b.me ≡ s.me = item_is seen_id tr0.seen s.me b it.at in (
          turned t.places f0 tr0 u b,
          seen_turned t.places f0 tr0 u s.me b it.at,
          ap (λ i. is_among from (acks_after b i)) came.is ∙ (ap (λ q. is_among from (if q then with_once b.acks from else b.acks)) (same_from_equal s.me b.me (sym me)) ∙ once_has b.acks from),
        )

    rows_now : AllByRecursion (RowHasAcks Q) (heard k u.input).stored.durable.kept
    rows_now = subst (λ (ks : List KeptRow). AllByRecursion (RowHasAcks Q) ks) (sym (heard_rows k u.input)) (wider_acks (IsAcked tr0) Q more k.stored.durable.kept (now u.node k may.1.up))

    rows_after : AllByRecursion (RowHasAcks Q) d.after.stored.durable.kept
    rows_after = acks_on Q p u.input (serves t.places f0 u k may.1).step (heard_so (heard k u.input) (heard_rows k u.input)) rows_now

    after_is : u.cut ≡ false → node_at f1 u.node ≡ Some d.after
    unfolding turn_of
    after_is cut = (turn_here t.places t.commands f0 stands.0.even u k may.1.up).0 ∙ ap (λ c. kept_after c (Some (turn_of p k u.input))) cut

    after_cut : u.cut ≡ true → node_at f1 u.node ≡ None
    after_cut cut = (turn_here t.places t.commands f0 stands.0.even u k may.1.up).0 ∙ ap (λ c. kept_after c (Some (turn_of p k u.input))) cut

    own_acks : (cut : Bool) → u.cut ≡ cut → (j : NodeState) → node_at f1 u.node ≡ Some j → AllByRecursion (RowHasAcks Q) j.stored.durable.kept
    own_acks true cut j there = (let none = after_cut cut in absurd (cc (none, there)))
    own_acks false cut j there =
        let both : Some d.after ≡ Some j = sym (after_is cut) ∙ there in
        let it : d.after ≡ j = cc in
        subst (λ (i : NodeState). AllByRecursion (RowHasAcks Q) i.stored.durable.kept) it rows_after

    turn_acks : AckedAt f1 tr1
    turn_acks n j up = elim (cases_nat u.node n) [
      | inl here ↦ own_acks u.cut refl j (subst (λ m. node_at f1 m ≡ Some j) (sym here) up)
      | inr other ↦ (let before : node_at f0 n ≡ Some j = sym (turn_elsewhere t.places t.commands f0 stands.0.even u n other).0 ∙ up in
          wider_acks (IsAcked tr0) Q more j.stored.durable.kept (now n j before))
    ]

    -- ---- a site that forgets

    abbrev rs : List RedoRecord
    rs = records_at f0 u.node

    rows_decided : AllByRecursion (λ (s : KeptRow). IsOfDecision Q p u.input rs s.me s.parent (map (λ (c : Kid). c.branch) s.children) s.toward) k.stored.durable.kept
    rows_decided =
        rows_so (IsOfDecision Q p u.input rs) (IsOnly rs) (λ r only x found. absurd (cc (only, found)))
        (λ r only x found. decided_row r x (let both : Some r ≡ Some x = sym only ∙ found in let it : r ≡ x = cc in it)) k rs (records_are_kept s0 lawful0 u.node k may.1.up) (disks_only t whole hs part0 u.node).1

    all_among : (b : BranchId) (bs : List BranchId) → AllByRecursion (λ c. Q c b) bs → list_all (λ c. is_among c (acks_of (seen_at tr1 b))) bs ≡ true
    all_among b [] all = refl
    all_among b (c ∷ bs) all = and_from (is_among c (acks_of (seen_at tr1 b))) _ (ap (λ o. is_among c (acks_of o)) all.0.1 ∙ all.0.2) (all_among b bs all.1)

    forget_due : (w : Option RedoRecord) → IfSome w (IsRecordOf (λ b. b.node ≡ u.node)) → IfSome w (ForgetsSo Q p u.input rs) → IfSome w (SiteMayForget f0 tr1 u.input)
    forget_due None own so = tt
    forget_due (Some (records.Forgot b)) own so = λ r found. all_among b (neighbors_of r) (so r (subst (λ i. decided_in (records_at f0 i) b ≡ Some r) own found))
    forget_due (Some _) own so = tt

    pub turn_forgets : ForgetsDuly t.places f0 tr0 (happenings.Turn u)
    turn_forgets =
        forget_due u.wrote (record_own t.places t.commands t.of_a_script.each f0 (e_at t hs) u k stands.1 stands.0.even (node_so t.places t.commands t.of_a_script.each f0 (e_at t hs) stands) (owned_so t.places t.commands t.of_a_script.each f0 (e_at t hs) stands) may.1)
        (of_wrote p k u (serves t.places f0 u k may.1) (λ w. IfSome w (ForgetsSo Q p u.input rs)) tt
        (forgets_on Q p u.input rs (serves t.places f0 u k may.1).step (heard_so (heard k u.input) (heard_rows k u.input)) rows_now
        (subst (λ (ks : List KeptRow). AllByRecursion (λ (s : KeptRow). IsOfDecision Q p u.input rs s.me s.parent (map (λ (c : Kid). c.branch) s.children) s.toward) ks) (sym (heard_rows k u.input)) rows_decided)))

  -- ---- other happenings

  start_rows : (tr : Trail) (rs : List RedoRecord) → AllByRecursion (RowHasAcks (IsAcked tr)) (start_of rs).stored.durable.kept
  unfolding start_of
  start_rows tr rs = acks_stored (IsAcked tr) nothing_stored rs tt

  acks_after_one : (hs : List Happening) (h : Happening) (rest : List Happening) → hs ++ h ∷ rest ≡ t.trace → AcksAreTold hs → AckedAt (facts_after t.places t.commands (f_at t hs) h) (trail_after t.places (f_at t hs) (tr_at t hs) h)
  unfolding facts_after trail_after
  acks_after_one hs (happenings.Turn u) rest is now m j up = turn_acks hs u rest is now m j up
  acks_after_one hs (happenings.Stopped n) rest is now m j up = elim (set_or_before (f_at t hs).nodes n m None) [
    | inl before ↦ wider_acks (IsAcked (tr_at t hs)) _
        (λ c b it. (stopped_by n it.0, item_mapped seen_id (stopped_by n) (λ s. (stopped_acks n s).0) (tr_at t hs).seen b it.0 it.1, ap (is_among c) (stopped_acks n it.0).1 ∙ it.2)) j.stored.durable.kept (now m j (sym (ap flat before) ∙ up))
    | inr gone ↦ (let none : flat (numbered (set_numbered (f_at t hs).nodes n None) m) ≡ None = ap flat gone.1 in absurd (cc (none, up)))
  ]
  acks_after_one hs (happenings.Started n boot) rest is now m j up = elim (set_or_before (f_at t hs).nodes n m (Some (start_of (with_boot (f_at t hs) n boot)))) [
    | inl before ↦ now m j (sym (ap flat before) ∙ up)
    | inr new ↦ (let both : Some (start_of (with_boot (f_at t hs) n boot)) ≡ Some j = sym (ap flat new.1) ∙ up in
        let it : start_of (with_boot (f_at t hs) n boot) ≡ j = cc in
        subst (λ (i : NodeState). AllByRecursion (RowHasAcks (IsAcked (tr_at t hs))) i.stored.durable.kept) it (start_rows (tr_at t hs) (with_boot (f_at t hs) n boot)))
  ]
  acks_after_one hs (happenings.Begun c) rest is now m j up = now m j up
  acks_after_one hs (happenings.Cut x y) rest is now m j up = now m j up
  acks_after_one hs (happenings.Join x y) rest is now m j up = now m j up
  acks_after_one hs (happenings.Lost x) rest is now m j up = now m j up

  acks_first_node : (o : Option NodeState) → IfSome o (λ k. AllByRecursion (RowHasAcks (IsAcked (tr_at t []))) k.stored.durable.kept) → (k : NodeState) → o ≡ Some k → AllByRecursion (RowHasAcks (IsAcked (tr_at t []))) k.stored.durable.kept
  acks_first_node None is k at = absurd cc
  acks_first_node (Some j) is k at = let it : j ≡ k = cc at in subst (λ (i : NodeState). AllByRecursion (RowHasAcks (IsAcked (tr_at t []))) i.stored.durable.kept) it is

  acks_first : AcksAreTold []
  unfolding facts_of
  acks_first n k up =
      acks_first_node (node_at (first_facts t.places) n)
      (first_node (λ o. IfSome o (λ k. AllByRecursion (RowHasAcks (IsAcked (tr_at t []))) k.stored.durable.kept)) tt (start_rows (tr_at t []) (records.Boot 1 ∷ [])) t.places n) k up

  acks_on_one : (hs : List Happening) (h : Happening) (rest : List Happening) → hs ++ h ∷ rest ≡ t.trace → AcksAreTold hs → AcksAreTold (hs ++ h ∷ [])
  acks_on_one hs h rest is now =
      subst (λ f. AckedAt f (tr_at t (hs ++ h ∷ []))) (sym (one_on t hs h)) (subst (AckedAt (facts_after t.places t.commands (f_at t hs) h)) (sym (trail_one_on t hs h)) (acks_after_one hs h rest is now))

  pub acks_are_told : (hs : List Happening) → Part t whole hs → AcksAreTold hs
  acks_are_told hs part = keep_on t whole AcksAreTold acks_on_one [] hs part acks_first

pub sites_forget_duly : SitesForgetDuly
sites_forget_duly t lawful = by_moment t ForgetsDuly each
  where
    each : (hs : List Happening) (h : Happening) (rest : List Happening) → hs ++ h ∷ rest ≡ t.trace → ForgetsDuly t.places (f_at t hs) (tr_at t hs) h
    each hs (happenings.Turn u) rest is =
        turn_forgets t lawful (full t lawful (all_is_seen t lawful)) hs u rest is (acks_are_told t lawful (full t lawful (all_is_seen t lawful)) hs (record { rest = happenings.Turn u ∷ rest; is = is }))
    each hs _ rest is = tt
