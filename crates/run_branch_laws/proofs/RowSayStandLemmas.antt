-- In every lawful run commits are acknowledged once all beyond did, and rollbacks told by branches that are over.
use Rattle.std.proofs.Common.{◌≡◌, ℕ, ◌+◌, ◌≤◌, ◌&&◌, ◌||◌, not, Bool, true, false, if◌then◌else◌, List, [], ◌∷◌, map, is_none, Option, Some, None, inl, inr, refl, sym, ap, subst, ◌∙◌, ◌⊎◌, arith}
use Rattle.std.specs.Prelude.{IfSome}
use Rattle.std.specs.List.{AllByRecursion, list_any}
use Rattle.std.proofs.lemmas.Bool.{cond_both}
use Rattle.tran_ids.proofs.BranchLemmas.{equal_from_same, same_from_equal}
use Rattle.tran_ids.proofs.ListedLemmas.{item_is}
use Rattle.agreement.specs.Events.{Exit, Sealed, Decided, Quiet, Dropped, Event, Answer_read_only, Drop, first, exit_by, exit, learned, Gone}
use Rattle.agreement.proofs.EventLemmas.{only_at_same}
use Rattle.node_rules.specs.Data.{BranchId, Kind, Msg, Live, KeptRow, RedoRecord, Place, Input}
use Rattle.node_rules.specs.Data.decisions
use Rattle.node_rules.specs.Data.inputs
use Rattle.node_rules.specs.Data.kinds
use Rattle.node_rules.specs.Data.records
use Rattle.node_rules.specs.Words.{same, numbered, item_at}
use Rattle.node_rules.specs.Inputs.{Came}
use Rattle.node_rules.specs.NodeState.{NodeState, live_id, kept_row_id, with_work, kept_row_at}
use Rattle.node_rules.specs.Turn.{Is_gone, live_or, status_of, turn_of, heard, stamped}
use Rattle.run_rules.specs.Data.{Took, Turn, Happening, Command}
use Rattle.run_rules.specs.Data.happenings
use Rattle.run_rules.specs.Branches.{is_among}
use Rattle.run_rules.specs.Trail.{is_quiet}
use Rattle.run_rules.specs.Facts.{Facts, first_facts, node_at, kept_after, facts_after}
use Rattle.run_rules.specs.Lawful.{IsPlace, MayHappen, MayTurn, IsOwed, Comes}
use Rattle.run_base_laws.specs.NodeLaws.{count_of, unacked_row}
use Rattle.run_base_laws.specs.RunEvents.{with_event, wrote_event, lives_at, leave_event, has_left, with_leaver, with_leavers, with_record, with_exits, events_after}
use Rattle.run_base_laws.specs.EventRows.{RowIs, RowsAre, IsKnown, MayStand, IsKeptIn, IsGoneForGood}
use Rattle.run_rules.specs.Births.{Born, born_id, born_at, births_after}
use Rattle.run_base_laws.specs.BirthLaws.{Began, HasBegun, IsChild, AreNeighbors, StandsBelow, GoesSo}
use Rattle.run_branch_laws.specs.HeardLaws.{AcksAre}
use Rattle.run_branch_laws.specs.TowardLaws.{IsRowLike}
use Rattle.run_branch_laws.specs.RowSayLaws.{IsOver, AckIs, RollbackIs, SaysByRow, TellsByRow, TurnsTellByRows}
use Rattle.run_rules.proofs.ListLemmas.{all_weaker, all_map}
use Rattle.node_rules.proofs.StepLemmas.{IsLive}
use Rattle.run_base_laws.proofs.LawfulLemmas.{serves, turn_of_node}
use Rattle.run_base_laws.proofs.OwnLemmas.{all_found}
use Rattle.run_base_laws.proofs.LaterLemmas.{Added, Any, added_on, added_wider, exit_later, learned_later, has_later, wrote_added, leavers_added, events_each}
use Rattle.run_base_laws.proofs.RowEventLemmas.{only_none, first_new, same_turned, learned_now}
use Rattle.run_base_laws.proofs.SaidLemmas.{came_said}
use Rattle.run_rules.proofs.AtNodeLemmas.{turn_here}
use Rattle.run_base_laws.proofs.NodesStandLemmas.{stored_rows, acked_back, some_or_none}
use Rattle.run_branch_laws.proofs.KeptRowLemmas.{any_map, StaysKept, keeps_on}
use Rattle.run_branch_laws.proofs.GoneLemmas.{kept_not_gone}
use Rattle.run_base_laws.proofs.EventsStandLemmas.{BranchStatus as StandAll, node_so, tells_so, stand_on, stand_first}
use Rattle.run_base_laws.proofs.BirthsStandLemmas.{BirthsStand, came_so}
use Rattle.run_base_laws.proofs.BirthRunLemmas.{births_on, stand_born_first}
use Rattle.run_base_laws.proofs.OneTurn.{one_turn}
use Rattle.run_branch_laws.proofs.HeardStandLemmas.{NodeHeard, HeardStand, heard_on, stand_heard_first, live_among, heard_lives}
use Rattle.run_branch_laws.proofs.TowardLemmas.{ToldSo, heard_rows}
use Rattle.run_branch_laws.proofs.RowSayLemmas.{LearnsRollback, IsAsked, Rolls, Has_left, Has_learned, Is_not_there, Knows_so, Names_not, Acks, All_have, Is_done, SaysSo, RowsFound, says_on}

-- ---- exits of branches that leave

module _ (b : BranchId) (after : List BranchId) (sent : List Msg) where
  -- it answered without changes, or was dropped
  abbrev HasGone : List Event → Type 0
  HasGone t = (exit t b ≡ Some Quiet) ⊎ (exit t b ≡ Some Dropped)

  gone_on : (c : BranchId) (t : List Event) → HasGone t → HasGone (with_leaver after sent c t)
  gone_on c t (inl is) = cond_both (has_left after t c) (leave_event sent c ∷ t) t HasGone (λ left. inl (ap (λ o. first o (exit_by (leave_event sent c) b)) is)) (λ stays. inl is)
  gone_on c t (inr is) = cond_both (has_left after t c) (leave_event sent c ∷ t) t HasGone (λ left. inr (ap (λ o. first o (exit_by (leave_event sent c) b)) is)) (λ stays. inr is)

  all_gone : (bs : List BranchId) (t : List Event) → HasGone t → HasGone (with_leavers after sent bs t)
  all_gone [] t is = is
  all_gone (c ∷ bs) t is = all_gone bs _ (gone_on c t is)

  leave_is : (q : Bool) (t : List Event) → exit t b ≡ None → HasGone ((if q then Answer_read_only b else Drop b) ∷ t)
  leave_is true t none = inl (first_new (exit t b) (exit_by (Answer_read_only b) b) Quiet none (only_at_same b b Quiet refl))
  leave_is false t none = inr (first_new (exit t b) (exit_by (Drop b) b) Dropped none (only_at_same b b Dropped refl))

  own_gone : (t : List Event) → exit t b ≡ None → is_among b after ≡ false → HasGone (with_leaver after sent b t)
  own_gone t none gone =
      let left : has_left after t b ≡ true = ap (λ q. not q && is_none (exit t b)) gone ∙ ap is_none none in
      subst (λ q. HasGone (if q then leave_event sent b ∷ t else t)) (sym left) (leave_is (list_any (is_quiet b) sent) t none)

  other_by : (c : BranchId) (q : Bool) → same c b ≡ false → exit_by (if q then Answer_read_only c else Drop c) b ≡ None
  other_by c true other = only_none c b Quiet (same_turned c b other)
  other_by c false other = only_none c b Dropped (same_turned c b other)

  other_none : (c : BranchId) (t : List Event) → same c b ≡ false → exit t b ≡ None → exit (with_leaver after sent c t) b ≡ None
  other_none c t other none =
      cond_both (has_left after t c) (leave_event sent c ∷ t) t (λ (r : List Event). exit r b ≡ None) (λ gone. ap (λ o. first o (exit_by (leave_event sent c) b)) none ∙ other_by c (list_any (is_quiet c) sent) other) (λ stays. none)

  leaver_gone : (bs : List BranchId) (t : List Event) → exit t b ≡ None → is_among b bs ≡ true → is_among b after ≡ false → HasGone (with_leavers after sent bs t)
  leaver_gone [] t none was gone = absurd cc
  leaver_gone (c ∷ bs) t none was gone = by (same c b) refl was (λ other found. leaver_gone bs (with_leaver after sent c t) (other_none c t other none) found gone)
    where
      by : (here : Bool) → same c b ≡ here → (here || is_among b bs) ≡ true → (same c b ≡ false → is_among b bs ≡ true → HasGone (with_leavers after sent bs (with_leaver after sent c t))) → HasGone (with_leavers after sent bs (with_leaver after sent c t))
      by true is found later = all_gone bs _ (subst (λ x. HasGone (with_leaver after sent x t)) (sym (equal_from_same c b is)) (own_gone t none gone))
      by false is found later = later is found

-- ---- what is not there

-- a live branch is found
live_there : (b : BranchId) (ls : List Live) → is_among b (map live_id ls) ≡ true → (l : Live) × (item_at live_id ls b ≡ Some l)
live_there b [] is = absurd cc
live_there b (x ∷ ls) is = by (same x.me b) refl (live_there b ls)
  where
    by : (here : Bool) → same x.me b ≡ here → (is_among b (map live_id ls) ≡ true → (l : Live) × (item_at live_id ls b ≡ Some l)) → (l : Live) × ((if same x.me b then Some x else item_at live_id ls b) ≡ Some l)
    by true at later = (x, ap (λ q. if q then Some x else item_at live_id ls b) at)
    by false at later =
        let rest : (l : Live) × (item_at live_id ls b ≡ Some l) = later (sym (ap (λ q. q || is_among b (map live_id ls)) at) ∙ is) in
        (rest.0, ap (λ q. if q then Some x else item_at live_id ls b) at ∙ rest.1)

live_not_gone : (k : NodeState) (b : BranchId) → is_among b (map live_id k.lives) ≡ true → status_of k b ≡ Is_gone → ⊥
unfolding status_of
live_not_gone k b among gone =
    let live = live_there b k.lives among in
    let at : live_or (with_work k (Some live.0)) (kept_row_at k b) ≡ Is_gone = subst (λ o. live_or (with_work k o) (kept_row_at k b) ≡ Is_gone) live.1 gone in absurd cc

heard_gone : (k : NodeState) (input : Input) (b : BranchId) → status_of (heard k input) b ≡ Is_gone → status_of k b ≡ Is_gone
unfolding status_of
heard_gone k (inputs.Message m) b gone = gone
heard_gone k (inputs.Call n s) b gone = gone
heard_gone k (inputs.GiveUp n) b gone = gone
heard_gone k inputs.Reco b gone = gone
heard_gone k inputs.Checkpoint b gone = gone

-- each row is found, where no branch has two
pub rows_found : (ks : List KeptRow) → ((b : BranchId) → count_of kept_row_id b ks ≤ 1) → AllByRecursion (λ s. item_at kept_row_id ks s.me ≡ Some s) ks
rows_found [] one = tt
rows_found (x ∷ ks) one = (
  ap (λ q. if q then Some x else item_at kept_row_id ks x.me) (same_from_equal x.me x.me refl),
  all_weaker (λ s. (item_at kept_row_id ks s.me ≡ Some s) × (1 ≤ count_of kept_row_id s.me ks)) _ (λ s both. by s (same x.me s.me) refl both.0 both.1 (one s.me)) ks
      (with_counts ks (rows_found ks (λ b. omega (arith, one b, fewer b (same x.me b) refl)))),
)
  where
    fewer : (b : BranchId) (q : Bool) → same x.me b ≡ q → count_of kept_row_id b ks ≤ count_of kept_row_id b (x ∷ ks)
    fewer b true is = subst (λ q. count_of kept_row_id b ks ≤ (if q then 1 + count_of kept_row_id b ks else count_of kept_row_id b ks)) (sym is) (omega arith)
    fewer b false is = subst (λ q. count_of kept_row_id b ks ≤ (if q then 1 + count_of kept_row_id b ks else count_of kept_row_id b ks)) (sym is) (omega arith)

    counted : (zs : List KeptRow) (s : KeptRow) → item_at kept_row_id zs s.me ≡ Some s → 1 ≤ count_of kept_row_id s.me zs
    counted [] s is = absurd cc
    counted (z ∷ zs) s is = grind (arith, counted zs s)

    with_counts : (zs : List KeptRow) → AllByRecursion (λ s. item_at kept_row_id zs s.me ≡ Some s) zs → AllByRecursion (λ s. (item_at kept_row_id zs s.me ≡ Some s) × (1 ≤ count_of kept_row_id s.me zs)) zs
    with_counts zs all = all_weaker _ _ (λ s is. (is, counted zs s is)) zs all

    by : (s : KeptRow) (q : Bool) → same x.me s.me ≡ q → item_at kept_row_id ks s.me ≡ Some s → 1 ≤ count_of kept_row_id s.me ks → count_of kept_row_id s.me (x ∷ ks) ≤ 1 → (if same x.me s.me then Some x else item_at kept_row_id ks s.me) ≡ Some s
    by s true is found some most =
        let two : 1 + count_of kept_row_id s.me ks ≤ 1 = subst (λ q. (if q then 1 + count_of kept_row_id s.me ks else count_of kept_row_id s.me ks) ≤ 1) is most in absurd (omega (arith, two, some))
    by s false is found some most = ap (λ q. if q then Some x else item_at kept_row_id ks s.me) is ∙ found

-- a message comes to a branch of the node
module _ (f : Facts) (k : NodeState) (node : ℕ) where
  came_to : (input : Input) (took : Option Took) → Comes f k node input took → (from to : BranchId) (kind : Kind) → Came input from to kind → to.node ≡ node
  came_to (inputs.Message m) (Some x) comes from to kind came =
      let it : inputs.Message m ≡ inputs.Message (record { from = from; to = to; scn = came.scn; kind = kind }) = came.is in
      let here : m ≡ record { from = from; to = to; scn = came.scn; kind = kind } = cc in
      subst (λ (y : Msg). y.to.node ≡ node) here comes.1.here
  came_to (inputs.Message m) None comes from to kind came = absurd comes
  came_to (inputs.Call session statement) took comes from to kind came = absurd (cc (came.is))
  came_to (inputs.GiveUp session) took comes from to kind came = absurd (cc (came.is))
  came_to inputs.Reco took comes from to kind came = absurd (cc (came.is))
  came_to inputs.Checkpoint took comes from to kind came = absurd (cc (came.is))

-- ---- a turn

over_later : {Q : Event → Type 0} {t r : List Event} → Added Q t r → (b : BranchId) → IsOver t b → IsOver r b
over_later more b (inl (inl is)) = inl (inl (exit_later b Dropped more is))
over_later more b (inl (inr (inl is))) = inl (inr (inl (exit_later b Quiet more is)))
over_later more b (inl (inr (inr (inl is)))) = inl (inr (inr (inl (learned_later b decisions.Rollback more is))))
over_later more b (inl (inr (inr (inr is)))) = inl (inr (inr (inr (has_later _ more is))))
over_later more b (inr is) = inr (is.0, exit_later b (Decided is.0) more is.1)

module _ (places : List Place) (asked : List Command) (each : (n : ℕ) (q : Place) → numbered places n ≡ Some q → IsPlace places n q) where
  -- all that is known of nodes, rows and births
  pub record Known (f : Facts) (t : List Event) : Type 0 where
    pub stand : StandAll places asked each f t
    pub heard : HeardStand f t
    pub kept : StaysKept f t
    pub births : List Born
    pub born : BirthsStand f t births

  known_on : (f : Facts) (t : List Event) (h : Happening) → Known f t → MayHappen places asked f h → Known (facts_after places asked f h) (events_after places asked f h t)
  known_on f t h now may = record {
    stand = stand_on places asked each f t h now.stand may;
    heard = heard_on places asked each f t now.stand now.heard h may;
    kept = keeps_on places asked each f t now.stand now.kept h may;
    births = births_after places f h now.births;
    born = births_on places asked each f t now.births now.stand now.born h may;
  }

  known_first : Known (first_facts places) []
  known_first = record { stand = stand_first places asked each; heard = (stand_heard_first places asked each).1; kept = λ c n is. absurd cc; births = []; born = (stand_born_first places asked each).1 }

  module _ (f : Facts) (t : List Event) (now : Known f t) (u : Turn) (k : NodeState) (may : MayTurn places f u k) where
    open one_turn places asked f u k use {n, p, d, g}

    abbrev r : List Event
    r = with_exits f g u t

    abbrev B : Born → Type 0
    B = Began now.births

    added : Added Any t r
    added = added_on (wrote_added u t) (added_wider (λ e is. tt) (leavers_added (lives_at (node_at f n)) (lives_at (node_at g n)) u.sent (lives_at (node_at f n)) (with_record u t) (λ b is. is)))

    told_so : (from to : BranchId) (kind : Kind) → Came u.input from to kind → ToldSo t from to kind
    told_so from to (kinds.Committed m) came = came_said f t now.stand.2 k n u.input u.took may.comes from to (kinds.Committed m) came
    told_so from to kinds.Rollback came = came_said f t now.stand.2 k n u.input u.took may.comes from to kinds.Rollback came
    told_so from to kinds.RolledBack came = came_said f t now.stand.2 k n u.input u.took may.comes from to kinds.RolledBack came
    told_so from to kinds.Forgotten came = came_said f t now.stand.2 k n u.input u.took may.comes from to kinds.Forgotten came
    told_so from to kinds.Ack came = came_said f t now.stand.2 k n u.input u.took may.comes from to kinds.Ack came
    told_so from to _ came = tt

    -- ---- a branch of which nothing is known at its node

    child_begun : (c q : BranchId) → IsChild B c q → HasBegun B c
    child_begun c q is = (is.0, is.1, is.2)

    parent_begun : (c q : BranchId) → IsChild B c q → HasBegun B q
    parent_begun c q is =
        let below : StandsBelow B is.0 (Some q) = subst (StandsBelow B is.0) is.3 (all_found (λ x. StandsBelow B x x.parent) born_id now.births is.0.me is.0 now.born.trees is.1) in
        (below.0, below.1, below.2)

    near_begun : (a b : BranchId) → AreNeighbors B a b → HasBegun B b
    near_begun a b (inl up) = parent_begun a b up
    near_begun a b (inr down) = child_begun b a down

    goes : (from to : BranchId) (kind : Kind) → Came u.input from to kind → GoesSo B from to kind
    goes from to kind came = came_so (GoesSo B) f now.born.said k n u.input u.took may.comes from to kind came

    asked_begun : (from to : BranchId) → IsAsked u.input from to → HasBegun B to
    asked_begun from to (inl came) = child_begun to from (goes from to kinds.CommitPoint came)
    asked_begun from to (inr came) = near_begun from to (goes from to kinds.Ask came)

    asked_here : (from to : BranchId) → IsAsked u.input from to → to.node ≡ n
    asked_here from to (inl came) = came_to f k n u.input u.took may.comes from to kinds.CommitPoint came
    asked_here from to (inr came) = came_to f k n u.input u.took may.comes from to kinds.Ask came

    -- a sealed one is done
    sealed_over : (b : BranchId) (m : ℕ) → b.node ≡ n → status_of k b ≡ Is_gone → exit t b ≡ Some (Sealed m) → IsOver t b
    sealed_over b m here gone sealed = elim (now.kept b m sealed) [
      | inl row ↦ absurd (kept_not_gone k b
          (sym (any_map b unacked_row (λ x. refl) k.stored.durable.kept)
          ∙ subst (λ s. IsKeptIn b s.durable.kept) (sym (node_so places asked each f t now.stand n k may.up).stored) (subst (λ i. IsKeptIn b (stored_rows f i)) here row)) gone)
      | inr done ↦ inl (done_gone done)
    ]
      where
        done_gone : IsGoneForGood t b → Gone t b
        done_gone (inl learned_it) = inr (inr (inl learned_it))
        done_gone (inr forgot) = inr (inr (inr forgot))

    exit_over : (b : BranchId) (e : Exit) → b.node ≡ n → status_of k b ≡ Is_gone → exit t b ≡ Some e → IsOver t b
    exit_over b (Sealed m) here gone is = sealed_over b m here gone is
    exit_over b (Decided m) here gone is = inr (m, is)
    exit_over b Quiet here gone is = inl (inr (inl is))
    exit_over b Dropped here gone is = inl (inl is)

    gone_over : (b : BranchId) → b.node ≡ n → HasBegun B b → status_of k b ≡ Is_gone → IsOver t b
    gone_over b here begun gone = elim (now.born.there b (λ none. (let at : born_at now.births b ≡ Some begun.0 = subst (λ c. born_at now.births c ≡ Some begun.0) begun.2 begun.1 in absurd (cc (at, none))))) [
      | inr living ↦ absurd (live_not_gone k b (subst (λ o. is_among b (lives_at o) ≡ true) may.up (subst (λ i. is_among b (lives_at (node_at f i)) ≡ true) here living)) gone)
      | inl left ↦ elim (some_or_none (exit t b)) [
        | inr none ↦ absurd (left none)
        | inl some ↦ exit_over b some.0 here gone some.1
      ]
    ]

    -- ---- messages

    rows_are : (heard k u.input).stored.durable.kept ≡ k.stored.durable.kept
    rows_are = heard_rows k u.input

    ack_is : (b to : BranchId) → Acks t (heard k u.input) u.input b to → AckIs t k.stored.durable.kept b to
    ack_is b to (All_have s like all) = inl (s, subst (λ (ks : List KeptRow). IsRowLike ks b s) rows_are like, all)
    ack_is b to (Is_done m gone came) =
        inr (gone_over b (came_to f k n u.input u.took may.comes to b (kinds.Committed m) came) (near_begun to b (goes to b (kinds.Committed m) came)) (heard_gone k u.input b gone), (m, told_so to b (kinds.Committed m) came))

    -- its record says that a branch learned a rollback
    learned_so : (w : Option RedoRecord) (e : BranchId) → IfSome w (MayStand t) → LearnsRollback w e → learned (with_event (wrote_event n w) t) e ≡ Some decisions.Rollback
    learned_so (Some (records.Ended b decisions.Rollback)) e stands is = learned_now t b e decisions.Rollback None stands.1 (sym is)
    learned_so (Some (records.Met b decisions.Rollback mixed)) e stands is = learned_now t b e decisions.Rollback (Some mixed) stands.1 (sym is)
    learned_so _ e stands is = absurd is

    row_of : (s : KeptRow) → item_at kept_row_id (heard k u.input).stored.durable.kept s.me ≡ Some s → item_at kept_row_id k.stored.durable.kept s.me ≡ Some s
    row_of s is = subst (λ (ks : List KeptRow). item_at kept_row_id ks s.me ≡ Some s) rows_are is

    row_is : (s : KeptRow) → item_at kept_row_id k.stored.durable.kept s.me ≡ Some s → RowIs t s
    row_is s is =
        all_found (RowIs t) kept_row_id k.stored.durable.kept s.me s
        (acked_back t k.stored.durable.kept (subst (λ x. RowsAre t x.durable.kept) (sym (node_so places asked each f t now.stand n k may.up).stored) (now.stand.1.rows n))) is

    none_yet : (b : BranchId) → IsLive k b → exit t b ≡ None
    none_yet b live =
        subst (λ m. exit t m ≡ None) (item_is live_id k.lives b live.0 live.1)
        (all_found (λ l. exit t l.me ≡ None) live_id k.lives b live.0 (subst (λ o. IfSome o (λ x. AllByRecursion (λ l. exit t l.me ≡ None) x.lives)) may.up (now.stand.1.lives n)) live.1)

    has_gone : (e : BranchId) → (exit r e ≡ Some Quiet) ⊎ (exit r e ≡ Some Dropped) → IsOver r e
    has_gone e (inl quiet) = inl (inr (inl quiet))
    has_gone e (inr dropped) = inl (inl dropped)

    roll_is : u.cut ≡ false → u.wrote ≡ d.wrote → (e to : BranchId) → Rolls (heard k u.input) u.input d e to → RollbackIs r k.stored.durable.kept e to
    unfolding turn_of
    roll_is cut wrote e to (Has_left live unwritten left no_rows) =
        let alive : IsLive k e = heard_lives k u.input e live in
        let up : node_at g n ≡ Some d.after = (turn_here places asked f now.stand.0.even u k may.up).0 ∙ ap (λ c. kept_after c (Some (turn_of p k u.input))) cut in
        let was : is_among e (lives_at (node_at f n)) ≡ true = subst (λ o. is_among e (lives_at o) ≡ true) (sym may.up) (live_among k e alive) in
        let gone : is_among e (lives_at (node_at g n)) ≡ false = subst (λ o. is_among e (lives_at o) ≡ false) (sym up) left in
        let none : exit (with_record u t) e ≡ None = subst (λ w. exit (with_event (wrote_event n w) t) e ≡ None) (sym (wrote ∙ unwritten)) (none_yet e alive) in
        inl (has_gone e (leaver_gone e (lives_at (node_at g n)) u.sent (lives_at (node_at f n)) (with_record u t) none was gone))
    roll_is cut wrote e to (Has_learned is) =
        let stands : IfSome u.wrote (MayStand t) = (tells_so places asked each f t (happenings.Turn u) now.stand (k, may)).0 in
        let learned_it : learned (with_record u t) e ≡ Some decisions.Rollback = learned_so u.wrote e stands (subst (λ w. LearnsRollback w e) (sym wrote) is) in
        inl (inl (inr (inr (inl (learned_later e decisions.Rollback (leavers_added (lives_at (node_at f n)) (lives_at (node_at g n)) u.sent (lives_at (node_at f n)) (with_record u t) (λ b at. at)) learned_it)))))
    roll_is cut wrote e to (Is_not_there gone asked) = inl (over_later added e (gone_over e (asked_here to e asked) (asked_begun to e asked) (heard_gone k u.input e gone)))
    roll_is cut wrote e to (Knows_so s kept me knows asked) =
        let learned_it : learned t s.me ≡ Some decisions.Rollback = subst (IsKnown t s) knows (row_is s (row_of s kept)).known in
        inl (inl (inr (inr (inl (learned_later e decisions.Rollback added (subst (λ c. learned t c ≡ Some decisions.Rollback) me learned_it))))))
    roll_is cut wrote e to (Names_not s kept me other asked) = inr (s, subst (λ c. item_at kept_row_id k.stored.durable.kept c ≡ Some s) me (row_of s kept), other)

    says_is : u.cut ≡ false → u.wrote ≡ d.wrote → (from to : BranchId) (kind : Kind) → SaysSo t (heard k u.input) u.input d from to kind → SaysByRow t r k.stored.durable.kept from to kind
    says_is cut wrote from to kinds.Ack so = ack_is from to so
    says_is cut wrote from to kinds.Rollback so = roll_is cut wrote from to so
    says_is cut wrote from to kinds.RolledBack so = roll_is cut wrote from to so
    says_is cut wrote from to _ so = tt

    acks : AllByRecursion (AcksAre t) (heard k u.input).stored.durable.kept
    acks = subst (λ (ks : List KeptRow). AllByRecursion (AcksAre t) ks) (sym rows_are) (subst (λ o. IfSome o (NodeHeard t)) may.up (now.heard.nodes n)).1

    found : RowsFound t p u.input told_so (heard k u.input)
    found reco =
        subst (λ (ks : List KeptRow). AllByRecursion (λ s. item_at kept_row_id ks s.me ≡ Some s) ks) (sym rows_are)
        (rows_found k.stored.durable.kept (λ b. (let one = (node_so places asked each f t now.stand n k may.up).ids.one b in omega (arith, one))))

    sent_so : (cut : Bool) → u.cut ≡ cut → IsOwed p k u.input u.wrote u.sent cut → AllByRecursion (λ m. SaysByRow t r k.stored.durable.kept m.from m.to m.kind) u.sent
    unfolding turn_of
    sent_so true cut owed = subst (λ (ms : List Msg). AllByRecursion (λ m. SaysByRow t r k.stored.durable.kept m.from m.to m.kind) ms) (sym owed.1) tt
    sent_so false cut owed =
        subst (λ (ms : List Msg). AllByRecursion (λ m. SaysByRow t r k.stored.durable.kept m.from m.to m.kind) ms) (sym owed.1)
        (all_map (λ (m : Msg). SaysByRow t r k.stored.durable.kept m.from m.to m.kind) (stamped d.after.clock) d.says
        (all_weaker _ _ (λ x is. says_is cut owed.0 x.from x.to x.kind is) d.says (says_on t p u.input told_so (serves places f u k may).step found acks)))

  tells_row : (f : Facts) (t : List Event) (h : Happening) → Known f t → MayHappen places asked f h → TellsByRow places asked f t h
  tells_row f t (happenings.Turn u) now may = λ k up. (let turn = turn_of_node places f u k asked may up in sent_so f t now u k turn u.cut refl turn.owed)
  tells_row f t _ now may = tt

pub turns_tell_by_rows : TurnsTellByRows
turns_tell_by_rows t lawful =
    events_each t.places t.commands (Known t.places t.commands t.of_a_script.each) (known_on t.places t.commands t.of_a_script.each) (TellsByRow t.places t.commands) (tells_row t.places t.commands t.of_a_script.each)
    (first_facts t.places) t.trace [] (known_first t.places t.commands t.of_a_script.each) lawful
