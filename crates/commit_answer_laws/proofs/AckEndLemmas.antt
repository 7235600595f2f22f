-- No COMMIT is pending of a root that has decided and has the Ack of each neighbour: so a turn ends it in which the last of them comes,
-- or in which the root decides without neighbours.
use Rattle.std.proofs.Common.{◌≡◌, ◌≢◌, ℕ, ◌<◌, ◌++◌, ◌⊎◌, not, Bool, true, false, if◌then◌else◌, List, [], ◌∷◌, filter, map, Option, Some, None, inl, inr, refl, sym, ap, subst, ◌∙◌, append-nil, arith}
use Rattle.std.specs.Option.{option_to_list}
use Rattle.std.specs.List.{AllByRecursion, list_all}
use Rattle.std.proofs.lemmas.Bool.{and_parts, cond_both}
use Rattle.tran_ids.proofs.BranchLemmas.{equal_from_same}
use Rattle.tran_ids.proofs.ListedLemmas.{item_is}
use Rattle.redo_record.specs.Rows.{decided_as, kid_of}
use Rattle.session_tree.specs.Live.{is_branch}
use Rattle.commit_forget.specs.declared.next.Beyond.{Beyond as Neighbor}
use Rattle.commit_forget.specs.Beyond.{beyond, kid_beyond, parent_beyond as parent_neighbor}
use Rattle.commit_forget.specs.Next.{knows_commit}
use Rattle.agreement.specs.Events as exits
use Rattle.agreement.specs.Events.{Event, Beyond, Knows, exit}
use Rattle.node_rules.specs.Data.{BranchId, Decided, Kid, KeptRow, Live, Peer, RedoRecord}
use Rattle.node_rules.specs.Data.decisions
use Rattle.node_rules.specs.Data.records
use Rattle.node_rules.specs.NodeState.{NodeState, live_id, live_at, kept_row_id, kept_row_at}
use Rattle.node_rules.specs.Words.{same}
use Rattle.run_rules.specs.BranchRecords.{decided_in}
use Rattle.run_rules.specs.Branches.{Seen, is_among, seen_at}
use Rattle.run_rules.specs.Facts.{node_at, records_at}
use Rattle.run_rules.specs.Lawful.{History, IsLawfulRun, boots, facts_at}
use Rattle.run_claims.specs.Knowledge.{acks_of, neighbors_of}
use Rattle.run_base_laws.specs.BirthLaws.{Began, KeptIs}
use Rattle.run_base_laws.specs.EventRows.{IsKnown, RowIs}
use Rattle.run_base_laws.proofs.BirthRunLemmas.{nodes_name_the_born}
use Rattle.run_base_laws.proofs.EventsStandLemmas.{ids_name_their_node, nodes_are_as_events}
use Rattle.run_base_laws.proofs.OwnLemmas.{all_found}
use Rattle.run_base_laws.proofs.StoredLemmas.{records_are_kept}
use Rattle.run_base_laws.proofs.TurnEventLemmas.{all_both}
use Rattle.run_rules.proofs.ListLemmas.{all_append, all_filter, all_map, map_after}
use Rattle.tree_laws.proofs.AtPart.{at_end}
use Rattle.tree_laws.proofs.FitRowLemmas.{RowFits, rows_fit}
use Rattle.tree_laws.proofs.MoreLemmas.{inv_end}
use Rattle.tree_laws.proofs.RowLemmas.{kid_branch, rows_so}
use Rattle.tree_laws.proofs.TimeLemmas.{Part}
use Rattle.tree_trail_laws.proofs.MomentLemmas.{tr_at}
use Rattle.run_cause_laws.proofs.OnceLemmas.{HasLeft, IsOnly, disks_only}
use Rattle.commit_forget_laws.specs.ForgetLaws.{HoldsAck, IsNoted}
use Rattle.commit_forget_laws.specs.RowLaws.{IsSealed, RowTells}
use Rattle.commit_forget_laws.proofs.AckHeardLemmas.{ack_noted}
use Rattle.commit_forget_laws.proofs.NearLemmas.{IsOff, all_true, beyond_off}
use Rattle.commit_forget_laws.proofs.RowRunLemmas.{rows_tell}
use Rattle.commit_forget_laws.proofs.WayLemmas.{child_beyond, parent_beyond}
use Rattle.commit_answer_laws.specs.CommitEndLaws.{CommitPends}
use Rattle.commit_answer_laws.proofs.AckCameLemmas.{AckCame, acks_came}
use Rattle.commit_answer_laws.proofs.RootBootLemmas.{roots_boot}
use Rattle.commit_answer_laws.proofs.RootHoldLemmas.{Holds}
use Rattle.commit_answer_laws.proofs.RootHoldRunLemmas.{roots_hold}
use Rattle.commit_answer_laws.proofs.RowHoldLemmas.{well_row}

-- ---- lists

all_so : (P : BranchId → Bool) (bs : List BranchId) → list_all P bs ≡ true → AllByRecursion (λ b. P b ≡ true) bs
all_so P [] all = tt
all_so P (b ∷ bs) all = (let parts = and_parts (P b) (list_all P bs) all in (parts.0, all_so P bs parts.1))

first_part : {A : Type 0} (P : A → Type 0) (xs ys : List A) → AllByRecursion P (xs ++ ys) → AllByRecursion P xs
first_part P [] ys all = tt
first_part P (x ∷ xs) ys all = (all.0, first_part P xs ys all.1)

second_part : {A : Type 0} (P : A → Type 0) (xs ys : List A) → AllByRecursion P (xs ++ ys) → AllByRecursion P ys
second_part P [] ys all = all
second_part P (x ∷ xs) ys all = second_part P xs ys all.1

unmapped : {A B : Type 0} (P : B → Type 0) (g : A → B) (xs : List A) → AllByRecursion P (map g xs) → AllByRecursion (λ x. P (g x)) xs
unmapped P g [] all = tt
unmapped P g (x ∷ xs) all = (all.0, unmapped P g xs all.1)

-- what each item says of those of its branch, each says of itself
each_own : (P Q : Neighbor → Type 0) (xs : List Neighbor) → ((y : Neighbor) → Q y → AllByRecursion (λ z. z.branch ≡ y.branch → P z) xs) → AllByRecursion Q xs → AllByRecursion P xs
each_own P Q [] says all = tt
each_own P Q (x ∷ xs) says all = ((says x all.0).0 refl, each_own P Q xs (λ y q. (says y q).1) all.1)

-- what is so of a row's parent and children is so of those beyond it
module _ (P : BranchId → Type 0) (s : KeptRow) where
  parent_so : (o : Option BranchId) → AllByRecursion P (option_to_list o) → AllByRecursion (λ (y : Neighbor). P y.branch) (parent_neighbor s o)
  parent_so None all = tt
  parent_so (Some b) all = cond_both (is_branch b s.toward) _ _ (AllByRecursion (λ (y : Neighbor). P y.branch)) (λ on. tt) (λ off. (all.0, tt))

  beyond_so : AllByRecursion P (option_to_list s.parent ++ map kid_branch s.children) → AllByRecursion (λ (y : Neighbor). P y.branch) (beyond s)
  unfolding beyond
  beyond_so all =
      all_append (λ (y : Neighbor). P y.branch) (parent_neighbor s s.parent) _ (parent_so s.parent (first_part P (option_to_list s.parent) (map kid_branch s.children) all))
      (all_map (λ (y : Neighbor). P y.branch) kid_beyond (filter (λ c. not (is_branch c.branch s.toward)) s.children)
      (all_filter (λ (c : Kid). P c.branch) (λ (c : Kid). P c.branch) (λ c. not (is_branch c.branch s.toward)) (λ c off so. so) s.children
      (unmapped P kid_branch s.children (second_part P (option_to_list s.parent) (map kid_branch s.children) all))))

-- a branch that decided has left
pub has_left : (e : List Event) (rs : List RedoRecord) (b : BranchId) (r : Decided) → decided_in rs b ≡ Some r → AllByRecursion (HasLeft e) rs → exit e b ≢ None
has_left e [] b r is all = absurd cc
has_left e (records.Decided x ∷ rs) b r is all = by (same x.me b) refl is (λ found. has_left e rs b r found all.1)
  where
    by : (q : Bool) → same x.me b ≡ q → (if q then Some x else decided_in rs b) ≡ Some r → (decided_in rs b ≡ Some r → exit e b ≢ None) → exit e b ≢ None
    by true here at rest = λ none. (let some : exit e b ≡ Some all.0.0 = subst (λ c. exit e c ≡ Some all.0.0) (equal_from_same x.me b here) all.0.1 in absurd (cc (some, none)))
    by false other at rest = rest at
has_left e (_ ∷ rs) b r is all = has_left e rs b r is all.1

-- ---- a COMMIT that is pending

module _ (t : History) (whole : IsLawfulRun t) (n : ℕ) (k : NodeState) (up : node_at (facts_at t) n ≡ Some k) (g : BranchId) (pends : CommitPends k g) where
  open at_end t use {f, e, forest as p, said, bs}

  part : Part t whole t.trace
  part = record { rest = []; is = append-nil t.trace }

  held : Holds k.lives k.stored.durable.kept g
  held = roots_hold t whole n k up g.session g pends.root pends.call

  -- at the root's node
  pub root_node : g.node ≡ n
  root_node = by held
    where
      by : Holds k.lives k.stored.durable.kept g → g.node ≡ n
      by (inl live) = sym (ap (λ (c : BranchId). c.node) (item_is live_id k.lives g live.0 live.1)) ∙ all_found (λ (x : Live). x.me.node ≡ n) live_id k.lives g live.0 (ids_name_their_node t whole n k up).lives live.1
      by (inr row) = sym (ap (λ (c : BranchId). c.node) (item_is kept_row_id k.stored.durable.kept g row.0 row.1)) ∙ all_found (λ (x : KeptRow). x.me.node ≡ n) kept_row_id k.stored.durable.kept g row.0 (ids_name_their_node t whole n k up).rows row.1

  up_at : node_at f g.node ≡ Some k
  up_at = subst (λ i. node_at f i ≡ Some k) (sym root_node) up

  unstopped : g.boot < boots (records_at f g.node) → ⊥
  unstopped old =
      let now : g.boot ≡ boots (records_at f n) = roots_boot t whole n k up g.session g pends.root in
      let same_one : boots (records_at f g.node) ≡ boots (records_at f n) = ap (λ i. boots (records_at f i)) root_node in
      absurd (omega (arith, old, now, same_one))

  module _ (r : Decided) (decided : decided_in (records_at f g.node) g ≡ Some r) where
    abbrev rs : List RedoRecord
    rs = records_at f n

    decided_here : decided_in rs g ≡ Some r
    decided_here = subst (λ i. decided_in (records_at f i) g ≡ Some r) root_node decided

    not_live : (z : Live) → live_at k g ≡ Some z → ⊥
    not_live z live =
        has_left e rs g r decided_here (disks_only t whole t.trace part n).0
        (subst (λ c. exit e c ≡ None) (item_is live_id k.lives g z live) (all_found (λ (x : Live). exit e x.me ≡ None) live_id k.lives g z (nodes_are_as_events t whole n k up).0 live))

    -- its row is that of the decision
    abbrev IsOf : BranchId → Option BranchId → List BranchId → Option BranchId → Type 0
    IsOf me parent kids toward = (x : Decided) → decided_in rs me ≡ Some x → (toward ≡ None) × (option_to_list parent ++ kids ≡ neighbors_of x)

    of_decision : (x y : Decided) → x ≡ y → ((decided_as x).toward ≡ None) × (option_to_list (decided_as x).parent ++ map kid_branch (decided_as x).children ≡ neighbors_of y)
    of_decision x y is =
        (refl, ap (λ cs. option_to_list x.parent ++ cs) (map_after kid_branch kid_of (λ (c : Peer). c.branch) (λ q. refl) x.children) ∙ ap neighbors_of is)

    rows_are : AllByRecursion (λ (s : KeptRow). IsOf s.me s.parent (map kid_branch s.children) s.toward) k.stored.durable.kept
    rows_are =
        rows_so IsOf (IsOnly rs) (λ x only y found. absurd (cc (only, found))) (λ x only y found. of_decision x y (let both : Some x ≡ Some y = sym only ∙ found in let one : x ≡ y = cc in one)) k rs
        (records_are_kept t whole n k up) (disks_only t whole t.trace part n).1

    module _ (s : KeptRow) (row : kept_row_at k g ≡ Some s) where
      abbrev ks : List KeptRow
      ks = k.stored.durable.kept

      me : s.me ≡ g
      me = item_is kept_row_id ks g s row

      row_is : RowIs e s
      row_is = all_found (RowIs e) kept_row_id ks g s (nodes_are_as_events t whole n k up).1 row

      its : (s.toward ≡ None) × (option_to_list s.parent ++ map kid_branch s.children ≡ neighbors_of r)
      its = all_found (λ (x : KeptRow). IsOf x.me x.parent (map kid_branch x.children) x.toward) kept_row_id ks g s rows_are row r (subst (λ c. decided_in rs c ≡ Some r) (sym me) decided_here)

      way : RowFits p s.me s.toward
      way = all_found (λ (x : KeptRow). RowFits p x.me x.toward) kept_row_id ks g s (rows_fit t whole t.trace part n k up) row

      -- the site is not sealed
      unsealed : (m : ℕ) → exit e s.me ≡ Some (exits.Sealed m) → ⊥
      unsealed m sealed = by way
        where
          by : RowFits p s.me s.toward → ⊥
          by (inl on) = (let some = on.0 in let none = its.0 in absurd (cc (some, none)))
          by (inr site) = absurd (((inv_end t whole).sealed_in s.me m sealed).1 site.1)

      born : KeptIs (Began bs) s
      born = all_found (KeptIs (Began bs)) kept_row_id ks g s (nodes_name_the_born t whole n k up).1 row

      tells : RowTells said e s
      tells = elim (all_found (λ (x : KeptRow). RowTells said e x ⊎ ((j : NodeState) → node_at f x.me.node ≡ Some j → x.me.boot < boots (records_at f x.me.node))) kept_row_id ks g s (rows_tell t whole n k up) row) [
        | inl so ↦ so
        | inr stopped ↦ absurd (unstopped (subst (λ (c : BranchId). c.boot < boots (records_at f c.node)) me (stopped k (subst (λ (c : BranchId). node_at f c.node ≡ Some k) (sym me) up_at))))
      ]

      module _ (m : ℕ) (known : s.decision ≡ Some (decisions.Commit m)) (fresh : s.forgot ≡ false) where
        left : exit e s.me ≡ Some (exits.Decided m)
        left = by (subst (IsKnown e s) known row_is.known)
          where
            by : Knows e s.me m → exit e s.me ≡ Some (exits.Decided m)
            by (inl is) = is
            by (inr learnt) = (let sealed = (inv_end t whole).learned_sealed s.me (decisions.Commit m) learnt in absurd (unsealed sealed.0 sealed.1))

        -- an Ack of one beyond is held
        abbrev Said : Neighbor → Type 0
        Said y = (AckCame t.trace y.branch g × IsOff (Began bs) s born y.branch) × IsSealed e y.branch

        held_ack : (y : Neighbor) → Said y → AllByRecursion (λ z. z.branch ≡ y.branch → z.acked ≡ true) (beyond s)
        held_ack y so =
            let it : AckCame t.trace y.branch g = so.0.0 in
            let edge : Beyond p y.branch s.me = edge_of so.0.1 in
            let noted : IsNoted f it.message.from it.message.to
            = ack_noted t whole it.message (record { before = it.before; turn = it.turn; later = it.later; is = it.is; input = it.input; here = it.here }) it.kind
            (subst (Beyond p it.message.from) (me ∙ sym it.to_it) (subst (λ c. Beyond p c s.me) (sym it.from_it) edge)) (subst (IsSealed e) (sym it.from_it) so.1) in
            by_note (subst (λ c. IsNoted f c g) it.from_it (subst (IsNoted f it.message.from) it.to_it noted) k up_at)
          where
            edge_of : IsOff (Began bs) s born y.branch → Beyond p y.branch s.me
            edge_of off = elim off.1 [
              | inl above ↦ parent_beyond t whole s.me y.branch s.toward way off.0 (born.born, born.began, born.is_me, born.is_parent ∙ above) (exits.Decided m) left (λ other. absurd cc)
              | inr below ↦ child_beyond t whole s.me y.branch s.toward way off.0 below (exits.Sealed so.1.0) so.1.1 (λ other. absurd cc)
            ]

            by_note : (g.boot < boots (records_at f g.node)) ⊎ AllByRecursion (λ x. x.me ≡ g → HoldsAck y.branch x) ks → AllByRecursion (λ z. z.branch ≡ y.branch → z.acked ≡ true) (beyond s)
            by_note (inl old) = absurd (unstopped old)
            by_note (inr rows) = all_found (λ (x : KeptRow). x.me ≡ g → HoldsAck y.branch x) kept_row_id ks g s rows row me

        not_acked : list_all (λ c. is_among c (acks_of (seen_at (tr_at t t.trace) g))) (neighbors_of r) ≡ true → ⊥
        not_acked all =
            let each : AllByRecursion (λ c. is_among c (acks_of (seen_at (tr_at t t.trace) g)) ≡ true) (option_to_list s.parent ++ map kid_branch s.children)
            = all_so (λ c. is_among c (acks_of (seen_at (tr_at t t.trace) g))) (option_to_list s.parent ++ map kid_branch s.children) (ap (list_all (λ c. is_among c (acks_of (seen_at (tr_at t t.trace) g)))) its.1 ∙ all) in
            let came : AllByRecursion (λ (y : Neighbor). AckCame t.trace y.branch g) (beyond s) = beyond_so (λ c. AckCame t.trace c g) s (came_each (option_to_list s.parent ++ map kid_branch s.children) each) in
            let acked : AllByRecursion (λ (y : Neighbor). y.acked ≡ true) (beyond s)
            = each_own (λ y. y.acked ≡ true) Said (beyond s) held_ack
            (all_both (λ y. AckCame t.trace y.branch g × IsOff (Began bs) s born y.branch) (λ y. IsSealed e y.branch) (beyond s)
            (all_both (λ y. AckCame t.trace y.branch g) (λ y. IsOff (Began bs) s born y.branch) (beyond s) came (beyond_off (Began bs) s born)) tells.sealed) in
            let toward = tells.acks (ap knows_commit known) fresh (all_true (beyond s) acked) in
            let some = toward.1 in
            let none = its.0 in
            absurd (cc (some, none))
          where
            came_one : (o : Option Seen) → seen_at (tr_at t t.trace) g ≡ o → (c : BranchId) → is_among c (acks_of o) ≡ true → AckCame t.trace c g
            came_one None at c there = absurd cc
            came_one (Some x) at c there = acks_came t whole t.trace part g x at c there

            came_each : (cs : List BranchId) → AllByRecursion (λ c. is_among c (acks_of (seen_at (tr_at t t.trace) g)) ≡ true) cs → AllByRecursion (λ c. AckCame t.trace c g) cs
            came_each [] each = tt
            came_each (c ∷ cs) each = (came_one (seen_at (tr_at t t.trace) g) refl c each.0, came_each cs each.1)

    -- it lacks an Ack
    pub never_acked : list_all (λ c. is_among c (acks_of (seen_at (tr_at t t.trace) g))) (neighbors_of r) ≡ true → ⊥
    never_acked all = by held
      where
        by : Holds k.lives k.stored.durable.kept g → ⊥
        by (inl live) = not_live live.0 live.1
        by (inr kept) = well_row kept.0 kept.2
            (λ at none fresh. (let known : IsKnown e kept.0 None = subst (IsKnown e kept.0) none (row_is kept.0 kept.1).known in absurd (unsealed kept.0 kept.1 kept.0.scn known.0)))
            (λ m at known fresh. not_acked kept.0 kept.1 m known fresh all)
