-- A calm turn in which a message comes that tells no decision and asks nothing: where who leaves does what it owes, what was so of
-- undecided rows and live branches stays so.
use Rattle.std.proofs.Common.{◌≡◌, ◌≢◌, ℕ, ◌⊎◌, Bool, true, false, List, [], Some, None, inl, inr, refl, sym, ap, subst, ◌∙◌}
use Rattle.std.specs.List.{AllByRecursion}
use Rattle.tran_ids.proofs.ListedLemmas.{item_is}
use Rattle.net_bag.specs.Net.{lost_at_once}
use Rattle.agreement.specs.Events.{Quiet, Sealed, exit}
use Rattle.node_rules.specs.Data.{BranchId, Decision, Kind, Live, Msg, Place, KeptRow}
use Rattle.node_rules.specs.Data.inputs
use Rattle.node_rules.specs.Data.kinds
use Rattle.node_rules.specs.Inputs.{Brings, Commit_came, Rollback_came, Rolled_back_came}
use Rattle.node_rules.specs.NodeState.{NodeState, TurnDraft, live_at, live_id, kept_row_at, kept_row_id}
use Rattle.node_rules.specs.Turn.{heard, draft_of}
use Rattle.node_rules.proofs.Steps.{Step}
use Rattle.run_rules.specs.Births.{births_of}
use Rattle.run_rules.specs.Data.{Took, Turn}
use Rattle.run_rules.specs.Data.happenings
use Rattle.run_rules.specs.Facts.{Facts, place_at, node_at, taken, facts_after}
use Rattle.run_rules.specs.Lawful.{MayTurn, History, IsLawfulRun}
use Rattle.run_rules.proofs.AtNodeLemmas.{turn_elsewhere}
use Rattle.run_rules.proofs.ListLemmas.{all_weaker}
use Rattle.run_base_laws.specs.BirthLaws.{Began, KeptIs}
use Rattle.run_base_laws.specs.EventRows.{RowIs, IsKnown}
use Rattle.run_base_laws.specs.FreezeLaws.{was_asked}
use Rattle.run_base_laws.specs.InTurnLaws.{said_in}
use Rattle.run_base_laws.specs.RunEvents.{events_of}
use Rattle.run_base_laws.proofs.BirthRunLemmas.{nodes_name_the_born}
use Rattle.run_base_laws.proofs.EventsStandLemmas.{nodes_are_as_events, ids_name_their_node}
use Rattle.run_base_laws.proofs.LawfulLemmas.{serves}
use Rattle.run_base_laws.proofs.OwnLemmas.{all_found}
use Rattle.run_base_laws.proofs.TurnEventLemmas.{all_both, cases_nat}
use Rattle.run_branch_laws.proofs.FreezeLemmas.{asked_split}
use Rattle.tree_laws.proofs.PrefixLemmas.{f_at}
use Rattle.commit_forget_laws.proofs.FoundRowLemmas.{rows_found}
use Rattle.settle_laws.specs.OverLaws.{is_rollback}
use Rattle.settle_laws.specs.RowLaws.{RowHolds}
use Rattle.settle_laws.specs.Interval.{Flies, is_ask, is_point, is_decision, LivesAt, RowNamesAnother, Sought, Asks, Points, Is_told, In_doubt, Under_live, Watched, Asks_up, Is_rolled, Up_lives, Up_names, Unasked, Obliged}
use Rattle.settle_laws.proofs.CalmTurn.{calm}
use Rattle.settle_laws.proofs.RowLemmas.{rows_hold, names_so}
use Rattle.settle_laws.proofs.StayLemmas.{NotBoth, rows_stay, rows_stood, StoodOrSeals, SealsBy, lives_stay, LeavesBy}
use Rattle.settle_laws.proofs.AskersLiveLemmas.{askers_live}
use Rattle.settle_laws.proofs.UndecidedLemmas.{undecided_row, asked_above}

-- a rollback is a decision
rollback_decides : (kind : Kind) → is_rollback kind ≡ true → is_decision kind ≡ true
rollback_decides kinds.Rollback is = refl
rollback_decides kinds.RolledBack is = refl
rollback_decides _ is = absurd cc

module _ (t : History) (s_lawful : IsLawfulRun t) (u : Turn) (k : NodeState) where
  abbrev pub f : Facts
  f = f_at t t.trace

  abbrev pub g : Facts
  g = facts_after t.places t.commands f (happenings.Turn u)

  module _ (may : MayTurn t.places f u k) (uncut : u.cut ≡ false) (none : lost_at_once (taken f.net u.took) u.sent ≡ []) (m : Msg) (it : u.input ≡ inputs.Message m) (y : Took) (took : u.took ≡ Some y)
      (no_decision : is_decision m.kind ≡ false) (no_ask : is_ask m.kind ≡ false) where
    abbrev pub p : Place
    p = place_at t.places u.node

    abbrev pub d : TurnDraft
    d = draft_of p k (inputs.Message m)

    open calm t s_lawful u k may uncut none m it y took d (ap (draft_of p k) it) use {even, comes, at_to, here, up_to, here_to, said_now, post_flies, flown}

    pub step : Step p (inputs.Message m) (heard k (inputs.Message m)) d
    step = subst (λ i. Step p i (heard k i) (draft_of p k i)) it (serves t.places f u k may).step

    pub brings_not : (from to : BranchId) (o : Decision) → Brings (inputs.Message m) from to o → ⊥
    brings_not from to _ (Commit_came n came) = (let is = came.is in let decides : is_decision m.kind ≡ true = (let kind : m.kind ≡ kinds.Committed n = cc in ap is_decision kind) in absurd (cc (no_decision, decides)))
    brings_not from to _ (Rollback_came came) = (let is = came.is in let decides : is_decision m.kind ≡ true = (let kind : m.kind ≡ kinds.Rollback = cc in ap is_decision kind) in absurd (cc (no_decision, decides)))
    brings_not from to _ (Rolled_back_came came) = (let is = came.is in let decides : is_decision m.kind ≡ true = (let kind : m.kind ≡ kinds.RolledBack = cc in ap is_decision kind) in absurd (cc (no_decision, decides)))

    abbrev ks : List KeptRow
    ks = k.stored.durable.kept

    pub not_both : NotBoth k
    not_both b l s live row =
        let events = nodes_are_as_events t s_lawful u.node k may.up in
        (all_found (RowIs (events_of t)) kept_row_id ks b s events.1 row).left
        (ap (exit (events_of t)) (item_is kept_row_id ks b s row ∙ sym (item_is live_id k.lives b l live)) ∙ all_found (λ (x : Live). exit (events_of t) x.me ≡ None) live_id k.lives b l events.0 live)

    -- ---- what it leaves

    -- an undecided row that names a branch does so after
    names_on : (b z : BranchId) (r : RowNamesAnother f b z) → r.row.decision ≡ None → (w : RowNamesAnother g b z) × (w.row ≡ r.row)
    names_on b z r undecided = elim (cases_nat u.node b.node) [
      | inr other ↦ (record { node = r.node; up = (turn_elsewhere t.places t.commands f even u b.node other).0 ∙ r.up; row = r.row; found = r.found; names = r.names }, refl)
      | inl at ↦ (let both : Some k ≡ Some r.node = sym may.up ∙ subst (λ n. node_at f n ≡ Some r.node) (sym at) r.up in let same_node : k ≡ r.node = cc in
          let was : kept_row_at k b ≡ Some r.row = subst (λ (x : NodeState). kept_row_at x b ≡ Some r.row) (sym same_node) r.found in
          (record { node = d.after; up = subst (λ n. node_at g n ≡ Some d.after) at here; row = r.row; found = rows_stay p m brings_not step not_both b r.row was undecided; names = r.names }, refl))
    ]

    -- a branch that is live is live after, or leaves
    lives_on : (b : BranchId) → LivesAt f b → LivesAt g b ⊎ LeavesBy p m brings_not k.lives d b
    lives_on b x = elim (cases_nat u.node b.node) [
      | inr other ↦ inl (record { node = x.node; up = (turn_elsewhere t.places t.commands f even u b.node other).0 ∙ x.up; live = x.live; found = x.found })
      | inl at ↦ (let both : Some k ≡ Some x.node = sym may.up ∙ subst (λ n. node_at f n ≡ Some x.node) (sym at) x.up in let same_node : k ≡ x.node = cc in
          let was : live_at k b ≡ Some x.live = subst (λ (z : NodeState). live_at z b ≡ Some x.live) (sym same_node) x.found in
          elim (lives_stay p m brings_not step b (x.live, was)) [
            | inl stays ↦ inl (record { node = d.after; up = subst (λ n. node_at g n ≡ Some d.after) at here; live = stays.0; found = stays.1 })
            | inr leaves ↦ inr leaves
          ])
    ]

    -- What a branch that leaves does for one that it asked: it tells it a rollback, or it is in doubt and names it, or it decides.
    pub data Over (b z : BranchId) : Type 0 where
      Rolls : Flies is_rollback g b z → Over b z
      Doubts : (r : RowNamesAnother g b z) → r.row.decision ≡ None → Over b z
      Decides : RowNamesAnother g b z → Flies is_decision g b z → Over b z

    -- a branch was born in the turn, or was live before it
    abbrev pub OldOrNew : Live → Type 0
    OldOrNew l = ((x : Live) × (live_at k l.me ≡ Some x) × (x.parent ≡ l.parent)) ⊎ ((q : BranchId) → l.parent ≡ Some q → was_asked (said_in f) q l.me ≡ false)

    -- What is left to be shown of such a turn.
    pub record Leaves (R : ℕ → Type 0) : Type 0 where
      pub over : (b : BranchId) → LeavesBy p m brings_not k.lives d b → (z : BranchId) → was_asked (said_in f) b z ≡ true → exit (events_of t) z ≢ Some Quiet → Over b z
      pub seals : (x : KeptRow) → SealsBy p m brings_not x → R u.node → (e : BranchId) → x.toward ≡ Some e → Sought g x e
      pub points : is_point m.kind ≡ true → (s : KeptRow) → KeptIs (Began (births_of t)) s → s.me ≡ m.from → s.toward ≡ Some m.to → Sought g s m.to
      pub born : AllByRecursion OldOrNew d.after.lives

    unasked_still : (q z : BranchId) → was_asked (said_in f) q z ≡ false → (was_asked (said_in g) q z ≡ false) ⊎ LivesAt g q
    unasked_still q z never = by (was_asked (said_in g) q z) refl
      where
        by : (w : Bool) → was_asked (said_in g) q z ≡ w → (was_asked (said_in g) q z ≡ false) ⊎ LivesAt g q
        by false is = inl is
        by true is = elim (asked_split (said_in f) d.says q z (ap (λ said. was_asked said q z) (sym said_now) ∙ is)) [
          | inl old ↦ absurd (cc (never, old))
          | inr new ↦ (let live = askers_live p m step q z new in
              let at : q.node ≡ u.node = subst (λ (b : BranchId). b.node ≡ u.node) (item_is live_id k.lives q live.0.0 live.0.1) (all_found (λ (l : Live). l.me.node ≡ u.node) live_id k.lives q live.0.0 (ids_name_their_node t s_lawful u.node k may.up).lives live.0.1) in
              inr (record { node = d.after; up = subst (λ n. node_at g n ≡ Some d.after) (sym at) here; live = live.1.0; found = live.1.1 }))
        ]

    module _ (R : ℕ → Type 0) (now : Obliged R f) (leaves : Leaves R) where
      flies_on : (test : Kind → Bool) (a b : BranchId) → test m.kind ≡ false → Flies test f a b → Flies test g a b
      flies_on test a b not_it fly = elim (flown test a b fly) [
        | inl on ↦ on
        | inr taken_one ↦ (let it_does = taken_one.2 in absurd (cc (not_it, it_does)))
      ]

      no_rollback : is_rollback m.kind ≡ false
      no_rollback = by (is_rollback m.kind) refl
        where
          by : (w : Bool) → is_rollback m.kind ≡ w → is_rollback m.kind ≡ false
          by false is = is
          by true is = (let decides = rollback_decides m.kind is in absurd (cc (decides, no_decision)))

      decides_too : (a b : BranchId) → Flies is_rollback g a b → Flies is_decision g a b
      decides_too a b fly = (fly.0, fly.1, fly.2, fly.3, fly.4, rollback_decides fly.1.msg.kind fly.5)

      -- ---- live branches

      over_watched : (z q : BranchId) → Over q z → Watched g z q
      over_watched z q (Rolls fly) = Is_rolled fly
      over_watched z q (Doubts r undecided) = Up_names r
      over_watched z q (Decides r fly) = Up_names r

      unasked_watched : (z q : BranchId) → was_asked (said_in f) q z ≡ false → Watched g z q
      unasked_watched z q never = elim (unasked_still q z never) [ inl still ↦ Unasked still | inr live ↦ Up_lives live ]

      left_watched : (z q : BranchId) → exit (events_of t) z ≡ None → LeavesBy p m brings_not k.lives d q → Watched g z q
      left_watched z q unexited left = by (was_asked (said_in f) q z) refl
        where
          by : (w : Bool) → was_asked (said_in f) q z ≡ w → Watched g z q
          by false never = unasked_watched z q never
          by true asked = over_watched z q (leaves.over q left z asked (λ gone. absurd (cc (gone, unexited))))

      -- a row that names a live branch is undecided
      names_undecided : (z q : BranchId) → exit (events_of t) z ≡ None → (r : RowNamesAnother f q z) → r.row.decision ≡ None
      names_undecided z q unexited r =
          let rows = r.node.stored.durable.kept in
          let me : r.row.me ≡ q = item_is kept_row_id rows q r.row r.found in
          elim (names_so (events_of t) r.row (all_found (RowHolds (events_of t)) kept_row_id rows q r.row (rows_hold t s_lawful q.node r.node r.up) r.found).sealed z r.names) [
            | inl sealed ↦ (let left = sealed.1 in absurd (cc (left, unexited)))
            | inr on ↦ undecided_row t s_lawful q.node r.node r.up r.row (subst (λ b. kept_row_at r.node b ≡ Some r.row) (sym me) r.found) z on unexited
          ]

      watched_on : (z q : BranchId) → exit (events_of t) z ≡ None → Watched f z q → Watched g z q
      watched_on z q unexited (Asks_up fly) = Asks_up (flies_on is_ask z q no_ask fly)
      watched_on z q unexited (Is_rolled fly) = Is_rolled (flies_on is_rollback q z no_rollback fly)
      watched_on z q unexited (Up_lives x) = elim (lives_on q x) [ inl on ↦ Up_lives on | inr left ↦ left_watched z q unexited left ]
      watched_on z q unexited (Up_names r) = Up_names (names_on q z r (names_undecided z q unexited r)).0
      watched_on z q unexited (Unasked never) = unasked_watched z q never

      -- ---- undecided rows

      over_sought : (s : KeptRow) (e : BranchId) → Over e s.me → Sought g s e
      over_sought s e (Rolls fly) = Is_told (decides_too e s.me fly)
      over_sought s e (Doubts r undecided) = In_doubt r undecided
      over_sought s e (Decides r fly) = Is_told fly

      sought_on : (s : KeptRow) → KeptIs (Began (births_of t)) s → (n : ℕ) → exit (events_of t) s.me ≡ Some (Sealed n) → (e : BranchId) → s.toward ≡ Some e → Sought f s e → Sought g s e
      sought_on s born n sealed e toward (Asks fly) = Asks (flies_on is_ask s.me e no_ask fly)
      sought_on s born n sealed e toward (Points fly) = elim (flown is_point s.me e fly) [
        | inl on ↦ Points on
        | inr that ↦ subst (Sought g s) that.1 (leaves.points that.2 s born (sym that.0) (toward ∙ ap Some (sym that.1)))
      ]
      sought_on s born n sealed e toward (Is_told fly) = Is_told (flies_on is_decision e s.me no_decision fly)
      sought_on s born n sealed e toward (In_doubt r undecided) = (let on = names_on e s.me r undecided in In_doubt on.0 (ap (λ (w : KeptRow). w.decision) on.1 ∙ undecided))
      sought_on s born n sealed e toward (Under_live l parent) = elim (lives_on e l) [
        | inl on ↦ Under_live on parent
        | inr left ↦ over_sought s e (leaves.over e left s.me (asked_above t s_lawful s born n sealed e parent) (λ gone. absurd (cc (gone, sealed))))
      ]

      -- ---- all of them

      abbrev RowSo : Facts → KeptRow → Type 0
      RowSo x s = s.decision ≡ None → (e : BranchId) → s.toward ≡ Some e → Sought x s e

      abbrev LiveSo : Facts → Live → Type 0
      LiveSo x l = (q : BranchId) → l.parent ≡ Some q → Watched x l.me q

      abbrev RowHere : KeptRow → Type 0
      RowHere s = (RowIs (events_of t) s × KeptIs (Began (births_of t)) s) × RowSo f s

      row_on : (s : KeptRow) → RowHere s → RowSo g s
      row_on s so undecided e toward = sought_on s so.0.1 s.scn (subst (IsKnown (events_of t) s) undecided so.0.0.known).0 e toward (so.1 undecided e toward)

      rows_now : (n : ℕ) (i : NodeState) → node_at f n ≡ Some i → AllByRecursion (RowSo f) i.stored.durable.kept → AllByRecursion RowHere i.stored.durable.kept
      rows_now n i up all =
          all_both _ _ i.stored.durable.kept (all_both _ _ i.stored.durable.kept (nodes_are_as_events t s_lawful n i up).1 (nodes_name_the_born t s_lawful n i up).1) all

      own_rows : R u.node → AllByRecursion (RowSo g) d.after.stored.durable.kept
      own_rows r = all_weaker (StoodOrSeals p m brings_not k) (RowSo g) own d.after.stored.durable.kept stood
        where
          stood : AllByRecursion (StoodOrSeals p m brings_not k) d.after.stored.durable.kept
          stood = rows_stood p m brings_not k step not_both (λ b s at undecided. at) (all_weaker _ _ (λ s at undecided. at) ks (rows_found t s_lawful u.node k may.up))

          own : (s : KeptRow) → StoodOrSeals p m brings_not k s → RowSo g s
          own s so undecided = elim (so undecided) [
            | inl was ↦ row_on s (all_found RowHere kept_row_id ks s.me s (rows_now u.node k may.up (now.rows u.node r k may.up)) was) undecided
            | inr seals ↦ leaves.seals s seals r
          ]

      own_lives : R u.node → AllByRecursion (LiveSo g) d.after.lives
      own_lives r = all_weaker OldOrNew (LiveSo g) own d.after.lives leaves.born
        where
          own : (l : Live) → OldOrNew l → LiveSo g l
          own l (inr new) q parent = unasked_watched l.me q (new q parent)
          own l (inl old) q parent =
              let me : old.0.me ≡ l.me = item_is live_id k.lives l.me old.0 old.1 in
              let was : LiveSo f old.0 = all_found (LiveSo f) live_id k.lives l.me old.0 (now.lives u.node r k may.up) old.1 in
              let unexited : exit (events_of t) old.0.me ≡ None = all_found (λ (x : Live). exit (events_of t) x.me ≡ None) live_id k.lives l.me old.0 (nodes_are_as_events t s_lawful u.node k may.up).0 old.1 in
              subst (λ b. Watched g b q) me (watched_on old.0.me q unexited (was q (old.2 ∙ parent)))

      rows_here : (n : ℕ) → R n → (j : NodeState) → node_at g n ≡ Some j → AllByRecursion (RowSo g) j.stored.durable.kept
      rows_here n r j up = elim (cases_nat u.node n) [
        | inl at ↦ (let both : Some d.after ≡ Some j = sym here ∙ subst (λ x. node_at g x ≡ Some j) (sym at) up in let its : d.after ≡ j = cc in
            subst (λ (x : NodeState). AllByRecursion (RowSo g) x.stored.durable.kept) its (own_rows (subst R (sym at) r)))
        | inr other ↦ (let upf : node_at f n ≡ Some j = sym (turn_elsewhere t.places t.commands f even u n other).0 ∙ up in
            all_weaker RowHere (RowSo g) row_on j.stored.durable.kept (rows_now n j upf (now.rows n r j upf)))
      ]

      lives_here : (n : ℕ) → R n → (j : NodeState) → node_at g n ≡ Some j → AllByRecursion (LiveSo g) j.lives
      lives_here n r j up = elim (cases_nat u.node n) [
        | inl at ↦ (let both : Some d.after ≡ Some j = sym here ∙ subst (λ x. node_at g x ≡ Some j) (sym at) up in let its : d.after ≡ j = cc in
            subst (λ (x : NodeState). AllByRecursion (LiveSo g) x.lives) its (own_lives (subst R (sym at) r)))
        | inr other ↦ (let upf : node_at f n ≡ Some j = sym (turn_elsewhere t.places t.commands f even u n other).0 ∙ up in
            all_weaker (λ l. (exit (events_of t) l.me ≡ None) × LiveSo f l) (LiveSo g) (λ l so q parent. watched_on l.me q so.0 (so.1 q parent)) j.lives
            (all_both _ _ j.lives (nodes_are_as_events t s_lawful n j upf).0 (now.lives n r j upf)))
      ]

      -- such a message leaves all so
      pub quiet_obliged : Obliged R g
      quiet_obliged = record { rows = rows_here; lives = lives_here }
