-- Where it is so of all nodes, nothing flies any more, and each live root works, nothing is in doubt.
use Rattle.std.proofs.Common.{◌≡◌, ◌≢◌, ℕ, zero, suc, ◌+◌, ◌<◌, ◌≤◌, Bool, true, false, List, [], Option, Some, None, inl, inr, refl, sym, ap, subst, ◌∙◌, arith, append-nil}
use Rattle.std.specs.List.{AllByRecursion}
use Rattle.tran_ids.proofs.ListedLemmas.{item_is}
use Rattle.agreement.specs.Events.{Sealed, exit}
use Rattle.agreement.proofs.Invariant.{Inv}
use Rattle.node_rules.specs.Data.{BranchId, Kind, Live, KeptRow}
use Rattle.node_rules.specs.Data.phases
use Rattle.node_rules.specs.NodeState.{NodeState, branch_at, live_at, live_id, kept_row_at, kept_row_id, with_work, work_at}
use Rattle.run_rules.specs.Births.{Born, born_at, births_of}
use Rattle.run_base_laws.specs.BirthLaws.{Began, KeptIs, LiveIs, StandsBelow}
use Rattle.run_rules.specs.Data.fates
use Rattle.run_base_laws.specs.EventRows.{RowIs, IsKnown}
use Rattle.run_rules.specs.Facts.{node_at}
use Rattle.run_base_laws.specs.FreezeLaws.{was_asked}
use Rattle.run_base_laws.specs.InTurnLaws.{said_in}
use Rattle.run_rules.specs.Lawful.{History, IsLawfulRun, facts_at}
use Rattle.run_base_laws.proofs.BirthRunLemmas.{nodes_name_the_born, births_are_trees}
use Rattle.run_base_laws.proofs.EventsStandLemmas.{nodes_are_as_events}
use Rattle.run_branch_laws.proofs.FreezeRunLemmas.{asked_stand_still}
use Rattle.run_base_laws.proofs.OwnLemmas.{all_found}
use Rattle.tree_laws.proofs.ForestRunLemmas.{runs_have_forests}
use Rattle.tree_laws.proofs.TimeLemmas.{Part}
use Rattle.commit_laws.proofs.NetLemmas.{numbered_all}
use Rattle.tree_laws.proofs.MoreLemmas.{inv_at}
use Rattle.tree_laws.proofs.FitRowLemmas.{RowFits, rows_fit}
use Rattle.settle_laws.specs.RowLaws.{RowHolds, NamesSo}
use Rattle.settle_laws.specs.Interval.{Flies, LivesAt, RowNamesAnother, Sought, Asks, Points, Is_told, In_doubt, Under_live, Watched, Asks_up, Is_rolled, Up_lives, Up_names, Unasked, Obliged}
use Rattle.settle_laws.specs.EndLaws.{NothingFlies, EachRootWorks, NothingInDoubt, ObligedAreSettled}
use Rattle.settle_laws.proofs.RowLemmas.{rows_hold, names_so}
use Rattle.settle_laws.proofs.UndecidedLemmas.{undecided_row, asked_above}
use Rattle.commit_forget_laws.proofs.FoundRowLemmas.{lives_found}
use Rattle.commit_forget_laws.proofs.FoundRowLemmas.{rows_found}
use Rattle.run_rules.proofs.ListLemmas.{all_weaker}
use Rattle.tree_laws.proofs.AtPart.{at_end}

module _ (t : History) (whole : IsLawfulRun t) (now : Obliged (λ n. Unit {0}) (facts_at t)) (still : NothingFlies (facts_at t)) (work : EachRootWorks (facts_at t)) where
  open at_end t use {f, e, forest as p}

  abbrev B : Born → Type 0
  B x = Began (births_of t) x

  part : Part t whole t.trace
  part = record { rest = []; is = append-nil t.trace }

  i : Inv p e
  i = inv_at t whole t.trace part

  none_flies : (test : Kind → Bool) (a b : BranchId) → Flies test f a b → ⊥
  none_flies test a b fly = numbered_all (λ x. x.fate ≢ fates.InFlight) f.net.packets fly.0 fly.1 still fly.2.sent fly.2.flying

  same_born : (x z : Born) → B x → B z → x.me ≡ z.me → x ≡ z
  same_born x z one other me = (let both : Some x ≡ Some z = sym one ∙ (ap (born_at (births_of t)) me ∙ other) in cc)

  below : (x : Born) → B x → StandsBelow B x x.parent
  below x began = by (births_of t) began (births_are_trees t whole)
    where
      by : (xs : List Born) → born_at xs x.me ≡ Some x → AllByRecursion (λ z. StandsBelow B z z.parent) xs → StandsBelow B x x.parent
      by xs found all = all_found (λ (z : Born). StandsBelow B z z.parent) (λ (z : Born). z.me) xs x.me x all found

  -- ---- a live branch

  module _ (n : ℕ) (k : NodeState) (up : node_at f n ≡ Some k) (l : Live) (found : live_at k l.me ≡ Some l) where
    unleft : exit e l.me ≡ None
    unleft = all_found (λ (x : Live). exit e x.me ≡ None) live_id k.lives l.me l (nodes_are_as_events t whole n k up).0 found

    born : LiveIs B l
    born = all_found (LiveIs B) live_id k.lives l.me l (nodes_name_the_born t whole n k up).0 found

    branch : branch_at k l.me ≡ Some (record { live = l; work = work_at k l.me })
    branch = ap (with_work k) found

    rules : (l.phase ≡ phases.Working → (c : BranchId) → was_asked (said_in f) l.me c ≡ false)
        × (l.phase ≢ phases.Working → (q : BranchId) → l.parent ≡ Some q → was_asked (said_in f) q l.me ≡ true)
    rules = (let both = asked_stand_still t whole n k up (record { live = l; work = work_at k l.me }) branch in (both.0, λ other q parent. ((both.1 other).1 q parent).0))

    -- one that asked is no root, and was asked
    asker : (c : BranchId) → was_asked (said_in f) l.me c ≡ true → (q : BranchId) × (l.parent ≡ Some q) × (was_asked (said_in f) q l.me ≡ true)
    asker c asked = by l.parent refl
      where
        not_working : l.phase ≡ phases.Working → ⊥
        not_working is = (let never = rules.0 is c in absurd (cc (never, asked)))

        by : (o : Option BranchId) → l.parent ≡ o → (q : BranchId) × (l.parent ≡ Some q) × (was_asked (said_in f) q l.me ≡ true)
        by None root = absurd (not_working (all_found (λ (x : Live). x.parent ≡ None → x.phase ≡ phases.Working) live_id k.lives l.me l (work n k up) found root))
        by (Some q) parent = (q, parent, rules.1 not_working q parent)

  -- no live branch was asked, where none was that is less deep
  one_unasked : (n : ℕ) (k : NodeState) → node_at f n ≡ Some k → (l : Live) → live_at k l.me ≡ Some l → (q : BranchId) → l.parent ≡ Some q → was_asked (said_in f) q l.me ≡ true
      → ((v : LivesAt f q) → v.live.depth + 1 ≡ l.depth → live_at v.node v.live.me ≡ Some v.live → (c : BranchId) → v.live.parent ≡ Some c → was_asked (said_in f) c v.live.me ≡ true → ⊥) → ⊥
  one_unasked n k up l found q parent asked again = by (all_found (λ (x : Live). (c : BranchId) → x.parent ≡ Some c → Watched f x.me c) live_id k.lives l.me l (now.lives n tt k up) found q parent)
    where
      place : LiveIs B l
      place = born n k up l found

      up_one : StandsBelow B place.born (Some q)
      up_one = subst (StandsBelow B place.born) (place.is_parent ∙ parent) (below place.born place.began)

      -- its parent is one less deep
      shallow : (v : LivesAt f q) → v.live.depth + 1 ≡ l.depth
      shallow v =
          let me : v.live.me ≡ q = item_is live_id v.node.lives q v.live v.found in
          let its : LiveIs B v.live = all_found (LiveIs B) live_id v.node.lives q v.live (nodes_name_the_born t whole q.node v.node v.up).0 v.found in
          let one : up_one.0 ≡ its.born = same_born up_one.0 its.born up_one.1 its.began (up_one.2 ∙ (sym me ∙ sym its.is_me)) in
          ap (λ x. x + 1) (sym its.is_depth ∙ ap (λ (x : Born). x.depth) (sym one)) ∙ (up_one.4 ∙ place.is_depth)

      -- the row of its parent names it, so it is toward there, and knows nothing
      named : RowNamesAnother f q l.me → ⊥
      named r =
          let me : r.row.me ≡ q = item_is kept_row_id r.node.stored.durable.kept q r.row r.found in
          let row : kept_row_at r.node r.row.me ≡ Some r.row = subst (λ b. kept_row_at r.node b ≡ Some r.row) (sym me) r.found in
          let names : NamesSo e r.row = names_so e r.row (all_found (RowHolds e) kept_row_id r.node.stored.durable.kept q r.row (rows_hold t whole q.node r.node r.up) r.found).sealed in
          elim (names l.me r.names) [
            | inl sealed ↦ (let left = sealed.1 in let live = unleft n k up l found in absurd (cc (live, left)))
            | inr on ↦ sought r row me on
                (all_found (λ (y : KeptRow). y.decision ≡ None → (c : BranchId) → y.toward ≡ Some c → Sought f y c) kept_row_id r.node.stored.durable.kept q r.row (now.rows q.node tt r.node r.up) r.found
                (undecided_row t whole q.node r.node r.up r.row row l.me on (unleft n k up l found)) l.me on)
          ]
        where
          sought : (r : RowNamesAnother f q l.me) → kept_row_at r.node r.row.me ≡ Some r.row → r.row.me ≡ q → r.row.toward ≡ Some l.me → Sought f r.row l.me → ⊥
          sought r row me on (Asks fly) = none_flies _ r.row.me l.me fly
          sought r row me on (Points fly) = none_flies _ r.row.me l.me fly
          sought r row me on (Is_told fly) = none_flies _ l.me r.row.me fly
          sought r row me on (In_doubt w undecided) =
              let its : RowIs e w.row = all_found (RowIs e) kept_row_id w.node.stored.durable.kept l.me w.row (nodes_are_as_events t whole l.me.node w.node w.up).1 w.found in
              its.left (ap (exit e) (item_is kept_row_id w.node.stored.durable.kept l.me w.row w.found) ∙ unleft n k up l found)
          sought r row me on (Under_live v parent_of) =
              -- it would be the parent of its parent
              let its : KeptIs B r.row = all_found (KeptIs B) kept_row_id r.node.stored.durable.kept q r.row (nodes_name_the_born t whole q.node r.node r.up).1 r.found in
              let over : StandsBelow B its.born (Some l.me) = subst (StandsBelow B its.born) (its.is_parent ∙ parent_of) (below its.born its.began) in
              let one : up_one.0 ≡ its.born = same_born up_one.0 its.born up_one.1 its.began (up_one.2 ∙ (sym me ∙ sym its.is_me)) in
              let two : over.0 ≡ place.born = same_born over.0 place.born over.1 place.began (over.2 ∙ sym place.is_me) in
              let down : up_one.0.depth + 1 ≡ place.born.depth = up_one.4 in
              let around : place.born.depth + 1 ≡ up_one.0.depth = ap (λ (x : Born). x.depth + 1) (sym two) ∙ (over.4 ∙ ap (λ (x : Born). x.depth) (sym one)) in
              absurd (omega (arith, down, around))

      by : Watched f l.me q → ⊥
      by (Asks_up fly) = none_flies _ l.me q fly
      by (Is_rolled fly) = none_flies _ q l.me fly
      by (Unasked never) = absurd (cc (never, asked))
      by (Up_names r) = named r
      by (Up_lives v) =
          let me : v.live.me ≡ q = item_is live_id v.node.lives q v.live v.found in
          let its : live_at v.node v.live.me ≡ Some v.live = subst (λ b. live_at v.node b ≡ Some v.live) (sym me) v.found in
          let above = asker q.node v.node v.up v.live its l.me (subst (λ b. was_asked (said_in f) b l.me ≡ true) (sym me) asked) in
          again v (shallow v) its above.0 above.1 above.2

  unasked : (fuel : ℕ) (n : ℕ) (k : NodeState) → node_at f n ≡ Some k → (l : Live) → live_at k l.me ≡ Some l → l.depth ≤ fuel → (q : BranchId) → l.parent ≡ Some q → was_asked (said_in f) q l.me ≡ true → ⊥
  unasked zero n k up l found low q parent asked = one_unasked n k up l found q parent asked (λ v at its c above told. absurd (omega (arith, at, low)))
  unasked (suc w) n k up l found low q parent asked = one_unasked n k up l found q parent asked (λ v at its c above told. unasked w q.node v.node v.up v.live its (omega (arith, at, low)) c above told)

  -- ---- an undecided row

  -- no row is undecided, where none is that is nearer to the site
  one_decided : (n : ℕ) (k : NodeState) → node_at f n ≡ Some k → (s : KeptRow) → kept_row_at k s.me ≡ Some s → s.decision ≡ None
      → ((c : BranchId) (r : RowNamesAnother f c s.me) → r.row.decision ≡ None → p.far c < p.far s.me → ⊥) → ⊥
  one_decided n k up s row undecided again = by s.toward refl way
    where
      way : RowFits p s.me s.toward
      way = all_found (λ (y : KeptRow). RowFits p y.me y.toward) kept_row_id k.stored.durable.kept s.me s (rows_fit t whole t.trace part n k up) row

      sealed : exit e s.me ≡ Some (Sealed s.scn)
      sealed = (subst (IsKnown e s) undecided (all_found (RowIs e) kept_row_id k.stored.durable.kept s.me s (nodes_are_as_events t whole n k up).1 row).known).0

      its : KeptIs B s
      its = all_found (KeptIs B) kept_row_id k.stored.durable.kept s.me s (nodes_name_the_born t whole n k up).1 row

      sought : (c : BranchId) → p.far c < p.far s.me → Sought f s c → ⊥
      sought c near (Asks fly) = none_flies _ s.me c fly
      sought c near (Points fly) = none_flies _ s.me c fly
      sought c near (Is_told fly) = none_flies _ c s.me fly
      sought c near (In_doubt r none_known) = again c r none_known near
      sought c near (Under_live v parent) =
          let me : v.live.me ≡ c = item_is live_id v.node.lives c v.live v.found in
          let live : live_at v.node v.live.me ≡ Some v.live = subst (λ b. live_at v.node b ≡ Some v.live) (sym me) v.found in
          let above = asker c.node v.node v.up v.live live s.me (subst (λ b. was_asked (said_in f) b s.me ≡ true) (sym me) (asked_above t whole s its s.scn sealed c parent)) in
          unasked v.live.depth c.node v.node v.up v.live live (omega arith) above.0 above.1 above.2

      by : (o : Option BranchId) → s.toward ≡ o → RowFits p s.me s.toward → ⊥
      by None none (inl on) = (let some = on.0 in absurd (cc (none, some)))
      by None none (inr site) = (i.sealed_in s.me s.scn sealed).1 site.1
      by (Some c) toward (inr site) = (let none = site.0 in absurd (cc (none, toward)))
      by (Some c) toward (inl on) =
          let both : Some (p.toward s.me) ≡ Some c = sym on.0 ∙ toward in
          let it : p.toward s.me ≡ c = cc in
          sought c (subst (λ b. p.far b < p.far s.me) it ((runs_have_forests t whole).nearer s.me on.1 on.2))
          (all_found (λ (y : KeptRow). y.decision ≡ None → (b : BranchId) → y.toward ≡ Some b → Sought f y b) kept_row_id k.stored.durable.kept s.me s (now.rows n tt k up) row undecided c toward)

  decided : (fuel : ℕ) (n : ℕ) (k : NodeState) → node_at f n ≡ Some k → (s : KeptRow) → kept_row_at k s.me ≡ Some s → s.decision ≡ None → p.far s.me ≤ fuel → ⊥
  decided zero n k up s row undecided low = one_decided n k up s row undecided (λ c r none_known near. absurd (omega (arith, near, low)))
  decided (suc w) n k up s row undecided low = one_decided n k up s row undecided (λ c r none_known near.
      (let me : r.row.me ≡ c = item_is kept_row_id r.node.stored.durable.kept c r.row r.found in
      decided w c.node r.node r.up r.row (subst (λ b. kept_row_at r.node b ≡ Some r.row) (sym me) r.found) none_known (subst (λ b. p.far b ≤ w) (sym me) (omega (arith, near, low)))))

  pub nothing_in_doubt : NothingInDoubt f
  nothing_in_doubt n k up = (
    all_weaker _ (λ l. (q : BranchId) → l.parent ≡ Some q → was_asked (said_in f) q l.me ≡ false) (λ l found q parent. by (was_asked (said_in f) q l.me) refl (unasked l.depth n k up l found (omega arith) q parent)) k.lives (lives_found t whole n k up),
    all_weaker _ (λ s. s.decision ≢ None) (λ s found undecided. decided (p.far s.me) n k up s found undecided (omega arith)) k.stored.durable.kept (rows_found t whole n k up),
  )
    where
      by : (w : Bool) {x : Bool} → x ≡ w → (x ≡ true → ⊥) → x ≡ false
      by false is no_such = is
      by true is no_such = absurd (no_such is)

pub obliged_are_settled : ObligedAreSettled
obliged_are_settled t whole now still work = nothing_in_doubt t whole now still work
