-- Where all messages of a transaction came, no node has stopped, and each of its seals has ended with commit, no node keeps a row
-- of it: each branch forgot, the nearest to the site first.
use Rattle.std.proofs.Common.{◌≡◌, ◌≢◌, ℕ, zero, suc, ◌<◌, ◌≤◌, ◌⊎◌, true, Option, Some, None, inl, inr, refl, sym, ap, subst, ◌∙◌, arith}
use Rattle.tran_ids.proofs.ListedLemmas.{item_is}
use Rattle.agreement.specs.Events.{Sealed, Decided, Forget, Beyond, exit, Has, site_of}
use Rattle.agreement.proofs.Invariant.{Inv}
use Rattle.node_rules.specs.Data.{BranchId, Live, KeptRow}
use Rattle.node_rules.specs.Data.decisions
use Rattle.node_rules.specs.NodeState.{NodeState, live_id, live_at, kept_row_at}
use Rattle.node_rules.specs.Turn.{Is_gone, status_of}
use Rattle.run_rules.specs.Births.{Born, born_id}
use Rattle.run_base_laws.specs.BirthLaws.{Began}
use Rattle.run_base_laws.specs.EventRows.{IsKeptIn}
use Rattle.run_base_laws.specs.NodeLaws.{unacked_row}
use Rattle.run_branch_laws.proofs.KeptRowLemmas.{any_map}
use Rattle.run_base_laws.proofs.NodesStandLemmas.{stored_rows}
use Rattle.run_base_laws.proofs.StoredLemmas.{records_are_kept}
use Rattle.run_rules.specs.Facts.{node_at}
use Rattle.run_rules.specs.Lawful.{History, IsLawfulRun}
use Rattle.run_branch_laws.specs.WalkLaws.{was_sent}
use Rattle.run_base_laws.proofs.EventsStandLemmas.{nodes_are_as_events}
use Rattle.run_branch_laws.proofs.GoneLemmas.{kept_not_gone}
use Rattle.run_rules.proofs.ListLemmas.{all_weaker, all_map, all_filter}
use Rattle.run_base_laws.proofs.OwnLemmas.{all_found}
use Rattle.tree_laws.proofs.ForestLemmas as trees
use Rattle.tree_laws.proofs.ForestRunLemmas.{runs_have_forests}
use Rattle.commit_laws.specs.WaitLaws.{NodeHasStopped}
use Rattle.commit_laws.proofs.StillLemmas.{all_came}
use Rattle.commit_forget_laws.specs.RowLaws.{IsSealed}
use Rattle.commit_forget_laws.specs.ForgetLaws.{is_forgotten}
use Rattle.commit_forget_laws.specs.GoneLaws.{AllEnded, RowsAreGone, EndedRowsGo, EndedBranchesGo, UndisturbedRowsGo}
use Rattle.run_claims.specs.Undisturbed.{branches_in, stand_at}
use Rattle.std.specs.Prelude.{option_map, filter}
use Rattle.tran_ids.proofs.BranchLemmas.{equal_from_same}
use Rattle.node_rules.specs.Words.{same}
use Rattle.std.specs.List.{AllByRecursion}
use Rattle.commit_forget_laws.proofs.DecidedEndLemmas.{decided_end}
use Rattle.commit_forget_laws.proofs.ForgottenHeardLemmas.{forgottens_are_heard}
use Rattle.tree_laws.proofs.MoreLemmas.{events_lawful}
use Rattle.commit_forget_laws.proofs.EventLemmas.{learn_knows}
use Rattle.commit_forget_laws.proofs.ForgetRunLemmas.{forgets_are_told}
use Rattle.commit_forget_laws.proofs.FoundRowLemmas.{births_found, rows_found}
use Rattle.commit_forget_laws.proofs.NearLemmas.{gone_so, none_live}
use Rattle.commit_forget_laws.proofs.AckedLemmas as acked
use Rattle.tree_laws.proofs.AtPart.{at_end}

module _ (t : History) (whole : IsLawfulRun t) (root : BranchId) (ended : AllEnded t root) where
  open at_end t use {f, e, forest as p, bs, said}

  abbrev Of : BranchId → Type 0
  Of x = acked.Of t whole root ended x

  i : Inv p e
  i = acked.i t whole root ended

  known : trees.Known bs said
  known = acked.known t whole root ended

  up_at : (x : BranchId) → Of x → (k : NodeState) × (node_at f x.node ≡ Some k)
  up_at x of = acked.up_at t whole root ended x of

  -- ---- all forgot, the nearest first

  -- a row by the records is one that the node keeps
  kept_row : (y : BranchId) (of : Of y) → IsKeptIn y (stored_rows f y.node) → IsKeptIn y (up_at y of).0.stored.durable.kept
  kept_row y of row =
      let k : NodeState = (up_at y of).0 in
      sym (any_map y unacked_row (λ z. refl) k.stored.durable.kept) ∙ subst (λ z. IsKeptIn y z.durable.kept) (sym (records_are_kept t whole y.node k (up_at y of).1)) row

  -- the site has
  decided_forgot : (y b : BranchId) → Of y → (n : ℕ) → exit e y ≡ Some (Decided n) → Beyond p b y → IsSealed e b → Has (Forget y) e
  decided_forgot y b of n decided edge sealed = by (kept_row_at (up_at y of).0 y) refl
    where
      is_live : live_at (up_at y of).0 y ≡ None
      is_live = by_live (live_at (up_at y of).0 y) refl
        where
          by_live : (o : Option Live) → live_at (up_at y of).0 y ≡ o → o ≡ None
          by_live None is = refl
          by_live (Some l) is =
              let none : exit e l.me ≡ None = all_found (λ (z : Live). exit e z.me ≡ None) live_id (up_at y of).0.lives y l (nodes_are_as_events t whole y.node (up_at y of).0 (up_at y of).1).0 is in
              let mine : exit e y ≡ None = subst (λ z. exit e z ≡ None) (item_is live_id (up_at y of).0.lives y l is) none in
              absurd (cc (mine, decided))

      by : (o : Option KeptRow) → kept_row_at (up_at y of).0 y ≡ o → Has (Forget y) e
      by (Some r) found =
          let row = acked.row_of t whole root ended y.node (up_at y of).0 (up_at y of).1 y of r found in
          let told = acked.said_ack t whole root ended y.node (up_at y of).0 (up_at y of).1 r row.0 row.1 (acked.all_have t whole root ended y.node (up_at y of).0 (up_at y of).1 r row.0 row.1) in
          absurd (told.0 (subst (λ z. z ≡ site_of p z) (sym row.2) (i.decided_at y n decided)))
      by None none = elim (decided_end t whole y n decided) [
        | inl row ↦ absurd (kept_not_gone (up_at y of).0 y (kept_row y of row) (gone_so (up_at y of).0 y (none_live (up_at y of).0 y is_live) none))
        | inr rest ↦ elim rest [
          | inl done ↦ elim done [ inl rolled ↦ (let it = (i.learned_sealed y decisions.Rollback rolled).1 in absurd (cc (it, decided))) | inr forgot ↦ forgot ]
          | inr alone ↦ (let quiet = alone b edge in let its_seal = sealed.1 in absurd (cc (quiet, its_seal)))
        ]
      ]

  -- each other branch has, once its neighbour on the way to the site has
  one_forgot : (b : BranchId) (of : Of b) (m : ℕ) → exit e b ≡ Some (Sealed m) → ((y : BranchId) → Of y → (j : ℕ) → exit e y ≡ Some (Sealed j) → p.far y < p.far b → Has (Forget y) e) → Has (Forget b) e
  one_forgot b of m sealed nearer = elim (forgets_are_told t whole y forgot_y) [
    | inr stopped ↦ absurd (acked.up_still t whole root ended y of_y stopped)
    | inl told ↦ elim (told b edge_b) [
      | inr quiet ↦ absurd (cc (quiet, sealed))
      | inl sent ↦ heard sent
    ]
  ]
    where
      y : BranchId
      y = p.toward b

      within : (p.member b ≡ true) × (b ≢ site_of p b)
      within = i.sealed_in b m sealed

      edge_b : Beyond p b y
      edge_b = record { member = within.0; not_site = within.1; next = refl }

      of_y : Of y
      of_y =
          let it = trees.member_is bs said known y ((runs_have_forests t whole).inward b within.0 within.1) in
          (it.born, it.began, it.is_me, sym (trees.root_is bs said known it.born y it.began it.is_me) ∙ ((runs_have_forests t whole).of_one b within.0 within.1 ∙ acked.root_of t whole root ended b of))

      forgot_y : Has (Forget y) e
      forgot_y =
          let learnt = acked.learns t whole root ended b of m sealed in
          elim (learn_knows p e (events_lawful t whole) b learnt.0 learnt.1) [
            | inl decided ↦ decided_forgot y b of_y learnt.0 decided edge_b (m, sealed)
            | inr learnt_y ↦ (let sealed_y = i.learned_sealed y (decisions.Commit learnt.0) learnt_y in nearer y of_y sealed_y.0 sealed_y.1 ((runs_have_forests t whole).nearer b within.0 within.1))
          ]

      heard : was_sent is_forgotten said y b ≡ true → Has (Forget b) e
      heard sent =
          let it = acked.came t whole root ended is_forgotten (λ z. Beyond p z.to z.from → IsSealed e z.to → Has (Forget z.to) e ⊎ NodeHasStopped f z.to) y b of_y (forgottens_are_heard t whole) sent in
          let law = it.3 (subst (λ z. Beyond p z it.0.from) (sym it.2) (subst (Beyond p b) (sym it.1) edge_b)) (subst (IsSealed e) (sym it.2) (m, sealed)) in
          elim (subst (λ z. Has (Forget z) e ⊎ NodeHasStopped f z) it.2 law) [ inl forgot ↦ forgot | inr stopped ↦ absurd (acked.up_still t whole root ended b of stopped) ]

  forgot_by_far : (fuel : ℕ) (b : BranchId) → Of b → (m : ℕ) → exit e b ≡ Some (Sealed m) → p.far b ≤ fuel → Has (Forget b) e
  forgot_by_far zero b of m sealed low = one_forgot b of m sealed (λ y of_y j sealed_y near. absurd (omega (arith, low, near)))
  forgot_by_far (suc fuel) b of m sealed low = one_forgot b of m sealed (λ y of_y j sealed_y near. forgot_by_far fuel y of_y j sealed_y (omega (arith, low, near)))

  -- ---- so no row is left

  none_left : (n : ℕ) (k : NodeState) (up : node_at f n ≡ Some k) (s : KeptRow) → kept_row_at k s.me ≡ Some s → s.root ≡ root → ⊥
  none_left n k up s at of_root = elim (acked.left t whole root ended n k up s at of_root) [
    | inl sealed ↦ acked.never_forgot t whole root ended n k up s at of_root (forgot_by_far (p.far s.me) s.me (acked.of_row t whole root ended n k up s at of_root) sealed.0 sealed.1 (omega arith))
    | inr decided ↦ (acked.said_ack t whole root ended n k up s at of_root (acked.all_have t whole root ended n k up s at of_root)).0 (i.decided_at s.me decided.0 decided.1)
  ]

  gone_now : (b : Born) → Began bs b → b.root ≡ root → (k : NodeState) → node_at f b.me.node ≡ Some k → live_at k b.me ≡ None → status_of k b.me ≡ Is_gone
  gone_now b began of k up none = by (kept_row_at k b.me) refl
    where
      by : (o : Option KeptRow) → kept_row_at k b.me ≡ o → status_of k b.me ≡ Is_gone
      by None row = gone_so k b.me (none_live k b.me none) row
      by (Some s) row = (let its_row = acked.row_of t whole root ended b.me.node k up b.me (b, began, refl, of) s row in absurd (none_left b.me.node k up s its_row.0 its_row.1))

  pub rows_gone : RowsAreGone t root
  rows_gone = record {
    rows = λ n k up. all_weaker _ _ (λ s found of_root. none_left n k up s found of_root) k.stored.durable.kept (rows_found t whole n k up);
    gone = gone_now;
  }

  -- none of its branches is known, where none is live
  module _ (left_all : (b : Born) → Began bs b → b.root ≡ root → (k : NodeState) → node_at f b.me.node ≡ Some k → live_at k b.me ≡ None) where
    is_gone_at : (b : Born) → Began bs b → b.root ≡ root → stand_at f b.me ≡ Some Is_gone
    is_gone_at b began of =
        let at = up_at b.me (b, began, refl, of) in
        ap (λ o. option_map (λ (k : NodeState). status_of k b.me) o) at.1 ∙ ap Some (gone_now b began of at.0 at.1 (left_all b began of at.0 at.1))

    pub branches_gone : AllByRecursion (λ b. stand_at f b ≡ Some Is_gone) (branches_in bs root)
    branches_gone =
        all_map (λ b. stand_at f b ≡ Some Is_gone) born_id (filter (λ x. same x.root root) bs)
        (all_filter (λ x. Began bs x) (λ x. stand_at f x.me ≡ Some Is_gone) (λ x. same x.root root) (λ x passes began. is_gone_at x began (equal_from_same x.root root passes)) bs (births_found t whole))

pub ended_rows_go : EndedRowsGo
ended_rows_go t whole root ended = rows_gone t whole root ended

pub undisturbed_rows_go : UndisturbedRowsGo
undisturbed_rows_go t whole c undisturbed dropped ended =
    let all = all_came t whole c undisturbed dropped in
    rows_gone t whole c.root (record { messages = all.messages; up = all.up; ended = ended })

pub ended_branches_go : EndedBranchesGo
ended_branches_go t whole root ended left_all = branches_gone t whole root ended left_all
