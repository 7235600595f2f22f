-- What the rows of a node know, its records say: a branch tells Committed only where a record of its node says that commit.
use Rattle.std.proofs.Common.{◌≡◌, ℕ, not, Bool, true, false, if◌then◌else◌, List, [], ◌∷◌, ◌++◌, Option, Some, None, inl, inr, refl, sym, subst, ◌∙◌}
use Rattle.std.specs.Prelude.{◌⊎◌}
use Rattle.std.specs.Option.{option_to_list}
use Rattle.std.specs.List.{AllByRecursion}
use Rattle.tran_ids.proofs.BranchLemmas.{equal_from_same}
use Rattle.tran_ids.specs.Branch.{branch_below}
use Rattle.redo_record.specs.Kept.{stands_at, add_kept, ended_commit, forced_state, in_state, met_as, forgot_as, is_done, hidden_as, kept_after}
use Rattle.redo_record.specs.Durable.{durable_after}
use Rattle.redo_record.specs.Rows.{sealed_as, decided_as, has_neighbors}
use Rattle.node_rules.specs.Data.{BranchId, Decision, Kind, RedoRecord, KeptRow, Place}
use Rattle.node_rules.specs.Data.decisions
use Rattle.node_rules.specs.Data.kinds
use Rattle.node_rules.specs.Data.params
use Rattle.node_rules.specs.Data.records
use Rattle.node_rules.specs.Words.{change_where, drop_where}
use Rattle.node_rules.specs.NodeState.{NodeState, Stored}
use Rattle.node_rules.specs.Records.{applied, nothing_stored, stored_by}
use Rattle.node_rules.specs.Turn.{draft_of}
use Rattle.run_rules.specs.Data.{Turn, Happening, Command}
use Rattle.run_rules.specs.Data.happenings
use Rattle.run_rules.specs.Facts.{Facts, place_at, records_at}
use Rattle.run_rules.specs.Lawful.{MayHappen}
use Rattle.run_rules.specs.BranchRecords.{Commits, CommitIsRecorded}
use Rattle.run_base_laws.specs.NodeLaws.{KnowsAt, CommitsNow, MayTell, TellsRecorded, TellsRecords, CommitsAreRecorded}
use Rattle.run_rules.proofs.ListLemmas.{all_weaker}
use Rattle.run_base_laws.proofs.LawfulLemmas.{Serves, of_sent, serves}
use Rattle.run_base_laws.proofs.NodeLemmas.{NodesAre, each_of_nodes}
use Rattle.run_base_laws.proofs.StoredLemmas.{StoresOf, stores}
use Rattle.run_base_laws.proofs.TellLemmas.{known_unacked, turn_tells}

module _ (b : BranchId) (n : ℕ) where
  -- a row knows it
  abbrev Knows : KeptRow → Type 0
  Knows s = (s.me ≡ b) × (s.decision ≡ Some (decisions.Commit n))

  -- behind one more row
  further : {Q : Type 0} (x : KeptRow) (xs : List KeptRow) → KnowsAt xs b n ⊎ Q → KnowsAt (x ∷ xs) b n ⊎ Q
  further x xs (inl there) = inl (inr there)
  further x xs (inr new) = inr new

  -- ---- rows that are changed, left out or put in

  changed_if : {Q : Type 0} (c : BranchId) (g : KeptRow → KeptRow) → ((x : KeptRow) → x.me ≡ c → Knows (g x) → Knows x ⊎ Q)
      → (here : Bool) (x : KeptRow) (xs ys : List KeptRow) → stands_at c x ≡ here → (KnowsAt ys b n → KnowsAt xs b n ⊎ Q) → KnowsAt ((if here then g x else x) ∷ ys) b n
      → KnowsAt (x ∷ xs) b n ⊎ Q
  changed_if c g old true x xs ys is rest (inl here) = elim (old x (equal_from_same x.me c is) here) [ inl it ↦ inl (inl it) | inr new ↦ inr new ]
  changed_if c g old false x xs ys is rest (inl here) = inl (inl here)
  changed_if c g old true x xs ys is rest (inr there) = further x xs (rest there)
  changed_if c g old false x xs ys is rest (inr there) = further x xs (rest there)

  known_changed : {Q : Type 0} (c : BranchId) (g : KeptRow → KeptRow) → ((x : KeptRow) → x.me ≡ c → Knows (g x) → Knows x ⊎ Q) → (xs : List KeptRow)
      → KnowsAt (change_where (stands_at c) g xs) b n → KnowsAt xs b n ⊎ Q
  known_changed c g old [] knows = absurd knows
  known_changed c g old (x ∷ xs) knows = changed_if c g old (stands_at c x) x xs (change_where (stands_at c) g xs) refl (known_changed c g old xs) knows

  left_if : (stays : Bool) (x : KeptRow) (xs ys : List KeptRow) → (KnowsAt ys b n → KnowsAt xs b n) → KnowsAt (if stays then x ∷ ys else ys) b n → KnowsAt (x ∷ xs) b n
  left_if true x xs ys rest (inl here) = inl here
  left_if true x xs ys rest (inr there) = inr (rest there)
  left_if false x xs ys rest knows = inr (rest knows)

  known_left : (p : KeptRow → Bool) (xs : List KeptRow) → KnowsAt (drop_where p xs) b n → KnowsAt xs b n
  known_left p [] knows = knows
  known_left p (x ∷ xs) knows = left_if (not (p x)) x xs (drop_where p xs) (known_left p xs) knows

  put_if : (first : Bool) (x y : KeptRow) (ys put : List KeptRow) → (KnowsAt put b n → KnowsAt ys b n ⊎ Knows x) → KnowsAt (if first then x ∷ y ∷ ys else y ∷ put) b n
      → KnowsAt (y ∷ ys) b n ⊎ Knows x
  put_if true x y ys put rest (inl here) = inr here
  put_if true x y ys put rest (inr there) = inl there
  put_if false x y ys put rest (inl here) = inl (inl here)
  put_if false x y ys put rest (inr there) = further y ys (rest there)

  known_put : (ys : List KeptRow) (x : KeptRow) → KnowsAt (add_kept ys x) b n → KnowsAt ys b n ⊎ Knows x
  known_put [] x (inl here) = inr here
  known_put [] x (inr there) = absurd there
  known_put (y ∷ ys) x knows = put_if (branch_below x.me y.me) x y ys (add_kept ys x) (known_put ys x) knows

  decided_if : (kept : Bool) (ks : List KeptRow) (x : KeptRow) → KnowsAt (if kept then add_kept ks x else ks) b n → KnowsAt ks b n ⊎ Knows x
  decided_if true ks x knows = known_put ks x knows
  decided_if false ks x knows = inl knows

  -- ---- records

  the_commit : (d : Decision) → Some d ≡ Some (decisions.Commit n) → d ≡ decisions.Commit n
  the_commit d is = cc

  -- a row that knows more knows it by the record
  known_after : (ks : List KeptRow) (r : RedoRecord) → KnowsAt (kept_after ks r) b n → KnowsAt ks b n ⊎ Commits b n r
  unfolding kept_after
  known_after ks (records.Sealed r) knows = elim (known_put ks (sealed_as r) knows) [ inl old ↦ inl old | inr new ↦ (let none : None ≡ Some (decisions.Commit n) = new.1 in absurd cc) ]
  known_after ks (records.Decided r) knows =
      elim (decided_if (has_neighbors (decided_as r)) ks (decided_as r) knows)
      [ inl old ↦ inl old | inr new ↦ inr (new.0, (let it : Some (decisions.Commit r.scn) ≡ Some (decisions.Commit n) = new.1 in cc)) ]
  known_after ks (records.Ended c (decisions.Commit m)) knows = known_changed c (ended_commit m) (λ x me new. inr (sym me ∙ new.0, the_commit (decisions.Commit m) new.1)) ks knows
  known_after ks (records.Ended c decisions.Rollback) knows = inl (known_left (stands_at c) ks knows)
  known_after ks (records.Forced c d given) knows = known_changed c (in_state (forced_state d)) (λ x me new. inl new) ks knows
  known_after ks (records.Met c d true) knows = known_changed c (met_as d true) (λ x me new. inr (sym me ∙ new.0, the_commit d new.1)) ks knows
  known_after ks (records.Met c (decisions.Commit m) false) knows = known_changed c (met_as (decisions.Commit m) false) (λ x me new. inr (sym me ∙ new.0, the_commit (decisions.Commit m) new.1)) ks knows
  known_after ks (records.Met c decisions.Rollback false) knows = inl (known_left (stands_at c) ks knows)
  known_after ks (records.Forgot c) knows = elim (known_changed c forgot_as (λ x me new. inl new) (drop_where (is_done c) ks) knows) [ inl old ↦ inl (known_left (is_done c) ks old) | inr new ↦ inr new ]
  known_after ks (records.Hidden c) knows = known_changed c hidden_as (λ x me new. inl new) ks knows
  known_after ks _ knows = inl knows

  known_applied : (s : Stored) (r : RedoRecord) → KnowsAt (applied s r).durable.kept b n → KnowsAt s.durable.kept b n ⊎ Commits b n r
  unfolding applied durable_after
  known_applied s (records.Boot m) knows = inl knows
  known_applied s (records.Table t) knows = inl knows
  known_applied s (records.Link l) knows = inl knows
  known_applied s (records.Synonym y) knows = inl knows
  known_applied s (records.Param (params.Recovery on)) knows = inl knows
  known_applied s (records.Param (params.Strength strength)) knows = inl knows
  known_applied s r knows = known_after s.durable.kept r knows

  known_by_if : (s : Stored) (r : RedoRecord) (rs : List RedoRecord) → KnowsAt (applied s r).durable.kept b n ⊎ CommitIsRecorded rs b n → KnowsAt s.durable.kept b n ⊎ CommitIsRecorded (r ∷ rs) b n
  known_by_if s r rs (inl known) = elim (known_applied s r known) [ inl old ↦ inl old | inr new ↦ inr (inl new) ]
  known_by_if s r rs (inr later) = inr (inr later)

  -- and by some record
  known_by : (s : Stored) (rs : List RedoRecord) → KnowsAt (stored_by s rs).durable.kept b n → KnowsAt s.durable.kept b n ⊎ CommitIsRecorded rs b n
  unfolding stored_by
  known_by s [] knows = inl knows
  known_by s (r ∷ rs) knows = known_by_if s r rs (known_by (applied s r) rs knows)

  -- what a node that is up knows, its records say
  pub known_recorded : (rs : List RedoRecord) (k : NodeState) → StoresOf rs k → KnowsAt k.stored.durable.kept b n → CommitIsRecorded rs b n
  known_recorded rs k stored knows =
      elim (known_by nothing_stored rs (subst (λ s. KnowsAt s.durable.kept b n) stored (known_unacked k.stored.durable.kept b n knows))) [ inl none ↦ absurd none | inr there ↦ there ]

  -- more records say it too
  recorded_before : (rs more : List RedoRecord) → CommitIsRecorded rs b n → CommitIsRecorded (rs ++ more) b n
  recorded_before [] more is = absurd is
  recorded_before (r ∷ rs) more (inl here) = inl here
  recorded_before (r ∷ rs) more (inr there) = inr (recorded_before rs more there)

  -- and the record of this turn
  recorded_last : (rs : List RedoRecord) (w : Option RedoRecord) → CommitsNow w b n → CommitIsRecorded (rs ++ option_to_list w) b n
  recorded_last rs None now = absurd now
  recorded_last [] (Some r) now = inl now
  recorded_last (x ∷ rs) (Some r) now = inr (recorded_last rs (Some r) now)

-- ---- turns

may_recorded : (rs : List RedoRecord) (k : NodeState) (w : Option RedoRecord) (b : BranchId) (kind : Kind) → StoresOf rs k → MayTell k.stored.durable.kept w b kind
    → TellsRecorded (rs ++ option_to_list w) b kind
may_recorded rs k w b (kinds.Committed n) stored (inl now) = recorded_last b n rs w now
may_recorded rs k w b (kinds.Committed n) stored (inr knows) = recorded_before b n rs (option_to_list w) (known_recorded b n rs k stored knows)
may_recorded rs k w b _ stored may = tt

turn_recorded : (rs : List RedoRecord) (k : NodeState) (u : Turn) (p : Place) → StoresOf rs k → Serves p k u
    → AllByRecursion (λ m. TellsRecorded (rs ++ option_to_list u.wrote) m.from m.kind) u.sent
turn_recorded rs k u p stored serving =
    of_sent p k u serving (λ w ms. AllByRecursion (λ m. TellsRecorded (rs ++ option_to_list w) m.from m.kind) ms) tt
    (all_weaker _ _ (λ m told. may_recorded rs k (draft_of p k u.input).wrote m.from m.kind stored told) _ (turn_tells p k u serving))

tells_records : (places : List Place) (asked : List Command) (f : Facts) (h : Happening) → NodesAre (λ p rs k. StoresOf rs k) places f → MayHappen places asked f h → TellsRecords places f h
tells_records places asked f (happenings.Turn u) nodes may = turn_recorded (records_at f u.node) may.0 u (place_at places u.node) (nodes u.node may.0 may.1.up) (serves places f u may.0 may.1)
tells_records places asked f _ nodes may = tt

pub commits_are_recorded : CommitsAreRecorded
commits_are_recorded = each_of_nodes (λ p rs. Unit {0}) (λ p rs k. StoresOf rs k) stores TellsRecords tells_records
