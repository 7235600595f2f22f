-- On each disk of a lawful run the branches that changed one key come one after the other, in the order of their SCNs.
use Rattle.std.proofs.Common.{◌≡◌, ◌<◌, ◌≤◌, ◌||◌, not, if◌then◌else◌, Bool, true, false, true≢false, List, [], ◌∷◌, ◌++◌, inl, inr, refl, sym, ap, subst, ◌∙◌, arith}
use Rattle.std.specs.Prelude.{◌⊎◌}
use Rattle.std.specs.List.{AllByRecursion, list_any}
use Rattle.std.proofs.lemmas.Bool.{cond_both, or_left, or_right}
use Rattle.node_rules.specs.Data.{Change, BranchId, RedoRecord, Sealed, Doubt}
use Rattle.node_rules.specs.Data.decisions
use Rattle.node_rules.specs.Data.records
use Rattle.node_rules.specs.Words.{same, drop_item}
use Rattle.node_rules.specs.NodeState.{Stored, doubt_id}
use Rattle.node_rules.specs.Records.{applied, nothing_stored, stored_by, doubt_over}
use Rattle.run_rules.specs.Facts.{records_at}
use Rattle.run_rules.specs.Lawful.{facts_at}
use Rattle.run_base_laws.specs.NodeLaws.{IsLater}
use Rattle.run_key_laws.specs.RiseLaws.{EachRecordFrom, are_of_one_key, HaveNoKeyInCommon, AreFree, ChangesFreeKeys}
use Rattle.run_key_laws.specs.OrderLaws.{ends, commit_scn, have_a_key_in_common, IsDoneBefore, ComesInOrder, InOrderFrom, KeysComeInOrder}
use Rattle.run_rules.proofs.ListLemmas.{all_weaker}
use Rattle.run_base_laws.proofs.RowEventLemmas.{same_turned}
use Rattle.run_key_laws.proofs.RiseLemmas.{scns_rise}
use Rattle.run_key_laws.proofs.KeyFreeLemmas.{records_change_free_keys}
use Rattle.tran_ids.specs.Branch.{branch_below, put_by_branch}

-- ---- SCNs

-- the greatest SCN never falls
scn_stays : (s : Stored) (r : RedoRecord) → s.scn ≤ (applied s r).scn
unfolding applied
scn_stays s (records.Sealed r) = omega arith
scn_stays s (records.Decided r) = omega arith
scn_stays s (records.Ended c (decisions.Commit n)) = omega arith
scn_stays s (records.Forced c (decisions.Commit n) false) = omega arith
scn_stays s (records.Met c (decisions.Commit n) mixed) = omega arith
scn_stays s (records.Ended c decisions.Rollback) = omega arith
scn_stays s (records.Forced c decisions.Rollback false) = omega arith
scn_stays s (records.Forced c d true) = omega arith
scn_stays s (records.Met c decisions.Rollback mixed) = omega arith
scn_stays s _ = omega arith

-- and covers each commit
scn_covers : (s : Stored) (r : RedoRecord) → commit_scn r ≤ (applied s r).scn
unfolding applied
scn_covers s (records.Decided r) = omega arith
scn_covers s (records.Ended c (decisions.Commit n)) = omega arith
scn_covers s (records.Ended c decisions.Rollback) = omega arith
scn_covers s (records.Met c (decisions.Commit n) mixed) = omega arith
scn_covers s (records.Met c decisions.Rollback mixed) = omega arith
scn_covers s _ = omega arith

scn_rises : (s : Stored) (rs : List RedoRecord) → s.scn ≤ (stored_by s rs).scn
unfolding stored_by
scn_rises s [] = omega arith
scn_rises s (r ∷ rs) = omega (arith, scn_stays s r, scn_rises (applied s r) rs)

all_covered : (s : Stored) (rs : List RedoRecord) → AllByRecursion (λ o. commit_scn o ≤ (stored_by s rs).scn) rs
unfolding stored_by
all_covered s [] = tt
all_covered s (r ∷ rs) = (omega (arith, scn_covers s r, scn_rises (applied s r) rs), all_covered (applied s r) rs)

-- ---- branches in doubt

-- it is one of these
abbrev pub Among : Doubt → List Doubt → Type 0
Among d [] = ⊥
Among d (e ∷ es) = (e ≡ d) ⊎ Among d es

among_more : (d x : Doubt) (ds : List Doubt) → Among d ds → Among d (put_by_branch doubt_id ds x)
among_more d x [] there = absurd there
among_more d x (e ∷ es) there = cond_both (branch_below x.branch e.branch) _ _ (Among d) (λ above. inr there) (λ below. behind there (among_more d x es))
  where
    behind : Among d (e ∷ es) → (Among d es → Among d (put_by_branch doubt_id es x)) → Among d (e ∷ put_by_branch doubt_id es x)
    behind (inl here) more = inl here
    behind (inr later) more = inr (more later)

among_placed : (x : Doubt) (ds : List Doubt) → Among x (put_by_branch doubt_id ds x)
among_placed x [] = inl refl
among_placed x (e ∷ es) = cond_both (branch_below x.branch e.branch) _ _ (Among x) (λ above. inl refl) (λ below. inr (among_placed x es))

among_dropped : (d : Doubt) (c : BranchId) (ds : List Doubt) → same d.branch c ≡ false → Among d ds → Among d (drop_item doubt_id ds c)
among_dropped d c [] other there = absurd there
among_dropped d c (e ∷ es) other (inl here) =
    let stays : not (same e.branch c) ≡ true = ap not (ap (λ (x : Doubt). same x.branch c) here ∙ other) in
    subst (λ q. Among d (if q then e ∷ drop_item doubt_id es c else drop_item doubt_id es c)) (sym stays) (inl here)
among_dropped d c (e ∷ es) other (inr there) =
    cond_both (not (same e.branch c)) _ _ (Among d) (λ kept. inr (among_dropped d c es other there)) (λ gone. among_dropped d c es other there)

-- without one branch, another is there still, or this was its end
less : (d : Doubt) (c : BranchId) (ds : List Doubt) → Among d ds → Among d (drop_item doubt_id ds c) ⊎ (same c d.branch ≡ true)
less d c ds there = by (same c d.branch) refl
  where
    by : (here : Bool) → same c d.branch ≡ here → Among d (drop_item doubt_id ds c) ⊎ (same c d.branch ≡ true)
    by true is = inr is
    by false is = inl (among_dropped d c ds (same_turned c d.branch is) there)

-- a record ends it, or leaves it in doubt
doubt_stays : (s : Stored) (r : RedoRecord) (d : Doubt) → Among d s.doubts → Among d (applied s r).doubts ⊎ (ends d.branch r ≡ true)
unfolding applied
doubt_stays s (records.Sealed x) d there = inl (among_more d (doubt_over s.rows x) s.doubts there)
doubt_stays s (records.Ended c e) d there = less d c s.doubts there
doubt_stays s (records.Forced c e given) d there = less d c s.doubts there
doubt_stays s _ d there = inl there

doubt_or_end : (s : Stored) (rs : List RedoRecord) (d : Doubt) → Among d s.doubts → Among d (stored_by s rs).doubts ⊎ (list_any (ends d.branch) rs ≡ true)
unfolding stored_by
doubt_or_end s [] d there = inl there
doubt_or_end s (r ∷ rs) d there = elim (doubt_stays s r d there) [
  | inr over ↦ inr (or_left (ends d.branch r) (list_any (ends d.branch) rs) over)
  | inl stays ↦ elim (doubt_or_end (applied s r) rs d stays) [
    | inl still ↦ inl still
    | inr over ↦ inr (or_right (ends d.branch r) (list_any (ends d.branch) rs) over)
  ]
]

-- ---- a key in common

no_key : (c : Change) (ds : List Change) → AllByRecursion (λ d. are_of_one_key c d ≡ false) ds → list_any (are_of_one_key c) ds ≡ false
no_key c [] all = refl
no_key c (d ∷ ds) all = ap (λ q. q || list_any (are_of_one_key c) ds) all.0 ∙ no_key c ds all.1

no_keys : (cs ds : List Change) → HaveNoKeyInCommon cs ds → have_a_key_in_common cs ds ≡ false
no_keys [] ds all = refl
no_keys (c ∷ cs) ds all = ap (λ q. q || have_a_key_in_common cs ds) (no_key c ds all.0) ∙ no_keys cs ds all.1

among_free : (d : Doubt) (ds : List Doubt) (cs : List Change) → AreFree ds cs → Among d ds → have_a_key_in_common d.changes cs ≡ false
among_free d [] cs free there = absurd there
among_free d (e ∷ es) cs free (inl here) = subst (λ (x : Doubt). have_a_key_in_common x.changes cs ≡ false) here (no_keys e.changes cs free.0)
among_free d (e ∷ es) cs free (inr there) = among_free d es cs free.1 there

-- ---- each record

-- a branch that seals is in doubt
sealed_among : (s : Stored) (x : Sealed) → Among (doubt_over s.rows x) (applied s (records.Sealed x)).doubts
unfolding applied
sealed_among s x = among_placed (doubt_over s.rows x) s.doubts

module _ (whole : List RedoRecord) (cs : List Change) where
  -- it is done, where none in doubt after these records holds a key of these changes
  first_done : (s : Stored) (r : RedoRecord) (rs : List RedoRecord) → ((b : BranchId) → list_any (ends b) rs ≡ true → list_any (ends b) whole ≡ true) → AreFree (stored_by (applied s r) rs).doubts cs → IsDoneBefore whole cs r
  first_done s (records.Sealed x) rs wider free = λ common. (elim (doubt_or_end (applied s (records.Sealed x)) rs (doubt_over s.rows x) (sealed_among s x)) [
    | inr over ↦ wider x.me over
    | inl still ↦ absurd (true≢false (sym common ∙ among_free (doubt_over s.rows x) (stored_by (applied s (records.Sealed x)) rs).doubts cs free still))
  ])
  first_done s _ rs wider free = tt

  done_before : (s : Stored) (rs : List RedoRecord) → ((b : BranchId) → list_any (ends b) rs ≡ true → list_any (ends b) whole ≡ true) → AreFree (stored_by s rs).doubts cs → AllByRecursion (IsDoneBefore whole cs) rs
  unfolding stored_by
  done_before s [] wider free = tt
  done_before s (r ∷ rs) wider free = (
    first_done s r rs (λ b over. wider b (or_right (ends b r) (list_any (ends b) rs) over)) free,
    done_before (applied s r) rs (λ b over. wider b (or_right (ends b r) (list_any (ends b) rs) over)) free,
  )

comes : (older : List RedoRecord) (r : RedoRecord) → IsLater (stored_by nothing_stored older).scn r → ChangesFreeKeys (stored_by nothing_stored older).doubts r → ComesInOrder older r
comes older (records.Sealed r) later free =
    (done_before older r.changes nothing_stored older (λ b over. over) free, all_weaker (λ o. commit_scn o ≤ (stored_by nothing_stored older).scn) (λ o. commit_scn o ≤ r.scn) (λ o le. omega (arith, le, later)) older (all_covered nothing_stored older))
comes older (records.Decided r) later free =
    (done_before older r.changes nothing_stored older (λ b over. over) free, all_weaker (λ o. commit_scn o ≤ (stored_by nothing_stored older).scn) (λ o. commit_scn o < r.scn) (λ o le. omega (arith, le, later)) older (all_covered nothing_stored older))
comes older _ later free = tt

in_order : (older rs : List RedoRecord) → EachRecordFrom (λ s r. IsLater s.scn r) older rs → EachRecordFrom (λ s r. ChangesFreeKeys s.doubts r) older rs → InOrderFrom older rs
in_order older [] later free = tt
in_order older (r ∷ rs) later free = (comes older r later.0 free.0, in_order (older ++ r ∷ []) rs later.1 free.1)

pub keys_come_in_order : KeysComeInOrder
keys_come_in_order t lawful n = in_order [] (records_at (facts_at t) n) (scns_rise t lawful n) (records_change_free_keys t lawful n)
