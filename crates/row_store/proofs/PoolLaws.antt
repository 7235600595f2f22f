-- What each call makes of changes that are kept with their undo in a pool: they are kept still, and the lists of live branches
-- and of branches in doubt are what the call says.
use Rattle.std.proofs.Common.{◌≡◌, ℕ, ◌+◌, ◌≤◌, List, [], ◌∷◌, ◌++◌, position, slice_get, unwrap_or, Bool, true, false, cond, if◌then◌else◌, ◌==◌, None, Some, Option, refl, sym, ap, subst, ◌∙◌, arith}
use Rattle.std.specs.Map.{lookup, keys_of, values_of, remove_entry}
use Rattle.std.specs.Option.{option_map}
use Rattle.std.proofs.lemmas.Bool.{eqb-true}
use Rattle.std.proofs.lemmas.List.{map-append}
use Rattle.indexmap.specs.Layout.{set_value_at}
use Rattle.dtx_values.specs.declared.row.Change.{Change}
use Rattle.tran_ids.specs.declared.branch.BranchId.{BranchId}
use Rattle.tran_ids.specs.Branch.{put_by_branch}
use Rattle.tran_ids.specs.Listed.{item_at, put_item, drop_item}
use Rattle.tran_ids.proofs.ListedLemmas.{put_is_push}
use Rattle.row_store.proofs.OrderLemmas.{sum_placed, map_placed}
use Rattle.undo_pool.specs.Pool.{PoolState, all_extents}
use Rattle.undo_book.specs.Undo.{undo_of as undo_at, undo_extents, OthersStay}
use Rattle.row_store.specs.declared.pending.Owned.{Owned}
use Rattle.row_store.specs.declared.pending.Doubt.{Doubt}
use Rattle.row_store.specs.Own.{changes_length, extents}
use Rattle.row_store.specs.Pending.{changes_of, undo_of}
use Rattle.row_store.specs.ByBranch.{KeptSets, KeptDoubt, cut, own_in, owns_in, held_id, doubt_in, doubts_in, AreCut, AreKept, own_count, doubt_count}
use Rattle.row_store.specs.Store.{own_id, doubt_id, sets_of, sets_at, extents_of_sets, own_extents, doubt_extents}
use Rattle.row_store.proofs.BranchLaws.{found_as, found, placed_is, dropped_is}
use Rattle.row_store.proofs.SetLaws.{changes_cut, undo_cut}
use Rattle.row_store.proofs.KeptLaws.{Entry, Held, AllCut, is_at, at_self, at_other, own_found, doubt_found, still_own, still_doubt, still_cut, put_still, set_cut, remove_cut, push_cut}
use Rattle.row_store.proofs.ExtentLaws.{extents_are, put_total, own_less, doubt_less, doubt_more, own_more}
use Rattle.row_store.proofs.Totals.{total_at, total_set, total_push}

-- the undo of sets that are cut
pub undo_is : (x : KeptSets) (us : List Change) → AreCut x.sizes x.changes us → undo_of (cut x.sizes x.changes us) ≡ us
undo_is x us are = undo_cut x.sizes x.changes us (are.all ∙ sym are.both)

pub changes_are : (x : KeptSets) (us : List Change) → AreCut x.sizes x.changes us → changes_of (cut x.sizes x.changes us) ≡ x.changes
changes_are x us are = changes_cut x.sizes x.changes us are.all

-- the extents of the undo of a branch's sets are those of its owner
pub taken_is : (x : KeptSets) (us : List Change) → AreCut x.sizes x.changes us → extents_of_sets (cut x.sizes x.changes us) ≡ undo_extents us
taken_is x us are = ap (λ vs. extents (changes_length vs)) (undo_is x us are) ∙ sym (extents_are us)

-- a branch's sets, where the map has it
pub sets_found : (p : PoolState) (b : BranchId) (es : List Entry) (x : KeptSets) → lookup (found_as b) es ≡ Some x → sets_at (owns_in p es) b ≡ cut x.sizes x.changes (undo_at p x.owner)
sets_found p b es x there = ap sets_of (sym (found (λ c y. own_in p (c, y)) own_id (λ c y. refl) b es) ∙ ap (option_map (λ y. own_in p (b, y))) there)

-- the entry of a branch is cut
cut_hit : (p : PoolState) (hit : Bool) (e : Entry) (es : List Entry) (r : Option KeptSets) (x : KeptSets) → cond hit (Some e.1) r ≡ Some x → AreCut e.1.sizes e.1.changes (undo_at p e.1.owner)
    → (r ≡ Some x → AreCut x.sizes x.changes (undo_at p x.owner)) → AreCut x.sizes x.changes (undo_at p x.owner)
cut_hit p true e es r x there one later = subst (λ (w : KeptSets). AreCut w.sizes w.changes (undo_at p w.owner)) (ap (λ o. unwrap_or o x) there) one
cut_hit p false e es r x there one later = later there

pub cut_found : (p : PoolState) (test : BranchId → Bool) (es : List Entry) (x : KeptSets) → lookup test es ≡ Some x → AllCut p es → AreCut x.sizes x.changes (undo_at p x.owner)
cut_found p test [] x there all = absurd cc
cut_found p test (e ∷ es) x there all = cut_hit p (test e.0) e es (lookup test es) x there all.0 (λ found. cut_found p test es x found all.1)

module _ (p q : PoolState) (next : ℕ) (es : List Entry) (ds : List Held) (kept : AreKept p next es ds) (all : all_extents q ≡ all_extents p) where
  -- ---- the undo of a live branch changes

  module _ (b : BranchId) (i : ℕ) (x y : KeptSets) (there : slice_get (values_of es) i ≡ Some x) (at : position (found_as b) (keys_of es) ≡ Some i)
      (here : lookup (found_as b) es ≡ Some x) (owner : y.owner ≡ x.owner) (others : OthersStay p q x.owner)
      (one : AreCut y.sizes y.changes (undo_at q y.owner)) (free : q.free + undo_extents (undo_at q x.owner) ≡ p.free + undo_extents (undo_at p x.owner)) where
    abbrev o : ℕ
    o = x.owner

    abbrev now : List Entry
    now = set_value_at es i y

    found_one : 1 ≤ own_count o es
    found_one = let f = total_at (λ (z : KeptSets). is_at o z.owner) es i x there in let s = at_self x.owner o refl in omega arith

    single : own_count o es ≤ 1
    single = let a = kept.apart o in omega arith

    none_held : doubt_count o ds ≡ 0
    none_held = let a = kept.apart o in let f = found_one in omega arith

    pub set_owns : owns_in q now ≡ put_item own_id (owns_in p es) (own_in q (b, y))
    set_owns =
        placed_is (λ c z. own_in q (c, z)) own_id (λ c z. refl) b y es i at
        ∙ put_still p q o others es b x (own_in q (b, y)) refl here refl single

    pub set_doubts : doubts_in q ds ≡ doubts_in p ds
    set_doubts = still_doubt p q o others ds none_held

    counts : (n : ℕ) → own_count n now ≡ own_count n es
    counts n =
        let s = total_set (λ (z : KeptSets). is_at n z.owner) es i x y there in
        let e : is_at n y.owner ≡ is_at n x.owner = ap (is_at n) owner in
        omega arith

    differs : (n : ℕ) → next ≤ n → n ≡ o → ⊥
    differs n high is =
        let u = kept.unused o (subst (λ m. next ≤ m) is high) in
        let f = found_one in
        absurd (omega arith)

    set_used : q.free + (own_extents (owns_in q now) + doubt_extents (doubts_in q ds)) ≡ all_extents q
    set_used =
        let t = put_total (owns_in p es) (own_in q (b, y)) in
        let o_is = ap own_extents set_owns in
        let d_is = ap doubt_extents set_doubts in
        let before = ap extents_of_sets (sets_found p b es x here) ∙ taken_is x (undo_at p x.owner) (cut_found p (found_as b) es x here kept.cut) in
        let after = taken_is y (undo_at q y.owner) one ∙ ap (λ n. undo_extents (undo_at q n)) owner in
        let u = kept.used in
        omega (arith, t, o_is, d_is, before, after, u, all, free)

    pub set_kept : AreKept q next now ds
    set_kept = record {
      apart = λ n. let c = counts n in let a = kept.apart n in omega arith;
      unused = λ n high. let c = counts n in let a = kept.unused n high in omega arith;
      empty = λ n high. others n (differs n high) ∙ kept.empty n high;
      cut = set_cut p q o others es i x y there refl single one kept.cut;
      used = set_used;
    }

  -- ---- a branch comes, which is the next owner

  module _ (m : ℕ) (rise : m ≡ next + 1) (others : OthersStay p q next) (free : q.free + undo_extents (undo_at q next) ≡ p.free + undo_extents (undo_at p next)) where
    none_own : own_count next es ≡ 0
    none_own = let u = kept.unused next (omega arith) in omega arith

    none_doubt : doubt_count next ds ≡ 0
    none_doubt = let u = kept.unused next (omega arith) in omega arith

    spent : q.free + undo_extents (undo_at q next) ≡ p.free
    spent = let e : undo_extents (undo_at p next) ≡ 0 = ap undo_extents (kept.empty next (omega arith)) in omega (arith, e, free)

    still_empty : (n : ℕ) → m ≤ n → undo_at q n ≡ []
    still_empty n high = others n (λ is. absurd (omega arith)) ∙ kept.empty n (omega arith)

    not_next : (n : ℕ) → m ≤ n → is_at n next ≡ 0
    not_next n high = at_other next n (λ is. absurd (omega arith))

    apart_at : (n : ℕ) → own_count n es + doubt_count n ds + is_at n next ≤ 1
    apart_at n = go (next == n) refl
      where
        go : (hit : Bool) → (next == n) ≡ hit → own_count n es + doubt_count n ds + (if hit then 1 else 0) ≤ 1
        go true is = let u = kept.unused n (let e = eqb-true next n is in omega arith) in omega arith
        go false is = let a = kept.apart n in omega arith

    module _ (b : BranchId) (y : KeptSets) (owner : y.owner ≡ next) (none : item_at own_id (owns_in p es) b ≡ None) (one : AreCut y.sizes y.changes (undo_at q y.owner)) where
      abbrev with_it : List Entry
      with_it = es ++ (b, y) ∷ []

      pub first_owns : owns_in q with_it ≡ put_item own_id (owns_in p es) (own_in q (b, y))
      first_owns =
          map-append (own_in q) es ((b, y) ∷ [])
          ∙ ap (λ (os : List Owned). os ++ own_in q (b, y) ∷ []) (still_own p q next others es none_own)
          ∙ sym (put_is_push own_id (owns_in p es) (own_in q (b, y)) none)

      pub first_doubts : doubts_in q ds ≡ doubts_in p ds
      first_doubts = still_doubt p q next others ds none_doubt

      first_count : (n : ℕ) → own_count n with_it ≡ own_count n es + is_at n next
      first_count n = total_push (λ (z : KeptSets). is_at n z.owner) es (b, y) ∙ ap (λ k. own_count n es + is_at n k) owner

      first_used : q.free + (own_extents (owns_in q with_it) + doubt_extents (doubts_in q ds)) ≡ all_extents q
      first_used =
          let o_is =
          ap own_extents (map-append (own_in q) es ((b, y) ∷ []) ∙ ap (λ (os : List Owned). os ++ own_in q (b, y) ∷ []) (still_own p q next others es none_own))
          ∙ own_more (owns_in p es) (own_in q (b, y)) in
          let d_is = ap doubt_extents first_doubts in
          let after = taken_is y (undo_at q y.owner) one ∙ ap (λ n. undo_extents (undo_at q n)) owner in
          let u = kept.used in
          omega (arith, o_is, d_is, after, u, all, spent)

      pub first_kept : AreKept q m with_it ds
      first_kept = record {
        apart = λ n. let c = first_count n in let a = apart_at n in omega arith;
        unused = λ n high. let c = first_count n in let a = kept.unused n (omega arith) in let z = not_next n high in omega arith;
        empty = still_empty;
        cut = push_cut q es (b, y) (still_cut p q next others es none_own kept.cut) one;
        used = first_used;
      }

    module _ (b : BranchId) (cs : List Change) where
      abbrev held_too : List Held
      held_too = put_by_branch held_id ds (b, record { changes = cs; owner = next })

      pub held_owns : owns_in q es ≡ owns_in p es
      held_owns = still_own p q next others es none_own

      pub held_doubts : doubts_in q held_too ≡ put_by_branch doubt_id (doubts_in p ds) (record { branch = b; changes = cs; undo = undo_at q next })
      held_doubts =
          map_placed doubt_id (doubt_in q) ds (b, record { changes = cs; owner = next })
          ∙ ap (λ (xs : List Doubt). put_by_branch doubt_id xs (record { branch = b; changes = cs; undo = undo_at q next })) (still_doubt p q next others ds none_doubt)

      held_count : (n : ℕ) → doubt_count n held_too ≡ doubt_count n ds + is_at n next
      held_count n = sum_placed held_id (λ (z : Held). is_at n z.1.owner) ds (b, record { changes = cs; owner = next })

      pub held_kept : AreKept q m es held_too
      held_kept = record {
        apart = λ n. let c = held_count n in let a = apart_at n in omega arith;
        unused = λ n high. let c = held_count n in let a = kept.unused n (omega arith) in let z = not_next n high in omega arith;
        empty = still_empty;
        cut = still_cut p q next others es none_own kept.cut;
        used =
            let o_is = ap own_extents held_owns in
            let d_is = ap doubt_extents held_doubts ∙ doubt_more (doubts_in p ds) (record { branch = b; changes = cs; undo = undo_at q next }) in
            let after = extents_are (undo_at q next) in
            let u = kept.used in
            omega (arith, o_is, d_is, after, u, all, spent);
      }

  -- ---- a live branch leaves

  module _ (b : BranchId) (x : KeptSets) (here : lookup (found_as b) es ≡ Some x) (gone : lookup (found_as b) (remove_entry (found_as b) es) ≡ None) where
    abbrev left : List Entry
    left = remove_entry (found_as b) es

    left_count : (n : ℕ) → own_count n left + is_at n x.owner ≡ own_count n es
    left_count n = own_found n (found_as b) es x here

    none_left : own_count x.owner left ≡ 0
    none_left = let c = left_count x.owner in let s = at_self x.owner x.owner refl in let a = kept.apart x.owner in omega arith

    none_in_doubt : doubt_count x.owner ds ≡ 0
    none_in_doubt = let c = left_count x.owner in let s = at_self x.owner x.owner refl in let a = kept.apart x.owner in omega arith

    below : (n : ℕ) → next ≤ n → n ≡ x.owner → ⊥
    below n high is =
        let u = kept.unused x.owner (subst (λ m. next ≤ m) is high) in
        let c = left_count x.owner in
        let s = at_self x.owner x.owner refl in
        absurd (omega arith)

    its_cut : AreCut x.sizes x.changes (undo_at p x.owner)
    its_cut = cut_found p (found_as b) es x here kept.cut

    module _ (others : OthersStay p q x.owner) (empty : undo_at q x.owner ≡ []) (free : q.free ≡ p.free + undo_extents (undo_at p x.owner)) where
      pub left_owns : owns_in q left ≡ drop_item own_id (owns_in p es) b
      left_owns = still_own p q x.owner others left none_left ∙ dropped_is (λ c z. own_in p (c, z)) own_id (λ c z. refl) b es gone

      pub left_doubts : doubts_in q ds ≡ doubts_in p ds
      left_doubts = still_doubt p q x.owner others ds none_in_doubt

      pub left_kept : AreKept q next left ds
      left_kept = record {
        apart = λ n. let c = left_count n in let a = kept.apart n in omega arith;
        unused = λ n high. let c = left_count n in let a = kept.unused n high in omega arith;
        empty = λ n high. others n (below n high) ∙ kept.empty n high;
        cut = still_cut p q x.owner others left none_left (remove_cut p (found_as b) es kept.cut);
        used =
            let o_is = ap own_extents (still_own p q x.owner others left none_left) in
            let less = own_less p (found_as b) es x here in
            let d_is = ap doubt_extents left_doubts in
            let before = taken_is x (undo_at p x.owner) its_cut in
            let u = kept.used in
            omega (arith, o_is, less, d_is, before, u, all, free);
      }

  -- ---- a branch in doubt leaves

  module _ (b : BranchId) (x : KeptDoubt) (here : lookup (found_as b) ds ≡ Some x) (gone : lookup (found_as b) (remove_entry (found_as b) ds) ≡ None)
      (others : OthersStay p q x.owner) (empty : undo_at q x.owner ≡ []) (free : q.free ≡ p.free + undo_extents (undo_at p x.owner)) where
    abbrev settled : List Held
    settled = remove_entry (found_as b) ds

    settled_count : (n : ℕ) → doubt_count n settled + is_at n x.owner ≡ doubt_count n ds
    settled_count n = doubt_found n (found_as b) ds x here

    none_settled : doubt_count x.owner settled ≡ 0
    none_settled = let c = settled_count x.owner in let s = at_self x.owner x.owner refl in let a = kept.apart x.owner in omega arith

    none_live : own_count x.owner es ≡ 0
    none_live = let c = settled_count x.owner in let s = at_self x.owner x.owner refl in let a = kept.apart x.owner in omega arith

    beneath : (n : ℕ) → next ≤ n → n ≡ x.owner → ⊥
    beneath n high is =
        let u = kept.unused x.owner (subst (λ m. next ≤ m) is high) in
        let c = settled_count x.owner in
        let s = at_self x.owner x.owner refl in
        absurd (omega arith)

    pub settled_owns : owns_in q es ≡ owns_in p es
    settled_owns = still_own p q x.owner others es none_live

    pub settled_doubts : doubts_in q settled ≡ drop_item doubt_id (doubts_in p ds) b
    settled_doubts = still_doubt p q x.owner others settled none_settled ∙ dropped_is (λ c z. doubt_in p (c, z)) doubt_id (λ c z. refl) b ds gone

    pub settled_kept : AreKept q next es settled
    settled_kept = record {
      apart = λ n. let c = settled_count n in let a = kept.apart n in omega arith;
      unused = λ n high. let c = settled_count n in let a = kept.unused n high in omega arith;
      empty = λ n high. others n (beneath n high) ∙ kept.empty n high;
      cut = still_cut p q x.owner others es none_live kept.cut;
      used =
          let o_is = ap own_extents settled_owns in
          let d_is = ap doubt_extents (still_doubt p q x.owner others settled none_settled) in
          let less = doubt_less p (found_as b) ds x here in
          let before = extents_are (undo_at p x.owner) in
          let u = kept.used in
          omega (arith, o_is, less, d_is, before, u, all, free);
    }
