-- A live branch becomes one in doubt: its undo stays where it is, and has the same owner.
use Rattle.std.proofs.Common.{◌≡◌, ℕ, ◌+◌, Bool, true, false, cond, List, [], ◌∷◌, None, Some, Option, refl, sym, ap, subst, ◌∙◌, arith}
use Rattle.std.specs.Map.{lookup, remove_entry}
use Rattle.std.specs.Option.{option_map}
use Rattle.tran_ids.specs.declared.branch.BranchId.{BranchId}
use Rattle.tran_ids.specs.Branch.{put_by_branch}
use Rattle.tran_ids.specs.Listed.{drop_item}
use Rattle.row_store.proofs.OrderLemmas.{sum_placed, map_placed}
use Rattle.undo_pool.specs.Pool.{PoolState}
use Rattle.undo_book.specs.Undo.{undo_of as undo_at}
use Rattle.row_store.specs.declared.pending.Doubt.{Doubt}
use Rattle.row_store.specs.Pending.{changes_of, undo_of}
use Rattle.row_store.specs.ByBranch.{KeptSets, own_in, owns_in, held_id, doubt_in, doubts_in, AreKept, doubt_count, doubt_kept}
use Rattle.row_store.specs.Store.{own_id, doubt_id, sets_of, sets_at, doubt_extents, sealed_doubt}
use Rattle.row_store.proofs.BranchLaws.{found_as, found, dropped_is}
use Rattle.row_store.proofs.KeptLaws.{Entry, Held, is_at, own_found, remove_cut}
use Rattle.row_store.proofs.ExtentLaws.{extents_are, own_less, doubt_more}
use Rattle.row_store.proofs.PoolLaws.{changes_are, undo_is, taken_is, sets_found, cut_found, held_kept}

-- a branch that has no entry leaves none behind
absent_step : (hit : Bool) (e : Entry) (es rest : List Entry) (r : Option KeptSets) → cond hit (Some e.1) r ≡ None → (r ≡ None → rest ≡ es) → cond hit es (e ∷ rest) ≡ e ∷ es
absent_step true e es rest r none later = absurd cc
absent_step false e es rest r none later = ap (λ (fs : List Entry). e ∷ fs) (later none)

absent : (test : BranchId → Bool) (es : List Entry) → lookup test es ≡ None → remove_entry test es ≡ es
absent test [] none = refl
absent test (e ∷ es) none = absent_step (test e.0) e es (remove_entry test es) (lookup test es) none (absent test es)

module _ (p : PoolState) (next m : ℕ) (rise : m ≡ next + 1) (es : List Entry) (ds : List Held) (kept : AreKept p next es ds) (b : BranchId)
    (gone : lookup (found_as b) (remove_entry (found_as b) es) ≡ None) where
  abbrev left : List Entry
  left = remove_entry (found_as b) es

  abbrev held_as : Option KeptSets → List Held
  held_as o = put_by_branch held_id ds (b, doubt_kept next o)

  pub seal_owns : owns_in p left ≡ drop_item own_id (owns_in p es) b
  seal_owns = dropped_is (λ c z. own_in p (c, z)) own_id (λ c z. refl) b es gone

  no_sets : lookup (found_as b) es ≡ None → sets_at (owns_in p es) b ≡ []
  no_sets none = ap sets_of (sym (found (λ c y. own_in p (c, y)) own_id (λ c y. refl) b es) ∙ ap (option_map (λ y. own_in p (b, y))) none)

  doubt_is : (o : Option KeptSets) → lookup (found_as b) es ≡ o → doubt_in p (b, doubt_kept next o) ≡ sealed_doubt (owns_in p es) b
  doubt_is None none =
      let sets = no_sets none in
      let empty = kept.empty next (omega arith) in
      (λ i. let d : Doubt = record { branch = b; changes = changes_of (sym sets i); undo = (empty ∙ ap undo_of (sym sets)) i } in d)
  doubt_is (Some x) there =
      let one = cut_found p (found_as b) es x there kept.cut in
      let sets = sym (sets_found p b es x there) in
      let changes = sym (changes_are x (undo_at p x.owner) one) ∙ ap changes_of sets in
      let undo = sym (undo_is x (undo_at p x.owner) one) ∙ ap undo_of sets in
      (λ i. let d : Doubt = record { branch = b; changes = changes i; undo = undo i } in d)

  pub seal_doubts : (o : Option KeptSets) → lookup (found_as b) es ≡ o → doubts_in p (held_as o) ≡ put_by_branch doubt_id (doubts_in p ds) (sealed_doubt (owns_in p es) b)
  seal_doubts o is = map_placed doubt_id (doubt_in p) ds (b, doubt_kept next o) ∙ ap (λ (d : Doubt). put_by_branch doubt_id (doubts_in p ds) d) (doubt_is o is)

  sealed_count : (n : ℕ) (x : KeptSets) → doubt_count n (held_as (Some x)) ≡ doubt_count n ds + is_at n x.owner
  sealed_count n x = sum_placed held_id (λ (z : Held). is_at n z.1.owner) ds (b, doubt_kept next (Some x))

  pub seal_kept : (o : Option KeptSets) → lookup (found_as b) es ≡ o → AreKept p m left (held_as o)
  seal_kept None none =
      subst (λ (fs : List Entry). AreKept p m fs (held_as None)) (sym (absent (found_as b) es none)) (held_kept p p next es ds kept refl m rise (λ n other. refl) refl b [])
  seal_kept (Some x) there = record {
    apart = λ n. let c = own_found n (found_as b) es x there in let d = sealed_count n x in let a = kept.apart n in omega arith;
    unused = λ n high. let c = own_found n (found_as b) es x there in let d = sealed_count n x in let a = kept.unused n (omega arith) in omega arith;
    empty = λ n high. kept.empty n (omega arith);
    cut = remove_cut p (found_as b) es kept.cut;
    used =
        let one = cut_found p (found_as b) es x there kept.cut in
        let less = own_less p (found_as b) es x there in
        let before = taken_is x (undo_at p x.owner) one in
        let d_is = ap doubt_extents (map_placed doubt_id (doubt_in p) ds (b, doubt_kept next (Some x))) ∙ doubt_more (doubts_in p ds) (doubt_in p (b, doubt_kept next (Some x))) in
        let after = extents_are (undo_at p x.owner) in
        let u = kept.used in
        omega (arith, less, before, d_is, after, u);
  }
