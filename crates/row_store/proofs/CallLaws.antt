-- What calls on the changes of a live branch make of all that is kept.
use Rattle.std.proofs.Common.{◌≡◌, ℕ, ◌+◌, ◌-◌, ◌≤◌, List, [], ◌∷◌, ◌++◌, length, position, slice_get, take, drop, None, Some, refl, sym, ap, subst, ◌∙◌, arith}
use Rattle.std.specs.Map.{lookup, keys_of, values_of}
use Rattle.std.specs.Option.{option_map}
use Rattle.std.proofs.lemmas.List.{take-append-drop, length-append}
use Rattle.std.proofs.lemmas.List.Concat.{flat_map-append}
use Rattle.indexmap.specs.Layout.{set_value_at}
use Rattle.dtx_values.specs.declared.row.Change.{Change}
use Rattle.field_codec.specs.Change.{change_format}
use Rattle.tran_ids.specs.declared.branch.BranchId.{BranchId}
use Rattle.tran_ids.specs.Listed.{item_at, put_item}
use Rattle.undo_pool.specs.Pool.{PoolState, all_extents}
use Rattle.undo_book.specs.Undo.{undo_text, undo_of as undo_at, undo_extents, whole_in, OthersStay}
use Rattle.undo_book.proofs.UndoLaws.{whole_in_front}
use Rattle.row_store.specs.declared.own_sets.SetSize.{SetSize}
use Rattle.row_store.specs.declared.pending.ChangeSet.{ChangeSet}
use Rattle.row_store.specs.declared.pending.Owned.{Owned}
use Rattle.row_store.specs.Own.{changes_length, extents}
use Rattle.row_store.specs.Pending.{undo_of}
use Rattle.row_store.specs.ByBranch.{KeptSets, cut, own_in, owns_in, doubts_in, AreCut, AreKept, PendingState}
use Rattle.row_store.specs.Store.{own_id, sets_of, sets_at, extents_of_sets, used_extents, with_set, but_last, less_last, without_last}
use Rattle.row_store.proofs.BranchLaws.{found_as, placed_is}
use Rattle.row_store.proofs.SetLaws.{cut_push, are_cut_push, cut_pop, last_bytes, are_cut_pop}
use Rattle.row_store.proofs.StoreLaws.{undo_of_more}
use Rattle.row_store.proofs.KeptLaws.{Entry, Held, same_set}
use Rattle.row_store.proofs.ExtentLaws.{extents_are}
use Rattle.row_store.proofs.PoolLaws.{undo_is, taken_is, sets_found, cut_found, set_kept, set_owns, set_doubts, first_kept, first_owns, first_doubts}
use Rattle.row_store.proofs.UndoHeld.{own_there}

-- all that is kept, as the lists say it
abbrev pub state_in : PoolState → List Entry → List Held → PendingState
state_in p es ds = record { owns = owns_in p es; doubts = doubts_in p ds; extents = all_extents p }

-- the extents of one set more, by its undo
pub extents_with : (sets : List ChangeSet) (s : ChangeSet) (us : List Change) → undo_of sets ≡ us → extents_of_sets (sets ++ s ∷ []) ≡ undo_extents (us ++ s.undo)
extents_with sets s us is = ap (λ vs. extents (changes_length vs)) (undo_of_more sets s ∙ ap (λ (vs : List Change). vs ++ s.undo) is) ∙ sym (extents_are (us ++ s.undo))

module _ (p : PoolState) (next : ℕ) (es : List Entry) (ds : List Held) (kept : AreKept p next es ds) where
  -- ---- the changes of a branch that has some

  module _ (b : BranchId) (i : ℕ) (x : KeptSets) (there : slice_get (values_of es) i ≡ Some x) (at : position (found_as b) (keys_of es) ≡ Some i)
      (here : lookup (found_as b) es ≡ Some x) where
    abbrev us : List Change
    us = undo_at p x.owner

    one : AreCut x.sizes x.changes us
    one = cut_found p (found_as b) es x here kept.cut

    mine : sets_at (owns_in p es) b ≡ cut x.sizes x.changes us
    mine = sets_found p b es x here

    -- one set more has room
    pub more_fits : (set : ChangeSet)
        → extents_of_sets (sets_at (owns_in p es) b ++ set ∷ []) - extents_of_sets (sets_at (owns_in p es) b) ≤ all_extents p - used_extents (owns_in p es) (doubts_in p ds)
        → undo_extents (us ++ set.undo) - undo_extents us ≤ p.free
    more_fits set room =
        let undo : undo_of (sets_at (owns_in p es) b) ≡ us = ap undo_of mine ∙ undo_is x us one in
        let with_it = extents_with (sets_at (owns_in p es) b) set us undo in
        let without = ap extents_of_sets mine ∙ taken_is x us one in
        let u = kept.used in
        omega (arith, room, with_it, without, u)

    module _ (q : PoolState) (cs vs : List Change) (n : ℕ) (y : KeptSets) (y_is : y ≡ record { changes = x.changes ++ cs; sizes = x.sizes ++ (record { changes = length cs; undo = n }) ∷ []; owner = x.owner })
        (n_is : n ≡ length (undo_text vs)) (even : length vs ≡ length cs) (added : undo_at q x.owner ≡ us ++ vs)
        (free : q.free + undo_extents (undo_at q x.owner) ≡ p.free + undo_extents us) (all : all_extents q ≡ all_extents p) (others : OthersStay p q x.owner) where
      abbrev size : SetSize
      size = record { changes = length cs; undo = n }

      abbrev set : ChangeSet
      set = record { changes = cs; undo = vs }

      owner_is : y.owner ≡ x.owner
      owner_is = ap (λ (z : KeptSets). z.owner) y_is

      grown : AreCut (x.sizes ++ size ∷ []) (x.changes ++ cs) (us ++ vs)
      grown = are_cut_push x.sizes size x.changes us cs vs one refl even n_is

      y_cut : AreCut y.sizes y.changes (undo_at q y.owner)
      y_cut =
          subst (λ (z : KeptSets). AreCut z.sizes z.changes (undo_at q z.owner)) (sym y_is)
          (subst (AreCut (x.sizes ++ size ∷ []) (x.changes ++ cs)) (sym added) grown)

      sets_are : own_in q (b, y) ≡ record { branch = b; sets = sets_at (owns_in p es) b ++ set ∷ [] }
      sets_are =
          ap (λ (z : KeptSets). own_in q (b, z)) y_is
          ∙ (λ j. let o : Owned = record { branch = b; sets = cut (x.sizes ++ size ∷ []) (x.changes ++ cs) (added j) } in o)
          ∙ (λ j. let o : Owned = record { branch = b; sets = cut_push x.sizes size x.changes us cs vs one.all (one.all ∙ sym one.both) refl (sym even) j } in o)
          ∙ (λ j. let o : Owned = record { branch = b; sets = sym mine j ++ set ∷ [] } in o)

      pub more_kept : AreKept q next (set_value_at es i y) ds
      more_kept = set_kept p q next es ds kept all b i x y there at here owner_is others y_cut free

      pub more_state : state_in q (set_value_at es i y) ds ≡ record { owns = with_set (owns_in p es) b set; doubts = doubts_in p ds; extents = all_extents p }
      more_state =
          let owns = set_owns p q next es ds kept all b i x y there at here owner_is others y_cut free ∙ ap (put_item own_id (owns_in p es)) sets_are in
          let doubts = set_doubts p q next es ds kept all b i x y there at here owner_is others y_cut free in
          (λ j. let s : PendingState = record { owns = owns j; doubts = doubts j; extents = all j } in s)

    item : item_at own_id (owns_in p es) b ≡ Some (own_in p (b, x))
    item = sym (own_there p b es) ∙ ap (option_map (λ z. own_in p (b, z))) here

    -- where there is no set, none is taken back
    pub none_less : x.sizes ≡ [] → without_last (owns_in p es) b ≡ owns_in p es
    none_less empty =
        let sets : cut x.sizes x.changes us ≡ [] = ap (λ ns. cut ns x.changes us) empty in
        ap (less_last (owns_in p es)) item
        ∙ (λ j. put_item own_id (owns_in p es) (let o : Owned = record { branch = b; sets = but_last (sets j) } in o))
        ∙ (λ j. put_item own_id (owns_in p es) (let o : Owned = record { branch = b; sets = sym sets j } in o))
        ∙ sym (placed_is (λ c z. own_in p (c, z)) own_id (λ c z. refl) b x es i at)
        ∙ ap (owns_in p) (same_set es i x there)

    -- ---- the last set taken back

    module _ (q : PoolState) (ns : List SetSize) (n : SetSize) (sizes : x.sizes ≡ ns ++ n ∷ []) (y : KeptSets)
        (y_is : y ≡ record { changes = take (length x.changes - n.changes) x.changes; sizes = ns; owner = x.owner })
      where
        abbrev k : ℕ
        k = length x.changes - n.changes

        split : AreCut (ns ++ n ∷ []) x.changes us
        split = subst (λ ms. AreCut ms x.changes us) sizes one

        text_parts : length (undo_text us) ≡ length (undo_text (take k us)) + n.undo
        text_parts =
            ap (λ vs. length (undo_text vs)) (sym (take-append-drop k us))
            ∙ ap length (flat_map-append change_format.text (take k us) (drop k us))
            ∙ length-append (undo_text (take k us)) (undo_text (drop k us))
            ∙ ap (λ m. length (undo_text (take k us)) + m) (last_bytes ns n x.changes us split)

        pub less_fits : n.undo ≤ length (undo_text us)
        less_fits = let t = text_parts in omega arith

        module _ (keep : ℕ) (keep_is : keep + n.undo ≡ length (undo_text us)) where
          keep_long : keep ≡ length (undo_text (take k us))
          keep_long = let t = text_parts in omega arith

          front_is : whole_in keep us ≡ take k us
          front_is =
              (λ j. whole_in (keep_long j) (sym (take-append-drop k us) j)) ∙ whole_in_front (take k us) (drop k us)

          pub keep_whole : length (undo_text (whole_in keep us)) ≡ keep
          keep_whole = ap (λ vs. length (undo_text vs)) front_is ∙ sym keep_long

          module _ (kept_undo : undo_at q x.owner ≡ whole_in keep us)
              (free : q.free + undo_extents (undo_at q x.owner) ≡ p.free + undo_extents us) (all : all_extents q ≡ all_extents p) (others : OthersStay p q x.owner) where
            same_owner : y.owner ≡ x.owner
            same_owner = ap (λ (z : KeptSets). z.owner) y_is

            now_undo : undo_at q x.owner ≡ take k us
            now_undo = kept_undo ∙ front_is

            fewer : AreCut y.sizes y.changes (undo_at q y.owner)
            fewer =
                subst (λ (z : KeptSets). AreCut z.sizes z.changes (undo_at q z.owner)) (sym y_is)
                (subst (AreCut ns (take k x.changes)) (sym now_undo) (are_cut_pop ns n x.changes us split))

            sets_left : own_in q (b, y) ≡ record { branch = b; sets = but_last (sets_at (owns_in p es) b) }
            sets_left =
                ap (λ (z : KeptSets). own_in q (b, z)) y_is
                ∙ (λ j. let o : Owned = record { branch = b; sets = cut ns (take k x.changes) (now_undo j) } in o)
                ∙ (λ j. let o : Owned = record { branch = b; sets = cut_pop ns n x.changes us split j } in o)
                ∙ (λ j. let o : Owned = record { branch = b; sets = but_last (cut (sym sizes j) x.changes us) } in o)
                ∙ (λ j. let o : Owned = record { branch = b; sets = but_last (sym mine j) } in o)

            less_is : without_last (owns_in p es) b ≡ put_item own_id (owns_in p es) (record { branch = b; sets = but_last (sets_at (owns_in p es) b) })
            less_is =
                ap (less_last (owns_in p es)) item
                ∙ (λ j. put_item own_id (owns_in p es) (let o : Owned = record { branch = b; sets = but_last (sym mine j) } in o))

            pub less_kept : AreKept q next (set_value_at es i y) ds
            less_kept = set_kept p q next es ds kept all b i x y there at here same_owner others fewer free

            pub less_state : state_in q (set_value_at es i y) ds ≡ record { owns = without_last (owns_in p es) b; doubts = doubts_in p ds; extents = all_extents p }
            less_state =
                let owns = set_owns p q next es ds kept all b i x y there at here same_owner others fewer free ∙ ap (put_item own_id (owns_in p es)) sets_left ∙ sym less_is in
                let doubts = set_doubts p q next es ds kept all b i x y there at here same_owner others fewer free in
                (λ j. let s : PendingState = record { owns = owns j; doubts = doubts j; extents = all j } in s)

  -- ---- the first set of a branch

  module _ (q : PoolState) (m : ℕ) (rise : m ≡ next + 1) (b : BranchId) (cs vs : List Change) (n : ℕ) (y : KeptSets)
      (y_is : y ≡ record { changes = cs; sizes = (record { changes = length cs; undo = n }) ∷ []; owner = next })
      (n_is : n ≡ length (undo_text vs)) (even : length vs ≡ length cs) (none : item_at own_id (owns_in p es) b ≡ None) (added : undo_at q next ≡ undo_at p next ++ vs)
      (free : q.free + undo_extents (undo_at q next) ≡ p.free + undo_extents (undo_at p next)) (all : all_extents q ≡ all_extents p) (others : OthersStay p q next) where
    abbrev its_size : SetSize
    its_size = record { changes = length cs; undo = n }

    abbrev its_set : ChangeSet
    its_set = record { changes = cs; undo = vs }

    its_owner : y.owner ≡ next
    its_owner = ap (λ (z : KeptSets). z.owner) y_is

    its_undo : undo_at q next ≡ vs
    its_undo = added ∙ ap (λ (ws : List Change). ws ++ vs) (kept.empty next (omega arith))

    no_set : AreCut [] [] []
    no_set = record { all = refl; both = refl; spelled = refl }

    its_cut : AreCut y.sizes y.changes (undo_at q y.owner)
    its_cut =
        subst (λ (z : KeptSets). AreCut z.sizes z.changes (undo_at q z.owner)) (sym y_is)
        (subst (AreCut (its_size ∷ []) cs) (sym its_undo) (are_cut_push [] its_size [] [] cs vs no_set refl even n_is))

    its_sets : own_in q (b, y) ≡ record { branch = b; sets = sets_at (owns_in p es) b ++ its_set ∷ [] }
    its_sets =
        ap (λ (z : KeptSets). own_in q (b, z)) y_is
        ∙ (λ j. let o : Owned = record { branch = b; sets = cut (its_size ∷ []) cs (its_undo j) } in o)
        ∙ (λ j. let o : Owned = record { branch = b; sets = cut_push [] its_size [] [] cs vs refl refl refl (sym even) j } in o)
        ∙ (λ j. let o : Owned = record { branch = b; sets = sets_of (sym none j) ++ its_set ∷ [] } in o)

    pub begun_kept : AreKept q m (es ++ (b, y) ∷ []) ds
    begun_kept = first_kept p q next es ds kept all m rise others free b y its_owner none its_cut

    pub begun_state : state_in q (es ++ (b, y) ∷ []) ds ≡ record { owns = with_set (owns_in p es) b its_set; doubts = doubts_in p ds; extents = all_extents p }
    begun_state =
        let owns = first_owns p q next es ds kept all m rise others free b y its_owner none its_cut ∙ ap (put_item own_id (owns_in p es)) its_sets in
        let doubts = first_doubts p q next es ds kept all m rise others free b y its_owner none its_cut in
        (λ j. let s : PendingState = record { owns = owns j; doubts = doubts j; extents = all j } in s)

  -- one that has no undo yet has room for its first
  pub first_fits : (vs : List Change) → extents (changes_length vs) ≤ all_extents p - used_extents (owns_in p es) (doubts_in p ds)
      → undo_extents (undo_at p next ++ vs) - undo_extents (undo_at p next) ≤ p.free
  first_fits vs room =
      let empty = kept.empty next (omega arith) in
      let with_it = ap (λ (ws : List Change). undo_extents (ws ++ vs)) empty in
      let is = extents_are vs in
      let u = kept.used in
      omega (arith, room, with_it, is, u)
