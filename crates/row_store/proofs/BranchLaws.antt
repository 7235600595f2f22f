-- What a map by branches does, as the list of what belongs to them says it.
use Rattle.std.proofs.Common.{◌≡◌, ℕ, Bool, List, map, position, None, Some}
use Rattle.std.specs.Option.{option_map}
use Rattle.std.specs.Map.{lookup, keys_of, remove_entry}
use Rattle.indexmap.specs.IndexMap.{insert_entry}
use Rattle.indexmap.specs.Layout.{set_value_at}
use Rattle.tran_ids.specs.declared.branch.BranchId.{BranchId}
use Rattle.tran_ids.specs.Branch.{same}
use Rattle.tran_ids.specs.Listed.{item_at, put_item, drop_item}
use Rattle.tran_ids.specs.contracts.branch.BranchIdPartialEq.TheImpl as of_key
use Rattle.tran_ids.specs.contracts.branch.BranchIdEq.TheImpl.Laws.{laws-law}
use Rattle.row_store.proofs.KeyedLaws.{found as found_at, put_is as put_at, placed_is as placed_at, dropped_is as dropped_at}

-- the test by which the map finds a key
abbrev pub found_as : BranchId → BranchId → Bool
found_as = of_key.eq-value.it

pub key_is : (b : BranchId) (k : BranchId) → found_as b k ≡ same k b
key_is b k = laws-law.symm b k

module _ {X A : Type 0} (make : BranchId → X → A) (id : A → BranchId) (is : (b : BranchId) (x : X) → id (make b x) ≡ b) where
  abbrev item : BranchId × X → A
  item e = make e.0 e.1

  -- a look-up
  pub found : (b : BranchId) (es : List (BranchId × X)) → option_map (make b) (lookup (found_as b) es) ≡ item_at id (map item es) b
  found b es = found_at found_as key_is make id is b es

  -- an item that is put
  pub put_is : (b : BranchId) (x : X) (es : List (BranchId × X)) → map item (insert_entry found_as es b x) ≡ put_item id (map item es) (make b x)
  put_is b x es = put_at found_as key_is make id is b x es

  -- in the place where the map has one
  pub placed_is : (b : BranchId) (x : X) (es : List (BranchId × X)) (i : ℕ) → position (found_as b) (keys_of es) ≡ Some i
      → map item (set_value_at es i x) ≡ put_item id (map item es) (make b x)
  placed_is b x es i at = placed_at found_as key_is make id is b x es i at

  -- an item that is dropped
  pub dropped_is : (b : BranchId) (es : List (BranchId × X)) → lookup (found_as b) (remove_entry (found_as b) es) ≡ None
      → map item (remove_entry (found_as b) es) ≡ drop_item id (map item es) b
  dropped_is b es none = dropped_at found_as key_is make id is b es none
