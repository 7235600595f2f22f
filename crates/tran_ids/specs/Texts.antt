-- How ids are printed: LOCAL_TRAN_ID and GLOBAL_TRAN_ID of DBA_2PC_PENDING. (Database Administrator's Guide,
-- "Managing Distributed Transactions", on viewing information about distributed transactions. What the numbers in an
-- id mean is dtx's own.)
use Rattle.std.specs.Prelude.{ℕ, ◌-◌, List, [], ◌++◌, codes, slice_get, unwrap_or}
use Rattle.tran_ids.specs.declared.branch.BranchId.{BranchId}
use Rattle.tran_ids.specs.Numbers.{decimal, hex8}

-- a boot, a session and a seq, joined by dots
abbrev pub local_of : ℕ → ℕ → ℕ → List ℕ
local_of boot session seq = decimal boot ++ codes "." ++ decimal session ++ codes "." ++ decimal seq

-- the local id of a branch
abbrev pub local_text : BranchId → List ℕ
local_text b = local_of b.boot b.session b.seq

-- the name of the node of this number, empty for a number past the names
abbrev pub name_of : List (List ℕ) → ℕ → List ℕ
name_of names node = unwrap_or (slice_get names (node - 1)) []

-- the global id: the root's node by name and by number, and the root's local id
abbrev pub global_text : List (List ℕ) → BranchId → List ℕ
global_text names root = name_of names root.node ++ codes "." ++ hex8 root.node ++ codes "." ++ local_text root
