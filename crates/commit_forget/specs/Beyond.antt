-- The neighbours of a kept branch, and those away from the commit point site.
-- (Database Administrator's Guide, "Distributed Transactions Concepts": commit phase and forget phase.)
use Rattle.std.specs.Prelude.{◌&&◌, ◌||◌, not, Bool, true, false, if◌then◌else◌, List, [], ◌∷◌, ◌++◌, map, filter, Option, Some, None}
use Rattle.std.specs.List.{list_all, list_any}
use Rattle.tran_ids.specs.declared.branch.BranchId.{BranchId}
use Rattle.tran_ids.specs.Branch.{same}
use Rattle.redo_record.specs.declared.durable.Kid.{Kid}
use Rattle.redo_record.specs.declared.durable.KeptRow.{KeptRow}
use Rattle.session_tree.specs.Live.{is_branch}
use Rattle.commit_forget.specs.declared.next.Beyond.{Beyond}

-- the parent, unless it is toward
abbrev pub parent_beyond : KeptRow → Option BranchId → List Beyond
parent_beyond s None = []
parent_beyond s (Some b) = if is_branch b s.toward then [] else (record { branch = b; acked = s.parent_acked; is_parent = true }) ∷ []

-- a child away from the site
abbrev pub kid_beyond : Kid → Beyond
kid_beyond c = record { branch = c.branch; acked = c.acked; is_parent = false }

-- the neighbours away from the site: the parent, then the children in order of reference
unfoldable pub beyond : KeptRow → List Beyond
beyond s = parent_beyond s s.parent ++ map kid_beyond (filter (λ c. not (is_branch c.branch s.toward)) s.children)

-- whether everybody beyond has acknowledged
abbrev pub all_acked : KeptRow → Bool
all_acked s = list_all (λ b. b.acked) (beyond s)

-- whether this branch is beyond
abbrev pub is_beyond : KeptRow → BranchId → Bool
is_beyond s from = list_any (λ b. same b.branch from) (beyond s)

-- whether a child has acknowledged, or is toward and need not
abbrev pub needs_no_ack : Option BranchId → Kid → Bool
needs_no_ack toward c = not (not (is_branch c.branch toward)) || c.acked

-- whether a child is this branch, and is not toward
abbrev pub is_this_kid : Option BranchId → BranchId → Kid → Bool
is_this_kid toward from c = not (is_branch c.branch toward) && same c.branch from

-- whether this branch is the parent or a child
abbrev pub is_neighbor : KeptRow → BranchId → Bool
is_neighbor s from = is_branch from s.parent || list_any (λ c. same c.branch from) s.children
