-- The undo of a node tried on a table of keys and numbers: a live branch inserted a row at 2 and updated it, and a branch in doubt holds back
-- an UPDATE of the row at 1.
use Rattle.std.specs.Prelude.{◌≡◌, ℕ, Bool, true, false, List, [], ◌∷◌, codes, pos, replicate, None, Some, Option}
use Rattle.row_store.specs.Store.{used_extents, doubt_extents}
use Rattle.row_locks.specs.Locks.{Lock}
use Rattle.session_tree.specs.Live.{fresh_live}
use Rattle.node_rules.specs.Data.{Value, Row, Change, ChangeSet, BranchId, Live, Owned, Doubt, Place}
use Rattle.node_rules.specs.Data.values
use Rattle.node_rules.specs.Rows.{TableRows, view_of, apply_all, changes_of, undo_of, set_over, undo_over}
use Rattle.node_rules.specs.NodeState.{NodeState, doubt_id}
use Rattle.node_rules.specs.Prepare.{sealed_of, own_changes}
use Rattle.node_rules.specs.Records.{nothing_stored, doubt_over}
use Rattle.node_rules.specs.Sessions.{fresh_session}
use Rattle.node_undo_laws.specs.Kept.{HasUndo}
use Rattle.tran_ids.specs.Branch.{put_by_branch}
use Rattle.read_only_tx.specs.Versions.{versions_from}

-- a number
abbrev number : ℕ → Value
number n = values.Number (pos n)

-- a row of the table T
abbrev row : ℕ → ℕ → Row
row key n = record { cells = number key ∷ number n ∷ [] }

-- a change of it, at a key
abbrev at : ℕ → Option Row → Change
at key after = record { table = codes "T"; key = number key; after = after }

-- the committed rows: one, at 1
abbrev pub rows : List TableRows
rows = (record { table = codes "T"; rows = (record { key = number 1; row = row 1 10 }) ∷ [] }) ∷ []

-- the live branch, and the one in doubt
abbrev pub live : BranchId
live = record { node = 1; boot = 1; session = 1; seq = 1 }

abbrev pub doubtful : BranchId
doubtful = record live { session = 2 }

-- the statements of the live branch: an INSERT at 2 and an UPDATE there, each with the row that the branch saw before
abbrev pub sets : List ChangeSet
sets = set_over (view_of rows [] (codes "T")) (at 2 (Some (row 2 20)) ∷ []) ∷ set_over (view_of rows (at 2 (Some (row 2 20)) ∷ []) (codes "T")) (at 2 (Some (row 2 21)) ∷ []) ∷ []

-- the branch in doubt: its UPDATE, and the row from before
abbrev pub held : Doubt
held = record { branch = doubtful; changes = at 1 (Some (row 1 11)) ∷ []; undo = at 1 (Some (row 1 10)) ∷ [] }

-- what the node keeps of the first
abbrev pub own : Owned
own = record { branch = live; sets = sets }

-- the lock of a key
abbrev lock : ℕ → BranchId → Bool → Lock
lock key b doubt = record { table = codes "T"; key = number key; branch = b; writes = true; in_doubt = doubt }

-- the live branch, which has changed rows
abbrev pub root : Live
root = record (fresh_live live live None 0 1 None) { changed = true }

-- the node, with two undo extents
abbrev pub place : Place
place = record { names = codes "HQ" ∷ []; number = 1; strength = 1; links = 4; undo = 2 }

abbrev pub state : NodeState
state = record {
  stored = record nothing_stored { rows = rows; doubts = held ∷ [] };
  owns = own ∷ [];
  lives = root ∷ [];
  works = [];
  locks = lock 1 doubtful true ∷ lock 2 live false ∷ [];
  clock = 1;
  versions = versions_from 0;
  opens = [];
  sessions = replicate 64 fresh_session;
}

-- the live branch, sealed
abbrev pub sealed : Doubt
sealed = doubt_over rows (sealed_of 1 root (own_changes state live) None)

-- The undo of the INSERT has no row, that of the UPDATE the row that was inserted. It is the undo of both over the committed rows, also
-- once the branch in doubt has committed, and so it is the undo of the branch when it is sealed, which takes no more space. Had another
-- branch inserted a row at 2 it would not be: so that key is locked.
pub record TheTriedUndo : Type 0 where
  pub has : HasUndo place state
  pub undo : undo_of sets ≡ at 2 None ∷ at 2 (Some (row 2 20)) ∷ []
  pub used : used_extents state.owns state.stored.doubts ≡ 2
  pub committed : undo_over (apply_all rows held.changes) (changes_of sets) ≡ undo_of sets
  pub sealed_so : sealed.undo ≡ undo_of sets
  pub sealed_uses : doubt_extents (put_by_branch doubt_id state.stored.doubts sealed) ≡ 2
  pub unlocked : undo_over (apply_all rows (at 2 (Some (row 2 99)) ∷ [])) (changes_of sets) ≡ at 2 (Some (row 2 99)) ∷ at 2 (Some (row 2 20)) ∷ []
