-- Rules, tried on a node by computation: a branch goes back to a savepoint, a READ ONLY branch looks at its table, and an
-- image is made of what is stored.
use Rattle.std.specs.Prelude.{◌≡◌, ℕ, true, false, List, [], ◌∷◌, codes, map, pos, None, Some}
use Rattle.node_rules.specs.Data.{Value, Row, Change, BranchId, Note}
use Rattle.node_rules.specs.Data.values
use Rattle.node_rules.specs.Data.records
use Rattle.node_rules.specs.Data.decisions
use Rattle.node_rules.specs.Data.towards
use Rattle.node_rules.specs.NodeState.{NodeState, Branch, Stored, no_work, sets_at}
use Rattle.node_rules.specs.Records.{nothing_stored, stored_by}
use Rattle.node_rules.specs.Rows.{TableRows, changes_of}
use Rattle.node_rules.specs.Marks.{no_marks, with_note, node_back}
use Rattle.node_rules.specs.Statement.{view}
use Rattle.node_rules.specs.Images.{image_at}
use Rattle.node_rules.specs.Turn.{kept_by}
use Rattle.read_only_tx.specs.Versions.{versions_from, with_commit}
use Rattle.row_locks.specs.Locks.{Lock}
use Rattle.session_tree.specs.Live.{fresh_live}

-- the branch
abbrev pub me : BranchId
me = record { node = 1; boot = 1; session = 1; seq = 1 }

-- a key, the row that has it and a number, and a change that leaves this row
abbrev pub key : ℕ → Value
key n = values.Number (pos n)

abbrev pub row : ℕ → ℕ → Row
row n number = record { cells = key n ∷ key number ∷ [] }

abbrev pub change : ℕ → ℕ → Change
change n number = record { table = codes "T"; key = key n; after = Some (row n number) }

-- the table with one row of key 1
abbrev pub rows : ℕ → List TableRows
rows number = record { table = codes "T"; rows = record { key = key 1; row = row 1 number } ∷ [] } ∷ []

-- ---- going back

-- what a statement at this step noted: so many sets of changes, and a key
abbrev pub note : ℕ → ℕ → ℕ → Note
note step sets n = record { step = step; sets = sets; keys = record { table = codes "T"; key = key n } ∷ []; calls = [] }

-- the branch after three statements: one changed the row of key 1, one locked key 2 with FOR UPDATE, and one, behind the
-- savepoint, changed the rows of the keys 2 and 3
abbrev pub branch : Branch
branch = record { live = fresh_live me me None 1 1 None; work = record (no_work me) { marks = with_note (with_note (with_note no_marks (note 1 1 1)) (note 2 0 2)) (record (note 3 1 2) { keys = record { table = codes "T"; key = key 2 } ∷ record { table = codes "T"; key = key 3 } ∷ [] }) } }

-- a lock of the branch
abbrev pub lock : ℕ → Lock
lock n = record { table = codes "T"; key = key n; branch = me; writes = true; in_doubt = false }

-- the node then
abbrev pub node : NodeState
node = record (kept_by nothing_stored (versions_from 0)) {
  owns = record { branch = me; sets = record { changes = change 1 5 ∷ []; undo = [] } ∷ record { changes = change 2 6 ∷ change 3 7 ∷ []; undo = [] } ∷ [] } ∷ [];
  locks = lock 1 ∷ lock 2 ∷ lock 3 ∷ [];
}

-- ---- reading

-- the node with a READ ONLY branch that reads at this SCN, where the one commit that is kept has the SCN 5
abbrev pub reading : ℕ → NodeState
reading scn = record (kept_by (record nothing_stored { rows = rows 7 }) (with_commit (rows 3) (versions_from 2) 5 (change 1 7 ∷ []))) { lives = fresh_live me me None 1 1 (Some scn) ∷ [] }

-- ---- an image

-- a branch was sealed, forced and purged
abbrev pub purged : Stored
purged = stored_by nothing_stored (records.Boot 1 ∷ records.Sealed (record { me = me; root = me; scn = 3; toward = towards.Parent; parent = Some me; children = []; advice = None; comment = []; changes = [] }) ∷ records.Forced me decisions.Rollback false ∷ records.Hidden me ∷ [])

-- What they come to.
pub record TheTriedRules : Type 0 where
  pub changes : changes_of (sets_at (node_back node branch 2).owns me) ≡ change 1 5 ∷ []
  pub locks : (node_back node branch 2).locks ≡ lock 1 ∷ record (lock 2) { writes = false } ∷ []
  pub before : view (reading 4) me (codes "T") ≡ record { key = key 1; row = row 1 3 } ∷ []
  pub behind : view (reading 5) me (codes "T") ≡ record { key = key 1; row = row 1 7 } ∷ []
  pub hidden : map (λ x. x.hidden) (image_at purged 9).kept ≡ true ∷ []
