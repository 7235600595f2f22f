-- Checkpoints: the image of what a node stores, what an image says, and which records a start needs. (Database Concepts:
-- checkpoints. That an image is one record is dtx's own.)
use Rattle.std.specs.Prelude.{ℕ, ◌+◌, false, if◌then◌else◌, List, [], ◌∷◌, map, filter_map, zip, length, sum_by, nat_lt, position, slice_get, unwrap_or, option_map, Option, Some, None}
use Rattle.dtx_values.specs.Limits.{image_limit}
use Rattle.node_rules.specs.Data.{Row, Table, Link, Synonym, Keyed, Doubt, BranchId, Decision, Peer, Toward, KeptState, KeptItem, Image, RedoRecord, State, Kid, KeptRow, Durable}
use Rattle.node_rules.specs.Data.decisions
use Rattle.node_rules.specs.Data.towards
use Rattle.node_rules.specs.Data.states
use Rattle.node_rules.specs.Data.kept_states
use Rattle.node_rules.specs.Data.records
use Rattle.redo_record.specs.Rows.{kid_of}
use Rattle.session_tree.specs.Live.{is_branch}
use Rattle.node_rules.specs.Words.{same, item_at}
use Rattle.node_rules.specs.Columns.{key_of_row}
use Rattle.node_rules.specs.Rows.{TableRows, rows_of_table, undo_over, value_length, changes_length}
use Rattle.node_rules.specs.Records.{held_back, with_record}
use Rattle.node_rules.specs.NodeState.{Stored, NodeState, TurnDraft, nothing, doubt_id}

-- ---- the image of what is stored

-- how an image names the neighbour on the way to the site: the parent, or a child by its place
abbrev pub toward_named : KeptRow → Option BranchId → Option Toward
toward_named s None = None
toward_named s (Some b) = Some (if is_branch b s.parent then towards.Parent else towards.Child (unwrap_or (position (λ c. same c.branch b) s.children) 0))

-- a state without its SCN
abbrev pub state_named : State → KeptState
state_named states.Sealed = kept_states.Sealed
state_named states.Committed = kept_states.Committed
state_named (states.ForcedCommit n) = kept_states.ForcedCommit
state_named states.ForcedRollback = kept_states.ForcedRollback

-- the SCN of a decision, 0 for a rollback or none
abbrev pub decided_number : Option Decision → ℕ
decided_number (Some (decisions.Commit n)) = n
decided_number _ = 0

-- the SCN at which a branch committed or was forced to commit, as the view shows it, and 0 for none
abbrev pub number_of : KeptRow → State → ℕ
number_of s states.Sealed = 0
number_of s states.Committed = decided_number s.decision
number_of s (states.ForcedCommit n) = n
number_of s states.ForcedRollback = 0

-- a child as a record names it
abbrev pub peer_of_kid : Kid → Peer
peer_of_kid c = record { branch = c.branch; link = c.link }

-- a kept branch as an image has it, with what it holds back while it is in doubt
abbrev pub kept_item : List Doubt → KeptRow → KeptItem
kept_item ds s = record {
  me = s.me;
  root = s.root;
  scn = s.scn;
  state = state_named s.state;
  toward = toward_named s s.toward;
  parent = s.parent;
  children = map peer_of_kid s.children;
  advice = s.advice;
  comment = s.comment;
  decision = s.decision;
  number = number_of s s.state;
  mixed = s.mixed;
  forgot = s.forgot;
  hidden = s.hidden;
  changes = held_back (item_at doubt_id ds s.me);
}

-- the committed rows of a table, in key order
abbrev pub rows_listed : List TableRows → Table → List Row
rows_listed rows t = map (λ r. r.row) (rows_of_table rows t.name)

-- the next image of what is stored, at this clock; Acks are left out
abbrev pub image_at : Stored → ℕ → Image
image_at s clock = record {
  generation = s.generation + 1;
  clock = clock;
  top = s.top;
  boot = s.durable.boot;
  recovery = s.durable.recovery;
  strength = s.durable.strength;
  tables = s.durable.tables;
  links = s.durable.links;
  synonyms = s.durable.synonyms;
  rows = map (rows_listed s.rows) s.durable.tables;
  kept = map (kept_item s.doubts) s.durable.kept;
}

-- ---- what an image says

-- the neighbour on the way to the site
abbrev pub toward_said : KeptItem → Option Toward → Option BranchId
toward_said x None = None
toward_said x (Some towards.Parent) = x.parent
toward_said x (Some (towards.Child i)) = option_map (λ p. p.branch) (slice_get x.children i)

-- a state with its SCN
abbrev pub state_said : KeptState → ℕ → State
state_said kept_states.Sealed n = states.Sealed
state_said kept_states.Committed n = states.Committed
state_said kept_states.ForcedCommit n = states.ForcedCommit n
state_said kept_states.ForcedRollback n = states.ForcedRollback

-- the row of a kept branch; no Ack was heard
abbrev pub row_said : KeptItem → KeptRow
row_said x = record {
  me = x.me;
  root = x.root;
  scn = x.scn;
  parent = x.parent;
  parent_acked = false;
  children = map kid_of x.children;
  toward = toward_said x x.toward;
  advice = x.advice;
  comment = x.comment;
  state = state_said x.state x.number;
  decision = x.decision;
  mixed = x.mixed;
  forgot = x.forgot;
  hidden = x.hidden;
}

-- a row at its key
abbrev pub keyed : Table → Row → Keyed
keyed t r = record { key = key_of_row t r.cells; row = r }

-- the rows of a table
abbrev pub table_said : Table × List Row → TableRows
table_said x = record { table = x.0.name; rows = map (keyed x.0) x.1 }

-- a branch in doubt, with its undo over these rows
abbrev pub doubt_in : List TableRows → KeptState → KeptItem → Option Doubt
doubt_in rows kept_states.Sealed x = Some (record { branch = x.me; changes = x.changes; undo = undo_over rows x.changes })
doubt_in rows _ x = None

-- the committed rows
abbrev pub rows_said : Image → List TableRows
rows_said i = map table_said (zip i.tables i.rows)

-- catalog, settings and kept branches
abbrev pub durable_said : Image → Durable
durable_said i = record {
  boot = i.boot;
  recovery = i.recovery;
  tables = i.tables;
  links = i.links;
  synonyms = i.synonyms;
  kept = map row_said i.kept;
  strength = i.strength;
}

-- what is stored by an image alone
unfoldable pub restored : Image → Stored
restored i = record {
  durable = durable_said i;
  rows = rows_said i;
  doubts = filter_map (λ x. doubt_in (rows_said i) x.state x) i.kept;
  scn = i.clock;
  top = i.top;
  generation = i.generation;
}

-- ---- the records that a start needs

-- these records from the last image among those behind them on, or else all
abbrev pub from_image : List RedoRecord → List RedoRecord → List RedoRecord
from_image since [] = since
from_image since (records.Image i ∷ rs) = from_image (records.Image i ∷ rs) rs
from_image since (_ ∷ rs) = from_image since rs

-- the records from the last image on, or all where there is none
abbrev pub since_image : List RedoRecord → List RedoRecord
since_image rs = from_image rs rs

-- ---- a checkpoint

-- the bytes of a name and of a branch
abbrev pub name_bytes : List ℕ → ℕ
name_bytes name = 1 + length name

-- those of what may be there, and takes so many
abbrev pub option_bytes : {A : Type 0} → ℕ → Option A → ℕ
option_bytes n None = 1
option_bytes n (Some x) = 1 + n

-- those of a list
abbrev pub list_bytes : {A : Type 0} → (A → ℕ) → List A → ℕ
list_bytes bytes xs = 4 + sum_by bytes xs

-- those of a table: of each column its name, its type, its width and two flags
abbrev pub table_bytes : Table → ℕ
table_bytes t = name_bytes t.name + 1 + sum_by (λ c. name_bytes c.name + 5) t.columns

-- those of a link, and of a synonym
abbrev pub link_bytes : Link → ℕ
link_bytes l = name_bytes l.name + name_bytes l.target

abbrev pub synonym_bytes : Synonym → ℕ
synonym_bytes y = name_bytes y.name + name_bytes y.table + name_bytes y.link

-- those of a row
abbrev pub row_bytes : Row → ℕ
row_bytes r = 1 + sum_by value_length r.cells

-- those of a kept branch: two branches of 13 bytes, two SCNs of 6, a decision of 7, the texts, and six bytes beside
abbrev pub item_bytes : KeptItem → ℕ
item_bytes x =
    13 + 13 + 6 + 6 + 6 + option_bytes 13 x.parent + list_bytes (λ p. 13 + name_bytes p.link) x.children + (2 + length x.comment)
    + option_bytes 7 x.decision + (4 + changes_length x.changes)

-- those of the body of an image
abbrev pub image_bytes : Image → ℕ
image_bytes i =
    2 + 8 + 6 + 6 + 4 + 1 + option_bytes 1 i.strength + list_bytes table_bytes i.tables + list_bytes link_bytes i.links
    + list_bytes synonym_bytes i.synonyms + sum_by (list_bytes row_bytes) i.rows + list_bytes item_bytes i.kept

-- the image is written, and says again what is stored
abbrev pub images : NodeState → TurnDraft
images k = record {
  after = with_record k (records.Image (image_at k.stored k.clock));
  wrote = Some (records.Image (image_at k.stored k.clock));
  says = [];
  ended = [];
}

-- a checkpoint: one turn with the image, or without a record where the image is too large
unfoldable pub checkpoint : NodeState → TurnDraft
checkpoint k = if nat_lt image_limit (image_bytes (image_at k.stored k.clock)) then nothing k else images k
