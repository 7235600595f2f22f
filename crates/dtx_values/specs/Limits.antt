-- The limits of everything that a script, a statement, a message or a record may hold. Each number stands here alone.
use Rattle.std.specs.Prelude.{ℕ}

-- the most bytes of an identifier
abbrev pub identifier_limit : ℕ
identifier_limit = 30

-- the most bytes of a name, its dots included
abbrev pub name_limit : ℕ
name_limit = 128

-- the most bytes of a text, and of the texts of a column
abbrev pub text_limit : ℕ
text_limit = 2000

-- the most bytes of a comment
abbrev pub comment_limit : ℕ
comment_limit = 255

-- the most bytes of a transaction id in a statement
abbrev pub id_limit : ℕ
id_limit = 2000

-- the most columns of a table
abbrev pub column_limit : ℕ
column_limit = 32

-- the most names in the list of a SELECT
abbrev pub select_limit : ℕ
select_limit = 255

-- the most bytes of the changes of one branch: 8 MiB
abbrev pub changes_limit : ℕ
changes_limit = 8388608

-- the bytes of an undo extent
abbrev pub extent_size : ℕ
extent_size = 4096

-- the undo extents of a node where its NODE command names no number
abbrev pub usual_extents : ℕ
usual_extents = 64

-- the most undo extents of a node
abbrev pub extents_limit : ℕ
extents_limit = 1024

-- the greatest commit point strength
abbrev pub strength_limit : ℕ
strength_limit = 255

-- the links that a branch may have open where its node's NODE command names no number
abbrev pub usual_links : ℕ
usual_links = 4

-- the most links that a branch may have open, whatever the NODE command says, and so the most children of a branch
abbrev pub link_limit : ℕ
link_limit = 64

-- the most branches of a session tree
abbrev pub branch_limit : ℕ
branch_limit = 256

-- the greatest depth of a branch in its session tree, where the root has depth 1
abbrev pub depth_limit : ℕ
depth_limit = 8

-- the greatest SCN: 2 ^ 48 - 1
abbrev pub scn_limit : ℕ
scn_limit = 281474976710655

-- the sessions of clients at a node, numbered from 1
abbrev pub session_limit : ℕ
session_limit = 64

-- the most nodes of a script
abbrev pub node_limit : ℕ
node_limit = 16

-- the most deliveries in the course of one command
abbrev pub delivery_limit : ℕ
delivery_limit = 4096

-- the most bytes of a script: 1 MiB
abbrev pub script_limit : ℕ
script_limit = 1048576

-- the commits of a node that READ ONLY transactions can look behind
abbrev pub version_limit : ℕ
version_limit = 64

-- the most bytes of an image's body: 16 MiB
abbrev pub image_limit : ℕ
image_limit = 16777216
