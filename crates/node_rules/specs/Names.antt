-- What a statement's table name means at a node, and where the statement goes from a branch: it runs here, goes to a
-- child, opens a link, or is refused. (Database Administrator's Guide, "Managing a Distributed Database": database links
-- and synonyms.)
use Rattle.std.specs.Prelude.{ℕ, ◌+◌, ◌==◌, ◌&&◌, ◌||◌, Bool, true, if◌then◌else◌, List, [], find, length, position, nat_le, is_some, option_map, Option, Some, None}
use Rattle.dtx_values.specs.Limits.{depth_limit}
use Rattle.node_rules.specs.Data.{Table, TableRef, Link, Synonym, Stmt, Refusal, Durable, Live, Place}
use Rattle.node_rules.specs.Data.stmts
use Rattle.node_rules.specs.Words.{same_text}
use Rattle.node_rules.specs.Refusals.{ora, dtx}
use Rattle.session_tree.specs.Live.{edge_by_link}
use Rattle.session_tree.specs.Tree.{room}

-- What a statement's table name means at a node.
pub data Named : Type 0 where
  A_table : (table : Table) → Named  -- a table of this node
  Behind : (link table : List ℕ) → Named  -- a table behind a link
  Unknown : Named  -- neither table nor synonym

-- the table that a synonym stands for
abbrev pub synonym_named : Option Synonym → Named
synonym_named None = Unknown
synonym_named (Some y) = Behind y.link y.table

-- a table, or else a synonym
abbrev pub table_named : Durable → List ℕ → Option Table → Named
table_named d name (Some t) = A_table t
table_named d name None = synonym_named (find (λ y. same_text y.name name) d.synonyms)

-- the table of a name
abbrev pub table_of : Durable → List ℕ → Option Table
table_of d name = find (λ t. same_text t.name name) d.tables

-- a name behind a link, or a bare name
abbrev pub ref_named : Durable → TableRef → Option (List ℕ) → Named
ref_named d ref (Some link) = Behind link ref.name
ref_named d ref None = table_named d ref.name (table_of d ref.name)

-- what a statement's name of a table means
abbrev pub named_by : Durable → TableRef → Named
named_by d ref = ref_named d ref ref.link

-- no table
abbrev pub no_ref : TableRef
no_ref = record { name = []; link = None }

-- the table that a statement names
abbrev pub ref_of : Stmt → TableRef
ref_of (stmts.Insert table columns given) = table
ref_of (stmts.Update table sets cs) = table
ref_of (stmts.Delete table cs) = table
ref_of (stmts.Select list table cs for_update) = table
ref_of _ = no_ref

-- a bare name
abbrev pub bare : List ℕ → TableRef
bare name = record { name = name; link = None }

-- a node that passes a statement on names the table barely
abbrev pub passed_on : Stmt → List ℕ → Stmt
passed_on (stmts.Insert table columns given) name = stmts.Insert (bare name) columns given
passed_on (stmts.Update table sets cs) name = stmts.Update (bare name) sets cs
passed_on (stmts.Delete table cs) name = stmts.Delete (bare name) cs
passed_on (stmts.Select list table cs for_update) name = stmts.Select list (bare name) cs for_update
passed_on s name = s

-- the number of the node that a link leads to
abbrev pub node_named : List (List ℕ) → Option Link → Option ℕ
node_named names None = None
node_named names (Some l) = option_map (λ i. i + 1) (position (same_text l.target) names)

-- the number of the node that a link of the catalog leads to
abbrev pub target_of : Place → Durable → List ℕ → Option ℕ
target_of p d link = node_named p.names (find (λ l. same_text l.name link) d.links)

-- Where a statement goes from a branch.
pub data Way : Type 0 where
  Runs_here : (table : Table) → Way  -- it runs at this node
  Over : (edge : ℕ) (table : List ℕ) → Way  -- to a child that is there
  Through : (node : ℕ) (link table : List ℕ) → Way  -- over a link that is used for the first time
  Nowhere_to : (refusal : Refusal) → Way  -- it is refused

-- a link without a child: DTX-02 where the tree is too deep or too wide, then ORA-02020 where the branch has too many links
abbrev pub way_new : Place → Live → ℕ → ℕ → List ℕ → List ℕ → Way
way_new p l given node link table =
    if nat_le depth_limit l.depth || (room l given == 0) then Nowhere_to (dtx 2 [])
    else (if nat_le p.links (length l.edges) then Nowhere_to (ora 2020 []) else Through node link table)

-- the child of the link, or a new one
abbrev pub way_edge : Place → Live → ℕ → ℕ → List ℕ → List ℕ → Option ℕ → Way
way_edge p l given node link table (Some i) = Over i table
way_edge p l given node link table None = way_new p l given node link table

-- ORA-02019 where the link leads nowhere
abbrev pub way_target : Place → Live → ℕ → List ℕ → List ℕ → Option ℕ → Way
way_target p l given link table None = Nowhere_to (ora 2019 [])
way_target p l given link table (Some node) = way_edge p l given node link table (edge_by_link l link)

-- ORA-00942 where the name is unknown
abbrev pub way_named : Place → Durable → Live → ℕ → Named → Way
way_named p d l given Unknown = Nowhere_to (ora 942 [])
way_named p d l given (A_table t) = Runs_here t
way_named p d l given (Behind link table) = way_target p l given link table (target_of p d link)

-- whether a statement with a table writes rows or locks them
abbrev pub is_write : Stmt → Bool
is_write (stmts.Select list table cs for_update) = for_update
is_write _ = true

-- where a statement goes from a live branch, with the room that its Exec carried; DTX-21 where a READ ONLY branch would write
unfoldable pub way_of : Place → Durable → Live → ℕ → Stmt → Way
way_of p d l given s = if is_some l.read_at && is_write s then Nowhere_to (dtx 21 []) else way_named p d l given (named_by d (ref_of s))
