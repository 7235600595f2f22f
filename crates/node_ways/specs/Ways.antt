-- What the rules say of names and ways, where these stand in memory, and the catalog of a node as its records leave it.
use Rattle.std.specs.Prelude.{Bool, true, false, [], None}
use Rattle.catalog.specs.Catalog.{Listed}
use Rattle.node_rules.specs.Data.{Stmt, Durable}
use Rattle.node_rules.specs.Data.stmts
use Rattle.node_rules.specs.Names.{Named as NamedByRules, A_table, Behind as Behind_link, Unknown as Is_unknown, Way as WayByRules, Runs_here, Over as Goes_over, Through as Goes_through, Nowhere_to}
use Rattle.node_ways.specs.declared.named.Named.{Named}
use Rattle.node_ways.specs.declared.named.Named.TheVariants as names
use Rattle.node_ways.specs.declared.way.Way.{Way}
use Rattle.node_ways.specs.declared.way.Way.TheVariants as ways

-- the catalog of a node by what its records leave
abbrev pub listed_of : Durable → Listed
listed_of d = record { recovery = d.recovery; tables = d.tables; links = d.links; synonyms = d.synonyms }

-- what records leave of a node with this catalog that keeps no branch
abbrev pub durable_with : Listed → Durable
durable_with c = record { boot = 0; recovery = c.recovery; tables = c.tables; links = c.links; synonyms = c.synonyms; kept = []; strength = None }

-- what a name means
abbrev pub named_as : Named → NamedByRules
named_as (names.Table t) = A_table t.now
named_as (names.Behind link table) = Behind_link link.now table.now
named_as names.Unknown = Is_unknown

-- where a statement goes
abbrev pub way_as : Way → WayByRules
way_as (ways.RunsHere t) = Runs_here t.now
way_as (ways.Over edge table) = Goes_over edge table.now
way_as (ways.Through node link table) = Goes_through node link.now table.now
way_as (ways.NowhereTo refusal) = Nowhere_to refusal

-- whether a statement names a table
abbrev pub has_table : Stmt → Bool
has_table (stmts.Insert table columns given) = true
has_table (stmts.Update table sets cs) = true
has_table (stmts.Delete table cs) = true
has_table (stmts.Select list table cs for_update) = true
has_table _ = false
