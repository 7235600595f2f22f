-- What the catalog of a node names between turns: each link and each synonym has a name, and names what has one.
use Rattle.std.specs.Prelude.{◌≡◌, false, List, [], Some}
use Rattle.std.specs.List.{AllByRecursion}
use Rattle.catalog.specs.Catalog.{is_used}
use Rattle.sql_statement.specs.Whole.{IsName}
use Rattle.node_rules.specs.Data.{Link, Synonym, Stmt, Place, Input}
use Rattle.node_rules.specs.Data.stmts
use Rattle.node_rules.specs.Data.inputs
use Rattle.node_rules.specs.NodeState.{NodeState}
use Rattle.node_rules.specs.Inputs.{IsFit}
use Rattle.node_rules.specs.Turn.{turn_of}
use Rattle.node_ready_laws.specs.Rows.{HasRows}
use Rattle.node_ready_laws.specs.Following.{listed_in}

-- a link to a node
abbrev pub IsNamedLink : Link → Type 0
IsNamedLink l = IsName l.name × IsName l.target

-- a synonym of a table behind a link
abbrev pub IsNamedSynonym : Synonym → Type 0
IsNamedSynonym y = IsName y.name × IsName y.table × IsName y.link

-- Links and synonyms that are so.
pub record AreNamed (ls : List Link) (ys : List Synonym) : Type 0 where
  pub links : AllByRecursion IsNamedLink ls
  pub synonyms : AllByRecursion IsNamedSynonym ys

-- a node whose links and synonyms are so
abbrev pub HasNames : NodeState → Type 0
HasNames k = AreNamed k.stored.durable.links k.stored.durable.synonyms

-- a statement that makes a link or a synonym makes one that is so
abbrev pub MakesNamed : Stmt → Type 0
MakesNamed (stmts.CreateLink l) = IsNamedLink l
MakesNamed (stmts.CreateSynonym y) = IsNamedSynonym y
MakesNamed _ = Unit {0}

-- so does a call, if its statement makes one
abbrev pub BringsNamed : Input → Type 0
BringsNamed (inputs.Call session (Some s)) = MakesNamed s
BringsNamed _ = Unit {0}

-- each turn leaves them so
abbrev pub NamesStay : Type 0
NamesStay = (p : Place) (k : NodeState) (input : Input) → IsFit input → BringsNamed input → HasNames k → HasNames (turn_of p k input).after

-- no table or synonym has the empty name, by which statements without a table go
abbrev pub EmptyNameIsFree : Type 0
EmptyNameIsFree = (k : NodeState) → HasRows k → HasNames k → is_used (listed_in k.stored.durable) [] ≡ false
