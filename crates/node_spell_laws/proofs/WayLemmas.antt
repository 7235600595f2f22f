-- Under which name a statement is passed on.
use Rattle.std.proofs.Common.{◌≡◌, ℕ, ◌&&◌, Bool, true, false, if◌then◌else◌, List, [], find, Option, Some, None, refl}
use Rattle.std.specs.List.{AllByRecursion}
use Rattle.std.specs.Prelude.{is_some}
use Rattle.std.proofs.lemmas.Bool.{cond_both}
use Rattle.node_rules.specs.Data.{Table, Synonym, TableRef, Stmt, Durable, Live, Place}
use Rattle.node_rules.specs.Data.answers
use Rattle.node_rules.specs.Words.{same_text}
use Rattle.node_rules.specs.Refusals.{ora, dtx}
use Rattle.session_tree.specs.Live.{edge_by_link}
use Rattle.node_rules.specs.Names.{Way, Runs_here, Over, Through, Nowhere_to, synonym_named, table_named, table_of, ref_named, ref_of, target_of, way_edge, way_target, way_named, way_of, is_write}
use Rattle.node_ready_laws.proofs.ListLemmas.{all_found}
use Rattle.node_spell_laws.specs.Bytes.{IsTableName, AnswerHasBytes}

-- a statement goes on under a name, and a refusal of it can be sent
abbrev pub IsNamedWay : Way → Type 0
IsNamedWay (Over i table) = IsTableName table
IsNamedWay (Through node link table) = IsTableName table
IsNamedWay (Nowhere_to r) = AnswerHasBytes (answers.Refused r)
IsNamedWay (Runs_here t) = Unit {0}

module _ (p : Place) (d : Durable) (l : Live) (given : ℕ) (names : AllByRecursion (λ y. IsTableName y.table) d.synonyms) where
  new_named : (node : ℕ) (link table : List ℕ) (deep many : Bool) → IsTableName table
      → IsNamedWay (if deep then Nowhere_to (dtx 2 []) else (if many then Nowhere_to (ora 2020 []) else Through node link table))
  new_named node link table true many named = tt
  new_named node link table false true named = tt
  new_named node link table false false named = named

  edge_named : (node : ℕ) (link table : List ℕ) (o : Option ℕ) → IsTableName table → IsNamedWay (way_edge p l given node link table o)
  edge_named node link table (Some i) named = named
  edge_named node link table None named = new_named node link table _ _ named

  target_named : (link table : List ℕ) (o : Option ℕ) → IsTableName table → IsNamedWay (way_target p l given link table o)
  target_named link table None named = tt
  target_named link table (Some node) named = edge_named node link table (edge_by_link l link) named

  synonym_way : (name : List ℕ) (o : Option Synonym) → find (λ y. same_text y.name name) d.synonyms ≡ o → IsNamedWay (way_named p d l given (synonym_named o))
  synonym_way name None is = tt
  synonym_way name (Some y) is = target_named y.link y.table (target_of p d y.link) (all_found (λ x. IsTableName x.table) (λ x. same_text x.name name) d.synonyms y names is)

  bare_way : (name : List ℕ) (o : Option Table) → IsNamedWay (way_named p d l given (table_named d name o))
  bare_way name (Some t) = tt
  bare_way name None = synonym_way name (find (λ y. same_text y.name name) d.synonyms) refl

  ref_way : (ref : TableRef) (o : Option (List ℕ)) → IsTableName ref.name → IsNamedWay (way_named p d l given (ref_named d ref o))
  ref_way ref (Some link) named = target_named link ref.name (target_of p d link) named
  ref_way ref None named = bare_way ref.name (table_of d ref.name)

  pub way_is_named : (s : Stmt) → IsTableName (ref_of s).name → IsNamedWay (way_of p d l given s)
  unfolding way_of
  way_is_named s named = cond_both (is_some l.read_at && is_write s) _ _ IsNamedWay (λ write. tt) (λ may. ref_way (ref_of s) (ref_of s).link named)
