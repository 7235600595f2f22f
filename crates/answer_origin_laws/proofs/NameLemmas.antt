-- What a name of a table means at a node is what its records say.
use Rattle.std.proofs.Common.{◌≡◌, ℕ, List, [], ◌∷◌, find, Option, Some, None, refl, sym, ap, ◌∙◌}
use Rattle.std.specs.Prelude.{fold}
use Rattle.redo_record.specs.Durable.{durable, durable_after}
use Rattle.node_rules.specs.Data.{Table, TableRef, Synonym, RedoRecord, Durable}
use Rattle.node_rules.specs.NodeState.{NodeState, Stored}
use Rattle.node_rules.specs.Names.{A_table, synonym_named, table_named, table_of, ref_named, named_by}
use Rattle.node_rules.specs.Records.{applied, nothing_stored, stored_by}
use Rattle.node_rules.specs.Words.{same_text}
use Rattle.run_base_laws.proofs.StoredLemmas.{StoresOf}

durable_stored : (s : Stored) (rs : List RedoRecord) → (stored_by s rs).durable ≡ fold durable_after s.durable rs
unfolding stored_by applied
durable_stored s [] = refl
durable_stored s (r ∷ rs) = durable_stored (applied s r) rs

-- the catalog of a node is that of its records
pub record OneCatalog (d e : Durable) : Type 0 where
  pub tables : d.tables ≡ e.tables
  pub links : d.links ≡ e.links
  pub synonyms : d.synonyms ≡ e.synonyms

pub catalog_kept : (k : NodeState) (rs : List RedoRecord) → StoresOf rs k → OneCatalog k.stored.durable (durable rs)
catalog_kept k rs is =
    let both : fold durable_after nothing_stored.durable rs ≡ (stored_by nothing_stored rs).durable = sym (durable_stored nothing_stored rs) in
    record {
      tables = ap (λ (s : Stored). s.durable.tables) is ∙ ap (λ (d : Durable). d.tables) (sym both);
      links = ap (λ (s : Stored). s.durable.links) is ∙ ap (λ (d : Durable). d.links) (sym both);
      synonyms = ap (λ (s : Stored). s.durable.synonyms) is ∙ ap (λ (d : Durable). d.synonyms) (sym both);
    }

module _ (d e : Durable) (one : OneCatalog d e) where
  pub same_table : (name : List ℕ) → table_of d name ≡ table_of e name
  same_table name = ap (find (λ (t : Table). same_text t.name name)) one.tables

  same_named : (name : List ℕ) (o : Option Table) → table_named d name o ≡ table_named e name o
  same_named name None = ap (λ ys. synonym_named (find (λ (y : Synonym). same_text y.name name) ys)) one.synonyms
  same_named name (Some t) = refl

  same_ref : (ref : TableRef) (o : Option (List ℕ)) → ref_named d ref o ≡ ref_named e ref o
  same_ref ref (Some link) = refl
  same_ref ref None = ap (table_named d ref.name) (same_table ref.name) ∙ same_named ref.name (table_of e ref.name)

  pub same_names : (ref : TableRef) → named_by d ref ≡ named_by e ref
  same_names ref = same_ref ref ref.link

-- a name that is a table's is bare
synonym_not : (o : Option Synonym) (t : Table) → synonym_named o ≡ A_table t → ⊥
synonym_not None t is = absurd cc
synonym_not (Some y) t is = absurd cc

table_by_name : (d : Durable) (name : List ℕ) (o : Option Table) (t : Table) → table_named d name o ≡ A_table t → o ≡ Some t
table_by_name d name None t is = absurd (synonym_not _ t is)
table_by_name d name (Some x) t is = let it : A_table x ≡ A_table t = is in let here : x ≡ t = cc in ap Some here

table_by_ref : (d : Durable) (ref : TableRef) (o : Option (List ℕ)) (t : Table) → ref_named d ref o ≡ A_table t → (o ≡ None) × (table_of d ref.name ≡ Some t)
table_by_ref d ref None t is = (refl, table_by_name d ref.name (table_of d ref.name) t is)
table_by_ref d ref (Some link) t is = absurd cc

pub table_at : (d : Durable) (ref : TableRef) (t : Table) → named_by d ref ≡ A_table t → (ref.link ≡ None) × (table_of d ref.name ≡ Some t)
table_at d ref t is = table_by_ref d ref ref.link t is
