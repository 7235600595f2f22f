-- A table of a new name may be made: no rows stand under its name. A name that is used is refused.
use Rattle.std.proofs.Common.{◌≡◌, ℕ, true, false, if◌then◌else◌, [], Result, Ok, Err, IfOk, ap, ◌∙◌}
use Rattle.std.proofs.lemmas.Bool.{or_parts}
use Rattle.std.specs.List.{list_any}
use Rattle.node_rules.specs.Data.{Link, Synonym, Table}
use Rattle.node_rules.specs.Data.dones
use Rattle.node_rules.specs.Data.records
use Rattle.node_rules.specs.Words.{same_text}
use Rattle.node_rules.specs.NodeState.{NodeState}
use Rattle.node_rules.specs.Refusals.{ora}
use Rattle.node_rules.specs.Client.{create_link, create_synonym, create_table, is_link, is_used, refuses, writes}
use Rattle.node_ready_laws.specs.Rows.{HasRows}
use Rattle.node_ready_laws.proofs.TableLemmas.{under}
use Rattle.node_ready_laws.specs.Following.{MayFollow}

pub table_follows : (k : NodeState) (t : Table) → HasRows k → is_used k.stored.durable t.name ≡ false → MayFollow k.stored (records.Table t)
table_follows k t now free = record {
  listed = free;
  stored = under k.stored.durable.tables k.stored.rows now.names t.name ∙ (or_parts (list_any (λ u. same_text u.name t.name) k.stored.durable.tables) _ free).0;
}

-- ---- a name that is used

pub table_refused : (k : NodeState) (n : ℕ) (t : Table) → is_used k.stored.durable t.name ≡ true → create_table k n t ≡ refuses k n (ora 955 [])
table_refused k n t used = ap (λ hit. if hit then refuses k n (ora 955 []) else writes k n (records.Table t) dones.TableMade) used

pub link_refused : (k : NodeState) (n : ℕ) (l : Link) → is_link k.stored.durable l.name ≡ true → create_link k n l ≡ refuses k n (ora 2011 [])
link_refused k n l used = ap (λ hit. if hit then refuses k n (ora 2011 []) else writes k n (records.Link l) dones.LinkMade) used

pub synonym_refused : (k : NodeState) (n : ℕ) (y : Synonym) → is_used k.stored.durable y.name ≡ true → create_synonym k n y ≡ refuses k n (ora 955 [])
synonym_refused k n y used = ap (λ hit. if hit then refuses k n (ora 955 []) else writes k n (records.Synonym y) dones.SynonymMade) used

-- what holds whatever the node keeps holds of this one
pub at_node : {A E : Type 0} (r : Result A E) (P : A → NodeState → Type 0) (k : NodeState) → IfOk r (λ x. (j : NodeState) → P x j) → IfOk r (λ x. P x k)
at_node (Ok x) P k is = is k
at_node (Err e) P k is = is
