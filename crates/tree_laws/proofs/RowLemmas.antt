-- Rows are made of records: what each seal and each decision says of its branch's neighbours, its row says of them, whatever else
-- happens to it. So rows have as toward what Prepares told.
use Rattle.std.proofs.Common.{◌≡◌, List, [], ◌∷◌, map, Option, sym, subst, refl}
use Rattle.std.specs.List.{AllByRecursion}
use Rattle.node_rules.specs.Data.{Sealed, Decided, Kid}
use Rattle.redo_record.specs.Rows.{sealed_as, decided_as}
use Rattle.node_rules.specs.Data.{BranchId, Post, RedoRecord, KeptRow}
use Rattle.node_rules.specs.Data.records
use Rattle.node_rules.specs.NodeState.{Stored, NodeState}
use Rattle.node_rules.specs.Records.{nothing_stored, stored_by}
use Rattle.run_base_laws.specs.NodeLaws.{unacked_kid, unacked_row, unacked}
use Rattle.run_rules.proofs.ListLemmas.{map_after}
use Rattle.run_base_laws.proofs.RowRecordLemmas.{RowCases, rows_stored}
use Rattle.tree_laws.specs.RecordLaws.{LeadsToward, RecordLeads}

-- the branch of a child
abbrev pub kid_branch : Kid → BranchId
kid_branch c = c.branch

-- what is so of a branch, its parent, its children and toward
module _ (Q : BranchId → Option BranchId → List BranchId → Option BranchId → Type 0) where
  abbrev pub RowSo : KeptRow → Type 0
  RowSo s = Q s.me s.parent (map kid_branch s.children) s.toward

  abbrev RowsSo : List KeptRow → Type 0
  RowsSo ks = AllByRecursion RowSo ks

  module _ (R : RedoRecord → Type 0) (seals : (r : Sealed) → R (records.Sealed r) → RowSo (sealed_as r)) (decides : (r : Decided) → R (records.Decided r) → RowSo (decided_as r)) where
    each_row : RowCases R RowSo
    each_row = record { seals = seals; decides = decides; ends = λ n x so. so; forces = λ d x so. so; meets = λ d mixed x so. so; forgets = λ x so. so; hides = λ x so. so }

    unmapped : (ks : List KeptRow) → RowsSo (map unacked_row ks) → RowsSo ks
    unmapped [] all = tt
    unmapped (s ∷ ks) all = (subst (λ cs. Q s.me s.parent cs s.toward) (map_after kid_branch unacked_kid kid_branch (λ c. refl) s.children) all.0, unmapped ks all.1)

    -- so the rows of a node whose disk has such records are so
    pub rows_so : (k : NodeState) (rs : List RedoRecord) → unacked k.stored ≡ stored_by nothing_stored rs → AllByRecursion R rs → RowsSo k.stored.durable.kept
    rows_so k rs is all = unmapped k.stored.durable.kept (subst (λ (s : Stored). RowsSo s.durable.kept) (sym is) (rows_stored each_row nothing_stored rs all tt))

module _ (said : List Post) where
  -- a row has as toward what Prepares told
  abbrev pub RowLeads : KeptRow → Type 0
  RowLeads s = LeadsToward said s.me s.parent s.toward

  pub rows_lead : (k : NodeState) (rs : List RedoRecord) → unacked k.stored ≡ stored_by nothing_stored rs → AllByRecursion (RecordLeads said) rs → AllByRecursion RowLeads k.stored.durable.kept
  rows_lead k rs is all =
      rows_so (λ me parent kids toward. LeadsToward said me parent toward) (RecordLeads said) (λ r lead. subst (LeadsToward said r.me r.parent) (sym lead.1) lead.2) (λ r lead. lead) k rs is all
