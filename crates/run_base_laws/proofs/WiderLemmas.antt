-- What is so of branches that began stays so when more of them are known.
use Rattle.std.proofs.Common.{ℕ, ◌+◌, List, [], ◌∷◌, Option, Some, None, inl, inr}
use Rattle.std.specs.Prelude.{IfSome}
use Rattle.node_rules.specs.Data.{BranchId, Kind, Edge, KeptRow, Live, RedoRecord}
use Rattle.node_rules.specs.Data.kinds
use Rattle.node_rules.specs.Data.records
use Rattle.redo_record.specs.Rows.{sealed_as, decided_as}
use Rattle.node_rules.specs.NodeState.{NodeState}
use Rattle.run_rules.specs.Births.{Born}
use Rattle.run_base_laws.specs.BirthLaws.{IsChild, IsChildAt, AreNeighbors, StandsBelow, ChildrenAre, LiveIs, TowardIs, KeptIs, OpeningIs, NamesAre, RecordNames, GoesSo}
use Rattle.run_rules.proofs.ListLemmas.{all_weaker}

module _ (B C : Born → Type 0) (each : (x : Born) → B x → C x) where
  child_wider : (c p : BranchId) → IsChild B c p → IsChild C c p
  child_wider c p is = (is.0, each is.0 is.1, is.2, is.3)

  child_at_wider : (c p : BranchId) (i : ℕ) → IsChildAt B c p i → IsChildAt C c p i
  child_at_wider c p i is = (is.0, each is.0 is.1, is.2, is.3, is.4)

  near_wider : (a b : BranchId) → AreNeighbors B a b → AreNeighbors C a b
  near_wider a b (inl up) = inl (child_wider a b up)
  near_wider a b (inr down) = inr (child_wider b a down)

  pub below_wider : (x : Born) (o : Option BranchId) → StandsBelow B x o → StandsBelow C x o
  below_wider x None is = is
  below_wider x (Some p) is = (is.0, each is.0 is.1, is.2, is.3, is.4)

  children_wider : (me : BranchId) (i : ℕ) (es : List Edge) → ChildrenAre B me i es → ChildrenAre C me i es
  children_wider me i [] all = tt
  children_wider me i (e ∷ es) all = (child_at_wider e.peer me i all.0, children_wider me (i + 1) es all.1)

  live_wider : (l : Live) → LiveIs B l → LiveIs C l
  live_wider l is = record {
    born = is.born;
    began = each is.born is.began;
    is_me = is.is_me;
    is_root = is.is_root;
    is_parent = is.is_parent;
    is_depth = is.is_depth;
    children = children_wider l.me 1 l.edges is.children;
  }

  toward_wider : (me : BranchId) (o : Option BranchId) → TowardIs B me o → TowardIs C me o
  toward_wider me None is = tt
  toward_wider me (Some b) is = near_wider me b is

  row_wider : (s : KeptRow) → KeptIs B s → KeptIs C s
  row_wider s is = record {
    born = is.born;
    began = each is.born is.began;
    is_me = is.is_me;
    is_root = is.is_root;
    is_parent = is.is_parent;
    kids = all_weaker (λ c. IsChild B c.branch s.me) (λ c. IsChild C c.branch s.me) (λ c so. child_wider c.branch s.me so) s.children is.kids;
    site_way = toward_wider s.me s.toward is.site_way;
  }

  pub record_wider : (r : RedoRecord) → RecordNames B r → RecordNames C r
  record_wider (records.Sealed r) is = row_wider (sealed_as r) is
  record_wider (records.Decided r) is = row_wider (decided_as r) is
  record_wider _ is = tt

  pub names_wider : (k : NodeState) → NamesAre B k → NamesAre C k
  names_wider k is = (
    all_weaker (LiveIs B) (LiveIs C) live_wider k.lives is.0,
    all_weaker (KeptIs B) (KeptIs C) row_wider k.stored.durable.kept is.1,
    all_weaker (OpeningIs B) (OpeningIs C) (λ o at. child_at_wider o.child o.parent o.edge at) k.opens is.2,
  )

  pub node_wider : (o : Option NodeState) → IfSome o (NamesAre B) → IfSome o (NamesAre C)
  node_wider None is = tt
  node_wider (Some k) is = names_wider k is

  pub goes_wider : (from to : BranchId) (kind : Kind) → GoesSo B from to kind → GoesSo C from to kind
  goes_wider from to (kinds.Open edge root depth read_at) is = (is.0, each is.0 is.1, is.2, is.3, is.4)
  goes_wider from to (kinds.Opened edge strength) is = child_at_wider from to edge is
  goes_wider from to (kinds.Exec call task) is = child_wider to from is
  goes_wider from to (kinds.Reply call weight count a) is = child_wider from to is
  goes_wider from to (kinds.Prepare site_below comment) is = child_wider to from is
  goes_wider from to kinds.Prepared is = child_wider from to is
  goes_wider from to kinds.ReadOnly is = child_wider from to is
  goes_wider from to kinds.Ready is = child_wider from to is
  goes_wider from to kinds.Abort is = child_wider from to is
  goes_wider from to kinds.CommitPoint is = child_wider to from is
  goes_wider from to (kinds.Committed n) is = near_wider from to is
  goes_wider from to kinds.RolledBack is = near_wider from to is
  goes_wider from to kinds.InDoubt is = near_wider from to is
  goes_wider from to kinds.Ack is = near_wider from to is
  goes_wider from to kinds.Forgotten is = near_wider from to is
  goes_wider from to kinds.Rollback is = child_wider to from is
  goes_wider from to kinds.Ask is = near_wider from to is
