-- A ready node meets the conditions of the calls of this crate.
use Rattle.std.proofs.Common.{◌≡◌, ℕ, zero, suc, ◌<◌, ◌≤◌, ◌^◌, List, [], ◌∷◌, length, slice_get, slice_set, unwrap_or, Option, None, Some, IfSome, refl, arith}
use Rattle.std.specs.List.{AllByRecursion}
use Rattle.dtx_values.specs.Limits.{link_limit}
use Rattle.tran_ids.specs.declared.branch.BranchId.{BranchId}
use Rattle.tran_ids.specs.Listed.{item_at, numbered, set_numbered}
use Rattle.tran_ids.proofs.NumberedLemmas.{set_length}
use Rattle.session_tree.specs.Tree.{count}
use Rattle.node_rules.specs.Data.{Edge, Live}
use Rattle.node_rules.specs.declared.session.Session.{Session}
use Rattle.node_rules.specs.declared.work.Going.{Going}
use Rattle.node_rules.specs.declared.work.Waits.{Waits}
use Rattle.node_rules.specs.declared.work.Waits.TheVariants as waiting
use Rattle.node_rules.specs.NodeState.{live_id}
use Rattle.node_rules.specs.LiveBranches.{works_of}
use Rattle.node_rules.specs.Sessions.{fresh_session}
use Rattle.node_ready_laws.proofs.GiveLemmas.{sum_few}
use Rattle.node_ready_laws.specs.Gives.{ChildrenAreFew, NextCallsAreWithin}
use Rattle.node_ready_laws.specs.Ids.{NewIdsAreNew}
use Rattle.node_ready_laws.specs.Names.{EmptyNameIsFree}
use Rattle.node_ready_laws.specs.Shapes.{count_limit, IsShaped, LinksAllow as HasRoomShape, HasRoomFor as HasRoomForShape}
use Rattle.node_state.specs.Lives.{as_told, heard, told}
use Rattle.node_memory.specs.declared.memory.Memory.{Memory}
use Rattle.node_memory.specs.Parts.{kept_in}
use Rattle.node_calls.specs.Handled.{EdgesHaveNumbers, ChildrenLeaveRoom, HasRoomWhile}
use Rattle.node_calls.specs.Ready.{IsReadyUpTo, BranchesMayOpen, OpenedMayCome, RepliesMayCome, StatementsMayCome, TransactionsMayBegin}

-- ---- items by number

module _ {A : Type 0} (P : A → Type 0) where
  all_got : (xs : List A) (i : ℕ) (x : A) → AllByRecursion P xs → P x → P (unwrap_or (slice_get xs i) x)
  all_got [] zero x all other = other
  all_got [] (suc i) x all other = other
  all_got (y ∷ ys) zero x all other = all.0
  all_got (y ∷ ys) (suc i) x all other = all_got ys i x all.1 other

  all_numbered : (xs : List A) (i : ℕ) (x : A) → AllByRecursion P xs → P x → P (unwrap_or (numbered xs i) x)
  all_numbered xs zero x all other = other
  all_numbered xs (suc i) x all other = all_got xs i x all other

  all_set : (xs : List A) (i : ℕ) (x : A) → AllByRecursion P xs → P x → AllByRecursion P (slice_set xs i x)
  all_set [] i x all new = tt
  all_set (y ∷ ys) zero x all new = (new, all.1)
  all_set (y ∷ ys) (suc i) x all new = (all.0, all_set ys i x all.1 new)

  all_at : (xs : List A) (i : ℕ) (x : A) → AllByRecursion P xs → P x → AllByRecursion P (set_numbered xs i x)
  all_at xs zero x all new = all
  all_at xs (suc i) x all new = all_set xs i x all new

-- ---- how many branches the children of a branch have told of

abbrev TellsFew : Edge → Type 0
TellsFew e = e.count ≤ count_limit

-- once one more has told of few
module _ (i : ℕ) (weight : Option ℕ) (n : ℕ) (few : n ≤ count_limit) where
  told_few : (es : List Edge) (o : Option Edge) → AllByRecursion TellsFew es → AllByRecursion TellsFew (told i weight n es o)
  told_few es None all = all
  told_few es (Some e) all = all_at TellsFew es i (as_told weight n e) all few

  told_length : (es : List Edge) (o : Option Edge) → length (told i weight n es o) ≡ length es
  told_length es None = refl
  told_length es (Some e) = set_length es i (as_told weight n e)

  heard_few : (l : Live) → length l.edges ≤ link_limit → AllByRecursion TellsFew l.edges → count (heard i weight n l) < 2 ^ 16
  heard_few l room all =
      let sum = sum_few (told i weight n l.edges (numbered l.edges i)) (told_few l.edges (numbered l.edges i) all) in
      let same = told_length l.edges (numbered l.edges i) in
      omega (arith, room, sum, same)

-- ---- room for a child

room_for : (links children : ℕ) (waits : Waits) → links ≤ link_limit → HasRoomForShape links children waits → ChildrenLeaveRoom children waits
room_for links children (waiting.ForOpened link) low room = omega (arith, low, room)
room_for links children (waiting.ForReply i) low room = tt

room_while : (links children : ℕ) (g : Option Going) → links ≤ link_limit → HasRoomShape links children g → HasRoomWhile children g
room_while links children None low room = tt
room_while links children (Some g) low room = room_for links children g.waits low room

-- ---- the conditions

module _ (few : ChildrenAreFew) (next : NextCallsAreWithin) (empty : EmptyNameIsFree) (new : NewIdsAreNew) where
  has_few : (n : ℕ) (m : Memory) → IsReadyUpTo n m → (b : BranchId) (o : Option Live) → item_at live_id m.lives b ≡ o → IfSome o (λ l. count l < 2 ^ 16)
  has_few n m now b None is = tt
  has_few n m now b (Some l) is = (few m.place (kept_in m) b l now.links now.ready.shape is).1

  has_numbers : (n : ℕ) (m : Memory) → IsReadyUpTo n m → (b : BranchId) → EdgesHaveNumbers m b
  has_numbers n m now b i = let low = next (kept_in m) n now.within b i in omega (arith, low, now.low)

  pub statements_may_come : StatementsMayCome
  statements_may_come n m now b s = record {
    few = has_few n m now b (item_at live_id m.lives b) refl;
    numbers = has_numbers n m now b;
    nodes = now.nodes;
    nameless = λ none. empty (kept_in m) now.ready.rows now.ready.names;
    rows = now.ready.rows;
  }

  pub transactions_may_begin : TransactionsMayBegin
  transactions_may_begin n m now session is =
      let low = all_numbered (λ (s : Session). s.seq ≤ n) m.sessions session fresh_session now.within.seqs (omega arith) in
      (omega (arith, low, now.low), ((new m.place (kept_in m) now.ready.ids).1 session is).0)

  pub branches_may_open : BranchesMayOpen
  branches_may_open n m now = (omega (arith, now.within.opens, now.low), (new m.place (kept_in m) now.ready.ids).0.0)

  has_room : (n : ℕ) (m : Memory) → IsReadyUpTo n m → (b : BranchId) (o : Option Live) → item_at live_id m.lives b ≡ o → IfSome o (λ l. HasRoomWhile (length l.edges) (works_of m.works b).going)
  has_room n m now b None is = tt
  has_room n m now b (Some l) is =
      let shape : IsShaped m.place.links l (works_of m.works b) = now.ready.shape.each b l is in
      room_while m.place.links (length l.edges) (works_of m.works b).going now.links shape.room

  pub opened_may_come : OpenedMayCome
  opened_may_come n m now b = (has_room n m now b (item_at live_id m.lives b) refl, has_numbers n m now b)

  has_few_with : (n : ℕ) (m : Memory) → IsReadyUpTo n m → (b : BranchId) (weight : Option ℕ) (told : ℕ) → told ≤ count_limit → (i : ℕ) (o : Option Live) → item_at live_id m.lives b ≡ o
      → IfSome o (λ l. count (heard i weight told l) < 2 ^ 16)
  has_few_with n m now b weight told low i None is = tt
  has_few_with n m now b weight told low i (Some l) is =
      let shape : IsShaped m.place.links l (works_of m.works b) = now.ready.shape.each b l is in
      heard_few i weight told low l (few m.place (kept_in m) b l now.links now.ready.shape is).0 shape.counts

  pub replies_may_come : RepliesMayCome
  replies_may_come n m now b weight told low i = has_few_with n m now b weight told low i (item_at live_id m.lives b) refl
