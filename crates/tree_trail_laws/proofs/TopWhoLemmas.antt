-- Whom an input concerns, as a root sees it, and which root begins with it.
use Rattle.std.proofs.Common.{◌≡◌, ◌≢◌, ℕ, ◌⊎◌, not, Bool, true, false, if◌then◌else◌, find, List, [], ◌∷◌, ◌++◌, Option, Some, None, inl, inr, refl, sym, ap, subst, ◌∙◌}
use Rattle.std.proofs.lemmas.Bool.{cases_eq}
use Rattle.tran_ids.proofs.BranchLemmas.{equal_from_same}
use Rattle.node_rules.specs.Data.{BranchId, Kind, Msg, Opening, Stmt, Input, Place}
use Rattle.node_rules.specs.Calls.{is_opening, strength_of}
use Rattle.node_rules.specs.Data.inputs
use Rattle.node_rules.specs.Data.kinds
use Rattle.node_rules.specs.Data.stmts
use Rattle.node_rules.specs.Words.{same}
use Rattle.node_rules.specs.NodeState.{NodeState}
use Rattle.node_rules.specs.Sessions.{session_at}
use Rattle.node_rules.specs.Client.{new_root}
use Rattle.node_rules.proofs.Steps.{IsOfRows}
use Rattle.run_rules.specs.Births.{Born, root_born, roots_by, births_by_open, births_by_kind, births_by, born_at, read_at_by}
use Rattle.run_rules.specs.Runs.{is_of_rows, begins_transaction}
use Rattle.tree_trail_laws.proofs.UntouchedLemmas.{Concerns_root, Of_rows, Is_commit, Is_rollback, Gives_up, Is_savepoint, Is_back_to}
use Rattle.tree_trail_laws.proofs.LowerLivesLemmas.{bool_cases}

-- Whom an input concerns, as a root sees it.
pub data Who (input : Input) (b : BranchId) : Type 0 where
  Message_to : (m : Msg) → input ≡ inputs.Message m → m.to ≡ b → Who input b
  Rows_of : (s : Stmt) → input ≡ inputs.Call b.session (Some s) → is_of_rows s ≡ true → Who input b
  Sets_savepoint : (name : List ℕ) → input ≡ inputs.Call b.session (Some (stmts.Savepoint name)) → Who input b
  Goes_back_to : (name : List ℕ) → input ≡ inputs.Call b.session (Some (stmts.RollbackTo name)) → Who input b
  Commits : (given : Option (List ℕ)) → input ≡ inputs.Call b.session (Some (stmts.Commit given)) → Who input b
  Rolls_back : input ≡ inputs.Call b.session (Some stmts.Rollback) → Who input b
  Is_given_up : input ≡ inputs.GiveUp b.session → Who input b
  Others : ((m : Msg) → input ≡ inputs.Message m → same m.to b ≡ false) → ((n : ℕ) → Concerns_root input n → n ≢ b.session) → Who input b

-- whether a statement concerns the root of its session
abbrev is_roots : Stmt → Bool
is_roots (stmts.Insert table columns given) = true
is_roots (stmts.Update table sets cs) = true
is_roots (stmts.Delete table cs) = true
is_roots (stmts.Select list table cs for_update) = true
is_roots (stmts.Savepoint name) = true
is_roots (stmts.RollbackTo name) = true
is_roots (stmts.Commit given) = true
is_roots stmts.Rollback = true
is_roots _ = false

rows_are : (s : Stmt) → IsOfRows s → is_roots s ≡ true
rows_are (stmts.Insert table columns given) rows = refl
rows_are (stmts.Update table sets cs) rows = refl
rows_are (stmts.Delete table cs) rows = refl
rows_are (stmts.Select list table cs for_update) rows = refl
rows_are _ rows = absurd rows

-- What such a statement is.
data Concerning : Stmt → Type 0 where
  Is_of_rows : (s : Stmt) → is_of_rows s ≡ true → Concerning s
  Is_mark : (name : List ℕ) → Concerning (stmts.Savepoint name)
  Is_way_back : (name : List ℕ) → Concerning (stmts.RollbackTo name)
  Is_end : (given : Option (List ℕ)) → Concerning (stmts.Commit given)
  Is_roll : Concerning stmts.Rollback

kind_of : (s : Stmt) → is_roots s ≡ true → Concerning s
kind_of (stmts.Insert table columns given) its = Is_of_rows (stmts.Insert table columns given) refl
kind_of (stmts.Update table sets cs) its = Is_of_rows (stmts.Update table sets cs) refl
kind_of (stmts.Delete table cs) its = Is_of_rows (stmts.Delete table cs) refl
kind_of (stmts.Select list table cs for_update) its = Is_of_rows (stmts.Select list table cs for_update) refl
kind_of (stmts.Savepoint name) its = Is_mark name
kind_of (stmts.RollbackTo name) its = Is_way_back name
kind_of (stmts.Commit given) its = Is_end given
kind_of stmts.Rollback its = Is_roll
kind_of _ its = absurd cc

pub one_call : (n m : ℕ) (o p : Option Stmt) → inputs.Call n o ≡ inputs.Call m p → (n ≡ m) × (o ≡ p)
one_call n m o p is = (cc, cc)

call_roots : (n : ℕ) (s : Stmt) (m : ℕ) → Concerns_root (inputs.Call n (Some s)) m → is_roots s ≡ true
call_roots n s m (Of_rows x call rows) = (let it : Some s ≡ Some x = (one_call n m (Some s) (Some x) call).1 in let here : s ≡ x = cc in subst (λ y. is_roots y ≡ true) (sym here) (rows_are x rows))
call_roots n s m (Is_savepoint name call) = (let it : Some s ≡ Some (stmts.Savepoint name) = (one_call n m (Some s) (Some (stmts.Savepoint name)) call).1 in let here : s ≡ stmts.Savepoint name = cc in ap is_roots here)
call_roots n s m (Is_back_to name call) = (let it : Some s ≡ Some (stmts.RollbackTo name) = (one_call n m (Some s) (Some (stmts.RollbackTo name)) call).1 in let here : s ≡ stmts.RollbackTo name = cc in ap is_roots here)
call_roots n s m (Is_commit given call) = (let it : Some s ≡ Some (stmts.Commit given) = (one_call n m (Some s) (Some (stmts.Commit given)) call).1 in let here : s ≡ stmts.Commit given = cc in ap is_roots here)
call_roots n s m (Is_rollback call) = (let it : Some s ≡ Some stmts.Rollback = (one_call n m (Some s) (Some stmts.Rollback) call).1 in let here : s ≡ stmts.Rollback = cc in ap is_roots here)
call_roots n s m (Gives_up is) = absurd cc

call_session : (n : ℕ) (o : Option Stmt) (m : ℕ) → Concerns_root (inputs.Call n o) m → n ≡ m
call_session n o m (Of_rows x call rows) = (one_call n m o (Some x) call).0
call_session n o m (Is_savepoint name call) = (one_call n m o (Some (stmts.Savepoint name)) call).0
call_session n o m (Is_back_to name call) = (one_call n m o (Some (stmts.RollbackTo name)) call).0
call_session n o m (Is_commit given call) = (one_call n m o (Some (stmts.Commit given)) call).0
call_session n o m (Is_rollback call) = (one_call n m o (Some stmts.Rollback) call).0
call_session n o m (Gives_up is) = absurd cc

nothing_none : (n m : ℕ) → Concerns_root (inputs.Call n None) m → ⊥
nothing_none n m (Of_rows x call rows) = absurd cc
nothing_none n m (Is_savepoint name call) = absurd cc
nothing_none n m (Is_back_to name call) = absurd cc
nothing_none n m (Is_commit given call) = absurd cc
nothing_none n m (Is_rollback call) = absurd cc
nothing_none n m (Gives_up is) = absurd cc

message_none : (x : Msg) (m : ℕ) → Concerns_root (inputs.Message x) m → ⊥
message_none x m (Of_rows s call rows) = absurd cc
message_none x m (Is_savepoint name call) = absurd cc
message_none x m (Is_back_to name call) = absurd cc
message_none x m (Is_commit given call) = absurd cc
message_none x m (Is_rollback call) = absurd cc
message_none x m (Gives_up is) = absurd cc

reco_none : (m : ℕ) → Concerns_root inputs.Reco m → ⊥
reco_none m (Of_rows s call rows) = absurd cc
reco_none m (Is_savepoint name call) = absurd cc
reco_none m (Is_back_to name call) = absurd cc
reco_none m (Is_commit given call) = absurd cc
reco_none m (Is_rollback call) = absurd cc
reco_none m (Gives_up is) = absurd cc

checkpoint_none : (m : ℕ) → Concerns_root inputs.Checkpoint m → ⊥
checkpoint_none m (Of_rows s call rows) = absurd cc
checkpoint_none m (Is_savepoint name call) = absurd cc
checkpoint_none m (Is_back_to name call) = absurd cc
checkpoint_none m (Is_commit given call) = absurd cc
checkpoint_none m (Is_rollback call) = absurd cc
checkpoint_none m (Gives_up is) = absurd cc

given_session : (n m : ℕ) → Concerns_root (inputs.GiveUp n) m → n ≡ m
given_session n m (Of_rows s call rows) = absurd cc
given_session n m (Is_savepoint name call) = absurd cc
given_session n m (Is_back_to name call) = absurd cc
given_session n m (Is_commit given call) = absurd cc
given_session n m (Is_rollback call) = absurd cc
given_session n m (Gives_up is) = cc

called_at : (n : ℕ) (b : BranchId) → n ≡ b.session → (s : Stmt) → Concerning s → Who (inputs.Call n (Some s)) b
called_at n b here s (Is_of_rows x rows) = Rows_of s (ap (λ i. inputs.Call i (Some s)) here) rows
called_at n b here _ (Is_mark name) = Sets_savepoint name (ap (λ i. inputs.Call i (Some (stmts.Savepoint name))) here)
called_at n b here _ (Is_way_back name) = Goes_back_to name (ap (λ i. inputs.Call i (Some (stmts.RollbackTo name))) here)
called_at n b here _ (Is_end given) = Commits given (ap (λ i. inputs.Call i (Some (stmts.Commit given))) here)
called_at n b here _ Is_roll = Rolls_back (ap (λ i. inputs.Call i (Some stmts.Rollback)) here)

pub who : (input : Input) (b : BranchId) → Who input b
who (inputs.Message x) b =
    bool_cases (same x.to b) _ (λ here. Message_to x refl (equal_from_same x.to b here))
    (λ other. Others (λ m is. (let it : inputs.Message x ≡ inputs.Message m = is in let one : x ≡ m = cc in subst (λ (y : Msg). same y.to b ≡ false) one other)) (λ n its. absurd (message_none x n its)))
who (inputs.Call n (Some s)) b = elim (cases_eq n b.session) [
  | inr other ↦ Others (λ m is. absurd cc) (λ m its at. other (call_session n (Some s) m its ∙ at))
  | inl here ↦ bool_cases (is_roots s) _ (λ its. called_at n b here s (kind_of s its)) (λ nobody. Others (λ m is. absurd cc) (λ m its. absurd (let yes : is_roots s ≡ true = call_roots n s m its in cc (yes, nobody))))
]
who (inputs.Call n None) b = Others (λ m is. absurd cc) (λ m its. absurd (nothing_none n m its))
who (inputs.GiveUp n) b = elim (cases_eq n b.session) [
  | inr other ↦ Others (λ m is. absurd cc) (λ m its at. other (given_session n m its ∙ at))
  | inl here ↦ Is_given_up (ap inputs.GiveUp here)
]
who inputs.Reco b = Others (λ m is. absurd cc) (λ m its. absurd (reco_none m its))
who inputs.Checkpoint b = Others (λ m is. absurd cc) (λ m its. absurd (checkpoint_none m its))

-- a branch that is found began before, or in this turn
pub either : (xs ys : List Born) (b : BranchId) (x : Born) → born_at (xs ++ ys) b ≡ Some x → (born_at xs b ≡ Some x) ⊎ (born_at ys b ≡ Some x)
either [] ys b x at = inr at
either (y ∷ xs) ys b x at = by (same y.me b) at (either xs ys b x)
  where
    by : (q : Bool) → (if q then Some y else born_at (xs ++ ys) b) ≡ Some x → (born_at (xs ++ ys) b ≡ Some x → (born_at xs b ≡ Some x) ⊎ (born_at ys b ≡ Some x)) → ((if q then Some y else born_at xs b) ≡ Some x) ⊎ (born_at ys b ≡ Some x)
    by true at rest = inl at
    by false at rest = rest at

-- a root that begins does so by a statement in a session without a transaction
pub record ByCall (p : Place) (k : NodeState) (input : Input) (b : BranchId) : Type 0 where
  pub session : ℕ
  pub statement : Stmt
  pub call : input ≡ inputs.Call session (Some statement)
  pub begins : begins_transaction statement ≡ true
  pub none : (session_at k.sessions session).root ≡ None
  pub is_me : new_root p k session ≡ b

one_born : (y x : Born) (b : BranchId) → born_at (y ∷ []) b ≡ Some x → (y ≡ x) × (y.me ≡ b)
one_born y x b at = by (same y.me b) refl at
  where
    by : (q : Bool) → same y.me b ≡ q → (if q then Some y else None) ≡ Some x → (y ≡ x) × (y.me ≡ b)
    by true here at = (let it : Some y ≡ Some x = at in (let same_one : y ≡ x = cc in (same_one, equal_from_same y.me b here)))
    by false other at = absurd cc

opened_parent : (p : Place) (k : NodeState) (from : BranchId) (kind : Kind) (b : BranchId) (x : Born) → born_at (births_by_kind p k from kind) b ≡ Some x → x.parent ≢ None
opened_parent p k from (kinds.Open edge root depth read_at) b x at = by (find (is_opening from edge) k.opens) at
  where
    by : (o : Option Opening) → born_at (births_by_open p k from edge root depth read_at o) b ≡ Some x → x.parent ≢ None
    by None at none = (let its = one_born _ x b at in let up : x.parent ≡ Some from = ap (λ (z : Born). z.parent) (sym its.0) in absurd (cc (up, none)))
    by (Some o) at none = absurd cc
opened_parent p k from _ b x at = absurd cc

pub by_call : (p : Place) (k : NodeState) (input : Input) (b : BranchId) (x : Born) → born_at (births_by p k input) b ≡ Some x → x.parent ≡ None → ByCall p k input b
by_call p k (inputs.Call n (Some s)) b x at top = by (begins_transaction s) refl at
  where
    root : (r : Option BranchId) → (session_at k.sessions n).root ≡ r → begins_transaction s ≡ true → born_at (roots_by p k n (read_at_by k.clock s) r) b ≡ Some x → ByCall p k (inputs.Call n (Some s)) b
    root None none begins at = record { session = n; statement = s; call = refl; begins = begins; none = none; is_me = (one_born (root_born (new_root p k n) (strength_of p k) (read_at_by k.clock s)) x b at).1 }
    root (Some c) some rows at = absurd cc

    by : (q : Bool) → begins_transaction s ≡ q → born_at (if q then roots_by p k n (read_at_by k.clock s) (session_at k.sessions n).root else []) b ≡ Some x → ByCall p k (inputs.Call n (Some s)) b
    by true rows at = root (session_at k.sessions n).root refl rows at
    by false not at = absurd cc
by_call p k (inputs.Message m) b x at top = absurd (opened_parent p k m.from m.kind b x at top)
by_call p k (inputs.Call n None) b x at top = absurd cc
by_call p k (inputs.GiveUp n) b x at top = absurd cc
by_call p k inputs.Reco b x at top = absurd cc
by_call p k inputs.Checkpoint b x at top = absurd cc
