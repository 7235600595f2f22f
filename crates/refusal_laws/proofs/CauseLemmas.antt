-- A statement that a node refuses at its table is refused for one of the causes, in terms of the node; and what it means over the node's rows,
-- where it examines no key in doubt, it means over those of the book.
use Rattle.std.proofs.Common.{◌≡◌, ℕ, ◌&&◌, ◌||◌, Bool, true, false, true≢false, if◌then◌else◌, List, [], ◌∷◌, ◌++◌, filter, find, fold, map, option_map, Option, Some, None, refl, sym, ap, subst, ◌∙◌}
use Rattle.std.specs.Prelude.{is_some, nat_lt}
use Rattle.std.specs.List.{list_any, AllByRecursion}
use Rattle.std.specs.Str.{bytes_eq}
use Rattle.std.proofs.lemmas.Bool.{or_left, or_right}
use Rattle.dtx_values.specs.Order.{value_below}
use Rattle.dtx_values.proofs.ValueOrder.{equal_from_same, same_from_equal}
use Rattle.sql_check.specs.Words.{first_some, one}
use Rattle.sql_check.specs.Refusals.{else_refuse, refuse_if, ora, dtx}
use Rattle.sql_check.specs.Checks.{checked}
use Rattle.sql_eval.specs.Meaning.{unless}
use Rattle.sql_eval.specs.Rows.{put_key}
use Rattle.sql_eval.specs.declared.meant.Meant.{Meant}
use Rattle.sql_eval.specs.declared.meant.Meant.TheVariants as meants
use Rattle.tran_ids.specs.Numbers.{decimal}
use Rattle.tran_ids.specs.Texts.{local_text}
use Rattle.row_locks.specs.Held.{in_doubt_one, doubt_on, hold_on}
use Rattle.row_locks.specs.Locks.{Lock, is_lock_on, keys_held, named}
use Rattle.stmt_run.specs.Run.{StmtContext, held_refusal, in_doubt_refusal, locked_refusal, needed_extents, ran_checked, ran_locked, ran_meant, ran_over, ran_within, space_refusal, too_many_changes}
use Rattle.node_rules.specs.Data.{Value, Change, Table, Stmt, Refusal, Done, BranchId, Keyed}
use Rattle.node_rules.specs.Rows.{same_value}
use Rattle.node_rules.specs.Meaning.{examined, written, meant, meant_over}
use Rattle.node_rules.specs.Statement.{StmtOutcome, Refuses}
use Rattle.stmt_view_laws.specs.Views.{AreCertain, AreLocked, SeesAlike}
use Rattle.stmt_view_laws.specs.RunLaws.{IsViewBeside}
use Rattle.stmt_view_laws.proofs.MeantLemmas.{meant_alike}
use Rattle.refusal_laws.proofs.ViewLemmas.{no_holder}

-- ---- one key that is held

-- the first of these keys that has a holder
pub first_holder : (f : Value → Option BranchId) (keys : List Value) (b : BranchId) → first_some (map f keys) ≡ Some b → (key : Value) × (f key ≡ Some b)
first_holder f [] b is = absurd cc
first_holder f (key ∷ keys) b is = by (f key) refl is (first_holder f keys b)
  where
    by : (o : Option BranchId) → f key ≡ o → first_some (o ∷ map f keys) ≡ Some b → (first_some (map f keys) ≡ Some b → (key : Value) × (f key ≡ Some b)) → (key : Value) × (f key ≡ Some b)
    by (Some c) at is later = (key, at ∙ is)
    by None at is later = later is

-- a refusal that names a holder
held_so : (code : ℕ) (holder : Option BranchId) (why : Refusal) → held_refusal code holder ≡ Some why → (b : BranchId) × (holder ≡ Some b) × (why ≡ ora code (one (local_text b)))
held_so code None why is = absurd cc
held_so code (Some b) why is = (b, refl, (let both : Some (ora code (one (local_text b))) ≡ Some why = is in sym cc))

-- ---- keys in order

-- a key that passes a test is still there among them
module _ (test : Value → Bool) where
  put_any : (ks : List Value) (key : Value) → (test key || list_any test ks) ≡ true → list_any test (put_key ks key) ≡ true
  put_any [] key is = is
  put_any (k ∷ ks) key is = by (same_value k key) (value_below key k) refl (put_any ks key)
    where
      later : (q r : Bool) → test key ≡ q → test k ≡ r → ((test key || list_any test ks) ≡ true → list_any test (put_key ks key) ≡ true) → (q || (r || list_any test ks)) ≡ true → (r || list_any test (put_key ks key)) ≡ true
      later q true its was rest is = refl
      later true false its was rest is = rest (or_left (test key) (list_any test ks) its)
      later false false its was rest is = rest (or_right (test key) (list_any test ks) is)

      same_one : (q : Bool) → test key ≡ q → test k ≡ q → (q || (q || list_any test ks)) ≡ true → (q || list_any test ks) ≡ true
      same_one true its was is = refl
      same_one false its was is = is

      by : (same below : Bool) → same_value k key ≡ same → ((test key || list_any test ks) ≡ true → list_any test (put_key ks key) ≡ true)
          → list_any test (if same then k ∷ ks else (if below then key ∷ k ∷ ks else k ∷ put_key ks key)) ≡ true
      by true below alike rest =
          let both : test k ≡ test key = ap test (equal_from_same k key alike) in
          ap (λ q. q || list_any test ks) both ∙ same_one (test key) refl both (ap (λ q. test key || (q || list_any test ks)) (sym both) ∙ is)
      by false true alike rest = is
      by false false alike rest = later (test key) (test k) refl refl rest is

  pub order_any : (ordered ks : List Value) → (list_any test ordered || list_any test ks) ≡ true → list_any test (fold put_key ordered ks) ≡ true
  order_any ordered [] is = by (list_any test ordered) is
    where
      by : (q : Bool) → (q || false) ≡ true → q ≡ true
      by true is = refl
      by false is = is
  order_any ordered (k ∷ ks) is = order_any (put_key ordered k) ks (by (list_any test ordered) (test k) refl refl is)
    where
      by : (q r : Bool) → list_any test ordered ≡ q → test k ≡ r → (q || (r || list_any test ks)) ≡ true → (list_any test (put_key ordered k) || list_any test ks) ≡ true
      by true r was its is = or_left (list_any test (put_key ordered k)) (list_any test ks) (put_any ordered k (or_right (test k) (list_any test ordered) was))
      by false true was its is = or_left (list_any test (put_key ordered k)) (list_any test ks) (put_any ordered k (or_left (test k) (list_any test ordered) its))
      by false false was its is = or_right (list_any test (put_key ordered k)) (list_any test ks) is

  pub any_behind : (xs ys : List Value) → list_any test ys ≡ true → list_any test (xs ++ ys) ≡ true
  any_behind [] ys is = is
  any_behind (x ∷ xs) ys is = or_right (test x) (list_any test (xs ++ ys)) (any_behind xs ys is)

-- ---- what a node refuses for

-- The cause of a refusal at the node.
pub data NodeCause (g : StmtContext) (s : Stmt) (t : Table) : Refusal → Type 0 where
  By_text : (why : Refusal) → checked s t ≡ Some why → NodeCause g s t why
  By_scn : checked s t ≡ None → g.too_old ≡ true → NodeCause g s t (ora 1555 [])
  By_doubt : (b : BranchId) → checked s t ≡ None → g.too_old ≡ false → first_some (map (doubt_on g.locks t.name) (examined s t g.view (keys_held g.locks t.name))) ≡ Some b → NodeCause g s t (ora 1591 (one (local_text b)))
  By_lock : (key : Value) (b : BranchId) → checked s t ≡ None → g.too_old ≡ false → first_some (map (doubt_on g.locks t.name) (examined s t g.view (keys_held g.locks t.name))) ≡ None → hold_on g.locks g.me t.name key ≡ Some b → NodeCause g s t (ora 2049 (one (local_text b)))
  By_meaning : (why : Refusal) → checked s t ≡ None → g.too_old ≡ false → first_some (map (doubt_on g.locks t.name) (examined s t g.view (keys_held g.locks t.name))) ≡ None → meant s t g.view ≡ meants.Refused why → NodeCause g s t why
  By_size : (d : Done) (n : ℕ) (cs : List Change) → checked s t ≡ None → g.too_old ≡ false → first_some (map (doubt_on g.locks t.name) (examined s t g.view (keys_held g.locks t.name))) ≡ None → meant s t g.view ≡ meants.Changes d n cs
      → too_many_changes g cs ≡ true → NodeCause g s t (dtx 16 [])
  By_undo : (d : Done) (n : ℕ) (cs : List Change) → checked s t ≡ None → g.too_old ≡ false → first_some (map (doubt_on g.locks t.name) (examined s t g.view (keys_held g.locks t.name))) ≡ None → meant s t g.view ≡ meants.Changes d n cs
      → too_many_changes g cs ≡ false → (need : ℕ) → nat_lt g.free need ≡ true → NodeCause g s t (ora 30036 (decimal need ∷ decimal g.free ∷ []))

module _ (g : StmtContext) (s : Stmt) (t : Table) where
  abbrev Causes : StmtOutcome → Type 0
  Causes (Refuses why) = NodeCause g s t why
  Causes _ = Unit {0}

  abbrev first_doubt : Option BranchId
  first_doubt = first_some (map (doubt_on g.locks t.name) (examined s t g.view (keys_held g.locks t.name)))

  by_space : (d : Done) (n : ℕ) (cs : List Change) → checked s t ≡ None → g.too_old ≡ false → first_doubt ≡ None → meant s t g.view ≡ meants.Changes d n cs → Causes (ran_within g (space_refusal g cs) d cs (written s t g.view))
  by_space d n cs right young none is = by (too_many_changes g cs) (nat_lt g.free (needed_extents g cs)) refl refl
    where
      by : (many full : Bool) → too_many_changes g cs ≡ many → nat_lt g.free (needed_extents g cs) ≡ full
          → Causes (ran_within g (else_refuse (refuse_if many (dtx 16 [])) (refuse_if full (ora 30036 (decimal (needed_extents g cs) ∷ decimal g.free ∷ [])))) d cs (written s t g.view))
      by true full many over = By_size d n cs right young none is many
      by false true many over = By_undo d n cs right young none is many (needed_extents g cs) over
      by false false many over = tt

  by_meaning : (m : Meant) → checked s t ≡ None → g.too_old ≡ false → first_doubt ≡ None → meant s t g.view ≡ m → Causes (ran_meant g (written s t g.view) m)
  by_meaning (meants.Refused why) right young none is = By_meaning why right young none is
  by_meaning (meants.Gives rows) right young none is = tt
  by_meaning (meants.Changes d n cs) right young none is = by_space d n cs right young none is

  by_lock : checked s t ≡ None → g.too_old ≡ false → first_doubt ≡ None → (o : Option BranchId) → first_some (map (hold_on g.locks g.me t.name) (written s t g.view)) ≡ o → Causes (ran_locked g s t (held_refusal 2049 o))
  unfolding meant
  by_lock right young none (Some b) is = (let at = first_holder (hold_on g.locks g.me t.name) (written s t g.view) b is in By_lock at.0 b right young none at.1)
  by_lock right young none None is = by_meaning (meant_over s t g.view) right young none (ap (λ o. unless o (meant_over s t g.view)) right)

  by_doubt : checked s t ≡ None → g.too_old ≡ false → (o : Option BranchId) → first_doubt ≡ o → Causes (ran_locked g s t (else_refuse (held_refusal 1591 o) (locked_refusal g t (written s t g.view))))
  by_doubt right young (Some b) is = By_doubt b right young is
  by_doubt right young None is = by_lock right young is (first_some (map (hold_on g.locks g.me t.name) (written s t g.view))) refl

  by_scn : checked s t ≡ None → (old : Bool) → g.too_old ≡ old
      → Causes (ran_locked g s t (else_refuse (refuse_if old (ora 1555 [])) (else_refuse (in_doubt_refusal g t (examined s t g.view (keys_held g.locks t.name))) (locked_refusal g t (written s t g.view)))))
  by_scn right true is = By_scn right is
  by_scn right false is = by_doubt right is first_doubt refl

  by_text : (o : Option Refusal) → checked s t ≡ o → Causes (ran_checked g s t o)
  by_text (Some why) is = By_text why is
  by_text None is = by_scn is g.too_old refl

  pub node_causes : (why : Refusal) → ran_over g s t ≡ Refuses why → NodeCause g s t why
  unfolding ran_over
  node_causes why is = subst Causes is (by_text (checked s t) refl)

-- ---- the meaning over another view

-- the keys of locks on a table, of which a key in doubt is one
module _ (locks : List Lock) (table : List ℕ) where
  locked_in : (ls : List Lock) (key : Value) (x : Lock) → find (is_lock_on table key) ls ≡ Some x → list_any (same_value key) (keys_held ls table) ≡ true
  locked_in [] key x is = absurd cc
  locked_in (l ∷ ls) key x is = by (bytes_eq l.table table) (same_value l.key key) refl is (locked_in ls key x)
    where
      by : (here alike : Bool) → same_value l.key key ≡ alike → (if here && alike then Some l else find (is_lock_on table key) ls) ≡ Some x
          → (find (is_lock_on table key) ls ≡ Some x → list_any (same_value key) (keys_held ls table) ≡ true)
          → list_any (same_value key) (map (λ m. m.key) (if here then l ∷ filter (λ m. bytes_eq m.table table) ls else filter (λ m. bytes_eq m.table table) ls)) ≡ true
      by true true same is later = or_left (same_value key l.key) _ (same_from_equal key l.key (sym (equal_from_same l.key key same)))
      by true false same is later = or_right (same_value key l.key) _ (later is)
      by false alike same is later = later is

  pub locked_one : (key : Value) → is_some (doubt_on locks table key) ≡ true → list_any (same_value key) (keys_held locks table) ≡ true
  locked_one key is = by (find (is_lock_on table key) locks) refl is
    where
      by : (o : Option Lock) → find (is_lock_on table key) locks ≡ o → is_some (in_doubt_one (option_map named o)) ≡ true → list_any (same_value key) (keys_held locks table) ≡ true
      by None at is = absurd cc
      by (Some x) at is = locked_in locks key x at

  all_locked : (doubtful : List Value) → AllByRecursion (λ key. is_some (doubt_on locks table key) ≡ true) doubtful → AreLocked (keys_held locks table) doubtful
  all_locked [] all = tt
  all_locked (key ∷ keys) all = (locked_one key all.0, all_locked keys all.1)

  certain_one : (key : Value) (doubtful : List Value) → AllByRecursion (λ v. is_some (doubt_on locks table v) ≡ true) doubtful → doubt_on locks table key ≡ None → list_any (same_value key) doubtful ≡ false
  certain_one key [] all none = refl
  certain_one key (v ∷ vs) all none = by (same_value key v) refl (certain_one key vs all.1 none)
    where
      by : (q : Bool) → same_value key v ≡ q → list_any (same_value key) vs ≡ false → (q || list_any (same_value key) vs) ≡ false
      by true same rest = absurd (true≢false (sym all.0 ∙ (ap (λ z. is_some (doubt_on locks table z)) (sym (equal_from_same key v same)) ∙ ap is_some none)))
      by false same rest = rest

  all_certain : (doubtful : List Value) → AllByRecursion (λ v. is_some (doubt_on locks table v) ≡ true) doubtful → (keys : List Value) → AllByRecursion (λ key. doubt_on locks table key ≡ None) keys → AreCertain doubtful keys
  all_certain doubtful all [] none = tt
  all_certain doubtful all (key ∷ keys) none = (certain_one key doubtful all none.0, all_certain doubtful all keys none.1)

module _ (g : StmtContext) (s : Stmt) (t : Table) (doubtful : List Value) (more : List Keyed) (beside : IsViewBeside g t doubtful more)
    (none : first_some (map (doubt_on g.locks t.name) (examined s t g.view (keys_held g.locks t.name))) ≡ None) where
  alike : SeesAlike s t doubtful (keys_held g.locks t.name) g.view more
  alike = record {
    one_key = beside.one_key;
    first = beside.first;
    second = beside.second;
    agree = beside.agree;
    locks = all_locked g.locks t.name doubtful beside.held;
    avoids = all_certain g.locks t.name doubtful beside.held (examined s t g.view (keys_held g.locks t.name)) (no_holder (doubt_on g.locks t.name) (examined s t g.view (keys_held g.locks t.name)) none);
  }

  -- what a statement means over the node's view it means over the other
  pub meant_beside : meant s t g.view ≡ meant s t more
  meant_beside = meant_alike s t doubtful (keys_held g.locks t.name) g.view more alike
