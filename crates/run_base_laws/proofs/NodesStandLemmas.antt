-- What nodes keep and what stands on their disks, against the events of the run so far: live branches have no exit, rows are
-- as the events say, and a branch that had an exit was given its id.
use Rattle.std.proofs.Common.{◌≡◌, ◌≢◌, ℕ, ◌+◌, ◌≤◌, ◌||◌, Bool, true, false, List, [], ◌∷◌, ◌++◌, map, length, Option, Some, None, if◌then◌else◌, refl, sym, ap, subst, ◌∙◌, ◌⊎◌, inl, inr, arith}
use Rattle.std.specs.Prelude.{IfSome}
use Rattle.std.specs.Option.{option_to_list}
use Rattle.std.specs.List.{AllByRecursion}
use Rattle.std.proofs.lemmas.Bool.{cond_both, or_left, or_right}
use Rattle.tran_ids.proofs.BranchLemmas.{equal_from_same, same_from_equal}
use Rattle.agreement.specs.Events.{Exit, Sealed, Decided, Event, first, only_at, exit_by, exit, learned_by, learned, forced_by, forced}
use Rattle.agreement.proofs.EventLemmas.{first_is, only_at_is}
use Rattle.node_rules.specs.Data.{BranchId, KeptRow, Live, RedoRecord, Place}
use Rattle.node_rules.specs.Data.records
use Rattle.node_rules.specs.Words.{same}
use Rattle.node_rules.specs.NodeState.{live_id}
use Rattle.node_rules.specs.Records.{nothing_stored, stored_by}
use Rattle.run_rules.specs.Branches.{is_among}
use Rattle.run_rules.specs.Facts.{Facts, node_at, records_at}
use Rattle.run_rules.specs.Lawful.{boots}
use Rattle.run_base_laws.specs.IdLaws.{IsRecordOf}
use Rattle.run_base_laws.specs.NodeLaws.{count_of}
use Rattle.run_base_laws.specs.RunEvents.{with_event, wrote_event, record_event}
use Rattle.run_rules.proofs.ListLemmas.{all_weaker}
use Rattle.run_base_laws.proofs.AckLemmas.{unacked_rows}
use Rattle.run_base_laws.proofs.StoredLemmas.{stored_with}
use Rattle.node_rules.proofs.SessionLemmas.{seqs}
use Rattle.run_base_laws.proofs.IdLemmas.{Given}
use Rattle.run_base_laws.proofs.LaterLemmas.{One_more, Nothing_more}
use Rattle.run_base_laws.specs.EventRows.{RowIs, RowsAre, MayStand}
use Rattle.run_base_laws.proofs.RowEventLemmas.{EndsSo, row_later, rows_stored_with}
use Rattle.run_base_laws.proofs.MayStandLemmas.{IsUntaught}

-- ---- what stands

-- the rows that a node's records make
abbrev pub stored_rows : Facts → ℕ → List KeptRow
stored_rows f n = (stored_by nothing_stored (records_at f n)).durable.kept

-- a node gave out this id
abbrev pub WasGiven : Facts → BranchId → Type 0
WasGiven f b = (b.boot ≤ boots (records_at f b.node)) × IfSome (node_at f b.node) (λ k. Given (boots (records_at f b.node)) (seqs k.sessions) (length k.opens) b)

-- What nodes keep, and the records on their disks, are as the events say.
pub record NodesStand (places : List Place) (f : Facts) (t : List Event) : Type 0 where
  pub many : length f.nodes ≡ length places
  pub untaught : IsUntaught t
  pub own : (n : ℕ) → AllByRecursion (IsRecordOf (λ b. b.node ≡ n)) (records_at f n)
  pub rows : (n : ℕ) → RowsAre t (stored_rows f n)
  pub lives : (n : ℕ) → IfSome (node_at f n) (λ k. AllByRecursion (λ l. exit t l.me ≡ None) k.lives)
  pub given : (b : BranchId) → exit t b ≢ None → WasGiven f b

-- ---- lists of live branches

-- each live branch is among them
pub lives_among : (ls : List Live) → AllByRecursion (λ l. is_among l.me (map live_id ls) ≡ true) ls
lives_among [] = tt
lives_among (l ∷ ls) = (
  or_left (same l.me l.me) (is_among l.me (map live_id ls)) (same_from_equal l.me l.me refl),
  all_weaker (λ x. is_among x.me (map live_id ls) ≡ true) _ (λ x is. or_right (same l.me x.me) (is_among x.me (map live_id ls)) is) ls (lives_among ls),
)

-- what holds of all live branches holds of one that is among them
pub among_so : (P : BranchId → Type 0) (b : BranchId) (ls : List Live) → AllByRecursion (λ l. P l.me) ls → is_among b (map live_id ls) ≡ true → P b
among_so P b [] all is = absurd cc
among_so P b (l ∷ ls) all is = by (same l.me b) refl (among_so P b ls all.1)
  where
    by : (here : Bool) → same l.me b ≡ here → (is_among b (map live_id ls) ≡ true → P b) → P b
    by true at later = subst P (equal_from_same l.me b at) all.0
    by false at later = later (sym (ap (λ q. q || is_among b (map live_id ls)) at) ∙ is)

-- ---- the event of a record

-- its branch is of another node
other_same : (n : ℕ) (c b : BranchId) → c.node ≡ n → b.node ≢ n → same c b ≡ false
other_same n c b here there = by (same c b) refl
  where
    by : (q : Bool) → same c b ≡ q → q ≡ false
    by false is = refl
    by true is = absurd (there (sym (ap (λ x. x.node) (equal_from_same c b is)) ∙ here))

at_other : {A : Type 0} (n : ℕ) (c b : BranchId) (a : A) → c.node ≡ n → b.node ≢ n → only_at c b a ≡ None
at_other n c b a here there = ap (λ q. if q then Some a else None) (other_same n c b here there)

-- one of them has an exit, the other has none
apart : {A : Type 0} (t : List Event) (c b : BranchId) (e : Exit) → exit t c ≡ Some e → exit t b ≡ None → (a : A) → only_at c b a ≡ None
apart t c b e left none a = by (same c b) refl
  where
    by : (q : Bool) → same c b ≡ q → (if q then Some a else None) ≡ None
    by false is = refl
    by true is = let at : exit t b ≡ Some e = subst (λ x. exit t x ≡ Some e) (equal_from_same c b is) left in absurd (cc (at, none))

-- what an event leaves alone
abbrev pub LeavesAlone : Option Event → BranchId → Type 0
LeavesAlone None b = Unit {0}
LeavesAlone (Some e) b = (exit_by e b ≡ None) × (learned_by e b ≡ None) × (forced_by e b ≡ None)

-- the event of a record leaves branches of other nodes alone
record_elsewhere : (n : ℕ) (r : RedoRecord) (b : BranchId) → IsRecordOf (λ c. c.node ≡ n) r → b.node ≢ n → LeavesAlone (record_event n r) b
record_elsewhere n (records.Sealed r) b of there = (at_other n r.me b (Sealed r.scn) of there, refl, refl)
record_elsewhere n (records.Decided r) b of there = (at_other n r.me b (Decided r.scn) of there, refl, refl)
record_elsewhere n (records.Ended c d) b of there = (refl, at_other n c b d of there, refl)
record_elsewhere n (records.Forced c d given) b of there = (refl, refl, at_other n c b d of there)
record_elsewhere n (records.Met c d mixed) b of there = (refl, at_other n c b d of there, refl)
record_elsewhere n (records.Forgot c) b of there = (refl, refl, refl)
record_elsewhere n (records.Table table) b of there = (refl, refl, refl)
record_elsewhere n _ b of there = tt

pub wrote_elsewhere : (n : ℕ) (w : Option RedoRecord) (b : BranchId) → IfSome w (IsRecordOf (λ c. c.node ≡ n)) → b.node ≢ n → LeavesAlone (wrote_event n w) b
wrote_elsewhere n None b of there = tt
wrote_elsewhere n (Some r) b of there = record_elsewhere n r b of there

-- so nothing changes for them
pub exit_alone : (o : Option Event) (t : List Event) (b : BranchId) → LeavesAlone o b → exit (with_event o t) b ≡ exit t b
exit_alone None t b alone = refl
exit_alone (Some e) t b alone = ap (first (exit t b)) alone.0 ∙ by (exit t b)
  where
    by : (o : Option Exit) → first o None ≡ o
    by None = refl
    by (Some x) = refl

pub row_alone : (o : Option Event) (t : List Event) (s : KeptRow) → LeavesAlone o s.me → RowIs t s → RowIs (with_event o t) s
row_alone None t s alone is = is
row_alone (Some e) t s alone is =
    row_later {Q = λ x. x ≡ e} (One_more e refl Nothing_more) s (λ x at. subst (λ y. learned_by y s.me ≡ None) (sym at) alone.1) (λ x at. subst (λ y. forced_by y s.me ≡ None) (sym at) alone.2) is

-- a branch without an exit is taught nothing
record_untaught : (n : ℕ) (t : List Event) (r : RedoRecord) (b : BranchId) → MayStand t r → exit t b ≡ None → (learned t b ≡ None) × (forced t b ≡ None)
    → (learned (with_event (record_event n r) t) b ≡ None) × (forced (with_event (record_event n r) t) b ≡ None)
record_untaught n t (records.Sealed r) b may none un = (ap (λ o. first o None) un.0, ap (λ o. first o None) un.1)
record_untaught n t (records.Decided r) b may none un = (ap (λ o. first o None) un.0, ap (λ o. first o None) un.1)
record_untaught n t (records.Ended c d) b may none un = (ap (λ o. first o (only_at c b d)) un.0 ∙ apart t c b (Sealed may.0.0) may.0.1 none d, ap (λ o. first o None) un.1)
record_untaught n t (records.Forced c d given) b may none un = (ap (λ o. first o None) un.0, ap (λ o. first o (only_at c b d)) un.1 ∙ apart t c b (Sealed may.0.0) may.0.1 none d)
record_untaught n t (records.Met c d mixed) b may none un = (ap (λ o. first o (only_at c b d)) un.0 ∙ apart t c b (Sealed may.0.0) may.0.1 none d, ap (λ o. first o None) un.1)
record_untaught n t (records.Forgot c) b may none un = (ap (λ o. first o None) un.0, ap (λ o. first o None) un.1)
record_untaught n t (records.Table table) b may none un = (ap (λ o. first o None) un.0, ap (λ o. first o None) un.1)
record_untaught n t _ b may none un = un

pub wrote_untaught : (n : ℕ) (t : List Event) (w : Option RedoRecord) (b : BranchId) → IfSome w (MayStand t) → exit t b ≡ None → (learned t b ≡ None) × (forced t b ≡ None)
    → (learned (with_event (wrote_event n w) t) b ≡ None) × (forced (with_event (wrote_event n w) t) b ≡ None)
wrote_untaught n t None b may none un = un
wrote_untaught n t (Some r) b may none un = record_untaught n t r b may none un

-- an exit that a record makes is of its branch
record_exit : (P : BranchId → Type 0) (n : ℕ) (t : List Event) (r : RedoRecord) (b : BranchId) (e : Exit) → EndsSo P r → exit (with_event (record_event n r) t) b ≡ Some e → (exit t b ≡ Some e) ⊎ P b
record_exit P n t (records.Sealed r) b e ends is =
    elim (first_is (exit t b) (only_at r.me b (Sealed r.scn)) e is) [ inl old ↦ inl old | inr new ↦ inr (subst P (only_at_is r.me b (Sealed r.scn) e new.1).0 ends) ]
record_exit P n t (records.Decided r) b e ends is =
    elim (first_is (exit t b) (only_at r.me b (Decided r.scn)) e is) [ inl old ↦ inl old | inr new ↦ inr (subst P (only_at_is r.me b (Decided r.scn) e new.1).0 ends) ]
record_exit P n t (records.Ended c d) b e ends is = elim (first_is (exit t b) None e is) [ inl old ↦ inl old | inr new ↦ (let no : None ≡ Some e = new.1 in absurd cc) ]
record_exit P n t (records.Forced c d given) b e ends is = elim (first_is (exit t b) None e is) [ inl old ↦ inl old | inr new ↦ (let no : None ≡ Some e = new.1 in absurd cc) ]
record_exit P n t (records.Met c d mixed) b e ends is = elim (first_is (exit t b) None e is) [ inl old ↦ inl old | inr new ↦ (let no : None ≡ Some e = new.1 in absurd cc) ]
record_exit P n t (records.Forgot c) b e ends is = elim (first_is (exit t b) None e is) [ inl old ↦ inl old | inr new ↦ (let no : None ≡ Some e = new.1 in absurd cc) ]
record_exit P n t (records.Table table) b e ends is = elim (first_is (exit t b) None e is) [ inl old ↦ inl old | inr new ↦ (let no : None ≡ Some e = new.1 in absurd cc) ]
record_exit P n t _ b e ends is = inl is

pub wrote_exit : (P : BranchId → Type 0) (n : ℕ) (t : List Event) (w : Option RedoRecord) (b : BranchId) (e : Exit) → IfSome w (EndsSo P) → exit (with_event (wrote_event n w) t) b ≡ Some e → (exit t b ≡ Some e) ⊎ P b
wrote_exit P n t None b e ends is = inl is
wrote_exit P n t (Some r) b e ends is = record_exit P n t r b e ends is

-- an exit stays
pub exit_with : (o : Option Event) (t : List Event) (b : BranchId) (e : Exit) → exit t b ≡ Some e → exit (with_event o t) b ≡ Some e
exit_with None t b e is = is
exit_with (Some x) t b e is = ap (λ o. first o (exit_by x b)) is

-- there is one, or none
pub some_or_none : {A : Type 0} (o : Option A) → ((a : A) × (o ≡ Some a)) ⊎ (o ≡ None)
some_or_none None = inr refl
some_or_none (Some a) = inl (a, refl)

-- the rows after what a turn wrote
pub wrote_rows : (n : ℕ) (t : List Event) (rs : List RedoRecord) (w : Option RedoRecord) → IfSome w (MayStand t) → RowsAre t (stored_by nothing_stored rs).durable.kept
    → RowsAre (with_event (wrote_event n w) t) (stored_by nothing_stored (rs ++ option_to_list w)).durable.kept
wrote_rows n t rs None may rows = subst (λ s. RowsAre t s.durable.kept) (sym (stored_with rs None)) rows
wrote_rows n t rs (Some r) may rows =
    subst (λ s. RowsAre (with_event (record_event n r) t) s.durable.kept) (sym (stored_with rs (Some r))) (rows_stored_with t n (stored_by nothing_stored rs) r may rows)

-- rows without Acks say the same as with them
pub acked_back : (t : List Event) (ks : List KeptRow) → RowsAre t (unacked_rows ks) → RowsAre t ks
acked_back t [] all = tt
acked_back t (s ∷ ks) all = (record { left = all.0.left; known = all.0.known; force = all.0.force; forgot = all.0.forgot }, acked_back t ks all.1)

-- live branches count
pub counts : (ls : List Live) → AllByRecursion (λ l. 1 ≤ count_of live_id l.me ls) ls
counts [] = tt
counts (l ∷ ls) = (
  subst (λ q. 1 ≤ (if q then 1 + count_of live_id l.me ls else count_of live_id l.me ls)) (sym (same_from_equal l.me l.me refl)) (omega arith),
  all_weaker (λ x. 1 ≤ count_of live_id x.me ls) (λ x. 1 ≤ count_of live_id x.me (l ∷ ls))
      (λ x some. cond_both (same l.me x.me) _ _ (λ c. 1 ≤ c) (λ here. omega arith) (λ other. some)) ls (counts ls),
)
