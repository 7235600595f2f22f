-- A row that holds the Ack of a neighbour holds it on, at each step of its node that makes no new row of its branch.
use Rattle.std.proofs.Common.{◌≡◌, ◌≢◌, ◌+◌, ◌≤◌, ◌||◌, not, Bool, true, false, if◌then◌else◌, List, [], ◌∷◌, map, filter, Option, Some, None, refl, sym, ap, subst, ◌∙◌, arith}
use Rattle.std.specs.Prelude.{IfSome}
use Rattle.std.specs.List.{AllByRecursion, list_any}
use Rattle.std.proofs.lemmas.Bool.{cond_both}
use Rattle.tran_ids.proofs.BranchLemmas.{same_from_equal}
use Rattle.commit_forget.specs.declared.next.Beyond.{Beyond}
use Rattle.commit_forget.specs.Beyond.{beyond, parent_beyond, kid_beyond, is_beyond}
use Rattle.commit_forget.specs.Next.{acks_kid, acked_by}
use Rattle.redo_record.specs.Kept.{ended_commit, forced_state, in_state, met_as, forgot_as, hidden_as}
use Rattle.session_tree.specs.Live.{is_branch}
use Rattle.node_rules.specs.Data.{BranchId, Input, Kid, Place, RedoRecord, KeptRow}
use Rattle.node_rules.specs.Data.records
use Rattle.node_rules.specs.Words.{same, put_item}
use Rattle.node_rules.specs.NodeState.{NodeState, Stored, TurnDraft, kept_row_id}
use Rattle.node_rules.specs.Records.{applied}
use Rattle.node_rules.proofs.Steps.{Step}
use Rattle.run_base_laws.specs.NodeLaws.{count_of}
use Rattle.run_rules.proofs.ListLemmas.{all_append}
use Rattle.run_base_laws.proofs.RowRecordLemmas.{RowCases, rows_applied}
use Rattle.run_base_laws.proofs.KeptStepLemmas.{rows_on}
use Rattle.run_base_laws.proofs.LiveStepLemmas.{nothing_lasts}
use Rattle.commit_forget_laws.specs.ForgetLaws.{HoldsAck}
use Rattle.commit_forget_laws.proofs.AckTurnLemmas.{acked_so}
use Rattle.commit_forget_laws.proofs.TellLemmas.{ended_beyond, met_beyond, state_beyond, forgot_beyond, hidden_beyond}

module _ (x b : BranchId) where
  -- the row of the branch holds it
  abbrev pub Holds : KeptRow → Type 0
  Holds s = s.me ≡ b → HoldsAck x s

  abbrev pub Held : List KeptRow → Type 0
  Held ks = AllByRecursion Holds ks

  -- a record that is not of a new row of the branch
  abbrev pub NotNew : RedoRecord → Type 0
  NotNew (records.Sealed r) = r.me ≢ b
  NotNew (records.Decided r) = r.me ≢ b
  NotNew _ = Unit {0}

  same_beyond : (y z : KeptRow) → z.me ≡ y.me → beyond z ≡ beyond y → Holds y → Holds z
  same_beyond y z me kept so its = subst (λ (bs : List Beyond). AllByRecursion (λ q. q.branch ≡ x → q.acked ≡ true) bs) (sym kept) (so (sym me ∙ its))

  each_row : RowCases NotNew Holds
  each_row = record {
    seals = λ r new me. absurd (new me);
    decides = λ r new me. absurd (new me);
    ends = λ n y so. same_beyond y (ended_commit n y) refl (ended_beyond n y) so;
    forces = λ d y so. same_beyond y (in_state (forced_state d) y) refl (state_beyond (forced_state d) y) so;
    meets = λ d mixed y so. same_beyond y (met_as d mixed y) refl (met_beyond d mixed y) so;
    forgets = λ y so. same_beyond y (forgot_as y) refl (forgot_beyond y) so;
    hides = λ y so. same_beyond y (hidden_as y) refl (hidden_beyond y) so;
  }

  pub recorded : (s : Stored) (r : RedoRecord) → NotNew r → Held s.durable.kept → Held (applied s r).durable.kept
  recorded s r new all = rows_applied each_row s r new all

  held_acked : (s : KeptRow) (from : BranchId) → Holds s → Holds (acked_by s from)
  held_acked s from so me = acked_so (λ c a. c ≡ x → a ≡ true) (λ c a was is. refl) from s (so me)

  module _ (p : Place) (input : Input) where
    pub held_on : {k : NodeState} {d : TurnDraft} → Step p input k d → IfSome d.wrote NotNew → Held k.stored.durable.kept → Held d.after.stored.durable.kept
    held_on step new all = rows_on each_row (nothing_lasts p input) (λ k s from kept came known so. held_acked s from so) step tt new all

  -- ---- the row in which the Ack is noted

  -- no row of the branch is left
  none_left : (ks : List KeptRow) → count_of kept_row_id b ks ≡ 0 → Held ks
  none_left [] none = tt
  none_left (z ∷ ks) none = by (same z.me b) refl none (none_left ks)
    where
      by : (q : Bool) → same z.me b ≡ q → (if q then 1 + count_of kept_row_id b ks else count_of kept_row_id b ks) ≡ 0 → (count_of kept_row_id b ks ≡ 0 → Held ks) → Held (z ∷ ks)
      by true is low rest = absurd (omega (arith, low))
      by false is low rest = ((λ me. (let yes : same z.me b ≡ true = same_from_equal z.me b me in absurd (cc (yes, is)))), rest low)

  pub put_once : (ks : List KeptRow) (y : KeptRow) → y.me ≡ b → count_of kept_row_id b ks ≤ 1 → HoldsAck x y → Held (put_item kept_row_id ks y)
  put_once [] y me one so = ((λ its. so), tt)
  put_once (z ∷ ks) y me one so = by (same z.me y.me) refl (put_once ks y me)
    where
      low : (q : Bool) → same z.me b ≡ q → (if q then 1 + count_of kept_row_id b ks else count_of kept_row_id b ks) ≤ 1 → (q ≡ true → count_of kept_row_id b ks ≡ 0) × (count_of kept_row_id b ks ≤ 1)
      low true is few = ((λ yes. omega (arith, few)), omega (arith, few))
      low false is few = ((λ yes. absurd cc), few)

      by : (q : Bool) → same z.me y.me ≡ q → (count_of kept_row_id b ks ≤ 1 → HoldsAck x y → Held (put_item kept_row_id ks y)) → Held (if q then y ∷ ks else z ∷ put_item kept_row_id ks y)
      by true is rest = ((λ its. so), none_left ks ((low (same z.me b) refl one).0 (ap (same z.me) (sym me) ∙ is)))
      by false is rest = ((λ its. (let yes : same z.me y.me ≡ true = same_from_equal z.me y.me (its ∙ sym me) in absurd (cc (yes, is)))), rest (low (same z.me b) refl one).1 so)

-- ---- an Ack that counts is held

module _ (x : BranchId) where
  or_true : (p q : Bool) → q ≡ true → (p || q) ≡ true
  or_true true q is = refl
  or_true false q is = is

  up_held : (s : KeptRow) (o : Option BranchId) → s.parent ≡ o → AllByRecursion (λ (z : Beyond). z.branch ≡ x → z.acked ≡ true) (parent_beyond (acked_by s x) o)
  up_held s None is = tt
  up_held s (Some q) is =
      cond_both (is_branch q s.toward) _ _ (AllByRecursion (λ (z : Beyond). z.branch ≡ x → z.acked ≡ true)) (λ on. tt)
      (λ off. ((λ at. or_true s.parent_acked (is_branch x s.parent) (ap (is_branch x) is ∙ same_from_equal q x at)), tt))

  down_held : (toward : Option BranchId) (cs : List Kid) → AllByRecursion (λ (z : Beyond). z.branch ≡ x → z.acked ≡ true) (map kid_beyond (filter (λ c. not (is_branch c.branch toward)) (map (acks_kid x) cs)))
  down_held toward [] = tt
  down_held toward (c ∷ cs) =
      cond_both (not (is_branch (acks_kid x c).branch toward)) (acks_kid x c ∷ filter (λ y. not (is_branch y.branch toward)) (map (acks_kid x) cs)) (filter (λ y. not (is_branch y.branch toward)) (map (acks_kid x) cs))
      (λ ys. AllByRecursion (λ (z : Beyond). z.branch ≡ x → z.acked ≡ true) (map kid_beyond ys)) (λ off. (one, down_held toward cs)) (λ on. down_held toward cs)
    where
      one : (acks_kid x c).branch ≡ x → (acks_kid x c).acked ≡ true
      one = cond_both (same c.branch x) (record c { acked = true }) c (λ y. y.branch ≡ x → y.acked ≡ true) (λ here at. refl) (λ other at. (let yes : same c.branch x ≡ true = same_from_equal c.branch x at in absurd (cc (yes, other))))

  pub now_held : (s : KeptRow) → HoldsAck x (acked_by s x)
  unfolding beyond
  now_held s = all_append (λ (z : Beyond). z.branch ≡ x → z.acked ≡ true) (parent_beyond (acked_by s x) s.parent) _ (up_held s s.parent refl) (down_held s.toward s.children)

  -- one that does not name it has nothing to hold
  pub none_named : (s : KeptRow) → is_beyond s x ≡ false → HoldsAck x s
  none_named s none = by (beyond s) none
    where
      by : (bs : List Beyond) → list_any (λ (y : Beyond). same y.branch x) bs ≡ false → AllByRecursion (λ (z : Beyond). z.branch ≡ x → z.acked ≡ true) bs
      by [] none_in = tt
      by (z ∷ zs) none_in = (first (same z.branch x) refl none_in, by zs (rest (same z.branch x) none_in))
        where
          first : (q : Bool) → same z.branch x ≡ q → (q || list_any (λ (y : Beyond). same y.branch x) zs) ≡ false → z.branch ≡ x → z.acked ≡ true
          first true is never at = absurd cc
          first false is never at = (let yes : same z.branch x ≡ true = same_from_equal z.branch x at in absurd (cc (yes, is)))

          rest : (q : Bool) → (q || list_any (λ (y : Beyond). same y.branch x) zs) ≡ false → list_any (λ (y : Beyond). same y.branch x) zs ≡ false
          rest true never = absurd cc
          rest false never = never
