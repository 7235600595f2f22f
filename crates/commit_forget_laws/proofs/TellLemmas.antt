-- What the row of a branch tells, and that it stays so with more events and messages.
use Rattle.std.proofs.Common.{◌≡◌, ℕ, ◌<◌, ◌⊎◌, not, Bool, true, false, if◌then◌else◌, List, ◌∷◌, ◌++◌, None, inl, inr, refl}
use Rattle.std.specs.List.{AllByRecursion}
use Rattle.std.proofs.lemmas.Bool.{cond_both, not-true}
use Rattle.tran_ids.proofs.BranchLemmas.{equal_from_same}
use Rattle.commit_forget.specs.Beyond.{beyond, all_acked}
use Rattle.commit_forget.specs.Next.{knows_commit}
use Rattle.redo_record.specs.Kept.{stands_at, ended_commit, in_state, met_as, forgot_as, hidden_as}
use Rattle.agreement.specs.Events.{Event, Sealed, Forget, Has}
use Rattle.agreement.proofs.EventLemmas.{exit_stays}
use Rattle.node_rules.specs.Data.{BranchId, Decision, Post, KeptRow, State}
use Rattle.node_rules.specs.Words.{same, change_where, drop_where}
use Rattle.run_rules.proofs.ListLemmas.{all_weaker, all_filter, all_map}
use Rattle.tree_laws.proofs.AskLemmas.{sent_more}
use Rattle.commit_forget_laws.specs.RowLaws.{is_ack, is_forced, IsSealed, SaidAck}

-- What a row tells, but for its Ack. Until the branch knows its decision no Ack is held.
pub record Plain (t : List Event) (s : KeptRow) : Type 0 where
  pub sealed : AllByRecursion (λ y. IsSealed t y.branch) (beyond s)
  pub unheard : s.decision ≡ None → AllByRecursion (λ y. y.acked ≡ false) (beyond s)
  pub whole : is_forced s.state ≡ false → (s.mixed ≡ false) × (s.forgot ≡ false)
  pub forgets : Has (Forget s.me) t → s.forgot ≡ true

-- it acknowledged, once all beyond did
abbrev pub Acks : List Post → KeptRow → Type 0
Acks said s = knows_commit s.decision ≡ true → s.forgot ≡ false → all_acked s ≡ true → SaidAck said s

-- a row tells so, or its branch began before the node's last start
abbrev pub Tells : List Post → List Event → ℕ → KeptRow → Type 0
Tells said t bound s = (Plain t s × Acks said s) ⊎ (s.me.boot < bound)

-- the same, but for the Acks of one branch
abbrev pub TellsBut : List Post → List Event → ℕ → BranchId → KeptRow → Type 0
TellsBut said t bound b s = (Plain t s × (same s.me b ≡ false → Acks said s)) ⊎ (s.me.boot < bound)

-- ---- lists of rows

module _ (P Q : KeptRow → Type 0) where
  pub rows_changed : (b : BranchId) (g : KeptRow → KeptRow) → ((x : KeptRow) → x.me ≡ b → P x → Q (g x)) → ((x : KeptRow) → same x.me b ≡ false → P x → Q x) → (ks : List KeptRow)
      → AllByRecursion P ks → AllByRecursion Q (change_where (stands_at b) g ks)
  rows_changed b g new others ks all =
      all_map Q (λ x. if stands_at b x then g x else x) ks
      (all_weaker P _ (λ x is. cond_both (stands_at b x) (g x) x Q (λ here. new x (equal_from_same x.me b here) is) (λ other. others x other is)) ks all)

  pub rows_left : (test : KeptRow → Bool) → ((x : KeptRow) → test x ≡ false → P x → Q x) → (ks : List KeptRow) → AllByRecursion P ks → AllByRecursion Q (drop_where test ks)
  rows_left test each ks all = all_filter P Q (λ x. not (test x)) (λ x passes is. each x (not-true (test x) passes) is) ks all

-- ---- more events

-- seals stay, and the branch has not forgotten by these events if it had not before
pub record Stays (t r : List Event) (b : BranchId) : Type 0 where
  pub seals : (c : BranchId) → IsSealed t c → IsSealed r c
  pub forgets : Has (Forget b) r → Has (Forget b) t

pub stays_with : (t : List Event) (e : Event) (b : BranchId) → ((is : e ≡ Forget b) → ⊥) → Stays t (e ∷ t) b
stays_with t e b other = record {
  seals = λ c is. (is.0, exit_stays e t c (Sealed is.0) is.1);
  forgets = λ has. elim has [ inl here ↦ absurd (other here) | inr there ↦ there ];
}

pub stays_same : (t : List Event) (b : BranchId) → Stays t t b
stays_same t b = record { seals = λ c is. is; forgets = λ has. has }

pub plain_stays : (t r : List Event) (s : KeptRow) → Stays t r s.me → Plain t s → Plain r s
plain_stays t r s stays is = record {
  sealed = all_weaker _ _ (λ y so. stays.seals y.branch so) (beyond s) is.sealed;
  unheard = is.unheard;
  whole = is.whole;
  forgets = λ has. is.forgets (stays.forgets has);
}

pub acks_more : (said says : List Post) (s : KeptRow) → Acks said s → Acks (said ++ says) s
acks_more said says s is knows fresh all = (let told = is knows fresh all in (told.0, told.1, sent_more is_ack said says s.me told.0 told.2))

pub tells_stays : (said says : List Post) (t r : List Event) (bound : ℕ) (s : KeptRow) → Stays t r s.me → Tells said t bound s → Tells (said ++ says) r bound s
tells_stays said says t r bound s stays (inl is) = inl (plain_stays t r s stays is.0, acks_more said says s is.1)
tells_stays said says t r bound s stays (inr old) = inr old

-- ---- a row that is changed has the same neighbours beyond

pub ended_beyond : (n : ℕ) (s : KeptRow) → beyond (ended_commit n s) ≡ beyond s
unfolding beyond
ended_beyond n s = refl

pub met_beyond : (d : Decision) (mixed : Bool) (s : KeptRow) → beyond (met_as d mixed s) ≡ beyond s
unfolding beyond
met_beyond d mixed s = refl

pub state_beyond : (state : State) (s : KeptRow) → beyond (in_state state s) ≡ beyond s
unfolding beyond
state_beyond state s = refl

pub forgot_beyond : (s : KeptRow) → beyond (forgot_as s) ≡ beyond s
unfolding beyond
forgot_beyond s = refl

pub hidden_beyond : (s : KeptRow) → beyond (hidden_as s) ≡ beyond s
unfolding beyond
hidden_beyond s = refl
