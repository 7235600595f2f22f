-- What is known of live branches and the Prepares that were sent, and what messages and changes of a branch leave of it.
use Rattle.std.proofs.Common.{◌≡◌, ◌≢◌, ℕ, zero, suc, ◌+◌, ◌≤◌, ◌&&◌, ◌||◌, ◌⊎◌, Bool, true, false, List, [], ◌∷◌, ◌++◌, map, Option, Some, inl, inr, refl, sym, ap, ◌∙◌, arith}
use Rattle.std.specs.List.{list_any}
use Rattle.std.proofs.lemmas.Bool.{and_parts, or_left}
use Rattle.tran_ids.proofs.BranchLemmas.{equal_from_same}
use Rattle.node_rules.specs.Data.{BranchId, Edge, Kind, Live, Phase, Post, Act, Input}
use Rattle.node_rules.specs.Data.phases
use Rattle.node_rules.specs.Data.acts
use Rattle.node_rules.specs.Words.{same, numbered}
use Rattle.node_rules.specs.Prepare.{prepares}
use Rattle.node_rules.specs.NodeState.{NodeState}
use Rattle.node_rules.proofs.Steps as steps
use Rattle.node_rules.proofs.Steps.{Acting, Collected}
use Rattle.run_rules.specs.Trail.{is_prepare}
use Rattle.run_base_laws.specs.InTurnLaws.{newest_exec, newest_reply}
use Rattle.run_base_laws.specs.FreezeLaws.{was_asked}
use Rattle.run_base_laws.proofs.KindSayLemmas.{OfDecisions, AllSay}
use Rattle.run_base_laws.proofs.CallTurnLemmas.{exec_more, reply_more}

-- ---- messages

-- a message that is no Prepare
abbrev pub IsPlain : Kind → Type 0
IsPlain kind = is_prepare kind ≡ false

pub plain_decisions : OfDecisions IsPlain
plain_decisions = record { committed = λ n. refl; rolled_back = refl; rollback = refl; in_doubt = refl; ack = refl; forgotten = refl; ask = refl }

pub any_append : (test : Post → Bool) (ms ns : List Post) → list_any test (ms ++ ns) ≡ (list_any test ms || list_any test ns)
any_append test [] ns = refl
any_append test (m ∷ ms) ns = by (test m) (any_append test ms ns)
  where
    by : (q : Bool) → list_any test (ms ++ ns) ≡ (list_any test ms || list_any test ns) → (q || list_any test (ms ++ ns)) ≡ ((q || list_any test ms) || list_any test ns)
    by true is = refl
    by false is = is

pub or_false : (p q : Bool) → p ≡ false → q ≡ false → (p || q) ≡ false
or_false true q first second = absurd cc
or_false false q first second = second

pub or_split : (p q : Bool) → (p || q) ≡ true → (p ≡ true) ⊎ (q ≡ true)
or_split true q is = inl refl
or_split false q is = inr is

pub and_false : (p q : Bool) → q ≡ false → (p && q) ≡ false
and_false true q is = is
and_false false q is = refl

module _ (said says : List Post) (p c : BranchId) where
  abbrev test : Post → Bool
  test m = (same m.from p && same m.to c) && is_prepare m.kind

  -- one who was asked stays so, and is asked by the new messages or was asked before
  pub asked_more : was_asked said p c ≡ true → was_asked (said ++ says) p c ≡ true
  asked_more is = any_append test said says ∙ or_left (was_asked said p c) (was_asked says p c) is

  pub asked_split : was_asked (said ++ says) p c ≡ true → (was_asked said p c ≡ true) ⊎ (was_asked says p c ≡ true)
  asked_split is = or_split (was_asked said p c) (was_asked says p c) (sym (any_append test said says) ∙ is)

  pub unasked_more : was_asked said p c ≡ false → was_asked says p c ≡ false → was_asked (said ++ says) p c ≡ false
  unasked_more first second = any_append test said says ∙ or_false (was_asked said p c) (was_asked says p c) first second

-- messages without a Prepare ask nobody
pub plain_asks : (p c : BranchId) (says : List Post) → AllSay IsPlain says → was_asked says p c ≡ false
plain_asks p c [] all = refl
plain_asks p c (m ∷ ms) all = or_false ((same m.from p && same m.to c) && is_prepare m.kind) (was_asked ms p c) (and_false (same m.from p && same m.to c) (is_prepare m.kind) all.0) (plain_asks p c ms all.1)

-- the Prepares of a branch go to its children
pub prepares_ask : (me : BranchId) (comment : List ℕ) (path : Option ℕ) (from : ℕ) (es : List Edge) (p c : BranchId) → was_asked (prepares me comment path from es) p c ≡ true → (same me p ≡ true) × ((j : ℕ) × (numbered (map (λ e. e.peer) es) (suc j) ≡ Some c))
prepares_ask me comment path from [] p c is = absurd cc
prepares_ask me comment path from (e ∷ es) p c is = elim (or_split ((same me p && same e.peer c) && true) (was_asked (prepares me comment path (from + 1) es) p c) is) [
  | inl here ↦ (let parts = and_parts (same me p && same e.peer c) true here in let both = and_parts (same me p) (same e.peer c) parts.0 in (both.0, (zero, ap Some (equal_from_same e.peer c both.1))))
  | inr later ↦ (let rest = prepares_ask me comment path (from + 1) es p c later in (rest.0, (suc rest.1.0, rest.1.1)))
]

-- each child that was asked answered its last call
abbrev pub AskedAnswered : List Post → Type 0
AskedAnswered said = (p c : BranchId) → was_asked said p c ≡ true → newest_exec said p c ≤ newest_reply said c

-- messages that ask nobody, and call none that was asked
pub asked_answered : (said says : List Post) → AllSay IsPlain says → ((p c : BranchId) → (newest_exec says p c ≡ 0) ⊎ (was_asked said p c ≡ false)) → AskedAnswered said → AskedAnswered (said ++ says)
asked_answered said says plain execs now p c is = elim (asked_split said says p c is) [
  | inr new ↦ (let none : was_asked says p c ≡ false = plain_asks p c says plain in absurd (cc (new, none)))
  | inl old ↦ elim (execs p c) [
    | inl none ↦ (let before : newest_exec said p c ≤ newest_reply said c = now p c old in omega (arith, before, none, exec_more said says p c, reply_more said says c))
    | inr unasked ↦ absurd (cc (old, unasked))
  ]
]

-- ---- branches

-- A working branch has asked none; another one was asked by its parent.
pub record FrozenSo (said : List Post) (me : BranchId) (parent : Option BranchId) (phase : Phase) : Type 0 where
  pub working : phase ≡ phases.Working → (c : BranchId) → was_asked said me c ≡ false
  pub asked : phase ≢ phases.Working → (q : BranchId) → parent ≡ Some q → was_asked said q me ≡ true

-- of a live branch
abbrev pub Frozen : List Post → Live → Type 0
Frozen said l = FrozenSo said l.me l.parent l.phase

-- messages that do not ask in its name leave it so
pub stays_frozen : (said says : List Post) (me : BranchId) (parent : Option BranchId) (phase : Phase) → ((c : BranchId) → was_asked says me c ≡ false) → FrozenSo said me parent phase → FrozenSo (said ++ says) me parent phase
stays_frozen said says me parent phase none is = record {
  working = λ working c. unasked_more said says me c (is.working working c) (none c);
  asked = λ other q above. asked_more said says q me (is.asked other q above);
}

-- one that is not working any more
pub asked_frozen : (said says : List Post) (me : BranchId) (parent : Option BranchId) (phase : Phase) → phase ≢ phases.Working → ((q : BranchId) → parent ≡ Some q → was_asked said q me ≡ true) → FrozenSo (said ++ says) me parent phase
asked_frozen said says me parent phase other asked = record { working = λ working. absurd (other working); asked = λ no q above. asked_more said says q me (asked q above) }

pub working_or : (phase : Phase) → (phase ≡ phases.Working) ⊎ (phase ≢ phases.Working)
working_or phases.Working = inl refl
working_or (phases.Collecting site_below) = inr (λ is. absurd cc)
working_or phases.Ready = inr (λ is. absurd cc)

-- ---- phases

-- a branch that acts is not working any more
pub acting_phase : {k : NodeState} {input : Input} {l : Live} {site_below : Bool} {a : Act} → Acting k input l site_below a → l.phase ≢ phases.Working
acting_phase (steps.Asks_down l comment site_below e es live begins has) is = absurd cc
acting_phase (steps.Has_no_children l comment site_below a live begins none collected) is = absurd cc
acting_phase (steps.Hears_abort l from site_below live answers) is = (let at : l.phase ≡ phases.Collecting site_below = answers.collecting in absurd (cc (at, is)))
acting_phase (steps.Waits_on l from v site_below live answers other some) is = (let at : l.phase ≡ phases.Collecting site_below = answers.collecting in absurd (cc (at, is)))
acting_phase (steps.Hears_last l from v site_below a live answers other all collected) is = (let at : l.phase ≡ phases.Collecting site_below = answers.collecting in absurd (cc (at, is)))
acting_phase (steps.At_point l from a live came ready pointed) is = absurd (cc (ready, is))

-- one whose children have all answered asks none
pub no_ask : {l : Live} {site_below : Bool} → Collected l site_below acts.AskDown → ⊥
no_ask collected = elim collected [ ]
