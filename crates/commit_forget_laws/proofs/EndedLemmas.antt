-- The book of a run against its events: a sealed branch of a transaction whose seals have all ended with commit learned the
-- commit, and was never forced. An Ack among the events was sent.
use Rattle.std.proofs.Common.{◌≡◌, ℕ, zero, suc, ◌⊎◌, ◌&&◌, ◌||◌, Bool, true, false, List, [], ◌∷◌, ◌++◌, map, slice_get, Option, Some, None, inl, inr, refl, sym, ap, subst, ◌∙◌, append-nil}
use Rattle.std.specs.List.{AllByRecursion}
use Rattle.std.proofs.lemmas.Bool.{or_right}
use Rattle.tran_ids.proofs.BranchLemmas.{same_from_equal}
use Rattle.agreement.specs.BookOf.{entry_by, with_entry, book_of}
use Rattle.agreement.specs.Data.{Change, Entry}
use Rattle.agreement.specs.Data.entries
use Rattle.agreement.specs.Events.{Forest, Event, Sealed, Seal, Learn, Force, Send_ack, Answer_read_only, Drop, Make, Decide, Forget, Send_vote, Send_commit, Send_rollback, Send_forgotten, first, only_at, exit, learned, forced, mark, Has, Allowed, Lawful}
use Rattle.agreement.specs.Outcomes.{At}
use Rattle.agreement.proofs.AgreementLaws.{was_allowed}
use Rattle.agreement.proofs.EventLemmas.{exit_new, sealed_by, learned_stays, forced_new, force_by, only_at_same}
use Rattle.agreement.proofs.Invariant.{allowed_at}
use Rattle.node_rules.specs.Data.{BranchId, Decision, Kind, Msg}
use Rattle.node_rules.specs.Data.decisions
use Rattle.node_rules.specs.Data.kinds
use Rattle.node_rules.specs.Words.{same}
use Rattle.run_rules.specs.Data.{Happening}
use Rattle.run_rules.specs.Data.happenings
use Rattle.run_rules.specs.Facts.{Facts, first_facts, node_at, facts_after}
use Rattle.run_base_laws.specs.InTurnLaws.{post_of, said_in}
use Rattle.run_rules.specs.Lawful.{History, IsLawfulRun, facts_at}
use Rattle.run_base_laws.specs.RunEvents.{with_event, message_event, with_messages, with_record, lives_at, events_after, events_from, events_of}
use Rattle.run_branch_laws.specs.WalkLaws.{was_sent}
use Rattle.run_branch_laws.proofs.EventBookLemmas.{book_of_events}
use Rattle.run_rules.proofs.FactLemmas.{book_is}
use Rattle.run_base_laws.proofs.SaidPostLemmas.{posts_of, said_after}
use Rattle.tree_laws.proofs.AskLemmas.{sent_more, sent_new}
use Rattle.tree_laws.proofs.PrefixLemmas.{f_at, e_at, one_on, more_on}
use Rattle.tree_laws.proofs.TimeLemmas.{keep_on}
use Rattle.run_claims.specs.Undisturbed.{SealIsEnded}
use Rattle.commit_forget_laws.specs.RowLaws.{is_ack}
use Rattle.commit_forget_laws.proofs.SentBackLemmas.{leavers_back, wrote_back}
use Rattle.tree_laws.proofs.ClearLemmas.{all_parts}

-- ---- entries

last_or : {A : Type 0} (xs : List A) (z y : A) (i : ℕ) → slice_get (xs ++ z ∷ []) i ≡ Some y → (slice_get xs i ≡ Some y) ⊎ (z ≡ y)
last_or [] z y zero is = inr (let it : Some z ≡ Some y = is in cc)
last_or [] z y (suc i) is = absurd cc
last_or (x ∷ xs) z y zero is = inl is
last_or (x ∷ xs) z y (suc i) is = last_or xs z y i is

-- what is so of each entry is so of that of an event
entry_so : (P : Entry → Type 0) (t : List Event) → AllByRecursion P (book_of t) → (s : Event) → Has s t → (x : Entry) → entry_by s ≡ Some x → P x
entry_so P [] all s has x is = absurd has
entry_so P (e ∷ t) all s has x is = by (entry_by e) refl all has (entry_so P t)
  where
    by : (o : Option Entry) → entry_by e ≡ o → AllByRecursion P (with_entry (book_of t) o) → (e ≡ s) ⊎ Has s t → (AllByRecursion P (book_of t) → (r : Event) → Has r t → (y : Entry) → entry_by r ≡ Some y → P y) → P x
    by None at each (inl here) rest = (let none : entry_by s ≡ None = subst (λ r. entry_by r ≡ None) here at in absurd (cc (none, is)))
    by None at each (inr there) rest = rest each s there x is
    by (Some z) at each (inl here) rest =
        let both : Some z ≡ Some x = sym at ∙ (ap entry_by here ∙ is) in
        let it : z ≡ x = cc in
        subst P it (all_parts P (book_of t) (z ∷ []) each).1.0
    by (Some z) at each (inr there) rest = rest (all_parts P (book_of t) (z ∷ []) each).0 s there x is

-- an entry is of an event
entry_has : (t : List Event) (i : ℕ) (x : Entry) → At (book_of t) i x → (s : Event) × Has s t × (entry_by s ≡ Some x)
entry_has [] i x is = absurd cc
entry_has (e ∷ t) i x is = by (entry_by e) refl is (entry_has t i x)
  where
    by : (o : Option Entry) → entry_by e ≡ o → slice_get (with_entry (book_of t) o) i ≡ Some x → (At (book_of t) i x → (s : Event) × Has s t × (entry_by s ≡ Some x)) → (s : Event) × Has s (e ∷ t) × (entry_by s ≡ Some x)
    by None at there rest = (let it = rest there in (it.0, inr it.1, it.2))
    by (Some z) at there rest = elim (last_or (book_of t) z x i there) [
      | inl old ↦ (let it = rest old in (it.0, inr it.1, it.2))
      | inr new ↦ (e, inl refl, at ∙ ap Some new)
    ]

ended_is : (s : Event) (b : BranchId) (d : Decision) → entry_by s ≡ Some (entries.Ended b d) → s ≡ Learn b d None
ended_is (Learn c o None) b d is = (let both : Some (entries.Ended c o) ≡ Some (entries.Ended b d) = is in let one : entries.Ended c o ≡ entries.Ended b d = cc in let me : c ≡ b = cc in let it : o ≡ d = cc in cc (me, it))
ended_is (Learn c o (Some mixed)) b d is = absurd cc
ended_is (Make n table) b d is = absurd cc
ended_is (Seal c g n cs) b d is = absurd cc
ended_is (Decide c g n cs) b d is = absurd cc
ended_is (Force c o) b d is = absurd cc
ended_is (Answer_read_only c) b d is = absurd cc
ended_is (Drop c) b d is = absurd cc
ended_is (Forget c) b d is = absurd cc
ended_is (Send_vote c n) b d is = absurd cc
ended_is (Send_commit x y n) b d is = absurd cc
ended_is (Send_rollback x y) b d is = absurd cc
ended_is (Send_ack x y) b d is = absurd cc
ended_is (Send_forgotten x y) b d is = absurd cc

-- the entry of an Ended commit is of that event
ended_learns : (t : List Event) (b : BranchId) (d : Decision) (i : ℕ) → At (book_of t) i (entries.Ended b d) → Has (Learn b d None) t
ended_learns t b d i at = (let it = entry_has t i (entries.Ended b d) at in by it.0 it.1 it.2)
  where
    by : (s : Event) → Has s t → entry_by s ≡ Some (entries.Ended b d) → Has (Learn b d None) t
    by s has is = subst (λ e. Has e t) (ended_is s b d is) has

seal_stands : (t : List Event) (b : BranchId) (n : ℕ) → exit t b ≡ Some (Sealed n) → (g : BranchId) × (cs : List Change) × Has (Seal b g n cs) t
seal_stands [] b n h = absurd cc
seal_stands (s ∷ t) b n h = elim (exit_new s t b (Sealed n) h) [
  | inl old ↦ (let r = seal_stands t b n old in (r.0, r.1, inr r.2))
  | inr new ↦ (let r = sealed_by s b n new.1 in (r.0, r.1, inl r.2))
]

-- ---- a branch that ended with commit

unmarked : (o : Option Decision) (d : Decision) → None ≡ mark o d → o ≡ None
unmarked None d is = refl
unmarked (Some x) d is = absurd cc

module _ (p : Forest) (b : BranchId) (n : ℕ) where
  ends_so : (t : List Event) → Lawful p t → Has (Learn b (decisions.Commit n) None) t → (learned t b ≡ Some (decisions.Commit n)) × (forced t b ≡ None)
  ends_so [] lawful has = absurd has
  ends_so (s ∷ t) lawful (inl here) =
      let a : Allowed p t (Learn b (decisions.Commit n) None) = allowed_at p s (Learn b (decisions.Commit n) None) t here lawful.0 in
      let none : forced t b ≡ None = unmarked (forced t b) (decisions.Commit n) a.3 in (
        subst (λ e. learned (e ∷ t) b ≡ Some (decisions.Commit n)) (sym here) (ap (λ o. first o (only_at b b (decisions.Commit n))) a.1 ∙ only_at_same b b (decisions.Commit n) refl),
        subst (λ e. forced (e ∷ t) b ≡ None) (sym here) (ap (λ o. first o None) none),
      )
  ends_so (s ∷ t) lawful (inr there) =
      let old = ends_so t lawful.1 there in (
        learned_stays s t b (decisions.Commit n) old.0,
        by old (forced (s ∷ t) b) refl,
      )
    where
      by : (learned t b ≡ Some (decisions.Commit n)) × (forced t b ≡ None) → (o : Option Decision) → forced (s ∷ t) b ≡ o → o ≡ None
      by was_so None is = refl
      by was_so (Some x) is = elim (forced_new s t b x is) [
        | inl was ↦ (let none = was_so.1 in absurd (cc (was, none)))
        | inr new ↦ (let a : Allowed p t (Force b x) = allowed_at p s (Force b x) t (force_by s b x new.1) lawful.0 in let knew = was_so.0 in let not = a.2 in absurd (cc (knew, not)))
      ]

module _ (t : History) (whole : IsLawfulRun t) where
  book_same : (facts_at t).book ≡ book_of (events_of t)
  book_same = book_is t.places t.commands (first_facts t.places) t.trace ∙ sym (book_of_events t)

  -- a sealed branch of such a transaction learned the commit, and was never forced
  pub sealed_ended : (p : Forest) (root : BranchId) → Lawful p (events_of t) → AllByRecursion (SealIsEnded (facts_at t).book root) (facts_at t).book → (b : BranchId) (m : ℕ) → exit (events_of t) b ≡ Some (Sealed m) → p.root b ≡ root
      → (n : ℕ) × (learned (events_of t) b ≡ Some (decisions.Commit n)) × (forced (events_of t) b ≡ None)
  sealed_ended p root lawful all b m sealed of =
      let there = seal_stands (events_of t) b m sealed in
      let allowed = was_allowed p (Seal b there.0 m there.1) (events_of t) lawful there.2 in
      let global : p.root b ≡ there.0 = allowed.1.4 in
      let each : AllByRecursion (SealIsEnded (book_of (events_of t)) root) (book_of (events_of t)) = subst (λ book. AllByRecursion (SealIsEnded book root) book) book_same all in
      let ends : SealIsEnded (book_of (events_of t)) root (entries.Sealed b there.0 there.1 m)
      = entry_so (SealIsEnded (book_of (events_of t)) root) (events_of t) each (Seal b there.0 m there.1) there.2 (entries.Sealed b there.0 there.1 m) refl in
      let it = ends (same_from_equal there.0 root (sym global ∙ of)) in
      let both = ends_so p b it.0 (events_of t) lawful (ended_learns (events_of t) b (decisions.Commit it.0) it.1 it.2) in
      (it.0, both.0, both.1)

-- ---- an Ack was sent

module _ (x b : BranchId) where
  abbrev IsAck : List Event → Type 0
  IsAck t = Has (Send_ack x b) t

  one_back : (e : Event) (t : List Event) → (e ≡ Send_ack x b → ⊥) → IsAck (e ∷ t) → IsAck t
  one_back e t other (inl here) = absurd (other here)
  one_back e t other (inr there) = there

  message_back : (from to : BranchId) (scn : ℕ) (kind : Kind) (t : List Event) → IsAck (with_event (message_event from to scn kind) t) → IsAck t ⊎ (((same from x && same to b) && is_ack kind) ≡ true)
  message_back from to scn kinds.Ack t (inl here) = (let me : from ≡ x = cc in let it : to ≡ b = cc in inr (both_true (same from x) (same to b) (same_from_equal from x me) (same_from_equal to b it)))
    where
      both_true : (p q : Bool) → p ≡ true → q ≡ true → ((p && q) && true) ≡ true
      both_true true true one two = refl
      both_true true false one two = absurd cc
      both_true false q one two = absurd cc
  message_back from to scn kinds.Ack t (inr there) = inl there
  message_back from to scn kinds.Prepared t has = inl (one_back _ t (λ no. absurd cc) has)
  message_back from to scn kinds.CommitPoint t has = inl (one_back _ t (λ no. absurd cc) has)
  message_back from to scn (kinds.Committed n) t has = inl (one_back _ t (λ no. absurd cc) has)
  message_back from to scn kinds.Rollback t has = inl (one_back _ t (λ no. absurd cc) has)
  message_back from to scn kinds.RolledBack t has = inl (one_back _ t (λ no. absurd cc) has)
  message_back from to scn kinds.Forgotten t has = inl (one_back _ t (λ no. absurd cc) has)
  message_back from to scn _ t has = inl has

  messages_back : (ms : List Msg) (t : List Event) → IsAck (with_messages ms t) → IsAck t ⊎ (was_sent is_ack (map post_of ms) x b ≡ true)
  messages_back [] t has = inl has
  messages_back (m ∷ ms) t has = elim (messages_back ms (with_event (message_event m.from m.to m.scn m.kind) t) has) [
    | inl earlier ↦ elim (message_back m.from m.to m.scn m.kind t earlier) [
      | inl old ↦ inl old
      | inr here ↦ inr (or_here ((same m.from x && same m.to b) && is_ack m.kind) (was_sent is_ack (map post_of ms) x b) here)
    ]
    | inr later ↦ inr (or_right ((same m.from x && same m.to b) && is_ack m.kind) (was_sent is_ack (map post_of ms) x b) later)
  ]
    where
      or_here : (p q : Bool) → p ≡ true → (p || q) ≡ true
      or_here true q is = refl
      or_here false q is = absurd cc

  module _ (t : History) (whole : IsLawfulRun t) where
    abbrev Sent : List Happening → Type 0
    Sent hs = IsAck (e_at t hs) → was_sent is_ack (said_in (f_at t hs)) x b ≡ true

    module _ (hs : List Happening) (now : Sent hs) where
      abbrev f : Facts
      f = f_at t hs

      sent_by : (h : Happening) → IsAck (events_after t.places t.commands f h (e_at t hs)) → was_sent is_ack (said_in f ++ posts_of h) x b ≡ true
      sent_by (happenings.Turn u) has = elim (messages_back u.sent _ has) [
        | inl earlier ↦ sent_more is_ack (said_in f) (posts_of (happenings.Turn u)) x b
            (now (wrote_back (Send_ack x b) refl u.node u.wrote (e_at t hs) (leavers_back (Send_ack x b) refl (lives_at (node_at (facts_after t.places t.commands f (happenings.Turn u)) u.node)) u.sent (lives_at (node_at f u.node)) (with_record u (e_at t hs)) earlier)))
        | inr new ↦ sent_new is_ack (said_in f) (posts_of (happenings.Turn u)) x b new
      ]
      sent_by (happenings.Stopped n) has = sent_more is_ack (said_in f) [] x b (now (leavers_back (Send_ack x b) refl [] [] (lives_at (node_at f n)) (e_at t hs) has))
      sent_by (happenings.Started n boot) has = sent_more is_ack (said_in f) [] x b (now has)
      sent_by (happenings.Begun c) has = sent_more is_ack (said_in f) [] x b (now has)
      sent_by (happenings.Cut m n) has = sent_more is_ack (said_in f) [] x b (now has)
      sent_by (happenings.Join m n) has = sent_more is_ack (said_in f) [] x b (now has)
      sent_by (happenings.Lost k) has = sent_more is_ack (said_in f) [] x b (now has)

    sent_on : (hs : List Happening) (h : Happening) (rest : List Happening) → hs ++ h ∷ rest ≡ t.trace → Sent hs → Sent (hs ++ h ∷ [])
    sent_on hs h rest is now has =
        subst (λ xs. was_sent is_ack xs x b ≡ true) (sym (ap said_in (one_on t hs h) ∙ said_after t.places t.commands (f_at t hs) h)) (sent_by hs now h (subst IsAck (more_on t hs h) has))

    first_sent : Sent []
    unfolding events_from
    first_sent none = absurd none

    pub ack_sent : IsAck (events_of t) → was_sent is_ack (said_in (facts_at t)) x b ≡ true
    ack_sent has = keep_on t whole Sent sent_on [] t.trace (record { rest = []; is = append-nil t.trace }) first_sent has
