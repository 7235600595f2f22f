-- The events of a lawful run as its forest allows them: who forgot knew the commit, who learned it was told it by one who
-- knew it, and what is Forgot by a record alone.
use Rattle.std.proofs.Common.{◌≡◌, ◌≢◌, ℕ, ◌⊎◌, List, [], ◌∷◌, Option, Some, None, inl, inr, ap}
use Rattle.std.proofs.lemmas.Bool.{cond_both}
use Rattle.agreement.specs.Events.{Forest, Event, Decided, Answer_read_only, Drop, Forget, Learn, Send_commit, exit, learned, Has, Knows, Lawful}
use Rattle.agreement.proofs.EventLemmas.{learn_by, learned_new}
use Rattle.agreement.proofs.Invariant.{Inv, knows_stays, allowed_at}
use Rattle.node_rules.specs.Data.{BranchId, Kind, Msg, RedoRecord}
use Rattle.node_rules.specs.Data.decisions
use Rattle.node_rules.specs.Data.kinds
use Rattle.node_rules.specs.Data.records
use Rattle.run_rules.specs.Data.{Turn}
use Rattle.run_rules.specs.Facts.{Facts, node_at}
use Rattle.run_base_laws.specs.RunEvents.{with_event, record_event, wrote_event, message_event, with_messages, leave_event, has_left, with_leaver, with_leavers, with_record, lives_at}
use Rattle.run_rules.specs.Trail.{is_quiet}
use Rattle.std.specs.List.{list_any}
use Rattle.run_base_laws.proofs.LaterLemmas.{Added, exit_later, learned_later}

-- who forgot has left
pub forgot_left : (p : Forest) (e : List Event) → Inv p e → (b : BranchId) → Has (Forget b) e → exit e b ≢ None
forgot_left p e i b has none = by (i.forgets b has).0.1
  where
    by : {n : ℕ} → Knows e b n → ⊥
    by (inl decided) = absurd (cc (none, decided))
    by {n = n} (inr learnt) = (let sealed = i.learned_sealed b (decisions.Commit n) learnt in let at = sealed.1 in absurd (cc (none, at)))

-- ---- who told a commit

pub commit_knows : (p : Forest) (t : List Event) → Lawful p t → (a b : BranchId) (n : ℕ) → Has (Send_commit a b n) t → Knows t a n
commit_knows p [] lawful a b n has = absurd has
commit_knows p (s ∷ t) lawful a b n (inl here) = knows_stays s t a n (allowed_at p s (Send_commit a b n) t here lawful.0)
commit_knows p (s ∷ t) lawful a b n (inr there) = knows_stays s t a n (commit_knows p t lawful.1 a b n there)

-- who learned a commit was told it by the neighbour that is toward, which knows it
pub learn_knows : (p : Forest) (t : List Event) → Lawful p t → (b : BranchId) (n : ℕ) → learned t b ≡ Some (decisions.Commit n) → Knows t (p.toward b) n
learn_knows p [] lawful b n is = absurd cc
learn_knows p (s ∷ t) lawful b n is = elim (learned_new s t b (decisions.Commit n) is) [
  | inl old ↦ knows_stays s t (p.toward b) n (learn_knows p t lawful.1 b n old)
  | inr new ↦ (let by = learn_by s b (decisions.Commit n) new.1 in
      knows_stays s t (p.toward b) n (commit_knows p t lawful.1 (p.toward b) b n (allowed_at p s (Learn b (decisions.Commit n) by.0) t by.1 lawful.0).2))
]

pub knows_later : {Q : Event → Type 0} {t r : List Event} → Added Q t r → (b : BranchId) (n : ℕ) → Knows t b n → Knows r b n
knows_later more b n (inl decided) = inl (exit_later b (Decided n) more decided)
knows_later more b n (inr learnt) = inr (learned_later b (decisions.Commit n) more learnt)

-- ---- Forgot is a record

module _ (b : BranchId) where
  one_back : (e : Event) (t : List Event) → (e ≡ Forget b → ⊥) → Has (Forget b) (e ∷ t) → Has (Forget b) t
  one_back e t other (inl here) = absurd (other here)
  one_back e t other (inr there) = there

  message_back : (from to : BranchId) (scn : ℕ) (kind : Kind) (t : List Event) → Has (Forget b) (with_event (message_event from to scn kind) t) → Has (Forget b) t
  message_back from to scn kinds.Prepared t has = one_back _ t (λ no. absurd cc) has
  message_back from to scn kinds.CommitPoint t has = one_back _ t (λ no. absurd cc) has
  message_back from to scn (kinds.Committed n) t has = one_back _ t (λ no. absurd cc) has
  message_back from to scn kinds.Rollback t has = one_back _ t (λ no. absurd cc) has
  message_back from to scn kinds.RolledBack t has = one_back _ t (λ no. absurd cc) has
  message_back from to scn kinds.Ack t has = one_back _ t (λ no. absurd cc) has
  message_back from to scn kinds.Forgotten t has = one_back _ t (λ no. absurd cc) has
  message_back from to scn _ t has = has

  messages_back : (ms : List Msg) (t : List Event) → Has (Forget b) (with_messages ms t) → Has (Forget b) t
  messages_back [] t has = has
  messages_back (m ∷ ms) t has = message_back m.from m.to m.scn m.kind t (messages_back ms _ has)

  leave_plain : (c : BranchId) (sent : List Msg) → leave_event sent c ≡ Forget b → ⊥
  leave_plain c sent = cond_both (list_any (is_quiet c) sent) (Answer_read_only c) (Drop c) (λ x. x ≡ Forget b → ⊥) (λ quiet it. absurd cc) (λ other it. absurd cc)

  leaver_back : (after : List BranchId) (sent : List Msg) (c : BranchId) (t : List Event) → Has (Forget b) (with_leaver after sent c t) → Has (Forget b) t
  leaver_back after sent c t has =
      cond_both (has_left after t c) (leave_event sent c ∷ t) t (λ xs. Has (Forget b) xs → Has (Forget b) t) (λ left. one_back (leave_event sent c) t (leave_plain c sent)) (λ stays it. it) has

  leavers_back : (after : List BranchId) (sent : List Msg) (cs : List BranchId) (t : List Event) → Has (Forget b) (with_leavers after sent cs t) → Has (Forget b) t
  leavers_back after sent [] t has = has
  leavers_back after sent (c ∷ cs) t has = leaver_back after sent c t (leavers_back after sent cs _ has)

  -- what a turn adds to its record is none
  pub turn_back : (f g : Facts) (u : Turn) (e : List Event) → Has (Forget b) (with_messages u.sent (with_leavers (lives_at (node_at g u.node)) u.sent (lives_at (node_at f u.node)) (with_record u e))) → Has (Forget b) (with_record u e)
  turn_back f g u e has = leavers_back (lives_at (node_at g u.node)) u.sent (lives_at (node_at f u.node)) (with_record u e) (messages_back u.sent _ has)

  pub stop_back : (f : Facts) (n : ℕ) (e : List Event) → Has (Forget b) (with_leavers [] [] (lives_at (node_at f n)) e) → Has (Forget b) e
  stop_back f n e has = leavers_back [] [] (lives_at (node_at f n)) e has

  record_back : (n : ℕ) (r : RedoRecord) (e : List Event) → Has (Forget b) (with_event (record_event n r) e) → Has (Forget b) e ⊎ (r ≡ records.Forgot b)
  record_back n (records.Table x) e has = inl (one_back _ e (λ no. absurd cc) has)
  record_back n (records.Sealed r) e has = inl (one_back _ e (λ no. absurd cc) has)
  record_back n (records.Decided r) e has = inl (one_back _ e (λ no. absurd cc) has)
  record_back n (records.Ended c d) e has = inl (one_back _ e (λ no. absurd cc) has)
  record_back n (records.Forced c d given) e has = inl (one_back _ e (λ no. absurd cc) has)
  record_back n (records.Met c d mixed) e has = inl (one_back _ e (λ no. absurd cc) has)
  record_back n (records.Forgot c) e (inl here) = inr (let it : c ≡ b = cc in ap records.Forgot it)
  record_back n (records.Forgot c) e (inr there) = inl there
  record_back n _ e has = inl has

  -- the record of a turn is, or it was forgotten before
  pub wrote_back : (n : ℕ) (w : Option RedoRecord) (e : List Event) → Has (Forget b) (with_event (wrote_event n w) e) → Has (Forget b) e ⊎ (w ≡ Some (records.Forgot b))
  wrote_back n None e has = inl has
  wrote_back n (Some r) e has = elim (record_back n r e has) [ inl old ↦ inl old | inr new ↦ inr (ap Some new) ]
