-- A record, and a branch that leaves, send nothing: what was told after them was told before.
use Rattle.std.proofs.Common.{◌≡◌, ℕ, Bool, true, false, List, [], ◌∷◌, Option, Some, None, inl, inr, refl, ap}
use Rattle.std.specs.List.{list_any}
use Rattle.std.proofs.lemmas.Bool.{cond_both}
use Rattle.agreement.specs.Events.{Event, Answer_read_only, Drop, Send_commit, Send_rollback, Send_ack, Send_forgotten, Has}
use Rattle.node_rules.specs.Data.{BranchId, Msg, RedoRecord}
use Rattle.node_rules.specs.Data.records
use Rattle.run_rules.specs.Trail.{is_quiet}
use Rattle.run_base_laws.specs.RunEvents.{with_event, record_event, wrote_event, leave_event, has_left, with_leaver, with_leavers}

-- a message from a branch to a branch
abbrev pub is_sent : Event → Bool
is_sent (Send_commit a b n) = true
is_sent (Send_rollback a b) = true
is_sent (Send_ack a b) = true
is_sent (Send_forgotten a b) = true
is_sent _ = false

module _ (x : Event) (sent_so : is_sent x ≡ true) where
  one_back : (e : Event) (t : List Event) → is_sent e ≡ false → Has x (e ∷ t) → Has x t
  one_back e t other (inl here) = (let both : is_sent e ≡ is_sent x = ap is_sent here in absurd (cc (both, other, sent_so)))
  one_back e t other (inr there) = there

  leave_plain : (c : BranchId) (sent : List Msg) → is_sent (leave_event sent c) ≡ false
  leave_plain c sent = cond_both (list_any (is_quiet c) sent) (Answer_read_only c) (Drop c) (λ e. is_sent e ≡ false) (λ quiet. refl) (λ other. refl)

  pub leavers_back : (after : List BranchId) (sent : List Msg) (cs : List BranchId) (t : List Event) → Has x (with_leavers after sent cs t) → Has x t
  leavers_back after sent [] t has = has
  leavers_back after sent (c ∷ cs) t has =
      cond_both (has_left after t c) (leave_event sent c ∷ t) t (λ xs. Has x xs → Has x t) (λ left. one_back (leave_event sent c) t (leave_plain c sent)) (λ stays it. it) (leavers_back after sent cs (with_leaver after sent c t) has)

  record_back : (n : ℕ) (r : RedoRecord) (t : List Event) → Has x (with_event (record_event n r) t) → Has x t
  record_back n (records.Table y) t has = one_back _ t refl has
  record_back n (records.Sealed r) t has = one_back _ t refl has
  record_back n (records.Decided r) t has = one_back _ t refl has
  record_back n (records.Ended c d) t has = one_back _ t refl has
  record_back n (records.Forced c d given) t has = one_back _ t refl has
  record_back n (records.Met c d mixed) t has = one_back _ t refl has
  record_back n (records.Forgot c) t has = one_back _ t refl has
  record_back n _ t has = has

  pub wrote_back : (n : ℕ) (w : Option RedoRecord) (t : List Event) → Has x (with_event (wrote_event n w) t) → Has x t
  wrote_back n None t has = has
  wrote_back n (Some r) t has = record_back n r t has
