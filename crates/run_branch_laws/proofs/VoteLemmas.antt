-- In every lawful run a branch that voted is sealed, so no live one has voted.
use Rattle.std.proofs.Common.{◌≡◌, ℕ, ◌≤◌, Bool, true, false, if◌then◌else◌, List, [], ◌∷◌, Option, Some, None, inl, inr, subst}
use Rattle.std.specs.List.{AllByRecursion, list_any}
use Rattle.std.proofs.lemmas.Bool.{cond_both}
use Rattle.agreement.specs.Events.{Sealed, Event, Make, Seal, Decide, Answer_read_only, Drop, Force, Learn, Forget, Send_vote, Send_commit, Send_rollback, Send_ack, Send_forgotten, exit, Has}
use Rattle.node_rules.specs.Data.{BranchId, Kind, Msg, RedoRecord, Place}
use Rattle.node_rules.specs.Data.kinds
use Rattle.node_rules.specs.Data.records
use Rattle.node_rules.specs.Words.{numbered}
use Rattle.run_rules.specs.Data.{Happening, Command}
use Rattle.run_rules.specs.Data.happenings
use Rattle.run_rules.specs.Trail.{is_quiet}
use Rattle.run_rules.specs.Facts.{Facts, first_facts, node_at, facts_after}
use Rattle.run_rules.specs.Lawful.{IsPlace, MayHappen}
use Rattle.run_base_laws.specs.RunEvents.{with_event, wrote_event, record_event, message_event, with_messages, lives_at, leave_event, has_left, with_leaver, with_leavers, with_record, with_happening, events_after, events_of}
use Rattle.run_base_laws.specs.EventRows.{MaySayByEvents, MaySayAll}
use Rattle.run_branch_laws.specs.VoteLaws.{VotesAreOfSealed, LiveHaveNotVoted}
use Rattle.run_rules.proofs.ListLemmas.{all_weaker}
use Rattle.run_base_laws.proofs.LaterLemmas.{Added, Any, added_on, added_wider, exit_later, wrote_added, turn_added, stop_added, events_keep}
use Rattle.run_base_laws.proofs.EventsStandLemmas.{BranchStatus, tells_so, stand_on, stand_first, nodes_are_as_events}

-- a branch is sealed, at an SCN that this clock has met
abbrev IsSealed : List Event → BranchId → ℕ → Type 0
IsSealed r b j = (n : ℕ) × (exit r b ≡ Some (Sealed n)) × (n ≤ j)

-- each vote among these events is of a branch that is sealed by those
abbrev Votes : List Event → List Event → Type 0
Votes s r = (b : BranchId) (j : ℕ) → Has (Send_vote b j) s → IsSealed r b j

module _ (r : List Event) where
  -- an event that is no vote
  other_votes : (e : Event) (s : List Event) → ((b : BranchId) (j : ℕ) → e ≡ Send_vote b j → ⊥) → Votes s r → Votes (e ∷ s) r
  other_votes e s apart old b j (inl is) = absurd (apart b j is)
  other_votes e s apart old b j (inr has) = old b j has

  record_votes : (n : ℕ) (x : RedoRecord) (s : List Event) → Votes s r → Votes (with_event (record_event n x) s) r
  record_votes n (records.Table table) s old = other_votes (Make n table) s (λ b j is. absurd cc) old
  record_votes n (records.Sealed x) s old = other_votes (Seal x.me x.root x.scn x.changes) s (λ b j is. absurd cc) old
  record_votes n (records.Decided x) s old = other_votes (Decide x.me x.root x.scn x.changes) s (λ b j is. absurd cc) old
  record_votes n (records.Ended c d) s old = other_votes (Learn c d None) s (λ b j is. absurd cc) old
  record_votes n (records.Forced c d given) s old = other_votes (Force c d) s (λ b j is. absurd cc) old
  record_votes n (records.Met c d mixed) s old = other_votes (Learn c d (Some mixed)) s (λ b j is. absurd cc) old
  record_votes n (records.Forgot c) s old = other_votes (Forget c) s (λ b j is. absurd cc) old
  record_votes n _ s old = old

  wrote_votes : (n : ℕ) (w : Option RedoRecord) (s : List Event) → Votes s r → Votes (with_event (wrote_event n w) s) r
  wrote_votes n None s old = old
  wrote_votes n (Some x) s old = record_votes n x s old

  leave_votes : (c : BranchId) (q : Bool) (s : List Event) → Votes s r → Votes ((if q then Answer_read_only c else Drop c) ∷ s) r
  leave_votes c true s old = other_votes (Answer_read_only c) s (λ b j is. absurd cc) old
  leave_votes c false s old = other_votes (Drop c) s (λ b j is. absurd cc) old

  leavers_votes : (after : List BranchId) (sent : List Msg) (bs : List BranchId) (s : List Event) → Votes s r → Votes (with_leavers after sent bs s) r
  leavers_votes after sent [] s old = old
  leavers_votes after sent (c ∷ bs) s old =
      leavers_votes after sent bs (with_leaver after sent c s)
      (cond_both (has_left after s c) (leave_event sent c ∷ s) s (λ (x : List Event). Votes x r) (λ left. leave_votes c (list_any (is_quiet c) sent) s old) (λ stays. old))

  -- a vote of a sealed branch
  new_vote : (from : BranchId) (scn : ℕ) (s : List Event) → IsSealed r from scn → Votes s r → Votes (Send_vote from scn ∷ s) r
  new_vote from scn s so old b j (inl is) = let it : Send_vote from scn ≡ Send_vote b j = is in let who : from ≡ b = cc in let when : scn ≡ j = cc in subst (IsSealed r b) when (subst (λ c. IsSealed r c scn) who so)
  new_vote from scn s so old b j (inr has) = old b j has

  -- a message votes for a sealed branch alone
  abbrev VoteMay : BranchId → BranchId → ℕ → Kind → Type 0
  VoteMay from to scn kinds.Prepared = IsSealed r from scn
  VoteMay from to scn kinds.CommitPoint = IsSealed r from scn
  VoteMay from to scn _ = Unit {0}

  may_later : {Q : Event → Type 0} {t : List Event} → Added Q t r → (from to : BranchId) (scn : ℕ) (kind : Kind) → MaySayByEvents t from to scn kind → VoteMay from to scn kind
  may_later more from to scn kinds.Prepared may = (may.0, exit_later from (Sealed may.0) more may.1, may.2)
  may_later more from to scn kinds.CommitPoint may = (may.0, exit_later from (Sealed may.0) more may.1, may.2)
  may_later more from to scn _ may = tt

  message_votes : (from to : BranchId) (scn : ℕ) (kind : Kind) (s : List Event) → VoteMay from to scn kind → Votes s r → Votes (with_event (message_event from to scn kind) s) r
  message_votes from to scn kinds.Prepared s may old = new_vote from scn s may old
  message_votes from to scn kinds.CommitPoint s may old = new_vote from scn s may old
  message_votes from to scn (kinds.Committed n) s may old = other_votes (Send_commit from to n) s (λ b j is. absurd cc) old
  message_votes from to scn kinds.Rollback s may old = other_votes (Send_rollback from to) s (λ b j is. absurd cc) old
  message_votes from to scn kinds.RolledBack s may old = other_votes (Send_rollback from to) s (λ b j is. absurd cc) old
  message_votes from to scn kinds.Ack s may old = other_votes (Send_ack from to) s (λ b j is. absurd cc) old
  message_votes from to scn kinds.Forgotten s may old = other_votes (Send_forgotten from to) s (λ b j is. absurd cc) old
  message_votes from to scn _ s may old = old

  messages_votes : (ms : List Msg) (s : List Event) → AllByRecursion (λ m. VoteMay m.from m.to m.scn m.kind) ms → Votes s r → Votes (with_messages ms s) r
  messages_votes [] s may old = old
  messages_votes (m ∷ ms) s may old = messages_votes ms (with_event (message_event m.from m.to m.scn m.kind) s) may.1 (message_votes m.from m.to m.scn m.kind s may.0 old)

-- votes of before, by more events
votes_later : {Q : Event → Type 0} {t r : List Event} → Added Q t r → Votes t t → Votes t r
votes_later more old b j has = let so = old b j has in (so.0, exit_later b (Sealed so.0) more so.1, so.2)

module _ (places : List Place) (asked : List Command) (each : (n : ℕ) (p : Place) → numbered places n ≡ Some p → IsPlace places n p) where
  votes_on : (f : Facts) (t : List Event) (h : Happening) → BranchStatus places asked each f t → Votes t t → MayHappen places asked f h → Votes (events_after places asked f h t) (events_after places asked f h t)
  votes_on f t (happenings.Turn u) now old may =
      let g : Facts = facts_after places asked f (happenings.Turn u) in
      let r : List Event = with_happening f g (happenings.Turn u) t in
      let later : Added _ (with_record u t) r = turn_added f g u t in
      let says : MaySayAll (with_record u t) u.sent = (tells_so places asked each f t (happenings.Turn u) now may).1 in
      messages_votes r u.sent _ (all_weaker _ _ (λ m may_say. may_later r later m.from m.to m.scn m.kind may_say) u.sent says)
      (leavers_votes r (lives_at (node_at g u.node)) u.sent (lives_at (node_at f u.node)) (with_record u t)
      (wrote_votes r u.node u.wrote t (votes_later (added_on (wrote_added u t) (added_wider {R = Any} (λ e is. tt) later)) old)))
  votes_on f t (happenings.Stopped n) now old may =
      let g : Facts = facts_after places asked f (happenings.Stopped n) in
      leavers_votes (with_happening f g (happenings.Stopped n) t) [] [] (lives_at (node_at f n)) t (votes_later (stop_added f g n t) old)
  votes_on f t _ now old may = old

pub votes_are_of_sealed : VotesAreOfSealed
votes_are_of_sealed t lawful =
    (events_keep t.places t.commands (λ f s. BranchStatus t.places t.commands t.of_a_script.each f s × Votes s s)
    (λ f s h now may. (stand_on t.places t.commands t.of_a_script.each f s h now.0 may, votes_on t.places t.commands t.of_a_script.each f s h now.0 now.1 may))
    (first_facts t.places) t.trace [] (stand_first t.places t.commands t.of_a_script.each, (λ b j has. absurd has)) lawful).1

pub live_have_not_voted : LiveHaveNotVoted
live_have_not_voted t lawful n k up =
    all_weaker (λ l. exit (events_of t) l.me ≡ None) _ (λ l none j has. (let so = votes_are_of_sealed t lawful l.me j has in absurd (cc (none, so.1)))) k.lives (nodes_are_as_events t lawful n k up).0
