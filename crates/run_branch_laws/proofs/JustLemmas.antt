-- Messages are justified one by one, by what stands after a turn's record; stops need nothing.
use Rattle.std.proofs.Common.{◌≡◌, ℕ, not, Bool, true, false, List, [], ◌∷◌, is_none, Option, Some, None, if◌then◌else◌, refl, subst, inl, inr}
use Rattle.std.specs.List.{list_any}
use Rattle.std.proofs.lemmas.Bool.{and_parts}
use Rattle.node_rules.specs.Data.{BranchId, Kind, Msg, Place}
use Rattle.node_rules.specs.Data.decisions
use Rattle.node_rules.specs.Data.kinds
use Rattle.run_rules.specs.Data.{Turn, Happening, Command}
use Rattle.run_rules.specs.Entries.{book_of as trace_book}
use Rattle.run_rules.specs.Book.{Agreement, MixedIsMarked, AboveSeals}
use Rattle.agreement.specs.BookOf.{book_of}
use Rattle.agreement.proofs.BookLaws.{books_agree, books_are_marked, decisions_exceed_seals}
use Rattle.run_branch_laws.proofs.EventBookLemmas.{book_of_events}
use Rattle.run_rules.specs.Data.happenings
use Rattle.run_rules.specs.Branches.{is_among}
use Rattle.run_rules.specs.Trail.{is_quiet}
use Rattle.run_rules.specs.Facts.{Facts, first_facts, node_at, facts_after}
use Rattle.agreement.specs.Events.{Forest, Exit, Sealed, Quiet, Dropped, Event, Answer_read_only, Drop, Send_vote, Send_rollback, Send_ack, Send_forgotten, exit, Gone, Allowed, Lawful}
use Rattle.run_base_laws.specs.RunEvents.{with_event, wrote_event, message_event, with_messages, lives_at, leave_event, has_left, with_leavers, with_happening, with_record, with_exits, events_after, events_from, events_of, IsAllowed, MaySend, MayLeave, IsJust, HappensJustly, AreJust}
use Rattle.run_base_laws.specs.EventLaws.{JustRunsAreLawful, JustRunsAgree}
use Rattle.agreement.proofs.EventLemmas.{exit_stays, learned_stays}
use Rattle.agreement.proofs.Invariant.{cleared_stays, knows_stays}

gone_stays : (s : Event) (t : List Event) (b : BranchId) → Gone t b → Gone (s ∷ t) b
gone_stays s t b (inl x) = inl (exit_stays s t b Dropped x)
gone_stays s t b (inr (inl q)) = inr (inl (exit_stays s t b Quiet q))
gone_stays s t b (inr (inr (inl r))) = inr (inr (inl (learned_stays s t b decisions.Rollback r)))
gone_stays s t b (inr (inr (inr f))) = inr (inr (inr (inr f)))

module _ (p : Forest) (s : Event) (t : List Event) where
  vote : (b : BranchId) (k : ℕ) → Allowed p t (Send_vote b k) → Allowed p (s ∷ t) (Send_vote b k)
  vote b k a = (a.0, exit_stays s t b (Sealed a.0) a.1, a.2)

  rollback : (e d : BranchId) → Allowed p t (Send_rollback e d) → Allowed p (s ∷ t) (Send_rollback e d)
  rollback e d a edge = elim (a edge) [ inl g ↦ inl (gone_stays s t e g) | inr q ↦ inr (exit_stays s t d Quiet q) ]

  ack : (b f : BranchId) → Allowed p t (Send_ack b f) → Allowed p (s ∷ t) (Send_ack b f)
  ack b f a edge = elim (a edge) [
    | inl c ↦ inl (c.0, learned_stays s t b (decisions.Commit c.0) c.1, cleared_stays p s t b c.2)
    | inr c ↦ inr (gone_stays s t b c.0, (c.1.0, inr c.1.1))
  ]

  forgotten : (f e : BranchId) → Allowed p t (Send_forgotten f e) → Allowed p (s ∷ t) (Send_forgotten f e)
  forgotten f e a edge = elim (a edge) [ inl x ↦ inl (inr x) | inr y ↦ inr (inr y) ]

  -- what may be said goes on to be allowed
  pub said_stays : (from to : BranchId) (scn : ℕ) (k : Kind) → IsAllowed p t (message_event from to scn k) → IsAllowed p (s ∷ t) (message_event from to scn k)
  said_stays from to scn kinds.Prepared a = vote from scn a
  said_stays from to scn kinds.CommitPoint a = vote from scn a
  said_stays from to scn (kinds.Committed n) a = knows_stays s t from n a
  said_stays from to scn kinds.Rollback a = rollback from to a
  said_stays from to scn kinds.RolledBack a = rollback from to a
  said_stays from to scn kinds.Ack a = ack from to a
  said_stays from to scn kinds.Forgotten a = forgotten from to a
  said_stays from to scn _ a = tt

  pub all_stay : (ms : List Msg) → MaySend p t ms → MaySend p (s ∷ t) ms
  all_stay [] a = tt
  all_stay (m ∷ ms) a = (said_stays m.from m.to m.scn m.kind a.0, all_stay ms a.1)

stay_with : (p : Forest) (o : Option Event) (t : List Event) (ms : List Msg) → MaySend p t ms → MaySend p (with_event o t) ms
stay_with p None t ms a = a
stay_with p (Some s) t ms a = all_stay p s t ms a

event_lawful : (p : Forest) (o : Option Event) (t : List Event) → Lawful p t → IsAllowed p t o → Lawful p (with_event o t)
event_lawful p None t l a = l
event_lawful p (Some s) t l a = (a, l)

messages_lawful : (p : Forest) (ms : List Msg) (t : List Event) → Lawful p t → MaySend p t ms → Lawful p (with_messages ms t)
messages_lawful p [] t l a = l
messages_lawful p (m ∷ ms) t l a =
    messages_lawful p ms (with_event (message_event m.from m.to m.scn m.kind) t) (event_lawful p (message_event m.from m.to m.scn m.kind) t l a.0)
    (stay_with p (message_event m.from m.to m.scn m.kind) t ms a.1)

pub none_is : (o : Option Exit) → is_none o ≡ true → o ≡ None
none_is None h = refl
none_is (Some x) h = absurd cc

-- a live branch may always be dropped; one that answers without changes has to be allowed to
leave_by : (p : Forest) (b : BranchId) (t : List Event) (quiet : Bool) → Lawful p t → exit t b ≡ None → (quiet ≡ true → Allowed p t (Answer_read_only b))
    → Lawful p ((if quiet then Answer_read_only b else Drop b) ∷ t)
leave_by p b t true l live may = (may refl, l)
leave_by p b t false l live may = (live, l)

leave_lawful : (p : Forest) (after : List BranchId) (sent : List Msg) (b : BranchId) (t : List Event) (left : Bool) → has_left after t b ≡ left → Lawful p t
    → (left ≡ true → list_any (is_quiet b) sent ≡ true → Allowed p t (Answer_read_only b)) → Lawful p (if left then leave_event sent b ∷ t else t)
leave_lawful p after sent b t true is l may = leave_by p b t (list_any (is_quiet b) sent) l (none_is (exit t b) (and_parts (not (is_among b after)) (is_none (exit t b)) is).1) (may refl)
leave_lawful p after sent b t false is l may = l

leavers_lawful : (p : Forest) (after : List BranchId) (sent : List Msg) (bs : List BranchId) (t : List Event) → Lawful p t → MayLeave p after sent bs t → Lawful p (with_leavers after sent bs t)
leavers_lawful p after sent [] t l may = l
leavers_lawful p after sent (b ∷ bs) t l may = leavers_lawful p after sent bs _ (leave_lawful p after sent b t (has_left after t b) refl l may.0) may.1

-- of no messages, none is such an answer
stop_may : (p : Forest) (bs : List BranchId) (t : List Event) → MayLeave p [] [] bs t
stop_may p [] t = tt
stop_may p (b ∷ bs) t = ((λ left quiet. absurd cc), stop_may p bs _)

turn_lawful : (p : Forest) (before after : Facts) (u : Turn) (t : List Event) → Lawful p t → IsJust p before after u t → Lawful p (with_happening before after (happenings.Turn u) t)
turn_lawful p before after u t l j = messages_lawful p u.sent (with_exits before after u t)
    (leavers_lawful p (lives_at (node_at after u.node)) u.sent (lives_at (node_at before u.node)) (with_record u t) (event_lawful p (wrote_event u.node u.wrote) t l j.wrote) j.left) j.sent

-- whatever happens, where its turn is just
pub happening_lawful : (p : Forest) (before after : Facts) (h : Happening) (t : List Event) → Lawful p t → HappensJustly p before after h t → Lawful p (with_happening before after h t)
happening_lawful p before after (happenings.Turn u) t l j = turn_lawful p before after u t l j
happening_lawful p before after (happenings.Stopped n) t l j = leavers_lawful p [] [] (lives_at (node_at before n)) t l (stop_may p (lives_at (node_at before n)) t)
happening_lawful p before after _ t l j = l

from_lawful : (p : Forest) (places : List Place) (asked : List Command) (f : Facts) (hs : List Happening) (t : List Event) → Lawful p t → AreJust p places asked f hs t
    → Lawful p (events_from places asked f hs t)
unfolding events_from AreJust
from_lawful p places asked f [] t l j = l
from_lawful p places asked f (h ∷ hs) t l j =
    from_lawful p places asked (facts_after places asked f h) hs (events_after places asked f h t) (happening_lawful p f (facts_after places asked f h) h t l j.0) j.1

pub just_runs_are_lawful : JustRunsAreLawful
just_runs_are_lawful r p j = from_lawful p r.places r.commands (first_facts r.places) r.trace [] tt j

pub just_runs_agree : JustRunsAgree
just_runs_agree r just =
    let lawful : Lawful just.0 (events_of r) = just_runs_are_lawful r just.0 just.2 in
    let same_book : book_of (events_of r) ≡ trace_book r.trace = book_of_events r in (
      subst Agreement same_book (books_agree just.0 just.1 (events_of r) lawful),
      subst MixedIsMarked same_book (books_are_marked just.0 just.1 (events_of r) lawful),
      subst AboveSeals same_book (decisions_exceed_seals just.0 just.1 (events_of r) lawful),
    )
