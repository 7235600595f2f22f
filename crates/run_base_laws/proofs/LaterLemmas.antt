-- What a happening adds to the events of a run: the event of its record, and then events that teach nothing: messages, and
-- the exits of branches that are live no more. Laws of events by induction over the happenings.
use Rattle.std.proofs.Common.{◌≡◌, ℕ, Bool, true, false, List, [], ◌∷◌, is_none, Option, Some, None, if◌then◌else◌, refl, sym, ap, subst, ◌∙◌, ◌⊎◌, inl, inr}
use Rattle.std.specs.List.{list_any}
use Rattle.std.proofs.lemmas.Bool.{and_parts, or_left, or_right, not-true}
use Rattle.tran_ids.proofs.BranchLemmas.{same_from_equal}
use Rattle.agreement.specs.Events.{Exit, Quiet, Dropped, Event, Answer_read_only, Drop, first, exit_by, exit, learned_by, learned, forced_by, forced, Has}
use Rattle.agreement.proofs.EventLemmas.{first_is, only_at_is}
use Rattle.node_rules.specs.Data.{BranchId, Decision, Kind, Msg, Place}
use Rattle.node_rules.specs.Data.kinds
use Rattle.node_rules.specs.Words.{same}
use Rattle.run_rules.specs.Data.{Turn, Happening, Command}
use Rattle.run_rules.specs.Data.happenings
use Rattle.run_rules.specs.Facts.{Facts, node_at, facts_after, facts_of}
use Rattle.run_rules.specs.Lawful.{MayHappen, IsLawful}
use Rattle.run_rules.specs.Branches.{is_among}
use Rattle.run_rules.specs.Trail.{is_quiet}
use Rattle.run_base_laws.specs.EventLaws.{EachEventFrom}
use Rattle.run_base_laws.specs.RunEvents.{with_event, wrote_event, message_event, with_messages, lives_at, leave_event, has_left, with_leavers, with_record, with_happening, events_after, events_from}

-- ---- events that are added

-- Events that are all so were added.
pub data Added (Q : Event → Type 0) (t : List Event) : List Event → Type 0 where
  Nothing_more : Added Q t t
  One_more : {s : List Event} (e : Event) → Q e → Added Q t s → Added Q t (e ∷ s)

-- one list after another
pub added_on : {Q : Event → Type 0} {t s r : List Event} → Added Q t s → Added Q s r → Added Q t r
added_on more Nothing_more = more
added_on more (One_more e is later) = One_more e is (added_on more later)

pub added_wider : {Q R : Event → Type 0} {t s : List Event} → ((e : Event) → Q e → R e) → Added Q t s → Added R t s
added_wider f Nothing_more = Nothing_more
added_wider f (One_more e is more) = One_more e (f e is) (added_wider f more)

first_none_right : {A : Type 0} (o p : Option A) → p ≡ None → first o p ≡ o
first_none_right None p is = is
first_none_right (Some a) p is = refl

module _ {Q : Event → Type 0} {t : List Event} where
  -- what stands stays
  pub exit_later : {s : List Event} (b : BranchId) (e : Exit) → Added Q t s → exit t b ≡ Some e → exit s b ≡ Some e
  exit_later b e Nothing_more is = is
  exit_later b e (One_more x so more) is = ap (λ o. first o (exit_by x b)) (exit_later b e more is)

  pub learned_later : {s : List Event} (b : BranchId) (d : Decision) → Added Q t s → learned t b ≡ Some d → learned s b ≡ Some d
  learned_later b d Nothing_more is = is
  learned_later b d (One_more x so more) is = ap (λ o. first o (learned_by x b)) (learned_later b d more is)

  pub has_later : {s : List Event} (x : Event) → Added Q t s → Has x t → Has x s
  has_later x Nothing_more has = has
  has_later x (One_more e so more) has = inr (has_later x more has)

  -- and what no event concerns stays as it was
  pub learned_same : {s : List Event} (b : BranchId) → ((e : Event) → Q e → learned_by e b ≡ None) → Added Q t s → learned s b ≡ learned t b
  learned_same b none Nothing_more = refl
  learned_same b none (One_more e so more) = first_none_right _ _ (none e so) ∙ learned_same b none more

  pub forced_same : {s : List Event} (b : BranchId) → ((e : Event) → Q e → forced_by e b ≡ None) → Added Q t s → forced s b ≡ forced t b
  forced_same b none Nothing_more = refl
  forced_same b none (One_more e so more) = first_none_right _ _ (none e so) ∙ forced_same b none more

  pub exit_same : {s : List Event} (b : BranchId) → ((e : Event) → Q e → exit_by e b ≡ None) → Added Q t s → exit s b ≡ exit t b
  exit_same b none Nothing_more = refl
  exit_same b none (One_more e so more) = first_none_right _ _ (none e so) ∙ exit_same b none more

  -- an exit is old, or one of the events made it
  pub exit_made : {s : List Event} (b : BranchId) (e : Exit) → Added Q t s → exit s b ≡ Some e → (exit t b ≡ Some e) ⊎ ((x : Event) × Q x × (exit_by x b ≡ Some e))
  exit_made b e Nothing_more is = inl is
  exit_made b e (One_more x so more) is = elim (first_is _ (exit_by x b) e is) [ inl old ↦ exit_made b e more old | inr new ↦ inr (x, so, new.1) ]

-- ---- a happening

-- An event that teaches nothing: a message, or the exit of a branch that was live and is no more.
pub data Later (before after : List BranchId) : Event → Type 0 where
  Was_said : (e : Event) → ((b : BranchId) → (exit_by e b ≡ None) × (learned_by e b ≡ None) × (forced_by e b ≡ None)) → Later before after e
  Was_quiet : (b : BranchId) → is_among b before ≡ true → is_among b after ≡ false → Later before after (Answer_read_only b)
  Was_dropped : (b : BranchId) → is_among b before ≡ true → is_among b after ≡ false → Later before after (Drop b)

module _ (before after : List BranchId) where
  abbrev AddsTo : List Event → List Event → Type 0
  AddsTo t s = Added (Later before after) t s

  said_added : (from to : BranchId) (scn : ℕ) (kind : Kind) (t : List Event) → AddsTo t (with_event (message_event from to scn kind) t)
  said_added from to scn kinds.Prepared t = One_more _ (Was_said _ (λ b. (refl, refl, refl))) Nothing_more
  said_added from to scn kinds.CommitPoint t = One_more _ (Was_said _ (λ b. (refl, refl, refl))) Nothing_more
  said_added from to scn (kinds.Committed n) t = One_more _ (Was_said _ (λ b. (refl, refl, refl))) Nothing_more
  said_added from to scn kinds.Rollback t = One_more _ (Was_said _ (λ b. (refl, refl, refl))) Nothing_more
  said_added from to scn kinds.RolledBack t = One_more _ (Was_said _ (λ b. (refl, refl, refl))) Nothing_more
  said_added from to scn kinds.Ack t = One_more _ (Was_said _ (λ b. (refl, refl, refl))) Nothing_more
  said_added from to scn kinds.Forgotten t = One_more _ (Was_said _ (λ b. (refl, refl, refl))) Nothing_more
  said_added from to scn _ t = Nothing_more

  pub messages_added : (ms : List Msg) (t : List Event) → AddsTo t (with_messages ms t)
  messages_added [] t = Nothing_more
  messages_added (m ∷ ms) t = added_on (said_added m.from m.to m.scn m.kind t) (messages_added ms _)

  left_by : (b : BranchId) (t : List Event) (quiet : Bool) → is_among b before ≡ true → is_among b after ≡ false → AddsTo t ((if quiet then Answer_read_only b else Drop b) ∷ t)
  left_by b t true was gone = One_more _ (Was_quiet b was gone) Nothing_more
  left_by b t false was gone = One_more _ (Was_dropped b was gone) Nothing_more

  left_added : (sent : List Msg) (b : BranchId) (t : List Event) → is_among b before ≡ true → (left : Bool) → has_left after t b ≡ left → AddsTo t (if left then leave_event sent b ∷ t else t)
  left_added sent b t was true is = left_by b t (list_any (is_quiet b) sent) was (not-true (is_among b after) (and_parts _ (is_none (exit t b)) is).0)
  left_added sent b t was false is = Nothing_more

  pub leavers_added : (sent : List Msg) (bs : List BranchId) (t : List Event) → ((b : BranchId) → is_among b bs ≡ true → is_among b before ≡ true) → AddsTo t (with_leavers after sent bs t)
  leavers_added sent [] t all = Nothing_more
  leavers_added sent (b ∷ bs) t all =
      added_on (left_added sent b t (all b (or_left (same b b) (is_among b bs) (same_from_equal b b refl))) (has_left after t b) refl)
      (leavers_added sent bs _ (λ c is. all c (or_right (same b c) (is_among c bs) is)))

-- any event
abbrev pub Any : Event → Type 0
Any e = Unit {0}

-- the event of what was written, where there is one
pub wrote_added : (u : Turn) (t : List Event) → Added Any t (with_record u t)
wrote_added u t = by (wrote_event u.node u.wrote)
  where
    by : (o : Option Event) → Added Any t (with_event o t)
    by None = Nothing_more
    by (Some e) = One_more e tt Nothing_more

-- a turn adds these to its record
pub turn_added : (f g : Facts) (u : Turn) (t : List Event) → Added (Later (lives_at (node_at f u.node)) (lives_at (node_at g u.node))) (with_record u t) (with_happening f g (happenings.Turn u) t)
turn_added f g u t =
    let before : List BranchId = lives_at (node_at f u.node) in
    let after : List BranchId = lives_at (node_at g u.node) in
    added_on (leavers_added before after u.sent before (with_record u t) (λ b is. is)) (messages_added before after u.sent _)

-- and a stop
pub stop_added : (f g : Facts) (n : ℕ) (t : List Event) → Added (Later (lives_at (node_at f n)) []) t (with_happening f g (happenings.Stopped n) t)
stop_added f g n t = leavers_added (lives_at (node_at f n)) [] [] (lives_at (node_at f n)) t (λ b is. is)

module _ {before after : List BranchId} where
  -- such an event teaches nothing
  pub later_learned : (b : BranchId) (e : Event) → Later before after e → learned_by e b ≡ None
  later_learned b e (Was_said x none) = (none b).1
  later_learned b e (Was_quiet c was gone) = refl
  later_learned b e (Was_dropped c was gone) = refl

  pub later_forced : (b : BranchId) (e : Event) → Later before after e → forced_by e b ≡ None
  later_forced b e (Was_said x none) = (none b).2
  later_forced b e (Was_quiet c was gone) = refl
  later_forced b e (Was_dropped c was gone) = refl

  -- an exit that it makes is of a branch that was live and is no more
  pub later_exit : (b : BranchId) (e : Event) (x : Exit) → Later before after e → exit_by e b ≡ Some x → (is_among b before ≡ true) × (is_among b after ≡ false)
  later_exit b e x (Was_said y none) is = let no : None ≡ Some x = sym (none b).0 ∙ is in absurd cc
  later_exit b e x (Was_quiet c was gone) is = let at = only_at_is c b Quiet x is in subst (λ d. (is_among d before ≡ true) × (is_among d after ≡ false)) at.0 (was, gone)
  later_exit b e x (Was_dropped c was gone) is = let at = only_at_is c b Dropped x is in subst (λ d. (is_among d before ≡ true) × (is_among d after ≡ false)) at.0 (was, gone)

-- ---- induction

module _ (places : List Place) (asked : List Command) (K : Facts → List Event → Type 0)
    (goes_on : (f : Facts) (t : List Event) (h : Happening) → K f t → MayHappen places asked f h → K (facts_after places asked f h) (events_after places asked f h t)) where
  -- what each happening that may come keeps of the events, a lawful trace keeps
  pub events_keep : (f : Facts) (hs : List Happening) (t : List Event) → K f t → IsLawful places asked f hs → K (facts_of places asked f hs) (events_from places asked f hs t)
  unfolding facts_of events_from IsLawful
  events_keep f [] t now lawful = now
  events_keep f (h ∷ hs) t now lawful = events_keep (facts_after places asked f h) hs (events_after places asked f h t) (goes_on f t h now lawful.0) lawful.1

  -- and each happening is so that is so wherever that holds before it
  pub events_each : (So : Facts → List Event → Happening → Type 0) → ((f : Facts) (t : List Event) (h : Happening) → K f t → MayHappen places asked f h → So f t h)
      → (f : Facts) (hs : List Happening) (t : List Event) → K f t → IsLawful places asked f hs → EachEventFrom So places asked f t hs
  unfolding IsLawful
  events_each So so f [] t now lawful = tt
  events_each So so f (h ∷ hs) t now lawful = (so f t h now lawful.0, events_each So so (facts_after places asked f h) hs (events_after places asked f h t) (goes_on f t h now lawful.0) lawful.1)
