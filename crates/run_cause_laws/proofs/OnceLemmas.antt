-- On each disk of a lawful run a branch has one decision, and none where it has a seal.
use Rattle.std.proofs.Common.{◌≡◌, ℕ, Bool, true, false, if◌then◌else◌, unwrap_or, List, [], ◌∷◌, ◌++◌, Option, Some, None, inl, inr, refl, sym, ap, subst, ◌∙◌, append-nil}
use Rattle.std.specs.Prelude.{IfSome}
use Rattle.std.specs.Option.{option_to_list}
use Rattle.std.specs.List.{AllByRecursion}
use Rattle.tran_ids.proofs.BranchLemmas.{equal_from_same, same_from_equal}
use Rattle.tran_ids.proofs.NumberedLemmas.{set_or_before}
use Rattle.agreement.specs.Events.{Event, Exit, Sealed, Decided, exit}
use Rattle.node_rules.specs.Data.{BranchId, RedoRecord, Decided as DecidedRecord}
use Rattle.node_rules.specs.Data.records
use Rattle.node_rules.specs.Words.{same, numbered, set_numbered}
use Rattle.run_rules.specs.Data.{Turn, Happening}
use Rattle.run_rules.specs.Data.happenings
use Rattle.run_base_laws.specs.EventLaws.{TellsAsEvents, EachEventFrom}
use Rattle.run_base_laws.specs.EventRows.{MayStand}
use Rattle.run_rules.specs.Facts.{first_facts, records_at, with_boot, facts_after, facts_of}
use Rattle.run_rules.specs.BranchRecords.{decided_in}
use Rattle.run_rules.specs.Lawful.{History, IsLawfulRun}
use Rattle.run_base_laws.specs.RunEvents.{with_event, wrote_event, with_record, events_after, events_from}
use Rattle.run_base_laws.proofs.EventsStandLemmas.{first_disk, turns_tell_as_events}
use Rattle.run_base_laws.proofs.LaterLemmas.{exit_later, turn_added}
use Rattle.run_rules.proofs.ListLemmas.{all_weaker, all_append}
use Rattle.run_base_laws.proofs.TurnEventLemmas.{all_both}
use Rattle.tree_laws.proofs.PrefixLemmas.{f_at, e_at, one_on, more_on}
use Rattle.tree_laws.proofs.TimeLemmas.{Part, each_at, exit_on, keep_on}
use Rattle.tree_trail_laws.proofs.LeftRecordLemmas.{first_by}

-- the branch of a seal and of a decision has left
abbrev pub HasLeft : List Event → RedoRecord → Type 0
HasLeft e (records.Sealed r) = (x : Exit) × (exit e r.me ≡ Some x)
HasLeft e (records.Decided r) = (x : Exit) × (exit e r.me ≡ Some x)
HasLeft e _ = Unit {0}

-- a decision is the one that these records have of its branch, and they have none of a branch that is sealed
abbrev pub IsOnly : List RedoRecord → RedoRecord → Type 0
IsOnly rs (records.Sealed r) = decided_in rs r.me ≡ None
IsOnly rs (records.Decided r) = decided_in rs r.me ≡ Some r
IsOnly rs _ = Unit {0}

abbrev pub DiskOnly : List Event → List RedoRecord → Type 0
DiskOnly e rs = AllByRecursion (HasLeft e) rs × AllByRecursion (IsOnly rs) rs

-- ---- records

none_decided : (e : List Event) (rs : List RedoRecord) (b : BranchId) → exit e b ≡ None → AllByRecursion (HasLeft e) rs → decided_in rs b ≡ None
none_decided e [] b none all = refl
none_decided e (records.Decided r ∷ rs) b none all = by (same r.me b) refl (none_decided e rs b none all.1)
  where
    by : (q : Bool) → same r.me b ≡ q → decided_in rs b ≡ None → (if q then Some r else decided_in rs b) ≡ None
    by true here rest = (let some : exit e b ≡ Some all.0.0 = subst (λ c. exit e c ≡ Some all.0.0) (equal_from_same r.me b here) all.0.1 in absurd (cc (some, none)))
    by false other rest = rest
none_decided e (_ ∷ rs) b none all = none_decided e rs b none all.1

decided_before : (rs more : List RedoRecord) (b : BranchId) (r : DecidedRecord) → decided_in rs b ≡ Some r → decided_in (rs ++ more) b ≡ Some r
decided_before [] more b r is = absurd cc
decided_before (records.Decided x ∷ rs) more b r is = by (same x.me b) is (decided_before rs more b r)
  where
    by : (q : Bool) → (if q then Some x else decided_in rs b) ≡ Some r → (decided_in rs b ≡ Some r → decided_in (rs ++ more) b ≡ Some r) → (if q then Some x else decided_in (rs ++ more) b) ≡ Some r
    by true is rest = is
    by false is rest = rest is
decided_before (_ ∷ rs) more b r is = decided_before rs more b r is

decided_on : (rs more : List RedoRecord) (b : BranchId) → decided_in rs b ≡ None → decided_in (rs ++ more) b ≡ decided_in more b
decided_on [] more b none = refl
decided_on (records.Decided x ∷ rs) more b none = by (same x.me b) none (decided_on rs more b)
  where
    by : (q : Bool) → (if q then Some x else decided_in rs b) ≡ None → (decided_in rs b ≡ None → decided_in (rs ++ more) b ≡ decided_in more b) → (if q then Some x else decided_in (rs ++ more) b) ≡ decided_in more b
    by true none rest = absurd cc
    by false none rest = rest none
decided_on (_ ∷ rs) more b none = decided_on rs more b none

-- a new record is of a branch that has not left, so of no branch that has one
module _ (e : List Event) (rs : List RedoRecord) where
  other_record : (r : RedoRecord) → MayStand e r → (b : BranchId) (x : Exit) → exit e b ≡ Some x → decided_in (r ∷ []) b ≡ None
  other_record (records.Decided r) may b x left = by (same r.me b) refl
    where
      by : (q : Bool) → same r.me b ≡ q → (if q then Some r else None) ≡ None
      by true here = (let none : exit e b ≡ None = subst (λ c. exit e c ≡ None) (equal_from_same r.me b here) may in absurd (cc (none, left)))
      by false other = refl
  other_record _ may b x left = refl

  still_only : (r : RedoRecord) → MayStand e r → (y : RedoRecord) → IsOnly rs y → HasLeft e y → IsOnly (rs ++ r ∷ []) y
  still_only r may (records.Sealed y) only left = decided_on rs (r ∷ []) y.me only ∙ other_record r may y.me left.0 left.1
  still_only r may (records.Decided y) only left = decided_before rs (r ∷ []) y.me y only
  still_only r may _ only left = tt

  new_only : (r : RedoRecord) → MayStand e r → AllByRecursion (HasLeft e) rs → IsOnly (rs ++ r ∷ []) r
  new_only (records.Sealed r) may all = decided_on rs (records.Sealed r ∷ []) r.me (none_decided e rs r.me may.0 all)
  new_only (records.Decided r) may all = decided_on rs (records.Decided r ∷ []) r.me (none_decided e rs r.me may all) ∙ ap (λ q. if q then Some r else None) (same_from_equal r.me r.me refl)
  new_only _ may all = tt

module _ (e g : List Event) (grows : (b : BranchId) (x : Exit) → exit e b ≡ Some x → exit g b ≡ Some x) where
  left_on : (r : RedoRecord) → HasLeft e r → HasLeft g r
  left_on (records.Sealed r) left = (left.0, grows r.me left.0 left.1)
  left_on (records.Decided r) left = (left.0, grows r.me left.0 left.1)
  left_on _ left = tt

  same_disk : (rs : List RedoRecord) → DiskOnly e rs → DiskOnly g rs
  same_disk rs now = (all_weaker (HasLeft e) (HasLeft g) left_on rs now.0, now.1)

  disk_on : (rs : List RedoRecord) (w : Option RedoRecord) → IfSome w (HasLeft g) → IfSome w (MayStand e) → DiskOnly e rs → DiskOnly g (rs ++ option_to_list w)
  disk_on rs None left may now = subst (DiskOnly g) (sym (append-nil rs)) (same_disk rs now)
  disk_on rs (Some r) left may now = (
    all_append (HasLeft g) rs (r ∷ []) (all_weaker (HasLeft e) (HasLeft g) left_on rs now.0) (left, tt),
    all_append (IsOnly (rs ++ r ∷ [])) rs (r ∷ [])
        (all_weaker (λ y. IsOnly rs y × HasLeft e y) (IsOnly (rs ++ r ∷ [])) (λ y both. still_only e rs r may y both.0 both.1) rs (all_both (IsOnly rs) (HasLeft e) rs now.1 now.0)) (new_only e rs r may now.0, tt),
  )

-- ---- every run

wrote_left : (n : ℕ) (e : List Event) (r : RedoRecord) → MayStand e r → HasLeft (with_event (wrote_event n (Some r)) e) r
wrote_left n e (records.Sealed r) may = (Sealed r.scn, first_by (exit e r.me) (if same r.me r.me then Some (Sealed r.scn) else None) may.0 ∙ ap (λ q. if q then Some (Sealed r.scn) else None) (same_from_equal r.me r.me refl))
wrote_left n e (records.Decided r) may = (Decided r.scn, first_by (exit e r.me) (if same r.me r.me then Some (Decided r.scn) else None) may ∙ ap (λ q. if q then Some (Decided r.scn) else None) (same_from_equal r.me r.me refl))
wrote_left n e _ may = tt

module _ (t : History) (whole : IsLawfulRun t) where
  abbrev pub DisksOnly : List Happening → Type 0
  DisksOnly hs = (n : ℕ) → DiskOnly (e_at t hs) (records_at (f_at t hs) n)

  module _ (hs : List Happening) (h : Happening) where
    abbrev g : List Event
    g = events_after t.places t.commands (f_at t hs) h (e_at t hs)

    grows : (b : BranchId) (x : Exit) → exit (e_at t hs) b ≡ Some x → exit g b ≡ Some x
    grows b x is = exit_on t.places t.commands (f_at t hs) h (e_at t hs) b x is

    set_disk : DisksOnly hs → (m i : ℕ) (rs : List RedoRecord) → DiskOnly g rs → DiskOnly g (unwrap_or (numbered (set_numbered (f_at t hs).records m rs) i) [])
    set_disk now m i rs new = elim (set_or_before (f_at t hs).records m i rs) [
      | inl still ↦ subst (λ (o : Option (List RedoRecord)). DiskOnly g (unwrap_or o [])) (sym still) (same_disk (e_at t hs) g grows (records_at (f_at t hs) i) (now i))
      | inr set ↦ subst (λ (o : Option (List RedoRecord)). DiskOnly g (unwrap_or o [])) (sym set.1) new
    ]

  wrote_may : (hs : List Happening) (u : Turn) (rest : List Happening) → hs ++ happenings.Turn u ∷ rest ≡ t.trace → IfSome u.wrote (MayStand (e_at t hs))
  wrote_may hs u rest is = (each_at t.places t.commands TellsAsEvents (first_facts t.places) hs (happenings.Turn u) rest [] (subst (EachEventFrom TellsAsEvents t.places t.commands (first_facts t.places) []) (sym is) (turns_tell_as_events t whole))).0

  wrote_out : (hs : List Happening) (u : Turn) (w : Option RedoRecord) → u.wrote ≡ w → IfSome w (MayStand (e_at t hs)) → IfSome w (HasLeft (g hs (happenings.Turn u)))
  wrote_out hs u None wrote may = tt
  wrote_out hs u (Some r) wrote may =
      left_on (with_record u (e_at t hs)) (g hs (happenings.Turn u)) (λ b x is. exit_later b x (turn_added (f_at t hs) (facts_after t.places t.commands (f_at t hs) (happenings.Turn u)) u (e_at t hs)) is) r
      (subst (λ w. HasLeft (with_event (wrote_event u.node w) (e_at t hs)) r) (sym wrote) (wrote_left u.node (e_at t hs) r may))

  only_after : (hs : List Happening) (h : Happening) (rest : List Happening) → hs ++ h ∷ rest ≡ t.trace → DisksOnly hs → (n : ℕ) → DiskOnly (g hs h) (records_at (facts_after t.places t.commands (f_at t hs) h) n)
  unfolding facts_after
  only_after hs (happenings.Turn u) rest is now n =
      set_disk hs (happenings.Turn u) now u.node n (records_at (f_at t hs) u.node ++ option_to_list u.wrote)
      (disk_on (e_at t hs) (g hs (happenings.Turn u)) (grows hs (happenings.Turn u)) (records_at (f_at t hs) u.node) u.wrote (wrote_out hs u u.wrote refl (wrote_may hs u rest is)) (wrote_may hs u rest is) (now u.node))
  only_after hs (happenings.Started m boot) rest is now n =
      set_disk hs (happenings.Started m boot) now m n (with_boot (f_at t hs) m boot)
      (disk_on (e_at t hs) (g hs (happenings.Started m boot)) (grows hs (happenings.Started m boot)) (records_at (f_at t hs) m) (Some (records.Boot boot)) tt tt (now m))
  only_after hs (happenings.Stopped m) rest is now n = same_disk (e_at t hs) (g hs (happenings.Stopped m)) (grows hs (happenings.Stopped m)) (records_at (f_at t hs) n) (now n)
  only_after hs (happenings.Begun c) rest is now n = now n
  only_after hs (happenings.Cut a b) rest is now n = now n
  only_after hs (happenings.Join a b) rest is now n = now n
  only_after hs (happenings.Lost k) rest is now n = now n

  only_on : (hs : List Happening) (h : Happening) (rest : List Happening) → hs ++ h ∷ rest ≡ t.trace → DisksOnly hs → DisksOnly (hs ++ h ∷ [])
  only_on hs h rest is now n =
      subst (λ e. DiskOnly e (records_at (f_at t (hs ++ h ∷ [])) n)) (sym (more_on t hs h)) (subst (λ f. DiskOnly (g hs h) (records_at f n)) (sym (one_on t hs h)) (only_after hs h rest is now n))

  only_first : DisksOnly []
  unfolding facts_of events_from
  only_first n = first_disk (DiskOnly []) (tt, tt) ((tt, tt), (tt, tt)) t.places n

  pub disks_only : (hs : List Happening) → Part t whole hs → DisksOnly hs
  disks_only hs part = keep_on t whole DisksOnly only_on [] hs part only_first
