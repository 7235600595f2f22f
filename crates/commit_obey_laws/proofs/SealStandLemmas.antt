-- In every lawful run a branch of which a disk has a Sealed record is sealed.
use Rattle.std.proofs.Common.{◌≡◌, ℕ, Bool, true, false, if◌then◌else◌, List, [], ◌∷◌, ◌++◌, unwrap_or, Option, Some, None, inl, inr, refl, sym, ap, subst, subst₂, ◌∙◌}
use Rattle.std.specs.Prelude.{IfSome}
use Rattle.std.specs.Option.{option_to_list}
use Rattle.std.specs.List.{AllByRecursion}
use Rattle.tran_ids.proofs.BranchLemmas.{equal_from_same}
use Rattle.tran_ids.proofs.NumberedLemmas.{set_or_before}
use Rattle.agreement.specs.Events as exits
use Rattle.agreement.specs.Events.{Event, Exit, first, only_at, exit}
use Rattle.agreement.proofs.EventLemmas.{only_at_same}
use Rattle.node_rules.specs.Data.{BranchId, RedoRecord}
use Rattle.node_rules.specs.Data.records
use Rattle.node_rules.specs.Words.{same, numbered, set_numbered}
use Rattle.run_rules.specs.Data.{Turn, Happening}
use Rattle.run_rules.specs.Data.happenings
use Rattle.run_base_laws.specs.EventLaws.{TellsAsEvents, EachEventFrom}
use Rattle.run_base_laws.specs.EventRows.{MayStand}
use Rattle.run_rules.specs.Facts.{Facts, first_facts, records_at, with_boot, facts_after, facts_of}
use Rattle.run_rules.specs.BranchRecords.{sealed_in, toward_in, toward_at}
use Rattle.run_rules.specs.Lawful.{History, IsLawfulRun}
use Rattle.run_base_laws.specs.RunEvents.{wrote_event, with_event, with_record, events_after, events_from}
use Rattle.run_base_laws.proofs.EventsStandLemmas.{first_disk, turns_tell_as_events}
use Rattle.run_base_laws.proofs.LaterLemmas.{exit_later, turn_added}
use Rattle.run_rules.proofs.ListLemmas.{all_append, all_weaker}
use Rattle.tree_laws.proofs.PrefixLemmas.{f_at, e_at, one_on, more_on}
use Rattle.tree_laws.proofs.TimeLemmas.{Part, each_at, exit_on, keep_on}

first_new : (x z : Option Exit) → x ≡ None → first x z ≡ z
first_new None z is = refl
first_new (Some y) z is = absurd cc

-- a Sealed record has its exit
abbrev SealStands : List Event → RedoRecord → Type 0
SealStands e (records.Sealed r) = exit e r.me ≡ Some (exits.Sealed r.scn)
SealStands e _ = Unit {0}

abbrev Disks : Facts → List Event → Type 0
Disks f e = (n : ℕ) → AllByRecursion (SealStands e) (records_at f n)

-- one disk that is set
set_at : (f : Facts) (e : List Event) → Disks f e → (m i : ℕ) (rs : List RedoRecord) → AllByRecursion (SealStands e) rs → AllByRecursion (SealStands e) (unwrap_or (numbered (set_numbered f.records m rs) i) [])
set_at f e now m i rs new = elim (set_or_before f.records m i rs) [
  | inl still ↦ subst (λ (o : Option (List RedoRecord)). AllByRecursion (SealStands e) (unwrap_or o [])) (sym still) (now i)
  | inr set ↦ subst (λ (o : Option (List RedoRecord)). AllByRecursion (SealStands e) (unwrap_or o [])) (sym set.1) new
]

recorded : (e : List Event) (rs : List RedoRecord) (w : Option RedoRecord) → AllByRecursion (SealStands e) rs → IfSome w (SealStands e) → AllByRecursion (SealStands e) (rs ++ option_to_list w)
recorded e rs None old new = all_append (SealStands e) rs [] old tt
recorded e rs (Some r) old new = all_append (SealStands e) rs (r ∷ []) old (new, tt)

sealed_named : (e : List Event) (rs : List RedoRecord) (b from : BranchId) → AllByRecursion (SealStands e) rs → toward_in (sealed_in rs b) ≡ Some from → (m : ℕ) × (exit e b ≡ Some (exits.Sealed m))
sealed_named e [] b from stand is = absurd cc
sealed_named e (records.Sealed r ∷ rs) b from stand is = by (same r.me b) refl (sealed_named e rs b from stand.1) is
  where
    by : (here : Bool) → same r.me b ≡ here → (toward_in (sealed_in rs b) ≡ Some from → (m : ℕ) × (exit e b ≡ Some (exits.Sealed m))) → toward_in (if here then Some r else sealed_in rs b) ≡ Some from
        → (m : ℕ) × (exit e b ≡ Some (exits.Sealed m))
    by true me later found = (r.scn, subst (λ i. exit e i ≡ Some (exits.Sealed r.scn)) (equal_from_same r.me b me) stand.0)
    by false me later found = later found
sealed_named e (_ ∷ rs) b from stand is = sealed_named e rs b from stand.1 is

module _ (t : History) (whole : IsLawfulRun t) where
  abbrev BranchStatus : List Happening → Type 0
  BranchStatus hs = Disks (f_at t hs) (e_at t hs)

  one_later : (hs : List Happening) (h : Happening) (r : RedoRecord) → SealStands (e_at t hs) r → SealStands (events_after t.places t.commands (f_at t hs) h (e_at t hs)) r
  one_later hs h (records.Sealed r) so = exit_on t.places t.commands (f_at t hs) h (e_at t hs) r.me (exits.Sealed r.scn) so
  one_later hs h _ so = tt

  later : (hs : List Happening) (h : Happening) → BranchStatus hs → Disks (f_at t hs) (events_after t.places t.commands (f_at t hs) h (e_at t hs))
  later hs h now n = all_weaker _ _ (λ r so. one_later hs h r so) (records_at (f_at t hs) n) (now n)

  tells : (hs : List Happening) (h : Happening) (rest : List Happening) → hs ++ h ∷ rest ≡ t.trace → TellsAsEvents (f_at t hs) (e_at t hs) h
  tells hs h rest is = each_at t.places t.commands TellsAsEvents (first_facts t.places) hs h rest [] (subst (λ xs. EachEventFrom TellsAsEvents t.places t.commands (first_facts t.places) [] xs) (sym is) (turns_tell_as_events t whole))

  seals_now : (hs : List Happening) (u : Turn) (w : Option RedoRecord) → u.wrote ≡ w → IfSome w (MayStand (e_at t hs)) → IfSome w (SealStands (events_after t.places t.commands (f_at t hs) (happenings.Turn u) (e_at t hs)))
  seals_now hs u None wrote may = tt
  seals_now hs u (Some (records.Sealed r)) wrote may =
      let now : exit (with_record u (e_at t hs)) r.me ≡ Some (exits.Sealed r.scn)
      = ap (λ w. exit (with_event (wrote_event u.node w) (e_at t hs)) r.me) wrote ∙ (first_new (exit (e_at t hs) r.me) (only_at r.me r.me (exits.Sealed r.scn)) may.0 ∙ only_at_same r.me r.me (exits.Sealed r.scn) refl) in
      exit_later r.me (exits.Sealed r.scn) (turn_added (f_at t hs) (facts_after t.places t.commands (f_at t hs) (happenings.Turn u)) u (e_at t hs)) now
  seals_now hs u (Some _) wrote may = tt

  disks_on : (hs : List Happening) (h : Happening) (rest : List Happening) → hs ++ h ∷ rest ≡ t.trace → BranchStatus hs → Disks (facts_after t.places t.commands (f_at t hs) h) (events_after t.places t.commands (f_at t hs) h (e_at t hs))
  unfolding facts_after
  disks_on hs h rest is now = by h (tells hs h rest is) (later hs h now) (λ u w wrote may. seals_now hs u w wrote may)
    where
      by : (h : Happening) → TellsAsEvents (f_at t hs) (e_at t hs) h → Disks (f_at t hs) (events_after t.places t.commands (f_at t hs) h (e_at t hs))
          → ((u : Turn) (w : Option RedoRecord) → u.wrote ≡ w → IfSome w (MayStand (e_at t hs)) → IfSome w (SealStands (events_after t.places t.commands (f_at t hs) (happenings.Turn u) (e_at t hs))))
          → Disks (facts_after t.places t.commands (f_at t hs) h) (events_after t.places t.commands (f_at t hs) h (e_at t hs))
      by (happenings.Turn u) told old new i = set_at (f_at t hs) (events_after t.places t.commands (f_at t hs) (happenings.Turn u) (e_at t hs)) old u.node i (records_at (f_at t hs) u.node ++ option_to_list u.wrote) (recorded (events_after t.places t.commands (f_at t hs) (happenings.Turn u) (e_at t hs)) (records_at (f_at t hs) u.node) u.wrote (old u.node) (new u u.wrote refl told.0))
      by (happenings.Started m boot) told old new i = set_at (f_at t hs) (events_after t.places t.commands (f_at t hs) (happenings.Started m boot) (e_at t hs)) old m i (with_boot (f_at t hs) m boot) (all_append (SealStands (events_after t.places t.commands (f_at t hs) (happenings.Started m boot) (e_at t hs))) (records_at (f_at t hs) m) (records.Boot boot ∷ []) (old m) (tt, tt))
      by (happenings.Stopped m) told old new i = old i
      by (happenings.Begun c) told old new i = old i
      by (happenings.Cut a b) told old new i = old i
      by (happenings.Join a b) told old new i = old i
      by (happenings.Lost k) told old new i = old i

  stand_on : (hs : List Happening) (h : Happening) (rest : List Happening) → hs ++ h ∷ rest ≡ t.trace → BranchStatus hs → BranchStatus (hs ++ h ∷ [])
  stand_on hs h rest is now = subst₂ Disks (sym (one_on t hs h)) (sym (more_on t hs h)) (disks_on hs h rest is now)

  first_stand : BranchStatus []
  unfolding facts_of events_from
  first_stand n = first_disk (AllByRecursion (SealStands [])) tt (tt, tt) t.places n

  -- a branch that has a neighbour toward by the records of its node is sealed
  pub toward_sealed : (hs : List Happening) → Part t whole hs → (b from : BranchId) → toward_at (f_at t hs) b ≡ Some from → (m : ℕ) × (exit (e_at t hs) b ≡ Some (exits.Sealed m))
  toward_sealed hs part b from is = sealed_named (e_at t hs) (records_at (f_at t hs) b.node) b from (keep_on t whole BranchStatus stand_on [] hs part first_stand b.node) is
