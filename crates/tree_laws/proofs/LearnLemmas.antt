-- In every lawful run decisions are learned of toward, by the forest that the Prepares of the whole run make.
use Rattle.std.proofs.Common.{◌≡◌, ℕ, List, [], ◌∷◌, ◌++◌, unwrap_or, Option, Some, None, inl, inr, refl, sym, ap, subst, ◌∙◌}
use Rattle.std.specs.Prelude.{IfSome}
use Rattle.std.specs.Option.{option_to_list}
use Rattle.std.specs.List.{AllByRecursion}
use Rattle.tran_ids.proofs.ListedLemmas.{item_is}
use Rattle.tran_ids.proofs.NumberedLemmas.{set_or_before}
use Rattle.node_rules.specs.Data.{BranchId, Decision, Place, Post, RedoRecord, KeptRow}
use Rattle.node_rules.specs.Data.records
use Rattle.node_rules.specs.Words.{numbered, set_numbered}
use Rattle.node_rules.specs.NodeState.{NodeState, kept_row_id}
use Rattle.agreement.specs.Events.{Event, Forest}
use Rattle.run_rules.specs.Data.{Happening, Command}
use Rattle.run_rules.specs.Data.happenings
use Rattle.run_rules.specs.Facts.{Facts, first_facts, records_at, with_boot, facts_after, facts_of}
use Rattle.run_rules.specs.Lawful.{IsPlace, MayHappen, IsLawful, History, IsLawfulRun, facts_at}
use Rattle.run_base_laws.specs.RunEvents.{events_after}
use Rattle.run_base_laws.specs.EventLaws.{EachEventFrom, AtEachEvent}
use Rattle.run_branch_laws.specs.TowardLaws.{IsRowLike, WasTold, LearnsSo, GoesByRow, WritesByRow}
use Rattle.run_rules.specs.Births.{Born, births_after, births_from, births_of}
use Rattle.run_base_laws.specs.BirthLaws.{Began, KeptIs, NamesAre}
use Rattle.run_base_laws.specs.InTurnLaws.{said_in}
use Rattle.run_rules.proofs.ListLemmas.{all_append}
use Rattle.run_base_laws.proofs.OwnLemmas.{all_found}
use Rattle.run_base_laws.proofs.EventsStandLemmas.{first_disk, node_so}
use Rattle.run_base_laws.proofs.BirthRunLemmas.{StandBorn, stand_born_on, stand_born_first}
use Rattle.run_base_laws.proofs.RestRunLemmas.{RootsStand, roots_stand_on, first_rests}
use Rattle.run_base_laws.proofs.InTurnRunLemmas.{CallsStand, calls_stand_on, first_calls}
use Rattle.run_branch_laws.proofs.FreezeRunLemmas.{FreezeStand, freeze_on, first_freeze}
use Rattle.run_branch_laws.proofs.TowardLemmas.{turns_go_by_rows}
use Rattle.tree_laws.specs.Forests.{forest_by}
use Rattle.tree_laws.specs.RecordLaws.{LeadsToward, RecordLeads}
use Rattle.tree_laws.specs.LearnLaws.{LearnsOfToward, LearnsInForest, LearnedOfToward}
use Rattle.tree_laws.proofs.AskRunLemmas.{AskStand, ask_on, first_ask}
use Rattle.tree_laws.proofs.ForestLemmas.{Known}
use Rattle.tree_laws.proofs.ForestRunLemmas.{run_known}
use Rattle.tree_laws.proofs.LeadLemmas.{leads_so}
use Rattle.tree_laws.proofs.FitLemmas.{began_all, leads_all}
use Rattle.tree_laws.proofs.RowLemmas.{RowLeads, rows_lead}

-- the records on each disk name what these messages told
abbrev pub DisksLead : List Post → Facts → Type 0
DisksLead all f = (n : ℕ) → AllByRecursion (RecordLeads all) (records_at f n)

-- and so does the record of a happening
abbrev LeadsOn : List Post → Happening → Type 0
LeadsOn all (happenings.Turn u) = IfSome u.wrote (RecordLeads all)
LeadsOn all _ = Unit {0}

module _ (all : List Post) where
  recorded : (rs : List RedoRecord) (w : Option RedoRecord) → AllByRecursion (RecordLeads all) rs → IfSome w (RecordLeads all) → AllByRecursion (RecordLeads all) (rs ++ option_to_list w)
  recorded rs None old new = all_append (RecordLeads all) rs [] old tt
  recorded rs (Some r) old new = all_append (RecordLeads all) rs (r ∷ []) old (new, tt)

  set_disk : (f : Facts) → DisksLead all f → (m i : ℕ) (rs : List RedoRecord) → AllByRecursion (RecordLeads all) rs → AllByRecursion (RecordLeads all) (unwrap_or (numbered (set_numbered f.records m rs) i) [])
  set_disk f now m i rs new = elim (set_or_before f.records m i rs) [
    | inl still ↦ subst (λ (o : Option (List RedoRecord)). AllByRecursion (RecordLeads all) (unwrap_or o [])) (sym still) (now i)
    | inr set ↦ subst (λ (o : Option (List RedoRecord)). AllByRecursion (RecordLeads all) (unwrap_or o [])) (sym set.1) new
  ]

  disks_on : (places : List Place) (asked : List Command) (f : Facts) (h : Happening) → LeadsOn all h → DisksLead all f → DisksLead all (facts_after places asked f h)
  unfolding facts_after
  disks_on places asked f (happenings.Turn u) new now i = set_disk f now u.node i (records_at f u.node ++ option_to_list u.wrote) (recorded (records_at f u.node) u.wrote (now u.node) new)
  disks_on places asked f (happenings.Started m boot) new now i = set_disk f now m i (with_boot f m boot) (all_append (RecordLeads all) (records_at f m) (records.Boot boot ∷ []) (now m) (tt, tt))
  disks_on places asked f (happenings.Stopped m) new now i = now i
  disks_on places asked f (happenings.Begun c) new now i = now i
  disks_on places asked f (happenings.Cut a b) new now i = now i
  disks_on places asked f (happenings.Join a b) new now i = now i
  disks_on places asked f (happenings.Lost k) new now i = now i

  first_leads : (places : List Place) → DisksLead all (first_facts places)
  first_leads places n = first_disk (AllByRecursion (RecordLeads all)) tt (tt, tt) places n

-- a branch learns of the neighbour that its row has as toward, which is that of the forest
module _ (ends bs : List Born) (all : List Post) (known : Known ends all) (wider : (x : Born) → Began bs x → Began ends x) (t : List Event) (ks : List KeptRow) (lead : AllByRecursion (RowLeads all) ks) (names : AllByRecursion (KeptIs (Began bs)) ks) where
  abbrev p : Forest
  p = forest_by ends all

  learns_so : (b : BranchId) (d : Decision) → LearnsSo t ks b d → WasTold t (p.toward b) b d
  learns_so b d is =
      let like : IsRowLike ks b is.0 = is.1 in
      let row : KeptRow = like.row in
      let me : row.me ≡ b = item_is kept_row_id ks b row like.stands in
      let named : KeptIs (Began bs) row = all_found (KeptIs (Began bs)) kept_row_id ks b row names like.stands in
      let toward : row.toward ≡ Some is.2.0 = sym (ap (λ (s : KeptRow). s.toward) like.like) ∙ is.2.1 in
      let leads : LeadsToward all row.me row.parent row.toward = all_found (RowLeads all) kept_row_id ks b row lead like.stands in
      let told : LeadsToward all row.me named.born.parent (Some is.2.0) = subst (λ o. LeadsToward all row.me o (Some is.2.0)) (sym named.is_parent) (subst (LeadsToward all row.me row.parent) toward leads) in
      let fits = leads_so ends all known named.born row.me is.2.0 (wider named.born named.began) named.is_me told in
      let next : p.toward b ≡ is.2.0 = ap p.toward (sym me) ∙ fits.toward in
      subst (λ q. WasTold t q b d) (sym next) is.2.2

  record_learns : (r : RedoRecord) → GoesByRow t ks r → LearnsOfToward p t r
  record_learns (records.Ended b d) is = learns_so b d is
  record_learns (records.Met b d mixed) is = learns_so b d is
  record_learns _ is = tt

  wrote_learns : (w : Option RedoRecord) → IfSome w (GoesByRow t ks) → IfSome w (LearnsOfToward p t)
  wrote_learns None is = tt
  wrote_learns (Some r) is = record_learns r is

module _ (places : List Place) (asked : List Command) (each : (n : ℕ) (p : Place) → numbered places n ≡ Some p → IsPlace places n p) where
  leads_on : (f : Facts) (t : List Event) (bs : List Born) → StandBorn places asked each f t bs → RootsStand places asked each f → CallsStand f → FreezeStand f → AskStand f bs → (h : Happening) → MayHappen places asked f h
      → (hs : List Happening) → IsLawful places asked (facts_after places asked f h) hs → LeadsOn (said_in (facts_of places asked (facts_after places asked f h) hs)) h
  leads_on f t bs stand roots turned ice now (happenings.Turn u) may hs lawful = leads_all places asked each f t bs stand roots turned ice now u may.0 may.1 hs lawful u.wrote refl
  leads_on f t bs stand roots turned ice now _ may hs lawful = tt

  learns_on : (ends bs : List Born) (all : List Post) → Known ends all → ((x : Born) → Began bs x → Began ends x) → (f : Facts) (t : List Event) → StandBorn places asked each f t bs → DisksLead all f → (h : Happening) → MayHappen places asked f h
      → WritesByRow f t h → LearnsInForest (forest_by ends all) f t h
  learns_on ends bs all known wider f t stand disks (happenings.Turn u) may rows =
      let k : NodeState = may.0 in
      let names : NamesAre (Began bs) k = subst (λ o. IfSome o (NamesAre (Began bs))) may.1.up (stand.1.lives u.node) in
      wrote_learns ends bs all known wider t k.stored.durable.kept (rows_lead all k (records_at f u.node) (node_so places asked each f t stand.0 u.node k may.1.up).stored (disks u.node)) names.1 u.wrote (rows k may.1.up)
  learns_on ends bs all known wider f t stand disks _ may rows = tt

  learns_each : (ends : List Born) (all : List Post) → Known ends all → (f : Facts) (hs : List Happening) (t : List Event) (bs : List Born) → StandBorn places asked each f t bs → RootsStand places asked each f → CallsStand f → FreezeStand f
      → AskStand f bs → DisksLead all f → IsLawful places asked f hs → births_from places asked f hs bs ≡ ends → said_in (facts_of places asked f hs) ≡ all → EachEventFrom WritesByRow places asked f t hs
      → EachEventFrom (LearnsInForest (forest_by ends all)) places asked f t hs
  unfolding IsLawful births_from facts_of
  learns_each ends all known f [] t bs stand roots turned ice now disks lawful one two rows = tt
  learns_each ends all known f (h ∷ hs) t bs stand roots turned ice now disks lawful one two rows =
      let new : LeadsOn all h = subst (λ ms. LeadsOn ms h) two (leads_on f t bs stand roots turned ice now h lawful.0 hs lawful.1) in (
        learns_on ends bs all known (λ x is. subst (λ xs. Began xs x) one (began_all places asked f (h ∷ hs) bs x is)) f t stand disks h lawful.0 rows.0,
        learns_each ends all known (facts_after places asked f h) hs (events_after places asked f h t) (births_after places f h bs) (stand_born_on places asked each f t bs h stand lawful.0)
            (roots_stand_on places asked each f t bs stand roots h lawful.0) (calls_stand_on places asked each f t bs stand roots turned h lawful.0) (freeze_on places asked each f t bs stand roots turned ice h lawful.0)
            (ask_on places asked each f t bs stand roots turned ice now h lawful.0) (disks_on all places asked f h new disks) lawful.1 one two rows.1,
      )

  leads_each : (all : List Post) (f : Facts) (hs : List Happening) (t : List Event) (bs : List Born) → StandBorn places asked each f t bs → RootsStand places asked each f → CallsStand f → FreezeStand f → AskStand f bs → DisksLead all f
      → IsLawful places asked f hs → said_in (facts_of places asked f hs) ≡ all → EachEventFrom (λ g e h. DisksLead all g) places asked f t hs
  unfolding IsLawful facts_of
  leads_each all f [] t bs stand roots turned ice now disks lawful two = tt
  leads_each all f (h ∷ hs) t bs stand roots turned ice now disks lawful two =
      let new : LeadsOn all h = subst (λ ms. LeadsOn ms h) two (leads_on f t bs stand roots turned ice now h lawful.0 hs lawful.1) in (
        disks,
        leads_each all (facts_after places asked f h) hs (events_after places asked f h t) (births_after places f h bs) (stand_born_on places asked each f t bs h stand lawful.0)
            (roots_stand_on places asked each f t bs stand roots h lawful.0) (calls_stand_on places asked each f t bs stand roots turned h lawful.0) (freeze_on places asked each f t bs stand roots turned ice h lawful.0)
            (ask_on places asked each f t bs stand roots turned ice now h lawful.0) (disks_on all places asked f h new disks) lawful.1 two,
      )

-- so do the disks before each happening of a run
pub run_leads : (t : History) → IsLawfulRun t → AtEachEvent (λ f e h. DisksLead (said_in (facts_at t)) f) t
run_leads t lawful =
    leads_each t.places t.commands t.of_a_script.each (said_in (facts_at t)) (first_facts t.places) t.trace [] [] (stand_born_first t.places t.commands t.of_a_script.each)
    (first_rests t.places t.commands t.of_a_script.each) (first_calls t.places t.commands t.of_a_script.each) (first_freeze t.places t.commands t.of_a_script.each) (first_ask t.places t.commands t.of_a_script.each)
    (first_leads (said_in (facts_at t)) t.places) lawful refl

pub learned_of_toward : LearnedOfToward
learned_of_toward t lawful =
    learns_each t.places t.commands t.of_a_script.each (births_of t) (said_in (facts_at t)) (run_known t lawful) (first_facts t.places) t.trace [] [] (stand_born_first t.places t.commands t.of_a_script.each)
    (first_rests t.places t.commands t.of_a_script.each) (first_calls t.places t.commands t.of_a_script.each) (first_freeze t.places t.commands t.of_a_script.each) (first_ask t.places t.commands t.of_a_script.each)
    (first_leads (said_in (facts_at t)) t.places) lawful refl refl (turns_go_by_rows t lawful)
