-- In every lawful run the row of each branch names each neighbour beyond that is not gone without changes.
use Rattle.std.proofs.Common.{◌≡◌, ℕ, List, [], ◌∷◌, ◌++◌, map, unwrap_or, Option, Some, None, inl, inr, refl, sym, subst}
use Rattle.std.specs.Prelude.{IfSome}
use Rattle.std.specs.Option.{option_to_list}
use Rattle.std.specs.List.{AllByRecursion}
use Rattle.tran_ids.proofs.NumberedLemmas.{set_or_before}
use Rattle.node_rules.specs.Data.{Peer}
use Rattle.redo_record.specs.Rows.{kid_of}
use Rattle.node_rules.specs.Data.{BranchId, RedoRecord, Place}
use Rattle.node_rules.specs.Data.records
use Rattle.node_rules.specs.Words.{numbered, set_numbered}
use Rattle.node_rules.specs.NodeState.{NodeState}
use Rattle.node_rules.specs.Records.{nothing_stored, stored_by}
use Rattle.run_base_laws.specs.NodeLaws.{unacked}
use Rattle.agreement.specs.Events.{Forest, Event, Exit, Quiet, exit}
use Rattle.run_rules.specs.Data.{Happening, Command}
use Rattle.run_rules.specs.Data.happenings
use Rattle.run_rules.specs.Facts.{Facts, first_facts, records_at, with_boot, facts_after}
use Rattle.run_base_laws.specs.RunEvents.{events_after}
use Rattle.run_base_laws.specs.EventLaws.{EachEventFrom}
use Rattle.run_rules.proofs.ListLemmas.{all_weaker, all_append, map_after}
use Rattle.run_base_laws.proofs.LaterLemmas.{exit_later, wrote_added, turn_added, stop_added}
use Rattle.run_base_laws.proofs.EventsStandLemmas.{first_disk, node_so, run_stands}
use Rattle.tree_laws.specs.BeyondLaws.{BeyondHeard, RecordHeard, WritesHeard}
use Rattle.tree_laws.specs.NameLaws.{NamesBeyond, RowNames, NodesName, RowsNameBeyond}
use Rattle.tree_laws.specs.Forests.{forest_of}
use Rattle.tree_laws.proofs.PrefixLemmas.{so_far, f_at, e_at, each_prefix}
use Rattle.tree_laws.proofs.RowLemmas.{kid_branch, rows_so}
use Rattle.tree_laws.proofs.SettleRunLemmas.{records_heard}

module _ (p : Forest) where
  -- ---- records

  -- a seal or a decision names its neighbours beyond
  abbrev pub RecordNames : List Event → RedoRecord → Type 0
  RecordNames t (records.Sealed r) = NamesBeyond p t r.me r.parent (map (λ c. c.branch) r.children)
  RecordNames t (records.Decided r) = NamesBeyond p t r.me r.parent (map (λ c. c.branch) r.children)
  RecordNames t _ = Unit {0}

  heard_names : (t : List Event) (me : BranchId) (parent : Option BranchId) (kids : List BranchId) (n : ℕ) → BeyondHeard p t me parent kids n → NamesBeyond p t me parent kids
  heard_names t me parent kids n heard x edge = elim (heard x edge) [ inl voted ↦ inl voted.0 | inr quiet ↦ inr quiet ]

  record_names : (t : List Event) (r : RedoRecord) → RecordHeard p t r → RecordNames t r
  record_names t (records.Sealed r) heard = heard_names t r.me r.parent (map (λ c. c.branch) r.children) r.scn heard
  record_names t (records.Decided r) heard = heard_names t r.me r.parent (map (λ c. c.branch) r.children) heard.0 heard.2
  record_names t _ heard = tt

  -- and so does its row
  kids_of : (ps : List Peer) → map kid_branch (map kid_of ps) ≡ map (λ (c : Peer). c.branch) ps
  kids_of ps = map_after kid_branch kid_of (λ (c : Peer). c.branch) (λ c. refl) ps

  pub rows_name : (t : List Event) (k : NodeState) (rs : List RedoRecord) → unacked k.stored ≡ stored_by nothing_stored rs → AllByRecursion (RecordNames t) rs → AllByRecursion (RowNames p t) k.stored.durable.kept
  rows_name t k rs is all =
      rows_so (λ me parent kids toward. NamesBeyond p t me parent kids) (RecordNames t) (λ r so. subst (λ cs. NamesBeyond p t r.me r.parent cs) (sym (kids_of r.children)) so)
      (λ r so. subst (λ cs. NamesBeyond p t r.me r.parent cs) (sym (kids_of r.children)) so) k rs is all

  -- ---- more events

  module _ (t r : List Event) (quiet_stays : (x : BranchId) → exit t x ≡ Some Quiet → exit r x ≡ Some Quiet) where
    names_stay : (me : BranchId) (parent : Option BranchId) (kids : List BranchId) → NamesBeyond p t me parent kids → NamesBeyond p r me parent kids
    names_stay me parent kids names x edge = elim (names x edge) [ inl named ↦ inl named | inr quiet ↦ inr (quiet_stays x quiet) ]

    record_stays : (w : RedoRecord) → RecordNames t w → RecordNames r w
    record_stays (records.Sealed s) is = names_stay s.me s.parent (map (λ c. c.branch) s.children) is
    record_stays (records.Decided s) is = names_stay s.me s.parent (map (λ c. c.branch) s.children) is
    record_stays _ is = tt

  -- ---- disks

  abbrev pub DisksName : Facts → List Event → Type 0
  DisksName f t = (n : ℕ) → AllByRecursion (RecordNames t) (records_at f n)

  recorded : (t : List Event) (rs : List RedoRecord) (w : Option RedoRecord) → AllByRecursion (RecordNames t) rs → IfSome w (RecordHeard p t) → AllByRecursion (RecordNames t) (rs ++ option_to_list w)
  recorded t rs None old new = all_append (RecordNames t) rs [] old tt
  recorded t rs (Some r) old new = all_append (RecordNames t) rs (r ∷ []) old (record_names t r new, tt)

  set_disk : (t : List Event) (f : Facts) → DisksName f t → (m i : ℕ) (rs : List RedoRecord) → AllByRecursion (RecordNames t) rs → AllByRecursion (RecordNames t) (unwrap_or (numbered (set_numbered f.records m rs) i) [])
  set_disk t f now m i rs new = elim (set_or_before f.records m i rs) [
    | inl still ↦ subst (λ (o : Option (List RedoRecord)). AllByRecursion (RecordNames t) (unwrap_or o [])) (sym still) (now i)
    | inr set ↦ subst (λ (o : Option (List RedoRecord)). AllByRecursion (RecordNames t) (unwrap_or o [])) (sym set.1) new
  ]

  module _ (places : List Place) (asked : List Command) where
    disks_with : (f : Facts) (t : List Event) (h : Happening) → WritesHeard p f t h → DisksName f t → DisksName (facts_after places asked f h) t
    unfolding facts_after
    disks_with f t (happenings.Turn u) new now i = set_disk t f now u.node i (records_at f u.node ++ option_to_list u.wrote) (recorded t (records_at f u.node) u.wrote (now u.node) new)
    disks_with f t (happenings.Started m boot) new now i = set_disk t f now m i (with_boot f m boot) (all_append (RecordNames t) (records_at f m) (records.Boot boot ∷ []) (now m) (tt, tt))
    disks_with f t (happenings.Stopped m) new now i = now i
    disks_with f t (happenings.Begun c) new now i = now i
    disks_with f t (happenings.Cut a b) new now i = now i
    disks_with f t (happenings.Join a b) new now i = now i
    disks_with f t (happenings.Lost k) new now i = now i

    -- an exit stays
    pub exit_on : (f : Facts) (t : List Event) (h : Happening) (b : BranchId) (x : Exit) → exit t b ≡ Some x → exit (events_after places asked f h t) b ≡ Some x
    exit_on f t (happenings.Turn u) b x is = exit_later b x (turn_added f (facts_after places asked f (happenings.Turn u)) u t) (exit_later b x (wrote_added u t) is)
    exit_on f t (happenings.Stopped n) b x is = exit_later b x (stop_added f (facts_after places asked f (happenings.Stopped n)) n t) is
    exit_on f t (happenings.Started n boot) b x is = is
    exit_on f t (happenings.Begun c) b x is = is
    exit_on f t (happenings.Cut m n) b x is = is
    exit_on f t (happenings.Join m n) b x is = is
    exit_on f t (happenings.Lost k) b x is = is

    disks_each : (f : Facts) (t : List Event) (hs : List Happening) → DisksName f t → EachEventFrom (WritesHeard p) places asked f t hs → EachEventFrom (λ g e h. DisksName g e) places asked f t hs
    disks_each f t [] now heard = tt
    disks_each f t (h ∷ hs) now heard =
        let g : Facts = facts_after places asked f h in
        let r : List Event = events_after places asked f h t in (
          now,
          disks_each g r hs (λ n. all_weaker _ _ (λ w is. record_stays t r (λ x quiet. exit_on f t h x Quiet quiet) w is) (records_at g n) (disks_with f t h heard.0 now n)) heard.1,
        )

  first_names : (places : List Place) → DisksName (first_facts places) []
  first_names places n = first_disk (AllByRecursion (RecordNames [])) tt (tt, tt) places n

pub rows_name_beyond : RowsNameBeyond
rows_name_beyond t lawful =
    each_prefix t (λ f e h. DisksName (forest_of t) f e) (NodesName (forest_of t))
    (λ before h rest is so may disks. (λ n k up. rows_name (forest_of t) (e_at t before) k (records_at (f_at t before) n) (node_so t.places t.commands t.of_a_script.each (f_at t before) (e_at t before) (run_stands (so_far t before) so) n k up).stored (disks.0 n)))
    lawful (disks_each (forest_of t) t.places t.commands (first_facts t.places) [] t.trace (first_names (forest_of t) t.places) (records_heard t lawful))
