-- In every lawful run the records of each node fit the forest of the run: what a Sealed record and the row of a sealed branch
-- have as toward is the neighbour on the way to the site, and the row of a site has none.
use Rattle.std.proofs.Common.{◌≡◌, ◌≢◌, ℕ, Bool, true, false, if◌then◌else◌, List, [], ◌∷◌, ◌++◌, unwrap_or, Option, Some, None, inl, inr, refl, sym, ap, subst, ◌∙◌}
use Rattle.std.specs.Prelude.{◌⊎◌, IfSome}
use Rattle.std.specs.Option.{option_to_list}
use Rattle.std.specs.List.{AllByRecursion}
use Rattle.tran_ids.proofs.NumberedLemmas.{set_or_before}
use Rattle.tran_ids.proofs.BranchLemmas.{equal_from_same}
use Rattle.agreement.specs.Events.{Forest, site_of}
use Rattle.node_rules.specs.Data.{BranchId, RedoRecord, Place}
use Rattle.node_rules.specs.Data.records
use Rattle.node_rules.specs.Words.{same, numbered, set_numbered}
use Rattle.node_rules.specs.NodeState.{NodeState}
use Rattle.run_rules.specs.Data.{Happening, Command}
use Rattle.run_rules.specs.Data.happenings
use Rattle.run_rules.specs.Facts.{Facts, first_facts, node_at, records_at, with_boot, facts_after, facts_of}
use Rattle.run_rules.specs.BranchRecords.{sealed_in, toward_in, toward_at}
use Rattle.run_rules.specs.Lawful.{History, IsLawfulRun}
use Rattle.run_base_laws.specs.NodeLaws.{EachFactFrom}
use Rattle.run_base_laws.proofs.EventsStandLemmas.{first_disk, node_so, run_stands}
use Rattle.run_rules.proofs.ListLemmas.{all_append}
use Rattle.tree_laws.specs.FitLaws.{FitsForest, WritesInForest}
use Rattle.tree_laws.specs.Forests.{forest_of}
use Rattle.tree_laws.proofs.FitLemmas.{records_fit_forest}
use Rattle.tree_laws.proofs.PrefixLemmas.{so_far, f_at, e_at, one_on}
use Rattle.tree_laws.proofs.RowLemmas.{rows_so}
use Rattle.tree_laws.proofs.TimeLemmas.{Part, part_lawful, fact_at, keep_on}

module _ (p : Forest) where
  -- a row has its neighbour on the way to the site, or is the site's
  abbrev pub RowFits : BranchId → Option BranchId → Type 0
  RowFits me toward = ((toward ≡ Some (p.toward me)) × (p.member me ≡ true) × (me ≢ site_of p me)) ⊎ ((toward ≡ None) × (me ≡ site_of p me))

  -- ---- disks

  abbrev DisksFit : Facts → Type 0
  DisksFit f = (n : ℕ) → AllByRecursion (FitsForest p) (records_at f n)

  recorded : (rs : List RedoRecord) (w : Option RedoRecord) → AllByRecursion (FitsForest p) rs → IfSome w (FitsForest p) → AllByRecursion (FitsForest p) (rs ++ option_to_list w)
  recorded rs None old new = all_append (FitsForest p) rs [] old tt
  recorded rs (Some r) old new = all_append (FitsForest p) rs (r ∷ []) old (new, tt)

  set_disk : (f : Facts) → DisksFit f → (m i : ℕ) (rs : List RedoRecord) → AllByRecursion (FitsForest p) rs → AllByRecursion (FitsForest p) (unwrap_or (numbered (set_numbered f.records m rs) i) [])
  set_disk f now m i rs new = elim (set_or_before f.records m i rs) [
    | inl still ↦ subst (λ (o : Option (List RedoRecord)). AllByRecursion (FitsForest p) (unwrap_or o [])) (sym still) (now i)
    | inr set ↦ subst (λ (o : Option (List RedoRecord)). AllByRecursion (FitsForest p) (unwrap_or o [])) (sym set.1) new
  ]

  disks_on : (places : List Place) (asked : List Command) (f : Facts) (h : Happening) → WritesInForest p places f h → DisksFit f → DisksFit (facts_after places asked f h)
  unfolding facts_after
  disks_on places asked f (happenings.Turn u) new now i = set_disk f now u.node i (records_at f u.node ++ option_to_list u.wrote) (recorded (records_at f u.node) u.wrote (now u.node) new)
  disks_on places asked f (happenings.Started m boot) new now i = set_disk f now m i (with_boot f m boot) (all_append (FitsForest p) (records_at f m) (records.Boot boot ∷ []) (now m) (tt, tt))
  disks_on places asked f (happenings.Stopped m) new now i = now i
  disks_on places asked f (happenings.Begun c) new now i = now i
  disks_on places asked f (happenings.Cut a b) new now i = now i
  disks_on places asked f (happenings.Join a b) new now i = now i
  disks_on places asked f (happenings.Lost k) new now i = now i

  -- toward by the Sealed record that is found
  toward_named : (rs : List RedoRecord) (b : BranchId) (from : BranchId) → AllByRecursion (FitsForest p) rs → toward_in (sealed_in rs b) ≡ Some from → p.toward b ≡ from
  toward_named [] b from fits is = absurd cc
  toward_named (records.Sealed r ∷ rs) b from fits is = by (same r.me b) refl (toward_named rs b from fits.1) is
    where
      by : (here : Bool) → same r.me b ≡ here → (toward_in (sealed_in rs b) ≡ Some from → p.toward b ≡ from) → toward_in (if here then Some r else sealed_in rs b) ≡ Some from → p.toward b ≡ from
      by true me later found = (let both : Some (p.toward r.me) ≡ Some from = sym fits.0.3 ∙ found in let one : p.toward r.me ≡ from = cc in ap p.toward (sym (equal_from_same r.me b me)) ∙ one)
      by false me later found = later found
  toward_named (_ ∷ rs) b from fits is = toward_named rs b from fits.1 is

module _ (t : History) (whole : IsLawfulRun t) where
  abbrev p : Forest
  p = forest_of t

  abbrev Fit : List Happening → Type 0
  Fit hs = DisksFit p (f_at t hs)

  fit_on : (hs : List Happening) (h : Happening) (rest : List Happening) → hs ++ h ∷ rest ≡ t.trace → Fit hs → Fit (hs ++ h ∷ [])
  fit_on hs h rest is now =
      let writes : WritesInForest p t.places (f_at t hs) h
      = fact_at t.places t.commands (WritesInForest p t.places) (first_facts t.places) hs h rest (subst (λ xs. EachFactFrom (WritesInForest p t.places) t.places t.commands (first_facts t.places) xs) (sym is) (records_fit_forest t whole)) in
      subst (λ (f : Facts). DisksFit p f) (sym (one_on t hs h)) (disks_on p t.places t.commands (f_at t hs) h writes now)

  first_fit : Fit []
  unfolding facts_of
  first_fit n = first_disk (AllByRecursion (FitsForest p)) tt (tt, tt) t.places n

  -- toward of a branch, by the records of its node, is its neighbour on the way to the site
  pub toward_of_forest : (hs : List Happening) → Part t whole hs → (b from : BranchId) → toward_at (f_at t hs) b ≡ Some from → p.toward b ≡ from
  toward_of_forest hs part b from is = toward_named p (records_at (f_at t hs) b.node) b from (keep_on t whole Fit fit_on [] hs part first_fit b.node) is

  -- the rows of a node that is up, after some part of the run
  pub rows_fit : (hs : List Happening) → Part t whole hs → (n : ℕ) (k : NodeState) → node_at (f_at t hs) n ≡ Some k → AllByRecursion (λ s. RowFits p s.me s.toward) k.stored.durable.kept
  rows_fit hs part n k up =
      let node = node_so t.places t.commands t.of_a_script.each (f_at t hs) (e_at t hs) (run_stands (so_far t hs) (part_lawful t whole hs part)) n k up in
      rows_so (λ me parent kids toward. RowFits p me toward) (FitsForest p) (λ r fits. inl (fits.3, fits.0, fits.1)) (λ r fits. inr (refl, fits.0)) k (records_at (f_at t hs) n) node.stored (keep_on t whole Fit fit_on [] hs part first_fit n)
