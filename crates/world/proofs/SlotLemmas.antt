-- Sites stay as they are where a happening touches neither nodes nor records.
use Rattle.std.proofs.Common.{◌≡◌, ◌≢◌, ◌⊎◌, inl, inr, ◌==◌, ◌≤◌, ◌<◌, ◌-◌, Bool, true, false, true≢false, ℕ, zero, suc, List, length, get_or, slice_get, slice_set, unwrap_or, Option, Some, None, refl, sym, ap, subst, ◌∙◌, arith}
use Rattle.std.proofs.lemmas.Bool.{eq-eqb, eqb-true}
use Rattle.std.proofs.lemmas.Option.{slice_get_read}
use Rattle.tran_ids.proofs.NumberedLemmas.{set_found, set_leaves}
use Rattle.record_log.specs.Held.{HoldRecords}
use Rattle.node_rules.specs.Data.{Place, RedoRecord}
use Rattle.node_rules.specs.Words.{numbered, set_numbered}
use Rattle.run_rules.specs.Facts.{no_place, place_at, records_at}
use Rattle.run_rules.specs.RunReport.{Past}
use Rattle.world.specs.declared.slot.NodeSlot.{NodeSlot}
use Rattle.world.specs.declared.slot.NodeSlot.TheVariants.{Up, Down}
use Rattle.world.specs.NodeSlot.{SiteIs, SitesAre, OtherSitesAre, RunsAt, up_at, site_disk, site_kept, bytes_of}

-- what a happening leaves of the sites, where it touches none
pub record Stays (p q : Past) : Type 0 where
  pub nodes : q.facts.nodes ≡ p.facts.nodes
  pub records : q.facts.records ≡ p.facts.records
  pub to_stop : q.run_report.start_to_stop ≡ p.run_report.start_to_stop

pub sites_stay : (places : List Place) (p q : Past) (slots : List NodeSlot) → Stays p q → SitesAre places p slots → SitesAre places q slots
sites_stay places p q slots stays are n slot there =
    let is = are n slot there in
    record {
      kept = rw (stays.nodes, stays.to_stop) is.kept;
      runs = is.runs;
      holds = rw (stays.records) is.holds;
      starts = is.starts;
    }

-- two numbers are the same or not
pub same_or : (n m : ℕ) → (n ≡ m) ⊎ (n ≢ m)
same_or n m = by (n == m) refl
  where
    by : (b : Bool) → (n == m) ≡ b → (n ≡ m) ⊎ (n ≢ m)
    by true is = inl (eqb-true n m is)
    by false is = inr (λ same. true≢false (sym (eq-eqb n m same) ∙ is))

-- what a happening leaves at a node that it does not touch
pub record SameAt (p q : Past) (m : ℕ) : Type 0 where
  pub kept : up_at q m ≡ up_at p m
  pub records : records_at q.facts m ≡ records_at p.facts m

pub same_of : {A : Type 0} (a b : A) → Some a ≡ Some b → a ≡ b
same_of a b is = cc

module _ (places : List Place) (p q : Past) (n : ℕ) (stays : (m : ℕ) → n ≢ m → SameAt p q m) where
  -- sites that are as they were
  pub others_stay : (slots : List NodeSlot) → OtherSitesAre n places p slots → OtherSitesAre n places q slots
  others_stay slots others m slot other there =
      let is : SiteIs places p m slot = others m slot other there in
      let same : SameAt p q m = stays m other in
      record {
        kept = is.kept ∙ sym same.kept;
        runs = is.runs;
        holds = subst (λ (rs : List RedoRecord). HoldRecords rs (bytes_of (site_disk slot))) (sym same.records) is.holds;
        starts = is.starts;
      }

  -- one site is another, and the others are as they were
  pub site_set : (slots : List NodeSlot) (old new : NodeSlot) → numbered slots n ≡ Some old → SiteIs places q n new → OtherSitesAre n places p slots → SitesAre places q (set_numbered slots n new)
  site_set slots old new there here others m slot found = by (same_or n m)
    where
      by : (n ≡ m) ⊎ (n ≢ m) → SiteIs places q m slot
      by (inl same) =
          let at : numbered (set_numbered slots n new) n ≡ Some slot = subst (λ (k : ℕ). numbered (set_numbered slots n new) k ≡ Some slot) (sym same) found in
          subst (λ (k : ℕ). SiteIs places q k slot) same (subst (λ (s : NodeSlot). SiteIs places q n s) (same_of new slot (sym (set_found slots n old new there) ∙ at)) here)
      by (inr other) = others_stay slots others m slot other (sym (set_leaves slots n m new other) ∙ found)

-- a node that is down runs at any place
pub down_runs : (place : Place) (slot : NodeSlot) → site_kept slot ≡ None → RunsAt place slot
down_runs place (Up node) none = absurd cc
down_runs place (Down disk) none = tt

-- an item set at a place is one set at its number
pub set_at : {A : Type 0} (xs : List A) (n : ℕ) (x : A) → 1 ≤ n → slice_set xs (n - 1) x ≡ set_numbered xs n x
set_at xs zero x low = absurd (omega arith)
set_at xs (suc i) x low = let is : suc i - 1 ≡ i = omega arith in rw is refl

pub get_at : {A : Type 0} (xs : List A) (n : ℕ) → 1 ≤ n → slice_get xs (n - 1) ≡ numbered xs n
get_at xs zero low = absurd (omega arith)
get_at xs (suc i) low = let is : suc i - 1 ≡ i = omega arith in rw is refl

-- the place that is read at a node's number
pub place_is : (places : List Place) (n : ℕ) (x : Place) → 1 ≤ n → n ≤ length places → x ≡ get_or places (n - 1) x → place_at places n ≡ x
place_is places n x low high is =
    let inside : n - 1 < length places = omega arith in
    ap (λ (o : Option Place). unwrap_or o no_place) (sym (get_at places n low) ∙ slice_get_read places (length places) (n - 1) x refl inside is)

-- the item that is read at a number is there
pub read_at : {A : Type 0} (xs : List A) (n : ℕ) (x : A) → 1 ≤ n → n ≤ length xs → x ≡ get_or xs (n - 1) x → numbered xs n ≡ Some x
read_at xs n x low high is =
    let inside : n - 1 < length xs = omega arith in
    sym (get_at xs n low) ∙ slice_get_read xs (length xs) (n - 1) x refl inside is

-- sites that are, one and the others
pub own_and_others : (places : List Place) (p : Past) (n : ℕ) (slots : List NodeSlot) → ((slot : NodeSlot) → numbered slots n ≡ Some slot → SiteIs places p n slot) → OtherSitesAre n places p slots → SitesAre places p slots
own_and_others places p n slots own others m slot found = by (same_or n m)
  where
    by : (n ≡ m) ⊎ (n ≢ m) → SiteIs places p m slot
    by (inl same) = subst (λ (k : ℕ). SiteIs places p k slot) same (own slot (subst (λ (k : ℕ). numbered slots k ≡ Some slot) (sym same) found))
    by (inr other) = others m slot other found
