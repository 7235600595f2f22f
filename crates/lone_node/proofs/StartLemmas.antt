-- A node of a test starts from records with low numbers.
use Rattle.std.proofs.Common.{◌≡◌, ℕ, zero, suc, ◌+◌, ◌^◌, ◌<◌, ◌≤◌, ◌&&◌, not, true, false, List, [], ◌∷◌, ◌++◌, replicate, sym, subst, arith}
use Rattle.std.specs.Prelude.{nat_lt}
use Rattle.std.specs.List.{AllByRecursion, list_all}
use Rattle.std.proofs.lemmas.Bool.{and_parts}
use Rattle.std.proofs.lemmas.Bool.Decides.{nat_tests}
use Rattle.block_disk.specs.MemDisk.{DiskState}
use Rattle.node_spell_laws.specs.Bytes.{NamesTable, StartsKeepBytes}
use Rattle.node_disk.specs.OnDisk.{disk_of, kept_of, place_of, IsRunning}
use Rattle.node_disk.specs.Starts.{CanBeStarted, last_boot, next_boot}
use Rattle.node_disk.specs.declared.node.Node.{Node}
use Rattle.lone_node.specs.Played.{low_limit, bytes_of, images_of, IsKeptWithin, IsAlone, IsSmallPlace, scn_in, boot_in, is_synonym, is_low, IsLow}
use Rattle.node_rules.specs.Data.{RedoRecord, Place}
use Rattle.node_rules.specs.Data.decisions
use Rattle.node_rules.specs.Data.params
use Rattle.node_rules.specs.Data.records
use Rattle.node_rules.specs.NodeState.{NodeState, Stored}
use Rattle.node_rules.specs.declared.session.Session.{Session}
use Rattle.node_rules.specs.Records.{nothing_stored, applied, stored_by}
use Rattle.node_rules.specs.Sessions.{fresh_session}
use Rattle.node_rules.specs.Turn.{made, start_of}
use Rattle.node_ready_laws.specs.Ready.{IsReady}
use Rattle.node_undo_laws.specs.Kept.{HasUndo}
use Rattle.node_ready_laws.proofs.ListLemmas.{all_last, all_weaker}
use Rattle.record_log.specs.Held.{HoldRecords, HoldOneList}
use Rattle.redo_record.specs.Durable.{durable_after}

-- ---- low records

abbrev IsScnLow : RedoRecord → Type 0
IsScnLow r = scn_in r ≤ low_limit

abbrev IsBootLow : RedoRecord → Type 0
IsBootLow r = boot_in r ≤ low_limit

names_table : (r : RedoRecord) → not (is_synonym r) ≡ true → NamesTable r
names_table (records.Synonym y) is = absurd cc
names_table _ is = tt

one_low : (r : RedoRecord) → is_low r ≡ true → IsLow r
unfolding is_low
one_low r is =
    let parts = and_parts (not (is_synonym r)) (nat_lt (scn_in r) 1001 && nat_lt (boot_in r) 1001) is in
    let numbers = and_parts (nat_lt (scn_in r) 1001) (nat_lt (boot_in r) 1001) parts.1 in
    let scn : scn_in r < 1001 = grind (arith, nat_tests, numbers.0) in
    let boot : boot_in r < 1001 = grind (arith, nat_tests, numbers.1) in
    record { names = names_table r parts.0; scn = omega (arith, scn); boot = omega (arith, boot) }

pub all_low : (rs : List RedoRecord) → list_all is_low rs ≡ true → AllByRecursion IsLow rs
all_low [] all = tt
all_low (r ∷ rs) all = let parts = and_parts (is_low r) (list_all is_low rs) all in (one_low r parts.0, all_low rs parts.1)

-- ---- what they store

scn_low : (s : Stored) (r : RedoRecord) → s.scn ≤ low_limit → IsScnLow r → (applied s r).scn ≤ low_limit
unfolding applied
scn_low s (records.Sealed r) now low = omega (arith, now, low)
scn_low s (records.Decided r) now low = omega (arith, now, low)
scn_low s (records.Ended b (decisions.Commit n)) now low = omega (arith, now, low)
scn_low s (records.Ended b decisions.Rollback) now low = now
scn_low s (records.Met b (decisions.Commit n) mixed) now low = omega (arith, now, low)
scn_low s (records.Met b decisions.Rollback mixed) now low = now
scn_low s (records.Forced b d true) now low = now
scn_low s (records.Forced b (decisions.Commit n) false) now low = omega (arith, now, low)
scn_low s (records.Forced b decisions.Rollback false) now low = now
scn_low s (records.Image i) now low = omega (arith, now, low)
scn_low s _ now low = now

scns_low : (s : Stored) (rs : List RedoRecord) → s.scn ≤ low_limit → AllByRecursion IsScnLow rs → (stored_by s rs).scn ≤ low_limit
unfolding stored_by
scns_low s [] now all = now
scns_low s (r ∷ rs) now all = scns_low (applied s r) rs (scn_low s r now all.0) all.1

boot_low : (s : Stored) (r : RedoRecord) → s.durable.boot ≤ low_limit → IsBootLow r → (applied s r).durable.boot ≤ low_limit
unfolding applied durable_after
boot_low s (records.Boot n) now low = low
boot_low s (records.Table t) now low = now
boot_low s (records.Link l) now low = now
boot_low s (records.Synonym y) now low = now
boot_low s (records.Param (params.Recovery on)) now low = now
boot_low s (records.Param (params.Strength n)) now low = now
boot_low s _ now low = now

boots_low : (s : Stored) (rs : List RedoRecord) → s.durable.boot ≤ low_limit → AllByRecursion IsBootLow rs → (stored_by s rs).durable.boot ≤ low_limit
unfolding stored_by
boots_low s [] now all = now
boots_low s (r ∷ rs) now all = boots_low (applied s r) rs (boot_low s r now all.0) all.1

low_boot_of : (rs : List RedoRecord) → AllByRecursion IsLow rs → last_boot rs ≤ low_limit
low_boot_of rs all = boots_low nothing_stored rs (omega arith) (all_weaker IsLow IsBootLow (λ r low. low.boot) rs all)

pub boots_few : HoldOneList → (rs : List RedoRecord) (disk : DiskState) → HoldRecords rs (bytes_of disk) → AllByRecursion IsLow rs → (qs : List RedoRecord) → HoldRecords qs (bytes_of disk) → last_boot qs + 1 < 2 ^ 32
boots_few one rs disk held low qs also = subst (λ (x : List RedoRecord). last_boot x + 1 < 2 ^ 32) (one (bytes_of disk) rs qs held also) (let last = low_boot_of rs low in omega (arith, last))

-- ---- a start

all_fresh : (n : ℕ) → AllByRecursion (λ (s : Session). s.seq ≤ low_limit) (replicate n fresh_session)
all_fresh zero = tt
all_fresh (suc n) = (omega arith, all_fresh n)

start_kept : StartsKeepBytes → (p : Place) (rs : List RedoRecord) → AllByRecursion NamesTable rs → AllByRecursion IsScnLow rs → IsSmallPlace p → IsReady p (start_of rs) → HasUndo p (start_of rs) → IsKeptWithin low_limit p (start_of rs)
unfolding start_of
start_kept law p rs names scns small ready undo = record {
  ready = ready;
  undo = undo;
  bytes = law rs names;
  within = record { clock = scns_low nothing_stored rs (omega arith) scns; opens = omega arith; seqs = all_fresh 64; calls = tt };
  low = omega arith;
  nodes = small.nodes;
  links = small.links;
  extents = small.extents;
}

kept_at : (p : Place) (k : NodeState) (node : Node DiskState) → kept_of node ≡ k → place_of node ≡ p → IsKeptWithin low_limit p k → IsKeptWithin low_limit (place_of node) (kept_of node)
kept_at p k node is there kept = subst (λ (q : Place). IsKeptWithin low_limit q (kept_of node)) (sym there) (subst (λ (x : NodeState). IsKeptWithin low_limit p x) (sym is) kept)

ready_at : (p : Place) (k : NodeState) (node : Node DiskState) → kept_of node ≡ k → place_of node ≡ p → IsReady (place_of node) (kept_of node) → IsReady p k
ready_at p k node is there ready = subst (λ (q : Place). IsReady q k) there (subst (λ (x : NodeState). IsReady (place_of node) x) is ready)

undo_at : (p : Place) (k : NodeState) (node : Node DiskState) → kept_of node ≡ k → place_of node ≡ p → HasUndo (place_of node) (kept_of node) → HasUndo p k
undo_at p k node is there undo = subst (λ (q : Place). HasUndo q k) there (subst (λ (x : NodeState). HasUndo (place_of node) x) is undo)

alone_by : StartsKeepBytes → (p : Place) (rs : List RedoRecord) (node : Node DiskState) → AllByRecursion NamesTable rs → AllByRecursion IsScnLow rs → IsSmallPlace p → kept_of node ≡ start_of rs → place_of node ≡ p
    → IsRunning bytes_of images_of node → IsReady (place_of node) (kept_of node) → HasUndo (place_of node) (kept_of node) → CanBeStarted p.undo bytes_of images_of (disk_of node) → IsAlone low_limit node
alone_by law p rs node names scns small is there running ready undo starts = record {
  running = running;
  kept = kept_at p (start_of rs) node is there (start_kept law p rs names scns small (ready_at p (start_of rs) node is there ready) (undo_at p (start_of rs) node is there undo));
  starts = subst (λ (n : ℕ). CanBeStarted n bytes_of images_of (disk_of node)) small.extents starts;
}

pub made_alone : StartsKeepBytes → (p : Place) (node : Node DiskState) → IsSmallPlace p → kept_of node ≡ made → place_of node ≡ p → IsRunning bytes_of images_of node → IsReady (place_of node) (kept_of node)
    → HasUndo (place_of node) (kept_of node) → CanBeStarted p.undo bytes_of images_of (disk_of node) → IsAlone low_limit node
made_alone law p node small is there running ready undo starts = alone_by law p (records.Boot 1 ∷ []) node (tt, tt) (omega arith, tt) small is there running ready undo starts

pub started_alone : StartsKeepBytes → (p : Place) (rs : List RedoRecord) (node : Node DiskState) → AllByRecursion IsLow rs → IsSmallPlace p → kept_of node ≡ start_of (rs ++ next_boot rs ∷ []) → place_of node ≡ p
    → IsRunning bytes_of images_of node → IsReady (place_of node) (kept_of node) → HasUndo (place_of node) (kept_of node) → CanBeStarted p.undo bytes_of images_of (disk_of node) → IsAlone low_limit node
started_alone law p rs node low small is there running ready undo starts =
    alone_by law p (rs ++ next_boot rs ∷ []) node
    (all_last NamesTable rs (next_boot rs) (all_weaker IsLow NamesTable (λ r at. at.names) rs low) tt)
    (all_last IsScnLow rs (next_boot rs) (all_weaker IsLow IsScnLow (λ r at. at.scn) rs low) (omega arith))
    small is there running ready undo starts
