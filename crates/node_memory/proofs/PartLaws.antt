-- The parts of memory after one more record.
use Rattle.std.proofs.Common.{◌≡◌, ℕ, List, Option, Some, None, refl, sym, ap, ◌∙◌}
use Rattle.catalog.specs.Catalog.{Listed}
use Rattle.row_store.specs.declared.pending.Doubt.{Doubt}
use Rattle.row_store.specs.Store.{Contents, held_back}
use Rattle.node_rules.specs.Data.{RedoRecord, KeptRow, Durable}
use Rattle.node_rules.specs.Data.records
use Rattle.node_rules.specs.Data.params
use Rattle.redo_record.specs.Durable.{durable_after}
use Rattle.redo_record.specs.Kept.{kept_after}
use Rattle.node_ready_laws.specs.Following.{listed_in}
use Rattle.node_rules.specs.NodeState.{NodeState}
use Rattle.node_memory.specs.After.{boot_after, strength_after, catalog_after, store_after, with_stored}
use Rattle.node_rules.specs.Records.{held_back as held_back_of, applied, scn_after, commit_of, top_by, generation_after}

-- what a branch in doubt holds back is the same to the store and to the rules
pub held_alike : (d : Option Doubt) → held_back d ≡ held_back_of d
held_alike None = refl
held_alike (Some d) = refl

-- what records leave of a node but its rows, by the parts of memory
abbrev pub durable_of : ℕ → Option ℕ → Listed → List KeptRow → Durable
durable_of boot strength c ks = record { boot = boot; recovery = c.recovery; tables = c.tables; links = c.links; synonyms = c.synonyms; kept = ks; strength = strength }

durable_by_parts : (d : Durable) (r : RedoRecord) → durable_after d r ≡ durable_of (boot_after d.boot r) (strength_after d.strength r) (catalog_after (listed_in d) r) (kept_after d.kept r)
unfolding durable_after kept_after
durable_by_parts d (records.Boot n) = refl
durable_by_parts d (records.Table t) = refl
durable_by_parts d (records.Link l) = refl
durable_by_parts d (records.Synonym y) = refl
durable_by_parts d (records.Param (params.Recovery on)) = refl
durable_by_parts d (records.Param (params.Strength strength)) = refl
durable_by_parts d (records.Sealed r) = refl
durable_by_parts d (records.Decided r) = refl
durable_by_parts d (records.Ended b o) = refl
durable_by_parts d (records.Forced b o given) = refl
durable_by_parts d (records.Met b o mixed) = refl
durable_by_parts d (records.Forgot b) = refl
durable_by_parts d (records.Hidden b) = refl
durable_by_parts d (records.Image i) = refl

-- the rows of a node, with so many undo extents
abbrev pub contents_in : NodeState → ℕ → Contents
contents_in k extents = record { rows = k.stored.rows; owns = k.owns; doubts = k.stored.doubts; extents = extents }

-- what a node keeps, with these parts
abbrev pub with_all : NodeState → ℕ → Option ℕ → Listed → Contents → ℕ → ℕ → ℕ → List KeptRow → NodeState
with_all k boot strength c t scn top generation ks =
    record k { stored = record { durable = durable_of boot strength c ks; rows = t.rows; doubts = t.doubts; scn = scn; top = top; generation = generation }; owns = t.owns }

-- when each part has the record, so has what is stored
pub applied_taken : (k : NodeState) (r : RedoRecord) (extents boot : ℕ) (strength : Option ℕ) (c : Listed) (t : Contents) (scn top generation : ℕ) (ks : List KeptRow)
    → boot ≡ boot_after k.stored.durable.boot r → strength ≡ strength_after k.stored.durable.strength r → c ≡ catalog_after (listed_in k.stored.durable) r
    → t ≡ store_after (contents_in k extents) r → scn ≡ scn_after k.stored.scn r → top ≡ top_by k.stored.top (commit_of k.stored.doubts r)
    → generation ≡ generation_after k.stored.generation r → ks ≡ kept_after k.stored.durable.kept r
    → with_all k boot strength c t scn top generation ks ≡ with_stored k (applied k.stored r) k.versions
unfolding applied
applied_taken k r extents boot strength c t scn top generation ks boots strengths lists stores numbers tops generations rows =
    let d = k.stored.durable in
    let s = store_after (contents_in k extents) r in
    let n = scn_after k.stored.scn r in
    let highest = top_by k.stored.top (commit_of k.stored.doubts r) in
    let images = generation_after k.stored.generation r in
    ap (λ x. with_all k x strength c t scn top generation ks) boots
    ∙ ap (λ x. with_all k (boot_after d.boot r) x c t scn top generation ks) strengths
    ∙ ap (λ x. with_all k (boot_after d.boot r) (strength_after d.strength r) x t scn top generation ks) lists
    ∙ ap (λ x. with_all k (boot_after d.boot r) (strength_after d.strength r) (catalog_after (listed_in d) r) x scn top generation ks) stores
    ∙ ap (λ x. with_all k (boot_after d.boot r) (strength_after d.strength r) (catalog_after (listed_in d) r) s x top generation ks) numbers
    ∙ ap (λ x. with_all k (boot_after d.boot r) (strength_after d.strength r) (catalog_after (listed_in d) r) s n x generation ks) tops
    ∙ ap (λ x. with_all k (boot_after d.boot r) (strength_after d.strength r) (catalog_after (listed_in d) r) s n highest x ks) generations
    ∙ ap (λ x. with_all k (boot_after d.boot r) (strength_after d.strength r) (catalog_after (listed_in d) r) s n highest images x) rows
    ∙ ap (λ x. with_stored k (record { durable = x; rows = s.rows; doubts = s.doubts; scn = n; top = highest; generation = images }) k.versions) (sym (durable_by_parts d r))
