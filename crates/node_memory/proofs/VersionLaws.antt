-- The commits that a node keeps, as its memory makes them.
use Rattle.std.proofs.Common.{◌≡◌, ℕ, zero, suc, ◌+◌, ◌<◌, drop, true, false, if◌then◌else◌, List, [], ◌∷◌, length, max, slice_index_or, true≢false, Option, Some, None, refl, sym, ap, ◌∙◌, arith}
use Rattle.std.specs.Prelude.{◌==◌, nat_lt}
use Rattle.std.specs.List.{remove}
use Rattle.std.proofs.lemmas.Bool.Decides.{nat_tests}
use Rattle.dtx_values.specs.Limits.{version_limit}
use Rattle.dtx_values.specs.declared.row.Change.{Change}
use Rattle.row_store.specs.declared.pending.Doubt.{Doubt}
use Rattle.row_store.specs.Tables.{TableRows}
use Rattle.sql_eval.specs.declared.keyed.Keyed.{Keyed}
use Rattle.sql_eval.specs.Rows.{apply}
use Rattle.read_only_tx.specs.Versions.{Version, Versions, versions_from, version_over, newest}
use Rattle.node_rules.specs.Data.{Image}
use Rattle.node_rules.specs.Data.records
use Rattle.node_rules.specs.Records.{Commit, raised_to, versions_by}
use Rattle.node_memory.specs.Versions.{with_version, version_changing, version_made, versions_read_over, undone_in}

version_kept : (rows : List TableRows) (vs : Versions) (scn : ℕ) (cs : List Change) → with_version vs (version_changing rows scn cs) ≡ versions_by rows vs (Some (record { scn = scn; changes = cs }))
version_kept rows vs scn [] = refl
version_kept rows vs scn (c ∷ cs) = refl

-- the commits with the one that a record makes
pub versions_so : (rows : List TableRows) (vs : Versions) (c : Option Commit) → with_version vs (version_made rows c) ≡ versions_by rows vs c
versions_so rows vs None = refl
versions_so rows vs (Some c) = version_kept rows vs c.scn c.changes

pub none_changing : (rows : List TableRows) (scn : ℕ) (cs : List Change) → (length cs == 0) ≡ true → None ≡ version_changing rows scn cs
none_changing rows scn [] none = refl
none_changing rows scn (c ∷ cs) none = absurd (grind (arith, nat_tests, none))

pub some_changing : (rows : List TableRows) (scn : ℕ) (cs : List Change) → (length cs == 0) ≡ false → Some (version_over rows scn cs) ≡ version_changing rows scn cs
some_changing rows scn [] some = absurd cc
some_changing rows scn (c ∷ cs) some = refl

-- the greatest SCN of a commit that changed rows
pub none_raised : (top scn : ℕ) (cs : List Change) → (length cs == 0) ≡ true → top ≡ raised_to top scn cs
none_raised top scn [] none = refl
none_raised top scn (c ∷ cs) none = absurd (grind (arith, nat_tests, none))

pub some_raised : (top scn : ℕ) (cs : List Change) → (length cs == 0) ≡ false → max top scn ≡ raised_to top scn cs
some_raised top scn [] some = absurd cc
some_raised top scn (c ∷ cs) some = refl

-- what an image says in a start
pub versions_read_so : (rows : List TableRows) (ds : List Doubt) (vs : Versions) (i : Image) → versions_from i.top ≡ versions_read_over rows ds vs (records.Image i)
versions_read_so rows ds vs i = refl

-- ---- without the oldest

-- where there are few, all are kept
pub all_kept : (vs : List Version) (floor : ℕ) → nat_lt version_limit (length vs) ≡ false → newest vs floor ≡ record { kept = vs; floor = floor }
all_kept [] floor few = refl
all_kept (v ∷ vs) floor few = ap (λ many. if many then newest vs (max floor v.scn) else record { kept = v ∷ vs; floor = floor }) few

-- where there are too many, the oldest goes
pub oldest_gone : (vs : List Version) (v : Version) (floor : ℕ) → v ≡ slice_index_or vs 0 v → nat_lt version_limit (length vs) ≡ true → newest (remove vs 0) (max floor v.scn) ≡ newest vs floor
oldest_gone [] v floor is many = absurd (true≢false (sym many))
oldest_gone (x ∷ xs) v floor is many =
    ap (λ (w : Version). newest xs (max floor w.scn)) is ∙ sym (ap (λ more. if more then newest xs (max floor x.scn) else record { kept = x ∷ xs; floor = floor }) many)

-- ---- rows at an SCN

-- the rows before one commit more
pub one_undone : (table : List ℕ) (rows : List Keyed) (vs : List Version) (i j : ℕ) (v : Version) → j ≡ i + 1 → i < length vs → v ≡ slice_index_or vs i v → undone_in table rows (drop i vs) ≡ apply table (undone_in table rows (drop j vs)) v.before
one_undone table rows [] i j v next low is = absurd (omega (arith, low))
one_undone table rows (x ∷ vs) zero j v next low is = ap (λ n. apply table (undone_in table rows (drop n (x ∷ vs))) x.before) (sym next) ∙ ap (λ (y : Version). apply table (undone_in table rows (drop j (x ∷ vs))) y.before) (sym is)
one_undone table rows (x ∷ vs) (suc i) j v next low is =
    let at : j ≡ suc (i + 1) = omega (arith, next) in
    one_undone table rows vs i (i + 1) v refl (omega (arith, low)) is ∙ ap (λ n. apply table (undone_in table rows (drop n (x ∷ vs))) v.before) (sym at)
