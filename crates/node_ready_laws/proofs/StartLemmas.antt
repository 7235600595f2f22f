-- What records make of nothing is fit for a start.
use Rattle.std.proofs.Common.{ℕ, ◌<◌, ◌≤◌, List, [], ◌∷◌, ◌++◌, refl, sym, subst, arith}
use Rattle.std.specs.List.{AllByRecursion}
use Rattle.std.proofs.lemmas.Bool.{cond_both}
use Rattle.redo_record.specs.Durable.{durable_after}
use Rattle.redo_record.specs.Kept.{kept_after, add_kept}
use Rattle.redo_record.specs.Rows.{sealed_as, decided_as, has_neighbors}
use Rattle.node_rules.specs.Data.{RedoRecord, KeptRow, Doubt, Place}
use Rattle.node_rules.specs.Data.records
use Rattle.node_rules.specs.NodeState.{Stored, kept_row_id, doubt_id}
use Rattle.node_rules.specs.Records.{nothing_stored, doubts_after, applied, stored_by, versions_read, versions_in}
use Rattle.node_rules.specs.Turn.{start_of, kept_by}
use Rattle.node_rules.proofs.LiveLemmas.{none_live}
use Rattle.node_ready_laws.specs.Rows.{AreRows}
use Rattle.node_ready_laws.specs.Shapes.{IsShaped}
use Rattle.node_ready_laws.specs.Ids.{Before_start}
use Rattle.node_ready_laws.specs.Following.{MayFollow, MayAllFollow}
use Rattle.node_ready_laws.specs.Sound.{IsSound, AreSound}
use Rattle.node_ready_laws.specs.Ready.{IsReady, StartsAreReady}
use Rattle.node_ready_laws.proofs.ListLemmas.{all_weaker, all_placed}
use Rattle.node_ready_laws.specs.Names.{AreNamed}
use Rattle.node_ready_laws.proofs.NameLemmas.{KeepsNames, names_after}
use Rattle.node_ready_laws.proofs.RecordLemmas.{KeepsRows}
use Rattle.node_ready_laws.proofs.RecordIdLemmas.{AddsNone, boot_still, rows_among, doubts_among}
use Rattle.node_ready_laws.proofs.VersionLemmas.{rows_read_back}
use Rattle.read_only_tx.specs.Versions.{Versions, versions_from}

-- the branches of these are of starts up to this one
abbrev Rows_to : ℕ → List KeptRow → Type 0
Rows_to n kept = AllByRecursion (λ s. s.me.boot ≤ n) kept

abbrev Doubts_to : ℕ → List Doubt → Type 0
Doubts_to n doubts = AllByRecursion (λ d. d.branch.boot ≤ n) doubts

-- What is stored where all nodes are down.
record Is_left (s : Stored) (vs : Versions) : Type 0 where
  rows : AreRows s.durable.tables s.rows [] s.doubts vs.kept
  names : AreNamed s.durable.links s.durable.synonyms
  kept : Rows_to s.durable.boot s.durable.kept
  doubts : Doubts_to s.durable.boot s.doubts

-- a record that is sound keeps rows of their tables
keeps : (s : Stored) (r : RedoRecord) → MayFollow s r → IsSound s r → KeepsRows s r
keeps s (records.Table t) may sound = (sound, may.listed)
keeps s (records.Sealed r) may sound = sound.0
keeps s (records.Decided r) may sound = sound.0
keeps s _ may sound = tt

-- and names of links and synonyms
names_kept : (s : Stored) (r : RedoRecord) → IsSound s r → KeepsNames r
names_kept s (records.Link l) sound = sound
names_kept s (records.Synonym y) sound = sound
names_kept s _ sound = tt

-- a record by which no branch is kept
none_left : (s : Stored) (vs : Versions) (r : RedoRecord) → MayFollow s r → IsSound s r → AddsNone r → Is_left s vs → Is_left (applied s r) (versions_read s vs r)
unfolding applied
none_left s vs r may sound none now = record {
  rows = rows_read_back s [] vs r now.rows (keeps s r may sound);
  names = names_after s.durable r (names_kept s r sound) now.names;
  kept = subst (λ n. Rows_to n (durable_after s.durable r).kept) (sym (boot_still s.durable r none)) (rows_among s.durable r none (λ b. b.boot ≤ s.durable.boot) now.kept);
  doubts = subst (λ n. Doubts_to n (doubts_after s.rows s.doubts r)) (sym (boot_still s.durable r none)) (doubts_among s.rows s.doubts r none (λ b. b.boot ≤ s.durable.boot) now.doubts);
}

-- any record
left_with : (s : Stored) (vs : Versions) (r : RedoRecord) → MayFollow s r → IsSound s r → Is_left s vs → Is_left (applied s r) (versions_read s vs r)
unfolding applied durable_after kept_after
left_with s vs (records.Boot boot) may sound now = record {
  rows = now.rows;
  names = now.names;
  kept = all_weaker (λ x. x.me.boot ≤ s.durable.boot) (λ x. x.me.boot ≤ boot) (λ x old. omega (arith, old, sound)) s.durable.kept now.kept;
  doubts = all_weaker (λ d. d.branch.boot ≤ s.durable.boot) (λ d. d.branch.boot ≤ boot) (λ d old. omega (arith, old, sound)) s.doubts now.doubts;
}
left_with s vs (records.Sealed r) may sound now = record {
  rows = rows_read_back s [] vs (records.Sealed r) now.rows sound.0;
  names = now.names;
  kept = all_placed (λ x. x.me.boot ≤ s.durable.boot) kept_row_id s.durable.kept (sealed_as r) now.kept sound.1;
  doubts = all_placed (λ d. d.branch.boot ≤ s.durable.boot) doubt_id s.doubts _ now.doubts sound.1;
}
left_with s vs (records.Decided r) may sound now = record {
  rows = rows_read_back s [] vs (records.Decided r) now.rows sound.0;
  names = now.names;
  kept = cond_both (has_neighbors (decided_as r)) (add_kept s.durable.kept (decided_as r)) s.durable.kept (Rows_to s.durable.boot)
      (λ some. all_placed (λ x. x.me.boot ≤ s.durable.boot) kept_row_id s.durable.kept (decided_as r) now.kept sound.1) (λ none. now.kept);
  doubts = now.doubts;
}
left_with s vs (records.Table t) may sound now = none_left s vs (records.Table t) may sound tt now
left_with s vs (records.Link l) may sound now = none_left s vs (records.Link l) may sound tt now
left_with s vs (records.Synonym y) may sound now = none_left s vs (records.Synonym y) may sound tt now
left_with s vs (records.Param setting) may sound now = none_left s vs (records.Param setting) may sound tt now
left_with s vs (records.Ended b d) may sound now = none_left s vs (records.Ended b d) may sound tt now
left_with s vs (records.Forced b d given) may sound now = none_left s vs (records.Forced b d given) may sound tt now
left_with s vs (records.Met b d mixed) may sound now = none_left s vs (records.Met b d mixed) may sound tt now
left_with s vs (records.Forgot b) may sound now = none_left s vs (records.Forgot b) may sound tt now
left_with s vs (records.Hidden b) may sound now = none_left s vs (records.Hidden b) may sound tt now
left_with s vs (records.Image i) may sound now = none_left s vs (records.Image i) may sound tt now

-- What is stored at a start: all branches are of earlier ones.
record Is_started (s : Stored) (vs : Versions) : Type 0 where
  rows : AreRows s.durable.tables s.rows [] s.doubts vs.kept
  names : AreNamed s.durable.links s.durable.synonyms
  kept : AllByRecursion (λ x. x.me.boot < s.durable.boot) s.durable.kept
  doubts : AllByRecursion (λ d. d.branch.boot < s.durable.boot) s.doubts

started_by : (s : Stored) (vs : Versions) (rs : List RedoRecord) (boot : ℕ) → MayAllFollow s rs → AreSound s rs → IsSound (stored_by s rs) (records.Boot boot) → Is_left s vs
    → Is_started (stored_by s (rs ++ records.Boot boot ∷ [])) (versions_in s vs (rs ++ records.Boot boot ∷ []))
unfolding stored_by applied durable_after MayAllFollow AreSound
started_by s vs [] boot may sound next now = record {
  rows = now.rows;
  names = now.names;
  kept = all_weaker (λ x. x.me.boot ≤ s.durable.boot) (λ x. x.me.boot < boot) (λ x old. omega (arith, old, next)) s.durable.kept now.kept;
  doubts = all_weaker (λ d. d.branch.boot ≤ s.durable.boot) (λ d. d.branch.boot < boot) (λ d old. omega (arith, old, next)) s.doubts now.doubts;
}
started_by s vs (r ∷ rs) boot may sound next now = started_by (applied s r) (versions_read s vs r) rs boot may.1 sound.1 next (left_with s vs r may.0 sound.0 now)

none_there : Is_left nothing_stored (versions_from 0)
none_there = record { rows = record { whole = tt; own_names = tt; fit = tt; names = refl; own = tt; held_back = tt; behind = tt }; names = record { links = tt; synonyms = tt }; kept = tt; doubts = tt }

ready_by : (p : Place) (s : Stored) (vs : Versions) → Is_started s vs → IsReady p (kept_by s vs)
ready_by p s vs now = record {
  rows = record { whole = now.rows.whole; own_names = now.rows.own_names; fit = now.rows.fit; names = now.rows.names; own = tt; held_back = now.rows.held_back; behind = now.rows.behind };
  names = now.names;
  shape = none_live (IsShaped p.links);
  ids = record {
    sessions = refl;
    live_given = tt;
    kept_given = all_weaker (λ x. x.me.boot < s.durable.boot) _ (λ x old. Before_start old) s.durable.kept now.kept;
    doubts_given = all_weaker (λ d. d.branch.boot < s.durable.boot) _ (λ d old. Before_start old) s.doubts now.doubts;
    free = tt;
  };
}

pub starts_are_ready : StartsAreReady
unfolding start_of
starts_are_ready p rs boot may sound next = ready_by p _ _ (started_by nothing_stored (versions_from 0) rs boot may sound next none_there)
