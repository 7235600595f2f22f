-- Nodes that differ in which rows are hidden alone write images that differ in that alone, at a checkpoint.
use Rattle.std.proofs.Common.{◌≡◌, ℕ, ◌+◌, Bool, true, false, if◌then◌else◌, List, [], ◌∷◌, map, fold, Option, Some, None, refl, sym, ap, subst, ◌∙◌, arith}
use Rattle.std.specs.Prelude.{sum_by, nat_lt}
use Rattle.dtx_values.specs.Limits.{image_limit}
use Rattle.redo_record.specs.Durable.{durable_after}
use Rattle.redo_record.specs.Kept.{kept_after}
use Rattle.node_rules.specs.Data.{BranchId, Doubt, Image, KeptItem, KeptRow, State, Toward}
use Rattle.node_rules.specs.Data.records
use Rattle.node_rules.specs.Data.states
use Rattle.node_rules.specs.Images.{toward_named, number_of, kept_item, image_at, item_bytes, image_bytes, images, checkpoint}
use Rattle.node_rules.specs.NodeState.{NodeState, TurnDraft, Stored, nothing}
use Rattle.node_rules.specs.Records.{applied}
use Rattle.node_purge_laws.specs.PurgeLaws.{row_as, RowsLike, rows_of, with_rows, IsLike, shown_item, written}
use Rattle.node_purge_laws.proofs.LikeLemmas.{DraftsLike}

-- Drafts that write the same, but for the hidden rows of an image.
pub record DraftsAlike (d other : TurnDraft) : Type 0 where
  pub wrote : written d.wrote ≡ written other.wrote
  pub says : d.says ≡ other.says
  pub ended : d.ended ≡ other.ended
  pub after : IsLike d.after other.after

pub drafts_alike : {d other : TurnDraft} → DraftsLike d other → DraftsAlike d other
drafts_alike same = record { wrote = ap written same.wrote; says = same.says; ended = same.ended; after = same.after }

-- ---- one row in an image

module _ (s : KeptRow) (h : Bool) where
  toward_same : (o : Option BranchId) → toward_named (row_as s h) o ≡ toward_named s o
  toward_same None = refl
  toward_same (Some b) = refl

  number_same : (st : State) → number_of (row_as s h) st ≡ number_of s st
  number_same states.Sealed = refl
  number_same states.Committed = refl
  number_same (states.ForcedCommit n) = refl
  number_same states.ForcedRollback = refl

  abbrev item_with : List Doubt → Option Toward → ℕ → KeptItem
  item_with ds t n = record (kept_item ds s) { toward = t; number = n; hidden = false }

  item_same : (ds : List Doubt) → shown_item (kept_item ds (row_as s h)) ≡ shown_item (kept_item ds s)
  item_same ds = ap (λ t. item_with ds t (number_of (row_as s h) s.state)) (toward_same s.toward) ∙ ap (item_with ds (toward_named s s.toward)) (number_same s.state)

-- ---- all rows

items_same : (ds : List Doubt) (xs ys : List KeptRow) → RowsLike xs ys → map shown_item (map (kept_item ds) ys) ≡ map shown_item (map (kept_item ds) xs)
items_same ds [] [] like = refl
items_same ds [] (y ∷ ys) like = absurd like
items_same ds (x ∷ xs) [] like = absurd like
items_same ds (x ∷ xs) (y ∷ ys) like =
    ap (λ z. shown_item (kept_item ds z) ∷ map shown_item (map (kept_item ds) ys)) like.0
    ∙ (ap (λ i. i ∷ map shown_item (map (kept_item ds) ys)) (item_same x y.hidden ds) ∙ ap (λ is. shown_item (kept_item ds x) ∷ is) (items_same ds xs ys like.1))

-- the bytes of an image do not hang on which rows are hidden
bytes_on : (n : ℕ) (xs : List KeptItem) → fold (λ a x. a + item_bytes x) n (map shown_item xs) ≡ fold (λ a x. a + item_bytes x) n xs
bytes_on n [] = refl
bytes_on n (x ∷ xs) = bytes_on (n + item_bytes x) xs

abbrev image_with : Stored → ℕ → List KeptItem → Image
image_with s clock items = record (image_at s clock) { kept = items }

bytes_with : (s : Stored) (clock : ℕ) (xs ys : List KeptItem) → map shown_item ys ≡ map shown_item xs → image_bytes (image_with s clock ys) ≡ image_bytes (image_with s clock xs)
bytes_with s clock xs ys same = (let sums : sum_by item_bytes ys ≡ sum_by item_bytes xs = sym (bytes_on 0 ys) ∙ (ap (sum_by item_bytes) same ∙ bytes_on 0 xs) in omega (arith, sums))

-- ---- a checkpoint

module _ (k : NodeState) (ks : List KeptRow) (like : RowsLike (rows_of k) ks) where
  abbrev other : NodeState
  other = with_rows k ks

  images_alike : DraftsAlike (images k) (images other)
  unfolding applied durable_after kept_after
  images_alike = record {
    wrote = ap (λ items. Some (records.Image (image_with k.stored k.clock items))) (sym (items_same k.stored.doubts (rows_of k) ks like));
    says = refl;
    ended = refl;
    after = record { same = refl; rows = like };
  }

  by_size : (q : Bool) → DraftsAlike (if q then nothing k else images k) (if q then nothing other else images other)
  by_size true = record { wrote = refl; says = refl; ended = refl; after = record { same = refl; rows = like } }
  by_size false = images_alike

  pub checkpoint_alike : DraftsAlike (checkpoint k) (checkpoint other)
  unfolding checkpoint
  checkpoint_alike =
      subst (λ n. DraftsAlike (checkpoint k) (if nat_lt image_limit n then nothing other else images other))
      (sym (bytes_with k.stored k.clock (map (kept_item k.stored.doubts) (rows_of k)) (map (kept_item k.stored.doubts) ks) (items_same k.stored.doubts (rows_of k) ks like)))
      (by_size (nat_lt image_limit (image_bytes (image_at k.stored k.clock))))
