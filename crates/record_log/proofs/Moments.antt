-- What a crash leaves of the records while one more is appended.
use Rattle.std.proofs.Common.{◌≡◌, inl, inr, ℕ, List}
use Rattle.block_disk.specs.Images.{AtEachMoment}
use Rattle.redo_record.specs.declared.record.RedoRecord.{RedoRecord}
use Rattle.redo_codec.specs.Record.{record_format}
use Rattle.redo_log.specs.Cells.{held}
use Rattle.redo_log.specs.Log.{HoldsWithOrWithout}
use Rattle.record_log.specs.Records.{IsSpelled}
use Rattle.record_log.specs.Held.{HoldRecords, HoldWithOrWithout}
use Rattle.record_log.proofs.Held.{holds_still, holds_more}

module _ {D : Type 0} (moment : D → ℕ) (images_since : D → ℕ → List ℕ → Type 0) where
  -- what holds of each image holds of it in weaker words
  weaker : (old now : D) (P Q : List ℕ → Type 0) → AtEachMoment moment images_since old now P → ((image : List ℕ) → P image → Q image) → AtEachMoment moment images_since old now Q
  weaker old now P Q is follows = record {
    later = is.later;
    each = λ image since. follows image (is.each image since);
    earlier = λ m image le since. elim (is.earlier m image le since) [
      | inl before ↦ inl before
      | inr here ↦ inr (follows image here)
    ];
  }

  -- the bodies from before, with one more or without it, are those of the records
  pub while_appended : (old now : D) (rs : List RedoRecord) (r : RedoRecord) (body before : List ℕ) → IsSpelled r → body ≡ record_format.text r → HoldRecords rs before
      → AtEachMoment moment images_since old now (HoldsWithOrWithout (held before) body) → AtEachMoment moment images_since old now (HoldWithOrWithout rs r)
  while_appended old now rs r body before spelled is hold so_far =
      weaker old now (HoldsWithOrWithout (held before) body) (HoldWithOrWithout rs r) so_far (λ image may. elim may [
        | inl as_before ↦ inl (holds_still rs before image hold as_before)
        | inr one_more ↦ inr (holds_more rs r body before image spelled is hold one_more)
      ])
