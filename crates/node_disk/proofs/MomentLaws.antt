-- What a crash may leave, in weaker words, and of a disk that is left alone.
use Rattle.std.proofs.Common.{ℕ, List, inl, inr, sym, subst}
use Rattle.block_disk.specs.Images.{AtEachMoment, IsOnly}
use Rattle.redo_record.specs.declared.record.RedoRecord.{RedoRecord}
use Rattle.record_log.specs.Held.{HoldRecords}

module _ {D : Type 0} (moment : D → ℕ) (images_since : D → ℕ → List ℕ → Type 0) where
  -- what holds of each image holds of it in weaker words
  pub weaker : (old now : D) (P Q : List ℕ → Type 0) → AtEachMoment moment images_since old now P → ((image : List ℕ) → P image → Q image) → AtEachMoment moment images_since old now Q
  weaker old now P Q is follows = record {
    later = is.later;
    each = λ image since. follows image (is.each image since);
    earlier = λ m image le since. elim (is.earlier m image le since) [
      | inl before ↦ inl before
      | inr here ↦ inr (follows image here)
    ];
  }

  -- records that a disk holds which is left alone
  pub held_still : (disk : D) (images : List ℕ → Type 0) (content : List ℕ) → IsOnly content images → AtEachMoment moment images_since disk disk images
      → (rs : List RedoRecord) → HoldRecords rs content → AtEachMoment moment images_since disk disk (HoldRecords rs)
  held_still disk images content only own rs hold = weaker disk disk images (HoldRecords rs) own (λ image is. subst (HoldRecords rs) (sym (only image is)) hold)
