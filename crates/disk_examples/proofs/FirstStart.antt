-- A disk that ends in a gate that is not open behind the record of the first start.
use Rattle.std.proofs.Common.{◌≡◌, ◌≢◌, ℕ, ◌<◌, ◌^◌, List, [], ◌∷◌, refl, arith}
use Rattle.redo_record.specs.declared.record.RedoRecord.{RedoRecord}
use Rattle.redo_record.specs.declared.record.RedoRecord.TheVariants as records
use Rattle.redo_codec.specs.Record.{record_format}
use Rattle.redo_log.proofs.Settled.{is_log, log_holds}
use Rattle.record_log.specs.Records.{IsSpelled, bodies_of}
use Rattle.record_log.specs.Held.{HoldRecords}

abbrev pub first_start : List RedoRecord
first_start = records.Boot 1 ∷ []

pub boot_fits : (n : ℕ) → n < 2 ^ 32 → record_format.Fits (records.Boot n)
boot_fits n low = (tt, low)

boot_spelled : (n : ℕ) → n < 2 ^ 32 → IsSpelled (records.Boot n)
boot_spelled n low = record { fits = boot_fits n low; short = omega arith }

pub holds_first : (gate : ℕ) (behind : List ℕ) → gate ≢ 1 → HoldRecords first_start (1 ∷ 0 ∷ 0 ∷ 0 ∷ 6 ∷ 1 ∷ 1 ∷ 0 ∷ 0 ∷ 0 ∷ 1 ∷ gate ∷ behind)
holds_first gate behind closed =
    let bytes : List ℕ = 1 ∷ 0 ∷ 0 ∷ 0 ∷ 6 ∷ 1 ∷ 1 ∷ 0 ∷ 0 ∷ 0 ∷ 1 ∷ gate ∷ behind in
    record {
      spelled = (boot_spelled 1 (omega arith), tt);
      held = log_holds 11 (bodies_of first_start) bytes (is_log 11 (bodies_of first_start) (gate ∷ behind) bytes refl closed (omega arith, tt) refl);
    }
