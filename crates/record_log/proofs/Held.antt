-- The records that bytes hold: one list at most, read body by body, and more by each append.
use Rattle.std.proofs.Common.{◌≡◌, ℕ, zero, suc, ◌+◌, ◌<◌, ◌≤◌, List, [], ◌∷◌, ◌++◌, length, take, slice_index_or, Bool, true, false, Option, Some, None, refl, sym, ap, subst, ◌∙◌, arith}
use Rattle.std.proofs.lemmas.List.{take_more, take_all}
use Rattle.std.specs.List.{AllByRecursion}
use Rattle.std.specs.Option.{unwrap_or}
use Rattle.redo_record.specs.declared.record.RedoRecord.{RedoRecord}
use Rattle.byte_format.specs.Format.{IsSpelling, HasOneReading}
use Rattle.redo_codec.specs.Record.{record_format}
use Rattle.redo_log.specs.Cells.{body_limit, bodies, held, log_of, AllFit, GrowsBy}
use Rattle.block_disk.specs.Plan.{FaultPlan}
use Rattle.redo_log.specs.Stands.{stands_by, with_body_if, HoldsByPlan}
use Rattle.redo_log.proofs.Logs.{log_is_read}
use Rattle.record_log.specs.Records.{IsSpelled, bodies_of, AreBodiesOf}
use Rattle.record_log.specs.Held.{HoldRecords, with_record_if, GrowsByPlan, GrowsExactly, HoldOneList, LogsHold, BegunHoldNone}

-- ---- lists of records

-- a spelling that is not too long for a log
pub is_spelled : (r : RedoRecord) (body : List ℕ) → IsSpelling record_format body r → length body ≤ body_limit → IsSpelled r
is_spelled r body spelling short = record { fits = spelling.fits; short = subst (λ (text : List ℕ). length text ≤ body_limit) spelling.spelled short }

spelled-push : (rs : List RedoRecord) (r : RedoRecord) → AllByRecursion IsSpelled rs → IsSpelled r → AllByRecursion IsSpelled (rs ++ r ∷ [])
spelled-push [] r all last = (last, tt)
spelled-push (x ∷ rs) r all last = (all.0, spelled-push rs r all.1 last)

fit-push : (rs : List RedoRecord) (r : RedoRecord) → AllByRecursion record_format.Fits rs → record_format.Fits r → AllByRecursion record_format.Fits (rs ++ r ∷ [])
fit-push [] r all last = (last, tt)
fit-push (x ∷ rs) r all last = (all.0, fit-push rs r all.1 last)

all_fit : (rs : List RedoRecord) → AllByRecursion IsSpelled rs → AllByRecursion record_format.Fits rs
all_fit [] all = tt
all_fit (r ∷ rs) all = (all.0.fits, all_fit rs all.1)

bodies-push : (rs : List RedoRecord) (r : RedoRecord) → bodies_of (rs ++ r ∷ []) ≡ bodies_of rs ++ record_format.text r ∷ []
bodies-push [] r = refl
bodies-push (x ∷ rs) r = ap (λ (texts : List (List ℕ)). record_format.text x ∷ texts) (bodies-push rs r)

bodies_fit : (rs : List RedoRecord) → AllByRecursion IsSpelled rs → AllFit (bodies_of rs)
bodies_fit [] all = tt
bodies_fit (r ∷ rs) all = (omega (arith, all.0.short), bodies_fit rs all.1)

some_same : (xs ys : List (List ℕ)) → Some xs ≡ Some ys → xs ≡ ys
some_same xs ys same = grind arith

-- no bodies are those of two lists of records
same_records : HasOneReading record_format → (rs others : List RedoRecord) → AllByRecursion record_format.Fits rs → AllByRecursion record_format.Fits others → bodies_of rs ≡ bodies_of others → rs ≡ others
same_records one [] [] fx fy same = refl
same_records one [] (y ∷ ys) fx fy same = absurd cc
same_records one (x ∷ xs) [] fx fy same = absurd cc
same_records one (x ∷ xs) (y ∷ ys) fx fy same =
    let heads : record_format.text x ++ [] ≡ record_format.text y ++ [] = ap (λ (list : List (List ℕ)). first list ++ []) same in
    let here : x ≡ y = (one x y [] [] fx.0 fy.0 heads).0 in
    let there : xs ≡ ys = same_records one xs ys fx.1 fy.1 (ap rest same) in
    λ i. here i ∷ there i where
      first : List (List ℕ) → List ℕ
      first [] = []
      first (l ∷ ls) = l

      rest : List (List ℕ) → List (List ℕ)
      rest [] = []
      rest (l ∷ ls) = ls

-- ---- what bytes hold

pub one_list : HasOneReading record_format → HoldOneList
one_list one bytes rs others is same =
    same_records one rs others (all_fit rs is.spelled) (all_fit others same.spelled) (some_same (bodies_of rs) (bodies_of others) (sym is.held ∙ same.held))

pub log_holds_records : LogsHold
log_holds_records bytes rs log = record { spelled = log.spelled; held = ap bodies log.content ∙ log_is_read (bodies_of rs) (bodies_fit rs log.spelled) }

held_is : (rs : List RedoRecord) (bytes : List ℕ) → HoldRecords rs bytes → held bytes ≡ bodies_of rs
held_is rs bytes hold = ap (λ (o : Option (List (List ℕ))). unwrap_or o []) hold.held

no_records : (rs : List RedoRecord) → [] ≡ bodies_of rs → rs ≡ []
no_records [] same = refl
no_records (r ∷ rs) same = absurd cc

pub begun_holds_none : BegunHoldNone
begun_holds_none image rs begun hold = no_records rs (sym begun.empty ∙ held_is rs image hold)

-- ---- one record more

-- the bytes hold what others held
pub holds_still : (rs : List RedoRecord) (before now : List ℕ) → HoldRecords rs before → bodies now ≡ Some (held before) → HoldRecords rs now
holds_still rs before now hold same = record { spelled = hold.spelled; held = same ∙ ap (λ (list : List (List ℕ)). Some list) (held_is rs before hold) }

-- the bytes hold what they held, and the record of this body
pub holds_more : (rs : List RedoRecord) (r : RedoRecord) (body before now : List ℕ) → IsSpelled r → body ≡ record_format.text r → HoldRecords rs before → bodies now ≡ Some (held before ++ body ∷ [])
    → HoldRecords (rs ++ r ∷ []) now
holds_more rs r body before now spelled is hold stored = record {
  spelled = spelled-push rs r hold.spelled spelled;
  held = stored
      ∙ ap (λ (list : List (List ℕ)). Some (list ++ body ∷ [])) (held_is rs before hold)
      ∙ ap (λ (text : List ℕ). Some (bodies_of rs ++ text ∷ [])) is
      ∙ ap (λ (list : List (List ℕ)). Some list) (sym (bodies-push rs r));
}

-- after a failed append the bytes hold the record of this body where that stands
holds_if : (stands : Bool) (rs : List RedoRecord) (r : RedoRecord) (body before now : List ℕ) → IsSpelled r → body ≡ record_format.text r → HoldRecords rs before → bodies now ≡ Some (with_body_if stands (held before) body)
    → HoldRecords (with_record_if stands rs r) now
holds_if true rs r body before now spelled is hold stored = holds_more rs r body before now spelled is hold stored
holds_if false rs r body before now spelled is hold stored = holds_still rs before now hold stored

pub grows_by_plan : (plan : Option FaultPlan) (r : RedoRecord) (body before now : List ℕ) → IsSpelled r → body ≡ record_format.text r → HoldsByPlan plan (held before) body now → GrowsByPlan plan r before now
grows_by_plan None r body before now spelled is stored = tt
grows_by_plan (Some plan) r body before now spelled is stored = λ rs hold. holds_if (stands_by plan) rs r body before now spelled is hold stored

pub grows_exactly : (r : RedoRecord) (body before now : List ℕ) → IsSpelled r → body ≡ record_format.text r → GrowsBy body before now → GrowsExactly r before now
grows_exactly r body before now spelled is more = λ rs log. record {
  spelled = spelled-push rs r log.spelled spelled;
  content = more (bodies_of rs) (bodies_fit rs log.spelled) log.content
      ∙ ap (λ (text : List ℕ). log_of (bodies_of rs ++ text ∷ [])) is
      ∙ ap log_of (sym (bodies-push rs r));
}

-- ---- records read body by body

-- These records are spelled as the bodies.
pub record Spell (rs : List RedoRecord) (list : List (List ℕ)) : Type 0 where
  pub fit : AllByRecursion record_format.Fits rs
  pub same : list ≡ bodies_of rs

pub spells_none : Spell [] []
spells_none = record { fit = tt; same = refl }

-- the record of one body
body_in : (rs : List RedoRecord) (i : ℕ) → AllByRecursion IsSpelled rs → i < length (bodies_of rs) → (r : RedoRecord) × IsSpelling record_format (slice_index_or (bodies_of rs) i []) r
body_in [] i all low = absurd (omega (arith, low))
body_in (r ∷ rs) zero all low = (r, record { fits = all.0.fits; spelled = refl })
body_in (r ∷ rs) (suc i) all low = body_in rs i all.1 (omega (arith, low))

pub body_at : (rs : List RedoRecord) (list : List (List ℕ)) (i : ℕ) → AreBodiesOf rs list → i < length list → (r : RedoRecord) × IsSpelling record_format (slice_index_or list i []) r
body_at rs list i are low =
    subst (λ (l : List (List ℕ)). (r : RedoRecord) × IsSpelling record_format (slice_index_or l i []) r) (sym are.same)
    (body_in rs i are.spelled (omega (arith, low, ap (λ (l : List (List ℕ)). length l) are.same)))

-- one record more
pub spell_more : (found : List RedoRecord) (list : List (List ℕ)) (i : ℕ) (r : RedoRecord) → Spell found (take i list) → i < length list → IsSpelling record_format (slice_index_or list i []) r → Spell (found ++ r ∷ []) (take (i + 1) list)
spell_more found list i r spell low spelling = record {
  fit = fit-push found r spell.fit spelling.fits;
  same = take_more list i [] low
      ∙ (ap (λ (texts : List (List ℕ)). texts ++ slice_index_or list i [] ∷ []) spell.same ∙ (ap (λ (text : List ℕ). bodies_of found ++ text ∷ []) spelling.spelled ∙ sym (bodies-push found r)));
}

-- what was read of all bodies is what they are the bodies of
pub are_read : HasOneReading record_format → (found rs : List RedoRecord) (list : List (List ℕ)) (i : ℕ) → Spell found (take i list) → length list ≤ i → AreBodiesOf rs list → found ≡ rs
are_read one found rs list i spell over are = same_records one found rs spell.fit (all_fit rs are.spelled) (sym spell.same ∙ take_all i list over ∙ are.same)

pub ruleset records_read = (spells_none, spell_more)
