-- The formats of kept branches and of images are exact, by the laws of their parts.
use Rattle.std.proofs.Common.{◌≡◌, ℕ, zero, suc, ◌<◌, ◌^◌, [], ◌∷◌, Option, Some, None, Bool, true, false, eqb, length, refl, sym, subst, inl, inr, arith}
use Rattle.std.proofs.lemmas.Bool.{cases_Bool}
use Rattle.std.proofs.lemmas.Bool.Decides.{Decides-eqb}
use Rattle.redo_record.specs.declared.record.Toward.{Toward}
use Rattle.redo_record.specs.declared.record.Toward.TheVariants as towards
use Rattle.redo_record.specs.declared.image.KeptState.{KeptState}
use Rattle.redo_record.specs.declared.image.KeptState.TheVariants as states
use Rattle.byte_format.specs.Format.{IsExact, ReadsAgain}
use Rattle.byte_format.specs.Number.{empty, number8, number32, constant}
use Rattle.byte_format.specs.Part.{pair}
use Rattle.byte_format.proofs.NumberLaws.{empty_exact, number8_exact, number32_exact, number48_exact, number64_exact, flag_exact, constant_exact}
use Rattle.byte_format.proofs.PartLaws.{pair_exact, optional_exact, recast_exact, mapped_exact, tested_exact}
use Rattle.byte_format.proofs.SeveralLaws.{counted_exact}
use Rattle.byte_format.proofs.ChoiceLaws.{kind_is, no_kind_is, reads_made, choice_exact}
use Rattle.field_codec.specs.Branch.{branch_format}
use Rattle.field_codec.specs.Change.{change_format}
use Rattle.field_codec.specs.Table.{table_format, link_format, synonym_format}
use Rattle.field_codec.specs.Value.{row_format}
use Rattle.field_codec.proofs.FieldLaws.{branch_exact, comment_exact, advice_exact, change_exact, row_exact}
use Rattle.field_codec.proofs.TableLaws.{table_exact, link_exact, synonym_exact}
use Rattle.redo_codec.specs.Decision.{decision_format, peer_format}
use Rattle.redo_codec.specs.Sealed.{toward_at, toward_number, head_format, tree_format}
use Rattle.redo_codec.proofs.PartLaws.{decision_exact, peer_exact}
use Rattle.image_codec.specs.Kept.{state_kind, sealed_of, committed_of, forced_commit_of, forced_rollback_of, state_kinds, state_format, way_at, way_number, IsWay, way_format, is_kept, outcome_format, item_format}
use Rattle.image_codec.specs.Order.{are_in_order}
use Rattle.image_codec.specs.Image.{settings_format, start_format, names_format, rows_format, is_catalog, catalog_format, image_format, body_format}
use Rattle.image_codec.proofs.ByLaws.{times_exact, pair_by_exact}

-- ---- the state

state_again : (v : KeptState) → ReadsAgain (state_kinds (state_kind v)) v
state_again states.Sealed = reads_made (λ u. states.Sealed) sealed_of empty empty_exact (λ u. refl) tt
state_again states.Committed = reads_made (λ u. states.Committed) committed_of empty empty_exact (λ u. refl) tt
state_again states.ForcedCommit = reads_made (λ u. states.ForcedCommit) forced_commit_of empty empty_exact (λ u. refl) tt
state_again states.ForcedRollback = reads_made (λ u. states.ForcedRollback) forced_rollback_of empty empty_exact (λ u. refl) tt

state_exact : IsExact state_format
state_exact = choice_exact state_kind state_kinds
    (kind_is (λ u. states.Sealed) sealed_of empty empty_exact (λ u. refl) 1 state_kind _ (λ u. refl)
    (kind_is (λ u. states.Committed) committed_of empty empty_exact (λ u. refl) 2 state_kind _ (λ u. refl)
    (kind_is (λ u. states.ForcedCommit) forced_commit_of empty empty_exact (λ u. refl) 3 state_kind _ (λ u. refl)
    (kind_is (λ u. states.ForcedRollback) forced_rollback_of empty empty_exact (λ u. refl) 4 state_kind _ (λ u. refl)
    (no_kind_is state_kind)))))
    state_again

-- ---- the way to the commit point site

number_back : (n : ℕ) → toward_number (toward_at n) ≡ n
number_back zero = refl
number_back (suc child) = refl

toward_back : (t : Toward) → toward_at (toward_number t) ≡ t
toward_back towards.Parent = refl
toward_back (towards.Child child) = refl

not_site : (n : ℕ) → eqb n 255 ≡ false → n ≡ 255 → ⊥
not_site n e at = let there : eqb n 255 ≡ true = (Decides-eqb n 255).1 at in absurd cc

-- a number of one byte is that of the site or of a neighbour
way_of_number : (n : ℕ) (b : Bool) → eqb n 255 ≡ b → n < 2 ^ 8 → IsWay (way_at n) × (way_number (way_at n) ≡ n)
way_of_number n true e h = let at : n ≡ 255 = (Decides-eqb n 255).0 e in subst (λ (k : ℕ). IsWay (way_at k) × (way_number (way_at k) ≡ k)) (sym at) (tt, refl)
way_of_number n false e h =
    let other : n ≡ 255 → ⊥ = not_site n e in
    let below : n < 255 = omega arith in
    rw e (rw (number_back n) below, number_back n)

no_site : (n : ℕ) → n ≡ 255 → n < 255 → ⊥
no_site n e h = omega arith

-- and a way has a number that is read as it
number_of_way : (way : Option Toward) → IsWay way → (way_number way < 2 ^ 8) × (way_at (way_number way) ≡ way)
number_of_way None h = (omega arith, refl)
number_of_way (Some t) h =
    let other : eqb (toward_number t) 255 ≡ false = elim (cases_Bool (eqb (toward_number t) 255)) [ inl p ↦ absurd (no_site (toward_number t) ((Decides-eqb (toward_number t) 255).0 p) h) | inr p ↦ p ] in
    (omega (arith, h), rw (other, toward_back t) refl)

way_exact : IsExact way_format
way_exact = recast_exact IsWay way_at way_number number8 number8_exact (λ n h. way_of_number n (eqb n 255) refl h) number_of_way

-- ---- a kept branch

head_exact : IsExact head_format
head_exact = pair_exact _ _ branch_exact (pair_exact _ _ branch_exact number48_exact)

tree_exact : IsExact tree_format
tree_exact = pair_exact _ _ (optional_exact branch_format branch_exact) (counted_exact peer_format peer_exact number32 number32_exact)

outcome_exact : IsExact outcome_format
outcome_exact = pair_exact _ _ (optional_exact decision_format decision_exact)
    (pair_exact _ _ number48_exact (pair_exact _ _ flag_exact (pair_exact _ _ flag_exact flag_exact)))

pub item_exact : IsExact item_format
item_exact = tested_exact is_kept _ (mapped_exact _ _ _
    (pair_exact _ _ head_exact
    (pair_exact _ _ state_exact
    (pair_exact _ _ way_exact
    (pair_exact _ _ tree_exact
    (pair_exact _ _ (pair_exact _ _ advice_exact comment_exact)
    (pair_exact _ _ outcome_exact (counted_exact change_format change_exact number32 number32_exact)))))))
    (λ x. refl) (λ s. refl))

-- ---- an image

settings_exact : IsExact settings_format
settings_exact = pair_exact _ _ number32_exact (pair_exact _ _ flag_exact (optional_exact number8 number8_exact))

start_exact : IsExact start_format
start_exact = pair_exact _ _ number64_exact (pair_exact _ _ number48_exact (pair_exact _ _ number48_exact settings_exact))

names_exact : IsExact names_format
names_exact = pair_exact _ _ (counted_exact table_format table_exact number32 number32_exact)
    (pair_exact _ _ (counted_exact link_format link_exact number32 number32_exact) (counted_exact synonym_format synonym_exact number32 number32_exact))

rows_exact : IsExact rows_format
rows_exact = counted_exact row_format row_exact number32 number32_exact

catalog_exact : IsExact catalog_format
catalog_exact = tested_exact is_catalog _ (pair_by_exact names_format _ names_exact (λ x. times_exact (length x.0) rows_format rows_exact))

pub image_exact : IsExact image_format
image_exact = mapped_exact _ _ _
    (pair_exact _ _ start_exact
    (pair_exact _ _ catalog_exact (tested_exact are_in_order _ (counted_exact item_format item_exact number32 number32_exact))))
    (λ x. refl) (λ i. refl)

pub body_exact : IsExact body_format
body_exact = mapped_exact (λ x. x.1) (λ i. (tt, i)) (pair (constant (1 ∷ 13 ∷ [])) image_format)
    (pair_exact _ _ (constant_exact (1 ∷ 13 ∷ [])) image_exact) (λ x. refl) (λ i. refl)
