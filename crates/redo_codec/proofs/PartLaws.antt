-- The formats of decisions, peers and branches that are kept are exact, by the laws of their parts.
use Rattle.std.proofs.Common.{◌≡◌, ℕ, zero, suc, refl}
use Rattle.redo_record.specs.declared.decision.Decision.{Decision}
use Rattle.redo_record.specs.declared.decision.Decision.TheVariants as decisions
use Rattle.redo_record.specs.declared.record.Toward.{Toward}
use Rattle.redo_record.specs.declared.record.Toward.TheVariants as towards
use Rattle.byte_format.specs.Format.{IsExact, ReadsAgain}
use Rattle.byte_format.specs.Number.{number8, number32, number48, constant}
use Rattle.byte_format.proofs.NumberLaws.{number8_exact, number32_exact, number48_exact, constant_exact}
use Rattle.byte_format.proofs.PartLaws.{pair_exact, optional_exact, mapped_exact, tested_exact}
use Rattle.byte_format.proofs.SeveralLaws.{counted_exact}
use Rattle.byte_format.proofs.ChoiceLaws.{kind_is, no_kind_is, reads_made, choice_exact}
use Rattle.field_codec.specs.Branch.{branch_format}
use Rattle.field_codec.specs.Change.{change_format}
use Rattle.field_codec.proofs.FieldLaws.{branch_exact, name_exact, comment_exact, advice_exact, change_exact}
use Rattle.redo_codec.specs.Decision.{decision_kind, commit_of, rollback_of, no_scn, decision_kinds, decision_format, peer_format}
use Rattle.redo_codec.specs.Sealed.{toward_at, toward_number, toward_format, is_sealed, head_format, tree_format, end_format, sealed_format, decided_format}

-- ---- decisions and peers

decision_again : (v : Decision) → ReadsAgain (decision_kinds (decision_kind v)) v
decision_again (decisions.Commit scn) = reads_made decisions.Commit commit_of number48 number48_exact (λ n. refl) scn
decision_again decisions.Rollback = reads_made (λ u. decisions.Rollback) rollback_of (constant no_scn) (constant_exact no_scn) (λ u. refl) tt

pub decision_exact : IsExact decision_format
decision_exact = choice_exact decision_kind decision_kinds
    (kind_is decisions.Commit commit_of number48 number48_exact (λ n. refl) 1 decision_kind _ (λ n. refl)
    (kind_is (λ u. decisions.Rollback) rollback_of (constant no_scn) (constant_exact no_scn) (λ u. refl) 2 decision_kind _ (λ u. refl)
    (no_kind_is decision_kind)))
    decision_again

pub peer_exact : IsExact peer_format
peer_exact = mapped_exact _ _ _ (pair_exact _ _ branch_exact name_exact) (λ x. refl) (λ p. refl)

-- ---- branches that are kept

toward_there : (n : ℕ) → toward_number (toward_at n) ≡ n
toward_there zero = refl
toward_there (suc child) = refl

toward_back : (t : Toward) → toward_at (toward_number t) ≡ t
toward_back towards.Parent = refl
toward_back (towards.Child child) = refl

toward_exact : IsExact toward_format
toward_exact = mapped_exact toward_at toward_number number8 number8_exact toward_there toward_back

head_exact : IsExact head_format
head_exact = pair_exact _ _ branch_exact (pair_exact _ _ branch_exact number48_exact)

tree_exact : IsExact tree_format
tree_exact = pair_exact _ _ (optional_exact branch_format branch_exact) (counted_exact peer_format peer_exact number32 number32_exact)

end_exact : IsExact end_format
end_exact = pair_exact _ _ advice_exact (pair_exact _ _ comment_exact (counted_exact change_format change_exact number32 number32_exact))

pub sealed_exact : IsExact sealed_format
sealed_exact = tested_exact is_sealed _ (mapped_exact _ _ _
    (pair_exact _ _ head_exact (pair_exact _ _ toward_exact (pair_exact _ _ tree_exact end_exact)))
    (λ x. refl) (λ s. refl))

pub decided_exact : IsExact decided_format
decided_exact = mapped_exact _ _ _ (pair_exact _ _ head_exact (pair_exact _ _ tree_exact end_exact)) (λ x. refl) (λ d. refl)
