use Rattle.std.proofs.Common.{eqb}
use Rattle.byte_format.specs.Choice.{kind, no_kind}
use Rattle.byte_format.proofs.ChoiceLaws.{kind_is, no_kind_is, choice_exact, either_again, nothing_again}
use Rattle.byte_format.proofs.laws.choice_is_exact.Goals as goal

pub returns : goal.returns
returns g c = λ kind_of m n make_a a_of is_a named_a make_b b_of is_b named_b.
    choice_exact kind_of (kind m make_a a_of g.A.Field.format (kind n make_b b_of g.B.Field.format no_kind))
    (kind_is make_a a_of g.A.Field.format c.requires.first is_a.parted m kind_of (kind n make_b b_of g.B.Field.format no_kind) named_a
    (kind_is make_b b_of g.B.Field.format c.requires.second is_b.parted n kind_of no_kind named_b (no_kind_is kind_of)))
    (λ v. either_again make_a a_of g.A.Field.format c.requires.first is_a (eqb (kind_of v) m) _ v
    (either_again make_b b_of g.B.Field.format c.requires.second is_b (eqb (kind_of v) n) _ v (nothing_again v)))
