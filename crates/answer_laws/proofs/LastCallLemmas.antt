-- The last call of a session up to a moment is one.
use Rattle.std.proofs.Common.{◌≡◌, ℕ, ◌<◌, Bool, true, false, Some, refl, sym, ap, ◌∙◌, arith}
use Rattle.std.specs.Prelude.{slice_get, nat_lt}
use Rattle.std.proofs.lemmas.Bool.Decides.{nat_tests}
use Rattle.node_rules.specs.Data.inputs
use Rattle.run_rules.specs.Data.{Turn}
use Rattle.run_rules.specs.Data.happenings
use Rattle.run_rules.specs.Lawful.{History}
use Rattle.answer_laws.specs.EndLaws.{LastCall}

module _ (t : History) (node session now : ℕ) (x y : LastCall t node session now) where
  pub one_moment : x.moment ≡ y.moment
  one_moment = by (nat_lt x.moment y.moment) (nat_lt y.moment x.moment) refl refl
    where
      by : (p q : Bool) → nat_lt x.moment y.moment ≡ p → nat_lt y.moment x.moment ≡ q → x.moment ≡ y.moment
      by true q less other = absurd (x.last y.moment (let it : x.moment < y.moment = grind (arith, nat_tests, less) in it) y.soon y.turn y.there y.here y.text y.came)
      by false true other less = absurd (y.last x.moment (let it : y.moment < x.moment = grind (arith, nat_tests, less) in it) x.soon x.turn x.there x.here x.text x.came)
      by false false one two = let it : x.moment ≡ y.moment = grind (arith, nat_tests, one, two) in it

  pub one_text : x.text ≡ y.text
  one_text =
      let both : Some (happenings.Turn x.turn) ≡ Some (happenings.Turn y.turn) = sym x.there ∙ (ap (slice_get t.trace) one_moment ∙ y.there) in
      let one : x.turn ≡ y.turn = cc in
      let calls : inputs.Call session x.text ≡ inputs.Call session y.text = sym x.came ∙ (ap (λ (u : Turn). u.input) one ∙ y.came) in
      cc
