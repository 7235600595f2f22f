-- Happenings that bring a session no call.
use Rattle.std.proofs.Common.{◌≡◌, ℕ, ◌+◌, ◌<◌, ◌≤◌, Bool, true, false, List, ◌∷◌, ◌++◌, length, Option, Some, refl, sym, ap, subst, ◌∙◌, arith}
use Rattle.std.specs.Prelude.{slice_get, nat_lt}
use Rattle.std.specs.List.{AllByRecursion}
use Rattle.std.proofs.lemmas.Bool.Decides.{nat_tests}
use Rattle.std.proofs.lemmas.List.{append_assoc, length-append}
use Rattle.node_rules.specs.Data.{Stmt}
use Rattle.node_rules.specs.Data.inputs
use Rattle.run_rules.specs.Data.{Turn, Happening}
use Rattle.run_rules.specs.Data.happenings
use Rattle.run_rules.specs.Lawful.{History}
use Rattle.answer_origin_laws.specs.LeadLaws.{NoCallSince}
use Rattle.answer_origin_laws.proofs.PartLemmas.{between_so}
use Rattle.answer_origin_laws.proofs.ReplyStandLemmas.{happens_at}

-- a happening is no call of this session at this node
abbrev pub IsNoCall : ℕ → ℕ → Happening → Type 0
IsNoCall node session (happenings.Turn u) = u.node ≡ node → (s : Option Stmt) → u.input ≡ inputs.Call session s → ⊥
IsNoCall node session _ = Unit {0}

module _ (t : History) (node session : ℕ) (before : List Happening) (h : Happening) (later hs : List Happening) (u : Turn) (rest : List Happening) (since : before ++ h ∷ later ≡ hs) (is : hs ++ happenings.Turn u ∷ rest ≡ t.trace) where
  pub all_since : before ++ h ∷ (later ++ happenings.Turn u ∷ rest) ≡ t.trace
  all_since = sym (append_assoc before (h ∷ later) (happenings.Turn u ∷ rest)) ∙ (ap (λ xs. xs ++ happenings.Turn u ∷ rest) since ∙ is)

  pub many_since : length before + 1 + length later ≡ length hs
  many_since = let both : length (before ++ h ∷ later) ≡ length hs = ap length since in omega (arith, both, length-append before (h ∷ later))

  -- none comes after a happening, up to a turn
  pub no_call_since : AllByRecursion (IsNoCall node session) later → IsNoCall node session (happenings.Turn u) → NoCallSince t node session (length before) (length hs)
  no_call_since quiet last j high low w there here s call = by (nat_lt j (length hs)) refl
    where
      by : (q : Bool) → nat_lt j (length hs) ≡ q → ⊥
      by true soon =
          between_so (IsNoCall node session) before h later (happenings.Turn u ∷ rest) j (happenings.Turn w) quiet high (let it : j < length hs = grind (arith, nat_tests, soon) in omega (arith, it, many_since))
          (subst (λ xs. slice_get xs j ≡ Some (happenings.Turn w)) (sym all_since) there) here s call
      by false late =
          let it : j ≡ length hs = (let least : length hs ≤ j = grind (arith, nat_tests, late) in omega (arith, least, low)) in
          let both : Some (happenings.Turn w) ≡ Some (happenings.Turn u) = sym there ∙ (ap (slice_get t.trace) it ∙ happens_at t hs (happenings.Turn u) rest is) in
          let one : w ≡ u = cc in
          last (ap (λ (x : Turn). x.node) (sym one) ∙ here) s (ap (λ (x : Turn). x.input) (sym one) ∙ call)
