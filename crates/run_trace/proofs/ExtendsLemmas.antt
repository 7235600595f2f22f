-- A run goes on from itself; by one happening more; and from what a run goes on from that it goes on from.
use Rattle.std.proofs.Common.{◌++◌, [], ◌∷◌, length, take, refl, ap, sym, ◌∙◌, arith, length-append}
use Rattle.std.proofs.Math.Seq.{take-append_seam, take-length}
use Rattle.std.proofs.lemmas.List.{take-take}
use Rattle.run_rules.specs.Data.{Happening}
use Rattle.run_trace.specs.Recorded.{Extends, RunSoFar}

pub extends_same : (r : RunSoFar) → Extends r r
extends_same r = record { places = refl; asked = refl; longer = omega arith; first = take-length r.happenings }

pub extends_push : (r : RunSoFar) (h : Happening) → Extends r (record r { happenings = r.happenings ++ h ∷ [] })
extends_push r h = record { places = refl; asked = refl; longer = simp length-append (omega arith); first = take-append_seam r.happenings (h ∷ []) }

pub extends_then : (a b c : RunSoFar) → Extends a b → Extends b c → Extends a c
extends_then a b c x y = record {
  places = y.places ∙ x.places;
  asked = y.asked ∙ x.asked;
  longer = omega (arith, x.longer, y.longer);
  first = sym (take-take (length a.happenings) (length b.happenings) c.happenings x.longer) ∙ (ap (take (length a.happenings)) y.first ∙ x.first);
}

pub ruleset extends_steps = (extends_same, extends_push, extends_then)
