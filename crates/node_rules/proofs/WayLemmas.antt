-- Where a statement goes, and what a branch may do there: one that reads at an SCN writes nothing.
use Rattle.std.proofs.Common.{◌≡◌, ℕ, ◌&&◌, Bool, true, false, if◌then◌else◌, [], refl, sym, subst}
use Rattle.std.specs.Prelude.{is_some}
use Rattle.node_rules.specs.Data.{Stmt, Refusal, Durable, Live, Place}
use Rattle.node_rules.specs.Refusals.{dtx}
use Rattle.node_rules.specs.Names.{Way, Nowhere_to, named_by, ref_of, way_named, way_of, is_write}

-- a way that is no refusal
abbrev pub LeadsOn : Way → Type 0
LeadsOn (Nowhere_to r) = ⊥
LeadsOn _ = Unit {0}

chosen : (c : Bool) (r : Refusal) (v w : Way) → LeadsOn w → (if c then Nowhere_to r else v) ≡ w → v ≡ w
chosen true r v w leads is = absurd (subst LeadsOn (sym is) leads)
chosen false r v w leads is = is

untested : (c : Bool) (r : Refusal) (v w : Way) → LeadsOn w → (if c then Nowhere_to r else v) ≡ w → c ≡ false
untested true r v w leads is = absurd (subst LeadsOn (sym is) leads)
untested false r v w leads is = refl

module _ (p : Place) (d : Durable) (l : Live) (given : ℕ) (s : Stmt) where
  -- it is the way of the statement's name
  pub way_by_name : (w : Way) → LeadsOn w → way_of p d l given s ≡ w → way_named p d l given (named_by d (ref_of s)) ≡ w
  unfolding way_of
  way_by_name w leads is = chosen (is_some l.read_at && is_write s) (dtx 21 []) (way_named p d l given (named_by d (ref_of s))) w leads is

  -- and the branch may go it: a READ ONLY one goes it with a statement that reads
  pub may_go : (w : Way) → LeadsOn w → way_of p d l given s ≡ w → (is_some l.read_at && is_write s) ≡ false
  unfolding way_of
  may_go w leads is = untested (is_some l.read_at && is_write s) (dtx 21 []) (way_named p d l given (named_by d (ref_of s))) w leads is
