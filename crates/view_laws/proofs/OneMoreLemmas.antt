-- What records and others behind them say of a branch.
use Rattle.std.proofs.Common.{◌≡◌, ℕ, ◌||◌, ◌&&◌, not, Bool, true, false, if◌then◌else◌, List, [], ◌∷◌, ◌++◌, Option, Some, None, refl, ap, ◌∙◌}
use Rattle.std.specs.List.{list_any}
use Rattle.std.proofs.lemmas.List.Folds.{list_any-append}
use Rattle.agreement.specs.Events.{first}
use Rattle.node_rules.specs.Data.{BranchId, Decision, RedoRecord, Sealed, Decided}
use Rattle.node_rules.specs.Data.decisions
use Rattle.node_rules.specs.Data.records
use Rattle.node_rules.specs.Words.{same}
use Rattle.run_rules.specs.BranchRecords.{sealed_in, decided_in}
use Rattle.view_laws.specs.BranchRows.{ends_back, meets_back, meets_mixed, forgets, purges, forced_as, committed_at, is_mixed, is_purged}

-- the decision with which a branch ended, or that it met
abbrev pub learned_as : List RedoRecord → BranchId → Option Decision
learned_as [] b = None
learned_as (records.Ended c d ∷ rs) b = if same c b then Some d else learned_as rs b
learned_as (records.Met c d mixed ∷ rs) b = if same c b then Some d else learned_as rs b
learned_as (_ ∷ rs) b = learned_as rs b

-- What records say of a branch.
pub record Says : Type 0 where
  pub sealed : Option Sealed
  pub decided : Option Decided
  pub forced : Option Decision
  pub committed : Option ℕ
  pub learned : Option Decision
  pub mixed : Bool
  pub back : Bool
  pub met_back : Bool
  pub forgot : Bool
  pub hidden : Bool

abbrev pub says : List RedoRecord → BranchId → Says
says rs b = record {
  sealed = sealed_in rs b;
  decided = decided_in rs b;
  forced = forced_as rs b;
  committed = committed_at rs b;
  learned = learned_as rs b;
  mixed = is_mixed rs b;
  back = list_any (ends_back b) rs;
  met_back = list_any (meets_back b) rs;
  forgot = list_any (forgets b) rs;
  hidden = is_purged rs b;
}

-- what is said first, and then more
abbrev pub plus : Says → Says → Says
plus s t = record {
  sealed = first s.sealed t.sealed;
  decided = first s.decided t.decided;
  forced = first s.forced t.forced;
  committed = first s.committed t.committed;
  learned = first s.learned t.learned;
  mixed = s.mixed || t.mixed;
  back = s.back || t.back;
  met_back = s.met_back || t.met_back;
  forgot = s.forgot || t.forgot;
  hidden = (s.hidden && not t.mixed) || t.hidden;
}

-- the first of two, behind a test
first_if : {A : Type 0} (q : Bool) (a : A) (o p : Option A) → (if q then Some a else first o p) ≡ first (if q then Some a else o) p
first_if true a o p = refl
first_if false a o p = refl

purged_by : (px mr my pr py : Bool) → ((px && not (mr || my)) || ((pr && not my) || py)) ≡ ((((px && not mr) || pr) && not my) || py)
purged_by true true true true py = refl
purged_by true true true false py = refl
purged_by true true false true py = refl
purged_by true true false false py = refl
purged_by true false true true py = refl
purged_by true false true false py = refl
purged_by true false false true py = refl
purged_by true false false false py = refl
purged_by false true true true py = refl
purged_by false true true false py = refl
purged_by false true false true py = refl
purged_by false true false false py = refl
purged_by false false true true py = refl
purged_by false false true false py = refl
purged_by false false false true py = refl
purged_by false false false false py = refl

module _ (b : BranchId) (ys : List RedoRecord) where
  sealed_on : (rs : List RedoRecord) → sealed_in (rs ++ ys) b ≡ first (sealed_in rs b) (sealed_in ys b)
  sealed_on [] = refl
  sealed_on (records.Sealed x ∷ rs) = ap (λ o. if same x.me b then Some x else o) (sealed_on rs) ∙ first_if (same x.me b) x (sealed_in rs b) (sealed_in ys b)
  sealed_on (_ ∷ rs) = sealed_on rs

  decided_on : (rs : List RedoRecord) → decided_in (rs ++ ys) b ≡ first (decided_in rs b) (decided_in ys b)
  decided_on [] = refl
  decided_on (records.Decided x ∷ rs) = ap (λ o. if same x.me b then Some x else o) (decided_on rs) ∙ first_if (same x.me b) x (decided_in rs b) (decided_in ys b)
  decided_on (_ ∷ rs) = decided_on rs

  forced_on : (rs : List RedoRecord) → forced_as (rs ++ ys) b ≡ first (forced_as rs b) (forced_as ys b)
  forced_on [] = refl
  forced_on (records.Forced c d given ∷ rs) = ap (λ o. if same c b then Some d else o) (forced_on rs) ∙ first_if (same c b) d (forced_as rs b) (forced_as ys b)
  forced_on (_ ∷ rs) = forced_on rs

  committed_on : (rs : List RedoRecord) → committed_at (rs ++ ys) b ≡ first (committed_at rs b) (committed_at ys b)
  committed_on [] = refl
  committed_on (records.Ended c (decisions.Commit n) ∷ rs) = ap (λ o. if same c b then Some n else o) (committed_on rs) ∙ first_if (same c b) n (committed_at rs b) (committed_at ys b)
  committed_on (records.Ended c decisions.Rollback ∷ rs) = committed_on rs
  committed_on (_ ∷ rs) = committed_on rs

  learned_on : (rs : List RedoRecord) → learned_as (rs ++ ys) b ≡ first (learned_as rs b) (learned_as ys b)
  learned_on [] = refl
  learned_on (records.Ended c d ∷ rs) = ap (λ o. if same c b then Some d else o) (learned_on rs) ∙ first_if (same c b) d (learned_as rs b) (learned_as ys b)
  learned_on (records.Met c d mixed ∷ rs) = ap (λ o. if same c b then Some d else o) (learned_on rs) ∙ first_if (same c b) d (learned_as rs b) (learned_as ys b)
  learned_on (_ ∷ rs) = learned_on rs

  -- a purge stays, but where the branch is found mixed after it
  purged_on : (rs : List RedoRecord) → is_purged (rs ++ ys) b ≡ ((is_purged rs b && not (is_mixed ys b)) || is_purged ys b)
  purged_on [] = refl
  purged_on (x ∷ rs) =
      ap (λ q. (purges b x && not q) || is_purged (rs ++ ys) b) (list_any-append (meets_mixed b) rs ys)
      ∙ (ap (λ q. (purges b x && not (is_mixed rs b || is_mixed ys b)) || q) (purged_on rs) ∙ purged_by (purges b x) (is_mixed rs b) (is_mixed ys b) (is_purged rs b) (is_purged ys b))

  pub says_on : (rs : List RedoRecord) → says (rs ++ ys) b ≡ plus (says rs b) (says ys b)
  says_on rs = λ i. record {
    sealed = sealed_on rs i;
    decided = decided_on rs i;
    forced = forced_on rs i;
    committed = committed_on rs i;
    learned = learned_on rs i;
    mixed = list_any-append (meets_mixed b) rs ys i;
    back = list_any-append (ends_back b) rs ys i;
    met_back = list_any-append (meets_back b) rs ys i;
    forgot = list_any-append (forgets b) rs ys i;
    hidden = purged_on rs i;
  }
