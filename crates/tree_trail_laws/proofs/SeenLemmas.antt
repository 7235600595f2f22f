-- What a turn makes of a branch that began: it is found after it, with its exit and its changes.
use Rattle.std.proofs.Common.{◌≡◌, ℕ, ◌==◌, Bool, true, false, if◌then◌else◌, List, [], ◌∷◌, map, is_none, Option, Some, None, refl, sym, ap, ◌∙◌}
use Rattle.std.proofs.lemmas.Bool.{and_parts}
use Rattle.tran_ids.proofs.BranchLemmas.{same_from_equal}
use Rattle.tran_ids.proofs.ListedLemmas.{item_is}
use Rattle.node_rules.specs.Data.{BranchId, Place, Sealed as SealedRecord}
use Rattle.node_rules.specs.Data.records
use Rattle.node_rules.specs.Words.{same, is_item_of, item_at}
use Rattle.run_rules.specs.Data.{Turn, Happening}
use Rattle.run_rules.specs.Data.happenings
use Rattle.run_rules.specs.Facts.{Facts, outcome_at}
use Rattle.run_rules.specs.Branches.{Exit, Sealed, Dropped, exit_of, Seen, Trail, seen_id, seen_at, exit_at, is_live, is_live_at}
use Rattle.run_rules.specs.Runs.{answered_by}
use Rattle.run_rules.specs.Trail.{recorded_exit, exit_by, exit_after, with_begun, with_plan, with_turn, after_turn, brought_by, Brought, stopped_by, trail_after}
use Rattle.tree_trail_laws.proofs.PlanLemmas.{find_more}

-- an item is found in its changed form
pub item_mapped : {A : Type 0} (id : A → BranchId) (g : A → A) → ((x : A) → id (g x) ≡ id x) → (xs : List A) (b : BranchId) (x : A) → item_at id xs b ≡ Some x → item_at id (map g xs) b ≡ Some (g x)
item_mapped id g keeps [] b x is = absurd cc
item_mapped id g keeps (y ∷ ys) b x is = ap (λ c. if same c b then Some (g y) else item_at id (map g ys) b) (keeps y) ∙ by (same (id y) b) is (item_mapped id g keeps ys b x)
  where
    by : (q : Bool) → (if q then Some y else item_at id ys b) ≡ Some x → (item_at id ys b ≡ Some x → item_at id (map g ys) b ≡ Some (g x)) → (if q then Some (g y) else item_at id (map g ys) b) ≡ Some (g x)
    by true is later = let it : Some y ≡ Some x = is in ap (λ z. Some (g z)) (let same : y ≡ x = cc in same)
    by false is later = later is

module _ (places : List Place) (f : Facts) (tr : Trail) (u : Turn) where
  -- the trail with the branches that begin, and with the plan
  abbrev pub begun : Trail
  begun = with_begun f tr u

  abbrev pub planned : Trail
  planned = with_plan places begun u (answered_by (outcome_at places f u))

  abbrev pub brings : Brought
  brings = brought_by f begun u (outcome_at places f u)

  -- a branch after the turn
  abbrev pub turned : Seen → Seen
  turned s = after_turn f.book planned u (outcome_at places f u) brings s

  pub seen_begun : (b : BranchId) (s : Seen) → seen_at begun b ≡ Some s → seen_at (trail_after places f tr (happenings.Turn u)) b ≡ Some (turned s)
  unfolding trail_after
  seen_begun b s is = item_mapped seen_id turned (λ x. refl) begun.seen b s is

  pub seen_turned : (b : BranchId) (s : Seen) → seen_at tr b ≡ Some s → seen_at (trail_after places f tr (happenings.Turn u)) b ≡ Some (turned s)
  seen_turned b s is = seen_begun b s (find_more (is_item_of seen_id b) tr.seen _ s is)

  -- one that left has left
  turned_left : (s : Seen) (e : Exit) → s.exit ≡ Some e → (turned s).exit ≡ Some e
  turned_left s e is = ap (exit_after planned u brings.answer s (with_turn f.book u (outcome_at places f u) brings s)) is

  -- one that was live leaves by its record
  turned_sealed : (s : Seen) (r : SealedRecord) → s.exit ≡ None → u.wrote ≡ Some (records.Sealed r) → r.me ≡ s.me → (turned s).exit ≡ Some (Sealed r.scn)
  turned_sealed s r live wrote me =
      let now : Seen = with_turn f.book u (outcome_at places f u) brings s in
      ap (exit_after planned u brings.answer s now) live
      ∙ ap (exit_by planned u brings.answer s now) (ap (recorded_exit s.me) wrote ∙ ap (λ q. if q then Some (Sealed r.scn) else None) (same_from_equal r.me s.me me))

  pub sealed_by_turn : (b : BranchId) (s : Seen) (r : SealedRecord) → seen_at tr b ≡ Some s → s.exit ≡ None → u.wrote ≡ Some (records.Sealed r) → r.me ≡ b
      → exit_at (trail_after places f tr (happenings.Turn u)) b ≡ Some (Sealed r.scn)
  sealed_by_turn b s r is live wrote me =
      ap exit_of (seen_turned b s is) ∙ turned_sealed s r live wrote (me ∙ sym (item_is seen_id tr.seen b s is))

-- ---- exits stay

exit_in : (o : Option Seen) (e : Exit) → exit_of o ≡ Some e → (s : Seen) × (o ≡ Some s) × (s.exit ≡ Some e)
exit_in None e is = absurd cc
exit_in (Some s) e is = (s, refl, is)

stopped_left : (n : ℕ) (s : Seen) (e : Exit) → s.exit ≡ Some e → (stopped_by n s).exit ≡ Some e
stopped_left n s e is = by (is_live_at n s) refl
  where
    by : (q : Bool) → is_live_at n s ≡ q → (if q then record s { exit = Some Dropped } else s).exit ≡ Some e
    by true live = (let here : is_none s.exit ≡ true = (and_parts (s.me.node == n) (is_live s) live).1 in let gone : is_none s.exit ≡ false = ap is_none is in absurd (cc (here, gone)))
    by false live = is

pub stopped_me : (n : ℕ) (s : Seen) → (stopped_by n s).me ≡ s.me
stopped_me n s = by (is_live_at n s)
  where
    by : (q : Bool) → (if q then record s { exit = Some Dropped } else s).me ≡ s.me
    by true = refl
    by false = refl

pub exit_stays : (places : List Place) (f : Facts) (tr : Trail) (h : Happening) (b : BranchId) (e : Exit) → exit_at tr b ≡ Some e → exit_at (trail_after places f tr h) b ≡ Some e
unfolding trail_after
exit_stays places f tr (happenings.Turn u) b e is =
    let at = exit_in (seen_at tr b) e is in ap exit_of (seen_turned places f tr u b at.0 at.1) ∙ turned_left places f tr u at.0 e at.2
exit_stays places f tr (happenings.Stopped n) b e is =
    let at = exit_in (seen_at tr b) e is in ap exit_of (item_mapped seen_id (stopped_by n) (stopped_me n) tr.seen b at.0 at.1) ∙ stopped_left n at.0 e at.2
exit_stays places f tr _ b e is = is
