-- How a live branch that leaves without a record is told to leave: by ReadOnly, or by what came to it.
use Rattle.std.proofs.Common.{◌≡◌, ◌≢◌, ℕ, ◌==◌, ◌||◌, ◌&&◌, ◌⊎◌, not, Bool, true, false, if◌then◌else◌, is_none, List, [], ◌∷◌, map, Option, Some, None, inl, inr, refl, sym, ap, ◌∙◌}
use Rattle.std.specs.List.{list_any}
use Rattle.std.proofs.lemmas.Bool.{and_from, or_left, or_right, eq-eqb}
use Rattle.tran_ids.proofs.BranchLemmas.{same_from_equal}
use Rattle.agreement.specs.Events.{Exit, Quiet, Dropped}
use Rattle.node_rules.specs.Data.{BranchId, Kind, Live, Msg, Input, Answer}
use Rattle.node_rules.specs.Data.inputs
use Rattle.node_rules.specs.Data.kinds
use Rattle.node_rules.specs.Data.phases
use Rattle.node_rules.specs.Data.votes
use Rattle.node_rules.specs.Words.{same, item_at}
use Rattle.node_rules.specs.NodeState.{live_id}
use Rattle.node_rules.proofs.Steps.{Answers}
use Rattle.run_rules.specs.Branches.{Seen, is_live, is_live_at, is_among}
use Rattle.run_rules.specs.Trail.{is_first_vote, is_quiet, input_drops, kind_drops, stopped_by}
use Rattle.tree_trail_laws.specs.LowerLaws.{IsTracedLive}
use Rattle.tree_trail_laws.proofs.HearLemmas.{first_among}

-- ---- exits

pub whole_left : (q r z : Bool) → (q || r) ≡ true → (y : Exit) × ((if q then Some Quiet else (if r || z then Some Dropped else None)) ≡ Some y)
whole_left true r z is = (Quiet, refl)
whole_left false true z is = (Dropped, refl)
whole_left false false z is = absurd cc

pub exit_or : (o : Option Exit) → (o ≡ None) ⊎ ((y : Exit) × (o ≡ Some y))
exit_or None = inl refl
exit_or (Some y) = inr (y, refl)

pub stopped_me : (n : ℕ) (s : Seen) → ((stopped_by n s).me ≡ s.me) × ((stopped_by n s).parent ≡ s.parent)
stopped_me n s = by (is_live_at n s)
  where
    by : (q : Bool) → ((if q then record s { exit = Some Dropped } else s).me ≡ s.me) × ((if q then record s { exit = Some Dropped } else s).parent ≡ s.parent)
    by true = (refl, refl)
    by false = (refl, refl)

-- one that has left has left after a stop
pub stopped_left : (n : ℕ) (s : Seen) (y : Exit) → s.exit ≡ Some y → (y : Exit) × ((stopped_by n s).exit ≡ Some y)
stopped_left n s y is = by (is_live_at n s)
  where
    by : (q : Bool) → (y : Exit) × ((if q then record s { exit = Some Dropped } else s).exit ≡ Some y)
    by true = (Dropped, refl)
    by false = (y, is)

-- and one of the node that stops
pub stopped_there : (n : ℕ) (s : Seen) → s.me.node ≡ n → (y : Exit) × ((stopped_by n s).exit ≡ Some y)
stopped_there n s here = elim (exit_or s.exit) [
  | inl none ↦ (Dropped, ap (λ q. (if q then record s { exit = Some Dropped } else s).exit) (and_from (s.me.node == n) (is_live s) (eq-eqb s.me.node n here) (ap is_none none)))
  | inr some ↦ stopped_left n s some.0 some.1
]

-- ---- a turn that is whole, in which a live branch leaves without a record

module _ (n : ℕ) (answer : Option Answer) (input : Input) (sent : List Msg) (z : Live) (s : Seen) (me : s.me ≡ z.me) (told : IsTracedLive z s) where
  abbrev Leaves : Type 0
  Leaves = (list_any (is_quiet s.me) sent || input_drops n answer s input) ≡ true

  drops_so : input_drops n answer s input ≡ true → Leaves
  drops_so is = or_right (list_any (is_quiet s.me) sent) (input_drops n answer s input) is

  its : same z.me s.me ≡ true
  its = same_from_equal z.me s.me (sym me)

  pub kind_so : (from : BranchId) (scn : ℕ) (kind : Kind) → input ≡ inputs.Message (record { from = from; to = z.me; scn = scn; kind = kind }) → kind_drops s from kind ≡ true → Leaves
  kind_so from scn kind is drops = drops_so (ap (input_drops n answer s) is ∙ or_left (same z.me s.me && kind_drops s from kind) _ (and_from (same z.me s.me) (kind_drops s from kind) its drops))

  pub abort_first : (from : BranchId) (sb : Bool) (answers : Answers input z from votes.Abort sb) → is_first_vote s (record { from = from; to = z.me; scn = answers.came.scn; kind = kinds.Abort }) ≡ true
  abort_first from sb answers =
      let busy : z.phase ≢ phases.Working = (λ working. (let at = answers.collecting in absurd (cc (at, working)))) in
      let there = first_among s.voted from z.edges (told.collects busy).1 answers.first in
      and_from (same z.me s.me && true) _ (and_from (same z.me s.me) true its refl)
      (and_from (is_live s && s.collects) _ (and_from (is_live s) s.collects (ap is_none told.live) (told.collects busy).0)
      (and_from (is_among from s.children) (not (is_among from s.voted)) (ap (is_among from) told.children ∙ there.0) (ap not there.1)))

  pub abort_came : (from : BranchId) (sb : Bool) (answers : Answers input z from votes.Abort sb) → input ≡ inputs.Message (record { from = from; to = z.me; scn = answers.came.scn; kind = kinds.Abort })
  abort_came from sb answers =
      let it : Some kinds.Abort ≡ Some answers.kind = answers.is_vote in
      let kind : answers.kind ≡ kinds.Abort = cc in
      answers.came.is ∙ ap (λ (x : Kind). inputs.Message (record { from = from; to = z.me; scn = answers.came.scn; kind = x })) kind

  pub abort_so : (from : BranchId) (sb : Bool) → Answers input z from votes.Abort sb → Leaves
  abort_so from sb answers =
      drops_so (ap (input_drops n answer s) (abort_came from sb answers)
      ∙ or_right (same z.me s.me && false) _ (and_from (is_first_vote s (record { from = from; to = z.me; scn = answers.came.scn; kind = kinds.Abort })) true (abort_first from sb answers) refl))

-- who is not among the live branches is not found there
pub none_among : (ls : List Live) (b : BranchId) → is_among b (map live_id ls) ≡ false → item_at live_id ls b ≡ None
none_among [] b is = refl
none_among (x ∷ ls) b is = by (same x.me b) is (none_among ls b)
  where
    by : (q : Bool) → (q || is_among b (map live_id ls)) ≡ false → (is_among b (map live_id ls) ≡ false → item_at live_id ls b ≡ None) → (if q then Some x else item_at live_id ls b) ≡ None
    by true is rest = absurd cc
    by false is rest = rest is
