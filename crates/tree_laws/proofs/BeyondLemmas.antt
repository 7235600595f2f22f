-- Who is beyond a branch by the forest of a run: a child that it asked off the walk, or the parent from which the walk comes. What a
-- branch whose children have all answered knows of such a child.
use Rattle.std.proofs.Common.{◌≡◌, ◌≢◌, ℕ, zero, suc, ◌+◌, ◌≤◌, ◌||◌, ◌⊎◌, Bool, true, false, if◌then◌else◌, List, [], ◌∷◌, map, unwrap_or, Option, Some, None, inl, inr, refl, sym, ap, subst, ◌∙◌}
use Rattle.std.specs.List.{AllByRecursion, list_any}
use Rattle.std.proofs.lemmas.Bool.{or_left, or_right}
use Rattle.tran_ids.proofs.BranchLemmas.{same_from_equal}
use Rattle.prepare_phase.specs.Records.{named_children, peer_record, is_prepared_answer, is_prepared, is_place}
use Rattle.redo_record.specs.declared.record.Peer.{Peer}
use Rattle.node_rules.specs.Data.{BranchId, Edge, Phase, Post, Vote}
use Rattle.node_rules.specs.Data.phases
use Rattle.node_rules.specs.Data.votes
use Rattle.node_rules.specs.Words.{same, numbered}
use Rattle.node_rules.specs.Prepare.{is_awaited}
use Rattle.agreement.specs.Events.{Forest, Event, Beyond, Quiet, Send_vote, exit, Has}
use Rattle.run_rules.specs.Births.{Born}
use Rattle.run_base_laws.specs.BirthLaws.{Began}
use Rattle.run_base_laws.specs.FreezeLaws.{was_asked}
use Rattle.run_branch_laws.specs.HeardLaws.{VoteIs, EdgeIs}
use Rattle.run_branch_laws.specs.PhaseLaws.{IsNoAbort}
use Rattle.run_branch_laws.specs.WalkLaws.{is_below, was_sent}
use Rattle.run_rules.proofs.ListLemmas.{all_weaker}
use Rattle.run_base_laws.proofs.TurnEventLemmas.{all_both}
use Rattle.tree_laws.specs.AnswerLaws.{EdgeTold}
use Rattle.tree_laws.specs.Forests.{told_below, next_on, comes_to, asked_by, toward_by, forest_by}
use Rattle.tree_laws.proofs.ForestLemmas as trees
use Rattle.tree_laws.proofs.ForestLemmas.{told_sent}

-- ---- who is beyond

module _ (bs : List Born) (said : List Post) (known : trees.Known bs said) where
  abbrev p : Forest
  p = forest_by bs said

  -- a child that was asked off the walk, or a parent that told that the walk comes here
  pub beyond_is : (x y : BranchId) → Beyond p x y → ((was_asked said y x ≡ true) × (was_sent is_below said y x ≡ false)) ⊎ (was_sent is_below said x y ≡ true)
  beyond_is x y edge =
      let is = trees.member_is bs said known x edge.member in
      by is.born is.began is.is_me is.born.parent refl is.asked (sym (trees.toward_is bs said known is.born x is.began is.is_me) ∙ edge.next)
    where
      goes_on : (z : Born) → Began bs z → z.me ≡ x → comes_to said x z.parent ≡ true → (o : Option BranchId) → told_below said x ≡ o → unwrap_or o x ≡ y → was_sent is_below said x y ≡ true
      goes_on z began me comes None none next = absurd (edge.not_site (trees.end_is_site bs said known z x began me comes none))
      goes_on z began me comes (Some c) told next = let it : c ≡ y = next in subst (λ b. was_sent is_below said x b ≡ true) it (told_sent said x c told)

      way : (z : Born) → Began bs z → z.me ≡ x → (q : BranchId) → z.parent ≡ Some q → was_asked said q x ≡ true → (w : Bool) → was_sent is_below said q x ≡ w → (if w then next_on said x else q) ≡ y
          → ((was_asked said y x ≡ true) × (was_sent is_below said y x ≡ false)) ⊎ (was_sent is_below said x y ≡ true)
      way z began me q above asked true on next = inr (goes_on z began me (ap (comes_to said x) above ∙ on) (told_below said x) refl next)
      way z began me q above asked false off next = let it : q ≡ y = next in inl (subst (λ b. was_asked said b x ≡ true) it asked, subst (λ b. was_sent is_below said b x ≡ false) it off)

      by : (z : Born) → Began bs z → z.me ≡ x → (o : Option BranchId) → z.parent ≡ o → asked_by said x o ≡ true → toward_by said x z.parent ≡ y
          → ((was_asked said y x ≡ true) × (was_sent is_below said y x ≡ false)) ⊎ (was_sent is_below said x y ≡ true)
      by z began me None above asked next = inr (goes_on z began me (ap (comes_to said x) above) (told_below said x) refl (sym (ap (toward_by said x) above) ∙ next))
      by z began me (Some q) above asked next = way z began me q above asked (was_sent is_below said q x) refl (sym (ap (toward_by said x) above) ∙ next)

-- ---- a child whose answer came

pub or_none : (p q : Bool) → (p || q) ≡ false → (p ≡ false) × (q ≡ false)
or_none true q is = absurd cc
or_none false q is = (refl, is)

-- no child is awaited
pub none_awaited : (es : List Edge) → list_any (λ e. is_awaited e.vote) es ≡ false → AllByRecursion (λ e. is_awaited e.vote ≡ false) es
none_awaited [] none = tt
none_awaited (e ∷ es) none = let parts = or_none (is_awaited e.vote) (list_any (λ x. is_awaited x.vote) es) none in (parts.0, none_awaited es parts.1)

module _ (t : List Event) (clock : ℕ) (said : List Post) (me : BranchId) where
  -- It voted with a clock that was met, it is gone without changes, or it was told that the walk comes there.
  abbrev pub Settled : Edge → Type 0
  Settled e = ((is_prepared e ≡ true) × ((j : ℕ) × Has (Send_vote e.peer j) t × (j ≤ clock))) ⊎ ((exit t e.peer ≡ Some Quiet) ⊎ (was_sent is_below said me e.peer ≡ true))

  module _ (phase : Phase) (other : phase ≢ phases.Working) where
    settled_one : (e : Edge) → EdgeIs t clock e → EdgeTold said me phase e → IsNoAbort e → is_awaited e.vote ≡ false → Settled e
    settled_one e is told no_abort answered = by e.vote refl is
      where
        by : (v : Vote) → e.vote ≡ v → VoteIs t clock e.peer v → Settled e
        by votes.Unasked at so = absurd (told.asked other at)
        by votes.Asked at so = (let waits : is_awaited e.vote ≡ true = ap is_awaited at in absurd (cc (waits, answered)))
        by votes.Prepared at so = inl (ap is_prepared_answer at, so)
        by votes.ReadOnly at so = inr (inl so)
        by votes.Ready at so = inr (inr (told.ready at))
        by votes.Abort at so = absurd (no_abort at)

    pub settled_all : (es : List Edge) → AllByRecursion (EdgeIs t clock) es → AllByRecursion (EdgeTold said me phase) es → AllByRecursion IsNoAbort es → list_any (λ e. is_awaited e.vote) es ≡ false → AllByRecursion Settled es
    settled_all es heard told no_abort none =
        all_weaker _ _ (λ e both. settled_one e both.0.0 both.0.1 both.1.0 both.1.1) es
        (all_both _ _ es (all_both (EdgeIs t clock) (EdgeTold said me phase) es heard told) (all_both IsNoAbort (λ e. is_awaited e.vote ≡ false) es no_abort (none_awaited es none)))

  named_first : (q r : Bool) (y : Peer) (rest : List Peer) (x : BranchId) → q ≡ true → same y.branch x ≡ true → list_any (λ c. same c x) (map (λ (c : Peer). c.branch) (if q || r then y ∷ rest else rest)) ≡ true
  named_first true r y rest x is here = or_left (same y.branch x) (list_any (λ c. same c x) (map (λ (c : Peer). c.branch) rest)) here
  named_first false r y rest x is here = absurd cc

  named_later : (q : Bool) (y : Peer) (rest : List Peer) (x : BranchId) → list_any (λ c. same c x) (map (λ (c : Peer). c.branch) rest) ≡ true → list_any (λ c. same c x) (map (λ (c : Peer). c.branch) (if q then y ∷ rest else rest)) ≡ true
  named_later true y rest x is = or_right (same y.branch x) (list_any (λ c. same c x) (map (λ (c : Peer). c.branch) rest)) is
  named_later false y rest x is = is

  -- so a child off the walk voted, and the record names it, or it is gone without changes
  pub child_heard : (path : Option ℕ) (from : ℕ) (es : List Edge) (i : ℕ) (x : BranchId) → AllByRecursion Settled es → numbered (map (λ e. e.peer) es) i ≡ Some x → was_sent is_below said me x ≡ false
      → ((list_any (λ c. same c x) (map (λ (c : Peer). c.branch) (named_children path from es)) ≡ true) × ((j : ℕ) × Has (Send_vote x j) t × (j ≤ clock))) ⊎ (exit t x ≡ Some Quiet)
  child_heard path from es zero x all at off = absurd cc
  child_heard path from [] (suc i) x all at off = absurd cc
  child_heard path from (e ∷ es) (suc zero) x all at off =
      let it : Some e.peer ≡ Some x = at in
      let here : e.peer ≡ x = cc in
      elim all.0 [
        | inl voted ↦ inl (
          named_first (is_prepared e) (is_place from path) (peer_record e) (named_children path (from + 1) es) x voted.0 (same_from_equal e.peer x here),
          subst (λ b. (j : ℕ) × Has (Send_vote b j) t × (j ≤ clock)) here voted.1,
        )
        | inr rest ↦ elim rest [
          | inl quiet ↦ inr (subst (λ b. exit t b ≡ Some Quiet) here quiet)
          | inr below ↦ (let on : was_sent is_below said me x ≡ true = subst (λ b. was_sent is_below said me b ≡ true) here below in absurd (cc (on, off)))
        ]
      ]
  child_heard path from (e ∷ es) (suc (suc i)) x all at off = elim (child_heard path (from + 1) es (suc i) x all.1 at off) [
    | inl voted ↦ inl (named_later (is_prepared e || is_place from path) (peer_record e) (named_children path (from + 1) es) x voted.0, voted.1)
    | inr quiet ↦ inr quiet
  ]
