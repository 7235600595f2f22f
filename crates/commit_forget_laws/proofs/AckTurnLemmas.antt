-- A turn in which an Ack comes leaves the rows so too: where it is the last of those beyond, the branch says Ack toward the
-- site, or forgets, if it is the site.
use Rattle.std.proofs.Common.{◌≡◌, ◌≢◌, ℕ, ◌||◌, not, Bool, true, false, if◌then◌else◌, List, [], ◌∷◌, ◌++◌, map, filter, is_none, Option, Some, None, inl, inr, refl, sym, ap, subst, ◌∙◌}
use Rattle.std.specs.List.{AllByRecursion}
use Rattle.std.proofs.lemmas.Bool.{cond_both, and_parts}
use Rattle.tran_ids.proofs.BranchLemmas.{same_from_equal}
use Rattle.commit_forget.specs.declared.next.Next.TheVariants as nexts
use Rattle.commit_forget.specs.declared.next.Beyond.{Beyond}
use Rattle.commit_forget.specs.Beyond.{beyond, parent_beyond, kid_beyond, all_acked, is_beyond}
use Rattle.commit_forget.specs.Next.{knows_commit, ack_counts, acks_kid, acked_by, next_on_ack}
use Rattle.session_tree.specs.Live.{is_branch}
use Rattle.agreement.specs.Events.{Event, Forget, exit, Has}
use Rattle.node_rules.specs.Data.{BranchId, Decision, Kid, Post, KeptRow}
use Rattle.node_rules.specs.Data.kinds
use Rattle.node_rules.specs.Words.{same, put_item}
use Rattle.node_rules.specs.NodeState.{NodeState, Branch, TurnDraft, kept_row_id, branch_at, kept_row_at, with_kept_row, nothing, post, to_one}
use Rattle.node_rules.specs.Commit.{next_turn, counts_ack, on_ack, to_beyond}
use Rattle.node_rules.specs.Turn.{live_or, status_of, ack_turn}
use Rattle.run_rules.proofs.ListLemmas.{all_append}
use Rattle.run_base_laws.proofs.OwnLemmas.{all_found, all_with}
use Rattle.tree_laws.proofs.AskLemmas.{sent_new}
use Rattle.commit_laws.proofs.ReadyStepLemmas.{one_sent}
use Rattle.commit_forget_laws.specs.RowLaws.{is_ack, IsSealed}
use Rattle.commit_forget_laws.proofs.TellLemmas.{Plain, Acks, Tells, TellsBut}
use Rattle.commit_forget_laws.proofs.RowStepLemmas.{AllTell, After, more, but, forgot_rows}
use Rattle.tree_laws.proofs.ClearLemmas.{all_parts as all_split}

-- ---- the neighbours beyond are the same, whoever acknowledges

module _ (P : BranchId → Bool → Type 0) (acks : (b : BranchId) (a : Bool) → P b a → P b true) (from : BranchId) where
  abbrev Is : Beyond → Type 0
  Is y = P y.branch y.acked

  module _ (toward : Option BranchId) where
    abbrev is_off : Kid → Bool
    is_off c = not (is_branch c.branch toward)

    abbrev Kids : List Kid → Type 0
    Kids cs = AllByRecursion Is (map kid_beyond (filter is_off cs))

    kid_so : (c : Kid) → P c.branch c.acked → P (acks_kid from c).branch (acks_kid from c).acked
    kid_so c is = cond_both (same c.branch from) (record c { acked = true }) c (λ y. P y.branch y.acked) (λ here. acks c.branch c.acked is) (λ other. is)

    kid_branch : (c : Kid) → (acks_kid from c).branch ≡ c.branch
    kid_branch c = cond_both (same c.branch from) (record c { acked = true }) c (λ y. y.branch ≡ c.branch) (λ here. refl) (λ other. refl)

    kids_so : (cs : List Kid) → Kids cs → Kids (map (acks_kid from) cs)
    kids_so [] all = tt
    kids_so (c ∷ cs) all = by (is_branch c.branch toward) refl all (kids_so cs)
      where
        by : (w : Bool) → is_branch c.branch toward ≡ w → AllByRecursion Is (map kid_beyond (if not w then c ∷ filter is_off cs else filter is_off cs)) → (Kids cs → Kids (map (acks_kid from) cs)) → Kids (map (acks_kid from) (c ∷ cs))
        by false off each rest =
            subst (λ w. AllByRecursion Is (map kid_beyond (if not w then acks_kid from c ∷ filter is_off (map (acks_kid from) cs) else filter is_off (map (acks_kid from) cs)))) (sym (ap (λ b. is_branch b toward) (kid_branch c) ∙ off)) (kid_so c each.0, rest each.1)
        by true on each rest =
            subst (λ w. AllByRecursion Is (map kid_beyond (if not w then acks_kid from c ∷ filter is_off (map (acks_kid from) cs) else filter is_off (map (acks_kid from) cs)))) (sym (ap (λ b. is_branch b toward) (kid_branch c) ∙ on)) (rest each)

  or_more : (b : BranchId) (p q : Bool) → P b p → P b (p || q)
  or_more b true q is = is
  or_more b false true is = acks b false is
  or_more b false false is = is

  parent_so : (s : KeptRow) (o : Option BranchId) → AllByRecursion Is (parent_beyond s o) → AllByRecursion Is (parent_beyond (acked_by s from) o)
  parent_so s None all = tt
  parent_so s (Some q) all = by (is_branch q s.toward) refl all
    where
      by : (w : Bool) → is_branch q s.toward ≡ w → AllByRecursion Is (if w then [] else (record { branch = q; acked = s.parent_acked; is_parent = true }) ∷ []) → AllByRecursion Is (parent_beyond (acked_by s from) (Some q))
      by true on each = subst (λ w. AllByRecursion Is (if w then [] else (record { branch = q; acked = s.parent_acked || is_branch from s.parent; is_parent = true }) ∷ [])) (sym on) tt
      by false off each = subst (λ w. AllByRecursion Is (if w then [] else (record { branch = q; acked = s.parent_acked || is_branch from s.parent; is_parent = true }) ∷ [])) (sym off) (or_more q s.parent_acked (is_branch from s.parent) each.0, tt)

  pub acked_so : (s : KeptRow) → AllByRecursion Is (beyond s) → AllByRecursion Is (beyond (acked_by s from))
  unfolding beyond
  acked_so s all =
      let parts = all_split Is (parent_beyond s s.parent) _ all in
      all_append Is (parent_beyond (acked_by s from) s.parent) _ (parent_so s s.parent parts.0) (kids_so s.toward s.children parts.1)

unknown : (d : Option Decision) → knows_commit d ≡ true → d ≡ None → ⊥
unknown None knows none = absurd cc
unknown (Some d) knows none = absurd cc

pub acked_plain : (t : List Event) (s : KeptRow) (from : BranchId) → knows_commit s.decision ≡ true → Plain t s → Plain t (acked_by s from)
acked_plain t s from knows is = record {
  sealed = acked_so (λ b a. IsSealed t b) (λ b a so. so) from s is.sealed;
  unheard = λ none. absurd (unknown s.decision knows none);
  whole = is.whole;
  forgets = is.forgets;
}

module _ (said : List Post) (t : List Event) (bound node : ℕ) (known : (b : BranchId) → Has (Forget b) t → exit t b ≢ None) (k : NodeState) (from to : BranchId) (all : AllTell said t bound node known k.stored.durable.kept) where
  abbrev ks : List KeptRow
  ks = k.stored.durable.kept

  abbrev Leaves : TurnDraft → Type 0
  Leaves d = After said t bound node known d

  module _ (s : KeptRow) (at : kept_row_at k to ≡ Some s) (counts : ack_counts s from ≡ true) where
    abbrev y : KeptRow
    y = acked_by s from

    now : Tells said t bound s
    now = all_found (Tells said t bound) kept_row_id ks to s all at

    knows : knows_commit s.decision ≡ true
    knows = (and_parts (knows_commit s.decision) (is_beyond s from) counts).0

    -- the row, where the Ack is noted
    noted : (says : List Post) → Acks (said ++ says) y → AllByRecursion (Tells (said ++ says) t bound) (put_item kept_row_id ks y)
    noted says acks = all_with (Tells (said ++ says) t bound) kept_row_id ks y (more said t bound node known says ks all) (elim now [ inl is ↦ inl (acked_plain t s from knows is.0, acks) | inr old ↦ inr old ])

    noted_but : AllByRecursion (TellsBut said t bound y.me) (put_item kept_row_id ks y)
    noted_but =
        all_with (TellsBut said t bound y.me) kept_row_id ks y (but said t bound node known y.me ks all)
        (elim now [ inl is ↦ inl (acked_plain t s from knows is.0, λ apart. (let yes : same s.me s.me ≡ true = same_from_equal s.me s.me refl in absurd (cc (apart, yes)))) | inr old ↦ inr old ])

    counted : Leaves (next_turn (with_kept_row k y) y from (next_on_ack y))
    unfolding next_on_ack
    counted = by s.forgot refl (all_acked y) refl s.toward refl
      where
        by : (f : Bool) → s.forgot ≡ f → (a : Bool) → all_acked y ≡ a → (o : Option BranchId) → s.toward ≡ o
            → Leaves (next_turn (with_kept_row k y) y from (if f then nexts.SayForgotten else (if a then (if is_none o then nexts.Forget else nexts.AckToward) else nexts.Rest)))
        by true is a every o toward = noted (post y.me from kinds.Forgotten) (λ known_one new rest. absurd (cc (is, new)))
        by false is true every None toward = forgot_rows said t bound node known (with_kept_row k y).stored (to_beyond y kinds.Forgotten) y.me noted_but
        by false is true every (Some q) toward =
            noted (to_one y.me kinds.Ack y.toward) (λ known_one new rest. (q, toward, sent_new is_ack said (to_one y.me kinds.Ack y.toward) y.me q (one_sent is_ack y.me kinds.Ack y.toward q refl toward)))
        by false is false every o toward = noted [] (λ known_one new rest. absurd (cc (every, rest)))

  here : (s : KeptRow) → kept_row_at k to ≡ Some s → Leaves (on_ack k s from)
  here s at = cond_both (ack_counts s from) (counts_ack k (acked_by s from) from) (nothing k) Leaves (λ counts. counted s at counts) (λ not. more said t bound node known [] ks all)

  by_stand : (o : Option Branch) (q : Option KeptRow) → kept_row_at k to ≡ q → Leaves (ack_turn k from to (live_or o q))
  by_stand (Some x) q at = more said t bound node known [] ks all
  by_stand None None at = more said t bound node known (post to from kinds.Forgotten) ks all
  by_stand None (Some s) at = here s at

  pub ack_rows : Leaves (ack_turn k from to (status_of k to))
  unfolding status_of
  ack_rows = by_stand (branch_at k to) (kept_row_at k to) refl
