-- What a row holds whatever stops its node had: it stays so where the Acks are lost, and it is the row of one that told so.
use Rattle.std.proofs.Common.{◌≡◌, not, Bool, true, false, if◌then◌else◌, List, [], ◌∷◌, ◌++◌, map, filter, Option, Some, None, inl, inr, refl, sym, ap, subst, ◌∙◌, arith}
use Rattle.std.specs.List.{AllByRecursion, list_all}
use Rattle.commit_forget.specs.declared.next.Beyond.{Beyond}
use Rattle.commit_forget.specs.Beyond.{beyond, parent_beyond, kid_beyond, all_acked}
use Rattle.commit_forget.specs.Next.{knows_commit}
use Rattle.session_tree.specs.Live.{is_branch}
use Rattle.agreement.specs.Events.{Event}
use Rattle.node_rules.specs.Data.{BranchId, Kid, Post, KeptRow}
use Rattle.node_rules.specs.Data.kinds
use Rattle.node_rules.specs.NodeState.{to_one}
use Rattle.run_base_laws.specs.NodeLaws.{unacked_kid, unacked_row}
use Rattle.run_rules.proofs.ListLemmas.{all_weaker, all_map, all_each, map_after, filter_same}
use Rattle.tree_laws.proofs.AskLemmas.{sent_new}
use Rattle.commit_laws.proofs.ReadyStepLemmas.{one_sent}
use Rattle.commit_forget_laws.specs.RowLaws.{is_ack, IsSealed}
use Rattle.commit_forget_laws.proofs.TellLemmas.{Plain, Tells, Stays, stays_same, plain_stays, tells_stays}

-- where a row knows the commit, has not forgotten and holds all Acks, it is not the site's
abbrev pub Sited : KeptRow → Type 0
Sited s = knows_commit s.decision ≡ true → s.forgot ≡ false → all_acked s ≡ true → (q : BranchId) × (s.toward ≡ Some q)

abbrev pub Holds : List Event → KeptRow → Type 0
Holds t s = Plain t s × Sited s

pub holds_stays : (t r : List Event) (s : KeptRow) → Stays t r s.me → Holds t s → Holds r s
holds_stays t r s stays is = (plain_stays t r s stays is.0, is.1)

-- ---- no Ack

abbrev pub unheard_one : Beyond → Beyond
unheard_one y = record y { acked = false }

append_mapped : {A B : Type 0} (f : A → B) (xs ys : List A) → map f (xs ++ ys) ≡ map f xs ++ map f ys
append_mapped f [] ys = refl
append_mapped f (x ∷ xs) ys = ap (λ zs. f x ∷ zs) (append_mapped f xs ys)

kids_unacked : (toward : Option BranchId) (cs : List Kid)
    → map kid_beyond (filter (λ c. not (is_branch c.branch toward)) (map unacked_kid cs)) ≡ map unheard_one (map kid_beyond (filter (λ c. not (is_branch c.branch toward)) cs))
kids_unacked toward cs =
    ap (map kid_beyond) (sym (filter_same unacked_kid (λ c. not (is_branch c.branch toward)) cs))
    ∙ (map_after kid_beyond unacked_kid (λ c. unheard_one (kid_beyond c)) (λ c. refl) (filter (λ c. not (is_branch c.branch toward)) cs)
    ∙ sym (map_after unheard_one kid_beyond (λ c. unheard_one (kid_beyond c)) (λ c. refl) (filter (λ c. not (is_branch c.branch toward)) cs)))

parent_unacked : (s : KeptRow) (o : Option BranchId) → parent_beyond (unacked_row s) o ≡ map unheard_one (parent_beyond s o)
parent_unacked s None = refl
parent_unacked s (Some b) = by (is_branch b s.toward)
  where
    by : (w : Bool) → (if w then [] else (record { branch = b; acked = false; is_parent = true }) ∷ []) ≡ map unheard_one (if w then [] else (record { branch = b; acked = s.parent_acked; is_parent = true }) ∷ [])
    by true = refl
    by false = refl

pub unacked_beyond : (s : KeptRow) → beyond (unacked_row s) ≡ map unheard_one (beyond s)
unfolding beyond
unacked_beyond s =
    ap (λ ys. ys ++ map kid_beyond (filter (λ c. not (is_branch c.branch s.toward)) (map unacked_kid s.children))) (parent_unacked s s.parent)
    ∙ (ap (λ ys. map unheard_one (parent_beyond s s.parent) ++ ys) (kids_unacked s.toward s.children)
    ∙ sym (append_mapped unheard_one (parent_beyond s s.parent) (map kid_beyond (filter (λ c. not (is_branch c.branch s.toward)) s.children))))

none_left : (bs : List Beyond) → list_all (λ y. y.acked) (map unheard_one bs) ≡ true → list_all (λ y. y.acked) bs ≡ true
none_left [] all = refl
none_left (y ∷ ys) all = absurd cc

-- a start loses the Acks, and the row holds on
pub unacked_holds : (t : List Event) (s : KeptRow) → Holds t s → Holds t (unacked_row s)
unacked_holds t s is = (
  record {
    sealed = subst (λ (bs : List Beyond). AllByRecursion (λ y. IsSealed t y.branch) bs) (sym (unacked_beyond s)) (all_map (λ (y : Beyond). IsSealed t y.branch) unheard_one (beyond s) is.0.sealed);
    unheard = λ none. subst (λ (bs : List Beyond). AllByRecursion (λ y. y.acked ≡ false) bs) (sym (unacked_beyond s)) (all_each (λ (y : Beyond). y.acked ≡ false) unheard_one (beyond s) (λ y. refl));
    whole = is.0.whole;
    forgets = is.0.forgets;
  },
  λ knows fresh all. is.1 knows fresh (none_left (beyond s) (subst (λ (bs : List Beyond). list_all (λ y. y.acked) bs ≡ true) (unacked_beyond s) all)),
)

pub all_unacked : (t : List Event) (ks : List KeptRow) → AllByRecursion (Holds t) ks → AllByRecursion (Holds t) (map unacked_row ks)
all_unacked t ks all = all_map (Holds t) unacked_row ks (all_weaker (Holds t) (λ x. Holds t (unacked_row x)) (λ x is. unacked_holds t x is) ks all)

-- ---- rows that hold so tell so, of some messages

pub tells_for : (t : List Event) (ks : List KeptRow) → AllByRecursion (Holds t) ks → (said : List Post) × AllByRecursion (Tells said t 0) ks
tells_for t [] all = ([], tt)
tells_for t (x ∷ ks) all =
    let rest = tells_for t ks all.1 in
    let says : List Post = to_one x.me kinds.Ack x.toward in (
      rest.0 ++ says,
      (
        inl (all.0.0, λ knows fresh every. (let q = all.0.1 knows fresh every in (q.0, q.1, sent_new is_ack rest.0 says x.me q.0 (one_sent is_ack x.me kinds.Ack x.toward q.0 refl q.1)))),
        all_weaker (Tells rest.0 t 0) (Tells (rest.0 ++ says) t 0) (λ y so. tells_stays rest.0 says t t 0 y (stays_same t y.me) so) ks rest.1,
      ),
    )

pub from_tells : (said : List Post) (t : List Event) (s : KeptRow) → Tells said t 0 s → Holds t s
from_tells said t s (inl so) = (so.0, λ knows fresh all. (let it = so.1 knows fresh all in (it.0, it.1)))
from_tells said t s (inr old) = absurd (omega (arith, old))
