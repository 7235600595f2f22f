-- A branch whose row tells that all beyond acknowledged is cleared by the forest: its row names each neighbour beyond that is not gone
-- without changes.
use Rattle.std.proofs.Common.{◌≡◌, ◌≢◌, ◌<◌, ◌||◌, not, Bool, true, false, if◌then◌else◌, List, [], ◌∷◌, ◌++◌, map, filter, Option, Some, None, inl, inr, refl, sym, ap, subst, ◌∙◌, arith}
use Rattle.std.specs.List.{AllByRecursion, list_any}
use Rattle.tran_ids.proofs.BranchLemmas.{equal_from_same}
use Rattle.tran_ids.proofs.ListedLemmas.{item_is}
use Rattle.commit_forget.specs.declared.next.Beyond.{Beyond as Neighbor}
use Rattle.commit_forget.specs.Beyond.{beyond, parent_beyond, kid_beyond}
use Rattle.redo_record.specs.declared.durable.Kid.{Kid}
use Rattle.session_tree.specs.Live.{is_branch}
use Rattle.node_rules.specs.Data.{BranchId, KeptRow}
use Rattle.node_rules.specs.Words.{same}
use Rattle.node_rules.specs.NodeState.{kept_row_id}
use Rattle.agreement.specs.Events.{Forest, IsForest, Event, Beyond, Send_ack, Has, Cleared, site_of}
use Rattle.run_base_laws.specs.NodeLaws.{unacked_kid}
use Rattle.run_branch_laws.specs.TowardLaws.{IsRowLike, AllAcked}
use Rattle.run_rules.proofs.ListLemmas.{map_after}
use Rattle.run_base_laws.proofs.OwnLemmas.{all_found}
use Rattle.tree_laws.specs.BeyondLaws.{IsNamed}
use Rattle.tree_laws.specs.NameLaws.{RowNames}
use Rattle.tree_laws.proofs.RowLemmas.{kid_branch}

pub all_parts : {A : Type 0} (P : A → Type 0) (xs ys : List A) → AllByRecursion P (xs ++ ys) → AllByRecursion P xs × AllByRecursion P ys
all_parts P [] ys all = (tt, all)
all_parts P (x ∷ xs) ys all = let rest = all_parts P xs ys all.1 in ((all.0, rest.0), rest.1)

module _ (t : List Event) (s : KeptRow) (x : BranchId) (apart : is_branch x s.toward ≡ false) where
  abbrev HasAck : Neighbor → Type 0
  HasAck y = Has (Send_ack y.branch s.me) t

  up_acked : (o : Option BranchId) → o ≡ Some x → AllByRecursion HasAck (parent_beyond s o) → Has (Send_ack x s.me) t
  up_acked None is all = absurd cc
  up_acked (Some q) is all =
      let it : q ≡ x = cc in
      let off : is_branch q s.toward ≡ false = ap (λ b. is_branch b s.toward) it ∙ apart in
      first q it (subst (λ w. AllByRecursion HasAck (if w then [] else (record { branch = q; acked = s.parent_acked; is_parent = true }) ∷ [])) off all)
    where
      first : (q : BranchId) → q ≡ x → AllByRecursion HasAck ((record { branch = q; acked = s.parent_acked; is_parent = true }) ∷ []) → Has (Send_ack x s.me) t
      first q it each = subst (λ b. Has (Send_ack b s.me) t) it each.0

  down_acked : (cs : List Kid) → list_any (λ c. same c x) (map kid_branch cs) ≡ true → AllByRecursion HasAck (map kid_beyond (filter (λ c. not (is_branch c.branch s.toward)) cs)) → Has (Send_ack x s.me) t
  down_acked [] is all = absurd cc
  down_acked (c ∷ cs) is all = by (same c.branch x) refl (is_branch c.branch s.toward) refl is all (down_acked cs)
    where
      by : (q : Bool) → same c.branch x ≡ q → (w : Bool) → is_branch c.branch s.toward ≡ w → (q || list_any (λ b. same b x) (map kid_branch cs)) ≡ true
          → AllByRecursion HasAck (map kid_beyond (if not w then c ∷ filter (λ y. not (is_branch y.branch s.toward)) cs else filter (λ y. not (is_branch y.branch s.toward)) cs))
          → (list_any (λ b. same b x) (map kid_branch cs) ≡ true → AllByRecursion HasAck (map kid_beyond (filter (λ y. not (is_branch y.branch s.toward)) cs)) → Has (Send_ack x s.me) t) → Has (Send_ack x s.me) t
      by true here false off found each later = subst (λ b. Has (Send_ack b s.me) t) (equal_from_same c.branch x here) each.0
      by true here true on found each later = (let no : is_branch c.branch s.toward ≡ false = ap (λ b. is_branch b s.toward) (equal_from_same c.branch x here) ∙ apart in absurd (cc (on, no)))
      by false here false off found each later = later found each.1
      by false here true on found each later = later found each

  named_acked : IsNamed s.parent (map kid_branch s.children) x → AllAcked t s → Has (Send_ack x s.me) t
  unfolding beyond
  named_acked (inl up) all = up_acked s.parent up (all_parts HasAck (parent_beyond s s.parent) _ all).0
  named_acked (inr down) all = down_acked s.children down (all_parts HasAck (parent_beyond s s.parent) _ all).1

-- a row that is like another names the same neighbours
same_kids : (s row : KeptRow) → map unacked_kid s.children ≡ map unacked_kid row.children → map kid_branch s.children ≡ map kid_branch row.children
same_kids s row like = sym (map_after kid_branch unacked_kid kid_branch (λ c. refl) s.children) ∙ (ap (λ cs. map kid_branch cs) like ∙ map_after kid_branch unacked_kid kid_branch (λ c. refl) row.children)

module _ (p : Forest) (forest : IsForest p) where
  -- two neighbours are not each the next of the other
  pub not_back : (x b q : BranchId) → Beyond p x b → p.member b ≡ true → b ≢ site_of p b → p.toward b ≡ q → is_branch x (Some q) ≡ false
  not_back x b q edge member other next = by (same q x) refl
    where
      by : (w : Bool) → same q x ≡ w → w ≡ false
      by false is = refl
      by true is =
          let back : p.toward b ≡ x = next ∙ equal_from_same q x is in
          let one : p.far b < p.far x = subst (λ y. p.far y < p.far x) edge.next (forest.nearer x edge.member edge.not_site) in
          let two : p.far x < p.far b = subst (λ y. p.far y < p.far b) back (forest.nearer b member other) in
          absurd (omega (arith, one, two))

  -- all beyond acknowledged
  pub row_cleared : (t : List Event) (ks : List KeptRow) (b : BranchId) (s : KeptRow) → IsRowLike ks b s → AllByRecursion (RowNames p t) ks → ((x : BranchId) → Beyond p x b → is_branch x s.toward ≡ false) → AllAcked t s → Cleared p t b
  row_cleared t ks b s is names apart acked x edge =
      let row : KeptRow = is.row in
      let me : row.me ≡ b = item_is kept_row_id ks b row is.stands in
      let mine : s.me ≡ b = ap (λ (y : KeptRow). y.me) is.like ∙ me in
      let named : RowNames p t row = all_found (RowNames p t) kept_row_id ks b row names is.stands in
      elim (named x (subst (λ c. Beyond p x c) (sym me) edge)) [
        | inr quiet ↦ inr quiet
        | inl here ↦ inl (subst (λ c. Has (Send_ack x c) t) mine
            (named_acked t s x (apart x edge)
            (subst (λ cs. IsNamed s.parent cs x) (sym (same_kids s row (ap (λ (y : KeptRow). y.children) is.like))) (subst (λ o. IsNamed o (map kid_branch row.children) x) (sym (ap (λ (y : KeptRow). y.parent) is.like)) here)) acked))
      ]
