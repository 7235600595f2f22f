-- The turn in which a branch forgets tells it to each neighbour beyond that its row names.
use Rattle.std.proofs.Common.{◌≡◌, ◌&&◌, ◌||◌, not, Bool, true, false, if◌then◌else◌, List, [], ◌∷◌, map, filter, Option, Some, None, inl, inr, refl, sym, ap, ◌∙◌}
use Rattle.std.specs.Prelude.{IfSome}
use Rattle.std.specs.List.{list_any}
use Rattle.std.proofs.lemmas.Bool.{or_left, or_right, cond_both}
use Rattle.std.proofs.lemmas.List.Folds.{list_any-append}
use Rattle.tran_ids.proofs.BranchLemmas.{equal_from_same, same_from_equal}
use Rattle.commit_forget.specs.declared.next.Beyond.{Beyond as Neighbor}
use Rattle.commit_forget.specs.declared.next.Next.TheVariants as nexts
use Rattle.commit_forget.specs.Beyond.{beyond, parent_beyond, kid_beyond}
use Rattle.session_tree.specs.Live.{is_branch}
use Rattle.node_rules.specs.Data.{BranchId, Input, Kid, Place, Post, RedoRecord, KeptRow}
use Rattle.node_rules.specs.Data.acts
use Rattle.node_rules.specs.Data.kinds
use Rattle.node_rules.specs.Data.records
use Rattle.node_rules.specs.Words.{same, item_at, put_item}
use Rattle.node_rules.specs.NodeState.{NodeState, TurnDraft, kept_row_id, to_each}
use Rattle.node_rules.specs.Commit.{acked_by, to_beyond}
use Rattle.node_rules.proofs.Steps as steps
use Rattle.node_rules.proofs.Steps.{Step}
use Rattle.run_base_laws.specs.NodeLaws.{unacked_kid}
use Rattle.run_branch_laws.specs.TowardLaws.{IsRowLike}
use Rattle.run_branch_laws.specs.WalkLaws.{was_sent}
use Rattle.run_rules.proofs.ListLemmas.{map_after}
use Rattle.run_branch_laws.proofs.TowardLemmas.{itself, like_acked}
use Rattle.tree_laws.specs.BeyondLaws.{IsNamed}
use Rattle.tree_laws.proofs.RowLemmas.{kid_branch}
use Rattle.commit_forget_laws.specs.ForgetLaws.{is_forgotten}

-- a branch that forgets tells so, by its row
abbrev pub SaysForgot : List KeptRow → List Post → RedoRecord → Type 0
SaysForgot ks says (records.Forgot b) = (s : KeptRow) × IsRowLike ks b s × (says ≡ to_beyond s kinds.Forgotten)
SaysForgot ks says _ = Unit {0}

acked_says : (ks : List KeptRow) (s : KeptRow) (from : BranchId) (says : List Post) → item_at kept_row_id ks s.me ≡ Some s → (w : Option RedoRecord) → IfSome w (SaysForgot (put_item kept_row_id ks (acked_by s from)) says) → IfSome w (SaysForgot ks says)
acked_says ks s from says stands None is = tt
acked_says ks s from says stands (Some (records.Forgot b)) is = (is.0, like_acked ks s from stands b is.0 is.1, is.2)
acked_says ks s from says stands (Some _) is = tt

module _ (p : Place) (input : Input) where
  pub forgot_says : {k : NodeState} {d : TurnDraft} → Step p input k d → IfSome d.wrote (SaysForgot k.stored.durable.kept d.says)
  forgot_says (steps.Begins n s read_at call begins range none step) = forgot_says step
  forgot_says (steps.Counts_call n s call counts step) = forgot_says step
  forgot_says (steps.Goes_back x step goes next) = forgot_says next
  forgot_says (steps.Pends n l given call has live code writer step) = forgot_says step
  forgot_says (steps.Lets_reads_go l comment below live begins step) = forgot_says step
  forgot_says (steps.Counts_ack {k = k} {d = d} s from kept came counts step) = acked_says k.stored.durable.kept s from d.says kept d.wrote (forgot_says step)
  forgot_says (steps.Acts l below acts.Rest why) = tt
  forgot_says (steps.Does {k = k} s from nexts.Forget kept why) = (s, itself k.stored.durable.kept s kept, refl)
  forgot_says (steps.Makes_record n s r d call (steps.Sets_recovery on)) = tt
  forgot_says (steps.Gives_up_commit n b None gives has calls live) = tt
  forgot_says _ = tt

-- ---- each neighbour beyond is told

-- a row that is like another names the same neighbours
pub same_kids : (s row : KeptRow) → map unacked_kid s.children ≡ map unacked_kid row.children → map kid_branch s.children ≡ map kid_branch row.children
same_kids s row like = sym (map_after kid_branch unacked_kid kid_branch (λ c. refl) s.children) ∙ (ap (λ cs. map kid_branch cs) like ∙ map_after kid_branch unacked_kid kid_branch (λ c. refl) row.children)

module _ (x : BranchId) (toward : Option BranchId) (apart : is_branch x toward ≡ false) where
  abbrev is_it : Neighbor → Bool
  is_it y = same y.branch x

  abbrev off : Kid → Bool
  off c = not (is_branch c.branch toward)

  kid_there : (cs : List Kid) → list_any (λ c. same c x) (map kid_branch cs) ≡ true → list_any is_it (map kid_beyond (filter off cs)) ≡ true
  kid_there [] is = absurd cc
  kid_there (c ∷ cs) is = by (same c.branch x) refl (is_branch c.branch toward) refl is (kid_there cs)
    where
      by : (q : Bool) → same c.branch x ≡ q → (w : Bool) → is_branch c.branch toward ≡ w → (q || list_any (λ b. same b x) (map kid_branch cs)) ≡ true
          → (list_any (λ b. same b x) (map kid_branch cs) ≡ true → list_any is_it (map kid_beyond (filter off cs)) ≡ true)
          → list_any is_it (map kid_beyond (if not w then c ∷ filter off cs else filter off cs)) ≡ true
      by true here false away found later = or_left (same c.branch x) (list_any is_it (map kid_beyond (filter off cs))) here
      by true here true on found later = (let no : is_branch c.branch toward ≡ false = ap (λ b. is_branch b toward) (equal_from_same c.branch x here) ∙ apart in absurd (cc (on, no)))
      by false here false away found later = or_right (same c.branch x) (list_any is_it (map kid_beyond (filter off cs))) (later found)
      by false here true on found later = later found

parent_there : (s : KeptRow) (x : BranchId) → is_branch x s.toward ≡ false → (o : Option BranchId) → o ≡ Some x → list_any (λ (y : Neighbor). same y.branch x) (parent_beyond s o) ≡ true
parent_there s x apart None is = absurd cc
parent_there s x apart (Some q) is =
    let it : q ≡ x = cc in
    cond_both (is_branch q s.toward) _ _ (λ (ys : List Neighbor). list_any (λ (y : Neighbor). same y.branch x) ys ≡ true)
    (λ on. (let no : is_branch q s.toward ≡ false = ap (λ b. is_branch b s.toward) it ∙ apart in absurd (cc (on, no)))) (λ away. or_left (same q x) false (same_from_equal q x it))

named_there : (s : KeptRow) (x : BranchId) → is_branch x s.toward ≡ false → IsNamed s.parent (map kid_branch s.children) x → list_any (λ (y : Neighbor). same y.branch x) (beyond s) ≡ true
unfolding beyond
named_there s x apart (inl above) = list_any-append (λ (y : Neighbor). same y.branch x) (parent_beyond s s.parent) _ ∙ or_left _ _ (parent_there s x apart s.parent above)
named_there s x apart (inr below) = list_any-append (λ (y : Neighbor). same y.branch x) (parent_beyond s s.parent) _ ∙ or_right (list_any (λ (y : Neighbor). same y.branch x) (parent_beyond s s.parent)) _ (kid_there x s.toward apart s.children below)

both_ends : (p q : Bool) (rest : Bool) → p ≡ true → q ≡ true → (((p && q) && true) || rest) ≡ true
both_ends true true rest one two = refl
both_ends true false rest one two = absurd cc
both_ends false q rest one two = absurd cc

each_told : (me x : BranchId) (ys : List Neighbor) → list_any (λ (y : Neighbor). same y.branch x) ys ≡ true → was_sent is_forgotten (to_each me kinds.Forgotten (map (λ (y : Neighbor). y.branch) ys)) me x ≡ true
each_told me x [] is = absurd cc
each_told me x (y ∷ ys) is = by (same y.branch x) refl is (each_told me x ys)
  where
    by : (q : Bool) → same y.branch x ≡ q → (q || list_any (λ (z : Neighbor). same z.branch x) ys) ≡ true
        → (list_any (λ (z : Neighbor). same z.branch x) ys ≡ true → was_sent is_forgotten (to_each me kinds.Forgotten (map (λ (z : Neighbor). z.branch) ys)) me x ≡ true)
        → (((same me me && same y.branch x) && true) || was_sent is_forgotten (to_each me kinds.Forgotten (map (λ (z : Neighbor). z.branch) ys)) me x) ≡ true
    by true here found rest = both_ends (same me me) (same y.branch x) _ (same_from_equal me me refl) here
    by false here found rest = or_right ((same me me && same y.branch x) && true) _ (rest found)

-- so a neighbour that a row names, and that is not toward, is told
pub beyond_told : (s : KeptRow) (x : BranchId) → is_branch x s.toward ≡ false → IsNamed s.parent (map kid_branch s.children) x → was_sent is_forgotten (to_beyond s kinds.Forgotten) s.me x ≡ true
beyond_told s x apart named = each_told s.me x (beyond s) (named_there s x apart named)
