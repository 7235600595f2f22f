-- What the turn says in which a branch decides, or learns a commit: Committed to each neighbour that its record or its row
-- names, but the one on the way to the site.
use Rattle.std.proofs.Common.{◌≡◌, ℕ, ◌+◌, ◌==◌, ◌&&◌, ◌||◌, not, Bool, true, false, if◌then◌else◌, List, [], ◌∷◌, ◌++◌, map, filter, Option, Some, None, inl, inr, refl, ap, subst, ◌∙◌, arith}
use Rattle.std.specs.Prelude.{IfSome}
use Rattle.std.specs.Option.{option_to_list}
use Rattle.std.specs.List.{list_any}
use Rattle.std.proofs.lemmas.Bool.{or_left, or_right}
use Rattle.std.proofs.lemmas.Bool.Decides.{nat_tests}
use Rattle.std.proofs.lemmas.List.Folds.{list_any-append}
use Rattle.tran_ids.proofs.BranchLemmas.{equal_from_same, same_from_equal}
use Rattle.commit_forget.specs.declared.next.Beyond.{Beyond}
use Rattle.commit_forget.specs.declared.next.Next.TheVariants as nexts
use Rattle.prepare_phase.specs.Records.{is_prepared, named_children}
use Rattle.redo_record.specs.declared.durable.Kid.{Kid}
use Rattle.redo_record.specs.declared.record.Peer.{Peer}
use Rattle.session_tree.specs.Live.{is_branch}
use Rattle.node_rules.specs.Data.{BranchId, Decision, Edge, Kind, Live, Place, Post, RedoRecord, KeptRow, Input}
use Rattle.node_rules.specs.Data.acts
use Rattle.node_rules.specs.Data.decisions
use Rattle.node_rules.specs.Data.kinds
use Rattle.node_rules.specs.Data.records
use Rattle.node_rules.specs.Words.{same, item_at}
use Rattle.node_rules.specs.Inputs.{Came, Brings, Commit_came, Rollback_came, Rolled_back_came}
use Rattle.node_rules.specs.NodeState.{NodeState, Stored, TurnDraft, kept_row_id, kept_row_at, to_each}
use Rattle.node_rules.specs.Commit.{beyond, parent_beyond, kid_beyond, is_beyond, passes_commit}
use Rattle.node_rules.specs.Prepare.{site_neighbors}
use Rattle.node_rules.proofs.Steps as steps
use Rattle.node_rules.proofs.Steps.{Step}
use Rattle.run_branch_laws.specs.WalkLaws.{was_sent}
use Rattle.tree_laws.specs.BeyondLaws.{IsNamed}
use Rattle.tree_laws.proofs.RowLemmas.{kid_branch}
use Rattle.commit_spread_laws.specs.TellLaws.{is_commit_at}
use Rattle.tree_laws.proofs.AskRunLemmas.{sent_first as first_sent}
use Rattle.tree_laws.proofs.TellWhyLemmas.{kinds_apart}

-- ---- messages to several

same_number : (n : ℕ) → (n == n) ≡ true
same_number n = grind (arith, nat_tests)

module _ (kind : Kind → Bool) (me : BranchId) (x : Kind) (passes : kind x ≡ true) (q : BranchId) where
  -- a message to each of these was sent to each
  each_sent : (bs : List BranchId) → list_any (λ b. same b q) bs ≡ true → was_sent kind (to_each me x bs) me q ≡ true
  each_sent [] is = absurd cc
  each_sent (b ∷ bs) is = by (same b q) refl is (each_sent bs)
    where
      by : (w : Bool) → same b q ≡ w → (w || list_any (λ c. same c q) bs) ≡ true → (list_any (λ c. same c q) bs ≡ true → was_sent kind (to_each me x bs) me q ≡ true)
          → (((same me me && same b q) && kind x) || was_sent kind (to_each me x bs) me q) ≡ true
      by true here found rest = first_sent (same me me) (same b q) (kind x) (was_sent kind (to_each me x bs) me q) (same_from_equal me me refl) here passes
      by false other found rest = or_right ((same me me && same b q) && kind x) (was_sent kind (to_each me x bs) me q) (rest found)

any_branches : (q : BranchId) (bs : List Beyond) → list_any (λ c. same c q) (map (λ (b : Beyond). b.branch) bs) ≡ list_any (λ (b : Beyond). same b.branch q) bs
any_branches q [] = refl
any_branches q (b ∷ bs) = ap (λ r. same b.branch q || r) (any_branches q bs)

commit_sent : (s : KeptRow) (n : ℕ) (bs : List Beyond) (q : BranchId) → list_any (λ (b : Beyond). same b.branch q) bs ≡ true → was_sent (is_commit_at n) (passes_commit s n bs) s.me q ≡ true
commit_sent s n [] q is = absurd cc
commit_sent s n (b ∷ bs) q is = each_sent (is_commit_at n) s.me (kinds.Committed n) (same_number n) q (map (λ (c : Beyond). c.branch) (b ∷ bs)) (any_branches q (b ∷ bs) ∙ is)

-- ---- neighbours of a site

named_parent : (x : BranchId) (ys : List BranchId) (o : Option BranchId) → o ≡ Some x → list_any (λ c. same c x) (option_to_list o ++ ys) ≡ true
named_parent x ys None is = absurd cc
named_parent x ys (Some q) is = let it : q ≡ x = cc in or_left (same q x) (list_any (λ c. same c x) ys) (same_from_equal q x it)

named_kid : (x : BranchId) (i : ℕ) (es : List Edge) → list_any (λ c. same c x) (map (λ (c : Peer). c.branch) (named_children None i es)) ≡ true → list_any (λ c. same c x) (map (λ (e : Edge). e.peer) (filter is_prepared es)) ≡ true
named_kid x i [] is = absurd cc
named_kid x i (e ∷ es) is = by (is_prepared e) refl is (named_kid x (i + 1) es)
  where
    by : (w : Bool) → is_prepared e ≡ w
        → list_any (λ c. same c x) (map (λ (c : Peer). c.branch) (if w || false then (record { branch = e.peer; link = e.link }) ∷ named_children None (i + 1) es else named_children None (i + 1) es)) ≡ true
        → (list_any (λ c. same c x) (map (λ (c : Peer). c.branch) (named_children None (i + 1) es)) ≡ true → list_any (λ c. same c x) (map (λ (y : Edge). y.peer) (filter is_prepared es)) ≡ true)
        → list_any (λ c. same c x) (map (λ (y : Edge). y.peer) (if w then e ∷ filter is_prepared es else filter is_prepared es)) ≡ true
    by true here found rest = first (same e.peer x) refl found
      where
        first : (r : Bool) → same e.peer x ≡ r → (r || list_any (λ c. same c x) (map (λ (c : Peer). c.branch) (named_children None (i + 1) es))) ≡ true → (r || list_any (λ c. same c x) (map (λ (y : Edge). y.peer) (filter is_prepared es))) ≡ true
        first true it some = refl
        first false it some = rest some
    by false other found rest = rest found

-- whom the record of a site names it tells
neighbor_named : (l : Live) (x : BranchId) → IsNamed l.parent (map (λ (c : Peer). c.branch) (named_children None 1 l.edges)) x → list_any (λ c. same c x) (site_neighbors l) ≡ true
neighbor_named l x (inl up) = named_parent x (map (λ (e : Edge). e.peer) (filter is_prepared l.edges)) l.parent up
neighbor_named l x (inr down) =
    list_any-append (λ c. same c x) (option_to_list l.parent) (map (λ (e : Edge). e.peer) (filter is_prepared l.edges))
    ∙ or_right (list_any (λ c. same c x) (option_to_list l.parent)) _ (named_kid x 1 l.edges down)

-- ---- neighbours of a row

module _ (s : KeptRow) (x : BranchId) (apart : is_branch x s.toward ≡ false) where
  abbrev Is : Beyond → Bool
  Is b = same b.branch x

  up_beyond : (o : Option BranchId) → o ≡ Some x → list_any Is (parent_beyond s o) ≡ true
  up_beyond None is = absurd cc
  up_beyond (Some q) is =
      let it : q ≡ x = cc in
      let off : is_branch q s.toward ≡ false = ap (λ b. is_branch b s.toward) it ∙ apart in
      ap (λ w. list_any Is (if w then [] else (record { branch = q; acked = s.parent_acked; is_parent = true }) ∷ [])) off ∙ or_left (same q x) false (same_from_equal q x it)

  down_beyond : (cs : List Kid) → list_any (λ c. same c x) (map kid_branch cs) ≡ true → list_any Is (map kid_beyond (filter (λ c. not (is_branch c.branch s.toward)) cs)) ≡ true
  down_beyond [] is = absurd cc
  down_beyond (c ∷ cs) is = by (same c.branch x) refl (is_branch c.branch s.toward) refl is (down_beyond cs)
    where
      by : (q : Bool) → same c.branch x ≡ q → (w : Bool) → is_branch c.branch s.toward ≡ w → (q || list_any (λ b. same b x) (map kid_branch cs)) ≡ true
          → (list_any (λ b. same b x) (map kid_branch cs) ≡ true → list_any Is (map kid_beyond (filter (λ (y : Kid). not (is_branch y.branch s.toward)) cs)) ≡ true)
          → list_any Is (map kid_beyond (if not w then c ∷ filter (λ (y : Kid). not (is_branch y.branch s.toward)) cs else filter (λ (y : Kid). not (is_branch y.branch s.toward)) cs)) ≡ true
      by true here false off found later = or_left (same c.branch x) (list_any Is (map kid_beyond (filter (λ (y : Kid). not (is_branch y.branch s.toward)) cs))) here
      by true here true on found later = (let no : is_branch c.branch s.toward ≡ false = ap (λ b. is_branch b s.toward) (equal_from_same c.branch x here) ∙ apart in absurd (cc (on, no)))
      by false here false off found later = or_right (same c.branch x) (list_any Is (map kid_beyond (filter (λ (y : Kid). not (is_branch y.branch s.toward)) cs))) (later found)
      by false here true on found later = later found

  -- whom a row names, and who is not toward, is beyond
  pub named_beyond : IsNamed s.parent (map kid_branch s.children) x → is_beyond s x ≡ true
  unfolding beyond
  named_beyond (inl up) =
      list_any-append Is (parent_beyond s s.parent) (map kid_beyond (filter (λ c. not (is_branch c.branch s.toward)) s.children))
      ∙ or_left (list_any Is (parent_beyond s s.parent)) _ (up_beyond s.parent up)
  named_beyond (inr down) =
      list_any-append Is (parent_beyond s s.parent) (map kid_beyond (filter (λ c. not (is_branch c.branch s.toward)) s.children))
      ∙ or_right (list_any Is (parent_beyond s s.parent)) _ (down_beyond s.children down)

-- ---- every step

-- no Ack came
abbrev NoAck : Input → Type 0
NoAck input = (from to : BranchId) → Came input from to kinds.Ack → ⊥

brings_no_ack : {input : Input} {from to : BranchId} {d : Decision} → Brings input from to d → NoAck input
brings_no_ack (Commit_came n came) a b ack = (let it : kinds.Committed n ≡ kinds.Ack = kinds_apart came ack in absurd cc)
brings_no_ack (Rollback_came came) a b ack = (let it : kinds.Rollback ≡ kinds.Ack = kinds_apart came ack in absurd cc)
brings_no_ack (Rolled_back_came came) a b ack = (let it : kinds.RolledBack ≡ kinds.Ack = kinds_apart came ack in absurd cc)

module _ (k0 : NodeState) (input : Input) where
  -- the branch has a row, and each neighbour beyond by it is told
  abbrev pub TellsByRow : List Post → BranchId → ℕ → Type 0
  TellsByRow says b n = (s : KeptRow) × (kept_row_at k0 b ≡ Some s) × ((x : BranchId) → is_beyond s x ≡ true → was_sent (is_commit_at n) says b x ≡ true)

  -- what goes out with a record
  abbrev pub TellsCommit : List Post → RedoRecord → Type 0
  TellsCommit says (records.Decided r) = (x : BranchId) → IsNamed r.parent (map (λ (c : Peer). c.branch) r.children) x → was_sent (is_commit_at r.scn) says r.me x ≡ true
  TellsCommit says (records.Ended b (decisions.Commit n)) = TellsByRow says b n
  TellsCommit says (records.Met b (decisions.Commit n) mixed) = TellsByRow says b n
  TellsCommit says _ = Unit {0}

  -- the rows of the node are as they were, unless an Ack came
  abbrev Near : NodeState → Type 0
  Near k = NoAck input → k.stored ≡ k0.stored

  row_there : (k : NodeState) → Near k → (s : KeptRow) {from : BranchId} {d : Decision} → Brings input from s.me d → kept_row_at k s.me ≡ Some s → kept_row_at k0 s.me ≡ Some s
  row_there k near s brings kept = subst (λ (x : Stored). item_at kept_row_id x.durable.kept s.me ≡ Some s) (near (brings_no_ack brings)) kept

  module _ (p : Place) where
    pub tells_on : {k : NodeState} {d : TurnDraft} → Step p input k d → Near k → IfSome d.wrote (TellsCommit d.says)
    tells_on (steps.Begins n s read_at call begins range free step) near = tells_on step near
    tells_on (steps.Counts_call n s call counts step) near = tells_on step near
    tells_on (steps.Goes_back x step goes next) near = tells_on next near
    tells_on (steps.Pends n l given call has live code writer step) near = tells_on step near
    tells_on (steps.Lets_reads_go l comment below live begins step) near = tells_on step near
    tells_on (steps.Counts_ack s from kept came counts step) near = tells_on step (λ no. absurd (no from s.me came))
    tells_on (steps.Acts {k = k} l below acts.Decide why) near =
        λ x named. each_sent (is_commit_at (k.clock + 1)) l.me (kinds.Committed (k.clock + 1)) (same_number (k.clock + 1)) x (site_neighbors l) (neighbor_named l x named)
    tells_on (steps.Does {k = k} s from (nexts.End (decisions.Commit n)) kept (steps.Ends_so _ brings toward none state met)) near =
        (s, row_there k near s brings kept, λ x there. commit_sent s n (beyond s) x there)
    tells_on (steps.Does {k = k} s from (nexts.Meet (decisions.Commit n) mixed) kept (steps.Meets_so _ brings toward none sealed committed met)) near =
        (s, row_there k near s brings kept, λ x there. commit_sent s n (beyond s) x there)
    tells_on (steps.Makes_record n s r d call (steps.Sets_recovery on)) near = tt
    tells_on (steps.Gives_up_commit n b None gives has calls live) near = tt
    tells_on _ near = tt
