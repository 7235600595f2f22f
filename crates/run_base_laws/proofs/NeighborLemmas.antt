-- The neighbours that live branches and rows name, as these began, and what keeps them so.
use Rattle.std.proofs.Common.{◌≡◌, ℕ, zero, suc, ◌+◌, ◌==◌, ◌&&◌, ◌||◌, Bool, true, false, if◌then◌else◌, List, [], ◌∷◌, ◌++◌, length, map, filter, find, slice_get, slice_set, unwrap_or, option_map, Option, Some, None, inl, inr, refl, sym, ap, subst, ◌∙◌, arith}
use Rattle.std.specs.Option.{option_to_list}
use Rattle.std.specs.List.{AllByRecursion}
use Rattle.std.proofs.lemmas.Bool.{cond_both}
use Rattle.redo_record.specs.Rows.{toward_of, kid_of, sealed_as, decided_as}
use Rattle.commit_forget.specs.Next.{acks_kid}
use Rattle.node_rules.specs.Data.{Change, Stmt, BranchId, Edge, Peer, Live, KeptRow, RedoRecord, Place, Input}
use Rattle.node_rules.specs.Data.kinds
use Rattle.node_rules.specs.declared.work.Going.{Going}
use Rattle.node_rules.specs.declared.work.Waits.{Waits}
use Rattle.node_rules.specs.declared.work.Waits.TheVariants as waiting
use Rattle.node_rules.specs.Words.{same, numbered, set_numbered}
use Rattle.node_rules.specs.Inputs.{Came, IsCall}
use Rattle.session_tree.specs.Live.{children_of, peer_of, edge_at}
use Rattle.node_rules.specs.NodeState.{NodeState, Branch, Stored}
use Rattle.node_rules.specs.Records.{applied, stored_by}
use Rattle.node_rules.specs.Sessions.{session_at}
use Rattle.node_rules.specs.Calls.{is_opening, next_child, reply_edge, reply_waits, reply_going, reply_of, strength_of}
use Rattle.node_rules.specs.Prepare.{is_place, is_prepared, named_children, toward_in, sealed_of, decided_of, site_neighbors}
use Rattle.node_rules.specs.Commit.{acked_by}
use Rattle.node_rules.specs.Client.{new_root}
use Rattle.node_rules.proofs.Steps.{BeginsBy}
use Rattle.run_rules.specs.Births.{Born, root_born, child_born}
use Rattle.run_base_laws.specs.BirthLaws.{IsChild, IsChildAt, AreNeighbors, ChildrenAre, LiveIs, TowardIs, KeptIs, RecordNames}
use Rattle.run_base_laws.proofs.RowRecordLemmas.{RowCases, rows_applied as applied_so, rows_stored as stored_so}
use Rattle.run_rules.proofs.ListLemmas.{all_weaker, all_filter, all_append, all_map}

-- what is found with a test is so
pub find_so : {A : Type 0} (P : A → Type 0) (test : A → Bool) (xs : List A) (y : A) → AllByRecursion P xs → find test xs ≡ Some y → P y
find_so P test [] y all found = absurd cc
find_so P test (x ∷ xs) y all found = by (test x) found (find_so P test xs y all.1)
  where
    by : (here : Bool) → (if here then Some x else find test xs) ≡ Some y → (find test xs ≡ Some y → P y) → P y
    by true found later = subst P (let it : Some x ≡ Some y = found in cc) all.0
    by false found later = later found

-- an edge with its number
abbrev Found : ℕ → Edge → Option (ℕ × Edge)
Found i e = Some (i, e)

-- a Reply that is waited for comes over the edge that it is said to come over
reply_edge_is : (x : Branch) (from : BranchId) (call i : ℕ) (o : Option Edge) (j : ℕ) (e : Edge) → reply_edge x from call i o ≡ Some (j, e) → (o ≡ Some e) × (i ≡ j)
reply_edge_is x from call i None j e is = absurd cc
reply_edge_is x from call i (Some y) j e is = by (same y.peer from && (unwrap_or (numbered x.work.calls i) 0 == call)) is
  where
    by : (here : Bool) → (if here then Found i y else None) ≡ Found j e → (Some y ≡ Some e) × (i ≡ j)
    by true at = let it : Found i y ≡ Found j e = at in (ap (option_map (λ (q : ℕ × Edge). q.1)) it, (let same_number : Some i ≡ Some j = ap (option_map (λ (q : ℕ × Edge). q.0)) it in cc))
    by false at = absurd cc

reply_waits_is : (x : Branch) (from : BranchId) (call : ℕ) (w : Waits) (j : ℕ) (e : Edge) → reply_waits x from call w ≡ Some (j, e) → edge_at x.live j ≡ Some e
reply_waits_is x from call (waiting.ForOpened link) j e is = absurd cc
reply_waits_is x from call (waiting.ForReply i) j e is = let at = reply_edge_is x from call i (edge_at x.live i) j e is in subst (λ m. edge_at x.live m ≡ Some e) at.1 at.0

reply_going_is : (x : Branch) (from : BranchId) (call : ℕ) (g : Option Going) (j : ℕ) (e : Edge) → reply_going x from call g ≡ Some (j, e) → edge_at x.live j ≡ Some e
reply_going_is x from call None j e is = absurd cc
reply_going_is x from call (Some g) j e is = reply_waits_is x from call g.waits j e is

pub reply_is : (x : Branch) (from : BranchId) (call j : ℕ) (e : Edge) → reply_of x from call ≡ Some (j, e) → edge_at x.live j ≡ Some e
unfolding reply_of
reply_is x from call j e is = reply_going_is x from call x.work.going j e is

-- What is known of the branches that a turn begins.
pub record News (B : Born → Type 0) (p : Place) (input : Input) (k : NodeState) : Type 0 where
  pub root : (n : ℕ) (s : Stmt) (read_at : Option ℕ) → IsCall input n s → BeginsBy k.clock s read_at → (session_at k.sessions n).root ≡ None → B (root_born (new_root p k n) (strength_of p k) read_at)
  pub child : (to parent : BranchId) (edge : ℕ) (root : BranchId) (depth : ℕ) (read_at : Option ℕ) → Came input parent to (kinds.Open edge root depth read_at) → find (is_opening parent edge) k.opens ≡ None
      → B (child_born (next_child p k) parent edge root depth (strength_of p k) read_at)

module _ (B : Born → Type 0) where
  -- ---- neighbours

  pub turned : (a b : BranchId) → AreNeighbors B a b → AreNeighbors B b a
  turned a b (inl up) = inr up
  turned a b (inr down) = inl down

  pub all_children : (me : BranchId) (i : ℕ) (es : List Edge) → ChildrenAre B me i es → AllByRecursion (λ e. IsChild B e.peer me) es
  all_children me i [] all = tt
  all_children me i (e ∷ es) all = (let at : IsChildAt B e.peer me i = all.0 in (at.0, at.1, at.2, at.3), all_children me (i + 1) es all.1)

  -- edges of the same children
  pub children_map : (h : Edge → Edge) → ((e : Edge) → (h e).peer ≡ e.peer) → (me : BranchId) (i : ℕ) (es : List Edge) → ChildrenAre B me i es → ChildrenAre B me i (map h es)
  children_map h each me i [] all = tt
  children_map h each me i (e ∷ es) all = (subst (λ c. IsChildAt B c me i) (sym (each e)) all.0, children_map h each me (i + 1) es all.1)

  children_set : (me : BranchId) (i : ℕ) (es : List Edge) (j : ℕ) (e x : Edge) → slice_get es j ≡ Some e → x.peer ≡ e.peer → ChildrenAre B me i es → ChildrenAre B me i (slice_set es j x)
  children_set me i [] j e x at same_peer all = absurd cc
  children_set me i (y ∷ ys) zero e x at same_peer all =
      (subst (λ c. IsChildAt B c me i) (sym (same_peer ∙ ap (λ z. z.peer) (let it : Some y ≡ Some e = at in let here : e ≡ y = cc in here))) all.0, all.1)
  children_set me i (y ∷ ys) (suc j) e x at same_peer all = (all.0, children_set me (i + 1) ys j e x at same_peer all.1)

  pub children_numbered : (me : BranchId) (es : List Edge) (j : ℕ) (e x : Edge) → numbered es j ≡ Some e → x.peer ≡ e.peer → ChildrenAre B me 1 es → ChildrenAre B me 1 (set_numbered es j x)
  children_numbered me es zero e x at same_peer all = all
  children_numbered me es (suc j) e x at same_peer all = children_set me 1 es j e x at same_peer all

  pub children_last : (me : BranchId) (i : ℕ) (es : List Edge) (e : Edge) (j : ℕ) → j ≡ i + length es → IsChildAt B e.peer me j → ChildrenAre B me i es → ChildrenAre B me i (es ++ e ∷ [])
  children_last me i [] e j is at all = (subst (IsChildAt B e.peer me) (let here : j ≡ i = omega (arith, is) in here) at, tt)
  children_last me i (y ∷ ys) e j is at all = (all.0, children_last me (i + 1) ys e j (omega (arith, is)) at all.1)

  slice_child : (me : BranchId) (es : List Edge) (i : ℕ) (b : BranchId) → AllByRecursion (λ e. IsChild B e.peer me) es → option_map (λ e. e.peer) (slice_get es i) ≡ Some b → IsChild B b me
  slice_child me [] i b all is = absurd cc
  slice_child me (e ∷ es) zero b all is = subst (λ c. IsChild B c me) (let it : Some e.peer ≡ Some b = is in cc) all.0
  slice_child me (e ∷ es) (suc i) b all is = slice_child me es i b all.1 is

  module _ (l : Live) (is : LiveIs B l) where
    -- its parent
    pub up : (b : BranchId) → l.parent ≡ Some b → IsChild B l.me b
    up b at = (is.born, is.began, is.is_me, is.is_parent ∙ at)

    -- its children
    pub edges_down : AllByRecursion (λ e. IsChild B e.peer l.me) l.edges
    edges_down = all_children l.me 1 l.edges is.children

    pub downs : AllByRecursion (λ b. IsChild B b l.me) (children_of l)
    downs = all_map (λ b. IsChild B b l.me) (λ e. e.peer) l.edges edges_down

    pub peer_child : (i : ℕ) (b : BranchId) → peer_of l i ≡ Some b → IsChild B b l.me
    peer_child zero b at = absurd cc
    peer_child (suc i) b at = slice_child l.me l.edges i b edges_down at

    parents_are : (parent : Option BranchId) → ((b : BranchId) → parent ≡ Some b → IsChild B l.me b) → AllByRecursion (AreNeighbors B l.me) (option_to_list parent)
    parents_are None above = tt
    parents_are (Some b) above = (inl (above b refl), tt)

    -- the neighbours of a site
    pub neighbors_are : AllByRecursion (AreNeighbors B l.me) (site_neighbors l)
    neighbors_are =
        all_append (AreNeighbors B l.me) (option_to_list l.parent) _ (parents_are l.parent up)
        (all_map (AreNeighbors B l.me) (λ e. e.peer) (filter is_prepared l.edges)
        (all_filter (λ e. IsChild B e.peer l.me) (λ e. AreNeighbors B l.me e.peer) is_prepared (λ e prepared down. inr down) l.edges edges_down))

  -- ---- rows

  named_are : (me : BranchId) (path : Option ℕ) (i : ℕ) (es : List Edge) → AllByRecursion (λ e. IsChild B e.peer me) es → AllByRecursion (λ q. IsChild B q.branch me) (named_children path i es)
  named_are me path i [] all = tt
  named_are me path i (e ∷ es) all =
      cond_both (is_prepared e || is_place i path) _ _ (AllByRecursion (λ q. IsChild B q.branch me)) (λ named. (all.0, named_are me path (i + 1) es all.1)) (λ other. named_are me path (i + 1) es all.1)

  slice_toward : (me : BranchId) (ps : List Peer) (i : ℕ) → AllByRecursion (λ q. IsChild B q.branch me) ps → TowardIs B me (option_map (λ q. q.branch) (slice_get ps i))
  slice_toward me [] i all = tt
  slice_toward me (q ∷ ps) zero all = inr all.0
  slice_toward me (q ∷ ps) (suc i) all = slice_toward me ps i all.1

  parent_toward : (me : BranchId) (parent : Option BranchId) → ((b : BranchId) → parent ≡ Some b → IsChild B me b) → TowardIs B me parent
  parent_toward me None above = tt
  parent_toward me (Some b) above = inl (above b refl)

  module _ (l : Live) (is : LiveIs B l) (scn : ℕ) (cs : List Change) where
    seal_toward : (path : Option ℕ) → TowardIs B l.me (toward_of (sealed_of scn l cs path) (toward_in path l.edges))
    seal_toward None = parent_toward l.me l.parent (up l is)
    seal_toward (Some i) = slice_toward l.me (named_children (Some i) 1 l.edges) _ (named_are l.me (Some i) 1 l.edges (edges_down l is))

    -- a seal names its branch's neighbours
    pub seal_names : (path : Option ℕ) → KeptIs B (sealed_as (sealed_of scn l cs path))
    seal_names path = record {
      born = is.born;
      began = is.began;
      is_me = is.is_me;
      is_root = is.is_root;
      is_parent = is.is_parent;
      kids = all_map (λ c. IsChild B c.branch l.me) kid_of (named_children path 1 l.edges) (named_are l.me path 1 l.edges (edges_down l is));
      site_way = seal_toward path;
    }

    -- so does a decision
    pub decide_names : KeptIs B (decided_as (decided_of scn l cs))
    decide_names = record {
      born = is.born;
      began = is.began;
      is_me = is.is_me;
      is_root = is.is_root;
      is_parent = is.is_parent;
      kids = all_map (λ c. IsChild B c.branch l.me) kid_of (named_children None 1 l.edges) (named_are l.me None 1 l.edges (edges_down l is));
      site_way = tt;
    }

  each_row : RowCases (RecordNames B) (KeptIs B)
  each_row = record { seals = λ r is. is; decides = λ r is. is; ends = λ n x so. so; forces = λ d x so. so; meets = λ d mixed x so. so; forgets = λ x so. so; hides = λ x so. so }

  -- the rows after a record that names branches as they began
  pub rows_applied : (s : Stored) (r : RedoRecord) → RecordNames B r → AllByRecursion (KeptIs B) s.durable.kept → AllByRecursion (KeptIs B) (applied s r).durable.kept
  rows_applied s r is all = applied_so each_row s r is all

  pub rows_stored : (s : Stored) (rs : List RedoRecord) → AllByRecursion (RecordNames B) rs → AllByRecursion (KeptIs B) s.durable.kept → AllByRecursion (KeptIs B) (stored_by s rs).durable.kept
  rows_stored s rs is all = stored_so each_row s rs is all

  pub acked_row : (s : KeptRow) (from : BranchId) → KeptIs B s → KeptIs B (acked_by s from)
  acked_row s from is = record {
    born = is.born;
    began = is.began;
    is_me = is.is_me;
    is_root = is.is_root;
    is_parent = is.is_parent;
    kids = all_map (λ c. IsChild B c.branch s.me) (acks_kid from) s.children
        (all_weaker (λ c. IsChild B c.branch s.me) _ (λ c so. cond_both (same c.branch from) (record c { acked = true }) c (λ x. IsChild B x.branch s.me) (λ here. so) (λ other. so)) s.children is.kids);
    site_way = is.site_way;
  }
