-- An act of the prepare phase holds and says no more of what is between two branches than its branch held; what its parent told it
-- comes to that, where it decides or passes CommitPoint on.
use Rattle.std.proofs.Common.{◌≡◌, ℕ, zero, suc, ◌+◌, ◌≤◌, ◌&&◌, ◌||◌, not, Bool, true, false, if◌then◌else◌, List, [], ◌∷◌, ◌++◌, map, filter, is_none, option_map, Option, Some, None, refl, sym, ap, subst, ◌∙◌, arith}
use Rattle.std.specs.Option.{option_to_list}
use Rattle.std.specs.List.{list_any}
use Rattle.std.proofs.lemmas.Bool.{cond_both}
use Rattle.tran_ids.proofs.BranchLemmas.{same_from_equal}
use Rattle.redo_record.specs.declared.record.Peer.{Peer}
use Rattle.redo_record.specs.Durable.{durable_after}
use Rattle.redo_record.specs.Kept.{kept_after, add_kept, keep_decided}
use Rattle.redo_record.specs.Rows.{sealed_as, decided_as, has_neighbors, kid_of}
use Rattle.commit_forget.specs.Beyond.{beyond, parent_beyond, kid_beyond}
use Rattle.session_tree.specs.Live.{children_of, peer_of, is_branch}
use Rattle.session_tree.specs.Tree.{weight, step}
use Rattle.prepare_phase.specs.Records.{is_place}
use Rattle.node_rules.specs.Data.{Act, Beyond, BranchId, Edge, Kid, KeptRow, Live, Post, Vote}
use Rattle.node_rules.specs.Data.acts
use Rattle.node_rules.specs.Data.kinds
use Rattle.node_rules.specs.Data.records
use Rattle.node_rules.specs.Data.votes
use Rattle.node_rules.specs.Words.{same, numbered}
use Rattle.node_rules.specs.Records.{applied, with_record}
use Rattle.node_rules.specs.NodeState.{NodeState, live_id, live_at, kept_row_id, to_each, to_one, with_live, without_branch}
use Rattle.node_rules.specs.Prepare.{act_turn, path_of, named_children, is_prepared, ready, site_neighbors, sealed_of, decided_of, own_changes, collected_act, root_act, first_act_by, next_act, answer_act, all_answered}
use Rattle.commit_length_laws.proofs.TotalLemmas.{total_append, drop_total, put_total, insert_total}
use Rattle.commit_length_laws.proofs.BetweenLemmas.{when_low, when_most, when_both, says_between, each_none, one_none, asks_none, each_told, live_between_is, row_between_low}
use Rattle.commit_length_laws.specs.Worth.{total}
use Rattle.commit_length_laws.specs.Once.{when, on, message_between, peers, edges_between, named, heard, live_between, row_between, node_between}

-- ---- the neighbours beyond a new row

-- the parent as a neighbour
abbrev pub parent_on : Option BranchId → BranchId → ℕ
parent_on None b = 0
parent_on (Some q) b = on q b

-- and where the branch passes CommitPoint on
abbrev passed_on : Option ℕ → Option BranchId → BranchId → ℕ
passed_on None o b = 0
passed_on (Some i) o b = parent_on o b

module _ (w : BranchId) where
  abbrev is_heard : Beyond → Bool
  is_heard y = same y.branch w && y.acked

  named_peers : (path : Option ℕ) (i : ℕ) (es : List Edge) → total (λ (q : Peer). on q.branch w) (named_children path i es) ≤ total (λ (e : Edge). on e.peer w) es
  named_peers path i [] = omega arith
  named_peers path i (e ∷ es) = by (is_prepared e || is_place i path) (named_peers path (i + 1) es)
    where
      by : (q : Bool) → total (λ (x : Peer). on x.branch w) (named_children path (i + 1) es) ≤ total (λ (y : Edge). on y.peer w) es
          → total (λ (x : Peer). on x.branch w) (if q then record { branch = e.peer; link = e.link } ∷ named_children path (i + 1) es else named_children path (i + 1) es) ≤ on e.peer w + total (λ (y : Edge). on y.peer w) es
      by true rest = omega (arith, rest)
      by false rest = omega (arith, rest)

  kids_named : (keep : Kid → Bool) (ps : List Peer) → total (λ (y : Beyond). on y.branch w) (map kid_beyond (filter keep (map kid_of ps))) ≤ total (λ (q : Peer). on q.branch w) ps
  kids_named keep [] = omega arith
  kids_named keep (q ∷ ps) =
      (let rest = kids_named keep ps in
      cond_both (keep (kid_of q)) (kid_of q ∷ filter keep (map kid_of ps)) (filter keep (map kid_of ps)) (λ ks. total (λ (y : Beyond). on y.branch w) (map kid_beyond ks) ≤ on q.branch w + total (λ (x : Peer). on x.branch w) ps)
      (λ is. omega (arith, rest)) (λ other. omega (arith, rest)))

  and_off : (q : Bool) → (q && false) ≡ false
  and_off true = refl
  and_off false = refl

  or_off : (p q : Bool) → p ≡ false → q ≡ false → (p || q) ≡ false
  or_off true q one two = absurd cc
  or_off false q one two = two

  kids_unheard : (keep : Kid → Bool) (ps : List Peer) → list_any is_heard (map kid_beyond (filter keep (map kid_of ps))) ≡ false
  kids_unheard keep [] = refl
  kids_unheard keep (q ∷ ps) =
      (let rest = kids_unheard keep ps in
      cond_both (keep (kid_of q)) (kid_of q ∷ filter keep (map kid_of ps)) (filter keep (map kid_of ps)) (λ ks. list_any is_heard (map kid_beyond ks) ≡ false)
      (λ is. or_off (same q.branch w && false) (list_any is_heard (map kid_beyond (filter keep (map kid_of ps)))) (and_off (same q.branch w)) rest) (λ other. rest))

  any_more : (xs ys : List Beyond) → list_any is_heard xs ≡ false → list_any is_heard ys ≡ false → list_any is_heard (xs ++ ys) ≡ false
  any_more [] ys one two = two
  any_more (x ∷ xs) ys one two = by (is_heard x) one (any_more xs ys)
    where
      by : (q : Bool) → (q || list_any is_heard xs) ≡ false → (list_any is_heard xs ≡ false → list_any is_heard ys ≡ false → list_any is_heard (xs ++ ys) ≡ false) → (q || list_any is_heard (xs ++ ys)) ≡ false
      by true is rest = absurd cc
      by false is rest = rest is two

  parent_unheard : (s : KeptRow) (o : Option BranchId) → s.parent_acked ≡ false → list_any is_heard (parent_beyond s o) ≡ false
  parent_unheard s None acked = refl
  parent_unheard s (Some b) acked =
      cond_both (is_branch b s.toward) [] (record { branch = b; acked = s.parent_acked; is_parent = true } ∷ []) (λ (ys : List Beyond). list_any is_heard ys ≡ false) (λ is. refl)
      (λ other. or_off (same b w && s.parent_acked) false (ap (λ q. same b w && q) acked ∙ and_off (same b w)) refl)

  parent_named : (s : KeptRow) (o : Option BranchId) → total (λ (y : Beyond). on y.branch w) (parent_beyond s o) ≤ parent_on o w
  parent_named s None = omega arith
  parent_named s (Some b) =
      cond_both (is_branch b s.toward) [] (record { branch = b; acked = s.parent_acked; is_parent = true } ∷ []) (λ (ys : List Beyond). total (λ (y : Beyond). on y.branch w) ys ≤ on b w) (λ is. omega arith) (λ other. omega arith)

  -- the parent that is toward is not beyond
  parent_toward : (s : KeptRow) (o : Option BranchId) → s.toward ≡ o → total (λ (y : Beyond). on y.branch w) (parent_beyond s o) ≡ 0
  parent_toward s None toward = refl
  parent_toward s (Some b) toward =
      cond_both (is_branch b s.toward) [] (record { branch = b; acked = s.parent_acked; is_parent = true } ∷ []) (λ (ys : List Beyond). total (λ (y : Beyond). on y.branch w) ys ≡ 0) (λ is. refl)
      (λ other. (let yes : is_branch b s.toward ≡ true = ap (is_branch b) toward ∙ same_from_equal b b refl in absurd (cc (yes, other))))

module _ (z w g : BranchId) where
  abbrev says : List Post → ℕ
  says ms = says_between z w ms

  abbrev held : NodeState → ℕ
  held k = node_between z w g k

  abbrev own : Live → ℕ
  own l = live_between z w g l

  -- whether an act tells the parent the commit, or may yet
  abbrev pub is_passing : Act → Bool
  is_passing (acts.SealAndPass i) = true
  is_passing acts.Decide = true
  is_passing _ = false

  peers_at : (b : BranchId) (es : List Edge) (i : ℕ) (e : Edge) → numbered es i ≡ Some e → on e.peer b ≤ peers b es
  peers_at b es zero e at = absurd cc
  peers_at b [] (suc i) e at = absurd cc
  peers_at b (y ∷ es) (suc zero) e at = (let both : Some y ≡ Some e = at in let it : y ≡ e = cc in let alike : on y.peer b ≡ on e.peer b = ap (λ (x : Edge). on x.peer b) it in omega (arith, alike))
  peers_at b (y ∷ es) (suc (suc i)) e at = (let rest = peers_at b es (suc i) e at in omega (arith, rest))

  module _ (k : NodeState) (x l : Live) (found : live_at k l.me ≡ Some x) (of : same l.root g ≡ true) where
    left : held (without_branch k l.me) + own x ≤ held k
    left = (let low = drop_total own live_id l.me k.lives x found in omega (arith, low))

    stays : (y : Live) → y.me ≡ l.me → held (with_live k y) + own x ≡ held k + own y
    stays y me =
        let at : live_at k y.me ≡ Some x = subst (λ b. live_at k b ≡ Some x) (sym me) found in
        let is = put_total own live_id k.lives y x at in
        omega (arith, is)

    own_is : own l ≡ edges_between z w l.me l.edges
    own_is = live_between_is z w g l of

    sealed_low : (scn : ℕ) (path : Option ℕ) → row_between z w g (sealed_as (sealed_of scn l (own_changes k l.me) path)) ≤ when (same l.me z) (peers w l.edges + passed_on path l.parent w)
    unfolding beyond
    sealed_low scn path =
        let s : KeptRow = sealed_as (sealed_of scn l (own_changes k l.me) path) in
        let low = row_between_low z w g s in
        let kids = kids_named w (λ c. not (is_branch c.branch s.toward)) (named_children path 1 l.edges) in
        let few = named_peers w path 1 l.edges in
        let all = total_append (λ (y : Beyond). on y.branch w) (parent_beyond s l.parent) (map kid_beyond (filter (λ (c : Kid). not (is_branch c.branch s.toward)) (map kid_of (named_children path 1 l.edges)))) in
        let unheard : heard w (beyond s) ≡ 0
        = ap (λ q. when q 1) (any_more w (parent_beyond s l.parent) (map kid_beyond (filter (λ (c : Kid). not (is_branch c.branch s.toward)) (map kid_of (named_children path 1 l.edges)))) (parent_unheard w s l.parent refl) (kids_unheard w (λ c. not (is_branch c.branch s.toward)) (named_children path 1 l.edges))) in
        let up = up_low path in
        let most : named w (beyond s) + heard w (beyond s) ≤ peers w l.edges + passed_on path l.parent w = omega (arith, kids, few, all, unheard, up) in
        let here = when_low (same l.me z) _ _ most in
        let none : when (same l.me w) 0 ≤ 0 = when_most (same l.me w) 0 in
        omega (arith, low, here, none)
      where
        up_low : (path : Option ℕ) → total (λ (y : Beyond). on y.branch w) (parent_beyond (sealed_as (sealed_of scn l (own_changes k l.me) path)) l.parent) ≤ passed_on path l.parent w
        up_low None = (let is = parent_toward w (sealed_as (sealed_of scn l (own_changes k l.me) None)) l.parent refl in omega (arith, is))
        up_low (Some i) = parent_named w (sealed_as (sealed_of scn l (own_changes k l.me) (Some i))) l.parent

    decided_none : (scn : ℕ) → row_between z w g (decided_as (decided_of scn l (own_changes k l.me))) ≤ 0
    unfolding beyond
    decided_none scn =
        let s : KeptRow = decided_as (decided_of scn l (own_changes k l.me)) in
        let low = row_between_low z w g s in
        let unheard : heard w (beyond s) ≡ 0
        = ap (λ q. when q 1) (any_more w (parent_beyond s l.parent) (map kid_beyond (filter (λ (c : Kid). not (is_branch c.branch s.toward)) (map kid_of (named_children None 1 l.edges)))) (parent_unheard w s l.parent refl) (kids_unheard w (λ c. not (is_branch c.branch s.toward)) (named_children None 1 l.edges))) in
        let here = when_most (same l.me z) (heard w (beyond s)) in
        let none : when (same l.me w) 0 ≤ 0 = when_most (same l.me w) 0 in
        omega (arith, low, unheard, here, none)

    -- a seal
    seals_low : (path : Option ℕ) (ms : List Post) (n : ℕ) → says ms ≤ n
        → says ms + held (with_record (without_branch k l.me) (records.Sealed (sealed_of k.clock l (own_changes k l.me) path))) + own x ≤ (n + when (same l.me z) (peers w l.edges + passed_on path l.parent w)) + held k
    unfolding applied durable_after kept_after
    seals_low path ms n few =
        let gone = left in
        let row = sealed_low k.clock path in
        let more = insert_total (row_between z w g) kept_row_id k.stored.durable.kept (sealed_as (sealed_of k.clock l (own_changes k l.me) path)) in
        omega (arith, few, gone, row, more)

    prepared_named : (es : List Edge) → total (λ b. on b w) (map (λ (e : Edge). e.peer) (filter is_prepared es)) ≤ peers w es
    prepared_named [] = omega arith
    prepared_named (e ∷ es) =
        (let rest = prepared_named es in
        cond_both (is_prepared e) (e ∷ filter is_prepared es) (filter is_prepared es) (λ ys. total (λ b. on b w) (map (λ (y : Edge). y.peer) ys) ≤ on e.peer w + peers w es) (λ is. omega (arith, rest)) (λ other. omega (arith, rest)))

    list_named : (o : Option BranchId) → total (λ b. on b w) (option_to_list o) ≡ parent_on o w
    list_named None = refl
    list_named (Some q) = omega arith

    decides_low : says (act_turn k l true acts.Decide).says + held (act_turn k l true acts.Decide).after + own x ≤ when (same l.me z) (peers w l.edges + parent_on l.parent w) + held k
    unfolding applied durable_after kept_after
    decides_low =
        let gone = left in
        let row = decided_none (k.clock + 1) in
        let told = each_told z w l.me (k.clock + 1) (site_neighbors l) in
        let one = list_named l.parent in
        let two = prepared_named l.edges in
        let all = total_append (λ b. on b w) (option_to_list l.parent) (map (λ (e : Edge). e.peer) (filter is_prepared l.edges)) in
        let few = when_low (same l.me z) (total (λ b. on b w) (site_neighbors l)) (peers w l.edges + parent_on l.parent w) (omega (arith, one, two, all)) in
        let more : total (row_between z w g) (keep_decided k.stored.durable.kept (decided_as (decided_of (k.clock + 1) l (own_changes k l.me)))) ≤ total (row_between z w g) k.stored.durable.kept + row_between z w g (decided_as (decided_of (k.clock + 1) l (own_changes k l.me)))
        = cond_both (has_neighbors (decided_as (decided_of (k.clock + 1) l (own_changes k l.me)))) (add_kept k.stored.durable.kept (decided_as (decided_of (k.clock + 1) l (own_changes k l.me)))) k.stored.durable.kept
        (λ ks. total (row_between z w g) ks ≤ total (row_between z w g) k.stored.durable.kept + row_between z w g (decided_as (decided_of (k.clock + 1) l (own_changes k l.me))))
        (λ some. (let is = insert_total (row_between z w g) kept_row_id k.stored.durable.kept (decided_as (decided_of (k.clock + 1) l (own_changes k l.me))) in omega (arith, is))) (λ none. omega arith) in
        omega (arith, gone, row, told, few, more)

    -- CommitPoint to a child
    point_low : (i : ℕ) (o : Option BranchId) → peer_of l i ≡ o → says (to_one l.me kinds.CommitPoint o) ≤ when (same l.me w) (peers z l.edges)
    point_low i None is = omega arith
    point_low i (Some c) is = by (numbered l.edges i) refl
      where
        by : (e : Option Edge) → numbered l.edges i ≡ e → says (to_one l.me kinds.CommitPoint (Some c)) ≤ when (same l.me w) (peers z l.edges)
        by None at = absurd (cc (at, is))
        by (Some e) at =
            let it : Some e.peer ≡ Some c = sym (ap (option_map (λ (y : Edge). y.peer)) at) ∙ is in
            let child : e.peer ≡ c = cc in
            let low = peers_at z l.edges i e at in
            let alike : on e.peer z ≡ on c z = ap (λ b. on b z) child in
            let here = when_low (same l.me w) (on c z) (peers z l.edges) (omega (arith, low, alike)) in
            omega (arith, here)

    -- so an act holds and says no more
    module _ (came : ℕ) (up : (q : BranchId) → l.parent ≡ Some q → when (same l.me z) (on q w) ≤ came) where
      up_low : (o : Option BranchId) → l.parent ≡ o → when (same l.me z) (parent_on o w) ≤ came
      up_low None is = (let none = when_most (same l.me z) 0 in omega (arith, none))
      up_low (Some q) is = up q is

      passes_low : (b : Bool) (i : ℕ) → says (act_turn k l b (acts.SealAndPass i)).says + held (act_turn k l b (acts.SealAndPass i)).after + own x ≤ (came + own l) + held k
      passes_low b i =
          let point = point_low i (peer_of l i) refl in
          let all = seals_low (Some i) (to_one l.me kinds.CommitPoint (peer_of l i)) (when (same l.me w) (peers z l.edges)) point in
          let both = when_both (same l.me z) (peers w l.edges) (parent_on l.parent w) in
          let above = up_low l.parent refl in
          let mine = own_is in
          omega (arith, all, both, above, mine)

      decide_low : says (act_turn k l true acts.Decide).says + held (act_turn k l true acts.Decide).after + own x ≤ (came + own l) + held k
      decide_low =
          let all = decides_low in
          let both = when_both (same l.me z) (peers w l.edges) (parent_on l.parent w) in
          let above = up_low l.parent refl in
          let mine = own_is in
          omega (arith, all, both, above, mine)

    pub act_between : (came : ℕ) (b : Bool) (a : Act) → (is_passing a ≡ true → (q : BranchId) → l.parent ≡ Some q → when (same l.me z) (on q w) ≤ came) → says (act_turn k l b a).says + held (act_turn k l b a).after + own x ≤ (came + own l) + held k
    act_between came b acts.Rest up = (let is = stays l refl in omega (arith, is))
    act_between came b acts.AskDown up = (let is = stays l refl in let none = asks_none z w l.me l.comment (path_of b (step l)) 1 l.edges in omega (arith, is, none))
    act_between came b acts.SayReadOnly up = (let gone = left in let none = one_none z w l.me kinds.ReadOnly l.parent (λ from to. refl) in omega (arith, gone, none))
    act_between came b acts.SayReady up = (let is = stays (ready l) refl in let none = one_none z w l.me kinds.Ready l.parent (λ from to. refl) in omega (arith, is, none))
    act_between came b acts.Seal up =
        (let none = one_none z w l.me kinds.Prepared l.parent (λ from to. refl) in
        let all = seals_low None (to_one l.me kinds.Prepared l.parent) 0 (omega (arith, none)) in
        let mine = own_is in
        let both = when_both (same l.me z) (peers w l.edges) 0 in
        let zero_up = when_most (same l.me z) 0 in
        omega (arith, all, mine, both, zero_up))
    act_between came b (acts.SealAndPass i) up = passes_low came (up refl) b i
    act_between came b acts.Decide up = decide_low came (up refl)
    act_between came b acts.Finish up = (let gone = left in omega (arith, gone))
    act_between came b acts.Abandon up =
        (let gone = left in
        let one = one_none z w l.me kinds.Abort l.parent (λ from to. refl) in
        let none = each_none z w l.me kinds.Rollback (children_of l) (λ from to. refl) in
        let both = total_append (λ (m : Post). message_between z w m.from m.to m.kind) (to_one l.me kinds.Abort l.parent) (to_each l.me kinds.Rollback (children_of l)) in
        omega (arith, gone, one, none, both))

  -- ---- a collect passes on at a root alone

  root_only : (l : Live) → is_none l.parent ≡ true → (q : BranchId) (A : Type 0) → l.parent ≡ Some q → A
  root_only l top q A up = by l.parent top up
    where
      by : (o : Option BranchId) → is_none o ≡ true → o ≡ Some q → A
      by None is at = absurd cc
      by (Some c) is at = absurd cc

  collected_top : (l : Live) (b : Bool) → is_passing (collected_act l b) ≡ true → is_none l.parent ≡ true
  collected_top l true = cond_both (is_none l.parent) (root_act (step l)) acts.SayReady (λ a. is_passing a ≡ true → is_none l.parent ≡ true) (λ top passing. top) (λ below passing. absurd cc)
  collected_top l false = cond_both (is_none (weight l)) acts.SayReadOnly acts.Seal (λ a. is_passing a ≡ true → is_none l.parent ≡ true) (λ none passing. absurd cc) (λ some passing. absurd cc)

  pub first_top : (l : Live) (b : Bool) (es : List Edge) → is_passing (first_act_by l b es) ≡ true → is_none l.parent ≡ true
  first_top l b [] passing = collected_top l b passing
  first_top l b (e ∷ es) passing = absurd cc

  next_top : (l : Live) (b : Bool) → is_passing (next_act l b) ≡ true → is_none l.parent ≡ true
  next_top l b = cond_both (all_answered l) (collected_act l b) acts.Rest (λ a. is_passing a ≡ true → is_none l.parent ≡ true) (λ all passing. collected_top l b passing) (λ some passing. absurd cc)

  pub answer_top : (l : Live) (b : Bool) (v : Vote) → is_passing (answer_act l b v) ≡ true → is_none l.parent ≡ true
  answer_top l b votes.Abort passing = absurd cc
  answer_top l b votes.Unasked passing = next_top l b passing
  answer_top l b votes.Asked passing = next_top l b passing
  answer_top l b votes.Prepared passing = next_top l b passing
  answer_top l b votes.ReadOnly passing = next_top l b passing
  answer_top l b votes.Ready passing = next_top l b passing

  -- so nothing need come for it
  pub at_top : (l : Live) (a : Act) → (is_passing a ≡ true → is_none l.parent ≡ true) → is_passing a ≡ true → (q : BranchId) → l.parent ≡ Some q → when (same l.me z) (on q w) ≤ 0
  at_top l a top passing q up = root_only l (top passing) q (when (same l.me z) (on q w) ≤ 0) up
