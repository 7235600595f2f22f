-- The turn of a kept branch holds and says no more of what is between two branches than its row held and the message was.
use Rattle.std.proofs.Common.{◌≡◌, ℕ, ◌+◌, ◌≤◌, ◌&&◌, ◌||◌, not, Bool, true, false, if◌then◌else◌, cond, List, [], ◌∷◌, ◌++◌, map, filter, is_none, Option, Some, None, refl, sym, ap, ◌∙◌, arith}
use Rattle.std.specs.List.{list_all, list_any}
use Rattle.std.proofs.lemmas.Bool.{cond_both}
use Rattle.tran_ids.proofs.BranchLemmas.{equal_from_same, same_from_equal}
use Rattle.tran_ids.proofs.ListedLemmas.{put_found}
use Rattle.redo_record.specs.Durable.{durable_after}
use Rattle.redo_record.specs.Kept.{stands_at, kept_after, ended_commit, met_as, forgot_as, is_done, forgotten}
use Rattle.redo_record.specs.Lists.{change_where, drop_where}
use Rattle.session_tree.specs.Live.{is_branch}
use Rattle.commit_forget.specs.Beyond.{beyond, parent_beyond, kid_beyond}
use Rattle.node_rules.specs.Data.{BranchId, Beyond, Decision, Kid, KeptRow, Next, Post}
use Rattle.node_rules.specs.Data.decisions
use Rattle.node_rules.specs.Data.kinds
use Rattle.node_rules.specs.Data.nexts
use Rattle.node_rules.specs.Data.records
use Rattle.node_rules.specs.Words.{same}
use Rattle.node_rules.specs.Records.{applied, with_record}
use Rattle.node_rules.specs.Commit.{acked_by, acks_kid, all_acked, is_beyond, knows_commit, next_on_decision, next_on_ack, next_on_forgotten, next_turn, passes_commit}
use Rattle.node_rules.specs.NodeState.{NodeState, kept_row_id, kept_row_at, with_kept_row, to_one}
use Rattle.run_base_laws.specs.NodeLaws.{count_of}
use Rattle.commit_length_laws.proofs.TotalLemmas.{total_map, put_total, change_low, change_once, put_count}
use Rattle.commit_length_laws.proofs.BetweenLemmas.{when_low, when_most, when_both, says_between, each_none, each_told, row_between_is}
use Rattle.commit_length_laws.proofs.KeptLemmas.{total_filter, ended_beyond, met_beyond, forgot_beyond, knows_some, commit_next}
use Rattle.commit_length_laws.specs.Worth.{total}
use Rattle.commit_length_laws.specs.Once.{when, on, named, heard, holds, kept_between, row_between, node_between}

-- ---- an Ack is noted once

module _ (w from : BranchId) (other : same from w ≡ false) where
  abbrev is_heard : Beyond → Bool
  is_heard y = same y.branch w && y.acked

  -- an Ack of another changes nothing
  off : (b : BranchId) (acked : Bool) → (same b w && (acked || same b from)) ≡ (same b w && acked)
  off b acked = by (same b w) (same b from) acked refl refl
    where
      by : (p q a : Bool) → same b w ≡ p → same b from ≡ q → (p && (a || q)) ≡ (p && a)
      by true true a here its =
          let it : b ≡ w = equal_from_same b w here in
          let its_from : b ≡ from = equal_from_same b from its in
          let yes : same from w ≡ true = same_from_equal from w (sym its_from ∙ it) in
          absurd (cc (yes, other))
      by true false true here its = refl
      by true false false here its = refl
      by false q a here its = refl

  kid_off : (c : Kid) → is_heard (kid_beyond (acks_kid from c)) ≡ is_heard (kid_beyond c)
  kid_off c = by (same c.branch from) refl
    where
      by : (q : Bool) → same c.branch from ≡ q → is_heard (kid_beyond (if q then record c { acked = true } else c)) ≡ is_heard (kid_beyond c)
      by true its = (let is : (same c.branch w && (c.acked || same c.branch from)) ≡ (same c.branch w && c.acked) = off c.branch c.acked in
          let on_it : (same c.branch w && (c.acked || same c.branch from)) ≡ (same c.branch w && true) = ap (λ q. same c.branch w && (c.acked || q)) its ∙ ap (λ q. same c.branch w && q) (or_true c.acked) in
          sym on_it ∙ is)
        where
          or_true : (a : Bool) → (a || true) ≡ true
          or_true true = refl
          or_true false = refl
      by false its = refl

  pick : (q r : Bool) → q ≡ r → (d c : Kid) → is_heard (kid_beyond d) ≡ is_heard (kid_beyond c) → (xs ys : List Kid) → list_any is_heard (map kid_beyond xs) ≡ list_any is_heard (map kid_beyond ys)
      → list_any is_heard (map kid_beyond (cond q (d ∷ xs) xs)) ≡ list_any is_heard (map kid_beyond (cond r (c ∷ ys) ys))
  pick true true both d c is xs ys rest = ap (λ a. a || list_any is_heard (map kid_beyond xs)) is ∙ ap (λ a. is_heard (kid_beyond c) || a) rest
  pick true false both d c is xs ys rest = absurd cc
  pick false true both d c is xs ys rest = absurd cc
  pick false false both d c is xs ys rest = rest

  kid_branch : (c : Kid) → (acks_kid from c).branch ≡ c.branch
  kid_branch c = by (same c.branch from)
    where
      by : (q : Bool) → (if q then record c { acked = true } else c).branch ≡ c.branch
      by true = refl
      by false = refl

  kids_off : (toward : Option BranchId) (cs : List Kid) → list_any is_heard (map kid_beyond (filter (λ (c : Kid). not (is_branch c.branch toward)) (map (acks_kid from) cs))) ≡ list_any is_heard (map kid_beyond (filter (λ (c : Kid). not (is_branch c.branch toward)) cs))
  kids_off toward [] = refl
  kids_off toward (c ∷ cs) =
      pick (not (is_branch (acks_kid from c).branch toward)) (not (is_branch c.branch toward)) (ap (λ b. not (is_branch b toward)) (kid_branch c)) (acks_kid from c) c (kid_off c)
      (filter (λ (c : Kid). not (is_branch c.branch toward)) (map (acks_kid from) cs)) (filter (λ (c : Kid). not (is_branch c.branch toward)) cs) (kids_off toward cs)

  parent_off : (s : KeptRow) (o : Option BranchId) (a : Bool) → s.parent ≡ o → list_any is_heard (parent_beyond (acked_by s from) o) ≡ list_any is_heard (parent_beyond s o)
  parent_off s None a is = refl
  parent_off s (Some b) a is = by (is_branch b s.toward)
    where
      noted : (s.parent_acked || is_branch from s.parent) ≡ (s.parent_acked || same b from)
      noted = ap (λ o. s.parent_acked || is_branch from o) is

      here : (same b w && (s.parent_acked || is_branch from s.parent)) ≡ (same b w && s.parent_acked)
      here = ap (λ q. same b w && q) noted ∙ off b s.parent_acked

      by : (q : Bool) → list_any is_heard (if q then [] else record { branch = b; acked = s.parent_acked || is_branch from s.parent; is_parent = true } ∷ []) ≡ list_any is_heard (if q then [] else record { branch = b; acked = s.parent_acked; is_parent = true } ∷ [])
      by true = refl
      by false = ap (λ q. q || false) here

  any_both : (xs ys us vs : List Beyond) → list_any is_heard xs ≡ list_any is_heard us → list_any is_heard ys ≡ list_any is_heard vs → list_any is_heard (xs ++ ys) ≡ list_any is_heard (us ++ vs)
  any_both xs ys us vs one two = any_append xs ys ∙ ((ap (λ q. q || list_any is_heard ys) one ∙ ap (λ q. list_any is_heard us || q) two) ∙ sym (any_append us vs))
    where
      any_append : (xs ys : List Beyond) → list_any is_heard (xs ++ ys) ≡ (list_any is_heard xs || list_any is_heard ys)
      any_append [] ys = refl
      any_append (x ∷ xs) ys = by (is_heard x) (any_append xs ys)
        where
          by : (q : Bool) → list_any is_heard (xs ++ ys) ≡ (list_any is_heard xs || list_any is_heard ys) → (q || list_any is_heard (xs ++ ys)) ≡ ((q || list_any is_heard xs) || list_any is_heard ys)
          by true rest = refl
          by false rest = rest

  heard_off : (s : KeptRow) → list_any is_heard (beyond (acked_by s from)) ≡ list_any is_heard (beyond s)
  unfolding beyond
  heard_off s = any_both (parent_beyond (acked_by s from) s.parent) (map kid_beyond (filter (λ (c : Kid). not (is_branch c.branch s.toward)) (map (acks_kid from) s.children))) (parent_beyond s s.parent) (map kid_beyond (filter (λ (c : Kid). not (is_branch c.branch s.toward)) s.children))
      (parent_off s s.parent true refl) (kids_off s.toward s.children)

heard_more : (z w from : BranchId) (s : KeptRow) → heard w (beyond (acked_by s from)) ≤ heard w (beyond s) + on from w
heard_more z w from s = by (same from w) refl
  where
    by : (q : Bool) → same from w ≡ q → heard w (beyond (acked_by s from)) ≤ heard w (beyond s) + when q 1
    by true is = (let low = when_most (list_any (λ (y : Beyond). same y.branch w && y.acked) (beyond (acked_by s from))) 1 in omega (arith, low))
    by false is = (let alike = ap (λ q. when q 1) (heard_off w from is s) in omega (arith, alike))

-- toward, as a number
toward_on : (z : BranchId) (o : Option BranchId) (from : BranchId) → is_branch from o ≡ true → when (is_branch z o) 1 ≡ on from z
toward_on z None from is = absurd cc
toward_on z (Some c) from is = ap (λ b. on b z) (equal_from_same c from is)

-- one that acknowledged is noted, where all beyond are
any_of_all : (w : BranchId) (bs : List Beyond) → list_any (λ b. same b.branch w) bs ≡ true → list_all (λ b. b.acked) bs ≡ true → list_any (λ y. same y.branch w && y.acked) bs ≡ true
any_of_all w [] named all = absurd cc
any_of_all w (b ∷ bs) named all = by (same b.branch w) b.acked named all (any_of_all w bs)
  where
    by : (p q : Bool) → (p || list_any (λ b. same b.branch w) bs) ≡ true → (q && list_all (λ b. b.acked) bs) ≡ true
        → (list_any (λ b. same b.branch w) bs ≡ true → list_all (λ b. b.acked) bs ≡ true → list_any (λ y. same y.branch w && y.acked) bs ≡ true) → ((p && q) || list_any (λ y. same y.branch w && y.acked) bs) ≡ true
    by p false is all rest = absurd cc
    by true true is all rest = refl
    by false true is all rest = rest is all

module _ (z w g : BranchId) where
  abbrev held : NodeState → ℕ
  held k = node_between z w g k

  abbrev says : List Post → ℕ
  says ms = says_between z w ms

  -- a row that all beyond acknowledged holds the Ack of each of them
  pub noted_all : (s : KeptRow) → same s.root g ≡ true → s.me ≡ z → is_beyond s w ≡ true → all_acked s ≡ true → 1 ≤ row_between z w g s
  noted_all s of me named all =
      let is = row_between_is z w g s of in
      let any : heard w (beyond s) ≡ 1 = ap (λ q. when q 1) (any_of_all w (beyond s) named all) in
      let here : when (same s.me z) (holds w s.decision (beyond s)) ≡ holds w s.decision (beyond s) = ap (λ q. when q (holds w s.decision (beyond s))) (same_from_equal s.me z me) in
      let low = by s.decision in
      omega (arith, is, any, here, low)
    where
      by : (o : Option Decision) → heard w (beyond s) ≤ holds w o (beyond s)
      by None = omega arith
      by (Some d) = omega arith

  forgot_is : (x : KeptRow) → row_between z w g (forgot_as x) ≡ row_between z w g x
  forgot_is x = ap (λ bs. when (same x.root g) (kept_between z w x.me x.decision x.toward bs (list_all (λ (b : Beyond). b.acked) bs))) (forgot_beyond x)

  module _ (k : NodeState) (s : KeptRow) (from : BranchId) (found : kept_row_at k s.me ≡ Some s) (of : same s.root g ≡ true) (one : count_of kept_row_id s.me k.stored.durable.kept ≤ 1) where
    -- a turn that holds and says no more than the row did, and so much
    abbrev pub Costs : ℕ → Next → Type 0
    Costs n next = says (next_turn k s from next).says + held (next_turn k s from next).after ≤ n + held k

    -- ---- a decision that is learned

    -- what the row holds then
    abbrev then_between : ℕ → ℕ
    then_between n = kept_between z w s.me (Some (decisions.Commit n)) s.toward (beyond s) (all_acked s)

    was : s.decision ≡ None → row_between z w g s ≡ when (same s.me z) (named w (beyond s) + heard w (beyond s)) + when (same s.me w) 0
    was none = row_between_is z w g s of ∙ ap (λ o. kept_between z w s.me o s.toward (beyond s) (all_acked s)) none

    ended_is : (n : ℕ) → row_between z w g (ended_commit n s) ≡ then_between n
    ended_is n = row_between_is z w g (ended_commit n s) of ∙ ap (λ bs. kept_between z w s.me (Some (decisions.Commit n)) s.toward bs (list_all (λ (b : Beyond). b.acked) bs)) (ended_beyond n s)

    met_is : (n : ℕ) (mixed : Bool) → row_between z w g (met_as (decisions.Commit n) mixed s) ≡ then_between n
    met_is n mixed = row_between_is z w g (met_as (decisions.Commit n) mixed s) of ∙ ap (λ bs. kept_between z w s.me (Some (decisions.Commit n)) s.toward bs (list_all (λ (b : Beyond). b.acked) bs)) (met_beyond (decisions.Commit n) mixed s)

    ends_low : (n : ℕ) → held (with_record k (records.Ended s.me (decisions.Commit n))) + row_between z w g s ≤ held k + then_between n
    unfolding applied durable_after kept_after
    ends_low n = (let all = change_once (row_between z w g) kept_row_id s.me (ended_commit n) k.stored.durable.kept s found one in let is = ended_is n in omega (arith, all, is))

    meets_low : (n : ℕ) (mixed : Bool) → held (with_record k (records.Met s.me (decisions.Commit n) mixed)) + row_between z w g s ≤ held k + then_between n
    unfolding applied durable_after kept_after
    meets_low n true = (let all = change_once (row_between z w g) kept_row_id s.me (met_as (decisions.Commit n) true) k.stored.durable.kept s found one in let is = met_is n true in omega (arith, all, is))
    meets_low n false = (let all = change_once (row_between z w g) kept_row_id s.me (met_as (decisions.Commit n) false) k.stored.durable.kept s found one in let is = met_is n false in omega (arith, all, is))

    toward_ack : (o : Option BranchId) → is_branch from o ≡ true → says (to_one s.me kinds.Ack o) ≤ when (same s.me w) (on from z)
    toward_ack None is = absurd cc
    toward_ack (Some c) is = (let alike : when (same s.me w) (on c z) ≡ when (same s.me w) (on from z) = ap (λ b. when (same s.me w) (on b z)) (equal_from_same c from is) in omega (arith, alike))

    -- it goes on, or is acknowledged
    spreads_low : (n : ℕ) (bs : List Beyond) → is_branch from s.toward ≡ true
        → says (passes_commit s n bs) + kept_between z w s.me (Some (decisions.Commit n)) s.toward bs (list_all (λ (b : Beyond). b.acked) bs) ≤ when (same s.me w) (on from z) + when (same s.me z) (named w bs + heard w bs)
    spreads_low n [] toward =
        (let ack = toward_ack s.toward toward in
        let none = when_most (same s.me w) (when (is_branch z s.toward) 0) in
        let zero_here = when_most (is_branch z s.toward) 0 in
        let both = when_both (same s.me z) 0 0 in
        omega (arith, ack, none, zero_here, both))
    spreads_low n (b ∷ bs) toward =
        let told = each_told z w s.me n (map (λ c. c.branch) (b ∷ bs)) in
        let alike = named_map (b ∷ bs) in
        let here : when (same s.me z) (total (λ c. on c w) (map (λ (c : Beyond). c.branch) (b ∷ bs))) ≡ when (same s.me z) (named w (b ∷ bs)) = ap (when (same s.me z)) alike in
        let both = when_both (same s.me z) (named w (b ∷ bs)) (heard w (b ∷ bs)) in
        let is = toward_on z s.toward from toward in
        let most = when_low (is_branch z s.toward) _ 1 (when_most (not (list_all (λ (c : Beyond). c.acked) (b ∷ bs))) 1) in
        let waits_low = when_low (same s.me w) (when (is_branch z s.toward) (when (not (list_all (λ (c : Beyond). c.acked) (b ∷ bs))) 1)) (on from z) (omega (arith, is, most)) in
        omega (arith, told, here, both, waits_low)
      where
        named_map : (ys : List Beyond) → total (λ c. on c w) (map (λ (c : Beyond). c.branch) ys) ≡ named w ys
        named_map [] = refl
        named_map (y ∷ ys) = (let rest = named_map ys in omega (arith, rest))

    -- Committed
    pub committed_between : (n : ℕ) → Costs (when (same s.me w) (on from z)) (next_on_decision s from (decisions.Commit n))
    committed_between n = commit_next s from n (Costs (when (same s.me w) (on from z))) (omega arith)
        (λ toward none. (let less = ends_low n in let had = was none in let all = spreads_low n (beyond s) toward in let zero_here = when_most (same s.me w) 0 in omega (arith, less, had, all, zero_here)))
        (λ toward none mixed. (let less = meets_low n mixed in let had = was none in let all = spreads_low n (beyond s) toward in let zero_here = when_most (same s.me w) 0 in omega (arith, less, had, all, zero_here)))
        (omega arith)

    -- ---- a branch that forgets

    forgot_low : held (with_record k (records.Forgot s.me)) ≤ held k
    unfolding applied durable_after kept_after
    forgot_low =
        let one_map : total (row_between z w g) (forgotten k.stored.durable.kept s.me) ≡ total (λ x. row_between z w g (if stands_at s.me x then forgot_as x else x)) (drop_where (is_done s.me) k.stored.durable.kept)
        = total_map (row_between z w g) (λ x. if stands_at s.me x then forgot_as x else x) (drop_where (is_done s.me) k.stored.durable.kept) in
        let two : total (row_between z w g) (change_where (stands_at s.me) forgot_as k.stored.durable.kept) ≡ total (λ x. row_between z w g (if stands_at s.me x then forgot_as x else x)) k.stored.durable.kept
        = total_map (row_between z w g) (λ x. if stands_at s.me x then forgot_as x else x) k.stored.durable.kept in
        let dropped = total_filter (λ x. row_between z w g (if stands_at s.me x then forgot_as x else x)) (λ x. not (is_done s.me x)) k.stored.durable.kept in
        let less = change_low (row_between z w g) kept_row_id s.me forgot_as (λ x. (let is = forgot_is x in omega (arith, is))) k.stored.durable.kept in
        omega (arith, one_map, two, dropped, less)

    pub forget_between : Costs 0 nexts.Forget
    forget_between = (let less = forgot_low in let none = each_none z w s.me kinds.Forgotten (map (λ c. c.branch) (beyond s)) (λ from to. refl) in omega (arith, less, none))

    -- Forgotten
    pub forgotten_between : Costs 0 (next_on_forgotten s from)
    unfolding next_on_forgotten
    forgotten_between = cond_both (knows_commit s.decision && (is_branch from s.toward && not s.forgot)) nexts.Forget nexts.Rest (Costs 0) (λ all. forget_between) (λ other. omega arith)

  -- ---- an Ack that is noted: the first of its branch

  module _ (k : NodeState) (s : KeptRow) (from : BranchId) (found : kept_row_at k s.me ≡ Some s) (of : same s.root g ≡ true) (one : count_of kept_row_id s.me k.stored.durable.kept ≤ 1) (knows : knows_commit s.decision ≡ true) (fresh : all_acked s ≡ false) where
    abbrev j : NodeState
    j = with_kept_row k (acked_by s from)

    abbrev r : KeptRow
    r = acked_by s from

    noted : held j + row_between z w g s ≡ held k + row_between z w g r
    noted = (let is = put_total (row_between z w g) kept_row_id k.stored.durable.kept r s found in omega (arith, is))

    there : kept_row_at j s.me ≡ Some r
    there = put_found kept_row_id k.stored.durable.kept r

    one_there : count_of kept_row_id s.me j.stored.durable.kept ≤ 1
    one_there = (let is = put_count kept_row_id s.me k.stored.durable.kept r s found in omega (arith, is, one))

    had : (d : Decision) → s.decision ≡ Some d → row_between z w g s ≡ when (same s.me z) (heard w (beyond s)) + when (same s.me w) (when (is_branch z s.toward) 1)
    had d decision = row_between_is z w g s of ∙ (ap (λ o. kept_between z w s.me o s.toward (beyond s) (all_acked s)) decision ∙ ap (λ q. kept_between z w s.me (Some d) s.toward (beyond s) q) fresh)

    has : (d : Decision) → s.decision ≡ Some d → row_between z w g r ≡ when (same s.me z) (heard w (beyond r)) + when (same s.me w) (when (is_branch z s.toward) (when (not (all_acked r)) 1))
    has d decision = row_between_is z w g r of ∙ ap (λ o. kept_between z w s.me o s.toward (beyond r) (all_acked r)) decision

    abbrev said : ℕ
    said = when (same s.me z) (on from w)

    -- what is kept then, by whether all have acknowledged
    now : (acked : Bool) → all_acked r ≡ acked → held j + when (same s.me w) (when (is_branch z s.toward) 1) ≤ held k + (said + when (same s.me w) (when (is_branch z s.toward) (when (not acked) 1)))
    now acked is =
        let d = knows_some s.decision knows in
        let before = had d.0 d.1 in
        let after = has d.0 d.1 in
        let all = ap (λ q. when (same s.me w) (when (is_branch z s.toward) (when (not q) 1))) is in
        let more = when_low (same s.me z) (heard w (beyond r)) (heard w (beyond s) + on from w) (heard_more z w from s) in
        let both = when_both (same s.me z) (heard w (beyond s)) (on from w) in
        let held_is = noted in
        omega (arith, before, after, all, more, both, held_is)

    kept_low : held j ≤ held k + said
    kept_low = by (all_acked r) refl
      where
        by : (q : Bool) → all_acked r ≡ q → held j ≤ held k + said
        by true is = (let low = now true is in let none = when_most (is_branch z s.toward) 0 in let none_here = when_low (same s.me w) (when (is_branch z s.toward) 0) 0 none in let zero_here = when_most (same s.me w) 0 in omega (arith, low, none_here, zero_here))
        by false is = (let low = now false is in omega (arith, low))

    ack_low : (o : Option BranchId) → s.toward ≡ o → says (to_one s.me kinds.Ack o) ≤ when (same s.me w) (when (is_branch z s.toward) 1)
    ack_low None is = omega arith
    ack_low (Some c) is =
        let alike : when (same s.me w) (when (is_branch z s.toward) 1) ≡ when (same s.me w) (on c z) = ap (λ q. when (same s.me w) (when (is_branch z q) 1)) is ∙ ap (when (same s.me w)) (turn_same c) in
        omega (arith, alike)
      where
        turn_same : (c : BranchId) → when (is_branch z (Some c)) 1 ≡ on c z
        turn_same c = refl

    abbrev pub Counts : Next → Type 0
    Counts next = says (next_turn j r from next).says + held (next_turn j r from next).after ≤ said + held k

    pub noted_between : Counts (next_on_ack r)
    unfolding next_on_ack
    noted_between =
        cond_both s.forgot nexts.SayForgotten (if all_acked r then (if is_none s.toward then nexts.Forget else nexts.AckToward) else nexts.Rest) Counts
        (λ old. (let low = kept_low in omega (arith, low)))
        (λ new. cond_both (all_acked r) (if is_none s.toward then nexts.Forget else nexts.AckToward) nexts.Rest Counts
        (λ all. cond_both (is_none s.toward) nexts.Forget nexts.AckToward Counts
        (λ site. (let low = forget_between j r from there of one_there in let kept = kept_low in omega (arith, low, kept)))
        (λ below. (let ack = ack_low s.toward refl in let low = now true all in let none = when_most (is_branch z s.toward) 0 in let none_here = when_low (same s.me w) (when (is_branch z s.toward) 0) 0 none in let zero_here = when_most (same s.me w) 0 in
        omega (arith, ack, low, none_here, zero_here))))
        (λ rest. (let low = kept_low in omega (arith, low))))
