-- What the turn of a kept branch costs: it sends and keeps no more than its row and the message had.
use Rattle.std.proofs.Common.{◌≡◌, ℕ, ◌+◌, ◌*◌, ◌≤◌, ◌&&◌, not, Bool, true, false, if◌then◌else◌, List, [], ◌∷◌, ◌++◌, map, filter, length, is_none, Option, Some, None, refl, ap, ◌∙◌, arith}
use Rattle.std.proofs.lemmas.Bool.{cond_both, and_parts, not-true}
use Rattle.tran_ids.proofs.ListedLemmas.{put_found}
use Rattle.redo_record.specs.Durable.{durable_after}
use Rattle.redo_record.specs.Kept.{stands_at, kept_after, ended_commit, met_as, forgot_as, is_done, forgotten}
use Rattle.redo_record.specs.Lists.{change_where, drop_where}
use Rattle.session_tree.specs.Live.{is_branch}
use Rattle.commit_forget.specs.Beyond.{beyond, parent_beyond, kid_beyond}
use Rattle.std.specs.List.{list_all}
use Rattle.node_rules.specs.Data.{BranchId, Decision, Kid, KeptRow, State, Next, Beyond}
use Rattle.node_rules.specs.Data.decisions
use Rattle.node_rules.specs.Data.kinds
use Rattle.node_rules.specs.Data.nexts
use Rattle.node_rules.specs.Data.records
use Rattle.node_rules.specs.Data.states
use Rattle.node_rules.specs.Words.{same}
use Rattle.node_rules.specs.Records.{applied, with_record}
use Rattle.node_rules.specs.Commit.{acked_by, acks_kid, all_acked, knows_commit, first_decision, known_decision, decision_at, next_on_decision, next_on_ack, next_on_forgotten, next_turn, passes_commit}
use Rattle.node_rules.specs.NodeState.{NodeState, kept_row_id, kept_row_at, with_kept_row, to_each}
use Rattle.commit_length_laws.proofs.TotalLemmas.{total_map, put_total, change_total}
use Rattle.commit_length_laws.proofs.WorthLemmas.{known_most, says_worth, row_low, row_is, each_worth, one_worth, beyond_low, map_length}
use Rattle.commit_length_laws.proofs.FlightLemmas.{if_both as if_low}
use Rattle.commit_length_laws.specs.Worth.{total, one_of, neighbors, known_worth, row_worth, node_worth}

-- ---- rows that differ in what beyond does not show

same_parent : (s r : KeptRow) (o : Option BranchId) → s.toward ≡ r.toward → s.parent_acked ≡ r.parent_acked → parent_beyond s o ≡ parent_beyond r o
same_parent s r None toward acked = refl
same_parent s r (Some b) toward acked =
    ap (λ (w : Option BranchId). if is_branch b w then [] else record { branch = b; acked = s.parent_acked; is_parent = true } ∷ []) toward
    ∙ ap (λ (q : Bool). if is_branch b r.toward then [] else record { branch = b; acked = q; is_parent = true } ∷ []) acked

pub ended_beyond : (n : ℕ) (x : KeptRow) → beyond (ended_commit n x) ≡ beyond x
unfolding beyond
ended_beyond n x = ap (λ ys. ys ++ map kid_beyond (filter (λ (c : Kid). not (is_branch c.branch x.toward)) x.children)) (same_parent (ended_commit n x) x x.parent refl refl)

pub met_beyond : (d : Decision) (mixed : Bool) (x : KeptRow) → beyond (met_as d mixed x) ≡ beyond x
unfolding beyond
met_beyond d mixed x = ap (λ ys. ys ++ map kid_beyond (filter (λ (c : Kid). not (is_branch c.branch x.toward)) x.children)) (same_parent (met_as d mixed x) x x.parent refl refl)

pub forgot_beyond : (x : KeptRow) → beyond (forgot_as x) ≡ beyond x
unfolding beyond
forgot_beyond x = ap (λ ys. ys ++ map kid_beyond (filter (λ (c : Kid). not (is_branch c.branch x.toward)) x.children)) (same_parent (forgot_as x) x x.parent refl refl)

abbrev acked_all : List Beyond → Bool
acked_all bs = list_all (λ b. b.acked) bs

some_beyond : (bs : List Beyond) → acked_all bs ≡ false → 1 ≤ length bs
some_beyond [] is = absurd cc
some_beyond (b ∷ bs) is = omega arith

-- a row that has learned a decision is worth no more
known_low : (o : Option Decision) (d : Decision) (forgot acked : Bool) (n : ℕ) → (acked ≡ false → 1 ≤ n) → known_worth (Some d) forgot acked n ≤ known_worth o forgot acked n
known_low None d true acked n some = omega arith
known_low None d false true n some = omega arith
known_low None d false false n some = (let low = some refl in omega (arith, low))
known_low (Some e) d true acked n some = omega arith
known_low (Some e) d false true n some = omega arith
known_low (Some e) d false false n some = omega arith

-- nor is one that forgot
forgot_low : (o : Option Decision) (forgot acked : Bool) (n : ℕ) → known_worth o true acked n ≤ known_worth o forgot acked n
forgot_low None forgot acked n = omega arith
forgot_low (Some d) forgot acked n = omega arith

pub total_filter : {A : Type 0} (f : A → ℕ) (p : A → Bool) (xs : List A) → total f (filter p xs) ≤ total f xs
total_filter f p [] = omega arith
total_filter f p (x ∷ xs) = (let rest = total_filter f p xs in cond_both (p x) (x ∷ filter p xs) (filter p xs) (λ ys. total f ys ≤ f x + total f xs) (λ is. omega (arith, rest)) (λ other. omega (arith, rest)))

pub knows_some : (o : Option Decision) → knows_commit o ≡ true → (d : Decision) × (o ≡ Some d)
knows_some None is = absurd cc
knows_some (Some d) is = (d, refl)

-- ---- what a kept branch does about a commit

module _ (s : KeptRow) (from : BranchId) (n : ℕ) (P : Next → Type 0) (rest : P nexts.Rest) (ends : is_branch from s.toward ≡ true → s.decision ≡ None → P (nexts.End (decisions.Commit n)))
    (meets : is_branch from s.toward ≡ true → s.decision ≡ None → (mixed : Bool) → P (nexts.Meet (decisions.Commit n) mixed)) (acks : P nexts.SayAck) where
  first_so : (state : State) → is_branch from s.toward ≡ true → s.decision ≡ None → P (first_decision state (decisions.Commit n))
  first_so states.Sealed toward none = ends toward none
  first_so states.Committed toward none = rest
  first_so (states.ForcedCommit m) toward none = meets toward none _
  first_so states.ForcedRollback toward none = meets toward none _

  known_so : (d : Decision) → P (known_decision s d (decisions.Commit n))
  known_so (decisions.Commit m) = cond_both (all_acked s) nexts.SayAck nexts.Rest P (λ all. acks) (λ some. rest)
  known_so decisions.Rollback = rest

  at_so : (o : Option Decision) → is_branch from s.toward ≡ true → s.decision ≡ o → P (decision_at s (decisions.Commit n) o)
  at_so None toward is = first_so s.state toward is
  at_so (Some d) toward is = known_so d

  pub commit_next : P (next_on_decision s from (decisions.Commit n))
  unfolding next_on_decision
  commit_next = cond_both (is_branch from s.toward) (decision_at s (decisions.Commit n) s.decision) nexts.Rest P (λ toward. at_so s.decision toward refl) (λ other. rest)

module _ (g : BranchId) (ask : BranchId → ℕ) where
  abbrev held : NodeState → ℕ
  held k = node_worth g k

  neighbors_some : (x : KeptRow) (bs : List Beyond) → beyond x ≡ bs → acked_all bs ≡ false → 1 ≤ neighbors x
  neighbors_some x bs is none =
      let some = some_beyond bs none in
      let few = beyond_low x in
      let alike : length (beyond x) ≡ length bs = ap (λ ys. length ys) is in
      omega (arith, some, few, alike)

  -- what a row is worth that has learned the commit
  learned_low : (d : Decision) (x y : KeptRow) → y.root ≡ x.root → y.decision ≡ Some d → y.forgot ≡ x.forgot → neighbors y ≡ neighbors x → beyond y ≡ beyond x → row_worth g y ≤ row_worth g x
  learned_low d x y root decision forgot many alike =
      let acked : all_acked y ≡ all_acked x = ap acked_all alike in
      let is : row_worth g y ≡ (if same x.root g then known_worth (Some d) x.forgot (all_acked x) (neighbors x) else 0)
      = ap (λ (b : BranchId). if same b g then known_worth y.decision y.forgot (all_acked y) (neighbors y) else 0) root
      ∙ (ap (λ (o : Option Decision). if same x.root g then known_worth o y.forgot (all_acked y) (neighbors y) else 0) decision
      ∙ (ap (λ (q : Bool). if same x.root g then known_worth (Some d) q (all_acked y) (neighbors y) else 0) forgot
      ∙ (ap (λ (q : Bool). if same x.root g then known_worth (Some d) x.forgot q (neighbors y) else 0) acked ∙ ap (λ (n : ℕ). if same x.root g then known_worth (Some d) x.forgot (all_acked x) n else 0) many))) in
      let low = if_low (same x.root g) _ _ (known_low x.decision d x.forgot (all_acked x) (neighbors x) (neighbors_some x (beyond x) refl)) in
      omega (arith, is, low)

  ended_low : (n : ℕ) (x : KeptRow) → row_worth g (ended_commit n x) ≤ row_worth g x
  ended_low n x = learned_low (decisions.Commit n) x (ended_commit n x) refl refl refl refl (ended_beyond n x)

  met_low : (d : Decision) (mixed : Bool) (x : KeptRow) → row_worth g (met_as d mixed x) ≤ row_worth g x
  met_low d mixed x = learned_low d x (met_as d mixed x) refl refl refl refl (met_beyond d mixed x)

  gone_low : (x : KeptRow) → row_worth g (forgot_as x) ≤ row_worth g x
  gone_low x =
      let acked : all_acked (forgot_as x) ≡ all_acked x = ap acked_all (forgot_beyond x) in
      let is : row_worth g (forgot_as x) ≡ (if same x.root g then known_worth x.decision true (all_acked x) (neighbors x) else 0) = ap (λ (q : Bool). if same x.root g then known_worth x.decision true q (neighbors x) else 0) acked in
      let low = if_low (same x.root g) _ _ (forgot_low x.decision x.forgot (all_acked x) (neighbors x)) in
      omega (arith, is, low)

  module _ (k : NodeState) (s : KeptRow) (from : BranchId) (found : kept_row_at k s.me ≡ Some s) (of : same s.root g ≡ true) where
    -- what the row is worth then
    abbrev then_worth : ℕ → ℕ
    then_worth n = known_worth (Some (decisions.Commit n)) s.forgot (acked_all (beyond s)) (neighbors s)

    was_worth : s.decision ≡ None → row_worth g s ≡ 4 * neighbors s
    was_worth none = row_is g s of ∙ ap (λ o. known_worth o s.forgot (all_acked s) (neighbors s)) none

    -- a decision that is learned
    ends_low : (n : ℕ) → s.decision ≡ None → held (with_record k (records.Ended s.me (decisions.Commit n))) + 4 * neighbors s ≤ held k + then_worth n
    unfolding applied durable_after kept_after
    ends_low n none =
        let less = change_total (row_worth g) kept_row_id s.me (ended_commit n) (ended_low n) k.stored.durable.kept s found in
        let was = was_worth none in
        let is : row_worth g (ended_commit n s) ≤ known_worth (Some (decisions.Commit n)) s.forgot (all_acked (ended_commit n s)) (neighbors s) = row_low g (ended_commit n s) in
        let alike : known_worth (Some (decisions.Commit n)) s.forgot (all_acked (ended_commit n s)) (neighbors s) ≡ then_worth n = ap (λ ys. known_worth (Some (decisions.Commit n)) s.forgot (acked_all ys) (neighbors s)) (ended_beyond n s) in
        omega (arith, less, was, is, alike)

    meets_change : (n : ℕ) (mixed : Bool) → s.decision ≡ None → total (row_worth g) (change_where (stands_at s.me) (met_as (decisions.Commit n) mixed) k.stored.durable.kept) + 4 * neighbors s ≤ total (row_worth g) k.stored.durable.kept + then_worth n
    meets_change n mixed none =
        let less = change_total (row_worth g) kept_row_id s.me (met_as (decisions.Commit n) mixed) (met_low (decisions.Commit n) mixed) k.stored.durable.kept s found in
        let was = was_worth none in
        let is : row_worth g (met_as (decisions.Commit n) mixed s) ≤ known_worth (Some (decisions.Commit n)) s.forgot (all_acked (met_as (decisions.Commit n) mixed s)) (neighbors s) = row_low g (met_as (decisions.Commit n) mixed s) in
        let alike : known_worth (Some (decisions.Commit n)) s.forgot (all_acked (met_as (decisions.Commit n) mixed s)) (neighbors s) ≡ then_worth n
        = ap (λ ys. known_worth (Some (decisions.Commit n)) s.forgot (acked_all ys) (neighbors s)) (met_beyond (decisions.Commit n) mixed s) in
        omega (arith, less, was, is, alike)

    meets_low : (n : ℕ) (mixed : Bool) → s.decision ≡ None → held (with_record k (records.Met s.me (decisions.Commit n) mixed)) + 4 * neighbors s ≤ held k + then_worth n
    unfolding applied durable_after kept_after
    meets_low n true none = (let less = meets_change n true none in omega (arith, less))
    meets_low n false none = (let less = meets_change n false none in omega (arith, less))

    -- a branch that forgets
    forgets_low : (d : Decision) → s.decision ≡ Some d → held (with_record k (records.Forgot s.me)) + row_worth g s ≤ held k
    unfolding applied durable_after kept_after
    forgets_low d knows =
        let less = change_total (row_worth g) kept_row_id s.me forgot_as gone_low k.stored.durable.kept s found in
        let is : row_worth g (forgot_as s) ≤ known_worth s.decision true (all_acked (forgot_as s)) (neighbors s) = row_low g (forgot_as s) in
        let none : known_worth s.decision true (all_acked (forgot_as s)) (neighbors s) ≡ 0 = ap (λ o. known_worth o true (all_acked (forgot_as s)) (neighbors s)) knows in
        let one : total (row_worth g) (forgotten k.stored.durable.kept s.me) ≡ total (λ x. row_worth g (if stands_at s.me x then forgot_as x else x)) (drop_where (is_done s.me) k.stored.durable.kept)
        = total_map (row_worth g) (λ x. if stands_at s.me x then forgot_as x else x) (drop_where (is_done s.me) k.stored.durable.kept) in
        let two : total (row_worth g) (change_where (stands_at s.me) forgot_as k.stored.durable.kept) ≡ total (λ x. row_worth g (if stands_at s.me x then forgot_as x else x)) k.stored.durable.kept
        = total_map (row_worth g) (λ x. if stands_at s.me x then forgot_as x else x) k.stored.durable.kept in
        let dropped : total (λ x. row_worth g (if stands_at s.me x then forgot_as x else x)) (drop_where (is_done s.me) k.stored.durable.kept) ≤ total (λ x. row_worth g (if stands_at s.me x then forgot_as x else x)) k.stored.durable.kept
        = total_filter (λ x. row_worth g (if stands_at s.me x then forgot_as x else x)) (λ x. not (is_done s.me x)) k.stored.durable.kept in
        omega (arith, less, is, none, one, two, dropped)

    kept_most : (d : Decision) → s.decision ≡ Some d → s.forgot ≡ false → neighbors s ≤ row_worth g s
    kept_most d knows new =
        let is : row_worth g s ≡ known_worth (Some d) false (all_acked s) (neighbors s)
        = row_is g s of ∙ (ap (λ o. known_worth o s.forgot (all_acked s) (neighbors s)) knows ∙ ap (λ q. known_worth (Some d) q (all_acked s) (neighbors s)) new) in
        let low = by (all_acked s) in
        omega (arith, is, low)
      where
        by : (q : Bool) → neighbors s ≤ known_worth (Some d) false q (neighbors s)
        by true = omega arith
        by false = omega arith

    -- ---- turns

    abbrev pub Costs : ℕ → Next → Type 0
    Costs n next = 1 + says_worth ask (next_turn k s from next).says + held (next_turn k s from next).after ≤ n + held k

    -- the commit goes to those beyond, or is acknowledged
    spreads_low : (n : ℕ) (forgot : Bool) (bs : List Beyond) (m : ℕ) → length bs ≤ m → says_worth ask (passes_commit s n bs) + known_worth (Some (decisions.Commit n)) forgot (acked_all bs) m ≤ 2 + 4 * m
    spreads_low n forgot [] m few = (let ack = one_worth ask s.me kinds.Ack s.toward 2 (λ to. omega arith) in let rest = by forgot in omega (arith, ack, rest))
      where
        by : (q : Bool) → known_worth (Some (decisions.Commit n)) q true m ≤ m
        by true = omega arith
        by false = omega arith
    spreads_low n forgot (b ∷ bs) m few =
        let is = each_worth ask s.me (kinds.Committed n) (map (λ c. c.branch) (b ∷ bs)) 3 (λ to. refl) in
        let many : length (map (λ (c : Beyond). c.branch) (b ∷ bs)) ≡ length (b ∷ bs) = map_length (λ (c : Beyond). c.branch) (b ∷ bs) in
        let most = known_most (decisions.Commit n) forgot (acked_all (b ∷ bs)) m in
        omega (arith, is, many, most, few)

    forgets_says : says_worth ask (to_each s.me kinds.Forgotten (map (λ c. c.branch) (beyond s))) ≤ neighbors s
    forgets_says =
        let is = each_worth ask s.me kinds.Forgotten (map (λ c. c.branch) (beyond s)) 1 (λ to. refl) in
        let many : length (map (λ (c : Beyond). c.branch) (beyond s)) ≡ length (beyond s) = map_length (λ (c : Beyond). c.branch) (beyond s) in
        let few = beyond_low s in
        omega (arith, is, many, few)

    pub forget_costs : (w : ℕ) → 1 ≤ w → knows_commit s.decision ≡ true → s.forgot ≡ false → Costs w nexts.Forget
    forget_costs w some knows new =
        let d = knows_some s.decision knows in
        let less = forgets_low d.0 d.1 in
        let had = kept_most d.0 d.1 new in
        let says = forgets_says in
        omega (arith, some, less, had, says)

    -- Committed
    pub committed_costs : (n : ℕ) → Costs 3 (next_on_decision s from (decisions.Commit n))
    committed_costs n = commit_next s from n (Costs 3) (omega arith)
        (λ toward none. (let less = ends_low n none in let all = spreads_low n s.forgot (beyond s) (neighbors s) (beyond_low s) in omega (arith, less, all)))
        (λ toward none mixed. (let less = meets_low n mixed none in let all = spreads_low n s.forgot (beyond s) (neighbors s) (beyond_low s) in omega (arith, less, all)))
        (omega arith)

    -- Forgotten
    pub forgotten_costs : Costs 1 (next_on_forgotten s from)
    unfolding next_on_forgotten
    forgotten_costs = cond_both (knows_commit s.decision && (is_branch from s.toward && not s.forgot)) nexts.Forget nexts.Rest (Costs 1)
        (λ all. (let parts = and_parts (knows_commit s.decision) (is_branch from s.toward && not s.forgot) all in
        let rest = and_parts (is_branch from s.toward) (not s.forgot) parts.1 in
        forget_costs 1 (omega arith) parts.0 (not-true s.forgot rest.1)))
        (λ other. omega arith)

  -- an Ack that is noted: the first of its branch, so that not all beyond had acknowledged
  module _ (k : NodeState) (s : KeptRow) (from : BranchId) (found : kept_row_at k s.me ≡ Some s) (of : same s.root g ≡ true) (knows : knows_commit s.decision ≡ true) (fresh : all_acked s ≡ false) where
    abbrev j : NodeState
    j = with_kept_row k (acked_by s from)

    abbrev r : KeptRow
    r = acked_by s from

    noted : held j + row_worth g s ≡ held k + row_worth g r
    noted = (let is = put_total (row_worth g) kept_row_id k.stored.durable.kept r s found in omega (arith, is))

    there : kept_row_at j s.me ≡ Some r
    there = put_found kept_row_id k.stored.durable.kept r

    kids : neighbors r ≡ neighbors s
    kids = ap (λ n. one_of s.parent + n) (map_length (acks_kid from) s.children)

    had : (d : Decision) (forgot acked : Bool) → s.decision ≡ Some d → s.forgot ≡ forgot → all_acked r ≡ acked → (row_worth g s ≡ known_worth (Some d) forgot false (neighbors s)) × (row_worth g r ≡ known_worth (Some d) forgot acked (neighbors s))
    had d forgot acked decision is all = (
      row_is g s of ∙ (ap (λ o. known_worth o s.forgot (all_acked s) (neighbors s)) decision ∙ (ap (λ q. known_worth (Some d) q (all_acked s) (neighbors s)) is ∙ ap (λ q. known_worth (Some d) forgot q (neighbors s)) fresh)),
      row_is g r of ∙ (ap (λ o. known_worth o s.forgot (all_acked r) (neighbors r)) decision ∙ (ap (λ q. known_worth (Some d) q (all_acked r) (neighbors r)) is ∙ (ap (λ q. known_worth (Some d) forgot q (neighbors r)) all ∙ ap (known_worth (Some d) forgot acked) kids))),
    )

    abbrev pub Counts : Next → Type 0
    Counts next = 1 + says_worth ask (next_turn j r from next).says + held (next_turn j r from next).after ≤ 2 + held k

    old : s.forgot ≡ true → Counts nexts.SayForgotten
    old is =
        let d = knows_some s.decision knows in
        let both = had d.0 true (all_acked r) d.1 is refl in
        let one : row_worth g s ≡ 0 = both.0 in
        let two : row_worth g r ≡ 0 = both.1 in
        let same_held = noted in
        omega (arith, one, two, same_held)

    -- two less were kept
    less_two : s.forgot ≡ false → all_acked r ≡ true → held j + 2 ≡ held k
    less_two is all =
        let d = knows_some s.decision knows in
        let both = had d.0 false true d.1 is all in
        let one : row_worth g s ≡ neighbors s + 2 = both.0 in
        let two : row_worth g r ≡ neighbors s = both.1 in
        let same_held = noted in
        omega (arith, one, two, same_held)

    some : s.forgot ≡ false → all_acked r ≡ false → Counts nexts.Rest
    some is all =
        let d = knows_some s.decision knows in
        let both = had d.0 false false d.1 is all in
        let one : row_worth g s ≡ neighbors s + 2 = both.0 in
        let two : row_worth g r ≡ neighbors s + 2 = both.1 in
        let same_held = noted in
        omega (arith, one, two, same_held)

    pub noted_costs : Counts (next_on_ack r)
    unfolding next_on_ack
    noted_costs =
        cond_both s.forgot nexts.SayForgotten (if all_acked r then (if is_none s.toward then nexts.Forget else nexts.AckToward) else nexts.Rest) Counts old
        (λ new. cond_both (all_acked r) (if is_none s.toward then nexts.Forget else nexts.AckToward) nexts.Rest Counts
        (λ all. cond_both (is_none s.toward) nexts.Forget nexts.AckToward Counts
        (λ site. (let low = forget_costs j r from there of 1 (omega arith) knows new in let two = less_two new all in omega (arith, low, two)))
        (λ below. (let ack = one_worth ask s.me kinds.Ack s.toward 2 (λ to. omega arith) in let two = less_two new all in omega (arith, ack, two))))
        (λ rest. some new rest))
