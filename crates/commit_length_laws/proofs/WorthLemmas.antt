-- What a message in flight is worth, and what a branch of a transaction may still send: in deliveries that it may lead to.
use Rattle.std.proofs.Common.{◌≡◌, ℕ, suc, ◌+◌, ◌*◌, ◌≤◌, Bool, true, false, if◌then◌else◌, List, [], ◌∷◌, ◌++◌, map, filter, not, length, Option, Some, None, refl, ap, arith}
use Rattle.std.proofs.lemmas.Bool.{cond_both}
use Rattle.commit_forget.specs.Beyond.{beyond, all_acked, parent_beyond, kid_beyond}
use Rattle.session_tree.specs.Live.{is_branch}
use Rattle.node_rules.specs.Data.{BranchId, Decision, Edge, Kind, Kid, Live, Post, KeptRow, Beyond}
use Rattle.node_rules.specs.Words.{same}
use Rattle.node_rules.specs.NodeState.{to_each, to_one}
use Rattle.node_rules.specs.Prepare.{prepares, with_prepare_sent}
use Rattle.commit_length_laws.specs.Worth.{total, one_of, neighbors, phase_worth, known_worth, live_worth, row_worth, worth}

pub known_most : (d : Decision) (forgot acked : Bool) (n : ℕ) → known_worth (Some d) forgot acked n ≤ n + 2
known_most d true acked n = omega arith
known_most d false true n = omega arith
known_most d false false n = omega arith

module _ (ask : BranchId → ℕ) where
  abbrev pub post_worth : Post → ℕ
  post_worth m = worth ask m.to m.kind

  abbrev pub says_worth : List Post → ℕ
  says_worth ms = total post_worth ms

  pub each_worth : (me : BranchId) (kind : Kind) (tos : List BranchId) (n : ℕ) → ((to : BranchId) → worth ask to kind ≡ n) → says_worth (to_each me kind tos) ≡ n * length tos
  each_worth me kind [] n is = omega arith
  each_worth me kind (b ∷ bs) n is = (let here = is b in let rest = each_worth me kind bs n is in more (worth ask b kind) n (says_worth (to_each me kind bs)) (length bs) here rest)
    where
      more : (w n t m : ℕ) → w ≡ n → t ≡ n * m → w + t ≡ n * suc m
      more w n t m one two = grind (arith, one, two)

  pub one_worth : (me : BranchId) (kind : Kind) (o : Option BranchId) (n : ℕ) → ((to : BranchId) → worth ask to kind ≤ n) → says_worth (to_one me kind o) ≤ n
  one_worth me kind None n low = omega arith
  one_worth me kind (Some q) n low = (let here = low q in omega (arith, here))

  -- Prepare to each child
  abbrev pub asked_worth : List Edge → ℕ
  asked_worth es = total (λ e. ask e.peer) es

  pub asks_worth : (me : BranchId) (comment : List ℕ) (path : Option ℕ) (i : ℕ) (es : List Edge) → says_worth (prepares me comment path i es) ≡ asked_worth es
  asks_worth me comment path i [] = refl
  asks_worth me comment path i (e ∷ es) = (let rest = asks_worth me comment path (i + 1) es in omega (arith, rest))

  pub sent_worth : (es : List Edge) → asked_worth (map with_prepare_sent es) ≡ asked_worth es
  sent_worth [] = refl
  sent_worth (e ∷ es) = (let rest = sent_worth es in omega (arith, rest))

module _ (g : BranchId) where
  pub live_low : (l : Live) → live_worth g l ≤ phase_worth l.phase (length l.edges)
  live_low l = by (same l.root g) (phase_worth l.phase (length l.edges))
    where
      by : (q : Bool) (n : ℕ) → (if q then n else 0) ≤ n
      by true n = omega arith
      by false n = omega arith

  pub live_is : (l : Live) → same l.root g ≡ true → live_worth g l ≡ phase_worth l.phase (length l.edges)
  live_is l of = ap (λ q. if q then phase_worth l.phase (length l.edges) else 0) of

  pub row_low : (s : KeptRow) → row_worth g s ≤ known_worth s.decision s.forgot (all_acked s) (neighbors s)
  row_low s = by (same s.root g) (known_worth s.decision s.forgot (all_acked s) (neighbors s))
    where
      by : (q : Bool) (n : ℕ) → (if q then n else 0) ≤ n
      by true n = omega arith
      by false n = omega arith

  pub row_is : (s : KeptRow) → same s.root g ≡ true → row_worth g s ≡ known_worth s.decision s.forgot (all_acked s) (neighbors s)
  row_is s of = ap (λ q. if q then known_worth s.decision s.forgot (all_acked s) (neighbors s) else 0) of

-- ---- neighbours

pub filter_low : {A : Type 0} (p : A → Bool) (xs : List A) → length (filter p xs) ≤ length xs
filter_low p [] = omega arith
filter_low p (x ∷ xs) = (let rest = filter_low p xs in cond_both (p x) (x ∷ filter p xs) (filter p xs) (λ ys. length ys ≤ length (x ∷ xs)) (λ is. omega (arith, rest)) (λ other. omega (arith, rest)))

pub map_length : {A B : Type 0} (h : A → B) (xs : List A) → length (map h xs) ≡ length xs
map_length h [] = refl
map_length h (x ∷ xs) = (let rest = map_length h xs in omega (arith, rest))

parent_low : (s : KeptRow) (o : Option BranchId) → length (parent_beyond s o) ≤ one_of o
parent_low s None = omega arith
parent_low s (Some b) = cond_both (is_branch b s.toward) [] (record { branch = b; acked = s.parent_acked; is_parent = true } ∷ []) (λ (ys : List Beyond). length ys ≤ 1) (λ is. omega arith) (λ other. omega arith)

pub append_length : {A : Type 0} (xs ys : List A) → length (xs ++ ys) ≡ length xs + length ys
append_length [] ys = omega arith
append_length (x ∷ xs) ys = (let rest = append_length xs ys in omega (arith, rest))

-- who is beyond is a neighbour
pub beyond_low : (s : KeptRow) → length (beyond s) ≤ neighbors s
unfolding beyond
beyond_low s =
    let ps = parent_low s s.parent in
    let kids : List Kid = filter (λ c. not (is_branch c.branch s.toward)) s.children in
    let low : length kids ≤ length s.children = filter_low (λ c. not (is_branch c.branch s.toward)) s.children in
    let one : length (map kid_beyond kids) ≡ length kids = map_length kid_beyond kids in
    let both : length (parent_beyond s s.parent ++ map kid_beyond kids) ≡ length (parent_beyond s s.parent) + length (map kid_beyond kids) = append_length (parent_beyond s s.parent) (map kid_beyond kids) in
    omega (arith, ps, low, one, both)
