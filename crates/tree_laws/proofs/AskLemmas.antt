-- What Prepares tell, as more messages are sent: what was told stays so, and the Prepares of a branch that begins its collect.
use Rattle.std.proofs.Common.{◌≡◌, ℕ, zero, suc, ◌+◌, ◌==◌, ◌&&◌, ◌||◌, ◌⊎◌, Bool, true, false, List, [], ◌∷◌, ◌++◌, map, Option, Some, None, inl, inr, refl, sym, ap, subst, ◌∙◌, arith}
use Rattle.std.proofs.lemmas.Bool.{and_parts, cond_both, or_left, or_right}
use Rattle.std.proofs.lemmas.Bool.Decides.{nat_tests}
use Rattle.tran_ids.proofs.BranchLemmas.{equal_from_same, same_from_equal}
use Rattle.node_rules.specs.Data.{BranchId, Edge, Kind, Live, Phase, Post, Vote}
use Rattle.node_rules.specs.Data.kinds
use Rattle.node_rules.specs.Data.phases
use Rattle.node_rules.specs.Words.{same, numbered}
use Rattle.session_tree.specs.declared.act.Walk.{Walk}
use Rattle.session_tree.specs.Tree.{place_of_greatest, walk_by, step}
use Rattle.node_rules.specs.Prepare.{path_of, prepares, is_place, has_voted, answers_first, voted, ready}
use Rattle.run_rules.specs.Trail.{is_prepare}
use Rattle.run_base_laws.specs.FreezeLaws.{was_asked}
use Rattle.run_branch_laws.specs.WalkLaws.{is_below, was_sent}
use Rattle.run_rules.proofs.ListLemmas.{map_after}
use Rattle.run_branch_laws.proofs.WalkLemmas.{unasked_below}
use Rattle.run_branch_laws.proofs.FreezeLemmas.{any_append, or_false, or_split, and_false, asked_more, asked_split}
use Rattle.tree_laws.specs.AskLaws.{way_of, tells, path_on, AsToldSo}

module _ (kind : Kind → Bool) (said says : List Post) (p c : BranchId) where
  abbrev test : Post → Bool
  test m = (same m.from p && same m.to c) && kind m.kind

  -- what was sent stays so, and what more messages tell is new or old
  pub sent_more : was_sent kind said p c ≡ true → was_sent kind (said ++ says) p c ≡ true
  sent_more is = any_append test said says ∙ or_left (was_sent kind said p c) (was_sent kind says p c) is

  pub sent_split : was_sent kind (said ++ says) p c ≡ true → (was_sent kind said p c ≡ true) ⊎ (was_sent kind says p c ≡ true)
  sent_split is = or_split (was_sent kind said p c) (was_sent kind says p c) (sym (any_append test said says) ∙ is)

  pub sent_new : was_sent kind says p c ≡ true → was_sent kind (said ++ says) p c ≡ true
  sent_new is = any_append test said says ∙ or_right (was_sent kind said p c) (was_sent kind says p c) is

-- a message of one kind is one of a wider kind
weaker : (p q r rest more : Bool) → (q ≡ true → r ≡ true) → (rest ≡ true → more ≡ true) → ((p && q) || rest) ≡ true → ((p && r) || more) ≡ true
weaker true true true rest more wide tail is = refl
weaker true true false rest more wide tail is = let never : false ≡ true = wide refl in absurd cc
weaker true false true rest more wide tail is = refl
weaker true false false rest more wide tail is = tail is
weaker false q r rest more wide tail is = tail is

pub sent_wider : (kind wide : Kind → Bool) → ((x : Kind) → kind x ≡ true → wide x ≡ true) → (said : List Post) (p c : BranchId) → was_sent kind said p c ≡ true → was_sent wide said p c ≡ true
sent_wider kind wide each [] p c is = absurd cc
sent_wider kind wide each (m ∷ ms) p c is = weaker (same m.from p && same m.to c) (kind m.kind) (wide m.kind) (was_sent kind ms p c) (was_sent wide ms p c) (each m.kind) (sent_wider kind wide each ms p c) is

-- what tells of the way is a Prepare
pub tells_asks : (b : Bool) (kind : Kind) → tells b kind ≡ true → is_prepare kind ≡ true
tells_asks true (kinds.Prepare site_below comment) is = refl
tells_asks false (kinds.Prepare site_below comment) is = refl
tells_asks true _ is = absurd cc
tells_asks false _ is = absurd cc

pub below_asks : (kind : Kind) → is_below kind ≡ true → is_prepare kind ≡ true
below_asks kind is = tells_asks true kind is

-- a Prepare tells its way
pub tells_own : (b : Bool) (comment : List ℕ) → tells b (kinds.Prepare b comment) ≡ true
tells_own true comment = refl
tells_own false comment = refl

-- ---- the Prepares of a branch

sent_first : (p q rest : Bool) → p ≡ true → q ≡ true → (((p && q) && true) || rest) ≡ true
sent_first true true rest one two = refl
sent_first true false rest one two = absurd cc
sent_first false q rest one two = absurd cc

-- each child is asked
pub prepares_all : (me : BranchId) (comment : List ℕ) (path : Option ℕ) (from : ℕ) (es : List Edge) (i : ℕ) (c : BranchId) → numbered (map (λ e. e.peer) es) i ≡ Some c → was_asked (prepares me comment path from es) me c ≡ true
prepares_all me comment path from es zero c at = absurd cc
prepares_all me comment path from [] (suc i) c at = absurd cc
prepares_all me comment path from (e ∷ es) (suc zero) c at =
    let it : Some e.peer ≡ Some c = at in
    let here : e.peer ≡ c = cc in
    sent_first (same me me) (same e.peer c) (was_asked (prepares me comment path (from + 1) es) me c) (same_from_equal me me refl) (same_from_equal e.peer c here)
prepares_all me comment path from (e ∷ es) (suc (suc i)) c at = or_right ((same me me && same e.peer c) && true) (was_asked (prepares me comment path (from + 1) es) me c) (prepares_all me comment path (from + 1) es (suc i) c at)

-- off the walk no child is told that it comes there
pub none_below : (me : BranchId) (comment : List ℕ) (from : ℕ) (es : List Edge) (p c : BranchId) → was_sent is_below (prepares me comment None from es) p c ≡ false
none_below me comment from [] p c = refl
none_below me comment from (e ∷ es) p c = or_false ((same me p && same e.peer c) && false) (was_sent is_below (prepares me comment None (from + 1) es) p c) (and_false (same me p && same e.peer c) false refl) (none_below me comment (from + 1) es p c)

-- who is told that the walk comes there is the child to which it goes
place_is : (i : ℕ) (o : Option ℕ) → is_place i o ≡ true → o ≡ Some i
place_is i None is = absurd cc
place_is i (Some n) is = let at : n ≡ i = grind (arith, nat_tests, is) in ap Some at

pub below_place : (me : BranchId) (comment : List ℕ) (path : Option ℕ) (from : ℕ) (es : List Edge) (p c : BranchId) → was_sent is_below (prepares me comment path from es) p c ≡ true
    → (j : ℕ) × (path ≡ Some (from + j)) × (numbered (map (λ e. e.peer) es) (suc j) ≡ Some c)
below_place me comment path from [] p c told = absurd cc
below_place me comment path from (e ∷ es) p c told = elim (or_split ((same me p && same e.peer c) && is_place from path) (was_sent is_below (prepares me comment path (from + 1) es) p c) told) [
  | inl here ↦ (let parts = and_parts (same me p && same e.peer c) (is_place from path) here in
      let both = and_parts (same me p) (same e.peer c) parts.0 in
      let number : from ≡ from + 0 = omega arith in
      (zero, subst (λ n. path ≡ Some n) number (place_is from path parts.1), ap Some (equal_from_same e.peer c both.1)))
  | inr later ↦ (let rest = below_place me comment path (from + 1) es p c later in
      let number : (from + 1) + rest.0 ≡ from + suc rest.0 = omega arith in
      (suc rest.0, subst (λ n. path ≡ Some n) number rest.1, rest.2))
]

pub place_true : (from : ℕ) (path : Option ℕ) → path ≡ Some (from + 0) → is_place from path ≡ true
place_true from path is = ap (is_place from) is ∙ (let one : (from == from + 0) ≡ true = grind (arith, nat_tests) in one)

told_here : (p q r rest : Bool) → p ≡ true → q ≡ true → r ≡ true → (((p && q) && r) || rest) ≡ true
told_here true true true rest one two three = refl
told_here true true false rest one two three = absurd cc
told_here true false r rest one two three = absurd cc
told_here false q r rest one two three = absurd cc

-- and that child is told so
pub place_below : (me : BranchId) (comment : List ℕ) (path : Option ℕ) (from : ℕ) (es : List Edge) (j : ℕ) (c : BranchId) → path ≡ Some (from + j) → numbered (map (λ e. e.peer) es) (suc j) ≡ Some c
    → was_sent is_below (prepares me comment path from es) me c ≡ true
place_below me comment path from [] j c is at = absurd cc
place_below me comment path from (e ∷ es) zero c is at =
    let it : Some e.peer ≡ Some c = at in
    let here : e.peer ≡ c = cc in
    told_here (same me me) (same e.peer c) (is_place from path) (was_sent is_below (prepares me comment path (from + 1) es) me c) (same_from_equal me me refl) (same_from_equal e.peer c here) (place_true from path is)
place_below me comment path from (e ∷ es) (suc j) c is at =
    let number : from + suc j ≡ (from + 1) + j = omega arith in
    or_right ((same me me && same e.peer c) && is_place from path) (was_sent is_below (prepares me comment path (from + 1) es) me c) (place_below me comment path (from + 1) es j c (is ∙ ap Some number) at)

pub below_true : (b : Bool) (walk : Walk) (me : BranchId) (comment : List ℕ) (es : List Edge) (p c : BranchId) → was_sent is_below (prepares me comment (path_of b walk) 1 es) p c ≡ true → b ≡ true
below_true true walk me comment es p c told = refl
below_true false walk me comment es p c told = let none : was_sent is_below (prepares me comment None 1 es) p c ≡ false = none_below me comment 1 es p c in absurd (cc (told, none))

-- ---- branches

-- a working branch has nothing to show
pub working_told : (said : List Post) (me : BranchId) (parent : Option BranchId) (phase : Phase) (peers : List BranchId) (walk : Walk) → phase ≡ phases.Working → AsToldSo said me parent phase peers walk
working_told said me parent phase peers walk working = record {
  way = λ b is. (let none : way_of phase ≡ None = ap way_of working in absurd (cc (none, is)));
  root = λ above is. (let none : way_of phase ≡ None = ap way_of working in absurd (cc (none, is)));
  kids = λ other. absurd (other working);
  alone = λ other. absurd (other working);
  below = λ other. absurd (other working);
  points = λ other. absurd (other working);
}

-- messages that do not ask in its name leave a branch so
pub stays_told : (said says : List Post) (me : BranchId) (parent : Option BranchId) (phase : Phase) (peers : List BranchId) (walk : Walk) → ((c : BranchId) → was_asked says me c ≡ false) → AsToldSo said me parent phase peers walk
    → AsToldSo (said ++ says) me parent phase peers walk
stays_told said says me parent phase peers walk none is = record {
  way = λ b at q above. sent_more (tells b) said says q me (is.way b at q above);
  root = is.root;
  kids = λ other i c at. asked_more said says me c (is.kids other i c at);
  alone = λ other c asked. elim (asked_split said says me c asked) [ inl old ↦ is.alone other c old | inr new ↦ (let no : was_asked says me c ≡ false = none c in absurd (cc (new, no))) ];
  below = λ other c told. elim (sent_split is_below said says me c told) [ inl old ↦ is.below other c old | inr new ↦ (let no : was_sent is_below says me c ≡ false = unasked_below says me c (none c) in absurd (cc (new, no))) ];
  points = λ other i c at there. sent_more is_below said says me c (is.points other i c at there);
}

-- an answer leaves the walk as it was, and so does Ready
pub voted_step : (l : Live) (from : BranchId) (v : Vote) → step (voted l from v) ≡ step l
unfolding step
voted_step l from v =
    ap (λ ws. walk_by l.changed l.strength (place_of_greatest 1 ws None))
    (map_after (λ (e : Edge). e.weight) (has_voted from v) (λ (e : Edge). e.weight) (λ e. cond_both (answers_first from e) (record e { vote = v }) e (λ y. y.weight ≡ e.weight) (λ here. refl) (λ other. refl)) l.edges)

ready_step : (l : Live) → step (ready l) ≡ step l
unfolding step
ready_step l = refl

pub ready_path : (l : Live) → l.phase ≡ phases.Collecting true → path_on l.phase (step l) ≡ path_on phases.Ready (step (ready l))
ready_path l at = ap (λ ph. path_on ph (step l)) at ∙ ap (path_of true) (sym (ready_step l))
