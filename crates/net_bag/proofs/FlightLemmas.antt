-- The numbers of the messages in flight: what they are after a message is sent, after one meets its fate, and after all on a
-- route are lost.
use Rattle.std.proofs.Common.{◌≡◌, ◌≢◌, ◌<◌, ◌≤◌, ◌+◌, ◌==◌, ◌&&◌, ℕ, zero, suc, Bool, true, false, not, cond, nat_lt, List, [], ◌∷◌, ◌++◌, map, filter, fold, length, Option, Some, None, Bor, ◌↔◌, slice_get, get_or, refl, sym, ap, subst, ◌∙◌, true≢false, arith}
use Rattle.std.proofs.Math.ListN.{set}
use Rattle.std.proofs.lemmas.Bool.Decides.{nat_tests}
use Rattle.std.specs.BTreeMap.{is_at}
use Rattle.std.specs.BTreeSet.{insert_key}
use Rattle.std.specs.Cmp.{ranks}
use Rattle.std.specs.List.{flat_map, position, position_or_len}
use Rattle.std.specs.Option.{IfSome, IsSome, option_copied, option_map}
use Rattle.std.specs.declared.cmp.Ordering.{Ordering}
use Rattle.std.specs.declared.cmp.Ordering.TheVariants.{Less, Equal, Greater}
use Rattle.std.specs.Ordering.{MatchOrdering, is_eq, match_ordering, nat_cmp}
use Rattle.std.specs.Set.{remove_key}
use Rattle.tran_ids.specs.Listed.{numbered}
use Rattle.net_bag.specs.declared.packet.Fate.{Fate}
use Rattle.net_bag.specs.declared.packet.Fate.TheVariants as fates
use Rattle.net_bag.specs.declared.packet.Packet.{Packet}
use Rattle.net_bag.specs.declared.route.Route.{Route}
use Rattle.net_bag.specs.Net.{fated, flies, is_flying, numbers_where, packet, with_fate}
use Rattle.net_bag.specs.Numbered.{flying_numbers, lines_at, met_at, passes_at}
use Rattle.net_bag.specs.Route.{lost_along, takes}
use Rattle.net_bag.specs.Texts.{flying_lines, packet_text}

-- ---- two numbers compared

eq_by : (o : Ordering) (a b : ℕ) → MatchOrdering o (a < b) (a ≡ b) (b < a) → is_eq o ≡ (a == b)
eq_by Less a b h = grind (arith, nat_tests)
eq_by Equal a b h = grind (arith, nat_tests)
eq_by Greater a b h = grind (arith, nat_tests)

hits : (k q : ℕ) → k ≡ q → is_at (nat_cmp k) q ≡ true
hits k q e = eq_by (nat_cmp k q) k q (ranks k q) ∙ grind (arith, nat_tests)

misses : (k q : ℕ) → k ≢ q → is_at (nat_cmp k) q ≡ false
misses k q ne = eq_by (nat_cmp k q) k q (ranks k q) ∙ grind (arith, nat_tests)

greater_by : (o : Ordering) (a b : ℕ) → MatchOrdering o (a < b) (a ≡ b) (b < a) → b < a → o ≡ Greater
greater_by Less a b h lt = absurd (omega arith)
greater_by Equal a b h lt = absurd (omega arith)
greater_by Greater a b h lt = refl

greater : (a b : ℕ) → b < a → nat_cmp a b ≡ Greater
greater a b lt = greater_by (nat_cmp a b) a b (ranks a b) lt

-- ---- a message meets its fate

-- the message at a place, from 0, meets its fate
abbrev met_place : Fate → List Packet → ℕ → List Packet
met_place fate [] i = []
met_place fate (x ∷ xs) zero = fated fate x ∷ xs
met_place fate (x ∷ xs) (suc i) = x ∷ met_place fate xs i

behind_first : (fate : Fate) (x : Packet) (xs : List Packet) (i : ℕ) (found : Option Packet) → with_fate (x ∷ xs) (suc (suc i)) fate found ≡ x ∷ with_fate xs (suc i) fate found
behind_first fate x xs i None = refl
behind_first fate x xs i (Some y) = refl

place_of_number : (fate : Fate) (xs : List Packet) (i : ℕ) → with_fate xs (suc i) fate (slice_get xs i) ≡ met_place fate xs i
place_of_number fate [] i = refl
place_of_number fate (x ∷ xs) zero = refl
place_of_number fate (x ∷ xs) (suc i) = behind_first fate x xs i (slice_get xs i) ∙ ap (λ l. x ∷ l) (place_of_number fate xs i)

settled_by : (fate : Fate) (x : Packet) (b : Bool) → flies x ≡ b → is_flying fate ≡ false → flies (cond b (packet x.msg fate) x) ≡ false
settled_by fate x true e h = h
settled_by fate x false e h = e

-- what has met its fate is not in flight
settled : (fate : Fate) (x : Packet) → is_flying fate ≡ false → flies (fated fate x) ≡ false
settled fate x h = settled_by fate x (flies x) refl h

stays_step : (p : ℕ → Bool) (b : Bool) (s : ℕ) (ns : List ℕ) → p s ≡ false → remove_key p ns ≡ ns → remove_key p (cond b (s ∷ ns) ns) ≡ cond b (s ∷ ns) ns
stays_step p true s ns e h = ap (λ v. cond v ns (s ∷ remove_key p ns)) e ∙ ap (λ l. s ∷ l) h
stays_step p false s ns e h = h

below_is_no_loss : (k s : ℕ) (xs : List Packet) → k < s → remove_key (is_at (nat_cmp k)) (numbers_where flies s xs) ≡ numbers_where flies s xs
below_is_no_loss k s [] lt = refl
below_is_no_loss k s (x ∷ xs) lt =
    stays_step (is_at (nat_cmp k)) (flies x) s (numbers_where flies (s + 1) xs) (misses k s (λ e. omega arith)) (below_is_no_loss k (s + 1) xs (omega arith))

gone_step : (p : ℕ → Bool) (b c : Bool) (s : ℕ) (ns : List ℕ) → p s ≡ true → remove_key p ns ≡ ns → c ≡ false → remove_key p (cond b (s ∷ ns) ns) ≡ cond c (s ∷ ns) ns
gone_step p true c s ns e h f = ap (λ v. cond v ns (s ∷ remove_key p ns)) e ∙ sym (ap (λ v. cond v (s ∷ ns) ns) f)
gone_step p false c s ns e h f = h ∙ sym (ap (λ v. cond v (s ∷ ns) ns) f)

behind_step : (p : ℕ → Bool) (b : Bool) (s : ℕ) (ns ms : List ℕ) → p s ≡ false → remove_key p ns ≡ ms → remove_key p (cond b (s ∷ ns) ns) ≡ cond b (s ∷ ms) ms
behind_step p true s ns ms e h = ap (λ v. cond v ns (s ∷ remove_key p ns)) e ∙ ap (λ l. s ∷ l) h
behind_step p false s ns ms e h = h

gone_from : (fate : Fate) (k s i : ℕ) (xs : List Packet) → k ≡ s + i → is_flying fate ≡ false
    → remove_key (is_at (nat_cmp k)) (numbers_where flies s xs) ≡ numbers_where flies s (met_place fate xs i)
gone_from fate k s i [] e h = refl
gone_from fate k s zero (x ∷ xs) e h =
    gone_step (is_at (nat_cmp k)) (flies x) (flies (fated fate x)) s (numbers_where flies (s + 1) xs) (hits k s (omega arith)) (below_is_no_loss k (s + 1) xs (omega arith)) (settled fate x h)
gone_from fate k s (suc i) (x ∷ xs) e h =
    behind_step (is_at (nat_cmp k)) (flies x) s (numbers_where flies (s + 1) xs) (numbers_where flies (s + 1) (met_place fate xs i)) (misses k s (λ q. omega arith)) (gone_from fate k (s + 1) i xs (omega arith) h)

-- the number of a message that meets its fate is no longer among them
pub gone : (fate : Fate) (xs : List Packet) (k : ℕ) → is_flying fate ≡ false → remove_key (is_at (nat_cmp k)) (flying_numbers xs) ≡ flying_numbers (met_at fate xs k)
unfolding flying_numbers met_at
gone fate xs zero h = below_is_no_loss 0 1 xs (omega arith)
gone fate xs (suc i) h = gone_from fate (suc i) 1 i xs (omega arith) h ∙ ap (numbers_where flies 1) (sym (place_of_number fate xs i))

found_at : (xs : List Packet) (i : ℕ) (d : Packet) → i < length xs → slice_get xs i ≡ Some (get_or xs i d)
found_at [] i d lt = absurd (omega arith)
found_at (x ∷ xs) zero d lt = refl
found_at (x ∷ xs) (suc i) d lt = found_at xs i d (omega arith)

none_past : (xs : List Packet) (i : ℕ) → length xs ≤ i → slice_get xs i ≡ None
none_past [] i le = refl
none_past (x ∷ xs) zero le = absurd (omega arith)
none_past (x ∷ xs) (suc i) le = none_past xs i (omega arith)

-- no message has the number 0
pub met_at_none : (fate : Fate) (xs : List Packet) → met_at fate xs 0 ≡ xs
unfolding met_at
met_at_none fate xs = refl

-- nor a number past the last
pub met_at_past : (fate : Fate) (xs : List Packet) (i : ℕ) → length xs ≤ i → met_at fate xs (suc i) ≡ xs
unfolding met_at
met_at_past fate xs i le = ap (with_fate xs (suc i) fate) (none_past xs i le)

-- the message of a number is set
pub met_at_place : (fate : Fate) (xs : List Packet) (i : ℕ) (d : Packet) → i < length xs → set xs i (fated fate (get_or xs i d)) ≡ met_at fate xs (suc i)
unfolding met_at
met_at_place fate xs i d lt = sym (ap (with_fate xs (suc i) fate) (found_at xs i d lt))

-- ---- one more message

last_step : (b : Bool) (s k : ℕ) (ns : List ℕ) → s < k → insert_key nat_cmp ns k ≡ ns ++ k ∷ [] → insert_key nat_cmp (cond b (s ∷ ns) ns) k ≡ cond b (s ∷ ns) ns ++ k ∷ []
last_step true s k ns lt h = ap (λ o. match_ordering o (k ∷ s ∷ ns) (s ∷ ns) (s ∷ insert_key nat_cmp ns k)) (greater k s lt) ∙ ap (λ l. s ∷ l) h
last_step false s k ns lt h = h

put_last : (k s : ℕ) (xs : List Packet) → s + length xs ≤ k → insert_key nat_cmp (numbers_where flies s xs) k ≡ numbers_where flies s xs ++ k ∷ []
put_last k s [] le = refl
put_last k s (x ∷ xs) le = last_step (flies x) s k (numbers_where flies (s + 1) xs) (omega arith) (put_last k (s + 1) xs (omega arith))

cons_step : (b : Bool) (s : ℕ) (ns ms more : List ℕ) → ms ≡ ns ++ more → cond b (s ∷ ms) ms ≡ cond b (s ∷ ns) ns ++ more
cons_step true s ns ms more h = ap (λ l. s ∷ l) h
cons_step false s ns ms more h = h

one_more : (s k : ℕ) (xs : List Packet) (x : Packet) → k ≡ s + length xs → numbers_where flies s (xs ++ x ∷ []) ≡ numbers_where flies s xs ++ cond (flies x) (k ∷ []) []
one_more s k [] x e = let same : k ≡ s = omega arith in ap (λ n. cond (flies x) (n ∷ []) []) (sym same)
one_more s k (y ∷ xs) x e =
    cons_step (flies y) s (numbers_where flies (s + 1) xs) (numbers_where flies (s + 1) (xs ++ x ∷ [])) (cond (flies x) (k ∷ []) []) (one_more (s + 1) k xs x (omega arith))

sent_step : (b : Bool) (ns ms : List ℕ) (k : ℕ) → insert_key nat_cmp ns k ≡ ns ++ k ∷ [] → ms ≡ ns ++ cond b (k ∷ []) [] → ns ++ [] ≡ ns → cond b (insert_key nat_cmp ns k) ns ≡ ms
sent_step true ns ms k last h nil = last ∙ sym h
sent_step false ns ms k last h nil = sym nil ∙ sym h

append_none : (ns : List ℕ) → ns ++ [] ≡ ns
append_none [] = refl
append_none (n ∷ ns) = ap (λ l. n ∷ l) (append_none ns)

-- the number of one more message comes last
pub noted : (xs : List Packet) (x : Packet) → cond (flies x) (insert_key nat_cmp (flying_numbers xs) (length xs + 1)) (flying_numbers xs) ≡ flying_numbers (xs ++ x ∷ [])
unfolding flying_numbers
noted xs x =
    sent_step (flies x) (numbers_where flies 1 xs) (numbers_where flies 1 (xs ++ x ∷ [])) (length xs + 1) (put_last (length xs + 1) 1 xs (omega arith)) (one_more 1 (length xs + 1) xs x (omega arith)) (append_none (numbers_where flies 1 xs))

-- ---- walks over the numbers

module _ (at : ℕ → Option Packet) where
  -- from this number on, `at` gives these messages
  abbrev Gives : ℕ → List Packet → Type 0
  Gives s xs = (i : ℕ) → at (s + i) ≡ slice_get xs i

  first_given : (s : ℕ) (x : Packet) (xs : List Packet) → Gives s (x ∷ xs) → at s ≡ Some x
  first_given s x xs h = let same : s + 0 ≡ s = omega arith in ap at (sym same) ∙ h 0

  others_given : (s : ℕ) (x : Packet) (xs : List Packet) → Gives s (x ∷ xs) → Gives (s + 1) xs
  others_given s x xs h i = let same : s + 1 + i ≡ s + suc i = omega arith in ap at same ∙ h (suc i)

  filter_step : (f : ℕ → Bool) (b t : Bool) (s : ℕ) (ns ms : List ℕ) → f s ≡ t → filter f ns ≡ ms → filter f (cond b (s ∷ ns) ns) ≡ cond (b && t) (s ∷ ms) ms
  filter_step f true true s ns ms e h = ap (λ v. cond v (s ∷ filter f ns) (filter f ns)) e ∙ ap (λ l. s ∷ l) h
  filter_step f true false s ns ms e h = ap (λ v. cond v (s ∷ filter f ns) (filter f ns)) e ∙ h
  filter_step f false t s ns ms e h = h

  kept_from : (test : Packet → Bool) (s : ℕ) (xs : List Packet) → Gives s xs
      → filter (λ k. passes_at test (at k)) (numbers_where flies s xs) ≡ numbers_where (λ x. flies x && test x) s xs
  kept_from test s [] h = refl
  kept_from test s (x ∷ xs) h =
      filter_step (λ k. passes_at test (at k)) (flies x) (test x) s (numbers_where flies (s + 1) xs) (numbers_where (λ y. flies y && test y) (s + 1) xs)
      (ap (passes_at test) (first_given s x xs h)) (kept_from test (s + 1) xs (others_given s x xs h))

  line_step : (g : ℕ → List (List ℕ)) (b : Bool) (s : ℕ) (ns : List ℕ) (line : List ℕ) (lines : List (List ℕ)) → g s ≡ line ∷ [] → flat_map g ns ≡ lines
      → flat_map g (cond b (s ∷ ns) ns) ≡ cond b (line ∷ lines) lines
  line_step g true s ns line lines e h = ap (λ l. l ++ flat_map g ns) e ∙ ap (λ l. line ∷ l) h
  line_step g false s ns line lines e h = h

  shown_from : (names : List (List ℕ)) (s : ℕ) (xs : List Packet) → Gives s xs → flat_map (λ k. lines_at names k (at k)) (numbers_where flies s xs) ≡ flying_lines names s xs
  shown_from names s [] h = refl
  shown_from names s (x ∷ xs) h =
      line_step (λ k. lines_at names k (at k)) (flies x) s (numbers_where flies (s + 1) xs) (packet_text names s x) (flying_lines names (s + 1) xs)
      (ap (lines_at names s) (first_given s x xs h)) (shown_from names (s + 1) xs (others_given s x xs h))

given : (xs : List Packet) (i : ℕ) → numbered xs (1 + i) ≡ slice_get xs i
given xs i = let same : 1 + i ≡ suc i = omega arith in ap (numbered xs) same

-- the numbers in flight whose messages pass a test
pub kept_numbers : (test : Packet → Bool) (xs : List Packet) → filter (λ k. passes_at test (numbered xs k)) (flying_numbers xs) ≡ numbers_where (λ x. flies x && test x) 1 xs
unfolding flying_numbers
kept_numbers test xs = kept_from (numbered xs) test 1 xs (given xs)

-- the lines of the messages in flight
pub shown_numbers : (names : List (List ℕ)) (xs : List Packet) → flat_map (λ k. lines_at names k (numbered xs k)) (flying_numbers xs) ≡ flying_lines names 1 xs
unfolding flying_numbers
shown_numbers names xs = shown_from (numbered xs) names 1 xs (given xs)

-- ---- all on a route are lost

met_behind : (x : Packet) (xs : List Packet) (k : ℕ) → met_at fates.Lost (x ∷ xs) (suc (suc k)) ≡ x ∷ met_at fates.Lost xs (suc k)
unfolding met_at
met_behind x xs k = behind_first fates.Lost x xs k (slice_get xs k)

met_first : (x : Packet) (xs : List Packet) → met_at fates.Lost (x ∷ xs) 1 ≡ fated fates.Lost x ∷ xs
unfolding met_at
met_first x xs = refl

module _ (test : Packet → Bool) where
  skip_step : (b : Bool) (x : Packet) (xs qs : List Packet) (s : ℕ) (ns ms : List ℕ)
      → fold (met_at fates.Lost) (x ∷ met_at fates.Lost qs (suc s)) ns ≡ x ∷ fold (met_at fates.Lost) (met_at fates.Lost qs (suc s)) ms
      → fold (met_at fates.Lost) (x ∷ qs) ns ≡ x ∷ fold (met_at fates.Lost) qs ms
      → fold (met_at fates.Lost) (x ∷ qs) (cond b (suc (suc s) ∷ ns) ns) ≡ x ∷ fold (met_at fates.Lost) qs (cond b (suc s ∷ ms) ms)
  skip_step true x xs qs s ns ms h g = ap (λ l. fold (met_at fates.Lost) l ns) (met_behind x qs s) ∙ h
  skip_step false x xs qs s ns ms h g = g

  -- higher numbers leave the first message as it is
  lost_behind : (x : Packet) (qs : List Packet) (s t u : ℕ) (xs : List Packet) → t ≡ suc s → u ≡ suc t
      → fold (met_at fates.Lost) (x ∷ qs) (numbers_where test u xs) ≡ x ∷ fold (met_at fates.Lost) qs (numbers_where test t xs)
  lost_behind x qs s t u [] e f = refl
  lost_behind x qs s t u (y ∷ xs) e f =
      let to : u ≡ suc (suc s) = omega arith in
      let from : t ≡ suc s = e in
      subst (λ n. fold (met_at fates.Lost) (x ∷ qs) (cond (test y) (n ∷ numbers_where test (u + 1) xs) (numbers_where test (u + 1) xs)) ≡ x ∷ fold (met_at fates.Lost) qs (cond (test y) (t ∷ numbers_where test (t + 1) xs) (numbers_where test (t + 1) xs))) (sym to)
      (subst (λ n. fold (met_at fates.Lost) (x ∷ qs) (cond (test y) (suc (suc s) ∷ numbers_where test (u + 1) xs) (numbers_where test (u + 1) xs)) ≡ x ∷ fold (met_at fates.Lost) qs (cond (test y) (n ∷ numbers_where test (t + 1) xs) (numbers_where test (t + 1) xs))) (sym from)
      (skip_step (test y) x xs qs s (numbers_where test (u + 1) xs) (numbers_where test (t + 1) xs)
      (lost_behind x (met_at fates.Lost qs (suc s)) t (t + 1) (u + 1) xs (omega arith) (omega arith))
      (lost_behind x qs t (t + 1) (u + 1) xs (omega arith) (omega arith))))

lost_or_not : (flying on : Bool) (x : Packet) → flies x ≡ flying → cond (flying && on) (fated fates.Lost x) x ≡ cond on (fated fates.Lost x) x
lost_or_not true on x e = refl
lost_or_not false true x e = sym (ap (λ v. cond v (packet x.msg fates.Lost) x) e)
lost_or_not false false x e = refl

all_step : (b : Bool) (x : Packet) (xs lost : List Packet) (ns : List ℕ)
    → ((y : Packet) → fold (met_at fates.Lost) (y ∷ xs) ns ≡ y ∷ lost)
    → fold (met_at fates.Lost) (x ∷ xs) (cond b (1 ∷ ns) ns) ≡ cond b (fated fates.Lost x) x ∷ lost
all_step true x xs lost ns h = ap (λ l. fold (met_at fates.Lost) l ns) (met_first x xs) ∙ h (fated fates.Lost x)
all_step false x xs lost ns h = h x

-- those on a route are lost one after the other
pub all_lost : (route : Route) (xs : List Packet) → fold (met_at fates.Lost) xs (numbers_where (λ x. flies x && takes route x) 1 xs) ≡ map (lost_along route) xs
all_lost route [] = refl
all_lost route (x ∷ xs) =
    let test = λ (y : Packet). flies y && takes route y in
    all_step (test x) x xs (map (lost_along route) xs) (numbers_where test 2 xs) (λ y. lost_behind test y xs 0 1 2 xs refl refl ∙ ap (λ l. y ∷ l) (all_lost route xs))
    ∙ ap (λ y. y ∷ map (lost_along route) xs) (lost_or_not (flies x) (takes route x) x refl)

-- ---- the first

place_step : (b : Bool) (n m : ℕ)
    → cond (nat_lt (cond (not b) (1 + n) 0) (suc m)) (Some (cond (not b) (1 + n) 0)) None ≡ cond b (Some 0) (option_map suc (cond (nat_lt n m) (Some n) None))
place_step true n m = let lt : nat_lt 0 (suc m) ≡ true = grind (arith, nat_tests) in ap (λ v. cond v (Some 0) None) lt
place_step false n m = within (nat_lt n m) refl
  where
    within : (v : Bool) → nat_lt n m ≡ v → cond (nat_lt (1 + n) (suc m)) (Some (1 + n)) None ≡ option_map suc (cond (nat_lt n m) (Some n) None)
    within true e = let lt : nat_lt (1 + n) (suc m) ≡ true = grind (arith, nat_tests) in let same : 1 + n ≡ suc n = omega arith in rw (lt, e) (ap Some same)
    within false e = let lt : nat_lt (1 + n) (suc m) ≡ false = grind (arith, nat_tests) in rw (lt, e) refl

place_behind : (x : Packet) (xs : List Packet) → position flies (x ∷ xs) ≡ cond (flies x) (Some 0) (option_map suc (position flies xs))
place_behind x xs = place_step (flies x) (position_or_len flies xs) (length xs)

first_step : (b : Bool) (s : ℕ) (ns : List ℕ) (found : Option ℕ) → option_map (λ i. i + (s + 1)) found ≡ slice_get ns 0
    → option_map (λ i. i + s) (cond b (Some 0) (option_map suc found)) ≡ slice_get (cond b (s ∷ ns) ns) 0
first_step true s ns found h = let same : 0 + s ≡ s = omega arith in ap Some same
first_step false s ns None h = h
first_step false s ns (Some i) h = let same : suc i + s ≡ i + (s + 1) = omega arith in ap Some same ∙ h

first_from : (s : ℕ) (xs : List Packet) → option_map (λ i. i + s) (position flies xs) ≡ slice_get (numbers_where flies s xs) 0
first_from s [] = refl
first_from s (x ∷ xs) = ap (option_map (λ i. i + s)) (place_behind x xs) ∙ first_step (flies x) s (numbers_where flies (s + 1) xs) (position flies xs) (first_from (s + 1) xs)

-- the least number in flight
pub first_is : (xs : List Packet) → option_map (λ i. i + 1) (position flies xs) ≡ slice_get (flying_numbers xs) 0
unfolding flying_numbers
first_is xs = first_from 1 xs

-- what `first` gives, as the first item of a list
pub first_found : (found : Option (Bor ℕ)) (ks : List ℕ) → IfSome found (λ k. slice_get ks 0 ≡ Some k.now) → (IsSome found ↔ (0 < length ks)) → option_copied found ≡ slice_get ks 0
first_found (Some k) ks h v = sym h
first_found None [] h v = refl
first_found None (k ∷ ks) h v = absurd (true≢false (sym (v.1 (omega arith))))
