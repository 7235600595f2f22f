-- The pending calls by their commands: no two are of one session, so one that ends leaves those of all other commands.
use Rattle.std.proofs.Common.{◌≡◌, ℕ, ◌+◌, ◌≤◌, ◌==◌, ◌&&◌, ◌||◌, not, Bool, true, false, if◌then◌else◌, List, [], ◌∷◌, ◌++◌, map, filter, find, Some, None, refl, sym, ap, subst, ◌∙◌, arith}
use Rattle.std.specs.List.{AllByRecursion, list_any}
use Rattle.std.proofs.lemmas.Bool.{cond_both, and_from, eqb-true, eq-eqb}
use Rattle.run_rules.specs.Calls.{is_call_at}
use Rattle.run_rules.specs.Data.{Command}
use Rattle.run_rules.specs.Data.commands
use Rattle.run_rules.specs.Facts.{command_at}
use Rattle.run_rules.specs.RunReport.{Call}
use Rattle.run_rules.proofs.ListLemmas.{all_filter, all_weaker}
use Rattle.run_ready_laws.proofs.PendingLemmas.{at_parts}
use Rattle.answer_origin_laws.proofs.CallAtLemmas.{HasShape, AreShaped, named_so}

-- whether one of these calls is of a command
abbrev pub pends : ℕ → List Call → Bool
pends d cs = list_any (λ (c : Call). c.command == d) cs

-- no two calls are of one session
abbrev pub AreApart : List Call → Type 0
AreApart [] = Unit {0}
AreApart (c ∷ cs) = AllByRecursion (λ (d : Call). is_call_at c.node c.session d ≡ false) cs × AreApart cs

module _ {A : Type 0} (P Q : A → Type 0) where
  pub all_both : (xs : List A) → AllByRecursion P xs → AllByRecursion Q xs → AllByRecursion (λ x. P x × Q x) xs
  all_both [] p q = tt
  all_both (x ∷ xs) p q = ((p.0, q.0), all_both xs p.1 q.1)

-- one that is pending is among them
pub pending_one : (P : Call → Type 0) (d : ℕ) (cs : List Call) → AllByRecursion P cs → pends d cs ≡ true → (c : Call) × P c × (c.command ≡ d)
pending_one P d [] all is = absurd cc
pending_one P d (c ∷ cs) all is = by (c.command == d) refl (pending_one P d cs all.1)
  where
    by : (q : Bool) → (c.command == d) ≡ q → (pends d cs ≡ true → (x : Call) × P x × (x.command ≡ d)) → (x : Call) × P x × (x.command ≡ d)
    by true here later = (c, all.0, eqb-true c.command d here)
    by false other later = later (sym (ap (λ q. q || pends d cs) other) ∙ is)

pub found_pends : (p : Call → Bool) (c : Call) (cs : List Call) → find p cs ≡ Some c → pends c.command cs ≡ true
found_pends p c [] is = absurd cc
found_pends p c (x ∷ xs) is = by (p x) refl (found_pends p c xs)
  where
    by : (q : Bool) → p x ≡ q → (find p xs ≡ Some c → pends c.command xs ≡ true) → ((x.command == c.command) || pends c.command xs) ≡ true
    by true here later =
        let it : Some x ≡ Some c = sym (ap (λ q. if q then Some x else find p xs) here) ∙ is in
        let same : x ≡ c = cc in
        ap (λ q. q || pends c.command xs) (eq-eqb x.command c.command (ap (λ (y : Call). y.command) same))
    by false other later =
        let rest : pends c.command xs ≡ true = later (sym (ap (λ q. if q then Some x else find p xs) other) ∙ is) in
        grind (arith, rest)

at_own : (c : Call) → is_call_at c.node c.session c ≡ true
at_own c = and_from (c.node == c.node) (c.session == c.session) (eq-eqb c.node c.node refl) (eq-eqb c.session c.session refl)

-- that one is not of the session of the other says the same of the other
pub apart_back : (c d : Call) → is_call_at c.node c.session d ≡ false → is_call_at d.node d.session c ≡ false
apart_back c d other = by (is_call_at d.node d.session c) refl
  where
    by : (q : Bool) → is_call_at d.node d.session c ≡ q → q ≡ false
    by false is = refl
    by true is =
        let parts = at_parts d.node d.session c is in
        let yes : is_call_at c.node c.session d ≡ true = and_from (d.node == c.node) (d.session == c.session) (eq-eqb d.node c.node (sym parts.0)) (eq-eqb d.session c.session (sym parts.1)) in
        absurd (cc (yes, other))

-- each is the call of its session
pub apart_found : (cs : List Call) → AreApart cs → AllByRecursion (λ (c : Call). find (is_call_at c.node c.session) cs ≡ Some c) cs
apart_found [] all = tt
apart_found (c ∷ cs) all = (
  ap (λ q. if q then Some c else find (is_call_at c.node c.session) cs) (at_own c),
  all_weaker (λ (d : Call). (is_call_at c.node c.session d ≡ false) × (find (is_call_at d.node d.session) cs ≡ Some d)) (λ (d : Call). find (is_call_at d.node d.session) (c ∷ cs) ≡ Some d)
      (λ d so. ap (λ q. if q then Some c else find (is_call_at d.node d.session) cs) (apart_back c d so.0) ∙ so.1) cs
      (all_both (λ (d : Call). is_call_at c.node c.session d ≡ false) (λ (d : Call). find (is_call_at d.node d.session) cs ≡ Some d) cs all.0 (apart_found cs all.1)),
)

pub apart_filter : (p : Call → Bool) (cs : List Call) → AreApart cs → AreApart (filter p cs)
apart_filter p [] all = tt
apart_filter p (c ∷ cs) all =
    cond_both (p c) (c ∷ filter p cs) (filter p cs) AreApart
    (λ kept. (all_filter (λ (d : Call). is_call_at c.node c.session d ≡ false) (λ (d : Call). is_call_at c.node c.session d ≡ false) p (λ d passes is. is) cs all.0, apart_filter p cs all.1)) (λ left. apart_filter p cs all.1)

-- a call that is changed is of the same session and command
pub record IsSame (c d : Call) : Type 0 where
  pub node : d.node ≡ c.node
  pub session : d.session ≡ c.session
  pub command : d.command ≡ c.command

module _ (g : Call → Call) where
  abbrev pub AreSame : List Call → Type 0
  AreSame cs = AllByRecursion (λ (c : Call). IsSame c (g c)) cs

  still_apart : (c : Call) → IsSame c (g c) → (cs : List Call) → AreSame cs → AllByRecursion (λ (d : Call). is_call_at c.node c.session d ≡ false) cs → AllByRecursion (λ (d : Call). is_call_at (g c).node (g c).session d ≡ false) (map g cs)
  still_apart c so [] same all = tt
  still_apart c so (d ∷ ds) same all = (
    ap (λ n. (n == (g c).node) && ((g d).session == (g c).session)) same.0.node ∙ (ap (λ n. (d.node == (g c).node) && (n == (g c).session)) same.0.session
        ∙ (ap (λ n. (d.node == n) && (d.session == (g c).session)) so.node ∙ (ap (λ n. (d.node == c.node) && (d.session == n)) so.session ∙ all.0))),
    still_apart c so ds same.1 all.1,
  )

  pub apart_map : (cs : List Call) → AreSame cs → AreApart cs → AreApart (map g cs)
  apart_map [] same all = tt
  apart_map (c ∷ cs) same all = (still_apart c same.0 cs same.1 all.0, apart_map cs same.1 all.1)

  pub pends_map : (d : ℕ) (cs : List Call) → AreSame cs → pends d (map g cs) ≡ pends d cs
  pends_map d [] same = refl
  pends_map d (c ∷ cs) same = ap (λ n. (n == d) || pends d (map g cs)) same.0.command ∙ ap (λ q. (c.command == d) || q) (pends_map d cs same.1)

  pub past_map : (r : ℕ) (cs : List Call) → AreSame cs → AllByRecursion (λ (c : Call). c.command ≤ r) cs → AllByRecursion (λ (c : Call). c.command ≤ r) (map g cs)
  past_map r [] same all = tt
  past_map r (c ∷ cs) same all = (subst (λ n. n ≤ r) (sym same.0.command) all.0, past_map r cs same.1 all.1)

-- ---- one more

none_at : (n s : ℕ) (cs : List Call) → find (is_call_at n s) cs ≡ None → AllByRecursion (λ (c : Call). is_call_at n s c ≡ false) cs
none_at n s [] is = tt
none_at n s (c ∷ cs) is = by (is_call_at n s c) refl (none_at n s cs)
  where
    by : (q : Bool) → is_call_at n s c ≡ q → (find (is_call_at n s) cs ≡ None → AllByRecursion (λ (d : Call). is_call_at n s d ≡ false) cs) → (is_call_at n s c ≡ false) × AllByRecursion (λ (d : Call). is_call_at n s d ≡ false) cs
    by true here later = let it : find (is_call_at n s) (c ∷ cs) ≡ Some c = ap (λ q. if q then Some c else find (is_call_at n s) cs) here in absurd (cc (it, is))
    by false other later = (other, later (sym (ap (λ q. if q then Some c else find (is_call_at n s) cs) other) ∙ is))

last_apart : (cs : List Call) (x c : Call) → AllByRecursion (λ (d : Call). is_call_at c.node c.session d ≡ false) cs → is_call_at c.node c.session x ≡ false → AllByRecursion (λ (d : Call). is_call_at c.node c.session d ≡ false) (cs ++ x ∷ [])
last_apart [] x c all is = (is, tt)
last_apart (d ∷ ds) x c all is = (all.0, last_apart ds x c all.1 is)

one_apart : (cs : List Call) (x : Call) → AllByRecursion (λ (c : Call). is_call_at x.node x.session c ≡ false) cs → AreApart cs → AreApart (cs ++ x ∷ [])
one_apart [] x none all = (tt, tt)
one_apart (c ∷ cs) x none all = (last_apart cs x c all.0 (apart_back x c none.0), one_apart cs x none.1 all.1)

pub more_apart : (cs : List Call) (x : Call) → find (is_call_at x.node x.session) cs ≡ None → AreApart cs → AreApart (cs ++ x ∷ [])
more_apart cs x none all = one_apart cs x (none_at x.node x.session cs none) all

pub more_pends : (d : ℕ) (cs : List Call) (x : Call) → pends d (cs ++ x ∷ []) ≡ (pends d cs || (x.command == d))
more_pends d [] x = grind (arith)
more_pends d (c ∷ cs) x = let rest : pends d (cs ++ x ∷ []) ≡ (pends d cs || (x.command == d)) = more_pends d cs x in ap (λ q. (c.command == d) || q) rest ∙ or_both (c.command == d) (pends d cs) (x.command == d)
  where
    or_both : (a b e : Bool) → (a || (b || e)) ≡ ((a || b) || e)
    or_both true b e = refl
    or_both false b e = refl

pub past_pends : (r d : ℕ) (cs : List Call) → AllByRecursion (λ (c : Call). c.command ≤ r) cs → r + 1 ≤ d → pends d cs ≡ false
past_pends r d [] all high = refl
past_pends r d (c ∷ cs) all high =
    let low : c.command ≤ r = all.0 in
    let other : (c.command == d) ≡ false = by (c.command == d) refl low in
    ap (λ q. q || pends d cs) other ∙ past_pends r d cs all.1 high
  where
    by : (q : Bool) → (c.command == d) ≡ q → c.command ≤ r → q ≡ false
    by false is low = refl
    by true is low = let same : c.command ≡ d = eqb-true c.command d is in absurd (omega (arith, same, low, high))

-- ---- one less

filter_all : (n s : ℕ) (cs : List Call) → AllByRecursion (λ (c : Call). is_call_at n s c ≡ false) cs → filter (λ c. not (is_call_at n s c)) cs ≡ cs
filter_all n s [] all = refl
filter_all n s (c ∷ cs) all = ap (λ q. if not q then c ∷ filter (λ d. not (is_call_at n s d)) cs else filter (λ d. not (is_call_at n s d)) cs) all.0 ∙ ap (λ ds. c ∷ ds) (filter_all n s cs all.1)

module _ (asked : List Command) where
  -- a call of the same command is of the same session
  pub one_session : (c d : Call) → HasShape asked c → HasShape asked d → c.command ≡ d.command → is_call_at c.node c.session d ≡ true
  one_session c d c_is d_is same =
      let one = named_so asked c c_is in
      let two = named_so asked d d_is in
      let it : commands.At d.node d.session two.0 ≡ commands.At c.node c.session one.0 = sym two.1 ∙ (ap (command_at asked) (sym same) ∙ one.1) in
      let node : d.node ≡ c.node = cc in
      let session : d.session ≡ c.session = cc in
      and_from (d.node == c.node) (d.session == c.session) (eq-eqb d.node c.node node) (eq-eqb d.session c.session session)

  alone : (c : Call) (cs : List Call) → HasShape asked c → AreShaped asked cs → AllByRecursion (λ (d : Call). is_call_at c.node c.session d ≡ false) cs → pends c.command cs ≡ false
  alone c [] its shapes all = refl
  alone c (d ∷ ds) its shapes all = ap (λ q. q || pends c.command ds) (by (d.command == c.command) refl) ∙ alone c ds its shapes.1 all.1
    where
      by : (q : Bool) → (d.command == c.command) ≡ q → q ≡ false
      by false is = refl
      by true is = let yes : is_call_at c.node c.session d ≡ true = one_session c d its shapes.0 (sym (eqb-true d.command c.command is)) in let no = all.0 in absurd (cc (yes, no))

  pub gone_pends : (c : Call) (d : ℕ) (cs : List Call) → AreShaped asked cs → AreApart cs → HasShape asked c → find (is_call_at c.node c.session) cs ≡ Some c
      → pends d (filter (λ x. not (is_call_at c.node c.session x)) cs) ≡ (pends d cs && not (c.command == d))
  gone_pends c d [] shapes apart its is = absurd cc
  gone_pends c d (x ∷ xs) shapes apart its is = by (is_call_at c.node c.session x) refl (gone_pends c d xs shapes.1 apart.1 its)
    where
      bool_here : (q p : Bool) → (q ≡ true → p ≡ false) → p ≡ ((q || p) && not q)
      bool_here true p none = none refl
      bool_here false true none = refl
      bool_here false false none = refl

      bool_later : (a p q : Bool) → (a ≡ true → q ≡ false) → (a || (p && not q)) ≡ ((a || p) && not q)
      bool_later true p q none = ap not (sym (none refl))
      bool_later false p q none = refl

      differs : (q : Bool) → (c.command == d) ≡ q → is_call_at c.node c.session x ≡ false → x.command ≡ d → q ≡ false
      differs false not_so other own = refl
      differs true is_so other own =
          let at : is_call_at c.node c.session x ≡ true = one_session c x its shapes.0 (eqb-true c.command d is_so ∙ sym own) in absurd (cc (at, other))

      by : (b : Bool) → is_call_at c.node c.session x ≡ b
          → (find (is_call_at c.node c.session) xs ≡ Some c → pends d (filter (λ y. not (is_call_at c.node c.session y)) xs) ≡ (pends d xs && not (c.command == d)))
          → pends d (if not (is_call_at c.node c.session x) then x ∷ filter (λ y. not (is_call_at c.node c.session y)) xs else filter (λ y. not (is_call_at c.node c.session y)) xs) ≡ (((x.command == d) || pends d xs) && not (c.command == d))
      by true here later =
          let it : Some x ≡ Some c = sym (ap (λ q. if q then Some x else find (is_call_at c.node c.session) xs) here) ∙ is in
          let same : x ≡ c = cc in
          let others : AllByRecursion (λ (y : Call). is_call_at c.node c.session y ≡ false) xs = subst (λ (z : Call). AllByRecursion (λ (y : Call). is_call_at z.node z.session y ≡ false) xs) same apart.0 in
          let all : filter (λ y. not (is_call_at c.node c.session y)) xs ≡ xs = filter_all c.node c.session xs others in
          ap (λ q. pends d (if not q then x ∷ filter (λ y. not (is_call_at c.node c.session y)) xs else filter (λ y. not (is_call_at c.node c.session y)) xs)) here ∙ (ap (pends d) all
          ∙ (bool_here (c.command == d) (pends d xs) (λ own. ap (λ n. pends n xs) (sym (eqb-true c.command d own)) ∙ alone c xs its shapes.1 others)
          ∙ ap (λ (z : Call). ((z.command == d) || pends d xs) && not (c.command == d)) (sym same)))
      by false other later =
          let rest : find (is_call_at c.node c.session) xs ≡ Some c = sym (ap (λ q. if q then Some x else find (is_call_at c.node c.session) xs) other) ∙ is in
          ap (λ q. pends d (if not q then x ∷ filter (λ y. not (is_call_at c.node c.session y)) xs else filter (λ y. not (is_call_at c.node c.session y)) xs)) other ∙ (ap (λ q. (x.command == d) || q) (later rest)
          ∙ bool_later (x.command == d) (pends d xs) (c.command == d) (λ own. differs (c.command == d) refl other (eqb-true x.command d own)))
