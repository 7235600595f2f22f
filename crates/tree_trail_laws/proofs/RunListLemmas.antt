-- Runs, the sets of changes that a node keeps of them and the notes that count these: with one run more, and without those of later steps.
use Rattle.std.proofs.Common.{◌≡◌, ℕ, zero, suc, ◌+◌, ◌-◌, ◌≤◌, not, Bool, true, false, if◌then◌else◌, List, [], ◌∷◌, ◌++◌, flat_map, filter, map, length, take, sum_by, nat_le, refl, sym, ap, ◌∙◌, arith, append-nil}
use Rattle.std.specs.List.{AllByRecursion}
use Rattle.std.proofs.lemmas.Bool.Decides.{nat_tests}
use Rattle.std.proofs.lemmas.Grind.{flat_map-append}
use Rattle.std.proofs.lemmas.List.Sums.{sum_by-append}
use Rattle.std.proofs.lemmas.List.{map-append, length-map}
use Rattle.node_rules.specs.Data.{Change, ChangeSet, Note}
use Rattle.node_rules.specs.Rows.{changes_of}
use Rattle.run_rules.specs.Branches.{Ran}
use Rattle.run_rules.proofs.ListLemmas.{all_weaker}
use Rattle.tree_trail_laws.specs.RunLaws.{times, writing, steps_of_sets, RisesTo, RunsAre}

-- ---- lists

same_if : {A : Type 0} (q : Bool) (x : A) → x ≡ (if q then x else x)
same_if true x = refl
same_if false x = refl

flat_more : {A B : Type 0} (f : A → List B) (xs ys : List A) → flat_map f (xs ++ ys) ≡ flat_map f xs ++ flat_map f ys
flat_more f xs ys = flat_map-append f xs ys

filter_more : {A : Type 0} (p : A → Bool) (xs ys : List A) → filter p (xs ++ ys) ≡ filter p xs ++ filter p ys
filter_more p [] ys = refl
filter_more p (x ∷ xs) ys = by (p x) (filter_more p xs ys)
  where
    by : (q : Bool) → filter p (xs ++ ys) ≡ filter p xs ++ filter p ys → (if q then x ∷ filter p (xs ++ ys) else filter p (xs ++ ys)) ≡ (if q then x ∷ filter p xs else filter p xs) ++ filter p ys
    by true rest = ap (λ zs. x ∷ zs) rest
    by false rest = rest

all_more : {A : Type 0} (P : A → Type 0) (xs : List A) (y : A) → AllByRecursion P xs → P y → AllByRecursion P (xs ++ y ∷ [])
all_more P [] y all new = (new, tt)
all_more P (x ∷ xs) y all new = (all.0, all_more P xs y all.1 new)

all_filter : {A : Type 0} (P : A → Type 0) (p : A → Bool) (xs : List A) → AllByRecursion P xs → AllByRecursion P (filter p xs)
all_filter P p [] all = tt
all_filter P p (x ∷ xs) all = by (p x) (all_filter P p xs all.1)
  where
    by : (q : Bool) → AllByRecursion P (filter p xs) → AllByRecursion P (if q then x ∷ filter p xs else filter p xs)
    by true rest = (all.0, rest)
    by false rest = rest

taken_map : {A B : Type 0} (f : A → B) (n : ℕ) (xs : List A) → map f (take n xs) ≡ take n (map f xs)
taken_map f zero xs = refl
taken_map f (suc n) [] = refl
taken_map f (suc n) (x ∷ xs) = ap (λ ys. f x ∷ ys) (taken_map f n xs)

-- two filters in either order
filters : {A : Type 0} (p q : A → Bool) (xs : List A) → filter p (filter q xs) ≡ filter q (filter p xs)
filters p q [] = refl
filters p q (x ∷ xs) = by (p x) (q x) refl refl (filters p q xs)
  where
    by : (a b : Bool) → p x ≡ a → q x ≡ b → filter p (filter q xs) ≡ filter q (filter p xs) → filter p (if b then x ∷ filter q xs else filter q xs) ≡ filter q (if a then x ∷ filter p xs else filter p xs)
    by true true pa qb rest = ap (λ c. if c then x ∷ filter p (filter q xs) else filter p (filter q xs)) pa ∙ (ap (λ zs. x ∷ zs) rest ∙ sym (ap (λ c. if c then x ∷ filter q (filter p xs) else filter q (filter p xs)) qb))
    by true false pa qb rest = rest ∙ sym (ap (λ c. if c then x ∷ filter q (filter p xs) else filter q (filter p xs)) qb)
    by false true pa qb rest = ap (λ c. if c then x ∷ filter p (filter q xs) else filter p (filter q xs)) pa ∙ rest
    by false false pa qb rest = rest

mapped_filter : {A B : Type 0} (f : A → B) (p : B → Bool) (xs : List A) → filter p (map f xs) ≡ map f (filter (λ x. p (f x)) xs)
mapped_filter f p [] = refl
mapped_filter f p (x ∷ xs) = by (p (f x)) (mapped_filter f p xs)
  where
    by : (q : Bool) → filter p (map f xs) ≡ map f (filter (λ y. p (f y)) xs) → (if q then f x ∷ filter p (map f xs) else filter p (map f xs)) ≡ map f (if q then x ∷ filter (λ y. p (f y)) xs else filter (λ y. p (f y)) xs)
    by true rest = ap (λ zs. f x ∷ zs) rest
    by false rest = rest

-- ---- changes

-- those of runs are those of the sets
pub own_is : (rs : List Ran) (top : ℕ) (sets : List ChangeSet) (ns : List Note) → RunsAre rs top sets ns → flat_map (λ r. r.changes) rs ≡ changes_of sets
own_is rs top sets ns so = written rs so.reads ∙ (sym (flat_mapped (λ r. r.changes) (writing rs)) ∙ (ap (λ css. flat_map (λ cs. cs) css) (sym so.changes) ∙ flat_mapped (λ s. s.changes) sets))
  where
    flat_mapped : {A : Type 0} (f : A → List Change) (xs : List A) → flat_map (λ cs. cs) (map f xs) ≡ flat_map f xs
    flat_mapped f [] = refl
    flat_mapped f (x ∷ xs) = ap (λ zs. f x ++ zs) (flat_mapped f xs)

    written : (rs : List Ran) → AllByRecursion (λ r. r.writes ≡ false → r.changes ≡ []) rs → flat_map (λ r. r.changes) rs ≡ flat_map (λ r. r.changes) (writing rs)
    written [] all = refl
    written (r ∷ rs) all = by r.writes refl (written rs all.1)
      where
        by : (q : Bool) → r.writes ≡ q → flat_map (λ x. x.changes) rs ≡ flat_map (λ x. x.changes) (writing rs) → r.changes ++ flat_map (λ x. x.changes) rs ≡ flat_map (λ x. x.changes) (if q then r ∷ writing rs else writing rs)
        by true is rest = ap (λ zs. r.changes ++ zs) rest
        by false is rest = ap (λ zs. zs ++ flat_map (λ x. x.changes) rs) (all.0 is) ∙ rest

-- ---- one more

rises_higher : (low high : ℕ) (rs : List Ran) → low ≤ high → RisesTo low rs → RisesTo high rs
rises_higher low high [] more rises = tt
rises_higher low high (r ∷ rs) more rises = (rises.0, omega (arith, rises.1, more), rises_higher low high rs more rises.2)

rises_more : (top : ℕ) (rs : List Ran) (r : Ran) → RisesTo top rs → top ≤ r.step → RisesTo r.step (rs ++ r ∷ [])
rises_more top [] r rises more = (tt, omega arith, tt)
rises_more top (x ∷ rs) r rises more = (all_more (λ q. x.step ≤ q.step) rs r rises.0 (omega (arith, rises.1, more)), omega (arith, rises.1, more), rises_more top rs r rises.2 more)

-- a note that counts no set
pub none_noted : (ns : List Note) (n : Note) → n.sets ≡ 0 → steps_of_sets (ns ++ n ∷ []) ≡ steps_of_sets ns
none_noted ns n none =
    let nothing : times n.sets n.step ≡ [] = ap (λ m. times m n.step) none in
    let gone : steps_of_sets ns ++ (times n.sets n.step ++ []) ≡ steps_of_sets ns ++ [] = ap (λ zs. steps_of_sets ns ++ zs) (append-nil (times n.sets n.step) ∙ nothing) in
    flat_more (λ x. times x.sets x.step) ns (n ∷ []) ∙ (gone ∙ append-nil (steps_of_sets ns))

-- notes that count the same sets
pub noted_alike : (rs : List Ran) (top : ℕ) (sets others : List ChangeSet) (ns ms : List Note) → others ≡ sets → steps_of_sets ms ≡ steps_of_sets ns → RunsAre rs top sets ns → RunsAre rs top others ms
noted_alike rs top sets others ns ms alike same so = record { changes = ap (map (λ s. s.changes)) alike ∙ so.changes; reads = so.reads; steps = same ∙ so.steps; rises = so.rises }

-- a higher step
pub runs_higher : (rs : List Ran) (low high : ℕ) (sets : List ChangeSet) (ns : List Note) → low ≤ high → RunsAre rs low sets ns → RunsAre rs high sets ns
runs_higher rs low high sets ns more so = record { changes = so.changes; reads = so.reads; steps = so.steps; rises = rises_higher low high rs more so.rises }

module _ (rs : List Ran) (top : ℕ) (sets : List ChangeSet) (ns : List Note) (so : RunsAre rs top sets ns) (r : Ran) (later : top ≤ r.step) (n : Note) where
  written_more : (q : Bool) → r.writes ≡ q → writing (rs ++ r ∷ []) ≡ writing rs ++ (if q then r ∷ [] else [])
  written_more q is = filter_more (λ x. x.writes) rs (r ∷ []) ∙ ap (λ c. writing rs ++ (if c then r ∷ [] else [])) is

  -- a run that changes no rows
  pub reads_more : r.writes ≡ false → r.changes ≡ [] → n.sets ≡ 0 → RunsAre (rs ++ r ∷ []) r.step sets (ns ++ n ∷ [])
  reads_more reads nothing none =
      let same : writing (rs ++ r ∷ []) ≡ writing rs = written_more false reads ∙ append-nil (writing rs) in
      record {
        changes = so.changes ∙ sym (ap (map (λ x. x.changes)) same);
        reads = all_more (λ x. x.writes ≡ false → x.changes ≡ []) rs r so.reads (λ is. nothing);
        steps = none_noted ns n none ∙ (so.steps ∙ sym (ap (map (λ x. x.step)) same));
        rises = rises_more top rs r so.rises later;
      }

  -- one that does
  pub writes_more : (x : ChangeSet) → r.writes ≡ true → r.changes ≡ x.changes → n.sets ≡ 1 → n.step ≡ r.step → RunsAre (rs ++ r ∷ []) r.step (sets ++ x ∷ []) (ns ++ n ∷ [])
  writes_more x writes changes one step =
      let more : writing (rs ++ r ∷ []) ≡ writing rs ++ r ∷ [] = written_more true writes in
      let once : times n.sets n.step ≡ n.step ∷ [] = ap (λ m. times m n.step) one in
      let noted : steps_of_sets ns ++ (times n.sets n.step ++ []) ≡ steps_of_sets ns ++ n.step ∷ [] = ap (λ zs. steps_of_sets ns ++ zs) (append-nil (times n.sets n.step) ∙ once) in
      record {
        changes = map-append (λ s. s.changes) sets (x ∷ []) ∙ (ap (λ css. css ++ x.changes ∷ []) so.changes ∙ (ap (λ cs. map (λ y. y.changes) (writing rs) ++ cs ∷ []) (sym changes)
            ∙ (sym (map-append (λ y. y.changes) (writing rs) (r ∷ [])) ∙ ap (map (λ y. y.changes)) (sym more))));
        reads = all_more (λ y. y.writes ≡ false → y.changes ≡ []) rs r so.reads (λ is. absurd (cc (writes, is)));
        steps = flat_more (λ y. times y.sets y.step) ns (n ∷ []) ∙ (noted ∙ (ap (λ ms. ms ++ n.step ∷ []) so.steps
            ∙ (ap (λ m. map (λ y. y.step) (writing rs) ++ m ∷ []) step ∙ (sym (map-append (λ y. y.step) (writing rs) (r ∷ [])) ∙ ap (map (λ y. y.step)) (sym more)))));
        rises = rises_more top rs r so.rises later;
      }

-- ---- without later steps

module _ (keep : ℕ) where
  abbrev stays : Ran → Bool
  stays r = nat_le r.step keep

  abbrev goes : Ran → Bool
  goes r = not (nat_le r.step keep)

  later_goes : (r q : Ran) → stays r ≡ false → r.step ≤ q.step → stays q ≡ false
  later_goes r q is less = grind (arith, nat_tests, is, less)

  none_stay : (rs : List Ran) → AllByRecursion (λ q. stays q ≡ false) rs → (filter stays rs ≡ []) × (filter goes rs ≡ rs)
  none_stay [] all = (refl, refl)
  none_stay (r ∷ rs) all =
      let rest = none_stay rs all.1 in (
        ap (λ q. if q then r ∷ filter stays rs else filter stays rs) all.0 ∙ rest.0,
        ap (λ q. if not q then r ∷ filter goes rs else filter goes rs) all.0 ∙ ap (λ qs. r ∷ qs) rest.1,
      )

  fewer : (rs : List Ran) → length (filter goes rs) ≤ length rs
  fewer [] = omega arith
  fewer (r ∷ rs) = by (stays r) (fewer rs)
    where
      by : (q : Bool) → length (filter goes rs) ≤ length rs → length (if not q then r ∷ filter goes rs else filter goes rs) ≤ length (r ∷ rs)
      by true rest = omega (arith, rest)
      by false rest = omega (arith, rest)

  -- those that stay are the first ones
  first_stay : (top : ℕ) (rs : List Ran) → RisesTo top rs → filter stays rs ≡ take (length rs - length (filter goes rs)) rs
  first_stay top [] rises = refl
  first_stay top (r ∷ rs) rises = by (stays r) refl (first_stay top rs rises.2)
    where
      by : (q : Bool) → stays r ≡ q → filter stays rs ≡ take (length rs - length (filter goes rs)) rs
          → (if q then r ∷ filter stays rs else filter stays rs) ≡ take (length (r ∷ rs) - length (if not q then r ∷ filter goes rs else filter goes rs)) (r ∷ rs)
      by true is rest =
          let less = fewer rs in
          let one : length (r ∷ rs) - length (filter goes rs) ≡ suc (length rs - length (filter goes rs)) = omega (arith, less) in
          ap (λ qs. r ∷ qs) rest ∙ sym (ap (λ m. take m (r ∷ rs)) one)
      by false is rest =
          let none = none_stay rs (all_weaker (λ q. r.step ≤ q.step) (λ q. stays q ≡ false) (λ q less. later_goes r q is less) rs rises.0) in
          let zero_left : length (r ∷ rs) - length (r ∷ filter goes rs) ≡ 0 = ap (λ qs. length (r ∷ rs) - length (r ∷ qs)) none.1 ∙ omega arith in
          none.0 ∙ sym (ap (λ m. take m (r ∷ rs)) zero_left)

  -- the steps of a note's sets go with the note
  same_kept : (m step : ℕ) → filter (λ x. nat_le x keep) (times m step) ≡ (if nat_le step keep then times m step else [])
  same_kept zero step = same_if (nat_le step keep) []
  same_kept (suc m) step = by (nat_le step keep) refl (same_kept m step)
    where
      by : (q : Bool) → nat_le step keep ≡ q → filter (λ x. nat_le x keep) (times m step) ≡ (if nat_le step keep then times m step else [])
          → (if q then step ∷ filter (λ x. nat_le x keep) (times m step) else filter (λ x. nat_le x keep) (times m step)) ≡ (if q then step ∷ times m step else [])
      by true is rest = ap (λ zs. step ∷ zs) (rest ∙ ap (λ q. if q then times m step else []) is)
      by false is rest = rest ∙ ap (λ q. if q then times m step else []) is

  notes_kept : (ns : List Note) → steps_of_sets (filter (λ n. nat_le n.step keep) ns) ≡ filter (λ x. nat_le x keep) (steps_of_sets ns)
  notes_kept [] = refl
  notes_kept (n ∷ ns) = by (nat_le n.step keep) refl (notes_kept ns) ∙ sym (filter_more (λ x. nat_le x keep) (times n.sets n.step) (steps_of_sets ns))
    where
      by : (q : Bool) → nat_le n.step keep ≡ q → steps_of_sets (filter (λ n. nat_le n.step keep) ns) ≡ filter (λ x. nat_le x keep) (steps_of_sets ns)
          → steps_of_sets (if q then n ∷ filter (λ n. nat_le n.step keep) ns else filter (λ n. nat_le n.step keep) ns) ≡ filter (λ x. nat_le x keep) (times n.sets n.step) ++ filter (λ x. nat_le x keep) (steps_of_sets ns)
      by true is rest = ap (λ zs. times n.sets n.step ++ zs) rest ∙ ap (λ zs. zs ++ filter (λ x. nat_le x keep) (steps_of_sets ns)) (sym (same_kept n.sets n.step ∙ ap (λ q. if q then times n.sets n.step else []) is))
      by false is rest = rest ∙ ap (λ zs. zs ++ filter (λ x. nat_le x keep) (steps_of_sets ns)) (sym (same_kept n.sets n.step ∙ ap (λ q. if q then times n.sets n.step else []) is))

  -- as many sets stand behind as steps
  copies : (m step : ℕ) → length (filter (λ x. not (nat_le x keep)) (times m step)) ≡ (if nat_le step keep then 0 else m)
  copies zero step = same_if (nat_le step keep) 0
  copies (suc m) step = by (nat_le step keep) refl (copies m step)
    where
      by : (q : Bool) → nat_le step keep ≡ q → length (filter (λ x. not (nat_le x keep)) (times m step)) ≡ (if nat_le step keep then 0 else m)
          → length (if not q then step ∷ filter (λ x. not (nat_le x keep)) (times m step) else filter (λ x. not (nat_le x keep)) (times m step)) ≡ (if q then 0 else suc m)
      by true is rest = rest ∙ ap (λ q. if q then 0 else m) is
      by false is rest = ap suc (rest ∙ ap (λ q. if q then 0 else m) is)

  length_more : (xs ys : List ℕ) → length (xs ++ ys) ≡ length xs + length ys
  length_more [] ys = omega arith
  length_more (x ∷ xs) ys = (let rest = length_more xs ys in omega (arith, rest))

  sets_gone : (ns : List Note) → sum_by (λ n. n.sets) (filter (λ n. not (nat_le n.step keep)) ns) ≡ length (filter (λ x. not (nat_le x keep)) (steps_of_sets ns))
  sets_gone [] = refl
  sets_gone (n ∷ ns) =
      by (nat_le n.step keep) refl (sets_gone ns)
      ∙ sym (ap length (filter_more (λ x. not (nat_le x keep)) (times n.sets n.step) (steps_of_sets ns)) ∙ length_more (filter (λ x. not (nat_le x keep)) (times n.sets n.step)) (filter (λ x. not (nat_le x keep)) (steps_of_sets ns)))
    where
      by : (q : Bool) → nat_le n.step keep ≡ q → sum_by (λ x. x.sets) (filter (λ x. not (nat_le x.step keep)) ns) ≡ length (filter (λ x. not (nat_le x keep)) (steps_of_sets ns))
          → sum_by (λ x. x.sets) (if not q then n ∷ filter (λ x. not (nat_le x.step keep)) ns else filter (λ x. not (nat_le x.step keep)) ns)
          ≡ length (filter (λ x. not (nat_le x keep)) (times n.sets n.step)) + length (filter (λ x. not (nat_le x keep)) (steps_of_sets ns))
      by true is rest = (let none : length (filter (λ x. not (nat_le x keep)) (times n.sets n.step)) ≡ 0 = copies n.sets n.step ∙ ap (λ q. if q then 0 else n.sets) is in omega (arith, rest, none))
      by false is rest = (let all : length (filter (λ x. not (nat_le x keep)) (times n.sets n.step)) ≡ n.sets = copies n.sets n.step ∙ ap (λ q. if q then 0 else n.sets) is in
          let more = sum_by-append (λ (x : Note). x.sets) (n ∷ []) (filter (λ x. not (nat_le x.step keep)) ns) in omega (arith, rest, all, more))

  rises_stay : (top : ℕ) (rs : List Ran) → RisesTo top rs → RisesTo top (filter stays rs)
  rises_stay top [] rises = tt
  rises_stay top (r ∷ rs) rises = by (stays r) (rises_stay top rs rises.2)
    where
      by : (q : Bool) → RisesTo top (filter stays rs) → RisesTo top (if q then r ∷ filter stays rs else filter stays rs)
      by true rest = (all_filter (λ q. r.step ≤ q.step) stays rs rises.0, rises.1, rest)
      by false rest = rest

  abbrev sets_after : List Note → ℕ
  sets_after ns = sum_by (λ n. n.sets) (filter (λ n. not (nat_le n.step keep)) ns)

  -- A branch that goes back keeps the runs of the steps that stay, and its node their sets and their notes.
  pub runs_back : (rs : List Ran) (top : ℕ) (sets : List ChangeSet) (ns : List Note) → RunsAre rs top sets ns
      → RunsAre (filter stays rs) top (take (length sets - sum_by (λ n. n.sets) (filter (λ n. not (nat_le n.step keep)) ns)) sets) (filter (λ n. nat_le n.step keep) ns)
  runs_back rs top sets ns so = record {
    changes = taken_map (λ s. s.changes) (length sets - sets_after ns) sets ∙ (ap (take (length sets - sets_after ns)) so.changes ∙ (ap (λ m. take m (map (λ r. r.changes) (writing rs))) left
        ∙ (sym (taken_map (λ r. r.changes) (length (writing rs) - length (filter goes (writing rs))) (writing rs)) ∙ ap (map (λ r. r.changes)) (sym kept))));
    reads = all_filter (λ r. r.writes ≡ false → r.changes ≡ []) stays rs so.reads;
    steps = notes_kept ns ∙ (ap (filter (λ x. nat_le x keep)) so.steps ∙ (mapped_filter (λ r. r.step) (λ x. nat_le x keep) (writing rs) ∙ ap (map (λ r. r.step)) (filters stays (λ r. r.writes) rs)));
    rises = rises_stay top rs so.rises;
  }
    where
      -- the runs that change rows and stay are the first ones of those
      kept : writing (filter stays rs) ≡ take (length (writing rs) - length (filter goes (writing rs))) (writing rs)
      kept = sym (filters stays (λ r. r.writes) rs) ∙ first_stay top (writing rs) (rises_writing rs so.rises)
        where
          rises_writing : (qs : List Ran) → RisesTo top qs → RisesTo top (writing qs)
          rises_writing [] rises = tt
          rises_writing (r ∷ qs) rises = by r.writes (rises_writing qs rises.2)
            where
              by : (q : Bool) → RisesTo top (writing qs) → RisesTo top (if q then r ∷ writing qs else writing qs)
              by true rest = (all_filter (λ q. r.step ≤ q.step) (λ q. q.writes) qs rises.0, rises.1, rest)
              by false rest = rest

      many : length sets ≡ length (writing rs)
      many = sym (length-map sets (λ s. s.changes)) ∙ (ap length so.changes ∙ length-map (writing rs) (λ r. r.changes))

      behind : sets_after ns ≡ length (filter goes (writing rs))
      behind =
          sets_gone ns ∙ (ap (λ xs. length (filter (λ x. not (nat_le x keep)) xs)) so.steps
          ∙ (ap length (mapped_filter (λ r. r.step) (λ x. not (nat_le x keep)) (writing rs)) ∙ length-map (filter goes (writing rs)) (λ r. r.step)))

      left : length sets - sets_after ns ≡ length (writing rs) - length (filter goes (writing rs))
      left = ap (λ m. m - sets_after ns) many ∙ ap (λ m. length (writing rs) - m) behind
