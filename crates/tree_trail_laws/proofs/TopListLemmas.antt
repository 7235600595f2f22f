-- Lists of branches that are told: each is told once, and how many roots a session has begun.
use Rattle.std.proofs.Common.{◌≡◌, ℕ, suc, ◌+◌, ◌==◌, ◌≤◌, ◌&&◌, Bool, true, false, if◌then◌else◌, filter, length, List, [], ◌∷◌, ◌++◌, map, Some, None, refl, sym, ap, subst, ◌∙◌, arith}
use Rattle.std.specs.List.{AllByRecursion}
use Rattle.tran_ids.proofs.BranchLemmas.{same_from_equal}
use Rattle.node_rules.specs.Words.{is_item_of, item_at}
use Rattle.run_rules.specs.Branches.{Seen, Trail, seen_id}
use Rattle.run_rules.specs.Trail.{begun_in}
use Rattle.run_rules.proofs.ListLemmas.{all_weaker, all_append, all_map}
use Rattle.tree_trail_laws.proofs.PlanLemmas.{find_more, find_last}
use Rattle.tree_trail_laws.proofs.SeenLemmas.{item_mapped}

-- each branch is told once
abbrev pub Alone : List Seen → Type 0
Alone xs = AllByRecursion (λ s. item_at seen_id xs s.me ≡ Some s) xs

pub alone_map : (g : Seen → Seen) → ((s : Seen) → (g s).me ≡ s.me) → (xs : List Seen) → Alone xs → Alone (map g xs)
alone_map g keeps xs alone =
    all_map (λ s. item_at seen_id (map g xs) s.me ≡ Some s) g xs
    (all_weaker (λ s. item_at seen_id xs s.me ≡ Some s) (λ s. item_at seen_id (map g xs) (g s).me ≡ Some (g s))
    (λ s at. subst (λ b. item_at seen_id (map g xs) b ≡ Some (g s)) (sym (keeps s)) (item_mapped seen_id g keeps xs s.me s at)) xs alone)

pub alone_more : (xs : List Seen) (y : Seen) → Alone xs → item_at seen_id xs y.me ≡ None → Alone (xs ++ y ∷ [])
alone_more xs y alone none =
    all_append (λ s. item_at seen_id (xs ++ y ∷ []) s.me ≡ Some s) xs (y ∷ [])
    (all_weaker (λ s. item_at seen_id xs s.me ≡ Some s) (λ s. item_at seen_id (xs ++ y ∷ []) s.me ≡ Some s) (λ s at. find_more (is_item_of seen_id s.me) xs (y ∷ []) s at) xs alone)
    (find_last (is_item_of seen_id y.me) xs y none (same_from_equal y.me y.me refl), tt)

-- a root of a session, that began there in a start of its node
abbrev pub is_of : ℕ → ℕ → ℕ → Seen → Bool
is_of n boot session s = (s.me.node == n) && ((s.me.boot == boot) && (s.me.session == session))

pub count_map : (q : Seen → Bool) (g : Seen → Seen) → ((s : Seen) → q (g s) ≡ q s) → (xs : List Seen) → length (filter q (map g xs)) ≡ length (filter q xs)
count_map q g keeps [] = refl
count_map q g keeps (x ∷ xs) = ap (λ c. length (if c then g x ∷ filter q (map g xs) else filter q (map g xs))) (keeps x) ∙ by (q x) (count_map q g keeps xs)
  where
    by : (c : Bool) → length (filter q (map g xs)) ≡ length (filter q xs) → length (if c then g x ∷ filter q (map g xs) else filter q (map g xs)) ≡ length (if c then x ∷ filter q xs else filter q xs)
    by true rest = ap suc rest
    by false rest = rest

pub count_none : (q : Seen → Bool) (xs : List Seen) → AllByRecursion (λ s. q s ≡ false) xs → length (filter q xs) ≡ 0
count_none q [] all = refl
count_none q (x ∷ xs) all = ap (λ c. length (if c then x ∷ filter q xs else filter q xs)) all.0 ∙ count_none q xs all.1

pub count_last : (q : Seen → Bool) (xs : List Seen) (y : Seen) (c : Bool) → q y ≡ c → length (filter q (xs ++ y ∷ [])) ≡ (if c then length (filter q xs) + 1 else length (filter q xs))
count_last q [] y true is = ap (λ c. length (if c then y ∷ [] else [])) is
count_last q [] y false is = ap (λ c. length (if c then y ∷ [] else [])) is
count_last q (x ∷ xs) y c is = by (q x) c (count_last q xs y c is)
  where
    by : (here c : Bool) → length (filter q (xs ++ y ∷ [])) ≡ (if c then length (filter q xs) + 1 else length (filter q xs))
        → length (if here then x ∷ filter q (xs ++ y ∷ []) else filter q (xs ++ y ∷ [])) ≡ (if c then length (if here then x ∷ filter q xs else filter q xs) + 1 else length (if here then x ∷ filter q xs else filter q xs))
    by true true rest = omega (arith, rest)
    by true false rest = ap suc rest
    by false true rest = rest
    by false false rest = rest

pub count_more : (q : Seen → Bool) (xs ys : List Seen) → length (filter q xs) ≤ length (filter q (xs ++ ys))
count_more q [] ys = omega arith
count_more q (x ∷ xs) ys = by (q x) (count_more q xs ys)
  where
    by : (c : Bool) → length (filter q xs) ≤ length (filter q (xs ++ ys)) → length (if c then x ∷ filter q xs else filter q xs) ≤ length (if c then x ∷ filter q (xs ++ ys) else filter q (xs ++ ys))
    by true rest = omega (arith, rest)
    by false rest = rest

-- a root has a number up to the count of its session
abbrev pub Ordered : Trail → Seen → Type 0
Ordered tr s = s.me.session ≤ 64 → s.me.seq ≤ begun_in tr s.me.node s.me.boot s.me.session
