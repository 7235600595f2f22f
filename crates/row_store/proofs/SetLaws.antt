-- Changes and their undo as sets of some sizes: all of them, one set more, and the last set taken back.
use Rattle.std.proofs.Common.{◌≡◌, ℕ, ◌+◌, ◌-◌, ◌≤◌, List, [], ◌∷◌, ◌++◌, length, map, take, drop, refl, sym, ap, ◌∙◌, arith, length-append, length-drop}
use Rattle.std.proofs.lemmas.List.{map-append, take-append-drop, take-append-le, drop-append-le, same_from_push}
use Rattle.std.proofs.lemmas.List.Sums.{sum_by-cons, sum_by_push}
use Rattle.std.proofs.Math.Seq.{take-length, take-append_seam}
use Rattle.dtx_values.specs.declared.row.Change.{Change}
use Rattle.row_store.specs.declared.own_sets.SetSize.{SetSize}
use Rattle.row_store.specs.declared.pending.ChangeSet.{ChangeSet}
use Rattle.row_store.specs.Pending.{changes_of, undo_of}
use Rattle.row_store.specs.ByBranch.{cut, total, set_bytes, AreCut}

total_first : (n : SetSize) (ns : List SetSize) → total (n ∷ ns) ≡ n.changes + total ns
total_first n ns = sum_by-cons (λ (m : SetSize). m.changes) n ns

total_push : (ns : List SetSize) (n : SetSize) → total (ns ++ n ∷ []) ≡ total ns + n.changes
total_push ns n = sum_by_push (λ (m : SetSize). m.changes) ns n

rest_long : (n : SetSize) (ns : List SetSize) (cs : List Change) → total (n ∷ ns) ≡ length cs → total ns ≡ length (drop n.changes cs)
rest_long n ns cs all = let e = length-drop n.changes cs in let s = total_first n ns in omega arith

none_left : (cs : List Change) → 0 ≡ length cs → cs ≡ []
none_left [] e = refl
none_left (c ∷ cs) e = absurd (omega arith)

-- all changes
pub changes_cut : (ns : List SetSize) (cs us : List Change) → total ns ≡ length cs → changes_of (cut ns cs us) ≡ cs
changes_cut [] cs us all = sym (none_left cs all)
changes_cut (n ∷ ns) cs us all =
    ap (λ (ds : List Change). take n.changes cs ++ ds) (changes_cut ns (drop n.changes cs) (drop n.changes us) (rest_long n ns cs all)) ∙ take-append-drop n.changes cs

-- and their undo
pub undo_cut : (ns : List SetSize) (cs us : List Change) → total ns ≡ length us → undo_of (cut ns cs us) ≡ us
undo_cut [] cs us all = sym (none_left us all)
undo_cut (n ∷ ns) cs us all =
    ap (λ (ds : List Change). take n.changes us ++ ds) (undo_cut ns (drop n.changes cs) (drop n.changes us) (rest_long n ns us all)) ∙ take-append-drop n.changes us

-- one set more
pub cut_push : (ns : List SetSize) (n : SetSize) (cs us ds vs : List Change) → total ns ≡ length cs → total ns ≡ length us → n.changes ≡ length ds → n.changes ≡ length vs
    → cut (ns ++ n ∷ []) (cs ++ ds) (us ++ vs) ≡ cut ns cs us ++ (record { changes = ds; undo = vs }) ∷ []
cut_push [] n cs us ds vs all both long wide =
    (λ i. let s : ChangeSet = record { changes = take n.changes (none_left cs all i ++ ds); undo = take n.changes (none_left us both i ++ vs) } in s ∷ [])
    ∙ (λ i. let s : ChangeSet = record { changes = take (long i) ds; undo = take (wide i) vs } in s ∷ [])
    ∙ (λ i. let s : ChangeSet = record { changes = take-length ds i; undo = take-length vs i } in s ∷ [])
cut_push (m ∷ ns) n cs us ds vs all both long wide =
    let few : m.changes ≤ length cs = let s = total_first m ns in omega arith in
    let low : m.changes ≤ length us = let s = total_first m ns in omega arith in
    (λ i. let s : ChangeSet = record { changes = take-append-le m.changes cs ds few i; undo = take-append-le m.changes us vs low i } in
    s ∷ cut (ns ++ n ∷ []) (drop-append-le m.changes cs ds few i) (drop-append-le m.changes us vs low i))
    ∙ ap (λ (ss : List ChangeSet). (record { changes = take m.changes cs; undo = take m.changes us }) ∷ ss)
    (cut_push ns n (drop m.changes cs) (drop m.changes us) ds vs (rest_long m ns cs all) (rest_long m ns us both) long wide)

front_of : {X : Type 0} (xs : List X) (x : X) → take (length (xs ++ x ∷ []) - 1) (xs ++ x ∷ []) ≡ xs
front_of xs x =
    let e : length (xs ++ x ∷ []) - 1 ≡ length xs = let h = length-append xs (x ∷ []) in omega arith in
    ap (λ k. take k (xs ++ x ∷ [])) e ∙ take-append_seam xs (x ∷ [])

-- with one set more
pub are_cut_push : (ns : List SetSize) (n : SetSize) (cs us ds vs : List Change) → AreCut ns cs us → n.changes ≡ length ds → length vs ≡ length ds
    → n.undo ≡ set_bytes (record { changes = ds; undo = vs }) → AreCut (ns ++ n ∷ []) (cs ++ ds) (us ++ vs)
are_cut_push ns n cs us ds vs are long even bytes =
    let more = length-append cs ds in
    let wide = length-append us vs in
    let t = total_push ns n in
    let s : ChangeSet = record { changes = ds; undo = vs } in
    record {
      all = let a = are.all in omega arith;
      both = let b = are.both in omega arith;
      spelled =
          ap (map set_bytes) (cut_push ns n cs us ds vs are.all (are.all ∙ sym are.both) long (long ∙ sym even))
          ∙ map-append set_bytes (cut ns cs us) (s ∷ [])
          ∙ (λ i. are.spelled i ++ sym bytes i ∷ [])
          ∙ sym (map-append (λ (m : SetSize). m.undo) ns (n ∷ []));
    }

-- ---- the last set taken back

module _ (ns : List SetSize) (n : SetSize) (cs us : List Change) (are : AreCut (ns ++ n ∷ []) cs us) where
  abbrev k : ℕ
  k = length cs - n.changes

  fits : total ns + n.changes ≡ length cs
  fits = sym (total_push ns n) ∙ are.all

  abbrev front : List ChangeSet
  front = cut ns (take k cs) (take k us)

  abbrev last : ChangeSet
  last = record { changes = drop k cs; undo = drop k us }

  few : total ns ≡ length (take k cs)
  few =
      let f = fits in
      let whole = ap length (take-append-drop k cs) in
      let parts = length-append (take k cs) (drop k cs) in
      let rest = length-drop k cs in
      omega arith

  low : total ns ≡ length (take k us)
  low =
      let f = fits in
      let b = are.both in
      let whole = ap length (take-append-drop k us) in
      let parts = length-append (take k us) (drop k us) in
      let rest = length-drop k us in
      omega arith

  long : n.changes ≡ length (drop k cs)
  long = let f = fits in let rest = length-drop k cs in omega arith

  wide : n.changes ≡ length (drop k us)
  wide = let f = fits in let b = are.both in let rest = length-drop k us in omega arith

  pub cut_last : cut (ns ++ n ∷ []) cs us ≡ front ++ last ∷ []
  cut_last =
      (λ i. cut (ns ++ n ∷ []) (sym (take-append-drop k cs) i) (sym (take-append-drop k us) i))
      ∙ cut_push ns n (take k cs) (take k us) (drop k cs) (drop k us) few low long wide

  pub cut_pop : cut ns (take k cs) (take k us) ≡ take (length (cut (ns ++ n ∷ []) cs us) - 1) (cut (ns ++ n ∷ []) cs us)
  cut_pop = sym (ap (λ (ss : List ChangeSet). take (length ss - 1) ss) cut_last ∙ front_of front last)

  both_spelled : (map set_bytes front ≡ map (λ m. m.undo) ns) × (set_bytes last ≡ n.undo)
  both_spelled =
      same_from_push (map set_bytes front) (map (λ (m : SetSize). m.undo) ns) (set_bytes last) n.undo
      (sym (map-append set_bytes front (last ∷ [])) ∙ ap (map set_bytes) (sym cut_last) ∙ are.spelled ∙ map-append (λ (m : SetSize). m.undo) ns (n ∷ []))

  -- the bytes of its undo
  pub last_bytes : set_bytes last ≡ n.undo
  last_bytes = both_spelled.1

  pub are_cut_pop : AreCut ns (take k cs) (take k us)
  are_cut_pop = record { all = few; both = sym low ∙ few; spelled = both_spelled.0 }
