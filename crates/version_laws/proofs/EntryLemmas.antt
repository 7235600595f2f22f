-- What the records of a node commit up to an SCN, the entries of the book commit there, one after the other.
use Rattle.std.proofs.Common.{◌≡◌, ℕ, ◌==◌, ◌||◌, Bool, true, false, true≢false, if◌then◌else◌, List, [], ◌∷◌, ◌++◌, flat_map, map, Some, refl, sym, ap, subst, ◌∙◌, append-nil, append_assoc}
use Rattle.std.specs.Prelude.{nat_le}
use Rattle.std.specs.List.{AllByRecursion, list_any}
use Rattle.std.proofs.lemmas.Bool.{eqb-true, eq-eqb}
use Rattle.std.proofs.lemmas.List.Elements.{filter-append}
use Rattle.tran_ids.proofs.BranchLemmas.{equal_from_same, same_from_equal}
use Rattle.agreement.proofs.BookTests.{not_true}
use Rattle.node_rules.specs.Data.{Change, BranchId, RedoRecord, Doubt}
use Rattle.node_rules.specs.Data.decisions
use Rattle.node_rules.specs.Data.records
use Rattle.node_rules.specs.NodeState.{Stored, doubt_id}
use Rattle.node_rules.specs.Records.{commit_of, held_back, applied}
use Rattle.node_rules.specs.Words.{same, item_at}
use Rattle.run_rules.specs.Data.{Entry}
use Rattle.run_rules.specs.Data.entries
use Rattle.run_rules.specs.Book.{is_sealed_of, is_end_of, stands, Follows, EachAgainst, changes_of, commits_now, is_until, in_doubt}
use Rattle.run_rules.specs.Entries.{entry_of}
use Rattle.book_laws.specs.DiskLaws.{is_of_node}
use Rattle.book_laws.proofs.DoubtLemmas.{in_doubt_of}
use Rattle.book_laws.proofs.NodeBookLemmas.{own_entries, own_changes_of, part_each, ComesHere}
use Rattle.book_laws.proofs.NodeDoubtLemmas.{DoubtsStand, RecordComes, record_stands}
use Rattle.book_laws.proofs.OpenLemmas.{IsSealedIn, sealed_in_book}
use Rattle.book_laws.proofs.PlaceLemmas.{IsOne, found, finds, one_kept, any_unfiltered}
use Rattle.version_laws.proofs.ChainLemmas.{either_way}
use Rattle.version_laws.proofs.CommitLemmas.{changes_until, until_by}

module _ (n scn : ℕ) where
  -- ---- what entries commit up to the SCN

  -- whether an entry does not commit at its node above the SCN
  abbrev pub until_then : Entry → Bool
  until_then (entries.Ended b (decisions.Commit m)) = nat_le m scn
  until_then e = is_until scn e

  -- what an entry commits at once, if so
  abbrev pub now_until : List Entry → Entry → List Change
  now_until older e = if until_then e then commits_now older n e else []

  -- what entries commit, one after the other
  abbrev pub all_until : List Entry → List Entry → List Change
  all_until older [] = []
  all_until older (e ∷ es) = now_until older e ++ all_until (older ++ e ∷ []) es

  until_joined : (older xs ys : List Entry) → all_until older (xs ++ ys) ≡ all_until older xs ++ all_until (older ++ xs) ys
  until_joined older [] ys = ap (λ os. all_until os ys) (sym (append-nil older))
  until_joined older (x ∷ xs) ys =
      ap (λ cs. now_until older x ++ cs) (until_joined (older ++ x ∷ []) xs ys)
      ∙ (sym (append_assoc (now_until older x) (all_until (older ++ x ∷ []) xs) (all_until ((older ++ x ∷ []) ++ xs) ys))
      ∙ ap (λ os. (now_until older x ++ all_until (older ++ x ∷ []) xs) ++ all_until os ys) (append_assoc older (x ∷ []) xs))

  -- ---- the entries of one node

  -- a branch that ends is of the node, was sealed and had no end
  abbrev HasEnds : List Entry → BranchId → Type 0
  HasEnds older b = (b.node ≡ n) × (stands (is_sealed_of b) older ≡ true) × (stands (is_end_of b) older ≡ false)

  abbrev pub EndsHere : List Entry → Entry → Type 0
  EndsHere older (entries.Ended b d) = HasEnds older b
  EndsHere older (entries.Forced b d) = HasEnds older b
  EndsHere older _ = Unit {0}

  sealed_here : (b : BranchId) → b.node ≡ n → (e : Entry) → is_sealed_of b e ≡ true → is_of_node n e ≡ true
  sealed_here b here (entries.Sealed c g cs m) is = eq-eqb c.node n (ap (λ (z : BranchId). z.node) (equal_from_same c b is) ∙ here)
  sealed_here b here (entries.Made m x) is = absurd (true≢false (sym is))
  sealed_here b here (entries.Decided c g cs m) is = absurd (true≢false (sym is))
  sealed_here b here (entries.Ended c d) is = absurd (true≢false (sym is))
  sealed_here b here (entries.Forced c d) is = absurd (true≢false (sym is))
  sealed_here b here (entries.Met c d mixed) is = absurd (true≢false (sym is))

  has_ends : (older : List Entry) (b : BranchId) → stands (is_sealed_of b) older ≡ true → stands (is_end_of b) older ≡ false → (b.node == n) ≡ true → HasEnds (own_entries n older) b
  has_ends older b sealed endless here =
      let at : b.node ≡ n = eqb-true b.node n here in
      let e = found (is_sealed_of b) older sealed in (
        at,
        finds (is_sealed_of b) e.0 (own_entries n older) (one_kept (is_of_node n) e.0 older e.1 (sealed_here b at e.0 e.2)) e.2,
        not_true (stands (is_end_of b) (own_entries n older)) (λ some. true≢false (sym (any_unfiltered (is_end_of b) (is_of_node n) older some) ∙ endless)),
      )

  ends_here : (older : List Entry) (e : Entry) → Follows older e → is_of_node n e ≡ true → EndsHere (own_entries n older) e
  ends_here older (entries.Ended b d) follows here = has_ends older b follows.0 follows.1 here
  ends_here older (entries.Forced b d) follows here = has_ends older b follows.0 follows.1 here
  ends_here older (entries.Made m x) follows here = tt
  ends_here older (entries.Sealed c g cs m) follows here = tt
  ends_here older (entries.Decided c g cs m) follows here = tt
  ends_here older (entries.Met c d mixed) follows here = tt

  pub all_end_here : (book : List Entry) → EachAgainst Follows [] book → EachAgainst EndsHere [] (own_entries n book)
  all_end_here book all = part_each Follows EndsHere (is_of_node n) ends_here [] book all

  now_own : (older : List Entry) (e : Entry) → is_of_node n e ≡ true → now_until older e ≡ now_until (own_entries n older) e
  now_own older (entries.Ended b (decisions.Commit m)) here = ap (λ cs. if nat_le m scn then (if b.node == n then cs else []) else []) (sym (own_changes_of n older b (eqb-true b.node n here)))
  now_own older (entries.Ended b decisions.Rollback) here = refl
  now_own older (entries.Forced b (decisions.Commit m)) here = ap (λ cs. if nat_le m scn then (if b.node == n then cs else []) else []) (sym (own_changes_of n older b (eqb-true b.node n here)))
  now_own older (entries.Forced b decisions.Rollback) here = refl
  now_own older (entries.Made m x) here = refl
  now_own older (entries.Sealed c g cs m) here = refl
  now_own older (entries.Decided c g cs m) here = refl
  now_own older (entries.Met c d mixed) here = refl

  now_other : (older : List Entry) (e : Entry) → is_of_node n e ≡ false → now_until older e ≡ []
  now_other older (entries.Decided c g cs m) other = ap (λ q. if nat_le m scn then (if q then cs else []) else []) other ∙ either_way (nat_le m scn) []
  now_other older (entries.Ended b (decisions.Commit m)) other = ap (λ q. if nat_le m scn then (if q then changes_of older b else []) else []) other ∙ either_way (nat_le m scn) []
  now_other older (entries.Ended b decisions.Rollback) other = refl
  now_other older (entries.Forced b (decisions.Commit m)) other = ap (λ q. if nat_le m scn then (if q then changes_of older b else []) else []) other ∙ either_way (nat_le m scn) []
  now_other older (entries.Forced b decisions.Rollback) other = refl
  now_other older (entries.Made m x) other = refl
  now_other older (entries.Sealed c g cs m) other = refl
  now_other older (entries.Met c d mixed) other = refl

  -- the entries of other nodes commit nothing there
  pub own_until : (older es : List Entry) → all_until older es ≡ all_until (own_entries n older) (own_entries n es)
  own_until older [] = refl
  own_until older (e ∷ es) = by (is_of_node n e) refl (own_until (older ++ e ∷ []) es ∙ ap (λ os. all_until os (own_entries n es)) (filter-append (is_of_node n) older (e ∷ [])))
    where
      by : (q : Bool) → is_of_node n e ≡ q → all_until (older ++ e ∷ []) es ≡ all_until (own_entries n older ++ own_entries n (e ∷ [])) (own_entries n es)
          → now_until older e ++ all_until (older ++ e ∷ []) es ≡ all_until (own_entries n older) (if q then e ∷ own_entries n es else own_entries n es)
      by true is rest =
          ap (λ cs. cs ++ all_until (older ++ e ∷ []) es) (now_own older e is)
          ∙ ap (λ cs. now_until (own_entries n older) e ++ cs) (rest ∙ ap (λ q. all_until (own_entries n older ++ (if q then e ∷ [] else [])) (own_entries n es)) is)
      by false is rest =
          ap (λ cs. cs ++ all_until (older ++ e ∷ []) es) (now_other older e is)
          ∙ (rest ∙ (ap (λ q. all_until (own_entries n older ++ (if q then e ∷ [] else [])) (own_entries n es)) is ∙ ap (λ os. all_until os (own_entries n es)) (append-nil (own_entries n older))))

  -- ---- records

  abbrev told : List RedoRecord → List Entry
  told rs = flat_map (entry_of n) rs

  -- what a law of each entry says of the first and of the others
  each_front : (P : List Entry → Entry → Type 0) (older xs ys : List Entry) → EachAgainst P older (xs ++ ys) → EachAgainst P older xs × EachAgainst P (older ++ xs) ys
  each_front P older [] ys all = (tt, subst (λ os. EachAgainst P os ys) (sym (append-nil older)) all)
  each_front P older (x ∷ xs) ys all =
      let rest = each_front P (older ++ x ∷ []) xs ys all.1 in
      ((all.0, rest.0), subst (λ os. EachAgainst P os ys) (append_assoc older (x ∷ []) xs) rest.1)

  comes_so : (es : List Entry) (r : RedoRecord) → EachAgainst (ComesHere n) es (entry_of n r) → RecordComes n es r
  comes_so es (records.Sealed r) all = all.0
  comes_so es (records.Decided r) all = all.0
  comes_so es _ all = tt

  module _ (es : List Entry) (ds : List Doubt) (stand : DoubtsStand n es ds) where
    held_found : (b : BranchId) (xs : List Doubt) → AllByRecursion (λ d. d.changes ≡ changes_of es d.branch) xs → list_any (λ c. same c b) (map doubt_id xs) ≡ true → held_back (item_at doubt_id xs b) ≡ changes_of es b
    held_found b [] all some = absurd cc
    held_found b (d ∷ xs) all some = by (same d.branch b) refl some (held_found b xs all.1)
      where
        by : (q : Bool) → same d.branch b ≡ q → (q || list_any (λ c. same c b) (map doubt_id xs)) ≡ true → (list_any (λ c. same c b) (map doubt_id xs) ≡ true → held_back (item_at doubt_id xs b) ≡ changes_of es b)
            → held_back (if q then Some d else item_at doubt_id xs b) ≡ changes_of es b
        by true is some rest = all.0 ∙ ap (changes_of es) (equal_from_same d.branch b is)
        by false is some rest = rest some

    -- a branch that ends has held back what the entries have of it
    held_so : (b : BranchId) → HasEnds es b → held_back (item_at doubt_id ds b) ≡ changes_of es b
    held_so b has =
        let seal : IsSealedIn es b = sealed_in_book es b has.1 in
        let among : IsOne b (in_doubt es n) = in_doubt_of es n b (record { global = seal.global; changes = seal.changes; scn = seal.scn; sealed = seal.there; here = has.0; endless = has.2 }) in
        held_found b ds stand.changes (stand.branches (λ c. same c b) ∙ finds (λ c. same c b) b (in_doubt es n) among (same_from_equal b b refl))

    end_until : (b : BranchId) (m : ℕ) → HasEnds es b → (if nat_le m scn then held_back (item_at doubt_id ds b) else []) ≡ (if nat_le m scn then (if b.node == n then changes_of es b else []) else []) ++ []
    end_until b m has =
        ap (λ cs. if nat_le m scn then cs else []) (held_so b has ∙ ap (λ q. if q then changes_of es b else []) (sym (eq-eqb b.node n has.0)))
        ∙ sym (append-nil (if nat_le m scn then (if b.node == n then changes_of es b else []) else []))

    -- a record commits what its entry does
    one_until : (r : RedoRecord) → EachAgainst (ComesHere n) es (entry_of n r) → EachAgainst EndsHere es (entry_of n r) → changes_until scn (commit_of ds r) ≡ all_until es (entry_of n r)
    one_until (records.Decided r) comes ends =
        ap (λ q. if nat_le r.scn scn then (if q then r.changes else []) else []) (sym (eq-eqb r.me.node n comes.0.1)) ∙ sym (append-nil (if nat_le r.scn scn then (if r.me.node == n then r.changes else []) else []))
    one_until (records.Ended b (decisions.Commit m)) comes ends = end_until b m ends.0
    one_until (records.Ended b decisions.Rollback) comes ends = refl
    one_until (records.Forced b (decisions.Commit m) given) comes ends = end_until b m ends.0
    one_until (records.Forced b decisions.Rollback given) comes ends = refl
    one_until (records.Table t) comes ends = refl
    one_until (records.Sealed r) comes ends = refl
    one_until (records.Met b d mixed) comes ends = refl
    one_until _ comes ends = refl

  pub until_told : (es : List Entry) (s : Stored) (rs : List RedoRecord) → EachAgainst (ComesHere n) es (told rs) → EachAgainst EndsHere es (told rs) → DoubtsStand n es s.doubts → until_by scn s rs ≡ all_until es (told rs)
  until_told es s [] comes ends stand = refl
  until_told es s (r ∷ rs) comes ends stand =
      let came = each_front (ComesHere n) es (entry_of n r) (told rs) comes in
      let ended = each_front EndsHere es (entry_of n r) (told rs) ends in
      ap (λ cs. cs ++ until_by scn (applied s r) rs) (one_until es s.doubts stand r came.0 ended.0)
      ∙ (ap (λ cs. all_until es (entry_of n r) ++ cs) (until_told (es ++ entry_of n r) (applied s r) rs came.1 ended.1 (record_stands n es s r (comes_so es r came.0) stand))
      ∙ sym (until_joined es (entry_of n r) (told rs)))
