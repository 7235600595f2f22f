-- Of two decisions that changed one key at a node the later in the book has the greater SCN. Its branch there either left after the
-- other's, so its SCN is greater; or it left before and had ended by then, so its decision would be the older.
use Rattle.std.proofs.Common.{◌≡◌, ℕ, ◌<◌, ◌≤◌, ◌==◌, ◌&&◌, not, Bool, true, false, true≢false, if◌then◌else◌, List, [], filter, flat_map, take, Option, Some, None, inl, inr, refl, sym, ap, subst, ◌∙◌, arith}
use Rattle.std.specs.List.{list_any}
use Rattle.std.proofs.lemmas.Bool.{and_parts, cases_lt, eqb-true}
use Rattle.tran_ids.proofs.BranchLemmas.{equal_from_same, same_from_equal}
use Rattle.agreement.specs.Events.{Forest, IsForest, Decided, Event, exit, learned, forced, Lawful, site_of}
use Rattle.agreement.specs.BookOf.{book_of}
use Rattle.agreement.proofs.AgreementLaws.{undecided_from_rollback}
use Rattle.node_rules.specs.Data.{Change, BranchId, RedoRecord}
use Rattle.node_rules.specs.Data.decisions
use Rattle.node_rules.specs.Words.{same}
use Rattle.run_rules.specs.Data.{Entry}
use Rattle.run_rules.specs.Data.entries
use Rattle.run_rules.specs.Book.{is_forced_of, is_end_of, stands, is_decision_on, is_decision_at, global_in, AsDecided, Follows, EachAgainst, At, unforced_at, transaction_in, transaction_at, is_key_in, InOrder}
use Rattle.run_rules.specs.Entries.{entry_of}
use Rattle.run_rules.specs.Facts.{records_at}
use Rattle.run_rules.specs.Lawful.{facts_at}
use Rattle.run_base_laws.specs.RunEvents.{events_of}
use Rattle.run_claims.specs.Headline.{EveryScnIsLater}
use Rattle.run_key_laws.specs.RiseLaws.{are_of_one_key}
use Rattle.run_key_laws.specs.OrderLaws.{have_a_key_in_common, InOrderFrom}
use Rattle.run_key_laws.specs.CommitOrderLaws.{LeavesAfter}
use Rattle.run_branch_laws.proofs.EventBookLemmas.{book_of_events}
use Rattle.run_key_laws.proofs.OrderLemmas.{keys_come_in_order}
use Rattle.run_key_laws.proofs.CommitOrderLemmas.{has_learned}
use Rattle.tree_laws.specs.Forests.{forest_of}
use Rattle.tree_laws.proofs.ForestRunLemmas.{runs_have_forests}
use Rattle.tree_laws.proofs.AgreeLemmas.{runs_agree}
use Rattle.book_laws.proofs.OrderedLemmas.{every_commit_comes_in_order}
use Rattle.book_laws.specs.DiskLaws.{node_of, is_of_node}
use Rattle.book_laws.specs.SealLaws.{ComesFirst}
use Rattle.book_laws.proofs.PlaceLemmas.{IsOne, found, finds, both_ways, one_of_flat, place_of, one_at, place_before, one_before, at_place}
use Rattle.book_laws.proofs.DiskLemmas.{books_are_of_disks}
use Rattle.book_laws.proofs.SealLemmas.{seals_come_first, lawful_events}
use Rattle.book_laws.proofs.OnDiskLemmas.{ended_before, common_too, IsOf, leaves_later}
use Rattle.book_laws.proofs.DecisionLemmas.{has_end, unforced_events, DecidedAt, one_decision, by_decision, site_decided, root_of, root_before}

-- ---- the branch that changed a key

-- A branch of a transaction left at a node with these changes, by an entry of the book, and was never forced.
pub record Left (book : List Entry) (n : ℕ) (g : BranchId) (cs : List Change) : Type 0 where
  pub branch : BranchId
  pub place : ℕ
  pub entry : Entry
  pub at : At book place entry
  pub there : IsOne entry book
  pub of : IsOf branch g cs entry
  pub here : branch.node ≡ n
  pub unforced : stands (is_forced_of branch) book ≡ false

not_false : (q : Bool) → not q ≡ true → q ≡ false
not_false false is = refl
not_false true is = absurd (true≢false (sym is))

-- what a test finds in the changes of a branch there
unforced_in : (book : List Entry) (n : ℕ) (g b h : BranchId) (cs : List Change) (q : Change → Bool) → list_any q (unforced_at book n g b h cs) ≡ true
    → (h ≡ g) × (b.node ≡ n) × (stands (is_forced_of b) book ≡ false) × (list_any q cs ≡ true)
unforced_in book n g b h cs q some = by (same h g && ((b.node == n) && not (stands (is_forced_of b) book))) refl some
  where
    by : (k : Bool) → (same h g && ((b.node == n) && not (stands (is_forced_of b) book))) ≡ k → list_any q (if k then cs else []) ≡ true
        → (h ≡ g) × (b.node ≡ n) × (stands (is_forced_of b) book ≡ false) × (list_any q cs ≡ true)
    by true is some =
        let one = and_parts (same h g) ((b.node == n) && not (stands (is_forced_of b) book)) is in
        let two = and_parts (b.node == n) (not (stands (is_forced_of b) book)) one.1 in
        (equal_from_same h g one.0, eqb-true b.node n two.0, not_false (stands (is_forced_of b) book) two.1, some)
    by false is some = absurd (true≢false (sym some))

left_by : (book : List Entry) (n : ℕ) (g : BranchId) (q : Change → Bool) (e : Entry) (k : ℕ) → At book k e → IsOne e book → list_any q (transaction_in book n g e) ≡ true
    → (cs : List Change) × Left book n g cs × (list_any q cs ≡ true)
left_by book n g q (entries.Sealed b h cs scn) k at there some =
    let own = unforced_in book n g b h cs q some in
    (cs, record { branch = b; place = k; entry = entries.Sealed b h cs scn; at = at; there = there; of = (refl, own.0, refl); here = own.1; unforced = own.2 }, own.3)
left_by book n g q (entries.Decided b h cs scn) k at there some =
    let own = unforced_in book n g b h cs q some in
    (cs, record { branch = b; place = k; entry = entries.Decided b h cs scn; at = at; there = there; of = (refl, own.0, refl); here = own.1; unforced = own.2 }, own.3)
left_by book n g q (entries.Made m x) k at there some = absurd (true≢false (sym some))
left_by book n g q (entries.Ended b d) k at there some = absurd (true≢false (sym some))
left_by book n g q (entries.Forced b d) k at there some = absurd (true≢false (sym some))
left_by book n g q (entries.Met b d mixed) k at there some = absurd (true≢false (sym some))

-- what a test finds in the changes of a transaction at a node is of one of its branches
changed_there : (book : List Entry) (n : ℕ) (g : BranchId) (q : Change → Bool) → list_any q (transaction_at book n g) ≡ true → (cs : List Change) × Left book n g cs × (list_any q cs ≡ true)
changed_there book n g q some =
    let c = found q (transaction_at book n g) some in
    let e = one_of_flat (transaction_in book n g) c.0 book c.1 in
    let k = place_of e.0 book e.1 in
    left_by book n g q e.0 k.0 k.1 e.1 (finds q c.0 (transaction_in book n g e.0) e.2 c.2)

own_node : (x g : BranchId) (cs : List Change) (e : Entry) → IsOf x g cs e → node_of e ≡ x.node
own_node x g cs (entries.Sealed b h ds scn) of = ap (λ (z : BranchId). z.node) of.0
own_node x g cs (entries.Decided b h ds scn) of = ap (λ (z : BranchId). z.node) of.0
own_node x g cs (entries.Made m y) of = absurd of
own_node x g cs (entries.Ended b d) of = absurd of
own_node x g cs (entries.Forced b d) of = absurd of
own_node x g cs (entries.Met b d mixed) of = absurd of

-- an entry is of one transaction
one_transaction : (x y g h : BranchId) (cs ds : List Change) (e : Entry) → IsOf x g cs e → IsOf y h ds e → g ≡ h
one_transaction x y g h cs ds (entries.Sealed b k es scn) one other = sym one.1 ∙ other.1
one_transaction x y g h cs ds (entries.Decided b k es scn) one other = sym one.1 ∙ other.1
one_transaction x y g h cs ds (entries.Made m z) one other = absurd one
one_transaction x y g h cs ds (entries.Ended b d) one other = absurd one
one_transaction x y g h cs ds (entries.Forced b d) one other = absurd one
one_transaction x y g h cs ds (entries.Met b d mixed) one other = absurd one

pub decision_on : (g : BranchId) (n : ℕ) (e : Entry) → is_decision_at g n e ≡ true → is_decision_on g e ≡ true
decision_on g n (entries.Decided b h cs m) is = (and_parts (same h g) (m == n) is).0
decision_on g n (entries.Made k x) is = absurd (true≢false (sym is))
decision_on g n (entries.Sealed b h cs m) is = absurd (true≢false (sym is))
decision_on g n (entries.Ended b d) is = absurd (true≢false (sym is))
decision_on g n (entries.Forced b d) is = absurd (true≢false (sym is))
decision_on g n (entries.Met b d mixed) is = absurd (true≢false (sym is))

-- ---- a branch that ended

module _ (p : Forest) (w : IsForest p) (t : List Event) (l : Lawful p t) (agrees : EachAgainst Follows [] (book_of t)) (firsts : EachAgainst ComesFirst [] (book_of t)) where
  -- the decision of a transaction stands in the book
  module _ (h c : BranchId) (cs : List Change) (m : ℕ) (decision : IsOne (entries.Decided c h cs m) (book_of t)) where
    -- so no branch of it ended with a rollback
    no_rollback : (b : BranchId) → p.root b ≡ h → IsOne (entries.Ended b decisions.Rollback) (book_of t) → ⊥
    no_rollback b root ended =
        let told : learned t b ≡ Some decisions.Rollback = has_learned p t b decisions.Rollback None l (has_end t b decisions.Rollback ended) in
        let decided = by_decision p t l agrees c h cs m decision in
        undecided_from_rollback p w t l b c m told (decided.1 ∙ sym root) decided.0

    -- the commit that a branch learned comes after the decision
    decided_before : (b : BranchId) (q k : ℕ) → AsDecided (decisions.Commit q) (global_in b (take k (book_of t))) (take k (book_of t)) → p.root b ≡ h → (j : ℕ) × (j < k) × DecidedAt (book_of t) h j
    decided_before b q k settled root = by (global_in b (take k (book_of t))) refl settled
      where
        by : (o : Option BranchId) → global_in b (take k (book_of t)) ≡ o → AsDecided (decisions.Commit q) o (take k (book_of t)) → (j : ℕ) × (j < k) × DecidedAt (book_of t) h j
        by None is settled = absurd settled
        by (Some f) is settled =
            let e = found (is_decision_at f q) (take k (book_of t)) settled in
            let j = place_before e.0 (book_of t) k e.1 in
            let one : f ≡ h = sym (root_before p t l agrees b f k is) ∙ root in
            (j.0, j.1, record { entry = e.0; at = j.2; decides = subst (λ z. is_decision_on z e.0 ≡ true) one (decision_on f q e.0 e.2) })

    -- so does the end of a branch that was never forced
    ended_after : (y : BranchId) → p.root y ≡ h → stands (is_forced_of y) (book_of t) ≡ false → (k : ℕ) (e : Entry) → At (book_of t) k e → is_end_of y e ≡ true → (j : ℕ) × (j < k) × DecidedAt (book_of t) h j
    ended_after y root unforced k (entries.Ended b (decisions.Commit q)) at is =
        let me : b ≡ y = equal_from_same b y is in
        decided_before b q k (at_place Follows [] (book_of t) k (entries.Ended b (decisions.Commit q)) agrees at).2 (ap p.root me ∙ root)
    ended_after y root unforced k (entries.Ended b decisions.Rollback) at is =
        absurd (no_rollback b (ap p.root (equal_from_same b y is) ∙ root) (one_at (entries.Ended b decisions.Rollback) (book_of t) k at))
    ended_after y root unforced k (entries.Forced b d) at is =
        absurd (true≢false (sym (finds (is_forced_of y) (entries.Forced b d) (book_of t) (one_at (entries.Forced b d) (book_of t) k at) is) ∙ unforced))
    ended_after y root unforced k (entries.Made m x) at is = absurd (true≢false (sym is))
    ended_after y root unforced k (entries.Sealed b g ds n) at is = absurd (true≢false (sym is))
    ended_after y root unforced k (entries.Decided b g ds n) at is = absurd (true≢false (sym is))
    ended_after y root unforced k (entries.Met b d mixed) at is = absurd (true≢false (sym is))

    module _ (n : ℕ) (rs : List RedoRecord) (disk : filter (is_of_node n) (book_of t) ≡ flat_map (entry_of n) rs) (order : InOrderFrom [] rs) where
      -- so its decision comes before that entry
      decided_first : (y x g : BranchId) (ds es : List Change) (k m : ℕ) (d e : Entry) → At (book_of t) k d → At (book_of t) m e → k < m → IsOf y h ds d → IsOf x g es e → node_of d ≡ n → node_of e ≡ n
          → have_a_key_in_common ds es ≡ true → stands (is_forced_of y) (book_of t) ≡ false → (j : ℕ) × (j < m) × DecidedAt (book_of t) h j
      decided_first y x g ds es k m (entries.Sealed b f bs scn) e at later less of of_later here there common unforced =
          let root : p.root b ≡ h = root_of p t l agrees b h bs (entries.Sealed b f bs scn) (one_at (entries.Sealed b f bs scn) (book_of t) k at) (refl, of.1, refl) in
          let over : stands (is_end_of b) (take m (book_of t)) ≡ true = ended_before (book_of t) n rs disk order b f x g bs es scn k m e at later less here there of_later (subst (λ xs. have_a_key_in_common xs es ≡ true) (sym of.2) common) in
          let end = found (is_end_of b) (take m (book_of t)) over in
          let z = place_before end.0 (book_of t) m end.1 in
          let j = ended_after b root (subst (λ i. stands (is_forced_of i) (book_of t) ≡ false) (sym of.0) unforced) z.0 end.0 z.2 end.2 in
          (j.0, omega (arith, j.1, z.1), j.2)
      decided_first y x g ds es k m (entries.Decided b f bs scn) e at later less of of_later here there common unforced =
          (k, less, record { entry = entries.Decided b f bs scn; at = at; decides = same_from_equal f h of.1 })
      decided_first y x g ds es k m (entries.Made i z) e at later less of of_later here there common unforced = absurd of
      decided_first y x g ds es k m (entries.Ended b o) e at later less of of_later here there common unforced = absurd of
      decided_first y x g ds es k m (entries.Forced b o) e at later less of of_later here there common unforced = absurd of
      decided_first y x g ds es k m (entries.Met b o mixed) e at later less of of_later here there common unforced = absurd of

  -- a branch leaves no later than its decision
  not_after : (x g : BranchId) (cs : List Change) (i k : ℕ) (e : Entry) → At (book_of t) k e → IsOf x g cs e → DecidedAt (book_of t) g i → k ≤ i
  not_after x g cs i k (entries.Decided b h ds n) at of decided =
      let same_place : k ≡ i = one_decision p t l agrees g k i (record { entry = entries.Decided b h ds n; at = at; decides = same_from_equal h g of.1 }) decided in
      omega (arith, same_place)
  not_after x g cs i k (entries.Sealed b h ds n) at of decided = elim (cases_lt i k) [
    | inr le ↦ le
    | inl less ↦ (let none : stands (is_decision_on h) (take k (book_of t)) ≡ false = at_place ComesFirst [] (book_of t) k (entries.Sealed b h ds n) firsts at in
        let some : stands (is_decision_on g) (take k (book_of t)) ≡ true = finds (is_decision_on g) decided.entry (take k (book_of t)) (one_before decided.entry (book_of t) i k decided.at less) decided.decides in
        absurd (true≢false (sym some ∙ subst (λ z. stands (is_decision_on z) (take k (book_of t)) ≡ false) of.1 none)))
  ]
  not_after x g cs i k (entries.Made m z) at of decided = absurd of
  not_after x g cs i k (entries.Ended b d) at of decided = absurd of
  not_after x g cs i k (entries.Forced b d) at of decided = absurd of
  not_after x g cs i k (entries.Met b d mixed) at of decided = absurd of

  -- ---- two decisions

  module _ (disks : ℕ → List RedoRecord) (told : (n : ℕ) → filter (is_of_node n) (book_of t) ≡ flat_map (entry_of n) (disks n)) (order : (n : ℕ) → InOrderFrom [] (disks n))
      (comes : (n : ℕ) (x y : BranchId) (k m : ℕ) → LeavesAfter (disks n) x y → forced t x ≡ None → exit t (site_of p x) ≡ Some (Decided k) → exit t (site_of p y) ≡ Some (Decided m) → k < m) where
    -- of two branches that changed one key the transaction of the one whose decision is the older has the lower SCN
    ordered : (i j : ℕ) (b c g h : BranchId) (bs ds : List Change) (m n node : ℕ) → i < j → At (book_of t) i (entries.Decided b g bs m) → At (book_of t) j (entries.Decided c h ds n)
        → (xs ys : List Change) (x : Left (book_of t) node g xs) (y : Left (book_of t) node h ys) → have_a_key_in_common xs ys ≡ true → m < n
    ordered i j b c g h bs ds m n node less at later xs ys x y common =
        let one : IsOne (entries.Decided b g bs m) (book_of t) = one_at (entries.Decided b g bs m) (book_of t) i at in
        let other : IsOne (entries.Decided c h ds n) (book_of t) = one_at (entries.Decided c h ds n) (book_of t) j later in
        let first : DecidedAt (book_of t) g i = record { entry = entries.Decided b g bs m; at = at; decides = same_from_equal g g refl } in
        let second : DecidedAt (book_of t) h j = record { entry = entries.Decided c h ds n; at = later; decides = same_from_equal h h refl } in
        let here : node_of x.entry ≡ node = own_node x.branch g xs x.entry x.of ∙ x.here in
        let there : node_of y.entry ≡ node = own_node y.branch h ys y.entry y.of ∙ y.here in
        elim (cases_lt x.place y.place) [
          | inl before ↦ comes node x.branch y.branch m n
              (leaves_later node (book_of t) (disks node) (told node) x.place y.place x.branch y.branch g h xs ys x.entry y.entry x.at y.at before x.of y.of here there common)
              (unforced_events t x.branch x.unforced)
              (site_decided p t l agrees b g x.branch bs m one (root_of p t l agrees x.branch g xs x.entry x.there x.of))
              (site_decided p t l agrees c h y.branch ds n other (root_of p t l agrees y.branch h ys y.entry y.there y.of))
          | inr le ↦ elim (cases_lt y.place x.place) [
            | inl after ↦ (let d = decided_first h c ds n other node (disks node) (told node) (order node) y.branch x.branch g ys xs y.place x.place y.entry x.entry y.at x.at after y.of x.of there here (common_too xs ys common) y.unforced in
                let same_place : d.0 ≡ j = one_decision p t l agrees h d.0 j d.2 second in
                let no_later : x.place ≤ i = not_after x.branch g xs i x.place x.entry x.at x.of first in
                absurd (omega (arith, less, d.1, same_place, no_later)))
            | inr ge ↦ (let place : x.place ≡ y.place = omega (arith, le, ge) in
                let entry : x.entry ≡ y.entry = one_entry x.place y.place x.entry y.entry place x.at y.at in
                let of : IsOf y.branch h ys x.entry = subst (IsOf y.branch h ys) (sym entry) y.of in
                let same_one : g ≡ h = one_transaction x.branch y.branch g h xs ys x.entry x.of of in
                let same_place : i ≡ j = one_decision p t l agrees h i j (subst (λ z. DecidedAt (book_of t) z i) same_one first) second in
                absurd (omega (arith, less, same_place)))
          ]
        ]
      where
        one_entry : (k q : ℕ) (d e : Entry) → k ≡ q → At (book_of t) k d → At (book_of t) q e → d ≡ e
        one_entry k q d e same_place at later = let there : At (book_of t) q d = subst (λ z. At (book_of t) z d) same_place at in cc (there, later)

    pub in_order : InOrder (book_of t)
    in_order i j b c g h bs ds m n node less at later shared =
        let y = changed_there (book_of t) node h (is_key_in (transaction_at (book_of t) node g)) shared in
        let both : list_any (λ d. list_any (are_of_one_key d) y.0) (transaction_at (book_of t) node g) ≡ true = both_ways are_of_one_key (transaction_at (book_of t) node g) y.0 y.2 in
        let x = changed_there (book_of t) node g (λ d. list_any (are_of_one_key d) y.0) both in
        ordered i j b c g h bs ds m n node less at later x.0 y.0 x.1 y.1 x.2

-- ---- every run

pub every_scn_is_later : EveryScnIsLater
every_scn_is_later t lawful =
    let same_book = book_of_events t in
    let agree = runs_agree t lawful in
    record {
      above_seals = agree.2;
      in_order = subst InOrder same_book
          (in_order (forest_of t) (runs_have_forests t lawful) (events_of t) (lawful_events t lawful) (subst (EachAgainst Follows []) (sym same_book) agree.0) (subst (EachAgainst ComesFirst []) (sym same_book) (seals_come_first t lawful))
          (records_at (facts_at t)) (λ n. ap (filter (is_of_node n)) same_book ∙ books_are_of_disks t lawful n) (keys_come_in_order t lawful) (every_commit_comes_in_order t lawful));
    }
