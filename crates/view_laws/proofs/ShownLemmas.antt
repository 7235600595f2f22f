-- What the views show of a row that a node keeps is what the records say of its branch.
use Rattle.std.proofs.Common.{◌≡◌, ◌≢◌, ℕ, ◌||◌, ◌&&◌, not, Bool, true, false, if◌then◌else◌, List, [], ◌∷◌, ◌++◌, map, slice_get, is_some, option_map, option_to_list, Option, Some, None, inr, refl, sym, ap, subst, ◌∙◌}
use Rattle.std.specs.List.{AllByRecursion}
use Rattle.tran_ids.proofs.BranchLemmas.{equal_from_same}
use Rattle.redo_record.specs.declared.record.Peer.{Peer}
use Rattle.redo_record.specs.Rows.{kid_of, toward_of, sealed_as, decided_as}
use Rattle.redo_record.specs.Rows as rules
use Rattle.pending_view.specs.Views.{Pending, known_number, state_text, state_number, pending_kept, in_row, out_row, neighbors_of}
use Rattle.agreement.specs.Events as exits
use Rattle.agreement.specs.Events.{Event, exit, first}
use Rattle.node_rules.specs.Data.{BranchId, Decision, RedoRecord, Sealed, Decided, KeptRow}
use Rattle.node_rules.specs.Data.decisions
use Rattle.node_rules.specs.Data.records
use Rattle.node_rules.specs.Data.states
use Rattle.node_rules.specs.Words.{same}
use Rattle.run_rules.specs.BranchRecords.{sealed_in, decided_in}
use Rattle.view_laws.specs.BranchRows.{forced_as, committed_at, is_mixed, is_over, is_purged, is_shown, has_neighbors, state_by, scn_by, pending_sealed, pending_decided, pending_first, pending_recorded, neighbor_in, neighbor_out, neighbors_sealed, neighbors_decided, neighbors_first}
use Rattle.view_laws.proofs.OneMoreLemmas.{Says, says, learned_as}
use Rattle.view_laws.proofs.RowLemmas.{state_in, dressed, first_row, row_with}
use Rattle.view_laws.proofs.SaidLemmas.{Stood, learned_none, committed_none, mixed_none, forced_none, commit_learned}

-- ---- the first record

sealed_me : (rs : List RedoRecord) (b : BranchId) (r : Sealed) → sealed_in rs b ≡ Some r → r.me ≡ b
sealed_me [] b r is = absurd cc
sealed_me (records.Sealed x ∷ rs) b r is = by (same x.me b) refl is (λ later. sealed_me rs b r later)
  where
    by : (q : Bool) → same x.me b ≡ q → (if q then Some x else sealed_in rs b) ≡ Some r → (sealed_in rs b ≡ Some r → r.me ≡ b) → r.me ≡ b
    by true here is later = (let it : x ≡ r = cc is in subst (λ (z : Sealed). z.me ≡ b) it (equal_from_same x.me b here))
    by false here is later = later is
sealed_me (_ ∷ rs) b r is = sealed_me rs b r is

decided_exit : (e : List Event) (rs : List RedoRecord) → AllByRecursion (Stood e) rs → (b : BranchId) (r : Decided) → decided_in rs b ≡ Some r → exit e b ≡ Some (exits.Decided r.scn)
decided_exit e [] all b r is = absurd cc
decided_exit e (records.Decided x ∷ rs) all b r is = by (same x.me b) refl is (λ later. decided_exit e rs all.1 b r later)
  where
    by : (q : Bool) → same x.me b ≡ q → (if q then Some x else decided_in rs b) ≡ Some r → (decided_in rs b ≡ Some r → exit e b ≡ Some (exits.Decided r.scn)) → exit e b ≡ Some (exits.Decided r.scn)
    by true here is later = (let it : x ≡ r = cc is in subst (λ (z : Decided). exit e b ≡ Some (exits.Decided z.scn)) it (subst (λ z. exit e z ≡ Some (exits.Decided x.scn)) (equal_from_same x.me b here) all.0))
    by false here is later = later is
decided_exit e (_ ∷ rs) all b r is = decided_exit e rs all.1 b r is

first_kid : (cs : List Peer) → is_some (slice_get (map kid_of cs) 0) ≡ is_some (slice_get cs 0)
first_kid [] = refl
first_kid (c ∷ cs) = refl

neighbors_same : (r : Decided) → rules.has_neighbors (decided_as r) ≡ has_neighbors r
neighbors_same r = ap (λ q. is_some r.parent || q) (first_kid r.children)

-- ---- columns

state_is : (fo : Option Decision) (co : Option ℕ) → state_text (state_in fo co states.Sealed) ≡ state_by fo co
state_is (Some (decisions.Commit n)) co = refl
state_is (Some decisions.Rollback) co = refl
state_is None (Some n) = refl
state_is None None = refl

number_is : (fo : Option Decision) (co : Option ℕ) (le : Option Decision) → ((n : ℕ) → co ≡ Some n → le ≡ Some (decisions.Commit n)) → state_number (state_in fo co states.Sealed) (first le None) ≡ scn_by fo co
number_is (Some (decisions.Commit n)) co le knows = refl
number_is (Some decisions.Rollback) co le knows = refl
number_is None (Some n) le knows = ap (λ o. known_number (first o None)) (knows n refl)
number_is None None le knows = refl

in_is : (names : List (List ℕ)) (s : KeptRow) (toward : Option BranchId) → s.toward ≡ toward → (o : Option BranchId) → in_row names s o ≡ map (neighbor_in names s.me toward) (option_to_list o)
in_is names s toward is None = refl
in_is names s toward is (Some p) = ap (λ w. neighbor_in names s.me w p ∷ []) is

out_is : (s : KeptRow) (toward : Option BranchId) → s.toward ≡ toward → (cs : List Peer) → map (out_row s) (map kid_of cs) ≡ map (neighbor_out s.me toward) cs
out_is s toward is [] = refl
out_is s toward is (c ∷ cs) = λ i. neighbor_out s.me (is i) c ∷ out_is s toward is cs i

-- ---- the row

module _ (e : List Event) (rs : List RedoRecord) (all : AllByRecursion (Stood e) rs) (b : BranchId) where
  abbrev x : Says
  x = says rs b

  sealed_view : (r : Sealed) → sealed_in rs b ≡ Some r → pending_kept (dressed x (sealed_as r)) ≡ pending_sealed rs r
  sealed_view r is =
      subst (λ m. ◌≡◌ {A = Pending}
      (record { me = r.me; root = r.root; state = state_text (state_in (forced_as rs b) (committed_at rs b) states.Sealed); mixed = is_mixed rs b; advice = r.advice; comment = r.comment; number = state_number (state_in (forced_as rs b) (committed_at rs b) states.Sealed) (first (learned_as rs b) None) })
      (record { me = r.me; root = r.root; state = state_by (forced_as rs m) (committed_at rs m); mixed = is_mixed rs m; advice = r.advice; comment = r.comment; number = scn_by (forced_as rs m) (committed_at rs m) }))
      (sym (sealed_me rs b r is))
      (λ i. record {
        me = r.me;
        root = r.root;
        state = state_is (forced_as rs b) (committed_at rs b) i;
        mixed = is_mixed rs b;
        advice = r.advice;
        comment = r.comment;
        number = number_is (forced_as rs b) (committed_at rs b) (learned_as rs b) (λ n is. commit_learned e b rs all n is) i;
      })

  decided_view : (r : Decided) → decided_in rs b ≡ Some r → pending_kept (dressed x (decided_as r)) ≡ pending_decided r
  decided_view r is =
      let out : (n : ℕ) × (exit e b ≡ Some (exits.Decided n)) = (r.scn, decided_exit e rs all b r is) in
      λ i. pending_kept (dressed (record x { forced = forced_none e b (inr out) rs all i; committed = committed_none e b (inr out) rs all i; learned = learned_none e b (inr out) rs all i; mixed = mixed_none e b (inr out) rs all i }) (decided_as r))

  neighbors_seal : (names : List (List ℕ)) (r : Sealed) → neighbors_of names (dressed x (sealed_as r)) ≡ neighbors_sealed names r
  neighbors_seal names r = λ i. in_is names (dressed x (sealed_as r)) (toward_of r r.toward) refl r.parent i ++ out_is (dressed x (sealed_as r)) (toward_of r r.toward) refl r.children i

  neighbors_decide : (names : List (List ℕ)) (r : Decided) → neighbors_of names (dressed x (decided_as r)) ≡ neighbors_decided names r
  neighbors_decide names r = λ i. in_is names (dressed x (decided_as r)) None refl r.parent i ++ out_is (dressed x (decided_as r)) None refl r.children i

  -- What the records say of a branch whose row is kept and not hidden.
  record IsView (s : KeptRow) : Type 0 where
    shown : is_shown rs b ≡ true
    pending : pending_first rs (sealed_in rs b) (decided_in rs b) ≡ pending_kept s ∷ []
    neighbors : (names : List (List ℕ)) → neighbors_first names (sealed_in rs b) (decided_in rs b) ≡ neighbors_of names s

  view_of : (s : KeptRow) → row_with x ≡ Some s → s.hidden ≡ false → IsView s
  view_of s found seen = by (is_over rs b) refl (sealed_in rs b) refl (decided_in rs b) refl found
    where
      shown_so : is_over rs b ≡ false → is_purged rs b ≡ false → is_shown rs b ≡ true
      shown_so over purged = ap (λ q. not q && not (is_purged rs b)) over ∙ ap not purged

      decided_by : (over : is_over rs b ≡ false) (r : Decided) → sealed_in rs b ≡ None → decided_in rs b ≡ Some r → (q : Bool) → rules.has_neighbors (decided_as r) ≡ q
          → option_map (dressed x) (if q then Some (decided_as r) else None) ≡ Some s → IsView s
      decided_by over r none is false has found = absurd cc
      decided_by over r none is true has found =
          let it : dressed x (decided_as r) ≡ s = cc in
          record {
            shown = shown_so over (ap (λ (z : KeptRow). z.hidden) it ∙ seen);
            pending = ap (λ o. pending_first rs o (decided_in rs b)) none ∙ (ap (pending_first rs None) is ∙ (ap (λ q. if q then pending_decided r ∷ [] else []) (sym (neighbors_same r) ∙ has) ∙ ap (λ p. p ∷ []) (sym (decided_view r is) ∙ ap pending_kept it)));
            neighbors = λ names. ap (λ o. neighbors_first names o (decided_in rs b)) none ∙ (ap (neighbors_first names None) is ∙ (sym (neighbors_decide names r) ∙ ap (neighbors_of names) it));
          }

      by : (o : Bool) → is_over rs b ≡ o → (se : Option Sealed) → sealed_in rs b ≡ se → (de : Option Decided) → decided_in rs b ≡ de → (if o then None else option_map (dressed x) (first_row se de)) ≡ Some s → IsView s
      by true over se sealed de decided found = absurd cc
      by false over (Some r) sealed de decided found =
          let it : dressed x (sealed_as r) ≡ s = cc in
          record {
            shown = shown_so over (ap (λ (z : KeptRow). z.hidden) it ∙ seen);
            pending = ap (λ o. pending_first rs o (decided_in rs b)) sealed ∙ ap (λ p. p ∷ []) (sym (sealed_view r sealed) ∙ ap pending_kept it);
            neighbors = λ names. ap (λ o. neighbors_first names o (decided_in rs b)) sealed ∙ (sym (neighbors_seal names r) ∙ ap (neighbors_of names) it);
          }
      by false over None sealed (Some r) decided found = decided_by over r sealed decided (rules.has_neighbors (decided_as r)) refl found
      by false over None sealed None decided found = absurd cc

  pub pending_is : (s : KeptRow) → row_with x ≡ Some s → s.hidden ≡ false → pending_recorded rs b ≡ pending_kept s ∷ []
  pending_is s found seen = let it = view_of s found seen in ap (λ q. if q then pending_first rs (sealed_in rs b) (decided_in rs b) else []) it.shown ∙ it.pending

  pub neighbors_are : (names : List (List ℕ)) (s : KeptRow) → row_with x ≡ Some s → s.hidden ≡ false → (if is_shown rs b then neighbors_first names (sealed_in rs b) (decided_in rs b) else []) ≡ neighbors_of names s
  neighbors_are names s found seen = let it = view_of s found seen in ap (λ q. if q then neighbors_first names (sealed_in rs b) (decided_in rs b) else []) it.shown ∙ it.neighbors names

  -- A branch whose row the records show has a kept row, and that row is not hidden.
  pub record HasRow : Type 0 where
    pub row : KeptRow
    pub found : row_with x ≡ Some row
    pub seen : row.hidden ≡ false

  row_by : is_over rs b ≡ false → is_purged rs b ≡ false → (se : Option Sealed) → sealed_in rs b ≡ se → (de : Option Decided) → decided_in rs b ≡ de → (first_row se de ≡ None → ⊥) → HasRow
  row_by over purged se sealed de decided some = by (first_row se de) refl
    where
      by : (o : Option KeptRow) → first_row se de ≡ o → HasRow
      by None is = absurd (some is)
      by (Some y) is = record {
        row = dressed x y;
        found = ap (λ q. if q then None else option_map (dressed x) (first_row (sealed_in rs b) (decided_in rs b))) over
            ∙ (ap (λ o. option_map (dressed x) (first_row o (decided_in rs b))) sealed ∙ (ap (λ o. option_map (dressed x) (first_row se o)) decided ∙ ap (option_map (dressed x)) is));
        seen = purged;
      }

  shown_parts : is_shown rs b ≡ true → (is_over rs b ≡ false) × (is_purged rs b ≡ false)
  shown_parts is = by (is_over rs b) (is_purged rs b) is
    where
      by : (p q : Bool) → (not p && not q) ≡ true → (p ≡ false) × (q ≡ false)
      by true q is = absurd cc
      by false true is = absurd cc
      by false false is = (refl, refl)

  pub has_row : pending_recorded rs b ≢ [] → HasRow
  has_row some = by (is_shown rs b) refl
    where
      none_decided : (r : Decided) → (first_row None (Some r) ≡ None) → pending_first rs None (Some r) ≡ []
      none_decided r none = ap (λ q. if q then pending_decided r ∷ [] else []) (sym (neighbors_same r) ∙ by (rules.has_neighbors (decided_as r)) none)
        where
          by : (q : Bool) → (if q then Some (decided_as r) else None) ≡ None → q ≡ false
          by true is = absurd cc
          by false is = refl

      none_first : (se : Option Sealed) (de : Option Decided) → first_row se de ≡ None → pending_first rs se de ≡ []
      none_first (Some r) de none = absurd cc
      none_first None (Some r) none = none_decided r none
      none_first None None none = refl

      by : (q : Bool) → is_shown rs b ≡ q → HasRow
      by false is = absurd (some (ap (λ q. if q then pending_first rs (sealed_in rs b) (decided_in rs b) else []) is))
      by true is = (let parts = shown_parts is in row_by parts.0 parts.1 (sealed_in rs b) refl (decided_in rs b) refl
          (λ none. some (ap (λ q. if q then pending_first rs (sealed_in rs b) (decided_in rs b) else []) is ∙ none_first (sealed_in rs b) (decided_in rs b) none)))

  pub has_row_too : (names : List (List ℕ)) → (if is_shown rs b then neighbors_first names (sealed_in rs b) (decided_in rs b) else []) ≢ [] → HasRow
  has_row_too names some = by (is_shown rs b) refl
    where
      alone : (parent : Option BranchId) (me : BranchId) (cs : List Peer) → (is_some parent || is_some (slice_get (map kid_of cs) 0)) ≡ false → map (neighbor_in names me None) (option_to_list parent) ++ map (neighbor_out me None) cs ≡ []
      alone None me [] is = refl
      alone None me (c ∷ cs) is = absurd cc
      alone (Some p) me cs is = absurd cc

      not_kept : (r : Decided) (q : Bool) → rules.has_neighbors (decided_as r) ≡ q → (if q then Some (decided_as r) else None) ≡ None → neighbors_decided names r ≡ []
      not_kept r true has is = absurd cc
      not_kept r false has is = alone r.parent r.me r.children has

      none_first : (se : Option Sealed) (de : Option Decided) → first_row se de ≡ None → neighbors_first names se de ≡ []
      none_first (Some r) de none = absurd cc
      none_first None (Some r) none = not_kept r (rules.has_neighbors (decided_as r)) refl none
      none_first None None none = refl

      by : (q : Bool) → is_shown rs b ≡ q → HasRow
      by false is = absurd (some (ap (λ q. if q then neighbors_first names (sealed_in rs b) (decided_in rs b) else []) is))
      by true is = (let parts = shown_parts is in row_by parts.0 parts.1 (sealed_in rs b) refl (decided_in rs b) refl
          (λ none. some (ap (λ q. if q then neighbors_first names (sealed_in rs b) (decided_in rs b) else []) is ∙ none_first (sealed_in rs b) (decided_in rs b) none)))
