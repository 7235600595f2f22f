-- The row at one key, before and behind the commits that a node keeps: without them it is the one from before the first, and
-- with those up to an SCN it is the one that all commits up to the SCN leave.
use Rattle.std.proofs.Common.{◌≡◌, ℕ, ◌≤◌, Bool, true, false, if◌then◌else◌, List, [], ◌∷◌, ◌++◌, filter, map, fold, max, length, Option, None, refl, sym, ap, subst, ◌∙◌, append-nil, arith}
use Rattle.std.specs.Prelude.{nat_le, nat_lt}
use Rattle.std.specs.Cmp.Lexicographic.{bytes_decides}
use Rattle.std.proofs.lemmas.Bool.{and_parts}
use Rattle.std.proofs.lemmas.Bool.Decides.{nat_tests}
use Rattle.std.proofs.lemmas.List.Elements.{filter-append}
use Rattle.dtx_values.specs.Limits.{version_limit}
use Rattle.dtx_values.proofs.ValueOrder.{equal_from_same}
use Rattle.row_store.specs.Own.{before}
use Rattle.node_rules.specs.Data.{Value, Row, Change}
use Rattle.node_rules.specs.Rows.{TableRows, same_value, get, rows_of_table, is_change_of}
use Rattle.node_rules.specs.Words.{same_text}
use Rattle.read_only_tx.specs.Versions.{Version, Versions, version_over, newest, with_commit}
use Rattle.book_laws.proofs.KeyChangeLemmas.{last_row}

-- a choice between a list and the same
pub either_way : {A : Type 0} (q : Bool) (xs : List A) → (if q then xs else xs) ≡ xs
either_way true xs = refl
either_way false xs = refl

last_more : (row : Option Row) (xs ys : List Change) → last_row row (xs ++ ys) ≡ last_row (last_row row xs) ys
last_more row [] ys = refl
last_more row (x ∷ xs) ys = last_more x.after xs ys

module _ (scn : ℕ) (table : List ℕ) (key : Value) where
  -- the row that changes leave at the key, where this one was there
  abbrev pub left : Option Row → List Change → Option Row
  left row cs = last_row row (filter (is_change_of table key) cs)

  pub left_more : (row : Option Row) (cs ds : List Change) → left row (cs ++ ds) ≡ left (left row cs) ds
  left_more row cs ds = ap (last_row row) (filter-append (is_change_of table key) cs ds) ∙ last_more row (filter (is_change_of table key) cs) (filter (is_change_of table key) ds)

  -- ---- the rows from before a commit

  module _ (rows : List TableRows) where
    -- the row at the key
    abbrev now : Option Row
    now = get (rows_of_table rows table) key

    -- the changes with the rows from before them
    abbrev undo : List Change → List Change
    undo cs = map (λ c. before (rows_of_table rows c.table) c) cs

    row_before : (c : Change) → is_change_of table key c ≡ true → get (rows_of_table rows c.table) c.key ≡ now
    row_before c is =
        let parts = and_parts (same_text c.table table) (same_value c.key key) is in
        ap (λ name. get (rows_of_table rows name) c.key) ((bytes_decides c.table table).0 parts.0) ∙ ap (get (rows_of_table rows table)) (equal_from_same c.key key parts.1)

    undone_now : (cs : List Change) → left now (undo cs) ≡ now
    undone_now [] = refl
    undone_now (c ∷ cs) = by (is_change_of table key c) refl (undone_now cs)
      where
        by : (q : Bool) → is_change_of table key c ≡ q → left now (undo cs) ≡ now
            → last_row now (if q then before (rows_of_table rows c.table) c ∷ filter (is_change_of table key) (undo cs) else filter (is_change_of table key) (undo cs)) ≡ now
        by true is rest = ap (λ row. left row (undo cs)) (row_before c is) ∙ rest
        by false is rest = rest

    -- behind the commit they bring the row from before it
    undone : (row : Option Row) (cs : List Change) → row ≡ now → left (left row cs) (undo cs) ≡ now
    undone row [] is = is
    undone row (c ∷ cs) is = by (is_change_of table key c) refl (undone row cs is)
      where
        by : (q : Bool) → is_change_of table key c ≡ q → left (left row cs) (undo cs) ≡ now
            → last_row (last_row row (if q then c ∷ filter (is_change_of table key) cs else filter (is_change_of table key) cs))
            (if q then before (rows_of_table rows c.table) c ∷ filter (is_change_of table key) (undo cs) else filter (is_change_of table key) (undo cs)) ≡ now
        by true at rest = ap (λ r. left r (undo cs)) (row_before c at) ∙ undone_now cs
        by false at rest = rest

  -- ---- the commits that are kept

  -- from a row to another, and each brings back the row from before it
  abbrev pub Chain : Option Row → List Version → Option Row → Type 0
  Chain row [] new = row ≡ new
  Chain row (v ∷ vs) new = (left (left row v.changes) v.before ≡ row) × Chain (left row v.changes) vs new

  -- with a commit, where its SCN is not above
  abbrev pub redo : Option Row → Version → Option Row
  redo row v = if nat_le v.scn scn then left row v.changes else row

  chain_more : (row new : Option Row) (vs : List Version) (v : Version) → Chain row vs new → left (left new v.changes) v.before ≡ new → Chain row (vs ++ v ∷ []) (left new v.changes)
  chain_more row new [] v is undoes = (subst (λ r. left (left r v.changes) v.before ≡ r) (sym is) undoes, ap (λ r. left r v.changes) is)
  chain_more row new (x ∷ vs) v is undoes = (is.0, chain_more (left row x.changes) new vs v is.1 undoes)

  redo_more : (row : Option Row) (vs : List Version) (v : Version) → fold redo row (vs ++ v ∷ []) ≡ redo (fold redo row vs) v
  redo_more row [] v = refl
  redo_more row (x ∷ vs) v = redo_more (redo row x) vs v

  -- The commits that are kept, of all those that left this row at the key, where these are the changes of those up to the SCN.
  pub record InStep (until : List Change) (new : Option Row) (vs : Versions) : Type 0 where
    pub row : Option Row
    pub chain : Chain row vs.kept new
    pub sees : vs.floor ≤ scn → fold redo row vs.kept ≡ left None until

  newest_in_step : (until : List Change) (new row : Option Row) (vs : List Version) (floor : ℕ) → Chain row vs new → (floor ≤ scn → fold redo row vs ≡ left None until) → InStep until new (newest vs floor)
  newest_in_step until new row [] floor chain sees = record { row = row; chain = chain; sees = sees }
  newest_in_step until new row (v ∷ vs) floor chain sees = by (nat_lt version_limit (length (v ∷ vs))) (newest_in_step until new (left row v.changes) vs (max floor v.scn) chain.1 later)
    where
      later : max floor v.scn ≤ scn → fold redo (left row v.changes) vs ≡ left None until
      later low =
          let old : nat_le v.scn scn ≡ true = grind (arith, nat_tests, low) in
          ap (λ q. fold redo (if q then left row v.changes else row) vs) (sym old) ∙ sees (omega (arith, low))

      by : (q : Bool) → InStep until new (newest vs (max floor v.scn)) → InStep until new (if q then newest vs (max floor v.scn) else record { kept = v ∷ vs; floor = floor })
      by true rest = rest
      by false rest = record { row = row; chain = chain; sees = sees }

  -- with one commit more, over these rows
  pub in_step_with : (rows : List TableRows) (until : List Change) (vs : Versions) (n : ℕ) (cs : List Change) → InStep until (get (rows_of_table rows table) key) vs
      → InStep (until ++ (if nat_le n scn then cs else [])) (left (get (rows_of_table rows table) key) cs) (with_commit rows vs n cs)
  in_step_with rows until vs n [] step = subst (λ cs. InStep cs (get (rows_of_table rows table) key) vs) (sym (ap (λ cs. until ++ cs) (either_way (nat_le n scn) []) ∙ append-nil until)) step
  in_step_with rows until vs n (c ∷ cs) step =
      let v : Version = version_over rows n (c ∷ cs) in
      newest_in_step (until ++ (if nat_le n scn then c ∷ cs else [])) (left (get (rows_of_table rows table) key) (c ∷ cs)) step.row (vs.kept ++ v ∷ []) vs.floor
      (chain_more step.row (get (rows_of_table rows table) key) vs.kept v step.chain (undone rows (get (rows_of_table rows table) key) (c ∷ cs) refl))
      (λ low. redo_more step.row vs.kept v ∙ (ap (λ r. if nat_le n scn then left r (c ∷ cs) else r) (step.sees low) ∙ sees (nat_le n scn)))
    where
      sees : (q : Bool) → (if q then left (left None until) (c ∷ cs) else left None until) ≡ left None (until ++ (if q then c ∷ cs else []))
      sees true = sym (left_more None until (c ∷ cs))
      sees false = ap (left None) (sym (append-nil until))
