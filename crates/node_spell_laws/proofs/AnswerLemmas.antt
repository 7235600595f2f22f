-- What a statement is answered at the node of its table has bytes: its heads and arguments are names, numbers and ids.
use Rattle.std.proofs.Common.{◌≡◌, ℕ, ◌&&◌, ◌||◌, Bool, true, false, if◌then◌else◌, List, [], ◌∷◌, ◌++◌, map, zip, find, Option, Some, None, refl, arith}
use Rattle.std.specs.Prelude.{codes, length, nat_lt, is_none, is_some, unwrap_or, slice_set, option_map, IfSome, IsTrue, Result, Ok, Err}
use Rattle.std.specs.List.{AllByRecursion, flat_map}
use Rattle.std.proofs.lemmas.List.Elements.{recursion_from_All}
use Rattle.dtx_values.specs.Order.{is_null}
use Rattle.tran_ids.specs.declared.branch.BranchId.{BranchId}
use Rattle.tran_ids.specs.Numbers.{decimal}
use Rattle.tran_ids.specs.Texts.{local_text}
use Rattle.sql_statement.specs.Whole.{IsName, IsWholeTable}
use Rattle.sql_check.specs.Words.{same_text, one, first_some}
use Rattle.sql_check.specs.Columns.{is_named, column_of, place_of, named_columns, sum_columns, term_columns, cond_column}
use Rattle.sql_check.specs.Inserted.{cells_of, inserted_cells}
use Rattle.sql_check.specs.Refusals.{ora, dtx, else_refuse, refuse_if}
use Rattle.sql_check.specs.Checks.{column_refusal, text_length, cell_null, too_long, unknown_column, sets_key, miscounted, ill_cells, ill_inserted, checked}
use Rattle.sql_check.specs.Sums.{sum_value}
use Rattle.dtx_values.specs.declared.value.Value.{Value}
use Rattle.dtx_values.specs.declared.row.Row.{Row}
use Rattle.dtx_values.specs.declared.row.Change.{Change}
use Rattle.dtx_values.specs.declared.table.Column.{Column}
use Rattle.dtx_values.specs.declared.table.Table.{Table}
use Rattle.dtx_values.specs.declared.answer.Done.{Done}
use Rattle.dtx_values.specs.declared.answer.Done.TheVariants as dones
use Rattle.dtx_values.specs.declared.answer.Refusal.{Refusal}
use Rattle.sql_statement.specs.declared.condition.Cond.{Cond}
use Rattle.sql_statement.specs.declared.query.Picked.{Picked}
use Rattle.sql_statement.specs.declared.query.Picked.TheVariants as picks
use Rattle.sql_statement.specs.declared.statement.Set.{Set}
use Rattle.sql_statement.specs.declared.statement.Stmt.{Stmt}
use Rattle.sql_statement.specs.declared.statement.Stmt.TheVariants as stmts
use Rattle.sql_statement.specs.declared.sum.Sum.{Sum}
use Rattle.sql_statement.specs.declared.sum.Term.{Term}
use Rattle.sql_statement.specs.declared.sum.Term.TheVariants as terms
use Rattle.sql_eval.specs.declared.keyed.Keyed.{Keyed}
use Rattle.sql_eval.specs.declared.meant.Meant.{Meant}
use Rattle.sql_eval.specs.declared.meant.Meant.TheVariants as meants
use Rattle.sql_eval.specs.Meaning.{found, row_unless, set_cell, set_value, set_one, set_all, change_to, update, and_updated, updated, summed_set, picked, changing, inserting, meant_over}
use Rattle.stmt_run.specs.Run.{StmtContext, held_refusal, in_doubt_refusal, locked_refusal, needed_extents, space_refusal, ran_within, ran_meant, ran_locked, ran_checked, ran_over, answer_of_run, too_old_refusal}
use Rattle.node_rules.specs.Statement.{ground_of, ran}
use Rattle.sql_print.specs.Printing.{IsPrintable}
use Rattle.msg_codec.specs.Fits.{is_change}
use Rattle.node_spell_laws.specs.Bytes.{IsUtf8Text, IsTableName, AnswerHasBytes, AnswersHaveBytes}
use Rattle.node_spell_laws.proofs.TextLemmas.{AreAscii, ascii_utf8, ascii_joined, name_ascii, name_utf8, decimal_ascii, local_ascii}
use Rattle.node_spell_laws.proofs.TokenLemmas.{table_named}
use Rattle.node_spell_laws.proofs.NamedLemmas.{IsNamedTerm, IsNamedSum, IsNamedSet, IsNamedCond, IsNamedList, IsNamed, printable_named}
use Rattle.node_ready_laws.proofs.ListLemmas.{all_append, all_weaker, all_found}

-- texts of UTF-8
abbrev AreTexts : List (List ℕ) → Type 0
AreTexts texts = AllByRecursion IsUtf8Text texts

-- the arguments of a refusal are texts
abbrev HasTexts : Refusal → Type 0
HasTexts r = AreTexts r.args

-- so are those of one that may be there
abbrev MayHaveTexts : Option Refusal → Type 0
MayHaveTexts o = IfSome o HasTexts

table_text : (name : List ℕ) → IsTableName name → IsUtf8Text name
table_text name is = name_utf8 name (table_named name is)

table_texts : (names : List (List ℕ)) → AllByRecursion IsTableName names → AreTexts names
table_texts names all = all_weaker IsTableName IsUtf8Text table_text names all

decimal_text : (n : ℕ) → IsUtf8Text (decimal n)
decimal_text n = ascii_utf8 (decimal n) (decimal_ascii n)

-- ---- Refusals.

else_so : (a b : Option Refusal) → MayHaveTexts a → MayHaveTexts b → MayHaveTexts (else_refuse a b)
else_so (Some r) b first second = first
else_so None b first second = second

if_so : (b : Bool) (r : Refusal) → HasTexts r → MayHaveTexts (refuse_if b r)
if_so true r is = is
if_so false r is = tt

first_so : {A : Type 0} (f : A → Option Refusal) (xs : List A) → AllByRecursion (λ x. MayHaveTexts (f x)) xs → MayHaveTexts (first_some (map f xs))
first_so f [] all = tt
first_so f (x ∷ xs) all = by (f x) all.0 (first_so f xs all.1)
  where
    by : (o : Option Refusal) → MayHaveTexts o → MayHaveTexts (first_some (map f xs)) → MayHaveTexts (first_some (o ∷ map f xs))
    by (Some r) is later = is
    by None is later = later

held_so : (code : ℕ) (o : Option BranchId) → MayHaveTexts (held_refusal code o)
held_so code None = tt
held_so code (Some b) = (ascii_utf8 (local_text b) (local_ascii b), tt)

zip_so : (cs : List Column) (vs : List Value) → AllByRecursion (λ c. IsUtf8Text c.name) cs → AllByRecursion (λ p. IsUtf8Text p.0.name) (zip cs vs)
zip_so [] vs all = tt
zip_so (c ∷ cs) [] all = tt
zip_so (c ∷ cs) (v ∷ vs) all = (all.0, zip_so cs vs all.1)

-- ---- The columns that a statement names.

module _ {A : Type 0} (f : A → List (List ℕ)) (P : A → Type 0) (so : (x : A) → P x → AreTexts (f x)) where
  flat_so : (xs : List A) → AllByRecursion P xs → AreTexts (flat_map f xs)
  flat_so [] all = tt
  flat_so (x ∷ xs) all = all_append IsUtf8Text (f x) (flat_map f xs) (so x all.0) (flat_so xs all.1)

map_so : {A : Type 0} (f : A → List ℕ) (P : A → Type 0) → ((x : A) → P x → IsUtf8Text (f x)) → (xs : List A) → AllByRecursion P xs → AreTexts (map f xs)
map_so f P so [] all = tt
map_so f P so (x ∷ xs) all = (so x all.0, map_so f P so xs all.1)

term_texts : (x : Term) → IsNamedTerm x → AreTexts (term_columns x)
term_texts (terms.Column name) is = (table_text name is, tt)
term_texts (terms.Literal v) is = tt

sum_texts : (s : Sum) → IsNamedSum s → AreTexts (sum_columns s)
sum_texts s is = all_append IsUtf8Text (term_columns s.first) (flat_map (λ p. term_columns p.term) s.rest) (term_texts s.first is.0)
    (flat_so (λ p. term_columns p.term) (λ p. IsNamedTerm p.term) (λ p named. term_texts p.term named) s.rest is.1)

conds_texts : (cs : List Cond) → AllByRecursion IsNamedCond cs → AreTexts (map cond_column cs)
conds_texts cs all = map_so cond_column IsNamedCond (λ c named. table_text (cond_column c) named) cs all

columns_texts : (s : Stmt) → IsNamed s → AreTexts (named_columns s)
columns_texts (stmts.Insert table (Some columns) given) is = table_texts columns is.1
columns_texts (stmts.Insert table None given) is = tt
columns_texts (stmts.Update table sets cs) is = all_append IsUtf8Text (flat_map (λ s. s.column ∷ sum_columns s.to) sets) (map cond_column cs)
    (flat_so (λ s. s.column ∷ sum_columns s.to) IsNamedSet (λ s named. (table_text s.column named.0, sum_texts s.to named.1)) sets is.1) (conds_texts cs is.2)
columns_texts (stmts.Delete table cs) is = conds_texts cs is.1
columns_texts (stmts.Select list table cs for_update) is = all_append IsUtf8Text _ (map cond_column cs) (table_texts _ is.1) (conds_texts cs is.2)
columns_texts _ is = tt

module _ (t : Table) (whole : IsWholeTable t) where
  its_text : IsUtf8Text t.name
  its_text = name_utf8 t.name whole.named

  its_columns : AllByRecursion (λ c. IsUtf8Text c.name) t.columns
  its_columns = all_weaker (λ c. IsName c.name) (λ c. IsUtf8Text c.name) (λ c named. name_utf8 c.name named) t.columns (recursion_from_All (λ (c : Column). IsName c.name) t.columns whole.columns_named)

  -- ---- Before any row is seen.

  unknown_so : (names : List (List ℕ)) → AreTexts names → MayHaveTexts (option_map (λ name. ora 904 (one name)) (find (λ name. is_none (place_of t name)) names))
  unknown_so names all = by (find (λ name. is_none (place_of t name)) names) refl
    where
      by : (o : Option (List ℕ)) → find (λ name. is_none (place_of t name)) names ≡ o → MayHaveTexts (option_map (λ name. ora 904 (one name)) o)
      by None is = tt
      by (Some name) is = (all_found IsUtf8Text (λ n. is_none (place_of t n)) names name all is, tt)

  long_so : (c : Column) (v : Value) → IsUtf8Text c.name → MayHaveTexts (too_long t c v)
  long_so c v named = if_so (is_some c.text_max && nat_lt (unwrap_or c.text_max 0) (text_length v)) (ora 12899 (t.name ∷ c.name ∷ decimal (text_length v) ∷ decimal (unwrap_or c.text_max 0) ∷ []))
      (its_text, (named, (decimal_text (text_length v), (decimal_text (unwrap_or c.text_max 0), tt))))

  null_so : (p : Column × Value) → IsUtf8Text p.0.name → MayHaveTexts (cell_null t p)
  null_so p named = if_so ((p.0.key || p.0.not_null) && is_null p.1) (column_refusal 1400 t p.0) (its_text, (named, tt))

  cells_so : (vs : List Value) → MayHaveTexts (ill_cells t vs)
  cells_so vs =
      let each = zip_so t.columns vs its_columns in
      else_so (first_some (map (cell_null t) (zip t.columns vs))) (first_some (map (λ p. too_long t p.0 p.1) (zip t.columns vs)))
      (first_so (cell_null t) (zip t.columns vs) (all_weaker (λ p. IsUtf8Text p.0.name) (λ p. MayHaveTexts (cell_null t p)) (λ p named. null_so p named) (zip t.columns vs) each))
      (first_so (λ p. too_long t p.0 p.1) (zip t.columns vs) (all_weaker (λ p. IsUtf8Text p.0.name) (λ p. MayHaveTexts (too_long t p.0 p.1)) (λ p named. long_so p.0 p.1 named) (zip t.columns vs) each))

  inserted_so : (s : Stmt) → MayHaveTexts (ill_inserted s t)
  inserted_so (stmts.Insert table columns given) = else_so (refuse_if _ (dtx 9 [])) (ill_cells t (cells_of (inserted_cells t columns given))) (if_so _ (dtx 9 []) tt) (cells_so (cells_of (inserted_cells t columns given)))
  inserted_so _ = tt

  counted_so : (s : Stmt) → MayHaveTexts (miscounted s t)
  counted_so (stmts.Insert table columns given) = else_so (refuse_if _ (ora 947 [])) (refuse_if _ (ora 913 [])) (if_so _ (ora 947 []) tt) (if_so _ (ora 913 []) tt)
  counted_so _ = tt

  checked_so : (s : Stmt) → IsNamed s → MayHaveTexts (checked s t)
  unfolding checked
  checked_so s named =
      else_so (unknown_column s t) _ (unknown_so (named_columns s) (columns_texts s named))
      (else_so (refuse_if (sets_key s t) (dtx 15 [])) _ (if_so (sets_key s t) (dtx 15 []) tt)
      (else_so (miscounted s t) _ (counted_so s) (else_so (refuse_if _ (dtx 10 [])) (ill_inserted s t) (if_so _ (dtx 10 []) tt) (inserted_so s))))

  -- ---- What it means.

  -- a refusal has texts, where it is one
  abbrev ErrHasTexts : {A : Type 0} → Result A Refusal → Type 0
  ErrHasTexts (Ok a) = Unit {0}
  ErrHasTexts (Err r) = HasTexts r

  row_so : (o : Option Refusal) (row : Row) → MayHaveTexts o → ErrHasTexts (row_unless o row)
  row_so None row is = tt
  row_so (Some r) row is = is

  cell_so : (c : Column) (i : ℕ) (after : Row) (v : Value) → IsUtf8Text c.name → ErrHasTexts (set_cell t c i after v)
  cell_so c i after v named = by (is_null v && c.not_null) (row_so (too_long t c v) _ (long_so c v named))
    where
      by : (b : Bool) → ErrHasTexts (row_unless (too_long t c v) (record { cells = slice_set after.cells i v })) → ErrHasTexts (if b then Err (column_refusal 1407 t c) else row_unless (too_long t c v) (record { cells = slice_set after.cells i v }))
      by true later = (its_text, (named, tt))
      by false later = later

  value_so : (o : Option Column) (i : ℕ) (after : Row) (v : Option Value) → IfSome o (λ c. IsUtf8Text c.name) → ErrHasTexts (set_value t o i after v)
  value_so o i after None named = tt
  value_so None i after (Some v) named = tt
  value_so (Some c) i after (Some v) named = cell_so c i after v named

  column_so : (name : List ℕ) (o : Option Column) → find (is_named name) t.columns ≡ o → IfSome o (λ c. IsUtf8Text c.name)
  column_so name None is = tt
  column_so name (Some c) is = all_found (λ x. IsUtf8Text x.name) (is_named name) t.columns c its_columns is

  all_so : (before : Row) (r : Result Row Refusal) (ss : List Set) → ErrHasTexts r → ErrHasTexts (set_all t before r ss)
  all_so before (Err r) ss is = is
  all_so before (Ok after) [] is = tt
  all_so before (Ok after) (s ∷ ss) is = all_so before (set_one t before after s) ss (value_so (column_of t s.column) _ after (sum_value t before s.to) (column_so s.column (column_of t s.column) refl))

  change_so : (key : Value) (r : Result Row Refusal) → ErrHasTexts r → ErrHasTexts (change_to t key r)
  change_so key (Err r) is = is
  change_so key (Ok row) is = tt

  and_so : (c : Result Change Refusal) (cs : Result (List Change) Refusal) → ErrHasTexts c → ErrHasTexts cs → ErrHasTexts (and_updated c cs)
  and_so (Err r) cs first second = first
  and_so (Ok c) (Err r) first second = second
  and_so (Ok c) (Ok cs) first second = tt

  updated_so : (sets : List Set) (rows : List Keyed) → ErrHasTexts (updated t sets rows)
  updated_so sets [] = tt
  updated_so sets (r ∷ rs) = and_so (update t sets r) (updated t sets rs) (change_so r.key (set_all t r.row (Ok r.row) sets) (all_so r.row (Ok r.row) sets tt)) (updated_so sets rs)

  -- what the meaning has of texts
  abbrev MeansTexts : Meant → Type 0
  MeansTexts (meants.Refused r) = HasTexts r
  MeansTexts (meants.Gives rows) = AreTexts rows.heads
  MeansTexts (meants.Changes d n cs) = IsTrue (is_change d (length cs))

  changing_so : (d : Done) (r : Result (List Change) Refusal) → ((n : ℕ) → IsTrue (is_change d n)) → ErrHasTexts r → MeansTexts (changing d r)
  changing_so d (Err r) is texts = texts
  changing_so d (Ok cs) is texts = is (length cs)

  inserting_so : (cells : List Value) (o : Option Row) → MeansTexts (inserting t cells o)
  inserting_so cells (Some old) = (its_text, tt)
  inserting_so cells None = refl

  sum_so : (name : List ℕ) (o : Option Value) → IsTableName name → MeansTexts (summed_set name o)
  sum_so name None named = tt
  sum_so name (Some v) named =
      let opens : AreAscii (codes "SUM(") = (omega arith, (omega arith, (omega arith, (omega arith, tt)))) in
      let closes : AreAscii (codes ")") = (omega arith, tt) in
      (ascii_utf8 (codes "SUM(" ++ name ++ codes ")") (ascii_joined (codes "SUM(" ++ name) (codes ")") (ascii_joined (codes "SUM(") name opens (name_ascii name (table_named name named))) closes), tt)

  picked_so : (list : Picked) (rows : List Keyed) → IsNamedList list → MeansTexts (picked list t rows)
  picked_so picks.All rows named = map_so (λ c. c.name) (λ c. IsUtf8Text c.name) (λ c is. is) t.columns its_columns
  picked_so picks.Count rows named =
      let count : AreAscii (codes "COUNT(*)") = (omega arith, (omega arith, (omega arith, (omega arith, (omega arith, (omega arith, (omega arith, (omega arith, tt)))))))) in
      (ascii_utf8 (codes "COUNT(*)") count, tt)
  picked_so (picks.Sum name) rows named = sum_so name _ named.0
  picked_so (picks.Columns names) rows named = table_texts names named

  meant_so : (s : Stmt) (rows : List Keyed) → IsNamed s → MeansTexts (meant_over s t rows)
  unfolding meant_over
  meant_so (stmts.Insert table columns given) rows named = inserting_so (cells_of (inserted_cells t columns given)) _
  meant_so (stmts.Update table sets cs) rows named = changing_so dones.Updated (updated t sets (found (stmts.Update table sets cs) t rows)) (λ n. refl) (updated_so sets (found (stmts.Update table sets cs) t rows))
  meant_so (stmts.Delete table cs) rows named = refl
  meant_so (stmts.Select list table cs for_update) rows named = picked_so list (found (stmts.Select list table cs for_update) t rows) named.1
  meant_so _ rows named = tt

  -- ---- What it does.

  space_so : (g : StmtContext) (cs : List Change) → MayHaveTexts (space_refusal g cs)
  space_so g cs = else_so (refuse_if _ (dtx 16 [])) _ (if_so _ (dtx 16 []) tt) (if_so (nat_lt g.free (needed_extents g cs)) (ora 30036 (decimal (needed_extents g cs) ∷ decimal g.free ∷ [])) (decimal_text (needed_extents g cs), (decimal_text g.free, tt)))

  within_so : (g : StmtContext) (o : Option Refusal) (d : Done) (cs : List Change) (keys : List Value) → MayHaveTexts o → IsTrue (is_change d (length cs)) → AnswerHasBytes (answer_of_run (ran_within g o d cs keys))
  within_so g (Some r) d cs keys texts is = texts
  within_so g None d cs keys texts is = is

  means_so : (g : StmtContext) (keys : List Value) (m : Meant) → MeansTexts m → AnswerHasBytes (answer_of_run (ran_meant g keys m))
  means_so g keys (meants.Refused r) is = is
  means_so g keys (meants.Gives rows) is = is
  means_so g keys (meants.Changes d n cs) is = within_so g (space_refusal g cs) d cs keys (space_so g cs) is

  locked_so : (g : StmtContext) (s : Stmt) (o : Option Refusal) → IsNamed s → MayHaveTexts o → AnswerHasBytes (answer_of_run (ran_locked g s t o))
  locked_so g s (Some r) named is = is
  locked_so g s None named is = means_so g _ (meant_over s t g.view) (meant_so s g.view named)

  run_so : (g : StmtContext) (s : Stmt) (o : Option Refusal) → IsNamed s → MayHaveTexts o → AnswerHasBytes (answer_of_run (ran_checked g s t o))
  run_so g s (Some r) named is = is
  run_so g s None named is = locked_so g s (else_refuse (too_old_refusal g) (else_refuse (in_doubt_refusal g t _) (locked_refusal g t _))) named
      (else_so (too_old_refusal g) (else_refuse (in_doubt_refusal g t _) (locked_refusal g t _)) (if_so g.too_old (ora 1555 []) tt) (else_so (in_doubt_refusal g t _) (locked_refusal g t _) (held_so 1591 _) (held_so 2049 _)))

  -- a statement that runs over a whole table is answered in bytes
  pub answer_has_bytes : (g : StmtContext) (s : Stmt) → IsPrintable s → AnswerHasBytes (answer_of_run (ran_over g s t))
  unfolding ran_over
  answer_has_bytes g s is = run_so g s (checked s t) (printable_named s is) (checked_so s (printable_named s is))

-- where the rows of a node are of its tables
pub answers_have_bytes : AnswersHaveBytes
unfolding ran
answers_have_bytes p k b s t rows printable there =
    answer_has_bytes t (all_found IsWholeTable (λ x. same_text x.name t.name) k.stored.durable.tables t rows.whole there) (ground_of p k b t) s printable
