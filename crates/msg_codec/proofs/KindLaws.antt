-- What the fields of a kind are read as. Each kind but Exec has one spelling: its format is exact. An Exec is read from each
-- text of its statement: what is read is spelled with the text that is there.
use Rattle.std.proofs.Common.{◌≡◌, ℕ, Bool, true, false, eqb, List, [], ◌++◌, Option, Some, None, refl, sym, ap, subst, ◌∙◌, append_assoc}
use Rattle.std.proofs.lemmas.Bool.Decides.{Decides-eqb}
use Rattle.dtx_values.specs.declared.advice.Advice.{Advice}
use Rattle.sql_statement.specs.declared.statement.Stmt.{Stmt}
use Rattle.sql_parse.specs.Statement.{IsStatement, statement_of}
use Rattle.sql_parse.proofs.ParseLaws.{found_is_spelled, spelled_is_found}
use Rattle.wire_msg.specs.declared.task.Task.TheVariants as tasks
use Rattle.wire_msg.specs.declared.kind.Kind.{Kind}
use Rattle.wire_msg.specs.declared.kind.Kind.TheVariants as kinds
use Rattle.byte_format.specs.Format.{Format, ◌>>=◌, IsBytes, IsFront, IsExact, ReadsAgain}
use Rattle.byte_format.specs.Number.{empty, number8, number32, number64}
use Rattle.byte_format.specs.Part.{pair, run}
use Rattle.byte_format.specs.Choice.{variant, either, IsChoice}
use Rattle.byte_format.proofs.NumberLaws.{empty_exact, number8_exact, number16_exact, number32_exact, number64_exact, flag_exact}
use Rattle.byte_format.proofs.PartLaws.{pair_exact, run_exact, optional_exact}
use Rattle.byte_format.proofs.ChoiceLaws.{kind_is, no_kind_is, reads_made}
use Rattle.byte_format.proofs.Steps.{bind_some, some_is, IsBytes-rest}
use Rattle.field_codec.proofs.FieldLaws.{branch_exact, comment_exact, advice_exact}
use Rattle.msg_codec.specs.Statement.{statement_at, statement_as}
use Rattle.msg_codec.specs.Kind.{kind_byte, open_format, open_at_format, back_format, open_at_of, back_of, opened_format, call_format, exec_as, reply_format, prepare_format, open_of, opened_of, exec_of, reply_of, prepare_of, committed_of, bare_of, kinds_but_exec, kinds_as}
use Rattle.msg_codec.proofs.AnswerLaws.{answer_exact}

-- ---- one and then the other, where the second has several spellings

-- the two fronts make one
pub pair_front : {A B : Type 0} (a : Format A) (b : Format B) (bytes middle rest : List ℕ) (v : A) (w : B) → IsFront a bytes v middle → IsFront b middle w rest → IsFront (pair a b) bytes (v, w) rest
pair_front a b bytes middle rest v w p q = record {
  fits = (p.fits, q.fits);
  spelled = p.spelled ∙ ap (λ (r : List ℕ). a.text v ++ r) q.spelled ∙ sym (append_assoc (a.text v) (b.text w) rest);
}

-- what is read again after what is exact
pub pair_again : {A B : Type 0} (a : Format A) (b : Format B) → IsExact a → (v : A × B) → ReadsAgain b v.1 → ReadsAgain (pair a b) v
pair_again a b p v q rest fits = rw (append_assoc (a.text v.0) (b.text v.1) rest, p.again v.0 (b.text v.1 ++ rest) fits.0, q rest fits.1) refl

-- ---- statements

long_exact : IsExact (run number32)
long_exact = run_exact number32 number32_exact

-- a statement is read again from the text that it was written as
pub statement_again : (text_of : Stmt → List ℕ) (s : Stmt) → ReadsAgain (statement_as text_of) s
statement_again text_of s rest fits = rw (long_exact.again (text_of s) rest fits.0, spelled_is_found (text_of s) s fits.1) refl

-- a statement that is read is spelled with the text that is there
statement_takes : (bytes : List ℕ) (x : Stmt × List ℕ) → IsBytes bytes → statement_at bytes ≡ Some x → (text : List ℕ) × IsFront (statement_as (λ s. text)) bytes x.0 x.1
statement_takes bytes x fits e =
    let t = bind_some ((run number32).read bytes) (λ t. statement_of t.0 >>= λ s. Some (s, t.1)) x e in
    let s = bind_some (statement_of t.0.0) (λ s. Some (s, t.0.1)) x t.2 in
    let front = long_exact.takes bytes t.0 fits t.1 in
    let spelled : IsStatement s.0 t.0.0 = found_is_spelled t.0.0 s.0 s.1 in
    subst (λ (y : Stmt × List ℕ). (text : List ℕ) × IsFront (statement_as (λ s. text)) bytes y.0 y.1) (some_is (s.0, t.0.1) x s.2)
    (t.0.0, record { fits = (front.fits, spelled); spelled = front.spelled })

-- ---- fields

open_exact : IsExact open_format
open_exact = pair_exact _ _ number8_exact (pair_exact _ _ branch_exact number8_exact)

open_at_exact : IsExact open_at_format
open_at_exact = pair_exact _ _ number8_exact (pair_exact _ _ branch_exact (pair_exact _ _ number8_exact number64_exact))

back_exact : IsExact back_format
back_exact = pair_exact _ _ number32_exact number32_exact

opened_exact : IsExact opened_format
opened_exact = pair_exact _ _ number8_exact number8_exact

call_exact : IsExact call_format
call_exact = pair_exact _ _ number32_exact (pair_exact _ _ number16_exact advice_exact)

reply_exact : IsExact reply_format
reply_exact = pair_exact _ _ number32_exact (pair_exact _ _ (optional_exact number8 number8_exact) (pair_exact _ _ number16_exact answer_exact))

prepare_exact : IsExact prepare_format
prepare_exact = pair_exact _ _ flag_exact comment_exact

-- ---- the kinds but Exec

bare_is : (n : ℕ) (bare : Kind) (others : ℕ → Format Kind) → bare_of bare bare ≡ Some tt → kind_byte bare ≡ n → IsChoice kind_byte others → IsChoice kind_byte (λ k. either (eqb k n) (variant (λ u. bare) (bare_of bare) empty) (others k))
bare_is n bare others back named rest = kind_is (λ u. bare) (bare_of bare) empty empty_exact (λ u. back) n kind_byte others (λ u. named) rest

others_choice : IsChoice kind_byte kinds_but_exec
others_choice =
    kind_is (λ x. kinds.Open x.0 x.1.0 x.1.1 None) open_of open_format open_exact (λ x. refl) 1 kind_byte _ (λ x. refl)
    (kind_is (λ x. kinds.Opened x.0 x.1) opened_of opened_format opened_exact (λ x. refl) 2 kind_byte _ (λ x. refl)
    (kind_is (λ x. kinds.Reply x.0 x.1.0 x.1.1.0 x.1.1.1) reply_of reply_format reply_exact (λ x. refl) 4 kind_byte _ (λ x. refl)
    (kind_is (λ x. kinds.Prepare x.0 x.1) prepare_of prepare_format prepare_exact (λ x. refl) 5 kind_byte _ (λ x. refl)
    (bare_is 6 kinds.Prepared _ refl refl
    (bare_is 7 kinds.ReadOnly _ refl refl
    (bare_is 8 kinds.Ready _ refl refl
    (bare_is 9 kinds.Abort _ refl refl
    (bare_is 10 kinds.CommitPoint _ refl refl
    (kind_is kinds.Committed committed_of number64 number64_exact (λ x. refl) 11 kind_byte _ (λ x. refl)
    (bare_is 12 kinds.RolledBack _ refl refl
    (bare_is 13 kinds.InDoubt _ refl refl
    (bare_is 14 kinds.Ack _ refl refl
    (bare_is 15 kinds.Forgotten _ refl refl
    (bare_is 16 kinds.Rollback _ refl refl
    (bare_is 17 kinds.Ask _ refl refl
    (kind_is (λ x. kinds.Open x.0 x.1.0 x.1.1.0 (Some x.1.1.1)) open_at_of open_at_format open_at_exact (λ x. refl) 18 kind_byte _ (λ x. refl)
    (kind_is (λ x. kinds.Exec x.0 (tasks.GoBack x.1)) back_of back_format back_exact (λ x. refl) 19 kind_byte _ (λ x. refl)
    (no_kind_is kind_byte))))))))))))))))))

-- ---- Exec

exec_again : (text_of : Stmt → List ℕ) (x : (ℕ × (ℕ × Option Advice)) × Stmt) → ReadsAgain (exec_as text_of) x
exec_again text_of x = pair_again call_format (statement_as text_of) call_exact x (statement_again text_of x.1)

exec_kind_again : (text_of : Stmt → List ℕ) (x : (ℕ × (ℕ × Option Advice)) × Stmt) → ReadsAgain (kinds_as text_of 3) (kinds.Exec x.0.0 (tasks.Run x.0.1.0 x.0.1.1 x.1))
exec_kind_again text_of x rest fits = rw (exec_again text_of x rest fits) refl

exec_takes : (bytes : List ℕ) (x : ((ℕ × (ℕ × Option Advice)) × Stmt) × List ℕ) → IsBytes bytes → (exec_as (λ s. [])).read bytes ≡ Some x → (text : List ℕ) × IsFront (exec_as (λ s. text)) bytes x.0 x.1
exec_takes bytes x fits e =
    let u = bind_some (call_format.read bytes) (λ v. statement_at v.1 >>= λ w. Some ((v.0, w.0), w.1)) x e in
    let w = bind_some (statement_at u.0.1) (λ w. Some ((u.0.0, w.0), w.1)) x u.2 in
    let first = call_exact.takes bytes u.0 fits u.1 in
    let second = statement_takes u.0.1 w.0 (IsBytes-rest bytes (call_format.text u.0.0) u.0.1 fits first.spelled) w.1 in
    subst (λ (y : ((ℕ × (ℕ × Option Advice)) × Stmt) × List ℕ). (text : List ℕ) × IsFront (exec_as (λ s. text)) bytes y.0 y.1) (some_is ((u.0.0, w.0.0), w.0.1) x w.2)
    (second.0, pair_front call_format (statement_as (λ s. second.0)) bytes u.0.1 w.0.1 u.0.0 w.0.0 first second.1)

-- ---- all kinds

-- what a kind says is read again, whichever text its statement was written as
pub kind_again : (text_of : Stmt → List ℕ) (v : Kind) → ReadsAgain (kinds_as text_of (kind_byte v)) v
kind_again text_of (kinds.Open edge root depth None) = reads_made (λ x. kinds.Open x.0 x.1.0 x.1.1 None) open_of open_format open_exact (λ x. refl) (edge, (root, depth))
kind_again text_of (kinds.Open edge root depth (Some scn)) = reads_made (λ x. kinds.Open x.0 x.1.0 x.1.1.0 (Some x.1.1.1)) open_at_of open_at_format open_at_exact (λ x. refl) (edge, (root, (depth, scn)))
kind_again text_of (kinds.Opened edge strength) = reads_made (λ x. kinds.Opened x.0 x.1) opened_of opened_format opened_exact (λ x. refl) (edge, strength)
kind_again text_of (kinds.Exec call (tasks.Run room advice s)) = exec_kind_again text_of ((call, (room, advice)), s)
kind_again text_of (kinds.Exec call (tasks.GoBack keep)) = reads_made (λ x. kinds.Exec x.0 (tasks.GoBack x.1)) back_of back_format back_exact (λ x. refl) (call, keep)
kind_again text_of (kinds.Reply call weight count result) = reads_made (λ x. kinds.Reply x.0 x.1.0 x.1.1.0 x.1.1.1) reply_of reply_format reply_exact (λ x. refl) (call, (weight, (count, result)))
kind_again text_of (kinds.Prepare site_below comment) = reads_made (λ x. kinds.Prepare x.0 x.1) prepare_of prepare_format prepare_exact (λ x. refl) (site_below, comment)
kind_again text_of (kinds.Committed scn) = reads_made kinds.Committed committed_of number64 number64_exact (λ x. refl) scn
kind_again text_of _ = λ rest fits. refl

-- what was read of this kind is spelled with some text, and is of that kind
abbrev pub KindFront : ℕ → List ℕ → Kind × List ℕ → Type 0
KindFront k bytes x = ((text : List ℕ) × IsFront (kinds_as (λ s. text) k) bytes x.0 x.1) × (kind_byte x.0 ≡ k)

-- Exec beside the other kinds
abbrev exec_in : (Stmt → List ℕ) → Format Kind
exec_in text_of = variant (λ x. kinds.Exec x.0.0 (tasks.Run x.0.1.0 x.0.1.1 x.1)) exec_of (exec_as text_of)

-- with this text of its statement
abbrev exec_with : List ℕ → Format Kind
exec_with text = exec_in (λ s. text)

exec_kind_takes : (bytes : List ℕ) (x : Kind × List ℕ) → IsBytes bytes → (exec_with []).read bytes ≡ Some x → ((text : List ℕ) × IsFront (exec_with text) bytes x.0 x.1) × (kind_byte x.0 ≡ 3)
exec_kind_takes bytes x fits e =
    let u = bind_some ((exec_as (λ s. [])).read bytes) (λ a. Some (kinds.Exec a.0.0.0 (tasks.Run a.0.0.1.0 a.0.0.1.1 a.0.1), a.1)) x e in
    let t = exec_takes bytes u.0 fits u.1 in
    subst (λ (y : Kind × List ℕ). ((text : List ℕ) × IsFront (exec_with text) bytes y.0 y.1) × (kind_byte y.0 ≡ 3)) (some_is (kinds.Exec u.0.0.0.0 (tasks.Run u.0.0.0.1.0 u.0.0.0.1.1 u.0.0.1), u.0.1) x u.2)
    ((t.0, record { fits = t.1.fits; spelled = t.1.spelled }), refl)

either_takes : (b : Bool) (k : ℕ) → (b ≡ true → k ≡ 3) → (bytes : List ℕ) (x : Kind × List ℕ) → IsBytes bytes → (either b (exec_with []) (kinds_but_exec k)).read bytes ≡ Some x
    → ((text : List ℕ) × IsFront (either b (exec_with text) (kinds_but_exec k)) bytes x.0 x.1) × (kind_byte x.0 ≡ k)
either_takes true k same bytes x fits e =
    let t = exec_kind_takes bytes x fits e in
    (t.0, t.1 ∙ sym (same refl))
either_takes false k same bytes x fits e =
    let t = others_choice.taken k bytes x fits e in
    (([], t.0), t.1)

pub kind_takes : (k : ℕ) (bytes : List ℕ) (x : Kind × List ℕ) → IsBytes bytes → (kinds_as (λ s. []) k).read bytes ≡ Some x → KindFront k bytes x
kind_takes k = either_takes (eqb k 3) k (Decides-eqb k 3).0

-- whichever text it is written as, a kind is read alike

either_alike : (b : Bool) (text_of other : Stmt → List ℕ) (others : Format Kind) → (either b (exec_in text_of) others).read ≡ (either b (exec_in other) others).read
either_alike true text_of other others = refl
either_alike false text_of other others = refl

pub kinds_alike : (text_of other : Stmt → List ℕ) (k : ℕ) → (kinds_as text_of k).read ≡ (kinds_as other k).read
kinds_alike text_of other k = either_alike (eqb k 3) text_of other (kinds_but_exec k)
