-- Messages are read back, and what is read is what the bytes spell.
use Rattle.std.proofs.Common.{◌≡◌, ℕ, suc, List, [], ◌∷◌, ◌++◌, Option, Some, None, option_and_then, refl, sym, ap, subst, ◌∙◌}
use Rattle.std.proofs.lemmas.List.{append-nil}
use Rattle.tran_ids.specs.declared.branch.BranchId.{BranchId}
use Rattle.sql_statement.specs.declared.statement.Stmt.{Stmt}
use Rattle.sql_print.specs.Printing.{printed}
use Rattle.sql_print.proofs.RoundTrip.{printed_again}
use Rattle.wire_msg.specs.declared.kind.Kind.{Kind}
use Rattle.wire_msg.specs.declared.kind.Kind.TheVariants as kinds
use Rattle.wire_msg.specs.declared.task.Task.TheVariants as tasks
use Rattle.wire_msg.specs.declared.msg.Msg.{Msg}
use Rattle.byte_format.specs.Format.{◌>>=◌, IsBytes, IsFront, IsExact, ReadsAgain}
use Rattle.byte_format.proofs.NumberLaws.{number64_exact}
use Rattle.byte_format.specs.Part.{pair_at}
use Rattle.byte_format.proofs.PartLaws.{pair_exact}
use Rattle.byte_format.proofs.Steps.{bind_some, some_is, IsBytes-rest}
use Rattle.field_codec.proofs.FieldLaws.{branch_exact}
use Rattle.msg_codec.specs.Kind.{kind_byte, kinds_as}
use Rattle.msg_codec.specs.Message.{head_format, body_as, message, msg_as, msg_format, HasSpelling, IsMessage, alone, message_of}
use Rattle.msg_codec.specs.Fits.{IsShort}
use Rattle.msg_codec.proofs.KindLaws.{pair_front, pair_again, kind_again, kind_takes, kinds_alike}

head_exact : IsExact head_format
head_exact = pair_exact _ _ branch_exact (pair_exact _ _ branch_exact number64_exact)

-- whichever text its statement is written as, a message is read alike
alike : (text_of other : Stmt → List ℕ) (bytes : List ℕ) → (msg_as text_of).read bytes ≡ (msg_as other).read bytes
alike text_of other [] = refl
alike text_of other (k ∷ rest) = ap (λ (read : List ℕ → Option (Kind × List ℕ)). pair_at head_format.read read rest >>= λ v. Some (message v.0, v.1)) (kinds_alike text_of other k)

-- ---- what is written is read

as_again : (text_of : Stmt → List ℕ) (m : Msg) → ReadsAgain (msg_as text_of) m
as_again text_of m rest fits =
    rw (pair_again head_format (kinds_as text_of (kind_byte m.kind)) head_exact ((m.from, (m.to, m.scn)), m.kind) (kind_again text_of m.kind) rest fits) refl

-- a message is read from its spelling with any text of its statement, whatever follows
pub msg_again : (text_of : Stmt → List ℕ) (m : Msg) (rest : List ℕ) → (msg_as text_of).Fits m → msg_format.read ((msg_as text_of).text m ++ rest) ≡ Some (m, rest)
unfolding msg_format
msg_again text_of m rest fits = alike printed text_of ((msg_as text_of).text m ++ rest) ∙ as_again text_of m rest fits

-- ---- what is read is spelled

body_takes : (k : ℕ) (bytes : List ℕ) (x : ((BranchId × (BranchId × ℕ)) × Kind) × List ℕ) → IsBytes bytes → (body_as (λ s. []) k).read bytes ≡ Some x
    → ((text : List ℕ) × IsFront (body_as (λ s. text) k) bytes x.0 x.1) × (kind_byte x.0.1 ≡ k)
body_takes k bytes x fits e =
    let u = bind_some (head_format.read bytes) (λ v. (kinds_as (λ s. []) k).read v.1 >>= λ w. Some ((v.0, w.0), w.1)) x e in
    let w = bind_some ((kinds_as (λ s. []) k).read u.0.1) (λ w. Some ((u.0.0, w.0), w.1)) x u.2 in
    let first = head_exact.takes bytes u.0 fits u.1 in
    let second = kind_takes k u.0.1 w.0 (IsBytes-rest bytes (head_format.text u.0.0) u.0.1 fits first.spelled) w.1 in
    subst (λ (y : ((BranchId × (BranchId × ℕ)) × Kind) × List ℕ). ((text : List ℕ) × IsFront (body_as (λ s. text) k) bytes y.0 y.1) × (kind_byte y.0.1 ≡ k)) (some_is ((u.0.0, w.0.0), w.0.1) x w.2)
    ((second.0.0, pair_front head_format (kinds_as (λ s. second.0.0) k) bytes u.0.1 w.0.1 u.0.0 w.0.0 first second.0.1), second.1)

-- with no text yet
none_takes : (bytes : List ℕ) (x : Msg × List ℕ) → IsBytes bytes → (msg_as (λ s. [])).read bytes ≡ Some x → (text : List ℕ) × IsFront (msg_as (λ s. text)) bytes x.0 x.1
none_takes [] x fits e = absurd cc
none_takes (k ∷ rest) x fits e =
    let u = bind_some ((body_as (λ s. []) k).read rest) (λ v. Some (message v.0, v.1)) x e in
    let t = body_takes k rest u.0 (λ i. fits (suc i)) u.1 in
    let front = t.0.1 in
    let fit : (body_as (λ s. t.0.0) (kind_byte u.0.0.1)).Fits u.0.0 = subst (λ (j : ℕ). (body_as (λ s. t.0.0) j).Fits u.0.0) (sym t.1) front.fits in
    let whole : k ∷ rest ≡ kind_byte u.0.0.1 ∷ ((body_as (λ s. t.0.0) (kind_byte u.0.0.1)).text u.0.0 ++ u.0.1) = subst (λ (j : ℕ). k ∷ rest ≡ j ∷ ((body_as (λ s. t.0.0) j).text u.0.0 ++ u.0.1)) (sym t.1) (ap (λ (r : List ℕ). k ∷ r) front.spelled) in
    subst (λ (y : Msg × List ℕ). (text : List ℕ) × IsFront (msg_as (λ s. text)) (k ∷ rest) y.0 y.1) (some_is (message u.0.0, u.0.1) x u.2)
    (t.0.0, record { fits = fit; spelled = whole })

-- a message that is read from the front is spelled there, with the text of its statement that is there
pub msg_takes : (bytes : List ℕ) (x : Msg × List ℕ) → IsBytes bytes → msg_format.read bytes ≡ Some x → (text : List ℕ) × IsFront (msg_as (λ s. text)) bytes x.0 x.1
unfolding msg_format
msg_takes bytes x fits e = none_takes bytes x fits (alike (λ s. []) printed bytes ∙ e)

-- ---- whole bytes

alone_is : {V : Type 0} (v w : V) (rest : List ℕ) → alone v rest ≡ Some w → (v ≡ w) × (rest ≡ [])
alone_is v w [] e = (some_is v w e, refl)
alone_is v w (b ∷ rest) e = absurd cc

-- bytes that spell a message are read as it
pub message_is_found : (bytes : List ℕ) (m : Msg) → IsMessage m bytes → message_of bytes ≡ Some m
message_is_found bytes m h =
    let text = h.0 in
    let read : msg_format.read bytes ≡ Some (m, []) = ap msg_format.read (h.1.spelled ∙ sym (append-nil ((msg_as (λ s. text)).text m))) ∙ msg_again (λ s. text) m [] h.1.fits in
    ap (λ (o : Option (Msg × List ℕ)). option_and_then (λ x. alone x.0 x.1) o) read

-- and spell each message that they are read as
pub message_is_spelled : (bytes : List ℕ) (m : Msg) → IsBytes bytes → message_of bytes ≡ Some m → IsMessage m bytes
message_is_spelled bytes m fits e =
    let u = bind_some (msg_format.read bytes) (λ x. alone x.0 x.1) m e in
    let t = msg_takes bytes u.0 fits u.1 in
    let k = alone_is u.0.0 m u.0.1 u.2 in
    let last : u.0.1 ≡ [] = k.1 in
    let whole : bytes ≡ (msg_as (λ s. t.0)).text u.0.0 = t.1.spelled ∙ ap (λ (r : List ℕ). (msg_as (λ s. t.0)).text u.0.0 ++ r) last ∙ append-nil ((msg_as (λ s. t.0)).text u.0.0) in
    subst (λ (v : Msg). IsMessage v bytes) k.0 (t.0, record { fits = t.1.fits; spelled = whole })

-- no bytes spell two messages
pub one_message : (bytes : List ℕ) (a b : Msg) → IsMessage a bytes → IsMessage b bytes → a ≡ b
one_message bytes a b p q = some_is a b (sym (message_is_found bytes a p) ∙ message_is_found bytes b q)

-- ---- what is written

-- the text that the statement of a message is printed as
printed_text : Kind → List ℕ
printed_text (kinds.Exec call (tasks.Run room advice s)) = printed s
printed_text _ = []

-- it is spelled alike with the text that is printed and with that text alone
written_kind : (k : Kind) → (kinds_as printed (kind_byte k)).Fits k → (kinds_as (λ s. printed_text k) (kind_byte k)).Fits k × ((kinds_as (λ s. printed_text k) (kind_byte k)).text k ≡ (kinds_as printed (kind_byte k)).text k)
unfolding printed_text
written_kind (kinds.Open edge root depth None) fits = (fits, refl)
written_kind (kinds.Open edge root depth (Some scn)) fits = (fits, refl)
written_kind (kinds.Exec call (tasks.Run room advice s)) fits = (fits, refl)
written_kind (kinds.Exec call (tasks.GoBack keep)) fits = (fits, refl)
written_kind _ fits = (fits, refl)

-- what is written of a message spells it
pub message_is_written : (m : Msg) → HasSpelling m → IsMessage m (msg_format.text m)
unfolding msg_format
message_is_written m fits =
    let w = written_kind m.kind fits.1 in (
      printed_text m.kind,
      record {
        fits = (fits.0, w.0);
        spelled = ap (λ (r : List ℕ). kind_byte m.kind ∷ (head_format.text (m.from, (m.to, m.scn)) ++ r)) (sym w.1);
      },
    )

-- and is read as it
pub message_again : (m : Msg) → HasSpelling m → message_of (msg_format.text m) ≡ Some m
message_again m fits = message_is_found (msg_format.text m) m (message_is_written m fits)

-- different messages are written differently
pub written_once : (a b : Msg) → HasSpelling a → HasSpelling b → msg_format.text a ≡ msg_format.text b → a ≡ b
written_once a b p q e = some_is a b (sym (message_again a p) ∙ ap message_of e ∙ message_again b q)

-- ---- what is read and sent on

-- what was read has a spelling with the printed text of its statement, if that is not too long
printed_kind : (text : List ℕ) (k : Kind) → (kinds_as (λ s. text) (kind_byte k)).Fits k → IsShort k → (kinds_as printed (kind_byte k)).Fits k
printed_kind text (kinds.Open edge root depth None) fits short = fits
printed_kind text (kinds.Open edge root depth (Some scn)) fits short = fits
printed_kind text (kinds.Exec call (tasks.GoBack keep)) fits short = fits
printed_kind text (kinds.Exec call (tasks.Run room advice s)) fits short = (fits.0, (short, printed_again text s fits.1.1))
printed_kind text _ fits short = fits

pub read_message_fits : (bytes : List ℕ) (m : Msg) → IsMessage m bytes → IsShort m.kind → HasSpelling m
unfolding msg_format
read_message_fits bytes m h short = (h.1.fits.0, printed_kind h.0 m.kind h.1.fits.1 short)
