-- Where live branches lead, as catalogs grow and statements are given.
use Rattle.std.proofs.Common.{◌≡◌, ℕ, ◌+◌, Bool, true, false, List, length, Option, Some, None, refl}
use Rattle.node_rules.specs.Data.{BranchId, Durable, Edge, Place, Post, Stmt}
use Rattle.node_rules.specs.declared.work.Errand.{Errand}
use Rattle.node_rules.specs.Data.kinds
use Rattle.node_rules.specs.declared.work.Errand.TheVariants as errands
use Rattle.node_rules.specs.declared.work.Going.{Going}
use Rattle.node_rules.specs.declared.work.Waits.{Waits}
use Rattle.node_rules.specs.declared.work.Waits.TheVariants as waiting
use Rattle.node_rules.specs.declared.work.Work.{Work}
use Rattle.node_rules.specs.Names.{ref_of, target_of}
use Rattle.run_rules.proofs.ListLemmas.{all_weaker}
use Rattle.answer_origin_laws.proofs.CatalogLemmas.{Extends}
use Rattle.answer_origin_laws.proofs.LineLemmas.{WaitsSo, ErrandSo, Line}

pub not_true : (q : Bool) → (q ≡ true → ⊥) → q ≡ false
not_true true never = absurd (never refl)
not_true false never = refl

-- What was known of the statement that a branch works on is known still.
pub record StillKnown (Given Given1 : BranchId → ℕ → Option Stmt → Type 0) (Called Called1 : BranchId → BranchId → ℕ → ℕ → Stmt → Stmt → Type 0) (me : BranchId) : Type 0 where
  pub given : (call : ℕ) (o : Option Stmt) → Given me call o → Given1 me call o
  pub called : (c : BranchId) (number call : ℕ) (s goes : Stmt) → Called me c number call s goes → Called1 me c number call s goes

-- what grows keeps what leads over a link
module _ (p : Place) (D E : Durable) (grows : Extends D E) (Given Given1 : BranchId → ℕ → Option Stmt → Type 0) (Called Called1 : BranchId → BranchId → ℕ → ℕ → Stmt → Stmt → Type 0) where
  abbrev Still : BranchId → Type 0
  Still me = StillKnown Given Given1 Called Called1 me

  waits_grow : (said : List Post) (me : BranchId) (es : List Edge) (w : Work) (s goes : Stmt) (waits : Waits) → Still me → WaitsSo p D Given Called said me es w s goes waits → WaitsSo p E Given1 Called1 said me es w s goes waits
  waits_grow said me es w s goes (waiting.ForReply i) still is = λ e at. (let was = is e at in (still.called e.peer _ w.came.last_call s goes was.0, was.1))
  waits_grow said me es w s goes (waiting.ForOpened link) still is = (
    is.0,
    grows.names (ref_of s) link is.0 is.1,
    is.2,
    all_weaker (λ (x : Post). x.from ≡ me → (edge : ℕ) (root : BranchId) (depth : ℕ) (read_at : Option ℕ) → x.kind ≡ kinds.Open edge root depth read_at → edge ≡ length es + 1 → target_of p D link ≡ Some x.to.node) _
        (λ x was from edge root depth read_at kind at. grows.leads p link x.to.node (was from edge root depth read_at kind at)) said is.3,
  )

  errand_grows : (said : List Post) (me : BranchId) (es : List Edge) (w : Work) (errand : Errand) (waits : Waits) → Still me → ErrandSo p D Given Called said me es w errand waits → ErrandSo p E Given1 Called1 said me es w errand waits
  errand_grows said me es w (errands.Statement goes given) waits still is = (is.0, still.given w.came.last_call (Some is.0) is.1, waits_grow said me es w is.0 goes waits still is.2)
  errand_grows said me es w (errands.GoBack step) (waiting.ForReply i) still is = (still.given w.came.last_call None is.0, is.1)
  errand_grows said me es w (errands.GoBack step) (waiting.ForOpened link) still is = absurd is.1

  -- so does a branch that waits, while what is known of its statement is known
  pub line_grows : (said : List Post) (Go Go1 : Type 0) → (Go1 → Go) → (me : BranchId) (es : List Edge) (w : Work) → ((g : Going) → w.going ≡ Some g → Still me) → Line p D Given Called said Go me es w → Line p E Given1 Called1 said Go1 me es w
  line_grows said Go Go1 goes me es w still is = record {
    leads = all_weaker (λ (e : Edge). target_of p D e.link ≡ Some e.peer.node) _ (λ e was. grows.leads p e.link e.peer.node was) es is.leads;
    opens = λ go. is.opens (goes go);
    waits = λ g going. errand_grows said me es w g.errand g.waits (still g going) (is.waits g going);
  }
