-- What a turn makes of the calls that came to branches below roots: whether a branch takes a call, answers it, answers it again, or hears the Reply
-- that it waits for.
use Rattle.std.proofs.Common.{◌≡◌, ◌≢◌, ℕ, ◌<◌, ◌≤◌, ◌&&◌, ◌||◌, Bool, true, false, List, [], ◌∷◌, Option, Some, None, refl, sym, ap, ◌∙◌}
use Rattle.std.specs.List.{AllByRecursion, list_any}
use Rattle.tran_ids.proofs.ListedLemmas.{item_is}
use Rattle.node_rules.specs.Data.{Table, Stmt, Answer, Advice, Task, BranchId, Kind, Edge, Live, Input, Msg, Post, ReplyFields, Calls}
use Rattle.node_rules.specs.declared.work.Errand.{Errand}
use Rattle.node_rules.specs.declared.work.Going.{Going}
use Rattle.node_rules.specs.declared.work.Work.{Work}
use Rattle.node_rules.specs.declared.session.Finished.{Finished}
use Rattle.node_rules.specs.Data.inputs
use Rattle.node_rules.specs.Data.kinds
use Rattle.node_rules.specs.Data.tasks
use Rattle.node_rules.specs.declared.work.Errand.TheVariants as errands
use Rattle.node_rules.specs.Words.{same, item_at}
use Rattle.node_rules.specs.Inputs.{Came}
use Rattle.link_session.specs.Calls.{taken}
use Rattle.node_rules.specs.NodeState.{NodeState, Branch, TurnDraft, live_id, work_id, post}
use Rattle.node_rules.specs.LiveBranches.{works_of, EachLive}
use Rattle.node_rules.specs.Names.{A_table, named_by, ref_of}
use Rattle.node_rules.proofs.Steps.{Is_answered}
use Rattle.run_rules.specs.Runs.{is_accepted}
use Rattle.run_rules.specs.Trail.{is_reply}
use Rattle.run_base_laws.proofs.KindSayLemmas.{AllSay}
use Rattle.answer_origin_laws.specs.ReplyLaws.{went_back}

-- an accepted answer to a parent
abbrev pub is_good_reply : Kind → Bool
is_good_reply (kinds.Reply call weight count a) = is_accepted (Some a)
is_good_reply _ = false

-- a branch says no Reply
abbrev pub NoReply : BranchId → List Post → Type 0
NoReply b says = list_any (λ x. same x.from b && is_reply x.kind) says ≡ false

-- no Reply
abbrev pub IsMute : Kind → Type 0
IsMute kind = is_reply kind ≡ false

pub mute_replies : (b : BranchId) (says : List Post) → AllSay IsMute says → NoReply b says
mute_replies b [] all = refl
mute_replies b (x ∷ xs) all = ap (λ q. (same x.from b && q) || list_any (λ y. same y.from b && is_reply y.kind) xs) all.0 ∙ by (same x.from b) (mute_replies b xs all.1)
  where
    by : (q : Bool) → NoReply b xs → ((q && false) || list_any (λ y. same y.from b && is_reply y.kind) xs) ≡ false
    by true rest = rest
    by false rest = rest

-- the Reply of another branch
pub other_reply : (b c to : BranchId) (kind : Kind) → same c b ≡ false → NoReply b (post c to kind)
other_reply b c to kind other = ap (λ q. (q && is_reply kind) || false) other

-- an errand is a statement, or to go back
abbrev pub IsOfStatement : Errand → Type 0
IsOfStatement (errands.Statement s given) = Unit {0}
IsOfStatement (errands.GoBack step) = ⊥

abbrev pub IsOfBack : Errand → Type 0
IsOfBack (errands.Statement s given) = ⊥
IsOfBack (errands.GoBack step) = Unit {0}

-- what a branch does about its calls, by what came
pub data Tale (k : NodeState) (input : Input) (says : List Post) (ended : List Finished) (b : BranchId) (c d : Calls) : Type 0 where
  Stays : d ≡ c → NoReply b says → ((from : BranchId) (call : ℕ) (task : Task) → Came input from b (kinds.Exec call task) → call ≤ c.last_call) → Tale k input says ended b c d
  Says_again : (from : BranchId) (call : ℕ) (task : Task) (t : ReplyFields) → Came input from b (kinds.Exec call task) → c.last_call ≡ call → c.reply ≡ Some t → d ≡ c
      → says ≡ post b from (kinds.Reply c.last_call t.weight t.count t.result) → Tale k input says ended b c d
  Takes : (from : BranchId) (call : ℕ) (task : Task) → Came input from b (kinds.Exec call task) → c.last_call < call → d ≡ taken call → NoReply b says → Tale k input says ended b c d
  Answers : (from parent : BranchId) (call given : ℕ) (advice : Option Advice) (s : Stmt) (t : ReplyFields) → Came input from b (kinds.Exec call (tasks.Run given advice s)) → c.last_call < call
      → d ≡ record { last_call = call; reply = Some t } → says ≡ post b parent (kinds.Reply call t.weight t.count t.result) → ended ≡ []
      → (is_accepted (Some t.result) ≡ true → (table : Table) × (named_by k.stored.durable (ref_of s) ≡ A_table table)) → Tale k input says ended b c d
  Goes_back : (from parent : BranchId) (call keep : ℕ) (t : ReplyFields) → Came input from b (kinds.Exec call (tasks.GoBack keep)) → c.last_call < call
      → d ≡ record { last_call = call; reply = Some t } → says ≡ post b parent (kinds.Reply call t.weight t.count t.result) → t.result ≡ went_back → Tale k input says ended b c d
  Hears : (x : Branch) (parent : BranchId) (weight : Option ℕ) (count : ℕ) (a : Answer) (i : ℕ) (e : Edge) (t : ReplyFields) → Is_answered k input x weight count a i e → x.live.me ≡ b → x.live.parent ≡ Some parent → t.result ≡ a
      → (is_accepted (Some a) ≡ true → (g : Going) × (x.work.going ≡ Some g) × IsOfStatement g.errand)
      → d ≡ record { last_call = c.last_call; reply = Some t } → says ≡ post b parent (kinds.Reply c.last_call t.weight t.count t.result) → Tale k input says ended b c d
  Is_back : (x : Branch) (parent : BranchId) (weight : Option ℕ) (count : ℕ) (a : Answer) (i : ℕ) (e : Edge) (g : Going) (t : ReplyFields) → Is_answered k input x weight count a i e → x.live.me ≡ b → x.live.parent ≡ Some parent
      → x.work.going ≡ Some g → IsOfBack g.errand → t.result ≡ went_back
      → d ≡ record { last_call = c.last_call; reply = Some t } → says ≡ post b parent (kinds.Reply c.last_call t.weight t.count t.result) → Tale k input says ended b c d

module _ (k : NodeState) (input : Input) where
  -- the calls of a branch before
  abbrev pub calls0 : BranchId → Calls
  calls0 b = (works_of k.works b).came

  -- a branch below a root does so
  abbrev pub Told : List Post → List Finished → Live → Work → Type 0
  Told says ended l w = l.parent ≢ None → Tale k input says ended l.me (calls0 l.me) w.came

  -- a Reply is told by the branch that a message came to, and an accepted answer by a live one below a root
  pub record IsGood (ls : List Live) (x : Post) : Type 0 where
    pub came : is_reply x.kind ≡ true → (from : BranchId) × (kind : Kind) × Came input from x.from kind
    pub live : is_good_reply x.kind ≡ true → (l : Live) × (item_at live_id ls x.from ≡ Some l) × (l.parent ≢ None)

  -- so is each of these
  abbrev pub AreGood : List Live → List Post → Type 0
  AreGood ls says = AllByRecursion (IsGood ls) says

  abbrev pub Tales : TurnDraft → Type 0
  Tales d = EachLive (Told d.says d.ended) d.after.lives d.after.works × AreGood d.after.lives d.says

-- messages without Replies
pub mute_good : (k : NodeState) (input : Input) (ls : List Live) (says : List Post) → AllSay IsMute says → AreGood k input ls says
mute_good k input ls [] all = tt
mute_good k input ls (x ∷ xs) all = (record { came = λ is. (let none : is_reply x.kind ≡ false = all.0 in absurd (cc (is, none))); live = λ good. absurd (by x.kind all.0 good) }, mute_good k input ls xs all.1)
  where
    by : (kind : Kind) → IsMute kind → is_good_reply kind ≡ true → ⊥
    by (kinds.Reply call weight count a) mute good = absurd cc
    by _ mute good = absurd cc

-- what came is one message
pub came_one : {m : Msg} {from to : BranchId} {kind : Kind} → Came (inputs.Message m) from to kind → (m.from ≡ from) × (m.to ≡ to) × (m.kind ≡ kind)
came_one {m = m} {from = from} {to = to} {kind = kind} came =
    let it : inputs.Message m ≡ inputs.Message (record { from = from; to = to; scn = came.scn; kind = kind }) = came.is in
    let one : m ≡ record { from = from; to = to; scn = came.scn; kind = kind } = cc in
    (ap (λ (y : Msg). y.from) one, ap (λ (y : Msg). y.to) one, ap (λ (y : Msg). y.kind) one)

-- each live branch has its calls
pub each_of : (k : NodeState) → ((b : BranchId) → item_at live_id k.lives b ≡ None → item_at work_id k.works b ≡ None) → EachLive (λ l w. w.came ≡ (works_of k.works l.me).came) k.lives k.works
each_of k there = record { there = there; each = λ b l found. ap (λ c. (works_of k.works c).came) (sym (item_is live_id k.lives b l found)) }
