-- Each step of a turn keeps the shape of live branches, and so does each turn.
use Rattle.std.proofs.Common.{◌≡◌, ℕ, zero, suc, ◌+◌, ◌≤◌, Bool, true, false, if◌then◌else◌, List, [], ◌∷◌, length, map, slice_set, Option, Some, None, refl, sym, ap, subst, ◌∙◌, arith}
use Rattle.std.specs.Prelude.{nat_le}
use Rattle.std.specs.List.{AllByRecursion}
use Rattle.std.proofs.lemmas.Bool.{cond_both}
use Rattle.std.proofs.lemmas.Bool.Decides.{nat_tests}
use Rattle.std.proofs.lemmas.List.{length-append, length-map}
use Rattle.tran_ids.proofs.ListedLemmas.{item_is}
use Rattle.tran_ids.proofs.NumberedLemmas.{set_length}
use Rattle.node_rules.specs.Data.{Table, Synonym, TableRef, Stmt, Answer, BranchId, Durable, Edge, Vote, Live, Act, Place, Input}
use Rattle.node_rules.specs.declared.work.Errand.{Errand}
use Rattle.node_rules.specs.Data.kinds
use Rattle.node_rules.specs.Data.inputs
use Rattle.node_rules.specs.Data.acts
use Rattle.node_rules.specs.declared.work.Waits.{Waits}
use Rattle.node_rules.specs.declared.work.Waits.TheVariants as waiting
use Rattle.node_rules.specs.declared.work.Going.{Going}
use Rattle.commit_forget.specs.declared.next.Next.TheVariants as nexts
use Rattle.session_tree.specs.Live.{new_edge, edge_by_link}
use Rattle.node_rules.specs.Refusals.{ora, dtx}
use Rattle.node_rules.specs.Words.{set_numbered}
use Rattle.node_rules.specs.Names.{Through, Nowhere_to, synonym_named, table_named, table_of, ref_named, ref_of, target_of, way_edge, way_target, way_named, way_of, passed_on}
use Rattle.node_rules.specs.NodeState.{NodeState, TurnDraft, Branch, live_id, branch_at, with_branch, with_live, without_branch}
use Rattle.node_rules.specs.LiveBranches.{works_of, EachLive}
use Rattle.node_rules.specs.Statement.{ran}
use Rattle.node_rules.specs.Calls.{with_answer, called, with_edge, hears_reply, next_call, branch_ran, less_room}
use Rattle.node_rules.specs.Prepare.{with_prepare_sent, has_voted, ready}
use Rattle.node_rules.specs.Client.{gives_up, marked}
use Rattle.node_rules.specs.Turn.{heard, turn_of}
use Rattle.node_rules.specs.Inputs.{Came}
use Rattle.node_rules.proofs.Steps as steps
use Rattle.node_rules.proofs.Steps.{Step, Asked, Acting, Goes_to, Calls_back, Is_answered}
use Rattle.node_rules.proofs.StepLemmas.{acting_so}
use Rattle.node_rules.proofs.LiveLemmas.{each_put, each_changed, each_left, each_begun, branch_parts, work_is}
use Rattle.node_rules.proofs.TurnLemmas.{step_of}
use Rattle.node_rules.specs.declared.work.Errand.TheVariants as errands
use Rattle.node_ready_laws.specs.Shapes.{count_limit, HasRoomFor, LinksAllow, IsShaped, HasShape, BringsFew, ShapesStay}
use Rattle.node_ready_laws.proofs.ListLemmas.{all_append}
use Rattle.node_rules.proofs.WayLemmas.{way_by_name}

-- ---- a link that is used for the first time

module _ (p : Place) (d : Durable) (l : Live) (given : ℕ) (node : ℕ) (link table : List ℕ) where
  new_fits : (n : ℕ) (to name : List ℕ) (deep many : Bool) → nat_le p.links (length l.edges) ≡ many
      → (if deep then Nowhere_to (dtx 2 []) else (if many then Nowhere_to (ora 2020 []) else Through n to name)) ≡ Through node link table → length l.edges + 1 ≤ p.links
  new_fits n to name true many few is = absurd cc
  new_fits n to name false true few is = absurd cc
  new_fits n to name false false few is = grind (arith, nat_tests)

  edge_fits : (n : ℕ) (to name : List ℕ) (o : Option ℕ) → way_edge p l given n to name o ≡ Through node link table → length l.edges + 1 ≤ p.links
  edge_fits n to name (Some i) is = absurd cc
  edge_fits n to name None is = new_fits n to name _ _ refl is

  target_fits : (to name : List ℕ) (o : Option ℕ) → way_target p l given to name o ≡ Through node link table → length l.edges + 1 ≤ p.links
  target_fits to name None is = absurd cc
  target_fits to name (Some n) is = edge_fits n to name (edge_by_link l to) is

  synonym_fits : (o : Option Synonym) → way_named p d l given (synonym_named o) ≡ Through node link table → length l.edges + 1 ≤ p.links
  synonym_fits None is = absurd cc
  synonym_fits (Some y) is = target_fits y.link y.table (target_of p d y.link) is

  bare_fits : (name : List ℕ) (o : Option Table) → way_named p d l given (table_named d name o) ≡ Through node link table → length l.edges + 1 ≤ p.links
  bare_fits name (Some u) is = absurd cc
  bare_fits name None is = synonym_fits _ is

  ref_fits : (ref : TableRef) (o : Option (List ℕ)) → way_named p d l given (ref_named d ref o) ≡ Through node link table → length l.edges + 1 ≤ p.links
  ref_fits ref (Some to) is = target_fits to ref.name (target_of p d to) is
  ref_fits ref None is = bare_fits ref.name (table_of d ref.name) is

  way_fits : (s : Stmt) → way_of p d l given s ≡ Through node link table → length l.edges + 1 ≤ p.links
  way_fits s is = ref_fits (ref_of s) (ref_of s).link (way_by_name p d l given s (Through node link table) tt is)

-- ---- shapes

abbrev FewIn : List Edge → Type 0
FewIn es = AllByRecursion (λ e. e.count ≤ count_limit) es

waits_within : (links n : ℕ) (w : Waits) → HasRoomFor links n w → n ≤ links
waits_within links n (waiting.ForOpened link) has = omega (arith, has)
waits_within links n (waiting.ForReply i) has = has

pub within : (links n : ℕ) (o : Option Going) → LinksAllow links n o → n ≤ links
within links n None has = has
within links n (Some g) has = waits_within links n g.waits has

-- a child whose Reply comes
few_put : (es : List Edge) (i : ℕ) (e : Edge) → FewIn es → e.count ≤ count_limit → FewIn (slice_set es i e)
few_put [] i e all few = tt
few_put (x ∷ es) zero e all few = (few, all.1)
few_put (x ∷ es) (suc i) e all few = (all.0, few_put es i e all.1 few)

few_set : (es : List Edge) (i : ℕ) (e : Edge) → FewIn es → e.count ≤ count_limit → FewIn (set_numbered es i e)
few_set es zero e all few = all
few_set es (suc i) e all few = few_put es i e all few

asked_few : (es : List Edge) → FewIn es → FewIn (map with_prepare_sent es)
asked_few [] all = tt
asked_few (e ∷ es) all = (all.0, asked_few es all.1)

voted_few : (from : BranchId) (v : Vote) (es : List Edge) → FewIn es → FewIn (map (has_voted from v) es)
voted_few from v [] all = tt
voted_few from v (e ∷ es) all = (cond_both _ (record e { vote = v }) e (λ x. x.count ≤ count_limit) (λ first. all.0) (λ again. all.0), voted_few from v es all.1)

-- what a Reply tells is few
reply_few : {input : Input} {from to : BranchId} {call : ℕ} {weight : Option ℕ} {count : ℕ} {a : Answer} → BringsFew input → Came input from to (kinds.Reply call weight count a) → count ≤ count_limit
reply_few brings came = subst BringsFew came.is brings

-- ---- nodes

module _ (links : ℕ) (k : NodeState) (now : EachLive (IsShaped links) k.lives k.works) where
  shape_at : (x : Branch) → branch_at k x.live.me ≡ Some x → IsShaped links x.live x.work
  shape_at x found = let parts = branch_parts k x.live.me x found in subst (IsShaped links x.live) (sym parts.1) (now.each x.live.me x.live parts.0)

  -- What is known before a statement goes on.
  record Before (x : Branch) : Type 0 where
    few : length x.live.edges ≤ links
    counts : FewIn x.live.edges
    numbers : length x.work.calls ≡ length x.live.edges
    mine : x.work.branch ≡ x.live.me

  before : (x : Branch) → branch_at k x.live.me ≡ Some x → Before x
  before x live =
      let is = shape_at x live in
      record { few = within links (length x.live.edges) x.work.going is.room; counts = is.counts; numbers = is.numbers; mine = work_is k x.live.me x live }

  asked : {input : Input} {x : Branch} {s : Stmt} {given : ℕ} → Asked k input x s given → Before x
  asked (steps.By_call n x s call rows has code live may) = before x live
  asked (steps.By_exec x from call given advice s came live runs) = let is = before x live in record { few = is.few; counts = is.counts; numbers = is.numbers; mine = is.mine }

  goes : {input : Input} {x : Branch} {step : ℕ} → Goes_to k input x step → Before x
  goes (steps.By_rollback_to n x name step call has code live set) = before x live
  goes (steps.By_back x from call keep came live runs) = let is = before x live in record { few = is.few; counts = is.counts; numbers = is.numbers; mine = is.mine }

  -- a branch that hears a Reply
  hears : {input : Input} {x : Branch} {weight : Option ℕ} {count : ℕ} {a : Answer} {i : ℕ} {e : Edge} → BringsFew input → Is_answered k input x weight count a i e → Before (hears_reply x i weight count e)
  hears {x = x} {weight = weight} {count = count} {a = a} {i = i} {e = e} few answers =
      let is = before x answers.live in
      record {
        few = subst (λ n. n ≤ links) (sym (set_length x.live.edges i (record e { weight = weight; count = count }))) is.few;
        counts = few_set x.live.edges i (record e { weight = weight; count = count }) is.counts (reply_few few answers.came);
        numbers = is.numbers ∙ sym (set_length x.live.edges i (record e { weight = weight; count = count }));
        mine = is.mine;
      }

  -- a branch with other calls
  changed : (x : Branch) → x.work.branch ≡ x.live.me → IsShaped links x.live x.work → EachLive (IsShaped links) (with_branch k x).lives (with_branch k x).works
  changed x mine is = each_put (IsShaped links) (IsShaped links) k.lives k.works now x.live x.work mine is (λ y v live other so. so)

  answered : (x : Branch) (a : Answer) → Before x → EachLive (IsShaped links) (with_branch k (with_answer x a)).lives (with_branch k (with_answer x a)).works
  answered x a is = changed (with_answer x a) is.mine (record { room = is.few; counts = is.counts; numbers = is.numbers })

  calls : (x : Branch) (i : ℕ) (e : Errand) → Before x → EachLive (IsShaped links) (with_branch k (called k.sessions x i e)).lives (with_branch k (called k.sessions x i e)).works
  calls x i e is = changed (called k.sessions x i e) is.mine (record { room = is.few; counts = is.counts; numbers = set_length x.work.calls i (next_call x.work i) ∙ is.numbers })

  -- the child that was waited for is there
  linked : (x : Branch) (e : Edge) (g : Going) (link : List ℕ) → branch_at k x.live.me ≡ Some x → x.work.going ≡ Some g → g.waits ≡ waiting.ForOpened link → e.count ≤ count_limit → Before (with_edge x e)
  linked x e g link live going waits few =
      let is = shape_at x live in
      let room : LinksAllow links (length x.live.edges) (Some g) = subst (LinksAllow links (length x.live.edges)) going is.room in
      let one : length x.live.edges + 1 ≤ links = subst (HasRoomFor links (length x.live.edges)) waits room in
      record {
        few = omega (arith, one, length-append x.live.edges (e ∷ []));
        counts = all_append (λ y. y.count ≤ count_limit) x.live.edges (e ∷ []) is.counts (few, tt);
        numbers = length-append x.work.calls (0 ∷ []) ∙ (ap (λ n. n + 1) is.numbers ∙ sym (length-append x.live.edges (e ∷ [])));
        mine = work_is k x.live.me x live;
      }

  -- a branch that acts
  abbrev Shape : Live → Type 0
  Shape l = IsShaped links l (works_of k.works l.me)

  acts_so : {input : Input} {l : Live} {site_below : Bool} {a : Act} → Acting k input l site_below a → Shape l
  acts_so why =
      acting_so Shape
      (λ l comment site_below is. record { room = subst (λ n. LinksAllow links n (works_of k.works l.me).going) (sym (length-map l.edges with_prepare_sent)) is.room; counts = asked_few l.edges is.counts; numbers = is.numbers ∙ sym (length-map l.edges with_prepare_sent) })
      (λ l from v is. record { room = subst (λ n. LinksAllow links n (works_of k.works l.me).going) (sym (length-map l.edges (has_voted from v))) is.room; counts = voted_few from v l.edges is.counts; numbers = is.numbers ∙ sym (length-map l.edges (has_voted from v)) })
      (λ b l found. subst (λ m. IsShaped links l (works_of k.works m)) (sym (item_is live_id k.lives b l found)) (now.each b l found)) why

  gone : (b : BranchId) → EachLive (IsShaped links) (without_branch k b).lives (without_branch k b).works
  gone b = each_left (IsShaped links) (IsShaped links) k.lives k.works now b (λ y v live other so. so)

  stays : (l : Live) → Shape l → EachLive (IsShaped links) (with_live k l).lives k.works
  stays l is = each_changed (IsShaped links) (IsShaped links) k.lives k.works now l is (λ y v live other so. so)

-- a branch whose children are to go back
calling_before : (links : ℕ) (k : NodeState) (now : EachLive (IsShaped links) k.lives k.works) {input : Input} {x : Branch} {step from : ℕ} → BringsFew input → Calls_back k input x step from → Before links k now x
calling_before links k now few (steps.Has_gone j x step back is) =
    let was = goes links j (subst (λ i. EachLive (IsShaped links) i.lives i.works) is now) back in record { few = was.few; counts = was.counts; numbers = was.numbers; mine = was.mine }
calling_before links k now few (steps.Has_heard x weight count a i e g step answers going errand done) = hears links k now few answers

-- each step keeps them
shapes_on : (p : Place) (input : Input) → BringsFew input → {k : NodeState} {d : TurnDraft} → Step p input k d → HasShape p k → HasShape p d.after
shapes_on p input few (steps.Begins {k = k} n s read_at call begins fit none step) now =
    shapes_on p input few step (each_begun (IsShaped p.links) (IsShaped p.links) k.lives k.works now _ (record { room = omega arith; counts = tt; numbers = refl }) (λ y v live any so. so))
shapes_on p input few (steps.Counts_call n s call counts step) now = shapes_on p input few step now
shapes_on p input few (steps.Goes_back x step back next) now = shapes_on p input few next now
shapes_on p input few (steps.Pends n l given call has live code writer step) now = shapes_on p input few step now
shapes_on p input few (steps.Lets_reads_go l comment site_below live begins step) now = shapes_on p input few step now
shapes_on p input few (steps.Counts_ack s from kept came counts step) now = shapes_on p input few step now
shapes_on p input few (steps.Runs {k = k} x s given t asks way) now =
    let is = asked p.links k now asks in
    answered p.links k now (branch_ran k.sessions x t (ran p k x.live.me s t)) _ (record { few = is.few; counts = is.counts; numbers = is.numbers; mine = is.mine })
shapes_on p input few (steps.Goes_nowhere {k = k} x s given r asks way) now = answered p.links k now x _ (asked p.links k now asks)
shapes_on p input few (steps.Calls {k = k} x s given i table asks way) now = calls p.links k now x i (errands.Statement (passed_on s table) given) (asked p.links k now asks)
shapes_on p input few (steps.Opens {k = k} x s given node link table asks way) now =
    let is = asked p.links k now asks in
    each_put (IsShaped p.links) (IsShaped p.links) k.lives k.works now x.live _ is.mine (record { room = way_fits p k.stored.durable x.live given node link table s way; counts = is.counts; numbers = is.numbers }) (λ y v live other so. so)
shapes_on p input few (steps.Goes_on {k = k} x from strength g link opened) now =
    calls p.links k now (with_edge x (new_edge from link strength)) _ (less_room g.errand) (linked p.links k now x (new_edge from link strength) g link opened.live opened.going opened.waits (omega arith))
shapes_on p input few (steps.Hears_reply {k = k} x weight count a i e answers) now =
    answered p.links k now (hears_reply x i weight count e) _ (hears p.links k now few answers)
shapes_on p input few (steps.Backs {k = k} x step from i back next) now = calls p.links k now x i (errands.GoBack step) (calling_before p.links k now few back)
shapes_on p input few (steps.Is_back {k = k} x step from back none) now = answered p.links k now x _ (calling_before p.links k now few back)
shapes_on p input few (steps.Opens_branch {k = k} to parent edge root depth read_at came new) now =
    each_begun (IsShaped p.links) (IsShaped p.links) k.lives k.works now _ (record { room = omega arith; counts = tt; numbers = refl }) (λ y v live any so. so)
shapes_on p input few (steps.Acts {k = k} l site_below acts.Rest why) now = stays p.links k now l (acts_so p.links k now why)
shapes_on p input few (steps.Acts {k = k} l site_below acts.AskDown why) now = stays p.links k now l (acts_so p.links k now why)
shapes_on p input few (steps.Acts {k = k} l site_below acts.SayReady why) now = let is = acts_so p.links k now why in stays p.links k now (ready l) (record { room = is.room; counts = is.counts; numbers = is.numbers })
shapes_on p input few (steps.Acts {k = k} l site_below acts.SayReadOnly why) now = gone p.links k now l.me
shapes_on p input few (steps.Acts {k = k} l site_below acts.Seal why) now = gone p.links k now l.me
shapes_on p input few (steps.Acts {k = k} l site_below (acts.SealAndPass i) why) now = gone p.links k now l.me
shapes_on p input few (steps.Acts {k = k} l site_below acts.Decide why) now = gone p.links k now l.me
shapes_on p input few (steps.Acts {k = k} l site_below acts.Finish why) now = gone p.links k now l.me
shapes_on p input few (steps.Acts {k = k} l site_below acts.Abandon why) now = gone p.links k now l.me
shapes_on p input few (steps.Drops_told {k = k} l live drops) now = gone p.links k now l.me
shapes_on p input few (steps.Drops_asked {k = k} l from live came parent) now = gone p.links k now l.me
shapes_on p input few (steps.Does s from nexts.Rest kept why) now = now
shapes_on p input few (steps.Does s from nexts.AckToward kept why) now = now
shapes_on p input few (steps.Does s from nexts.SayForgotten kept why) now = now
shapes_on p input few (steps.Does s from nexts.SayAck kept why) now = now
shapes_on p input few (steps.Does s from (nexts.End d) kept why) now = now
shapes_on p input few (steps.Does s from (nexts.Meet d mixed) kept why) now = now
shapes_on p input few (steps.Does s from nexts.Forget kept why) now = now
shapes_on p input few (steps.Leaves {k = k} n s d x call ends has live) now = gone p.links k now x.live.me
shapes_on p input few (steps.Sets_savepoint {k = k} n x name call has code live) now =
    let is = shape_at p.links k now x live in changed p.links k now (marked k.sessions x name) (work_is k x.live.me x live) (record { room = is.room; counts = is.counts; numbers = is.numbers })
shapes_on p input few (steps.Gives_up {k = k} n x gives has calls live) now =
    let is = before p.links k now x live in changed p.links k now (gives_up x) is.mine (record { room = is.few; counts = is.counts; numbers = is.numbers })
shapes_on p input few (steps.Gives_up_commit {k = k} n b (Some l) gives has calls live) now = gone p.links k now l.me
shapes_on p input few (steps.Gives_up_commit n b None gives has calls live) now = now
shapes_on p input few _ now = now

shapes_heard : (p : Place) (k : NodeState) (input : Input) → HasShape p k → HasShape p (heard k input)
shapes_heard p k (inputs.Message m) now = now
shapes_heard p k _ now = now

pub shapes_stay : ShapesStay
unfolding turn_of
shapes_stay p k input fit few now = shapes_on p input few (step_of p k input fit) (shapes_heard p k input now)
