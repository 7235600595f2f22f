-- In every lawful run each Ack that is told to have come to a branch came to its node in a turn.
use Rattle.std.proofs.Common.{◌≡◌, ℕ, ◌&&◌, ◌||◌, ◌⊎◌, Bool, true, false, if◌then◌else◌, is_none, List, [], ◌∷◌, ◌++◌, map, Option, Some, None, inl, inr, refl, sym, ap, subst, ◌∙◌}
use Rattle.std.specs.List.{AllByRecursion}
use Rattle.std.proofs.lemmas.Bool.{cond_both}
use Rattle.std.proofs.lemmas.List.{append_assoc}
use Rattle.std.proofs.lemmas.List.Folds.{list_any-append}
use Rattle.tran_ids.proofs.BranchLemmas.{equal_from_same}
use Rattle.tran_ids.proofs.ListedLemmas.{item_is}
use Rattle.node_rules.specs.Data.{BranchId, Input, Kind, Msg}
use Rattle.node_rules.specs.Data.inputs
use Rattle.node_rules.specs.Data.kinds
use Rattle.node_rules.specs.NodeState.{NodeState}
use Rattle.node_rules.specs.Words.{same, item_at}
use Rattle.run_rules.specs.Branches.{Dropped, Seen, Trail, is_among, is_live_at, newly_seen, root_at, seen_at, seen_id, with_once}
use Rattle.run_rules.specs.Data.{Took, Turn, Happening}
use Rattle.run_rules.specs.Data.happenings
use Rattle.run_rules.specs.Facts.{Facts}
use Rattle.run_rules.specs.Lawful.{Comes, History, IsLawfulRun}
use Rattle.run_rules.specs.Runs.{begins_transaction}
use Rattle.run_rules.specs.Trail.{acked_by, acks_after, begun_in_turn, child_begun, children_begun, next_root, root_seen, roots_begun, stopped_by, strength_at, trail_after, trail_of}
use Rattle.run_rules.proofs.ListLemmas.{all_append}
use Rattle.run_base_laws.proofs.OwnLemmas.{all_found}
use Rattle.tree_laws.proofs.PrefixLemmas.{f_at}
use Rattle.tree_laws.proofs.TimeLemmas.{Part, keep_on, may_of}
use Rattle.tree_trail_laws.proofs.MomentLemmas.{tr_at, trail_one_on}
use Rattle.tree_trail_laws.proofs.SeenLemmas.{begun, turned, stopped_me}

-- The Ack of a neighbour came to a branch, at its node.
pub record AckCame (trace : List Happening) (c b : BranchId) : Type 0 where
  pub message : Msg
  pub from_it : message.from ≡ c
  pub to_it : message.to ≡ b
  pub kind : message.kind ≡ kinds.Ack
  pub before : List Happening
  pub turn : Turn
  pub later : List Happening
  pub is : before ++ happenings.Turn turn ∷ later ≡ trace
  pub input : turn.input ≡ inputs.Message message
  pub here : turn.node ≡ message.to.node

-- ---- what is told of a branch comes from what was

-- an item of a list that was changed
item_was : {A : Type 0} (id : A → BranchId) (g : A → A) → ((x : A) → id (g x) ≡ id x) → (xs : List A) (b : BranchId) (y : A) → item_at id (map g xs) b ≡ Some y → (x : A) × (item_at id xs b ≡ Some x) × (y ≡ g x)
item_was id g keeps [] b y is = absurd cc
item_was {A = A} id g keeps (x ∷ xs) b y is = by (same (id x) b) (ap (λ c. if same c b then Some (g x) else item_at id (map g xs) b) (sym (keeps x)) ∙ is) (item_was id g keeps xs b y)
  where
    by : (q : Bool) → (if q then Some (g x) else item_at id (map g xs) b) ≡ Some y → (item_at id (map g xs) b ≡ Some y → (z : A) × (item_at id xs b ≡ Some z) × (y ≡ g z))
        → (z : A) × ((if q then Some x else item_at id xs b) ≡ Some z) × (y ≡ g z)
    by true at later = (x, refl, (let it : Some (g x) ≡ Some y = at in sym (let one : g x ≡ y = cc in one)))
    by false at later = later at

-- an item of two lists
item_either : {A : Type 0} (id : A → BranchId) (xs ys : List A) (b : BranchId) (x : A) → item_at id (xs ++ ys) b ≡ Some x → (item_at id xs b ≡ Some x) ⊎ (item_at id ys b ≡ Some x)
item_either id [] ys b x is = inr is
item_either id (y ∷ xs) ys b x is = by (same (id y) b) is (item_either id xs ys b x)
  where
    by : (q : Bool) → (if q then Some y else item_at id (xs ++ ys) b) ≡ Some x → (item_at id (xs ++ ys) b ≡ Some x → (item_at id xs b ≡ Some x) ⊎ (item_at id ys b ≡ Some x))
        → ((if q then Some y else item_at id xs b) ≡ Some x) ⊎ (item_at id ys b ≡ Some x)
    by true at later = inl at
    by false at later = later at

-- no Ack has come to a branch that begins
abbrev HasNone : Seen → Type 0
HasNone s = s.acks ≡ []

roots_none : (f : Facts) (tr : Trail) (n : ℕ) (input : Input) → AllByRecursion HasNone (roots_begun f tr n input)
roots_none f tr n (inputs.Call m (Some s)) = cond_both (begins_transaction s && is_none (root_at tr n m)) (root_seen f n s (next_root f tr n m) ∷ []) [] (AllByRecursion HasNone) (λ begins. (refl, tt)) (λ other. tt)
roots_none f tr n _ = tt

child_none : (f : Facts) (tr : Trail) (came sent : Kind) (m : Msg) → AllByRecursion HasNone (child_begun f tr came sent m)
child_none f tr (kinds.Open edge root depth read_at) (kinds.Opened number strength) m =
    cond_both (is_none (seen_at tr m.from)) (newly_seen m.from root (Some m.to) (strength_at f m.from.node) read_at ∷ []) [] (AllByRecursion HasNone) (λ new. (refl, tt)) (λ old. tt)
child_none f tr _ _ m = tt

children_none : (f : Facts) (tr : Trail) (input : Input) (sent : List Msg) → AllByRecursion HasNone (children_begun f tr input sent)
children_none f tr (inputs.Message came) (m ∷ ms) = child_none f tr came.kind m.kind m
children_none f tr _ _ = tt

begun_none : (f : Facts) (tr : Trail) (u : Turn) → AllByRecursion HasNone (begun_in_turn f tr u)
begun_none f tr u =
    cond_both u.cut [] (roots_begun f tr u.node u.input ++ children_begun f tr u.input u.sent) (AllByRecursion HasNone) (λ cut. tt)
    (λ whole. all_append HasNone (roots_begun f tr u.node u.input) (children_begun f tr u.input u.sent) (roots_none f tr u.node u.input) (children_none f tr u.input u.sent))

-- ---- a turn

-- it came before, or in this turn
abbrev NewAck : Seen → Input → BranchId → Type 0
NewAck s input c = (m : Msg) × (input ≡ inputs.Message m) × (m.from ≡ c) × (m.to ≡ s.me) × (m.kind ≡ kinds.Ack)

once_new : (bs : List BranchId) (x c : BranchId) → is_among c (with_once bs x) ≡ true → (is_among c bs ≡ true) ⊎ (x ≡ c)
once_new bs x c there = by (is_among x bs) there
  where
    last : (p q : Bool) → same x c ≡ q → (p || (q || false)) ≡ true → (p ≡ true) ⊎ (x ≡ c)
    last true q at is = inl refl
    last false true at is = inr (equal_from_same x c at)
    last false false at is = absurd cc

    by : (q : Bool) → is_among c (if q then bs else bs ++ x ∷ []) ≡ true → (is_among c bs ≡ true) ⊎ (x ≡ c)
    by true is = inl is
    by false is = last (is_among c bs) (same x c) refl (sym (list_any-append (λ d. same d c) bs (x ∷ [])) ∙ is)

ack_new : (s : Seen) (input : Input) (c : BranchId) → is_among c (acks_after s input) ≡ true → (is_among c s.acks ≡ true) ⊎ NewAck s input c
ack_new s (inputs.Message m) c there = by_kind m.kind refl there
  where
    by : (q : Bool) → same m.to s.me ≡ q → m.kind ≡ kinds.Ack → is_among c (if q then with_once s.acks m.from else s.acks) ≡ true → (is_among c s.acks ≡ true) ⊎ NewAck s (inputs.Message m) c
    by true to kind is = elim (once_new s.acks m.from c is) [ inl old ↦ inl old | inr new ↦ inr (m, refl, new, equal_from_same m.to s.me to, kind) ]
    by false to kind is = inl is

    by_kind : (kind : Kind) → m.kind ≡ kind → is_among c (acked_by s m kind) ≡ true → (is_among c s.acks ≡ true) ⊎ NewAck s (inputs.Message m) c
    by_kind kinds.Ack at is = by (same m.to s.me) refl at is
    by_kind _ at is = inl is
ack_new s _ c there = inl there

here_of : (f : Facts) (k : NodeState) (n : ℕ) (m : Msg) (took : Option Took) → Comes f k n (inputs.Message m) took → m.to.node ≡ n
here_of f k n m None comes = absurd comes
here_of f k n m (Some x) comes = comes.1.here

-- ---- every run

module _ (t : History) (whole : IsLawfulRun t) where
  abbrev AcksCame : List Happening → Type 0
  AcksCame hs = (b : BranchId) (s : Seen) → seen_at (tr_at t hs) b ≡ Some s → (c : BranchId) → is_among c s.acks ≡ true → AckCame hs c b

  -- one happening more
  came_more : (hs : List Happening) (h : Happening) (c b : BranchId) → AckCame hs c b → AckCame (hs ++ h ∷ []) c b
  came_more hs h c b it = record {
    message = it.message;
    from_it = it.from_it;
    to_it = it.to_it;
    kind = it.kind;
    before = it.before;
    turn = it.turn;
    later = it.later ++ h ∷ [];
    is = sym (append_assoc it.before (happenings.Turn it.turn ∷ it.later) (h ∷ [])) ∙ ap (λ xs. xs ++ h ∷ []) it.is;
    input = it.input;
    here = it.here;
  }

  module _ (hs : List Happening) (now : AcksCame hs) where
    turn_came : (u : Turn) (rest : List Happening) → hs ++ happenings.Turn u ∷ rest ≡ t.trace → (b : BranchId) (s : Seen) → seen_at (trail_after t.places (f_at t hs) (tr_at t hs) (happenings.Turn u)) b ≡ Some s
        → (c : BranchId) → is_among c s.acks ≡ true → AckCame (hs ++ happenings.Turn u ∷ []) c b
    unfolding trail_after
    turn_came u rest is b s at c there =
        let was = item_was seen_id (turned t.places (f_at t hs) (tr_at t hs) u) (λ x. refl) (begun t.places (f_at t hs) (tr_at t hs) u).seen b s at in
        elim (ack_new was.0 u.input c (subst (λ (x : Seen). is_among c x.acks ≡ true) was.2 there)) [
          | inl old ↦ elim (item_either seen_id (tr_at t hs).seen (begun_in_turn (f_at t hs) (tr_at t hs) u) b was.0 was.1) [
            | inl before ↦ came_more hs (happenings.Turn u) c b (now b was.0 before c old)
            | inr new ↦ (let none : was.0.acks ≡ [] = all_found HasNone seen_id (begun_in_turn (f_at t hs) (tr_at t hs) u) b was.0 (begun_none (f_at t hs) (tr_at t hs) u) new in
                let off : is_among c was.0.acks ≡ false = ap (is_among c) none in
                absurd (cc (old, off)))
          ]
          | inr new ↦ record {
            message = new.0;
            from_it = new.2;
            to_it = new.3 ∙ item_is seen_id (begun t.places (f_at t hs) (tr_at t hs) u).seen b was.0 was.1;
            kind = new.4;
            before = hs;
            turn = u;
            later = [];
            is = refl;
            input = new.1;
            here = (let may = may_of t whole hs (happenings.Turn u) rest is in sym (here_of (f_at t hs) may.0 u.node new.0 u.took (subst (λ i. Comes (f_at t hs) may.0 u.node i u.took) new.1 may.1.comes)));
          }
        ]

    stopped_acks : (n : ℕ) (s : Seen) → (stopped_by n s).acks ≡ s.acks
    stopped_acks n s = cond_both (is_live_at n s) (record s { exit = Some Dropped }) s (λ (x : Seen). x.acks ≡ s.acks) (λ live. refl) (λ other. refl)

    came_after : (h : Happening) (rest : List Happening) → hs ++ h ∷ rest ≡ t.trace → (b : BranchId) (s : Seen) → seen_at (trail_after t.places (f_at t hs) (tr_at t hs) h) b ≡ Some s → (c : BranchId) → is_among c s.acks ≡ true
        → AckCame (hs ++ h ∷ []) c b
    unfolding trail_after
    came_after (happenings.Turn u) rest is b s at c there = turn_came u rest is b s at c there
    came_after (happenings.Stopped n) rest is b s at c there =
        let was = item_was seen_id (stopped_by n) (stopped_me n) (tr_at t hs).seen b s at in
        came_more hs (happenings.Stopped n) c b (now b was.0 was.1 c (ap (is_among c) (sym (stopped_acks n was.0)) ∙ subst (λ (x : Seen). is_among c x.acks ≡ true) was.2 there))
    came_after (happenings.Started n boot) rest is b s at c there = came_more hs (happenings.Started n boot) c b (now b s at c there)
    came_after (happenings.Begun n) rest is b s at c there = came_more hs (happenings.Begun n) c b (now b s at c there)
    came_after (happenings.Cut x y) rest is b s at c there = came_more hs (happenings.Cut x y) c b (now b s at c there)
    came_after (happenings.Join x y) rest is b s at c there = came_more hs (happenings.Join x y) c b (now b s at c there)
    came_after (happenings.Lost k) rest is b s at c there = came_more hs (happenings.Lost k) c b (now b s at c there)

  acks_on : (hs : List Happening) (h : Happening) (rest : List Happening) → hs ++ h ∷ rest ≡ t.trace → AcksCame hs → AcksCame (hs ++ h ∷ [])
  acks_on hs h rest is now b s at c there = came_after hs now h rest is b s (subst (λ tr. seen_at tr b ≡ Some s) (trail_one_on t hs h) at) c there

  first_acks : AcksCame []
  unfolding trail_of
  first_acks b s at c there = absurd cc

  pub acks_came : (hs : List Happening) → Part t whole hs → AcksCame hs
  acks_came hs part = keep_on t whole AcksCame acks_on [] hs part first_acks
