-- In every lawful run a branch that awaits the answer of a child waits for one that was not asked, collects, or has
-- answered, or that takes no part any more. So where all messages came, and no branch was dropped or stopped, none
-- collects.
use Rattle.std.proofs.Common.{◌≡◌, ◌≢◌, ℕ, zero, suc, ◌+◌, ◌≤◌, ◌||◌, Bool, true, false, List, [], ◌∷◌, map, length, Option, Some, None, inl, inr, refl, sym, ap, subst, ◌∙◌, arith}
use Rattle.std.specs.Prelude.{◌⊎◌}
use Rattle.std.specs.List.{AllByRecursion, list_any}
use Rattle.dtx_values.specs.Limits.{depth_limit}
use Rattle.tran_ids.proofs.ListedLemmas.{item_is}
use Rattle.agreement.specs.Events.{Exit, Sealed, Decided, Quiet, Dropped, exit}
use Rattle.node_rules.specs.Data.{BranchId, Edge, Kind, Live, Phase}
use Rattle.node_rules.specs.Data.phases
use Rattle.node_rules.specs.Data.votes
use Rattle.node_rules.specs.Words.{numbered}
use Rattle.node_rules.specs.NodeState.{NodeState, live_id, live_at, work_at, with_work}
use Rattle.node_rules.specs.Prepare.{is_awaited}
use Rattle.run_rules.specs.Births.{Born, born_id, born_at}
use Rattle.run_base_laws.specs.BirthLaws.{Began, IsChild, StandsBelow, LiveIs}
use Rattle.run_rules.specs.Branches.{is_among}
use Rattle.run_rules.specs.Data.{Fate, Packet}
use Rattle.run_rules.specs.Data.fates
use Rattle.run_rules.specs.Facts.{node_at}
use Rattle.run_base_laws.specs.FreezeLaws.{was_asked}
use Rattle.run_base_laws.specs.InTurnLaws.{said_in}
use Rattle.run_rules.specs.Lawful.{History, IsLawfulRun}
use Rattle.run_branch_laws.specs.PhaseLaws.{IsUnasked, PhaseFits}
use Rattle.run_base_laws.specs.RunEvents.{lives_at, events_of}
use Rattle.run_rules.specs.Trail.{is_prepare}
use Rattle.run_branch_laws.specs.WalkLaws.{was_sent}
use Rattle.run_base_laws.proofs.BirthRunLemmas.{births_are_trees, nodes_name_the_born, born_are_live_or_left}
use Rattle.run_base_laws.proofs.EventsStandLemmas.{ids_name_their_node}
use Rattle.run_base_laws.proofs.NeighborLemmas.{all_children}
use Rattle.run_base_laws.proofs.NodesStandLemmas.{some_or_none}
use Rattle.run_base_laws.proofs.OwnLemmas.{all_found}
use Rattle.run_branch_laws.proofs.PhaseLemmas.{phases_fit}
use Rattle.tree_laws.proofs.AskRunLemmas.{edges_asked}
use Rattle.tree_laws.proofs.FateLemmas.{among_found}
use Rattle.tree_laws.proofs.ShallowLemmas.{parents_are_shallow}
use Rattle.commit_laws.specs.DeliveryLaws.{IsBusy, is_answer, HasAnswerOf}
use Rattle.commit_laws.specs.WaitLaws.{NodeHasStopped, HasNotCome, Awaits, Not_asked, Collects_too, Not_answered, Was_dropped, Has_stopped, CollectorsWait, AllCame, CollectsAreOver}
use Rattle.commit_laws.proofs.ListLemmas.{IsIn, all_in, in_all}
use Rattle.commit_laws.proofs.NetLemmas.{numbered_all}
use Rattle.commit_laws.proofs.SentLemmas.{IsSent, sent_found}
use Rattle.commit_laws.proofs.HeardLemmas.{prepares_are_heard, answers_are_heard}
use Rattle.commit_laws.proofs.LeftLemmas.{left_have_answered}
use Rattle.commit_laws.proofs.ReadyLemmas.{ready_have_answered}
use Rattle.tree_laws.proofs.AtPart.{at_end}

-- ---- lists

module _ {A : Type 0} (test : A → Bool) where
  -- one of those that pass a test
  any_in : (xs : List A) → list_any test xs ≡ true → (a : A) × IsIn a xs × (test a ≡ true)
  any_in [] is = absurd cc
  any_in (x ∷ xs) is = by (test x) refl is (any_in xs)
    where
      by : (q : Bool) → test x ≡ q → (q || list_any test xs) ≡ true → (list_any test xs ≡ true → (a : A) × IsIn a xs × (test a ≡ true)) → (a : A) × IsIn a (x ∷ xs) × (test a ≡ true)
      by true here found rest = (x, inl refl, here)
      by false other found rest = (let it = rest found in (it.0, inr it.1, it.2))

-- what is so of each child by its number is so of each edge
all_peers : (P : BranchId → Type 0) (es : List Edge) → ((i : ℕ) (c : BranchId) → numbered (map (λ (e : Edge). e.peer) es) i ≡ Some c → P c) → AllByRecursion (λ e. P e.peer) es
all_peers P [] each = tt
all_peers P (e ∷ es) each = (each 1 e.peer refl, all_peers P es (λ i c at. later i c at))
  where
    later : (i : ℕ) (c : BranchId) → numbered (map (λ (x : Edge). x.peer) es) i ≡ Some c → P c
    later zero c at = absurd cc
    later (suc i) c at = each (suc (suc i)) c at

-- ---- messages

-- whether a message was delivered
come_or : (fate : Fate) → (fate ≡ fates.Delivered) ⊎ (fate ≢ fates.Delivered)
come_or fates.Delivered = inl refl
come_or fates.InFlight = inr (λ is. absurd cc)
come_or fates.Lost = inr (λ is. absurd cc)

-- ---- every run

module _ (t : History) (whole : IsLawfulRun t) where
  open at_end t use {f, bs}

  -- a message that was sent came, or has not
  came_or_not : (kind : Kind → Bool) (from to : BranchId) → was_sent kind (said_in f) from to ≡ true → (x : IsSent kind from to f.net.packets) × ((x.packet.fate ≡ fates.Delivered) ⊎ HasNotCome t kind from to)
  came_or_not kind from to sent =
      let x : IsSent kind from to f.net.packets = sent_found kind from to f.net.packets sent in (
        x,
        elim (come_or x.packet.fate) [
          | inl came ↦ inl came
          | inr not ↦ inr (record { number = suc x.place; packet = x.packet; sent = x.there; is_from = x.is_from; is_to = x.is_to; is_kind = x.is_kind; waits = not })
        ],
      )

  -- who is a child is so in one way
  one_born : (a b : Born) → Began bs a → Began bs b → a.me ≡ b.me → a ≡ b
  one_born a b one two me =
      let at : born_at bs b.me ≡ Some a = subst (λ i. born_at bs i ≡ Some a) me one in
      let both : Some a ≡ Some b = sym at ∙ two in
      cc

  module _ (n : ℕ) (k : NodeState) (up : node_at f n ≡ Some k) (l : Live) (live : live_at k l.me ≡ Some l) where
    placed : LiveIs (Began bs) l
    placed = all_found (LiveIs (Began bs)) live_id k.lives l.me l (nodes_name_the_born t whole n k up).0 live

    own_node : l.me.node ≡ n
    own_node = all_found (λ (x : Live). x.me.node ≡ n) live_id k.lives l.me l (ids_name_their_node t whole n k up).lives live

    module _ (e : Edge) (there : IsIn e l.edges) (waits : is_awaited e.vote ≡ true) where
      abbrev c : BranchId
      c = e.peer

      busy : l.phase ≢ phases.Working
      busy working =
          let fits : PhaseFits l.parent l.edges l.phase = all_found (λ (x : Live). PhaseFits x.parent x.edges x.phase) live_id k.lives l.me l (phases_fit t whole n k up) live in
          let unasked : AllByRecursion IsUnasked l.edges = subst (PhaseFits l.parent l.edges) working fits in
          let vote : e.vote ≡ votes.Unasked = in_all IsUnasked l.edges e unasked there in
          let none : is_awaited e.vote ≡ false = ap is_awaited vote in
          absurd (cc (none, waits))

      child : IsChild (Began bs) c l.me
      child = in_all (λ (x : Edge). IsChild (Began bs) x.peer l.me) l.edges e (all_children (Began bs) l.me 1 l.edges placed.children) there

      asked : was_asked (said_in f) l.me c ≡ true
      asked = in_all (λ (x : Edge). was_asked (said_in f) l.me x.peer ≡ true) l.edges e (all_peers (λ b. was_asked (said_in f) l.me b ≡ true) l.edges (edges_asked t whole n k up l live busy).0) there

      -- an answer that came was heard
      not_answered : was_sent is_answer (said_in f) c l.me ≡ true → Awaits t l.me c
      not_answered sent =
          let x = came_or_not is_answer c l.me sent in
          elim x.1 [
            | inr not ↦ Not_answered not
            | inl came ↦ (let heard : HasAnswerOf f x.0.packet.msg.to x.0.packet.msg.from
                = numbered_all (λ (y : Packet). y.fate ≡ fates.Delivered → is_answer y.msg.kind ≡ true → HasAnswerOf f y.msg.to y.msg.from) f.net.packets (suc x.0.place) x.0.packet (answers_are_heard t whole) x.0.there came x.0.is_kind in
                let mine : HasAnswerOf f l.me c = subst (λ b. HasAnswerOf f b c) x.0.is_to (subst (HasAnswerOf f x.0.packet.msg.to) x.0.is_from heard) in
                let done : is_awaited e.vote ≡ false = in_all (λ (y : Edge). y.peer ≡ c → is_awaited y.vote ≡ false) l.edges e (mine k l (subst (λ i. node_at f i ≡ Some k) (sym own_node) up) live) there refl in
                absurd (cc (done, waits)))
          ]

      left_awaits : (z : Exit) → exit (events_of t) c ≡ Some z → z ≢ Dropped → Awaits t l.me c
      left_awaits z left other =
          let me : child.0.me ≡ c = child.2 in
          elim (left_have_answered t whole child.0 child.1 l.me child.3 z (subst (λ b. exit (events_of t) b ≡ Some z) (sym me) left) other) [
            | inl sent ↦ not_answered (subst (λ b. was_sent is_answer (said_in f) b l.me ≡ true) me sent)
            | inr stopped ↦ Has_stopped (subst (NodeHasStopped f) me stopped)
          ]

      exit_awaits : (z : Exit) → exit (events_of t) c ≡ Some z → Awaits t l.me c
      exit_awaits Dropped left = Was_dropped left
      exit_awaits (Sealed m) left = left_awaits (Sealed m) left (λ no. absurd cc)
      exit_awaits (Decided m) left = left_awaits (Decided m) left (λ no. absurd cc)
      exit_awaits Quiet left = left_awaits Quiet left (λ no. absurd cc)

      live_awaits : IsBusy f c → (j : NodeState) → node_at f c.node ≡ Some j → (y : Live) → live_at j c ≡ Some y → (phase : Phase) → y.phase ≡ phase → Awaits t l.me c
      live_awaits busy_c j there_j y at phases.Working is = absurd (busy_c j y there_j at is)
      live_awaits busy_c j there_j y at (phases.Collecting below) is = Collects_too j y below there_j at is
      live_awaits busy_c j there_j y at phases.Ready is =
          let me : y.me ≡ c = item_is live_id j.lives c y at in
          let mine : live_at j y.me ≡ Some y = subst (λ b. live_at j b ≡ Some y) (sym me) at in
          let its : LiveIs (Began bs) y = all_found (LiveIs (Began bs)) live_id j.lives y.me y (nodes_name_the_born t whole c.node j there_j).0 mine in
          let one : its.born ≡ child.0 = one_born its.born child.0 its.began child.1 (its.is_me ∙ (me ∙ sym child.2)) in
          let parent : y.parent ≡ Some l.me = sym its.is_parent ∙ subst (λ (b : Born). b.parent ≡ Some l.me) (sym one) child.3 in
          not_answered (subst (λ b. was_sent is_answer (said_in f) b l.me ≡ true) me (ready_have_answered t whole c.node j there_j y mine is l.me parent))

      asked_awaits : IsBusy f c → Awaits t l.me c
      asked_awaits busy_c = elim (born_are_live_or_left t whole c begun) [
        | inl left ↦ elim (some_or_none (exit (events_of t) c)) [ inl z ↦ exit_awaits z.0 z.1 | inr none ↦ absurd (left none) ]
        | inr among ↦ at_node (node_at f c.node) refl among
      ]
        where
          begun : born_at bs c ≢ None
          begun none = (let is : born_at bs c ≡ Some child.0 = subst (λ b. born_at bs b ≡ Some child.0) child.2 child.1 in absurd (cc (is, none)))

          at_node : (o : Option NodeState) → node_at f c.node ≡ o → is_among c (lives_at o) ≡ true → Awaits t l.me c
          at_node None there_j among = absurd cc
          at_node (Some j) there_j among = (let y = among_found j.lives c among in live_awaits busy_c j there_j y.0 y.1 y.0.phase refl)

      awaits : Awaits t l.me c
      awaits =
          let x = came_or_not is_prepare l.me c asked in
          elim x.1 [
            | inr not ↦ Not_asked not
            | inl came ↦ (let heard : IsBusy f x.0.packet.msg.to
                = numbered_all (λ (y : Packet). y.fate ≡ fates.Delivered → is_prepare y.msg.kind ≡ true → IsBusy f y.msg.to) f.net.packets (suc x.0.place) x.0.packet (prepares_are_heard t whole) x.0.there came x.0.is_kind in
                asked_awaits (subst (IsBusy f) x.0.is_to heard))
          ]

  pub awaits_all : (n : ℕ) (k : NodeState) → node_at f n ≡ Some k → (l : Live) → live_at k l.me ≡ Some l → AllByRecursion (λ e. is_awaited e.vote ≡ true → Awaits t l.me e.peer) l.edges
  awaits_all n k up l live = all_in (λ (e : Edge). is_awaited e.vote ≡ true → Awaits t l.me e.peer) l.edges (λ e there waits. awaits n k up l live e there waits)

  -- ---- where all came

  module _ (root : BranchId) (all : AllCame t root) where
    message_came : (kind : Kind → Bool) (from to : BranchId) (b : Born) → Began bs b → b.me ≡ from → b.root ≡ root → HasNotCome t kind from to → ⊥
    message_came kind from to b began me of_root not =
        not.waits (numbered_all (λ (y : Packet). (z : Born) → Began bs z → z.me ≡ y.msg.from → z.root ≡ root → y.fate ≡ fates.Delivered) f.net.packets not.number not.packet all.messages not.sent b began (me ∙ sym not.is_from) of_root)

    -- a collecting branch one deeper
    abbrev Deeper : Live → Type 0
    Deeper l = l.depth + 1 ≤ depth_limit → (n : ℕ) (k : NodeState) → node_at f n ≡ Some k → (y : Live) → live_at k y.me ≡ Some y → y.root ≡ root → (below : Bool) → y.phase ≡ phases.Collecting below → l.depth + 1 ≡ y.depth → ⊥

    module _ (n : ℕ) (k : NodeState) (up : node_at f n ≡ Some k) (l : Live) (live : live_at k l.me ≡ Some l) (of : l.root ≡ root) (next : Deeper l) where
      its : LiveIs (Began bs) l
      its = placed n k up l live

      has_one : (es : List Edge) (e : Edge) → IsIn e es → 1 ≤ length es
      has_one [] e at = absurd at
      has_one (y ∷ es) e at = omega arith

      module _ (e : Edge) (at : IsIn e l.edges) where
        shallow : l.depth + 1 ≤ depth_limit
        shallow = parents_are_shallow t whole n k up (record { live = l; work = work_at k l.me }) (ap (with_work k) live) (has_one l.edges e at)

        kid : IsChild (Began bs) e.peer l.me
        kid = in_all (λ (y : Edge). IsChild (Began bs) y.peer l.me) l.edges e (all_children (Began bs) l.me 1 l.edges its.children) at

        -- the child is of the same tree, one deeper
        below_it : (kid.0.root ≡ root) × (l.depth + 1 ≡ kid.0.depth)
        below_it =
            let stands : StandsBelow (Began bs) kid.0 kid.0.parent = all_found (λ y. StandsBelow (Began bs) y y.parent) born_id bs kid.0.me kid.0 (births_are_trees t whole) kid.1 in
            let above : StandsBelow (Began bs) kid.0 (Some l.me) = subst (StandsBelow (Began bs) kid.0) kid.3 stands in
            let one : above.0 ≡ its.born = one_born above.0 its.born above.1 its.began (above.2 ∙ sym its.is_me) in (
              sym above.3 ∙ (ap (λ (b : Born). b.root) one ∙ (its.is_root ∙ of)),
              ap (λ d. d + 1) (sym its.is_depth ∙ ap (λ (b : Born). b.depth) (sym one)) ∙ above.4,
            )

        none_waits : Awaits t l.me e.peer → ⊥
        none_waits (Not_asked not) = message_came is_prepare l.me e.peer its.born its.began its.is_me (its.is_root ∙ of) not
        none_waits (Not_answered not) = message_came is_answer e.peer l.me kid.0 kid.1 kid.2 below_it.0 not
        none_waits (Was_dropped dropped) =
            all.below kid.0 kid.1 below_it.0 (λ none. (let above = kid.3 in absurd (cc (above, none)))) (subst (λ b. exit (events_of t) b ≡ Some Dropped) (sym kid.2) dropped)
        none_waits (Has_stopped stopped) = all.up kid.0 kid.1 below_it.0 (subst (NodeHasStopped f) (sym kid.2) stopped)
        none_waits (Collects_too j y down there_j live_y collects) =
            let me : y.me ≡ e.peer = item_is live_id j.lives e.peer y live_y in
            let mine : live_at j y.me ≡ Some y = subst (λ b. live_at j b ≡ Some y) (sym me) live_y in
            let yours : LiveIs (Began bs) y = placed e.peer.node j there_j y mine in
            let one : yours.born ≡ kid.0 = one_born yours.born kid.0 yours.began kid.1 (yours.is_me ∙ (me ∙ sym kid.2)) in
            let of_root : y.root ≡ root = sym yours.is_root ∙ (ap (λ (b : Born). b.root) one ∙ below_it.0) in
            let depth : l.depth + 1 ≡ y.depth = below_it.1 ∙ (ap (λ (b : Born). b.depth) (sym one) ∙ yours.is_depth) in
            next shallow e.peer.node j there_j y mine of_root down collects depth

      none_collects : (below : Bool) → l.phase ≡ phases.Collecting below → ⊥
      none_collects below is =
          let fits : PhaseFits l.parent l.edges l.phase = all_found (λ (y : Live). PhaseFits y.parent y.edges y.phase) live_id k.lives l.me l (phases_fit t whole n k up) live in
          let some : list_any (λ (e : Edge). is_awaited e.vote) l.edges ≡ true = (subst (PhaseFits l.parent l.edges) is fits).1 in
          let waiting = any_in (λ (e : Edge). is_awaited e.vote) l.edges some in
          none_waits waiting.0 waiting.1 (in_all (λ (y : Edge). is_awaited y.vote ≡ true → Awaits t l.me y.peer) l.edges waiting.0 (awaits_all n k up l live) waiting.1 waiting.2)

    over : (m : ℕ) (n : ℕ) (k : NodeState) → node_at f n ≡ Some k → (l : Live) → live_at k l.me ≡ Some l → l.root ≡ root → (below : Bool) → l.phase ≡ phases.Collecting below → depth_limit ≤ l.depth + m → ⊥
    over zero n k up l live of below is deep = none_collects n k up l live of (λ shallow n2 k2 up2 y at root_is below2 collects depth. absurd (omega (arith, deep, shallow))) below is
    over (suc m) n k up l live of below is deep =
        none_collects n k up l live of (λ shallow n2 k2 up2 y at root_is below2 collects depth. over m n2 k2 up2 y at root_is below2 collects (omega (arith, deep, depth))) below is

pub collectors_wait : CollectorsWait
collectors_wait t whole n k up l live = awaits_all t whole n k up l live

pub collects_are_over : CollectsAreOver
collects_are_over t whole root all n k up l live of below is = over t whole root all depth_limit n k up l live of below is (omega arith)
