-- Where all messages of a transaction came, no node has stopped, and each of its seals has ended with commit, each row of it
-- holds the Acks of all those beyond: the farthest from the site first.
use Rattle.std.proofs.Common.{◌≡◌, ◌≢◌, ℕ, zero, suc, ◌+◌, ◌<◌, ◌≤◌, ◌⊎◌, ◌&&◌, ◌||◌, Bool, true, false, List, [], ◌∷◌, map, Option, Some, None, inl, inr, refl, sym, ap, subst, ◌∙◌, arith, append-nil}
use Rattle.std.specs.List.{AllByRecursion}
use Rattle.std.proofs.lemmas.Bool.{and_parts}
use Rattle.tran_ids.proofs.BranchLemmas.{equal_from_same}
use Rattle.tran_ids.proofs.ListedLemmas.{item_is}
use Rattle.commit_forget.specs.declared.next.Beyond.{Beyond as Neighbor}
use Rattle.commit_forget.specs.Beyond.{beyond, all_acked}
use Rattle.commit_forget.specs.Next.{knows_commit}
use Rattle.agreement.specs.Events.{Forest, Event, Exit, Sealed, Decided, Dropped, Forget, Send_forgotten, Beyond, exit, learned, forced, Has, Knows, site_of}
use Rattle.agreement.proofs.Invariant.{Inv}
use Rattle.node_rules.specs.Data.{BranchId, Decision, Kind, Live, Msg, Post, KeptRow, State}
use Rattle.node_rules.specs.Data.decisions
use Rattle.node_rules.specs.Data.states
use Rattle.node_rules.specs.Words.{same}
use Rattle.node_rules.specs.NodeState.{NodeState, kept_row_id, live_id, live_at, kept_row_at}
use Rattle.run_rules.specs.Births.{Born, births_of, born_at}
use Rattle.run_base_laws.specs.BirthLaws.{Began, IsChild, KeptIs}
use Rattle.run_rules.specs.Data.{Packet}
use Rattle.run_rules.specs.Data.fates
use Rattle.run_base_laws.specs.EventRows.{IsForcedAs, IsKnown, RowIs}
use Rattle.run_rules.specs.Facts.{Facts, node_at}
use Rattle.run_base_laws.specs.InTurnLaws.{packet_post, said_in}
use Rattle.run_rules.specs.Lawful.{History, IsLawfulRun, facts_at}
use Rattle.run_base_laws.specs.RunEvents.{events_of}
use Rattle.run_branch_laws.specs.WalkLaws.{was_sent}
use Rattle.run_base_laws.proofs.BirthRunLemmas.{nodes_name_the_born}
use Rattle.run_base_laws.proofs.EventsStandLemmas.{nodes_are_as_events, ids_name_their_node}
use Rattle.run_branch_laws.proofs.GoneLemmas.{gone_are_done}
use Rattle.run_base_laws.proofs.OwnLemmas.{all_found}
use Rattle.tree_laws.specs.Forests.{depth_at, deepest, comes_to, site_from, root_in, parent_in, forest_of}
use Rattle.tree_laws.proofs.ForestLemmas as trees
use Rattle.tree_laws.proofs.ForestRunLemmas.{run_known, runs_have_forests}
use Rattle.tree_laws.proofs.TimeLemmas.{Part}
use Rattle.commit_laws.specs.WaitLaws.{NodeHasStopped}
use Rattle.commit_laws.proofs.ListLemmas.{IsIn, all_in, in_all}
use Rattle.commit_forget_laws.specs.RowLaws.{is_ack, is_forced, IsSealed, SaidAck, RowTells}
use Rattle.commit_forget_laws.specs.ForgetLaws.{HoldsAck, IsNoted}
use Rattle.commit_forget_laws.specs.GoneLaws.{AllEnded}
use Rattle.commit_forget_laws.proofs.CameHereLemmas.{knows_it}
use Rattle.commit_forget_laws.proofs.AckHeardLemmas.{acks_are_noted}
use Rattle.commit_forget_laws.proofs.EndedLemmas.{sealed_ended, ack_sent}
use Rattle.tree_laws.proofs.MoreLemmas.{events_lawful, inv_at}
use Rattle.commit_forget_laws.proofs.ForgetRunLemmas.{forgets_come_from_toward}
use Rattle.commit_forget_laws.proofs.RowRunLemmas.{rows_tell}
use Rattle.tree_laws.proofs.FitRowLemmas.{RowFits, rows_fit}
use Rattle.commit_forget_laws.proofs.WayLemmas.{child_beyond, parent_beyond}
use Rattle.commit_forget_laws.proofs.NearLemmas.{all_true, deep_low, far_low, IsOff, beyond_off, gone_so, none_live}

module _ (t : History) (whole : IsLawfulRun t) (root : BranchId) (ended : AllEnded t root) where
  abbrev pub f : Facts
  f = facts_at t

  abbrev pub e : List Event
  e = events_of t

  abbrev pub p : Forest
  p = forest_of t

  abbrev pub bs : List Born
  bs = births_of t

  abbrev pub said : List Post
  said = said_in f

  pub part : Part t whole t.trace
  part = record { rest = []; is = append-nil t.trace }

  pub i : Inv p e
  i = inv_at t whole t.trace part

  pub known : trees.Known bs said
  known = run_known t whole

  -- a branch of the transaction
  abbrev pub Of : BranchId → Type 0
  Of x = (b : Born) × Began bs b × (b.me ≡ x) × (b.root ≡ root)

  pub up_still : (x : BranchId) → Of x → NodeHasStopped f x → ⊥
  up_still x of stopped = ended.up of.0 of.1 of.3 (subst (NodeHasStopped f) (sym of.2) stopped)

  pub up_at : (x : BranchId) → Of x → (k : NodeState) × (node_at f x.node ≡ Some k)
  up_at x of = by (node_at f x.node) refl
    where
      by : (o : Option NodeState) → node_at f x.node ≡ o → (k : NodeState) × (node_at f x.node ≡ Some k)
      by (Some k) is = (k, is)
      by None is = absurd (up_still x of (λ k up. absurd (cc (is, up))))

  -- ---- messages that were sent came

  module _ (kind : Kind → Bool) (Q : Msg → Type 0) (x y : BranchId) (of : Of x) where
    sent_so : (zs : List Packet) → AllByRecursion (λ z. z.fate ≡ fates.Delivered → kind z.msg.kind ≡ true → Q z.msg) zs → AllByRecursion (λ z. (b : Born) → Began bs b → b.me ≡ z.msg.from → b.root ≡ root → z.fate ≡ fates.Delivered) zs
        → was_sent kind (map packet_post zs) x y ≡ true → (m : Msg) × (m.from ≡ x) × (m.to ≡ y) × Q m
    sent_so [] laws comes is = absurd cc
    sent_so (z ∷ zs) laws comes is = by ((same z.msg.from x && same z.msg.to y) && kind z.msg.kind) refl is (sent_so zs laws.1 comes.1)
      where
        by : (q : Bool) → ((same z.msg.from x && same z.msg.to y) && kind z.msg.kind) ≡ q → (q || was_sent kind (map packet_post zs) x y) ≡ true → (was_sent kind (map packet_post zs) x y ≡ true → (m : Msg) × (m.from ≡ x) × (m.to ≡ y) × Q m)
            → (m : Msg) × (m.from ≡ x) × (m.to ≡ y) × Q m
        by true here found rest =
            let parts = and_parts (same z.msg.from x && same z.msg.to y) (kind z.msg.kind) here in
            let ends = and_parts (same z.msg.from x) (same z.msg.to y) parts.0 in
            let from : z.msg.from ≡ x = equal_from_same z.msg.from x ends.0 in
            (z.msg, from, equal_from_same z.msg.to y ends.1, laws.0 (comes.0 of.0 of.1 (of.2 ∙ sym from) of.3) parts.1)
        by false other found rest = rest found

    pub came : AllByRecursion (λ z. z.fate ≡ fates.Delivered → kind z.msg.kind ≡ true → Q z.msg) f.net.packets → was_sent kind said x y ≡ true → (m : Msg) × (m.from ≡ x) × (m.to ≡ y) × Q m
    came laws is = sent_so f.net.packets laws ended.messages is

  -- ---- a sealed branch

  pub root_of : (x : BranchId) → Of x → p.root x ≡ root
  root_of x of = trees.root_is bs said known of.0 x of.1 of.2 ∙ of.3

  pub learns : (x : BranchId) → Of x → (m : ℕ) → exit e x ≡ Some (Sealed m) → (n : ℕ) × (learned e x ≡ Some (decisions.Commit n)) × (forced e x ≡ None)
  learns x of m sealed = sealed_ended t whole p root (events_lawful t whole) ended.ended x m sealed (root_of x of)

  -- ---- a row of the transaction

  module _ (n : ℕ) (k : NodeState) (up : node_at f n ≡ Some k) (s : KeptRow) (at : kept_row_at k s.me ≡ Some s) (of_root : s.root ≡ root) where
    abbrev x : BranchId
    x = s.me

    abbrev ks : List KeptRow
    ks = k.stored.durable.kept

    its : (P : KeptRow → Type 0) → AllByRecursion P ks → P s
    its P all = all_found P kept_row_id ks x s all at

    born : KeptIs (Began bs) s
    born = its (KeptIs (Began bs)) (nodes_name_the_born t whole n k up).1

    pub of_row : Of x
    of_row = (born.born, born.began, born.is_me, born.is_root ∙ of_root)

    row_is : RowIs e s
    row_is = its (RowIs e) (nodes_are_as_events t whole n k up).1

    here : x.node ≡ n
    here = its (λ (y : KeptRow). y.me.node ≡ n) (ids_name_their_node t whole n k up).rows

    up_here : node_at f x.node ≡ Some k
    up_here = subst (λ j. node_at f j ≡ Some k) (sym here) up

    way : RowFits p x s.toward
    way = its (λ (y : KeptRow). RowFits p y.me y.toward) (rows_fit t whole t.trace part n k up)

    tells : RowTells said e s
    tells = elim (its (λ (y : KeptRow). RowTells said e y ⊎ NodeHasStopped f y.me) (rows_tell t whole n k up)) [ inl so ↦ so | inr stopped ↦ absurd (up_still x of_row stopped) ]

    -- it is sealed, or it decided
    pub left : ((m : ℕ) × (exit e x ≡ Some (Sealed m))) ⊎ ((m : ℕ) × (exit e x ≡ Some (Decided m)))
    left = by s.decision row_is.known
      where
        by : (d : Option Decision) → IsKnown e s d → ((m : ℕ) × (exit e x ≡ Some (Sealed m))) ⊎ ((m : ℕ) × (exit e x ≡ Some (Decided m)))
        by None is = inl (s.scn, is.0)
        by (Some (decisions.Commit m)) (inl decided) = inr (m, decided)
        by (Some (decisions.Commit m)) (inr learnt) = inl (i.learned_sealed x (decisions.Commit m) learnt)
        by (Some decisions.Rollback) is = inl (i.learned_sealed x decisions.Rollback is)

    exit_is : (z : Exit) × (exit e x ≡ Some z) × (z ≢ Dropped)
    exit_is = elim left [ inl sealed ↦ (Sealed sealed.0, sealed.1, λ no. absurd cc) | inr decided ↦ (Decided decided.0, decided.1, λ no. absurd cc) ]

    -- it knows the commit, and was never forced
    knows_at : (m : ℕ) × Knows e x m
    knows_at = elim left [ inl sealed ↦ (let it = learns x of_row sealed.0 sealed.1 in (it.0, inr it.1)) | inr decided ↦ (decided.0, inl decided.1) ]

    not_rolled : learned e x ≡ Some decisions.Rollback → ⊥
    not_rolled rolled = elim left [
      | inl sealed ↦ (let it = (learns x of_row sealed.0 sealed.1).1 in absurd (cc (it, rolled)))
      | inr decided ↦ (let it = (i.learned_sealed x decisions.Rollback rolled).1 in let is = decided.1 in absurd (cc (it, is)))
    ]

    knows : knows_commit s.decision ≡ true
    knows = knows_it e s s.decision knows_at.0 row_is.known knows_at.1 not_rolled

    not_forced : (o : Decision) → forced e x ≡ Some o → ⊥
    not_forced o was = elim left [
      | inl sealed ↦ (let none = (learns x of_row sealed.0 sealed.1).2 in absurd (cc (none, was)))
      | inr decided ↦ (let it = (i.forced_sealed x o was).1 in let is = decided.1 in absurd (cc (it, is)))
    ]

    unforced : is_forced s.state ≡ false
    unforced = by s.state row_is.force
      where
        by : (q : State) → IsForcedAs e x q s.decision → is_forced q ≡ false
        by states.Sealed is = refl
        by states.Committed is = refl
        by (states.ForcedCommit m) is = absurd (not_forced (decisions.Commit m) is)
        by states.ForcedRollback is = absurd (not_forced decisions.Rollback is)

    fresh : s.forgot ≡ false
    fresh = tells.plain unforced

    pub never_forgot : Has (Forget x) e → ⊥
    never_forgot has = (let yes : s.forgot ≡ true = tells.forgets has in let none = fresh in absurd (cc (yes, none)))

    -- ---- a neighbour that is not toward

    module _ (y : Neighbor) (among : IsIn y (beyond s)) where
      abbrev c : BranchId
      c = y.branch

      off : IsOff (Began bs) s born c
      off = in_all (λ (z : Neighbor). IsOff (Began bs) s born z.branch) (beyond s) y (beyond_off (Began bs) s born) among

      sealed_c : IsSealed e c
      sealed_c = in_all (λ (z : Neighbor). IsSealed e z.branch) (beyond s) y tells.sealed among

      parent_child : s.parent ≡ Some c → IsChild (Began bs) x c
      parent_child is = (born.born, born.began, born.is_me, born.is_parent ∙ is)

      edge : Beyond p c x
      edge = elim off.1 [
        | inl above ↦ parent_beyond t whole x c s.toward way off.0 (parent_child above) exit_is.0 exit_is.1 exit_is.2
        | inr below ↦ child_beyond t whole x c s.toward way off.0 below (Sealed sealed_c.0) sealed_c.1 (λ no. absurd cc)
      ]

      of_c : Of c
      of_c = elim off.1 [
        | inl above ↦ (let up_one = trees.below_of bs said known born.born c born.began (born.is_parent ∙ above) in (up_one.up, up_one.began, up_one.is_me, up_one.is_root ∙ (born.is_root ∙ of_root)))
        | inr below ↦ (let up_one = trees.below_of bs said known below.0 x below.1 below.3 in
            let it : up_one.up ≡ born.born = trees.same_born bs said known up_one.up born.born up_one.began born.began (up_one.is_me ∙ sym born.is_me) in
            (below.0, below.1, below.2, sym up_one.is_root ∙ (ap (λ (z : Born). z.root) it ∙ (born.is_root ∙ of_root))))
      ]

      further : p.far x < p.far c
      further = subst (λ z. p.far z < p.far c) edge.next ((runs_have_forests t whole).nearer c edge.member edge.not_site)

      -- the Ack that it sent is held
      held : was_sent is_ack said c x ≡ true → y.acked ≡ true
      held sent =
          let it = came is_ack (λ m. Beyond p m.from m.to → IsSealed e m.from → IsNoted f m.from m.to) c x of_c (acks_are_noted t whole) sent in
          let noted : IsNoted f c x = subst (λ z. IsNoted f z x) it.1 (subst (λ z. IsNoted f it.0.from z) it.2 (it.3 (subst (λ z. Beyond p z it.0.to) (sym it.1) (subst (Beyond p c) (sym it.2) edge)) (subst (IsSealed e) (sym it.1) sealed_c))) in
          elim (noted k up_here) [
            | inl low ↦ absurd (up_still x of_row (λ j there. low))
            | inr rows ↦ (let holds : x ≡ x → HoldsAck c s = its (λ (z : KeptRow). z.me ≡ x → HoldsAck c z) rows in in_all (λ (z : Neighbor). z.branch ≡ c → z.acked ≡ true) (beyond s) y (holds refl) among refl)
          ]

      -- ---- what it sent, where it has no row

      abbrev kc : NodeState
      kc = (up_at c of_c).0

      up_c : node_at f c.node ≡ Some kc
      up_c = (up_at c of_c).1

      not_live : live_at kc c ≡ None
      not_live = by (live_at kc c) refl
        where
          by : (o : Option Live) → live_at kc c ≡ o → o ≡ None
          by None is = refl
          by (Some l) is =
              let none : exit e l.me ≡ None = all_found (λ (z : Live). exit e z.me ≡ None) live_id kc.lives c l (nodes_are_as_events t whole c.node kc up_c).0 is in
              let mine : exit e c ≡ None = subst (λ z. exit e z ≡ None) (item_is live_id kc.lives c l is) none in
              let sealed = sealed_c.1 in
              absurd (cc (mine, sealed))

      forgot_sent : Has (Forget c) e → was_sent is_ack said c x ≡ true
      forgot_sent has =
          let told : Has (Send_forgotten (p.toward c) c) e = forgets_come_from_toward t whole c has sealed_c in
          elim (i.forgottens x c (subst (λ q. Has (Send_forgotten q c) e) edge.next told) edge) [
            | inl sent ↦ ack_sent c x t whole sent
            | inr quiet ↦ (let sealed = sealed_c.1 in absurd (cc (quiet, sealed)))
          ]

      none_sent : kept_row_at kc c ≡ None → was_sent is_ack said c x ≡ true
      none_sent none = elim (gone_are_done t whole c kc up_c (gone_so kc c (none_live kc c not_live) none) sealed_c.0 sealed_c.1) [
        | inl rolled ↦ (let it = (learns c of_c sealed_c.0 sealed_c.1).1 in absurd (cc (it, rolled)))
        | inr forgot ↦ forgot_sent forgot
      ]

  -- its row, by its node
  pub row_of : (n : ℕ) (k : NodeState) → node_at f n ≡ Some k → (x : BranchId) → Of x → (r : KeptRow) → kept_row_at k x ≡ Some r → (kept_row_at k r.me ≡ Some r) × (r.root ≡ root) × (r.me ≡ x)
  row_of n k up x of r at =
      let me : r.me ≡ x = item_is kept_row_id k.stored.durable.kept x r at in
      let named : KeptIs (Began bs) r = all_found (KeptIs (Began bs)) kept_row_id k.stored.durable.kept x r (nodes_name_the_born t whole n k up).1 at in
      let it : named.born ≡ of.0 = trees.same_born bs said known named.born of.0 named.began of.1 (named.is_me ∙ (me ∙ sym of.2)) in
      (subst (λ z. kept_row_at k z ≡ Some r) (sym me) at, sym named.is_root ∙ (ap (λ (z : Born). z.root) it ∙ of.3), me)

  -- a row that has heard all those beyond said Ack toward the site
  pub said_ack : (n : ℕ) (k : NodeState) (up : node_at f n ≡ Some k) (s : KeptRow) (at : kept_row_at k s.me ≡ Some s) (of_root : s.root ≡ root) → all_acked s ≡ true → (s.me ≢ site_of p s.me) × (was_sent is_ack said s.me (p.toward s.me) ≡ true)
  said_ack n k up s at of_root all =
      let told : SaidAck said s = (tells n k up s at of_root).acks (knows n k up s at of_root) (fresh n k up s at of_root) all in
      elim (way n k up s at of_root) [
        | inl on ↦ (let both : Some (p.toward s.me) ≡ Some told.0 = sym on.0 ∙ told.1 in let it : p.toward s.me ≡ told.0 = cc in (on.2, subst (λ q. was_sent is_ack said s.me q ≡ true) (sym it) told.2))
        | inr site ↦ (let none = site.0 in let some = told.1 in absurd (cc (none, some)))
      ]

  -- ---- all those beyond acknowledged, the farthest first

  abbrev most : ℕ
  most = deepest bs + deepest bs + 1

  far_most : (b : BranchId) → p.far b ≤ most
  far_most b = far_low (comes_to said b (parent_in (born_at bs b))) (depth_at bs (site_from bs said (root_in b (born_at bs b)))) (depth_at bs b) (deepest bs) (deep_low bs (site_from bs said (root_in b (born_at bs b)))) (deep_low bs b)

  -- rows farther away than this have heard all
  abbrev FartherHave : ℕ → Type 0
  FartherHave far = (n : ℕ) (k : NodeState) (up : node_at f n ≡ Some k) (s : KeptRow) → kept_row_at k s.me ≡ Some s → s.root ≡ root → far < p.far s.me → all_acked s ≡ true

  one_acked : (n : ℕ) (k : NodeState) (up : node_at f n ≡ Some k) (s : KeptRow) (at : kept_row_at k s.me ≡ Some s) (of_root : s.root ≡ root) → FartherHave (p.far s.me) → all_acked s ≡ true
  one_acked n k up s at of_root farther = all_true (beyond s) (all_in (λ (y : Neighbor). y.acked ≡ true) (beyond s) (λ y among. held n k up s at of_root y among (sent y among)))
    where
      sent : (y : Neighbor) → IsIn y (beyond s) → was_sent is_ack said y.branch s.me ≡ true
      sent y among = by (kept_row_at (kc n k up s at of_root y among) y.branch) refl
        where
          by : (o : Option KeptRow) → kept_row_at (kc n k up s at of_root y among) y.branch ≡ o → was_sent is_ack said y.branch s.me ≡ true
          by None none = none_sent n k up s at of_root y among none
          by (Some r) found =
              let kept : NodeState = kc n k up s at of_root y among in
              let there : node_at f y.branch.node ≡ Some kept = up_c n k up s at of_root y among in
              let row = row_of y.branch.node kept there y.branch (of_c n k up s at of_root y among) r found in
              let edge_y : Beyond p y.branch s.me = edge n k up s at of_root y among in
              let far : p.far s.me < p.far r.me = subst (λ z. p.far s.me < p.far z) (sym row.2) (further n k up s at of_root y among) in
              let told = (said_ack y.branch.node kept there r row.0 row.1 (farther y.branch.node kept there r row.0 row.1 far)).1 in
              subst (λ q. was_sent is_ack said y.branch q ≡ true) edge_y.next (subst (λ z. was_sent is_ack said z (p.toward z) ≡ true) row.2 told)

  acked_by_far : (fuel : ℕ) (n : ℕ) (k : NodeState) (up : node_at f n ≡ Some k) (s : KeptRow) → kept_row_at k s.me ≡ Some s → s.root ≡ root → most ≤ p.far s.me + fuel → all_acked s ≡ true
  acked_by_far zero n k up s at of_root low = one_acked n k up s at of_root (λ m j there r found its_root far. (let high = far_most r.me in absurd (omega (arith, low, far, high))))
  acked_by_far (suc fuel) n k up s at of_root low = one_acked n k up s at of_root (λ m j there r found its_root far. acked_by_far fuel m j there r found its_root (omega (arith, low, far)))

  pub all_have : (n : ℕ) (k : NodeState) (up : node_at f n ≡ Some k) (s : KeptRow) → kept_row_at k s.me ≡ Some s → s.root ≡ root → all_acked s ≡ true
  all_have n k up s at of_root = acked_by_far most n k up s at of_root (omega arith)
