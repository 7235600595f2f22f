-- In an undisturbed COMMIT each message of the transaction came, no rollback came to its branches, and from the COMMIT on
-- there are whole turns alone: the one of the COMMIT, deliveries, and the CREATE itself whose COMMIT it is.
use Rattle.std.proofs.Common.{◌≡◌, ℕ, ◌&&◌, ◌||◌, Bool, true, false, List, [], ◌∷◌, ◌++◌, map, Option, Some, None, inl, inr, refl, sym, ap, subst, ◌∙◌}
use Rattle.std.specs.Prelude.{◌⊎◌}
use Rattle.std.specs.List.{AllByRecursion}
use Rattle.std.proofs.lemmas.Bool.{and_parts}
use Rattle.std.proofs.lemmas.List.{append_assoc}
use Rattle.tran_ids.proofs.BranchLemmas.{equal_from_same}
use Rattle.node_rules.specs.Data.{BranchId, Kind, Input}
use Rattle.node_rules.specs.Data.inputs
use Rattle.node_rules.specs.Data.kinds
use Rattle.node_rules.specs.Data.stmts
use Rattle.node_rules.specs.Inputs.{Came, IsCall}
use Rattle.node_rules.specs.NodeState.{NodeState}
use Rattle.node_rules.specs.Words.{same}
use Rattle.run_rules.specs.Births.{Born, births_of}
use Rattle.run_base_laws.specs.BirthLaws.{Began}
use Rattle.run_rules.specs.Branches.{is_among}
use Rattle.run_rules.specs.Data.{Packet, Took, Turn, Happening}
use Rattle.run_rules.specs.Data.fates
use Rattle.run_rules.specs.Data.happenings
use Rattle.run_rules.specs.Facts.{Facts}
use Rattle.run_base_laws.specs.FreezeLaws.{was_asked}
use Rattle.run_base_laws.specs.InTurnLaws.{packet_post, said_in}
use Rattle.run_rules.specs.Lawful.{Comes, History, IsLawfulRun, facts_at}
use Rattle.run_rules.specs.Trail.{is_prepare}
use Rattle.run_branch_laws.specs.WalkLaws.{was_sent}
use Rattle.run_base_laws.proofs.TurnEventLemmas.{all_both}
use Rattle.commit_laws.specs.DeliveryLaws.{CameInTurn, IsBusy}
use Rattle.run_claims.specs.Undisturbed.{Commit, Undisturbed, branches_in, NoneComesIn, IsFirstDelivery, IsCreateTurn, IsInCourse, is_create, disturbs, is_disturbed}
use Rattle.commit_laws.specs.WaitLaws.{AllCame}
use Rattle.commit_laws.proofs.CameLemmas.{deliveries_came}
use Rattle.commit_laws.proofs.HeardLemmas.{prepares_are_heard}
use Rattle.commit_laws.proofs.ListLemmas.{all_at}
use Rattle.commit_laws.proofs.StillLemmas.{among}
use Rattle.commit_point_laws.specs.PointLaws.{is_point, IsNotLive}
use Rattle.commit_point_laws.specs.RootLaws.{is_rollback}
use Rattle.commit_point_laws.proofs.HeardLemmas.{points_are_heard}
use Rattle.tree_laws.proofs.DecideLemmas.{cancel}

-- ---- lists

-- a message that was sent is among the packets
module _ (kind : Kind → Bool) (P : Packet → Type 0) (a b : BranchId) where
  -- One that is so.
  pub record SentSo : Type 0 where
    pub packet : Packet
    pub is_from : packet.msg.from ≡ a
    pub is_to : packet.msg.to ≡ b
    pub is_kind : kind packet.msg.kind ≡ true
    pub so : P packet

  packet_found : (xs : List Packet) → AllByRecursion P xs → was_sent kind (map packet_post xs) a b ≡ true → SentSo
  packet_found [] all is = absurd cc
  packet_found (x ∷ xs) all is = by ((same x.msg.from a && same x.msg.to b) && kind x.msg.kind) refl is (packet_found xs all.1)
    where
      by : (q : Bool) → ((same x.msg.from a && same x.msg.to b) && kind x.msg.kind) ≡ q → (q || was_sent kind (map packet_post xs) a b) ≡ true → (was_sent kind (map packet_post xs) a b ≡ true → SentSo) → SentSo
      by true here found rest =
          let parts = and_parts (same x.msg.from a && same x.msg.to b) (kind x.msg.kind) here in
          let ends = and_parts (same x.msg.from a) (same x.msg.to b) parts.0 in
          record { packet = x; is_from = equal_from_same x.msg.from a ends.0; is_to = equal_from_same x.msg.to b ends.1; is_kind = parts.1; so = all.0 }
      by false here found rest = rest found

rollback_disturbs : (kind : Kind) → is_rollback kind ≡ true → disturbs kind ≡ true
rollback_disturbs kinds.Rollback is = refl
rollback_disturbs _ is = absurd cc

-- ---- turns

-- a turn that takes a message has it as its input
pub took_message : (f : Facts) (k : NodeState) (n : ℕ) (input : Input) (took : Option Took) (x : Took) → took ≡ Some x → Comes f k n input took → (m : _) × (input ≡ inputs.Message m)
took_message f k n (inputs.Message m) took x is comes = (m, refl)
took_message f k n (inputs.Call session s) (Some y) x is comes = absurd comes
took_message f k n (inputs.Call session s) None x is comes = absurd cc
took_message f k n (inputs.GiveUp session) (Some y) x is comes = absurd comes
took_message f k n (inputs.GiveUp session) None x is comes = absurd cc
took_message f k n inputs.Reco (Some y) x is comes = absurd comes
took_message f k n inputs.Checkpoint (Some y) x is comes = absurd comes
took_message f k n inputs.Reco None x is comes = absurd cc
took_message f k n inputs.Checkpoint None x is comes = absurd cc

module _ (t : History) (whole : IsLawfulRun t) (c : Commit t.places t.commands t.trace) (u : Undisturbed t.places t.commands t.trace c) where
  abbrev bs : List Born
  bs = births_of t

  -- no rollback comes to a branch of the transaction
  pub never_disturbed : (hs : List Happening) (w : Turn) (rest : List Happening) → hs ++ happenings.Turn w ∷ rest ≡ t.trace → (b : Born) → Began bs b → b.root ≡ c.root → (from : BranchId) (kind : Kind) → disturbs kind ≡ true → Came w.input from b.me kind → ⊥
  never_disturbed hs w rest is b began of from kind disturbing came =
      let calm : is_disturbed (branches_in bs c.root) w.input ≡ false
      = all_at (NoneComesIn (branches_in bs c.root)) hs (happenings.Turn w) rest (subst (λ xs. AllByRecursion (NoneComesIn (branches_in bs c.root)) xs) (sym is) u.calm) in
      let here : (is_among b.me (branches_in bs c.root) && disturbs kind) ≡ false = sym (ap (is_disturbed (branches_in bs c.root)) came.is) ∙ calm in
      let there : (is_among b.me (branches_in bs c.root) && disturbs kind) ≡ true = ap (λ q. q && disturbs kind) (among t whole c u b began of) ∙ disturbing in
      absurd (cc (here, there))

  -- ---- from the COMMIT on

  -- A whole turn, of the call of the COMMIT, of a message, or of a CREATE.
  pub record IsPlain (h : Happening) : Type 0 where
    pub turn : Turn
    pub is : h ≡ happenings.Turn turn
    pub uncut : turn.cut ≡ false
    pub comes : ((n : ℕ) × (comment : Option (List ℕ)) × IsCall turn.input n (stmts.Commit comment)) ⊎ (((x : Took) × (turn.took ≡ Some x)) ⊎ (is_create turn.input ≡ true))

  delivery_plain : (h : Happening) → IsFirstDelivery h → IsPlain h
  delivery_plain (happenings.Turn w) is = record { turn = w; is = refl; uncut = is.0; comes = inr (inl (_, is.2)) }
  delivery_plain (happenings.Stopped n) is = absurd is
  delivery_plain (happenings.Started n boot) is = absurd is
  delivery_plain (happenings.Begun n) is = absurd is
  delivery_plain (happenings.Cut a b) is = absurd is
  delivery_plain (happenings.Join a b) is = absurd is
  delivery_plain (happenings.Lost n) is = absurd is

  create_plain : (h : Happening) → IsCreateTurn h → IsPlain h
  create_plain (happenings.Turn w) is = record { turn = w; is = refl; uncut = is.0; comes = inr (inr is.1) }
  create_plain (happenings.Stopped n) is = absurd is
  create_plain (happenings.Started n boot) is = absurd is
  create_plain (happenings.Begun n) is = absurd is
  create_plain (happenings.Cut a b) is = absurd is
  create_plain (happenings.Join a b) is = absurd is
  create_plain (happenings.Lost n) is = absurd is

  course_plain : (h : Happening) → IsInCourse h → IsPlain h
  course_plain h is = elim is [ inl delivery ↦ delivery_plain h delivery | inr create ↦ create_plain h create ]

  pub plain : (since : List Happening) (h : Happening) (rest : List Happening) → (c.before ++ since) ++ h ∷ rest ≡ t.trace → IsPlain h
  plain since h rest is = by since (cancel c.before (since ++ h ∷ rest) (happenings.Turn c.call ∷ c.during) (sym (append_assoc c.before since (h ∷ rest)) ∙ (is ∙ sym c.is)))
    where
      by : (xs : List Happening) → xs ++ h ∷ rest ≡ happenings.Turn c.call ∷ c.during → IsPlain h
      by [] it = (let here : h ≡ happenings.Turn c.call = cc in record { turn = c.call; is = here; uncut = u.whole; comes = inl (c.session, c.comment, c.asks) })
      by (x ∷ xs) it =
          let later : xs ++ h ∷ rest ≡ c.during = (let both : x ∷ (xs ++ h ∷ rest) ≡ happenings.Turn c.call ∷ c.during = it in cc) in
          course_plain h (all_at IsInCourse xs h rest (subst (λ ys. AllByRecursion IsInCourse ys) (sym later) u.course))

  -- ---- messages

  module _ (all : AllCame t c.root) (a : Born) (began : Began bs a) (of : a.root ≡ c.root) (b : BranchId) where
    abbrev IfSent : Packet → Type 0
    IfSent x = (y : Born) → Began bs y → y.me ≡ x.msg.from → y.root ≡ c.root → x.fate ≡ fates.Delivered

    -- CommitPoint from a branch of the transaction was heard
    pub point_heard : was_sent is_point (said_in (facts_at t)) a.me b ≡ true → IsNotLive (facts_at t) b
    point_heard sent =
        let x : SentSo is_point (λ y. IfSent y × (y.fate ≡ fates.Delivered → is_point y.msg.kind ≡ true → IsNotLive (facts_at t) y.msg.to)) a.me b
        = packet_found is_point (λ y. IfSent y × (y.fate ≡ fates.Delivered → is_point y.msg.kind ≡ true → IsNotLive (facts_at t) y.msg.to)) a.me b (facts_at t).net.packets
        (all_both IfSent (λ y. y.fate ≡ fates.Delivered → is_point y.msg.kind ≡ true → IsNotLive (facts_at t) y.msg.to) (facts_at t).net.packets all.messages (points_are_heard t whole)) sent in
        subst (IsNotLive (facts_at t)) x.is_to (x.so.1 (x.so.0 a began (sym x.is_from) of) x.is_kind)

    -- so was Prepare
    pub prepare_heard : was_asked (said_in (facts_at t)) a.me b ≡ true → IsBusy (facts_at t) b
    prepare_heard sent =
        let x : SentSo is_prepare (λ y. IfSent y × (y.fate ≡ fates.Delivered → is_prepare y.msg.kind ≡ true → IsBusy (facts_at t) y.msg.to)) a.me b
        = packet_found is_prepare (λ y. IfSent y × (y.fate ≡ fates.Delivered → is_prepare y.msg.kind ≡ true → IsBusy (facts_at t) y.msg.to)) a.me b (facts_at t).net.packets
        (all_both IfSent (λ y. y.fate ≡ fates.Delivered → is_prepare y.msg.kind ≡ true → IsBusy (facts_at t) y.msg.to) (facts_at t).net.packets all.messages (prepares_are_heard t whole)) sent in
        subst (IsBusy (facts_at t)) x.is_to (x.so.1 (x.so.0 a began (sym x.is_from) of) x.is_kind)

  -- no branch of the transaction sends another one Rollback
  pub none_rolled : AllCame t c.root → (a b : Born) → Began bs a → a.root ≡ c.root → Began bs b → b.root ≡ c.root → was_sent is_rollback (said_in (facts_at t)) a.me b.me ≡ true → ⊥
  none_rolled all a b began of begun its sent =
      let x : SentSo is_rollback (λ y. ((z : Born) → Began bs z → z.me ≡ y.msg.from → z.root ≡ c.root → y.fate ≡ fates.Delivered) × (y.fate ≡ fates.Delivered → CameInTurn t.trace y.msg)) a.me b.me
      = packet_found is_rollback (λ y. ((z : Born) → Began bs z → z.me ≡ y.msg.from → z.root ≡ c.root → y.fate ≡ fates.Delivered) × (y.fate ≡ fates.Delivered → CameInTurn t.trace y.msg)) a.me b.me (facts_at t).net.packets
      (all_both (λ y. (z : Born) → Began bs z → z.me ≡ y.msg.from → z.root ≡ c.root → y.fate ≡ fates.Delivered) (λ y. y.fate ≡ fates.Delivered → CameInTurn t.trace y.msg) (facts_at t).net.packets all.messages (deliveries_came t whole)) sent in
      let came : CameInTurn t.trace x.packet.msg = x.so.1 (x.so.0 a began (sym x.is_from) of) in
      never_disturbed came.before came.turn came.later came.is b begun its x.packet.msg.from x.packet.msg.kind (rollback_disturbs x.packet.msg.kind x.is_kind)
      (subst (λ i. Came came.turn.input x.packet.msg.from i x.packet.msg.kind) x.is_to (record { scn = x.packet.msg.scn; is = came.input }))
