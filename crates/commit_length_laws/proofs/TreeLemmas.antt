-- The branches of the transaction of a COMMIT: who is one by the messages of its course, and what nodes keep of them. The message that a
-- delivery takes.
use Rattle.std.proofs.Common.{◌≡◌, ℕ, ◌&&◌, Bool, true, false, List, [], ◌∷◌, ◌++◌, Option, Some, None, inl, inr, refl, sym, ap, subst, ◌∙◌}
use Rattle.std.specs.List.{AllByRecursion}
use Rattle.tran_ids.proofs.ListedLemmas.{item_is}
use Rattle.node_rules.specs.Data.{BranchId, Input, Kind, Live, Msg, KeptRow}
use Rattle.node_rules.specs.Data.inputs
use Rattle.node_rules.specs.Data.kinds
use Rattle.node_rules.specs.NodeState.{NodeState, live_id, live_at, kept_row_id, kept_row_at}
use Rattle.net_bag.specs.Net.{packet_at}
use Rattle.run_rules.specs.Births.{Born, births_of}
use Rattle.run_base_laws.specs.BirthLaws.{Began, GoesSo, IsChild, AreNeighbors, LiveIs, KeptIs}
use Rattle.run_rules.specs.Data.{Packet, Took, Happening}
use Rattle.run_rules.specs.Data.fates
use Rattle.run_rules.specs.Facts.{Facts, node_at}
use Rattle.run_base_laws.specs.InTurnLaws.{said_in}
use Rattle.run_rules.specs.Lawful.{Comes, History, IsLawfulRun, facts_at}
use Rattle.run_base_laws.proofs.BirthRunLemmas.{nodes_name_the_born}
use Rattle.run_base_laws.proofs.OwnLemmas.{all_found}
use Rattle.tree_laws.proofs.ForestLemmas as trees
use Rattle.tree_laws.proofs.ForestRunLemmas.{run_known}
use Rattle.tree_laws.proofs.TimeLemmas.{born_end}
use Rattle.run_claims.specs.Undisturbed.{Commit}
use Rattle.commit_length_laws.proofs.SayLemmas.{in_course}
use Rattle.tree_laws.proofs.AtTurn.{at_happening}

-- what is so of each item is so of one in the midst
pub mid_all : {A : Type 0} (P : A → Type 0) (pre : List A) (h : A) (post : List A) → AllByRecursion P (pre ++ h ∷ post) → P h
mid_all P [] h post all = all.0
mid_all P (p ∷ pre) h post all = mid_all P pre h post all.1

pub second_false : (p q : Bool) → (p && q) ≡ false → p ≡ true → q ≡ false
second_false true q is here = is
second_false false q is here = absurd cc

-- A delivery takes a message that is in flight.
pub record Taken (f : Facts) (node number : ℕ) (input : Input) : Type 0 where
  pub message : Msg
  pub packet : Packet
  pub input_is : input ≡ inputs.Message message
  pub sent : packet_at f.net number ≡ Some packet
  pub same_message : packet.msg ≡ message
  pub here : message.to.node ≡ node
  pub flying : packet.fate ≡ fates.InFlight

pub take_it : (f : Facts) (k : NodeState) (node number : ℕ) (input : Input) (took : Option Took) → Comes f k node input took → took ≡ Some (record { number = number; again = false }) → Taken f node number input
take_it f k node number (inputs.Message m) (Some i) comes is =
    let both : Some i ≡ Some (record { number = number; again = false }) = is in
    let it : i ≡ record { number = number; again = false } = cc in
    record {
      message = m;
      packet = comes.0;
      input_is = refl;
      sent = subst (λ (j : Took). packet_at f.net j.number ≡ Some comes.0) it comes.1.sent;
      same_message = comes.1.same;
      here = comes.1.here;
      flying = comes.1.once (ap (λ (j : Took). j.again) it);
    }
take_it f k node number (inputs.Message m) None comes is = absurd comes
take_it f k node number (inputs.Call n s) (Some i) comes is = absurd comes
take_it f k node number (inputs.Call n s) None comes is = absurd cc
take_it f k node number (inputs.GiveUp n) (Some i) comes is = absurd comes
take_it f k node number (inputs.GiveUp n) None comes is = absurd cc
take_it f k node number inputs.Reco (Some i) comes is = absurd comes
take_it f k node number inputs.Checkpoint (Some i) comes is = absurd comes
take_it f k node number inputs.Reco None comes is = absurd cc
take_it f k node number inputs.Checkpoint None comes is = absurd cc

module _ (t : History) (whole : IsLawfulRun t) (c : Commit t.places t.commands t.trace) where
  abbrev bs : List Born
  bs = births_of t

  known : trees.Known bs (said_in (facts_at t))
  known = run_known t whole

  -- a branch of its transaction
  abbrev pub InTree : BranchId → Type 0
  InTree b = (x : Born) × Began bs x × (x.me ≡ b) × (x.root ≡ c.root)

  up_in : (a b : BranchId) → IsChild (Began bs) a b → InTree a → InTree b
  up_in a b kid mine =
      let it : kid.0 ≡ mine.0 = trees.same_born bs (said_in (facts_at t)) known kid.0 mine.0 kid.1 mine.1 (kid.2 ∙ sym mine.2) in
      let y = trees.below_of bs (said_in (facts_at t)) known kid.0 b kid.1 kid.3 in
      (y.up, y.began, y.is_me, (y.is_root ∙ (ap (λ (z : Born). z.root) it ∙ mine.3)))

  down_in : (a b : BranchId) → IsChild (Began bs) a b → InTree b → InTree a
  down_in a b kid mine =
      let y = trees.below_of bs (said_in (facts_at t)) known kid.0 b kid.1 kid.3 in
      let it : y.up ≡ mine.0 = trees.same_born bs (said_in (facts_at t)) known y.up mine.0 y.began mine.1 (y.is_me ∙ sym mine.2) in
      (kid.0, kid.1, kid.2, (sym y.is_root ∙ (ap (λ (z : Born). z.root) it ∙ mine.3)))

  next_in : (a b : BranchId) → AreNeighbors (Began bs) a b → InTree a → InTree b
  next_in a b (inl kid) mine = up_in a b kid mine
  next_in a b (inr kid) mine = down_in b a kid mine

  -- a message of the course, sent by a branch of the transaction
  abbrev pub Course : Msg → Type 0
  Course m = (in_course m.kind ≡ true) × InTree m.from

  module _ (hs : List Happening) (h : Happening) (rest : List Happening) (is : hs ++ h ∷ rest ≡ t.trace) where
    open at_happening t whole hs h rest is use {f, s, part, lawful}

    wide : (a b : BranchId) → IsChild (Began (births_of s)) a b → IsChild (Began bs) a b
    wide a b kid = (kid.0, born_end t whole hs part kid.0 kid.1, kid.2, kid.3)

    wide_next : (a b : BranchId) → AreNeighbors (Began (births_of s)) a b → AreNeighbors (Began bs) a b
    wide_next a b (inl kid) = inl (wide a b kid)
    wide_next a b (inr kid) = inr (wide b a kid)

    pub to_in : (from to : BranchId) (kind : Kind) → in_course kind ≡ true → GoesSo (Began (births_of s)) from to kind → InTree from → InTree to
    to_in from to (kinds.Prepare b d) so goes mine = down_in to from (wide to from goes) mine
    to_in from to kinds.Prepared so goes mine = up_in from to (wide from to goes) mine
    to_in from to kinds.ReadOnly so goes mine = up_in from to (wide from to goes) mine
    to_in from to kinds.Ready so goes mine = up_in from to (wide from to goes) mine
    to_in from to kinds.Abort so goes mine = up_in from to (wide from to goes) mine
    to_in from to kinds.CommitPoint so goes mine = down_in to from (wide to from goes) mine
    to_in from to (kinds.Committed n) so goes mine = next_in from to (wide_next from to goes) mine
    to_in from to kinds.Ack so goes mine = next_in from to (wide_next from to goes) mine
    to_in from to kinds.Forgotten so goes mine = next_in from to (wide_next from to goes) mine
    to_in from to kinds.Rollback so goes mine = down_in to from (wide to from goes) mine
    to_in from to kinds.RolledBack so goes mine = next_in from to (wide_next from to goes) mine
    to_in from to (kinds.Open i r d a) so goes mine = absurd cc
    to_in from to (kinds.Opened i r) so goes mine = absurd cc
    to_in from to (kinds.Exec i task) so goes mine = absurd cc
    to_in from to (kinds.Reply i r d x) so goes mine = absurd cc
    to_in from to kinds.InDoubt so goes mine = absurd cc
    to_in from to kinds.Ask so goes mine = absurd cc

    -- ---- what nodes keep of it

    pub live_of : (n : ℕ) (k : NodeState) → node_at f n ≡ Some k → (b : BranchId) → InTree b → (l : Live) → live_at k b ≡ Some l → l.root ≡ c.root
    live_of n k up b mine l live =
        let me : l.me ≡ b = item_is live_id k.lives b l live in
        let it : LiveIs (Began (births_of s)) l = all_found (LiveIs (Began (births_of s))) live_id k.lives b l (nodes_name_the_born s lawful n k up).0 live in
        let one : it.born ≡ mine.0 = trees.same_born bs (said_in (facts_at t)) known it.born mine.0 (born_end t whole hs part it.born it.began) mine.1 (it.is_me ∙ (me ∙ sym mine.2)) in
        sym it.is_root ∙ (ap (λ (z : Born). z.root) one ∙ mine.3)

    pub row_of : (n : ℕ) (k : NodeState) → node_at f n ≡ Some k → (b : BranchId) → InTree b → (r : KeptRow) → kept_row_at k b ≡ Some r → r.root ≡ c.root
    row_of n k up b mine r found =
        let me : r.me ≡ b = item_is kept_row_id k.stored.durable.kept b r found in
        let it : KeptIs (Began (births_of s)) r = all_found (KeptIs (Began (births_of s))) kept_row_id k.stored.durable.kept b r (nodes_name_the_born s lawful n k up).1 found in
        let one : it.born ≡ mine.0 = trees.same_born bs (said_in (facts_at t)) known it.born mine.0 (born_end t whole hs part it.born it.began) mine.1 (it.is_me ∙ (me ∙ sym mine.2)) in
        sym it.is_root ∙ (ap (λ (z : Born). z.root) one ∙ mine.3)

    -- the parent of a live branch is that of which it began
    pub parent_of : (n : ℕ) (k : NodeState) → node_at f n ≡ Some k → (b : BranchId) (l : Live) → live_at k b ≡ Some l → (q : BranchId) → IsChild (Began (births_of s)) b q → l.parent ≡ Some q
    parent_of n k up b l live q kid =
        let me : l.me ≡ b = item_is live_id k.lives b l live in
        let it : LiveIs (Began (births_of s)) l = all_found (LiveIs (Began (births_of s))) live_id k.lives b l (nodes_name_the_born s lawful n k up).0 live in
        let one : it.born ≡ kid.0 = trees.same_born bs (said_in (facts_at t)) known it.born kid.0 (born_end t whole hs part it.born it.began) (born_end t whole hs part kid.0 kid.1) (it.is_me ∙ (me ∙ sym kid.2)) in
        sym it.is_parent ∙ (ap (λ (z : Born). z.parent) one ∙ kid.3)
