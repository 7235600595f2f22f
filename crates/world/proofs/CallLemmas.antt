-- What comes to a node, by what is due: a client's call, a call that is given up, a message, RECO.
use Rattle.std.proofs.Common.{◌≡◌, ℕ, Bool, true, false, true≢false, if◌then◌else◌, option_map, Option, Some, None, refl, ap, sym, subst, ◌∙◌}
use Rattle.msg_codec.specs.Message.{message_of}
use Rattle.net_bag.specs.Net.{Net, is_flying_at, may_deliver, may_pass, may_repeat, packet_at}
use Rattle.node_rules.specs.Data.{Input}
use Rattle.node_rules.specs.Data.inputs
use Rattle.node_disk.specs.declared.incoming.Incoming.TheVariants as comings
use Rattle.node_disk.specs.Incoming.{IsReadAs}
use Rattle.run_rules.specs.Data.{Packet}
use Rattle.run_rules.specs.Due.{Due, Delivers, Gives_up, Pends, Recovers}
use Rattle.run_rules.specs.RunReport.{Call}
use Rattle.run_trace.specs.Recorded.{past_of}
use Rattle.world.specs.declared.world.World.{World}
use Rattle.world.specs.Linked.{IsLinked}
use Rattle.world.specs.Needs.{DueMessagesAreThere, IsTurnDue, due_in}
use Rattle.world.specs.Turns.{IsComingDue, TookIs}
use Rattle.world.proofs.SlotLemmas.{same_of}

module _ (w : World) where
  -- what is read as one input, of which a turn is due
  coming_as : (incoming : _) (n : ℕ) (input : Input) (d : Due) → due_in w.trace ≡ d → IsReadAs incoming input → IsTurnDue (past_of w.trace).facts d n input → IsComingDue incoming n w
  coming_as incoming n input d due read is = record {
    reads = (input, read);
    due = λ other read_other. subst (λ (x : Due). IsTurnDue (past_of w.trace).facts x n other) (sym due)
        (subst (λ (x : Input). IsTurnDue (past_of w.trace).facts d n x) (same_of input other (sym read ∙ read_other)) is);
  }

  -- a client's call
  pub call_coming : (c : Call) → due_in w.trace ≡ Pends c → IsComingDue (comings.Call c.session c.statement) c.node w
  call_coming c due = coming_as (comings.Call c.session c.statement) c.node (inputs.Call c.session c.statement) (Pends c) due refl (refl, refl)

  -- a call that is given up
  pub give_up_coming : (n session : ℕ) → due_in w.trace ≡ Gives_up n session → IsComingDue (comings.GiveUp session) n w
  give_up_coming n session due = coming_as (comings.GiveUp session) n (inputs.GiveUp session) (Gives_up n session) due refl (refl, refl)

  -- RECO
  pub recover_coming : (n : ℕ) → due_in w.trace ≡ Recovers n → IsComingDue comings.Reco n w
  recover_coming n due = coming_as comings.Reco n inputs.Reco (Recovers n) due refl (refl, refl)

  -- none of them takes a message
  pub call_takes : (c : Call) → due_in w.trace ≡ Pends c → TookIs (due_in w.trace) None
  call_takes c due = subst (λ (d : Due). TookIs d None) (sym due) refl

  pub give_up_takes : (n session : ℕ) → due_in w.trace ≡ Gives_up n session → TookIs (due_in w.trace) None
  give_up_takes n session due = subst (λ (d : Due). TookIs d None) (sym due) refl

  pub recover_takes : (n : ℕ) → due_in w.trace ≡ Recovers n → TookIs (due_in w.trace) None
  recover_takes n due = subst (λ (d : Due). TookIs d None) (sym due) refl

  -- ---- a message

  module _ (k : ℕ) (again : Bool) (due : due_in w.trace ≡ Delivers k again) (linked : IsLinked w) where
    pub delivery_takes : TookIs (due_in w.trace) (Some (record { number = k; again = again }))
    delivery_takes = subst (λ (d : Due). TookIs d (Some (record { number = k; again = again }))) (sym due) refl

    -- it is there
    pub message_there : DueMessagesAreThere → (if again then may_repeat w.net k else may_deliver w.net k) ≡ true
    message_there law = ap (λ (net : Net). if again then may_repeat net k else may_deliver net k) linked.held.parts.net ∙ law w.trace k again linked.held.script due

    -- and is read from its bytes, at its node
    message_read : (o : Option Packet) → packet_at w.net k ≡ o → (m : ℕ) (bytes : _) → option_map (λ (x : Packet). x.msg.to.node) o ≡ Some m → option_map (λ (x : Packet). x.msg) o ≡ message_of bytes
        → IsComingDue (comings.Message bytes) m w
    message_read None is m bytes node spelled = absurd cc
    message_read (Some x) is m bytes node spelled =
        coming_as (comings.Message bytes) m (inputs.Message x.msg) (Delivers k again) due (ap (option_map inputs.Message) (sym spelled))
        (x, ap (λ (net : Net). packet_at net k) (sym linked.held.parts.net) ∙ is, same_of m x.msg.to.node (sym node), refl)

    pub message_coming : (m : ℕ) (bytes : _) → option_map (λ (x : Packet). x.msg.to.node) (packet_at w.net k) ≡ Some m → option_map (λ (x : Packet). x.msg) (packet_at w.net k) ≡ message_of bytes → IsComingDue (comings.Message bytes) m w
    message_coming m bytes node spelled = message_read (packet_at w.net k) refl m bytes node spelled

  -- a message that can come has a node
  pub has_node : (k : ℕ) (again : Bool) → (if again then may_repeat w.net k else may_deliver w.net k) ≡ true → option_map (λ (x : Packet). x.msg.to.node) (packet_at w.net k) ≡ None → ⊥
  has_node k again may none = by again (packet_at w.net k) refl may none
    where
      by : (b : Bool) (o : Option Packet) → packet_at w.net k ≡ o → (if b then may_repeat w.net k else may_deliver w.net k) ≡ true → option_map (λ (x : Packet). x.msg.to.node) (packet_at w.net k) ≡ None → ⊥
      by true None is may none = true≢false (sym may ∙ ap (may_pass w.net) is)
      by false None is may none = true≢false (sym may ∙ ap is_flying_at is)
      by b (Some x) is may none = let clash : Some x.msg.to.node ≡ None = sym (ap (option_map (λ (y : Packet). y.msg.to.node)) is) ∙ none in absurd cc

pub ruleset call_steps = (call_coming, give_up_coming, recover_coming, call_takes, give_up_takes, recover_takes)

pub ruleset delivery_steps = (message_coming, has_node)
