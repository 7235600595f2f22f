use Rattle.std.proofs.Common.{◌≡◌, ℕ, List, [], ◌∷◌, ◌++◌, map, ap, sym, append-nil, append_assoc, ◌∙◌}
use Rattle.std.proofs.lemmas.List.{map-append}
use Rattle.node_rules.specs.Data.{Msg}
use Rattle.net_bag.specs.Net.{Net, lost_at_once, sent_on, sent_one}
use Rattle.node_disk.specs.declared.effects.Mailed.{Mailed}
use Rattle.world_parts.proofs.MailLemmas.{lost_then, sent_last, sent_none}
use Rattle.world.proofs.mail.send_all.Goals as goal

pub loop-mail-init : goal.loop-mail-init
loop-mail-init c = (c.in_ok-msgs.ensures.items, sent_none c.args.net.now, sym (append-nil c.args.losses.now.items))

pub loop-mail-preserved : goal.loop-mail-preserved
loop-mail-preserved c =
    let inv = c.loop-mail.invariant in
    let net = c.args.net.now in
    let mail = c.in-Some.mail in
    let before : List Msg = map (λ (x : Mailed). x.msg) c.loop-mail.yielded in
    let more : map (λ (x : Mailed). x.msg) (c.loop-mail.yielded ++ mail ∷ []) ≡ before ++ mail.msg ∷ [] = map-append (λ (x : Mailed). x.msg) c.loop-mail.yielded (mail ∷ []) in (
      c.in_ok-push.ensures.items ∙ (ap (λ (ms : List Msg). ms ++ c.in_ok-msg.msg ∷ []) inv.0 ∙ (ap (λ (m : Msg). before ++ m ∷ []) c.in_ok-msg.ensures.msg ∙ sym more)),
      c.in_ok-msg.ensures.net ∙ (ap (λ (n : Net). sent_one n mail.msg) inv.1 ∙ (sym (sent_last net before mail.msg) ∙ sym (ap (sent_on net) more))),
      c.in_ok-msg.ensures.losses
          ∙ (ap (λ (ns : List ℕ). ns ++ lost_at_once c.loop-mail.net (mail.msg ∷ [])) inv.2
          ∙ (ap (λ (n : Net). (c.args.losses.now.items ++ lost_at_once net before) ++ lost_at_once n (mail.msg ∷ [])) inv.1
          ∙ (append_assoc c.args.losses.now.items (lost_at_once net before) (lost_at_once (sent_on net before) (mail.msg ∷ []))
          ∙ ap (λ (ns : List ℕ). c.args.losses.now.items ++ ns) (sym (lost_then net before (mail.msg ∷ [])) ∙ sym (ap (lost_at_once net) more))))),
    )
