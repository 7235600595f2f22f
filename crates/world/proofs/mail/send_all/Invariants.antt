use Rattle.std.proofs.Common.{◌≡◌, ◌++◌, map}
use Rattle.net_bag.specs.Net.{lost_at_once, sent_on}
use Rattle.node_disk.specs.declared.effects.Mailed.{Mailed}
use Rattle.world.proofs.mail.send_all.Given as goal

-- the messages so far were sent, in order
abbrev pub invariant-loop-mail : goal.invariant-loop-mail
invariant-loop-mail l =
    (l.msgs.items ≡ map (λ (mail : Mailed). mail.msg) l.yielded) × (l.net ≡ sent_on l.initial.net (map (λ (mail : Mailed). mail.msg) l.yielded))
    × (l.losses.items ≡ l.initial.losses.items ++ lost_at_once l.initial.net (map (λ (mail : Mailed). mail.msg) l.yielded))
