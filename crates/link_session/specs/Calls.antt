-- The calls that come to a branch, by their numbers.
-- (Database Administrator's Guide, "Distributed Transactions Concepts": session trees, local coordinators.)
use Rattle.std.specs.Prelude.{ℕ, ◌==◌, ◌&&◌, if◌then◌else◌, nat_lt, is_some, Some, None}
use Rattle.link_session.specs.declared.reply.ReplyFields.{ReplyFields}
use Rattle.link_session.specs.declared.calls.Calls.{Calls}
use Rattle.link_session.specs.declared.calls.Admit.{Admit}
use Rattle.link_session.specs.declared.calls.Admit.TheVariants as admits

-- before any call
abbrev pub no_calls : Calls
no_calls = record { last_call = 0; reply = None }

-- a number that comes for the first time, the last one, once it was answered, or any other
unfoldable pub admit : Calls → ℕ → Admit
admit c call = if nat_lt c.last_call call then admits.Run else (if (call == c.last_call) && is_some c.reply then admits.Again else admits.Ignore)

-- a call that is run is the last one, and not answered yet
abbrev pub taken : ℕ → Calls
taken call = record { last_call = call; reply = None }

-- any other changes nothing
abbrev pub admitted_as : Calls → ℕ → Admit → Calls
admitted_as c call admits.Run = taken call
admitted_as c call admits.Again = c
admitted_as c call admits.Ignore = c

-- after a call
abbrev pub admitted : Calls → ℕ → Calls
admitted c call = admitted_as c call (admit c call)

-- with the last call answered
abbrev pub with_reply : Calls → ReplyFields → Calls
with_reply c r = record c { reply = Some r }
