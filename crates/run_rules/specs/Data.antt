-- The plain data that the laws of runs speak of beside that of the rules, handed on from one place. Declares nothing.
pub use Rattle.dtx_values.specs.declared.answer.Notice.{Notice}
pub use Rattle.dtx_values.specs.declared.answer.Notice.TheVariants as notices
pub use Rattle.wire_msg.specs.declared.kind.KindName.{KindName}
pub use Rattle.wire_msg.specs.declared.kind.KindName.TheVariants as kind_names
pub use Rattle.node_rules.specs.declared.session.PendingCall.{PendingCall}
pub use Rattle.node_rules.specs.declared.session.PendingCall.TheVariants as pending
pub use Rattle.node_rules.specs.declared.session.Session.{Session}
pub use Rattle.node_rules.specs.declared.session.Finished.{Finished}
pub use Rattle.node_rules.specs.declared.work.Work.{Work}
pub use Rattle.link_session.specs.declared.calls.Admit.{Admit}
pub use Rattle.link_session.specs.declared.calls.Admit.TheVariants as admits
pub use Rattle.net_bag.specs.declared.packet.Fate.{Fate}
pub use Rattle.net_bag.specs.declared.packet.Fate.TheVariants as fates
pub use Rattle.net_bag.specs.declared.packet.Packet.{Packet}
pub use Rattle.book.specs.declared.entry.Entry.{Entry}
pub use Rattle.book.specs.declared.entry.Entry.TheVariants as entries
pub use Rattle.book.specs.declared.happening.Took.{Took}
pub use Rattle.book.specs.declared.happening.Turn.{Turn}
pub use Rattle.book.specs.declared.happening.Happening.{Happening}
pub use Rattle.book.specs.declared.happening.Happening.TheVariants as happenings
pub use Rattle.book.specs.declared.line.Said.{Said}
pub use Rattle.book.specs.declared.line.Said.TheVariants as said
pub use Rattle.book.specs.declared.line.AnswerLine.{AnswerLine}
pub use Rattle.script_read.specs.declared.command.How.{How}
pub use Rattle.script_read.specs.declared.command.How.TheVariants as hows
pub use Rattle.script_read.specs.declared.command.Command.{Command}
pub use Rattle.script_read.specs.declared.command.Command.TheVariants as commands
