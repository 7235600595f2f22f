-- The words of a picture: its title, and what stands beside its marks.
use Rattle.std.specs.Prelude.{ℕ, if◌then◌else◌, List, [], ◌++◌, codes, Option, Some, None}
use Rattle.tran_ids.specs.Numbers.{decimal}
use Rattle.tran_ids.specs.Texts.{name_of}
use Rattle.wire_msg.specs.declared.kind.KindName.{KindName}
use Rattle.wire_msg.specs.Names.{kind_text}
use Rattle.chart_text.specs.Data.{NoteKind, Parting}
use Rattle.chart_text.specs.Data.note_kinds
use Rattle.chart_text.specs.declared.window.Window.{Window}

-- what the title begins with
unfoldable pub title_words : List ℕ
title_words = codes "A run of dtx: commands "

-- which commands are drawn
unfoldable pub window_text : Window → List ℕ
window_text w = title_words ++ decimal w.first ++ codes " to " ++ decimal w.last ++ codes " of " ++ decimal w.count

-- a message, by its number and its kind
abbrev pub message_text : ℕ → KindName → List ℕ
message_text number kind = codes "#" ++ decimal number ++ codes " " ++ kind_text kind

-- what a node did or met, without its number
abbrev pub note_kind_words : NoteKind → List ℕ
note_kind_words (note_kinds.Call session) = codes "call, session "
note_kind_words (note_kinds.GiveUp session) = codes "given up, session "
note_kind_words note_kinds.Reco = codes "RECO"
note_kind_words note_kinds.Prepared = codes "prepared"
note_kind_words (note_kinds.Decided scn) = codes "decides: commit, SCN "
note_kind_words (note_kinds.Committed scn) = codes "committed, SCN "
note_kind_words note_kinds.RolledBack = codes "rolled back"
note_kind_words (note_kinds.ForcedCommit scn) = codes "forced commit, SCN "
note_kind_words note_kinds.ForcedRollback = codes "forced rollback"
note_kind_words note_kinds.Met = codes "decision as forced"
note_kind_words note_kinds.MetMixed = codes "decision differs: MIXED"
note_kind_words note_kinds.Forgotten = codes "forgotten"
note_kind_words note_kinds.Purged = codes "purged"
note_kind_words note_kinds.Stopped = codes "node stops"
note_kind_words (note_kinds.Started boot) = codes "node starts, boot "

-- the number of a session, of a boot, or the SCN, where there is one
abbrev pub note_kind_number : NoteKind → Option ℕ
note_kind_number (note_kinds.Call session) = Some session
note_kind_number (note_kinds.GiveUp session) = Some session
note_kind_number (note_kinds.Decided scn) = Some scn
note_kind_number (note_kinds.Committed scn) = Some scn
note_kind_number (note_kinds.ForcedCommit scn) = Some scn
note_kind_number (note_kinds.Started boot) = Some boot
note_kind_number _ = None

-- a number, where there is one
abbrev pub number_text : Option ℕ → List ℕ
number_text None = []
number_text (Some n) = decimal n

-- what a node did or met
abbrev pub note_kind_text : NoteKind → List ℕ
note_kind_text d = note_kind_words d ++ number_text (note_kind_number d)

-- a pair that is cut or joined
abbrev pub parting_text : List (List ℕ) → Parting → List ℕ
parting_text names p =
    (if p.joined then codes "joined: " else codes "cut: ") ++ name_of names p.a ++ codes " and " ++ name_of names p.b
