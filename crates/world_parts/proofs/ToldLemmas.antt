-- The lines of a run, where each that stands for a disk is all_lines with what its command showed, are those that are due.
use Rattle.std.proofs.Common.{◌≡◌, inl, inr, ℕ, Bool, true, false, if◌then◌else◌, List, [], ◌∷◌, is_some, map, Option, Some, None, refl, ap, sym, subst}
use Rattle.std.specs.List.{AllByRecursion}
use Rattle.run_rules.specs.Data.{AnswerLine, Command, Said}
use Rattle.run_rules.specs.Data.commands
use Rattle.run_rules.specs.Data.said
use Rattle.run_rules.specs.Data.notices
use Rattle.run_rules.specs.Facts.{command_at, facts_of, first_facts, records_at}
use Rattle.run_rules.specs.Reported.{StandsFor, LineIs, LinesAre, disk_of, is_shown_disk}
use Rattle.run_rules.specs.Lawful.{AreOfAScript}
use Rattle.run_rules.specs.Lines.{all_lines}
use Rattle.run_trace.specs.Recorded.{RunSoFar, past_of}
use Rattle.world_parts.specs.Shown.{CommandHasBegun, ShowDisks, Shown, ShowsDiskAt, disk_reported, history_of, is_place, shown_at, showing}
use Rattle.world_parts.proofs.PlaceLemmas.{Begins, lines_begun, told_begun}

-- a shown disk is of SHOW DISK, and stands for one
shows_place : (c : Command) (s : Said) → is_shown_disk c s ≡ true → ((n : ℕ) × (c ≡ commands.ShowDisk n)) × (is_place s ≡ true)
shows_place (commands.ShowDisk n) (said.World (notices.Shown [])) is = ((n, refl), refl)
shows_place _ _ is = absurd cc

place_shows : (c : Command) (n : ℕ) (s : Said) → c ≡ commands.ShowDisk n → is_place s ≡ true → is_shown_disk c s ≡ true
place_shows (commands.ShowDisk m) n (said.World (notices.Shown [])) is place = refl
place_shows _ n _ is place = absurd cc

module _ (r : RunSoFar) (script : AreOfAScript r.places r.asked) (shown : Shown) (shows : ShowDisks r shown) where
  abbrev is_disk : AnswerLine → Bool
  is_disk due = is_shown_disk (command_at r.asked due.command) due.said

  begun_of : (c n : ℕ) → Begins r c → command_at r.asked c ≡ commands.ShowDisk n → CommandHasBegun r c
  begun_of c n (inl none) show = absurd (cc (ap (command_at r.asked) none, show))
  begun_of c n (inr begun) show = begun

  -- what its command showed
  disk_is : (due : AnswerLine) (lines : List (List ℕ)) → ShowsDiskAt r due.command lines → LineIs (history_of r script) true due (showing due (Some lines))
  disk_is due lines at = (
    refl,
    (
      at.bytes,
      ap (λ (ls : List (List ℕ)). said.World (notices.Shown ls)) at.lines_are,
      λ before later split. subst (λ (n : ℕ). StandsFor at.bytes (records_at (facts_of r.places r.asked (first_facts r.places) before) n)) (sym (ap disk_of at.is)) (at.stands before later split),
    ),
  )

  shown_is : (due : AnswerLine) (o : Option (List (List ℕ))) → shown_at shown due.command ≡ o → Begins r due.command → is_disk due ≡ true → LineIs (history_of r script) true due (showing due o)
  shown_is due None at begins is =
      let n = (shows_place (command_at r.asked due.command) due.said is).0 in
      absurd (cc (ap (λ (o : Option (List (List ℕ))). is_some o) at, shows.all due.command n.0 (begun_of due.command n.0 begins n.1) n.1))
  shown_is due (Some lines) at begins is = disk_is due lines (shows.each due.command lines at)

  -- a line that stands for no disk
  other_is : (due : AnswerLine) (o : Option (List (List ℕ))) → shown_at shown due.command ≡ o → is_place due.said ≡ true → is_disk due ≡ false → showing due o ≡ due
  other_is due None at place is = refl
  other_is due (Some lines) at place is =
      let disk : ShowsDiskAt r due.command lines = shows.each due.command lines at in
      absurd (cc (is, place_shows (command_at r.asked due.command) disk.node due.said disk.is place))

  line_is : (due : AnswerLine) (place disk : Bool) → is_place due.said ≡ place → is_disk due ≡ disk → Begins r due.command
      → LineIs (history_of r script) disk due (if place then showing due (shown_at shown due.command) else due)
  line_is due true true place is begins = shown_is due (shown_at shown due.command) refl begins is
  line_is due true false place is begins = other_is due (shown_at shown due.command) refl place is
  line_is due false true place is begins = absurd (cc (place, (shows_place (command_at r.asked due.command) due.said is).1))
  line_is due false false place is begins = refl

  pub lines_are : (dues : List AnswerLine) → AllByRecursion (λ (l : AnswerLine). Begins r l.command) dues → LinesAre (history_of r script) dues (map (disk_reported shown) dues)
  lines_are [] begins = tt
  lines_are (due ∷ dues) begins = (line_is due (is_place due.said) (is_disk due) refl refl begins.0, lines_are dues begins.1)

  -- all lines, with the disks that were shown
  pub told_are : LinesAre (history_of r script) (all_lines (past_of r).facts (past_of r).run_report) (map (disk_reported shown) (all_lines (past_of r).facts (past_of r).run_report))
  told_are = lines_are (all_lines (past_of r).facts (past_of r).run_report) (told_begun r)

  -- those of the commands before the one that runs
  pub before_are : LinesAre (history_of r script) (past_of r).run_report.lines (map (disk_reported shown) (past_of r).run_report.lines)
  before_are = lines_are (past_of r).run_report.lines (lines_begun r)
