use Rattle.std.proofs.Common.{◌≡◌, ◌==◌, ◌&&◌, ℕ, List, false, refl, ap, sym, subst, ◌∙◌}
use Rattle.std.proofs.Math.ListN.{set}
use Rattle.std.proofs.lemmas.List.Edits.{map_over_more}
use Rattle.run_rules.specs.Data.{AnswerLine}
use Rattle.world_parts.specs.Shown.{IsOnce, disk_reported, is_place, places_in, shown_at}
use Rattle.world_parts.proofs.ShownLemmas.{left_here, told_here}
use Rattle.world_parts.proofs.lines.with_disks.Goals as goal

pub loop-line-init : goal.loop-line-init
loop-line-init c = (refl, record { others = λ d none. refl })

pub loop-line-preserved : goal.loop-line-preserved
loop-line-preserved c =
    let lines = c.deref_mut-line-items.result.now in
    let i = c.loop-line.line-index in
    let x = c.line-item.result in
    let before = c.args.shown.now in
    let left = c.loop-line.shown in
    let inv = c.loop-line.invariant in
    let once = subst (λ (ls : List AnswerLine). IsOnce (places_in ls)) (sym (c.deref_mut-line-items.ensures.value ∙ c.into_vec-lines.ensures)) c.requires in (
      ap (set c.loop-line.line-items i)
          (c.put_disk.ensures.told ∙ (ap (disk_reported left) (sym c.line-item.is) ∙ told_here before left lines c.loop-line.line-items i x c.loop-line-test.true inv.0 c.line-item.is inv.1 once))
          ∙ map_over_more (disk_reported before) lines c.loop-line.line-items i x c.loop-line-test.true inv.0 c.line-item.is,
      left_here before left lines c.loop-line.line-items i x c.loop-line-test.true inv.0 c.line-item.is inv.1 c.put_disk.new.shown
          (subst (λ (y : AnswerLine). (d : ℕ) → (is_place y.said && (y.command == d)) ≡ false → shown_at c.put_disk.new.shown d ≡ shown_at left d) (sym c.line-item.is) c.put_disk.ensures.others),
    )
