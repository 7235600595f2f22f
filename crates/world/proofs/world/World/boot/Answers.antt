use Rattle.std.proofs.Common.{◌≡◌, ℕ, List, length, sym, ap, subst, ◌∙◌}
use Rattle.std.proofs.lemmas.List.{with_items_is}
use Rattle.tran_ids.proofs.NumberedLemmas.{set_length}
use Rattle.node_rules.specs.Words.{numbered, set_numbered}
use Rattle.run_rules.specs.Data.happenings
use Rattle.run_trace.specs.Recorded.{RunSoFar, IsDueNext}
use Rattle.world.specs.declared.world.World.{World}
use Rattle.std.specs.Vec.{with_items}
use Rattle.net_bag.specs.Net.{started}
use Rattle.world.specs.Starts.{boot_at}
use Rattle.world.proofs.BootLemmas.{boot_is, boots_so}
use Rattle.world.proofs.StepLemmas.{IsPushed}
use Rattle.world.proofs.StopLemmas.{pushed_in}
use Rattle.world.proofs.world.World.boot.Goals as goal

pub push-requires : goal.push-requires
push-requires c =
    let w = c.args.self.now in
    let is = boot_is w c.args.node c.next_boot-boot.result c.requires.begun (λ k at. c.next_boot-boot.ensures k (ap (λ (bs : List ℕ). numbered bs c.args.node) c.deref.ensures.value ∙ at)) in
    subst (λ (r : RunSoFar). IsDueNext r (happenings.Started c.args.node c.next_boot-boot.result)) (sym (ap (λ (x : World). x.trace) c.report_start.ensures.same))
    (subst (λ (k : ℕ). IsDueNext w.trace (happenings.Started c.args.node k)) (sym is) c.requires.begun.next)

pub returns-clause-booted : goal.returns-clause-booted
returns-clause-booted c =
    let w = c.args.self.now in
    let n = c.args.node in
    let same = c.report_start.ensures.same in
    let is = boot_is w n c.next_boot-boot.result c.requires.begun (λ k at. c.next_boot-boot.ensures k (ap (λ (bs : List ℕ). numbered bs n) c.deref.ensures.value ∙ at)) in
    let boots = c.report_start.new.self.boots in
    let counted : c.count_boot.new.boots ≡ set_numbered boots.items n c.next_boot-boot.result = c.count_boot.ensures ∙ ap (λ (bs : List ℕ). set_numbered bs n c.next_boot-boot.result) c.deref_mut.ensures.value in
    let kept : (with_items boots c.count_boot.new.boots).items ≡ c.count_boot.new.boots =
    with_items_is boots c.count_boot.new.boots (ap (λ (bs : List ℕ). length bs) counted ∙ (set_length boots.items n c.next_boot-boot.result ∙ sym boots.ok.0)) in
    boots_so w (record c.report_start.new.self { trace = c.push.new.self; boots = with_items c.report_start.new.self.boots c.count_boot.new.boots; net = c.start.new.self }) n c.requires.begun
    (pushed_in w.trace c.report_start.new.self.trace c.push.new.self (happenings.Started n (boot_at w n)) (ap (λ (x : World). x.trace) same)
    (subst (λ (k : ℕ). IsPushed c.report_start.new.self.trace c.push.new.self (happenings.Started n k)) is (record { is = c.in_ok-push.ensures.ok; past = c.in_ok-push.ensures.past; few = c.in_ok-push.ensures.few })))
    (record {
      running = ap (λ (x : World). x.running) same;
      losses = ap (λ (x : World). x.losses.items) same;
      to_stop = ap (λ (x : World). x.to_stop) same;
      slots = ap (λ (x : World). x.slots.items) same;
      shown = ap (λ (x : World). x.shown) same;
      net = c.start.ensures ∙ ap (λ (x : World). started x.net n) same;
      boots = kept
          ∙ (counted
          ∙ (ap (λ (x : World). set_numbered x.boots.items n c.next_boot-boot.result) same
          ∙ ap (λ (k : ℕ). set_numbered w.boots.items n k) is));
      run_report = c.in_ok-report_start.ensures.tells;
    })
