-- The world after one happening more, part by part: it is that of the longer run.
use Rattle.std.proofs.Common.{◌≡◌, ◌⊎◌, inl, inr, ◌<◌, ◌≤◌, ℕ, List, [], ◌∷◌, ◌++◌, length, length-append, append_assoc, Some, None, refl, ap, sym, subst, ◌∙◌, arith}
use Rattle.node_rules.specs.Data.{Place}
use Rattle.run_rules.specs.Data.{Command, Happening}
use Rattle.run_rules.specs.Data.happenings
use Rattle.run_rules.specs.RunReport.{Past, start}
use Rattle.run_rules.specs.Past.{next, past}
use Rattle.run_rules.specs.Due.{IsTheRun, comes_next}
use Rattle.run_trace.specs.Recorded.{RunSoFar, IsDueNext, happening_limit, past_of}
use Rattle.world.specs.declared.world.World.{World}
use Rattle.world.specs.Needs.{IsOfScript}
use Rattle.world.specs.Linked.{CountsAgree, HoldsRun, PartsAre}
use Rattle.world_parts.specs.Shown.{CommandHasBegun, ShowDisks, Shown, ShowsDiskAt}
use Rattle.world.specs.NodeSlot.{SitesAre}
use Rattle.world.specs.Steps.{StepsOn, StepsTo}

-- One happening more in a trace.
pub record IsPushed (before after : RunSoFar) (h : Happening) : Type 0 where
  pub is : after ≡ record before { happenings = before.happenings ++ h ∷ [] }
  pub past : past_of after ≡ next before.places before.asked (past_of before) h
  pub few : length after.happenings ≤ happening_limit

-- What the world is then: its parts but the sites are those of the longer run, and so are its sites.
pub record Leaves (w v : World) (q : Past) : Type 0 where
  pub parts : PartsAre q v
  pub count : length v.slots.items ≡ length w.slots.items
  pub nodes : length q.facts.nodes ≡ length (past_of w.trace).facts.nodes
  pub records : length q.facts.records ≡ length (past_of w.trace).facts.records
  pub slots : SitesAre w.trace.places q v.slots.items

-- a happening at the end is the last one, or stands before it
pub split_end : (xs before later : List Happening) (h g : Happening) → xs ++ h ∷ [] ≡ before ++ g ∷ later → ((h ≡ g) × (xs ≡ before)) ⊎ ((rest : List Happening) × (xs ≡ before ++ g ∷ rest))
split_end [] [] later h g is = inl (cc, refl)
split_end [] (b ∷ []) later h g is = absurd cc
split_end [] (b ∷ c ∷ bs) later h g is = absurd cc
split_end (x ∷ xs) [] later h g is = inr (xs, cc)
split_end (x ∷ xs) (b ∷ bs) later h g is = elim (split_end xs bs later h g cc) [ inl same ↦ inl (same.0, cc) | inr more ↦ inr (more.0, cc) ]

-- what has begun has begun still
begun_on : (r : RunSoFar) (h : Happening) (c : ℕ) → CommandHasBegun r c → CommandHasBegun (record r { happenings = r.happenings ++ h ∷ [] }) c
begun_on r h c begun = (begun.0, begun.1 ++ h ∷ [], ap (λ (hs : List Happening). hs ++ h ∷ []) begun.2 ∙ append_assoc begun.0 (happenings.Begun c ∷ begun.1) (h ∷ []))

-- what is shown stays shown, where no command begins again
pub shows_on : (r : RunSoFar) (h : Happening) → ((c : ℕ) → h ≡ happenings.Begun c → CommandHasBegun r c → ⊥) → (c : ℕ) (lines : List (List ℕ)) → ShowsDiskAt r c lines
    → ShowsDiskAt (record r { happenings = r.happenings ++ h ∷ [] }) c lines
shows_on r h other c lines is = record {
  begun = begun_on r h c is.begun;
  node = is.node;
  is = is.is;
  bytes = is.bytes;
  lines_are = is.lines_are;
  stands = λ before later split. elim (split_end r.happenings before later h (happenings.Begun c) split) [ inl same ↦ absurd (other c same.0 is.begun) | inr more ↦ is.stands before more.0 more.1 ];
}

-- what has begun by now had begun before, or begins
pub begun_before : (r : RunSoFar) (h : Happening) (c : ℕ) → CommandHasBegun (record r { happenings = r.happenings ++ h ∷ [] }) c → (h ≡ happenings.Begun c) ⊎ CommandHasBegun r c
begun_before r h c begun = elim (split_end r.happenings begun.0 begun.1 h (happenings.Begun c) begun.2) [ inl same ↦ inl same.0 | inr more ↦ inr (begun.0, more.0, more.1) ]

-- so it is with all disks that were shown, where no command begins
pub all_on : (r : RunSoFar) (h : Happening) → ((c : ℕ) → h ≡ happenings.Begun c → ⊥) → (shown : Shown) → ShowDisks r shown → ShowDisks (record r { happenings = r.happenings ++ h ∷ [] }) shown
all_on r h other shown shows = record {
  each = λ c lines at. shows_on r h (λ d same begun. other d same) c lines (shows.each c lines at);
  all = λ c n begun is. elim (begun_before r h c begun) [ inl same ↦ absurd (other c same) | inr before ↦ shows.all c n before is ];
}

-- one happening more is still a run of the script
run_push : (places : List Place) (commands : List Command) (p : Past) (hs : List Happening) (h : Happening) → IsTheRun places commands p hs → comes_next places commands (past places commands p hs) ≡ Some h
    → IsTheRun places commands p (hs ++ h ∷ [])
unfolding past IsTheRun
run_push places commands p [] h run due = (due, tt)
run_push places commands p (g ∷ hs) h run due = (run.0, run_push places commands (next places commands p g) hs h run.1 due)

-- What stands of the world also in the midst of a turn or a start.
pub record Stands (w : World) : Type 0 where
  pub script : IsOfScript w.trace
  pub counted : CountsAgree w
  pub shown : ShowDisks w.trace w.shown

pub stands_of : (w : World) → HoldsRun w → Stands w
stands_of w held = record { script = held.script; counted = held.counted; shown = held.shown }

module _ (w v : World) (h : Happening) (held : Stands w) (due : IsDueNext w.trace h) (pushed : IsPushed w.trace v.trace h) where
  places_stay : v.trace.places ≡ w.trace.places
  places_stay = ap (λ (r : RunSoFar). r.places) pushed.is

  script_on : IsOfScript v.trace
  script_on = subst (λ (r : RunSoFar). IsOfScript r) (sym pushed.is) (record {
    of_a_script = held.script.of_a_script;
    few = held.script.few;
    in_range = held.script.in_range;
    spelled = held.script.spelled;
    run = run_push w.trace.places w.trace.asked (start w.trace.places) w.trace.happenings h held.script.run due;
    bounded = subst (λ (r : RunSoFar). length r.happenings ≤ happening_limit) pushed.is pushed.few;
  })

  longer_on : length w.trace.happenings < length v.trace.happenings
  longer_on = let more = ap (λ (r : RunSoFar). length r.happenings) pushed.is ∙ length-append w.trace.happenings (h ∷ []) in omega (arith, more)

  -- what was shown is shown still
  pub shown_on : ((c : ℕ) → h ≡ happenings.Begun c → ⊥) → v.shown ≡ w.shown → ShowDisks v.trace v.shown
  shown_on other same =
      subst (λ (r : RunSoFar). ShowDisks r v.shown) (sym pushed.is)
      (subst (λ (ds : Shown). ShowDisks (record w.trace { happenings = w.trace.happenings ++ h ∷ [] }) ds) (sym same) (all_on w.trace h other w.shown held.shown))

  pub held_on : ShowDisks v.trace v.shown → Leaves w v (next w.trace.places w.trace.asked (past_of w.trace) h) → HoldsRun v
  held_on shown leaves = record {
    script = script_on;
    parts = subst (λ (q : Past). PartsAre q v) (sym pushed.past) leaves.parts;
    counted = record {
      slots = leaves.count ∙ (held.counted.slots ∙ sym (ap (λ (ps : List Place). length ps) places_stay));
      nodes = ap (λ (q : Past). length q.facts.nodes) pushed.past ∙ (leaves.nodes ∙ (held.counted.nodes ∙ sym (ap (λ (ps : List Place). length ps) places_stay)));
      records = ap (λ (q : Past). length q.facts.records) pushed.past ∙ (leaves.records ∙ (held.counted.records ∙ sym (ap (λ (ps : List Place). length ps) places_stay)));
    };
    slots = subst (λ (q : Past). SitesAre v.trace.places q v.slots.items) (sym pushed.past)
        (subst (λ (ps : List Place). SitesAre ps (next w.trace.places w.trace.asked (past_of w.trace) h) v.slots.items) (sym places_stay) leaves.slots);
    shown = shown;
  }

  -- one happening on, with no stop to come
  pub steps_on : ShowDisks v.trace v.shown → Leaves w v (next w.trace.places w.trace.asked (past_of w.trace) h)
      → (next w.trace.places w.trace.asked (past_of w.trace) h).run_report.start_to_stop ≡ None → StepsOn w v
  steps_on shown leaves upright = record {
    linked = record { held = held_on shown leaves; upright = ap (λ (q : Past). q.run_report.start_to_stop) pushed.past ∙ upright };
    longer = longer_on;
    few = pushed.few;
  }

  pub steps_to : ShowDisks v.trace v.shown → Leaves w v (next w.trace.places w.trace.asked (past_of w.trace) h) → StepsTo w v
  steps_to shown leaves = record { held = held_on shown leaves; longer = longer_on; few = pushed.few }
