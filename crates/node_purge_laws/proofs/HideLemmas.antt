-- A purge hides a row alone, so what is shown of messages that come later is what it would have been.
use Rattle.std.proofs.Common.{◌≡◌, ℕ, Bool, true, false, if◌then◌else◌, List, [], ◌∷◌, find, Option, Some, None, refl, sym}
use Rattle.redo_record.specs.Lists.{change_where}
use Rattle.redo_record.specs.Kept.{stands_at, hidden_as, kept_after}
use Rattle.redo_record.specs.Durable.{durable_after}
use Rattle.node_rules.specs.Data.{BranchId, Msg, Place, KeptRow}
use Rattle.node_rules.specs.Data.inputs
use Rattle.node_rules.specs.Data.records
use Rattle.node_rules.specs.Force.{may_purge, hides, purge}
use Rattle.node_rules.specs.NodeState.{NodeState, TurnOutput}
use Rattle.node_rules.specs.Records.{applied, with_record}
use Rattle.node_rules.specs.Turn.{turn_of}
use Rattle.node_purge_laws.specs.PurgeLaws.{RowsLike, rows_of, IsLike, PurgesHideAlone, ShownByTurn, shown, PurgesChangeNothingShown}
use Rattle.node_purge_laws.proofs.CallLikeLemmas.{message_same}
use Rattle.node_purge_laws.proofs.LikeLemmas.{ActsSame}
use Rattle.node_purge_laws.proofs.RowLikeLemmas.{OneLike}

pub rows_same : (xs : List KeptRow) → RowsLike xs xs
rows_same [] = tt
rows_same (x ∷ xs) = (refl, rows_same xs)

hides_one : (q : Bool) (x : KeptRow) → OneLike x (if q then hidden_as x else x)
hides_one true x = refl
hides_one false x = refl

rows_hidden : (b : BranchId) (xs : List KeptRow) → RowsLike xs (change_where (stands_at b) hidden_as xs)
rows_hidden b [] = tt
rows_hidden b (x ∷ xs) = (hides_one (stands_at b x) x, rows_hidden b xs)

pub hidden_like : (k : NodeState) (b : BranchId) → IsLike k (with_record k (records.Hidden b))
unfolding applied durable_after kept_after
hidden_like k b = record { same = refl; rows = rows_hidden b (rows_of k) }

hides_like : (k : NodeState) (n : ℕ) (id : List ℕ) (o : Option KeptRow) → IsLike k (hides k n id o).after
hides_like k n id None = record { same = refl; rows = rows_same (rows_of k) }
hides_like k n id (Some s) = hidden_like k s.me

purge_like : (k : NodeState) (n : ℕ) (mixed : Bool) (id : List ℕ) → IsLike k (purge k n mixed id).after
unfolding purge
purge_like k n mixed id = hides_like k n id (find (may_purge mixed id) (rows_of k))

pub purges_hide_alone : PurgesHideAlone
unfolding turn_of
purges_hide_alone p k n id = (purge_like k n true id, purge_like k n false id)

one_shown : (o other : TurnOutput) (rest more : List ShownByTurn) → ActsSame o other → rest ≡ more
    → (record { wrote = other.wrote; sent = other.sent; ended = other.ended }) ∷ more ≡ (record { wrote = o.wrote; sent = o.sent; ended = o.ended }) ∷ rest
one_shown o other rest more acts same = (let wrote = acts.wrote in let sent = acts.like.sent in let ended = acts.like.ended in cc)

shown_like : (p : Place) (k other : NodeState) → IsLike k other → (ms : List Msg) → shown p other ms ≡ shown p k ms
shown_like p k other like [] = refl
shown_like p k other like (m ∷ ms) =
    let acts : ActsSame (turn_of p k (inputs.Message m)) (turn_of p other (inputs.Message m)) = message_same p k other like m in
    one_shown (turn_of p k (inputs.Message m)) (turn_of p other (inputs.Message m)) _ _ acts
    (sym (shown_like p (turn_of p k (inputs.Message m)).after (turn_of p other (inputs.Message m)).after acts.like.after ms))

pub purges_change_nothing_shown : PurgesChangeNothingShown
purges_change_nothing_shown p k n id ms =
    let like = purges_hide_alone p k n id in (shown_like p k _ like.0 ms, shown_like p k _ like.1 ms)
