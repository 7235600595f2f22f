-- Which branch an id of COMMIT FORCE, ROLLBACK FORCE or a purge names. (Database Administrator's Guide, "Managing
-- Distributed Transactions": manually overriding in-doubt transactions, purging pending rows; DBMS_TRANSACTION.)
use Rattle.std.specs.Prelude.{ℕ, ◌&&◌, ◌||◌, not, Bool, true, false, List, [], ◌∷◌, filter, find, option_map, Option}
use Rattle.std.specs.Str.{bytes_eq}
use Rattle.tran_ids.specs.declared.branch.BranchId.{BranchId}
use Rattle.tran_ids.specs.Texts.{local_text, global_text}
use Rattle.redo_record.specs.declared.durable.State.{State}
use Rattle.redo_record.specs.declared.durable.State.TheVariants as states
use Rattle.redo_record.specs.declared.durable.KeptRow.{KeptRow}
use Rattle.force_cmds.specs.declared.id_names.IdNames.{IdNames}
use Rattle.force_cmds.specs.declared.id_names.IdNames.TheVariants as id_names

-- whether a branch is neither ended nor forced
abbrev pub is_sealed : State → Bool
is_sealed states.Sealed = true
is_sealed _ = false

-- whether this text is the printed local or global id of a branch
abbrev pub is_id_of : List (List ℕ) → List ℕ → KeptRow → Bool
is_id_of names id s = bytes_eq (local_text s.me) id || bytes_eq (global_text names s.root) id

-- whether this text is the printed local or global id of a sealed branch
abbrev pub is_named_by : List (List ℕ) → List ℕ → KeptRow → Bool
is_named_by names id s = is_sealed s.state && is_id_of names id s

-- which of these there is, where there is one alone
abbrev pub named_among : List KeptRow → IdNames
named_among [] = id_names.Nobody
named_among (s ∷ []) = id_names.One s.me
named_among (s ∷ t ∷ ss) = id_names.Several s.me t.me

-- the branch that an id of COMMIT FORCE or ROLLBACK FORCE names
abbrev pub named : List (List ℕ) → List KeptRow → List ℕ → IdNames
named names kept id = named_among (filter (is_named_by names id) kept)

-- whether a row has the state that the purge takes: mixed, or else committed or forced
abbrev pub is_purged_by : Bool → KeptRow → Bool
is_purged_by true s = s.mixed
is_purged_by false s = not (is_sealed s.state)

-- a shown row with this local id and such a state
abbrev pub may_purge : Bool → List ℕ → KeptRow → Bool
may_purge mixed id s = not s.hidden && (bytes_eq (local_text s.me) id && is_purged_by mixed s)

-- the branch whose row a purge hides
abbrev pub purged : Bool → List KeptRow → List ℕ → Option BranchId
purged mixed kept id = option_map (λ s. s.me) (find (may_purge mixed id) kept)

-- with one more that is named
abbrev pub one_more : IdNames → BranchId → IdNames
one_more id_names.Nobody me = id_names.One me
one_more (id_names.One first) me = id_names.Several first me
one_more (id_names.Several first second) me = id_names.Several first second
