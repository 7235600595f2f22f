-- The texts of refusals. Those of ORA codes are Oracle's (Database Error Messages), apart from that of ORA-01555, the name of the
-- constraint in ORA-00001 and the number of extents and the tablespace in ORA-30036. DTX codes are dtx's own.
use Rattle.std.specs.Prelude.{ℕ, ◌+◌, ◌-◌, ◌==◌, if◌then◌else◌, nat_lt, List, [], ◌∷◌, ◌++◌, slice_get, unwrap_or, codes}
use Rattle.dtx_values.specs.Limits.{delivery_limit}
use Rattle.dtx_values.specs.declared.answer.Refusal.{Refusal}
use Rattle.tran_ids.specs.Numbers.{decimal, digits}

-- the texts of ORA-nnnnn, by the number; each % stands for an argument
unfoldable pub ora_texts : List (ℕ × List ℕ)
ora_texts =
    (1, codes "unique constraint (APP.%_PK) violated")
    ∷ (900, codes "invalid SQL statement")
    ∷ (904, codes "\"%\": invalid identifier")
    ∷ (913, codes "too many values")
    ∷ (942, codes "table or view does not exist")
    ∷ (947, codes "not enough values")
    ∷ (955, codes "name is already used by an existing object")
    ∷ (1400, codes "cannot insert NULL into (\"APP\".\"%\".\"%\")")
    ∷ (1407, codes "cannot update (\"APP\".\"%\".\"%\") to NULL")
    ∷ (1453, codes "SET TRANSACTION must be first statement of transaction")
    ∷ (1555, codes "snapshot too old")
    ∷ (1591, codes "lock held by in-doubt distributed transaction %")
    ∷ (2011, codes "duplicate database link name")
    ∷ (2019, codes "connection description for remote database not found")
    ∷ (2020, codes "too many database links in use")
    ∷ (2049, codes "timeout: distributed transaction waiting for lock")
    ∷ (2050, codes "transaction % rolled back, some remote DBs may be in-doubt")
    ∷ (2053, codes "transaction % committed, some remote DBs may be in-doubt")
    ∷ (2054, codes "transaction % in-doubt")
    ∷ (2058, codes "no prepared transaction found with ID %")
    ∷ (2059, codes "ORA-2PC-CRASH-TEST-% in commit comment")
    ∷ (2067, codes "transaction or savepoint rollback required")
    ∷ (12899, codes "value too large for column \"APP\".\"%\".\"%\" (actual: %, maximum: %)")
    ∷ (30036, codes "unable to extend segment by % in undo tablespace 'UNDOTBS1'")
    ∷ []

-- the texts of DTX-nn
unfoldable pub dtx_texts : List (ℕ × List ℕ)
dtx_texts =
    (1, codes "node % is stopped")
    ∷ (2, codes "session tree too deep or too wide")
    ∷ (3, codes "no answer from link %")
    ∷ (4, codes "session busy")
    ∷ (5, codes "deliveries ended at " ++ digits 4 delivery_limit)
    ∷ (6, codes "purge of % refused")
    ∷ (7, codes "ID % names several branches")
    ∷ (8, codes "branch at link % is gone")
    ∷ (9, codes "number out of range")
    ∷ (10, codes "value of the wrong type")
    ∷ (11, codes "message % cannot be delivered")
    ∷ (12, codes "distributed recovery is disabled")
    ∷ (13, codes "node % is running")
    ∷ (14, codes "no call to give up")
    ∷ (15, codes "key column cannot be changed")
    ∷ (16, codes "changes of one branch too large")
    ∷ (17, codes "image too large")
    ∷ (21, codes "write in a read-only transaction")
    ∷ (22, codes "savepoint % is not set")
    ∷ []

-- the text of this number, empty where the list has none
abbrev pub text_of : ℕ → List (ℕ × List ℕ) → List ℕ
text_of n [] = []
text_of n (t ∷ ts) = if n == t.0 then t.1 else text_of n ts

-- the argument at this place, from 0; empty where there is none
abbrev pub arg : List (List ℕ) → ℕ → List ℕ
arg args i = unwrap_or (slice_get args i) []

-- a text with an argument in the place of each %, in order, the first being that at this place
abbrev pub filled : List (List ℕ) → ℕ → List ℕ → List ℕ
filled args i [] = []
filled args i (b ∷ bs) = (if b == 37 then arg args i else b ∷ []) ++ filled args (if b == 37 then i + 1 else i) bs

-- a number in five digits
abbrev pub five_digits : ℕ → List ℕ
five_digits n = (if nat_lt n 10 then codes "0000" else (if nat_lt n 100 then codes "000" else (if nat_lt n 1000 then codes "00" else (if nat_lt n 10000 then codes "0" else [])))) ++ decimal n

-- a number in two digits
abbrev pub two_digits : ℕ → List ℕ
two_digits n = (if nat_lt n 10 then codes "0" else []) ++ decimal n

-- a refusal: codes above 60,000 are dtx's own
abbrev pub refusal_text : Refusal → List ℕ
refusal_text r =
    if nat_lt 60000 r.code then codes "DTX-" ++ two_digits (r.code - 60000) ++ codes ": " ++ filled r.args 0 (text_of (r.code - 60000) dtx_texts)
    else codes "ORA-" ++ five_digits r.code ++ codes ": " ++ filled r.args 0 (text_of r.code ora_texts)
