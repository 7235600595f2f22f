-- Each message of a run has its arrow: what is sent is added, and an end changes no route.
use Rattle.std.proofs.Common.{ℕ, zero, suc, ◌≡◌, ◌+◌, Bool, true, false, if◌then◌else◌, List, [], ◌∷◌, ◌++◌, map, slice_get, slice_set, unwrap_or, Option, None, Some, refl, sym, ap, ◌∙◌}
use Rattle.std.proofs.lemmas.List.{append_assoc, append-nil, map-append}
use Rattle.chart_marks.specs.Data.{Msg, Took, Happening, Told, End, Arrow}
use Rattle.chart_marks.specs.Data.happenings
use Rattle.chart_marks.specs.Data.ends
use Rattle.chart_marks.specs.declared.cursor.Cursor.{Cursor}
use Rattle.chart_marks.specs.Rows.{start, row_of, cursor_after, along, rows_of}
use Rattle.chart_marks.specs.Marks.{sent_arrow, with_sent, with_end, ended_at, ended, with_taken, arrows_after, is_flying, shown_from}
use Rattle.chart_marks.specs.Messages.{messages_of, messages_in, route_of, drawn_route, EachMessageHasItsArrow}

-- ---- an end changes no route

slice_kept : (xs : List Arrow) (i : ℕ) (a : Arrow) (e : End) → slice_get xs i ≡ Some a → map drawn_route (slice_set xs i (with_end e a)) ≡ map drawn_route xs
slice_kept [] i a e is = refl
slice_kept (x ∷ xs) zero a e is = ap (λ o. drawn_route (unwrap_or o x) ∷ map drawn_route xs) (sym is)
slice_kept (x ∷ xs) (suc i) a e is = ap (λ rs. drawn_route x ∷ rs) (slice_kept xs i a e is)

at_kept : (xs : List Arrow) (i : ℕ) (e : End) (o : Option Arrow) → slice_get xs i ≡ o → map drawn_route (ended_at xs (suc i) e o) ≡ map drawn_route xs
at_kept xs i e None is = refl
at_kept xs i e (Some a) is = slice_kept xs i a e is

ended_kept : (xs : List Arrow) (k : ℕ) (e : End) → map drawn_route (ended xs k e) ≡ map drawn_route xs
ended_kept xs zero e = refl
ended_kept xs (suc i) e = at_kept xs i e (slice_get xs i) refl

taken_if : (xs : List Arrow) (k : ℕ) (e : End) (again : Bool) → map drawn_route (if again then xs else ended xs k e) ≡ map drawn_route xs
taken_if xs k e true = refl
taken_if xs k e false = ended_kept xs k e

taken_kept : (xs : List Arrow) (row : ℕ) (took : Option Took) → map drawn_route (with_taken xs row took) ≡ map drawn_route xs
taken_kept xs row None = refl
taken_kept xs row (Some t) = taken_if xs t.number (ends.Delivered row) t.again

-- ---- what is sent is added

sent_adds : (xs : List Arrow) (row : ℕ) (ms : List Msg) → map drawn_route (with_sent xs row ms) ≡ map drawn_route xs ++ map route_of ms
sent_adds xs row [] = sym (append-nil (map drawn_route xs))
sent_adds xs row (m ∷ ms) =
    sent_adds (xs ++ sent_arrow xs row m ∷ []) row ms
    ∙ ap (λ rs. rs ++ map route_of ms) (map-append drawn_route xs (sent_arrow xs row m ∷ []))
    ∙ append_assoc (map drawn_route xs) (route_of m ∷ []) (map route_of ms)

after_adds : (xs : List Arrow) (row : ℕ) (h : Happening) → map drawn_route (arrows_after xs row h) ≡ map drawn_route xs ++ map route_of (messages_of h)
after_adds xs row (happenings.Turn t) =
    sent_adds (with_taken xs row t.took) row t.sent ∙ ap (λ rs. rs ++ map route_of t.sent) (taken_kept xs row t.took)
after_adds xs row (happenings.Lost k) = ended_kept xs k (ends.Lost row) ∙ sym (append-nil (map drawn_route xs))
after_adds xs row (happenings.Begun command) = sym (append-nil (map drawn_route xs))
after_adds xs row (happenings.Cut a b) = sym (append-nil (map drawn_route xs))
after_adds xs row (happenings.Join a b) = sym (append-nil (map drawn_route xs))
after_adds xs row (happenings.Stopped node) = sym (append-nil (map drawn_route xs))
after_adds xs row (happenings.Started node boot) = sym (append-nil (map drawn_route xs))

along_adds : (tale : List Told) (xs : List Arrow) (c : Cursor) (hs : List Happening) → map drawn_route (along arrows_after tale xs c hs) ≡ map drawn_route xs ++ map route_of (messages_in hs)
along_adds tale xs c [] = sym (append-nil (map drawn_route xs))
along_adds tale xs c (h ∷ hs) =
    along_adds tale (arrows_after xs (row_of c h) h) (cursor_after tale c h) hs
    ∙ ap (λ rs. rs ++ map route_of (messages_in hs)) (after_adds xs (row_of c h) h)
    ∙ append_assoc (map drawn_route xs) (map route_of (messages_of h)) (map route_of (messages_in hs))
    ∙ ap (λ rs. map drawn_route xs ++ rs) (sym (map-append route_of (messages_of h) (messages_in hs)))

-- ---- a row of its own changes no route

shown_if : (row : ℕ) (a : Arrow) (xs : List Arrow) (b : Bool) → map drawn_route (shown_from (row + 1) xs) ≡ map drawn_route xs → map drawn_route (shown_from row xs) ≡ map drawn_route xs
    → map drawn_route (if b then with_end (ends.InFlight row) a ∷ shown_from (row + 1) xs else a ∷ shown_from row xs) ≡ drawn_route a ∷ map drawn_route xs
shown_if row a xs true below beside = ap (λ rs. drawn_route a ∷ rs) below
shown_if row a xs false below beside = ap (λ rs. drawn_route a ∷ rs) beside

shown_kept : (row : ℕ) (xs : List Arrow) → map drawn_route (shown_from row xs) ≡ map drawn_route xs
shown_kept row [] = refl
shown_kept row (a ∷ xs) = shown_if row a xs (is_flying a.end) (shown_kept (row + 1) xs) (shown_kept row xs)

-- each message of a run has its arrow
pub every_message : EachMessageHasItsArrow
every_message tale hs = shown_kept (rows_of tale hs) (along arrows_after tale [] start hs) ∙ along_adds tale [] start hs
