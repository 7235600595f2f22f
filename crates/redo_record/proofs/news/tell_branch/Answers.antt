use Rattle.std.proofs.Common.{◌≡◌, ◌≤◌, ◌<◌, ◌++◌, if◌then◌else◌, take, drop, set, length, take-append-drop, sym, ap, subst, ◌∙◌, arith}
use Rattle.std.proofs.lemmas.List.Edits.{map_over_more}
use Rattle.redo_record.specs.Data.{KeptRow}
use Rattle.redo_record.specs.Kept.{stands_at}
use Rattle.redo_record.specs.Lists.{change_where}
use Rattle.redo_record.specs.News.{with_news}
use Rattle.redo_record.proofs.Searched.{front_unchanged, behind_unchanged, changed_all, start_in_front}
use Rattle.redo_record.proofs.news.tell_branch.Goals as goal

pub loop-place-init : goal.loop-place-init
loop-place-init c =
    let b = c.args.me.now in
    let p = stands_at b in
    let f = with_news c.args.news in
    let ks = c.args.kept.now in
    let start = c.start_of-place.ensures.first in
    let end = c.place_of-place-end.ensures.first in
    let order = start_in_front b p (λ s is. is) ks in
    let front : change_where p f (take c.start_of-place.result ks) ≡ take c.start_of-place.result ks =
    subst (λ n. change_where p f (take n ks) ≡ take n ks) (sym start) (front_unchanged b p (λ s is. is) f ks) in
    let all : change_where p f (take c.start_of-place.result ks) ++ drop c.start_of-place.result ks ≡ ks =
    ap (λ xs. xs ++ drop c.start_of-place.result ks) front ∙ take-append-drop c.start_of-place.result ks in
    (omega arith, sym all)

pub loop-place-preserved : goal.loop-place-preserved
loop-place-preserved c =
    let told = λ (row : KeptRow). if stands_at c.args.me.now row then with_news c.args.news row else row in
    let more = c.loop-place-test.true in
    let within = c.place_of-place-end.ensures.within in
    let inside : c.loop-place.place < length c.args.kept.now = omega arith in (
      omega arith,
      ap (set c.loop-place.kept c.loop-place.place) (c.tell_if_it_is.ensures ∙ ap told (sym c.index-kept-place.is))
          ∙ map_over_more told c.args.kept.now c.loop-place.kept c.loop-place.place c.index-kept-place.result inside c.loop-place.invariant.1 c.index-kept-place.is,
    )

pub returns : goal.returns
returns c =
    let b = c.args.me.now in
    let p = stands_at b in
    let f = with_news c.args.news in
    let ks = c.args.kept.now in
    let done = c.loop-place-test.false in
    let most = c.loop-place.invariant.0 in
    let end : c.place_of-place-end.result ≡ c.loop-place.place = omega arith in
    let behind : change_where p f (drop c.loop-place.place ks) ≡ drop c.loop-place.place ks =
    subst (λ n. change_where p f (drop n ks) ≡ drop n ks) (sym c.place_of-place-end.ensures.first ∙ end) (behind_unchanged b p (λ s is. is) f ks c.requires) in
    c.loop-place.invariant.1 ∙ changed_all b p (λ s is. is) f c.loop-place.place ks behind
