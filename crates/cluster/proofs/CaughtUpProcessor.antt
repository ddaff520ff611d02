-- A processor that sees what another one has seen.
use Rattle.std.proofs.Common.{ℕ, ◌≡◌, Some, List, [], ◌++◌, slice_get, slice_set, refl, sym, ap, subst, subst₂, ◌∙◌, append-nil, arith}
use Rattle.std.proofs.lemmas.Option.{none-some, slice_get_within}
use Rattle.base.proofs.SliceSets.{slice_get-set_same}
use Rattle.journal.specs.declared.event.Event.{Event}
use Rattle.journal.specs.Sizes.{Sizes}
use Rattle.turn.specs.Chairs.{ChairLockId, ChairMayConfer, chair_place, chair_view, entries, lock, IsChairOutside, IsSameChair}
use Rattle.turn.specs.declared.chair.ChairToken.{ChairToken}
use Rattle.book.specs.BookState.{BookState}
use Rattle.cluster.specs.Copies.Local.{Local, calls}
use Rattle.cluster.specs.Copies.Sound.{IsSound}
use Rattle.cluster.specs.Copies.AfterNews.{found_after_news}
use Rattle.cluster.specs.declared.keeper.View.{View}
use Rattle.cluster.specs.KeptViews.{KeptWithViews, KeptViewsInvariant, SeesKeptViewBeside, view_having_seen}
use Rattle.cluster.specs.CatchingUp.{CatchesUp}
use Rattle.cluster.specs.Covers.{IsCoverAllowed}
use Rattle.cluster.specs.Entering.{FindsOnEntering}
use Rattle.cluster.specs.SeatedProcessor.{IsChairOfSeatedProcessor}
use Rattle.cluster.proofs.CoveringHistories.{covers}
use Rattle.cluster.proofs.FoundBook.{found_book_sound}
use Rattle.cluster.proofs.LeavingCalls.{leaving_call_finds, leaving_kept_on}
use Rattle.cluster.proofs.EndedCalls.{ended_call_calls_entered}
use Rattle.cluster.proofs.Visiting.{visit_view_is, visiting_processor_on}

-- whoever has seen all of a history that is kept, as it was, keeps it
caught_up_processor_kept : (s : Sizes) (h : List Event) (b : BookState) (views : List View) → KeptViewsInvariant s h b views → (p : ℕ) (v : View)
    → slice_get views p ≡ Some v → KeptViewsInvariant s h b (slice_set views p (view_having_seen s h v.cut v.own_cut))
caught_up_processor_kept s h b views kept p v at =
    let behind = kept.behind p v at in
    let P : List Event → Type 0 = λ xs. KeptViewsInvariant s xs b (slice_set views p (view_having_seen s xs v.cut v.own_cut)) in
    subst P (append-nil h)
    (leaving_kept_on s h b views kept p [] (λ k e at. absurd (none-some e at)) v.cut v.own_cut v at b
    (rw append-nil kept.told) (rw append-nil kept.explained) (rw append-nil kept.counted)
    (rw append-nil kept.copied) kept.few refl (omega arith) behind refl)

-- so each may see all of it
pub caught_up_processor_may_confer : (p q : ℕ) (v u : View) → ChairMayConfer KeptWithViews SeesKeptViewBeside p v q u
caught_up_processor_may_confer p q v u b views at beside fact =
    let P : Sizes → Type 0 = λ z. KeptViewsInvariant z fact.1 b views in
    let kept = subst P (sym (fact.2.each p v at).shape) fact.2 in (
      record v { seen = fact.1 },
      record {
        history = fact.1;
        book = b;
        views = views;
        at = at;
        beside = beside;
        kept = kept;
        new_is = refl;
      },
      (v.shape, fact.1, caught_up_processor_kept v.shape fact.1 b views kept p v at),
    )

-- the processor of whose chair this is told
abbrev caught_up_processor_as : Local → ChairLockId → ℕ → View → Local
caught_up_processor_as m l times v = record m { lock = l; entries = times; seen = v.seen; cut = v.cut; own_cut = v.own_cut }

caught_up_processor_told : (m : Local) (l k : ChairLockId) (a b : ℕ) (v w : View) → l ≡ k → a ≡ b → v ≡ w
    → caught_up_processor_as m l a v ≡ caught_up_processor_as m k b w
caught_up_processor_told m l k a b v w lock_is times_are view_is = rw (lock_is, times_are, view_is) refl

-- what a chair tells of its processor once it has
module _ {m : Local} (old after : ChairToken BookState View) (sound : IsSound m) (seated : IsChairOfSeatedProcessor old m.number m.sizes)
    (is : m ≡ visiting_processor_on old m) (q : ℕ) (other : View)
    (sees : SeesKeptViewBeside (chair_place old) (chair_view old) q other (chair_view after)) where
  abbrev pub caught_up_processor_finds : FindsOnEntering m sees.book
  caught_up_processor_finds =
      let P : ℕ → View → Type 0 = λ k v. slice_get sees.views k ≡ Some v in
      leaving_call_finds m sees.book sees.views (subst₂ P seated.place_is (visit_view_is sound seated is) sees.at)
      ((chair_view old).shape, sees.history, sees.kept)

  caught_up_processor_begins : sees.history ≡ m.seen ++ caught_up_processor_finds.rest
  caught_up_processor_begins =
      let P : ℕ → View → Type 0 = λ k v. slice_get sees.views k ≡ Some v in
      (sees.kept.each m.number (view_having_seen m.sizes m.seen m.cut m.own_cut)
      (subst₂ P seated.place_is (visit_view_is sound seated is) sees.at)).begins

  pub caught_up_processor_seated : IsSameChair old after → IsChairOutside after → IsChairOfSeatedProcessor after m.number m.sizes
  caught_up_processor_seated same outside = record {
    place_is = same.1 ∙ seated.place_is;
    shape_is = ap (λ (v : View). v.shape) sees.new_is ∙ seated.shape_is;
    outside = outside;
  }

  abbrev pub caught_up_processor : Local
  caught_up_processor = visiting_processor_on after m

  pub caught_up_processor_is : IsSameChair old after → entries after ≡ entries old → caught_up_processor ≡ found_after_news m caught_up_processor_finds.rest
  caught_up_processor_is same times =
      caught_up_processor_told m (lock after) (lock old) (entries after) (entries old) (chair_view after)
      (record (chair_view old) { seen = sees.history }) same.0 times sees.new_is
      ∙ ap (λ (h : List Event). record (visiting_processor_on old m) { seen = h }) caught_up_processor_begins
      ∙ ap (λ (n : Local). record n { seen = m.seen ++ caught_up_processor_finds.rest }) (sym is)

  pub caught_up_processor_sound : IsSameChair old after → entries after ≡ entries old → IsSound caught_up_processor
  caught_up_processor_sound same times =
      subst IsSound (sym (caught_up_processor_is same times)) (found_book_sound m sound sees.book caught_up_processor_finds)

  pub processor_is_caught_up : (n : Local) → n.seen ≡ other.seen → IsSameChair old after → entries after ≡ entries old
      → CatchesUp m n caught_up_processor
  processor_is_caught_up n seen same times =
      let f = caught_up_processor_finds in
      let now = caught_up_processor_is same times in
      let theirs = sees.kept.each q other sees.beside in
      let v = view_having_seen m.sizes m.seen m.cut m.own_cut in
      record {
        rest = f.rest;
        away = f.away;
        after = now;
        beyond = (
          theirs.rest,
          ap (λ (x : Local). x.seen) now ∙ sym caught_up_processor_begins ∙ theirs.begins ∙ ap (λ (h : List Event). h ++ theirs.rest) (sym seen),
        );
        calls_are = ap calls now ∙ ended_call_calls_entered m sees.book f m.cut;
        covers = covers caught_up_processor (caught_up_processor_sound same times);
        allowed = subst IsCoverAllowed (sym now) (
          m.seen ++ f.rest,
          record {
            book = sees.book;
            views = slice_set f.views m.number (view_having_seen m.sizes (m.seen ++ f.rest) m.cut m.own_cut);
            mine = slice_get-set_same f.views m.number (view_having_seen m.sizes (m.seen ++ f.rest) m.cut m.own_cut)
                (slice_get_within f.views m.number v f.at);
            kept = caught_up_processor_kept m.sizes (m.seen ++ f.rest) sees.book f.views f.kept m.number v f.at;
          },
        );
      }
