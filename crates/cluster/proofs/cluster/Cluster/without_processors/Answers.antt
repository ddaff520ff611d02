use Rattle.std.proofs.Common.{ℕ, ◌≡◌, ◌^◌, [], replicate, sym, subst, subst₂, ap, ◌∙◌, arith}
use Rattle.std.proofs.lemmas.Nat.{mul-le}
use Rattle.journal.specs.Sizes.{Sizes}
use Rattle.book.specs.BookState.{BookState}
use Rattle.book.specs.Transitions.{transition_new_book}
use Rattle.cluster.specs.Copies.Sound.{AreSoundSizes}
use Rattle.cluster.specs.KeptViews.{KeptViewsInvariant, view_of_nothing, view_book_sizes}
use Rattle.cluster.proofs.StartingProcessors.{starting_processors_sizes, starting_processors_kept}
use Rattle.cluster.proofs.cluster.Cluster.without_processors.Goals as goal

pub new-requires-3-clause-addresses : goal.new-requires-3-clause-addresses
new-requires-3-clause-addresses g c =
    let s = subst AreSoundSizes (sym c.shape.view_is) c.requires.sizes in
    let few = mul-le c.shape.inside.pages c.shape.inside.words 64 64 s.pages s.words in
    omega arith

pub new-requires-4-clause-room : goal.new-requires-4-clause-room
new-requires-4-clause-room g c =
    let s = subst AreSoundSizes (sym c.shape.view_is) c.requires.sizes in
    let few = mul-le c.shape.inside.processors g.T.Turn.ENTRIES 16 (2 ^ 40) s.processors c.requires.entries in
    omega arith

pub new-requires-4-clause-fact : goal.new-requires-4-clause-fact
new-requires-4-clause-fact g c =
    let s = c.args.shape in
    let size = ap (λ (x : Sizes). x.processors) c.shape.view_is in
    let book = c.in_ok-book.ensures ∙ ap transition_new_book c.shape.view_is in
    let P : BookState → ℕ → Type 0 = λ b n. KeptViewsInvariant s [] b (replicate n (view_of_nothing (view_book_sizes b))) in
    let kept = starting_processors_kept s c.requires.sizes.some_processors in
    (s, [], subst₂ P (sym book) (sym size) (rw (starting_processors_sizes s c.requires.sizes.some_words) kept))

pub returns-clause-chairs : goal.returns-clause-chairs
returns-clause-chairs g c =
    let same : view_book_sizes c.in_ok-book.book ≡ c.args.shape =
    ap view_book_sizes (c.in_ok-book.ensures ∙ ap transition_new_book c.shape.view_is)
    ∙ starting_processors_sizes c.args.shape c.requires.sizes.some_words in
    let made = c.in_ok-turn.ensures in
    record {
      all = made.1 ∙ ap (λ (x : Sizes). x.processors) c.shape.view_is;
      each = λ p x at. (let f = made.2 p x at in record {
        lock_is = f.0;
        place_is = f.1;
        view_is = f.2 ∙ ap view_of_nothing same;
        entries_are = f.3;
        outside = f.4;
      });
    }

pub returns-clause-turn : goal.returns-clause-turn
returns-clause-turn g c =
    (g.met.T.Turn g.world.𝓛 g.world.𝓜 g.world.𝓡 ((λ s x. x), (λ x. x), (λ x. x), λ x. x)).wide c.in_ok-turn.turn
    ∙ ap g.T.Turn.width (c.in_ok-turn.ensures.0 ∙ ap (λ (x : Sizes). x.processors) c.shape.view_is)
