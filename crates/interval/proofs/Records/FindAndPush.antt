-- Steps of loops over the records of an interval.
use Rattle.std.proofs.Common.{◌≡◌, ℕ, ◌+◌, Bool, cond, Some, List, [], ◌∷◌, ◌++◌, map, find, take, drop, refl, ap}
use Rattle.std.proofs.lemmas.List.{drop_more, append_assoc, map-append}
use Rattle.interval.proofs.Records.ReadItems.{ReadsItem, read_items_taken}

-- what a search finds from index i on
pub find_more : {X Y : Type 0} {xs : List X} {i : ℕ} {x : X} → (f : X → Y) (p : Y → Bool) → ReadsItem xs i x
    → find p (map f (drop i xs)) ≡ cond (p (f x)) (Some (f x)) (find p (map f (drop (i + 1) xs)))
find_more {X} {Y} {xs} {i} {x} f p reads =
    let step = drop_more xs i x reads.inside in
    let at : drop i xs ≡ x ∷ drop (i + 1) xs = rw (← reads.is) at step in
    ap (λ ys. find p (map f ys)) at

-- one more item, changed, after those so far
pub push_after_find : {X Y Z : Type 0} {xs : List X} {i : ℕ} {x : X} {now : List Z} → (f : X → Y) (g : Y → Z)
    (before : List Z)
    → ReadsItem xs i x
    → now ≡ before ++ map g (map f (take i xs)) → now ++ g (f x) ∷ [] ≡ before ++ map g (map f (take (i + 1) xs))
push_after_find f g before reads so_far = rw (read_items_taken reads, map-append, map-append, ← append_assoc, so_far) refl
