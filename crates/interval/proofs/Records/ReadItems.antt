-- Items that a loop reads of a list.
use Rattle.std.proofs.Common.{◌≡◌, ℕ, ◌<◌, ◌+◌, List, [], ◌∷◌, ◌++◌, Some, map, take, slice_get, get_or, length, refl, sym, ap, arith, ◌∙◌}
use Rattle.std.specs.List.{flat_map}
use Rattle.std.proofs.lemmas.List.{take_more, append-nil, length-map, get_or-map}
use Rattle.std.proofs.lemmas.Option.{slice_get_read}
use Rattle.std.proofs.lemmas.Grind.{flat_map-append}

-- x is the item at place k, as a loop reads it
pub record ReadsItem {X : Type 0} (xs : List X) (k : ℕ) (x : X) : Type 0 where
  pub inside : k < length xs
  pub is : x ≡ get_or xs k x

-- the items up to it, with it
pub read_items_taken : {X : Type 0} {xs : List X} {k : ℕ} {x : X} → ReadsItem xs k x → take (k + 1) xs ≡ take k xs ++ x ∷ []
read_items_taken {X} {xs} {k} {x} reads = let step = take_more xs k x reads.inside in rw (← reads.is) at step

pub got_item : {X : Type 0} {xs : List X} {k : ℕ} {x : X} → ReadsItem xs k x → slice_get xs k ≡ Some x
got_item {X} {xs} {k} {x} reads = slice_get_read xs (length xs) k x refl reads.inside reads.is

-- what is made of the items up to it, with it
pub read_items_flat_mapped : {X Y : Type 0} {xs : List X} {k : ℕ} {x : X} → (f : X → List Y) → ReadsItem xs k x
    → flat_map f (take (k + 1) xs) ≡ flat_map f (take k xs) ++ f x
read_items_flat_mapped {X} {Y} {xs} {k} {x} f reads =
    ap (flat_map f) (read_items_taken reads) ∙ flat_map-append f (take k xs) (x ∷ [])
    ∙ ap (λ (ys : List Y). flat_map f (take k xs) ++ ys) (append-nil (f x))

-- in the list under a function it is the item under it
pub mapped_item : {X Y : Type 0} {xs : List X} {k : ℕ} {x : X} → (f : X → Y) → ReadsItem xs k x
    → ReadsItem (map f xs) k (f x)
mapped_item {X} {Y} {xs} {k} {x} f reads = record {
  inside = (let long = length-map xs f in let inside = reads.inside in omega arith);
  is = ap f reads.is ∙ sym (get_or-map f xs k x (f x) reads.inside);
}
