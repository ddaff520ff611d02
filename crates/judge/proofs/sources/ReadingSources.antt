-- What is read of lists of options and of timestamps.
use Rattle.std.proofs.Common.{◌≡◌, ℕ, ◌<◌, List, [], Option, Some, length, slice_get, slice_index, slice_index_or, refl, ap, ◌∙◌}
use Rattle.std.specs.Prelude.{None}
use Rattle.std.proofs.lemmas.Option.{slice_get-get_or, slice_get_read, get_or_from_slice_get}
use Rattle.journal.specs.ClockEntry.{entry}

-- what is read within a list stands there
pub reading_source_option : {A : Type 0} (xs : List (Option A)) (q : ℕ) (o : Option A) → q < length xs
    → slice_index_or xs q None ≡ o → slice_get xs q ≡ Some o
reading_source_option xs q o lt is = slice_get-get_or xs q None lt ∙ ap Some is

-- an entry of a timestamp that is read
pub reading_source_entry : (times : List (List ℕ)) (n q : ℕ) (x : List ℕ) → n < length times → x ≡ slice_index_or times n x
    → entry times n q ≡ slice_index x q
reading_source_entry times n q x lt is =
    ap (λ (t : List ℕ). slice_index t q)
    (get_or_from_slice_get times n x [] (slice_get_read times (length times) n x refl lt is))
