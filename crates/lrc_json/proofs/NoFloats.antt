-- What is put together of numbers, texts and flags has no float.
use Rattle.std.proofs.Common.{◌≡◌, ℕ, List, [], ◌∷◌, ◌++◌, Bool, true, false, Ordering, Less, Equal, Greater, nat_cmp, refl, true≢false, Err, Ok, Result, ap, subst, sym, ◌∙◌}
use Rattle.std.proofs.lemmas.List.{map_push}
use Rattle.std.specs.Prelude.{◌||◌, IsOkAnd, map}
use Rattle.std.specs.declared.alloc.AllocError.{AllocError}
use Rattle.std.specs.Cmp.Lexicographic.{slice_cmp}
use Rattle.std.specs.Ordering.{match_ordering}
use Rattle.serde_json.specs.Data.{Data, Members, member, no_members, put}
use Rattle.serde_json.specs.View.{items_of, view}
use Rattle.serde_json.specs.declared.value.Value.{Value}
use Rattle.lrc_json.specs.declared.members.Values.{Values}
use Rattle.lrc_json.specs.PutTogether.{IsValueAdded, items_so_far}
use Rattle.serde_json.specs.Written.{has_float, items_have_float, members_have_float}

or_false : (a b : Bool) → a ≡ false → b ≡ false → (a || b) ≡ false
or_false a b is are = rw is are

or_false_left : (a b : Bool) → (a || b) ≡ false → a ≡ false
or_false_left true b is = is
or_false_left false b is = refl

or_false_right : (a b : Bool) → (a || b) ≡ false → b ≡ false
or_false_right true b is = absurd (true≢false is)
or_false_right false b is = is

kept_by_order : (o : Ordering) (a b c : Members) → members_have_float a ≡ false → members_have_float b ≡ false → members_have_float c ≡ false
    → members_have_float (match_ordering o a b c) ≡ false
kept_by_order Less a b c x y z = x
kept_by_order Equal a b c x y z = y
kept_by_order Greater a b c x y z = z

-- one member more
pub no_float_put : (k : List ℕ) (d : Data) (ms : Members) → has_float d ≡ false → members_have_float ms ≡ false
    → members_have_float (put k d ms) ≡ false
no_float_put k d no_members is are = or_false (has_float d) false is refl
no_float_put k d (member l e ms) is are =
    let first = or_false_left (has_float e) (members_have_float ms) are in
    let rest = or_false_right (has_float e) (members_have_float ms) are in
    kept_by_order (slice_cmp nat_cmp k l) (member k d (member l e ms)) (member l d ms) (member l e (put k d ms))
    (or_false (has_float d) (has_float e || members_have_float ms) is are)
    (or_false (has_float d) (members_have_float ms) is rest)
    (or_false (has_float e) (members_have_float (put k d ms)) first (no_float_put k d ms is rest))

-- one item more
pub no_float_added : (ds : List Data) (d : Data) → has_float d ≡ false → items_have_float (items_of ds) ≡ false → items_have_float (items_of (ds ++ d ∷ [])) ≡ false
no_float_added [] d is are = or_false (has_float d) false is refl
no_float_added (x ∷ ds) d is are =
    or_false (has_float x) (items_have_float (items_of (ds ++ d ∷ []))) (or_false_left (has_float x) (items_have_float (items_of ds)) are)
    (no_float_added ds d is (or_false_right (has_float x) (items_have_float (items_of ds)) are))

-- a value that was added to those of a list
pub value_added : (old new : Values) (value : Result Value AllocError) → old.fault ≡ new.fault
    → IsOkAnd value (λ v. new.values.items ≡ old.values.items ++ v ∷ []) → IsValueAdded old new value
value_added old new (Ok v) same is = λ none no_float.
    let items : items_so_far new ≡ items_so_far old ++ view v ∷ [] = ap (map view) is ∙ map_push view old.values.items v in
    (same ∙ none, items, λ are. subst (λ ds. items_have_float (items_of ds) ≡ false) (sym items) (no_float_added (items_so_far old) (view v) no_float are))
value_added old new (Err error) same is = absurd is
