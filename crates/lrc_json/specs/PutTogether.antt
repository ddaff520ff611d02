-- Objects, lists and lines of JSON that are put together piece by piece.
use Rattle.std.specs.Prelude.{ℕ, ◌≡◌, None, List, [], ◌∷◌, ◌++◌, Result, IsOkAnd, codes, cond, decimal, false, map, nat_le, string_bytes}
use Rattle.std.specs.declared.alloc.AllocError.{AllocError}
use Rattle.serde_json.specs.Data.{Data, Members, array, no_members, number, object, put, string, unsigned}
use Rattle.serde_json.specs.View.{items_of, members_view, view}
use Rattle.serde_json.specs.Written.{compact_text, has_float, items_have_float, members_have_float}
use Rattle.serde_json.specs.declared.value.Value.{Value}
use Rattle.lrc_json.specs.declared.members.Members.{Members as Object}
use Rattle.lrc_json.specs.declared.members.Values.{Values}
use Rattle.lrc_json.specs.declared.output.JsonLines.{JsonLines}

-- the members of an object so far
abbrev pub members_so_far : Object → Members
members_so_far x = members_view x.members.entries

-- the items of a list so far
abbrev pub items_so_far : Values → List Data
items_so_far x = map view x.values.items

-- a number
abbrev pub json_number : ℕ → Data
json_number n = number (unsigned n)

-- a count: as a text of its digits if it is greater than each reader of JSON keeps exactly
abbrev pub json_count : ℕ → Data
json_count n = cond (nat_le n 9007199254740991) (json_number n) (string (decimal n))

-- a list
abbrev pub json_list : List Data → Data
json_list ds = array (items_of ds)

-- an object whose first member says what it tells
abbrev pub json_telling : List ℕ → Members
json_telling told = put (codes "told") (string told) no_members

-- memory hadn't run out, and the members became these; a float isn't new among them
abbrev pub AreMembersNow : Object → Object → (Members → Members) → Type 0
AreMembersNow old new f = (old.fault ≡ None) × (members_so_far new ≡ f (members_so_far old))
    × (members_have_float (members_so_far old) ≡ false → members_have_float (members_so_far new) ≡ false)

-- so they did, unless memory ran out
abbrev pub BecameMembers : Object → Object → (Members → Members) → Type 0
BecameMembers old new f = new.fault ≡ None → AreMembersNow old new f

-- unless memory ran out, there was a value, and it was put at this key, if it has no float
abbrev pub IsValuePut : Object → Object → List ℕ → Result Value AllocError → Type 0
IsValuePut old new key value = new.fault ≡ None → IsOkAnd value (λ v. has_float (view v) ≡ false → AreMembersNow old new (put key (view v)))

-- unless memory ran out, so it hadn't at the object, which was put at this key, if it has no float
abbrev pub IsObjectPut : Object → Object → List ℕ → Object → Type 0
IsObjectPut old new key x = new.fault ≡ None → (x.fault ≡ None)
    × (members_have_float (members_so_far x) ≡ false → AreMembersNow old new (put key (object (members_so_far x))))

-- the same of a list
abbrev pub IsListPut : Object → Object → List ℕ → Values → Type 0
IsListPut old new key x = new.fault ≡ None → (x.fault ≡ None)
    × (items_have_float (items_of (items_so_far x)) ≡ false → AreMembersNow old new (put key (json_list (items_so_far x))))

-- unless memory ran out, these are its members, and none has a float
abbrev pub HasMembers : Object → Members → Type 0
HasMembers x ms = x.fault ≡ None → (members_so_far x ≡ ms) × (members_have_float (members_so_far x) ≡ false)

-- memory hadn't run out, and the list has these items more; a float isn't new among them
abbrev pub AreItemsAdded : Values → Values → List Data → Type 0
AreItemsAdded old new ds = (old.fault ≡ None) × (items_so_far new ≡ items_so_far old ++ ds)
    × (items_have_float (items_of (items_so_far old)) ≡ false → items_have_float (items_of (items_so_far new)) ≡ false)

-- so it has, unless memory ran out
abbrev pub AddedItems : Values → Values → List Data → Type 0
AddedItems old new ds = new.fault ≡ None → AreItemsAdded old new ds

-- unless memory ran out, there was a value, and it was added, if it has no float
abbrev pub IsValueAdded : Values → Values → Result Value AllocError → Type 0
IsValueAdded old new value = new.fault ≡ None → IsOkAnd value (λ v. has_float (view v) ≡ false → AreItemsAdded old new (view v ∷ []))

-- unless memory ran out, so it hadn't at the object, which was added, if it has no float
abbrev pub IsObjectAdded : Values → Values → Object → Type 0
IsObjectAdded old new x = new.fault ≡ None → (x.fault ≡ None)
    × (members_have_float (members_so_far x) ≡ false → AreItemsAdded old new (object (members_so_far x) ∷ []))

-- the same of a list
abbrev pub IsListAdded : Values → Values → Values → Type 0
IsListAdded old new x = new.fault ≡ None → (x.fault ≡ None)
    × (items_have_float (items_of (items_so_far x)) ≡ false → AreItemsAdded old new (json_list (items_so_far x) ∷ []))

-- unless memory ran out, these are its items, and none has a float
abbrev pub HasItems : Values → List Data → Type 0
HasItems x ds = x.fault ≡ None → (items_so_far x ≡ ds) × (items_have_float (items_of (items_so_far x)) ≡ false)

-- an object as a line
abbrev pub json_line : Members → List ℕ
json_line ms = compact_text (object ms) ++ codes "\n"

-- a line was added to a text: that of an object with these members, if they have no float
pub record IsLineAdded (old new : List ℕ) (ms : Members) : Type 0 where
  pub line : List ℕ
  pub is : members_have_float ms ≡ false → line ≡ json_line ms
  pub added : new ≡ old ++ line

-- unless memory ran out, it hadn't before, and the text has this object's line more
abbrev pub IsLinePut : JsonLines → JsonLines → Object → Type 0
IsLinePut old new x = new.fault ≡ None → (old.fault ≡ None) × (x.fault ≡ None)
    × IsLineAdded (string_bytes old.text) (string_bytes new.text) (members_so_far x)

-- unless memory ran out, it hadn't before, and the text has these bytes more
abbrev pub AreLinesPut : JsonLines → JsonLines → List ℕ → Type 0
AreLinesPut old new bytes = new.fault ≡ None → (old.fault ≡ None) × (string_bytes new.text ≡ string_bytes old.text ++ bytes)

-- unless memory ran out, it hadn't before, and the text has some bytes more
abbrev pub AreMoreLinesPut : JsonLines → JsonLines → Type 0
AreMoreLinesPut old new = new.fault ≡ None → (bytes : List ℕ) × (old.fault ≡ None) × (string_bytes new.text ≡ string_bytes old.text ++ bytes)
