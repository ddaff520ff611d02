-- Objects that are put as lines.
use Rattle.std.proofs.Common.{◌≡◌, ℕ, zero, suc, ◌+◌, List, [], ◌∷◌, ◌++◌, None, Some, Ok, Err, IfOk, Result, ◌∙◌, ap, append_assoc, append-nil, arith, slice_get, subst, sym, take}
use Rattle.std.proofs.lemmas.Option.{none-some, same_Some}
use Rattle.std.specs.List.{flat_map}
use Rattle.std.specs.Prelude.{IsOkAnd}
use Rattle.std.specs.String.{string_bytes}
use Rattle.std.specs.declared.alloc.AllocError.{AllocError}
use Rattle.serde_json.specs.Data.{Members}
use Rattle.lrc_json.specs.PutTogether.{HasMembers, IsLinePut, json_line}
use Rattle.lrc_json.specs.declared.members.Members.{Members as Object}
use Rattle.lrc_json.specs.declared.output.JsonLines.{JsonLines}

-- an object that has these members was put as a line
pub line_put : (old new : JsonLines) (x : Object) (ms : Members) → HasMembers x ms → IsLinePut old new x → new.fault ≡ None
    → (old.fault ≡ None) × (string_bytes new.text ≡ string_bytes old.text ++ json_line ms)
line_put old new x ms has is_put is =
    let was = is_put is in
    let are = has was.1 in
    let line = was.2.is are.1 ∙ ap json_line are.0 in
    (was.0, was.2.added ∙ ap (λ bytes. string_bytes old.text ++ bytes) line)

-- so was one for which there was memory
pub made_line_put : (old new : JsonLines) (made : Result Object AllocError) (ms : Members) → IfOk made (λ x. HasMembers x ms)
    → (new.fault ≡ None → IsOkAnd made (IsLinePut old new)) → new.fault ≡ None
    → (old.fault ≡ None) × (string_bytes new.text ≡ string_bytes old.text ++ json_line ms)
made_line_put old new (Ok x) ms has is_put is = line_put old new x ms has (is_put is) is
made_line_put old new (Err error) ms has is_put is = absurd (is_put is)

-- one item more of which the texts stand after each other
flat_map_taken : {A : Type 0} (f : A → List ℕ) (xs : List A) (k : ℕ) (x : A) → slice_get xs k ≡ Some x
    → flat_map f (take (suc k) xs) ≡ flat_map f (take k xs) ++ f x
flat_map_taken f [] k x at = absurd (none-some x at)
flat_map_taken f (y ∷ xs) zero x at = append-nil (f y) ∙ ap f (same_Some y x at)
flat_map_taken f (y ∷ xs) (suc k) x at = rw (flat_map_taken f xs k x at) (sym (append_assoc (f y) (flat_map f (take k xs)) (f x)))

pub flat_map_taken_next : {A : Type 0} (f : A → List ℕ) (xs : List A) (k : ℕ) (x : A) → slice_get xs k ≡ Some x
    → flat_map f (take (k + 1) xs) ≡ flat_map f (take k xs) ++ f x
flat_map_taken_next f xs k x at =
    let next : suc k ≡ k + 1 = omega arith in
    subst (λ n. flat_map f (take n xs) ≡ flat_map f (take k xs) ++ f x) next (flat_map_taken f xs k x at)
