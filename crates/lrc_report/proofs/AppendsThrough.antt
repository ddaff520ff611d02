-- Texts and beginnings of texts, one after another.
use Rattle.std.proofs.Common.{◌≡◌, ◌∙◌, ◌-◌, ◌+◌, ℕ, suc, List, [], ◌∷◌, ◌++◌, add-one, length, take, drop, refl, sym, ap, append_assoc, append-nil, take-append-drop}
use Rattle.std.specs.Prelude.{Option, None, Some, slice_get}
use Rattle.std.proofs.lemmas.List.{take_rest}
use Rattle.std.specs.List.{flat_map}
use Rattle.std.proofs.lemmas.Grind.{flat_map-append}
use Rattle.base.proofs.SlicesAndCounts.{slice_take-suc_at}
use Rattle.std.specs.Io.KnownBytes.{Appends, Keeps}
use Rattle.std.proofs.KnownBytes.{Appends-nil, Appends-trans}
use Rattle.lrc_report.specs.WritesThrough.{WritesThroughFront, PassesThrough}

-- what was appended so far, of a text of which this is left
abbrev pub AppendsThroughSoFar : Option (List ℕ) → Option (List ℕ) → List ℕ → List ℕ → Type 0
AppendsThroughSoFar old new text rest = (done : List ℕ) × (text ≡ done ++ rest) × Appends old new done

-- n bytes more
pub appends_through_more : (old mid new : Option (List ℕ)) (text rest : List ℕ) (n : ℕ) → AppendsThroughSoFar old mid text rest
    → Appends mid new (take n rest) → AppendsThroughSoFar old new text (take (length rest - n) (drop n rest))
appends_through_more old mid new text rest n u more = (
  u.0 ++ take n rest,
  u.1 ∙ ap (λ l. u.0 ++ l) (sym (take-append-drop n rest))
      ∙ sym (append_assoc u.0 (take n rest) (drop n rest))
      ∙ ap (λ l. (u.0 ++ take n rest) ++ l) (sym (take_rest rest n)),
  Appends-trans old mid new u.0 (take n rest) u.2 more,
)

-- a text, and a beginning of the next
pub appends_through_front_then : (old mid new : Option (List ℕ)) (xs ys : List ℕ) → Appends old mid xs → WritesThroughFront mid new ys
    → WritesThroughFront old new (xs ++ ys)
appends_through_front_then old mid new xs ys first second = (
  xs ++ second.0,
  second.1,
  ap (λ l. xs ++ l) second.2 ∙ sym (append_assoc xs second.0 second.1),
  Appends-trans old mid new xs second.0 first second.3,
)

-- a beginning of a text is one of a longer text
pub appends_through_front_longer : (old new : Option (List ℕ)) (xs ys : List ℕ) → WritesThroughFront old new xs
    → WritesThroughFront old new (xs ++ ys)
appends_through_front_longer old new xs ys front = (
  front.0,
  front.1 ++ ys,
  ap (λ l. l ++ ys) front.2 ∙ append_assoc front.0 front.1 ys,
  front.3,
)

-- what was pending was written, and then a text
pub appends_through_written : (old mid new : Option (List ℕ)) (before after text : List ℕ) → after ≡ []
    → Appends old mid before → Appends mid new text → PassesThrough old new before after text
appends_through_written old mid new before after text none first second =
    record {
      done = before ++ text;
      whole = rw none (sym (append-nil (before ++ text)));
      appends =
          Appends-trans old mid new before text first second;
    }

-- a text, and then another
pub appends_through_then : {a b c : Option (List ℕ)} {k l m xs ys : List ℕ} → PassesThrough a b k l xs → PassesThrough b c l m ys
    → PassesThrough a c k m (xs ++ ys)
appends_through_then {a = a} {b = b} {c = c} {k = k} {l = l} {m = m} {xs = xs} {ys = ys} first second = record {
  done = first.done ++ second.done;
  whole = sym (append_assoc k xs ys) ∙ ap (λ t. t ++ ys) first.whole ∙ append_assoc first.done l ys
      ∙ ap (λ t. first.done ++ t) second.whole ∙ sym (append_assoc first.done second.done m);
  appends = Appends-trans a b c first.done second.done first.appends second.appends;
}

-- a text, and then a beginning of another
pub appends_through_front : (a b c : Option (List ℕ)) (k l xs ys : List ℕ) → PassesThrough a b k l xs → WritesThroughFront b c (l ++ ys)
    → WritesThroughFront a c (k ++ (xs ++ ys))
appends_through_front a b c k l xs ys first second = (
  first.done ++ second.0,
  second.1,
  sym (append_assoc k xs ys) ∙ ap (λ t. t ++ ys) first.whole ∙ append_assoc first.done l ys
      ∙ ap (λ t. first.done ++ t) second.2 ∙ sym (append_assoc first.done second.0 second.1),
  Appends-trans a b c first.done second.0 first.appends second.3,
)

-- a beginning of a text is one of a longer text
pub appends_through_pending_longer : (a b : Option (List ℕ)) (k xs ys : List ℕ) → WritesThroughFront a b (k ++ xs)
    → WritesThroughFront a b (k ++ (xs ++ ys))
appends_through_pending_longer a b k xs ys front = rw (← append_assoc k xs ys) (appends_through_front_longer a b (k ++ xs) ys front)

-- a list's text, item by item: one more
pub appends_through_items_next : {A : Type 0} (f : A → List ℕ) (xs : List A) (i : ℕ) {x : A} {a b c : Option (List ℕ)} {k l m : List ℕ} → slice_get xs i ≡ Some x
    → PassesThrough a b k l (flat_map f (take i xs)) → PassesThrough b c l m (f x) → PassesThrough a c k m (flat_map f (take (i + 1) xs))
appends_through_items_next f xs i {x = x} {a = a} {b = b} {c = c} {k = k} {l = l} {m = m} at before this =
    rw (add-one, slice_take-suc_at xs i x at, flat_map-append f (take i xs) (x ∷ []), append-nil (f x))
    (appends_through_then before this)

-- a list's text, from an item on
appends_through_items_from : {A : Type 0} (f : A → List ℕ) (xs : List A) (i : ℕ) (x : A) → slice_get xs i ≡ Some x
    → flat_map f xs ≡ flat_map f (take i xs) ++ (f x ++ flat_map f (drop (suc i) xs))
appends_through_items_from f xs i x at =
    ap (flat_map f) (sym (take-append-drop (suc i) xs)) ∙ flat_map-append f (take (suc i) xs) (drop (suc i) xs)
    ∙ ap (λ l. l ++ flat_map f (drop (suc i) xs))
    (ap (flat_map f) (slice_take-suc_at xs i x at) ∙ flat_map-append f (take i xs) (x ∷ [])
    ∙ ap (λ l. flat_map f (take i xs) ++ l) (append-nil (f x)))
    ∙ append_assoc (flat_map f (take i xs)) (f x) (flat_map f (drop (suc i) xs))

-- and a beginning of one more is one of the whole
pub appends_through_items_front : {A : Type 0} (f : A → List ℕ) (xs : List A) (i : ℕ) {x : A} {a b : Option (List ℕ)} (c : Option (List ℕ)) {k l : List ℕ} → slice_get xs i ≡ Some x
    → PassesThrough a b k l (flat_map f (take i xs)) → WritesThroughFront b c (l ++ f x) → WritesThroughFront a c (k ++ flat_map f xs)
appends_through_items_front f xs i {x = x} {a = a} {b = b} c {k = k} {l = l} at before this =
    rw (appends_through_items_from f xs i x at) (appends_through_front a b c k l (flat_map f (take i xs)) _ before
    (appends_through_pending_longer b c l (f x) (flat_map f (drop (suc i) xs)) this))

-- from nothing pending, a beginning of a text
pub appends_through_front_first : (a b : Option (List ℕ)) (k text : List ℕ) → k ≡ [] → WritesThroughFront a b (k ++ text)
    → WritesThroughFront a b text
appends_through_front_first a b k text none front = rw none at front

-- from nothing pending, a text of which all that is pending was written
pub appends_through_all : (a b c : Option (List ℕ)) (k l text : List ℕ) → k ≡ [] → PassesThrough a b k l text → Appends b c l
    → Appends a c text
appends_through_all a b c k l text none first last =
    let whole : text ≡ first.done ++ l = rw none at first.whole in
    rw whole (Appends-trans a b c first.done l first.appends last)

-- from nothing pending, a text of which a beginning of what is pending was written
pub appends_through_some : (a b c : Option (List ℕ)) (k l text : List ℕ) → k ≡ [] → PassesThrough a b k l text → WritesThroughFront b c l
    → WritesThroughFront a c text
appends_through_some a b c k l text none first last =
    let whole : text ≡ first.done ++ l = rw none at first.whole in
    rw whole (appends_through_front_then a b c first.done l first.appends last)

-- what was appended, after a step that keeps it
pub appends_through_kept : (old mid new : Option (List ℕ)) (text : List ℕ) → Appends old mid text → Keeps mid new
    → Appends old new text
appends_through_kept None mid new text written kept = tt
appends_through_kept (Some xs) None new text written kept = absurd written
appends_through_kept (Some xs) (Some ys) None text written kept = absurd kept
appends_through_kept (Some xs) (Some ys) (Some zs) text written kept = kept ∙ written

-- the whole text is a beginning of it
pub appends_through_front_whole : (old new : Option (List ℕ)) (text : List ℕ) → Appends old new text → WritesThroughFront old new text
appends_through_front_whole old new text written = (text, [], sym (append-nil text), written)
