-- Items of a schedule's text.
use Rattle.std.proofs.Common.{ℕ, ◌≡◌, ◌+◌, ◌++◌, Some, None, List, [], ◌∷◌, replicate, ap, append_assoc, ◌∙◌}
use Rattle.std.proofs.lemmas.List.{replicate-append-replicate}
use Rattle.std.specs.Option.{option_map_or}
use Rattle.lrc_script.specs.LineReading.{parts_of_read_line}
use Rattle.conformance.specs.ScheduleTexts.{schedule_text_item_turns, schedule_text_turns_after}

-- one turn more
pub schedule_read_item_pushed : (xs ys zs : List ℕ) (count p : ℕ) → zs ≡ ys ++ p ∷ [] → ys ≡ xs ++ replicate count p
    → zs ≡ xs ++ replicate (count + 1) p
schedule_read_item_pushed xs ys zs count p more was = more ∙ ap (λ ps. ps ++ p ∷ []) was
    ∙ append_assoc xs (replicate count p) (p ∷ [])
    ∙ ap (λ ps. xs ++ ps) (replicate-append-replicate count 1 p)

-- an item more
pub schedule_read_items_next : (turns new : List ℕ) (item : List ℕ) (items : List (List ℕ)) → schedule_text_item_turns (parts_of_read_line 58 item) ≡ Some new
    → schedule_text_turns_after turns (item ∷ items) ≡ schedule_text_turns_after (turns ++ new) items
schedule_read_items_next turns new item items gives =
    ap (λ o. option_map_or (λ ts. schedule_text_turns_after (turns ++ ts) items) o None) gives
