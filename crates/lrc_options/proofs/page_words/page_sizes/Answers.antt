use Rattle.std.proofs.Common.{◌≡◌, ◌∙◌, ◌++◌, List, ℕ, Option, Some, Bor, [], ◌∷◌, append_assoc, ap, sym, refl, subst}
use Rattle.lrc_script.specs.LineReading.{parts_behind_in_read_line, parts_of_read_line}
use Rattle.lrc_options.specs.PageWords.{ArePageWordsRead}
use Rattle.lrc_options.proofs.PageWordItems.{page_word_item_none, page_word_items_next, page_word_items_none, page_word_items_some}
use Rattle.lrc_options.proofs.page_words.page_sizes.Goals as goal

pub loop-rest-init : goal.loop-rest-init
loop-rest-init c = ([], subst (ArePageWordsRead []) (sym c.new-sizes.ensures.items) page_word_items_none, refl)

-- what is left is the item that is read next, and what is left behind it
left_next : (l rest : Option (Bor (List ℕ))) (bytes : Bor (List ℕ)) (item : List ℕ) → l ≡ Some bytes
    → parts_of_read_line 44 bytes.now ≡ item ∷ parts_behind_in_read_line 44 rest
    → parts_behind_in_read_line 44 l ≡ item ∷ parts_behind_in_read_line 44 rest
left_next l rest bytes item is parts = ap (parts_behind_in_read_line 44) is ∙ parts

pub returns-in_default-page_words : goal.returns-in_default-page_words
returns-in_default-page_words c = λ written are.
    let item = c.split_script_line_at.result.0.now in
    let left = parts_behind_in_read_line 44 c.split_script_line_at.result.1 in
    let before = c.loop-rest.invariant.0 in
    let next = left_next c.loop-rest.rest c.split_script_line_at.result.1 c.in-Some.bytes item c.in-Some.is c.split_script_line_at.ensures.parts in
    let whole : before ++ item ∷ left ≡ parts_of_read_line 44 c.args.text.now =
    ap (λ l. before ++ l) (sym next) ∙ c.loop-rest.invariant.2 ∙ ap (parts_of_read_line 44) c.as_bytes.ensures.value in
    page_word_items_some before item left (parts_of_read_line 44 c.args.text.now) written whole are.read
    (sym c.page_words.ensures ∙ page_word_item_none c.page_words.result c.in_default-page_words.not-Some)

pub loop-rest-preserved : goal.loop-rest-preserved
loop-rest-preserved c =
    let item = c.split_script_line_at.result.0.now in
    let left = parts_behind_in_read_line 44 c.split_script_line_at.result.1 in
    let before = c.loop-rest.invariant.0 in
    let next = left_next c.loop-rest.rest c.split_script_line_at.result.1 c.in-Some.bytes item c.in-Some.is c.split_script_line_at.ensures.parts in
    let written = page_word_items_next before c.loop-rest.sizes.items item c.in-Some-page_words.words (sym c.page_words.ensures ∙ c.in-Some-page_words.is)
    c.loop-rest.invariant.1 in (
      before ++ item ∷ [],
      subst (ArePageWordsRead (before ++ item ∷ [])) (sym c.in_ok-push.ensures.items) written,
      append_assoc before (item ∷ []) left ∙ ap (λ l. before ++ l) (sym next) ∙ c.loop-rest.invariant.2,
    )
