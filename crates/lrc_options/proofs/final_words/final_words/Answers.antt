use Rattle.std.proofs.Common.{◌≡◌, ◌∙◌, ◌++◌, List, ℕ, Option, Some, Bor, [], ◌∷◌, append_assoc, ap, sym, refl, subst}
use Rattle.lrc_script.specs.LineReading.{parts_behind_in_read_line, parts_of_read_line}
use Rattle.std.proofs.lemmas.Bool.{false≢true}
use Rattle.lrc_options.specs.FinalWords.{AreFinalWordsWritten, HasFinalWordAddress}
use Rattle.lrc_options.proofs.FinalWordItems.{final_word_items_fresh, final_word_items_next, final_word_items_none, final_word_items_some, final_word_item_none_written}
use Rattle.lrc_options.proofs.final_words.final_words.Goals as goal

pub loop-rest-init : goal.loop-rest-init
loop-rest-init c = ([], subst (AreFinalWordsWritten []) (sym c.new-words.ensures.items) final_word_items_none, refl)

-- what is left is the item that is read next, and what is left behind it
left_next : (l rest : Option (Bor (List ℕ))) (bytes : Bor (List ℕ)) (item : List ℕ) → l ≡ Some bytes
    → parts_of_read_line 44 bytes.now ≡ item ∷ parts_behind_in_read_line 44 rest
    → parts_behind_in_read_line 44 l ≡ item ∷ parts_behind_in_read_line 44 rest
left_next l rest bytes item is parts = ap (parts_behind_in_read_line 44) is ∙ parts

pub returns-in_default-final_word : goal.returns-in_default-final_word
returns-in_default-final_word c = λ written are.
    let item = c.split_script_line_at.result.0.now in
    let left = parts_behind_in_read_line 44 c.split_script_line_at.result.1 in
    let before = c.loop-rest.invariant.0 in
    let next = left_next c.loop-rest.rest c.split_script_line_at.result.1 c.in-Some.bytes item c.in-Some.is c.split_script_line_at.ensures.parts in
    let whole : before ++ item ∷ left ≡ parts_of_read_line 44 c.args.text.now =
    ap (λ l. before ++ l) (sym next) ∙ c.loop-rest.invariant.2 ∙ ap (parts_of_read_line 44) c.as_bytes.ensures.value in
    final_word_items_some before item left (parts_of_read_line 44 c.args.text.now) whole written are
    (sym c.final_word.ensures ∙ final_word_item_none_written c.final_word.result c.in_default-final_word.not-Some)

pub returns-then-final_words_have_address : goal.returns-then-final_words_have_address
returns-then-final_words_have_address c = λ written are.
    let item = c.split_script_line_at.result.0.now in
    let left = parts_behind_in_read_line 44 c.split_script_line_at.result.1 in
    let before = c.loop-rest.invariant.0 in
    let next = left_next c.loop-rest.rest c.split_script_line_at.result.1 c.in-Some.bytes item c.in-Some.is c.split_script_line_at.ensures.parts in
    let whole : before ++ item ∷ left ≡ parts_of_read_line 44 c.args.text.now =
    ap (λ l. before ++ l) (sym next) ∙ c.loop-rest.invariant.2 ∙ ap (parts_of_read_line 44) c.as_bytes.ensures.value in
    let w : ℕ × ℕ = (c.in-Some-final_word.address, c.in-Some-final_word.word) in
    final_word_items_fresh before item left (parts_of_read_line 44 c.args.text.now) whole written are c.loop-rest.words.items w
    c.loop-rest.invariant.1 (sym c.final_word.ensures ∙ c.in-Some-final_word.is)
    (subst (λ words. HasFinalWordAddress words w.0) c.deref.ensures.value (c.final_words_have_address.ensures.0 c.if-final_words_have_address.true))

pub loop-rest-preserved : goal.loop-rest-preserved
loop-rest-preserved c =
    let item = c.split_script_line_at.result.0.now in
    let left = parts_behind_in_read_line 44 c.split_script_line_at.result.1 in
    let before = c.loop-rest.invariant.0 in
    let next = left_next c.loop-rest.rest c.split_script_line_at.result.1 c.in-Some.bytes item c.in-Some.is c.split_script_line_at.ensures.parts in
    let w : ℕ × ℕ = (c.in-Some-final_word.address, c.in-Some-final_word.word) in
    let written = final_word_items_next before c.loop-rest.words.items item w (sym c.final_word.ensures ∙ c.in-Some-final_word.is)
    (λ has. false≢true (sym c.if-final_words_have_address.false
    ∙ c.final_words_have_address.ensures.1 (subst (λ words. HasFinalWordAddress words w.0) (sym c.deref.ensures.value) has)))
    c.loop-rest.invariant.1 in (
      before ++ item ∷ [],
      subst (AreFinalWordsWritten (before ++ item ∷ [])) (sym c.in_ok-push.ensures.items) written,
      append_assoc before (item ∷ []) left ∙ ap (λ l. before ++ l) (sym next) ∙ c.loop-rest.invariant.2,
    )
