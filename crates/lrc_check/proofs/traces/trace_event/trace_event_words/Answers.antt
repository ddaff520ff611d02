use Rattle.std.proofs.Common.{◌≡◌, List, ◌∷◌, ℕ, sym, ap, ◌∙◌, arith}
use Rattle.lrc_script.specs.LineReading.{parts_of_read_line}
use Rattle.lrc_check.proofs.traces.Shapes.{trace_shape_four_words, shaped_from, no_shape_by_words, no_shape_if_short, no_shape_by_name, no_shape_by_count, trace_shape_words_same}
use Rattle.lrc_check.proofs.traces.trace_event.trace_event_words.Goals as goal

-- the first words, and what is left
three : (line : List ℕ) (w a : List ℕ) (l m n : List (List ℕ)) → parts_of_read_line 32 line ≡ w ∷ l → l ≡ a ∷ m → m ≡ n
    → parts_of_read_line 32 line ≡ w ∷ a ∷ n
three line w a l m n first second third =
    first ∙ ap (λ (t : List (List ℕ)). w ∷ t) second ∙ ap (λ (t : List (List ℕ)). w ∷ a ∷ t) third

pub returns-then-not-is_script_line_separated : goal.returns-then-not-is_script_line_separated
returns-then-not-is_script_line_separated c =
    no_shape_by_words c.args.line.now (sym c.is_script_line_separated.ensures ∙ c.if-not-is_script_line_separated.true)

pub returns-in_err-place : goal.returns-in_err-place
returns-in_err-place c =
    rw c.from_residual.ensures
    (no_shape_if_short c.args.line.now _
    (c.split_script_line_at.ensures.parts ∙ ap (λ (t : List (List ℕ)). c.split_script_line_at.result.0.now ∷ t)
    c.in_err-place.ensures)
    (omega arith))

pub returns-in_err-processor : goal.returns-in_err-processor
returns-in_err-processor c =
    rw c.from_residual-in_err-processor.ensures
    (no_shape_if_short c.args.line.now _
    (three c.args.line.now _ _ _ _ _ c.split_script_line_at.ensures.parts c.in_ok-place.ensures c.in_err-processor.ensures)
    (omega arith))

pub returns-in_err-word : goal.returns-in_err-word
returns-in_err-word c =
    rw c.from_residual-in_err-word.ensures
    (no_shape_if_short c.args.line.now _
    (three c.args.line.now _ _ _ _ _ c.split_script_line_at.ensures.parts c.in_ok-place.ensures
    (c.in_ok-processor.ensures ∙ ap (λ (t : List (List ℕ)). c.in_ok-processor.processor.now ∷ t)
    c.in_err-word.ensures))
    (omega arith))

pub returns-in_err-name : goal.returns-in_err-name
returns-in_err-name c =
    rw c.from_residual-in_err-name.ensures
    (no_shape_by_name c.args.line.now _ _ _ c.in_ok-word.word.now _
    (trace_shape_four_words c.args.line.now _ _ _ _ _ _ _ _ c.split_script_line_at.ensures.parts c.in_ok-place.ensures
    c.in_ok-processor.ensures c.in_ok-word.ensures)
    (sym c.of.ensures ∙ c.in_err-name.was))

pub returns-then-number_count-numbers : goal.returns-then-number_count-numbers
returns-then-number_count-numbers c =
    no_shape_by_count c.args.line.now _ _ _ c.in_ok-word.word.now c.in_ok-name.name _
    (trace_shape_four_words c.args.line.now _ _ _ _ _ _ _ _ c.split_script_line_at.ensures.parts c.in_ok-place.ensures
    c.in_ok-processor.ensures c.in_ok-word.ensures)
    (sym c.of.ensures ∙ c.in_ok-name.was)
    (λ same. c.if-number_count-numbers.true (c.number_count.ensures ∙ same ∙ sym c.numbers.ensures))

pub returns : goal.returns
returns c =
    shaped_from c.args.line.now _ _ _ c.in_ok-word.word.now c.in_ok-name.name _
    (trace_shape_four_words c.args.line.now _ _ _ _ _ _ _ _ c.split_script_line_at.ensures.parts c.in_ok-place.ensures
    c.in_ok-processor.ensures c.in_ok-word.ensures)
    (sym c.is_script_line_separated.ensures ∙ c.if-not-is_script_line_separated.false)
    (trace_shape_words_same _ _ _ _ c.ne.ensures c.if-ne.false c.as_slice.ensures) (sym c.of.ensures ∙ c.in_ok-name.was)
    (sym c.number_count.ensures ∙ c.if-number_count-numbers.false ∙ c.numbers.ensures)
