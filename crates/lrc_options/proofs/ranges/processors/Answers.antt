use Rattle.std.proofs.Common.{◌≡◌, ◌∙◌, ◌++◌, inr, List, ℕ, Option, Some, Bor, [], ◌∷◌, append_assoc, ap, sym, refl, subst}
use Rattle.base.specs.InOrderOnce.{Has}
use Rattle.base.proofs.JoinedLists.{joined_list_has-append}
use Rattle.lrc_script.specs.LineReading.{parts_behind_in_read_line, parts_of_read_line}
use Rattle.lrc_options.proofs.WrittenProcessors.{written_processors_next, written_processors_none, written_processors_not}
use Rattle.lrc_options.proofs.ranges.processors.Goals as goal

pub loop-rest-init : goal.loop-rest-init
loop-rest-init c = ([], written_processors_none c.args.limit, refl)

-- what is left is the word that is read next, and what is left behind it
left_next : (l rest : Option (Bor (List ℕ))) (bytes : Bor (List ℕ)) (word : List ℕ) → l ≡ Some bytes
    → parts_of_read_line 44 bytes.now ≡ word ∷ parts_behind_in_read_line 44 rest
    → parts_behind_in_read_line 44 l ≡ word ∷ parts_behind_in_read_line 44 rest
left_next l rest bytes word is parts = ap (parts_behind_in_read_line 44) is ∙ parts

pub loop-rest-preserved : goal.loop-rest-preserved
loop-rest-preserved c =
    let word = c.split_script_line_at.result.0.now in
    let left = parts_behind_in_read_line 44 c.split_script_line_at.result.1 in
    let before = c.loop-rest.invariant.0 in
    let next = left_next c.loop-rest.rest c.split_script_line_at.result.1 c.in-Some.bytes word c.in-Some.is c.split_script_line_at.ensures.parts in (
      before ++ word ∷ [],
      written_processors_next c.args.limit before c.loop-rest.marks word c.in_ok-marks.field-0 c.requires c.in_ok-marks.ensures.0 c.in_ok-marks.ensures.1
          c.loop-rest.invariant.1,
      append_assoc before (word ∷ []) left ∙ ap (λ l. before ++ l) (sym next) ∙ c.loop-rest.invariant.2,
    )

pub returns-in_err-marks : goal.returns-in_err-marks
returns-in_err-marks c =
    let word = c.split_script_line_at.result.0.now in
    let left = parts_behind_in_read_line 44 c.split_script_line_at.result.1 in
    let before = c.loop-rest.invariant.0 in
    let next = left_next c.loop-rest.rest c.split_script_line_at.result.1 c.in-Some.bytes word c.in-Some.is c.split_script_line_at.ensures.parts in
    let whole : before ++ word ∷ left ≡ parts_of_read_line 44 c.args.text.now =
    ap (λ l. before ++ l) (sym next) ∙ c.loop-rest.invariant.2 ∙ ap (parts_of_read_line 44) c.as_bytes.ensures.value in
    rw c.from_residual.ensures (λ marks written.
    written_processors_not c.args.limit (parts_of_read_line 44 c.args.text.now) marks word
    (subst (λ (words : List (List ℕ)). Has words word) whole ((joined_list_has-append before (word ∷ left) word).1 (inr (0, refl))))
    c.in_err-marks.ensures written)
