use Rattle.std.proofs.Common.{inl, inr, IsTrue, ap, sym, subst, rules}
use Rattle.std.proofs.lemmas.Result.{on_ok_weaker}
use Rattle.explore.specs.declared.text.unranked_locks.TextAsk.{TextAsk}
use Rattle.explore.specs.WalkedWords.{walked_row_holds}
use Rattle.explore.proofs.text.unranked_locks.note_text_ask_holding.Goals as goal

pub returns : goal.returns
returns c =
    let held : IsTrue (walked_row_holds c.args.at.now c.args.held) = search rules in
    on_ok_weaker c.note_text_ask.result
    (λ only x has. elim (only x has) [
      | inl before ↦ inl before
      | inr is ↦ inr (
        ap (λ (a : TextAsk). a.processor) is,
        ap (λ (a : TextAsk). a.place) is,
        ap (λ (a : TextAsk). a.asked) is,
        subst (λ l. IsTrue (walked_row_holds c.args.at.now l)) (sym (ap (λ (a : TextAsk). a.held) is)) held,
      )
    ])
    c.note_text_ask.ensures
