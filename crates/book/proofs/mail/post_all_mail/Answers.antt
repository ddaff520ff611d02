use Rattle.std.proofs.Common.{Option, map, ◌++◌, ◌∷◌, [], ap, ◌∙◌, sym}
use Rattle.std.proofs.lemmas.List.{map-append, length-map}
use Rattle.std.specs.Option.{option_to_list}
use Rattle.transit.specs.Letters.{letter}
use Rattle.transit.specs.declared.message.Message.{Message}
use Rattle.book.proofs.Calling.Posting.{PostsOne, posting_step}
use Rattle.book.proofs.mail.post_all_mail.Goals as goal

pub loop-message-preserved : goal.loop-message-preserved
loop-message-preserved c =
    let popped = c.pop.ensures.items
    ∙ ap (λ (o : Option Message). c.pop.new.self.items ++ option_to_list o) c.in-Some.is in
    let split = ap (λ ms. map letter ms) popped ∙ map-append letter c.pop.new.self.items (c.in-Some.message ∷ []) in
    let step : PostsOne (map letter c.args.messages.items) (map letter c.pop.new.self.items) c.post.new.self = record {
      left = map letter c.loop-message.messages.items;
      old = c.loop-message.transit;
      m = letter c.in-Some.message;
      n = c.len.result;
      is = c.loop-message.invariant;
      split = split;
      at = c.len.ensures ∙ c.pop.new.self.ok.0 ∙ sym (length-map c.pop.new.self.items letter);
      set = c.post.ensures;
    } in
    posting_step step
