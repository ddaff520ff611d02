use Rattle.std.proofs.Common.{map}
use Rattle.transit.specs.Letters.{letter}
use Rattle.book.proofs.Calling.Posting.{IsPosting}
use Rattle.book.proofs.mail.post_all_mail.Given as goal

abbrev pub invariant-loop-message : goal.invariant-loop-message
invariant-loop-message l = IsPosting (map letter l.fn.messages.items) (map letter l.messages.items) l.transit

abbrev pub decreases-loop-message : goal.decreases-loop-message
decreases-loop-message l = goal.left-loop-message l
