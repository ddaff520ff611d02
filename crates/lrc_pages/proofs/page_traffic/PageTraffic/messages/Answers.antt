use Rattle.std.proofs.Common.{arith}
use Rattle.lrc_pages.proofs.PageMessages.{page_messages_all}
use Rattle.lrc_pages.proofs.page_traffic.PageTraffic.messages.Goals as goal

pub overflow_add-result : goal.overflow_add-result
overflow_add-result c = let few = c.requires.3.messages in let long = c.requires.1 in omega arith

pub overflow_add-result-2 : goal.overflow_add-result-2
overflow_add-result-2 c = let few = c.requires.3.messages in let long = c.requires.1 in omega arith

pub overflow_add-result-3 : goal.overflow_add-result-3
overflow_add-result-3 c = let few = c.requires.3.messages in let long = c.requires.1 in omega arith

pub returns : goal.returns
returns c = λ h is.
    let all = page_messages_all h in
    let a = is.locks in
    let b = is.flags in
    let d = is.barriers in
    let e = is.answers in
    omega arith
