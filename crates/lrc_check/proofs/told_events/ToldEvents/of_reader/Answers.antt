use Rattle.lrc_check.specs.declared.told_events.ToldEvents.{ToldEvents}
use Rattle.lrc_check.proofs.ReadLabels.{read_label_told}
use Rattle.lrc_check.proofs.told_events.ToldEvents.of_reader.Goals as goal

pub returns-clause-label : goal.returns-clause-label
returns-clause-label c = λ bytes front told h.
    let t : ToldEvents = record {
      gone = c.gone.result;
      headed = c.is_headed.result;
      events = c.events.result;
      labels = c.labels.result;
      before = c.args.before;
    } in
    read_label_told t c.args.reader.now bytes front told c.gone.ensures c.is_headed.ensures c.labels.ensures h
