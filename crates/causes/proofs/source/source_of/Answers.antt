use Rattle.causes.proofs.CauseSources.{cause_source_origin_found, cause_source_origin_others}
use Rattle.causes.proofs.source.source_of.Goals as goal

pub returns-in-Some : goal.returns-in-Some
returns-in-Some c = record {
  source = λ k a are.
      (cause_source_origin_found c.args.events.now k a c.args.value c.in-Some.store c.args.origin c.args.places.now are c.in-Some.ensures).0;
  origin = λ k a are.
      (cause_source_origin_found c.args.events.now k a c.args.value c.in-Some.store c.args.origin c.args.places.now are c.in-Some.ensures).1;
}

pub returns-in-None : goal.returns-in-None
returns-in-None c = record {
  source = c.first_source.ensures;
  origin = λ k a are.
      cause_source_origin_others c.args.events.now k a c.args.value c.args.origin c.args.places.now c.first_source.result are
      c.in-None.ensures;
}
