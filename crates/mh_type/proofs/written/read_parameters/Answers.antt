use Rattle.std.proofs.Common.{◌&&◌, Bool, sym, ap, ◌∙◌, lit<, arith}
use Rattle.std.proofs.lemmas.Iterator.Consumers.{YieldsList-turn, YieldsList-end}
use Rattle.std.proofs.lemmas.Iterator.Splits.{YieldsList-from_str_split}
use Rattle.std.proofs.lemmas.List.{length_push}
use Rattle.mh_type.proofs.Reading.{read_more, read_stops, answers_none, answers_fit, answers_many, some_bytes}
use Rattle.mh_type.proofs.written.read_parameters.Goals as goal

pub returns-in_default : goal.returns-in_default
returns-in_default c =
    let turn = YieldsList-turn (YieldsList-from_str_split 44 c.args.list.now (lit< tt) (cc) (cc) (cc)) c.loop-name.yielded _ c.loop-name.yielded_by _ _ c.in-Some.name c.in-Some.is c.next.ensures.steps in
    record {
      value = answers_none _ _ (some_bytes _ _ c.is_empty.ensures c.if-is_empty.false)
          (read_stops _ _ _ _ _ c.in-Some.name.now c.loop-name.invariant turn (sym c.from_name.ensures.value ∙ c.in_default.is));
    }

pub loop-name-preserved : goal.loop-name-preserved
loop-name-preserved c =
    let turn = YieldsList-turn (YieldsList-from_str_split 44 c.args.list.now (lit< tt) (cc) (cc) (cc)) c.loop-name.yielded _ c.loop-name.yielded_by _ _ c.in-Some.name c.in-Some.is c.next.ensures.steps in
    rw (length_push c.loop-name.yielded c.in-Some.name)
    (read_more _ _ _ _ _ c.in-Some.name.now c.in-Some-from_name.kind _ _ c.loop-name.invariant turn (sym c.from_name.ensures.value ∙ c.in-Some-from_name.is)
    c.put_last-fits.ensures.value (ap (λ (b : Bool). c.loop-name.fits && b) c.put_last-fits.ensures.room))

pub returns-then-fits : goal.returns-then-fits
returns-then-fits c =
    let done = YieldsList-end (YieldsList-from_str_split 44 c.args.list.now (lit< tt) (cc) (cc) (cc)) c.loop-name.yielded _ c.loop-name.yielded_by _ _ c.in-None.is c.next.ensures.steps in
    record { value = answers_fit _ _ _ _ _ c.loop-name.invariant (omega (arith, done.1)) (some_bytes _ _ c.is_empty.ensures c.if-is_empty.false) c.if-fits.true }

pub returns : goal.returns
returns c =
    let done = YieldsList-end (YieldsList-from_str_split 44 c.args.list.now (lit< tt) (cc) (cc) (cc)) c.loop-name.yielded _ c.loop-name.yielded_by _ _ c.in-None.is c.next.ensures.steps in
    record { value = answers_many _ _ _ _ _ c.loop-name.invariant (omega (arith, done.1)) (some_bytes _ _ c.is_empty.ensures c.if-is_empty.false) c.if-fits.false }
