use Rattle.std.proofs.Common.{sym, drop, rules}
use Rattle.std.proofs.lemmas.Result.{err_from_is_err_and}
use Rattle.mh_eval.proofs.Extending.{then_more, no_more_after, rest_of, parts_put_in}
use Rattle.mh_eval.proofs.frames.put_inserted.Goals as goal

pub returns-in_err-put_copies : goal.returns-in_err-put_copies
returns-in_err-put_copies c =
    let p = err_from_is_err_and c.from_residual.result c.from_residual.ensures.1 in
    let old = c.args.stack.now.items in
    let one = no_more_after {B = Unit {0}} old _ _ c.args.values.now _ _ _ p.0 c.in_err-put_copies.ensures.extends in
    let two = no_more_after old _ _ (drop c.args.position (drop c.args.from old)) _ _ p.0 p.0 one in
    record { extends = rw (p.1, sym (parts_put_in old c.args.values.now c.args.from c.args.position)) two }

pub returns-in_err-put_values : goal.returns-in_err-put_values
returns-in_err-put_values c =
    let p = err_from_is_err_and c.from_residual-in_err-put_values.result c.from_residual-in_err-put_values.ensures.1 in
    let old = c.args.stack.now.items in
    let one = then_more old _ _ _ _ _ _ _ _ _ c.in_ok-put_copies.ensures.extends c.in_err-put_values.ensures.extends in
    let two = no_more_after old _ _ (drop c.args.position (drop c.args.from old)) _ _ _ p.0 one in
    record { extends = rw (p.1, sym (parts_put_in old c.args.values.now c.args.from c.args.position)) two }

pub returns-in_err-put_copies-2 : goal.returns-in_err-put_copies-2
returns-in_err-put_copies-2 c =
    let p = err_from_is_err_and c.from_residual-in_err-put_copies-2.result c.from_residual-in_err-put_copies-2.ensures.1 in
    let old = c.args.stack.now.items in
    let one = then_more old _ _ _ _ _ _ _ _ _ c.in_ok-put_copies.ensures.extends c.in_ok-put_values.ensures.extends in
    let rest = rest_of old _ _ c.args.from c.args.position c.len-end.result (search rules) one.value in
    let two = then_more old _ _ _ _ _ _ _ _ _ one (rw (rest) at c.in_err-put_copies-2.ensures.extends) in
    record { extends = rw (p.1, sym (parts_put_in old c.args.values.now c.args.from c.args.position)) two }

pub returns : goal.returns
returns c =
    let old = c.args.stack.now.items in
    let one = then_more old _ _ _ _ _ _ _ _ _ c.in_ok-put_copies.ensures.extends c.in_ok-put_values.ensures.extends in
    let rest = rest_of old _ _ c.args.from c.args.position c.len-end.result (search rules) one.value in
    let two = then_more old _ _ _ _ _ _ _ _ _ one (rw (rest) at c.in_ok-put_copies-2.ensures.extends) in
    record { extends = rw (sym (parts_put_in old c.args.values.now c.args.from c.args.position)) two }
