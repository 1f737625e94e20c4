use Rattle.std.proofs.Common.{◌+◌, sym, drop, rules}
use Rattle.std.proofs.lemmas.Result.{err_from_is_err_and}
use Rattle.mh_eval.proofs.Extending.{then_more, no_more_after, rest_of, parts_taken_out}
use Rattle.mh_eval.proofs.frames.put_taken_out.Goals as goal

pub returns-in_err-put_copies : goal.returns-in_err-put_copies
returns-in_err-put_copies c =
    let p = err_from_is_err_and c.from_residual.result c.from_residual.ensures.1 in
    let old = c.args.stack.now.items in
    let one = no_more_after old _ _ (drop (c.args.position + c.args.count) (drop c.args.from old)) _ _ _ p.0 c.in_err-put_copies.ensures.extends in
    record { extends = rw (p.1, sym (parts_taken_out old c.args.from c.args.position c.args.count)) one }

pub returns-in_err-put_copies-2 : goal.returns-in_err-put_copies-2
returns-in_err-put_copies-2 c =
    let p = err_from_is_err_and c.from_residual-in_err-put_copies-2.result c.from_residual-in_err-put_copies-2.ensures.1 in
    let old = c.args.stack.now.items in
    let rest = rest_of old _ _ c.args.from (c.args.position + c.args.count) c.len-end.result (search rules) c.in_ok-put_copies.ensures.extends.value in
    let one = then_more old _ _ _ _ _ _ _ _ _ c.in_ok-put_copies.ensures.extends (rw (rest) at c.in_err-put_copies-2.ensures.extends) in
    record { extends = rw (p.1, sym (parts_taken_out old c.args.from c.args.position c.args.count)) one }

pub returns : goal.returns
returns c =
    let old = c.args.stack.now.items in
    let rest = rest_of old _ _ c.args.from (c.args.position + c.args.count) c.len-end.result (search rules) c.in_ok-put_copies.ensures.extends.value in
    let one = then_more old _ _ _ _ _ _ _ _ _ c.in_ok-put_copies.ensures.extends (rw (rest) at c.in_ok-put_copies-2.ensures.extends) in
    record { extends = rw (sym (parts_taken_out old c.args.from c.args.position c.args.count)) one }
