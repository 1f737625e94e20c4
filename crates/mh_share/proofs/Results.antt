-- What holds of results.
use Rattle.std.proofs.Common.{Result, Ok, Err}
use Rattle.std.specs.Prelude.{OnErr, OnOk}

-- what holds in any case holds where a result is a value
pub on_ok : {A E : Type 0} (r : Result A E) (P : Type 0) → P → OnOk r P
on_ok (Ok a) P h = h
on_ok (Err e) P h = tt

pub both_on_err : {A E : Type 0} (r : Result A E) (P Q : Type 0) → OnErr r P → OnErr r Q → OnErr r (P × Q)
both_on_err (Ok a) P Q p q = tt
both_on_err (Err e) P Q p q = (p, q)
