-- Numbers of hits if there are more links.
use Rattle.std.proofs.Common.{◌≡◌, ℕ, zero, suc, ◌+◌, List, [], ◌∷◌, length, replicate, refl, arith}
use Rattle.std.proofs.lemmas.List.{length-append, length-replicate}
use Rattle.mh_ledger.specs.Ledgers.{at}
use Rattle.mh_ledger.specs.Extensions.{longer}
use Rattle.mh_ledger.specs.Laws.Added.{at-zeros}

pub length-longer : (more : ℕ) (xs : List ℕ) → length (longer more xs) ≡ length xs + more
length-longer more xs =
    let zeros : List ℕ = replicate more 0 in
    let none : length zeros ≡ more = length-replicate more _ in
    omega (arith, length-append xs zeros, none)

pub at-longer : (more : ℕ) (xs : List ℕ) (j : ℕ) → at (longer more xs) j ≡ at xs j
at-longer more [] j = at-zeros more j
at-longer more (x ∷ xs) zero = refl
at-longer more (x ∷ xs) (suc j) = at-longer more xs j
