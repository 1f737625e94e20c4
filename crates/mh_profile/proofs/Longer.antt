-- Inputs that are longer than what was read of them.
use Rattle.std.proofs.Common.{◌≡◌, ◌<◌, ℕ, List, length, length-append, Option, Some, None, IfSome, ap, arith}
use Rattle.std.specs.Io.KnownBytes.{Consumes}

-- an input is as long as a beginning of it, or longer
pub longer_front : (old new : Option (List ℕ)) (front : List ℕ) (most : ℕ) → Consumes old new front → most < length front → IfSome old (λ bytes. most < length bytes)
longer_front None new front most taken long = tt
longer_front (Some xs) None front most taken long = absurd taken
longer_front (Some xs) (Some ys) front most taken long =
    let whole = ap length taken in
    let sum = length-append front ys in
    omega (arith, whole, sum, long)
