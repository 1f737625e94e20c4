-- The two ends of a row of a flow.
use Rattle.std.specs.Prelude.{ℕ}
use Rattle.mh_network.specs.Selection.{Row}
use Rattle.mh_cert.specs.declared.bounds.End.{End}
use Rattle.mh_cert.specs.declared.bounds.End.TheVariants.{Link, Point}

abbrev pub end_of : End → Row → ℕ
end_of Link r = r.0
end_of Point r = r.1
